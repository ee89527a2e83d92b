-- What holds after every list of puts and takes from an opening. Assumes nothing.
use Rattle.std.specs.Prelude.{◌≡◌, ℕ, ◌+◌, ◌*◌, ◌≤◌, Bool, true, false, List, [], ◌∷◌, length}
use Rattle.std.specs.List.{AllByRecursion}
use Rattle.counting.specs.declared.Record.{Record}
use Rattle.counting.specs.Rule.{Sorted, same, held}
use Rattle.counting.specs.Book.{Book, ceiling, bounds}
use Rattle.counting.specs.Runs.{Event, puts, takes, all_puts, NeverShort, Run}

abbrev pub ins_sum : {K : Type 0} → List (Record K) → ℕ
ins_sum [] = 0
ins_sum (r ∷ rs) = r.ins + ins_sum rs

-- the bounds of x enclose how often it was put less how often it was taken; the low one if x was never short
pub record Encloses {K : Type 0} (before : K → K → Bool) (es : List (Event K)) (x : K) (low high : ℕ) : Type 0 where
  pub above : puts before x es ≤ high + takes before x es
  pub below : NeverShort before x es → low + takes before x es ≤ puts before x es

pub record Lawful {K : Type 0} (before : K → K → Bool) (es : List (Event K)) (b : Book K) : Type 0 where
  -- keys rise strictly, and there are at most as many as places
  pub rising : Sorted before b.records
  pub fits : length b.records ≤ b.width
  -- the total is the number of accepted puts, at most the limit, and the counts in sum to it
  pub total : b.total ≡ all_puts es
  pub limit : b.total ≤ b.limit
  pub sum : ins_sum b.records ≡ b.total
  -- no count out is above its count in
  pub outs : AllByRecursion (λ r. r.outs ≤ r.ins) b.records
  -- slack ≤ ceiling ≤ count in; both are 0 while a place is empty
  pub slack : AllByRecursion (λ r. r.slack ≤ ceiling b) b.records
  pub floor : AllByRecursion (λ r. ceiling b ≤ r.ins) b.records
  pub share : b.width * ceiling b ≤ b.total
  -- how often a key was put is at most its count in if it is held, and at most the ceiling if not
  pub held_puts : (x : K) → AllByRecursion (λ r. same before r.key x ≡ true → puts before x es ≤ r.ins) b.records
  pub other_puts : (x : K) → held before x b.records ≡ false → puts before x es ≤ ceiling b
  pub bound : (x : K) → Encloses before es x (bounds before b x).0 (bounds before b x).1

-- the law of every run
abbrev pub RunsLawful : {K : Type 0} → (K → K → Bool) → Type 0
RunsLawful {K} before = (es : List (Event K)) (b : Book K) → Run before es b → Lawful before es b
