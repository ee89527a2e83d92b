-- What holds after every list of adds, retracts and feeds from an opening. Assumes nothing.
use Rattle.std.specs.Prelude.{◌≡◌, ℕ, ◌-◌, ◌*◌, ◌<◌, ◌≤◌, Bool, true, false, ◌||◌, List, [], ◌∷◌, pos, ◌≤ℤ◌}
use Rattle.std.specs.List.{AllByRecursion}
use Rattle.keys.specs.declared.key.Key.{Ghosts}
use Rattle.counting.specs.Rule.{same}
use Rattle.counting.specs.Book.{ceiling, bounds}
use Rattle.frames.specs.declared.head.Change.TheVariants.{Added, Retracted}
use Rattle.ledger_rules.specs.declared.Entry.{Entry}
use Rattle.ledger_rules.specs.Ledgers.{Ledger, adds, report_of}
use Rattle.ledger_rules.specs.Tallies.{Event, total, live, NeverShort, Run}

-- an entry of the list has the key x
abbrev pub listed : {K : Type 0} → (K → K → Bool) → K → List (Entry K) → Bool
listed before x [] = false
listed before x (e ∷ es) = same before e.key x || listed before x es

-- the entries rise strictly by key, so each key is there once
abbrev pub Rising : {K : Type 0} → (K → K → Bool) → List (Entry K) → Type 0
Rising before [] = Unit {0}
Rising before (e ∷ es) = AllByRecursion (λ f. before e.key f.key ≡ true) es × Rising before es

-- the bounds enclose the live count of x; the low one if x was never short
pub record Encloses {K : Type 0} (G : Ghosts K) (es : List (Event K)) (x : K) (low high : ℕ) : Type 0 where
  pub above : live G x es ≤ℤ pos high
  pub below : NeverShort G x es → pos low ≤ℤ live G x es

-- the report law: the list rises, it has every key whose live count reaches the threshold, and the bounds of each enclose
pub record ReportLaw {K : Type 0} (G : Ghosts K) (es : List (Event K)) (t : ℕ) (out : List (Entry K)) : Type 0 where
  pub rising : Rising G.before out
  pub complete : (x : K) → pos t ≤ℤ live G x es → listed G.before x out ≡ true
  pub enclosed : AllByRecursion (λ e. Encloses G es e.key e.low e.high) out

-- how far the bounds of a key may be apart, with the width and the share of the ledger
pub record Narrow {K : Type 0} (G : Ghosts K) (es : List (Event K)) (width share low high : ℕ) : Type 0 where
  pub ordered : low ≤ high
  pub by_adds : width * (high - low) ≤ total G Added es
  pub by_live : width * (1000 - share) * (high - low) ≤ 1000 * (total G Added es - total G Retracted es)

pub record Lawful {K : Type 0} (G : Ghosts K) (es : List (Event K)) (l : Ledger K) : Type 0 where
  -- the ledger's numbers are those of the tally, and retracts are within the share, so at most adds
  pub adds : adds l ≡ total G Added es
  pub retracts : l.retracts ≡ total G Retracted es
  pub share : 1000 * total G Retracted es ≤ l.share * total G Added es
  pub fewer : total G Retracted es ≤ total G Added es
  pub enclosed : (x : K) → Encloses G es x (bounds G.before l.book x).0 (bounds G.before l.book x).1
  pub narrow : (x : K) → Narrow G es l.book.width l.share (bounds G.before l.book x).0 (bounds G.before l.book x).1
  pub report : (t : ℕ) → ceiling l.book < t → ReportLaw G es t (report_of t l)

-- the law of every list of calls
abbrev pub RunsReport : {K : Type 0} → Ghosts K → Type 0
RunsReport {K} G = (es : List (Event K)) (l : Ledger K) → Run G es l → Lawful G es l
