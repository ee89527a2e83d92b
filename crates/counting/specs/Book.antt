-- A book as the counting rule sees it, and what each call answers and leaves. Assumes nothing.
use Rattle.std.specs.Prelude.{◌≡◌, ℕ, ◌+◌, ◌≤◌, Bool, cond, List, [], Ok, Err, Result, ◌==◌}
use Rattle.refusals.specs.declared.Refusal.{Refusal}
use Rattle.refusals.specs.declared.Refusal.TheVariants.{Absent, Full}
use Rattle.counting.specs.declared.Record.{Record}
use Rattle.counting.specs.Rule.{put_rule, take_rule, ceiling_rule, low, high}

pub record Book (K : Type 0) : Type 0 where
  -- in key order
  pub records : List (Record K)
  pub width : ℕ
  -- how many puts it may accept
  pub limit : ℕ
  -- how many it has accepted
  pub total : ℕ

abbrev pub Answer : Type 0
Answer = Result (Unit {0}) Refusal

-- what a key that is not held may have had
abbrev pub ceiling : {K : Type 0} → Book K → ℕ
ceiling b = ceiling_rule b.width b.records

-- low and high of x
abbrev pub bounds : {K : Type 0} → (K → K → Bool) → Book K → K → ℕ × ℕ
bounds before b x = (low before b.records x, high before (ceiling b) b.records x)

abbrev pub opened : {K : Type 0} → ℕ → ℕ → Book K
opened w l = record { records = []; width = w; limit = l; total = 0 }

abbrev pub put_answer : {K : Type 0} → Book K → Answer
put_answer b = cond (b.total == b.limit) (Err Full) (Ok tt)

-- after an accepted put
abbrev pub put_done : {K : Type 0} → (K → K → Bool) → Book K → K → Book K
put_done before b x = record { records = put_rule before b.width b.records x; width = b.width; limit = b.limit; total = b.total + 1 }

abbrev pub after_put : {K : Type 0} → (K → K → Bool) → Book K → K → Book K
after_put before b x = cond (b.total == b.limit) b (put_done before b x)

abbrev pub take_answer : {K : Type 0} → (K → K → Bool) → Book K → K → Answer
take_answer before b x = cond ((bounds before b x).1 == 0) (Err Absent) (Ok tt)

-- after an accepted take
abbrev pub take_done : {K : Type 0} → (K → K → Bool) → Book K → K → Book K
take_done before b x = record { records = take_rule before b.records x; width = b.width; limit = b.limit; total = b.total }

abbrev pub after_take : {K : Type 0} → (K → K → Bool) → Book K → K → Book K
after_take before b x = cond ((bounds before b x).1 == 0) b (take_done before b x)

-- a put of x was answered by a, and left c of b
pub record Put {K : Type 0} (before : K → K → Bool) (b : Book K) (x : K) (a : Answer) (c : Book K) : Type 0 where
  pub answer : a ≡ put_answer b
  pub after : c ≡ after_put before b x

pub record Taken {K : Type 0} (before : K → K → Bool) (b : Book K) (x : K) (a : Answer) (c : Book K) : Type 0 where
  pub answer : a ≡ take_answer before b x
  pub after : c ≡ after_take before b x

-- an opened book: no record, no put, and room for two at least
pub record Opened {K : Type 0} (b : Book K) : Type 0 where
  pub empty : b ≡ opened b.width b.limit
  pub wide : 2 ≤ b.width
