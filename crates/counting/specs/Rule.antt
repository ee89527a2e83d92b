-- The counting rule over the list of records in key order, for any order of keys. Assumes nothing.
use Rattle.std.specs.Prelude.{◌≡◌, ℕ, ◌+◌, min, Bool, true, false, cond, not, ◌||◌, List, [], ◌∷◌, length, ◌==◌, nat_lt}
use Rattle.std.specs.List.{AllByRecursion, AllByRecursion-prop}
use Rattle.std.specs.Coded.{×_prop, Unit-prop}
use mathlib.Core.Bool.{Bool-set}
use Rattle.counting.specs.declared.Record.{Record}
use Rattle.counting.specs.Bounds.{low_of, high_of}

-- of two keys exactly one is before the other, or they are the same
pub record Order {K : Type 0} (before : K → K → Bool) : Type 0 where
  pub never : (x : K) → before x x ≡ false
  pub onward : (x y z : K) → before x y ≡ true → before y z ≡ true → before x z ≡ true
  pub total : (x y : K) → before x y ≡ false → before y x ≡ false → x ≡ y

abbrev pub same : {K : Type 0} → (K → K → Bool) → K → K → Bool
same before a b = not (before a b || before b a)

-- the records rise strictly by key
abbrev pub Sorted : {K : Type 0} → (K → K → Bool) → List (Record K) → Type 0
Sorted before [] = Unit {0}
Sorted before (r ∷ rs) = AllByRecursion (λ s. before r.key s.key ≡ true) rs × Sorted before rs

-- a list rises in one way at most, so a type's ghost field may say it
pub Sorted-prop : {K : Type 0} (before : K → K → Bool) (rs : List (Record K)) → IsProp (Sorted before rs)
Sorted-prop before [] = Unit-prop
Sorted-prop before (r ∷ rs) = ×_prop (AllByRecursion-prop _ (λ s. Bool-set _ _) rs) (Sorted-prop before rs)

abbrev pub held : {K : Type 0} → (K → K → Bool) → K → List (Record K) → Bool
held before x [] = false
held before x (r ∷ rs) = same before r.key x || held before x rs

-- the record made for x when it may have had up to c before
abbrev pub fresh : {K : Type 0} → K → ℕ → Record K
fresh x c = record { key = x; ins = c + 1; outs = 0; slack = c }

abbrev pub raised : {K : Type 0} → Record K → Record K
raised r = record { key = r.key; ins = r.ins + 1; outs = r.outs; slack = r.slack }

abbrev pub lowered : {K : Type 0} → Record K → Record K
lowered r = record { key = r.key; ins = r.ins; outs = r.outs + 1; slack = r.slack }

-- f at the record of x
abbrev pub at_key : {K : Type 0} → (K → K → Bool) → K → (Record K → Record K) → List (Record K) → List (Record K)
at_key before x f [] = []
at_key before x f (r ∷ rs) = cond (same before r.key x) (f r) r ∷ at_key before x f rs

-- n in its place by key
abbrev pub enter : {K : Type 0} → (K → K → Bool) → Record K → List (Record K) → List (Record K)
enter before n [] = n ∷ []
enter before n (r ∷ rs) = cond (before r.key n.key) (r ∷ enter before n rs) (n ∷ r ∷ rs)

abbrev pub least_from : {K : Type 0} → ℕ → List (Record K) → ℕ
least_from m [] = m
least_from m (r ∷ rs) = min r.ins (least_from m rs)

-- the least count in, 0 of none
abbrev pub least : {K : Type 0} → List (Record K) → ℕ
least [] = 0
least (r ∷ rs) = least_from r.ins rs

-- the first record with the count in c leaves: in key order that is the one with the least key
abbrev pub leave : {K : Type 0} → ℕ → List (Record K) → List (Record K)
leave c [] = []
leave c (r ∷ rs) = cond (r.ins == c) rs (r ∷ leave c rs)

abbrev pub put_new : {K : Type 0} → (K → K → Bool) → ℕ → List (Record K) → K → List (Record K)
put_new before width rs x = cond (nat_lt (length rs) width) (enter before (fresh x 0) rs) (enter before (fresh x (least rs)) (leave (least rs) rs))

abbrev pub put_rule : {K : Type 0} → (K → K → Bool) → ℕ → List (Record K) → K → List (Record K)
put_rule before width rs x = cond (held before x rs) (at_key before x raised rs) (put_new before width rs x)

abbrev pub take_rule : {K : Type 0} → (K → K → Bool) → List (Record K) → K → List (Record K)
take_rule before rs x = at_key before x lowered rs

-- 0 while a place is empty, else the least count in
abbrev pub ceiling_rule : {K : Type 0} → ℕ → List (Record K) → ℕ
ceiling_rule width rs = cond (nat_lt (length rs) width) 0 (least rs)

abbrev pub high_of_record : {K : Type 0} → Record K → ℕ
high_of_record r = high_of r.ins r.outs

abbrev pub low_of_record : {K : Type 0} → Record K → ℕ
low_of_record r = low_of r.ins r.outs r.slack

-- the bounds of x: those of its record, else from 0 to c
abbrev pub high : {K : Type 0} → (K → K → Bool) → ℕ → List (Record K) → K → ℕ
high before c [] x = c
high before c (r ∷ rs) x = cond (same before r.key x) (high_of_record r) (high before c rs x)

abbrev pub low : {K : Type 0} → (K → K → Bool) → List (Record K) → K → ℕ
low before [] x = 0
low before (r ∷ rs) x = cond (same before r.key x) (low_of_record r) (low before rs x)
