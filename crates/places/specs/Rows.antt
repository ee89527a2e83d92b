-- The records of a table in the order of its index. Assumes nothing.
use Rattle.std.specs.Prelude.{◌≡◌, ℕ, zero, suc, ◌+◌, cond, List, [], ◌∷◌, ◌++◌, take, drop, ◌==◌, nat_lt, slice_index}
use Rattle.std.specs.List.{insert, remove}
use Rattle.places.specs.declared.place.Place.{Place}
use Rattle.counting.specs.declared.Record.{Record}
use Rattle.places.specs.Columns.{records, indices}

-- the elements of xs at the places is, those past the end left out
abbrev pub picked : {X : Type 0} → List X → List ℕ → List X
picked xs [] = []
picked xs (i ∷ is) = take 1 (drop i xs) ++ picked xs is

abbrev pub rows : {K : Type 0} → List (Place K) → ℕ → List (Record K)
rows table used = picked (records table) (take used (indices table))

-- how often p stands in the list
abbrev pub times : ℕ → List ℕ → ℕ
times p [] = 0
times p (i ∷ is) = cond (i == p) 1 0 + times p is

-- each number below n stands there once, and no other number
abbrev pub Perm : ℕ → List ℕ → Type 0
Perm n is = (p : ℕ) → times p is ≡ cond (nat_lt p n) 1 0

abbrev pub Placed : {K : Type 0} → List (Place K) → ℕ → Type 0
Placed table used = Perm used (take used (indices table))

-- what stands at a goes to b
abbrev pub moved : List ℕ → ℕ → ℕ → List ℕ
moved is a b = insert (remove is a) b (slice_index is a)

-- f at the element i
abbrev pub changed : {X : Type 0} → List X → ℕ → (X → X) → List X
changed [] i f = []
changed (x ∷ xs) zero f = f x ∷ xs
changed (x ∷ xs) (suc i) f = x ∷ changed xs i f
