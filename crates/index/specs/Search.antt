-- What a search by key tells. Assumes nothing.
use Rattle.std.specs.Prelude.{◌≡◌, ℕ, ◌-◌, ◌<◌, ◌≤◌, Bool, true, false, List, length, slice_index_or}
use Rattle.counting.specs.declared.Record.{Record}

-- the record left of r is before the key, and the one at r is not
pub record Edge {K : Type 0} (before : K → K → Bool) (rs : List (Record K)) (key : K) (r : ℕ) : Type 0 where
  pub within : r ≤ length rs
  pub under : (d : Record K) → 0 < r → before (slice_index_or rs (r - 1) d).key key ≡ true
  pub here : (d : Record K) → r < length rs → before (slice_index_or rs r d).key key ≡ false

-- the key lies strictly between the record left of r and the one at r
pub record Gap {K : Type 0} (before : K → K → Bool) (rs : List (Record K)) (key : K) (r : ℕ) : Type 0 where
  pub within : r ≤ length rs
  pub under : (d : Record K) → 0 < r → before (slice_index_or rs (r - 1) d).key key ≡ true
  pub over : (d : Record K) → r < length rs → before key (slice_index_or rs r d).key ≡ true

-- the place p is in use and holds the key
pub record Holds {K : Type 0} (rs : List (Record K)) (used : ℕ) (x : K) (p : ℕ) : Type 0 where
  pub within : p < used
  pub key : (d : Record K) → (slice_index_or rs p d).key ≡ x

-- of the places in use p has the least count in, and of those with that count the first key
pub record Root {K : Type 0} (before : K → K → Bool) (rs : List (Record K)) (used p : ℕ) : Type 0 where
  pub within : p < used
  pub least : (q : ℕ) (d : Record K) → q < used → (slice_index_or rs p d).ins ≤ (slice_index_or rs q d).ins
  pub first : (q : ℕ) (d : Record K) → q < used → (slice_index_or rs q d).ins ≡ (slice_index_or rs p d).ins → before (slice_index_or rs q d).key (slice_index_or rs p d).key ≡ false
