-- A table by its columns. Assumes nothing.
use Rattle.std.specs.Prelude.{◌≡◌, ℕ, List, map, slice_index_or}
use Rattle.counting.specs.declared.Record.{Record}
use Rattle.places.specs.declared.place.Place.{Place}
use Rattle.places.specs.declared.place.HeapEntry.{HeapEntry}

abbrev pub records : {K : Type 0} → List (Place K) → List (Record K)
records = map (λ p. p.record)

abbrev pub counts : {K : Type 0} → List (Record K) → List ℕ
counts = map (λ r. r.ins)

abbrev pub indices : {K : Type 0} → List (Place K) → List ℕ
indices = map (λ p. p.index)

abbrev pub hints : {K : Type 0} → List (Place K) → List ℕ
hints = map (λ p. p.hint)

abbrev pub entries : {K : Type 0} → List (Place K) → List HeapEntry
entries = map (λ p. p.heap)

abbrev pub no_entry : HeapEntry
no_entry = record { place = 0; weight = 0 }

abbrev pub at : List HeapEntry → ℕ → HeapEntry
at xs i = slice_index_or xs i no_entry

-- what the index has no part in is as it was; each step has to promise it of itself
pub record BesideIndex {K : Type 0} (was now' : List (Place K)) : Type 0 where
  pub heap : entries now' ≡ entries was
  pub hint : hints now' ≡ hints was

-- what the heap has no part in is as it was; each step has to promise it of itself
pub record BesideHeap {K : Type 0} (was now' : List (Place K)) : Type 0 where
  pub records : records now' ≡ records was
  pub index : indices now' ≡ indices was
  pub hint : hints now' ≡ hints was
