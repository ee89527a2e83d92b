-- What a book's table keeps from call to call. Assumes nothing.
use Rattle.std.specs.Prelude.{ℕ, ◌-◌, ◌<◌, ◌≤◌, Bool, List, length, slice_index}
use Rattle.std.proofs.Props.{props}
use Rattle.counting.specs.Rule.{Sorted, Sorted-prop}
use Rattle.counting.specs.Book.{Book}
use Rattle.places.specs.declared.place.Place.{Place}
use Rattle.places.specs.Columns.{records, counts, entries}
use Rattle.places.specs.Rows.{rows, Placed}
use Rattle.heap.specs.Lazy.{Sound, InHeap}

-- index and heap by their numbers alone: the first `used` places stand in each of them once, no heap entry is above
-- its place's count in, and the root's is equal to it
pub record Seats {K : Type 0} (t : List (Place K)) (used : ℕ) : Type 0 where
  pub placed : Placed t used
  pub heap : Sound (entries t) (counts (records t)) used

-- no count in is above m
abbrev pub Small : {K : Type 0} → List (Place K) → ℕ → ℕ → Type 0
Small t used m = (p : ℕ) → p < used → slice_index (counts (records t)) p ≤ m

-- a put was counted that is not carried out yet: every count in is below the total
abbrev pub Ahead : {K : Type 0} → List (Place K) → ℕ → ℕ → Type 0
Ahead t used total = (0 < total) × Small t used (total - 1)

-- index and heap follow the order of keys: read by the index the records rise, and no heap entry is after its children
pub record InOrder {K : Type 0} (before : K → K → Bool) (t : List (Place K)) (used : ℕ) : Type 0 where
  pub rising : Sorted before (rows t used)
  pub heap : InHeap before (entries t) (records t) used

-- the first `used` places are a book's that has accepted `total` puts: index and heap are sound and in the order of
-- keys, and no count in is above the total
pub record IsBook {K : Type 0} (before : K → K → Bool) (t : List (Place K)) (used total : ℕ) : Type 0 where
  pub room : used ≤ length t
  pub few : total ≤ 16777215
  pub seats : Seats t used
  pub order : InOrder before t used
  pub small : Small t used total

pub IsBook-prop : {K : Type 0} (before : K → K → Bool) (t : List (Place K)) (used total : ℕ) → IsProp (IsBook before t used total)
IsBook-prop before t used total = Prim.hlevel (Sorted-prop, props)

-- the book that it is
abbrev pub book_in : {K : Type 0} → List (Place K) → ℕ → ℕ → Book K
book_in t used total = record { records = rows t used; width = length t; limit = 16777215; total = total }
