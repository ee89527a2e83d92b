-- One place written: the column that changes, and those that stay. Assumes nothing.
use Rattle.std.proofs.Common.{◌≡◌, ℕ, ◌<◌, List, map, length, get_or, set, sym, ap, ◌∙◌, arith}
use lib.ListN.{length-map}
use lib.Seq.{map-set_same}
use Rattle.std.proofs.lemmas.List.{get_or-map}
use Rattle.counting.specs.declared.Record.{Record}
use Rattle.places.specs.declared.place.Place.{Place}
use Rattle.places.specs.Columns.{records, counts, BesideIndex, BesideHeap}

-- where p stands at i, a v that agrees with it in a column leaves the column
module _ {K X : Type 0} (f : Place K → X) (t : List (Place K)) (i : ℕ) (p v : Place K) where
  pub column_kept : p ≡ get_or t i p → f v ≡ f p → map f (set t i v) ≡ map f t
  column_kept is e = map-set_same f t i v p (e ∙ ap f is)

pub record_read : {K : Type 0} (t : List (Place K)) (i : ℕ) (p : Place K) (d : Record K) → i < length t → get_or (records t) i d ≡ (get_or t i p).record
record_read t i p d h = get_or-map (λ q. q.record) t i p d h

pub count_of : {K : Type 0} (rs : List (Record K)) (i : ℕ) (d : Record K) → i < length rs → get_or (counts rs) i 0 ≡ (get_or rs i d).ins
count_of rs i d h = get_or-map (λ r. r.ins) rs i d 0 h

pub count_read : {K : Type 0} (t : List (Place K)) (i : ℕ) (p : Place K) → i < length t → (get_or t i p).record.ins ≡ get_or (counts (records t)) i 0
count_read {K} t i p h =
    let n : length (records t) ≡ length t = length-map _ _ in
    sym (count_of (records t) i p.record (omega arith) ∙ ap (λ (r : Record K). r.ins) (record_read t i p p.record h))

module _ {K : Type 0} (t : List (Place K)) (i : ℕ) (p v : Place K) (is : p ≡ get_or t i p) where
  pub beside_index : v.heap ≡ p.heap → v.hint ≡ p.hint → BesideIndex t (set t i v)
  beside_index e f = record { heap = column_kept (λ q. q.heap) t i p v is e; hint = column_kept (λ q. q.hint) t i p v is f }

  pub beside_heap : v.record ≡ p.record → v.index ≡ p.index → v.hint ≡ p.hint → BesideHeap t (set t i v)
  beside_heap e f g = record {
    records = column_kept (λ q. q.record) t i p v is e;
    index = column_kept (λ q. q.index) t i p v is f;
    hint = column_kept (λ q. q.hint) t i p v is g;
  }
