-- What a change of columns leaves of a book's table. Assumes nothing.
use Rattle.std.proofs.Common.{◌≡◌, ℕ, ◌+◌, ◌<◌, ◌≤◌, Bool, ◌≢◌, List, length, get_or, set, sym, ap, ◌∙◌, subst, ⊎_elim, arith, get_or-set_other, get_or-set_same}
use lib.ListN.{length-map}
use lib.Seq.{map-set}
use Rattle.std.proofs.lemmas.Bool.{cases_eq}
use Rattle.counting.specs.declared.Record.{Record}
use Rattle.counting.specs.Rule.{Sorted}
use Rattle.places.specs.declared.place.Place.{Place}
use Rattle.places.specs.Columns.{records, counts, indices, entries}
use Rattle.heap.specs.Lazy.{Sound, InHeap}
use Rattle.index.specs.Search.{Holds}
use Rattle.index.proofs.Tables.{rows_kept, placed_kept}
use Rattle.book.specs.Sound.{Seats, Small, InOrder, IsBook}
use Rattle.places.specs.declared.place.HeapEntry.{HeapEntry}

-- the same columns keep everything
module _ {K : Type 0} (t u : List (Place K)) (re : records u ≡ records t) (ix : indices u ≡ indices t) (en : entries u ≡ entries t) where
  long_same : length u ≡ length t
  long_same = sym (length-map _ _) ∙ ap length re ∙ length-map _ _

  pub seats_same : (n : ℕ) → Seats t n → Seats u n
  seats_same n s = record {
    placed = placed_kept t u n ix s.placed;
    heap = subst (λ (rs : List (Record K)). Sound (entries u) (counts rs) n) (sym re) (subst (λ (xs : List HeapEntry). Sound xs (counts (records t)) n) (sym en) s.heap);
  }

  pub order_same : (before : K → K → Bool) (n : ℕ) → InOrder before t n → InOrder before u n
  order_same before n o = record {
    rising = subst (Sorted before) (sym (rows_kept t u n re ix)) o.rising;
    heap = subst (λ (rs : List (Record K)). InHeap before (entries u) rs n) (sym re) (subst (λ (xs : List HeapEntry). InHeap before xs (records t) n) (sym en) o.heap);
  }

  pub kept_same : (before : K → K → Bool) (n total : ℕ) → IsBook before t n total → IsBook before u n total
  kept_same before n total b = record {
    room = omega (arith, b.room, long_same);
    few = b.few;
    seats = seats_same n b.seats;
    order = order_same before n b.order;
    small = subst (λ (rs : List (Record K)). (p : ℕ) → p < n → get_or (counts rs) p 0 ≤ total) (sym re) b.small;
  }

-- one record written, with a count in that is one more at most
pub small_set : {K : Type 0} (t u : List (Place K)) (n k p m : ℕ) (r : Record K) → records u ≡ set (records t) p r → p < length t → r.ins ≤ m + 1
    → ((q : ℕ) → q < k → q ≢ p → q < n) → Small t n m → Small u k (m + 1)
small_set {K} t u n k p m r re fits le within s q lt =
    let long : length (counts (records t)) ≡ length t = length-map _ _ ∙ length-map _ _ in
    let e : counts (records u) ≡ set (counts (records t)) p r.ins = ap counts re ∙ map-set (λ (x : Record K). x.ins) (records t) p r in
    let here = ap (λ (l : List ℕ). get_or l q 0) e in
    ⊎_elim
    (λ (z : q ≡ p). let a = ap (λ (j : ℕ). get_or (set (counts (records t)) p r.ins) j 0) z ∙ get_or-set_same (counts (records t)) p r.ins 0 (omega arith) in omega arith)
    (λ (ne : q ≢ p). let a = get_or-set_other (counts (records t)) p q r.ins 0 ne in let b = s q (within q lt ne) in omega arith)
    (cases_eq q p)

pub holds_same : {K : Type 0} (t u : List (Place K)) (m n : ℕ) (x : K) (p : ℕ) → t ≡ u → m ≡ n → Holds (records t) m x p → Holds (records u) n x p
holds_same t u m n x p e f h = rw (← e, ← f) h
