-- One record written into a table in order, and the heap refreshed or grown. Assumes nothing.
use Rattle.std.proofs.Common.{◌≡◌, ℕ, ◌<◌, ◌≤◌, Bool, true, false, ltb, List, length, get_or, set, sym, ap, ◌∙◌, subst, arith}
use lib.ListN.{length-map}
use Rattle.std.specs.List.{remove}
use Rattle.std.proofs.lemmas.Bool.{cond-true, cond-false}
use Rattle.std.proofs.lemmas.Bool.Decides.{nat_tests}
use Rattle.counting.specs.declared.Record.{Record}
use Rattle.counting.specs.Rule.{Order, Sorted, held, fresh, raised, at_key, enter, least, leave, put_rule, put_new}
use Rattle.counting.proofs.Sorts.{sorted_enter, sorted_leave, unheld_leave}
use Rattle.places.specs.declared.place.Place.{Place}
use Rattle.places.specs.Columns.{records, counts, indices, entries, at, BesideHeap}
use Rattle.places.specs.Rows.{rows, Placed}
use Rattle.places.proofs.Columns.{count_of}
use Rattle.heap.specs.Lazy.{lex, Seated, Sound, InHeap, Turning, Least}
use Rattle.heap.proofs.Changes.{changed_seated, changed_turning, beyond_sound, beyond_order}
use Rattle.index.specs.Search.{Gap, Root}
use Rattle.index.proofs.Orders.{gap_unheld}
use Rattle.index.proofs.Tables.{position, rows_kept}
use Rattle.index.proofs.Leaves.{root_least, root_leaves}
use Rattle.book.specs.Sound.{InOrder}
use Rattle.places.specs.declared.place.HeapEntry.{HeapEntry}

-- u is t with the record r at the place p, and the heap as it was
module _ {K : Type 0} (t u : List (Place K)) (used p : ℕ) (r : Record K) (re : records u ≡ set (records t) p r) (en : entries u ≡ entries t)
    (sound : Sound (entries t) (counts (records t)) used) where
  long : length (records t) ≡ length t
  long = length-map _ _

  -- in use, with a greater count in
  pub written_seated : p < length t → get_or (counts (records t)) p 0 < r.ins → Seated (entries u) (counts (records u)) used
  written_seated fits grown =
      subst (λ (rs : List (Record K)). Seated (entries u) (counts rs) used) (sym re)
      (subst (λ (xs : List HeapEntry). Seated xs (counts (set (records t) p r)) used) (sym en)
      (changed_seated (records t) (entries t) used p r (omega (arith, long)) (omega arith) sound))

  pub written_turning : (before : K → K → Bool) → p < length t → 0 < used → get_or (counts (records t)) p 0 < r.ins
      → ((d : Record K) → ((at (entries t) 0).place ≡ p → ⊥) → r.key ≡ (get_or (records t) p d).key)
      → InHeap before (entries t) (records t) used → Turning before (entries u) (records u) used
  written_turning before fits some grown same order =
      subst (λ (rs : List (Record K)). Turning before (entries u) rs used) (sym re)
      (subst (λ (xs : List HeapEntry). Turning before xs (set (records t) p r) used) (sym en)
      (changed_turning before (records t) (entries t) used p r (omega (arith, long)) some grown same sound order))

  -- not in use yet
  pub beyond_kept : used ≤ p → Sound (entries u) (counts (records u)) used
  beyond_kept le =
      subst (λ (rs : List (Record K)). Sound (entries u) (counts rs) used) (sym re)
      (subst (λ (xs : List HeapEntry). Sound xs (counts (set (records t) p r)) used) (sym en) (beyond_sound (records t) (entries t) used p r le sound))

  pub beyond_heap : (before : K → K → Bool) → used ≤ p → InHeap before (entries t) (records t) used → InHeap before (entries u) (records u) used
  beyond_heap before le order =
      subst (λ (rs : List (Record K)). InHeap before (entries u) rs used) (sym re)
      (subst (λ (xs : List HeapEntry). InHeap before xs (set (records t) p r) used) (sym en) (beyond_order before (records t) (entries t) used p r le sound order))

-- the heap of v was worked on, the rest is as in u
module _ {K : Type 0} (before : K → K → Bool) (u v : List (Place K)) (n : ℕ) (be : BesideHeap u v) (heap : InHeap before (entries v) (records v) n) where
  pub worked : (rs : List (Record K)) → Sorted before rs → rows u n ≡ rs → InOrder before v n
  worked rs so e = record { rising = subst (Sorted before) (sym (rows_kept u v n be.records be.index ∙ e)) so; heap = heap }

pub sorted_new : {K : Type 0} (before : K → K → Bool) → Order before → (rs : List (Record K)) (x : K) (at c : ℕ) → Sorted before rs → Gap before rs x at → Sorted before (enter before (fresh x c) rs)
sorted_new before order rs x at c so gap = sorted_enter before order (fresh x c) rs (gap_unheld before order rs so x at gap) so

pub sorted_over : {K : Type 0} (before : K → K → Bool) → Order before → (rs : List (Record K)) (x : K) (at m c : ℕ) → Sorted before rs → Gap before rs x at → Sorted before (enter before (fresh x c) (leave m rs))
sorted_over before order rs x at m c so gap =
    sorted_enter before order (fresh x c) (leave m rs) (unheld_leave before x m rs (gap_unheld before order rs so x at gap)) (sorted_leave before m rs so)

lex_least : (a b : ℕ) (c : Bool) → lex a b c ≡ false → b ≤ a
lex_least a b c e = grind (arith, nat_tests)

lex_tie : (a b : ℕ) (c : Bool) → a ≡ b → lex a b c ≡ false → c ≡ false
lex_tie a b c h e = grind (arith, nat_tests)

root_from : {K : Type 0} (before : K → K → Bool) (rs : List (Record K)) (n p : ℕ) → p < n → Least before rs n p → Root before rs n p
root_from before rs n p lt least = record {
  within = lt;
  least = λ q d l. lex_least (get_or rs q d).ins (get_or rs p d).ins _ (least q d l);
  first = λ q d l tie. lex_tie (get_or rs q d).ins (get_or rs p d).ins _ tie (least q d l);
}

-- the least record gave its place
pub replaced_rows : {K : Type 0} (before : K → K → Bool) (t : List (Place K)) (used : ℕ) → (room : used ≤ length t) → (placed : Placed t used) → (p : ℕ) → p < used → Least before (records t) used p
    → Sorted before (rows t used) → (x : K) (count : ℕ) → count ≡ get_or (counts (records t)) p 0 → (ss : List (Record K))
    → ((k : ℕ) → k < used → get_or (indices t) k 0 ≡ p → ss ≡ enter before (fresh x count) (remove (rows t used) k))
    → ss ≡ enter before (fresh x (least (rows t used))) (leave (least (rows t used)) (rows t used))
replaced_rows {K} before t used room placed p lt low so x count is ss h =
    let w = position t used room placed p lt in
    let d : Record K = fresh x 0 in
    let root = root_from before (records t) used p lt low in
    let n : length (records t) ≡ length t = length-map _ _ in
    let m : least (rows t used) ≡ count = root_least before t used room placed p w.0 w.1 w.2 root d ∙ sym (count_of (records t) p d (omega arith)) ∙ sym is in
    let gone : leave (least (rows t used)) (rows t used) ≡ remove (rows t used) w.0 = root_leaves before t used room placed p w.0 w.1 w.2 root d so in
    h w.0 w.1 w.2
    ∙ ap (λ l. enter before (fresh x count) l) (sym gone)
    ∙ ap (λ c. enter before (fresh x c) (leave (least (rows t used)) (rows t used))) (sym m)

-- the three ways of the rule
module _ {K : Type 0} (before : K → K → Bool) (width : ℕ) (rs : List (Record K)) (x : K) where
  pub rule_held : held before x rs ≡ true → at_key before x raised rs ≡ put_rule before width rs x
  rule_held h = sym (cond-true (held before x rs) (at_key before x raised rs) (put_new before width rs x) h)

  pub rule_room : held before x rs ≡ false → ltb (length rs) width ≡ true → enter before (fresh x 0) rs ≡ put_rule before width rs x
  rule_room h e =
      sym (cond-false (held before x rs) (at_key before x raised rs) (put_new before width rs x) h
      ∙ cond-true (ltb (length rs) width) (enter before (fresh x 0) rs) (enter before (fresh x (least rs)) (leave (least rs) rs)) e)

  pub rule_full : held before x rs ≡ false → ltb (length rs) width ≡ false → enter before (fresh x (least rs)) (leave (least rs) rs) ≡ put_rule before width rs x
  rule_full h e =
      sym (cond-false (held before x rs) (at_key before x raised rs) (put_new before width rs x) h
      ∙ cond-false (ltb (length rs) width) (enter before (fresh x 0) rs) (enter before (fresh x (least rs)) (leave (least rs) rs)) e)
