-- What a table in order tells of a key, and what a take leaves. Assumes nothing.
use Rattle.std.proofs.Common.{◌≡◌, ℕ, ◌<◌, ◌≤◌, Bool, true, false, ◌≢◌, List, length, get_or, set, Ok, Err, sym, refl, ap, ◌∙◌, subst, arith}
use lib.ListN.{length-map}
use lib.Seq.{map-set_same}
use Rattle.std.proofs.ByRecursion.{All-get_or}
use Rattle.std.proofs.lemmas.List.{get_or_default}
use Rattle.std.proofs.lemmas.Bool.{cond-true, cond-false, lt-ltb, le-ltb, eq-eqb, ne_eqb}
use Rattle.refusals.specs.declared.Refusal.TheVariants.{Absent}
use Rattle.counting.specs.declared.Record.{Record}
use Rattle.counting.specs.Rule.{Order, Sorted, same, held, lowered, least, take_rule, ceiling_rule, high, low, high_of_record, low_of_record}
use Rattle.counting.specs.Book.{Book, Taken, ceiling, bounds, take_done}
use Rattle.counting.proofs.Records.{same_from, held_none}
use Rattle.counting.proofs.Sums.{bounds_held, bounds_none, at_key_none}
use Rattle.counting.proofs.Sorts.{sorted_at_key}
use Rattle.places.specs.declared.place.Place.{Place}
use Rattle.places.specs.Columns.{records, counts, indices, entries}
use Rattle.places.specs.Rows.{rows, Placed}
use Rattle.places.proofs.Columns.{count_of}
use Rattle.heap.specs.Lazy.{Sound, InHeap}
use Rattle.heap.proofs.Changes.{same_key_order}
use Rattle.index.specs.Search.{Holds}
use Rattle.index.proofs.Tables.{row_count, row_at, entry_low, position, some_of, placed_kept}
use Rattle.index.proofs.Leaves.{least_is}
use Rattle.book.specs.Sound.{Seats, InOrder, book_in}
use Rattle.places.specs.declared.place.HeapEntry.{HeapEntry}

module _ {K : Type 0} (t : List (Place K)) (used : ℕ) (room : used ≤ length t) (placed : Placed t used) where
  long : length (records t) ≡ length t
  long = length-map _ _

  pub ceiling_empty : used < length t → ceiling_rule (length t) (rows t used) ≡ 0
  ceiling_empty lt = cond-true _ 0 (least (rows t used)) (lt-ltb _ _ (omega (arith, row_count t used room placed)))

  -- c is the count in of a place in use, and no place has less
  pub ceiling_full : length t ≤ used → (p c : ℕ) → p < used → c ≡ get_or (counts (records t)) p 0 → ((q : ℕ) → q < used → c ≤ get_or (counts (records t)) q 0)
      → c ≡ ceiling_rule (length t) (rows t used)
  ceiling_full full p c lt is floor =
      let n = row_count t used room placed in
      let w = position t used room placed p lt in
      let d : Record K = some_of (records t) (omega (arith, long)) in
      let at_row : (i : ℕ) → i < used → (get_or (rows t used) i d).ins ≡ get_or (counts (records t)) (get_or (indices t) i 0) 0 = λ i l.
      ap (λ (r : Record K). r.ins) (row_at t used room placed i l d) ∙ sym (count_of (records t) (get_or (indices t) i 0) d (omega (arith, long, entry_low t used room placed i l))) in
      let here : (get_or (rows t used) w.0 d).ins ≡ c = at_row w.0 w.1 ∙ ap (λ i. get_or (counts (records t)) i 0) w.2 ∙ sym is in
      let m : least (rows t used) ≡ (get_or (rows t used) w.0 d).ins =
      least_is (rows t used) w.0 d (omega (arith, w.1)) (λ i l. let li : i < used = omega arith in omega (arith, at_row i li, floor (get_or (indices t) i 0) (entry_low t used room placed i li))) in
      sym (cond-false _ 0 (least (rows t used)) (le-ltb _ _ (omega arith)) ∙ m ∙ here)

  module _ (before : K → K → Bool) (order : Order before) (x : K) where
    -- the bounds of a held key are its record's
    pub held_bounds : (p : ℕ) (r : Record K) → Holds (records t) used x p → Sorted before (rows t used) → ((d : Record K) → get_or (records t) p d ≡ r) → (c : ℕ)
        → (high before c (rows t used) x ≡ high_of_record r) × (low before (rows t used) x ≡ low_of_record r)
    held_bounds p r holds so is c =
        let w = position t used room placed p holds.within in
        let here : get_or (rows t used) w.0 r ≡ r = row_at t used room placed w.0 w.1 r ∙ ap (λ i. get_or (records t) i r) w.2 ∙ is r in
        let Said : Record K → Type 0 = λ s. same before s.key x ≡ true → (high before c (rows t used) x ≡ high_of_record s) × (low before (rows t used) x ≡ low_of_record s) in
        let said : Said (get_or (rows t used) w.0 r) = All-get_or Said (rows t used) w.0 r (omega (arith, w.1, row_count t used room placed)) (bounds_held before order x c (rows t used) so) in
        subst Said here said (same_from before order _ _ (ap (λ (s : Record K). s.key) (sym (is r)) ∙ holds.key r))

  -- u is t with one more out at the place p
  module _ (u : List (Place K)) (p : ℕ) (re : (d : Record K) → records u ≡ set (records t) p (lowered (get_or (records t) p d))) (ix : indices u ≡ indices t) (en : entries u ≡ entries t) (lt : p < used) where
    some : Record K
    some = some_of (records t) (omega (arith, long))

    pub out_counts : counts (records u) ≡ counts (records t)
    out_counts = ap counts (re some) ∙ map-set_same (λ (r : Record K). r.ins) (records t) p (lowered (get_or (records t) p some)) some refl

    pub out_seats : Sound (entries t) (counts (records t)) used → Seats u used
    out_seats sound = record {
      placed = placed_kept t u used ix placed;
      heap = subst (λ (cs : List ℕ). Sound (entries u) cs used) (sym out_counts) (subst (λ (xs : List HeapEntry). Sound xs (counts (records t)) used) (sym en) sound);
    }

    pub out_order : (before : K → K → Bool) (x : K) → InOrder before t used → rows u used ≡ take_rule before (rows t used) x → InOrder before u used
    out_order before x o e = record {
      rising = subst (Sorted before) (sym e) (sorted_at_key before x lowered (λ r. refl) (rows t used) o.rising);
      heap = subst (λ (rs : List (Record K)). InHeap before (entries u) rs used) (sym (re some))
          (subst (λ (xs : List HeapEntry). InHeap before xs (set (records t) p (lowered (get_or (records t) p some))) used) (sym en)
          (same_key_order before (records t) (entries t) used p (lowered (get_or (records t) p some)) (omega (arith, long))
          (λ d. ap (λ (r : Record K). r.key) (get_or_default (records t) p some d (omega (arith, long)))) o.heap));
    }

-- a take by the key's high bound
module _ {K : Type 0} (before : K → K → Bool) (t : List (Place K)) (used total : ℕ) (x : K) where
  abbrev here : Book K
  here = book_in t used total

  pub taken_refused : (bounds before here x).1 ≡ 0 → Taken before here x (Err Absent) here
  taken_refused z =
      let e = eq-eqb (bounds before here x).1 0 z in
      record { answer = sym (cond-true _ (Err Absent) (Ok tt) e); after = sym (cond-true _ here (take_done before here x) e) }

  pub taken_done : (u : List (Place K)) → (bounds before here x).1 ≢ 0 → length u ≡ length t → rows u used ≡ take_rule before (rows t used) x → Taken before here x (Ok tt) (book_in u used total)
  taken_done u ne long e =
      let n = ne_eqb (bounds before here x).1 0 ne in
      record {
        answer = sym (cond-false _ (Err Absent) (Ok tt) n);
        after = ap (λ (w : ℕ). record { records = rows u used; width = w; limit = 16777215; total = total }) long
            ∙ ap (λ (rs : List (Record K)). record { records = rs; width = length t; limit = 16777215; total = total }) e
            ∙ sym (cond-false _ here (take_done before here x) n);
      }

  -- of a key that is not held
  pub high_other : held before x (rows t used) ≡ false → (bounds before here x).1 ≡ ceiling here
  high_other none = (bounds_none before x (ceiling here) (rows t used) none).0

  pub taken_other : Order before → held before x (rows t used) ≡ false → ceiling here ≢ 0 → Taken before here x (Ok tt) here
  taken_other order none ne =
      taken_done t (λ z. ne (sym (high_other none) ∙ z)) refl (sym (at_key_none before order x lowered (rows t used) (held_none before x (rows t used) none)))
