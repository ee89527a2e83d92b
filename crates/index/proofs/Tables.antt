-- The rows of a table, and what one change leaves of them. Assumes nothing.
use Rattle.std.proofs.Common.{◌≡◌, ℕ, ◌+◌, ◌<◌, ◌≤◌, Bool, true, List, [], ◌∷◌, eqb, length, get_or, take, set, Option, Some, None, sym, refl, ap, ◌∙◌, subst, ⊎_elim, arith}
use borrow.Author.Tests.{eqb-true}
use Rattle.std.specs.List.{insert, remove, position_or_len, position as position_by}
use Rattle.std.proofs.lemmas.Bool.{cond-true, lt-ltb, eq-eqb, cases_lt, true≢false}
use Rattle.std.proofs.lemmas.List.Sums.{fails_before_first, passes_at_first}
use Rattle.std.proofs.lemmas.List.{length-map, length-take-le, get_or-take, get_or-map}
use Rattle.places.specs.declared.place.Place.{Place}
use Rattle.counting.specs.declared.Record.{Record}
use Rattle.places.specs.Columns.{records, indices}
use Rattle.places.specs.Rows.{picked, rows, Perm, Placed, moved}
use Rattle.places.proofs.Picks.{rows_length, rows_at, rows_entry, rows_append, rows_replace, perm_append, perm_moved, perm_where, perm_apart}
use Rattle.places.specs.Columns.{BesideIndex}
use Rattle.counting.specs.Rule.{Order, Sorted, held, at_key}
use Rattle.index.specs.Search.{Holds}
use Rattle.counting.proofs.Records.{same_from}
use Rattle.index.proofs.Orders.{held_at, at_key_at, changed_is}
use Rattle.places.proofs.Moves.{take_moved, put_back, same_place, take_append}

pub beside_none : {K : Type 0} (t : List (Place K)) → BesideIndex t t
beside_none t = record { heap = refl; hint = refl }

pub beside_more : {K : Type 0} {t u v : List (Place K)} → BesideIndex t u → BesideIndex u v → BesideIndex t v
beside_more a b = record { heap = b.heap ∙ a.heap; hint = b.hint ∙ a.hint }

pub some_of : {X : Type 0} (xs : List X) → 0 < length xs → X
some_of [] lt = absurd (omega arith)
some_of (x ∷ xs) lt = x

module _ {K : Type 0} (t : List (Place K)) (used : ℕ) (room : used ≤ length t) (placed : Placed t used) where
  fits : used ≤ length (records t)
  fits = omega (arith, length-map t (λ p. p.record))

  pub entries : length (take used (indices t)) ≡ used
  entries = length-take-le used (indices t) (omega (arith, length-map t (λ p. p.index)))

  pub row_count : length (rows t used) ≡ used
  row_count = rows_length (records t) used (take used (indices t)) placed fits ∙ entries

  pub row_at : (k : ℕ) → k < used → (d : Record K) → get_or (rows t used) k d ≡ get_or (records t) (get_or (indices t) k 0) d
  row_at k lt d =
      rows_at (records t) used (take used (indices t)) placed fits k d (omega (arith, entries))
      ∙ ap (λ i. get_or (records t) i d) (get_or-take used (indices t) k 0 lt)

  pub entry_low : (k : ℕ) → k < used → get_or (indices t) k 0 < used
  entry_low k lt = subst (λ i. i < used) (get_or-take used (indices t) k 0 lt) (rows_entry (records t) used (take used (indices t)) placed fits k (omega (arith, entries)))

  -- each place in use has a position
  pub position : (p : ℕ) → p < used → (k : ℕ) × (k < used) × (get_or (indices t) k 0 ≡ p)
  position p lt =
      let w = perm_where used (take used (indices t)) placed p lt in
      let k : ℕ = w.0 in
      let low : k < used = omega (arith, w.1, entries) in
      (k, low, sym (get_or-take used (indices t) k 0 low) ∙ w.2)

  -- which a search of the index comes to
  pub position_found : (p : ℕ) → p < used → (r : Option ℕ) → r ≡ position_by (λ x. eqb x.index p) (take used t) → (k : ℕ) × (k < used) × (r ≡ Some k) × (get_or (indices t) k 0 ≡ p)
  position_found p lt r e =
      let xs : List (Place K) = take used t in
      let test : Place K → Bool = λ x. eqb x.index p in
      let long : length xs ≡ used = length-take-le used t room in
      let d : Place K = some_of t (omega arith) in
      let n : ℕ = position_or_len test xs in
      let entry : (k : ℕ) → k < used → get_or (indices t) k 0 ≡ (get_or xs k d).index = λ k l.
      get_or-map (λ x. x.index) t k d 0 (omega arith) ∙ ap (λ (x : Place K). x.index) (sym (get_or-take used t k d l)) in
      let w = position p lt in
      let low : n < used =
      ⊎_elim
      (λ (l : n < used). l)
      (λ (ge : used ≤ n). absurd (true≢false (sym (eq-eqb (get_or xs w.0 d).index p (sym (entry w.0 w.1) ∙ w.2)) ∙ fails_before_first test xs w.0 d (omega (arith, w.1)))))
      (cases_lt n used) in
      let in' : n < length xs = omega arith in
      (n, low, e ∙ cond-true _ (Some n) None (lt-ltb n (length xs) in'), entry n low ∙ eqb-true _ _ (passes_at_first test xs d in'))

  -- and only one
  pub one_position : (j k : ℕ) → j < used → k < used → get_or (indices t) j 0 ≡ get_or (indices t) k 0 → j ≡ k
  one_position j k lj lk e =
      perm_apart used (take used (indices t)) placed j k (omega (arith, entries)) (omega (arith, entries))
      (get_or-take used (indices t) j 0 lj ∙ e ∙ sym (get_or-take used (indices t) k 0 lk))

  -- the record of a place changes alone
  pub row_set : (k : ℕ) → k < used → (v : Record K) → picked (set (records t) (get_or (indices t) k 0) v) (take used (indices t)) ≡ set (rows t used) k v
  row_set k lt v =
      let is : List ℕ = take used (indices t) in
      let in' : k < length is = omega (arith, entries) in
      let e : get_or is k 0 ≡ get_or (indices t) k 0 = get_or-take used (indices t) k 0 lt in
      ap (λ i. picked (set (records t) i v) is) (sym e)
      ∙ ap (picked (set (records t) (get_or is k 0) v)) (sym (same_place is k in'))
      ∙ rows_replace (records t) used is placed fits k k v in'
      ∙ put_back (rows t used) k v (omega (arith, row_count))

  module _ (before : K → K → Bool) (order : Order before) where
    pub holds_held : (x : K) (p : ℕ) → Holds (records t) used x p → held before x (rows t used) ≡ true
    holds_held x p h =
        let low = h.within in
        let d : Record K = some_of (records t) (omega (arith, fits)) in
        let w = position p low in
        held_at before x (rows t used) w.0 d (omega (arith, w.1, row_count))
        (same_from before order _ _ (ap (λ (r : Record K). r.key) (row_at w.0 w.1 d) ∙ ap (λ i. (get_or (records t) i d).key) w.2 ∙ h.key d))

    pub table_changed : (f : Record K → Record K) (x : K) (p : ℕ) (r : Record K) (u : List (Place K)) → p < used → ((d : Record K) → get_or (records t) p d ≡ r)
        → r.key ≡ x → Sorted before (rows t used) → records u ≡ set (records t) p (f r) → indices u ≡ indices t → rows u used ≡ at_key before x f (rows t used)
    table_changed f x p r u lt is key so re ix =
        let w = position p lt in
        let k : ℕ = w.0 in
        let here : get_or (rows t used) k r ≡ r = row_at k w.1 r ∙ ap (λ i. get_or (records t) i r) w.2 ∙ is r in
        ap (λ l. picked (records u) (take used l)) ix
        ∙ ap (λ l. picked l (take used (indices t))) (re ∙ ap (λ i. set (records t) i (f r)) (sym w.2))
        ∙ row_set k w.1 (f r)
        ∙ ap (λ z. set (rows t used) k (f z)) (sym here)
        ∙ changed_is (rows t used) k r f
        ∙ sym (at_key_at before order x f (rows t used) k r so (omega (arith, w.1, row_count)) (ap (λ (z : Record K). z.key) here ∙ key))

  -- a new record at the place `used`
  module _ (more : used < length t) (k : ℕ) (le : k ≤ used) (r : Record K) (u : List (Place K))
      (re : records u ≡ set (records t) used r) (ix : indices u ≡ moved (set (indices t) used used) used k) where
    pub append_index : take (used + 1) (indices u) ≡ insert (take used (indices t)) k used
    append_index = ap (take (used + 1)) ix ∙ take_append (indices t) used k (omega (arith, length-map t (λ p. p.index))) le

    pub append_placed : Placed u (used + 1)
    append_placed = subst (Perm (used + 1)) (sym append_index) (perm_append used (take used (indices t)) placed k)

    pub append_rows : rows u (used + 1) ≡ insert (rows t used) k r
    append_rows =
        ap (picked (records u)) append_index
        ∙ ap (λ l. picked l (insert (take used (indices t)) k used)) re
        ∙ rows_append (records t) used (take used (indices t)) placed fits k r (omega (arith, length-map t (λ p. p.record)))

  -- a record for that at the position a, at the position b
  module _ (a b : ℕ) (la : a < used) (lb : b < used) (r : Record K) (u : List (Place K))
      (re : records u ≡ set (records t) (get_or (indices t) a 0) r) (ix : indices u ≡ moved (indices t) a b) where
    front : take used (indices u) ≡ moved (take used (indices t)) a b
    front =
        ap (take used) ix ∙ take_moved used (indices t) a b (get_or (indices t) a 0) la lb
        ∙ ap (insert (remove (take used (indices t)) a) b) (sym (get_or-take used (indices t) a 0 la))

    pub replace_placed : Placed u used
    replace_placed = subst (Perm used) (sym front) (perm_moved used (take used (indices t)) placed a b (omega (arith, entries)))

    pub replace_rows : rows u used ≡ insert (remove (rows t used) a) b r
    replace_rows =
        ap (picked (records u)) front
        ∙ ap (λ l. picked l (moved (take used (indices t)) a b)) (re ∙ ap (λ i. set (records t) i r) (sym (get_or-take used (indices t) a 0 la)))
        ∙ rows_replace (records t) used (take used (indices t)) placed fits a b r (omega (arith, entries))

-- what is untouched where the records and the index are
pub rows_kept : {K : Type 0} (t u : List (Place K)) (used : ℕ) → records u ≡ records t → indices u ≡ indices t → rows u used ≡ rows t used
rows_kept t u used re ix = ap (λ l. picked l (take used (indices u))) re ∙ ap (λ l. picked (records t) (take used l)) ix

pub placed_kept : {K : Type 0} (t u : List (Place K)) (used : ℕ) → indices u ≡ indices t → Placed t used → Placed u used
placed_kept t u used ix h = subst (λ l. Perm used (take used l)) (sym ix) h
