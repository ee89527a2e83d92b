-- The rules at a position of a sorted list. Assumes nothing.
use Rattle.std.proofs.Common.{◌≡◌, ℕ, zero, suc, ◌+◌, ◌-◌, ◌<◌, ◌≤◌, Bool, true, false, cond, ltb, List, [], ◌∷◌, length, get_or, set, sym, refl, ap, ◌∙◌, subst, ⊎_elim, arith}
use Rattle.std.specs.List.{insert, remove}
use Rattle.std.proofs.ByRecursion.{All-weaker, All-get_or}
use Rattle.std.proofs.lemmas.Bool.{both_ways, cond-true, cond-false, cases_Bool, cases_lt, or_from, or_left, or_right, lt-ltb, le-ltb}
use Rattle.std.proofs.lemmas.List.Edits.{length-remove, get_or-remove_below, get_or-remove_above}
use Rattle.counting.specs.declared.Record.{Record}
use Rattle.counting.specs.Rule.{Order, Sorted, same, held, at_key, enter}
use Rattle.places.specs.Rows.{changed}
use Rattle.counting.proofs.Records.{same_from}
use Rattle.counting.proofs.Sums.{at_key_none}
use Rattle.index.specs.Search.{Edge, Gap}

pub changed_is : {X : Type 0} (xs : List X) (i : ℕ) (d : X) (f : X → X) → set xs i (f (get_or xs i d)) ≡ changed xs i f
changed_is [] i d f = refl
changed_is (x ∷ xs) zero d f = refl
changed_is (x ∷ xs) (suc i) d f = ap (λ l. x ∷ l) (changed_is xs i d f)

module _ {K : Type 0} (before : K → K → Bool) where
  pub ahead : (a b : K) → before a b ≡ true → same before a b ≡ false
  ahead a b e = rw e refl

  pub behind : (a b : K) → before b a ≡ true → same before a b ≡ false
  behind a b e =
      ⊎_elim (λ (t : before a b ≡ true). rw t refl) (λ (f : before a b ≡ false). rw (f, e) refl) (cases_Bool (before a b))

  -- where the records left of r are before the key and the one at r is not
  pub enter_at : (n : Record K) (rs : List (Record K)) (r : ℕ) → r ≤ length rs → ((i : ℕ) (d : Record K) → i < r → before (get_or rs i d).key n.key ≡ true)
      → ((d : Record K) → r < length rs → before (get_or rs r d).key n.key ≡ false) → enter before n rs ≡ insert rs r n
  enter_at n [] zero le below here = refl
  enter_at n [] (suc r) le below here = absurd (omega arith)
  enter_at n (q ∷ rs) zero le below here = cond-false (before q.key n.key) (q ∷ enter before n rs) (n ∷ q ∷ rs) (here q (omega arith))
  enter_at n (q ∷ rs) (suc r) le below here =
      cond-true (before q.key n.key) (q ∷ enter before n rs) (n ∷ q ∷ rs) (below 0 q (omega arith))
      ∙ ap (λ l. q ∷ l) (enter_at n rs r (omega arith) (λ i d lt. below (suc i) d (omega arith)) (λ d lt. here d (omega arith)))

  pub held_none : (x : K) (rs : List (Record K)) → ((i : ℕ) (d : Record K) → i < length rs → same before (get_or rs i d).key x ≡ false) → held before x rs ≡ false
  held_none x [] h = refl
  held_none x (r ∷ rs) h = or_from (same before r.key x) (held before x rs) (h 0 r (omega arith)) (held_none x rs (λ i d lt. h (suc i) d (omega arith)))

  pub held_at : (x : K) (rs : List (Record K)) (r : ℕ) (d : Record K) → r < length rs → same before (get_or rs r d).key x ≡ true → held before x rs ≡ true
  held_at x [] r d lt e = absurd (omega arith)
  held_at x (q ∷ rs) zero d lt e = or_left (same before q.key x) (held before x rs) e
  held_at x (q ∷ rs) (suc r) d lt e = or_right (same before q.key x) (held before x rs) (held_at x rs r d (omega arith) e)

  pub sorted_at : (rs : List (Record K)) (i j : ℕ) (d : Record K) → Sorted before rs → i < j → j < length rs → before (get_or rs i d).key (get_or rs j d).key ≡ true
  sorted_at [] i j d so lt in' = absurd (omega arith)
  sorted_at (q ∷ rs) i zero d so lt in' = absurd (omega arith)
  sorted_at (q ∷ rs) zero (suc j) d so lt in' = All-get_or (λ s. before q.key s.key ≡ true) rs j d (omega arith) so.0
  sorted_at (q ∷ rs) (suc i) (suc j) d so lt in' = sorted_at rs i j d so.1 (omega arith) (omega arith)

  module _ (order : Order before) where
    pub at_key_at : (x : K) (f : Record K → Record K) (rs : List (Record K)) (r : ℕ) (d : Record K) → Sorted before rs → r < length rs
        → (get_or rs r d).key ≡ x → at_key before x f rs ≡ changed rs r f
    at_key_at x f [] r d so lt e = absurd (omega arith)
    at_key_at x f (q ∷ rs) zero d so lt e =
        ap (λ v. v ∷ at_key before x f rs) (cond-true (same before q.key x) (f q) q (same_from before order _ _ e))
        ∙ ap (λ l. f q ∷ l) (at_key_none before order x f rs (All-weaker (λ s. before q.key s.key ≡ true) (λ s. same before s.key x ≡ false)
        (λ s p. behind s.key x (subst (λ z. before z s.key ≡ true) e p)) rs so.0))
    at_key_at x f (q ∷ rs) (suc r) d so lt e =
        ap (λ v. v ∷ at_key before x f rs) (cond-false (same before q.key x) (f q) q
        (ahead _ _ (subst (λ z. before q.key z ≡ true) e (All-get_or (λ s. before q.key s.key ≡ true) rs r d (omega arith) so.0))))
        ∙ ap (λ l. q ∷ l) (at_key_at x f rs r d so.1 (omega arith) e)

    module _ (rs : List (Record K)) (so : Sorted before rs) (x : K) (r : ℕ) where
      -- all that is left of an edge is before the key, and nothing right of it
      pub edge_below : Edge before rs x r → (i : ℕ) (d : Record K) → i < r → before (get_or rs i d).key x ≡ true
      edge_below ed i d lt =
          let w = ed.within in
          ⊎_elim
          (λ (l : i < r - 1). order.onward _ _ _ (sorted_at rs i (r - 1) d so l (omega arith)) (ed.under d (omega arith)))
          (λ (ge : r - 1 ≤ i). let e : i ≡ r - 1 = omega arith in subst (λ z. before (get_or rs z d).key x ≡ true) (sym e) (ed.under d (omega arith)))
          (cases_lt i (r - 1))

      pub edge_above : Edge before rs x r → (i : ℕ) (d : Record K) → r ≤ i → i < length rs → before (get_or rs i d).key x ≡ false
      edge_above ed i d ge lt =
          ⊎_elim
          (λ (l : r < i). ⊎_elim
          (λ (t : before (get_or rs i d).key x ≡ true). absurd (both_ways _ (ed.here d (omega arith)) (order.onward _ _ _ (sorted_at rs r i d so l lt) t)))
          (λ (f : before (get_or rs i d).key x ≡ false). f)
          (cases_Bool (before (get_or rs i d).key x)))
          (λ (le : i ≤ r). let e : r ≡ i = omega arith in subst (λ z. before (get_or rs z d).key x ≡ false) e (ed.here d (omega arith)))
          (cases_lt r i)

      pub edge_enter : (n : Record K) → n.key ≡ x → Edge before rs x r → enter before n rs ≡ insert rs r n
      edge_enter n e ed = enter_at n rs r ed.within
          (λ i d lt. subst (λ z. before (get_or rs i d).key z ≡ true) (sym e) (edge_below ed i d lt))
          (λ d lt. subst (λ z. before (get_or rs r d).key z ≡ false) (sym e) (ed.here d lt))

      pub gap_edge : Gap before rs x r → Edge before rs x r
      gap_edge ga = record {
        within = ga.within;
        under = ga.under;
        here = λ d lt. ⊎_elim
            (λ (t : before (get_or rs r d).key x ≡ true). absurd (both_ways _ (order.never x) (order.onward _ _ _ (ga.over d lt) t)))
            (λ (f : before (get_or rs r d).key x ≡ false). f)
            (cases_Bool (before (get_or rs r d).key x));
      }

      pub gap_unheld : Gap before rs x r → held before x rs ≡ false
      gap_unheld ga = held_none x rs (λ i d lt. ⊎_elim
          (λ (l : i < r). ahead _ _ (edge_below (gap_edge ga) i d l))
          (λ (ge : r ≤ i). ⊎_elim
          (λ (l : r < i). behind _ _ (order.onward _ _ _ (ga.over d (omega arith)) (sorted_at rs r i d so l lt)))
          (λ (le : i ≤ r). let e : r ≡ i = omega arith in behind _ _ (subst (λ z. before x (get_or rs z d).key ≡ true) e (ga.over d (omega arith))))
          (cases_lt r i))
          (cases_lt i r))

      -- where the key enters once the record at a has left
      pub gap_removed : (n : Record K) → n.key ≡ x → Gap before rs x r → (a : ℕ) → a < length rs
          → enter before n (remove rs a) ≡ insert (remove rs a) (cond (ltb a r) (r - 1) r) n
      gap_removed n e ga a la =
          let ed = gap_edge ga in
          let less = length-remove rs a la in
          let w = ga.within in
          let below : (i : ℕ) (d : Record K) → i < length rs → i < r → before (get_or rs i d).key n.key ≡ true =
          λ i d _ lt. subst (λ z. before (get_or rs i d).key z ≡ true) (sym e) (edge_below ed i d lt) in
          let above : (i : ℕ) (d : Record K) → r ≤ i → i < length rs → before (get_or rs i d).key n.key ≡ false =
          λ i d ge lt. subst (λ z. before (get_or rs i d).key z ≡ false) (sym e) (edge_above ed i d ge lt) in
          let low : (i : ℕ) (d : Record K) → i < a → (get_or (remove rs a) i d).key ≡ (get_or rs i d).key =
          λ i d lt. ap (λ (s : Record K). s.key) (get_or-remove_below rs a d i lt la) in
          let high : (i : ℕ) (d : Record K) → a ≤ i → (get_or (remove rs a) i d).key ≡ (get_or rs (i + 1) d).key =
          λ i d ge. ap (λ (s : Record K). s.key) (get_or-remove_above rs a d i ge la) in
          ⊎_elim
          (λ (lt : a < r).
          enter_at n (remove rs a) (r - 1) (omega arith)
          (λ i d li. ⊎_elim
          (λ (l : i < a). ap (λ z. before z n.key) (low i d l) ∙ below i d (omega arith) (omega arith))
          (λ (ge : a ≤ i). ap (λ z. before z n.key) (high i d ge) ∙ below (i + 1) d (omega arith) (omega arith))
          (cases_lt i a))
          (λ d li. ap (λ z. before z n.key) (high (r - 1) d (omega arith)) ∙ above (r - 1 + 1) d (omega arith) (omega arith))
          ∙ ap (λ k. insert (remove rs a) k n) (sym (cond-true (ltb a r) (r - 1) r (lt-ltb a r lt))))
          (λ (ge : r ≤ a).
          enter_at n (remove rs a) r (omega arith)
          (λ i d li. ap (λ z. before z n.key) (low i d (omega arith)) ∙ below i d (omega arith) li)
          (λ d li. ⊎_elim
          (λ (l : r < a). ap (λ z. before z n.key) (low r d l) ∙ above r d (omega arith) (omega arith))
          (λ (g : a ≤ r). ap (λ z. before z n.key) (high r d g) ∙ above (r + 1) d (omega arith) (omega arith))
          (cases_lt r a))
          ∙ ap (λ k. insert (remove rs a) k n) (sym (cond-false (ltb a r) (r - 1) r (le-ltb a r ge))))
          (cases_lt a r)
