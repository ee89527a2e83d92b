-- The records of a book rise by key. Assumes nothing.
use Rattle.std.proofs.Common.{◌≡◌, ℕ, Bool, true, false, eqb, ltb, List, [], ◌∷◌, length, sym, refl, subst, ⊎_elim}
use Rattle.std.specs.List.{AllByRecursion}
use Rattle.std.proofs.ByRecursion.{All-weaker}
use Rattle.std.proofs.lemmas.Bool.{both_ways, cond_both, cases_Bool, or_parts, or_from}
use Rattle.counting.specs.declared.Record.{Record}
use Rattle.counting.specs.Rule.{Order, Sorted, same, held, fresh, raised, at_key, enter, least, leave, put_rule, put_new}
use Rattle.counting.proofs.Records.{all_at_key, all_enter, all_leave}

module _ {K : Type 0} (before : K → K → Bool) where
  pub sorted_at_key : (x : K) (f : Record K → Record K) → ((r : Record K) → (f r).key ≡ r.key) → (rs : List (Record K)) → Sorted before rs → Sorted before (at_key before x f rs)
  sorted_at_key x f keeps [] h = tt
  sorted_at_key x f keeps (r ∷ rs) h =
      let rest : AllByRecursion (λ s. before r.key s.key ≡ true) (at_key before x f rs) =
      all_at_key before (λ s. before r.key s.key ≡ true) (λ s. before r.key s.key ≡ true) x f
      (λ s _ p. subst (λ z. before r.key z ≡ true) (sym (keeps s)) p) (λ s _ p. p) rs h.0 in (
        cond_both (same before r.key x) (f r) r (λ v. AllByRecursion (λ s. before v.key s.key ≡ true) (at_key before x f rs))
            (λ _. subst (λ z. AllByRecursion (λ s. before z s.key ≡ true) (at_key before x f rs)) (sym (keeps r)) rest) (λ _. rest),
        sorted_at_key x f keeps rs h.1,
      )

  pub sorted_leave : (c : ℕ) (rs : List (Record K)) → Sorted before rs → Sorted before (leave c rs)
  sorted_leave c [] h = tt
  sorted_leave c (r ∷ rs) h =
      cond_both (eqb r.ins c) rs (r ∷ leave c rs) (Sorted before) (λ _. h.1) (λ _. (all_leave (λ s. before r.key s.key ≡ true) c rs h.0, sorted_leave c rs h.1))

  pub unheld_leave : (x : K) (c : ℕ) (rs : List (Record K)) → held before x rs ≡ false → held before x (leave c rs) ≡ false
  unheld_leave x c [] h = h
  unheld_leave x c (r ∷ rs) h =
      let p = or_parts (same before r.key x) (held before x rs) h in
      cond_both (eqb r.ins c) rs (r ∷ leave c rs) (λ l. held before x l ≡ false) (λ _. p.1)
      (λ _. or_from (same before r.key x) (held before x (leave c rs)) p.0 (unheld_leave x c rs p.1))

  module _ (order : Order before) where
    pub other_way : (a b : K) → same before a b ≡ false → before a b ≡ false → before b a ≡ true
    other_way a b s e =
        ⊎_elim (λ (t : before b a ≡ true). t)
        (λ (f : before b a ≡ false). let t : same before a b ≡ true = rw (e, f) refl in absurd (both_ways _ s t))
        (cases_Bool (before b a))

    pub sorted_enter : (n : Record K) (rs : List (Record K)) → held before n.key rs ≡ false → Sorted before rs → Sorted before (enter before n rs)
    sorted_enter n [] un h = (tt, tt)
    sorted_enter n (r ∷ rs) un h =
        let p = or_parts (same before r.key n.key) (held before n.key rs) un in
        cond_both (before r.key n.key) (r ∷ enter before n rs) (n ∷ r ∷ rs) (Sorted before)
        (λ e. (all_enter before (λ s. before r.key s.key ≡ true) n e rs h.0, sorted_enter n rs p.1 h.1))
        (λ e. let nr : before n.key r.key ≡ true = other_way _ _ p.0 e in
        ((nr, All-weaker (λ s. before r.key s.key ≡ true) (λ s. before n.key s.key ≡ true) (λ s q. order.onward _ _ _ nr q) rs h.0), h))

    pub sorted_put : (width : ℕ) (rs : List (Record K)) (x : K) → Sorted before rs → Sorted before (put_rule before width rs x)
    sorted_put width rs x h =
        cond_both (held before x rs) (at_key before x raised rs) (put_new before width rs x) (Sorted before)
        (λ _. sorted_at_key x raised (λ r. refl) rs h)
        (λ un. cond_both (ltb (length rs) width) (enter before (fresh x 0) rs) (enter before (fresh x (least rs)) (leave (least rs) rs)) (Sorted before)
        (λ _. sorted_enter (fresh x 0) rs un h)
        (λ _. sorted_enter (fresh x (least rs)) (leave (least rs) rs) (unheld_leave x (least rs) rs un) (sorted_leave (least rs) rs h)))
