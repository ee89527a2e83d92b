-- Sums and lengths of the records under the counting rule. Assumes nothing.
use Rattle.std.proofs.Common.{◌≡◌, ℕ, suc, ◌+◌, ◌*◌, ◌<◌, ◌≤◌, Bool, true, false, ◌||◌, eqb, ltb, ◌≢◌, ◌⊎◌, List, [], ◌∷◌, length, sym, refl, ap, ◌∙◌, subst, inl, inr, ⊎_elim, add-mul, arith}
use Rattle.std.specs.List.{AllByRecursion}
use Rattle.std.proofs.ByRecursion.{All-weaker}
use Rattle.std.proofs.lemmas.Bool.{both_ways, cond_both, cond-true, cond-false, cases_Bool, or_parts, eqb-true, eqb-false, ltb-false, ltb-true}
use Rattle.counting.specs.declared.Record.{Record}
use Rattle.counting.specs.Rule.{Order, Sorted, same, held, fresh, raised, at_key, enter, least_from, least, leave, put_rule, put_new, high, low, high_of_record, low_of_record}
use Rattle.counting.specs.Laws.{ins_sum}
use Rattle.counting.proofs.Records.{length_at_key, length_enter, same_is}

pub sum_floor : {K : Type 0} (c : ℕ) (rs : List (Record K)) → AllByRecursion (λ r. c ≤ r.ins) rs → length rs * c ≤ ins_sum rs
sum_floor c [] h = omega arith
sum_floor c (r ∷ rs) h = omega (arith, sum_floor c rs h.1, h.0, add-mul 1 (length rs) c)

-- one with the count in c leaves, if there is one
leave_cases : {K : Type 0} (c : ℕ) (rs : List (Record K))
    → ((c + ins_sum (leave c rs) ≡ ins_sum rs) × (suc (length (leave c rs)) ≡ length rs)) ⊎ AllByRecursion (λ r. r.ins ≢ c) rs
leave_cases c [] = inr tt
leave_cases c (r ∷ rs) =
    ⊎_elim
    (λ (e : eqb r.ins c ≡ true).
    let l : leave c (r ∷ rs) ≡ rs = cond-true (eqb r.ins c) rs (r ∷ leave c rs) e in
    let s = ap ins_sum l in let n = ap length l in let z = eqb-true r.ins c e in
    inl (omega arith, omega arith))
    (λ (e : eqb r.ins c ≡ false).
    let l : leave c (r ∷ rs) ≡ r ∷ leave c rs = cond-false (eqb r.ins c) rs (r ∷ leave c rs) e in
    let s = ap ins_sum l in let n = ap length l in
    ⊎_elim
    (λ (p : (c + ins_sum (leave c rs) ≡ ins_sum rs) × (suc (length (leave c rs)) ≡ length rs)). inl (omega (arith, p.0), omega (arith, p.1)))
    (λ (p : AllByRecursion (λ q. q.ins ≢ c) rs). inr (eqb-false r.ins c e, p))
    (leave_cases c rs))
    (cases_Bool (eqb r.ins c))

least_from_one : {K : Type 0} (m : ℕ) (rs : List (Record K)) → AllByRecursion (λ r. r.ins ≢ least_from m rs) rs → least_from m rs ≡ m
least_from_one m [] h = refl
least_from_one m (r ∷ rs) h =
    let n : least_from m (r ∷ rs) ≡ least_from m rs = omega (arith, h.0) in
    n ∙ least_from_one m rs (All-weaker (λ q. q.ins ≢ least_from m (r ∷ rs)) (λ q. q.ins ≢ least_from m rs) (λ q ne e. ne (e ∙ sym n)) rs h.1)

pub leave_least : {K : Type 0} (rs : List (Record K)) → 0 < length rs → (least rs + ins_sum (leave (least rs) rs) ≡ ins_sum rs) × (suc (length (leave (least rs) rs)) ≡ length rs)
leave_least [] lt = absurd (omega arith)
leave_least (r ∷ rs) lt =
    ⊎_elim (λ p. p)
    (λ (none : AllByRecursion (λ q. q.ins ≢ least (r ∷ rs)) (r ∷ rs)). absurd (none.0 (sym (least_from_one r.ins rs none.1))))
    (leave_cases (least (r ∷ rs)) (r ∷ rs))

module _ {K : Type 0} (before : K → K → Bool) where
  sum_enter : (n : Record K) (rs : List (Record K)) → ins_sum (enter before n rs) ≡ n.ins + ins_sum rs
  sum_enter n [] = refl
  sum_enter n (r ∷ rs) =
      cond_both (before r.key n.key) (r ∷ enter before n rs) (n ∷ r ∷ rs) (λ l. ins_sum l ≡ n.ins + ins_sum (r ∷ rs))
      (λ _. omega (arith, sum_enter n rs)) (λ _. refl)

  module _ (order : Order before) where
    -- after a record with the key x no other of a sorted list has it
    pub only : (x : K) (r : Record K) (rs : List (Record K)) → same before r.key x ≡ true → AllByRecursion (λ s. before r.key s.key ≡ true) rs
        → AllByRecursion (λ s. same before s.key x ≡ false) rs
    only x r rs e h =
        All-weaker (λ s. before r.key s.key ≡ true) (λ s. same before s.key x ≡ false)
        (λ s p.
        ⊎_elim
        (λ (t : same before s.key x ≡ true).
        absurd (both_ways _ (order.never r.key) (subst (λ z. before r.key z ≡ true) (same_is before order _ _ t ∙ sym (same_is before order _ _ e)) p)))
        (λ (f : same before s.key x ≡ false). f)
        (cases_Bool (same before s.key x)))
        rs h

    pub at_key_none : (x : K) (f : Record K → Record K) (rs : List (Record K)) → AllByRecursion (λ s. same before s.key x ≡ false) rs → at_key before x f rs ≡ rs
    at_key_none x f [] h = refl
    at_key_none x f (r ∷ rs) h = ap (λ v. v ∷ at_key before x f rs) (cond-false (same before r.key x) (f r) r h.0) ∙ ap (λ l. r ∷ l) (at_key_none x f rs h.1)

    sum_raised : (x : K) (rs : List (Record K)) → Sorted before rs → held before x rs ≡ true → ins_sum (at_key before x raised rs) ≡ ins_sum rs + 1
    sum_raised x [] so h = absurd (both_ways _ refl h)
    sum_raised x (r ∷ rs) so h =
        ⊎_elim
        (λ (e : same before r.key x ≡ true).
        let a = ap (λ (v : Record K). v.ins) (cond-true (same before r.key x) (raised r) r e) in
        let b = ap ins_sum (at_key_none x raised rs (only x r rs e so.0)) in
        omega arith)
        (λ (e : same before r.key x ≡ false).
        let a = ap (λ (v : Record K). v.ins) (cond-false (same before r.key x) (raised r) r e) in
        let rest : held before x rs ≡ true = ap (λ b. b || held before x rs) (sym e) ∙ h in
        omega (arith, sum_raised x rs so.1 rest))
        (cases_Bool (same before r.key x))

    pub sum_put : (width : ℕ) (rs : List (Record K)) (x : K) → 0 < width → Sorted before rs → ins_sum (put_rule before width rs x) ≡ ins_sum rs + 1
    sum_put width rs x pos so =
        cond_both (held before x rs) (at_key before x raised rs) (put_new before width rs x) (λ l. ins_sum l ≡ ins_sum rs + 1)
        (λ there. sum_raised x rs so there)
        (λ _. cond_both (ltb (length rs) width) (enter before (fresh x 0) rs) (enter before (fresh x (least rs)) (leave (least rs) rs)) (λ l. ins_sum l ≡ ins_sum rs + 1)
        (λ _. omega (arith, sum_enter (fresh x 0) rs))
        (λ full.
        let w = ltb-false (length rs) width full in
        omega (arith, sum_enter (fresh x (least rs)) (leave (least rs) rs), (leave_least rs (omega arith)).0)))

    pub fits_put : (width : ℕ) (rs : List (Record K)) (x : K) → 0 < width → length rs ≤ width → length (put_rule before width rs x) ≤ width
    fits_put width rs x pos fits =
        cond_both (held before x rs) (at_key before x raised rs) (put_new before width rs x) (λ l. length l ≤ width)
        (λ _. omega (arith, length_at_key before x raised rs))
        (λ _. cond_both (ltb (length rs) width) (enter before (fresh x 0) rs) (enter before (fresh x (least rs)) (leave (least rs) rs)) (λ l. length l ≤ width)
        (λ room. let w = ltb-true (length rs) width room in omega (arith, length_enter before (fresh x 0) rs))
        (λ full.
        let w = ltb-false (length rs) width full in
        omega (arith, length_enter before (fresh x (least rs)) (leave (least rs) rs), (leave_least rs (omega arith)).1)))

    -- the bounds of a held key are its record's
    pub bounds_held : (x : K) (c : ℕ) (rs : List (Record K)) → Sorted before rs
        → AllByRecursion (λ r. same before r.key x ≡ true → (high before c rs x ≡ high_of_record r) × (low before rs x ≡ low_of_record r)) rs
    bounds_held x c [] so = tt
    bounds_held x c (r ∷ rs) so = (
      (λ e. (cond-true (same before r.key x) (high_of_record r) (high before c rs x) e, cond-true (same before r.key x) (low_of_record r) (low before rs x) e)),
      ⊎_elim
          (λ (e : same before r.key x ≡ true).
          All-weaker (λ s. same before s.key x ≡ false) (λ s. same before s.key x ≡ true → (high before c (r ∷ rs) x ≡ high_of_record s) × (low before (r ∷ rs) x ≡ low_of_record s))
          (λ s n y. absurd (both_ways _ n y)) rs (only x r rs e so.0))
          (λ (e : same before r.key x ≡ false).
          All-weaker (λ s. same before s.key x ≡ true → (high before c rs x ≡ high_of_record s) × (low before rs x ≡ low_of_record s))
          (λ s. same before s.key x ≡ true → (high before c (r ∷ rs) x ≡ high_of_record s) × (low before (r ∷ rs) x ≡ low_of_record s))
          (λ s p y. let q = p y in
          (cond-false (same before r.key x) (high_of_record r) (high before c rs x) e ∙ q.0, cond-false (same before r.key x) (low_of_record r) (low before rs x) e ∙ q.1))
          rs (bounds_held x c rs so.1))
          (cases_Bool (same before r.key x)),
    )

  pub bounds_none : (x : K) (c : ℕ) (rs : List (Record K)) → held before x rs ≡ false → (high before c rs x ≡ c) × (low before rs x ≡ 0)
  bounds_none x c [] h = (refl, refl)
  bounds_none x c (r ∷ rs) h =
      let p = or_parts (same before r.key x) (held before x rs) h in
      let q = bounds_none x c rs p.1 in
      (cond-false (same before r.key x) (high_of_record r) (high before c rs x) p.0 ∙ q.0, cond-false (same before r.key x) (low_of_record r) (low before rs x) p.0 ∙ q.1)
