-- What each record tells of its key, and the ceiling_rule of the others, over a run. Assumes nothing.
use Rattle.std.proofs.Common.{◌≡◌, ℕ, suc, ◌+◌, ◌<◌, ◌≤◌, Bool, true, false, ltb, List, ◌∷◌, length, Ok, Err, sym, refl, ap, ◌∙◌, subst, ⊎_elim, arith}
use Rattle.std.specs.List.{AllByRecursion}
use Rattle.std.proofs.ByRecursion.{All-weaker}
use Rattle.std.proofs.lemmas.Bool.{both_ways, cond_both, cases_Bool, cond-true, cond-false}
use Rattle.counting.specs.declared.Record.{Record}
use Rattle.refusals.specs.declared.Refusal.{Refusal}
use Rattle.counting.specs.Rule.{Order, same, held, fresh, raised, lowered, at_key, enter, least, leave, ceiling_rule, put_rule, put_new, take_rule}
use Rattle.counting.specs.Runs.{Event, put_of, take_of, puts, takes, NeverShort}
use Rattle.counting.proofs.Records.{all_at_key, all_enter, all_leave, length_at_key, length_enter, length_leave, held_at_key, held_enter, held_leave, held_none, least_below, ceiling_more, same_is, same_from}

pub record Tells {K : Type 0} (before : K → K → Bool) (x : K) (es : List (Event K)) (r : Record K) : Type 0 where
  pub in_all : puts before x es ≤ r.ins
  pub above : puts before x es + r.outs ≤ r.ins + takes before x es
  pub below : NeverShort before x es → r.ins + takes before x es ≤ puts before x es + r.outs + r.slack

pub record Good {K : Type 0} (before : K → K → Bool) (x : K) (es : List (Event K)) (width : ℕ) (rs : List (Record K)) : Type 0 where
  pub tells : AllByRecursion (λ r. same before r.key x ≡ true → Tells before x es r) rs
  pub unheld : held before x rs ≡ false → puts before x es ≤ ceiling_rule width rs

module _ {K : Type 0} (before : K → K → Bool) (order : Order before) (x : K) (es : List (Event K)) (k : K) where
  one : same before k x ≡ true → puts before x (put_of k (Ok tt) ∷ es) ≡ 1 + puts before x es
  one e = ap (λ n. n + puts before x es) (cond-true (same before k x) 1 0 e)

  none : same before k x ≡ false → puts before x (put_of k (Ok tt) ∷ es) ≡ 0 + puts before x es
  none e = ap (λ n. n + puts before x es) (cond-false (same before k x) 1 0 e)

  one_out : same before k x ≡ true → takes before x (take_of k (Ok tt) ∷ es) ≡ 1 + takes before x es
  one_out e = ap (λ n. n + takes before x es) (cond-true (same before k x) 1 0 e)

  none_out : same before k x ≡ false → takes before x (take_of k (Ok tt) ∷ es) ≡ 0 + takes before x es
  none_out e = ap (λ n. n + takes before x es) (cond-false (same before k x) 1 0 e)

  tells_raised : same before k x ≡ true → (r : Record K) → Tells before x es r → Tells before x (put_of k (Ok tt) ∷ es) (raised r)
  tells_raised e r h = let a = one e in record {
    in_all = omega (arith, h.in_all);
    above = omega (arith, h.above);
    below = λ fair. omega (arith, h.below (λ n. fair (suc n)));
  }

  tells_other : same before k x ≡ false → (r : Record K) → Tells before x es r → Tells before x (put_of k (Ok tt) ∷ es) r
  tells_other e r h = let a = none e in record {
    in_all = omega (arith, h.in_all);
    above = omega (arith, h.above);
    below = λ fair. omega (arith, h.below (λ n. fair (suc n)));
  }

  tells_fresh : same before k x ≡ true → (c : ℕ) → puts before x es ≤ c → Tells before x (put_of k (Ok tt) ∷ es) (fresh k c)
  tells_fresh e c h = let a = one e in record {
    in_all = omega arith;
    above = omega arith;
    below = λ fair. let f : takes before x es ≤ puts before x es = fair 1 in omega arith;
  }

  tells_lowered : same before k x ≡ true → (r : Record K) → Tells before x es r → Tells before x (take_of k (Ok tt) ∷ es) (lowered r)
  tells_lowered e r h = let a = one_out e in record {
    in_all = h.in_all;
    above = omega (arith, h.above);
    below = λ fair. omega (arith, h.below (λ n. fair (suc n)));
  }

  tells_beside : same before k x ≡ false → (r : Record K) → Tells before x es r → Tells before x (take_of k (Ok tt) ∷ es) r
  tells_beside e r h = let a = none_out e in record {
    in_all = h.in_all;
    above = omega (arith, h.above);
    below = λ fair. omega (arith, h.below (λ n. fair (suc n)));
  }

  Said : List (Event K) → Record K → Type 0
  Said fs r = same before r.key x ≡ true → Tells before x fs r

  -- one record changed: that of k
  changed : (fs : List (Event K)) (f : Record K → Record K) → ((r : Record K) → (f r).key ≡ r.key)
      → (same before k x ≡ true → (r : Record K) → Tells before x es r → Tells before x fs (f r))
      → (same before k x ≡ false → (r : Record K) → Tells before x es r → Tells before x fs r)
      → (rs : List (Record K)) → AllByRecursion (Said es) rs → AllByRecursion (Said fs) (at_key before k f rs)
  unfolding Said
  changed fs f keeps hit miss rs all =
      all_at_key before (Said es) (Said fs) k f
      (λ r s p q.
      let rx : r.key ≡ x = same_is before order _ _ (subst (λ z. same before z x ≡ true) (keeps r) q) in
      let rk : r.key ≡ k = same_is before order _ _ s in
      hit (same_from before order k x (sym rk ∙ rx)) r (p (same_from before order _ _ rx)))
      (λ r s p q.
      ⊎_elim
      (λ (e : same before k x ≡ true).
      absurd (both_ways _ s (same_from before order _ _ (same_is before order _ _ q ∙ sym (same_is before order _ _ e)))))
      (λ (e : same before k x ≡ false). miss e r (p q))
      (cases_Bool (same before k x)))
      rs all

  pub floor_kept : (f : Record K → Record K) → ((r : Record K) → r.ins ≤ (f r).ins) → (width : ℕ) → 0 < width → (rs : List (Record K)) → ceiling_rule width rs ≤ ceiling_rule width (at_key before k f rs)
  floor_kept f up width pos rs =
      ceiling_more width rs (at_key before k f rs) pos (omega (arith, length_at_key before k f rs))
      (all_at_key before (λ r. least rs ≤ r.ins) (λ r. least rs ≤ r.ins) k f (λ r _ h. omega (arith, up r)) (λ r _ h. h) rs (least_below rs))

  entered : (c width : ℕ) (ss : List (Record K)) → AllByRecursion (Said (put_of k (Ok tt) ∷ es)) ss → (same before k x ≡ true → puts before x es ≤ c)
      → (held before x ss ≡ false → puts before x es ≤ ceiling_rule width (enter before (fresh k c) ss)) → Good before x (put_of k (Ok tt) ∷ es) width (enter before (fresh k c) ss)
  unfolding Said
  entered c width ss said fits rest = record {
    tells = all_enter before (Said (put_of k (Ok tt) ∷ es)) (fresh k c) (λ q. tells_fresh q c (fits q)) ss said;
    unheld = λ h. let p = held_enter before x (fresh k c) ss h in omega (arith, none p.0, rest p.1);
  }

  pub put_good : (width : ℕ) (rs : List (Record K)) → 0 < width → Good before x es width rs → Good before x (put_of k (Ok tt) ∷ es) width (put_rule before width rs k)
  unfolding Said
  put_good width rs pos good =
      let es' : List (Event K) = put_of k (Ok tt) ∷ es in
      let Goal : List (Record K) → Type 0 = Good before x es' width in
      let at_x : held before k rs ≡ false → same before k x ≡ true → held before x rs ≡ false =
      λ nothing e. subst (λ z. held before z rs ≡ false) (same_is before order _ _ e) nothing in
      let said-rest : held before k rs ≡ false → AllByRecursion (Said es') rs = λ nothing.
      ⊎_elim
      (λ (e : same before k x ≡ true).
      All-weaker (λ r. same before r.key x ≡ false) (Said es') (λ r p q. absurd (both_ways _ p q)) rs (held_none before x rs (at_x nothing e)))
      (λ (e : same before k x ≡ false). All-weaker (Said es) (Said es') (λ r p q. tells_other e r (p q)) rs good.tells)
      (cases_Bool (same before k x)) in
      cond_both (held before k rs) (at_key before k raised rs) (put_new before width rs k) Goal
      (λ there. record {
        tells = changed es' raised (λ r. refl) tells_raised tells_other rs good.tells;
        unheld = λ h.
            let hx : held before x rs ≡ false = sym (held_at_key before x k raised (λ r. refl) rs) ∙ h in
            ⊎_elim
            (λ (e : same before k x ≡ true). absurd (both_ways _ hx (subst (λ z. held before z rs ≡ true) (same_is before order _ _ e) there)))
            (λ (e : same before k x ≡ false). omega (arith, none e, good.unheld hx, floor_kept raised (λ r. omega arith) width pos rs))
            (cases_Bool (same before k x));
      })
      (λ nothing.
      cond_both (ltb (length rs) width) (enter before (fresh k 0) rs) (enter before (fresh k (least rs)) (leave (least rs) rs)) Goal
      (λ room.
      let c : ceiling_rule width rs ≡ 0 = cond-true _ 0 (least rs) room in
      entered 0 width rs (said-rest nothing)
      (λ e. omega (arith, c, good.unheld (at_x nothing e)))
      (λ h. omega (arith, c, good.unheld h)))
      (λ full.
      let m : ℕ = least rs in
      let ss : List (Record K) = leave m rs in
      let c : ceiling_rule width rs ≡ m = cond-false _ 0 (least rs) full in
      let up : ceiling_rule width rs ≤ ceiling_rule width (enter before (fresh k m) ss) =
      ceiling_more width rs (enter before (fresh k m) ss) pos (omega (arith, length_leave m rs, length_enter before (fresh k m) ss))
      (all_enter before (λ r. m ≤ r.ins) (fresh k m) (omega arith) ss (all_leave (λ r. m ≤ r.ins) m rs (least_below rs))) in
      entered m width ss (all_leave (Said es') m rs (said-rest nothing))
      (λ e. omega (arith, c, good.unheld (at_x nothing e)))
      (λ h. ⊎_elim
      (λ (n : held before x rs ≡ false). omega (arith, up, good.unheld n))
      (λ (n : puts before x es ≤ m). omega (arith, up, c))
      (held_leave before x m (puts before x es) rs (All-weaker (Said es) (λ r. same before r.key x ≡ true → puts before x es ≤ r.ins) (λ r p q. (p q).in_all) rs good.tells) h))))

  pub take_good : (width : ℕ) (rs : List (Record K)) → 0 < width → Good before x es width rs → Good before x (take_of k (Ok tt) ∷ es) width (take_rule before rs k)
  unfolding Said
  take_good width rs pos good = record {
    tells = changed (take_of k (Ok tt) ∷ es) lowered (λ r. refl) tells_lowered tells_beside rs good.tells;
    unheld = λ h.
        let hx : held before x rs ≡ false = sym (held_at_key before x k lowered (λ r. refl) rs) ∙ h in
        omega (arith, good.unheld hx, floor_kept lowered (λ r. omega arith) width pos rs);
  }

module _ {K : Type 0} (before : K → K → Bool) (order : Order before) where
  -- a call that was refused counts nothing
  pub idle_put : (x k : K) (es : List (Event K)) (f : Refusal) (width : ℕ) (rs : List (Record K)) → Good before x es width rs → Good before x (put_of k (Err f) ∷ es) width rs
  idle_put x k es f width rs good = record {
    tells = All-weaker (λ r. same before r.key x ≡ true → Tells before x es r) (λ r. same before r.key x ≡ true → Tells before x (put_of k (Err f) ∷ es) r)
        (λ r p q. let h = p q in record { in_all = omega (arith, h.in_all); above = omega (arith, h.above); below = λ fair. omega (arith, h.below (λ n. fair (suc n))) }) rs good.tells;
    unheld = λ h. omega (arith, good.unheld h);
  }

  pub idle_take : (x k : K) (es : List (Event K)) (f : Refusal) (width : ℕ) (rs : List (Record K)) → Good before x es width rs → Good before x (take_of k (Err f) ∷ es) width rs
  idle_take x k es f width rs good = record {
    tells = All-weaker (λ r. same before r.key x ≡ true → Tells before x es r) (λ r. same before r.key x ≡ true → Tells before x (take_of k (Err f) ∷ es) r)
        (λ r p q. let h = p q in record { in_all = omega (arith, h.in_all); above = omega (arith, h.above); below = λ fair. omega (arith, h.below (λ n. fair (suc n))) }) rs good.tells;
    unheld = λ h. good.unheld h;
  }
