-- The rules, element by element. Assumes nothing.
use Rattle.std.proofs.Common.{◌≡◌, ℕ, suc, ◌<◌, ◌≤◌, Bool, true, false, ◌||◌, eqb, ltb, ◌⊎◌, List, [], ◌∷◌, length, refl, ap, ◌∙◌, subst, inl, inr, ⊎_elim, arith}
use Rattle.std.specs.List.{AllByRecursion}
use Rattle.std.proofs.ByRecursion.{All-weaker}
use Rattle.std.proofs.lemmas.Bool.{not-true, or_parts, or_from, cond_both, cases_Bool, eqb-true, le-ltb, ltb-false}
use Rattle.counting.specs.declared.Record.{Record}
use Rattle.counting.specs.Rule.{Order, same, held, at_key, enter, least_from, least, leave, ceiling_rule}

pub all_both : {X : Type 0} (P Q : X → Type 0) (xs : List X) → AllByRecursion P xs → AllByRecursion Q xs → AllByRecursion (λ x. P x × Q x) xs
all_both P Q [] p q = tt
all_both P Q (x ∷ xs) p q = ((p.0, q.0), all_both P Q xs p.1 q.1)

pub all_turn : {X Y : Type 0} (P : Y → X → Type 0) (xs : List X) → ((y : Y) → AllByRecursion (P y) xs) → AllByRecursion (λ x. (y : Y) → P y x) xs
all_turn P [] h = tt
all_turn P (x ∷ xs) h = ((λ y. (h y).0), all_turn P xs (λ y. (h y).1))

pub least_from_below : {K : Type 0} (m : ℕ) (rs : List (Record K)) → AllByRecursion (λ r. least_from m rs ≤ r.ins) rs × (least_from m rs ≤ m)
least_from_below m [] = (tt, omega arith)
least_from_below m (r ∷ rs) =
    let ih = least_from_below m rs in
    ((omega arith, All-weaker (λ s. least_from m rs ≤ s.ins) (λ s. least_from m (r ∷ rs) ≤ s.ins) (λ s h. omega arith) rs ih.0), omega arith)

pub least_below : {K : Type 0} (rs : List (Record K)) → AllByRecursion (λ r. least rs ≤ r.ins) rs
least_below [] = tt
least_below (r ∷ rs) = let b = least_from_below r.ins rs in (b.1, b.0)

pub least_from_above : {K : Type 0} (c m : ℕ) (rs : List (Record K)) → c ≤ m → AllByRecursion (λ r. c ≤ r.ins) rs → c ≤ least_from m rs
least_from_above c m [] le h = le
least_from_above c m (r ∷ rs) le h = let ih = least_from_above c m rs le h.1 in omega (arith, h.0)

pub least_above : {K : Type 0} (c : ℕ) (rs : List (Record K)) → 0 < length rs → AllByRecursion (λ r. c ≤ r.ins) rs → c ≤ least rs
least_above c [] lt h = absurd (omega arith)
least_above c (r ∷ rs) lt h = least_from_above c r.ins rs h.0 h.1

pub ceiling_more : {K : Type 0} (width : ℕ) (rs ss : List (Record K)) → 0 < width → length rs ≤ length ss → AllByRecursion (λ r. least rs ≤ r.ins) ss → ceiling_rule width rs ≤ ceiling_rule width ss
ceiling_more width rs ss pos le h =
    cond_both (ltb (length rs) width) 0 (least rs) (λ c. c ≤ ceiling_rule width ss)
    (λ _. omega arith)
    (λ e. let w = ltb-false (length rs) width e in
    let f : ltb (length ss) width ≡ false = le-ltb (length ss) width (omega arith) in
    rw f (least_above (least rs) ss (omega arith) h))

pub all_leave : {K : Type 0} (P : Record K → Type 0) (c : ℕ) (rs : List (Record K)) → AllByRecursion P rs → AllByRecursion P (leave c rs)
all_leave P c [] h = tt
all_leave P c (r ∷ rs) h = cond_both (eqb r.ins c) rs (r ∷ leave c rs) (AllByRecursion P) (λ _. h.1) (λ _. (h.0, all_leave P c rs h.1))

pub length_leave : {K : Type 0} (c : ℕ) (rs : List (Record K)) → length rs ≤ suc (length (leave c rs))
length_leave c [] = omega arith
length_leave c (r ∷ rs) = let ih = length_leave c rs in cond_both (eqb r.ins c) rs (r ∷ leave c rs) (λ l. suc (length rs) ≤ suc (length l)) (λ _. omega arith) (λ _. omega arith)

module _ {K : Type 0} (before : K → K → Bool) where
  pub all_at_key : (P Q : Record K → Type 0) (x : K) (f : Record K → Record K)
      → ((r : Record K) → same before r.key x ≡ true → P r → Q (f r)) → ((r : Record K) → same before r.key x ≡ false → P r → Q r)
      → (rs : List (Record K)) → AllByRecursion P rs → AllByRecursion Q (at_key before x f rs)
  all_at_key P Q x f hit miss [] h = tt
  all_at_key P Q x f hit miss (r ∷ rs) h =
      (cond_both (same before r.key x) (f r) r Q (λ e. hit r e h.0) (λ e. miss r e h.0), all_at_key P Q x f hit miss rs h.1)

  pub all_enter : (P : Record K → Type 0) (n : Record K) → P n → (rs : List (Record K)) → AllByRecursion P rs → AllByRecursion P (enter before n rs)
  all_enter P n p [] h = (p, tt)
  all_enter P n p (r ∷ rs) h =
      cond_both (before r.key n.key) (r ∷ enter before n rs) (n ∷ r ∷ rs) (AllByRecursion P) (λ _. (h.0, all_enter P n p rs h.1)) (λ _. (p, h))

  pub length_at_key : (x : K) (f : Record K → Record K) (rs : List (Record K)) → length (at_key before x f rs) ≡ length rs
  length_at_key x f [] = refl
  length_at_key x f (r ∷ rs) = ap suc (length_at_key x f rs)

  pub length_enter : (n : Record K) (rs : List (Record K)) → length (enter before n rs) ≡ suc (length rs)
  length_enter n [] = refl
  length_enter n (r ∷ rs) =
      cond_both (before r.key n.key) (r ∷ enter before n rs) (n ∷ r ∷ rs) (λ l. length l ≡ suc (suc (length rs))) (λ _. ap suc (length_enter n rs)) (λ _. refl)

  pub held_at_key : (x k : K) (f : Record K → Record K) → ((r : Record K) → (f r).key ≡ r.key) → (rs : List (Record K)) → held before x (at_key before k f rs) ≡ held before x rs
  held_at_key x k f keeps [] = refl
  held_at_key x k f keeps (r ∷ rs) =
      cond_both (same before r.key k) (f r) r (λ v. (same before v.key x || held before x (at_key before k f rs)) ≡ (same before r.key x || held before x rs))
      (λ _. ap (λ z. same before z x || held before x (at_key before k f rs)) (keeps r) ∙ ap (λ h. same before r.key x || h) (held_at_key x k f keeps rs))
      (λ _. ap (λ h. same before r.key x || h) (held_at_key x k f keeps rs))

  pub held_enter : (x : K) (n : Record K) (rs : List (Record K)) → held before x (enter before n rs) ≡ false → (same before n.key x ≡ false) × (held before x rs ≡ false)
  held_enter x n [] h = or_parts (same before n.key x) false h
  held_enter x n (r ∷ rs) was =
      cond_both (before r.key n.key) (r ∷ enter before n rs) (n ∷ r ∷ rs)
      (λ l. held before x l ≡ false → (same before n.key x ≡ false) × (held before x (r ∷ rs) ≡ false))
      (λ _ h. let p = or_parts (same before r.key x) (held before x (enter before n rs)) h in
      let q = held_enter x n rs p.1 in
      (q.0, or_from (same before r.key x) (held before x rs) p.0 q.1))
      (λ _ h. or_parts (same before n.key x) (held before x (r ∷ rs)) h) was

  -- what was held and is not after one with the count in c has left had at most c
  pub held_leave : (x : K) (c m : ℕ) (rs : List (Record K)) → AllByRecursion (λ r. same before r.key x ≡ true → m ≤ r.ins) rs
      → held before x (leave c rs) ≡ false → (held before x rs ≡ false) ⊎ (m ≤ c)
  held_leave x c m [] all h = inl refl
  held_leave x c m (r ∷ rs) all was =
      cond_both (eqb r.ins c) rs (r ∷ leave c rs) (λ l. held before x l ≡ false → (held before x (r ∷ rs) ≡ false) ⊎ (m ≤ c))
      (λ e h. ⊎_elim
      (λ (s : same before r.key x ≡ true). inr (omega (arith, all.0 s, eqb-true r.ins c e)))
      (λ (s : same before r.key x ≡ false). inl (or_from (same before r.key x) (held before x rs) s h))
      (cases_Bool (same before r.key x)))
      (λ e h. let p = or_parts (same before r.key x) (held before x (leave c rs)) h in
      ⊎_elim (λ (a : held before x rs ≡ false). inl (or_from (same before r.key x) (held before x rs) p.0 a)) (λ (a : m ≤ c). inr a) (held_leave x c m rs all.1 p.1)) was

  pub held_none : (x : K) (rs : List (Record K)) → held before x rs ≡ false → AllByRecursion (λ r. same before r.key x ≡ false) rs
  held_none x [] h = tt
  held_none x (r ∷ rs) h = let p = or_parts (same before r.key x) (held before x rs) h in (p.0, held_none x rs p.1)

  pub held_some : (A : Type 0) (x : K) (rs : List (Record K)) → held before x rs ≡ true → AllByRecursion (λ r. same before r.key x ≡ true → A) rs → A
  held_some A x [] h all = absurd (let z : ◌≡◌ {A = ℕ} 0 1 = cc in omega arith)
  held_some A x (r ∷ rs) h all =
      ⊎_elim
      (λ (s : same before r.key x ≡ true). all.0 s)
      (λ (s : same before r.key x ≡ false). held_some A x rs (rw s at h) all.1)
      (cases_Bool (same before r.key x))

  module _ (order : Order before) where
    pub same_is : (a b : K) → same before a b ≡ true → a ≡ b
    same_is a b e = let p = or_parts (before a b) (before b a) (not-true _ e) in order.total a b p.0 p.1

    pub same_from : (a b : K) → a ≡ b → same before a b ≡ true
    same_from a b e = subst (λ z. same before a z ≡ true) e (rw (order.never a) refl)
