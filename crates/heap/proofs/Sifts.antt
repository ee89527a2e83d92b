-- Steps of a sift, and sums of what is shuffled. Assumes nothing.
use Rattle.std.proofs.Common.{◌≡◌, ℕ, zero, suc, ◌+◌, ◌-◌, ◌*◌, ◌/◌, ◌<◌, ◌≤◌, Bool, true, false, ◌≢◌, ◌⊎◌, sym, refl, ap, ◌∙◌, inl, inr, ⊎_elim, arith}
use Rattle.std.proofs.lemmas.Bool.{cases_eq}
use Rattle.heap.specs.Heaps.{Child, Ordered, Sinking, Rising, Weak, total, Shuffled}

pub record Swapped {X : Type 0} (x y : ℕ → X) (i c : ℕ) : Type 0 where
  pub here : y i ≡ x c
  pub there : y c ≡ x i
  pub other : (k : ℕ) → k ≢ i → k ≢ c → y k ≡ x k

carry : {X : Type 0} (lt : X → X → Bool) {p q u v : X} → p ≡ u → q ≡ v → lt u v ≡ false → lt p q ≡ false
carry lt e f h = cc

pub sink_step : {X : Type 0} (lt : X → X → Bool) → Weak lt → (x y : ℕ → X) (n i c : ℕ) → Swapped x y i c → Child i c → c < n
    → lt (x c) (x i) ≡ true → ((j : ℕ) → Child i j → j < n → lt (x j) (x c) ≡ false) → Sinking lt x n i → Sinking lt y n c
sink_step lt weak x y n i c sw ch cn less least s = record {
  rest = λ a j h jn ne.
      ⊎_elim
      (λ (e : a ≡ i).
      ⊎_elim
      (λ (f : j ≡ c). carry lt (ap y f ∙ sw.there) (ap y e ∙ sw.here) (weak.asym _ _ less))
      (λ (f : j ≢ c). carry lt (sw.other j (omega arith) f) (ap y e ∙ sw.here) (least j (omega arith, omega arith) jn))
      (cases_eq j c))
      (λ (e : a ≢ i).
      ⊎_elim
      (λ (f : j ≡ i). carry lt (ap y f ∙ sw.here) (sw.other a e ne) (s.over a c (omega arith, omega arith) ch cn))
      (λ (f : j ≢ i). carry lt (sw.other j f (omega arith)) (sw.other a e ne) (s.rest a j h jn e))
      (cases_eq j i))
      (cases_eq a i);
  over = λ a j h k jn.
      let e : a ≡ i = omega arith in
      carry lt (sw.other j (omega arith) (omega arith)) (ap y e ∙ sw.here) (s.rest c j k jn (omega arith));
}

-- it stops above its least child, or where it has none
pub sink_stop : {X : Type 0} (lt : X → X → Bool) → Weak lt → (x : ℕ → X) (n i c : ℕ)
    → lt (x c) (x i) ≡ false → ((j : ℕ) → Child i j → j < n → lt (x j) (x c) ≡ false) → Sinking lt x n i → Ordered lt x n
sink_stop lt weak x n i c le least s a j h jn =
    ⊎_elim
    (λ (e : a ≡ i). carry lt refl (ap x e) (weak.trans _ _ _ le (least j (omega arith, omega arith) jn)))
    (λ (e : a ≢ i). s.rest a j h jn e)
    (cases_eq a i)

pub sink_end : {X : Type 0} (lt : X → X → Bool) (x : ℕ → X) (n i : ℕ) → n ≤ 2 * i + 1 → Sinking lt x n i → Ordered lt x n
sink_end lt x n i le s a j h jn = s.rest a j h jn (omega arith)

pub rise_step : {X : Type 0} (lt : X → X → Bool) → Weak lt → (x y : ℕ → X) (n i p : ℕ) → Swapped x y i p → Child p i → i < n
    → lt (x i) (x p) ≡ true → Rising lt x n i → Rising lt y n p
rise_step lt weak x y n i p sw ch lt-n less s =
    let le = weak.asym _ _ less in
    record {
      rest = λ a j h jn ne.
          ⊎_elim
          (λ (f : j ≡ i). let e : a ≡ p = omega arith in carry lt (ap y f ∙ sw.here) (ap y e ∙ sw.there) le)
          (λ (f : j ≢ i).
          ⊎_elim
          (λ (e : a ≡ p). carry lt (sw.other j f ne) (ap y e ∙ sw.there) (weak.trans _ _ _ le (s.rest p j (omega arith, omega arith) jn f)))
          (λ (e : a ≢ p).
          ⊎_elim
          (λ (g : a ≡ i). carry lt (sw.other j f ne) (ap y g ∙ sw.here) (s.over p j ch (omega arith, omega arith) jn))
          (λ (g : a ≢ i). carry lt (sw.other j f ne) (sw.other a g e) (s.rest a j h jn f))
          (cases_eq a i))
          (cases_eq a p))
          (cases_eq j i);
      over = λ a j h k jn.
          let up = s.rest a p h (omega arith) (omega arith) in
          ⊎_elim
          (λ (f : j ≡ i). carry lt (ap y f ∙ sw.here) (sw.other a (omega arith) (omega arith)) up)
          (λ (f : j ≢ i). carry lt (sw.other j f (omega arith)) (sw.other a (omega arith) (omega arith)) (weak.trans _ _ _ up (s.rest p j k jn f)))
          (cases_eq j i);
    }

pub rise_stop : {X : Type 0} (lt : X → X → Bool) (x : ℕ → X) (n i p : ℕ) → Child p i → lt (x i) (x p) ≡ false → Rising lt x n i → Ordered lt x n
rise_stop lt x n i p ch le s a j h jn =
    ⊎_elim
    (λ (f : j ≡ i). let e : a ≡ p = omega arith in carry lt (ap x f) (ap x e) le)
    (λ (f : j ≢ i). s.rest a j h jn f)
    (cases_eq j i)

pub rise_end : {X : Type 0} (lt : X → X → Bool) (x : ℕ → X) (n : ℕ) → Rising lt x n 0 → Ordered lt x n
rise_end lt x n s a j h jn = s.rest a j h jn (omega arith)

-- the root of an ordered heap is after no entry
pub root_least : {X : Type 0} (lt : X → X → Bool) → Weak lt → (x : ℕ → X) (n : ℕ) → Ordered lt x n → (m j : ℕ) → j < m → m ≤ n → lt (x j) (x 0) ≡ false
root_least lt weak x n ord zero j h le = absurd (omega arith)
root_least lt weak x n ord (suc m) j h le =
    ⊎_elim
    (λ (e : j ≡ 0). carry lt (ap x e) refl (weak.never (x 0)))
    (λ (ne : j ≢ 0).
    let h2 : (j - 1) / 2 < m = omega arith in
    weak.trans _ _ _ (root_least lt weak x n ord m ((j - 1) / 2) h2 (omega arith)) (ord ((j - 1) / 2) j (omega arith, omega arith) (omega arith)))
    (cases_eq j 0)

total_same : (n : ℕ) (f g : ℕ → ℕ) → ((k : ℕ) → k < n → g k ≡ f k) → total n g ≡ total n f
total_same zero f g h = refl
total_same (suc n) f g h = let e = h n (omega arith) in let s = total_same n f g (λ k l. h k (omega arith)) in omega arith

pub total_one : (n : ℕ) (f g : ℕ → ℕ) (c : ℕ) → c < n → ((k : ℕ) → k < n → k ≢ c → g k ≡ f k) → total n g + f c ≡ total n f + g c
total_one zero f g c lt h = absurd (omega arith)
total_one (suc n) f g c lt h =
    ⊎_elim
    (λ (e : n ≡ c). let s = total_same n f g (λ k l. h k (omega arith) (omega arith)) in let a = ap f e in let b = ap g e in omega arith)
    (λ (e : n ≢ c). let s = total_one n f g c (omega arith) (λ k l. h k (omega arith)) in let a = h n (omega arith) e in omega arith)
    (cases_eq n c)

total_two : (n : ℕ) (f g : ℕ → ℕ) (i c : ℕ) → i < n → c < n → i ≢ c → ((k : ℕ) → k ≢ i → k ≢ c → g k ≡ f k) → g i ≡ f c → g c ≡ f i → total n g ≡ total n f
total_two zero f g i c li lc ne h a b = absurd (omega arith)
total_two (suc n) f g i c li lc ne h a b =
    ⊎_elim
    (λ (e : n ≡ i).
    let s = total_one n f g c (omega arith) (λ k l ne2. h k (omega arith) ne2) in
    let u = ap f e in let v = ap g e in omega arith)
    (λ (e : n ≢ i).
    ⊎_elim
    (λ (e2 : n ≡ c).
    let s = total_one n f g i (omega arith) (λ k l ne2. h k ne2 (omega arith)) in
    let u = ap f e2 in let v = ap g e2 in omega arith)
    (λ (e2 : n ≢ c). let s = total_two n f g i c (omega arith) (omega arith) ne h a b in let u = h n e e2 in omega arith)
    (cases_eq n c))
    (cases_eq n i)

-- where position k of y comes from
source : {X : Type 0} (x y : ℕ → X) (n i c : ℕ) → i < n → c < n → Swapped x y i c → (k : ℕ) → k < n
    → (j : ℕ) × (j < n) × (y k ≡ x j) × (((k ≡ i) × (j ≡ c)) ⊎ (((k ≡ c) × (j ≡ i)) ⊎ ((k ≢ i) × (k ≢ c) × (j ≡ k))))
source x y n i c li lc sw k lk =
    ⊎_elim
    (λ (e : k ≡ i). (c, lc, ap y e ∙ sw.here, inl (e, refl)))
    (λ (e : k ≢ i).
    ⊎_elim
    (λ (f : k ≡ c). (i, li, ap y f ∙ sw.there, inr (inl (f, refl))))
    (λ (f : k ≢ c). (k, lk, sw.other k e f, inr (inr (e, f, refl))))
    (cases_eq k c))
    (cases_eq k i)

pub swap_shuffled : {X : Type 0} (x y : ℕ → X) (n i c : ℕ) → i < n → c < n → i ≢ c → Swapped x y i c → Shuffled n x y
swap_shuffled x y n i c li lc ne sw = record {
  from = λ k lk. let s = source x y n i c li lc sw k lk in (s.0, s.1, s.2);
  sums = λ F. total_two n (λ k. F (x k)) (λ k. F (y k)) i c li lc ne (λ k a b. ap F (sw.other k a b)) (ap F sw.here) (ap F sw.there);
  once = λ F once k m lk lm e.
      let s = source x y n i c li lc sw k lk in
      let t = source x y n i c li lc sw m lm in
      let same : s.0 ≡ t.0 = once s.0 t.0 s.1 t.1 (sym (ap F s.2) ∙ e ∙ ap F t.2) in
      let p = s.3 in let q = t.3 in
      omega arith;
}

pub same_shuffled : {X : Type 0} (x : ℕ → X) (n : ℕ) → Shuffled n x x
same_shuffled x n = record { from = λ k l. (k, l, refl); sums = λ F. refl; once = λ F o. o }

pub then_shuffled : {X : Type 0} (n : ℕ) (x y z : ℕ → X) → Shuffled n x y → Shuffled n y z → Shuffled n x z
then_shuffled n x y z a b = record {
  from = λ k l. let s = b.from k l in let t = a.from s.0 s.1 in (t.0, t.1, s.2 ∙ t.2);
  sums = λ F. b.sums F ∙ a.sums F;
  once = λ F o. b.once F (a.once F o);
}
