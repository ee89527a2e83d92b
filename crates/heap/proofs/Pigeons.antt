-- Where every position holds a place of its own, every place stands at some position. Assumes nothing.
use Rattle.std.proofs.Common.{◌≡◌, ℕ, zero, suc, ◌<◌, cond, eqb, ◌≢◌, ◌⊎◌, sym, ap, ◌∙◌, inl, inr, ⊎_elim, arith}
use Rattle.std.proofs.lemmas.Bool.{cases_eq, cond-true, cond-false, eq-eqb, ne_eqb}
use Rattle.heap.specs.Heaps.{Once}

look : (m : ℕ) (f : ℕ → ℕ) (p : ℕ) → ((i : ℕ) × (i < m) × (f i ≡ p)) ⊎ ((i : ℕ) → i < m → f i ≢ p)
look zero f p = inr (λ i l e. absurd (omega arith))
look (suc m) f p =
    ⊎_elim
    (λ (e : f m ≡ p). inl (m, omega arith, e))
    (λ (e : f m ≢ p).
    ⊎_elim
    (λ (s : (i : ℕ) × (i < m) × (f i ≡ p)). inl (s.0, omega arith, s.2))
    (λ (s : (i : ℕ) → i < m → f i ≢ p). inr (λ i l. ⊎_elim (λ (q : i ≡ m). λ (r : f i ≡ p). e (sym (ap f q) ∙ r)) (λ (q : i ≢ m). s i (omega arith)) (cases_eq i m)))
    (look m f p))
    (cases_eq (f m) p)

-- the value n gives way to p
away : ℕ → ℕ → ℕ → ℕ
away n p v = cond (eqb v n) p v

away_is : (n p v : ℕ) → ((v ≡ n) × (away n p v ≡ p)) ⊎ ((v ≢ n) × (away n p v ≡ v))
unfolding away
away_is n p v = ⊎_elim (λ (e : v ≡ n). inl (e, cond-true (eqb v n) p v (eq-eqb v n e))) (λ (e : v ≢ n). inr (e, cond-false (eqb v n) p v (ne_eqb v n e))) (cases_eq v n)

pub pigeon : (n : ℕ) (f : ℕ → ℕ) → ((i : ℕ) → i < n → f i < n) → Once n f → (p : ℕ) → p < n → (i : ℕ) × (i < n) × (f i ≡ p)
pigeon zero f below once p lt = absurd (omega arith)
pigeon (suc n) f below once p lt =
    ⊎_elim
    (λ (s : (i : ℕ) × (i < suc n) × (f i ≡ p)). s)
    (λ (miss : (i : ℕ) → i < suc n → f i ≢ p).
    let g : ℕ → ℕ = λ i. away n p (f i) in
    let under : (i : ℕ) → i < suc n → g i < n = λ i l.
    let a = away_is n p (f i) in let b = below i l in let m = miss i l in
    let z = miss n (omega arith) in let y = below n (omega arith) in
    ⊎_elim
    (λ (s : (f i ≡ n) × (g i ≡ p)). omega arith)
    (λ (s : (f i ≢ n) × (g i ≡ f i)). omega arith)
    a in
    let single : (i j : ℕ) → i < suc n → j < suc n → g i ≡ g j → i ≡ j = λ i j li lj e.
    let a = away_is n p (f i) in let b = away_is n p (f j) in
    let mi = miss i li in let mj = miss j lj in
    once i j li lj (omega arith) in
    let hit = pigeon n g (λ i l. under i (omega arith)) (λ i j li lj e. single i j (omega arith) (omega arith) e) (g n) (under n (omega arith)) in
    let clash : hit.0 ≡ n = single hit.0 n (omega arith) (omega arith) hit.2 in
    absurd (omega arith))
    (look (suc n) f p)
