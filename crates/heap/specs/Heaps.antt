-- A heap as a function of its positions, for any `lt` that says whether one entry is before another. Assumes nothing.
use Rattle.std.specs.Prelude.{◌≡◌, ℕ, zero, suc, ◌+◌, ◌*◌, ◌<◌, ◌≤◌, Bool, true, false, ◌≢◌}

-- j is a child of a
abbrev pub Child : ℕ → ℕ → Type 0
Child a j = (2 * a < j) × (j ≤ 2 * a + 2)

-- no entry is after its children
abbrev pub Ordered : {X : Type 0} → (X → X → Bool) → (ℕ → X) → ℕ → Type 0
Ordered lt x n = (a j : ℕ) → Child a j → j < n → lt (x j) (x a) ≡ false

-- ordered but for i, which may be after its children
pub record Sinking {X : Type 0} (lt : X → X → Bool) (x : ℕ → X) (n i : ℕ) : Type 0 where
  pub rest : (a j : ℕ) → Child a j → j < n → a ≢ i → lt (x j) (x a) ≡ false
  pub over : (a j : ℕ) → Child a i → Child i j → j < n → lt (x j) (x a) ≡ false

-- ordered but for i, which may be before its parent
pub record Rising {X : Type 0} (lt : X → X → Bool) (x : ℕ → X) (n i : ℕ) : Type 0 where
  pub rest : (a j : ℕ) → Child a j → j < n → j ≢ i → lt (x j) (x a) ≡ false
  pub over : (a j : ℕ) → Child a i → Child i j → j < n → lt (x j) (x a) ≡ false

-- what a sift asks of `lt`
pub record Weak {X : Type 0} (lt : X → X → Bool) : Type 0 where
  pub trans : (a b c : X) → lt b a ≡ false → lt c b ≡ false → lt c a ≡ false
  pub asym : (a b : X) → lt a b ≡ true → lt b a ≡ false
  pub never : (a : X) → lt a a ≡ false

-- the sum of the first n
abbrev pub total : ℕ → (ℕ → ℕ) → ℕ
total zero f = 0
total (suc n) f = f n + total n f

-- the first n are different
abbrev pub Once : ℕ → (ℕ → ℕ) → Type 0
Once n f = (i j : ℕ) → i < n → j < n → f i ≡ f j → i ≡ j

-- the first n values of y are those of x in another order
pub record Shuffled {X : Type 0} (n : ℕ) (x y : ℕ → X) : Type 0 where
  pub from : (i : ℕ) → i < n → (j : ℕ) × (j < n) × (y i ≡ x j)
  pub sums : (F : X → ℕ) → total n (λ i. F (y i)) ≡ total n (λ i. F (x i))
  pub once : (F : X → ℕ) → Once n (λ i. F (x i)) → Once n (λ i. F (y i))
