-- The keys of bytes, one by one. Assumes nothing.
use Rattle.std.proofs.Common.{◌≡◌, ℕ, zero, suc, ◌+◌, ◌*◌, ◌/◌, ◌<◌, ◌≤◌, List, [], ◌∷◌, length, take, drop, sym, refl, ap, ◌∙◌, arith}
use Rattle.std.proofs.Math.Nat.{mul-div_cancel, div-eq_of_lt, add-div_right}
use Rattle.std.proofs.lemmas.List.{drop-drop}
use Rattle.frames.specs.Keys.{keys_at}

module _ {K : Type 0} (size : ℕ) (key : List ℕ → K) where
  -- keys that begin n bytes further on
  keys_from : (bs : List ℕ) (n k at i : ℕ) → i ≡ n + at → keys_at size key bs k i ≡ keys_at size key (drop n bs) k at
  keys_from bs n zero at i is = refl
  keys_from bs n (suc k) at i is =
      ap (λ l. key (take size l) ∷ keys_at size key bs k (i + size)) (ap (λ j. drop j bs) is ∙ sym (drop-drop at n bs))
      ∙ ap (λ l. key (take size (drop at (drop n bs))) ∷ l) (keys_from bs n k (at + size) (i + size) (omega arith))

  -- the n keys behind a head
  pub keys_behind : (bs rest : List ℕ) (n : ℕ) → 1 ≤ size → rest ≡ drop 2 bs → length rest ≡ n * size → keys_at size key bs n 2 ≡ keys_at size key rest (length rest / size) 0
  keys_behind bs rest n some is long =
      keys_from bs 2 n 0 2 refl ∙ ap (λ l. keys_at size key l n 0) (sym is)
      ∙ ap (λ k. keys_at size key rest k 0) (sym (mul-div_cancel n some) ∙ ap (λ m. m / size) (sym long))

  pub keys_end : (bs : List ℕ) → length bs < size → keys_at size key bs (length bs / size) 0 ≡ []
  keys_end bs short = ap (λ k. keys_at size key bs k 0) (div-eq_of_lt short)

  pub keys_more : (bs rest : List ℕ) → 1 ≤ size → rest ≡ drop size bs → length rest + size ≡ length bs → keys_at size key bs (length bs / size) 0 ≡ key (take size bs) ∷ keys_at size key rest (length rest / size) 0
  keys_more bs rest some is long =
      let one : length bs / size ≡ suc (length rest / size) = omega (arith, ap (λ n. n / size) long, add-div_right (length rest) some) in
      ap (λ k. keys_at size key bs k 0) one
      ∙ ap (λ l. key (take size bs) ∷ l) (keys_from bs size (length rest / size) 0 (0 + size) (omega arith) ∙ ap (λ l. keys_at size key l (length rest / size) 0) (sym is))
