-- A buffer written from the front, two places at a time. Assumes nothing.
use Rattle.std.proofs.Common.{◌≡◌, ℕ, ◌+◌, ◌*◌, ◌<◌, List, [], ◌∷◌, ◌++◌, length, take, drop, set, sym, ap, ◌∙◌, append_assoc, arith, length-set}
use Rattle.std.proofs.lemmas.List.{take_more_set, drop-set-lt, drop-drop}

module _ (to : List ℕ) (i x y : ℕ) (fits : 2 * i + 1 < length to) where
  n : 2 * (i + 1) ≡ 2 * i + 1 + 1
  n = omega arith

  pub front_two : take (2 * (i + 1)) (set (set to (2 * i) x) (2 * i + 1) y) ≡ take (2 * i) to ++ x ∷ y ∷ []
  front_two =
      ap (λ k. take k (set (set to (2 * i) x) (2 * i + 1) y)) n
      ∙ take_more_set (set to (2 * i) x) (2 * i + 1) y (omega (arith, length-set to (2 * i) x))
      ∙ ap (λ l. l ++ y ∷ []) (take_more_set to (2 * i) x (omega arith))
      ∙ append_assoc (take (2 * i) to) (x ∷ []) (y ∷ [])

  pub rest_two : (zs : List ℕ) → drop (2 * i) to ≡ drop (2 * i) zs → drop (2 * (i + 1)) (set (set to (2 * i) x) (2 * i + 1) y) ≡ drop (2 * (i + 1)) zs
  rest_two zs e =
      let two : 2 * i + 2 ≡ 2 * (i + 1) = omega arith in
      drop-set-lt (2 * (i + 1)) (set to (2 * i) x) (2 * i + 1) y (omega arith)
      ∙ drop-set-lt (2 * (i + 1)) to (2 * i) x (omega arith)
      ∙ ap (λ k. drop k to) (sym two) ∙ sym (drop-drop 2 (2 * i) to) ∙ ap (drop 2) e ∙ drop-drop 2 (2 * i) zs ∙ ap (λ k. drop k zs) two
