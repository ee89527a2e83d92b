-- One part of a table written, and one fill. Assumes nothing.
use Rattle.std.proofs.Common.{◌≡◌, ℕ, ◌+◌, ◌-◌, ◌*◌, ◌<◌, ◌≤◌, ◌≢◌, List, ◌++◌, map, length, get_or, take, drop, set, sym, ap, ◌∙◌, subst, ⊎_elim, mul-le-mul_right, add-mul, one-mul, arith, length-append, length-drop, length-take-le, get_or-set_other, get_or-set_same}
use lib.Seq.{map-set}
use Rattle.std.proofs.lemmas.List.{length-map, get_or-map}
use borrow.Rule.Slice.PartMut.{put_mid}
use Rattle.std.proofs.lemmas.Slice.{take-put_mid_below, drop-put_mid, between-put_mid, between_is}
use Rattle.std.proofs.lemmas.Bool.{cases_order}
use Rattle.std.specs.List.{between}

pub part_end : (r n w : ℕ) → r < n → (r + 1) * w ≤ n * w
part_end r n w h = mul-le-mul_right w (omega arith)

pub part_next : (r w : ℕ) → (r + 1) * w ≡ r * w + w
part_next r w = add-mul r 1 w ∙ ap (λ x. r * w + x) (one-mul w)

pub part_long : {X : Type 0} (t : List X) (w r : ℕ) → (r + 1) * w ≤ length t → length (between (r * w) ((r + 1) * w) t) ≡ w
part_long t w r fits =
    length-take-le ((r + 1) * w - r * w) (drop (r * w) t) (omega (arith, length-drop (r * w) t)) ∙ omega (arith, part_next r w)

-- u is t with ys for the part r
module _ {X : Type 0} (t ys u : List X) (w r : ℕ) (fits : (r + 1) * w ≤ length t) (long : length ys ≡ (r + 1) * w - r * w)
    (e : u ≡ put_mid (r * w) ((r + 1) * w - r * w) t ys) where
  step : (r + 1) * w ≡ r * w + w
  step = part_next r w

  pub part_here : between (r * w) ((r + 1) * w) u ≡ ys
  part_here = ap (between (r * w) ((r + 1) * w)) e ∙ between-put_mid (r * w) ((r + 1) * w - r * w) t ys ((r + 1) * w) (omega (arith, step)) long

  after : (n : ℕ) → (r + 1) * w ≤ n → drop n u ≡ drop n t
  after n le = ap (drop n) e ∙ drop-put_mid (r * w) ((r + 1) * w - r * w) t ys n (omega (arith, step)) (omega (arith, step)) long

  above : (q : ℕ) → r < q → between (q * w) ((q + 1) * w) u ≡ between (q * w) ((q + 1) * w) t
  above q lt = ap (take ((q + 1) * w - q * w)) (after (q * w) (part_end r q w lt))

  below : (q : ℕ) → q < r → between (q * w) ((q + 1) * w) u ≡ between (q * w) ((q + 1) * w) t
  below q lt =
      between_is u (q * w) ((q + 1) * w)
      ∙ ap (drop (q * w)) (ap (take ((q + 1) * w)) e ∙ take-put_mid_below (r * w) ((r + 1) * w - r * w) t ys ((q + 1) * w) (part_end q r w lt) (omega (arith, step)))
      ∙ sym (between_is t (q * w) ((q + 1) * w))

  pub part_other : (q : ℕ) → q ≢ r → between (q * w) ((q + 1) * w) u ≡ between (q * w) ((q + 1) * w) t
  part_other q ne = ⊎_elim (λ (z : q ≡ r). absurd (ne z)) (⊎_elim (below q) (above q)) (cases_order q r)

  pub part_spare : (n : ℕ) → r < n → drop (n * w) u ≡ drop (n * w) t
  part_spare n lt = after (n * w) (part_end r n w lt)

-- a column of the fills with one of them written
module _ {X : Type 0} (f : X → ℕ) (xs : List X) (r : ℕ) (v : X) where
  pub column_here : r < length xs → get_or (map f (set xs r v)) r 0 ≡ f v
  column_here lt = ap (λ l. get_or l r 0) (map-set f xs r v) ∙ get_or-set_same (map f xs) r (f v) 0 (subst (λ n. r < n) (sym (length-map xs f)) lt)

  pub column_other : (q : ℕ) → q ≢ r → get_or (map f (set xs r v)) q 0 ≡ get_or (map f xs) q 0
  column_other q ne = ap (λ l. get_or l q 0) (map-set f xs r v) ∙ get_or-set_other (map f xs) r q (f v) 0 ne

pub column_read : {X : Type 0} (f : X → ℕ) (xs : List X) (r : ℕ) (x : X) → r < length xs → x ≡ get_or xs r x → get_or (map f xs) r 0 ≡ f x
column_read f xs r x lt e = get_or-map f xs r x 0 lt ∙ ap f (sym e)

pub length_put_mid : {X : Type 0} (a k : ℕ) (xs ys : List X) → a + k ≤ length xs → length ys ≡ k → length (put_mid a k xs ys) ≡ length xs
length_put_mid a k xs ys fits long =
    let m = length-append (take a xs) (ys ++ drop k (drop a xs)) in
    let n = length-append ys (drop k (drop a xs)) in
    omega (arith, length-take-le a xs (omega arith), length-drop k (drop a xs), length-drop a xs)
