-- Digits and bytes, there and back. Assumes nothing.
use Rattle.std.proofs.Common.{◌≡◌, ℕ, zero, suc, ◌+◌, ◌*◌, ◌/◌, ◌%◌, ◌<◌, true, eqb, leb, List, [], ◌∷◌, length, get_or, refl, ap, ◌∙◌, arith}
use Rattle.std.specs.List.{AllByRecursion}
use Rattle.std.proofs.lemmas.Bool.{and_parts, and_from, le-leb, eq-eqb, eqb-true}
use Rattle.std.proofs.lemmas.Bool.Decides.{nat_tests}
use Rattle.hex_line.specs.Lines.{is_digit, digit_of, all_digits, bytes_of, char_of, line_of, OneLine}

-- a digit and its number
digit_char : (b : ℕ) → is_digit b ≡ true → (char_of (digit_of b) ≡ b) × (digit_of b < 16)
digit_char b e = (grind (arith, nat_tests), grind (arith, nat_tests))

char_digit : (d : ℕ) → d < 16 → (is_digit (char_of d) ≡ true) × (digit_of (char_of d) ≡ d)
char_digit d lt = (grind (arith, nat_tests), grind (arith, nat_tests))

-- of any bytes: how many digits they are
pub length_line : (bs : List ℕ) → length (line_of bs) ≡ 2 * length bs
length_line [] = refl
length_line (b ∷ bs) = omega (arith, length_line bs)

read_all : (bs : List ℕ) → AllByRecursion (λ b. b < 256) bs → (all_digits (line_of bs) ≡ true) × (bytes_of (line_of bs) ≡ bs)
read_all [] h = (refl, refl)
read_all (b ∷ bs) h =
    let hi = char_digit (b / 16) (omega (arith, h.0)) in
    let lo = char_digit (b % 16) (omega arith) in
    let rest = read_all bs h.1 in
    let here : digit_of (char_of (b / 16)) * 16 + digit_of (char_of (b % 16)) ≡ b = omega (arith, hi.1, lo.1) in (
      and_from _ _ hi.0 (and_from _ _ lo.0 rest.0),
      ap (λ n. n ∷ bytes_of (line_of bs)) here ∙ ap (λ l. b ∷ l) rest.1,
    )

write_all : (xs : List ℕ) → all_digits xs ≡ true → length xs % 2 ≡ 0 → line_of (bytes_of xs) ≡ xs
write_all [] e h = refl
write_all (x ∷ []) e h = absurd (omega arith)
write_all (x ∷ y ∷ xs) e h =
    let first = and_parts _ _ e in
    let second = and_parts _ _ first.1 in
    let dx = digit_char x first.0 in
    let dy = digit_char y second.0 in
    let rest = write_all xs second.1 (omega arith) in
    let hi : (digit_of x * 16 + digit_of y) / 16 ≡ digit_of x = omega (arith, dy.1) in
    let lo : (digit_of x * 16 + digit_of y) % 16 ≡ digit_of y = omega (arith, dy.1) in
    cc

pub one_line : OneLine
one_line = record {
  read_back = λ bs h le.
      let r = read_all bs h in
      let long = length_line bs in
      (and_from _ _ (le-leb (length (line_of bs)) 484 (omega (arith, long))) (and_from _ _ (eq-eqb (length (line_of bs) % 2) 0 (omega (arith, long))) r.0), r.1);
  written_back = λ xs e.
      let p = and_parts (eqb (length xs % 2) 0) _ (and_parts (leb (length xs) 484) _ e).1 in
      write_all xs p.1 (eqb-true (length xs % 2) 0 p.0);
}

-- of any list: how many bytes its pairs are, and which byte a pair is
pub length_bytes : (xs : List ℕ) → length (bytes_of xs) ≡ length xs / 2
length_bytes [] = refl
length_bytes (x ∷ []) = refl
length_bytes (x ∷ y ∷ xs) = omega (arith, length_bytes xs)

pub byte_at : (xs : List ℕ) (i : ℕ) → 2 * i + 1 < length xs → get_or (bytes_of xs) i 0 ≡ digit_of (get_or xs (2 * i) 0) * 16 + digit_of (get_or xs (2 * i + 1) 0)
byte_at [] i lt = absurd (omega arith)
byte_at (x ∷ []) i lt = absurd (omega arith)
byte_at (x ∷ y ∷ xs) zero lt = refl
byte_at (x ∷ y ∷ xs) (suc i) lt =
    byte_at xs i (omega arith)
    ∙ ap (λ k. digit_of (get_or (x ∷ y ∷ xs) k 0) * 16 + digit_of (get_or xs (2 * i + 1) 0)) (let e : suc (suc (2 * i)) ≡ 2 * suc i = omega arith in e)
    ∙ ap (λ k. digit_of (get_or (x ∷ y ∷ xs) (2 * suc i) 0) * 16 + digit_of (get_or (x ∷ y ∷ xs) k 0)) (let e : suc (suc (2 * i + 1)) ≡ 2 * suc i + 1 = omega arith in e)
