-- Lines of hexadecimal digits, two digits a byte. Assumes nothing.
use Rattle.std.specs.Prelude.{◌≡◌, ℕ, ◌+◌, ◌-◌, ◌*◌, ◌/◌, ◌%◌, ◌<◌, ◌≤◌, Bool, true, cond, ◌&&◌, ◌||◌, List, [], ◌∷◌, length, ◌==◌, nat_le, nat_lt}
use Rattle.std.specs.List.{list_all, AllByRecursion}

-- 0 to 9 and a to f, by their codes
abbrev pub is_digit : ℕ → Bool
is_digit b = nat_le 48 b && nat_le b 57 || nat_le 97 b && nat_le b 102

-- the number of a digit, 0 of any other character
abbrev pub digit_of : ℕ → ℕ
digit_of b = cond (nat_le 48 b && nat_le b 57) (b - 48) (cond (nat_le 97 b && nat_le b 102) (b - 87) 0)

abbrev pub all_digits : List ℕ → Bool
all_digits bs = list_all is_digit bs

-- at most 484 characters, an even number, and each a digit
abbrev pub is_line : List ℕ → Bool
is_line xs = nat_le (length xs) 484 && (length xs % 2 == 0 && all_digits xs)

abbrev pub bytes_of : List ℕ → List ℕ
bytes_of [] = []
bytes_of (x ∷ []) = []
bytes_of (x ∷ y ∷ xs) = (digit_of x * 16 + digit_of y) ∷ bytes_of xs

-- the digit of a number below 16
abbrev pub char_of : ℕ → ℕ
char_of d = cond (nat_lt d 10) (d + 48) (d + 87)

abbrev pub line_of : List ℕ → List ℕ
line_of [] = []
line_of (b ∷ bs) = char_of (b / 16) ∷ char_of (b % 16) ∷ line_of bs

-- one string of bytes is one line: what was written is read as it was, and what was read is written as it was
pub record OneLine : Type 0 where
  pub read_back : (bs : List ℕ) → AllByRecursion (λ b. b < 256) bs → length bs ≤ 242 → (is_line (line_of bs) ≡ true) × (bytes_of (line_of bs) ≡ bs)
  pub written_back : (xs : List ℕ) → is_line xs ≡ true → line_of (bytes_of xs) ≡ xs
