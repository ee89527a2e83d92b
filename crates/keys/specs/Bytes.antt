-- Numbers as bytes, high byte first. Assumes nothing.
use Rattle.std.specs.Prelude.{ℕ, ◌+◌, ◌*◌, ◌/◌, ◌%◌, ◌<◌, List, [], ◌∷◌, slice_index}
use Rattle.std.specs.List.{AllByRecursion}

-- four bytes; the first takes what is left, so that every number has its own string
abbrev pub four : ℕ → List ℕ
four n = n / 16777216 ∷ n / 65536 % 256 ∷ n / 256 % 256 ∷ n % 256 ∷ []

abbrev pub two : ℕ → List ℕ
two n = n / 256 ∷ n % 256 ∷ []

-- the number of the four bytes from the place i on
abbrev pub from_four : List ℕ → ℕ → ℕ
from_four bs i = slice_index bs i * 16777216 + slice_index bs (i + 1) * 65536 + slice_index bs (i + 2) * 256 + slice_index bs (i + 3)

abbrev pub from_two : List ℕ → ℕ → ℕ
from_two bs i = slice_index bs i * 256 + slice_index bs (i + 1)

-- numbers that are bytes
abbrev pub Octets : List ℕ → Type 0
Octets = AllByRecursion (λ b. b < 256)
