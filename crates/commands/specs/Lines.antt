-- What each line of the counting program says. Assumes nothing.
use Rattle.std.specs.Prelude.{ℕ, ◌+◌, ◌-◌, ◌*◌, Bool, cond, ◌&&◌, List, [], ◌∷◌, length, drop, Some, None, Ok, Err, Option, Result, ◌==◌, nat_le, slice_index, codes}
use Rattle.commands.specs.declared.Command.{Command}
use Rattle.commands.specs.declared.Verb.{Verb}
use Rattle.commands.specs.declared.Verb.TheVariants.{Width, Put, Take, Ask}
use Rattle.commands.specs.declared.LineFault.{LineFault}
use Rattle.commands.specs.declared.LineFault.TheVariants.{Empty, Unknown, NoNumber, TooLarge}

-- what is said of a fault
abbrev pub words_for : LineFault → List ℕ
words_for Empty = codes "an empty line"
words_for Unknown = codes "not width N, + KEY, - KEY or ? KEY"
words_for NoNumber = codes "no decimal number"
words_for TooLarge = codes "a number above 4294967295"

-- the decimal number of n followed by these digits, while it is below 2 ^ 32
abbrev pub digits_of : List ℕ → ℕ → Result ℕ LineFault
digits_of [] n = Ok n
digits_of (b ∷ bs) n =
    cond (nat_le 48 b && nat_le b 57) (cond (nat_le (n * 10 + (b - 48)) 4294967295) (digits_of bs (n * 10 + (b - 48))) (Err TooLarge)) (Err NoNumber)

abbrev pub number_of : List ℕ → Result ℕ LineFault
number_of bs = cond (length bs == 0) (Err NoNumber) (digits_of bs 0)

-- a sign, a blank and the rest
abbrev pub signed : ℕ → List ℕ → Bool
signed sign xs = nat_le 2 (length xs) && (slice_index xs 0 == sign && slice_index xs 1 == 32)

-- `width`, a blank and the rest
abbrev pub width_line : List ℕ → Bool
width_line xs =
    nat_le 6 (length xs)
    && (slice_index xs 0 == 119 && (slice_index xs 1 == 105 && (slice_index xs 2 == 100 && (slice_index xs 3 == 116 && (slice_index xs 4 == 104 && slice_index xs 5 == 32)))))

-- what a line asks for, and where its number begins
abbrev pub verb_of : List ℕ → Option (Verb × ℕ)
verb_of xs =
    cond (signed 43 xs) (Some (Put, 2)) (cond (signed 45 xs) (Some (Take, 2)) (cond (signed 63 xs) (Some (Ask, 2)) (cond (width_line xs) (Some (Width, 6)) None)))

abbrev pub with_number : Verb → Result ℕ LineFault → Result Command LineFault
with_number v (Ok n) = Ok (record { verb = v; number = n })
with_number v (Err e) = Err e

abbrev pub spoken : List ℕ → Option (Verb × ℕ) → Result Command LineFault
spoken xs None = Err Unknown
spoken xs (Some p) = with_number p.0 (number_of (drop p.1 xs))

abbrev pub command_of : List ℕ → Result Command LineFault
command_of xs = cond (length xs == 0) (Err Empty) (spoken xs (verb_of xs))
