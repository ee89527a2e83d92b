-- What the commands of a reader's lines are. Assumes nothing.
use Rattle.std.specs.Prelude.{◌≡◌, ℕ, ◌-◌, ◌<◌, List, length, None, Option, Result, IfSome, IfOk, MatchOption, MatchResult, if◌then◌else◌, ◌==◌}
use Rattle.std.specs.Io.KnownBytes.{IsAtEnd}
use Rattle.std.specs.Io.BufRead.{first_piece, DropsThrough}
use Rattle.commands.specs.declared.Command.{Command}
use Rattle.commands.specs.declared.LineFault.{LineFault}
use Rattle.commands.specs.Lines.{command_of}
use Rattle.book_lines.specs.declared.lines.Lines.{Lines}

-- the reader's bytes that are left, where they are known and the turns are not used up
abbrev pub bytes_left : {R : Type 0} → (R → Option (List ℕ)) → Lines R → Option (List ℕ)
bytes_left remaining s = if s.turns == 0 then None else remaining s.input

-- the command is that of the first line of the bytes, without its line feed, and just that line is gone; none comes only at their end
abbrev pub YieldsCommand : {E : Type 0} → Option (List ℕ) → Option (Result (Result Command LineFault) E) → Option (List ℕ) → Type 0
YieldsCommand old r new = MatchOption r (IsAtEnd old) (λ item. IfOk item (λ c. IfSome old (λ xs. (0 < length xs) × (c ≡ command_of (first_piece 10 xs))) × DropsThrough old new 10))

-- each call takes one turn, and an error all that are left: nothing comes after it, so no rest of a torn line
abbrev pub TakesTurn : {E : Type 0} → ℕ → Option (Result (Result Command LineFault) E) → ℕ → Type 0
TakesTurn old r new = MatchOption r (new ≡ old - 1) (λ item. MatchResult item (λ _. new ≡ old - 1) (λ _. new ≡ 0))
