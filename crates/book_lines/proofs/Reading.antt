-- A line that was read, and its command. Assumes nothing.
use Rattle.std.proofs.Common.{◌≡◌, ℕ, ◌<◌, Bool, true, false, List, [], ◌∷◌, ◌++◌, length, None, Some, Option, Result, IfSome, ap, ◌∙◌, subst}
use Rattle.std.specs.Prelude.{if◌then◌else◌}
use Rattle.std.specs.Io.BufRead.{take_through, strip_last, first_piece, DropsThrough}
use Rattle.std.proofs.BufReadLemmas.{take_through_nonempty}
use Rattle.commands.specs.declared.Command.{Command}
use Rattle.commands.specs.declared.LineFault.{LineFault}
use Rattle.commands.specs.Lines.{command_of}

pub command_read : (done : Bool) (old new : Option (List ℕ)) (cleared line : List ℕ) (c : Result Command LineFault) → cleared ≡ [] → 0 < length line
    → IfSome old (λ xs. line ≡ cleared ++ take_through 10 xs) → DropsThrough old new 10 → c ≡ command_of (strip_last 10 line)
    → IfSome (if done then None else old) (λ xs. (0 < length xs) × (c ≡ command_of (first_piece 10 xs))) × DropsThrough (if done then None else old) new 10
command_read true old new cleared line c empty some read rest e = (tt, tt)
command_read false None new cleared line c empty some read rest e = (tt, tt)
command_read false (Some xs) new cleared line c empty some read rest e =
    let is : line ≡ take_through 10 xs = read ∙ ap (λ l. l ++ take_through 10 xs) empty in
    ((take_through_nonempty 10 xs (subst (λ l. 0 < length l) is some), e ∙ ap (λ l. command_of (strip_last 10 l)) is), rest)
