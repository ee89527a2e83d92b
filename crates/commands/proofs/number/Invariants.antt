use Rattle.std.proofs.Common.{◌≡◌, ◌≤◌, drop}
use Rattle.commands.specs.Lines.{digits_of, number_of}
use Rattle.commands.proofs.number.Given as goal

-- what is left to read gives the same number
abbrev pub invariant-loop-b : goal.invariant-loop-b
invariant-loop-b l = (l.n ≤ 4294967295) × (number_of l.digits ≡ digits_of (drop l.b-index l.digits) l.n)
