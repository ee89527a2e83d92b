use Rattle.std.proofs.Common.{◌≡◌, ◌*◌, ◌++◌, take, drop}
use Rattle.hex_line.specs.Lines.{line_of}
use Rattle.hex_line.proofs.encode.Given as goal

-- the digits that stand and those of the bytes that are left are all of them, and the rest of the buffer is as it was
abbrev pub invariant-loop-i : goal.invariant-loop-i
invariant-loop-i l = record {
  digits : take (2 * l.i) l.to ++ line_of (drop l.i l.bytes) ≡ line_of l.bytes;
  rest : drop (2 * l.i) l.to ≡ drop (2 * l.i) l.initial.to;
}
