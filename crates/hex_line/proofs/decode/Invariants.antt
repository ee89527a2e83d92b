use Rattle.std.proofs.Common.{◌≡◌, ◌+◌, ◌*◌, ◌++◌, length, take, drop}
use Rattle.std.specs.Iterator.Adapters.{enumerate_source, enumerate_count}
use Rattle.std.specs.Slice.Iter.{chunks_exact_rest, chunks_exact_size}
use Rattle.hex_line.specs.Lines.{bytes_of}
use Rattle.hex_line.proofs.decode.Given as goal

-- the bytes that stand and those of the digits that are left are all of them, and the rest of the buffer is as it was
abbrev pub invariant-loop-i : goal.invariant-loop-i
invariant-loop-i l = record {
  size : chunks_exact_size (enumerate_source l.i-iterator) ≡ 2;
  index : enumerate_count l.i-iterator ≡ length l.yielded;
  buffer : length l.to ≡ 242;
  long : 2 * length l.yielded + length (chunks_exact_rest (enumerate_source l.i-iterator)) ≡ length l.line;
  bytes : take (length l.yielded) l.to ++ bytes_of (chunks_exact_rest (enumerate_source l.i-iterator)) ≡ bytes_of l.line;
  rest : drop (length l.yielded) l.to ≡ drop (length l.yielded) l.initial.to;
}
