use Rattle.std.proofs.Common.{ℕ, ◌+◌, ◌*◌, [], ◌∷◌, take, drop, ap, append_assoc, arith}
use Rattle.std.proofs.lemmas.List.{drop_more}
use Rattle.hex_line.specs.Lines.{line_of}
use Rattle.hex_line.proofs.Writing.{front_two, rest_two}
use Rattle.hex_line.proofs.encode.Goals as goal

pub loop-i-preserved : goal.loop-i-preserved
loop-i-preserved c =
    let bs = c.args.bytes.now in
    let to = c.loop-i.to in
    let i : ℕ = c.loop-i.i in
    let x : ℕ = c.char_of.result in
    let y : ℕ = c.char_of-in-loop-i.result in
    let front = front_two to i x y (omega arith) in
    let next = ap line_of (drop_more bs i 0 c.loop-i-test.true) in
    let joined = append_assoc (take (2 * i) to) (x ∷ y ∷ []) (line_of (drop (i + 1) bs)) in
    record {
      digits = cc;
      rest = rest_two to i x y (omega arith) c.args.to.now c.loop-i.invariant.rest;
    }
