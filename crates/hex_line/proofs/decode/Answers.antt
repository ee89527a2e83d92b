use Rattle.std.proofs.Common.{◌≡◌, ◌/◌, ◌%◌, [], length, take, drop, refl, ap, sym, true, arith}
use Rattle.std.proofs.lemmas.Bool.{and_from, le-leb, eq-eqb}
use Rattle.std.proofs.lemmas.List.{nil_from_length}
use Rattle.std.proofs.lemmas.Grind.{common_steps}
use Rattle.std.specs.Iterator.Adapters.{enumerate_source}
use Rattle.std.specs.Slice.Iter.{chunks_exact_rest}
use Rattle.hex_line.specs.Lines.{all_digits, bytes_of}
use Rattle.hex_line.proofs.decode.Goals as goal

pub returns-clause-bytes : goal.returns-clause-bytes
returns-clause-bytes c =
    let xs = c.args.line.now in
    let inv = c.loop-i.invariant in
    let left = chunks_exact_rest (enumerate_source c.loop-i.i-iterator) in
    let none : left ≡ [] = nil_from_length left (omega (arith, c.in-None.ensures.steps)) in
    let n : length c.loop-i.yielded ≡ length xs / 2 = omega (arith, ap length none) in
    let all : all_digits xs ≡ true = sym c.if-not-all_digits.ensures in
    let bytes : take (length xs / 2) c.loop-i.to ≡ bytes_of xs = grind (arith, common_steps) in
    let rest : drop (length xs / 2) c.loop-i.to ≡ drop (length xs / 2) c.args.to.now = grind (arith) in
    let line = and_from _ _ (le-leb (length xs) 484 c.if-line-gt-DIGITS.false) (and_from _ _ (eq-eqb (length xs % 2) 0 c.if-line-ne0.false) all) in
    (line, refl, bytes, rest)
