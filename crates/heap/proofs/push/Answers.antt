use Rattle.std.proofs.Common.{◌≡◌, length, arith}
use lib.ListN.{length-map}
use Rattle.places.specs.Columns.{entries, records}
use Rattle.heap.proofs.Heaps.{push_stands, push_sound, push_light}
use Rattle.heap.proofs.push.Goals as goal

pub rise-requires : goal.rise-requires
rise-requires g c =
    let t = c.args.table.now in
    let n : length (entries t) ≡ length t = length-map _ _ in
    record {
      room = omega arith;
      there = omega arith;
      stands = push_stands (entries t) c.args.used c.count_at-weight.result (omega arith) c.requires.heap.stands;
    }

pub returns : goal.returns
returns g c =
    let t = c.args.table.now in
    let n : length (entries t) ≡ length t = length-map _ _ in
    record {
      beside = c.rise.ensures.beside;
      heap = push_sound (records t) (entries t) (entries c.rise.new.table) c.args.used c.count_at-weight.result
          (omega arith) c.rise.ensures.beside.records c.count_at-weight.ensures c.requires.heap c.rise.ensures.settled.stands c.rise.ensures.settled.shuffled c.rise.ensures.rooted;
      ordered = λ order. c.rise.ensures.settled.ordered (push_light g.K.Key.before (records t) (entries t) c.args.used c.count_at-weight.result order);
    }
