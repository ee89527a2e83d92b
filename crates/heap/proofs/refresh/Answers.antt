use Rattle.std.proofs.Common.{◌≡◌, length, arith}
use lib.ListN.{length-map}
use Rattle.places.specs.Columns.{entries, records, counts}
use Rattle.heap.proofs.Besides.{beside_more}
use Rattle.heap.proofs.Heaps.{entry, refresh_stands, refresh_heavy, order_turning, refresh_seated, refresh_less, refresh_sound, exact_root}
use Rattle.heap.proofs.refresh.Goals as goal

pub sink-requires-clause-stands : goal.sink-requires-clause-stands
sink-requires-clause-stands g c =
    let t = c.again.table in
    let n : length (entries t) ≡ length t = length-map _ _ in
    refresh_stands (entries t) c.args.used c.count_at-count.result c.entry_at-root.result (omega arith) (omega arith) c.entry_at-root.ensures c.again.invariant.1.stands

pub again-smaller : goal.again-smaller
again-smaller g c =
    let t = c.again.table in
    let n : length (entries t) ≡ length t = length-map _ _ in
    refresh_less (entries t) c.args.used c.count_at-count.result c.entry_at-root.result (omega arith) (omega arith) c.entry_at-root.ensures
    (records t) (entries c.sink.new.table) c.sink.ensures.beside.records c.count_at-count.ensures c.again.invariant.1 c.sink.ensures.settled.shuffled (omega arith)

pub again-preserved : goal.again-preserved
again-preserved g c =
    let t = c.again.table in
    let n : length (entries t) ≡ length t = length-map _ _ in (
      beside_more c.again.invariant.0 c.sink.ensures.beside,
      refresh_seated (entries t) c.args.used c.count_at-count.result c.entry_at-root.result (omega arith) (omega arith) c.entry_at-root.ensures
          (records t) (entries c.sink.new.table) c.sink.ensures.beside.records c.count_at-count.ensures c.again.invariant.1 c.sink.ensures.settled.shuffled c.sink.ensures.settled.stands,
      λ turning. order_turning g.K.Key.before (records c.sink.new.table) (entries c.sink.new.table) c.args.used
          (c.sink.ensures.settled.ordered (refresh_heavy g.K.Key.before (records t) (entries t) c.args.used (entry c.entry_at-root.result.place c.count_at-count.result) (c.again.invariant.2 turning).0)),
    )

pub returns-clause-heap : goal.returns-clause-heap
returns-clause-heap g c =
    let xs = entries c.again.table in
    let cs = counts (records c.again.table) in
    refresh_sound xs cs c.count_at-count.result c.entry_at-root.result c.entry_at-root.ensures c.count_at-count.ensures (omega arith) c.args.used c.again.invariant.1

pub returns-clause-ordered : goal.returns-clause-ordered
returns-clause-ordered g c turning =
    let xs = entries c.again.table in
    let cs = counts (records c.again.table) in
    (c.again.invariant.2 turning).1 (exact_root xs cs c.count_at-count.result c.entry_at-root.result c.entry_at-root.ensures c.count_at-count.ensures (omega arith))
