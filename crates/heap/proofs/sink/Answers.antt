use Rattle.std.proofs.Common.{◌≡◌, length, ap, arith}
use lib.ListN.{length-map}
use Rattle.counting.specs.Rule.{Order}
use Rattle.places.specs.Columns.{entries}
use Rattle.heap.proofs.Besides.{beside_more}
use Rattle.heap.proofs.Moves.{set_below, set_here, down_again, down_broke, down_done}
use Rattle.heap.proofs.sink.Goals as goal
use Rattle.heap.proofs.sink.Goals.{else-loop-i-test, then-loop-i-test+then-not-leaves_before}
use Rattle.heap.proofs.sink.Given as given
use Rattle.places.specs.declared.place.HeapEntry.{HeapEntry}

laws : (g : given.Over) → Order g.K.Key.before
laws g = record { never = g.met.K.Key.never; onward = g.met.K.Key.onward; total = g.met.K.Key.total }

pub leaves_before-requires : goal.leaves_before-requires
leaves_before-requires g c =
    let n : length (entries c.loop-i.table) ≡ length c.loop-i.table = length-map _ _ in
    let down = c.loop-i.invariant.1 in
    let a = set_below (entries c.loop-i.table) c.args.used c.loop-i.i c.args.moving down.stands c.least_child-c.result (omega arith) c.least_child-c.ensures.within in
    let b = set_here (entries c.loop-i.table) c.args.used c.loop-i.i c.args.moving down.stands (omega arith) down.inside in
    let e = ap (λ (x : HeapEntry). x.place) c.entry_at-child.ensures in
    (omega arith, omega arith)

pub loop-i-preserved : goal.loop-i-preserved
loop-i-preserved g c =
    let n : length (entries c.loop-i.table) ≡ length c.loop-i.table = length-map _ _ in (
      beside_more c.loop-i.invariant.0 c.set_entry.ensures.beside,
      down_again g.K.Key.before (laws g) (entries c.loop-i.table) c.args.used c.loop-i.i c.least_child-c.result c.args.moving
          (omega arith) c.least_child-c.ensures.child c.least_child-c.ensures.within c.least_child-c.ensures.least c.loop-i.invariant.1
          c.set_entry.ensures.beside.records c.entry_at-child.ensures c.set_entry.ensures.heap c.if-not-leaves_before.ensures,
    )

pub returns-clause-settled : goal.returns-clause-settled
returns-clause-settled g c =
    let n : length (entries c.loop-i.table) ≡ length c.loop-i.table = length-map _ _ in
    elim c.loop-i-test.branch [
      | else-loop-i-test w ↦
          down_done g.K.Key.before (entries c.loop-i.table) c.args.used c.loop-i.i c.args.moving
          c.set_entry-2.ensures.beside.records c.set_entry-2.ensures.heap (omega arith) c.loop-i.invariant.1
      | then-loop-i-test+then-not-leaves_before w ↦
          down_broke g.K.Key.before (laws g) (entries c.loop-i.table) c.args.used c.loop-i.i w.least_child-c.result c.args.moving
          (omega arith) w.least_child-c.ensures.child w.least_child-c.ensures.within w.least_child-c.ensures.least c.loop-i.invariant.1
          c.set_entry-2.ensures.beside.records w.entry_at-child.ensures c.set_entry-2.ensures.heap w.if-not-leaves_before.ensures
    ]
