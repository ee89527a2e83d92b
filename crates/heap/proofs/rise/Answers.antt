use Rattle.std.proofs.Common.{◌≡◌, ◌-◌, ◌/◌, length, set, ap, arith}
use lib.ListN.{length-map}
use Rattle.counting.specs.Rule.{Order}
use Rattle.places.specs.Columns.{entries}
use Rattle.heap.specs.Lazy.{Risen, Rooted}
use Rattle.heap.proofs.Besides.{beside_more}
use Rattle.heap.proofs.Moves.{set_below, set_here}
use Rattle.heap.proofs.Rises.{up_again, up_broke, up_done}
use Rattle.heap.proofs.rise.Goals as goal
use Rattle.heap.proofs.rise.Goals.{else-loop-i-test, then-loop-i-test+then-not-leaves_before}
use Rattle.heap.proofs.rise.Given as given
use Rattle.places.specs.declared.place.HeapEntry.{HeapEntry}

laws : (g : given.Over) → Order g.K.Key.before
laws g = record { never = g.met.K.Key.never; onward = g.met.K.Key.onward; total = g.met.K.Key.total }

pub leaves_before-requires : goal.leaves_before-requires
leaves_before-requires g c =
    let n : length (entries c.loop-i.table) ≡ length c.loop-i.table = length-map _ _ in
    let up = c.loop-i.invariant.1 in
    let a = set_below (entries c.loop-i.table) c.args.used c.loop-i.i c.args.moving up.stands ((c.loop-i.i - 1) / 2) (omega arith) (omega arith) in
    let b = set_here (entries c.loop-i.table) c.args.used c.loop-i.i c.args.moving up.stands (omega arith) up.inside in
    let e = ap (λ (x : HeapEntry). x.place) c.entry_at-above.ensures in
    (omega arith, omega arith)

pub loop-i-preserved : goal.loop-i-preserved
loop-i-preserved g c =
    let n : length (entries c.loop-i.table) ≡ length c.loop-i.table = length-map _ _ in (
      beside_more c.loop-i.invariant.0 c.set_entry.ensures.beside,
      up_again g.K.Key.before (entries c.loop-i.table) (entries c.set_entry.new.table) c.args.used c.loop-i.i c.args.moving (omega arith) c.set_entry.ensures.beside.records c.loop-i.invariant.1
          ((c.loop-i.i - 1) / 2) (omega arith, omega arith) c.entry_at-above.ensures (laws g) c.set_entry.ensures.heap c.if-not-leaves_before.ensures,
    )

pub returns : goal.returns
returns g c =
    let n : length (entries c.loop-i.table) ≡ length c.loop-i.table = length-map _ _ in
    let t = c.args.table.now in
    let u = c.set_entry-2.new.table in
    let e : HeapEntry = c.args.moving in
    let both : Risen g.K.Key.before t u c.args.used c.args.from e × Rooted (set (entries t) c.args.from e) (entries u) e =
    elim c.loop-i-test.branch [
      | else-loop-i-test w ↦
          up_done g.K.Key.before (entries c.loop-i.table) (entries u) c.args.used c.loop-i.i c.args.moving (omega arith) c.set_entry-2.ensures.beside.records c.loop-i.invariant.1
          c.set_entry-2.ensures.heap (omega arith)
      | then-loop-i-test+then-not-leaves_before w ↦
          up_broke g.K.Key.before (entries c.loop-i.table) (entries u) c.args.used c.loop-i.i c.args.moving (omega arith) c.set_entry-2.ensures.beside.records c.loop-i.invariant.1
          ((c.loop-i.i - 1) / 2) (omega arith, omega arith) w.entry_at-above.ensures c.set_entry-2.ensures.heap w.if-not-leaves_before.ensures
    ] in
    record {
      beside = beside_more c.loop-i.invariant.0 c.set_entry-2.ensures.beside;
      settled = both.0;
      rooted = both.1;
    }
