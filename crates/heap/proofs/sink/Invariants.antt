use Rattle.std.proofs.Common.{◌-◌, set}
use Rattle.places.specs.Columns.{entries, records, BesideHeap}
use Rattle.heap.specs.Lazy.{Down, Heavy}
use Rattle.heap.proofs.sink.Given as goal
use Rattle.places.specs.declared.place.HeapEntry.{HeapEntry}

abbrev pub invariant-loop-i : goal.invariant-loop-i
invariant-loop-i g l =
    let before = g.K.Key.before in
    let e : HeapEntry = l.moving in
    let xs₀ = set (entries l.initial.table) l.initial.i e in
    BesideHeap l.initial.table l.table
    × Down before (Heavy before xs₀ (records l.initial.table) l.used l.initial.i) (records l.table) xs₀ (set (entries l.table) l.i e) l.used l.i

abbrev pub decreases-loop-i : goal.decreases-loop-i
decreases-loop-i g l = l.used - l.i
