use Rattle.places.specs.Columns.{entries, records, counts, BesideHeap}
use Rattle.heap.specs.Lazy.{Seated, Turning, debt}
use Rattle.heap.proofs.refresh.Given as goal

abbrev pub invariant-again : goal.invariant-again
invariant-again g l = BesideHeap l.initial.table l.table
    × Seated (entries l.table) (counts (records l.table)) l.used
    × (Turning g.K.Key.before (entries l.initial.table) (records l.initial.table) l.used → Turning g.K.Key.before (entries l.table) (records l.table) l.used)

abbrev pub decreases-again : goal.decreases-again
decreases-again g l = debt (entries l.table) (counts (records l.table)) l.used
