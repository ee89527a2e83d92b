use Rattle.counting.specs.Rule.{Order}
use Rattle.places.specs.Columns.{entries, records}
use Rattle.heap.proofs.Moves.{left_least, right_least}
use Rattle.heap.proofs.least_child.Goals as goal
use Rattle.heap.proofs.least_child.Given as given

laws : (g : given.Over) → Order g.K.Key.before
laws g = record { never = g.met.K.Key.never; onward = g.met.K.Key.onward; total = g.met.K.Key.total }

pub returns-then-leaves_before-clause-least : goal.returns-then-leaves_before-clause-least
returns-then-leaves_before-clause-least g c d j h l =
    right_least g.K.Key.before (laws g) (records c.args.table.now) (entries c.args.table.now) c.args.i
    c.entry_at-2.result c.entry_at.result c.entry_at-2.ensures c.entry_at.ensures c.if-leaves_before.ensures d j h

pub returns-else-leaves_before-clause-least : goal.returns-else-leaves_before-clause-least
returns-else-leaves_before-clause-least g c d j h l =
    left_least g.K.Key.before (laws g) (records c.args.table.now) (entries c.args.table.now) c.args.i
    c.entry_at-2.result c.entry_at.result c.entry_at-2.ensures c.entry_at.ensures c.if-leaves_before.ensures d j h
