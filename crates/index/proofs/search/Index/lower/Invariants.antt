use Rattle.std.proofs.Common.{◌≡◌, ◌-◌, ◌<◌, ◌≤◌, true, false, get_or}
use Rattle.counting.specs.declared.Record.{Record}
use Rattle.places.specs.Rows.{rows}
use Rattle.index.proofs.search.Index.lower.Given as goal

abbrev pub invariant-loop-lo : goal.invariant-loop-lo
invariant-loop-lo g l =
    (l.lo ≤ l.hi) × (l.hi ≤ l.self.used)
    × ((d : Record g.row.K.Denot) → 0 < l.lo → g.K.Key.before (get_or (rows l.self.table.now l.self.used) (l.lo - 1) d).key l.key ≡ true)
    × ((d : Record g.row.K.Denot) → l.hi < l.self.used → g.K.Key.before (get_or (rows l.self.table.now l.self.used) l.hi d).key l.key ≡ false)

abbrev pub decreases-loop-lo : goal.decreases-loop-lo
decreases-loop-lo g l = l.hi - l.lo
