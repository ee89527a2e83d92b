use Rattle.std.proofs.Common.{◌≡◌, ◌≤◌, set}
use Rattle.std.specs.List.{insert, remove}
use Rattle.places.specs.Columns.{records, indices, BesideIndex}
use Rattle.index.proofs.shift.shift_down.Given as goal

-- with the entry put into the gap, the index is as if it had been moved to i
abbrev pub invariant-loop-i : goal.invariant-loop-i
invariant-loop-i g l = record {
  low : l.to ≤ l.i;
  index : set (indices l.table) l.i l.moving ≡ insert (remove (indices l.initial.table) l.from) l.i l.moving;
  records : records l.table ≡ records l.initial.table;
  beside : BesideIndex l.initial.table l.table;
}
