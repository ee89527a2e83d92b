-- What is left of a walk over an index. Assumes nothing.
use Rattle.std.specs.Prelude.{List, drop}
use Rattle.counting.specs.declared.Record.{Record}
use Rattle.places.specs.Rows.{rows}
use Rattle.index.specs.declared.records.Records.{Records}

abbrev pub rest : {K : Type 0} → Records K → List (Record K)
rest r = drop r.positions.start (rows r.index.table.now r.index.used)
