use Rattle.places.proofs.Columns.{count_read}
use Rattle.places.proofs.count_at.Goals as goal

pub returns : goal.returns
returns g c = count_read c.args.table.now c.args.i _ c.requires
