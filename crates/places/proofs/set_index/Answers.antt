use Rattle.std.proofs.Common.{refl}
use lib.Seq.{map-set}
use Rattle.places.specs.declared.place.Place.{Place}
use Rattle.places.proofs.Columns.{column_kept, beside_index}
use Rattle.places.proofs.set_index.Goals as goal

pub returns : goal.returns
returns g c =
    let t = c.args.table.now in
    let p = c.index-table-i.result in
    let v : Place g.row.K.Denot = record { «record» = p.record; heap = p.heap; index = c.args.index; hint = p.hint } in
    record {
      index = map-set (λ q. q.index) t c.args.i v;
      records = column_kept (λ q. q.record) t c.args.i p v c.index-table-i.is refl;
      beside = beside_index t c.args.i p v c.index-table-i.is refl refl;
    }
