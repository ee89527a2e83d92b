use Rattle.std.proofs.Common.{refl}
use lib.Seq.{map-set}
use Rattle.places.specs.declared.place.Place.{Place}
use Rattle.places.proofs.Columns.{column_kept}
use Rattle.places.proofs.set_hint.Goals as goal

pub returns : goal.returns
returns g c =
    let t = c.args.table.now in
    let p = c.index-table-i.result in
    let v : Place g.row.K.Denot = record { «record» = p.record; heap = p.heap; index = p.index; hint = c.args.hint } in
    record {
      hint = map-set (λ q. q.hint) t c.args.i v;
      records = column_kept (λ q. q.record) t c.args.i p v c.index-table-i.is refl;
      index = column_kept (λ q. q.index) t c.args.i p v c.index-table-i.is refl;
      heap = column_kept (λ q. q.heap) t c.args.i p v c.index-table-i.is refl;
    }
