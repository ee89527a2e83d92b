use Rattle.std.proofs.Common.{refl}
use lib.Seq.{map-set}
use Rattle.places.specs.declared.place.Place.{Place}
use Rattle.places.proofs.Columns.{beside_heap}
use Rattle.places.proofs.set_entry.Goals as goal

pub returns : goal.returns
returns g c =
    let t = c.args.table.now in
    let p = c.index-table-i.result in
    let v : Place g.row.K.Denot = record { «record» = p.record; heap = c.args.heap; index = p.index; hint = p.hint } in
    record {
      heap = map-set (λ q. q.heap) t c.args.i v;
      beside = beside_heap t c.args.i p v c.index-table-i.is refl refl refl;
    }
