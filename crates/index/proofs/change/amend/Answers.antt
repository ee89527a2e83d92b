use Rattle.std.proofs.Common.{◌≡◌, length, get_or, set, ap, ◌∙◌, arith}
use lib.ListN.{length-map}
use Rattle.std.proofs.lemmas.List.{get_or_default}
use Rattle.counting.specs.declared.Record.{Record}
use Rattle.counting.specs.Rule.{Order}
use Rattle.places.specs.Columns.{records}
use Rattle.index.proofs.Tables.{table_changed}
use Rattle.index.proofs.change.amend.Goals as goal
use Rattle.index.proofs.change.amend.Given as given

order : (g : given.Over) → Order g.K.Key.before
order g = record { never = g.met.K.Key.never; onward = g.met.K.Key.onward; total = g.met.K.Key.total }

pub returns : goal.returns
returns g c =
    let e = c.set_record.ensures in
    let t = c.args.table.now in
    let p = c.args.place in
    record {
      records = e.records;
      index = e.index;
      beside = e.beside;
      rows = λ f used x made room placed holds so.
          let n : length (records t) ≡ length t = length-map _ _ in
          let was : Record g.row.K.Denot = get_or (records t) p c.args.record in
          let is : (d : Record g.row.K.Denot) → get_or (records t) p d ≡ was = λ d. get_or_default (records t) p d c.args.record (omega (arith, c.requires)) in
          table_changed t used room placed g.K.Key.before (order g) f x p was c.set_record.new.table holds.within is (holds.key c.args.record) so
          (e.records ∙ ap (set (records t) p) (made c.args.record)) e.index;
    }
