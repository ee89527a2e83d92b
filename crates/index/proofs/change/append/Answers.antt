use Rattle.std.proofs.Common.{◌≡◌, ℕ, ◌≤◌, List, length, set, sym, refl, ap, ◌∙◌, arith}
use Rattle.places.specs.declared.place.Place.{Place}
use Rattle.places.specs.Columns.{records, indices}
use Rattle.places.specs.Rows.{moved}
use Rattle.index.proofs.Tables.{append_index, append_placed, append_rows, beside_more}
use Rattle.counting.specs.Rule.{Order}
use Rattle.index.proofs.Orders.{gap_edge, edge_enter}
use Rattle.index.proofs.change.append.Goals as goal
use Rattle.index.proofs.change.append.Given as given

order : (g : given.Over) → Order g.K.Key.before
order g = record { never = g.met.K.Key.never; onward = g.met.K.Key.onward; total = g.met.K.Key.total }

pub returns : goal.returns
returns g c =
    let t : List (Place g.row.K.Denot) = c.args.table.now in
    let u : List (Place g.row.K.Denot) = c.shift_down.new.table in
    let used : ℕ = c.args.used in
    let k : ℕ = c.args.position in
    let room : used ≤ length t = omega (arith, c.requires.room) in
    let re : records u ≡ set (records t) used c.args.record = c.shift_down.ensures.records ∙ c.set_index.ensures.records ∙ c.set_record.ensures.records in
    let ix : indices u ≡ moved (set (indices t) used used) used k =
    c.shift_down.ensures.index ∙ ap (λ l. moved l used k) (c.set_index.ensures.index ∙ ap (λ l. set l used used) c.set_record.ensures.index) in
    record {
      records = re;
      index = append_index t used room c.requires.placed c.requires.room k c.requires.there c.args.record u re ix;
      placed = append_placed t used room c.requires.placed c.requires.room k c.requires.there c.args.record u re ix;
      rows = append_rows t used room c.requires.placed c.requires.room k c.requires.there c.args.record u re ix;
      exact = λ so ga.
          append_rows t used room c.requires.placed c.requires.room k c.requires.there c.args.record u re ix
          ∙ sym (edge_enter g.K.Key.before (order g) _ so _ k c.args.record refl (gap_edge g.K.Key.before (order g) _ so _ k ga));
      beside = beside_more (beside_more c.set_record.ensures.beside c.set_index.ensures.beside) c.shift_down.ensures.beside;
    }
