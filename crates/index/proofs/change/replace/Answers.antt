use Rattle.std.proofs.Common.{◌≡◌, List, get_or, set, ap, ◌∙◌, arith}
use Rattle.places.specs.declared.place.Place.{Place}
use Rattle.places.specs.Columns.{records, indices}
use Rattle.places.specs.Rows.{moved}
use Rattle.index.proofs.Tables.{entry_low, replace_placed, replace_rows, beside_more}
use Rattle.index.proofs.change.replace.Goals as goal

pub amend-requires : goal.amend-requires
amend-requires g c =
    let low = entry_low c.args.table.now c.args.used c.requires.room c.requires.placed c.args.from c.requires.there.0 in
    omega (arith, c.index_at-place.ensures, c.requires.room)

pub returns-then-from-to : goal.returns-then-from-to
returns-then-from-to g c =
    let t : List (Place g.row.K.Denot) = c.args.table.now in
    let u : List (Place g.row.K.Denot) = c.shift_up.new.table in
    let re : records u ≡ set (records t) (get_or (indices t) c.args.from 0) c.args.record =
    c.shift_up.ensures.records ∙ c.amend.ensures.records ∙ ap (λ i. set (records t) i c.args.record) c.index_at-place.ensures in
    let ix : indices u ≡ moved (indices t) c.args.from c.args.to = c.shift_up.ensures.index ∙ ap (λ l. moved l c.args.from c.args.to) c.amend.ensures.index in
    record {
      records = re;
      index = ix;
      placed = replace_placed t c.args.used c.requires.room c.requires.placed c.args.from c.args.to c.requires.there.0 c.requires.there.1 c.args.record u re ix;
      rows = replace_rows t c.args.used c.requires.room c.requires.placed c.args.from c.args.to c.requires.there.0 c.requires.there.1 c.args.record u re ix;
      beside = beside_more c.amend.ensures.beside c.shift_up.ensures.beside;
    }

pub returns-else-from-to : goal.returns-else-from-to
returns-else-from-to g c =
    let t : List (Place g.row.K.Denot) = c.args.table.now in
    let u : List (Place g.row.K.Denot) = c.shift_down.new.table in
    let re : records u ≡ set (records t) (get_or (indices t) c.args.from 0) c.args.record =
    c.shift_down.ensures.records ∙ c.amend.ensures.records ∙ ap (λ i. set (records t) i c.args.record) c.index_at-place.ensures in
    let ix : indices u ≡ moved (indices t) c.args.from c.args.to = c.shift_down.ensures.index ∙ ap (λ l. moved l c.args.from c.args.to) c.amend.ensures.index in
    record {
      records = re;
      index = ix;
      placed = replace_placed t c.args.used c.requires.room c.requires.placed c.args.from c.args.to c.requires.there.0 c.requires.there.1 c.args.record u re ix;
      rows = replace_rows t c.args.used c.requires.room c.requires.placed c.args.from c.args.to c.requires.there.0 c.requires.there.1 c.args.record u re ix;
      beside = beside_more c.amend.ensures.beside c.shift_down.ensures.beside;
    }
