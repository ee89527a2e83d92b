use Rattle.std.proofs.Common.{◌<◌, get_or, sym, ap, ◌∙◌, subst}
use Rattle.places.specs.Columns.{records}
use Rattle.index.proofs.Tables.{row_at, entry_low}
use Rattle.index.proofs.search.Index.place_at.Goals as goal

pub returns : goal.returns
returns g c = record {
  within = subst (λ i. i < c.args.self.now.used) (sym c.index_at.ensures) (entry_low c.args.self.now.table.now c.args.self.now.used c.args.self.now.room c.args.self.now.placed c.args.position c.requires.there);
  place = c.index_at.ensures;
  row = λ d. row_at c.args.self.now.table.now c.args.self.now.used c.args.self.now.room c.args.self.now.placed c.args.position c.requires.there d ∙ ap (λ i. get_or (records c.args.self.now.table.now) i d) (sym c.index_at.ensures);
}
