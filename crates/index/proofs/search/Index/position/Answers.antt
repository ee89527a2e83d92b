use Rattle.std.proofs.Common.{◌≡◌, ◌<◌, get_or, ap, ◌∙◌, subst, sym}
use Rattle.places.specs.Columns.{indices}
use Rattle.index.proofs.Tables.{position_found}
use Rattle.index.proofs.search.Index.position.Goals as goal

pub unwrap-requires : goal.unwrap-requires
unwrap-requires g c =
    let s = c.args.self.now in
    let w = position_found s.table.now s.used s.room s.placed c.args.place c.requires.there c.entry_of.result c.entry_of.ensures in
    rw w.2

pub returns : goal.returns
returns g c =
    let s = c.args.self.now in
    let w = position_found s.table.now s.used s.room s.placed c.args.place c.requires.there c.entry_of.result c.entry_of.ensures in
    let same : w.0 ≡ c.unwrap.result = cc in
    record { within = subst (λ k. k < s.used) same w.1; place = ap (λ k. get_or (indices s.table.now) k 0) (sym same) ∙ w.3 }
