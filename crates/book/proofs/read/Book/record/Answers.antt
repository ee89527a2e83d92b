use Rattle.std.proofs.Common.{◌≡◌, Some, get_or, sym, ap, ◌∙◌, arith}
use Rattle.std.proofs.lemmas.Option.{slice_get-get_or, slice_get_past}
use Rattle.places.specs.Rows.{rows}
use Rattle.index.proofs.Tables.{row_count}
use Rattle.book.proofs.read.Book.record.Goals as goal

pub returns-then-i-self : goal.returns-then-i-self
returns-then-i-self g c =
    let b = c.args.self.now in
    let n = row_count b.table.now b.used b.kept.room b.kept.seats.placed in
    sym (slice_get_past _ c.args.i (omega arith))

pub returns : goal.returns
returns g c =
    let b = c.args.self.now in
    let n = row_count b.table.now b.used b.kept.room b.kept.seats.placed in
    let same : rows b.table.now b.used ≡ rows c.index.result.table.now c.index.result.used = cc in
    sym (slice_get-get_or (rows b.table.now b.used) c.args.i c.record_at.result (omega arith) ∙ ap Some (ap (λ rs. get_or rs c.args.i c.record_at.result) same ∙ c.record_at.ensures c.record_at.result))
