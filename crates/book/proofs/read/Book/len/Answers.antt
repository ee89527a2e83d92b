use Rattle.std.proofs.Common.{sym}
use Rattle.index.proofs.Tables.{row_count}
use Rattle.book.proofs.read.Book.len.Goals as goal

pub returns : goal.returns
returns g c =
    let b = c.args.self.now in
    sym (row_count b.table.now b.used b.kept.room b.kept.seats.placed)
