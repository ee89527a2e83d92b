use Rattle.std.proofs.Common.{sym, arith}
use Rattle.places.specs.Columns.{entries, at}
use Rattle.book.proofs.Asking.{ceiling_empty, ceiling_full}
use Rattle.book.proofs.read.Book.ceiling.Goals as goal

pub returns-then-self : goal.returns-then-self
returns-then-self g c =
    let b = c.args.self.now in
    sym (ceiling_empty b.table.now b.used b.kept.room b.kept.seats.placed c.if-self.true)

pub returns : goal.returns
returns g c =
    let b = c.args.self.now in
    let full = c.if-self.false in
    ceiling_full b.table.now b.used b.kept.room b.kept.seats.placed full (at (entries b.table.now) 0).place c.least_count.result
    (b.kept.seats.heap.stands.below 0 (omega (arith, b.wide))) c.least_count.ensures.reached (c.least_count.ensures.floor b.kept.order.heap)
