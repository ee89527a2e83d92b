use Rattle.std.proofs.Common.{◌≡◌, length, sym, ap, ◌∙◌, arith}
use Rattle.std.proofs.lemmas.Bool.{lt-ltb, le-ltb}
use Rattle.counting.specs.Rule.{held}
use Rattle.places.specs.Rows.{rows}
use Rattle.index.proofs.Tables.{row_count}
use Rattle.book.proofs.Putting.{rule_room, rule_full}
use Rattle.book.proofs.work.BookMut.carry_out.Goals as goal

pub returns-then-self-clause-rows : goal.returns-then-self-clause-rows
returns-then-self-clause-rows g c =
    let b = c.args.self.now in
    let r = c.read.result in
    let n = row_count b.table.now b.used b.kept.room b.kept.seats.placed in
    let same : rows r.table.now r.used ≡ rows b.table.now b.used = cc in
    c.enter_new.ensures.rows
    ∙ rule_room g.K.Key.before (length b.table.now) (rows b.table.now b.used) c.args.key (sym (ap (held g.K.Key.before c.args.key) same) ∙ sym c.in-Err.ensures.exact) (lt-ltb _ _ (omega arith))

pub returns-else-self-clause-rows : goal.returns-else-self-clause-rows
returns-else-self-clause-rows g c =
    let b = c.args.self.now in
    let r = c.read.result in
    let n = row_count b.table.now b.used b.kept.room b.kept.seats.placed in
    let same : rows r.table.now r.used ≡ rows b.table.now b.used = cc in
    c.replace_least.ensures.rows
    ∙ rule_full g.K.Key.before (length b.table.now) (rows b.table.now b.used) c.args.key (sym (ap (held g.K.Key.before c.args.key) same) ∙ sym c.in-Err.ensures.exact) (le-ltb _ _ (omega arith))
