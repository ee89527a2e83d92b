use Rattle.std.proofs.Common.{◌≡◌, false, sym, ap, ◌∙◌}
use Rattle.counting.specs.Rule.{Order, held}
use Rattle.counting.specs.Book.{ceiling}
use Rattle.places.specs.Rows.{rows}
use Rattle.book.specs.Sound.{book_in}
use Rattle.book.proofs.Asking.{taken_refused, taken_other, high_other}
use Rattle.book.proofs.work.BookMut.take.Goals as goal
use Rattle.book.proofs.work.BookMut.take.Given as given

order : (g : given.Over) → Order g.K.Key.before
order g = record { never = g.met.K.Key.never; onward = g.met.K.Key.onward; total = g.met.K.Key.total }

pub returns-then-ceiling-eq0-clause-exact : goal.returns-then-ceiling-eq0-clause-exact
returns-then-ceiling-eq0-clause-exact g c =
    let b = c.args.self.now in
    let r = c.read.result in
    let s = c.read-in-Err.result in
    let same : rows r.table.now r.used ≡ rows b.table.now b.used = cc in
    let none : held g.K.Key.before c.args.key (rows b.table.now b.used) ≡ false = sym (ap (held g.K.Key.before c.args.key) same) ∙ sym c.in-Err.ensures.exact in
    let top : ceiling (book_in s.table.now s.used s.total) ≡ ceiling (book_in b.table.now b.used b.total) = cc in
    taken_refused g.K.Key.before b.table.now b.used b.total c.args.key
    (high_other g.K.Key.before b.table.now b.used b.total c.args.key none ∙ sym top ∙ sym c.ceiling.ensures ∙ c.if-ceiling-eq0.true)

pub returns-else-ceiling-eq0-clause-exact : goal.returns-else-ceiling-eq0-clause-exact
returns-else-ceiling-eq0-clause-exact g c =
    let b = c.args.self.now in
    let r = c.read.result in
    let s = c.read-in-Err.result in
    let same : rows r.table.now r.used ≡ rows b.table.now b.used = cc in
    let none : held g.K.Key.before c.args.key (rows b.table.now b.used) ≡ false = sym (ap (held g.K.Key.before c.args.key) same) ∙ sym c.in-Err.ensures.exact in
    let top : ceiling (book_in s.table.now s.used s.total) ≡ ceiling (book_in b.table.now b.used b.total) = cc in
    taken_other g.K.Key.before b.table.now b.used b.total c.args.key (order g) none (λ z. c.if-ceiling-eq0.false (c.ceiling.ensures ∙ top ∙ z))
