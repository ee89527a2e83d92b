use Rattle.std.proofs.Common.{◌≡◌, ◌<◌, arith}
use Rattle.books.specs.OfBooks.{count}
use Rattle.counting.specs.Book.{bounds}
use Rattle.counting.specs.Rule.{Order}
use Rattle.ledger_rules.proofs.Reports.{reports_lawful}
use Rattle.ledger.specs.OfLedger.{state_of}
use Rattle.ledger.proofs.Lawing.{bounds_law}
use Rattle.ledger.proofs.Ledger.bounds.Goals as goal

pub returns : goal.returns
returns g c =
    let l = c.args.self.now in
    let one : 0 < count l.books = omega (arith, l.one) in
    let order : Order g.K.Key.before = record { never = g.met.K.Key.never; onward = g.met.K.Key.onward; total = g.met.K.Key.total } in
    let there = c.bounds.ensures.exact one in
    let is : c.unwrap.result ≡ bounds g.K.Key.before (state_of l).book c.args.key = cc in
    record {
      exact = is;
      law = λ es r. bounds_law g.K.Key (state_of l) es c.args.key c.unwrap.result is (reports_lawful g.K.Key order es (state_of l) r);
    }
