use Rattle.std.proofs.Common.{◌<◌, refl, ◌∙◌, arith}
use Rattle.books.specs.OfBooks.{count}
use Rattle.ledger_rules.specs.Tallies.{then_call}
use Rattle.ledger.specs.OfLedger.{state_of}
use Rattle.ledger.proofs.Working.{put_there, add_after}
use Rattle.ledger.proofs.Ledger.add.Goals as goal

pub returns : goal.returns
returns g c =
    let l = c.args.self.now in
    let key = c.args.key in
    let one : 0 < count l.books = omega (arith, l.one) in
    let is = c.put.ensures.answer ∙ put_there l.books l.one in
    record {
      answer = is;
      refused = λ e. record { books = c.put.ensures.refused e; share = refl; retracts = refl };
      beside = record { books = c.put.ensures.beside; share = refl };
      exact = add_after g.K.Key.before (state_of l) key _ (c.put.ensures.exact one).after;
      run = λ es r. then_call r (is, add_after g.K.Key.before (state_of l) key _ (c.put.ensures.exact one).after);
    }
