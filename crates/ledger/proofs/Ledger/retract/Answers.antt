use Rattle.std.proofs.Common.{◌≡◌, ◌+◌, ◌*◌, ◌<◌, true, false, Ok, Err, refl, ◌∙◌, arith}
use Rattle.std.proofs.lemmas.Nat.{mul-le}
use Rattle.std.proofs.lemmas.Result.{err_from_is_err_and}
use Rattle.std.proofs.lemmas.Bool.{true≢false, lt-ltb, le-ltb}
use Rattle.books.specs.OfBooks.{count}
use Rattle.ledger_rules.specs.Ledgers.{adds, over_share}
use Rattle.frames.specs.declared.head.Change.TheVariants.{Retracted}
use Rattle.ledger_rules.specs.Tallies.{change_event, then_call}
use Rattle.ledger.specs.OfLedger.{state_of}
use Rattle.ledger.proofs.Working.{same_product, over_answer, over_after, take_answered, refused_after, retract_after}
use Rattle.ledger.proofs.Ledger.retract.Goals as goal

pub returns-then-next-from : goal.returns-then-next-from
returns-then-next-from g c =
    let l = c.args.self.now in
    let s = state_of l in
    let key = c.args.key in
    let before = g.K.Key.before in
    let product = same_product _ _ s.share (adds s) c.from-2.ensures (c.from-3.ensures ∙ c.adds.ensures) in
    let over : over_share s ≡ true = lt-ltb (s.share * adds s) (1000 * (s.retracts + 1)) (omega (arith, c.if-next-from.true, c.from.ensures)) in
    record {
      refused = λ e. record { books = record { table = refl; fills = refl; same_width = refl }; share = refl; retracts = refl };
      beside = record { books = record { same_width = refl; same_count = refl; same_length = refl; parts = λ q ne. refl; used = λ q ne. refl; totals = λ q ne. refl; spare = refl }; share = refl };
      exact = (over_answer before s key over, over_after before s key over);
      run = λ es r. then_call r (over_answer before s key over, over_after before s key over);
    }

pub returns-in_err-take : goal.returns-in_err-take
returns-in_err-take g c =
    let l = c.args.self.now in
    let s = state_of l in
    let key = c.args.key in
    let before = g.K.Key.before in
    let one : 0 < count l.books = omega (arith, l.one) in
    let product = same_product _ _ s.share (adds s) c.from-2.ensures (c.from-3.ensures ∙ c.adds.ensures) in
    let under : over_share s ≡ false = le-ltb (s.share * adds s) (1000 * (s.retracts + 1)) (omega (arith, c.if-next-from.false, c.from.ensures)) in
    let p = err_from_is_err_and c.from_residual.result c.from_residual.ensures.1 in
    let t = c.in_err-take.ensures in
    let q = t.exact one in
    rw (p.1, p.2) (record {
      refused = λ e. record { books = t.refused refl; share = refl; retracts = refl };
      beside = record { books = t.beside; share = refl };
      exact = (take_answered before s key _ under q.answer, refused_after before s key _ _ under q);
      run = λ es r. then_call {e = change_event Retracted key (Err c.in_err-take.field-0.0)} r (take_answered before s key _ under q.answer, refused_after before s key _ _ under q);
    })

pub overflow_add-self : goal.overflow_add-self
overflow_add-self g c =
    let l = c.args.self.now in
    let product = same_product _ _ l.share c.adds.result c.from-2.ensures c.from-3.ensures in
    omega (arith, c.if-next-from.false, c.from.ensures, mul-le l.share c.adds.result 999 4294967295 l.small (omega (arith, c.adds.type_inv)))

pub returns : goal.returns
returns g c =
    let l = c.args.self.now in
    let s = state_of l in
    let key = c.args.key in
    let before = g.K.Key.before in
    let one : 0 < count l.books = omega (arith, l.one) in
    let product = same_product _ _ s.share (adds s) c.from-2.ensures (c.from-3.ensures ∙ c.adds.ensures) in
    let under : over_share s ≡ false = le-ltb (s.share * adds s) (1000 * (s.retracts + 1)) (omega (arith, c.if-next-from.false, c.from.ensures)) in
    let t = c.in_ok-take.ensures in
    let q = t.exact one in
    record {
      refused = λ e. absurd (true≢false e);
      beside = record { books = t.beside; share = refl };
      exact = (take_answered before s key _ under q.answer, retract_after before s key _ under q);
      run = λ es r. then_call {e = change_event Retracted key (Ok tt)} r (take_answered before s key _ under q.answer, retract_after before s key _ under q);
    }
