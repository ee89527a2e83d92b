use Rattle.std.proofs.Common.{◌≡◌, ◌<◌, length, take, Ok, ap, ◌∙◌, arith}
use Rattle.counting.specs.Rule.{Order}
use Rattle.counting.specs.Book.{ceiling}
use Rattle.ledger.specs.OfLedger.{state_of}
use Rattle.ledger.proofs.Lawing.{answered, report_law}
use Rattle.ledger.proofs.Ledger.report.Goals as goal

pub returns : goal.returns
returns g c =
    let s = state_of c.args.self.now in
    let t = c.args.threshold in
    let order : Order g.K.Key.before = record { never = g.met.K.Key.never; onward = g.met.K.Key.onward; total = g.met.K.Key.total } in
    let w = c.write_common.ensures in
    let above : ceiling s.book < t = omega (arith, c.ceiling.ensures, c.if-threshold-ceiling.false) in
    record {
      exact = ap Ok w.count ∙ answered s t (length c.args.out.now) above (omega (arith, c.count_common.ensures, c.if-count_common-out.false));
      written = w.written;
      law = λ es n r is.
          let same : n ≡ c.write_common.result = cc in
          report_law g.K.Key order s t es _ above (ap (λ k. take k c.write_common.new.out) same ∙ w.written.front) r;
    }
