use Rattle.std.proofs.Common.{◌-◌, ap, ◌∙◌}
use Rattle.counting.specs.Rule.{Order}
use Rattle.ledger_rules.proofs.Reports.{reports_lawful}
use Rattle.ledger.proofs.Ledger.live.Goals as goal

pub returns : goal.returns
returns g c =
    let order : Order g.K.Key.before = record { never = g.met.K.Key.never; onward = g.met.K.Key.onward; total = g.met.K.Key.total } in
    record {
      exact = c.saturating_sub.ensures ∙ ap (λ n. n - c.args.self.now.retracts) c.adds.ensures;
      law = λ es r. reports_lawful g.K.Key order es _ r;
    }
