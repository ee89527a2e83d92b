use Rattle.ledger_rules.proofs.Reports.{reports_lawful}
use Rattle.ledger_rules.proofs.laws.reports_are_lawful.Goals as goal

pub returns : goal.returns
returns g c = reports_lawful g.K.Key (record { never = g.met.K.Key.never; onward = g.met.K.Key.onward; total = g.met.K.Key.total })
