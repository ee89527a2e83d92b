use Rattle.counting.proofs.Lawfuls.{lawful}
use Rattle.counting.proofs.laws.runs_are_lawful.Goals as goal

pub returns : goal.returns
returns g c = lawful g.K.Key.before (record { never = g.met.K.Key.never; onward = g.met.K.Key.onward; total = g.met.K.Key.total })
