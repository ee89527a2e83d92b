use Rattle.counting.proofs.Worked.{worked}
use Rattle.counting.proofs.laws.examples_stand.Goals as goal

pub returns : goal.returns
returns c = worked
