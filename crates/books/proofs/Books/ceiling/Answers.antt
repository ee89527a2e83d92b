use Rattle.counting.specs.Rule.{Order}
use Rattle.counting.proofs.Lawfuls.{lawful}
use Rattle.books.proofs.Books.ceiling.Goals as goal
use Rattle.books.proofs.Books.ceiling.Given as given

order : (g : given.Over) → Order g.K.Key.before
order g = record { never = g.met.K.Key.never; onward = g.met.K.Key.onward; total = g.met.K.Key.total }

pub returns-clause-law : goal.returns-clause-law
returns-clause-law g c es at = lawful g.K.Key.before (order g) es _ at.run
