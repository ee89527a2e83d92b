use Rattle.std.proofs.Common.{◌≡◌, ℕ, length, sym, ap, subst, arith}
use lib.ListN.{length-map}
use Rattle.counting.specs.Rule.{Order}
use Rattle.places.specs.Columns.{entries, records}
use Rattle.heap.specs.Lazy.{Least}
use Rattle.heap.proofs.Roots.{lazy_least}
use Rattle.heap.proofs.least.Goals as goal
use Rattle.heap.proofs.least.Given as given
use Rattle.places.specs.declared.place.HeapEntry.{HeapEntry}

laws : (g : given.Over) → Order g.K.Key.before
laws g = record { never = g.met.K.Key.never; onward = g.met.K.Key.onward; total = g.met.K.Key.total }

pub returns-clause-least : goal.returns-clause-least
returns-clause-least g c order =
    let t = c.args.table.now in
    let n : length (records t) ≡ length t = length-map _ _ in
    let e = ap (λ (x : HeapEntry). x.place) c.entry_at-root.ensures in
    subst (λ (p : ℕ). Least g.K.Key.before (records t) c.args.used p) (sym e)
    (lazy_least g.K.Key.before (laws g) (records t) (entries t) c.args.used (omega arith) c.requires.some c.requires.heap order)
