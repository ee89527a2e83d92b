use Rattle.std.proofs.Common.{◌≡◌, length, ap, arith}
use lib.ListN.{length-map}
use Rattle.counting.specs.Rule.{Order}
use Rattle.places.specs.Columns.{entries, records}
use Rattle.heap.proofs.Roots.{lazy_floor}
use Rattle.heap.proofs.least_count.Goals as goal
use Rattle.heap.proofs.least_count.Given as given
use Rattle.places.specs.declared.place.HeapEntry.{HeapEntry}

laws : (g : given.Over) → Order g.K.Key.before
laws g = record { never = g.met.K.Key.never; onward = g.met.K.Key.onward; total = g.met.K.Key.total }

pub returns-clause-floor : goal.returns-clause-floor
returns-clause-floor g c order q l =
    let t = c.args.table.now in
    let n : length (records t) ≡ length t = length-map _ _ in
    let e = ap (λ (x : HeapEntry). x.weight) c.entry_at-root.ensures in
    let f = lazy_floor g.K.Key.before (laws g) (records t) (entries t) c.args.used (omega arith) c.requires.some c.requires.heap order q l in
    omega arith
