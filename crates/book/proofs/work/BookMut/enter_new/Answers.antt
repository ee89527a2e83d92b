use Rattle.std.proofs.Common.{ℕ, ◌+◌, ◌-◌, List, ◌∙◌, arith}
use Rattle.counting.specs.declared.Record.{Record}
use Rattle.counting.specs.Rule.{Order, fresh}
use Rattle.places.specs.declared.place.Place.{Place}
use Rattle.places.specs.Rows.{rows}
use Rattle.index.proofs.Tables.{row_count, placed_kept}
use Rattle.book.proofs.Seating.{small_set}
use Rattle.book.proofs.Putting.{beyond_kept, beyond_heap, worked, sorted_new}
use Rattle.book.proofs.work.BookMut.enter_new.Goals as goal
use Rattle.book.proofs.work.BookMut.enter_new.Given as given

order : (g : given.Over) → Order g.K.Key.before
order g = record { never = g.met.K.Key.never; onward = g.met.K.Key.onward; total = g.met.K.Key.total }

pub append-requires-clause-there : goal.append-requires-clause-there
append-requires-clause-there g c =
    let b = c.args.self.now in
    let n = row_count b.table.now b.used b.kept.room b.kept.seats.placed in
    omega (arith, c.requires.gap.within)

pub push-requires-clause-heap : goal.push-requires-clause-heap
push-requires-clause-heap g c =
    let b = c.args.self.now in
    beyond_kept b.table.now c.append.new.table b.used b.used (fresh c.args.key 0) c.append.ensures.records c.append.ensures.beside.heap b.kept.seats.heap (omega arith)

pub invariant_of-self : goal.invariant_of-self
invariant_of-self g c =
    let b = c.args.self.now in
    let t : List (Place g.row.K.Denot) = b.table.now in
    let u : List (Place g.row.K.Denot) = c.append.new.table in
    let v : List (Place g.row.K.Denot) = c.push.new.table in
    let used : ℕ = b.used in
    let r : Record g.row.K.Denot = fresh c.args.key 0 in
    let long = c.push.auto.table ∙ c.append.auto.table in
    record {
      wide = omega (arith, long, b.wide);
      narrow = omega (arith, long, b.narrow);
      kept = record {
        room = omega (arith, long, c.requires.room);
        few = b.kept.few;
        seats = record { placed = placed_kept u v (used + 1) c.push.ensures.beside.index c.append.ensures.placed; heap = c.push.ensures.heap };
        order = worked g.K.Key.before u v (used + 1) c.push.ensures.beside
            (c.push.ensures.ordered (beyond_heap t u used used r c.append.ensures.records c.append.ensures.beside.heap b.kept.seats.heap g.K.Key.before (omega arith) b.kept.order.heap))
            _ (sorted_new g.K.Key.before (order g) (rows t used) c.args.key c.args.at 0 b.kept.order.rising c.requires.gap)
            (c.append.ensures.exact b.kept.order.rising c.requires.gap);
        small = λ q l.
            let s = small_set t v used (used + 1) used (b.total - 1) r (c.push.ensures.beside.records ∙ c.append.ensures.records) c.requires.room (omega arith)
            (λ k h ne. omega arith) c.requires.counted.1 q l in
            omega (arith, c.requires.counted.0);
      };
    }
