use Rattle.std.proofs.Common.{ℕ, ◌-◌, ◌<◌, List, length, get_or, sym, ◌∙◌, arith}
use Rattle.counting.specs.declared.Record.{Record}
use Rattle.counting.specs.Rule.{Order, fresh, least}
use Rattle.places.specs.declared.place.Place.{Place}
use Rattle.places.specs.Columns.{records, counts}
use Rattle.places.specs.Rows.{rows}
use Rattle.index.proofs.Tables.{row_count, placed_kept, rows_kept}
use Rattle.book.proofs.Seating.{small_set}
use Rattle.book.proofs.Putting.{written_seated, written_turning, worked, sorted_over, replaced_rows}
use Rattle.book.proofs.work.BookMut.replace_least.Goals as goal
use Rattle.book.proofs.work.BookMut.replace_least.Given as given

order : (g : given.Over) → Order g.K.Key.before
order g = record { never = g.met.K.Key.never; onward = g.met.K.Key.onward; total = g.met.K.Key.total }

pub evict-requires-clause-there : goal.evict-requires-clause-there
evict-requires-clause-there g c =
    let b = c.args.self.now in
    let n = row_count b.table.now b.used b.kept.room b.kept.seats.placed in
    (c.least-place.ensures.within, omega (arith, c.requires.gap.within))

pub refresh-requires-clause-heap : goal.refresh-requires-clause-heap
refresh-requires-clause-heap g c =
    let b = c.args.self.now in
    written_seated b.table.now c.evict.new.table b.used c.least-place.result (fresh c.args.key c.count_at-count.result) c.evict.ensures.records c.evict.ensures.beside.heap b.kept.seats.heap
    (omega (arith, b.kept.room, c.least-place.ensures.within)) (omega (arith, c.count_at-count.ensures))

pub invariant_of-self : goal.invariant_of-self
invariant_of-self g c =
    let b = c.args.self.now in
    let t : List (Place g.row.K.Denot) = b.table.now in
    let u : List (Place g.row.K.Denot) = c.evict.new.table in
    let v : List (Place g.row.K.Denot) = c.refresh.new.table in
    let used : ℕ = b.used in
    let p : ℕ = c.least-place.result in
    let r : Record g.row.K.Denot = fresh c.args.key c.count_at-count.result in
    let fits : p < length t = omega (arith, b.kept.room, c.least-place.ensures.within) in
    let grown : get_or (counts (records t)) p 0 < r.ins = omega (arith, c.count_at-count.ensures) in
    let long = c.refresh.auto.table ∙ c.evict.auto.table in
    record {
      wide = omega (arith, long, b.wide);
      narrow = omega (arith, long, b.narrow);
      kept = record {
        room = omega (arith, long, b.kept.room);
        few = b.kept.few;
        seats = record { placed = placed_kept u v used c.refresh.ensures.beside.index c.evict.ensures.placed; heap = c.refresh.ensures.heap };
        order = worked g.K.Key.before u v used c.refresh.ensures.beside
            (c.refresh.ensures.ordered
            (written_turning t u used p r c.evict.ensures.records c.evict.ensures.beside.heap b.kept.seats.heap g.K.Key.before
            fits c.requires.some grown (λ d away. absurd (away (sym c.least-place.ensures.root))) b.kept.order.heap))
            _ (sorted_over g.K.Key.before (order g) (rows t used) c.args.key c.args.at (least (rows t used)) (least (rows t used)) b.kept.order.rising c.requires.gap)
            (replaced_rows g.K.Key.before t used b.kept.room b.kept.seats.placed p c.least-place.ensures.within (c.least-place.ensures.least b.kept.order.heap)
            b.kept.order.rising c.args.key c.count_at-count.result c.count_at-count.ensures (rows u used) (λ k l e. c.evict.ensures.exact k l e b.kept.order.rising c.requires.gap));
        small = λ q l.
            let s = small_set t v used used p (b.total - 1) r (c.refresh.ensures.beside.records ∙ c.evict.ensures.records) fits
            (omega (arith, c.requires.counted.1 p c.least-place.ensures.within, c.count_at-count.ensures)) (λ k h ne. h) c.requires.counted.1 q l in
            omega (arith, c.requires.counted.0);
      };
    }

pub returns-clause-rows : goal.returns-clause-rows
returns-clause-rows g c =
    let b = c.args.self.now in
    let t : List (Place g.row.K.Denot) = b.table.now in
    let u : List (Place g.row.K.Denot) = c.evict.new.table in
    rows_kept u c.refresh.new.table b.used c.refresh.ensures.beside.records c.refresh.ensures.beside.index
    ∙ replaced_rows g.K.Key.before t b.used b.kept.room b.kept.seats.placed c.least-place.result c.least-place.ensures.within (c.least-place.ensures.least b.kept.order.heap)
    b.kept.order.rising c.args.key c.count_at-count.result c.count_at-count.ensures (rows u b.used) (λ k l e. c.evict.ensures.exact k l e b.kept.order.rising c.requires.gap)
