use Rattle.std.proofs.Common.{◌≡◌, ℕ, ◌-◌, ◌<◌, List, length, get_or, sym, refl, ap, ◌∙◌, arith}
use lib.ListN.{length-map}
use Rattle.counting.specs.declared.Record.{Record}
use Rattle.counting.specs.Rule.{raised}
use Rattle.counting.proofs.Sorts.{sorted_at_key}
use Rattle.places.specs.declared.place.Place.{Place}
use Rattle.places.specs.Columns.{records, counts}
use Rattle.places.proofs.Columns.{count_of}
use Rattle.index.specs.Search.{Holds}
use Rattle.index.proofs.Tables.{placed_kept, rows_kept}
use Rattle.book.proofs.Seating.{small_set}
use Rattle.book.proofs.Putting.{written_seated, written_turning, worked}
use Rattle.book.proofs.work.BookMut.raise.Goals as goal

-- the count in that was read
count_was : {K : Type 0} (t : List (Place K)) (p : ℕ) (was : Record K) → p < length t → ((d : Record K) → get_or (records t) p d ≡ was) → get_or (counts (records t)) p 0 ≡ was.ins
count_was t p was lt is = count_of (records t) p was (let n : length (records t) ≡ length t = length-map _ _ in omega arith) ∙ ap (λ r. r.ins) (is was)

pub overflow_add-raised : goal.overflow_add-raised
overflow_add-raised g c =
    let b = c.args.self.now in
    let e = count_was b.table.now c.args.place c.record_at-was.result (omega (arith, b.kept.room)) c.record_at-was.ensures in
    omega (arith, c.requires.counted.1 c.args.place c.requires.there, b.kept.few)

pub refresh-requires-clause-heap : goal.refresh-requires-clause-heap
refresh-requires-clause-heap g c =
    let b = c.args.self.now in
    let was : Record g.row.K.Denot = c.record_at-was.result in
    let fits : c.args.place < length b.table.now = omega (arith, b.kept.room) in
    let e = count_was b.table.now c.args.place was fits c.record_at-was.ensures in
    written_seated b.table.now c.amend.new.table b.used c.args.place (raised was) c.amend.ensures.records c.amend.ensures.beside.heap b.kept.seats.heap fits (omega arith)

pub invariant_of-self : goal.invariant_of-self
invariant_of-self g c =
    let b = c.args.self.now in
    let t : List (Place g.row.K.Denot) = b.table.now in
    let u : List (Place g.row.K.Denot) = c.amend.new.table in
    let v : List (Place g.row.K.Denot) = c.refresh.new.table in
    let used : ℕ = b.used in
    let p : ℕ = c.args.place in
    let was : Record g.row.K.Denot = c.record_at-was.result in
    let fits : p < length t = omega (arith, b.kept.room) in
    let e = count_was t p was fits c.record_at-was.ensures in
    let long = c.refresh.auto.table ∙ c.amend.auto.table in
    let holds : Holds (records t) used was.key p = record { within = c.requires.there; key = λ d. ap (λ (r : Record g.row.K.Denot). r.key) (c.record_at-was.ensures d) } in
    record {
      wide = omega (arith, long, b.wide);
      narrow = omega (arith, long, b.narrow);
      kept = record {
        room = omega (arith, long, b.kept.room);
        few = b.kept.few;
        seats = record { placed = placed_kept t v used (c.refresh.ensures.beside.index ∙ c.amend.ensures.index) b.kept.seats.placed; heap = c.refresh.ensures.heap };
        order = worked g.K.Key.before u v used c.refresh.ensures.beside
            (c.refresh.ensures.ordered
            (written_turning t u used p (raised was) c.amend.ensures.records c.amend.ensures.beside.heap b.kept.seats.heap g.K.Key.before
            fits (omega arith) (omega arith) (λ d _. ap (λ (r : Record g.row.K.Denot). r.key) (sym (c.record_at-was.ensures d))) b.kept.order.heap))
            _ (sorted_at_key g.K.Key.before was.key raised (λ r. refl) _ b.kept.order.rising)
            (c.amend.ensures.rows raised used was.key (λ d. ap raised (sym (c.record_at-was.ensures d))) b.kept.room b.kept.seats.placed holds b.kept.order.rising);
        small = λ q l.
            let s = small_set t v used used p (b.total - 1) (raised was) (c.refresh.ensures.beside.records ∙ c.amend.ensures.records) fits
            (omega (arith, c.requires.counted.1 p c.requires.there)) (λ k h ne. h) c.requires.counted.1 q l in
            omega (arith, c.requires.counted.0);
      };
    }

pub returns-clause-rows : goal.returns-clause-rows
returns-clause-rows g c x holds =
    let b = c.args.self.now in
    rows_kept c.amend.new.table c.refresh.new.table b.used c.refresh.ensures.beside.records c.refresh.ensures.beside.index
    ∙ c.amend.ensures.rows raised b.used x (λ d. ap raised (sym (c.record_at-was.ensures d))) b.kept.room b.kept.seats.placed holds b.kept.order.rising
