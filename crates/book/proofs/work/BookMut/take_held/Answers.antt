use Rattle.std.proofs.Common.{◌≡◌, ℕ, ◌<◌, ◌≤◌, ◌≢◌, List, get_or, set, sym, ap, ◌∙◌, subst, arith}
use Rattle.counting.specs.declared.Record.{Record}
use Rattle.counting.specs.Rule.{Order, lowered}
use Rattle.counting.specs.Book.{ceiling, bounds}
use Rattle.places.specs.declared.place.Place.{Place}
use Rattle.places.specs.Columns.{records, counts}
use Rattle.index.proofs.Tables.{rows_kept}
use Rattle.book.specs.Sound.{book_in}
use Rattle.book.proofs.Seating.{kept_same}
use Rattle.book.proofs.Asking.{held_bounds, taken_refused, taken_done, out_counts, out_seats, out_order}
use Rattle.book.proofs.work.BookMut.take_held.Goals as goal
use Rattle.book.proofs.work.BookMut.take_held.Given as given

order : (g : given.Over) → Order g.K.Key.before
order g = record { never = g.met.K.Key.never; onward = g.met.K.Key.onward; total = g.met.K.Key.total }

pub returns-then-high-eq0-clause-exact : goal.returns-then-high-eq0-clause-exact
returns-then-high-eq0-clause-exact g c =
    let b = c.args.self.now in
    let q = held_bounds b.table.now b.used b.kept.room b.kept.seats.placed g.K.Key.before (order g) c.args.key c.args.place c.record_at-was.result
    c.requires.holds b.kept.order.rising c.record_at-was.ensures (ceiling (book_in b.table.now b.used b.total)) in
    taken_refused g.K.Key.before b.table.now b.used b.total c.args.key (q.0 ∙ sym c.bounds_of-high.ensures.1 ∙ c.if-high-eq0.true)

pub invariant_of-self-2 : goal.invariant_of-self-2
invariant_of-self-2 g c =
    let b = c.args.self.now in
    let t : List (Place g.row.K.Denot) = b.table.now in
    let u : List (Place g.row.K.Denot) = c.amend.new.table in
    let p : ℕ = c.args.place in
    let a = c.amend.ensures in
    let e = c.set_hint.ensures in
    let long = c.set_hint.auto.table ∙ c.amend.auto.table in
    let re : (d : Record g.row.K.Denot) → records u ≡ set (records t) p (lowered (get_or (records t) p d)) =
    λ d. a.records ∙ ap (λ (r : Record g.row.K.Denot). set (records t) p (lowered r)) (sym (c.record_at-was.ensures d)) in
    let counted : counts (records u) ≡ counts (records t) = out_counts t b.used b.kept.room b.kept.seats.placed u p re a.index a.beside.heap c.requires.holds.within in
    record {
      wide = omega (arith, long, b.wide);
      narrow = omega (arith, long, b.narrow);
      kept = kept_same u c.set_hint.new.table e.records e.index e.heap g.K.Key.before b.used b.total
          (record {
            room = omega (arith, c.amend.auto.table, b.kept.room);
            few = b.kept.few;
            seats = out_seats t b.used b.kept.room b.kept.seats.placed u p re a.index a.beside.heap c.requires.holds.within b.kept.seats.heap;
            order = out_order t b.used b.kept.room b.kept.seats.placed u p re a.index a.beside.heap c.requires.holds.within g.K.Key.before c.args.key b.kept.order
                (a.rows lowered b.used c.args.key (λ d. ap lowered (sym (c.record_at-was.ensures d))) b.kept.room b.kept.seats.placed c.requires.holds b.kept.order.rising);
            small = subst (λ (cs : List ℕ). (q : ℕ) → q < b.used → get_or cs q 0 ≤ b.total) (sym counted) b.kept.small;
          });
    }

pub returns-clause-exact : goal.returns-clause-exact
returns-clause-exact g c =
    let b = c.args.self.now in
    let t : List (Place g.row.K.Denot) = b.table.now in
    let u : List (Place g.row.K.Denot) = c.amend.new.table in
    let q = held_bounds t b.used b.kept.room b.kept.seats.placed g.K.Key.before (order g) c.args.key c.args.place c.record_at-was.result
    c.requires.holds b.kept.order.rising c.record_at-was.ensures (ceiling (book_in t b.used b.total)) in
    let ne : (bounds g.K.Key.before (book_in t b.used b.total) c.args.key).1 ≢ 0 = λ z. c.if-high-eq0.false (c.bounds_of-high.ensures.1 ∙ sym q.0 ∙ z) in
    taken_done g.K.Key.before t b.used b.total c.args.key c.set_hint.new.table ne (c.set_hint.auto.table ∙ c.amend.auto.table)
    (rows_kept u c.set_hint.new.table b.used c.set_hint.ensures.records c.set_hint.ensures.index
    ∙ c.amend.ensures.rows lowered b.used c.args.key (λ d. ap lowered (sym (c.record_at-was.ensures d))) b.kept.room b.kept.seats.placed c.requires.holds b.kept.order.rising)

pub returns-clause-counts : goal.returns-clause-counts
returns-clause-counts g c =
    let b = c.args.self.now in
    let t : List (Place g.row.K.Denot) = b.table.now in
    let u : List (Place g.row.K.Denot) = c.amend.new.table in
    let re : (d : Record g.row.K.Denot) → records u ≡ set (records t) c.args.place (lowered (get_or (records t) c.args.place d)) =
    λ d. c.amend.ensures.records ∙ ap (λ (r : Record g.row.K.Denot). set (records t) c.args.place (lowered r)) (sym (c.record_at-was.ensures d)) in
    ap counts c.set_hint.ensures.records ∙ out_counts t b.used b.kept.room b.kept.seats.placed u c.args.place re c.amend.ensures.index c.amend.ensures.beside.heap c.requires.holds.within
