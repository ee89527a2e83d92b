use Rattle.std.proofs.Common.{sym, ap, ◌∙◌, arith}
use Rattle.counting.specs.declared.Record.{Record}
use Rattle.places.specs.Columns.{records}
use Rattle.places.specs.Rows.{rows}
use Rattle.counting.specs.Rule.{Order}
use Rattle.index.specs.Search.{Gap, Holds}
use Rattle.counting.proofs.Records.{same_is}
use Rattle.index.proofs.Orders.{gap_unheld}
use Rattle.index.proofs.Tables.{row_count, holds_held}
use Rattle.index.proofs.search.Index.find.Goals as goal
use Rattle.index.proofs.search.Index.find.Given as given

order : (g : given.Over) → Order g.K.Key.before
order g = record { never = g.met.K.Key.never; onward = g.met.K.Key.onward; total = g.met.K.Key.total }

pub returns-then-is_same : goal.returns-then-is_same
returns-then-is_same g c =
    let h : Holds (records c.args.self.now.table.now) c.args.self.now.used c.args.key c.hint_at-near.result =
    record { within = c.if-near-self.true; key = λ d. c.key_at.ensures d ∙ same_is g.K.Key.before (order g) _ _ (sym c.if-is_same.ensures) } in
    record { found = h; exact = λ _. sym (holds_held c.args.self.now.table.now c.args.self.now.used c.args.self.now.room c.args.self.now.placed g.K.Key.before (order g) _ _ h) }

pub returns-then-at-self : goal.returns-then-at-self
returns-then-at-self g c =
    let n = row_count c.args.self.now.table.now c.args.self.now.used c.args.self.now.room c.args.self.now.placed in
    let ed = c.lower-at.ensures.edge in
    let h : Gap g.K.Key.before (rows c.args.self.now.table.now c.args.self.now.used) c.args.key c.lower-at.result =
    record { within = ed.within; under = ed.under; over = λ d lt. absurd (omega arith) } in
    record { found = (c.lower-at.ensures.within, h); exact = λ so. sym (gap_unheld g.K.Key.before (order g) _ so _ _ h) }

pub returns-then-is_before : goal.returns-then-is_before
returns-then-is_before g c =
    let ed = c.lower-at.ensures.edge in
    let h : Gap g.K.Key.before (rows c.args.self.now.table.now c.args.self.now.used) c.args.key c.lower-at.result =
    record {
      within = ed.within;
      under = ed.under;
      over = λ d lt. ap (λ (r : Record g.row.K.Denot). g.K.Key.before c.args.key r.key) (c.place_at-place.ensures.row d)
          ∙ ap (g.K.Key.before c.args.key) (c.key_at-2.ensures d) ∙ sym c.if-is_before.ensures;
    } in
    record { found = (c.lower-at.ensures.within, h); exact = λ so. sym (gap_unheld g.K.Key.before (order g) _ so _ _ h) }

pub returns : goal.returns
returns g c =
    let n = row_count c.args.self.now.table.now c.args.self.now.used c.args.self.now.room c.args.self.now.placed in
    let ed = c.lower-at.ensures.edge in
    let h : Holds (records c.args.self.now.table.now) c.args.self.now.used c.args.key c.place_at-place.result =
    record {
      within = c.place_at-place.ensures.within;
      key = λ d. g.met.K.Key.total _ _
          (ap (λ (r : Record g.row.K.Denot). g.K.Key.before r.key c.args.key) (sym (c.place_at-place.ensures.row d)) ∙ ed.here d (omega (arith, c.place_at-place.ensures.within)))
          (ap (g.K.Key.before c.args.key) (c.key_at-2.ensures d) ∙ sym c.if-is_before.ensures);
    } in
    record { found = h; exact = λ _. sym (holds_held c.args.self.now.table.now c.args.self.now.used c.args.self.now.room c.args.self.now.placed g.K.Key.before (order g) _ _ h) }
