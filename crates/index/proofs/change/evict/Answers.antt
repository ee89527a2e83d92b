use Rattle.std.proofs.Common.{◌≡◌, ℕ, ◌-◌, ◌<◌, ltb, List, length, set, sym, refl, ap, ◌∙◌, arith}
use Rattle.std.specs.List.{insert, remove}
use Rattle.std.proofs.lemmas.Bool.{cond-true, cond-false, lt-ltb, le-ltb}
use Rattle.places.specs.declared.place.Place.{Place}
use Rattle.counting.specs.declared.Record.{Record}
use Rattle.places.specs.Columns.{records}
use Rattle.places.specs.Rows.{rows}
use Rattle.counting.specs.Rule.{Order, enter}
use Rattle.index.proofs.Orders.{gap_removed}
use Rattle.index.proofs.Tables.{one_position, row_count}
use Rattle.index.proofs.change.evict.Goals as goal
use Rattle.index.proofs.change.evict.Given as given

order : (g : given.Over) → Order g.K.Key.before
order g = record { never = g.met.K.Key.never; onward = g.met.K.Key.onward; total = g.met.K.Key.total }

pub returns-then-from-at : goal.returns-then-from-at
returns-then-from-at g c =
    let t : List (Place g.row.K.Denot) = c.args.table.now in
    let rs : List (Record g.row.K.Denot) = rows t c.args.used in
    let r : Record g.row.K.Denot = c.args.record in
    let from : ℕ = c.position-from.result in
    let at : ℕ = c.args.at in
    record {
      records = c.replace.ensures.records ∙ ap (λ i. set (records t) i r) c.position-from.ensures.place;
      placed = c.replace.ensures.placed;
      exact = λ k lt e so ga.
          let z : k ≡ from = one_position t c.args.used c.requires.room c.requires.placed k from lt c.position-from.ensures.within (e ∙ sym c.position-from.ensures.place) in
          let in' : from < length rs = omega (arith, row_count t c.args.used c.requires.room c.requires.placed, c.position-from.ensures.within) in
          c.replace.ensures.rows
          ∙ ap (λ j. insert (remove rs from) j r) (sym (cond-true (ltb from at) (at - 1) at (lt-ltb from at c.if-from-at.true)))
          ∙ sym (gap_removed g.K.Key.before (order g) rs so r.key at r refl ga from in')
          ∙ ap (λ j. enter g.K.Key.before r (remove rs j)) (sym z);
      beside = c.replace.ensures.beside;
    }

pub returns-else-from-at : goal.returns-else-from-at
returns-else-from-at g c =
    let t : List (Place g.row.K.Denot) = c.args.table.now in
    let rs : List (Record g.row.K.Denot) = rows t c.args.used in
    let r : Record g.row.K.Denot = c.args.record in
    let from : ℕ = c.position-from.result in
    let at : ℕ = c.args.at in
    record {
      records = c.replace-else-from-at.ensures.records ∙ ap (λ i. set (records t) i r) c.position-from.ensures.place;
      placed = c.replace-else-from-at.ensures.placed;
      exact = λ k lt e so ga.
          let z : k ≡ from = one_position t c.args.used c.requires.room c.requires.placed k from lt c.position-from.ensures.within (e ∙ sym c.position-from.ensures.place) in
          let in' : from < length rs = omega (arith, row_count t c.args.used c.requires.room c.requires.placed, c.position-from.ensures.within) in
          c.replace-else-from-at.ensures.rows
          ∙ ap (λ j. insert (remove rs from) j r) (sym (cond-false (ltb from at) (at - 1) at (le-ltb from at c.if-from-at.false)))
          ∙ sym (gap_removed g.K.Key.before (order g) rs so r.key at r refl ga from in')
          ∙ ap (λ j. enter g.K.Key.before r (remove rs j)) (sym z);
      beside = c.replace-else-from-at.ensures.beside;
    }
