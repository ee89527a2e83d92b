use Rattle.std.proofs.Common.{◌≡◌, ℕ, sym, ap, ◌∙◌}
use Rattle.counting.specs.Rule.{Order}
use Rattle.counting.specs.Book.{ceiling}
use Rattle.counting.proofs.Sums.{bounds_none}
use Rattle.places.specs.Rows.{rows}
use Rattle.book.specs.Sound.{book_in}
use Rattle.book.proofs.Asking.{held_bounds}
use Rattle.book.proofs.read.Book.bounds.Goals as goal
use Rattle.book.proofs.read.Book.bounds.Given as given

order : (g : given.Over) → Order g.K.Key.before
order g = record { never = g.met.K.Key.never; onward = g.met.K.Key.onward; total = g.met.K.Key.total }

pair : (a : ℕ × ℕ) (l h : ℕ) → a.0 ≡ l → a.1 ≡ h → ◌≡◌ {A = ℕ × ℕ} a (l, h)
pair a l h e f = ap (λ (x : ℕ). (x, a.1)) e ∙ ap (λ (x : ℕ). (l, x)) f

pub returns-in-Ok : goal.returns-in-Ok
returns-in-Ok g c =
    let b = c.args.self.now in
    let q = held_bounds b.table.now b.used b.kept.room b.kept.seats.placed g.K.Key.before (order g) c.args.key c.in-Ok.place c.record_at.result
    c.in-Ok.ensures.found b.kept.order.rising c.record_at.ensures (ceiling (book_in b.table.now b.used b.total)) in
    pair c.bounds_of.result _ _ (c.bounds_of.ensures.0 ∙ sym q.1) (c.bounds_of.ensures.1 ∙ sym q.0)

pub returns-in-Err : goal.returns-in-Err
returns-in-Err g c =
    let b = c.args.self.now in
    let q = bounds_none g.K.Key.before c.args.key (ceiling (book_in b.table.now b.used b.total)) (rows b.table.now b.used) (sym c.in-Err.ensures.exact) in
    pair (0, c.ceiling.result) _ _ (sym q.1) (c.ceiling.ensures ∙ sym q.0)
