use Rattle.std.proofs.Common.{◌≡◌, ℕ, sym, ap, ◌∙◌, subst}
use Rattle.counting.specs.Rule.{Order}
use Rattle.counting.specs.Book.{Book, bounds}
use Rattle.counting.specs.Laws.{Encloses}
use Rattle.counting.proofs.Lawfuls.{lawful}
use Rattle.books.specs.OfBooks.{book_of}
use Rattle.books.proofs.Books.bounds.Goals as goal
use Rattle.books.proofs.Books.bounds.Given as given

order : (g : given.Over) → Order g.K.Key.before
order g = record { never = g.met.K.Key.never; onward = g.met.K.Key.onward; total = g.met.K.Key.total }

pub returns-clause-law : goal.returns-clause-law
returns-clause-law g c es l h at e =
    let b = book_of c.args.self.now c.args.r in
    let told : ◌≡◌ {A = ℕ × ℕ} (bounds g.K.Key.before b c.args.key) (l, h) =
    sym (c.bounds.ensures ∙ ap (λ (x : Book g.row.K.Denot). bounds g.K.Key.before x c.args.key) c.in_ok-book.ensures.1) ∙ (cc) in
    subst (λ (p : ℕ × ℕ). Encloses g.K.Key.before es c.args.key p.0 p.1) told ((lawful g.K.Key.before (order g) es _ at.run).bound c.args.key)
