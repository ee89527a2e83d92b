-- What two calls, one after the other, leave alone. Assumes nothing.
use Rattle.std.proofs.Common.{◌≡◌, ℕ, ◌*◌, drop, vec_items, sym, refl, ap, ◌∙◌}
use Rattle.keys.specs.declared.key.Key.{Ghosts}
use Rattle.books.specs.declared.Books.{Books}
use Rattle.books.specs.OfBooks as Books
use Rattle.ledger.specs.declared.Ledger.{Ledger}
use Rattle.ledger.specs.OfLedger.{Beside}

pub beside_none : {K : Type 0} {G : Ghosts K} (l : Ledger K G) → Beside l l
beside_none l = record {
  books = record { same_width = refl; same_count = refl; same_length = refl; parts = λ q ne. refl; used = λ q ne. refl; totals = λ q ne. refl; spare = refl };
  share = refl;
}

books_more : {K : Type 0} {G : Ghosts K} (b c d : Books K G) (r : ℕ) → Books.Beside b c r → Books.Beside c d r → Books.Beside b d r
books_more b c d r h k =
    let same : Books.count b * b.width ≡ Books.count c * c.width = ap (λ n. n * b.width) (sym h.same_count) ∙ ap (λ n. Books.count c * n) (sym h.same_width) in
    record {
      same_width = k.same_width ∙ h.same_width;
      same_count = k.same_count ∙ h.same_count;
      same_length = k.same_length ∙ h.same_length;
      parts = λ q ne. k.parts q ne ∙ h.parts q ne;
      used = λ q ne. k.used q ne ∙ h.used q ne;
      totals = λ q ne. k.totals q ne ∙ h.totals q ne;
      spare = ap (λ n. drop n (vec_items d.table)) same ∙ k.spare ∙ ap (λ n. drop n (vec_items c.table)) (sym same) ∙ h.spare;
    }

pub beside_more : {K : Type 0} {G : Ghosts K} (l m n : Ledger K G) → Beside l m → Beside m n → Beside l n
beside_more l m n h k = record { books = books_more l.books m.books n.books 0 h.books k.books; share = k.share ∙ h.share }
