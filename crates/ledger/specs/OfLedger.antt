-- What a ledger holds, seen from outside. Assumes nothing.
use Rattle.std.specs.Prelude.{◌≡◌, List}
use Rattle.keys.specs.declared.key.Key.{Ghosts}
use Rattle.books.specs.OfBooks as Books
use Rattle.ledger_rules.specs.Ledgers as Rules
use Rattle.ledger_rules.specs.Tallies.{Event, Run}
use Rattle.ledger.specs.declared.Ledger.{Ledger}

-- the ledger as the rules see it
abbrev pub state_of : {K : Type 0} {G : Ghosts K} → Ledger K G → Rules.Ledger K
state_of l = record { book = Books.book_of l.books 0; share = l.share; retracts = l.retracts }

-- every place of the table and every number is as it was
pub record Unchanged {K : Type 0} {G : Ghosts K} (l m : Ledger K G) : Type 0 where
  pub books : Books.Unchanged l.books m.books
  pub share : m.share ≡ l.share
  pub retracts : m.retracts ≡ l.retracts

-- width and share are as they were, and no place beyond the book was written; each call has to promise it of itself
pub record Beside {K : Type 0} {G : Ghosts K} (l m : Ledger K G) : Type 0 where
  pub books : Books.Beside l.books m.books 0
  pub share : m.share ≡ l.share

-- the calls es, from an opening, led here
abbrev pub Reached : {K : Type 0} {G : Ghosts K} → List (Event K) → Ledger K G → Type 0
Reached {K} {G} es l = Run G es (state_of l)
