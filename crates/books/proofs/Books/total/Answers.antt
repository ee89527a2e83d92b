use Rattle.std.proofs.Common.{ap}
use Rattle.counting.specs.Book.{Book}
use Rattle.books.proofs.Reading.{ok_there}
use Rattle.books.proofs.Books.total.Goals as goal

pub returns : goal.returns
returns g c = ok_there c.args.r _ _ _ c.in_ok-book.ensures.0 (ap (λ (b : Book g.row.K.Denot). b.total) c.in_ok-book.ensures.1)
