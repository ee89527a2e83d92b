use Rattle.std.proofs.Common.{ap, ◌∙◌}
use Rattle.std.specs.List.{slice_get}
use Rattle.counting.specs.Book.{Book}
use Rattle.books.proofs.Reading.{ok_there}
use Rattle.books.proofs.Books.record.Goals as goal

pub returns : goal.returns
returns g c = ok_there c.args.r _ _ _ c.in_ok-book.ensures.0 (c.record.ensures ∙ ap (λ (b : Book g.row.K.Denot). slice_get b.records c.args.i) c.in_ok-book.ensures.1)
