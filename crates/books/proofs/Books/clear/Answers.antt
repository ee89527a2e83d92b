use Rattle.std.proofs.Common.{List, refl, ◌∙◌}
use Rattle.books.specs.declared.fill.Fill.{Fill}
use Rattle.books.specs.declared.Books.{Books}
use Rattle.books.proofs.Opening.{none_refilled, each_opened, reached_opened}
use Rattle.books.proofs.Books.clear.Goals as goal

pub invariant_of-self : goal.invariant_of-self
invariant_of-self g c =
    let b : Books g.row.K.Denot g.K.Key = c.args.self.now in
    let fs : List Fill = c.empty_all.new.fills in
    record {
      wide = b.wide;
      narrow = b.narrow;
      room = b.room;
      each = each_opened _ _ _ b.width (none_refilled b.fills fs (c.empty_all.auto.fills ∙ c.deref_mut.ensures.len) c.empty_all.ensures);
    }

pub returns : goal.returns
returns g c =
    let b : Books g.row.K.Denot g.K.Key = c.args.self.now in
    let fs : List Fill = c.empty_all.new.fills in
    record {
      table = refl;
      number = refl;
      same_width = refl;
      reached = reached_opened _ (none_refilled b.fills fs (c.empty_all.auto.fills ∙ c.deref_mut.ensures.len) c.empty_all.ensures);
    }
