use Rattle.std.proofs.Common.{ℕ, ◌*◌, ◌≤◌, List, length, refl, ◌∙◌, arith, rules}
use borrow.Author.Rules.{scaled_fits≤}
use Rattle.counting.specs.Runs.{then_put}
use Rattle.places.specs.declared.place.Place.{Place}
use Rattle.books.specs.declared.fill.Fill.{Fill}
use Rattle.books.specs.declared.Books.{Books}
use Rattle.books.specs.OfBooks.{count, Beside}
use Rattle.books.proofs.Parting.{part_next}
use Rattle.books.proofs.Lending.{Lent, table_end, lent_part, lent_used, lent_total, lent_long, lent_narrow, lent_wide, lent_book, back_part, back_other, back_spare, fills_same, back_same, back_each, back_used, back_total, other_used, other_total}
use Rattle.books.proofs.Working.{book_lent, put_back, answer_there, reached_beside}
use Rattle.books.proofs.Books.put.Goals as goal

pub overflow_mul-r : goal.overflow_mul-r
overflow_mul-r g c =
    let e = table_end c.args.self.now c.args.r c.deref_mut.result.now (omega arith) c.deref_mut.ensures.value in
    let n = part_next c.args.r c.args.self.now.width in
    let s = c.args.self.now.table.small in
    omega arith

pub overflow_mul-r-2 : goal.overflow_mul-r-2
overflow_mul-r-2 g c =
    let e = table_end c.args.self.now c.args.r c.deref_mut.result.now (omega arith) c.deref_mut.ensures.value in
    let s = c.args.self.now.table.small in
    omega arith

pub offset_bounds-deref_mut-r : goal.offset_bounds-deref_mut-r
offset_bounds-deref_mut-r g c =
    let e = table_end c.args.self.now c.args.r c.deref_mut.result.now (omega arith) c.deref_mut.ensures.value in
    let n = part_next c.args.r c.args.self.now.width in
    let h : c.args.r * c.args.self.now.width ≤ length c.deref_mut.result.now = omega arith in
    search (rules, scaled_fits≤)

pub slice_bounds-put_in-end : goal.slice_bounds-put_in-end
slice_bounds-put_in-end g c =
    let e = table_end c.args.self.now c.args.r c.deref_mut.result.now (omega arith) c.deref_mut.ensures.value in
    let n = part_next c.args.r c.args.self.now.width in
    omega arith

pub put_in-requires : goal.put_in-requires
put_in-requires g c =
    let b : Books g.row.K.Denot g.K.Key = c.args.self.now in
    let d : List (Place g.row.K.Denot) = c.deref_mut.result.now in
    let f : Fill = c.index_mut.result.now in
    let l : Lent b c.args.r d f = record { there = omega arith; same = c.deref_mut.ensures.value; read = c.index_mut.ensures.value } in
    record { width = (lent_wide b c.args.r d f l, lent_narrow b c.args.r d f l); kept = lent_book b c.args.r d f l }

pub invariant_of-self-2 : goal.invariant_of-self-2
invariant_of-self-2 g c =
    let b : Books g.row.K.Denot g.K.Key = c.args.self.now in
    let d : List (Place g.row.K.Denot) = c.deref_mut.result.now in
    let f : Fill = c.index_mut.result.now in
    let l : Lent b c.args.r d f = record { there = omega arith; same = c.deref_mut.ensures.value; read = c.index_mut.ensures.value } in
    record { wide = b.wide; narrow = b.narrow; room = b.room; each = back_each b c.args.r d f l c.put_in.new.table c.put_in.auto.table c.put_in.new.fill c.put_in.ensures.kept }

pub returns : goal.returns
returns g c =
    let b : Books g.row.K.Denot g.K.Key = c.args.self.now in
    let r : ℕ = c.args.r in
    let d : List (Place g.row.K.Denot) = c.deref_mut.result.now in
    let f : Fill = c.index_mut.result.now in
    let v : Fill = c.put_in.new.fill in
    let ys : List (Place g.row.K.Denot) = c.put_in.new.table in
    let long = c.put_in.auto.table in
    let l : Lent b r d f = record { there = omega arith; same = c.deref_mut.ensures.value; read = c.index_mut.ensures.value } in
    let was = book_lent _ _ _ _ _ _ _ (lent_part b r d f l) (lent_used b r d f l) (lent_total b r d f l) (lent_long b r d f l) in
    let is = book_lent _ _ _ _ _ _ _ (back_part b r d f l ys long) (back_used b r d f l ys long v) (back_total b r d f l ys long v) (long ∙ lent_long b r d f l) in
    let done = put_back g.K.Key.before c.args.key c.put_in.result _ _ _ _ was is c.put_in.ensures.exact in
    let beside : Beside b _ r = record {
      same_width = refl;
      same_count = refl;
      same_length = refl;
      parts = back_other b r d f l ys long;
      used = other_used b r d f l ys long v;
      totals = other_total b r d f l ys long v;
      spare = back_spare b r d f l ys long (count b) l.there;
    } in
    record {
      answer = answer_there b r _ l.there done.answer;
      refused = λ z. let e = c.put_in.ensures.refused z in record { table = back_same b r d f l ys long e.0; fills = fills_same b r d f l v e.1; same_width = refl };
      beside = beside;
      exact = λ _. done;
      run = λ es at. record { there = at.there; run = then_put at.run done };
      others = reached_beside b _ r beside;
    }
