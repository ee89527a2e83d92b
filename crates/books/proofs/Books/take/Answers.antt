use Rattle.std.proofs.Common.{ℕ, ◌*◌, ◌≤◌, List, length, refl, ◌∙◌, arith, rules}
use borrow.Author.Rules.{scaled_fits≤}
use Rattle.counting.specs.Runs.{then_take}
use Rattle.places.specs.declared.place.Place.{Place}
use Rattle.books.specs.declared.fill.Fill.{Fill}
use Rattle.books.specs.declared.Books.{Books}
use Rattle.books.specs.OfBooks.{count, Beside}
use Rattle.books.proofs.Parting.{part_next}
use Rattle.books.proofs.Lending.{Lent, lent_end, lent_part, lent_used, lent_total, lent_long, lent_narrow, lent_wide, lent_book, back_part, back_other, back_spare, back_same, kept_each}
use Rattle.books.proofs.Working.{book_lent, taken_back, reached_beside}
use Rattle.books.proofs.Books.take.Goals as goal
use Rattle.books.proofs.Books.take.Given as given

lent : (g : given.Over) (c : goal.After-deref_mut g) → Lent c.args.self.now c.args.r c.deref_mut.result.now c.index-fill.result.now
lent g c = record { there = omega arith; same = c.deref_mut.ensures.value; read = c.index-fill.ensures }

pub overflow_mul-r : goal.overflow_mul-r
overflow_mul-r g c =
    let e = lent_end c.args.self.now c.args.r c.deref_mut.result.now c.index-fill.result.now (lent g c) in
    let n = part_next c.args.r c.args.self.now.width in
    let s = c.args.self.now.table.small in
    omega arith

pub overflow_mul-r-2 : goal.overflow_mul-r-2
overflow_mul-r-2 g c =
    let e = lent_end c.args.self.now c.args.r c.deref_mut.result.now c.index-fill.result.now (lent g c) in
    let s = c.args.self.now.table.small in
    omega arith

pub offset_bounds-deref_mut-r : goal.offset_bounds-deref_mut-r
offset_bounds-deref_mut-r g c =
    let e = lent_end c.args.self.now c.args.r c.deref_mut.result.now c.index-fill.result.now (lent g c) in
    let n = part_next c.args.r c.args.self.now.width in
    let h : c.args.r * c.args.self.now.width ≤ length c.deref_mut.result.now = omega arith in
    search (rules, scaled_fits≤)

pub slice_bounds-take_from-end : goal.slice_bounds-take_from-end
slice_bounds-take_from-end g c =
    let e = lent_end c.args.self.now c.args.r c.deref_mut.result.now c.index-fill.result.now (lent g c) in
    let n = part_next c.args.r c.args.self.now.width in
    omega arith

pub take_from-requires : goal.take_from-requires
take_from-requires g c =
    let b : Books g.row.K.Denot g.K.Key = c.args.self.now in
    let d : List (Place g.row.K.Denot) = c.deref_mut.result.now in
    let f : Fill = c.index-fill.result.now in
    let l : Lent b c.args.r d f = record { there = omega arith; same = c.deref_mut.ensures.value; read = c.index-fill.ensures } in
    record { width = (lent_wide b c.args.r d f l, lent_narrow b c.args.r d f l); kept = lent_book b c.args.r d f l }

pub invariant_of-self : goal.invariant_of-self
invariant_of-self g c =
    let b : Books g.row.K.Denot g.K.Key = c.args.self.now in
    let d : List (Place g.row.K.Denot) = c.deref_mut.result.now in
    let f : Fill = c.index-fill.result.now in
    let l : Lent b c.args.r d f = record { there = omega arith; same = c.deref_mut.ensures.value; read = c.index-fill.ensures } in
    record { wide = b.wide; narrow = b.narrow; room = b.room; each = kept_each b c.args.r d f l c.take_from.new.table c.take_from.auto.table c.take_from.ensures.kept }

pub returns : goal.returns
returns g c =
    let b : Books g.row.K.Denot g.K.Key = c.args.self.now in
    let r : ℕ = c.args.r in
    let d : List (Place g.row.K.Denot) = c.deref_mut.result.now in
    let f : Fill = c.index-fill.result.now in
    let ys : List (Place g.row.K.Denot) = c.take_from.new.table in
    let long = c.take_from.auto.table in
    let l : Lent b r d f = record { there = omega arith; same = c.deref_mut.ensures.value; read = c.index-fill.ensures } in
    let was = book_lent _ _ _ _ _ _ _ (lent_part b r d f l) (lent_used b r d f l) (lent_total b r d f l) (lent_long b r d f l) in
    let is = book_lent _ _ _ _ _ _ _ (back_part b r d f l ys long) (lent_used b r d f l) (lent_total b r d f l) (long ∙ lent_long b r d f l) in
    let done = taken_back g.K.Key.before c.args.key c.take_from.result _ _ _ _ was is c.take_from.ensures.exact in
    let beside : Beside b _ r = record {
      same_width = refl;
      same_count = refl;
      same_length = refl;
      parts = back_other b r d f l ys long;
      used = λ q ne. refl;
      totals = λ q ne. refl;
      spare = back_spare b r d f l ys long (count b) l.there;
    } in
    record {
      row = λ le. absurd (omega (arith, l.there));
      refused = λ z. record { table = back_same b r d f l ys long (c.take_from.ensures.refused z); fills = refl; same_width = refl };
      beside = beside;
      exact = λ _. done;
      run = λ es at. record { there = at.there; run = then_take at.run done };
      others = reached_beside b _ r beside;
    }
