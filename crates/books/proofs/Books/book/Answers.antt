use Rattle.std.proofs.Common.{◌*◌, ◌≤◌, length, sym, arith}
use Rattle.books.proofs.Parting.{part_next}
use Rattle.books.proofs.Lending.{Lent, lent_end, lent_part, lent_used, lent_total, lent_long, lent_wide, lent_book}
use Rattle.books.proofs.Working.{book_lent}
use Rattle.books.proofs.Books.book.Goals as goal
use Rattle.books.proofs.Books.book.Given as given

lent : (g : given.Over) (c : goal.After-deref g) → Lent c.args.self.now c.args.r c.deref.result.now c.index-fill.result.now
lent g c = record { there = omega arith; same = c.deref.ensures.value; read = c.index-fill.ensures }

pub overflow_mul-result : goal.overflow_mul-result
overflow_mul-result g c =
    let e = lent_end c.args.self.now c.args.r c.deref.result.now c.index-fill.result.now (lent g c) in
    let n = part_next c.args.r c.args.self.now.width in
    let s = c.args.self.now.table.small in
    omega arith

pub overflow_mul-result-2 : goal.overflow_mul-result-2
overflow_mul-result-2 g c =
    let e = lent_end c.args.self.now c.args.r c.deref.result.now c.index-fill.result.now (lent g c) in
    let s = c.args.self.now.table.small in
    omega arith

pub offset_bounds-deref-r : goal.offset_bounds-deref-r
offset_bounds-deref-r g c =
    let e = lent_end c.args.self.now c.args.r c.deref.result.now c.index-fill.result.now (lent g c) in
    let n = part_next c.args.r c.args.self.now.width in
    let h : c.args.r * c.args.self.now.width ≤ length c.deref.result.now = omega arith in
    h

pub slice_bounds-result-end : goal.slice_bounds-result-end
slice_bounds-result-end g c =
    let e = lent_end c.args.self.now c.args.r c.deref.result.now c.index-fill.result.now (lent g c) in
    let n = part_next c.args.r c.args.self.now.width in
    omega arith

pub invariant_of-result : goal.invariant_of-result
invariant_of-result g c =
    let b = c.args.self.now in
    let l : Lent b c.args.r c.deref.result.now c.index-fill.result.now = record { there = omega arith; same = c.deref.ensures.value; read = c.index-fill.ensures } in
    record { wide = lent_wide b c.args.r _ _ l; kept = lent_book b c.args.r _ _ l }

pub returns : goal.returns
returns g c =
    let b = c.args.self.now in
    let r = c.args.r in
    let d = c.deref.result.now in
    let f = c.index-fill.result.now in
    let l : Lent b r d f = record { there = omega arith; same = c.deref.ensures.value; read = c.index-fill.ensures } in
    (l.there, sym (book_lent _ _ _ _ _ _ _ (lent_part b r d f l) (lent_used b r d f l) (lent_total b r d f l) (lent_long b r d f l)))
