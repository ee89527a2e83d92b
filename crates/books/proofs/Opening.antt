-- Books with no call yet. Assumes nothing.
use Rattle.std.proofs.Common.{◌≡◌, ℕ, ◌*◌, ◌/◌, ◌<◌, ◌≤◌, Bool, cond, ◌&&◌, leb, List, [], length, Some, None, Vec, sym, refl, ap, ◌∙◌, subst, div-lt_iff_lt-mul, le-div_iff_mul-le, arith}
use Rattle.std.specs.Vec.{with_items}
use Rattle.std.proofs.lemmas.List.{with_items_is}
use Rattle.std.proofs.lemmas.Bool.{cond-true, cond-false, le-leb, lt-leb, le-ltb}
use Rattle.refusals.specs.declared.Refusal.TheVariants.{Width, Short}
use Rattle.counting.specs.Runs.{from_opening}
use Rattle.keys.specs.declared.key.Key.{Ghosts}
use Rattle.places.specs.declared.place.Place.{Place}
use Rattle.places.specs.Columns.{records, counts, entries}
use Rattle.heap.proofs.Changes.{opened_sound, opened_order}
use Rattle.book.specs.Sound.{IsBook}
use Rattle.books.specs.declared.fill.Fill.{Fill}
use Rattle.books.specs.declared.Books.{Books}
use Rattle.books.specs.Parts.{part, used_at, total_at}
use Rattle.books.specs.OfBooks.{count, part_of, used_of, total_of, Reached}
use Rattle.books.specs.Openings.{open_refusal}
use Rattle.books.proofs.Wholes.{Each, book_moved}
use Rattle.books.proofs.Working.{book_same}

-- places of which none is in use
empty_book : {K : Type 0} (before : K → K → Bool) (p : List (Place K)) → IsBook before p 0 0
empty_book before p = record {
  room = omega arith;
  few = omega arith;
  seats = record { placed = λ q. sym (cond-false _ 1 0 (le-ltb q 0 (omega arith))); heap = opened_sound (entries p) (counts (records p)) };
  order = record { rising = tt; heap = opened_order before (entries p) (records p) };
  small = λ p lt. absurd (omega arith);
}

pub each_opened : {K : Type 0} (before : K → K → Bool) (ts : List (Place K)) (fs : List Fill) (w : ℕ) → ((r : ℕ) → (used_at fs r ≡ 0) × (total_at fs r ≡ 0)) → Each before ts fs w
each_opened before ts fs w none r = book_moved before _ _ _ 0 _ 0 refl (none r).0 (none r).1 (empty_book before (part ts w r))

pub reached_opened : {K : Type 0} {G : Ghosts K} (b : Books K G) → ((r : ℕ) → (used_of b r ≡ 0) × (total_of b r ≡ 0)) → (r : ℕ) → r < count b → Reached [] b r
reached_opened b none r lt = record {
  there = lt;
  run = from_opening (record { empty = book_same (part_of b r) (part_of b r) (used_of b r) 0 b.width (total_of b r) 0 refl (none r).0 (none r).1; wide = b.wide });
}

-- the three answers of an opening
pub refused_narrow : (w p n : ℕ) → w < 2 → open_refusal w p n ≡ Some Width
refused_narrow w p n lt = cond-false _ (cond (leb (n * w) p) None (Some Short)) (Some Width) (ap (λ b. b && leb w 1024) (lt-leb 2 w lt))

pub refused_wide : (w p n : ℕ) → 2 ≤ w → 1024 < w → open_refusal w p n ≡ Some Width
refused_wide w p n le lt =
    cond-false _ (cond (leb (n * w) p) None (Some Short)) (Some Width) (ap (λ b. b && leb w 1024) (le-leb 2 w le) ∙ lt-leb w 1024 lt)

within : (w p n : ℕ) → 2 ≤ w → w ≤ 1024 → open_refusal w p n ≡ cond (leb (n * w) p) None (Some Short)
within w p n lo hi = cond-true _ (cond (leb (n * w) p) None (Some Short)) (Some Width) (ap (λ b. b && leb w 1024) (le-leb 2 w lo) ∙ le-leb w 1024 hi)

pub refused_short : (w p n : ℕ) → 2 ≤ w → w ≤ 1024 → p / w < n → open_refusal w p n ≡ Some Short
refused_short w p n lo hi lt = within w p n lo hi ∙ cond-false _ None (Some Short) (lt-leb (n * w) p ((div-lt_iff_lt-mul {k = w} {x = p} {y = n} (omega arith)).0 lt))

pub enough : (w p n : ℕ) → 2 ≤ w → n ≤ p / w → n * w ≤ p
enough w p n lo le = (le-div_iff_mul-le {k = w} {x = n} {y = p} (omega arith)).0 le

pub opens : (w p n : ℕ) → 2 ≤ w → w ≤ 1024 → n ≤ p / w → open_refusal w p n ≡ None
opens w p n lo hi le = within w p n lo hi ∙ cond-true _ None (Some Short) (le-leb (n * w) p (enough w p n lo le))

-- fills that were lent and came back empty
pub none_refilled : {Z : Type 0} (v : Vec Fill Z) (fs : List Fill) → length fs ≡ v.len → ((r : ℕ) → (used_at fs r ≡ 0) × (total_at fs r ≡ 0))
    → (r : ℕ) → (used_at (with_items v fs).items r ≡ 0) × (total_at (with_items v fs).items r ≡ 0)
none_refilled v fs long none r = subst (λ (l : List Fill). (used_at l r ≡ 0) × (total_at l r ≡ 0)) (sym (with_items_is v fs long)) (none r)
