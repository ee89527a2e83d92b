-- What a call on one book means for what was reached in each. Assumes nothing.
use Rattle.std.proofs.Common.{◌≡◌, ℕ, ◌<◌, Bool, ltb, ◌≢◌, List, length, Err, sym, ap, ◌∙◌, subst, arith}
use Rattle.std.proofs.lemmas.Bool.{cond-true, lt-ltb}
use Rattle.refusals.specs.declared.Refusal.TheVariants.{Row}
use Rattle.keys.specs.declared.key.Key.{Ghosts}
use Rattle.counting.specs.Book.{Book, Answer, Put, Taken, put_answer}
use Rattle.counting.specs.Runs.{Event, Run}
use Rattle.places.specs.declared.place.Place.{Place}
use Rattle.places.specs.Rows.{rows}
use Rattle.book.specs.Sound.{book_in}
use Rattle.books.specs.declared.Books.{Books}
use Rattle.books.specs.OfBooks.{count, part_of, used_of, total_of, book_of, put_at, Beside, Reached}

abbrev pub book_from : {K : Type 0} → List (Place K) → ℕ → ℕ → ℕ → Book K
book_from p u w t = record { records = rows p u; width = w; limit = 16777215; total = t }

pub book_same : {K : Type 0} (p q : List (Place K)) (u v w s t : ℕ) → p ≡ q → u ≡ v → s ≡ t → book_from p u w s ≡ book_from q v w t
book_same {K} p q u v w s t ep eu es = ap (λ (l : List (Place K)). book_from l u w s) ep ∙ ap (λ (n : ℕ). book_from q n w s) eu ∙ ap (book_from q v w) es

-- the other books are where they were
pub reached_beside : {K : Type 0} {G : Ghosts K} (b c : Books K G) (r : ℕ) → Beside b c r → (q : ℕ) (es : List (Event K)) → q ≢ r → Reached es b q → Reached es c q
reached_beside {G = G} b c r beside q es ne at = record {
  there = omega (arith, at.there, beside.same_count);
  run = subst (Run G.before es)
      (sym (ap (λ (w : ℕ). book_from (part_of c q) (used_of c q) w (total_of c q)) beside.same_width
      ∙ book_same (part_of c q) (part_of b q) (used_of c q) (used_of b q) b.width (total_of c q) (total_of b q) (beside.parts q ne) (beside.used q ne) (beside.totals q ne)))
      at.run;
}

-- book P with U in use and S puts, which lies in a part of w places, was lent as p with u and s
pub book_lent : {K : Type 0} (P p : List (Place K)) (U u S s w : ℕ) → P ≡ p → U ≡ u → S ≡ s → length p ≡ w → book_from P U w S ≡ book_in p u s
book_lent P p U u S s w eP eU eS long = book_same P p U u w S s eP eU eS ∙ ap (λ (n : ℕ). book_from p u n s) (sym long)

-- the answer where the book is there
pub answer_there : {K : Type 0} {G : Ghosts K} (b : Books K G) (r : ℕ) (a : Answer) → r < count b → a ≡ put_answer (book_of b r) → a ≡ put_at b r
answer_there b r a lt e = e ∙ sym (cond-true (ltb r (count b)) (put_answer (book_of b r)) (Err Row) (lt-ltb r (count b) lt))

-- a call on the lent book was one on the book itself
module _ {K : Type 0} (before : K → K → Bool) (x : K) (a : Answer) (b b' c c' : Book K) (was : b ≡ b') (is : c ≡ c') where
  pub put_back : Put before b' x a c' → Put before b x a c
  put_back h = subst (λ (d : Book K). Put before d x a c) (sym was) (subst (Put before b' x a) (sym is) h)

  pub taken_back : Taken before b' x a c' → Taken before b x a c
  taken_back h = subst (λ (d : Book K). Taken before d x a c) (sym was) (subst (Taken before b' x a) (sym is) h)
