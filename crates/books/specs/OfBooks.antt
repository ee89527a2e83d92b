-- What books hold, seen from outside. Assumes nothing.
use Rattle.std.specs.Prelude.{◌≡◌, ℕ, ◌*◌, ◌<◌, cond, ◌≢◌, List, drop, Err, vec_items, vec_len, nat_lt}
use Rattle.refusals.specs.declared.Refusal.TheVariants.{Row}
use Rattle.keys.specs.declared.key.Key.{Ghosts}
use Rattle.counting.specs.Book.{Book, Answer, put_answer}
use Rattle.counting.specs.Runs.{Event, Run}
use Rattle.places.specs.declared.place.Place.{Place}
use Rattle.places.specs.Rows.{rows}
use Rattle.books.specs.declared.Books.{Books}
use Rattle.books.specs.Parts.{part, used_at, total_at}

-- how many books there are
abbrev pub count : {K : Type 0} {G : Ghosts K} → Books K G → ℕ
count b = vec_len b.fills

-- the places of book r, how many are in use, and its accepted puts
abbrev pub part_of : {K : Type 0} {G : Ghosts K} → Books K G → ℕ → List (Place K)
part_of b r = part (vec_items b.table) b.width r

abbrev pub used_of : {K : Type 0} {G : Ghosts K} → Books K G → ℕ → ℕ
used_of b r = used_at (vec_items b.fills) r

abbrev pub total_of : {K : Type 0} {G : Ghosts K} → Books K G → ℕ → ℕ
total_of b r = total_at (vec_items b.fills) r

-- book r: the records in use, read in index order
abbrev pub book_of : {K : Type 0} {G : Ghosts K} → Books K G → ℕ → Book K
book_of b r = record { records = rows (part_of b r) (used_of b r); width = b.width; limit = 16777215; total = total_of b r }

-- what a put into book r answers
abbrev pub put_at : {K : Type 0} {G : Ghosts K} → Books K G → ℕ → Answer
put_at b r = cond (nat_lt r (count b)) (put_answer (book_of b r)) (Err Row)

-- every place of the table and every count is as it was
pub record Unchanged {K : Type 0} {G : Ghosts K} (b c : Books K G) : Type 0 where
  pub table : vec_items c.table ≡ vec_items b.table
  pub fills : vec_items c.fills ≡ vec_items b.fills
  pub same_width : c.width ≡ b.width

-- nothing but book r may have changed, and no place beyond the books was written; each call has to promise it of itself
pub record Beside {K : Type 0} {G : Ghosts K} (b c : Books K G) (r : ℕ) : Type 0 where
  pub same_width : c.width ≡ b.width
  pub same_count : count c ≡ count b
  pub same_length : vec_len c.table ≡ vec_len b.table
  pub parts : (q : ℕ) → q ≢ r → part_of c q ≡ part_of b q
  pub used : (q : ℕ) → q ≢ r → used_of c q ≡ used_of b q
  pub totals : (q : ℕ) → q ≢ r → total_of c q ≡ total_of b q
  pub spare : drop (count b * b.width) (vec_items c.table) ≡ drop (count b * b.width) (vec_items b.table)

-- the calls es on book r, from its opening, led here
pub record Reached {K : Type 0} {G : Ghosts K} (es : List (Event K)) (b : Books K G) (r : ℕ) : Type 0 where
  pub there : r < count b
  pub run : Run G.before es (book_of b r)
