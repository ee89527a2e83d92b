-- One book's part, lent on and come back. Assumes nothing.
use Rattle.std.proofs.Common.{◌≡◌, ℕ, ◌+◌, ◌-◌, ◌*◌, ◌<◌, ◌≤◌, ◌≢◌, List, length, get_or, drop, set, vec_items, sym, refl, ap, ◌∙◌, subst, arith}
use borrow.Rule.Slice.PartMut.{put_mid, put_same}
use Rattle.std.specs.Vec.{with_items}
use Rattle.std.proofs.lemmas.List.{with_items_is, set-get_or}
use Rattle.keys.specs.declared.key.Key.{Ghosts}
use Rattle.places.specs.declared.place.Place.{Place}
use Rattle.book.specs.Sound.{IsBook}
use Rattle.books.specs.declared.fill.Fill.{Fill}
use Rattle.books.specs.declared.Books.{Books}
use Rattle.books.specs.Parts.{part, used_at, total_at}
use Rattle.books.specs.OfBooks.{count, part_of, used_of, total_of}
use Rattle.books.proofs.Parting.{part_end, part_next, part_long, part_here, part_other, part_spare, column_read, column_here, column_other, length_put_mid}
use Rattle.books.proofs.Wholes.{Each, book_moved, each_changed}

-- the table of b as it is lent, d, and the fill of book r
pub record Lent {K : Type 0} {G : Ghosts K} (b : Books K G) (r : ℕ) (d : List (Place K)) (f : Fill) : Type 0 where
  pub there : r < count b
  pub same : d ≡ vec_items b.table
  pub read : f ≡ get_or (vec_items b.fills) r f

-- the part lies within the table
pub table_end : {K : Type 0} {G : Ghosts K} (b : Books K G) (r : ℕ) (d : List (Place K)) → r < count b → d ≡ vec_items b.table → (r + 1) * b.width ≤ length d
table_end b r d there same = omega (arith, part_end r (count b) b.width there, b.room, ap length same, b.table.ok.0)

module _ {K : Type 0} {G : Ghosts K} (b : Books K G) (r : ℕ) (d : List (Place K)) (f : Fill) (lent : Lent b r d f) where
  pub lent_end : (r + 1) * b.width ≤ length d
  lent_end = table_end b r d lent.there lent.same

  there : r < length (vec_items b.fills)
  there = omega (arith, lent.there, b.fills.ok.0)

  pub lent_part : part_of b r ≡ part d b.width r
  lent_part = ap (λ (t : List (Place K)). part t b.width r) (sym lent.same)

  pub lent_used : used_of b r ≡ f.used
  lent_used = column_read (λ g. g.used) (vec_items b.fills) r f there lent.read

  pub lent_total : total_of b r ≡ f.total
  lent_total = column_read (λ g. g.total) (vec_items b.fills) r f there lent.read

  pub lent_long : length (part d b.width r) ≡ b.width
  lent_long = part_long d b.width r lent_end

  pub lent_narrow : length (part d b.width r) ≤ 1024
  lent_narrow = omega (arith, lent_long, b.narrow)

  pub lent_wide : 0 < length (part d b.width r)
  lent_wide = omega (arith, lent_long, b.wide)

  pub lent_book : IsBook G.before (part d b.width r) f.used f.total
  lent_book = book_moved G.before _ _ _ _ _ _ (sym lent_part) (sym lent_used) (sym lent_total) (b.each r)

  -- a fill that comes back as it was
  pub fills_same : (v : Fill) → v ≡ f → set (vec_items b.fills) r v ≡ vec_items b.fills
  fills_same v e = ap (set (vec_items b.fills) r) (e ∙ lent.read) ∙ set-get_or (vec_items b.fills) r f

  -- the part comes back as ys
  module _ (ys : List (Place K)) (long : length ys ≡ length (part d b.width r)) where
    fits : length ys ≡ (r + 1) * b.width - r * b.width
    fits = omega (arith, long, lent_long, part_next r b.width)

    items : (with_items b.table (put_mid (r * b.width) ((r + 1) * b.width - r * b.width) d ys)).items ≡ put_mid (r * b.width) ((r + 1) * b.width - r * b.width) (vec_items b.table) ys
    items =
        with_items_is b.table (put_mid (r * b.width) ((r + 1) * b.width - r * b.width) d ys)
        (length_put_mid (r * b.width) ((r + 1) * b.width - r * b.width) d ys (omega (arith, lent_end, part_next r b.width)) fits
        ∙ ap length lent.same ∙ sym b.table.ok.0)
        ∙ ap (λ (t : List (Place K)). put_mid (r * b.width) ((r + 1) * b.width - r * b.width) t ys) lent.same

    end : (r + 1) * b.width ≤ length (vec_items b.table)
    end = omega (arith, lent_end, ap length lent.same)

    pub back_part : part (with_items b.table (put_mid (r * b.width) ((r + 1) * b.width - r * b.width) d ys)).items b.width r ≡ ys
    back_part = part_here (vec_items b.table) ys _ b.width r end fits items

    pub back_other : (q : ℕ) → q ≢ r → part (with_items b.table (put_mid (r * b.width) ((r + 1) * b.width - r * b.width) d ys)).items b.width q ≡ part_of b q
    back_other q ne = part_other (vec_items b.table) ys _ b.width r end fits items q ne

    pub back_spare : (n : ℕ) → r < n → drop (n * b.width) (with_items b.table (put_mid (r * b.width) ((r + 1) * b.width - r * b.width) d ys)).items ≡ drop (n * b.width) (vec_items b.table)
    back_spare n lt = part_spare (vec_items b.table) ys _ b.width r end fits items n lt

    -- with the fill v for book r
    module _ (v : Fill) where
      pub back_each : IsBook G.before ys v.used v.total → Each G.before (with_items b.table (put_mid (r * b.width) ((r + 1) * b.width - r * b.width) d ys)).items (set (vec_items b.fills) r v) b.width
      back_each is = each_changed G.before (vec_items b.table) ys _ (vec_items b.fills) b.width r v end fits items there b.each is

      pub back_used : used_at (set (vec_items b.fills) r v) r ≡ v.used
      back_used = column_here (λ g. g.used) (vec_items b.fills) r v there

      pub back_total : total_at (set (vec_items b.fills) r v) r ≡ v.total
      back_total = column_here (λ g. g.total) (vec_items b.fills) r v there

      pub other_used : (q : ℕ) → q ≢ r → used_at (set (vec_items b.fills) r v) q ≡ used_of b q
      other_used q ne = column_other (λ g. g.used) (vec_items b.fills) r v q ne

      pub other_total : (q : ℕ) → q ≢ r → total_at (set (vec_items b.fills) r v) q ≡ total_of b q
      other_total q ne = column_other (λ g. g.total) (vec_items b.fills) r v q ne

    -- with the fills as they were
    pub kept_each : IsBook G.before ys f.used f.total → Each G.before (with_items b.table (put_mid (r * b.width) ((r + 1) * b.width - r * b.width) d ys)).items (vec_items b.fills) b.width
    kept_each is =
        subst (λ (fs : List Fill). Each G.before (with_items b.table (put_mid (r * b.width) ((r + 1) * b.width - r * b.width) d ys)).items fs b.width)
        (fills_same f refl) (back_each f is)

    -- a part that comes back as it was
    pub back_same : ys ≡ part d b.width r → (with_items b.table (put_mid (r * b.width) ((r + 1) * b.width - r * b.width) d ys)).items ≡ vec_items b.table
    back_same e =
        items ∙ ap (put_mid (r * b.width) ((r + 1) * b.width - r * b.width) (vec_items b.table)) (e ∙ sym lent_part)
        ∙ put_same (r * b.width) ((r + 1) * b.width - r * b.width) (vec_items b.table)
