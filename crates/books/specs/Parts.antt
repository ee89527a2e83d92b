-- The parts of a table that holds several books, and how far each is filled. Assumes nothing.
use Rattle.std.specs.Prelude.{ℕ, ◌+◌, ◌*◌, List, map, slice_index}
use Rattle.std.specs.List.{between}
use Rattle.places.specs.declared.place.Place.{Place}
use Rattle.books.specs.declared.fill.Fill.{Fill}

-- the places of book r
abbrev pub part : {K : Type 0} → List (Place K) → ℕ → ℕ → List (Place K)
part t width r = between (r * width) ((r + 1) * width) t

-- how many of them are in use, and how many puts were accepted; 0 of a book that is not there
abbrev pub used_at : List Fill → ℕ → ℕ
used_at fs r = slice_index (map (λ f. f.used) fs) r

abbrev pub total_at : List Fill → ℕ → ℕ
total_at fs r = slice_index (map (λ f. f.total) fs) r
