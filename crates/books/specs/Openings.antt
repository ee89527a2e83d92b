-- Which openings are refused, and what an opening leaves. Assumes nothing.
use Rattle.std.specs.Prelude.{◌≡◌, ℕ, ◌*◌, ◌<◌, cond, ◌&&◌, List, [], Some, None, vec_items, Option, nat_le}
use Rattle.refusals.specs.declared.Refusal.{Refusal}
use Rattle.refusals.specs.declared.Refusal.TheVariants.{Width, Short}
use Rattle.keys.specs.declared.key.Key.{Ghosts}
use Rattle.places.specs.declared.place.Place.{Place}
use Rattle.books.specs.declared.Books.{Books}
use Rattle.books.specs.OfBooks.{count, Reached}

-- why an opening of n books of a width over so many places is refused, if it is
abbrev pub open_refusal : ℕ → ℕ → ℕ → Option Refusal
open_refusal width places n = cond (nat_le 2 width && nat_le width 1024) (cond (nat_le (n * width) places) None (Some Short)) (Some Width)

-- n books of a width over these places, and no call has come to any of them
pub record Emptied {K : Type 0} {G : Ghosts K} (places : List (Place K)) (n width : ℕ) (b : Books K G) : Type 0 where
  pub table : vec_items b.table ≡ places
  pub number : count b ≡ n
  pub same_width : b.width ≡ width
  pub reached : (r : ℕ) → r < n → Reached [] b r
