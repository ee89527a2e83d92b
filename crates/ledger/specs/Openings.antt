-- Which openings are refused, and what an opening leaves. Assumes nothing.
use Rattle.std.specs.Prelude.{◌≡◌, ℕ, cond, ◌&&◌, List, [], Some, None, vec_items, Option, nat_le}
use Rattle.refusals.specs.declared.Refusal.{Refusal}
use Rattle.refusals.specs.declared.Refusal.TheVariants.{Width, ShareRange, Short}
use Rattle.keys.specs.declared.key.Key.{Ghosts}
use Rattle.places.specs.declared.place.Place.{Place}
use Rattle.ledger.specs.declared.Ledger.{Ledger}
use Rattle.ledger.specs.OfLedger.{Reached}

-- why an opening with a width and a share over so many places and fills is refused, if it is: 11, 12, 14, the lowest first
abbrev pub open_refusal : ℕ → ℕ → ℕ → ℕ → Option Refusal
open_refusal width share places fills =
    cond (nat_le 2 width && nat_le width 1024) (cond (nat_le share 999) (cond (nat_le width places && nat_le 1 fills) None (Some Short)) (Some ShareRange)) (Some Width)

-- a ledger of a width and a share over these places, and no call has come to it
pub record Emptied {K : Type 0} {G : Ghosts K} (places : List (Place K)) (width share : ℕ) (l : Ledger K G) : Type 0 where
  pub table : vec_items l.books.table ≡ places
  pub same_width : l.books.width ≡ width
  pub same_share : l.share ≡ share
  pub reached : Reached [] l
