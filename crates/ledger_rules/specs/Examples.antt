-- The worked example of a ledger: width 2, two tags once each. Assumes nothing.
use Rattle.std.specs.Prelude.{◌≡◌, ℕ, Bool, true, false, cond, [], Ok, Err, nat_lt}
use Rattle.refusals.specs.Numbers.{number_of}
use Rattle.refusals.specs.declared.Refusal.TheVariants.{Threshold}
use Rattle.keys.specs.declared.tag.Tag.{Tag}
use Rattle.counting.specs.Book.{opened}
use Rattle.frames.specs.declared.head.Change.TheVariants.{Added}
use Rattle.ledger_rules.specs.Ledgers.{Ledger, after, report_of, report_answer}

abbrev pub tag : ℕ → ℕ → Tag
tag s c = record { station = s; code = c }

-- by station, then by code
abbrev pub by_tag : Tag → Tag → Bool
by_tag x y = cond (nat_lt x.station y.station) true (cond (nat_lt y.station x.station) false (nat_lt x.code y.code))

abbrev pub two_tags : Ledger Tag
two_tags =
    after by_tag (after by_tag (record { book = opened 2 16777215; share = 500; retracts = 0 }) Added (tag 7 1)) Added (tag 7 2)

pub record LedgerExample : Type 0 where
  -- a tag that is not held may have come once, so a threshold of 1 is refused, whatever the room
  pub refused : (room : ℕ) → report_answer two_tags 1 room ≡ Err Threshold
  pub number : number_of Threshold ≡ 18
  -- both highs are 1
  pub empty : (report_of 2 two_tags ≡ []) × ((room : ℕ) → report_answer two_tags 2 room ≡ Ok 0)
