-- What a replay leaves and answers. Assumes nothing.
use Rattle.std.specs.Prelude.{◌≡◌, ℕ, List, length, take, Ok, Result, MatchResult}
use Rattle.refusals.specs.declared.Refusal.{Refusal}
use Rattle.keys.specs.declared.key.Key.{Ghosts}
use Rattle.places.specs.declared.place.Place.{Place}
use Rattle.ledger_rules.specs.declared.Entry.{Entry}
use Rattle.ledger_rules.specs.Ledgers.{report_of, report_answer}
use Rattle.ledger_rules.specs.Laws.{ReportLaw}
use Rattle.ledger_rules.specs.Tallies.{Event}
use Rattle.ledger.specs.declared.Ledger.{Ledger}
use Rattle.ledger.specs.OfLedger.{state_of, Beside, Reached}
use Rattle.ledger.specs.Openings.{Emptied}
use Rattle.ledger.specs.Reports.{Written}

-- the report of a ledger to which the calls es led: its answer, what the buffer then holds, and the law
pub record Reported {K : Type 0} {G : Ghosts K} (es : List (Event K)) (t : ℕ) (was now' : List (Entry K)) (l : Ledger K G) (a : Result ℕ Refusal) : Type 0 where
  pub answer : a ≡ report_answer (state_of l) t (length was)
  pub written : MatchResult a (λ n. Written (report_of t (state_of l)) n was now') (λ e. now' ≡ was)
  pub law : (n : ℕ) → a ≡ Ok n → ReportLaw G es t (take n now')

-- the calls es led here from an opening with these places, which wrote nothing beside the book
pub record Replayed {K : Type 0} {G : Ghosts K} (places : List (Place K)) (width share : ℕ) (es : List (Event K)) (l : Ledger K G) : Type 0 where
  pub opening : (o : Ledger K G) × Emptied places width share o × Beside o l
  pub reached : Reached es l
