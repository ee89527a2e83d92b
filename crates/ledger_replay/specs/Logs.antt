-- A log of calls with their answers, the first call first. Assumes nothing.
use Rattle.std.specs.Prelude.{ℕ, List, ◌∷◌, fold}
use Rattle.frames.specs.declared.head.Change.{Change}
use Rattle.frames.specs.declared.head.Change.TheVariants.{Added, Retracted}
use Rattle.ledger_rules.specs.Tallies.{Event, change_event, feed_event}
use Rattle.ledger_replay.specs.declared.log.Logged.{Logged}
use Rattle.ledger_replay.specs.declared.log.Logged.TheVariants.{Add, Retract, Feed}

abbrev pub event_of : {K : Type 0} → Logged K → Event K
event_of (Add x a) = change_event Added x a
event_of (Retract x a) = change_event Retracted x a
event_of (Feed f a) = feed_event f.now a

-- a call without its answer
pub data Call (K : Type 0) : Type 0 where
  change : Change → K → Call K
  feed : List ℕ → Call K

abbrev pub call_of : {K : Type 0} → Logged K → Call K
call_of (Add x a) = change Added x
call_of (Retract x a) = change Retracted x
call_of (Feed f a) = feed f.now

-- the events of a log, the last first, after those of `past`
abbrev pub history : {K : Type 0} → List (Event K) → List (Logged K) → List (Event K)
history {K} past log = fold (λ (es : List (Event K)) (e : Logged K). event_of e ∷ es) past log
