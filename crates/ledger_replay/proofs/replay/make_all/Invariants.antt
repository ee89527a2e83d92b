use Rattle.std.proofs.Common.{◌≡◌, List, map, take}
use Rattle.ledger_rules.specs.Tallies.{Event}
use Rattle.ledger.specs.OfLedger.{Beside, Reached}
use Rattle.ledger_replay.specs.Logs.{call_of, history}
use Rattle.ledger_replay.proofs.replay.make_all.Given as goal

-- the first i calls led here, every call is still the one it was, and nothing beside the book was written
abbrev pub invariant-loop-call : goal.invariant-loop-call
invariant-loop-call g l =
    ((es : List (Event g.row.K.Denot)) → Reached es l.initial.ledger → Reached (history es (take l.call-index l.log)) l.ledger)
    × (map call_of l.log ≡ map call_of l.initial.log)
    × Beside l.initial.ledger l.ledger
