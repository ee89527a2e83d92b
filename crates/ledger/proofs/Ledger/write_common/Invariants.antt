use Rattle.std.proofs.Common.{◌≡◌, ◌+◌, ◌++◌, length, take, drop}
use Rattle.index.specs.Reading.{rest}
use Rattle.ledger_rules.specs.Ledgers.{common, report_of}
use Rattle.ledger.specs.OfLedger.{state_of}
use Rattle.ledger.proofs.Ledger.write_common.Given as goal

-- what is written and what the records left still give is the report, and the rest is as it was
abbrev pub invariant-loop-record : goal.invariant-loop-record
invariant-loop-record g l =
    (l.n + length (common l.threshold (rest l.record-iterator)) ≡ length (report_of l.threshold (state_of l.self)))
    × (take l.n l.out ++ common l.threshold (rest l.record-iterator) ≡ report_of l.threshold (state_of l.self))
    × (drop l.n l.out ≡ drop l.n l.initial.out)
