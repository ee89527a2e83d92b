use Rattle.std.proofs.Common.{◌≡◌, ◌+◌, ◌≤◌, length}
use Rattle.frames.specs.OfKeys.{left_keys}
use Rattle.ledger_rules.specs.Ledgers.{feed_keys}
use Rattle.ledger.specs.OfLedger.{state_of, Beside}
use Rattle.ledger.proofs.Ledger.take_keys.Given as goal

-- with the keys that are left it is the whole feed
abbrev pub invariant-loop-key : goal.invariant-loop-key
invariant-loop-key g l =
    (l.taken + length (left_keys l.key-iterator) ≤ 40)
    × Beside l.initial.self l.self
    × (feed_keys g.K.Key.before (state_of l.self) l.change (left_keys l.key-iterator) l.taken
    ≡ feed_keys g.K.Key.before (state_of l.initial.self) l.change (left_keys l.fn.keys) 0)
