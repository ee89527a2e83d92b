-- The entries of a report, and what it leaves in its buffer. Assumes nothing.
use Rattle.std.specs.Prelude.{◌≡◌, ℕ, cond, List, take, drop, Some, None, Option, nat_le}
use Rattle.counting.specs.declared.Record.{Record}
use Rattle.counting.specs.Rule.{high_of_record}
use Rattle.ledger_rules.specs.declared.Entry.{Entry}
use Rattle.ledger_rules.specs.Ledgers.{entry_of}

-- the n entries stand in front, and the places beyond them are as they were
pub record Written {K : Type 0} (entries : List (Entry K)) (n : ℕ) (before after : List (Entry K)) : Type 0 where
  pub front : take n after ≡ entries
  pub rest : drop n after ≡ drop n before

-- the entry of a record, if its high reaches t
abbrev pub common_entry : {K : Type 0} → ℕ → Record K → Option (Entry K)
common_entry t r = cond (nat_le t (high_of_record r)) (Some (entry_of r)) None
