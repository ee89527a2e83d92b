-- A tag ledger as the counting rule sees it, and what each call answers and leaves. Assumes nothing.
use Rattle.std.specs.Prelude.{◌≡◌, ℕ, ◌+◌, ◌*◌, ◌≤◌, Bool, cond, List, [], ◌∷◌, map, length, Ok, Err, filter, Result, nat_le, nat_lt}
use Rattle.refusals.specs.declared.Refusal.{Refusal}
use Rattle.refusals.specs.declared.Refusal.TheVariants.{Share, Threshold, Buffer}
use Rattle.refusals.specs.declared.Fault.{Fault}
use Rattle.refusals.specs.declared.Fault.TheVariants.{Frame, Sample}
use Rattle.keys.specs.declared.key.Key.{Ghosts}
use Rattle.counting.specs.declared.Record.{Record}
use Rattle.counting.specs.Rule.{high_of_record, low_of_record}
use Rattle.counting.specs.Book.{Book, Answer, Opened, ceiling, put_answer, put_done, take_answer, take_done}
use Rattle.counting.specs.Runs.{accepted}
use Rattle.frames.specs.declared.head.Change.{Change}
use Rattle.frames.specs.declared.head.Change.TheVariants.{Added, Retracted}
use Rattle.frames.specs.Heads.{both}
use Rattle.frames.specs.Keys.{keys_of}
use Rattle.ledger_rules.specs.declared.Entry.{Entry}

pub record Ledger (K : Type 0) : Type 0 where
  pub book : Book K
  -- how many retracts it takes for each thousand adds
  pub share : ℕ
  -- how many it has taken
  pub retracts : ℕ

-- how many adds it has taken: each is one put
abbrev pub adds : {K : Type 0} → Ledger K → ℕ
adds l = l.book.total

-- an opened ledger
pub record Fresh {K : Type 0} (l : Ledger K) : Type 0 where
  pub book : Opened l.book
  pub share : l.share ≤ 999
  pub retracts : l.retracts ≡ 0

-- one retract more would be above the share
abbrev pub over_share : {K : Type 0} → Ledger K → Bool
over_share l = nat_lt (l.share * adds l) (1000 * (l.retracts + 1))

-- what an add or a retract of x is answered
abbrev pub answer_to : {K : Type 0} → (K → K → Bool) → Ledger K → Change → K → Answer
answer_to before l Added x = put_answer l.book
answer_to before l Retracted x = cond (over_share l) (Err Share) (take_answer before l.book x)

-- after an accepted one
abbrev pub changed : {K : Type 0} → (K → K → Bool) → Ledger K → Change → K → Ledger K
changed before l Added x = record { book = put_done before l.book x; share = l.share; retracts = l.retracts }
changed before l Retracted x = record { book = take_done before l.book x; share = l.share; retracts = l.retracts + 1 }

-- a refused one changes nothing
abbrev pub after : {K : Type 0} → (K → K → Bool) → Ledger K → Change → K → Ledger K
after before l c x = cond (accepted (answer_to before l c x)) (changed before l c x) l

-- keys are taken in order up to the first refused, after n that were taken; every sample of such a frame is present, so
-- the index of the refused one is how many were taken
abbrev pub feed_keys : {K : Type 0} → (K → K → Bool) → Ledger K → Change → List K → ℕ → Result ℕ Fault × Ledger K
feed_keys before l c [] n = (Ok n, l)
feed_keys before l c (x ∷ xs) n =
    elim (answer_to before l c x) [ Ok _ ↦ feed_keys before (changed before l c x) c xs (n + 1) | Err e ↦ (Err (Sample e n n), l) ]

-- the keys of a checked frame, or nothing of a refused one
abbrev pub fed_by : {K : Type 0} → (K → K → Bool) → Ledger K → Result (Change × List K) Refusal → Result ℕ Fault × Ledger K
fed_by before l (Err e) = (Err (Frame e), l)
fed_by before l (Ok p) = feed_keys before l p.0 p.1 0

-- what a feed of a frame is answered, and what it leaves
abbrev pub feed_of : {K : Type 0} → Ghosts K → Ledger K → List ℕ → Result ℕ Fault × Ledger K
feed_of G l bs = fed_by G.before l (keys_of G.BYTES G.key both bs)

abbrev pub entry_of : {K : Type 0} → Record K → Entry K
entry_of r = record { key = r.key; low = low_of_record r; high = high_of_record r }

-- of these records those whose high reaches t, with their bounds
abbrev pub common : {K : Type 0} → ℕ → List (Record K) → List (Entry K)
common t rs = map entry_of (filter (λ r. nat_le t (high_of_record r)) rs)

-- in key order the held keys whose high reaches t, with their bounds
abbrev pub report_of : {K : Type 0} → ℕ → Ledger K → List (Entry K)
report_of t l = common t l.book.records

-- what a report is answered, into a buffer of so many places
abbrev pub report_answer : {K : Type 0} → Ledger K → ℕ → ℕ → Result ℕ Refusal
report_answer l t room =
    cond (nat_le t (ceiling l.book)) (Err Threshold) (cond (nat_le (length (report_of t l)) room) (Ok (length (report_of t l))) (Err Buffer))
