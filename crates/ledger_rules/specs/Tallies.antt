-- Lists of calls with their answers, the last call first, what they tally, and the ledgers they lead to. The tally is read
-- off the calls and their answers alone; the samples of a feed are those of the frame's layout. Assumes nothing.
use Rattle.std.specs.Prelude.{◌≡◌, ℕ, ◌+◌, ◌≤◌, Bool, true, false, cond, ◌&&◌, List, [], ◌∷◌, length, take, drop, ℤ, pos, ◌-ℤ◌, Ok, Err, Result}
use Rattle.refusals.specs.declared.Refusal.{Refusal}
use Rattle.refusals.specs.declared.Fault.{Fault}
use Rattle.refusals.specs.declared.Fault.TheVariants.{Frame, Sample}
use Rattle.keys.specs.declared.key.Key.{Ghosts}
use Rattle.counting.specs.Rule.{same}
use Rattle.counting.specs.Book.{Answer}
use Rattle.counting.specs.Runs.{accepted}
use Rattle.frames.specs.declared.head.Change.{Change}
use Rattle.frames.specs.declared.head.Change.TheVariants.{Added, Retracted}
use Rattle.frames.specs.Heads.{both}
use Rattle.frames.specs.Keys.{keys_of}
use Rattle.ledger_rules.specs.Ledgers.{Ledger, Fresh, answer_to, after, feed_of}

-- an add or a retract of a key, or a feed of a frame; each with its answer
pub data Event (K : Type 0) : Type 0 where
  change_event : Change → K → Answer → Event K
  feed_event : List ℕ → Result ℕ Fault → Event K

abbrev pub same_change : Change → Change → Bool
same_change Added Added = true
same_change Added Retracted = false
same_change Retracted Added = false
same_change Retracted Retracted = true

-- the samples of a feed that were taken: all of an accepted one, those before the told index of a stopped one, else none
abbrev pub taken_of : {K : Type 0} → Result ℕ Fault → List K → List K
taken_of (Ok n) xs = xs
taken_of (Err (Frame e)) xs = []
taken_of (Err (Sample e index taken)) xs = take index xs

-- those of a frame of this change
abbrev pub taken_by : {K : Type 0} → Change → Result ℕ Fault → Result (Change × List K) Refusal → List K
taken_by c a (Err e) = []
taken_by c a (Ok p) = cond (same_change c p.0) (taken_of a p.1) []

-- the keys that a call added, or those that it retracted
abbrev pub keys_taken : {K : Type 0} → Ghosts K → Change → Event K → List K
keys_taken G c (change_event d x a) = cond (same_change c d && accepted a) (x ∷ []) []
keys_taken G c (feed_event bs a) = taken_by c a (keys_of G.BYTES G.key both bs)

-- how often x is among the keys
abbrev pub occurs : {K : Type 0} → (K → K → Bool) → K → List K → ℕ
occurs before x [] = 0
occurs before x (k ∷ ks) = cond (same before k x) 1 0 + occurs before x ks

-- how often the calls added x, or retracted it
abbrev pub tally : {K : Type 0} → Ghosts K → Change → K → List (Event K) → ℕ
tally G c x [] = 0
tally G c x (e ∷ es) = occurs G.before x (keys_taken G c e) + tally G c x es

-- how many keys they added, or retracted, in all
abbrev pub total : {K : Type 0} → Ghosts K → Change → List (Event K) → ℕ
total G c [] = 0
total G c (e ∷ es) = length (keys_taken G c e) + total G c es

-- the live count of x: an integer, which may be negative
abbrev pub live : {K : Type 0} → Ghosts K → K → List (Event K) → ℤ
live G x es = pos (tally G Added x es) -ℤ pos (tally G Retracted x es)

-- after no call was x retracted more often than added
abbrev pub NeverShort : {K : Type 0} → Ghosts K → K → List (Event K) → Type 0
NeverShort G x es = (n : ℕ) → tally G Retracted x (drop n es) ≤ tally G Added x (drop n es)

-- a call was answered so, and left m of l
abbrev pub Step : {K : Type 0} → Ghosts K → Ledger K → Event K → Ledger K → Type 0
Step G l (change_event c x a) m = (a ≡ answer_to G.before l c x) × (m ≡ after G.before l c x)
Step G l (feed_event bs a) m = (a ≡ (feed_of G l bs).0) × (m ≡ (feed_of G l bs).1)

-- from an opening the calls with their answers lead to this ledger
pub data Run {K : Type 0} (G : Ghosts K) : List (Event K) → Ledger K → Type 0 where
  from_opening : {l : Ledger K} → Fresh l → Run G [] l
  then_call : {es : List (Event K)} {l m : Ledger K} {e : Event K} → Run G es l → Step G l e m → Run G (e ∷ es) m
