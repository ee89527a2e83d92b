-- Frames of keys: after kind and count the bytes of each key, for every kind of key. Assumes nothing.
use Rattle.std.specs.Prelude.{ℕ, zero, suc, ◌+◌, ◌*◌, cond, List, [], ◌∷◌, length, take, drop, Ok, Err, Result, ◌==◌}
use Rattle.refusals.specs.declared.Refusal.{Refusal}
use Rattle.refusals.specs.declared.Refusal.TheVariants.{Length}
use Rattle.frames.specs.declared.head.Change.{Change}
use Rattle.frames.specs.declared.head.Allowed.{Allowed}
use Rattle.frames.specs.Heads.{head_of}

-- the k keys whose bytes begin at a place, each of so many bytes
abbrev pub keys_at : {K : Type 0} → ℕ → (List ℕ → K) → List ℕ → ℕ → ℕ → List K
keys_at size key bs zero at = []
keys_at size key bs (suc k) at = key (take size (drop at bs)) ∷ keys_at size key bs k (at + size)

-- the content after an accepted head, or 4
abbrev pub listed : {K : Type 0} → ℕ → (List ℕ → K) → List ℕ → Result (Change × ℕ) Refusal → Result (Change × List K) Refusal
listed size key bs (Err e) = Err e
listed size key bs (Ok p) = cond (length bs == 2 + p.1 * size) (Ok (p.0, keys_at size key bs p.1 2)) (Err Length)

-- what a frame of keys says, or why it is refused: 2, 3, 4, 5, 4 in this order
abbrev pub keys_of : {K : Type 0} → ℕ → (List ℕ → K) → Allowed → List ℕ → Result (Change × List K) Refusal
keys_of size key a bs = listed size key bs (head_of a 3 40 bs)
