-- One call of a log more. Assumes nothing.
use Rattle.std.proofs.Common.{ℕ, ◌+◌, ◌<◌, List, ◌∷◌, length, take, set, sym, ap, ◌∙◌, subst}
use Rattle.std.proofs.lemmas.List.{take_more_set}
use Rattle.std.proofs.lemmas.List.Sums.{fold_push}
use Rattle.keys.specs.declared.key.Key.{Ghosts}
use Rattle.ledger_rules.specs.Tallies.{Event}
use Rattle.ledger.specs.declared.Ledger.{Ledger}
use Rattle.ledger.specs.OfLedger.{Reached}
use Rattle.ledger_replay.specs.declared.log.Logged.{Logged}
use Rattle.ledger_replay.specs.Logs.{event_of, history}

pub reached_more : {K : Type 0} {G : Ghosts K} (log : List (Logged K)) (i : ℕ) (e : Logged K) (es : List (Event K)) (l : Ledger K G) → i < length log
    → Reached (event_of e ∷ history es (take i log)) l → Reached (history es (take (i + 1) (set log i e))) l
reached_more {K} {G} log i e es l lt r =
    subst (λ (fs : List (Event K)). Reached {G = G} fs l)
    (sym (ap (history es) (take_more_set log i e lt) ∙ fold_push (λ (past : List (Event K)) (x : Logged K). event_of x ∷ past) es (take i log) e)) r
