-- One key of a feed more. Assumes nothing.
use Rattle.std.proofs.Common.{◌≡◌, ℕ, ◌+◌, Bool, cond, List, ◌∷◌, Ok, Err, Result, sym, ap, ◌∙◌}
use Rattle.refusals.specs.declared.Fault.{Fault}
use Rattle.refusals.specs.declared.Fault.TheVariants.{Sample}
use Rattle.counting.specs.Book.{Answer}
use Rattle.counting.specs.Runs.{accepted}
use Rattle.frames.specs.declared.head.Change.{Change}
use Rattle.ledger_rules.specs.Ledgers.{Ledger, answer_to, changed, after, feed_keys}

module _ {K : Type 0} (before : K → K → Bool) (l : Ledger K) (c : Change) (x : K) (xs ys : List K) (n : ℕ) (e : ys ≡ x ∷ xs) where
  by : Answer → Result ℕ Fault × Ledger K
  by a = elim a [ Ok _ ↦ feed_keys before (changed before l c x) c xs (n + 1) | Err f ↦ (Err (Sample f n n), l) ]

  pub fed_more : (m : Ledger K) → Ok tt ≡ answer_to before l c x → m ≡ after before l c x → feed_keys before l c ys n ≡ feed_keys before m c xs (n + 1)
  unfolding by
  fed_more m a h =
      let is : m ≡ changed before l c x = h ∙ sym (ap (λ r. cond (accepted r) (changed before l c x) l) a) in
      ap (λ zs. feed_keys before l c zs n) e ∙ ap by (sym a) ∙ ap (λ k. feed_keys before k c xs (n + 1)) (sym is)
