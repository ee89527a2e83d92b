use Rattle.std.proofs.Common.{◌≡◌, ℕ, ◌<◌}
use Rattle.books.specs.Parts.{used_at, total_at}
use Rattle.books.proofs.open.empty_all.Given as goal

abbrev pub invariant-loop-fill : goal.invariant-loop-fill
invariant-loop-fill l = (k : ℕ) → k < l.fill-index → (used_at l.fills k ≡ 0) × (total_at l.fills k ≡ 0)
