-- An answer about a book that is there. Assumes nothing.
use Rattle.std.proofs.Common.{◌≡◌, ℕ, ◌<◌, cond, ltb, Result, Ok, Err, sym, ap, ◌∙◌}
use Rattle.std.proofs.lemmas.Bool.{cond-true, lt-ltb}
use Rattle.refusals.specs.declared.Refusal.{Refusal}
use Rattle.refusals.specs.declared.Refusal.TheVariants.{Row}

pub ok_there : {A : Type 0} (r n : ℕ) (x y : A) → r < n → x ≡ y → ◌≡◌ {A = Result A Refusal} (Ok x) (cond (ltb r n) (Ok y) (Err Row))
ok_there r n x y lt e = ap Ok e ∙ sym (cond-true _ (Ok y) (Err Row) (lt-ltb r n lt))
