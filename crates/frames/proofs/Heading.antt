-- The head of a frame of keys. Assumes nothing.
use Rattle.std.proofs.Common.{◌≡◌, ℕ, List, [], ◌∷◌, Ok, arith}
use Rattle.std.proofs.lemmas.Bool.Decides.{nat_tests}
use Rattle.frames.specs.declared.head.Allowed.{Allowed}
use Rattle.frames.specs.declared.head.Change.{Change}
use Rattle.frames.specs.declared.head.Change.TheVariants.{Added, Retracted}
use Rattle.frames.specs.declared.head.Kind.TheVariants.{Keys}
use Rattle.frames.specs.Heads.{kind_in, head_of, headed}

pub head_of_keys : (a : Allowed) (c : Change) (most : ℕ) (bs : List ℕ) → kind_in bs ≡ Ok (Keys c) → head_of a 3 most bs ≡ headed a c most bs
head_of_keys a c most [] h = absurd (cc)
head_of_keys a Added most (b ∷ bs) h = let n : b ≡ 3 = grind (arith, nat_tests) in grind (arith, nat_tests)
head_of_keys a Retracted most (b ∷ bs) h = let n : b ≡ 4 = grind (arith, nat_tests) in grind (arith, nat_tests)
