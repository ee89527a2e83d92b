-- The order of heap entries, from the laws of the key. Assumes nothing.
use Rattle.std.proofs.Common.{◌≡◌, ℕ, Bool, true, false, List, ap, ◌∙◌, ⊎_elim, arith}
use Rattle.std.proofs.lemmas.Bool.{cases_Bool, both_ways}
use Rattle.std.proofs.lemmas.Bool.Decides.{nat_tests}
use Rattle.counting.specs.declared.Record.{Record}
use Rattle.counting.specs.Rule.{Order}
use Rattle.heap.specs.Heaps.{Weak}
use Rattle.heap.specs.Lazy.{lex, sooner}

lex_trans : (a b c : ℕ) (p q r : Bool) → (p ≡ false → q ≡ false → r ≡ false) → lex b a p ≡ false → lex c b q ≡ false → lex c a r ≡ false
lex_trans a b c p q r h e f = grind (arith, nat_tests)

lex_asym : (a b : ℕ) (p q : Bool) → (p ≡ true → q ≡ false) → lex a b p ≡ true → lex b a q ≡ false
lex_asym a b p q h e = grind (arith, nat_tests)

lex_never : (a : ℕ) (p : Bool) → p ≡ false → lex a a p ≡ false
lex_never a p e = grind (arith, nat_tests)

module _ {K : Type 0} (before : K → K → Bool) (laws : Order before) where
  key_asym : (x y : K) → before x y ≡ true → before y x ≡ false
  key_asym x y e =
      ⊎_elim (λ (f : before y x ≡ true). absurd (both_ways _ (laws.never x) (laws.onward x y x e f))) (λ f. f) (cases_Bool (before y x))

  key_trans : (x y z : K) → before y x ≡ false → before z y ≡ false → before z x ≡ false
  key_trans x y z e f =
      ⊎_elim
      (λ (g : before z x ≡ true).
      ⊎_elim
      (λ (h : before x y ≡ true). absurd (both_ways _ f (laws.onward z x y g h)))
      (λ (h : before x y ≡ false). ap (λ (v : K). before z v) (laws.total x y h e) ∙ f)
      (cases_Bool (before x y)))
      (λ g. g)
      (cases_Bool (before z x))

  pub sooner_weak : (rs : List (Record K)) (d : Record K) → Weak (sooner before rs d)
  sooner_weak rs d = record {
    trans = λ x y z. lex_trans x.weight y.weight z.weight _ _ _ (key_trans _ _ _);
    asym = λ x y. lex_asym x.weight y.weight _ _ (key_asym _ _);
    never = λ x. lex_never x.weight _ (laws.never _);
  }
