-- Bytes that were read as a number and are written back. Assumes nothing.
use Rattle.std.specs.Prelude.{◌≡◌, ℕ, ◌+◌, ◌*◌, ◌/◌, ◌%◌, ◌<◌, List, [], ◌∷◌, ◌++◌, length}
use Rattle.std.proofs.Common.{ap, ◌∙◌, arith}
use Rattle.keys.specs.Bytes.{four, two, from_four, from_two, Octets}

same_four : (a b c d : ℕ) (p q r s : ℕ) → a ≡ p → b ≡ q → c ≡ r → d ≡ s → ◌≡◌ {A = List ℕ} (a ∷ b ∷ c ∷ d ∷ []) (p ∷ q ∷ r ∷ s ∷ [])
same_four a b c d p q r s e f g h = cc

pub four_back : (a b c d : ℕ) → b < 256 → c < 256 → d < 256 → four (a * 16777216 + b * 65536 + c * 256 + d) ≡ a ∷ b ∷ c ∷ d ∷ []
four_back a b c d hb hc hd = same_four _ _ _ _ _ _ _ _ (omega arith) (omega arith) (omega arith) (omega arith)

pub two_back : (a b : ℕ) → b < 256 → two (a * 256 + b) ≡ a ∷ b ∷ []
two_back a b hb = let e : (a * 256 + b) / 256 ≡ a = omega arith in let f : (a * 256 + b) % 256 ≡ b = omega arith in cc

pub node_forth : (bs : List ℕ) → length bs ≡ 4 → Octets bs → four (from_four bs 0) ≡ bs
node_forth [] n o = absurd (omega arith)
node_forth (a ∷ []) n o = absurd (omega arith)
node_forth (a ∷ b ∷ []) n o = absurd (omega arith)
node_forth (a ∷ b ∷ c ∷ []) n o = absurd (omega arith)
node_forth (a ∷ b ∷ c ∷ d ∷ []) n o = four_back a b c d o.1.0 o.1.1.0 o.1.1.1.0
node_forth (a ∷ b ∷ c ∷ d ∷ e ∷ bs) n o = absurd (omega arith)

pub tag_forth : (bs : List ℕ) → length bs ≡ 6 → Octets bs → four (from_four bs 0) ++ two (from_two bs 4) ≡ bs
tag_forth [] n o = absurd (omega arith)
tag_forth (a ∷ []) n o = absurd (omega arith)
tag_forth (a ∷ b ∷ []) n o = absurd (omega arith)
tag_forth (a ∷ b ∷ c ∷ []) n o = absurd (omega arith)
tag_forth (a ∷ b ∷ c ∷ d ∷ []) n o = absurd (omega arith)
tag_forth (a ∷ b ∷ c ∷ d ∷ e ∷ []) n o = absurd (omega arith)
tag_forth (a ∷ b ∷ c ∷ d ∷ e ∷ f ∷ []) n o =
    ap (λ l. l ++ two (e * 256 + f)) (four_back a b c d o.1.0 o.1.1.0 o.1.1.1.0)
    ∙ ap (λ l. a ∷ b ∷ c ∷ d ∷ l) (two_back e f o.1.1.1.1.1.0)
tag_forth (a ∷ b ∷ c ∷ d ∷ e ∷ f ∷ g ∷ bs) n o = absurd (omega arith)
