-- What the root of a heap tells of all its records. Assumes nothing.
use Rattle.std.proofs.Common.{◌≡◌, ℕ, ◌<◌, ◌≤◌, Bool, false, List, [], ◌∷◌, length, get_or, ap, ◌∙◌, subst, arith}
use Rattle.std.proofs.lemmas.Bool.Decides.{nat_tests}
use Rattle.counting.specs.declared.Record.{Record}
use Rattle.counting.specs.Rule.{Order}
use Rattle.places.specs.Columns.{at, counts}
use Rattle.places.proofs.Columns.{count_of}
use Rattle.heap.specs.Lazy.{lex, sooner, Stands, Sound, InHeap, Least}
use Rattle.heap.proofs.Sifts.{root_least}
use Rattle.heap.proofs.Orders.{sooner_weak}
use Rattle.heap.proofs.Pigeons.{pigeon}
use Rattle.places.specs.declared.place.HeapEntry.{HeapEntry}

lex_raise : (w u v t : ℕ) (b : Bool) → w ≤ u → v ≡ t → lex w v b ≡ false → lex u t b ≡ false
lex_raise w u v t b h e f = grind (arith, nat_tests)

lex_le : (w v : ℕ) (b : Bool) → lex w v b ≡ false → v ≤ w
lex_le w v b f = grind (arith, nat_tests)

-- every place is at some position
stands_at : (xs : List HeapEntry) (n : ℕ) → Stands xs n → (p : ℕ) → p < n → (i : ℕ) × (i < n) × ((at xs i).place ≡ p)
stands_at xs n st p l = pigeon n (λ i. (at xs i).place) st.below st.once p l

module _ {K : Type 0} (before : K → K → Bool) (laws : Order before) (rs : List (Record K)) (xs : List HeapEntry) (n : ℕ)
    (fits : n ≤ length rs) (some : 0 < n) (sound : Sound xs (counts rs) n) (order : InHeap before xs rs n) where
  pub lazy_least : Least before rs n (at xs 0).place
  lazy_least q d lq =
      let s = stands_at xs n sound.stands q lq in
      let i = s.0 in
      let base = root_least (sooner before rs d) (sooner_weak before laws rs d) (at xs) n (order d) n i s.1 (omega arith) in
      let seen : (at xs i).weight ≤ (get_or rs q d).ins = subst (λ (k : ℕ). (at xs i).weight ≤ k) (ap (λ (k : ℕ). get_or (counts rs) k 0) s.2 ∙ count_of rs q d (omega arith)) (sound.seen i s.1) in
      let b0 = sound.stands.below 0 some in
      let exact : (at xs 0).weight ≡ (get_or rs (at xs 0).place d).ins = sound.exact some ∙ count_of rs (at xs 0).place d (omega arith) in
      let base2 : lex (at xs i).weight (at xs 0).weight (before (get_or rs q d).key (get_or rs (at xs 0).place d).key) ≡ false
      = subst (λ (k : ℕ). lex (at xs i).weight (at xs 0).weight (before (get_or rs k d).key (get_or rs (at xs 0).place d).key) ≡ false) s.2 base in
      lex_raise (at xs i).weight (get_or rs q d).ins (at xs 0).weight (get_or rs (at xs 0).place d).ins _ seen exact base2

  floor_by : Record K → (q : ℕ) → q < n → (at xs 0).weight ≤ get_or (counts rs) q 0
  floor_by d q lq =
      let s = stands_at xs n sound.stands q lq in
      let i = s.0 in
      let base = root_least (sooner before rs d) (sooner_weak before laws rs d) (at xs) n (order d) n i s.1 (omega arith) in
      let le = lex_le (at xs i).weight (at xs 0).weight _ base in
      let seen = subst (λ (k : ℕ). (at xs i).weight ≤ get_or (counts rs) k 0) s.2 (sound.seen i s.1) in
      omega arith

-- the root's weight is the least count in
pub lazy_floor : {K : Type 0} (before : K → K → Bool) → Order before → (rs : List (Record K)) (xs : List HeapEntry) (n : ℕ)
    → n ≤ length rs → 0 < n → Sound xs (counts rs) n → InHeap before xs rs n → (q : ℕ) → q < n → (at xs 0).weight ≤ get_or (counts rs) q 0
lazy_floor before laws [] xs n fits some sound order q lq = absurd (omega arith)
lazy_floor before laws (r ∷ rs) xs n fits some sound order q lq = floor_by before laws (r ∷ rs) xs n fits some sound order r q lq
