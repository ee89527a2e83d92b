-- The lazy heap that lies through a table: its entries may be behind the counts in, its root is not. Assumes nothing.
use Rattle.std.specs.Prelude.{◌≡◌, ℕ, ◌-◌, ◌<◌, ◌≤◌, Bool, true, false, cond, ◌⊎◌, List, nat_lt, slice_index, slice_index_or, slice_set}
use Rattle.counting.specs.declared.Record.{Record}
use Rattle.places.specs.declared.place.Place.{Place}
use Rattle.places.specs.Columns.{records, counts, entries, at}
use Rattle.heap.specs.Heaps.{Ordered, Once, total, Sinking, Rising, Shuffled}
use Rattle.places.specs.declared.place.HeapEntry.{HeapEntry}

-- whether w is less than v, and b where they are equal
abbrev pub lex : ℕ → ℕ → Bool → Bool
lex w v b = cond (nat_lt w v) true (cond (nat_lt v w) false b)

-- entry x leaves before entry y: by weight, then by key
abbrev pub sooner : {K : Type 0} → (K → K → Bool) → List (Record K) → Record K → HeapEntry → HeapEntry → Bool
sooner before rs d x y = lex x.weight y.weight (before (slice_index_or rs x.place d).key (slice_index_or rs y.place d).key)

-- record r has the less (count in, key)
abbrev pub less : {K : Type 0} → (K → K → Bool) → Record K → Record K → Bool
less before r s = lex r.ins s.ins (before r.key s.key)

-- p's record is the least of the first n by (count in, key)
abbrev pub Least : {K : Type 0} → (K → K → Bool) → List (Record K) → ℕ → ℕ → Type 0
Least {K} before rs n p = (q : ℕ) (d : Record K) → q < n → less before (slice_index_or rs q d) (slice_index_or rs p d) ≡ false

-- every position holds a place of its own
pub record Stands (xs : List HeapEntry) (n : ℕ) : Type 0 where
  pub below : (i : ℕ) → i < n → (at xs i).place < n
  pub once : Once n (λ i. (at xs i).place)

-- no weight is above the count in
abbrev pub Seen : List HeapEntry → List ℕ → ℕ → Type 0
Seen xs cs n = (i : ℕ) → i < n → (at xs i).weight ≤ slice_index cs (at xs i).place

-- the root's weight is its place's count in
abbrev pub Exact : List HeapEntry → List ℕ → ℕ → Type 0
Exact xs cs n = 0 < n → (at xs 0).weight ≡ slice_index cs (at xs 0).place

-- how far the weights are behind
abbrev pub debt : List HeapEntry → List ℕ → ℕ → ℕ
debt xs cs n = total n (λ i. slice_index cs (at xs i).place - (at xs i).weight)

-- the heap's numbers, which need no order of keys
pub record Seated (xs : List HeapEntry) (cs : List ℕ) (n : ℕ) : Type 0 where
  pub stands : Stands xs n
  pub seen : Seen xs cs n

-- and the root is up to date
pub record Sound (xs : List HeapEntry) (cs : List ℕ) (n : ℕ) : Type 0 where
  pub stands : Stands xs n
  pub seen : Seen xs cs n
  pub exact : Exact xs cs n

-- no entry is after its children
abbrev pub InHeap : {K : Type 0} → (K → K → Bool) → List HeapEntry → List (Record K) → ℕ → Type 0
InHeap {K} before xs rs n = (d : Record K) → Ordered (sooner before rs d) (at xs) n

-- but for i, which may be after its children
abbrev pub Heavy : {K : Type 0} → (K → K → Bool) → List HeapEntry → List (Record K) → ℕ → ℕ → Type 0
Heavy {K} before xs rs n i = (d : Record K) → Sinking (sooner before rs d) (at xs) n i

-- but for i, which may be before its parent
abbrev pub Light : {K : Type 0} → (K → K → Bool) → List HeapEntry → List (Record K) → ℕ → ℕ → Type 0
Light {K} before xs rs n i = (d : Record K) → Rising (sooner before rs d) (at xs) n i

-- but for the root, until it is exact
abbrev pub Turning : {K : Type 0} → (K → K → Bool) → List HeapEntry → List (Record K) → ℕ → Type 0
Turning before xs rs n = Heavy before xs rs n 0 × ((at xs 0).weight ≡ slice_index (counts rs) (at xs 0).place → InHeap before xs rs n)

-- the entries xs₀ in another order, which under the premise P is the heap's
pub record Settled {K : Type 0} (before : K → K → Bool) (P : Type 0) (rs : List (Record K)) (xs₀ ys : List HeapEntry) (n : ℕ) : Type 0 where
  pub stands : Stands ys n
  pub shuffled : Shuffled n (at xs₀) (at ys)
  pub ordered : P → InHeap before ys rs n

-- the entry e was put at i and sank
abbrev pub Sunk : {K : Type 0} → (K → K → Bool) → List (Place K) → List (Place K) → ℕ → ℕ → HeapEntry → Type 0
Sunk before was now' n i e = Settled before (Heavy before (slice_set (entries was) i e) (records was) n i) (records now') (slice_set (entries was) i e) (entries now') n

-- the entry e was put at i and rose
abbrev pub Risen : {K : Type 0} → (K → K → Bool) → List (Place K) → List (Place K) → ℕ → ℕ → HeapEntry → Type 0
Risen before was now' n i e = Settled before (Light before (slice_set (entries was) i e) (records was) n i) (records now') (slice_set (entries was) i e) (entries now') n

-- the first entry is the new one or what it was
abbrev pub Rooted : List HeapEntry → List HeapEntry → HeapEntry → Type 0
Rooted xs₀ ys e = (at ys 0 ≡ e) ⊎ (at ys 0 ≡ at xs₀ 0)

-- an entry on its way down, from xs₀, is at i
pub record Down {K : Type 0} (before : K → K → Bool) (P : Type 0) (rs : List (Record K)) (xs₀ xs : List HeapEntry) (n i : ℕ) : Type 0 where
  pub inside : i < n
  pub stands : Stands xs n
  pub shuffled : Shuffled n (at xs₀) (at xs)
  pub loose : P → Heavy before xs rs n i

-- an entry on its way up
pub record Up {K : Type 0} (before : K → K → Bool) (P : Type 0) (rs : List (Record K)) (xs₀ xs : List HeapEntry) (n i : ℕ) : Type 0 where
  pub inside : i < n
  pub stands : Stands xs n
  pub shuffled : Shuffled n (at xs₀) (at xs)
  pub loose : P → Light before xs rs n i
  pub root : 0 < i → at xs 0 ≡ at xs₀ 0
