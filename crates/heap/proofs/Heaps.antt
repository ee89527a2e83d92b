-- A new entry, and the root brought up to date. Assumes nothing.
use Rattle.std.proofs.Common.{◌≡◌, ℕ, ◌+◌, ◌-◌, ◌<◌, ◌≤◌, Bool, ◌≢◌, List, length, get_or, set, sym, ap, ◌∙◌, subst, ⊎_elim, arith, get_or-set_other, get_or-set_same}
use Rattle.std.proofs.lemmas.Bool.{cases_eq}
use Rattle.counting.specs.declared.Record.{Record}
use Rattle.places.specs.Columns.{no_entry, at, counts}
use Rattle.heap.specs.Heaps.{Shuffled, total}
use Rattle.heap.specs.Lazy.{Stands, Seen, Exact, Rooted, Seated, Sound, InHeap, Heavy, Light, Turning, debt}
use Rattle.heap.proofs.Sifts.{total_one}
use Rattle.places.specs.declared.place.HeapEntry.{HeapEntry}

-- the place that is read at i
abbrev pub entry : ℕ → ℕ → HeapEntry
entry p w = record { place = p; weight = w }

pub stands_read : (xs : List HeapEntry) (n i : ℕ) (x : HeapEntry) → Stands xs n → i < n → x ≡ at xs i → x.place < n
stands_read xs n i x stands l e = subst (λ (y : HeapEntry). y.place < n) (sym e) (stands.below i l)

seen_shuffled : (zs ys : List HeapEntry) (cs : List ℕ) (n : ℕ) → Shuffled n (at zs) (at ys) → Seen zs cs n → Seen ys cs n
seen_shuffled zs ys cs n sh seen i l =
    let s = sh.from i l in
    subst (λ (x : HeapEntry). x.weight ≤ get_or cs x.place 0) (sym s.2) (seen s.0 s.1)

-- the entries with a new one at the end
pub push_stands : (xs : List HeapEntry) (n w : ℕ) → n < length xs → Stands xs n → Stands (set xs n (entry n w)) (n + 1)
push_stands xs n w fits stands =
    let here = ap (λ (x : HeapEntry). x.place) (get_or-set_same xs n (entry n w) no_entry fits) in
    let new : (j : ℕ) → j ≡ n → (at (set xs n (entry n w)) j).place ≡ n = λ j e. ap (λ (k : ℕ). (at (set xs n (entry n w)) k).place) e ∙ here in
    let old : (j : ℕ) → j ≢ n → (at (set xs n (entry n w)) j).place ≡ (at xs j).place = λ j ne. ap (λ (x : HeapEntry). x.place) (get_or-set_other xs n j (entry n w) no_entry ne) in
    record {
      below = λ i l.
          ⊎_elim
          (λ (e : i ≡ n). let f = new i e in omega arith)
          (λ (e : i ≢ n). let f = old i e in let b = stands.below i (omega arith) in omega arith)
          (cases_eq i n);
      once = λ i j li lj same.
          ⊎_elim
          (λ (e : i ≡ n).
          let f = new i e in
          ⊎_elim
          (λ (e2 : j ≡ n). omega arith)
          (λ (e2 : j ≢ n). let g = old j e2 in let b = stands.below j (omega arith) in absurd (omega arith))
          (cases_eq j n))
          (λ (e : i ≢ n).
          let f = old i e in
          let a = stands.below i (omega arith) in
          ⊎_elim
          (λ (e2 : j ≡ n). let g = new j e2 in absurd (omega arith))
          (λ (e2 : j ≢ n). let g = old j e2 in stands.once i j (omega arith) (omega arith) (omega arith))
          (cases_eq j n))
          (cases_eq i n);
    }

pub push_light : {K : Type 0} (before : K → K → Bool) (rs : List (Record K)) (xs : List HeapEntry) (n w : ℕ) → InHeap before xs rs n → Light before (set xs n (entry n w)) rs (n + 1) n
push_light before rs xs n w order d =
    let other : (j : ℕ) → j ≢ n → at (set xs n (entry n w)) j ≡ at xs j = λ j ne. get_or-set_other xs n j (entry n w) no_entry ne in
    record {
      rest = λ a j h jn ne. rw (other j ne, other a (omega arith)) (order d a j h (omega arith));
      over = λ a j h k jn. absurd (omega arith);
    }

pub push_sound : {K : Type 0} (rs : List (Record K)) {rs' : List (Record K)} (xs ys : List HeapEntry) (n w : ℕ) → n < length xs → rs' ≡ rs → w ≡ get_or (counts rs) n 0
    → Sound xs (counts rs) n → Stands ys (n + 1) → Shuffled (n + 1) (at (set xs n (entry n w))) (at ys) → Rooted (set xs n (entry n w)) ys (entry n w) → Sound ys (counts rs') (n + 1)
push_sound {K} rs xs ys n w fits er ew sound stands shuffled rooted =
    let zs : List HeapEntry = set xs n (entry n w) in
    let here : at zs n ≡ (entry n w) = get_or-set_same xs n (entry n w) no_entry fits in
    let other : (j : ℕ) → j ≢ n → at zs j ≡ at xs j = λ j ne. get_or-set_other xs n j (entry n w) no_entry ne in
    let seen : Seen zs (counts rs) (n + 1) = λ i l.
    ⊎_elim
    (λ (e : i ≡ n). subst (λ (x : HeapEntry). x.weight ≤ get_or (counts rs) x.place 0) (sym (ap (λ (k : ℕ). at zs k) e ∙ here)) (omega arith))
    (λ (e : i ≢ n). subst (λ (x : HeapEntry). x.weight ≤ get_or (counts rs) x.place 0) (sym (other i e)) (sound.seen i (omega arith)))
    (cases_eq i n) in
    let fine : (x : HeapEntry) → x ≡ (entry n w) → x.weight ≡ get_or (counts rs) x.place 0 = λ x e. subst (λ (y : HeapEntry). y.weight ≡ get_or (counts rs) y.place 0) (sym e) ew in
    let exact : Exact ys (counts rs) (n + 1) = λ h.
    ⊎_elim
    (λ (e : at ys 0 ≡ (entry n w)). fine (at ys 0) e)
    (λ (e : at ys 0 ≡ at zs 0).
    ⊎_elim
    (λ (z : 0 ≡ n). fine (at ys 0) (e ∙ ap (λ (k : ℕ). at zs k) z ∙ here))
    (λ (z : 0 ≢ n). subst (λ (y : HeapEntry). y.weight ≡ get_or (counts rs) y.place 0) (sym (e ∙ other 0 z)) (sound.exact (omega arith)))
    (cases_eq 0 n))
    rooted in
    record {
      stands = stands;
      seen = subst (λ (ss : List (Record K)). Seen ys (counts ss) (n + 1)) (sym er) (seen_shuffled zs ys (counts rs) (n + 1) shuffled seen);
      exact = subst (λ (ss : List (Record K)). Exact ys (counts ss) (n + 1)) (sym er) exact;
    }

pub order_turning : {K : Type 0} (before : K → K → Bool) (rs : List (Record K)) (xs : List HeapEntry) (n : ℕ) → InHeap before xs rs n → Turning before xs rs n
order_turning before rs xs n order = ((λ d. record { rest = λ a j h jn ne. order d a j h jn; over = λ a j h k jn. absurd (omega arith) }), (λ e. order))

pub refresh_heavy : {K : Type 0} (before : K → K → Bool) (rs : List (Record K)) (xs : List HeapEntry) (n : ℕ) (e : HeapEntry) → Heavy before xs rs n 0 → Heavy before (set xs 0 e) rs n 0
refresh_heavy before rs xs n e heavy d =
    let other : (j : ℕ) → j ≢ 0 → at (set xs 0 e) j ≡ at xs j = λ j ne. get_or-set_other xs 0 j e no_entry ne in
    record {
      rest = λ a j h jn ne. rw (other j (omega arith), other a ne) ((heavy d).rest a j h jn ne);
      over = λ a j h k jn. absurd (omega arith);
    }

-- the root's entry x, at another weight w
module _ (xs : List HeapEntry) (n w : ℕ) (x : HeapEntry) (fits : n ≤ length xs) (some : 0 < n) (ex : x ≡ at xs 0) where
  same_places : (i : ℕ) → (at (set xs 0 (entry x.place w)) i).place ≡ (at xs i).place
  same_places i =
      ⊎_elim
      (λ (e : i ≡ 0). ap (λ (k : ℕ). (at (set xs 0 (entry x.place w)) k).place) e ∙ ap (λ (y : HeapEntry). y.place) (get_or-set_same xs 0 (entry x.place w) no_entry (omega arith)) ∙ ap (λ (y : HeapEntry). y.place) ex ∙ ap (λ (k : ℕ). (at xs k).place) (sym e))
      (λ (e : i ≢ 0). ap (λ (y : HeapEntry). y.place) (get_or-set_other xs 0 i (entry x.place w) no_entry e))
      (cases_eq i 0)

  pub refresh_stands : Stands xs n → Stands (set xs 0 (entry x.place w)) n
  refresh_stands stands = record {
    below = λ i l. let e = same_places i in let b = stands.below i l in omega arith;
    once = λ i j li lj e. stands.once i j li lj (sym (same_places i) ∙ e ∙ same_places j);
  }

  -- which is its place's count in
  module _ {K : Type 0} (rs : List (Record K)) {rs' : List (Record K)} (ys : List HeapEntry) (er : rs' ≡ rs)
      (ew : w ≡ get_or (counts rs) x.place 0) (seated : Seated xs (counts rs) n) (shuffled : Shuffled n (at (set xs 0 (entry x.place w))) (at ys)) where
    pub refresh_seated : Stands ys n → Seated ys (counts rs') n
    refresh_seated stands =
        let zs : List HeapEntry = set xs 0 (entry x.place w) in
        let here : at zs 0 ≡ (entry x.place w) = get_or-set_same xs 0 (entry x.place w) no_entry (omega arith) in
        let seen : Seen zs (counts rs) n = λ i l.
        ⊎_elim
        (λ (e : i ≡ 0). subst (λ (y : HeapEntry). y.weight ≤ get_or (counts rs) y.place 0) (sym (ap (λ (k : ℕ). at zs k) e ∙ here)) (omega arith))
        (λ (e : i ≢ 0). subst (λ (y : HeapEntry). y.weight ≤ get_or (counts rs) y.place 0) (sym (get_or-set_other xs 0 i (entry x.place w) no_entry e)) (seated.seen i l))
        (cases_eq i 0) in
        record {
          stands = stands;
          seen = subst (λ (ss : List (Record K)). Seen ys (counts ss) n) (sym er) (seen_shuffled zs ys (counts rs) n shuffled seen);
        }

    pub refresh_less : x.weight ≢ w → debt ys (counts rs') n < debt xs (counts rs) n
    refresh_less ne =
        let F : HeapEntry → ℕ = λ y. get_or (counts rs) y.place 0 - y.weight in
        let zs : List HeapEntry = set xs 0 (entry x.place w) in
        let sums : total n (λ i. F (at ys i)) ≡ total n (λ i. F (at zs i)) = shuffled.sums F in
        let one : total n (λ i. F (at zs i)) + F (at xs 0) ≡ total n (λ i. F (at xs i)) + F (at zs 0) =
        total_one n (λ i. F (at xs i)) (λ i. F (at zs i)) 0 some (λ k l e. ap F (get_or-set_other xs 0 k (entry x.place w) no_entry e)) in
        let none : F (at zs 0) ≡ 0 = ap F (get_or-set_same xs 0 (entry x.place w) no_entry (omega arith)) ∙ (omega arith) in
        let seen : x.weight ≤ get_or (counts rs) x.place 0 = subst (λ (y : HeapEntry). y.weight ≤ get_or (counts rs) y.place 0) (sym ex) (seated.seen 0 some) in
        let gap : 0 < F (at xs 0) = subst (λ (y : HeapEntry). 0 < F y) ex (omega arith) in
        let less : total n (λ i. F (at ys i)) < total n (λ i. F (at xs i)) = omega arith in
        subst (λ (ss : List (Record K)). debt ys (counts ss) n < debt xs (counts rs) n) (sym er) less

module _ (xs : List HeapEntry) (cs : List ℕ) (w : ℕ) (x : HeapEntry) (ex : x ≡ at xs 0) (ew : w ≡ get_or cs x.place 0) (same : x.weight ≡ w) where
  pub exact_root : (at xs 0).weight ≡ get_or cs (at xs 0).place 0
  exact_root = subst (λ (y : HeapEntry). y.weight ≡ get_or cs y.place 0) ex (same ∙ ew)

  pub refresh_sound : (n : ℕ) → Seated xs cs n → Sound xs cs n
  refresh_sound n seated = record { stands = seated.stands; seen = seated.seen; exact = λ h. exact_root }
