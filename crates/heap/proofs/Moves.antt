-- An entry on its way down, over the list of entries. Assumes nothing.
use Rattle.std.proofs.Common.{◌≡◌, ℕ, ◌+◌, ◌*◌, ◌<◌, ◌≤◌, Bool, true, false, ◌≢◌, List, length, set, sym, ap, ◌∙◌, subst, ⊎_elim, arith, length-set, get_or-set_other, get_or-set_same}
use Rattle.std.proofs.lemmas.Bool.{cases_eq}
use Rattle.counting.specs.declared.Record.{Record}
use Rattle.counting.specs.Rule.{Order}
use Rattle.places.specs.Columns.{no_entry, at}
use Rattle.heap.specs.Heaps.{Child, Weak, Shuffled}
use Rattle.heap.specs.Lazy.{sooner, Stands, InHeap, Down, Settled}
use Rattle.heap.proofs.Sifts.{Swapped, sink_step, sink_stop, sink_end, swap_shuffled, then_shuffled}
use Rattle.heap.proofs.Orders.{sooner_weak}
use Rattle.places.specs.declared.place.HeapEntry.{HeapEntry}

-- of two children the one that the other is not before
two_least : {X : Type 0} (lt : X → X → Bool) → Weak lt → (x : ℕ → X) (i c o : ℕ) → Child i c → Child i o → c ≢ o → lt (x o) (x c) ≡ false
    → (j : ℕ) → Child i j → lt (x j) (x c) ≡ false
two_least lt weak x i c o hc ho ne e j hj =
    ⊎_elim
    (λ (f : j ≡ c). ap (λ (k : ℕ). lt (x k) (x c)) f ∙ weak.never (x c))
    (λ (f : j ≢ c). let g : j ≡ o = omega arith in ap (λ (k : ℕ). lt (x k) (x c)) g ∙ e)
    (cases_eq j c)

module _ {K : Type 0} (before : K → K → Bool) (laws : Order before) (rs : List (Record K)) (xs : List HeapEntry) (i : ℕ) where
  pub only_least : (n : ℕ) → n ≤ 2 * i + 1 + 1
      → (d : Record K) (j : ℕ) → Child i j → j < n → sooner before rs d (at xs j) (at xs (2 * i + 1)) ≡ false
  only_least n le d j h l =
      let e : j ≡ 2 * i + 1 = omega arith in
      ap (λ (k : ℕ). sooner before rs d (at xs k) (at xs (2 * i + 1))) e ∙ (sooner_weak before laws rs d).never (at xs (2 * i + 1))

  module _ (x y : HeapEntry) (ex : x ≡ at xs (2 * i + 1)) (ey : y ≡ at xs (2 * i + 1 + 1)) where
    moved : (b : Bool) (d : Record K) → b ≡ sooner before rs d y x → sooner before rs d (at xs (2 * i + 1 + 1)) (at xs (2 * i + 1)) ≡ b
    moved b d t = ap (λ (z : HeapEntry). sooner before rs d z (at xs (2 * i + 1))) (sym ey) ∙ ap (λ (z : HeapEntry). sooner before rs d y z) (sym ex) ∙ sym t

    pub right_least : ((d : Record K) → true ≡ sooner before rs d y x)
        → (d : Record K) (j : ℕ) → Child i j → sooner before rs d (at xs j) (at xs (2 * i + 1 + 1)) ≡ false
    right_least t d =
        let w = sooner_weak before laws rs d in
        two_least (sooner before rs d) w (at xs) i (2 * i + 1 + 1) (2 * i + 1) (omega arith, omega arith) (omega arith, omega arith) (omega arith)
        (w.asym (at xs (2 * i + 1 + 1)) (at xs (2 * i + 1)) (moved true d (t d)))

    pub left_least : ((d : Record K) → false ≡ sooner before rs d y x)
        → (d : Record K) (j : ℕ) → Child i j → sooner before rs d (at xs j) (at xs (2 * i + 1)) ≡ false
    left_least t d =
        two_least (sooner before rs d) (sooner_weak before laws rs d) (at xs) i (2 * i + 1) (2 * i + 1 + 1) (omega arith, omega arith) (omega arith, omega arith) (omega arith)
        (moved false d (t d))

pub stands_shuffled : (xs ys : List HeapEntry) (n : ℕ) → Shuffled n (at xs) (at ys) → Stands xs n → Stands ys n
stands_shuffled xs ys n sh st = record {
  below = λ i l. let s = sh.from i l in let e = ap (λ (x : HeapEntry). x.place) s.2 in let b = st.below s.0 s.1 in omega arith;
  once = sh.once (λ x. x.place) st.once;
}

-- the entry e at i changes places with that at c
pub set_swapped : (xs : List HeapEntry) (i c : ℕ) (e : HeapEntry) → i < length xs → c < length xs → i ≢ c
    → Swapped (at (set xs i e)) (at (set (set xs i (at xs c)) c e)) i c
set_swapped xs i c e hi hc ne =
    let n = length-set xs i (at xs c) in
    record {
      here = get_or-set_other (set xs i (at xs c)) c i e no_entry ne ∙ get_or-set_same xs i (at xs c) no_entry hi ∙ sym (get_or-set_other xs i c e no_entry (λ f. ne (sym f)));
      there = get_or-set_same (set xs i (at xs c)) c e no_entry (omega arith) ∙ sym (get_or-set_same xs i e no_entry hi);
      other = λ k a b. get_or-set_other (set xs i (at xs c)) c k e no_entry b ∙ get_or-set_other xs i k (at xs c) no_entry a ∙ sym (get_or-set_other xs i k e no_entry a);
    }

module _ (xs : List HeapEntry) (n i : ℕ) (e : HeapEntry) (st : Stands (set xs i e) n) where
  pub set_below : (j : ℕ) → j ≢ i → j < n → (at xs j).place < n
  set_below j ne l =
      let b = st.below j l in
      let f = ap (λ (x : HeapEntry). x.place) (get_or-set_other xs i j e no_entry ne) in
      omega arith

  pub set_here : n ≤ length xs → i < n → e.place < n
  set_here fits l =
      let b = st.below i l in
      let f = ap (λ (x : HeapEntry). x.place) (get_or-set_same xs i e no_entry (omega arith)) in
      omega arith

-- the entry e, on its way down at i, whose least child is at c
module _ {K : Type 0} (before : K → K → Bool) (laws : Order before) {P : Type 0} {rs : List (Record K)} {xs₀ : List HeapEntry} (xs : List HeapEntry) (n i c : ℕ) (e : HeapEntry)
    (fits : n ≤ length xs) (ch : Child i c) (cn : c < n)
    (least : (d : Record K) (j : ℕ) → Child i j → j < n → sooner before rs d (at xs j) (at xs c) ≡ false)
    (down : Down before P rs xs₀ (set xs i e) n i) where
  down_step : ((d : Record K) → sooner before rs d (at xs c) e ≡ true) → Down before P rs xs₀ (set (set xs i (at xs c)) c e) n c
  down_step less =
      let here = get_or-set_same xs i e no_entry (omega arith) in
      let other : (j : ℕ) → j ≢ i → at (set xs i e) j ≡ at xs j = λ j ne. get_or-set_other xs i j e no_entry ne in
      let sw = set_swapped xs i c e (omega arith) (omega arith) (omega arith) in
      let sh = swap_shuffled (at (set xs i e)) (at (set (set xs i (at xs c)) c e)) n i c (omega arith) cn (omega arith) sw in
      record {
        inside = cn;
        stands = stands_shuffled _ _ n sh down.stands;
        shuffled = then_shuffled n (at xs₀) (at (set xs i e)) (at (set (set xs i (at xs c)) c e)) down.shuffled sh;
        loose = λ p d. sink_step (sooner before rs d) (sooner_weak before laws rs d) (at (set xs i e)) (at (set (set xs i (at xs c)) c e)) n i c sw ch cn
            (rw (here, other c (omega arith)) (less d))
            (λ j h jn. rw (other c (omega arith), other j (omega arith)) (least d j h jn))
            (down.loose p d);
      }

  down_stop : ((d : Record K) → sooner before rs d (at xs c) e ≡ false) → P → InHeap before (set xs i e) rs n
  down_stop less p d =
      let here = get_or-set_same xs i e no_entry (omega arith) in
      let other : (j : ℕ) → j ≢ i → at (set xs i e) j ≡ at xs j = λ j ne. get_or-set_other xs i j e no_entry ne in
      sink_stop (sooner before rs d) (sooner_weak before laws rs d) (at (set xs i e)) n i c
      (rw (here, other c (omega arith)) (less d))
      (λ j h jn. rw (other c (omega arith), other j (omega arith)) (least d j h jn))
      (down.loose p d)

  module _ {rs' : List (Record K)} {ys : List HeapEntry} {x : HeapEntry} (er : rs' ≡ rs) (ex : x ≡ at xs c) where
    pub down_again : ys ≡ set xs i x → ((d : Record K) → true ≡ sooner before rs d x e) → Down before P rs' xs₀ (set ys c e) n c
    down_again ey less =
        let ey2 : ys ≡ set xs i (at xs c) = ey ∙ ap (λ (z : HeapEntry). set xs i z) ex in
        let s = down_step (λ d. ap (λ (z : HeapEntry). sooner before rs d z e) (sym ex) ∙ sym (less d)) in
        subst (λ (ss : List (Record K)). Down before P ss xs₀ (set ys c e) n c) (sym er) (subst (λ (zs : List HeapEntry). Down before P rs xs₀ (set zs c e) n c) (sym ey2) s)

    pub down_broke : ys ≡ set xs i e → ((d : Record K) → false ≡ sooner before rs d x e) → Settled before P rs' xs₀ ys n
    down_broke ey less =
        let s : Settled before P rs xs₀ (set xs i e) n = record {
          stands = down.stands;
          shuffled = down.shuffled;
          ordered = down_stop (λ d. ap (λ (z : HeapEntry). sooner before rs d z e) (sym ex) ∙ sym (less d));
        } in
        subst (λ (ss : List (Record K)). Settled before P ss xs₀ ys n) (sym er) (subst (λ (zs : List HeapEntry). Settled before P rs xs₀ zs n) (sym ey) s)

pub down_done : {K : Type 0} (before : K → K → Bool) {P : Type 0} {rs rs' : List (Record K)} {xs₀ ys : List HeapEntry} (xs : List HeapEntry) (n i : ℕ) (e : HeapEntry)
    → rs' ≡ rs → ys ≡ set xs i e → n ≤ 2 * i + 1 → Down before P rs xs₀ (set xs i e) n i → Settled before P rs' xs₀ ys n
down_done {K} before {P} {rs} {rs'} {xs₀} {ys} xs n i e er ey le down =
    let s : Settled before P rs xs₀ (set xs i e) n = record {
      stands = down.stands;
      shuffled = down.shuffled;
      ordered = λ p d. sink_end (sooner before rs d) (at (set xs i e)) n i le (down.loose p d);
    } in
    subst (λ (ss : List (Record K)). Settled before P ss xs₀ ys n) (sym er) (subst (λ (zs : List HeapEntry). Settled before P rs xs₀ zs n) (sym ey) s)
