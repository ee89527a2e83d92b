-- An entry on its way up. Assumes nothing.
use Rattle.std.proofs.Common.{◌≡◌, ℕ, ◌≤◌, Bool, true, false, List, length, set, sym, ap, ◌∙◌, subst, inl, inr, arith, get_or-set_other, get_or-set_same}
use Rattle.counting.specs.declared.Record.{Record}
use Rattle.counting.specs.Rule.{Order}
use Rattle.places.specs.Columns.{no_entry, at}
use Rattle.heap.specs.Heaps.{Child, Rising}
use Rattle.heap.specs.Lazy.{sooner, Up, Settled, Rooted}
use Rattle.heap.proofs.Sifts.{rise_step, rise_stop, rise_end, swap_shuffled, then_shuffled}
use Rattle.heap.proofs.Orders.{sooner_weak}
use Rattle.heap.proofs.Moves.{stands_shuffled, set_swapped}
use Rattle.places.specs.declared.place.HeapEntry.{HeapEntry}

abbrev Both : {K : Type 0} → (K → K → Bool) → Type 0 → List (Record K) → List HeapEntry → List HeapEntry → ℕ → HeapEntry → Type 0
Both before P rs xs₀ ys n e = Settled before P rs xs₀ ys n × Rooted xs₀ ys e

-- the entry e, on its way up at i
module _ {K : Type 0} (before : K → K → Bool) {P : Type 0} {rs rs' : List (Record K)} {xs₀ : List HeapEntry} (xs ys : List HeapEntry) (n i : ℕ) (e : HeapEntry)
    (fits : n ≤ length xs) (er : rs' ≡ rs) (up : Up before P rs xs₀ (set xs i e) n i) where
  both : Both before P rs xs₀ (set xs i e) n e → ys ≡ set xs i e → Both before P rs' xs₀ ys n e
  both s ey = subst (λ (ss : List (Record K)). Both before P ss xs₀ ys n e) (sym er) (subst (λ (zs : List HeapEntry). Both before P rs xs₀ zs n e) (sym ey) s)

  pub up_done : ys ≡ set xs i e → i ≤ 0 → Settled before P rs' xs₀ ys n × Rooted xs₀ ys e
  up_done ey le =
      let z : i ≡ 0 = omega arith in
      both (
        record {
          stands = up.stands;
          shuffled = up.shuffled;
          ordered = λ q d. rise_end (sooner before rs d) (at (set xs i e)) n (subst (λ (k : ℕ). Rising (sooner before rs d) (at (set xs i e)) n k) z (up.loose q d));
        },
        inl (ap (λ (k : ℕ). at (set xs i e) k) (sym z) ∙ get_or-set_same xs i e no_entry (omega arith)),
      )
      ey

  -- whose parent is at p
  module _ (p : ℕ) {x : HeapEntry} (ch : Child p i) (ex : x ≡ at xs p) where
    less_is : (b : Bool) → ((d : Record K) → b ≡ sooner before rs d e x) → (d : Record K) → sooner before rs d e (at xs p) ≡ b
    less_is b less d = ap (λ (z : HeapEntry). sooner before rs d e z) (sym ex) ∙ sym (less d)

    pub up_broke : ys ≡ set xs i e → ((d : Record K) → false ≡ sooner before rs d e x) → Settled before P rs' xs₀ ys n × Rooted xs₀ ys e
    up_broke ey less =
        let here = get_or-set_same xs i e no_entry (omega arith) in
        let other = get_or-set_other xs i p e no_entry (omega arith) in
        both (
          record {
            stands = up.stands;
            shuffled = up.shuffled;
            ordered = λ q d. rise_stop (sooner before rs d) (at (set xs i e)) n i p ch (rw (here, other) (less_is false less d)) (up.loose q d);
          },
          inr (up.root (omega arith)),
        )
        ey

    up_step : Order before → ((d : Record K) → sooner before rs d e (at xs p) ≡ true) → Up before P rs xs₀ (set (set xs i (at xs p)) p e) n p
    up_step laws less =
        let here = get_or-set_same xs i e no_entry (omega arith) in
        let other = get_or-set_other xs i p e no_entry (omega arith) in
        let sw = set_swapped xs i p e (omega arith) (omega arith) (omega arith) in
        let sh = swap_shuffled (at (set xs i e)) (at (set (set xs i (at xs p)) p e)) n i p (omega arith) (omega arith) (omega arith) sw in
        record {
          inside = omega arith;
          stands = stands_shuffled _ _ n sh up.stands;
          shuffled = then_shuffled n (at xs₀) (at (set xs i e)) (at (set (set xs i (at xs p)) p e)) up.shuffled sh;
          loose = λ q d. rise_step (sooner before rs d) (sooner_weak before laws rs d) (at (set xs i e)) (at (set (set xs i (at xs p)) p e)) n i p sw ch (omega arith)
              (rw (here, other) (less d))
              (up.loose q d);
          root = λ h. sw.other 0 (omega arith) (omega arith) ∙ up.root (omega arith);
        }

    pub up_again : Order before → ys ≡ set xs i x → ((d : Record K) → true ≡ sooner before rs d e x) → Up before P rs' xs₀ (set ys p e) n p
    up_again laws ey less =
        let ey2 : ys ≡ set xs i (at xs p) = ey ∙ ap (λ (z : HeapEntry). set xs i z) ex in
        let s = up_step laws (less_is true less) in
        subst (λ (ss : List (Record K)). Up before P ss xs₀ (set ys p e) n p) (sym er) (subst (λ (zs : List HeapEntry). Up before P rs xs₀ (set zs p e) n p) (sym ey2) s)
