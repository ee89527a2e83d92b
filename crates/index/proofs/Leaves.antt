-- The record that leaves. Assumes nothing.
use Rattle.std.proofs.Common.{◌≡◌, ℕ, zero, suc, ◌<◌, ◌≤◌, Bool, false, eqb, List, [], ◌∷◌, length, get_or, sym, ap, ◌∙◌, ⊎_elim, arith}
use Rattle.std.specs.List.{remove}
use Rattle.std.proofs.lemmas.Bool.{both_ways, cond-true, cond-false, cases_lt, eq-eqb, ne_eqb}
use Rattle.places.specs.declared.place.Place.{Place}
use Rattle.counting.specs.declared.Record.{Record}
use Rattle.places.specs.Columns.{records, indices}
use Rattle.places.specs.Rows.{rows, Placed}
use Rattle.counting.specs.Rule.{Sorted, least_from, least, leave}
use Rattle.index.specs.Search.{Root}
use Rattle.index.proofs.Orders.{sorted_at}
use Rattle.index.proofs.Tables.{row_count, row_at, entry_low}

leave_at : {K : Type 0} (c : ℕ) (rs : List (Record K)) (r : ℕ) (d : Record K) → r < length rs → (get_or rs r d).ins ≡ c
    → ((i : ℕ) → i < r → c < (get_or rs i d).ins) → leave c rs ≡ remove rs r
leave_at c [] r d lt e h = absurd (omega arith)
leave_at c (q ∷ rs) zero d lt e h = cond-true (eqb q.ins c) rs (q ∷ leave c rs) (eq-eqb _ _ e)
leave_at c (q ∷ rs) (suc r) d lt e h =
    let n : eqb q.ins c ≡ false = ne_eqb q.ins c (λ z. omega (arith, h 0 (omega arith))) in
    cond-false (eqb q.ins c) rs (q ∷ leave c rs) n ∙ ap (λ l. q ∷ l) (leave_at c rs r d (omega arith) e (λ i l. h (suc i) (omega arith)))

-- least_from m is at most m and each count in, and is one of them
least_from_le : {K : Type 0} (m : ℕ) (rs : List (Record K)) → least_from m rs ≤ m
least_from_le m [] = omega arith
least_from_le m (r ∷ rs) = let ih = least_from_le m rs in omega arith

least_from_at : {K : Type 0} (m : ℕ) (rs : List (Record K)) (i : ℕ) (d : Record K) → i < length rs → least_from m rs ≤ (get_or rs i d).ins
least_from_at m [] i d lt = absurd (omega arith)
least_from_at m (r ∷ rs) zero d lt = omega arith
least_from_at m (r ∷ rs) (suc i) d lt = let ih = least_from_at m rs i d (omega arith) in omega arith

least_from_ge : {K : Type 0} (c m : ℕ) (rs : List (Record K)) (d : Record K) → c ≤ m → ((i : ℕ) → i < length rs → c ≤ (get_or rs i d).ins) → c ≤ least_from m rs
least_from_ge c m [] d le h = le
least_from_ge c m (r ∷ rs) d le h = let ih = least_from_ge c m rs d le (λ i lt. h (suc i) (omega arith)) in omega (arith, h 0 (omega arith))

pub least_is : {K : Type 0} (rs : List (Record K)) (k : ℕ) (d : Record K) → k < length rs → ((i : ℕ) → i < length rs → (get_or rs k d).ins ≤ (get_or rs i d).ins) → least rs ≡ (get_or rs k d).ins
least_is [] k d lt h = absurd (omega arith)
least_is (r ∷ rs) zero d lt h =
    let a = least_from_le r.ins rs in
    let b = least_from_ge r.ins r.ins rs d (omega arith) (λ i l. h (suc i) (omega arith)) in
    omega arith
least_is (r ∷ rs) (suc k) d lt h =
    let a = least_from_at r.ins rs k d (omega arith) in
    let b = least_from_ge (get_or rs k d).ins r.ins rs d (h 0 (omega arith)) (λ i l. h (suc i) (omega arith)) in
    omega arith

module _ {K : Type 0} (before : K → K → Bool) (t : List (Place K)) (used : ℕ) (room : used ≤ length t) (placed : Placed t used)
    (p k : ℕ) (lk : k < used) (at : get_or (indices t) k 0 ≡ p) (root : Root before (records t) used p) (d : Record K) where
  -- what the root is among the rows
  here : get_or (rows t used) k d ≡ get_or (records t) p d
  here = row_at t used room placed k lk d ∙ ap (λ i. get_or (records t) i d) at

  low : (i : ℕ) → i < used → (get_or (rows t used) k d).ins ≤ (get_or (rows t used) i d).ins
  low i lt =
      let a = ap (λ (r : Record K). r.ins) here in
      let b = ap (λ (r : Record K). r.ins) (row_at t used room placed i lt d) in
      omega (arith, root.least (get_or (indices t) i 0) d (entry_low t used room placed i lt))

  pub root_least : least (rows t used) ≡ (get_or (records t) p d).ins
  root_least =
      let n = row_count t used room placed in
      least_is (rows t used) k d (omega arith) (λ i lt. low i (omega arith)) ∙ ap (λ (r : Record K). r.ins) here

  pub root_leaves : Sorted before (rows t used) → leave (least (rows t used)) (rows t used) ≡ remove (rows t used) k
  root_leaves so =
      let n = row_count t used room placed in
      let le = least_is (rows t used) k d (omega arith) (λ i lt. low i (omega arith)) in
      leave_at (least (rows t used)) (rows t used) k d (omega arith) (sym le)
      (λ i lt.
      let li : i < used = omega arith in
      ⊎_elim
      (λ (l : (get_or (rows t used) k d).ins < (get_or (rows t used) i d).ins). omega arith)
      (λ (ge : (get_or (rows t used) i d).ins ≤ (get_or (rows t used) k d).ins).
      let q : ℕ = get_or (indices t) i 0 in
      let there : get_or (rows t used) i d ≡ get_or (records t) q d = row_at t used room placed i li d in
      let tie : (get_or (records t) q d).ins ≡ (get_or (records t) p d).ins =
      omega (arith, low i li, ap (λ (r : Record K). r.ins) here, ap (λ (r : Record K). r.ins) there) in
      absurd (both_ways _ (root.first q d (entry_low t used room placed i li) tie)
      (ap (λ (r : Record K). before r.key (get_or (records t) p d).key) (sym there)
      ∙ ap (λ (r : Record K). before (get_or (rows t used) i d).key r.key) (sym here)
      ∙ sorted_at before (rows t used) i k d so lt (omega arith))))
      (cases_lt (get_or (rows t used) k d).ins (get_or (rows t used) i d).ins))
