-- Moving one element of a list, step by step. Assumes nothing.
use Rattle.std.proofs.Common.{◌≡◌, ℕ, zero, suc, ◌+◌, ◌<◌, ◌≤◌, ◌≢◌, List, [], ◌∷◌, length, get_or, take, set, sym, refl, ap, ◌∙◌, subst, arith}
use Rattle.std.specs.List.{insert, remove}
use Rattle.std.proofs.lemmas.List.{set-set, set-get_or, get_or-set_same, get_or-set_other}
use Rattle.places.specs.Rows.{moved}

pub put_back : {X : Type 0} (xs : List X) (k : ℕ) (v : X) → k < length xs → insert (remove xs k) k v ≡ set xs k v
put_back [] k v lt = absurd (omega arith)
put_back (x ∷ xs) zero v lt = refl
put_back (x ∷ xs) (suc k) v lt = ap (λ l. x ∷ l) (put_back xs k v (omega arith))

-- the hole goes one place up
pub step_up : {X : Type 0} (ys : List X) (j : ℕ) (p d : X) → j < length ys
    → set (set (insert ys j p) j (get_or (insert ys j p) (suc j) d)) (suc j) p ≡ insert ys (suc j) p
step_up [] j p d lt = absurd (omega arith)
step_up (y ∷ ys) zero p d lt = refl
step_up (y ∷ ys) (suc j) p d lt = ap (λ l. y ∷ l) (step_up ys j p d (omega arith))

-- the hole goes one place down
pub step_down : {X : Type 0} (ys : List X) (j : ℕ) (p d : X) → j < length ys
    → set (set (insert ys (suc j) p) (suc j) (get_or (insert ys (suc j) p) j d)) j p ≡ insert ys j p
step_down [] j p d lt = absurd (omega arith)
step_down (y ∷ ys) zero p d lt = refl
step_down (y ∷ ys) (suc j) p d lt = ap (λ l. y ∷ l) (step_down ys j p d (omega arith))

pub take_removed : {X : Type 0} (n : ℕ) (xs : List X) (a : ℕ) → a ≤ n → take n (remove xs a) ≡ remove (take (suc n) xs) a
take_removed zero [] zero le = refl
take_removed zero (x ∷ xs) zero le = refl
take_removed zero xs (suc a) le = absurd (omega arith)
take_removed (suc n) [] zero le = refl
take_removed (suc n) [] (suc a) le = refl
take_removed (suc n) (x ∷ xs) zero le = refl
take_removed (suc n) (x ∷ xs) (suc a) le = ap (λ l. x ∷ l) (take_removed n xs a (omega arith))

pub take_inserted : {X : Type 0} (n : ℕ) (xs : List X) (b : ℕ) (v : X) → b ≤ n → take (suc n) (insert xs b v) ≡ insert (take n xs) b v
take_inserted n xs zero v le = refl
take_inserted zero xs (suc b) v le = absurd (omega arith)
take_inserted (suc n) [] (suc b) v le = refl
take_inserted (suc n) (x ∷ xs) (suc b) v le = ap (λ l. x ∷ l) (take_inserted n xs b v (omega arith))

pub take_moved : {X : Type 0} (n : ℕ) (xs : List X) (a b : ℕ) (v : X) → a < n → b < n → take n (insert (remove xs a) b v) ≡ insert (remove (take n xs) a) b v
take_moved zero xs a b v la lb = absurd (omega arith)
take_moved (suc n) xs a b v la lb = take_inserted n (remove xs a) b v (omega arith) ∙ ap (λ l. insert l b v) (take_removed n xs a (omega arith))

-- a gap at i that would take p: one step of it, by one write
module _ (now' ys : List ℕ) (i k p : ℕ) (h : set now' i p ≡ insert ys i p) where
  shifted : (k ≢ i) → set (set now' i (get_or now' k 0)) k p ≡ set (set (insert ys i p) i (get_or (insert ys i p) k 0)) k p
  shifted ne =
      let v : ℕ = get_or now' k 0 in
      let e : v ≡ get_or (insert ys i p) k 0 = sym (get_or-set_other now' i k p 0 ne) ∙ ap (λ l. get_or l k 0) h in
      ap (λ l. set l k p) (sym (set-set now' i p v) ∙ ap (λ l. set l i v) h ∙ ap (set (insert ys i p) i) e)

  pub gap_up : k ≡ suc i → i < length ys → set (set now' i (get_or now' k 0)) k p ≡ insert ys k p
  gap_up e lt = shifted (λ z. omega arith) ∙ subst (λ n. set (set (insert ys i p) i (get_or (insert ys i p) n 0)) n p ≡ insert ys n p) (sym e) (step_up ys i p 0 lt)

  pub gap_down : i ≡ suc k → k < length ys → set (set now' i (get_or now' k 0)) k p ≡ insert ys k p
  gap_down e lt = shifted (λ z. omega arith) ∙ subst (λ n. set (set (insert ys n p) n (get_or (insert ys n p) k 0)) k p ≡ insert ys k p) (sym e) (step_down ys k p 0 lt)

pub gap_start : (xs : List ℕ) (i p : ℕ) → i < length xs → set xs i p ≡ insert (remove xs i) i p
gap_start xs i p lt = sym (put_back xs i p lt)

pub same_place : (xs : List ℕ) (k : ℕ) → k < length xs → moved xs k k ≡ xs
same_place xs k lt = put_back xs k (get_or xs k 0) lt ∙ set-get_or xs k 0

front_kept : (xs : List ℕ) (n v : ℕ) → take n (remove (set xs n v) n) ≡ take n xs
front_kept xs zero v = refl
front_kept [] (suc n) v = refl
front_kept (x ∷ xs) (suc n) v = ap (λ l. x ∷ l) (front_kept xs n v)

pub take_append : (xs : List ℕ) (n b : ℕ) → n < length xs → b ≤ n → take (n + 1) (moved (set xs n n) n b) ≡ insert (take n xs) b n
take_append xs n b lt le =
    let e : n + 1 ≡ suc n = omega arith in
    ap (λ m. take m (moved (set xs n n) n b)) e
    ∙ take_inserted n (remove (set xs n n) n) b (get_or (set xs n n) n 0) le
    ∙ ap (λ l. insert l b (get_or (set xs n n) n 0)) (front_kept xs n n)
    ∙ ap (insert (take n xs) b) (get_or-set_same xs n n 0 lt)
