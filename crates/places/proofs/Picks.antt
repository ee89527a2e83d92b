-- Elements picked by a list of places. Assumes nothing.
use Rattle.std.proofs.Common.{◌≡◌, ℕ, zero, suc, ◌+◌, ◌<◌, ◌≤◌, cond, eqb, ltb, List, [], ◌∷◌, ◌++◌, length, get_or, take, drop, set, sym, refl, ap, ◌∙◌, subst, ⊎_elim, append_assoc, arith}
use Rattle.std.specs.List.{insert, remove, AllByRecursion}
use Rattle.std.proofs.ByRecursion.{All-weaker, All-get_or, All-append, All-take, All-drop}
use Rattle.std.proofs.lemmas.List.{length-append, length-set, get_or-set_same}
use Rattle.std.proofs.lemmas.Bool.{cond-true, cond-false, cases_eq, cases_lt, eq-eqb, ne_eqb, lt-ltb, le-ltb}
use Rattle.places.specs.Rows.{picked, times, Perm}

-- one place

pub one_in : {X : Type 0} (xs : List X) (i : ℕ) (d : X) → i < length xs → take 1 (drop i xs) ≡ get_or xs i d ∷ []
one_in [] i d lt = absurd (omega arith)
one_in (x ∷ xs) zero d lt = refl
one_in (x ∷ xs) (suc i) d lt = one_in xs i d (omega arith)

pub one_length : {X : Type 0} (xs : List X) (i : ℕ) → i < length xs → length (take 1 (drop i xs)) ≡ 1
one_length [] i lt = absurd (omega arith)
one_length (x ∷ xs) zero lt = refl
one_length (x ∷ xs) (suc i) lt = one_length xs i (omega arith)

pub one_other : {X : Type 0} (xs : List X) (p i : ℕ) (v : X) → (i ≡ p → ⊥) → take 1 (drop i (set xs p v)) ≡ take 1 (drop i xs)
one_other [] p i v ne = refl
one_other (x ∷ xs) zero zero v ne = absurd (ne refl)
one_other (x ∷ xs) zero (suc i) v ne = refl
one_other (x ∷ xs) (suc p) zero v ne = refl
one_other (x ∷ xs) (suc p) (suc i) v ne = one_other xs p i v (λ e. ne (ap suc e))

-- a list of places

abbrev pub In : ℕ → List ℕ → Type 0
In n is = AllByRecursion (λ i. i < n) is

module _ {X : Type 0} (xs : List X) where
  pub picked_append : (is js : List ℕ) → picked xs (is ++ js) ≡ picked xs is ++ picked xs js
  picked_append [] js = refl
  picked_append (i ∷ is) js = ap (λ l. take 1 (drop i xs) ++ l) (picked_append is js) ∙ sym (append_assoc (take 1 (drop i xs)) (picked xs is) (picked xs js))

  pub picked_cons : (i : ℕ) (is : List ℕ) (d : X) → i < length xs → picked xs (i ∷ is) ≡ get_or xs i d ∷ picked xs is
  picked_cons i is d lt = ap (λ l. l ++ picked xs is) (one_in xs i d lt)

  pub length_picked : (is : List ℕ) → In (length xs) is → length (picked xs is) ≡ length is
  length_picked [] h = refl
  length_picked (i ∷ is) h = omega (arith, length-append (take 1 (drop i xs)) (picked xs is), one_length xs i h.0, length_picked is h.1)

  pub get_d_picked : (is : List ℕ) (k : ℕ) (d : X) → In (length xs) is → k < length is → get_or (picked xs is) k d ≡ get_or xs (get_or is k 0) d
  get_d_picked [] k d h lt = absurd (omega arith)
  get_d_picked (i ∷ is) zero d h lt = ap (λ l. get_or l 0 d) (picked_cons i is d h.0)
  get_d_picked (i ∷ is) (suc k) d h lt = ap (λ l. get_or l (suc k) d) (picked_cons i is d h.0) ∙ get_d_picked is k d h.1 (omega arith)

  pub take_picked : (d : X) (n : ℕ) (is : List ℕ) → In (length xs) is → take n (picked xs is) ≡ picked xs (take n is)
  take_picked d zero is h = refl
  take_picked d (suc n) [] h = refl
  take_picked d (suc n) (i ∷ is) h =
      ap (take (suc n)) (picked_cons i is d h.0) ∙ ap (λ l. get_or xs i d ∷ l) (take_picked d n is h.1) ∙ sym (picked_cons i (take n is) d h.0)

  pub drop_picked : (d : X) (n : ℕ) (is : List ℕ) → In (length xs) is → drop n (picked xs is) ≡ picked xs (drop n is)
  drop_picked d zero is h = refl
  drop_picked d (suc n) [] h = refl
  drop_picked d (suc n) (i ∷ is) h = ap (drop (suc n)) (picked_cons i is d h.0) ∙ drop_picked d n is h.1

  pub picked_removed : (d : X) (is : List ℕ) (k : ℕ) → In (length xs) is → picked xs (remove is k) ≡ remove (picked xs is) k
  picked_removed d is k h =
      picked_append (take k is) (drop (suc k) is)
      ∙ ap (λ l. l ++ picked xs (drop (suc k) is)) (sym (take_picked d k is h))
      ∙ ap (λ l. take k (picked xs is) ++ l) (sym (drop_picked d (suc k) is h))

  pub picked_inserted : (d : X) (is : List ℕ) (k i : ℕ) → In (length xs) is → i < length xs → picked xs (insert is k i) ≡ insert (picked xs is) k (get_or xs i d)
  picked_inserted d is k i h lt =
      picked_append (take k is) (i ∷ drop k is)
      ∙ ap (λ l. picked xs (take k is) ++ l) (picked_cons i (drop k is) d lt ∙ ap (λ l. get_or xs i d ∷ l) (sym (drop_picked d k is h)))
      ∙ ap (λ l. l ++ get_or xs i d ∷ drop k (picked xs is)) (sym (take_picked d k is h))

-- how often

abbrev pub hit : ℕ → ℕ → ℕ
hit i p = cond (eqb i p) 1 0

pub times_append : (p : ℕ) (is js : List ℕ) → times p (is ++ js) ≡ times p is + times p js
times_append p [] js = omega arith
times_append p (i ∷ is) js = omega (arith, times_append p is js)

pub times_inserted : (p : ℕ) (is : List ℕ) (k i : ℕ) → times p (insert is k i) ≡ hit i p + times p is
times_inserted p [] zero i = refl
times_inserted p [] (suc k) i = refl
times_inserted p (j ∷ is) zero i = refl
times_inserted p (j ∷ is) (suc k) i = omega (arith, times_inserted p is k i)

pub times_removed : (p : ℕ) (is : List ℕ) (k : ℕ) → k < length is → times p is ≡ hit (get_or is k 0) p + times p (remove is k)
times_removed p [] k lt = absurd (omega arith)
times_removed p (j ∷ is) zero lt = refl
times_removed p (j ∷ is) (suc k) lt = omega (arith, times_removed p is k (omega arith))

pub hit_same : (p : ℕ) → hit p p ≡ 1
hit_same p = cond-true (eqb p p) 1 0 (eq-eqb p p refl)

pub hit_other : (i p : ℕ) → (i ≡ p → ⊥) → hit i p ≡ 0
hit_other i p ne = cond-false (eqb i p) 1 0 (ne_eqb i p ne)

abbrev pub low : ℕ → ℕ → ℕ
low p n = cond (ltb p n) 1 0

pub is_low : (p n : ℕ) → p < n → low p n ≡ 1
is_low p n lt = cond-true (ltb p n) 1 0 (lt-ltb p n lt)

pub not_low : (p n : ℕ) → n ≤ p → low p n ≡ 0
not_low p n le = cond-false (ltb p n) 1 0 (le-ltb p n le)

pub picked_other : {X : Type 0} (xs : List X) (p : ℕ) (v : X) (is : List ℕ) → times p is ≡ 0 → picked (set xs p v) is ≡ picked xs is
picked_other xs p v [] h = refl
picked_other xs p v (i ∷ is) h =
    let ne : i ≡ p → ⊥ = λ e. omega (arith, subst (λ z. hit z p ≡ 1) (sym e) (hit_same p)) in
    ap (λ l. l ++ picked (set xs p v) is) (one_other xs p i v ne) ∙ ap (λ l. take 1 (drop i xs) ++ l) (picked_other xs p v is (omega arith))

-- each number below n once

in_from : (n : ℕ) (is : List ℕ) → ((p : ℕ) → 0 < times p is → p < n) → In n is
in_from n [] h = tt
in_from n (i ∷ is) h = (h i (omega (arith, hit_same i)), in_from n is (λ p lt. h p (omega arith)))

pub where_is : (p : ℕ) (is : List ℕ) → 0 < times p is → (k : ℕ) × (k < length is) × (get_or is k 0 ≡ p)
where_is p [] h = absurd (omega arith)
where_is p (i ∷ is) h =
    ⊎_elim
    (λ (e : i ≡ p). (0, omega arith, e))
    (λ (ne : i ≡ p → ⊥). let w = where_is p is (omega (arith, hit_other i p ne)) in (suc w.0, omega (arith, w.1), w.2))
    (cases_eq i p)

has_times : (p : ℕ) (is : List ℕ) (k : ℕ) → k < length is → get_or is k 0 ≡ p → 0 < times p is
has_times p [] k lt e = absurd (omega arith)
has_times p (i ∷ is) zero lt e = omega (arith, subst (λ z. hit z p ≡ 1) (sym e) (hit_same p))
has_times p (i ∷ is) (suc k) lt e = omega (arith, has_times p is k (omega arith) e)

once_at : (p : ℕ) (is : List ℕ) → times p is ≤ 1 → (j k : ℕ) → j < length is → k < length is → get_or is j 0 ≡ p → get_or is k 0 ≡ p → j ≡ k
once_at p [] h j k lj lk ej ek = absurd (omega arith)
once_at p (i ∷ is) h zero zero lj lk ej ek = refl
once_at p (i ∷ is) h zero (suc k) lj lk ej ek = absurd (omega (arith, subst (λ z. hit z p ≡ 1) (sym ej) (hit_same p), has_times p is k (omega arith) ek))
once_at p (i ∷ is) h (suc j) zero lj lk ej ek = absurd (omega (arith, subst (λ z. hit z p ≡ 1) (sym ek) (hit_same p), has_times p is j (omega arith) ej))
once_at p (i ∷ is) h (suc j) (suc k) lj lk ej ek = ap suc (once_at p is (omega arith) j k (omega arith) (omega arith) ej ek)

module _ (n : ℕ) (is : List ℕ) (perm : Perm n is) where
  pub perm_once : (p : ℕ) → p < n → times p is ≡ 1
  perm_once p lt = perm p ∙ is_low p n lt

  pub perm_none : (p : ℕ) → n ≤ p → times p is ≡ 0
  perm_none p le = perm p ∙ not_low p n le

  pub perm_in : In n is
  perm_in = in_from n is (λ p lt. ⊎_elim (λ (l : p < n). l) (λ (ge : n ≤ p). absurd (omega (arith, perm_none p ge))) (cases_lt p n))

  pub perm_where : (p : ℕ) → p < n → (k : ℕ) × (k < length is) × (get_or is k 0 ≡ p)
  perm_where p lt = where_is p is (omega (arith, perm_once p lt))

  pub perm_apart : (j k : ℕ) → j < length is → k < length is → get_or is j 0 ≡ get_or is k 0 → j ≡ k
  perm_apart j k lj lk e =
      once_at (get_or is k 0) is (omega (arith, perm_once (get_or is k 0) (All-get_or (λ i. i < n) is k 0 lk perm_in))) j k lj lk e refl

  pub perm_append : (k : ℕ) → Perm (n + 1) (insert is k n)
  perm_append k p =
      ⊎_elim
      (λ (e : n ≡ p).
      times_inserted p is k n ∙ subst (λ z. hit n z + times z is ≡ cond (ltb z (n + 1)) 1 0) e
      (let a = perm_none n (omega arith) in let b = hit_same n in let c = is_low n (n + 1) (omega arith) in omega arith))
      (λ (ne : n ≡ p → ⊥).
      let a = hit_other n p ne in
      times_inserted p is k n ∙
      ⊎_elim
      (λ (l : p < n). let b = perm_once p l in let c = is_low p (n + 1) (omega arith) in omega arith)
      (λ (ge : n ≤ p). let b = perm_none p ge in let c = not_low p (n + 1) (omega (arith, ne)) in omega arith)
      (cases_lt p n))
      (cases_eq n p)

  pub perm_moved : (a b : ℕ) → a < length is → Perm n (insert (remove is a) b (get_or is a 0))
  perm_moved a b lt p = times_inserted p (remove is a) b (get_or is a 0) ∙ sym (times_removed p is a lt) ∙ perm p

-- a new element at one place, whose entry goes from a to b

module _ {X : Type 0} (xs : List X) (n : ℕ) (is : List ℕ) (perm : Perm n is) (fits : n ≤ length xs) where
  inside : In (length xs) is
  inside = All-weaker (λ i. i < n) (λ i. i < length xs) (λ i lt. omega arith) is (perm_in n is perm)

  pub rows_length : length (picked xs is) ≡ length is
  rows_length = length_picked xs is inside

  pub rows_at : (k : ℕ) (d : X) → k < length is → get_or (picked xs is) k d ≡ get_or xs (get_or is k 0) d
  rows_at k d lt = get_d_picked xs is k d inside lt

  pub rows_entry : (k : ℕ) → k < length is → get_or is k 0 < n
  rows_entry k lt = All-get_or (λ i. i < n) is k 0 lt (perm_in n is perm)

  pub rows_append : (k : ℕ) (v : X) → n < length xs → picked (set xs n v) (insert is k n) ≡ insert (picked xs is) k v
  rows_append k v lt =
      let long = length-set xs n v in
      picked_inserted (set xs n v) v is k n (subst (λ m. In m is) (sym long) inside) (omega arith)
      ∙ ap (λ l. insert l k (get_or (set xs n v) n v)) (picked_other xs n v is (perm_none n is perm n (omega arith)))
      ∙ ap (insert (picked xs is) k) (get_or-set_same xs n v v lt)

  pub rows_replace : (a b : ℕ) (v : X) → a < length is → picked (set xs (get_or is a 0) v) (insert (remove is a) b (get_or is a 0)) ≡ insert (remove (picked xs is) a) b v
  rows_replace a b v lt =
      let p : ℕ = get_or is a 0 in
      let low : p < n = rows_entry a lt in
      let long = length-set xs p v in
      let gone : times p (remove is a) ≡ 0 = omega (arith, times_removed p is a lt, hit_same p, perm_once n is perm p low) in
      let rest : In (length xs) (remove is a) = All-append (λ i. i < length xs) (take a is) (drop (suc a) is) (All-take (λ i. i < length xs) a is inside) (All-drop (λ i. i < length xs) (suc a) is inside) in
      picked_inserted (set xs p v) v (remove is a) b p (subst (λ m. In m (remove is a)) (sym long) rest) (omega arith)
      ∙ ap (λ l. insert l b (get_or (set xs p v) p v)) (picked_other xs p v (remove is a) gone ∙ picked_removed xs v is a inside)
      ∙ ap (insert (remove (picked xs is) a) b) (get_or-set_same xs p v v (omega arith))
