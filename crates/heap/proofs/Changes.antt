-- What a changed record leaves of the heap. Assumes nothing.
use Rattle.std.proofs.Common.{◌≡◌, ℕ, ◌<◌, ◌≤◌, Bool, ◌≢◌, List, length, get_or, set, sym, ap, ◌∙◌, subst, ⊎_elim, arith, get_or-set_other, get_or-set_same}
use lib.ListN.{length-map}
use lib.Seq.{map-set}
use Rattle.std.proofs.lemmas.Bool.{cases_eq}
use Rattle.std.proofs.lemmas.List.{set-get_or}
use Rattle.counting.specs.declared.Record.{Record}
use Rattle.places.specs.Columns.{at, counts}
use Rattle.heap.specs.Lazy.{lex, sooner, Seen, Seated, Sound, InHeap, Turning}
use Rattle.heap.proofs.Heaps.{order_turning}
use Rattle.places.specs.declared.place.HeapEntry.{HeapEntry}

counts_set : {K : Type 0} (rs : List (Record K)) (p : ℕ) (r : Record K) → counts (set rs p r) ≡ set (counts rs) p r.ins
counts_set rs p r = map-set (λ s. s.ins) rs p r

same_sooner : {K : Type 0} (before : K → K → Bool) (rs ss : List (Record K)) (d : Record K) (x y : HeapEntry)
    → (get_or ss x.place d).key ≡ (get_or rs x.place d).key → (get_or ss y.place d).key ≡ (get_or rs y.place d).key → sooner before ss d x y ≡ sooner before rs d x y
same_sooner {K} before rs ss d x y e f =
    ap (λ (k : K). lex x.weight y.weight (before k (get_or ss y.place d).key)) e ∙ ap (λ (k : K). lex x.weight y.weight (before (get_or rs x.place d).key k)) f

-- a greater count keeps every weight at or below
seen_set : {K : Type 0} (rs : List (Record K)) (xs : List HeapEntry) (n p : ℕ) (r : Record K) → p < length rs → get_or (counts rs) p 0 ≤ r.ins
    → Seen xs (counts rs) n → Seen xs (counts (set rs p r)) n
seen_set rs xs n p r fits le seen i l =
    let m : length (counts rs) ≡ length rs = length-map _ _ in
    let s = seen i l in
    subst (λ (cs : List ℕ). (at xs i).weight ≤ get_or cs (at xs i).place 0) (sym (counts_set rs p r))
    (⊎_elim
    (λ (e : (at xs i).place ≡ p).
    let a = ap (λ (k : ℕ). get_or (counts rs) k 0) e in
    let b = ap (λ (k : ℕ). get_or (set (counts rs) p r.ins) k 0) e ∙ get_or-set_same (counts rs) p r.ins 0 (omega arith) in
    omega arith)
    (λ (e : (at xs i).place ≢ p). let a = get_or-set_other (counts rs) p (at xs i).place r.ins 0 e in omega arith)
    (cases_eq (at xs i).place p))

pub changed_seated : {K : Type 0} (rs : List (Record K)) (xs : List HeapEntry) (n p : ℕ) (r : Record K) → p < length rs → get_or (counts rs) p 0 ≤ r.ins
    → Sound xs (counts rs) n → Seated xs (counts (set rs p r)) n
changed_seated rs xs n p r fits le sound = record { stands = sound.stands; seen = seen_set rs xs n p r fits le sound.seen }

pub same_key_order : {K : Type 0} (before : K → K → Bool) (rs : List (Record K)) (xs : List HeapEntry) (n p : ℕ) (r : Record K) → p < length rs
    → ((d : Record K) → r.key ≡ (get_or rs p d).key) → InHeap before xs rs n → InHeap before xs (set rs p r) n
same_key_order {K} before rs xs n p r fits same order d a j h jn =
    let keys : (q : ℕ) → (get_or (set rs p r) q d).key ≡ (get_or rs q d).key = λ q.
    ⊎_elim
    (λ (e : q ≡ p). ap (λ (k : ℕ). (get_or (set rs p r) k d).key) e ∙ ap (λ (s : Record K). s.key) (get_or-set_same rs p r d fits) ∙ same d ∙ ap (λ (k : ℕ). (get_or rs k d).key) (sym e))
    (λ (e : q ≢ p). ap (λ (s : Record K). s.key) (get_or-set_other rs p q r d e))
    (cases_eq q p) in
    same_sooner before rs (set rs p r) d (at xs j) (at xs a) (keys (at xs j).place) (keys (at xs a).place) ∙ order d a j h jn

-- the root's place has a record that came in more often, of any key
turning_root : {K : Type 0} (before : K → K → Bool) (rs : List (Record K)) (xs : List HeapEntry) (n p : ℕ) (r : Record K) → p < length rs → 0 < n
    → (at xs 0).place ≡ p → get_or (counts rs) p 0 < r.ins → Sound xs (counts rs) n → InHeap before xs rs n → Turning before xs (set rs p r) n
turning_root {K} before rs xs n p r fits some root lt sound order =
    let m : length (counts rs) ≡ length rs = length-map _ _ in
    let keys : (d : Record K) (i : ℕ) → i < n → i ≢ 0 → (get_or (set rs p r) (at xs i).place d).key ≡ (get_or rs (at xs i).place d).key = λ d i l ne.
    let away : (at xs i).place ≢ p = λ e. ne (sound.stands.once i 0 l some (e ∙ sym root)) in
    ap (λ (s : Record K). s.key) (get_or-set_other rs p (at xs i).place r d away) in (
      (λ d. record {
        rest = λ a j h jn ne. same_sooner before rs (set rs p r) d (at xs j) (at xs a) (keys d j jn (omega arith)) (keys d a (omega arith) ne) ∙ order d a j h jn;
        over = λ a j h k jn. absurd (omega arith);
      }),
      (λ e.
          let old = sound.exact some in
          let was = ap (λ (k : ℕ). get_or (counts rs) k 0) root in
          let new = ap (λ (cs : List ℕ). get_or cs (at xs 0).place 0) (counts_set rs p r) ∙ ap (λ (k : ℕ). get_or (set (counts rs) p r.ins) k 0) root ∙ get_or-set_same (counts rs) p r.ins 0 (omega arith) in
          absurd (omega arith)),
    )

pub changed_turning : {K : Type 0} (before : K → K → Bool) (rs : List (Record K)) (xs : List HeapEntry) (n p : ℕ) (r : Record K) → p < length rs → 0 < n
    → get_or (counts rs) p 0 < r.ins → ((d : Record K) → ((at xs 0).place ≡ p → ⊥) → r.key ≡ (get_or rs p d).key)
    → Sound xs (counts rs) n → InHeap before xs rs n → Turning before xs (set rs p r) n
changed_turning before rs xs n p r fits some lt same sound order =
    ⊎_elim
    (λ (e : (at xs 0).place ≡ p). turning_root before rs xs n p r fits some e lt sound order)
    (λ (e : (at xs 0).place ≢ p). order_turning before (set rs p r) xs n (same_key_order before rs xs n p r fits (λ d. same d e) order))
    (cases_eq (at xs 0).place p)

-- a record beyond the heap's places is no part of it
pub beyond_sound : {K : Type 0} (rs : List (Record K)) (xs : List HeapEntry) (n p : ℕ) (r : Record K) → n ≤ p
    → Sound xs (counts rs) n → Sound xs (counts (set rs p r)) n
beyond_sound rs xs n p r le sound =
    let same : (i : ℕ) → i < n → get_or (counts (set rs p r)) (at xs i).place 0 ≡ get_or (counts rs) (at xs i).place 0 = λ i l.
    let b = sound.stands.below i l in
    ap (λ (cs : List ℕ). get_or cs (at xs i).place 0) (counts_set rs p r) ∙ get_or-set_other (counts rs) p (at xs i).place r.ins 0 (omega arith) in
    record {
      stands = sound.stands;
      seen = λ i l. let e = same i l in let s = sound.seen i l in omega arith;
      exact = λ h. sound.exact h ∙ sym (same 0 h);
    }

pub beyond_order : {K : Type 0} (before : K → K → Bool) (rs : List (Record K)) (xs : List HeapEntry) (n p : ℕ) (r : Record K) → n ≤ p
    → Sound xs (counts rs) n → InHeap before xs rs n → InHeap before xs (set rs p r) n
beyond_order {K} before rs xs n p r le sound order d a j h jn =
    let keys : (i : ℕ) → i < n → (get_or (set rs p r) (at xs i).place d).key ≡ (get_or rs (at xs i).place d).key = λ i l.
    let b = sound.stands.below i l in
    ap (λ (s : Record K). s.key) (get_or-set_other rs p (at xs i).place r d (omega arith)) in
    same_sooner before rs (set rs p r) d (at xs j) (at xs a) (keys j jn) (keys a (omega arith)) ∙ order d a j h jn

-- a record whose count in is the same, whatever else it says
pub same_count_sound : {K : Type 0} (rs : List (Record K)) (xs : List HeapEntry) (n p : ℕ) (r : Record K) → p < length rs → r.ins ≡ get_or (counts rs) p 0
    → Sound xs (counts rs) n → Sound xs (counts (set rs p r)) n
same_count_sound rs xs n p r fits same sound =
    let e : counts (set rs p r) ≡ counts rs = counts_set rs p r ∙ ap (λ (c : ℕ). set (counts rs) p c) same ∙ set-get_or (counts rs) p 0 in
    subst (λ (cs : List ℕ). Sound xs cs n) (sym e) sound

-- an empty heap
pub opened_sound : (xs : List HeapEntry) (cs : List ℕ) → Sound xs cs 0
opened_sound xs cs = record {
  stands = record { below = λ i l. absurd (omega arith); once = λ i j li lj e. absurd (omega arith) };
  seen = λ i l. absurd (omega arith);
  exact = λ l. absurd (omega arith);
}

pub opened_order : {K : Type 0} (before : K → K → Bool) (xs : List HeapEntry) (rs : List (Record K)) → InHeap before xs rs 0
opened_order before xs rs d a j h l = absurd (omega arith)
