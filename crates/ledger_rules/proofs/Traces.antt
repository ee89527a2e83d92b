-- Every list of calls on a ledger is a list of puts and takes on its book, with the same tallies. Assumes nothing.
use Rattle.std.proofs.Common.{◌≡◌, ℕ, zero, suc, ◌+◌, ◌*◌, ◌≤◌, Bool, true, false, cond, eqb, List, [], ◌∷◌, length, take, Ok, Err, Result, sym, refl, ap, ◌∙◌, subst, mul-le-mul_left, arith}
use Rattle.std.proofs.lemmas.Bool.{cond-false, ltb-false}
use Rattle.refusals.specs.declared.Refusal.{Refusal}
use Rattle.refusals.specs.declared.Refusal.TheVariants.{Share, Absent, Full}
use Rattle.refusals.specs.declared.Fault.{Fault}
use Rattle.refusals.specs.declared.Fault.TheVariants.{Frame, Sample}
use Rattle.keys.specs.declared.key.Key.{Ghosts}
use Rattle.counting.specs.Book.{Book, Answer, Put, Taken, bounds, put_answer, put_done, take_answer, take_done}
use Rattle.counting.specs.Runs.{accepted, puts, takes, put_of, take_of, then_put, then_take}
use Rattle.counting.specs.Runs as book
use Rattle.frames.specs.declared.head.Change.{Change}
use Rattle.frames.specs.declared.head.Change.TheVariants.{Added, Retracted}
use Rattle.frames.specs.Heads.{both}
use Rattle.frames.specs.Keys.{keys_of}
use Rattle.ledger_rules.specs.Ledgers.{Ledger, Fresh, adds, over_share, answer_to, changed, after, feed_keys, fed_by, feed_of}
use Rattle.ledger_rules.specs.Tallies.{Event, change_event, feed_event, same_change, taken_of, taken_by, keys_taken, occurs, tally, total, NeverShort, Step, Run, from_opening, then_call}

-- an answer that is no refusal
passed : {X : Type 0} (b : Bool) (r : Result X Refusal) (e : Refusal) (x : X) → cond b (Err e) r ≡ Ok x → (b ≡ false) × (r ≡ Ok x)
passed true r e x h = let z : ◌≡◌ {A = ℕ} 0 1 = cc in absurd (omega arith)
passed false r e x h = (refl, h)

module _ {K : Type 0} (before : K → K → Bool) (b : Book K) (x : K) where
  put_ok : put_answer b ≡ Ok tt → Put before b x (Ok tt) (put_done before b x)
  put_ok h = record { answer = sym h; after = sym (cond-false (eqb b.total b.limit) b (put_done before b x) (passed (eqb b.total b.limit) (Ok tt) Full tt h).0) }

  take_ok : take_answer before b x ≡ Ok tt → Taken before b x (Ok tt) (take_done before b x)
  take_ok h = record {
    answer = sym h;
    after = sym (cond-false (eqb (bounds before b x).1 0) b (take_done before b x) (passed (eqb (bounds before b x).1 0) (Ok tt) Absent tt h).0);
  }

-- puts and takes that led to the book of a ledger within its share
pub record Trace {K : Type 0} (before : K → K → Bool) (bes : List (book.Event K)) (l : Ledger K) : Type 0 where
  pub run : book.Run before bes l.book
  pub share : 1000 * l.retracts ≤ l.share * adds l
  pub small : l.share ≤ 999

-- from bes and l the keys more were added and the keys less were retracted, which leaves bes' and m
pub record More {K : Type 0} (before : K → K → Bool) (more less : List K) (bes : List (book.Event K)) (l : Ledger K) (bes' : List (book.Event K)) (m : Ledger K) : Type 0 where
  pub trace : Trace before bes' m
  pub put : (x : K) → puts before x bes' ≡ occurs before x more + puts before x bes
  pub taken : (x : K) → takes before x bes' ≡ occurs before x less + takes before x bes
  pub adds : adds m ≡ length more + adds l
  pub retracts : m.retracts ≡ length less + l.retracts
  pub fair : (x : K) → book.NeverShort before x bes → takes before x bes' ≤ puts before x bes' → book.NeverShort before x bes'

-- the keys of a change c that are of the change d: all or none
abbrev of : {K : Type 0} → Change → Change → List K → List K
of d c ks = cond (same_change d c) ks []

-- ys are those of xs that a feed took, which had taken n before
abbrev Cut : {K : Type 0} → ℕ → Result ℕ Fault → List K → List K → Type 0
Cut n (Ok m) xs ys = xs ≡ ys
Cut n (Err (Frame e)) xs ys = ⊥
Cut n (Err (Sample e i t)) xs ys = (j : ℕ) × (i ≡ n + j) × (take j xs ≡ ys)

cut_taken : {K : Type 0} (a : Result ℕ Fault) (xs ys : List K) → Cut 0 a xs ys → taken_of a xs ≡ ys
cut_taken (Ok m) xs ys h = h
cut_taken (Err (Frame e)) xs ys h = absurd h
cut_taken (Err (Sample e i t)) xs ys h = let q : i ≡ h.0 = omega (arith, h.1) in ap (λ k. take k xs) q ∙ h.2

cut_more : {K : Type 0} (a : Result ℕ Fault) (n : ℕ) (x : K) (xs ys : List K) → Cut (n + 1) a xs ys → Cut n a (x ∷ xs) (x ∷ ys)
cut_more (Ok m) n x xs ys h = ap (λ l. x ∷ l) h
cut_more (Err (Frame e)) n x xs ys h = absurd h
cut_more (Err (Sample e i t)) n x xs ys h = (suc h.0, omega (arith, h.1), ap (λ l. x ∷ l) h.2)

module _ {K : Type 0} (before : K → K → Bool) where
  fair_more : (x : K) (e : book.Event K) (bes : List (book.Event K)) → book.NeverShort before x bes → takes before x (e ∷ bes) ≤ puts before x (e ∷ bes) → book.NeverShort before x (e ∷ bes)
  fair_more x e bes fair le zero = le
  fair_more x e bes fair le (suc n) = fair n

  never_short : (x : K) → book.NeverShort before x []
  never_short x zero = omega arith
  never_short x (suc n) = omega arith

  event_of : Change → K → book.Event K
  event_of Added x = put_of x (Ok tt)
  event_of Retracted x = take_of x (Ok tt)

  stay : (c : Change) (bes : List (book.Event K)) (l : Ledger K) → Trace before bes l → More before (of Added c []) (of Retracted c []) bes l bes l
  stay Added bes l t = record { trace = t; put = λ x. omega arith; taken = λ x. omega arith; adds = omega arith; retracts = omega arith; fair = λ x f _. f }
  stay Retracted bes l t = record { trace = t; put = λ x. omega arith; taken = λ x. omega arith; adds = omega arith; retracts = omega arith; fair = λ x f _. f }

  -- an accepted add or retract
  one : (c : Change) (x : K) (bes : List (book.Event K)) (l : Ledger K) → Trace before bes l → answer_to before l c x ≡ Ok tt
      → More before (of Added c (x ∷ [])) (of Retracted c (x ∷ [])) bes l (event_of c x ∷ bes) (changed before l c x)
  unfolding event_of
  one Added x bes l t h = record {
    trace = record {
      run = then_put t.run (put_ok before l.book x h);
      share = omega (arith, t.share, mul-le-mul_left {m = adds l} {n = adds l + 1} l.share (omega arith));
      small = t.small;
    };
    put = λ y. omega arith;
    taken = λ y. omega arith;
    adds = omega arith;
    retracts = omega arith;
    fair = λ y. fair_more y _ bes;
  }
  one Retracted x bes l t h =
      let p = passed (over_share l) (take_answer before l.book x) Share tt h in
      record {
        trace = record {
          run = then_take t.run (take_ok before l.book x p.1);
          share = ltb-false _ _ p.0;
          small = t.small;
        };
        put = λ y. omega arith;
        taken = λ y. omega arith;
        adds = omega arith;
        retracts = omega arith;
        fair = λ y. fair_more y _ bes;
      }

  -- one key and then others of the same change
  both_more : (c : Change) (x : K) (ys : List K) (bes bes' bes'' : List (book.Event K)) (l m n : Ledger K)
      → More before (of Added c (x ∷ [])) (of Retracted c (x ∷ [])) bes l bes' m → More before (of Added c ys) (of Retracted c ys) bes' m bes'' n
      → More before (of Added c (x ∷ ys)) (of Retracted c (x ∷ ys)) bes l bes'' n
  both_more Added x ys bes bes' bes'' l m n p q = record {
    trace = q.trace;
    put = λ y. omega (arith, p.put y, q.put y);
    taken = λ y. omega (arith, p.taken y, q.taken y);
    adds = omega (arith, p.adds, q.adds);
    retracts = omega (arith, p.retracts, q.retracts);
    fair = λ y f le. q.fair y (p.fair y f (omega (arith, f 0, p.put y, p.taken y))) le;
  }
  both_more Retracted x ys bes bes' bes'' l m n p q = record {
    trace = q.trace;
    put = λ y. omega (arith, p.put y, q.put y);
    taken = λ y. omega (arith, p.taken y, q.taken y);
    adds = omega (arith, p.adds, q.adds);
    retracts = omega (arith, p.retracts, q.retracts);
    fair = λ y f le. q.fair y (p.fair y f (omega (arith, q.put y, q.taken y))) le;
  }

  -- a feed of keys took some of them
  record Fed (c : Change) (xs : List K) (n : ℕ) (bes : List (book.Event K)) (l : Ledger K) (out : Result ℕ Fault × Ledger K) : Type 0 where
    ys : List K
    bes' : List (book.Event K)
    cut : Cut n out.0 xs ys
    more : More before (of Added c ys) (of Retracted c ys) bes l bes' out.1

  fed_by_answer : (c : Change) (x : K) (xs : List K) (n : ℕ) (bes : List (book.Event K)) (l : Ledger K) → Trace before bes l
      → (out : Result ℕ Fault × Ledger K) → (Trace before (event_of c x ∷ bes) (changed before l c x) → Fed c xs (n + 1) (event_of c x ∷ bes) (changed before l c x) out)
      → (a : Answer) → answer_to before l c x ≡ a
      → Fed c (x ∷ xs) n bes l (elim a [ Ok _ ↦ out | Err e ↦ (Err (Sample e n n), l) ])
  fed_by_answer c x xs n bes l t out rest (Ok u) h =
      let p = one c x bes l t h in
      let q = rest p.trace in
      record {
        ys = x ∷ q.ys;
        bes' = q.bes';
        cut = cut_more out.0 n x xs q.ys q.cut;
        more = both_more c x q.ys bes (event_of c x ∷ bes) q.bes' l (changed before l c x) out.1 p q.more;
      }
  fed_by_answer c x xs n bes l t out rest (Err e) h = record { ys = []; bes' = bes; cut = (0, omega arith, refl); more = stay c bes l t }

  fed : (c : Change) (xs : List K) (n : ℕ) (bes : List (book.Event K)) (l : Ledger K) → Trace before bes l → Fed c xs n bes l (feed_keys before l c xs n)
  fed c [] n bes l t = record { ys = []; bes' = bes; cut = refl; more = stay c bes l t }
  fed c (x ∷ xs) n bes l t =
      fed_by_answer c x xs n bes l t (feed_keys before (changed before l c x) c xs (n + 1)) (fed c xs (n + 1) (event_of c x ∷ bes) (changed before l c x)) (answer_to before l c x) refl

module _ {K : Type 0} (G : Ghosts K) where
  -- what a call leaves, of the trace before it
  record Called (e : Event K) (bes : List (book.Event K)) (l m : Ledger K) : Type 0 where
    bes' : List (book.Event K)
    more : More G.before (keys_taken G Added e) (keys_taken G Retracted e) bes l bes' m

  changes : (c : Change) (x : K) (bes : List (book.Event K)) (l : Ledger K) → Trace G.before bes l → (a : Answer) → answer_to G.before l c x ≡ a
      → Called (change_event c x a) bes l (cond (accepted a) (changed G.before l c x) l)
  changes Added x bes l t (Ok u) h = record { bes' = _; more = one G.before Added x bes l t h }
  changes Retracted x bes l t (Ok u) h = record { bes' = _; more = one G.before Retracted x bes l t h }
  changes Added x bes l t (Err e) h = record { bes' = bes; more = stay G.before Added bes l t }
  changes Retracted x bes l t (Err e) h = record { bes' = bes; more = stay G.before Retracted bes l t }

  feeds : (k : Result (Change × List K) Refusal) (bes : List (book.Event K)) (l : Ledger K) → Trace G.before bes l
      → (bes' : List (book.Event K)) × More G.before (taken_by Added (fed_by G.before l k).0 k) (taken_by Retracted (fed_by G.before l k).0 k) bes l bes' (fed_by G.before l k).1
  feeds (Err e) bes l t = (bes, stay G.before Added bes l t)
  feeds (Ok p) bes l t =
      let out : Result ℕ Fault × Ledger K = feed_keys G.before l p.0 p.1 0 in
      let q = fed G.before p.0 p.1 0 bes l t in (
        q.bes',
        subst (λ ks. More G.before (of Added p.0 ks) (of Retracted p.0 ks) bes l q.bes' out.1)
            (sym (cut_taken out.0 p.1 q.ys q.cut)) q.more,
      )

  called : (e : Event K) (bes : List (book.Event K)) (l m : Ledger K) → Trace G.before bes l → Step G l e m → Called e bes l m
  called (change_event c x a) bes l m t s =
      subst (Called (change_event c x a) bes l) (sym s.1) (subst (λ b. Called (change_event c x b) bes l (after G.before l c x)) (sym s.0) (changes c x bes l t (answer_to G.before l c x) refl))
  called (feed_event bs a) bes l m t s =
      subst (Called (feed_event bs a) bes l) (sym s.1) (subst (λ b. Called (feed_event bs b) bes l (feed_of G l bs).1) (sym s.0)
      (let q = feeds (keys_of G.BYTES G.key both bs) bes l t in record { bes' = q.0; more = q.1 }))

  -- the puts and takes of a list of calls, with its tallies
  pub record Traced (es : List (Event K)) (l : Ledger K) : Type 0 where
    pub bes : List (book.Event K)
    pub trace : Trace G.before bes l
    pub put : (x : K) → puts G.before x bes ≡ tally G Added x es
    pub taken : (x : K) → takes G.before x bes ≡ tally G Retracted x es
    pub adds : adds l ≡ total G Added es
    pub retracts : l.retracts ≡ total G Retracted es
    pub fair : (x : K) → NeverShort G x es → book.NeverShort G.before x bes

  traced_more : (e : Event K) (es : List (Event K)) (l m : Ledger K) → Traced es l → Step G l e m → Traced (e ∷ es) m
  traced_more e es l m t s =
      let q = called e t.bes l m t.trace s in
      let p = q.more in
      record {
        bes = q.bes';
        trace = p.trace;
        put = λ x. omega (arith, p.put x, t.put x);
        taken = λ x. omega (arith, p.taken x, t.taken x);
        adds = omega (arith, p.adds, t.adds);
        retracts = omega (arith, p.retracts, t.retracts);
        fair = λ x f. p.fair x (t.fair x (λ n. f (suc n))) (omega (arith, f 0, p.put x, t.put x, p.taken x, t.taken x));
      }

  traced_fresh : (l : Ledger K) → Fresh l → Traced [] l
  traced_fresh l f =
      let none : adds l ≡ 0 = ap (λ b. b.total) f.book.empty in
      record {
        bes = [];
        trace = record { run = book.from_opening f.book; share = omega (arith, f.retracts); small = f.share };
        put = λ x. refl;
        taken = λ x. refl;
        adds = none;
        retracts = f.retracts;
        fair = λ x _. never_short G.before x;
      }

  pub traced : {es : List (Event K)} {l : Ledger K} → Run G es l → Traced es l
  traced (from_opening f) = traced_fresh _ f
  traced (then_call r s) = traced_more _ _ _ _ (traced r) s
