-- After every list of calls the bounds of a ledger enclose and are narrow, and the report law holds. Assumes nothing.
use Rattle.std.proofs.Common.{◌≡◌, ℕ, ◌+◌, ◌-◌, ◌*◌, ◌<◌, ◌≤◌, Bool, true, false, leb, List, [], ◌∷◌, map, pos, ◌-ℤ◌, ◌≤ℤ◌, filter, sym, refl, ap, subst, ⊎_elim, mul-le-mul_right, mul_comm, mul-le-mul_left, mul_right_comm, arith}
use native.Mathlib.Nat.{mul-sub}
use Rattle.std.specs.List.{AllByRecursion}
use Rattle.std.proofs.ByRecursion.{All-weaker}
use Rattle.std.proofs.lemmas.Int.{ints}
use Rattle.std.proofs.lemmas.Bool.{both_ways, cond_both, cases_Bool, or_parts, leb-false}
use Rattle.keys.specs.declared.key.Key.{Ghosts}
use Rattle.counting.specs.declared.Record.{Record}
use Rattle.counting.specs.Rule.{Order, Sorted, same, held, high_of_record, low_of_record, high, low}
use Rattle.counting.specs.Book.{Book, ceiling, bounds}
use Rattle.counting.specs.Laws as book
use Rattle.counting.proofs.Records.{all_both, all_turn, held_some, same_from}
use Rattle.counting.proofs.Sums.{bounds_held, bounds_none}
use Rattle.counting.proofs.Lawfuls.{lawful}
use Rattle.frames.specs.declared.head.Change.TheVariants.{Added, Retracted}
use Rattle.ledger_rules.specs.declared.Entry.{Entry}
use Rattle.ledger_rules.specs.Ledgers.{Ledger, entry_of, report_of}
use Rattle.ledger_rules.specs.Tallies.{Event, tally, total, live}
use Rattle.ledger_rules.specs.Laws.{listed, Rising, Encloses, Narrow, Lawful, RunsReport}
use Rattle.ledger_rules.proofs.Traces.{Traced, traced}

-- differences of naturals as integers
less : (a b h : ℕ) → a ≤ h + b → (pos a -ℤ pos b) ≤ℤ pos h
less a b h le = omega (arith, ints)

more : (a b h : ℕ) → h + b ≤ a → pos h ≤ℤ (pos a -ℤ pos b)
more a b h le = omega (arith, ints)

back : (a b h : ℕ) → pos h ≤ℤ (pos a -ℤ pos b) → h + b ≤ a
back a b h le = omega (arith, ints)

-- a gap within the width's part of the adds is within its part of what is live
spread : (w s g a r : ℕ) → s ≤ 999 → w * g ≤ a → 1000 * r ≤ s * a → w * (1000 - s) * g ≤ 1000 * (a - r)
spread w s g a r few le share =
    let e = mul_right_comm w (1000 - s) g in
    let f = mul_comm (w * g) (1000 - s) in
    let m = mul-le-mul_left {m = w * g} {n = a} (1000 - s) le in
    let d = mul_comm (1000 - s) a in
    let k = mul-sub a 1000 s in
    let j = mul_comm a s in
    omega arith

fewer_than : (s a r : ℕ) → s ≤ 999 → 1000 * r ≤ s * a → r ≤ a
fewer_than s a r few share = omega (arith, mul-le-mul_right {m = s} {n = 999} a few)

all_report : {K : Type 0} (P : Entry K → Type 0) (t : ℕ) (rs : List (Record K)) → AllByRecursion (λ r. P (entry_of r)) rs → AllByRecursion P (map entry_of (filter (λ r. leb t (high_of_record r)) rs))
all_report P t [] h = tt
all_report P t (r ∷ rs) h =
    cond_both (leb t (high_of_record r)) (r ∷ filter (λ s. leb t (high_of_record s)) rs) (filter (λ s. leb t (high_of_record s)) rs) (λ l. AllByRecursion P (map entry_of l))
    (λ _. (h.0, all_report P t rs h.1)) (λ _. all_report P t rs h.1)

module _ {K : Type 0} (before : K → K → Bool) where
  rising : (t : ℕ) (rs : List (Record K)) → Sorted before rs → Rising before (map entry_of (filter (λ r. leb t (high_of_record r)) rs))
  rising t [] h = tt
  rising t (r ∷ rs) h =
      cond_both (leb t (high_of_record r)) (r ∷ filter (λ s. leb t (high_of_record s)) rs) (filter (λ s. leb t (high_of_record s)) rs) (λ l. Rising before (map entry_of l))
      (λ _. (all_report (λ f. before r.key f.key ≡ true) t rs h.0, rising t rs h.1)) (λ _. rising t rs h.1)

  -- what is not listed is below t
  unlisted : (x : K) (t : ℕ) (rs : List (Record K)) → listed before x (map entry_of (filter (λ r. leb t (high_of_record r)) rs)) ≡ false
      → AllByRecursion (λ r. same before r.key x ≡ true → high_of_record r < t) rs
  unlisted x t [] h = tt
  unlisted x t (r ∷ rs) was =
      cond_both (leb t (high_of_record r)) (r ∷ filter (λ s. leb t (high_of_record s)) rs) (filter (λ s. leb t (high_of_record s)) rs)
      (λ l. listed before x (map entry_of l) ≡ false → AllByRecursion (λ s. same before s.key x ≡ true → high_of_record s < t) (r ∷ rs))
      (λ _ h. let p = or_parts (same before r.key x) (listed before x (map entry_of (filter (λ s. leb t (high_of_record s)) rs))) h in
      ((λ q. absurd (both_ways _ p.0 q)), unlisted x t rs p.1))
      (λ e h. ((λ _. leb-false t (high_of_record r) e), unlisted x t rs h))
      was

  -- what holds of the bounds of every record and of those of a key that is not held, holds of those of every key
  by_bounds : (order : Order before) (P : ℕ → ℕ → Type 0) (b : Book K) (x : K) → Sorted before b.records
      → AllByRecursion (λ r. same before r.key x ≡ true → P (low_of_record r) (high_of_record r)) b.records → P 0 (ceiling b) → P (bounds before b x).0 (bounds before b x).1
  by_bounds order P b x so each none =
      let rs : List (Record K) = b.records in
      let lo : ℕ = low before rs x in
      let hi : ℕ = high before (ceiling b) rs x in
      let put : (lo' hi' : ℕ) → hi ≡ hi' → lo ≡ lo' → P lo' hi' → P lo hi = λ lo' hi' p q h. subst (λ n. P n hi) (sym q) (subst (P lo') (sym p) h) in
      ⊎_elim
      (λ (h : held before x rs ≡ true).
      held_some before (P lo hi) x rs h
      (All-weaker _ (λ r. same before r.key x ≡ true → P lo hi) (λ r p e. put (low_of_record r) (high_of_record r) (p.0 e).0 (p.0 e).1 (p.1 e)) rs
      (all_both _ (λ r. same before r.key x ≡ true → P (low_of_record r) (high_of_record r)) rs (bounds_held before order x (ceiling b) rs so) each)))
      (λ (h : held before x rs ≡ false). let q = bounds_none before x (ceiling b) rs h in put 0 (ceiling b) q.0 q.1 none)
      (cases_Bool (held before x rs))

module _ {K : Type 0} (G : Ghosts K) (order : Order G.before) (es : List (Event K)) (l : Ledger K) (t : Traced G es l) where
  law : book.Lawful G.before t.bes l.book
  law = lawful G.before order t.bes l.book t.trace.run

  abbrev added : K → ℕ
  added x = tally G Added x es

  abbrev retracted : K → ℕ
  retracted x = tally G Retracted x es

  enclosed : (x : K) → Encloses G es x (bounds G.before l.book x).0 (bounds G.before l.book x).1
  enclosed x =
      let p = t.put x in
      let q = t.taken x in
      let b = law.bound x in
      record {
        above = less (added x) (retracted x) (bounds G.before l.book x).1 (omega (arith, b.above));
        below = λ fair. more (added x) (retracted x) (bounds G.before l.book x).0 (omega (arith, b.below (t.fair x fair)));
      }

  -- the bounds are apart by the ceiling at most
  gap : (x : K) → ((bounds G.before l.book x).0 ≤ (bounds G.before l.book x).1) × ((bounds G.before l.book x).1 - (bounds G.before l.book x).0 ≤ ceiling l.book)
  gap x =
      by_bounds G.before order (λ lo hi. (lo ≤ hi) × (hi - lo ≤ ceiling l.book)) l.book x law.rising
      (All-weaker (λ r. r.slack ≤ ceiling l.book) (λ r. same G.before r.key x ≡ true → (low_of_record r ≤ high_of_record r) × (high_of_record r - low_of_record r ≤ ceiling l.book))
      (λ r le _. (omega arith, omega arith)) l.book.records law.slack)
      (omega arith, omega arith)

  share : 1000 * total G Retracted es ≤ l.share * total G Added es
  share = omega (arith, t.trace.share, t.retracts, ap (λ n. l.share * n) t.adds)

  narrow : (x : K) → Narrow G es l.book.width l.share (bounds G.before l.book x).0 (bounds G.before l.book x).1
  narrow x =
      let g = gap x in
      let d : ℕ = (bounds G.before l.book x).1 - (bounds G.before l.book x).0 in
      let by : l.book.width * d ≤ total G Added es =
      omega (arith, mul-le-mul_left {m = d} {n = ceiling l.book} l.book.width g.1, law.share, t.adds) in
      record { ordered = g.0; by_adds = by; by_live = spread l.book.width l.share d _ _ t.trace.small by share }

  complete : (n : ℕ) → ceiling l.book < n → (x : K) → pos n ≤ℤ live G x es → listed G.before x (report_of n l) ≡ true
  complete n lt x le =
      ⊎_elim
      (λ (y : listed G.before x (report_of n l) ≡ true). y)
      (λ (none : listed G.before x (report_of n l) ≡ false).
      let under : (bounds G.before l.book x).1 < n = by_bounds G.before order (λ _ hi. hi < n) l.book x law.rising (unlisted G.before x n l.book.records none) lt in
      absurd (omega (arith, under, (law.bound x).above, t.put x, t.taken x, back (added x) (retracted x) n le)))
      (cases_Bool (listed G.before x (report_of n l)))

  each : AllByRecursion (λ r. Encloses G es r.key (low_of_record r) (high_of_record r)) l.book.records
  each =
      let rs : List (Record K) = l.book.records in
      All-weaker (λ r. (x : K) → same G.before r.key x ≡ true → (high G.before (ceiling l.book) rs x ≡ high_of_record r) × (low G.before rs x ≡ low_of_record r)) _
      (λ r p. let q = p r.key (same_from G.before order _ _ refl) in
      subst (Encloses G es r.key (low_of_record r)) q.0 (subst (λ n. Encloses G es r.key n (bounds G.before l.book r.key).1) q.1 (enclosed r.key)))
      rs (all_turn _ rs (λ x. bounds_held G.before order x (ceiling l.book) rs law.rising))

  ledger_lawful : Lawful G es l
  ledger_lawful = record {
    adds = t.adds;
    retracts = t.retracts;
    share = share;
    fewer = fewer_than l.share _ _ t.trace.small share;
    enclosed = enclosed;
    narrow = narrow;
    report = λ n lt. record {
      rising = rising G.before n l.book.records law.rising;
      complete = complete n lt;
      enclosed = all_report (λ e. Encloses G es e.key e.low e.high) n l.book.records each;
    };
  }

pub reports_lawful : {K : Type 0} (G : Ghosts K) → Order G.before → RunsReport G
reports_lawful G order es l run = ledger_lawful G order es l (traced G run)
