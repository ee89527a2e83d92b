-- Every run is lawful: what a run keeps, call by call, and what follows from it. Assumes nothing.
use Rattle.std.proofs.Common.{◌≡◌, ℕ, ◌+◌, ◌*◌, ◌<◌, ◌≤◌, Bool, true, false, eqb, ltb, ◌≢◌, ◌⊎◌, List, [], ◌∷◌, length, Ok, Err, sym, refl, ◌∙◌, subst, inl, inr, ⊎_elim, arith}
use Rattle.std.specs.List.{AllByRecursion}
use Rattle.std.proofs.ByRecursion.{All-weaker}
use Rattle.std.proofs.lemmas.Bool.{cond_both, cond-true, cond-false, cases_Bool, eqb-false, ltb-false}
use Rattle.refusals.specs.declared.Refusal.TheVariants.{Absent, Full}
use Rattle.counting.specs.declared.Record.{Record}
use Rattle.counting.specs.Rule.{Order, Sorted, same, held, fresh, raised, lowered, at_key, enter, least, leave, put_rule, put_new, take_rule, ceiling_rule, high, high_of_record}
use Rattle.counting.specs.Book.{Book, Answer, Put, Taken, Opened, ceiling, bounds, put_done, take_done}
use Rattle.counting.specs.Runs.{Event, put_of, take_of, puts, all_puts, Run, from_opening, then_put, then_take}
use Rattle.counting.specs.Laws.{ins_sum, Encloses, RunsLawful}
use Rattle.counting.proofs.Records.{all_at_key, all_enter, all_leave, all_both, length_at_key, length_enter, length_leave, least_below, ceiling_more, held_some}
use Rattle.counting.proofs.Sorts.{sorted_put, sorted_at_key}
use Rattle.counting.proofs.Sums.{sum_put, fits_put, sum_floor, bounds_held, bounds_none}
use Rattle.counting.proofs.Tells.{Tells, Good, put_good, take_good, idle_put, idle_take, floor_kept}

-- a call was refused and changed nothing, or was carried out
pub put_cases : {K : Type 0} (before : K → K → Bool) (b : Book K) (x : K) (a : Answer) (c : Book K) → Put before b x a c
    → ((a ≡ Err Full) × (c ≡ b)) ⊎ ((b.total ≢ b.limit) × (a ≡ Ok tt) × (c ≡ put_done before b x))
put_cases before b x a c p =
    ⊎_elim
    (λ (e : eqb b.total b.limit ≡ true). inl (p.answer ∙ cond-true _ (Err Full) (Ok tt) e, p.after ∙ cond-true _ b (put_done before b x) e))
    (λ (e : eqb b.total b.limit ≡ false).
    inr (eqb-false _ _ e, p.answer ∙ cond-false _ (Err Full) (Ok tt) e, p.after ∙ cond-false _ b (put_done before b x) e))
    (cases_Bool (eqb b.total b.limit))

pub take_cases : {K : Type 0} (before : K → K → Bool) (b : Book K) (x : K) (a : Answer) (c : Book K) → Taken before b x a c
    → ((a ≡ Err Absent) × (c ≡ b)) ⊎ (((bounds before b x).1 ≢ 0) × (a ≡ Ok tt) × (c ≡ take_done before b x))
take_cases before b x a c p =
    ⊎_elim
    (λ (e : eqb (bounds before b x).1 0 ≡ true). inl (p.answer ∙ cond-true _ (Err Absent) (Ok tt) e, p.after ∙ cond-true _ b (take_done before b x) e))
    (λ (e : eqb (bounds before b x).1 0 ≡ false).
    inr (eqb-false _ _ e, p.answer ∙ cond-false _ (Err Absent) (Ok tt) e, p.after ∙ cond-false _ b (take_done before b x) e))
    (cases_Bool (eqb (bounds before b x).1 0))

-- what goes from call to call
pub record Kept {K : Type 0} (before : K → K → Bool) (es : List (Event K)) (b : Book K) : Type 0 where
  pub wide : 0 < b.width
  pub rising : Sorted before b.records
  pub fits : length b.records ≤ b.width
  pub total : b.total ≡ all_puts es
  pub limit : b.total ≤ b.limit
  pub sum : ins_sum b.records ≡ b.total
  pub outs : AllByRecursion (λ r. r.outs ≤ r.ins) b.records
  pub slack : AllByRecursion (λ r. r.slack ≤ ceiling b) b.records
  pub good : (x : K) → Good before x es b.width b.records

module _ {K : Type 0} (before : K → K → Bool) (order : Order before) where
  outs_put : (width : ℕ) (rs : List (Record K)) (x : K) → AllByRecursion (λ r. r.outs ≤ r.ins) rs → AllByRecursion (λ r. r.outs ≤ r.ins) (put_rule before width rs x)
  outs_put width rs x h =
      let P : Record K → Type 0 = λ r. r.outs ≤ r.ins in
      cond_both (held before x rs) (at_key before x raised rs) (put_new before width rs x) (AllByRecursion P)
      (λ _. all_at_key before P P x raised (λ r _ p. omega arith) (λ r _ p. p) rs h)
      (λ _. cond_both (ltb (length rs) width) (enter before (fresh x 0) rs) (enter before (fresh x (least rs)) (leave (least rs) rs)) (AllByRecursion P)
      (λ _. all_enter before P (fresh x 0) (omega arith) rs h)
      (λ _. all_enter before P (fresh x (least rs)) (omega arith) (leave (least rs) rs) (all_leave P (least rs) rs h)))

  outs_take : (c : ℕ) (rs : List (Record K)) (x : K) → Sorted before rs → high before c rs x ≢ 0 → AllByRecursion (λ r. r.outs ≤ r.ins) rs → AllByRecursion (λ r. r.outs ≤ r.ins) (take_rule before rs x)
  outs_take c rs x so ne h =
      let P : Record K → Type 0 = λ r. (r.outs ≤ r.ins) × (same before r.key x ≡ true → high_of_record r ≢ 0) in
      all_at_key before P (λ r. r.outs ≤ r.ins) x lowered (λ r e p. omega (arith, p.0, p.1 e)) (λ r _ p. p.0) rs
      (all_both (λ r. r.outs ≤ r.ins) (λ r. same before r.key x ≡ true → high_of_record r ≢ 0) rs h
      (All-weaker _ (λ r. same before r.key x ≡ true → high_of_record r ≢ 0) (λ r p e z. ne ((p e).0 ∙ z)) rs (bounds_held before order x c rs so)))

  -- the ceiling never falls, and no slack is above it
  slack_put : (width : ℕ) (rs : List (Record K)) (x : K) → 0 < width → AllByRecursion (λ r. r.slack ≤ ceiling_rule width rs) rs
      → AllByRecursion (λ r. r.slack ≤ ceiling_rule width (put_rule before width rs x)) (put_rule before width rs x)
  slack_put width rs x pos h =
      let Goal : List (Record K) → Type 0 = λ l. AllByRecursion (λ r. r.slack ≤ ceiling_rule width l) l in
      let up : (l : List (Record K)) → ceiling_rule width rs ≤ ceiling_rule width l → (r : Record K) → r.slack ≤ ceiling_rule width rs → r.slack ≤ ceiling_rule width l = λ l le r p. omega arith in
      cond_both (held before x rs) (at_key before x raised rs) (put_new before width rs x) Goal
      (λ _. let l : List (Record K) = at_key before x raised rs in
      let le = floor_kept before order x [] x raised (λ r. omega arith) width pos rs in
      all_at_key before (λ r. r.slack ≤ ceiling_rule width rs) (λ r. r.slack ≤ ceiling_rule width l) x raised (λ r _ p. omega arith) (λ r _ p. up l le r p) rs h)
      (λ _. cond_both (ltb (length rs) width) (enter before (fresh x 0) rs) (enter before (fresh x (least rs)) (leave (least rs) rs)) Goal
      (λ room.
      let l : List (Record K) = enter before (fresh x 0) rs in
      let c : ceiling_rule width rs ≡ 0 = cond-true _ 0 (least rs) room in
      all_enter before (λ r. r.slack ≤ ceiling_rule width l) (fresh x 0) (omega arith) rs
      (All-weaker (λ r. r.slack ≤ ceiling_rule width rs) (λ r. r.slack ≤ ceiling_rule width l) (λ r p. omega arith) rs h))
      (λ full.
      let m : ℕ = least rs in
      let ss : List (Record K) = leave m rs in
      let l : List (Record K) = enter before (fresh x m) ss in
      let c : ceiling_rule width rs ≡ m = cond-false _ 0 (least rs) full in
      let le : ceiling_rule width rs ≤ ceiling_rule width l =
      ceiling_more width rs l pos (omega (arith, length_leave m rs, length_enter before (fresh x m) ss))
      (all_enter before (λ r. m ≤ r.ins) (fresh x m) (omega arith) ss (all_leave (λ r. m ≤ r.ins) m rs (least_below rs))) in
      all_enter before (λ r. r.slack ≤ ceiling_rule width l) (fresh x m) (omega arith) ss
      (All-weaker (λ r. r.slack ≤ ceiling_rule width rs) (λ r. r.slack ≤ ceiling_rule width l) (up l le) ss (all_leave (λ r. r.slack ≤ ceiling_rule width rs) m rs h))))

  slack_take : (width : ℕ) (rs : List (Record K)) (x : K) → 0 < width → AllByRecursion (λ r. r.slack ≤ ceiling_rule width rs) rs
      → AllByRecursion (λ r. r.slack ≤ ceiling_rule width (take_rule before rs x)) (take_rule before rs x)
  slack_take width rs x pos h =
      let l : List (Record K) = take_rule before rs x in
      let le = floor_kept before order x [] x lowered (λ r. omega arith) width pos rs in
      all_at_key before (λ r. r.slack ≤ ceiling_rule width rs) (λ r. r.slack ≤ ceiling_rule width l) x lowered (λ r _ p. omega arith) (λ r _ p. omega arith) rs h

  sum_lowered : (x : K) (rs : List (Record K)) → ins_sum (take_rule before rs x) ≡ ins_sum rs
  sum_lowered x [] = refl
  sum_lowered x (r ∷ rs) =
      cond_both (same before r.key x) (lowered r) r (λ v. v.ins + ins_sum (take_rule before rs x) ≡ r.ins + ins_sum rs)
      (λ _. omega (arith, sum_lowered x rs)) (λ _. omega (arith, sum_lowered x rs))

  kept_put : (es : List (Event K)) (b c : Book K) (x : K) (a : Answer) → Kept before es b → Put before b x a c → Kept before (put_of x a ∷ es) c
  kept_put es b c x a k p =
      ⊎_elim
      (λ (q : (a ≡ Err Full) × (c ≡ b)).
      subst (λ a'. Kept before (put_of x a' ∷ es) c) (sym q.0) (subst (Kept before (put_of x (Err Full) ∷ es)) (sym q.1) (record {
        wide = k.wide;
        rising = k.rising;
        fits = k.fits;
        total = omega (arith, k.total);
        limit = k.limit;
        sum = k.sum;
        outs = k.outs;
        slack = k.slack;
        good = λ y. idle_put before order y x es Full b.width b.records (k.good y);
      })))
      (λ (q : (b.total ≢ b.limit) × (a ≡ Ok tt) × (c ≡ put_done before b x)).
      subst (λ a'. Kept before (put_of x a' ∷ es) c) (sym q.1) (subst (Kept before (put_of x (Ok tt) ∷ es)) (sym q.2) (record {
        wide = k.wide;
        rising = sorted_put before order b.width b.records x k.rising;
        fits = fits_put before order b.width b.records x k.wide k.fits;
        total = omega (arith, k.total);
        limit = omega (arith, k.limit, q.0);
        sum = omega (arith, sum_put before order b.width b.records x k.wide k.rising, k.sum);
        outs = outs_put b.width b.records x k.outs;
        slack = slack_put b.width b.records x k.wide k.slack;
        good = λ y. put_good before order y es x b.width b.records k.wide (k.good y);
      })))
      (put_cases before b x a c p)

  kept_take : (es : List (Event K)) (b c : Book K) (x : K) (a : Answer) → Kept before es b → Taken before b x a c → Kept before (take_of x a ∷ es) c
  kept_take es b c x a k p =
      ⊎_elim
      (λ (q : (a ≡ Err Absent) × (c ≡ b)).
      subst (λ a'. Kept before (take_of x a' ∷ es) c) (sym q.0) (subst (Kept before (take_of x (Err Absent) ∷ es)) (sym q.1) (record {
        wide = k.wide;
        rising = k.rising;
        fits = k.fits;
        total = k.total;
        limit = k.limit;
        sum = k.sum;
        outs = k.outs;
        slack = k.slack;
        good = λ y. idle_take before order y x es Absent b.width b.records (k.good y);
      })))
      (λ (q : ((bounds before b x).1 ≢ 0) × (a ≡ Ok tt) × (c ≡ take_done before b x)).
      subst (λ a'. Kept before (take_of x a' ∷ es) c) (sym q.1) (subst (Kept before (take_of x (Ok tt) ∷ es)) (sym q.2) (record {
        wide = k.wide;
        rising = sorted_at_key before x lowered (λ r. refl) b.records k.rising;
        fits = omega (arith, k.fits, length_at_key before x lowered b.records);
        total = k.total;
        limit = k.limit;
        sum = sum_lowered x b.records ∙ k.sum;
        outs = outs_take (ceiling b) b.records x k.rising q.0 k.outs;
        slack = slack_take b.width b.records x k.wide k.slack;
        good = λ y. take_good before order y es x b.width b.records k.wide (k.good y);
      })))
      (take_cases before b x a c p)

  kept_opened : (b : Book K) → Opened b → Kept before [] b
  kept_opened b o =
      let w = o.wide in
      subst (Kept before []) (sym o.empty) (record {
        wide = omega arith;
        rising = tt;
        fits = omega arith;
        total = refl;
        limit = omega arith;
        sum = refl;
        outs = tt;
        slack = tt;
        good = λ x. record { tells = tt; unheld = λ _. omega arith };
      })

  pub kept : {es : List (Event K)} {b : Book K} → Run before es b → Kept before es b
  kept (from_opening o) = kept_opened _ o
  kept (then_put r p) = kept_put _ _ _ _ _ (kept r) p
  kept (then_take r p) = kept_take _ _ _ _ _ (kept r) p

  encloses : (es : List (Event K)) (b : Book K) → Kept before es b → (x : K) → Encloses before es x (bounds before b x).0 (bounds before b x).1
  encloses es b k x =
      ⊎_elim
      (λ (there : held before x b.records ≡ true).
      held_some before (Encloses before es x (bounds before b x).0 (bounds before b x).1) x b.records there
      (All-weaker _ (λ r. same before r.key x ≡ true → Encloses before es x (bounds before b x).0 (bounds before b x).1)
      (λ r p e. let t = p.0 e in let q = p.1 e in
      record { above = omega (arith, t.above, q.0); below = λ fair. omega (arith, t.below fair, fair 0, q.1) })
      b.records
      (all_both (λ r. same before r.key x ≡ true → Tells before x es r) _ b.records (k.good x).tells (bounds_held before order x (ceiling b) b.records k.rising))))
      (λ (none : held before x b.records ≡ false).
      let q = bounds_none before x (ceiling b) b.records none in
      record { above = omega (arith, (k.good x).unheld none, q.0); below = λ fair. omega (arith, fair 0, q.1) })
      (cases_Bool (held before x b.records))

  share : (es : List (Event K)) (b : Book K) → Kept before es b → b.width * ceiling b ≤ b.total
  share es b k =
      cond_both (ltb (length b.records) b.width) 0 (least b.records) (λ c. b.width * c ≤ b.total)
      (λ _. omega arith)
      (λ full.
      let w : length b.records ≡ b.width = omega (arith, k.fits, ltb-false _ _ full) in
      let s = sum_floor (least b.records) b.records (least_below b.records) in
      subst (λ n. n * least b.records ≤ b.total) w (omega (arith, s, k.sum)))

  floor : (width : ℕ) (rs : List (Record K)) → AllByRecursion (λ r. ceiling_rule width rs ≤ r.ins) rs
  floor width rs =
      cond_both (ltb (length rs) width) 0 (least rs) (λ c. AllByRecursion (λ r. c ≤ r.ins) rs)
      (λ _. All-weaker _ (λ r. 0 ≤ r.ins) (λ r p. omega arith) rs (least_below rs)) (λ _. least_below rs)

  pub lawful : RunsLawful before
  lawful es b run =
      let k = kept run in
      record {
        rising = k.rising;
        fits = k.fits;
        total = k.total;
        limit = k.limit;
        sum = k.sum;
        outs = k.outs;
        slack = k.slack;
        floor = floor b.width b.records;
        share = share es b k;
        held_puts = λ x. All-weaker _ (λ r. same before r.key x ≡ true → puts before x es ≤ r.ins) (λ r p e. (p e).in_all) b.records (k.good x).tells;
        other_puts = λ x. (k.good x).unheld;
        bound = encloses es b k;
      }
