-- An add or a retract that the book answered, as the rules of a ledger say it. Assumes nothing.
use Rattle.std.proofs.Common.{◌≡◌, ℕ, ◌+◌, ◌*◌, Bool, true, false, cond, eqb, ltb, Ok, Err, sym, refl, ap, ◌∙◌, arith}
use Rattle.std.proofs.lemmas.Bool.{cond-true, lt-ltb}
use Rattle.refusals.specs.declared.Refusal.{Refusal}
use Rattle.refusals.specs.declared.Refusal.TheVariants.{Full, Absent, Share}
use Rattle.keys.specs.declared.key.Key.{Ghosts}
use Rattle.counting.specs.Book.{Book, Answer, Taken, bounds, put_answer, put_done, after_put, take_answer, take_done}
use Rattle.counting.specs.Runs.{accepted}
use Rattle.books.specs.declared.Books.{Books}
use Rattle.books.specs.OfBooks.{count, book_of, put_at}
use Rattle.frames.specs.declared.head.Change.TheVariants.{Added, Retracted}
use Rattle.ledger_rules.specs.Ledgers.{Ledger, over_share, answer_to, changed, after}

pub put_there : {K : Type 0} {G : Ghosts K} (b : Books K G) → count b ≡ 1 → put_at b 0 ≡ put_answer (book_of b 0)
put_there b one = cond-true (ltb 0 (count b)) _ _ (lt-ltb 0 (count b) (omega arith))

pub same_product : (a b x y : ℕ) → a ≡ x → b ≡ y → a * b ≡ x * y
same_product a b x y e f = cc

module _ {K : Type 0} (before : K → K → Bool) (l : Ledger K) (x : K) where
  -- the ledger with another book
  abbrev with_book : Book K → Ledger K
  with_book c = record { book = c; share = l.share; retracts = l.retracts }

  added : (e : Bool) → with_book (cond e l.book (put_done before l.book x)) ≡ cond (accepted (cond e (Err Full) (Ok tt))) (changed before l Added x) l
  added true = refl
  added false = refl

  pub add_after : (c : Book K) → c ≡ after_put before l.book x → with_book c ≡ after before l Added x
  add_after c e = ap with_book e ∙ added (eqb l.book.total l.book.limit)

  pub over_answer : over_share l ≡ true → Err Share ≡ answer_to before l Retracted x
  over_answer e = sym (ap (λ b. cond b (Err Share) (take_answer before l.book x)) e)

  pub over_after : over_share l ≡ true → l ≡ after before l Retracted x
  over_after e = sym (ap (λ b. cond (accepted (cond b (Err Share) (take_answer before l.book x))) (changed before l Retracted x) l) e)

  pub take_answered : (a : Answer) → over_share l ≡ false → a ≡ take_answer before l.book x → a ≡ answer_to before l Retracted x
  take_answered a e h = h ∙ sym (ap (λ b. cond b (Err Share) (take_answer before l.book x)) e)

  taken_out : (e : Bool) (f : Refusal) → ◌≡◌ {A = Answer} (Err f) (cond e (Err Absent) (Ok tt)) → with_book (cond e l.book (take_done before l.book x)) ≡ cond (accepted (cond e (Err Absent) (Ok tt))) (changed before l Retracted x) l
  taken_out true f h = refl
  taken_out false f h = let z : ◌≡◌ {A = ℕ} 0 1 = cc in absurd (omega arith)

  taken_in : (e : Bool) → ◌≡◌ {A = Answer} (Ok tt) (cond e (Err Absent) (Ok tt)) → (cond e l.book (take_done before l.book x) ≡ take_done before l.book x) × (cond (accepted (cond e (Err Absent) (Ok tt))) (changed before l Retracted x) l ≡ changed before l Retracted x)
  taken_in true h = let z : ◌≡◌ {A = ℕ} 0 1 = cc in absurd (omega arith)
  taken_in false h = (refl, refl)

  abbrev absent : Bool
  absent = eqb (bounds before l.book x).1 0

  share_left : over_share l ≡ false → cond (accepted (take_answer before l.book x)) (changed before l Retracted x) l ≡ after before l Retracted x
  share_left e = sym (ap (λ b. cond (accepted (cond b (Err Share) (take_answer before l.book x))) (changed before l Retracted x) l) e)

  -- a take that the book refused, and one that it accepted
  pub refused_after : (c : Book K) (f : Refusal) → over_share l ≡ false → Taken before l.book x (Err f) c → with_book c ≡ after before l Retracted x
  refused_after c f e h = ap with_book h.after ∙ taken_out absent f h.answer ∙ share_left e

  pub retract_after : (c : Book K) → over_share l ≡ false → Taken before l.book x (Ok tt) c → record { book = c; share = l.share; retracts = l.retracts + 1 } ≡ after before l Retracted x
  retract_after c e h =
      let in' = taken_in absent h.answer in
      ap (λ d. record { book = d; share = l.share; retracts = l.retracts + 1 }) (h.after ∙ in'.0) ∙ sym in'.1 ∙ share_left e
