-- An accepted opening: what was tested, and that no call has come. Assumes nothing.
use Rattle.std.proofs.Common.{◌≡◌, ℕ, ◌*◌, ◌≤◌, Bool, true, false, cond, leb, List, [], Some, None, Option, refl, ap, ◌∙◌, one-mul, arith}
use Rattle.std.proofs.lemmas.Bool.{and_parts, and_from, leb-true, le-leb, cond-true}
use Rattle.refusals.specs.declared.Refusal.{Refusal}
use Rattle.counting.specs.Book.{Book, Opened}
use Rattle.counting.specs.Runs as Counting
use Rattle.books.specs.Openings as Books
use Rattle.ledger.specs.Openings.{open_refusal}

passed : (b : Bool) (o : Option Refusal) (e : Refusal) → cond b o (Some e) ≡ None → (b ≡ true) × (o ≡ None)
passed true o e h = (refl, h)
passed false o e h = let z : ◌≡◌ {A = ℕ} 0 1 = cc in absurd (omega arith)

-- what an accepted opening was tested for
pub record Tested (width share places fills : ℕ) : Type 0 where
  pub wide : 2 ≤ width
  pub narrow : width ≤ 1024
  pub small : share ≤ 999
  pub room : width ≤ places
  pub fill : 1 ≤ fills

pub tested : (width share places fills : ℕ) → open_refusal width share places fills ≡ None → Tested width share places fills
tested width share places fills h =
    let a = passed _ _ _ h in
    let b = passed _ _ _ a.1 in
    let c = passed _ _ _ b.1 in
    let w = and_parts (leb 2 width) (leb width 1024) a.0 in
    let p = and_parts (leb width places) (leb 1 fills) c.0 in
    record { wide = leb-true 2 width w.0; narrow = leb-true width 1024 w.1; small = leb-true share 999 b.0; room = leb-true width places p.0; fill = leb-true 1 fills p.1 }

-- so one book opens
pub one_opens : (width share places fills n : ℕ) → Tested width share places fills → n ≡ 1 → Books.open_refusal width places n ≡ None
one_opens width share places fills n t e =
    let one : n * width ≤ places = omega (arith, t.room, ap (λ k. k * width) e, one-mul width) in
    cond-true _ _ _ (and_from (leb 2 width) (leb width 1024) (le-leb 2 width t.wide) (le-leb width 1024 t.narrow))
    ∙ cond-true _ _ _ (le-leb (n * width) places one)

pub never_both : (o : Option Refusal) (e : Refusal) → o ≡ None → o ≡ Some e → ⊥
never_both o e h k = let z : ◌≡◌ {A = ℕ} 0 1 = cc in omega arith

pub opened_book : {K : Type 0} {before : K → K → Bool} {es : List (Counting.Event K)} {b : Book K} → Counting.Run before es b → es ≡ [] → Opened b
opened_book (Counting.from_opening o) e = o
opened_book (Counting.then_put r p) e = let z : ◌≡◌ {A = ℕ} 0 1 = cc in absurd (omega arith)
opened_book (Counting.then_take r p) e = let z : ◌≡◌ {A = ℕ} 0 1 = cc in absurd (omega arith)
