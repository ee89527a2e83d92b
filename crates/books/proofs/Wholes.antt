-- Every book of a table, of which one was worked on. Assumes nothing.
use Rattle.std.proofs.Common.{◌≡◌, ℕ, ◌+◌, ◌-◌, ◌*◌, ◌<◌, ◌≤◌, ◌≢◌, Bool, List, length, set, sym, subst, ⊎_elim}
use borrow.Rule.Slice.PartMut.{put_mid}
use Rattle.std.proofs.lemmas.Bool.{cases_eq}
use Rattle.places.specs.declared.place.Place.{Place}
use Rattle.book.specs.Sound.{IsBook}
use Rattle.books.specs.declared.fill.Fill.{Fill}
use Rattle.books.specs.Parts.{part, used_at, total_at}
use Rattle.books.proofs.Parting.{part_here, part_other, column_here, column_other}

pub book_moved : {K : Type 0} (before : K → K → Bool) (p q : List (Place K)) (u v s t : ℕ) → p ≡ q → u ≡ v → s ≡ t → IsBook before q v t → IsBook before p u s
book_moved {K} before p q u v s t ep eu et is =
    subst (λ (l : List (Place K)). IsBook before l u s) (sym ep) (subst (λ (n : ℕ). IsBook before q n s) (sym eu) (subst (IsBook before q v) (sym et) is))

-- the books of a table
abbrev pub Each : {K : Type 0} → (K → K → Bool) → List (Place K) → List Fill → ℕ → Type 0
Each before ts fs w = (r : ℕ) → IsBook before (part ts w r) (used_at fs r) (total_at fs r)

pub each_changed : {K : Type 0} (before : K → K → Bool) (ts ys us : List (Place K)) (fs : List Fill) (w r : ℕ) (f : Fill) → (r + 1) * w ≤ length ts → length ys ≡ (r + 1) * w - r * w
    → us ≡ put_mid (r * w) ((r + 1) * w - r * w) ts ys → r < length fs → Each before ts fs w → IsBook before ys f.used f.total → Each before us (set fs r f) w
each_changed {K} before ts ys us fs w r f fits long e lt all is q =
    ⊎_elim
    (λ (z : q ≡ r).
    subst (λ (n : ℕ). IsBook before (part us w n) (used_at (set fs r f) n) (total_at (set fs r f) n)) (sym z)
    (book_moved before _ ys _ f.used _ f.total (part_here ts ys us w r fits long e) (column_here (λ g. g.used) fs r f lt) (column_here (λ g. g.total) fs r f lt) is))
    (λ (ne : q ≢ r).
    book_moved before _ (part ts w q) _ (used_at fs q) _ (total_at fs q) (part_other ts ys us w r fits long e q ne) (column_other (λ g. g.used) fs r f q ne) (column_other (λ g. g.total) fs r f q ne) (all q))
    (cases_eq q r)
