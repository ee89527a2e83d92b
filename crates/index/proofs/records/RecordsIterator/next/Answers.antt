use Rattle.std.proofs.Common.{◌≡◌, ℕ, suc, ◌+◌, ◌<◌, List, [], ◌∷◌, length, get_or, drop, sym, ap, ◌∙◌, add-one, arith, length-drop, drop-cons}
use Rattle.std.proofs.lemmas.List.{nil_from_length}
use Rattle.places.specs.Rows.{rows}
use Rattle.index.proofs.Tables.{row_count}
use Rattle.index.proofs.records.RecordsIterator.next.Goals as goal

first_left : {X : Type 0} (xs : List X) (k : ℕ) (x : X) → k < length xs → get_or xs k x ≡ x → drop k xs ≡ x ∷ drop (k + 1) xs
first_left xs k x lt e = rw (add-one, drop-cons xs k x) (ap (λ z. z ∷ drop (suc k) xs) e)

pub returns-clause-steps : goal.returns-clause-steps
returns-clause-steps g c =
    let r = c.args.self.now in
    let i = r.index in
    let rs = rows i.table.now i.used in
    let x = c.record_at.result in
    let s = c.in_ok-position.ensures.steps.1 in
    let lt : r.positions.start < length rs = omega (arith, s.0, r.whole, row_count i.table.now i.used i.room i.placed) in
    first_left rs r.positions.start x lt (ap (λ k. get_or rs k x) (sym s.1) ∙ c.record_at.ensures x) ∙ ap (λ k. x ∷ drop k rs) (sym s.2)

pub returns-in_err-position-clause-steps : goal.returns-in_err-position-clause-steps
returns-in_err-position-clause-steps g c =
    let r = c.args.self.now in
    let i = r.index in
    let rs = rows i.table.now i.used in
    let s = c.in_err-position.ensures.steps.1 in
    let n = row_count i.table.now i.used i.room i.placed in
    let none : drop r.positions.start rs ≡ [] = nil_from_length _ (omega (arith, s.0, r.whole, n, length-drop r.positions.start rs)) in
    rw c.from_residual.ensures (none, ap (λ k. drop k rs) s.1 ∙ none)

pub returns-clause-goes : goal.returns-clause-goes
returns-clause-goes g c =
    let r = c.args.self.now in
    let rs = rows r.index.table.now r.index.used in
    let s = c.in_ok-position.ensures.steps.1 in
    let n = row_count r.index.table.now r.index.used r.index.room r.index.placed in
    let rest = ap (λ k. length (drop k rs)) s.2 in
    record { on = λ f. (tt, tt, omega (arith, rest, s.0, r.whole, n, length-drop r.positions.start rs, length-drop (r.positions.start + 1) rs)); keeps = tt; rests = λ _. tt }
