use Rattle.std.proofs.Common.{◌<◌, ◌≤◌, ◌≢◌, length, ◌∙◌, ⊎_elim, arith, below_more}
use Rattle.std.proofs.lemmas.Bool.{cases_lt}
use Rattle.std.proofs.lemmas.List.{get_or_past, length-map}
use Rattle.books.specs.declared.fill.Fill.{Fill}
use Rattle.books.proofs.Parting.{column_here, column_other}
use Rattle.books.proofs.open.empty_all.Goals as goal

pub loop-fill-preserved : goal.loop-fill-preserved
loop-fill-preserved c =
    let fs = c.loop-fill.fills in
    let i = c.loop-fill.fill-index in
    let v : Fill = c.empty.result in
    let here : i < length fs = omega arith in
    below_more _ i
    (λ k lt.
    let ne : k ≢ i = omega arith in
    let old = c.loop-fill.invariant k lt in
    (column_other (λ f. f.used) fs i v k ne ∙ old.0, column_other (λ f. f.total) fs i v k ne ∙ old.1))
    (column_here (λ f. f.used) fs i v here ∙ c.empty.ensures.0, column_here (λ f. f.total) fs i v here ∙ c.empty.ensures.1)

pub returns : goal.returns
returns c r =
    let fs = c.loop-fill.fills in
    ⊎_elim
    (λ (lt : r < length fs). c.loop-fill.invariant r (omega arith))
    (λ (ge : length fs ≤ r).
    (get_or_past _ r 0 (omega (arith, length-map fs (λ (f : Fill). f.used))), get_or_past _ r 0 (omega (arith, length-map fs (λ (f : Fill). f.total)))))
    (cases_lt r (length fs))
