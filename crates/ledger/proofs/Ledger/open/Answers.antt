use Rattle.std.proofs.Common.{◌≡◌, vec_len, sym, refl, ap, ◌∙◌, arith}
use Rattle.books.specs.Openings as Books
use Rattle.ledger_rules.specs.Tallies.{from_opening}
use Rattle.ledger.specs.Openings.{open_refusal}
use Rattle.ledger.proofs.Opening.{tested, one_opens, never_both, opened_book}
use Rattle.ledger.proofs.Ledger.open.Goals as goal

pub invariant_of-result : goal.invariant_of-result
invariant_of-result g c =
    let t = tested c.args.width c.args.share c.len.result c.len-2.result (sym c.in_default.ensures) in
    let e = c.in_ok-books.ensures.1 in
    let one : vec_len c.truncate.new.self ≡ 1 = omega (arith, c.truncate.ensures.len, t.fill, c.len-2.ensures) in
    record { one = e.number ∙ one; small = t.small }

pub returns : goal.returns
returns g c =
    let no = sym c.in_default.ensures in
    let t = tested c.args.width c.args.share c.len.result c.len-2.result no in
    let e = c.in_ok-books.ensures.1 in
    let one : vec_len c.truncate.new.self ≡ 1 = omega (arith, c.truncate.ensures.len, t.fill, c.len-2.ensures) in
    let reached = e.reached 0 (omega arith) in (
      ap (λ n. open_refusal c.args.width c.args.share n (vec_len c.args.fills)) (sym c.len.ensures)
          ∙ ap (λ n. open_refusal c.args.width c.args.share c.len.result n) (sym c.len-2.ensures) ∙ no,
      record {
        table = e.table;
        same_width = e.same_width;
        same_share = refl;
        reached = from_opening (record { book = opened_book reached.run refl; share = t.small; retracts = refl });
      },
    )

pub returns-in_err-books : goal.returns-in_err-books
returns-in_err-books g c =
    let t = tested c.args.width c.args.share c.len.result c.len-2.result (sym c.in_default.ensures) in
    let one : vec_len c.truncate.new.self ≡ 1 = omega (arith, c.truncate.ensures.len, t.fill, c.len-2.ensures) in
    let yes = one_opens c.args.width c.args.share c.len.result c.len-2.result _ t one in
    let same = ap (λ n. Books.open_refusal c.args.width n (vec_len c.truncate.new.self)) c.len.ensures in
    absurd (never_both _ _ (sym same ∙ yes) c.in_err-books.ensures.0)
