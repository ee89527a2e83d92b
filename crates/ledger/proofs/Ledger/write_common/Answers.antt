use Rattle.std.proofs.Common.{◌<◌, ◌++◌, length, take, sym, ap, ◌∙◌, arith}
use Rattle.index.specs.Reading.{rest}
use Rattle.ledger_rules.specs.Ledgers.{common}
use Rattle.ledger.proofs.Reporting.{common_some, common_none, front_entry, rest_entry}
use Rattle.ledger.proofs.Ledger.write_common.Goals as goal

pub set_entry-requires : goal.set_entry-requires
set_entry-requires g c =
    let t = c.args.threshold in
    let more = ap (common t) c.in-Some.ensures.steps ∙ common_some t c.in-Some.record (rest c.next.new.self) c.in-Some-common_entry.entry c.in-Some-common_entry.ensures in
    omega (arith, c.requires, c.loop-record.invariant.0, c.loop-record.auto.out, ap length more)

pub loop-record-preserved-in-Some-common_entry : goal.loop-record-preserved-in-Some-common_entry
loop-record-preserved-in-Some-common_entry g c =
    let t = c.args.threshold in
    let n = c.loop-record.n in
    let out = c.loop-record.out in
    let e = c.in-Some-common_entry.entry in
    let inv = c.loop-record.invariant in
    let left = common t (rest c.next.new.self) in
    let more = ap (common t) c.in-Some.ensures.steps ∙ common_some t c.in-Some.record (rest c.next.new.self) e c.in-Some-common_entry.ensures in
    let lt : n < length out = omega (arith, c.requires, inv.0, c.loop-record.auto.out, ap length more) in
    let all = ap (λ l. take n out ++ l) (sym more) ∙ inv.1 in
    rw c.set_entry.ensures (
      omega (arith, inv.0, ap length more),
      front_entry out c.args.out.now left _ n e lt all,
      rest_entry out c.args.out.now left left n e lt inv.2,
    )

pub loop-record-preserved : goal.loop-record-preserved
loop-record-preserved g c =
    let t = c.args.threshold in
    let inv = c.loop-record.invariant in
    let same = ap (common t) c.in-Some.ensures.steps ∙ common_none t c.in-Some.record (rest c.next.new.self) c.in_default.ensures in (
      omega (arith, inv.0, ap length same),
      ap (λ l. take c.loop-record.n c.loop-record.out ++ l) (sym same) ∙ inv.1,
      inv.2,
    )
