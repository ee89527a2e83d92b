use Rattle.std.proofs.Common.{rules, length, ap, ◌∙◌, inl, arith}
use borrow.Author.Tests.{tests}
use Rattle.std.proofs.lemmas.Iterator.Consumers.{YieldsList-from_first, YieldsList-from_filter_map, count_from_yields_List}
use Rattle.index.specs.Reading.{rest}
use Rattle.ledger.specs.OfLedger.{state_of}
use Rattle.ledger.specs.Reports.{common_entry}
use Rattle.ledger.proofs.Reporting.{common_is, few_records}
use Rattle.ledger.proofs.Ledger.count_common.Goals as goal

pub count-requires-clause-fits : goal.count-requires-clause-fits
count-requires-clause-fits g c =
    let all = ap (λ i. length (rest i)) c.filter_map.ensures.source ∙ ap length c.records.ensures in
    inl (omega (arith, all, few_records c.args.self.now))

pub returns : goal.returns
returns g c =
    let all = ap rest c.filter_map.ensures.source ∙ c.records.ensures in
    count_from_yields_List c.filter_map.result c.count.result c.count.ensures.ran
    (YieldsList-from_filter_map _ (common_entry c.args.threshold) (YieldsList-from_first (λ x. x) rest _ all) c.filter_map.ensures.closure (λ x r q k. search (rules, tests)))
    ∙ ap length (common_is c.args.threshold (state_of c.args.self.now).book.records)
