use Rattle.ledger_replay.proofs.replay.report_after.Goals as goal

pub returns-clause-report : goal.returns-clause-report
returns-clause-report g c = λ es at.
    let here = c.make_all.ensures.run es at in
    record { answer = c.report.ensures.exact; written = c.report.ensures.written; law = λ n accepted. c.report.ensures.law _ n here accepted }
