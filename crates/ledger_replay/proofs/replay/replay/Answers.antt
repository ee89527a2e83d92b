use Rattle.std.proofs.Common.{[]}
use Rattle.ledger_replay.proofs.replay.replay.Goals as goal

pub returns-clause-law : goal.returns-clause-law
returns-clause-law g c =
    let opened = c.in_ok-ledger.ensures.1 in (
      c.in_ok-ledger.ensures.0,
      record { opening = (_, opened, c.report_after-answer.ensures.beside); reached = c.report_after-answer.ensures.run [] opened.reached },
      c.report_after-answer.ensures.report [] opened.reached,
    )
