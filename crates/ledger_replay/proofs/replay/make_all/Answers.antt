use Rattle.std.proofs.Common.{List, ◌∙◌, subst, arith, take_all}
use lib.Seq.{map-set_same}
use Rattle.ledger.specs.OfLedger.{Reached}
use Rattle.ledger.proofs.Besides.{beside_more}
use Rattle.ledger_replay.specs.declared.log.Logged.{Logged}
use Rattle.ledger_replay.specs.Logs.{history, call_of}
use Rattle.ledger_replay.proofs.Replaying.{reached_more}
use Rattle.ledger_replay.proofs.replay.make_all.Goals as goal

pub loop-call-preserved : goal.loop-call-preserved
loop-call-preserved g c = (
  λ es r. reached_more c.loop-call.log c.loop-call.call-index c.make.result es c.make.new.ledger (omega (arith, c.loop-call.auto.log, c.loop-call-test.true)) (c.make.ensures.run _ (c.loop-call.invariant.0 es r)),
  map-set_same call_of c.loop-call.log c.loop-call.call-index c.make.result c.call-item.result c.make.ensures.same ∙ c.loop-call.invariant.1,
  beside_more _ _ _ c.loop-call.invariant.2 c.make.ensures.beside,
)

pub returns-clause-run : goal.returns-clause-run
returns-clause-run g c = λ es r.
    subst (λ (l : List (Logged g.row.K.Denot)). Reached (history es l) c.loop-call.ledger)
    (take_all c.loop-call.call-index c.loop-call.log (omega (arith, c.loop-call.auto.log, c.loop-call-test.false)))
    (c.loop-call.invariant.0 es r)
