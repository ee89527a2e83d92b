use Rattle.std.proofs.Common.{rules, ◌≡◌, length, Ok, sym, ap, ◌∙◌, arith}
use Rattle.frames.specs.OfKeys.{left_keys}
use Rattle.ledger_rules.specs.Ledgers.{feed_keys}
use Rattle.ledger.specs.OfLedger.{state_of}
use Rattle.ledger.proofs.Besides.{beside_none, beside_more}
use Rattle.ledger.proofs.Feeding.{fed_more}
use Rattle.ledger.proofs.Ledger.take_keys.Goals as goal

pub loop-key-init : goal.loop-key-init
loop-key-init g c =
    let all = ap left_keys c.into_iter-key-iterator.ensures.into_iter_gives in (
      omega (arith, c.requires, ap length all),
      beside_none c.args.self.now,
      ap (λ xs. feed_keys g.K.Key.before (state_of c.args.self.now) c.change-change.result xs 0) all,
    )

pub returns-in_err-map_err-clause-beside : goal.returns-in_err-map_err-clause-beside
returns-in_err-map_err-clause-beside g c = beside_more _ _ _ c.loop-key.invariant.1 c.change.ensures.beside

pub loop-key-preserved : goal.loop-key-preserved
loop-key-preserved g c =
    let inv = c.loop-key.invariant in
    let ok : c.change.result ≡ Ok tt = search rules in
    let more = c.in-Some.ensures.steps.0 in
    let e = c.change.ensures.exact in (
      omega (arith, inv.0, ap length more),
      beside_more _ _ _ inv.1 c.change.ensures.beside,
      sym (fed_more g.K.Key.before (state_of c.loop-key.self) c.change-change.result c.in-Some.key _ _ c.loop-key.taken more _ (sym ok ∙ e.0) e.1) ∙ inv.2,
    )
