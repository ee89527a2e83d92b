use Rattle.std.proofs.Common.{Err, sym, refl, ap, ◌∙◌}
use Rattle.std.proofs.lemmas.Result.{err_from_is_err_and}
use Rattle.refusals.specs.declared.Fault.TheVariants.{Frame}
use Rattle.frame_laws.proofs.Listings.{keys_few}
use Rattle.frames.specs.Heads.{both}
use Rattle.ledger_rules.specs.Ledgers.{fed_by}
use Rattle.ledger_rules.specs.Tallies.{feed_event, then_call}
use Rattle.ledger.specs.OfLedger.{state_of}
use Rattle.ledger.proofs.Besides.{beside_none}
use Rattle.ledger.proofs.Ledger.feed.Goals as goal

pub returns-in_err-keys : goal.returns-in_err-keys
returns-in_err-keys g c =
    let l = c.args.self.now in
    let p = err_from_is_err_and c.from_residual.result c.from_residual.ensures.1 in
    let fed = sym (ap (fed_by g.K.Key.before (state_of l)) c.in_err-keys.ensures) in
    rw (p.1, p.2) (record {
      refused = λ e is. record { books = record { table = refl; fills = refl; same_width = refl }; share = refl; retracts = refl };
      beside = beside_none l;
      exact = (ap (λ q. q.0) fed, ap (λ q. q.1) fed);
      run = λ es r. then_call {e = feed_event c.args.frame.now (Err (Frame c.in_err-keys.field-0.0))} r (ap (λ q. q.0) fed, ap (λ q. q.1) fed);
    })

pub take_keys-requires : goal.take_keys-requires
take_keys-requires g c =
    keys_few g.K.Key.BYTES g.K.Key.bytes g.K.Key.key g.met.K.Key.long g.met.K.Key.back g.met.K.Key.forth both c.args.frame.now _ _ c.in_ok-keys.ensures

pub returns : goal.returns
returns g c =
    let l = c.args.self.now in
    let fed = sym (ap (fed_by g.K.Key.before (state_of l)) c.in_ok-keys.ensures) in
    let t = c.take_keys.ensures.exact in
    record {
      refused = λ e is. absurd (c.take_keys.ensures.sample e is);
      beside = c.take_keys.ensures.beside;
      exact = (t.0 ∙ ap (λ q. q.0) fed, t.1 ∙ ap (λ q. q.1) fed);
      run = λ es r. then_call r (t.0 ∙ ap (λ q. q.0) fed, t.1 ∙ ap (λ q. q.1) fed);
    }
