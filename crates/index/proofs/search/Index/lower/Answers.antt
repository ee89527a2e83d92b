use Rattle.std.proofs.Common.{◌≡◌, false, get_or, sym, subst, arith}
use Rattle.places.specs.Rows.{rows}
use Rattle.index.proofs.Tables.{row_count}
use Rattle.index.proofs.search.Index.lower.Goals as goal

pub returns : goal.returns
returns g c =
    let n = row_count c.args.self.now.table.now c.args.self.now.used c.args.self.now.room c.args.self.now.placed in
    let e : c.loop-lo.lo ≡ c.loop-lo.hi = omega arith in
    record {
      within = omega arith;
      edge = record {
        within = omega arith;
        under = c.loop-lo.invariant.2;
        here = λ d lt. subst (λ k. g.K.Key.before (get_or (rows c.args.self.now.table.now c.args.self.now.used) k d).key c.args.key ≡ false) (sym e) (c.loop-lo.invariant.3 d (omega arith));
      };
    }
