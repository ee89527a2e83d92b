use Rattle.std.proofs.Common.{ℕ, ◌+◌, List, set, refl, ap, ◌∙◌, arith}
use Rattle.std.specs.List.{remove}
use Rattle.std.proofs.lemmas.List.Edits.{length-remove}
use Rattle.std.proofs.lemmas.List.{length-map}
use Rattle.places.specs.Columns.{indices}
use Rattle.places.proofs.Moves.{gap_start, gap_up}
use Rattle.index.proofs.Tables.{beside_none, beside_more}
use Rattle.index.proofs.shift.shift_up.Goals as goal

pub loop-i-init : goal.loop-i-init
loop-i-init g c =
    let long = length-map c.args.table.now (λ p. p.index) in
    record { index = gap_start (indices c.args.table.now) c.args.from c.index_at-moving.result (omega arith); records = refl; beside = beside_none _ }

pub loop-i-preserved : goal.loop-i-preserved
loop-i-preserved g c =
    let xs : List ℕ = indices c.args.table.now in
    let long = length-map c.args.table.now (λ p. p.index) in
    let less = length-remove xs c.args.from (omega arith) in
    let so_far = c.loop-i.invariant in
    record {
      index = ap (λ l. set l (c.loop-i.i + 1) c.index_at-moving.result) (c.set_index.ensures.index ∙ ap (set (indices c.loop-i.table) c.loop-i.i) c.index_at-next.ensures)
          ∙ gap_up (indices c.loop-i.table) (remove xs c.args.from) c.loop-i.i (c.loop-i.i + 1) c.index_at-moving.result so_far.index (omega arith) (omega arith);
      records = c.set_index.ensures.records ∙ so_far.records;
      beside = beside_more so_far.beside c.set_index.ensures.beside;
    }
