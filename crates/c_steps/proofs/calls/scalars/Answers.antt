-- One more cell is a value.
use Rattle.std.proofs.Common.{◌∙◌, sym, ap, arith}
use Rattle.std.proofs.lemmas.List.{take_all}
use Rattle.c_meaning.specs.Steps.{scalars}
use Rattle.c_steps.proofs.Entered.{one_more_scalar, stands_last}
use Rattle.c_steps.proofs.calls.scalars.Goals as goal

pub loop-cell-preserved : goal.loop-cell-preserved
loop-cell-preserved c =
    one_more_scalar c.args.cells.now c.loop-cell.cell-index _ c.loop-cell.values.items c.push.new.self.items (omega arith)
    (stands_last c.push.result c.push.new.self.items _ c.loop-cell.values.items (sym c.is_err.ensures.value ∙ c.if-is_err.false) c.push.ensures.items)
    c.loop-cell.invariant

pub returns : goal.returns
returns c = c.loop-cell.invariant ∙ ap scalars (take_all c.loop-cell.cell-index c.args.cells.now (omega arith))
