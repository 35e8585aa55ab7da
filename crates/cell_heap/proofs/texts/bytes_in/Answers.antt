-- One cell after another.
use Rattle.std.proofs.Common.{◌∙◌, ap, sym, ◌+◌, ◌++◌, [], ◌∷◌, drop, arith}
use Rattle.c_meaning.specs.Texts.{bytes_in}
use Rattle.cell_heap.proofs.TextLaws.{behind, reads_first, reads_zero, reads_none, reads_byte, reads_past, pushed}
use Rattle.cell_heap.proofs.texts.bytes_in.Goals as goal

pub loop-cell-init : goal.loop-cell-init
loop-cell-init c = reads_first c.args.cells.now ∙ ap (λ bs. behind bs (bytes_in c.args.cells.now)) (sym c.new-text.ensures.items)

pub returns-in-Ok-eq0-clause-read : goal.returns-in-Ok-eq0-clause-read
returns-in-Ok-eq0-clause-read c =
    reads_zero c.args.cells.now c.loop-cell.text.items c.loop-cell.cell-index _ _ (omega arith) (sym c.byte_of.ensures ∙ c.in-Ok-eq0.is) (omega arith) c.loop-cell.invariant

pub returns-in-Err-clause-refused : goal.returns-in-Err-clause-refused
returns-in-Err-clause-refused c =
    reads_none c.args.cells.now c.loop-cell.text.items c.loop-cell.cell-index _ c.in-Err.kind (omega arith) (sym c.byte_of.ensures ∙ c.in-Err.is) c.loop-cell.invariant

pub loop-cell-preserved : goal.loop-cell-preserved
loop-cell-preserved c =
    let now = pushed c.push.result c.push.new.self.items (c.loop-cell.text.items ++ c.in-Ok.byte ∷ []) c.loop-cell.text.items (sym c.is_err.ensures.value ∙ c.if-is_err.false) c.push.ensures.items in
    reads_byte c.args.cells.now c.loop-cell.text.items c.loop-cell.cell-index _ c.in-Ok.byte (omega arith) (sym c.byte_of.ensures ∙ c.in-Ok.is) (λ none. omega arith) c.loop-cell.invariant
    ∙ ap (λ bs. behind bs (bytes_in (drop (c.loop-cell.cell-index + 1) c.args.cells.now))) (sym now)

pub returns-clause-refused : goal.returns-clause-refused
returns-clause-refused c = reads_past c.args.cells.now c.loop-cell.text.items c.loop-cell.cell-index (omega arith) c.loop-cell.invariant
