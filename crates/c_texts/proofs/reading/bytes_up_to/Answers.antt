-- One cell after another.
use Rattle.std.proofs.Common.{◌∙◌, ap, sym, ◌+◌, ◌-◌, ◌<◌, ◌++◌, [], ◌∷◌, drop, length, arith}
use Rattle.c_meaning.specs.Texts.{bytes_up_to}
use Rattle.cell_heap.proofs.TextLaws.{behind, pushed}
use Rattle.c_texts.proofs.ReadingLemmas.{up_to_zero, up_to_none, up_to_byte, up_to_past}
use Rattle.std.proofs.lemmas.List.{length-append}
use Rattle.c_texts.proofs.reading.bytes_up_to.Goals as goal

pub returns-in-Ok-eq0 : goal.returns-in-Ok-eq0
returns-in-Ok-eq0 c =
    let room : c.loop-cell.cell-index < c.args.most = omega (arith, c.len.ensures) in
    up_to_zero c.args.most c.args.cells.now c.loop-cell.text.items c.loop-cell.cell-index _ _ room (omega arith) (sym c.byte_of.ensures ∙ c.in-Ok-eq0.is) (omega arith) c.loop-cell.invariant.2

pub returns-in-Err : goal.returns-in-Err
returns-in-Err c =
    let room : c.loop-cell.cell-index < c.args.most = omega (arith, c.len.ensures) in
    up_to_none c.args.most c.args.cells.now c.loop-cell.text.items c.loop-cell.cell-index _ c.in-Err.kind room (omega arith) (sym c.byte_of.ensures ∙ c.in-Err.is) c.loop-cell.invariant.2

pub loop-cell-preserved : goal.loop-cell-preserved
loop-cell-preserved c =
    let room : c.loop-cell.cell-index < c.args.most = omega (arith, c.len.ensures) in
    let now = pushed c.push.result c.push.new.self.items (c.loop-cell.text.items ++ c.in-Ok.byte ∷ []) c.loop-cell.text.items (sym c.is_err.ensures.value ∙ c.if-is_err.false) c.push.ensures.items in (
      ap length now ∙ length-append c.loop-cell.text.items (c.in-Ok.byte ∷ []) ∙ ap (λ n. n + 1) c.loop-cell.invariant.0,
      omega arith,
      up_to_byte c.args.most c.args.cells.now c.loop-cell.text.items c.loop-cell.cell-index _ c.in-Ok.byte room (omega arith) (sym c.byte_of.ensures ∙ c.in-Ok.is) (λ none. omega arith) c.loop-cell.invariant.2
          ∙ ap (λ bs. behind bs (bytes_up_to (c.args.most - (c.loop-cell.cell-index + 1)) (drop (c.loop-cell.cell-index + 1) c.args.cells.now))) (sym now),
    )

pub returns-else-len-most-2 : goal.returns-else-len-most-2
returns-else-len-most-2 c =
    let room : c.loop-cell.cell-index < c.args.most = omega (arith, c.len-2.ensures) in
    up_to_past c.args.most c.args.cells.now c.loop-cell.text.items c.loop-cell.cell-index room (omega arith) c.loop-cell.invariant.2
