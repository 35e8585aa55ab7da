-- A text is made, or it is too long.
use Rattle.std.proofs.Common.{◌∙◌, ap, ◌++◌, arith}
use Rattle.c_meaning.specs.Texts.{text_cells}
use Rattle.glib_model.proofs.MakingLemmas.{text_made, text_long}
use Rattle.glib_model.proofs.making.give_text.Goals as goal

pub returns-then-bytes-ge-LENGTH_LIMIT : goal.returns-then-bytes-ge-LENGTH_LIMIT
returns-then-bytes-ge-LENGTH_LIMIT c = text_long c.args.heap.now c.args.bytes.now c.quiet.result (omega arith) c.quiet.ensures

pub returns : goal.returns
returns c =
    text_made c.args.heap.now c.give_thing.new.heap c.args.bytes.now c.as_slice.result.now c.give_thing.result (omega arith)
    (c.as_slice.ensures.value ∙ c.in_ok-push_text.ensures ∙ ap (λ xs. xs ++ text_cells c.args.bytes.now) c.new-cells.ensures.items) c.give_thing.ensures.answer c.give_thing.ensures.added
