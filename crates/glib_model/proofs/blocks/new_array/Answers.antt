-- An array is made, or it is too long.
use Rattle.std.proofs.Common.{◌∙◌, ap, ◌++◌, ◌*◌, replicate, arith}
use Rattle.glib_model.proofs.MakingLemmas.{array_made, array_long}
use Rattle.glib_model.proofs.blocks.new_array.Goals as goal

pub returns-then-count-ge-LENGTH_LIMIT : goal.returns-then-count-ge-LENGTH_LIMIT
returns-then-count-ge-LENGTH_LIMIT c = array_long c.args.heap.now c.args.count (replicate (c.args.count * c.args.cells) c.args.filling) c.quiet.result (omega arith) c.quiet.ensures

pub returns : goal.returns
returns c =
    array_made c.args.heap.now c.give_thing.new.heap c.args.count (replicate (c.args.count * c.args.cells) c.args.filling) c.as_slice.result.now c.give_thing.result (omega arith)
    (c.as_slice.ensures.value ∙ c.in_ok-push_many.ensures ∙ ap (λ xs. xs ++ replicate c.in-Some.size c.args.filling) c.new-array.ensures.items ∙ ap (λ n. replicate n c.args.filling) c.in-Some.ensures.1)
    c.give_thing.ensures.answer c.give_thing.ensures.added
