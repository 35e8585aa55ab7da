-- One cell after another.
use Rattle.std.proofs.Common.{◌∙◌, ap, ◌+◌, ◌<◌, ◌≤◌, length, set, get_or, arith}
use Rattle.std.specs.Prelude.{pos}
use Rattle.std.proofs.lemmas.List.{take_more, take_all}
use Rattle.c_meaning.specs.declared.cell.Cell.TheVariants.{Int}
use Rattle.c_meaning.specs.Blocks.{over}
use Rattle.cell_heap.proofs.RunStores.{no_room, has_room, over_none, over_more}
use Rattle.cell_heap.proofs.runs.store_run.Goals as goal
use Rattle.cell_heap.proofs.runs.store_run.Goals.{then-start-block-via-then-start-block, then-start-block-via-else-start-block+then-run-block}

pub returns-then-start-block-clause-is_there : goal.returns-then-start-block-clause-is_there
returns-then-start-block-clause-is_there c =
    let long : length c.args.block.now < c.args.at + length c.args.run.now =
    (elim c.then-start-block.branch [ then-start-block-via-then-start-block w ↦ omega arith | then-start-block-via-else-start-block+then-run-block w ↦ omega arith ]) in
    (no_room c.args.block.now c.args.run.now c.args.at long).0

pub returns-then-start-block-clause-stored : goal.returns-then-start-block-clause-stored
returns-then-start-block-clause-stored c =
    let long : length c.args.block.now < c.args.at + length c.args.run.now =
    (elim c.then-start-block.branch [ then-start-block-via-then-start-block w ↦ omega arith | then-start-block-via-else-start-block+then-run-block w ↦ omega arith ]) in
    (no_room c.args.block.now c.args.run.now c.args.at long).1

pub loop-k-init : goal.loop-k-init
loop-k-init c = over_none c.args.block.now c.args.at

pub loop-k-preserved : goal.loop-k-preserved
loop-k-preserved c =
    let room : c.args.at + length c.args.run.now ≤ length c.args.block.now = omega arith in
    let more : c.loop-k.k < length c.args.run.now = omega arith in
    ap (λ b. set b (c.args.at + c.loop-k.k) (get_or c.args.run.now c.loop-k.k (Int (pos 0)))) c.loop-k.invariant
    ∙ over_more c.args.block.now c.args.run.now c.args.at c.loop-k.k (get_or c.args.run.now c.loop-k.k (Int (pos 0))) room more (take_more c.args.run.now c.loop-k.k (Int (pos 0)) more)

pub returns-clause-is_there : goal.returns-clause-is_there
returns-clause-is_there c =
    let room : c.args.at + length c.args.run.now ≤ length c.args.block.now = omega arith in
    (has_room c.args.block.now c.args.run.now c.args.at room).0

pub returns-clause-stored : goal.returns-clause-stored
returns-clause-stored c =
    let room : c.args.at + length c.args.run.now ≤ length c.args.block.now = omega arith in
    let whole : length c.args.run.now ≤ c.loop-k.k = omega arith in
    c.loop-k.invariant ∙ ap (over c.args.block.now c.args.at) (take_all c.loop-k.k c.args.run.now whole) ∙ (has_room c.args.block.now c.args.run.now c.args.at room).1
