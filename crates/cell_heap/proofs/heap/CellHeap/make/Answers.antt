-- What the new block holds is added.
use Rattle.std.proofs.Common.{◌≡◌, ◌∙◌, sym, ap, ◌+◌, length, arith}
use Rattle.std.proofs.lemmas.List.{length-replicate}
use Rattle.c_meaning.specs.declared.cell.Cell.TheVariants.{Unset}
use Rattle.cell_heap.specs.Sizes.{class_cells, held}
use Rattle.cell_heap.proofs.Stored.{listed, held-made}
use Rattle.cell_heap.proofs.heap.CellHeap.make.Goals as goal

pub invariant_of-self : goal.invariant_of-self
invariant_of-self c =
    let bs = c.self.inside.numbered.items in
    let now = ap (λ xs. held (listed (λ v. v.items) xs)) c.in-Ok-push.ensures.items in
    let all = held-made (λ v. v.items) bs c.in-Ok.block in
    let long : length c.in-Ok.block.items ≡ c.args.cells = ap length c.in-Ok.ensures ∙ length-replicate c.args.cells Unset in
    let class : c.class_cells.result ≡ class_cells (length c.in-Ok.block.items) = c.class_cells.ensures ∙ ap class_cells (sym long) in
    let sum : c.in-Some.held ≡ c.self.inside.held_cells + c.class_cells.result = c.in-Some.ensures.1 in
    omega (arith, c.self.invariant)
