-- The block with a number stands at the place before it.
use Rattle.std.proofs.Common.{◌∙◌, refl, sym, ap, length, get_or, ◌<◌, arith}
use Rattle.std.proofs.lemmas.Option.{slice_get_read}
use Rattle.cell_heap.specs.Heap.{cells_of}
use Rattle.cell_heap.proofs.Stored.{cells_there, copied}
use Rattle.cell_heap.proofs.heap.CellHeap.cells.Goals as goal

pub returns : goal.returns
returns c =
    let bs = c.self.inside.numbered.items in
    let lookup = c.in_ok-get.ensures.lookup in
    let same = c.deref.ensures.value in
    let within : c.in_ok-index.index < length bs = (let long = ap length same in let lt = lookup.3.0 in omega arith) in
    let there = slice_get_read bs (length bs) c.in_ok-index.index c.in_ok-get.field-0.now refl within (lookup.1 ∙ ap (λ xs. get_or xs c.in_ok-index.index c.in_ok-get.field-0.now) same) in
    let has = cells_there (λ v. v.items) bs c.args.block c.in_ok-index.index c.in_ok-get.field-0.now c.in_ok-index.ensures.0 c.in_ok-index.ensures.1 there in
    copied (λ v. v.items) c.as_ref.result c.in_ok-get.field-0.now c.as_ref.ensures.value ∙ sym has ∙ ap (λ h. cells_of h c.args.block) c.self.view_is
