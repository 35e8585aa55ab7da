-- The block with a number stands at the place before it, and what it held goes.
use Rattle.std.proofs.Common.{◌≡◌, ◌∙◌, refl, sym, ap, length, Some, None, arith, set}
use Rattle.std.specs.Prelude.{is_some}
use Rattle.std.specs.Option.{option_map}
use Rattle.std.proofs.lemmas.Option.{slice_get_read}
use Rattle.cell_heap.specs.Heap.{cells_of, with_block}
use Rattle.cell_heap.specs.Sizes.{class_cells, held}
use Rattle.cell_heap.proofs.Stored.{listed, cells_there, put_there, held-freed}
use Rattle.cell_heap.proofs.heap.CellHeap.free.Goals as goal

pub returns-in_default-take-clause-was_live : goal.returns-in_default-take-clause-was_live
returns-in_default-take-clause-was_live c =
    let bs = c.self.inside.numbered.items in
    let there = slice_get_read bs (length bs) c.in-Some.index c.in-Some-get_mut.place.now refl c.in-Some-get_mut.ensures.item.3.0 c.in-Some-get_mut.ensures.value in
    let has = cells_there (λ v. v.items) bs c.args.block c.in-Some.index c.in-Some-get_mut.place.now c.in-Some.ensures.0 c.in-Some.ensures.1 there in
    ap (λ o. is_some (option_map (λ v. v.items) o)) c.in_default-take.ensures.value ∙ ap is_some (sym has) ∙ ap (λ h. is_some (cells_of h c.args.block)) c.self.view_is

pub returns-in_default-take-clause-freed : goal.returns-in_default-take-clause-freed
returns-in_default-take-clause-freed c =
    let bs = c.self.inside.numbered.items in
    put_there (λ v. v.items) bs c.args.block c.in-Some.index c.take.new.self c.in-Some.ensures.0 c.in-Some.ensures.1
    ∙ ap (λ o. with_block (listed (λ v. v.items) bs) c.args.block (option_map (λ v. v.items) o)) c.take.ensures.after ∙ ap (λ h. with_block h c.args.block None) c.self.view_is

pub overflow_sub-self : goal.overflow_sub-self
overflow_sub-self c =
    let bs = c.self.inside.numbered.items in
    let there = slice_get_read bs (length bs) c.in-Some.index c.in-Some-get_mut.place.now refl c.in-Some-get_mut.ensures.item.3.0 c.in-Some-get_mut.ensures.value in
    let gone = held-freed (λ v. v.items) bs c.in-Some.index c.in-Some-take.cells (there ∙ ap (λ o. Some o) (sym c.in-Some-take.ensures.value)) in
    let long : c.len.result ≡ length c.in-Some-take.cells.items = c.len.ensures ∙ c.in-Some-take.cells.ok.0 in
    let class : c.class_cells.result ≡ class_cells (length c.in-Some-take.cells.items) = c.class_cells.ensures ∙ ap class_cells long in
    omega (arith, c.self.invariant)

pub invariant_of-self-2 : goal.invariant_of-self-2
invariant_of-self-2 c =
    let bs = c.self.inside.numbered.items in
    let there = slice_get_read bs (length bs) c.in-Some.index c.in-Some-get_mut.place.now refl c.in-Some-get_mut.ensures.item.3.0 c.in-Some-get_mut.ensures.value in
    let gone = held-freed (λ v. v.items) bs c.in-Some.index c.in-Some-take.cells (there ∙ ap (λ o. Some o) (sym c.in-Some-take.ensures.value)) in
    let long : c.len.result ≡ length c.in-Some-take.cells.items = c.len.ensures ∙ c.in-Some-take.cells.ok.0 in
    let class : c.class_cells.result ≡ class_cells (length c.in-Some-take.cells.items) = c.class_cells.ensures ∙ ap class_cells long in
    let now = ap (λ o. held (listed (λ v. v.items) (set bs c.in-Some.index o))) c.take.ensures.after in
    omega (arith, c.self.invariant)

pub returns-clause-was_live : goal.returns-clause-was_live
returns-clause-was_live c =
    let bs = c.self.inside.numbered.items in
    let there = slice_get_read bs (length bs) c.in-Some.index c.in-Some-get_mut.place.now refl c.in-Some-get_mut.ensures.item.3.0 c.in-Some-get_mut.ensures.value in
    let has = cells_there (λ v. v.items) bs c.args.block c.in-Some.index c.in-Some-get_mut.place.now c.in-Some.ensures.0 c.in-Some.ensures.1 there in
    ap (λ o. is_some (option_map (λ v. v.items) o)) c.in-Some-take.ensures.value ∙ ap is_some (sym has) ∙ ap (λ h. is_some (cells_of h c.args.block)) c.self.view_is

pub returns-clause-freed : goal.returns-clause-freed
returns-clause-freed c =
    let bs = c.self.inside.numbered.items in
    put_there (λ v. v.items) bs c.args.block c.in-Some.index c.take.new.self c.in-Some.ensures.0 c.in-Some.ensures.1
    ∙ ap (λ o. with_block (listed (λ v. v.items) bs) c.args.block (option_map (λ v. v.items) o)) c.take.ensures.after ∙ ap (λ h. with_block h c.args.block None) c.self.view_is
