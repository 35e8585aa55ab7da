-- The block with a number stands at the place before it, and keeps its length.
use Rattle.std.proofs.Common.{◌≡◌, ◌∙◌, refl, sym, ap, length, Some, None}
use Rattle.std.specs.Prelude.{is_some, slice_get}
use Rattle.std.specs.Option.{option_map, option_and_then}
use Rattle.std.proofs.lemmas.List.{length-set}
use Rattle.std.proofs.lemmas.Option.{slice_get_read}
use Rattle.cell_heap.specs.Heap.{cells_of, cell_at, with_block, with_cell, stored}
use Rattle.cell_heap.proofs.StateLaws.{freed_dead}
use Rattle.cell_heap.proofs.Stored.{listed, cells_there, put_there, held-stored, cell_there, store_there, store_nowhere}
use Rattle.cell_heap.proofs.heap.CellHeap.set.Goals as goal

pub returns-in_default-place-clause-is_there : goal.returns-in_default-place-clause-is_there
returns-in_default-place-clause-is_there c =
    let bs = c.self.inside.numbered.items in
    let there = slice_get_read bs (length bs) c.in-Some.index c.in-Some-get_mut.place.now refl c.in-Some-get_mut.ensures.item.3.0 c.in-Some-get_mut.ensures.value in
    let has = cells_there (λ v. v.items) bs c.args.block c.in-Some.index c.in-Some-get_mut.place.now c.in-Some.ensures.0 c.in-Some.ensures.1 there in
    sym (ap (λ o. is_some (option_and_then (λ cells. slice_get cells c.args.at) (option_map (λ v. v.items) o))) c.in_default-place.is)
    ∙ ap (λ o. is_some (option_and_then (λ cells. slice_get cells c.args.at) o)) (sym has) ∙ ap (λ h. is_some (cell_at h c.args.block c.args.at)) c.self.view_is

pub returns-in_default-place-clause-stored : goal.returns-in_default-place-clause-stored
returns-in_default-place-clause-stored c =
    let bs = c.self.inside.numbered.items in
    let h = listed (λ v. v.items) bs in
    let there = slice_get_read bs (length bs) c.in-Some.index c.in-Some-get_mut.place.now refl c.in-Some-get_mut.ensures.item.3.0 c.in-Some-get_mut.ensures.value in
    let has = cells_there (λ v. v.items) bs c.args.block c.in-Some.index c.in-Some-get_mut.place.now c.in-Some.ensures.0 c.in-Some.ensures.1 there in
    let none : cells_of h c.args.block ≡ None = has ∙ ap (option_map (λ v. v.items)) c.in_default-place.is in
    put_there (λ v. v.items) bs c.args.block c.in-Some.index c.in-Some-get_mut.place.now c.in-Some.ensures.0 c.in-Some.ensures.1
    ∙ ap (λ o. with_block h c.args.block (option_map (λ v. v.items) o)) c.in_default-place.is ∙ freed_dead h c.args.block none
    ∙ ap (with_cell h c.args.block c.args.at c.args.cell) (sym none) ∙ ap (λ g. stored g c.args.block c.args.at c.args.cell) c.self.view_is

pub invariant_of-self-2 : goal.invariant_of-self-2
invariant_of-self-2 c =
    let bs = c.self.inside.numbered.items in
    let there = slice_get_read bs (length bs) c.in-Some.index c.in-Some-get_mut.place.now refl c.in-Some-get_mut.ensures.item.3.0 c.in-Some-get_mut.ensures.value in
    let long = ap length c.store.ensures.stored ∙ length-set c.in-Some-place.cells.items c.args.at c.args.cell in
    c.self.invariant ∙ sym (held-stored (λ v. v.items) bs c.in-Some.index c.in-Some-place.cells c.store.new.block (there ∙ ap (λ o. Some o) c.in-Some-place.is) long)

pub returns-clause-is_there : goal.returns-clause-is_there
returns-clause-is_there c =
    let bs = c.self.inside.numbered.items in
    let there = slice_get_read bs (length bs) c.in-Some.index c.in-Some-get_mut.place.now refl c.in-Some-get_mut.ensures.item.3.0 c.in-Some-get_mut.ensures.value in
    let at = cell_there (λ v. v.items) bs c.args.block c.in-Some.index c.in-Some-place.cells c.args.at c.in-Some.ensures.0 c.in-Some.ensures.1 (there ∙ ap (λ o. Some o) c.in-Some-place.is) in
    c.store.ensures.is_there ∙ ap is_some (sym at) ∙ ap (λ h. is_some (cell_at h c.args.block c.args.at)) c.self.view_is

pub returns-clause-stored : goal.returns-clause-stored
returns-clause-stored c =
    let bs = c.self.inside.numbered.items in
    let there = slice_get_read bs (length bs) c.in-Some.index c.in-Some-get_mut.place.now refl c.in-Some-get_mut.ensures.item.3.0 c.in-Some-get_mut.ensures.value in
    store_there (λ v. v.items) bs c.args.block c.in-Some.index c.in-Some-place.cells c.store.new.block c.args.at c.args.cell c.in-Some.ensures.0 c.in-Some.ensures.1
    (there ∙ ap (λ o. Some o) c.in-Some-place.is) c.store.ensures.stored
    ∙ ap (λ h. stored h c.args.block c.args.at c.args.cell) c.self.view_is

pub returns-clause-unchanged : goal.returns-clause-unchanged
returns-clause-unchanged c = λ none.
    let bs = c.self.inside.numbered.items in
    let there = slice_get_read bs (length bs) c.in-Some.index c.in-Some-get_mut.place.now refl c.in-Some-get_mut.ensures.item.3.0 c.in-Some-get_mut.ensures.value in
    store_nowhere (λ v. v.items) bs c.args.block c.in-Some.index c.in-Some-place.cells c.store.new.block c.args.at c.args.cell c.in-Some.ensures.0 c.in-Some.ensures.1
    (there ∙ ap (λ o. Some o) c.in-Some-place.is) c.store.ensures.stored (sym c.store.ensures.is_there ∙ none)
    ∙ c.self.view_is
