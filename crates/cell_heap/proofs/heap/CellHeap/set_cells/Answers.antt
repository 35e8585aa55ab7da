-- The block with a number stands at the place before it, and keeps its length.
use Rattle.std.proofs.Common.{◌≡◌, ◌∙◌, refl, sym, ap, length, Some, None}
use Rattle.std.specs.Prelude.{is_some}
use Rattle.std.specs.Option.{option_map, option_and_then}
use Rattle.std.proofs.lemmas.Option.{slice_get_read}
use Rattle.cell_heap.specs.Heap.{cells_of, with_block}
use Rattle.cell_heap.specs.Runs.{part, cells_at, with_run, run_stored}
use Rattle.cell_heap.proofs.StateLaws.{freed_dead}
use Rattle.cell_heap.proofs.Stored.{listed, cells_there, put_there, held-stored}
use Rattle.cell_heap.proofs.RunStores.{length-written, run_there, run_found, run_nowhere}
use Rattle.cell_heap.proofs.heap.CellHeap.set_cells.Goals as goal

pub returns-in_default-place-clause-is_there : goal.returns-in_default-place-clause-is_there
returns-in_default-place-clause-is_there c =
    let bs = c.self.inside.numbered.items in
    let there = slice_get_read bs (length bs) c.in-Some.index c.in-Some-get_mut.place.now refl c.in-Some-get_mut.ensures.item.3.0 c.in-Some-get_mut.ensures.value in
    let has = cells_there (λ v. v.items) bs c.args.block c.in-Some.index c.in-Some-get_mut.place.now c.in-Some.ensures.0 c.in-Some.ensures.1 there in
    sym (ap (λ o. is_some (option_and_then (part c.args.at (length c.args.run.now)) (option_map (λ v. v.items) o))) c.in_default-place.is)
    ∙ ap (λ o. is_some (option_and_then (part c.args.at (length c.args.run.now)) o)) (sym has) ∙ ap (λ h. is_some (cells_at h c.args.block c.args.at (length c.args.run.now))) c.self.view_is

pub returns-in_default-place-clause-stored : goal.returns-in_default-place-clause-stored
returns-in_default-place-clause-stored c =
    let bs = c.self.inside.numbered.items in
    let h = listed (λ v. v.items) bs in
    let there = slice_get_read bs (length bs) c.in-Some.index c.in-Some-get_mut.place.now refl c.in-Some-get_mut.ensures.item.3.0 c.in-Some-get_mut.ensures.value in
    let has = cells_there (λ v. v.items) bs c.args.block c.in-Some.index c.in-Some-get_mut.place.now c.in-Some.ensures.0 c.in-Some.ensures.1 there in
    let none : cells_of h c.args.block ≡ None = has ∙ ap (option_map (λ v. v.items)) c.in_default-place.is in
    put_there (λ v. v.items) bs c.args.block c.in-Some.index c.in-Some-get_mut.place.now c.in-Some.ensures.0 c.in-Some.ensures.1
    ∙ ap (λ o. with_block h c.args.block (option_map (λ v. v.items) o)) c.in_default-place.is ∙ freed_dead h c.args.block none
    ∙ ap (with_run h c.args.block c.args.at c.args.run.now) (sym none) ∙ ap (λ g. run_stored g c.args.block c.args.at c.args.run.now) c.self.view_is

pub invariant_of-self-2 : goal.invariant_of-self-2
invariant_of-self-2 c =
    let bs = c.self.inside.numbered.items in
    let there = slice_get_read bs (length bs) c.in-Some.index c.in-Some-get_mut.place.now refl c.in-Some-get_mut.ensures.item.3.0 c.in-Some-get_mut.ensures.value in
    let long = ap length c.store_cells.ensures.stored ∙ length-written c.in-Some-place.cells.items c.args.run.now c.args.at in
    c.self.invariant ∙ sym (held-stored (λ v. v.items) bs c.in-Some.index c.in-Some-place.cells c.store_cells.new.block (there ∙ ap (λ o. Some o) c.in-Some-place.is) long)

pub returns-clause-is_there : goal.returns-clause-is_there
returns-clause-is_there c =
    let bs = c.self.inside.numbered.items in
    let there = slice_get_read bs (length bs) c.in-Some.index c.in-Some-get_mut.place.now refl c.in-Some-get_mut.ensures.item.3.0 c.in-Some-get_mut.ensures.value in
    let at = run_found (λ v. v.items) bs c.args.block c.in-Some.index c.in-Some-place.cells c.args.at (length c.args.run.now) c.in-Some.ensures.0 c.in-Some.ensures.1 (there ∙ ap (λ o. Some o) c.in-Some-place.is) in
    c.store_cells.ensures.is_there ∙ ap is_some (sym at) ∙ ap (λ h. is_some (cells_at h c.args.block c.args.at (length c.args.run.now))) c.self.view_is

pub returns-clause-stored : goal.returns-clause-stored
returns-clause-stored c =
    let bs = c.self.inside.numbered.items in
    let there = slice_get_read bs (length bs) c.in-Some.index c.in-Some-get_mut.place.now refl c.in-Some-get_mut.ensures.item.3.0 c.in-Some-get_mut.ensures.value in
    run_there (λ v. v.items) bs c.args.block c.in-Some.index c.in-Some-place.cells c.store_cells.new.block c.args.at c.args.run.now c.in-Some.ensures.0 c.in-Some.ensures.1
    (there ∙ ap (λ o. Some o) c.in-Some-place.is) c.store_cells.ensures.stored
    ∙ ap (λ h. run_stored h c.args.block c.args.at c.args.run.now) c.self.view_is

pub returns-clause-unchanged : goal.returns-clause-unchanged
returns-clause-unchanged c = λ none.
    let bs = c.self.inside.numbered.items in
    let there = slice_get_read bs (length bs) c.in-Some.index c.in-Some-get_mut.place.now refl c.in-Some-get_mut.ensures.item.3.0 c.in-Some-get_mut.ensures.value in
    run_nowhere (λ v. v.items) bs c.args.block c.in-Some.index c.in-Some-place.cells c.store_cells.new.block c.args.at c.args.run.now c.in-Some.ensures.0 c.in-Some.ensures.1
    (there ∙ ap (λ o. Some o) c.in-Some-place.is) c.store_cells.ensures.stored (sym c.store_cells.ensures.is_there ∙ none)
    ∙ c.self.view_is
