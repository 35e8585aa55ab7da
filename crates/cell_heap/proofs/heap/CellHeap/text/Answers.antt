-- The cells from the place on are those of the block.
use Rattle.std.proofs.Common.{◌≡◌, ◌∙◌, ap, sym, subst, ℕ, List, drop, Result, Ok}
use Rattle.std.specs.Result.{IfOk, IfErr}
use Rattle.vg_base.specs.declared.event.UndefKind.{UndefKind}
use Rattle.c_meaning.specs.Texts.{bytes_in}
use Rattle.cell_heap.specs.Texts.{text_in, Refuses}
use Rattle.cell_heap.proofs.heap.CellHeap.text.Goals as goal

pub returns-in_default-clause-refused : goal.returns-in_default-clause-refused
returns-in_default-clause-refused c = ap (λ o. text_in o c.args.at) (sym c.in_default.ensures)

pub returns-clause-read : goal.returns-clause-read
returns-clause-read c =
    let same = ap bytes_in (c.cells_from-rest.ensures ∙ ap (drop c.args.at) c.as_slice.ensures.value) ∙ ap (λ o. text_in o c.args.at) c.in-Some.ensures in
    let Reads : Result (List ℕ) UndefKind → Type 0 = λ answer. IfOk c.bytes_in.result (λ text. answer ≡ Ok text.items) in
    subst Reads same c.bytes_in.ensures.read

pub returns-clause-refused : goal.returns-clause-refused
returns-clause-refused c =
    let same = ap bytes_in (c.cells_from-rest.ensures ∙ ap (drop c.args.at) c.as_slice.ensures.value) ∙ ap (λ o. text_in o c.args.at) c.in-Some.ensures in
    let Stops : Result (List ℕ) UndefKind → Type 0 = λ answer. IfErr c.bytes_in.result (λ fault. Refuses fault answer) in
    subst Stops same c.bytes_in.ensures.refused
