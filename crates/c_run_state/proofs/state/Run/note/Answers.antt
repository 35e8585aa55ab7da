-- A thing is noted where it is the next block, and what was freed is.
use Rattle.std.proofs.Common.{◌≡◌, ◌∙◌, length, sym, subst, arith}
use Rattle.std.proofs.lemmas.Result.{on_ok_weaker}
use Rattle.cell_heap.specs.Heap.{cells_of}
use Rattle.glib_model.specs.Ends.{noted, cells_in}
use Rattle.c_run_state.specs.Shows.{Books}
use Rattle.c_run_state.proofs.Answering.{made_next, made_other}
use Rattle.c_run_state.proofs.state.Run.note.Goals as goal

pub returns-in_ok-note_thing-in-Made-clause-noted : goal.returns-in_ok-note_thing-in-Made-clause-noted
returns-in_ok-note_thing-in-Made-clause-noted c = λ env s books.
    let heap = c.args.self.now.heap in
    let long : c.len.result ≡ length c.args.self.now.standings.items = c.len.ensures ∙ c.args.self.now.standings.ok.0 in
    subst (λ note. Books env c.note_thing.new.self (noted s heap note)) (sym c.in-Made.is)
    (made_next env c.args.self.now c.note_thing.new.self s heap c.in-Made.block c.in-Made.kind (omega arith) books (c.in_ok-note_thing-in-Made.ensures.made (cells_in (cells_of heap c.in-Made.block)) env s books))

pub returns-else-block-len-clause-noted : goal.returns-else-block-len-clause-noted
returns-else-block-len-clause-noted c = λ env s books.
    let long : c.len.result ≡ length c.args.self.now.standings.items = c.len.ensures ∙ c.args.self.now.standings.ok.0 in
    subst (λ note. Books env c.args.self.now (noted s c.args.self.now.heap note)) (sym c.in-Made.is)
    (made_other env c.args.self.now s c.args.self.now.heap c.in-Made.block c.in-Made.kind (λ e. omega arith) books)

pub returns-in-Freed-clause-noted : goal.returns-in-Freed-clause-noted
returns-in-Freed-clause-noted c =
    on_ok_weaker c.note_freed.result (λ freed env s books. subst (λ note. Books env c.note_freed.new.self (noted s c.args.self.now.heap note)) (sym c.in-Freed.is) (freed env s books)) c.note_freed.ensures.freed

pub returns-in-Dispatch-clause-noted : goal.returns-in-Dispatch-clause-noted
returns-in-Dispatch-clause-noted c =
    on_ok_weaker c.say.result (λ says env s books. subst (λ note. Books env c.say.new.self (noted s c.args.self.now.heap note)) (sym c.in-Dispatch.is) (says env s books)) c.say.ensures.books
