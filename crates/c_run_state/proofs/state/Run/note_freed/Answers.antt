-- What was live is struck off, and a thing that was is said to be gone.
use Rattle.std.proofs.Common.{◌∙◌, sym, ap, subst}
use Rattle.std.proofs.lemmas.Result.{on_ok_weaker}
use Rattle.c_run_state.specs.Shows.{Books}
use Rattle.c_run_state.specs.Standings.{standing_at}
use Rattle.c_run_state.proofs.Notes.{gone_is, freed_noted, thing_freed}
use Rattle.c_run_state.proofs.state.Run.note_freed.Goals as goal

pub returns-in-Freed-clause-freed : goal.returns-in-Freed-clause-freed
returns-in-Freed-clause-freed c = λ env s books.
    let was = ap (λ xs. standing_at xs c.args.block) (sym c.as_slice.ensures.value) ∙ sym c.standing.ensures ∙ c.in-Freed.is in
    subst (Books env c.undefined.new.self) (sym (gone_is env c.args.self.now s c.args.block was books)) (c.undefined.ensures.books env s books)

pub returns-in-Plain-clause-freed : goal.returns-in-Plain-clause-freed
returns-in-Plain-clause-freed c = λ env s books.
    let was = ap (λ xs. standing_at xs c.args.block) (sym c.as_slice.ensures.value) ∙ sym c.standing.ensures ∙ c.in-Plain.is in
    freed_noted env c.args.self.now s c.args.block c.remove.new.self c.strike.new.standings was c.remove.ensures c.strike.ensures books

pub returns-in-Thing-clause-freed : goal.returns-in-Thing-clause-freed
returns-in-Thing-clause-freed c =
    let was = ap (λ xs. standing_at xs c.args.block) (sym c.as_slice.ensures.value) ∙ sym c.standing.ensures ∙ c.in-Thing.is in
    on_ok_weaker c.append.result (λ says env s books.
    thing_freed env c.args.self.now s c.args.block c.in-Thing.serial c.remove-in-Thing.new.self c.strike-in-Thing.new.standings c.append.new.list was c.remove-in-Thing.ensures c.strike-in-Thing.ensures says books)
    c.append.ensures
