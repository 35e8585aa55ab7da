-- The function is entered if it is defined and each argument fits.
use Rattle.std.proofs.Common.{◌∙◌, sym, ap, subst, map}
use Rattle.std.specs.Option.{option_copied}
use Rattle.std.proofs.lemmas.Result.{on_ok_weaker}
use Rattle.c_meaning.specs.Steps.{enter_with}
use Rattle.c_code.specs.Values.{value_seen}
use Rattle.c_code.specs.Machine.{argument_cells, enter_frame}
use Rattle.c_run_state.specs.Shows.{Shows}
use Rattle.c_texts.specs.Answers.{Answers}
use Rattle.c_steps.proofs.Answered.{done, refused}
use Rattle.c_steps.proofs.entries.enter_frame.Goals as goal

pub returns-in-None : goal.returns-in-None
returns-in-None c =
    on_ok_weaker c.undefined.result (λ ends env s live shows.
    subst (λ b. Shows env c.undefined.new.run (enter_frame s c.args.number (map value_seen c.args.values.now) b))
    (sym (sym c.body_of.ensures ∙ ap option_copied c.in-None.is)) (ends env s live shows)) c.undefined.ensures

pub returns-in-Ok : goal.returns-in-Ok
returns-in-Ok c =
    on_ok_weaker c.enter_with.result (λ enters env s live shows.
    subst (λ b. Shows env c.enter_with.new.self (enter_frame s c.args.number (map value_seen c.args.values.now) b))
    (sym (sym c.body_of.ensures ∙ ap option_copied c.in-Some.is))
    (done (λ cells. cells.items) env c.enter_with.new.self s c.argument_cells.result c.in-Ok.cells
    (λ h. argument_cells c.in-Some.body.now.parameters (map value_seen c.args.values.now)) c.args.run.now.heap
    (enter_with s c.args.number c.in-Some.body.now.cells) shows.heap c.in-Ok.is
    (subst (λ ps. Answers (λ cells. cells.items) c.argument_cells.result
    (argument_cells ps (map value_seen c.args.values.now))) c.as_slice.ensures c.argument_cells.ensures)
    (subst (λ cells. Shows env c.enter_with.new.self (enter_with s c.args.number c.in-Some.body.now.cells cells)) c.as_slice-in-Ok.ensures.value
    (enters env s shows)))) c.enter_with.ensures

pub returns-in-Err : goal.returns-in-Err
returns-in-Err c =
    on_ok_weaker c.refuse.result (λ refusing env s live shows.
    subst (λ b. Shows env c.refuse.new.run (enter_frame s c.args.number (map value_seen c.args.values.now) b))
    (sym (sym c.body_of.ensures ∙ ap option_copied c.in-Some.is))
    (refused (λ cells. cells.items) env c.args.run.now c.refuse.new.run s c.argument_cells.result c.in-Err.fault
    (λ h. argument_cells c.in-Some.body.now.parameters (map value_seen c.args.values.now)) c.args.run.now.heap
    (enter_with s c.args.number c.in-Some.body.now.cells) shows.heap c.in-Err.is
    (subst (λ ps. Answers (λ cells. cells.items) c.argument_cells.result
    (argument_cells ps (map value_seen c.args.values.now))) c.as_slice.ensures c.argument_cells.ensures) refusing live shows)) c.refuse.ensures
