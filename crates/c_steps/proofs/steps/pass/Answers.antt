-- Behind the last statement the frame ends; statements are passed over.
use Rattle.std.proofs.Common.{◌∙◌, sym, subst, ap, Some, None, slice_get}
use Rattle.std.specs.Option.{option_copied}
use Rattle.std.proofs.lemmas.Result.{on_ok_weaker}
use Rattle.c_code.specs.Machine.{gives_nothing, pass_by}
use Rattle.c_run_state.specs.Shows.{Shows, frame_seen}
use Rattle.c_steps.proofs.steps.pass.Goals as goal

pub returns-in-None : goal.returns-in-None
returns-in-None c =
    on_ok_weaker c.end_body.result (λ ended env p s same sized live shows.
    let f = frame_seen c.args.frame in
    let none = sym c.statement_at.ensures ∙ ap option_copied c.in-None.is in
    subst (λ st. Shows env c.end_body.new.self (pass_by s f (gives_nothing (slice_get c.args.routines.now c.args.frame.routine)) st)) (sym none)
    (subst (λ void. Shows env c.end_body.new.self (pass_by s f void None)) c.gives_nothing.ensures (ended env s shows))) c.end_body.ensures

pub returns-in-Some-Pass : goal.returns-in-Some-Pass
returns-in-Some-Pass c =
    on_ok_weaker c.skip.result (λ skipped env p s same sized live shows.
    let f = frame_seen c.args.frame in
    let passed = sym c.statement_at.ensures ∙ ap option_copied c.in-Some-Pass.is ∙ ap Some c.in-Some-Pass.field-0-is in
    subst (λ st. Shows env c.skip.new.self (pass_by s f (gives_nothing (slice_get c.args.routines.now c.args.frame.routine)) st)) (sym passed)
    (skipped env s shows)) c.skip.ensures
