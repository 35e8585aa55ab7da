-- Each item is done by its own function.
use Rattle.std.proofs.Common.{◌∙◌, sym, subst, ap, map, slice_get}
use Rattle.std.specs.Option.{option_copied}
use Rattle.std.proofs.lemmas.Result.{on_ok_weaker}
use Rattle.c_meaning.specs.Steps.{keep, scalars}
use Rattle.c_code.specs.Values.{place_seen, value_seen}
use Rattle.c_code.specs.Machine.{body_of, call_cell, enter_frame, perform_if}
use Rattle.c_run_state.specs.Shows.{Shows, frame_seen}
use Rattle.c_steps.specs.Performs.{Does}
use Rattle.c_steps.proofs.Sizes.{sized_statement}
use Rattle.c_steps.proofs.steps.do_item.Goals as goal

pub returns-in-None : goal.returns-in-None
returns-in-None c =
    subst (λ w. Does c.args.routines.now w c.args.run.now c.args.run.now) (sym c.in-Run.is) (λ env p s same all sized live shows.
    subst (λ st. Shows env c.args.run.now (perform_if c.args.routines.now s (frame_seen c.in-Run.frame) st))
    (sym (sym c.statement_at.ensures ∙ ap option_copied c.in-None.is)) shows)

pub returns-in-Some : goal.returns-in-Some
returns-in-Some c =
    on_ok_weaker c.perform.result (λ performs. subst (λ w. Does c.args.routines.now w c.args.run.now c.perform.new.run) (sym c.in-Run.is)
    (λ env p s same all sized live shows.
    let at = sym c.statement_at.ensures ∙ ap option_copied c.in-Some.is in
    subst (λ st. Shows env c.perform.new.run (perform_if c.args.routines.now s (frame_seen c.in-Run.frame) st)) (sym at)
    (performs env s (sized_statement env c.args.routines.now (frame_seen c.in-Run.frame) c.in-Some.statement.now all at) live shows))) c.perform.ensures

pub returns-in-Enter : goal.returns-in-Enter
returns-in-Enter c =
    on_ok_weaker c.enter_frame.result
    (λ enters. subst (λ w. Does c.args.routines.now w c.args.run.now c.enter_frame.new.run) (sym c.in-Enter.is) (λ env p s same all sized live shows.
    subst (λ vs. Shows env c.enter_frame.new.run
    (enter_frame s c.in-Enter.number (map value_seen vs) (body_of (slice_get c.args.routines.now c.in-Enter.number)))) c.as_slice.ensures.value
    (enters env s live shows))) c.enter_frame.ensures

pub returns-in-Ask : goal.returns-in-Ask
returns-in-Ask c =
    on_ok_weaker c.ask.result (λ asks. subst (λ w. Does c.args.routines.now w c.args.run.now c.ask.new.run) (sym c.in-Ask.is)
    (λ env p s same all sized live shows.
    subst (λ cells. Shows env c.ask.new.run (call_cell c.args.routines.now s (scalars cells) c.in-Ask.cell)) c.as_slice-in-Ask.ensures.value
    (asks env s live shows))) c.ask.ensures

pub returns-in-Keep : goal.returns-in-Keep
returns-in-Keep c =
    on_ok_weaker c.keep.result (λ keeps. subst (λ w. Does c.args.routines.now w c.args.run.now c.keep.new.run) (sym c.in-Keep.is)
    (λ env p s same all sized live shows. subst (λ e. Shows env c.keep.new.run (keep e s (place_seen c.in-Keep.place) c.in-Keep.taken.kind s.given)) (sym same)
    (keeps env s sized live shows))) c.keep.ensures

pub returns-in-Finish : goal.returns-in-Finish
returns-in-Finish c =
    on_ok_weaker c.finish.result (λ finishes. subst (λ w. Does c.args.routines.now w c.args.run.now c.finish.new.self) (sym c.in-Finish.is)
    (λ env p s same all sized live shows. finishes env s shows)) c.finish.ensures
