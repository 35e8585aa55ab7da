-- Each item is done by its own function.
use Rattle.std.proofs.Common.{sym, subst}
use Rattle.std.proofs.lemmas.Result.{on_ok_weaker}
use Rattle.c_meaning.specs.Steps.{keep}
use Rattle.c_code.specs.Values.{place_seen}
use Rattle.c_run_state.specs.Shows.{Shows}
use Rattle.c_steps.specs.Performs.{DoesSilently}
use Rattle.c_steps.proofs.steps.do_silent.Goals as goal

pub returns-in-Run : goal.returns-in-Run
returns-in-Run c = on_ok_weaker c.pass.result (subst (λ w. DoesSilently c.args.routines.now w c.args.run.now c.pass.new.run) (sym c.in-Run.is)) c.pass.ensures

pub returns-in-Keep : goal.returns-in-Keep
returns-in-Keep c =
    on_ok_weaker c.keep.result (λ keeps. subst (λ w. DoesSilently c.args.routines.now w c.args.run.now c.keep.new.run) (sym c.in-Keep.is)
    (λ env p s same sized live shows. subst (λ e. Shows env c.keep.new.run (keep e s (place_seen c.in-Keep.place) c.in-Keep.taken.kind s.given)) (sym same)
    (keeps env s sized live shows))) c.keep.ensures

pub returns-in-Finish : goal.returns-in-Finish
returns-in-Finish c =
    on_ok_weaker c.finish.result (λ finishes. subst (λ w. DoesSilently c.args.routines.now w c.args.run.now c.finish.new.self) (sym c.in-Finish.is)
    (λ env p s same sized live shows. finishes env s shows)) c.finish.ensures

pub returns-in-Enter : goal.returns-in-Enter
returns-in-Enter c = subst (λ w. DoesSilently c.args.routines.now w c.args.run.now c.args.run.now) (sym c.in-Enter.is) (λ env p s same sized live shows. shows)

pub returns-in-Ask : goal.returns-in-Ask
returns-in-Ask c = subst (λ w. DoesSilently c.args.routines.now w c.args.run.now c.args.run.now) (sym c.in-Ask.is) (λ env p s same sized live shows. shows)
