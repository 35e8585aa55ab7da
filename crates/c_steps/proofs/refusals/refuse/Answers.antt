-- A use without a meaning ends the run.
use Rattle.std.proofs.Common.{sym, subst}
use Rattle.std.proofs.lemmas.Result.{on_ok_weaker}
use Rattle.c_steps.specs.Performs.{Refusing}
use Rattle.c_steps.proofs.refusals.refuse.Goals as goal

pub returns-in-Refused : goal.returns-in-Refused
returns-in-Refused c =
    on_ok_weaker c.undefined.result (λ ends. subst (λ f. Refusing f c.args.run.now c.undefined.new.run) (sym c.in-Refused.is) ends) c.undefined.ensures
