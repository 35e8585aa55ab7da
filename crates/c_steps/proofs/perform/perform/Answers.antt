-- Each statement is done by its own function.
use Rattle.std.proofs.Common.{sym, subst}
use Rattle.std.proofs.lemmas.Result.{on_ok_weaker}
use Rattle.c_code.specs.declared.program.Statement.TheVariants as statement
use Rattle.c_steps.specs.Performs.{Performs}
use Rattle.c_steps.proofs.perform.perform.Goals as goal

pub returns-in-Test : goal.returns-in-Test
returns-in-Test c =
    on_ok_weaker c.test.result (subst (λ st. Performs c.args.routines.now c.args.frame st c.args.run.now c.test.new.run) (sym c.in-Test.is)) c.test.ensures

pub returns-in-TestJump : goal.returns-in-TestJump
returns-in-TestJump c =
    on_ok_weaker c.test_jump.result
    (subst (λ st. Performs c.args.routines.now c.args.frame st c.args.run.now c.test_jump.new.run) (sym c.in-TestJump.is)) c.test_jump.ensures

pub returns-in-Assign : goal.returns-in-Assign
returns-in-Assign c =
    on_ok_weaker c.assign.result (subst (λ st. Performs c.args.routines.now c.args.frame st c.args.run.now c.assign.new.run)
    (sym c.in-Assign.is)) c.assign.ensures

pub returns-in-Call : goal.returns-in-Call
returns-in-Call c =
    on_ok_weaker c.call_only.result
    (subst (λ st. Performs c.args.routines.now c.args.frame st c.args.run.now c.call_only.new.run) (sym c.in-Call.is)) c.call_only.ensures

pub returns-in-Store : goal.returns-in-Store
returns-in-Store c =
    on_ok_weaker c.store.result (subst (λ st. Performs c.args.routines.now c.args.frame st c.args.run.now c.store.new.run) (sym c.in-Store.is)) c.store.ensures

pub returns-in-Switch : goal.returns-in-Switch
returns-in-Switch c =
    on_ok_weaker c.switch.result (λ does. subst (λ st. Performs c.args.routines.now c.args.frame st c.args.run.now c.switch.new.run) (sym c.in-Switch.is)
    (subst (λ cases. Performs c.args.routines.now c.args.frame
    (statement.Switch c.in-Switch.value cases c.in-Switch.default) c.args.run.now c.switch.new.run) c.as_slice.ensures does)) c.switch.ensures

pub returns-in-Return : goal.returns-in-Return
returns-in-Return c =
    on_ok_weaker c.return_value.result (λ does. subst (λ st. Performs c.args.routines.now c.args.frame st c.args.run.now c.return_value.new.run) (sym c.in-Return.is)
    (subst (λ o. Performs c.args.routines.now c.args.frame
    (statement.Return o) c.args.run.now c.return_value.new.run) c.as_ref.ensures.value does)) c.return_value.ensures

pub returns-in-Jump : goal.returns-in-Jump
returns-in-Jump c =
    on_ok_weaker c.at_place.result
    (λ goes. subst (λ st. Performs c.args.routines.now c.args.frame st c.args.run.now c.at_place.new.self) (sym c.in-Jump.is)
    (λ env s sized live shows. goes env s shows)) c.at_place.ensures

pub returns-in-Onward : goal.returns-in-Onward
returns-in-Onward c =
    on_ok_weaker c.onward.result (λ goes. subst (λ st. Performs c.args.routines.now c.args.frame st c.args.run.now c.onward.new.self) (sym c.in-Onward.is)
    (λ env s sized live shows. goes env s shows)) c.onward.ensures

pub returns-in-Pass : goal.returns-in-Pass
returns-in-Pass c =
    on_ok_weaker c.onward-in-Pass.result
    (λ goes. subst (λ st. Performs c.args.routines.now c.args.frame st c.args.run.now c.onward-in-Pass.new.self) (sym c.in-Pass.is)
    (λ env s sized live shows. goes env s shows)) c.onward-in-Pass.ensures
