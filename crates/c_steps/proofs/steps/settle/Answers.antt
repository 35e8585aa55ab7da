-- One item after another is done, as long as the next takes no step.
use Rattle.std.proofs.Common.{◌-◌, ◌+◌, arith}
use Rattle.c_steps.proofs.Settling.{begun, gone_on, settled_by_all, settled_by_one}
use Rattle.c_steps.proofs.steps.settle.Goals as goal

pub loop-done-init : goal.loop-done-init
loop-done-init c = begun c.args.routines.now c.args.most (c.args.most - 0) c.args.run.now (omega arith)

pub returns-then-not-next_is_silent : goal.returns-then-not-next_is_silent
returns-then-not-next_is_silent c =
    settled_by_one c.args.routines.now c.args.most
    (c.args.most - c.loop-done.done) c.args.run.now c.loop-done.run c.next_is_silent.result c.loop-done.invariant c.next_is_silent.ensures c.if-not-next_is_silent.true

pub loop-done-preserved : goal.loop-done-preserved
loop-done-preserved c =
    gone_on c.args.routines.now c.args.most (c.args.most - c.loop-done.done)
    (c.args.most - (c.loop-done.done + 1)) c.args.run.now c.loop-done.run c.do_next_silent.new.run c.next_is_silent.result (omega arith)
    c.loop-done.invariant c.next_is_silent.ensures c.if-not-next_is_silent.false c.in_ok-do_next_silent.ensures

pub returns : goal.returns
returns c = settled_by_all c.args.routines.now c.args.most (c.args.most - c.loop-done.done) c.args.run.now c.loop-done.run (omega arith) c.loop-done.invariant
