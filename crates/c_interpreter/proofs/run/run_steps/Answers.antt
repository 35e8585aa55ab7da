use Rattle.std.proofs.Common.{◌≡◌, ◌∙◌, sym, subst, Err, Some, None, rules}
use Rattle.c_interpreter.specs.Runs.{RunsSteps, Sinks}
use Rattle.c_interpreter.proofs.RunLaws.{more_told, room_left, runs_all, runs_ended, runs_out, told_stopped}
use Rattle.c_interpreter.proofs.run.run_steps.Goals as goal

pub step-requires : goal.step-requires
step-requires g c =
    let before : Sinks = record { out = g.O.Sink.seen c.args.out.now; err = g.E.Sink.seen c.args.err.now } in
    let mid : Sinks = record { out = g.O.Sink.seen c.loop.out; err = g.E.Sink.seen c.loop.err } in
    room_left c.args.machine.now c.loop.counter c.args.steps 576460752303423488 before c.loop.machine mid c.loop.invariant c.loop-test.true c.requires.room

pub returns-in_default : goal.returns-in_default
returns-in_default g c =
    let before : Sinks = record { out = g.O.Sink.seen c.args.out.now; err = g.E.Sink.seen c.args.err.now } in
    let mid : Sinks = record { out = g.O.Sink.seen c.loop.out; err = g.E.Sink.seen c.loop.err } in
    runs_out c.args.machine.now c.loop.counter c.args.steps before c.loop.machine mid
    c.step.new.self c.in_default.field-0 c.loop.invariant c.loop-test.true c.in_default.ensures.steps

pub returns-in_err-put_told : goal.returns-in_err-put_told
returns-in_err-put_told g c =
    let before : Sinks = record { out = g.O.Sink.seen c.args.out.now; err = g.E.Sink.seen c.args.err.now } in
    let mid : Sinks = record { out = g.O.Sink.seen c.loop.out; err = g.E.Sink.seen c.loop.err } in
    let after : Sinks = record { out = g.O.Sink.seen c.put_told.new.out; err = g.E.Sink.seen c.put_told.new.err } in
    let fault = c.in_err-put_told.field-0.0 in
    let passed : c.from_residual.result ≡ Err fault = search rules in
    subst (λ r. RunsSteps c.args.machine.now c.args.steps before r c.step.new.self after) (sym passed)
    (told_stopped c.args.machine.now c.loop.counter c.args.steps before c.loop.machine mid c.step.new.self after c.in-Ok.told fault c.loop.invariant c.loop-test.true
    c.in-Ok.ensures.steps c.in_err-put_told.ensures)

pub returns-in-Ended : goal.returns-in-Ended
returns-in-Ended g c =
    let before : Sinks = record { out = g.O.Sink.seen c.args.out.now; err = g.E.Sink.seen c.args.err.now } in
    let mid : Sinks = record { out = g.O.Sink.seen c.loop.out; err = g.E.Sink.seen c.loop.err } in
    let after : Sinks = record { out = g.O.Sink.seen c.put_told.new.out; err = g.E.Sink.seen c.put_told.new.err } in
    runs_ended c.args.machine.now c.loop.counter c.args.steps before c.loop.machine mid c.step.new.self after c.in-Ok.told
    c.in-Ended.end c.in_ok-put_told.field-0 c.loop.invariant c.loop-test.true c.in-Ok.ensures.steps c.in_ok-put_told.ensures c.in-Ended.is

pub loop-preserved : goal.loop-preserved
loop-preserved g c =
    let before : Sinks = record { out = g.O.Sink.seen c.args.out.now; err = g.E.Sink.seen c.args.err.now } in
    let mid : Sinks = record { out = g.O.Sink.seen c.loop.out; err = g.E.Sink.seen c.loop.err } in
    let after : Sinks = record { out = g.O.Sink.seen c.put_told.new.out; err = g.E.Sink.seen c.put_told.new.err } in
    more_told c.args.machine.now c.loop.counter before c.loop.machine mid c.step.new.self after c.in-Ok.told
    c.in_ok-put_told.field-0 c.loop.invariant c.in-Ok.ensures.steps c.in_ok-put_told.ensures

pub returns-in-Some : goal.returns-in-Some
returns-in-Some g c =
    let before : Sinks = record { out = g.O.Sink.seen c.args.out.now; err = g.E.Sink.seen c.args.err.now } in
    let mid : Sinks = record { out = g.O.Sink.seen c.loop.out; err = g.E.Sink.seen c.loop.err } in
    runs_all c.args.machine.now c.loop.counter c.args.steps before c.loop.machine mid (Some c.in-Some.end) c.loop.invariant c.loop.auto.counter-end c.loop-test.false
    (sym c.in-Some.is ∙ c.end.ensures (c.loop.invariant.exhausted ∙ c.requires.ready))

pub returns-in-None : goal.returns-in-None
returns-in-None g c =
    let before : Sinks = record { out = g.O.Sink.seen c.args.out.now; err = g.E.Sink.seen c.args.err.now } in
    let mid : Sinks = record { out = g.O.Sink.seen c.loop.out; err = g.E.Sink.seen c.loop.err } in
    runs_all c.args.machine.now c.loop.counter c.args.steps before c.loop.machine mid None c.loop.invariant c.loop.auto.counter-end c.loop-test.false
    (sym c.in-None.is ∙ c.end.ensures (c.loop.invariant.exhausted ∙ c.requires.ready))
