-- The steps so far were made, up to an end, and their prints were put.
use Rattle.c_interpreter.proofs.RunLaws.{SoFar}
use Rattle.c_interpreter.proofs.run.run_steps.Given as goal

abbrev pub invariant-loop : goal.invariant-loop
invariant-loop g l =
    SoFar l.initial.machine l.counter (record { out = g.O.Sink.seen l.initial.out; err = g.E.Sink.seen l.initial.err }) l.machine
    (record { out = g.O.Sink.seen l.out; err = g.E.Sink.seen l.err })
