use Rattle.c_meaning.specs.Code.{reading}
use Rattle.c_meaning.specs.Runs.{opening_by}
use Rattle.c_interpreter.specs.Kept.{machine_of}
use Rattle.c_interpreter.proofs.StepCounts.{made_all}
use Rattle.c_interpreter.proofs.laws.counts_each_step.Goals as goal

pub returns : goal.returns
returns c = λ unit w n h. made_all (machine_of unit) n (opening_by reading unit w) h
