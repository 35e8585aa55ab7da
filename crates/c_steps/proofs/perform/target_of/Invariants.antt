-- The cases behind the ones that were looked at decide.
use Rattle.std.proofs.Common.{◌≡◌, drop}
use Rattle.c_code.specs.Machine.{case_target}
use Rattle.c_steps.proofs.perform.target_of.Given as goal

abbrev pub invariant-loop-case : goal.invariant-loop-case
invariant-loop-case l = case_target l.number l.cases l.default ≡ case_target l.number (drop l.case-index l.cases) l.default
