-- What the checker keeps of an outcome.
use Rattle.std.specs.Prelude.{List, [], Option, Some, None}
use Rattle.c_tree.specs.declared.names.Span.{Span}
use Rattle.c_tree.specs.declared.kinds.Kind.{Kind}
use Rattle.c_tree.specs.declared.kinds.Cause.TheVariants.{Undeclared}
use Rattle.c_tree.specs.declared.kinds.Fault.{Fault}
use Rattle.c_tree.specs.Faults.{fault, misfit}
use Rattle.c_tree.specs.Faults as rule
use Rattle.c_value_checker.specs.declared.outcome.Outcome.{Outcome}
use Rattle.c_value_checker.specs.declared.outcome.Outcome.TheVariants.{Gives, Wrong, Lacks, Silent}

-- of a name that is lacking the place is kept
abbrev pub told : rule.Outcome → Outcome
told (rule.Gives k) = Gives k
told rule.Wrong = Wrong
told (rule.Lacks x) = Lacks x.span.start
told rule.Silent = Silent

-- the kind of an outcome
abbrev pub kind_told : Outcome → Option Kind
kind_told (Gives k) = Some k
kind_told o = None

-- the fault of an outcome, of a part that stands there
abbrev pub faults_told : Outcome → Span → List Fault
faults_told (Gives k) s = []
faults_told Wrong s = misfit s
faults_told (Lacks at) s = fault Undeclared at at
faults_told Silent s = []
