-- A function whose name is there already, by the number of its signature.
use Rattle.std.specs.Prelude.{ℕ, ◌==◌, ◌&&◌, not, Bool, true, List, [], ◌++◌, Option, Some, None}
use Rattle.c_tree.specs.declared.unit.Signature.{Signature}
use Rattle.c_tree.specs.declared.kinds.Sort.{Sort}
use Rattle.c_tree.specs.declared.kinds.Sort.TheVariants as sort
use Rattle.c_tree.specs.declared.kinds.Cause.TheVariants.{Twice}
use Rattle.c_tree.specs.declared.kinds.Fault.{Fault}
use Rattle.c_tree.specs.Env.{Env, found}
use Rattle.c_tree.specs.Kinds.{same_bool}
use Rattle.c_tree.specs.Unit.{again, signature_faults, unlaid_parameters, unlaid_result}
use Rattle.c_tree.specs.Faults.{fault, twice, unless}

-- the fault of a prototype or a definition whose signature has that number
abbrev pub again_by : Signature → ℕ → Bool → Option Sort → List Fault
again_by s m defines None = []
again_by s m defines (Some (sort.Function n is_static is_defined)) = unless (n == m && same_bool is_static s.is_static && not (defines && is_defined)) (fault Twice s.name.span.start s.span.end)
again_by s m defines (Some other) = twice s.name

-- the faults in front of a body
abbrev pub head_faults : Env → Signature → List Fault
head_faults env s = again env s true (found env.scopes s.name.text) ++ signature_faults env s ++ unlaid_result env s ++ unlaid_parameters env s.span s.parameters
