use Rattle.std.proofs.Common.{◌≡◌, drop}
use Rattle.c_tree.specs.Rules.{with_locals}
use Rattle.c_value_checker.specs.Seen.{seen}
use Rattle.c_body_checker.proofs.statements.declare_locals.Given as goal

abbrev pub invariant-loop-local : goal.invariant-loop-local
invariant-loop-local l = with_locals (seen l.environment) (drop l.local-index l.locals) ≡ with_locals (seen l.fn.environment) l.locals
