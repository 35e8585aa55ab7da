use Rattle.std.proofs.Common.{◌≡◌, drop}
use Rattle.c_tree.specs.Rules.{locals_faults, with_locals}
use Rattle.c_value_checker.specs.Noted.{noted}
use Rattle.c_value_checker.specs.Seen.{seen}
use Rattle.c_body_checker.proofs.statements.check_locals.Given as goal

abbrev pub invariant-loop-local : goal.invariant-loop-local
invariant-loop-local l = record {
  names : with_locals (seen l.environment) (drop l.local-index l.locals) ≡ with_locals (seen l.fn.environment) l.locals;
  faults : noted l.findings (locals_faults (seen l.environment) (drop l.local-index l.locals)) ≡ noted l.fn.findings
      (locals_faults (seen l.fn.environment) l.locals);
}
