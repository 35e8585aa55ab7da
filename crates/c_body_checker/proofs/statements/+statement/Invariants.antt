use Rattle.std.proofs.Common.{◌≡◌, drop, map}
use Rattle.c_tree.specs.Rules.{all_faults}
use Rattle.c_body_checker.specs.Bodies.{context, of_statement}
use Rattle.c_value_checker.specs.Noted.{noted}
use Rattle.c_value_checker.specs.Seen.{seen}
use Rattle.c_body_checker.proofs.statements.+statement.Given as goal

abbrev pub invariant-check_stmts-loop-stmt : goal.invariant-check_stmts-loop-stmt
invariant-check_stmts-loop-stmt l = record {
  names : seen l.environment ≡ seen l.fn.environment;
  faults : noted l.findings (all_faults (context (seen l.fn.environment) l.gives) (map of_statement (drop l.stmt-index l.stmts))) ≡ noted l.fn.findings
      (all_faults (context (seen l.fn.environment) l.gives) (map of_statement l.stmts));
}
