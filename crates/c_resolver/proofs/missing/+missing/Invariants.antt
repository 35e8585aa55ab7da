use Rattle.std.proofs.Common.{◌≡◌, drop, map}
use Rattle.c_resolver.specs.Plans.{calls_in_have_code, every}
use Rattle.c_resolver.proofs.missing.+missing.Given as goal

abbrev pub invariant-missing_stmts-loop-stmt : goal.invariant-missing_stmts-loop-stmt
invariant-missing_stmts-loop-stmt l = every (map calls_in_have_code (drop l.stmt-index l.stmts)) ≡ every (map calls_in_have_code l.stmts)
