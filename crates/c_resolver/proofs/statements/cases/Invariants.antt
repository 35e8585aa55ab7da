use Rattle.std.proofs.Common.{◌≡◌, ◌++◌, drop, map}
use Rattle.c_code.specs.Statements.{case_codes}
use Rattle.c_resolver.specs.Plans.{label_alone}
use Rattle.c_resolver.proofs.statements.cases.Given as goal

abbrev pub invariant-loop-case : goal.invariant-loop-case
invariant-loop-case l = l.codes ++ case_codes l.kind (map label_alone l.labels) (drop l.case-index l.cases) ≡ case_codes l.kind
    (map label_alone l.labels) l.cases
