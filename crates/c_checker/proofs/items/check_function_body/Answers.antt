use Rattle.std.proofs.Common.{◌∙◌}
use Rattle.c_tree.specs.Unit.{with_parameters}
use Rattle.c_body_checker.specs.Bodies.{whole_body}
use Rattle.c_value_checker.specs.Noted.{noted}
use Rattle.c_tree.specs.declared.code.Block.{out-Block}
use Rattle.c_value_checker.specs.Seen.{seen}
use Rattle.c_checker.proofs.FunctionLemmas.{closed_function}
use Rattle.c_checker.proofs.items.check_function_body.Goals as goal

pub returns-clause-names : goal.returns-clause-names
returns-clause-names c = closed_function c.args.environment.now (seen c.open.new.self) (seen c.declare_parameters.new.environment) (seen c.check_body.new.environment) (seen c.close.new.self)
    c.as_slice.result.now (out-Block c.args.body.now).locals c.in_ok-open.ensures c.in_ok-declare_parameters.ensures c.in_ok-check_body.ensures.names c.close.ensures

pub returns-clause-faults : goal.returns-clause-faults
returns-clause-faults c = c.in_ok-check_body.ensures.faults ∙ (λ i. noted c.args.findings.now (whole_body ((c.in_ok-declare_parameters.ensures ∙ (λ n. with_parameters (c.in_ok-open.ensures n) (c.as_slice.ensures n))) i) (c.in_ok-gives.ensures i) c.args.body.now))
