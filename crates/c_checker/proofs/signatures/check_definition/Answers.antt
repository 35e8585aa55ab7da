use Rattle.std.proofs.Common.{◌∙◌, ap}
use Rattle.c_tree.specs.Unit.{unlaid_parameters, unlaid_result}
use Rattle.c_value_checker.specs.Noted.{noted}
use Rattle.c_value_checker.specs.Seen.{seen}
use Rattle.c_value_checker.proofs.NotedLemmas.{noted_both, on_ok}
use Rattle.c_checker.proofs.signatures.check_definition.Goals as goal

pub returns : goal.returns
returns c = on_ok c.check_parameters_laid_out.result c.check_parameters_laid_out.ensures (λ e. noted_both c.args.findings.now c.check_result_laid_out.new.findings c.check_parameters_laid_out.new.findings (unlaid_result (seen c.args.environment.now) c.args.signature.now)
    (unlaid_parameters (seen c.args.environment.now) c.args.signature.now.span c.args.signature.now.parameters) c.in_ok-check_result_laid_out.ensures
    (e ∙ ap (λ l. noted c.check_result_laid_out.new.findings (unlaid_parameters (seen c.args.environment.now) c.args.signature.now.span l)) c.as_slice.ensures))
