use Rattle.std.proofs.Common.{◌∙◌, ap, ◌++◌, map}
use Rattle.c_tree.specs.Checks.{checked, undeclared_if}
use Rattle.c_tree.specs.Env.{found}
use Rattle.c_tree.specs.Rules.{Called, all_checked, own_faults, row_call, row_number, type_argument_faults, type_argument_fine}
use Rattle.c_value_checker.specs.Noted.{noted}
use Rattle.c_body_checker.specs.Rows.{argument, row_called}
use Rattle.c_value_checker.specs.Seen.{seen}
use Rattle.c_body_checker.proofs.CallLemmas.{library_kept}
use Rattle.c_value_checker.proofs.NotedLemmas.{noted_both}
use Rattle.c_body_checker.proofs.calls.check_row_call.Goals as goal

pub returns-clause-faults : goal.returns-clause-faults
returns-clause-faults c =
    noted_both c.args.findings.now c.check_values.new.findings c.call_row.new.findings
    ((undeclared_if (found (seen c.args.environment.now).scopes c.args.name.now.text) c.args.name.now
    ++ type_argument_faults (seen c.args.environment.now) c.args.call.now.type_argument)
    ++ own_faults (seen c.args.environment.now) (all_checked checked c.args.call.now.arguments))
    (row_call (seen c.args.environment.now) (row_number (found (seen c.args.environment.now).scopes c.args.name.now.text)) c.args.call.now.span
    (type_argument_fine (seen c.args.environment.now) c.args.call.now.type_argument) (all_checked checked c.args.call.now.arguments)).faults
    (noted_both c.args.findings.now c.check_type_argument.new.findings c.check_values.new.findings
    (undeclared_if (found (seen c.args.environment.now).scopes c.args.name.now.text) c.args.name.now
    ++ type_argument_faults (seen c.args.environment.now) c.args.call.now.type_argument)
    (own_faults (seen c.args.environment.now) (all_checked checked c.args.call.now.arguments))
    (noted_both c.args.findings.now c.find_row-row.new.findings c.check_type_argument.new.findings
    (undeclared_if (found (seen c.args.environment.now).scopes c.args.name.now.text) c.args.name.now)
    (type_argument_faults (seen c.args.environment.now) c.args.call.now.type_argument) c.find_row-row.ensures.faults c.in_ok-fine.ensures.faults)
    (c.in_ok-values.ensures.faults ∙ ap (λ l. noted c.check_type_argument.new.findings (own_faults (seen c.args.environment.now) (all_checked checked l)))
    c.as_slice.ensures))
    (c.call_row.ensures.faults
    ∙ (λ i. noted c.check_values.new.findings
    (row_called c.find_row-row.result c.args.call.now.span (c.in_ok-fine.ensures.value i)
    ((c.deref.ensures.value ∙ c.in_ok-values.ensures.value
    ∙ ap (λ l. map (argument (seen c.args.environment.now)) (all_checked checked l)) c.as_slice.ensures) i)).faults)
    ∙ ap (λ (r : Called). noted c.check_values.new.findings r.faults)
    (library_kept (seen c.args.environment.now) c.find_row-row.result c.args.call.now.span
    (type_argument_fine (seen c.args.environment.now) c.args.call.now.type_argument) (all_checked checked c.args.call.now.arguments))
    ∙ ap (λ o. noted c.check_values.new.findings
    (row_call (seen c.args.environment.now) o c.args.call.now.span (type_argument_fine (seen c.args.environment.now) c.args.call.now.type_argument)
    (all_checked checked c.args.call.now.arguments)).faults) c.find_row-row.ensures.value)
