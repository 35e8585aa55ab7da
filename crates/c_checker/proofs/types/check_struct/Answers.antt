use Rattle.std.proofs.Common.{[], ap, ◌∙◌}
use Rattle.c_tree.specs.Env.{structure_named}
use Rattle.c_tree.specs.Unit.{define_struct, field_faults, struct_faults}
use Rattle.c_value_checker.specs.Noted.{noted}
use Rattle.c_value_checker.specs.Seen.{seen}
use Rattle.c_value_checker.proofs.NotedLemmas.{noted_both, on_ok}
use Rattle.c_checker.proofs.types.check_struct.Goals as goal

pub returns-clause-names : goal.returns-clause-names
returns-clause-names c = on_ok c.define_if.result c.define_if.ensures (λ e. e ∙ (λ i. define_struct (seen c.args.environment.now) ((c.number-number.ensures ∙ ap (structure_named 0 (seen c.args.environment.now).structs) c.as_slice.ensures) i) (c.as_slice-3.ensures i)))

pub returns-clause-faults : goal.returns-clause-faults
returns-clause-faults c = on_ok c.define_if.result c.define_if.ensures (λ e. noted_both c.args.findings.now c.check_struct_name.new.findings c.check_fields.new.findings
    (struct_faults (seen c.args.environment.now) (structure_named 0 (seen c.args.environment.now).structs c.args.definition.now.name.text) c.args.definition.now.name) (field_faults (seen c.args.environment.now) [] c.args.definition.now.fields)
    (c.in_ok-check_struct_name.ensures ∙ ap (λ n. noted c.args.findings.now (struct_faults (seen c.args.environment.now) n c.args.definition.now.name)) (c.number-number.ensures ∙ ap (structure_named 0 (seen c.args.environment.now).structs) c.as_slice.ensures))
    (c.in_ok-check_fields.ensures ∙ ap (λ l. noted c.check_struct_name.new.findings (field_faults (seen c.args.environment.now) [] l)) c.as_slice-2.ensures))
