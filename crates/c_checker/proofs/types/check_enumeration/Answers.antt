use Rattle.std.proofs.Common.{ap, ◌∙◌}
use Rattle.c_tree.specs.declared.kinds.Sort.TheVariants as sort
use Rattle.c_tree.specs.Env.{declare}
use Rattle.c_tree.specs.Kinds.{int}
use Rattle.c_tree.specs.Rules.{twice_here}
use Rattle.c_tree.specs.Unit.{member_faults, with_members}
use Rattle.c_value_checker.specs.Noted.{noted}
use Rattle.c_value_checker.specs.Seen.{seen}
use Rattle.c_value_checker.proofs.NotedLemmas.{noted_both, on_ok}
use Rattle.c_checker.proofs.types.check_enumeration.Goals as goal

pub returns-clause-names : goal.returns-clause-names
returns-clause-names c = on_ok c.declare.result c.declare.ensures (λ e. e ∙ ap (λ d. declare d c.args.enumeration.now.name (sort.Type int)) (c.in_ok-check_members.ensures.names ∙ ap (with_members (seen c.args.environment.now)) c.as_slice.ensures))

pub returns-clause-faults : goal.returns-clause-faults
returns-clause-faults c = on_ok c.declare.result c.declare.ensures (λ e. noted_both c.args.findings.now c.check_members.new.findings c.check_new.new.findings (member_faults (seen c.args.environment.now) c.args.enumeration.now.members) (twice_here (with_members (seen c.args.environment.now) c.args.enumeration.now.members) c.args.enumeration.now.name)
    (c.in_ok-check_members.ensures.faults ∙ ap (λ l. noted c.args.findings.now (member_faults (seen c.args.environment.now) l)) c.as_slice.ensures)
    (c.check_new.ensures ∙ ap (λ d. noted c.check_members.new.findings (twice_here d c.args.enumeration.now.name)) (c.in_ok-check_members.ensures.names ∙ ap (with_members (seen c.args.environment.now)) c.as_slice.ensures)))
