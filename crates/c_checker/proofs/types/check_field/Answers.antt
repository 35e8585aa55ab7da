use Rattle.std.proofs.Common.{◌∙◌, ap, is_some, not}
use Rattle.c_tree.specs.Checks.{type_faults}
use Rattle.c_tree.specs.Env.{kind_of}
use Rattle.c_tree.specs.Faults.{twice, unless}
use Rattle.c_tree.specs.Rules.{not_laid_out}
use Rattle.name_table.specs.Names.{latest}
use Rattle.c_value_checker.specs.Noted.{noted}
use Rattle.c_value_checker.specs.Seen.{seen}
use Rattle.c_checker.proofs.ItemLemmas.{noted_three}
use Rattle.c_checker.proofs.types.check_field.Goals as goal

pub returns : goal.returns
returns c = noted_three c.args.findings.now c.check_type.new.findings c.check_field_name.new.findings c.check_laid_out.new.findings (type_faults (seen c.args.environment.now) c.args.field.now.declared) (unless (not (is_some (latest c.args.field.now.name.text c.args.before.now))) (twice c.args.field.now.name)) (not_laid_out (seen c.args.environment.now) (kind_of (seen c.args.environment.now) c.args.field.now.declared) c.args.field.now.name)
    c.check_type.ensures c.check_field_name.ensures (c.check_laid_out.ensures ∙ ap (λ k. noted c.check_field_name.new.findings (not_laid_out (seen c.args.environment.now) k c.args.field.now.name)) c.in_ok-kind.ensures)
