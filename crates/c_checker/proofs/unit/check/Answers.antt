use Rattle.std.proofs.Common.{◌∙◌}
use Rattle.c_tree.specs.Checks.{checked}
use Rattle.c_tree.specs.Env.{library}
use Rattle.c_tree.specs.Rules.{checked_block}
use Rattle.c_tree.specs.Unit.{items_faults}
use Rattle.c_value_checker.specs.Noted.{noted}
use Rattle.c_checker.proofs.ItemLemmas.{first_of}
use Rattle.c_checker.proofs.unit.check.Goals as goal

pub returns : goal.returns
returns c = first_of c.args.least c.args.last c.check_items.new.findings (items_faults checked (checked_block checked) library c.args.unit.now.items)
    (c.in_ok-check_items.ensures ∙ (λ i. noted (c.new-findings.ensures i) (items_faults checked (checked_block checked) (c.in_ok-environment.ensures i) (c.as_slice.ensures i))))
