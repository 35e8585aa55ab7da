use Rattle.std.proofs.Common.{◌∙◌, [], ◌∷◌, refl}
use Rattle.c_tree.specs.declared.code.Case.{Case}
use Rattle.c_tree.specs.Rules.{case_targets}
use Rattle.c_body_checker.proofs.LabelLemmas.{kept_step}
use Rattle.c_body_checker.proofs.labels.add_cases.Goals as goal

pub loop-case-preserved : goal.loop-case-preserved
loop-case-preserved c = kept_step (λ (x : Case). x.label ∷ []) case_targets (λ x l. refl) c.args.cases.now c.loop-case.case-index c.case-item.result
    c.loop-case.names.items c.add.new.names.items c.loop-case-test.true c.case-item.is c.in_ok-add.ensures ∙ c.loop-case.invariant
