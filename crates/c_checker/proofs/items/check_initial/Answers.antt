use Rattle.std.proofs.Common.{◌∙◌}
use Rattle.c_tree.specs.Checks.{checked}
use Rattle.c_tree.specs.Rules.{fit, fit_by}
use Rattle.c_tree.specs.Unit.{ends_faults}
use Rattle.c_value_checker.specs.Noted.{noted}
use Rattle.c_value_checker.specs.Seen.{seen}
use Rattle.std.proofs.Common.{ap}
use Rattle.c_value_checker.specs.Judgements.{is_null_told}
use Rattle.c_value_checker.proofs.OperandLemmas.{null_kept}
use Rattle.c_checker.proofs.ItemLemmas.{noted_three}
use Rattle.c_checker.proofs.items.check_initial.Goals as goal

pub returns : goal.returns
returns c = noted_three c.args.findings.now c.judge.new.findings c.check_fit.new.findings c.check_worth.new.findings ((checked c.args.value.now).value.faults (seen c.args.environment.now)) (fit (seen c.args.environment.now) c.args.kind (checked c.args.value.now)) (ends_faults ((checked c.args.value.now).value.kind (seen c.args.environment.now)) ((checked c.args.value.now).value.worth (seen c.args.environment.now)) (checked c.args.value.now).span)
    c.in_ok-found.ensures.faults
    (c.check_fit.ensures ∙ (λ i. noted c.judge.new.findings (fit_by c.args.kind (c.in_ok-found.ensures.value i).found.kind (is_null_told (c.in_ok-found.ensures.value i).found.literal) (c.in_ok-found.ensures.value i).span))
    ∙ ap (λ n. noted c.judge.new.findings (fit_by c.args.kind ((checked c.args.value.now).value.kind (seen c.args.environment.now)) n (checked c.args.value.now).span)) (null_kept (checked c.args.value.now).value.literal))
    (c.check_worth.ensures ∙ (λ i. noted c.check_fit.new.findings (ends_faults (c.in_ok-found.ensures.value i).found.kind (c.in_ok-worth.ensures i) (c.in_ok-found.ensures.value i).span)))
