use Rattle.std.proofs.Common.{◌∙◌, ◌+◌, ap, drop, map, sym}
use Rattle.c_tree.specs.Rules.{takes_count}
use Rattle.c_body_checker.specs.Rows.{parameter_seen}
use Rattle.c_body_checker.proofs.CallLemmas.{count_more, count_stop}
use Rattle.c_body_checker.proofs.calls.takes_count.Goals as goal

pub returns-in-Some : goal.returns-in-Some
returns-in-Some c = sym (sym c.loop-parameter.invariant
    ∙ count_stop c.args.parameters.now c.loop-parameter.parameter-index c.loop-parameter.count _ c.in-Some.fine c.ends_at.result c.loop-parameter-test.true
    c.ends_at.ensures c.in-Some.is)

pub loop-parameter-preserved : goal.loop-parameter-preserved
loop-parameter-preserved c =
    ap (takes_count (map parameter_seen (drop (c.loop-parameter.parameter-index + 1) c.args.parameters.now))) c.saturating_sub-count.ensures
    ∙ count_more c.args.parameters.now c.loop-parameter.parameter-index c.loop-parameter.count _ c.ends_at.result c.loop-parameter-test.true c.ends_at.ensures
    c.in_default.is ∙ c.loop-parameter.invariant
