use Rattle.std.proofs.Common.{◌∙◌, arith}
use Rattle.std.proofs.lemmas.Grind.{common_steps}
use Rattle.c_value_checker.specs.Seen.{seen}
use Rattle.c_value_checker.proofs.PrefixLemmas.{prefix_turn}
use Rattle.c_value_checker.proofs.ScopeLemmas.{last_of}
use Rattle.c_value_checker.proofs.prefixes.apply_all.Goals as goal

pub loop-operators-preserved : goal.loop-operators-preserved
loop-operators-preserved c =
    let turn : _ = prefix_turn (seen c.args.environment.now) c.loop-operators.operators.now _ _ c.loop-operators.kind _ c.loop-operators.findings _ c.args.last (last_of c.loop-operators.operators.now _ c.in-len1-up.len_at_least c.operator-item.is) c.in_ok-kind.ensures.value c.in_ok-kind.ensures.faults in
    record { within = grind (arith, common_steps, c.loop-operators.invariant.within); kinds = turn.0 ∙ c.loop-operators.invariant.kinds; faults = turn.1 ∙ c.loop-operators.invariant.faults }
