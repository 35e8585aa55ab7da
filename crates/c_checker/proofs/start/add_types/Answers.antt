use Rattle.std.proofs.Common.{◌∙◌, ◌-◌, arith, get_or, length}
use Rattle.std.proofs.lemmas.Grind.{common_steps}
use Rattle.c_value_checker.specs.Seen.{seen}
use Rattle.c_checker.proofs.StartLemmas.{ends_in, no_named, type_turn}
use Rattle.c_checker.proofs.start.add_types.Goals as goal

pub loop-types-preserved : goal.loop-types-preserved
loop-types-preserved c = record {
  within = grind (arith, common_steps, c.loop-types.invariant.within);
  names = type_turn c.loop-types.types.now _ (get_or c.loop-types.types.now (length c.loop-types.types.now - 1) no_named) (seen c.loop-types.environment) (seen c.add_type.new.environment)
      (ends_in c.loop-types.types.now no_named c.in-len1-up.len_at_least) c.in_ok-add_type.ensures ∙ c.loop-types.invariant.names;
}
