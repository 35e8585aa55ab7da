use Rattle.std.proofs.Common.{◌∙◌, ◌-◌, arith, get_or, length}
use Rattle.std.proofs.lemmas.Grind.{common_steps}
use Rattle.c_value_checker.specs.Seen.{seen}
use Rattle.c_checker.proofs.StartLemmas.{ends_in, no_row, row_turn}
use Rattle.c_checker.proofs.start.add_rows.Goals as goal

pub loop-rows-preserved : goal.loop-rows-preserved
loop-rows-preserved c = record {
  within = grind (arith, common_steps, c.loop-rows.invariant.within);
  names = row_turn c.loop-rows.rows.now _ (get_or c.loop-rows.rows.now (length c.loop-rows.rows.now - 1) no_row) c.in_ok-number.number (seen c.loop-rows.environment) (seen c.declare_text.new.self)
      (ends_in c.loop-rows.rows.now no_row c.in-len1-up.len_at_least) c.in_ok-number.ensures c.in_ok-declare_text.ensures ∙ c.loop-rows.invariant.names;
}
