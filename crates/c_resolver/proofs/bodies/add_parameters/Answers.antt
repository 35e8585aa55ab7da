use Rattle.std.proofs.Common.{◌≡◌, ◌∙◌, ◌+◌, ◌-◌, ap, arith, length, map, sym}
use Rattle.std.proofs.lemmas.List.{length-take-le}
use Rattle.c_value_checker.specs.Seen.{seen}
use Rattle.c_resolver.specs.Shown.{variable_seen}
use Rattle.c_resolver.proofs.BodyLemmas.{parameters_step, taken_length}
use Rattle.c_resolver.proofs.bodies.add_parameters.Goals as goal

pub slice_bounds-cells_taken-end : goal.slice_bounds-cells_taken-end
slice_bounds-cells_taken-end c =
    let e : length c.args.taken.now ≡ length c.args.parameters.now = ap length c.requires ∙ taken_length (seen c.args.environment.now) c.args.parameters.now in
    sym (length-take-le (c.loop-index.index - 1) c.args.taken.now (omega (arith, c.loop-index.invariant.within, e)))

pub loop-index-preserved : goal.loop-index-preserved
loop-index-preserved c = record {
  within = omega (arith, c.loop-index.invariant.within);
  variables = parameters_step (seen c.args.environment.now) c.args.parameters.now c.args.taken.now c.loop-index.index
      (c.loop-index.index - 1) c.index-parameters-index.result c.in_ok-at.at
      (map variable_seen c.args.variables.now) (map variable_seen c.loop-index.variables) (map variable_seen c.add_parameter.new.variables)
      c.requires (let e : c.loop-index.index ≡ c.loop-index.index - 1 + 1 = omega (arith, c.loop-index-test.true) in e) (omega
      (arith, c.loop-index-test.true, c.loop-index.invariant.within))
      c.index-parameters-index.is c.in_ok-at.ensures c.loop-index.invariant.variables c.in_ok-add_parameter.ensures;
}
