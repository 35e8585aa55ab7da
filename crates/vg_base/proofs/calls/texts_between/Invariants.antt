use Rattle.std.proofs.Common.{◌≡◌, ◌++◌, map, length}
use Rattle.std.specs.List.{flat_map}
use Rattle.vg_base.specs.Small.{token_of, call}
use Rattle.vg_base.proofs.calls.texts_between.Given as goal

-- what is left stands behind the calls whose texts are found
abbrev pub invariant-loop-text : goal.invariant-loop-text
invariant-loop-text l = l.tokens ≡ map token_of l.head ++ (flat_map (call l.name) l.texts.items ++ l.rest)

abbrev pub decreases-loop-text : goal.decreases-loop-text
decreases-loop-text l = length l.rest
