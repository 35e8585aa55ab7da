use Rattle.core_tree.proofs.PlaceLaws.{empties_one}
use Rattle.core_tree.proofs.laws.one_place_is_given_up.Goals as goal

pub returns : goal.returns
returns c = empties_one
