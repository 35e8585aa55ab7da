use Rattle.vg_base.specs.World.{Mates}
use Rattle.vg_base.proofs.RunLaws.{matched_agrees}
use Rattle.vg_base.proofs.laws.runs_that_match_agree.Goals as goal

pub returns : goal.returns
returns c = λ l X Y. matched_agrees Mates l X Y
