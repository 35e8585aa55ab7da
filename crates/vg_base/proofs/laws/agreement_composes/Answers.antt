use Rattle.vg_base.specs.Run.{SameEndAs}
use Rattle.vg_base.specs.World.{Mates}
use Rattle.vg_base.specs.Laws.{joined, joined_limits}
use Rattle.vg_base.proofs.RunLaws.{agrees_trans, agrees_wider, joined_as}
use Rattle.vg_base.proofs.laws.agreement_composes.Goals as goal

pub returns : goal.returns
returns c = λ l k X Y Z same p q. agrees_wider (joined SameEndAs Mates) Mates (joined_as Mates) (joined_limits l k) X Z (agrees_trans SameEndAs Mates l k X Y Z same p q)
