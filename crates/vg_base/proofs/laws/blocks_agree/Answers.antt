use Rattle.std.specs.Prelude.{IsTrue}
use Rattle.vg_base.specs.World.{Mates}
use Rattle.vg_base.proofs.MachineLaws.{answers_agree}
use Rattle.vg_base.proofs.laws.blocks_agree.Goals as goal

pub returns : goal.returns
returns g c = λ M N test bounded s w ends answers. answers_agree bounded s w M N (λ x y. IsTrue (test x y)) Mates ends answers
