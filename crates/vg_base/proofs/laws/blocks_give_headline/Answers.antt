use Rattle.std.specs.Prelude.{IsTrue}
use Rattle.vg_base.proofs.HeadlineLaws.{meets_headline}
use Rattle.vg_base.proofs.laws.blocks_give_headline.Goals as goal

pub returns : goal.returns
returns g c = λ V C test ends blocks. meets_headline V C (λ x y. IsTrue (test x y)) (λ x y r. (ends x y r).0) (λ x y r. (ends x y r).1) blocks
