-- Two blocks are made, and a run does not hold the types.
use Rattle.std.proofs.Common.{◌∙◌}
use Rattle.c_opening.proofs.Shown.{typed}
use Rattle.c_opening.proofs.opening.Opening.add_types.Goals as goal

pub returns : goal.returns
returns c =
    record {
      unit = c.in_ok-make_block-2.ensures.made.unit ∙ c.in_ok-make_block.ensures.made.unit;
      opens = λ env s o. typed env _ _ _ (c.in_ok-make_block-2.ensures.made.opens env _ (c.in_ok-make_block.ensures.made.opens env s o));
    }
