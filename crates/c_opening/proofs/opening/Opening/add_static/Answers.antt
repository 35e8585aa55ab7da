-- The variable has the block that was made.
use Rattle.std.proofs.Common.{◌∙◌, refl}
use Rattle.c_opening.proofs.Shown.{fixed_as, static_added}
use Rattle.c_opening.proofs.opening.Opening.add_static.Goals as goal

pub returns-in-Ok-push : goal.returns-in-Ok-push
returns-in-Ok-push c =
    static_added c.args.self.now c.make_block.new.self _ c.args.name.now.text c.args.cells.now c.in_ok-block.block _ (fixed_as _ _ (c.in-Ok.ensures ∙ c.as_slice.ensures))
    c.in_ok-block.ensures.number c.in_ok-block.ensures.made refl refl refl c.in-Ok-push.ensures.ok
