-- The literal has the block that was made.
use Rattle.std.proofs.Common.{refl, subst}
use Rattle.c_meaning.specs.Blocks.{make}
use Rattle.c_meaning.specs.Texts.{text_cells}
use Rattle.c_opening.specs.Opens.{Becomes}
use Rattle.c_opening.proofs.Shown.{literal_added}
use Rattle.c_opening.proofs.opening.Opening.add_literal.Goals as goal

pub returns-in-Ok : goal.returns-in-Ok
returns-in-Ok c =
    literal_added c.args.self.now c.make_text.new.self _ c.args.literal.now c.in_ok-block.block c.in_ok-block.ensures.number
    (subst (λ b. Becomes (λ s. make s (text_cells b)) c.args.self.now c.make_text.new.self) c.as_slice.ensures c.in_ok-block.ensures.made)
    refl refl c.in-Ok.ensures.ok refl
