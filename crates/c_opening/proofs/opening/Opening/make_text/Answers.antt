-- The cells are those of the text.
use Rattle.std.proofs.Common.{◌∙◌, ap, subst, OnOk, ◌++◌}
use Rattle.c_meaning.specs.Blocks.{make}
use Rattle.c_meaning.specs.Texts.{text_cells}
use Rattle.c_opening.specs.Opens.{Becomes}
use Rattle.c_opening.proofs.opening.Opening.make_text.Goals as goal

pub returns-clause-made : goal.returns-clause-made
returns-clause-made c =
    subst (λ cells. OnOk c.make_block.result (Becomes (λ s. make s cells) c.args.self.now c.make_block.new.self))
    (c.as_slice.ensures.value ∙ c.in_ok-push_text.ensures ∙ ap (λ cells. cells ++ text_cells c.args.bytes.now) c.new-cells.ensures.items)
    c.make_block.ensures.made
