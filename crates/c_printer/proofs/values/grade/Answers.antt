use Rattle.std.proofs.Common.{◌∙◌, sym, ap, map}
use Rattle.c_tree.specs.declared.code.Shape.TheOpen.{Shape-F}
use Rattle.c_printer.specs.declared.grade.Grade.TheVariants.{Chaining}
use Rattle.c_printer.specs.PutValues.{Printed, printed_link, printed_shape, chain_level}
use Rattle.c_printer.proofs.BareTrees.{shape_written_at}
use Rattle.c_printer.proofs.values.grade.Goals as goal

pub returns-in-Chain : goal.returns-in-Chain
returns-in-Chain c style = ap Chaining (c.chain_level.ensures style ∙ ap (λ l. chain_level (map (printed_link style) l)) c.as_slice-in-Chain.ensures)
    ∙ sym (ap (λ s. (printed_shape style s).grade) c.in-Chain.is ∙ ap (λ (q : Printed). q.grade) (shape_written_at style (Shape-F.Chain c.in-Chain.field-0 c.in-Chain.links)))
