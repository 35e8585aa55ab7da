use Rattle.std.proofs.Common.{sym, subst}
use Rattle.c_printer.specs.Printed.{IsTextOf}
use Rattle.c_emit.specs.Emission.{unit_of}
use Rattle.c_emit.proofs.Whole.{text_of_unit, on_text}
use Rattle.c_emit.proofs.program.emit.Goals as goal

pub returns : goal.returns
returns c =
    on_text c.written.result c.written.ensures
    (λ text e bytes. subst (IsTextOf (unit_of c.args.texts.now)) (sym e)
    (text_of_unit c.tokens_are_read.ensures c.pieces_read_back.ensures.text c.args.texts.now bytes))
