use Rattle.std.proofs.Common.{arith}
use Rattle.c_text_reader.proofs.Answering.{sound_answers, faulty_answers}
use Rattle.c_text_reader.proofs.reader.whole.Goals as goal

pub returns-in-Ok-None : goal.returns-in-Ok-None
returns-in-Ok-None c =
    sound_answers c.tokens_are_in_order.ensures c.args.bytes.now c.args.limit c.args.unit c.requires.within
    (omega (arith, c.requires.short)) c.requires.reads (rw c.in-Ok-None.field-0-is at c.in-Ok-None.ensures)

pub returns-in-Ok-Some : goal.returns-in-Ok-Some
returns-in-Ok-Some c =
    rw c.refused.ensures (faulty_answers c.tokens_are_in_order.ensures c.args.bytes.now c.args.limit c.args.unit c.requires.within
    (omega (arith, c.requires.short)) c.requires.reads c.in-Ok-Some.first
    (rw c.in-Ok-Some.field-0-is at c.in-Ok-Some.ensures))
