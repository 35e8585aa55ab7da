use Rattle.std.proofs.Common.{arith}
use Rattle.c_text_reader.proofs.Answering.{stopped_answers}
use Rattle.c_text_reader.proofs.reader.stopped.Goals as goal

pub returns-in-Ok : goal.returns-in-Ok
returns-in-Ok c =
    rw c.refused.ensures (stopped_answers c.tokens_are_in_order.ensures c.args.bytes.now c.args.limit c.args.unit.now c.args.stop c.requires.within
    c.requires.reads c.in-Ok.first (rw c.begins_before.ensures at c.in-Ok.ensures))
