-- The text is a quark, and its number given.
use Rattle.c_library.proofs.CallLemmas.{quark_call}
use Rattle.c_library.proofs.outside.number_quark.Goals as goal

pub returns : goal.returns
returns c =
    quark_call c.args.argument c.args.cells.now c.args.run.now c.apply.new.self c.g_quark_from_static_string.new.quarks c.in_ok-answer.answer c.apply.result c.in_ok-answer.ensures c.apply.ensures
