-- The function is called.
use Rattle.c_code.specs.declared.program.LibraryFunction.TheVariants as library
use Rattle.c_library.proofs.CallLemmas.{call_along, row_call}
use Rattle.c_library.proofs.calls.call.Goals as goal

pub returns-in-SliceNew : goal.returns-in-SliceNew
returns-in-SliceNew c = call_along c.args.function library.SliceNew c.args.argument c.args.cells.now c.args.run.now c.make_slice.new.run c.make_slice.result c.in-SliceNew.is c.make_slice.ensures

pub returns-in-ReadLine : goal.returns-in-ReadLine
returns-in-ReadLine c = call_along c.args.function library.ReadLine c.args.argument c.args.cells.now c.args.run.now c.read_line.new.run c.read_line.result c.in-ReadLine.is c.read_line.ensures

pub returns-in-Quark : goal.returns-in-Quark
returns-in-Quark c = call_along c.args.function library.Quark c.args.argument c.args.cells.now c.args.run.now c.number_quark.new.run c.number_quark.result c.in-Quark.is c.number_quark.ensures

pub returns-in_ok-answer-in_default : goal.returns-in_ok-answer-in_default
returns-in_ok-answer-in_default c =
    row_call c.args.function c.args.argument c.args.cells.now c.args.run.now c.apply.new.self c.answer_of.new.heap c.in_ok-answer-in_default.answer c.apply.result
    c.in_ok-answer-in_default.ensures c.apply.ensures
