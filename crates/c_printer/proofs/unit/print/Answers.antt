use Rattle.std.proofs.Common.{subst}
use Rattle.c_printer.specs.Depth.{IsShallowText}
use Rattle.c_printer.specs.declared.grade.Brackets.TheVariants.{Clear}
use Rattle.c_printer.proofs.UnitReading.{shallow_read_at, needed_read_at, on_text}
use Rattle.c_printer.proofs.unit.print.Goals as goal

pub returns-then-is_readable : goal.returns-then-is_readable
returns-then-is_readable c = shallow_read_at Clear c.tokens_are_read.ensures c.tokens_cover.ensures.covers c.args.unit.now c.in_ok-clear.clear.items c.in_ok-clear.ensures
    (subst IsShallowText c.deref.ensures.value (c.in_ok-is_readable.ensures c.if-is_readable.true))

pub returns : goal.returns
returns c = on_text c.text_of-2.result c.text_of-2.ensures (λ text e. needed_read_at c.tokens_are_read.ensures c.tokens_cover.ensures.covers c.args.unit.now text.items e)
