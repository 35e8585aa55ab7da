use Rattle.std.proofs.Common.{◌∙◌, sym}
use Rattle.c_cursor.specs.Gives.{state}
use Rattle.c_parser.proofs.BracketSteps.{bracket_taken}
use Rattle.c_parser.proofs.asks.Grammar.plain_step.Goals as goal

pub returns-in-Some-clause-tree : goal.returns-in-Some-clause-tree
returns-in-Some-clause-tree g c =
    bracket_taken c.args.constant c.args.place c.args.level c.args.parser.now c.accept.new.self c.bracketed.new.parser
    (state c.finished.new.parser) c.in-Some.opening c.in_ok-operand.operand c.in_ok-finished.field-0
    c.in-Some.ensures.took c.in-Some.ensures.names c.in-Some.ensures.ends (sym c.begins_cast.ensures
    ∙ c.if-begins_cast.false) c.in_ok-operand.ensures.tree c.in_ok-operand.ensures.names c.in_ok-operand.ensures.ends c.in_ok-finished.ensures.tree
