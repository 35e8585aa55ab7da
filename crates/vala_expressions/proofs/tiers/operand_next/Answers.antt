use Rattle.std.proofs.Common.{◌≡◌, ◌∙◌, sym, ap, false, true}
use Rattle.vala_grammar.specs.Tests.{begins_prefix, goes_on, is_asked, opens_choice}
use Rattle.vala_cursor.specs.Ahead.{rest}
use Rattle.vala_expressions.specs.Chains.{further, tests_type}
use Rattle.vala_cursor.proofs.Ways.{next_sort, passes, is_behind}
use Rattle.vala_expressions.proofs.tiers.operand_next.Goals as goal

pub returns-in-Some-clause-operand : goal.returns-in-Some-clause-operand
returns-in-Some-clause-operand c = c.begins.ensures ∙ sym (next_sort (begins_prefix c.args.signs) (rest c.args.cursor.now) ∙ ap (passes (begins_prefix c.args.signs)) (sym c.in-Some.ensures))
