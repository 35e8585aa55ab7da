use Rattle.std.proofs.Common.{◌≡◌, ◌∙◌, sym, ap, false, true}
use Rattle.vala_grammar.specs.Tests.{begins_prefix, goes_on, is_asked, opens_choice}
use Rattle.vala_cursor.specs.Ahead.{rest}
use Rattle.vala_expressions.specs.Chains.{further, tests_type}
use Rattle.vala_cursor.proofs.Ways.{next_sort, passes, is_behind}
use Rattle.vala_expressions.proofs.tiers.choice_next.Goals as goal

pub returns-in-Some-clause-choice : goal.returns-in-Some-clause-choice
returns-in-Some-clause-choice c = c.opens.ensures ∙ sym (next_sort (opens_choice c.args.context) (rest c.args.cursor.now) ∙ ap (passes (opens_choice c.args.context)) (sym c.in-Some.ensures))
