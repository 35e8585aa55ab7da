use Rattle.std.proofs.Common.{◌≡◌, ◌∙◌, sym, ap, false, true}
use Rattle.vala_grammar.specs.Tests.{begins_prefix, goes_on, is_asked, opens_choice}
use Rattle.vala_cursor.specs.Ahead.{rest}
use Rattle.vala_expressions.specs.Chains.{further, tests_type}
use Rattle.vala_cursor.proofs.Ways.{next_sort, passes, is_behind}
use Rattle.vala_expressions.proofs.tiers.operator_next.Goals as goal

pub returns-in-Some : goal.returns-in-Some
returns-in-Some c = c.binds_behind.ensures ∙ sym (next_sort (goes_on c.args.tier c.args.last.now) (rest c.args.cursor.now) ∙ ap (passes (goes_on c.args.tier c.args.last.now)) (sym c.in-Some.ensures))
