use Rattle.std.proofs.Common.{◌≡◌, ◌∙◌, sym, ap}
use Rattle.vala_cursor.specs.Ahead.{rest}
use Rattle.vala_cursor.proofs.Ways.{next_sort, passes}
use Rattle.vala_expressions.specs.Chains.{links}
use Rattle.vala_expressions.proofs.tiers.link_next.Goals as goal

pub returns-in-Some : goal.returns-in-Some
returns-in-Some c = c.is_link.ensures ∙ sym (next_sort (links c.args.last.now) (rest c.args.cursor.now) ∙ ap (passes (links c.args.last.now)) (sym c.in-Some.ensures))
