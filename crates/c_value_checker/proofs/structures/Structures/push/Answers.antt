use Rattle.std.proofs.Common.{◌∙◌, ap, is_some, sym}
use Rattle.c_value_checker.proofs.StructLemmas.{stored_new, stored_old}
use Rattle.c_value_checker.proofs.structures.Structures.push.Goals as goal

pub invariant_of-self-then-is_some : goal.invariant_of-self-then-is_some
invariant_of-self-then-is_some c = stored_old c.self.inside.numbers c.self.inside.rows c.push_row.new.rows c.args.structure c.self.invariant
    (sym (c.is_some.ensures ∙ ap is_some c.find.ensures) ∙ c.if-is_some.true) c.in_ok-push_row.ensures.pushed

pub invariant_of-self-in-Ok : goal.invariant_of-self-in-Ok
invariant_of-self-in-Ok c = stored_new c.self.inside.numbers c.push.new.self c.self.inside.rows c.push_row-2.new.rows c.args.structure c.len-number.result c.self.invariant
    (sym (c.is_some.ensures ∙ ap is_some c.find.ensures) ∙ c.if-is_some.false) c.len-number.ensures c.in_ok-push.ensures.pushed c.in-Ok.ensures.pushed
