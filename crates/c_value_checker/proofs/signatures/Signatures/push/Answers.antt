-- The index stays that of the signatures.
use Rattle.std.proofs.Common.{◌∙◌, sym}
use Rattle.c_value_checker.proofs.SignatureLemmas.{indexed_kept, indexed_new, indexed_old, popped}
use Rattle.c_value_checker.proofs.signatures.Signatures.push.Goals as goal

pub invariant_of-self-then-is_indexed : goal.invariant_of-self-then-is_indexed
invariant_of-self-then-is_indexed c = indexed_old c.self.inside.numbers c.self.inside.rows c.push_row.new.rows c.args.takes c.self.invariant
    (sym c.is_indexed.ensures ∙ c.if-is_indexed.true) c.in_ok-push_row.ensures.pushed

pub invariant_of-self-in-Ok : goal.invariant_of-self-in-Ok
invariant_of-self-in-Ok c = indexed_new c.self.inside.numbers c.insert.new.self c.self.inside.rows c.push_row-2.new.rows c.args.takes c.in_ok-key.key c.len-number.result c.self.invariant
    (sym c.is_indexed.ensures ∙ c.if-is_indexed.false) c.in_ok-key.ensures c.len-number.ensures c.in-Ok.ensures.updates.0 c.in_ok-push_row-2.ensures.pushed

pub invariant_of-self-in-Err : goal.invariant_of-self-in-Err
invariant_of-self-in-Err c = indexed_kept c.self.inside.numbers c.insert.new.self c.self.inside.rows c.pop.new.self c.self.invariant c.in-Err.ensures.err
    (popped c.pop.result c.self.inside.rows c.pop.new.self c.push_row-2.new.rows c.args.takes c.in_ok-push_row-2.ensures.pushed c.pop.ensures)
