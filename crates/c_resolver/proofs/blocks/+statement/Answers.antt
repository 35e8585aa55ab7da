use Rattle.std.proofs.Common.{◌∙◌, ◌++◌, ap, map}
use Rattle.std.proofs.lemmas.List.{map-append}
use Rattle.c_tree.specs.declared.code.Block.{out-Block}
use Rattle.c_tree.specs.Rules.{with_locals}
use Rattle.c_meaning.specs.State.{Scope}
use Rattle.c_meaning.specs.Code.{all_code, with_variables}
use Rattle.c_value_checker.specs.Seen.{seen}
use Rattle.c_value_checker.proofs.NotedLemmas.{on_ok}
use Rattle.c_resolver.specs.Plans.{code_at, code_in, slot_seen}
use Rattle.c_resolver.specs.Shown.{scope_seen, tables_seen}
use Rattle.c_resolver.proofs.CodeLemmas.{block_kept}
use Rattle.c_resolver.proofs.ListLemmas.{kept_step}
use Rattle.c_resolver.proofs.ScopeLemmas.{closed_locals, variables_closed}
use Rattle.c_resolver.proofs.StepLemmas.{on_value}
use Rattle.c_resolver.proofs.blocks.+statement.Goals as goal

pub block-returns-clause-code : goal.block-returns-clause-code
block-returns-clause-code t c = on_value c.stmts.result c.stmts.ensures.code (λ row e.
    block_kept (code_at c.args.plan.now.gives c.args.plan.now.labels (tables_seen c.args.tables.now)) c.args.block.now (map slot_seen c.args.plan.now.slots)
    (scope_seen c.args.scope.now) (scope_seen c.declare.new.scope) c.as_slice-3.result.now row
    (c.in_ok-declare.ensures ∙ (λ i. record {
      env = with_locals (scope_seen c.args.scope.now).env (c.as_slice-2.ensures i);
      variables = with_variables
          (map slot_seen (c.as_slice.ensures i)) (scope_seen c.args.scope.now).variables (c.as_slice-2.ensures i);
    }))
    c.as_slice-3.ensures e)

pub block-returns-clause-names : goal.block-returns-clause-names
block-returns-clause-names t c = on_ok c.stmts.result c.stmts.ensures.names (λ e.
    e ∙ c.in_ok-declare.ensures ∙ (λ i. record {
      env = with_locals (scope_seen c.args.scope.now).env (c.as_slice-2.ensures i);
      variables = with_variables
          (map slot_seen (c.as_slice.ensures i)) (scope_seen c.args.scope.now).variables (c.as_slice-2.ensures i);
    }))

pub stmts-loop-stmt-preserved : goal.stmts-loop-stmt-preserved
stmts-loop-stmt-preserved t c = record {
  code = kept_step (λ x. map (code_at c.args.plan.now.gives c.args.plan.now.labels (tables_seen c.args.tables.now))
      (code_in x (map slot_seen c.args.plan.now.slots) (scope_seen c.args.scope.now)))
      (λ l. map (code_at c.args.plan.now.gives c.args.plan.now.labels (tables_seen c.args.tables.now))
      (all_code (map code_in l) (map slot_seen c.args.plan.now.slots) (scope_seen c.args.scope.now)))
      (λ x l. map-append (code_at c.args.plan.now.gives c.args.plan.now.labels (tables_seen c.args.tables.now))
      (code_in x (map slot_seen c.args.plan.now.slots) (scope_seen c.args.scope.now))
      (all_code (map code_in l) (map slot_seen c.args.plan.now.slots) (scope_seen c.args.scope.now)))
      c.args.body.now c.loop-stmt.stmt-index c.stmt-item.result c.loop-stmt.row c.append.new.row c.loop-stmt-test.true c.stmt-item.is
      (c.in_ok-append.ensures ∙ ap (λ z. c.loop-stmt.row ++ z) (c.in_ok-more.ensures.code
      ∙ ap (λ (z : Scope). map (code_at c.args.plan.now.gives c.args.plan.now.labels (tables_seen c.args.tables.now))
      (code_in c.stmt-item.result (map slot_seen c.args.plan.now.slots) z)) c.loop-stmt.invariant.names))
      ∙ c.loop-stmt.invariant.code;
  names = c.in_ok-more.ensures.names ∙ c.loop-stmt.invariant.names;
}

pub inner-returns-clause-names : goal.inner-returns-clause-names
inner-returns-clause-names t c = λ i. record {
  env = closed_locals c.args.scope.now.environment (seen c.open.new.self) (seen c.block.new.scope.environment) (seen c.close.new.self)
      (out-Block c.args.inside.now).locals c.in_ok-open.ensures (ap (λ (s : Scope). s.env) c.in_ok-row.ensures.names) c.close.ensures i;
  variables = variables_closed c.length-count.result (map slot_seen c.args.plan.now.slots) c.args.scope.now.variables c.block.new.scope.variables
      c.truncate.new.self (out-Block c.args.inside.now).locals c.length-count.ensures
      (ap (λ (s : Scope). s.variables) c.in_ok-row.ensures.names) c.truncate.ensures i;
}
