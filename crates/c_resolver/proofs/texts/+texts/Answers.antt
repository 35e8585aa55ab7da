use Rattle.std.proofs.Common.{◌∙◌, map, refl}
use Rattle.c_meaning.specs.Code.{link_texts}
use Rattle.c_resolver.specs.Shown.{literal_seen}
use Rattle.c_resolver.specs.Texts.{stmt_literals}
use Rattle.c_resolver.proofs.ListLemmas.{kept_step}
use Rattle.c_resolver.proofs.texts.+texts.Goals as goal

pub add_stmts-loop-stmt-preserved : goal.add_stmts-loop-stmt-preserved
add_stmts-loop-stmt-preserved t c = kept_step stmt_literals (λ l. link_texts (map stmt_literals l))
    (λ x l. refl) c.args.stmts.now c.loop-stmt.stmt-index c.stmt-item.result (map literal_seen c.loop-stmt.literals)
    (map literal_seen c.add_stmt.new.literals)
    c.loop-stmt-test.true c.stmt-item.is c.in_ok-add_stmt.ensures ∙ c.loop-stmt.invariant
