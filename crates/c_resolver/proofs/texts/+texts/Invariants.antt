use Rattle.std.proofs.Common.{◌≡◌, ◌++◌, drop, map}
use Rattle.c_meaning.specs.Code.{link_texts}
use Rattle.c_resolver.specs.Shown.{literal_seen}
use Rattle.c_resolver.specs.Texts.{stmt_literals}
use Rattle.c_resolver.proofs.texts.+texts.Given as goal

abbrev pub invariant-add_stmts-loop-stmt : goal.invariant-add_stmts-loop-stmt
invariant-add_stmts-loop-stmt l = map literal_seen l.literals ++ link_texts
    (map stmt_literals (drop l.stmt-index l.stmts)) ≡ map literal_seen l.fn.literals ++ link_texts (map stmt_literals l.stmts)
