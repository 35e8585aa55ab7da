use Rattle.std.proofs.Common.{◌≡◌, ◌∙◌, sym, subst, ◌+◌, arith}
use Rattle.predictive_grammar.specs.Steps.{Outcome}
use Rattle.vala_lexer.specs.Tokens.{Lexeme}
use Rattle.vala_tree.specs.declared.code.Catch.{Catch}
use Rattle.vala_grammar.specs.Label.{Label}
use Rattle.vala_cursor.specs.Ahead.{rest}
use Rattle.vala_cursor.specs.Gets.{Gets, seen}
use Rattle.vala_parse_expr.proofs.CatchLaws.{catch_goes_on, catch_left_out}
use Rattle.vala_parse_expr.proofs.statements.Statements.catch_one.Goals as goal

-- a sign behind the type
pub returns-then-is_among-clause-tree : goal.returns-then-is_among-clause-tree
returns-then-is_among-clause-tree g c =
    catch_left_out (seen c.args.token) c.in_ok-declared.declared c.args.level (c.args.level + 1) (rest c.args.cursor.now) (rest c.any_type.new.cursor)
    c.in_ok-declared.ensures.tree (sym c.is_among.ensures ∙ c.if-is_among.true) (omega arith)

-- no such sign
pub returns-clause-tree : goal.returns-clause-tree
returns-clause-tree g c =
    subst (λ (o : Outcome Label Lexeme Catch). Gets o c.catch_name.result (rest c.catch_name.new.cursor))
    (sym (catch_goes_on (seen c.args.token) c.in_ok-declared.declared c.args.level (c.args.level + 1) (rest c.args.cursor.now) (rest c.any_type.new.cursor)
    c.in_ok-declared.ensures.tree (sym c.is_among.ensures ∙ c.if-is_among.false) (omega arith))) c.catch_name.ensures.tree
