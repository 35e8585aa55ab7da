use Rattle.std.proofs.Common.{◌-◌, length, take, drop, sym, ◌∙◌}
use Rattle.c_cursor.specs.Fronts.{lexeme}
use Rattle.c_cursor.proofs.FileLaws.{own_found}
use Rattle.c_cursor.proofs.includes.own_file.Goals as goal

pub returns : goal.returns
returns c =
    own_found c.args.lexer (lexeme c.args.first) (take (length c.args.first.text.now - 2) (drop 1 c.args.first.text.now)) c.inside.result.now
    c.in_ok-name.name c.passed.result
    c.inside.ensures c.requires (sym c.is_file_name.ensures ∙ c.if-not-is_file_name.false) c.in_ok-name.ensures.cases.0 c.in_ok-name.ensures.cases.1
    c.passed.ensures.tokens c.passed.ensures.bad c.passed.ensures.text
