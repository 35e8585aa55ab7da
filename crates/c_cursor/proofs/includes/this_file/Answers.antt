use Rattle.std.proofs.Common.{refl, sym, ◌∙◌}
use Rattle.c_cursor.specs.Fronts.{lexeme}
use Rattle.c_cursor.proofs.FileLaws.{this_found, this_missing}
use Rattle.c_cursor.proofs.includes.this_file.Goals as goal

pub returns-in-Some : goal.returns-in-Some
returns-in-Some c =
    this_found c.args.known c.args.lexer (lexeme c.args.first) c.in-Some.end c.passed.result _ refl c.requires.next c.requires.some
    (sym c.in-Some.is ∙ c.spelled_end.ensures) c.passed.ensures.tokens c.passed.ensures.bad c.passed.ensures.text

pub returns-in-None : goal.returns-in-None
returns-in-None c = this_missing c.args.known c.args.lexer (lexeme c.args.first) c.requires.next (sym c.in-None.is ∙ c.spelled_end.ensures)
