use Rattle.c_cursor.specs.Fronts.{lexeme}
use Rattle.c_cursor.proofs.FileLaws.{file_named, file_passed}
use Rattle.c_cursor.proofs.includes.system_file.Goals as goal

pub returns-in-Some : goal.returns-in-Some
returns-in-Some c =
    file_named _ c.loop-known.known-index _ c.args.lexer (lexeme c.args.first) _ c.in-Some.found c.loop-known-test.true c.loop-known.invariant c.in-Some.ensures

pub loop-known-preserved : goal.loop-known-preserved
loop-known-preserved c = file_passed _ c.loop-known.known-index _ c.args.lexer (lexeme c.args.first) _ c.loop-known-test.true c.loop-known.invariant
    c.in-None.ensures
