use Rattle.std.proofs.Common.{◌≡◌, Option, Some, Ok, sym, ap, ◌∙◌}
use Rattle.c_lexer.specs.declared.token.Token.{Token}
use Rattle.c_lexer.specs.Tokens.{left, next_of, shown}
use Rattle.c_cursor.specs.Fronts.{lexeme}
use Rattle.c_cursor.proofs.FileLaws.{cut_inside}
use Rattle.c_cursor.proofs.front.Front.cut.Goals as goal

pub returns-in-Ok-Some-clause-inside : goal.returns-in-Ok-Some-clause-inside
returns-in-Ok-Some-clause-inside c =
    let next : next_of (left c.args.self.now.lexer) ≡ Ok (Some (lexeme c.in-Ok-Some.token)) =
    sym c.in-Ok-Some.ensures.answer ∙ ap (λ (o : Option Token). shown (Ok o)) c.in-Ok-Some.field-0-is in
    cut_inside (left c.args.self.now.lexer) (lexeme c.in-Ok-Some.token) c.joined.result.start next c.joined.ensures.start
