use Rattle.std.proofs.Common.{◌≡◌, Option, Some, Ok, sym, ap, ◌∙◌, rules}
use Rattle.c_lexer.specs.declared.token.Token.{Token}
use Rattle.c_lexer.specs.Tokens.{left, next_of, shown}
use Rattle.c_cursor.specs.Fronts.{lexeme}
use Rattle.c_cursor.proofs.FileLaws.{spelled_more, spelled_other}
use Rattle.c_cursor.proofs.includes.+spelled_end.Goals as goal

pub returns-in-Some : goal.returns-in-Some
returns-in-Some _ c =
    let next : next_of (left c.args.front) ≡ Ok (Some (lexeme c.in-Ok-Some.token)) =
    sym c.in-Ok-Some.ensures.answer ∙ ap (λ (o : Option Token). shown (Ok o)) c.in-Ok-Some.field-0-is in
    spelled_more (left c.args.front) (left c.next.new.self) (lexeme c.in-Ok-Some.token) c.args.at c.args.tokens c.args.spelling.now
    c.in-Some.further.now c.spelled_end.result
    next c.next.ensures.after (search rules) (search rules) c.in-Some.ensures.cases.0 c.in-Some.ensures.cases.1 c.in-Some.ensures.cases.2 c.spelled_end.ensures

pub returns-in-None : goal.returns-in-None
returns-in-None _ c =
    let next : next_of (left c.args.front) ≡ Ok (Some (lexeme c.in-Ok-Some.token)) =
    sym c.in-Ok-Some.ensures.answer ∙ ap (λ (o : Option Token). shown (Ok o)) c.in-Ok-Some.field-0-is in
    spelled_other (left c.args.front) (lexeme c.in-Ok-Some.token) c.args.at c.args.tokens c.args.spelling.now next (search rules)
    (search rules) c.in-None.ensures.cases
