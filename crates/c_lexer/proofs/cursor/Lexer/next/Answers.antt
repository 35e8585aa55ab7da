use Rattle.std.proofs.Common.{sym, ap, ◌∙◌, Option, Ok}
use Rattle.c_lexer.specs.declared.token.Token.{Token}
use Rattle.c_lexer.specs.Tokens.{left, shown}
use Rattle.c_lexer.proofs.NextLemmas.{token_ends}
use Rattle.c_lexer.proofs.cursor.Lexer.next.Goals as goal

pub invariant_of-self-clause-within : goal.invariant_of-self-clause-within
invariant_of-self-clause-within c =
    token_ends (left c.args.self.now) (record { kind = c.in-Some.token.kind; text = c.in-Some.token.text.now; start = c.in-Some.token.start; end = c.in-Some.token.end; begins_line = c.in-Some.token.begins_line }) (sym c.peek.ensures ∙ ap shown c.in_ok-answer.was ∙ ap (λ (o : Option Token). shown (Ok o)) c.in-Some.is)
