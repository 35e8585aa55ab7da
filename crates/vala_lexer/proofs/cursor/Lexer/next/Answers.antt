use Rattle.std.proofs.Common.{sym, ap, ◌∙◌, Option, Ok}
use Rattle.vala_lexer.specs.declared.token.Token.{Token}
use Rattle.vala_lexer.specs.Tokens.{left, shown}
use Rattle.vala_lexer.proofs.NextLemmas.{token_ends}
use Rattle.vala_lexer.proofs.cursor.Lexer.next.Goals as goal

pub invariant_of-self-clause-within : goal.invariant_of-self-clause-within
invariant_of-self-clause-within c =
    token_ends (left c.args.self.now) (record { kind = c.in-Some.token.kind; text = c.in-Some.token.text.now; span = c.in-Some.token.span }) (sym c.peek.ensures ∙ ap shown c.in_ok-answer.was ∙ ap (λ (o : Option Token). shown (Ok o)) c.in-Some.is)
