-- The tokens behind a token in front of which no `include` stands.
use Rattle.std.proofs.Common.{◌∷◌, ◌∙◌, ap, sym}
use Rattle.c_lexer.specs.Tokens.{Lexeme, left}
use Rattle.c_tree.specs.Words as words
use Rattle.c_cursor.specs.declared.front.Before.{Before}
use Rattle.c_cursor.specs.Fronts.{behind_of, lexeme}
use Rattle.c_cursor.specs.Rest.{tokens_of}
use Rattle.c_cursor.proofs.WordLaws.{joined_hash, joined_other}
use Rattle.c_cursor.proofs.front.Front.joined.Goals as goal

pub returns-in-Hash-clause-tokens : goal.returns-in-Hash-clause-tokens
returns-in-Hash-clause-tokens c =
    let t : Lexeme = lexeme c.args.token in
    ap (λ (x : words.Token). x ∷ words.words_behind (behind_of c.behind-self.result) (tokens_of (left c.args.self.now.lexer))) c.plain.ensures
    ∙ ap (λ (b : words.Behind). words.plain t ∷ words.words_behind b (tokens_of (left c.args.self.now.lexer))) c.behind-self.ensures
    ∙ ap (λ l. words.plain t ∷ words.words_behind (words.then_behind words.Hash t) (tokens_of l)) c.requires.behind
    ∙ joined_hash c.args.lexer t c.requires.next
    ∙ ap (λ (b : Before). words.words_behind (behind_of b) (tokens_of (left c.args.lexer))) (sym c.in-Hash.is)

pub returns-in-Other-clause-tokens : goal.returns-in-Other-clause-tokens
returns-in-Other-clause-tokens c =
    let t : Lexeme = lexeme c.args.token in
    ap (λ (x : words.Token). x ∷ words.words_behind (behind_of c.behind-self-in-Other.result) (tokens_of (left c.args.self.now.lexer))) c.plain-in-Other.ensures
    ∙ ap (λ (b : words.Behind). words.plain t ∷ words.words_behind b (tokens_of (left c.args.self.now.lexer))) c.behind-self-in-Other.ensures
    ∙ ap (λ l. words.plain t ∷ words.words_behind (words.then_behind words.Other t) (tokens_of l)) c.requires.behind
    ∙ joined_other c.args.lexer t c.requires.next
    ∙ ap (λ (b : Before). words.words_behind (behind_of b) (tokens_of (left c.args.lexer))) (sym c.in-Other.is)
