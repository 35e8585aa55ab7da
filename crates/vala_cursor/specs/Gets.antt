-- What a function that reads returns.
use Rattle.std.specs.Prelude.{◌≡◌, ℕ, Bool, if◌then◌else◌, List, [], ◌∷◌, Option, Some, None, Result, Ok, Err}
use Rattle.predictive_grammar.specs.Steps.{Fault, Syntax, LeftOut, Nesting, Number, Outcome, Parser, next_is}
use Rattle.predictive_grammar.specs.Reading.{expect}
use Rattle.vala_lexer.specs.Tokens.{Lexeme, Answer}
use Rattle.vala_lexer.specs.declared.token.Token.{Token}
use Rattle.vala_grammar.specs.declared.sort.Sort.{Sort}
use Rattle.vala_grammar.specs.Label.{Label, Here, Earlier}
use Rattle.vala_grammar.specs.Grammar.{G}
use Rattle.vala_grammar.specs.Sorts.{sort}
use Rattle.vala_grammar.specs.Tests.{is}
use Rattle.vala_grammar.specs.Answer.{limits}
use Rattle.vala_cursor.specs.declared.stop.Flaw.{Flaw}
use Rattle.vala_cursor.specs.declared.stop.Flaw.TheVariants as flaw
use Rattle.vala_cursor.specs.declared.stop.Stop.{Stop}
use Rattle.vala_cursor.specs.declared.stop.Stop.TheVariants.{Memory, Flawed}

abbrev pub fault_of : Flaw → Fault Label
fault_of flaw.Syntax = Syntax
fault_of flaw.LeftOut = LeftOut Here
fault_of (flaw.Earlier r x) = LeftOut (Earlier r x)
fault_of flaw.Nesting = Nesting
fault_of flaw.Number = Number

-- a token without where its text lies in memory
abbrev pub seen : Token → Lexeme
seen t = record { kind = t.kind; text = t.text.now; span = t.span }

-- What a function returned, seen by a view, and the tokens that it left are what a reader gives, unless memory ran out.
abbrev pub Gives : {X A : Type 0} → (X → A) → Outcome Label Lexeme A → Result X Stop → List Lexeme → Type 0
Gives view outcome (Ok x) new = outcome ≡ Ok (view x, new)
Gives view outcome (Err Memory) new = Unit {0}
Gives view outcome (Err (Flawed f)) new = outcome ≡ Err (fault_of f, new)

abbrev pub Gets : {A : Type 0} → Outcome Label Lexeme A → Result A Stop → List Lexeme → Type 0
Gets outcome r new = Gives (λ a. a) outcome r new

-- the next token's sort passes the test
abbrev pub next : (Sort → Bool) → List Lexeme → Bool
next test i = next_is G.kind test i

-- a token whose sort passes the test, before which so many items stand
unfoldable pub got : (Sort → Bool) → (items level : ℕ) → Parser Label Lexeme Lexeme
got test items level = expect G limits level items test

-- the next token's sort
abbrev pub sort_at : List Lexeme → Option Sort
sort_at [] = None
sort_at (t ∷ ts) = Some (sort t.kind)

-- the next token
abbrev pub token_at : List Lexeme → Option Lexeme
token_at [] = None
token_at (t ∷ ts) = Some t

abbrev pub seen_option : Option Token → Option Lexeme
seen_option None = None
seen_option (Some t) = Some (seen t)

-- the token in an answer
abbrev pub token_shown : Answer → Option Lexeme
token_shown (Ok (Some t)) = Some t
token_shown _ = None

-- the sort of the token in an answer
abbrev pub sort_shown : Answer → Option Sort
sort_shown (Ok (Some t)) = Some (sort t.kind)
sort_shown _ = None

abbrev pub one : Sort → (level : ℕ) → Parser Label Lexeme Lexeme
one x level = got (is x) 0 level

-- the way that the next token decides
abbrev pub way : {A : Type 0} → (Sort → Bool) → (one other : Parser Label Lexeme A) → Parser Label Lexeme A
way test a b = λ i. if next test i then a i else b i

-- the next token would begin what the profile leaves out
abbrev pub leave : {A : Type 0} → Parser Label Lexeme A
leave = λ i. Err (LeftOut Here, i)
