-- What functions of the reader return.
use Rattle.std.specs.Prelude.{◌≡◌, ℕ, suc, Bool, true, false, if◌then◌else◌, length, [], Option, Some, None}
use Rattle.mending_readers.specs.Mending.{State, Going, Stopped, Mended, mend_token, next_in}
use Rattle.c_lexer.specs.declared.token.Sign.{Sign}
use Rattle.c_lexer.specs.declared.token.Sign.TheVariants as sign
use Rattle.c_lexer.specs.declared.token.Keyword.{Keyword}
use Rattle.c_lexer.specs.declared.token.Keyword.TheVariants as keyword
use Rattle.c_tree.specs.Words.{Token, Word}
use Rattle.c_grammar.specs.Sorts.{Kind, kind}
use Rattle.c_grammar.specs.Parts.{What, tree_of}
use Rattle.c_grammar.specs.Grammar.{C}
use Rattle.c_grammar.specs.Laws.{c_limits}
use Rattle.c_grammar.specs.Mending.{made_up, by_tag}
use Rattle.c_cursor.specs.declared.parser.Parser.{Parser}
use Rattle.c_cursor.specs.declared.sets.Set.{Set}
use Rattle.c_cursor.specs.declared.sets.Set.TheVariants as set
use Rattle.c_cursor.specs.Reading.{read}
use Rattle.c_cursor.specs.Scopes.{names_of}
use Rattle.c_cursor.specs.Sets.{is_in}
use Rattle.c_cursor.specs.State.{rest}

-- it goes on or has stopped in front of these tokens
abbrev pub state_at : Bool → Word → State Token
state_at true w = Stopped w
state_at false w = Going w

-- where the reader is
abbrev pub state : Parser → State Token
state p = state_at p.is_stopped (rest p.cursor)

-- the tokens that are left, and one more where it goes on
abbrev pub room : State Token → ℕ
room (Going w) = suc (length w)
room (Stopped w) = length w

-- the test of a set among the names in scope
abbrev pub test : Set → Parser → Kind → Bool
test x p = is_in x (names_of p.names)

-- a token that is asked for, behind tokens that were taken
abbrev pub asked : Set → ℕ → Word → Parser → Token × State Token
asked x level before p = mend_token C (made_up p.end) c_limits level 0 (test x p) before (state p)

-- the next token where it is in a set
abbrev pub accepted : Set → ℕ → Parser → Option Token × State Token
accepted x level p = if next_in kind (test x p) (state p) then (Some (asked x level [] p).0, (asked x level [] p).1) else (None, state p)

-- what is read, from where the reader is
abbrev pub reads : (w : What) → ℕ → Parser → Mended Token (tree_of w)
reads w level p = read p.end (names_of p.names) w level (state p)

-- a tree that is seen by less than it is
abbrev pub seen_by : {T A B : Type 0} → (A → B) → Mended T A → Mended T B
seen_by f None = None
seen_by f (Some x) = Some (f x.0, x.1)

-- a sign that the grammar asks for
abbrev pub is_asked_sign : Sign → Bool
is_asked_sign sign.Semicolon = true
is_asked_sign sign.OpenParen = true
is_asked_sign sign.CloseParen = true
is_asked_sign sign.OpenBrace = true
is_asked_sign sign.CloseBrace = true
is_asked_sign sign.OpenBracket = true
is_asked_sign sign.CloseBracket = true
is_asked_sign sign.Comma = true
is_asked_sign sign.Colon = true
is_asked_sign sign.Assign = true
is_asked_sign sign.Star = true
is_asked_sign s = false

-- a keyword that it asks for
abbrev pub is_asked_word : Keyword → Bool
is_asked_word keyword.Int = true
is_asked_word keyword.Char = true
is_asked_word keyword.Return = true
is_asked_word keyword.Goto = true
is_asked_word keyword.Default = true
is_asked_word keyword.StructOffset = true
is_asked_word w = false

-- A set that it asks for; a name with letters of its own only behind a tag with these letters.
abbrev pub IsAsked : Set → Word → Type 0
IsAsked (set.Sign s) before = is_asked_sign s ≡ true
IsAsked (set.Word w) before = is_asked_word w ≡ true
IsAsked set.Name before = Unit {0}
IsAsked set.Number before = Unit {0}
IsAsked set.Null before = Unit {0}
IsAsked set.File before = Unit {0}
IsAsked set.IncludeWord before = Unit {0}
IsAsked set.Tag before = Unit {0}
IsAsked (set.NameOf w) before = by_tag before ≡ w.now
IsAsked set.InitFunc before = Unit {0}
IsAsked (set.FreeName main) before = Unit {0}
IsAsked (set.Base anyhow) before = Unit {0}
IsAsked (set.BaseOnLine line) before = Unit {0}
IsAsked set.KeyBase before = Unit {0}
IsAsked set.OtherBase before = Unit {0}
IsAsked set.IntBase before = Unit {0}
IsAsked set.CharBase before = Unit {0}
IsAsked x before = ⊥
