-- The steps that the readers of declarations are made of, by the kind of the next token.
use Rattle.std.specs.Prelude.{◌≡◌, ℕ, Bool, if◌then◌else◌, List, [], Option, Some, None, Result, Ok, Err}
use Rattle.predictive_grammar.specs.Forms.{Form}
use Rattle.predictive_grammar.specs.Steps.{LeftOut, Outcome, Parser, next_is}
use Rattle.predictive_grammar.specs.Reading.{expect, walk}
use Rattle.vala_lexer.specs.Tokens.{Lexeme}
use Rattle.vala_grammar.specs.declared.sort.Sort.{Sort}
use Rattle.vala_grammar.specs.Label.{Label, Here}
use Rattle.vala_grammar.specs.Answer.{limits}
use Rattle.vala_cursor.specs.Gets.{fault_of}
use Rattle.vala_cursor.specs.declared.stop.Stop.{Stop}
use Rattle.vala_cursor.specs.declared.stop.Stop.TheVariants.{Memory, Flawed}
use Rattle.vala_file_grammar.specs.Kinds.{Kind, Of, kind, sorted}
use Rattle.vala_file_grammar.specs.Parts.{FilePart, file_tree_of}
use Rattle.vala_file_grammar.specs.Embed.{F}
use Rattle.vala_file_grammar.specs.Read.{file_reader}

-- the next token's kind passes the test
abbrev pub next : (Kind → Bool) → List Lexeme → Bool
next test i = next_is kind test i

-- a token of this sort, of which no more is told
abbrev pub plain_kind : Sort → Kind
plain_kind x = record { base = Of x; text = [] }

-- a token whose kind passes the test, before which so many items stand
unfoldable pub got : (Kind → Bool) → (items level : ℕ) → Parser Label Lexeme Lexeme
got test items level = expect F limits level items test

abbrev pub one : Sort → (level : ℕ) → Parser Label Lexeme Lexeme
one x level = got (sorted x) 0 level

-- the way that the next token decides
abbrev pub way : {A : Type 0} → (Kind → Bool) → (one other : Parser Label Lexeme A) → Parser Label Lexeme A
way test a b = λ i. if next test i then a i else b i

-- what is left out, as the label says
abbrev pub refuse : {A : Type 0} → Label → Parser Label Lexeme A
refuse e = λ i. Err (LeftOut e, i)

abbrev pub leave : {A : Type 0} → Parser Label Lexeme A
leave = refuse Here

-- the rest of a part by its form
abbrev pub reads : {r : FilePart} → Form F r → ℕ → Parser Label Lexeme (file_tree_of r)
reads {r} form l = walk F file_reader limits r form l

-- what was taken, or else the other
abbrev pub either : {X A : Type 0} → (X → A) → A → Option X → A
either f a None = a
either f a (Some x) = f x

-- What a function that reads a front returned, and the tokens that it left: the rest of the reading begins there with that.
abbrev pub Leads : {X A : Type 0} → Outcome Label Lexeme A → (X → Parser Label Lexeme A) → Result X Stop → List Lexeme → Type 0
Leads outcome more (Ok x) new = outcome ≡ more x new
Leads outcome more (Err Memory) new = Unit {0}
Leads outcome more (Err (Flawed f)) new = outcome ≡ Err (fault_of f, new)
