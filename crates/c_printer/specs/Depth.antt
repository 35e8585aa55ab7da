-- How deep the brackets of a text nest.
use Rattle.std.specs.Prelude.{◌≡◌, ℕ, ◌-◌, Bool, true, false, if◌then◌else◌, List, [], ◌∷◌, ◌++◌, length, map, take, slice_index_or, None}
use Rattle.c_lexer.specs.declared.token.Sign.{Sign}
use Rattle.c_lexer.specs.declared.token.Sign.TheVariants as sign
use Rattle.c_lexer.specs.declared.token.TokenKind.{TokenKind}
use Rattle.c_lexer.specs.declared.token.TokenKind.TheVariants as k
use Rattle.c_lexer.specs.Tokens.{Lexeme, Tokens, all_of}
use Rattle.c_tree.specs.Words.{plain, is_shallow}
use Rattle.c_printer.specs.declared.depth.Open.{Open}
use Rattle.c_printer.specs.declared.depth.Open.TheVariants.{Bracket, Choice}

-- 1. The signs that are open, the last at the end

abbrev pub closed : List Open → List Open
closed o = take (length o - 1) o

abbrev pub is_choice : Open → Bool
is_choice Choice = true
is_choice Bracket = false

abbrev pub is_in_choice : List Open → Bool
is_in_choice o = is_choice (slice_index_or o (length o - 1) Bracket)

abbrev pub closed_choice : List Open → List Open
closed_choice o = if is_in_choice o then closed o else o

abbrev pub with_sign : List Open → Sign → List Open
with_sign o sign.OpenBrace = o ++ Bracket ∷ []
with_sign o sign.OpenParen = o ++ Bracket ∷ []
with_sign o sign.OpenBracket = o ++ Bracket ∷ []
with_sign o sign.Question = o ++ Choice ∷ []
with_sign o sign.CloseBrace = closed o
with_sign o sign.CloseParen = closed o
with_sign o sign.CloseBracket = closed o
with_sign o sign.Colon = closed_choice o
with_sign o s = o

abbrev pub with_kind : List Open → TokenKind → List Open
with_kind o (k.Sign s) = with_sign o s
with_kind o kind = o

-- 2. Texts

-- no more than 64 are open at any token of a text
abbrev pub IsShallowText : List ℕ → Type 0
IsShallowText bytes = (ts : List Lexeme) → Tokens (all_of bytes) ts None → is_shallow [] (map plain ts) ≡ true
