-- Tokens that differ in their places alone.
use Rattle.std.specs.Prelude.{◌≡◌, [], ◌∷◌}
use Rattle.c_lexer.specs.declared.token.TokenKind.TheVariants as k
use Rattle.c_tree.specs.Words.{Of, Token, Word}

-- one token at two places: names and texts have bytes besides
pub record Like (s t : Token) : Type 0 where
  pub terminal : t.terminal ≡ s.terminal
  pub named : s.terminal ≡ Of k.Identifier → t.bytes ≡ s.bytes
  pub said : s.terminal ≡ Of k.Text → t.bytes ≡ s.bytes

-- the same tokens in order
pub data Alike : Word → Word → Type 0 where
  none : Alike [] []
  one : {s t : Token} {v w : Word} → Like s t → Alike v w → Alike (s ∷ v) (t ∷ w)
