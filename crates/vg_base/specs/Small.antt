-- The small texts that the first path reads, Vala and C alike: their tokens, and a head, calls with one text each, and a tail.
use Rattle.std.specs.Prelude.{◌≡◌, ℕ, Bool, false, not, ◌==◌, ◌&&◌, ◌||◌, nat_le, if◌then◌else◌, List, [], ◌∷◌, ◌++◌, Option, Some, None, IsTrue, codes}
use Rattle.std.specs.List.{AllByRecursion, flat_map}
use Rattle.vg_base.specs.World.{is_word_byte}
use Rattle.vg_base.specs.declared.small.Token.{Token}
use Rattle.vg_base.specs.declared.small.Token.TheVariants.{Word, Sign, Text, Include}
use Rattle.vg_base.specs.declared.small.Piece.{Piece}
use Rattle.vg_base.specs.declared.small.Piece.TheVariants as piece

-- white space: space, tab, line feed, form feed and carriage return
abbrev pub is_space : ℕ → Bool
is_space b = b == 32 || b == 9 || b == 10 || b == 12 || b == 13

-- the signs: `(` `)` `*` `,` `;` `{` `}`
abbrev pub is_sign : ℕ → Bool
is_sign b = b == 40 || b == 41 || b == 42 || b == 44 || b == 59 || b == 123 || b == 125

-- a byte of a text that stands for itself: from space to `~`, but for `"`, `%` and `\`
abbrev pub is_plain : ℕ → Bool
is_plain b = nat_le 32 b && nat_le b 126 && not (b == 34) && not (b == 37) && not (b == 92)

-- what stands behind a `\`, and the byte that it denotes: a line feed for `n`, and `"` and `\` for themselves
abbrev pub escape_of : ℕ → Option ℕ
escape_of c = if c == 110 then Some 10 else (if c == 34 || c == 92 then Some c else None)

-- what stands between the quotes of a text, and the bytes that it denotes
pub data Denotes : List ℕ → List ℕ → Type 0 where
  nothing : Denotes [] []
  plain : (b : ℕ) → {body bytes : List ℕ} → IsTrue (is_plain b) → Denotes body bytes → Denotes (b ∷ body) (b ∷ bytes)
  escape : (c b : ℕ) → {body bytes : List ℕ} → escape_of c ≡ Some b → Denotes body bytes → Denotes (92 ∷ c ∷ body) (b ∷ bytes)

-- a byte as it is written between the quotes of a text
abbrev pub spelled : ℕ → List ℕ
spelled b = if b == 10 then 92 ∷ 110 ∷ [] else (if b == 34 || b == 92 then 92 ∷ b ∷ [] else b ∷ [])

-- bytes as they are written between the quotes of a text
abbrev pub spelling : List ℕ → List ℕ
spelling bytes = flat_map spelled bytes

-- a word: its bytes are letters, digits and `_`, and there is one at least
abbrev pub IsWord : List ℕ → Type 0
IsWord [] = ⊥
IsWord (b ∷ bs) = AllByRecursion (λ x. IsTrue (is_word_byte x)) (b ∷ bs)

-- a word before this is not cut short
abbrev pub EndsWord : List ℕ → Type 0
EndsWord [] = Unit {0}
EndsWord (b ∷ bs) = is_word_byte b ≡ false

-- the line `#include <glib.h>` with its line feed
abbrev pub include_line : List ℕ
include_line = codes "#include <glib.h>" ++ 10 ∷ []

-- The tokens of a text: the longest at each place, and white space between them. An `#include` line begins its line, since in front of
-- it stands nothing but white space and such lines wherever a grammar takes it.
pub data Lexes : List ℕ → List Token → Type 0 where
  done : Lexes [] []
  space : (b : ℕ) → {bytes : List ℕ} {ts : List Token} → IsTrue (is_space b) → Lexes bytes ts → Lexes (b ∷ bytes) ts
  sign : (b : ℕ) → {bytes : List ℕ} {ts : List Token} → IsTrue (is_sign b) → Lexes bytes ts → Lexes (b ∷ bytes) (Sign b ∷ ts)
  word : (w : List ℕ) → {bytes : List ℕ} {ts : List Token} → IsWord w → EndsWord bytes → Lexes bytes ts → Lexes (w ++ bytes) (Word w ∷ ts)
  quoted : (body : List ℕ) → {bytes denoted : List ℕ} {ts : List Token} → Denotes body denoted → Lexes bytes ts → Lexes (34 ∷ body ++ 34 ∷ bytes) (Text denoted ∷ ts)
  include : {bytes : List ℕ} {ts : List Token} → Lexes bytes ts → Lexes (include_line ++ bytes) (Include ∷ ts)

-- the token that a grammar names
abbrev pub token_of : Piece → Token
token_of (piece.Word w) = Word w.now
token_of (piece.Sign b) = Sign b

-- `NAME ("TEXT");`
abbrev pub call : List ℕ → List ℕ → List Token
call name text = Word name ∷ Sign 40 ∷ Text text ∷ Sign 41 ∷ Sign 59 ∷ []

-- a head, then calls of one function, each with one text, then a tail
abbrev pub calls_between : List Token → List ℕ → List Token → List (List ℕ) → List Token
calls_between head name tail texts = head ++ flat_map (call name) texts ++ tail

-- a tail that is no call of the function
abbrev pub EndsCalls : List ℕ → List Token → Type 0
EndsCalls name [] = Unit {0}
EndsCalls name (Word w ∷ ts) = w ≡ name → ⊥
EndsCalls name (t ∷ ts) = Unit {0}
