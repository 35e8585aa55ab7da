-- What is carried to C so far: tokens `void main () { print (TEXT); .. }`, with any number of calls.
use Rattle.std.specs.Prelude.{◌≡◌, ℕ, if◌then◌else◌, List, [], ◌∷◌, ◌++◌, codes}
use Rattle.vg_base.specs.declared.event.Span.{Span}
use Rattle.vg_base.specs.Small.{Denotes}
use Rattle.c_emit.specs.Program.{Program}
use Rattle.vala_lexer.specs.declared.token.Token.{Token}
use Rattle.vala_lexer.specs.Tokens.{Lexeme}
use Rattle.vala_grammar.specs.declared.sort.Sort.{Sort}
use Rattle.vala_grammar.specs.declared.sort.Sort.TheVariants as s
use Rattle.vala_grammar.specs.Sorts.{sort}
use Rattle.vala_grammar.specs.Trees.{same_bytes}
use Rattle.vala_compile.specs.declared.role.Role.{Role}
use Rattle.vala_compile.specs.declared.role.Role.TheVariants as role

-- a token of the program, without where its letters lie in memory
abbrev pub lexeme : Token → Lexeme
lexeme t = record { kind = t.kind; text = t.text.now; span = t.span }

-- what a token of this sort and with these letters is to a program
abbrev pub role_by : Sort → List ℕ → Role
role_by s.Void w = role.Void
role_by s.Identifier w = if same_bytes w (codes "main") then role.Main else if same_bytes w (codes "print") then role.Print else role.Other
role_by s.OpenParen w = role.OpenParen
role_by s.CloseParen w = role.CloseParen
role_by s.OpenBrace w = role.OpenBrace
role_by s.CloseBrace w = role.CloseBrace
role_by s.Semicolon w = role.Semicolon
role_by s.Text w = role.Text
role_by _ w = role.Other

abbrev pub role_of : Lexeme → Role
role_of t = role_by (sort t.kind) t.text

-- the token has this role
abbrev pub Is : Role → Lexeme → Type 0
Is r t = role_of t ≡ r

-- the letters of a text are its quotes, and between them what denotes these bytes
abbrev pub Quotes : List ℕ → List ℕ → Type 0
Quotes w text = (body : List ℕ) × (w ≡ 34 ∷ body ++ 34 ∷ []) × Denotes body text

-- the token is a text that denotes these bytes
abbrev pub IsText : List ℕ → Lexeme → Type 0
IsText text t = Is role.Text t × Quotes t.text text

-- calls `print (TEXT);`, and then `}`
pub data Calls : List Lexeme → Program → Type 0 where
  last : (t : Lexeme) → Is role.CloseBrace t → Calls (t ∷ []) []
  call : (n o x c e : Lexeme) (text : List ℕ) (ts : List Lexeme) (program : Program) → Is role.Print n → Is role.OpenParen o → IsText text x → Is role.CloseParen c → Is role.Semicolon e
      → Calls ts program → Calls (n ∷ o ∷ x ∷ c ∷ e ∷ ts) (text ∷ program)

-- The tokens are this program: `void main () {`, and then its calls and `}`.
pub data IsProgram : List Lexeme → Program → Type 0 where
  whole : (v m o c b : Lexeme) (ts : List Lexeme) (program : Program) → Is role.Void v → Is role.Main m → Is role.OpenParen o → Is role.CloseParen c → Is role.OpenBrace b
      → Calls ts program → IsProgram (v ∷ m ∷ o ∷ c ∷ b ∷ ts) program

-- some program begins with the tokens
abbrev pub Begins : List Lexeme → Type 0
Begins ts = (behind : List Lexeme) × (program : Program) × IsProgram (ts ++ behind) program

-- the first byte of a file
abbrev pub start_of : ℕ → Span
start_of number = record { file = number; start = 0; «end» = 0 }

-- Where tokens leave off being a program: at the first with which none goes on; or, where they only begin one, at the first byte of the first file.
pub data Leaves (ts : List Lexeme) : Span → Type 0 where
  at_token : (front : List Lexeme) (t : Lexeme) (behind : List Lexeme) → ts ≡ front ++ t ∷ behind → Begins front → (Begins (front ++ t ∷ []) → ⊥) → Leaves ts t.span
  too_early : Begins ts → ((program : Program) → IsProgram ts program → ⊥) → Leaves ts (start_of 0)
