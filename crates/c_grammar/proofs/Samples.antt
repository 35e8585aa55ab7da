-- A token of some kinds, among them a name that nothing declares.
use Rattle.std.proofs.Common.{◌≡◌, ℕ, zero, suc, ◌+◌, ◌<◌, Bool, true, false, if◌then◌else◌, List, [], ◌∷◌, length, refl, ap, ◌∙◌, arith}
use Rattle.std.specs.Str.{bytes_eq}
use Rattle.c_lexer.specs.declared.token.TokenKind.TheVariants as k
use Rattle.c_lexer.specs.declared.token.Keyword.{Keyword}
use Rattle.c_lexer.specs.declared.token.Sign.{Sign}
use Rattle.c_lexer.specs.declared.token.NumberType.TheVariants as number_type
use Rattle.c_tree.specs.Words.{Terminal, Of, Token}
use Rattle.c_tree.specs.Names.{Names, Role, Unknown, role_of}
use Rattle.c_grammar.specs.Sorts.{kind, on}
use Rattle.c_grammar.specs.Tests.{Set}
use Rattle.c_grammar.proofs.Classes.{named}
use Rattle.c_grammar.proofs.Bytes.{same_bytes}

-- a token without bytes
abbrev pub a_token : Terminal → Token
a_token x = record { terminal = x; bytes = []; start = 0; «end» = 0; begins_line = false }

abbrev pub a_sign : Sign → Token
a_sign s = a_token (Of (k.Sign s))

abbrev pub a_word : Keyword → Token
a_word w = a_token (Of (k.Keyword w))

abbrev pub a_number : Token
a_number = a_token (Of (k.Number 0 number_type.Gint))

abbrev pub a_name : Token
a_name = a_token (Of k.Identifier)

-- so many letters
letters : ℕ → List ℕ
letters zero = []
letters (suc n) = 97 ∷ letters n

letters_length : (n : ℕ) → length (letters n) ≡ n
unfolding letters
letters_length zero = refl
letters_length (suc n) = ap suc (letters_length n)

-- how many letters all names have
total : Names → ℕ
total [] = 0
total (d ∷ ns) = length d.name + total ns

-- a name that is longer than all
pub new_name : Names → List ℕ
new_name ns = letters (suc (total ns))

longer : (ns : Names) (x : List ℕ) → total ns < length x → role_of ns x ≡ Unknown
unfolding total
longer [] x lt = refl
longer (d ∷ ns) x lt = by_name (bytes_eq d.name x) refl (longer ns x (omega (arith, lt)))
  where
    by_name : (b : Bool) → bytes_eq d.name x ≡ b → role_of ns x ≡ Unknown → (if b then d.role else role_of ns x) ≡ Unknown
    by_name false e h = h
    by_name true e h = absurd (omega (arith, lt, ap length (same_bytes d.name x e)))

pub is_new : (ns : Names) → role_of ns (new_name ns) ≡ Unknown
unfolding new_name
is_new ns = longer ns (letters (suc (total ns))) (omega (arith, letters_length (suc (total ns))))

-- a name that nothing declares
abbrev pub an_unknown : Names → Token
an_unknown ns = record { terminal = Of k.Identifier; bytes = new_name ns; start = 0; «end» = 0; begins_line = false }

-- it is of each set that has such names
pub by_unknown : (ns : Names) (test : Set) → test (named Unknown false) ≡ true → on ns test (kind (an_unknown ns)) ≡ true
by_unknown ns test e = ap (λ (r : Role). test (named r false)) (is_new ns) ∙ e

-- a keyword and a sign at the beginning of a line
abbrev pub a_line_word : Keyword → Token
a_line_word w = record { terminal = Of (k.Keyword w); bytes = []; start = 0; «end» = 0; begins_line = true }

abbrev pub a_line_sign : Sign → Token
a_line_sign s = record { terminal = Of (k.Sign s); bytes = []; start = 0; «end» = 0; begins_line = true }

-- a name with these letters
abbrev pub a_name_of : List ℕ → Token
a_name_of w = record { terminal = Of k.Identifier; bytes = w; start = 0; «end» = 0; begins_line = false }
