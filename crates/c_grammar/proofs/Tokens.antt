-- What a test says of a token, and the other way round.
use Rattle.std.proofs.Common.{◌≡◌, ◌==◌, Bool, true, false, refl, sym, ap, ◌∙◌, true≢false, eq-eqb}
use Rattle.c_lexer.specs.declared.token.Constant.{Constant}
use Rattle.c_lexer.specs.declared.token.Constant.TheVariants as constant
use Rattle.c_lexer.specs.declared.token.TokenKind.TheVariants as k
use Rattle.c_lexer.specs.declared.token.Keyword.{Keyword}
use Rattle.c_lexer.specs.declared.token.Sign.{Sign}
use Rattle.c_tree.specs.Words.{Terminal, Of, Token, IsSign, IsWord, IsName}
use Rattle.c_tree.specs.Names.{Names, Role, role_of}
use Rattle.c_grammar.specs.Sorts.{Kind, kind, Name, OfSign, OfWord, sort_of, same, on, sign_number, word_number}
use Rattle.c_grammar.specs.Tests.{Set, is, sign_is, word_is, name_with}
use Rattle.c_grammar.proofs.Classes.{same_sign, same_word}

-- the token with another terminal
abbrev pub with_terminal : Token → Terminal → Kind
with_terminal t x = record { terminal = x; bytes = t.bytes; begins_line = t.begins_line }

-- what passes by its terminal
pub passes : (ns : Names) (test : Set) (t : Token) {x : Terminal} → t.terminal ≡ x → on ns test (with_terminal t x) ≡ true → on ns test (kind t) ≡ true
passes ns test t e h = ap (λ (x : Terminal). on ns test (with_terminal t x)) e ∙ h

pub sign_told : (x : Terminal) (s : Sign) → same (OfSign s) (sort_of x) ≡ true → x ≡ Of (k.Sign s)
sign_told (Of (k.Sign r)) s e = ap (λ (r : Sign). Of (k.Sign r)) (sym (same_sign s r e))
sign_told (Of (k.Constant constant.Null)) s e = absurd (true≢false (sym e))
sign_told _ s e = absurd (true≢false (sym e))

word_told : (x : Terminal) (s : Keyword) → same (OfWord s) (sort_of x) ≡ true → x ≡ Of (k.Keyword s)
word_told (Of (k.Keyword r)) s e = ap (λ (r : Keyword). Of (k.Keyword r)) (sym (same_word s r e))
word_told (Of (k.Constant constant.Null)) s e = absurd (true≢false (sym e))
word_told _ s e = absurd (true≢false (sym e))

name_told : (x : Terminal) → same Name (sort_of x) ≡ true → x ≡ Of k.Identifier
name_told (Of k.Identifier) e = refl
name_told (Of (k.Constant constant.Null)) e = absurd (true≢false (sym e))
name_told _ e = absurd (true≢false (sym e))

pub is_sign : (ns : Names) (s : Sign) (t : Token) → on ns (sign_is s) (kind t) ≡ true → IsSign t s
is_sign ns s t e = sign_told t.terminal s e

pub is_word : (ns : Names) (w : Keyword) (t : Token) → on ns (word_is w) (kind t) ≡ true → IsWord t w
is_word ns w t e = word_told t.terminal w e

pub is_name : (ns : Names) (t : Token) → on ns (is Name) (kind t) ≡ true → IsName t
is_name ns t e = name_told t.terminal e

same_signs : (s : Sign) → (sign_number s == sign_number s) ≡ true
same_signs s = eq-eqb (sign_number s) (sign_number s) refl

same_words : (s : Keyword) → (word_number s == word_number s) ≡ true
same_words s = eq-eqb (word_number s) (word_number s) refl

pub sign_passes : (ns : Names) (s : Sign) (t : Token) → IsSign t s → on ns (sign_is s) (kind t) ≡ true
sign_passes ns s t e = passes ns (sign_is s) t e (same_signs s)

pub word_passes : (ns : Names) (w : Keyword) (t : Token) → IsWord t w → on ns (word_is w) (kind t) ≡ true
word_passes ns w t e = passes ns (word_is w) t e (same_words w)

pub name_passes : (ns : Names) (t : Token) → IsName t → on ns (is Name) (kind t) ≡ true
name_passes ns t e = passes ns (is Name) t e refl

-- a name whose role passes
pub is_name_with : (ns : Names) (test : Role → Bool) (t : Token) → on ns (name_with test) (kind t) ≡ true → IsName t × (test (role_of ns t.bytes) ≡ true)
is_name_with ns test t e = by_terminal t.terminal refl e
  where
    by_terminal : (x : Terminal) → t.terminal ≡ x → on ns (name_with test) (with_terminal t x) ≡ true → IsName t × (test (role_of ns t.bytes) ≡ true)
    by_terminal (Of k.Identifier) i e = (i, e)
    by_terminal (Of (k.Constant constant.Null)) i e = absurd (true≢false (sym e))
    by_terminal _ i e = absurd (true≢false (sym e))

pub name_with_passes : (ns : Names) (test : Role → Bool) (t : Token) → IsName t → test (role_of ns t.bytes) ≡ true → on ns (name_with test) (kind t) ≡ true
name_with_passes ns test t i e = passes ns (name_with test) t i e
