-- All bases of kinds, and a token of each. What is said of kinds is computed for each base, whatever the letters.
use Rattle.std.proofs.Common.{◌≡◌, ℕ, ◌==◌, Bool, true, false, List, [], ◌∷◌, refl, sym, ap, true≢false, codes}
use Rattle.predictive_grammar.proofs.Sets.{Finite, Checks, all, any, all_of}
use Rattle.vala_lexer.specs.declared.token.TokenKind.TheVariants as k
use Rattle.vala_lexer.specs.Tokens.{Lexeme}
use Rattle.vala_grammar.specs.declared.sort.Sort.{Sort}
use Rattle.vala_grammar.specs.declared.sort.Sort.TheVariants as s
use Rattle.vala_grammar.specs.Sorts.{sort}
use Rattle.vala_grammar.specs.Tests.{is}
use Rattle.vala_grammar.specs.Trees as code
use Rattle.vala_grammar.proofs.Finite as sorts
use Rattle.vala_file_grammar.specs.declared.kind.Special.{Special}
use Rattle.vala_file_grammar.specs.declared.kind.Special.TheVariants as special
use Rattle.vala_file_grammar.specs.Kinds.{Base, Of, Word, CText, Kind, base_of, kind, number}

abbrev of_sorts : List Sort → List Base
of_sorts [] = CText ∷ Word special.Get ∷ Word special.Set ∷ Word special.CCode ∷ Word special.HeaderFilename ∷ Word special.CName ∷ []
of_sorts (x ∷ xs) = Of x ∷ of_sorts xs

abbrev pub all_bases : List Base
all_bases = of_sorts sorts.all_sorts

abbrev pub same : Base → Base → Bool
same (Of x) (Of y) = is x y
same (Word v) (Word w) = number v == number w
same CText CText = true
same _ _ = false

same_word : (v w : Special) → (number v == number w) ≡ true → v ≡ w
same_word special.Get special.Get e = refl
same_word special.Set special.Set e = refl
same_word special.CCode special.CCode e = refl
same_word special.HeaderFilename special.HeaderFilename e = refl
same_word special.CName special.CName e = refl
same_word _ _ e = absurd (true≢false (sym e))

pub same_is : (x y : Base) → same x y ≡ true → x ≡ y
same_is (Of x) (Of y) e = ap (λ (x : Sort). Of x) (sorts.is_same x y e)
same_is (Word v) (Word w) e = ap (λ (v : Special). Word v) (same_word v w e)
same_is CText CText e = refl
same_is (Of x) (Word w) e = absurd (true≢false (sym e))
same_is (Of x) CText e = absurd (true≢false (sym e))
same_is (Word v) (Of y) e = absurd (true≢false (sym e))
same_is (Word v) CText e = absurd (true≢false (sym e))
same_is CText (Of y) e = absurd (true≢false (sym e))
same_is CText (Word w) e = absurd (true≢false (sym e))

every_sort : (x : Sort) → any (same (Of x)) all_bases ≡ true
every_sort s.Identifier = refl
every_sort _ = refl

every_word : (w : Special) → any (same (Word w)) all_bases ≡ true
every_word special.Get = refl
every_word _ = refl

pub every : (x : Base) → any (same x) all_bases ≡ true
every (Of x) = every_sort x
every (Word w) = every_word w
every CText = refl

abbrev pub bases : Finite Base
bases = record { kinds = all_bases; same = same; same_is = same_is; every = every }

abbrev pub always : List ℕ → Bool
always = λ w. true

pub by_base : (p : Kind → Bool) → (λ (w : List ℕ). all (λ (b : Base). p (record { base = b; text = w })) all_bases) ≡ always → (x : Kind) → p x ≡ true
by_base p e x = all_of bases (λ (b : Base). p (record { base = b; text = x.text })) (ap (λ (f : List ℕ → Bool). f x.text) e) x.base

abbrev pub checks : Checks Kind
checks = record { Holds = λ (p : Kind → Bool). (λ (w : List ℕ). all (λ (b : Base). p (record { base = b; text = w })) all_bases) ≡ always; sound = by_base }

-- how a word is written
abbrev pub letters : Special → List ℕ
letters special.Get = codes "get"
letters special.Set = codes "set"
letters special.CCode = codes "CCode"
letters special.HeaderFilename = codes "cheader_filename"
letters special.CName = codes "cname"

abbrev pub sample : Base → Lexeme
sample (Of x) = sorts.sample x
sample (Word w) = record { kind = k.Identifier; text = letters w; span = record { file = 0; start = 0; «end» = 0 } }
sample CText = record { kind = k.Text; text = codes "\"a\""; span = record { file = 0; start = 0; «end» = 0 } }

-- its kind
abbrev pub shape : Base → Kind
shape x = record { base = x; text = code.word (sample x).text }

base_of_sort : (x : Sort) → base_of (sort (sorts.sample x).kind) [] ≡ Of x
base_of_sort s.Identifier = refl
base_of_sort _ = refl

base_of_word : (w : Special) → base_of s.Identifier (letters w) ≡ Word w
base_of_word special.Get = refl
base_of_word _ = refl

with_text : (x : Base) (b : Base) → b ≡ x → record { base = b; text = code.word (sample x).text } ≡ shape x
with_text x b e = ap (λ (y : Base). record { base = y; text = code.word (sample x).text }) e

pub is_sample : (x : Base) → kind (sample x) ≡ shape x
is_sample (Of x) = with_text (Of x) (base_of (sort (sorts.sample x).kind) []) (base_of_sort x)
is_sample (Word w) = with_text (Word w) (base_of s.Identifier (letters w)) (base_of_word w)
is_sample CText = refl

-- a name with these letters
abbrev pub named_sample : List ℕ → Lexeme
named_sample w = record { kind = k.Identifier; text = 64 ∷ w; span = record { file = 0; start = 0; «end» = 0 } }
