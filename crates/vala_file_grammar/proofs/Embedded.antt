-- What holds of the grammar of expressions, types and statements, holds of it as a part of the grammar of files.
use Rattle.std.proofs.Common.{◌≡◌, ℕ, Bool, true, false, if◌then◌else◌, List, Option, refl, sym, ap, ◌∙◌, codes}
use Rattle.predictive_grammar.specs.Forms.{Form}
use Rattle.predictive_grammar.specs.Follows.{Word, Follows, given, taken, read, first, second, kept, left_out}
use Rattle.predictive_grammar.specs.Fit.{Opens, opens_take, opens_part, opens_first, opens_second, opens_bar, Fit, gives, takes, reads, reads_none, picks, bars}
use Rattle.vala_lexer.specs.Tokens.{Lexeme}
use Rattle.vala_grammar.specs.declared.sort.Sort.{Sort}
use Rattle.vala_grammar.specs.declared.sort.Sort.TheVariants as s
use Rattle.vala_grammar.specs.Sorts.{sort}
use Rattle.vala_grammar.specs.Trees.{same_bytes}
use Rattle.vala_lexer.specs.Texts.{text_value}
use Rattle.vala_file_grammar.specs.declared.kind.Special.TheVariants as special
use Rattle.vala_grammar.specs.Label.{Label}
use Rattle.vala_grammar.specs.Parts.{Part, tree_of}
use Rattle.vala_grammar.specs.Grammar as code
use Rattle.vala_grammar.specs.Grammar.{G}
use Rattle.vala_grammar.specs.Tables as code_tables
use Rattle.vala_file_grammar.specs.Kinds.{Kind, Of, Word as Worded, CText, is_c_identifier, base_of, sort_of_base, kind, sort_in, of_sort}
use Rattle.vala_file_grammar.specs.Parts.{Code}
use Rattle.vala_file_grammar.specs.Embed.{F, embed}
use Rattle.vala_file_grammar.specs.Grammar.{forms}
use Rattle.vala_file_grammar.specs.Tables.{tables}

-- ---- the sort is a part of the kind

name_sort : (a b c d e : Bool) → sort_of_base (if a then Worded special.Get else if b then Worded special.Set else if c then Worded special.CCode else if d then Worded special.HeaderFilename else if e then Worded special.CName else Of s.Identifier) ≡ s.Identifier
name_sort true b c d e = refl
name_sort false true c d e = refl
name_sort false false true d e = refl
name_sort false false false true e = refl
name_sort false false false false true = refl
name_sort false false false false false = refl

text_sort : (a : Bool) → sort_of_base (if a then CText else Of s.Text) ≡ s.Text
text_sort true = refl
text_sort false = refl

sort_of_kind : (x : Sort) (w : List ℕ) → sort_of_base (base_of x w) ≡ x
sort_of_kind s.Identifier w =
    name_sort (same_bytes w (codes "get")) (same_bytes w (codes "set")) (same_bytes w (codes "CCode")) (same_bytes w (codes "cheader_filename")) (same_bytes w (codes "cname"))
sort_of_kind s.Text w = text_sort (is_c_identifier (text_value w))
sort_of_kind _ w = refl

pub same_sort : (t : Lexeme) → sort_in (kind t) ≡ sort t.kind
same_sort t = sort_of_kind (sort t.kind) t.text

as_sort : (test : Sort → Bool) (t : Lexeme) → test (sort t.kind) ≡ true → test (sort_in (kind t)) ≡ true
as_sort test t e = ap test (same_sort t) ∙ e

as_kind : (test : Sort → Bool) (t : Lexeme) → test (sort_in (kind t)) ≡ true → test (sort t.kind) ≡ true
as_kind test t e = ap test (sym (same_sort t)) ∙ e

-- ---- what fits, opens and is a text, stays so

pub open_code : {r : Part} {x : Kind} {form : Form G r} → Opens G code_tables.tables r (sort_in x) form → Opens F tables (Code r) x (embed form)
open_code (opens_take e) = opens_take e
open_code (opens_part e) = opens_part e
open_code (opens_first e o) = opens_first e (open_code o)
open_code (opens_second e o) = opens_second e (open_code o)
open_code (opens_bar e o) = opens_bar e (open_code o)

pub fit_code : {r : Part} {moved : Bool} {f : Sort → Bool} {z : tree_of r → Type 0} {form : Form G r} → Fit G code_tables.tables r moved f z form → Fit F tables (Code r) moved (of_sort f) z (embed form)
fit_code (gives a e) = gives a e
fit_code (takes {test = test} t e w f z rest) =
    takes t (as_sort test t e) (λ x i. w (sort_in x) i) (λ t. of_sort (f t)) z (λ t i. fit_code (rest t (as_kind test t i)))
fit_code (reads fall some w f z rest st stops) =
    reads fall some (λ x i. w (sort_in x) i) (λ b. of_sort (f b)) z (λ b. fit_code (rest b)) (λ b x i. st b (sort_in x) i) (λ b a n x i. stops b a n (sort_in x) i)
fit_code (reads_none fall w f z rest more some st stops) =
    reads_none fall (λ x i. w (sort_in x) i) (λ b. of_sort (f b)) z (λ b. fit_code (rest b)) (λ b n x i. more b n (sort_in x) i) some (λ b x i. st b (sort_in x) i) (λ b a n x i. stops b a n (sort_in x) i)
fit_code (picks f h z one i j opens other k m stops some) =
    picks (of_sort f) (of_sort h) z (fit_code one) (λ x e. i (sort_in x) e) (λ x e. j (sort_in x) e) (λ x e. open_code (opens (sort_in x) e)) (fit_code other) (λ x e. k (sort_in x) e) (λ x e. m (sort_in x) e)
    (λ a n x e. stops a n (sort_in x) e) some
fit_code (bars f z one i j m stops some) =
    bars (of_sort f) z (fit_code one) (λ x e. i (sort_in x) e) (λ x e. j (sort_in x) e) (λ x e. m (sort_in x) e) (λ a n x e. stops a n (sort_in x) e) some

pub text_code : {wide : Option Label} {r : Part} {form : Form G r} {l : ℕ} {w : Word G} {a : tree_of r} → Follows G code.forms wide r form l w a → Follows F forms wide (Code r) (embed form) l w a
unfolding forms
text_code (given a) = given a
text_code (taken {test = test} t e x) = taken t (as_sort test t e) (text_code x)
text_code (read x y) = read (text_code x) (text_code y)
text_code (first x) = first (text_code x)
text_code (second x) = second (text_code x)
text_code (kept x) = kept (text_code x)
text_code (left_out {left = left} t e i x) = left_out t e (as_sort left t i) (text_code x)
