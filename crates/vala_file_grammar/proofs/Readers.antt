-- The readers answer exactly, a text has one tree, and of the parts of expressions, types and statements the readers are those of that grammar.
use Rattle.std.proofs.Common.{◌≡◌, ℕ, zero, suc, ◌≤◌, Bool, true, false, if◌then◌else◌, List, [], ◌∷◌, length, refl, sym, ap, ◌∙◌, true≢false, arith, Err}
use Rattle.predictive_grammar.specs.Forms.{Form, give, take, part, pick, bar}
use Rattle.predictive_grammar.specs.Steps.{Parser, LeftOut, Syntax, next_is, shift}
use Rattle.predictive_grammar.specs.Reading.{walk, expect, reader, enough}
use Rattle.predictive_grammar.proofs.Main as main
use Rattle.predictive_grammar.proofs.Law as law
use Rattle.predictive_grammar.proofs.Sound.{Told, run_told}
use Rattle.vala_lexer.specs.Tokens.{Lexeme}
use Rattle.vala_grammar.specs.Label.{Label}
use Rattle.vala_grammar.specs.Parts.{Part}
use Rattle.vala_grammar.specs.Grammar as code
use Rattle.vala_grammar.specs.Grammar.{G}
use Rattle.vala_grammar.specs.Tables as code_tables
use Rattle.vala_grammar.specs.Answer.{limits}
use Rattle.vala_grammar.specs.Read.{vala_reader}
use Rattle.vala_grammar.proofs.Predictive as code_proof
use Rattle.vala_grammar.proofs.Readers.{reader_unfolds}
use Rattle.vala_grammar.specs.declared.sort.Sort.{Sort}
use Rattle.vala_file_grammar.specs.Kinds.{Kind, of_sort}
use Rattle.vala_file_grammar.proofs.Embedded.{same_sort}
use Rattle.vala_file_grammar.specs.Parts.{FilePart, Code, file_tree_of}
use Rattle.vala_file_grammar.specs.Embed.{F, embed}
use Rattle.vala_file_grammar.specs.Grammar.{forms, where_some, where_token}
use Rattle.vala_file_grammar.specs.Tables.{tables}
use Rattle.vala_file_grammar.specs.Read.{file_reader, ReadsExactly, HasOneTree, ReadsCode}
use Rattle.vala_file_grammar.proofs.Predictive.{predictive}

pub reads_exactly : ReadsExactly
reads_exactly p level input = main.answers F forms tables predictive p level limits input

pub has_one_tree : HasOneTree
has_one_tree p level u v a b e x y = main.one_tree F forms tables predictive p level u v a b e x y

-- a reader takes its form from left to right, by the readers of the parts in it
pub reader_unfolds_file : (p : FilePart) (level : ℕ) (input : List Lexeme) → file_reader p level input ≡ walk F file_reader limits p (forms p) level input
reader_unfolds_file p level input = law.reader_law F forms tables predictive limits p level input

-- a choice that is there only where some token passes its test is that choice
pub walk_some : (parts : (q : FilePart) → ℕ → Parser Label Lexeme (file_tree_of q)) (r : FilePart) (b : Bool) (test : Kind → Bool) (k : Lexeme → Form F r) (other : Form F r) (l : ℕ) (i : List Lexeme)
    → (b ≡ false → (x : Kind) → test x ≡ false) → walk F parts limits r (where_some b test k other) l i ≡ walk F parts limits r (where_token test k other) l i
unfolding walk
walk_some parts r true test k other l i none = refl
walk_some parts r false test k other l i none = both_ways (next_is F.kind test i) (none_next i)
  where
    none_next : (i : List Lexeme) → next_is F.kind test i ≡ false
    none_next [] = refl
    none_next (t ∷ ts) = none refl (F.kind t)

    both_ways : (c : Bool) → c ≡ false → walk F parts limits r other l i ≡ (if c then walk F parts limits r (take (λ l. l) 0 test k) l i else walk F parts limits r other l i)
    both_ways true e = absurd (true≢false e)
    both_ways false e = refl

-- ---- the readers of expressions, types and statements

next_same : (test : Sort → Bool) (i : List Lexeme) → next_is F.kind (of_sort test) i ≡ next_is G.kind test i
next_same test [] = refl
next_same test (t ∷ ts) = ap test (same_sort t)

both : {A : Type 0} (c d : Bool) (x y u v : A) → c ≡ d → x ≡ y → u ≡ v → (if c then x else u) ≡ (if d then y else v)
both true true x y u v e f g = f
both false false x y u v e f g = g
both true false x y u v e f g = absurd (true≢false e)
both false true x y u v e f g = absurd (true≢false (sym e))

-- a form walks as it did
walk_embed : (parts : (q : FilePart) → ℕ → Parser Label Lexeme (file_tree_of q)) {r : Part} (form : Form G r) (l : ℕ) (i : List Lexeme)
    → walk G (λ q. parts (Code q)) limits r form l i ≡ walk F parts limits (Code r) (embed form) l i
unfolding walk
walk_embed parts (give a) l i = refl
walk_embed parts {r = r} (take up items test k) l i =
    law.and_then_same (expect G limits (up l) items test i) (expect F limits (up l) items (of_sort test) i) (λ t. walk G (λ q. parts (Code q)) limits r (k t) l) (λ t. walk F parts limits (Code r) (embed (k t)) l)
    (both (next_is G.kind test i) (next_is F.kind (of_sort test) i) (shift limits (up l) items i) (shift limits (up l) items i) (Err (Syntax, i)) (Err (Syntax, i)) (sym (next_same test i)) refl refl)
    (λ t j e. walk_embed parts (k t) l j)
walk_embed parts {r = r} (part up q k) l i =
    law.and_then_same (parts (Code q) (up l) i) (parts (Code q) (up l) i) (λ b. walk G (λ q. parts (Code q)) limits r (k b) l) (λ b. walk F parts limits (Code r) (embed (k b)) l) refl (λ b j e. walk_embed parts (k b) l j)
walk_embed parts {r = r} (pick test a b) l i =
    both (next_is G.kind test i) (next_is F.kind (of_sort test) i) (walk G (λ q. parts (Code q)) limits r a l i) (walk F parts limits (Code r) (embed a) l i)
    (walk G (λ q. parts (Code q)) limits r b l i) (walk F parts limits (Code r) (embed b) l i) (sym (next_same test i)) (walk_embed parts a l i) (walk_embed parts b l i)
walk_embed parts {r = r} (bar left e k) l i =
    both (next_is G.kind left i) (next_is F.kind (of_sort left) i) (Err (LeftOut e, i)) (Err (LeftOut e, i))
    (walk G (λ q. parts (Code q)) limits r k l i) (walk F parts limits (Code r) (embed k) l i) (sym (next_same left i)) refl (walk_embed parts k l i)

told : (q : Part) (l : ℕ) (i : List Lexeme) → Told G code.forms q (code.forms q) l i (vala_reader q l i)
unfolding reader
told q l i = run_told G code.forms (enough code_tables.tables.top (code_tables.tables.rank q) i) limits q l i

same_reader : (f : ℕ) (p : Part) (l : ℕ) (i : List Lexeme) → enough code_tables.tables.top (code_tables.tables.rank p) i ≤ f → vala_reader p l i ≡ file_reader (Code p) l i
unfolding forms
same_reader zero p l i le = absurd (omega arith)
same_reader (suc f) p l i le =
    reader_unfolds p l i
    ∙ law.walk_same G code.forms code_tables.tables code_proof.predictive limits vala_reader (λ q. file_reader (Code q)) told f (λ q l j le. same_reader f q l j le) (code_proof.predictive.fits p) (length i) (omega arith) l i
    (record { most = omega arith; fewer = λ e. absurd (true≢false (sym e)) })
    ∙ walk_embed file_reader (code.forms p) l i ∙ sym (reader_unfolds_file (Code p) l i)

pub reads_code : ReadsCode
reads_code p level input = sym (same_reader (enough code_tables.tables.top (code_tables.tables.rank p) input) p level input (omega arith))
