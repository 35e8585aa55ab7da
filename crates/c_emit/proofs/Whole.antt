-- The text that is written of a program is the text of its unit.
use Rattle.std.proofs.Common.{◌≡◌, ◌∙◌, refl, sym, ap, subst, ℕ, Bool, true, false, List, [], ◌∷◌, ◌++◌, codes, Some, Result, Ok, Err, IfOk, append-nil}
use Rattle.c_lexer.specs.declared.token.Keyword.TheVariants as keyword
use Rattle.c_lexer.specs.declared.token.Sign.TheVariants as sign
use Rattle.c_lexer.specs.declared.token.TokenKind.{TokenKind}
use Rattle.c_lexer.specs.declared.token.TokenKind.TheVariants as k
use Rattle.c_lexer.specs.Texts.{text_value}
use Rattle.c_tree.specs.declared.names.Base.TheVariants as base
use Rattle.c_tree.specs.declared.names.CType.{CType}
use Rattle.c_tree.specs.declared.names.Span.{Span}
use Rattle.c_tree.specs.declared.code.Block.{Block}
use Rattle.c_tree.specs.declared.code.Stmt.{Stmt}
use Rattle.c_tree.specs.declared.kinds.Fault.{Fault}
use Rattle.c_tree.specs.declared.unit.Function.{Function as Definition}
use Rattle.c_tree.specs.declared.unit.Include.TheVariants as include
use Rattle.c_tree.specs.declared.unit.Item.TheVariants as item
use Rattle.c_tree.specs.declared.unit.Parameter.{Parameter}
use Rattle.c_tree.specs.declared.unit.Signature.{Signature}
use Rattle.c_tree.specs.declared.unit.Unit.{Unit as CUnit}
use Rattle.c_tree.specs.Bare.{SameUnit, nowhere, bare_signature, bare_block}
use Rattle.c_tree.specs.Env.{Env, library, opened, kind_of}
use Rattle.c_tree.specs.Items.{ReadsItem, ReadsItems, ReadsUnit, ReadsParameter, ReadsSignature, includes, function_is, signature_is, not_static, some_taken, named, more_parameters, no_parameter, no_item, more_items}
use Rattle.c_tree.specs.Make.{name_at, block}
use Rattle.c_tree.specs.Names.{Names, FunctionName, library_names, main_fits, declared, with_parameters}
use Rattle.c_tree.specs.Rules.{Context, Body}
use Rattle.c_tree.specs.Statements.{block_is, no_local}
use Rattle.c_tree.specs.Types.{ReadsType, type_is, no_const, no_star, more_stars, int_is, char_is}
use Rattle.c_tree.specs.Unit.{unit_faults, body_faults, label_faults, target_faults, block_end, with_function, with_parameters as behind_parameters}
use Rattle.c_tree.specs.Words.{Token, Word, IsSign, IsWord, IsName, Of, Header, at, extent, join, words, words_behind, Other}
use Rattle.c_printer.specs.declared.grade.Brackets.TheVariants.{Clear}
use Rattle.c_printer.specs.Laws.{TokensAreRead}
use Rattle.c_printer.specs.Marks.{Marks, put_marks}
use Rattle.c_printer.specs.Printed.{IsTextOf}
use Rattle.c_printer.specs.Put.{AreBytes, spelled_text}
use Rattle.c_printer.specs.PutItems.{unit_marks}
use Rattle.c_printer.specs.Text.{Text, empty}
use Rattle.c_printer.specs.Writable.{lexemes}
use Rattle.c_printer.proofs.StatementReading.{block_bare}
use Rattle.c_emit.specs.Program.{Program as Texts, AreTexts}
use Rattle.c_emit.specs.Emission.{unit_of, main_signature, main_function, statements}
use Rattle.c_emit.proofs.Marks.{head_before, calls_marks, unit_written, unit_writable}
use Rattle.c_emit.proofs.Reading.{Closed, IsRead, rest_read, all_same}
use Rattle.c_emit.proofs.Sound.{IsMainContext, IsClean, all_clean, bodies_of}
use Rattle.c_emit.proofs.Sound as sound

-- 1. The signature of `main`, by its tokens

-- the tokens of `int main (int argc, char **argv)` and the `{` behind it
pub record HeadTokens : Type 0 where
  pub result : Token
  pub name : Token
  pub paren : Token
  pub int : Token
  pub argc : Token
  pub comma : Token
  pub char : Token
  pub star : Token
  pub stars : Token
  pub argv : Token
  pub close : Token
  pub brace : Token

-- they are those tokens
pub record AreHead (h : HeadTokens) : Type 0 where
  pub result : IsWord h.result keyword.Int
  pub name : IsName h.name
  pub name_bytes : h.name.bytes ≡ codes "main"
  pub paren : IsSign h.paren sign.OpenParen
  pub int : IsWord h.int keyword.Int
  pub argc : IsName h.argc
  pub argc_bytes : h.argc.bytes ≡ codes "argc"
  pub comma : IsSign h.comma sign.Comma
  pub char : IsWord h.char keyword.Char
  pub star : IsSign h.star sign.Star
  pub stars : IsSign h.stars sign.Star
  pub argv : IsName h.argv
  pub argv_bytes : h.argv.bytes ≡ codes "argv"
  pub close : IsSign h.close sign.CloseParen
  pub brace : IsSign h.brace sign.OpenBrace

abbrev int_type : Token → CType
int_type t = record { base = base.Int; is_const = false; stars = 0; span = extent (t ∷ []) }

abbrev texts_type : HeadTokens → CType
texts_type h = record { base = base.Char; is_const = false; stars = 2; span = extent (h.char ∷ h.star ∷ h.stars ∷ []) }

abbrev first : HeadTokens → Parameter
first h = record { declared = int_type h.int; name = Some (name_at h.argc) }

abbrev second : HeadTokens → Parameter
second h = record { declared = texts_type h; name = Some (name_at h.argv) }

abbrev signature_word : HeadTokens → Word
signature_word h = h.result ∷ h.name ∷ h.paren ∷ h.int ∷ h.argc ∷ h.comma ∷ h.char ∷ h.star ∷ h.stars ∷ h.argv ∷ h.close ∷ []

abbrev signature : HeadTokens → Signature
signature h = record {
  is_static = false;
  result = int_type h.result;
  name = name_at h.name;
  parameters = first h ∷ second h ∷ [];
  span =
      extent (signature_word h);
}

abbrev inner_names : HeadTokens → Names
inner_names h = with_parameters (declared (name_at h.name) FunctionName ∷ library_names) (first h ∷ second h ∷ [])

int_read : (ns : Names) (t : Token) → IsWord t keyword.Int → ReadsType ns true (t ∷ []) (int_type t)
int_read ns t h = type_is {t = t} {u = []} {v = []} {w = []} no_const (int_is h) no_const no_star

texts_read : (ns : Names) (h : HeadTokens) → AreHead h → ReadsType ns true (h.char ∷ h.star ∷ h.stars ∷ []) (texts_type h)
texts_read ns h a =
    type_is {t = h.char} {u = []} {v = []} {w = h.star ∷ h.stars ∷ []} no_const (char_is a.char) no_const
    (more_stars {t = h.star} {u = []} {w = h.stars ∷ []} a.star no_const (more_stars {t = h.stars} {u = []} {w = []} a.stars no_const no_star))

first_read : (ns : Names) (h : HeadTokens) → AreHead h → ReadsParameter ns (h.int ∷ h.argc ∷ []) (first h)
first_read ns h a = named h.argc {w = h.int ∷ []} (int_read ns h.int a.int) refl a.argc

second_read : (ns : Names) (h : HeadTokens) → AreHead h → ReadsParameter ns (h.char ∷ h.star ∷ h.stars ∷ h.argv ∷ []) (second h)
second_read ns h a = named h.argv {w = h.char ∷ h.star ∷ h.stars ∷ []} (texts_read ns h a) refl a.argv

abbrev main_fits_with : HeadTokens → List ℕ → Span → Bool
main_fits_with h w span =
    main_fits library_names
    (record { is_static = false; result = int_type h.result; name = record { text = w; span = at h.name }; parameters = first h ∷ second h ∷ []; span = span })

fits : (h : HeadTokens) → AreHead h → (span : Span) → main_fits_with h h.name.bytes span ≡ true
fits h a span = ap (λ w. main_fits_with h w span) a.name_bytes

signature_read : (h : HeadTokens) → AreHead h → ReadsSignature library_names (signature_word h) (signature h)
signature_read h a =
    signature_is h.name {u = []} {v = h.result ∷ []} {w =
    h.paren ∷ h.int ∷ h.argc ∷ h.comma ∷ h.char ∷ h.star ∷ h.stars ∷ h.argv ∷ h.close ∷ []} not_static (int_read library_names h.result a.result) a.name
    (some_taken {t = h.paren} h.close {u = h.int ∷ h.argc ∷ []} {w = h.comma ∷ h.char ∷ h.star ∷ h.stars ∷ h.argv ∷ []} a.paren (first_read library_names h a)
    (more_parameters {t = h.comma} {u = h.char ∷ h.star ∷ h.stars ∷ h.argv ∷ []} {w = []} a.comma (second_read library_names h a) no_parameter) a.close)
    (fits h a (extent (signature_word h)))

-- 2. The unit

abbrev main_with : HeadTokens → List Stmt → Token → Definition
main_with h ss close = record { signature = signature h; body = block [] ss (join (at h.brace) (at close)) }

abbrev read_unit : HeadTokens → List Stmt → Token → CUnit
read_unit h ss close = record { items = item.Include include.Glib ∷ item.Function (main_with h ss close) ∷ [] }

main_read : (h : HeadTokens) → AreHead h → (texts : Texts) (w : Word) (q : Closed (inner_names h) texts w)
    → ReadsItem library_names (signature_word h ++ h.brace ∷ w) (item.Function (main_with h q.statements q.close))
main_read h a texts w q =
    subst (λ v. ReadsItem library_names (signature_word h ++ h.brace ∷ v) (item.Function (main_with h q.statements q.close))) (sym q.is)
    (function_is {u = signature_word h} {w = h.brace ∷ q.front ++ q.close ∷ []} (signature_read h a) refl
    (block_is {t = h.brace} q.close {u = []} {w = q.front} a.brace no_local q.reads q.closes))

-- the three tokens of the included file
pub record IsInclude (t i g : Token) : Type 0 where
  pub hash : IsSign t sign.Hash
  pub first : t.begins_line ≡ true
  pub word : IsName i
  pub word_bytes : i.bytes ≡ codes "include"
  pub behind : i.begins_line ≡ false
  pub file : g.terminal ≡ Header include.Glib

items_read : (t i g : Token) → IsInclude t i g → (h : HeadTokens) → AreHead h → h.result.begins_line ≡ true
    → (texts : Texts) (w : Word) (q : Closed (inner_names h) texts w)
    → ReadsItems library_names (t ∷ i ∷ g ∷ signature_word h ++ h.brace ∷ w) (read_unit h q.statements q.close).items
items_read t i g n h a line texts w q =
    more_items {u = t ∷ i ∷ g ∷ []} {w = signature_word h ++ h.brace ∷ w} (includes n.hash n.first (n.word, n.word_bytes) n.behind n.file) line
    (subst (λ v. ReadsItems library_names v (item.Function (main_with h q.statements q.close) ∷ [])) (append-nil (signature_word h ++ h.brace ∷ w))
    (more_items {u = signature_word h ++ h.brace ∷ w} {w = []} (main_read h a texts w q) refl no_item))

-- 3. No fault

abbrev outer_env : HeadTokens → Env
outer_env h = with_function library (signature h) true

abbrev context : HeadTokens → Context
context h = record { env = behind_parameters (opened (outer_env h)) (signature h).parameters; result = kind_of (outer_env h) (signature h).result }

-- 4. The tokens that are written

abbrev written : TokenKind → List ℕ → ℕ → ℕ → Bool → Token
written kind bytes start end first = record { terminal = Of kind; bytes = bytes; start = start; end = end; begins_line = first }

abbrev the_hash : Token
the_hash = written (k.Sign sign.Hash) (codes "#") 0 1 true

abbrev the_include : Token
the_include = written k.Identifier (codes "include") 1 8 false

abbrev the_file : Token
the_file = record { terminal = Header include.Glib; bytes = []; start = 9; end = 17; begins_line = false }

abbrev the_head : HeadTokens
the_head =
    record {
      result = written (k.Keyword keyword.Int) (codes "int") 19 22 true;
      name = written k.Identifier (codes "main") 23 27 false;
      paren = written (k.Sign sign.OpenParen) (codes "(") 28 29 false;
      int = written (k.Keyword keyword.Int) (codes "int") 29 32 false;
      argc = written k.Identifier (codes "argc") 33 37 false;
      comma = written (k.Sign sign.Comma) (codes ",") 37 38 false;
      char = written (k.Keyword keyword.Char) (codes "char") 39 43 false;
      star = written (k.Sign sign.Star) (codes "*") 44 45 false;
      stars = written (k.Sign sign.Star) (codes "*") 45 46 false;
      argv = written k.Identifier (codes "argv") 46 50 false;
      close = written (k.Sign sign.CloseParen) (codes ")") 50 51 false;
      brace = written (k.Sign sign.OpenBrace) (codes "{") 52 53 true;
    }

are_head : AreHead the_head
are_head =
    record {
      result = refl;
      name = refl;
      name_bytes = refl;
      paren = refl;
      int = refl;
      argc = refl;
      argc_bytes = refl;
      comma = refl;
      char = refl;
      star = refl;
      stars = refl;
      argv = refl;
      argv_bytes = refl;
      close = refl;
      brace = refl;
    }

is_include : IsInclude the_hash the_include the_file
is_include = record { hash = refl; first = refl; word = refl; word_bytes = refl; behind = refl; file = refl }

-- what is written up to `{`
abbrev head_text : Text
head_text = put_marks empty (head_before [])

abbrev behind_brace : Marks → Word
behind_brace ms = words_behind Other (lexemes head_text false ms)

words_are : (ms : Marks)
    → words (lexemes empty true (head_before ms)) ≡ the_hash ∷ the_include ∷ the_file ∷ signature_word the_head ++ the_head.brace ∷ behind_brace ms
words_are ms = refl

-- 5. The whole text

main_context : IsMainContext (context the_head)
main_context = record { prints = refl; result = refl }

abbrev faults_with : List Fault → List Fault → List Fault → List Fault
faults_with a b c = a ++ b ++ c

no_fault : (texts : Texts) (ss : List Stmt) (close : Token) → IsRead texts ss → unit_faults (read_unit the_head ss close) ≡ []
no_fault texts ss close r =
    let clean : IsClean (context the_head) (bodies_of ss) = all_clean (context the_head) main_context texts ss r in
    let main : Definition = main_with the_head ss close in
    ap (λ (b : Body). body_faults (outer_env the_head) main b ++ []) (sound.block_is ss (join (at the_head.brace) (at close)))
    ∙ (λ i. faults_with (clean.faults i) (label_faults [] (clean.labels i)) (target_faults (clean.labels i) (block_end main.body) (clean.targets i)) ++ [])

same_body : (texts : Texts) (ss : List Stmt) (o : Span) → IsRead texts ss → bare_block (block [] ss o) ≡ bare_block (main_function texts).body
same_body texts ss o r =
    block_bare [] ss o
    ∙ ap (λ xs. block [] xs nowhere) (all_same texts ss r)
    ∙ sym (block_bare [] (statements texts) nowhere)

same_unit : (texts : Texts) (ss : List Stmt) (close : Token) → IsRead texts ss → SameUnit (read_unit the_head ss close) (unit_of texts)
same_unit texts ss close r =
    ap (λ (b : Block). record { items = item.Include include.Glib ∷ item.Function (record { signature = bare_signature main_signature; body = b }) ∷ [] })
    (same_body texts ss (join (at the_head.brace) (at close)) r)

module _ (lexed : TokensAreRead) (value_is : (bytes : List ℕ) → AreBytes bytes → text_value (spelled_text bytes) ≡ bytes) (texts : Texts)
    (bytes : AreTexts texts) where
  closed : Closed (inner_names the_head) texts (behind_brace (calls_marks texts))
  closed = rest_read value_is (inner_names the_head) refl texts bytes head_text false

  abbrev read : CUnit
  read = read_unit the_head closed.statements closed.close

  abbrev marks : Marks
  marks = unit_marks Clear (unit_of texts)

  word_is : the_hash ∷ the_include ∷ the_file ∷ signature_word the_head ++ the_head.brace ∷ behind_brace (calls_marks texts) ≡ words (lexemes empty true marks)
  word_is = sym (ap (λ ms. words (lexemes empty true ms)) (unit_written texts) ∙ words_are (calls_marks texts))

  unit_read : ReadsUnit (words (lexemes empty true marks)) read
  unit_read =
      subst (λ w. ReadsUnit w read) word_is
      (record {
        items = items_read the_hash the_include the_file is_include the_head are_head refl texts (behind_brace (calls_marks texts)) closed;
        shallow = closed.shallow;
      })

  pub text_of_unit : IsTextOf (unit_of texts) (put_marks empty marks).bytes
  text_of_unit =
      record {
        read = read;
        reads =
            record {
              tokens = lexemes empty true marks;
              lexed = lexed marks (unit_writable texts bytes);
              reads = unit_read;
              sound = (no_fault texts closed.statements closed.close closed.are, refl);
            };
        same = same_unit texts closed.statements closed.close closed.are;
      }

-- what follows of a text that was written
pub on_text : {V E : Type 0} {P Q : V → Type 0} (r : Result V E) → IfOk r P → ((x : V) → P x → Q x) → IfOk r Q
on_text (Ok x) h f = f x h
on_text (Err e) h f = h
