-- The tokens of what is written, as the grammar takes them.
use Rattle.std.proofs.Common.{◌≡◌, ◌∙◌, refl, sym, ap, ap₂, subst, ℕ, suc, ◌+◌, ◌-◌, ◌<◌, ◌≤◌, Bool, true, false, cond, not, ◌&&◌, ◌||◌, ◌==◌, nat_le, List, [], ◌∷◌, ◌++◌, map, length, take, drop, get_or, codes, append_assoc, append-nil, Option, Some, None, length-append, arith}
use Rattle.std.proofs.lemmas.Bool.{and_parts, eqb-true, eq-eqb, le-leb, leb-true}
use Rattle.std.specs.List.{list_all}
use Rattle.std.specs.Str.{bytes_eq}
use Rattle.std.proofs.lemmas.Slice.Eq.{bytes_eq-Decides}
use Rattle.c_lexer.specs.declared.token.Sign.{Sign}
use Rattle.c_lexer.specs.declared.token.Sign.TheVariants as sign
use Rattle.c_lexer.specs.declared.token.TokenKind.{TokenKind}
use Rattle.c_lexer.specs.declared.token.TokenKind.TheVariants as k
use Rattle.c_lexer.specs.Bytes.{is_letter, is_digit, run}
use Rattle.c_lexer.specs.Spelling.{keyword_spelling, constant_spelling, sign_spelling}
use Rattle.c_lexer.specs.Tokens.{Lexeme}
use Rattle.c_lexer.specs.Written.{IsToken}
use Rattle.c_lexer.proofs.ListLemmas.{take_front, drop_front}
use Rattle.c_lexer.proofs.SpellingLemmas.{keyword_token, constant_token, sign_token}
use Rattle.c_lexer.specs.declared.bytes.Class.TheVariants as class
use Rattle.c_lexer.specs.Signs.{sign_of_one}
use Rattle.c_lexer.specs.Numbers.{suffix_bytes}
use Rattle.c_lexer.specs.Written as written
use Rattle.c_tree.specs.declared.unit.Include.{Include}
use Rattle.c_tree.specs.declared.unit.Include.TheVariants as include
use Rattle.c_tree.specs.Words.{Token, IsSign, IsNamed, Terminal, Of, Header, plain, words_behind, words_by, Other, Hash, IncludeWord, Inside, BeginsLine, side_by_side, Named, named, system_file, own_file, is_file_name, header}
use Rattle.c_printer.specs.Alike.{Like, Alike, none, one}
use Rattle.c_printer.specs.Marks.{Marks, Name, AKeyword, AConstant, Number, Chars, Character, ASign, Space, Line, word, put_mark, put_marks}
use Rattle.c_printer.proofs.Inner.{is_hash, AreInner, IsFile}
use Rattle.c_printer.specs.Put.{spelled_number, spelled_text, spelled_character, spelled_bytes, spelled_byte}
use Rattle.c_printer.specs.PutItems.{include_marks}
use Rattle.c_printer.specs.Text.{Text, with_token}
use Rattle.c_printer.specs.Writable.{lexeme, lexemes}
use Rattle.c_printer.proofs.PutLemmas.{number_token, text_token, character_token, text_says}
use Rattle.c_printer.proofs.Lexing.{name_token}

-- 1. What is no `#`

abbrev pub is_hash_kind : TokenKind → Bool
is_hash_kind (k.Sign s) = is_hash s
is_hash_kind kind = false

same_bytes : (x y : List ℕ) → bytes_eq x y ≡ true → x ≡ y
same_bytes x y e = (bytes_eq-Decides x y).0 e

both_false : (b : Bool) → (b && false) ≡ false
both_false true = refl
both_false false = refl

never : true ≡ false → ⊥
never e = absurd cc

other_byte : (b : ℕ) (z : List ℕ) → (P : ℕ → Bool) → P b ≡ true → P 35 ≡ false → bytes_eq (b ∷ z) (codes "#") ≡ false
other_byte b z P h n = go (b == 35) refl
  where
    go : (t : Bool) → (b == 35) ≡ t → (t && bytes_eq z []) ≡ false
    go true e = absurd (never (sym (subst (λ x. P x ≡ true) (eqb-true b 35 e) h) ∙ n))
    go false e = refl

letters : (w : List ℕ) → is_letter (get_or w 0 0) ≡ true → bytes_eq w (codes "#") ≡ false
letters [] h = refl
letters (b ∷ w) h = other_byte b w is_letter h refl

digits : (d z : List ℕ) → run class.Digit d ≡ length d → 0 < length d → bytes_eq (d ++ z) (codes "#") ≡ false
digits [] z h some = absurd (omega arith)
digits (b ∷ d) z h some = other_byte b (d ++ z) is_digit (go (is_digit b) h) refl
  where
    go : (t : Bool) → cond t (suc (run class.Digit d)) 0 ≡ suc (length d) → t ≡ true
    go true e = refl
    go false e = absurd (omega arith)

one_sign : (b : ℕ) (s : Sign) → sign_of_one b ≡ Some s → is_hash s ≡ false → bytes_eq (b ∷ []) (codes "#") ≡ false
one_sign b s e h = go (b == 35) refl
  where
    of_sign : Option Sign → Bool
    of_sign None = false
    of_sign (Some x) = is_hash x

    go : (t : Bool) → (b == 35) ≡ t → (t && true) ≡ false
    go true f = absurd (never (ap of_sign (ap sign_of_one (sym (eqb-true b 35 f)) ∙ e) ∙ h))
    go false f = refl

no_hash : (w : List ℕ) (kind : TokenKind) → IsToken w kind → is_hash_kind kind ≡ false → bytes_eq w (codes "#") ≡ false
no_hash _ _ (written.word w i) h = letters w i.letter
no_hash _ _ (written.decimal d s t i n) h = digits d (suffix_bytes s) i.all i.some
no_hash _ _ (written.hexadecimal d s t i n) h = refl
no_hash _ _ (written.text body bytes d) h = refl
no_hash _ _ (written.character body b d some) h = refl
no_hash _ _ (written.one b s e) h = one_sign b s e h
no_hash _ _ (written.two b c s e) h = both_false (b == 35)
no_hash _ _ (written.three b c d s e) h = both_false (b == 35)

-- 2. Tokens in a row

plain_token : (x : Lexeme) (ts : List Lexeme) → bytes_eq x.text (codes "#") ≡ false → words_behind Other (x ∷ ts) ≡ plain x ∷ words_behind Other ts
plain_token x ts h = ap (λ b. plain x ∷ words_behind (cond b Hash Other) ts) (ap (λ b. x.begins_line && b) h ∙ both_false x.begins_line)

inner_skipped : (w : List ℕ) (kind : TokenKind) → IsToken w kind → is_hash_kind kind ≡ false → (t : Text) (first : Bool) (ts : List Lexeme) → words_behind Other (lexeme t first w kind ∷ ts) ≡ plain (lexeme t first w kind) ∷ words_behind Other ts
inner_skipped w kind i h t first ts = plain_token (lexeme t first w kind) ts (no_hash w kind i h)

-- whether the next token begins a line
abbrev pub flag : Bool → Marks → Bool
flag f [] = f
flag f (Space ∷ ms) = flag f ms
flag f (Line n ∷ ms) = flag true ms
flag f (m ∷ ms) = flag false ms

-- the tokens of marks that have no `#` stand in front of those behind
pub inner_words : (t : Text) (f : Bool) (ms : Marks) → AreInner ms → (ks : Marks) → words_behind Other (lexemes t f (ms ++ ks)) ≡ map plain (lexemes t f ms) ++ words_behind Other (lexemes (put_marks t ms) (flag f ms) ks)
inner_words t f [] h ks = refl
inner_words t f (Space ∷ ms) h ks = inner_words (put_mark t Space) f ms h.1 ks
inner_words t f (Line n ∷ ms) h ks = inner_words (put_mark t (Line n)) true ms h.1 ks
inner_words t f (Name x ∷ ms) h ks = inner_skipped x k.Identifier (name_token x h.0) refl t f (lexemes (put_mark t (Name x)) false (ms ++ ks)) ∙ ap (λ w. plain (lexeme t f x k.Identifier) ∷ w) (inner_words (put_mark t (Name x)) false ms h.1 ks)
inner_words t f (AKeyword x ∷ ms) h ks = inner_skipped (keyword_spelling x) (k.Keyword x) (keyword_token x) refl t f (lexemes (put_mark t (AKeyword x)) false (ms ++ ks)) ∙ ap (λ w. plain (lexeme t f (keyword_spelling x) (k.Keyword x)) ∷ w) (inner_words (put_mark t (AKeyword x)) false ms h.1 ks)
inner_words t f (AConstant x ∷ ms) h ks = inner_skipped (constant_spelling x) (k.Constant x) (constant_token x) refl t f (lexemes (put_mark t (AConstant x)) false (ms ++ ks)) ∙ ap (λ w. plain (lexeme t f (constant_spelling x) (k.Constant x)) ∷ w) (inner_words (put_mark t (AConstant x)) false ms h.1 ks)
inner_words t f (Number n y ∷ ms) h ks = inner_skipped (spelled_number n y) (k.Number n y) (number_token n y h.0) refl t f (lexemes (put_mark t (Number n y)) false (ms ++ ks)) ∙ ap (λ w. plain (lexeme t f (spelled_number n y) (k.Number n y)) ∷ w) (inner_words (put_mark t (Number n y)) false ms h.1 ks)
inner_words t f (Chars x ∷ ms) h ks = inner_skipped (spelled_text x) k.Text (text_token x h.0) refl t f (lexemes (put_mark t (Chars x)) false (ms ++ ks)) ∙ ap (λ w. plain (lexeme t f (spelled_text x) k.Text) ∷ w) (inner_words (put_mark t (Chars x)) false ms h.1 ks)
inner_words t f (Character x ∷ ms) h ks = inner_skipped (spelled_character x) (k.Character x) (character_token x h.0) refl t f (lexemes (put_mark t (Character x)) false (ms ++ ks)) ∙ ap (λ w. plain (lexeme t f (spelled_character x) (k.Character x)) ∷ w) (inner_words (put_mark t (Character x)) false ms h.1 ks)
inner_words t f (ASign x ∷ ms) h ks = inner_skipped (sign_spelling x) (k.Sign x) (sign_token x) h.0 t f (lexemes (put_mark t (ASign x)) false (ms ++ ks)) ∙ ap (λ w. plain (lexeme t f (sign_spelling x) (k.Sign x)) ∷ w) (inner_words (put_mark t (ASign x)) false ms h.1 ks)

abbrev is_text_kind : Terminal → Bool
is_text_kind (Of k.Text) = true
is_text_kind t = false

abbrev is_name_kind : Terminal → Bool
is_name_kind (Of k.Identifier) = true
is_name_kind t = false

other : (x : Terminal) → is_name_kind x ≡ false → is_text_kind x ≡ false → {s t : Token} → s.terminal ≡ x → t.terminal ≡ x → Like s t
other x n h {s} {t} e f = record { terminal = f ∙ sym e; named = λ i. absurd (never (ap is_name_kind (sym i ∙ e) ∙ n)); said = λ i. absurd (never (ap is_text_kind (sym i ∙ e) ∙ h)) }

-- and are those that the marks are to the grammar
pub inner_alike : (t : Text) (f : Bool) (ms : Marks) → AreInner ms → Alike (word ms) (map plain (lexemes t f ms))
inner_alike t f [] h = none
inner_alike t f (Space ∷ ms) h = inner_alike (put_mark t Space) f ms h.1
inner_alike t f (Line n ∷ ms) h = inner_alike (put_mark t (Line n)) true ms h.1
inner_alike t f (Name x ∷ ms) h = one (record { terminal = refl; named = λ i. refl; said = λ i. refl }) (inner_alike (put_mark t (Name x)) false ms h.1)
inner_alike t f (AKeyword x ∷ ms) h = one (other (Of (k.Keyword x)) refl refl refl refl) (inner_alike (put_mark t (AKeyword x)) false ms h.1)
inner_alike t f (AConstant x ∷ ms) h = one (other (Of (k.Constant x)) refl refl refl refl) (inner_alike (put_mark t (AConstant x)) false ms h.1)
inner_alike t f (Number n y ∷ ms) h = one (other (Of (k.Number n y)) refl refl refl refl) (inner_alike (put_mark t (Number n y)) false ms h.1)
inner_alike t f (Chars x ∷ ms) h = one (record { terminal = refl; named = λ i. text_says x h.0; said = λ i. text_says x h.0 }) (inner_alike (put_mark t (Chars x)) false ms h.1)
inner_alike t f (Character x ∷ ms) h = one (other (Of (k.Character x)) refl refl refl refl) (inner_alike (put_mark t (Character x)) false ms h.1)
inner_alike t f (ASign x ∷ ms) h = one (other (Of (k.Sign x)) refl refl refl refl) (inner_alike (put_mark t (ASign x)) false ms h.1)

-- what begins a line is the first token of it
pub begins : (t : Text) (ms : Marks) → BeginsLine (words_behind Other (lexemes t true ms)) ≡ true
begins t [] = refl
begins t (Space ∷ ms) = begins (put_mark t Space) ms
begins t (Line n ∷ ms) = begins (put_mark t (Line n)) ms
begins t (Name x ∷ ms) = refl
begins t (AKeyword x ∷ ms) = refl
begins t (AConstant x ∷ ms) = refl
begins t (Number n y ∷ ms) = refl
begins t (Chars x ∷ ms) = refl
begins t (Character x ∷ ms) = refl
begins t (ASign x ∷ ms) = refl

-- 3. `#include` lines

-- the bytes of tokens
abbrev texts : List Lexeme → List ℕ
texts [] = []
texts (x ∷ xs) = x.text ++ texts xs

-- tokens that stand side by side from a place on
abbrev Chain : ℕ → List Lexeme → Type 0
Chain at [] = Unit {0}
Chain at (x ∷ xs) = (x.start ≡ at) × Chain x.end xs

abbrev after : ℕ → List Lexeme → ℕ
after at [] = at
after at (x ∷ xs) = after x.end xs

side_front : (at : ℕ) (xs ys : List Lexeme) → Chain at xs → side_by_side at (xs ++ ys) ≡ texts xs ++ side_by_side (after at xs) ys
side_front at [] ys c = refl
side_front at (x ∷ xs) ys c = ap (λ b. cond b (x.text ++ side_by_side x.end (xs ++ ys)) []) (eq-eqb x.start at c.0) ∙ ap (λ w. x.text ++ w) (side_front x.end xs ys c.1) ∙ sym (append_assoc x.text (texts xs) (side_by_side (after x.end xs) ys))

-- a token right behind another
right_behind : (b w : List ℕ) → length ((b ++ w) ++ []) ≡ length b + length w
right_behind b w = ap length (append-nil (b ++ w)) ∙ length-append b w

abbrev system_by : List ℕ → List ℕ → Option Named
system_by five seven =
    cond (bytes_eq five (codes "<glib.h>")) (named include.Glib 5)
    (cond (bytes_eq seven (codes "<glib-object.h>")) (named include.GlibObject 7)
    (cond (bytes_eq seven (codes "<gio/gio.h>")) (named include.Gio 7)
    (cond (bytes_eq five (codes "<string.h>")) (named include.String 5)
    (cond (bytes_eq five (codes "<stdlib.h>")) (named include.Stdlib 5) None))))

inside_done : (ts : List Lexeme) → words_behind (Inside 0) ts ≡ words_behind Other ts
inside_done [] = refl
inside_done (x ∷ ts) = refl

-- the three tokens of an `#include` line, and those behind it
pub record IncludeWords (t : Text) (f : Include) (ms : Marks) : Type 0 where
  pub hash : Token
  pub word : Token
  pub file : Token
  pub words : words_behind Other (lexemes t true (include_marks f ++ ms)) ≡ hash ∷ word ∷ file ∷ words_behind Other (lexemes (put_marks t (include_marks f)) false ms)
  pub is_hash : IsSign hash sign.Hash
  pub first : hash.begins_line ≡ true
  pub is_include : IsNamed word (codes "include")
  pub behind : word.begins_line ≡ false
  pub is_file : file.terminal ≡ Header f

glib_words : (t : Text) (ms : Marks) → IncludeWords t include.Glib ms
glib_words t ms = record {
  hash = plain x0;
  word = plain x1;
  file = header a0 ts (record { file = include.Glib; tokens = 5 });
  words = ap (λ o. plain x0 ∷ plain x1 ∷ words_by o IncludeWord a0 ts (λ c. words_behind c ts)) found ∙ ap (λ w. plain x0 ∷ plain x1 ∷ header a0 ts (record { file = include.Glib; tokens = 5 }) ∷ w) (inside_done rest);
  is_hash = refl;
  first = refl;
  is_include = (refl, refl);
  behind = refl;
  is_file = refl;
}
  where
    x0 : Lexeme
    x0 = lexeme t true (codes "#") (k.Sign sign.Hash)

    s0 : Text
    s0 = with_token t (codes "#")

    x1 : Lexeme
    x1 = lexeme s0 false (codes "include") k.Identifier

    s1 : Text
    s1 = put_mark (with_token s0 (codes "include")) Space

    a0 : Lexeme
    a0 = lexeme s1 false (codes "<") (k.Sign sign.Less)

    r0 : Text
    r0 = with_token s1 (codes "<")

    a1 : Lexeme
    a1 = lexeme r0 false (codes "glib") (k.Identifier)

    r1 : Text
    r1 = with_token r0 (codes "glib")

    a2 : Lexeme
    a2 = lexeme r1 false (codes ".") (k.Sign sign.Dot)

    r2 : Text
    r2 = with_token r1 (codes ".")

    a3 : Lexeme
    a3 = lexeme r2 false (codes "h") (k.Identifier)

    r3 : Text
    r3 = with_token r2 (codes "h")

    a4 : Lexeme
    a4 = lexeme r3 false (codes ">") (k.Sign sign.Greater)

    r4 : Text
    r4 = with_token r3 (codes ">")

    rest : List Lexeme
    rest = lexemes r4 false ms

    ts : List Lexeme
    ts = a1 ∷ a2 ∷ a3 ∷ a4 ∷ rest

    five : side_by_side a0.start (take 5 (a0 ∷ ts)) ≡ codes "<glib.h>"
    five = side_front a0.start (a0 ∷ a1 ∷ a2 ∷ a3 ∷ a4 ∷ []) [] (refl, (right_behind (s1.bytes ++ []) (codes "<"), (right_behind (r0.bytes ++ []) (codes "glib"), (right_behind (r1.bytes ++ []) (codes "."), (right_behind (r2.bytes ++ []) (codes "h"), tt)))))

    seven : side_by_side a0.start (take 7 (a0 ∷ ts)) ≡ codes "<glib.h>" ++ side_by_side a4.end (take 2 rest)
    seven = side_front a0.start (a0 ∷ a1 ∷ a2 ∷ a3 ∷ a4 ∷ []) (take 2 rest) (refl, (right_behind (s1.bytes ++ []) (codes "<"), (right_behind (r0.bytes ++ []) (codes "glib"), (right_behind (r1.bytes ++ []) (codes "."), (right_behind (r2.bytes ++ []) (codes "h"), tt)))))

    found : system_file a0.start (a0 ∷ ts) ≡ named include.Glib 5
    found = λ i. system_by (five i) (seven i)

glibObject_words : (t : Text) (ms : Marks) → IncludeWords t include.GlibObject ms
glibObject_words t ms = record {
  hash = plain x0;
  word = plain x1;
  file = header a0 ts (record { file = include.GlibObject; tokens = 7 });
  words = ap (λ o. plain x0 ∷ plain x1 ∷ words_by o IncludeWord a0 ts (λ c. words_behind c ts)) found ∙ ap (λ w. plain x0 ∷ plain x1 ∷ header a0 ts (record { file = include.GlibObject; tokens = 7 }) ∷ w) (inside_done rest);
  is_hash = refl;
  first = refl;
  is_include = (refl, refl);
  behind = refl;
  is_file = refl;
}
  where
    x0 : Lexeme
    x0 = lexeme t true (codes "#") (k.Sign sign.Hash)

    s0 : Text
    s0 = with_token t (codes "#")

    x1 : Lexeme
    x1 = lexeme s0 false (codes "include") k.Identifier

    s1 : Text
    s1 = put_mark (with_token s0 (codes "include")) Space

    a0 : Lexeme
    a0 = lexeme s1 false (codes "<") (k.Sign sign.Less)

    r0 : Text
    r0 = with_token s1 (codes "<")

    a1 : Lexeme
    a1 = lexeme r0 false (codes "glib") (k.Identifier)

    r1 : Text
    r1 = with_token r0 (codes "glib")

    a2 : Lexeme
    a2 = lexeme r1 false (codes "-") (k.Sign sign.Minus)

    r2 : Text
    r2 = with_token r1 (codes "-")

    a3 : Lexeme
    a3 = lexeme r2 false (codes "object") (k.Identifier)

    r3 : Text
    r3 = with_token r2 (codes "object")

    a4 : Lexeme
    a4 = lexeme r3 false (codes ".") (k.Sign sign.Dot)

    r4 : Text
    r4 = with_token r3 (codes ".")

    a5 : Lexeme
    a5 = lexeme r4 false (codes "h") (k.Identifier)

    r5 : Text
    r5 = with_token r4 (codes "h")

    a6 : Lexeme
    a6 = lexeme r5 false (codes ">") (k.Sign sign.Greater)

    r6 : Text
    r6 = with_token r5 (codes ">")

    rest : List Lexeme
    rest = lexemes r6 false ms

    ts : List Lexeme
    ts = a1 ∷ a2 ∷ a3 ∷ a4 ∷ a5 ∷ a6 ∷ rest

    five : side_by_side a0.start (take 5 (a0 ∷ ts)) ≡ codes "<glib-object."
    five = side_front a0.start (a0 ∷ a1 ∷ a2 ∷ a3 ∷ a4 ∷ []) [] (refl, (right_behind (s1.bytes ++ []) (codes "<"), (right_behind (r0.bytes ++ []) (codes "glib"), (right_behind (r1.bytes ++ []) (codes "-"), (right_behind (r2.bytes ++ []) (codes "object"), tt)))))

    seven : side_by_side a0.start (take 7 (a0 ∷ ts)) ≡ codes "<glib-object.h>"
    seven = side_front a0.start (a0 ∷ a1 ∷ a2 ∷ a3 ∷ a4 ∷ a5 ∷ a6 ∷ []) [] (refl, (right_behind (s1.bytes ++ []) (codes "<"), (right_behind (r0.bytes ++ []) (codes "glib"), (right_behind (r1.bytes ++ []) (codes "-"), (right_behind (r2.bytes ++ []) (codes "object"), (right_behind (r3.bytes ++ []) (codes "."), (right_behind (r4.bytes ++ []) (codes "h"), tt)))))))

    found : system_file a0.start (a0 ∷ ts) ≡ named include.GlibObject 7
    found = λ i. system_by (five i) (seven i)

gio_words : (t : Text) (ms : Marks) → IncludeWords t include.Gio ms
gio_words t ms = record {
  hash = plain x0;
  word = plain x1;
  file = header a0 ts (record { file = include.Gio; tokens = 7 });
  words = ap (λ o. plain x0 ∷ plain x1 ∷ words_by o IncludeWord a0 ts (λ c. words_behind c ts)) found ∙ ap (λ w. plain x0 ∷ plain x1 ∷ header a0 ts (record { file = include.Gio; tokens = 7 }) ∷ w) (inside_done rest);
  is_hash = refl;
  first = refl;
  is_include = (refl, refl);
  behind = refl;
  is_file = refl;
}
  where
    x0 : Lexeme
    x0 = lexeme t true (codes "#") (k.Sign sign.Hash)

    s0 : Text
    s0 = with_token t (codes "#")

    x1 : Lexeme
    x1 = lexeme s0 false (codes "include") k.Identifier

    s1 : Text
    s1 = put_mark (with_token s0 (codes "include")) Space

    a0 : Lexeme
    a0 = lexeme s1 false (codes "<") (k.Sign sign.Less)

    r0 : Text
    r0 = with_token s1 (codes "<")

    a1 : Lexeme
    a1 = lexeme r0 false (codes "gio") (k.Identifier)

    r1 : Text
    r1 = with_token r0 (codes "gio")

    a2 : Lexeme
    a2 = lexeme r1 false (codes "/") (k.Sign sign.Slash)

    r2 : Text
    r2 = with_token r1 (codes "/")

    a3 : Lexeme
    a3 = lexeme r2 false (codes "gio") (k.Identifier)

    r3 : Text
    r3 = with_token r2 (codes "gio")

    a4 : Lexeme
    a4 = lexeme r3 false (codes ".") (k.Sign sign.Dot)

    r4 : Text
    r4 = with_token r3 (codes ".")

    a5 : Lexeme
    a5 = lexeme r4 false (codes "h") (k.Identifier)

    r5 : Text
    r5 = with_token r4 (codes "h")

    a6 : Lexeme
    a6 = lexeme r5 false (codes ">") (k.Sign sign.Greater)

    r6 : Text
    r6 = with_token r5 (codes ">")

    rest : List Lexeme
    rest = lexemes r6 false ms

    ts : List Lexeme
    ts = a1 ∷ a2 ∷ a3 ∷ a4 ∷ a5 ∷ a6 ∷ rest

    five : side_by_side a0.start (take 5 (a0 ∷ ts)) ≡ codes "<gio/gio."
    five = side_front a0.start (a0 ∷ a1 ∷ a2 ∷ a3 ∷ a4 ∷ []) [] (refl, (right_behind (s1.bytes ++ []) (codes "<"), (right_behind (r0.bytes ++ []) (codes "gio"), (right_behind (r1.bytes ++ []) (codes "/"), (right_behind (r2.bytes ++ []) (codes "gio"), tt)))))

    seven : side_by_side a0.start (take 7 (a0 ∷ ts)) ≡ codes "<gio/gio.h>"
    seven = side_front a0.start (a0 ∷ a1 ∷ a2 ∷ a3 ∷ a4 ∷ a5 ∷ a6 ∷ []) [] (refl, (right_behind (s1.bytes ++ []) (codes "<"), (right_behind (r0.bytes ++ []) (codes "gio"), (right_behind (r1.bytes ++ []) (codes "/"), (right_behind (r2.bytes ++ []) (codes "gio"), (right_behind (r3.bytes ++ []) (codes "."), (right_behind (r4.bytes ++ []) (codes "h"), tt)))))))

    found : system_file a0.start (a0 ∷ ts) ≡ named include.Gio 7
    found = λ i. system_by (five i) (seven i)

string_words : (t : Text) (ms : Marks) → IncludeWords t include.String ms
string_words t ms = record {
  hash = plain x0;
  word = plain x1;
  file = header a0 ts (record { file = include.String; tokens = 5 });
  words = ap (λ o. plain x0 ∷ plain x1 ∷ words_by o IncludeWord a0 ts (λ c. words_behind c ts)) found ∙ ap (λ w. plain x0 ∷ plain x1 ∷ header a0 ts (record { file = include.String; tokens = 5 }) ∷ w) (inside_done rest);
  is_hash = refl;
  first = refl;
  is_include = (refl, refl);
  behind = refl;
  is_file = refl;
}
  where
    x0 : Lexeme
    x0 = lexeme t true (codes "#") (k.Sign sign.Hash)

    s0 : Text
    s0 = with_token t (codes "#")

    x1 : Lexeme
    x1 = lexeme s0 false (codes "include") k.Identifier

    s1 : Text
    s1 = put_mark (with_token s0 (codes "include")) Space

    a0 : Lexeme
    a0 = lexeme s1 false (codes "<") (k.Sign sign.Less)

    r0 : Text
    r0 = with_token s1 (codes "<")

    a1 : Lexeme
    a1 = lexeme r0 false (codes "string") (k.Identifier)

    r1 : Text
    r1 = with_token r0 (codes "string")

    a2 : Lexeme
    a2 = lexeme r1 false (codes ".") (k.Sign sign.Dot)

    r2 : Text
    r2 = with_token r1 (codes ".")

    a3 : Lexeme
    a3 = lexeme r2 false (codes "h") (k.Identifier)

    r3 : Text
    r3 = with_token r2 (codes "h")

    a4 : Lexeme
    a4 = lexeme r3 false (codes ">") (k.Sign sign.Greater)

    r4 : Text
    r4 = with_token r3 (codes ">")

    rest : List Lexeme
    rest = lexemes r4 false ms

    ts : List Lexeme
    ts = a1 ∷ a2 ∷ a3 ∷ a4 ∷ rest

    five : side_by_side a0.start (take 5 (a0 ∷ ts)) ≡ codes "<string.h>"
    five = side_front a0.start (a0 ∷ a1 ∷ a2 ∷ a3 ∷ a4 ∷ []) [] (refl, (right_behind (s1.bytes ++ []) (codes "<"), (right_behind (r0.bytes ++ []) (codes "string"), (right_behind (r1.bytes ++ []) (codes "."), (right_behind (r2.bytes ++ []) (codes "h"), tt)))))

    seven : side_by_side a0.start (take 7 (a0 ∷ ts)) ≡ codes "<string.h>" ++ side_by_side a4.end (take 2 rest)
    seven = side_front a0.start (a0 ∷ a1 ∷ a2 ∷ a3 ∷ a4 ∷ []) (take 2 rest) (refl, (right_behind (s1.bytes ++ []) (codes "<"), (right_behind (r0.bytes ++ []) (codes "string"), (right_behind (r1.bytes ++ []) (codes "."), (right_behind (r2.bytes ++ []) (codes "h"), tt)))))

    found : system_file a0.start (a0 ∷ ts) ≡ named include.String 5
    found = λ i. system_by (five i) (seven i)

pub stdlib_words : (t : Text) (ms : Marks) → IncludeWords t include.Stdlib ms
stdlib_words t ms = record {
  hash = plain x0;
  word = plain x1;
  file = header a0 ts (record { file = include.Stdlib; tokens = 5 });
  words = ap (λ o. plain x0 ∷ plain x1 ∷ words_by o IncludeWord a0 ts (λ c. words_behind c ts)) found ∙ ap (λ w. plain x0 ∷ plain x1 ∷ header a0 ts (record { file = include.Stdlib; tokens = 5 }) ∷ w) (inside_done rest);
  is_hash = refl;
  first = refl;
  is_include = (refl, refl);
  behind = refl;
  is_file = refl;
}
  where
    x0 : Lexeme
    x0 = lexeme t true (codes "#") (k.Sign sign.Hash)

    s0 : Text
    s0 = with_token t (codes "#")

    x1 : Lexeme
    x1 = lexeme s0 false (codes "include") k.Identifier

    s1 : Text
    s1 = put_mark (with_token s0 (codes "include")) Space

    a0 : Lexeme
    a0 = lexeme s1 false (codes "<") (k.Sign sign.Less)

    r0 : Text
    r0 = with_token s1 (codes "<")

    a1 : Lexeme
    a1 = lexeme r0 false (codes "stdlib") (k.Identifier)

    r1 : Text
    r1 = with_token r0 (codes "stdlib")

    a2 : Lexeme
    a2 = lexeme r1 false (codes ".") (k.Sign sign.Dot)

    r2 : Text
    r2 = with_token r1 (codes ".")

    a3 : Lexeme
    a3 = lexeme r2 false (codes "h") (k.Identifier)

    r3 : Text
    r3 = with_token r2 (codes "h")

    a4 : Lexeme
    a4 = lexeme r3 false (codes ">") (k.Sign sign.Greater)

    r4 : Text
    r4 = with_token r3 (codes ">")

    rest : List Lexeme
    rest = lexemes r4 false ms

    ts : List Lexeme
    ts = a1 ∷ a2 ∷ a3 ∷ a4 ∷ rest

    five : side_by_side a0.start (take 5 (a0 ∷ ts)) ≡ codes "<stdlib.h>"
    five = side_front a0.start (a0 ∷ a1 ∷ a2 ∷ a3 ∷ a4 ∷ []) [] (refl, (right_behind (s1.bytes ++ []) (codes "<"), (right_behind (r0.bytes ++ []) (codes "stdlib"), (right_behind (r1.bytes ++ []) (codes "."), (right_behind (r2.bytes ++ []) (codes "h"), tt)))))

    seven : side_by_side a0.start (take 7 (a0 ∷ ts)) ≡ codes "<stdlib.h>" ++ side_by_side a4.end (take 2 rest)
    seven = side_front a0.start (a0 ∷ a1 ∷ a2 ∷ a3 ∷ a4 ∷ []) (take 2 rest) (refl, (right_behind (s1.bytes ++ []) (codes "<"), (right_behind (r0.bytes ++ []) (codes "stdlib"), (right_behind (r1.bytes ++ []) (codes "."), (right_behind (r2.bytes ++ []) (codes "h"), tt)))))

    found : system_file a0.start (a0 ∷ ts) ≡ named include.Stdlib 5
    found = λ i. system_by (five i) (seven i)

-- the name between the quotes
IsBetween : ℕ → Type 0
IsBetween b = (46 ≤ b) × (b ≤ 122)

either : (a b : Bool) (P : Type 0) → (a ≡ true → P) → (b ≡ true → P) → (a || b) ≡ true → P
either true b P f g h = f refl
either false b P f g h = g h

within : (lo hi b : ℕ) → 46 ≤ lo → hi ≤ 122 → (nat_le lo b && nat_le b hi) ≡ true → IsBetween b
unfolding IsBetween
within lo hi b small large h =
    let parts = and_parts (nat_le lo b) (nat_le b hi) h in
    let low : lo ≤ b = leb-true lo b parts.0 in
    let high : b ≤ hi = leb-true b hi parts.1 in
    (omega arith, omega arith)

exactly : (x b : ℕ) → 46 ≤ x → x ≤ 122 → (b == x) ≡ true → IsBetween b
unfolding IsBetween
exactly x b small large h = let e : b ≡ x = eqb-true b x h in (omega arith, omega arith)

file_byte : (b : ℕ) → (is_letter b || is_digit b || b == 46) ≡ true → IsBetween b
file_byte b = either (is_letter b || is_digit b) (b == 46) (IsBetween b)
    (either (is_letter b) (is_digit b) (IsBetween b)
    (either ((nat_le 65 b && nat_le b 90) || b == 95) (nat_le 97 b && nat_le b 122) (IsBetween b)
    (either (nat_le 65 b && nat_le b 90) (b == 95) (IsBetween b) (within 65 90 b (omega arith) (omega arith)) (exactly 95 b (omega arith) (omega arith)))
    (within 97 122 b (omega arith) (omega arith)))
    (within 48 57 b (omega arith) (omega arith)))
    (exactly 46 b (omega arith) (omega arith))

plain_byte : (p b : ℕ) → (is_letter b || is_digit b || b == 46) ≡ true → spelled_byte 34 p b ≡ b ∷ []
unfolding IsBetween
plain_byte p b h = rw (no 34 refl, no 92 refl, no 7 refl, no 8 refl, no 9 refl, no 10 refl, no 11 refl, no 12 refl, no 13 refl, no 63 refl, low, high) refl
  where
    no : (x : ℕ) → (is_letter x || is_digit x || x == 46) ≡ false → (b == x) ≡ false
    no x n = go (b == x) refl
      where
        go : (t : Bool) → (b == x) ≡ t → t ≡ false
        go true e = absurd (never (sym (subst (λ y. (is_letter y || is_digit y || y == 46) ≡ true) (eqb-true b x e) h) ∙ n))
        go false e = refl

    low : nat_le 32 b ≡ true
    low = let r : 46 ≤ b = (file_byte b h).0 in le-leb 32 b (omega arith)

    high : nat_le b 126 ≡ true
    high = let r : b ≤ 122 = (file_byte b h).1 in le-leb b 126 (omega arith)

pub byte_small : (b : ℕ) → (is_letter b || is_digit b || b == 46) ≡ true → b < 256
unfolding IsBetween
byte_small b h = let r : b ≤ 122 = (file_byte b h).1 in omega arith

abbrev pub AllFileBytes : List ℕ → Type 0
AllFileBytes [] = Unit {0}
AllFileBytes (b ∷ z) = ((is_letter b || is_digit b || b == 46) ≡ true) × AllFileBytes z

plain_bytes : (p : ℕ) (z : List ℕ) → AllFileBytes z → spelled_bytes 34 p z ≡ z
plain_bytes p [] h = refl
plain_bytes p (b ∷ z) h = ap₂ (λ x y. x ++ y) (plain_byte p b h.0) (plain_bytes b z h.1)

name_bytes : (x : List ℕ) → list_all (λ c. is_letter c || is_digit c) x ≡ true → AllFileBytes (x ++ codes ".h")
name_bytes [] h = (refl, (refl, tt))
name_bytes (b ∷ x) h = let parts = and_parts (is_letter b || is_digit b) (list_all (λ c. is_letter c || is_digit c) x) h in (ap (λ t. t || b == 46) parts.0, name_bytes x parts.1)

pub file_bytes : (x : List ℕ) → is_file_name x ≡ true → AllFileBytes (x ++ codes ".h")
file_bytes [] h = absurd (never (sym h))
file_bytes (b ∷ x) h =
    let parts = and_parts (is_letter b && not (b == 95) && nat_le (length x) 99) (list_all (λ c. is_letter c || is_digit c) x) h in
    let first = and_parts (is_letter b && not (b == 95)) (nat_le (length x) 99) parts.0 in
    let letter = and_parts (is_letter b) (not (b == 95)) first.0 in
    (ap (λ t. t || is_digit b || b == 46) letter.0, name_bytes x parts.1)

front_of : (s z : List ℕ) (n : ℕ) → n ≡ length s → take n (s ++ z) ≡ s
front_of s z n e = ap (λ m. take m (s ++ z)) e ∙ take_front s z

rest_of : (s z : List ℕ) (n : ℕ) → n ≡ length s → drop n (s ++ z) ≡ z
rest_of s z n e = ap (λ m. drop m (s ++ z)) e ∙ drop_front s z

own_named : (x : List ℕ) → is_file_name x ≡ true → own_file (x ++ codes ".h") ≡ named (include.Own x) 1
own_named x h =
    ap₂ (λ (a b : List ℕ). cond (is_file_name a && bytes_eq b (codes ".h")) (named (include.Own a) 1) None) (front_of x (codes ".h") (length (x ++ codes ".h") - 2) count) (rest_of x (codes ".h") (length (x ++ codes ".h") - 2) count)
    ∙ ap (λ t. cond (t && true) (named (include.Own x) 1) None) h
  where
    count : length (x ++ codes ".h") - 2 ≡ length x
    count = let len : length (x ++ codes ".h") ≡ length x + 2 = length-append x (codes ".h") in omega arith

own_words : (t : Text) (x : List ℕ) → is_file_name x ≡ true → (ms : Marks) → IncludeWords t (include.Own x) ms
own_words t x h ms = record {
  hash = plain x0;
  word = plain x1;
  file = header a0 rest (record { file = include.Own x; tokens = 1 });
  words = ap (λ o. plain x0 ∷ plain x1 ∷ words_by o IncludeWord a0 rest (λ c. words_behind c rest)) found ∙ ap (λ w. plain x0 ∷ plain x1 ∷ header a0 rest (record { file = include.Own x; tokens = 1 }) ∷ w) (inside_done rest);
  is_hash = refl;
  first = refl;
  is_include = (refl, refl);
  behind = refl;
  is_file = refl;
}
  where
    x0 : Lexeme
    x0 = lexeme t true (codes "#") (k.Sign sign.Hash)

    s0 : Text
    s0 = with_token t (codes "#")

    x1 : Lexeme
    x1 = lexeme s0 false (codes "include") k.Identifier

    s1 : Text
    s1 = put_mark (with_token s0 (codes "include")) Space

    a0 : Lexeme
    a0 = lexeme s1 false (spelled_text (x ++ codes ".h")) k.Text

    rest : List Lexeme
    rest = lexemes (with_token s1 (spelled_text (x ++ codes ".h"))) false ms

    spelled : List ℕ
    spelled = spelled_bytes 34 0 (x ++ codes ".h")

    count : length (34 ∷ spelled ++ 34 ∷ []) - 2 ≡ length spelled
    count = let len : length (spelled ++ 34 ∷ []) ≡ length spelled + 1 = length-append spelled (34 ∷ []) in omega arith

    found : own_file (take (length a0.text - 2) (drop 1 a0.text)) ≡ named (include.Own x) 1
    found = ap own_file (front_of spelled (34 ∷ []) (length (34 ∷ spelled ++ 34 ∷ []) - 2) count ∙ plain_bytes 0 (x ++ codes ".h") (file_bytes x h)) ∙ own_named x h

pub include_words : (t : Text) (f : Include) → IsFile f → (ms : Marks) → IncludeWords t f ms
include_words t include.Glib h ms = glib_words t ms
include_words t include.GlibObject h ms = glibObject_words t ms
include_words t include.Gio h ms = gio_words t ms
include_words t include.String h ms = string_words t ms
include_words t include.Stdlib h ms = stdlib_words t ms
include_words t (include.Own x) h ms = own_words t x h ms
