-- What the tokens of bytes say: words are no keywords where they are names, numbers are within their types, and texts are of bytes.
use Rattle.std.proofs.Common.{◌≡◌, ◌∙◌, refl, sym, ap, subst, ℕ, zero, suc, ◌-◌, ◌+◌, ◌<◌, ◌^◌, Bool, true, false, cond, ◌&&◌, ◌==◌, nat_lt, List, [], ◌∷◌, ◌++◌, length, take, drop, codes, Option, Some, None, arith}
use Rattle.std.proofs.lemmas.Bool.{cond_both, and_parts, ltb-true}
use Rattle.std.specs.Str.{bytes_eq}
use Rattle.c_lexer.specs.declared.numbers.Suffix.{Suffix}
use Rattle.c_lexer.specs.declared.numbers.Suffix.TheVariants as suffix
use Rattle.c_lexer.specs.declared.token.BadToken.{BadToken}
use Rattle.c_lexer.specs.declared.token.NumberType.{NumberType}
use Rattle.c_lexer.specs.declared.token.NumberType.TheVariants.{Gint, Guint, Glong, Gulong}
use Rattle.c_lexer.specs.declared.token.Sign.TheVariants as sign
use Rattle.c_lexer.specs.declared.token.TokenKind.{TokenKind}
use Rattle.c_lexer.specs.declared.token.TokenKind.TheVariants as k
use Rattle.c_lexer.specs.Laws.{Covers, last, stopped, next}
use Rattle.c_lexer.specs.Numbers.{below, number_type}
use Rattle.c_lexer.specs.Texts.{simple_escape}
use Rattle.c_lexer.specs.Tokens.{Lexeme}
use Rattle.c_lexer.specs.Words.{word_kind}
use Rattle.c_lexer.specs.Written as written
use Rattle.c_lexer.specs.Written.{IsWord, IsToken, Denotes}
use Rattle.c_lexer.proofs.DenotesLemmas.{text_denotes}
use Rattle.c_tree.specs.declared.unit.Include.TheVariants as include
use Rattle.c_tree.specs.Words.{Terminal, Of, Header, Token, Word, Named, named, side_by_side, system_file, own_file, file_at, is_file_name, Behind, Other, Hash, IncludeWord, Inside, meant, then_behind, file_behind, words_by, words_behind, words, IsName}
use Rattle.c_printer.specs.Marks.{Name, Number, Chars, Character}
use Rattle.c_printer.proofs.Inner.{IsFile, IsInner}
use Rattle.c_printer.specs.Put.{AreBytes, Holds}
use Rattle.c_printer.proofs.WordKinds.{is_worded, worded}

-- 1. One token

-- what a token says, by its class
abbrev pub Said : Terminal → List ℕ → Type 0
Said (Of k.Identifier) w = IsWord w × (word_kind w ≡ k.Identifier)
Said (Of (k.Number n y)) w = Holds y n
Said (Of k.Text) w = AreBytes w
Said (Of (k.Character b)) w = b < 256
Said (Header f) w = IsFile f
Said t w = Unit {0}

abbrev pub IsGiven : Token → Type 0
IsGiven t = Said t.terminal t.bytes

-- all of them
abbrev pub AreGiven : Word → Type 0
AreGiven [] = Unit {0}
AreGiven (t ∷ w) = IsGiven t × AreGiven w

pub given_append : (u w : Word) → AreGiven (u ++ w) → AreGiven u × AreGiven w
given_append [] w g = (tt, g)
given_append (t ∷ u) w g = let q = given_append u w g.1 in ((g.0, q.0), q.1)

-- a name that a token is can be written
pub a_name : (t : Token) → IsName t → IsGiven t → IsInner (Name t.bytes)
a_name t i g = subst (λ x. Said x t.bytes) i g

pub a_number : (t : Token) {n : ℕ} {y : NumberType} → t.terminal ≡ Of (k.Number n y) → IsGiven t → IsInner (Number n y)
a_number t i g = subst (λ x. Said x t.bytes) i g

pub a_text : (t : Token) → t.terminal ≡ Of k.Text → IsGiven t → IsInner (Chars t.bytes)
a_text t i g = subst (λ x. Said x t.bytes) i g

pub a_character : (t : Token) {b : ℕ} → t.terminal ≡ Of (k.Character b) → IsGiven t → IsInner (Character b)
a_character t i g = subst (λ x. Said x t.bytes) i g

-- 2. How tokens are written

pub bytes_append : (a b : List ℕ) → AreBytes (a ++ b) → AreBytes a × AreBytes b
bytes_append [] b h = (tt, h)
bytes_append (x ∷ a) b h = let q = bytes_append a b h.1 in ((h.0, q.0), q.1)

Small : Option ℕ → Type 0
Small None = Unit {0}
Small (Some b) = b < 256

small_escape : (c : ℕ) → Small (simple_escape c)
unfolding Small
small_escape c =
    cond_both (c == 34) _ _ Small (λ _. omega arith)
    (λ _. cond_both (c == 39) _ _ Small (λ _. omega arith)
    (λ _. cond_both (c == 92) _ _ Small (λ _. omega arith)
    (λ _. cond_both (c == 97) _ _ Small (λ _. omega arith)
    (λ _. cond_both (c == 98) _ _ Small (λ _. omega arith)
    (λ _. cond_both (c == 102) _ _ Small (λ _. omega arith)
    (λ _. cond_both (c == 110) _ _ Small (λ _. omega arith)
    (λ _. cond_both (c == 114) _ _ Small (λ _. omega arith)
    (λ _. cond_both (c == 116) _ _ Small (λ _. omega arith)
    (λ _. cond_both (c == 118) _ _ Small (λ _. omega arith) (λ _. tt))))))))))

by_escape : (c b : ℕ) → simple_escape c ≡ Some b → b < 256
unfolding Small
by_escape c b e = subst Small e (small_escape c)

-- what stands between quotes denotes bytes
denoted_bytes : {q : ℕ} {body bytes : List ℕ} → Denotes q body bytes → AreBytes body → AreBytes bytes
denoted_bytes written.nothing h = tt
denoted_bytes (written.byte b x y z d) h = (h.0, denoted_bytes d h.1)
denoted_bytes (written.simple c b e d) h = (by_escape c b e, denoted_bytes d h.1.1)
denoted_bytes (written.octal x y z i j k small d) h = (small, denoted_bytes d h.1.1.1.1)

Held : ℕ → Option NumberType → Type 0
Held n None = Unit {0}
Held n (Some y) = Holds y n

held_below : (n : ℕ) (y : NumberType) (bound : ℕ) → (n < bound → Holds y n) → Held n (below n bound y)
unfolding Held
held_below n y bound h = cond_both (nat_lt n bound) (Some y) None (Held n) (λ e. h (ltb-true n bound e)) (λ _. tt)

held : (s : Suffix) (n : ℕ) → Held n (number_type s n)
unfolding Held
held suffix.Plain n = cond_both (nat_lt n (2 ^ 31)) (Some Gint) (below n (2 ^ 63) Glong) (Held n) (λ e. ltb-true n (2 ^ 31) e) (λ _. held_below n Glong (2 ^ 63) (λ h. h))
held suffix.U n = cond_both (nat_lt n (2 ^ 32)) (Some Guint) (below n (2 ^ 64) Gulong) (Held n) (λ e. ltb-true n (2 ^ 32) e) (λ _. held_below n Gulong (2 ^ 64) (λ h. h))
held suffix.L n = held_below n Glong (2 ^ 63) (λ h. h)
held suffix.Ul n = held_below n Gulong (2 ^ 64) (λ h. h)

of_type : (s : Suffix) (n : ℕ) (y : NumberType) → number_type s n ≡ Some y → Holds y n
unfolding Held
of_type s n y e = subst (Held n) e (held s n)

never : true ≡ false → ⊥
never e = absurd cc

-- what a word says
word_said : (w : List ℕ) → IsWord w → (kind : TokenKind) → word_kind w ≡ kind → Said (Of kind) (meant kind w)
word_said w i k.Identifier e = (i, e)
word_said w i (k.Number n y) e = absurd (never (sym (worded w) ∙ ap is_worded e))
word_said w i k.Text e = absurd (never (sym (worded w) ∙ ap is_worded e))
word_said w i (k.Character b) e = absurd (never (sym (worded w) ∙ ap is_worded e))
word_said w i (k.Keyword x) e = tt
word_said w i k.UnusedKeyword e = tt
word_said w i (k.Constant x) e = tt
word_said w i (k.Sign x) e = tt

-- what any token of bytes says
token_said : (w : List ℕ) (kind : TokenKind) → IsToken w kind → AreBytes w → Said (Of kind) (meant kind w)
token_said _ _ (written.word w i) h = word_said w i (word_kind w) refl
token_said _ _ (written.decimal d s y i e) h = of_type s _ y e
token_said _ _ (written.hexadecimal d s y i e) h = of_type s _ y e
token_said _ _ (written.text body bytes d) h = subst AreBytes (sym (text_denotes body bytes d)) (denoted_bytes d (bytes_append body (34 ∷ []) h.1).0)
token_said _ _ (written.character body b d some) h = (denoted_bytes d (bytes_append body (39 ∷ []) h.1).0).0
token_said _ _ (written.one b s e) h = tt
token_said _ _ (written.two b c s e) h = tt
token_said _ _ (written.three b c d s e) h = tt

-- 3. All tokens

abbrev AllSaid : List Lexeme → Type 0
AllSaid [] = Unit {0}
AllSaid (t ∷ ts) = Said (Of t.kind) (meant t.kind t.text) × AllSaid ts

all_said : {at : ℕ} {z : List ℕ} {ts : List Lexeme} {o : Option BadToken} → Covers at z ts o → AreBytes z → AllSaid ts
all_said (last w b) h = tt
all_said (stopped w z b c) h = tt
all_said (next w rest t b l s e f more) h =
    let p = bytes_append (w ++ t.text) rest h in
    (token_said t.text t.kind l.written (bytes_append w t.text p.0).1, all_said more p.1)

-- 4. As the grammar takes them

Filed : Option Named → Type 0
Filed None = Unit {0}
Filed (Some n) = IsFile n.file

by_bytes : (a b c d e : Bool) → Filed (cond a (named include.Glib 5) (cond b (named include.GlibObject 7) (cond c (named include.Gio 7) (cond d (named include.String 5) (cond e (named include.Stdlib 5) None)))))
unfolding Filed
by_bytes true b c d e = tt
by_bytes false true c d e = tt
by_bytes false false true d e = tt
by_bytes false false false true e = tt
by_bytes false false false false true = tt
by_bytes false false false false false = tt

system_filed : (at : ℕ) (ts : List Lexeme) → Filed (system_file at ts)
system_filed at ts = by_bytes (bytes_eq (side_by_side at (take 5 ts)) (codes "<glib.h>")) (bytes_eq (side_by_side at (take 7 ts)) (codes "<glib-object.h>")) (bytes_eq (side_by_side at (take 7 ts)) (codes "<gio/gio.h>"))
    (bytes_eq (side_by_side at (take 5 ts)) (codes "<string.h>")) (bytes_eq (side_by_side at (take 5 ts)) (codes "<stdlib.h>"))

own_filed : (z : List ℕ) → Filed (own_file z)
unfolding Filed
own_filed z = cond_both (is_file_name (take (length z - 2) z) && bytes_eq (drop (length z - 2) z) (codes ".h")) (named (include.Own (take (length z - 2) z)) 1) None Filed
    (λ e. (and_parts (is_file_name (take (length z - 2) z)) (bytes_eq (drop (length z - 2) z) (codes ".h")) e).0) (λ _. tt)

kind_filed : (kind : TokenKind) (t : Lexeme) (ts : List Lexeme) → Filed (file_at kind t ts)
unfolding Filed
kind_filed (k.Sign sign.Less) t ts = system_filed t.start (t ∷ ts)
kind_filed k.Text t ts = own_filed (take (length t.text - 2) (drop 1 t.text))
kind_filed kind t ts = tt

filed : (b : Behind) (t : Lexeme) (ts : List Lexeme) → Filed (file_behind b t ts)
unfolding Filed
filed IncludeWord t ts = cond_both t.begins_line None (file_at t.kind t ts) Filed (λ _. tt) (λ _. kind_filed t.kind t ts)
filed Other t ts = tt
filed Hash t ts = tt
filed (Inside n) t ts = tt

given_by : (o : Option Named) (b : Behind) (t : Lexeme) (ts : List Lexeme) (further : Behind → Word) → Filed o → Said (Of t.kind) (meant t.kind t.text) → ((c : Behind) → AreGiven (further c)) → AreGiven (words_by o b t ts further)
unfolding Filed
given_by None b t ts further f h more = (h, more (then_behind b t))
given_by (Some n) b t ts further f h more = (f, more (Inside (n.tokens - 1)))

words_given : (b : Behind) (ts : List Lexeme) → AllSaid ts → AreGiven (words_behind b ts)
words_given b [] h = tt
words_given (Inside (suc n)) (t ∷ ts) h = words_given (Inside n) ts h.1
words_given (Inside zero) (t ∷ ts) h = given_by (file_behind (Inside 0) t ts) (Inside 0) t ts (λ c. words_behind c ts) (filed (Inside 0) t ts) h.0 (λ c. words_given c ts h.1)
words_given Other (t ∷ ts) h = given_by (file_behind Other t ts) Other t ts (λ c. words_behind c ts) (filed Other t ts) h.0 (λ c. words_given c ts h.1)
words_given Hash (t ∷ ts) h = given_by (file_behind Hash t ts) Hash t ts (λ c. words_behind c ts) (filed Hash t ts) h.0 (λ c. words_given c ts h.1)
words_given IncludeWord (t ∷ ts) h = given_by (file_behind IncludeWord t ts) IncludeWord t ts (λ c. words_behind c ts) (filed IncludeWord t ts) h.0 (λ c. words_given c ts h.1)

-- THE TOKENS OF BYTES, as the grammar takes them.
pub bytes_given : (bytes : List ℕ) (ts : List Lexeme) (o : Option BadToken) → Covers 0 bytes ts o → AreBytes bytes → AreGiven (words ts)
bytes_given bytes ts o c h = words_given Other ts (all_said c h)
