-- Fronts of texts computed: what stops a text, what could go on, and the first refusal.
use Rattle.std.proofs.Common.{◌≡◌, ◌∙◌, refl, sym, ap, subst, ℕ, zero, suc, ◌+◌, ◌<◌, ◌≤◌, nat_lt, nat_le, Bool, true, false, List, [], ◌∷◌, ◌++◌}
use Rattle.std.proofs.Common.{append_assoc, map, length, codes, Option, Some, None, Result, Ok, Err, rules, arith}
use Rattle.std.proofs.lemmas.List.Elements.{All-nil, All-cons}
use Rattle.c_lexer.specs.Tokens.{Lexeme, Left, Tokens, all_of, behind, next_of}
use Rattle.c_lexer.specs.Tokens as lexed
use Rattle.c_lexer.specs.declared.token.BadToken.{BadToken}
use Rattle.c_tree.specs.declared.kinds.Cause.TheVariants as cause
use Rattle.c_tree.specs.declared.kinds.Fault.{Fault}
use Rattle.c_tree.specs.declared.kinds.Refusal.{Refusal}
use Rattle.c_tree.specs.declared.unit.Item.{Item}
use Rattle.c_tree.specs.Words.{Token, Word, words, is_shallow}
use Rattle.c_tree.specs.Names.{library_names}
use Rattle.c_tree.specs.Answers.{Answers, Begins, Ending, Made, Says, Stops, ending, faults_of, first_of, known_behind, syntax_at}
use Rattle.c_tree.specs.Answers as answer
use Rattle.c_tree.specs.Examples.{Refused}
use Rattle.c_tree.proofs.FindUnits.{items_at, peeled_faults, same_faults}
use Rattle.c_fronts.specs.Fronts.{InOrder}
use Rattle.c_fronts.specs.Examples.{RefusedFronts}
use Rattle.c_fronts.proofs.Law.{stopped_texts_are_refused}

-- a condition that holds, and one that does not
abbrev holds : (b : Bool) → Option (b ≡ true)
holds true = Some refl
holds false = None

abbrev fails : (b : Bool) → Option (b ≡ false)
fails false = Some refl
fails true = None

abbrev then : {A B : Type 0} → Option A → (A → Option B) → Option B
then None f = None
then (Some a) f = f a

abbrev or_else : {A : Type 0} → Option A → Option A → Option A
or_else (Some a) o = Some a
or_else None o = o

-- 1. Tokens

-- tokens, up to the end or to what is none
record Lexed (l : Left) : Type 0 where
  tokens : List Lexeme
  stop : Option BadToken
  lexes : Tokens l tokens stop

abbrev lexed_by : (l : Left) → (r : Result (Option Lexeme) BadToken) → next_of l ≡ r → ((l : Left) → Option (Lexed l)) → Option (Lexed l)
lexed_by l (Err b) e further = Some (record { tokens = []; stop = Some b; lexes = lexed.broken l b e })
lexed_by l (Ok None) e further = Some (record { tokens = []; stop = None; lexes = lexed.end l e })
lexed_by l (Ok (Some t)) e further = then (further (behind l (Ok (Some t))))
    (λ ts. Some (record { tokens = t ∷ ts.tokens; stop = ts.stop; lexes = lexed.token l t e ts.lexes }))

abbrev lex_any : ℕ → (l : Left) → Option (Lexed l)
lex_any zero l = None
lex_any (suc n) l = lexed_by l (next_of l) refl (lex_any n)

-- 2. What could go on

-- a token behind a place
abbrev moved : ℕ → Token → Token
moved n t = record { terminal = t.terminal; bytes = t.bytes; start = t.start + suc n; end = t.end + suc n; begins_line = t.begins_line }

moved_behind : (n : ℕ) (w : Word) → Made n (map (moved n) w)
moved_behind n [] = All-nil (λ (t : Token). (n < t.start) × (n < t.end))
moved_behind n (t ∷ w) = All-cons (λ (t : Token). (n < t.start) × (n < t.end)) (moved n t) (map (moved n) w) (omega arith, omega arith) (moved_behind n w)

-- 3. Where a text stops

less_is : (a b : ℕ) → nat_lt a b ≡ true → a < b
less_is a b e = grind arith

no_more_is : (a b : ℕ) → nat_le a b ≡ true → a ≤ b
no_more_is a b e = grind arith

abbrev in_order : (n : ℕ) (w : Word) → Option (InOrder n w)
in_order n [] = Some tt
in_order n (t ∷ []) = then (holds (nat_lt t.start t.end)) (λ a. then (holds (nat_le t.end n)) (λ b. Some (less_is t.start t.end a, no_more_is t.end n b)))
in_order n (t ∷ s ∷ w) =
    then (holds (nat_lt t.start t.end)) (λ a. then (holds (nat_le t.end s.start))
    (λ b. then (in_order n (s ∷ w)) (λ c. Some (less_is t.start t.end a, no_more_is t.end s.start b, c))))

record Stopped (text : Word) (e : Ending) : Type 0 where
  word : Word
  own : Fault
  stops : Stops text e word own

one_on : (text w : Word) (t : Token) (r : Word) → text ≡ w ++ t ∷ r → text ≡ (w ++ t ∷ []) ++ r
one_on text w t r e = e ∙ sym (append_assoc w (t ∷ []) r)

abbrev deep_from : (text : Word) (e : Ending) (w r : Word) → text ≡ w ++ r → Option (Stopped text e)
deep_from text e w [] p = None
deep_from text e w (t ∷ r) p = or_else (then (fails (is_shallow [] (w ++ t ∷ [])))
    (λ h. Some (record { word = w; own = syntax_at t.start; stops = answer.at_deep e w t r p h }))) (deep_from text e (w ++ t ∷ []) r (one_on text w t r p))

abbrev broken_at : (text : Word) (bytes : List ℕ) (b : Option BadToken) → Option (Stopped text (ending bytes b))
broken_at text bytes None = None
broken_at text bytes (Some b) = Some (record { word = text; own = record { place = b.at; cause = cause.Token; since = b.at }; stops = answer.at_broken b.at })

-- 4. The refusal

some_same : (r s : Refusal) → Some r ≡ Some s → r ≡ s
some_same r s e = search rules

abbrev Said : Word → Ending → Type 0
Said text e = (r : Refusal) × Says text e (Err r)

says_as : (text : Word) (e : Ending) (own : Fault) (w : Word) (is : List Item) (r : Refusal) → (s : Refusal)
    × (first_of (Some own) (known_behind w (faults_of is)) ≡ Some s) × Says text e (Err s)
    → first_of (Some own) (known_behind w (peeled_faults (record { items = is }))) ≡ Some r → Says text e (Err r)
says_as text e own w is r s h =
    subst (λ (z : Refusal). Says text e (Err z)) (some_same s.0 r (sym s.1
    ∙ ap (λ (fs : List Fault). first_of (Some own) (known_behind w fs)) (same_faults (record { items = is })) ∙ h)) s.2

abbrev said_by : (text : Word) (e : Ending) (s : Stopped text e) → InOrder s.own.place s.word → (b : Begins s.own.place s.word) → (o : Option Refusal)
    → first_of (Some s.own) (known_behind s.word (peeled_faults (record { items = b.items }))) ≡ o → Option (Said text e)
said_by text e s h b None p = None
said_by text e s h b (Some r) p = Some (r, says_as text e s.own s.word b.items r (stopped_texts_are_refused text e s.word s.own h s.stops b) p)

abbrev begins_by : (n : ℕ) (w v : Word) → Option (Begins n w)
begins_by n w v = then (holds (is_shallow [] w)) (λ h. then (items_at 2000 library_names (w ++ map (moved n) v))
    (λ is. Some (record { shallow = h; rest = map (moved n) v; items = is.0; made = moved_behind n v; reads = is.1 })))

abbrev said_at : (text : Word) (e : Ending) (v : Word) → Stopped text e → Option (Said text e)
said_at text e v s = then (in_order s.own.place s.word) (λ h.
    then (begins_by s.own.place s.word v) (λ b. said_by text e s h b
    (first_of (Some s.own) (known_behind s.word (peeled_faults (record { items = b.items })))) refl))

-- the refusal of bytes that stop, where these could go on
abbrev front_at : (bytes more : List ℕ) → length bytes ≤ 1000 → Option ((r : Refusal) × Answers bytes 1000 (Err r))
front_at bytes more h = then (lex_any 200 (all_of bytes)) (λ ts. then (lex_any 200 (all_of more)) (λ v.
    then (or_else (deep_from (words ts.tokens) (ending bytes ts.stop) [] (words ts.tokens) refl) (broken_at (words ts.tokens) bytes ts.stop)) (λ s.
    then (said_at (words ts.tokens) (ending bytes ts.stop) (words v.tokens) s) (λ r. Some (r.0, answer.refused r.0 ts.tokens ts.stop h ts.lexes r.1)))))

-- the refusal that is found
abbrev refusal_of : {bytes : List ℕ} → Option ((r : Refusal) × Answers bytes 1000 (Err r)) → Option Refusal
refusal_of None = None
refusal_of (Some r) = Some r.0

none_is : (r : Refusal) → None ≡ Some r → ⊥
none_is r e = search rules

found_is : (bytes : List ℕ) (r : Refusal) (o : Option ((r : Refusal) × Answers bytes 1000 (Err r))) → refusal_of o ≡ Some r → Answers bytes 1000 (Err r)
found_is bytes r (Some s) e = subst (λ (z : Refusal). Answers bytes 1000 (Err z)) (some_same s.0 r e) s.1
found_is bytes r None e = absurd (none_is r e)

name_read : Refused (codes "int main (int argc, char **argv) { gint a; a = b $") cause.Undeclared 47
unfolding Rattle.c_lexer.specs.Tokens.next_of Rattle.c_lexer.specs.Blanks.blanks_within Rattle.c_lexer.specs.Cut.cut
    Rattle.c_tree.specs.declared.code.Stmt.TheViews.out-Stmt denote.Hole.Carrier.out Rattle.c_tree.specs.declared.code.Shape.TheViews.out-Shape
    Rattle.c_tree.specs.declared.code.Shape.TheViews.out-Suffix Rattle.c_tree.specs.declared.code.Shape.TheBlock.shown-the_row-Expr-0
    Rattle.c_tree.specs.declared.code.Shape.TheBlock.shown-the_row-Suffix-1 Rattle.c_tree.specs.declared.code.Shape.TheBlock.shown-the_row-Link-2
    Rattle.c_tree.specs.declared.code.Shape.TheBlock.shown-the_row-Choice-3 denote.Hole.Carrier.shown denote.Hole.Carrier.hidden
    Rattle.c_tree.specs.declared.code.Stmt.TheBlock.shown-the_row-Stmt-0
name_read = found_is (codes "int main (int argc, char **argv) { gint a; a = b $") (record { cause = cause.Undeclared; at = 47 })
    (front_at (codes "int main (int argc, char **argv) { gint a; a = b $") (codes "; return 0; }") (omega arith)) refl

value_open : Refused (codes "int main (int argc, char **argv) { gchar *s; s = 1 $") cause.Token 51
unfolding Rattle.c_lexer.specs.Tokens.next_of Rattle.c_lexer.specs.Blanks.blanks_within Rattle.c_lexer.specs.Cut.cut
    Rattle.c_tree.specs.declared.code.Stmt.TheViews.out-Stmt denote.Hole.Carrier.out Rattle.c_tree.specs.declared.code.Shape.TheViews.out-Shape
    Rattle.c_tree.specs.declared.code.Shape.TheViews.out-Suffix Rattle.c_tree.specs.declared.code.Shape.TheBlock.shown-the_row-Expr-0
    Rattle.c_tree.specs.declared.code.Shape.TheBlock.shown-the_row-Suffix-1 Rattle.c_tree.specs.declared.code.Shape.TheBlock.shown-the_row-Link-2
    Rattle.c_tree.specs.declared.code.Shape.TheBlock.shown-the_row-Choice-3 denote.Hole.Carrier.shown denote.Hole.Carrier.hidden
    Rattle.c_tree.specs.declared.code.Stmt.TheBlock.shown-the_row-Stmt-0
value_open = found_is (codes "int main (int argc, char **argv) { gchar *s; s = 1 $") (record { cause = cause.Token; at = 51 })
    (front_at (codes "int main (int argc, char **argv) { gchar *s; s = 1 $") (codes "; return 0; }") (omega arith)) refl

value_whole : Refused (codes "int main (int argc, char **argv) { gchar *s; s = 1; $") cause.Misfit 49
unfolding Rattle.c_lexer.specs.Tokens.next_of Rattle.c_lexer.specs.Blanks.blanks_within Rattle.c_lexer.specs.Cut.cut
    Rattle.c_tree.specs.declared.code.Stmt.TheViews.out-Stmt denote.Hole.Carrier.out Rattle.c_tree.specs.declared.code.Shape.TheViews.out-Shape
    Rattle.c_tree.specs.declared.code.Shape.TheViews.out-Suffix Rattle.c_tree.specs.declared.code.Shape.TheBlock.shown-the_row-Expr-0
    Rattle.c_tree.specs.declared.code.Shape.TheBlock.shown-the_row-Suffix-1 Rattle.c_tree.specs.declared.code.Shape.TheBlock.shown-the_row-Link-2
    Rattle.c_tree.specs.declared.code.Shape.TheBlock.shown-the_row-Choice-3 denote.Hole.Carrier.shown denote.Hole.Carrier.hidden
    Rattle.c_tree.specs.declared.code.Stmt.TheBlock.shown-the_row-Stmt-0
value_whole = found_is (codes "int main (int argc, char **argv) { gchar *s; s = 1; $") (record { cause = cause.Misfit; at = 49 })
    (front_at (codes "int main (int argc, char **argv) { gchar *s; s = 1; $") (codes "return 0; }") (omega arith)) refl

label_open : Refused (codes "int main (int argc, char **argv) { goto L; $") cause.Token 43
unfolding Rattle.c_lexer.specs.Tokens.next_of Rattle.c_lexer.specs.Blanks.blanks_within Rattle.c_lexer.specs.Cut.cut
    Rattle.c_tree.specs.declared.code.Stmt.TheViews.out-Stmt denote.Hole.Carrier.out Rattle.c_tree.specs.declared.code.Shape.TheViews.out-Shape
    Rattle.c_tree.specs.declared.code.Shape.TheViews.out-Suffix Rattle.c_tree.specs.declared.code.Shape.TheBlock.shown-the_row-Expr-0
    Rattle.c_tree.specs.declared.code.Shape.TheBlock.shown-the_row-Suffix-1 Rattle.c_tree.specs.declared.code.Shape.TheBlock.shown-the_row-Link-2
    Rattle.c_tree.specs.declared.code.Shape.TheBlock.shown-the_row-Choice-3 denote.Hole.Carrier.shown denote.Hole.Carrier.hidden
    Rattle.c_tree.specs.declared.code.Stmt.TheBlock.shown-the_row-Stmt-0
label_open = found_is (codes "int main (int argc, char **argv) { goto L; $") (record { cause = cause.Token; at = 43 })
    (front_at (codes "int main (int argc, char **argv) { goto L; $") (codes "L: ; return 0; }") (omega arith)) refl

first_name : Refused (codes "int main (int argc, char **argv) { a $") cause.Token 37
unfolding Rattle.c_lexer.specs.Tokens.next_of Rattle.c_lexer.specs.Blanks.blanks_within Rattle.c_lexer.specs.Cut.cut
    Rattle.c_tree.specs.declared.code.Stmt.TheViews.out-Stmt denote.Hole.Carrier.out Rattle.c_tree.specs.declared.code.Shape.TheViews.out-Shape
    Rattle.c_tree.specs.declared.code.Shape.TheViews.out-Suffix Rattle.c_tree.specs.declared.code.Shape.TheBlock.shown-the_row-Expr-0
    Rattle.c_tree.specs.declared.code.Shape.TheBlock.shown-the_row-Suffix-1 Rattle.c_tree.specs.declared.code.Shape.TheBlock.shown-the_row-Link-2
    Rattle.c_tree.specs.declared.code.Shape.TheBlock.shown-the_row-Choice-3 denote.Hole.Carrier.shown denote.Hole.Carrier.hidden
    Rattle.c_tree.specs.declared.code.Stmt.TheBlock.shown-the_row-Stmt-0
first_name = found_is (codes "int main (int argc, char **argv) { a $") (record { cause = cause.Token; at = 37 })
    (front_at (codes "int main (int argc, char **argv) { a $") (codes ": ; return 0; }") (omega arith)) refl

stored_name : Refused (codes "int main (int argc, char **argv) { a = $") cause.Undeclared 35
unfolding Rattle.c_lexer.specs.Tokens.next_of Rattle.c_lexer.specs.Blanks.blanks_within Rattle.c_lexer.specs.Cut.cut
    Rattle.c_tree.specs.declared.code.Stmt.TheViews.out-Stmt denote.Hole.Carrier.out Rattle.c_tree.specs.declared.code.Shape.TheViews.out-Shape
    Rattle.c_tree.specs.declared.code.Shape.TheViews.out-Suffix Rattle.c_tree.specs.declared.code.Shape.TheBlock.shown-the_row-Expr-0
    Rattle.c_tree.specs.declared.code.Shape.TheBlock.shown-the_row-Suffix-1 Rattle.c_tree.specs.declared.code.Shape.TheBlock.shown-the_row-Link-2
    Rattle.c_tree.specs.declared.code.Shape.TheBlock.shown-the_row-Choice-3 denote.Hole.Carrier.shown denote.Hole.Carrier.hidden
    Rattle.c_tree.specs.declared.code.Stmt.TheBlock.shown-the_row-Stmt-0
stored_name = found_is (codes "int main (int argc, char **argv) { a = $") (record { cause = cause.Undeclared; at = 35 })
    (front_at (codes "int main (int argc, char **argv) { a = $") (codes "1; return 0; }") (omega arith)) refl

deep_word : Refused (codes "int main (int argc, char **argv) { glong i; i = (((((((((((((((((((((((((((((((((((((((((((((((((((((((((((((((sizeof (")
    cause.Syntax 118
unfolding Rattle.c_lexer.specs.Tokens.next_of Rattle.c_lexer.specs.Blanks.blanks_within Rattle.c_lexer.specs.Cut.cut
    Rattle.c_tree.specs.declared.code.Stmt.TheViews.out-Stmt denote.Hole.Carrier.out Rattle.c_tree.specs.declared.code.Shape.TheViews.out-Shape
    Rattle.c_tree.specs.declared.code.Shape.TheViews.out-Suffix Rattle.c_tree.specs.declared.code.Shape.TheBlock.shown-the_row-Expr-0
    Rattle.c_tree.specs.declared.code.Shape.TheBlock.shown-the_row-Suffix-1 Rattle.c_tree.specs.declared.code.Shape.TheBlock.shown-the_row-Link-2
    Rattle.c_tree.specs.declared.code.Shape.TheBlock.shown-the_row-Choice-3 denote.Hole.Carrier.shown denote.Hole.Carrier.hidden
    Rattle.c_tree.specs.declared.code.Stmt.TheBlock.shown-the_row-Stmt-0
deep_word = found_is (codes "int main (int argc, char **argv) { glong i; i = (((((((((((((((((((((((((((((((((((((((((((((((((((((((((((((((sizeof (")
    (record { cause = cause.Syntax; at = 118 })
    (front_at (codes "int main (int argc, char **argv) { glong i; i = (((((((((((((((((((((((((((((((((((((((((((((((((((((((((((((((sizeof (")
    (codes "(gint)))))))))))))))))))))))))))))))))))))))))))))))))))))))))))))))); return 0; }") (omega arith)) refl

pub refused_fronts : RefusedFronts
refused_fronts = record {
  name_read = name_read;
  value_open = value_open;
  value_whole = value_whole;
  label_open = label_open;
  first_name =
      first_name;
  stored_name = stored_name;
  deep_word = deep_word;
}
