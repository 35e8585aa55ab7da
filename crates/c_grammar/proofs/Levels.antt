-- The level of a letter is how many signs are open behind it, as c_tree counts them.
use Rattle.std.proofs.Common.{◌≡◌, ℕ, suc, ◌<◌, ◌≤◌, ◌==◌, nat_le, Bool, true, false, not, ◌&&◌, ◌||◌, List, [], ◌∷◌, ◌++◌, length, Option, Some, None, codes, refl, sym, ap, subst, ◌∙◌, true≢false, arith, le-leb, leb-true}
use Rattle.std.specs.Prelude.{◌↔◌}
use Rattle.std.specs.List.{list_all}
use Rattle.std.specs.Str.{bytes_eq}
use Rattle.predictive_grammar.specs.Forms.{Form, give, take, part, pick}
use Rattle.predictive_grammar.specs.Follows.{Follows, given, taken, read, first, second, kept, left_out, raw, Reads}
use Rattle.predictive_grammar.specs.Follows as letters
use Rattle.predictive_grammar.specs.Exact.{IsWithin}
use Rattle.predictive_grammar.proofs.Sets.{and_first, and_second}
use Rattle.c_lexer.specs.declared.token.TokenKind.TheVariants as k
use Rattle.c_lexer.specs.declared.token.Keyword.TheVariants as keyword
use Rattle.c_lexer.specs.declared.token.Sign.{Sign}
use Rattle.c_lexer.specs.declared.token.Sign.TheVariants as sign
use Rattle.c_tree.specs.declared.names.CType.{CType}
use Rattle.c_tree.specs.declared.operators.Level.{Level}
use Rattle.c_tree.specs.declared.operators.Level.TheVariants as level
use Rattle.c_tree.specs.declared.code.Expr.{Expr}
use Rattle.c_tree.specs.declared.unit.Signature.{Signature as CSignature}
use Rattle.c_tree.specs.declared.unit.Item.{Item}
use Rattle.c_tree.specs.declared.code.Stmt.{Stmt}
use Rattle.c_tree.specs.Words.{Terminal, Of, Token, Word, Open, with_sign, with_terminal, is_shallow}
use Rattle.c_tree.specs.Names.{Names, Role, TypeName, RowName, VariableName, FunctionName, MemberName, Unknown, role_of, is_int}
use Rattle.c_tree.specs.Types.{is_object, can_be_type}
use Rattle.c_tree.specs.Items.{has_name}
use Rattle.c_tree.specs.Values.{tighter, is_place}
use Rattle.c_tree.specs.Make.{suffixed, chained}
use Rattle.c_grammar.specs.Sorts.{Kind, kind, on, Name, Number, Null, File, sort_of, role_in}
use Rattle.c_grammar.specs.Tests.{Set, is, sign_is, word_is, name_with, is_base, is_key_base, is_literal, is_callee_role, is_other_base, is_int_base, is_char_base, begins_include, links, is_prefix, is_value_role, is_field, on_line, is_any_name, is_name_of, is_main, begins_low}
use Rattle.c_grammar.specs.Trees.{with_prefixes, signature, type_of, no_stars, behind_first}
use Rattle.c_grammar.specs.Parts.{What, Part, tree_of, at, Consts, Stars, TypeRest, TypeMore, AnyType, Value, Choosing, ChoosingTail, Upto, Links, Operand, Prefixed, Place, Primary, Unnamed, Suffixes, Arguments, MoreArguments, KeyType, LocalOf, LocalRest, SignedNumberOf, GotoOf, Cases, BlockOf, Body, Statements, Statement, PlainStmt, NamedStmt, ValueStmt, Assigned, AssignedTail, ElseOf, MemberOf, Members, MoreMembers, Fields, ParameterOf, ParameterEnd, MoreParameters, ParametersOf, IntType, TextsType, TableInside, DeclaredOf, TypedEnd, StaticEnd, InfoEnd, StaticRest, TypedefRest, ItemOf, ItemsOf}
use Rattle.c_grammar.specs.Grammar.{C, form, forms, just, unchanged, inside, cast_or_operand, upto_behind, tail_behind, body_named, named_behind, label_behind, row_behind, stored_behind, assigned_named, declared_end, static_named, info_named, info_behind, static_const}
use Rattle.c_grammar.specs.Laws.{c_limits, LevelsAreCounted}
use Rattle.c_grammar.proofs.Classes.{is_within, within}
use Rattle.c_grammar.proofs.Tokens.{sign_told}

-- 1. Counting

-- each letter's level is how many signs are open behind it, and none begins a further item of a list
abbrev pub Counted : Open → letters.Word C → Type 0
Counted o [] = Unit {0}
Counted o (x ∷ w) = (x.level ≡ length (with_terminal o x.token.terminal)) × (x.items ≡ 0) × Counted (with_terminal o x.token.terminal) w

-- what is open behind letters
abbrev pub after : Open → letters.Word C → Open
after o [] = o
after o (x ∷ w) = after (with_terminal o x.token.terminal) w

counted_append : (o : Open) (u w : letters.Word C) → Counted o u → Counted (after o u) w → Counted o (u ++ w)
counted_append o [] w c d = d
counted_append o (x ∷ u) w c d = (c.0, c.1, counted_append (with_terminal o x.token.terminal) u w c.2 d)

after_append : (o : Open) (u w : letters.Word C) → after o (u ++ w) ≡ after (after o u) w
after_append o [] w = refl
after_append o (x ∷ u) w = after_append (with_terminal o x.token.terminal) u w

-- 2. Forms that close what they open

-- the sign that a form has opened, in front of all that was open before it
abbrev pending : Option Sign → Open → Open
pending None o = o
pending (Some s) o = s ∷ o

abbrev depth : Option Sign → ℕ → ℕ
depth None l = l
depth (Some s) l = suc l

-- no `?` was opened last
abbrev no_choice : Open → Bool
no_choice (sign.Question ∷ o) = false
no_choice o = true

-- in which parts a `:` stands that closes nothing
abbrev has_colon : What → Bool
has_colon Cases = true
has_colon Body = true
has_colon Statements = true
has_colon Statement = true
has_colon (NamedStmt t) = true
has_colon w = false

-- where such a part may stand
abbrev Allows : What → Option Sign → What → Type 0
Allows r None q = has_colon q ≡ true → has_colon r ≡ true
Allows r (Some s) q = has_colon q ≡ true → (o : Open) → no_choice (s ∷ o) ≡ true

data Balanced (r : Part) : Option Sign → Form C r → Type 0 where
  ends : {a : tree_of r.what} → Balanced r None (give a)
  plain : {p : Option Sign} {up : ℕ → ℕ} {test : Kind → Bool} {k : Token → Form C r} → ((x : Kind) → test x ≡ true → (o : Open) → with_terminal o x.terminal ≡ o) → ((l : ℕ) → up l ≡ depth p l) → ((t : Token) → Balanced r p (k t))
      → Balanced r p (take up 0 test k)
  colon : {up : ℕ → ℕ} {test : Kind → Bool} {k : Token → Form C r} → has_colon r.what ≡ true → ((x : Kind) → test x ≡ true → (o : Open) → no_choice o ≡ true → with_terminal o x.terminal ≡ o) → ((l : ℕ) → up l ≡ l)
      → ((t : Token) → Balanced r None (k t)) → Balanced r None (take up 0 test k)
  opens : {up : ℕ → ℕ} {test : Kind → Bool} {k : Token → Form C r} (s : Sign) → ((x : Kind) → test x ≡ true → (o : Open) → with_terminal o x.terminal ≡ s ∷ o) → ((l : ℕ) → up l ≡ suc l) → ((t : Token) → Balanced r (Some s) (k t))
      → Balanced r None (take up 0 test k)
  closes : {up : ℕ → ℕ} {test : Kind → Bool} {k : Token → Form C r} {s : Sign} → ((x : Kind) → test x ≡ true → (o : Open) → with_terminal (s ∷ o) x.terminal ≡ o) → ((l : ℕ) → up l ≡ l) → ((t : Token) → Balanced r None (k t))
      → Balanced r (Some s) (take up 0 test k)
  reads : {p : Option Sign} {up : ℕ → ℕ} {q : Part} {k : tree_of q.what → Form C r} → Allows r.what p q.what → ((l : ℕ) → up l ≡ depth p l) → ((b : tree_of q.what) → Balanced r p (k b)) → Balanced r p (part up q k)
  picks : {p : Option Sign} {test : Kind → Bool} {a b : Form C r} → Balanced r p a → Balanced r p b → Balanced r p (pick test a b)

-- what a text of a form does to what is open
record Keeps (p : Option Sign) (o : Open) (w : letters.Word C) : Type 0 where
  counted : Counted (pending p o) w
  same : after (pending p o) w ≡ o

depth_is : (p : Option Sign) (o : Open) (l : ℕ) → length o ≡ l → length (pending p o) ≡ depth p l
depth_is None o l e = e
depth_is (Some s) o l e = ap suc e

allowed : (r q : What) (p : Option Sign) (o : Open) → Allows r p q → (has_colon r ≡ true → no_choice o ≡ true) → has_colon q ≡ true → no_choice (pending p o) ≡ true
allowed r q None o a f e = f (a e)
allowed r q (Some s) o a f e = a e o

-- a letter in front, behind which this is open
with_letter : (o z : Open) (p q : Option Sign) {t : Token} {n : ℕ} {w : letters.Word C} → with_terminal (pending p o) t.terminal ≡ pending q z → n ≡ length (pending q z) → Counted (pending q z) w → after (pending q z) w ≡ o
    → Keeps p o (record { token = t; level = n; items = 0 } ∷ w)
with_letter o z p q {w = w} e h c a = record { counted = (h ∙ ap length (sym e), refl, subst (λ (y : Open). Counted y w) (sym e) c); same = ap (λ (y : Open). after y w) e ∙ a }

module _ (all : (q : Part) → Balanced q None (forms q)) where
  keeps : {r : Part} {p : Option Sign} {form : Form C r} {l : ℕ} {w : letters.Word C} {a : tree_of r.what} → Balanced r p form → Follows C forms None r form l w a → (o : Open) → length o ≡ l → (has_colon r.what ≡ true → no_choice o ≡ true) → Keeps p o w
  keeps ends (given a) o e f = record { counted = tt; same = refl }
  keeps {p = p} {l = l} (plain n u rest) (taken t i d) o e f =
      let h = keeps (rest t) d o e f in with_letter o o p p (n (kind t) i (pending p o)) (u l ∙ sym (depth_is p o l e)) h.counted h.same
  keeps {l = l} (colon c n u rest) (taken t i d) o e f = let h = keeps (rest t) d o e f in with_letter o o None None (n (kind t) i o (f c)) (u l ∙ sym e) h.counted h.same
  keeps {l = l} (opens s n u rest) (taken t i d) o e f = let h = keeps (rest t) d o e f in with_letter o o None (Some s) (n (kind t) i o) (u l ∙ ap suc (sym e)) h.counted h.same
  keeps {l = l} (closes {s = s} n u rest) (taken t i d) o e f = let h = keeps (rest t) d o e f in with_letter o o (Some s) None (n (kind t) i o) (u l ∙ sym e) h.counted h.same
  keeps {r = r} {p = p} {l = l} (reads {q = q} al u rest) (read {u = y} {v = z} {b = b} d c) o e f =
      let g = keeps (all q) d (pending p o) (depth_is p o l e ∙ sym (u l)) (allowed r.what q.what p o al f) in
      let h = keeps (rest b) c o e f in record {
        counted = counted_append (pending p o) y z g.counted (subst (λ (x : Open). Counted x z) (sym g.same) h.counted);
        same = after_append (pending p o) y z ∙ ap (λ (x : Open). after x z) g.same ∙ h.same;
      }
  keeps (picks x y) (first d) o e f = keeps x d o e f
  keeps (picks x y) (second d) o e f = keeps y d o e f

  -- 3. Levels below the limit are what is shallow

  shallow_within : (o : Open) (w : letters.Word C) → Counted o w → is_shallow o (raw w) ≡ true → IsWithin c_limits w
  shallow_within o [] c e = tt
  shallow_within o (x ∷ w) c e =
      let n = length (with_terminal o x.token.terminal) in
      let h = leb-true n 64 (and_first (nat_le n 64) (is_shallow (with_terminal o x.token.terminal) (raw w)) e) in
      (omega (arith, h, c.0), omega (arith, c.1), shallow_within (with_terminal o x.token.terminal) w c.2 (and_second (nat_le n 64) (is_shallow (with_terminal o x.token.terminal) (raw w)) e))

  and_true : {a b : Bool} → a ≡ true → b ≡ true → (a && b) ≡ true
  and_true {a} {b} e f = ap (λ (x : Bool). x && b) e ∙ f

  within_shallow : (o : Open) (w : letters.Word C) → Counted o w → IsWithin c_limits w → is_shallow o (raw w) ≡ true
  within_shallow o [] c e = refl
  within_shallow o (x ∷ w) c e = and_true (le-leb (length (with_terminal o x.token.terminal)) 64 (omega (arith, e.0, c.0))) (within_shallow (with_terminal o x.token.terminal) w c.2 e.2)

-- 4. Each form closes what it opens

-- what opens and closes nothing
abbrev neutral : Set
neutral c = not (sign_is sign.OpenBrace c || sign_is sign.CloseBrace c || sign_is sign.OpenParen c || sign_is sign.CloseParen c || sign_is sign.OpenBracket c || sign_is sign.CloseBracket c || sign_is sign.Question c || sign_is sign.Colon c)

neutral_told : (x : Terminal) (r : Role) (l : Bool) → neutral (record { sort = sort_of x; role = r; begins_line = l }) ≡ true → (o : Open) → with_terminal o x ≡ o
neutral_told (Of (k.Sign sign.OpenBrace)) r l e o = absurd (true≢false (sym e))
neutral_told (Of (k.Sign sign.CloseBrace)) r l e o = absurd (true≢false (sym e))
neutral_told (Of (k.Sign sign.OpenParen)) r l e o = absurd (true≢false (sym e))
neutral_told (Of (k.Sign sign.CloseParen)) r l e o = absurd (true≢false (sym e))
neutral_told (Of (k.Sign sign.OpenBracket)) r l e o = absurd (true≢false (sym e))
neutral_told (Of (k.Sign sign.CloseBracket)) r l e o = absurd (true≢false (sym e))
neutral_told (Of (k.Sign sign.Question)) r l e o = absurd (true≢false (sym e))
neutral_told (Of (k.Sign sign.Colon)) r l e o = absurd (true≢false (sym e))
neutral_told (Of (k.Sign sign.Comma)) r l e o = refl
neutral_told _ r l e o = refl

never : {A : Type 0} → false ≡ true → A
never e = absurd (true≢false (sym e))

tok : {r : Part} {p : Option Sign} {up : ℕ → ℕ} {k : Token → Form C r} (ns : Names) (test : Set) → is_within test neutral ≡ true → ((l : ℕ) → up l ≡ depth p l) → ((t : Token) → Balanced r p (k t)) → Balanced r p (take up 0 (on ns test) k)
tok ns test e u rest = plain (λ x i o. neutral_told x.terminal (role_in ns x.terminal x.bytes) x.begins_line (within ns test neutral e x i) o) u rest

-- a name of some kind
raw_tok : {r : Part} {p : Option Sign} {up : ℕ → ℕ} {test : Kind → Bool} {k : Token → Form C r} → ((x : Kind) → test x ≡ true → is_any_name x ≡ true) → ((l : ℕ) → up l ≡ depth p l) → ((t : Token) → Balanced r p (k t)) → Balanced r p (take up 0 test k)
raw_tok h u rest = plain (λ x i o. neutral_told x.terminal (role_in [] x.terminal x.bytes) x.begins_line (within [] (is Name) neutral refl x (h x i)) o) u rest

open_sign : {r : Part} {k : Token → Form C r} (ns : Names) (s : Sign) → ((o : Open) → with_sign o s ≡ s ∷ o) → ((t : Token) → Balanced r (Some s) (k t)) → Balanced r None (take inside 0 (on ns (sign_is s)) k)
open_sign ns s h rest = opens s (λ x i o. ap (with_terminal o) (sign_told x.terminal s i) ∙ h o) (λ l. refl) rest

close_sign : {r : Part} {k : Token → Form C r} (ns : Names) (s c : Sign) → ((o : Open) → with_sign (s ∷ o) c ≡ o) → ((t : Token) → Balanced r None (k t)) → Balanced r (Some s) (take unchanged 0 (on ns (sign_is c)) k)
close_sign ns s c h rest = closes (λ x i o. ap (with_terminal (s ∷ o)) (sign_told x.terminal c i) ∙ h o) (λ l. refl) rest

head_same : (s : Sign) (o : Open) → no_choice (s ∷ o) ≡ true → with_sign (s ∷ o) sign.Colon ≡ s ∷ o
head_same sign.Question o e = absurd (true≢false (sym e))
head_same _ o e = refl

choice_same : (o : Open) → no_choice o ≡ true → with_sign o sign.Colon ≡ o
choice_same [] e = refl
choice_same (s ∷ o) e = head_same s o e

colon_sign : {r : Part} {k : Token → Form C r} (ns : Names) → has_colon r.what ≡ true → ((t : Token) → Balanced r None (k t)) → Balanced r None (take unchanged 0 (on ns (sign_is sign.Colon)) k)
colon_sign ns c rest = colon c (λ x i o f. ap (with_terminal o) (sign_told x.terminal sign.Colon i) ∙ choice_same o f) (λ l. refl) rest

links_neutral : (l : Level) → is_within (links l) neutral ≡ true
links_neutral level.Product = refl
links_neutral _ = refl

b_consts : (ns : Names) → Balanced (at ns Consts) None (form ns Consts)
unfolding form
b_consts ns = picks (tok ns (word_is keyword.Const) refl (λ l. refl) (λ t. reads never (λ l. refl) (λ b. ends))) (ends)

b_stars : (ns : Names) (must : Bool) → Balanced (at ns (Stars must)) None (form ns (Stars must))
unfolding form
b_stars ns true = tok ns (sign_is sign.Star) refl (λ l. refl) (λ t. reads never (λ l. refl) (λ b. reads never (λ l. refl) (λ b. ends)))
b_stars ns false = picks (tok ns (sign_is sign.Star) refl (λ l. refl) (λ t. reads never (λ l. refl) (λ b. reads never (λ l. refl) (λ b. ends)))) (ends)

b_type_rest : (ns : Names) (u : Word) (t : Token) (must : Bool) → Balanced (at ns (TypeRest u t must)) None (form ns (TypeRest u t must))
unfolding form
b_type_rest ns u t must = picks (tok ns (word_is keyword.Const) refl (λ l. refl) (λ t. reads never (λ l. refl) (λ b. reads never (λ l. refl) (λ b. ends)))) (reads never (λ l. refl) (λ b. ends))

b_type_more : (ns : Names) (u : Word) (t : Token) → Balanced (at ns (TypeMore u t)) None (form ns (TypeMore u t))
unfolding form
b_type_more ns u t = picks (tok ns (word_is keyword.Const) refl (λ l. refl) (λ t. reads never (λ l. refl) (λ b. reads never (λ l. refl) (λ b. ends)))) (reads never (λ l. refl) (λ b. ends))

b_any_type : (ns : Names) (anyhow object : Bool) → Balanced (at ns (AnyType anyhow object)) None (form ns (AnyType anyhow object))
unfolding form
b_any_type ns true object = picks (tok ns (word_is keyword.Const) refl (λ l. refl) (λ t. reads never (λ l. refl) (λ b. tok ns (is_base true) refl (λ l. refl) (λ t. reads never (λ l. refl) (λ b. ends))))) (tok ns (is_base true) refl (λ l. refl) (λ t. reads never (λ l. refl) (λ b. ends)))
b_any_type ns false object = picks (tok ns (word_is keyword.Const) refl (λ l. refl) (λ t. reads never (λ l. refl) (λ b. tok ns (is_base false) refl (λ l. refl) (λ t. reads never (λ l. refl) (λ b. ends))))) (tok ns (is_base false) refl (λ l. refl) (λ t. reads never (λ l. refl) (λ b. ends)))

b_choosing_tail : (ns : Names) (c : Bool) (a : Expr) → Balanced (at ns (ChoosingTail c a)) None (form ns (ChoosingTail c a))
unfolding form
b_choosing_tail ns c a = reads never (λ l. refl) (λ b. picks (open_sign ns sign.Question (λ o. refl) (λ t. reads never (λ l. refl) (λ b. close_sign ns sign.Question sign.Colon (λ o. refl) (λ t. reads never (λ l. refl) (λ b. ends))))) (ends))

b_upto : (ns : Names) (c : Bool) (l : Level) (a : Expr) (m : Option Level) → Balanced (at ns (Upto l c a)) None (upto_behind ns m c a (λ b. just ns (Links l c) (λ ls. chained b ls)))
b_upto ns c l a None = reads never (λ l. refl) (λ b. ends)
b_upto ns c l a (Some m) = reads never (λ l. refl) (λ b. reads never (λ l. refl) (λ b. ends))

b_links : (ns : Names) (l : Level) (c : Bool) → Balanced (at ns (Links l c)) None (form ns (Links l c))
unfolding form
b_links ns l c = picks (tok ns (links l) (links_neutral l) (λ l. refl) (λ t. reads never (λ l. refl) (λ b. reads never (λ l. refl) (λ b. ends)))) (ends)

b_tail : (ns : Names) (c : Bool) (l : Level) (a : Expr) (m : Option Level) → Balanced (at ns (Operand l c)) None (tail_behind ns m c a (λ a. a))
b_tail ns c l a None = ends
b_tail ns c l a (Some m) = reads never (λ l. refl) (λ b. ends)

b_operand : (ns : Names) (l : Level) (c : Bool) → Balanced (at ns (Operand l c)) None (form ns (Operand l c))
unfolding form
b_operand ns l c = reads never (λ l. refl) (λ o. b_tail ns c l (with_prefixes o) (tighter l))

b_cast_true : (ns : Names) → Balanced (at ns (Prefixed true)) None (cast_or_operand ns true)
b_cast_true ns = picks (open_sign ns sign.OpenParen (λ o. refl) (λ t. picks (reads never (λ l. refl) (λ b. close_sign ns sign.OpenParen sign.CloseParen (λ o. refl) (λ t. reads never (λ l. refl) (λ b. ends)))) (reads never (λ l. refl) (λ b. close_sign ns sign.OpenParen sign.CloseParen (λ o. refl) (λ t. ends))))) (reads never (λ l. refl) (λ b. ends))

b_cast_false : (ns : Names) → Balanced (at ns (Prefixed false)) None (cast_or_operand ns false)
b_cast_false ns = picks (open_sign ns sign.OpenParen (λ o. refl) (λ t. picks (reads never (λ l. refl) (λ b. close_sign ns sign.OpenParen sign.CloseParen (λ o. refl) (λ t. reads never (λ l. refl) (λ b. ends)))) (reads never (λ l. refl) (λ b. close_sign ns sign.OpenParen sign.CloseParen (λ o. refl) (λ t. reads never (λ l. refl) (λ b. ends)))))) (reads never (λ l. refl) (λ b. reads never (λ l. refl) (λ b. ends)))

b_prefixed : (ns : Names) (c : Bool) → Balanced (at ns (Prefixed c)) None (form ns (Prefixed c))
unfolding form
b_prefixed ns true = picks (tok ns (is_prefix true) refl (λ l. refl) (λ t. reads never (λ l. refl) (λ b. ends))) (b_cast_true ns)
b_prefixed ns false = picks (tok ns (is_prefix false) refl (λ l. refl) (λ t. reads never (λ l. refl) (λ b. ends))) (picks (tok ns (sign_is sign.Ampersand) refl (λ l. refl) (λ t. reads never (λ l. refl) (λ b. ends))) (b_cast_false ns))

b_place : (ns : Names) → Balanced (at ns Place) None (form ns Place)
unfolding form
b_place ns = picks (tok ns (sign_is sign.Star) refl (λ l. refl) (λ t. reads never (λ l. refl) (λ b. ends))) (picks (open_sign ns sign.OpenParen (λ o. refl) (λ t. reads never (λ l. refl) (λ b. close_sign ns sign.OpenParen sign.CloseParen (λ o. refl) (λ t. reads never (λ l. refl) (λ b. ends))))) (reads never (λ l. refl) (λ b. reads never (λ l. refl) (λ b. ends))))

b_primary : (ns : Names) (c : Bool) → Balanced (at ns (Primary c)) None (form ns (Primary c))
unfolding form
b_primary ns true = picks (tok ns (name_with (is_value_role true)) refl (λ l. refl) (λ t. ends)) (reads never (λ l. refl) (λ b. ends))
b_primary ns false = picks (tok ns (name_with (is_value_role false)) refl (λ l. refl) (λ t. ends)) (reads never (λ l. refl) (λ b. ends))

b_unnamed : (ns : Names) → Balanced (at ns Unnamed) None (form ns Unnamed)
unfolding form
b_unnamed ns = picks (tok ns (is_literal) refl (λ l. refl) (λ t. ends)) (picks (tok ns (word_is keyword.Sizeof) refl (λ l. refl) (λ t. open_sign ns sign.OpenParen (λ o. refl) (λ t. reads never (λ l. refl) (λ b. close_sign ns sign.OpenParen sign.CloseParen (λ o. refl) (λ t. ends))))) (tok ns (word_is keyword.StructOffset) refl (λ l. refl) (λ t. open_sign ns sign.OpenParen (λ o. refl) (λ t. reads never (λ l. refl) (λ b. tok ns (sign_is sign.Comma) refl (λ l. refl) (λ t. tok ns (is Name) refl (λ l. refl) (λ t. close_sign ns sign.OpenParen sign.CloseParen (λ o. refl) (λ t. ends))))))))

b_suffixes : (ns : Names) (dot must : Bool) → Balanced (at ns (Suffixes dot must)) None (form ns (Suffixes dot must))
unfolding form
b_suffixes ns true true = picks (tok ns (is_field true) refl (λ l. refl) (λ t. tok ns (is Name) refl (λ l. refl) (λ t. reads never (λ l. refl) (λ b. ends)))) (open_sign ns sign.OpenBracket (λ o. refl) (λ t. reads never (λ l. refl) (λ b. close_sign ns sign.OpenBracket sign.CloseBracket (λ o. refl) (λ t. reads never (λ l. refl) (λ b. ends)))))
b_suffixes ns true false = picks (tok ns (is_field true) refl (λ l. refl) (λ t. tok ns (is Name) refl (λ l. refl) (λ t. reads never (λ l. refl) (λ b. ends)))) (picks (open_sign ns sign.OpenBracket (λ o. refl) (λ t. reads never (λ l. refl) (λ b. close_sign ns sign.OpenBracket sign.CloseBracket (λ o. refl) (λ t. reads never (λ l. refl) (λ b. ends))))) (ends))
b_suffixes ns false true = picks (tok ns (is_field false) refl (λ l. refl) (λ t. tok ns (is Name) refl (λ l. refl) (λ t. reads never (λ l. refl) (λ b. ends)))) (open_sign ns sign.OpenBracket (λ o. refl) (λ t. reads never (λ l. refl) (λ b. close_sign ns sign.OpenBracket sign.CloseBracket (λ o. refl) (λ t. reads never (λ l. refl) (λ b. ends)))))
b_suffixes ns false false = picks (tok ns (is_field false) refl (λ l. refl) (λ t. tok ns (is Name) refl (λ l. refl) (λ t. reads never (λ l. refl) (λ b. ends)))) (picks (open_sign ns sign.OpenBracket (λ o. refl) (λ t. reads never (λ l. refl) (λ b. close_sign ns sign.OpenBracket sign.CloseBracket (λ o. refl) (λ t. reads never (λ l. refl) (λ b. ends))))) (ends))

b_key_type : (ns : Names) → Balanced (at ns KeyType) None (form ns KeyType)
unfolding form
b_key_type ns = picks (tok ns (word_is keyword.Const) refl (λ l. refl) (λ t. reads never (λ l. refl) (λ b. tok ns (is_base true) refl (λ l. refl) (λ t. reads never (λ l. refl) (λ b. ends))))) (tok ns (is_key_base) refl (λ l. refl) (λ t. reads never (λ l. refl) (λ b. ends)))

b_cases : (ns : Names) → Balanced (at ns Cases) None (form ns Cases)
unfolding form
b_cases ns = picks (tok ns (word_is keyword.Case) refl (λ l. refl) (λ t. reads never (λ l. refl) (λ b. colon_sign ns refl (λ t. reads never (λ l. refl) (λ b. reads (λ e. refl) (λ l. refl) (λ b. ends)))))) (tok ns (word_is keyword.Default) refl (λ l. refl) (λ t. colon_sign ns refl (λ t. reads never (λ l. refl) (λ b. ends))))

b_body_named : (ns : Names) (t : Token) (b : Bool) → Balanced (at ns Body) None (body_named ns t b)
b_body_named ns t true = picks (reads never (λ l. refl) (λ b. reads (λ e. refl) (λ l. refl) (λ b. ends))) (reads (λ e. refl) (λ l. refl) (λ b. reads (λ e. refl) (λ l. refl) (λ b. ends)))
b_body_named ns t false = reads (λ e. refl) (λ l. refl) (λ b. reads (λ e. refl) (λ l. refl) (λ b. ends))

b_body : (ns : Names) → Balanced (at ns Body) None (form ns Body)
unfolding form
b_body ns = picks (reads never (λ l. refl) (λ b. tok ns (is Name) refl (λ l. refl) (λ t. tok ns (sign_is sign.Semicolon) refl (λ l. refl) (λ t. reads (λ e. refl) (λ l. refl) (λ b. ends))))) (picks (tok ns (is Name) refl (λ l. refl) (λ t. b_body_named ns t (can_be_type true (role_of ns t.bytes)))) (picks (reads never (λ l. refl) (λ b. reads (λ e. refl) (λ l. refl) (λ b. ends))) (ends)))

b_plain : (ns : Names) → Balanced (at ns PlainStmt) None (form ns PlainStmt)
unfolding form
b_plain ns = picks (tok ns (sign_is sign.Star) refl (λ l. refl) (λ t. reads never (λ l. refl) (λ b. tok ns (sign_is sign.Assign) refl (λ l. refl) (λ t. reads never (λ l. refl) (λ b. ends))))) (picks (open_sign ns sign.OpenParen (λ o. refl) (λ t. reads never (λ l. refl) (λ b. close_sign ns sign.OpenParen sign.CloseParen (λ o. refl) (λ t. reads never (λ l. refl) (λ b. ends))))) (picks (reads never (λ l. refl) (λ b. reads never (λ l. refl) (λ b. ends))) (picks (reads never (λ l. refl) (λ b. ends)) (picks (tok ns (word_is keyword.If) refl (λ l. refl) (λ t. open_sign ns sign.OpenParen (λ o. refl) (λ t. reads never (λ l. refl) (λ b. close_sign ns sign.OpenParen sign.CloseParen (λ o. refl) (λ t. picks (reads never (λ l. refl) (λ b. ends)) (reads never (λ l. refl) (λ b. reads never (λ l. refl) (λ b. ends)))))))) (picks (reads never (λ l. refl) (λ b. ends)) (picks (tok ns (word_is keyword.Switch) refl (λ l. refl) (λ t. open_sign ns sign.OpenParen (λ o. refl) (λ t. reads never (λ l. refl) (λ b. close_sign ns sign.OpenParen sign.CloseParen (λ o. refl) (λ t. open_sign ns sign.OpenBrace (λ o. refl) (λ t. reads (λ e o. refl) (λ l. refl) (λ b. close_sign ns sign.OpenBrace sign.CloseBrace (λ o. refl) (λ t. ends)))))))) (tok ns (word_is keyword.Return) refl (λ l. refl) (λ t. picks (tok ns (sign_is sign.Semicolon) refl (λ l. refl) (λ t. ends)) (reads never (λ l. refl) (λ b. tok ns (sign_is sign.Semicolon) refl (λ l. refl) (λ t. ends)))))))))))

b_row : (ns : Names) {w : What} (o : Option Expr) (n : Token) (b : Bool) (f : Stmt → tree_of w) → Balanced (at ns w) None (row_behind ns o n b f)
b_row ns o n false f = open_sign ns sign.OpenParen (λ o. refl) (λ t. reads never (λ l. refl) (λ b. close_sign ns sign.OpenParen sign.CloseParen (λ o. refl) (λ t. tok ns (sign_is sign.Semicolon) refl (λ l. refl) (λ t. ends))))
b_row ns o n true f = open_sign ns sign.OpenParen (λ o. refl) (λ t. reads never (λ l. refl) (λ b. reads never (λ l. refl) (λ b. close_sign ns sign.OpenParen sign.CloseParen (λ o. refl) (λ t. tok ns (sign_is sign.Semicolon) refl (λ l. refl) (λ t. ends)))))

b_label : (ns : Names) (t : Token) → Balanced (at ns (NamedStmt t)) None (label_behind ns t)
b_label ns t = colon_sign ns refl (λ t. tok ns (sign_is sign.Semicolon) refl (λ l. refl) (λ t. ends))

b_named : (ns : Names) (t : Token) (r : Role) → Balanced (at ns (NamedStmt t)) None (named_behind ns t r)
b_named ns t (TypeName m) = b_label ns t
b_named ns t (RowName b) = picks (b_label ns t) (b_row ns None t b (λ s. s))
b_named ns t VariableName = picks (b_label ns t) (reads never (λ l. refl) (λ b. ends))
b_named ns t FunctionName = picks (b_label ns t) (reads never (λ l. refl) (λ b. ends))
b_named ns t MemberName = picks (b_label ns t) (reads never (λ l. refl) (λ b. ends))
b_named ns t Unknown = picks (b_label ns t) (reads never (λ l. refl) (λ b. ends))

b_stored : (ns : Names) (v : Expr) (b : Bool) (a : Expr) → Balanced (at ns (ValueStmt v)) None (stored_behind ns b a (λ s. s))
b_stored ns v true a = picks (tok ns (sign_is sign.Assign) refl (λ l. refl) (λ t. reads never (λ l. refl) (λ b. ends))) (open_sign ns sign.OpenParen (λ o. refl) (λ t. reads never (λ l. refl) (λ b. close_sign ns sign.OpenParen sign.CloseParen (λ o. refl) (λ t. tok ns (sign_is sign.Semicolon) refl (λ l. refl) (λ t. ends)))))
b_stored ns v false a = open_sign ns sign.OpenParen (λ o. refl) (λ t. reads never (λ l. refl) (λ b. close_sign ns sign.OpenParen sign.CloseParen (λ o. refl) (λ t. tok ns (sign_is sign.Semicolon) refl (λ l. refl) (λ t. ends))))

b_value_stmt : (ns : Names) (a : Expr) → Balanced (at ns (ValueStmt a)) None (form ns (ValueStmt a))
unfolding form
b_value_stmt ns a = reads never (λ l. refl) (λ xs. b_stored ns a (is_place (suffixed a xs)) (suffixed a xs))

b_assigned_named : (ns : Names) (b : Expr) (t : Token) (r : Role) → Balanced (at ns (Assigned b)) None (assigned_named ns t r)
b_assigned_named ns b t (RowName c) = b_row ns (Some b) t c (λ s. s)
b_assigned_named ns b t (TypeName m) = reads never (λ l. refl) (λ b. ends)
b_assigned_named ns b t VariableName = reads never (λ l. refl) (λ b. ends)
b_assigned_named ns b t FunctionName = reads never (λ l. refl) (λ b. ends)
b_assigned_named ns b t MemberName = reads never (λ l. refl) (λ b. ends)
b_assigned_named ns b t Unknown = reads never (λ l. refl) (λ b. ends)

b_assigned : (ns : Names) (b : Expr) → Balanced (at ns (Assigned b)) None (form ns (Assigned b))
unfolding form
b_assigned ns b = picks (tok ns (name_with is_callee_role) refl (λ l. refl) (λ t. b_assigned_named ns b t (role_of ns t.bytes))) (picks (tok ns (is_prefix false) refl (λ l. refl) (λ t. reads never (λ l. refl) (λ b. reads never (λ l. refl) (λ b. tok ns (sign_is sign.Semicolon) refl (λ l. refl) (λ t. ends))))) (picks (tok ns (sign_is sign.Ampersand) refl (λ l. refl) (λ t. reads never (λ l. refl) (λ b. reads never (λ l. refl) (λ b. tok ns (sign_is sign.Semicolon) refl (λ l. refl) (λ t. ends))))) (picks (open_sign ns sign.OpenParen (λ o. refl) (λ t. picks (reads never (λ l. refl) (λ b. close_sign ns sign.OpenParen sign.CloseParen (λ o. refl) (λ t. reads never (λ l. refl) (λ b. reads never (λ l. refl) (λ b. tok ns (sign_is sign.Semicolon) refl (λ l. refl) (λ t. ends)))))) (reads never (λ l. refl) (λ b. close_sign ns sign.OpenParen sign.CloseParen (λ o. refl) (λ t. reads never (λ l. refl) (λ b. ends)))))) (reads never (λ l. refl) (λ b. reads never (λ l. refl) (λ b. ends))))))

b_parameters : (ns : Names) (main : Bool) → Balanced (at ns (ParametersOf main)) None (form ns (ParametersOf main))
unfolding form
b_parameters ns true = reads never (λ l. refl) (λ b. reads never (λ l. refl) (λ b. tok ns (sign_is sign.Comma) refl (λ l. refl) (λ t. reads never (λ l. refl) (λ b. reads never (λ l. refl) (λ b. ends)))))
b_parameters ns false = picks (tok ns (word_is keyword.Void) refl (λ l. refl) (λ t. picks (reads never (λ l. refl) (λ b. reads never (λ l. refl) (λ b. reads never (λ l. refl) (λ b. ends)))) (ends))) (picks (tok ns (word_is keyword.Const) refl (λ l. refl) (λ t. reads never (λ l. refl) (λ b. tok ns (is_base true) refl (λ l. refl) (λ t. reads never (λ l. refl) (λ b. reads never (λ l. refl) (λ b. reads never (λ l. refl) (λ b. ends))))))) (tok ns (is_other_base) refl (λ l. refl) (λ t. reads never (λ l. refl) (λ b. reads never (λ l. refl) (λ b. reads never (λ l. refl) (λ b. ends))))))

b_table_inside : (ns : Names) → Balanced (at ns TableInside) None (form ns TableInside)
unfolding form
b_table_inside ns = open_sign ns sign.OpenParen (λ o. refl) (λ t. raw_tok (λ x i. and_first (is_any_name x) (bytes_eq x.bytes (codes "GInterfaceInitFunc")) i) (λ l. refl) (λ t. close_sign ns sign.OpenParen sign.CloseParen (λ o. refl) (λ t. tok ns (is Name) refl (λ l. refl) (λ t. tok ns (sign_is sign.Comma) refl (λ l. refl) (λ t. tok ns (is Null) refl (λ l. refl) (λ t. tok ns (sign_is sign.Comma) refl (λ l. refl) (λ t. tok ns (is Null) refl (λ l. refl) (λ t. ends))))))))

b_declared_end : (ns : Names) {w : What} (b : Bool) (s : CSignature) (f : Item → tree_of w) → Balanced (at ns w) None (declared_end ns b s f)
b_declared_end ns true s f = picks (tok ns (sign_is sign.Semicolon) refl (λ l. refl) (λ t. ends)) (reads never (λ l. refl) (λ b. ends))
b_declared_end ns false s f = tok ns (sign_is sign.Semicolon) refl (λ l. refl) (λ t. ends)

b_declared : (ns : Names) (b : Bool) (c : CType) (n : Token) (from : ℕ) → Balanced (at ns (DeclaredOf b c n from)) None (form ns (DeclaredOf b c n from))
unfolding form
b_declared ns b c n from = open_sign ns sign.OpenParen (λ o. refl) (λ o. reads never (λ l. refl) (λ ps. close_sign ns sign.OpenParen sign.CloseParen (λ o. refl) (λ s. b_declared_end ns (list_all has_name ps) (signature b c n ps from s) (λ i. i))))

b_typed_end : (ns : Names) (c : CType) → Balanced (at ns (TypedEnd c)) None (form ns (TypedEnd c))
unfolding form
b_typed_end ns c = raw_tok (λ x i. and_first (is_any_name x) (not (is_main x.bytes) || is_int ns c) i) (λ l. refl) (λ n. reads never (λ l. refl) (λ b. ends))

b_static_named : (ns : Names) (t : Token) (c : CType) (n : Token) (object main : Bool) → Balanced (at ns (StaticEnd t c)) None (static_named ns t c n object main)
b_static_named ns t c n true false = picks (tok ns (sign_is sign.Assign) refl (λ l. refl) (λ t. reads never (λ l. refl) (λ b. tok ns (sign_is sign.Semicolon) refl (λ l. refl) (λ t. ends)))) (reads never (λ l. refl) (λ b. ends))
b_static_named ns t c n true true = tok ns (sign_is sign.Assign) refl (λ l. refl) (λ t. reads never (λ l. refl) (λ b. tok ns (sign_is sign.Semicolon) refl (λ l. refl) (λ t. ends)))
b_static_named ns t c n false main = reads never (λ l. refl) (λ b. ends)

b_static_end : (ns : Names) (t : Token) (c : CType) → Balanced (at ns (StaticEnd t c)) None (form ns (StaticEnd t c))
unfolding form
b_static_end ns t c = raw_tok (λ x i. and_first (is_any_name x) (not (is_main x.bytes) || is_object c) i) (λ l. refl) (λ n. b_static_named ns t c n (is_object c) (is_main n.bytes))

b_info_named : (ns : Names) (t k i n : Token) (c : CType) (object main : Bool) → Balanced (at ns (InfoEnd t k i)) None (info_named ns t k i n c object main)
b_info_named ns t k i n c true false = picks (tok ns (sign_is sign.Assign) refl (λ l. refl) (λ t. picks (open_sign ns sign.OpenBrace (λ o. refl) (λ t. reads never (λ l. refl) (λ b. close_sign ns sign.OpenBrace sign.CloseBrace (λ o. refl) (λ t. tok ns (sign_is sign.Semicolon) refl (λ l. refl) (λ t. ends))))) (reads never (λ l. refl) (λ b. tok ns (sign_is sign.Semicolon) refl (λ l. refl) (λ t. ends))))) (reads never (λ l. refl) (λ b. ends))
b_info_named ns t k i n c true true = tok ns (sign_is sign.Assign) refl (λ l. refl) (λ t. picks (open_sign ns sign.OpenBrace (λ o. refl) (λ t. reads never (λ l. refl) (λ b. close_sign ns sign.OpenBrace sign.CloseBrace (λ o. refl) (λ t. tok ns (sign_is sign.Semicolon) refl (λ l. refl) (λ t. ends))))) (reads never (λ l. refl) (λ b. tok ns (sign_is sign.Semicolon) refl (λ l. refl) (λ t. ends))))
b_info_named ns t k i n c false main = reads never (λ l. refl) (λ b. ends)

b_info_behind : (ns : Names) (t k i : Token) (c : CType) (b : Bool) → Balanced (at ns (InfoEnd t k i)) None (info_behind ns t k i c b)
b_info_behind ns t k i c true = picks (reads never (λ l. refl) (λ b. reads never (λ l. refl) (λ b. ends))) (raw_tok (λ x i. and_first (is_any_name x) (not (is_main x.bytes) || is_object c) i) (λ l. refl) (λ n. b_info_named ns t k i n c (is_object c) (is_main n.bytes)))
b_info_behind ns t k i c false = tok ns (is Name) refl (λ l. refl) (λ t. tok ns (sign_is sign.Assign) refl (λ l. refl) (λ t. open_sign ns sign.OpenBrace (λ o. refl) (λ t. reads never (λ l. refl) (λ b. close_sign ns sign.OpenBrace sign.CloseBrace (λ o. refl) (λ t. tok ns (sign_is sign.Semicolon) refl (λ l. refl) (λ t. ends))))))

b_static_const : (ns : Names) (t k i : Token) (b : Bool) → Balanced (at ns (StaticRest t)) None (static_const ns t k i b)
b_static_const ns t k i true = reads never (λ l. refl) (λ b. ends)
b_static_const ns t k i false = reads never (λ l. refl) (λ b. reads never (λ l. refl) (λ b. ends))

b_static_rest : (ns : Names) (t : Token) → Balanced (at ns (StaticRest t)) None (form ns (StaticRest t))
unfolding form
b_static_rest ns t = picks (tok ns (word_is keyword.Const) refl (λ l. refl) (λ k. picks (raw_tok (λ x i. and_first (is_any_name x) (bytes_eq x.bytes (codes "GInterfaceInfo") || on ns (name_with (can_be_type true)) x) i) (λ l. refl) (λ i. b_static_const ns t k i (bytes_eq i.bytes (codes "GInterfaceInfo")))) (picks (tok ns (word_is keyword.Const) refl (λ l. refl) (λ t. reads never (λ l. refl) (λ b. tok ns (is_base true) refl (λ l. refl) (λ t. reads never (λ l. refl) (λ b. reads never (λ l. refl) (λ b. ends)))))) (tok ns (is_key_base) refl (λ l. refl) (λ t. reads never (λ l. refl) (λ b. reads never (λ l. refl) (λ b. ends))))))) (tok ns (is_base true) refl (λ l. refl) (λ t. reads never (λ l. refl) (λ b. reads never (λ l. refl) (λ b. ends))))

b_typedef : (ns : Names) (t : Token) → Balanced (at ns (TypedefRest t)) None (form ns (TypedefRest t))
unfolding form
b_typedef ns t = picks (tok ns (word_is keyword.Struct) refl (λ l. refl) (λ t. raw_tok (λ x i. and_first (is_any_name x) (begins_low x.bytes) i) (λ l. refl) (λ g. raw_tok (λ x i. and_first (is_any_name x) (bytes_eq x.bytes (behind_first g.bytes)) i) (λ l. refl) (λ n. tok ns (sign_is sign.Semicolon) refl (λ l. refl) (λ t. ends))))) (picks (tok ns (word_is keyword.Enum) refl (λ l. refl) (λ t. open_sign ns sign.OpenBrace (λ o. refl) (λ t. reads never (λ l. refl) (λ b. close_sign ns sign.OpenBrace sign.CloseBrace (λ o. refl) (λ t. tok ns (is Name) refl (λ l. refl) (λ t. tok ns (sign_is sign.Semicolon) refl (λ l. refl) (λ t. ends))))))) (reads never (λ l. refl) (λ b. open_sign ns sign.OpenParen (λ o. refl) (λ t. tok ns (sign_is sign.Star) refl (λ l. refl) (λ t. tok ns (is Name) refl (λ l. refl) (λ t. close_sign ns sign.OpenParen sign.CloseParen (λ o. refl) (λ t. open_sign ns sign.OpenParen (λ o. refl) (λ t. reads never (λ l. refl) (λ b. close_sign ns sign.OpenParen sign.CloseParen (λ o. refl) (λ t. tok ns (sign_is sign.Semicolon) refl (λ l. refl) (λ t. ends)))))))))))

b_item : (ns : Names) (line : Bool) → Balanced (at ns (ItemOf line)) None (form ns (ItemOf line))
unfolding form
b_item ns true = picks (tok ns (begins_include) refl (λ l. refl) (λ t. raw_tok (λ x i. and_first (is_any_name x) (bytes_eq x.bytes (codes "include")) (and_first (is_name_of (codes "include") x) (not x.begins_line) i)) (λ l. refl) (λ i. tok ns (is File) refl (λ l. refl) (λ t. ends)))) (picks (tok ns (on_line true (word_is keyword.Typedef)) refl (λ l. refl) (λ t. reads never (λ l. refl) (λ b. ends))) (picks (tok ns (on_line true (word_is keyword.Struct)) refl (λ l. refl) (λ t. raw_tok (λ x i. and_first (is_any_name x) (begins_low x.bytes) i) (λ l. refl) (λ g. open_sign ns sign.OpenBrace (λ o. refl) (λ t. reads never (λ l. refl) (λ b. close_sign ns sign.OpenBrace sign.CloseBrace (λ o. refl) (λ t. tok ns (sign_is sign.Semicolon) refl (λ l. refl) (λ t. ends))))))) (picks (tok ns (on_line true (word_is keyword.Static)) refl (λ l. refl) (λ t. reads never (λ l. refl) (λ b. ends))) (picks (tok ns (on_line true (word_is keyword.Const)) refl (λ l. refl) (λ t. reads never (λ l. refl) (λ b. tok ns (is_base true) refl (λ l. refl) (λ t. reads never (λ l. refl) (λ b. reads never (λ l. refl) (λ b. ends)))))) (tok ns (on_line true (is_base true)) refl (λ l. refl) (λ t. reads never (λ l. refl) (λ b. reads never (λ l. refl) (λ b. ends))))))))
b_item ns false = picks (tok ns (begins_include) refl (λ l. refl) (λ t. raw_tok (λ x i. and_first (is_any_name x) (bytes_eq x.bytes (codes "include")) (and_first (is_name_of (codes "include") x) (not x.begins_line) i)) (λ l. refl) (λ i. tok ns (is File) refl (λ l. refl) (λ t. ends)))) (picks (tok ns (on_line false (word_is keyword.Typedef)) refl (λ l. refl) (λ t. reads never (λ l. refl) (λ b. ends))) (picks (tok ns (on_line false (word_is keyword.Struct)) refl (λ l. refl) (λ t. raw_tok (λ x i. and_first (is_any_name x) (begins_low x.bytes) i) (λ l. refl) (λ g. open_sign ns sign.OpenBrace (λ o. refl) (λ t. reads never (λ l. refl) (λ b. close_sign ns sign.OpenBrace sign.CloseBrace (λ o. refl) (λ t. tok ns (sign_is sign.Semicolon) refl (λ l. refl) (λ t. ends))))))) (picks (tok ns (on_line false (word_is keyword.Static)) refl (λ l. refl) (λ t. reads never (λ l. refl) (λ b. ends))) (picks (tok ns (on_line false (word_is keyword.Const)) refl (λ l. refl) (λ t. reads never (λ l. refl) (λ b. tok ns (is_base true) refl (λ l. refl) (λ t. reads never (λ l. refl) (λ b. reads never (λ l. refl) (λ b. ends)))))) (tok ns (on_line false (is_base true)) refl (λ l. refl) (λ t. reads never (λ l. refl) (λ b. reads never (λ l. refl) (λ b. ends))))))))

balanced : (ns : Names) (w : What) → Balanced (at ns w) None (form ns w)
unfolding form
balanced ns Consts = b_consts ns
balanced ns (Stars must) = b_stars ns must
balanced ns (TypeRest u t must) = b_type_rest ns u t must
balanced ns (TypeMore u t) = b_type_more ns u t
balanced ns (AnyType anyhow object) = b_any_type ns anyhow object
balanced ns (Value c) = reads never (λ l. refl) (λ b. ends)
balanced ns (Choosing c) = reads never (λ l. refl) (λ b. reads never (λ l. refl) (λ b. ends))
balanced ns (ChoosingTail c a) = b_choosing_tail ns c a
balanced ns (Upto l c a) = b_upto ns c l a (tighter l)
balanced ns (Links l c) = b_links ns l c
balanced ns (Operand l c) = b_operand ns l c
balanced ns (Prefixed c) = b_prefixed ns c
balanced ns Place = b_place ns
balanced ns (Primary c) = b_primary ns c
balanced ns Unnamed = b_unnamed ns
balanced ns (Suffixes dot must) = b_suffixes ns dot must
balanced ns Arguments = picks (reads never (λ l. refl) (λ b. reads never (λ l. refl) (λ b. ends))) (ends)
balanced ns MoreArguments = picks (tok ns (sign_is sign.Comma) refl (λ l. refl) (λ t. reads never (λ l. refl) (λ b. reads never (λ l. refl) (λ b. ends)))) (ends)
balanced ns KeyType = b_key_type ns
balanced ns LocalOf = reads never (λ l. refl) (λ b. tok ns (is Name) refl (λ l. refl) (λ t. tok ns (sign_is sign.Semicolon) refl (λ l. refl) (λ t. ends)))
balanced ns (LocalRest t) = picks (reads never (λ l. refl) (λ b. tok ns (is Name) refl (λ l. refl) (λ t. tok ns (sign_is sign.Semicolon) refl (λ l. refl) (λ t. ends)))) (tok ns (is Name) refl (λ l. refl) (λ t. tok ns (sign_is sign.Semicolon) refl (λ l. refl) (λ t. ends)))
balanced ns SignedNumberOf = picks (tok ns (sign_is sign.Minus) refl (λ l. refl) (λ t. tok ns (is Number) refl (λ l. refl) (λ t. ends))) (tok ns (is Number) refl (λ l. refl) (λ t. ends))
balanced ns GotoOf = tok ns (word_is keyword.Goto) refl (λ l. refl) (λ t. tok ns (is Name) refl (λ l. refl) (λ t. tok ns (sign_is sign.Semicolon) refl (λ l. refl) (λ t. ends)))
balanced ns Cases = b_cases ns
balanced ns BlockOf = open_sign ns sign.OpenBrace (λ o. refl) (λ t. reads (λ e o. refl) (λ l. refl) (λ b. close_sign ns sign.OpenBrace sign.CloseBrace (λ o. refl) (λ t. ends)))
balanced ns Body = b_body ns
balanced ns Statements = picks (reads (λ e. refl) (λ l. refl) (λ b. reads (λ e. refl) (λ l. refl) (λ b. ends))) (ends)
balanced ns Statement = picks (tok ns (is Name) refl (λ l. refl) (λ t. reads (λ e. refl) (λ l. refl) (λ b. ends))) (reads never (λ l. refl) (λ b. ends))
balanced ns PlainStmt = b_plain ns
balanced ns (NamedStmt t) = b_named ns t (role_of ns t.bytes)
balanced ns (ValueStmt a) = b_value_stmt ns a
balanced ns (Assigned b) = b_assigned ns b
balanced ns (AssignedTail b a) = reads never (λ l. refl) (λ b. picks (open_sign ns sign.OpenParen (λ o. refl) (λ t. reads never (λ l. refl) (λ b. close_sign ns sign.OpenParen sign.CloseParen (λ o. refl) (λ t. tok ns (sign_is sign.Semicolon) refl (λ l. refl) (λ t. ends))))) (reads never (λ l. refl) (λ b. tok ns (sign_is sign.Semicolon) refl (λ l. refl) (λ t. ends))))
balanced ns (ElseOf a b) = picks (tok ns (word_is keyword.Else) refl (λ l. refl) (λ t. reads never (λ l. refl) (λ b. ends))) (ends)
balanced ns MemberOf = tok ns (is Name) refl (λ l. refl) (λ t. tok ns (sign_is sign.Assign) refl (λ l. refl) (λ t. reads never (λ l. refl) (λ b. ends)))
balanced ns Members = reads never (λ l. refl) (λ b. reads never (λ l. refl) (λ b. ends))
balanced ns MoreMembers = picks (tok ns (sign_is sign.Comma) refl (λ l. refl) (λ t. reads never (λ l. refl) (λ b. reads never (λ l. refl) (λ b. ends)))) (ends)
balanced ns Fields = picks (reads never (λ l. refl) (λ b. reads never (λ l. refl) (λ b. ends))) (ends)
balanced ns ParameterOf = reads never (λ l. refl) (λ b. reads never (λ l. refl) (λ b. ends))
balanced ns (ParameterEnd c) = picks (tok ns (is Name) refl (λ l. refl) (λ t. ends)) (ends)
balanced ns MoreParameters = picks (tok ns (sign_is sign.Comma) refl (λ l. refl) (λ t. reads never (λ l. refl) (λ b. reads never (λ l. refl) (λ b. ends)))) (ends)
balanced ns (ParametersOf main) = b_parameters ns main
balanced ns IntType = picks (tok ns (word_is keyword.Const) refl (λ l. refl) (λ t. reads never (λ l. refl) (λ b. tok ns (is_int_base) refl (λ l. refl) (λ t. reads never (λ l. refl) (λ b. ends))))) (tok ns (is_int_base) refl (λ l. refl) (λ t. reads never (λ l. refl) (λ b. ends)))
balanced ns TextsType = picks (tok ns (word_is keyword.Const) refl (λ l. refl) (λ t. reads never (λ l. refl) (λ b. tok ns (is_char_base) refl (λ l. refl) (λ t. reads never (λ l. refl) (λ b. tok ns (sign_is sign.Star) refl (λ l. refl) (λ t. reads never (λ l. refl) (λ b. tok ns (sign_is sign.Star) refl (λ l. refl) (λ t. reads never (λ l. refl) (λ b. ends))))))))) (tok ns (is_char_base) refl (λ l. refl) (λ t. reads never (λ l. refl) (λ b. tok ns (sign_is sign.Star) refl (λ l. refl) (λ t. reads never (λ l. refl) (λ b. tok ns (sign_is sign.Star) refl (λ l. refl) (λ t. reads never (λ l. refl) (λ b. ends)))))))
balanced ns TableInside = b_table_inside ns
balanced ns (DeclaredOf b c n from) = b_declared ns b c n from
balanced ns (TypedEnd c) = b_typed_end ns c
balanced ns (StaticEnd t c) = b_static_end ns t c
balanced ns (InfoEnd t k i) = b_info_behind ns t k i (type_of (k ∷ []) i [] no_stars) (can_be_type true (role_of ns i.bytes))
balanced ns (StaticRest t) = b_static_rest ns t
balanced ns (TypedefRest t) = b_typedef ns t
balanced ns (ItemOf line) = b_item ns line
balanced ns (ItemsOf line) = picks (reads never (λ l. refl) (λ b. reads never (λ l. refl) (λ b. ends))) (ends)

-- the letters of items are counted, and below the limit they are shallow
pub counted_items : (ns : Names) (w : letters.Word C) (is : List Item) → Reads C forms None (at ns (ItemsOf false)) 0 w is → Counted [] w
counted_items ns w is d = (keeps (λ (q : Part). balanced q.names q.what) (balanced ns (ItemsOf false)) d [] refl (λ e. never e)).counted

pub front_shallow : (w : letters.Word C) → Counted [] w → IsWithin c_limits w → is_shallow [] (raw w) ≡ true
front_shallow w c i = within_shallow (λ (q : Part). balanced q.names q.what) [] w c i

pub levels_are_counted : LevelsAreCounted
levels_are_counted ns w is d =
    let h = keeps (λ (q : Part). balanced q.names q.what) (balanced ns (ItemsOf false)) d [] refl (λ e. never e) in
    ((λ i. within_shallow (λ (q : Part). balanced q.names q.what) [] w h.counted i), (λ i. shallow_within (λ (q : Part). balanced q.names q.what) [] w h.counted i))

pub counted_front : (o : Open) (u w : letters.Word C) → Counted o (u ++ w) → Counted o u
counted_front o [] w c = tt
counted_front o (x ∷ u) w c = (c.0, c.1, counted_front (with_terminal o x.token.terminal) u w c.2)

-- the same of the front of a text
pub fronts_are_counted : (ns : Names) (w z : letters.Word C) (is : List Item) → Reads C forms None (at ns (ItemsOf false)) 0 (w ++ z) is → IsWithin c_limits w ↔ (is_shallow [] (raw w) ≡ true)
fronts_are_counted ns w z is d =
    let c = counted_front [] w z (counted_items ns (w ++ z) is d) in ((λ i. within_shallow (λ (q : Part). balanced q.names q.what) [] w c i), (λ i. shallow_within (λ (q : Part). balanced q.names q.what) [] w c i))

counted_last : (o : Open) (w : letters.Word C) (x : letters.Letter Token) → Counted o (w ++ x ∷ []) → x.items ≡ 0
counted_last o [] x c = c.1
counted_last o (y ∷ w) x c = counted_last (with_terminal o y.token.terminal) w x c.2

-- no letter begins a further item of a list
pub none_begins_items : (ns : Names) (w : letters.Word C) (x : letters.Letter Token) (z : letters.Word C) (is : List Item) → Reads C forms None (at ns (ItemsOf false)) 0 ((w ++ x ∷ []) ++ z) is → x.items ≡ 0
none_begins_items ns w x z is d = counted_last [] w x (counted_front [] (w ++ x ∷ []) z (counted_items ns ((w ++ x ∷ []) ++ z) is d))
