-- Forms of declarations fit whatever words stand in front.
use Rattle.std.proofs.Common.{◌≡◌, Bool, true, false, not, ◌&&◌, ◌||◌, List, [], ◌∷◌, Option, Some, None, refl, sym, ap, ◌∙◌, true≢false}
use Rattle.std.specs.List.{list_any}
use Rattle.predictive_grammar.specs.Forms.{Form}
use Rattle.predictive_grammar.specs.Fit.{Within, Apart}
use Rattle.predictive_grammar.proofs.Sets.{Disjoint, within, and_first, and_second, or_left, or_right, or_case}
use Rattle.predictive_grammar.proofs.Fits.{Fits, either, Nones, Each, avoids, where_token, barred, widen_by}
use Rattle.vala_lexer.specs.Tokens.{Lexeme}
use Rattle.vala_tree.specs.declared.member.Modifier.{Modifier}
use Rattle.vala_grammar.specs.declared.sort.Sort.{Sort}
use Rattle.vala_grammar.specs.declared.sort.Sort.TheVariants as s
use Rattle.vala_grammar.specs.Tests.{is, among}
use Rattle.vala_grammar.proofs.Finite.{is_same}
use Rattle.vala_file_grammar.specs.Kinds.{Kind, Of, sort_in, sorted}
use Rattle.vala_file_grammar.specs.Heads.{HeadKind, is_modifier, is_overriding_word, is_field_word, any_word, is_overriding, is_async_word, repeats, clashes, may_follow, may_follow_in_struct, modifiers, any_follows}
use Rattle.vala_file_grammar.specs.Parts.{FilePart, file_tree_of}
use Rattle.vala_file_grammar.specs.Embed.{F}
use Rattle.vala_file_grammar.specs.Grammar.{where_some, where_right}
use Rattle.vala_file_grammar.proofs.Finite.{checks, shape}
use Rattle.vala_file_grammar.proofs.Tables.{tabled}

-- ---- a token that tells the kind of a declaration

turned : (f g : Kind → Bool) → Within (either f g) (either g f)
turned f g x e = or_case (f x) (g x) e (λ i. or_right (g x) (f x) i) (λ i. or_left (g x) (f x) i)

pub told_fits : {r : FilePart} {moved : Bool} {h : Kind → Bool} {k : Lexeme → Form F r} {other : Form F r} {f : Lexeme → Kind → Bool} {y : Lexeme → Nones (file_tree_of r)} {z : Nones (file_tree_of r)}
    (d : HeadKind) (o : Option Modifier) (x : Sort) → sorted x (shape (Of x)) ≡ true → ((t : Lexeme) → Fits tabled r true (f t) (y t) (k t)) → Fits tabled r moved h z other
    → Disjoint checks h (sorted x) → Each z (avoids tabled r (sorted x)) → Fits tabled r moved (either (sorted x) h) z (where_right d o x k other)
told_fits d None x e rest fit disjoint stops = where_token (Of x) e rest fit disjoint stops
told_fits {h = h} d (Some m) x e rest fit disjoint stops = widen_by tabled (barred fit disjoint stops) (turned h (sorted x)) (λ a i. i)

-- ---- a word, where one may follow

found_in : (p : Sort → Bool) (xs : List Sort) → list_any p xs ≡ true → (x : Sort) × (p x ≡ true)
found_in p [] e = absurd (true≢false (sym e))
found_in p (x ∷ xs) e = or_case (p x) (list_any p xs) e (λ i. (x, i)) (λ i. found_in p xs i)

pub some_fits : {r : FilePart} {h : Kind → Bool} (test : Kind → Bool) {k : Lexeme → Form F r} {other : Form F r} {f : Lexeme → Kind → Bool} {y : Lexeme → Nones (file_tree_of r)} {z : Nones (file_tree_of r)}
    {moved : Bool} (b : Bool) → (b ≡ true → (x : Sort) × (test (shape (Of x)) ≡ true)) → ((t : Lexeme) → Fits tabled r true (f t) (y t) (k t)) → Fits tabled r moved h z other
    → Disjoint checks h test → Each z (avoids tabled r test) → Fits tabled r moved (either test h) z (where_some b test k other)
some_fits test true found rest fit disjoint stops = let w = found refl in where_token (Of w.0) w.1 rest fit disjoint stops
some_fits {h = h} test false found rest fit disjoint stops = widen_by tabled fit (λ x i. or_right (test x) (h x) i) (λ a i. i)

pub word_found : (may : List Modifier → Kind → Bool) (ms : List Modifier) → any_follows may ms ≡ true → (x : Sort) × (may ms (shape (Of x)) ≡ true)
word_found may ms e = found_in (λ x. may ms (record { base = Of x; text = [] })) modifiers e

-- ---- words that follow others

negative : (a b : Bool) → not (a || b) ≡ true → b ≡ false
negative true b e = absurd (true≢false (sym e))
negative false true e = absurd (true≢false (sym e))
negative false false e = refl

-- no word that follows is left out
pub follows_apart : (ms : List Modifier) → Apart (may_follow ms) (clashes ms)
follows_apart ms x e = negative (repeats ms x) (clashes ms x) (and_second (is_modifier x) (not (repeats ms x || clashes ms x)) e)

pub follows_is_word : (ms : List Modifier) → Within (may_follow ms) is_modifier
follows_is_word ms x e = and_first (is_modifier x) (not (repeats ms x || clashes ms x)) e

pub clash_is_word : (ms : List Modifier) → Within (clashes ms) is_modifier
clash_is_word ms x e =
    or_case (sorted s.Async x && any_word is_overriding ms) (is_overriding_word x && any_word is_async_word ms) e
    (λ i. within checks (sorted s.Async) is_modifier refl x (and_first (sorted s.Async x) (any_word is_overriding ms) i))
    (λ i. within checks is_overriding_word is_modifier refl x (and_first (is_overriding_word x) (any_word is_async_word ms) i))

pub field_word_is_word : (ms : List Modifier) → Within (may_follow_in_struct ms) is_modifier
field_word_is_word ms x e = within checks is_field_word is_modifier refl x (and_first (is_field_word x) (not (repeats ms x)) e)

-- both within a third
pub either_within : (f g h : Kind → Bool) → Within f h → Within g h → Within (either f g) h
either_within f g h a b x e = or_case (f x) (g x) e (λ i. a x i) (λ i. b x i)

pub either_apart : (f g h : Kind → Bool) → Apart f h → Apart g h → Apart (either f g) h
either_apart f g h a b x e = or_case (f x) (g x) e (λ i. a x i) (λ i. b x i)

pub through : (f g h : Kind → Bool) → Within f g → Within g h → Within f h
through f g h a b x e = b x (a x e)

pub apart_through : (f g h : Kind → Bool) → Within f g → Apart g h → Apart f h
apart_through f g h a b x e = b x (a x e)

-- ---- where none may follow, none of the tokens is one

among_any : (p : Sort → Bool) (ys : List Sort) (y : Sort) → among ys y ≡ true → p y ≡ true → list_any p ys ≡ true
among_any p [] y e f = absurd (true≢false (sym e))
among_any p (x ∷ ys) y e f =
    or_case (is x y) (among ys y) e (λ i. or_left (p x) (list_any p ys) (ap p (is_same x y i) ∙ f)) (λ i. or_right (p x) (list_any p ys) (among_any p ys y i f))

not_any : (a b : Bool) → (a ≡ true → b ≡ true) → b ≡ false → a ≡ false
not_any true b f e = absurd (true≢false (sym (f refl) ∙ e))
not_any false b f e = refl

pub none_follows : (ms : List Modifier) (x : Kind) → any_follows may_follow ms ≡ false → may_follow ms x ≡ false
none_follows ms x e =
    not_any (may_follow ms x) (any_follows may_follow ms) (λ i. among_any (λ y. may_follow ms (record { base = Of y; text = [] })) modifiers (sort_in x) (follows_is_word ms x i) i) e

pub none_follows_in_struct : (ms : List Modifier) (x : Kind) → any_follows may_follow_in_struct ms ≡ false → may_follow_in_struct ms x ≡ false
none_follows_in_struct ms x e =
    not_any (may_follow_in_struct ms x) (any_follows may_follow_in_struct ms)
    (λ i. among_any (λ y. may_follow_in_struct ms (record { base = Of y; text = [] })) modifiers (sort_in x) (field_word_is_word ms x i) i) e
