-- The text literals of a value begin with tokens of its own, in order.
use Rattle.std.proofs.Common.{◌≡◌, refl, sym, subst, ℕ, Bool, List, [], ◌∷◌, ◌++◌, map, append_assoc}
use Rattle.c_tree.specs.declared.names.Span.{Span}
use Rattle.c_tree.specs.declared.operators.BinaryOperator.{BinaryOperator}
use Rattle.c_tree.specs.declared.code.Expr.{Expr}
use Rattle.c_tree.specs.declared.code.Link.{Link}
use Rattle.c_tree.specs.declared.code.Choice.{Choice}
use Rattle.c_tree.specs.declared.code.Suffix.{Suffix}
use Rattle.c_tree.specs.declared.code.Shape.{Shape, out-Shape}
use Rattle.c_tree.specs.declared.code.Shape.TheOpen.{Shape-F, Suffix-F}
use Rattle.c_tree.specs.Names.{Names}
use Rattle.c_tree.specs.Words.{Token, Word, at, join}
use Rattle.c_tree.specs.Make.{name_at, expr, shape_of, span_of, bracketed, link, choice}
use Rattle.c_tree.specs.Values as v
use Rattle.c_tree.specs.Values.{Part, Value, Choosing, Chained, Links, Operand, Prefixed, Postfixed, Suffixes, Primary, Arguments, MoreArguments, tree_of}
use Rattle.c_meaning.specs.State.{Literal}
use Rattle.c_meaning.specs.Code.{link_texts, all_texts, shape_texts, texts_of}
use Rattle.c_places.proofs.Picks.{Picks, none, take, pass, append, nothing, behind, literal_place}
use Rattle.c_places.proofs.Unfold.{Level, shape_at, literal_layer, suffix_literals, choice_literals, link_literals, texts_at, level_out, link_at, choice_at, suffix_literals_at, chained_texts, prefixed_texts, suffixed_texts, conditional_texts}

-- literals begin with tokens of a word
abbrev pub Stand : List Literal → Word → Type 0
Stand = Picks literal_place

-- the literals of what is read
abbrev pub literals_in : (p : Part) → tree_of p → List Literal
literals_in Choosing x = link_texts (map choice_literals x.0) ++ texts_of x.1
literals_in (Links l) ls = link_texts (map link_literals ls)
literals_in Prefixed x = texts_of x.1
literals_in Suffixes xs = link_texts (map suffix_literals xs)
literals_in Arguments xs = all_texts texts_of xs
literals_in MoreArguments xs = all_texts texts_of xs
literals_in Value e = texts_of e
literals_in (Chained l) e = texts_of e
literals_in (Operand l) e = texts_of e
literals_in Postfixed e = texts_of e
literals_in Primary e = texts_of e

by : {xs ys : List Literal} {w : Word} → xs ≡ ys → Stand ys w → Stand xs w
by {w} e s = subst (λ (z : List Literal). Stand z w) (sym e) s

-- a level that stands where a token begins
in_brackets : (l : Level) (m : ℕ) (t : Token) (w : Word) → Stand (shape_texts l m) w → Stand (shape_texts l t.start) (t ∷ w)
in_brackets (Shape-F.Text z) m t w s = take (record { start = t.start; bytes = z }) t refl (nothing w)
in_brackets l m t w s = pass t s

bracketed_stands : (t s : Token) (w : Word) (e : Expr) → Stand (texts_of e) w → Stand (texts_of (bracketed (join (at t) (at s)) e)) (t ∷ w)
bracketed_stands t s w e h =
    by (level_out (bracketed (join (at t) (at s)) e))
    (in_brackets (literal_layer (out-Shape (shape_of e))) (span_of e).start t w (subst (λ (z : List Literal). Stand z w) (level_out e) h))

-- a level without literals
plain_stands : (l : Shape-F Shape Suffix Choice Expr Link) (o : Span) (w : Word) → shape_texts (literal_layer l) o.start ≡ [] → Stand (texts_of (expr (shape_at l) o)) w
plain_stands l o w e = by (texts_at l o) (by e (nothing w))

choice_stands : (a b : Expr) (cs : List Choice) (e : Expr) {w : Word} → Stand ((texts_of a ++ texts_of b) ++ (link_texts (map choice_literals cs) ++ texts_of e)) w
    → Stand (literals_in Choosing (choice a b ∷ cs, e)) w
choice_stands a b cs e {w} s = subst (λ (z : List Literal). Stand (z ++ link_texts (map choice_literals cs) ++ texts_of e) w) (sym (choice_at a b))
    (by (append_assoc (texts_of a ++ texts_of b) (link_texts (map choice_literals cs)) (texts_of e)) s)

link_stands : (o : BinaryOperator) (b : Expr) (ls : List Link) {w : Word} → Stand (texts_of b ++ link_texts (map link_literals ls)) w
    → Stand (link_texts (map link_literals (link o b ∷ ls))) w
link_stands o b ls {w} s = subst (λ (z : List Literal). Stand (z ++ link_texts (map link_literals ls)) w) (sym (link_at o b)) s

suffix_stands : (x : Suffix) (z : List Literal) (xs : List Suffix) {w : Word} → suffix_literals x ≡ z
    → Stand (z ++ link_texts (map suffix_literals xs)) w → Stand (literals_in Suffixes (x ∷ xs)) w
suffix_stands x z xs {w} e s = subst (λ (y : List Literal). Stand (y ++ link_texts (map suffix_literals xs)) w) (sym e) s

pub value_stands : {ns : Names} {constant : Bool} {p : Part} {w : Word} {x : tree_of p} → v.Reads ns constant p w x → Stand (literals_in p x) w
value_stands (v.value {cs} {e} r) = by (conditional_texts cs e) (value_stands r)
value_stands (v.last_choice r) = value_stands r
value_stands (v.more_choices t s {a} {b} {e} {cs} ra i rb j rest) =
    choice_stands a b cs e (append (append (value_stands ra) (pass t (value_stands rb))) (pass s (value_stands rest)))
value_stands (v.chain {a} {ls} ra rl) = by (chained_texts a ls) (append (value_stands ra) (value_stands rl))
value_stands v.no_link = none
value_stands (v.more_links {t} {o} {b} {ls} i e l rb rest) = link_stands o b ls (append (pass t (value_stands rb)) (value_stands rest))
value_stands (v.operand h r) = value_stands r
value_stands (v.tightest {ps} {a} r) = by (prefixed_texts ps a) (value_stands r)
value_stands (v.no_prefix r) = value_stands r
value_stands (v.more_prefixes {t} i e r h) = pass t (value_stands r)
value_stands (v.cast {t} s {u} i rc o j r) = append (nothing (t ∷ u)) (pass s (value_stands r))
value_stands (v.postfixed {a} {xs} ra rx h) = by (suffixed_texts a xs) (append (value_stands ra) (value_stands rx))
value_stands v.no_suffix = none
value_stands (v.field {t} {n} {xs} c i j rest) = suffix_stands _ [] xs (suffix_literals_at (Suffix-F.Field (name_at n))) (pass t (pass n (value_stands rest)))
value_stands (v.arrow {t} {n} {xs} c i j rest) = suffix_stands _ [] xs (suffix_literals_at (Suffix-F.Arrow (name_at n))) (pass t (pass n (value_stands rest)))
value_stands (v.index {t} s {i = e} {xs} c i r j rest) =
    suffix_stands _ (texts_of e) xs (suffix_literals_at (Suffix-F.Index e (join (at t) (at s)))) (append (pass t (value_stands r)) (pass s (value_stands rest)))
value_stands (v.number {t} {n} {y} e) = plain_stands (Shape-F.Number (record { value = n; kind = y })) (at t) (t ∷ []) refl
value_stands (v.character {t} {b} e) = plain_stands (Shape-F.Character b) (at t) (t ∷ []) refl
value_stands (v.text {t} e) = by (texts_at (Shape-F.Text t.bytes) (at t)) (take (record { start = t.start; bytes = t.bytes }) t refl none)
value_stands (v.constant_name {t} {c} e) = plain_stands (Shape-F.Constant c) (at t) (t ∷ []) refl
value_stands (v.variable {t} i h) = plain_stands (Shape-F.Variable (name_at t)) (at t) (t ∷ []) refl
value_stands (v.function {t} i h) = plain_stands (Shape-F.Function (name_at t)) (at t) (t ∷ []) refl
value_stands (v.member {t} i h) = plain_stands (Shape-F.Member (name_at t)) (at t) (t ∷ []) refl
value_stands (v.size_of {t} {r} s {w} {c} i j rc o k) = plain_stands (Shape-F.SizeOf c (join (at t) (at s))) (join (at t) (at s)) (t ∷ r ∷ w ++ s ∷ []) refl
value_stands (v.offset {t} {r} m n s {w} {c} i j rc o k l z) =
    plain_stands (Shape-F.Offset c (name_at n) (join (at t) (at s))) (join (at t) (at s)) (t ∷ r ∷ w ++ m ∷ n ∷ s ∷ []) refl
value_stands (v.brackets {t} s {w} {a} i r j) = behind (bracketed_stands t s w a (value_stands r)) (s ∷ [])
value_stands v.no_argument = none
value_stands (v.arguments ra rest) = append (value_stands ra) (value_stands rest)
value_stands v.no_more = none
value_stands (v.more_arguments {t} i ra rest) = append (pass t (value_stands ra)) (value_stands rest)
