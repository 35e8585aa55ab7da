-- The same tokens at other places are read as the same tree, apart from places.
use Rattle.std.proofs.Common.{◌≡◌, ◌∙◌, refl, sym, ap, ap₂, ℕ, Bool, true, false, ◌||◌, not, List, [], ◌∷◌, ◌++◌, map, Some}
use Rattle.c_lexer.specs.declared.token.Sign.{Sign}
use Rattle.c_lexer.specs.declared.token.Sign.TheVariants as sign
use Rattle.c_tree.specs.declared.names.Base.{Base}
use Rattle.c_tree.specs.declared.names.Base.TheVariants as base
use Rattle.c_tree.specs.declared.names.CType.{CType}
use Rattle.c_tree.specs.declared.names.Span.{Span}
use Rattle.c_tree.specs.declared.operators.Prefix.{Prefix}
use Rattle.c_tree.specs.declared.operators.PrefixOperator.{PrefixOperator}
use Rattle.c_tree.specs.declared.code.Expr.{Expr}
use Rattle.c_tree.specs.declared.code.Link.{Link}
use Rattle.c_tree.specs.declared.code.Choice.{Choice}
use Rattle.c_tree.specs.declared.code.Suffix.{Suffix, out-Suffix}
use Rattle.c_tree.specs.declared.code.Shape.{Shape}
use Rattle.c_tree.specs.declared.code.Shape.TheVariants as shape
use Rattle.c_tree.specs.declared.code.Suffix.TheVariants as suffix
use Rattle.c_tree.specs.declared.operators.BinaryOperator.{BinaryOperator}
use Rattle.c_tree.specs.declared.operators.Level.{Level}
use Rattle.c_tree.specs.declared.operators.Level.TheVariants as level
use Rattle.c_tree.specs.declared.operators.Prefix.TheVariants as prefix
use Rattle.c_tree.specs.declared.code.Shape.TheOpen.{Shape-F, Suffix-F}
use Rattle.c_tree.specs.Kinds.{level_of}
use Rattle.c_tree.specs.Words.{Token, Word, IsSign, IsName, extent, at, join}
use Rattle.c_tree.specs.Names.{Names, role_of}
use Rattle.c_tree.specs.Types.{Consts, no_const, more_const, Stars, no_star, more_stars, BaseIs, void_is, int_is, char_is, named_is, ReadsType, type_is, is_object, can_be_type}
use Rattle.c_tree.specs.Make.{name_at, expr, link, choice, chained, prefixed, suffixed, conditional, bracketed}
use Rattle.c_tree.specs.Values as v
use Rattle.c_tree.specs.Values.{is_place, may_precede, may_follow, is_dot_layer}
use Rattle.c_tree.specs.Bare.{nowhere, bare_name, bare_base, bare_type, bare_operator, bare_prefix, bare_shape, bare_suffix, bare_expr}
use Rattle.c_printer.specs.Alike.{Like, Alike, none, one}
use Rattle.c_printer.proofs.TypeReading.{object_bare}
use Rattle.c_printer.proofs.BareTrees.{shape_at, bare_layer, suffix_at, bare_suffix_layer, bare_of_link, bare_of_choice, bare_of_suffix, bare_at, suffix_bare_at, link_bare, choice_bare, bare_span, place_bare, dot_bare}

-- 1. Tokens at other places

-- what is to be shown of words like an empty one, of one with a token in front, and of two words in a row
pub at_end : {w : Word} (P : Word → Type 0) → Alike [] w → P [] → P w
at_end P none p = p

pub at_token : {s : Token} {v w : Word} (P : Word → Type 0) → Alike (s ∷ v) w → ((t : Token) (x : Word) → Like s t → Alike v x → P (t ∷ x)) → P w
at_token P (one {t} {w} l a) f = f t w l a

pub at_both : (u v : Word) {w : Word} (P : Word → Type 0) → Alike (u ++ v) w → ((x y : Word) → Alike u x → Alike v y → P (x ++ y)) → P w
at_both [] v {w} P a f = f [] w none a
at_both (s ∷ u) v P (one {t} {w} l a) f = at_both u v (λ z. P (t ∷ z)) a (λ x y b c. f (t ∷ x) y (one l b) c)

-- 2. Types

name_like : {s t : Token} → Like s t → IsName s → IsName t
name_like l i = l.terminal ∙ i

pub same_name : {s t : Token} → Like s t → IsName s → bare_name (name_at t) ≡ bare_name (name_at s)
same_name l i = ap (λ b. record { text = b; span = nowhere }) (l.named i)

consts_moved : {w x : Word} {b : Bool} → Consts w b → Alike w x → Consts x b
consts_moved {x} {b} no_const a = at_end (λ z. Consts z b) a no_const
consts_moved {x} (more_const i r) a = at_token (λ z. Consts z true) a (λ t y l b. more_const (l.terminal ∙ i) (consts_moved r b))

stars_moved : {w x : Word} {n : ℕ} → Stars w n → Alike w x → Stars x n
stars_moved {n} no_star a = at_end (λ z. Stars z n) a no_star
stars_moved {n} (more_stars {t} {u} {w} i c r) a = at_both (t ∷ u) w (λ z. Stars z n) a (λ x y b d. at_token (λ z. Stars (z ++ y) n) b (λ s p l e. more_stars (l.terminal ∙ i) (consts_moved c e) (stars_moved r d)))

pub record MovedType (ns : Names) (anyhow : Bool) (w : Word) (c : CType) : Type 0 where
  pub tree : CType
  pub reads : ReadsType ns anyhow w tree
  pub same : bare_type tree ≡ bare_type c

base_moved : {ns : Names} {anyhow : Bool} {s t : Token} {x : Base} → Like s t → BaseIs ns anyhow s x → (y : Base) × BaseIs ns anyhow t y × (bare_base y ≡ bare_base x)
base_moved l (void_is i) = (_, void_is (l.terminal ∙ i), refl)
base_moved l (int_is i) = (_, int_is (l.terminal ∙ i), refl)
base_moved l (char_is i) = (_, char_is (l.terminal ∙ i), refl)
base_moved {ns} {anyhow} l (named_is i h) = (_, named_is (l.terminal ∙ i) (ap (λ b. can_be_type anyhow (role_of ns b)) (l.named i) ∙ h), ap base.Named (same_name l i))

pub type_moved : {ns : Names} {anyhow : Bool} {w x : Word} {c : CType} → ReadsType ns anyhow w c → Alike w x → MovedType ns anyhow x c
type_moved {ns} {anyhow} {x} {c} (type_is {t} {u} {v} {w} {b} {c = d} {n} {x = p} cs is ds ss) a =
    at_both (u ++ t ∷ v) w (λ z. MovedType ns anyhow z c) a (λ f y a1 a2. at_both u (t ∷ v) (λ z. MovedType ns anyhow (z ++ y) c) a1 (λ u' g b1 b2. at_token (λ z. MovedType ns anyhow (u' ++ z ++ y) c) b2 (λ t' v' l b3.
    let (q, i, e) = base_moved l is in
    record { tree = record { base = q; is_const = b || d; stars = n; span = extent (u' ++ t' ∷ v' ++ y) }; reads = type_is (consts_moved cs b1) i (consts_moved ds b3) (stars_moved ss a2); same = ap (λ z. record { base = z; is_const = b || d; stars = n; span = nowhere }) e })))

-- 3. Values

-- trees that differ in places alone
abbrev pub Same : (p : v.Part) → v.tree_of p → v.tree_of p → Type 0
Same v.Value x y = bare_expr x ≡ bare_expr y
Same v.Choosing x y = (map bare_of_choice x.0 ≡ map bare_of_choice y.0) × (bare_expr x.1 ≡ bare_expr y.1)
Same (v.Chained l) x y = bare_expr x ≡ bare_expr y
Same (v.Links l) x y = map bare_of_link x ≡ map bare_of_link y
Same (v.Operand l) x y = bare_expr x ≡ bare_expr y
Same v.Prefixed x y = (map bare_prefix x.0 ≡ map bare_prefix y.0) × (bare_expr x.1 ≡ bare_expr y.1)
Same v.Postfixed x y = bare_expr x ≡ bare_expr y
Same v.Suffixes x y = map bare_of_suffix x ≡ map bare_of_suffix y
Same v.Primary x y = bare_expr x ≡ bare_expr y
Same v.Arguments x y = map bare_expr x ≡ map bare_expr y
Same v.MoreArguments x y = map bare_expr x ≡ map bare_expr y

pub record Moved (ns : Names) (constant : Bool) (p : v.Part) (w : Word) (x : v.tree_of p) : Type 0 where
  pub tree : v.tree_of p
  pub reads : v.Reads ns constant p w tree
  pub same : Same p tree x

-- places of bare trees from their bare parts
abbrev pub flat_chain : Expr → List Link → Expr
flat_chain a [] = a
flat_chain a (l ∷ ls) = expr (shape.Chain a (l ∷ ls)) nowhere

abbrev pub flat_prefix : List PrefixOperator → Expr → Expr
flat_prefix [] a = a
flat_prefix (p ∷ ps) a = expr (shape.Prefix (p ∷ ps) a) nowhere

abbrev pub flat_suffix : Expr → List Suffix → Expr
flat_suffix a [] = a
flat_suffix a (x ∷ xs) = expr (shape.Postfix a (x ∷ xs)) nowhere

abbrev pub flat_choice : List Choice → Expr → Expr
flat_choice [] e = e
flat_choice (c ∷ cs) e = expr (shape.Conditional (c ∷ cs) e) nowhere

pub chain_bare : (a : Expr) (ls : List Link) → bare_expr (chained a ls) ≡ flat_chain (bare_expr a) (map bare_of_link ls)
chain_bare a [] = refl
chain_bare a (l ∷ ls) = bare_at (Shape-F.Chain a (l ∷ ls)) _

pub prefix_bare : (ps : List PrefixOperator) (a : Expr) → bare_expr (prefixed ps a) ≡ flat_prefix (map bare_prefix ps) (bare_expr a)
prefix_bare [] a = refl
prefix_bare (p ∷ ps) a = bare_at (Shape-F.Prefix (p ∷ ps) a) _

pub suffixed_bare : (a : Expr) (xs : List Suffix) → bare_expr (suffixed a xs) ≡ flat_suffix (bare_expr a) (map bare_of_suffix xs)
suffixed_bare a [] = refl
suffixed_bare a (x ∷ xs) = bare_at (Shape-F.Postfix a (x ∷ xs)) _

pub conditional_bare : (cs : List Choice) (e : Expr) → bare_expr (conditional cs e) ≡ flat_choice (map bare_of_choice cs) (bare_expr e)
conditional_bare [] e = refl
conditional_bare (c ∷ cs) e = bare_at (Shape-F.Conditional (c ∷ cs) e) _

pub same_place : (a b : Expr) → bare_expr a ≡ bare_expr b → is_place a ≡ is_place b
same_place a b e = sym (place_bare a) ∙ ap is_place e ∙ place_bare b

precede_bare : (p : Prefix) (a : Expr) → may_precede (bare_operator p) (bare_expr a) ≡ may_precede p a
precede_bare prefix.Plus a = refl
precede_bare prefix.Minus a = refl
precede_bare prefix.Not a = refl
precede_bare prefix.Complement a = refl
precede_bare prefix.Deref a = refl
precede_bare prefix.AddressOf a = place_bare a
precede_bare (prefix.Cast c) a = refl

follow_bare : (a : Expr) (xs : List Suffix) → may_follow (bare_expr a) (map bare_of_suffix xs) ≡ may_follow a xs
follow_bare a [] = refl
follow_bare a (x ∷ xs) = ap (λ b. not b || is_place (bare_expr a)) (dot_bare x) ∙ ap (λ b. not (is_dot_layer (out-Suffix x)) || b) (place_bare a)

pub same_object : (a b : CType) → bare_type a ≡ bare_type b → is_object a ≡ is_object b
same_object a b e = sym (object_bare a) ∙ ap is_object e ∙ object_bare b

module _ (ns : Names) (constant : Bool) where
  abbrev M : (p : v.Part) → Word → v.tree_of p → Type 0
  M = Moved ns constant

  value_made : {z : Word} {cs : List Choice} {e : Expr} → M v.Choosing z (cs, e) → M v.Value z (conditional cs e)
  value_made {cs} {e} m = record { tree = conditional m.tree.0 m.tree.1; reads = v.value m.reads; same = conditional_bare m.tree.0 m.tree.1 ∙ (λ i. flat_choice (m.same.0 i) (m.same.1 i)) ∙ sym (conditional_bare cs e) }

  last_made : {z : Word} {a : Expr} → M (v.Chained level.Or) z a → M v.Choosing z ([], a)
  last_made m = record { tree = ([], m.tree); reads = v.last_choice m.reads; same = (refl, m.same) }

  choices_made : {x y z : Word} (t s : Token) → {a b e : Expr} {cs : List Choice} → M (v.Chained level.Or) x a → IsSign t sign.Question → M v.Value y b → IsSign s sign.Colon → M v.Choosing z (cs, e) → M v.Choosing (x ++ t ∷ y ++ s ∷ z) (choice a b ∷ cs, e)
  choices_made t s {a} {b} {e} {cs} m i n j r = record {
    tree = (choice m.tree n.tree ∷ r.tree.0, r.tree.1);
    reads = v.more_choices t s m.reads i n.reads j r.reads;
    same = ((λ k. (choice_bare m.tree n.tree ∙ ap₂ choice m.same n.same ∙ sym (choice_bare a b)) k ∷ r.same.0 k), r.same.1);
  }

  chain_made : {x y : Word} {l : Level} {a : Expr} {ls : List Link} → M (v.Operand l) x a → M (v.Links l) y ls → M (v.Chained l) (x ++ y) (chained a ls)
  chain_made {a} {ls} m r = record { tree = chained m.tree r.tree; reads = v.chain m.reads r.reads; same = chain_bare m.tree r.tree ∙ (λ i. flat_chain (m.same i) (r.same i)) ∙ sym (chain_bare a ls) }

  links_made : {x y : Word} {t : Token} {s : Sign} {o : BinaryOperator} {l : Level} {b : Expr} {ls : List Link} → IsSign t s → v.binary_of s ≡ Some o → level_of o ≡ l → M (v.Operand l) x b → M (v.Links l) y ls → M (v.Links l) (t ∷ x ++ y) (link o b ∷ ls)
  links_made {o} {b} {ls} i h j m r = record { tree = link o m.tree ∷ r.tree; reads = v.more_links i h j m.reads r.reads; same = λ k. (link_bare o m.tree ∙ ap (link o) m.same ∙ sym (link_bare o b)) k ∷ r.same k }

  operand_made : {z : Word} {l m : Level} {a : Expr} → v.tighter l ≡ Some m → M (v.Chained m) z a → M (v.Operand l) z a
  operand_made h m = record { tree = m.tree; reads = v.operand h m.reads; same = m.same }

  tightest_made : {z : Word} {ps : List PrefixOperator} {a : Expr} → M v.Prefixed z (ps, a) → M (v.Operand level.Product) z (prefixed ps a)
  tightest_made {ps} {a} m = record { tree = prefixed m.tree.0 m.tree.1; reads = v.tightest m.reads; same = prefix_bare m.tree.0 m.tree.1 ∙ (λ i. flat_prefix (m.same.0 i) (m.same.1 i)) ∙ sym (prefix_bare ps a) }

  no_prefix_made : {z : Word} {a : Expr} → M v.Postfixed z a → M v.Prefixed z ([], a)
  no_prefix_made m = record { tree = ([], m.tree); reads = v.no_prefix m.reads; same = (refl, m.same) }

  prefixes_made : {z : Word} {t : Token} (q : Token) → {s : Sign} {p : Prefix} {ps : List PrefixOperator} {a : Expr} → IsSign t s → v.prefix_of constant s ≡ Some p → M v.Prefixed z (ps, a) → may_precede p (prefixed ps a) ≡ true
      → M v.Prefixed (t ∷ z) (record { prefix = p; span = at q } ∷ ps, a)
  prefixes_made {t} q {p} {ps} {a} i h m k = record {
    tree = (record { prefix = p; span = at t } ∷ m.tree.0, m.tree.1);
    reads = v.more_prefixes i h m.reads (sym (precede_bare p (prefixed m.tree.0 m.tree.1)) ∙ ap (may_precede (bare_operator p)) (prefix_bare m.tree.0 m.tree.1 ∙ (λ i. flat_prefix (m.same.0 i) (m.same.1 i)) ∙ sym (prefix_bare ps a)) ∙ precede_bare p (prefixed ps a) ∙ k);
    same = ((λ k. record { prefix = bare_operator p; span = nowhere } ∷ m.same.0 k), m.same.1);
  }

  cast_made : {x z : Word} {t : Token} (s : Token) (o : Span) → {c : CType} {ps : List PrefixOperator} {a : Expr} → IsSign t sign.OpenParen → MovedType ns false x c → is_object c ≡ true → IsSign s sign.CloseParen → M v.Prefixed z (ps, a)
      → M v.Prefixed (t ∷ x ++ s ∷ z) (record { prefix = prefix.Cast c; span = o } ∷ ps, a)
  cast_made {t} s o {c} {ps} {a} i y h j m = record {
    tree = (record { prefix = prefix.Cast y.tree; span = join (at t) (at s) } ∷ m.tree.0, m.tree.1);
    reads = v.cast s i y.reads (same_object y.tree c y.same ∙ h) j m.reads;
    same = ((λ k. record { prefix = prefix.Cast (y.same k); span = nowhere } ∷ m.same.0 k), m.same.1);
  }

  postfixed_made : {x y : Word} {a : Expr} {xs : List Suffix} → M v.Primary x a → M v.Suffixes y xs → may_follow a xs ≡ true → M v.Postfixed (x ++ y) (suffixed a xs)
  postfixed_made {a} {xs} m r h = record {
    tree = suffixed m.tree r.tree;
    reads = v.postfixed m.reads r.reads (sym (follow_bare m.tree r.tree) ∙ (λ i. may_follow (m.same i) (r.same i)) ∙ follow_bare a xs ∙ h);
    same = suffixed_bare m.tree r.tree ∙ (λ i. flat_suffix (m.same i) (r.same i)) ∙ sym (suffixed_bare a xs);
  }

  suffix_more : {z w : Word} {xs : List Suffix} (l m : Suffix-F Shape Suffix Choice Expr Link) (r : M v.Suffixes z xs) → v.Reads ns constant v.Suffixes w (suffix_at l ∷ r.tree) → bare_suffix (bare_suffix_layer l) ≡ bare_suffix (bare_suffix_layer m) → M v.Suffixes w (suffix_at m ∷ xs)
  suffix_more l m r reads e = record { tree = suffix_at l ∷ r.tree; reads = reads; same = λ k. (suffix_bare_at l ∙ e ∙ sym (suffix_bare_at m)) k ∷ r.same k }

  single : {w : Word} (l m : Shape-F Shape Suffix Choice Expr Link) (o q : Span) → v.Reads ns constant v.Primary w (expr (shape_at l) o) → bare_shape (bare_layer l) ≡ bare_shape (bare_layer m) → M v.Primary w (expr (shape_at m) q)
  single l m o q reads e = record { tree = expr (shape_at l) o; reads = reads; same = bare_at l o ∙ ap (λ x. expr x nowhere) e ∙ sym (bare_at m q) }

  brackets_made : {z : Word} {t : Token} (s : Token) (o : Span) → {a : Expr} → IsSign t sign.OpenParen → M v.Value z a → IsSign s sign.CloseParen → M v.Primary (t ∷ z ++ s ∷ []) (bracketed o a)
  brackets_made {t} s o {a} i m j = record { tree = bracketed (join (at t) (at s)) m.tree; reads = v.brackets s i m.reads j; same = sym (bare_span (join (at t) (at s)) m.tree) ∙ m.same ∙ bare_span o a }

  arguments_made : {x y : Word} {a : Expr} {xs : List Expr} → M v.Value x a → M v.MoreArguments y xs → M v.Arguments (x ++ y) (a ∷ xs)
  arguments_made m r = record { tree = m.tree ∷ r.tree; reads = v.arguments m.reads r.reads; same = λ k. m.same k ∷ r.same k }

  more_made : {x y : Word} {t : Token} {a : Expr} {xs : List Expr} → IsSign t sign.Comma → M v.Value x a → M v.MoreArguments y xs → M v.MoreArguments (t ∷ x ++ y) (a ∷ xs)
  more_made i m r = record { tree = m.tree ∷ r.tree; reads = v.more_arguments i m.reads r.reads; same = λ k. m.same k ∷ r.same k }

  pub moved : {p : v.Part} {w : Word} {x : v.tree_of p} → v.Reads ns constant p w x → {z : Word} → Alike w z → Moved ns constant p z x
  moved (v.value r) a = value_made (moved r a)
  moved (v.last_choice r) a = last_made (moved r a)
  moved (v.more_choices t s {u} {v = v1} {w} {a} {b} {e} {cs} ra i rb j rest) al =
      at_both (u ++ t ∷ v1) (s ∷ w) (λ z. M v.Choosing z (choice a b ∷ cs, e)) al (λ x y a1 a2.
      at_both u (t ∷ v1) (λ z. M v.Choosing (z ++ y) (choice a b ∷ cs, e)) a1 (λ u' x' b1 b2.
      at_token (λ z. M v.Choosing (u' ++ z ++ y) (choice a b ∷ cs, e)) b2 (λ t' v' l c1.
      at_token (λ z. M v.Choosing (u' ++ t' ∷ v' ++ z) (choice a b ∷ cs, e)) a2 (λ s' w' m c2.
      choices_made t' s' (moved ra b1) (l.terminal ∙ i) (moved rb c1) (m.terminal ∙ j) (moved rest c2)))))
  moved (v.chain {l} {u} {v = v1} {a} {ls} ra rest) al = at_both u v1 (λ z. M (v.Chained l) z (chained a ls)) al (λ x y a1 a2. chain_made (moved ra a1) (moved rest a2))
  moved (v.no_link {l}) al = at_end (λ z. M (v.Links l) z []) al (record { tree = []; reads = v.no_link; same = refl })
  moved (v.more_links {t} {o} {l} {u} {v = v1} {b} {ls} i h j rb rest) al =
      at_both (t ∷ u) v1 (λ z. M (v.Links l) z (link o b ∷ ls)) al (λ x y a1 a2. at_token (λ z. M (v.Links l) (z ++ y) (link o b ∷ ls)) a1 (λ t' u' m b1. links_made (m.terminal ∙ i) h j (moved rb b1) (moved rest a2)))
  moved (v.operand h r) al = operand_made h (moved r al)
  moved (v.tightest r) al = tightest_made (moved r al)
  moved (v.no_prefix r) al = no_prefix_made (moved r al)
  moved (v.more_prefixes {t} {p} {ps} {a} i h r k) al = at_token (λ z. M v.Prefixed z (record { prefix = p; span = at t } ∷ ps, a)) al (λ t' w' m b. prefixes_made t (m.terminal ∙ i) h (moved r b) k)
  moved (v.cast {t} s {u} {w} {c} {ps} {a} i rc h j r) al =
      at_both (t ∷ u) (s ∷ w) (λ z. M v.Prefixed z (record { prefix = prefix.Cast c; span = join (at t) (at s) } ∷ ps, a)) al (λ x y a1 a2.
      at_token (λ z. M v.Prefixed (z ++ y) (record { prefix = prefix.Cast c; span = join (at t) (at s) } ∷ ps, a)) a1 (λ t' u' l b1.
      at_token (λ z. M v.Prefixed (t' ∷ u' ++ z) (record { prefix = prefix.Cast c; span = join (at t) (at s) } ∷ ps, a)) a2 (λ s' w' m b2.
      cast_made s' (join (at t) (at s)) (l.terminal ∙ i) (type_moved rc b1) h (m.terminal ∙ j) (moved r b2))))
  moved (v.postfixed {u} {v = v1} {a} {xs} ra rest h) al = at_both u v1 (λ z. M v.Postfixed z (suffixed a xs)) al (λ x y a1 a2. postfixed_made (moved ra a1) (moved rest a2) h)
  moved v.no_suffix al = at_end (λ z. M v.Suffixes z []) al (record { tree = []; reads = v.no_suffix; same = refl })
  moved (v.field {t} {n} {w} {xs} h i j rest) al =
      at_token (λ z. M v.Suffixes z (suffix.Field (name_at n) ∷ xs)) al (λ t' y l b. at_token (λ z. M v.Suffixes (t' ∷ z) (suffix.Field (name_at n) ∷ xs)) b (λ n' w' m c.
      let r = moved rest c in suffix_more (Suffix-F.Field (name_at n')) (Suffix-F.Field (name_at n)) r (v.field h (l.terminal ∙ i) (m.terminal ∙ j) r.reads) (ap suffix.Field (same_name m j))))
  moved (v.arrow {t} {n} {w} {xs} h i j rest) al =
      at_token (λ z. M v.Suffixes z (suffix.Arrow (name_at n) ∷ xs)) al (λ t' y l b. at_token (λ z. M v.Suffixes (t' ∷ z) (suffix.Arrow (name_at n) ∷ xs)) b (λ n' w' m c.
      let r = moved rest c in suffix_more (Suffix-F.Arrow (name_at n')) (Suffix-F.Arrow (name_at n)) r (v.arrow h (l.terminal ∙ i) (m.terminal ∙ j) r.reads) (ap suffix.Arrow (same_name m j))))
  moved (v.index {t} s {v = v1} {w} {i} {xs} h j ri k rest) al =
      at_both (t ∷ v1) (s ∷ w) (λ z. M v.Suffixes z (suffix.Index i (join (at t) (at s)) ∷ xs)) al (λ x y a1 a2.
      at_token (λ z. M v.Suffixes (z ++ y) (suffix.Index i (join (at t) (at s)) ∷ xs)) a1 (λ t' v' l b1.
      at_token (λ z. M v.Suffixes (t' ∷ v' ++ z) (suffix.Index i (join (at t) (at s)) ∷ xs)) a2 (λ s' w' m b2.
      let q = moved ri b1 in let r = moved rest b2 in
      suffix_more (Suffix-F.Index q.tree (join (at t') (at s'))) (Suffix-F.Index i (join (at t) (at s))) r (v.index s' h (l.terminal ∙ j) q.reads (m.terminal ∙ k) r.reads) (ap (λ e. suffix.Index e nowhere) q.same))))
  moved (v.number {t} {n} {y} i) al = at_token (λ z. M v.Primary z (expr (shape.Number (record { value = n; kind = y })) (at t))) al (λ t' w' l b. at_end (λ z. M v.Primary (t' ∷ z) (expr (shape.Number (record { value = n; kind = y })) (at t))) b
      (single (Shape-F.Number (record { value = n; kind = y })) (Shape-F.Number (record { value = n; kind = y })) (at t') (at t) (v.number (l.terminal ∙ i)) refl))
  moved (v.character {t} {b = c} i) al = at_token (λ z. M v.Primary z (expr (shape.Character c) (at t))) al (λ t' w' l b. at_end (λ z. M v.Primary (t' ∷ z) (expr (shape.Character c) (at t))) b (single (Shape-F.Character c) (Shape-F.Character c) (at t') (at t) (v.character (l.terminal ∙ i)) refl))
  moved (v.text {t} i) al = at_token (λ z. M v.Primary z (expr (shape.Text t.bytes) (at t))) al (λ t' w' l b. at_end (λ z. M v.Primary (t' ∷ z) (expr (shape.Text t.bytes) (at t))) b
      (single (Shape-F.Text t'.bytes) (Shape-F.Text t.bytes) (at t') (at t) (v.text (l.terminal ∙ i)) (ap shape.Text (l.said i))))
  moved (v.constant_name {t} {c} i) al = at_token (λ z. M v.Primary z (expr (shape.Constant c) (at t))) al (λ t' w' l b. at_end (λ z. M v.Primary (t' ∷ z) (expr (shape.Constant c) (at t))) b (single (Shape-F.Constant c) (Shape-F.Constant c) (at t') (at t) (v.constant_name (l.terminal ∙ i)) refl))
  moved (v.variable {t} i h) al = at_token (λ z. M v.Primary z (expr (shape.Variable (name_at t)) (at t))) al (λ t' w' l b. at_end (λ z. M v.Primary (t' ∷ z) (expr (shape.Variable (name_at t)) (at t))) b
      (single (Shape-F.Variable (name_at t')) (Shape-F.Variable (name_at t)) (at t') (at t) (v.variable (l.terminal ∙ i) (ap (λ x. v.is_variable constant (role_of ns x)) (l.named i) ∙ h)) (ap shape.Variable (same_name l i))))
  moved (v.function {t} i h) al = at_token (λ z. M v.Primary z (expr (shape.Function (name_at t)) (at t))) al (λ t' w' l b. at_end (λ z. M v.Primary (t' ∷ z) (expr (shape.Function (name_at t)) (at t))) b
      (single (Shape-F.Function (name_at t')) (Shape-F.Function (name_at t)) (at t') (at t) (v.function (l.terminal ∙ i) (ap (role_of ns) (l.named i) ∙ h)) (ap shape.Function (same_name l i))))
  moved (v.member {t} i h) al = at_token (λ z. M v.Primary z (expr (shape.Member (name_at t)) (at t))) al (λ t' w' l b. at_end (λ z. M v.Primary (t' ∷ z) (expr (shape.Member (name_at t)) (at t))) b
      (single (Shape-F.Member (name_at t')) (Shape-F.Member (name_at t)) (at t') (at t) (v.member (l.terminal ∙ i) (ap (role_of ns) (l.named i) ∙ h)) (ap shape.Member (same_name l i))))
  moved (v.size_of {t} {r} s {w} {c} i j rc h k) al =
      at_both (t ∷ r ∷ w) (s ∷ []) (λ z. M v.Primary z (expr (shape.SizeOf c (join (at t) (at s))) (join (at t) (at s)))) al (λ x y a1 a2.
      at_token (λ z. M v.Primary (z ++ y) (expr (shape.SizeOf c (join (at t) (at s))) (join (at t) (at s)))) a1 (λ t' x1 l b1.
      at_token (λ z. M v.Primary (t' ∷ z ++ y) (expr (shape.SizeOf c (join (at t) (at s))) (join (at t) (at s)))) b1 (λ r' w' m b2.
      at_token (λ z. M v.Primary (t' ∷ r' ∷ w' ++ z) (expr (shape.SizeOf c (join (at t) (at s))) (join (at t) (at s)))) a2 (λ s' y1 n b3.
      at_end (λ z. M v.Primary (t' ∷ r' ∷ w' ++ s' ∷ z) (expr (shape.SizeOf c (join (at t) (at s))) (join (at t) (at s)))) b3
      (let q = type_moved rc b2 in single (Shape-F.SizeOf q.tree (join (at t') (at s'))) (Shape-F.SizeOf c (join (at t) (at s))) (join (at t') (at s')) (join (at t) (at s))
      (v.size_of s' (l.terminal ∙ i) (m.terminal ∙ j) q.reads (same_object q.tree c q.same ∙ h) (n.terminal ∙ k)) (ap (λ d. shape.SizeOf d nowhere) q.same))))))
  moved (v.offset {t} {r} d f s {w} {c} i j rc h p x k) al =
      at_both (t ∷ r ∷ w) (d ∷ f ∷ s ∷ []) (λ z. M v.Primary z (expr (shape.Offset c (name_at f) (join (at t) (at s))) (join (at t) (at s)))) al (λ g y a1 a2.
      at_token (λ z. M v.Primary (z ++ y) (expr (shape.Offset c (name_at f) (join (at t) (at s))) (join (at t) (at s)))) a1 (λ t' x1 l b1.
      at_token (λ z. M v.Primary (t' ∷ z ++ y) (expr (shape.Offset c (name_at f) (join (at t) (at s))) (join (at t) (at s)))) b1 (λ r' w' m b2.
      at_token (λ z. M v.Primary (t' ∷ r' ∷ w' ++ z) (expr (shape.Offset c (name_at f) (join (at t) (at s))) (join (at t) (at s)))) a2 (λ d' y1 n1 c1.
      at_token (λ z. M v.Primary (t' ∷ r' ∷ w' ++ d' ∷ z) (expr (shape.Offset c (name_at f) (join (at t) (at s))) (join (at t) (at s)))) c1 (λ f' y2 n2 c2.
      at_token (λ z. M v.Primary (t' ∷ r' ∷ w' ++ d' ∷ f' ∷ z) (expr (shape.Offset c (name_at f) (join (at t) (at s))) (join (at t) (at s)))) c2 (λ s' y3 n3 c3.
      at_end (λ z. M v.Primary (t' ∷ r' ∷ w' ++ d' ∷ f' ∷ s' ∷ z) (expr (shape.Offset c (name_at f) (join (at t) (at s))) (join (at t) (at s)))) c3
      (let q = type_moved rc b2 in single (Shape-F.Offset q.tree (name_at f') (join (at t') (at s'))) (Shape-F.Offset c (name_at f) (join (at t) (at s))) (join (at t') (at s')) (join (at t) (at s))
      (v.offset d' f' s' (l.terminal ∙ i) (m.terminal ∙ j) q.reads (same_object q.tree c q.same ∙ h) (n1.terminal ∙ p) (n2.terminal ∙ x) (n3.terminal ∙ k)) (λ k. shape.Offset (q.same k) (same_name n2 x k) nowhere))))))))
  moved (v.brackets {t} s {w} {a} i r j) al =
      at_both (t ∷ w) (s ∷ []) (λ z. M v.Primary z (bracketed (join (at t) (at s)) a)) al (λ x y a1 a2.
      at_token (λ z. M v.Primary (z ++ y) (bracketed (join (at t) (at s)) a)) a1 (λ t' w' l b1.
      at_token (λ z. M v.Primary (t' ∷ w' ++ z) (bracketed (join (at t) (at s)) a)) a2 (λ s' y1 m b2.
      at_end (λ z. M v.Primary (t' ∷ w' ++ s' ∷ z) (bracketed (join (at t) (at s)) a)) b2 (brackets_made s' (join (at t) (at s)) (l.terminal ∙ i) (moved r b1) (m.terminal ∙ j)))))
  moved v.no_argument al = at_end (λ z. M v.Arguments z []) al (record { tree = []; reads = v.no_argument; same = refl })
  moved (v.arguments {u} {v = v1} {a} {xs} ra rest) al = at_both u v1 (λ z. M v.Arguments z (a ∷ xs)) al (λ x y a1 a2. arguments_made (moved ra a1) (moved rest a2))
  moved v.no_more al = at_end (λ z. M v.MoreArguments z []) al (record { tree = []; reads = v.no_more; same = refl })
  moved (v.more_arguments {t} {u} {v = v1} {a} {xs} i ra rest) al = at_both (t ∷ u) v1 (λ z. M v.MoreArguments z (a ∷ xs)) al (λ x y a1 a2. at_token (λ z. M v.MoreArguments (z ++ y) (a ∷ xs)) a1 (λ t' u' l b1. more_made (l.terminal ∙ i) (moved ra b1) (moved rest a2)))
