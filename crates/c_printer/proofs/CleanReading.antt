-- A value that is read keeps the rules exactly where it does without places.
use Rattle.std.proofs.Common.{◌≡◌, ◌∙◌, refl, sym, ap, subst, Bool, List, [], ◌∷◌, map}
use Rattle.c_tree.specs.declared.names.Span.{Span}
use Rattle.c_tree.specs.declared.operators.BinaryOperator.{BinaryOperator}
use Rattle.c_tree.specs.declared.operators.Level.{Level}
use Rattle.c_tree.specs.declared.operators.PrefixOperator.{PrefixOperator}
use Rattle.c_tree.specs.declared.code.Expr.{Expr}
use Rattle.c_tree.specs.declared.code.Link.{Link}
use Rattle.c_tree.specs.declared.code.Choice.{Choice}
use Rattle.c_tree.specs.declared.code.Suffix.{Suffix}
use Rattle.c_tree.specs.declared.code.Shape.{Shape}
use Rattle.c_tree.specs.declared.code.Shape.TheOpen.{Shape-F, Suffix-F, Choice-F, Expr-F, Link-F}
use Rattle.c_tree.specs.declared.code.Shape.TheFolds.{fold-roll-Shape, fold-Shape, fold-Suffix, fold-Choice, fold-Link, fold_out-Expr, fold_out-Suffix, fold_out-Choice, fold_out-Link, map-Shape, map-Suffix}
use Rattle.c_tree.specs.Words.{Word, at, join}
use Rattle.c_tree.specs.Names.{Names}
use Rattle.c_tree.specs.Make.{name_at, expr, shape_of, link, choice, chained, prefixed, suffixed, conditional, bracketed}
use Rattle.c_tree.specs.Values as v
use Rattle.c_tree.specs.Checks.{Checked, Known, KnownLink, KnownChoice, KnownSuffix, check_shape, check_suffix, checked}
use Rattle.c_tree.specs.Bare.{nowhere, bare_name, bare_type, bare_prefix, bare_shape, bare_suffix, bare_expr}
use Rattle.c_printer.proofs.BareTrees.{shape_at, rolls_at, bare_layer, suffix_at, suffix_out_at, bare_suffix_layer, bare_of_link, bare_of_choice, bare_of_suffix, bare_at, suffix_bare_at, link_bare, choice_bare, bare_span}
use Rattle.c_printer.proofs.CleanValues.{CheckedLike, LinksLike, no_link, one_link, ChoicesLike, no_choice, one_choice, SuffixesLike, no_suffix, one_field, one_arrow, one_index, chain_like, conditional_like, postfix_like, prefix_like, size_like, offset_like, variable_like, alike}

-- 1. One level after another

abbrev know_choice : Choice-F Checked KnownSuffix KnownChoice Known KnownLink → KnownChoice
know_choice c = record { test = c.test; yes = c.yes }

abbrev know_expr : Expr-F Checked KnownSuffix KnownChoice Known KnownLink → Known
know_expr e = record { span = e.span; value = e.shape }

abbrev know_link : Link-F Checked KnownSuffix KnownChoice Known KnownLink → KnownLink
know_link l = record { operator = l.operator; operand = l.operand }

abbrev known_shape : Shape → Checked
known_shape = fold-Shape Checked KnownSuffix KnownChoice Known KnownLink check_shape check_suffix know_choice know_expr know_link

abbrev known_suffix : Suffix → KnownSuffix
known_suffix = fold-Suffix Checked KnownSuffix KnownChoice Known KnownLink check_shape check_suffix know_choice know_expr know_link

abbrev known_choice : Choice → KnownChoice
known_choice = fold-Choice Checked KnownSuffix KnownChoice Known KnownLink check_shape check_suffix know_choice know_expr know_link

abbrev known_link : Link → KnownLink
known_link = fold-Link Checked KnownSuffix KnownChoice Known KnownLink check_shape check_suffix know_choice know_expr know_link

abbrev known_layer : Shape-F Shape Suffix Choice Expr Link → Shape-F Checked KnownSuffix KnownChoice Known KnownLink
known_layer = map-Shape Shape Suffix Choice Expr Link Checked KnownSuffix KnownChoice Known KnownLink known_shape known_suffix known_choice checked known_link

abbrev known_suffix_layer : Suffix-F Shape Suffix Choice Expr Link → Suffix-F Checked KnownSuffix KnownChoice Known KnownLink
known_suffix_layer = map-Suffix Shape Suffix Choice Expr Link Checked KnownSuffix KnownChoice Known KnownLink known_shape known_suffix known_choice checked known_link

value_out : (e : Expr) → (checked e).value ≡ known_shape (shape_of e)
value_out e = ap (λ (q : Known). q.value) (fold_out-Expr Checked KnownSuffix KnownChoice Known KnownLink check_shape check_suffix know_choice know_expr know_link e)

value_at : (l : Shape-F Shape Suffix Choice Expr Link) (o : Span) → (checked (expr (shape_at l) o)).value ≡ check_shape (known_layer l)
value_at l o = value_out (expr (shape_at l) o) ∙ ap known_shape (sym (rolls_at l)) ∙ fold-roll-Shape Checked KnownSuffix KnownChoice Known KnownLink check_shape check_suffix know_choice know_expr know_link l

link_known : (o : BinaryOperator) (b : Expr) → known_link (link o b) ≡ record { operator = o; operand = checked b }
link_known o b = fold_out-Link Checked KnownSuffix KnownChoice Known KnownLink check_shape check_suffix know_choice know_expr know_link (link o b)

choice_known : (a b : Expr) → known_choice (choice a b) ≡ record { test = checked a; yes = checked b }
choice_known a b = fold_out-Choice Checked KnownSuffix KnownChoice Known KnownLink check_shape check_suffix know_choice know_expr know_link (choice a b)

suffix_known : (l : Suffix-F Shape Suffix Choice Expr Link) → known_suffix (suffix_at l) ≡ check_suffix (known_suffix_layer l)
suffix_known l = fold_out-Suffix Checked KnownSuffix KnownChoice Known KnownLink check_shape check_suffix know_choice know_expr know_link (suffix_at l) ∙ ap (λ x. check_suffix (known_suffix_layer x)) (suffix_out_at l)

-- 2. Values

-- a value without places and the value itself keep the same rules
abbrev pub Like : Expr → Type 0
Like e = CheckedLike (checked (bare_expr e)).value (checked e).value

like_along : {a b x y : Checked} → a ≡ x → b ≡ y → CheckedLike x y → CheckedLike a b
like_along {a} {b} {x} {y} p q h = subst (λ z. CheckedLike z b) (sym p) (subst (CheckedLike x) (sym q) h)

made_like : (l m : Shape-F Shape Suffix Choice Expr Link) (o : Span) → bare_shape (bare_layer l) ≡ shape_at m → CheckedLike (check_shape (known_layer m)) (check_shape (known_layer l)) → Like (expr (shape_at l) o)
made_like l m o e h = like_along (ap (λ x. (checked x).value) (bare_at l o ∙ ap (λ s. expr s nowhere) e) ∙ value_at m nowhere) (value_at l o) h

abbrev LinksClaim : List Link → Type 0
LinksClaim ls = LinksLike (map known_link (map bare_of_link ls)) (map known_link ls)

one_more_link : (o : BinaryOperator) (b : Expr) (ls : List Link) → Like b → LinksClaim ls → LinksClaim (link o b ∷ ls)
one_more_link o b ls h r =
    subst (λ k. LinksLike (k ∷ map known_link (map bare_of_link ls)) (known_link (link o b) ∷ map known_link ls)) (sym (ap known_link (link_bare o b) ∙ link_known o (bare_expr b)))
    (subst (λ k. LinksLike (record { operator = o; operand = checked (bare_expr b) } ∷ map known_link (map bare_of_link ls)) (k ∷ map known_link ls)) (sym (link_known o b)) (one_link o h r))

abbrev ChoicesClaim : List Choice → Type 0
ChoicesClaim cs = ChoicesLike (map known_choice (map bare_of_choice cs)) (map known_choice cs)

one_more_choice : (a b : Expr) (cs : List Choice) → Like a → Like b → ChoicesClaim cs → ChoicesClaim (choice a b ∷ cs)
one_more_choice a b cs h g r =
    subst (λ k. ChoicesLike (k ∷ map known_choice (map bare_of_choice cs)) (known_choice (choice a b) ∷ map known_choice cs)) (sym (ap known_choice (choice_bare a b) ∙ choice_known (bare_expr a) (bare_expr b)))
    (subst (λ k. ChoicesLike (record { test = checked (bare_expr a); yes = checked (bare_expr b) } ∷ map known_choice (map bare_of_choice cs)) (k ∷ map known_choice cs)) (sym (choice_known a b)) (one_choice h g r))

abbrev SuffixesClaim : List Suffix → Type 0
SuffixesClaim xs = SuffixesLike (map known_suffix (map bare_of_suffix xs)) (map known_suffix xs)

one_more_suffix : (l m : Suffix-F Shape Suffix Choice Expr Link) (xs : List Suffix) → bare_suffix (bare_suffix_layer l) ≡ suffix_at m
    → SuffixesLike (check_suffix (known_suffix_layer m) ∷ map known_suffix (map bare_of_suffix xs)) (check_suffix (known_suffix_layer l) ∷ map known_suffix xs) → SuffixesClaim (suffix_at l ∷ xs)
one_more_suffix l m xs e r =
    subst (λ k. SuffixesLike (k ∷ map known_suffix (map bare_of_suffix xs)) (known_suffix (suffix_at l) ∷ map known_suffix xs)) (sym (ap known_suffix (suffix_bare_at l ∙ e) ∙ suffix_known m))
    (subst (λ k. SuffixesLike (check_suffix (known_suffix_layer m) ∷ map known_suffix (map bare_of_suffix xs)) (k ∷ map known_suffix xs)) (sym (suffix_known l)) r)

chained_like : (a : Expr) (ls : List Link) → Like a → LinksClaim ls → Like (chained a ls)
chained_like a [] h r = h
chained_like a (l ∷ ls) h r = made_like (Shape-F.Chain a (l ∷ ls)) (Shape-F.Chain (bare_expr a) (map bare_of_link (l ∷ ls))) _ refl (chain_like (checked (bare_expr a)) (checked a) h r)

prefixed_like : (ps : List PrefixOperator) (a : Expr) → Like a → Like (prefixed ps a)
prefixed_like [] a h = h
prefixed_like (p ∷ ps) a h = made_like (Shape-F.Prefix (p ∷ ps) a) (Shape-F.Prefix (map bare_prefix (p ∷ ps)) (bare_expr a)) _ refl (prefix_like (checked (bare_expr a)) (checked a) (p ∷ ps) h)

suffixed_like : (a : Expr) (xs : List Suffix) → Like a → SuffixesClaim xs → Like (suffixed a xs)
suffixed_like a [] h r = h
suffixed_like a (x ∷ xs) h r = made_like (Shape-F.Postfix a (x ∷ xs)) (Shape-F.Postfix (bare_expr a) (map bare_of_suffix (x ∷ xs))) _ refl (postfix_like (checked (bare_expr a)) (checked a) h r)

chosen_like : (cs : List Choice) (e : Expr) → ChoicesClaim cs → Like e → Like (conditional cs e)
chosen_like [] e r h = h
chosen_like (c ∷ cs) e r h = made_like (Shape-F.Conditional (c ∷ cs) e) (Shape-F.Conditional (map bare_of_choice (c ∷ cs)) (bare_expr e)) _ refl (conditional_like (checked (bare_expr e)) (checked e) r h)

abbrev pub AllLike : List Expr → Type 0
AllLike [] = Unit {0}
AllLike (e ∷ es) = Like e × AllLike es

abbrev Claim : (p : v.Part) → v.tree_of p → Type 0
Claim v.Value x = Like x
Claim v.Choosing x = ChoicesClaim x.0 × Like x.1
Claim (v.Chained l) x = Like x
Claim (v.Links l) x = LinksClaim x
Claim (v.Operand l) x = Like x
Claim v.Prefixed x = Like x.1
Claim v.Postfixed x = Like x
Claim v.Suffixes x = SuffixesClaim x
Claim v.Primary x = Like x
Claim v.Arguments x = AllLike x
Claim v.MoreArguments x = AllLike x

module _ (ns : Names) (constant : Bool) where
  like : {p : v.Part} {w : Word} {x : v.tree_of p} → v.Reads ns constant p w x → Claim p x
  like (v.value {cs} {e} r) = let q = like r in chosen_like cs e q.0 q.1
  like (v.last_choice r) = (no_choice, like r)
  like (v.more_choices t s {a} {b} {cs} ra i rb j rest) = let q = like rest in (one_more_choice a b cs (like ra) (like rb) q.0, q.1)
  like (v.chain {a} {ls} ra rest) = chained_like a ls (like ra) (like rest)
  like v.no_link = no_link
  like (v.more_links {o} {b} {ls} i h j rb rest) = one_more_link o b ls (like rb) (like rest)
  like (v.operand h r) = like r
  like (v.tightest {ps} {a} r) = prefixed_like ps a (like r)
  like (v.no_prefix r) = like r
  like (v.more_prefixes i h r k) = like r
  like (v.cast s i rc h j r) = like r
  like (v.postfixed {a} {xs} ra rest h) = suffixed_like a xs (like ra) (like rest)
  like v.no_suffix = no_suffix
  like (v.field {n} {xs} h i j rest) = one_more_suffix (Suffix-F.Field (name_at n)) (Suffix-F.Field (bare_name (name_at n))) xs refl (one_field (name_at n) (like rest))
  like (v.arrow {n} {xs} h i j rest) = one_more_suffix (Suffix-F.Arrow (name_at n)) (Suffix-F.Arrow (bare_name (name_at n))) xs refl (one_arrow (name_at n) (like rest))
  like (v.index {t} s {i = x} {xs} h j ri m rest) = one_more_suffix (Suffix-F.Index x (join (at t) (at s))) (Suffix-F.Index (bare_expr x) nowhere) xs refl (one_index nowhere (join (at t) (at s)) (like ri) (like rest))
  like (v.number {t} {n} {y} i) = made_like (Shape-F.Number (record { value = n; kind = y })) (Shape-F.Number (record { value = n; kind = y })) (at t) refl (alike _)
  like (v.character {t} {b} i) = made_like (Shape-F.Character b) (Shape-F.Character b) (at t) refl (alike _)
  like (v.text {t} i) = made_like (Shape-F.Text t.bytes) (Shape-F.Text t.bytes) (at t) refl (alike _)
  like (v.constant_name {t} {c} i) = made_like (Shape-F.Constant c) (Shape-F.Constant c) (at t) refl (alike _)
  like (v.variable {t} i h) = made_like (Shape-F.Variable (name_at t)) (Shape-F.Variable (bare_name (name_at t))) (at t) refl (variable_like (name_at t))
  like (v.function {t} i h) = made_like (Shape-F.Function (name_at t)) (Shape-F.Function (bare_name (name_at t))) (at t) refl (alike _)
  like (v.member {t} i h) = made_like (Shape-F.Member (name_at t)) (Shape-F.Member (bare_name (name_at t))) (at t) refl (alike _)
  like (v.size_of {t} s {c} i j rc h k) = made_like (Shape-F.SizeOf c (join (at t) (at s))) (Shape-F.SizeOf (bare_type c) nowhere) (join (at t) (at s)) refl (size_like c nowhere (join (at t) (at s)))
  like (v.offset {t} d f s {c} i j rc h p x k) = made_like (Shape-F.Offset c (name_at f) (join (at t) (at s))) (Shape-F.Offset (bare_type c) (bare_name (name_at f)) nowhere) (join (at t) (at s)) refl (offset_like c (name_at f) nowhere (join (at t) (at s)))
  like (v.brackets {t} s {a} i r j) = like_along (ap (λ x. (checked x).value) (sym (bare_span (join (at t) (at s)) a))) (value_out (bracketed (join (at t) (at s)) a) ∙ sym (value_out a)) (like r)
  like v.no_argument = tt
  like (v.arguments ra rest) = (like ra, like rest)
  like v.no_more = tt
  like (v.more_arguments i ra rest) = (like ra, like rest)

  pub value_like : {w : Word} {e : Expr} → v.Reads ns constant v.Value w e → Like e
  value_like r = like r

  pub callee_like : {w : Word} {e : Expr} → v.Reads ns constant v.Postfixed w e → Like e
  callee_like r = like r

  pub operand_like : {l : Level} {w : Word} {e : Expr} → v.Reads ns constant (v.Operand l) w e → Like e
  operand_like r = like r

  pub arguments_like : {w : Word} {es : List Expr} → v.Reads ns constant v.Arguments w es → AllLike es
  arguments_like r = like r

  pub more_like : {w : Word} {es : List Expr} → v.Reads ns constant v.MoreArguments w es → AllLike es
  more_like r = like r
