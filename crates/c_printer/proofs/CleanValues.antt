-- Whether a value keeps the rules does not hang on where it stands.
use Rattle.std.proofs.Common.{◌≡◌, ◌∙◌, refl, sym, ap, ap₂, ℕ, ◌+◌, Bool, true, false, cond, ◌&&◌, ◌==◌, List, [], ◌∷◌, ◌++◌, map, Option, Some, None}
use Rattle.c_tree.specs.declared.names.Base.{Base}
use Rattle.c_tree.specs.declared.names.Base.TheVariants as base
use Rattle.c_tree.specs.declared.names.CType.{CType}
use Rattle.c_tree.specs.declared.names.Name.{Name}
use Rattle.c_tree.specs.declared.names.Span.{Span}
use Rattle.c_tree.specs.declared.operators.BinaryOperator.{BinaryOperator}
use Rattle.c_tree.specs.declared.operators.Prefix.{Prefix}
use Rattle.c_tree.specs.declared.operators.Prefix.TheVariants as prefix
use Rattle.c_tree.specs.declared.operators.PrefixOperator.{PrefixOperator}
use Rattle.c_tree.specs.declared.code.Shape.TheOpen.{Shape-F}
use Rattle.c_tree.specs.declared.kinds.KindBase.{KindBase}
use Rattle.c_tree.specs.declared.kinds.KindBase.TheVariants as kind
use Rattle.c_tree.specs.declared.kinds.Kind.{Kind}
use Rattle.c_tree.specs.declared.kinds.Sort.{Sort}
use Rattle.c_tree.specs.declared.kinds.Fault.{Fault}
use Rattle.c_tree.specs.declared.kinds.Operand.{Operand}
use Rattle.c_tree.specs.Words.{join}
use Rattle.c_tree.specs.Kinds.{is_pointer}
use Rattle.c_tree.specs.Constants.{Worth, Is, Ends, Untold}
use Rattle.c_tree.specs.Library.{Literal}
use Rattle.c_tree.specs.Library.{Word as WordOf}
use Rattle.c_tree.specs.Library.{Figure as FigureOf}
use Rattle.c_tree.specs.Library.{Field as Declared}
use Rattle.c_tree.specs.Env.{Env, found, fields_of, field_named, target, kind_of, base_kind, laid_out}
use Rattle.c_tree.specs.Faults.{Outcome, Gives, Wrong, Lacks, Silent, outcome_kind, outcome_faults, on}
use Rattle.c_tree.specs.Checks as c
use Rattle.c_tree.specs.Checks.{Checked, Known, KnownLink, KnownChoice, KnownSuffix, Field, Arrow, Index, check_shape, check_suffix, checked, operand_if, operand_of, is_null_literal, type_faults, undeclared_if, field_of, field_by, field_outcome, field_found, arrow_of, suffix_outcome, suffix_kind, suffix_faults, suffix_end, index_faults, prefix_by, prefix_kind, prefix_faults, cast_faults, joined, join_outcome, chain_kind, chain_faults, chain_worth, told_both, choice_outcome, choice_operand, choice_faults, choices_worth, in_kind, chosen_worth, told_prefix, prefixes_worth, signed_literal, minus_literal, as_long, offset_outcome, offset_worth, struct_offset, offset_in, size_outcome}
use Rattle.c_tree.specs.Bare.{nowhere, bare_name, bare_base, bare_type, bare_operator, bare_prefix}

-- 1. Lists of faults

-- no fault is there
abbrev pub clean : List Fault → Bool
clean [] = true
clean (f ∷ fs) = false

pub clean_append : (a b : List Fault) → clean (a ++ b) ≡ (clean a && clean b)
clean_append [] b = refl
clean_append (f ∷ a) b = refl

pub both_clean : (a b x y : List Fault) → clean a ≡ clean x → clean b ≡ clean y → clean (a ++ b) ≡ clean (x ++ y)
both_clean a b x y e f = clean_append a b ∙ ap₂ (λ p q. p && q) e f ∙ sym (clean_append x y)

outcome_clean : (o : Outcome) (s r : Span) → clean (outcome_faults o s) ≡ clean (outcome_faults o r)
outcome_clean (Gives k) s r = refl
outcome_clean Wrong s r = refl
outcome_clean (Lacks x) s r = refl
outcome_clean Silent s r = refl

-- outcomes that differ in places alone
data OutcomeLike : Outcome → Outcome → Type 0 where
  same : (o : Outcome) → OutcomeLike o o
  lacks : (x y : Name) → OutcomeLike (Lacks x) (Lacks y)

like_kind : {o p : Outcome} → OutcomeLike o p → outcome_kind o ≡ outcome_kind p
like_kind (same o) = refl
like_kind (lacks x y) = refl

like_clean : {o p : Outcome} → OutcomeLike o p → (s r : Span) → clean (outcome_faults o s) ≡ clean (outcome_faults p r)
like_clean (same o) s r = outcome_clean o s r
like_clean (lacks x y) s r = refl

-- 2. Types and names

pub kind_bare : (env : Env) (t : CType) → kind_of env (bare_type t) ≡ kind_of env t
kind_bare env t = ap (λ o. Rattle.std.specs.Option.option_map (λ (k : Kind). record { base = k.base; stars = k.stars + t.stars }) o) (go t.base)
  where
    go : (b : Base) → base_kind env (bare_base b) ≡ base_kind env b
    go base.Void = refl
    go base.Int = refl
    go base.Char = refl
    go (base.Named x) = refl

pub undeclared_clean : (o : Option Sort) (x y : Name) → clean (undeclared_if o x) ≡ clean (undeclared_if o y)
undeclared_clean None x y = refl
undeclared_clean (Some s) x y = refl

pub type_clean : (env : Env) (t : CType) → clean (type_faults env (bare_type t)) ≡ clean (type_faults env t)
type_clean env t = go t.base
  where
    go : (b : Base) → clean (c.base_faults env (bare_base b)) ≡ clean (c.base_faults env b)
    go base.Void = refl
    go base.Int = refl
    go base.Char = refl
    go (base.Named x) = undeclared_clean (found env.scopes x.text) (bare_name x) x

found_like : (o : Option Declared) (x : Name) → OutcomeLike (field_found o (bare_name x)) (field_found o x)
found_like None x = lacks (bare_name x) x
found_like (Some f) x = same (on f.kind Gives)

fields_like : (o : Option (List Declared)) (x : Name) → OutcomeLike (field_outcome o (bare_name x)) (field_outcome o x)
fields_like None x = same Wrong
fields_like (Some fs) x = found_like (field_named fs x.text) x

base_like : (env : Env) (b : KindBase) (x : Name) → OutcomeLike (field_by env b (bare_name x)) (field_by env b x)
base_like env kind.Void x = same Wrong
base_like env (kind.Integer w s) x = same Wrong
base_like env (kind.Struct n) x = fields_like (fields_of env n) x
base_like env (kind.Function n) x = same Wrong

if_like : (b : Bool) (o p : Outcome) → OutcomeLike o p → OutcomeLike (cond b o Wrong) (cond b p Wrong)
if_like true o p h = h
if_like false o p h = same Wrong

field_like : (env : Env) (k : Kind) (x : Name) → OutcomeLike (field_of env k (bare_name x)) (field_of env k x)
field_like env k x = if_like (k.stars == 0) (field_by env k.base (bare_name x)) (field_by env k.base x) (base_like env k.base x)

arrow_like : (env : Env) (k : Kind) (x : Name) → OutcomeLike (arrow_of env k (bare_name x)) (arrow_of env k x)
arrow_like env k x = if_like (is_pointer k) (field_of env (target k) (bare_name x)) (field_of env (target k) x) (field_like env (target k) x)

on_like : (o : Option Kind) (f g : Kind → Outcome) → ((k : Kind) → OutcomeLike (f k) (g k)) → OutcomeLike (on o f) (on o g)
on_like None f g h = same Silent
on_like (Some k) f g h = h k

long_like : {o p : Outcome} → OutcomeLike o p → OutcomeLike (as_long o) (as_long p)
long_like (same o) = same (as_long o)
long_like (lacks x y) = lacks x y

offset_in_bare : (env : Env) (o : Option (List Declared)) (x : Name) → offset_in env o (bare_name x) ≡ offset_in env o x
offset_in_bare env None x = refl
offset_in_bare env (Some fs) x = refl

struct_offset_bare : (env : Env) (b : KindBase) (x : Name) → struct_offset env b (bare_name x) ≡ struct_offset env b x
struct_offset_bare env kind.Void x = refl
struct_offset_bare env (kind.Integer w s) x = refl
struct_offset_bare env (kind.Struct n) x = offset_in_bare env (fields_of env n) x
struct_offset_bare env (kind.Function n) x = refl

offset_bare : (env : Env) (o : Option Kind) (x : Name) → offset_worth env o (bare_name x) ≡ offset_worth env o x
offset_bare env None x = refl
offset_bare env (Some k) x = struct_offset_bare env k.base x

-- 3. What is known of a value

pub record CheckedLike (a b : Checked) : Type 0 where
  pub literal : a.literal ≡ b.literal
  pub kind : (env : Env) → a.kind env ≡ b.kind env
  pub clean_is : (env : Env) → clean (a.faults env) ≡ clean (b.faults env)
  pub worth : (env : Env) → a.worth env ≡ b.worth env

same_operand : {a b : Checked} (env : Env) → CheckedLike a b → operand_if (a.kind env) (is_null_literal a.literal) ≡ operand_if (b.kind env) (is_null_literal b.literal)
same_operand env h = λ i. operand_if (h.kind env i) (is_null_literal (h.literal i))

-- 4. Chains

pub data LinksLike : List KnownLink → List KnownLink → Type 0 where
  no_link : LinksLike [] []
  one_link : (o : BinaryOperator) {a b : Known} {ks js : List KnownLink} → CheckedLike a.value b.value → LinksLike ks js → LinksLike (record { operator = o; operand = a } ∷ ks) (record { operator = o; operand = b } ∷ js)

links_kind : {ks js : List KnownLink} (env : Env) → LinksLike ks js → (a : Option Operand) → chain_kind env a ks ≡ chain_kind env a js
links_kind env no_link a = refl
links_kind env (one_link o {a = x} {ks} {js} h r) a = links_kind env r (joined env o a (operand_of env x)) ∙ ap (λ p. chain_kind env (joined env o a p) js) (same_operand env h)

links_clean : {ks js : List KnownLink} (env : Env) → LinksLike ks js → (s r : Span) (a : Option Operand) → clean (chain_faults env s a ks) ≡ clean (chain_faults env r a js)
links_clean env no_link s r a = refl
links_clean env (one_link o {a = x} {b = y} {ks} {js} h more) s r a =
    both_clean (x.value.faults env ++ outcome_faults (join_outcome env o a (operand_of env x)) (join s x.span)) (chain_faults env s (joined env o a (operand_of env x)) ks)
    (y.value.faults env ++ outcome_faults (join_outcome env o a (operand_of env y)) (join r y.span)) (chain_faults env r (joined env o a (operand_of env y)) js)
    (both_clean (x.value.faults env) (outcome_faults (join_outcome env o a (operand_of env x)) (join s x.span)) (y.value.faults env) (outcome_faults (join_outcome env o a (operand_of env y)) (join r y.span)) (h.clean_is env)
    (outcome_clean (join_outcome env o a (operand_of env x)) (join s x.span) (join r y.span) ∙ ap (λ p. clean (outcome_faults (join_outcome env o a p) (join r y.span))) (same_operand env h)))
    (links_clean env more s r (joined env o a (operand_of env x)) ∙ ap (λ p. clean (chain_faults env r (joined env o a p) js)) (same_operand env h))

links_worth : {ks js : List KnownLink} (env : Env) → LinksLike ks js → (a : Option Operand) (w : Worth) → chain_worth env a w ks ≡ chain_worth env a w js
links_worth env no_link a w = refl
links_worth env (one_link o {a = x} {b = y} {ks} {js} h r) a w =
    links_worth env r (joined env o a (operand_of env x)) (told_both env o a (operand_of env x) w (x.value.worth env))
    ∙ (λ i. chain_worth env (joined env o a (same_operand env h i)) (told_both env o a (same_operand env h i) w (h.worth env i)) js)

pub chain_like : (a b : Known) → {ks js : List KnownLink} → CheckedLike a.value b.value → LinksLike ks js → CheckedLike (check_shape (Shape-F.Chain a ks)) (check_shape (Shape-F.Chain b js))
chain_like a b {ks} {js} h r = record {
  literal = refl;
  kind = λ env. ap c.operand_kind (links_kind env r (operand_of env a) ∙ ap (λ o. chain_kind env o js) (same_operand env h));
  clean_is = λ env. both_clean (a.value.faults env) (chain_faults env a.span (operand_of env a) ks) (b.value.faults env) (chain_faults env b.span (operand_of env b) js) (h.clean_is env)
      (links_clean env r a.span b.span (operand_of env a) ∙ ap (λ o. clean (chain_faults env b.span o js)) (same_operand env h));
  worth = λ env. links_worth env r (operand_of env a) (a.value.worth env) ∙ (λ i. chain_worth env (same_operand env h i) (h.worth env i) js);
}

-- 5. Choices

pub data ChoicesLike : List KnownChoice → List KnownChoice → Type 0 where
  no_choice : ChoicesLike [] []
  one_choice : {a b x y : Known} {ks js : List KnownChoice} → CheckedLike a.value b.value → CheckedLike x.value y.value → ChoicesLike ks js → ChoicesLike (record { test = a; yes = x } ∷ ks) (record { test = b; yes = y } ∷ js)

choices_kind : {ks js : List KnownChoice} (env : Env) → ChoicesLike ks js → (e : Option Operand) → choice_operand env ks e ≡ choice_operand env js e
choices_kind env no_choice e = refl
choices_kind env (one_choice h g r) e = λ i. operand_if (outcome_kind (choice_outcome (h.kind env i) (same_operand env g i) (choices_kind env r e i))) false

choices_clean : {ks js : List KnownChoice} (d e : Known) (env : Env) → ChoicesLike ks js → CheckedLike d.value e.value → clean (choice_faults env ks d) ≡ clean (choice_faults env js e)
choices_clean d e env no_choice q = q.clean_is env
choices_clean d e env (one_choice {a} {b} {x} {y} {ks} {js} h g r) q =
    both_clean (a.value.faults env ++ x.value.faults env ++ choice_faults env ks d) (outcome_faults (choice_outcome (a.value.kind env) (operand_of env x) (choice_operand env ks (operand_of env d))) (join a.span d.span))
    (b.value.faults env ++ y.value.faults env ++ choice_faults env js e) (outcome_faults (choice_outcome (b.value.kind env) (operand_of env y) (choice_operand env js (operand_of env e))) (join b.span e.span))
    (both_clean (a.value.faults env ++ x.value.faults env) (choice_faults env ks d) (b.value.faults env ++ y.value.faults env) (choice_faults env js e)
    (both_clean (a.value.faults env) (x.value.faults env) (b.value.faults env) (y.value.faults env) (h.clean_is env) (g.clean_is env)) (choices_clean d e env r q))
    (outcome_clean (choice_outcome (a.value.kind env) (operand_of env x) (choice_operand env ks (operand_of env d))) (join a.span d.span) (join b.span e.span)
    ∙ (λ i. clean (outcome_faults (choice_outcome (h.kind env i) (same_operand env g i) ((choices_kind env r (operand_of env d) ∙ ap (choice_operand env js) (same_operand env q)) i)) (join b.span e.span))))

choices_same_worth : {ks js : List KnownChoice} (d e : Known) (env : Env) → ChoicesLike ks js → CheckedLike d.value e.value → choices_worth env ks d ≡ choices_worth env js e
choices_same_worth d e env no_choice q = q.worth env
choices_same_worth d e env (one_choice {ks} {js} h g r) q =
    λ i. in_kind (operand_if (outcome_kind (choice_outcome (h.kind env i) (same_operand env g i) ((choices_kind env r (operand_of env d) ∙ ap (choice_operand env js) (same_operand env q)) i))) false) (chosen_worth (h.worth env i) (g.worth env i) (choices_same_worth d e env r q i))

pub conditional_like : (d e : Known) → {ks js : List KnownChoice} → ChoicesLike ks js → CheckedLike d.value e.value → CheckedLike (check_shape (Shape-F.Conditional ks d)) (check_shape (Shape-F.Conditional js e))
conditional_like d e {ks} {js} r q = record {
  literal = refl;
  kind = λ env. ap c.operand_kind (choices_kind env r (operand_of env d) ∙ ap (choice_operand env js) (same_operand env q));
  clean_is = λ env. choices_clean d e env r q;
  worth = λ env. choices_same_worth d e env r q;
}

-- 6. Suffixes

pub data SuffixesLike : List KnownSuffix → List KnownSuffix → Type 0 where
  no_suffix : SuffixesLike [] []
  one_field : (x : Name) {ks js : List KnownSuffix} → SuffixesLike ks js → SuffixesLike (Field (bare_name x) ∷ ks) (Field x ∷ js)
  one_arrow : (x : Name) {ks js : List KnownSuffix} → SuffixesLike ks js → SuffixesLike (Arrow (bare_name x) ∷ ks) (Arrow x ∷ js)
  one_index : {a b : Known} (s r : Span) {ks js : List KnownSuffix} → CheckedLike a.value b.value → SuffixesLike ks js → SuffixesLike (Index a s ∷ ks) (Index b r ∷ js)

index_like : (a b : Known) (env : Env) (k : Option Kind) (s r : Span) → CheckedLike a.value b.value → suffix_outcome env k (Index a s) ≡ suffix_outcome env k (Index b r)
index_like a b env k s r h = λ i. on k (λ j. on (h.kind env i) (c.index_of env j))

suffixes_kind : {ks js : List KnownSuffix} (env : Env) → SuffixesLike ks js → (k : Option Kind) → suffix_kind env k ks ≡ suffix_kind env k js
suffixes_kind env no_suffix k = refl
suffixes_kind env (one_field x {ks} {js} r) k = suffixes_kind env r (outcome_kind (suffix_outcome env k (Field (bare_name x)))) ∙ ap (λ o. suffix_kind env o js) (like_kind (on_like k (λ j. field_of env j (bare_name x)) (λ j. field_of env j x) (λ j. field_like env j x)))
suffixes_kind env (one_arrow x {ks} {js} r) k = suffixes_kind env r (outcome_kind (suffix_outcome env k (Arrow (bare_name x)))) ∙ ap (λ o. suffix_kind env o js) (like_kind (on_like k (λ j. arrow_of env j (bare_name x)) (λ j. arrow_of env j x) (λ j. arrow_like env j x)))
suffixes_kind env (one_index {a} {b} s t {ks} {js} h r) k = suffixes_kind env r (outcome_kind (suffix_outcome env k (Index a s))) ∙ ap (λ o. suffix_kind env (outcome_kind o) js) (index_like a b env k s t h)

suffixes_clean : {ks js : List KnownSuffix} (env : Env) → SuffixesLike ks js → (s r : Span) (k : Option Kind) → clean (suffix_faults env s k ks) ≡ clean (suffix_faults env r k js)
suffixes_clean env no_suffix s r k = refl
suffixes_clean env (one_field x {ks} {js} more) s r k =
    let l = on_like k (λ j. field_of env j (bare_name x)) (λ j. field_of env j x) (λ j. field_like env j x) in
    both_clean (outcome_faults (suffix_outcome env k (Field (bare_name x))) (join s nowhere)) (suffix_faults env s (outcome_kind (suffix_outcome env k (Field (bare_name x)))) ks)
    (outcome_faults (suffix_outcome env k (Field x)) (join r x.span)) (suffix_faults env r (outcome_kind (suffix_outcome env k (Field x))) js) (like_clean l (join s nowhere) (join r x.span))
    (suffixes_clean env more s r (outcome_kind (suffix_outcome env k (Field (bare_name x)))) ∙ ap (λ o. clean (suffix_faults env r o js)) (like_kind l))
suffixes_clean env (one_arrow x {ks} {js} more) s r k =
    let l = on_like k (λ j. arrow_of env j (bare_name x)) (λ j. arrow_of env j x) (λ j. arrow_like env j x) in
    both_clean (outcome_faults (suffix_outcome env k (Arrow (bare_name x))) (join s nowhere)) (suffix_faults env s (outcome_kind (suffix_outcome env k (Arrow (bare_name x)))) ks)
    (outcome_faults (suffix_outcome env k (Arrow x)) (join r x.span)) (suffix_faults env r (outcome_kind (suffix_outcome env k (Arrow x))) js) (like_clean l (join s nowhere) (join r x.span))
    (suffixes_clean env more s r (outcome_kind (suffix_outcome env k (Arrow (bare_name x)))) ∙ ap (λ o. clean (suffix_faults env r o js)) (like_kind l))
suffixes_clean env (one_index {a} {b} f g {ks} {js} h more) s r k =
    both_clean (a.value.faults env ++ outcome_faults (suffix_outcome env k (Index a f)) (join s f)) (suffix_faults env s (outcome_kind (suffix_outcome env k (Index a f))) ks)
    (b.value.faults env ++ outcome_faults (suffix_outcome env k (Index b g)) (join r g)) (suffix_faults env r (outcome_kind (suffix_outcome env k (Index b g))) js)
    (both_clean (a.value.faults env) (outcome_faults (suffix_outcome env k (Index a f)) (join s f)) (b.value.faults env) (outcome_faults (suffix_outcome env k (Index b g)) (join r g)) (h.clean_is env)
    (outcome_clean (suffix_outcome env k (Index a f)) (join s f) (join r g) ∙ ap (λ o. clean (outcome_faults o (join r g))) (index_like a b env k f g h)))
    (suffixes_clean env more s r (outcome_kind (suffix_outcome env k (Index a f))) ∙ ap (λ o. clean (suffix_faults env r (outcome_kind o) js)) (index_like a b env k f g h))

pub postfix_like : (a b : Known) → {ks js : List KnownSuffix} → CheckedLike a.value b.value → SuffixesLike ks js → CheckedLike (check_shape (Shape-F.Postfix a ks)) (check_shape (Shape-F.Postfix b js))
postfix_like a b {ks} {js} h r = record {
  literal = refl;
  kind = λ env. suffixes_kind env r (a.value.kind env) ∙ ap (λ o. suffix_kind env o js) (h.kind env);
  clean_is = λ env. both_clean (a.value.faults env) (suffix_faults env a.span (a.value.kind env) ks) (b.value.faults env) (suffix_faults env b.span (b.value.kind env) js) (h.clean_is env)
      (suffixes_clean env r a.span b.span (a.value.kind env) ∙ ap (λ o. clean (suffix_faults env b.span o js)) (h.kind env));
  worth = λ env. refl;
}

-- 7. Prefixes

prefix_same : (env : Env) (p : Prefix) (k : Kind) → prefix_by env (bare_operator p) k ≡ prefix_by env p k
prefix_same env prefix.Plus k = refl
prefix_same env prefix.Minus k = refl
prefix_same env prefix.Not k = refl
prefix_same env prefix.Complement k = refl
prefix_same env prefix.Deref k = refl
prefix_same env prefix.AddressOf k = refl
prefix_same env (prefix.Cast t) k = ap (λ o. c.cast_outcome o k) (kind_bare env t)

on_prefix : (env : Env) (p : Prefix) (o : Option Kind) → on o (prefix_by env (bare_operator p)) ≡ on o (prefix_by env p)
on_prefix env p None = refl
on_prefix env p (Some k) = prefix_same env p k

prefixes_kind : (env : Env) (ps : List PrefixOperator) (k : Option Kind) → prefix_kind env (map bare_prefix ps) k ≡ prefix_kind env ps k
prefixes_kind env [] k = refl
prefixes_kind env (p ∷ ps) k = ap (λ o. outcome_kind (on o (prefix_by env (bare_operator p.prefix)))) (prefixes_kind env ps k) ∙ ap outcome_kind (on_prefix env p.prefix (prefix_kind env ps k))

cast_clean : (env : Env) (p : Prefix) → clean (cast_faults env (bare_operator p)) ≡ clean (cast_faults env p)
cast_clean env prefix.Plus = refl
cast_clean env prefix.Minus = refl
cast_clean env prefix.Not = refl
cast_clean env prefix.Complement = refl
cast_clean env prefix.Deref = refl
cast_clean env prefix.AddressOf = refl
cast_clean env (prefix.Cast t) = type_clean env t

prefixes_clean : (env : Env) (ps : List PrefixOperator) (k : Option Kind) (s r : Span) → clean (prefix_faults env (map bare_prefix ps) k s) ≡ clean (prefix_faults env ps k r)
prefixes_clean env [] k s r = refl
prefixes_clean env (p ∷ ps) k s r =
    both_clean (cast_faults env (bare_operator p.prefix) ++ prefix_faults env (map bare_prefix ps) k s) (outcome_faults (on (prefix_kind env (map bare_prefix ps) k) (prefix_by env (bare_operator p.prefix))) (join nowhere s))
    (cast_faults env p.prefix ++ prefix_faults env ps k r) (outcome_faults (on (prefix_kind env ps k) (prefix_by env p.prefix)) (join p.span r))
    (both_clean (cast_faults env (bare_operator p.prefix)) (prefix_faults env (map bare_prefix ps) k s) (cast_faults env p.prefix) (prefix_faults env ps k r) (cast_clean env p.prefix) (prefixes_clean env ps k s r))
    (ap (λ o. clean (outcome_faults (on o (prefix_by env (bare_operator p.prefix))) (join nowhere s))) (prefixes_kind env ps k)
    ∙ ap (λ o. clean (outcome_faults o (join nowhere s))) (on_prefix env p.prefix (prefix_kind env ps k)) ∙ outcome_clean (on (prefix_kind env ps k) (prefix_by env p.prefix)) (join nowhere s) (join p.span r))

told_same : (p : Prefix) (k : Option Kind) (w : Worth) → told_prefix (bare_operator p) k w ≡ told_prefix p k w
told_same prefix.Plus k w = refl
told_same prefix.Minus k w = refl
told_same prefix.Not k w = refl
told_same prefix.Complement k w = refl
told_same prefix.Deref k w = refl
told_same prefix.AddressOf k w = refl
told_same (prefix.Cast t) None (Is d) = refl
told_same (prefix.Cast t) None Ends = refl
told_same (prefix.Cast t) None Untold = refl
told_same (prefix.Cast t) (Some k) (Is d) = refl
told_same (prefix.Cast t) (Some k) Ends = refl
told_same (prefix.Cast t) (Some k) Untold = refl

prefixes_same_worth : (env : Env) (ps : List PrefixOperator) (k : Option Kind) (w : Worth) → prefixes_worth env (map bare_prefix ps) k w ≡ prefixes_worth env ps k w
prefixes_same_worth env [] k w = refl
prefixes_same_worth env (p ∷ ps) k w = (λ i. told_prefix (bare_operator p.prefix) (prefixes_kind env (p ∷ ps) k i) (prefixes_same_worth env ps k w i)) ∙ told_same p.prefix (prefix_kind env (p ∷ ps) k) (prefixes_worth env ps k w)

minus_same : (p : Prefix) (n : ℕ) → minus_literal (bare_operator p) n ≡ minus_literal p n
minus_same prefix.Plus n = refl
minus_same prefix.Minus n = refl
minus_same prefix.Not n = refl
minus_same prefix.Complement n = refl
minus_same prefix.Deref n = refl
minus_same prefix.AddressOf n = refl
minus_same (prefix.Cast t) n = refl

literal_same : (ps : List PrefixOperator) (l : Option Literal) → signed_literal (map bare_prefix ps) l ≡ signed_literal ps l
literal_same [] l = refl
literal_same (p ∷ []) None = refl
literal_same (p ∷ []) (Some (WordOf x)) = refl
literal_same (p ∷ []) (Some (FigureOf true n)) = refl
literal_same (p ∷ []) (Some (FigureOf false n)) = minus_same p.prefix n
literal_same (p ∷ q ∷ ps) None = refl
literal_same (p ∷ q ∷ ps) (Some (WordOf x)) = refl
literal_same (p ∷ q ∷ ps) (Some (FigureOf true n)) = refl
literal_same (p ∷ q ∷ ps) (Some (FigureOf false n)) = refl

pub prefix_like : (a b : Known) (ps : List PrefixOperator) → CheckedLike a.value b.value → CheckedLike (check_shape (Shape-F.Prefix (map bare_prefix ps) a)) (check_shape (Shape-F.Prefix ps b))
prefix_like a b ps h = record {
  literal = literal_same ps a.value.literal ∙ ap (signed_literal ps) h.literal;
  kind = λ env. prefixes_kind env ps (a.value.kind env) ∙ ap (prefix_kind env ps) (h.kind env);
  clean_is = λ env. both_clean (a.value.faults env) (prefix_faults env (map bare_prefix ps) (a.value.kind env) a.span) (b.value.faults env) (prefix_faults env ps (b.value.kind env) b.span) (h.clean_is env)
      (prefixes_clean env ps (a.value.kind env) a.span b.span ∙ ap (λ o. clean (prefix_faults env ps o b.span)) (h.kind env));
  worth = λ env. prefixes_same_worth env ps (a.value.kind env) (a.value.worth env) ∙ (λ i. prefixes_worth env ps (h.kind env i) (h.worth env i));
}

-- 8. Single values

pub size_like : (t : CType) (s r : Span) → CheckedLike (check_shape (Shape-F.SizeOf (bare_type t) s)) (check_shape (Shape-F.SizeOf t r))
size_like t s r = record {
  literal = refl;
  kind = λ env. ap (λ o. outcome_kind (on o (size_outcome env))) (kind_bare env t);
  clean_is = λ env. both_clean (type_faults env (bare_type t)) (outcome_faults (on (kind_of env (bare_type t)) (size_outcome env)) s) (type_faults env t) (outcome_faults (on (kind_of env t) (size_outcome env)) r) (type_clean env t)
      (outcome_clean (on (kind_of env (bare_type t)) (size_outcome env)) s r ∙ ap (λ o. clean (outcome_faults (on o (size_outcome env)) r)) (kind_bare env t));
  worth = λ env. ap (c.size_worth env) (kind_bare env t);
}

pub offset_like : (t : CType) (x : Name) (s r : Span) → CheckedLike (check_shape (Shape-F.Offset (bare_type t) (bare_name x) s)) (check_shape (Shape-F.Offset t x r))
offset_like t x s r = record {
  literal = refl;
  kind = λ env. like_kind (like env) ∙ ap (λ o. outcome_kind (on o (offset_outcome env x))) (kind_bare env t);
  clean_is = λ env. both_clean (type_faults env (bare_type t)) (outcome_faults (on (kind_of env (bare_type t)) (offset_outcome env (bare_name x))) s) (type_faults env t) (outcome_faults (on (kind_of env t) (offset_outcome env x)) r) (type_clean env t)
      (like_clean (like env) s r ∙ ap (λ o. clean (outcome_faults (on o (offset_outcome env x)) r)) (kind_bare env t));
  worth = λ env. offset_bare env (kind_of env (bare_type t)) x ∙ ap (λ o. offset_worth env o x) (kind_bare env t);
}
  where
    like : (env : Env) → OutcomeLike (on (kind_of env (bare_type t)) (offset_outcome env (bare_name x))) (on (kind_of env (bare_type t)) (offset_outcome env x))
    like env = on_like (kind_of env (bare_type t)) (offset_outcome env (bare_name x)) (offset_outcome env x) (λ k. if_like (laid_out env k) (as_long (field_of env k (bare_name x))) (as_long (field_of env k x)) (long_like (field_like env k x)))

pub variable_like : (x : Name) → CheckedLike (check_shape (Shape-F.Variable (bare_name x))) (check_shape (Shape-F.Variable x))
variable_like x = record { literal = refl; kind = λ env. refl; clean_is = λ env. undeclared_clean (found env.scopes x.text) (bare_name x) x; worth = λ env. refl }

pub alike : (a : Checked) → CheckedLike a a
alike a = record { literal = refl; kind = λ env. refl; clean_is = λ env. refl; worth = λ env. refl }
