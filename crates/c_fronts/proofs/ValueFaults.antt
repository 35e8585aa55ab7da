-- What is told of values by their parts, and where they end.
use Rattle.std.proofs.Common.{◌≡◌, ◌∙◌, refl, sym, ap, subst, ℕ, ◌<◌, Bool, true, false, ◌||◌, if◌then◌else◌, List, [], ◌∷◌, ◌++◌, map, Option, Some, None}
use Rattle.c_tree.specs.declared.names.Span.{Span}
use Rattle.c_tree.specs.declared.names.Name.{Name}
use Rattle.c_tree.specs.declared.operators.BinaryOperator.{BinaryOperator}
use Rattle.c_tree.specs.declared.operators.Prefix.{Prefix}
use Rattle.c_tree.specs.declared.operators.Prefix.TheVariants as prefix
use Rattle.c_tree.specs.declared.operators.PrefixOperator.{PrefixOperator}
use Rattle.c_tree.specs.declared.code.Expr.{Expr}
use Rattle.c_tree.specs.declared.code.Link.{Link}
use Rattle.c_tree.specs.declared.code.Choice.{Choice}
use Rattle.c_tree.specs.declared.code.Suffix.{Suffix}
use Rattle.c_tree.specs.declared.code.Suffix.TheVariants as suffix
use Rattle.c_tree.specs.declared.code.Shape.TheOpen.{Shape-F, Suffix-F}
use Rattle.c_tree.specs.declared.kinds.KindBase.{KindBase}
use Rattle.c_tree.specs.declared.kinds.KindBase.TheVariants as kind
use Rattle.c_tree.specs.declared.kinds.Kind.{Kind}
use Rattle.c_tree.specs.declared.kinds.Fault.{Fault}
use Rattle.c_tree.specs.declared.kinds.Operand.{Operand}
use Rattle.c_tree.specs.Words.{Terminal, Token, at, join}
use Rattle.c_tree.specs.Make.{span_of, last_operand, last_suffix, suffix_span, suffix_layer_span, bracketed, link, choice, chained, prefixed}
use Rattle.c_tree.specs.Make.{suffixed, conditional}
use Rattle.c_tree.specs.Kinds.{is_scalar}
use Rattle.c_tree.specs.Library.{Field as Declared}
use Rattle.c_tree.specs.Env.{Env, fields_of, field_named, laid_out, target, kind_of}
use Rattle.c_tree.specs.Faults.{Outcome, Gives, Wrong, Lacks, Silent, outcome_faults, on, undeclared}
use Rattle.c_tree.specs.Checks as c
use Rattle.c_tree.specs.Checks.{Known, KnownLink, KnownChoice, KnownSuffix, Field, Arrow, Index, checked, operand_of}
use Rattle.c_tree.specs.Checks.{field_of, field_by, field_outcome, field_found, arrow_of, suffix_outcome}
use Rattle.c_tree.specs.Checks.{suffix_end, index_faults, suffix_faults, prefix_by, prefix_kind, prefix_faults, cast_faults}
use Rattle.c_tree.specs.Checks.{join_outcome, joined, chain_faults, choice_outcome, choice_operand, choice_faults, size_outcome, offset_outcome}
use Rattle.c_tree.specs.Checks.{as_long}
use Rattle.c_grammar.specs.Trees.{with_prefixes, one_prefix, field_suffix, index_suffix}
use Rattle.c_fronts.proofs.Shows.{Probe, shows, shows_append, shows_three, shows_drop, or_none, or_drop, late_misfit, late_undeclared}
use Rattle.c_fronts.proofs.Shows.{late_outcome, IsPlain, plain_gives, plain_wrong, plain_silent, plain_outcome, plain_on, plain_if}
use Rattle.c_fronts.proofs.Unfold.{value_at, span_out, known_link, known_choice, known_suffix, link_known, choice_known, suffix_known, suffix_out_at}

-- 1. Outcomes

pub prefix_plain : (env : Env) (q : Prefix) (k : Kind) → IsPlain (prefix_by env q k)
prefix_plain env prefix.Plus k = plain_outcome _
prefix_plain env prefix.Minus k = plain_outcome _
prefix_plain env prefix.Complement k = plain_outcome _
prefix_plain env prefix.Not k = plain_outcome _
prefix_plain env prefix.Deref k = plain_outcome _
prefix_plain env prefix.AddressOf k = plain_gives
prefix_plain env (prefix.Cast y) k = plain_on (kind_of env y) _ (λ t. plain_outcome _)

pub join_plain : (env : Env) (o : BinaryOperator) (a b : Option Operand) → IsPlain (join_outcome env o a b)
join_plain env o None b = plain_silent
join_plain env o (Some a) None = plain_silent
join_plain env o (Some a) (Some b) = plain_outcome _

pub choice_plain : (t : Option Kind) (a b : Option Operand) → IsPlain (choice_outcome t a b)
choice_plain None a b = plain_silent
choice_plain (Some t) None b = plain_silent
choice_plain (Some t) (Some a) None = plain_silent
choice_plain (Some t) (Some a) (Some b) = plain_if (is_scalar t) _ _ (plain_outcome _) plain_wrong

pub size_plain : (env : Env) (k : Kind) → IsPlain (size_outcome env k)
size_plain env k = plain_if (laid_out env k) _ _ plain_gives plain_wrong

-- an outcome that lacks this field at most
pub data AtMost (x : Name) : Outcome → Type 0 where
  plain : {o : Outcome} → IsPlain o → AtMost x o
  lacks : AtMost x (Lacks x)

most_on : {x : Name} (o : Option Kind) (f : Kind → Outcome) → ((k : Kind) → AtMost x (f k)) → AtMost x (on o f)
most_on None f h = plain plain_silent
most_on (Some k) f h = h k

most_if : {x : Name} (b : Bool) (o : Outcome) → AtMost x o → AtMost x (if b then o else Wrong)
most_if true o h = h
most_if false o h = plain plain_wrong

found_most : (o : Option Declared) (x : Name) → AtMost x (field_found o x)
found_most None x = lacks
found_most (Some f) x = plain (plain_on f.kind Gives (λ k. plain_gives))

fields_most : (o : Option (List Declared)) (x : Name) → AtMost x (field_outcome o x)
fields_most None x = plain plain_wrong
fields_most (Some fs) x = found_most (field_named fs x.text) x

base_most : (env : Env) (b : KindBase) (x : Name) → AtMost x (field_by env b x)
base_most env kind.Void x = plain plain_wrong
base_most env (kind.Integer w s) x = plain plain_wrong
base_most env (kind.Struct n) x = fields_most (fields_of env n) x
base_most env (kind.Function n) x = plain plain_wrong

field_most : (env : Env) (k : Kind) (x : Name) → AtMost x (field_of env k x)
field_most env k x = most_if _ (field_by env k.base x) (base_most env k.base x)

arrow_most : (env : Env) (k : Kind) (x : Name) → AtMost x (arrow_of env k x)
arrow_most env k x = most_if _ (field_of env (target k) x) (field_most env (target k) x)

long_most : {x : Name} {o : Outcome} → AtMost x o → AtMost x (as_long o)
long_most (plain plain_gives) = plain plain_gives
long_most (plain plain_wrong) = plain plain_wrong
long_most (plain plain_silent) = plain plain_silent
long_most lacks = lacks

pub offset_most : (env : Env) (x : Name) (o : Option Kind) → AtMost x (on o (offset_outcome env x))
offset_most env x o = most_on o (offset_outcome env x) (λ k. most_if (laid_out env k) (as_long (field_of env k x)) (long_most (field_most env k x)))

-- that it lacks a field
abbrev pub lack_faults : Outcome → List Fault
lack_faults (Lacks x) = undeclared x
lack_faults o = []

module _ (n : ℕ) (p : Probe) where
  pub late_most : {x : Name} {o : Outcome} (s : Span) → AtMost x o → n < x.span.start → n < s.end → shows n p (outcome_faults o s) ≡ false
  late_most s (plain h) lt le = late_outcome n p s h le
  late_most {x} s lacks lt le = late_undeclared n p x lt

  pub lack_late : {x : Name} {o : Outcome} → AtMost x o → n < x.span.start → shows n p (lack_faults o) ≡ false
  lack_late (plain plain_gives) lt = refl
  lack_late (plain plain_wrong) lt = refl
  lack_late (plain plain_silent) lt = refl
  lack_late {x} lacks lt = late_undeclared n p x lt

  -- what is wrong but that it lacks a field is not known yet
  pub lack_only : (o : Outcome) (s : Span) → n < s.end → shows n p (outcome_faults o s) ≡ shows n p (lack_faults o)
  lack_only (Gives k) s h = refl
  lack_only Wrong s h = late_misfit n p s h
  lack_only (Lacks x) s h = refl
  lack_only Silent s h = refl

-- 2. Suffixes

-- what is said of `.x` and `->x`
pub record IsField (s : Suffix) (x : Name) : Type 0 where
  pub no_index : (env : Env) → index_faults env (known_suffix s) ≡ []
  pub ends : suffix_end (known_suffix s) ≡ x.span
  pub spans : suffix_span s ≡ x.span
  pub only : (env : Env) (k : Option Kind) → AtMost x (suffix_outcome env k (known_suffix s))

dot_field : (x : Name) → IsField (suffix.Field x) x
dot_field x = record {
  no_index = λ env. ap (index_faults env) (suffix_known (Suffix-F.Field x));
  ends = ap suffix_end (suffix_known (Suffix-F.Field x));
  spans = ap suffix_layer_span (suffix_out_at (Suffix-F.Field x));
  only = λ env k. subst (λ (z : KnownSuffix). AtMost x (suffix_outcome env k z)) (sym (suffix_known (Suffix-F.Field x)))
      (most_on k (λ j. field_of env j x) (λ j. field_most env j x));
}

arrow_field : (x : Name) → IsField (suffix.Arrow x) x
arrow_field x = record {
  no_index = λ env. ap (index_faults env) (suffix_known (Suffix-F.Arrow x));
  ends = ap suffix_end (suffix_known (Suffix-F.Arrow x));
  spans = ap suffix_layer_span (suffix_out_at (Suffix-F.Arrow x));
  only = λ env k. subst (λ (z : KnownSuffix). AtMost x (suffix_outcome env k z)) (sym (suffix_known (Suffix-F.Arrow x)))
      (most_on k (λ j. arrow_of env j x) (λ j. arrow_most env j x));
}

data DotOrArrow (x : Name) : Suffix → Type 0 where
  a_dot : DotOrArrow x (suffix.Field x)
  an_arrow : DotOrArrow x (suffix.Arrow x)

dot_or_arrow : (y : Terminal) (x : Name) → DotOrArrow x (field_suffix y x)
dot_or_arrow (Rattle.c_tree.specs.Words.Of
    (Rattle.c_lexer.specs.declared.token.TokenKind.TheVariants.Sign Rattle.c_lexer.specs.declared.token.Sign.TheVariants.Dot)) x = a_dot
dot_or_arrow y x = an_arrow

pub field_is : (y : Terminal) (x : Name) → IsField (field_suffix y x) x
field_is y x = go (dot_or_arrow y x)
  where
    go : {s : Suffix} → DotOrArrow x s → IsField s x
    go a_dot = dot_field x
    go an_arrow = arrow_field x

pub index_known : (t : Token) (i : Expr) (s : Token) → known_suffix (index_suffix t i s) ≡ Index (checked i) (join (at t) (at s))
index_known t i s = suffix_known (Suffix-F.Index i (join (at t) (at s)))

pub index_span : (t : Token) (i : Expr) (s : Token) → suffix_span (index_suffix t i s) ≡ join (at t) (at s)
index_span t i s = ap suffix_layer_span (suffix_out_at (Suffix-F.Index i (join (at t) (at s))))

pub index_plain : (env : Env) (k : Option Kind) (i : Known) (s : Span) → IsPlain (suffix_outcome env k (Index i s))
index_plain env k i s = plain_on k _ (λ j. plain_on (i.value.kind env) _ (λ h. plain_if _ _ _ plain_gives plain_wrong))

-- 3. What is told of made values

or_prefix : (a q r o : Bool) → (a || ((r || q) || o)) ≡ (((a || q) || r) || o)
or_prefix true q r o = refl
or_prefix false true true o = refl
or_prefix false true false o = refl
or_prefix false false true o = refl
or_prefix false false false o = refl

-- the end of a value with operators before it
pub prefixed_end : (ps : List PrefixOperator) (a : Expr) → (span_of (prefixed ps a)).end ≡ (span_of a).end
prefixed_end [] a = refl
prefixed_end (q ∷ ps) a = refl

module _ (n : ℕ) (p : Probe) (env : Env) where
  abbrev v : Expr → Bool
  v e = shows n p ((checked e).value.faults env)

  pub bracketed_tells : (e : Expr) (s : Span) → v (bracketed s e) ≡ v e
  bracketed_tells e s = ap (λ (z : c.Checked). shows n p (z.faults env)) (Rattle.c_fronts.proofs.Unfold.bracketed_value e s)

  pub prefixed_tells : (ps : List PrefixOperator) (a : Expr)
      → v (prefixed ps a) ≡ (v a || shows n p (prefix_faults env ps ((checked a).value.kind env) (checked a).span))
  prefixed_tells [] a = sym (or_none (v a))
  prefixed_tells (q ∷ ps) a = ap (λ (z : c.Checked). shows n p (z.faults env)) (value_at (Shape-F.Prefix (q ∷ ps) a) (join q.span (span_of a)))
      ∙ shows_append n p ((checked a).value.faults env) (prefix_faults env (q ∷ ps) ((checked a).value.kind env) (checked a).span)

  pub suffixed_tells : (a : Expr) (xs : List Suffix)
      → v (suffixed a xs) ≡ (v a || shows n p (suffix_faults env (checked a).span ((checked a).value.kind env) (map known_suffix xs)))
  suffixed_tells a [] = sym (or_none (v a))
  suffixed_tells a (x ∷ xs) = ap (λ (z : c.Checked). shows n p (z.faults env)) (value_at (Shape-F.Postfix a (x ∷ xs)) (join (span_of a) (last_suffix x xs)))
      ∙ shows_append n p ((checked a).value.faults env) (suffix_faults env (checked a).span ((checked a).value.kind env) (map known_suffix (x ∷ xs)))

  pub chained_tells : (a : Expr) (ls : List Link)
      → v (chained a ls) ≡ (v a || shows n p (chain_faults env (checked a).span (operand_of env (checked a)) (map known_link ls)))
  chained_tells a [] = sym (or_none (v a))
  chained_tells a (l ∷ ls) = ap (λ (z : c.Checked). shows n p (z.faults env))
      (value_at (Shape-F.Chain a (l ∷ ls)) (join (span_of a) (last_operand (span_of a) (l ∷ ls))))
      ∙ shows_append n p ((checked a).value.faults env) (chain_faults env (checked a).span (operand_of env (checked a)) (map known_link (l ∷ ls)))

  pub conditional_tells : (cs : List Choice) (e : Expr) → v (conditional cs e) ≡ shows n p (choice_faults env (map known_choice cs) (checked e))
  conditional_tells [] e = refl
  conditional_tells (x ∷ cs) e = ap (λ (z : c.Checked). shows n p (z.faults env))
      (value_at (Shape-F.Conditional (x ∷ cs) e) (join (span_of (Rattle.c_tree.specs.declared.code.Choice.out-Choice x).test) (span_of e)))

  pub known_end : (e : Expr) → n < (span_of e).end → n < (checked e).span.end
  known_end e h = subst (λ (s : Span). n < s.end) (sym (span_out e)) h

  -- one operator more
  pub one_more_prefix : (q : PrefixOperator) (r : List PrefixOperator × Expr) → n < (span_of (with_prefixes r)).end
      → v (with_prefixes (one_prefix q r)) ≡ (shows n p (cast_faults env q.prefix) || v (with_prefixes r))
  one_more_prefix q r h =
      let late : n < (checked r.1).span.end = known_end r.1 (subst (λ (z : ℕ). n < z) (prefixed_end r.0 r.1) h) in
      let out = outcome_faults (on (prefix_kind env r.0 ((checked r.1).value.kind env)) (prefix_by env q.prefix)) (join q.span (checked r.1).span) in
      let rest = prefix_faults env r.0 ((checked r.1).value.kind env) (checked r.1).span in
      let none : shows n p out ≡ false = late_outcome n p (join q.span (checked r.1).span)
      (plain_on (prefix_kind env r.0 ((checked r.1).value.kind env)) (prefix_by env q.prefix) (prefix_plain env q.prefix)) late in
      prefixed_tells (q ∷ r.0) r.1 ∙ ap (λ x. v r.1 || x) (shows_three n p (cast_faults env q.prefix) rest out)
      ∙ or_prefix (v r.1) (shows n p rest) (shows n p (cast_faults env q.prefix)) (shows n p out)
      ∙ or_drop ((v r.1 || shows n p rest) || shows n p (cast_faults env q.prefix)) (shows n p out) none
      ∙ ap (λ x. x || shows n p (cast_faults env q.prefix)) (sym (prefixed_tells r.0 r.1))
      ∙ Rattle.c_fronts.proofs.Shows.or_turn (v (with_prefixes r)) (shows n p (cast_faults env q.prefix))

  -- one choice more
  pub one_more_choice : (t b : Expr) (cs : List Choice) (e : Expr) → n < (span_of e).end
      → v (conditional (choice t b ∷ cs) e) ≡ ((v t || v b) || v (conditional cs e))
  one_more_choice t b cs e h =
      let made : KnownChoice = record { test = checked t; yes = checked b } in
      let out = outcome_faults (choice_outcome ((checked t).value.kind env) (operand_of env (checked b))
      (choice_operand env (map known_choice cs) (operand_of env (checked e)))) (join (checked t).span (checked e).span) in
      conditional_tells (choice t b ∷ cs) e ∙ ap (λ (z : KnownChoice). shows n p (choice_faults env (z ∷ map known_choice cs) (checked e))) (choice_known t b)
      ∙ shows_drop n p ((checked t).value.faults env ++ (checked b).value.faults env ++ choice_faults env (map known_choice cs) (checked e)) out
      (late_outcome n p (join (checked t).span (checked e).span)
      (choice_plain ((checked t).value.kind env) (operand_of env (checked b)) (choice_operand env (map known_choice cs) (operand_of env (checked e))))
      (known_end e h))
      ∙ shows_three n p ((checked t).value.faults env) ((checked b).value.faults env) (choice_faults env (map known_choice cs) (checked e))
      ∙ ap (λ x. (v t || v b) || x) (sym (conditional_tells cs e))

  -- links, behind what they are to
  pub one_more_link : (first : Span) (given : Option Operand) (o : BinaryOperator) (b : Expr) (ls : List Link)
      → shows n p (chain_faults env first given (map known_link (link o b ∷ ls)))
      ≡ ((v b || shows n p (outcome_faults (join_outcome env o given (operand_of env (checked b))) (join first (checked b).span))) || shows n p
      (chain_faults env first (joined env o given (operand_of env (checked b))) (map known_link ls)))
  one_more_link first given o b ls =
      ap (λ (z : KnownLink). shows n p (chain_faults env first given (z ∷ map known_link ls))) (link_known o b)
      ∙ shows_three n p ((checked b).value.faults env) (outcome_faults (join_outcome env o given (operand_of env (checked b))) (join first (checked b).span))
      (chain_faults env first (joined env o given (operand_of env (checked b))) (map known_link ls))

  pub link_late : (first : Span) (given : Option Operand) (o : BinaryOperator) (b : Expr) → n < (span_of b).end
      → shows n p (outcome_faults (join_outcome env o given (operand_of env (checked b))) (join first (checked b).span)) ≡ false
  link_late first given o b h = late_outcome n p (join first (checked b).span) (join_plain env o given (operand_of env (checked b))) (known_end b h)
