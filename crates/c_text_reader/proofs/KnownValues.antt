-- The faults of types and values are known by the end of their text.
use Rattle.std.proofs.Common.{◌≡◌, ◌∙◌, refl, sym, ap, subst, ℕ, ◌<◌, ◌≤◌, Bool, true, false, ◌||◌, List, [], ◌∷◌, ◌++◌, map, Option, Some, None, arith}
use Rattle.c_lexer.specs.declared.token.TokenKind.TheVariants as k
use Rattle.c_lexer.specs.declared.token.Sign.{Sign}
use Rattle.c_lexer.specs.declared.token.Sign.TheVariants as sign
use Rattle.c_tree.specs.declared.names.Base.{Base}
use Rattle.c_tree.specs.declared.names.Base.TheVariants as base
use Rattle.c_tree.specs.declared.names.CType.{CType}
use Rattle.c_tree.specs.declared.names.Name.{Name}
use Rattle.c_tree.specs.declared.names.Span.{Span}
use Rattle.c_tree.specs.declared.operators.BinaryOperator.{BinaryOperator}
use Rattle.c_tree.specs.declared.operators.Prefix.{Prefix}
use Rattle.c_tree.specs.declared.operators.Prefix.TheVariants as prefix
use Rattle.c_tree.specs.declared.operators.PrefixOperator.{PrefixOperator}
use Rattle.c_tree.specs.declared.code.Expr.{Expr}
use Rattle.c_tree.specs.declared.code.Link.{Link, out-Link}
use Rattle.c_tree.specs.declared.code.Choice.{Choice, out-Choice}
use Rattle.c_tree.specs.declared.code.Shape.{Shape}
use Rattle.c_tree.specs.declared.code.Shape.TheOpen.{Shape-F, Suffix-F}
use Rattle.c_tree.specs.declared.code.Suffix.{Suffix}
use Rattle.c_tree.specs.declared.code.Suffix.TheVariants as suffix
use Rattle.c_tree.specs.declared.kinds.Kind.{Kind}
use Rattle.c_tree.specs.declared.kinds.Operand.{Operand}
use Rattle.c_tree.specs.declared.kinds.Fault.{Fault}
use Rattle.c_tree.specs.Words.{Of, Token, Word, at, join, start_of, end_of}
use Rattle.c_tree.specs.Names.{Names}
use Rattle.c_tree.specs.Types.{BaseIs, void_is, int_is, char_is, named_is, ReadsType, type_is}
use Rattle.c_tree.specs.Make.{name_at, expr, span_of, bracketed, link, choice, chained, prefixed, suffixed, conditional, last_operand, last_suffix}
use Rattle.c_tree.specs.Make.{suffix_span, suffix_layer_span}
use Rattle.c_tree.specs.Env.{Env, found, kind_of}
use Rattle.c_tree.specs.Faults.{Outcome, outcome_faults, outcome_kind, on}
use Rattle.c_tree.specs.Checks as c
use Rattle.c_tree.specs.Checks.{Known, KnownLink, KnownChoice, KnownSuffix, Field, Arrow, Index, checked, check_shape, type_faults, operand_of}
use Rattle.c_tree.specs.Checks.{joined, join_outcome, chain_faults, choice_outcome, choice_operand, choice_faults, prefix_kind, prefix_by}
use Rattle.c_tree.specs.Checks.{prefix_faults, cast_faults, suffix_outcome, suffix_end, suffix_faults, index_faults, size_outcome, offset_outcome}
use Rattle.c_tree.specs.Values as v
use Rattle.c_tree.specs.Values.{prefix_of}
use Rattle.c_fronts.proofs.Shows.{IsPlain, plain_on}
use Rattle.c_fronts.proofs.Unfold.{shape_at, known_layer, value_at, span_out, bracketed_value, known_link, known_choice, known_suffix, link_known}
use Rattle.c_fronts.proofs.Unfold.{choice_known, suffix_known, suffix_out_at}
use Rattle.c_fronts.proofs.ValueFaults.{AtMost, prefix_plain, join_plain, choice_plain, size_plain, offset_most, IsField, field_is, index_plain}
use Rattle.c_text_reader.specs.Laws.{Within}
use Rattle.c_text_reader.proofs.Early.{Early, IsIn, early_append, early_three, early_undeclared, early_name, early_plain, early_most}

pub within_append : (n : ℕ) (u w : Word) → Within n (u ++ w) → Within n u × Within n w
within_append n [] w g = (tt, g)
within_append n (t ∷ u) w g = let q = within_append n u w g.1 in ((g.0, q.0), q.1)

module _ (n : ℕ) where
  -- 1. Types

  -- a base stands within the place
  abbrev pub BaseIn : Base → Type 0
  BaseIn (base.Named x) = IsIn n x.span
  BaseIn b = Unit {0}

  -- so does a type
  abbrev pub TypeIn : CType → Type 0
  TypeIn y = BaseIn y.base × (y.span.start < n)

  base_early : (env : Env) (b : Base) → BaseIn b → Early n (c.base_faults env b)
  base_early env (base.Named x) h = early_name n (found env.scopes x.text) x h
  base_early env base.Void h = tt
  base_early env base.Int h = tt
  base_early env base.Char h = tt

  pub type_early : (env : Env) (y : CType) → TypeIn y → Early n (type_faults env y)
  type_early env y h = base_early env y.base h.0

  base_in : {ns : Names} {anyhow : Bool} {t : Token} {x : Base} → BaseIs ns anyhow t x → IsIn n (at t) → BaseIn x
  base_in (void_is i) g = tt
  base_in (int_is i) g = tt
  base_in (char_is i) g = tt
  base_in (named_is i h) g = g

  pub start_in : (w : Word) → 0 < n → Within n w → start_of 0 w < n
  start_in [] h g = h
  start_in (t ∷ w) h g = g.0.0

  pub end_in : (m : ℕ) (w : Word) → m ≤ n → Within n w → end_of m w ≤ n
  end_in m [] h g = h
  end_in m (t ∷ w) h g = end_in t.end w g.0.1 g.1

  pub type_in : {ns : Names} {anyhow : Bool} {w : Word} {y : CType} → ReadsType ns anyhow w y → Within n w → TypeIn y
  type_in (type_is {t} {u} {v = z} {w} cs is ds ss) g =
      let p = within_append n (u ++ t ∷ z) w g in let q = within_append n u (t ∷ z) p.0 in
      (base_in is q.1.0, start_in (u ++ t ∷ z ++ w) (omega (arith, q.1.0.0)) g)

  -- 2. Made values

  -- a value stands within the place, and its faults are known by it
  pub record Fine (e : Expr) : Type 0 where
    pub span : IsIn n (span_of e)
    pub faults : (env : Env) → Early n ((checked e).value.faults env)

  pub known_in : (e : Expr) → IsIn n (span_of e) → IsIn n (checked e).span
  known_in e h = subst (λ (s : Span). IsIn n s) (sym (span_out e)) h

  made : (l : Shape-F Shape Suffix Choice Expr Link) (o : Span) → IsIn n o → ((env : Env) → Early n ((check_shape (known_layer l)).faults env))
      → Fine (expr (shape_at l) o)
  made l o h f = record { span = h; faults = λ env. subst (λ (z : c.Checked). Early n (z.faults env)) (sym (value_at l o)) (f env) }

  pub bracketed_fine : (e : Expr) (o : Span) → IsIn n o → Fine e → Fine (bracketed o e)
  bracketed_fine e o h f = record { span = h; faults = λ env. subst (λ (z : c.Checked). Early n (z.faults env)) (sym (bracketed_value e o)) (f.faults env) }

  -- links, behind what they are to
  pub record FineLinks (ls : List Link) : Type 0 where
    pub ends : (s : Span) → IsIn n s → (last_operand s ls).end ≤ n
    pub faults : (env : Env) (first : Span) (a : Option Operand) → first.start < n → Early n (chain_faults env first a (map known_link ls))

  no_links : FineLinks []
  no_links = record { ends = λ s h. h.1; faults = λ env first a h. tt }

  more_links : (o : BinaryOperator) (b : Expr) (ls : List Link) → Fine b → FineLinks ls → FineLinks (link o b ∷ ls)
  more_links o b ls f r = record {
    ends = λ s h. r.ends (span_of b) f.span;
    faults = λ env first a h. subst (λ (z : KnownLink). Early n (chain_faults env first a (z ∷ map known_link ls))) (sym (link_known o b))
        (early_three n ((checked b).value.faults env) (outcome_faults (join_outcome env o a (operand_of env (checked b)))
        (join first (checked b).span)) (chain_faults env first (joined env o a (operand_of env (checked b))) (map known_link ls))
        (f.faults env) (early_plain n (join first (checked b).span) (join_plain env o a (operand_of env (checked b))) (h, (known_in b f.span).1))
        (r.faults env first (joined env o a (operand_of env (checked b))) h));
  }

  chained_fine : (a : Expr) (ls : List Link) → Fine a → FineLinks ls → Fine (chained a ls)
  chained_fine a [] f r = f
  chained_fine a (l ∷ ls) f r = made (Shape-F.Chain a (l ∷ ls)) (join (span_of a) (last_operand (span_of a) (l ∷ ls))) (f.span.0, r.ends (span_of a) f.span)
      (λ env. early_append n ((checked a).value.faults env) (chain_faults env (checked a).span (operand_of env (checked a)) (map known_link (l ∷ ls)))
      (f.faults env)
      (r.faults env (checked a).span (operand_of env (checked a)) (known_in a f.span).0))

  -- the type of a cast
  abbrev CastIn : Prefix → Type 0
  CastIn (prefix.Cast y) = TypeIn y
  CastIn p = Unit {0}

  abbrev PrefixesIn : List PrefixOperator → Type 0
  PrefixesIn [] = Unit {0}
  PrefixesIn (p ∷ ps) = ((p.span.start < n) × CastIn p.prefix) × PrefixesIn ps

  SignIn : Option Prefix → Type 0
  SignIn None = Unit {0}
  SignIn (Some p) = CastIn p

  sign_in : (constant : Bool) (s : Sign) → SignIn (prefix_of constant s)
  unfolding SignIn
  sign_in constant sign.Plus = tt
  sign_in constant sign.Minus = tt
  sign_in constant sign.Not = tt
  sign_in constant sign.Tilde = tt
  sign_in false sign.Star = tt
  sign_in false sign.Ampersand = tt
  sign_in constant s = tt

  by_sign : (constant : Bool) (s : Sign) (p : Prefix) → prefix_of constant s ≡ Some p → CastIn p
  unfolding SignIn
  by_sign constant s p h = subst SignIn h (sign_in constant s)

  cast_early : (env : Env) (p : Prefix) → CastIn p → Early n (cast_faults env p)
  cast_early env (prefix.Cast y) h = type_early env y h
  cast_early env prefix.Plus h = tt
  cast_early env prefix.Minus h = tt
  cast_early env prefix.Complement h = tt
  cast_early env prefix.Not h = tt
  cast_early env prefix.Deref h = tt
  cast_early env prefix.AddressOf h = tt

  prefixes_early : (env : Env) (ps : List PrefixOperator) (k : Option Kind) (last : Span) → PrefixesIn ps → last.end ≤ n → Early n (prefix_faults env ps k last)
  prefixes_early env [] k last h i = tt
  prefixes_early env (p ∷ ps) k last h i =
      early_three n (cast_faults env p.prefix) (prefix_faults env ps k last)
      (outcome_faults (on (prefix_kind env ps k) (prefix_by env p.prefix)) (join p.span last)) (cast_early env p.prefix h.0.1)
      (prefixes_early env ps k last h.1 i)
      (early_plain n (join p.span last) (plain_on (prefix_kind env ps k) (prefix_by env p.prefix) (prefix_plain env p.prefix)) (h.0.0, i))

  prefixed_fine : (ps : List PrefixOperator) (a : Expr) → PrefixesIn ps → Fine a → Fine (prefixed ps a)
  prefixed_fine [] a h f = f
  prefixed_fine (p ∷ ps) a h f = made (Shape-F.Prefix (p ∷ ps) a) (join p.span (span_of a)) (h.0.0, f.span.1)
      (λ env. early_append n ((checked a).value.faults env) (prefix_faults env (p ∷ ps) ((checked a).value.kind env) (checked a).span) (f.faults env)
      (prefixes_early env (p ∷ ps) ((checked a).value.kind env) (checked a).span h (known_in a f.span).1))

  -- suffixes
  pub record FineSuffixes (xs : List Suffix) : Type 0 where
    pub faults : (env : Env) (first : Span) (k : Option Kind) → first.start < n → Early n (suffix_faults env first k (map known_suffix xs))

  -- where suffixes end
  abbrev LastIn : List Suffix → Type 0
  LastIn [] = Unit {0}
  LastIn (x ∷ xs) = (last_suffix x xs).end ≤ n

  last_in : (x : Suffix) (xs : List Suffix) → (suffix_span x).end ≤ n → LastIn xs → LastIn (x ∷ xs)
  last_in x [] h r = h
  last_in x (y ∷ xs) h r = r

  ends_at : (e : Expr) (o : Span) → suffix_span (suffix.Index e o) ≡ o
  ends_at e o = ap suffix_layer_span (suffix_out_at (Suffix-F.Index e o))

  field_more : (s : Suffix) (x : Name) (xs : List Suffix) → IsField s x → IsIn n x.span → FineSuffixes xs → FineSuffixes (s ∷ xs)
  field_more s x xs f h r = record {
    faults = λ env first k i.
        let o = suffix_outcome env k (known_suffix s) in
        early_three n (index_faults env (known_suffix s)) (outcome_faults o (join first (suffix_end (known_suffix s))))
        (suffix_faults env first (outcome_kind o) (map known_suffix xs))
        (subst (λ (z : List Fault). Early n z) (sym (f.no_index env)) tt)
        (early_most n (join first (suffix_end (known_suffix s))) (f.only env k) h (i, subst (λ (z : Span). z.end ≤ n) (sym f.ends) h.1))
        (r.faults env first (outcome_kind o) i);
  }

  index_more : (e : Expr) (o : Span) (xs : List Suffix) → Fine e → IsIn n o → FineSuffixes xs → FineSuffixes (suffix.Index e o ∷ xs)
  index_more e o xs f h r = record {
    faults = λ env first k i.
        let out = suffix_outcome env k (Index (checked e) o) in
        subst (λ (z : KnownSuffix). Early n (suffix_faults env first k (z ∷ map known_suffix xs))) (sym (suffix_known (Suffix-F.Index e o)))
        (early_three n ((checked e).value.faults env) (outcome_faults out (join first o)) (suffix_faults env first (outcome_kind out) (map known_suffix xs))
        (f.faults env) (early_plain n (join first o) (index_plain env k (checked e) o) (i, h.1)) (r.faults env first (outcome_kind out) i));
  }

  suffixed_fine : (a : Expr) (xs : List Suffix) → Fine a → LastIn xs → FineSuffixes xs → Fine (suffixed a xs)
  suffixed_fine a [] f l r = f
  suffixed_fine a (x ∷ xs) f l r = made (Shape-F.Postfix a (x ∷ xs)) (join (span_of a) (last_suffix x xs)) (f.span.0, l)
      (λ env. early_append n ((checked a).value.faults env) (suffix_faults env (checked a).span ((checked a).value.kind env)
      (map known_suffix (x ∷ xs))) (f.faults env)
      (r.faults env (checked a).span ((checked a).value.kind env) (known_in a f.span).0))

  -- choices, in front of the value behind the last `:`
  pub record FineChoices (cs : List Choice) (e : Expr) : Type 0 where
    pub faults : (env : Env) → Early n (choice_faults env (map known_choice cs) (checked e))

  -- where choices begin
  abbrev FirstIn : List Choice → Type 0
  FirstIn [] = Unit {0}
  FirstIn (x ∷ cs) = (span_of (out-Choice x).test).start < n

  choice_more : (a b : Expr) (cs : List Choice) (e : Expr) → Fine a → Fine b → Fine e → FineChoices cs e → FineChoices (choice a b ∷ cs) e
  choice_more a b cs e f g h r = record {
    faults = λ env.
        let o = choice_outcome ((checked a).value.kind env) (operand_of env (checked b))
        (choice_operand env (map known_choice cs) (operand_of env (checked e))) in
        subst (λ (z : KnownChoice). Early n (choice_faults env (z ∷ map known_choice cs) (checked e))) (sym (choice_known a b))
        (early_append n ((checked a).value.faults env ++ (checked b).value.faults env ++ choice_faults env (map known_choice cs) (checked e))
        (outcome_faults o (join (checked a).span (checked e).span))
        (early_three n ((checked a).value.faults env) ((checked b).value.faults env) (choice_faults env (map known_choice cs) (checked e))
        (f.faults env) (g.faults env) (r.faults env))
        (early_plain n (join (checked a).span (checked e).span)
        (choice_plain ((checked a).value.kind env) (operand_of env (checked b))
        (choice_operand env (map known_choice cs) (operand_of env (checked e)))) ((known_in a f.span).0, (known_in e h.span).1)));
  }

  conditional_fine : (cs : List Choice) (e : Expr) → FirstIn cs → Fine e → FineChoices cs e → Fine (conditional cs e)
  conditional_fine [] e i f r = f
  conditional_fine (x ∷ cs) e i f r = made (Shape-F.Conditional (x ∷ cs) e) (join (span_of (out-Choice x).test) (span_of e)) (i, f.span.1) (λ env. r.faults env)

  -- 3. All readings

  abbrev pub FineAll : List Expr → Type 0
  FineAll [] = Unit {0}
  FineAll (e ∷ es) = Fine e × FineAll es

  -- choices, and the value behind them
  record FineChosen (cs : List Choice) (e : Expr) : Type 0 where
    last : Fine e
    first : FirstIn cs
    all : FineChoices cs e

  abbrev Claim : (p : v.Part) → v.tree_of p → Type 0
  Claim v.Value e = Fine e
  Claim v.Choosing x = FineChosen x.0 x.1
  Claim (v.Chained l) e = Fine e
  Claim (v.Links l) ls = FineLinks ls
  Claim (v.Operand l) e = Fine e
  Claim v.Prefixed x = PrefixesIn x.0 × Fine x.1
  Claim v.Postfixed e = Fine e
  Claim v.Suffixes xs = LastIn xs × FineSuffixes xs
  Claim v.Primary e = Fine e
  Claim v.Arguments es = FineAll es
  Claim v.MoreArguments es = FineAll es

  fine : {ns : Names} {constant : Bool} {p : v.Part} {w : Word} {x : v.tree_of p} → v.Reads ns constant p w x → Within n w → Claim p x
  fine (v.value {cs} {e} r) g = let q = fine r g in conditional_fine cs e q.first q.last q.all
  fine (v.last_choice {a} r) g = let f = fine r g in record { last = f; first = tt; all = record { faults = λ env. f.faults env } }
  fine (v.more_choices t s {u} {v = z} {w} {a} {b} {e} {cs} ra i rb j rest) g =
      let p = within_append n (u ++ t ∷ z) (s ∷ w) g in let q = within_append n u (t ∷ z) p.0 in let m = fine rest p.1.1 in let f = fine ra q.0 in
      record { last = m.last; first = f.span.0; all = choice_more a b cs e f (fine rb q.1.1) m.last m.all }
  fine (v.chain {u} {v = z} {a} {ls} ra rest) g = let p = within_append n u z g in chained_fine a ls (fine ra p.0) (fine rest p.1)
  fine v.no_link g = no_links
  fine (v.more_links {o} {u} {v = z} {b} {ls} i h j rb rest) g = let p = within_append n u z g.1 in more_links o b ls (fine rb p.0) (fine rest p.1)
  fine (v.operand h r) g = fine r g
  fine (v.tightest {ps} {a} r) g = let q = fine r g in prefixed_fine ps a q.0 q.1
  fine (v.no_prefix r) g = (tt, fine r g)
  fine {constant} (v.more_prefixes {s} {p} i h r m) g = let q = fine r g.1 in (((g.0.0, by_sign constant s p h), q.0), q.1)
  fine (v.cast {t} s {u} {w} i rc h j r) g =
      let p = within_append n (t ∷ u) (s ∷ w) g in let q = fine r p.1.1 in (((p.0.0.0, type_in rc p.0.1), q.0), q.1)
  fine (v.postfixed {u} {v = z} {a} {xs} ra rest h) g = let p = within_append n u z g in let q = fine rest p.1 in suffixed_fine a xs (fine ra p.0) q.0 q.1
  fine v.no_suffix g = (tt, record { faults = λ env first k h. tt })
  fine (v.field {n = x} {xs} h i j rest) g =
      let q = fine rest g.1.1 in let d = field_is (Of (k.Sign sign.Dot)) (name_at x) in (
        last_in (suffix.Field (name_at x)) xs (subst (λ (z : Span). z.end ≤ n) (sym d.spans) g.1.0.1) q.0,
        field_more (suffix.Field (name_at x)) (name_at x) xs d g.1.0 q.1,
      )
  fine (v.arrow {n = x} {xs} h i j rest) g =
      let q = fine rest g.1.1 in let d = field_is (Of (k.Sign sign.Arrow)) (name_at x) in (
        last_in (suffix.Arrow (name_at x)) xs (subst (λ (z : Span). z.end ≤ n) (sym d.spans) g.1.0.1) q.0,
        field_more (suffix.Arrow (name_at x)) (name_at x) xs d g.1.0 q.1,
      )
  fine (v.index {t} s {v = z} {w} {i = x} {xs} h j ri m rest) g =
      let p = within_append n (t ∷ z) (s ∷ w) g in let q = fine rest p.1.1 in let o = join (at t) (at s) in (
        last_in (suffix.Index x o) xs (subst (λ (y : Span). y.end ≤ n) (sym (ends_at x o)) p.1.0.1) q.0,
        index_more x o xs (fine ri p.0.1) (p.0.0.0, p.1.0.1) q.1,
      )
  fine (v.number {t} {n = m} {y} i) g = made (Shape-F.Number (record { value = m; kind = y })) (at t) g.0 (λ env. tt)
  fine (v.character {t} {b} i) g = made (Shape-F.Character b) (at t) g.0 (λ env. tt)
  fine (v.text {t} i) g = made (Shape-F.Text t.bytes) (at t) g.0 (λ env. tt)
  fine (v.constant_name {t} {c = x} i) g = made (Shape-F.Constant x) (at t) g.0 (λ env. tt)
  fine (v.variable {t} i h) g = made (Shape-F.Variable (name_at t)) (at t) g.0 (λ env. early_name n (found env.scopes t.bytes) (name_at t) g.0)
  fine (v.function {t} i h) g = made (Shape-F.Function (name_at t)) (at t) g.0 (λ env. tt)
  fine (v.member {t} i h) g = made (Shape-F.Member (name_at t)) (at t) g.0 (λ env. tt)
  fine (v.size_of {t} {r} s {w} {c = y} i j rc h m) g =
      let p = within_append n (t ∷ r ∷ w) (s ∷ []) g in let o = join (at t) (at s) in let here : IsIn n o = (p.0.0.0, p.1.0.1) in
      made (Shape-F.SizeOf y o) o here (λ env. early_append n (type_faults env y) (outcome_faults (on (kind_of env y) (size_outcome env)) o)
      (type_early env y (type_in rc p.0.1.1))
      (early_plain n o (plain_on (kind_of env y) (size_outcome env) (size_plain env)) here))
  fine (v.offset {t} {r} d f s {w} {c = y} i j rc h m x z) g =
      let p = within_append n (t ∷ r ∷ w) (d ∷ f ∷ s ∷ []) g in let o = join (at t) (at s) in let here : IsIn n o = (p.0.0.0, p.1.1.1.0.1) in
      made (Shape-F.Offset y (name_at f) o) o here (λ env. early_append n (type_faults env y)
      (outcome_faults (on (kind_of env y) (offset_outcome env (name_at f))) o) (type_early env y (type_in rc p.0.1.1))
      (early_most n o (offset_most env (name_at f) (kind_of env y)) p.1.1.0 here))
  fine (v.brackets {t} s {w} {a} i r j) g = let p = within_append n (t ∷ w) (s ∷ []) g
      in bracketed_fine a (join (at t) (at s)) (p.0.0.0, p.1.0.1) (fine r p.0.1)
  fine v.no_argument g = tt
  fine (v.arguments {u} {v = z} ra rest) g = let p = within_append n u z g in (fine ra p.0, fine rest p.1)
  fine v.no_more g = tt
  fine (v.more_arguments {u} {v = z} i ra rest) g = let p = within_append n u z g.1 in (fine ra p.0, fine rest p.1)

  pub value_fine : {ns : Names} {constant : Bool} {w : Word} {e : Expr} → v.Reads ns constant v.Value w e → Within n w → Fine e
  value_fine r g = fine r g

  pub operand_fine : {ns : Names} {constant : Bool} (l : _) {w : Word} {e : Expr} → v.Reads ns constant (v.Operand l) w e → Within n w → Fine e
  operand_fine l r g = fine r g

  pub callee_fine : {ns : Names} {constant : Bool} {w : Word} {e : Expr} → v.Reads ns constant v.Postfixed w e → Within n w → Fine e
  callee_fine r g = fine r g

  pub arguments_fine : {ns : Names} {constant : Bool} {w : Word} {es : List Expr} → v.Reads ns constant v.Arguments w es → Within n w → FineAll es
  arguments_fine r g = fine r g

  pub more_fine : {ns : Names} {constant : Bool} {w : Word} {es : List Expr} → v.Reads ns constant v.MoreArguments w es → Within n w → FineAll es
  more_fine r g = fine r g
