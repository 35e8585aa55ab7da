-- Operators, suffixes, links and choices, one after another.
use Rattle.std.proofs.Common.{
  ◌≡◌,
  ◌∙◌,
  refl,
  sym,
  ap,
  ℕ,
  ◌+◌,
  ◌<◌,
  length,
  get_or,
  drop,
  Bool,
  true,
  false,
  List,
  [],
  ◌∷◌,
  ◌++◌,
  append_assoc,
  map,
  Option,
  Some,
  None,
  Result,
  Ok,
  Err,
  IfOk,
}
use Rattle.c_tree.specs.declared.code.Expr.{Expr}
use Rattle.c_tree.specs.declared.code.Link.{Link}
use Rattle.c_tree.specs.declared.code.Choice.{Choice}
use Rattle.c_tree.specs.declared.code.Suffix.{Suffix}
use Rattle.c_tree.specs.declared.code.Shape.{Shape}
use Rattle.c_tree.specs.declared.code.Shape.TheVariants as shape
use Rattle.c_value_checker.proofs.NotedLemmas.{dropped}
use Rattle.c_resolver.specs.Parts.{resolved_shape, resolved_suffix, resolved_choice, resolved_link}
use Rattle.c_resolver.proofs.ListLemmas.{passed_step}
use Rattle.c_resolver.proofs.PartLemmas.{shape_resolved}
use Rattle.c_tree.specs.declared.operators.Prefix.{Prefix}
use Rattle.c_tree.specs.declared.operators.Prefix.TheVariants as prefix
use Rattle.c_tree.specs.declared.operators.PrefixOperator.{PrefixOperator}
use Rattle.c_tree.specs.declared.code.Shape.TheOpen.{Shape-F}
use Rattle.c_tree.specs.declared.kinds.Kind.{Kind}
use Rattle.c_tree.specs.declared.kinds.Operand.{Operand}
use Rattle.c_tree.specs.Env.{Env}
use Rattle.c_tree.specs.Faults.{outcome_kind}
use Rattle.c_tree.specs.Library.{Literal, Word, Figure}
use Rattle.c_tree.specs.Checks.{
  chain_kind,
  is_null_literal,
  joined,
  minus_literal,
  operand_if,
  operand_kind,
  operand_of,
  choice_outcome,
  choice_operand,
  prefix_kind,
  signed_literal,
  suffix_kind,
}
use Rattle.c_code.specs.declared.code.Alternative.{Alternative}
use Rattle.c_code.specs.declared.code.Start.TheVariants as start
use Rattle.c_code.specs.declared.code.Operation.{Operation}
use Rattle.c_code.specs.Resolved.{
  Bearings,
  Part,
  PartChoice,
  PartSuffix,
  alternatives,
  code,
  env_in,
  known_choices,
  known_links,
  known_suffixes,
  nothing,
  operation,
  operations,
  prefixed,
  read,
  resolve_shape,
  resolved,
  suffixes_place,
}
use Rattle.c_resolver.specs.Shown.{Shown, level_shown, shown}
use Rattle.c_resolver.specs.Steps.{
  all_before,
  all_behind,
  alternative,
  alternatives_by,
  as_place,
  chain_told,
  choice_told,
  codes_of,
  shown_before,
  shown_behind,
}

-- 1. Operators before a value

before_last : (env : Env) (qs : List PrefixOperator) (p : PrefixOperator) (s : Shown)
    → all_before env (qs ++ p ∷ []) s ≡ all_before env qs (shown_before env p s)
before_last env [] p s = refl
before_last env (q ∷ qs) p s = ap (shown_before env q) (before_last env qs p s)

pub prefix_turn : (env : Env) (ops rest : List PrefixOperator) (p : PrefixOperator) (s t : Shown) → ops ≡ rest ++ p ∷ [] → t ≡ shown_before env p s
    → all_before env rest t ≡ all_before env ops s
prefix_turn env ops rest p s t is e = ap (all_before env rest) e ∙ sym (before_last env rest p s) ∙ ap (λ o. all_before env o s) (sym is)

minus_null : (q : Prefix) (n : ℕ) → is_null_literal (minus_literal q n) ≡ false
minus_null prefix.Plus n = refl
minus_null prefix.Minus n = refl
minus_null prefix.Not n = refl
minus_null prefix.Complement n = refl
minus_null prefix.Deref n = refl
minus_null prefix.AddressOf n = refl
minus_null (prefix.Cast c) n = refl

signed_null : (p : PrefixOperator) (ps : List PrefixOperator) (l : Option Literal) → is_null_literal (signed_literal (p ∷ ps) l) ≡ false
signed_null p [] None = refl
signed_null p [] (Some (Word c)) = refl
signed_null p [] (Some (Figure true n)) = refl
signed_null p [] (Some (Figure false n)) = minus_null p.prefix n
signed_null p (q ∷ ps) l = refl

-- what is told of operators before a value
abbrev pub told_before : Env → List PrefixOperator → Bool → Shown → Shown
told_before env ps null s = record {
  kind = prefix_kind env ps s.kind;
  null = null;
  value = (prefixed env ps s.kind (codes_of s)).value;
  place =
      (prefixed env ps s.kind (codes_of s)).place;
}

before_told : (env : Env) (p : PrefixOperator) (ps : List PrefixOperator) (s : Shown) → all_before env (p ∷ ps) s ≡ told_before env (p ∷ ps) false s
before_told env p [] s = refl
before_told env p (q ∷ ps) s = ap (shown_before env p) (before_told env q ps s)

pub before_level : (b : Bearings) (at : ℕ) (ps : List PrefixOperator) (a : Part)
    → all_before (env_in b) ps (shown b a) ≡ level_shown b at (resolve_shape (Shape-F.Prefix ps a))
before_level b at [] a = refl
before_level b at (p ∷ ps) a = before_told (env_in b) p ps (shown b a)
    ∙ ap (λ z. told_before (env_in b) (p ∷ ps) z (shown b a)) (sym (signed_null p ps a.known.value.literal))

-- 2. Suffixes behind a value

behind_kind : (b : Bearings) (s : Shown) (xs : List PartSuffix) → (all_behind b s xs).kind ≡ suffix_kind (env_in b) s.kind (known_suffixes xs)
behind_kind b s [] = refl
behind_kind b s (x ∷ xs) = behind_kind b (shown_behind b s x) xs

behind_place : (b : Bearings) (s : Shown) (xs : List PartSuffix) → (all_behind b s xs).place ≡ suffixes_place b s.kind (codes_of s) xs
behind_place b s [] = refl
behind_place b s (x ∷ xs) = behind_place b (shown_behind b s x) xs

abbrev told_place : Env → Option Kind → Shown → Shown
told_place env k s = record { kind = k; null = false; value = read env k s.place; place = s.place }

pub behind_level : (b : Bearings) (at : ℕ) (a : Part) (xs : List PartSuffix)
    → as_place (env_in b) (all_behind b (shown b a) xs) ≡ level_shown b at (resolve_shape (Shape-F.Postfix a xs))
behind_level b at a xs = λ i. record {
  kind = behind_kind b (shown b a) xs i;
  null = false;
  value = read (env_in b) (behind_kind b (shown b a) xs i)
      (behind_place b (shown b a) xs i);
  place = behind_place b (shown b a) xs i;
}

-- 3. Choices, the last one first

operand_last : (b : Bearings) (cs : List PartChoice) (c : PartChoice) (o : Option Operand)
    → choice_operand (env_in b) (known_choices (cs ++ c ∷ [])) o ≡ choice_operand (env_in b) (known_choices cs) (choice_operand (env_in b)
    (known_choices (c ∷ [])) o)
operand_last b [] c o = refl
operand_last b (d ∷ cs) c o = ap (λ z. operand_if (outcome_kind (choice_outcome (d.test.known.value.kind (env_in b)) (operand_of (env_in b) d.yes.known) z))
    false) (operand_last b cs c o)

alternatives_last : (b : Bearings) (cs : List PartChoice) (c : PartChoice) (o : Option Operand)
    → alternatives_by b (cs ++ c ∷ []) o ≡ alternatives_by b cs (choice_operand (env_in b) (known_choices (c ∷ [])) o) ++ alternative b c (choice_operand
    (env_in b) (known_choices (c ∷ [])) o) ∷ []
alternatives_last b [] c o = refl
alternatives_last b (d ∷ cs) c o = λ i. alternative b d (operand_last b (d ∷ cs) c o i) ∷ alternatives_last b cs c o i

pub alternatives_told : (b : Bearings) (cs : List PartChoice) (e : Part) → alternatives_by b cs (operand_of (env_in b) e.known) ≡ alternatives b cs e
alternatives_told b [] e = refl
alternatives_told b (c ∷ cs) e = ap (λ z. alternative b c (choice_operand (env_in b) (known_choices (c ∷ cs)) (operand_of (env_in b) e.known)) ∷ z)
    (alternatives_told b cs e)

pub operand_turn : (b : Bearings) (cs rest : List PartChoice) (c : PartChoice) (o p : Option Operand) → cs ≡ rest ++ c ∷ []
    → p ≡ choice_operand (env_in b) (known_choices (c ∷ [])) o
    → choice_operand (env_in b) (known_choices rest) p ≡ choice_operand (env_in b) (known_choices cs) o
operand_turn b cs rest c o p is e = ap (choice_operand (env_in b) (known_choices rest)) e ∙ sym (operand_last b rest c o)
    ∙ ap (λ z. choice_operand (env_in b) (known_choices z) o) (sym is)

pub alternatives_turn : (b : Bearings) (cs rest : List PartChoice) (c : PartChoice) (o p : Option Operand) (a : Alternative) (ks : List Alternative)
    → cs ≡ rest ++ c ∷ [] → p ≡ choice_operand (env_in b) (known_choices (c ∷ [])) o → a ≡ alternative b c p
    → alternatives_by b rest p ++ a ∷ ks ≡ alternatives_by b cs o ++ ks
alternatives_turn b cs rest c o p a ks is ep ea =
    ap (λ z. alternatives_by b rest p ++ z ∷ ks) ea
    ∙ ap (λ z. alternatives_by b rest z ++ alternative b c z ∷ ks) ep
    ∙ sym (append_assoc (alternatives_by b rest (choice_operand (env_in b) (known_choices (c ∷ [])) o))
    (alternative b c (choice_operand (env_in b) (known_choices (c ∷ [])) o) ∷ []) ks)
    ∙ ap (λ z. z ++ ks) (sym (alternatives_last b rest c o))
    ∙ ap (λ z. alternatives_by b z o ++ ks) (sym is)

-- 4. Links, one after another

pub link_operations : (b : Bearings) (ls : List Link) (i : ℕ) (l : Link) (o p : Option Operand) (a : Operation) (old new : List Operation)
    → i < length ls → l ≡ get_or ls i l → a ≡ operation b o (resolved_link l)
    → p ≡ joined (env_in b) (resolved_link l).operator o (operand_of (env_in b) (resolved_link l).operand.known)
    → new ≡ old ++ a ∷ [] → new ++ operations b p (map resolved_link (drop (i + 1) ls)) ≡ old ++ operations b o (map resolved_link (drop i ls))
link_operations b ls i l o p a old new h is ea ep en =
    ap (λ z. z ++ operations b p (map resolved_link (drop (i + 1) ls))) (en ∙ ap (λ z. old ++ z ∷ []) ea)
    ∙ append_assoc old (operation b o (resolved_link l) ∷ []) (operations b p (map resolved_link (drop (i + 1) ls)))
    ∙ ap (λ z. old ++ operation b o (resolved_link l) ∷ operations b z (map resolved_link (drop (i + 1) ls))) ep
    ∙ ap (λ z. old ++ operations b o (map resolved_link z)) (sym (dropped ls i l h is))

pub link_operand : (b : Bearings) (ls : List Link) (i : ℕ) (l : Link) (o p : Option Operand)
    → i < length ls → l ≡ get_or ls i l → p ≡ joined (env_in b) (resolved_link l).operator o (operand_of (env_in b) (resolved_link l).operand.known)
    → chain_kind (env_in b) p (known_links (map resolved_link (drop (i + 1) ls))) ≡ chain_kind (env_in b) o (known_links (map resolved_link (drop i ls)))
link_operand b ls i l o p h is ep =
    passed_step (λ q x. joined (env_in b) (resolved_link x).operator q (operand_of (env_in b) (resolved_link x).operand.known))
    (λ q xs. chain_kind (env_in b) q (known_links (map resolved_link xs))) (λ q x xs. refl) ls i l o p h is ep

-- 5. Values with values in them, by what is found of their parts

-- what follows of a result
pub on_value : {T E : Type 0} {P Q : T → Type 0} (r : Result T E) → IfOk r P → ((x : T) → P x → Q x) → IfOk r Q
on_value (Ok x) h f = f x h
on_value (Err e) h f = h

module _ (b : Bearings) (at : ℕ) (s : Shape) where
  pub prefix_found : (ps qs : List PrefixOperator) (a e : Expr) (u w : Shown) → s ≡ shape.Prefix ps a → qs ≡ ps → e ≡ a → u ≡ shown b (resolved e)
      → w ≡ all_before (env_in b) qs u
      → w ≡ level_shown b at (resolved_shape s)
  prefix_found ps qs a e u w is eq ee eu ew =
      ew ∙ (λ i. all_before (env_in b) (eq i) ((eu ∙ ap (λ z. shown b (resolved z)) ee) i)) ∙ before_level b at ps (resolved a)
      ∙ ap (level_shown b at) (sym (ap resolved_shape is ∙ shape_resolved (Shape-F.Prefix ps a)))

  pub postfix_found : (xs ys : List Suffix) (a e : Expr) (u w : Shown) → s ≡ shape.Postfix a xs → ys ≡ xs → e ≡ a → u ≡ shown b (resolved e)
      → w ≡ as_place (env_in b) (all_behind b u (map resolved_suffix ys)) → w ≡ level_shown b at (resolved_shape s)
  postfix_found xs ys a e u w is eq ee eu ew =
      ew ∙ (λ i. as_place (env_in b) (all_behind b ((eu ∙ ap (λ z. shown b (resolved z)) ee) i) (map resolved_suffix (eq i))))
      ∙ behind_level b at (resolved a) (map resolved_suffix xs)
      ∙ ap (level_shown b at) (sym (ap resolved_shape is ∙ shape_resolved (Shape-F.Postfix a xs)))

  pub chain_found : (ls ms : List Link) (a e : Expr) (u w : Shown) → s ≡ shape.Chain a ls → ms ≡ ls → e ≡ a → u ≡ shown b (resolved e)
      → w ≡ chain_told b u (map resolved_link ms)
      → w ≡ level_shown b at (resolved_shape s)
  chain_found ls ms a e u w is em ee eu ew =
      ew ∙ (λ i. chain_told b ((eu ∙ ap (λ z. shown b (resolved z)) ee) i) (map resolved_link (em i)))
      ∙ ap (level_shown b at) (sym (ap resolved_shape is ∙ shape_resolved (Shape-F.Chain a ls)))

  pub choice_found : (cs ds : List Choice) (a e : Expr) (u w : Shown) → s ≡ shape.Conditional cs a → ds ≡ cs → e ≡ a → u ≡ shown b (resolved e)
      → w ≡ choice_told b (map resolved_choice ds) u
      → w ≡ level_shown b at (resolved_shape s)
  choice_found cs ds a e u w is ed ee eu ew =
      ew ∙ (λ i. choice_told b (map resolved_choice (ed i)) ((eu ∙ ap (λ z. shown b (resolved z)) ee) i))
      ∙ ap (λ z. record {
        kind = operand_kind (choice_operand (env_in b) (known_choices (map resolved_choice cs))
            (operand_of (env_in b) (resolved a).known));
        null = false;
        value = code (start.Choice z ((resolved a).value b)) [];
        place = nothing;
      })
      (alternatives_told b (map resolved_choice cs) (resolved a))
      ∙ ap (level_shown b at) (sym (ap resolved_shape is ∙ shape_resolved (Shape-F.Conditional cs a)))
