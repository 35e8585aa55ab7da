-- Operators before an operand, the last one first.
use Rattle.std.proofs.Common.{◌≡◌, ◌∙◌, refl, sym, ap, List, [], ◌∷◌, ◌++◌, append_assoc, Option, Some, None, true, false, ℕ}
use Rattle.std.proofs.lemmas.List.{append-nil}
use Rattle.std.specs.Option.{option_map}
use Rattle.c_tree.specs.declared.names.Span.{Span}
use Rattle.c_tree.specs.declared.operators.Prefix.TheVariants as prefix
use Rattle.c_tree.specs.declared.operators.Prefix.{Prefix}
use Rattle.c_tree.specs.declared.operators.PrefixOperator.{PrefixOperator}
use Rattle.c_tree.specs.declared.kinds.Kind.{Kind}
use Rattle.c_tree.specs.declared.kinds.Fault.{Fault}
use Rattle.c_tree.specs.Words.{join}
use Rattle.c_tree.specs.Env.{Env}
use Rattle.c_tree.specs.Faults.{on, outcome_faults, outcome_kind}
use Rattle.c_tree.specs.Library as rule
use Rattle.c_tree.specs.Checks.{prefix_by, prefix_kind, prefix_faults, cast_faults, minus_literal, signed_literal}
use Rattle.c_value_checker.specs.Judgements.{literal_told}
use Rattle.c_value_checker.specs.declared.faults.Findings.{Findings}
use Rattle.c_value_checker.specs.Noted.{noted}
use Rattle.c_value_checker.proofs.NotedLemmas.{noted_append}
use Rattle.c_value_checker.specs.Prefixes.{casts_faults, operators_faults, minus_told, signed_told}

pub four : (a b c d : List Fault) → (a ++ (b ++ c)) ++ d ≡ (a ++ b) ++ (c ++ d)
four a b c d = simp append_assoc

pub prefix_apart : (env : Env) (ps : List PrefixOperator) (k : Option Kind) (last : Span) → prefix_faults env ps k last ≡ casts_faults env ps ++ operators_faults env ps k last
prefix_apart env [] k last = refl
prefix_apart env (p ∷ ps) k last =
    ap (λ z. (cast_faults env p.prefix ++ z) ++ outcome_faults (on (prefix_kind env ps k) (prefix_by env p.prefix)) (join p.span last)) (prefix_apart env ps k last)
    ∙ four (cast_faults env p.prefix) (casts_faults env ps) (operators_faults env ps k last) (outcome_faults (on (prefix_kind env ps k) (prefix_by env p.prefix)) (join p.span last))

pub kind_last : (env : Env) (qs : List PrefixOperator) (p : PrefixOperator) (k : Option Kind) → prefix_kind env (qs ++ p ∷ []) k ≡ prefix_kind env qs (prefix_kind env (p ∷ []) k)
kind_last env [] p k = refl
kind_last env (q ∷ qs) p k = ap (λ z. outcome_kind (on z (prefix_by env q.prefix))) (kind_last env qs p k)

pub faults_last : (env : Env) (qs : List PrefixOperator) (p : PrefixOperator) (k : Option Kind) (last : Span)
    → operators_faults env (qs ++ p ∷ []) k last ≡ operators_faults env (p ∷ []) k last ++ operators_faults env qs (prefix_kind env (p ∷ []) k) last
faults_last env [] p k last = sym (append-nil (operators_faults env (p ∷ []) k last))
faults_last env (q ∷ qs) p k last =
    ap (λ z. z ++ outcome_faults (on (prefix_kind env (qs ++ p ∷ []) k) (prefix_by env q.prefix)) (join q.span last)) (faults_last env qs p k last)
    ∙ ap (λ j. (operators_faults env (p ∷ []) k last ++ operators_faults env qs (prefix_kind env (p ∷ []) k) last) ++ outcome_faults (on j (prefix_by env q.prefix)) (join q.span last)) (kind_last env qs p k)
    ∙ append_assoc (operators_faults env (p ∷ []) k last) (operators_faults env qs (prefix_kind env (p ∷ []) k) last)
    (outcome_faults (on (prefix_kind env qs (prefix_kind env (p ∷ []) k)) (prefix_by env q.prefix)) (join q.span last))

minus : (q : Prefix) (n : ℕ) → minus_told q n ≡ option_map literal_told (minus_literal q n)
minus prefix.Plus n = refl
minus prefix.Minus n = refl
minus prefix.Not n = refl
minus prefix.Complement n = refl
minus prefix.Deref n = refl
minus prefix.AddressOf n = refl
minus (prefix.Cast c) n = refl

signed_one : (p : PrefixOperator) (l : Option rule.Literal) → signed_told (p ∷ []) (option_map literal_told l) ≡ option_map literal_told (signed_literal (p ∷ []) l)
signed_one p None = refl
signed_one p (Some (rule.Word c)) = refl
signed_one p (Some (rule.Figure true n)) = refl
signed_one p (Some (rule.Figure false n)) = minus p.prefix n

pub signed_literals : (ps : List PrefixOperator) (l : Option rule.Literal) → signed_told ps (option_map literal_told l) ≡ option_map literal_told (signed_literal ps l)
signed_literals [] l = refl
signed_literals (p ∷ []) l = signed_one p l
signed_literals (p ∷ q ∷ ps) l = refl

-- one operator more, from the innermost outward
pub prefix_turn : (env : Env) (ops rest : List PrefixOperator) (p : PrefixOperator) (k j : Option Kind) (f g : Findings) (last : Span)
    → ops ≡ rest ++ p ∷ [] → j ≡ prefix_kind env (p ∷ []) k → g ≡ noted f (operators_faults env (p ∷ []) k last)
    → (prefix_kind env rest j ≡ prefix_kind env ops k) × (noted g (operators_faults env rest j last) ≡ noted f (operators_faults env ops k last))
prefix_turn env ops rest p k j f g last is e h = (
  ap (prefix_kind env rest) e ∙ sym (kind_last env rest p k) ∙ ap (λ o. prefix_kind env o k) (sym is),
  ap (λ x. noted x (operators_faults env rest j last)) h
      ∙ ap (λ i. noted (noted f (operators_faults env (p ∷ []) k last)) (operators_faults env rest i last)) e
      ∙ sym (noted_append f (operators_faults env (p ∷ []) k last) (operators_faults env rest (prefix_kind env (p ∷ []) k) last))
      ∙ ap (noted f) (sym (faults_last env rest p k last))
      ∙ ap (λ o. noted f (operators_faults env o k last)) (sym is),
)
