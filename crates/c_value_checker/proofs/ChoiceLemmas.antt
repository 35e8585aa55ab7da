-- Choices, the last one first.
use Rattle.std.proofs.Common.{false, ◌≡◌, ◌∙◌, refl, sym, ap, List, [], ◌∷◌, ◌++◌, append_assoc, map, Option}
use Rattle.std.proofs.lemmas.List.{append-nil}
use Rattle.c_tree.specs.declared.names.Span.{Span}
use Rattle.c_tree.specs.declared.kinds.Operand.{Operand}
use Rattle.c_tree.specs.declared.kinds.Fault.{Fault}
use Rattle.c_tree.specs.Words.{join}
use Rattle.c_tree.specs.Env.{Env}
use Rattle.c_tree.specs.Faults.{outcome_faults, outcome_kind}
use Rattle.c_tree.specs.Checks.{Known, KnownChoice, choice_outcome, choice_operand, choice_faults, operand_if, operand_of}
use Rattle.c_value_checker.specs.declared.judged.JudgedChoice.{JudgedChoice}
use Rattle.c_value_checker.specs.Judgements.{choice_told, part_faults}
use Rattle.c_value_checker.specs.declared.faults.Findings.{Findings}
use Rattle.c_value_checker.specs.Noted.{noted}
use Rattle.c_value_checker.proofs.NotedLemmas.{noted_append}
use Rattle.c_value_checker.specs.Choices.{all_chosen, chosen_faults, one_chosen}

pub chosen_last : (cs : List JudgedChoice) (c : JudgedChoice) (e : Option Operand) → all_chosen (cs ++ c ∷ []) e ≡ all_chosen cs (one_chosen c e)
chosen_last [] c e = refl
chosen_last (d ∷ cs) c e = ap (one_chosen d) (chosen_last cs c e)

pub faults_last : (cs : List JudgedChoice) (c : JudgedChoice) (e : Option Operand) (last : Span)
    → chosen_faults (cs ++ c ∷ []) e last ≡ outcome_faults (choice_outcome c.test c.yes e) (join c.span last) ++ chosen_faults cs (one_chosen c e) last
faults_last [] c e last = sym (append-nil (outcome_faults (choice_outcome c.test c.yes e) (join c.span last)))
faults_last (d ∷ cs) c e last =
    ap (λ z. z ++ outcome_faults (choice_outcome d.test d.yes (all_chosen (cs ++ c ∷ []) e)) (join d.span last)) (faults_last cs c e last)
    ∙ ap (λ o. (outcome_faults (choice_outcome c.test c.yes e) (join c.span last) ++ chosen_faults cs (one_chosen c e) last) ++ outcome_faults (choice_outcome d.test d.yes o) (join d.span last)) (chosen_last cs c e)
    ∙ append_assoc (outcome_faults (choice_outcome c.test c.yes e) (join c.span last)) (chosen_faults cs (one_chosen c e) last)
    (outcome_faults (choice_outcome d.test d.yes (all_chosen cs (one_chosen c e))) (join d.span last))

pub choices_operand : (env : Env) (cs : List KnownChoice) (e : Option Operand) → all_chosen (map (choice_told env) cs) e ≡ choice_operand env cs e
choices_operand env [] e = refl
choices_operand env (c ∷ cs) e = ap (λ o. operand_if (outcome_kind (choice_outcome (c.test.value.kind env) (operand_of env c.yes) o)) false) (choices_operand env cs e)

around : (a b c d e : List Fault) → (a ++ (b ++ c ++ d)) ++ e ≡ ((a ++ b) ++ c) ++ (d ++ e)
around a b c d e = simp append_assoc

pub choices_apart : (env : Env) (cs : List KnownChoice) (e : Known)
    → choice_faults env cs e ≡ (part_faults env cs ++ e.value.faults env) ++ chosen_faults (map (choice_told env) cs) (operand_of env e) e.span
choices_apart env [] e = sym (append-nil (e.value.faults env))
choices_apart env (c ∷ cs) e =
    ap (λ z. ((c.test.value.faults env ++ c.yes.value.faults env) ++ z) ++ outcome_faults (choice_outcome (c.test.value.kind env) (operand_of env c.yes) (choice_operand env cs (operand_of env e))) (join c.test.span e.span))
    (choices_apart env cs e)
    ∙ ap (λ o. ((c.test.value.faults env ++ c.yes.value.faults env) ++ ((part_faults env cs ++ e.value.faults env) ++ chosen_faults (map (choice_told env) cs) (operand_of env e) e.span))
    ++ outcome_faults (choice_outcome (c.test.value.kind env) (operand_of env c.yes) o) (join c.test.span e.span)) (sym (choices_operand env cs (operand_of env e)))
    ∙ around (c.test.value.faults env ++ c.yes.value.faults env) (part_faults env cs) (e.value.faults env) (chosen_faults (map (choice_told env) cs) (operand_of env e) e.span)
    (outcome_faults (choice_outcome (c.test.value.kind env) (operand_of env c.yes) (all_chosen (map (choice_told env) cs) (operand_of env e))) (join c.test.span e.span))

-- one choice more, from the last one on
pub choice_turn : (cs rest : List JudgedChoice) (c : JudgedChoice) (e d : Option Operand) (f g : Findings) (last : Span)
    → cs ≡ rest ++ c ∷ [] → d ≡ one_chosen c e → g ≡ noted f (outcome_faults (choice_outcome c.test c.yes e) (join c.span last))
    → (all_chosen rest d ≡ all_chosen cs e) × (noted g (chosen_faults rest d last) ≡ noted f (chosen_faults cs e last))
choice_turn cs rest c e d f g last is p h = (
  ap (all_chosen rest) p ∙ sym (chosen_last rest c e) ∙ ap (λ o. all_chosen o e) (sym is),
  ap (λ x. noted x (chosen_faults rest d last)) h
      ∙ ap (λ i. noted (noted f (outcome_faults (choice_outcome c.test c.yes e) (join c.span last))) (chosen_faults rest i last)) p
      ∙ sym (noted_append f (outcome_faults (choice_outcome c.test c.yes e) (join c.span last)) (chosen_faults rest (one_chosen c e) last))
      ∙ ap (noted f) (sym (faults_last rest c e last))
      ∙ ap (λ o. noted f (chosen_faults o e last)) (sym is),
)
