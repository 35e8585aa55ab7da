-- What is kept of an outcome tells its kind and its faults.
use Rattle.std.proofs.Common.{◌≡◌, ◌∙◌, refl, ap, Option}
use Rattle.c_tree.specs.declared.names.Span.{Span}
use Rattle.c_tree.specs.Faults as rule
use Rattle.c_tree.specs.Faults.{outcome_kind, outcome_faults}
use Rattle.c_tree.specs.declared.kinds.Kind.{Kind}
use Rattle.c_value_checker.specs.declared.faults.Findings.{Findings}
use Rattle.c_value_checker.specs.declared.outcome.Outcome.{Outcome}
use Rattle.c_value_checker.specs.Noted.{noted}
use Rattle.c_value_checker.specs.Outcomes.{told, kind_told, faults_told}

pub told_kind : (o : rule.Outcome) → kind_told (told o) ≡ outcome_kind o
told_kind (rule.Gives k) = refl
told_kind rule.Wrong = refl
told_kind (rule.Lacks x) = refl
told_kind rule.Silent = refl

pub told_faults : (o : rule.Outcome) (s : Span) → faults_told (told o) s ≡ outcome_faults o s
told_faults (rule.Gives k) s = refl
told_faults rule.Wrong s = refl
told_faults (rule.Lacks x) s = refl
told_faults rule.Silent s = refl

-- what is settled of an outcome
pub settled_kind : (o : rule.Outcome) (w : Outcome) (k : Option Kind) → w ≡ told o → k ≡ kind_told w → k ≡ outcome_kind o
settled_kind o w k e h = h ∙ ap kind_told e ∙ told_kind o

pub settled_faults : (o : rule.Outcome) (w : Outcome) (s t : Span) (f g : Findings) → w ≡ told o → t ≡ s → g ≡ noted f (faults_told w t) → g ≡ noted f (outcome_faults o s)
settled_faults o w s t f g e is h = h ∙ (λ i. noted f (faults_told (e i) (is i))) ∙ ap (noted f) (told_faults o s)
