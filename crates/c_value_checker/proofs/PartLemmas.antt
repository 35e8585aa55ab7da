-- Links, choices and indexes, by what is kept of the values in them.
use Rattle.std.proofs.Common.{◌≡◌, ◌∙◌, refl, sym, ap, ◌++◌, Option}
use Rattle.c_tree.specs.declared.names.Span.{Span}
use Rattle.c_tree.specs.declared.code.Expr.{Expr, out-Expr}
use Rattle.c_tree.specs.declared.code.Suffix.{Suffix}
use Rattle.c_tree.specs.declared.code.Suffix.TheVariants as suffix
use Rattle.c_tree.specs.declared.code.Shape.TheOpen.{Suffix-F}
use Rattle.c_tree.specs.declared.code.Choice.{Choice, out-Choice}
use Rattle.c_tree.specs.declared.code.Link.{Link, out-Link}
use Rattle.c_tree.specs.declared.kinds.Kind.{Kind}
use Rattle.c_tree.specs.declared.kinds.Operand.{Operand}
use Rattle.c_tree.specs.Words.{join}
use Rattle.c_tree.specs.Env.{Env}
use Rattle.c_tree.specs.Faults.{on, outcome_faults}
use Rattle.c_tree.specs.Checks.{KnownChoice, KnownLink, KnownSuffix, checked, index_faults, index_of, join_outcome, joined, operand_of, suffix_end, suffix_outcome}
use Rattle.c_value_checker.specs.declared.faults.Findings.{Findings}
use Rattle.c_value_checker.specs.declared.judged.Judged.{Judged}
use Rattle.c_value_checker.specs.declared.outcome.Outcome.{Outcome}
use Rattle.c_value_checker.specs.Judgements.{checked_choice, checked_link, checked_suffix, choice_told, judged, operand_told}
use Rattle.c_value_checker.specs.Noted.{noted}
use Rattle.c_value_checker.specs.Outcomes.{faults_told, told}
use Rattle.c_value_checker.proofs.NotedLemmas.{noted_both}
use Rattle.c_value_checker.proofs.OutcomeLemmas.{settled_faults}
use Rattle.c_value_checker.proofs.RowLemmas.{link_faults, one_suffix_faults}
use Rattle.c_value_checker.proofs.ShapeLemmas.{operand_is, span_known}
use Rattle.c_value_checker.proofs.ValueLemmas.{choice_known, link_known, suffix_known}

pub link_value : (env : Env) (l : Link) (a : Option Operand) (found : Judged) (o r : Option Operand) → found ≡ judged env (checked (out-Link l).operand).value → o ≡ operand_told found
    → r ≡ joined env (out-Link l).operator a o → r ≡ joined env (checked_link l).operator a (operand_of env (checked_link l).operand)
link_value env l a found o r ef eo er =
    er ∙ ap (joined env (out-Link l).operator a) (operand_is env (out-Link l).operand (out-Link l).operand found o refl ef eo)
    ∙ sym (ap (λ (k : KnownLink). joined env k.operator a (operand_of env k.operand)) (link_known l))

pub link_noted : (env : Env) (first : Span) (l : Link) (a : Option Operand) (found : Judged) (o : Option Operand) (s : Span) (f g h : Findings) → found ≡ judged env (checked (out-Link l).operand).value → o ≡ operand_told found
    → s ≡ join first (out-Expr (out-Link l).operand).span → g ≡ noted f ((checked (out-Link l).operand).value.faults env) → h ≡ noted g (outcome_faults (join_outcome env (out-Link l).operator a o) s)
    → h ≡ noted f (link_faults env first a l)
link_noted env first l a found o s f g h ef eo es eg eh =
    noted_both f g h ((checked (out-Link l).operand).value.faults env) (outcome_faults (join_outcome env (out-Link l).operator a (operand_of env (checked (out-Link l).operand))) (join first (checked (out-Link l).operand).span)) eg
    (eh ∙ (λ i. noted g (outcome_faults (join_outcome env (out-Link l).operator a (operand_is env (out-Link l).operand (out-Link l).operand found o refl ef eo i)) ((es ∙ ap (join first) (sym (span_known (out-Link l).operand))) i))))
    ∙ ap (noted f) (sym (ap (λ (k : KnownLink). k.operand.value.faults env ++ outcome_faults (join_outcome env k.operator a (operand_of env k.operand)) (join first k.operand.span)) (link_known l)))

pub choice_judged : (env : Env) (c : Choice) (t y : Judged) (o : Option Operand) → t ≡ judged env (checked (out-Choice c).test).value → y ≡ judged env (checked (out-Choice c).yes).value → o ≡ operand_told y
    → record { span = (out-Expr (out-Choice c).test).span; test = t.kind; yes = o } ≡ choice_told env (checked_choice c)
choice_judged env c t y o et ey eo =
    (λ i. record { span = sym (span_known (out-Choice c).test) i; test = ap (λ (j : Judged). j.kind) et i; yes = operand_is env (out-Choice c).yes (out-Choice c).yes y o refl ey eo i })
    ∙ sym (ap (choice_told env) (choice_known c))

pub choice_parts : (env : Env) (c : Choice) (f g h : Findings) → g ≡ noted f ((checked (out-Choice c).test).value.faults env) → h ≡ noted g ((checked (out-Choice c).yes).value.faults env)
    → h ≡ noted f ((checked_choice c).test.value.faults env ++ (checked_choice c).yes.value.faults env)
choice_parts env c f g h eg eh =
    noted_both f g h ((checked (out-Choice c).test).value.faults env) ((checked (out-Choice c).yes).value.faults env) eg eh
    ∙ ap (noted f) (sym (ap (λ (k : KnownChoice). k.test.value.faults env ++ k.yes.value.faults env) (choice_known c)))

pub index_noted : (env : Env) (first : Span) (x : Suffix) (i : Expr) (s : Span) (k : Option Kind) (found : Judged) (w : Outcome) (t : Span) (f g h : Findings) → x ≡ suffix.Index i s → found ≡ judged env (checked i).value
    → w ≡ told (on k (λ j. on found.kind (index_of env j))) → t ≡ join first s → g ≡ noted f ((checked i).value.faults env) → h ≡ noted g (faults_told w t) → h ≡ noted f (one_suffix_faults env first k x)
index_noted env first x i s k found w t f g h is ef ew et eg eh =
    noted_both f g h ((checked i).value.faults env) (outcome_faults (on k (λ j. on ((checked i).value.kind env) (index_of env j))) (join first s)) eg
    (settled_faults (on k (λ j. on ((checked i).value.kind env) (index_of env j))) w (join first s) t g h (ew ∙ ap (λ (q : Judged). told (on k (λ j. on q.kind (index_of env j)))) ef) et eh)
    ∙ ap (noted f) (sym (ap (λ (z : KnownSuffix). index_faults env z ++ outcome_faults (suffix_outcome env k z) (join first (suffix_end z))) (ap checked_suffix is ∙ suffix_known (Suffix-F.Index i s))))
