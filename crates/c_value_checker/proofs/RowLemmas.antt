-- Chains, suffixes and choices, one after another.
use Rattle.std.proofs.Common.{◌≡◌, ◌∙◌, sym, ap, ℕ, ◌+◌, ◌<◌, length, get_or, drop, map, List, [], ◌∷◌, ◌++◌, append_assoc, Option}
use Rattle.c_tree.specs.declared.names.Span.{Span}
use Rattle.c_tree.specs.declared.code.Suffix.{Suffix}
use Rattle.c_tree.specs.declared.code.Choice.{Choice}
use Rattle.c_tree.specs.declared.code.Link.{Link}
use Rattle.c_tree.specs.declared.kinds.Kind.{Kind}
use Rattle.c_tree.specs.declared.kinds.Operand.{Operand}
use Rattle.c_tree.specs.declared.kinds.Fault.{Fault}
use Rattle.c_tree.specs.Words.{join}
use Rattle.c_tree.specs.Env.{Env}
use Rattle.c_tree.specs.Faults.{outcome_faults, outcome_kind}
use Rattle.c_tree.specs.Checks.{chain_faults, chain_kind, index_faults, join_outcome, joined, operand_of, suffix_end, suffix_faults, suffix_kind, suffix_outcome}
use Rattle.c_value_checker.specs.declared.faults.Findings.{Findings}
use Rattle.c_value_checker.specs.declared.judged.JudgedChoice.{JudgedChoice}
use Rattle.c_value_checker.specs.Judgements.{checked_choice, checked_link, checked_suffix, choice_told}
use Rattle.c_value_checker.specs.Noted.{noted}
use Rattle.c_value_checker.proofs.NotedLemmas.{dropped, noted_append}

-- the faults of a link behind an operand
abbrev pub link_faults : Env → Span → Option Operand → Link → List Fault
link_faults env first a l =
    (checked_link l).operand.value.faults env
    ++ outcome_faults (join_outcome env (checked_link l).operator a (operand_of env (checked_link l).operand)) (join first (checked_link l).operand.span)

pub link_turn : (env : Env) (first : Span) (ls : List Link) (i : ℕ) (l : Link) (a b : Option Operand) (f g : Findings)
    → i < length ls → l ≡ get_or ls i l → b ≡ joined env (checked_link l).operator a (operand_of env (checked_link l).operand) → g ≡ noted f (link_faults env first a l)
    → (chain_kind env b (map checked_link (drop (i + 1) ls)) ≡ chain_kind env a (map checked_link (drop i ls)))
    × (noted g (chain_faults env first b (map checked_link (drop (i + 1) ls))) ≡ noted f (chain_faults env first a (map checked_link (drop i ls))))
link_turn env first ls i l a b f g h is e n = (
  ap (λ o. chain_kind env o (map checked_link (drop (i + 1) ls))) e ∙ ap (λ r. chain_kind env a (map checked_link r)) (sym (dropped ls i l h is)),
  ap (λ o. noted g (chain_faults env first o (map checked_link (drop (i + 1) ls)))) e
      ∙ ap (λ x. noted x (chain_faults env first (joined env (checked_link l).operator a (operand_of env (checked_link l).operand)) (map checked_link (drop (i + 1) ls)))) n
      ∙ sym (noted_append f (link_faults env first a l) (chain_faults env first (joined env (checked_link l).operator a (operand_of env (checked_link l).operand)) (map checked_link (drop (i + 1) ls))))
      ∙ ap (λ r. noted f (chain_faults env first a (map checked_link r))) (sym (dropped ls i l h is)),
)

-- the faults of a suffix behind a value of a kind
abbrev pub one_suffix_faults : Env → Span → Option Kind → Suffix → List Fault
one_suffix_faults env first k x =
    index_faults env (checked_suffix x) ++ outcome_faults (suffix_outcome env k (checked_suffix x)) (join first (suffix_end (checked_suffix x)))

pub suffix_turn : (env : Env) (first : Span) (xs : List Suffix) (i : ℕ) (x : Suffix) (k j : Option Kind) (f g : Findings)
    → i < length xs → x ≡ get_or xs i x → j ≡ outcome_kind (suffix_outcome env k (checked_suffix x)) → g ≡ noted f (one_suffix_faults env first k x)
    → (suffix_kind env j (map checked_suffix (drop (i + 1) xs)) ≡ suffix_kind env k (map checked_suffix (drop i xs)))
    × (noted g (suffix_faults env first j (map checked_suffix (drop (i + 1) xs))) ≡ noted f (suffix_faults env first k (map checked_suffix (drop i xs))))
suffix_turn env first xs i x k j f g h is e n = (
  ap (λ o. suffix_kind env o (map checked_suffix (drop (i + 1) xs))) e ∙ ap (λ r. suffix_kind env k (map checked_suffix r)) (sym (dropped xs i x h is)),
  ap (λ o. noted g (suffix_faults env first o (map checked_suffix (drop (i + 1) xs)))) e
      ∙ ap (λ y. noted y (suffix_faults env first (outcome_kind (suffix_outcome env k (checked_suffix x))) (map checked_suffix (drop (i + 1) xs)))) n
      ∙ sym (noted_append f (one_suffix_faults env first k x) (suffix_faults env first (outcome_kind (suffix_outcome env k (checked_suffix x))) (map checked_suffix (drop (i + 1) xs))))
      ∙ ap (λ r. noted f (suffix_faults env first k (map checked_suffix r))) (sym (dropped xs i x h is)),
)

pub choice_kept : (env : Env) (cs : List Choice) (i : ℕ) (c : Choice) (ks js : List JudgedChoice) (j : JudgedChoice)
    → i < length cs → c ≡ get_or cs i c → j ≡ choice_told env (checked_choice c) → js ≡ ks ++ j ∷ []
    → js ++ map (choice_told env) (map checked_choice (drop (i + 1) cs)) ≡ ks ++ map (choice_told env) (map checked_choice (drop i cs))
choice_kept env cs i c ks js j h is e n =
    ap (λ z. z ++ map (choice_told env) (map checked_choice (drop (i + 1) cs))) n
    ∙ append_assoc ks (j ∷ []) (map (choice_told env) (map checked_choice (drop (i + 1) cs)))
    ∙ ap (λ z. ks ++ z ∷ map (choice_told env) (map checked_choice (drop (i + 1) cs))) e
    ∙ ap (λ r. ks ++ map (choice_told env) (map checked_choice r)) (sym (dropped cs i c h is))
