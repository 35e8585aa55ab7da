-- Operators, links and choices, one after another.
use Rattle.std.proofs.Common.{◌≡◌, ◌∙◌, refl, sym, ap, arith, false, ℕ, ◌+◌, ◌-◌, ◌<◌, ◌≤◌, length, get_or, drop, take, map, List, [], ◌∷◌, ◌++◌, Option}
use Rattle.std.proofs.lemmas.List.{take_more}
use Rattle.c_tree.specs.declared.operators.PrefixOperator.{PrefixOperator}
use Rattle.c_tree.specs.declared.code.Choice.{Choice}
use Rattle.c_tree.specs.declared.code.Link.{Link}
use Rattle.c_tree.specs.declared.kinds.Kind.{Kind}
use Rattle.c_tree.specs.declared.kinds.Operand.{Operand}
use Rattle.c_tree.specs.Constants.{Worth}
use Rattle.c_tree.specs.Env.{Env}
use Rattle.c_tree.specs.Faults.{outcome_kind}
use Rattle.c_tree.specs.Checks.{Known, KnownChoice, chain_worth, choice_operand, choice_outcome, choices_worth, chosen_worth, in_kind, joined, operand_if, operand_of, prefix_kind, prefixes_worth, told_both, told_prefix}
use Rattle.c_constants.specs.Choices.{chosen_before}
use Rattle.c_value_checker.specs.Judgements.{checked_choice, checked_link}
use Rattle.c_value_checker.proofs.NotedLemmas.{dropped}
use Rattle.c_value_checker.proofs.PrefixLemmas.{kind_last}

-- 1. Operators before an operand, the last one first

worths_last : (env : Env) (qs : List PrefixOperator) (p : PrefixOperator) (k : Option Kind) (w : Worth)
    → prefixes_worth env (qs ++ p ∷ []) k w ≡ prefixes_worth env qs (prefix_kind env (p ∷ []) k) (told_prefix p.prefix (prefix_kind env (p ∷ []) k) w)
worths_last env [] p k w = refl
worths_last env (q ∷ qs) p k w = λ i. told_prefix q.prefix (kind_last env (q ∷ qs) p k i) (worths_last env qs p k w i)

pub prefix_turn : (env : Env) (ops rest : List PrefixOperator) (p : PrefixOperator) (k j : Option Kind) (w v : Worth)
    → ops ≡ rest ++ p ∷ [] → j ≡ prefix_kind env (p ∷ []) k → v ≡ told_prefix p.prefix j w → prefixes_worth env rest j v ≡ prefixes_worth env ops k w
prefix_turn env ops rest p k j w v is ej ev =
    ap (prefixes_worth env rest j) ev ∙ ap (λ o. prefixes_worth env rest o (told_prefix p.prefix o w)) ej
    ∙ sym (worths_last env rest p k w) ∙ ap (λ o. prefixes_worth env o k w) (sym is)

-- 2. Links

pub link_turn : (env : Env) (ls : List Link) (i : ℕ) (l : Link) (a b c : Option Operand) (v u : Worth) → i < length ls → l ≡ get_or ls i l
    → c ≡ operand_of env (checked_link l).operand → b ≡ joined env (checked_link l).operator a c
    → u ≡ told_both env (checked_link l).operator a c v ((checked_link l).operand.value.worth env)
    → chain_worth env b u (map checked_link (drop (i + 1) ls)) ≡ chain_worth env a v (map checked_link (drop i ls))
link_turn env ls i l a b c v u h is ec eb eu =
    (λ n. chain_worth env (eb n) (eu n) (map checked_link (drop (i + 1) ls)))
    ∙ ap (λ o. chain_worth env (joined env (checked_link l).operator a o) (told_both env (checked_link l).operator a o v ((checked_link l).operand.value.worth env)) (map checked_link (drop (i + 1) ls))) ec
    ∙ ap (λ r. chain_worth env a v (map checked_link r)) (sym (dropped ls i l h is))

-- 3. Choices, the last one first

operand_last : (env : Env) (cs : List KnownChoice) (c : KnownChoice) (o : Option Operand) → choice_operand env (cs ++ c ∷ []) o ≡ choice_operand env cs (choice_operand env (c ∷ []) o)
operand_last env [] c o = refl
operand_last env (d ∷ cs) c o = ap (λ z. operand_if (outcome_kind (choice_outcome (d.test.value.kind env) (operand_of env d.yes) z)) false) (operand_last env cs c o)

before_last : (env : Env) (cs : List KnownChoice) (c : KnownChoice) (o : Option Operand) (w : Worth)
    → chosen_before env (cs ++ c ∷ []) o w ≡ chosen_before env cs (choice_operand env (c ∷ []) o) (chosen_before env (c ∷ []) o w)
before_last env [] c o w = refl
before_last env (d ∷ cs) c o w = λ i. in_kind (operand_last env (d ∷ cs) c o i) (chosen_worth (d.test.value.worth env) (d.yes.value.worth env) (before_last env cs c o w i))

map_last : (cs : List Choice) (c : Choice) → map checked_choice (cs ++ c ∷ []) ≡ map checked_choice cs ++ checked_choice c ∷ []
map_last [] c = refl
map_last (d ∷ cs) c = ap (λ z. checked_choice d ∷ z) (map_last cs c)

pub choice_turn : (env : Env) (cs rest : List Choice) (c : Choice) (o p : Option Operand) (w u v : Worth)
    → cs ≡ rest ++ c ∷ [] → p ≡ choice_operand env (checked_choice c ∷ []) o
    → u ≡ chosen_worth ((checked_choice c).test.value.worth env) ((checked_choice c).yes.value.worth env) w → v ≡ in_kind p u
    → chosen_before env (map checked_choice rest) p v ≡ chosen_before env (map checked_choice cs) o w
choice_turn env cs rest c o p w u v is ep eu ev =
    ap (chosen_before env (map checked_choice rest) p) (ev ∙ ap (in_kind p) eu)
    ∙ ap (λ q. chosen_before env (map checked_choice rest) q (in_kind q (chosen_worth ((checked_choice c).test.value.worth env) ((checked_choice c).yes.value.worth env) w))) ep
    ∙ sym (before_last env (map checked_choice rest) (checked_choice c) o w)
    ∙ ap (λ r. chosen_before env r o w) (sym (ap (map checked_choice) is ∙ map_last rest c))

-- the front of a list of choices, and the last of it
pub choice_back : (cs : List Choice) (n : ℕ) (c : Choice) → 0 < n → n ≤ length cs → c ≡ get_or cs (n - 1) c → take n cs ≡ take (n - 1) cs ++ c ∷ []
choice_back cs n c p h is =
    ap (λ m. take m cs) (let e : n ≡ n - 1 + 1 = omega (arith, p) in e)
    ∙ take_more cs (n - 1) c (omega (arith, p, h))
    ∙ ap (λ y. take (n - 1) cs ++ y ∷ []) (sym is)

pub choices_come : (env : Env) (cs : List KnownChoice) (e : Known) → chosen_before env cs (operand_of env e) (e.value.worth env) ≡ choices_worth env cs e
choices_come env [] e = refl
choices_come env (c ∷ cs) e = ap (λ z. in_kind (choice_operand env (c ∷ cs) (operand_of env e)) (chosen_worth (c.test.value.worth env) (c.yes.value.worth env) z)) (choices_come env cs e)
