-- The marks of suffixes and arguments.
use Rattle.std.proofs.Common.{◌≡◌, ◌∙◌, refl, sym, ap, ap₂, subst, ℕ, ◌<◌, Bool, true, false, ◌||◌, List, [], ◌∷◌, map, Some, arith}
use Rattle.c_tree.specs.declared.names.Span.{Span}
use Rattle.c_tree.specs.declared.code.Expr.{Expr}
use Rattle.c_tree.specs.declared.code.Suffix.{Suffix}
use Rattle.c_tree.specs.declared.kinds.Fault.{Fault}
use Rattle.c_tree.specs.Words.{Token, join}
use Rattle.c_tree.specs.Words as words
use Rattle.c_tree.specs.Names.{Names}
use Rattle.c_tree.specs.Make.{name_at}
use Rattle.c_tree.specs.Faults.{outcome_faults, outcome_kind}
use Rattle.c_tree.specs.Checks.{KnownSuffix, Index, checked, suffix_outcome, suffix_end, suffix_faults, index_faults}
use Rattle.c_tree.specs.Rules.{all_checked, own_faults}
use Rattle.c_grammar.specs.Trees.{field_suffix, index_suffix}
use Rattle.c_grammar.specs.Tests.{is}
use Rattle.c_grammar.specs.Sorts.{Name}
use Rattle.c_grammar.specs.Parts as w
use Rattle.c_grammar.specs.Parts.{at}
use Rattle.c_grammar.specs.Grammar.{form, token, just, index_behind}
use Rattle.c_fronts.proofs.Marks.{m_give, m_take, m_part, m_pick}
use Rattle.c_fronts.proofs.Shows.{shows_append, shows_three, or_none, or_both, or_drop, or_turn, or_pairs, late_outcome}
use Rattle.c_fronts.proofs.Unfold.{known_suffix}
use Rattle.c_fronts.proofs.Judging.{Rule, judged, judged_from, rule_behind, of_last, judged_behind, judged_none, late_from, late_last}
use Rattle.c_fronts.proofs.ValueFaults.{known_end, late_most, field_is, index_known, index_span, index_plain}
use Rattle.c_fronts.proofs.Telling.{Edge, Seen, Row, Passed, tells_of, tell, LateToken, BehindToken, suffixes_end}
use Rattle.c_fronts.proofs.MarkTypes.{Mark}
use Rattle.c_fronts.proofs.MarkValues.{M, v}

module _ (edge : Edge) (ns : Names) where
  -- 1. Suffixes

  abbrev in_row : Row → Seen
  in_row c = record { probe = c.probe; env = c.env }

  -- what a suffix adds, and what suffixes behind it go on from
  abbrev suffix_tells : Row → KnownSuffix → Bool
  suffix_tells c k = tell edge c.probe (outcome_faults (suffix_outcome c.env c.kind k) (join c.first (suffix_end k)))

  abbrev past_suffix : Row → KnownSuffix → ℕ → Row
  past_suffix c k n = record { probe = c.probe; env = c.env; first = c.first; kind = outcome_kind (suffix_outcome c.env c.kind k); «end» = n }

  more_suffixes : (c : Row) (k : KnownSuffix) (x : Suffix) (xs : List Suffix) → known_suffix x ≡ k
      → tell edge c.probe (suffix_faults c.env c.first c.kind (map known_suffix (x ∷ xs)))
      ≡ ((tell edge c.probe (index_faults c.env k) || suffix_tells c k) || tell edge c.probe
      (suffix_faults c.env c.first (outcome_kind (suffix_outcome c.env c.kind k)) (map known_suffix xs)))
  more_suffixes c k x xs e =
      ap (λ (z : KnownSuffix). tell edge c.probe (suffix_faults c.env c.first c.kind (z ∷ map known_suffix xs))) e
      ∙ shows_three edge.last c.probe (index_faults c.env k) (outcome_faults (suffix_outcome c.env c.kind k) (join c.first (suffix_end k)))
      (suffix_faults c.env c.first (outcome_kind (suffix_outcome c.env c.kind k)) (map known_suffix xs))

  -- `.x` or `->x`
  abbrev the_field : Token → Token → Suffix
  the_field t n = field_suffix t.terminal (name_at n)

  field_late : (c : Row) (t n : Token) → BehindToken edge n → suffix_tells c (known_suffix (the_field t n)) ≡ false
  field_late c t n b = let a = edge.apart in let f = field_is t.terminal (name_at n) in
      late_most edge.last c.probe (join c.first (suffix_end (known_suffix (the_field t n)))) (f.only c.env c.kind) (omega (arith, b.0))
      (subst (λ (s : Span). edge.last < s.end) (sym f.ends) (omega (arith, b.1)))

  more_fields : (c : Row) (t n : Token) (xs : List Suffix)
      → tell edge c.probe (suffix_faults c.env c.first c.kind (map known_suffix (the_field t n ∷ xs)))
      ≡ (suffix_tells c (known_suffix (the_field t n)) || tell edge c.probe
      (suffix_faults c.env c.first (outcome_kind (suffix_outcome c.env c.kind (known_suffix (the_field t n)))) (map known_suffix xs)))
  more_fields c t n xs = let f = field_is t.terminal (name_at n) in let k = known_suffix (the_field t n) in
      more_suffixes c k (the_field t n) xs refl
      ∙ ap (λ (z : List Fault). (tell edge c.probe z || suffix_tells c k) || tell edge c.probe
      (suffix_faults c.env c.first (outcome_kind (suffix_outcome c.env c.kind k)) (map known_suffix xs))) (f.no_index c.env)

  field_mark : (dot must : Bool) (c : Row) (t : Token) → M edge ns (w.Suffixes dot must) c false (LateToken edge t)
      (token ns (is Name) (λ n. just ns (w.Suffixes true false) (λ xs. the_field t n ∷ xs)))
  field_mark dot must c t =
      m_take (λ n. suffix_tells c (known_suffix (the_field t n))) (λ n b o. field_late c t n b) (λ n e.
      m_part (past_suffix c (known_suffix (the_field t n)) n.end) (suffix_tells c (known_suffix (the_field t n)))
      (λ xs. tells_of edge (w.Suffixes dot must) c (the_field t n ∷ xs))
      (λ o. (sym (or_none (suffix_tells c (known_suffix (the_field t n)))), o.1)) (λ xs f d. more_fields c t n xs)
      (λ xs f. m_give (the_field t n ∷ xs) tt (λ o. refl)
      (λ o. subst (λ (s : Span). edge.last < suffixes_end edge s.end xs) (sym (field_is t.terminal (name_at n)).spans) o)))

  -- `[i]`
  abbrev the_index : Token → Expr → Token → KnownSuffix
  the_index t i s = Index (checked i) (join (words.at t) (words.at s))

  index_mark : (dot must : Bool) (c : Row) (over : Type 0) → M edge ns (w.Suffixes dot must) c false over (index_behind ns)
  index_mark dot must c over =
      m_take (λ t. false) (λ t b o. refl) (λ t e. m_part (in_row c) false (λ i. v edge ns (in_row c) i) (λ o. (refl, tt)) (λ i f d. refl) (λ i f.
      m_take (λ s. v edge ns (in_row c) i || suffix_tells c (the_index t i s))
      (λ s b o. let a = edge.apart in or_drop (v edge ns (in_row c) i) (suffix_tells c (the_index t i s))
      (late_outcome edge.last c.probe (join c.first (join (words.at t) (words.at s)))
      (index_plain c.env c.kind (checked i) (join (words.at t) (words.at s))) (omega (arith, b.1))))
      (λ s e2. m_part (past_suffix c (the_index t i s) s.end) (v edge ns (in_row c) i || suffix_tells c (the_index t i s))
      (λ xs. tells_of edge (w.Suffixes dot must) c (index_suffix t i s ∷ xs))
      (λ o. (sym (or_none (v edge ns (in_row c) i || suffix_tells c (the_index t i s))), o.1))
      (λ xs f2 d. more_suffixes c (the_index t i s) (index_suffix t i s) xs (index_known t i s))
      (λ xs f2. m_give (index_suffix t i s ∷ xs) tt (λ o. refl)
      (λ o. subst (λ (z : Span). edge.last < suffixes_end edge z.end xs) (sym (index_span t i s)) o)))))

  pub mark_suffixes : (dot must : Bool) (c : Row) → Mark edge ns (w.Suffixes dot must) c
  unfolding form
  mark_suffixes dot true c = m_pick (m_take (λ t. false) (λ t b o. refl) (λ t e. field_mark dot true c t)) (index_mark dot true c (edge.last < c.end))
  mark_suffixes dot false c =
      m_pick (m_take (λ t. false) (λ t b o. refl) (λ t e. field_mark dot false c t))
      (m_pick (index_mark dot false c (edge.last < c.end)) (m_give [] tt (λ o. refl) (λ o. o)))

  -- 2. Arguments

  abbrev among : Passed → Seen
  among c = record { probe = c.probe; env = c.env }

  abbrev behind_argument : Passed → Rule → Expr → Passed
  behind_argument c r a = record { probe = c.probe; env = c.env; rule = r; before = Some (checked a) }

  pub mark_arguments : (c : Passed) → Mark edge ns w.Arguments c
  unfolding form
  mark_arguments c =
      m_pick (m_part (among c) false (λ a. v edge ns (among c) a) (λ o. (refl, tt)) (λ a f d. refl) (λ a f.
      m_part (behind_argument c c.rule a) (v edge ns (among c) a) (λ xs. tells_of edge w.Arguments c (a ∷ xs))
      (λ o. (sym (or_none (v edge ns (among c) a)), known_end edge.last c.probe c.env a o))
      (λ xs f2 d. ap (λ (z : Bool). z || tell edge c.probe (judged c.env c.rule (checked a ∷ all_checked checked xs)))
      (shows_append edge.last c.probe ((checked a).value.faults c.env) (own_faults c.env (all_checked checked xs)))
      ∙ sym (or_both (v edge ns (among c) a) (tell edge c.probe (own_faults c.env (all_checked checked xs)))
      (tell edge c.probe (judged c.env c.rule (checked a ∷ all_checked checked xs)))))
      (λ xs f2. m_give (a ∷ xs) tt (λ o. refl) (λ o. tt))))
      (m_give [] tt (λ o. ap (tell edge c.probe) (judged_none edge.last c.probe c.env c.rule)) (λ o. tt))

  abbrev last_tells : Passed → Bool
  last_tells c = tell edge c.probe (of_last c.env c.rule c.before)

  -- (value and own faults) and (the last argument and those behind it)
  or_arguments : (a x l j : Bool) → ((a || x) || (l || j)) ≡ ((l || a) || (x || j))
  or_arguments a x l j = or_pairs a x l j ∙ ap (λ z. z || (x || j)) (or_turn a l)

  more_arguments : (c : Passed) (a : Expr) (xs : List Expr)
      → tells_of edge w.MoreArguments c (a ∷ xs)
      ≡ ((last_tells c || v edge ns (among c) a) || tells_of edge w.MoreArguments (behind_argument c (rule_behind c.rule c.before) a) xs)
  more_arguments c a xs =
      ap₂ (λ y z. y || z) (shows_append edge.last c.probe ((checked a).value.faults c.env) (own_faults c.env (all_checked checked xs)))
      (judged_behind edge.last c.probe c.env c.rule c.before (checked a) (all_checked checked xs))
      ∙ or_arguments (v edge ns (among c) a) (tell edge c.probe (own_faults c.env (all_checked checked xs))) (last_tells c)
      (tell edge c.probe (judged_from c.env (rule_behind c.rule c.before) (Some (checked a)) (all_checked checked xs)))

  pub mark_more_arguments : (c : Passed) → Mark edge ns w.MoreArguments c
  unfolding form
  mark_more_arguments c =
      m_pick (m_take (λ t. last_tells c) (λ t b o. late_last edge.last c.probe c.env c.rule c.before o) (λ t e.
      m_part (among c) (last_tells c) (λ a. last_tells c || v edge ns (among c) a) (λ o. (sym (or_none (last_tells c)), tt)) (λ a f d. refl) (λ a f.
      m_part (behind_argument c (rule_behind c.rule c.before) a) (last_tells c || v edge ns (among c) a) (λ xs. tells_of edge w.MoreArguments c (a ∷ xs))
      (λ o. (sym (or_none (last_tells c || v edge ns (among c) a)), known_end edge.last c.probe c.env a o)) (λ xs f2 d. more_arguments c a xs)
      (λ xs f2. m_give (a ∷ xs) tt (λ o. refl) (λ o. tt)))))
      (m_give [] tt (λ o. late_from edge.last c.probe c.env c.rule c.before o) (λ o. tt))
