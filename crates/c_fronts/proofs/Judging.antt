-- How the arguments of a call are judged from one on.
use Rattle.std.proofs.Common.{◌≡◌, ◌∙◌, refl, sym, ap, ℕ, ◌<◌, Bool, true, false, ◌||◌, List, [], ◌∷◌, ◌++◌, Option, Some, None}
use Rattle.c_tree.specs.declared.kinds.Kind.{Kind}
use Rattle.c_tree.specs.declared.kinds.Fault.{Fault}
use Rattle.c_tree.specs.declared.names.Span.{Span}
use Rattle.c_tree.specs.Kinds.{fits, is_integer, is_argument, is_pointer_or_function}
use Rattle.c_tree.specs.Library.{Takes, RowParameter, Number, Pointer, Exactly, Any, Pairs, Row}
use Rattle.c_tree.specs.Env.{Env}
use Rattle.c_tree.specs.Faults.{misfit, unless}
use Rattle.c_tree.specs.Checks.{Known, is_null}
use Rattle.c_tree.specs.Rules.{fit, fit_by, must_be, class_by, any_faults, pair_faults, argument_faults, fit_all, same_literal, called_if, value_call}
use Rattle.c_tree.specs.Rules.{unit_call, signature_of, row_call}
use Rattle.c_fronts.proofs.Shows.{Probe, shows, shows_append, late_misfit, late_unless, or_both, or_drop}

-- what judges the next argument and those behind it
pub data Rule : Type 0 where
  Anyhow : Rule
  Fits : List (Option Kind) → Rule
  Wants : List RowParameter → Rule
  -- the second of a pair
  Second : Rule

abbrev pub judged : Env → Rule → List Known → List Fault
judged env Anyhow xs = []
judged env (Fits ps) xs = fit_all env ps xs
judged env (Wants ps) xs = argument_faults env ps xs
judged env Second [] = []
judged env Second (b ∷ xs) = must_be env is_argument b ++ pair_faults env xs

-- what judges the arguments behind one
abbrev pub next_rule : Rule → Rule
next_rule Anyhow = Anyhow
next_rule (Fits []) = Fits []
next_rule (Fits (p ∷ ps)) = Fits ps
next_rule (Wants []) = Wants []
next_rule (Wants (Number k ∷ ps)) = Wants ps
next_rule (Wants (Pointer ∷ ps)) = Wants ps
next_rule (Wants (Exactly l ∷ ps)) = Wants ps
next_rule (Wants (Any ∷ ps)) = Wants (Any ∷ ps)
next_rule (Wants (Pairs ∷ ps)) = Second
next_rule Second = Wants (Pairs ∷ [])

-- the faults of an argument behind which others stand
abbrev pub of_more : Env → Rule → Known → List Fault
of_more env Anyhow a = []
of_more env (Fits []) a = []
of_more env (Fits (p ∷ ps)) a = fit env p a
of_more env (Wants []) a = []
of_more env (Wants (Number k ∷ ps)) a = must_be env is_integer a
of_more env (Wants (Pointer ∷ ps)) a = must_be env is_pointer_or_function a
of_more env (Wants (Exactly l ∷ ps)) a = unless (same_literal l a.value.literal) (misfit a.span)
of_more env (Wants (Any ∷ ps)) a = must_be env is_argument a
of_more env (Wants (Pairs ∷ ps)) a = must_be env is_pointer_or_function a
of_more env Second a = must_be env is_argument a

-- the rule, and the argument that was read last
abbrev pub judged_from : Env → Rule → Option Known → List Known → List Fault
judged_from env r None xs = judged env r xs
judged_from env r (Some a) xs = judged env r (a ∷ xs)

abbrev pub rule_behind : Rule → Option Known → Rule
rule_behind r None = r
rule_behind r (Some a) = next_rule r

abbrev pub of_last : Env → Rule → Option Known → List Fault
of_last env r None = []
of_last env r (Some a) = of_more env r a

module _ (n : ℕ) (p : Probe) (env : Env) where
  pub judged_more : (r : Rule) (a b : Known) (xs : List Known)
      → shows n p (judged env r (a ∷ b ∷ xs)) ≡ (shows n p (of_more env r a) || shows n p (judged env (next_rule r) (b ∷ xs)))
  judged_more Anyhow a b xs = refl
  judged_more (Fits []) a b xs = refl
  judged_more (Fits (q ∷ ps)) a b xs = shows_append n p (fit env q a) (fit_all env ps (b ∷ xs))
  judged_more (Wants []) a b xs = refl
  judged_more (Wants (Number k ∷ ps)) a b xs = shows_append n p (must_be env is_integer a) (argument_faults env ps (b ∷ xs))
  judged_more (Wants (Pointer ∷ ps)) a b xs = shows_append n p (must_be env is_pointer_or_function a) (argument_faults env ps (b ∷ xs))
  judged_more (Wants (Exactly l ∷ ps)) a b xs = shows_append n p (unless (same_literal l a.value.literal) (misfit a.span)) (argument_faults env ps (b ∷ xs))
  judged_more (Wants (Any ∷ ps)) a b xs = shows_append n p (must_be env is_argument a) (any_faults env (b ∷ xs))
  judged_more (Wants (Pairs ∷ ps)) a b xs =
      shows_append n p (must_be env is_pointer_or_function a ++ must_be env is_argument b) (pair_faults env xs)
      ∙ ap (λ x. x || shows n p (pair_faults env xs)) (shows_append n p (must_be env is_pointer_or_function a) (must_be env is_argument b))
      ∙ sym (or_both (shows n p (must_be env is_pointer_or_function a)) (shows n p (must_be env is_argument b)) (shows n p (pair_faults env xs)))
      ∙ ap (λ x. shows n p (must_be env is_pointer_or_function a) || x) (sym (shows_append n p (must_be env is_argument b) (pair_faults env xs)))
  judged_more Second a b xs = shows_append n p (must_be env is_argument a) (pair_faults env (b ∷ xs))

  pub judged_behind : (r : Rule) (o : Option Known) (b : Known) (xs : List Known)
      → shows n p (judged_from env r o (b ∷ xs)) ≡ (shows n p (of_last env r o) || shows n p (judged_from env (rule_behind r o) (Some b) xs))
  judged_behind r None b xs = refl
  judged_behind r (Some a) b xs = judged_more r a b xs

  pub late_fit : (q : Option Kind) (a : Known) → n < a.span.end → shows n p (fit env q a) ≡ false
  late_fit q a h = go q (a.value.kind env)
    where
      go : (q k : Option Kind) → shows n p (fit_by q k (is_null a) a.span) ≡ false
      go None k = refl
      go (Some x) None = refl
      go (Some x) (Some k) = late_unless n p (fits x k (is_null a)) (misfit a.span) (late_misfit n p a.span h)

  pub late_class : (f : Kind → Bool) (a : Known) → n < a.span.end → shows n p (must_be env f a) ≡ false
  late_class f a h = go (a.value.kind env)
    where
      go : (k : Option Kind) → shows n p (class_by f k a.span) ≡ false
      go None = refl
      go (Some k) = late_unless n p (f k) (misfit a.span) (late_misfit n p a.span h)

  no_fits : (ps : List (Option Kind)) → fit_all env ps [] ≡ []
  no_fits [] = refl
  no_fits (q ∷ ps) = refl

  no_wants : (ps : List RowParameter) → argument_faults env ps [] ≡ []
  no_wants [] = refl
  no_wants (q ∷ ps) = refl

  pub judged_none : (r : Rule) → judged env r [] ≡ []
  judged_none Anyhow = refl
  judged_none (Fits ps) = no_fits ps
  judged_none (Wants ps) = no_wants ps
  judged_none Second = refl

  one_late : (a b : List Fault) → shows n p a ≡ false → b ≡ [] → shows n p (a ++ b) ≡ false
  one_late a b h e = shows_append n p a b ∙ or_drop (shows n p a) (shows n p b) (ap (shows n p) e) ∙ h

  pub late_judged : (r : Rule) (a : Known) → n < a.span.end → shows n p (judged env r (a ∷ [])) ≡ false
  late_judged Anyhow a h = refl
  late_judged (Fits []) a h = refl
  late_judged (Fits (q ∷ ps)) a h = one_late (fit env q a) (fit_all env ps []) (late_fit q a h) (no_fits ps)
  late_judged (Wants []) a h = refl
  late_judged (Wants (Number k ∷ ps)) a h = one_late (must_be env is_integer a) (argument_faults env ps []) (late_class is_integer a h) (no_wants ps)
  late_judged (Wants (Pointer ∷ ps)) a h = one_late (must_be env is_pointer_or_function a) (argument_faults env ps []) (late_class is_pointer_or_function a h)
      (no_wants ps)
  late_judged (Wants (Exactly l ∷ ps)) a h =
      one_late (unless (same_literal l a.value.literal) (misfit a.span)) (argument_faults env ps [])
      (late_unless n p (same_literal l a.value.literal) (misfit a.span) (late_misfit n p a.span h)) (no_wants ps)
  late_judged (Wants (Any ∷ ps)) a h = one_late (must_be env is_argument a) (any_faults env []) (late_class is_argument a h) refl
  late_judged (Wants (Pairs ∷ ps)) a h = late_unless n p (is_null a) (misfit a.span) (late_misfit n p a.span h)
  late_judged Second a h = one_late (must_be env is_argument a) (pair_faults env []) (late_class is_argument a h) refl

  -- an argument that was read last is late, if there is one
  abbrev pub LateLast : Option Known → Type 0
  LateLast None = Unit {0}
  LateLast (Some a) = n < a.span.end

  pub late_from : (r : Rule) (o : Option Known) → LateLast o → shows n p (judged_from env r o []) ≡ false
  late_from r None h = ap (shows n p) (judged_none r)
  late_from r (Some a) h = late_judged r a h

  pub late_last : (r : Rule) (o : Option Known) → LateLast o → shows n p (of_last env r o) ≡ false
  late_last r None h = refl
  late_last r (Some a) h = go r
    where
      go : (r : Rule) → shows n p (of_more env r a) ≡ false
      go Anyhow = refl
      go (Fits []) = refl
      go (Fits (q ∷ ps)) = late_fit q a h
      go (Wants []) = refl
      go (Wants (Number k ∷ ps)) = late_class is_integer a h
      go (Wants (Pointer ∷ ps)) = late_class is_pointer_or_function a h
      go (Wants (Exactly l ∷ ps)) = late_unless n p (same_literal l a.value.literal) (misfit a.span) (late_misfit n p a.span h)
      go (Wants (Any ∷ ps)) = late_class is_argument a h
      go (Wants (Pairs ∷ ps)) = late_class is_pointer_or_function a h
      go Second = late_class is_argument a h

  -- calls

  abbrev pub rule_of_takes : Option Takes → Rule
  rule_of_takes None = Anyhow
  rule_of_takes (Some t) = Fits t.parameters

  abbrev pub rule_of_kind : Option Kind → Rule
  rule_of_kind None = Anyhow
  rule_of_kind (Some k) = rule_of_takes (signature_of env k)

  abbrev pub rule_of_row : Option Row → Rule
  rule_of_row None = Anyhow
  rule_of_row (Some r) = Wants r.parameters

  late_called : (b : Bool) (s : Span) (k : Option Kind) (fs : List Fault) → n < s.end → shows n p (called_if b s k fs).faults ≡ shows n p fs
  late_called true s k fs h = refl
  late_called false s k fs h = shows_append n p (misfit s) fs ∙ ap (λ x. x || shows n p fs) (late_misfit n p s h)

  late_unit : (o : Option Takes) (s : Span) (xs : List Known) → n < s.end → shows n p (unit_call env o s xs).faults ≡ shows n p
      (judged env (rule_of_takes o) xs)
  late_unit None s xs h = late_misfit n p s h
  late_unit (Some t) s xs h = late_called _ s t.result (fit_all env t.parameters xs) h

  pub late_call : (k : Option Kind) (s : Span) (xs : List Known) → n < s.end → shows n p (value_call env k s xs).faults ≡ shows n p
      (judged env (rule_of_kind k) xs)
  late_call None s xs h = refl
  late_call (Some k) s xs h = late_unit (signature_of env k) s xs h

  pub late_row : (o : Option Row) (s : Span) (fine : Bool) (xs : List Known) → n < s.end → shows n p (row_call env o s fine xs).faults ≡ shows n p
      (judged env (rule_of_row o) xs)
  late_row None s fine xs h = refl
  late_row (Some r) s fine xs h = late_called _ s (Some r.result) (argument_faults env r.parameters xs) h
