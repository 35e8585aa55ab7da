-- The arguments of calls, by what is kept of them.
use Rattle.std.proofs.Common.{◌≡◌, ◌∙◌, refl, sym, ap, ℕ, zero, suc, ◌+◌, ◌-◌, ◌%◌, ◌<◌, ◌≤◌, ◌==◌, not, length-drop, drop-cons, ◌&&◌, Bool, true, false, arith, slice_get, ◌++◌, append_assoc, append-nil, List, [], ◌∷◌, drop, get_or, map, Option, Some, None, length}
use Rattle.std.proofs.lemmas.List.{drop_all}
use Rattle.std.specs.Option.{option_map}
use Rattle.c_tree.specs.declared.names.Span.{Span}
use Rattle.c_tree.specs.declared.code.Expr.{Expr}
use Rattle.c_tree.specs.declared.kinds.Kind.{Kind}
use Rattle.c_tree.specs.Faults.{unless, misfit}
use Rattle.c_tree.specs.Kinds.{is_integer, is_argument, is_pointer_or_function}
use Rattle.c_tree.specs.Library as rule
use Rattle.c_tree.specs.Env.{Env}
use Rattle.c_tree.specs.Checks.{Known, checked}
use Rattle.c_tree.specs.Rules.{all_checked, called_if, class_by, fit_by, same_literal, argument_faults, fit_all, row_call, signature_of, takes_count, unit_call, value_call}
use Rattle.c_tree.specs.Rules as spec
use Rattle.c_body_checker.specs.declared.calls.Argument.{Argument}
use Rattle.c_value_checker.specs.declared.faults.Findings.{Findings}
use Rattle.c_value_checker.specs.Noted.{noted}
use Rattle.c_body_checker.specs.declared.library.LibraryRow.{LibraryRow}
use Rattle.c_value_checker.proofs.NotedLemmas.{dropped, noted_append}
use Rattle.c_body_checker.specs.declared.library.RowParameter.{RowParameter}
use Rattle.c_body_checker.specs.declared.library.RowParameter.TheVariants as parameter
use Rattle.c_value_checker.specs.Judgements.{is_null_told, literal_told}
use Rattle.c_body_checker.specs.Rows.{any_faults, argument, ends_at, fit_faults, literal_seen, one_fault, parameter_seen, part_fault, parts_faults, rest_faults, row_called, row_faults, row_seen, takes_rest, unit_called, value_called}
use Rattle.c_value_checker.proofs.OperandLemmas.{null_kept}

literal_back : (l : Option rule.Literal) → option_map literal_seen (option_map literal_told l) ≡ l
literal_back None = refl
literal_back (Some (rule.Word c)) = refl
literal_back (Some (rule.Figure s n)) = refl

any_kept : (env : Env) (xs : List Known) → any_faults (map (argument env) xs) ≡ spec.any_faults env xs
any_kept env [] = refl
any_kept env (a ∷ xs) = ap (λ z. class_by is_argument (a.value.kind env) a.span ++ z) (any_kept env xs)

pair_kept : (env : Env) (xs : List Known) → parts_faults true (map (argument env) xs) ≡ spec.pair_faults env xs
pair_kept env [] = refl
pair_kept env (a ∷ []) = ap (λ b. unless b (misfit a.span)) (null_kept a.value.literal)
pair_kept env (a ∷ b ∷ []) = ap (λ z. class_by is_pointer_or_function (a.value.kind env) a.span ++ z)
    (sym (append-nil (class_by is_argument (b.value.kind env) b.span)))
    ∙ sym (append_assoc (class_by is_pointer_or_function (a.value.kind env) a.span) (class_by is_argument (b.value.kind env) b.span) [])
pair_kept env (a ∷ b ∷ d ∷ xs) = sym (append_assoc (class_by is_pointer_or_function (a.value.kind env) a.span) (class_by is_argument (b.value.kind env) b.span)
    (parts_faults true (map (argument env) (d ∷ xs))))
    ∙ ap (λ z. (class_by is_pointer_or_function (a.value.kind env) a.span ++ class_by is_argument (b.value.kind env) b.span) ++ z) (pair_kept env (d ∷ xs))

pub row_kept : (env : Env) (ps : List RowParameter) (xs : List Known) → row_faults ps (map (argument env) xs) ≡ argument_faults env (map parameter_seen ps) xs
row_kept env [] xs = refl
row_kept env (p ∷ ps) [] = refl
row_kept env (parameter.Number k ∷ ps) (a ∷ xs) = ap (λ z. class_by is_integer (a.value.kind env) a.span ++ z) (row_kept env ps xs)
row_kept env (parameter.Pointer ∷ ps) (a ∷ xs) = ap (λ z. class_by is_pointer_or_function (a.value.kind env) a.span ++ z) (row_kept env ps xs)
row_kept env (parameter.Exactly l ∷ ps) (a ∷ xs) =
    (λ i. unless (same_literal (literal_seen l) (literal_back a.value.literal i)) (misfit a.span) ++ row_kept env ps xs i)
row_kept env (parameter.Any ∷ ps) (a ∷ xs) = any_kept env (a ∷ xs)
row_kept env (parameter.Pairs ∷ ps) (a ∷ xs) = pair_kept env (a ∷ xs)

pub fit_kept : (env : Env) (ps : List (Option Kind)) (xs : List Known) → fit_faults ps (map (argument env) xs) ≡ fit_all env ps xs
fit_kept env [] xs = refl
fit_kept env (p ∷ ps) [] = refl
fit_kept env (p ∷ ps) (a ∷ xs) = (λ i. fit_by p (a.value.kind env) (null_kept a.value.literal i) a.span ++ fit_kept env ps xs i)

length_kept : (env : Env) (xs : List Known) → length (map (argument env) xs) ≡ length xs
length_kept env [] = refl
length_kept env (a ∷ xs) = ap (λ n. suc n) (length_kept env xs)

unit_kept : (env : Env) (o : Option rule.Takes) (s : Span) (xs : List Known) → unit_called o s (map (argument env) xs) ≡ unit_call env o s xs
unit_kept env None s xs = refl
unit_kept env (Some t) s xs = (λ i. called_if (length t.parameters == length_kept env xs i) s t.result (fit_kept env t.parameters xs i))

-- a call of a value, by what is kept of its arguments
pub value_kept : (env : Env) (k : Option Kind) (s : Span) (xs : List Known) → value_called env k s (map (argument env) xs) ≡ value_call env k s xs
value_kept env None s xs = refl
value_kept env (Some k) s xs = unit_kept env (signature_of env k) s xs

-- a call of a function of the library, by what is kept of its arguments
pub library_kept : (env : Env) (o : Option LibraryRow) (s : Span) (fine : Bool) (xs : List Known)
    → row_called o s fine (map (argument env) xs) ≡ row_call env (option_map row_seen o) s fine xs
library_kept env None s fine xs = refl
library_kept env (Some r) s fine xs =
    (λ i. called_if (fine && takes_count (map parameter_seen r.parameters.now) (length_kept env xs i)) s (Some r.result) (row_kept env r.parameters.now xs i))

-- one argument more of those that are kept
pub argument_kept : (env : Env) (es : List Expr) (i : ℕ) (e : Expr) (ks js : List Argument) (j : Argument)
    → i < length es → e ≡ get_or es i e → j ≡ argument env (checked e) → js ≡ ks ++ j ∷ []
    → js ++ map (argument env) (all_checked checked (drop (i + 1) es)) ≡ ks ++ map (argument env) (all_checked checked (drop i es))
argument_kept env es i e ks js j h is q n =
    ap (λ z. z ++ map (argument env) (all_checked checked (drop (i + 1) es))) n
    ∙ append_assoc ks (j ∷ []) (map (argument env) (all_checked checked (drop (i + 1) es)))
    ∙ ap (λ z. ks ++ z ∷ map (argument env) (all_checked checked (drop (i + 1) es))) q
    ∙ ap (λ r. ks ++ map (argument env) (all_checked checked r)) (sym (dropped es i e h is))

-- one of a list, and what stands behind
pub got_some : {A : Type 0} (xs : List A) (i : ℕ) (x : A) → slice_get xs i ≡ Some x → drop i xs ≡ x ∷ drop (i + 1) xs
got_some [] i x e = absurd (let n : ⊥ = cc in n)
got_some (y ∷ xs) zero x e = ap (λ z. z ∷ xs) (let h : y ≡ x = cc in h)
got_some (y ∷ xs) (suc i) x e = got_some xs i x e ∙ (λ k. x ∷ drop ((let h : suc (i + 1) ≡ suc i + 1 = omega arith in h) k) (y ∷ xs))

-- what stands at a place of a list, and what stands behind
pub at_place : {A : Type 0} (xs : List A) (i : ℕ) (d : A) → i < length xs → drop i xs ≡ get_or xs i d ∷ drop (i + 1) xs
at_place xs i d h = drop-cons xs i d h ∙ (λ k. get_or xs i d ∷ drop ((let e : suc i ≡ i + 1 = omega arith in e) k) xs)

-- an argument of which nothing is known
abbrev pub blank : Argument
blank = record { span = record { start = 0; end = 0 }; found = record { literal = None; kind = None } }

pub got_none : {A : Type 0} (xs : List A) (i : ℕ) → slice_get xs i ≡ None → drop i xs ≡ []
got_none [] zero e = refl
got_none [] (suc i) e = refl
got_none (y ∷ xs) zero e = absurd (let n : ⊥ = cc in n)
got_none (y ∷ xs) (suc i) e = got_none xs i e

pub fit_none : (ps : List (Option Kind)) → fit_faults ps [] ≡ []
fit_none [] = refl
fit_none (p ∷ ps) = refl

pub row_none : (ps : List RowParameter) → row_faults ps [] ≡ []
row_none [] = refl
row_none (p ∷ ps) = refl

row_rest : (p : RowParameter) (ps : List RowParameter) (a : Argument) (xs : List Argument) → takes_rest p ≡ true
    → row_faults (p ∷ ps) (a ∷ xs) ≡ rest_faults p (a ∷ xs)
row_rest parameter.Any ps a xs e = refl
row_rest parameter.Pairs ps a xs e = refl
row_rest (parameter.Number k) ps a xs e = absurd (let n : ⊥ = cc in n)
row_rest parameter.Pointer ps a xs e = absurd (let n : ⊥ = cc in n)
row_rest (parameter.Exactly l) ps a xs e = absurd (let n : ⊥ = cc in n)

row_one : (p : RowParameter) (ps : List RowParameter) (a : Argument) (xs : List Argument) → takes_rest p ≡ false
    → row_faults (p ∷ ps) (a ∷ xs) ≡ one_fault p a ++ row_faults ps xs
row_one parameter.Any ps a xs e = absurd (let n : ⊥ = cc in n)
row_one parameter.Pairs ps a xs e = absurd (let n : ⊥ = cc in n)
row_one (parameter.Number k) ps a xs e = refl
row_one parameter.Pointer ps a xs e = refl
row_one (parameter.Exactly l) ps a xs e = refl

-- one argument more of a function of the unit
pub unit_turn : (ps : List (Option Kind)) (args : List Argument) (i : ℕ) (p : Option Kind) (a : Argument) (f g : Findings) → slice_get ps i ≡ Some p
    → drop i args ≡ a ∷ drop (i + 1) args
    → g ≡ noted f (fit_by p a.found.kind (is_null_told a.found.literal) a.span)
    → noted g (fit_faults (drop (i + 1) ps) (drop (i + 1) args)) ≡ noted f (fit_faults (drop i ps) (drop i args))
unit_turn ps args i p a f g ep ea eg =
    ap (λ x. noted x (fit_faults (drop (i + 1) ps) (drop (i + 1) args))) eg
    ∙ sym (noted_append f (fit_by p a.found.kind (is_null_told a.found.literal) a.span) (fit_faults (drop (i + 1) ps) (drop (i + 1) args)))
    ∙ sym (λ n. noted f (fit_faults (got_some ps i p ep n) (ea n)))

pub unit_end : (ps : List (Option Kind)) (args : List Argument) (i : ℕ) (f : Findings) → slice_get ps i ≡ None → f ≡ noted f (fit_faults (drop i ps) args)
unit_end ps args i f e = ap (λ l. noted f (fit_faults l args)) (sym (got_none ps i e))

pub unit_done : (ps : List (Option Kind)) (args : List Argument) (i : ℕ) (f : Findings) → length args ≤ i → f ≡ noted f (fit_faults (drop i ps) (drop i args))
unit_done ps args i f h = ap (noted f) (sym (ap (fit_faults (drop i ps)) (drop_all i args h) ∙ fit_none (drop i ps)))

-- one argument more of a function of the library
pub row_turn : (ps : List RowParameter) (args : List Argument) (i : ℕ) (p : RowParameter) (a : Argument) (f g : Findings) → slice_get ps i ≡ Some p
    → drop i args ≡ a ∷ drop (i + 1) args → takes_rest p ≡ false
    → g ≡ noted f (one_fault p a) → noted g (row_faults (drop (i + 1) ps) (drop (i + 1) args)) ≡ noted f (row_faults (drop i ps) (drop i args))
row_turn ps args i p a f g ep ea er eg =
    ap (λ x. noted x (row_faults (drop (i + 1) ps) (drop (i + 1) args))) eg
    ∙ sym (noted_append f (one_fault p a) (row_faults (drop (i + 1) ps) (drop (i + 1) args)))
    ∙ ap (noted f) (sym ((λ n. row_faults (got_some ps i p ep n) (ea n)) ∙ row_one p (drop (i + 1) ps) a (drop (i + 1) args) er))

pub row_ends : (ps : List RowParameter) (args : List Argument) (i : ℕ) (p : RowParameter) (a : Argument) (f g : Findings) → slice_get ps i ≡ Some p
    → drop i args ≡ a ∷ drop (i + 1) args → takes_rest p ≡ true
    → g ≡ noted f (rest_faults p (drop i args)) → g ≡ noted f (row_faults (drop i ps) (drop i args))
row_ends ps args i p a f g ep ea er eg =
    eg ∙ ap (noted f) (ap (rest_faults p) ea ∙ sym ((λ n. row_faults (got_some ps i p ep n) (ea n)) ∙ row_rest p (drop (i + 1) ps) a (drop (i + 1) args) er))

pub row_stop : (ps : List RowParameter) (args : List Argument) (i : ℕ) (f : Findings) → slice_get ps i ≡ None → f ≡ noted f (row_faults (drop i ps) args)
row_stop ps args i f e = ap (λ l. noted f (row_faults l args)) (sym (got_none ps i e))

pub row_done : (ps : List RowParameter) (args : List Argument) (i : ℕ) (f : Findings) → length args ≤ i → f ≡ noted f (row_faults (drop i ps) (drop i args))
row_done ps args i f h = ap (noted f) (sym (ap (row_faults (drop i ps)) (drop_all i args h) ∙ row_none (drop i ps)))

odd_count : (ps : List rule.RowParameter) (n : ℕ) → takes_count (rule.Pairs ∷ ps) n ≡ (n % 2 == 1)
odd_count ps zero = refl
odd_count ps (suc zero) = refl
odd_count ps (suc (suc n)) = odd_count ps n ∙ ap (λ m. m == 1) (let e : n % 2 ≡ suc (suc n) % 2 = omega arith in e)

-- what one parameter says of a number of arguments
pub count_ends : (p : RowParameter) (ps : List RowParameter) (n : ℕ) (b : Bool) → ends_at p n ≡ Some b → takes_count (map parameter_seen (p ∷ ps)) n ≡ b
count_ends parameter.Any ps n b e = let h : true ≡ b = cc in h
count_ends parameter.Pairs ps n b e = odd_count (map parameter_seen ps) n ∙ (let h : (n % 2 == 1) ≡ b = cc in h)
count_ends (parameter.Number k) ps zero b e = let h : false ≡ b = cc in h
count_ends (parameter.Number k) ps (suc n) b e = absurd (let n : ⊥ = cc in n)
count_ends parameter.Pointer ps zero b e = let h : false ≡ b = cc in h
count_ends parameter.Pointer ps (suc n) b e = absurd (let n : ⊥ = cc in n)
count_ends (parameter.Exactly l) ps zero b e = let h : false ≡ b = cc in h
count_ends (parameter.Exactly l) ps (suc n) b e = absurd (let n : ⊥ = cc in n)

pub count_turn : (p : RowParameter) (ps : List RowParameter) (n : ℕ) → ends_at p n ≡ None
    → takes_count (map parameter_seen ps) (n - 1) ≡ takes_count (map parameter_seen (p ∷ ps)) n
count_turn parameter.Any ps n e = absurd (let n : ⊥ = cc in n)
count_turn parameter.Pairs ps n e = absurd (let n : ⊥ = cc in n)
count_turn (parameter.Number k) ps zero e = absurd (let n : ⊥ = cc in n)
count_turn (parameter.Number k) ps (suc n) e = ap (takes_count (map parameter_seen ps)) (let h : suc n - 1 ≡ n = omega arith in h)
count_turn parameter.Pointer ps zero e = absurd (let n : ⊥ = cc in n)
count_turn parameter.Pointer ps (suc n) e = ap (takes_count (map parameter_seen ps)) (let h : suc n - 1 ≡ n = omega arith in h)
count_turn (parameter.Exactly l) ps zero e = absurd (let n : ⊥ = cc in n)
count_turn (parameter.Exactly l) ps (suc n) e = ap (takes_count (map parameter_seen ps)) (let h : suc n - 1 ≡ n = omega arith in h)

-- a parameter that decides about the number of arguments
pub count_stop : (ps : List RowParameter) (i n : ℕ) (d : RowParameter) (b : Bool) (o : Option Bool) → i < length ps → o ≡ ends_at (get_or ps i d) n → o ≡ Some b
    → takes_count (map parameter_seen (drop i ps)) n ≡ b
count_stop ps i n d b o h e is = ap (λ l. takes_count (map parameter_seen l) n) (at_place ps i d h)
    ∙ count_ends (get_or ps i d) (drop (i + 1) ps) n b (sym e ∙ is)

-- a parameter for one argument
pub count_more : (ps : List RowParameter) (i n : ℕ) (d : RowParameter) (o : Option Bool) → i < length ps → o ≡ ends_at (get_or ps i d) n → o ≡ None
    → takes_count (map parameter_seen (drop (i + 1) ps)) (n - 1) ≡ takes_count (map parameter_seen (drop i ps)) n
count_more ps i n d o h e is = count_turn (get_or ps i d) (drop (i + 1) ps) n (sym e ∙ is)
    ∙ ap (λ l. takes_count (map parameter_seen l) n) (sym (at_place ps i d h))

part_last : (t : Bool) (a : Argument) (xs : List Argument) → xs ≡ [] → parts_faults t (a ∷ xs) ≡ part_fault t true a ++ parts_faults (not t) xs
part_last t a [] e = sym (append-nil (part_fault t true a))
part_last t a (b ∷ xs) e = absurd (let n : ⊥ = cc in n)

part_more : (t : Bool) (a : Argument) (xs : List Argument) → 0 < length xs → parts_faults t (a ∷ xs) ≡ part_fault t false a ++ parts_faults (not t) xs
part_more t a [] h = absurd (omega (arith, h))
part_more t a (b ∷ xs) h = refl

last_test : (i n : ℕ) → true ≡ (i + 1 == n) → n ≤ i + 1
last_test i n e = grind arith

more_test : (i n m : ℕ) → i < n → false ≡ (i + 1 == n) → m ≡ n - (i + 1) → 0 < m
more_test i n m h e k = grind arith

part_one : (t l : Bool) (args : List Argument) (i : ℕ) (a : Argument) → i < length args → l ≡ (i + 1 == length args)
    → parts_faults t (a ∷ drop (i + 1) args) ≡ part_fault t l a ++ parts_faults (not t) (drop (i + 1) args)
part_one t true args i a h e = part_last t a (drop (i + 1) args) (drop_all (i + 1) args (last_test i (length args) e))
part_one t false args i a h e = part_more t a (drop (i + 1) args) (more_test i (length args) (length (drop (i + 1) args)) h e (length-drop (i + 1) args))

-- one part more of names and values
pub part_turn : (t l : Bool) (args : List Argument) (i : ℕ) (a : Argument) (f g : Findings) → i < length args → drop i args ≡ a ∷ drop (i + 1) args
    → l ≡ (i + 1 == length args)
    → g ≡ noted f (part_fault t l a) → noted g (parts_faults (not t) (drop (i + 1) args)) ≡ noted f (parts_faults t (drop i args))
part_turn t l args i a f g h ea el eg =
    ap (λ x. noted x (parts_faults (not t) (drop (i + 1) args))) eg ∙ sym (noted_append f (part_fault t l a) (parts_faults (not t) (drop (i + 1) args)))
    ∙ ap (noted f) (sym (ap (parts_faults t) ea ∙ part_one t l args i a h el))
