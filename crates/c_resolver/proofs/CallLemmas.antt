-- Arguments of calls, one after another.
use Rattle.std.proofs.Common.{
  ◌≡◌,
  ◌∙◌,
  refl,
  sym,
  ap,
  arith,
  ℕ,
  zero,
  suc,
  ◌+◌,
  ◌-◌,
  ◌<◌,
  ◌≤◌,
  length,
  get_or,
  slice_get,
  drop,
  take,
  map,
  true,
  false,
  List,
  [],
  ◌∷◌,
  ◌++◌,
  append_assoc,
  Option,
  Some,
  None,
}
use Rattle.std.proofs.lemmas.List.{append-nil, drop_all, length-drop, take_all}
use Rattle.c_tree.specs.declared.code.Expr.{Expr}
use Rattle.c_tree.specs.declared.kinds.Kind.{Kind}
use Rattle.std.specs.Option.{option_map}
use Rattle.c_tree.specs.declared.code.Call.{Call}
use Rattle.c_tree.specs.Library.{Row, RowParameter}
use Rattle.c_meaning.specs.Rows.{declared_row}
use Rattle.c_body_checker.specs.declared.library.RowParameter.{RowParameter as Parameter}
use Rattle.c_body_checker.specs.declared.library.RowParameter.TheVariants as parameter
use Rattle.c_body_checker.specs.Rows.{parameter_seen}
use Rattle.c_code.specs.declared.code.Code.{Code}
use Rattle.c_code.specs.declared.program.Callee.TheVariants as target
use Rattle.c_code.specs.declared.program.LibraryFunction.{LibraryFunction}
use Rattle.c_code.specs.declared.program.TypeArgument.{TypeArgument}
use Rattle.c_code.specs.Resolved.{Bearings, env_in}
use Rattle.c_code.specs.Statements.{argument_codes, free_code, function_named, library_call, row_code, row_codes, type_argument}
use Rattle.c_value_checker.proofs.NotedLemmas.{dropped}
use Rattle.c_resolver.specs.Library.{argument_code, declared_parameters, takes_rest}

-- 1. Arguments of a function of the unit

next_of : (i : ℕ) → suc (i + 1) ≡ suc i + 1
next_of i = omega arith

first_argument : (b : Bearings) (ks : List (Option Kind)) (i : ℕ) (e : Expr) (es : List Expr)
    → argument_codes b (drop i ks) (e ∷ es) ≡ argument_code b (slice_get ks i) e ∷ argument_codes b (drop (i + 1) ks) es
first_argument b [] zero e es = refl
first_argument b [] (suc i) e es = λ n. argument_code b None e ∷ argument_codes b (drop (next_of i n) []) es
first_argument b (k ∷ ks) zero e es = refl
first_argument b (k ∷ ks) (suc i) e es = first_argument b ks i e es ∙ (λ n. argument_code b (slice_get ks i) e ∷ argument_codes b
    (drop (next_of i n) (k ∷ ks)) es)

pub argument_step : (b : Bearings) (ks : List (Option Kind)) (es : List Expr) (i : ℕ) (o : Option
    (Option Kind)) (e : Expr) (old : List Code) (a : Code) (new : List Code)
    → i < length es → e ≡ get_or es i e → o ≡ slice_get ks i → a ≡ argument_code b o e → new ≡ old ++ a ∷ []
    → new ++ argument_codes b (drop (i + 1) ks) (drop (i + 1) es) ≡ old ++ argument_codes b (drop i ks) (drop i es)
argument_step b ks es i o e old a new h is eo ea en =
    ap (λ z. z ++ argument_codes b (drop (i + 1) ks) (drop (i + 1) es)) (en ∙ ap (λ z. old ++ z ∷ []) (ea ∙ ap (λ z. argument_code b z e) eo))
    ∙ append_assoc old (argument_code b (slice_get ks i) e ∷ []) (argument_codes b (drop (i + 1) ks) (drop (i + 1) es))
    ∙ ap (λ z. old ++ z) (sym (first_argument b ks i e (drop (i + 1) es)))
    ∙ ap (λ z. old ++ argument_codes b (drop i ks) z) (sym (dropped es i e h is))

argument_none : (b : Bearings) (ks : List (Option Kind)) → argument_codes b ks [] ≡ []
argument_none b [] = refl
argument_none b (k ∷ ks) = refl

-- 2. Arguments of a function of the library

got_some : {A : Type 0} (xs : List A) (i : ℕ) (x : A) → slice_get xs i ≡ Some x → drop i xs ≡ x ∷ drop (i + 1) xs
got_some [] i x e = absurd (let n : ⊥ = cc in n)
got_some (y ∷ xs) zero x e = ap (λ z. z ∷ xs) (let h : y ≡ x = cc in h)
got_some (y ∷ xs) (suc i) x e = got_some xs i x e ∙ (λ k. x ∷ drop (next_of i k) (y ∷ xs))

got_none : {A : Type 0} (xs : List A) (i : ℕ) → slice_get xs i ≡ None → drop i xs ≡ []
got_none [] zero e = refl
got_none [] (suc i) e = refl
got_none (y ∷ xs) zero e = absurd (let n : ⊥ = cc in n)
got_none (y ∷ xs) (suc i) e = got_none xs i e

row_one : (b : Bearings) (p : Parameter) (ps : List RowParameter) (e : Expr) (es : List Expr) → takes_rest p ≡ false
    → row_codes b (parameter_seen p ∷ ps) (e ∷ es) ≡ row_code b (parameter_seen p) e ∷ row_codes b ps es
row_one b (parameter.Number k) ps e es h = refl
row_one b parameter.Pointer ps e es h = refl
row_one b (parameter.Exactly l) ps e es h = refl
row_one b parameter.Any ps e es h = absurd (let x : ⊥ = cc in x)
row_one b parameter.Pairs ps e es h = absurd (let x : ⊥ = cc in x)

row_none : (b : Bearings) (ps : List RowParameter) → row_codes b ps [] ≡ []
row_none b [] = refl
row_none b (p ∷ ps) = refl

row_rest : (b : Bearings) (p : Parameter) (ps : List RowParameter) (es : List Expr) → takes_rest p ≡ true
    → row_codes b (parameter_seen p ∷ ps) es ≡ map (free_code b) es
row_rest b p ps [] h = refl
row_rest b (parameter.Number k) ps (e ∷ es) h = absurd (let x : ⊥ = cc in x)
row_rest b parameter.Pointer ps (e ∷ es) h = absurd (let x : ⊥ = cc in x)
row_rest b (parameter.Exactly l) ps (e ∷ es) h = absurd (let x : ⊥ = cc in x)
row_rest b parameter.Any ps (e ∷ es) h = refl
row_rest b parameter.Pairs ps (e ∷ es) h = refl

pub row_step : (b : Bearings) (ps : List Parameter) (es : List Expr) (i : ℕ) (p : Parameter) (e : Expr) (old : List Code) (a : Code) (new : List Code)
    → i < length es → e ≡ get_or es i e → Some p ≡ slice_get ps i → takes_rest p ≡ false → a ≡ row_code b (parameter_seen p) e → new ≡ old ++ a ∷ []
    → new ++ row_codes b (map parameter_seen (drop (i + 1) ps)) (drop (i + 1) es) ≡ old ++ row_codes b (map parameter_seen (drop i ps)) (drop i es)
row_step b ps es i p e old a new h is ep er ea en =
    ap (λ z. z ++ row_codes b (map parameter_seen (drop (i + 1) ps)) (drop (i + 1) es)) (en ∙ ap (λ z. old ++ z ∷ []) ea)
    ∙ append_assoc old (row_code b (parameter_seen p) e ∷ []) (row_codes b (map parameter_seen (drop (i + 1) ps)) (drop (i + 1) es))
    ∙ ap (λ z. old ++ z) (sym (row_one b p (map parameter_seen (drop (i + 1) ps)) e (drop (i + 1) es) er))
    ∙ (λ n. old ++ row_codes b (map parameter_seen (sym (got_some ps i p (sym ep)) n)) (sym (dropped es i e h is) n))

-- the arguments from one on are taken together
pub row_ends : (b : Bearings) (ps : List Parameter) (es : List Expr) (i : ℕ) (p : Parameter) (old : List Code) → Some p ≡ slice_get ps i → takes_rest p ≡ true
    → old ++ map (free_code b) (take (length es - i) (drop i es)) ≡ old ++ row_codes b (map parameter_seen (drop i ps)) (drop i es)
row_ends b ps es i p old ep er =
    ap (λ z. old ++ map (free_code b) z) (take_all (length es - i) (drop i es) rest)
    ∙ ap (λ z. old ++ z) (sym (row_rest b p (map parameter_seen (drop (i + 1) ps)) (drop i es) er))
    ∙ (λ n. old ++ row_codes b (map parameter_seen (sym (got_some ps i p (sym ep)) n)) (drop i es))
  where
    rest : length (drop i es) ≤ length es - i
    rest = omega (arith, length-drop i es)

-- there are no more parameters
pub row_short : (b : Bearings) (ps : List Parameter) (es : List Expr) (i : ℕ) (old : List Code) → None ≡ slice_get ps i
    → old ≡ old ++ row_codes b (map parameter_seen (drop i ps)) es
row_short b ps es i old e = sym (append-nil old) ∙ ap (λ z. old ++ row_codes b (map parameter_seen z) es) (sym (got_none ps i (sym e)))

-- there are no more arguments
pub row_all : (b : Bearings) (ps : List Parameter) (es : List Expr) (i : ℕ) (old : List Code) → length es ≤ i
    → old ≡ old ++ row_codes b (map parameter_seen (drop i ps)) (drop i es)
row_all b ps es i old h =
    sym (append-nil old) ∙ ap (λ z. old ++ z) (sym (row_none b (map parameter_seen (drop i ps))))
    ∙ ap (λ z. old ++ row_codes b (map parameter_seen (drop i ps)) z) (sym (drop_all i es h))

-- 3. Calls of functions of the library

none_called : (b : Bearings) (x : Call) (r : Option Row) → library_call b x r None ≡ record { callee = target.Nothing; arguments = [] }
none_called b x None = refl
none_called b x (Some r) = refl

pub call_none : (b : Bearings) (x : Call) (n m : List ℕ) (codes : List Code) → n ≡ m → function_named n ≡ None → codes ≡ []
    → record { callee = target.Nothing; arguments = codes } ≡ library_call b x (declared_row m) (function_named m)
call_none b x n m codes is e ec =
    (λ i. record { callee = target.Nothing; arguments = ec i }) ∙ sym (none_called b x (declared_row n)) ∙ ap (library_call b x (declared_row n)) (sym e)
    ∙ ap (λ z. library_call b x (declared_row z) (function_named z)) is

some_called : (b : Bearings) (x : Call) (r : Option Row) (f : LibraryFunction) (ps : List RowParameter) → option_map (λ (y : Row). y.parameters) r ≡ Some ps
    → library_call b x r (Some f) ≡ record { callee = target.Library f (type_argument (env_in b) x.type_argument); arguments = row_codes b ps x.arguments }
some_called b x None f ps e = absurd (let n : ⊥ = cc in n)
some_called b x (Some r) f ps e =
    ap (λ z. record { callee = target.Library f (type_argument (env_in b) x.type_argument); arguments = row_codes b z x.arguments })
    (let h : r.parameters ≡ ps = cc in h)

pub call_some : (b : Bearings) (x : Call) (n m : List ℕ) (f : LibraryFunction) (ps : List RowParameter) (made : TypeArgument) (es : List Expr) (codes :
    List Code)
    → n ≡ m → function_named n ≡ Some f → declared_parameters n ≡ Some ps → made ≡ type_argument (env_in b) x.type_argument → es ≡ x.arguments
    → codes ≡ row_codes b ps es
    → record { callee = target.Library f made; arguments = codes } ≡ library_call b x (declared_row m) (function_named m)
call_some b x n m f ps made es codes is ef ep em ee ec =
    (λ i. record { callee = target.Library f (em i); arguments = (ec ∙ ap (row_codes b ps) ee) i }) ∙ sym (some_called b x (declared_row n) f ps ep)
    ∙ ap (library_call b x (declared_row n)) (sym ef) ∙ ap (λ z. library_call b x (declared_row z) (function_named z)) is
