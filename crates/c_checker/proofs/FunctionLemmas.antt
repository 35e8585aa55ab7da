-- Names of functions.
use Rattle.std.proofs.Common.{◌≡◌, ◌∙◌, refl, ap, ℕ, ◌||◌, Bool, List, [], ◌∷◌, Option, Some, None}
use Rattle.c_tree.specs.declared.code.Local.{Local}
use Rattle.c_tree.specs.declared.names.Name.{Name}
use Rattle.c_tree.specs.declared.unit.Parameter.{Parameter}
use Rattle.c_tree.specs.declared.unit.Signature.{Signature}
use Rattle.c_tree.specs.declared.kinds.KindBase.TheVariants.{Function}
use Rattle.c_tree.specs.declared.kinds.Sort.{Sort}
use Rattle.c_tree.specs.declared.kinds.Sort.TheVariants as sort
use Rattle.c_tree.specs.Kinds.{plain}
use Rattle.c_tree.specs.Library.{Takes}
use Rattle.c_tree.specs.Env.{Env, declare, found, kind_of, number_of, opened, with_signature}
use Rattle.c_tree.specs.Unit.{again, is_defined_already, new_function_type, takes_of, with_function, with_optional, with_parameter, with_parameters}
use Rattle.c_tree.specs.Rules.{with_locals}
use Rattle.c_value_checker.specs.declared.environment.Environment.{Environment}
use Rattle.c_value_checker.specs.Seen.{closed, seen}
use Rattle.c_value_checker.proofs.ScopeLemmas.{Inside, closed_inside, inside_declared, inside_is, inside_opened}
use Rattle.c_body_checker.proofs.BodyLemmas.{inside_locals}
use Rattle.c_checker.specs.Functions.{again_by}

-- what is said of a function that is there already
pub again_is : (env : Env) (s : Signature) (b : Bool) (o : Option Sort) → again_by s (number_of env (takes_of env s)) b o ≡ again env s b o
again_is env s b None = refl
again_is env s b (Some (sort.Function n t u)) = refl
again_is env s b (Some o) = refl

-- a prototype or a definition
pub function_added : (a m d : Env) (s : Signature) (t : Takes) (n : ℕ) (b c : Bool) → t ≡ takes_of a s → m ≡ with_signature a t → n ≡ number_of a t → c ≡ (b || is_defined_already (found a.scopes s.name.text))
    → d ≡ declare m s.name (sort.Function n s.is_static c) → d ≡ with_function a s b
function_added a m d s t n b c et em en ec ed =
    ed ∙ (λ i. declare ((em ∙ ap (with_signature a) et) i) s.name (sort.Function ((en ∙ ap (number_of a) et) i) s.is_static (ec i)))

-- a function type
pub type_added : (a m d : Env) (s : Signature) (t : Takes) (n : ℕ) → t ≡ takes_of a s → m ≡ with_signature a t → n ≡ number_of a t
    → d ≡ declare m s.name (sort.Type (plain (Function n))) → d ≡ new_function_type a s
type_added a m d s t n et em en ed = ed ∙ (λ i. declare ((em ∙ ap (with_signature a) et) i) s.name (sort.Type (plain (Function ((en ∙ ap (number_of a) et) i)))))

inside_optional : (env d : Env) (x : Option Name) (s : Sort) → Inside env d → Inside env (with_optional d x s)
inside_optional env d None s p = p
inside_optional env d (Some x) s p = inside_declared env d (declare d x s) x s p refl

-- parameters are declared in the scope that is open
pub inside_parameters : (env d : Env) (ps : List Parameter) → Inside env d → Inside env (with_parameters d ps)
inside_parameters env d [] p = p
inside_parameters env d (x ∷ ps) p = inside_parameters env (with_parameter d x) ps (inside_optional env d x.name (sort.Variable (kind_of d x.declared)) p)

-- where the scope of parameters ends, what was declared before is left
pub closed_parameters : (e : Environment) (o b d : Env) (ps : List Parameter) → o ≡ opened (seen e) → b ≡ with_parameters o ps → d ≡ closed b → d ≡ seen e
closed_parameters e o b d ps eo eb ed = ed ∙ closed_inside e b (inside_is (seen e) (with_parameters o ps) b (inside_parameters (seen e) o ps (inside_opened (seen e) o eo)) eb)

-- the same of parameters and of what is declared behind them
pub closed_function : (e : Environment) (o p b d : Env) (ps : List Parameter) (ls : List Local) → o ≡ opened (seen e) → p ≡ with_parameters o ps → b ≡ with_locals p ls → d ≡ closed b
    → d ≡ seen e
closed_function e o p b d ps ls eo ep eb ed =
    ed ∙ closed_inside e b (inside_is (seen e) (with_locals p ls) b (inside_locals (seen e) p ls (inside_is (seen e) (with_parameters o ps) p (inside_parameters (seen e) o ps (inside_opened (seen e) o eo)) ep)) eb)
