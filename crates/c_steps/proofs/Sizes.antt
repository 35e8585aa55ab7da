-- Code that knows its cells: each statement that stands in it does, and the code of a unit is such code.
use Rattle.std.proofs.Common.{◌≡◌, refl, get_or, ℕ, zero, suc, List, [], ◌∷◌, Option, Some, None}
use Rattle.std.specs.Prelude.{slice_get}
use Rattle.std.specs.List.{All}
use Rattle.std.proofs.lemmas.Option.{none-some, same_Some}
use Rattle.std.proofs.lemmas.List.Elements.{All-head, All-map, All-tail}
use Rattle.std.proofs.Common.{subst}
use Rattle.c_tree.specs.Env.{Env}
use Rattle.c_meaning.specs.State
use Rattle.c_code.specs.declared.program.Statement.{Statement}
use Rattle.c_code.specs.declared.program.Body.{Body}
use Rattle.c_code.specs.declared.program.Routine.{Routine}
use Rattle.c_tree.specs.declared.kinds.Kind.{Kind}
use Rattle.c_code.specs.Resolved.{Tables, Bearings}
use Rattle.c_code.specs.Statements.{bearings, optional_body, routine_code, statement_code}
use Rattle.c_code.specs.Machine.{body_of, statement_at, statements_of}
use Rattle.c_steps.specs.Performs.{AreSized, CodeIsSized, IsSizedBody, IsSizedStatement}

found : {X : Type 0} (P : X → Type 0) (xs : List X) (n : ℕ) (x : X) → All P xs → slice_get xs n ≡ Some x → P x
found P [] n x all is = absurd (none-some x is)
found P (y ∷ ys) zero x all is = subst P (same_Some y x is) (All-head P y ys all)
found P (y ∷ ys) (suc n) x all is = found P ys n x (All-tail P y ys all) is

in_body : (env : Env) (b : Option Body) (n : ℕ) (st : Statement) → IsSizedBody env b → slice_get (statements_of b) n ≡ Some st → IsSizedStatement env st
in_body env None n st sized is = absurd (none-some st is)
in_body env (Some b) n st sized is = found (IsSizedStatement env) b.statements n st sized is

in_routine : (env : Env) (r : Option Routine) (n : ℕ) (st : Statement) → ((x : Routine) → r ≡ Some x → IsSizedBody env x.body)
    → slice_get (statements_of (body_of r)) n ≡ Some st → IsSizedStatement env st
in_routine env None n st each is = absurd (none-some st is)
in_routine env (Some r) n st each is = in_body env r.body n st (each r refl) is

pub sized_statement : (env : Env) (rs : List Routine) (f : State.Frame) (st : Statement) → AreSized env rs → statement_at rs f ≡ Some st → IsSizedStatement env st
sized_statement env rs f st sized is =
    in_routine env (slice_get rs f.routine) f.at st (λ r at. found (λ (r : Routine). IsSizedBody env r.body) rs f.routine r sized at) is

made_sized : (env : Env) (r : Kind) (whole : List State.Statement) (b : Bearings) (a : State.Act) → IsSizedStatement env (statement_code env r whole b a)
made_sized env r whole b (State.Store x c) = refl
made_sized env r whole b a = tt

all_sized : {X : Type 0} (P : X → Type 0) → ((x : X) → P x) → (xs : List X) → All P xs
all_sized P each xs k d within = each (get_or xs k d)

body_sized : (env : Env) (t : Tables) (r : Kind) (b : Option State.Body) → IsSizedBody env (optional_body env t r b)
body_sized env t r None = tt
body_sized env t r (Some b) =
    All-map (IsSizedStatement env) (λ (x : State.Statement). statement_code env r b.code (bearings t x.scope) x.act) b.code
    (all_sized (λ (x : State.Statement). IsSizedStatement env (statement_code env r b.code (bearings t x.scope) x.act))
    (λ x. made_sized env r b.code (bearings t x.scope) x.act) b.code)

-- the code of a unit's functions
pub code_sized : CodeIsSized
code_sized env t =
    All-map (λ (r : Routine). IsSizedBody env r.body) (routine_code env t) t.routines
    (all_sized (λ (r : State.Routine). IsSizedBody env (optional_body env t r.result r.body)) (λ r. body_sized env t r.result r.body) t.routines)
