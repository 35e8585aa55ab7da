-- What static variables begin with.
use Rattle.std.proofs.Common.{◌≡◌, ◌∙◌, sym, ap, subst, [], map, Result, Ok, Err}
use Rattle.vg_base.specs.declared.event.Fault.{Fault}
use Rattle.vg_base.specs.declared.event.Fault.TheVariants.{Refused, Memory}
use Rattle.vg_base.specs.declared.event.UndefKind.{UndefKind}
use Rattle.c_tree.specs.Env.{Env}
use Rattle.c_tree.specs.declared.code.Expr.{Expr}
use Rattle.c_tree.specs.declared.kinds.Kind.{Kind}
use Rattle.c_meaning.specs.State
use Rattle.c_meaning.specs.Blocks.{Answer, bind, on}
use Rattle.c_meaning.specs.Layout.{declared}
use Rattle.c_meaning.specs.Numbers.{converted}
use Rattle.c_meaning.specs.Runs.{outside}
use Rattle.c_meaning.specs.Values as meaning
use Rattle.c_meaning.specs.Values.{Context}
use Rattle.c_code.specs.declared.code.Code.{Code}
use Rattle.c_code.specs.Coded as coded
use Rattle.c_code.specs.Laws.{bearings_of}
use Rattle.c_code.specs.Resolved.{in_kind, value_code}
use Rattle.c_code.specs.Statements.{bearings}
use Rattle.c_code.proofs.Calls.{converted_found}
use Rattle.c_texts.specs.Answers.{Answers}
use Rattle.c_resolver.specs.declared.scope.Scope.{Scope}
use Rattle.c_resolver.specs.Shown.{fixed_seen, looks, standing_seen}
use Rattle.c_tree.specs.declared.unit.StaticVariable.{StaticVariable}
use Rattle.c_tree.specs.declared.unit.Item.TheVariants as item
use Rattle.c_meaning.specs.Layout.{kind}
use Rattle.c_meaning.specs.Runs.{static_block, with_static}
use Rattle.c_meaning.specs.Steps.{cells_in}
use Rattle.c_value_checker.specs.Seen.{seen}
use Rattle.c_opening.specs.declared.opening.Opening.{Opening}
use Rattle.c_opening.specs.Opens.{Becomes, IsOutside, Opens, Refusing, unit_of}

-- 1. Answers

-- what was got is the answer
pub got : {A B : Type 0} (seen : A → B) (r : Result A (Fault UndefKind)) (a : A) (answer : Answer B) → r ≡ Ok a → Answers seen r answer → answer ≡ Ok (seen a)
got seen r a answer is told = subst (λ r. Answers seen r answer) is told

-- a refusal is the answer
abbrev IsRefusal : {B : Type 0} → Fault UndefKind → Answer B → Type 0
IsRefusal (Refused u) answer = answer ≡ Err u
IsRefusal Memory answer = Unit {0}

refusal_of : {A B : Type 0} (seen : A → B) (f : Fault UndefKind) (answer : Answer B) → Answers seen (Err f) answer → IsRefusal f answer
refusal_of seen (Refused u) answer told = told
refusal_of seen Memory answer told = told

-- 2. Values

-- where an initialiser is evaluated
abbrev context : Opening → State.State → Context
context o s = record { routines = (unit_of o).routines; state = s; scope = record { env = (unit_of o).env; variables = [] }; frame = 0 }

bearings_are : (env : Env) (o : Opening) (s : State.State) (scope : Scope) → Opens env o s → IsOutside o scope → looks o.tables scope ≡ bearings_of (context o s)
bearings_are env o s scope x outer =
    ap (λ sc. bearings (record { literals = map standing_seen o.tables.literals; statics = map fixed_seen o.tables.statics; routines = (unit_of o).routines }) sc) outer
    ∙ ap (λ ls. bearings (record { literals = ls; statics = map fixed_seen o.tables.statics; routines = (unit_of o).routines }) (record { env = declared o.tables.unit.now; variables = [] })) x.literals
    ∙ ap (λ ss. bearings (record { literals = s.literals; statics = ss; routines = (unit_of o).routines }) (record { env = declared o.tables.unit.now; variables = [] })) x.statics

-- the code of an initialiser comes to its value in the kind of the variable
value_started : (env : Env) (o : Opening) (s : State.State) (scope : Scope) (k : Kind) (e : Expr) → Opens env o s → IsOutside o scope
    → coded.value_of (in_kind k (value_code (looks o.tables scope) e)) o.run.heap 0 ≡ bind (meaning.value_of (outside (unit_of o) s) e) (converted k)
value_started env o s scope k e x outer =
    ap (λ b. coded.value_of (in_kind k (value_code b e)) o.run.heap 0) (bearings_are env o s scope x outer)
    ∙ ap (λ h. coded.value_of (in_kind k (value_code (bearings_of (context o s)) e)) h 0) (sym x.shows.heap)
    ∙ converted_found (unit_of o) (context o s) k e

-- what was evaluated is what is begun with
pub started : {A : Type 0} (seen : A → State.Value) (old new : Opening) (scope : Scope) (k : Kind) (e : Expr) (code : Code) (r : Result A (Fault UndefKind)) (a : A) (go : State.Value → State.State → State.State)
    → IsOutside old scope → code ≡ in_kind k (value_code (looks old.tables scope) e) → r ≡ Ok a → Answers seen r (coded.value_of code old.run.heap 0)
    → Becomes (go (seen a)) old new
    → Becomes (λ s. on s (bind (meaning.value_of (outside (unit_of old) s) e) (converted k)) (λ x. go x s)) old new
started seen old new scope k e code r a go outer is_code is told b = record { unit = b.unit; opens = opens }
  where
    opens : (env : Env) (s : State.State) → Opens env old s → Opens env new (on s (bind (meaning.value_of (outside (unit_of old) s) e) (converted k)) (λ x. go x s))
    opens env s o =
        let known = sym (value_started env old s scope k e o outer) ∙ ap (λ c. coded.value_of c old.run.heap 0) (sym is_code) ∙ got seen r a (coded.value_of code old.run.heap 0) is told in
        subst (λ y. Opens env new (on s y (λ x. go x s))) (sym known) (b.opens env s o)

-- a refusal ends the run
ended_by : {B : Type 0} (old new : Opening) (f : Fault UndefKind) (answer : State.State → Answer B) (go : B → State.State → State.State)
    → ((env : Env) (s : State.State) → Opens env old s → IsRefusal f (answer s)) → Refusing f old new
    → Becomes (λ s. on s (answer s) (λ x. go x s)) old new
ended_by old new (Refused u) answer go told b =
    record { unit = b.unit; opens = λ env s o. subst (λ y. Opens env new (on s y (λ x. go x s))) (sym (told env s o)) (b.opens env s o) }
ended_by old new Memory answer go told b = absurd b

pub refused : {A : Type 0} (seen : A → State.Value) (old new : Opening) (scope : Scope) (k : Kind) (e : Expr) (code : Code) (r : Result A (Fault UndefKind)) (f : Fault UndefKind) (go : State.Value → State.State → State.State)
    → IsOutside old scope → code ≡ in_kind k (value_code (looks old.tables scope) e) → r ≡ Err f → Answers seen r (coded.value_of code old.run.heap 0)
    → Refusing f old new
    → Becomes (λ s. on s (bind (meaning.value_of (outside (unit_of old) s) e) (converted k)) (λ x. go x s)) old new
refused seen old new scope k e code r f go outer is_code is told b =
    ended_by old new f (λ s. bind (meaning.value_of (outside (unit_of old) s) e) (converted k)) go
    (λ env s o. subst (IsRefusal f) (ap (λ c. coded.value_of c old.run.heap 0) is_code ∙ value_started env old s scope k e o outer)
    (refusal_of seen f (coded.value_of code old.run.heap 0) (subst (λ q. Answers seen q (coded.value_of code old.run.heap 0)) is told))) b

-- the kind of the variable is that which was found
pub in_its_kind : (old new : Opening) (scope : Scope) (v : StaticVariable) (k : Kind) → k ≡ kind (seen scope.environment) v.declared → IsOutside old scope
    → Becomes (λ s. on s (bind (meaning.value_of (outside (unit_of old) s) v.value) (converted k)) (λ x. static_block s v.name.text (cells_in x))) old new
    → Becomes (λ s. with_static (unit_of old) s (item.Variable v)) old new
in_its_kind old new scope v k is outer =
    subst (λ j. Becomes (λ s. on s (bind (meaning.value_of (outside (unit_of old) s) v.value) (converted j)) (λ x. static_block s v.name.text (cells_in x))) old new)
    (is ∙ ap (λ (sc : State.Scope). kind sc.env v.declared) outer)
