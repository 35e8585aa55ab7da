-- What a statement puts in front of the work.
use Rattle.std.specs.Prelude.{ℕ, suc, nat_lt, Bool, true, false, if◌then◌else◌, pos, List, [], ◌∷◌, ◌++◌, length, map, Option, Some, None, Result, Ok, Err}
use Rattle.std.specs.List.{list_any}
use Rattle.vg_base.specs.declared.event.Span.{Span}
use Rattle.vg_base.specs.declared.event.VEnd.{VEnd}
use Rattle.vg_base.specs.declared.event.VEnd.TheVariants.{Trapped, Dead}
use Rattle.vg_base.specs.declared.event.TrapKind.TheVariants as trap
use Rattle.vala_types.specs.declared.types.Item.{Item as ElementType}
use Rattle.vala_types.specs.declared.owners.Change.{Change}
use Rattle.vala_types.specs.declared.owners.Change.TheVariants as change
use Rattle.core_tree.specs.declared.program.Core.{Core}
use Rattle.core_tree.specs.declared.lambda.BlockLocal.{BlockLocal}
use Rattle.core_tree.specs.declared.lambda.CapturedParameter.{CapturedParameter}
use Rattle.core_tree.specs.declared.lambda.Scope.{Scope}
use Rattle.core_tree.specs.declared.lambda.ScopeAt.{ScopeAt}
use Rattle.core_tree.specs.declared.lambda.ThisAt.{ThisAt}
use Rattle.core_tree.specs.declared.lambda.Lambda.{Lambda}
use Rattle.core_tree.specs.declared.lambda.Target.{Target}
use Rattle.core_tree.specs.declared.lambda.Target.TheVariants as bound
use Rattle.core_tree.specs.declared.operation.Operation.{Operation}
use Rattle.core_tree.specs.declared.operation.Operation.TheVariants as op
use Rattle.core_tree.specs.declared.tree.CoreExpr.{CoreExpr, out-CoreExpr, CoreExpr-F}
use Rattle.core_tree.specs.declared.tree.CoreStmt.{CoreStmt, out-CoreStmt, CoreStmt-F}
use Rattle.core_tree.specs.declared.tree.SectionLabel.{SectionLabel}
use Rattle.core_tree.specs.State
use Rattle.core_tree.specs.State.{Value, Null, Number, Literal, Arguments, Thing, Delegate, Body, Place, Operand, Given, Owned, OwnedCells, At, ElementOf, VariableOf, Frame, Way, Break, Continue, Return, Throw, Item, Evaluate, Locate, Push, ReadTarget, ReadAway, ChangeTop, Perform, Reach, AndThen, OrElse, OneOf, IfNull, Branch, Repeat, Execute, Discard, Store, EndStatement, EndBlock, GiveUp, Turn, Steps, Each, BeginEach, EndSwitch, Choose, SetResult, Leave, ThrowGiven, Catches, Finally, Check, Content, ArrayOf, ScopeOf, ErrorOf}
use Rattle.core_tree.specs.Arithmetic.{int_equal}
use Rattle.core_tree.specs.Places.{Out, quiet, stop, stuck, next, cells_of, empty_places, range, held, fill, carried, is_owning_place, owning_from, with_thing, next_serial, made, uses, reads, is_null, cannot_be_owned, content_of, unless, value_of, give_value, give_owned, scope_from}
use Rattle.core_tree.specs.Calls.{type_of_item, is_struct}
use Rattle.core_tree.specs.Invoke.{local_place, way_begins, find_this, with_found}
use Rattle.core_tree.specs.Storing.{store_at, stands, is_false}
use Rattle.core_tree.specs.Async.{park}
use Rattle.core_tree.specs.Objects.{with_no_temporaries}
use Rattle.core_tree.specs.Operations.{text_equal, signed_number}

-- an expression or a statement, one layer of it
abbrev pub Expression : Type 0
Expression = CoreExpr-F CoreExpr CoreStmt

-- a statement, one layer of it
abbrev pub Statement : Type 0
Statement = CoreStmt-F CoreExpr CoreStmt

-- Expressions

-- the parts are evaluated from left to right, with no operands before them, and then comes this
abbrev pub with_parts : State.State → List CoreExpr → Item → Out
with_parts s parts item = quiet (next (map Evaluate parts ++ item ∷ []) (record s { frame = record s.frame { operands = [] } }))

-- a delegate is given; one that owns its target is a new owner of it
abbrev pub give_delegate : State.State → Bool → Value → Value → Out
give_delegate s false target v = quiet (give_value s v)
give_delegate s true target v = if cannot_be_owned s target then stop s Dead else quiet (give_owned s v)

-- a scope, or the end that the way to it brings
abbrev pub with_scope : State.State → Result Value VEnd → (Value → Out) → Out
with_scope s (Err e) go = stop s e
with_scope s (Ok v) go = go v

-- the scope that code reaches
abbrev pub scope_value : State.State → ScopeAt → Result Value VEnd
scope_value s at = scope_from s (way_begins s at.via) at.outward

-- a lambda, by what it is bound to
abbrev pub lambda_to : State.State → Lambda → CoreStmt → Span → Target → Out
lambda_to s l body at bound.Nothing = give_delegate s l.is_owning Null (Delegate (Body l body at) Null)
lambda_to s l body at (bound.This this) =
    with_found s (find_this s this) (λ n. give_delegate s l.is_owning (held s n) (Delegate (Body l body at) (held s n)))
lambda_to s l body at (bound.Captures scope) =
    with_scope s (scope_value s scope) (λ v. give_delegate s l.is_owning v (Delegate (Body l body at) v))

-- an expression puts its parts in front
abbrev pub evaluate : State.State → Expression → Out
evaluate s (CoreExpr-F.Apply o parts at) = with_parts s parts (Perform o s.frame.operands)
evaluate s (CoreExpr-F.PlaceOf target at) = quiet (next (Locate target ∷ []) s)
evaluate s (CoreExpr-F.PlaceAndValue target at) = quiet (next (Locate target ∷ ReadTarget ∷ []) s)
evaluate s (CoreExpr-F.And a b at) = quiet (next (Evaluate a ∷ AndThen b ∷ []) s)
evaluate s (CoreExpr-F.Or a b at) = quiet (next (Evaluate a ∷ OrElse b ∷ []) s)
evaluate s (CoreExpr-F.Choice test a b at) = quiet (next (Evaluate test ∷ OneOf a b ∷ []) s)
evaluate s (CoreExpr-F.Coalesce a b at) = quiet (next (Evaluate a ∷ IfNull b ∷ []) s)
evaluate s (CoreExpr-F.Lambda l body at) = lambda_to s l body at l.target

-- an operation that gives a place
abbrev pub gives_place : Operation → Bool
gives_place (op.Local n kind) = true
gives_place (op.Static n kind) = true
gives_place (op.Captured at n kind) = true
gives_place (op.Field n kind) = true
gives_place (op.Member n kind) = true
gives_place (op.Element of) = true
gives_place _ = false

-- the struct of a member: one in a place is a target too, which is found by the step that uses it
abbrev pub struct_item : CoreExpr → Expression → Item
struct_item e (CoreExpr-F.Apply o parts at) = if gives_place o then Locate e else Evaluate e
struct_item e _ = Evaluate e

-- what is done for the parts of a target
abbrev pub target_parts : Operation → List CoreExpr → List Item
target_parts (op.Member n kind) parts = map (λ e. struct_item e (out-CoreExpr e)) parts
target_parts _ parts = map Evaluate parts

-- a target: its parts are evaluated, and not the operation itself
abbrev pub locate : State.State → Expression → Out
locate s (CoreExpr-F.Apply o parts at) =
    quiet (next (target_parts o parts ++ Reach o s.frame.operands ∷ []) (record s { frame = record s.frame { operands = [] } }))
locate s _ = stuck s

-- the operand given last is taken
abbrev pub taking : State.State → List Operand → (State.State → Operand → Out) → Out
taking s [] go = stuck s
taking s (o ∷ os) go = go (record s { frame = record s.frame { operands = os } }) o

-- the operand given last is taken off
abbrev pub take_operand : State.State → (State.State → Operand → Out) → Out
take_operand s go = taking s s.frame.operands go

-- Blocks

-- the owning places of the locals, the last local first
abbrev pub locals_owned : Core → State.State → List BlockLocal → List ℕ
locals_owned core s [] = []
locals_owned core s (l ∷ ls) = locals_owned core s ls ++ owning_from s (range (local_place s l.local) (length (cells_of core l.kind)))

-- what a block does behind its scope
abbrev pub block_work : List Item → List CoreStmt → List ℕ → List Item
block_work prologue body owned = prologue ++ map Execute body ++ EndBlock owned ∷ []

-- a captured parameter goes into its variable: it moves where it owns, and else is copied by its type
abbrev pub parameter_operand : Core → State.State → CapturedParameter → Change → List Item
parameter_operand core s p change.Move =
    if is_struct p.kind.shape then Push (OwnedCells (local_place s p.local) (length (cells_of core p.kind))) ∷ [] else Push (Owned (local_place s p.local)) ∷ []
parameter_operand core s p ch = Push (Given (stands s p.kind (local_place s p.local))) ∷ ChangeTop ch p.kind ∷ []

-- each captured parameter goes into the scope, in order
abbrev pub capture : Core → State.State → ℕ → List CapturedParameter → List Item
capture core s t [] = []
capture core s t (p ∷ ps) = Push (VariableOf (Thing t) 0 p.variable) ∷ parameter_operand core s p p.change ++ Store ∷ capture core s t ps

-- a value is there
abbrev pub is_some_value : Option Value → Bool
is_some_value None = false
is_some_value (Some v) = true

-- the place for a scope's outer scope or `this`, where it has one
abbrev pub link : ℕ → Option Value → List Place
link t None = []
link t (Some v) = record { owning = true; holds = v; within = Some t } ∷ []

-- the places of a scope
abbrev pub scope_places : Core → ℕ → Scope → Option Value → Option Value → List Place
scope_places core t sc outer this = empty_places core (Some t) sc.variables ++ link t outer ++ link t this

-- what a scope is
abbrev pub scope_content : Core → State.State → Scope → Option Value → Option Value → Content
scope_content core s sc outer this = ScopeOf (length (empty_places core None sc.variables)) (is_some_value outer) (is_some_value this)

-- The scope is made, and the block holds it. The hold is the last that the block gives up.
abbrev pub make_scope : Core → State.State → Scope → List BlockLocal → List Item → List CoreStmt → Option Value → Option Value → Out
make_scope core s sc locals prologue body outer this =
    if is_owning_place s (local_place s sc.hold) then (
      next (capture core s (next_serial s) sc.parameters ++ block_work prologue body (locals_owned core s locals ++ local_place s sc.hold ∷ [])) (
          fill (with_thing s (scope_content core s sc outer this) (scope_places core (next_serial s) sc outer this)) (local_place s sc.hold) (Thing (next_serial s))
          ),
      made (scope_content core s sc outer this),
    )
    else stuck s

-- the scope becomes a new owner of `this`, if it keeps it
abbrev pub scope_this : Core → State.State → Scope → List BlockLocal → List Item → List CoreStmt → Option Value → Option ThisAt → Out
scope_this core s sc locals prologue body outer None = make_scope core s sc locals prologue body outer None
scope_this core s sc locals prologue body outer (Some this) =
    with_found s (find_this s this) (λ n. if cannot_be_owned s (held s n) then stop s Dead else make_scope core s sc locals prologue body outer (Some (held s n)))

-- the scope becomes a new owner of the next scope outward, if there is one
abbrev pub scope_outer : Core → State.State → Scope → List BlockLocal → List Item → List CoreStmt → Option ScopeAt → Out
scope_outer core s sc locals prologue body None = scope_this core s sc locals prologue body None sc.this
scope_outer core s sc locals prologue body (Some at) =
    with_scope s (scope_value s at) (λ v. if cannot_be_owned s v then stop s Dead else scope_this core s sc locals prologue body (Some v) sc.this)

-- a block is entered, by whether it makes a scope
abbrev pub enter_by : Core → State.State → List BlockLocal → List Item → List CoreStmt → List Scope → Out
enter_by core s locals prologue body [] = quiet (next (block_work prologue body (locals_owned core s locals)) s)
enter_by core s locals prologue body (sc ∷ scs) = scope_outer core s sc locals prologue body sc.outer

-- A block is entered. What fills its first local comes behind the scope and before its statements.
abbrev pub enter : Core → State.State → List Item → Statement → Out
enter core s prologue (CoreStmt-F.Block locals scope body at) = enter_by core s locals prologue body scope
enter core s prologue _ = stuck s

-- a block is entered
abbrev pub enter_block : Core → State.State → List Item → CoreStmt → Out
enter_block core s prologue block = enter core s prologue (out-CoreStmt block)

-- Statements

-- a statement or a part of one, with temporaries of its own: this is done, they are given up, and then comes that
abbrev pub part_of_statement : State.State → List Item → List Item → Out
part_of_statement s inside behind = quiet (next (inside ++ EndStatement s.frame.temporaries ∷ behind) (with_no_temporaries s))

-- a statement puts what it does in front
abbrev pub execute : Core → State.State → CoreStmt → Statement → Out
execute core s whole (CoreStmt-F.Empty at) = quiet s
execute core s whole (CoreStmt-F.Expression e at) = part_of_statement s (Evaluate e ∷ Discard ∷ []) []
execute core s whole (CoreStmt-F.Local target e at) = part_of_statement s (Locate target ∷ Evaluate e ∷ Store ∷ []) []
execute core s whole (CoreStmt-F.Block locals scope body at) = enter_by core s locals [] body scope
execute core s whole (CoreStmt-F.If test a b at) = part_of_statement s (Evaluate test ∷ []) (Branch a b ∷ [])
execute core s whole (CoreStmt-F.While test body at) = quiet (next (Turn whole ∷ []) s)
execute core s whole (CoreStmt-F.Do body test at) = quiet (next (Execute body ∷ Turn whole ∷ []) s)
execute core s whole (CoreStmt-F.For test steps body at) = quiet (next (Turn whole ∷ []) s)
execute core s whole (CoreStmt-F.Foreach array item variable ch body at) = part_of_statement s (Evaluate array ∷ BeginEach whole ∷ []) []
execute core s whole (CoreStmt-F.Switch e sections at) = quiet (next (Evaluate e ∷ Choose sections s.frame.temporaries ∷ []) (with_no_temporaries s))
execute core s whole (CoreStmt-F.Section values labels body at) = stuck s
execute core s whole (CoreStmt-F.Break at) = quiet (next (Leave Break ∷ []) s)
execute core s whole (CoreStmt-F.Continue at) = quiet (next (Leave Continue ∷ []) s)
execute core s whole (CoreStmt-F.Return [] at) = quiet (next (Leave Return ∷ []) s)
execute core s whole (CoreStmt-F.Return (e ∷ es) at) = part_of_statement s (Evaluate e ∷ SetResult ∷ []) (Leave Return ∷ [])
execute core s whole (CoreStmt-F.Throw e at) = part_of_statement s (Evaluate e ∷ ThrowGiven ∷ []) []
execute core s whole (CoreStmt-F.Try body catches last at) = quiet (next (Execute body ∷ Catches catches ∷ Finally last ∷ []) s)
execute core s whole (CoreStmt-F.Catch domain caught variable body at) = stuck s
execute core s whole (CoreStmt-F.Yield at) = park s
execute core s whole (CoreStmt-F.Assert e at) = part_of_statement s (Evaluate e ∷ Check ∷ []) []
execute core s whole (CoreStmt-F.AssertNotReached at) = stop s (Trapped trap.Assert)

-- Loops

-- the next turn begins with the test
abbrev pub turn : State.State → CoreStmt → Statement → Out
turn s whole (CoreStmt-F.While test body at) = part_of_statement s (Evaluate test ∷ []) (Repeat body whole ∷ [])
turn s whole (CoreStmt-F.Do body test at) = part_of_statement s (Evaluate test ∷ []) (Repeat body whole ∷ [])
turn s whole (CoreStmt-F.For test steps body at) = part_of_statement s (Evaluate test ∷ []) (Repeat body whole ∷ [])
turn s whole _ = stuck s

-- what comes behind the body of a loop
abbrev pub behind_body : CoreStmt → Statement → List Item
behind_body whole (CoreStmt-F.For test steps body at) = Steps steps ∷ Turn whole ∷ []
behind_body whole _ = Turn whole ∷ []

-- the body and the next turn, where the condition holds
abbrev pub repeat : State.State → CoreStmt → CoreStmt → Operand → Out
repeat s body whole o = if is_false (value_of s o) then quiet s else quiet (next (Execute body ∷ behind_body whole (out-CoreStmt whole)) s)

-- the elements of an array that a `foreach` goes over: its length is read once
abbrev pub length_in : State.State → Value → Option Content → CoreStmt → Out
length_in s (Arguments first count) c whole = quiet (next (Each whole (Arguments first count) 0 count ∷ []) s)
length_in s v (Some (ArrayOf of count)) whole = quiet (next (Each whole v 0 count ∷ []) s)
length_in s v _ whole = stuck s

-- the length of the array is read, which is a use of it
abbrev pub begin_each : State.State → CoreStmt → Operand → Out
begin_each s whole o = unless (uses s (value_of s o ∷ [])) s (length_in s (value_of s o) (content_of s (value_of s o)) whole)

-- the element is read into the variable, by the change
abbrev pub bind_element : CoreExpr → ElementType → Change → Value → ℕ → List Item
bind_element variable of ch v i =
    Locate variable ∷ Push (ElementOf v (pos i)) ∷ ReadAway (type_of_item of) ∷ ChangeTop ch (type_of_item of) ∷ Store ∷ []

-- the element is read, and the body done
abbrev pub each_turn : Core → State.State → CoreStmt → Value → ℕ → ℕ → Statement → Out
each_turn core s whole v i n (CoreStmt-F.Foreach array of variable ch body at) =
    enter_block core (next (Each whole v (suc i) n ∷ []) s) (bind_element variable of ch v i) body
each_turn core s whole v i n _ = stuck s

-- the next turn, where there is one
abbrev pub each : Core → State.State → CoreStmt → Value → ℕ → ℕ → Out
each core s whole v i n = if nat_lt i n then each_turn core s whole v i n (out-CoreStmt whole) else quiet s

-- `switch`

-- a label is the value
abbrev pub label_matches : State.State → Value → Expression → Bool
label_matches s (Number z) (CoreExpr-F.Apply (op.Number is_negative size) parts at) = int_equal z (signed_number is_negative size)
label_matches s v (CoreExpr-F.Apply (op.Text bytes) parts at) = text_equal s v (Literal bytes)
label_matches s v (CoreExpr-F.Apply op.Null parts at) = is_null v
label_matches s v _ = false

-- one of the labels is the value
abbrev pub any_label : State.State → Value → List CoreExpr → Bool
any_label s v [] = false
any_label s v (e ∷ es) = if label_matches s v (out-CoreExpr e) then true else any_label s v es

-- this one, or a later one
abbrev pub body_if : Bool → CoreStmt → Option CoreStmt → Option CoreStmt
body_if true body later = Some body
body_if false body later = later

-- the block of a section that has the value among its labels
abbrev pub section_matching : State.State → Value → Statement → Option CoreStmt → Option CoreStmt
section_matching s v (CoreStmt-F.Section values labels body at) later = body_if (any_label s v values) body later
section_matching s v _ later = later

-- the block of a section that has the label `default`
abbrev pub section_default : Statement → Option CoreStmt → Option CoreStmt
section_default (CoreStmt-F.Section values labels body at) later = body_if (list_any (λ (l : SectionLabel). l.is_default) labels) body later
section_default _ later = later

-- the block of the section with `default`
abbrev pub default_of : List CoreStmt → Option CoreStmt
default_of [] = None
default_of (c ∷ cs) = section_default (out-CoreStmt c) (default_of cs)

-- the block of the first section with a label for the value
abbrev pub chosen : State.State → Value → List CoreStmt → Option CoreStmt → Option CoreStmt
chosen s v [] otherwise = otherwise
chosen s v (c ∷ cs) otherwise = section_matching s v (out-CoreStmt c) (chosen s v cs otherwise)

-- the section that was chosen
abbrev pub section_work : Option CoreStmt → List Item
section_work None = []
section_work (Some body) = Execute body ∷ EndSwitch ∷ []

-- a section with a label other than `default`
abbrev pub has_label : Statement → Bool
has_label (CoreStmt-F.Section (value ∷ values) labels body at) = true
has_label _ = false

-- the value, where a label is compared with it
abbrev pub compared_with : List CoreStmt → Value → List Value
compared_with sections v = if list_any (λ c. has_label (out-CoreStmt c)) sections then v ∷ [] else []

-- the value is compared while its temporaries are there; then they go, and then the section is done
abbrev pub choose : State.State → List CoreStmt → List ℕ → Operand → Out
choose s sections outer o =
    unless (reads s (compared_with sections (value_of s o))) s (quiet (next (EndStatement outer ∷ section_work (chosen s (value_of s o) sections (default_of sections))) s))

-- Results and errors

-- the value goes into the place of the result
abbrev pub set_result : State.State → Operand → Out
set_result s o = store_at s s.frame.result o

-- the error stands in a place of its own while it is carried
abbrev pub throw : State.State → Operand → Out
throw s (Owned n) =
    if is_null (held s n) then stop s (Trapped trap.Null)
    else quiet (next (Leave (Throw (length s.places)) ∷ []) (carried s n))
throw s o = unless (uses s (value_of s o ∷ [])) s (stuck s)

-- the trap `assert` where the condition does not hold
abbrev pub check : State.State → Operand → Out
check s o = if is_false (value_of s o) then stop s (Trapped trap.Assert) else quiet s
