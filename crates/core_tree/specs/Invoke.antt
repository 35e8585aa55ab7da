-- What a call calls: methods, slots, delegates and accessors.
use Rattle.std.specs.Prelude.{ℕ, ◌==◌, if◌then◌else◌, pos, List, [], ◌∷◌, ◌++◌, map, find, Option, Some, None, slice_get, slice_index_or}
use Rattle.vg_base.specs.declared.event.VEnd.TheVariants.{Trapped}
use Rattle.vg_base.specs.declared.event.TrapKind.TheVariants as trap
use Rattle.core_tree.specs.declared.program.Core.{Core}
use Rattle.core_tree.specs.declared.lambda.Lambda.{Lambda}
use Rattle.core_tree.specs.declared.lambda.Target.{Target}
use Rattle.core_tree.specs.declared.lambda.Target.TheVariants as bound
use Rattle.core_tree.specs.declared.lambda.ThisAt.{ThisAt}
use Rattle.core_tree.specs.declared.lambda.ThisAt.TheVariants as this
use Rattle.core_tree.specs.declared.lambda.Via.{Via}
use Rattle.core_tree.specs.declared.lambda.Via.TheVariants as via
use Rattle.core_tree.specs.declared.tree.CoreStmt.{CoreStmt}
use Rattle.core_tree.specs.declared.types.ClassInfo.{ClassInfo}
use Rattle.core_tree.specs.declared.types.CoreMethod.{CoreMethod}
use Rattle.core_tree.specs.declared.types.CoreType.{CoreType}
use Rattle.core_tree.specs.declared.types.CoreType.TheVariants as declared
use Rattle.core_tree.specs.declared.types.Slot.{Slot}
use Rattle.core_tree.specs.declared.values.Callee.{Callee}
use Rattle.core_tree.specs.declared.values.Callee.TheVariants as callee
use Rattle.core_tree.specs.State
use Rattle.core_tree.specs.State.{Value, Null, Number, Thing, Cells, Delegate, Code, Method, Body, Resume, Operand, Given, Item, Push, Execute, EndCall, BackTo, Parked, Content, ObjectOf}
use Rattle.core_tree.specs.Places.{Out, quiet, stop, stuck, next, held, unless, value_of, Found, There, Fails, Nowhere, content_of, scope_from, this_of}
use Rattle.core_tree.specs.Calls.{Opening, open_frame, tested, used}

-- the local with a number begins at this place
abbrev pub local_place : State.State → ℕ → ℕ
local_place s n = slice_index_or s.frame.locals n 0

-- the scope at which a way begins
abbrev pub way_begins : State.State → Via → Value
way_begins s (via.Hold n) = held s (local_place s n)
way_begins s via.Target = s.frame.target

-- where `this` stands: in the frame, or in a scope
abbrev pub find_this : State.State → ThisAt → Found
find_this s this.Own = There s.frame.this
find_this s (this.Through at) = this_of s (scope_from s (way_begins s at.via) at.outward)

-- goes on with the value in a place, unless it cannot be reached
abbrev pub with_found : State.State → Found → (ℕ → Out) → Out
with_found s (There n) go = go n
with_found s (Fails e) go = stop s e
with_found s Nowhere go = stuck s

-- Classes, and what they have in their slots

-- a type that is a class
abbrev pub as_class : Option CoreType → Option ClassInfo
as_class (Some (declared.Class info)) = Some info
as_class _ = None

-- the class with a number
abbrev pub class_info : Core → ℕ → Option ClassInfo
class_info core n = as_class (slice_get core.types n)

-- the class of an object
abbrev pub class_in : Core → Option Content → Option ClassInfo
class_in core (Some (ObjectOf n)) = class_info core n
class_in core _ = None

-- the class of an object
abbrev pub class_of : Core → State.State → Value → Option ClassInfo
class_of core s v = class_in core (content_of s v)

-- what stands in a slot that was found
abbrev pub member_of : Option Slot → Option ℕ
member_of None = None
member_of (Some slot) = Some slot.member

-- what a class has in a slot
abbrev pub member_in : Option ClassInfo → ℕ → Option ℕ
member_in None slot = None
member_in (Some info) slot = member_of (find (λ (x : Slot). x.slot == slot) info.slots)

-- Calls

-- the frame is opened, its `out` places are cleared, and the body is done
abbrev pub begin_call : State.State → List Found → List CoreStmt → Opening → Out
begin_call s receiver body o =
    unless (tested (receiver ++ o.found)) s (quiet (next (o.cleared ++ map Execute body ++ EndCall o.owned s.frame ∷ []) o.state))

-- the same of a method that was looked up
abbrev pub call_with : Core → State.State → List Found → Value → List Operand → Option CoreMethod → Out
call_with core s receiver this os None = stuck s
call_with core s receiver this os (Some m) = begin_call s receiver m.body (open_frame core s m.locals this Null None os)

-- the method with a number; a receiver is used
abbrev pub call_method : Core → State.State → List Found → Value → List Operand → ℕ → Out
call_method core s receiver this os m = call_with core s receiver this os (slice_get core.methods m)

-- the method that was found in a slot; where there is none the receiver is tested all the same
abbrev pub call_found : Core → State.State → Value → List Operand → Option ℕ → Out
call_found core s this os None = unless (tested (used s this ∷ [])) s (stuck s)
call_found core s this os (Some m) = call_method core s (used s this ∷ []) this os m

-- the method that the receiver's class has in a slot
abbrev pub call_slot : Core → State.State → Value → List Operand → ℕ → Out
call_slot core s this os slot = call_found core s this os (member_in (class_of core s this) slot)

-- A lambda's frame: its target is a scope, or `this` alone, or nothing.
abbrev pub call_lambda : Core → State.State → Lambda → CoreStmt → Value → List Operand → Target → Out
call_lambda core s l body target os (bound.Captures at) = begin_call s [] (body ∷ []) (open_frame core s l.locals Null target None os)
call_lambda core s l body target os _ = begin_call s [] (body ∷ []) (open_frame core s l.locals target Null None os)

-- Activations

-- the parked part of an activation
abbrev pub parked_of : ℕ → List Parked → Option Parked
parked_of t ps = find (λ (p : Parked). p.activation == t) ps

-- the others that are parked
abbrev pub without_parked : ℕ → List Parked → List Parked
without_parked t [] = []
without_parked t (p ∷ ps) = if p.activation == t then ps else p ∷ without_parked t ps

-- A parked activation goes on: its frame and the rest of its work, then this, and then the frame that is there now.
abbrev pub go_on : State.State → Parked → List Item → State.State
go_on s p behind =
    next (p.work ++ BackTo s.frame ∷ behind) (record s { frame = p.frame; parked = without_parked p.activation s.parked })

-- the same of an activation that was looked up
abbrev pub resume_by : State.State → Option Parked → Out
resume_by s None = stop s (Trapped trap.Resume)
resume_by s (Some p) = if p.by_yield then quiet (go_on s p (Push (Given (Number (pos 0))) ∷ [])) else stop s (Trapped trap.Resume)

-- The call of `m.callback` resumes the activation and gives false. It is the trap `resume` where it is not parked by `yield;`.
abbrev pub resume : State.State → Value → Out
resume s (Thing t) = unless (tested (used s (Thing t) ∷ [])) s (resume_by s (parked_of t s.parked))
resume s v = stuck s

-- The call of a method value is a member call on its target; the call of a lambda is no use of its target.
abbrev pub call_delegate : Core → State.State → Value → List Operand → Out
call_delegate core s (Delegate (Method m) Null) os = call_method core s [] Null os m
call_delegate core s (Delegate (Method m) target) os = call_method core s (used s target ∷ []) target os m
call_delegate core s (Delegate (Body l body at) target) os = call_lambda core s l body target os l.target
call_delegate core s (Delegate Resume target) os = resume s target
call_delegate core s v os = stop s (Trapped trap.Null)

-- the first of the operands is the receiver
abbrev pub with_receiver : State.State → List Operand → (Value → List Operand → Out) → Out
with_receiver s [] go = stuck s
with_receiver s (o ∷ os) go = go (value_of s o) os

-- a call, by what it calls
abbrev pub call : Core → State.State → Callee → List Operand → Out
call core s (callee.Static m) os = call_method core s [] Null os m
call core s (callee.Method m) os = with_receiver s os (λ v rest. call_method core s (used s v ∷ []) v rest m)
call core s (callee.Virtual slot) os = with_receiver s os (λ v rest. call_slot core s v rest slot)
call core s (callee.Delegate kind) os = with_receiver s os (λ v rest. call_delegate core s v rest)
