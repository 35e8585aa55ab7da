-- What statements keep.
use Rattle.std.proofs.Common.{refl, sym}
use Rattle.std.specs.Prelude.{ℕ, suc, Bool, true, false, List, [], ◌∷◌, ◌++◌, Option, Some, None, Result, Ok, Err}
use Rattle.vg_base.specs.declared.event.Span.{Span}
use Rattle.vg_base.specs.declared.event.VEnd.{VEnd}
use Rattle.vg_base.specs.declared.event.VEnd.TheVariants.{Dead}
use Rattle.vala_types.specs.declared.types.Item.{Item as ElementType}
use Rattle.vala_types.specs.declared.owners.Change.{Change}
use Rattle.vala_types.specs.declared.owners.Change.TheVariants as change
use Rattle.core_tree.specs.declared.program.Core.{Core}
use Rattle.core_tree.specs.declared.lambda.BlockLocal.{BlockLocal}
use Rattle.core_tree.specs.declared.lambda.CapturedParameter.{CapturedParameter}
use Rattle.core_tree.specs.declared.lambda.Scope.{Scope}
use Rattle.core_tree.specs.declared.lambda.ScopeAt.{ScopeAt}
use Rattle.core_tree.specs.declared.lambda.ThisAt.{ThisAt}
use Rattle.core_tree.specs.declared.lambda.Lambda.{Lambda}
use Rattle.core_tree.specs.declared.lambda.Target.{Target}
use Rattle.core_tree.specs.declared.lambda.Target.TheVariants as bound
use Rattle.core_tree.specs.declared.operation.Operation.{Operation}
use Rattle.core_tree.specs.declared.operation.Operation.TheVariants as op
use Rattle.core_tree.specs.declared.tree.CoreExpr.{CoreExpr, out-CoreExpr, CoreExpr-F}
use Rattle.core_tree.specs.declared.tree.CoreStmt.{CoreStmt, CoreStmt-F}
use Rattle.core_tree.specs.State
use Rattle.core_tree.specs.State.{Value, Null, Arguments, Thing, Delegate, Body, Place, Operand, Owned, VariableOf, Item, Evaluate, Locate, Push, Store, Each, Content, ArrayOf}
use Rattle.core_tree.specs.Places.{Out, quiet, stop, stuck, next, empty_places, held, is_owning_place, next_serial, cannot_be_owned, give_owned}
use Rattle.core_tree.specs.Invoke.{local_place, find_this}
use Rattle.core_tree.proofs.Kept.{parts, calm_same, keeps_still, keeps_test, keeps_behind, keeps_next}
use Rattle.core_tree.proofs.Keeps.Endings.{keeps-filled}
use Rattle.core_tree.proofs.Owned.{carries_same, carries_more, Takes, takes_nil, takes_item, takes_append, tested_lives}
use Rattle.core_tree.proofs.Moved.{takes_empty_places}
use Rattle.core_tree.proofs.Owned.{fills_tested}
use Rattle.std.proofs.Common.{◌≡◌, IsTrue, true≢false}
use Rattle.core_tree.specs.Owners.{owned_by, is_thing}
use Rattle.core_tree.proofs.Keeps.Invoke.{keeps-with_found}
use Rattle.core_tree.proofs.Kept.{plain_item, plain_append, plain_map}
use Rattle.std.proofs.Common.{Bool, true, false, cond}
use Rattle.core_tree.specs.Statements.{Expression, Statement, with_parts, give_delegate, with_scope, scope_value, lambda_to, evaluate, gives_place, struct_item, target_parts, locate, taking, take_operand, locals_owned, block_work, parameter_operand, capture, link, scope_places, scope_content, make_scope, scope_this, scope_outer, enter_by, enter, enter_block, part_of_statement, execute, turn, behind_body, repeat, length_in, begin_each, bind_element, each_turn, each, section_work, choose, set_result, throw, check}
use Rattle.core_tree.proofs.Kept.{Keeps, IsPlain, Plain}
use Rattle.core_tree.proofs.Keeps.{steps, plain_rules}
use Rattle.core_tree.proofs.Keeps.Async.{keeps-park}
use Rattle.core_tree.proofs.Keeps.Places.{keeps-unless}
use Rattle.core_tree.proofs.Keeps.Storing.{keeps-store_at}

pub plain-either : (b : Bool) (i j : Item) → IsPlain i → IsPlain j → IsPlain (cond b i j)
plain-either true i j h k = h
plain-either false i j h k = k

pub plain-struct_item : (e : CoreExpr) (x : Expression) → IsPlain (struct_item e x)
plain-struct_item e (CoreExpr-F.Apply o parts at) = plain-either (gives_place o) (Locate e) (Evaluate e) (λ t. refl) (λ t. refl)
plain-struct_item e x = λ t. refl

pub plain-target_parts : (o : Operation) (es : List CoreExpr) → Plain (target_parts o es)
plain-target_parts (op.Member n kind) es = plain_map (λ e. struct_item e (out-CoreExpr e)) (λ e. plain-struct_item e (out-CoreExpr e)) es
plain-target_parts o es = search plain_rules depth 14

pub plain-block_work : (prologue : List Item) (body : List CoreStmt) (owned : List ℕ) → Plain prologue → Plain (block_work prologue body owned)
plain-block_work prologue body owned h0 = search plain_rules depth 14

pub plain-parameter_operand : (core : Core) (s : State.State) (p : CapturedParameter) (ch : Change) → Plain (parameter_operand core s p ch)
plain-parameter_operand core s p change.Move = search plain_rules depth 14
plain-parameter_operand core s p ch = search plain_rules depth 14

pub plain-capture : (core : Core) (s : State.State) (t : ℕ) (ps : List CapturedParameter) → Plain (capture core s t ps)
plain-capture core s t [] = search plain_rules
plain-capture core s t (p ∷ ps) =
    plain_item (Push (VariableOf (Thing t) 0 p.variable)) _ (λ u. refl) (
    plain_append (parameter_operand core s p p.change) (Store ∷ capture core s t ps) (plain-parameter_operand core s p p.change)
    (plain_item Store (capture core s t ps) (λ u. refl) (plain-capture core s t ps))
    )

pub plain-behind_body : (whole : CoreStmt) (x1 : Statement) → Plain (behind_body whole x1)
plain-behind_body whole (CoreStmt-F.For test steps body at) = search plain_rules depth 14
plain-behind_body whole x1 = search plain_rules depth 14

pub plain-bind_element : (variable : CoreExpr) (of : ElementType) (ch : Change) (v : Value) (i : ℕ) → Plain (bind_element variable of ch v i)
plain-bind_element variable of ch v i = search plain_rules depth 14

pub plain-section_work : (x0 : Option CoreStmt) → Plain (section_work x0)
plain-section_work None = search plain_rules depth 14
plain-section_work (Some body) = search plain_rules depth 14

ruleset rules_here = (steps, plain-either, plain-struct_item, plain-target_parts, plain-block_work, plain-parameter_operand, plain-capture, plain-behind_body, plain-bind_element, plain-section_work)

pub keeps-with_parts : (s : State.State) (parts : List CoreExpr) (item : Item) → IsPlain item → Keeps 1 [] s (with_parts s parts item)
keeps-with_parts s parts item h2 = search rules_here depth 14

pub keeps-give_delegate : (s : State.State) (owning : Bool) (target v : Value) → ((t : ℕ) → IsTrue (is_thing t (owned_by v)) → IsTrue (is_thing t (owned_by target))) → Keeps 1 [] s (give_delegate s owning target v)
keeps-give_delegate s false target v h = search rules_here depth 14
keeps-give_delegate s true target v h =
    let p : Place = record { owning = true; holds = v; within = None } in
    keeps_test s.things s.places s.work s.parked s.handlers s.last_handler s.sources s.last_source (cannot_be_owned s target) (stop s Dead) (quiet (give_owned s v)) (λ e. search rules_here depth 14)
    (λ e. keeps_still s (give_owned s v) refl (carries_more None s.things s.places s.places (p ∷ []) (carries_same s.things s.places) (takes_item s.things p [] (record { by = λ t o. tested_lives s target e t (h t o) }) (takes_nil s.things))) (calm_same s.work))

pub keeps-with_scope : (s : State.State) (x1 : Result Value VEnd) (go : (Value → Out)) → ((a0 : Value) → Keeps 1 [] s (go a0)) → Keeps 1 [] s (with_scope s x1 go)
keeps-with_scope s (Err e) go h2 = search rules_here depth 14
keeps-with_scope s (Ok v) go h2 = search rules_here depth 14

-- a lambda's delegate owns its target
body_owns : (l : Lambda) (body : CoreStmt) (at : Span) (target : Value) (t : ℕ) → IsTrue (is_thing t (owned_by (Delegate (Body l body at) target))) → IsTrue (is_thing t (owned_by target))
body_owns l body at (Thing u) t h = h
body_owns l body at target t h = absurd (true≢false (sym h))

pub keeps-lambda_to : (s : State.State) (l : Lambda) (body : CoreStmt) (at : Span) (target : Target) → Keeps 1 [] s (lambda_to s l body at target)
keeps-lambda_to s l body at bound.Nothing = keeps-give_delegate s l.is_owning Null (Delegate (Body l body at) Null) (body_owns l body at Null)
keeps-lambda_to s l body at (bound.This this) = keeps-with_found s (find_this s this) _ (λ n. keeps-give_delegate s l.is_owning (held s n) (Delegate (Body l body at) (held s n)) (body_owns l body at (held s n)))
keeps-lambda_to s l body at (bound.Captures scope) = keeps-with_scope s (scope_value s scope) _ (λ v. keeps-give_delegate s l.is_owning v (Delegate (Body l body at) v) (body_owns l body at v))

pub keeps-evaluate : (s : State.State) (x1 : Expression) → Keeps 1 [] s (evaluate s x1)
keeps-evaluate s (CoreExpr-F.Apply o parts at) = search (rules_here, keeps-with_parts) depth 14
keeps-evaluate s (CoreExpr-F.PlaceOf target at) = search rules_here depth 14
keeps-evaluate s (CoreExpr-F.PlaceAndValue target at) = search rules_here depth 14
keeps-evaluate s (CoreExpr-F.And a b at) = search rules_here depth 14
keeps-evaluate s (CoreExpr-F.Or a b at) = search rules_here depth 14
keeps-evaluate s (CoreExpr-F.Choice test a b at) = search rules_here depth 14
keeps-evaluate s (CoreExpr-F.Coalesce a b at) = search rules_here depth 14
keeps-evaluate s (CoreExpr-F.Lambda l body at) = search (rules_here, keeps-lambda_to) depth 14

pub keeps-locate : (s : State.State) (x1 : Expression) → Keeps 1 [] s (locate s x1)
keeps-locate s (CoreExpr-F.Apply o parts at) = search rules_here depth 14
keeps-locate s x1 = search rules_here depth 14

pub keeps-taking : (s : State.State) (os : List Operand) (go : State.State → Operand → Out) → ((o : Operand) (os : List Operand) → Keeps 1 [] s (go (record s { frame = record s.frame { operands = os } }) o)) → Keeps 1 [] s (taking s os go)
keeps-taking s [] go h = search rules_here depth 14
keeps-taking s (o ∷ os) go h = h o os

pub keeps-take_operand : (s : State.State) (go : State.State → Operand → Out) → ((o : Operand) (os : List Operand) → Keeps 1 [] s (go (record s { frame = record s.frame { operands = os } }) o)) → Keeps 1 [] s (take_operand s go)
keeps-take_operand s go h = keeps-taking s s.frame.operands go h

takes_link : (s : State.State) (t : ℕ) (v : Value) → cannot_be_owned s v ≡ false → Takes s.things (link t (Some v))
takes_link s t v e = takes_item s.things _ [] (fills_tested s v (Some t) e) (takes_nil s.things)

keeps-make_scope : (core : Core) (s : State.State) (sc : Scope) (locals : List BlockLocal) (prologue : List Item) (body : List CoreStmt) (outer this : Option Value) → Plain prologue → Takes s.things (link (next_serial s) outer) → Takes s.things (link (next_serial s) this) → Keeps 1 [] s (make_scope core s sc locals prologue body outer this)
keeps-make_scope core s sc locals prologue body outer this h j k =
    keeps_test s.things s.places s.work s.parked s.handlers s.last_handler s.sources s.last_source (is_owning_place s (local_place s sc.hold)) _ (stuck s)
    (λ e. keeps_next 1 [] (capture core s (next_serial s) sc.parameters ++ block_work prologue body (locals_owned core s locals ++ local_place s sc.hold ∷ [])) s _ _ (search rules_here depth 14)
    (keeps-filled s (scope_content core s sc outer this) (scope_places core (next_serial s) sc outer this) (local_place s sc.hold) e
    (takes_append s.things (empty_places core (Some (next_serial s)) sc.variables ++ link (next_serial s) outer) (link (next_serial s) this) (takes_append s.things (empty_places core (Some (next_serial s)) sc.variables) (link (next_serial s) outer) (takes_empty_places s.things core (Some (next_serial s)) sc.variables) j) k)))
    (λ e. search rules_here depth 14)

keeps-scope_this : (core : Core) (s : State.State) (sc : Scope) (locals : List BlockLocal) (prologue : List Item) (body : List CoreStmt) (outer : Option Value) (this : Option ThisAt) → Plain prologue → Takes s.things (link (next_serial s) outer) → Keeps 1 [] s (scope_this core s sc locals prologue body outer this)
keeps-scope_this core s sc locals prologue body outer None h j = keeps-make_scope core s sc locals prologue body outer None h j (takes_nil s.things)
keeps-scope_this core s sc locals prologue body outer (Some this) h j =
    keeps-with_found s (find_this s this) _ (λ n.
    keeps_test s.things s.places s.work s.parked s.handlers s.last_handler s.sources s.last_source (cannot_be_owned s (held s n)) (stop s Dead) _ (λ e. search rules_here depth 14)
    (λ e. keeps-make_scope core s sc locals prologue body outer (Some (held s n)) h j (takes_link s (next_serial s) (held s n) e)))

keeps-scope_outer : (core : Core) (s : State.State) (sc : Scope) (locals : List BlockLocal) (prologue : List Item) (body : List CoreStmt) (outer : Option ScopeAt) → Plain prologue → Keeps 1 [] s (scope_outer core s sc locals prologue body outer)
keeps-scope_outer core s sc locals prologue body None h = keeps-scope_this core s sc locals prologue body None sc.this h (takes_nil s.things)
keeps-scope_outer core s sc locals prologue body (Some at) h =
    keeps-with_scope s (scope_value s at) _ (λ v.
    keeps_test s.things s.places s.work s.parked s.handlers s.last_handler s.sources s.last_source (cannot_be_owned s v) (stop s Dead) _ (λ e. search rules_here depth 14)
    (λ e. keeps-scope_this core s sc locals prologue body (Some v) sc.this h (takes_link s (next_serial s) v e)))

pub keeps-enter_by : (core : Core) (s : State.State) (locals : List BlockLocal) (prologue : List Item) (body : List CoreStmt) (x5 : List Scope) → Plain prologue → Keeps 1 [] s (enter_by core s locals prologue body x5)
keeps-enter_by core s locals prologue body [] h3 = search rules_here depth 14
keeps-enter_by core s locals prologue body (sc ∷ scs) h3 = search (rules_here, keeps-scope_outer) depth 14

pub keeps-enter : (core : Core) (s : State.State) (prologue : List Item) (x3 : Statement) → Plain prologue → Keeps 1 [] s (enter core s prologue x3)
keeps-enter core s prologue (CoreStmt-F.Block locals scope body at) h2 = search (rules_here, keeps-enter_by) depth 14
keeps-enter core s prologue x3 h2 = search rules_here depth 14

pub keeps-enter_block : (core : Core) (s : State.State) (prologue : List Item) (block : CoreStmt) → Plain prologue → Keeps 1 [] s (enter_block core s prologue block)
keeps-enter_block core s prologue block h2 = search (rules_here, keeps-enter) depth 14

pub keeps-part_of_statement : (s : State.State) (inside : List Item) (behind : List Item) → Plain inside → Plain behind → Keeps 1 [] s (part_of_statement s inside behind)
keeps-part_of_statement s inside behind h1 h2 = search rules_here depth 14

pub keeps-execute : (core : Core) (s : State.State) (whole : CoreStmt) (x3 : Statement) → Keeps 1 [] s (execute core s whole x3)
keeps-execute core s whole (CoreStmt-F.Empty at) = search rules_here depth 14
keeps-execute core s whole (CoreStmt-F.Expression e at) = search (rules_here, keeps-part_of_statement) depth 14
keeps-execute core s whole (CoreStmt-F.Local target e at) = search (rules_here, keeps-part_of_statement) depth 14
keeps-execute core s whole (CoreStmt-F.Block locals scope body at) = search (rules_here, keeps-enter_by) depth 14
keeps-execute core s whole (CoreStmt-F.If test a b at) = search (rules_here, keeps-part_of_statement) depth 14
keeps-execute core s whole (CoreStmt-F.While test body at) = search rules_here depth 14
keeps-execute core s whole (CoreStmt-F.Do body test at) = search rules_here depth 14
keeps-execute core s whole (CoreStmt-F.For test steps body at) = search rules_here depth 14
keeps-execute core s whole (CoreStmt-F.Foreach array item variable ch body at) = search (rules_here, keeps-part_of_statement) depth 14
keeps-execute core s whole (CoreStmt-F.Switch e sections at) = search rules_here depth 14
keeps-execute core s whole (CoreStmt-F.Section values labels body at) = search rules_here depth 14
keeps-execute core s whole (CoreStmt-F.Break at) = search rules_here depth 14
keeps-execute core s whole (CoreStmt-F.Continue at) = search rules_here depth 14
keeps-execute core s whole (CoreStmt-F.Return [] at) = search rules_here depth 14
keeps-execute core s whole (CoreStmt-F.Return (e ∷ es) at) = search (rules_here, keeps-part_of_statement) depth 14
keeps-execute core s whole (CoreStmt-F.Throw e at) = search (rules_here, keeps-part_of_statement) depth 14
keeps-execute core s whole (CoreStmt-F.Try body catches last at) = search rules_here depth 14
keeps-execute core s whole (CoreStmt-F.Catch domain caught variable body at) = search rules_here depth 14
keeps-execute core s whole (CoreStmt-F.Yield at) = search (rules_here, keeps-park) depth 14
keeps-execute core s whole (CoreStmt-F.Assert e at) = search (rules_here, keeps-part_of_statement) depth 14
keeps-execute core s whole (CoreStmt-F.AssertNotReached at) = search rules_here depth 14

pub keeps-turn : (s : State.State) (whole : CoreStmt) (x2 : Statement) → Keeps 1 [] s (turn s whole x2)
keeps-turn s whole (CoreStmt-F.While test body at) = search (rules_here, keeps-part_of_statement) depth 14
keeps-turn s whole (CoreStmt-F.Do body test at) = search (rules_here, keeps-part_of_statement) depth 14
keeps-turn s whole (CoreStmt-F.For test steps body at) = search (rules_here, keeps-part_of_statement) depth 14
keeps-turn s whole x2 = search rules_here depth 14

pub keeps-repeat : (s : State.State) (body : CoreStmt) (whole : CoreStmt) (o : Operand) → Keeps 1 [] s (repeat s body whole o)
keeps-repeat s body whole o = search rules_here depth 14

pub keeps-length_in : (s : State.State) (v : Value) (c : Option Content) (whole : CoreStmt) → Keeps 1 [] s (length_in s v c whole)
keeps-length_in s (Arguments first count) c whole = search rules_here depth 14
keeps-length_in s v (Some (ArrayOf of count)) whole = search rules_here depth 14
keeps-length_in s v c whole = search rules_here depth 14

pub keeps-begin_each : (s : State.State) (whole : CoreStmt) (o : Operand) → Keeps 1 [] s (begin_each s whole o)
keeps-begin_each s whole o = search (rules_here, keeps-unless, keeps-length_in) depth 14

-- a block is entered, with work behind it
pub keeps-enter_behind : (core : Core) (s : State.State) (items prologue : List Item) (block : CoreStmt) → Plain items → Plain prologue → Keeps 1 [] s (enter_block core (next items s) prologue block)
keeps-enter_behind core s items prologue block h k = keeps_behind 1 [] items s _ _ h (keeps-enter_block core (next items s) prologue block k)

keeps-each_turn : (core : Core) (s : State.State) (whole : CoreStmt) (v : Value) (i n : ℕ) (loop : Statement) → Keeps 1 [] s (each_turn core s whole v i n loop)
keeps-each_turn core s whole v i n (CoreStmt-F.Foreach array of variable ch body at) =
    keeps-enter_behind core s (Each whole v (suc i) n ∷ []) (bind_element variable of ch v i) body (search plain_rules) (plain-bind_element variable of ch v i)
keeps-each_turn core s whole v i n loop = search rules_here depth 14

pub keeps-each : (core : Core) (s : State.State) (whole : CoreStmt) (v : Value) (i : ℕ) (n : ℕ) → Keeps 1 [] s (each core s whole v i n)
keeps-each core s whole v i n = search (rules_here, keeps-each_turn) depth 14

pub keeps-choose : (s : State.State) (sections : List CoreStmt) (outer : List ℕ) (o : Operand) → Keeps 1 [] s (choose s sections outer o)
keeps-choose s sections outer o = search (rules_here, keeps-unless) depth 14

pub keeps-set_result : (s : State.State) (o : Operand) → Keeps 1 [] s (set_result s o)
keeps-set_result s o = search (rules_here, keeps-store_at) depth 14

pub keeps-throw : (s : State.State) (o : Operand) → Keeps 1 [] s (throw s o)
keeps-throw s (Owned n) = search rules_here depth 14
keeps-throw s o = search (rules_here, keeps-unless) depth 14

pub keeps-check : (s : State.State) (o : Operand) → Keeps 1 [] s (check s o)
keeps-check s o = search rules_here depth 14
