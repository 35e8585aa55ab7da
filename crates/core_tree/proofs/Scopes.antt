-- Scopes: what they own, and uses of those that are gone.
use Rattle.std.specs.Prelude.{refl, ℕ, true, false, List, [], ◌∷◌, ◌++◌, Some, None, codes, pos}
use Rattle.vg_base.specs.declared.event.Event.TheVariants.{Made, Gone}
use Rattle.vg_base.specs.declared.event.ThingKind.TheVariants.{Object, Text, Scope}
use Rattle.vg_base.specs.declared.event.TrapKind.TheVariants as trap
use Rattle.vg_base.specs.declared.event.VEnd.TheVariants.{Ended, Trapped, Dead}
use Rattle.vala_types.specs.declared.types.IntKind.TheVariants as kind
use Rattle.vala_types.specs.declared.types.Shape.TheVariants as shape
use Rattle.vala_types.specs.declared.types.VType.{VType}
use Rattle.vala_types.specs.declared.owners.Change.TheVariants as change
use Rattle.core_tree.specs.declared.program.Core.{Core}
use Rattle.core_tree.specs.declared.lambda.Scope.{Scope as BlockScope}
use Rattle.core_tree.specs.declared.lambda.ScopeAt.{ScopeAt}
use Rattle.core_tree.specs.declared.lambda.Target.TheVariants as bound
use Rattle.core_tree.specs.declared.lambda.ThisAt.TheVariants as from
use Rattle.core_tree.specs.declared.lambda.Via.TheVariants as via
use Rattle.core_tree.specs.declared.operation.Operation.TheVariants as op
use Rattle.core_tree.specs.declared.tree.CoreExpr.{CoreExpr}
use Rattle.core_tree.specs.declared.tree.CoreExpr.TheVariants as e
use Rattle.core_tree.specs.declared.tree.CoreStmt.{CoreStmt}
use Rattle.core_tree.specs.declared.tree.CoreStmt.TheVariants as st
use Rattle.core_tree.specs.declared.values.Arithmetic.TheVariants as arithmetic
use Rattle.core_tree.specs.declared.values.Callee.TheVariants as callee
use Rattle.core_tree.specs.declared.values.Comparison.TheVariants as compare
use Rattle.core_tree.specs.declared.values.TextCall.TheVariants as call_of
use Rattle.core_tree.proofs.Build.{Row, here, unowned, void, int, text, object, apply, number, literal, null, local, static, static_field, this, field, assign, set, run, say, of, block, frame, by_value, method, plain_creation, object_class, class, program, quiet_world, new, call, call_on, line, text_param, keep, moved, copied, told, told_type, told_methods, new_told, told_name, lambda_at, act, bound_to, call_by}
use Rattle.core_tree.specs.declared.lambda.CapturedParameter.{CapturedParameter}

abbrev held_by : ℕ → ScopeAt
held_by n = record { via = via.Hold n; outward = 0 }

abbrev at_target : ℕ → ScopeAt
at_target n = record { via = via.Target; outward = n }

abbrev var : ScopeAt → ℕ → VType → CoreExpr
var at n kind = apply (op.Captured at n kind) []

abbrev scope : ℕ → List VType → List CapturedParameter → BlockScope
scope hold variables parameters = record { hold = hold; variables = variables; outer = None; this = None; parameters = parameters }

abbrev call_it : CoreExpr → CoreStmt
call_it x = run (call_by (callee.Delegate (Some 9)) (x ∷ []))

-- void f (owned T p) { T l = new T ("local"); T c = new T ("captured"); Act a = () => { print ("%s\n", c.n); }; a (); }
-- void main () { f (new T ("param")); }
abbrev pub end_of_call : Core
end_of_call =
    program (object_class ∷ told_type ∷ []) (
    method (frame [] [] void) (block [] (run (call 3 (new_told (codes "param") ∷ [])) ∷ []))
    ∷ told_methods
    ++ method (frame (by_value told ∷ []) (told ∷ act ∷ object 0 ∷ []) void) (
    st.Block (of 1 told ∷ of 2 act ∷ []) (scope 3 (told ∷ []) [] ∷ []) (
    set (local 1 told) (new_told (codes "local"))
    ∷ set (var (held_by 3) 0 told) (new_told (codes "captured"))
    ∷ set (local 2 act) (moved act (lambda_at 1 (bound.Captures (held_by 3)) (say (codes "%s") (told_name (var (at_target 0) 0 told) ∷ []) ∷ [])))
    ∷ call_it (local 2 act)
    ∷ []
    ) here
    )
    ∷ []
    ) []

pub end_of_call_row : Row end_of_call quiet_world 400 (Made Object ∷ Made Text ∷ Made Scope ∷ Made Object ∷ Made Text ∷ Made Object ∷ Made Text ∷ line (codes "captured") ∷ line (codes "~local") ∷ Gone 5 ∷ Gone 4 ∷ line (codes "~captured") ∷ Gone 7 ∷ Gone 6 ∷ Gone 3 ∷ line (codes "~param") ∷ Gone 2 ∷ Gone 1 ∷ []) (Ended (pos 0)) ([])
unfolding Rattle.core_tree.specs.declared.tree.CoreExpr.TheViews.out-CoreStmt denote.Hole.Carrier.out Rattle.core_tree.specs.declared.tree.CoreExpr.TheBlock.shown-the_row-CoreStmt-3 denote.Hole.Carrier.shown denote.Hole.Carrier.hidden Rattle.core_tree.specs.declared.tree.CoreExpr.TheViews.out-CoreExpr Rattle.std.specs.Fmt.digits
end_of_call_row = record { says = refl; ends = refl; lives = refl }

-- Act f (owned string s, string t) { return () => { print ("%s%s\n", s, t); }; }
-- void main () { string x = "x"; Act a = f ("a" + "b", x); a (); }
abbrev pub captured_parameters : Core
captured_parameters =
    program (object_class ∷ []) (
    method (frame [] (text ∷ act ∷ []) void) (block (of 0 text ∷ of 1 act ∷ []) (
    set (local 0 text) (copied (literal (codes "x")))
    ∷ set (local 1 act) (moved act (call 1 (moved text (apply (op.TextFunction call_of.Concatenate) (literal (codes "a") ∷ literal (codes "b") ∷ [])) ∷ keep (unowned shape.Text) (local 0 text) ∷ [])))
    ∷ call_it (local 1 act)
    ∷ []
    ))
    ∷ method (frame (by_value text ∷ text_param ∷ []) (object 0 ∷ []) act) (
    st.Block [] (
    scope 2 (text ∷ text ∷ []) (
    record { local = 0; variable = 0; kind = text; change = change.Move }
    ∷ record { local = 1; variable = 1; kind = text; change = change.CopyText }
    ∷ []
    ) ∷ []
    ) (
    st.Return (moved act (lambda_at 1 (bound.Captures (held_by 2)) (say (codes "%s%s") (var (at_target 0) 0 text ∷ var (at_target 0) 1 text ∷ []) ∷ [])) ∷ []) here ∷ []
    ) here
    )
    ∷ []
    ) []

pub captured_parameters_row : Row captured_parameters quiet_world 300 (Made Text ∷ Made Text ∷ Made Scope ∷ Made Text ∷ line (codes "abx") ∷ Gone 2 ∷ Gone 4 ∷ Gone 3 ∷ Gone 1 ∷ []) (Ended (pos 0)) ([])
unfolding Rattle.core_tree.specs.declared.tree.CoreExpr.TheViews.out-CoreStmt denote.Hole.Carrier.out Rattle.core_tree.specs.declared.tree.CoreExpr.TheBlock.shown-the_row-CoreStmt-3 denote.Hole.Carrier.shown denote.Hole.Carrier.hidden Rattle.core_tree.specs.declared.tree.CoreExpr.TheViews.out-CoreExpr Rattle.std.specs.Fmt.digits
captured_parameters_row = record { says = refl; ends = refl; lives = refl }

-- class C : Object {
--   public Act? a;
--   public void arm () { int n = 1; this.a = () => { this.a = null; print ("dropped\n"); this.say (); if (n < 0) this.say (); }; }
--   public void say () { print ("say\n"); }
-- }
-- void main () { C c = new C (); c.arm (); c.a (); }
abbrev c_type : VType
c_type = object 1

abbrev this_through : CoreExpr
this_through = apply (op.This (from.Through (at_target 0))) []

abbrev pub this_of_gone_scope : Core
this_of_gone_scope =
    program (object_class ∷ class 1 (act ∷ []) [] None ∷ []) (
    method (frame [] (c_type ∷ []) void) (block (of 0 c_type ∷ []) (
    set (local 0 c_type) (moved c_type (new 1 1 []))
    ∷ run (call_on (local 0 c_type) 2 [])
    ∷ call_it (field (local 0 c_type) 0 act)
    ∷ []
    ))
    ∷ plain_creation
    ∷ method (frame [] (object 0 ∷ []) void) (
    st.Block [] (record (scope 0 (int ∷ []) []) { this = Some from.Own } ∷ []) (
    set (var (held_by 0) 0 int) (keep int (number 1))
    ∷ assign act (field this 0 act) (moved act (lambda_at 1 (bound.Captures (held_by 0)) (
    assign act (field this_through 0 act) (keep act null)
    ∷ say (codes "dropped") []
    ∷ run (call_on this_through 3 [])
    ∷ st.If (apply (op.CompareNumbers compare.Less) (var (at_target 0) 0 int ∷ number 0 ∷ [])) (run (call_on this_through 3 [])) (st.Empty here) here
    ∷ []
    )))
    ∷ []
    ) here
    )
    ∷ method (frame [] [] void) (block [] (say (codes "say") [] ∷ []))
    ∷ []
    ) []

pub this_of_gone_scope_row : Row this_of_gone_scope quiet_world 300 (Made Object ∷ Made Scope ∷ Gone 2 ∷ line (codes "dropped") ∷ []) Dead (record { kind = Object; serial = 1; owners = 1 } ∷ [])
unfolding Rattle.core_tree.specs.declared.tree.CoreExpr.TheViews.out-CoreStmt denote.Hole.Carrier.out Rattle.core_tree.specs.declared.tree.CoreExpr.TheBlock.shown-the_row-CoreStmt-3 denote.Hole.Carrier.shown denote.Hole.Carrier.hidden Rattle.core_tree.specs.declared.tree.CoreExpr.TheViews.out-CoreExpr Rattle.std.specs.Fmt.digits
this_of_gone_scope_row = record { says = refl; ends = refl; lives = refl }

-- class C : Object { public Act? a; public Act? b; }
-- void main () {
--   C c = new C (); int o = 5; c.b = () => { o++; };
--   for (int k = 0; k < 1; k++) { int i = 1; c.a = () => { c.a = null; print ("%d\n", o); if (i < 0) print ("x"); }; }
--   c.a (); print ("end\n");
-- }
-- (the object is captured too, so it stands in the outer scope)
abbrev pub outer_through_gone : Core
outer_through_gone =
    program (object_class ∷ class 1 (act ∷ act ∷ []) [] None ∷ []) (
    method (frame [] (object 0 ∷ int ∷ object 0 ∷ []) void) (
    st.Block [] (scope 0 (c_type ∷ int ∷ []) [] ∷ []) (
    set (var (held_by 0) 0 c_type) (moved c_type (new 1 1 []))
    ∷ set (var (held_by 0) 1 int) (keep int (number 5))
    ∷ assign act (field (var (held_by 0) 0 c_type) 1 act) (moved act (lambda_at 1 (bound.Captures (held_by 0)) (
    run (apply (op.Increment arithmetic.Add kind.Int32 true false) (e.PlaceAndValue (var (at_target 0) 1 int) here ∷ [])) ∷ []
    )))
    ∷ block (of 1 int ∷ []) (
    set (local 1 int) (keep int (number 0))
    ∷ st.For (apply (op.CompareNumbers compare.Less) (local 1 int ∷ number 1 ∷ []))
    (run (apply (op.Increment arithmetic.Add kind.Int32 true false) (e.PlaceAndValue (local 1 int) here ∷ [])) ∷ []) (
    st.Block [] (record (scope 2 (int ∷ []) []) { outer = Some (held_by 0) } ∷ []) (
    set (var (held_by 2) 0 int) (keep int (number 1))
    ∷ assign act (field (var (held_by 0) 0 c_type) 0 act) (moved act (lambda_at 2 (bound.Captures (held_by 2)) (
    assign act (field (var (at_target 1) 0 c_type) 0 act) (keep act null)
    ∷ say (codes "%d") (var (at_target 1) 1 int ∷ [])
    ∷ []
    )))
    ∷ []
    ) here
    ) here
    ∷ []
    )
    ∷ call_it (field (var (held_by 0) 0 c_type) 0 act)
    ∷ say (codes "end") []
    ∷ []
    ) here
    )
    ∷ plain_creation
    ∷ []
    ) []

pub outer_through_gone_row : Row outer_through_gone quiet_world 500 (Made Scope ∷ Made Object ∷ Made Scope ∷ Gone 3 ∷ []) Dead (record { kind = Scope; serial = 1; owners = 2 } ∷ record { kind = Object; serial = 2; owners = 1 } ∷ [])
unfolding Rattle.core_tree.specs.declared.tree.CoreExpr.TheViews.out-CoreStmt denote.Hole.Carrier.out Rattle.core_tree.specs.declared.tree.CoreExpr.TheBlock.shown-the_row-CoreStmt-3 denote.Hole.Carrier.shown denote.Hole.Carrier.hidden Rattle.core_tree.specs.declared.tree.CoreExpr.TheViews.out-CoreExpr Rattle.std.specs.Fmt.digits
outer_through_gone_row = record { says = refl; ends = refl; lives = refl }

-- void each (Act a) { a (); }
-- class C : Object { public void say () { print ("say\n"); } ~C () { print ("in\n"); each (() => { this.say (); }); print ("out\n"); } }
-- void main () { C c = new C (); }
abbrev pub lambda_while_ending : Core
lambda_while_ending =
    program (object_class ∷ class 1 [] [] (Some 2) ∷ []) (
    method (frame [] (c_type ∷ []) void) (block (of 0 c_type ∷ []) (set (local 0 c_type) (moved c_type (new 1 1 [])) ∷ []))
    ∷ plain_creation
    ∷ method (frame [] [] void) (block [] (
    say (codes "in") []
    ∷ run (call 4 (keep (unowned (shape.Delegate 9)) (lambda_at 1 (bound.This from.Own) (run (call_on this 3 []) ∷ [])) ∷ []))
    ∷ say (codes "out") []
    ∷ []
    ))
    ∷ method (frame [] [] void) (block [] (say (codes "say") [] ∷ []))
    ∷ method (frame (by_value (unowned (shape.Delegate 9)) ∷ []) [] void) (block [] (call_it (local 0 (unowned (shape.Delegate 9))) ∷ []))
    ∷ []
    ) []

pub lambda_while_ending_row : Row lambda_while_ending quiet_world 200 (Made Object ∷ line (codes "in") ∷ []) Dead (record { kind = Object; serial = 1; owners = 0 } ∷ [])
unfolding Rattle.core_tree.specs.declared.tree.CoreExpr.TheViews.out-CoreStmt denote.Hole.Carrier.out Rattle.core_tree.specs.declared.tree.CoreExpr.TheBlock.shown-the_row-CoreStmt-3 denote.Hole.Carrier.shown denote.Hole.Carrier.hidden Rattle.core_tree.specs.declared.tree.CoreExpr.TheViews.out-CoreExpr Rattle.std.specs.Fmt.digits
lambda_while_ending_row = record { says = refl; ends = refl; lives = refl }

-- delegate void Act (int x);
-- class C : Object { public Act? a; }
-- int drop (C c) { c.a = null; return 1; }
-- void main () { C c = new C (); { int n = 5; c.a = (x) => { print ("in\n"); print ("%d\n", n); }; } c.a (drop (c)); }
abbrev pub emptied_by_argument : Core
emptied_by_argument =
    program (object_class ∷ class 1 (act ∷ []) [] None ∷ []) (
    method (frame [] (c_type ∷ object 0 ∷ []) void) (block (of 0 c_type ∷ []) (
    set (local 0 c_type) (moved c_type (new 1 1 []))
    ∷ st.Block [] (scope 1 (int ∷ []) [] ∷ []) (
    set (var (held_by 1) 0 int) (keep int (number 5))
    ∷ assign act (field (local 0 c_type) 0 act) (moved act (
    e.Lambda (bound_to (frame (by_value int ∷ []) [] void) (bound.Captures (held_by 1)))
    (block [] (say (codes "in") [] ∷ say (codes "%d") (var (at_target 0) 0 int ∷ []) ∷ [])) here
    ))
    ∷ []
    ) here
    ∷ run (call_by (callee.Delegate (Some 9)) (field (local 0 c_type) 0 act ∷ keep int (call 2 (keep (unowned (shape.Class 1)) (local 0 c_type) ∷ [])) ∷ []))
    ∷ []
    ))
    ∷ plain_creation
    ∷ method (frame (by_value (unowned (shape.Class 1)) ∷ []) [] int) (block [] (
    assign act (field (local 0 (unowned (shape.Class 1))) 0 act) (keep act null) ∷ st.Return (keep int (number 1) ∷ []) here ∷ []
    ))
    ∷ []
    ) []

pub emptied_by_argument_row : Row emptied_by_argument quiet_world 250 (Made Object ∷ Made Scope ∷ Gone 2 ∷ line (codes "in") ∷ []) Dead (record { kind = Object; serial = 1; owners = 1 } ∷ [])
unfolding Rattle.core_tree.specs.declared.tree.CoreExpr.TheViews.out-CoreStmt denote.Hole.Carrier.out Rattle.core_tree.specs.declared.tree.CoreExpr.TheBlock.shown-the_row-CoreStmt-3 denote.Hole.Carrier.shown denote.Hole.Carrier.hidden Rattle.core_tree.specs.declared.tree.CoreExpr.TheViews.out-CoreExpr Rattle.std.specs.Fmt.digits
emptied_by_argument_row = record { says = refl; ends = refl; lives = refl }

-- unowned Act? last; Act? kept;
-- class D : Object { ~D () { last (); } }
-- void make () {
--   D d = new D (); int o = 1;
--   { int i = 2; kept = () => { print ("%d\n", i); Act b = () => { print ("%d\n", o); }; print ("made\n"); b (); if (d == null) print ("x"); }; }
-- }
-- void main () { make (); last = kept; kept = null; }
-- (the inner scope is ending and has given up the outer one, which is ending too)
abbrev pub outer_given_up : Core
outer_given_up =
    program (object_class ∷ class 1 [] [] (Some 2) ∷ []) (
    method (frame [] [] void) (block [] (
    run (call 3 [])
    ∷ assign (unowned (shape.Delegate 9)) (static 0 (unowned (shape.Delegate 9))) (keep (unowned (shape.Delegate 9)) (static 1 act))
    ∷ assign act (static 1 act) (keep act null)
    ∷ []
    ))
    ∷ plain_creation
    ∷ method (frame [] [] void) (block [] (call_it (static 0 (unowned (shape.Delegate 9))) ∷ []))
    ∷ method (frame [] (object 0 ∷ object 0 ∷ []) void) (
    st.Block [] (scope 0 (c_type ∷ int ∷ []) [] ∷ []) (
    set (var (held_by 0) 0 c_type) (moved c_type (new 1 1 []))
    ∷ set (var (held_by 0) 1 int) (keep int (number 1))
    ∷ st.Block [] (record (scope 1 (int ∷ []) []) { outer = Some (held_by 0) } ∷ []) (
    set (var (held_by 1) 0 int) (keep int (number 2))
    ∷ assign act (static 1 act) (moved act (
    e.Lambda (bound_to (frame [] (act ∷ []) void) (bound.Captures (held_by 1)))
    (block (of 0 act ∷ []) (
    say (codes "%d") (var (at_target 0) 0 int ∷ [])
    ∷ set (local 0 act) (moved act (lambda_at 2 (bound.Captures (at_target 1)) (say (codes "%d") (var (at_target 0) 1 int ∷ []) ∷ [])))
    ∷ say (codes "made") []
    ∷ call_it (local 0 act)
    ∷ []
    )) here
    ))
    ∷ []
    ) here
    ∷ []
    ) here
    )
    ∷ []
    ) (static_field (unowned (shape.Delegate 9)) ∷ static_field act ∷ [])

pub outer_given_up_row : Row outer_given_up quiet_world 300 (Made Scope ∷ Made Object ∷ Made Scope ∷ line (codes "2") ∷ []) (Trapped trap.Null) (record { kind = Scope; serial = 1; owners = 0 } ∷ record { kind = Object; serial = 2; owners = 0 } ∷ record { kind = Scope; serial = 3; owners = 0 } ∷ [])
unfolding Rattle.core_tree.specs.declared.tree.CoreExpr.TheViews.out-CoreStmt denote.Hole.Carrier.out Rattle.core_tree.specs.declared.tree.CoreExpr.TheBlock.shown-the_row-CoreStmt-3 denote.Hole.Carrier.shown denote.Hole.Carrier.hidden Rattle.core_tree.specs.declared.tree.CoreExpr.TheViews.out-CoreExpr Rattle.std.specs.Fmt.digits
outer_given_up_row = record { says = refl; ends = refl; lives = refl }
