-- Sources that are removed, and what a method that begins or completes finds.
use Rattle.std.specs.Prelude.{refl, ℕ, true, List, [], ◌∷◌, None, codes, pos}
use Rattle.vg_base.specs.declared.event.Event.TheVariants.{Made, Gone, Dispatch}
use Rattle.vg_base.specs.declared.event.ThingKind.TheVariants.{Object, Text, Scope, Activation}
use Rattle.vg_base.specs.declared.event.TrapKind.TheVariants as trap
use Rattle.vg_base.specs.declared.event.VEnd.TheVariants.{Ended, Trapped, Dead}
use Rattle.vala_types.specs.declared.types.Shape.TheVariants as shape
use Rattle.vala_types.specs.declared.types.VType.{VType}
use Rattle.core_tree.specs.declared.program.Core.{Core}
use Rattle.core_tree.specs.declared.lambda.Scope.{Scope as BlockScope}
use Rattle.core_tree.specs.declared.lambda.ScopeAt.{ScopeAt}
use Rattle.core_tree.specs.declared.lambda.Target.{Target}
use Rattle.core_tree.specs.declared.lambda.Target.TheVariants as bound
use Rattle.core_tree.specs.declared.lambda.Via.TheVariants as via
use Rattle.core_tree.specs.declared.operation.Operation.TheVariants as op
use Rattle.core_tree.specs.declared.tree.CoreExpr.{CoreExpr}
use Rattle.core_tree.specs.declared.tree.CoreExpr.TheVariants as e
use Rattle.core_tree.specs.declared.tree.CoreStmt.{CoreStmt}
use Rattle.core_tree.specs.declared.tree.CoreStmt.TheVariants as st
use Rattle.core_tree.specs.declared.types.CoreMethod.{CoreMethod}
use Rattle.core_tree.specs.declared.values.LoopCall.TheVariants as loop
use Rattle.core_tree.specs.declared.values.TextCall.TheVariants as call_of
use Rattle.core_tree.proofs.Build.{Row, here, owned, unowned, void, int, text, object, apply, number, literal, null, local, static, assign, set, run, say, of, block, frame, by_value, method, plain_creation, object_class, class, program, quiet_world, new, call, line, keep, moved, copied, act, bound_to}

abbrev held_by : ℕ → ScopeAt
held_by n = record { via = via.Hold n; outward = 0 }

abbrev at_target : ScopeAt
at_target = record { via = via.Target; outward = 0 }

abbrev var : ScopeAt → ℕ → VType → CoreExpr
var at n kind = apply (op.Captured at n kind) []

abbrev scope : List VType → BlockScope
scope variables = record { hold = 0; variables = variables; outer = None; this = None; parameters = [] }

abbrev main_loop : VType
main_loop = object 0

abbrev made_loop : CoreStmt
made_loop = set (var (held_by 0) 0 main_loop) (moved main_loop (apply (op.Loop loop.New) []))

abbrev run_loop : CoreStmt
run_loop = run (apply (op.Loop loop.Run) (var (held_by 0) 0 main_loop ∷ []))

abbrev quit : CoreStmt
quit = run (apply (op.Loop loop.Quit) (var at_target 0 main_loop ∷ []))

abbrev w_type : VType
w_type = object 1

abbrev async : CoreMethod → CoreMethod
async m = record m { is_async = true }

abbrev on_idle : List CoreStmt → CoreStmt
on_idle body =
    run (apply (op.Loop loop.IdleAdd) (moved act (e.Lambda (bound_to (frame [] [] (owned shape.Bool)) (bound.Captures (held_by 0))) (block [] body) here) ∷ []))

abbrev callback : Target → List CoreStmt → CoreExpr
callback target body =
    moved act (e.Lambda (bound_to (frame (by_value (unowned (shape.Class 0)) ∷ by_value (unowned shape.AsyncResult) ∷ []) [] void) target) (block [] body) here)

abbrev say_removed : CoreStmt
say_removed = say (codes "%s") (apply (op.TextFunction call_of.BoolToText) (apply (op.Loop loop.SourceRemove) (number 1 ∷ []) ∷ []) ∷ [])

-- class W : Object { public async void go () { print ("in\n"); } }
-- void main () {
--   MainLoop l = new MainLoop (); W w = new W ();
--   w.go.begin ((o, r) => { print ("done\n"); }); print ("%s\n", Source.remove (1).to_string ());
--   Idle.add (() => { l.quit (); return false; }); l.run ();
-- }
abbrev pub completion_removed : Core
completion_removed =
    program (object_class ∷ class 1 [] [] None ∷ []) (
    method (frame [] (object 0 ∷ w_type ∷ []) void) (
    st.Block (of 1 w_type ∷ []) (scope (main_loop ∷ []) ∷ []) (
    made_loop
    ∷ set (local 1 w_type) (moved w_type (new 1 1 []))
    ∷ run (apply (op.Begin 2 true here) (local 1 w_type ∷ callback bound.Nothing (say (codes "done") [] ∷ []) ∷ []))
    ∷ say_removed
    ∷ on_idle (quit ∷ st.Return (number 0 ∷ []) here ∷ [])
    ∷ run_loop
    ∷ []
    ) here
    )
    ∷ plain_creation
    ∷ async (method (frame [] [] void) (block [] (say (codes "in") [] ∷ [])))
    ∷ []
    ) []

pub completion_removed_row : Row completion_removed quiet_world 300 (Made Scope ∷ Made Object ∷ Made Object ∷ Made Activation ∷ line (codes "in") ∷ Made Text ∷ line (codes "true") ∷ Gone 5 ∷ Dispatch 2 ∷ Gone 2 ∷ Gone 1 ∷ []) (Ended (pos 0)) (record { kind = Object; serial = 3; owners = 1 } ∷ record { kind = Activation; serial = 4; owners = 1 } ∷ [])
unfolding Rattle.core_tree.specs.declared.tree.CoreExpr.TheViews.out-CoreStmt denote.Hole.Carrier.out Rattle.core_tree.specs.declared.tree.CoreExpr.TheBlock.shown-the_row-CoreStmt-3 denote.Hole.Carrier.shown denote.Hole.Carrier.hidden Rattle.core_tree.specs.declared.tree.CoreExpr.TheViews.out-CoreExpr Rattle.std.specs.Fmt.digits
completion_removed_row = record { says = refl; ends = refl; lives = refl }

-- void main () { MainLoop l = new MainLoop (); Idle.add (() => { print ("%s\n", Source.remove (1).to_string ()); l.quit (); return true; }); l.run (); }
abbrev pub still_there : Core
still_there =
    program (object_class ∷ []) (
    method (frame [] (object 0 ∷ []) void) (st.Block [] (scope (main_loop ∷ []) ∷ []) (made_loop ∷ on_idle (say_removed ∷ quit ∷ st.Return (number 1 ∷ []) here ∷ []) ∷ run_loop ∷ []) here) ∷ []
    ) []

pub still_there_row : Row still_there quiet_world 300 (Made Scope ∷ Made Object ∷ Dispatch 1 ∷ Made Text ∷ line (codes "true") ∷ Gone 3 ∷ Gone 2 ∷ Gone 1 ∷ []) (Ended (pos 0)) ([])
unfolding Rattle.core_tree.specs.declared.tree.CoreExpr.TheViews.out-CoreStmt denote.Hole.Carrier.out Rattle.core_tree.specs.declared.tree.CoreExpr.TheBlock.shown-the_row-CoreStmt-3 denote.Hole.Carrier.shown denote.Hole.Carrier.hidden Rattle.core_tree.specs.declared.tree.CoreExpr.TheViews.out-CoreExpr Rattle.std.specs.Fmt.digits
still_there_row = record { says = refl; ends = refl; lives = refl }

-- class W : Object { public async int go () { return 5; } }
-- void main () {
--   MainLoop l = new MainLoop (); W? a = new W (); W? n = null;
--   a.go.begin ((o, r) => { print ("%d\n", n.go.end (r)); l.quit (); }); l.run ();
-- }
abbrev pub end_of_null : Core
end_of_null =
    program (object_class ∷ class 1 [] [] None ∷ []) (
    method (frame [] (object 0 ∷ w_type ∷ []) void) (
    st.Block (of 1 w_type ∷ []) (scope (main_loop ∷ w_type ∷ []) ∷ []) (
    made_loop
    ∷ set (local 1 w_type) (moved w_type (new 1 1 []))
    ∷ set (var (held_by 0) 1 w_type) (keep w_type null)
    ∷ run (apply (op.Begin 2 true here) (local 1 w_type ∷ callback (bound.Captures (held_by 0)) (
    say (codes "%d") (apply (op.End 2 true here) (var at_target 1 w_type ∷ local 1 (unowned shape.AsyncResult) ∷ []) ∷ []) ∷ quit ∷ []
    ) ∷ []))
    ∷ run_loop
    ∷ []
    ) here
    )
    ∷ plain_creation
    ∷ async (method (frame [] [] int) (block [] (st.Return (keep int (number 5) ∷ []) here ∷ [])))
    ∷ []
    ) []

pub end_of_null_row : Row end_of_null quiet_world 300 (Made Scope ∷ Made Object ∷ Made Object ∷ Made Activation ∷ Dispatch 1 ∷ []) (Trapped trap.Null) (record { kind = Scope; serial = 1; owners = 2 } ∷ record { kind = Object; serial = 2; owners = 2 } ∷ record { kind = Object; serial = 3; owners = 2 } ∷ record { kind = Activation; serial = 4; owners = 1 } ∷ [])
unfolding Rattle.core_tree.specs.declared.tree.CoreExpr.TheViews.out-CoreStmt denote.Hole.Carrier.out Rattle.core_tree.specs.declared.tree.CoreExpr.TheBlock.shown-the_row-CoreStmt-3 denote.Hole.Carrier.shown denote.Hole.Carrier.hidden Rattle.core_tree.specs.declared.tree.CoreExpr.TheViews.out-CoreExpr Rattle.std.specs.Fmt.digits
end_of_null_row = record { says = refl; ends = refl; lives = refl }

-- class W : Object { public async void go (string a, int b) { print ("%s\n", a); } }
-- string s = "old";
-- int f () { s = "new"; return 1; }
-- void main () { W w = new W (); w.go.begin (s, f ()); }
abbrev pub copied_too_late : Core
copied_too_late =
    program (object_class ∷ class 1 [] [] None ∷ []) (
    method (frame [] (w_type ∷ []) void) (block (of 0 w_type ∷ []) (
    set (local 0 w_type) (moved w_type (new 1 1 []))
    ∷ run (apply (op.Begin 2 true here) (local 0 w_type ∷ static 0 text ∷ call 3 [] ∷ []))
    ∷ []
    ))
    ∷ plain_creation
    ∷ async (method (frame (by_value text ∷ by_value int ∷ []) [] void) (block [] (say (codes "%s") (local 0 text ∷ []) ∷ [])))
    ∷ method (frame [] [] int) (block [] (assign text (static 0 text) (copied (literal (codes "new"))) ∷ st.Return (keep int (number 1) ∷ []) here ∷ []))
    ∷ []
    ) (record { symbol = 0; kind = text; initial = copied (literal (codes "old")) ∷ [] } ∷ [])

pub copied_too_late_row : Row copied_too_late quiet_world 200 (Made Text ∷ Made Object ∷ Made Text ∷ Gone 1 ∷ Made Activation ∷ []) Dead (record { kind = Object; serial = 2; owners = 2 } ∷ record { kind = Text; serial = 3; owners = 1 } ∷ record { kind = Activation; serial = 4; owners = 1 } ∷ [])
unfolding Rattle.core_tree.specs.declared.tree.CoreExpr.TheViews.out-CoreStmt denote.Hole.Carrier.out Rattle.core_tree.specs.declared.tree.CoreExpr.TheBlock.shown-the_row-CoreStmt-3 denote.Hole.Carrier.shown denote.Hole.Carrier.hidden Rattle.core_tree.specs.declared.tree.CoreExpr.TheViews.out-CoreExpr Rattle.std.specs.Fmt.digits
copied_too_late_row = record { says = refl; ends = refl; lives = refl }
