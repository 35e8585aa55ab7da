-- Activations: what is copied into them, results, sources that go, and the order of completion.
use Rattle.std.specs.Prelude.{refl, ℕ, true, List, [], ◌∷◌, ◌++◌, Some, None, codes, pos}
use Rattle.vg_base.specs.declared.event.Event.TheVariants.{Made, Gone, Dispatch}
use Rattle.vg_base.specs.declared.event.ThingKind.TheVariants.{Object, Text, Scope, Activation}
use Rattle.vg_base.specs.declared.event.VEnd.TheVariants.{Ended, Dead}
use Rattle.vala_types.specs.declared.types.Shape.TheVariants as shape
use Rattle.vala_types.specs.declared.types.VType.{VType}
use Rattle.core_tree.specs.declared.program.Core.{Core}
use Rattle.core_tree.specs.declared.lambda.ScopeAt.{ScopeAt}
use Rattle.core_tree.specs.declared.lambda.Target.TheVariants as bound
use Rattle.core_tree.specs.declared.lambda.Via.TheVariants as via
use Rattle.core_tree.specs.declared.operation.Operation.TheVariants as op
use Rattle.core_tree.specs.declared.tree.CoreExpr.{CoreExpr}
use Rattle.core_tree.specs.declared.tree.CoreExpr.TheVariants as e
use Rattle.core_tree.specs.declared.tree.CoreStmt.{CoreStmt}
use Rattle.core_tree.specs.declared.tree.CoreStmt.TheVariants as st
use Rattle.core_tree.specs.declared.values.LoopCall.TheVariants as loop
use Rattle.core_tree.specs.declared.values.TextCall.TheVariants as call_of
use Rattle.core_tree.proofs.Build.{Row, here, owned, unowned, void, int, text, object, apply, number, literal, local, this, set, run, say, of, block, frame, by_value, method, plain_creation, object_class, class, program, quiet_world, new, line, keep, moved, copied, told, told_type, told_methods, new_told, by_text, act, bound_to}
use Rattle.core_tree.specs.declared.types.CoreMethod.{CoreMethod}

abbrev held_by : ℕ → ScopeAt
held_by n = record { via = via.Hold n; outward = 0 }

abbrev at_target : ScopeAt
at_target = record { via = via.Target; outward = 0 }

abbrev var : ScopeAt → ℕ → VType → CoreExpr
var at n kind = apply (op.Captured at n kind) []

abbrev main_loop : VType
main_loop = object 0

abbrev lent : VType
lent = unowned (shape.Class 1)

abbrev quit : CoreExpr → CoreStmt
quit l = run (apply (op.Loop loop.Quit) (l ∷ []))

abbrev run_loop : CoreExpr → CoreStmt
run_loop l = run (apply (op.Loop loop.Run) (l ∷ []))

abbrev new_loop : CoreExpr
new_loop = moved main_loop (apply (op.Loop loop.New) [])

abbrev async : CoreMethod → CoreMethod
async m = record m { is_async = true }

-- the callback of a method: a lambda with two parameters that captures
abbrev callback : List CoreStmt → CoreExpr
callback body =
    moved act (e.Lambda (bound_to (frame (by_value (unowned (shape.Class 0)) ∷ by_value (unowned shape.AsyncResult) ∷ []) [] void) (bound.Captures (held_by 0))) (block [] body) here)

-- class W : Object { public async void go (string a, string b) { yield; } }
-- void main () { W w = new W (); string s = "s"; w.go.begin (s, s + "t"); }
abbrev pub copied_arguments : Core
copied_arguments =
    program (object_class ∷ class 1 [] [] None ∷ []) (
    method (frame [] (object 1 ∷ text ∷ []) void) (block (of 0 (object 1) ∷ of 1 text ∷ []) (
    set (local 0 (object 1)) (moved (object 1) (new 1 1 []))
    ∷ set (local 1 text) (copied (literal (codes "s")))
    ∷ run (apply (op.Begin 2 true here) (local 0 (object 1) ∷ local 1 text ∷ apply (op.TextFunction call_of.Concatenate) (local 1 text ∷ literal (codes "t") ∷ []) ∷ []))
    ∷ []
    ))
    ∷ plain_creation
    ∷ async (method (frame (by_value text ∷ by_value text ∷ []) [] void) (block [] (st.Yield here ∷ [])))
    ∷ []
    ) []

pub copied_arguments_row : Row copied_arguments quiet_world 300 (Made Object ∷ Made Text ∷ Made Text ∷ Made Activation ∷ Made Text ∷ Gone 2 ∷ []) (Ended (pos 0)) (record { kind = Object; serial = 1; owners = 1 } ∷ record { kind = Text; serial = 3; owners = 1 } ∷ record { kind = Activation; serial = 4; owners = 1 } ∷ record { kind = Text; serial = 5; owners = 1 } ∷ [])
unfolding Rattle.core_tree.specs.declared.tree.CoreExpr.TheViews.out-CoreStmt denote.Hole.Carrier.out Rattle.core_tree.specs.declared.tree.CoreExpr.TheBlock.shown-the_row-CoreStmt-3 denote.Hole.Carrier.shown denote.Hole.Carrier.hidden Rattle.core_tree.specs.declared.tree.CoreExpr.TheViews.out-CoreExpr Rattle.std.specs.Fmt.digits
copied_arguments_row = record { says = refl; ends = refl; lives = refl }

-- void main () { MainLoop l = new MainLoop (); { int k = 3; Idle.add (() => { Source.remove (1); print ("in\n"); print ("%d\n", k); return true; }); } l.run (); }
abbrev pub removes_itself : Core
removes_itself =
    program (object_class ∷ []) (
    method (frame [] (main_loop ∷ object 0 ∷ []) void) (block (of 0 main_loop ∷ []) (
    set (local 0 main_loop) new_loop
    ∷ st.Block [] (record { hold = 1; variables = int ∷ []; outer = None; this = None; parameters = [] } ∷ []) (
    set (var (held_by 1) 0 int) (keep int (number 3))
    ∷ run (apply (op.Loop loop.IdleAdd) (moved act (
    e.Lambda (bound_to (frame [] [] (owned shape.Bool)) (bound.Captures (held_by 1))) (block [] (
    run (apply (op.Loop loop.SourceRemove) (number 1 ∷ []))
    ∷ say (codes "in") []
    ∷ say (codes "%d") (var at_target 0 int ∷ [])
    ∷ st.Return (number 1 ∷ []) here
    ∷ []
    )) here
    ) ∷ []))
    ∷ []
    ) here
    ∷ run_loop (local 0 main_loop)
    ∷ []
    ))
    ∷ []
    ) []

pub removes_itself_row : Row removes_itself quiet_world 300 (Made Object ∷ Made Scope ∷ Dispatch 1 ∷ Gone 2 ∷ line (codes "in") ∷ []) Dead (record { kind = Object; serial = 1; owners = 2 } ∷ [])
unfolding Rattle.core_tree.specs.declared.tree.CoreExpr.TheViews.out-CoreStmt denote.Hole.Carrier.out Rattle.core_tree.specs.declared.tree.CoreExpr.TheBlock.shown-the_row-CoreStmt-3 denote.Hole.Carrier.shown denote.Hole.Carrier.hidden Rattle.core_tree.specs.declared.tree.CoreExpr.TheViews.out-CoreExpr Rattle.std.specs.Fmt.digits
removes_itself_row = record { says = refl; ends = refl; lives = refl }

-- class W : Object {
--   public async int inner (T t) { return 1; }
--   public async void outer () { int x = yield this.inner (new T ("arg")); print ("got %d\n", x); }
-- }
-- void main () { MainLoop l = new MainLoop (); W w = new W (); w.outer.begin ((o, r) => { l.quit (); }); l.run (); }
abbrev pub waits_for_inner : Core
waits_for_inner =
    program (object_class ∷ told_type ∷ class 2 [] [] None ∷ []) (
    method (frame [] (object 0 ∷ object 2 ∷ []) void) (
    st.Block (of 1 (object 2) ∷ []) (record { hold = 0; variables = main_loop ∷ []; outer = None; this = None; parameters = [] } ∷ []) (
    set (var (held_by 0) 0 main_loop) new_loop
    ∷ set (local 1 (object 2)) (moved (object 2) (new 2 3 []))
    ∷ run (apply (op.Begin 5 true here) (local 1 (object 2) ∷ callback (quit (var at_target 0 main_loop) ∷ []) ∷ []))
    ∷ run_loop (var (held_by 0) 0 main_loop)
    ∷ []
    ) here
    )
    ∷ told_methods
    ++ plain_creation
    ∷ async (method (frame (by_value told ∷ []) [] int) (block [] (st.Return (keep int (number 1) ∷ []) here ∷ [])))
    ∷ async (method (frame [] (int ∷ []) void) (block (of 0 int ∷ []) (
    set (local 0 int) (keep int (apply (op.YieldCall 4 true) (this ∷ new 1 1 (by_text (codes "arg") ∷ []) ∷ [])))
    ∷ say (codes "got %d") (local 0 int ∷ [])
    ∷ []
    )))
    ∷ []
    ) []

pub waits_for_inner_row : Row waits_for_inner quiet_world 600 (Made Scope ∷ Made Object ∷ Made Object ∷ Made Activation ∷ Made Object ∷ Made Text ∷ Made Activation ∷ Dispatch 1 ∷ line (codes "got 1") ∷ line (codes "~arg") ∷ Gone 6 ∷ Gone 5 ∷ Gone 7 ∷ Dispatch 2 ∷ Gone 4 ∷ Gone 3 ∷ Gone 2 ∷ Gone 1 ∷ []) (Ended (pos 0)) ([])
unfolding Rattle.core_tree.specs.declared.tree.CoreExpr.TheViews.out-CoreStmt denote.Hole.Carrier.out Rattle.core_tree.specs.declared.tree.CoreExpr.TheBlock.shown-the_row-CoreStmt-3 denote.Hole.Carrier.shown denote.Hole.Carrier.hidden Rattle.core_tree.specs.declared.tree.CoreExpr.TheViews.out-CoreExpr Rattle.std.specs.Fmt.digits
waits_for_inner_row = record { says = refl; ends = refl; lives = refl }

-- class W : Object { public async T go (T a) { return new T ("res"); } ~W () { print ("~W\n"); } }
-- void main () { MainLoop l = new MainLoop (); { W w = new W (); w.go.begin (new T ("arg"), (o, r) => { print ("cb\n"); l.quit (); }); } l.run (); print ("end\n"); }
abbrev pub result_not_taken : Core
result_not_taken =
    program (object_class ∷ told_type ∷ class 2 [] [] (Some 4) ∷ []) (
    method (frame [] (object 0 ∷ object 2 ∷ []) void) (
    st.Block [] (record { hold = 0; variables = main_loop ∷ []; outer = None; this = None; parameters = [] } ∷ []) (
    set (var (held_by 0) 0 main_loop) new_loop
    ∷ block (of 1 (object 2) ∷ []) (
    set (local 1 (object 2)) (moved (object 2) (new 2 3 []))
    ∷ run (apply (op.Begin 5 true here) (local 1 (object 2) ∷ new 1 1 (by_text (codes "arg") ∷ []) ∷ callback (say (codes "cb") [] ∷ quit (var at_target 0 main_loop) ∷ []) ∷ []))
    ∷ []
    )
    ∷ run_loop (var (held_by 0) 0 main_loop)
    ∷ say (codes "end") []
    ∷ []
    ) here
    )
    ∷ told_methods
    ++ plain_creation
    ∷ method (frame [] [] void) (block [] (say (codes "~W") [] ∷ []))
    ∷ async (method (frame (by_value told ∷ []) [] told) (block [] (st.Return (new_told (codes "res") ∷ []) here ∷ [])))
    ∷ []
    ) []

pub result_not_taken_row : Row result_not_taken quiet_world 600 (Made Scope ∷ Made Object ∷ Made Object ∷ Made Object ∷ Made Text ∷ Made Activation ∷ Made Object ∷ Made Text ∷ Dispatch 1 ∷ line (codes "cb") ∷ line (codes "~W") ∷ Gone 3 ∷ line (codes "~arg") ∷ Gone 5 ∷ Gone 4 ∷ line (codes "~res") ∷ Gone 8 ∷ Gone 7 ∷ Gone 6 ∷ line (codes "end") ∷ Gone 2 ∷ Gone 1 ∷ []) (Ended (pos 0)) ([])
unfolding Rattle.core_tree.specs.declared.tree.CoreExpr.TheViews.out-CoreStmt denote.Hole.Carrier.out Rattle.core_tree.specs.declared.tree.CoreExpr.TheBlock.shown-the_row-CoreStmt-3 denote.Hole.Carrier.shown denote.Hole.Carrier.hidden Rattle.core_tree.specs.declared.tree.CoreExpr.TheViews.out-CoreExpr Rattle.std.specs.Fmt.digits
result_not_taken_row = record { says = refl; ends = refl; lives = refl }
