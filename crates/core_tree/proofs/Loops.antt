-- Async methods that run side by side, one that never completes, and timeouts under a script.
use Rattle.std.specs.Prelude.{refl, ℕ, true, false, List, [], ◌∷◌, ◌++◌, None, codes, pos}
use Rattle.vg_base.specs.declared.event.Entry.TheVariants.{Pick, Wait}
use Rattle.vg_base.specs.declared.event.Event.TheVariants.{Made, Gone, Dispatch}
use Rattle.vg_base.specs.declared.event.ThingKind.TheVariants.{Object, Scope, Activation}
use Rattle.vg_base.specs.declared.event.VEnd.TheVariants.{Ended, Waiting}
use Rattle.vala_types.specs.declared.types.IntKind.TheVariants as kind
use Rattle.vala_types.specs.declared.types.Shape.TheVariants as shape
use Rattle.vala_types.specs.declared.types.VType.{VType}
use Rattle.core_tree.specs.declared.program.Core.{Core}
use Rattle.core_tree.specs.declared.lambda.ScopeAt.{ScopeAt}
use Rattle.core_tree.specs.declared.lambda.Target.TheVariants as bound
use Rattle.core_tree.specs.declared.lambda.Via.TheVariants as via
use Rattle.core_tree.specs.declared.operation.Operation.TheVariants as op
use Rattle.core_tree.specs.declared.tree.CoreExpr.{CoreExpr}
use Rattle.core_tree.specs.declared.tree.CoreExpr.TheVariants as e
use Rattle.core_tree.specs.declared.tree.CoreStmt.{CoreStmt}
use Rattle.core_tree.specs.declared.tree.CoreStmt.TheVariants as st
use Rattle.core_tree.specs.declared.types.Making.TheVariants as making
use Rattle.core_tree.specs.declared.values.Arithmetic.TheVariants as arithmetic
use Rattle.core_tree.specs.declared.values.Comparison.TheVariants as compare
use Rattle.core_tree.specs.declared.values.LoopCall.TheVariants as loop
use Rattle.core_tree.proofs.Build.{Row, Printed, here, owned, unowned, void, int, text, object, apply, number, literal, local, this, field, assign, set, run, say, of, block, frame, by_value, method, creation, plain_creation, object_class, class, program, quiet_world, scripted, new, line, text_param, keep, moved, copied, bound_to}

-- The variables of the scope of `main`
abbrev main_loop : VType
main_loop = object 0

abbrev w_type : VType
w_type = object 1

abbrev here_at : ScopeAt
here_at = record { via = via.Hold 0; outward = 0 }

abbrev there_at : ScopeAt
there_at = record { via = via.Target; outward = 0 }

abbrev var : ScopeAt → ℕ → VType → CoreExpr
var at n kind = apply (op.Captured at n kind) []

abbrev add_idle : CoreExpr → CoreStmt
add_idle f = run (apply (op.Loop loop.IdleAdd) (f ∷ []))

abbrev quit : CoreExpr → CoreStmt
quit l = run (apply (op.Loop loop.Quit) (l ∷ []))

abbrev run_loop : CoreExpr → CoreStmt
run_loop l = run (apply (op.Loop loop.Run) (l ∷ []))

abbrev new_loop : CoreExpr
new_loop = apply (op.Loop loop.New) []

-- class W : Object {
--   public string n;
--   public W (string n) { this.n = n; }
--   public async void go () { for (int i = 0; i < 3; i++) { Idle.add (this.go.callback); yield; print ("%s%d\n", this.n, i); } }
-- }
-- void main () {
--   MainLoop loop = new MainLoop (); int left = 2; W a = new W ("a"); W b = new W ("b");
--   a.go.begin ((o, r) => { a.go.end (r); left--; if (left == 0) loop.quit (); });
--   b.go.begin ((o, r) => { b.go.end (r); left--; if (left == 0) loop.quit (); });
--   loop.run (); print ("end\n");
-- }
abbrev i : CoreExpr
i = local 0 int

abbrev count_down : CoreStmt
count_down = run (apply (op.Increment arithmetic.Subtract kind.Int32 true false) (e.PlaceAndValue (var there_at 1 int) here ∷ []))

abbrev is_zero : CoreExpr → CoreExpr
is_zero x = apply (op.CompareNumbers compare.Equal) (x ∷ number 0 ∷ [])

-- the callback that ends the method of the object in a variable
abbrev callback : ℕ → CoreExpr
callback n =
    e.Lambda (bound_to (frame (by_value (unowned (shape.Class 0)) ∷ by_value (unowned shape.AsyncResult) ∷ []) [] void) (bound.Captures here_at)) (block [] (
    run (apply (op.End 2 true here) (var there_at n w_type ∷ local 1 (unowned shape.AsyncResult) ∷ []))
    ∷ count_down
    ∷ st.If (is_zero (var there_at 1 int)) (quit (var there_at 0 main_loop)) (st.Empty here) here
    ∷ []
    )) (record { file = 0; start = n; «end» = n })

abbrev begin : ℕ → CoreStmt
begin n = run (apply (op.Begin 2 true here) (var here_at n w_type ∷ moved (owned (shape.Delegate 2)) (callback n) ∷ []))

abbrev new_w : List ℕ → CoreExpr
new_w bytes = moved w_type (new 1 1 (keep (unowned shape.Text) (literal bytes) ∷ []))

abbrev pub side_by_side : Core
side_by_side =
    program (object_class ∷ class 1 (text ∷ []) [] None ∷ []) (
    method (frame [] (object 0 ∷ []) void) (
    st.Block [] (record { hold = 0; variables = main_loop ∷ int ∷ w_type ∷ w_type ∷ []; outer = None; this = None; parameters = [] } ∷ []) (
    set (var here_at 0 main_loop) (moved main_loop new_loop)
    ∷ set (var here_at 1 int) (keep int (number 2))
    ∷ set (var here_at 2 w_type) (new_w (codes "a"))
    ∷ set (var here_at 3 w_type) (new_w (codes "b"))
    ∷ begin 2
    ∷ begin 3
    ∷ run_loop (var here_at 0 main_loop)
    ∷ say (codes "end") []
    ∷ []
    ) here
    )
    ∷ creation (frame (text_param ∷ []) [] void) (making.Object []) (block [] (assign text (field this 0 text) (copied (local 0 (unowned shape.Text))) ∷ []))
    ∷ record (method (frame [] (int ∷ []) void) (block (of 0 int ∷ []) (
    set i (keep int (number 0))
    ∷ st.For (apply (op.CompareNumbers compare.Less) (i ∷ number 3 ∷ []))
    (run (apply (op.Increment arithmetic.Add kind.Int32 true false) (e.PlaceAndValue i here ∷ [])) ∷ [])
    (block [] (add_idle (apply (op.Callback 2 here) []) ∷ st.Yield here ∷ say (codes "%s%d") (field this 0 text ∷ i ∷ []) ∷ [])) here
    ∷ []
    ))) { is_async = true }
    ∷ []
    ) []

abbrev lines : List (List ℕ) → List ℕ
lines [] = []
lines (l ∷ ls) = l ++ 10 ∷ lines ls

pub first_script : Printed side_by_side (scripted (Pick 0 ∷ Pick 0 ∷ Pick 0 ∷ [])) 1200 (lines (codes "a0" ∷ codes "b0" ∷ codes "a1" ∷ codes "b1" ∷ codes "a2" ∷ codes "b2" ∷ codes "end" ∷ [])) (Ended (pos 0)) []
unfolding Rattle.core_tree.specs.declared.tree.CoreExpr.TheViews.out-CoreStmt denote.Hole.Carrier.out Rattle.core_tree.specs.declared.tree.CoreExpr.TheBlock.shown-the_row-CoreStmt-3 denote.Hole.Carrier.shown denote.Hole.Carrier.hidden Rattle.core_tree.specs.declared.tree.CoreExpr.TheViews.out-CoreExpr Rattle.std.specs.Fmt.digits
first_script = record { says = refl; ends = refl; lives = refl }

pub second_script : Printed side_by_side (scripted (Pick 1 ∷ Pick 0 ∷ Pick 1 ∷ [])) 1200 (lines (codes "b0" ∷ codes "a0" ∷ codes "a1" ∷ codes "b1" ∷ codes "a2" ∷ codes "b2" ∷ codes "end" ∷ [])) (Ended (pos 0)) []
unfolding Rattle.core_tree.specs.declared.tree.CoreExpr.TheViews.out-CoreStmt denote.Hole.Carrier.out Rattle.core_tree.specs.declared.tree.CoreExpr.TheBlock.shown-the_row-CoreStmt-3 denote.Hole.Carrier.shown denote.Hole.Carrier.hidden Rattle.core_tree.specs.declared.tree.CoreExpr.TheViews.out-CoreExpr Rattle.std.specs.Fmt.digits
second_script = record { says = refl; ends = refl; lives = refl }

-- class W : Object { public async void go () { print ("in\n"); yield; print ("never\n"); } }
-- void main () { MainLoop l = new MainLoop (); W w = new W (); w.go.begin (); l.run (); }
abbrev pub never_completes : Core
never_completes =
    program (object_class ∷ class 1 [] [] None ∷ []) (
    method (frame [] (main_loop ∷ w_type ∷ []) void) (block (of 0 main_loop ∷ of 1 w_type ∷ []) (
    set (local 0 main_loop) (moved main_loop new_loop)
    ∷ set (local 1 w_type) (moved w_type (new 1 1 []))
    ∷ run (apply (op.Begin 2 true here) (local 1 w_type ∷ []))
    ∷ run_loop (local 0 main_loop)
    ∷ []
    ))
    ∷ plain_creation
    ∷ record (method (frame [] [] void) (block [] (say (codes "in") [] ∷ st.Yield here ∷ say (codes "never") [] ∷ []))) { is_async = true }
    ∷ []
    ) []

pub never_completes_row : Row never_completes quiet_world 150 (Made Object ∷ Made Object ∷ Made Activation ∷ line (codes "in") ∷ []) Waiting (record { kind = Object; serial = 1; owners = 2 } ∷ record { kind = Object; serial = 2; owners = 2 } ∷ record { kind = Activation; serial = 3; owners = 1 } ∷ [])
unfolding Rattle.core_tree.specs.declared.tree.CoreExpr.TheViews.out-CoreStmt denote.Hole.Carrier.out Rattle.core_tree.specs.declared.tree.CoreExpr.TheBlock.shown-the_row-CoreStmt-3 denote.Hole.Carrier.shown denote.Hole.Carrier.hidden Rattle.core_tree.specs.declared.tree.CoreExpr.TheViews.out-CoreExpr Rattle.std.specs.Fmt.digits
never_completes_row = record { says = refl; ends = refl; lives = refl }

-- void main () {
--   MainLoop l = new MainLoop ();
--   Idle.add (() => { Timeout.add (5, () => { print ("b\n"); return false; }); return false; });
--   Timeout.add (10, () => { print ("a\n"); l.quit (); return false; });
--   l.run ();
-- }
abbrev truth : VType
truth = owned shape.Bool

abbrev function : ℕ → List CoreStmt → CoreExpr
function n body =
    moved (owned (shape.Delegate 2)) (
    e.Lambda (bound_to (frame [] [] truth) bound.Nothing) (block [] (body ++ st.Return (number 0 ∷ []) here ∷ [])) (record { file = 0; start = n; «end» = n })
    )

abbrev capturing : ℕ → List CoreStmt → CoreExpr
capturing n body =
    moved (owned (shape.Delegate 2)) (
    e.Lambda (bound_to (frame [] [] truth) (bound.Captures here_at)) (block [] (body ++ st.Return (number 0 ∷ []) here ∷ [])) (record { file = 0; start = n; «end» = n })
    )

abbrev timeout : ℕ → CoreExpr → CoreStmt
timeout ms f = run (apply (op.Loop loop.TimeoutAdd) (number ms ∷ f ∷ []))

abbrev pub due_times : Core
due_times =
    program (object_class ∷ []) (
    method (frame [] (object 0 ∷ []) void) (
    st.Block [] (record { hold = 0; variables = main_loop ∷ []; outer = None; this = None; parameters = [] } ∷ []) (
    set (var here_at 0 main_loop) (moved main_loop new_loop)
    ∷ add_idle (function 1 (timeout 5 (function 2 (say (codes "b") [] ∷ [])) ∷ []))
    ∷ timeout 10 (capturing 3 (say (codes "a") [] ∷ quit (var there_at 0 main_loop) ∷ []))
    ∷ run_loop (var here_at 0 main_loop)
    ∷ []
    ) here
    )
    ∷ []
    ) []

pub due_times_row : Row due_times (scripted (Wait 7 ∷ [])) 300 (Made Scope ∷ Made Object ∷ Dispatch 1 ∷ Dispatch 2 ∷ line (codes "a") ∷ Gone 2 ∷ Gone 1 ∷ []) (Ended (pos 0)) ([])
unfolding Rattle.core_tree.specs.declared.tree.CoreExpr.TheViews.out-CoreStmt denote.Hole.Carrier.out Rattle.core_tree.specs.declared.tree.CoreExpr.TheBlock.shown-the_row-CoreStmt-3 denote.Hole.Carrier.shown denote.Hole.Carrier.hidden Rattle.core_tree.specs.declared.tree.CoreExpr.TheViews.out-CoreExpr Rattle.std.specs.Fmt.digits
due_times_row = record { says = refl; ends = refl; lives = refl }
