-- A method that parks inside of a loop and a `try`.
use Rattle.std.specs.Prelude.{refl, ℕ, true, false, [], ◌∷◌, ◌++◌, Some, None, codes, pos}
use Rattle.vg_base.specs.declared.event.Event.TheVariants.{Made, Gone, Dispatch}
use Rattle.vg_base.specs.declared.event.ThingKind.TheVariants.{Object, Text, Array, Scope, Error, Activation}
use Rattle.vg_base.specs.declared.event.VEnd.TheVariants.{Ended}
use Rattle.vala_types.specs.declared.types.Item.{Item}
use Rattle.vala_types.specs.declared.types.ItemShape.TheVariants as item
use Rattle.vala_types.specs.declared.types.Shape.TheVariants as shape
use Rattle.vala_types.specs.declared.types.VType.{VType}
use Rattle.vala_types.specs.declared.owners.Change.TheVariants as change
use Rattle.core_tree.specs.declared.program.Core.{Core}
use Rattle.core_tree.specs.declared.lambda.ScopeAt.{ScopeAt}
use Rattle.core_tree.specs.declared.lambda.Target.TheVariants as bound
use Rattle.core_tree.specs.declared.lambda.Via.TheVariants as via
use Rattle.core_tree.specs.declared.operation.Operation.TheVariants as op
use Rattle.core_tree.specs.declared.tree.CoreExpr.{CoreExpr}
use Rattle.core_tree.specs.declared.tree.CoreExpr.TheVariants as e
use Rattle.core_tree.specs.declared.tree.CoreStmt.TheVariants as st
use Rattle.core_tree.specs.declared.values.Comparison.TheVariants as compare
use Rattle.core_tree.specs.declared.values.LoopCall.TheVariants as loop
use Rattle.core_tree.specs.declared.values.Part.TheVariants as part
use Rattle.core_tree.specs.Step.{opening}
use Rattle.core_tree.specs.Tidy.{stays_tidy}
use Rattle.std.specs.Prelude.{◌≡◌}
use Rattle.core_tree.proofs.Build.{Row, here, owned, unowned, void, object, apply, literal, local, set, run, say, of, block, frame, by_value, method, plain_creation, object_class, class, program, quiet_world, new, call, line, keep, moved, told_type, told_methods, new_told, told_name, act, error_type, bound_to}

abbrev held_by : ℕ → ScopeAt
held_by n = record { via = via.Hold n; outward = 0 }

abbrev var : ScopeAt → ℕ → VType → CoreExpr
var at n kind = apply (op.Captured at n kind) []

abbrev at_target : ScopeAt
at_target = record { via = via.Target; outward = 0 }

abbrev lent : VType
lent = unowned (shape.Class 1)

abbrev told_items : Item
told_items = record { shape = item.Class 1; nullable = false }

abbrev told_list : VType
told_list = owned (shape.Array told_items)

abbrev name : CoreExpr
name = told_name (local 0 lent)

-- T[] make () { return new T[] { new T ("a"), new T ("b") }; }
-- class W : Object {
--   public async void go () throws E {
--     foreach (unowned T t in make ()) {
--       try { Idle.add (this.go.callback); yield; print ("%s\n", t.n); if (t.n == "b") throw new E.A ("x"); } finally { print ("fin\n"); }
--     }
--   }
-- }
-- void main () {
--   MainLoop l = new MainLoop (); W w = new W ();
--   w.go.begin ((o, r) => { try { w.go.end (r); } catch (E e) { print ("%s\n", e.message); } l.quit (); });
--   l.run ();
-- }
abbrev pub parks_in_try : Core
parks_in_try =
    program (object_class ∷ told_type ∷ class 2 [] [] None ∷ []) (
    method (frame [] (object 0 ∷ []) void) (
    st.Block [] (record { hold = 0; variables = object 0 ∷ object 2 ∷ []; outer = None; this = None; parameters = [] } ∷ []) (
    set (var (held_by 0) 0 (object 0)) (moved (object 0) (apply (op.Loop loop.New) []))
    ∷ set (var (held_by 0) 1 (object 2)) (moved (object 2) (new 2 3 []))
    ∷ run (apply (op.Begin 5 true here) (var (held_by 0) 1 (object 2) ∷ moved act (
    e.Lambda (bound_to (frame (by_value (unowned (shape.Class 0)) ∷ by_value (unowned shape.AsyncResult) ∷ []) (error_type ∷ []) void) (bound.Captures (held_by 0))) (block [] (
    st.Try (block [] (run (apply (op.End 5 true here) (var at_target 1 (object 2) ∷ local 1 (unowned shape.AsyncResult) ∷ [])) ∷ []))
    (st.Catch (Some 8) None (local 2 error_type ∷ []) (block (of 2 error_type ∷ []) (say (codes "%s") (apply (op.Part part.ErrorMessage) (local 2 error_type ∷ []) ∷ []) ∷ [])) here ∷ []) [] here
    ∷ run (apply (op.Loop loop.Quit) (var at_target 0 (object 0) ∷ []))
    ∷ []
    )) here
    ) ∷ []))
    ∷ run (apply (op.Loop loop.Run) (var (held_by 0) 0 (object 0) ∷ []))
    ∷ []
    ) here
    )
    ∷ told_methods
    ++ plain_creation
    ∷ method (frame [] [] told_list) (block [] (
    st.Return (moved told_list (apply (op.List told_items) (new_told (codes "a") ∷ new_told (codes "b") ∷ [])) ∷ []) here ∷ []
    ))
    ∷ record (method (frame [] (lent ∷ []) void) (block [] (
    st.Foreach (call 4 []) told_items (local 0 lent) change.Keep (block (of 0 lent ∷ []) (
    st.Try (block [] (
    run (apply (op.Loop loop.IdleAdd) (keep act (apply (op.Callback 5 here) []) ∷ []))
    ∷ st.Yield here
    ∷ say (codes "%s") (name ∷ [])
    ∷ st.If (apply (op.CompareTexts compare.Equal) (name ∷ literal (codes "b") ∷ []))
    (st.Throw (moved error_type (apply (op.NewError 8 (pos 0) (codes "x")) [])) here) (st.Empty here) here
    ∷ []
    )) [] (block [] (say (codes "fin") [] ∷ []) ∷ []) here
    ∷ []
    )) here
    ∷ []
    ))) { is_async = true }
    ∷ []
    ) []

pub parks_in_try_row : Row parks_in_try quiet_world 600 (Made Scope ∷ Made Object ∷ Made Object ∷ Made Activation ∷ Made Object ∷ Made Text ∷ Made Object ∷ Made Text ∷ Made Array ∷ Dispatch 1 ∷ line (codes "a") ∷ line (codes "fin") ∷ Dispatch 2 ∷ line (codes "b") ∷ Made Error ∷ line (codes "fin") ∷ line (codes "~a") ∷ Gone 6 ∷ Gone 5 ∷ line (codes "~b") ∷ Gone 8 ∷ Gone 7 ∷ Gone 9 ∷ Dispatch 3 ∷ line (codes "x") ∷ Gone 10 ∷ Gone 4 ∷ Gone 2 ∷ Gone 3 ∷ Gone 1 ∷ []) (Ended (pos 0)) ([])
unfolding Rattle.core_tree.specs.declared.tree.CoreExpr.TheViews.out-CoreStmt denote.Hole.Carrier.out Rattle.core_tree.specs.declared.tree.CoreExpr.TheBlock.shown-the_row-CoreStmt-3 denote.Hole.Carrier.shown denote.Hole.Carrier.hidden Rattle.core_tree.specs.declared.tree.CoreExpr.TheViews.out-CoreExpr Rattle.std.specs.Fmt.digits
parks_in_try_row = record { says = refl; ends = refl; lives = refl }

pub parks_in_try_is_tidy : stays_tidy parks_in_try 600 (opening parks_in_try quiet_world) ≡ true
unfolding Rattle.core_tree.specs.declared.tree.CoreExpr.TheViews.out-CoreStmt denote.Hole.Carrier.out Rattle.core_tree.specs.declared.tree.CoreExpr.TheBlock.shown-the_row-CoreStmt-3 denote.Hole.Carrier.shown denote.Hole.Carrier.hidden Rattle.core_tree.specs.declared.tree.CoreExpr.TheViews.out-CoreExpr Rattle.std.specs.Fmt.digits
parks_in_try_is_tidy = refl
