-- What a `finally` keeps, where an error leaves it.
use Rattle.std.specs.Prelude.{refl, [], ◌∷◌, ◌++◌, Some, codes, pos, None}
use Rattle.vg_base.specs.declared.event.Event.TheVariants.{Made, Gone}
use Rattle.vg_base.specs.declared.event.ThingKind.TheVariants.{Object, Text, Error}
use Rattle.vg_base.specs.declared.event.VEnd.TheVariants.{Ended}
use Rattle.core_tree.specs.declared.program.Core.{Core}
use Rattle.core_tree.specs.declared.operation.Operation.TheVariants as op
use Rattle.core_tree.specs.declared.tree.CoreStmt.TheVariants as st
use Rattle.core_tree.specs.declared.types.Making.TheVariants as making
use Rattle.core_tree.specs.declared.values.Part.TheVariants as part
use Rattle.core_tree.proofs.Build.{Row, here, void, object, apply, local, set, run, say, of, block, frame, method, creation, object_class, class, program, quiet_world, new, call, line, moved, told, told_type, told_methods, new_told, error_type}

-- void f () throws E { throw new E.BAD ("x"); }
-- class A : Object { public A () throws E { T l = new T ("local"); try { return; } finally { f (); } } ~A () { print ("~A\n"); } }
-- void main () { try { A a = new A (); } catch (E e) { print ("%s\n", e.message); } }
abbrev pub return_of_making : Core
return_of_making =
    program (object_class ∷ told_type ∷ class 2 [] [] (Some 5) ∷ []) (
    method (frame [] (object 2 ∷ error_type ∷ []) void) (block [] (
    st.Try (block (of 0 (object 2) ∷ []) (set (local 0 (object 2)) (moved (object 2) (new 2 4 [])) ∷ []))
    (st.Catch (Some 8) None (local 1 error_type ∷ []) (block (of 1 error_type ∷ []) (say (codes "%s") (apply (op.Part part.ErrorMessage) (local 1 error_type ∷ []) ∷ []) ∷ [])) here ∷ []) [] here
    ∷ []
    ))
    ∷ told_methods
    ++ method (frame [] [] void) (block [] (st.Throw (moved error_type (apply (op.NewError 8 (pos 0) (codes "x")) [])) here ∷ []))
    ∷ creation (frame [] (told ∷ []) void) (making.Object []) (block (of 0 told ∷ []) (
    set (local 0 told) (new_told (codes "local"))
    ∷ st.Try (block [] (st.Return [] here ∷ [])) [] (block [] (run (call 3 []) ∷ []) ∷ []) here
    ∷ []
    ))
    ∷ method (frame [] [] void) (block [] (say (codes "~A") [] ∷ []))
    ∷ []
    ) []

pub return_of_making_row : Row return_of_making quiet_world 300 (Made Object ∷ Made Object ∷ Made Text ∷ Made Error ∷ line (codes "~local") ∷ Gone 3 ∷ Gone 2 ∷ line (codes "~A") ∷ Gone 1 ∷ line (codes "x") ∷ Gone 4 ∷ []) (Ended (pos 0)) ([])
unfolding Rattle.core_tree.specs.declared.tree.CoreExpr.TheViews.out-CoreStmt denote.Hole.Carrier.out Rattle.core_tree.specs.declared.tree.CoreExpr.TheBlock.shown-the_row-CoreStmt-3 denote.Hole.Carrier.shown denote.Hole.Carrier.hidden Rattle.core_tree.specs.declared.tree.CoreExpr.TheViews.out-CoreExpr Rattle.std.specs.Fmt.digits
return_of_making_row = record { says = refl; ends = refl; lives = refl }
