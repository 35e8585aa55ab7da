-- An error that is carried through frames gives up what it leaves.
use Rattle.std.specs.Prelude.{refl, ℕ, List, [], ◌∷◌, Some, codes, pos, None}
use Rattle.vg_base.specs.declared.event.Event.TheVariants.{Made, Gone}
use Rattle.vg_base.specs.declared.event.ThingKind.TheVariants.{Object, Text, Error}
use Rattle.vg_base.specs.declared.event.VEnd.TheVariants.{Ended}
use Rattle.vala_types.specs.declared.types.Shape.TheVariants as shape
use Rattle.vala_types.specs.declared.types.VType.{VType}
use Rattle.core_tree.specs.declared.program.Core.{Core}
use Rattle.core_tree.specs.declared.operation.Operation.TheVariants as op
use Rattle.core_tree.specs.declared.tree.CoreExpr.{CoreExpr}
use Rattle.core_tree.specs.declared.tree.CoreStmt.{CoreStmt}
use Rattle.core_tree.specs.declared.tree.CoreStmt.TheVariants as st
use Rattle.core_tree.specs.declared.types.Making.TheVariants as making
use Rattle.core_tree.specs.declared.values.Comparison.TheVariants as compare
use Rattle.core_tree.specs.declared.values.Part.TheVariants as part
use Rattle.core_tree.proofs.Build.{Row, here, owned, unowned, void, text, object, apply, literal, local, this, field, assign, run, say, of, block, frame, by_value, method, creation, object_class, class, program, quiet_world, new, call, line, text_param, keep, moved, copied}

-- errordomain E { BAD }
-- class T : Object { public string n; public T (string n) { this.n = n; } ~T () { print ("gone %s\n", this.n); } }
-- T make (string n) throws E { if (n == "b") throw new E.BAD ("no %s", n); return new T (n); }
-- void use (owned T x, owned T y) { print ("used\n"); }
-- void main () { try { use (make ("a"), make ("b")); } catch (E e) { print ("caught %s\n", e.message); } finally { print ("finally\n"); } }
abbrev t : VType
t = object 1

abbrev error : VType
error = owned (shape.Error (Some 2))

abbrev n : CoreExpr
n = local 0 (unowned shape.Text)

abbrev make : List ℕ → CoreExpr
make bytes = call 3 (keep (unowned shape.Text) (literal bytes) ∷ [])

abbrev empty : CoreStmt
empty = st.Empty here

abbrev pub carried_error : Core
carried_error =
    program (object_class ∷ class 1 (text ∷ []) [] (Some 2) ∷ []) (
    method (frame [] (error ∷ []) void) (block [] (
    st.Try (block [] (run (call 4 (moved t (make (codes "a")) ∷ moved t (make (codes "b")) ∷ [])) ∷ [])) (
    st.Catch (Some 2) None (local 0 error ∷ []) (block (of 0 error ∷ []) (
    say (codes "caught %s") (apply (op.Part part.ErrorMessage) (local 0 error ∷ []) ∷ []) ∷ []
    )) here
    ∷ []
    ) (block [] (say (codes "finally") [] ∷ []) ∷ []) here
    ∷ []
    ))
    ∷ creation (frame (text_param ∷ []) [] void) (making.Object []) (block [] (assign text (field this 0 text) (copied n) ∷ []))
    ∷ method (frame [] [] void) (block [] (say (codes "gone %s") (field this 0 text ∷ []) ∷ []))
    ∷ method (frame (text_param ∷ []) [] t) (block [] (
    st.If (apply (op.CompareTexts compare.Equal) (n ∷ literal (codes "b") ∷ []))
    (st.Throw (moved error (apply (op.NewError 2 (pos 0) (codes "no %s")) (n ∷ []))) here) empty here
    ∷ st.Return (moved t (new 1 1 (keep (unowned shape.Text) n ∷ [])) ∷ []) here
    ∷ []
    ))
    ∷ method (frame (by_value t ∷ by_value t ∷ []) [] void) (block [] (say (codes "used") [] ∷ []))
    ∷ []
    ) []

pub carried_error_row : Row carried_error quiet_world 300 (Made Object ∷ Made Text ∷ Made Error ∷ line (codes "gone a") ∷ Gone 2 ∷ Gone 1 ∷ line (codes "caught no b") ∷ Gone 3 ∷ line (codes "finally") ∷ []) (Ended (pos 0)) ([])
unfolding Rattle.core_tree.specs.declared.tree.CoreExpr.TheViews.out-CoreStmt denote.Hole.Carrier.out Rattle.core_tree.specs.declared.tree.CoreExpr.TheBlock.shown-the_row-CoreStmt-3 denote.Hole.Carrier.shown denote.Hole.Carrier.hidden Rattle.core_tree.specs.declared.tree.CoreExpr.TheViews.out-CoreExpr Rattle.std.specs.Fmt.digits
carried_error_row = record { says = refl; ends = refl; lives = refl }
