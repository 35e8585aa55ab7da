-- `&&`, `||` and `??`: the second part runs only where the first leaves it open.
use Rattle.std.specs.Prelude.{refl, [], ◌∷◌, codes, pos}
use Rattle.vg_base.specs.declared.event.VEnd.TheVariants.{Ended}
use Rattle.vala_types.specs.declared.types.Shape.TheVariants as shape
use Rattle.vala_types.specs.declared.types.VType.{VType}
use Rattle.core_tree.specs.declared.program.Core.{Core}
use Rattle.core_tree.specs.declared.tree.CoreExpr.{CoreExpr}
use Rattle.core_tree.specs.declared.tree.CoreExpr.TheVariants as e
use Rattle.core_tree.specs.declared.tree.CoreStmt.{CoreStmt}
use Rattle.core_tree.specs.declared.tree.CoreStmt.TheVariants as st
use Rattle.core_tree.proofs.Build.{Row, here, unowned, owned, void, number, literal, null, local, assign, set, say, block, frame, method, object_class, program, quiet_world, call, line, keep}

abbrev bool : VType
bool = owned shape.Bool

abbrev lent : VType
lent = unowned shape.Text

abbrev second : CoreExpr
second = call 1 []

abbrev told : CoreExpr → CoreStmt
told x = say (codes "%d") (e.Choice x (number 1) (number 0) here ∷ [])

-- bool second () { print ("second\n"); return true; }
-- void main () {
--   print ("%d\n", false && second () ? 1 : 0); print ("%d\n", true && second () ? 1 : 0);
--   print ("%d\n", true || second () ? 1 : 0); print ("%d\n", false || second () ? 1 : 0);
--   unowned string? s = null; print ("%s\n", s ?? "none"); s = "some"; print ("%s\n", s ?? "none");
-- }
abbrev pub choosing : Core
choosing =
    program (object_class ∷ []) (
    method (frame [] (lent ∷ []) void) (block [] (
    told (e.And (number 0) second here)
    ∷ told (e.And (number 1) second here)
    ∷ told (e.Or (number 1) second here)
    ∷ told (e.Or (number 0) second here)
    ∷ set (local 0 lent) (keep lent null)
    ∷ say (codes "%s") (e.Coalesce (local 0 lent) (literal (codes "none")) here ∷ [])
    ∷ assign lent (local 0 lent) (keep lent (literal (codes "some")))
    ∷ say (codes "%s") (e.Coalesce (local 0 lent) (literal (codes "none")) here ∷ [])
    ∷ []
    ))
    ∷ method (frame [] [] bool) (block [] (say (codes "second") [] ∷ st.Return (keep bool (number 1) ∷ []) here ∷ []))
    ∷ []
    ) []

pub choosing_row : Row choosing quiet_world 200 (line (codes "0") ∷ line (codes "second") ∷ line (codes "1") ∷ line (codes "1") ∷ line (codes "second") ∷ line (codes "1") ∷ line (codes "none") ∷ line (codes "some") ∷ []) (Ended (pos 0)) ([])
unfolding Rattle.core_tree.specs.declared.tree.CoreExpr.TheViews.out-CoreStmt denote.Hole.Carrier.out Rattle.core_tree.specs.declared.tree.CoreExpr.TheBlock.shown-the_row-CoreStmt-3 denote.Hole.Carrier.shown denote.Hole.Carrier.hidden Rattle.core_tree.specs.declared.tree.CoreExpr.TheViews.out-CoreExpr Rattle.std.specs.Fmt.digits
choosing_row = record { says = refl; ends = refl; lives = refl }
