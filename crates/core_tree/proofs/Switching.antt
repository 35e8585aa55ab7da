-- A `switch` over a text that is gone: it is read where a label is compared with it.
use Rattle.std.specs.Prelude.{refl, [], ◌∷◌, codes}
use Rattle.vg_base.specs.declared.event.Event.TheVariants.{Made, Gone}
use Rattle.vg_base.specs.declared.event.ThingKind.TheVariants.{Text}
use Rattle.vg_base.specs.declared.event.VEnd.TheVariants.{Dead}
use Rattle.vala_types.specs.declared.types.Shape.TheVariants as shape
use Rattle.vala_types.specs.declared.types.VType.{VType}
use Rattle.core_tree.specs.declared.program.Core.{Core}
use Rattle.core_tree.specs.declared.operation.Operation.TheVariants as op
use Rattle.core_tree.specs.declared.tree.CoreExpr.{CoreExpr}
use Rattle.core_tree.specs.declared.tree.CoreStmt.TheVariants as st
use Rattle.core_tree.specs.declared.values.TextCall.TheVariants as call_of
use Rattle.core_tree.proofs.Build.{Row, here, unowned, void, text, apply, number, literal, null, local, assign, set, say, of, block, frame, method, object_class, program, quiet_world, line, keep, moved, case_label, default_label}

abbrev lent : VType
lent = unowned shape.Text

-- void main () {
--   unowned string s = ""; { string t = "ab".substring (0, 1); s = t; }
--   switch (s) { default: print ("default\n"); break; } switch (s) { case null: print ("null\n"); break; }
-- }
abbrev pub gone_text : Core
gone_text =
    program (object_class ∷ []) (
    method (frame [] (lent ∷ text ∷ []) void) (block (of 0 lent ∷ []) (
    set (local 0 lent) (keep lent (literal []))
    ∷ block (of 1 text ∷ []) (
    set (local 1 text) (moved text (apply (op.TextFunction call_of.Substring) (literal (codes "ab") ∷ number 0 ∷ number 1 ∷ [])))
    ∷ assign lent (local 0 lent) (keep lent (local 1 text))
    ∷ []
    )
    ∷ st.Switch (local 0 lent) (st.Section [] (default_label ∷ []) (block [] (say (codes "default") [] ∷ st.Break here ∷ [])) here ∷ []) here
    ∷ st.Switch (local 0 lent) (st.Section (null ∷ []) (case_label ∷ []) (block [] (say (codes "null") [] ∷ st.Break here ∷ [])) here ∷ []) here
    ∷ []
    ))
    ∷ []
    ) []

pub gone_text_row : Row gone_text quiet_world 200 (Made Text ∷ Gone 1 ∷ line (codes "default") ∷ []) Dead ([])
unfolding Rattle.core_tree.specs.declared.tree.CoreExpr.TheViews.out-CoreStmt denote.Hole.Carrier.out Rattle.core_tree.specs.declared.tree.CoreExpr.TheBlock.shown-the_row-CoreStmt-3 denote.Hole.Carrier.shown denote.Hole.Carrier.hidden Rattle.core_tree.specs.declared.tree.CoreExpr.TheViews.out-CoreExpr Rattle.std.specs.Fmt.digits
gone_text_row = record { says = refl; ends = refl; lives = refl }
