-- What handlers get: a struct is copied for each, and the sender comes first.
use Rattle.std.specs.Prelude.{refl, true, false, [], ◌∷◌, Some, None, codes, pos}
use Rattle.vg_base.specs.declared.event.Event.TheVariants.{Made, Gone}
use Rattle.vg_base.specs.declared.event.ThingKind.TheVariants.{Object, Text}
use Rattle.vg_base.specs.declared.event.VEnd.TheVariants.{Ended}
use Rattle.vala_types.specs.declared.types.Shape.TheVariants as shape
use Rattle.vala_types.specs.declared.types.VType.{VType}
use Rattle.core_tree.specs.declared.program.Core.{Core}
use Rattle.core_tree.specs.declared.operation.Operation.TheVariants as op
use Rattle.core_tree.specs.declared.tree.CoreExpr.{CoreExpr}
use Rattle.core_tree.specs.declared.types.CoreType.TheVariants as declared
use Rattle.core_tree.specs.declared.values.Callee.TheVariants as callee
use Rattle.core_tree.specs.Step.{opening}
use Rattle.core_tree.specs.Tidy.{stays_tidy}
use Rattle.std.specs.Prelude.{◌≡◌}
use Rattle.core_tree.proofs.Build.{Row, owned, unowned, void, int, text, object, apply, number, literal, local, assign, set, run, say, of, block, frame, by_value, method, plain_creation, object_class, program, with_signals, notify, quiet_world, new, line, moved, copied, signal}

abbrev pair : VType
pair = owned (shape.Struct 2)

abbrev name_of : CoreExpr → CoreExpr
name_of p = apply (op.Member 0 text) (p ∷ [])

-- struct P { public string n; }
-- class S : Object { public virtual signal void hit (P p, int k) { print ("class %s %d\n", p.n, k); } }
-- void one (S s, P p, int k) { p.n = "changed"; print ("one %s %d\n", p.n, k); }
-- void main () { S s = new S (); P p = P (); p.n = "a"; s.hit.connect (one); s.hit (p, 2); print ("%s\n", p.n); }
abbrev pub struct_arguments : Core
struct_arguments =
    with_signals (
    program (
    object_class
    ∷ declared.Class (record { base = Some 0; interfaces = []; is_a = 1 ∷ 0 ∷ []; cells = []; own = 0; initials = []; construct_properties = []; construct_blocks = []; destructor = None; slots = record { slot = 0; member = 2 } ∷ [] })
    ∷ declared.Struct (record { cells = text ∷ [] })
    ∷ []
    ) (
    method (frame [] (object 1 ∷ pair ∷ []) void) (block (of 0 (object 1) ∷ of 1 pair ∷ []) (
    set (local 0 (object 1)) (moved (object 1) (new 1 1 []))
    ∷ set (local 1 pair) (moved pair (apply (op.NewStruct 2) []))
    ∷ assign text (name_of (local 1 pair)) (copied (literal (codes "a")))
    ∷ run (apply (op.Connect 1 None false true true (callee.Static 3)) (local 0 (object 1) ∷ []))
    ∷ run (apply (op.Emit 1) (local 0 (object 1) ∷ local 1 pair ∷ number 2 ∷ []))
    ∷ say (codes "%s") (name_of (local 1 pair) ∷ [])
    ∷ []
    ))
    ∷ plain_creation
    ∷ method (frame (by_value pair ∷ by_value int ∷ []) [] void) (block [] (say (codes "class %s %d") (name_of (local 0 pair) ∷ local 1 int ∷ []) ∷ []))
    ∷ method (frame (by_value (unowned (shape.Class 1)) ∷ by_value pair ∷ by_value int ∷ []) [] void) (block [] (
    assign text (name_of (local 1 pair)) (copied (literal (codes "changed"))) ∷ say (codes "one %s %d") (name_of (local 1 pair) ∷ local 2 int ∷ []) ∷ []
    ))
    ∷ []
    ) []
    ) (notify ∷ signal (pair ∷ int ∷ []) (Some 0) ∷ [])

pub struct_arguments_row : Row struct_arguments quiet_world 300 (Made Object ∷ Made Text ∷ Made Text ∷ Made Text ∷ Gone 3 ∷ line (codes "one changed 2") ∷ Gone 4 ∷ Made Text ∷ line (codes "class a 2") ∷ Gone 5 ∷ line (codes "a") ∷ Gone 2 ∷ Gone 1 ∷ []) (Ended (pos 0)) ([])
unfolding Rattle.core_tree.specs.declared.tree.CoreExpr.TheViews.out-CoreStmt denote.Hole.Carrier.out Rattle.core_tree.specs.declared.tree.CoreExpr.TheBlock.shown-the_row-CoreStmt-3 denote.Hole.Carrier.shown denote.Hole.Carrier.hidden Rattle.core_tree.specs.declared.tree.CoreExpr.TheViews.out-CoreExpr Rattle.std.specs.Fmt.digits
struct_arguments_row = record { says = refl; ends = refl; lives = refl }

pub struct_arguments_is_tidy : stays_tidy struct_arguments 300 (opening struct_arguments quiet_world) ≡ true
unfolding Rattle.core_tree.specs.declared.tree.CoreExpr.TheViews.out-CoreStmt denote.Hole.Carrier.out Rattle.core_tree.specs.declared.tree.CoreExpr.TheBlock.shown-the_row-CoreStmt-3 denote.Hole.Carrier.shown denote.Hole.Carrier.hidden Rattle.core_tree.specs.declared.tree.CoreExpr.TheViews.out-CoreExpr Rattle.std.specs.Fmt.digits
struct_arguments_is_tidy = refl
