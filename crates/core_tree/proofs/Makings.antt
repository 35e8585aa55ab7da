-- The order in which an object is made.
use Rattle.std.specs.Prelude.{refl, ℕ, List, [], ◌∷◌, Some, None, codes, pos}
use Rattle.vg_base.specs.declared.event.Event.TheVariants.{Made, Gone}
use Rattle.vg_base.specs.declared.event.ThingKind.TheVariants.{Object}
use Rattle.vg_base.specs.declared.event.VEnd.TheVariants.{Ended}
use Rattle.vala_types.specs.declared.types.Shape.TheVariants as shape
use Rattle.vala_types.specs.declared.types.VType.{VType}
use Rattle.core_tree.specs.declared.program.Core.{Core}
use Rattle.core_tree.specs.declared.tree.CoreExpr.{CoreExpr}
use Rattle.core_tree.specs.declared.tree.CoreStmt.TheVariants as st
use Rattle.core_tree.specs.declared.types.Making.TheVariants as making
use Rattle.core_tree.proofs.Build.{Row, here, unowned, void, int, number, literal, local, this, field, set, run, say, block, frame, method, creation, object_class, program, quiet_world, new, call, line, text_param, keep}
use Rattle.core_tree.specs.declared.types.CoreType.{CoreType}
use Rattle.core_tree.specs.declared.types.CoreType.TheVariants as declared
use Rattle.core_tree.specs.declared.types.CoreMethod.{CoreMethod}

-- int say (string s) { print ("%s\n", s); return 0; }
-- class A : Object { int f = say ("fa"); construct { say ("ca"); } public A () { say ("ra"); } }
-- class B : A { int g = say ("fb"); construct { say ("cb"); } public B () { say ("rb"); } }
-- class C : B { int h = say ("fc"); construct { say ("cc"); } public C () { say ("rc"); } }
-- void main () { new C (); }
abbrev said : List ℕ → CoreExpr
said bytes = call 1 (keep (unowned shape.Text) (literal bytes) ∷ [])

-- a class with one field, which `said` fills, and a `construct` block
abbrev one_of_three : ℕ → List ℕ → List VType → List ℕ → ℕ → CoreType
one_of_three base is_a cells bytes block_method =
    declared.Class (record {
      base = Some base;
      interfaces = [];
      is_a = is_a;
      cells = cells;
      own = base;
      initials = set (field this base int) (keep int (said bytes)) ∷ [];
      construct_properties = [];
      construct_blocks = block_method ∷ [];
      destructor = None;
      slots = [];
    })

abbrev says : List ℕ → CoreMethod
says bytes = method (frame [] [] void) (block [] (run (said bytes) ∷ []))

abbrev begins : ℕ → List ℕ → CoreMethod
begins base bytes = creation (frame [] [] void) (making.Base base [] here) (block [] (run (said bytes) ∷ []))

abbrev pub three_classes : Core
three_classes =
    program (
    object_class
    ∷ one_of_three 0 (1 ∷ 0 ∷ []) (int ∷ []) (codes "fa") 5
    ∷ one_of_three 1 (2 ∷ 1 ∷ 0 ∷ []) (int ∷ int ∷ []) (codes "fb") 6
    ∷ one_of_three 2 (3 ∷ 2 ∷ 1 ∷ 0 ∷ []) (int ∷ int ∷ int ∷ []) (codes "fc") 7
    ∷ []
    ) (
    method (frame [] [] void) (block [] (run (new 3 4 []) ∷ []))
    ∷ method (frame (text_param ∷ []) [] int) (block [] (
    say (codes "%s") (local 0 (unowned shape.Text) ∷ []) ∷ st.Return (keep int (number 0) ∷ []) here ∷ []
    ))
    ∷ creation (frame [] [] void) (making.Object []) (block [] (run (said (codes "ra")) ∷ []))
    ∷ begins 2 (codes "rb")
    ∷ begins 3 (codes "rc")
    ∷ says (codes "ca")
    ∷ says (codes "cb")
    ∷ says (codes "cc")
    ∷ []
    ) []

pub three_classes_row : Row three_classes quiet_world 400 (Made Object ∷ line (codes "fa") ∷ line (codes "fb") ∷ line (codes "fc") ∷ line (codes "ca") ∷ line (codes "cb") ∷ line (codes "cc") ∷ line (codes "ra") ∷ line (codes "rb") ∷ line (codes "rc") ∷ Gone 1 ∷ []) (Ended (pos 0)) ([])
unfolding Rattle.core_tree.specs.declared.tree.CoreExpr.TheViews.out-CoreStmt denote.Hole.Carrier.out Rattle.core_tree.specs.declared.tree.CoreExpr.TheBlock.shown-the_row-CoreStmt-3 denote.Hole.Carrier.shown denote.Hole.Carrier.hidden Rattle.core_tree.specs.declared.tree.CoreExpr.TheViews.out-CoreExpr Rattle.std.specs.Fmt.digits
three_classes_row = record { says = refl; ends = refl; lives = refl }
