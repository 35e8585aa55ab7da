-- Owners that go: uses behind that, cycles, texts and moved parameters.
use Rattle.std.specs.Prelude.{refl, [], ◌∷◌, Some, None, codes, pos}
use Rattle.vg_base.specs.declared.event.Event.TheVariants.{Made, Gone}
use Rattle.vg_base.specs.declared.event.ThingKind.TheVariants.{Object, Text}
use Rattle.vg_base.specs.declared.event.VEnd.TheVariants.{Ended, Dead}
use Rattle.vala_types.specs.declared.types.Shape.TheVariants as shape
use Rattle.vala_types.specs.declared.types.VType.{VType}
use Rattle.vala_types.specs.declared.owners.Change.TheVariants as change
use Rattle.core_tree.specs.declared.program.Core.{Core}
use Rattle.core_tree.specs.declared.operation.Operation.TheVariants as op
use Rattle.core_tree.specs.declared.tree.CoreExpr.{CoreExpr}
use Rattle.core_tree.specs.declared.values.TextCall.TheVariants as call_of
use Rattle.core_tree.proofs.Build.{Row, unowned, void, text, object, apply, number, literal, null, local, static, field, changed, place, assign, set, run, say, of, block, frame, by_value, method, plain_creation, object_class, class, static_field, program, quiet_world, new, call, call_on, line, keep, moved, copied}

abbrev foo : VType
foo = object 1

-- class Foo : Object { public void go () { print ("go\n"); } }
-- Foo? held;
-- void f (Foo x) { held = null; x.go (); }
-- void main () { held = new Foo (); f (held); }
abbrev pub unowned_argument : Core
unowned_argument =
    program (object_class ∷ class 1 [] [] None ∷ []) (
    method (frame [] [] void) (block [] (
    assign foo (static 0 foo) (moved foo (new 1 1 []))
    ∷ run (call 3 (keep (unowned (shape.Class 1)) (static 0 foo) ∷ []))
    ∷ []
    ))
    ∷ plain_creation
    ∷ method (frame [] [] void) (block [] (say (codes "go") [] ∷ []))
    ∷ method (frame (by_value (unowned (shape.Class 1)) ∷ []) [] void) (block [] (
    assign foo (static 0 foo) (keep foo null)
    ∷ run (call_on (local 0 (unowned (shape.Class 1))) 2 [])
    ∷ []
    ))
    ∷ []
    ) (static_field foo ∷ [])

pub unowned_argument_row : Row unowned_argument quiet_world 120 (Made Object ∷ Gone 1 ∷ []) Dead ([])
unfolding Rattle.core_tree.specs.declared.tree.CoreExpr.TheViews.out-CoreStmt denote.Hole.Carrier.out Rattle.core_tree.specs.declared.tree.CoreExpr.TheBlock.shown-the_row-CoreStmt-3 denote.Hole.Carrier.shown denote.Hole.Carrier.hidden Rattle.core_tree.specs.declared.tree.CoreExpr.TheViews.out-CoreExpr Rattle.std.specs.Fmt.digits
unowned_argument_row = record { says = refl; ends = refl; lives = refl }

-- class Node : Object { public Node? up; public Node? down; ~Node () { print ("gone\n"); } }
-- void main () { Node p = new Node (); Node c = new Node (); p.down = c; c.up = p; }
-- where `up` owns, or does not
abbrev nodes : VType → CoreExpr → Core
nodes up p =
    program (object_class ∷ class 1 (up ∷ foo ∷ []) [] (Some 2) ∷ []) (
    method (frame [] (foo ∷ foo ∷ []) void) (block (of 0 foo ∷ of 1 foo ∷ []) (
    set (local 0 foo) (moved foo (new 1 1 []))
    ∷ set (local 1 foo) (moved foo (new 1 1 []))
    ∷ assign foo (field (local 0 foo) 1 foo) (changed change.AddOwner foo (local 1 foo))
    ∷ assign up (field (local 1 foo) 0 up) p
    ∷ []
    ))
    ∷ plain_creation
    ∷ method (frame [] [] void) (block [] (say (codes "gone") [] ∷ []))
    ∷ []
    ) []

abbrev pub cycle : Core
cycle = nodes foo (changed change.AddOwner foo (local 0 foo))

pub cycle_row : Row cycle quiet_world 150 (Made Object ∷ Made Object ∷ []) (Ended (pos 0)) (record { kind = Object; serial = 1; owners = 1 } ∷ record { kind = Object; serial = 2; owners = 1 } ∷ [])
unfolding Rattle.core_tree.specs.declared.tree.CoreExpr.TheViews.out-CoreStmt denote.Hole.Carrier.out Rattle.core_tree.specs.declared.tree.CoreExpr.TheBlock.shown-the_row-CoreStmt-3 denote.Hole.Carrier.shown denote.Hole.Carrier.hidden Rattle.core_tree.specs.declared.tree.CoreExpr.TheViews.out-CoreExpr Rattle.std.specs.Fmt.digits
cycle_row = record { says = refl; ends = refl; lives = refl }

abbrev pub weak_cycle : Core
weak_cycle = nodes (unowned (shape.Class 1)) (keep (unowned (shape.Class 1)) (local 0 foo))

pub weak_cycle_row : Row weak_cycle quiet_world 200 (Made Object ∷ Made Object ∷ line (codes "gone") ∷ line (codes "gone") ∷ Gone 2 ∷ Gone 1 ∷ []) (Ended (pos 0)) ([])
unfolding Rattle.core_tree.specs.declared.tree.CoreExpr.TheViews.out-CoreStmt denote.Hole.Carrier.out Rattle.core_tree.specs.declared.tree.CoreExpr.TheBlock.shown-the_row-CoreStmt-3 denote.Hole.Carrier.shown denote.Hole.Carrier.hidden Rattle.core_tree.specs.declared.tree.CoreExpr.TheViews.out-CoreExpr Rattle.std.specs.Fmt.digits
weak_cycle_row = record { says = refl; ends = refl; lives = refl }

-- void main () { unowned string s = ""; { string t = "ab".substring (0, 1); s = t; } print ("%s\n", s); }
abbrev pub dangling_text : Core
dangling_text =
    program (object_class ∷ []) (
    method (frame [] (unowned shape.Text ∷ text ∷ []) void) (block (of 0 (unowned shape.Text) ∷ []) (
    set (local 0 (unowned shape.Text)) (keep (unowned shape.Text) (literal []))
    ∷ block (of 1 text ∷ []) (
    set (local 1 text) (moved text (apply (op.TextFunction call_of.Substring) (literal (codes "ab") ∷ number 0 ∷ number 1 ∷ [])))
    ∷ assign (unowned shape.Text) (local 0 (unowned shape.Text)) (keep (unowned shape.Text) (local 1 text))
    ∷ []
    )
    ∷ say (codes "%s") (local 0 (unowned shape.Text) ∷ [])
    ∷ []
    ))
    ∷ []
    ) []

pub dangling_text_row : Row dangling_text quiet_world 120 (Made Text ∷ Gone 1 ∷ []) Dead ([])
unfolding Rattle.core_tree.specs.declared.tree.CoreExpr.TheViews.out-CoreStmt denote.Hole.Carrier.out Rattle.core_tree.specs.declared.tree.CoreExpr.TheBlock.shown-the_row-CoreStmt-3 denote.Hole.Carrier.shown denote.Hole.Carrier.hidden Rattle.core_tree.specs.declared.tree.CoreExpr.TheViews.out-CoreExpr Rattle.std.specs.Fmt.digits
dangling_text_row = record { says = refl; ends = refl; lives = refl }

-- void take (owned string? a, owned string? b) { print ("%s %s\n", a, b); }
-- void main () { string? s = "x"; take ((owned) s, (owned) s); }
abbrev pub moved_twice : Core
moved_twice =
    program (object_class ∷ []) (
    method (frame [] (text ∷ []) void) (block (of 0 text ∷ []) (
    set (local 0 text) (copied (literal (codes "x")))
    ∷ run (call 1 (moved text (taken (local 0 text)) ∷ moved text (taken (local 0 text)) ∷ []))
    ∷ []
    ))
    ∷ method (frame (by_value text ∷ by_value text ∷ []) [] void) (block [] (say (codes "%s %s") (local 0 text ∷ local 1 text ∷ []) ∷ []))
    ∷ []
    ) []
  where
    taken : CoreExpr → CoreExpr
    taken x = apply (op.Take text) (place x ∷ [])

pub moved_twice_row : Row moved_twice quiet_world 120 (Made Text ∷ line (codes "x (null)") ∷ Gone 1 ∷ []) (Ended (pos 0)) ([])
unfolding Rattle.core_tree.specs.declared.tree.CoreExpr.TheViews.out-CoreStmt denote.Hole.Carrier.out Rattle.core_tree.specs.declared.tree.CoreExpr.TheBlock.shown-the_row-CoreStmt-3 denote.Hole.Carrier.shown denote.Hole.Carrier.hidden Rattle.core_tree.specs.declared.tree.CoreExpr.TheViews.out-CoreExpr Rattle.std.specs.Fmt.digits
moved_twice_row = record { says = refl; ends = refl; lives = refl }
