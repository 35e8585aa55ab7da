-- Loops, types, arrays of structs, class handlers, virtual properties and timeouts that stay.
use Rattle.std.specs.Prelude.{◌≡◌, refl, ℕ, zero, suc, Bool, true, false, List, [], ◌∷◌, ◌++◌, Option, Some, None, codes, ℤ, pos}
use Rattle.vg_base.specs.declared.event.Event.TheVariants.{Made, Gone, Dispatch}
use Rattle.vg_base.specs.declared.event.ThingKind.TheVariants.{Object, Text, Array, Scope}
use Rattle.vg_base.specs.declared.event.TrapKind.TheVariants as trap
use Rattle.vg_base.specs.declared.event.VEnd.TheVariants.{Ended, Trapped}
use Rattle.vala_types.specs.declared.types.IntKind.TheVariants as kind
use Rattle.vala_types.specs.declared.types.Item.{Item}
use Rattle.vala_types.specs.declared.types.ItemShape.TheVariants as item
use Rattle.vala_types.specs.declared.types.Shape.TheVariants as shape
use Rattle.vala_types.specs.declared.types.VType.{VType}
use Rattle.vala_types.specs.declared.owners.Change.TheVariants as change
use Rattle.core_tree.specs.declared.program.Core.{Core}
use Rattle.core_tree.specs.declared.lambda.ScopeAt.{ScopeAt}
use Rattle.core_tree.specs.declared.lambda.Target.TheVariants as bound
use Rattle.core_tree.specs.declared.lambda.Via.TheVariants as via
use Rattle.core_tree.specs.declared.operation.Operation.TheVariants as op
use Rattle.core_tree.specs.declared.tree.CoreExpr.{CoreExpr}
use Rattle.core_tree.specs.declared.tree.CoreExpr.TheVariants as e
use Rattle.core_tree.specs.declared.tree.CoreStmt.{CoreStmt}
use Rattle.core_tree.specs.declared.tree.CoreStmt.TheVariants as st
use Rattle.core_tree.specs.declared.types.Accessor.TheVariants as access
use Rattle.core_tree.specs.declared.types.Making.TheVariants as making
use Rattle.core_tree.specs.declared.values.Arithmetic.TheVariants as arithmetic
use Rattle.core_tree.specs.declared.values.Callee.TheVariants as callee
use Rattle.core_tree.specs.declared.values.Comparison.TheVariants as compare
use Rattle.core_tree.specs.declared.values.LoopCall.TheVariants as loop
use Rattle.core_tree.proofs.Build.{Row, here, owned, unowned, void, int, text, object, apply, number, literal, null, local, changed, assign, set, run, say, of, block, frame, method, creation, plain_creation, object_class, class, program, with_properties, with_signals, notify, quiet_world, new, line, keep, moved, copied, lambda_at, act, bound_to, case_label, default_label, signal, interface}
use Rattle.core_tree.specs.declared.types.CoreMethod.{CoreMethod}
use Rattle.core_tree.specs.declared.types.CoreProperty.{CoreProperty}
use Rattle.core_tree.specs.declared.types.CoreType.{CoreType}
use Rattle.core_tree.specs.declared.types.CoreType.TheVariants as declared

abbrev i : CoreExpr
i = local 0 int

abbrev counted : CoreExpr → CoreStmt
counted x = run (apply (op.Increment arithmetic.Add kind.Int32 true false) (e.PlaceAndValue x here ∷ []))

abbrev equal : CoreExpr → ℕ → CoreExpr
equal x n = apply (op.CompareNumbers compare.Equal) (x ∷ number n ∷ [])

abbrev less : CoreExpr → ℕ → CoreExpr
less x n = apply (op.CompareNumbers compare.Less) (x ∷ number n ∷ [])

abbrev none : CoreStmt
none = st.Empty here

-- void main () {
--   int i = 0;
--   do { i++; if (i == 2) continue; if (i == 4) break; print ("%d\n", i); } while (i < 10);
--   for (i = 0; i < 3; i++) switch (i) { case 1: print ("one\n"); break; default: if (i == 2) continue; print ("other\n"); break; }
-- }
abbrev pub loops : Core
loops =
    program (object_class ∷ []) (
    method (frame [] (int ∷ []) void) (block [] (
    set i (keep int (number 0))
    ∷ st.Do (block [] (
    counted i
    ∷ st.If (equal i 2) (st.Continue here) none here
    ∷ st.If (equal i 4) (st.Break here) none here
    ∷ say (codes "%d") (i ∷ [])
    ∷ []
    )) (less i 10) here
    ∷ assign int i (keep int (number 0))
    ∷ st.For (less i 3) (counted i ∷ []) (
    st.Switch i (
    st.Section (number 1 ∷ []) (case_label ∷ []) (block [] (say (codes "one") [] ∷ st.Break here ∷ [])) here
    ∷ st.Section [] (default_label ∷ []) (block [] (st.If (equal i 2) (st.Continue here) none here ∷ say (codes "other") [] ∷ st.Break here ∷ [])) here
    ∷ []
    ) here
    ) here
    ∷ []
    ))
    ∷ []
    ) []

pub loops_row : Row loops quiet_world 400 (line (codes "1") ∷ line (codes "3") ∷ line (codes "other") ∷ line (codes "one") ∷ []) (Ended (pos 0)) ([])
unfolding Rattle.core_tree.specs.declared.tree.CoreExpr.TheViews.out-CoreStmt denote.Hole.Carrier.out Rattle.core_tree.specs.declared.tree.CoreExpr.TheBlock.shown-the_row-CoreStmt-3 denote.Hole.Carrier.shown denote.Hole.Carrier.hidden Rattle.core_tree.specs.declared.tree.CoreExpr.TheViews.out-CoreExpr Rattle.std.specs.Fmt.digits
loops_row = record { says = refl; ends = refl; lives = refl }

-- class A : Object { } class B : A { }
-- void main () {
--   Object o = new B ();
--   print ("%d %d %d\n", o is A ? 1 : 0, (o as A) == null ? 1 : 0, o is C ? 1 : 0);
--   A a = (A) o; o = new A (); B b = (B) o;
-- }
abbrev lent : ℕ → VType
lent n = unowned (shape.Class n)

abbrev o : CoreExpr
o = local 0 (object 0)

abbrev if_so : CoreExpr → CoreExpr
if_so x = e.Choice x (number 1) (number 0) here

abbrev derived : CoreType
derived = declared.Class (record { base = Some 1; interfaces = []; is_a = 2 ∷ 1 ∷ 0 ∷ []; cells = []; own = 0; initials = []; construct_properties = []; construct_blocks = []; destructor = None; slots = [] })

abbrev pub types : Core
types =
    program (object_class ∷ class 1 [] [] None ∷ derived ∷ []) (
    method (frame [] (object 0 ∷ object 1 ∷ object 2 ∷ []) void) (block (of 0 (object 0) ∷ of 1 (object 1) ∷ of 2 (object 2) ∷ []) (
    set o (moved (object 0) (new 2 2 []))
    ∷ say (codes "%d %d %d") (if_so (apply (op.Is 1) (o ∷ [])) ∷ if_so (apply (op.CompareReferences compare.Equal) (apply (op.As 1) (o ∷ []) ∷ null ∷ [])) ∷ if_so (apply (op.Is 3) (o ∷ [])) ∷ [])
    ∷ set (local 1 (object 1)) (changed change.AddOwner (object 1) (apply (op.Cast 1) (o ∷ [])))
    ∷ assign (object 0) o (moved (object 0) (new 1 1 []))
    ∷ set (local 2 (object 2)) (changed change.AddOwner (object 2) (apply (op.Cast 2) (o ∷ [])))
    ∷ []
    ))
    ∷ plain_creation
    ∷ creation (frame [] [] void) (making.Base 1 [] here) (block [] [])
    ∷ []
    ) []

pub types_row : Row types quiet_world 400 (Made Object ∷ line (codes "1 0 0") ∷ Made Object ∷ []) (Trapped trap.Cast) (record { kind = Object; serial = 1; owners = 1 } ∷ record { kind = Object; serial = 2; owners = 1 } ∷ [])
unfolding Rattle.core_tree.specs.declared.tree.CoreExpr.TheViews.out-CoreStmt denote.Hole.Carrier.out Rattle.core_tree.specs.declared.tree.CoreExpr.TheBlock.shown-the_row-CoreStmt-3 denote.Hole.Carrier.shown denote.Hole.Carrier.hidden Rattle.core_tree.specs.declared.tree.CoreExpr.TheViews.out-CoreExpr Rattle.std.specs.Fmt.digits
types_row = record { says = refl; ends = refl; lives = refl }

-- struct P { public int x; public string n; }
-- void main () {
--   P a = { 1, "a" }; P[] ps = { a, { 2, "b" } }; P[] qs = ps; ps[1].n = "c";
--   print ("%d%s %d%s %s\n", qs[0].x, qs[0].n, qs[1].x, qs[1].n, ps[1].n);
-- }
abbrev pair : VType
pair = owned (shape.Struct 1)

abbrev pairs : Item
pairs = record { shape = item.Struct 1; nullable = false }

abbrev pairs_type : VType
pairs_type = owned (shape.Array pairs)

abbrev new_pair : ℕ → List ℕ → CoreExpr
new_pair x n = moved pair (apply (op.NewStruct 1) (keep int (number x) ∷ copied (literal n) ∷ []))

abbrev element : ℕ → ℕ → CoreExpr
element l n = apply (op.Element pairs) (local l pairs_type ∷ number n ∷ [])

abbrev x_of : CoreExpr → CoreExpr
x_of p = apply (op.Member 0 int) (p ∷ [])

abbrev n_of : CoreExpr → CoreExpr
n_of p = apply (op.Member 1 text) (p ∷ [])

abbrev pub struct_elements : Core
struct_elements =
    program (object_class ∷ declared.Struct (record { cells = int ∷ text ∷ [] }) ∷ []) (
    method (frame [] (pair ∷ pairs_type ∷ pairs_type ∷ []) void) (block (of 0 pair ∷ of 1 pairs_type ∷ of 2 pairs_type ∷ []) (
    set (local 0 pair) (new_pair 1 (codes "a"))
    ∷ set (local 1 pairs_type) (moved pairs_type (apply (op.List pairs) (changed change.CopyStruct pair (local 0 pair) ∷ new_pair 2 (codes "b") ∷ [])))
    ∷ set (local 2 pairs_type) (changed change.CopyArray pairs_type (local 1 pairs_type))
    ∷ assign text (n_of (element 1 1)) (copied (literal (codes "c")))
    ∷ say (codes "%d%s %d%s %s") (x_of (element 2 0) ∷ n_of (element 2 0) ∷ x_of (element 2 1) ∷ n_of (element 2 1) ∷ n_of (element 1 1) ∷ [])
    ∷ []
    ))
    ∷ []
    ) []

pub struct_elements_row : Row struct_elements quiet_world 500 (Made Text ∷ Made Text ∷ Made Text ∷ Made Array ∷ Made Array ∷ Made Text ∷ Made Text ∷ Made Text ∷ Gone 3 ∷ line (codes "1a 2b c") ∷ Gone 6 ∷ Gone 7 ∷ Gone 5 ∷ Gone 2 ∷ Gone 8 ∷ Gone 4 ∷ Gone 1 ∷ []) (Ended (pos 0)) ([])
unfolding Rattle.core_tree.specs.declared.tree.CoreExpr.TheViews.out-CoreStmt denote.Hole.Carrier.out Rattle.core_tree.specs.declared.tree.CoreExpr.TheBlock.shown-the_row-CoreStmt-3 denote.Hole.Carrier.shown denote.Hole.Carrier.hidden Rattle.core_tree.specs.declared.tree.CoreExpr.TheViews.out-CoreExpr Rattle.std.specs.Fmt.digits
struct_elements_row = record { says = refl; ends = refl; lives = refl }

-- class S : Object { public virtual signal void hit () { print ("class\n"); } }
-- void before () { print ("before\n"); } void after () { print ("after\n"); }
-- void main () { S s = new S (); s.hit.connect_after (after); s.hit.connect (before); s.hit (); }
abbrev with_slots : ℕ → ℕ → CoreType
with_slots slot member =
    declared.Class (record { base = Some 0; interfaces = []; is_a = 1 ∷ 0 ∷ []; cells = []; own = 0; initials = []; construct_properties = []; construct_blocks = []; destructor = None; slots = record { slot = slot; member = member } ∷ [] })

abbrev prints : List ℕ → CoreMethod
prints bytes = method (frame [] [] void) (block [] (say bytes [] ∷ []))

abbrev connected : Rattle.std.specs.Prelude.Bool → ℕ → CoreStmt
connected is_after m = run (apply (op.Connect 1 None is_after false true (callee.Static m)) (local 0 (object 1) ∷ []))

abbrev pub phases : Core
phases =
    with_signals (
    program (object_class ∷ with_slots 5 2 ∷ []) (
    method (frame [] (object 1 ∷ []) void) (block (of 0 (object 1) ∷ []) (
    set (local 0 (object 1)) (moved (object 1) (new 1 1 []))
    ∷ connected true 4 ∷ connected false 3
    ∷ run (apply (op.Emit 1) (local 0 (object 1) ∷ []))
    ∷ []
    ))
    ∷ plain_creation ∷ prints (codes "class") ∷ prints (codes "before") ∷ prints (codes "after") ∷ []
    ) []
    ) (notify ∷ signal [] (Some 5) ∷ [])

pub phases_row : Row phases quiet_world 300 (Made Object ∷ line (codes "before") ∷ line (codes "class") ∷ line (codes "after") ∷ Gone 1 ∷ []) (Ended (pos 0)) ([])
unfolding Rattle.core_tree.specs.declared.tree.CoreExpr.TheViews.out-CoreStmt denote.Hole.Carrier.out Rattle.core_tree.specs.declared.tree.CoreExpr.TheBlock.shown-the_row-CoreStmt-3 denote.Hole.Carrier.shown denote.Hole.Carrier.hidden Rattle.core_tree.specs.declared.tree.CoreExpr.TheViews.out-CoreExpr Rattle.std.specs.Fmt.digits
phases_row = record { says = refl; ends = refl; lives = refl }

-- interface I : Object { public abstract int n { get; set; } }
-- class A : Object, I { public int n { get; set; } }
-- void main () { I i = new A (); i.notify["n"].connect (() => { print ("n\n"); }); i.n = 2; print ("%d\n", i.n); }
abbrev property : Rattle.core_tree.specs.declared.types.Accessor.TheVariants.the_data → Option ℕ → Option ℕ → CoreProperty
property accessor get set_ = record { name = codes "n"; kind = int; declared_in = 1; symbol = 0; getter = accessor; is_get_owned = false; get_slot = get; setter = accessor; set_slot = set_; is_construct = false; default = [] }

abbrev implementing : CoreType
implementing =
    declared.Class (record {
      base = Some 0;
      interfaces = 2 ∷ [];
      is_a = 1 ∷ 0 ∷ 2 ∷ [];
      cells = int ∷ [];
      own = 0;
      initials = [];
      construct_properties = [];
      construct_blocks = [];
      destructor = None;
      slots = record { slot = 6; member = 1 } ∷ record { slot = 7; member = 1 } ∷ [];
    })

abbrev interface_type : VType
interface_type = owned (shape.Interface 2)

abbrev n_through : CoreExpr
n_through = apply (op.Property 0) (local 0 interface_type ∷ [])

abbrev pub property_of_interface : Core
property_of_interface =
    with_signals (with_properties (
    program (object_class ∷ implementing ∷ interface 2 ∷ []) (
    method (frame [] (interface_type ∷ []) void) (block (of 0 interface_type ∷ []) (
    set (local 0 interface_type) (moved interface_type (new 1 1 []))
    ∷ run (apply (op.Connect 0 (Some (codes "n")) false false false (callee.Delegate None)) (local 0 interface_type ∷ lambda_at 1 bound.Nothing (say (codes "n") [] ∷ []) ∷ []))
    ∷ assign int n_through (keep int (number 2))
    ∷ say (codes "%d") (n_through ∷ [])
    ∷ []
    ))
    ∷ plain_creation ∷ []
    ) []
    ) (property access.Missing (Some 6) (Some 7) ∷ property (access.Automatic 0) None None ∷ [])) (notify ∷ [])

pub property_of_interface_row : Row property_of_interface quiet_world 300 (Made Object ∷ line (codes "n") ∷ line (codes "2") ∷ Gone 1 ∷ []) (Ended (pos 0)) ([])
unfolding Rattle.core_tree.specs.declared.tree.CoreExpr.TheViews.out-CoreStmt denote.Hole.Carrier.out Rattle.core_tree.specs.declared.tree.CoreExpr.TheBlock.shown-the_row-CoreStmt-3 denote.Hole.Carrier.shown denote.Hole.Carrier.hidden Rattle.core_tree.specs.declared.tree.CoreExpr.TheViews.out-CoreExpr Rattle.std.specs.Fmt.digits
property_of_interface_row = record { says = refl; ends = refl; lives = refl }

-- void main () { MainLoop l = new MainLoop (); int n = 0; Timeout.add (5, () => { n++; print ("%d\n", n); if (n == 3) l.quit (); return true; }); l.run (); }
abbrev held_by : ScopeAt
held_by = record { via = via.Hold 0; outward = 0 }

abbrev at_target : ScopeAt
at_target = record { via = via.Target; outward = 0 }

abbrev var : ScopeAt → ℕ → VType → CoreExpr
var at n type = apply (op.Captured at n type) []

abbrev pub timeout_stays : Core
timeout_stays =
    program (object_class ∷ []) (
    method (frame [] (object 0 ∷ []) void) (
    st.Block [] (record { hold = 0; variables = object 0 ∷ int ∷ []; outer = None; this = None; parameters = [] } ∷ []) (
    set (var held_by 0 (object 0)) (moved (object 0) (apply (op.Loop loop.New) []))
    ∷ set (var held_by 1 int) (keep int (number 0))
    ∷ run (apply (op.Loop loop.TimeoutAdd) (number 5 ∷ moved act (
    e.Lambda (bound_to (frame [] [] (owned shape.Bool)) (bound.Captures held_by)) (block [] (
    counted (var at_target 1 int)
    ∷ say (codes "%d") (var at_target 1 int ∷ [])
    ∷ st.If (equal (var at_target 1 int) 3) (run (apply (op.Loop loop.Quit) (var at_target 0 (object 0) ∷ []))) none here
    ∷ st.Return (number 1 ∷ []) here
    ∷ []
    )) here
    ) ∷ []))
    ∷ run (apply (op.Loop loop.Run) (var held_by 0 (object 0) ∷ []))
    ∷ []
    ) here
    )
    ∷ []
    ) []

pub timeout_stays_row : Row timeout_stays quiet_world 500 (Made Scope ∷ Made Object ∷ Dispatch 1 ∷ line (codes "1") ∷ Dispatch 1 ∷ line (codes "2") ∷ Dispatch 1 ∷ line (codes "3") ∷ []) (Ended (pos 0)) (record { kind = Scope; serial = 1; owners = 1 } ∷ record { kind = Object; serial = 2; owners = 1 } ∷ [])
unfolding Rattle.core_tree.specs.declared.tree.CoreExpr.TheViews.out-CoreStmt denote.Hole.Carrier.out Rattle.core_tree.specs.declared.tree.CoreExpr.TheBlock.shown-the_row-CoreStmt-3 denote.Hole.Carrier.shown denote.Hole.Carrier.hidden Rattle.core_tree.specs.declared.tree.CoreExpr.TheViews.out-CoreExpr Rattle.std.specs.Fmt.digits
timeout_stays_row = record { says = refl; ends = refl; lives = refl }
