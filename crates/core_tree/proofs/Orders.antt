-- Which of two things comes first: parameters and scopes, properties, `out` places, receivers, errors.
use Rattle.std.specs.Prelude.{refl, ℕ, true, false, List, [], ◌∷◌, Some, None, codes, pos}
use Rattle.vg_base.specs.declared.event.Event.TheVariants.{Made, Gone}
use Rattle.vg_base.specs.declared.event.ThingKind.TheVariants.{Object, Text, Array, Scope, Error}
use Rattle.vg_base.specs.declared.event.TrapKind.TheVariants as trap
use Rattle.vg_base.specs.declared.event.VEnd.TheVariants.{Ended, Trapped, Dead}
use Rattle.vala_types.specs.declared.types.Item.{Item}
use Rattle.vala_types.specs.declared.types.ItemShape.TheVariants as item
use Rattle.vala_types.specs.declared.types.Shape.TheVariants as shape
use Rattle.vala_types.specs.declared.types.VType.{VType}
use Rattle.vala_types.specs.declared.owners.Change.TheVariants as change
use Rattle.core_tree.specs.declared.program.Core.{Core}
use Rattle.core_tree.specs.declared.lambda.Mode.TheVariants as mode
use Rattle.core_tree.specs.declared.lambda.ScopeAt.{ScopeAt}
use Rattle.core_tree.specs.declared.lambda.Target.TheVariants as bound
use Rattle.core_tree.specs.declared.lambda.Via.TheVariants as via
use Rattle.core_tree.specs.declared.operation.Operation.TheVariants as op
use Rattle.core_tree.specs.declared.tree.CoreExpr.{CoreExpr}
use Rattle.core_tree.specs.declared.tree.CoreExpr.TheVariants as e
use Rattle.core_tree.specs.declared.tree.CoreStmt.{CoreStmt}
use Rattle.core_tree.specs.declared.tree.CoreStmt.TheVariants as st
use Rattle.core_tree.specs.declared.types.Accessor.{Accessor}
use Rattle.core_tree.specs.declared.types.Accessor.TheVariants as access
use Rattle.core_tree.specs.declared.types.CoreProperty.{CoreProperty}
use Rattle.core_tree.specs.declared.types.CoreType.{CoreType}
use Rattle.core_tree.specs.declared.types.CoreType.TheVariants as declared
use Rattle.core_tree.specs.declared.types.Making.TheVariants as making
use Rattle.core_tree.specs.declared.values.Callee.TheVariants as callee
use Rattle.core_tree.specs.declared.values.Comparison.TheVariants as compare
use Rattle.core_tree.specs.declared.values.Part.TheVariants as part
use Rattle.core_tree.proofs.Build.{Row, here, owned, unowned, void, int, text, object, apply, number, literal, null, local, static, this, field, changed, place, assign, set, run, say, of, block, frame, by_value, method, creation, plain_creation, object_class, class, static_field, program, with_properties, with_signals, notify, quiet_world, new, call, call_on, line, text_param, keep, moved, copied, lambda_at, act, error_type, parameter, call_by}

abbrev held_by : ℕ → ScopeAt
held_by n = record { via = via.Hold n; outward = 0 }

abbrev at_target : ScopeAt
at_target = record { via = via.Target; outward = 0 }

abbrev var : ScopeAt → ℕ → VType → CoreExpr
var at n kind = apply (op.Captured at n kind) []

-- a class with this base and these cells and no more
abbrev under : ℕ → ℕ → List VType → ℕ → CoreType
under n base cells own =
    declared.Class (record { base = Some base; interfaces = []; is_a = n ∷ base ∷ 0 ∷ []; cells = cells; own = own; initials = []; construct_properties = []; construct_blocks = []; destructor = None; slots = [] })

-- struct P { public string n; }
-- void f (P p) { Act a = () => { print ("%s\n", p.n); }; a (); }
-- void main () { P p = P (); p.n = "q"; f (p); }
abbrev pair : VType
pair = owned (shape.Struct 1)

abbrev name_of : CoreExpr → CoreExpr
name_of p = apply (op.Member 0 text) (p ∷ [])

abbrev pub captured_struct : Core
captured_struct =
    program (object_class ∷ declared.Struct (record { cells = text ∷ [] }) ∷ []) (
    method (frame [] (pair ∷ []) void) (block (of 0 pair ∷ []) (
    set (local 0 pair) (moved pair (apply (op.NewStruct 1) []))
    ∷ assign text (name_of (local 0 pair)) (copied (literal (codes "q")))
    ∷ run (call 1 (changed change.CopyStruct pair (local 0 pair) ∷ []))
    ∷ []
    ))
    ∷ method (frame (by_value pair ∷ []) (object 0 ∷ act ∷ []) void) (
    st.Block (of 2 act ∷ []) (record { hold = 1; variables = pair ∷ []; outer = None; this = None; parameters = record { local = 0; variable = 0; kind = pair; change = change.Move } ∷ [] } ∷ []) (
    set (local 2 act) (moved act (lambda_at 1 (bound.Captures (held_by 1)) (say (codes "%s") (name_of (var at_target 0 pair) ∷ []) ∷ [])))
    ∷ run (call_by (callee.Delegate (Some 9)) (local 2 act ∷ []))
    ∷ []
    ) here
    )
    ∷ []
    ) []

pub captured_struct_row : Row captured_struct quiet_world 300 (Made Text ∷ Made Text ∷ Made Scope ∷ line (codes "q") ∷ Gone 2 ∷ Gone 3 ∷ Gone 1 ∷ []) (Ended (pos 0)) ([])
unfolding Rattle.core_tree.specs.declared.tree.CoreExpr.TheViews.out-CoreStmt denote.Hole.Carrier.out Rattle.core_tree.specs.declared.tree.CoreExpr.TheBlock.shown-the_row-CoreStmt-3 denote.Hole.Carrier.shown denote.Hole.Carrier.hidden Rattle.core_tree.specs.declared.tree.CoreExpr.TheViews.out-CoreExpr Rattle.std.specs.Fmt.digits
captured_struct_row = record { says = refl; ends = refl; lives = refl }

-- class P : Object { public string? n { get { return null; } construct { print ("set %s\n", value); } } public int k { get; construct; } }
-- void main () { P p = new P (); print ("%d\n", p.k); }
abbrev property : List ℕ → VType → Accessor → Accessor → CoreProperty
property name kind getter setter =
    record { name = name; kind = kind; declared_in = 1; symbol = 0; getter = getter; is_get_owned = false; get_slot = None; setter = setter; set_slot = None; is_construct = true; default = [] }

abbrev pub nothing_given : Core
nothing_given =
    with_signals (with_properties (
    program (object_class ∷ declared.Class (record { base = Some 0; interfaces = []; is_a = 1 ∷ 0 ∷ []; cells = int ∷ []; own = 0; initials = []; construct_properties = 0 ∷ 1 ∷ []; construct_blocks = []; destructor = None; slots = [] }) ∷ []) (
    method (frame [] (object 1 ∷ []) void) (block (of 0 (object 1) ∷ []) (
    set (local 0 (object 1)) (moved (object 1) (new 1 1 [])) ∷ say (codes "%d") (apply (op.Property 1) (local 0 (object 1) ∷ []) ∷ []) ∷ []
    ))
    ∷ plain_creation
    ∷ method (frame (text_param ∷ []) [] void) (block [] (say (codes "set %s") (local 0 (unowned shape.Text) ∷ []) ∷ []))
    ∷ method (frame [] [] (unowned shape.Text)) (block [] (st.Return (keep (unowned shape.Text) null ∷ []) here ∷ []))
    ∷ []
    ) []
    ) (property (codes "n") (unowned shape.Text) (access.Written 3) (access.Written 2) ∷ property (codes "k") int (access.Automatic 0) (access.Automatic 0) ∷ [])) (notify ∷ [])

pub nothing_given_row : Row nothing_given quiet_world 300 (Made Object ∷ line (codes "set (null)") ∷ line (codes "0") ∷ Gone 1 ∷ []) (Ended (pos 0)) ([])
unfolding Rattle.core_tree.specs.declared.tree.CoreExpr.TheViews.out-CoreStmt denote.Hole.Carrier.out Rattle.core_tree.specs.declared.tree.CoreExpr.TheBlock.shown-the_row-CoreStmt-3 denote.Hole.Carrier.shown denote.Hole.Carrier.hidden Rattle.core_tree.specs.declared.tree.CoreExpr.TheViews.out-CoreExpr Rattle.std.specs.Fmt.digits
nothing_given_row = record { says = refl; ends = refl; lives = refl }

-- class A : Object { public A (string? s) { print ("%s\n", s == null ? "null" : s); } }
-- class B : A { public B (out string? o) { base (keep); o = "o"; } }
-- unowned string? keep;
-- void main () { string? t = "t"; keep = t; B b = new B (out t); }
abbrev lent : VType
lent = unowned shape.Text

abbrev pub out_before_base : Core
out_before_base =
    program (object_class ∷ under 1 0 [] 0 ∷ under 2 1 [] 0 ∷ []) (
    method (frame [] (text ∷ object 2 ∷ []) void) (block (of 0 text ∷ of 1 (object 2) ∷ []) (
    set (local 0 text) (copied (literal (codes "t")))
    ∷ assign lent (static 0 lent) (keep lent (local 0 text))
    ∷ set (local 1 (object 2)) (moved (object 2) (new 2 2 (place (local 0 text) ∷ [])))
    ∷ []
    ))
    ∷ creation (frame (text_param ∷ []) [] void) (making.Object []) (block [] (
    say (codes "%s") (e.Choice (apply (op.CompareTexts compare.Equal) (local 0 lent ∷ null ∷ [])) (literal (codes "null")) (local 0 lent) here ∷ []) ∷ []
    ))
    ∷ creation (frame (parameter text mode.Out ∷ []) [] void) (making.Base 1 (keep lent (static 0 lent) ∷ []) here) (block [] (
    assign text (local 0 text) (copied (literal (codes "o"))) ∷ []
    ))
    ∷ []
    ) (static_field lent ∷ [])

pub out_before_base_row : Row out_before_base quiet_world 300 (Made Text ∷ Gone 1 ∷ Made Object ∷ []) Dead (record { kind = Object; serial = 2; owners = 1 } ∷ [])
unfolding Rattle.core_tree.specs.declared.tree.CoreExpr.TheViews.out-CoreStmt denote.Hole.Carrier.out Rattle.core_tree.specs.declared.tree.CoreExpr.TheBlock.shown-the_row-CoreStmt-3 denote.Hole.Carrier.shown denote.Hole.Carrier.hidden Rattle.core_tree.specs.declared.tree.CoreExpr.TheViews.out-CoreExpr Rattle.std.specs.Fmt.digits
out_before_base_row = record { says = refl; ends = refl; lives = refl }

-- class C : Object { public void f (int x) { print ("f\n"); } ~C () { print ("~C\n"); } }
-- C? held;
-- int clear () { held = null; return 1; }
-- void main () { held = new C (); held.f (clear ()); }
abbrev pub receiver_ends : Core
receiver_ends =
    program (object_class ∷ class 1 [] [] (Some 2) ∷ []) (
    method (frame [] [] void) (block [] (
    assign (object 1) (static 0 (object 1)) (moved (object 1) (new 1 1 [])) ∷ run (call_on (static 0 (object 1)) 3 (keep int (call 4 []) ∷ [])) ∷ []
    ))
    ∷ plain_creation
    ∷ method (frame [] [] void) (block [] (say (codes "~C") [] ∷ []))
    ∷ method (frame (by_value int ∷ []) [] void) (block [] (say (codes "f") [] ∷ []))
    ∷ method (frame [] [] int) (block [] (assign (object 1) (static 0 (object 1)) (keep (object 1) null) ∷ st.Return (keep int (number 1) ∷ []) here ∷ []))
    ∷ []
    ) (static_field (object 1) ∷ [])

pub receiver_ends_row : Row receiver_ends quiet_world 200 (Made Object ∷ line (codes "~C") ∷ Gone 1 ∷ []) Dead ([])
unfolding Rattle.core_tree.specs.declared.tree.CoreExpr.TheViews.out-CoreStmt denote.Hole.Carrier.out Rattle.core_tree.specs.declared.tree.CoreExpr.TheBlock.shown-the_row-CoreStmt-3 denote.Hole.Carrier.shown denote.Hole.Carrier.hidden Rattle.core_tree.specs.declared.tree.CoreExpr.TheViews.out-CoreExpr Rattle.std.specs.Fmt.digits
receiver_ends_row = record { says = refl; ends = refl; lives = refl }

-- void f () throws E { try { throw new E.A ("a"); } catch (E e) { throw e; } }
-- void main () { try { f (); } catch (E e) { print ("%s\n", e.message); } }
abbrev caught : List CoreStmt → CoreStmt
caught body = st.Catch (Some 8) None (local 0 error_type ∷ []) (block (of 0 error_type ∷ []) body) here

abbrev pub thrown_again : Core
thrown_again =
    program (object_class ∷ []) (
    method (frame [] (error_type ∷ []) void) (block [] (
    st.Try (block [] (run (call 1 []) ∷ [])) (caught (say (codes "%s") (apply (op.Part part.ErrorMessage) (local 0 error_type ∷ []) ∷ []) ∷ []) ∷ []) [] here ∷ []
    ))
    ∷ method (frame [] (error_type ∷ []) void) (block [] (
    st.Try (block [] (st.Throw (moved error_type (apply (op.NewError 8 (pos 0) (codes "a")) [])) here ∷ []))
    (caught (st.Throw (changed change.CopyError error_type (local 0 error_type)) here ∷ []) ∷ []) [] here
    ∷ []
    ))
    ∷ []
    ) []

pub thrown_again_row : Row thrown_again quiet_world 200 (Made Error ∷ Made Error ∷ Gone 1 ∷ line (codes "a") ∷ Gone 2 ∷ []) (Ended (pos 0)) ([])
unfolding Rattle.core_tree.specs.declared.tree.CoreExpr.TheViews.out-CoreStmt denote.Hole.Carrier.out Rattle.core_tree.specs.declared.tree.CoreExpr.TheBlock.shown-the_row-CoreStmt-3 denote.Hole.Carrier.shown denote.Hole.Carrier.hidden Rattle.core_tree.specs.declared.tree.CoreExpr.TheViews.out-CoreExpr Rattle.std.specs.Fmt.digits
thrown_again_row = record { says = refl; ends = refl; lives = refl }

-- class A : Object { public int n { get; set; } public A () { print ("A rest\n"); } }
-- class B : A { public B () { Object (n: 3); print ("B rest %d\n", this.n); } }
-- void main () { B b = new B (); }
abbrev pub past_the_base : Core
past_the_base =
    with_signals (with_properties (
    program (object_class ∷ under 1 0 (int ∷ []) 0 ∷ under 2 1 (int ∷ []) 1 ∷ []) (
    method (frame [] (object 2 ∷ []) void) (block (of 0 (object 2) ∷ []) (set (local 0 (object 2)) (moved (object 2) (new 2 2 [])) ∷ []))
    ∷ creation (frame [] [] void) (making.Object []) (block [] (say (codes "A rest") [] ∷ []))
    ∷ creation (frame [] [] void) (making.Object (record { property = 0; value = keep int (number 3) } ∷ [])) (block [] (say (codes "B rest %d") (apply (op.Property 0) (this ∷ []) ∷ []) ∷ []))
    ∷ []
    ) []
    ) (record (property (codes "n") int (access.Automatic 0) (access.Automatic 0)) { is_construct = false } ∷ [])) (notify ∷ [])

pub past_the_base_row : Row past_the_base quiet_world 200 (Made Object ∷ line (codes "B rest 3") ∷ Gone 1 ∷ []) (Ended (pos 0)) ([])
unfolding Rattle.core_tree.specs.declared.tree.CoreExpr.TheViews.out-CoreStmt denote.Hole.Carrier.out Rattle.core_tree.specs.declared.tree.CoreExpr.TheBlock.shown-the_row-CoreStmt-3 denote.Hole.Carrier.shown denote.Hole.Carrier.hidden Rattle.core_tree.specs.declared.tree.CoreExpr.TheViews.out-CoreExpr Rattle.std.specs.Fmt.digits
past_the_base_row = record { says = refl; ends = refl; lives = refl }

-- struct P { public int x; } class C : Object { public P p; public int n; }
-- int f () { print ("f\n"); return 1; }
-- void main () { C? c = null; c.p.x = f (); }
-- and with `c.n = f ()`: the place is tested by the store
abbrev of_null : CoreExpr → Core
of_null target =
    program (object_class ∷ declared.Struct (record { cells = int ∷ [] }) ∷ class 2 (int ∷ int ∷ []) [] None ∷ []) (
    method (frame [] (object 2 ∷ []) void) (block (of 0 (object 2) ∷ []) (
    set (local 0 (object 2)) (keep (object 2) null) ∷ assign int target (keep int (call 1 [])) ∷ []
    ))
    ∷ method (frame [] [] int) (block [] (say (codes "f") [] ∷ st.Return (keep int (number 1) ∷ []) here ∷ []))
    ∷ []
    ) []

abbrev pub member_of_null : Core
member_of_null = of_null (apply (op.Member 0 int) (field (local 0 (object 2)) 0 pair ∷ []))

abbrev pub field_of_null : Core
field_of_null = of_null (field (local 0 (object 2)) 1 int)

pub member_of_null_row : Row member_of_null quiet_world 100 (line (codes "f") ∷ []) (Trapped trap.Null) ([])
unfolding Rattle.core_tree.specs.declared.tree.CoreExpr.TheViews.out-CoreStmt denote.Hole.Carrier.out Rattle.core_tree.specs.declared.tree.CoreExpr.TheBlock.shown-the_row-CoreStmt-3 denote.Hole.Carrier.shown denote.Hole.Carrier.hidden Rattle.core_tree.specs.declared.tree.CoreExpr.TheViews.out-CoreExpr Rattle.std.specs.Fmt.digits
member_of_null_row = record { says = refl; ends = refl; lives = refl }

pub field_of_null_row : Row field_of_null quiet_world 100 (line (codes "f") ∷ []) (Trapped trap.Null) ([])
unfolding Rattle.core_tree.specs.declared.tree.CoreExpr.TheViews.out-CoreStmt denote.Hole.Carrier.out Rattle.core_tree.specs.declared.tree.CoreExpr.TheBlock.shown-the_row-CoreStmt-3 denote.Hole.Carrier.shown denote.Hole.Carrier.hidden Rattle.core_tree.specs.declared.tree.CoreExpr.TheViews.out-CoreExpr Rattle.std.specs.Fmt.digits
field_of_null_row = record { says = refl; ends = refl; lives = refl }

-- struct P { public int x; } class C : Object { public void f (ref int a) { } }
-- void main () { C? c = null; P[] a = new P[0]; c.f (ref a[9].x); }
-- the place is found by the call, so the null receiver comes before the index
abbrev numbers : Item
numbers = record { shape = item.Struct 1; nullable = false }

abbrev list : VType
list = owned (shape.Array numbers)

abbrev pub member_by_reference : Core
member_by_reference =
    program (object_class ∷ declared.Struct (record { cells = int ∷ [] }) ∷ class 2 [] [] None ∷ []) (
    method (frame [] (object 2 ∷ list ∷ []) void) (block (of 0 (object 2) ∷ of 1 list ∷ []) (
    set (local 0 (object 2)) (keep (object 2) null)
    ∷ set (local 1 list) (moved list (apply (op.NewArray numbers) (number 0 ∷ [])))
    ∷ run (call_on (local 0 (object 2)) 1 (place (apply (op.Member 0 int) (apply (op.Element numbers) (local 1 list ∷ number 9 ∷ []) ∷ [])) ∷ []))
    ∷ []
    ))
    ∷ method (frame (parameter int mode.Ref ∷ []) [] void) (block [] [])
    ∷ []
    ) []

pub member_by_reference_row : Row member_by_reference quiet_world 100 (Made Array ∷ []) (Trapped trap.Null) (record { kind = Array; serial = 1; owners = 1 } ∷ [])
unfolding Rattle.core_tree.specs.declared.tree.CoreExpr.TheViews.out-CoreStmt denote.Hole.Carrier.out Rattle.core_tree.specs.declared.tree.CoreExpr.TheBlock.shown-the_row-CoreStmt-3 denote.Hole.Carrier.shown denote.Hole.Carrier.hidden Rattle.core_tree.specs.declared.tree.CoreExpr.TheViews.out-CoreExpr Rattle.std.specs.Fmt.digits
member_by_reference_row = record { says = refl; ends = refl; lives = refl }
