-- Making and ending objects: temporaries of bases, errors, emissions of what is ending, and properties.
use Rattle.std.specs.Prelude.{refl, ℕ, Bool, true, false, List, [], ◌∷◌, ◌++◌, Option, Some, None, codes, pos}
use Rattle.vg_base.specs.declared.event.Event.TheVariants.{Made, Gone}
use Rattle.vg_base.specs.declared.event.ThingKind.TheVariants.{Object, Text, Error}
use Rattle.vg_base.specs.declared.event.VEnd.TheVariants.{Ended, Dead}
use Rattle.vala_types.specs.declared.types.IntKind.TheVariants as kind
use Rattle.vala_types.specs.declared.types.Shape.TheVariants as shape
use Rattle.vala_types.specs.declared.types.VType.{VType}
use Rattle.vala_types.specs.declared.owners.Change.TheVariants as change
use Rattle.core_tree.specs.declared.program.Core.{Core}
use Rattle.core_tree.specs.declared.lambda.Target.TheVariants as bound
use Rattle.core_tree.specs.declared.operation.Operation.TheVariants as op
use Rattle.core_tree.specs.declared.tree.CoreExpr.{CoreExpr}
use Rattle.core_tree.specs.declared.tree.CoreExpr.TheVariants as e
use Rattle.core_tree.specs.declared.tree.CoreStmt.TheVariants as st
use Rattle.core_tree.specs.declared.types.Accessor.TheVariants as access
use Rattle.core_tree.specs.declared.types.Making.TheVariants as making
use Rattle.core_tree.specs.declared.values.Arithmetic.TheVariants as arithmetic
use Rattle.core_tree.specs.declared.values.Callee.TheVariants as callee
use Rattle.core_tree.specs.declared.values.Part.TheVariants as part
use Rattle.core_tree.specs.declared.values.TextCall.TheVariants as call_of
use Rattle.core_tree.proofs.Build.{Row, here, owned, unowned, void, int, text, object, apply, number, literal, null, local, static, this, field, changed, place, assign, set, run, say, of, block, frame, by_value, method, creation, plain_creation, object_class, class, static_field, program, with_properties, with_signals, notify, quiet_world, new, line, keep, moved, copied, told_type, told_methods, told_name, by_text, lambda_at, error_type, signal}
use Rattle.core_tree.specs.declared.types.CoreProperty.{CoreProperty}
use Rattle.core_tree.specs.declared.types.CoreType.TheVariants as declared
use Rattle.core_tree.specs.declared.types.CoreType.{CoreType}

abbrev lent : VType
lent = unowned (shape.Class 1)

-- a class with a base, cells of which its own begin there, and a destructor
abbrev derived : ℕ → ℕ → List VType → ℕ → Option ℕ → List ℕ → CoreType
derived n base cells own destructor constructs =
    declared.Class (record { base = Some base; interfaces = []; is_a = n ∷ base ∷ 0 ∷ []; cells = cells; own = own; initials = []; construct_properties = constructs; construct_blocks = []; destructor = destructor; slots = [] })

-- a property with a text that both accessors reach by themselves
abbrev text_property : ℕ → Bool → CoreProperty
text_property cell is_construct =
    record {
      name = codes "n";
      kind = text;
      declared_in = 1;
      symbol = 0;
      getter = access.Automatic cell;
      is_get_owned = false;
      get_slot = None;
      setter = access.Automatic cell;
      set_slot = None;
      is_construct = is_construct;
      default = [];
    }

-- class A : Object { public string n { get; set construct; } public A (T t) { Object (n: t.n + "!"); print ("A rest %s\n", t.n); } }
-- class B : A { public B () { base (new T ("arg")); print ("B rest\n"); } }
-- void main () { B b = new B (); print ("%s\n", b.n); }
abbrev pub temporaries_of_base : Core
temporaries_of_base =
    with_signals (with_properties (
    program (object_class ∷ told_type ∷ derived 2 0 (text ∷ []) 0 None (0 ∷ []) ∷ derived 3 2 (text ∷ []) 1 None [] ∷ []) (
    method (frame [] (object 3 ∷ []) void) (block (of 0 (object 3) ∷ []) (
    set (local 0 (object 3)) (moved (object 3) (new 3 4 []))
    ∷ say (codes "%s") (apply (op.Property 0) (local 0 (object 3) ∷ []) ∷ [])
    ∷ []
    ))
    ∷ told_methods
    ++ creation (frame (by_value lent ∷ []) [] void) (making.Object (
    record { property = 0; value = apply (op.TextFunction call_of.Concatenate) (told_name (local 0 lent) ∷ literal (codes "!") ∷ []) } ∷ []
    )) (block [] (say (codes "A rest %s") (told_name (local 0 lent) ∷ []) ∷ []))
    ∷ creation (frame [] [] void) (making.Base 3 (keep lent (new 1 1 (by_text (codes "arg") ∷ [])) ∷ []) here) (block [] (say (codes "B rest") [] ∷ []))
    ∷ []
    ) []
    ) (text_property 0 true ∷ [])) (notify ∷ [])

pub temporaries_of_base_row : Row temporaries_of_base quiet_world 500 (Made Object ∷ Made Text ∷ Made Text ∷ Made Object ∷ Made Text ∷ Gone 3 ∷ line (codes "A rest arg") ∷ line (codes "~arg") ∷ Gone 2 ∷ Gone 1 ∷ line (codes "B rest") ∷ line (codes "arg!") ∷ Gone 5 ∷ Gone 4 ∷ []) (Ended (pos 0)) ([])
unfolding Rattle.core_tree.specs.declared.tree.CoreExpr.TheViews.out-CoreStmt denote.Hole.Carrier.out Rattle.core_tree.specs.declared.tree.CoreExpr.TheBlock.shown-the_row-CoreStmt-3 denote.Hole.Carrier.shown denote.Hole.Carrier.hidden Rattle.core_tree.specs.declared.tree.CoreExpr.TheViews.out-CoreExpr Rattle.std.specs.Fmt.digits
temporaries_of_base_row = record { says = refl; ends = refl; lives = refl }

-- class A : Object { public A (T t) throws E { print ("A rest\n"); throw new E.BAD ("x"); } ~A () { print ("~A\n"); } }
-- class B : A { public B () throws E { base (new T ("arg")); print ("B rest\n"); } ~B () { print ("~B\n"); } }
-- void main () { try { B b = new B (); } catch (E e) { print ("%s\n", e.message); } }
abbrev pub making_throws : Core
making_throws =
    program (object_class ∷ told_type ∷ derived 2 0 [] 0 (Some 5) [] ∷ derived 3 2 [] 0 (Some 6) [] ∷ []) (
    method (frame [] (object 3 ∷ error_type ∷ []) void) (block [] (
    st.Try (block (of 0 (object 3) ∷ []) (set (local 0 (object 3)) (moved (object 3) (new 3 4 [])) ∷ []))
    (st.Catch (Some 8) None (local 1 error_type ∷ []) (block (of 1 error_type ∷ []) (say (codes "%s") (apply (op.Part part.ErrorMessage) (local 1 error_type ∷ []) ∷ []) ∷ [])) here ∷ []) [] here
    ∷ []
    ))
    ∷ told_methods
    ++ creation (frame (by_value lent ∷ []) [] void) (making.Object []) (block [] (
    say (codes "A rest") [] ∷ st.Throw (moved error_type (apply (op.NewError 8 (pos 0) (codes "x")) [])) here ∷ []
    ))
    ∷ creation (frame [] [] void) (making.Base 3 (keep lent (new 1 1 (by_text (codes "arg") ∷ [])) ∷ []) here) (block [] (say (codes "B rest") [] ∷ []))
    ∷ method (frame [] [] void) (block [] (say (codes "~A") [] ∷ []))
    ∷ method (frame [] [] void) (block [] (say (codes "~B") [] ∷ []))
    ∷ []
    ) []

pub making_throws_row : Row making_throws quiet_world 500 (Made Object ∷ Made Text ∷ Made Object ∷ line (codes "A rest") ∷ Made Error ∷ line (codes "~B") ∷ line (codes "~A") ∷ Gone 3 ∷ line (codes "~arg") ∷ Gone 2 ∷ Gone 1 ∷ line (codes "x") ∷ Gone 4 ∷ []) (Ended (pos 0)) ([])
unfolding Rattle.core_tree.specs.declared.tree.CoreExpr.TheViews.out-CoreStmt denote.Hole.Carrier.out Rattle.core_tree.specs.declared.tree.CoreExpr.TheBlock.shown-the_row-CoreStmt-3 denote.Hole.Carrier.shown denote.Hole.Carrier.hidden Rattle.core_tree.specs.declared.tree.CoreExpr.TheViews.out-CoreExpr Rattle.std.specs.Fmt.digits
making_throws_row = record { says = refl; ends = refl; lives = refl }

-- class S : Object { public signal void bye (); ~S () { print ("in\n"); this.bye (); print ("out\n"); } }
-- void main () { S s = new S (); s.bye.connect (() => { print ("heard\n"); }); }
abbrev pub emission_while_ending : Core
emission_while_ending =
    with_signals (
    program (object_class ∷ class 1 [] [] (Some 2) ∷ []) (
    method (frame [] (object 1 ∷ []) void) (block (of 0 (object 1) ∷ []) (
    set (local 0 (object 1)) (moved (object 1) (new 1 1 []))
    ∷ run (apply (op.Connect 1 None false false false (callee.Delegate None)) (local 0 (object 1) ∷ lambda_at 1 bound.Nothing (say (codes "heard") [] ∷ []) ∷ []))
    ∷ []
    ))
    ∷ plain_creation
    ∷ method (frame [] [] void) (block [] (say (codes "in") [] ∷ run (apply (op.Emit 1) (this ∷ [])) ∷ say (codes "out") [] ∷ []))
    ∷ []
    ) []
    ) (notify ∷ signal [] None ∷ [])

pub emission_while_ending_row : Row emission_while_ending quiet_world 200 (Made Object ∷ line (codes "in") ∷ []) Dead (record { kind = Object; serial = 1; owners = 0 } ∷ [])
unfolding Rattle.core_tree.specs.declared.tree.CoreExpr.TheViews.out-CoreStmt denote.Hole.Carrier.out Rattle.core_tree.specs.declared.tree.CoreExpr.TheBlock.shown-the_row-CoreStmt-3 denote.Hole.Carrier.shown denote.Hole.Carrier.hidden Rattle.core_tree.specs.declared.tree.CoreExpr.TheViews.out-CoreExpr Rattle.std.specs.Fmt.digits
emission_while_ending_row = record { says = refl; ends = refl; lives = refl }

-- class P : Object { public string n { get; set; } }
-- void main () { P p = new P (); p.n = "a" + "b"; print ("%s\n", p.n); }
abbrev pub fresh_property : Core
fresh_property =
    with_signals (with_properties (
    program (object_class ∷ class 1 (text ∷ []) [] None ∷ []) (
    method (frame [] (object 1 ∷ []) void) (block (of 0 (object 1) ∷ []) (
    set (local 0 (object 1)) (moved (object 1) (new 1 1 []))
    ∷ assign text (apply (op.Property 0) (local 0 (object 1) ∷ [])) (keep (unowned shape.Text) (apply (op.TextFunction call_of.Concatenate) (literal (codes "a") ∷ literal (codes "b") ∷ [])))
    ∷ say (codes "%s") (apply (op.Property 0) (local 0 (object 1) ∷ []) ∷ [])
    ∷ []
    ))
    ∷ plain_creation
    ∷ []
    ) []
    ) (text_property 0 false ∷ [])) (notify ∷ [])

pub fresh_property_row : Row fresh_property quiet_world 300 (Made Object ∷ Made Text ∷ Made Text ∷ Gone 2 ∷ line (codes "ab") ∷ Gone 3 ∷ Gone 1 ∷ []) (Ended (pos 0)) ([])
unfolding Rattle.core_tree.specs.declared.tree.CoreExpr.TheViews.out-CoreStmt denote.Hole.Carrier.out Rattle.core_tree.specs.declared.tree.CoreExpr.TheBlock.shown-the_row-CoreStmt-3 denote.Hole.Carrier.shown denote.Hole.Carrier.hidden Rattle.core_tree.specs.declared.tree.CoreExpr.TheViews.out-CoreExpr Rattle.std.specs.Fmt.digits
fresh_property_row = record { says = refl; ends = refl; lives = refl }

-- class P : Object { int f; public int n { get { print ("get\n"); return this.f; } set { print ("set\n"); this.f = value * 2; } } }
-- void main () { P p = new P (); int y = (p.n = 3); print ("%d\n", y); print ("%d\n", p.n++); print ("%d\n", ++p.n); }
abbrev p_n : CoreExpr
p_n = apply (op.Property 0) (local 0 (object 1) ∷ [])

abbrev step_of : Bool → CoreExpr
step_of is_postfix = apply (op.Increment arithmetic.Add kind.Int32 is_postfix true) (e.PlaceAndValue p_n here ∷ [])

abbrev pub written_property : Core
written_property =
    with_signals (with_properties (
    program (object_class ∷ class 1 (int ∷ []) [] None ∷ []) (
    method (frame [] (object 1 ∷ int ∷ []) void) (block (of 0 (object 1) ∷ []) (
    set (local 0 (object 1)) (moved (object 1) (new 1 1 []))
    ∷ set (local 1 int) (keep int (apply (op.Assign int true) (place p_n ∷ keep int (number 3) ∷ [])))
    ∷ say (codes "%d") (local 1 int ∷ [])
    ∷ say (codes "%d") (step_of true ∷ [])
    ∷ say (codes "%d") (step_of false ∷ [])
    ∷ []
    ))
    ∷ plain_creation
    ∷ method (frame [] [] int) (block [] (say (codes "get") [] ∷ st.Return (keep int (field this 0 int) ∷ []) here ∷ []))
    ∷ method (frame (by_value int ∷ []) [] void) (block [] (
    say (codes "set") []
    ∷ assign int (field this 0 int) (keep int (apply (op.Arithmetic arithmetic.Multiply kind.Int32) (local 0 int ∷ number 2 ∷ [])))
    ∷ []
    ))
    ∷ []
    ) []
    ) (record { name = codes "n"; kind = int; declared_in = 1; symbol = 0; getter = access.Written 2; is_get_owned = false; get_slot = None; setter = access.Written 3; set_slot = None; is_construct = false; default = [] } ∷ [])) (notify ∷ [])

pub written_property_row : Row written_property quiet_world 600 (Made Object ∷ line (codes "set") ∷ line (codes "get") ∷ line (codes "6") ∷ line (codes "get") ∷ line (codes "set") ∷ line (codes "6") ∷ line (codes "get") ∷ line (codes "set") ∷ line (codes "get") ∷ line (codes "30") ∷ Gone 1 ∷ []) (Ended (pos 0)) ([])
unfolding Rattle.core_tree.specs.declared.tree.CoreExpr.TheViews.out-CoreStmt denote.Hole.Carrier.out Rattle.core_tree.specs.declared.tree.CoreExpr.TheBlock.shown-the_row-CoreStmt-3 denote.Hole.Carrier.shown denote.Hole.Carrier.hidden Rattle.core_tree.specs.declared.tree.CoreExpr.TheViews.out-CoreExpr Rattle.std.specs.Fmt.digits
written_property_row = record { says = refl; ends = refl; lives = refl }

-- class P : Object { public int n { get { return 1; } set { held = null; print ("set\n"); } } }
-- P? held;
-- void main () { held = new P (); held.n = 2; print ("end\n"); }
abbrev pub setter_ends_object : Core
setter_ends_object =
    with_signals (with_properties (
    program (object_class ∷ class 1 [] [] None ∷ []) (
    method (frame [] [] void) (block [] (
    assign (object 1) (static 0 (object 1)) (moved (object 1) (new 1 1 []))
    ∷ assign int (apply (op.Property 0) (static 0 (object 1) ∷ [])) (keep int (number 2))
    ∷ say (codes "end") []
    ∷ []
    ))
    ∷ plain_creation
    ∷ method (frame (by_value int ∷ []) [] void) (block [] (assign (object 1) (static 0 (object 1)) (keep (object 1) null) ∷ say (codes "set") [] ∷ []))
    ∷ []
    ) (static_field (object 1) ∷ [])
    ) (record { name = codes "n"; kind = int; declared_in = 1; symbol = 0; getter = access.Missing; is_get_owned = false; get_slot = None; setter = access.Written 2; set_slot = None; is_construct = false; default = [] } ∷ [])) (notify ∷ [])

pub setter_ends_object_row : Row setter_ends_object quiet_world 300 (Made Object ∷ Gone 1 ∷ line (codes "set") ∷ []) Dead ([])
unfolding Rattle.core_tree.specs.declared.tree.CoreExpr.TheViews.out-CoreStmt denote.Hole.Carrier.out Rattle.core_tree.specs.declared.tree.CoreExpr.TheBlock.shown-the_row-CoreStmt-3 denote.Hole.Carrier.shown denote.Hole.Carrier.hidden Rattle.core_tree.specs.declared.tree.CoreExpr.TheViews.out-CoreExpr Rattle.std.specs.Fmt.digits
setter_ends_object_row = record { says = refl; ends = refl; lives = refl }

-- struct P { public string a; public string b; }
-- void main () { P p = P (); p.a = "1"; p.b = "2"; P q = P (); q.a = "3"; q.b = "4"; p = q; print ("%s%s\n", p.a, p.b); }
abbrev pair : VType
pair = owned (shape.Struct 1)

abbrev member : ℕ → ℕ → CoreExpr
member l n = apply (op.Member n text) (local l pair ∷ [])

abbrev pub struct_assigned : Core
struct_assigned =
    program (object_class ∷ declared.Struct (record { cells = text ∷ text ∷ [] }) ∷ []) (
    method (frame [] (pair ∷ pair ∷ []) void) (block (of 0 pair ∷ of 1 pair ∷ []) (
    set (local 0 pair) (moved pair (apply (op.NewStruct 1) []))
    ∷ assign text (member 0 0) (copied (literal (codes "1")))
    ∷ assign text (member 0 1) (copied (literal (codes "2")))
    ∷ set (local 1 pair) (moved pair (apply (op.NewStruct 1) []))
    ∷ assign text (member 1 0) (copied (literal (codes "3")))
    ∷ assign text (member 1 1) (copied (literal (codes "4")))
    ∷ assign pair (local 0 pair) (changed change.CopyStruct pair (local 1 pair))
    ∷ say (codes "%s%s") (member 0 0 ∷ member 0 1 ∷ [])
    ∷ []
    ))
    ∷ []
    ) []

pub struct_assigned_row : Row struct_assigned quiet_world 400 (Made Text ∷ Made Text ∷ Made Text ∷ Made Text ∷ Made Text ∷ Made Text ∷ Gone 1 ∷ Gone 2 ∷ line (codes "34") ∷ Gone 3 ∷ Gone 4 ∷ Gone 5 ∷ Gone 6 ∷ []) (Ended (pos 0)) ([])
unfolding Rattle.core_tree.specs.declared.tree.CoreExpr.TheViews.out-CoreStmt denote.Hole.Carrier.out Rattle.core_tree.specs.declared.tree.CoreExpr.TheBlock.shown-the_row-CoreStmt-3 denote.Hole.Carrier.shown denote.Hole.Carrier.hidden Rattle.core_tree.specs.declared.tree.CoreExpr.TheViews.out-CoreExpr Rattle.std.specs.Fmt.digits
struct_assigned_row = record { says = refl; ends = refl; lives = refl }
