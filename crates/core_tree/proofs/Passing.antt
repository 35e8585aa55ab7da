-- Places that parameters stand for, arrays and structs that move, and handlers that go while they run.
use Rattle.std.specs.Prelude.{refl, ℕ, false, List, [], ◌∷◌, ◌++◌, Some, None, codes, pos}
use Rattle.vg_base.specs.declared.event.Event.TheVariants.{Made, Gone}
use Rattle.vg_base.specs.declared.event.ThingKind.TheVariants.{Object, Text, Array, Scope}
use Rattle.vg_base.specs.declared.event.TrapKind.TheVariants as trap
use Rattle.vg_base.specs.declared.event.VEnd.TheVariants.{Ended, Dead, Trapped}
use Rattle.vala_types.specs.declared.types.IntKind.TheVariants as kind
use Rattle.vala_types.specs.declared.types.Item.{Item}
use Rattle.vala_types.specs.declared.types.ItemShape.TheVariants as item
use Rattle.vala_types.specs.declared.types.Shape.TheVariants as shape
use Rattle.vala_types.specs.declared.types.VType.{VType}
use Rattle.vala_types.specs.declared.owners.Change.TheVariants as change
use Rattle.core_tree.specs.declared.program.Core.{Core}
use Rattle.core_tree.specs.declared.lambda.ScopeAt.{ScopeAt}
use Rattle.core_tree.specs.declared.lambda.Target.TheVariants as bound
use Rattle.core_tree.specs.declared.lambda.Via.TheVariants as via
use Rattle.core_tree.specs.declared.operation.Operation.TheVariants as op
use Rattle.core_tree.specs.declared.tree.CoreExpr.{CoreExpr}
use Rattle.core_tree.specs.declared.tree.CoreExpr.TheVariants as e
use Rattle.core_tree.specs.declared.tree.CoreStmt.{CoreStmt}
use Rattle.core_tree.specs.declared.tree.CoreStmt.TheVariants as st
use Rattle.core_tree.specs.declared.types.Making.TheVariants as making
use Rattle.core_tree.specs.declared.values.Callee.TheVariants as callee
use Rattle.core_tree.specs.declared.values.Comparison.TheVariants as compare
use Rattle.core_tree.specs.declared.values.Part.TheVariants as part
use Rattle.core_tree.proofs.Build.{Row, here, owned, unowned, void, int, text, object, apply, number, literal, null, local, static, this, field, place, assign, set, run, say, of, block, frame, method, creation, plain_creation, object_class, class, static_field, program, with_signals, notify, quiet_world, new, call, call_on, line, text_param, keep, moved, copied, told, told_type, told_methods, new_told, told_name, lambda_at, parameter, call_by, signal}
use Rattle.core_tree.specs.declared.lambda.CoreParameter.{CoreParameter}
use Rattle.core_tree.specs.declared.lambda.Mode.TheVariants as mode
use Rattle.core_tree.specs.declared.types.CoreType.{CoreType}
use Rattle.core_tree.specs.declared.types.CoreType.TheVariants as declared

abbrev numbers : Item
numbers = record { shape = item.Int kind.Int32; nullable = false }

abbrev numbers_type : VType
numbers_type = owned (shape.Array numbers)

abbrev list : List CoreExpr → CoreExpr
list xs = moved numbers_type (apply (op.List numbers) xs)

-- int[] a;
-- int f () { a = new int[] { 7, 8 }; return 9; }
-- void main () { a = new int[] { 1 }; a += f (); print ("%d\n", a.length); }
abbrev a : CoreExpr
a = static 0 numbers_type

abbrev pub appended_behind : Core
appended_behind =
    program (object_class ∷ []) (
    method (frame [] [] void) (block [] (
    assign numbers_type a (list (number 1 ∷ []))
    ∷ run (apply (op.Append numbers false) (place a ∷ keep int (call 1 []) ∷ []))
    ∷ say (codes "%d") (apply (op.Part part.ArrayLength) (a ∷ []) ∷ [])
    ∷ []
    ))
    ∷ method (frame [] [] int) (block [] (assign numbers_type a (list (number 7 ∷ number 8 ∷ [])) ∷ st.Return (number 9 ∷ []) here ∷ []))
    ∷ []
    ) (static_field numbers_type ∷ [])

pub appended_behind_row : Row appended_behind quiet_world 200 (Made Array ∷ Made Array ∷ Gone 1 ∷ Made Array ∷ Gone 2 ∷ line (codes "3") ∷ []) (Ended (pos 0)) (record { kind = Array; serial = 3; owners = 1 } ∷ [])
unfolding Rattle.core_tree.specs.declared.tree.CoreExpr.TheViews.out-CoreStmt denote.Hole.Carrier.out Rattle.core_tree.specs.declared.tree.CoreExpr.TheBlock.shown-the_row-CoreStmt-3 denote.Hole.Carrier.shown denote.Hole.Carrier.hidden Rattle.core_tree.specs.declared.tree.CoreExpr.TheViews.out-CoreExpr Rattle.std.specs.Fmt.digits
appended_behind_row = record { says = refl; ends = refl; lives = refl }

-- struct P { public int x; public string n; }
-- void main () { P p = P (); p.x = 1; p.n = "a"; P q = (owned) p; print ("%d %s %d %s\n", q.x, q.n, p.x, p.n); }
abbrev pair : VType
pair = owned (shape.Struct 1)

abbrev x_of : ℕ → CoreExpr
x_of l = apply (op.Member 0 int) (local l pair ∷ [])

abbrev n_of : ℕ → CoreExpr
n_of l = apply (op.Member 1 text) (local l pair ∷ [])

abbrev pub struct_moved : Core
struct_moved =
    program (object_class ∷ declared.Struct (record { cells = int ∷ text ∷ [] }) ∷ []) (
    method (frame [] (pair ∷ pair ∷ []) void) (block (of 0 pair ∷ of 1 pair ∷ []) (
    set (local 0 pair) (moved pair (apply (op.NewStruct 1) []))
    ∷ assign int (x_of 0) (keep int (number 1))
    ∷ assign text (n_of 0) (copied (literal (codes "a")))
    ∷ set (local 1 pair) (moved pair (apply (op.Take pair) (place (local 0 pair) ∷ [])))
    ∷ say (codes "%d %s %d %s") (x_of 1 ∷ n_of 1 ∷ x_of 0 ∷ n_of 0 ∷ [])
    ∷ []
    ))
    ∷ []
    ) []

pub struct_moved_row : Row struct_moved quiet_world 300 (Made Text ∷ line (codes "1 a 0 (null)") ∷ Gone 1 ∷ []) (Ended (pos 0)) ([])
unfolding Rattle.core_tree.specs.declared.tree.CoreExpr.TheViews.out-CoreStmt denote.Hole.Carrier.out Rattle.core_tree.specs.declared.tree.CoreExpr.TheBlock.shown-the_row-CoreStmt-3 denote.Hole.Carrier.shown denote.Hole.Carrier.hidden Rattle.core_tree.specs.declared.tree.CoreExpr.TheViews.out-CoreExpr Rattle.std.specs.Fmt.digits
struct_moved_row = record { says = refl; ends = refl; lives = refl }

-- void f (out string? o, string s) { o = null; Act a = () => { print ("%s\n", s); }; a (); }
-- void main () { string? t = "a"; f (out t, t); }
abbrev out_place : VType → CoreParameter
out_place type = parameter type mode.Out

abbrev pub emptied_first : Core
emptied_first =
    program (object_class ∷ []) (
    method (frame [] (text ∷ []) void) (block (of 0 text ∷ []) (
    set (local 0 text) (copied (literal (codes "a")))
    ∷ run (call 1 (place (local 0 text) ∷ keep (unowned shape.Text) (local 0 text) ∷ []))
    ∷ []
    ))
    ∷ method (frame (out_place text ∷ text_param ∷ []) (object 0 ∷ []) void) (
    st.Block [] (record { hold = 2; variables = text ∷ []; outer = None; this = None; parameters = record { local = 1; variable = 0; kind = text; change = change.CopyText } ∷ [] } ∷ []) [] here
    )
    ∷ []
    ) []

pub emptied_first_row : Row emptied_first quiet_world 200 (Made Text ∷ Gone 1 ∷ Made Scope ∷ []) Dead (record { kind = Scope; serial = 2; owners = 1 } ∷ [])
unfolding Rattle.core_tree.specs.declared.tree.CoreExpr.TheViews.out-CoreStmt denote.Hole.Carrier.out Rattle.core_tree.specs.declared.tree.CoreExpr.TheBlock.shown-the_row-CoreStmt-3 denote.Hole.Carrier.shown denote.Hole.Carrier.hidden Rattle.core_tree.specs.declared.tree.CoreExpr.TheViews.out-CoreExpr Rattle.std.specs.Fmt.digits
emptied_first_row = record { says = refl; ends = refl; lives = refl }

-- class C : Object { public int x; public void f (ref int a) { a = 1; } }
-- void main () { C c = new C (); c.f (ref c.x); print ("%d\n", c.x); }
-- and with a gone receiver and a null one: the null test comes first
-- void main () { unowned C? d = null; { C c = new C (); d = c; } C? n = null; d.f (ref n.x); }
abbrev c_type : VType
c_type = object 1

abbrev ref_place : VType → CoreParameter
ref_place type = parameter type mode.Ref

abbrev ref_program : List VType → CoreStmt → Core
ref_program locals body =
    program (object_class ∷ class 1 (int ∷ []) [] None ∷ []) (
    method (frame [] locals void) body ∷ plain_creation
    ∷ method (frame (ref_place int ∷ []) [] void) (block [] (assign int (local 0 int) (keep int (number 1)) ∷ []))
    ∷ []
    ) []

abbrev pub stored_through : Core
stored_through =
    ref_program (c_type ∷ []) (block (of 0 c_type ∷ []) (
    set (local 0 c_type) (moved c_type (new 1 1 []))
    ∷ run (call_on (local 0 c_type) 2 (place (field (local 0 c_type) 0 int) ∷ []))
    ∷ say (codes "%d") (field (local 0 c_type) 0 int ∷ [])
    ∷ []
    ))

pub stored_through_row : Row stored_through quiet_world 200 (Made Object ∷ line (codes "1") ∷ Gone 1 ∷ []) (Ended (pos 0)) ([])
unfolding Rattle.core_tree.specs.declared.tree.CoreExpr.TheViews.out-CoreStmt denote.Hole.Carrier.out Rattle.core_tree.specs.declared.tree.CoreExpr.TheBlock.shown-the_row-CoreStmt-3 denote.Hole.Carrier.shown denote.Hole.Carrier.hidden Rattle.core_tree.specs.declared.tree.CoreExpr.TheViews.out-CoreExpr Rattle.std.specs.Fmt.digits
stored_through_row = record { says = refl; ends = refl; lives = refl }

abbrev pub null_before_dead : Core
null_before_dead =
    ref_program (unowned (shape.Class 1) ∷ c_type ∷ c_type ∷ []) (block (of 2 c_type ∷ []) (
    set (local 0 (unowned (shape.Class 1))) (keep (unowned (shape.Class 1)) null)
    ∷ block (of 1 c_type ∷ []) (
    set (local 1 c_type) (moved c_type (new 1 1 []))
    ∷ assign (unowned (shape.Class 1)) (local 0 (unowned (shape.Class 1))) (keep (unowned (shape.Class 1)) (local 1 c_type))
    ∷ []
    )
    ∷ set (local 2 c_type) (keep c_type null)
    ∷ run (call_on (local 0 (unowned (shape.Class 1))) 2 (place (field (local 2 c_type) 0 int) ∷ []))
    ∷ []
    ))

pub null_before_dead_row : Row null_before_dead quiet_world 200 (Made Object ∷ Gone 1 ∷ []) (Trapped trap.Null) ([])
unfolding Rattle.core_tree.specs.declared.tree.CoreExpr.TheViews.out-CoreStmt denote.Hole.Carrier.out Rattle.core_tree.specs.declared.tree.CoreExpr.TheBlock.shown-the_row-CoreStmt-3 denote.Hole.Carrier.shown denote.Hole.Carrier.hidden Rattle.core_tree.specs.declared.tree.CoreExpr.TheViews.out-CoreExpr Rattle.std.specs.Fmt.digits
null_before_dead_row = record { says = refl; ends = refl; lives = refl }

-- class A : Object { public virtual string f () { return "A"; } ~A () { print ("~A %s\n", this.f ()); } }
-- class B : A { string? n = "b"; public override string f () { return this.n == null ? "null" : "set"; } ~B () { print ("~B %s\n", this.f ()); } }
-- void main () { B b = new B (); }
abbrev with_slot : ℕ → ℕ → List VType → List CoreStmt → ℕ → ℕ → CoreType
with_slot n base cells initials destructor f =
    declared.Class (record { base = Some base; interfaces = []; is_a = n ∷ base ∷ 0 ∷ []; cells = cells; own = 0; initials = initials; construct_properties = []; construct_blocks = []; destructor = Some destructor; slots = record { slot = 0; member = f } ∷ [] })

abbrev ends_with : List ℕ → List CoreStmt
ends_with format = say format (call_by (callee.Virtual 0) (this ∷ []) ∷ []) ∷ []

abbrev pub virtual_while_ending : Core
virtual_while_ending =
    program (object_class ∷ with_slot 1 0 [] [] 4 3 ∷ with_slot 2 1 (text ∷ []) (set (field this 0 text) (copied (literal (codes "b"))) ∷ []) 6 5 ∷ []) (
    method (frame [] (object 2 ∷ []) void) (block (of 0 (object 2) ∷ []) (set (local 0 (object 2)) (moved (object 2) (new 2 2 [])) ∷ []))
    ∷ plain_creation
    ∷ creation (frame [] [] void) (making.Base 1 [] here) (block [] [])
    ∷ method (frame [] [] text) (block [] (st.Return (copied (literal (codes "A")) ∷ []) here ∷ []))
    ∷ method (frame [] [] void) (block [] (ends_with (codes "~A %s")))
    ∷ method (frame [] [] text) (block [] (
    st.Return (copied (e.Choice (apply (op.CompareTexts compare.Equal) (field this 0 text ∷ null ∷ [])) (literal (codes "null")) (literal (codes "set")) here) ∷ []) here ∷ []
    ))
    ∷ method (frame [] [] void) (block [] (ends_with (codes "~B %s")))
    ∷ []
    ) []

pub virtual_while_ending_row : Row virtual_while_ending quiet_world 400 (Made Object ∷ Made Text ∷ Made Text ∷ line (codes "~B set") ∷ Gone 3 ∷ Gone 2 ∷ Made Text ∷ line (codes "~A null") ∷ Gone 4 ∷ Gone 1 ∷ []) (Ended (pos 0)) ([])
unfolding Rattle.core_tree.specs.declared.tree.CoreExpr.TheViews.out-CoreStmt denote.Hole.Carrier.out Rattle.core_tree.specs.declared.tree.CoreExpr.TheBlock.shown-the_row-CoreStmt-3 denote.Hole.Carrier.shown denote.Hole.Carrier.hidden Rattle.core_tree.specs.declared.tree.CoreExpr.TheViews.out-CoreExpr Rattle.std.specs.Fmt.digits
virtual_while_ending_row = record { says = refl; ends = refl; lives = refl }

-- class S : Object { public signal void hit (); }
-- void main () {
--   S s = new S (); ulong id = 0;
--   { T t = new T ("t"); id = s.hit.connect (() => { SignalHandler.disconnect (s, id); print ("still %s\n", t.n); }); }
--   s.hit (); print ("after\n"); s.hit ();
-- }
abbrev held_by : ℕ → ScopeAt
held_by n = record { via = via.Hold n; outward = 0 }

abbrev at_target : ℕ → ScopeAt
at_target n = record { via = via.Target; outward = n }

abbrev var : ScopeAt → ℕ → VType → CoreExpr
var at n type = apply (op.Captured at n type) []

abbrev ulong : VType
ulong = owned (shape.Int kind.Ulong)

abbrev s_type : VType
s_type = object 2

abbrev hit : CoreStmt
hit = run (apply (op.Emit 1) (var (held_by 0) 0 s_type ∷ []))

abbrev pub disconnects_itself : Core
disconnects_itself =
    with_signals (
    program (object_class ∷ told_type ∷ class 2 [] [] None ∷ []) (
    method (frame [] (object 0 ∷ object 0 ∷ []) void) (
    st.Block [] (record { hold = 0; variables = s_type ∷ ulong ∷ []; outer = None; this = None; parameters = [] } ∷ []) (
    set (var (held_by 0) 0 s_type) (moved s_type (new 2 3 []))
    ∷ set (var (held_by 0) 1 ulong) (keep ulong (number 0))
    ∷ st.Block [] (record { hold = 1; variables = told ∷ []; outer = Some (held_by 0); this = None; parameters = [] } ∷ []) (
    set (var (held_by 1) 0 told) (new_told (codes "t"))
    ∷ assign ulong (var (held_by 0) 1 ulong) (keep ulong (apply (op.Connect 1 None false false false (callee.Delegate None)) (var (held_by 0) 0 s_type ∷ lambda_at 1 (bound.Captures (held_by 1)) (
    run (apply op.DisconnectId (var (at_target 1) 0 s_type ∷ var (at_target 1) 1 ulong ∷ []))
    ∷ say (codes "still %s") (told_name (var (at_target 0) 0 told) ∷ [])
    ∷ []
    ) ∷ [])))
    ∷ []
    ) here
    ∷ hit
    ∷ say (codes "after") []
    ∷ hit
    ∷ []
    ) here
    )
    ∷ told_methods ++ plain_creation ∷ []
    ) []
    ) (notify ∷ signal [] None ∷ [])

pub disconnects_itself_row : Row disconnects_itself quiet_world 500 (Made Scope ∷ Made Object ∷ Made Scope ∷ Made Object ∷ Made Text ∷ line (codes "still t") ∷ line (codes "~t") ∷ Gone 5 ∷ Gone 4 ∷ Gone 3 ∷ line (codes "after") ∷ Gone 2 ∷ Gone 1 ∷ []) (Ended (pos 0)) ([])
unfolding Rattle.core_tree.specs.declared.tree.CoreExpr.TheViews.out-CoreStmt denote.Hole.Carrier.out Rattle.core_tree.specs.declared.tree.CoreExpr.TheBlock.shown-the_row-CoreStmt-3 denote.Hole.Carrier.shown denote.Hole.Carrier.hidden Rattle.core_tree.specs.declared.tree.CoreExpr.TheViews.out-CoreExpr Rattle.std.specs.Fmt.digits
disconnects_itself_row = record { says = refl; ends = refl; lives = refl }
