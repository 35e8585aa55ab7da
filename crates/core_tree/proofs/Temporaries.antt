-- How long temporaries stay, and in which order they go.
use Rattle.std.specs.Prelude.{refl, ℕ, false, List, [], ◌∷◌, ◌++◌, Some, None, codes, pos}
use Rattle.vg_base.specs.declared.event.Event.TheVariants.{Made, Gone}
use Rattle.vg_base.specs.declared.event.ThingKind.TheVariants.{Object, Text, Array}
use Rattle.vg_base.specs.declared.event.VEnd.TheVariants.{Ended}
use Rattle.vala_types.specs.declared.types.Item.{Item}
use Rattle.vala_types.specs.declared.types.ItemShape.TheVariants as item
use Rattle.vala_types.specs.declared.types.Shape.TheVariants as shape
use Rattle.vala_types.specs.declared.types.VType.{VType}
use Rattle.vala_types.specs.declared.owners.Change.TheVariants as change
use Rattle.core_tree.specs.declared.program.Core.{Core}
use Rattle.core_tree.specs.declared.operation.Operation.TheVariants as op
use Rattle.core_tree.specs.declared.tree.CoreExpr.{CoreExpr}
use Rattle.core_tree.specs.declared.tree.CoreExpr.TheVariants as e
use Rattle.core_tree.specs.declared.tree.CoreStmt.TheVariants as st
use Rattle.core_tree.specs.declared.types.CoreType.{CoreType}
use Rattle.core_tree.specs.declared.types.CoreType.TheVariants as declared
use Rattle.core_tree.specs.declared.values.Comparison.TheVariants as compare
use Rattle.core_tree.proofs.Build.{Row, here, owned, unowned, void, int, object, apply, number, literal, null, local, static, changed, assign, set, run, say, of, block, frame, by_value, method, plain_creation, object_class, class, static_field, program, quiet_world, new, call, line, keep, moved, told, told_type, told_methods, new_told, told_name, by_text}

abbrev lent : VType
lent = unowned (shape.Class 1)

abbrev bool : VType
bool = owned shape.Bool

abbrev is_null : CoreExpr → CoreExpr
is_null x = apply (op.CompareReferences compare.Equal) (x ∷ null ∷ [])

-- T[] make () { return new T[] { new T ("a"), new T ("b") }; }
-- void main () { foreach (unowned T t in make ()) print ("%s\n", t.n); print ("end\n"); }
abbrev told_items : Item
told_items = record { shape = item.Class 1; nullable = false }

abbrev told_list : VType
told_list = owned (shape.Array told_items)

abbrev pub fresh_array : Core
fresh_array =
    program (object_class ∷ told_type ∷ []) (
    method (frame [] (lent ∷ []) void) (block [] (
    st.Foreach (call 3 []) told_items (local 0 lent) change.Keep (block (of 0 lent ∷ []) (say (codes "%s") (told_name (local 0 lent) ∷ []) ∷ [])) here
    ∷ say (codes "end") []
    ∷ []
    ))
    ∷ told_methods
    ++ method (frame [] [] told_list) (block [] (
    st.Return (moved told_list (apply (op.List told_items) (new_told (codes "a") ∷ new_told (codes "b") ∷ [])) ∷ []) here ∷ []
    ))
    ∷ []
    ) []

pub fresh_array_row : Row fresh_array quiet_world 300 (Made Object ∷ Made Text ∷ Made Object ∷ Made Text ∷ Made Array ∷ line (codes "a") ∷ line (codes "b") ∷ line (codes "~a") ∷ Gone 2 ∷ Gone 1 ∷ line (codes "~b") ∷ Gone 4 ∷ Gone 3 ∷ Gone 5 ∷ line (codes "end") ∷ []) (Ended (pos 0)) ([])
unfolding Rattle.core_tree.specs.declared.tree.CoreExpr.TheViews.out-CoreStmt denote.Hole.Carrier.out Rattle.core_tree.specs.declared.tree.CoreExpr.TheBlock.shown-the_row-CoreStmt-3 denote.Hole.Carrier.shown denote.Hole.Carrier.hidden Rattle.core_tree.specs.declared.tree.CoreExpr.TheViews.out-CoreExpr Rattle.std.specs.Fmt.digits
fresh_array_row = record { says = refl; ends = refl; lives = refl }

-- class A : Object { ~A () { print ("~A\n"); } } class B : A { }
-- A make () { return new A (); }
-- void main () {
--   B? b = make () as B; print ("%s\n", b == null ? "null" : "b");
--   int i = 0; if ((make () as B) == null) i = 1; print ("%d\n", i);
-- }
abbrev made_as : CoreExpr
made_as = apply (op.As 2) (call 3 [] ∷ [])

abbrev derived : CoreType
derived = declared.Class (record { base = Some 1; interfaces = []; is_a = 2 ∷ 1 ∷ 0 ∷ []; cells = []; own = 0; initials = []; construct_properties = []; construct_blocks = []; destructor = None; slots = [] })

abbrev pub not_of_the_type : Core
not_of_the_type =
    program (object_class ∷ class 1 [] [] (Some 2) ∷ derived ∷ []) (
    method (frame [] (object 2 ∷ int ∷ []) void) (block (of 0 (object 2) ∷ of 1 int ∷ []) (
    set (local 0 (object 2)) (moved (object 2) made_as)
    ∷ say (codes "%s") (e.Choice (is_null (local 0 (object 2))) (literal (codes "null")) (literal (codes "b")) here ∷ [])
    ∷ set (local 1 int) (keep int (number 0))
    ∷ st.If (is_null made_as) (assign int (local 1 int) (keep int (number 1))) (st.Empty here) here
    ∷ say (codes "%d") (local 1 int ∷ [])
    ∷ []
    ))
    ∷ plain_creation
    ∷ method (frame [] [] void) (block [] (say (codes "~A") [] ∷ []))
    ∷ method (frame [] [] (object 1)) (block [] (st.Return (moved (object 1) (new 1 1 []) ∷ []) here ∷ []))
    ∷ []
    ) []

pub not_of_the_type_row : Row not_of_the_type quiet_world 300 (Made Object ∷ line (codes "~A") ∷ Gone 1 ∷ line (codes "null") ∷ Made Object ∷ line (codes "~A") ∷ Gone 2 ∷ line (codes "1") ∷ []) (Ended (pos 0)) ([])
unfolding Rattle.core_tree.specs.declared.tree.CoreExpr.TheViews.out-CoreStmt denote.Hole.Carrier.out Rattle.core_tree.specs.declared.tree.CoreExpr.TheBlock.shown-the_row-CoreStmt-3 denote.Hole.Carrier.shown denote.Hole.Carrier.hidden Rattle.core_tree.specs.declared.tree.CoreExpr.TheViews.out-CoreExpr Rattle.std.specs.Fmt.digits
not_of_the_type_row = record { says = refl; ends = refl; lives = refl }

-- bool t (T x) { print ("%s\n", x.n); return true; }
-- void main () { if (t (new T ("a")) && t (new T ("b"))) print ("body\n"); }
abbrev tested : List ℕ → CoreExpr
tested bytes = call 3 (keep lent (new 1 1 (by_text bytes ∷ [])) ∷ [])

abbrev pub one_condition : Core
one_condition =
    program (object_class ∷ told_type ∷ []) (
    method (frame [] [] void) (block [] (st.If (e.And (tested (codes "a")) (tested (codes "b")) here) (say (codes "body") []) (st.Empty here) here ∷ []))
    ∷ told_methods
    ++ method (frame (by_value lent ∷ []) [] bool) (block [] (say (codes "%s") (told_name (local 0 lent) ∷ []) ∷ st.Return (keep bool (number 1) ∷ []) here ∷ []))
    ∷ []
    ) []

pub one_condition_row : Row one_condition quiet_world 300 (Made Object ∷ Made Text ∷ line (codes "a") ∷ Made Object ∷ Made Text ∷ line (codes "b") ∷ line (codes "~a") ∷ Gone 2 ∷ Gone 1 ∷ line (codes "~b") ∷ Gone 4 ∷ Gone 3 ∷ line (codes "body") ∷ []) (Ended (pos 0)) ([])
unfolding Rattle.core_tree.specs.declared.tree.CoreExpr.TheViews.out-CoreStmt denote.Hole.Carrier.out Rattle.core_tree.specs.declared.tree.CoreExpr.TheBlock.shown-the_row-CoreStmt-3 denote.Hole.Carrier.shown denote.Hole.Carrier.hidden Rattle.core_tree.specs.declared.tree.CoreExpr.TheViews.out-CoreExpr Rattle.std.specs.Fmt.digits
one_condition_row = record { says = refl; ends = refl; lives = refl }

-- T? a; T? b;
-- T get (bool x) { T r = x ? b : a; if (x) b = null; else a = null; return r; }
-- int two (T x, T y) { return 1; }
-- void main () { a = new T ("a"); b = new T ("b"); two (get (true), get (false)); }
abbrev get : ℕ → CoreExpr
get x = keep lent (call 3 (keep bool (number x) ∷ []))

abbrev pub by_their_making : Core
by_their_making =
    program (object_class ∷ told_type ∷ []) (
    method (frame [] [] void) (block [] (
    assign told (static 0 told) (new_told (codes "a")) ∷ assign told (static 1 told) (new_told (codes "b")) ∷ run (call 4 (get 1 ∷ get 0 ∷ [])) ∷ []
    ))
    ∷ told_methods
    ++ method (frame (by_value bool ∷ []) (told ∷ []) told) (block (of 1 told ∷ []) (
    set (local 1 told) (changed change.AddOwner told (e.Choice (local 0 bool) (static 1 told) (static 0 told) here))
    ∷ st.If (local 0 bool) (assign told (static 1 told) (keep told null)) (assign told (static 0 told) (keep told null)) here
    ∷ st.Return (changed change.AddOwner told (local 1 told) ∷ []) here
    ∷ []
    ))
    ∷ method (frame (by_value lent ∷ by_value lent ∷ []) [] int) (block [] (st.Return (keep int (number 1) ∷ []) here ∷ []))
    ∷ []
    ) (static_field told ∷ static_field told ∷ [])

pub by_their_making_row : Row by_their_making quiet_world 400 (Made Object ∷ Made Text ∷ Made Object ∷ Made Text ∷ line (codes "~b") ∷ Gone 4 ∷ Gone 3 ∷ line (codes "~a") ∷ Gone 2 ∷ Gone 1 ∷ []) (Ended (pos 0)) ([])
unfolding Rattle.core_tree.specs.declared.tree.CoreExpr.TheViews.out-CoreStmt denote.Hole.Carrier.out Rattle.core_tree.specs.declared.tree.CoreExpr.TheBlock.shown-the_row-CoreStmt-3 denote.Hole.Carrier.shown denote.Hole.Carrier.hidden Rattle.core_tree.specs.declared.tree.CoreExpr.TheViews.out-CoreExpr Rattle.std.specs.Fmt.digits
by_their_making_row = record { says = refl; ends = refl; lives = refl }
