-- When temporaries, locals, parameters and errors go.
use Rattle.std.specs.Prelude.{refl, ℕ, false, List, [], ◌∷◌, ◌++◌, Some, codes, ℤ, pos, None}
use Rattle.vg_base.specs.declared.event.Event.TheVariants.{Made, Gone}
use Rattle.vg_base.specs.declared.event.ThingKind.TheVariants.{Object, Text, Array, Error}
use Rattle.vg_base.specs.declared.event.VEnd.TheVariants.{Ended, Dead}
use Rattle.vala_types.specs.declared.types.Item.{Item}
use Rattle.vala_types.specs.declared.types.ItemShape.TheVariants as item
use Rattle.vala_types.specs.declared.types.Shape.TheVariants as shape
use Rattle.vala_types.specs.declared.types.VType.{VType}
use Rattle.vala_types.specs.declared.owners.Change.TheVariants as change
use Rattle.core_tree.specs.declared.program.Core.{Core}
use Rattle.core_tree.specs.declared.operation.Operation.TheVariants as op
use Rattle.core_tree.specs.declared.tree.CoreExpr.{CoreExpr}
use Rattle.core_tree.specs.declared.tree.CoreStmt.{CoreStmt}
use Rattle.core_tree.specs.declared.tree.CoreStmt.TheVariants as st
use Rattle.core_tree.specs.declared.values.Comparison.TheVariants as compare
use Rattle.core_tree.specs.declared.values.Part.TheVariants as part
use Rattle.core_tree.specs.declared.values.TextCall.TheVariants as call_of
use Rattle.core_tree.proofs.Build.{Row, here, owned, unowned, void, int, text, apply, number, literal, null, local, static, changed, assign, set, run, say, of, block, frame, by_value, method, object_class, static_field, program, quiet_world, new, call, line, text_param, keep, moved, copied, told, told_type, told_methods, new_told, told_name, by_text, error_type, case_label, default_label}

abbrev told_program : List CoreStmt → List VType → List (Rattle.core_tree.specs.declared.types.CoreMethod.CoreMethod) → Core
told_program body locals methods = program (object_class ∷ told_type ∷ []) (method (frame [] locals void) (block [] body) ∷ told_methods ++ methods) []

abbrev lent : VType
lent = unowned (shape.Class 1)

abbrev lent_at : ℕ → CoreExpr
lent_at n = local n lent

abbrev no_statement : CoreStmt
no_statement = st.Empty here

-- T mk (string n) throws E { if (n == "c") throw new E.BAD ("c"); return new T (n); }
-- void use (T a, T b, T c) { }
-- void main () { try { use (mk ("a"), mk ("b"), mk ("c")); } catch (E e) { print ("caught\n"); } }
abbrev make_told : List ℕ → CoreExpr
make_told bytes = keep lent (call 3 (by_text bytes ∷ []))

abbrev pub temporaries_of_error : Core
temporaries_of_error =
    told_program (
    st.Try (block [] (run (call 4 (make_told (codes "a") ∷ make_told (codes "b") ∷ make_told (codes "c") ∷ [])) ∷ []))
    (st.Catch (Some 8) None (local 0 error_type ∷ []) (block (of 0 error_type ∷ []) (say (codes "caught") [] ∷ [])) here ∷ []) [] here
    ∷ []
    ) (error_type ∷ []) (
    method (frame (text_param ∷ []) [] told) (block [] (
    st.If (apply (op.CompareTexts compare.Equal) (local 0 (unowned shape.Text) ∷ literal (codes "c") ∷ []))
    (st.Throw (moved error_type (apply (op.NewError 8 (pos 0) (codes "c")) [])) here) no_statement here
    ∷ st.Return (moved told (new 1 1 (keep (unowned shape.Text) (local 0 (unowned shape.Text)) ∷ [])) ∷ []) here
    ∷ []
    ))
    ∷ method (frame (by_value lent ∷ by_value lent ∷ by_value lent ∷ []) [] void) (block [] [])
    ∷ []
    )

pub temporaries_of_error_row : Row temporaries_of_error quiet_world 300 (Made Object ∷ Made Text ∷ Made Object ∷ Made Text ∷ Made Error ∷ line (codes "~a") ∷ Gone 2 ∷ Gone 1 ∷ line (codes "~b") ∷ Gone 4 ∷ Gone 3 ∷ line (codes "caught") ∷ Gone 5 ∷ []) (Ended (pos 0)) ([])
unfolding Rattle.core_tree.specs.declared.tree.CoreExpr.TheViews.out-CoreStmt denote.Hole.Carrier.out Rattle.core_tree.specs.declared.tree.CoreExpr.TheBlock.shown-the_row-CoreStmt-3 denote.Hole.Carrier.shown denote.Hole.Carrier.hidden Rattle.core_tree.specs.declared.tree.CoreExpr.TheViews.out-CoreExpr Rattle.std.specs.Fmt.digits
temporaries_of_error_row = record { says = refl; ends = refl; lives = refl }

-- int len (T t) { return t.n.length; }
-- int f () { T l = new T ("local"); return len (new T ("temp")); }
-- void main () { print ("%d\n", f ()); }
abbrev pub result_before_locals : Core
result_before_locals =
    told_program (say (codes "%d") (call 4 [] ∷ []) ∷ []) [] (
    method (frame (by_value lent ∷ []) [] int) (block [] (
    st.Return (keep int (apply (op.TextFunction call_of.Length) (told_name (lent_at 0) ∷ [])) ∷ []) here ∷ []
    ))
    ∷ method (frame [] (told ∷ []) int) (block (of 0 told ∷ []) (
    set (local 0 told) (new_told (codes "local"))
    ∷ st.Return (keep int (call 3 (keep lent (new 1 1 (by_text (codes "temp") ∷ [])) ∷ [])) ∷ []) here
    ∷ []
    ))
    ∷ []
    )

pub result_before_locals_row : Row result_before_locals quiet_world 300 (Made Object ∷ Made Text ∷ Made Object ∷ Made Text ∷ line (codes "~temp") ∷ Gone 4 ∷ Gone 3 ∷ line (codes "~local") ∷ Gone 2 ∷ Gone 1 ∷ line (codes "4") ∷ []) (Ended (pos 0)) ([])
unfolding Rattle.core_tree.specs.declared.tree.CoreExpr.TheViews.out-CoreStmt denote.Hole.Carrier.out Rattle.core_tree.specs.declared.tree.CoreExpr.TheBlock.shown-the_row-CoreStmt-3 denote.Hole.Carrier.shown denote.Hole.Carrier.hidden Rattle.core_tree.specs.declared.tree.CoreExpr.TheViews.out-CoreExpr Rattle.std.specs.Fmt.digits
result_before_locals_row = record { says = refl; ends = refl; lives = refl }

-- void main () { string a = "x"; switch (a + "y") { case "xy": print ("hit\n"); break; default: print ("miss\n"); break; } }
abbrev pub chosen_by_text : Core
chosen_by_text =
    program (object_class ∷ []) (
    method (frame [] (text ∷ []) void) (block (of 0 text ∷ []) (
    set (local 0 text) (copied (literal (codes "x")))
    ∷ st.Switch (apply (op.TextFunction call_of.Concatenate) (local 0 text ∷ literal (codes "y") ∷ [])) (
    st.Section (literal (codes "xy") ∷ []) (case_label ∷ []) (block [] (say (codes "hit") [] ∷ st.Break here ∷ [])) here
    ∷ st.Section [] (default_label ∷ []) (block [] (say (codes "miss") [] ∷ st.Break here ∷ [])) here
    ∷ []
    ) here
    ∷ []
    ))
    ∷ []
    ) []

pub chosen_by_text_row : Row chosen_by_text quiet_world 200 (Made Text ∷ Made Text ∷ Gone 2 ∷ line (codes "hit") ∷ Gone 1 ∷ []) (Ended (pos 0)) ([])
unfolding Rattle.core_tree.specs.declared.tree.CoreExpr.TheViews.out-CoreStmt denote.Hole.Carrier.out Rattle.core_tree.specs.declared.tree.CoreExpr.TheBlock.shown-the_row-CoreStmt-3 denote.Hole.Carrier.shown denote.Hole.Carrier.hidden Rattle.core_tree.specs.declared.tree.CoreExpr.TheViews.out-CoreExpr Rattle.std.specs.Fmt.digits
chosen_by_text_row = record { says = refl; ends = refl; lives = refl }

-- T? held;
-- T g () { held = null; print ("cleared\n"); return new T ("g"); }
-- void f (owned T a, owned T b) { print ("%s %s\n", a.n, b.n); }
-- void main () { held = new T ("h"); f (held, g ()); }
abbrev pub owned_arguments : Core
owned_arguments =
    program (object_class ∷ told_type ∷ []) (
    method (frame [] [] void) (block [] (
    assign told (static 0 told) (new_told (codes "h"))
    ∷ run (call 4 (changed change.AddOwner told (static 0 told) ∷ moved told (call 3 []) ∷ []))
    ∷ []
    ))
    ∷ told_methods
    ++ method (frame [] [] told) (block [] (
    assign told (static 0 told) (keep told null) ∷ say (codes "cleared") [] ∷ st.Return (new_told (codes "g") ∷ []) here ∷ []
    ))
    ∷ method (frame (by_value told ∷ by_value told ∷ []) [] void) (block [] (say (codes "%s %s") (told_name (local 0 told) ∷ told_name (local 1 told) ∷ []) ∷ []))
    ∷ []
    ) (static_field told ∷ [])

pub owned_arguments_row : Row owned_arguments quiet_world 300 (Made Object ∷ Made Text ∷ line (codes "cleared") ∷ Made Object ∷ Made Text ∷ line (codes "h g") ∷ line (codes "~g") ∷ Gone 4 ∷ Gone 3 ∷ line (codes "~h") ∷ Gone 2 ∷ Gone 1 ∷ []) (Ended (pos 0)) ([])
unfolding Rattle.core_tree.specs.declared.tree.CoreExpr.TheViews.out-CoreStmt denote.Hole.Carrier.out Rattle.core_tree.specs.declared.tree.CoreExpr.TheBlock.shown-the_row-CoreStmt-3 denote.Hole.Carrier.shown denote.Hole.Carrier.hidden Rattle.core_tree.specs.declared.tree.CoreExpr.TheViews.out-CoreExpr Rattle.std.specs.Fmt.digits
owned_arguments_row = record { says = refl; ends = refl; lives = refl }

-- void main () { string[] a = { "x", "y" }; foreach (string s in a) { print ("%s\n", s); a = new string[] { "z" }; } print ("end\n"); }
abbrev texts : Item
texts = record { shape = item.Text; nullable = false }

abbrev texts_type : VType
texts_type = owned (shape.Array texts)

abbrev list_of : List (List ℕ) → List CoreExpr
list_of [] = []
list_of (b ∷ bs) = copied (literal b) ∷ list_of bs

abbrev pub array_replaced : Core
array_replaced =
    program (object_class ∷ []) (
    method (frame [] (texts_type ∷ text ∷ []) void) (block (of 0 texts_type ∷ []) (
    set (local 0 texts_type) (moved texts_type (apply (op.List texts) (list_of (codes "x" ∷ codes "y" ∷ []))))
    ∷ st.Foreach (local 0 texts_type) texts (local 1 text) change.CopyText (block (of 1 text ∷ []) (
    say (codes "%s") (local 1 text ∷ [])
    ∷ assign texts_type (local 0 texts_type) (moved texts_type (apply (op.List texts) (list_of (codes "z" ∷ []))))
    ∷ []
    )) here
    ∷ say (codes "end") []
    ∷ []
    ))
    ∷ []
    ) []

pub array_replaced_row : Row array_replaced quiet_world 300 (Made Text ∷ Made Text ∷ Made Array ∷ Made Text ∷ line (codes "x") ∷ Made Text ∷ Made Array ∷ Gone 1 ∷ Gone 2 ∷ Gone 3 ∷ Gone 4 ∷ []) Dead (record { kind = Text; serial = 5; owners = 1 } ∷ record { kind = Array; serial = 6; owners = 1 } ∷ [])
unfolding Rattle.core_tree.specs.declared.tree.CoreExpr.TheViews.out-CoreStmt denote.Hole.Carrier.out Rattle.core_tree.specs.declared.tree.CoreExpr.TheBlock.shown-the_row-CoreStmt-3 denote.Hole.Carrier.shown denote.Hole.Carrier.hidden Rattle.core_tree.specs.declared.tree.CoreExpr.TheViews.out-CoreExpr Rattle.std.specs.Fmt.digits
array_replaced_row = record { says = refl; ends = refl; lives = refl }

-- errordomain E { A, B }
-- void f (bool b) throws E { if (b) throw new E.B ("b"); }
-- void g () throws E { try { throw new E.A ("a"); } finally { print ("fin\n"); f (true); } }
-- void main () { try { g (); } catch (E e) { print ("%s %d\n", e.message, e.code); } }
abbrev throw_new : ℤ → List ℕ → CoreStmt
throw_new code bytes = st.Throw (moved error_type (apply (op.NewError 8 code bytes) [])) here

abbrev pub finally_throws : Core
finally_throws =
    program (object_class ∷ []) (
    method (frame [] (error_type ∷ []) void) (block [] (
    st.Try (block [] (run (call 2 []) ∷ []))
    (st.Catch (Some 8) None (local 0 error_type ∷ []) (block (of 0 error_type ∷ []) (
    say (codes "%s %d") (apply (op.Part part.ErrorMessage) (local 0 error_type ∷ []) ∷ apply (op.Part part.ErrorCode) (local 0 error_type ∷ []) ∷ []) ∷ []
    )) here ∷ []) [] here
    ∷ []
    ))
    ∷ method (frame (by_value (owned shape.Bool) ∷ []) [] void) (block [] (st.If (local 0 (owned shape.Bool)) (throw_new (pos 1) (codes "b")) no_statement here ∷ []))
    ∷ method (frame [] [] void) (block [] (
    st.Try (block [] (throw_new (pos 0) (codes "a") ∷ [])) [] (block [] (say (codes "fin") [] ∷ run (call 1 (number 1 ∷ [])) ∷ []) ∷ []) here ∷ []
    ))
    ∷ []
    ) []

pub finally_throws_row : Row finally_throws quiet_world 300 (Made Error ∷ line (codes "fin") ∷ Made Error ∷ Gone 1 ∷ line (codes "b 1") ∷ Gone 2 ∷ []) (Ended (pos 0)) ([])
unfolding Rattle.core_tree.specs.declared.tree.CoreExpr.TheViews.out-CoreStmt denote.Hole.Carrier.out Rattle.core_tree.specs.declared.tree.CoreExpr.TheBlock.shown-the_row-CoreStmt-3 denote.Hole.Carrier.shown denote.Hole.Carrier.hidden Rattle.core_tree.specs.declared.tree.CoreExpr.TheViews.out-CoreExpr Rattle.std.specs.Fmt.digits
finally_throws_row = record { says = refl; ends = refl; lives = refl }

-- string f () { string s = "a"; try { return s; } finally { s = "b"; print ("fin\n"); } }
-- void main () { print ("%s\n", f ()); }
abbrev pub result_through_finally : Core
result_through_finally =
    program (object_class ∷ []) (
    method (frame [] [] void) (block [] (say (codes "%s") (call 1 [] ∷ []) ∷ []))
    ∷ method (frame [] (text ∷ []) text) (block (of 0 text ∷ []) (
    set (local 0 text) (copied (literal (codes "a")))
    ∷ st.Try (block [] (st.Return (copied (local 0 text) ∷ []) here ∷ [])) [] (block [] (
    assign text (local 0 text) (copied (literal (codes "b"))) ∷ say (codes "fin") [] ∷ []
    ) ∷ []) here
    ∷ []
    ))
    ∷ []
    ) []

pub result_through_finally_row : Row result_through_finally quiet_world 200 (Made Text ∷ Made Text ∷ Made Text ∷ Gone 1 ∷ line (codes "fin") ∷ Gone 3 ∷ line (codes "a") ∷ Gone 2 ∷ []) (Ended (pos 0)) ([])
unfolding Rattle.core_tree.specs.declared.tree.CoreExpr.TheViews.out-CoreStmt denote.Hole.Carrier.out Rattle.core_tree.specs.declared.tree.CoreExpr.TheBlock.shown-the_row-CoreStmt-3 denote.Hole.Carrier.shown denote.Hole.Carrier.hidden Rattle.core_tree.specs.declared.tree.CoreExpr.TheViews.out-CoreExpr Rattle.std.specs.Fmt.digits
result_through_finally_row = record { says = refl; ends = refl; lives = refl }
