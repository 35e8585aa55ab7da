-- Numbers, formats and texts, and programs that trap or read.
use Rattle.std.specs.Prelude.{◌≡◌, refl, true, false, [], ◌∷◌, codes, pos}
use Rattle.vg_base.specs.declared.event.Event.TheVariants.{Made, Gone}
use Rattle.vg_base.specs.declared.event.ThingKind.TheVariants.{Text, Array}
use Rattle.vg_base.specs.declared.event.TrapKind.TheVariants as trap
use Rattle.vg_base.specs.declared.event.VEnd.TheVariants.{Ended, Trapped}
use Rattle.vg_base.specs.World.{World}
use Rattle.vala_types.specs.declared.types.IntKind.TheVariants as kind
use Rattle.vala_types.specs.declared.types.Item.{Item}
use Rattle.vala_types.specs.declared.types.ItemShape.TheVariants as item
use Rattle.vala_types.specs.declared.types.Shape.TheVariants as shape
use Rattle.vala_types.specs.declared.types.VType.{VType}
use Rattle.vala_types.specs.declared.owners.Change.TheVariants as change
use Rattle.core_tree.specs.declared.program.Core.{Core}
use Rattle.core_tree.specs.declared.operation.Operation.TheVariants as op
use Rattle.core_tree.specs.declared.tree.CoreExpr.{CoreExpr}
use Rattle.core_tree.specs.declared.tree.CoreStmt.TheVariants as st
use Rattle.core_tree.specs.declared.values.Arithmetic.TheVariants as arithmetic
use Rattle.core_tree.specs.declared.values.Comparison.TheVariants as compare
use Rattle.core_tree.specs.declared.values.Part.TheVariants as part
use Rattle.core_tree.specs.declared.values.TextCall.TheVariants as call_of
use Rattle.core_tree.proofs.Build.{Row, here, owned, unowned, void, int, text, apply, number, null, local, changed, assign, set, say, of, block, frame, by_value, method, object_class, program, quiet_world, line, keep, moved}
use Rattle.std.specs.Prelude.{negsuc, Ok, Err}
use Rattle.core_tree.specs.Arithmetic.{calculate, wrap}
use Rattle.core_tree.specs.State.{Property}
use Rattle.core_tree.specs.Storing.{same_reference}
use Rattle.core_tree.specs.Formats.{formatted, Integer, Written}
use Rattle.core_tree.specs.Texts.{apply_text, as_int, or_minus_one, Makes, Gives, Traps}
use Rattle.std.specs.Prelude.{Some}

-- Integers

pub sum_wraps : calculate arithmetic.Add kind.Int32 (pos 2147483647) (pos 1) ≡ Ok (negsuc 2147483647)
sum_wraps = refl

pub least_by_minus_one : calculate arithmetic.Divide kind.Int32 (negsuc 2147483647) (negsuc 0) ≡ Err trap.Division
least_by_minus_one = refl

pub quotient_is_cut : calculate arithmetic.Divide kind.Int32 (negsuc 6) (pos 2) ≡ Ok (negsuc 2)
quotient_is_cut = refl

pub remainder_has_the_sign : calculate arithmetic.Remainder kind.Int32 (negsuc 6) (pos 2) ≡ Ok (negsuc 0)
remainder_has_the_sign = refl

pub amount_is_modulo : calculate arithmetic.ShiftLeft kind.Int32 (pos 1) (pos 33) ≡ Ok (pos 2)
amount_is_modulo = refl

pub sign_is_kept : calculate arithmetic.ShiftRight kind.Int32 (negsuc 7) (pos 1) ≡ Ok (negsuc 3)
sign_is_kept = refl

pub complement_of_unsigned : calculate arithmetic.Complement kind.Uint8 (pos 1) (pos 1) ≡ Ok (pos 254)
complement_of_unsigned = refl

pub or_of_negative : calculate arithmetic.Or kind.Int32 (negsuc 7) (pos 3) ≡ Ok (negsuc 4)
or_of_negative = refl

pub character_has_a_sign : wrap kind.Char (pos 200) ≡ negsuc 55
character_has_a_sign = refl

-- References

-- void told (Object o, ParamSpec p) { print ("%d\n", p == p ? 1 : 0); } prints 1
pub property_is_itself : same_reference (Property (codes "n")) (Property (codes "n")) ≡ true
property_is_itself = refl

-- Formats

pub widths : formatted (codes "%5d|%-5d|%05d|%x|%X|%%") (Integer (negsuc 41) ∷ Integer (pos 42) ∷ Integer (negsuc 41) ∷ Integer (pos 255) ∷ Integer (pos 255) ∷ []) ≡ codes "  -42|42   |-0042|ff|FF|%"
unfolding Rattle.std.specs.Fmt.digits
widths = refl

pub long_ones : formatted (codes "%ld %llu %s %c") (Integer (pos 1099511627776) ∷ Integer (pos 18446744073709551615) ∷ Written (codes "t") ∷ Integer (pos 65) ∷ []) ≡ codes "1099511627776 18446744073709551615 t A"
unfolding Rattle.std.specs.Fmt.digits
long_ones = refl

pub zero_character_ends : formatted (codes "a%3cb%d") (Integer (pos 0) ∷ Integer (pos 5) ∷ []) ≡ codes "a  "
zero_character_ends = refl

pub texts_are_filled : formatted (codes "%4s|%-4s|") (Written (codes "ab") ∷ Written (codes "(null)") ∷ []) ≡ codes "  ab|(null)|"
texts_are_filled = refl

-- Texts

pub negative_offset : apply_text call_of.Substring (Written (codes "abcd") ∷ Integer (negsuc 1) ∷ Integer (negsuc 0) ∷ []) ≡ Makes (codes "cd")
negative_offset = refl

pub offset_outside : apply_text call_of.Substring (Written (codes "abcd") ∷ Integer (pos 5) ∷ Integer (negsuc 0) ∷ []) ≡ Traps trap.Range
offset_outside = refl

pub byte_at_length : apply_text call_of.Byte (Written (codes "ab") ∷ Integer (pos 2) ∷ []) ≡ Gives (pos 0)
byte_at_length = refl

pub byte_outside : apply_text call_of.Byte (Written (codes "ab") ∷ Integer (pos 3) ∷ []) ≡ Traps trap.Index
byte_outside = refl

pub found_behind_start : apply_text call_of.IndexOf (Written (codes "abab") ∷ Written (codes "ab") ∷ Integer (pos 1) ∷ []) ≡ Gives (pos 2)
found_behind_start = refl

pub not_found : apply_text call_of.IndexOf (Written (codes "abab") ∷ Written (codes "x") ∷ Integer (pos 0) ∷ []) ≡ Gives (negsuc 0)
not_found = refl

pub place_is_modulo : or_minus_one 4294967290 (Some 8) ≡ Gives (pos 2)
place_is_modulo = refl

pub length_is_modulo : as_int 6442450943 ≡ Gives (pos 2147483647)
length_is_modulo = refl

pub suffix : apply_text call_of.HasSuffix (Written (codes "abc") ∷ Written (codes "bc") ∷ []) ≡ Gives (pos 1)
suffix = refl

pub number_read : apply_text call_of.ParseInt (Written (codes " -12x3") ∷ []) ≡ Gives (negsuc 11)
number_read = refl

pub number_held : apply_text call_of.ParseInt (Written (codes "99999999999") ∷ []) ≡ Gives (pos 2147483647)
number_held = refl

pub least_held : apply_text call_of.ParseInt (Written (codes "-99999999999") ∷ []) ≡ Gives (negsuc 2147483647)
least_held = refl

-- void main () { int a = 2147483647; a = a + 1; print ("%d\n", a); int b = -1; a = a / b; }
abbrev a : CoreExpr
a = local 0 int

abbrev calculated : Rattle.core_tree.specs.declared.values.Arithmetic.Arithmetic → CoreExpr → CoreExpr → CoreExpr
calculated o x y = apply (op.Arithmetic o kind.Int32) (x ∷ y ∷ [])

abbrev pub division : Core
division =
    program (object_class ∷ []) (
    method (frame [] (int ∷ int ∷ []) void) (block [] (
    set a (keep int (number 2147483647))
    ∷ assign int a (keep int (calculated arithmetic.Add a (number 1)))
    ∷ say (codes "%d") (a ∷ [])
    ∷ set (local 1 int) (keep int (apply (op.Number true 1) []))
    ∷ assign int a (keep int (calculated arithmetic.Divide a (local 1 int)))
    ∷ []
    ))
    ∷ []
    ) []

pub division_row : Row division quiet_world 150 (line (codes "-2147483648") ∷ []) (Trapped trap.Division) ([])
unfolding Rattle.core_tree.specs.declared.tree.CoreExpr.TheViews.out-CoreStmt denote.Hole.Carrier.out Rattle.core_tree.specs.declared.tree.CoreExpr.TheBlock.shown-the_row-CoreStmt-3 denote.Hole.Carrier.shown denote.Hole.Carrier.hidden Rattle.core_tree.specs.declared.tree.CoreExpr.TheViews.out-CoreExpr Rattle.std.specs.Fmt.digits
division_row = record { says = refl; ends = refl; lives = refl }

-- void main () { int[] a = new int[0]; print ("%d\n", a[0]); }
abbrev numbers : Item
numbers = record { shape = item.Int kind.Int32; nullable = false }

abbrev numbers_type : VType
numbers_type = owned (shape.Array numbers)

abbrev pub index_outside : Core
index_outside =
    program (object_class ∷ []) (
    method (frame [] (numbers_type ∷ []) void) (block (of 0 numbers_type ∷ []) (
    set (local 0 numbers_type) (moved numbers_type (apply (op.NewArray numbers) (number 0 ∷ [])))
    ∷ say (codes "%d") (apply (op.Element numbers) (local 0 numbers_type ∷ number 0 ∷ []) ∷ [])
    ∷ []
    ))
    ∷ []
    ) []

pub index_outside_row : Row index_outside quiet_world 150 (Made Array ∷ []) (Trapped trap.Index) (record { kind = Array; serial = 1; owners = 1 } ∷ [])
unfolding Rattle.core_tree.specs.declared.tree.CoreExpr.TheViews.out-CoreStmt denote.Hole.Carrier.out Rattle.core_tree.specs.declared.tree.CoreExpr.TheBlock.shown-the_row-CoreStmt-3 denote.Hole.Carrier.shown denote.Hole.Carrier.hidden Rattle.core_tree.specs.declared.tree.CoreExpr.TheViews.out-CoreExpr Rattle.std.specs.Fmt.digits
index_outside_row = record { says = refl; ends = refl; lives = refl }

-- int main (string[] args) {
--   string? l = stdin.read_line ();
--   while (l != null) { print ("%s:%s\n", args[0], l); l = stdin.read_line (); }
--   string[] copy = args; return copy.length + 2;
-- }
abbrev texts : Item
texts = record { shape = item.Text; nullable = false }

abbrev lent_texts : VType
lent_texts = unowned (shape.Array texts)

abbrev texts_type : VType
texts_type = owned (shape.Array texts)

abbrev l : CoreExpr
l = local 1 text

abbrev next_line : CoreExpr
next_line = moved text (apply (op.TextFunction call_of.ReadLine) [])

abbrev pub lines_read : Core
lines_read =
    program (object_class ∷ []) (
    method (frame (by_value lent_texts ∷ []) (text ∷ texts_type ∷ []) int) (block (of 1 text ∷ of 2 texts_type ∷ []) (
    set l next_line
    ∷ st.While (apply (op.CompareTexts compare.Unequal) (l ∷ null ∷ [])) (block [] (
    say (codes "%s:%s") (apply (op.Element texts) (local 0 lent_texts ∷ number 0 ∷ []) ∷ l ∷ [])
    ∷ assign text l next_line
    ∷ []
    )) here
    ∷ set (local 2 texts_type) (changed change.CopyArray texts_type (local 0 lent_texts))
    ∷ st.Return (keep int (calculated arithmetic.Add (apply (op.Part part.ArrayLength) (local 2 texts_type ∷ [])) (number 2)) ∷ []) here
    ∷ []
    ))
    ∷ []
    ) []

abbrev two_lines : World
two_lines = record { name = codes "a"; input = codes "x\ny"; entries = [] }

pub lines_read_row : Row lines_read two_lines 300 (Made Text ∷ line (codes "a:x") ∷ Made Text ∷ Gone 1 ∷ line (codes "a:y") ∷ Gone 2 ∷ Made Array ∷ Made Text ∷ Gone 4 ∷ Gone 3 ∷ []) (Ended (pos 3)) ([])
unfolding Rattle.core_tree.specs.declared.tree.CoreExpr.TheViews.out-CoreStmt denote.Hole.Carrier.out Rattle.core_tree.specs.declared.tree.CoreExpr.TheBlock.shown-the_row-CoreStmt-3 denote.Hole.Carrier.shown denote.Hole.Carrier.hidden Rattle.core_tree.specs.declared.tree.CoreExpr.TheViews.out-CoreExpr Rattle.std.specs.Fmt.digits
lines_read_row = record { says = refl; ends = refl; lives = refl }
