-- Functions of texts and their answers.
use Rattle.std.proofs.Common.{refl, ℕ, List, [], ◌∷◌, ◌++◌, codes, pos, Some}
use Rattle.vg_base.specs.declared.event.Event.TheVariants.{Print, Made, Gone}
use Rattle.vg_base.specs.declared.event.Stream.TheVariants.{Out, Err}
use Rattle.vg_base.specs.declared.event.ThingKind.TheVariants.{Text, Array, Error, Activation}
use Rattle.vg_base.specs.declared.event.CEnd.TheVariants.{Ended, Undefined, Aborted}
use Rattle.vg_base.specs.declared.event.UndefKind.TheVariants as undef
use Rattle.vg_base.specs.declared.event.TrapKind.TheVariants as trap
use Rattle.c_meaning.proofs.Build.{Runs, computed, quiet_world}

-- What the functions of texts give.
abbrev texts_text : List ℕ
texts_text =
    codes "int main (int argc, char **argv) { gint i; gsize n; gchar *p; gint64 v; "
    ++ codes "i = g_strcmp0 (\"ab\", \"b\"); g_print (\"%d \", i); i = g_strcmp0 (\"b\", NULL); g_print (\"%d \", i); n = strlen (\"abc\"); g_print (\"%lu \", n); "
    ++ codes "i = g_str_has_prefix (\"abc\", \"ab\"); g_print (\"%d \", i); i = g_str_has_suffix (\"abc\", \"ab\"); g_print (\"%d \", i); p = g_strstr_len (\"xabc\", -1, \"b\"); g_print (\"%s \", p); "
    ++ codes "v = g_ascii_strtoll (\" -12x\", NULL, 10); g_print (\"%ld \", v); p = g_strdup (NULL); g_print (\"%s \", p); p = g_strndup (\"abc\", 2U); g_print (\"%s\", p); return 0; } "

pub texts : Runs texts_text (quiet_world) 60 ((Print Out (codes "-1 ")) ∷ (Print Out (codes "1 ")) ∷ (Print Out (codes "3 ")) ∷ (Print Out (codes "1 ")) ∷ (Print Out (codes "0 ")) ∷ (Print Out (codes "bc ")) ∷ (Print Out (codes "-12 ")) ∷ (Print Out (codes "(null) ")) ∷ (Made Text) ∷ (Print Out (codes "ab")) ∷ []) (Some (Ended (pos 0))) (record { kind = Text; serial = 1; owners = 1 } ∷ [])
unfolding Rattle.c_lexer.specs.Tokens.next_of Rattle.c_lexer.specs.Blanks.blanks_within Rattle.c_lexer.specs.Cut.cut Rattle.c_tree.specs.declared.code.Stmt.TheViews.out-Stmt denote.Hole.Carrier.out Rattle.c_tree.specs.declared.code.Shape.TheViews.out-Shape Rattle.c_tree.specs.declared.code.Shape.TheViews.out-Suffix Rattle.c_tree.specs.declared.code.Shape.TheBlock.shown-the_row-Expr-0 Rattle.c_tree.specs.declared.code.Shape.TheBlock.shown-the_row-Suffix-1 Rattle.c_tree.specs.declared.code.Shape.TheBlock.shown-the_row-Link-2 Rattle.c_tree.specs.declared.code.Shape.TheBlock.shown-the_row-Choice-3 denote.Hole.Carrier.shown denote.Hole.Carrier.hidden Rattle.c_tree.specs.declared.code.Stmt.TheBlock.shown-the_row-Stmt-0 Rattle.std.specs.Fmt.digits
texts = computed texts_text (quiet_world) 60 (record { trace = (Print Out (codes "-1 ")) ∷ (Print Out (codes "1 ")) ∷ (Print Out (codes "3 ")) ∷ (Print Out (codes "1 ")) ∷ (Print Out (codes "0 ")) ∷ (Print Out (codes "bc ")) ∷ (Print Out (codes "-12 ")) ∷ (Print Out (codes "(null) ")) ∷ (Made Text) ∷ (Print Out (codes "ab")) ∷ []; ended = Some (Ended (pos 0)); live = record { kind = Text; serial = 1; owners = 1 } ∷ [] }) refl

-- Widths and flags, and a zero character that ends the text.
abbrev formats_text : List ℕ
formats_text =
    codes "int main (int argc, char **argv) { g_print (\"%05d|%-5d|%X|%5s|%%|\", -42, 7, 48879U, \"ab\"); g_printerr (\"x\"); g_print (\"a%3cb%d\", 0, 5); return 0; } "

pub formats : Runs formats_text (quiet_world) 20 ((Print Out (codes "-0042|7    |BEEF|   ab|%|")) ∷ (Print Err (codes "x")) ∷ (Print Out (codes "a  ")) ∷ []) (Some (Ended (pos 0))) ([])
unfolding Rattle.c_lexer.specs.Tokens.next_of Rattle.c_lexer.specs.Blanks.blanks_within Rattle.c_lexer.specs.Cut.cut Rattle.c_tree.specs.declared.code.Stmt.TheViews.out-Stmt denote.Hole.Carrier.out Rattle.c_tree.specs.declared.code.Shape.TheViews.out-Shape Rattle.c_tree.specs.declared.code.Shape.TheViews.out-Suffix Rattle.c_tree.specs.declared.code.Shape.TheBlock.shown-the_row-Expr-0 Rattle.c_tree.specs.declared.code.Shape.TheBlock.shown-the_row-Suffix-1 Rattle.c_tree.specs.declared.code.Shape.TheBlock.shown-the_row-Link-2 Rattle.c_tree.specs.declared.code.Shape.TheBlock.shown-the_row-Choice-3 denote.Hole.Carrier.shown denote.Hole.Carrier.hidden Rattle.c_tree.specs.declared.code.Stmt.TheBlock.shown-the_row-Stmt-0 Rattle.std.specs.Fmt.digits
formats = computed formats_text (quiet_world) 20 (record { trace = (Print Out (codes "-0042|7    |BEEF|   ab|%|")) ∷ (Print Err (codes "x")) ∷ (Print Out (codes "a  ")) ∷ []; ended = Some (Ended (pos 0)); live = [] }) refl

-- An array of too many elements is the end `length`.
abbrev array_too_long_text : List ℕ
array_too_long_text =
    codes "int main (int argc, char **argv) { gpointer p; p = g_new0 (gint, -1); return 0; } "

pub array_too_long : Runs array_too_long_text (quiet_world) 20 ([]) (Some (Aborted trap.Length)) ([])
unfolding Rattle.c_lexer.specs.Tokens.next_of Rattle.c_lexer.specs.Blanks.blanks_within Rattle.c_lexer.specs.Cut.cut Rattle.c_tree.specs.declared.code.Stmt.TheViews.out-Stmt denote.Hole.Carrier.out Rattle.c_tree.specs.declared.code.Shape.TheViews.out-Shape Rattle.c_tree.specs.declared.code.Shape.TheViews.out-Suffix Rattle.c_tree.specs.declared.code.Shape.TheBlock.shown-the_row-Expr-0 Rattle.c_tree.specs.declared.code.Shape.TheBlock.shown-the_row-Suffix-1 Rattle.c_tree.specs.declared.code.Shape.TheBlock.shown-the_row-Link-2 Rattle.c_tree.specs.declared.code.Shape.TheBlock.shown-the_row-Choice-3 denote.Hole.Carrier.shown denote.Hole.Carrier.hidden Rattle.c_tree.specs.declared.code.Stmt.TheBlock.shown-the_row-Stmt-0 Rattle.std.specs.Fmt.digits
array_too_long = computed array_too_long_text (quiet_world) 20 (record { trace = []; ended = Some (Aborted trap.Length); live = [] }) refl

-- A number is converted to its place, and a pointer moves by whole cells of its type.
abbrev converted_text : List ℕ
converted_text =
    codes "typedef struct _P P; struct _P { gint x; gint y; }; "
    ++ codes "int main (int argc, char **argv) { gint i; guint8 u; gint *q; guint8 *b; P *p; i = 511; b = (guint8 *) &i; u = *b; i = -1; g_print (\"%d %d %d \", u, i < 1U, (gint8) 200); p = g_new0 (P, 2); (p + 1)->y = 5; q = (gint *) p; g_print (\"%d %d\", q[3], p[1].x); q = q + 5; return 0; } "

pub converted : Runs converted_text (quiet_world) 30 ((Print Out (codes "255 0 -56 ")) ∷ (Made Array) ∷ (Print Out (codes "5 0")) ∷ []) (Some (Undefined undef.Outside)) (record { kind = Array; serial = 1; owners = 1 } ∷ [])
unfolding Rattle.c_lexer.specs.Tokens.next_of Rattle.c_lexer.specs.Blanks.blanks_within Rattle.c_lexer.specs.Cut.cut Rattle.c_tree.specs.declared.code.Stmt.TheViews.out-Stmt denote.Hole.Carrier.out Rattle.c_tree.specs.declared.code.Shape.TheViews.out-Shape Rattle.c_tree.specs.declared.code.Shape.TheViews.out-Suffix Rattle.c_tree.specs.declared.code.Shape.TheBlock.shown-the_row-Expr-0 Rattle.c_tree.specs.declared.code.Shape.TheBlock.shown-the_row-Suffix-1 Rattle.c_tree.specs.declared.code.Shape.TheBlock.shown-the_row-Link-2 Rattle.c_tree.specs.declared.code.Shape.TheBlock.shown-the_row-Choice-3 denote.Hole.Carrier.shown denote.Hole.Carrier.hidden Rattle.c_tree.specs.declared.code.Stmt.TheBlock.shown-the_row-Stmt-0 Rattle.std.specs.Fmt.digits
converted = computed converted_text (quiet_world) 30 (record { trace = (Print Out (codes "255 0 -56 ")) ∷ (Made Array) ∷ (Print Out (codes "5 0")) ∷ []; ended = Some (Undefined undef.Outside); live = record { kind = Array; serial = 1; owners = 1 } ∷ [] }) refl

-- An error is copied with its message, and matches by domain and code.
abbrev copied_error_text : List ℕ
copied_error_text =
    codes "int main (int argc, char **argv) { GError *e; GError *f; gint b; e = g_error_new (3U, 4, \"%s\", \"m\"); f = g_error_copy (e); g_error_free (e); b = g_error_matches (f, 3U, 5); g_print (\"%s %d %d\", f->message, f->code, b); b = g_error_matches (NULL, 3U, 5); e->code = b; return 0; } "

pub copied_error : Runs copied_error_text (quiet_world) 30 ((Made Error) ∷ (Made Error) ∷ (Gone 1) ∷ (Print Out (codes "m 4 0")) ∷ []) (Some (Undefined undef.Freed)) (record { kind = Error; serial = 2; owners = 1 } ∷ [])
unfolding Rattle.c_lexer.specs.Tokens.next_of Rattle.c_lexer.specs.Blanks.blanks_within Rattle.c_lexer.specs.Cut.cut Rattle.c_tree.specs.declared.code.Stmt.TheViews.out-Stmt denote.Hole.Carrier.out Rattle.c_tree.specs.declared.code.Shape.TheViews.out-Shape Rattle.c_tree.specs.declared.code.Shape.TheViews.out-Suffix Rattle.c_tree.specs.declared.code.Shape.TheBlock.shown-the_row-Expr-0 Rattle.c_tree.specs.declared.code.Shape.TheBlock.shown-the_row-Suffix-1 Rattle.c_tree.specs.declared.code.Shape.TheBlock.shown-the_row-Link-2 Rattle.c_tree.specs.declared.code.Shape.TheBlock.shown-the_row-Choice-3 denote.Hole.Carrier.shown denote.Hole.Carrier.hidden Rattle.c_tree.specs.declared.code.Stmt.TheBlock.shown-the_row-Stmt-0 Rattle.std.specs.Fmt.digits
copied_error = computed copied_error_text (quiet_world) 30 (record { trace = (Made Error) ∷ (Made Error) ∷ (Gone 1) ∷ (Print Out (codes "m 4 0")) ∷ []; ended = Some (Undefined undef.Freed); live = record { kind = Error; serial = 2; owners = 1 } ∷ [] }) refl

-- A struct whose first field is its state is an activation.
abbrev activation_text : List ℕ
activation_text =
    codes "typedef struct _D D; struct _D { gint _state_; gint x; }; typedef struct _S S; struct _S { gint x; }; "
    ++ codes "int main (int argc, char **argv) { D *d; S *s; s = g_slice_new0 (S); d = g_slice_new0 (D); g_free (s); g_slice_free (D, d); g_free (d); return 0; } "

pub activation : Runs activation_text (quiet_world) 30 ((Made Activation) ∷ (Gone 1) ∷ []) (Some (Undefined undef.Freed)) ([])
unfolding Rattle.c_lexer.specs.Tokens.next_of Rattle.c_lexer.specs.Blanks.blanks_within Rattle.c_lexer.specs.Cut.cut Rattle.c_tree.specs.declared.code.Stmt.TheViews.out-Stmt denote.Hole.Carrier.out Rattle.c_tree.specs.declared.code.Shape.TheViews.out-Shape Rattle.c_tree.specs.declared.code.Shape.TheViews.out-Suffix Rattle.c_tree.specs.declared.code.Shape.TheBlock.shown-the_row-Expr-0 Rattle.c_tree.specs.declared.code.Shape.TheBlock.shown-the_row-Suffix-1 Rattle.c_tree.specs.declared.code.Shape.TheBlock.shown-the_row-Link-2 Rattle.c_tree.specs.declared.code.Shape.TheBlock.shown-the_row-Choice-3 denote.Hole.Carrier.shown denote.Hole.Carrier.hidden Rattle.c_tree.specs.declared.code.Stmt.TheBlock.shown-the_row-Stmt-0 Rattle.std.specs.Fmt.digits
activation = computed activation_text (quiet_world) 30 (record { trace = (Made Activation) ∷ (Gone 1) ∷ []; ended = Some (Undefined undef.Freed); live = [] }) refl
