-- Numbers, places and lines, and what is heard in which order.
use Rattle.std.proofs.Common.{refl, ℕ, List, [], ◌∷◌, ◌++◌, codes, pos, Some, None}
use Rattle.vg_base.specs.declared.event.Entry.TheVariants.{Pick, Wait}
use Rattle.vg_base.specs.declared.event.Event.TheVariants.{Print, Made, Gone, Dispatch}
use Rattle.vg_base.specs.declared.event.Stream.TheVariants.{Out}
use Rattle.vg_base.specs.declared.event.ThingKind.TheVariants.{Object, Text}
use Rattle.vg_base.specs.declared.event.CEnd.TheVariants.{Ended, Undefined}
use Rattle.vg_base.specs.declared.event.UndefKind.TheVariants as undef
use Rattle.c_meaning.proofs.Build.{Runs, computed, quiet_world, scripted}

-- Quotients are cut toward zero, shifts keep the sign, and what has no sign wraps.
abbrev arithmetic_text : List ℕ
arithmetic_text =
    codes "int main (int argc, char **argv) { guint u; guint64 w; gint16 s; guint16 t; gchar c; u = 0U; u = u - 1; w = 18446744073709551615UL; w = w + 1; s = 40000; t = -1; c = 200; "
    ++ codes "g_print (\"%d %d %d %d %u %lu %d %d %d \", -7 / 2, -7 % 2, 7 % -2, -7 >> 1, u, w, s, t, c); g_print (\"%d %d %d %u %u %d %ld\", ~0, -5 & 3, 1 ^ -1, 7U % -2, 7U / -2, ~t, -9223372036854775807 - 1); return (gint) (9223372036854775807 + 1); } "

pub arithmetic : Runs arithmetic_text (quiet_world) 40 ((Print Out (codes "-3 -1 1 -4 4294967295 0 -25536 65535 -56 ")) ∷ (Print Out (codes "-1 3 -2 7 0 -65536 -9223372036854775808")) ∷ []) (Some (Undefined undef.Overflow)) ([])
unfolding Rattle.c_lexer.specs.Tokens.next_of Rattle.c_lexer.specs.Blanks.blanks_within Rattle.c_lexer.specs.Cut.cut Rattle.c_tree.specs.declared.code.Stmt.TheViews.out-Stmt denote.Hole.Carrier.out Rattle.c_tree.specs.declared.code.Shape.TheViews.out-Shape Rattle.c_tree.specs.declared.code.Shape.TheViews.out-Suffix Rattle.c_tree.specs.declared.code.Shape.TheBlock.shown-the_row-Expr-0 Rattle.c_tree.specs.declared.code.Shape.TheBlock.shown-the_row-Suffix-1 Rattle.c_tree.specs.declared.code.Shape.TheBlock.shown-the_row-Link-2 Rattle.c_tree.specs.declared.code.Shape.TheBlock.shown-the_row-Choice-3 denote.Hole.Carrier.shown denote.Hole.Carrier.hidden Rattle.c_tree.specs.declared.code.Stmt.TheBlock.shown-the_row-Stmt-0 Rattle.std.specs.Fmt.digits
arithmetic = computed arithmetic_text (quiet_world) 40 (record { trace = (Print Out (codes "-3 -1 1 -4 4294967295 0 -25536 65535 -56 ")) ∷ (Print Out (codes "-1 3 -2 7 0 -65536 -9223372036854775808")) ∷ []; ended = Some (Undefined undef.Overflow); live = [] }) refl

-- Pointers of one block have a difference, and those of two have none.
abbrev pointers_text : List ℕ
pointers_text =
    codes "static const gchar *s = \"abc\" + 1; "
    ++ codes "int main (int argc, char **argv) { gchar *p; gchar *q; p = \"xyz\"; q = p + 3; g_print (\"%ld %ld %s %d %d\", q - p, p - q, s, *s, p != q); return (gint) (p - s); } "

pub pointers : Runs pointers_text (quiet_world) 40 ((Print Out (codes "3 -3 bc 98 1")) ∷ []) (Some (Undefined undef.Outside)) ([])
unfolding Rattle.c_lexer.specs.Tokens.next_of Rattle.c_lexer.specs.Blanks.blanks_within Rattle.c_lexer.specs.Cut.cut Rattle.c_tree.specs.declared.code.Stmt.TheViews.out-Stmt denote.Hole.Carrier.out Rattle.c_tree.specs.declared.code.Shape.TheViews.out-Shape Rattle.c_tree.specs.declared.code.Shape.TheViews.out-Suffix Rattle.c_tree.specs.declared.code.Shape.TheBlock.shown-the_row-Expr-0 Rattle.c_tree.specs.declared.code.Shape.TheBlock.shown-the_row-Suffix-1 Rattle.c_tree.specs.declared.code.Shape.TheBlock.shown-the_row-Link-2 Rattle.c_tree.specs.declared.code.Shape.TheBlock.shown-the_row-Choice-3 denote.Hole.Carrier.shown denote.Hole.Carrier.hidden Rattle.c_tree.specs.declared.code.Stmt.TheBlock.shown-the_row-Stmt-0 Rattle.std.specs.Fmt.digits
pointers = computed pointers_text (quiet_world) 40 (record { trace = (Print Out (codes "3 -3 bc 98 1")) ∷ []; ended = Some (Undefined undef.Outside); live = [] }) refl

-- A handler without a detail hears each notification, and one with a detail that of its own name, in the order of connection.
abbrev details_text : List ℕ
details_text =
    codes "void set (GObject *o, guint id, GValue *v, GParamSpec *p) { guint8 u; u = g_value_get_uchar (v); g_print (\"%s%d \", p->name, u); } void hear (GObject *o, GParamSpec *p, gpointer d) { g_print (\"%s:%s \", p->name, (gchar *) d); } "
    ++ codes "void kinit (GObjectClass *c) { GParamSpec *p; c->set_property = set; p = g_param_spec_uchar (\"v\", \"\", \"\", 0, 9, 4, G_PARAM_READWRITE); g_object_class_install_property (c, 1U, p); p = g_param_spec_uchar (\"w\", \"\", \"\", 0, 9, 4, G_PARAM_READWRITE); g_object_class_install_property (c, 2U, p); } "
    ++ codes "int main (int argc, char **argv) { GType t; GObject *a; gulong h; t = g_type_register_static_simple (G_TYPE_OBJECT, \"A\", sizeof (GObjectClass), (gpointer) kinit, sizeof (GObject), NULL, 0); a = g_object_new (t, \"v\", 300, \"v\", -1L, NULL); "
    ++ codes "h = g_signal_connect_data (a, \"notify::v\", (gpointer) hear, \"1\", NULL, G_CONNECT_AFTER); h = g_signal_connect_data (a, \"notify\", (gpointer) hear, \"2\", NULL, 0); h = g_signal_connect_data (a, \"notify::w\", (gpointer) hear, \"3\", NULL, 0); "
    ++ codes "g_object_notify (a, \"v\"); g_object_notify (a, \"w\"); a = g_object_new (t, \"v\", NULL, NULL); return 0; } "

pub details : Runs details_text (quiet_world) 90 ((Made Object) ∷ (Print Out (codes "v44 ")) ∷ (Print Out (codes "v255 ")) ∷ (Print Out (codes "v:2 ")) ∷ (Print Out (codes "v:1 ")) ∷ (Print Out (codes "w:2 ")) ∷ (Print Out (codes "w:3 ")) ∷ []) (Some (Undefined undef.Kind)) (record { kind = Object; serial = 1; owners = 1 } ∷ [])
unfolding Rattle.c_lexer.specs.Tokens.next_of Rattle.c_lexer.specs.Blanks.blanks_within Rattle.c_lexer.specs.Cut.cut Rattle.c_tree.specs.declared.code.Stmt.TheViews.out-Stmt denote.Hole.Carrier.out Rattle.c_tree.specs.declared.code.Shape.TheViews.out-Shape Rattle.c_tree.specs.declared.code.Shape.TheViews.out-Suffix Rattle.c_tree.specs.declared.code.Shape.TheBlock.shown-the_row-Expr-0 Rattle.c_tree.specs.declared.code.Shape.TheBlock.shown-the_row-Suffix-1 Rattle.c_tree.specs.declared.code.Shape.TheBlock.shown-the_row-Link-2 Rattle.c_tree.specs.declared.code.Shape.TheBlock.shown-the_row-Choice-3 denote.Hole.Carrier.shown denote.Hole.Carrier.hidden Rattle.c_tree.specs.declared.code.Stmt.TheBlock.shown-the_row-Stmt-0 Rattle.std.specs.Fmt.digits
details = computed details_text (quiet_world) 90 (record { trace = (Made Object) ∷ (Print Out (codes "v44 ")) ∷ (Print Out (codes "v255 ")) ∷ (Print Out (codes "v:2 ")) ∷ (Print Out (codes "v:1 ")) ∷ (Print Out (codes "w:2 ")) ∷ (Print Out (codes "w:3 ")) ∷ []; ended = Some (Undefined undef.Kind); live = record { kind = Object; serial = 1; owners = 1 } ∷ [] }) refl

-- A signal of an interface is emitted by an object of a class that has it.
abbrev interface_signal_text : List ℕ
interface_signal_text =
    codes "void fill (gpointer t) { } void hear (GObject *o, gpointer x, gpointer d) { g_print (\"%s%d\", (gchar *) x, o == d); } static const GInterfaceInfo v = { (GInterfaceInitFunc) fill, NULL, NULL }; "
    ++ codes "int main (int argc, char **argv) { GType i; GType t; GObject *a; guint s; gulong h; i = g_type_register_static_simple (G_TYPE_INTERFACE, \"I\", 2U, NULL, 0U, NULL, 0); s = g_signal_new (\"hit\", i, G_SIGNAL_RUN_LAST, 0, NULL, NULL, NULL, G_TYPE_NONE, 1U, G_TYPE_STRING); "
    ++ codes "t = g_type_register_static_simple (G_TYPE_OBJECT, \"A\", sizeof (GObjectClass), NULL, sizeof (GObject), NULL, 0); g_type_add_interface_static (t, i, &v); a = g_object_new (t, NULL); h = g_signal_connect_data (a, \"hit\", (gpointer) hear, a, NULL, 0); g_signal_emit (a, s, 0, \"x\"); "
    ++ codes "a = g_object_new (G_TYPE_OBJECT, NULL); g_signal_emit (a, s, 0, \"x\"); return 0; } "

pub interface_signal : Runs interface_signal_text (quiet_world) 80 ((Made Object) ∷ (Print Out (codes "x1")) ∷ (Made Object) ∷ []) (Some (Undefined undef.Kind)) (record { kind = Object; serial = 1; owners = 1 } ∷ record { kind = Object; serial = 2; owners = 1 } ∷ [])
unfolding Rattle.c_lexer.specs.Tokens.next_of Rattle.c_lexer.specs.Blanks.blanks_within Rattle.c_lexer.specs.Cut.cut Rattle.c_tree.specs.declared.code.Stmt.TheViews.out-Stmt denote.Hole.Carrier.out Rattle.c_tree.specs.declared.code.Shape.TheViews.out-Shape Rattle.c_tree.specs.declared.code.Shape.TheViews.out-Suffix Rattle.c_tree.specs.declared.code.Shape.TheBlock.shown-the_row-Expr-0 Rattle.c_tree.specs.declared.code.Shape.TheBlock.shown-the_row-Suffix-1 Rattle.c_tree.specs.declared.code.Shape.TheBlock.shown-the_row-Link-2 Rattle.c_tree.specs.declared.code.Shape.TheBlock.shown-the_row-Choice-3 denote.Hole.Carrier.shown denote.Hole.Carrier.hidden Rattle.c_tree.specs.declared.code.Stmt.TheBlock.shown-the_row-Stmt-0 Rattle.std.specs.Fmt.digits
interface_signal = computed interface_signal_text (quiet_world) 80 (record { trace = (Made Object) ∷ (Print Out (codes "x1")) ∷ (Made Object) ∷ []; ended = Some (Undefined undef.Kind); live = record { kind = Object; serial = 1; owners = 1 } ∷ record { kind = Object; serial = 2; owners = 1 } ∷ [] }) refl

-- A line is cut at a zero byte, an empty line is a text, and the last one needs no line feed.
abbrev lines_cut_text : List ℕ
lines_cut_text =
    codes "int main (int argc, char **argv) { gchar *p; L: ; p = vala_rt_read_line (); g_print (\"[%s]\", p); if (p != NULL) goto L; return 0; } "

pub lines_cut : Runs lines_cut_text (record { name = codes "a"; input = 97 ∷ 0 ∷ 98 ∷ 10 ∷ 10 ∷ 99 ∷ []; entries = [] }) 60 ((Made Text) ∷ (Print Out (codes "[a]")) ∷ (Made Text) ∷ (Print Out (codes "[]")) ∷ (Made Text) ∷ (Print Out (codes "[c]")) ∷ (Print Out (codes "[(null)]")) ∷ []) (Some (Ended (pos 0))) (record { kind = Text; serial = 1; owners = 1 } ∷ record { kind = Text; serial = 2; owners = 1 } ∷ record { kind = Text; serial = 3; owners = 1 } ∷ [])
unfolding Rattle.c_lexer.specs.Tokens.next_of Rattle.c_lexer.specs.Blanks.blanks_within Rattle.c_lexer.specs.Cut.cut Rattle.c_tree.specs.declared.code.Stmt.TheViews.out-Stmt denote.Hole.Carrier.out Rattle.c_tree.specs.declared.code.Shape.TheViews.out-Shape Rattle.c_tree.specs.declared.code.Shape.TheViews.out-Suffix Rattle.c_tree.specs.declared.code.Shape.TheBlock.shown-the_row-Expr-0 Rattle.c_tree.specs.declared.code.Shape.TheBlock.shown-the_row-Suffix-1 Rattle.c_tree.specs.declared.code.Shape.TheBlock.shown-the_row-Link-2 Rattle.c_tree.specs.declared.code.Shape.TheBlock.shown-the_row-Choice-3 denote.Hole.Carrier.shown denote.Hole.Carrier.hidden Rattle.c_tree.specs.declared.code.Stmt.TheBlock.shown-the_row-Stmt-0 Rattle.std.specs.Fmt.digits
lines_cut = computed lines_cut_text (record { name = codes "a"; input = 97 ∷ 0 ∷ 98 ∷ 10 ∷ 10 ∷ 99 ∷ []; entries = [] }) 60 (record { trace = (Made Text) ∷ (Print Out (codes "[a]")) ∷ (Made Text) ∷ (Print Out (codes "[]")) ∷ (Made Text) ∷ (Print Out (codes "[c]")) ∷ (Print Out (codes "[(null)]")) ∷ []; ended = Some (Ended (pos 0)); live = record { kind = Text; serial = 1; owners = 1 } ∷ record { kind = Text; serial = 2; owners = 1 } ∷ record { kind = Text; serial = 3; owners = 1 } ∷ [] }) refl

-- A pointer into the middle of a block frees nothing.
abbrev inner_pointer_text : List ℕ
inner_pointer_text =
    codes "int main (int argc, char **argv) { gchar *p; p = g_strdup (\"abc\"); g_free (p + 1); return 0; } "

pub inner_pointer : Runs inner_pointer_text (quiet_world) 30 ((Made Text) ∷ []) (Some (Undefined undef.Kind)) (record { kind = Text; serial = 1; owners = 1 } ∷ [])
unfolding Rattle.c_lexer.specs.Tokens.next_of Rattle.c_lexer.specs.Blanks.blanks_within Rattle.c_lexer.specs.Cut.cut Rattle.c_tree.specs.declared.code.Stmt.TheViews.out-Stmt denote.Hole.Carrier.out Rattle.c_tree.specs.declared.code.Shape.TheViews.out-Shape Rattle.c_tree.specs.declared.code.Shape.TheViews.out-Suffix Rattle.c_tree.specs.declared.code.Shape.TheBlock.shown-the_row-Expr-0 Rattle.c_tree.specs.declared.code.Shape.TheBlock.shown-the_row-Suffix-1 Rattle.c_tree.specs.declared.code.Shape.TheBlock.shown-the_row-Link-2 Rattle.c_tree.specs.declared.code.Shape.TheBlock.shown-the_row-Choice-3 denote.Hole.Carrier.shown denote.Hole.Carrier.hidden Rattle.c_tree.specs.declared.code.Stmt.TheBlock.shown-the_row-Stmt-0 Rattle.std.specs.Fmt.digits
inner_pointer = computed inner_pointer_text (quiet_world) 30 (record { trace = (Made Text) ∷ []; ended = Some (Undefined undef.Kind); live = record { kind = Text; serial = 1; owners = 1 } ∷ [] }) refl

-- A struct is given and taken whole, through calls and choices.
abbrev struct_result_text : List ℕ
struct_result_text =
    codes "typedef struct _P P; struct _P { gint x; gint y; }; P f (P a, gint b) { a.x = b; return b > 1 ? a : a; } "
    ++ codes "int main (int argc, char **argv) { P p; P *q; p.x = 1; p.y = 2; q = &p; *q = f (*q, 7); g_print (\"%d %d %d\", q->x, (&p)->y, (q + 1) - 1 == q); q = q + 1; *q = p; return 0; } "

pub struct_result : Runs struct_result_text (quiet_world) 40 ((Print Out (codes "7 2 1")) ∷ []) (Some (Undefined undef.Outside)) ([])
unfolding Rattle.c_lexer.specs.Tokens.next_of Rattle.c_lexer.specs.Blanks.blanks_within Rattle.c_lexer.specs.Cut.cut Rattle.c_tree.specs.declared.code.Stmt.TheViews.out-Stmt denote.Hole.Carrier.out Rattle.c_tree.specs.declared.code.Shape.TheViews.out-Shape Rattle.c_tree.specs.declared.code.Shape.TheViews.out-Suffix Rattle.c_tree.specs.declared.code.Shape.TheBlock.shown-the_row-Expr-0 Rattle.c_tree.specs.declared.code.Shape.TheBlock.shown-the_row-Suffix-1 Rattle.c_tree.specs.declared.code.Shape.TheBlock.shown-the_row-Link-2 Rattle.c_tree.specs.declared.code.Shape.TheBlock.shown-the_row-Choice-3 denote.Hole.Carrier.shown denote.Hole.Carrier.hidden Rattle.c_tree.specs.declared.code.Stmt.TheBlock.shown-the_row-Stmt-0 Rattle.std.specs.Fmt.digits
struct_result = computed struct_result_text (quiet_world) 40 (record { trace = (Print Out (codes "7 2 1")) ∷ []; ended = Some (Undefined undef.Outside); live = [] }) refl

-- An entry of the script chooses among the sources that are ready, by rising id; a wait moves the clock.
abbrev sources_in_order_text : List ℕ
sources_in_order_text =
    codes "gint f (gpointer d) { g_print (\"%s \", (gchar *) d); return TRUE; } "
    ++ codes "int main (int argc, char **argv) { GMainLoop *l; guint s; l = g_main_loop_new (NULL, FALSE); s = g_timeout_add_full (0, 5U, (gpointer) f, \"5\", NULL); s = g_timeout_add_full (0, 3U, (gpointer) f, \"3\", NULL); s = g_timeout_add_full (0, 0U, (gpointer) f, \"0\", NULL); g_main_loop_run (l); return 0; } "

pub sources_in_order : Runs sources_in_order_text (scripted (Wait 2 ∷ Wait 3 ∷ Pick 3 ∷ Pick 0 ∷ [])) 23 ((Made Object) ∷ (Dispatch 1) ∷ (Print Out (codes "5 ")) ∷ (Dispatch 2) ∷ (Print Out (codes "3 ")) ∷ (Dispatch 3) ∷ (Print Out (codes "0 ")) ∷ (Dispatch 3) ∷ (Print Out (codes "0 ")) ∷ (Dispatch 3) ∷ []) (None) (record { kind = Object; serial = 1; owners = 2 } ∷ [])
unfolding Rattle.c_lexer.specs.Tokens.next_of Rattle.c_lexer.specs.Blanks.blanks_within Rattle.c_lexer.specs.Cut.cut Rattle.c_tree.specs.declared.code.Stmt.TheViews.out-Stmt denote.Hole.Carrier.out Rattle.c_tree.specs.declared.code.Shape.TheViews.out-Shape Rattle.c_tree.specs.declared.code.Shape.TheViews.out-Suffix Rattle.c_tree.specs.declared.code.Shape.TheBlock.shown-the_row-Expr-0 Rattle.c_tree.specs.declared.code.Shape.TheBlock.shown-the_row-Suffix-1 Rattle.c_tree.specs.declared.code.Shape.TheBlock.shown-the_row-Link-2 Rattle.c_tree.specs.declared.code.Shape.TheBlock.shown-the_row-Choice-3 denote.Hole.Carrier.shown denote.Hole.Carrier.hidden Rattle.c_tree.specs.declared.code.Stmt.TheBlock.shown-the_row-Stmt-0 Rattle.std.specs.Fmt.digits
sources_in_order = computed sources_in_order_text (scripted (Wait 2 ∷ Wait 3 ∷ Pick 3 ∷ Pick 0 ∷ [])) 23 (record { trace = (Made Object) ∷ (Dispatch 1) ∷ (Print Out (codes "5 ")) ∷ (Dispatch 2) ∷ (Print Out (codes "3 ")) ∷ (Dispatch 3) ∷ (Print Out (codes "0 ")) ∷ (Dispatch 3) ∷ (Print Out (codes "0 ")) ∷ (Dispatch 3) ∷ []; ended = None; live = record { kind = Object; serial = 1; owners = 2 } ∷ [] }) refl
