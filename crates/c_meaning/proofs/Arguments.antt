-- Which argument decides, and what rows read.
use Rattle.std.proofs.Common.{refl, ℕ, List, [], ◌∷◌, ◌++◌, codes, pos, Some}
use Rattle.vg_base.specs.declared.event.Event.TheVariants.{Print, Made}
use Rattle.vg_base.specs.declared.event.Stream.TheVariants.{Out}
use Rattle.vg_base.specs.declared.event.ThingKind.TheVariants.{Object, Error}
use Rattle.vg_base.specs.declared.event.CEnd.TheVariants.{Ended, Undefined}
use Rattle.vg_base.specs.declared.event.UndefKind.TheVariants as undef
use Rattle.c_meaning.proofs.Build.{Runs, computed, quiet_world}

-- Of several wrong arguments the first decides: the name comes before the type.
abbrev null_name_text : List ℕ
null_name_text =
    codes "int main (int argc, char **argv) { gpointer p; p = g_param_spec_object (NULL, \"\", \"\", 5, 0); return 0; } "

pub null_name : Runs null_name_text (quiet_world) 20 ([]) (Some (Undefined undef.Null)) ([])
unfolding Rattle.c_lexer.specs.Tokens.next_of Rattle.c_lexer.specs.Blanks.blanks_within Rattle.c_lexer.specs.Cut.cut Rattle.c_tree.specs.declared.code.Stmt.TheViews.out-Stmt denote.Hole.Carrier.out Rattle.c_tree.specs.declared.code.Shape.TheViews.out-Shape Rattle.c_tree.specs.declared.code.Shape.TheViews.out-Suffix Rattle.c_tree.specs.declared.code.Shape.TheBlock.shown-the_row-Expr-0 Rattle.c_tree.specs.declared.code.Shape.TheBlock.shown-the_row-Suffix-1 Rattle.c_tree.specs.declared.code.Shape.TheBlock.shown-the_row-Link-2 Rattle.c_tree.specs.declared.code.Shape.TheBlock.shown-the_row-Choice-3 denote.Hole.Carrier.shown denote.Hole.Carrier.hidden Rattle.c_tree.specs.declared.code.Stmt.TheBlock.shown-the_row-Stmt-0 Rattle.std.specs.Fmt.digits
null_name = computed null_name_text (quiet_world) 20 (record { trace = []; ended = Some (Undefined undef.Null); live = [] }) refl

-- A property of pointers holds a function too.
abbrev function_held_text : List ℕ
function_held_text =
    codes "typedef void (*F) (void); void hi (void) { g_print (\"hi\"); } "
    ++ codes "void set (GObject *o, guint id, GValue *v, GParamSpec *p) { gpointer q; F f; q = g_value_get_string (v); f = (F) q; f (); } "
    ++ codes "void kinit (GObjectClass *c) { GParamSpec *p; c->set_property = set; p = g_param_spec_string (\"f\", \"\", \"\", (gpointer) hi, G_PARAM_CONSTRUCT); g_object_class_install_property (c, 1U, p); } "
    ++ codes "int main (int argc, char **argv) { GType t; gpointer o; t = g_type_register_static_simple (G_TYPE_OBJECT, \"A\", sizeof (GObjectClass), (gpointer) kinit, sizeof (GObject), NULL, 0); o = g_object_new (t, NULL); return 0; } "

pub function_held : Runs function_held_text (quiet_world) 60 ((Made Object) ∷ (Print Out (codes "hi")) ∷ []) (Some (Ended (pos 0))) (record { kind = Object; serial = 1; owners = 1 } ∷ [])
unfolding Rattle.c_lexer.specs.Tokens.next_of Rattle.c_lexer.specs.Blanks.blanks_within Rattle.c_lexer.specs.Cut.cut Rattle.c_tree.specs.declared.code.Stmt.TheViews.out-Stmt denote.Hole.Carrier.out Rattle.c_tree.specs.declared.code.Shape.TheViews.out-Shape Rattle.c_tree.specs.declared.code.Shape.TheViews.out-Suffix Rattle.c_tree.specs.declared.code.Shape.TheBlock.shown-the_row-Expr-0 Rattle.c_tree.specs.declared.code.Shape.TheBlock.shown-the_row-Suffix-1 Rattle.c_tree.specs.declared.code.Shape.TheBlock.shown-the_row-Link-2 Rattle.c_tree.specs.declared.code.Shape.TheBlock.shown-the_row-Choice-3 denote.Hole.Carrier.shown denote.Hole.Carrier.hidden Rattle.c_tree.specs.declared.code.Stmt.TheBlock.shown-the_row-Stmt-0 Rattle.std.specs.Fmt.digits
function_held = computed function_held_text (quiet_world) 60 (record { trace = (Made Object) ∷ (Print Out (codes "hi")) ∷ []; ended = Some (Ended (pos 0)); live = record { kind = Object; serial = 1; owners = 1 } ∷ [] }) refl

-- A property that is installed twice is set once, by its last id.
abbrev installed_twice_text : List ℕ
installed_twice_text =
    codes "void set (GObject *o, guint id, GValue *v, GParamSpec *p) { g_print (\"%u \", id); } "
    ++ codes "void kinit (GObjectClass *c) { GParamSpec *p; c->set_property = set; p = g_param_spec_int (\"f\", \"\", \"\", 0, 9, 4, G_PARAM_CONSTRUCT); g_object_class_install_property (c, 1U, p); g_object_class_install_property (c, 2U, p); } "
    ++ codes "int main (int argc, char **argv) { GType t; gpointer o; t = g_type_register_static_simple (G_TYPE_OBJECT, \"A\", sizeof (GObjectClass), (gpointer) kinit, sizeof (GObject), NULL, 0); o = g_object_new (t, NULL); return 0; } "

pub installed_twice : Runs installed_twice_text (quiet_world) 60 ((Made Object) ∷ (Print Out (codes "2 ")) ∷ []) (Some (Ended (pos 0))) (record { kind = Object; serial = 1; owners = 1 } ∷ [])
unfolding Rattle.c_lexer.specs.Tokens.next_of Rattle.c_lexer.specs.Blanks.blanks_within Rattle.c_lexer.specs.Cut.cut Rattle.c_tree.specs.declared.code.Stmt.TheViews.out-Stmt denote.Hole.Carrier.out Rattle.c_tree.specs.declared.code.Shape.TheViews.out-Shape Rattle.c_tree.specs.declared.code.Shape.TheViews.out-Suffix Rattle.c_tree.specs.declared.code.Shape.TheBlock.shown-the_row-Expr-0 Rattle.c_tree.specs.declared.code.Shape.TheBlock.shown-the_row-Suffix-1 Rattle.c_tree.specs.declared.code.Shape.TheBlock.shown-the_row-Link-2 Rattle.c_tree.specs.declared.code.Shape.TheBlock.shown-the_row-Choice-3 denote.Hole.Carrier.shown denote.Hole.Carrier.hidden Rattle.c_tree.specs.declared.code.Stmt.TheBlock.shown-the_row-Stmt-0 Rattle.std.specs.Fmt.digits
installed_twice = computed installed_twice_text (quiet_world) 60 (record { trace = (Made Object) ∷ (Print Out (codes "2 ")) ∷ []; ended = Some (Ended (pos 0)); live = record { kind = Object; serial = 1; owners = 1 } ∷ [] }) refl

-- The init of an interface is read where the interface is added.
abbrev unset_init_text : List ℕ
unset_init_text =
    codes "int main (int argc, char **argv) { GType i; GType t; GInterfaceInfo v; i = g_type_register_static_simple (G_TYPE_INTERFACE, \"I\", 2U, NULL, 0U, NULL, 0); "
    ++ codes "t = g_type_register_static_simple (G_TYPE_OBJECT, \"A\", 5U, NULL, 2U, NULL, 0); g_type_add_interface_static (t, i, &v); return 0; } "

pub unset_init : Runs unset_init_text (quiet_world) 4 ([]) (Some (Undefined undef.Unset)) ([])
unfolding Rattle.c_lexer.specs.Tokens.next_of Rattle.c_lexer.specs.Blanks.blanks_within Rattle.c_lexer.specs.Cut.cut Rattle.c_tree.specs.declared.code.Stmt.TheViews.out-Stmt denote.Hole.Carrier.out Rattle.c_tree.specs.declared.code.Shape.TheViews.out-Shape Rattle.c_tree.specs.declared.code.Shape.TheViews.out-Suffix Rattle.c_tree.specs.declared.code.Shape.TheBlock.shown-the_row-Expr-0 Rattle.c_tree.specs.declared.code.Shape.TheBlock.shown-the_row-Suffix-1 Rattle.c_tree.specs.declared.code.Shape.TheBlock.shown-the_row-Link-2 Rattle.c_tree.specs.declared.code.Shape.TheBlock.shown-the_row-Choice-3 denote.Hole.Carrier.shown denote.Hole.Carrier.hidden Rattle.c_tree.specs.declared.code.Stmt.TheBlock.shown-the_row-Stmt-0 Rattle.std.specs.Fmt.digits
unset_init = computed unset_init_text (quiet_world) 4 (record { trace = []; ended = Some (Undefined undef.Unset); live = [] }) refl

-- The code of an error is read as a `gint`, whatever number was stored.
abbrev code_read_text : List ℕ
code_read_text =
    codes "int main (int argc, char **argv) { GError *e; guint *p; gint b; e = g_error_new (1U, 2, \"x\"); p = (guint *) &e->code; *p = 4294967295U; b = g_error_matches (e, 1U, -1); g_print (\"%d %d\", e->code, b); return 0; } "

pub code_read : Runs code_read_text (quiet_world) 30 ((Made Error) ∷ (Print Out (codes "-1 1")) ∷ []) (Some (Ended (pos 0))) (record { kind = Error; serial = 1; owners = 1 } ∷ [])
unfolding Rattle.c_lexer.specs.Tokens.next_of Rattle.c_lexer.specs.Blanks.blanks_within Rattle.c_lexer.specs.Cut.cut Rattle.c_tree.specs.declared.code.Stmt.TheViews.out-Stmt denote.Hole.Carrier.out Rattle.c_tree.specs.declared.code.Shape.TheViews.out-Shape Rattle.c_tree.specs.declared.code.Shape.TheViews.out-Suffix Rattle.c_tree.specs.declared.code.Shape.TheBlock.shown-the_row-Expr-0 Rattle.c_tree.specs.declared.code.Shape.TheBlock.shown-the_row-Suffix-1 Rattle.c_tree.specs.declared.code.Shape.TheBlock.shown-the_row-Link-2 Rattle.c_tree.specs.declared.code.Shape.TheBlock.shown-the_row-Choice-3 denote.Hole.Carrier.shown denote.Hole.Carrier.hidden Rattle.c_tree.specs.declared.code.Stmt.TheBlock.shown-the_row-Stmt-0 Rattle.std.specs.Fmt.digits
code_read = computed code_read_text (quiet_world) 30 (record { trace = (Made Error) ∷ (Print Out (codes "-1 1")) ∷ []; ended = Some (Ended (pos 0)); live = record { kind = Error; serial = 1; owners = 1 } ∷ [] }) refl

-- The id of no signal is no argument where handlers are matched by their signal; else it is not looked at.
abbrev no_signal_text : List ℕ
no_signal_text =
    codes "int main (int argc, char **argv) { GObject *a; guint n; a = g_object_new (G_TYPE_OBJECT, NULL); n = g_signal_handlers_disconnect_matched (a, G_SIGNAL_MATCH_DATA, 9U, 0, NULL, NULL, NULL); g_print (\"%u\", n); "
    ++ codes "n = g_signal_handlers_disconnect_matched (a, G_SIGNAL_MATCH_ID, 9U, 0, NULL, NULL, NULL); return 0; } "

pub no_signal : Runs no_signal_text (quiet_world) 30 ((Made Object) ∷ (Print Out (codes "0")) ∷ []) (Some (Undefined undef.Kind)) (record { kind = Object; serial = 1; owners = 1 } ∷ [])
unfolding Rattle.c_lexer.specs.Tokens.next_of Rattle.c_lexer.specs.Blanks.blanks_within Rattle.c_lexer.specs.Cut.cut Rattle.c_tree.specs.declared.code.Stmt.TheViews.out-Stmt denote.Hole.Carrier.out Rattle.c_tree.specs.declared.code.Shape.TheViews.out-Shape Rattle.c_tree.specs.declared.code.Shape.TheViews.out-Suffix Rattle.c_tree.specs.declared.code.Shape.TheBlock.shown-the_row-Expr-0 Rattle.c_tree.specs.declared.code.Shape.TheBlock.shown-the_row-Suffix-1 Rattle.c_tree.specs.declared.code.Shape.TheBlock.shown-the_row-Link-2 Rattle.c_tree.specs.declared.code.Shape.TheBlock.shown-the_row-Choice-3 denote.Hole.Carrier.shown denote.Hole.Carrier.hidden Rattle.c_tree.specs.declared.code.Stmt.TheBlock.shown-the_row-Stmt-0 Rattle.std.specs.Fmt.digits
no_signal = computed no_signal_text (quiet_world) 30 (record { trace = (Made Object) ∷ (Print Out (codes "0")) ∷ []; ended = Some (Undefined undef.Kind); live = record { kind = Object; serial = 1; owners = 1 } ∷ [] }) refl

-- That an interface was added already is found before what its init is read from.
abbrev added_twice_text : List ℕ
added_twice_text =
    codes "void fill (gpointer t) { g_print (\"fill\"); } static const GInterfaceInfo v = { (GInterfaceInitFunc) fill, NULL, NULL }; "
    ++ codes "int main (int argc, char **argv) { GType i; GType t; i = g_type_register_static_simple (G_TYPE_INTERFACE, \"I\", 2U, NULL, 0U, NULL, 0); t = g_type_register_static_simple (G_TYPE_OBJECT, \"A\", 5U, NULL, 2U, NULL, 0); "
    ++ codes "g_type_add_interface_static (t, i, &v); g_type_add_interface_static (t, i, NULL); return 0; } "

pub added_twice : Runs added_twice_text (quiet_world) 30 ((Print Out (codes "fill")) ∷ []) (Some (Undefined undef.Kind)) ([])
unfolding Rattle.c_lexer.specs.Tokens.next_of Rattle.c_lexer.specs.Blanks.blanks_within Rattle.c_lexer.specs.Cut.cut Rattle.c_tree.specs.declared.code.Stmt.TheViews.out-Stmt denote.Hole.Carrier.out Rattle.c_tree.specs.declared.code.Shape.TheViews.out-Shape Rattle.c_tree.specs.declared.code.Shape.TheViews.out-Suffix Rattle.c_tree.specs.declared.code.Shape.TheBlock.shown-the_row-Expr-0 Rattle.c_tree.specs.declared.code.Shape.TheBlock.shown-the_row-Suffix-1 Rattle.c_tree.specs.declared.code.Shape.TheBlock.shown-the_row-Link-2 Rattle.c_tree.specs.declared.code.Shape.TheBlock.shown-the_row-Choice-3 denote.Hole.Carrier.shown denote.Hole.Carrier.hidden Rattle.c_tree.specs.declared.code.Stmt.TheBlock.shown-the_row-Stmt-0 Rattle.std.specs.Fmt.digits
added_twice = computed added_twice_text (quiet_world) 30 (record { trace = (Print Out (codes "fill")) ∷ []; ended = Some (Undefined undef.Kind); live = [] }) refl
