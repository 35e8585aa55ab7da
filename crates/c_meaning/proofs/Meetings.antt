-- What the rows and the steps do where they meet.
use Rattle.std.proofs.Common.{refl, ℕ, List, [], ◌∷◌, ◌++◌, codes, pos, Some, None}
use Rattle.vg_base.specs.declared.event.Event.TheVariants.{Print, Made, Gone, Dispatch}
use Rattle.vg_base.specs.declared.event.Stream.TheVariants.{Out}
use Rattle.vg_base.specs.declared.event.ThingKind.TheVariants.{Object, Text, Array}
use Rattle.vg_base.specs.declared.event.CEnd.TheVariants.{Ended, Undefined, Waiting}
use Rattle.vg_base.specs.declared.event.UndefKind.TheVariants as undef
use Rattle.c_meaning.proofs.Build.{Runs, computed, quiet_world}

-- A turn of a source that stays takes a step for the call, one for the entry, and those of its function.
abbrev turn_steps_text : List ℕ
turn_steps_text =
    codes "gint f (gpointer d) { g_print (\"x\"); return TRUE; } "
    ++ codes "int main (int argc, char **argv) { GMainLoop *l; guint s; l = g_main_loop_new (NULL, FALSE); s = g_idle_add_full (0, (gpointer) f, NULL, NULL); g_main_loop_run (l); return 0; } "

pub turn_steps : Runs turn_steps_text (quiet_world) 12 ((Made Object) ∷ (Dispatch 1) ∷ (Print Out (codes "x")) ∷ (Dispatch 1) ∷ (Print Out (codes "x")) ∷ (Dispatch 1) ∷ []) (None) (record { kind = Object; serial = 1; owners = 2 } ∷ [])
unfolding Rattle.c_lexer.specs.Tokens.next_of Rattle.c_lexer.specs.Blanks.blanks_within Rattle.c_lexer.specs.Cut.cut Rattle.c_tree.specs.declared.code.Stmt.TheViews.out-Stmt denote.Hole.Carrier.out Rattle.c_tree.specs.declared.code.Shape.TheViews.out-Shape Rattle.c_tree.specs.declared.code.Shape.TheViews.out-Suffix Rattle.c_tree.specs.declared.code.Shape.TheBlock.shown-the_row-Expr-0 Rattle.c_tree.specs.declared.code.Shape.TheBlock.shown-the_row-Suffix-1 Rattle.c_tree.specs.declared.code.Shape.TheBlock.shown-the_row-Link-2 Rattle.c_tree.specs.declared.code.Shape.TheBlock.shown-the_row-Choice-3 denote.Hole.Carrier.shown denote.Hole.Carrier.hidden Rattle.c_tree.specs.declared.code.Stmt.TheBlock.shown-the_row-Stmt-0 Rattle.std.specs.Fmt.digits
turn_steps = computed turn_steps_text (quiet_world) 12 (record { trace = (Made Object) ∷ (Dispatch 1) ∷ (Print Out (codes "x")) ∷ (Dispatch 1) ∷ (Print Out (codes "x")) ∷ (Dispatch 1) ∷ []; ended = None; live = record { kind = Object; serial = 1; owners = 2 } ∷ [] }) refl

-- Bodies that end behind one another end in one step.
abbrev ends_together_text : List ℕ
ends_together_text =
    codes "void g (void) { } void f (void) { g (); } "
    ++ codes "int main (int argc, char **argv) { f (); g_print (\"x\"); return 0; } "

pub ends_together : Runs ends_together_text (quiet_world) 6 ((Print Out (codes "x")) ∷ []) (None) ([])
unfolding Rattle.c_lexer.specs.Tokens.next_of Rattle.c_lexer.specs.Blanks.blanks_within Rattle.c_lexer.specs.Cut.cut Rattle.c_tree.specs.declared.code.Stmt.TheViews.out-Stmt denote.Hole.Carrier.out Rattle.c_tree.specs.declared.code.Shape.TheViews.out-Shape Rattle.c_tree.specs.declared.code.Shape.TheViews.out-Suffix Rattle.c_tree.specs.declared.code.Shape.TheBlock.shown-the_row-Expr-0 Rattle.c_tree.specs.declared.code.Shape.TheBlock.shown-the_row-Suffix-1 Rattle.c_tree.specs.declared.code.Shape.TheBlock.shown-the_row-Link-2 Rattle.c_tree.specs.declared.code.Shape.TheBlock.shown-the_row-Choice-3 denote.Hole.Carrier.shown denote.Hole.Carrier.hidden Rattle.c_tree.specs.declared.code.Stmt.TheBlock.shown-the_row-Stmt-0 Rattle.std.specs.Fmt.digits
ends_together = computed ends_together_text (quiet_world) 6 (record { trace = (Print Out (codes "x")) ∷ []; ended = None; live = [] }) refl

-- A notification of an object without a count does not look at the name.
abbrev ending_notify_text : List ℕ
ending_notify_text =
    codes "void fin (GObject *o) { g_object_notify (o, \"none\"); g_print (\"fin\"); } void kinit (GObjectClass *c) { c->finalize = fin; } "
    ++ codes "int main (int argc, char **argv) { GType t; GObject *o; t = g_type_register_static_simple (G_TYPE_OBJECT, \"A\", sizeof (GObjectClass), (gpointer) kinit, sizeof (GObject), NULL, 0); o = g_object_new (t, NULL); g_object_unref (o); return 0; } "

pub ending_notify : Runs ending_notify_text (quiet_world) 40 ((Made Object) ∷ (Print Out (codes "fin")) ∷ (Gone 1) ∷ []) (Some (Ended (pos 0))) ([])
unfolding Rattle.c_lexer.specs.Tokens.next_of Rattle.c_lexer.specs.Blanks.blanks_within Rattle.c_lexer.specs.Cut.cut Rattle.c_tree.specs.declared.code.Stmt.TheViews.out-Stmt denote.Hole.Carrier.out Rattle.c_tree.specs.declared.code.Shape.TheViews.out-Shape Rattle.c_tree.specs.declared.code.Shape.TheViews.out-Suffix Rattle.c_tree.specs.declared.code.Shape.TheBlock.shown-the_row-Expr-0 Rattle.c_tree.specs.declared.code.Shape.TheBlock.shown-the_row-Suffix-1 Rattle.c_tree.specs.declared.code.Shape.TheBlock.shown-the_row-Link-2 Rattle.c_tree.specs.declared.code.Shape.TheBlock.shown-the_row-Choice-3 denote.Hole.Carrier.shown denote.Hole.Carrier.hidden Rattle.c_tree.specs.declared.code.Stmt.TheBlock.shown-the_row-Stmt-0 Rattle.std.specs.Fmt.digits
ending_notify = computed ending_notify_text (quiet_world) 40 (record { trace = (Made Object) ∷ (Print Out (codes "fin")) ∷ (Gone 1) ∷ []; ended = Some (Ended (pos 0)); live = [] }) refl

-- An emission cannot hold data that is gone.
abbrev dead_data_text : List ℕ
dead_data_text =
    codes "void hear (GObject *o, gpointer d) { } void drop (gpointer d) { } "
    ++ codes "int main (int argc, char **argv) { GObject *a; guint s; gulong h; gchar *p; s = g_signal_new (\"hit\", G_TYPE_OBJECT, G_SIGNAL_RUN_LAST, 0, NULL, NULL, NULL, G_TYPE_NONE, 0U); a = g_object_new (G_TYPE_OBJECT, NULL); p = g_strdup (\"x\"); "
    ++ codes "h = g_signal_connect_data (a, \"hit\", (gpointer) hear, p, (gpointer) drop, 0); g_signal_emit (a, s, 0); g_free (p); g_print (\"x\"); g_signal_emit (a, s, 0); return 0; } "

pub dead_data : Runs dead_data_text (quiet_world) 60 ((Made Object) ∷ (Made Text) ∷ (Gone 2) ∷ (Print Out (codes "x")) ∷ []) (Some (Undefined undef.Freed)) (record { kind = Object; serial = 1; owners = 2 } ∷ [])
unfolding Rattle.c_lexer.specs.Tokens.next_of Rattle.c_lexer.specs.Blanks.blanks_within Rattle.c_lexer.specs.Cut.cut Rattle.c_tree.specs.declared.code.Stmt.TheViews.out-Stmt denote.Hole.Carrier.out Rattle.c_tree.specs.declared.code.Shape.TheViews.out-Shape Rattle.c_tree.specs.declared.code.Shape.TheViews.out-Suffix Rattle.c_tree.specs.declared.code.Shape.TheBlock.shown-the_row-Expr-0 Rattle.c_tree.specs.declared.code.Shape.TheBlock.shown-the_row-Suffix-1 Rattle.c_tree.specs.declared.code.Shape.TheBlock.shown-the_row-Link-2 Rattle.c_tree.specs.declared.code.Shape.TheBlock.shown-the_row-Choice-3 denote.Hole.Carrier.shown denote.Hole.Carrier.hidden Rattle.c_tree.specs.declared.code.Stmt.TheBlock.shown-the_row-Stmt-0 Rattle.std.specs.Fmt.digits
dead_data = computed dead_data_text (quiet_world) 60 (record { trace = (Made Object) ∷ (Made Text) ∷ (Gone 2) ∷ (Print Out (codes "x")) ∷ []; ended = Some (Undefined undef.Freed); live = record { kind = Object; serial = 1; owners = 2 } ∷ [] }) refl

-- A loop whose last count but its own goes while it runs is freed where it returns.
abbrev loop_let_go_text : List ℕ
loop_let_go_text =
    codes "static GMainLoop *l = NULL; gint f (gpointer d) { g_main_loop_quit (l); g_main_loop_unref (l); return FALSE; } void drop (gpointer d) { g_print (\"drop\"); } "
    ++ codes "int main (int argc, char **argv) { guint s; l = g_main_loop_new (NULL, FALSE); s = g_idle_add_full (0, (gpointer) f, NULL, (gpointer) drop); g_main_loop_run (l); g_print (\"end\"); g_main_loop_quit (l); return 0; } "

pub loop_let_go : Runs loop_let_go_text (quiet_world) 60 ((Made Object) ∷ (Dispatch 1) ∷ (Print Out (codes "drop")) ∷ (Gone 1) ∷ (Print Out (codes "end")) ∷ []) (Some (Undefined undef.Freed)) ([])
unfolding Rattle.c_lexer.specs.Tokens.next_of Rattle.c_lexer.specs.Blanks.blanks_within Rattle.c_lexer.specs.Cut.cut Rattle.c_tree.specs.declared.code.Stmt.TheViews.out-Stmt denote.Hole.Carrier.out Rattle.c_tree.specs.declared.code.Shape.TheViews.out-Shape Rattle.c_tree.specs.declared.code.Shape.TheViews.out-Suffix Rattle.c_tree.specs.declared.code.Shape.TheBlock.shown-the_row-Expr-0 Rattle.c_tree.specs.declared.code.Shape.TheBlock.shown-the_row-Suffix-1 Rattle.c_tree.specs.declared.code.Shape.TheBlock.shown-the_row-Link-2 Rattle.c_tree.specs.declared.code.Shape.TheBlock.shown-the_row-Choice-3 denote.Hole.Carrier.shown denote.Hole.Carrier.hidden Rattle.c_tree.specs.declared.code.Stmt.TheBlock.shown-the_row-Stmt-0 Rattle.std.specs.Fmt.digits
loop_let_go = computed loop_let_go_text (quiet_world) 60 (record { trace = (Made Object) ∷ (Dispatch 1) ∷ (Print Out (codes "drop")) ∷ (Gone 1) ∷ (Print Out (codes "end")) ∷ []; ended = Some (Undefined undef.Freed); live = [] }) refl

-- The place of a result is kept through the call, and looked at again where the result is stored.
abbrev place_went_text : List ℕ
place_went_text =
    codes "static gint *p = NULL; gint f (void) { g_free (p); g_print (\"f\"); return 1; } "
    ++ codes "int main (int argc, char **argv) { p = g_new0 (gint, 1); *p = f (); return 0; } "

pub place_went : Runs place_went_text (quiet_world) 40 ((Made Array) ∷ (Gone 1) ∷ (Print Out (codes "f")) ∷ []) (Some (Undefined undef.Freed)) ([])
unfolding Rattle.c_lexer.specs.Tokens.next_of Rattle.c_lexer.specs.Blanks.blanks_within Rattle.c_lexer.specs.Cut.cut Rattle.c_tree.specs.declared.code.Stmt.TheViews.out-Stmt denote.Hole.Carrier.out Rattle.c_tree.specs.declared.code.Shape.TheViews.out-Shape Rattle.c_tree.specs.declared.code.Shape.TheViews.out-Suffix Rattle.c_tree.specs.declared.code.Shape.TheBlock.shown-the_row-Expr-0 Rattle.c_tree.specs.declared.code.Shape.TheBlock.shown-the_row-Suffix-1 Rattle.c_tree.specs.declared.code.Shape.TheBlock.shown-the_row-Link-2 Rattle.c_tree.specs.declared.code.Shape.TheBlock.shown-the_row-Choice-3 denote.Hole.Carrier.shown denote.Hole.Carrier.hidden Rattle.c_tree.specs.declared.code.Stmt.TheBlock.shown-the_row-Stmt-0 Rattle.std.specs.Fmt.digits
place_went = computed place_went_text (quiet_world) 40 (record { trace = (Made Array) ∷ (Gone 1) ∷ (Print Out (codes "f")) ∷ []; ended = Some (Undefined undef.Freed); live = [] }) refl

-- A function without a result gives none to a place, whatever it is called as.
abbrev no_result_text : List ℕ
no_result_text =
    codes "typedef gint (*F) (void); void f (void) { g_print (\"f\"); } "
    ++ codes "int main (int argc, char **argv) { F g; gint i; g = (F) f; i = g (); return i; } "

pub no_result : Runs no_result_text (quiet_world) 40 ((Print Out (codes "f")) ∷ []) (Some (Undefined undef.Unset)) ([])
unfolding Rattle.c_lexer.specs.Tokens.next_of Rattle.c_lexer.specs.Blanks.blanks_within Rattle.c_lexer.specs.Cut.cut Rattle.c_tree.specs.declared.code.Stmt.TheViews.out-Stmt denote.Hole.Carrier.out Rattle.c_tree.specs.declared.code.Shape.TheViews.out-Shape Rattle.c_tree.specs.declared.code.Shape.TheViews.out-Suffix Rattle.c_tree.specs.declared.code.Shape.TheBlock.shown-the_row-Expr-0 Rattle.c_tree.specs.declared.code.Shape.TheBlock.shown-the_row-Suffix-1 Rattle.c_tree.specs.declared.code.Shape.TheBlock.shown-the_row-Link-2 Rattle.c_tree.specs.declared.code.Shape.TheBlock.shown-the_row-Choice-3 denote.Hole.Carrier.shown denote.Hole.Carrier.hidden Rattle.c_tree.specs.declared.code.Stmt.TheBlock.shown-the_row-Stmt-0 Rattle.std.specs.Fmt.digits
no_result = computed no_result_text (quiet_world) 40 (record { trace = (Print Out (codes "f")) ∷ []; ended = Some (Undefined undef.Unset); live = [] }) refl

-- A struct is no number where a function is entered.
abbrev struct_for_number_text : List ℕ
struct_for_number_text =
    codes "typedef struct _P P; struct _P { gint x; }; typedef gint (*F) (P p); gint f (gint i) { return i; } "
    ++ codes "int main (int argc, char **argv) { F g; gint i; P p; g = (F) f; i = g (p); return i; } "

pub struct_for_number : Runs struct_for_number_text (quiet_world) 40 ([]) (Some (Undefined undef.Kind)) ([])
unfolding Rattle.c_lexer.specs.Tokens.next_of Rattle.c_lexer.specs.Blanks.blanks_within Rattle.c_lexer.specs.Cut.cut Rattle.c_tree.specs.declared.code.Stmt.TheViews.out-Stmt denote.Hole.Carrier.out Rattle.c_tree.specs.declared.code.Shape.TheViews.out-Shape Rattle.c_tree.specs.declared.code.Shape.TheViews.out-Suffix Rattle.c_tree.specs.declared.code.Shape.TheBlock.shown-the_row-Expr-0 Rattle.c_tree.specs.declared.code.Shape.TheBlock.shown-the_row-Suffix-1 Rattle.c_tree.specs.declared.code.Shape.TheBlock.shown-the_row-Link-2 Rattle.c_tree.specs.declared.code.Shape.TheBlock.shown-the_row-Choice-3 denote.Hole.Carrier.shown denote.Hole.Carrier.hidden Rattle.c_tree.specs.declared.code.Stmt.TheBlock.shown-the_row-Stmt-0 Rattle.std.specs.Fmt.digits
struct_for_number = computed struct_for_number_text (quiet_world) 40 (record { trace = []; ended = Some (Undefined undef.Kind); live = [] }) refl

-- The further cells of an array that is made longer are unset.
abbrev renewed_unset_text : List ℕ
renewed_unset_text =
    codes "int main (int argc, char **argv) { gint *p; gint i; p = g_renew (gint, NULL, 1); i = p[0]; return i; } "

pub renewed_unset : Runs renewed_unset_text (quiet_world) 40 ((Made Array) ∷ []) (Some (Undefined undef.Unset)) (record { kind = Array; serial = 1; owners = 1 } ∷ [])
unfolding Rattle.c_lexer.specs.Tokens.next_of Rattle.c_lexer.specs.Blanks.blanks_within Rattle.c_lexer.specs.Cut.cut Rattle.c_tree.specs.declared.code.Stmt.TheViews.out-Stmt denote.Hole.Carrier.out Rattle.c_tree.specs.declared.code.Shape.TheViews.out-Shape Rattle.c_tree.specs.declared.code.Shape.TheViews.out-Suffix Rattle.c_tree.specs.declared.code.Shape.TheBlock.shown-the_row-Expr-0 Rattle.c_tree.specs.declared.code.Shape.TheBlock.shown-the_row-Suffix-1 Rattle.c_tree.specs.declared.code.Shape.TheBlock.shown-the_row-Link-2 Rattle.c_tree.specs.declared.code.Shape.TheBlock.shown-the_row-Choice-3 denote.Hole.Carrier.shown denote.Hole.Carrier.hidden Rattle.c_tree.specs.declared.code.Stmt.TheBlock.shown-the_row-Stmt-0 Rattle.std.specs.Fmt.digits
renewed_unset = computed renewed_unset_text (quiet_world) 40 (record { trace = (Made Array) ∷ []; ended = Some (Undefined undef.Unset); live = record { kind = Array; serial = 1; owners = 1 } ∷ [] }) refl

-- A table begins as a copy of the nearest base's.
abbrev base_table_text : List ℕ
base_table_text =
    codes "typedef struct _I I; struct _I { GTypeInterface parent; gint x; gint y; }; void one (I *i) { i->x = 5; } void two (I *i) { i->y = i->x + 1; } "
    ++ codes "static const GInterfaceInfo v = { (GInterfaceInitFunc) one, NULL, NULL }; static const GInterfaceInfo w = { (GInterfaceInitFunc) two, NULL, NULL }; "
    ++ codes "int main (int argc, char **argv) { GType i; GType t; GType u; GObject *o; I *x; i = g_type_register_static_simple (G_TYPE_INTERFACE, \"I\", sizeof (I), NULL, 0U, NULL, 0); "
    ++ codes "t = g_type_register_static_simple (G_TYPE_OBJECT, \"A\", sizeof (GObjectClass), NULL, sizeof (GObject), NULL, 0); g_type_add_interface_static (t, i, &v); "
    ++ codes "u = g_type_register_static_simple (t, \"B\", sizeof (GObjectClass), NULL, sizeof (GObject), NULL, 0); g_type_add_interface_static (u, i, &w); "
    ++ codes "o = g_object_new (u, NULL); x = g_type_interface_peek (o->g_type_instance.g_class, i); g_print (\"%d %d %d\", x->x, x->y, x->parent.g_instance_type == u); return 0; } "

pub base_table : Runs base_table_text (quiet_world) 80 ((Made Object) ∷ (Print Out (codes "5 6 1")) ∷ []) (Some (Ended (pos 0))) (record { kind = Object; serial = 1; owners = 1 } ∷ [])
unfolding Rattle.c_lexer.specs.Tokens.next_of Rattle.c_lexer.specs.Blanks.blanks_within Rattle.c_lexer.specs.Cut.cut Rattle.c_tree.specs.declared.code.Stmt.TheViews.out-Stmt denote.Hole.Carrier.out Rattle.c_tree.specs.declared.code.Shape.TheViews.out-Shape Rattle.c_tree.specs.declared.code.Shape.TheViews.out-Suffix Rattle.c_tree.specs.declared.code.Shape.TheBlock.shown-the_row-Expr-0 Rattle.c_tree.specs.declared.code.Shape.TheBlock.shown-the_row-Suffix-1 Rattle.c_tree.specs.declared.code.Shape.TheBlock.shown-the_row-Link-2 Rattle.c_tree.specs.declared.code.Shape.TheBlock.shown-the_row-Choice-3 denote.Hole.Carrier.shown denote.Hole.Carrier.hidden Rattle.c_tree.specs.declared.code.Stmt.TheBlock.shown-the_row-Stmt-0 Rattle.std.specs.Fmt.digits
base_table = computed base_table_text (quiet_world) 80 (record { trace = (Made Object) ∷ (Print Out (codes "5 6 1")) ∷ []; ended = Some (Ended (pos 0)); live = record { kind = Object; serial = 1; owners = 1 } ∷ [] }) refl

-- The class that has a property sets it; one of the same name in a derived class hides it.
abbrev base_property_text : List ℕ
base_property_text =
    codes "void seta (GObject *o, guint id, GValue *v, GParamSpec *p) { g_print (\"a%u \", id); } void setb (GObject *o, guint id, GValue *v, GParamSpec *p) { gint i; i = g_value_get_int (v); g_print (\"b%u=%d \", id, i); } "
    ++ codes "void ka (GObjectClass *c) { GParamSpec *p; c->set_property = seta; p = g_param_spec_int (\"x\", \"\", \"\", 0, 9, 1, G_PARAM_CONSTRUCT); g_object_class_install_property (c, 1U, p); p = g_param_spec_int (\"y\", \"\", \"\", 0, 9, 2, G_PARAM_CONSTRUCT); g_object_class_install_property (c, 2U, p); } "
    ++ codes "void kb (GObjectClass *c) { GParamSpec *p; c->set_property = setb; p = g_param_spec_int (\"x\", \"\", \"\", 0, 9, 3, G_PARAM_CONSTRUCT); g_object_class_install_property (c, 7U, p); } "
    ++ codes "int main (int argc, char **argv) { GType t; GType u; gpointer o; t = g_type_register_static_simple (G_TYPE_OBJECT, \"A\", sizeof (GObjectClass), (gpointer) ka, sizeof (GObject), NULL, 0); "
    ++ codes "u = g_type_register_static_simple (t, \"B\", sizeof (GObjectClass), (gpointer) kb, sizeof (GObject), NULL, 0); o = g_object_new (u, \"x\", 5, \"y\", 6, \"x\", 8, NULL); return 0; } "

pub base_property : Runs base_property_text (quiet_world) 90 ((Made Object) ∷ (Print Out (codes "a2 ")) ∷ (Print Out (codes "b7=8 ")) ∷ []) (Some (Ended (pos 0))) (record { kind = Object; serial = 1; owners = 1 } ∷ [])
unfolding Rattle.c_lexer.specs.Tokens.next_of Rattle.c_lexer.specs.Blanks.blanks_within Rattle.c_lexer.specs.Cut.cut Rattle.c_tree.specs.declared.code.Stmt.TheViews.out-Stmt denote.Hole.Carrier.out Rattle.c_tree.specs.declared.code.Shape.TheViews.out-Shape Rattle.c_tree.specs.declared.code.Shape.TheViews.out-Suffix Rattle.c_tree.specs.declared.code.Shape.TheBlock.shown-the_row-Expr-0 Rattle.c_tree.specs.declared.code.Shape.TheBlock.shown-the_row-Suffix-1 Rattle.c_tree.specs.declared.code.Shape.TheBlock.shown-the_row-Link-2 Rattle.c_tree.specs.declared.code.Shape.TheBlock.shown-the_row-Choice-3 denote.Hole.Carrier.shown denote.Hole.Carrier.hidden Rattle.c_tree.specs.declared.code.Stmt.TheBlock.shown-the_row-Stmt-0 Rattle.std.specs.Fmt.digits
base_property = computed base_property_text (quiet_world) 90 (record { trace = (Made Object) ∷ (Print Out (codes "a2 ")) ∷ (Print Out (codes "b7=8 ")) ∷ []; ended = Some (Ended (pos 0)); live = record { kind = Object; serial = 1; owners = 1 } ∷ [] }) refl

-- A mask of 0 removes no handler.
abbrev no_mask_text : List ℕ
no_mask_text =
    codes "int main (int argc, char **argv) { GObject *a; guint n; gulong h; a = g_object_new (G_TYPE_OBJECT, NULL); h = g_signal_connect_data (a, \"notify\", NULL, NULL, NULL, 0); n = g_signal_handlers_disconnect_matched (a, 0, 0U, 0, NULL, NULL, NULL); g_print (\"%u \", n); "
    ++ codes "n = g_signal_handlers_disconnect_matched (a, G_SIGNAL_MATCH_FUNC, 0U, 0, NULL, NULL, NULL); g_print (\"%u\", n); return 0; } "

pub no_mask : Runs no_mask_text (quiet_world) 30 ((Made Object) ∷ (Print Out (codes "0 ")) ∷ (Print Out (codes "1")) ∷ []) (Some (Ended (pos 0))) (record { kind = Object; serial = 1; owners = 1 } ∷ [])
unfolding Rattle.c_lexer.specs.Tokens.next_of Rattle.c_lexer.specs.Blanks.blanks_within Rattle.c_lexer.specs.Cut.cut Rattle.c_tree.specs.declared.code.Stmt.TheViews.out-Stmt denote.Hole.Carrier.out Rattle.c_tree.specs.declared.code.Shape.TheViews.out-Shape Rattle.c_tree.specs.declared.code.Shape.TheViews.out-Suffix Rattle.c_tree.specs.declared.code.Shape.TheBlock.shown-the_row-Expr-0 Rattle.c_tree.specs.declared.code.Shape.TheBlock.shown-the_row-Suffix-1 Rattle.c_tree.specs.declared.code.Shape.TheBlock.shown-the_row-Link-2 Rattle.c_tree.specs.declared.code.Shape.TheBlock.shown-the_row-Choice-3 denote.Hole.Carrier.shown denote.Hole.Carrier.hidden Rattle.c_tree.specs.declared.code.Stmt.TheBlock.shown-the_row-Stmt-0 Rattle.std.specs.Fmt.digits
no_mask = computed no_mask_text (quiet_world) 30 (record { trace = (Made Object) ∷ (Print Out (codes "0 ")) ∷ (Print Out (codes "1")) ∷ []; ended = Some (Ended (pos 0)); live = record { kind = Object; serial = 1; owners = 1 } ∷ [] }) refl

-- A source whose function gives nothing has no answer.
abbrev source_without_result_text : List ℕ
source_without_result_text =
    codes "void f (gpointer d) { g_print (\"f\"); } "
    ++ codes "int main (int argc, char **argv) { GMainLoop *l; guint s; l = g_main_loop_new (NULL, FALSE); s = g_idle_add_full (0, (gpointer) f, NULL, NULL); g_main_loop_run (l); return 0; } "

pub source_without_result : Runs source_without_result_text (quiet_world) 40 ((Made Object) ∷ (Dispatch 1) ∷ (Print Out (codes "f")) ∷ []) (Some (Undefined undef.Unset)) (record { kind = Object; serial = 1; owners = 2 } ∷ [])
unfolding Rattle.c_lexer.specs.Tokens.next_of Rattle.c_lexer.specs.Blanks.blanks_within Rattle.c_lexer.specs.Cut.cut Rattle.c_tree.specs.declared.code.Stmt.TheViews.out-Stmt denote.Hole.Carrier.out Rattle.c_tree.specs.declared.code.Shape.TheViews.out-Shape Rattle.c_tree.specs.declared.code.Shape.TheViews.out-Suffix Rattle.c_tree.specs.declared.code.Shape.TheBlock.shown-the_row-Expr-0 Rattle.c_tree.specs.declared.code.Shape.TheBlock.shown-the_row-Suffix-1 Rattle.c_tree.specs.declared.code.Shape.TheBlock.shown-the_row-Link-2 Rattle.c_tree.specs.declared.code.Shape.TheBlock.shown-the_row-Choice-3 denote.Hole.Carrier.shown denote.Hole.Carrier.hidden Rattle.c_tree.specs.declared.code.Stmt.TheBlock.shown-the_row-Stmt-0 Rattle.std.specs.Fmt.digits
source_without_result = computed source_without_result_text (quiet_world) 40 (record { trace = (Made Object) ∷ (Dispatch 1) ∷ (Print Out (codes "f")) ∷ []; ended = Some (Undefined undef.Unset); live = record { kind = Object; serial = 1; owners = 2 } ∷ [] }) refl

-- A number that is read is held within 64 bits, and operands have the wider type.
abbrev numbers_held_text : List ℕ
numbers_held_text =
    codes "int main (int argc, char **argv) { gint64 v; glong l; v = g_ascii_strtoll (\"99999999999999999999\", NULL, 10); g_print (\"%ld \", v); v = g_ascii_strtoll (\"-99999999999999999999\", NULL, 10); g_print (\"%ld \", v); v = g_ascii_strtoll (\"\\t+ 5\", NULL, 10); "
    ++ codes "l = -1; g_print (\"%ld %u %d %d %d %ld\", v, 1 ? -1 : 1U, -8 >> 1, l < 1U, l < 1UL, l >> 63); return 1 << 31; } "

pub numbers_held : Runs numbers_held_text (quiet_world) 40 ((Print Out (codes "9223372036854775807 ")) ∷ (Print Out (codes "-9223372036854775808 ")) ∷ (Print Out (codes "0 4294967295 -4 1 0 -1")) ∷ []) (Some (Undefined undef.Overflow)) ([])
unfolding Rattle.c_lexer.specs.Tokens.next_of Rattle.c_lexer.specs.Blanks.blanks_within Rattle.c_lexer.specs.Cut.cut Rattle.c_tree.specs.declared.code.Stmt.TheViews.out-Stmt denote.Hole.Carrier.out Rattle.c_tree.specs.declared.code.Shape.TheViews.out-Shape Rattle.c_tree.specs.declared.code.Shape.TheViews.out-Suffix Rattle.c_tree.specs.declared.code.Shape.TheBlock.shown-the_row-Expr-0 Rattle.c_tree.specs.declared.code.Shape.TheBlock.shown-the_row-Suffix-1 Rattle.c_tree.specs.declared.code.Shape.TheBlock.shown-the_row-Link-2 Rattle.c_tree.specs.declared.code.Shape.TheBlock.shown-the_row-Choice-3 denote.Hole.Carrier.shown denote.Hole.Carrier.hidden Rattle.c_tree.specs.declared.code.Stmt.TheBlock.shown-the_row-Stmt-0 Rattle.std.specs.Fmt.digits
numbers_held = computed numbers_held_text (quiet_world) 40 (record { trace = (Print Out (codes "9223372036854775807 ")) ∷ (Print Out (codes "-9223372036854775808 ")) ∷ (Print Out (codes "0 4294967295 -4 1 0 -1")) ∷ []; ended = Some (Undefined undef.Overflow); live = [] }) refl

-- A handler that is tied to an object goes where it begins to end; an emission of an ending object is a use of what is gone.
abbrev tied_goes_text : List ℕ
tied_goes_text =
    codes "static guint s = 0; static GObject *a = NULL; void hear (GObject *o, gpointer d) { g_print (\"heard \"); } void fin (GObject *o) { g_signal_emit (a, s, 0); g_print (\"fin \"); g_signal_emit (o, s, 0); } void kinit (GObjectClass *c) { c->finalize = fin; } "
    ++ codes "int main (int argc, char **argv) { GType t; GObject *o; gulong h; t = g_type_register_static_simple (G_TYPE_OBJECT, \"A\", sizeof (GObjectClass), (gpointer) kinit, sizeof (GObject), NULL, 0); s = g_signal_new (\"hit\", G_TYPE_OBJECT, G_SIGNAL_RUN_LAST, 0, NULL, NULL, NULL, G_TYPE_NONE, 0U); "
    ++ codes "a = g_object_new (G_TYPE_OBJECT, NULL); o = g_object_new (t, NULL); h = g_signal_connect_object (a, \"hit\", (gpointer) hear, o, 0); g_signal_emit (a, s, 0); g_object_unref (o); return 0; } "

pub tied_goes : Runs tied_goes_text (quiet_world) 60 ((Made Object) ∷ (Made Object) ∷ (Print Out (codes "heard ")) ∷ (Print Out (codes "fin ")) ∷ []) (Some (Undefined undef.Freed)) (record { kind = Object; serial = 1; owners = 1 } ∷ record { kind = Object; serial = 2; owners = 0 } ∷ [])
unfolding Rattle.c_lexer.specs.Tokens.next_of Rattle.c_lexer.specs.Blanks.blanks_within Rattle.c_lexer.specs.Cut.cut Rattle.c_tree.specs.declared.code.Stmt.TheViews.out-Stmt denote.Hole.Carrier.out Rattle.c_tree.specs.declared.code.Shape.TheViews.out-Shape Rattle.c_tree.specs.declared.code.Shape.TheViews.out-Suffix Rattle.c_tree.specs.declared.code.Shape.TheBlock.shown-the_row-Expr-0 Rattle.c_tree.specs.declared.code.Shape.TheBlock.shown-the_row-Suffix-1 Rattle.c_tree.specs.declared.code.Shape.TheBlock.shown-the_row-Link-2 Rattle.c_tree.specs.declared.code.Shape.TheBlock.shown-the_row-Choice-3 denote.Hole.Carrier.shown denote.Hole.Carrier.hidden Rattle.c_tree.specs.declared.code.Stmt.TheBlock.shown-the_row-Stmt-0 Rattle.std.specs.Fmt.digits
tied_goes = computed tied_goes_text (quiet_world) 60 (record { trace = (Made Object) ∷ (Made Object) ∷ (Print Out (codes "heard ")) ∷ (Print Out (codes "fin ")) ∷ []; ended = Some (Undefined undef.Freed); live = record { kind = Object; serial = 1; owners = 1 } ∷ record { kind = Object; serial = 2; owners = 0 } ∷ [] }) refl

-- The locals of a block that is entered again keep their cells, and a struct is stored as it is.
abbrev locals_kept_text : List ℕ
locals_kept_text =
    codes "typedef struct _P P; struct _P { gint x; gint y; }; "
    ++ codes "int main (int argc, char **argv) { gint i; P p; P q; i = 0; q.x = 3; p = q; L: ; { gint c; if (i == 0) { c = 41; } c = c + 1; g_print (\"%d \", c); } i = i + 1; if (i < 2) goto L; g_print (\"%d\", p.x); return p.y; } "

pub locals_kept : Runs locals_kept_text (quiet_world) 60 ((Print Out (codes "42 ")) ∷ (Print Out (codes "43 ")) ∷ (Print Out (codes "3")) ∷ []) (Some (Undefined undef.Unset)) ([])
unfolding Rattle.c_lexer.specs.Tokens.next_of Rattle.c_lexer.specs.Blanks.blanks_within Rattle.c_lexer.specs.Cut.cut Rattle.c_tree.specs.declared.code.Stmt.TheViews.out-Stmt denote.Hole.Carrier.out Rattle.c_tree.specs.declared.code.Shape.TheViews.out-Shape Rattle.c_tree.specs.declared.code.Shape.TheViews.out-Suffix Rattle.c_tree.specs.declared.code.Shape.TheBlock.shown-the_row-Expr-0 Rattle.c_tree.specs.declared.code.Shape.TheBlock.shown-the_row-Suffix-1 Rattle.c_tree.specs.declared.code.Shape.TheBlock.shown-the_row-Link-2 Rattle.c_tree.specs.declared.code.Shape.TheBlock.shown-the_row-Choice-3 denote.Hole.Carrier.shown denote.Hole.Carrier.hidden Rattle.c_tree.specs.declared.code.Stmt.TheBlock.shown-the_row-Stmt-0 Rattle.std.specs.Fmt.digits
locals_kept = computed locals_kept_text (quiet_world) 60 (record { trace = (Print Out (codes "42 ")) ∷ (Print Out (codes "43 ")) ∷ (Print Out (codes "3")) ∷ []; ended = Some (Undefined undef.Unset); live = [] }) refl

-- A source that is removed in its own dispatch gives its data back at once, and its answer does nothing.
abbrev self_removed_text : List ℕ
self_removed_text =
    codes "static guint s = 0; static GMainLoop *l = NULL; void drop (gpointer d) { g_print (\"drop \"); } gint f (gpointer d) { gint b; b = g_source_remove (s); g_print (\"%d \", b); b = g_source_remove (s); g_print (\"%d \", b); return TRUE; } "
    ++ codes "int main (int argc, char **argv) { l = g_main_loop_new (NULL, FALSE); s = g_timeout_add_full (0, 7U, (gpointer) f, NULL, (gpointer) drop); g_main_loop_run (l); return 0; } "

pub self_removed : Runs self_removed_text (quiet_world) 60 ((Made Object) ∷ (Dispatch 1) ∷ (Print Out (codes "drop ")) ∷ (Print Out (codes "1 ")) ∷ (Print Out (codes "0 ")) ∷ []) (Some Waiting) (record { kind = Object; serial = 1; owners = 2 } ∷ [])
unfolding Rattle.c_lexer.specs.Tokens.next_of Rattle.c_lexer.specs.Blanks.blanks_within Rattle.c_lexer.specs.Cut.cut Rattle.c_tree.specs.declared.code.Stmt.TheViews.out-Stmt denote.Hole.Carrier.out Rattle.c_tree.specs.declared.code.Shape.TheViews.out-Shape Rattle.c_tree.specs.declared.code.Shape.TheViews.out-Suffix Rattle.c_tree.specs.declared.code.Shape.TheBlock.shown-the_row-Expr-0 Rattle.c_tree.specs.declared.code.Shape.TheBlock.shown-the_row-Suffix-1 Rattle.c_tree.specs.declared.code.Shape.TheBlock.shown-the_row-Link-2 Rattle.c_tree.specs.declared.code.Shape.TheBlock.shown-the_row-Choice-3 denote.Hole.Carrier.shown denote.Hole.Carrier.hidden Rattle.c_tree.specs.declared.code.Stmt.TheBlock.shown-the_row-Stmt-0 Rattle.std.specs.Fmt.digits
self_removed = computed self_removed_text (quiet_world) 60 (record { trace = (Made Object) ∷ (Dispatch 1) ∷ (Print Out (codes "drop ")) ∷ (Print Out (codes "1 ")) ∷ (Print Out (codes "0 ")) ∷ []; ended = Some Waiting; live = record { kind = Object; serial = 1; owners = 2 } ∷ [] }) refl

-- Sources whose functions are null are dispatched and removed in one step.
abbrev null_sources_text : List ℕ
null_sources_text =
    codes "int main (int argc, char **argv) { GMainLoop *l; guint s; l = g_main_loop_new (NULL, FALSE); s = g_idle_add_full (0, NULL, NULL, NULL); s = g_timeout_add_full (0, 9U, NULL, NULL, NULL); s = g_timeout_add_full (0, 3U, NULL, NULL, NULL); g_main_loop_run (l); return 0; } "

pub null_sources : Runs null_sources_text (quiet_world) 6 ((Made Object) ∷ (Dispatch 1) ∷ (Dispatch 3) ∷ (Dispatch 2) ∷ []) (Some Waiting) (record { kind = Object; serial = 1; owners = 2 } ∷ [])
unfolding Rattle.c_lexer.specs.Tokens.next_of Rattle.c_lexer.specs.Blanks.blanks_within Rattle.c_lexer.specs.Cut.cut Rattle.c_tree.specs.declared.code.Stmt.TheViews.out-Stmt denote.Hole.Carrier.out Rattle.c_tree.specs.declared.code.Shape.TheViews.out-Shape Rattle.c_tree.specs.declared.code.Shape.TheViews.out-Suffix Rattle.c_tree.specs.declared.code.Shape.TheBlock.shown-the_row-Expr-0 Rattle.c_tree.specs.declared.code.Shape.TheBlock.shown-the_row-Suffix-1 Rattle.c_tree.specs.declared.code.Shape.TheBlock.shown-the_row-Link-2 Rattle.c_tree.specs.declared.code.Shape.TheBlock.shown-the_row-Choice-3 denote.Hole.Carrier.shown denote.Hole.Carrier.hidden Rattle.c_tree.specs.declared.code.Stmt.TheBlock.shown-the_row-Stmt-0 Rattle.std.specs.Fmt.digits
null_sources = computed null_sources_text (quiet_world) 6 (record { trace = (Made Object) ∷ (Dispatch 1) ∷ (Dispatch 3) ∷ (Dispatch 2) ∷ []; ended = Some Waiting; live = record { kind = Object; serial = 1; owners = 2 } ∷ [] }) refl

-- A format is matched with all its arguments before a text is read.
abbrev format_first_text : List ℕ
format_first_text =
    codes "int main (int argc, char **argv) { gchar *s; s = g_strdup (\"x\"); g_free (s); g_print (\"%-5c|%--05d|%lld|\", 0, 7, 8L); g_print (\"%d %s\", s, s); return 0; } "

pub format_first : Runs format_first_text (quiet_world) 30 ((Made Text) ∷ (Gone 1) ∷ (Print Out (codes "")) ∷ []) (Some (Undefined undef.Kind)) ([])
unfolding Rattle.c_lexer.specs.Tokens.next_of Rattle.c_lexer.specs.Blanks.blanks_within Rattle.c_lexer.specs.Cut.cut Rattle.c_tree.specs.declared.code.Stmt.TheViews.out-Stmt denote.Hole.Carrier.out Rattle.c_tree.specs.declared.code.Shape.TheViews.out-Shape Rattle.c_tree.specs.declared.code.Shape.TheViews.out-Suffix Rattle.c_tree.specs.declared.code.Shape.TheBlock.shown-the_row-Expr-0 Rattle.c_tree.specs.declared.code.Shape.TheBlock.shown-the_row-Suffix-1 Rattle.c_tree.specs.declared.code.Shape.TheBlock.shown-the_row-Link-2 Rattle.c_tree.specs.declared.code.Shape.TheBlock.shown-the_row-Choice-3 denote.Hole.Carrier.shown denote.Hole.Carrier.hidden Rattle.c_tree.specs.declared.code.Stmt.TheBlock.shown-the_row-Stmt-0 Rattle.std.specs.Fmt.digits
format_first = computed format_first_text (quiet_world) 30 (record { trace = (Made Text) ∷ (Gone 1) ∷ (Print Out (codes "")) ∷ []; ended = Some (Undefined undef.Kind); live = [] }) refl

-- A signal of the program by the name `notify` hides the one of all objects.
abbrev own_notify_text : List ℕ
own_notify_text =
    codes "void hear (GObject *o, gint i, gpointer d) { g_print (\"%d\", i); } "
    ++ codes "int main (int argc, char **argv) { GObject *a; guint s; gulong h; s = g_signal_new (\"notify\", G_TYPE_OBJECT, G_SIGNAL_RUN_LAST, 0, NULL, NULL, NULL, G_TYPE_NONE, 1U, G_TYPE_CHAR); a = g_object_new (G_TYPE_OBJECT, NULL); h = g_signal_connect_data (a, \"notify\", (gpointer) hear, NULL, NULL, 0); g_signal_emit (a, s, 0, 200); "
    ++ codes "g_signal_emit (a, s, 0, \"x\"); return 0; } "

pub own_notify : Runs own_notify_text (quiet_world) 40 ((Made Object) ∷ (Print Out (codes "-56")) ∷ []) (Some (Undefined undef.Kind)) (record { kind = Object; serial = 1; owners = 1 } ∷ [])
unfolding Rattle.c_lexer.specs.Tokens.next_of Rattle.c_lexer.specs.Blanks.blanks_within Rattle.c_lexer.specs.Cut.cut Rattle.c_tree.specs.declared.code.Stmt.TheViews.out-Stmt denote.Hole.Carrier.out Rattle.c_tree.specs.declared.code.Shape.TheViews.out-Shape Rattle.c_tree.specs.declared.code.Shape.TheViews.out-Suffix Rattle.c_tree.specs.declared.code.Shape.TheBlock.shown-the_row-Expr-0 Rattle.c_tree.specs.declared.code.Shape.TheBlock.shown-the_row-Suffix-1 Rattle.c_tree.specs.declared.code.Shape.TheBlock.shown-the_row-Link-2 Rattle.c_tree.specs.declared.code.Shape.TheBlock.shown-the_row-Choice-3 denote.Hole.Carrier.shown denote.Hole.Carrier.hidden Rattle.c_tree.specs.declared.code.Stmt.TheBlock.shown-the_row-Stmt-0 Rattle.std.specs.Fmt.digits
own_notify = computed own_notify_text (quiet_world) 40 (record { trace = (Made Object) ∷ (Print Out (codes "-56")) ∷ []; ended = Some (Undefined undef.Kind); live = record { kind = Object; serial = 1; owners = 1 } ∷ [] }) refl
