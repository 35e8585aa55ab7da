-- What an emission and a loop hold, and what a class has of its base.
use Rattle.std.proofs.Common.{refl, ℕ, List, [], ◌∷◌, ◌++◌, codes, pos, Some}
use Rattle.vg_base.specs.declared.event.Event.TheVariants.{Print, Made, Gone, Dispatch}
use Rattle.vg_base.specs.declared.event.Stream.TheVariants.{Out}
use Rattle.vg_base.specs.declared.event.ThingKind.TheVariants.{Object, Scope}
use Rattle.vg_base.specs.declared.event.CEnd.TheVariants.{Ended, Undefined, Aborted}
use Rattle.vg_base.specs.declared.event.UndefKind.TheVariants as undef
use Rattle.vg_base.specs.declared.event.TrapKind.TheVariants as trap
use Rattle.c_meaning.proofs.Build.{Runs, computed, quiet_world}

-- Data that `destroy` gives back is held while its handler runs.
abbrev held_data_text : List ℕ
held_data_text =
    codes "typedef struct _B B; struct _B { gsize _ref_count_; gint x; }; static guint s = 0; static gulong h = 0; "
    ++ codes "void drop (gpointer d) { B *b; b = (B *) d; b->_ref_count_ = b->_ref_count_ - 1; if (b->_ref_count_ == 0) { g_slice_free (B, b); } } "
    ++ codes "void hear (GObject *o, gpointer d) { B *b; g_signal_handler_disconnect (o, h); b = (B *) d; g_print (\"%d \", b->x); } "
    ++ codes "int main (int argc, char **argv) { GObject *a; B *b; s = g_signal_new (\"hit\", G_TYPE_OBJECT, G_SIGNAL_RUN_LAST, 0, NULL, NULL, NULL, G_TYPE_NONE, 0U); "
    ++ codes "a = g_object_new (G_TYPE_OBJECT, NULL); b = g_slice_new0 (B); b->_ref_count_ = 1U; b->x = 3; h = g_signal_connect_data (a, \"hit\", (gpointer) hear, b, (gpointer) drop, 0); "
    ++ codes "g_signal_emit (a, s, 0); g_print (\"end\"); g_object_unref (a); return 0; } "

pub held_data : Runs held_data_text (quiet_world) 90 ((Made Object) ∷ (Made Scope) ∷ (Print Out (codes "3 ")) ∷ (Gone 2) ∷ (Print Out (codes "end")) ∷ (Gone 1) ∷ []) (Some (Ended (pos 0))) ([])
unfolding Rattle.c_lexer.specs.Tokens.next_of Rattle.c_lexer.specs.Blanks.blanks_within Rattle.c_lexer.specs.Cut.cut Rattle.c_tree.specs.declared.code.Stmt.TheViews.out-Stmt denote.Hole.Carrier.out Rattle.c_tree.specs.declared.code.Shape.TheViews.out-Shape Rattle.c_tree.specs.declared.code.Shape.TheViews.out-Suffix Rattle.c_tree.specs.declared.code.Shape.TheBlock.shown-the_row-Expr-0 Rattle.c_tree.specs.declared.code.Shape.TheBlock.shown-the_row-Suffix-1 Rattle.c_tree.specs.declared.code.Shape.TheBlock.shown-the_row-Link-2 Rattle.c_tree.specs.declared.code.Shape.TheBlock.shown-the_row-Choice-3 denote.Hole.Carrier.shown denote.Hole.Carrier.hidden Rattle.c_tree.specs.declared.code.Stmt.TheBlock.shown-the_row-Stmt-0 Rattle.std.specs.Fmt.digits
held_data = computed held_data_text (quiet_world) 90 (record { trace = (Made Object) ∷ (Made Scope) ∷ (Print Out (codes "3 ")) ∷ (Gone 2) ∷ (Print Out (codes "end")) ∷ (Gone 1) ∷ []; ended = Some (Ended (pos 0)); live = [] }) refl

-- An emission holds its object: the last count that goes in it ends the object behind the handlers.
abbrev held_object_text : List ℕ
held_object_text =
    codes "static guint s = 0; static GObject *a = NULL; "
    ++ codes "void hear (GObject *o, gpointer d) { g_object_unref (a); g_print (\"%d \", (gint) o->ref_count); } "
    ++ codes "int main (int argc, char **argv) { gulong h; s = g_signal_new (\"hit\", G_TYPE_OBJECT, G_SIGNAL_RUN_LAST, 0, NULL, NULL, NULL, G_TYPE_NONE, 0U); "
    ++ codes "a = g_object_new (G_TYPE_OBJECT, NULL); h = g_signal_connect_data (a, \"hit\", (gpointer) hear, NULL, NULL, 0); h = g_signal_connect_data (a, \"hit\", NULL, NULL, NULL, 0); "
    ++ codes "g_signal_emit (a, s, 0); g_print (\"end \"); g_signal_emit (a, s, 0); return 0; } "

pub held_object : Runs held_object_text (quiet_world) 90 ((Made Object) ∷ (Print Out (codes "1 ")) ∷ (Gone 1) ∷ (Print Out (codes "end ")) ∷ []) (Some (Undefined undef.Freed)) ([])
unfolding Rattle.c_lexer.specs.Tokens.next_of Rattle.c_lexer.specs.Blanks.blanks_within Rattle.c_lexer.specs.Cut.cut Rattle.c_tree.specs.declared.code.Stmt.TheViews.out-Stmt denote.Hole.Carrier.out Rattle.c_tree.specs.declared.code.Shape.TheViews.out-Shape Rattle.c_tree.specs.declared.code.Shape.TheViews.out-Suffix Rattle.c_tree.specs.declared.code.Shape.TheBlock.shown-the_row-Expr-0 Rattle.c_tree.specs.declared.code.Shape.TheBlock.shown-the_row-Suffix-1 Rattle.c_tree.specs.declared.code.Shape.TheBlock.shown-the_row-Link-2 Rattle.c_tree.specs.declared.code.Shape.TheBlock.shown-the_row-Choice-3 denote.Hole.Carrier.shown denote.Hole.Carrier.hidden Rattle.c_tree.specs.declared.code.Stmt.TheBlock.shown-the_row-Stmt-0 Rattle.std.specs.Fmt.digits
held_object = computed held_object_text (quiet_world) 90 (record { trace = (Made Object) ∷ (Print Out (codes "1 ")) ∷ (Gone 1) ∷ (Print Out (codes "end ")) ∷ []; ended = Some (Undefined undef.Freed); live = [] }) refl

-- Handlers are removed by their function, and the number of those is given.
abbrev matched_text : List ℕ
matched_text =
    codes "void hear (GObject *o, gpointer d) { g_print (\"heard \"); } "
    ++ codes "int main (int argc, char **argv) { GObject *a; gulong h; guint s; guint n; s = g_signal_new (\"hit\", G_TYPE_OBJECT, G_SIGNAL_RUN_LAST, 0, NULL, NULL, NULL, G_TYPE_NONE, 0U); "
    ++ codes "a = g_object_new (G_TYPE_OBJECT, NULL); h = g_signal_connect_data (a, \"hit\", (gpointer) hear, NULL, NULL, 0); h = g_signal_connect_data (a, \"hit\", (gpointer) hear, a, NULL, 0); "
    ++ codes "n = g_signal_handlers_disconnect_matched (a, G_SIGNAL_MATCH_FUNC | G_SIGNAL_MATCH_DATA, s, 0, NULL, (gpointer) hear, a); g_signal_emit (a, s, 0); g_print (\"%u\", n); return 0; } "

pub matched : Runs matched_text (quiet_world) 60 ((Made Object) ∷ (Print Out (codes "heard ")) ∷ (Print Out (codes "1")) ∷ []) (Some (Ended (pos 0))) (record { kind = Object; serial = 1; owners = 1 } ∷ [])
unfolding Rattle.c_lexer.specs.Tokens.next_of Rattle.c_lexer.specs.Blanks.blanks_within Rattle.c_lexer.specs.Cut.cut Rattle.c_tree.specs.declared.code.Stmt.TheViews.out-Stmt denote.Hole.Carrier.out Rattle.c_tree.specs.declared.code.Shape.TheViews.out-Shape Rattle.c_tree.specs.declared.code.Shape.TheViews.out-Suffix Rattle.c_tree.specs.declared.code.Shape.TheBlock.shown-the_row-Expr-0 Rattle.c_tree.specs.declared.code.Shape.TheBlock.shown-the_row-Suffix-1 Rattle.c_tree.specs.declared.code.Shape.TheBlock.shown-the_row-Link-2 Rattle.c_tree.specs.declared.code.Shape.TheBlock.shown-the_row-Choice-3 denote.Hole.Carrier.shown denote.Hole.Carrier.hidden Rattle.c_tree.specs.declared.code.Stmt.TheBlock.shown-the_row-Stmt-0 Rattle.std.specs.Fmt.digits
matched = computed matched_text (quiet_world) 60 (record { trace = (Made Object) ∷ (Print Out (codes "heard ")) ∷ (Print Out (codes "1")) ∷ []; ended = Some (Ended (pos 0)); live = record { kind = Object; serial = 1; owners = 1 } ∷ [] }) refl

-- A derived class has a copy of its base's functions, and instance inits run base first.
abbrev derived_text : List ℕ
derived_text =
    codes "typedef struct _A A; struct _A { GObject parent; gint a; }; typedef struct _B B; struct _B { A parent; gint b; }; "
    ++ codes "void base_init (A *a) { a->a = 1; g_print (\"base \"); } void own_init (B *b) { b->b = 2; g_print (\"own \"); } "
    ++ codes "void fin (GObject *o) { g_print (\"%d%d \", ((A *) o)->a, ((B *) o)->b); } void class_init (gpointer k) { ((GObjectClass *) k)->finalize = fin; } "
    ++ codes "int main (int argc, char **argv) { GType t; GType u; gpointer o; gint b; t = g_type_register_static_simple (G_TYPE_OBJECT, \"A\", sizeof (GObjectClass), (gpointer) class_init, sizeof (A), (gpointer) base_init, 0); "
    ++ codes "u = g_type_register_static_simple (t, \"B\", sizeof (GObjectClass), NULL, sizeof (B), (gpointer) own_init, 0); o = g_object_new (u, NULL); b = g_type_check_instance_is_a (o, t); g_print (\"%d \", b); "
    ++ codes "g_object_unref (o); o = g_object_new (t, NULL); b = g_type_check_instance_is_a (o, u); g_print (\"%d\", b); return 0; } "

pub derived : Runs derived_text (quiet_world) 80 ((Made Object) ∷ (Print Out (codes "base ")) ∷ (Print Out (codes "own ")) ∷ (Print Out (codes "1 ")) ∷ (Print Out (codes "12 ")) ∷ (Gone 1) ∷ (Made Object) ∷ (Print Out (codes "base ")) ∷ (Print Out (codes "0")) ∷ []) (Some (Ended (pos 0))) (record { kind = Object; serial = 2; owners = 1 } ∷ [])
unfolding Rattle.c_lexer.specs.Tokens.next_of Rattle.c_lexer.specs.Blanks.blanks_within Rattle.c_lexer.specs.Cut.cut Rattle.c_tree.specs.declared.code.Stmt.TheViews.out-Stmt denote.Hole.Carrier.out Rattle.c_tree.specs.declared.code.Shape.TheViews.out-Shape Rattle.c_tree.specs.declared.code.Shape.TheViews.out-Suffix Rattle.c_tree.specs.declared.code.Shape.TheBlock.shown-the_row-Expr-0 Rattle.c_tree.specs.declared.code.Shape.TheBlock.shown-the_row-Suffix-1 Rattle.c_tree.specs.declared.code.Shape.TheBlock.shown-the_row-Link-2 Rattle.c_tree.specs.declared.code.Shape.TheBlock.shown-the_row-Choice-3 denote.Hole.Carrier.shown denote.Hole.Carrier.hidden Rattle.c_tree.specs.declared.code.Stmt.TheBlock.shown-the_row-Stmt-0 Rattle.std.specs.Fmt.digits
derived = computed derived_text (quiet_world) 80 (record { trace = (Made Object) ∷ (Print Out (codes "base ")) ∷ (Print Out (codes "own ")) ∷ (Print Out (codes "1 ")) ∷ (Print Out (codes "12 ")) ∷ (Gone 1) ∷ (Made Object) ∷ (Print Out (codes "base ")) ∷ (Print Out (codes "0")) ∷ []; ended = Some (Ended (pos 0)); live = record { kind = Object; serial = 2; owners = 1 } ∷ [] }) refl

-- A class that is smaller than its base is no class.
abbrev small_class_text : List ℕ
small_class_text =
    codes "int main (int argc, char **argv) { GType t; t = g_type_register_static_simple (G_TYPE_OBJECT, \"A\", 4U, NULL, 2U, NULL, 0); return 0; } "

pub small_class : Runs small_class_text (quiet_world) 20 ([]) (Some (Undefined undef.Kind)) ([])
unfolding Rattle.c_lexer.specs.Tokens.next_of Rattle.c_lexer.specs.Blanks.blanks_within Rattle.c_lexer.specs.Cut.cut Rattle.c_tree.specs.declared.code.Stmt.TheViews.out-Stmt denote.Hole.Carrier.out Rattle.c_tree.specs.declared.code.Shape.TheViews.out-Shape Rattle.c_tree.specs.declared.code.Shape.TheViews.out-Suffix Rattle.c_tree.specs.declared.code.Shape.TheBlock.shown-the_row-Expr-0 Rattle.c_tree.specs.declared.code.Shape.TheBlock.shown-the_row-Suffix-1 Rattle.c_tree.specs.declared.code.Shape.TheBlock.shown-the_row-Link-2 Rattle.c_tree.specs.declared.code.Shape.TheBlock.shown-the_row-Choice-3 denote.Hole.Carrier.shown denote.Hole.Carrier.hidden Rattle.c_tree.specs.declared.code.Stmt.TheBlock.shown-the_row-Stmt-0 Rattle.std.specs.Fmt.digits
small_class = computed small_class_text (quiet_world) 20 (record { trace = []; ended = Some (Undefined undef.Kind); live = [] }) refl

-- A loop that runs while another one does is the end `loop`.
abbrev nested_loop_text : List ℕ
nested_loop_text =
    codes "static GMainLoop *l = NULL; gint again (gpointer d) { g_print (\"again\"); g_main_loop_run (l); return FALSE; } "
    ++ codes "int main (int argc, char **argv) { guint s; l = g_main_loop_new (NULL, FALSE); s = g_idle_add_full (0, (gpointer) again, NULL, NULL); g_main_loop_run (l); return 0; } "

pub nested_loop : Runs nested_loop_text (quiet_world) 40 ((Made Object) ∷ (Dispatch 1) ∷ (Print Out (codes "again")) ∷ []) (Some (Aborted trap.Loop)) (record { kind = Object; serial = 1; owners = 2 } ∷ [])
unfolding Rattle.c_lexer.specs.Tokens.next_of Rattle.c_lexer.specs.Blanks.blanks_within Rattle.c_lexer.specs.Cut.cut Rattle.c_tree.specs.declared.code.Stmt.TheViews.out-Stmt denote.Hole.Carrier.out Rattle.c_tree.specs.declared.code.Shape.TheViews.out-Shape Rattle.c_tree.specs.declared.code.Shape.TheViews.out-Suffix Rattle.c_tree.specs.declared.code.Shape.TheBlock.shown-the_row-Expr-0 Rattle.c_tree.specs.declared.code.Shape.TheBlock.shown-the_row-Suffix-1 Rattle.c_tree.specs.declared.code.Shape.TheBlock.shown-the_row-Link-2 Rattle.c_tree.specs.declared.code.Shape.TheBlock.shown-the_row-Choice-3 denote.Hole.Carrier.shown denote.Hole.Carrier.hidden Rattle.c_tree.specs.declared.code.Stmt.TheBlock.shown-the_row-Stmt-0 Rattle.std.specs.Fmt.digits
nested_loop = computed nested_loop_text (quiet_world) 40 (record { trace = (Made Object) ∷ (Dispatch 1) ∷ (Print Out (codes "again")) ∷ []; ended = Some (Aborted trap.Loop); live = record { kind = Object; serial = 1; owners = 2 } ∷ [] }) refl
