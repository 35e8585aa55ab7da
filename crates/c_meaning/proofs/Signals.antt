-- Signals, and the main loop.
use Rattle.std.proofs.Common.{refl, ℕ, List, [], ◌∷◌, ◌++◌, codes, pos, Some}
use Rattle.vg_base.specs.declared.event.Entry.TheVariants.{Pick, Wait}
use Rattle.vg_base.specs.declared.event.Event.TheVariants.{Print, Made, Gone, Dispatch}
use Rattle.vg_base.specs.declared.event.Stream.TheVariants.{Out}
use Rattle.vg_base.specs.declared.event.ThingKind.TheVariants.{Object}
use Rattle.vg_base.specs.declared.event.CEnd.TheVariants.{Ended, Waiting}
use Rattle.c_meaning.proofs.Build.{Runs, computed, quiet_world, scripted}

-- Handlers run in the order of connection, around the class handler; one that is disconnected no longer runs.
abbrev two_handlers_text : List ℕ
two_handlers_text =
    codes "typedef struct _K K; struct _K { GObjectClass parent; gpointer hit; }; "
    ++ codes "void one (GObject *o, gint x, gpointer d) { g_print (\"one %d %s, \", x, (gchar *) d); } void own (GObject *o, gint x) { g_print (\"own %d, \", x); } void two (GObject *o, gint x, gpointer d) { g_print (\"two %d, \", x); } "
    ++ codes "void kinit (K *k) { k->hit = (gpointer) own; } "
    ++ codes "int main (int argc, char **argv) { GType t; GObject *a; guint s; gulong h; "
    ++ codes "t = g_type_register_static_simple (G_TYPE_OBJECT, \"Foo\", sizeof (K), (gpointer) kinit, sizeof (GObject), NULL, 0); "
    ++ codes "s = g_signal_new (\"hit\", t, G_SIGNAL_RUN_LAST, sizeof (GObjectClass), NULL, NULL, NULL, G_TYPE_NONE, 1U, G_TYPE_INT); "
    ++ codes "a = g_object_new (t, NULL); h = g_signal_connect_data (a, \"hit\", (gpointer) two, NULL, NULL, G_CONNECT_AFTER); h = g_signal_connect_data (a, \"hit\", (gpointer) one, \"d\", NULL, 0); "
    ++ codes "g_signal_emit (a, s, 0, 5); g_signal_handler_disconnect (a, h); g_signal_emit (a, s, 0, 6); g_object_unref (a); return 0; } "

pub two_handlers : Runs two_handlers_text (quiet_world) 90 ((Made Object) ∷ (Print Out (codes "one 5 d, ")) ∷ (Print Out (codes "own 5, ")) ∷ (Print Out (codes "two 5, ")) ∷ (Print Out (codes "own 6, ")) ∷ (Print Out (codes "two 6, ")) ∷ (Gone 1) ∷ []) (Some (Ended (pos 0))) ([])
unfolding Rattle.c_lexer.specs.Tokens.next_of Rattle.c_lexer.specs.Blanks.blanks_within Rattle.c_lexer.specs.Cut.cut Rattle.c_tree.specs.declared.code.Stmt.TheViews.out-Stmt denote.Hole.Carrier.out Rattle.c_tree.specs.declared.code.Shape.TheViews.out-Shape Rattle.c_tree.specs.declared.code.Shape.TheViews.out-Suffix Rattle.c_tree.specs.declared.code.Shape.TheBlock.shown-the_row-Expr-0 Rattle.c_tree.specs.declared.code.Shape.TheBlock.shown-the_row-Suffix-1 Rattle.c_tree.specs.declared.code.Shape.TheBlock.shown-the_row-Link-2 Rattle.c_tree.specs.declared.code.Shape.TheBlock.shown-the_row-Choice-3 denote.Hole.Carrier.shown denote.Hole.Carrier.hidden Rattle.c_tree.specs.declared.code.Stmt.TheBlock.shown-the_row-Stmt-0 Rattle.std.specs.Fmt.digits
two_handlers = computed two_handlers_text (quiet_world) 90 (record { trace = (Made Object) ∷ (Print Out (codes "one 5 d, ")) ∷ (Print Out (codes "own 5, ")) ∷ (Print Out (codes "two 5, ")) ∷ (Print Out (codes "own 6, ")) ∷ (Print Out (codes "two 6, ")) ∷ (Gone 1) ∷ []; ended = Some (Ended (pos 0)); live = [] }) refl

-- A handler that is connected in an emission does not run in it; `destroy` is called for what goes with its object.
abbrev late_handler_text : List ℕ
late_handler_text =
    codes "static guint s = 0; "
    ++ codes "void drop (gpointer d) { g_print (\"drop %s, \", (gchar *) d); } "
    ++ codes "void late (GObject *o, gpointer d) { g_print (\"late, \"); } "
    ++ codes "void first (GObject *o, gpointer d) { gulong h; g_print (\"first, \"); h = g_signal_connect_data (o, \"hit\", (gpointer) late, \"late\", (gpointer) drop, 0); } "
    ++ codes "int main (int argc, char **argv) { GObject *a; gulong h; s = g_signal_new (\"hit\", G_TYPE_OBJECT, G_SIGNAL_RUN_LAST, 0, NULL, NULL, NULL, G_TYPE_NONE, 0U); "
    ++ codes "a = g_object_new (G_TYPE_OBJECT, NULL); h = g_signal_connect_data (a, \"hit\", (gpointer) first, NULL, NULL, 0); g_signal_emit (a, s, 0); g_object_unref (a); return 0; } "

pub late_handler : Runs late_handler_text (quiet_world) 60 ((Made Object) ∷ (Print Out (codes "first, ")) ∷ (Print Out (codes "drop late, ")) ∷ (Gone 1) ∷ []) (Some (Ended (pos 0))) ([])
unfolding Rattle.c_lexer.specs.Tokens.next_of Rattle.c_lexer.specs.Blanks.blanks_within Rattle.c_lexer.specs.Cut.cut Rattle.c_tree.specs.declared.code.Stmt.TheViews.out-Stmt denote.Hole.Carrier.out Rattle.c_tree.specs.declared.code.Shape.TheViews.out-Shape Rattle.c_tree.specs.declared.code.Shape.TheViews.out-Suffix Rattle.c_tree.specs.declared.code.Shape.TheBlock.shown-the_row-Expr-0 Rattle.c_tree.specs.declared.code.Shape.TheBlock.shown-the_row-Suffix-1 Rattle.c_tree.specs.declared.code.Shape.TheBlock.shown-the_row-Link-2 Rattle.c_tree.specs.declared.code.Shape.TheBlock.shown-the_row-Choice-3 denote.Hole.Carrier.shown denote.Hole.Carrier.hidden Rattle.c_tree.specs.declared.code.Stmt.TheBlock.shown-the_row-Stmt-0 Rattle.std.specs.Fmt.digits
late_handler = computed late_handler_text (quiet_world) 60 (record { trace = (Made Object) ∷ (Print Out (codes "first, ")) ∷ (Print Out (codes "drop late, ")) ∷ (Gone 1) ∷ []; ended = Some (Ended (pos 0)); live = [] }) refl

-- An idle function and a timeout under a script: a pick chooses among those that are ready, and the clock goes on where none is.
abbrev sources_text : List ℕ
sources_text =
    codes "static GMainLoop *l = NULL; static gint n = 0; "
    ++ codes "gint tick (gpointer d) { n = n + 1; g_print (\"t%d \", n); if (n == 2) { g_main_loop_quit (l); return FALSE; } return TRUE; } "
    ++ codes "gint idle (gpointer d) { g_print (\"i \"); return FALSE; } "
    ++ codes "void drop (gpointer d) { g_print (\"drop \"); } "
    ++ codes "int main (int argc, char **argv) { guint s; l = g_main_loop_new (NULL, FALSE); s = g_timeout_add_full (0, 10U, (gpointer) tick, NULL, (gpointer) drop); s = g_idle_add_full (0, (gpointer) idle, NULL, NULL); "
    ++ codes "g_main_loop_run (l); g_main_loop_unref (l); return 0; } "

pub sources : Runs sources_text (scripted (Wait 10 ∷ Pick 1 ∷ [])) 60 ((Made Object) ∷ (Dispatch 2) ∷ (Print Out (codes "i ")) ∷ (Dispatch 1) ∷ (Print Out (codes "t1 ")) ∷ (Dispatch 1) ∷ (Print Out (codes "t2 ")) ∷ (Print Out (codes "drop ")) ∷ (Gone 1) ∷ []) (Some (Ended (pos 0))) ([])
unfolding Rattle.c_lexer.specs.Tokens.next_of Rattle.c_lexer.specs.Blanks.blanks_within Rattle.c_lexer.specs.Cut.cut Rattle.c_tree.specs.declared.code.Stmt.TheViews.out-Stmt denote.Hole.Carrier.out Rattle.c_tree.specs.declared.code.Shape.TheViews.out-Shape Rattle.c_tree.specs.declared.code.Shape.TheViews.out-Suffix Rattle.c_tree.specs.declared.code.Shape.TheBlock.shown-the_row-Expr-0 Rattle.c_tree.specs.declared.code.Shape.TheBlock.shown-the_row-Suffix-1 Rattle.c_tree.specs.declared.code.Shape.TheBlock.shown-the_row-Link-2 Rattle.c_tree.specs.declared.code.Shape.TheBlock.shown-the_row-Choice-3 denote.Hole.Carrier.shown denote.Hole.Carrier.hidden Rattle.c_tree.specs.declared.code.Stmt.TheBlock.shown-the_row-Stmt-0 Rattle.std.specs.Fmt.digits
sources = computed sources_text (scripted (Wait 10 ∷ Pick 1 ∷ [])) 60 (record { trace = (Made Object) ∷ (Dispatch 2) ∷ (Print Out (codes "i ")) ∷ (Dispatch 1) ∷ (Print Out (codes "t1 ")) ∷ (Dispatch 1) ∷ (Print Out (codes "t2 ")) ∷ (Print Out (codes "drop ")) ∷ (Gone 1) ∷ []; ended = Some (Ended (pos 0)); live = [] }) refl

-- A loop without a source waits for ever.
abbrev waiting_text : List ℕ
waiting_text =
    codes "int main (int argc, char **argv) { GMainLoop *l; guint s; gint b; l = g_main_loop_new (NULL, FALSE); s = g_idle_add_full (0, NULL, NULL, NULL); b = g_source_remove (7U); g_print (\"%d\", b); g_main_loop_run (l); return 0; } "

pub waiting : Runs waiting_text (quiet_world) 40 ((Made Object) ∷ (Print Out (codes "0")) ∷ (Dispatch 1) ∷ []) (Some (Waiting)) (record { kind = Object; serial = 1; owners = 2 } ∷ [])
unfolding Rattle.c_lexer.specs.Tokens.next_of Rattle.c_lexer.specs.Blanks.blanks_within Rattle.c_lexer.specs.Cut.cut Rattle.c_tree.specs.declared.code.Stmt.TheViews.out-Stmt denote.Hole.Carrier.out Rattle.c_tree.specs.declared.code.Shape.TheViews.out-Shape Rattle.c_tree.specs.declared.code.Shape.TheViews.out-Suffix Rattle.c_tree.specs.declared.code.Shape.TheBlock.shown-the_row-Expr-0 Rattle.c_tree.specs.declared.code.Shape.TheBlock.shown-the_row-Suffix-1 Rattle.c_tree.specs.declared.code.Shape.TheBlock.shown-the_row-Link-2 Rattle.c_tree.specs.declared.code.Shape.TheBlock.shown-the_row-Choice-3 denote.Hole.Carrier.shown denote.Hole.Carrier.hidden Rattle.c_tree.specs.declared.code.Stmt.TheBlock.shown-the_row-Stmt-0 Rattle.std.specs.Fmt.digits
waiting = computed waiting_text (quiet_world) 40 (record { trace = (Made Object) ∷ (Print Out (codes "0")) ∷ (Dispatch 1) ∷ []; ended = Some (Waiting); live = record { kind = Object; serial = 1; owners = 2 } ∷ [] }) refl

-- A handler that is tied to an object goes with it.
abbrev tied_text : List ℕ
tied_text =
    codes "void hear (GObject *o, gpointer d) { g_print (\"heard, \"); } "
    ++ codes "int main (int argc, char **argv) { GObject *a; GObject *b; gulong h; guint s; s = g_signal_new (\"hit\", G_TYPE_OBJECT, G_SIGNAL_RUN_LAST, 0, NULL, NULL, NULL, G_TYPE_NONE, 0U); "
    ++ codes "a = g_object_new (G_TYPE_OBJECT, NULL); b = g_object_new (G_TYPE_OBJECT, NULL); h = g_signal_connect_object (a, \"hit\", (gpointer) hear, b, 0); "
    ++ codes "g_signal_emit (a, s, 0); g_object_unref (b); g_signal_emit (a, s, 0); return (gint) h; } "

pub tied : Runs tied_text (quiet_world) 60 ((Made Object) ∷ (Made Object) ∷ (Print Out (codes "heard, ")) ∷ (Gone 2) ∷ []) (Some (Ended (pos 1))) (record { kind = Object; serial = 1; owners = 1 } ∷ [])
unfolding Rattle.c_lexer.specs.Tokens.next_of Rattle.c_lexer.specs.Blanks.blanks_within Rattle.c_lexer.specs.Cut.cut Rattle.c_tree.specs.declared.code.Stmt.TheViews.out-Stmt denote.Hole.Carrier.out Rattle.c_tree.specs.declared.code.Shape.TheViews.out-Shape Rattle.c_tree.specs.declared.code.Shape.TheViews.out-Suffix Rattle.c_tree.specs.declared.code.Shape.TheBlock.shown-the_row-Expr-0 Rattle.c_tree.specs.declared.code.Shape.TheBlock.shown-the_row-Suffix-1 Rattle.c_tree.specs.declared.code.Shape.TheBlock.shown-the_row-Link-2 Rattle.c_tree.specs.declared.code.Shape.TheBlock.shown-the_row-Choice-3 denote.Hole.Carrier.shown denote.Hole.Carrier.hidden Rattle.c_tree.specs.declared.code.Stmt.TheBlock.shown-the_row-Stmt-0 Rattle.std.specs.Fmt.digits
tied = computed tied_text (quiet_world) 60 (record { trace = (Made Object) ∷ (Made Object) ∷ (Print Out (codes "heard, ")) ∷ (Gone 2) ∷ []; ended = Some (Ended (pos 1)); live = record { kind = Object; serial = 1; owners = 1 } ∷ [] }) refl
