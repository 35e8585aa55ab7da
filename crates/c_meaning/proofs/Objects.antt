-- Objects: their making, their ending, their properties and their interfaces.
use Rattle.std.proofs.Common.{refl, ℕ, List, [], ◌∷◌, ◌++◌, codes, pos, Some}
use Rattle.vg_base.specs.declared.event.Event.TheVariants.{Print, Made, Gone}
use Rattle.vg_base.specs.declared.event.Stream.TheVariants.{Out}
use Rattle.vg_base.specs.declared.event.ThingKind.TheVariants.{Object}
use Rattle.vg_base.specs.declared.event.CEnd.TheVariants.{Ended, Undefined}
use Rattle.vg_base.specs.declared.event.UndefKind.TheVariants as undef
use Rattle.c_meaning.proofs.Build.{Runs, computed, quiet_world}

-- A destructor runs where the last of two owners goes, in front of what comes behind.
abbrev destructor_text : List ℕ
destructor_text =
    codes "typedef struct _Foo Foo; typedef struct _K K; struct _Foo { GObject parent; }; struct _K { GObjectClass parent; }; "
    ++ codes "static GType t = 0; static gpointer up = NULL; "
    ++ codes "void fin (GObject *o) { GObjectClass *c; g_print (\"gone\\n\"); c = (GObjectClass *) up; if (c->finalize != NULL) { c->finalize (o); } } "
    ++ codes "void kinit (K *k) { GObjectClass *c; up = g_type_class_peek_parent (k); c = (GObjectClass *) k; c->finalize = fin; } "
    ++ codes "void init (Foo *f) { g_print (\"init\\n\"); } "
    ++ codes "int main (int argc, char **argv) { Foo *a; Foo *b; "
    ++ codes "t = g_type_register_static_simple (G_TYPE_OBJECT, \"Foo\", sizeof (K), (gpointer) kinit, sizeof (Foo), (gpointer) init, 0); "
    ++ codes "a = g_object_new (t, NULL); b = a; g_object_ref (b); g_object_unref (a); g_print (\"one\\n\"); g_object_unref (b); g_print (\"two\\n\"); return 0; } "

pub destructor : Runs destructor_text (quiet_world) 60 ((Made Object) ∷ (Print Out (codes "init\n")) ∷ (Print Out (codes "one\n")) ∷ (Print Out (codes "gone\n")) ∷ (Gone 1) ∷ (Print Out (codes "two\n")) ∷ []) (Some (Ended (pos 0))) ([])
unfolding Rattle.c_lexer.specs.Tokens.next_of Rattle.c_lexer.specs.Blanks.blanks_within Rattle.c_lexer.specs.Cut.cut Rattle.c_tree.specs.declared.code.Stmt.TheViews.out-Stmt denote.Hole.Carrier.out Rattle.c_tree.specs.declared.code.Shape.TheViews.out-Shape Rattle.c_tree.specs.declared.code.Shape.TheViews.out-Suffix Rattle.c_tree.specs.declared.code.Shape.TheBlock.shown-the_row-Expr-0 Rattle.c_tree.specs.declared.code.Shape.TheBlock.shown-the_row-Suffix-1 Rattle.c_tree.specs.declared.code.Shape.TheBlock.shown-the_row-Link-2 Rattle.c_tree.specs.declared.code.Shape.TheBlock.shown-the_row-Choice-3 denote.Hole.Carrier.shown denote.Hole.Carrier.hidden Rattle.c_tree.specs.declared.code.Stmt.TheBlock.shown-the_row-Stmt-0 Rattle.std.specs.Fmt.digits
destructor = computed destructor_text (quiet_world) 60 (record { trace = (Made Object) ∷ (Print Out (codes "init\n")) ∷ (Print Out (codes "one\n")) ∷ (Print Out (codes "gone\n")) ∷ (Gone 1) ∷ (Print Out (codes "two\n")) ∷ []; ended = Some (Ended (pos 0)); live = [] }) refl

-- An object that keeps a count lives at the end, and one that has none left cannot be used.
abbrev still_held_text : List ℕ
still_held_text =
    codes "int main (int argc, char **argv) { GObject *a; GObject *b; "
    ++ codes "a = g_object_new (G_TYPE_OBJECT, NULL); g_object_ref (a); b = g_object_new (G_TYPE_OBJECT, NULL); g_object_unref (b); g_object_ref (b); return 0; } "

pub still_held : Runs still_held_text (quiet_world) 30 ((Made Object) ∷ (Made Object) ∷ (Gone 2) ∷ []) (Some (Undefined undef.Freed)) (record { kind = Object; serial = 1; owners = 2 } ∷ [])
unfolding Rattle.c_lexer.specs.Tokens.next_of Rattle.c_lexer.specs.Blanks.blanks_within Rattle.c_lexer.specs.Cut.cut Rattle.c_tree.specs.declared.code.Stmt.TheViews.out-Stmt denote.Hole.Carrier.out Rattle.c_tree.specs.declared.code.Shape.TheViews.out-Shape Rattle.c_tree.specs.declared.code.Shape.TheViews.out-Suffix Rattle.c_tree.specs.declared.code.Shape.TheBlock.shown-the_row-Expr-0 Rattle.c_tree.specs.declared.code.Shape.TheBlock.shown-the_row-Suffix-1 Rattle.c_tree.specs.declared.code.Shape.TheBlock.shown-the_row-Link-2 Rattle.c_tree.specs.declared.code.Shape.TheBlock.shown-the_row-Choice-3 denote.Hole.Carrier.shown denote.Hole.Carrier.hidden Rattle.c_tree.specs.declared.code.Stmt.TheBlock.shown-the_row-Stmt-0 Rattle.std.specs.Fmt.digits
still_held = computed still_held_text (quiet_world) 30 (record { trace = (Made Object) ∷ (Made Object) ∷ (Gone 2) ∷ []; ended = Some (Undefined undef.Freed); live = record { kind = Object; serial = 1; owners = 2 } ∷ [] }) refl

-- A property that is set at construction comes before `constructed`, and the others behind it; a notification runs the handler of its own name.
abbrev properties_text : List ℕ
properties_text =
    codes "typedef struct _Foo Foo; typedef struct _K K; struct _Foo { GObject parent; gint v; }; struct _K { GObjectClass parent; }; "
    ++ codes "void set (GObject *o, guint id, GValue *v, GParamSpec *p) { gint i; i = g_value_get_int (v); ((Foo *) o)->v = i; g_print (\"%s=%d \", p->name, i); } "
    ++ codes "void made (GObject *o) { g_print (\"made \"); } "
    ++ codes "void changed (GObject *o, GParamSpec *p, gpointer d) { g_print (\"%s changed\", p->name); } "
    ++ codes "void kinit (K *k) { GObjectClass *c; GParamSpec *p; c = (GObjectClass *) k; c->set_property = set; c->constructed = made; "
    ++ codes "p = g_param_spec_int (\"v\", \"\", \"\", 0, 9, 4, G_PARAM_READWRITE | G_PARAM_CONSTRUCT); g_object_class_install_property (c, 1U, p); "
    ++ codes "p = g_param_spec_int (\"w\", \"\", \"\", 0, 9, 4, G_PARAM_READWRITE); g_object_class_install_property (c, 2U, p); } "
    ++ codes "int main (int argc, char **argv) { GType t; Foo *a; gulong h; "
    ++ codes "t = g_type_register_static_simple (G_TYPE_OBJECT, \"Foo\", sizeof (K), (gpointer) kinit, sizeof (Foo), NULL, 0); "
    ++ codes "a = g_object_new (t, \"w\", 7, \"v\", 5, NULL); a = g_object_new (t, NULL); h = g_signal_connect_data (a, \"notify::v\", (gpointer) changed, NULL, NULL, 0); "
    ++ codes "g_object_notify ((GObject *) a, \"w\"); g_object_notify ((GObject *) a, \"v\"); return a->v; } "

pub properties : Runs properties_text (quiet_world) 90 ((Made Object) ∷ (Print Out (codes "v=5 ")) ∷ (Print Out (codes "made ")) ∷ (Print Out (codes "w=7 ")) ∷ (Made Object) ∷ (Print Out (codes "v=4 ")) ∷ (Print Out (codes "made ")) ∷ (Print Out (codes "v changed")) ∷ []) (Some (Ended (pos 4))) (record { kind = Object; serial = 1; owners = 1 } ∷ record { kind = Object; serial = 2; owners = 1 } ∷ [])
unfolding Rattle.c_lexer.specs.Tokens.next_of Rattle.c_lexer.specs.Blanks.blanks_within Rattle.c_lexer.specs.Cut.cut Rattle.c_tree.specs.declared.code.Stmt.TheViews.out-Stmt denote.Hole.Carrier.out Rattle.c_tree.specs.declared.code.Shape.TheViews.out-Shape Rattle.c_tree.specs.declared.code.Shape.TheViews.out-Suffix Rattle.c_tree.specs.declared.code.Shape.TheBlock.shown-the_row-Expr-0 Rattle.c_tree.specs.declared.code.Shape.TheBlock.shown-the_row-Suffix-1 Rattle.c_tree.specs.declared.code.Shape.TheBlock.shown-the_row-Link-2 Rattle.c_tree.specs.declared.code.Shape.TheBlock.shown-the_row-Choice-3 denote.Hole.Carrier.shown denote.Hole.Carrier.hidden Rattle.c_tree.specs.declared.code.Stmt.TheBlock.shown-the_row-Stmt-0 Rattle.std.specs.Fmt.digits
properties = computed properties_text (quiet_world) 90 (record { trace = (Made Object) ∷ (Print Out (codes "v=5 ")) ∷ (Print Out (codes "made ")) ∷ (Print Out (codes "w=7 ")) ∷ (Made Object) ∷ (Print Out (codes "v=4 ")) ∷ (Print Out (codes "made ")) ∷ (Print Out (codes "v changed")) ∷ []; ended = Some (Ended (pos 4)); live = record { kind = Object; serial = 1; owners = 1 } ∷ record { kind = Object; serial = 2; owners = 1 } ∷ [] }) refl

-- An interface has a table in each class that implements it.
abbrev interfaces_text : List ℕ
interfaces_text =
    codes "typedef void (*F) (void); typedef struct _Info Info; struct _Info { gpointer init; gpointer end; gpointer more; }; typedef struct _I I; struct _I { GTypeInterface parent; F f; }; void hi (void) { g_print (\"hi\"); } void fill (gpointer i) { ((I *) i)->f = hi; } "
    ++ codes "int main (int argc, char **argv) { GType i; GType t; GObject *a; I *x; gint b; Info info; info.init = (gpointer) fill; i = g_type_register_static_simple (G_TYPE_INTERFACE, \"I\", sizeof (I), NULL, 0U, NULL, 0); "
    ++ codes "t = g_type_register_static_simple (G_TYPE_OBJECT, \"Foo\", sizeof (GObjectClass), NULL, sizeof (GObject), NULL, 0); g_type_add_interface_static (t, i, &info); "
    ++ codes "a = g_object_new (t, NULL); b = g_type_check_instance_is_a (a, i); g_print (\"%d \", b); x = g_type_interface_peek (a->g_type_instance.g_class, i); x->f (); g_object_unref (a); return 0; } "

pub interfaces : Runs interfaces_text (quiet_world) 60 ((Made Object) ∷ (Print Out (codes "1 ")) ∷ (Print Out (codes "hi")) ∷ (Gone 1) ∷ []) (Some (Ended (pos 0))) ([])
unfolding Rattle.c_lexer.specs.Tokens.next_of Rattle.c_lexer.specs.Blanks.blanks_within Rattle.c_lexer.specs.Cut.cut Rattle.c_tree.specs.declared.code.Stmt.TheViews.out-Stmt denote.Hole.Carrier.out Rattle.c_tree.specs.declared.code.Shape.TheViews.out-Shape Rattle.c_tree.specs.declared.code.Shape.TheViews.out-Suffix Rattle.c_tree.specs.declared.code.Shape.TheBlock.shown-the_row-Expr-0 Rattle.c_tree.specs.declared.code.Shape.TheBlock.shown-the_row-Suffix-1 Rattle.c_tree.specs.declared.code.Shape.TheBlock.shown-the_row-Link-2 Rattle.c_tree.specs.declared.code.Shape.TheBlock.shown-the_row-Choice-3 denote.Hole.Carrier.shown denote.Hole.Carrier.hidden Rattle.c_tree.specs.declared.code.Stmt.TheBlock.shown-the_row-Stmt-0 Rattle.std.specs.Fmt.digits
interfaces = computed interfaces_text (quiet_world) 60 (record { trace = (Made Object) ∷ (Print Out (codes "1 ")) ∷ (Print Out (codes "hi")) ∷ (Gone 1) ∷ []; ended = Some (Ended (pos 0)); live = [] }) refl
