-- Texts, arrays, scopes and errors.
use Rattle.std.proofs.Common.{refl, ℕ, List, [], ◌∷◌, ◌++◌, codes, pos, Some}
use Rattle.vg_base.specs.declared.event.Event.TheVariants.{Print, Made, Gone}
use Rattle.vg_base.specs.declared.event.Stream.TheVariants.{Out}
use Rattle.vg_base.specs.declared.event.ThingKind.TheVariants.{Text, Array, Scope, Error}
use Rattle.vg_base.specs.declared.event.CEnd.TheVariants.{Ended}
use Rattle.c_meaning.proofs.Build.{Runs, computed, quiet_world}

-- Two texts are joined, and the joined one is freed.
abbrev joined_text : List ℕ
joined_text =
    codes "int main (int argc, char **argv) { gchar *p; p = g_strconcat (\"ab\", \"c\", NULL); g_print (\"%s %d\\n\", p, 3); g_free (p); return 0; } "

pub joined : Runs joined_text (quiet_world) 30 ((Made Text) ∷ (Print Out (codes "abc 3\n")) ∷ (Gone 1) ∷ []) (Some (Ended (pos 0))) ([])
unfolding Rattle.c_lexer.specs.Tokens.next_of Rattle.c_lexer.specs.Blanks.blanks_within Rattle.c_lexer.specs.Cut.cut Rattle.c_tree.specs.declared.code.Stmt.TheViews.out-Stmt denote.Hole.Carrier.out Rattle.c_tree.specs.declared.code.Shape.TheViews.out-Shape Rattle.c_tree.specs.declared.code.Shape.TheViews.out-Suffix Rattle.c_tree.specs.declared.code.Shape.TheBlock.shown-the_row-Expr-0 Rattle.c_tree.specs.declared.code.Shape.TheBlock.shown-the_row-Suffix-1 Rattle.c_tree.specs.declared.code.Shape.TheBlock.shown-the_row-Link-2 Rattle.c_tree.specs.declared.code.Shape.TheBlock.shown-the_row-Choice-3 denote.Hole.Carrier.shown denote.Hole.Carrier.hidden Rattle.c_tree.specs.declared.code.Stmt.TheBlock.shown-the_row-Stmt-0 Rattle.std.specs.Fmt.digits
joined = computed joined_text (quiet_world) 30 (record { trace = (Made Text) ∷ (Print Out (codes "abc 3\n")) ∷ (Gone 1) ∷ []; ended = Some (Ended (pos 0)); live = [] }) refl

-- What is not freed lives at the end.
abbrev kept_text : List ℕ
kept_text =
    codes "int main (int argc, char **argv) { gchar *p; gint *q; p = g_strdup_printf (\"%d-%s\", 7, \"x\"); q = g_new0 (gint, 2); q[1] = 5; q = g_renew (gint, q, 3); g_print (\"%s %d %d\", p, q[0], q[1]); return 0; } "

pub kept : Runs kept_text (quiet_world) 30 ((Made Text) ∷ (Made Array) ∷ (Made Array) ∷ (Gone 2) ∷ (Print Out (codes "7-x 0 5")) ∷ []) (Some (Ended (pos 0))) (record { kind = Text; serial = 1; owners = 1 } ∷ record { kind = Array; serial = 3; owners = 1 } ∷ [])
unfolding Rattle.c_lexer.specs.Tokens.next_of Rattle.c_lexer.specs.Blanks.blanks_within Rattle.c_lexer.specs.Cut.cut Rattle.c_tree.specs.declared.code.Stmt.TheViews.out-Stmt denote.Hole.Carrier.out Rattle.c_tree.specs.declared.code.Shape.TheViews.out-Shape Rattle.c_tree.specs.declared.code.Shape.TheViews.out-Suffix Rattle.c_tree.specs.declared.code.Shape.TheBlock.shown-the_row-Expr-0 Rattle.c_tree.specs.declared.code.Shape.TheBlock.shown-the_row-Suffix-1 Rattle.c_tree.specs.declared.code.Shape.TheBlock.shown-the_row-Link-2 Rattle.c_tree.specs.declared.code.Shape.TheBlock.shown-the_row-Choice-3 denote.Hole.Carrier.shown denote.Hole.Carrier.hidden Rattle.c_tree.specs.declared.code.Stmt.TheBlock.shown-the_row-Stmt-0 Rattle.std.specs.Fmt.digits
kept = computed kept_text (quiet_world) 30 (record { trace = (Made Text) ∷ (Made Array) ∷ (Made Array) ∷ (Gone 2) ∷ (Print Out (codes "7-x 0 5")) ∷ []; ended = Some (Ended (pos 0)); live = record { kind = Text; serial = 1; owners = 1 } ∷ record { kind = Array; serial = 3; owners = 1 } ∷ [] }) refl

-- A struct whose first field counts is a scope.
abbrev scope_text : List ℕ
scope_text =
    codes "typedef struct _B B; struct _B { gsize _ref_count_; gint x; }; "
    ++ codes "int main (int argc, char **argv) { B *b; b = g_slice_new0 (B); b->_ref_count_ = 2U; g_print (\"%d\", b->x); return 0; } "

pub scope : Runs scope_text (quiet_world) 30 ((Made Scope) ∷ (Print Out (codes "0")) ∷ []) (Some (Ended (pos 0))) (record { kind = Scope; serial = 1; owners = 2 } ∷ [])
unfolding Rattle.c_lexer.specs.Tokens.next_of Rattle.c_lexer.specs.Blanks.blanks_within Rattle.c_lexer.specs.Cut.cut Rattle.c_tree.specs.declared.code.Stmt.TheViews.out-Stmt denote.Hole.Carrier.out Rattle.c_tree.specs.declared.code.Shape.TheViews.out-Shape Rattle.c_tree.specs.declared.code.Shape.TheViews.out-Suffix Rattle.c_tree.specs.declared.code.Shape.TheBlock.shown-the_row-Expr-0 Rattle.c_tree.specs.declared.code.Shape.TheBlock.shown-the_row-Suffix-1 Rattle.c_tree.specs.declared.code.Shape.TheBlock.shown-the_row-Link-2 Rattle.c_tree.specs.declared.code.Shape.TheBlock.shown-the_row-Choice-3 denote.Hole.Carrier.shown denote.Hole.Carrier.hidden Rattle.c_tree.specs.declared.code.Stmt.TheBlock.shown-the_row-Stmt-0 Rattle.std.specs.Fmt.digits
scope = computed scope_text (quiet_world) 30 (record { trace = (Made Scope) ∷ (Print Out (codes "0")) ∷ []; ended = Some (Ended (pos 0)); live = record { kind = Scope; serial = 1; owners = 2 } ∷ [] }) refl

-- An error goes up through a place, and is freed where it was taken.
abbrev error_text : List ℕ
error_text =
    codes "void f (GError **error) { GError *e; e = g_error_new (1U, 2, \"bad %d\", 7); g_propagate_error (error, e); } "
    ++ codes "int main (int argc, char **argv) { GError *e; gint b; e = NULL; f (&e); if (e != NULL) { b = g_error_matches (e, 1U, 2); g_print (\"%s %d\\n\", e->message, b); g_error_free (e); } return 0; } "

pub error : Runs error_text (quiet_world) 30 ((Made Error) ∷ (Print Out (codes "bad 7 1\n")) ∷ (Gone 1) ∷ []) (Some (Ended (pos 0))) ([])
unfolding Rattle.c_lexer.specs.Tokens.next_of Rattle.c_lexer.specs.Blanks.blanks_within Rattle.c_lexer.specs.Cut.cut Rattle.c_tree.specs.declared.code.Stmt.TheViews.out-Stmt denote.Hole.Carrier.out Rattle.c_tree.specs.declared.code.Shape.TheViews.out-Shape Rattle.c_tree.specs.declared.code.Shape.TheViews.out-Suffix Rattle.c_tree.specs.declared.code.Shape.TheBlock.shown-the_row-Expr-0 Rattle.c_tree.specs.declared.code.Shape.TheBlock.shown-the_row-Suffix-1 Rattle.c_tree.specs.declared.code.Shape.TheBlock.shown-the_row-Link-2 Rattle.c_tree.specs.declared.code.Shape.TheBlock.shown-the_row-Choice-3 denote.Hole.Carrier.shown denote.Hole.Carrier.hidden Rattle.c_tree.specs.declared.code.Stmt.TheBlock.shown-the_row-Stmt-0 Rattle.std.specs.Fmt.digits
error = computed error_text (quiet_world) 30 (record { trace = (Made Error) ∷ (Print Out (codes "bad 7 1\n")) ∷ (Gone 1) ∷ []; ended = Some (Ended (pos 0)); live = [] }) refl

-- Lines of the input, and quarks.
abbrev lines_text : List ℕ
lines_text =
    codes "int main (int argc, char **argv) { gchar *p; GQuark q; q = g_quark_from_static_string (\"b\"); q = g_quark_from_static_string (\"a\"); p = vala_rt_read_line (); g_print (\"%s %u\", p, q); g_free (p); p = vala_rt_read_line (); if (p == NULL) { g_print (\"end\"); } return 0; } "

pub lines : Runs lines_text ((record { name = codes "a"; input = codes "hi\n"; entries = [] })) 30 ((Made Text) ∷ (Print Out (codes "hi 2")) ∷ (Gone 1) ∷ (Print Out (codes "end")) ∷ []) (Some (Ended (pos 0))) ([])
unfolding Rattle.c_lexer.specs.Tokens.next_of Rattle.c_lexer.specs.Blanks.blanks_within Rattle.c_lexer.specs.Cut.cut Rattle.c_tree.specs.declared.code.Stmt.TheViews.out-Stmt denote.Hole.Carrier.out Rattle.c_tree.specs.declared.code.Shape.TheViews.out-Shape Rattle.c_tree.specs.declared.code.Shape.TheViews.out-Suffix Rattle.c_tree.specs.declared.code.Shape.TheBlock.shown-the_row-Expr-0 Rattle.c_tree.specs.declared.code.Shape.TheBlock.shown-the_row-Suffix-1 Rattle.c_tree.specs.declared.code.Shape.TheBlock.shown-the_row-Link-2 Rattle.c_tree.specs.declared.code.Shape.TheBlock.shown-the_row-Choice-3 denote.Hole.Carrier.shown denote.Hole.Carrier.hidden Rattle.c_tree.specs.declared.code.Stmt.TheBlock.shown-the_row-Stmt-0 Rattle.std.specs.Fmt.digits
lines = computed lines_text ((record { name = codes "a"; input = codes "hi\n"; entries = [] })) 30 (record { trace = (Made Text) ∷ (Print Out (codes "hi 2")) ∷ (Gone 1) ∷ (Print Out (codes "end")) ∷ []; ended = Some (Ended (pos 0)); live = [] }) refl
