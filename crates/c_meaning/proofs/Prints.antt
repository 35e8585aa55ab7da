-- Numbers, prints and jumps.
use Rattle.std.proofs.Common.{refl, ℕ, List, [], ◌∷◌, ◌++◌, codes, pos, Some, None}
use Rattle.vg_base.specs.declared.event.Event.TheVariants.{Print}
use Rattle.vg_base.specs.declared.event.Stream.TheVariants.{Out}
use Rattle.vg_base.specs.declared.event.CEnd.TheVariants.{Ended, Undefined}
use Rattle.vg_base.specs.declared.event.UndefKind.TheVariants as undef
use Rattle.c_meaning.proofs.Build.{Runs, computed, quiet_world}

-- A number is stored, added to and printed.
abbrev prints_text : List ℕ
prints_text =
    codes "int main (int argc, char **argv) { gint i; i = 2; g_print (\"x%d\\n\", i + 3); return i; } "

pub prints : Runs prints_text (quiet_world) 4 ((Print Out (codes "x5\n")) ∷ []) (Some (Ended (pos 2))) ([])
unfolding Rattle.c_lexer.specs.Tokens.next_of Rattle.c_lexer.specs.Blanks.blanks_within Rattle.c_lexer.specs.Cut.cut Rattle.c_tree.specs.declared.code.Stmt.TheViews.out-Stmt denote.Hole.Carrier.out Rattle.c_tree.specs.declared.code.Shape.TheViews.out-Shape Rattle.c_tree.specs.declared.code.Shape.TheViews.out-Suffix Rattle.c_tree.specs.declared.code.Shape.TheBlock.shown-the_row-Expr-0 Rattle.c_tree.specs.declared.code.Shape.TheBlock.shown-the_row-Suffix-1 Rattle.c_tree.specs.declared.code.Shape.TheBlock.shown-the_row-Link-2 Rattle.c_tree.specs.declared.code.Shape.TheBlock.shown-the_row-Choice-3 denote.Hole.Carrier.shown denote.Hole.Carrier.hidden Rattle.c_tree.specs.declared.code.Stmt.TheBlock.shown-the_row-Stmt-0 Rattle.std.specs.Fmt.digits
prints = computed prints_text (quiet_world) 4 (record { trace = (Print Out (codes "x5\n")) ∷ []; ended = Some (Ended (pos 2)); live = [] }) refl

-- A step more is wanted for the return.
abbrev before_return_text : List ℕ
before_return_text =
    codes "int main (int argc, char **argv) { gint i; i = 2; g_print (\"x%d\\n\", i + 3); return i; } "

pub before_return : Runs before_return_text (quiet_world) 3 ((Print Out (codes "x5\n")) ∷ []) (None) ([])
unfolding Rattle.c_lexer.specs.Tokens.next_of Rattle.c_lexer.specs.Blanks.blanks_within Rattle.c_lexer.specs.Cut.cut Rattle.c_tree.specs.declared.code.Stmt.TheViews.out-Stmt denote.Hole.Carrier.out Rattle.c_tree.specs.declared.code.Shape.TheViews.out-Shape Rattle.c_tree.specs.declared.code.Shape.TheViews.out-Suffix Rattle.c_tree.specs.declared.code.Shape.TheBlock.shown-the_row-Expr-0 Rattle.c_tree.specs.declared.code.Shape.TheBlock.shown-the_row-Suffix-1 Rattle.c_tree.specs.declared.code.Shape.TheBlock.shown-the_row-Link-2 Rattle.c_tree.specs.declared.code.Shape.TheBlock.shown-the_row-Choice-3 denote.Hole.Carrier.shown denote.Hole.Carrier.hidden Rattle.c_tree.specs.declared.code.Stmt.TheBlock.shown-the_row-Stmt-0 Rattle.std.specs.Fmt.digits
before_return = computed before_return_text (quiet_world) 3 (record { trace = (Print Out (codes "x5\n")) ∷ []; ended = None; live = [] }) refl

-- The label, the print and the jump are steps of their own.
abbrev jumps_text : List ℕ
jumps_text =
    codes "int main (int argc, char **argv) { L: ; g_print (\"x\"); goto L; } "

pub jumps : Runs jumps_text (quiet_world) 8 ((Print Out (codes "x")) ∷ (Print Out (codes "x")) ∷ []) (None) ([])
unfolding Rattle.c_lexer.specs.Tokens.next_of Rattle.c_lexer.specs.Blanks.blanks_within Rattle.c_lexer.specs.Cut.cut Rattle.c_tree.specs.declared.code.Stmt.TheViews.out-Stmt denote.Hole.Carrier.out Rattle.c_tree.specs.declared.code.Shape.TheViews.out-Shape Rattle.c_tree.specs.declared.code.Shape.TheViews.out-Suffix Rattle.c_tree.specs.declared.code.Shape.TheBlock.shown-the_row-Expr-0 Rattle.c_tree.specs.declared.code.Shape.TheBlock.shown-the_row-Suffix-1 Rattle.c_tree.specs.declared.code.Shape.TheBlock.shown-the_row-Link-2 Rattle.c_tree.specs.declared.code.Shape.TheBlock.shown-the_row-Choice-3 denote.Hole.Carrier.shown denote.Hole.Carrier.hidden Rattle.c_tree.specs.declared.code.Stmt.TheBlock.shown-the_row-Stmt-0 Rattle.std.specs.Fmt.digits
jumps = computed jumps_text (quiet_world) 8 (record { trace = (Print Out (codes "x")) ∷ (Print Out (codes "x")) ∷ []; ended = None; live = [] }) refl

-- The block of an `if` is passed over where its value is false, and `if` with `goto` jumps.
abbrev branches_text : List ℕ
branches_text =
    codes "int main (int argc, char **argv) { guint8 u; u = 255; if (u < 0) { g_print (\"a\"); } else { g_print (\"b\"); } if (u == 255) goto B; g_print (\"c\"); B: ; g_print (\"%5d|%-4x|%c\", 42, 255U, 65); return 0; } "

pub branches : Runs branches_text (quiet_world) 30 ((Print Out (codes "b")) ∷ (Print Out (codes "   42|ff  |A")) ∷ []) (Some (Ended (pos 0))) ([])
unfolding Rattle.c_lexer.specs.Tokens.next_of Rattle.c_lexer.specs.Blanks.blanks_within Rattle.c_lexer.specs.Cut.cut Rattle.c_tree.specs.declared.code.Stmt.TheViews.out-Stmt denote.Hole.Carrier.out Rattle.c_tree.specs.declared.code.Shape.TheViews.out-Shape Rattle.c_tree.specs.declared.code.Shape.TheViews.out-Suffix Rattle.c_tree.specs.declared.code.Shape.TheBlock.shown-the_row-Expr-0 Rattle.c_tree.specs.declared.code.Shape.TheBlock.shown-the_row-Suffix-1 Rattle.c_tree.specs.declared.code.Shape.TheBlock.shown-the_row-Link-2 Rattle.c_tree.specs.declared.code.Shape.TheBlock.shown-the_row-Choice-3 denote.Hole.Carrier.shown denote.Hole.Carrier.hidden Rattle.c_tree.specs.declared.code.Stmt.TheBlock.shown-the_row-Stmt-0 Rattle.std.specs.Fmt.digits
branches = computed branches_text (quiet_world) 30 (record { trace = (Print Out (codes "b")) ∷ (Print Out (codes "   42|ff  |A")) ∷ []; ended = Some (Ended (pos 0)); live = [] }) refl

-- A call is a step, and the entry another; the parameters come first among the cells of a frame.
abbrev calls_text : List ℕ
calls_text =
    codes "static gint n = 4; gint twice (gint a) { gint b; b = a; return *(&b - 1) * 2; } "
    ++ codes "int main (int argc, char **argv) { gint i; i = twice (n); n = i; g_print (\"%d\", n + (i > 7 && n == 8 ? 1 : i / 0)); return 0; } "

pub calls : Runs calls_text (quiet_world) 30 ((Print Out (codes "9")) ∷ []) (Some (Ended (pos 0))) ([])
unfolding Rattle.c_lexer.specs.Tokens.next_of Rattle.c_lexer.specs.Blanks.blanks_within Rattle.c_lexer.specs.Cut.cut Rattle.c_tree.specs.declared.code.Stmt.TheViews.out-Stmt denote.Hole.Carrier.out Rattle.c_tree.specs.declared.code.Shape.TheViews.out-Shape Rattle.c_tree.specs.declared.code.Shape.TheViews.out-Suffix Rattle.c_tree.specs.declared.code.Shape.TheBlock.shown-the_row-Expr-0 Rattle.c_tree.specs.declared.code.Shape.TheBlock.shown-the_row-Suffix-1 Rattle.c_tree.specs.declared.code.Shape.TheBlock.shown-the_row-Link-2 Rattle.c_tree.specs.declared.code.Shape.TheBlock.shown-the_row-Choice-3 denote.Hole.Carrier.shown denote.Hole.Carrier.hidden Rattle.c_tree.specs.declared.code.Stmt.TheBlock.shown-the_row-Stmt-0 Rattle.std.specs.Fmt.digits
calls = computed calls_text (quiet_world) 30 (record { trace = (Print Out (codes "9")) ∷ []; ended = Some (Ended (pos 0)); live = [] }) refl

-- A struct is copied by its cells, unset ones too, and read through a pointer.
abbrev structs_text : List ℕ
structs_text =
    codes "typedef struct _P P; struct _P { gint x; gint y; }; "
    ++ codes "int main (int argc, char **argv) { P p; P q; P *r; p.x = 3; q = p; r = &q; r->x = r->x + 1; g_print (\"%d %d\", p.x, q.x); p.x = r->y; return 0; } "

pub structs : Runs structs_text (quiet_world) 30 ((Print Out (codes "3 4")) ∷ []) (Some (Undefined undef.Unset)) ([])
unfolding Rattle.c_lexer.specs.Tokens.next_of Rattle.c_lexer.specs.Blanks.blanks_within Rattle.c_lexer.specs.Cut.cut Rattle.c_tree.specs.declared.code.Stmt.TheViews.out-Stmt denote.Hole.Carrier.out Rattle.c_tree.specs.declared.code.Shape.TheViews.out-Shape Rattle.c_tree.specs.declared.code.Shape.TheViews.out-Suffix Rattle.c_tree.specs.declared.code.Shape.TheBlock.shown-the_row-Expr-0 Rattle.c_tree.specs.declared.code.Shape.TheBlock.shown-the_row-Suffix-1 Rattle.c_tree.specs.declared.code.Shape.TheBlock.shown-the_row-Link-2 Rattle.c_tree.specs.declared.code.Shape.TheBlock.shown-the_row-Choice-3 denote.Hole.Carrier.shown denote.Hole.Carrier.hidden Rattle.c_tree.specs.declared.code.Stmt.TheBlock.shown-the_row-Stmt-0 Rattle.std.specs.Fmt.digits
structs = computed structs_text (quiet_world) 30 (record { trace = (Print Out (codes "3 4")) ∷ []; ended = Some (Undefined undef.Unset); live = [] }) refl

-- A function that is not defined cannot be called.
abbrev header_only_text : List ℕ
header_only_text =
    codes "gint f (void); int main (int argc, char **argv) { gint i; g_print (\"x\"); i = f (); return i; } "

pub header_only : Runs header_only_text (quiet_world) 30 ((Print Out (codes "x")) ∷ []) (Some (Undefined undef.Func)) ([])
unfolding Rattle.c_lexer.specs.Tokens.next_of Rattle.c_lexer.specs.Blanks.blanks_within Rattle.c_lexer.specs.Cut.cut Rattle.c_tree.specs.declared.code.Stmt.TheViews.out-Stmt denote.Hole.Carrier.out Rattle.c_tree.specs.declared.code.Shape.TheViews.out-Shape Rattle.c_tree.specs.declared.code.Shape.TheViews.out-Suffix Rattle.c_tree.specs.declared.code.Shape.TheBlock.shown-the_row-Expr-0 Rattle.c_tree.specs.declared.code.Shape.TheBlock.shown-the_row-Suffix-1 Rattle.c_tree.specs.declared.code.Shape.TheBlock.shown-the_row-Link-2 Rattle.c_tree.specs.declared.code.Shape.TheBlock.shown-the_row-Choice-3 denote.Hole.Carrier.shown denote.Hole.Carrier.hidden Rattle.c_tree.specs.declared.code.Stmt.TheBlock.shown-the_row-Stmt-0 Rattle.std.specs.Fmt.digits
header_only = computed header_only_text (quiet_world) 30 (record { trace = (Print Out (codes "x")) ∷ []; ended = Some (Undefined undef.Func); live = [] }) refl
