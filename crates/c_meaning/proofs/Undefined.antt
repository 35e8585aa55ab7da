-- Uses without a meaning.
use Rattle.std.proofs.Common.{refl, ℕ, List, [], ◌∷◌, ◌++◌, codes, Some}
use Rattle.vg_base.specs.declared.event.Event.TheVariants.{Print, Made, Gone}
use Rattle.vg_base.specs.declared.event.Stream.TheVariants.{Out}
use Rattle.vg_base.specs.declared.event.ThingKind.TheVariants.{Text}
use Rattle.vg_base.specs.declared.event.CEnd.TheVariants.{Undefined, Aborted}
use Rattle.vg_base.specs.declared.event.UndefKind.TheVariants as undef
use Rattle.vg_base.specs.declared.event.TrapKind.TheVariants as trap
use Rattle.c_meaning.proofs.Build.{Runs, computed, quiet_world}

-- A sum of two numbers with a sign that is too great.
abbrev overflow_text : List ℕ
overflow_text =
    codes "int main (int argc, char **argv) { gint i; guint u; u = 4294967295; u = u + 1U; i = 2147483647; i = i + 1; return 0; } "

pub overflow : Runs overflow_text (quiet_world) 30 ([]) (Some (Undefined undef.Overflow)) ([])
unfolding Rattle.c_lexer.specs.Tokens.next_of Rattle.c_lexer.specs.Blanks.blanks_within Rattle.c_lexer.specs.Cut.cut Rattle.c_tree.specs.declared.code.Stmt.TheViews.out-Stmt denote.Hole.Carrier.out Rattle.c_tree.specs.declared.code.Shape.TheViews.out-Shape Rattle.c_tree.specs.declared.code.Shape.TheViews.out-Suffix Rattle.c_tree.specs.declared.code.Shape.TheBlock.shown-the_row-Expr-0 Rattle.c_tree.specs.declared.code.Shape.TheBlock.shown-the_row-Suffix-1 Rattle.c_tree.specs.declared.code.Shape.TheBlock.shown-the_row-Link-2 Rattle.c_tree.specs.declared.code.Shape.TheBlock.shown-the_row-Choice-3 denote.Hole.Carrier.shown denote.Hole.Carrier.hidden Rattle.c_tree.specs.declared.code.Stmt.TheBlock.shown-the_row-Stmt-0 Rattle.std.specs.Fmt.digits
overflow = computed overflow_text (quiet_world) 30 (record { trace = []; ended = Some (Undefined undef.Overflow); live = [] }) refl

-- A divisor of 0, and a place that is null behind it: the place is looked for first.
abbrev divide_text : List ℕ
divide_text =
    codes "int main (int argc, char **argv) { gint *p; gint z; z = 0; p = &z; *p = 1 / z; return 0; } "

pub divide : Runs divide_text (quiet_world) 30 ([]) (Some (Undefined undef.Divide)) ([])
unfolding Rattle.c_lexer.specs.Tokens.next_of Rattle.c_lexer.specs.Blanks.blanks_within Rattle.c_lexer.specs.Cut.cut Rattle.c_tree.specs.declared.code.Stmt.TheViews.out-Stmt denote.Hole.Carrier.out Rattle.c_tree.specs.declared.code.Shape.TheViews.out-Shape Rattle.c_tree.specs.declared.code.Shape.TheViews.out-Suffix Rattle.c_tree.specs.declared.code.Shape.TheBlock.shown-the_row-Expr-0 Rattle.c_tree.specs.declared.code.Shape.TheBlock.shown-the_row-Suffix-1 Rattle.c_tree.specs.declared.code.Shape.TheBlock.shown-the_row-Link-2 Rattle.c_tree.specs.declared.code.Shape.TheBlock.shown-the_row-Choice-3 denote.Hole.Carrier.shown denote.Hole.Carrier.hidden Rattle.c_tree.specs.declared.code.Stmt.TheBlock.shown-the_row-Stmt-0 Rattle.std.specs.Fmt.digits
divide = computed divide_text (quiet_world) 30 (record { trace = []; ended = Some (Undefined undef.Divide); live = [] }) refl

-- The place of an assignment is found before its value.
abbrev null_first_text : List ℕ
null_first_text =
    codes "int main (int argc, char **argv) { gint *p; gint z; z = 0; p = NULL; *p = 1 / z; return 0; } "

pub null_first : Runs null_first_text (quiet_world) 30 ([]) (Some (Undefined undef.Null)) ([])
unfolding Rattle.c_lexer.specs.Tokens.next_of Rattle.c_lexer.specs.Blanks.blanks_within Rattle.c_lexer.specs.Cut.cut Rattle.c_tree.specs.declared.code.Stmt.TheViews.out-Stmt denote.Hole.Carrier.out Rattle.c_tree.specs.declared.code.Shape.TheViews.out-Shape Rattle.c_tree.specs.declared.code.Shape.TheViews.out-Suffix Rattle.c_tree.specs.declared.code.Shape.TheBlock.shown-the_row-Expr-0 Rattle.c_tree.specs.declared.code.Shape.TheBlock.shown-the_row-Suffix-1 Rattle.c_tree.specs.declared.code.Shape.TheBlock.shown-the_row-Link-2 Rattle.c_tree.specs.declared.code.Shape.TheBlock.shown-the_row-Choice-3 denote.Hole.Carrier.shown denote.Hole.Carrier.hidden Rattle.c_tree.specs.declared.code.Stmt.TheBlock.shown-the_row-Stmt-0 Rattle.std.specs.Fmt.digits
null_first = computed null_first_text (quiet_world) 30 (record { trace = []; ended = Some (Undefined undef.Null); live = [] }) refl

-- The least number by -1.
abbrev least_by_minus_one_text : List ℕ
least_by_minus_one_text =
    codes "int main (int argc, char **argv) { gint i; i = -2147483647 - 1; i = i % -1; return 0; } "

pub least_by_minus_one : Runs least_by_minus_one_text (quiet_world) 30 ([]) (Some (Undefined undef.Overflow)) ([])
unfolding Rattle.c_lexer.specs.Tokens.next_of Rattle.c_lexer.specs.Blanks.blanks_within Rattle.c_lexer.specs.Cut.cut Rattle.c_tree.specs.declared.code.Stmt.TheViews.out-Stmt denote.Hole.Carrier.out Rattle.c_tree.specs.declared.code.Shape.TheViews.out-Shape Rattle.c_tree.specs.declared.code.Shape.TheViews.out-Suffix Rattle.c_tree.specs.declared.code.Shape.TheBlock.shown-the_row-Expr-0 Rattle.c_tree.specs.declared.code.Shape.TheBlock.shown-the_row-Suffix-1 Rattle.c_tree.specs.declared.code.Shape.TheBlock.shown-the_row-Link-2 Rattle.c_tree.specs.declared.code.Shape.TheBlock.shown-the_row-Choice-3 denote.Hole.Carrier.shown denote.Hole.Carrier.hidden Rattle.c_tree.specs.declared.code.Stmt.TheBlock.shown-the_row-Stmt-0 Rattle.std.specs.Fmt.digits
least_by_minus_one = computed least_by_minus_one_text (quiet_world) 30 (record { trace = []; ended = Some (Undefined undef.Overflow); live = [] }) refl

-- A shift by the width.
abbrev shift_text : List ℕ
shift_text =
    codes "int main (int argc, char **argv) { guint u; u = 1U << 32; return 0; } "

pub shift : Runs shift_text (quiet_world) 30 ([]) (Some (Undefined undef.Overflow)) ([])
unfolding Rattle.c_lexer.specs.Tokens.next_of Rattle.c_lexer.specs.Blanks.blanks_within Rattle.c_lexer.specs.Cut.cut Rattle.c_tree.specs.declared.code.Stmt.TheViews.out-Stmt denote.Hole.Carrier.out Rattle.c_tree.specs.declared.code.Shape.TheViews.out-Shape Rattle.c_tree.specs.declared.code.Shape.TheViews.out-Suffix Rattle.c_tree.specs.declared.code.Shape.TheBlock.shown-the_row-Expr-0 Rattle.c_tree.specs.declared.code.Shape.TheBlock.shown-the_row-Suffix-1 Rattle.c_tree.specs.declared.code.Shape.TheBlock.shown-the_row-Link-2 Rattle.c_tree.specs.declared.code.Shape.TheBlock.shown-the_row-Choice-3 denote.Hole.Carrier.shown denote.Hole.Carrier.hidden Rattle.c_tree.specs.declared.code.Stmt.TheBlock.shown-the_row-Stmt-0 Rattle.std.specs.Fmt.digits
shift = computed shift_text (quiet_world) 30 (record { trace = []; ended = Some (Undefined undef.Overflow); live = [] }) refl

-- A variable that nothing was stored to.
abbrev unset_text : List ℕ
unset_text =
    codes "int main (int argc, char **argv) { gint i; gint j; j = i; return 0; } "

pub unset : Runs unset_text (quiet_world) 30 ([]) (Some (Undefined undef.Unset)) ([])
unfolding Rattle.c_lexer.specs.Tokens.next_of Rattle.c_lexer.specs.Blanks.blanks_within Rattle.c_lexer.specs.Cut.cut Rattle.c_tree.specs.declared.code.Stmt.TheViews.out-Stmt denote.Hole.Carrier.out Rattle.c_tree.specs.declared.code.Shape.TheViews.out-Shape Rattle.c_tree.specs.declared.code.Shape.TheViews.out-Suffix Rattle.c_tree.specs.declared.code.Shape.TheBlock.shown-the_row-Expr-0 Rattle.c_tree.specs.declared.code.Shape.TheBlock.shown-the_row-Suffix-1 Rattle.c_tree.specs.declared.code.Shape.TheBlock.shown-the_row-Link-2 Rattle.c_tree.specs.declared.code.Shape.TheBlock.shown-the_row-Choice-3 denote.Hole.Carrier.shown denote.Hole.Carrier.hidden Rattle.c_tree.specs.declared.code.Stmt.TheBlock.shown-the_row-Stmt-0 Rattle.std.specs.Fmt.digits
unset = computed unset_text (quiet_world) 30 (record { trace = []; ended = Some (Undefined undef.Unset); live = [] }) refl

-- The end of the body of a function with a result belongs to the step before it.
abbrev no_return_text : List ℕ
no_return_text =
    codes "int main (int argc, char **argv) { g_print (\"x\"); } "

pub no_return : Runs no_return_text (quiet_world) 2 ((Print Out (codes "x")) ∷ []) (Some (Undefined undef.Unset)) ([])
unfolding Rattle.c_lexer.specs.Tokens.next_of Rattle.c_lexer.specs.Blanks.blanks_within Rattle.c_lexer.specs.Cut.cut Rattle.c_tree.specs.declared.code.Stmt.TheViews.out-Stmt denote.Hole.Carrier.out Rattle.c_tree.specs.declared.code.Shape.TheViews.out-Shape Rattle.c_tree.specs.declared.code.Shape.TheViews.out-Suffix Rattle.c_tree.specs.declared.code.Shape.TheBlock.shown-the_row-Expr-0 Rattle.c_tree.specs.declared.code.Shape.TheBlock.shown-the_row-Suffix-1 Rattle.c_tree.specs.declared.code.Shape.TheBlock.shown-the_row-Link-2 Rattle.c_tree.specs.declared.code.Shape.TheBlock.shown-the_row-Choice-3 denote.Hole.Carrier.shown denote.Hole.Carrier.hidden Rattle.c_tree.specs.declared.code.Stmt.TheBlock.shown-the_row-Stmt-0 Rattle.std.specs.Fmt.digits
no_return = computed no_return_text (quiet_world) 2 (record { trace = (Print Out (codes "x")) ∷ []; ended = Some (Undefined undef.Unset); live = [] }) refl

-- The array that `main` is given has one cell.
abbrev outside_text : List ℕ
outside_text =
    codes "int main (int argc, char **argv) { g_print (\"%s\", argv[0]); g_print (\"%d\", argv[1] == NULL); return 0; } "

pub outside : Runs outside_text (quiet_world) 30 ((Print Out (codes "a")) ∷ []) (Some (Undefined undef.Outside)) ([])
unfolding Rattle.c_lexer.specs.Tokens.next_of Rattle.c_lexer.specs.Blanks.blanks_within Rattle.c_lexer.specs.Cut.cut Rattle.c_tree.specs.declared.code.Stmt.TheViews.out-Stmt denote.Hole.Carrier.out Rattle.c_tree.specs.declared.code.Shape.TheViews.out-Shape Rattle.c_tree.specs.declared.code.Shape.TheViews.out-Suffix Rattle.c_tree.specs.declared.code.Shape.TheBlock.shown-the_row-Expr-0 Rattle.c_tree.specs.declared.code.Shape.TheBlock.shown-the_row-Suffix-1 Rattle.c_tree.specs.declared.code.Shape.TheBlock.shown-the_row-Link-2 Rattle.c_tree.specs.declared.code.Shape.TheBlock.shown-the_row-Choice-3 denote.Hole.Carrier.shown denote.Hole.Carrier.hidden Rattle.c_tree.specs.declared.code.Stmt.TheBlock.shown-the_row-Stmt-0 Rattle.std.specs.Fmt.digits
outside = computed outside_text (quiet_world) 30 (record { trace = (Print Out (codes "a")) ∷ []; ended = Some (Undefined undef.Outside); live = [] }) refl

-- A text that was freed.
abbrev freed_text : List ℕ
freed_text =
    codes "int main (int argc, char **argv) { gchar *p; p = g_strdup (\"x\"); g_free (p); g_print (\"%s\", p); return 0; } "

pub freed : Runs freed_text (quiet_world) 30 ((Made Text) ∷ (Gone 1) ∷ []) (Some (Undefined undef.Freed)) ([])
unfolding Rattle.c_lexer.specs.Tokens.next_of Rattle.c_lexer.specs.Blanks.blanks_within Rattle.c_lexer.specs.Cut.cut Rattle.c_tree.specs.declared.code.Stmt.TheViews.out-Stmt denote.Hole.Carrier.out Rattle.c_tree.specs.declared.code.Shape.TheViews.out-Shape Rattle.c_tree.specs.declared.code.Shape.TheViews.out-Suffix Rattle.c_tree.specs.declared.code.Shape.TheBlock.shown-the_row-Expr-0 Rattle.c_tree.specs.declared.code.Shape.TheBlock.shown-the_row-Suffix-1 Rattle.c_tree.specs.declared.code.Shape.TheBlock.shown-the_row-Link-2 Rattle.c_tree.specs.declared.code.Shape.TheBlock.shown-the_row-Choice-3 denote.Hole.Carrier.shown denote.Hole.Carrier.hidden Rattle.c_tree.specs.declared.code.Stmt.TheBlock.shown-the_row-Stmt-0 Rattle.std.specs.Fmt.digits
freed = computed freed_text (quiet_world) 30 (record { trace = (Made Text) ∷ (Gone 1) ∷ []; ended = Some (Undefined undef.Freed); live = [] }) refl

-- A pointer to a variable of a function that has returned.
abbrev dangling_text : List ℕ
dangling_text =
    codes "gint *f (void) { gint a; gint *p; a = 1; p = &a; return p; } "
    ++ codes "int main (int argc, char **argv) { gint *p; gint i; p = f (); g_print (\"x\"); i = *p; return i; } "

pub dangling : Runs dangling_text (quiet_world) 30 ((Print Out (codes "x")) ∷ []) (Some (Undefined undef.Freed)) ([])
unfolding Rattle.c_lexer.specs.Tokens.next_of Rattle.c_lexer.specs.Blanks.blanks_within Rattle.c_lexer.specs.Cut.cut Rattle.c_tree.specs.declared.code.Stmt.TheViews.out-Stmt denote.Hole.Carrier.out Rattle.c_tree.specs.declared.code.Shape.TheViews.out-Shape Rattle.c_tree.specs.declared.code.Shape.TheViews.out-Suffix Rattle.c_tree.specs.declared.code.Shape.TheBlock.shown-the_row-Expr-0 Rattle.c_tree.specs.declared.code.Shape.TheBlock.shown-the_row-Suffix-1 Rattle.c_tree.specs.declared.code.Shape.TheBlock.shown-the_row-Link-2 Rattle.c_tree.specs.declared.code.Shape.TheBlock.shown-the_row-Choice-3 denote.Hole.Carrier.shown denote.Hole.Carrier.hidden Rattle.c_tree.specs.declared.code.Stmt.TheBlock.shown-the_row-Stmt-0 Rattle.std.specs.Fmt.digits
dangling = computed dangling_text (quiet_world) 30 (record { trace = (Print Out (codes "x")) ∷ []; ended = Some (Undefined undef.Freed); live = [] }) refl

-- A call of null.
abbrev null_call_text : List ℕ
null_call_text =
    codes "typedef void (*F) (void); int main (int argc, char **argv) { F f; f = NULL; f (); return 0; } "

pub null_call : Runs null_call_text (quiet_world) 30 ([]) (Some (Undefined undef.Null)) ([])
unfolding Rattle.c_lexer.specs.Tokens.next_of Rattle.c_lexer.specs.Blanks.blanks_within Rattle.c_lexer.specs.Cut.cut Rattle.c_tree.specs.declared.code.Stmt.TheViews.out-Stmt denote.Hole.Carrier.out Rattle.c_tree.specs.declared.code.Shape.TheViews.out-Shape Rattle.c_tree.specs.declared.code.Shape.TheViews.out-Suffix Rattle.c_tree.specs.declared.code.Shape.TheBlock.shown-the_row-Expr-0 Rattle.c_tree.specs.declared.code.Shape.TheBlock.shown-the_row-Suffix-1 Rattle.c_tree.specs.declared.code.Shape.TheBlock.shown-the_row-Link-2 Rattle.c_tree.specs.declared.code.Shape.TheBlock.shown-the_row-Choice-3 denote.Hole.Carrier.shown denote.Hole.Carrier.hidden Rattle.c_tree.specs.declared.code.Stmt.TheBlock.shown-the_row-Stmt-0 Rattle.std.specs.Fmt.digits
null_call = computed null_call_text (quiet_world) 30 (record { trace = []; ended = Some (Undefined undef.Null); live = [] }) refl

-- `g_free` takes no literal.
abbrev literal_freed_text : List ℕ
literal_freed_text =
    codes "int main (int argc, char **argv) { gchar *p; p = \"x\"; g_free (p); return 0; } "

pub literal_freed : Runs literal_freed_text (quiet_world) 30 ([]) (Some (Undefined undef.Kind)) ([])
unfolding Rattle.c_lexer.specs.Tokens.next_of Rattle.c_lexer.specs.Blanks.blanks_within Rattle.c_lexer.specs.Cut.cut Rattle.c_tree.specs.declared.code.Stmt.TheViews.out-Stmt denote.Hole.Carrier.out Rattle.c_tree.specs.declared.code.Shape.TheViews.out-Shape Rattle.c_tree.specs.declared.code.Shape.TheViews.out-Suffix Rattle.c_tree.specs.declared.code.Shape.TheBlock.shown-the_row-Expr-0 Rattle.c_tree.specs.declared.code.Shape.TheBlock.shown-the_row-Suffix-1 Rattle.c_tree.specs.declared.code.Shape.TheBlock.shown-the_row-Link-2 Rattle.c_tree.specs.declared.code.Shape.TheBlock.shown-the_row-Choice-3 denote.Hole.Carrier.shown denote.Hole.Carrier.hidden Rattle.c_tree.specs.declared.code.Stmt.TheBlock.shown-the_row-Stmt-0 Rattle.std.specs.Fmt.digits
literal_freed = computed literal_freed_text (quiet_world) 30 (record { trace = []; ended = Some (Undefined undef.Kind); live = [] }) refl

-- A format that does not match its arguments.
abbrev wrong_format_text : List ℕ
wrong_format_text =
    codes "int main (int argc, char **argv) { g_print (\"%x\", 255); return 0; } "

pub wrong_format : Runs wrong_format_text (quiet_world) 30 ([]) (Some (Undefined undef.Kind)) ([])
unfolding Rattle.c_lexer.specs.Tokens.next_of Rattle.c_lexer.specs.Blanks.blanks_within Rattle.c_lexer.specs.Cut.cut Rattle.c_tree.specs.declared.code.Stmt.TheViews.out-Stmt denote.Hole.Carrier.out Rattle.c_tree.specs.declared.code.Shape.TheViews.out-Shape Rattle.c_tree.specs.declared.code.Shape.TheViews.out-Suffix Rattle.c_tree.specs.declared.code.Shape.TheBlock.shown-the_row-Expr-0 Rattle.c_tree.specs.declared.code.Shape.TheBlock.shown-the_row-Suffix-1 Rattle.c_tree.specs.declared.code.Shape.TheBlock.shown-the_row-Link-2 Rattle.c_tree.specs.declared.code.Shape.TheBlock.shown-the_row-Choice-3 denote.Hole.Carrier.shown denote.Hole.Carrier.hidden Rattle.c_tree.specs.declared.code.Stmt.TheBlock.shown-the_row-Stmt-0 Rattle.std.specs.Fmt.digits
wrong_format = computed wrong_format_text (quiet_world) 30 (record { trace = []; ended = Some (Undefined undef.Kind); live = [] }) refl

-- A trap by its word.
abbrev aborts_text : List ℕ
aborts_text =
    codes "int main (int argc, char **argv) { g_error (\"range\"); return 0; } "

pub aborts : Runs aborts_text (quiet_world) 30 ([]) (Some (Aborted trap.Range)) ([])
unfolding Rattle.c_lexer.specs.Tokens.next_of Rattle.c_lexer.specs.Blanks.blanks_within Rattle.c_lexer.specs.Cut.cut Rattle.c_tree.specs.declared.code.Stmt.TheViews.out-Stmt denote.Hole.Carrier.out Rattle.c_tree.specs.declared.code.Shape.TheViews.out-Shape Rattle.c_tree.specs.declared.code.Shape.TheViews.out-Suffix Rattle.c_tree.specs.declared.code.Shape.TheBlock.shown-the_row-Expr-0 Rattle.c_tree.specs.declared.code.Shape.TheBlock.shown-the_row-Suffix-1 Rattle.c_tree.specs.declared.code.Shape.TheBlock.shown-the_row-Link-2 Rattle.c_tree.specs.declared.code.Shape.TheBlock.shown-the_row-Choice-3 denote.Hole.Carrier.shown denote.Hole.Carrier.hidden Rattle.c_tree.specs.declared.code.Stmt.TheBlock.shown-the_row-Stmt-0 Rattle.std.specs.Fmt.digits
aborts = computed aborts_text (quiet_world) 30 (record { trace = []; ended = Some (Aborted trap.Range); live = [] }) refl
