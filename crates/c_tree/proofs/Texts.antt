-- Texts computed.
use Rattle.std.proofs.Common.{◌≡◌, ◌≤◌, refl, subst, ℕ, Bool, true, false, List, [], ◌∷◌, length, Option, Some, None, is_some, Result, Ok, Err, codes, arith, rules}
use Rattle.c_tree.specs.declared.kinds.Refusal.{Refusal}
use Rattle.c_tree.specs.declared.kinds.Cause.TheVariants as cause
use Rattle.c_tree.specs.declared.unit.Unit.{Unit as CUnit}
use Rattle.c_lexer.specs.declared.token.TokenKind.TheVariants as k
use Rattle.c_lexer.specs.declared.token.Keyword.TheVariants as keyword
use Rattle.c_lexer.specs.declared.token.Sign.TheVariants as sign
use Rattle.c_lexer.specs.Tokens.{all_of}
use Rattle.c_lexer.specs.Tokens as lexed
use Rattle.c_tree.specs.declared.kinds.Cause.{Cause}
use Rattle.c_tree.specs.Words.{Terminal, Of, Word, Token}
use Rattle.c_tree.specs.Items.{ReadsUnit}
use Rattle.c_tree.specs.Answers.{Answers, Begins, Broken}
use Rattle.c_tree.specs.Answers as answer
use Rattle.c_tree.specs.Examples.{Accepted, Refused, AcceptedTexts, RefusedTexts}
use Rattle.c_tree.proofs.FindUnits.{answer_at, unit_at}

abbrev word : Terminal → List ℕ → Token
word x bytes = record { terminal = x; bytes = bytes; start = 1; end = 1; begins_line = false }

abbrev Answer : Type 0
Answer = Result CUnit Refusal

abbrev Found : List ℕ → Type 0
Found bytes = Option ((s : Answer) × Answers bytes 1000 s)

abbrev found : (bytes : List ℕ) → length bytes ≤ 1000 → Found bytes
found bytes h = answer_at 100 bytes 1000 h

-- the refusal that is found
abbrev refusal_in : {bytes : List ℕ} → Found bytes → Option Refusal
refusal_in (Some (Err f, h)) = Some f
refusal_in o = None

abbrev is_unit : {bytes : List ℕ} → Found bytes → Bool
is_unit (Some (Ok u, h)) = true
is_unit o = false

some : (x y : Refusal) → Some x ≡ Some y → x ≡ y
some x y e = search rules

none : (x : Refusal) → None ≡ Some x → ⊥
none x e = search rules

no : false ≡ true → ⊥
no e = search rules

refused : (bytes : List ℕ) (r : Refusal) (o : Found bytes) → refusal_in o ≡ Some r → Answers bytes 1000 (Err r)
refused bytes r (Some (Err f, h)) e = subst (λ (z : Refusal). Answers bytes 1000 (Err z)) (some f r e) h
refused bytes r (Some (Ok u, h)) e = absurd (none r e)
refused bytes r None e = absurd (none r e)

accepted : (bytes : List ℕ) (o : Found bytes) → is_unit o ≡ true → Accepted bytes
accepted bytes (Some (Ok u, h)) e = (u, h)
accepted bytes (Some (Err f, h)) e = absurd (no e)
accepted bytes None e = absurd (no e)

prints : Accepted (codes "#include <glib.h>\nint main (int argc, char **argv) { g_print (\"hi\"); return 0; }")
unfolding Rattle.c_lexer.specs.Tokens.next_of Rattle.c_lexer.specs.Blanks.blanks_within Rattle.c_lexer.specs.Cut.cut Rattle.c_tree.specs.declared.code.Stmt.TheViews.out-Stmt denote.Hole.Carrier.out Rattle.c_tree.specs.declared.code.Shape.TheViews.out-Shape Rattle.c_tree.specs.declared.code.Shape.TheViews.out-Suffix Rattle.c_tree.specs.declared.code.Shape.TheBlock.shown-the_row-Expr-0 Rattle.c_tree.specs.declared.code.Shape.TheBlock.shown-the_row-Suffix-1 Rattle.c_tree.specs.declared.code.Shape.TheBlock.shown-the_row-Link-2 Rattle.c_tree.specs.declared.code.Shape.TheBlock.shown-the_row-Choice-3 denote.Hole.Carrier.shown denote.Hole.Carrier.hidden Rattle.c_tree.specs.declared.code.Stmt.TheBlock.shown-the_row-Stmt-0
prints = accepted (codes "#include <glib.h>\nint main (int argc, char **argv) { g_print (\"hi\"); return 0; }") (found (codes "#include <glib.h>\nint main (int argc, char **argv) { g_print (\"hi\"); return 0; }") (omega arith)) refl

structs : Accepted (codes "typedef struct _P P; struct _P { gint x; P *next; }; gint f (P *p) { return p->next->x; } int main (int argc, char **argv) { P p; gint i; p.x = 1; i = f (&p); return 0; }")
unfolding Rattle.c_lexer.specs.Tokens.next_of Rattle.c_lexer.specs.Blanks.blanks_within Rattle.c_lexer.specs.Cut.cut Rattle.c_tree.specs.declared.code.Stmt.TheViews.out-Stmt denote.Hole.Carrier.out Rattle.c_tree.specs.declared.code.Shape.TheViews.out-Shape Rattle.c_tree.specs.declared.code.Shape.TheViews.out-Suffix Rattle.c_tree.specs.declared.code.Shape.TheBlock.shown-the_row-Expr-0 Rattle.c_tree.specs.declared.code.Shape.TheBlock.shown-the_row-Suffix-1 Rattle.c_tree.specs.declared.code.Shape.TheBlock.shown-the_row-Link-2 Rattle.c_tree.specs.declared.code.Shape.TheBlock.shown-the_row-Choice-3 denote.Hole.Carrier.shown denote.Hole.Carrier.hidden Rattle.c_tree.specs.declared.code.Stmt.TheBlock.shown-the_row-Stmt-0
structs = accepted (codes "typedef struct _P P; struct _P { gint x; P *next; }; gint f (P *p) { return p->next->x; } int main (int argc, char **argv) { P p; gint i; p.x = 1; i = f (&p); return 0; }") (found (codes "typedef struct _P P; struct _P { gint x; P *next; }; gint f (P *p) { return p->next->x; } int main (int argc, char **argv) { P p; gint i; p.x = 1; i = f (&p); return 0; }") (omega arith)) refl

hidden_type : Accepted (codes "int main (int argc, char **argv) { gint *gint; gint = NULL; *gint = 1; return 0; }")
unfolding Rattle.c_lexer.specs.Tokens.next_of Rattle.c_lexer.specs.Blanks.blanks_within Rattle.c_lexer.specs.Cut.cut Rattle.c_tree.specs.declared.code.Stmt.TheViews.out-Stmt denote.Hole.Carrier.out Rattle.c_tree.specs.declared.code.Shape.TheViews.out-Shape Rattle.c_tree.specs.declared.code.Shape.TheViews.out-Suffix Rattle.c_tree.specs.declared.code.Shape.TheBlock.shown-the_row-Expr-0 Rattle.c_tree.specs.declared.code.Shape.TheBlock.shown-the_row-Suffix-1 Rattle.c_tree.specs.declared.code.Shape.TheBlock.shown-the_row-Link-2 Rattle.c_tree.specs.declared.code.Shape.TheBlock.shown-the_row-Choice-3 denote.Hole.Carrier.shown denote.Hole.Carrier.hidden Rattle.c_tree.specs.declared.code.Stmt.TheBlock.shown-the_row-Stmt-0
hidden_type = accepted (codes "int main (int argc, char **argv) { gint *gint; gint = NULL; *gint = 1; return 0; }") (found (codes "int main (int argc, char **argv) { gint *gint; gint = NULL; *gint = 1; return 0; }") (omega arith)) refl

members : Accepted (codes "typedef enum { A = -1, B = 2 } E; static E v = B; int main (int argc, char **argv) { v = A; return 0; }")
unfolding Rattle.c_lexer.specs.Tokens.next_of Rattle.c_lexer.specs.Blanks.blanks_within Rattle.c_lexer.specs.Cut.cut Rattle.c_tree.specs.declared.code.Stmt.TheViews.out-Stmt denote.Hole.Carrier.out Rattle.c_tree.specs.declared.code.Shape.TheViews.out-Shape Rattle.c_tree.specs.declared.code.Shape.TheViews.out-Suffix Rattle.c_tree.specs.declared.code.Shape.TheBlock.shown-the_row-Expr-0 Rattle.c_tree.specs.declared.code.Shape.TheBlock.shown-the_row-Suffix-1 Rattle.c_tree.specs.declared.code.Shape.TheBlock.shown-the_row-Link-2 Rattle.c_tree.specs.declared.code.Shape.TheBlock.shown-the_row-Choice-3 denote.Hole.Carrier.shown denote.Hole.Carrier.hidden Rattle.c_tree.specs.declared.code.Stmt.TheBlock.shown-the_row-Stmt-0
members = accepted (codes "typedef enum { A = -1, B = 2 } E; static E v = B; int main (int argc, char **argv) { v = A; return 0; }") (found (codes "typedef enum { A = -1, B = 2 } E; static E v = B; int main (int argc, char **argv) { v = A; return 0; }") (omega arith)) refl

chains : Accepted (codes "int main (int argc, char **argv) { gint a; guint8 b; a = (gint) 5U << 2 | ~1 & - - 3; b = a ? 1 : a > 2 ? 3 : 4; return 0; }")
unfolding Rattle.c_lexer.specs.Tokens.next_of Rattle.c_lexer.specs.Blanks.blanks_within Rattle.c_lexer.specs.Cut.cut Rattle.c_tree.specs.declared.code.Stmt.TheViews.out-Stmt denote.Hole.Carrier.out Rattle.c_tree.specs.declared.code.Shape.TheViews.out-Shape Rattle.c_tree.specs.declared.code.Shape.TheViews.out-Suffix Rattle.c_tree.specs.declared.code.Shape.TheBlock.shown-the_row-Expr-0 Rattle.c_tree.specs.declared.code.Shape.TheBlock.shown-the_row-Suffix-1 Rattle.c_tree.specs.declared.code.Shape.TheBlock.shown-the_row-Link-2 Rattle.c_tree.specs.declared.code.Shape.TheBlock.shown-the_row-Choice-3 denote.Hole.Carrier.shown denote.Hole.Carrier.hidden Rattle.c_tree.specs.declared.code.Stmt.TheBlock.shown-the_row-Stmt-0
chains = accepted (codes "int main (int argc, char **argv) { gint a; guint8 b; a = (gint) 5U << 2 | ~1 & - - 3; b = a ? 1 : a > 2 ? 3 : 4; return 0; }") (found (codes "int main (int argc, char **argv) { gint a; guint8 b; a = (gint) 5U << 2 | ~1 & - - 3; b = a ? 1 : a > 2 ? 3 : 4; return 0; }") (omega arith)) refl

jumps : Accepted (codes "int main (int argc, char **argv) { gint a; a = 1; L: ; if (a > 0) { a = a - 1; } else { goto K; } if (a) goto L; K: ; return 0; }")
unfolding Rattle.c_lexer.specs.Tokens.next_of Rattle.c_lexer.specs.Blanks.blanks_within Rattle.c_lexer.specs.Cut.cut Rattle.c_tree.specs.declared.code.Stmt.TheViews.out-Stmt denote.Hole.Carrier.out Rattle.c_tree.specs.declared.code.Shape.TheViews.out-Shape Rattle.c_tree.specs.declared.code.Shape.TheViews.out-Suffix Rattle.c_tree.specs.declared.code.Shape.TheBlock.shown-the_row-Expr-0 Rattle.c_tree.specs.declared.code.Shape.TheBlock.shown-the_row-Suffix-1 Rattle.c_tree.specs.declared.code.Shape.TheBlock.shown-the_row-Link-2 Rattle.c_tree.specs.declared.code.Shape.TheBlock.shown-the_row-Choice-3 denote.Hole.Carrier.shown denote.Hole.Carrier.hidden Rattle.c_tree.specs.declared.code.Stmt.TheBlock.shown-the_row-Stmt-0
jumps = accepted (codes "int main (int argc, char **argv) { gint a; a = 1; L: ; if (a > 0) { a = a - 1; } else { goto K; } if (a) goto L; K: ; return 0; }") (found (codes "int main (int argc, char **argv) { gint a; a = 1; L: ; if (a > 0) { a = a - 1; } else { goto K; } if (a) goto L; K: ; return 0; }") (omega arith)) refl

function_types : Accepted (codes "typedef gint (*F) (void); typedef gint (*G) (void); gint h (void) { return 1; } int main (int argc, char **argv) { F f; G g; gint i; f = h; g = f; i = g (); return 0; }")
unfolding Rattle.c_lexer.specs.Tokens.next_of Rattle.c_lexer.specs.Blanks.blanks_within Rattle.c_lexer.specs.Cut.cut Rattle.c_tree.specs.declared.code.Stmt.TheViews.out-Stmt denote.Hole.Carrier.out Rattle.c_tree.specs.declared.code.Shape.TheViews.out-Shape Rattle.c_tree.specs.declared.code.Shape.TheViews.out-Suffix Rattle.c_tree.specs.declared.code.Shape.TheBlock.shown-the_row-Expr-0 Rattle.c_tree.specs.declared.code.Shape.TheBlock.shown-the_row-Suffix-1 Rattle.c_tree.specs.declared.code.Shape.TheBlock.shown-the_row-Link-2 Rattle.c_tree.specs.declared.code.Shape.TheBlock.shown-the_row-Choice-3 denote.Hole.Carrier.shown denote.Hole.Carrier.hidden Rattle.c_tree.specs.declared.code.Stmt.TheBlock.shown-the_row-Stmt-0
function_types = accepted (codes "typedef gint (*F) (void); typedef gint (*G) (void); gint h (void) { return 1; } int main (int argc, char **argv) { F f; G g; gint i; f = h; g = f; i = g (); return 0; }") (found (codes "typedef gint (*F) (void); typedef gint (*G) (void); gint h (void) { return 1; } int main (int argc, char **argv) { F f; G g; gint i; f = h; g = f; i = g (); return 0; }") (omega arith)) refl

pointers_move : Accepted (codes "int main (int argc, char **argv) { gchar *s; glong n; s = \"abc\" + 1; n = s - s; s[n] = *s; return 0; }")
unfolding Rattle.c_lexer.specs.Tokens.next_of Rattle.c_lexer.specs.Blanks.blanks_within Rattle.c_lexer.specs.Cut.cut Rattle.c_tree.specs.declared.code.Stmt.TheViews.out-Stmt denote.Hole.Carrier.out Rattle.c_tree.specs.declared.code.Shape.TheViews.out-Shape Rattle.c_tree.specs.declared.code.Shape.TheViews.out-Suffix Rattle.c_tree.specs.declared.code.Shape.TheBlock.shown-the_row-Expr-0 Rattle.c_tree.specs.declared.code.Shape.TheBlock.shown-the_row-Suffix-1 Rattle.c_tree.specs.declared.code.Shape.TheBlock.shown-the_row-Link-2 Rattle.c_tree.specs.declared.code.Shape.TheBlock.shown-the_row-Choice-3 denote.Hole.Carrier.shown denote.Hole.Carrier.hidden Rattle.c_tree.specs.declared.code.Stmt.TheBlock.shown-the_row-Stmt-0
pointers_move = accepted (codes "int main (int argc, char **argv) { gchar *s; glong n; s = \"abc\" + 1; n = s - s; s[n] = *s; return 0; }") (found (codes "int main (int argc, char **argv) { gchar *s; glong n; s = \"abc\" + 1; n = s - s; s[n] = *s; return 0; }") (omega arith)) refl

not_evaluated : Accepted (codes "static gint i = 1 || 1 / 0; static gint j = 0 ? 1 / 0 : 2; int main (int argc, char **argv) { i = j; return 0; }")
unfolding Rattle.c_lexer.specs.Tokens.next_of Rattle.c_lexer.specs.Blanks.blanks_within Rattle.c_lexer.specs.Cut.cut Rattle.c_tree.specs.declared.code.Stmt.TheViews.out-Stmt denote.Hole.Carrier.out Rattle.c_tree.specs.declared.code.Shape.TheViews.out-Shape Rattle.c_tree.specs.declared.code.Shape.TheViews.out-Suffix Rattle.c_tree.specs.declared.code.Shape.TheBlock.shown-the_row-Expr-0 Rattle.c_tree.specs.declared.code.Shape.TheBlock.shown-the_row-Suffix-1 Rattle.c_tree.specs.declared.code.Shape.TheBlock.shown-the_row-Link-2 Rattle.c_tree.specs.declared.code.Shape.TheBlock.shown-the_row-Choice-3 denote.Hole.Carrier.shown denote.Hole.Carrier.hidden Rattle.c_tree.specs.declared.code.Stmt.TheBlock.shown-the_row-Stmt-0
not_evaluated = accepted (codes "static gint i = 1 || 1 / 0; static gint j = 0 ? 1 / 0 : 2; int main (int argc, char **argv) { i = j; return 0; }") (found (codes "static gint i = 1 || 1 / 0; static gint j = 0 ? 1 / 0 : 2; int main (int argc, char **argv) { i = j; return 0; }") (omega arith)) refl

prototypes : Accepted (codes "gint f (gint); gint f (gint a); gint f (gint b) { return b; } gint f (gint); int main (int argc, char **argv) { f (1); return 0; }")
unfolding Rattle.c_lexer.specs.Tokens.next_of Rattle.c_lexer.specs.Blanks.blanks_within Rattle.c_lexer.specs.Cut.cut Rattle.c_tree.specs.declared.code.Stmt.TheViews.out-Stmt denote.Hole.Carrier.out Rattle.c_tree.specs.declared.code.Shape.TheViews.out-Shape Rattle.c_tree.specs.declared.code.Shape.TheViews.out-Suffix Rattle.c_tree.specs.declared.code.Shape.TheBlock.shown-the_row-Expr-0 Rattle.c_tree.specs.declared.code.Shape.TheBlock.shown-the_row-Suffix-1 Rattle.c_tree.specs.declared.code.Shape.TheBlock.shown-the_row-Link-2 Rattle.c_tree.specs.declared.code.Shape.TheBlock.shown-the_row-Choice-3 denote.Hole.Carrier.shown denote.Hole.Carrier.hidden Rattle.c_tree.specs.declared.code.Stmt.TheBlock.shown-the_row-Stmt-0
prototypes = accepted (codes "gint f (gint); gint f (gint a); gint f (gint b) { return b; } gint f (gint); int main (int argc, char **argv) { f (1); return 0; }") (found (codes "gint f (gint); gint f (gint a); gint f (gint b) { return b; } gint f (gint); int main (int argc, char **argv) { f (1); return 0; }") (omega arith)) refl

integer_types : Accepted (codes "typedef enum { A = 4294967295 } E; gint f (E *p) { return *p; } int main (int argc, char **argv) { gint i; i = f (&i); i = 1U > -1L; return 0; }")
unfolding Rattle.c_lexer.specs.Tokens.next_of Rattle.c_lexer.specs.Blanks.blanks_within Rattle.c_lexer.specs.Cut.cut Rattle.c_tree.specs.declared.code.Stmt.TheViews.out-Stmt denote.Hole.Carrier.out Rattle.c_tree.specs.declared.code.Shape.TheViews.out-Shape Rattle.c_tree.specs.declared.code.Shape.TheViews.out-Suffix Rattle.c_tree.specs.declared.code.Shape.TheBlock.shown-the_row-Expr-0 Rattle.c_tree.specs.declared.code.Shape.TheBlock.shown-the_row-Suffix-1 Rattle.c_tree.specs.declared.code.Shape.TheBlock.shown-the_row-Link-2 Rattle.c_tree.specs.declared.code.Shape.TheBlock.shown-the_row-Choice-3 denote.Hole.Carrier.shown denote.Hole.Carrier.hidden Rattle.c_tree.specs.declared.code.Stmt.TheBlock.shown-the_row-Stmt-0
integer_types = accepted (codes "typedef enum { A = 4294967295 } E; gint f (E *p) { return *p; } int main (int argc, char **argv) { gint i; i = f (&i); i = 1U > -1L; return 0; }") (found (codes "typedef enum { A = 4294967295 } E; gint f (E *p) { return *p; } int main (int argc, char **argv) { gint i; i = f (&i); i = 1U > -1L; return 0; }") (omega arith)) refl

hidden_function : Accepted (codes "gint f (void); int main (int argc, char **argv) { gint f; f = 1; return 0; }")
unfolding Rattle.c_lexer.specs.Tokens.next_of Rattle.c_lexer.specs.Blanks.blanks_within Rattle.c_lexer.specs.Cut.cut Rattle.c_tree.specs.declared.code.Stmt.TheViews.out-Stmt denote.Hole.Carrier.out Rattle.c_tree.specs.declared.code.Shape.TheViews.out-Shape Rattle.c_tree.specs.declared.code.Shape.TheViews.out-Suffix Rattle.c_tree.specs.declared.code.Shape.TheBlock.shown-the_row-Expr-0 Rattle.c_tree.specs.declared.code.Shape.TheBlock.shown-the_row-Suffix-1 Rattle.c_tree.specs.declared.code.Shape.TheBlock.shown-the_row-Link-2 Rattle.c_tree.specs.declared.code.Shape.TheBlock.shown-the_row-Choice-3 denote.Hole.Carrier.shown denote.Hole.Carrier.hidden Rattle.c_tree.specs.declared.code.Stmt.TheBlock.shown-the_row-Stmt-0
hidden_function = accepted (codes "gint f (void); int main (int argc, char **argv) { gint f; f = 1; return 0; }") (found (codes "gint f (void); int main (int argc, char **argv) { gint f; f = 1; return 0; }") (omega arith)) refl

labels_are_apart : Accepted (codes "int main (int argc, char **argv) { gint gint; gint = 1; gint: ; if (gint) { gchar *gint; gint = \"x\"; } goto gint; return 0; }")
unfolding Rattle.c_lexer.specs.Tokens.next_of Rattle.c_lexer.specs.Blanks.blanks_within Rattle.c_lexer.specs.Cut.cut Rattle.c_tree.specs.declared.code.Stmt.TheViews.out-Stmt denote.Hole.Carrier.out Rattle.c_tree.specs.declared.code.Shape.TheViews.out-Shape Rattle.c_tree.specs.declared.code.Shape.TheViews.out-Suffix Rattle.c_tree.specs.declared.code.Shape.TheBlock.shown-the_row-Expr-0 Rattle.c_tree.specs.declared.code.Shape.TheBlock.shown-the_row-Suffix-1 Rattle.c_tree.specs.declared.code.Shape.TheBlock.shown-the_row-Link-2 Rattle.c_tree.specs.declared.code.Shape.TheBlock.shown-the_row-Choice-3 denote.Hole.Carrier.shown denote.Hole.Carrier.hidden Rattle.c_tree.specs.declared.code.Stmt.TheBlock.shown-the_row-Stmt-0
labels_are_apart = accepted (codes "int main (int argc, char **argv) { gint gint; gint = 1; gint: ; if (gint) { gchar *gint; gint = \"x\"; } goto gint; return 0; }") (found (codes "int main (int argc, char **argv) { gint gint; gint = 1; gint: ; if (gint) { gchar *gint; gint = \"x\"; } goto gint; return 0; }") (omega arith)) refl

interface_tables : Accepted (codes "#include \"own.h\"\n#include <gio/gio.h>\n\nvoid init (gpointer p) { } static const GInterfaceInfo info = { (GInterfaceInitFunc) init, NULL, NULL }; int main (int argc, char **argv) { const GInterfaceInfo *p; p = &info; return 0; }")
unfolding Rattle.c_lexer.specs.Tokens.next_of Rattle.c_lexer.specs.Blanks.blanks_within Rattle.c_lexer.specs.Cut.cut Rattle.c_tree.specs.declared.code.Stmt.TheViews.out-Stmt denote.Hole.Carrier.out Rattle.c_tree.specs.declared.code.Shape.TheViews.out-Shape Rattle.c_tree.specs.declared.code.Shape.TheViews.out-Suffix Rattle.c_tree.specs.declared.code.Shape.TheBlock.shown-the_row-Expr-0 Rattle.c_tree.specs.declared.code.Shape.TheBlock.shown-the_row-Suffix-1 Rattle.c_tree.specs.declared.code.Shape.TheBlock.shown-the_row-Link-2 Rattle.c_tree.specs.declared.code.Shape.TheBlock.shown-the_row-Choice-3 denote.Hole.Carrier.shown denote.Hole.Carrier.hidden Rattle.c_tree.specs.declared.code.Stmt.TheBlock.shown-the_row-Stmt-0
interface_tables = accepted (codes "#include \"own.h\"\n#include <gio/gio.h>\n\nvoid init (gpointer p) { } static const GInterfaceInfo info = { (GInterfaceInitFunc) init, NULL, NULL }; int main (int argc, char **argv) { const GInterfaceInfo *p; p = &info; return 0; }") (found (codes "#include \"own.h\"\n#include <gio/gio.h>\n\nvoid init (gpointer p) { } static const GInterfaceInfo info = { (GInterfaceInitFunc) init, NULL, NULL }; int main (int argc, char **argv) { const GInterfaceInfo *p; p = &info; return 0; }") (omega arith)) refl

switches : Accepted (codes "int main (int argc, char **argv) { guchar u; u = 255; switch (u) { case -1: goto A; case 255: goto B; default: goto A; } A: ; B: ; return 0; }")
unfolding Rattle.c_lexer.specs.Tokens.next_of Rattle.c_lexer.specs.Blanks.blanks_within Rattle.c_lexer.specs.Cut.cut Rattle.c_tree.specs.declared.code.Stmt.TheViews.out-Stmt denote.Hole.Carrier.out Rattle.c_tree.specs.declared.code.Shape.TheViews.out-Shape Rattle.c_tree.specs.declared.code.Shape.TheViews.out-Suffix Rattle.c_tree.specs.declared.code.Shape.TheBlock.shown-the_row-Expr-0 Rattle.c_tree.specs.declared.code.Shape.TheBlock.shown-the_row-Suffix-1 Rattle.c_tree.specs.declared.code.Shape.TheBlock.shown-the_row-Link-2 Rattle.c_tree.specs.declared.code.Shape.TheBlock.shown-the_row-Choice-3 denote.Hole.Carrier.shown denote.Hole.Carrier.hidden Rattle.c_tree.specs.declared.code.Stmt.TheBlock.shown-the_row-Stmt-0
switches = accepted (codes "int main (int argc, char **argv) { guchar u; u = 255; switch (u) { case -1: goto A; case 255: goto B; default: goto A; } A: ; B: ; return 0; }") (found (codes "int main (int argc, char **argv) { guchar u; u = 255; switch (u) { case -1: goto A; case 255: goto B; default: goto A; } A: ; B: ; return 0; }") (omega arith)) refl

offsets : Accepted (codes "static glong at = G_STRUCT_OFFSET (GObjectClass, finalize) - 4 / sizeof (GTypeClass *); int main (int argc, char **argv) { GObjectClass *c; c = NULL; if (at == 0) { c->finalize (NULL); } return 0; }")
unfolding Rattle.c_lexer.specs.Tokens.next_of Rattle.c_lexer.specs.Blanks.blanks_within Rattle.c_lexer.specs.Cut.cut Rattle.c_tree.specs.declared.code.Stmt.TheViews.out-Stmt denote.Hole.Carrier.out Rattle.c_tree.specs.declared.code.Shape.TheViews.out-Shape Rattle.c_tree.specs.declared.code.Shape.TheViews.out-Suffix Rattle.c_tree.specs.declared.code.Shape.TheBlock.shown-the_row-Expr-0 Rattle.c_tree.specs.declared.code.Shape.TheBlock.shown-the_row-Suffix-1 Rattle.c_tree.specs.declared.code.Shape.TheBlock.shown-the_row-Link-2 Rattle.c_tree.specs.declared.code.Shape.TheBlock.shown-the_row-Choice-3 denote.Hole.Carrier.shown denote.Hole.Carrier.hidden Rattle.c_tree.specs.declared.code.Stmt.TheBlock.shown-the_row-Stmt-0
offsets = accepted (codes "static glong at = G_STRUCT_OFFSET (GObjectClass, finalize) - 4 / sizeof (GTypeClass *); int main (int argc, char **argv) { GObjectClass *c; c = NULL; if (at == 0) { c->finalize (NULL); } return 0; }") (found (codes "static glong at = G_STRUCT_OFFSET (GObjectClass, finalize) - 4 / sizeof (GTypeClass *); int main (int argc, char **argv) { GObjectClass *c; c = NULL; if (at == 0) { c->finalize (NULL); } return 0; }") (omega arith)) refl

calls : Accepted (codes "typedef void (*F) (gint, gchar); void f (gint a, gchar b) { return; } int main (int argc, char **argv) { F *p; F g; g = (F) f; p = &g; (*p) (1, 'x'); g (2, '\\000'); return 0; }")
unfolding Rattle.c_lexer.specs.Tokens.next_of Rattle.c_lexer.specs.Blanks.blanks_within Rattle.c_lexer.specs.Cut.cut Rattle.c_tree.specs.declared.code.Stmt.TheViews.out-Stmt denote.Hole.Carrier.out Rattle.c_tree.specs.declared.code.Shape.TheViews.out-Shape Rattle.c_tree.specs.declared.code.Shape.TheViews.out-Suffix Rattle.c_tree.specs.declared.code.Shape.TheBlock.shown-the_row-Expr-0 Rattle.c_tree.specs.declared.code.Shape.TheBlock.shown-the_row-Suffix-1 Rattle.c_tree.specs.declared.code.Shape.TheBlock.shown-the_row-Link-2 Rattle.c_tree.specs.declared.code.Shape.TheBlock.shown-the_row-Choice-3 denote.Hole.Carrier.shown denote.Hole.Carrier.hidden Rattle.c_tree.specs.declared.code.Stmt.TheBlock.shown-the_row-Stmt-0
calls = accepted (codes "typedef void (*F) (gint, gchar); void f (gint a, gchar b) { return; } int main (int argc, char **argv) { F *p; F g; g = (F) f; p = &g; (*p) (1, 'x'); g (2, '\\000'); return 0; }") (found (codes "typedef void (*F) (gint, gchar); void f (gint a, gchar b) { return; } int main (int argc, char **argv) { F *p; F g; g = (F) f; p = &g; (*p) (1, 'x'); g (2, '\\000'); return 0; }") (omega arith)) refl

no_main : Refused (codes "gint f (void) { return 1; }") cause.Syntax 27
unfolding Rattle.c_lexer.specs.Tokens.next_of Rattle.c_lexer.specs.Blanks.blanks_within Rattle.c_lexer.specs.Cut.cut Rattle.c_tree.specs.declared.code.Stmt.TheViews.out-Stmt denote.Hole.Carrier.out Rattle.c_tree.specs.declared.code.Shape.TheViews.out-Shape Rattle.c_tree.specs.declared.code.Shape.TheViews.out-Suffix Rattle.c_tree.specs.declared.code.Shape.TheBlock.shown-the_row-Expr-0 Rattle.c_tree.specs.declared.code.Shape.TheBlock.shown-the_row-Suffix-1 Rattle.c_tree.specs.declared.code.Shape.TheBlock.shown-the_row-Link-2 Rattle.c_tree.specs.declared.code.Shape.TheBlock.shown-the_row-Choice-3 denote.Hole.Carrier.shown denote.Hole.Carrier.hidden Rattle.c_tree.specs.declared.code.Stmt.TheBlock.shown-the_row-Stmt-0
no_main = refused (codes "gint f (void) { return 1; }") (record { cause = cause.Syntax; at = 27 }) (found (codes "gint f (void) { return 1; }") (omega arith)) refl

undeclared : Refused (codes "int main (int argc, char **argv) { a = 1; return 0; }") cause.Undeclared 35
unfolding Rattle.c_lexer.specs.Tokens.next_of Rattle.c_lexer.specs.Blanks.blanks_within Rattle.c_lexer.specs.Cut.cut Rattle.c_tree.specs.declared.code.Stmt.TheViews.out-Stmt denote.Hole.Carrier.out Rattle.c_tree.specs.declared.code.Shape.TheViews.out-Shape Rattle.c_tree.specs.declared.code.Shape.TheViews.out-Suffix Rattle.c_tree.specs.declared.code.Shape.TheBlock.shown-the_row-Expr-0 Rattle.c_tree.specs.declared.code.Shape.TheBlock.shown-the_row-Suffix-1 Rattle.c_tree.specs.declared.code.Shape.TheBlock.shown-the_row-Link-2 Rattle.c_tree.specs.declared.code.Shape.TheBlock.shown-the_row-Choice-3 denote.Hole.Carrier.shown denote.Hole.Carrier.hidden Rattle.c_tree.specs.declared.code.Stmt.TheBlock.shown-the_row-Stmt-0
undeclared = refused (codes "int main (int argc, char **argv) { a = 1; return 0; }") (record { cause = cause.Undeclared; at = 35 }) (found (codes "int main (int argc, char **argv) { a = 1; return 0; }") (omega arith)) refl

operand : Refused (codes "int main (int argc, char **argv) { gchar *s; gint i; s = NULL; i = 1 + s * 2; return 0; }") cause.Misfit 71
unfolding Rattle.c_lexer.specs.Tokens.next_of Rattle.c_lexer.specs.Blanks.blanks_within Rattle.c_lexer.specs.Cut.cut Rattle.c_tree.specs.declared.code.Stmt.TheViews.out-Stmt denote.Hole.Carrier.out Rattle.c_tree.specs.declared.code.Shape.TheViews.out-Shape Rattle.c_tree.specs.declared.code.Shape.TheViews.out-Suffix Rattle.c_tree.specs.declared.code.Shape.TheBlock.shown-the_row-Expr-0 Rattle.c_tree.specs.declared.code.Shape.TheBlock.shown-the_row-Suffix-1 Rattle.c_tree.specs.declared.code.Shape.TheBlock.shown-the_row-Link-2 Rattle.c_tree.specs.declared.code.Shape.TheBlock.shown-the_row-Choice-3 denote.Hole.Carrier.shown denote.Hole.Carrier.hidden Rattle.c_tree.specs.declared.code.Stmt.TheBlock.shown-the_row-Stmt-0
operand = refused (codes "int main (int argc, char **argv) { gchar *s; gint i; s = NULL; i = 1 + s * 2; return 0; }") (record { cause = cause.Misfit; at = 71 }) (found (codes "int main (int argc, char **argv) { gchar *s; gint i; s = NULL; i = 1 + s * 2; return 0; }") (omega arith)) refl

inner_operand : Refused (codes "int main (int argc, char **argv) { gint i; i = 1 + (\"a\" * 2); return 0; }") cause.Misfit 52
unfolding Rattle.c_lexer.specs.Tokens.next_of Rattle.c_lexer.specs.Blanks.blanks_within Rattle.c_lexer.specs.Cut.cut Rattle.c_tree.specs.declared.code.Stmt.TheViews.out-Stmt denote.Hole.Carrier.out Rattle.c_tree.specs.declared.code.Shape.TheViews.out-Shape Rattle.c_tree.specs.declared.code.Shape.TheViews.out-Suffix Rattle.c_tree.specs.declared.code.Shape.TheBlock.shown-the_row-Expr-0 Rattle.c_tree.specs.declared.code.Shape.TheBlock.shown-the_row-Suffix-1 Rattle.c_tree.specs.declared.code.Shape.TheBlock.shown-the_row-Link-2 Rattle.c_tree.specs.declared.code.Shape.TheBlock.shown-the_row-Choice-3 denote.Hole.Carrier.shown denote.Hole.Carrier.hidden Rattle.c_tree.specs.declared.code.Stmt.TheBlock.shown-the_row-Stmt-0
inner_operand = refused (codes "int main (int argc, char **argv) { gint i; i = 1 + (\"a\" * 2); return 0; }") (record { cause = cause.Misfit; at = 52 }) (found (codes "int main (int argc, char **argv) { gint i; i = 1 + (\"a\" * 2); return 0; }") (omega arith)) refl

number_of_arguments : Refused (codes "gint f (gint a); int main (int argc, char **argv) { gint i; i = f (zz, 1); return 0; }") cause.Misfit 64
unfolding Rattle.c_lexer.specs.Tokens.next_of Rattle.c_lexer.specs.Blanks.blanks_within Rattle.c_lexer.specs.Cut.cut Rattle.c_tree.specs.declared.code.Stmt.TheViews.out-Stmt denote.Hole.Carrier.out Rattle.c_tree.specs.declared.code.Shape.TheViews.out-Shape Rattle.c_tree.specs.declared.code.Shape.TheViews.out-Suffix Rattle.c_tree.specs.declared.code.Shape.TheBlock.shown-the_row-Expr-0 Rattle.c_tree.specs.declared.code.Shape.TheBlock.shown-the_row-Suffix-1 Rattle.c_tree.specs.declared.code.Shape.TheBlock.shown-the_row-Link-2 Rattle.c_tree.specs.declared.code.Shape.TheBlock.shown-the_row-Choice-3 denote.Hole.Carrier.shown denote.Hole.Carrier.hidden Rattle.c_tree.specs.declared.code.Stmt.TheBlock.shown-the_row-Stmt-0
number_of_arguments = refused (codes "gint f (gint a); int main (int argc, char **argv) { gint i; i = f (zz, 1); return 0; }") (record { cause = cause.Misfit; at = 64 }) (found (codes "gint f (gint a); int main (int argc, char **argv) { gint i; i = f (zz, 1); return 0; }") (omega arith)) refl

layout_in_order : Refused (codes "typedef struct _P P; gint f (P *p) { return p->x; } struct _P { gint x; }; int main (int argc, char **argv) {  return 0; }") cause.Misfit 44
unfolding Rattle.c_lexer.specs.Tokens.next_of Rattle.c_lexer.specs.Blanks.blanks_within Rattle.c_lexer.specs.Cut.cut Rattle.c_tree.specs.declared.code.Stmt.TheViews.out-Stmt denote.Hole.Carrier.out Rattle.c_tree.specs.declared.code.Shape.TheViews.out-Shape Rattle.c_tree.specs.declared.code.Shape.TheViews.out-Suffix Rattle.c_tree.specs.declared.code.Shape.TheBlock.shown-the_row-Expr-0 Rattle.c_tree.specs.declared.code.Shape.TheBlock.shown-the_row-Suffix-1 Rattle.c_tree.specs.declared.code.Shape.TheBlock.shown-the_row-Link-2 Rattle.c_tree.specs.declared.code.Shape.TheBlock.shown-the_row-Choice-3 denote.Hole.Carrier.shown denote.Hole.Carrier.hidden Rattle.c_tree.specs.declared.code.Stmt.TheBlock.shown-the_row-Stmt-0
layout_in_order = refused (codes "typedef struct _P P; gint f (P *p) { return p->x; } struct _P { gint x; }; int main (int argc, char **argv) {  return 0; }") (record { cause = cause.Misfit; at = 44 }) (found (codes "typedef struct _P P; gint f (P *p) { return p->x; } struct _P { gint x; }; int main (int argc, char **argv) {  return 0; }") (omega arith)) refl

parameter_again : Refused (codes "gint f (gint a) { gint a; return 1; } int main (int argc, char **argv) {  return 0; }") cause.Twice 23
unfolding Rattle.c_lexer.specs.Tokens.next_of Rattle.c_lexer.specs.Blanks.blanks_within Rattle.c_lexer.specs.Cut.cut Rattle.c_tree.specs.declared.code.Stmt.TheViews.out-Stmt denote.Hole.Carrier.out Rattle.c_tree.specs.declared.code.Shape.TheViews.out-Shape Rattle.c_tree.specs.declared.code.Shape.TheViews.out-Suffix Rattle.c_tree.specs.declared.code.Shape.TheBlock.shown-the_row-Expr-0 Rattle.c_tree.specs.declared.code.Shape.TheBlock.shown-the_row-Suffix-1 Rattle.c_tree.specs.declared.code.Shape.TheBlock.shown-the_row-Link-2 Rattle.c_tree.specs.declared.code.Shape.TheBlock.shown-the_row-Choice-3 denote.Hole.Carrier.shown denote.Hole.Carrier.hidden Rattle.c_tree.specs.declared.code.Stmt.TheBlock.shown-the_row-Stmt-0
parameter_again = refused (codes "gint f (gint a) { gint a; return 1; } int main (int argc, char **argv) {  return 0; }") (record { cause = cause.Twice; at = 23 }) (found (codes "gint f (gint a) { gint a; return 1; } int main (int argc, char **argv) {  return 0; }") (omega arith)) refl

library_name : Refused (codes "typedef struct _GObject GObject; int main (int argc, char **argv) {  return 0; }") cause.Twice 24
unfolding Rattle.c_lexer.specs.Tokens.next_of Rattle.c_lexer.specs.Blanks.blanks_within Rattle.c_lexer.specs.Cut.cut Rattle.c_tree.specs.declared.code.Stmt.TheViews.out-Stmt denote.Hole.Carrier.out Rattle.c_tree.specs.declared.code.Shape.TheViews.out-Shape Rattle.c_tree.specs.declared.code.Shape.TheViews.out-Suffix Rattle.c_tree.specs.declared.code.Shape.TheBlock.shown-the_row-Expr-0 Rattle.c_tree.specs.declared.code.Shape.TheBlock.shown-the_row-Suffix-1 Rattle.c_tree.specs.declared.code.Shape.TheBlock.shown-the_row-Link-2 Rattle.c_tree.specs.declared.code.Shape.TheBlock.shown-the_row-Choice-3 denote.Hole.Carrier.shown denote.Hole.Carrier.hidden Rattle.c_tree.specs.declared.code.Stmt.TheBlock.shown-the_row-Stmt-0
library_name = refused (codes "typedef struct _GObject GObject; int main (int argc, char **argv) {  return 0; }") (record { cause = cause.Twice; at = 24 }) (found (codes "typedef struct _GObject GObject; int main (int argc, char **argv) {  return 0; }") (omega arith)) refl

constant_ends : Refused (codes "static gint i = 1 / 0; int main (int argc, char **argv) {  return 0; }") cause.Misfit 16
unfolding Rattle.c_lexer.specs.Tokens.next_of Rattle.c_lexer.specs.Blanks.blanks_within Rattle.c_lexer.specs.Cut.cut Rattle.c_tree.specs.declared.code.Stmt.TheViews.out-Stmt denote.Hole.Carrier.out Rattle.c_tree.specs.declared.code.Shape.TheViews.out-Shape Rattle.c_tree.specs.declared.code.Shape.TheViews.out-Suffix Rattle.c_tree.specs.declared.code.Shape.TheBlock.shown-the_row-Expr-0 Rattle.c_tree.specs.declared.code.Shape.TheBlock.shown-the_row-Suffix-1 Rattle.c_tree.specs.declared.code.Shape.TheBlock.shown-the_row-Link-2 Rattle.c_tree.specs.declared.code.Shape.TheBlock.shown-the_row-Choice-3 denote.Hole.Carrier.shown denote.Hole.Carrier.hidden Rattle.c_tree.specs.declared.code.Stmt.TheBlock.shown-the_row-Stmt-0
constant_ends = refused (codes "static gint i = 1 / 0; int main (int argc, char **argv) {  return 0; }") (record { cause = cause.Misfit; at = 16 }) (found (codes "static gint i = 1 / 0; int main (int argc, char **argv) {  return 0; }") (omega arith)) refl

constant_overflows : Refused (codes "static gint i = 2147483647 + 1; int main (int argc, char **argv) {  return 0; }") cause.Misfit 16
unfolding Rattle.c_lexer.specs.Tokens.next_of Rattle.c_lexer.specs.Blanks.blanks_within Rattle.c_lexer.specs.Cut.cut Rattle.c_tree.specs.declared.code.Stmt.TheViews.out-Stmt denote.Hole.Carrier.out Rattle.c_tree.specs.declared.code.Shape.TheViews.out-Shape Rattle.c_tree.specs.declared.code.Shape.TheViews.out-Suffix Rattle.c_tree.specs.declared.code.Shape.TheBlock.shown-the_row-Expr-0 Rattle.c_tree.specs.declared.code.Shape.TheBlock.shown-the_row-Suffix-1 Rattle.c_tree.specs.declared.code.Shape.TheBlock.shown-the_row-Link-2 Rattle.c_tree.specs.declared.code.Shape.TheBlock.shown-the_row-Choice-3 denote.Hole.Carrier.shown denote.Hole.Carrier.hidden Rattle.c_tree.specs.declared.code.Stmt.TheBlock.shown-the_row-Stmt-0
constant_overflows = refused (codes "static gint i = 2147483647 + 1; int main (int argc, char **argv) {  return 0; }") (record { cause = cause.Misfit; at = 16 }) (found (codes "static gint i = 2147483647 + 1; int main (int argc, char **argv) {  return 0; }") (omega arith)) refl

own_initialiser : Refused (codes "static gint i = i; int main (int argc, char **argv) {  return 0; }") cause.Undeclared 16
unfolding Rattle.c_lexer.specs.Tokens.next_of Rattle.c_lexer.specs.Blanks.blanks_within Rattle.c_lexer.specs.Cut.cut Rattle.c_tree.specs.declared.code.Stmt.TheViews.out-Stmt denote.Hole.Carrier.out Rattle.c_tree.specs.declared.code.Shape.TheViews.out-Shape Rattle.c_tree.specs.declared.code.Shape.TheViews.out-Suffix Rattle.c_tree.specs.declared.code.Shape.TheBlock.shown-the_row-Expr-0 Rattle.c_tree.specs.declared.code.Shape.TheBlock.shown-the_row-Suffix-1 Rattle.c_tree.specs.declared.code.Shape.TheBlock.shown-the_row-Link-2 Rattle.c_tree.specs.declared.code.Shape.TheBlock.shown-the_row-Choice-3 denote.Hole.Carrier.shown denote.Hole.Carrier.hidden Rattle.c_tree.specs.declared.code.Stmt.TheBlock.shown-the_row-Stmt-0
own_initialiser = refused (codes "static gint i = i; int main (int argc, char **argv) {  return 0; }") (record { cause = cause.Undeclared; at = 16 }) (found (codes "static gint i = i; int main (int argc, char **argv) {  return 0; }") (omega arith)) refl

no_label : Refused (codes "int main (int argc, char **argv) { goto L; return 0; }") cause.Undeclared 40
unfolding Rattle.c_lexer.specs.Tokens.next_of Rattle.c_lexer.specs.Blanks.blanks_within Rattle.c_lexer.specs.Cut.cut Rattle.c_tree.specs.declared.code.Stmt.TheViews.out-Stmt denote.Hole.Carrier.out Rattle.c_tree.specs.declared.code.Shape.TheViews.out-Shape Rattle.c_tree.specs.declared.code.Shape.TheViews.out-Suffix Rattle.c_tree.specs.declared.code.Shape.TheBlock.shown-the_row-Expr-0 Rattle.c_tree.specs.declared.code.Shape.TheBlock.shown-the_row-Suffix-1 Rattle.c_tree.specs.declared.code.Shape.TheBlock.shown-the_row-Link-2 Rattle.c_tree.specs.declared.code.Shape.TheBlock.shown-the_row-Choice-3 denote.Hole.Carrier.shown denote.Hole.Carrier.hidden Rattle.c_tree.specs.declared.code.Stmt.TheBlock.shown-the_row-Stmt-0
no_label = refused (codes "int main (int argc, char **argv) { goto L; return 0; }") (record { cause = cause.Undeclared; at = 40 }) (found (codes "int main (int argc, char **argv) { goto L; return 0; }") (omega arith)) refl

value_in_void : Refused (codes "void f (void) { return 1; } int main (int argc, char **argv) {  return 0; }") cause.Misfit 16
unfolding Rattle.c_lexer.specs.Tokens.next_of Rattle.c_lexer.specs.Blanks.blanks_within Rattle.c_lexer.specs.Cut.cut Rattle.c_tree.specs.declared.code.Stmt.TheViews.out-Stmt denote.Hole.Carrier.out Rattle.c_tree.specs.declared.code.Shape.TheViews.out-Shape Rattle.c_tree.specs.declared.code.Shape.TheViews.out-Suffix Rattle.c_tree.specs.declared.code.Shape.TheBlock.shown-the_row-Expr-0 Rattle.c_tree.specs.declared.code.Shape.TheBlock.shown-the_row-Suffix-1 Rattle.c_tree.specs.declared.code.Shape.TheBlock.shown-the_row-Link-2 Rattle.c_tree.specs.declared.code.Shape.TheBlock.shown-the_row-Choice-3 denote.Hole.Carrier.shown denote.Hole.Carrier.hidden Rattle.c_tree.specs.declared.code.Stmt.TheBlock.shown-the_row-Stmt-0
value_in_void = refused (codes "void f (void) { return 1; } int main (int argc, char **argv) {  return 0; }") (record { cause = cause.Misfit; at = 16 }) (found (codes "void f (void) { return 1; } int main (int argc, char **argv) {  return 0; }") (omega arith)) refl

no_value : Refused (codes "int main (int argc, char **argv) { return; return 0; }") cause.Misfit 35
unfolding Rattle.c_lexer.specs.Tokens.next_of Rattle.c_lexer.specs.Blanks.blanks_within Rattle.c_lexer.specs.Cut.cut Rattle.c_tree.specs.declared.code.Stmt.TheViews.out-Stmt denote.Hole.Carrier.out Rattle.c_tree.specs.declared.code.Shape.TheViews.out-Shape Rattle.c_tree.specs.declared.code.Shape.TheViews.out-Suffix Rattle.c_tree.specs.declared.code.Shape.TheBlock.shown-the_row-Expr-0 Rattle.c_tree.specs.declared.code.Shape.TheBlock.shown-the_row-Suffix-1 Rattle.c_tree.specs.declared.code.Shape.TheBlock.shown-the_row-Link-2 Rattle.c_tree.specs.declared.code.Shape.TheBlock.shown-the_row-Choice-3 denote.Hole.Carrier.shown denote.Hole.Carrier.hidden Rattle.c_tree.specs.declared.code.Stmt.TheBlock.shown-the_row-Stmt-0
no_value = refused (codes "int main (int argc, char **argv) { return; return 0; }") (record { cause = cause.Misfit; at = 35 }) (found (codes "int main (int argc, char **argv) { return; return 0; }") (omega arith)) refl

brackets_count : Refused (codes "int main (int argc, char **argv) { gint i; i = (\"x\"); return 0; }") cause.Misfit 47
unfolding Rattle.c_lexer.specs.Tokens.next_of Rattle.c_lexer.specs.Blanks.blanks_within Rattle.c_lexer.specs.Cut.cut Rattle.c_tree.specs.declared.code.Stmt.TheViews.out-Stmt denote.Hole.Carrier.out Rattle.c_tree.specs.declared.code.Shape.TheViews.out-Shape Rattle.c_tree.specs.declared.code.Shape.TheViews.out-Suffix Rattle.c_tree.specs.declared.code.Shape.TheBlock.shown-the_row-Expr-0 Rattle.c_tree.specs.declared.code.Shape.TheBlock.shown-the_row-Suffix-1 Rattle.c_tree.specs.declared.code.Shape.TheBlock.shown-the_row-Link-2 Rattle.c_tree.specs.declared.code.Shape.TheBlock.shown-the_row-Choice-3 denote.Hole.Carrier.shown denote.Hole.Carrier.hidden Rattle.c_tree.specs.declared.code.Stmt.TheBlock.shown-the_row-Stmt-0
brackets_count = refused (codes "int main (int argc, char **argv) { gint i; i = (\"x\"); return 0; }") (record { cause = cause.Misfit; at = 47 }) (found (codes "int main (int argc, char **argv) { gint i; i = (\"x\"); return 0; }") (omega arith)) refl

number_and_pointer : Refused (codes "int main (int argc, char **argv) { gchar *s; s = 1 + s; return 0; }") cause.Misfit 49
unfolding Rattle.c_lexer.specs.Tokens.next_of Rattle.c_lexer.specs.Blanks.blanks_within Rattle.c_lexer.specs.Cut.cut Rattle.c_tree.specs.declared.code.Stmt.TheViews.out-Stmt denote.Hole.Carrier.out Rattle.c_tree.specs.declared.code.Shape.TheViews.out-Shape Rattle.c_tree.specs.declared.code.Shape.TheViews.out-Suffix Rattle.c_tree.specs.declared.code.Shape.TheBlock.shown-the_row-Expr-0 Rattle.c_tree.specs.declared.code.Shape.TheBlock.shown-the_row-Suffix-1 Rattle.c_tree.specs.declared.code.Shape.TheBlock.shown-the_row-Link-2 Rattle.c_tree.specs.declared.code.Shape.TheBlock.shown-the_row-Choice-3 denote.Hole.Carrier.shown denote.Hole.Carrier.hidden Rattle.c_tree.specs.declared.code.Stmt.TheBlock.shown-the_row-Stmt-0
number_and_pointer = refused (codes "int main (int argc, char **argv) { gchar *s; s = 1 + s; return 0; }") (record { cause = cause.Misfit; at = 49 }) (found (codes "int main (int argc, char **argv) { gchar *s; s = 1 + s; return 0; }") (omega arith)) refl

no_cells : Refused (codes "typedef struct _P P; int main (int argc, char **argv) { P p; return 0; }") cause.Misfit 58
unfolding Rattle.c_lexer.specs.Tokens.next_of Rattle.c_lexer.specs.Blanks.blanks_within Rattle.c_lexer.specs.Cut.cut Rattle.c_tree.specs.declared.code.Stmt.TheViews.out-Stmt denote.Hole.Carrier.out Rattle.c_tree.specs.declared.code.Shape.TheViews.out-Shape Rattle.c_tree.specs.declared.code.Shape.TheViews.out-Suffix Rattle.c_tree.specs.declared.code.Shape.TheBlock.shown-the_row-Expr-0 Rattle.c_tree.specs.declared.code.Shape.TheBlock.shown-the_row-Suffix-1 Rattle.c_tree.specs.declared.code.Shape.TheBlock.shown-the_row-Link-2 Rattle.c_tree.specs.declared.code.Shape.TheBlock.shown-the_row-Choice-3 denote.Hole.Carrier.shown denote.Hole.Carrier.hidden Rattle.c_tree.specs.declared.code.Stmt.TheBlock.shown-the_row-Stmt-0
no_cells = refused (codes "typedef struct _P P; int main (int argc, char **argv) { P p; return 0; }") (record { cause = cause.Misfit; at = 58 }) (found (codes "typedef struct _P P; int main (int argc, char **argv) { P p; return 0; }") (omega arith)) refl

no_field : Refused (codes "typedef struct _P P; struct _P { gint x; }; int main (int argc, char **argv) { P p; p.y = 1; return 0; }") cause.Undeclared 86
unfolding Rattle.c_lexer.specs.Tokens.next_of Rattle.c_lexer.specs.Blanks.blanks_within Rattle.c_lexer.specs.Cut.cut Rattle.c_tree.specs.declared.code.Stmt.TheViews.out-Stmt denote.Hole.Carrier.out Rattle.c_tree.specs.declared.code.Shape.TheViews.out-Shape Rattle.c_tree.specs.declared.code.Shape.TheViews.out-Suffix Rattle.c_tree.specs.declared.code.Shape.TheBlock.shown-the_row-Expr-0 Rattle.c_tree.specs.declared.code.Shape.TheBlock.shown-the_row-Suffix-1 Rattle.c_tree.specs.declared.code.Shape.TheBlock.shown-the_row-Link-2 Rattle.c_tree.specs.declared.code.Shape.TheBlock.shown-the_row-Choice-3 denote.Hole.Carrier.shown denote.Hole.Carrier.hidden Rattle.c_tree.specs.declared.code.Stmt.TheBlock.shown-the_row-Stmt-0
no_field = refused (codes "typedef struct _P P; struct _P { gint x; }; int main (int argc, char **argv) { P p; p.y = 1; return 0; }") (record { cause = cause.Undeclared; at = 86 }) (found (codes "typedef struct _P P; struct _P { gint x; }; int main (int argc, char **argv) { P p; p.y = 1; return 0; }") (omega arith)) refl

other_prototype : Refused (codes "gint f (void); gint f (gint a); int main (int argc, char **argv) {  return 0; }") cause.Twice 20
unfolding Rattle.c_lexer.specs.Tokens.next_of Rattle.c_lexer.specs.Blanks.blanks_within Rattle.c_lexer.specs.Cut.cut Rattle.c_tree.specs.declared.code.Stmt.TheViews.out-Stmt denote.Hole.Carrier.out Rattle.c_tree.specs.declared.code.Shape.TheViews.out-Shape Rattle.c_tree.specs.declared.code.Shape.TheViews.out-Suffix Rattle.c_tree.specs.declared.code.Shape.TheBlock.shown-the_row-Expr-0 Rattle.c_tree.specs.declared.code.Shape.TheBlock.shown-the_row-Suffix-1 Rattle.c_tree.specs.declared.code.Shape.TheBlock.shown-the_row-Link-2 Rattle.c_tree.specs.declared.code.Shape.TheBlock.shown-the_row-Choice-3 denote.Hole.Carrier.shown denote.Hole.Carrier.hidden Rattle.c_tree.specs.declared.code.Stmt.TheBlock.shown-the_row-Stmt-0
other_prototype = refused (codes "gint f (void); gint f (gint a); int main (int argc, char **argv) {  return 0; }") (record { cause = cause.Twice; at = 20 }) (found (codes "gint f (void); gint f (gint a); int main (int argc, char **argv) {  return 0; }") (omega arith)) refl

struct_again : Refused (codes "typedef struct _P P; struct _P { gint x; }; struct _P { gint x; }; int main (int argc, char **argv) {  return 0; }") cause.Twice 51
unfolding Rattle.c_lexer.specs.Tokens.next_of Rattle.c_lexer.specs.Blanks.blanks_within Rattle.c_lexer.specs.Cut.cut Rattle.c_tree.specs.declared.code.Stmt.TheViews.out-Stmt denote.Hole.Carrier.out Rattle.c_tree.specs.declared.code.Shape.TheViews.out-Shape Rattle.c_tree.specs.declared.code.Shape.TheViews.out-Suffix Rattle.c_tree.specs.declared.code.Shape.TheBlock.shown-the_row-Expr-0 Rattle.c_tree.specs.declared.code.Shape.TheBlock.shown-the_row-Suffix-1 Rattle.c_tree.specs.declared.code.Shape.TheBlock.shown-the_row-Link-2 Rattle.c_tree.specs.declared.code.Shape.TheBlock.shown-the_row-Choice-3 denote.Hole.Carrier.shown denote.Hole.Carrier.hidden Rattle.c_tree.specs.declared.code.Stmt.TheBlock.shown-the_row-Stmt-0
struct_again = refused (codes "typedef struct _P P; struct _P { gint x; }; struct _P { gint x; }; int main (int argc, char **argv) {  return 0; }") (record { cause = cause.Twice; at = 51 }) (found (codes "typedef struct _P P; struct _P { gint x; }; struct _P { gint x; }; int main (int argc, char **argv) {  return 0; }") (omega arith)) refl

member_again : Refused (codes "typedef enum { A = 1, A = 2 } E; int main (int argc, char **argv) {  return 0; }") cause.Twice 22
unfolding Rattle.c_lexer.specs.Tokens.next_of Rattle.c_lexer.specs.Blanks.blanks_within Rattle.c_lexer.specs.Cut.cut Rattle.c_tree.specs.declared.code.Stmt.TheViews.out-Stmt denote.Hole.Carrier.out Rattle.c_tree.specs.declared.code.Shape.TheViews.out-Shape Rattle.c_tree.specs.declared.code.Shape.TheViews.out-Suffix Rattle.c_tree.specs.declared.code.Shape.TheBlock.shown-the_row-Expr-0 Rattle.c_tree.specs.declared.code.Shape.TheBlock.shown-the_row-Suffix-1 Rattle.c_tree.specs.declared.code.Shape.TheBlock.shown-the_row-Link-2 Rattle.c_tree.specs.declared.code.Shape.TheBlock.shown-the_row-Choice-3 denote.Hole.Carrier.shown denote.Hole.Carrier.hidden Rattle.c_tree.specs.declared.code.Stmt.TheBlock.shown-the_row-Stmt-0
member_again = refused (codes "typedef enum { A = 1, A = 2 } E; int main (int argc, char **argv) {  return 0; }") (record { cause = cause.Twice; at = 22 }) (found (codes "typedef enum { A = 1, A = 2 } E; int main (int argc, char **argv) {  return 0; }") (omega arith)) refl

row_to_come : Refused (codes "int main (int argc, char **argv) { g_object_unref (NULL); return 0; }") cause.Undeclared 35
unfolding Rattle.c_lexer.specs.Tokens.next_of Rattle.c_lexer.specs.Blanks.blanks_within Rattle.c_lexer.specs.Cut.cut Rattle.c_tree.specs.declared.code.Stmt.TheViews.out-Stmt denote.Hole.Carrier.out Rattle.c_tree.specs.declared.code.Shape.TheViews.out-Shape Rattle.c_tree.specs.declared.code.Shape.TheViews.out-Suffix Rattle.c_tree.specs.declared.code.Shape.TheBlock.shown-the_row-Expr-0 Rattle.c_tree.specs.declared.code.Shape.TheBlock.shown-the_row-Suffix-1 Rattle.c_tree.specs.declared.code.Shape.TheBlock.shown-the_row-Link-2 Rattle.c_tree.specs.declared.code.Shape.TheBlock.shown-the_row-Choice-3 denote.Hole.Carrier.shown denote.Hole.Carrier.hidden Rattle.c_tree.specs.declared.code.Stmt.TheBlock.shown-the_row-Stmt-0
row_to_come = refused (codes "int main (int argc, char **argv) { g_object_unref (NULL); return 0; }") (record { cause = cause.Undeclared; at = 35 }) (found (codes "int main (int argc, char **argv) { g_object_unref (NULL); return 0; }") (omega arith)) refl

format : Refused (codes "int main (int argc, char **argv) { g_print (1); return 0; }") cause.Misfit 44
unfolding Rattle.c_lexer.specs.Tokens.next_of Rattle.c_lexer.specs.Blanks.blanks_within Rattle.c_lexer.specs.Cut.cut Rattle.c_tree.specs.declared.code.Stmt.TheViews.out-Stmt denote.Hole.Carrier.out Rattle.c_tree.specs.declared.code.Shape.TheViews.out-Shape Rattle.c_tree.specs.declared.code.Shape.TheViews.out-Suffix Rattle.c_tree.specs.declared.code.Shape.TheBlock.shown-the_row-Expr-0 Rattle.c_tree.specs.declared.code.Shape.TheBlock.shown-the_row-Suffix-1 Rattle.c_tree.specs.declared.code.Shape.TheBlock.shown-the_row-Link-2 Rattle.c_tree.specs.declared.code.Shape.TheBlock.shown-the_row-Choice-3 denote.Hole.Carrier.shown denote.Hole.Carrier.hidden Rattle.c_tree.specs.declared.code.Stmt.TheBlock.shown-the_row-Stmt-0
format = refused (codes "int main (int argc, char **argv) { g_print (1); return 0; }") (record { cause = cause.Misfit; at = 44 }) (found (codes "int main (int argc, char **argv) { g_print (1); return 0; }") (omega arith)) refl

label_again : Refused (codes "int main (int argc, char **argv) { L: ; L: ; return 0; }") cause.Twice 40
unfolding Rattle.c_lexer.specs.Tokens.next_of Rattle.c_lexer.specs.Blanks.blanks_within Rattle.c_lexer.specs.Cut.cut Rattle.c_tree.specs.declared.code.Stmt.TheViews.out-Stmt denote.Hole.Carrier.out Rattle.c_tree.specs.declared.code.Shape.TheViews.out-Shape Rattle.c_tree.specs.declared.code.Shape.TheViews.out-Suffix Rattle.c_tree.specs.declared.code.Shape.TheBlock.shown-the_row-Expr-0 Rattle.c_tree.specs.declared.code.Shape.TheBlock.shown-the_row-Suffix-1 Rattle.c_tree.specs.declared.code.Shape.TheBlock.shown-the_row-Link-2 Rattle.c_tree.specs.declared.code.Shape.TheBlock.shown-the_row-Choice-3 denote.Hole.Carrier.shown denote.Hole.Carrier.hidden Rattle.c_tree.specs.declared.code.Stmt.TheBlock.shown-the_row-Stmt-0
label_again = refused (codes "int main (int argc, char **argv) { L: ; L: ; return 0; }") (record { cause = cause.Twice; at = 40 }) (found (codes "int main (int argc, char **argv) { L: ; L: ; return 0; }") (omega arith)) refl

result : Refused (codes "gint f (void); int main (int argc, char **argv) { gchar *s; s = f (); return 0; }") cause.Misfit 64
unfolding Rattle.c_lexer.specs.Tokens.next_of Rattle.c_lexer.specs.Blanks.blanks_within Rattle.c_lexer.specs.Cut.cut Rattle.c_tree.specs.declared.code.Stmt.TheViews.out-Stmt denote.Hole.Carrier.out Rattle.c_tree.specs.declared.code.Shape.TheViews.out-Shape Rattle.c_tree.specs.declared.code.Shape.TheViews.out-Suffix Rattle.c_tree.specs.declared.code.Shape.TheBlock.shown-the_row-Expr-0 Rattle.c_tree.specs.declared.code.Shape.TheBlock.shown-the_row-Suffix-1 Rattle.c_tree.specs.declared.code.Shape.TheBlock.shown-the_row-Link-2 Rattle.c_tree.specs.declared.code.Shape.TheBlock.shown-the_row-Choice-3 denote.Hole.Carrier.shown denote.Hole.Carrier.hidden Rattle.c_tree.specs.declared.code.Stmt.TheBlock.shown-the_row-Stmt-0
result = refused (codes "gint f (void); int main (int argc, char **argv) { gchar *s; s = f (); return 0; }") (record { cause = cause.Misfit; at = 64 }) (found (codes "gint f (void); int main (int argc, char **argv) { gchar *s; s = f (); return 0; }") (omega arith)) refl

no_tag : Refused (codes "struct _X { gint a; }; int main (int argc, char **argv) {  return 0; }") cause.Undeclared 7
unfolding Rattle.c_lexer.specs.Tokens.next_of Rattle.c_lexer.specs.Blanks.blanks_within Rattle.c_lexer.specs.Cut.cut Rattle.c_tree.specs.declared.code.Stmt.TheViews.out-Stmt denote.Hole.Carrier.out Rattle.c_tree.specs.declared.code.Shape.TheViews.out-Shape Rattle.c_tree.specs.declared.code.Shape.TheViews.out-Suffix Rattle.c_tree.specs.declared.code.Shape.TheBlock.shown-the_row-Expr-0 Rattle.c_tree.specs.declared.code.Shape.TheBlock.shown-the_row-Suffix-1 Rattle.c_tree.specs.declared.code.Shape.TheBlock.shown-the_row-Link-2 Rattle.c_tree.specs.declared.code.Shape.TheBlock.shown-the_row-Choice-3 denote.Hole.Carrier.shown denote.Hole.Carrier.hidden Rattle.c_tree.specs.declared.code.Stmt.TheBlock.shown-the_row-Stmt-0
no_tag = refused (codes "struct _X { gint a; }; int main (int argc, char **argv) {  return 0; }") (record { cause = cause.Undeclared; at = 7 }) (found (codes "struct _X { gint a; }; int main (int argc, char **argv) {  return 0; }") (omega arith)) refl

first_by_place : Refused (codes "int main (int argc, char **argv) { gchar *s; gint i; i = \"x\"; zz = 1; return 0; }") cause.Misfit 57
unfolding Rattle.c_lexer.specs.Tokens.next_of Rattle.c_lexer.specs.Blanks.blanks_within Rattle.c_lexer.specs.Cut.cut Rattle.c_tree.specs.declared.code.Stmt.TheViews.out-Stmt denote.Hole.Carrier.out Rattle.c_tree.specs.declared.code.Shape.TheViews.out-Shape Rattle.c_tree.specs.declared.code.Shape.TheViews.out-Suffix Rattle.c_tree.specs.declared.code.Shape.TheBlock.shown-the_row-Expr-0 Rattle.c_tree.specs.declared.code.Shape.TheBlock.shown-the_row-Suffix-1 Rattle.c_tree.specs.declared.code.Shape.TheBlock.shown-the_row-Link-2 Rattle.c_tree.specs.declared.code.Shape.TheBlock.shown-the_row-Choice-3 denote.Hole.Carrier.shown denote.Hole.Carrier.hidden Rattle.c_tree.specs.declared.code.Stmt.TheBlock.shown-the_row-Stmt-0
first_by_place = refused (codes "int main (int argc, char **argv) { gchar *s; gint i; i = \"x\"; zz = 1; return 0; }") (record { cause = cause.Misfit; at = 57 }) (found (codes "int main (int argc, char **argv) { gchar *s; gint i; i = \"x\"; zz = 1; return 0; }") (omega arith)) refl

in_a_block : Refused (codes "int main (int argc, char **argv) { { gint a; a = 1; } a = 2; return 0; }") cause.Undeclared 54
unfolding Rattle.c_lexer.specs.Tokens.next_of Rattle.c_lexer.specs.Blanks.blanks_within Rattle.c_lexer.specs.Cut.cut Rattle.c_tree.specs.declared.code.Stmt.TheViews.out-Stmt denote.Hole.Carrier.out Rattle.c_tree.specs.declared.code.Shape.TheViews.out-Shape Rattle.c_tree.specs.declared.code.Shape.TheViews.out-Suffix Rattle.c_tree.specs.declared.code.Shape.TheBlock.shown-the_row-Expr-0 Rattle.c_tree.specs.declared.code.Shape.TheBlock.shown-the_row-Suffix-1 Rattle.c_tree.specs.declared.code.Shape.TheBlock.shown-the_row-Link-2 Rattle.c_tree.specs.declared.code.Shape.TheBlock.shown-the_row-Choice-3 denote.Hole.Carrier.shown denote.Hole.Carrier.hidden Rattle.c_tree.specs.declared.code.Stmt.TheBlock.shown-the_row-Stmt-0
in_a_block = refused (codes "int main (int argc, char **argv) { { gint a; a = 1; } a = 2; return 0; }") (record { cause = cause.Undeclared; at = 54 }) (found (codes "int main (int argc, char **argv) { { gint a; a = 1; } a = 2; return 0; }") (omega arith)) refl

size_of_unknown : Refused (codes "typedef struct _P P; int main (int argc, char **argv) { gint i; i = sizeof (P); return 0; }") cause.Misfit 68
unfolding Rattle.c_lexer.specs.Tokens.next_of Rattle.c_lexer.specs.Blanks.blanks_within Rattle.c_lexer.specs.Cut.cut Rattle.c_tree.specs.declared.code.Stmt.TheViews.out-Stmt denote.Hole.Carrier.out Rattle.c_tree.specs.declared.code.Shape.TheViews.out-Shape Rattle.c_tree.specs.declared.code.Shape.TheViews.out-Suffix Rattle.c_tree.specs.declared.code.Shape.TheBlock.shown-the_row-Expr-0 Rattle.c_tree.specs.declared.code.Shape.TheBlock.shown-the_row-Suffix-1 Rattle.c_tree.specs.declared.code.Shape.TheBlock.shown-the_row-Link-2 Rattle.c_tree.specs.declared.code.Shape.TheBlock.shown-the_row-Choice-3 denote.Hole.Carrier.shown denote.Hole.Carrier.hidden Rattle.c_tree.specs.declared.code.Stmt.TheBlock.shown-the_row-Stmt-0
size_of_unknown = refused (codes "typedef struct _P P; int main (int argc, char **argv) { gint i; i = sizeof (P); return 0; }") (record { cause = cause.Misfit; at = 68 }) (found (codes "typedef struct _P P; int main (int argc, char **argv) { gint i; i = sizeof (P); return 0; }") (omega arith)) refl

undeclared_type : Refused (codes "int main (int argc, char **argv) { Foo *p; p = NULL; return 0; }") cause.Undeclared 35
unfolding Rattle.c_lexer.specs.Tokens.next_of Rattle.c_lexer.specs.Blanks.blanks_within Rattle.c_lexer.specs.Cut.cut Rattle.c_tree.specs.declared.code.Stmt.TheViews.out-Stmt denote.Hole.Carrier.out Rattle.c_tree.specs.declared.code.Shape.TheViews.out-Shape Rattle.c_tree.specs.declared.code.Shape.TheViews.out-Suffix Rattle.c_tree.specs.declared.code.Shape.TheBlock.shown-the_row-Expr-0 Rattle.c_tree.specs.declared.code.Shape.TheBlock.shown-the_row-Suffix-1 Rattle.c_tree.specs.declared.code.Shape.TheBlock.shown-the_row-Link-2 Rattle.c_tree.specs.declared.code.Shape.TheBlock.shown-the_row-Choice-3 denote.Hole.Carrier.shown denote.Hole.Carrier.hidden Rattle.c_tree.specs.declared.code.Stmt.TheBlock.shown-the_row-Stmt-0
undeclared_type = refused (codes "int main (int argc, char **argv) { Foo *p; p = NULL; return 0; }") (record { cause = cause.Undeclared; at = 35 }) (found (codes "int main (int argc, char **argv) { Foo *p; p = NULL; return 0; }") (omega arith)) refl

field_twice : Refused (codes "typedef struct _P P; struct _P { gint x; gchar *x; }; int main (int argc, char **argv) {  return 0; }") cause.Twice 48
unfolding Rattle.c_lexer.specs.Tokens.next_of Rattle.c_lexer.specs.Blanks.blanks_within Rattle.c_lexer.specs.Cut.cut Rattle.c_tree.specs.declared.code.Stmt.TheViews.out-Stmt denote.Hole.Carrier.out Rattle.c_tree.specs.declared.code.Shape.TheViews.out-Shape Rattle.c_tree.specs.declared.code.Shape.TheViews.out-Suffix Rattle.c_tree.specs.declared.code.Shape.TheBlock.shown-the_row-Expr-0 Rattle.c_tree.specs.declared.code.Shape.TheBlock.shown-the_row-Suffix-1 Rattle.c_tree.specs.declared.code.Shape.TheBlock.shown-the_row-Link-2 Rattle.c_tree.specs.declared.code.Shape.TheBlock.shown-the_row-Choice-3 denote.Hole.Carrier.shown denote.Hole.Carrier.hidden Rattle.c_tree.specs.declared.code.Stmt.TheBlock.shown-the_row-Stmt-0
field_twice = refused (codes "typedef struct _P P; struct _P { gint x; gchar *x; }; int main (int argc, char **argv) {  return 0; }") (record { cause = cause.Twice; at = 48 }) (found (codes "typedef struct _P P; struct _P { gint x; gchar *x; }; int main (int argc, char **argv) {  return 0; }") (omega arith)) refl

second_body : Refused (codes "gint f (void) { return 1; } gint f (void) { return 2; } int main (int argc, char **argv) {  return 0; }") cause.Twice 33
unfolding Rattle.c_lexer.specs.Tokens.next_of Rattle.c_lexer.specs.Blanks.blanks_within Rattle.c_lexer.specs.Cut.cut Rattle.c_tree.specs.declared.code.Stmt.TheViews.out-Stmt denote.Hole.Carrier.out Rattle.c_tree.specs.declared.code.Shape.TheViews.out-Shape Rattle.c_tree.specs.declared.code.Shape.TheViews.out-Suffix Rattle.c_tree.specs.declared.code.Shape.TheBlock.shown-the_row-Expr-0 Rattle.c_tree.specs.declared.code.Shape.TheBlock.shown-the_row-Suffix-1 Rattle.c_tree.specs.declared.code.Shape.TheBlock.shown-the_row-Link-2 Rattle.c_tree.specs.declared.code.Shape.TheBlock.shown-the_row-Choice-3 denote.Hole.Carrier.shown denote.Hole.Carrier.hidden Rattle.c_tree.specs.declared.code.Stmt.TheBlock.shown-the_row-Stmt-0
second_body = refused (codes "gint f (void) { return 1; } gint f (void) { return 2; } int main (int argc, char **argv) {  return 0; }") (record { cause = cause.Twice; at = 33 }) (found (codes "gint f (void) { return 1; } gint f (void) { return 2; } int main (int argc, char **argv) {  return 0; }") (omega arith)) refl

static_differs : Refused (codes "gint f (void); static gint f (void) { return 2; } int main (int argc, char **argv) {  return 0; }") cause.Twice 27
unfolding Rattle.c_lexer.specs.Tokens.next_of Rattle.c_lexer.specs.Blanks.blanks_within Rattle.c_lexer.specs.Cut.cut Rattle.c_tree.specs.declared.code.Stmt.TheViews.out-Stmt denote.Hole.Carrier.out Rattle.c_tree.specs.declared.code.Shape.TheViews.out-Shape Rattle.c_tree.specs.declared.code.Shape.TheViews.out-Suffix Rattle.c_tree.specs.declared.code.Shape.TheBlock.shown-the_row-Expr-0 Rattle.c_tree.specs.declared.code.Shape.TheBlock.shown-the_row-Suffix-1 Rattle.c_tree.specs.declared.code.Shape.TheBlock.shown-the_row-Link-2 Rattle.c_tree.specs.declared.code.Shape.TheBlock.shown-the_row-Choice-3 denote.Hole.Carrier.shown denote.Hole.Carrier.hidden Rattle.c_tree.specs.declared.code.Stmt.TheBlock.shown-the_row-Stmt-0
static_differs = refused (codes "gint f (void); static gint f (void) { return 2; } int main (int argc, char **argv) {  return 0; }") (record { cause = cause.Twice; at = 27 }) (found (codes "gint f (void); static gint f (void) { return 2; } int main (int argc, char **argv) {  return 0; }") (omega arith)) refl

variable_again : Refused (codes "static gint a = 1; static gint a = 2; int main (int argc, char **argv) {  return 0; }") cause.Twice 31
unfolding Rattle.c_lexer.specs.Tokens.next_of Rattle.c_lexer.specs.Blanks.blanks_within Rattle.c_lexer.specs.Cut.cut Rattle.c_tree.specs.declared.code.Stmt.TheViews.out-Stmt denote.Hole.Carrier.out Rattle.c_tree.specs.declared.code.Shape.TheViews.out-Shape Rattle.c_tree.specs.declared.code.Shape.TheViews.out-Suffix Rattle.c_tree.specs.declared.code.Shape.TheBlock.shown-the_row-Expr-0 Rattle.c_tree.specs.declared.code.Shape.TheBlock.shown-the_row-Suffix-1 Rattle.c_tree.specs.declared.code.Shape.TheBlock.shown-the_row-Link-2 Rattle.c_tree.specs.declared.code.Shape.TheBlock.shown-the_row-Choice-3 denote.Hole.Carrier.shown denote.Hole.Carrier.hidden Rattle.c_tree.specs.declared.code.Stmt.TheBlock.shown-the_row-Stmt-0
variable_again = refused (codes "static gint a = 1; static gint a = 2; int main (int argc, char **argv) {  return 0; }") (record { cause = cause.Twice; at = 31 }) (found (codes "static gint a = 1; static gint a = 2; int main (int argc, char **argv) {  return 0; }") (omega arith)) refl

variable_and_function : Refused (codes "gint a (void); static gint a = 2; int main (int argc, char **argv) {  return 0; }") cause.Twice 27
unfolding Rattle.c_lexer.specs.Tokens.next_of Rattle.c_lexer.specs.Blanks.blanks_within Rattle.c_lexer.specs.Cut.cut Rattle.c_tree.specs.declared.code.Stmt.TheViews.out-Stmt denote.Hole.Carrier.out Rattle.c_tree.specs.declared.code.Shape.TheViews.out-Shape Rattle.c_tree.specs.declared.code.Shape.TheViews.out-Suffix Rattle.c_tree.specs.declared.code.Shape.TheBlock.shown-the_row-Expr-0 Rattle.c_tree.specs.declared.code.Shape.TheBlock.shown-the_row-Suffix-1 Rattle.c_tree.specs.declared.code.Shape.TheBlock.shown-the_row-Link-2 Rattle.c_tree.specs.declared.code.Shape.TheBlock.shown-the_row-Choice-3 denote.Hole.Carrier.shown denote.Hole.Carrier.hidden Rattle.c_tree.specs.declared.code.Stmt.TheBlock.shown-the_row-Stmt-0
variable_and_function = refused (codes "gint a (void); static gint a = 2; int main (int argc, char **argv) {  return 0; }") (record { cause = cause.Twice; at = 27 }) (found (codes "gint a (void); static gint a = 2; int main (int argc, char **argv) {  return 0; }") (omega arith)) refl

call_of_a_number : Refused (codes "int main (int argc, char **argv) { gint i; i (1); return 0; }") cause.Misfit 43
unfolding Rattle.c_lexer.specs.Tokens.next_of Rattle.c_lexer.specs.Blanks.blanks_within Rattle.c_lexer.specs.Cut.cut Rattle.c_tree.specs.declared.code.Stmt.TheViews.out-Stmt denote.Hole.Carrier.out Rattle.c_tree.specs.declared.code.Shape.TheViews.out-Shape Rattle.c_tree.specs.declared.code.Shape.TheViews.out-Suffix Rattle.c_tree.specs.declared.code.Shape.TheBlock.shown-the_row-Expr-0 Rattle.c_tree.specs.declared.code.Shape.TheBlock.shown-the_row-Suffix-1 Rattle.c_tree.specs.declared.code.Shape.TheBlock.shown-the_row-Link-2 Rattle.c_tree.specs.declared.code.Shape.TheBlock.shown-the_row-Choice-3 denote.Hole.Carrier.shown denote.Hole.Carrier.hidden Rattle.c_tree.specs.declared.code.Stmt.TheBlock.shown-the_row-Stmt-0
call_of_a_number = refused (codes "int main (int argc, char **argv) { gint i; i (1); return 0; }") (record { cause = cause.Misfit; at = 43 }) (found (codes "int main (int argc, char **argv) { gint i; i (1); return 0; }") (omega arith)) refl

argument : Refused (codes "gint f (gint a); int main (int argc, char **argv) { f (\"x\"); return 0; }") cause.Misfit 55
unfolding Rattle.c_lexer.specs.Tokens.next_of Rattle.c_lexer.specs.Blanks.blanks_within Rattle.c_lexer.specs.Cut.cut Rattle.c_tree.specs.declared.code.Stmt.TheViews.out-Stmt denote.Hole.Carrier.out Rattle.c_tree.specs.declared.code.Shape.TheViews.out-Shape Rattle.c_tree.specs.declared.code.Shape.TheViews.out-Suffix Rattle.c_tree.specs.declared.code.Shape.TheBlock.shown-the_row-Expr-0 Rattle.c_tree.specs.declared.code.Shape.TheBlock.shown-the_row-Suffix-1 Rattle.c_tree.specs.declared.code.Shape.TheBlock.shown-the_row-Link-2 Rattle.c_tree.specs.declared.code.Shape.TheBlock.shown-the_row-Choice-3 denote.Hole.Carrier.shown denote.Hole.Carrier.hidden Rattle.c_tree.specs.declared.code.Stmt.TheBlock.shown-the_row-Stmt-0
argument = refused (codes "gint f (gint a); int main (int argc, char **argv) { f (\"x\"); return 0; }") (record { cause = cause.Misfit; at = 55 }) (found (codes "gint f (gint a); int main (int argc, char **argv) { f (\"x\"); return 0; }") (omega arith)) refl

value_before_name : Refused (codes "int main (int argc, char **argv) { gint i; i = 1 - \"x\" + zz; return 0; }") cause.Misfit 47
unfolding Rattle.c_lexer.specs.Tokens.next_of Rattle.c_lexer.specs.Blanks.blanks_within Rattle.c_lexer.specs.Cut.cut Rattle.c_tree.specs.declared.code.Stmt.TheViews.out-Stmt denote.Hole.Carrier.out Rattle.c_tree.specs.declared.code.Shape.TheViews.out-Shape Rattle.c_tree.specs.declared.code.Shape.TheViews.out-Suffix Rattle.c_tree.specs.declared.code.Shape.TheBlock.shown-the_row-Expr-0 Rattle.c_tree.specs.declared.code.Shape.TheBlock.shown-the_row-Suffix-1 Rattle.c_tree.specs.declared.code.Shape.TheBlock.shown-the_row-Link-2 Rattle.c_tree.specs.declared.code.Shape.TheBlock.shown-the_row-Choice-3 denote.Hole.Carrier.shown denote.Hole.Carrier.hidden Rattle.c_tree.specs.declared.code.Stmt.TheBlock.shown-the_row-Stmt-0
value_before_name = refused (codes "int main (int argc, char **argv) { gint i; i = 1 - \"x\" + zz; return 0; }") (record { cause = cause.Misfit; at = 47 }) (found (codes "int main (int argc, char **argv) { gint i; i = 1 - \"x\" + zz; return 0; }") (omega arith)) refl

structs_compared : Refused (codes "typedef struct _P P; struct _P { gint x; }; int main (int argc, char **argv) { P p; P q; gint i; i = p == q; return 0; }") cause.Misfit 101
unfolding Rattle.c_lexer.specs.Tokens.next_of Rattle.c_lexer.specs.Blanks.blanks_within Rattle.c_lexer.specs.Cut.cut Rattle.c_tree.specs.declared.code.Stmt.TheViews.out-Stmt denote.Hole.Carrier.out Rattle.c_tree.specs.declared.code.Shape.TheViews.out-Shape Rattle.c_tree.specs.declared.code.Shape.TheViews.out-Suffix Rattle.c_tree.specs.declared.code.Shape.TheBlock.shown-the_row-Expr-0 Rattle.c_tree.specs.declared.code.Shape.TheBlock.shown-the_row-Suffix-1 Rattle.c_tree.specs.declared.code.Shape.TheBlock.shown-the_row-Link-2 Rattle.c_tree.specs.declared.code.Shape.TheBlock.shown-the_row-Choice-3 denote.Hole.Carrier.shown denote.Hole.Carrier.hidden Rattle.c_tree.specs.declared.code.Stmt.TheBlock.shown-the_row-Stmt-0
structs_compared = refused (codes "typedef struct _P P; struct _P { gint x; }; int main (int argc, char **argv) { P p; P q; gint i; i = p == q; return 0; }") (record { cause = cause.Misfit; at = 101 }) (found (codes "typedef struct _P P; struct _P { gint x; }; int main (int argc, char **argv) { P p; P q; gint i; i = p == q; return 0; }") (omega arith)) refl

function_types_differ : Refused (codes "typedef gint (*F) (void); typedef void (*G) (void); int main (int argc, char **argv) { F f; G g; g = NULL; f = g; return 0; }") cause.Misfit 111
unfolding Rattle.c_lexer.specs.Tokens.next_of Rattle.c_lexer.specs.Blanks.blanks_within Rattle.c_lexer.specs.Cut.cut Rattle.c_tree.specs.declared.code.Stmt.TheViews.out-Stmt denote.Hole.Carrier.out Rattle.c_tree.specs.declared.code.Shape.TheViews.out-Shape Rattle.c_tree.specs.declared.code.Shape.TheViews.out-Suffix Rattle.c_tree.specs.declared.code.Shape.TheBlock.shown-the_row-Expr-0 Rattle.c_tree.specs.declared.code.Shape.TheBlock.shown-the_row-Suffix-1 Rattle.c_tree.specs.declared.code.Shape.TheBlock.shown-the_row-Link-2 Rattle.c_tree.specs.declared.code.Shape.TheBlock.shown-the_row-Choice-3 denote.Hole.Carrier.shown denote.Hole.Carrier.hidden Rattle.c_tree.specs.declared.code.Stmt.TheBlock.shown-the_row-Stmt-0
function_types_differ = refused (codes "typedef gint (*F) (void); typedef void (*G) (void); int main (int argc, char **argv) { F f; G g; g = NULL; f = g; return 0; }") (record { cause = cause.Misfit; at = 111 }) (found (codes "typedef gint (*F) (void); typedef void (*G) (void); int main (int argc, char **argv) { F f; G g; g = NULL; f = g; return 0; }") (omega arith)) refl

cast_of_number : Refused (codes "int main (int argc, char **argv) { gpointer p; p = (gpointer) 1; return 0; }") cause.Misfit 51
unfolding Rattle.c_lexer.specs.Tokens.next_of Rattle.c_lexer.specs.Blanks.blanks_within Rattle.c_lexer.specs.Cut.cut Rattle.c_tree.specs.declared.code.Stmt.TheViews.out-Stmt denote.Hole.Carrier.out Rattle.c_tree.specs.declared.code.Shape.TheViews.out-Shape Rattle.c_tree.specs.declared.code.Shape.TheViews.out-Suffix Rattle.c_tree.specs.declared.code.Shape.TheBlock.shown-the_row-Expr-0 Rattle.c_tree.specs.declared.code.Shape.TheBlock.shown-the_row-Suffix-1 Rattle.c_tree.specs.declared.code.Shape.TheBlock.shown-the_row-Link-2 Rattle.c_tree.specs.declared.code.Shape.TheBlock.shown-the_row-Choice-3 denote.Hole.Carrier.shown denote.Hole.Carrier.hidden Rattle.c_tree.specs.declared.code.Stmt.TheBlock.shown-the_row-Stmt-0
cast_of_number = refused (codes "int main (int argc, char **argv) { gpointer p; p = (gpointer) 1; return 0; }") (record { cause = cause.Misfit; at = 51 }) (found (codes "int main (int argc, char **argv) { gpointer p; p = (gpointer) 1; return 0; }") (omega arith)) refl

parameter_names : Refused (codes "gint f (gint a, gint a); int main (int argc, char **argv) {  return 0; }") cause.Twice 21
unfolding Rattle.c_lexer.specs.Tokens.next_of Rattle.c_lexer.specs.Blanks.blanks_within Rattle.c_lexer.specs.Cut.cut Rattle.c_tree.specs.declared.code.Stmt.TheViews.out-Stmt denote.Hole.Carrier.out Rattle.c_tree.specs.declared.code.Shape.TheViews.out-Shape Rattle.c_tree.specs.declared.code.Shape.TheViews.out-Suffix Rattle.c_tree.specs.declared.code.Shape.TheBlock.shown-the_row-Expr-0 Rattle.c_tree.specs.declared.code.Shape.TheBlock.shown-the_row-Suffix-1 Rattle.c_tree.specs.declared.code.Shape.TheBlock.shown-the_row-Link-2 Rattle.c_tree.specs.declared.code.Shape.TheBlock.shown-the_row-Choice-3 denote.Hole.Carrier.shown denote.Hole.Carrier.hidden Rattle.c_tree.specs.declared.code.Stmt.TheBlock.shown-the_row-Stmt-0
parameter_names = refused (codes "gint f (gint a, gint a); int main (int argc, char **argv) {  return 0; }") (record { cause = cause.Twice; at = 21 }) (found (codes "gint f (gint a, gint a); int main (int argc, char **argv) {  return 0; }") (omega arith)) refl

hidden_again : Refused (codes "int main (int argc, char **argv) { gint a; gint a; return 0; }") cause.Twice 48
unfolding Rattle.c_lexer.specs.Tokens.next_of Rattle.c_lexer.specs.Blanks.blanks_within Rattle.c_lexer.specs.Cut.cut Rattle.c_tree.specs.declared.code.Stmt.TheViews.out-Stmt denote.Hole.Carrier.out Rattle.c_tree.specs.declared.code.Shape.TheViews.out-Shape Rattle.c_tree.specs.declared.code.Shape.TheViews.out-Suffix Rattle.c_tree.specs.declared.code.Shape.TheBlock.shown-the_row-Expr-0 Rattle.c_tree.specs.declared.code.Shape.TheBlock.shown-the_row-Suffix-1 Rattle.c_tree.specs.declared.code.Shape.TheBlock.shown-the_row-Link-2 Rattle.c_tree.specs.declared.code.Shape.TheBlock.shown-the_row-Choice-3 denote.Hole.Carrier.shown denote.Hole.Carrier.hidden Rattle.c_tree.specs.declared.code.Stmt.TheBlock.shown-the_row-Stmt-0
hidden_again = refused (codes "int main (int argc, char **argv) { gint a; gint a; return 0; }") (record { cause = cause.Twice; at = 48 }) (found (codes "int main (int argc, char **argv) { gint a; gint a; return 0; }") (omega arith)) refl

shift_too_far : Refused (codes "static gint i = 1 >> 32; int main (int argc, char **argv) {  return 0; }") cause.Misfit 16
unfolding Rattle.c_lexer.specs.Tokens.next_of Rattle.c_lexer.specs.Blanks.blanks_within Rattle.c_lexer.specs.Cut.cut Rattle.c_tree.specs.declared.code.Stmt.TheViews.out-Stmt denote.Hole.Carrier.out Rattle.c_tree.specs.declared.code.Shape.TheViews.out-Shape Rattle.c_tree.specs.declared.code.Shape.TheViews.out-Suffix Rattle.c_tree.specs.declared.code.Shape.TheBlock.shown-the_row-Expr-0 Rattle.c_tree.specs.declared.code.Shape.TheBlock.shown-the_row-Suffix-1 Rattle.c_tree.specs.declared.code.Shape.TheBlock.shown-the_row-Link-2 Rattle.c_tree.specs.declared.code.Shape.TheBlock.shown-the_row-Choice-3 denote.Hole.Carrier.shown denote.Hole.Carrier.hidden Rattle.c_tree.specs.declared.code.Stmt.TheBlock.shown-the_row-Stmt-0
shift_too_far = refused (codes "static gint i = 1 >> 32; int main (int argc, char **argv) {  return 0; }") (record { cause = cause.Misfit; at = 16 }) (found (codes "static gint i = 1 >> 32; int main (int argc, char **argv) {  return 0; }") (omega arith)) refl

not_reached : Refused (codes "static gint i = 0 || 1 / 0; int main (int argc, char **argv) {  return 0; }") cause.Misfit 16
unfolding Rattle.c_lexer.specs.Tokens.next_of Rattle.c_lexer.specs.Blanks.blanks_within Rattle.c_lexer.specs.Cut.cut Rattle.c_tree.specs.declared.code.Stmt.TheViews.out-Stmt denote.Hole.Carrier.out Rattle.c_tree.specs.declared.code.Shape.TheViews.out-Shape Rattle.c_tree.specs.declared.code.Shape.TheViews.out-Suffix Rattle.c_tree.specs.declared.code.Shape.TheBlock.shown-the_row-Expr-0 Rattle.c_tree.specs.declared.code.Shape.TheBlock.shown-the_row-Suffix-1 Rattle.c_tree.specs.declared.code.Shape.TheBlock.shown-the_row-Link-2 Rattle.c_tree.specs.declared.code.Shape.TheBlock.shown-the_row-Choice-3 denote.Hole.Carrier.shown denote.Hole.Carrier.hidden Rattle.c_tree.specs.declared.code.Stmt.TheBlock.shown-the_row-Stmt-0
not_reached = refused (codes "static gint i = 0 || 1 / 0; int main (int argc, char **argv) {  return 0; }") (record { cause = cause.Misfit; at = 16 }) (found (codes "static gint i = 0 || 1 / 0; int main (int argc, char **argv) {  return 0; }") (omega arith)) refl

no_function : Refused (codes "static gint v = 1; static const GInterfaceInfo info = { (GInterfaceInitFunc) v, NULL, NULL }; int main (int argc, char **argv) {  return 0; }") cause.Misfit 77
unfolding Rattle.c_lexer.specs.Tokens.next_of Rattle.c_lexer.specs.Blanks.blanks_within Rattle.c_lexer.specs.Cut.cut Rattle.c_tree.specs.declared.code.Stmt.TheViews.out-Stmt denote.Hole.Carrier.out Rattle.c_tree.specs.declared.code.Shape.TheViews.out-Shape Rattle.c_tree.specs.declared.code.Shape.TheViews.out-Suffix Rattle.c_tree.specs.declared.code.Shape.TheBlock.shown-the_row-Expr-0 Rattle.c_tree.specs.declared.code.Shape.TheBlock.shown-the_row-Suffix-1 Rattle.c_tree.specs.declared.code.Shape.TheBlock.shown-the_row-Link-2 Rattle.c_tree.specs.declared.code.Shape.TheBlock.shown-the_row-Choice-3 denote.Hole.Carrier.shown denote.Hole.Carrier.hidden Rattle.c_tree.specs.declared.code.Stmt.TheBlock.shown-the_row-Stmt-0
no_function = refused (codes "static gint v = 1; static const GInterfaceInfo info = { (GInterfaceInitFunc) v, NULL, NULL }; int main (int argc, char **argv) {  return 0; }") (record { cause = cause.Misfit; at = 77 }) (found (codes "static gint v = 1; static const GInterfaceInfo info = { (GInterfaceInitFunc) v, NULL, NULL }; int main (int argc, char **argv) {  return 0; }") (omega arith)) refl

switch_of_a_text : Refused (codes "int main (int argc, char **argv) { switch (\"x\") { default: goto L; } L: ; return 0; }") cause.Misfit 43
unfolding Rattle.c_lexer.specs.Tokens.next_of Rattle.c_lexer.specs.Blanks.blanks_within Rattle.c_lexer.specs.Cut.cut Rattle.c_tree.specs.declared.code.Stmt.TheViews.out-Stmt denote.Hole.Carrier.out Rattle.c_tree.specs.declared.code.Shape.TheViews.out-Shape Rattle.c_tree.specs.declared.code.Shape.TheViews.out-Suffix Rattle.c_tree.specs.declared.code.Shape.TheBlock.shown-the_row-Expr-0 Rattle.c_tree.specs.declared.code.Shape.TheBlock.shown-the_row-Suffix-1 Rattle.c_tree.specs.declared.code.Shape.TheBlock.shown-the_row-Link-2 Rattle.c_tree.specs.declared.code.Shape.TheBlock.shown-the_row-Choice-3 denote.Hole.Carrier.shown denote.Hole.Carrier.hidden Rattle.c_tree.specs.declared.code.Stmt.TheBlock.shown-the_row-Stmt-0
switch_of_a_text = refused (codes "int main (int argc, char **argv) { switch (\"x\") { default: goto L; } L: ; return 0; }") (record { cause = cause.Misfit; at = 43 }) (found (codes "int main (int argc, char **argv) { switch (\"x\") { default: goto L; } L: ; return 0; }") (omega arith)) refl

case_to_nowhere : Refused (codes "int main (int argc, char **argv) { switch (1) { case 2: goto L; default: goto K; } K: ; return 0; }") cause.Undeclared 61
unfolding Rattle.c_lexer.specs.Tokens.next_of Rattle.c_lexer.specs.Blanks.blanks_within Rattle.c_lexer.specs.Cut.cut Rattle.c_tree.specs.declared.code.Stmt.TheViews.out-Stmt denote.Hole.Carrier.out Rattle.c_tree.specs.declared.code.Shape.TheViews.out-Shape Rattle.c_tree.specs.declared.code.Shape.TheViews.out-Suffix Rattle.c_tree.specs.declared.code.Shape.TheBlock.shown-the_row-Expr-0 Rattle.c_tree.specs.declared.code.Shape.TheBlock.shown-the_row-Suffix-1 Rattle.c_tree.specs.declared.code.Shape.TheBlock.shown-the_row-Link-2 Rattle.c_tree.specs.declared.code.Shape.TheBlock.shown-the_row-Choice-3 denote.Hole.Carrier.shown denote.Hole.Carrier.hidden Rattle.c_tree.specs.declared.code.Stmt.TheBlock.shown-the_row-Stmt-0
case_to_nowhere = refused (codes "int main (int argc, char **argv) { switch (1) { case 2: goto L; default: goto K; } K: ; return 0; }") (record { cause = cause.Undeclared; at = 61 }) (found (codes "int main (int argc, char **argv) { switch (1) { case 2: goto L; default: goto K; } K: ; return 0; }") (omega arith)) refl

offset_of_no_field : Refused (codes "int main (int argc, char **argv) { glong n; n = G_STRUCT_OFFSET (GError, name); return 0; }") cause.Undeclared 73
unfolding Rattle.c_lexer.specs.Tokens.next_of Rattle.c_lexer.specs.Blanks.blanks_within Rattle.c_lexer.specs.Cut.cut Rattle.c_tree.specs.declared.code.Stmt.TheViews.out-Stmt denote.Hole.Carrier.out Rattle.c_tree.specs.declared.code.Shape.TheViews.out-Shape Rattle.c_tree.specs.declared.code.Shape.TheViews.out-Suffix Rattle.c_tree.specs.declared.code.Shape.TheBlock.shown-the_row-Expr-0 Rattle.c_tree.specs.declared.code.Shape.TheBlock.shown-the_row-Suffix-1 Rattle.c_tree.specs.declared.code.Shape.TheBlock.shown-the_row-Link-2 Rattle.c_tree.specs.declared.code.Shape.TheBlock.shown-the_row-Choice-3 denote.Hole.Carrier.shown denote.Hole.Carrier.hidden Rattle.c_tree.specs.declared.code.Stmt.TheBlock.shown-the_row-Stmt-0
offset_of_no_field = refused (codes "int main (int argc, char **argv) { glong n; n = G_STRUCT_OFFSET (GError, name); return 0; }") (record { cause = cause.Undeclared; at = 73 }) (found (codes "int main (int argc, char **argv) { glong n; n = G_STRUCT_OFFSET (GError, name); return 0; }") (omega arith)) refl

offset_in_a_number : Refused (codes "int main (int argc, char **argv) { glong n; n = G_STRUCT_OFFSET (gint, name); return 0; }") cause.Misfit 48
unfolding Rattle.c_lexer.specs.Tokens.next_of Rattle.c_lexer.specs.Blanks.blanks_within Rattle.c_lexer.specs.Cut.cut Rattle.c_tree.specs.declared.code.Stmt.TheViews.out-Stmt denote.Hole.Carrier.out Rattle.c_tree.specs.declared.code.Shape.TheViews.out-Shape Rattle.c_tree.specs.declared.code.Shape.TheViews.out-Suffix Rattle.c_tree.specs.declared.code.Shape.TheBlock.shown-the_row-Expr-0 Rattle.c_tree.specs.declared.code.Shape.TheBlock.shown-the_row-Suffix-1 Rattle.c_tree.specs.declared.code.Shape.TheBlock.shown-the_row-Link-2 Rattle.c_tree.specs.declared.code.Shape.TheBlock.shown-the_row-Choice-3 denote.Hole.Carrier.shown denote.Hole.Carrier.hidden Rattle.c_tree.specs.declared.code.Stmt.TheBlock.shown-the_row-Stmt-0
offset_in_a_number = refused (codes "int main (int argc, char **argv) { glong n; n = G_STRUCT_OFFSET (gint, name); return 0; }") (record { cause = cause.Misfit; at = 48 }) (found (codes "int main (int argc, char **argv) { glong n; n = G_STRUCT_OFFSET (gint, name); return 0; }") (omega arith)) refl

deepest : Accepted (codes "int main (int argc, char **argv) { gint i; i = (((((((((((((((((((((((((((((((((((((((((((((((((((((((((((((((1))))))))))))))))))))))))))))))))))))))))))))))))))))))))))))))); return 0; }")
unfolding Rattle.c_lexer.specs.Tokens.next_of Rattle.c_lexer.specs.Blanks.blanks_within Rattle.c_lexer.specs.Cut.cut Rattle.c_tree.specs.declared.code.Stmt.TheViews.out-Stmt denote.Hole.Carrier.out Rattle.c_tree.specs.declared.code.Shape.TheViews.out-Shape Rattle.c_tree.specs.declared.code.Shape.TheViews.out-Suffix Rattle.c_tree.specs.declared.code.Shape.TheBlock.shown-the_row-Expr-0 Rattle.c_tree.specs.declared.code.Shape.TheBlock.shown-the_row-Suffix-1 Rattle.c_tree.specs.declared.code.Shape.TheBlock.shown-the_row-Link-2 Rattle.c_tree.specs.declared.code.Shape.TheBlock.shown-the_row-Choice-3 denote.Hole.Carrier.shown denote.Hole.Carrier.hidden Rattle.c_tree.specs.declared.code.Stmt.TheBlock.shown-the_row-Stmt-0
deepest = accepted (codes "int main (int argc, char **argv) { gint i; i = (((((((((((((((((((((((((((((((((((((((((((((((((((((((((((((((1))))))))))))))))))))))))))))))))))))))))))))))))))))))))))))))); return 0; }") (answer_at 2000 (codes "int main (int argc, char **argv) { gint i; i = (((((((((((((((((((((((((((((((((((((((((((((((((((((((((((((((1))))))))))))))))))))))))))))))))))))))))))))))))))))))))))))))); return 0; }") 1000 (omega arith)) refl

abbrev bad : List ℕ
bad = codes "$"

-- the tokens of a `main` that could follow
abbrev made_main : Word
made_main =
    word (Of (k.Keyword keyword.Int)) [] ∷ word (Of k.Identifier) (codes "main") ∷ word (Of (k.Sign sign.OpenParen)) [] ∷ word (Of (k.Keyword keyword.Int)) [] ∷ word (Of (k.Sign sign.Comma)) []
    ∷ word (Of (k.Keyword keyword.Char)) [] ∷ word (Of (k.Sign sign.Star)) [] ∷ word (Of (k.Sign sign.Star)) [] ∷ word (Of (k.Sign sign.CloseParen)) [] ∷ word (Of (k.Sign sign.Semicolon)) [] ∷ []

begun : (o : Option ((u : CUnit) × ReadsUnit made_main u)) → is_some o ≡ true → Begins 0 []
begun (Some r) e = record { shallow = refl; rest = made_main; items = r.0.items; made = search rules; reads = r.1.items }
begun None e = absurd (no e)

nothing_begins : Begins 0 []
nothing_begins = begun (unit_at 100 made_main) refl

no_token : Refused bad cause.Token 0
unfolding Rattle.c_lexer.specs.Tokens.next_of Rattle.c_lexer.specs.Blanks.blanks_within Rattle.c_lexer.specs.Cut.cut
no_token =
    answer.refused (record { cause = cause.Token; at = 0 }) [] (Some (record { at = 0 })) (omega arith) (lexed.broken (all_of bad) (record { at = 0 }) refl)
    (answer.stopped (Broken 0) [] (record { place = 0; cause = cause.Token; since = 0 }) (record { cause = cause.Token; at = 0 }) (answer.at_broken 0) nothing_begins
    (λ v is h r. refl))

pub accepted_texts : AcceptedTexts
accepted_texts = record { prints = prints; structs = structs; hidden_type = hidden_type; members = members; chains = chains; jumps = jumps; function_types = function_types; pointers_move = pointers_move; not_evaluated = not_evaluated; prototypes = prototypes; integer_types = integer_types; hidden_function = hidden_function; labels_are_apart = labels_are_apart; interface_tables = interface_tables; switches = switches; offsets = offsets; calls = calls; deepest = deepest }

pub refused_texts : RefusedTexts
refused_texts = record { no_main = no_main; undeclared = undeclared; operand = operand; inner_operand = inner_operand; number_of_arguments = number_of_arguments; layout_in_order = layout_in_order; parameter_again = parameter_again; library_name = library_name; constant_ends = constant_ends; constant_overflows = constant_overflows; own_initialiser = own_initialiser; no_label = no_label; value_in_void = value_in_void; no_value = no_value; brackets_count = brackets_count; number_and_pointer = number_and_pointer; no_cells = no_cells; no_field = no_field; other_prototype = other_prototype; struct_again = struct_again; member_again = member_again; row_to_come = row_to_come; format = format; label_again = label_again; result = result; no_tag = no_tag; first_by_place = first_by_place; in_a_block = in_a_block; size_of_unknown = size_of_unknown; undeclared_type = undeclared_type; field_twice = field_twice; second_body = second_body; static_differs = static_differs; variable_again = variable_again; variable_and_function = variable_and_function; call_of_a_number = call_of_a_number; argument = argument; value_before_name = value_before_name; structs_compared = structs_compared; function_types_differ = function_types_differ; cast_of_number = cast_of_number; parameter_names = parameter_names; hidden_again = hidden_again; shift_too_far = shift_too_far; not_reached = not_reached; no_function = no_function; switch_of_a_text = switch_of_a_text; case_to_nowhere = case_to_nowhere; offset_of_no_field = offset_of_no_field; offset_in_a_number = offset_in_a_number; no_token = no_token }
