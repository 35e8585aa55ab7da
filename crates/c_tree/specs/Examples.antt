-- Texts and their answers.
use Rattle.std.specs.Prelude.{ℕ, List, codes, Ok, Err}
use Rattle.c_tree.specs.declared.kinds.Cause.{Cause}
use Rattle.c_tree.specs.declared.kinds.Cause.TheVariants as cause
use Rattle.c_tree.specs.declared.unit.Unit.{Unit as CUnit}
use Rattle.c_tree.specs.Answers.{Answers}

-- a text of a unit that keeps every rule
abbrev pub Accepted : List ℕ → Type 0
Accepted bytes = (u : CUnit) × Answers bytes 1000 (Ok u)

-- a text that is refused by a cause at a place
abbrev pub Refused : List ℕ → Cause → ℕ → Type 0
Refused bytes c at = Answers bytes 1000 (Err (record { cause = c; at = at }))

-- texts of units that keep every rule
pub record AcceptedTexts : Type 0 where
  pub prints : Accepted (codes "#include <glib.h>\nint main (int argc, char **argv) { g_print (\"hi\"); return 0; }")
  pub structs : Accepted (codes "typedef struct _P P; struct _P { gint x; P *next; }; gint f (P *p) { return p->next->x; } int main (int argc, char **argv) { P p; gint i; p.x = 1; i = f (&p); return 0; }")
  pub hidden_type : Accepted (codes "int main (int argc, char **argv) { gint *gint; gint = NULL; *gint = 1; return 0; }")
  pub members : Accepted (codes "typedef enum { A = -1, B = 2 } E; static E v = B; int main (int argc, char **argv) { v = A; return 0; }")
  pub chains : Accepted (codes "int main (int argc, char **argv) { gint a; guint8 b; a = (gint) 5U << 2 | ~1 & - - 3; b = a ? 1 : a > 2 ? 3 : 4; return 0; }")
  pub jumps : Accepted (codes "int main (int argc, char **argv) { gint a; a = 1; L: ; if (a > 0) { a = a - 1; } else { goto K; } if (a) goto L; K: ; return 0; }")
  pub function_types : Accepted (codes "typedef gint (*F) (void); typedef gint (*G) (void); gint h (void) { return 1; } int main (int argc, char **argv) { F f; G g; gint i; f = h; g = f; i = g (); return 0; }")
  pub pointers_move : Accepted (codes "int main (int argc, char **argv) { gchar *s; glong n; s = \"abc\" + 1; n = s - s; s[n] = *s; return 0; }")
  pub not_evaluated : Accepted (codes "static gint i = 1 || 1 / 0; static gint j = 0 ? 1 / 0 : 2; int main (int argc, char **argv) { i = j; return 0; }")
  pub prototypes : Accepted (codes "gint f (gint); gint f (gint a); gint f (gint b) { return b; } gint f (gint); int main (int argc, char **argv) { f (1); return 0; }")
  pub integer_types : Accepted (codes "typedef enum { A = 4294967295 } E; gint f (E *p) { return *p; } int main (int argc, char **argv) { gint i; i = f (&i); i = 1U > -1L; return 0; }")
  pub hidden_function : Accepted (codes "gint f (void); int main (int argc, char **argv) { gint f; f = 1; return 0; }")
  pub labels_are_apart : Accepted (codes "int main (int argc, char **argv) { gint gint; gint = 1; gint: ; if (gint) { gchar *gint; gint = \"x\"; } goto gint; return 0; }")
  pub interface_tables : Accepted (codes "#include \"own.h\"\n#include <gio/gio.h>\n\nvoid init (gpointer p) { } static const GInterfaceInfo info = { (GInterfaceInitFunc) init, NULL, NULL }; int main (int argc, char **argv) { const GInterfaceInfo *p; p = &info; return 0; }")
  pub switches : Accepted (codes "int main (int argc, char **argv) { guchar u; u = 255; switch (u) { case -1: goto A; case 255: goto B; default: goto A; } A: ; B: ; return 0; }")
  pub offsets : Accepted (codes "static glong at = G_STRUCT_OFFSET (GObjectClass, finalize) - 4 / sizeof (GTypeClass *); int main (int argc, char **argv) { GObjectClass *c; c = NULL; if (at == 0) { c->finalize (NULL); } return 0; }")
  pub calls : Accepted (codes "typedef void (*F) (gint, gchar); void f (gint a, gchar b) { return; } int main (int argc, char **argv) { F *p; F g; g = (F) f; p = &g; (*p) (1, 'x'); g (2, '\\000'); return 0; }")
  pub deepest : Accepted (codes "int main (int argc, char **argv) { gint i; i = (((((((((((((((((((((((((((((((((((((((((((((((((((((((((((((((1))))))))))))))))))))))))))))))))))))))))))))))))))))))))))))))); return 0; }")

-- texts that are refused
pub record RefusedTexts : Type 0 where
  pub no_main : Refused (codes "gint f (void) { return 1; }") cause.Syntax 27
  pub undeclared : Refused (codes "int main (int argc, char **argv) { a = 1; return 0; }") cause.Undeclared 35
  pub operand : Refused (codes "int main (int argc, char **argv) { gchar *s; gint i; s = NULL; i = 1 + s * 2; return 0; }") cause.Misfit 71
  pub inner_operand : Refused (codes "int main (int argc, char **argv) { gint i; i = 1 + (\"a\" * 2); return 0; }") cause.Misfit 52
  pub number_of_arguments : Refused (codes "gint f (gint a); int main (int argc, char **argv) { gint i; i = f (zz, 1); return 0; }") cause.Misfit 64
  pub layout_in_order : Refused (codes "typedef struct _P P; gint f (P *p) { return p->x; } struct _P { gint x; }; int main (int argc, char **argv) {  return 0; }") cause.Misfit 44
  pub parameter_again : Refused (codes "gint f (gint a) { gint a; return 1; } int main (int argc, char **argv) {  return 0; }") cause.Twice 23
  pub library_name : Refused (codes "typedef struct _GObject GObject; int main (int argc, char **argv) {  return 0; }") cause.Twice 24
  pub constant_ends : Refused (codes "static gint i = 1 / 0; int main (int argc, char **argv) {  return 0; }") cause.Misfit 16
  pub constant_overflows : Refused (codes "static gint i = 2147483647 + 1; int main (int argc, char **argv) {  return 0; }") cause.Misfit 16
  pub own_initialiser : Refused (codes "static gint i = i; int main (int argc, char **argv) {  return 0; }") cause.Undeclared 16
  pub no_label : Refused (codes "int main (int argc, char **argv) { goto L; return 0; }") cause.Undeclared 40
  pub value_in_void : Refused (codes "void f (void) { return 1; } int main (int argc, char **argv) {  return 0; }") cause.Misfit 16
  pub no_value : Refused (codes "int main (int argc, char **argv) { return; return 0; }") cause.Misfit 35
  pub brackets_count : Refused (codes "int main (int argc, char **argv) { gint i; i = (\"x\"); return 0; }") cause.Misfit 47
  pub number_and_pointer : Refused (codes "int main (int argc, char **argv) { gchar *s; s = 1 + s; return 0; }") cause.Misfit 49
  pub no_cells : Refused (codes "typedef struct _P P; int main (int argc, char **argv) { P p; return 0; }") cause.Misfit 58
  pub no_field : Refused (codes "typedef struct _P P; struct _P { gint x; }; int main (int argc, char **argv) { P p; p.y = 1; return 0; }") cause.Undeclared 86
  pub other_prototype : Refused (codes "gint f (void); gint f (gint a); int main (int argc, char **argv) {  return 0; }") cause.Twice 20
  pub struct_again : Refused (codes "typedef struct _P P; struct _P { gint x; }; struct _P { gint x; }; int main (int argc, char **argv) {  return 0; }") cause.Twice 51
  pub member_again : Refused (codes "typedef enum { A = 1, A = 2 } E; int main (int argc, char **argv) {  return 0; }") cause.Twice 22
  pub row_to_come : Refused (codes "int main (int argc, char **argv) { g_object_unref (NULL); return 0; }") cause.Undeclared 35
  pub format : Refused (codes "int main (int argc, char **argv) { g_print (1); return 0; }") cause.Misfit 44
  pub label_again : Refused (codes "int main (int argc, char **argv) { L: ; L: ; return 0; }") cause.Twice 40
  pub result : Refused (codes "gint f (void); int main (int argc, char **argv) { gchar *s; s = f (); return 0; }") cause.Misfit 64
  pub no_tag : Refused (codes "struct _X { gint a; }; int main (int argc, char **argv) {  return 0; }") cause.Undeclared 7
  pub first_by_place : Refused (codes "int main (int argc, char **argv) { gchar *s; gint i; i = \"x\"; zz = 1; return 0; }") cause.Misfit 57
  pub in_a_block : Refused (codes "int main (int argc, char **argv) { { gint a; a = 1; } a = 2; return 0; }") cause.Undeclared 54
  pub size_of_unknown : Refused (codes "typedef struct _P P; int main (int argc, char **argv) { gint i; i = sizeof (P); return 0; }") cause.Misfit 68
  pub undeclared_type : Refused (codes "int main (int argc, char **argv) { Foo *p; p = NULL; return 0; }") cause.Undeclared 35
  pub field_twice : Refused (codes "typedef struct _P P; struct _P { gint x; gchar *x; }; int main (int argc, char **argv) {  return 0; }") cause.Twice 48
  pub second_body : Refused (codes "gint f (void) { return 1; } gint f (void) { return 2; } int main (int argc, char **argv) {  return 0; }") cause.Twice 33
  pub static_differs : Refused (codes "gint f (void); static gint f (void) { return 2; } int main (int argc, char **argv) {  return 0; }") cause.Twice 27
  pub variable_again : Refused (codes "static gint a = 1; static gint a = 2; int main (int argc, char **argv) {  return 0; }") cause.Twice 31
  pub variable_and_function : Refused (codes "gint a (void); static gint a = 2; int main (int argc, char **argv) {  return 0; }") cause.Twice 27
  pub call_of_a_number : Refused (codes "int main (int argc, char **argv) { gint i; i (1); return 0; }") cause.Misfit 43
  pub argument : Refused (codes "gint f (gint a); int main (int argc, char **argv) { f (\"x\"); return 0; }") cause.Misfit 55
  pub value_before_name : Refused (codes "int main (int argc, char **argv) { gint i; i = 1 - \"x\" + zz; return 0; }") cause.Misfit 47
  pub structs_compared : Refused (codes "typedef struct _P P; struct _P { gint x; }; int main (int argc, char **argv) { P p; P q; gint i; i = p == q; return 0; }") cause.Misfit 101
  pub function_types_differ : Refused (codes "typedef gint (*F) (void); typedef void (*G) (void); int main (int argc, char **argv) { F f; G g; g = NULL; f = g; return 0; }") cause.Misfit 111
  pub cast_of_number : Refused (codes "int main (int argc, char **argv) { gpointer p; p = (gpointer) 1; return 0; }") cause.Misfit 51
  pub parameter_names : Refused (codes "gint f (gint a, gint a); int main (int argc, char **argv) {  return 0; }") cause.Twice 21
  pub hidden_again : Refused (codes "int main (int argc, char **argv) { gint a; gint a; return 0; }") cause.Twice 48
  pub shift_too_far : Refused (codes "static gint i = 1 >> 32; int main (int argc, char **argv) {  return 0; }") cause.Misfit 16
  pub not_reached : Refused (codes "static gint i = 0 || 1 / 0; int main (int argc, char **argv) {  return 0; }") cause.Misfit 16
  pub no_function : Refused (codes "static gint v = 1; static const GInterfaceInfo info = { (GInterfaceInitFunc) v, NULL, NULL }; int main (int argc, char **argv) {  return 0; }") cause.Misfit 77
  pub switch_of_a_text : Refused (codes "int main (int argc, char **argv) { switch (\"x\") { default: goto L; } L: ; return 0; }") cause.Misfit 43
  pub case_to_nowhere : Refused (codes "int main (int argc, char **argv) { switch (1) { case 2: goto L; default: goto K; } K: ; return 0; }") cause.Undeclared 61
  pub offset_of_no_field : Refused (codes "int main (int argc, char **argv) { glong n; n = G_STRUCT_OFFSET (GError, name); return 0; }") cause.Undeclared 73
  pub offset_in_a_number : Refused (codes "int main (int argc, char **argv) { glong n; n = G_STRUCT_OFFSET (gint, name); return 0; }") cause.Misfit 48
  pub no_token : Refused (codes "$") cause.Token 0
