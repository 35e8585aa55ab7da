-- The types of small units, computed: a table for each unit.
use Rattle.std.proofs.Common.{◌≡◌, refl, ℕ, Bool, true, false, List, [], ◌∷◌, ◌++◌, codes, map}
use Rattle.c_tree.specs.declared.names.Base.{Base}
use Rattle.c_tree.specs.declared.names.Base.TheVariants as base
use Rattle.c_tree.specs.declared.names.CType.{CType}
use Rattle.c_tree.specs.declared.unit.Unit.{Unit as CUnit}
use Rattle.c_tree.specs.Bare.{nowhere}
use Rattle.c_meaning.specs.Layout.{cells, is_laid_out}
use Rattle.c_meaning.proofs.Build.{unit}

-- a type by its base and its stars
abbrev pub type : Base → ℕ → CType
type b n = record { base = b; is_const = false; stars = n; span = nowhere }

-- a type by its name
abbrev pub named : List ℕ → ℕ → CType
named x n = type (base.Named (record { text = x; span = nowhere })) n

-- what is asked of a type: whether it is laid out, and its cells
abbrev pub asked : CUnit → CType → Bool × ℕ
asked u c = (is_laid_out u c, cells u c)

-- 1. What every unit has

abbrev empty : CUnit
empty = record { items = [] }

numbers : map (asked empty) (type base.Int 0 ∷ type base.Char 0 ∷ named (codes "guint64") 0 ∷ named (codes "gpointer") 0 ∷ [])
    ≡ (true, 1) ∷ (true, 1) ∷ (true, 1) ∷ (true, 1) ∷ []
numbers = refl

-- of `void` there are pointers alone
voids : map (asked empty) (type base.Void 1 ∷ type base.Void 2 ∷ []) ≡ (true, 1) ∷ (true, 1) ∷ []
voids = refl

void_is_not : is_laid_out empty (type base.Void 0) ≡ false
void_is_not = refl

functions : map (asked empty) (named (codes "GCallback") 0 ∷ named (codes "GCallback") 1 ∷ []) ≡ (true, 1) ∷ (true, 1) ∷ []
functions = refl

-- the structs of the library, one of which has another as its first field
library_structs : map (asked empty) (named (codes "GObject") 0 ∷ named (codes "GError") 0 ∷ named (codes "GObjectClass") 0 ∷ named (codes "GObject") 1 ∷ [])
    ≡ (true, 2) ∷ (true, 3) ∷ (true, 5) ∷ (true, 1) ∷ []
library_structs = refl

-- what is not declared has no pointers either
undeclared : map (is_laid_out empty) (named (codes "P") 0 ∷ named (codes "P") 1 ∷ []) ≡ false ∷ false ∷ []
undeclared = refl

-- a function of the library is no type
no_type : is_laid_out empty (named (codes "g_print") 0) ≡ false
no_type = refl

-- 2. Structs of a unit

-- A list of numbers, a struct with two structs, a function and a pointer to itself in it, and a struct that is defined nowhere.
abbrev structs_text : List ℕ
structs_text =
    codes "typedef struct _L L; typedef struct _P P; typedef struct _Q Q; typedef gint (*F) (Q *q, L *l); typedef enum { A = 1 } E; "
    ++ codes "struct _L { gint x; L *next; }; "
    ++ codes "struct _P { L a; F f; L b; P *p; const gchar *t; E e; }; "
    ++ codes "static gint v = 1; "

structs : map (asked (unit structs_text)) (named (codes "L") 0 ∷ named (codes "P") 0 ∷ named (codes "P") 1 ∷ named (codes "F") 0 ∷ named (codes "E") 0 ∷ [])
    ≡ (true, 2) ∷ (true, 8) ∷ (true, 1) ∷ (true, 1) ∷ (true, 1) ∷ []
unfolding Rattle.c_lexer.specs.Tokens.next_of Rattle.c_lexer.specs.Blanks.blanks_within Rattle.c_lexer.specs.Cut.cut
structs = refl

-- a struct without a definition has pointers alone
undefined : map (is_laid_out (unit structs_text)) (named (codes "Q") 0 ∷ named (codes "Q") 1 ∷ []) ≡ false ∷ true ∷ []
unfolding Rattle.c_lexer.specs.Tokens.next_of Rattle.c_lexer.specs.Blanks.blanks_within Rattle.c_lexer.specs.Cut.cut
undefined = refl

-- a variable and a tag are no types
no_types : map (is_laid_out (unit structs_text)) (named (codes "v") 0 ∷ named (codes "_L") 0 ∷ named (codes "A") 0 ∷ []) ≡ false ∷ false ∷ false ∷ []
unfolding Rattle.c_lexer.specs.Tokens.next_of Rattle.c_lexer.specs.Blanks.blanks_within Rattle.c_lexer.specs.Cut.cut
no_types = refl
