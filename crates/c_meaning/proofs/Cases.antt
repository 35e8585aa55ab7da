-- `switch`: trees of texts in which it stands for each `if (value) goto L;` of `main`, with L as its default.
use Rattle.std.proofs.Common.{◌≡◌, refl, ℕ, Bool, true, false, List, [], ◌∷◌, codes, pos, Some}
use Rattle.vg_base.specs.declared.event.Event.TheVariants.{Print}
use Rattle.vg_base.specs.declared.event.Stream.TheVariants.{Out}
use Rattle.vg_base.specs.declared.event.CEnd.TheVariants.{Ended}
use Rattle.c_lexer.specs.declared.token.NumberType.TheVariants as y
use Rattle.c_tree.specs.declared.code.Case.{Case}
use Rattle.c_tree.specs.declared.code.Stmt.{Stmt, out-Stmt}
use Rattle.c_tree.specs.declared.code.Stmt.TheVariants as st
use Rattle.c_tree.specs.declared.code.Stmt.TheOpen.{Stmt-F}
use Rattle.c_tree.specs.declared.code.Block.{Block, out-Block, roll-Block}
use Rattle.c_tree.specs.declared.unit.Item.{Item}
use Rattle.c_tree.specs.declared.unit.Item.TheVariants as item
use Rattle.c_tree.specs.declared.unit.Unit.{Unit as CUnit}
use Rattle.c_meaning.proofs.Build.{seen, computed_of, quiet_world, unit}
use Rattle.c_meaning.specs.Runs.{CRun}

abbrev case : Bool → ℕ → List ℕ → Case
case is_negative n x = record { number = record { is_negative = is_negative; number = record { value = n; kind = y.Gint } }; label = record { text = x; span = record { start = 0; end = 0 } } }

abbrev switched_layer : List Case → Stmt-F Stmt Block → Stmt → Stmt
switched_layer cs (Stmt-F.IfGoto a x) s = st.Switch a cs x
switched_layer cs l s = s

abbrev switched_all : List Case → List Stmt → List Stmt
switched_all cs [] = []
switched_all cs (s ∷ ss) = switched_layer cs (out-Stmt s) s ∷ switched_all cs ss

abbrev switched_block : List Case → Block → Block
switched_block cs b = roll-Block (record { locals = (out-Block b).locals; body = switched_all cs (out-Block b).body; span = (out-Block b).span })

abbrev switched_items : List Case → List Item → List Item
switched_items cs [] = []
switched_items cs (item.Function f ∷ is) = item.Function (record f { body = switched_block cs f.body }) ∷ switched_items cs is
switched_items cs (i ∷ is) = i ∷ switched_items cs is

abbrev switched : List Case → CUnit → CUnit
switched cs u = record { items = switched_items cs u.items }

-- 255 as a byte is not -1, since a byte is widened to a number with a sign.
abbrev byte_text : List ℕ
byte_text = codes "int main (int argc, char **argv) { guint8 u; u = 255; if (u) goto C; A: ; g_print (\"a\"); B: ; g_print (\"b\"); C: ; g_print (\"c\"); return 0; }"

abbrev byte_unit : CUnit
byte_unit = switched (case true 1 (codes "A") ∷ case false 255 (codes "B") ∷ case false 255 (codes "A") ∷ []) (unit byte_text)

pub byte : seen (CRun byte_unit quiet_world) 20 ≡ record { trace = Print Out (codes "b") ∷ Print Out (codes "c") ∷ []; ended = Some (Ended (pos 0)); live = [] }
unfolding Rattle.c_lexer.specs.Tokens.next_of Rattle.c_lexer.specs.Blanks.blanks_within Rattle.c_lexer.specs.Cut.cut Rattle.c_tree.specs.declared.code.Stmt.TheViews.out-Stmt denote.Hole.Carrier.out Rattle.c_tree.specs.declared.code.Shape.TheViews.out-Shape Rattle.c_tree.specs.declared.code.Shape.TheViews.out-Suffix Rattle.c_tree.specs.declared.code.Shape.TheBlock.shown-the_row-Expr-0 Rattle.c_tree.specs.declared.code.Shape.TheBlock.shown-the_row-Suffix-1 Rattle.c_tree.specs.declared.code.Shape.TheBlock.shown-the_row-Link-2 Rattle.c_tree.specs.declared.code.Shape.TheBlock.shown-the_row-Choice-3 denote.Hole.Carrier.shown denote.Hole.Carrier.hidden Rattle.c_tree.specs.declared.code.Stmt.TheBlock.shown-the_row-Stmt-0 Rattle.std.specs.Fmt.digits
byte = computed_of byte_unit quiet_world 20 (record { trace = Print Out (codes "b") ∷ Print Out (codes "c") ∷ []; ended = Some (Ended (pos 0)); live = [] }) refl

-- The greatest number without a sign is the case -1, and without a case the default is taken.
abbrev word_text : List ℕ
word_text = codes "int main (int argc, char **argv) { guint u; u = 4294967295; if (u) goto C; A: ; g_print (\"a\"); C: ; u = 7; if (u) goto D; g_print (\"c\"); D: ; return 0; }"

abbrev word_unit : CUnit
word_unit = switched (case true 1 (codes "A") ∷ []) (unit word_text)

pub word : seen (CRun word_unit quiet_world) 20 ≡ record { trace = Print Out (codes "a") ∷ []; ended = Some (Ended (pos 0)); live = [] }
unfolding Rattle.c_lexer.specs.Tokens.next_of Rattle.c_lexer.specs.Blanks.blanks_within Rattle.c_lexer.specs.Cut.cut Rattle.c_tree.specs.declared.code.Stmt.TheViews.out-Stmt denote.Hole.Carrier.out Rattle.c_tree.specs.declared.code.Shape.TheViews.out-Shape Rattle.c_tree.specs.declared.code.Shape.TheViews.out-Suffix Rattle.c_tree.specs.declared.code.Shape.TheBlock.shown-the_row-Expr-0 Rattle.c_tree.specs.declared.code.Shape.TheBlock.shown-the_row-Suffix-1 Rattle.c_tree.specs.declared.code.Shape.TheBlock.shown-the_row-Link-2 Rattle.c_tree.specs.declared.code.Shape.TheBlock.shown-the_row-Choice-3 denote.Hole.Carrier.shown denote.Hole.Carrier.hidden Rattle.c_tree.specs.declared.code.Stmt.TheBlock.shown-the_row-Stmt-0 Rattle.std.specs.Fmt.digits
word = computed_of word_unit quiet_world 20 (record { trace = Print Out (codes "a") ∷ []; ended = Some (Ended (pos 0)); live = [] }) refl
