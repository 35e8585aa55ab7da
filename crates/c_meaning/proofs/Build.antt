-- Runs of texts that are computed: the tree of a text, and its run with folds that compute.
use Rattle.std.proofs.Common.{◌≡◌, ◌∙◌, ap, ℕ, List, [], ◌++◌, codes, Option, Some, None}
use Rattle.vg_base.specs.World.{World}
use Rattle.vg_base.specs.declared.event.Entry.{Entry}
use Rattle.vg_base.specs.declared.event.Event.{Event}
use Rattle.vg_base.specs.declared.event.CEnd.{CEnd}
use Rattle.vg_base.specs.declared.event.LiveRow.{LiveRow}
use Rattle.vg_base.specs.Headline.{Observed}
use Rattle.c_lexer.specs.Tokens.{all_of}
use Rattle.c_tree.specs.declared.unit.Item.{Item}
use Rattle.c_tree.specs.declared.unit.Unit.{Unit as CUnit}
use Rattle.c_tree.specs.declared.code.Local.{Local}
use Rattle.c_tree.specs.Library.{later_rows}
use Rattle.c_tree.specs.Names.{Names, library_names, row_names}
use Rattle.c_tree.specs.Words.{words}
use Rattle.c_tree.proofs.FindUnits.{Lexed, lex, WholeItems, items_at}
use Rattle.c_meaning.specs.State.{Literal}
use Rattle.c_meaning.specs.Values.{Meant, PartSuffix, PartChoice, Part, PartLink, mean_shape, mean_suffix, mean_choice, mean_expr, mean_link}
use Rattle.c_meaning.specs.Code.{Reading, reading, Coded, stmt_locals, block_locals, stmt_code, block_code, shape_texts, suffix_texts, choice_texts, expr_texts, operand_texts, stmt_texts, texts_in}
use Rattle.c_meaning.specs.Runs.{run_by, CRun}
use Rattle.c_meaning.proofs.Peel.{peeled, is_peeled, peeled_block, is_peeled_block}

-- 1. Folds that compute

abbrev pub reading_of : ℕ → Reading
reading_of n =
    record {
      meant = peeled Meant PartSuffix PartChoice Part PartLink mean_shape mean_suffix mean_choice mean_expr mean_link n;
      locals = peeled_block (List Local) (List Local) stmt_locals block_locals n;
      code = peeled_block Coded Coded stmt_code block_code n;
      texts = peeled (ℕ → List Literal) (List Literal) (List Literal) (List Literal) (List Literal) shape_texts suffix_texts choice_texts expr_texts operand_texts n;
      block_texts = λ of. peeled_block (List Literal) (List Literal) (stmt_texts of) texts_in n;
    }

pub same_reading : (n : ℕ) → reading ≡ reading_of n
same_reading n = λ i.
    record {
      meant = is_peeled Meant PartSuffix PartChoice Part PartLink mean_shape mean_suffix mean_choice mean_expr mean_link n i;
      locals = is_peeled_block (List Local) (List Local) stmt_locals block_locals n i;
      code = is_peeled_block Coded Coded stmt_code block_code n i;
      texts = is_peeled (ℕ → List Literal) (List Literal) (List Literal) (List Literal) (List Literal) shape_texts suffix_texts choice_texts expr_texts operand_texts n i;
      block_texts = λ of. is_peeled_block (List Literal) (List Literal) (stmt_texts of) texts_in n i;
    }

-- 2. Trees of texts

-- all functions of the library can be named
abbrev pub names : Names
names = row_names later_rows ++ library_names

abbrev items_in : {w : _} → Option (WholeItems names w) → List Item
items_in None = []
items_in (Some is) = is.0

abbrev items_lexed : {l : _} → ℕ → Option (Lexed l) → List Item
items_lexed f None = []
items_lexed f (Some ts) = items_in (items_at f names (words ts.0))

-- the unit of a text
abbrev pub unit : List ℕ → CUnit
unit bytes = record { items = items_lexed 200 (lex 2000 (all_of bytes)) }

-- 3. What is computed of a run: its trace after so many steps, its end, and what lives then

pub record Seen : Type 0 where
  pub trace : List Event
  pub ended : Option CEnd
  pub live : List LiveRow

abbrev pub seen : Observed CEnd → ℕ → Seen
seen o n = record { trace = o.trace n; ended = o.ended n; live = o.live n }

abbrev pub Runs : List ℕ → World → ℕ → List Event → Option CEnd → List LiveRow → Type 0
Runs text w n trace e rows = seen (CRun (unit text) w) n ≡ record { trace = trace; ended = e; live = rows }

-- a run by folds that compute is the run
pub computed_of : (u : CUnit) (w : World) (n : ℕ) (x : Seen) → seen (run_by (reading_of 64) u w) n ≡ x → seen (CRun u w) n ≡ x
computed_of u w n x e = ap (λ (r : Reading). seen (run_by r u w) n) (same_reading 64) ∙ e

pub computed : (text : List ℕ) (w : World) (n : ℕ) (x : Seen) → seen (run_by (reading_of 64) (unit text) w) n ≡ x → seen (CRun (unit text) w) n ≡ x
computed text w n x e = computed_of (unit text) w n x e

abbrev pub quiet_world : World
quiet_world = record { name = codes "a"; input = []; entries = [] }

abbrev pub scripted : List Entry → World
scripted entries = record { name = codes "a"; input = []; entries = entries }
