-- The text literals of the parts of values and of statements.
use Rattle.std.specs.Prelude.{ℕ, List}
use Rattle.c_tree.specs.declared.code.Shape.{Shape}
use Rattle.c_tree.specs.declared.code.Suffix.{Suffix}
use Rattle.c_tree.specs.declared.code.Choice.{Choice}
use Rattle.c_tree.specs.declared.code.Link.{Link}
use Rattle.c_tree.specs.declared.code.Stmt.{Stmt}
use Rattle.c_tree.specs.declared.code.Shape.TheFolds.{fold-Shape, fold-Suffix, fold-Choice, fold-Link}
use Rattle.c_tree.specs.declared.code.Stmt.TheFolds.{fold-Stmt}
use Rattle.c_meaning.specs.State.{Literal}
use Rattle.c_meaning.specs.Code.{shape_texts, suffix_texts, choice_texts, expr_texts, operand_texts, stmt_texts, texts_in, texts_of}

-- of a shape, by where it stands
abbrev pub shape_literals : Shape → ℕ → List Literal
shape_literals = fold-Shape (ℕ → List Literal) (List Literal) (List Literal) (List Literal)
    (List Literal) shape_texts suffix_texts choice_texts expr_texts operand_texts

-- of a suffix
abbrev pub suffix_literals : Suffix → List Literal
suffix_literals = fold-Suffix (ℕ → List Literal) (List Literal) (List Literal) (List Literal)
    (List Literal) shape_texts suffix_texts choice_texts expr_texts operand_texts

-- of a choice
abbrev pub choice_literals : Choice → List Literal
choice_literals = fold-Choice (ℕ → List Literal) (List Literal) (List Literal) (List Literal)
    (List Literal) shape_texts suffix_texts choice_texts expr_texts operand_texts

-- of an operator and its operand
abbrev pub link_literals : Link → List Literal
link_literals = fold-Link (ℕ → List Literal) (List Literal) (List Literal) (List Literal)
    (List Literal) shape_texts suffix_texts choice_texts expr_texts operand_texts

-- of a statement
abbrev pub stmt_literals : Stmt → List Literal
stmt_literals = fold-Stmt (List Literal) (List Literal) (stmt_texts texts_of) texts_in
