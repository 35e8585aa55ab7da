-- What the laws on the text of C speak of.
use Rattle.std.specs.Prelude.{◌≡◌, ℕ, Bool, true, None}
use Rattle.c_lexer.specs.Tokens.{Tokens, all_of}
use Rattle.c_tree.specs.declared.code.Block.{Block}
use Rattle.c_tree.specs.declared.names.CType.{CType}
use Rattle.c_tree.specs.declared.code.Expr.{Expr}
use Rattle.c_tree.specs.Words.{Word}
use Rattle.c_tree.specs.Names.{Names}
use Rattle.c_tree.specs.Types.{ReadsType}
use Rattle.c_tree.specs.Values.{Reads, Value}
use Rattle.c_tree.specs.Statements.{ReadsBlock}
use Rattle.c_tree.specs.Bare.{bare_type, bare_expr, bare_block}
use Rattle.c_printer.specs.declared.grade.Brackets.{Brackets}
use Rattle.c_printer.specs.Alike.{Alike}
use Rattle.c_printer.specs.Marks.{Marks, word, put_marks}
use Rattle.c_printer.specs.PutStatements.{block_marks}
use Rattle.c_printer.specs.Text.{empty}
use Rattle.c_printer.specs.Writable.{AreWritable, lexemes}
use Rattle.c_printer.specs.PutValues.{type_marks, value_marks}

-- a type that has a reading is read from what is written of it
abbrev pub TypesAreRead : Type 0
TypesAreRead = (ns : Names) (anyhow : Bool) (w : Word) (c : CType) → ReadsType ns anyhow w c → ReadsType ns anyhow (word (type_marks c)) (bare_type c)

-- and so is a value
abbrev pub ValuesAreRead : Type 0
ValuesAreRead = (style : Brackets) (ns : Names) (constant : Bool) (w : Word) (e : Expr) → Reads ns constant Value w e → Reads ns constant Value (word (value_marks style e)) (bare_expr e)

-- and so are declarations and statements
abbrev pub BlocksAreRead : Type 0
BlocksAreRead = (style : Brackets) (ns : Names) (indent : ℕ) (w : Word) (b : Block) → ReadsBlock ns w b → ReadsBlock ns (word (block_marks style b indent)) (bare_block b)

-- the bytes that are written have the tokens that were put, at their places
abbrev pub TokensAreRead : Type 0
TokensAreRead = (ms : Marks) → AreWritable ms → Tokens (all_of (put_marks empty ms).bytes) (lexemes empty true ms) None

-- the same tokens at other places are read as the same block, apart from places
abbrev pub BlocksMove : Type 0
BlocksMove = (ns : Names) (w x : Word) (a : Block) → ReadsBlock ns w a → Alike w x → (b : Block) × ReadsBlock ns x b × (bare_block b ≡ bare_block a)
