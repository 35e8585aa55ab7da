-- What the laws of the grammar speak of.
use Rattle.std.specs.Prelude.{◌≡◌, ℕ, ◌<◌, Bool, true, false, List, None, ◌↔◌, []}
use Rattle.predictive_grammar.specs.Follows.{raw, Reads}
use Rattle.predictive_grammar.specs.Follows as letters
use Rattle.predictive_grammar.specs.Steps.{Limits, Parser}
use Rattle.predictive_grammar.specs.Reading.{reader}
use Rattle.predictive_grammar.specs.Exact.{IsText, IsWithin, Answers}
use Rattle.mending_readers.specs.Mending.{Going, Mends}
use Rattle.c_tree.specs.declared.names.CType.{CType}
use Rattle.c_tree.specs.declared.code.Expr.{Expr}
use Rattle.c_tree.specs.declared.code.Stmt.{Stmt}
use Rattle.c_tree.specs.declared.code.Block.{Block}
use Rattle.c_tree.specs.declared.unit.Item.{Item}
use Rattle.c_tree.specs.Words.{Token, Word, start_of, is_shallow}
use Rattle.c_tree.specs.Names.{Names}
use Rattle.c_tree.specs.Types.{ReadsType, is_object}
use Rattle.c_tree.specs.Values as v
use Rattle.c_tree.specs.Statements.{ReadsStmt, ReadsBlock}
use Rattle.c_tree.specs.Items.{ReadsItems}
use Rattle.c_grammar.specs.Parts.{What, Part, tree_of, at, AnyType, Value, Statement, BlockOf, ItemsOf}
use Rattle.c_grammar.specs.Grammar.{C, forms}
use Rattle.c_grammar.specs.Tables.{tables}
use Rattle.c_grammar.specs.Mending.{c_mender}

-- what the tokens from here on say of a part
abbrev pub c_reader : Limits → (p : Part) → ℕ → Parser ⊥ Token (tree_of p.what)
c_reader limits = reader C forms tables.top tables.rank limits

-- The reader of each part answers what the grammar says: the tree as far as a text goes, or the first fault.
abbrev pub ReadsExactly : Type 0
ReadsExactly = (p : Part) (level : ℕ) (limits : Limits) (input : List Token) → Answers C forms p level limits input (c_reader limits p level input)

-- Texts of a part with the same tokens have the same tree.
abbrev pub HasOneTree : Type 0
HasOneTree = (p : Part) (level : ℕ) (u w : letters.Word C) (a b : tree_of p.what) → raw u ≡ raw w → Reads C forms None p level u a → Reads C forms None p level w b → a ≡ b

-- the tokens are a text of what is read among these names, and have this tree
abbrev pub Told : Names → ℕ → (q : What) → Word → tree_of q → Type 0
Told ns level q w x = IsText C forms (at ns q) level w x

-- The texts of types are those of c_tree, with the same trees, at every level.
abbrev pub TypesAreTold : Type 0
TypesAreTold = (ns : Names) (anyhow object : Bool) (level : ℕ) (w : Word) (c : CType) → Told ns level (AnyType anyhow object) w c ↔ (ReadsType ns anyhow w c × (object ≡ true → is_object c ≡ true))

-- the same of values, and of constants
abbrev pub ValuesAreTold : Type 0
ValuesAreTold = (ns : Names) (constant : Bool) (level : ℕ) (w : Word) (e : Expr) → Told ns level (Value constant) w e ↔ v.Reads ns constant v.Value w e

-- the same of statements
abbrev pub StatementsAreTold : Type 0
StatementsAreTold = (ns : Names) (level : ℕ) (w : Word) (s : Stmt) → Told ns level Statement w s ↔ ReadsStmt ns w s

-- the same of blocks
abbrev pub BlocksAreTold : Type 0
BlocksAreTold = (ns : Names) (level : ℕ) (w : Word) (b : Block) → Told ns level BlockOf w b ↔ ReadsBlock ns w b

-- the same of items
abbrev pub ItemsAreTold : Type 0
ItemsAreTold = (ns : Names) (level : ℕ) (w : Word) (is : List Item) → Told ns level (ItemsOf false) w is ↔ ReadsItems ns w is

-- no level of a letter is over 64, and no letter begins a further item of a list
abbrev pub c_limits : Limits
c_limits = record { levels = 65; items = 1 }

-- The levels of a text of items are within the limits exactly where no more than 64 brackets are open anywhere.
abbrev pub LevelsAreCounted : Type 0
LevelsAreCounted = (ns : Names) (w : letters.Word C) (is : List Item) → Reads C forms None (at ns (ItemsOf false)) 0 w is → IsWithin c_limits w ↔ (is_shallow [] (raw w) ≡ true)

-- the token stands behind the place where a text with this end stops at these tokens
abbrev pub IsBehind : (end : ℕ) → (rest : Word) → Token → Type 0
IsBehind «end» rest t = (start_of «end» rest < t.start) × (start_of «end» rest < t.end)

-- The mending reader of each part gives the tree that its reader reads; or where that finds a fault, the tree of a text that begins with the tokens
-- in front and goes on with tokens behind that place.
abbrev pub TextsAreMended : Type 0
TextsAreMended = (end : ℕ) (p : Part) (level : ℕ) (limits : Limits) (input : List Token)
    → Mends C forms p level limits (c_reader limits p level) (IsBehind «end») input (c_mender «end» limits p level (Going input))
