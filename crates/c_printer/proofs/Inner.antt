-- What can be written within a line: names that are words, numbers within their types, texts of bytes, and no `#`.
use Rattle.std.specs.Prelude.{◌≡◌, true, false, Bool, List, [], ◌∷◌}
use Rattle.c_lexer.specs.declared.token.Sign.{Sign}
use Rattle.c_lexer.specs.declared.token.Sign.TheVariants as sign
use Rattle.c_tree.specs.declared.unit.Include.{Include}
use Rattle.c_tree.specs.declared.unit.Include.TheVariants as include
use Rattle.c_tree.specs.declared.unit.Item.{Item}
use Rattle.c_tree.specs.declared.unit.Item.TheVariants as item
use Rattle.c_tree.specs.Words.{is_file_name}
use Rattle.c_printer.specs.declared.grade.Brackets.{Brackets}
use Rattle.c_printer.specs.Marks.{Mark, Marks, ASign}
use Rattle.c_printer.specs.PutItems.{item_marks}
use Rattle.c_printer.specs.Writable.{IsWritable}

-- whether a sign begins an `#include` line
abbrev pub is_hash : Sign → Bool
is_hash sign.Hash = true
is_hash s = false

-- a mark that can be written and is no `#`
abbrev pub IsInner : Mark → Type 0
IsInner (ASign s) = is_hash s ≡ false
IsInner m = IsWritable m

-- all of them
abbrev pub AreInner : Marks → Type 0
AreInner [] = Unit {0}
AreInner (m ∷ ms) = IsInner m × AreInner ms

-- a file that `#include` can name
abbrev pub IsFile : Include → Type 0
IsFile (include.Own x) = is_file_name x ≡ true
IsFile f = Unit {0}

-- an item whose names are words and whose numbers and texts can be written
abbrev pub IsWritableItem : (style : Brackets) → Item → Type 0
IsWritableItem style (item.Include f) = IsFile f
IsWritableItem style i = AreInner (item_marks style i)

-- all of them
abbrev pub AreWritableItems : (style : Brackets) → List Item → Type 0
AreWritableItems style [] = Unit {0}
AreWritableItems style (i ∷ is) = IsWritableItem style i × (AreWritableItems style) is
