-- How items and units are written.
use Rattle.std.specs.Prelude.{ℕ, Bool, true, false, if◌then◌else◌, List, [], ◌∷◌, ◌++◌, codes, Option, Some, None}
use Rattle.c_lexer.specs.declared.token.Constant.TheVariants as constant
use Rattle.c_lexer.specs.declared.token.Keyword.TheVariants as keyword
use Rattle.c_lexer.specs.declared.token.Sign.{Sign}
use Rattle.c_lexer.specs.declared.token.Sign.TheVariants as sign
use Rattle.c_tree.specs.declared.names.CType.{CType}
use Rattle.c_tree.specs.declared.names.Name as tree
use Rattle.c_tree.specs.declared.code.Expr.{Expr}
use Rattle.c_tree.specs.declared.unit.Enumeration.{Enumeration}
use Rattle.c_tree.specs.declared.unit.Function.{Function as Definition}
use Rattle.c_tree.specs.declared.unit.Include.{Include}
use Rattle.c_tree.specs.declared.unit.Include.TheVariants as include
use Rattle.c_tree.specs.declared.unit.InterfaceTable.{InterfaceTable}
use Rattle.c_tree.specs.declared.unit.Item.{Item}
use Rattle.c_tree.specs.declared.unit.Item.TheVariants as item
use Rattle.c_tree.specs.declared.unit.Member.{Member}
use Rattle.c_tree.specs.declared.unit.Parameter.{Parameter}
use Rattle.c_tree.specs.declared.unit.Signature.{Signature}
use Rattle.c_tree.specs.declared.unit.StaticVariable.{StaticVariable}
use Rattle.c_tree.specs.declared.unit.StructDefinition.{StructDefinition}
use Rattle.c_tree.specs.declared.unit.Unit.{Unit as CUnit}
use Rattle.c_printer.specs.declared.grade.Brackets.{Brackets}
use Rattle.c_printer.specs.declared.group.Group.{Group}
use Rattle.c_printer.specs.declared.group.Group.TheVariants.{Includes, Types, Prototypes, Variables, Long}
use Rattle.c_printer.specs.Marks.{Marks, Name, AKeyword, AConstant, Chars, ASign, Space, Line}
use Rattle.c_printer.specs.PutValues.{type_marks, value_marks, spaced}
use Rattle.c_printer.specs.PutStatements.{declared_marks, name_ended, locals_marks, number_marks, close_marks, block_marks}

-- 1. Included files

-- two words, and a sign between them
abbrev pub two_words : List ℕ → Sign → List ℕ → Marks
two_words x s y = Name x ∷ ASign s ∷ Name y ∷ []

-- `"NAME.h"`
abbrev pub own_marks : List ℕ → Marks
own_marks x = Chars (x ++ codes ".h") ∷ []

-- the words in the name of a file of the system
abbrev pub file_words : Include → Marks
file_words include.Glib = Name (codes "glib") ∷ []
file_words include.GlibObject = two_words (codes "glib") sign.Minus (codes "object")
file_words include.Gio = two_words (codes "gio") sign.Slash (codes "gio")
file_words include.String = Name (codes "string") ∷ []
file_words include.Stdlib = Name (codes "stdlib") ∷ []
file_words (include.Own x) = []

-- `.h>`
abbrev pub header_end_marks : Marks
header_end_marks = ASign sign.Dot ∷ Name (codes "h") ∷ ASign sign.Greater ∷ []

-- `<glib.h>`
abbrev pub system_marks : Include → Marks
system_marks f = ASign sign.Less ∷ file_words f ++ header_end_marks

-- `<glib.h>` and its kin, and `"NAME.h"`
abbrev pub file_marks : Include → Marks
file_marks (include.Own x) = own_marks x
file_marks f = system_marks f

-- `#include <glib.h>`
abbrev pub include_marks : Include → Marks
include_marks f = ASign sign.Hash ∷ Name (codes "include") ∷ Space ∷ file_marks f

-- 2. Types

-- `_X`
abbrev pub tag_mark : tree.Name → Marks
tag_mark x = Name (95 ∷ x.text) ∷ []

-- `struct _X`
abbrev pub struct_marks : tree.Name → Marks
struct_marks x = AKeyword keyword.Struct ∷ Space ∷ tag_mark x

-- `typedef struct _X X;`
abbrev pub struct_type_marks : tree.Name → Marks
struct_type_marks x = AKeyword keyword.Typedef ∷ Space ∷ struct_marks x ++ Space ∷ name_ended x

-- `};`
abbrev pub closed_marks : Marks
closed_marks = close_marks 0 ++ ASign sign.Semicolon ∷ []

-- `struct _X { fields };`, each field on a line
abbrev pub fields_marks : StructDefinition → Marks
fields_marks s = struct_marks s.name ++ Space ∷ ASign sign.OpenBrace ∷ locals_marks 4 s.fields ++ closed_marks

-- `A = 1`
abbrev pub member_marks : Member → Marks
member_marks m = Name m.name.text ∷ spaced sign.Assign ++ number_marks m.number

-- the same on a line
abbrev pub member_line : Member → Marks
member_line m = Line 4 ∷ member_marks m

-- a member behind another
abbrev pub next_member_marks : Member → Marks
next_member_marks m = ASign sign.Comma ∷ member_line m

-- the members behind the first
abbrev pub more_members_marks : List Member → Marks
more_members_marks [] = []
more_members_marks (m ∷ ms) = next_member_marks m ++ more_members_marks ms

-- all of them
abbrev pub members_marks : List Member → Marks
members_marks [] = []
members_marks (m ∷ ms) = member_line m ++ more_members_marks ms

-- `typedef enum {`
abbrev pub enum_start_marks : Marks
enum_start_marks = AKeyword keyword.Typedef ∷ Space ∷ AKeyword keyword.Enum ∷ Space ∷ ASign sign.OpenBrace ∷ []

-- `} X;`
abbrev pub enum_end_marks : tree.Name → Marks
enum_end_marks x = close_marks 0 ++ Space ∷ name_ended x

-- `typedef enum { A = 1, B = 2 } X;`, each member on a line
abbrev pub enum_marks : Enumeration → Marks
enum_marks e = enum_start_marks ++ members_marks e.members ++ enum_end_marks e.name

-- 3. Functions

-- `gint a`
abbrev pub named_marks : CType → tree.Name → Marks
named_marks c x = declared_marks c ++ Name x.text ∷ []

-- the same, or `gint`
abbrev pub parameter_by : CType → Option tree.Name → Marks
parameter_by c None = type_marks c
parameter_by c (Some x) = named_marks c x

-- a parameter
abbrev pub parameter_marks : Parameter → Marks
parameter_marks p = parameter_by p.declared p.name

-- a parameter behind another
abbrev pub next_parameter_marks : Parameter → Marks
next_parameter_marks p = ASign sign.Comma ∷ Space ∷ parameter_marks p

-- the parameters behind the first
abbrev pub more_parameters_marks : List Parameter → Marks
more_parameters_marks [] = []
more_parameters_marks (p ∷ ps) = next_parameter_marks p ++ more_parameters_marks ps

-- `void`, or the parameters
abbrev pub taken_marks : List Parameter → Marks
taken_marks [] = AKeyword keyword.Void ∷ []
taken_marks (p ∷ ps) = parameter_marks p ++ more_parameters_marks ps

-- `(gint a, gint b)`
abbrev pub parameters_marks : List Parameter → Marks
parameters_marks ps = ASign sign.OpenParen ∷ taken_marks ps ++ ASign sign.CloseParen ∷ []

-- `static `
abbrev pub static_marks : Bool → Marks
static_marks true = AKeyword keyword.Static ∷ Space ∷ []
static_marks false = []

-- `static gint f (gint a)`
abbrev pub signature_marks : Signature → Marks
signature_marks s = static_marks s.is_static ++ declared_marks s.result ++ Name s.name.text ∷ Space ∷ parameters_marks s.parameters

-- `static gint f (gint a);`
abbrev pub prototype_marks : Signature → Marks
prototype_marks s = signature_marks s ++ ASign sign.Semicolon ∷ []

-- `(*F) `
abbrev pub pointer_marks : tree.Name → Marks
pointer_marks x = ASign sign.OpenParen ∷ ASign sign.Star ∷ Name x.text ∷ ASign sign.CloseParen ∷ Space ∷ []

-- `(*F) (gint a)`
abbrev pub taken_by_pointer : tree.Name → List Parameter → Marks
taken_by_pointer x ps = pointer_marks x ++ parameters_marks ps

-- `typedef gint (*F) (gint a);`
abbrev pub function_type_marks : Signature → Marks
function_type_marks s = AKeyword keyword.Typedef ∷ Space ∷ declared_marks s.result ++ taken_by_pointer s.name s.parameters ++ ASign sign.Semicolon ∷ []

-- the head of a function on a line, and its body from the next line on
abbrev pub function_marks : Brackets → Definition → Marks
function_marks style f = signature_marks f.signature ++ Line 0 ∷ block_marks style f.body 0

-- 4. Variables

-- `v = 1`
abbrev pub set_marks : Brackets → tree.Name → Expr → Marks
set_marks style x a = Name x.text ∷ spaced sign.Assign ++ value_marks style a

-- `static gint v = 1;`
abbrev pub variable_marks : Brackets → StaticVariable → Marks
variable_marks style v = AKeyword keyword.Static ∷ Space ∷ declared_marks v.declared ++ set_marks style v.name v.value ++ ASign sign.Semicolon ∷ []

-- `(GInterfaceInitFunc) `
abbrev pub init_cast_marks : Marks
init_cast_marks = ASign sign.OpenParen ∷ Name (codes "GInterfaceInitFunc") ∷ ASign sign.CloseParen ∷ Space ∷ []

-- `, NULL`
abbrev pub null_marks : Marks
null_marks = ASign sign.Comma ∷ Space ∷ AConstant constant.Null ∷ []

-- `(GInterfaceInitFunc) f, NULL, NULL`
abbrev pub entries_marks : tree.Name → Marks
entries_marks f = init_cast_marks ++ Name f.text ∷ null_marks ++ null_marks

-- `{ (GInterfaceInitFunc) f, NULL, NULL };`
abbrev pub table_marks : tree.Name → Marks
table_marks f = ASign sign.OpenBrace ∷ Space ∷ entries_marks f ++ Space ∷ ASign sign.CloseBrace ∷ ASign sign.Semicolon ∷ []

-- `static const GInterfaceInfo `
abbrev pub interface_type_marks : Marks
interface_type_marks = AKeyword keyword.Static ∷ Space ∷ AKeyword keyword.Const ∷ Space ∷ Name (codes "GInterfaceInfo") ∷ Space ∷ []

-- `static const GInterfaceInfo v = { (GInterfaceInitFunc) f, NULL, NULL };`
abbrev pub interface_marks : InterfaceTable → Marks
interface_marks t = interface_type_marks ++ Name t.name.text ∷ spaced sign.Assign ++ table_marks t.init

-- 5. Items

-- an item
abbrev pub item_marks : Brackets → Item → Marks
item_marks style (item.Include f) = include_marks f
item_marks style (item.StructType x) = struct_type_marks x
item_marks style (item.Struct s) = fields_marks s
item_marks style (item.Enumeration e) = enum_marks e
item_marks style (item.FunctionType s) = function_type_marks s
item_marks style (item.Prototype s) = prototype_marks s
item_marks style (item.Variable v) = variable_marks style v
item_marks style (item.InterfaceTable t) = interface_marks t
item_marks style (item.Function f) = function_marks style f

-- items of one line are grouped by their sort
abbrev pub group_of : Item → Group
group_of (item.Include f) = Includes
group_of (item.StructType x) = Types
group_of (item.Struct s) = Long
group_of (item.Enumeration e) = Long
group_of (item.FunctionType s) = Types
group_of (item.Prototype s) = Prototypes
group_of (item.Variable v) = Variables
group_of (item.InterfaceTable t) = Variables
group_of (item.Function f) = Long

-- whether an item stands right below another, without a blank line between them
abbrev pub is_close : Group → Group → Bool
is_close Includes Includes = true
is_close Types Types = true
is_close Prototypes Prototypes = true
is_close Variables Variables = true
is_close f g = false

-- the lines that end in front of an item, by the item before it
abbrev pub between_items : Option Group → Group → Marks
between_items None g = []
between_items (Some f) g = if is_close f g then Line 0 ∷ [] else Line 0 ∷ Line 0 ∷ []

-- an item behind another, or the first one
abbrev pub next_item_marks : Brackets → Option Group → Item → Marks
next_item_marks style o i = between_items o (group_of i) ++ item_marks style i

-- items behind an item, or the first ones
abbrev pub items_marks : Brackets → Option Group → List Item → Marks
items_marks style o [] = []
items_marks style o (i ∷ is) = next_item_marks style o i ++ items_marks style (Some (group_of i)) is

-- A WHOLE UNIT. Its text ends with a line feed.
abbrev pub unit_marks : Brackets → CUnit → Marks
unit_marks style u = items_marks style None u.items ++ Line 0 ∷ []
