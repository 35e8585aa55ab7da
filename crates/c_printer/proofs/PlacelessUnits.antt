-- A unit is written as it is without places.
use Rattle.std.proofs.Common.{◌≡◌, ◌∙◌, refl, sym, ap, subst, ℕ, List, [], ◌∷◌, ◌++◌, map, Option, Some, None}
use Rattle.std.specs.Option.{option_map}
use Rattle.c_lexer.specs.declared.token.Keyword.{Keyword}
use Rattle.c_lexer.specs.declared.token.Keyword.TheVariants as keyword
use Rattle.c_lexer.specs.declared.token.Sign.TheVariants as sign
use Rattle.c_tree.specs.declared.names.CType.{CType}
use Rattle.c_tree.specs.declared.names.Name as tree
use Rattle.c_tree.specs.declared.operators.Level.TheVariants as level
use Rattle.c_tree.specs.declared.code.Expr.{Expr}
use Rattle.c_tree.specs.declared.code.Local.{Local}
use Rattle.c_tree.specs.declared.code.Callee.{Callee}
use Rattle.c_tree.specs.declared.code.Callee.TheVariants as callee
use Rattle.c_tree.specs.declared.code.Call.{Call}
use Rattle.c_tree.specs.declared.code.Case.{Case}
use Rattle.c_tree.specs.declared.code.Stmt.{Stmt, roll-Stmt}
use Rattle.c_tree.specs.declared.code.Stmt.TheOpen.{Stmt-F, Block-F}
use Rattle.c_tree.specs.declared.code.Stmt.TheFolds.{fold-roll-Stmt, map-Stmt, ind-Block}
use Rattle.c_tree.specs.declared.code.Block.{Block, roll-Block}
use Rattle.c_tree.specs.declared.unit.Item.{Item}
use Rattle.c_tree.specs.declared.unit.Item.TheVariants as item
use Rattle.c_tree.specs.declared.unit.Member.{Member}
use Rattle.c_tree.specs.declared.unit.Parameter.{Parameter}
use Rattle.c_tree.specs.declared.unit.Signature.{Signature}
use Rattle.c_tree.specs.declared.unit.Unit.{Unit as CUnit}
use Rattle.c_tree.specs.Make.{block}
use Rattle.c_tree.specs.Bare.{nowhere, bare_name, bare_type, bare_expr, bare_local, bare_callee, bare_call, bare_case, bare_stmt, bare_block, bare_member, bare_parameter, bare_signature, bare_item, bare, SameUnit}
use Rattle.c_printer.specs.declared.grade.Brackets.{Brackets}
use Rattle.c_printer.specs.declared.grade.Place.TheVariants.{Operand, BehindPrefix}
use Rattle.c_printer.specs.declared.group.Group.{Group}
use Rattle.c_printer.specs.Marks.{Marks, Name, AKeyword, ASign, Space, Line}
use Rattle.c_printer.specs.PutValues.{placed, type_marks, in_brackets, spaced}
use Rattle.c_printer.specs.PutStatements.{before_name, declared_marks, name_ended, local_marks, locals_marks, callee_marks, between_marks, call_marks, to_place, tested, ended, assign_marks, store_marks, if_goto_marks, goto_marks, return_marks, return_statement_marks, case_line, cases_marks, default_marks, close_marks, switch_marks, deeper, Indented, else_marks, if_marks, print_stmt, print_block, lines, stmt_marks, block_marks}
use Rattle.c_printer.specs.PutItems.{struct_marks, closed_marks, fields_marks, next_member_marks, member_line, more_members_marks, members_marks, enum_start_marks, enum_end_marks, enum_marks, parameter_by, parameter_marks, more_parameters_marks, taken_marks, parameters_marks, static_marks, signature_marks, prototype_marks, pointer_marks, function_type_marks, item_marks, group_of, between_items, items_marks, unit_marks}
use Rattle.c_printer.proofs.PlacelessValues.{type_same, printed_same, value_same, more_same, arguments_same}
use Rattle.c_printer.proofs.StatementReading.{bare_of_stmt, stmt_layer, stmt_bare_layer, stmt_written, block_written, block_bare}

-- 1. Declarations

pub declared_same : (c : CType) → declared_marks (bare_type c) ≡ declared_marks c
declared_same c = ap (λ ms. ms ++ before_name c.stars) (type_same c)

local_same : (l : Local) → local_marks (bare_local l) ≡ local_marks l
local_same l = ap (λ ms. ms ++ name_ended l.name) (declared_same l.declared)

locals_same : (n : ℕ) (ls : List Local) → locals_marks n (map bare_local ls) ≡ locals_marks n ls
locals_same n [] = refl
locals_same n (l ∷ ls) = λ i. Line n ∷ local_same l i ++ locals_same n ls i

module _ (style : Brackets) where
  -- 2. Simple statements

  callee_same : (c : Callee) → callee_marks style (bare_callee c) ≡ callee_marks style c
  callee_same (callee.Value a) = λ i. placed style BehindPrefix (printed_same style a i)
  callee_same (callee.Row x) = refl

  between_same : (c : Option CType) (es : List Expr) → between_marks style (option_map bare_type c) (map bare_expr es) ≡ between_marks style c es
  between_same None es = arguments_same style es
  between_same (Some c) es = λ i. type_same c i ++ more_same style es i

  call_same : (c : Call) → call_marks style (bare_call c) ≡ call_marks style c
  call_same c = λ i. callee_same c.callee i ++ Space ∷ in_brackets (between_same c.type_argument c.arguments i)

  to_place_same : (a : Expr) → to_place style (bare_expr a) ≡ to_place style a
  to_place_same a = λ i. placed style (Operand level.Product) (printed_same style a i) ++ spaced sign.Assign

  tested_same : (w : Keyword) (a : Expr) → tested style w (bare_expr a) ≡ tested style w a
  tested_same w a = λ i. AKeyword w ∷ Space ∷ in_brackets (value_same style a i)

  cases_same : (n : ℕ) (cs : List Case) → cases_marks n (map bare_case cs) ≡ cases_marks n cs
  cases_same n [] = refl
  cases_same n (c ∷ cs) = ap (λ ms. case_line n c ++ ms) (cases_same n cs)

  return_same : (o : Option Expr) → return_marks style (option_map bare_expr o) ≡ return_marks style o
  return_same None = refl
  return_same (Some a) = λ i. Space ∷ value_same style a i

  -- 3. Statements and blocks: an induction over blocks

  abbrev ForStmt : Stmt → Type 0
  ForStmt s = stmt_marks style (bare_of_stmt s) ≡ stmt_marks style s

  abbrev ForBlock : Block → Type 0
  ForBlock b = block_marks style (bare_block b) ≡ block_marks style b

  abbrev SureStmt : Type 0
  SureStmt = (s : Stmt) × ForStmt s

  abbrev SureBlock : Type 0
  SureBlock = (b : Block) × ForBlock b

  abbrev plain_stmt : Stmt-F SureStmt SureBlock → Stmt-F Stmt Block
  plain_stmt = map-Stmt SureStmt SureBlock Stmt Block (λ e. e.0) (λ e. e.0)

  stmt_same : (l : Stmt-F SureStmt SureBlock)
      → stmt_marks style (bare_stmt (stmt_bare_layer (plain_stmt l))) ≡ print_stmt style (stmt_layer style (plain_stmt l))
  stmt_same (Stmt-F.Assign a b) = stmt_written style (Stmt-F.Assign (bare_expr a) (bare_expr b)) ∙ (λ i n. ended (to_place_same a i ++ value_same style b i))
  stmt_same (Stmt-F.Call c) = stmt_written style (Stmt-F.Call (bare_call c)) ∙ (λ i n. ended (call_same c i))
  stmt_same (Stmt-F.Store a c) = stmt_written style (Stmt-F.Store (bare_expr a) (bare_call c)) ∙ (λ i n. ended (to_place_same a i ++ call_same c i))
  stmt_same (Stmt-F.If a b None) = stmt_written style (Stmt-F.If (bare_expr a) (bare_block b.0) None)
      ∙ (λ i n. tested_same keyword.If a i ++ Space ∷ b.1 i n ++ [])
  stmt_same (Stmt-F.If a b (Some d)) = stmt_written style (Stmt-F.If (bare_expr a) (bare_block b.0) (Some (bare_block d.0)))
      ∙ (λ i n. tested_same keyword.If a i ++ Space ∷ b.1 i n ++ Space ∷ AKeyword keyword.Else ∷ Space ∷ d.1 i n)
  stmt_same (Stmt-F.IfGoto a x) = stmt_written style (Stmt-F.IfGoto (bare_expr a) (bare_name x)) ∙ (λ i n. tested_same keyword.If a i ++ Space ∷ goto_marks x)
  stmt_same (Stmt-F.Goto x) = stmt_written style (Stmt-F.Goto (bare_name x))
  stmt_same (Stmt-F.Label x) = stmt_written style (Stmt-F.Label (bare_name x))
  stmt_same (Stmt-F.Switch a cs x) = stmt_written style (Stmt-F.Switch (bare_expr a) (map bare_case cs) (bare_name x))
      ∙ (λ i n. tested_same keyword.Switch a i ++ Space ∷ ASign sign.OpenBrace ∷ cases_same n cs i ++ default_marks n x ++ close_marks n)
  stmt_same (Stmt-F.Return s o) = stmt_written style (Stmt-F.Return nowhere (option_map bare_expr o))
      ∙ (λ i n. ended (AKeyword keyword.Return ∷ return_same o i))
  stmt_same (Stmt-F.Block b) = stmt_written style (Stmt-F.Block (bare_block b.0)) ∙ (λ i n. b.1 i n)

  stmt_step : (l : Stmt-F SureStmt SureBlock) → ForStmt (roll-Stmt (plain_stmt l))
  stmt_step l = ap (stmt_marks style) (fold-roll-Stmt Stmt Block bare_stmt (λ b. block (map bare_local b.locals) b.body nowhere) (plain_stmt l))
      ∙ stmt_same l ∙ sym (fold-roll-Stmt Indented Indented (print_stmt style) print_block (plain_stmt l))

  lines_same : (n : ℕ) (xs : List SureStmt)
      → lines n (map (stmt_marks style) (map bare_of_stmt (map (λ e. e.0) xs))) ≡ lines n (map (stmt_marks style) (map (λ e. e.0) xs))
  lines_same n [] = refl
  lines_same n (x ∷ xs) = λ i. Line n ∷ x.1 i n ++ lines_same n xs i

  block_step : (l : Block-F SureStmt SureBlock) → ForBlock (block l.locals (map (λ (e : SureStmt). e.0) l.body) l.span)
  block_step l =
      let ss : List Stmt = map (λ (e : SureStmt). e.0) l.body in
      ap (block_marks style) (block_bare l.locals ss l.span) ∙ block_written style (map bare_local l.locals) (map bare_of_stmt ss) nowhere
      ∙ (λ i n. ASign sign.OpenBrace ∷ locals_same (deeper n) l.locals i ++ lines_same (deeper n) l.body i ++ close_marks n)
      ∙ sym (block_written style l.locals ss l.span)

  pub block_same : (b : Block) → block_marks style (bare_block b) ≡ block_marks style b
  block_same = ind-Block ForStmt ForBlock (λ x y is. subst (λ z. ForStmt (roll-Stmt z)) is (stmt_step y))
      (λ x y is. subst (λ z. ForBlock (roll-Block z)) is (block_step y))

-- 4. Functions and types

more_members_same : (ms : List Member) → more_members_marks (map bare_member ms) ≡ more_members_marks ms
more_members_same [] = refl
more_members_same (m ∷ ms) = ap (λ w. next_member_marks m ++ w) (more_members_same ms)

members_same : (ms : List Member) → members_marks (map bare_member ms) ≡ members_marks ms
members_same [] = refl
members_same (m ∷ ms) = ap (λ w. member_line m ++ w) (more_members_same ms)

parameter_by_same : (c : CType) (o : Option tree.Name) → parameter_by (bare_type c) (option_map bare_name o) ≡ parameter_by c o
parameter_by_same c None = type_same c
parameter_by_same c (Some x) = ap (λ ms. ms ++ Name x.text ∷ []) (declared_same c)

parameter_same : (p : Parameter) → parameter_marks (bare_parameter p) ≡ parameter_marks p
parameter_same p = parameter_by_same p.declared p.name

more_parameters_same : (ps : List Parameter) → more_parameters_marks (map bare_parameter ps) ≡ more_parameters_marks ps
more_parameters_same [] = refl
more_parameters_same (p ∷ ps) = λ i. ASign sign.Comma ∷ Space ∷ parameter_same p i ++ more_parameters_same ps i

taken_same : (ps : List Parameter) → taken_marks (map bare_parameter ps) ≡ taken_marks ps
taken_same [] = refl
taken_same (p ∷ ps) = λ i. parameter_same p i ++ more_parameters_same ps i

parameters_same : (ps : List Parameter) → parameters_marks (map bare_parameter ps) ≡ parameters_marks ps
parameters_same ps = λ i. ASign sign.OpenParen ∷ taken_same ps i ++ ASign sign.CloseParen ∷ []

signature_same : (s : Signature) → signature_marks (bare_signature s) ≡ signature_marks s
signature_same s = λ i. static_marks s.is_static ++ declared_same s.result i ++ Name s.name.text ∷ Space ∷ parameters_same s.parameters i

function_type_same : (s : Signature) → function_type_marks (bare_signature s) ≡ function_type_marks s
function_type_same s =
    λ i. AKeyword keyword.Typedef ∷ Space ∷ declared_same s.result i ++ (pointer_marks s.name ++ parameters_same s.parameters i) ++ ASign sign.Semicolon ∷ []

-- 5. Items and units

module _ (style : Brackets) where
  item_same : (i : Item) → item_marks style (bare_item i) ≡ item_marks style i
  item_same (item.Include f) = refl
  item_same (item.StructType x) = refl
  item_same (item.Struct s) = λ i. struct_marks s.name ++ Space ∷ ASign sign.OpenBrace ∷ locals_same 4 s.fields i ++ closed_marks
  item_same (item.Enumeration e) = λ i. enum_start_marks ++ members_same e.members i ++ enum_end_marks e.name
  item_same (item.FunctionType s) = function_type_same s
  item_same (item.Prototype s) = λ i. signature_same s i ++ ASign sign.Semicolon ∷ []
  item_same (item.Variable v) =
      λ i. AKeyword keyword.Static ∷ Space ∷ declared_same v.declared i ++ (Name v.name.text ∷ spaced sign.Assign ++ value_same style v.value i)
      ++ ASign sign.Semicolon ∷ []
  item_same (item.InterfaceTable t) = refl
  item_same (item.Function f) = λ i. signature_same f.signature i ++ Line 0 ∷ block_same style f.body i 0

  group_same : (i : Item) → group_of (bare_item i) ≡ group_of i
  group_same (item.Include f) = refl
  group_same (item.StructType x) = refl
  group_same (item.Struct s) = refl
  group_same (item.Enumeration e) = refl
  group_same (item.FunctionType s) = refl
  group_same (item.Prototype s) = refl
  group_same (item.Variable v) = refl
  group_same (item.InterfaceTable t) = refl
  group_same (item.Function f) = refl

  items_same : (o : Option Group) (is : List Item) → items_marks style o (map bare_item is) ≡ items_marks style o is
  items_same o [] = refl
  items_same o (i ∷ is) =
      (λ k. (between_items o (group_same i k) ++ item_same i k) ++ items_marks style (Some (group_same i k)) (map bare_item is))
      ∙ ap (λ ms. (between_items o (group_of i) ++ item_marks style i) ++ ms) (items_same (Some (group_of i)) is)

  -- one unit at other places is written the same
  pub unit_moves : (a b : CUnit) → SameUnit a b → unit_marks style a ≡ unit_marks style b
  unit_moves a b e =
      let unit_same : (u : CUnit) → unit_marks style (bare u) ≡ unit_marks style u = λ u. ap (λ ms. ms ++ Line 0 ∷ []) (items_same None u.items) in
      sym (unit_same a) ∙ ap (unit_marks style) e ∙ unit_same b
