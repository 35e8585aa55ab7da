-- Declarations, calls and statements that are written are read.
use Rattle.std.proofs.Common.{◌≡◌, ◌∙◌, refl, sym, ap, subst, ℕ, zero, suc, true, false, List, [], ◌∷◌, ◌++◌, map, append_assoc, append-nil, Option, Some, None}
use Rattle.c_lexer.specs.declared.token.TokenKind.TheVariants as k
use Rattle.c_lexer.specs.declared.token.Keyword.{Keyword}
use Rattle.c_lexer.specs.declared.token.Keyword.TheVariants as keyword
use Rattle.c_lexer.specs.declared.token.Sign.{Sign}
use Rattle.c_lexer.specs.declared.token.Sign.TheVariants as sign
use Rattle.c_tree.specs.declared.names.Name as tree
use Rattle.c_tree.specs.declared.names.SignedNumber.{SignedNumber}
use Rattle.c_tree.specs.declared.operators.Level.TheVariants as level
use Rattle.c_tree.specs.declared.code.Expr.{Expr}
use Rattle.c_tree.specs.declared.code.Local.{Local}
use Rattle.c_tree.specs.declared.code.Callee.TheVariants as callee
use Rattle.c_tree.specs.declared.code.Call.{Call}
use Rattle.c_tree.specs.declared.code.Case.{Case}
use Rattle.c_tree.specs.declared.code.Stmt.{Stmt, roll-Stmt}
use Rattle.c_tree.specs.declared.code.Stmt.TheOpen.{Stmt-F}
use Rattle.c_tree.specs.declared.code.Stmt.TheFolds.{fold-Stmt, fold-roll-Stmt, fold_out-Block, map-Stmt}
use Rattle.c_tree.specs.declared.names.Span.{Span}
use Rattle.c_tree.specs.declared.code.Stmt.TheVariants as stmt
use Rattle.c_tree.specs.declared.code.Block.{Block, out-Block}
use Rattle.c_tree.specs.Words.{Token, Word, join, at}
use Rattle.c_tree.specs.Names.{Names, with_local, with_locals}
use Rattle.c_tree.specs.Make.{name_at, block}
use Rattle.c_tree.specs.Statements as st
use Rattle.c_tree.specs.Statements.{ReadsStmt, ReadsStmts, ReadsBlock, ReadsLocal, local_is, ReadsLocals, no_local, more_locals, ReadsNumber, number_is, negative_is, ReadsCall, call_value, call_row, call_type_row, ReadsPlace, place_is, ReadsGoto, goto_is, ReadsCases, no_case, more_cases}
use Rattle.c_tree.specs.Bare.{nowhere, bare_name, bare_expr, bare_local, bare_call, bare_case, bare_stmt, bare_block}
use Rattle.c_printer.specs.declared.grade.Brackets.{Brackets}
use Rattle.c_printer.specs.declared.grade.Place.TheVariants.{BehindPrefix}
use Rattle.c_printer.specs.Marks.{Marks, Name, AKeyword, ASign, Space, Line, token, word}
use Rattle.c_printer.specs.PutValues.{type_marks, in_brackets, placed, printed, value_marks, arguments_marks, more_arguments_marks, spaced}
use Rattle.c_printer.specs.PutStatements.{before_name, local_marks, locals_marks, callee_marks, call_marks, between_marks, number_marks, goto_marks, place_marks, cases_marks, to_place, tested, ended, deeper, Indented, lines, print_stmt, print_block, stmt_marks, block_marks, if_marks, if_head_marks, else_block_marks, close_marks}
use Rattle.c_printer.proofs.TypeReading.{word_append, type_read, object_bare}
use Rattle.c_printer.proofs.ValueReading.{value_read, operand_read, callee_read, arguments_read, more_read}
use Rattle.c_printer.proofs.BareTrees.{no_span, place_bare}

-- 1. Declarations

pub nameless : (n : ℕ) → word (before_name n) ≡ []
nameless zero = refl
nameless (suc n) = refl

pub local_word : (l : Local) → word (local_marks l) ≡ word (type_marks l.declared) ++ token k.Identifier l.name.text ∷ token (k.Sign sign.Semicolon) [] ∷ []
local_word l = word_append (type_marks l.declared ++ before_name l.declared.stars) (Name l.name.text ∷ ASign sign.Semicolon ∷ [])
    ∙ ap (λ w. w ++ token k.Identifier l.name.text ∷ token (k.Sign sign.Semicolon) [] ∷ [])
    (word_append (type_marks l.declared) (before_name l.declared.stars) ∙ ap (λ w. word (type_marks l.declared) ++ w) (nameless l.declared.stars) ∙ append-nil (word (type_marks l.declared)))

pub local_read : {ns : Names} {w : Word} {l : Local} → ReadsLocal ns w l → ReadsLocal ns (word (local_marks l)) (bare_local l)
local_read {ns} {l} (local_is n e {c} t h i j) = subst (λ w. ReadsLocal ns w (bare_local l)) (sym (local_word l))
    (local_is (token k.Identifier l.name.text) (token (k.Sign sign.Semicolon) []) (type_read ns true t) (object_bare c ∙ h) refl refl)

pub locals_read : (d : ℕ) {ns : Names} {w : Word} {ls : List Local} → ReadsLocals ns w ls → ReadsLocals ns (word (locals_marks d ls)) (map bare_local ls)
locals_read d no_local = no_local
locals_read d {ns} (more_locals {l} {ls} r rest) = subst (λ w. ReadsLocals ns w (bare_local l ∷ map bare_local ls)) (sym (word_append (local_marks l) (locals_marks d ls)))
    (more_locals (local_read r) (locals_read d rest))

pub same_scope : (ns : Names) (ls : List Local) → with_locals ns (map bare_local ls) ≡ with_locals ns ls
same_scope ns [] = refl
same_scope ns (l ∷ ls) = same_scope (with_local ns l) ls

-- 2. Numbers, jumps and places

pub number_read : {w : Word} {x : SignedNumber} → ReadsNumber w x → ReadsNumber (word (number_marks x)) x
number_read (number_is i) = number_is refl
number_read (negative_is i j) = negative_is refl refl

pub goto_read : (x : tree.Name) → ReadsGoto (word (goto_marks x)) (token k.Identifier x.text)
goto_read x = goto_is refl refl refl

pub place_read : (style : Brackets) → {ns : Names} {w : Word} {a : Expr} → ReadsPlace ns w a → ReadsPlace ns (word (place_marks style a)) (bare_expr a)
place_read style {ns} (place_is {a} r h) = place_is (operand_read style ns false level.Product a r) (place_bare a ∙ h)

pub cases_read : (d : ℕ) {w : Word} {cs : List Case} → ReadsCases w cs → ReadsCases (word (cases_marks d cs)) (map bare_case cs)
cases_read d no_case = no_case
cases_read d (more_cases s n {x} {cs} i r j g rest) = subst (λ w. ReadsCases (token (k.Keyword keyword.Case) [] ∷ w) (record { number = x; label = record { text = n.bytes; span = nowhere } } ∷ map bare_case cs)) (sym flat)
    (more_cases (token (k.Sign sign.Colon) []) (token k.Identifier n.bytes) refl (number_read r) refl (goto_read (record { text = n.bytes; span = nowhere })) (cases_read d rest))
  where
    flat : word (number_marks x ++ ASign sign.Colon ∷ Space ∷ goto_marks (record { text = n.bytes; span = nowhere }) ++ cases_marks d cs)
        ≡ word (number_marks x) ++ token (k.Sign sign.Colon) [] ∷ word (goto_marks (record { text = n.bytes; span = nowhere })) ++ word (cases_marks d cs)
    flat = word_append (number_marks x ++ ASign sign.Colon ∷ Space ∷ goto_marks (record { text = n.bytes; span = nowhere })) (cases_marks d cs)
        ∙ ap (λ w. w ++ word (cases_marks d cs)) (word_append (number_marks x) (ASign sign.Colon ∷ Space ∷ goto_marks (record { text = n.bytes; span = nowhere })))

-- 3. Calls

pub call_word : (style : Brackets) → (c : Call) → word (call_marks style c) ≡ word (callee_marks style c.callee) ++ token (k.Sign sign.OpenParen) [] ∷ word (between_marks style c.type_argument c.arguments) ++ token (k.Sign sign.CloseParen) [] ∷ []
call_word style c = word_append (callee_marks style c.callee) (Space ∷ in_brackets (between_marks style c.type_argument c.arguments))
    ∙ ap (λ w. word (callee_marks style c.callee) ++ token (k.Sign sign.OpenParen) [] ∷ w) (word_append (between_marks style c.type_argument c.arguments) (ASign sign.CloseParen ∷ []))
    ∙ sym (append_assoc (word (callee_marks style c.callee)) (token (k.Sign sign.OpenParen) [] ∷ word (between_marks style c.type_argument c.arguments)) (token (k.Sign sign.CloseParen) [] ∷ []))

pub call_read : (style : Brackets) → {ns : Names} {w : Word} {c : Call} → ReadsCall ns w c → ReadsCall ns (word (call_marks style c)) (bare_call c)
call_read style {ns} {c} (call_value t s {a} {xs} ra i r j) = subst (λ w. ReadsCall ns w (bare_call c)) (sym (call_word style c))
    (subst (λ o. ReadsCall ns (word (placed style BehindPrefix (printed style a)) ++ token (k.Sign sign.OpenParen) [] ∷ word (arguments_marks style xs) ++ token (k.Sign sign.CloseParen) [] ∷ []) (record { callee = callee.Value (bare_expr a); type_argument = None; arguments = map bare_expr xs; span = o })) (ap (λ o. join o nowhere) (no_span a))
    (call_value (token (k.Sign sign.OpenParen) []) (token (k.Sign sign.CloseParen) []) (callee_read style ns false a ra) refl (arguments_read style ns false xs r) refl))
call_read style {ns} {c} (call_row {n} s {xs} i h j r m) = subst (λ w. ReadsCall ns w (bare_call c)) (sym (call_word style c))
    (call_row (token (k.Sign sign.CloseParen) []) refl h refl (arguments_read style ns false xs r) refl)
call_read style {ns} {c} (call_type_row {n} s {c = d} {xs} i h j t o r m) = subst (λ w. ReadsCall ns w (bare_call c)) (sym (call_word style c))
    (subst (λ w. ReadsCall ns (token k.Identifier n.bytes ∷ token (k.Sign sign.OpenParen) [] ∷ w ++ token (k.Sign sign.CloseParen) [] ∷ []) (bare_call c)) (sym (word_append (type_marks d) (more_arguments_marks style xs)))
    (call_type_row (token (k.Sign sign.CloseParen) []) refl h refl (type_read ns true t) (object_bare d ∙ o) (more_read style ns false xs r) refl))

-- 4. Statements, one level after another

abbrev pub bare_of_stmt : Stmt → Stmt
bare_of_stmt = fold-Stmt Stmt Block bare_stmt (λ b. block (map bare_local b.locals) b.body nowhere)

abbrev pub stmt_layer : (style : Brackets) → Stmt-F Stmt Block → Stmt-F Indented Indented
stmt_layer style = map-Stmt Stmt Block Indented Indented (stmt_marks style) (block_marks style)

abbrev pub stmt_bare_layer : Stmt-F Stmt Block → Stmt-F Stmt Block
stmt_bare_layer = map-Stmt Stmt Block Stmt Block bare_of_stmt bare_block

abbrev pub stmt_at : Stmt-F Stmt Block → Stmt
stmt_at (Stmt-F.Assign a b) = stmt.Assign a b
stmt_at (Stmt-F.Call c) = stmt.Call c
stmt_at (Stmt-F.Store a c) = stmt.Store a c
stmt_at (Stmt-F.If a b o) = stmt.If a b o
stmt_at (Stmt-F.IfGoto a x) = stmt.IfGoto a x
stmt_at (Stmt-F.Goto x) = stmt.Goto x
stmt_at (Stmt-F.Label x) = stmt.Label x
stmt_at (Stmt-F.Switch a cs x) = stmt.Switch a cs x
stmt_at (Stmt-F.Return o e) = stmt.Return o e
stmt_at (Stmt-F.Block b) = stmt.Block b

pub stmt_rolls_at : (l : Stmt-F Stmt Block) → roll-Stmt l ≡ stmt_at l
stmt_rolls_at (Stmt-F.Assign a b) = stmt.rolls-Assign a b
stmt_rolls_at (Stmt-F.Call c) = stmt.rolls-Call c
stmt_rolls_at (Stmt-F.Store a c) = stmt.rolls-Store a c
stmt_rolls_at (Stmt-F.If a b o) = stmt.rolls-If a b o
stmt_rolls_at (Stmt-F.IfGoto a x) = stmt.rolls-IfGoto a x
stmt_rolls_at (Stmt-F.Goto x) = stmt.rolls-Goto x
stmt_rolls_at (Stmt-F.Label x) = stmt.rolls-Label x
stmt_rolls_at (Stmt-F.Switch a cs x) = stmt.rolls-Switch a cs x
stmt_rolls_at (Stmt-F.Return o e) = stmt.rolls-Return o e
stmt_rolls_at (Stmt-F.Block b) = stmt.rolls-Block b

pub stmt_written : (style : Brackets) → (l : Stmt-F Stmt Block) → stmt_marks style (stmt_at l) ≡ print_stmt style (stmt_layer style l)
stmt_written style l = ap (stmt_marks style) (sym (stmt_rolls_at l)) ∙ fold-roll-Stmt Indented Indented (print_stmt style) print_block l

pub stmt_bare : (l : Stmt-F Stmt Block) → bare_of_stmt (stmt_at l) ≡ bare_stmt (stmt_bare_layer l)
stmt_bare l = ap bare_of_stmt (sym (stmt_rolls_at l)) ∙ fold-roll-Stmt Stmt Block bare_stmt (λ b. block (map bare_local b.locals) b.body nowhere) l

pub block_written : (style : Brackets) → (ls : List Local) (ss : List Stmt) (o : Span) → block_marks style (block ls ss o) ≡ print_block (record { locals = ls; body = map (stmt_marks style) ss; span = o })
block_written style ls ss o = fold_out-Block Indented Indented (print_stmt style) print_block (block ls ss o)

-- a statement and a block as their code sees them
pub if_written : (style : Brackets) → (a : Expr) (b : Block) (o : Option Block) (n : ℕ) → stmt_marks style (stmt.If a b o) n ≡ if_marks style a (block_marks style b) (else_block_marks style o) n
if_written style a b None n = ap (λ (m : Indented). m n) (stmt_written style (Stmt-F.If a b None))
if_written style a b (Some d) n = ap (λ (m : Indented). m n) (stmt_written style (Stmt-F.If a b (Some d)))

pub head_apart : (style : Brackets) → (a : Expr) (ms : Marks) → if_head_marks style a ++ ms ≡ tested style keyword.If a ++ Space ∷ ms
head_apart style a ms = append_assoc (tested style keyword.If a) (Space ∷ []) ms

pub block_out : (style : Brackets) → (b : Block) (n : ℕ) → block_marks style b n ≡ ASign sign.OpenBrace ∷ locals_marks (deeper n) (out-Block b).locals ++ lines (deeper n) (map (stmt_marks style) (out-Block b).body) ++ close_marks n
block_out style b n = ap (λ (m : Indented). m n) (fold_out-Block Indented Indented (print_stmt style) print_block b)

pub block_bare : (ls : List Local) (ss : List Stmt) (o : Span) → bare_block (block ls ss o) ≡ block (map bare_local ls) (map bare_of_stmt ss) nowhere
block_bare ls ss o = fold_out-Block Stmt Block bare_stmt (λ b. block (map bare_local b.locals) b.body nowhere) (block ls ss o)

made : (style : Brackets) → (ns : Names) (l : Stmt-F Stmt Block) (n : ℕ) → ReadsStmt ns (word (print_stmt style (stmt_layer style l) n)) (bare_stmt (stmt_bare_layer l)) → ReadsStmt ns (word (stmt_marks style (stmt_at l) n)) (bare_of_stmt (stmt_at l))
made style ns l n r = subst (λ (m : Indented). ReadsStmt ns (word (m n)) (bare_of_stmt (stmt_at l))) (sym (stmt_written style l)) (subst (ReadsStmt ns (word (print_stmt style (stmt_layer style l) n))) (sym (stmt_bare l)) r)

-- 5. Their tokens

abbrev of_sign : Sign → Token
of_sign s = token (k.Sign s) []

abbrev of_word : Keyword → Token
of_word w = token (k.Keyword w) []

pub assign_word : (style : Brackets) → (a : Expr) (ms : Marks) → word (ended (to_place style a ++ ms)) ≡ word (place_marks style a) ++ of_sign sign.Assign ∷ word ms ++ of_sign sign.Semicolon ∷ []
assign_word style a ms = word_append (to_place style a ++ ms) (ASign sign.Semicolon ∷ [])
    ∙ ap (λ w. w ++ of_sign sign.Semicolon ∷ []) (word_append (to_place style a) ms ∙ ap (λ w. w ++ word ms) (word_append (place_marks style a) (spaced sign.Assign)) ∙ append_assoc (word (place_marks style a)) (of_sign sign.Assign ∷ []) (word ms))

pub test_word : (style : Brackets) → (w : Keyword) (a : Expr) (ms : Marks) → word (tested style w a ++ Space ∷ ms) ≡ of_word w ∷ of_sign sign.OpenParen ∷ word (value_marks style a) ++ of_sign sign.CloseParen ∷ word ms
test_word style w a ms = word_append (tested style w a) (Space ∷ ms)
    ∙ ap (λ u. of_word w ∷ of_sign sign.OpenParen ∷ u ++ word ms) (word_append (value_marks style a) (ASign sign.CloseParen ∷ []))
    ∙ ap (λ u. of_word w ∷ of_sign sign.OpenParen ∷ u) (append_assoc (word (value_marks style a)) (of_sign sign.CloseParen ∷ []) (word ms))

pub if_word : (style : Brackets) → (a : Expr) (ms : Marks) → word (tested style keyword.If a ++ Space ∷ ms ++ []) ≡ of_word keyword.If ∷ of_sign sign.OpenParen ∷ word (value_marks style a) ++ of_sign sign.CloseParen ∷ word ms
if_word style a ms = ap word (append-nil (tested style keyword.If a ++ Space ∷ ms)) ∙ test_word style keyword.If a ms

pub else_word : (style : Brackets) → (a : Expr) (ms xs : Marks) → word (tested style keyword.If a ++ Space ∷ ms ++ Space ∷ AKeyword keyword.Else ∷ Space ∷ xs)
    ≡ of_word keyword.If ∷ of_sign sign.OpenParen ∷ word (value_marks style a) ++ of_sign sign.CloseParen ∷ word ms ++ of_word keyword.Else ∷ word xs
else_word style a ms xs = word_append (tested style keyword.If a ++ Space ∷ ms) (Space ∷ AKeyword keyword.Else ∷ Space ∷ xs) ∙ ap (λ w. w ++ of_word keyword.Else ∷ word xs) (test_word style keyword.If a ms)

pub switch_word : (style : Brackets) → (a : Expr) (n : ℕ) (cs ms : Marks) → word (tested style keyword.Switch a ++ Space ∷ ASign sign.OpenBrace ∷ cs ++ Line n ∷ AKeyword keyword.Default ∷ ASign sign.Colon ∷ Space ∷ ms ++ Line n ∷ ASign sign.CloseBrace ∷ [])
    ≡ of_word keyword.Switch ∷ of_sign sign.OpenParen ∷ word (value_marks style a) ++ of_sign sign.CloseParen ∷ of_sign sign.OpenBrace ∷ word cs ++ of_word keyword.Default ∷ of_sign sign.Colon ∷ word ms ++ of_sign sign.CloseBrace ∷ []
switch_word style a n cs ms = word_append (tested style keyword.Switch a ++ Space ∷ ASign sign.OpenBrace ∷ cs ++ Line n ∷ AKeyword keyword.Default ∷ ASign sign.Colon ∷ Space ∷ ms) (Line n ∷ ASign sign.CloseBrace ∷ [])
    ∙ ap (λ w. w ++ of_sign sign.CloseBrace ∷ []) (word_append (tested style keyword.Switch a ++ Space ∷ ASign sign.OpenBrace ∷ cs) (Line n ∷ AKeyword keyword.Default ∷ ASign sign.Colon ∷ Space ∷ ms)
    ∙ ap (λ w. w ++ of_word keyword.Default ∷ of_sign sign.Colon ∷ word ms) (test_word style keyword.Switch a (ASign sign.OpenBrace ∷ cs)))

pub block_word : (n : ℕ) (ls ms : Marks) → word (ASign sign.OpenBrace ∷ ls ++ ms ++ Line n ∷ ASign sign.CloseBrace ∷ []) ≡ of_sign sign.OpenBrace ∷ word ls ++ word ms ++ of_sign sign.CloseBrace ∷ []
block_word n ls ms = ap (λ w. of_sign sign.OpenBrace ∷ w) (word_append (ls ++ ms) (Line n ∷ ASign sign.CloseBrace ∷ []) ∙ ap (λ w. w ++ of_sign sign.CloseBrace ∷ []) (word_append ls ms))

-- 6. All statements

mutual
  pub stmt_read : (style : Brackets) → {ns : Names} {w : Word} {s : Stmt} (n : ℕ) → ReadsStmt ns w s → ReadsStmt ns (word (stmt_marks style s n)) (bare_of_stmt s)
  stmt_read style {ns} n (st.assigns t e {a} {b} p i r j) = made style ns (Stmt-F.Assign a b) n (subst (λ w. ReadsStmt ns w (stmt.Assign (bare_expr a) (bare_expr b))) (sym (assign_word style a (value_marks style b)))
      (st.assigns (of_sign sign.Assign) (of_sign sign.Semicolon) (place_read style p) refl (value_read style ns false r) refl))
  stmt_read style {ns} n (st.calls e {c} r i) = made style ns (Stmt-F.Call c) n (subst (λ w. ReadsStmt ns w (stmt.Call (bare_call c))) (sym (word_append (call_marks style c) (ASign sign.Semicolon ∷ []))) (st.calls (of_sign sign.Semicolon) (call_read style r) refl))
  stmt_read style {ns} n (st.stores t e {a} {c} p i r j) = made style ns (Stmt-F.Store a c) n (subst (λ w. ReadsStmt ns w (stmt.Store (bare_expr a) (bare_call c))) (sym (assign_word style a (call_marks style c)))
      (st.stores (of_sign sign.Assign) (of_sign sign.Semicolon) (place_read style p) refl (call_read style r) refl))
  stmt_read style {ns} n (st.if_block s {a} {b} i j r h rb) = made style ns (Stmt-F.If a b None) n (subst (λ w. ReadsStmt ns w (stmt.If (bare_expr a) (bare_block b) None)) (sym (if_word style a (block_marks style b n)))
      (st.if_block (of_sign sign.CloseParen) refl refl (value_read style ns false r) refl (block_read style n rb)))
  stmt_read style {ns} n (st.if_else s l {a} {b} {d} i j r h rb m rd) = made style ns (Stmt-F.If a b (Some d)) n (subst (λ w. ReadsStmt ns w (stmt.If (bare_expr a) (bare_block b) (Some (bare_block d)))) (sym (else_word style a (block_marks style b n) (block_marks style d n)))
      (st.if_else (of_sign sign.CloseParen) (of_word keyword.Else) refl refl (value_read style ns false r) refl (block_read style n rb) refl (block_read style n rd)))
  stmt_read style {ns} n (st.if_goto s x {a} i j r h g) = made style ns (Stmt-F.IfGoto a (name_at x)) n (subst (λ w. ReadsStmt ns w (stmt.IfGoto (bare_expr a) (bare_name (name_at x)))) (sym (test_word style keyword.If a (goto_marks (name_at x))))
      (st.if_goto (of_sign sign.CloseParen) (token k.Identifier x.bytes) refl refl (value_read style ns false r) refl (goto_read (name_at x))))
  stmt_read style {ns} n (st.goes x g) = made style ns (Stmt-F.Goto (name_at x)) n (st.goes (token k.Identifier x.bytes) (goto_read (name_at x)))
  stmt_read style {ns} n (st.labels {n = x} i j h) = made style ns (Stmt-F.Label (name_at x)) n (st.labels {n = token k.Identifier x.bytes} refl refl refl)
  stmt_read style {ns} n (st.switches s l d c q x {a} {cs} i j r h m rs y z g e) = made style ns (Stmt-F.Switch a cs (name_at x)) n (subst (λ w. ReadsStmt ns w (stmt.Switch (bare_expr a) (map bare_case cs) (bare_name (name_at x)))) (sym (switch_word style a n (cases_marks n cs) (goto_marks (name_at x))))
      (st.switches (of_sign sign.CloseParen) (of_sign sign.OpenBrace) (of_word keyword.Default) (of_sign sign.Colon) (of_sign sign.CloseBrace) (token k.Identifier x.bytes) refl refl (value_read style ns false r) refl refl (cases_read n rs) refl refl (goto_read (name_at x)) refl))
  stmt_read style {ns} n (st.returns {t} i j) = made style ns (Stmt-F.Return (at t) None) n (st.returns refl refl)
  stmt_read style {ns} n (st.returns_value {t} e {a} i r j) = made style ns (Stmt-F.Return (at t) (Some a)) n (subst (λ w. ReadsStmt ns (of_word keyword.Return ∷ w) (stmt.Return nowhere (Some (bare_expr a)))) (sym (word_append (value_marks style a) (ASign sign.Semicolon ∷ [])))
      (st.returns_value (of_sign sign.Semicolon) refl (value_read style ns false r) refl))
  stmt_read style {ns} n (st.blocks {b} r) = made style ns (Stmt-F.Block b) n (st.blocks (block_read style n r))

  stmts_read : (style : Brackets) → {ns : Names} {w : Word} {ss : List Stmt} (n : ℕ) → ReadsStmts ns w ss → ReadsStmts ns (word (lines n (map (stmt_marks style) ss))) (map bare_of_stmt ss)
  stmts_read style n st.no_stmt = st.no_stmt
  stmts_read style {ns} n (st.more_stmts {s} {ss} r rest) = subst (λ w. ReadsStmts ns w (bare_of_stmt s ∷ map bare_of_stmt ss)) (sym (word_append (stmt_marks style s n) (lines n (map (stmt_marks style) ss)))) (st.more_stmts (stmt_read style n r) (stmts_read style n rest))

  pub block_read : (style : Brackets) → {ns : Names} {w : Word} {b : Block} (n : ℕ) → ReadsBlock ns w b → ReadsBlock ns (word (block_marks style b n)) (bare_block b)
  block_read style {ns} n (st.block_is {t} s {ls} {ss} i rl rs j) =
      subst (λ (m : Indented). ReadsBlock ns (word (m n)) (bare_block (block ls ss (join (at t) (at s))))) (sym (block_written style ls ss (join (at t) (at s))))
      (subst (ReadsBlock ns (word (print_block (record { locals = ls; body = map (stmt_marks style) ss; span = join (at t) (at s) }) n))) (sym (block_bare ls ss (join (at t) (at s))))
      (subst (λ w. ReadsBlock ns w (block (map bare_local ls) (map bare_of_stmt ss) nowhere)) (sym (block_word n (locals_marks (deeper n) ls) (lines (deeper n) (map (stmt_marks style) ss))))
      (st.block_is (of_sign sign.CloseBrace) refl (locals_read (deeper n) rl) (subst (λ m. ReadsStmts m (word (lines (deeper n) (map (stmt_marks style) ss))) (map bare_of_stmt ss)) (sym (same_scope ns ls)) (stmts_read style (deeper n) rs)) refl)))
