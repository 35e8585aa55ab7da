-- Statements and items that the tokens of bytes are read as can be written.
use Rattle.std.proofs.Common.{◌≡◌, refl, sym, subst, ℕ, zero, suc, Bool, true, false, List, [], ◌∷◌, ◌++◌, map, Some, None}
use Rattle.c_lexer.specs.declared.token.Keyword.{Keyword}
use Rattle.c_lexer.specs.declared.token.Keyword.TheVariants as keyword
use Rattle.c_lexer.specs.declared.token.Sign.TheVariants as sign
use Rattle.c_tree.specs.declared.names.CType.{CType}
use Rattle.c_tree.specs.declared.names.SignedNumber.{SignedNumber}
use Rattle.c_tree.specs.declared.operators.Level.TheVariants as level
use Rattle.c_tree.specs.declared.code.Expr.{Expr}
use Rattle.c_tree.specs.declared.code.Local.{Local}
use Rattle.c_tree.specs.declared.code.Call.{Call}
use Rattle.c_tree.specs.declared.code.Case.{Case}
use Rattle.c_tree.specs.declared.code.Stmt.{Stmt}
use Rattle.c_tree.specs.declared.code.Stmt.TheOpen.{Stmt-F}
use Rattle.c_tree.specs.declared.code.Block.{Block}
use Rattle.c_tree.specs.declared.unit.Item.{Item}
use Rattle.c_tree.specs.declared.unit.Member.{Member}
use Rattle.c_tree.specs.declared.unit.Parameter.{Parameter}
use Rattle.c_tree.specs.declared.unit.Signature.{Signature}
use Rattle.c_tree.specs.Words.{Token, Word, IsName, at, join}
use Rattle.c_tree.specs.Names.{Names}
use Rattle.c_tree.specs.Make.{name_at}
use Rattle.c_tree.specs.Statements as st
use Rattle.c_tree.specs.Statements.{ReadsStmt, ReadsStmts, ReadsBlock, ReadsLocal, local_is, ReadsLocals, no_local, more_locals, ReadsNumber, number_is, negative_is, ReadsCall, call_value, call_row, call_type_row, ReadsPlace, place_is, ReadsGoto, goto_is, ReadsCases, no_case, more_cases}
use Rattle.c_tree.specs.Items as it
use Rattle.c_tree.specs.Items.{ReadsMember, member_is, ReadsMoreMembers, no_member, more_members, ReadsFields, no_field, more_fields, ReadsParameter, unnamed, named, ReadsMoreParameters, no_parameter, more_parameters, ReadsParameters, none_taken, some_taken, ReadsSignature, signature_is, ReadsItem, ReadsItems, no_item, more_items}
use Rattle.c_printer.specs.declared.grade.Brackets.{Brackets}
use Rattle.c_printer.specs.Marks.{Marks, Name, AKeyword, ASign, Space, Line}
use Rattle.c_printer.proofs.Inner.{IsInner, AreInner, IsWritableItem, AreWritableItems}
use Rattle.c_printer.specs.PutValues.{type_marks, in_brackets, value_marks, more_arguments_marks, spaced}
use Rattle.c_printer.specs.PutStatements.{before_name, declared_marks, name_ended, local_marks, locals_marks, callee_marks, call_marks, between_marks, number_marks, goto_marks, place_marks, cases_marks, default_marks, to_place, tested, ended, deeper, Indented, lines, print_stmt, stmt_marks, block_marks, close_marks}
use Rattle.c_printer.specs.PutItems.{member_line, more_members_marks, members_marks, enum_start_marks, enum_end_marks, closed_marks, parameter_marks, more_parameters_marks, parameters_marks, static_marks, signature_marks, taken_by_pointer, set_marks, interface_type_marks, table_marks}
use Rattle.c_printer.proofs.StatementReading.{stmt_at, stmt_layer, stmt_written, block_written}
use Rattle.c_printer.proofs.TokensOfBytes.{Said, IsGiven, AreGiven, given_append, a_name, a_number}
use Rattle.c_printer.proofs.GivenValues.{inner_append, in_brackets_inner, type_inner, value_inner, operand_inner, callee_inner, arguments_inner, more_inner}

-- 1. Declarations and numbers

before_inner : (n : ℕ) → AreInner (before_name n)
before_inner zero = (tt, tt)
before_inner (suc n) = tt

declared_inner : (c : CType) → AreInner (type_marks c) → AreInner (declared_marks c)
declared_inner c h = inner_append (type_marks c) (before_name c.stars) h (before_inner c.stars)

local_inner : {ns : Names} {w : Word} {l : Local} → ReadsLocal ns w l → AreGiven w → AreInner (local_marks l)
local_inner (local_is n e {w} {c} r h i j) g =
    let p = given_append w (n ∷ e ∷ []) g in
    inner_append (declared_marks c) (name_ended (name_at n)) (declared_inner c (type_inner r p.0)) (a_name n i p.1.0, (refl, tt))

locals_inner : (d : ℕ) {ns : Names} {w : Word} {ls : List Local} → ReadsLocals ns w ls → AreGiven w → AreInner (locals_marks d ls)
locals_inner d no_local g = tt
locals_inner d (more_locals {u} {w} {l} {ls} r rest) g =
    let p = given_append u w g in (tt, inner_append (local_marks l) (locals_marks d ls) (local_inner r p.0) (locals_inner d rest p.1))

number_inner : {w : Word} {x : SignedNumber} → ReadsNumber w x → AreGiven w → AreInner (number_marks x)
number_inner (number_is {t} i) g = (a_number t i g.0, tt)
number_inner (negative_is {t} i j) g = (refl, (a_number t j g.1.0, tt))

goto_inner : {w : Word} {n : Token} → ReadsGoto w n → AreGiven w → AreInner (goto_marks (name_at n))
goto_inner (goto_is {n} i j h) g = (tt, (tt, (a_name n j g.1.0, (refl, tt))))

place_inner : (style : Brackets) → {ns : Names} {w : Word} {a : Expr} → ReadsPlace ns w a → AreGiven w → AreInner (place_marks style a)
place_inner style {ns} (place_is {a} r h) g = operand_inner style ns false level.Product a r g

cases_inner : (d : ℕ) {w : Word} {cs : List Case} → ReadsCases w cs → AreGiven w → AreInner (cases_marks d cs)
cases_inner d no_case g = tt
cases_inner d (more_cases {t} s n {u} {v = z} {w} {x} {cs} i r j h rest) g =
    let p = given_append (t ∷ u ++ s ∷ z) w g in let q = given_append (t ∷ u) (s ∷ z) p.0 in (
      tt,
      (
        tt,
        (
          tt,
          inner_append (number_marks x ++ ASign sign.Colon ∷ Space ∷ goto_marks (name_at n)) (cases_marks d cs)
              (inner_append (number_marks x) (ASign sign.Colon ∷ Space ∷ goto_marks (name_at n)) (number_inner r q.0.1) (refl, (tt, goto_inner h q.1.1))) (cases_inner d rest p.1),
        ),
      ),
    )

-- 2. Calls

called : (style : Brackets) → (c : Call) → AreInner (callee_marks style c.callee) → AreInner (between_marks style c.type_argument c.arguments) → AreInner (call_marks style c)
called style c h i = inner_append (callee_marks style c.callee) (Space ∷ in_brackets (between_marks style c.type_argument c.arguments)) h (tt, in_brackets_inner (between_marks style c.type_argument c.arguments) i)

call_inner : (style : Brackets) → {ns : Names} {w : Word} {c : Call} → ReadsCall ns w c → AreGiven w → AreInner (call_marks style c)
call_inner style {ns} {c} (call_value t s {u} {w} {a} {xs} ra i r j) g =
    let p = given_append (u ++ t ∷ w) (s ∷ []) g in let q = given_append u (t ∷ w) p.0 in
    called style c (callee_inner style ns false a ra q.0) (arguments_inner style ns false r q.1.1)
call_inner style {ns} {c} (call_row {n} {t} s {w} {xs} i h j r m) g =
    let p = given_append (n ∷ t ∷ w) (s ∷ []) g in called style c (a_name n i g.0, tt) (arguments_inner style ns false r p.0.1.1)
call_inner style {ns} {c} (call_type_row {n} {t} s {u} {w} {c = d} {xs} i h j rc o r m) g =
    let p = given_append (n ∷ t ∷ u ++ w) (s ∷ []) g in let q = given_append (n ∷ t ∷ u) w p.0 in
    called style c (a_name n i g.0, tt) (inner_append (type_marks d) (more_arguments_marks style xs) (type_inner rc q.0.1.1) (more_inner style ns false r q.1))

-- 3. Statements

made : (style : Brackets) → (l : Stmt-F Stmt Block) (n : ℕ) → AreInner (print_stmt style (stmt_layer style l) n) → AreInner (stmt_marks style (stmt_at l) n)
made style l n h = subst (λ (m : Indented). AreInner (m n)) (sym (stmt_written style l)) h

ended_inner : (ms : Marks) → AreInner ms → AreInner (ended ms)
ended_inner ms h = inner_append ms (ASign sign.Semicolon ∷ []) h (refl, tt)

to_place_inner : (style : Brackets) → (a : Expr) → AreInner (place_marks style a) → AreInner (to_place style a)
to_place_inner style a h = inner_append (place_marks style a) (spaced sign.Assign) h (tt, (refl, (tt, tt)))

tested_inner : (style : Brackets) → (w : Keyword) (a : Expr) (ms : Marks) → AreInner (value_marks style a) → AreInner ms → AreInner (tested style w a ++ Space ∷ ms)
tested_inner style w a ms h i = inner_append (tested style w a) (Space ∷ ms) (tt, (tt, in_brackets_inner (value_marks style a) h)) (tt, i)

close_inner : (n : ℕ) → AreInner (close_marks n)
close_inner n = (tt, (refl, tt))

mutual
  stmt_inner : (style : Brackets) → {ns : Names} {w : Word} {s : Stmt} (n : ℕ) → ReadsStmt ns w s → AreGiven w → AreInner (stmt_marks style s n)
  stmt_inner style {ns} n (st.assigns t e {u} {w} {a} {b} rp i r j) g =
      let p = given_append (u ++ t ∷ w) (e ∷ []) g in let q = given_append u (t ∷ w) p.0 in
      made style (Stmt-F.Assign a b) n (ended_inner (to_place style a ++ value_marks style b) (inner_append (to_place style a) (value_marks style b) (to_place_inner style a (place_inner style rp q.0)) (value_inner style ns false r q.1.1)))
  stmt_inner style n (st.calls e {w} {c} r i) g = let p = given_append w (e ∷ []) g in made style (Stmt-F.Call c) n (ended_inner (call_marks style c) (call_inner style r p.0))
  stmt_inner style n (st.stores t e {u} {w} {a} {c} rp i r j) g =
      let p = given_append (u ++ t ∷ w) (e ∷ []) g in let q = given_append u (t ∷ w) p.0 in
      made style (Stmt-F.Store a c) n (ended_inner (to_place style a ++ call_marks style c) (inner_append (to_place style a) (call_marks style c) (to_place_inner style a (place_inner style rp q.0)) (call_inner style r q.1.1)))
  stmt_inner style {ns} n (st.if_block {i = x} {t} s {u} {w} {a} {b} i j r h rb) g =
      let p = given_append (x ∷ t ∷ u) (s ∷ w) g in
      made style (Stmt-F.If a b None) n (inner_append (tested style keyword.If a ++ Space ∷ block_marks style b n) [] (tested_inner style keyword.If a (block_marks style b n) (value_inner style ns false r p.0.1.1) (block_inner style n rb p.1.1)) tt)
  stmt_inner style {ns} n (st.if_else {i = x} {t} s l {u} {w} {x = z} {a} {b} {d} i j r h rb m rd) g =
      let p = given_append (x ∷ t ∷ u ++ s ∷ w) (l ∷ z) g in let q = given_append (x ∷ t ∷ u) (s ∷ w) p.0 in
      made style (Stmt-F.If a b (Some d)) n (inner_append (tested style keyword.If a ++ Space ∷ block_marks style b n) (Space ∷ AKeyword keyword.Else ∷ Space ∷ block_marks style d n)
      (tested_inner style keyword.If a (block_marks style b n) (value_inner style ns false r q.0.1.1) (block_inner style n rb q.1.1)) (tt, (tt, (tt, block_inner style n rd p.1.1))))
  stmt_inner style {ns} n (st.if_goto {i = x} {t} s l {u} {w} {a} i j r h go) g =
      let p = given_append (x ∷ t ∷ u) (s ∷ w) g in
      made style (Stmt-F.IfGoto a (name_at l)) n (tested_inner style keyword.If a (goto_marks (name_at l)) (value_inner style ns false r p.0.1.1) (goto_inner go p.1.1))
  stmt_inner style n (st.goes l go) g = made style (Stmt-F.Goto (name_at l)) n (goto_inner go g)
  stmt_inner style n (st.labels {n = l} i j h) g = made style (Stmt-F.Label (name_at l)) n (a_name l i g.0, (refl, (tt, (refl, tt))))
  stmt_inner style {ns} n (st.switches {i = x} {t} s l d c q m {u} {w} {x = z} {a} {cs} i j r h k rs y f go e) g =
      let p = given_append (x ∷ t ∷ u ++ s ∷ l ∷ w ++ d ∷ c ∷ z) (q ∷ []) g in let p1 = given_append (x ∷ t ∷ u ++ s ∷ l ∷ w) (d ∷ c ∷ z) p.0 in let p2 = given_append (x ∷ t ∷ u) (s ∷ l ∷ w) p1.0 in
      made style (Stmt-F.Switch a cs (name_at m)) n
      (inner_append (tested style keyword.Switch a ++ Space ∷ ASign sign.OpenBrace ∷ cases_marks n cs ++ default_marks n (name_at m)) (close_marks n)
      (inner_append (tested style keyword.Switch a ++ Space ∷ ASign sign.OpenBrace ∷ cases_marks n cs) (default_marks n (name_at m))
      (tested_inner style keyword.Switch a (ASign sign.OpenBrace ∷ cases_marks n cs) (value_inner style ns false r p2.0.1.1) (refl, cases_inner n rs p2.1.1.1))
      (tt, (tt, (refl, (tt, goto_inner go p1.1.1.1))))) (close_inner n))
  stmt_inner style n (st.returns {t} i j) g = made style (Stmt-F.Return (at t) None) n (tt, (refl, tt))
  stmt_inner style {ns} n (st.returns_value {t} e {w} {a} i r j) g =
      let p = given_append (t ∷ w) (e ∷ []) g in
      made style (Stmt-F.Return (at t) (Some a)) n (tt, (tt, inner_append (value_marks style a) (ASign sign.Semicolon ∷ []) (value_inner style ns false r p.0.1) (refl, tt)))
  stmt_inner style n (st.blocks {b} r) g = made style (Stmt-F.Block b) n (block_inner style n r g)

  stmts_inner : (style : Brackets) → {ns : Names} {w : Word} {ss : List Stmt} (n : ℕ) → ReadsStmts ns w ss → AreGiven w → AreInner (lines n (map (stmt_marks style) ss))
  stmts_inner style n st.no_stmt g = tt
  stmts_inner style n (st.more_stmts {u} {w} {s} {ss} r rest) g =
      let p = given_append u w g in (tt, inner_append (stmt_marks style s n) (lines n (map (stmt_marks style) ss)) (stmt_inner style n r p.0) (stmts_inner style n rest p.1))

  block_inner : (style : Brackets) → {ns : Names} {w : Word} {b : Block} (n : ℕ) → ReadsBlock ns w b → AreGiven w → AreInner (block_marks style b n)
  block_inner style n (st.block_is {t} s {u} {w} {ls} {ss} i rl rs j) g =
      let p = given_append (t ∷ u ++ w) (s ∷ []) g in let q = given_append (t ∷ u) w p.0 in
      subst (λ (m : Indented). AreInner (m n)) (sym (block_written style ls ss (join (at t) (at s)))) (
        refl,
        inner_append (locals_marks (deeper n) ls ++ lines (deeper n) (map (stmt_marks style) ss)) (close_marks n)
            (inner_append (locals_marks (deeper n) ls) (lines (deeper n) (map (stmt_marks style) ss)) (locals_inner (deeper n) rl q.0.1) (stmts_inner style (deeper n) rs q.1)) (close_inner n),
      )

-- 4. Parts of items

fields_inner : (d : ℕ) {ns : Names} {w : Word} {ls : List Local} → ReadsFields ns w ls → AreGiven w → AreInner (locals_marks d ls)
fields_inner d no_field g = tt
fields_inner d (more_fields {u} {w} {l} {ls} r rest) g =
    let p = given_append u w g in (tt, inner_append (local_marks l) (locals_marks d ls) (local_inner r p.0) (fields_inner d rest p.1))

member_inner : {w : Word} {m : Member} → ReadsMember w m → AreGiven w → AreInner (member_line m)
member_inner (member_is {n} i j r) g = (tt, (a_name n i g.0, (tt, (refl, (tt, number_inner r g.1.1)))))

more_members_inner : {w : Word} {ms : List Member} → ReadsMoreMembers w ms → AreGiven w → AreInner (more_members_marks ms)
more_members_inner no_member g = tt
more_members_inner (more_members {u} {w} {m} {ms} i r rest) g =
    let p = given_append u w g.1 in (refl, inner_append (member_line m) (more_members_marks ms) (member_inner r p.0) (more_members_inner rest p.1))

parameter_inner : {ns : Names} {w : Word} {x : Parameter} → ReadsParameter ns w x → AreGiven w → AreInner (parameter_marks x)
parameter_inner (unnamed r h) g = type_inner r g
parameter_inner (named n {w} {c} r h i) g =
    let p = given_append w (n ∷ []) g in inner_append (declared_marks c) (Name n.bytes ∷ []) (declared_inner c (type_inner r p.0)) (a_name n i p.1.0, tt)

more_parameters_inner : {ns : Names} {w : Word} {ps : List Parameter} → ReadsMoreParameters ns w ps → AreGiven w → AreInner (more_parameters_marks ps)
more_parameters_inner no_parameter g = tt
more_parameters_inner (more_parameters {u} {w} {p = x} {ps} i r rest) g =
    let p = given_append u w g.1 in (refl, (tt, inner_append (parameter_marks x) (more_parameters_marks ps) (parameter_inner r p.0) (more_parameters_inner rest p.1)))

parameters_inner : {ns : Names} {w : Word} {ps : List Parameter} → ReadsParameters ns w ps → AreGiven w → AreInner (parameters_marks ps)
parameters_inner (none_taken i j h) g = (refl, (tt, (refl, tt)))
parameters_inner (some_taken {t} s {u} {w} {p = x} {ps} i r rest j) g =
    let p = given_append (t ∷ u ++ w) (s ∷ []) g in let q = given_append (t ∷ u) w p.0 in (
      refl,
      inner_append (parameter_marks x ++ more_parameters_marks ps) (ASign sign.CloseParen ∷ [])
          (inner_append (parameter_marks x) (more_parameters_marks ps) (parameter_inner r q.0.1) (more_parameters_inner rest q.1)) (refl, tt),
    )

static_inner : (b : Bool) → AreInner (static_marks b)
static_inner true = (tt, (tt, tt))
static_inner false = tt

signature_inner : {ns : Names} {w : Word} {s : Signature} → ReadsSignature ns w s → AreGiven w → AreInner (signature_marks s)
signature_inner (signature_is n {u} {v = z} {w} {b} {c} {ps} rb rc i rp h) g =
    let p = given_append (u ++ z) (n ∷ w) g in let q = given_append u z p.0 in
    inner_append (static_marks b ++ declared_marks c) (Name n.bytes ∷ Space ∷ parameters_marks ps)
    (inner_append (static_marks b) (declared_marks c) (static_inner b) (declared_inner c (type_inner rc q.1))) (a_name n i p.1.0, (tt, parameters_inner rp p.1.1))

-- a name by its bytes; a tag is a name by itself
spelled_inner : (t : Token) {x : List ℕ} → IsName t × (t.bytes ≡ x) → IsGiven t → IsInner (Name x)
spelled_inner t i g = subst (λ z. IsInner (Name z)) i.1 (a_name t i.0 g)

-- 5. Items

item_inner : (style : Brackets) → {ns : Names} {w : Word} {i : Item} → ReadsItem ns w i → AreGiven w → IsWritableItem style i
item_inner style (it.includes {h = f} a b c d e) g = subst (λ x. Said x f.bytes) e g.1.1.0
item_inner style (it.struct_type {g = t} {n} a b c d e) g = (tt, (tt, (tt, (tt, (spelled_inner t c g.1.1.0, (tt, (a_name n d g.1.1.1.0, (refl, tt))))))))
item_inner style (it.struct_is {s} {g = t} {l} r e {x} {w} {fs} a b c rf d f) g =
    let p = given_append (s ∷ t ∷ l ∷ w) (r ∷ e ∷ []) g in
    (tt, (tt, (spelled_inner t b g.1.0, (tt, (refl, inner_append (locals_marks 4 fs) closed_marks (fields_inner 4 rf p.0.1.1.1) (tt, (refl, (refl, tt))))))))
item_inner style (it.enum_is {t} {s} {l} r n e {u} {w} {m} {ms} a b c rm rms d f h) g =
    let p = given_append (t ∷ s ∷ l ∷ u ++ w) (r ∷ n ∷ e ∷ []) g in let q = given_append (t ∷ s ∷ l ∷ u) w p.0 in
    inner_append (enum_start_marks ++ members_marks (m ∷ ms)) (enum_end_marks (name_at n))
    (inner_append enum_start_marks (members_marks (m ∷ ms)) (tt, (tt, (tt, (tt, (refl, tt))))) (inner_append (member_line m) (more_members_marks ms) (member_inner rm q.0.1.1.1) (more_members_inner rms q.1)))
    (tt, (refl, (tt, (a_name n f p.1.1.0, (refl, tt)))))
item_inner style (it.function_type {t} o s n c e {u} {w} {r} {ps} a rc b d f h rp k) g =
    let p = given_append (t ∷ u ++ o ∷ s ∷ n ∷ c ∷ w) (e ∷ []) g in let q = given_append (t ∷ u) (o ∷ s ∷ n ∷ c ∷ w) p.0 in (
      tt,
      (
        tt,
        inner_append (declared_marks r ++ taken_by_pointer (name_at n) ps) (ASign sign.Semicolon ∷ [])
            (inner_append (declared_marks r) (taken_by_pointer (name_at n) ps) (declared_inner r (type_inner rc q.0.1)) (refl, (refl, (a_name n f q.1.1.1.0, (refl, (tt, parameters_inner rp q.1.1.1.1.1))))))
            (refl, tt),
      ),
    )
item_inner style (it.prototype e {w} {s} rs a) g = let p = given_append w (e ∷ []) g in inner_append (signature_marks s) (ASign sign.Semicolon ∷ []) (signature_inner rs p.0) (refl, tt)
item_inner style {ns} (it.static_variable {t} n a e {u} {w} {c} {x} b rc o d f rx h) g =
    let p = given_append (t ∷ u ++ n ∷ a ∷ w) (e ∷ []) g in let q = given_append (t ∷ u) (n ∷ a ∷ w) p.0 in (
      tt,
      (
        tt,
        inner_append (declared_marks c ++ set_marks style (name_at n) x) (ASign sign.Semicolon ∷ [])
            (inner_append (declared_marks c) (set_marks style (name_at n) x) (declared_inner c (type_inner rc q.0.1)) (a_name n d q.1.0, (tt, (refl, (tt, value_inner style ns true rx q.1.1.1)))))
            (refl, tt),
      ),
    )
item_inner style (it.interface_table {i = x} {n} {y} {f} i1 i2 i3 i4 i5 i6 i7 i8 i9 j1 j2 j3 j4 j5 j6 j7) g =
    let g3 = g.1.1.1 in let g7 = g3.1.1.1.1 in
    inner_append (interface_type_marks ++ Name n.bytes ∷ spaced sign.Assign) (table_marks (name_at f))
    (tt, (tt, (tt, (tt, (spelled_inner x i3 g.1.1.0, (tt, (a_name n i4 g3.0, (tt, (refl, (tt, tt))))))))))
    (refl, (tt, (refl, (spelled_inner y i8 g7.0, (refl, (tt, (a_name f j1 g7.1.1.0, (refl, (tt, (tt, (refl, (tt, (tt, (tt, (refl, (refl, tt))))))))))))))))
item_inner style (it.function_is {u} {w} {s} {b} rs names rb) g =
    let p = given_append u w g in inner_append (signature_marks s) (Line 0 ∷ block_marks style b 0) (signature_inner rs p.0) (tt, block_inner style 0 rb p.1)

-- ALL ITEMS that the tokens of bytes are read as can be written.
pub items_inner : (style : Brackets) → {ns : Names} {w : Word} {is : List Item} → ReadsItems ns w is → AreGiven w → AreWritableItems style is
items_inner style no_item g = tt
items_inner style (more_items {u} {w} r e rest) g = let p = given_append u w g in (item_inner style r p.0, items_inner style rest p.1)
