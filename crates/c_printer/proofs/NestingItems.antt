-- Statements and items with the brackets that are needed nest no deeper than the tokens that are read as them.
use Rattle.std.proofs.Common.{◌≡◌, ◌∙◌, refl, sym, ap, subst, ℕ, Bool, true, false, List, [], ◌∷◌, ◌++◌, map, codes, append_assoc, append-nil, Option, Some, None, arith}
use Rattle.c_lexer.specs.declared.token.TokenKind.TheVariants as k
use Rattle.c_lexer.specs.declared.token.Constant.TheVariants as constant
use Rattle.c_lexer.specs.declared.token.Keyword.{Keyword}
use Rattle.c_lexer.specs.declared.token.Keyword.TheVariants as keyword
use Rattle.c_lexer.specs.declared.token.Sign.{Sign}
use Rattle.c_lexer.specs.declared.token.Sign.TheVariants as sign
use Rattle.c_tree.specs.declared.names.CType.{CType}
use Rattle.c_tree.specs.declared.names.SignedNumber.{SignedNumber}
use Rattle.c_tree.specs.declared.operators.Level.TheVariants as level
use Rattle.c_tree.specs.declared.code.Expr.{Expr}
use Rattle.c_tree.specs.declared.code.Local.{Local}
use Rattle.c_tree.specs.declared.code.Call.{Call}
use Rattle.c_tree.specs.declared.code.Case.{Case}
use Rattle.c_tree.specs.declared.code.Stmt.{Stmt}
use Rattle.c_tree.specs.declared.code.Stmt.TheOpen.{Stmt-F}
use Rattle.c_tree.specs.declared.code.Block.{Block}
use Rattle.c_tree.specs.declared.unit.Include.{Include}
use Rattle.c_tree.specs.declared.unit.Include.TheVariants as include
use Rattle.c_tree.specs.declared.unit.Item.{Item}
use Rattle.c_tree.specs.declared.unit.Member.{Member}
use Rattle.c_tree.specs.declared.unit.Parameter.{Parameter}
use Rattle.c_tree.specs.declared.unit.Signature.{Signature}
use Rattle.c_tree.specs.Words.{Of, Header, Token, Word, IsSign, IsWord, IsName, is_shallow, at, join}
use Rattle.c_tree.specs.Names.{Names}
use Rattle.c_tree.specs.Make.{name_at}
use Rattle.c_tree.specs.Statements as st
use Rattle.c_tree.specs.Statements.{ReadsStmt, ReadsStmts, ReadsBlock, ReadsLocal, local_is, ReadsLocals, no_local, more_locals, ReadsNumber, number_is, negative_is, ReadsCall, call_value, call_row, call_type_row, ReadsPlace, place_is, ReadsGoto, goto_is, ReadsCases, no_case, more_cases}
use Rattle.c_tree.specs.Items as it
use Rattle.c_tree.specs.Items.{ReadsMember, member_is, ReadsMoreMembers, no_member, more_members, ReadsFields, no_field, more_fields, ReadsParameter, unnamed, named, ReadsMoreParameters, no_parameter, more_parameters, ReadsParameters, none_taken, some_taken, ReadsStatic, not_static, is_static, ReadsSignature, signature_is, ReadsItem, ReadsItems, no_item, more_items}
use Rattle.c_printer.specs.declared.grade.Brackets.TheVariants.{Needed}
use Rattle.c_printer.specs.declared.group.Group.{Group}
use Rattle.c_printer.specs.Marks.{Marks, Name, ASign, Space, Line, token, word}
use Rattle.c_printer.specs.PutValues.{type_marks, value_marks, arguments_marks, more_arguments_marks}
use Rattle.c_printer.specs.PutStatements.{before_name, declared_marks, local_marks, locals_marks, callee_marks, call_marks, number_marks, goto_marks, place_marks, cases_marks, to_place, ended, deeper, Indented, lines, print_stmt, stmt_marks, block_marks}
use Rattle.c_printer.specs.PutItems.{member_line, more_members_marks, members_marks, enum_end_marks, closed_marks, parameter_marks, more_parameters_marks, parameters_marks, static_marks, signature_marks, taken_by_pointer, set_marks, include_marks, item_marks, group_of, is_close, between_items, items_marks}
use Rattle.c_printer.proofs.StatementReading.{nameless, local_word, call_word, stmt_at, stmt_layer, stmt_written, block_written, assign_word, test_word, if_word, else_word, switch_word, block_word}
use Rattle.c_printer.proofs.TypeReading.{word_append}
use Rattle.c_printer.proofs.Nesting.{Under, loosened, nothing, append, both, grouped, AllQuiet, quiet_under, same_quiet, one, a_name, a_keyword, a_sign, a_colon, next, parens, braces, enclosed, enclosed_then, enclosed_marks}
use Rattle.c_printer.proofs.NestingValues.{type_under, value_under, operand_under, callee_under, arguments_under, more_under}

-- 1. Parts of statements

semicolon : (t : Token) → IsSign t sign.Semicolon → Under false (t ∷ []) (token (k.Sign sign.Semicolon) [] ∷ [])
semicolon t i = a_sign false t sign.Semicolon (λ o. refl) i

comma : (t : Token) → IsSign t sign.Comma → Under false (t ∷ []) (token (k.Sign sign.Comma) [] ∷ [])
comma t i = a_sign false t sign.Comma (λ o. refl) i

declared_under : {q : Bool} {w : Word} (c : CType) → Under q w (word (type_marks c)) → Under q w (word (declared_marks c))
declared_under {q} {w} c h = subst (Under q w) (sym (word_append (type_marks c) (before_name c.stars) ∙ ap (λ z. word (type_marks c) ++ z) (nameless c.stars) ∙ append-nil (word (type_marks c)))) h

local_under : {ns : Names} {w : Word} {l : Local} → ReadsLocal ns w l → Under false w (word (local_marks l))
local_under {w = all} {l} (local_is n e {w} {c} r h i j) = subst (Under false all) (sym (local_word l)) (append (type_under r) (next (a_name false n n.bytes i) (semicolon e j)))

locals_under : (d : ℕ) {ns : Names} {w : Word} {ls : List Local} → ReadsLocals ns w ls → Under false w (word (locals_marks d ls))
locals_under d no_local = nothing false
locals_under d (more_locals {l} {ls} r rest) = both (local_marks l) (locals_marks d ls) (local_under r) (locals_under d rest)

number_under : {w : Word} {x : SignedNumber} → ReadsNumber w x → Under false w (word (number_marks x))
number_under (number_is {t} {n} {y} i) = one false (Of (k.Number n y)) t (token (k.Number n y) []) (λ o. refl) i refl
number_under (negative_is {s} {t} {n} {y} i j) = next (a_sign false s sign.Minus (λ o. refl) i) (one false (Of (k.Number n y)) t (token (k.Number n y) []) (λ o. refl) j refl)

goto_under : {w : Word} {n : Token} → ReadsGoto w n → Under false w (word (goto_marks (name_at n)))
goto_under (goto_is {t} {n} {e} i j h) = next (a_keyword false t keyword.Goto i) (next (a_name false n n.bytes j) (semicolon e h))

place_under : {ns : Names} {w : Word} {a : Expr} → ReadsPlace ns w a → Under false w (word (place_marks Needed a))
place_under {ns} (place_is {a} r h) = loosened (operand_under ns false level.Product a r)

cases_under : (d : ℕ) {w : Word} {cs : List Case} → ReadsCases w cs → Under false w (word (cases_marks d cs))
cases_under d no_case = nothing false
cases_under d (more_cases {t} s n {u} {v = z} {w} {x} {cs} i r j h rest) =
    next {w = u ++ s ∷ z ++ w} (a_keyword false t keyword.Case i)
    (both {u = u ++ s ∷ z} (number_marks x ++ ASign sign.Colon ∷ Space ∷ goto_marks (name_at n)) (cases_marks d cs)
    (both {u = u} {w = s ∷ z} (number_marks x) (ASign sign.Colon ∷ Space ∷ goto_marks (name_at n)) (number_under r) (next (a_colon s j) (goto_under h))) (cases_under d rest))

-- 2. Calls

call_under : {ns : Names} {w : Word} {c : Call} → ReadsCall ns w c → Under false w (word (call_marks Needed c))
call_under {ns} {w = all} {c} (call_value t s {u} {w} {a} {xs} ra i r j) = subst (Under false all) (sym (call_word Needed c))
    (grouped u (t ∷ w) (s ∷ []) (word (callee_marks Needed c.callee)) (token (k.Sign sign.OpenParen) [] ∷ word (arguments_marks Needed xs)) (token (k.Sign sign.CloseParen) [] ∷ [])
    (append (loosened (callee_under ns false a ra)) (enclosed false sign.OpenParen sign.CloseParen (parens true) t s i j (arguments_under ns false r))))
call_under {ns} {w = all} {c} (call_row {n} {t} s {w} {xs} i h j r m) = subst (Under false all) (sym (call_word Needed c))
    (next {w = t ∷ w ++ s ∷ []} (a_name false n n.bytes i) (enclosed false sign.OpenParen sign.CloseParen (parens true) t s j m (arguments_under ns false r)))
call_under {ns} {w = all} {c} (call_type_row {n} {t} s {u} {w} {c = d} {xs} i h j rc o r m) = subst (Under false all) (sym (call_word Needed c))
    (next {w = t ∷ (u ++ w) ++ s ∷ []} (a_name false n n.bytes i) (enclosed false sign.OpenParen sign.CloseParen (parens true) t s j m
    (both (type_marks d) (more_arguments_marks Needed xs) (type_under rc) (more_under ns false r))))

-- 3. Statements

made : {w : Word} (l : Stmt-F Stmt Block) (n : ℕ) → Under false w (word (print_stmt Needed (stmt_layer Needed l) n)) → Under false w (word (stmt_marks Needed (stmt_at l) n))
made {w} l n h = subst (λ (m : Indented). Under false w (word (m n))) (sym (stmt_written Needed l)) h

assign_under : (t e : Token) {u w : Word} (a : Expr) (ms : Marks) → IsSign t sign.Assign → IsSign e sign.Semicolon → Under false u (word (place_marks Needed a)) → Under false w (word ms) → Under false (u ++ t ∷ w ++ e ∷ []) (word (ended (to_place Needed a ++ ms)))
assign_under t e {u} {w} a ms i j h r = subst (Under false (u ++ t ∷ w ++ e ∷ [])) (sym (assign_word Needed a ms))
    (append {u = u ++ t ∷ w} (append {w = t ∷ w} h (next (a_sign false t sign.Assign (λ o. refl) i) r)) (semicolon e j))

tested_under : (x t s : Token) (w : Keyword) (a : Expr) {u v : Word} (ms : Marks) → IsWord x w → IsSign t sign.OpenParen → IsSign s sign.CloseParen → Under true u (word (value_marks Needed a)) → Under false v (word ms)
    → Under false (x ∷ t ∷ u ++ s ∷ v) (token (k.Keyword w) [] ∷ token (k.Sign sign.OpenParen) [] ∷ word (value_marks Needed a) ++ token (k.Sign sign.CloseParen) [] ∷ word ms)
tested_under x t s w a ms i j h r more = next (a_keyword false x w i) (enclosed_then sign.OpenParen sign.CloseParen (parens true) t s j h r more)

mutual
  stmt_under : {ns : Names} {w : Word} {s : Stmt} (n : ℕ) → ReadsStmt ns w s → Under false w (word (stmt_marks Needed s n))
  stmt_under {ns} n (st.assigns t e {a} {b} rp i r j) = made (Stmt-F.Assign a b) n (assign_under t e a (value_marks Needed b) i j (place_under rp) (loosened (value_under ns false r)))
  stmt_under n (st.calls e {c} r i) = made (Stmt-F.Call c) n (both (Rattle.c_printer.specs.PutStatements.call_marks Needed c) (ASign sign.Semicolon ∷ []) (call_under r) (semicolon e i))
  stmt_under n (st.stores t e {a} {c} rp i r j) = made (Stmt-F.Store a c) n (assign_under t e a (call_marks Needed c) i j (place_under rp) (call_under r))
  stmt_under {ns} {w = all} n (st.if_block {i = x} {t} s {a} {b} i j r h rb) = made (Stmt-F.If a b None) n (subst (Under false all) (sym (if_word Needed a (block_marks Needed b n)))
      (tested_under x t s keyword.If a (block_marks Needed b n) i j h (value_under ns false r) (block_under n rb)))
  stmt_under {ns} {w = all} n (st.if_else {i = x} {t} s l {u} {w} {x = z} {a} {b} {d} i j r h rb m rd) = made (Stmt-F.If a b (Some d)) n (subst (Under false all) (sym (else_word Needed a (block_marks Needed b n) (block_marks Needed d n)))
      (append {u = x ∷ t ∷ u ++ s ∷ w} {w = l ∷ z} (tested_under x t s keyword.If a (block_marks Needed b n) i j h (value_under ns false r) (block_under n rb)) (next (a_keyword false l keyword.Else m) (block_under n rd))))
  stmt_under {ns} {w = all} n (st.if_goto {i = x} {t} s l {a} i j r h go) = made (Stmt-F.IfGoto a (name_at l)) n (subst (Under false all) (sym (test_word Needed keyword.If a (goto_marks (name_at l))))
      (tested_under x t s keyword.If a (goto_marks (name_at l)) i j h (value_under ns false r) (goto_under go)))
  stmt_under n (st.goes l go) = made (Stmt-F.Goto (name_at l)) n (goto_under go)
  stmt_under n (st.labels {n = l} {c} {e} i j h) = made (Stmt-F.Label (name_at l)) n (next (a_name false l l.bytes i) (next (a_colon c j) (semicolon e h)))
  stmt_under {ns} {w = all} n (st.switches {i = x} {t} s l d c q m {u} {w} {x = z} {a} {cs} i j r h k1 rs y f go e) = made (Stmt-F.Switch a cs (name_at m)) n
      (subst (Under false all) (sym (switch_word Needed a n (cases_marks n cs) (goto_marks (name_at m)))) (switched x t s l d c q m u w z a cs i j r h k1 rs y f go e))
    where
      switched : (x t s l d c q m : Token) (u w z : Word) (a : Expr) (cs : List Case) → IsWord x keyword.Switch → IsSign t sign.OpenParen → Rattle.c_tree.specs.Values.Reads ns false Rattle.c_tree.specs.Values.Value u a → IsSign s sign.CloseParen
          → IsSign l sign.OpenBrace → ReadsCases w cs → IsWord d keyword.Default → IsSign c sign.Colon → ReadsGoto z m → IsSign q sign.CloseBrace
          → Under false (x ∷ t ∷ u ++ s ∷ l ∷ w ++ d ∷ c ∷ z ++ q ∷ [])
          (token (k.Keyword keyword.Switch) [] ∷ token (k.Sign sign.OpenParen) [] ∷ word (value_marks Needed a) ++ token (k.Sign sign.CloseParen) [] ∷ token (k.Sign sign.OpenBrace) [] ∷ word (cases_marks n cs)
          ++ token (k.Keyword keyword.Default) [] ∷ token (k.Sign sign.Colon) [] ∷ word (goto_marks (name_at m)) ++ token (k.Sign sign.CloseBrace) [] ∷ [])
      switched x t s l d c q m u w z a cs i j r h k1 rs y f go e =
          let ve : Word = word (value_marks Needed a) in
          let ce : Word = word (cases_marks n cs) in
          let dc : Word = token (k.Keyword keyword.Default) [] ∷ token (k.Sign sign.Colon) [] ∷ word (goto_marks (name_at m)) in
          grouped (x ∷ t ∷ u ++ s ∷ l ∷ w) (d ∷ c ∷ z) (q ∷ []) (token (k.Keyword keyword.Switch) [] ∷ token (k.Sign sign.OpenParen) [] ∷ ve ++ token (k.Sign sign.CloseParen) [] ∷ token (k.Sign sign.OpenBrace) [] ∷ ce) dc (token (k.Sign sign.CloseBrace) [] ∷ [])
          (grouped (x ∷ t ∷ u) (s ∷ l ∷ w) ((d ∷ c ∷ z) ++ q ∷ []) (token (k.Keyword keyword.Switch) [] ∷ token (k.Sign sign.OpenParen) [] ∷ ve) (token (k.Sign sign.CloseParen) [] ∷ token (k.Sign sign.OpenBrace) [] ∷ ce) (dc ++ token (k.Sign sign.CloseBrace) [] ∷ [])
          (next (a_keyword false x keyword.Switch i)
          (enclosed_then sign.OpenParen sign.CloseParen (parens true) t s j h (value_under ns false r)
          (subst (λ v. Under false (l ∷ v) (token (k.Sign sign.OpenBrace) [] ∷ ce ++ (dc ++ token (k.Sign sign.CloseBrace) [] ∷ []))) (append_assoc w (d ∷ c ∷ z) (q ∷ []))
          (subst (λ v. Under false (l ∷ (w ++ d ∷ c ∷ z) ++ q ∷ []) (token (k.Sign sign.OpenBrace) [] ∷ v)) (append_assoc ce dc (token (k.Sign sign.CloseBrace) [] ∷ []))
          (enclosed false sign.OpenBrace sign.CloseBrace (braces false) l q k1 e
          (append (cases_under n rs) (next (a_keyword false d keyword.Default y) (next (a_colon c f) (goto_under go))))))))))
  stmt_under n (st.returns {t} {e} i j) = made (Stmt-F.Return (at t) None) n (next (a_keyword false t keyword.Return i) (semicolon e j))
  stmt_under {ns} n (st.returns_value {t} e {w} {a} i r j) = made (Stmt-F.Return (at t) (Some a)) n
      (next {w = w ++ e ∷ []} (a_keyword false t keyword.Return i) (both (value_marks Needed a) (ASign sign.Semicolon ∷ []) (loosened (value_under ns false r)) (semicolon e j)))
  stmt_under n (st.blocks {b} r) = made (Stmt-F.Block b) n (block_under n r)

  stmts_under : {ns : Names} {w : Word} {ss : List Stmt} (n : ℕ) → ReadsStmts ns w ss → Under false w (word (lines n (map (stmt_marks Needed) ss)))
  stmts_under n st.no_stmt = nothing false
  stmts_under n (st.more_stmts {s} {ss} r rest) = both (stmt_marks Needed s n) (lines n (map (stmt_marks Needed) ss)) (stmt_under n r) (stmts_under n rest)

  block_under : {ns : Names} {w : Word} {b : Block} (n : ℕ) → ReadsBlock ns w b → Under false w (word (block_marks Needed b n))
  block_under {w = all} n (st.block_is {t} s {u} {w} {ls} {ss} i rl rs j) =
      subst (λ (m : Indented). Under false all (word (m n))) (sym (block_written Needed ls ss (join (at t) (at s))))
      (subst (Under false all) (sym (block_word n (locals_marks (deeper n) ls) (lines (deeper n) (map (stmt_marks Needed) ss))))
      (enclosed false sign.OpenBrace sign.CloseBrace (braces false) t s i j (append (locals_under (deeper n) rl) (stmts_under (deeper n) rs))))

-- 4. Parts of items

fields_under : (d : ℕ) {ns : Names} {w : Word} {ls : List Local} → ReadsFields ns w ls → Under false w (word (locals_marks d ls))
fields_under d no_field = nothing false
fields_under d (more_fields {l} {ls} r rest) = both (local_marks l) (locals_marks d ls) (local_under r) (fields_under d rest)

member_under : {w : Word} {m : Member} → ReadsMember w m → Under false w (word (member_line m))
member_under (member_is {n} {e} i j r) = next (a_name false n n.bytes i) (next (a_sign false e sign.Assign (λ o. refl) j) (number_under r))

more_members_under : {w : Word} {ms : List Member} → ReadsMoreMembers w ms → Under false w (word (more_members_marks ms))
more_members_under no_member = nothing false
more_members_under (more_members {t} {m} {ms} i r rest) = next (comma t i) (both (member_line m) (more_members_marks ms) (member_under r) (more_members_under rest))

parameter_under : {ns : Names} {w : Word} {x : Parameter} → ReadsParameter ns w x → Under false w (word (parameter_marks x))
parameter_under (unnamed r h) = type_under r
parameter_under (named n {c} r h i) = both (declared_marks c) (Name n.bytes ∷ []) (declared_under c (type_under r)) (a_name false n n.bytes i)

more_parameters_under : {ns : Names} {w : Word} {ps : List Parameter} → ReadsMoreParameters ns w ps → Under false w (word (more_parameters_marks ps))
more_parameters_under no_parameter = nothing false
more_parameters_under (more_parameters {t} {p = x} {ps} i r rest) = next (comma t i) (both (parameter_marks x) (more_parameters_marks ps) (parameter_under r) (more_parameters_under rest))

parameters_under : {ns : Names} {w : Word} {ps : List Parameter} → ReadsParameters ns w ps → Under false w (word (parameters_marks ps))
parameters_under (none_taken {t} {x} {s} i j h) = enclosed false sign.OpenParen sign.CloseParen (parens false) t s i h (a_keyword false x keyword.Void j)
parameters_under (some_taken {t} s {p = x} {ps} i r rest j) = enclosed_marks false sign.OpenParen sign.CloseParen (parens false) t s i j (parameter_marks x ++ more_parameters_marks ps)
    (both (parameter_marks x) (more_parameters_marks ps) (parameter_under r) (more_parameters_under rest))

static_under : {w : Word} {b : Bool} → ReadsStatic w b → Under false w (word (static_marks b))
static_under not_static = nothing false
static_under (is_static {t} i) = a_keyword false t keyword.Static i

signature_under : {ns : Names} {w : Word} {s : Signature} → ReadsSignature ns w s → Under false w (word (signature_marks s))
signature_under (signature_is n {b} {c} {ps} rb rc i rp h) =
    both (static_marks b ++ declared_marks c) (Name n.bytes ∷ Space ∷ parameters_marks ps)
    (both (static_marks b) (declared_marks c) (static_under rb) (declared_under c (type_under rc))) (next (a_name false n n.bytes i) (parameters_under rp))

-- 5. Items

file_quiet : (f : Include) → AllQuiet (word (include_marks f))
file_quiet include.Glib = (λ o. refl, (λ o. refl, (λ o. refl, (λ o. refl, (λ o. refl, (λ o. refl, (λ o. refl, tt)))))))
file_quiet include.GlibObject = (λ o. refl, (λ o. refl, (λ o. refl, (λ o. refl, (λ o. refl, (λ o. refl, (λ o. refl, (λ o. refl, (λ o. refl, tt)))))))))
file_quiet include.Gio = (λ o. refl, (λ o. refl, (λ o. refl, (λ o. refl, (λ o. refl, (λ o. refl, (λ o. refl, (λ o. refl, (λ o. refl, tt)))))))))
file_quiet include.String = (λ o. refl, (λ o. refl, (λ o. refl, (λ o. refl, (λ o. refl, (λ o. refl, (λ o. refl, tt)))))))
file_quiet include.Stdlib = (λ o. refl, (λ o. refl, (λ o. refl, (λ o. refl, (λ o. refl, (λ o. refl, (λ o. refl, tt)))))))
file_quiet (include.Own x) = (λ o. refl, (λ o. refl, (λ o. refl, tt)))

-- a name by its bytes, whatever they are
spelled : (t : Token) (x : List ℕ) {y : List ℕ} → IsName t × (t.bytes ≡ y) → Under false (t ∷ []) (token k.Identifier x ∷ [])
spelled t x i = a_name false t x i.0

a_null : (t : Token) → it.IsNull t → Under false (t ∷ []) (token (k.Constant constant.Null) [] ∷ [])
a_null t i = one false (Of (k.Constant constant.Null)) t (token (k.Constant constant.Null) []) (λ o. refl) i refl

item_under : {ns : Names} {w : Word} {i : Item} → ReadsItem ns w i → Under false w (word (item_marks Needed i))
item_under (it.includes {t} {i = x} {h = y} {f} a b c d e) = quiet_under false t (x ∷ y ∷ []) (word (include_marks f))
    (same_quiet (Of (k.Sign sign.Hash)) t (λ o. refl) a, (same_quiet (Of k.Identifier) x (λ o. refl) c.0, (same_quiet (Header f) y (λ o. refl) e, tt))) (file_quiet f)
item_under (it.struct_type {t} {s} {g} {n} {e} a b c d f) =
    next (a_keyword false t keyword.Typedef a) (next (a_keyword false s keyword.Struct b) (next (spelled g (95 ∷ n.bytes) c) (next (a_name false n n.bytes d) (semicolon e f))))
item_under (it.struct_is {s} {g} {l} r e {x} {w} {fs} a b c rf d f) =
    next (a_keyword false s keyword.Struct a) (next (spelled g (95 ∷ x) b)
    (subst (λ z. Under false (l ∷ w ++ r ∷ e ∷ []) (token (k.Sign sign.OpenBrace) [] ∷ z)) (sym (word_append (locals_marks 4 fs) closed_marks))
    (enclosed_then sign.OpenBrace sign.CloseBrace (braces false) l r c d (fields_under 4 rf) (semicolon e f))))
item_under (it.enum_is {t} {s} {l} r n e {u} {w} {m} {ms} a b c rm rms d f h) =
    next (a_keyword false t keyword.Typedef a) (next (a_keyword false s keyword.Enum b)
    (subst (λ z. Under false (l ∷ u ++ w ++ r ∷ n ∷ e ∷ []) (token (k.Sign sign.OpenBrace) [] ∷ z)) (sym (word_append (members_marks (m ∷ ms)) (enum_end_marks (name_at n))))
    (enclosed_then sign.OpenBrace sign.CloseBrace (braces false) l r c d (both (member_line m) (more_members_marks ms) (member_under rm) (more_members_under rms)) (next (a_name false n n.bytes f) (semicolon e h)))))
item_under (it.function_type {t} o s n c e {u} {w} {r} {ps} a rc b d f h rp m) =
    next {w = u ++ o ∷ s ∷ n ∷ c ∷ w ++ e ∷ []} (a_keyword false t keyword.Typedef a)
    (both {u = u ++ o ∷ s ∷ n ∷ c ∷ w} (declared_marks r ++ taken_by_pointer (name_at n) ps) (ASign sign.Semicolon ∷ [])
    (both {w = o ∷ s ∷ n ∷ c ∷ w} (declared_marks r) (taken_by_pointer (name_at n) ps) (declared_under r (type_under rc))
    (enclosed_then sign.OpenParen sign.CloseParen (parens false) o c b h {w = s ∷ n ∷ []} {z = token (k.Sign sign.Star) [] ∷ token k.Identifier n.bytes ∷ []} (next (a_sign false s sign.Star (λ o. refl) d) (a_name false n n.bytes f)) (parameters_under rp)))
    (semicolon e m))
item_under (it.prototype e {s} rs a) = both (signature_marks s) (ASign sign.Semicolon ∷ []) (signature_under rs) (semicolon e a)
item_under {ns} (it.static_variable {t} n a e {u} {w} {c} {x} b rc o d f rx h) =
    next {w = u ++ n ∷ a ∷ w ++ e ∷ []} (a_keyword false t keyword.Static b)
    (both {u = u ++ n ∷ a ∷ w} (declared_marks c ++ set_marks Needed (name_at n) x) (ASign sign.Semicolon ∷ [])
    (both {w = n ∷ a ∷ w} (declared_marks c) (set_marks Needed (name_at n) x) (declared_under c (type_under rc)) (next (a_name false n n.bytes d) (next (a_sign false a sign.Assign (λ o. refl) f) (loosened (value_under ns true rx)))))
    (semicolon e h))
item_under (it.interface_table {t} {c} {i = x} {n} {a} {l} {p} {y} {q} {f} {d} {x = v} {m} {z} {r} {e} i1 i2 i3 i4 i5 i6 i7 i8 i9 j1 j2 j3 j4 j5 j6 j7) =
    next (a_keyword false t keyword.Static i1) (next (a_keyword false c keyword.Const i2) (next (spelled x (codes "GInterfaceInfo") i3) (next (a_name false n n.bytes i4) (next (a_sign false a sign.Assign (λ o. refl) i5)
    (enclosed_then sign.OpenBrace sign.CloseBrace (braces false) l r i6 j6 {w = p ∷ y ∷ q ∷ f ∷ d ∷ v ∷ m ∷ z ∷ []}
    {z = token (k.Sign sign.OpenParen) [] ∷ token k.Identifier (codes "GInterfaceInitFunc") ∷ token (k.Sign sign.CloseParen) [] ∷ token k.Identifier f.bytes ∷ token (k.Sign sign.Comma) [] ∷ token (k.Constant constant.Null) [] ∷ token (k.Sign sign.Comma) [] ∷ token (k.Constant constant.Null) [] ∷ []}
    (enclosed_then sign.OpenParen sign.CloseParen (parens false) p q i7 i9 {w = y ∷ []} {z = token k.Identifier (codes "GInterfaceInitFunc") ∷ []} (spelled y (codes "GInterfaceInitFunc") i8)
    (next (a_name false f f.bytes j1) (next (comma d j2) (next (a_null v j3) (next (comma m j4) (a_null z j5))))))
    (semicolon e j7))))))
item_under (it.function_is {s} {b} rs names rb) = both (signature_marks s) (Line 0 ∷ block_marks Needed b 0) (signature_under rs) (block_under 0 rb)

between_word : (o : Option Group) (g : Group) (ms : Marks) → word (between_items o g ++ ms) ≡ word ms
between_word None g ms = refl
between_word (Some f) g ms = go (is_close f g)
  where
    go : (b : Bool) → word (Rattle.std.proofs.Common.cond b (Line 0 ∷ []) (Line 0 ∷ Line 0 ∷ []) ++ ms) ≡ word ms
    go true = refl
    go false = refl

items_under : {ns : Names} {w : Word} {is : List Item} (o : Option Group) → ReadsItems ns w is → Under false w (word (items_marks Needed o is))
items_under o no_item = nothing false
items_under {w = all} o (more_items {i} {is} r e rest) =
    both (between_items o (group_of i) ++ item_marks Needed i) (items_marks Needed (Some (group_of i)) is)
    (subst (Under false _) (sym (between_word o (group_of i) (item_marks Needed i))) (item_under r)) (items_under (Some (group_of i)) rest)

-- WHAT IS WRITTEN with the brackets that are needed nests no deeper than the tokens that are read as it.
pub needed_nests : {ns : Names} {w : Word} {is : List Item} → ReadsItems ns w is → is_shallow [] w ≡ true → is_shallow [] (word (items_marks Needed None is ++ Line 0 ∷ [])) ≡ true
needed_nests {w} {is} r h =
    let u = items_under None r in
    ap (is_shallow []) (word_append (items_marks Needed None is) (Line 0 ∷ []) ∙ append-nil (word (items_marks Needed None is)))
    ∙ u.shallow [] [] refl refl (omega arith) h
