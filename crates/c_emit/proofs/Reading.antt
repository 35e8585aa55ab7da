-- The text that is written of the unit of a program is read as that unit.
use Rattle.std.proofs.Common.{◌≡◌, ◌∙◌, refl, sym, ap, ℕ, Bool, true, false, List, [], ◌∷◌, ◌++◌, map, codes, Some, None}
use Rattle.c_lexer.specs.declared.token.NumberType.TheVariants.{Gint}
use Rattle.c_lexer.specs.declared.token.Keyword.TheVariants as keyword
use Rattle.c_lexer.specs.declared.token.Sign.TheVariants as sign
use Rattle.c_lexer.specs.declared.token.TokenKind.{TokenKind}
use Rattle.c_lexer.specs.declared.token.TokenKind.TheVariants as k
use Rattle.c_lexer.specs.Spelling.{keyword_spelling, sign_spelling}
use Rattle.c_lexer.specs.Texts.{text_value}
use Rattle.c_tree.specs.declared.code.Expr.{Expr}
use Rattle.c_tree.specs.declared.code.Shape.TheVariants as shape
use Rattle.c_tree.specs.declared.code.Call.{Call}
use Rattle.c_tree.specs.declared.code.Callee.TheVariants as callee
use Rattle.c_tree.specs.declared.code.Stmt.{Stmt}
use Rattle.c_tree.specs.declared.code.Stmt.TheVariants as stmt
use Rattle.c_tree.specs.declared.code.Stmt.TheOpen.{Stmt-F}
use Rattle.c_tree.specs.declared.operators.Level.TheVariants as level
use Rattle.c_tree.specs.Make.{expr, name_at}
use Rattle.c_tree.specs.Bare.{nowhere, bare_expr}
use Rattle.c_tree.specs.Words.{Of, Token, Word, IsSign, is_shallow, at, join, plain, words_behind, Other}
use Rattle.c_tree.specs.Names.{Names, RowName, role_of}
use Rattle.c_tree.specs.Values as v
use Rattle.c_tree.specs.Values.{Value, Primary, no_link, operand, tightest, no_prefix, no_suffix, postfixed, chain, last_choice, no_argument, arguments, no_more}
use Rattle.c_tree.specs.Statements.{ReadsStmt, ReadsStmts, calls, call_row, returns_value, no_stmt, more_stmts}
use Rattle.c_printer.specs.Marks.{Name, AKeyword, Number, Chars, ASign, Space, Line, put_mark}
use Rattle.c_printer.specs.Put.{AreBytes, spelled_text, spelled_number}
use Rattle.c_printer.specs.Text.{Text}
use Rattle.c_printer.specs.Writable.{lexeme, lexemes}
use Rattle.c_printer.proofs.StatementReading.{stmt_bare}
use Rattle.c_emit.specs.Program.{Program as Texts, AreTexts}
use Rattle.c_emit.specs.Emission.{format_of, value, print_call, print_stmt, return_zero, statements}
use Rattle.c_emit.proofs.Formats.{format_text}
use Rattle.c_emit.proofs.Marks.{calls_marks, are_bytes}
use Rattle.c_emit.proofs.Trees.{bare_of_stmt, value_bare}

-- 1. Values of one token

abbrev Single : Names → Token → Expr → Type 0
Single ns x a = v.Reads ns false Primary (x ∷ []) a

at_level : {ns : Names} {l m : _} {x : Token} {a : Expr} → v.tighter l ≡ Some m → v.Reads ns false (v.Operand m) (x ∷ []) a
    → v.Reads ns false (v.Operand l) (x ∷ []) a
at_level {x} e r = operand e (chain {u = x ∷ []} {v = []} r no_link)

single : {ns : Names} {x : Token} {a : Expr} → Single ns x a → v.Reads ns false Value (x ∷ []) a
single {ns} {x} {a} r =
    let product : v.Reads ns false (v.Operand level.Product) (x ∷ []) a = tightest (no_prefix (postfixed {u = x ∷ []} {v = []} r no_suffix refl)) in
    let sum : v.Reads ns false (v.Operand level.Sum) (x ∷ []) a = at_level refl product in
    let shift : v.Reads ns false (v.Operand level.Shift) (x ∷ []) a = at_level refl sum in
    let relation : v.Reads ns false (v.Operand level.Relation) (x ∷ []) a = at_level refl shift in
    let equality : v.Reads ns false (v.Operand level.Equality) (x ∷ []) a = at_level refl relation in
    let bit_and : v.Reads ns false (v.Operand level.BitAnd) (x ∷ []) a = at_level refl equality in
    let bit_xor : v.Reads ns false (v.Operand level.BitXor) (x ∷ []) a = at_level refl bit_and in
    let bit_or : v.Reads ns false (v.Operand level.BitOr) (x ∷ []) a = at_level refl bit_xor in
    let both : v.Reads ns false (v.Operand level.And) (x ∷ []) a = at_level refl bit_or in
    let either : v.Reads ns false (v.Operand level.Or) (x ∷ []) a = at_level refl both in
    v.value (last_choice (chain {u = x ∷ []} {v = []} either no_link))

-- 2. The statements that are read

-- a token that is written behind a text
abbrev token : Text → Bool → List ℕ → TokenKind → Token
token t first w kind = plain (lexeme t first w kind)

-- `g_print (x);`, by its tokens
abbrev pub read_call : (n x c : Token) → Call
read_call n x c = record { callee = callee.Row (name_at n); type_argument = None; arguments = expr (shape.Text x.bytes) (at x) ∷ []; span = join (at n) (at c) }

-- `return 0;`
abbrev pub read_zero : Token → Expr
read_zero z = expr (shape.Number (record { value = 0; kind = Gint })) (at z)

-- a statement that was read of the program, with places
pub data IsRead : Texts → List Stmt → Type 0 where
  last : (r z : Token) → IsRead [] (stmt.Return (at r) (Some (read_zero z)) ∷ [])
  more : (n x c : Token) (text : List ℕ) {texts : Texts} {ss : List Stmt} → n.bytes ≡ codes "g_print" → x.bytes ≡ format_of text → IsRead texts ss
      → IsRead (text ∷ texts) (stmt.Call (read_call n x c) ∷ ss)

return_same : (r z : Token) → bare_of_stmt (stmt.Return (at r) (Some (read_zero z))) ≡ bare_of_stmt return_zero
return_same r z =
    stmt_bare (Stmt-F.Return (at r) (Some (read_zero z)))
    ∙ ap (λ e. stmt.Return nowhere (Some e)) (value_bare (shape.Number (record { value = 0; kind = Gint })) (at z) nowhere)
    ∙ sym (stmt_bare (Stmt-F.Return nowhere (Some (read_zero (record z { start = 0; end = 0 })))))

call_same : (n x c : Token) (text : List ℕ) → n.bytes ≡ codes "g_print" → x.bytes ≡ format_of text
    → bare_of_stmt (stmt.Call (read_call n x c)) ≡ bare_of_stmt (print_stmt text)
call_same n x c text e f =
    stmt_bare (Stmt-F.Call (read_call n x c))
    ∙ ap (λ (g : List ℕ). stmt.Call
    (record {
      callee = callee.Row (record { text = g; span = nowhere });
      type_argument = None;
      arguments =
          bare_expr (expr (shape.Text x.bytes) (at x)) ∷ [];
      span = nowhere;
    })) e
    ∙ ap (λ (g : Expr). stmt.Call
    (record { callee = callee.Row (record { text = codes "g_print"; span = nowhere }); type_argument = None; arguments = g ∷ []; span = nowhere }))
    (value_bare (shape.Text x.bytes) (at x) nowhere ∙ ap (λ (z : List ℕ). bare_expr (value (shape.Text z))) f)
    ∙ sym (stmt_bare (Stmt-F.Call (print_call text)))

pub all_same : (texts : Texts) (ss : List Stmt) → IsRead texts ss → map bare_of_stmt ss ≡ map bare_of_stmt (statements texts)
all_same _ _ (last r z) = ap (λ s. s ∷ []) (return_same r z)
all_same _ _ (more n x c text {texts} {ss} e f rest) = λ i. call_same n x c text e f i ∷ all_same texts ss rest i

-- 3. What stands behind `{`

-- the words of the statements, and the bracket behind them
pub record Closed (ns : Names) (texts : Texts) (w : Word) : Type 0 where
  pub front : Word
  pub close : Token
  pub statements : List Stmt
  pub is : w ≡ front ++ close ∷ []
  pub closes : IsSign close sign.CloseBrace
  pub reads : ReadsStmts ns front statements
  pub are : IsRead texts statements
  pub shallow : is_shallow (sign.OpenBrace ∷ []) w ≡ true

module _ (value_is : (bytes : List ℕ) → AreBytes bytes → text_value (spelled_text bytes) ≡ bytes) (ns : Names)
    (row : role_of ns (codes "g_print") ≡ RowName false) where
  tail_read : (t : Text) (f : Bool) → Closed ns [] (words_behind Other (lexemes t f (calls_marks [])))
  tail_read t f =
      let t1 : Text = put_mark t (Line 4) in
      let r : Token = token t1 true (keyword_spelling keyword.Return) (k.Keyword keyword.Return) in
      let t2 : Text = put_mark (put_mark t1 (AKeyword keyword.Return)) Space in
      let z : Token = token t2 false (spelled_number 0 Gint) (k.Number 0 Gint) in
      let t3 : Text = put_mark t2 (Number 0 Gint) in
      let e : Token = token t3 false (sign_spelling sign.Semicolon) (k.Sign sign.Semicolon) in
      let t4 : Text = put_mark (put_mark t3 (ASign sign.Semicolon)) (Line 0) in
      record {
        front = r ∷ z ∷ e ∷ [];
        close = token t4 true (sign_spelling sign.CloseBrace) (k.Sign sign.CloseBrace);
        statements = stmt.Return (at r) (Some (read_zero z)) ∷ [];
        is = refl;
        closes = refl;
        reads = more_stmts {u = r ∷ z ∷ e ∷ []} {w = []} (returns_value {t = r} e {w = z ∷ []} refl (single (v.number {t = z} refl)) refl) no_stmt;
        are = last r z;
        shallow = refl;
      }

  call_read : (n o x c e : Token) → n.terminal ≡ Of k.Identifier → n.bytes ≡ codes "g_print" → IsSign o sign.OpenParen → x.terminal ≡ Of k.Text
      → IsSign c sign.CloseParen → IsSign e sign.Semicolon
      → ReadsStmt ns (n ∷ o ∷ x ∷ c ∷ e ∷ []) (stmt.Call (read_call n x c))
  call_read n o x c e a b i j l m =
      calls e {w = n ∷ o ∷ x ∷ c ∷ []}
      (call_row {n = n} {t = o} c {w = x ∷ []} a (ap (role_of ns) b ∙ row) i (arguments {u = x ∷ []} {v = []} (single (v.text j)) no_more) l) m

  more_read : (text : List ℕ) (texts : Texts) (n o x c e : Token) (w : Word) → n.terminal ≡ Of k.Identifier → n.bytes ≡ codes "g_print"
      → IsSign o sign.OpenParen → x.terminal ≡ Of k.Text → x.bytes ≡ format_of text → IsSign c sign.CloseParen
      → IsSign e sign.Semicolon → is_shallow (sign.OpenBrace ∷ []) (n ∷ o ∷ x ∷ c ∷ e ∷ w) ≡ is_shallow (sign.OpenBrace ∷ []) w → Closed ns texts w
      → Closed ns (text ∷ texts) (n ∷ o ∷ x ∷ c ∷ e ∷ w)
  more_read text texts n o x c e w a b i j f l m s q =
      record {
        front = n ∷ o ∷ x ∷ c ∷ e ∷ q.front;
        close = q.close;
        statements = stmt.Call (read_call n x c) ∷ q.statements;
        is = ap (λ y. n ∷ o ∷ x ∷ c ∷ e ∷ y) q.is;
        closes = q.closes;
        reads = more_stmts {u = n ∷ o ∷ x ∷ c ∷ e ∷ []} {w = q.front} (call_read n o x c e a b i j l m) q.reads;
        are = more n x c text b f q.are;
        shallow = s ∙ q.shallow;
      }

  pub rest_read : (texts : Texts) → AreTexts texts → (t : Text) (f : Bool) → Closed ns texts (words_behind Other (lexemes t f (calls_marks texts)))
  rest_read [] h t f = tail_read t f
  rest_read (text ∷ texts) h t f =
      let t1 : Text = put_mark t (Line 4) in
      let n : Token = token t1 true (codes "g_print") k.Identifier in
      let t2 : Text = put_mark (put_mark t1 (Name (codes "g_print"))) Space in
      let o : Token = token t2 false (sign_spelling sign.OpenParen) (k.Sign sign.OpenParen) in
      let t3 : Text = put_mark t2 (ASign sign.OpenParen) in
      let x : Token = token t3 false (spelled_text (format_of text)) k.Text in
      let t4 : Text = put_mark t3 (Chars (format_of text)) in
      let c : Token = token t4 false (sign_spelling sign.CloseParen) (k.Sign sign.CloseParen) in
      let t5 : Text = put_mark t4 (ASign sign.CloseParen) in
      let e : Token = token t5 false (sign_spelling sign.Semicolon) (k.Sign sign.Semicolon) in
      let t6 : Text = put_mark t5 (ASign sign.Semicolon) in
      more_read text texts n o x c e (words_behind Other (lexemes t6 false (calls_marks texts))) refl refl refl refl
      (value_is (format_of text) (are_bytes (format_of text) (format_text text h.0))) refl refl refl (rest_read texts h.1 t6 false)
