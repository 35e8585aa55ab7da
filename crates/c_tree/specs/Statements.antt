-- The grammar of declarations, statements and blocks, one case for each production.
use Rattle.std.specs.Prelude.{◌≡◌, ℕ, true, false, List, [], ◌∷◌, ◌++◌, Some, None}
use Rattle.c_lexer.specs.declared.token.NumberType.{NumberType}
use Rattle.c_lexer.specs.declared.token.TokenKind.TheVariants as k
use Rattle.c_lexer.specs.declared.token.Keyword.TheVariants as keyword
use Rattle.c_lexer.specs.declared.token.Sign.TheVariants as sign
use Rattle.c_tree.specs.declared.names.CType.{CType}
use Rattle.c_tree.specs.declared.names.SignedNumber.{SignedNumber}
use Rattle.c_tree.specs.declared.code.Expr.{Expr}
use Rattle.c_tree.specs.declared.code.Local.{Local}
use Rattle.c_tree.specs.declared.code.Callee.TheVariants as callee
use Rattle.c_tree.specs.declared.code.Call.{Call}
use Rattle.c_tree.specs.declared.code.Case.{Case}
use Rattle.c_tree.specs.declared.code.Stmt.{Stmt}
use Rattle.c_tree.specs.declared.code.Stmt.TheVariants as stmt
use Rattle.c_tree.specs.declared.code.Block.{Block}
use Rattle.c_tree.specs.Words.{Of, Token, Word, IsSign, IsWord, IsName, at, join}
use Rattle.c_tree.specs.Names.{Names, RowName, role_of, with_local, with_locals}
use Rattle.c_tree.specs.Types.{ReadsType, is_object}
use Rattle.c_tree.specs.Make.{name_at, span_of, block}
use Rattle.c_tree.specs.Values as v
use Rattle.c_tree.specs.Values.{Value, Operand, Postfixed, Arguments, MoreArguments, Prefixed, is_place}
use Rattle.c_tree.specs.declared.operators.Level.TheVariants as level

-- `T x;`, of a variable or a field
pub data ReadsLocal (ns : Names) : Word → Local → Type 0 where
  local_is : (n e : Token) → {w : Word} {c : CType} → ReadsType ns true w c → is_object c ≡ true → IsName n → IsSign e sign.Semicolon → ReadsLocal ns (w ++ n ∷ e ∷ []) (record { declared = c; name = name_at n })

-- any number of declarations, each in the scope of those before it
pub data ReadsLocals : Names → Word → List Local → Type 0 where
  no_local : {ns : Names} → ReadsLocals ns [] []
  more_locals : {ns : Names} {u w : Word} {l : Local} {ls : List Local} → ReadsLocal ns u l → ReadsLocals (with_local ns l) w ls → ReadsLocals ns (u ++ w) (l ∷ ls)

-- a number, or `-` and a number
pub data ReadsNumber : Word → SignedNumber → Type 0 where
  number_is : {t : Token} {n : ℕ} {y : NumberType} → t.terminal ≡ Of (k.Number n y) → ReadsNumber (t ∷ []) (record { is_negative = false; number = record { value = n; kind = y } })
  negative_is : {s t : Token} {n : ℕ} {y : NumberType} → IsSign s sign.Minus → t.terminal ≡ Of (k.Number n y) → ReadsNumber (s ∷ t ∷ []) (record { is_negative = true; number = record { value = n; kind = y } })

-- A call. The name of a function of the library stands before its brackets and nowhere else.
pub data ReadsCall (ns : Names) : Word → Call → Type 0 where
  call_value : (t s : Token) → {u w : Word} {a : Expr} {xs : List Expr} → v.Reads ns false Postfixed u a → IsSign t sign.OpenParen → v.Reads ns false Arguments w xs → IsSign s sign.CloseParen
      → ReadsCall ns (u ++ t ∷ w ++ s ∷ []) (record { callee = callee.Value a; type_argument = None; arguments = xs; span = join (span_of a) (at s) })
  call_row : {n t : Token} (s : Token) → {w : Word} {xs : List Expr} → IsName n → role_of ns n.bytes ≡ RowName false → IsSign t sign.OpenParen → v.Reads ns false Arguments w xs → IsSign s sign.CloseParen
      → ReadsCall ns (n ∷ t ∷ w ++ s ∷ []) (record { callee = callee.Row (name_at n); type_argument = None; arguments = xs; span = join (at n) (at s) })
  call_type_row : {n t : Token} (s : Token) → {u w : Word} {c : CType} {xs : List Expr} → IsName n → role_of ns n.bytes ≡ RowName true → IsSign t sign.OpenParen → ReadsType ns true u c → is_object c ≡ true
      → v.Reads ns false MoreArguments w xs → IsSign s sign.CloseParen → ReadsCall ns (n ∷ t ∷ u ++ w ++ s ∷ []) (record { callee = callee.Row (name_at n); type_argument = Some c; arguments = xs; span = join (at n) (at s) })

-- a place that is stored to
pub data ReadsPlace (ns : Names) : Word → Expr → Type 0 where
  place_is : {w : Word} {a : Expr} → v.Reads ns false (Operand level.Product) w a → is_place a ≡ true → ReadsPlace ns w a

-- `goto L;`
pub data ReadsGoto : Word → Token → Type 0 where
  goto_is : {t n e : Token} → IsWord t keyword.Goto → IsName n → IsSign e sign.Semicolon → ReadsGoto (t ∷ n ∷ e ∷ []) n

-- any number of `case n: goto L;`
pub data ReadsCases : Word → List Case → Type 0 where
  no_case : ReadsCases [] []
  more_cases : {t : Token} (s n : Token) → {u v w : Word} {x : SignedNumber} {cs : List Case} → IsWord t keyword.Case → ReadsNumber u x → IsSign s sign.Colon → ReadsGoto v n → ReadsCases w cs
      → ReadsCases (t ∷ u ++ s ∷ v ++ w) (record { number = x; label = name_at n } ∷ cs)

mutual
  -- a statement
  pub data ReadsStmt : Names → Word → Stmt → Type 0 where
    assigns : (t e : Token) → {ns : Names} {u w : Word} {a b : Expr} → ReadsPlace ns u a → IsSign t sign.Assign → v.Reads ns false Value w b → IsSign e sign.Semicolon → ReadsStmt ns (u ++ t ∷ w ++ e ∷ []) (stmt.Assign a b)
    calls : (e : Token) → {ns : Names} {w : Word} {c : Call} → ReadsCall ns w c → IsSign e sign.Semicolon → ReadsStmt ns (w ++ e ∷ []) (stmt.Call c)
    stores : (t e : Token) → {ns : Names} {u w : Word} {a : Expr} {c : Call} → ReadsPlace ns u a → IsSign t sign.Assign → ReadsCall ns w c → IsSign e sign.Semicolon → ReadsStmt ns (u ++ t ∷ w ++ e ∷ []) (stmt.Store a c)
    if_block : {i t : Token} (s : Token) → {ns : Names} {u w : Word} {a : Expr} {b : Block} → IsWord i keyword.If → IsSign t sign.OpenParen → v.Reads ns false Value u a → IsSign s sign.CloseParen → ReadsBlock ns w b
        → ReadsStmt ns (i ∷ t ∷ u ++ s ∷ w) (stmt.If a b None)
    if_else : {i t : Token} (s l : Token) → {ns : Names} {u w x : Word} {a : Expr} {b d : Block} → IsWord i keyword.If → IsSign t sign.OpenParen → v.Reads ns false Value u a → IsSign s sign.CloseParen → ReadsBlock ns w b
        → IsWord l keyword.Else → ReadsBlock ns x d → ReadsStmt ns (i ∷ t ∷ u ++ s ∷ w ++ l ∷ x) (stmt.If a b (Some d))
    if_goto : {i t : Token} (s n : Token) → {ns : Names} {u w : Word} {a : Expr} → IsWord i keyword.If → IsSign t sign.OpenParen → v.Reads ns false Value u a → IsSign s sign.CloseParen → ReadsGoto w n
        → ReadsStmt ns (i ∷ t ∷ u ++ s ∷ w) (stmt.IfGoto a (name_at n))
    goes : (n : Token) → {ns : Names} {w : Word} → ReadsGoto w n → ReadsStmt ns w (stmt.Goto (name_at n))
    labels : {ns : Names} {n c e : Token} → IsName n → IsSign c sign.Colon → IsSign e sign.Semicolon → ReadsStmt ns (n ∷ c ∷ e ∷ []) (stmt.Label (name_at n))
    switches : {i t : Token} (s l d c r n : Token) → {ns : Names} {u w x : Word} {a : Expr} {cs : List Case} → IsWord i keyword.Switch → IsSign t sign.OpenParen → v.Reads ns false Value u a → IsSign s sign.CloseParen
        → IsSign l sign.OpenBrace → ReadsCases w cs → IsWord d keyword.Default → IsSign c sign.Colon → ReadsGoto x n → IsSign r sign.CloseBrace
        → ReadsStmt ns (i ∷ t ∷ u ++ s ∷ l ∷ w ++ d ∷ c ∷ x ++ r ∷ []) (stmt.Switch a cs (name_at n))
    returns : {ns : Names} {t e : Token} → IsWord t keyword.Return → IsSign e sign.Semicolon → ReadsStmt ns (t ∷ e ∷ []) (stmt.Return (at t) None)
    returns_value : {t : Token} (e : Token) → {ns : Names} {w : Word} {a : Expr} → IsWord t keyword.Return → v.Reads ns false Value w a → IsSign e sign.Semicolon → ReadsStmt ns (t ∷ w ++ e ∷ []) (stmt.Return (at t) (Some a))
    blocks : {ns : Names} {w : Word} {b : Block} → ReadsBlock ns w b → ReadsStmt ns w (stmt.Block b)

  pub data ReadsStmts : Names → Word → List Stmt → Type 0 where
    no_stmt : {ns : Names} → ReadsStmts ns [] []
    more_stmts : {ns : Names} {u w : Word} {s : Stmt} {ss : List Stmt} → ReadsStmt ns u s → ReadsStmts ns w ss → ReadsStmts ns (u ++ w) (s ∷ ss)

  -- declarations, and then statements in their scope
  pub data ReadsBlock : Names → Word → Block → Type 0 where
    block_is : {t : Token} (s : Token) → {ns : Names} {u w : Word} {ls : List Local} {ss : List Stmt} → IsSign t sign.OpenBrace → ReadsLocals ns u ls → ReadsStmts (with_locals ns ls) w ss → IsSign s sign.CloseBrace
        → ReadsBlock ns (t ∷ u ++ w ++ s ∷ []) (block ls ss (join (at t) (at s)))
