-- What is read on the way to a statement.
use Rattle.std.specs.Prelude.{ℕ, suc, if◌then◌else◌, List, [], ◌∷◌, ◌++◌, Some, None, Ok}
use Rattle.predictive_grammar.specs.Forms.{Form, give, pick}
use Rattle.predictive_grammar.specs.Steps.{Outcome, Parser, and_then, ◌>>=◌, pure}
use Rattle.vala_lexer.specs.Tokens.{Lexeme}
use Rattle.vala_tree.specs.declared.code.Arm.{Arm}
use Rattle.vala_tree.specs.declared.code.Expr.{Expr}
use Rattle.vala_tree.specs.declared.code.Label.{Label as CaseLabel}
use Rattle.vala_tree.specs.declared.code.Local.{Local}
use Rattle.vala_tree.specs.declared.code.ForStart.TheVariants as start
use Rattle.vala_tree.specs.declared.code.Stmt.{Stmt}
use Rattle.vala_tree.specs.declared.code.Stmt.TheVariants as st
use Rattle.vala_tree.specs.declared.names.TypeTree.{TypeTree}
use Rattle.vala_grammar.specs.declared.sort.Sort.TheVariants as s
use Rattle.vala_grammar.specs.declared.parts.Ended.{Ended}
use Rattle.vala_grammar.specs.declared.parts.Branches.{Branches}
use Rattle.vala_grammar.specs.declared.parts.ForHead.{ForHead}
use Rattle.vala_grammar.specs.declared.parts.Context.TheVariants as context
use Rattle.vala_grammar.specs.declared.parts.Beginning.TheVariants as beginning
use Rattle.vala_grammar.specs.Parts as p
use Rattle.vala_grammar.specs.Parts.{Part, Simple, CatchOf, Begin}
use Rattle.vala_grammar.specs.Grammar.{G, here, deeper, inner, just, where_one, left_out, operand_here, test_then, end_with, yield_call, loops, jumps, begins}
use Rattle.vala_grammar.specs.Tests.{is, is_type_sign}
use Rattle.vala_grammar.specs.Trees as tree
use Rattle.vala_grammar.specs.Read.{vala_reader}
use Rattle.vala_parse_expr.specs.declared.if_chain.Head.{Head}
use Rattle.vala_parse_expr.specs.declared.if_chain.Behind.{Behind}
use Rattle.vala_parse_expr.specs.declared.if_chain.Behind.TheVariants as behind
use Rattle.vala_parse_expr.specs.declared.sections.Parts.{Parts}
use Rattle.vala_cursor.specs.Gets.{one, way}
use Rattle.vala_grammar.specs.Label.{Label}

-- `( e )`
unfoldable pub test_in : ℕ → Parser Label Lexeme Expr
test_in l = one s.OpenParen l >>= λ o. vala_reader p.Whole (suc l) >>= λ c. one s.CloseParen (suc l) >>= λ q. pure c

-- a block as a statement
abbrev pub in_braces : ℕ → Parser Label Lexeme Ended
in_braces l = vala_reader p.BlockOf l >>= λ b. pure (tree.ended (st.Block b))

-- ---- the statements that a word begins, behind that word

abbrev pub while_form : Lexeme → Form G Simple
while_form t = test_then (λ c. here p.Body (λ a. give (tree.while_loop t c a)))

abbrev pub return_form : Lexeme → Form G Simple
return_form t = where_one s.Semicolon (λ c. give (tree.ended (tree.return_jump t None c))) (here p.Whole (λ e. end_with (λ c. tree.ended (tree.return_jump t (Some e) c))))

abbrev pub yield_form : Lexeme → Form G Simple
yield_form t = where_one s.Semicolon (λ c. give (tree.ended (tree.yield_jump t c))) (yield_call t (λ x. here (p.Onward x) (λ e. end_with (λ c. tree.ended (tree.expression e c)))))

-- `x )` and a block behind `catch ( y`
abbrev pub catch_name : Lexeme → TypeTree → Form G CatchOf
catch_name t y = inner s.Identifier (λ x. inner s.CloseParen (λ q. here p.BlockOf (λ b. give (tree.catch_one t y x b))))

-- `( y x )` and a block behind `catch`, from the type on
abbrev pub catch_form : Lexeme → Form G CatchOf
catch_form t = deeper p.AnyType (λ y. left_out is_type_sign (catch_name t y))

-- what is neither a loop nor a jump
abbrev pub more_form : Form G Simple
more_form =
    where_one s.Switch (λ t. just (p.SwitchMore t) tree.ended)
    (where_one s.Try (λ t. here p.BlockOf (λ b. just (p.TryMore t b []) tree.ended))
    (here p.Begin (λ b. end_with (λ c. tree.ended (tree.begun b c)))))

-- what leaves a function, and more
abbrev pub leaving_form : Form G Simple
leaving_form =
    where_one s.Return return_form
    (where_one s.Throw (λ t. here p.Whole (λ e. end_with (λ c. tree.ended (tree.throw_jump t e c))))
    (where_one s.Yield yield_form more_form))

abbrev pub jump_form : Form G Simple
jump_form = jumps more_form

abbrev pub loop_form : Form G Simple
loop_form = loops jump_form

-- `try`, a block and clauses
unfoldable pub try_of : ℕ → Parser Label Lexeme Stmt
try_of l = one s.Try l >>= λ t. vala_reader p.BlockOf l >>= λ b. vala_reader (p.TryMore t b []) l

-- ---- `for`

-- an expression that begins with `yield`, and what follows it in the brackets
unfoldable pub for_yield : ℕ → Parser Label Lexeme ForHead
for_yield l =
    one s.Yield l >>= λ t. vala_reader p.YieldCall (suc l) >>= λ a. vala_reader (p.Suffix (tree.plain (tree.yielded t a))) l >>= λ x.
    vala_reader (p.Onward x) l >>= λ e. vala_reader (p.ForExprs (e ∷ [])) l

-- what follows a declaration in the brackets
unfoldable pub for_declared : Local → ℕ → Parser Label Lexeme ForHead
for_declared d l = one s.Semicolon l >>= λ z. vala_reader (p.ForTest (start.Declared d)) l

-- ---- `switch`

-- a label behind statements begins a part of the `switch`, and behind a label it is one more
abbrev pub with_label : Parts → CaseLabel → Parts
with_label q y = by q.statements
  where
    by : List Stmt → Parts
    by [] = record { done = q.done; first = q.first; others = q.others ++ y ∷ []; statements = [] }
    by (x ∷ xs) = record { done = q.done ++ tree.section q.first q.others q.statements ∷ []; first = y; others = []; statements = [] }

abbrev pub sections_of : Lexeme → Expr → Parts → Part
sections_of t e q = p.Sections t e q.done q.first q.others q.statements

-- ---- declarations

-- what begins with a name, or an expression that no name begins
abbrev pub plain_form : Form G Begin
plain_form =
    pick (is s.Identifier) (here (p.OpeningName context.Statement) (λ r. begins r)) (operand_here (just p.Immediate (λ e. beginning.Expression e)))

-- ---- `if` with `else if` behind it

-- arms in front of what stands behind them
unfoldable pub in_front : List Arm → Branches → Branches
in_front xs b = record { arms = xs ++ b.arms; no = b.no; is_open = b.is_open; «end» = b.«end» }

-- `( e )` and the body behind `if`
unfoldable pub head_of : ℕ → Parser Label Lexeme Head
head_of l = test_in l >>= λ c. vala_reader p.Body l >>= λ a. pure (record { test = c; yes = a })

-- what follows the body of an `if`
unfoldable pub tail_of : Head → ℕ → Parser Label Lexeme Branches
tail_of h l = λ i.
    if h.yes.is_open then Ok (tree.one_arm h.test h.yes, i)
    else way (is s.Else) (one s.Else l >>= λ w. vala_reader p.Alternative l >>= λ b. pure (tree.arm_before h.test h.yes b)) (pure (tree.one_arm h.test h.yes)) i

-- what follows `else`
unfoldable pub behind_else : ℕ → Parser Label Lexeme Behind
behind_else l =
    way (is s.If) (one s.If l >>= λ t. head_of l >>= λ h. pure (behind.Chained h)) (vala_reader p.Body l >>= λ b. pure (behind.Last b))

-- what arms in front make of an outcome
unfoldable pub adds : List Arm → Outcome Label Lexeme Branches → Outcome Label Lexeme Branches
adds xs o = and_then o (λ b. pure (in_front xs b))

unfoldable pub goes_on : List Arm → ℕ → Behind → Parser Label Lexeme Branches
goes_on xs l (behind.Last b) j = Ok (in_front xs (tree.last_branch b), j)
goes_on xs l (behind.Chained h) j = adds xs (tail_of h l j)
