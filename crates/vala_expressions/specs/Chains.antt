-- Chains of operands by their steps.
use Rattle.std.specs.Prelude.{ℕ, suc, Bool, true, false, not, ◌&&◌, ◌||◌}
use Rattle.predictive_grammar.specs.Steps.{Parser, ◌>>=◌, pure}
use Rattle.vala_lexer.specs.Tokens.{Lexeme}
use Rattle.vala_tree.specs.declared.code.Argument.{Argument}
use Rattle.vala_tree.specs.declared.code.Expr.{Expr}
use Rattle.vala_grammar.specs.declared.sort.Sort.{Sort}
use Rattle.vala_grammar.specs.declared.sort.Sort.TheVariants as s
use Rattle.vala_grammar.specs.declared.parts.Arguments.{Arguments}
use Rattle.vala_grammar.specs.declared.parts.Bracketed.{Bracketed}
use Rattle.vala_grammar.specs.declared.parts.Chain.{Chain}
use Rattle.vala_grammar.specs.declared.parts.Last.{Last}
use Rattle.vala_grammar.specs.declared.parts.Last.TheVariants as last
use Rattle.vala_grammar.specs.declared.parts.Tested.{Tested}
use Rattle.vala_tree.specs.declared.names.NameTree.{NameTree}
use Rattle.vala_tree.specs.declared.names.TypeTree.{TypeTree}
use Rattle.vala_grammar.specs.declared.parts.Tier.{Tier}
use Rattle.vala_grammar.specs.declared.parts.Tier.TheVariants as tier
use Rattle.vala_grammar.specs.declared.parts.Signs.{Signs}
use Rattle.vala_grammar.specs.Grammar.{G, operand_in, just, as_it_is}
use Rattle.predictive_grammar.specs.Forms.{Form, give}
use Rattle.vala_grammar.specs.Parts.{AfterWord, Args, Immediate, Unary, Onward, Rest, Operand, Test, TestedType, Whole}
use Rattle.vala_grammar.specs.Read.{vala_reader}
use Rattle.vala_grammar.specs.Tests.{is, is_asked, is_plain, goes_on}
use Rattle.vala_grammar.specs.Trees as tree
use Rattle.vala_cursor.specs.Gets.{got, leave, one, way}
use Rattle.vala_grammar.specs.Label.{Label}

-- how loose its operators are
abbrev pub looseness : Tier → ℕ
looseness tier.Product = 0
looseness tier.Sum = 1
looseness tier.Shift = 2
looseness tier.Relation = 3
looseness tier.Equality = 4
looseness tier.BitAnd = 5
looseness tier.BitXor = 6
looseness tier.BitOr = 7
looseness tier.And = 8
looseness tier.Or = 9

-- the tier of `is` and `as`
abbrev pub is_relation : Tier → Bool
is_relation tier.Relation = true
is_relation _ = false

-- `is` or `as`, where an operator of the tier may stand
abbrev pub tests_type : Tier → Sort → Bool
tests_type t x = is_relation t && is s.TypeTest x

-- names with nothing behind them
abbrev pub is_alone : Last → Bool
is_alone last.Alone = true
is_alone _ = false

-- what goes on with a chain of the tier that ends so
abbrev pub further : Tier → Last → Sort → Bool
further t l x = not (is_asked l) && (tests_type t x || goes_on t l x)

-- one more operator, and what stands behind it
abbrev pub one_further : ℕ → Tier → Chain → ℕ → Parser Label Lexeme Chain
one_further d t c l =
    way (tests_type t) (one s.TypeTest l >>= λ o. vala_reader (TestedType (suc d)) (suc l) >>= λ y. pure (tree.tested c o y))
    (got (goes_on t c.last) 0 l >>= λ o. vala_reader (Operand (suc d) t) (suc l) >>= λ b. pure (tree.joined c o b))

-- `: c` behind `a ? b`
abbrev pub choice_ended : Expr → Expr → ℕ → Parser Label Lexeme Expr
choice_ended a b l = one s.Colon (suc l) >>= λ t. vala_reader Test (suc l) >>= λ c. pure (tree.conditional a b c)

-- `? b : c`, if an expression goes on so
abbrev pub choice_open : Expr → ℕ → Parser Label Lexeme Expr
choice_open a l = way (is s.Question) (one s.Question l >>= λ q. vala_reader Whole (suc l) >>= λ b. choice_ended a b l) (pure a)

-- the rest of a choice, by what is in front
abbrev pub choice_by : Expr → Last → ℕ → Parser Label Lexeme Expr
choice_by a (last.Asked b) l = choice_ended a b l
choice_by a last.Unmarked l = pure a
choice_by a last.Alone l = pure a
choice_by a _ l = choice_open a l

-- a type that is tested for, with no `*` behind it
abbrev pub starless : Last → TypeTree → Parser Label Lexeme Tested
starless l y = way (is s.Star) leave (pure (record { tree = y; last = l }))

-- behind what a bracket begins, which an expression or an operand begins with
abbrev pub behind_bracket : Bracketed → Form G Immediate
behind_bracket r = operand_in r (λ a. give a) (λ c. just (Onward c) as_it_is)

abbrev pub operand_of_bracket : (x : Signs) → Bracketed → Form G (Unary x)
operand_of_bracket x r = operand_in r (λ a. give (tree.plain a)) (λ c. give c)

-- ---- what follows an operand

-- a member, an index, a step, or a call where the operand ends so
abbrev pub links : Last → Sort → Bool
links l x = is s.Dot x || (is s.OpenBracket x || (is s.Step x || (is_plain l && is s.OpenParen x)))

abbrev pub member_link : Expr → ℕ → Parser Label Lexeme Chain
member_link a l = one s.Dot l >>= λ d. one s.Identifier l >>= λ t. pure (tree.plain (tree.member a (tree.identifier t)))

abbrev pub index_link : Expr → ℕ → Parser Label Lexeme Chain
index_link a l =
    one s.OpenBracket l >>= λ b. vala_reader Whole (suc l) >>= λ i. way (is s.Colon) leave (one s.CloseBracket (suc l) >>= λ c. pure (tree.plain (tree.index a i c)))

abbrev pub step_link : Expr → ℕ → Parser Label Lexeme Chain
step_link a l = one s.Step l >>= λ t. pure (tree.plain (tree.step a t))

abbrev pub call_link : Expr → ℕ → Parser Label Lexeme Chain
call_link a l = one s.OpenParen l >>= λ o. vala_reader Args (suc l) >>= λ xs. pure (tree.plain (tree.call a xs))

-- one of these
abbrev pub one_link : Expr → ℕ → Parser Label Lexeme Chain
one_link a l = way (is s.Dot) (member_link a l) (way (is s.OpenBracket) (index_link a l) (way (is s.Step) (step_link a l) (call_link a l)))

-- the rest of an argument that begins with a word
abbrev pub argument_behind : Lexeme → ℕ → Parser Label Lexeme Argument
argument_behind t l = way (is s.Colon) (one s.Colon l >>= λ c. vala_reader Whole l >>= λ e. pure (tree.named_argument t e)) (vala_reader (AfterWord t) l >>= λ e. pure (tree.argument e))

-- behind the arguments of a new object: braces there are left out
unfoldable pub object_ended : Lexeme → NameTree → Arguments → Parser Label Lexeme Expr
object_ended t n xs = way (is s.OpenBrace) leave (pure (tree.new_object t n xs))
