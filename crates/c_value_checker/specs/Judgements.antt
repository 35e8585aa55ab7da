-- What the checker keeps of a value, and what is known of the parts of values.
use Rattle.std.specs.Prelude.{Bool, true, false, List, [], ◌∷◌, ◌++◌, Option, Some}
use Rattle.std.specs.Option.{option_map}
use Rattle.c_lexer.specs.declared.token.Constant.TheVariants as constant
use Rattle.c_tree.specs.declared.code.Shape.{Shape}
use Rattle.c_tree.specs.declared.code.Suffix.{Suffix}
use Rattle.c_tree.specs.declared.code.Choice.{Choice}
use Rattle.c_tree.specs.declared.code.Link.{Link}
use Rattle.c_tree.specs.declared.code.Shape.TheFolds.{fold-Shape, fold-Suffix, fold-Choice, fold-Link}
use Rattle.c_tree.specs.declared.kinds.Operand.{Operand}
use Rattle.c_tree.specs.declared.kinds.Fault.{Fault}
use Rattle.c_tree.specs.Env.{Env}
use Rattle.c_tree.specs.Library as rule
use Rattle.c_tree.specs.Checks.{Checked, Known, KnownSuffix, KnownChoice, KnownLink, check_shape, check_suffix, operand_if, operand_of}
use Rattle.c_value_checker.specs.declared.judged.Literal.{Literal}
use Rattle.c_value_checker.specs.declared.judged.Literal.TheVariants as literal
use Rattle.c_value_checker.specs.declared.judged.Judged.{Judged}
use Rattle.c_value_checker.specs.declared.judged.JudgedChoice.{JudgedChoice}

-- 1. Parts of values

-- what is known of a shape
abbrev pub checked_shape : Shape → Checked
checked_shape = fold-Shape Checked KnownSuffix KnownChoice Known KnownLink check_shape check_suffix
    (λ c. record { test = c.test; yes = c.yes }) (λ e. record { span = e.span; value = e.shape }) (λ l. record { operator = l.operator; operand = l.operand })

-- what is known of a suffix
abbrev pub checked_suffix : Suffix → KnownSuffix
checked_suffix = fold-Suffix Checked KnownSuffix KnownChoice Known KnownLink check_shape check_suffix
    (λ c. record { test = c.test; yes = c.yes }) (λ e. record { span = e.span; value = e.shape }) (λ l. record { operator = l.operator; operand = l.operand })

-- what is known of a choice
abbrev pub checked_choice : Choice → KnownChoice
checked_choice = fold-Choice Checked KnownSuffix KnownChoice Known KnownLink check_shape check_suffix
    (λ c. record { test = c.test; yes = c.yes }) (λ e. record { span = e.span; value = e.shape }) (λ l. record { operator = l.operator; operand = l.operand })

-- what is known of a link
abbrev pub checked_link : Link → KnownLink
checked_link = fold-Link Checked KnownSuffix KnownChoice Known KnownLink check_shape check_suffix
    (λ c. record { test = c.test; yes = c.yes }) (λ e. record { span = e.span; value = e.shape }) (λ l. record { operator = l.operator; operand = l.operand })

-- 2. What is kept

-- a literal
abbrev pub literal_told : rule.Literal → Literal
literal_told (rule.Word c) = literal.Word c
literal_told (rule.Figure s n) = literal.Figure s n

-- the literal and the kind of a value
abbrev pub judged : Env → Checked → Judged
judged env a = record { literal = option_map literal_told a.literal; kind = a.kind env }

-- whether a literal is the word `NULL`
abbrev pub is_null_told : Option Literal → Bool
is_null_told (Some (literal.Word constant.Null)) = true
is_null_told l = false

-- a value as an operand
abbrev pub operand_told : Judged → Option Operand
operand_told j = operand_if j.kind (is_null_told j.literal)

-- a choice: where its condition stands, the kind of that, and the value behind it
abbrev pub choice_told : Env → KnownChoice → JudgedChoice
choice_told env c = record { span = c.test.span; test = c.test.value.kind env; yes = operand_of env c.yes }

-- the faults of conditions and of the values behind them
abbrev pub part_faults : Env → List KnownChoice → List Fault
part_faults env [] = []
part_faults env (c ∷ cs) = (c.test.value.faults env ++ c.yes.value.faults env) ++ part_faults env cs
