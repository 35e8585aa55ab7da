-- Roles of names as the grammar has them.
use Rattle.c_tree.specs.declared.code.Expr.{Expr}
use Rattle.c_tree.specs.Words as words
use Rattle.c_tree.specs.Words.{at}
use Rattle.c_tree.specs.Names as names
use Rattle.c_tree.specs.Make.{expr, name_at}
use Rattle.c_grammar.specs.Trees.{name_shape}
use Rattle.c_nodes.specs.declared.role.Meaning.{Meaning}
use Rattle.c_nodes.specs.declared.role.Meaning.TheVariants as meaning
use Rattle.c_nodes.specs.declared.role.Role.{Role}
use Rattle.c_nodes.specs.declared.role.Role.TheVariants as role

-- which of the types of `main` a type means
abbrev pub meaning_of : Meaning → names.Meaning
meaning_of meaning.Int = names.AnInt
meaning_of meaning.Char = names.AChar
meaning_of meaning.Another = names.Another

-- a role
abbrev pub role_of : Role → names.Role
role_of (role.Type m) = names.TypeName (meaning_of m)
role_of (role.Row takes_type) = names.RowName takes_type
role_of role.Variable = names.VariableName
role_of role.Function = names.FunctionName
role_of role.Member = names.MemberName
role_of role.Unknown = names.Unknown

-- a name of a role as a value
abbrev pub named_value : names.Role → words.Token → Expr
named_value r t = expr (name_shape r (name_at t)) (at t)
