-- Sets of sorts, by which the grammar decides.
use Rattle.std.specs.Prelude.{ℕ, ◌==◌, Bool, true, false, not, ◌&&◌, ◌||◌, List, [], ◌∷◌, Option, Some, None}
use Rattle.vala_grammar.specs.declared.sort.Sort.{Sort}
use Rattle.vala_grammar.specs.declared.sort.Sort.TheVariants as s
use Rattle.vala_grammar.specs.declared.parts.Signs.{Signs}
use Rattle.vala_grammar.specs.declared.parts.Signs.TheVariants as signs
use Rattle.vala_grammar.specs.declared.parts.Tier.{Tier}
use Rattle.vala_grammar.specs.declared.parts.Tier.TheVariants as tier
use Rattle.vala_grammar.specs.declared.parts.Last.{Last}
use Rattle.vala_grammar.specs.declared.parts.Last.TheVariants as last
use Rattle.vala_grammar.specs.declared.parts.Context.{Context}
use Rattle.vala_grammar.specs.declared.parts.Context.TheVariants as context

-- its place among the sorts
abbrev pub number : Sort → ℕ
number s.Identifier = 0
number s.Literal = 1
number s.Text = 2
number s.This = 3
number s.Base = 4
number s.New = 5
number s.Yield = 6
number s.Owned = 7
number s.Unowned = 8
number s.Void = 9
number s.Var = 10
number s.If = 11
number s.Else = 12
number s.While = 13
number s.Do = 14
number s.For = 15
number s.Foreach = 16
number s.In = 17
number s.Switch = 18
number s.Case = 19
number s.Default = 20
number s.Break = 21
number s.Continue = 22
number s.Return = 23
number s.Throw = 24
number s.Try = 25
number s.Catch = 26
number s.Finally = 27
number s.Out = 28
number s.Ref = 29
number s.Using = 30
number s.Namespace = 31
number s.Class = 32
number s.Interface = 33
number s.Struct = 34
number s.Enum = 35
number s.Errordomain = 36
number s.Delegate = 37
number s.Const = 38
number s.Construct = 39
number s.Signal = 40
number s.Throws = 41
number s.Public = 42
number s.Protected = 43
number s.Internal = 44
number s.Private = 45
number s.Static = 46
number s.Abstract = 47
number s.Virtual = 48
number s.Override = 49
number s.Async = 50
number s.Inline = 51
number s.OpenBrace = 52
number s.CloseBrace = 53
number s.OpenParen = 54
number s.CloseParen = 55
number s.OpenBracket = 56
number s.CloseBracket = 57
number s.Comma = 58
number s.Semicolon = 59
number s.Colon = 60
number s.Dot = 61
number s.Question = 62
number s.Coalesce = 63
number s.Assign = 64
number s.Update = 65
number s.Arrow = 66
number s.OrOr = 67
number s.AndAnd = 68
number s.Bar = 69
number s.Caret = 70
number s.Ampersand = 71
number s.Equality = 72
number s.Less = 73
number s.Relation = 74
number s.TypeTest = 75
number s.Shift = 76
number s.Plus = 77
number s.Minus = 78
number s.Star = 79
number s.Slash = 80
number s.Percent = 81
number s.Not = 82
number s.Tilde = 83
number s.Step = 84
number s.LeftOut = 85

-- the same sort
abbrev pub is : Sort → Sort → Bool
is x y = number x == number y

-- one of these
abbrev pub among : List Sort → Sort → Bool
among [] y = false
among (x ∷ xs) y = is x y || among xs y

-- the words in front of a type
abbrev pub is_ownership : Sort → Bool
is_ownership = among (s.Owned ∷ s.Unowned ∷ [])

-- what begins a left-out type behind a type or a name
abbrev pub is_type_sign : Sort → Bool
is_type_sign = among (s.Star ∷ s.Less ∷ [])

-- the signs in front of an operand
abbrev pub is_prefix : Signs → Sort → Bool
is_prefix signs.All = among (s.Plus ∷ s.Minus ∷ s.Not ∷ s.Tilde ∷ s.Step ∷ [])
is_prefix signs.Cast = among (s.Not ∷ s.Tilde ∷ [])
is_prefix signs.IntegerCast = among (s.Minus ∷ s.Not ∷ s.Tilde ∷ [])

abbrev pub is_literal : Sort → Bool
is_literal = among (s.Literal ∷ s.Text ∷ [])

-- the tokens that begin an operand without a sign, a name, `yield` or a bracket in front
abbrev pub begins_atom : Sort → Bool
begins_atom = among (s.Literal ∷ s.Text ∷ s.This ∷ s.Base ∷ s.New ∷ [])

-- the tokens that begin an operand without a sign in front
abbrev pub begins_operand : Sort → Bool
begins_operand x = begins_atom x || among (s.Identifier ∷ s.Yield ∷ s.OpenParen ∷ []) x

abbrev pub begins_prefix : Signs → Sort → Bool
begins_prefix signs x = is_prefix signs x || begins_operand x

abbrev pub begins_expression : Sort → Bool
begins_expression = begins_prefix signs.All

-- the operators of a tier, without `is` and `as`
abbrev pub binds : Tier → Sort → Bool
binds tier.Product = among (s.Star ∷ s.Slash ∷ s.Percent ∷ [])
binds tier.Sum = among (s.Plus ∷ s.Minus ∷ [])
binds tier.Shift = is s.Shift
binds tier.Relation = among (s.Less ∷ s.Relation ∷ [])
binds tier.Equality = is s.Equality
binds tier.BitAnd = is s.Ampersand
binds tier.BitXor = is s.Caret
binds tier.BitOr = is s.Bar
binds tier.And = is s.AndAnd
binds tier.Or = is s.OrOr

-- the next tighter tier
abbrev pub tighter : Tier → Option Tier
tighter tier.Product = None
tighter tier.Sum = Some tier.Product
tighter tier.Shift = Some tier.Sum
tighter tier.Relation = Some tier.Shift
tighter tier.Equality = Some tier.Relation
tighter tier.BitAnd = Some tier.Equality
tighter tier.BitXor = Some tier.BitAnd
tighter tier.BitOr = Some tier.BitXor
tighter tier.And = Some tier.BitOr
tighter tier.Or = Some tier.And

abbrev pub is_integer : Last → Bool
is_integer last.Integer = true
is_integer _ = false

abbrev pub is_plain : Last → Bool
is_plain last.Plain = true
is_plain _ = false

abbrev pub is_asked : Last → Bool
is_asked (last.Asked b) = true
is_asked _ = false

-- an operator of the tier goes on with a chain that ends so
abbrev pub goes_on : Tier → Last → Sort → Bool
goes_on t l x = binds t x && not (is s.Minus x && is_integer l)

abbrev pub is_assignment : Sort → Bool
is_assignment = among (s.Assign ∷ s.Update ∷ [])

-- `?` behind a name begins a choice there, if this follows
abbrev pub opens_choice : Context → Sort → Bool
opens_choice context.Statement x = begins_expression x && not (is s.Identifier x)
opens_choice context.Bracket x = begins_expression x

abbrev pub begins_type : Sort → Bool
begins_type = among (s.Owned ∷ s.Unowned ∷ s.Void ∷ s.Identifier ∷ [])

-- the words that end a part of a `switch`
abbrev pub is_label : Sort → Bool
is_label = among (s.Case ∷ s.Default ∷ [])
