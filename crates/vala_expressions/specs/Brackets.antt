-- What begins with a bracket, and what may be a type or an expression, by their steps.
use Rattle.std.specs.Prelude.{ℕ, suc, Bool, true, false, ◌&&◌, if◌then◌else◌, List, [], ◌∷◌, ◌++◌, Option, Some, None}
use Rattle.predictive_grammar.specs.Steps.{Parser, ◌>>=◌, pure}
use Rattle.vg_base.specs.declared.event.Span.{Span}
use Rattle.vala_lexer.specs.Tokens.{Lexeme}
use Rattle.vala_tree.specs.declared.code.Expr.{Expr}
use Rattle.vala_tree.specs.declared.names.Identifier.{Identifier}
use Rattle.vala_tree.specs.declared.names.NameTree.{NameTree}
use Rattle.vala_tree.specs.declared.names.TypeTree.{TypeTree}
use Rattle.vala_grammar.specs.declared.sort.Sort.TheVariants as s
use Rattle.vala_grammar.specs.declared.parts.Bracketed.{Bracketed}
use Rattle.vala_grammar.specs.declared.parts.Bracketed.TheVariants as bracketed
use Rattle.vala_grammar.specs.declared.parts.Chain.{Chain}
use Rattle.vala_grammar.specs.declared.parts.Context.{Context}
use Rattle.vala_grammar.specs.declared.parts.Context.TheVariants as context
use Rattle.vala_grammar.specs.declared.parts.Last.{Last}
use Rattle.vala_grammar.specs.declared.parts.Last.TheVariants as last
use Rattle.vala_grammar.specs.declared.parts.Lead.{Lead}
use Rattle.vala_grammar.specs.declared.parts.Lead.TheVariants as lead
use Rattle.vala_grammar.specs.declared.parts.Opening.{Opening}
use Rattle.vala_grammar.specs.declared.parts.Opening.TheVariants as opening
use Rattle.vala_grammar.specs.declared.parts.Signs.TheVariants as signs
use Rattle.vala_grammar.specs.declared.parts.Tier.TheVariants as tier
use Rattle.vala_grammar.specs.Parts as p
use Rattle.vala_grammar.specs.Read.{vala_reader}
use Rattle.vala_grammar.specs.Tests.{is, is_assignment, is_type_sign}
use Rattle.vala_grammar.specs.Trees as tree
use Rattle.vala_cursor.specs.Gets.{got, leave, one, way}
use Rattle.vala_expressions.specs.Chains.{is_alone}
use Rattle.vala_grammar.specs.Label.{Label}

-- the end of a cast
abbrev pub cast_ended : Lexeme → TypeTree → ℕ → Parser Label Lexeme Bracketed
cast_ended o y l = vala_reader (p.CastEnd o y) l >>= λ c. pure (bracketed.Operand c)

-- a cast to a type behind the word in front of it
abbrev pub cast_to : Lexeme → Lexeme → ℕ → Parser Label Lexeme Bracketed
cast_to o w l = vala_reader (p.TypeBody (Some w)) (suc l) >>= λ y. cast_ended o y l

-- `owned` behind a bracket
abbrev pub owned_behind : Lexeme → ℕ → Parser Label Lexeme Bracketed
owned_behind o l =
    one s.Owned (suc l) >>= λ w. way (is s.CloseParen)
    (one s.CloseParen (suc l) >>= λ c. vala_reader (p.Prefix signs.All) (suc l) >>= λ x. pure (bracketed.Operand (tree.moved o x))) (cast_to o w l)

-- `)` behind an expression, and what follows it
abbrev pub bracket_ended : Lexeme → Expr → ℕ → Parser Label Lexeme Bracketed
bracket_ended o e l = one s.CloseParen (suc l) >>= λ c. vala_reader (p.Suffix (tree.plain (tree.bracketed o.span e c.span))) l >>= λ a. pure (bracketed.Operand a)

-- a lambda behind its parameters
abbrev pub lambda_behind : Span → List Identifier → ℕ → Parser Label Lexeme Bracketed
lambda_behind first xs l = one s.Arrow l >>= λ w. vala_reader (p.LambdaEnd first xs) (suc l) >>= λ a. pure (bracketed.Lambda a)

-- `)` behind names, and what follows it
abbrev pub names_closed : Bool → Lexeme → NameTree → ℕ → Parser Label Lexeme Bracketed
names_closed top o n l = one s.CloseParen (suc l) >>= λ c. vala_reader (p.BehindNames top o n c) l >>= pure

-- what follows names behind a bracket
abbrev pub names_ended : Bool → Lexeme → NameTree → ℕ → Parser Label Lexeme Bracketed
names_ended top o n l i =
    if top && tree.is_one_word n
    then way (is s.Comma) (one s.Comma (suc l) >>= λ m. vala_reader (p.LambdaMore n.words) (suc l) >>= λ xs. lambda_behind o.span xs l) (names_closed top o n l) i
    else names_closed top o n l i

-- one more parameter of a lambda
abbrev pub one_more_parameter : List Identifier → ℕ → Parser Label Lexeme (List Identifier)
one_more_parameter xs l = one s.Identifier l >>= λ t. pure (xs ++ tree.identifier t ∷ [])

-- behind a parameter
abbrev pub parameters_then : List Identifier → ℕ → Parser Label Lexeme (List Identifier)
parameters_then xs l = way (is s.Comma) (one s.Comma l >>= λ m. vala_reader (p.LambdaMore xs) l >>= pure) (one s.CloseParen l >>= λ c. pure xs)

-- ---- what may be a type or an expression

-- behind names and the operators that follow them: names alone may still be a type
abbrev pub names_then : NameTree → Chain → Last → ℕ → Parser Label Lexeme Opening
names_then n c k l i =
    if is_alone k
    then way is_assignment (got is_assignment 0 l >>= λ t. vala_reader p.Whole (suc l) >>= λ b. pure (opening.Value (tree.assigned c.value t b))) (pure (opening.Names n)) i
    else (vala_reader (p.ChoiceTail c) l >>= λ e. vala_reader (p.AssignTail e) l >>= λ a. pure (opening.Value a)) i

-- operators behind names
abbrev pub names_further : NameTree → ℕ → Parser Label Lexeme Opening
names_further n l = vala_reader (p.Upto 0 tier.Or (tree.alone n)) l >>= λ c. vala_reader (p.CoalesceTail 0 c) l >>= λ d. names_then n d d.last l

-- what follows names
abbrev pub names_lead : Context → NameTree → ℕ → Parser Label Lexeme Opening
names_lead x n l i =
    way (is s.Question) (one s.Question l >>= λ q. vala_reader (p.Marked x n q.span) l >>= pure)
    (λ j. if tree.is_one_word n then way (is s.Arrow) (one s.Arrow l >>= λ w. vala_reader (p.LambdaEnd n.span n.words) (suc l) >>= λ a. pure (opening.Value a)) (names_further n l) j
    else names_further n l j) i

-- what follows `[]` behind names
abbrev pub array_lead : NameTree → Span → ℕ → Parser Label Lexeme Opening
array_lead n c l =
    way (is s.Question) (one s.Question l >>= λ q. pure (opening.Type (tree.array_type None n None c (Some q.span)))) (pure (opening.Type (tree.array_type None n None c None)))

-- behind `[` and an index
unfoldable pub lead_at : NameTree → Expr → ℕ → Parser Label Lexeme Lead
lead_at n i l =
    way (is s.Colon) leave (one s.CloseBracket (suc l) >>= λ c. vala_reader (p.Suffix (tree.plain (tree.index (tree.names n) i c))) (suc l) >>= λ e. pure (lead.Value e))

unfoldable pub lead_indexed : NameTree → ℕ → Parser Label Lexeme Lead
lead_indexed n l =
    one s.OpenBracket l >>= λ b. way (is s.Comma) leave
    (way (is s.CloseBracket) (one s.CloseBracket (suc l) >>= λ c. pure (lead.Array n c.span)) (vala_reader p.Whole (suc l) >>= λ i. lead_at n i l))

unfoldable pub lead_called : NameTree → ℕ → Parser Label Lexeme Lead
lead_called n l =
    one s.OpenParen l >>= λ o. vala_reader p.Args (suc l) >>= λ xs. vala_reader (p.Suffix (tree.plain (tree.call (tree.names n) xs))) (suc l) >>= λ c. pure (lead.Value c)

-- behind the last word
unfoldable pub lead_ended : NameTree → ℕ → Parser Label Lexeme Lead
lead_ended n l =
    way (is s.OpenBracket) (lead_indexed n l)
    (way (is s.Step) (one s.Step l >>= λ t. vala_reader (p.Suffix (tree.plain (tree.step (tree.names n) t))) (suc l) >>= λ c. pure (lead.Value c))
    (way (is s.OpenParen) (lead_called n l) (pure (lead.Names n))))

-- the expression between `?` and `:` behind names
abbrev pub choice_start : Context → ℕ → Parser Label Lexeme Expr
choice_start context.Statement l = vala_reader p.Nameless l
choice_start context.Bracket l = vala_reader p.Value l

-- `[]` behind names and `?`
abbrev pub marked_array : NameTree → Span → ℕ → Parser Label Lexeme Opening
marked_array n q l =
    one s.OpenBracket l >>= λ b. way (is s.Comma) leave (one s.CloseBracket (suc l) >>= λ c. way (is s.Question)
    (one s.Question l >>= λ r. pure (opening.Type (tree.array_type None n (Some q) c.span (Some r.span)))) (pure (opening.Type (tree.array_type None n (Some q) c.span None))))

-- `: c` behind names, `?` and an expression, and what follows that
abbrev pub choice_of_names : NameTree → Expr → ℕ → Parser Label Lexeme Opening
choice_of_names n b l =
    one s.Colon (suc l) >>= λ t. vala_reader p.Test (suc l) >>= λ c. vala_reader (p.AssignTail (tree.conditional (tree.names n) b c)) l >>= λ a. pure (opening.Value a)
