-- What is said of each part: which kinds of tokens begin it, in front of which it ends, and which tree it has without tokens.
use Rattle.std.specs.Prelude.{◌≡◌, ℕ, suc, ◌-◌, Bool, true, false, not, ◌&&◌, ◌||◌, nat_lt, [], ◌∷◌, Some, None}
use Rattle.predictive_grammar.specs.Fit.{Tables}
use Rattle.vala_grammar.specs.declared.sort.Sort.{Sort}
use Rattle.vala_grammar.specs.declared.sort.Sort.TheVariants as s
use Rattle.vala_grammar.specs.declared.parts.Last.{Last}
use Rattle.vala_grammar.specs.declared.parts.Last.TheVariants as last
use Rattle.vala_grammar.specs.declared.parts.TypeName.TheVariants as type_name
use Rattle.vala_grammar.specs.declared.parts.Lead.{Lead}
use Rattle.vala_grammar.specs.declared.parts.Lead.TheVariants as lead
use Rattle.vala_grammar.specs.declared.parts.Opening.{Opening}
use Rattle.vala_grammar.specs.declared.parts.Opening.TheVariants as opening
use Rattle.vala_grammar.specs.declared.parts.Bracketed.{Bracketed}
use Rattle.vala_grammar.specs.declared.parts.Bracketed.TheVariants as bracketed
use Rattle.vala_grammar.specs.declared.parts.Beginning.{Beginning}
use Rattle.vala_grammar.specs.declared.parts.Beginning.TheVariants as beginning
use Rattle.vala_grammar.specs.declared.parts.Signs.TheVariants as signs
use Rattle.vala_grammar.specs.declared.parts.Context.{Context}
use Rattle.vala_grammar.specs.declared.parts.Context.TheVariants as context
use Rattle.vala_grammar.specs.declared.parts.Tier.{Tier}
use Rattle.vala_grammar.specs.declared.parts.Tier.TheVariants as tier
use Rattle.vala_tree.specs.declared.code.Expr.{Expr}
use Rattle.vala_grammar.specs.Tests.{is, among, is_type_sign, is_prefix, begins_atom, begins_prefix, begins_expression, begins_type, is_plain, is_assignment, opens_choice, is_label}
use Rattle.vala_grammar.specs.Trees as tree
use Rattle.vala_grammar.specs.Parts.{Part, tree_of, Name, NameMore, AnyType, TypeBody, NameInType, NameInTypeMore, Whole, Value, Nameless, Immediate, AfterWord, Onward, Test, Prefix, Unary, Direct, Upto, Rest, Operand, CoalesceTail, CoalesceOperand, ChoiceTail, AssignTail, TestedType, TestedBody, Bracket, OpeningName, LeadMore, Marked, CastEnd, BehindNames, LambdaMore, LambdaEnd, Primary, Atom, Suffix, YieldCall, CallMore, NewMore, NewArray, NewItems, Args, MoreArgs, Arg, Init, Items, MoreItems, BlockOf, Statements, AnyStmt, Bare, Simple, Body, Alternative, IfMore, IfTail, DoMore, ForMore, ForHeadOf, ForExprs, ForTest, ForSteps, MoreSteps, ForeachMore, SwitchMore, AnyLabel, Sections, TryMore, CatchOf, Begin, Locals, MoreLocals, OneLocal}
use Rattle.vala_grammar.specs.Grammar.{G, cast_signs}

-- ---- how loosely a sign binds

-- from the tightest operators to what stands behind a whole expression
abbrev pub looseness : Sort → ℕ
looseness s.Star = 1
looseness s.Slash = 1
looseness s.Percent = 1
looseness s.Plus = 2
looseness s.Minus = 2
looseness s.Shift = 3
looseness s.Less = 4
looseness s.Relation = 4
looseness s.TypeTest = 4
looseness s.Equality = 5
looseness s.Ampersand = 6
looseness s.Caret = 7
looseness s.Bar = 8
looseness s.AndAnd = 9
looseness s.OrOr = 10
looseness s.Coalesce = 11
looseness s.Question = 12
looseness s.Assign = 13
looseness s.Update = 13
looseness s.CloseParen = 14
looseness s.CloseBracket = 14
looseness s.CloseBrace = 14
looseness s.Comma = 14
looseness s.Semicolon = 14
looseness s.Colon = 14
looseness _ = 0

abbrev pub tier_looseness : Tier → ℕ
tier_looseness tier.Product = 1
tier_looseness tier.Sum = 2
tier_looseness tier.Shift = 3
tier_looseness tier.Relation = 4
tier_looseness tier.Equality = 5
tier_looseness tier.BitAnd = 6
tier_looseness tier.BitXor = 7
tier_looseness tier.BitOr = 8
tier_looseness tier.And = 9
tier_looseness tier.Or = 10

-- what may follow a chain, by what it ends with
abbrev pub lets : Last → Sort → Bool
lets last.Integer x = not (is s.Minus x)
lets last.Unmarked x = not (is s.Question x)
lets (last.Asked b) x = is s.Colon x
lets last.Alone x = not (is s.Question x)
lets _ x = true

-- a chain ends in front of what binds more loosely, and names alone in front of a further name too
abbrev pub ends : ℕ → Last → Sort → Bool
ends n last.Alone x = is s.Identifier x || (nat_lt n (looseness x) && lets last.Alone x)
ends n l x = nat_lt n (looseness x) && lets l x

-- a chain goes on with what binds more loosely than one and no more loosely than the other
abbrev pub goes : ℕ → ℕ → Last → Sort → Bool
goes n m (last.Asked b) x = false
goes n m l x = nat_lt n (looseness x) && (nat_lt (looseness x) (suc m) && lets l x)

-- the same, with the `:` that is still to come
abbrev pub goes_colon : ℕ → ℕ → Last → Sort → Bool
goes_colon n m (last.Asked b) x = is s.Colon x
goes_colon n m l x = goes n m l x

abbrev pub behind_expression : Sort → Bool
behind_expression = ends 13 last.Plain

-- ---- what begins a part

abbrev pub begins_immediate : Sort → Bool
begins_immediate x = (is_prefix signs.All x || begins_atom x) || is s.OpenParen x

abbrev pub begins_nameless : Sort → Bool
begins_nameless x = is s.Yield x || begins_immediate x

-- with the `/` that would begin a left-out text
abbrev pub begins_whole : Sort → Bool
begins_whole x = begins_expression x || is s.Slash x

abbrev pub begins_suffix : Last → Sort → Bool
begins_suffix l x = among (s.Dot ∷ s.OpenBracket ∷ s.Step ∷ []) x || (is s.OpenParen x && is_plain l)

abbrev pub begins_declaration : Sort → Bool
begins_declaration x = begins_type x || (is s.Var x || (begins_immediate x || is s.Slash x))

abbrev pub begins_simple : Sort → Bool
begins_simple x =
    among (s.Semicolon ∷ s.While ∷ s.Do ∷ s.For ∷ s.Foreach ∷ s.Break ∷ s.Continue ∷ s.Return ∷ s.Throw ∷ s.Yield ∷ s.Switch ∷ s.Try ∷ []) x || begins_declaration x

abbrev pub begins_bare : Sort → Bool
begins_bare x = is s.If x || begins_simple x

abbrev pub begins_statement : Sort → Bool
begins_statement x = is s.OpenBrace x || begins_bare x

abbrev pub first_of : Part → Sort → Bool
first_of Name x = is s.Identifier x
first_of (NameMore _) x = is s.Dot x
first_of AnyType x = begins_type x
first_of (TypeBody _) x = among (s.Void ∷ s.Identifier ∷ []) x
first_of NameInType x = is s.Identifier x
first_of (NameInTypeMore _) x = among (s.Dot ∷ s.OpenBracket ∷ []) x
first_of Whole x = begins_whole x
first_of Value x = begins_expression x
first_of Nameless x = begins_nameless x
first_of Immediate x = begins_immediate x
first_of (AfterWord _) x = is s.Arrow x || (begins_suffix last.Plain x || goes 0 13 last.Plain x)
first_of (Onward c) x = goes_colon 0 13 c.last x
first_of Test x = begins_whole x
first_of (Prefix y) x = begins_prefix y x || is s.Slash x
first_of (Unary y) x = begins_prefix y x
first_of (Direct y) x = is_prefix y x || begins_atom x
first_of (Upto _ t c) x = goes 0 (tier_looseness t) c.last x
first_of (Rest _ t c) x = goes (tier_looseness t - 1) (tier_looseness t) c.last x
first_of (Operand _ _) x = begins_whole x
first_of (CoalesceTail _ c) x = goes 10 11 c.last x
first_of (CoalesceOperand _) x = begins_whole x
first_of (ChoiceTail c) x = goes_colon 11 12 c.last x
first_of (AssignTail _) x = is_assignment x
first_of (TestedType _) x = begins_type x
first_of (TestedBody _ _) x = among (s.Void ∷ s.Identifier ∷ []) x
first_of (Bracket _ _) x = among (s.CloseParen ∷ s.Owned ∷ s.Unowned ∷ s.Void ∷ []) x || begins_whole x
first_of (OpeningName _) x = is s.Identifier x
first_of (LeadMore _) x = begins_suffix last.Plain x
first_of (Marked y _ _) x = is s.OpenBracket x || (opens_choice y x || is s.Slash x)
first_of (CastEnd _ _) x = is s.CloseParen x || is_type_sign x
first_of (BehindNames _ _ n _) x = begins_prefix (cast_signs n) x || among (s.Arrow ∷ s.Dot ∷ s.OpenBracket ∷ s.Step ∷ []) x
first_of (LambdaMore _) x = is s.Identifier x
first_of (LambdaEnd _ _) x = is s.OpenBrace x || begins_whole x
first_of Primary x = among (s.Identifier ∷ s.Yield ∷ []) x || begins_atom x
first_of Atom x = begins_atom x
first_of (Suffix c) x = begins_suffix c.last x
first_of YieldCall x = among (s.OpenParen ∷ s.Identifier ∷ s.Yield ∷ s.Slash ∷ []) x || begins_atom x
first_of (CallMore _) x = among (s.Dot ∷ s.OpenParen ∷ []) x
first_of (NewMore _ _) x = among (s.OpenParen ∷ s.Question ∷ s.OpenBracket ∷ []) x || is_type_sign x
first_of (NewArray _ _ _) x = is s.OpenBracket x || is_type_sign x
first_of (NewItems _ _ _ _ _) x = is s.OpenBrace x
first_of Args x = among (s.CloseParen ∷ s.Out ∷ s.Ref ∷ []) x || begins_whole x
first_of (MoreArgs _) x = among (s.Comma ∷ s.CloseParen ∷ []) x
first_of Arg x = among (s.Out ∷ s.Ref ∷ []) x || begins_whole x
first_of Init x = is s.OpenBrace x || begins_whole x
first_of Items x = is s.CloseBrace x || begins_whole x
first_of (MoreItems _) x = among (s.Comma ∷ s.CloseBrace ∷ []) x
first_of BlockOf x = is s.OpenBrace x
first_of (Statements _ _) x = is s.CloseBrace x || begins_statement x
first_of AnyStmt x = begins_statement x
first_of Bare x = begins_bare x
first_of Simple x = begins_simple x
first_of Body x = begins_statement x
first_of Alternative x = begins_statement x
first_of IfMore x = is s.OpenParen x
first_of (IfTail _ a) x = is s.Else x && not a.is_open
first_of (DoMore _) x = begins_statement x
first_of (ForMore _) x = is s.OpenParen x
first_of ForHeadOf x = among (s.Semicolon ∷ s.Yield ∷ []) x || begins_declaration x
first_of (ForExprs _) x = among (s.Comma ∷ s.Semicolon ∷ []) x
first_of (ForTest _) x = is s.Semicolon x || begins_whole x
first_of (ForSteps _ _) x = is s.CloseParen x || begins_whole x
first_of (MoreSteps _ _ _) x = among (s.Comma ∷ s.CloseParen ∷ []) x
first_of (ForeachMore _) x = is s.OpenParen x
first_of (SwitchMore _) x = is s.OpenParen x
first_of AnyLabel x = is_label x
first_of (Sections _ _ _ _ _ _) x = is s.CloseBrace x || (is_label x || begins_statement x)
first_of (TryMore _ _ _) x = among (s.Catch ∷ s.Finally ∷ []) x
first_of CatchOf x = is s.Catch x
first_of Begin x = begins_declaration x
first_of (Locals _) x = is s.Identifier x
first_of (MoreLocals _ _) x = is s.Comma x
first_of OneLocal x = is s.Identifier x

-- the parts that a choice takes by their first token
abbrev pub opens_of : Part → Sort → Bool
opens_of Value x = begins_expression x
opens_of Nameless x = begins_nameless x
opens_of Immediate x = begins_immediate x
opens_of (Unary y) x = begins_prefix y x
opens_of (Direct y) x = is_prefix y x || begins_atom x
opens_of Atom x = begins_atom x
opens_of (OpeningName _) x = is s.Identifier x
opens_of BlockOf x = is s.OpenBrace x
opens_of AnyLabel x = is_label x
opens_of CatchOf x = is s.Catch x
opens_of (Locals _) x = is s.Identifier x
opens_of OneLocal x = is s.Identifier x
opens_of _ x = false

-- ---- the trees without tokens

abbrev pub none_choice : Last → Expr → Expr → Type 0
none_choice (last.Asked b) a e = ⊥
none_choice _ a e = e ≡ a

abbrev pub none_of : (p : Part) → tree_of p → Type 0
none_of (NameMore n) e = e ≡ n
none_of (NameInTypeMore n) e = e ≡ type_name.Single n
none_of (AfterWord t) e = e ≡ tree.name t
none_of (Onward c) e = none_choice c.last c.value e
none_of (Upto d t c) e = e ≡ c
none_of (Rest d t c) e = e ≡ c
none_of (CoalesceTail d c) e = e ≡ c
none_of (ChoiceTail c) e = none_choice c.last c.value e
none_of (AssignTail a) e = e ≡ a
none_of (LeadMore n) e = e ≡ lead.Names n
none_of (Marked x n q) e = e ≡ opening.Type (tree.single_type None n (Some q))
none_of (BehindNames top o n c) e = e ≡ bracketed.Operand (tree.bracketed_names o.span n c.span)
none_of (Suffix c) e = e ≡ c
none_of (NewItems t n q a c) e = e ≡ tree.new_array t n q a c.span
none_of (IfTail c a) e = e ≡ tree.one_arm c a
none_of (TryMore t b xs) e = e ≡ tree.try_block t b xs
none_of (MoreLocals y ds) e = e ≡ tree.declared_locals y.0 y.1 ds
none_of _ e = ⊥

-- ---- in front of what a part ends

abbrev pub behind_type : Sort → Bool
behind_type x = not (among (s.Dot ∷ s.Question ∷ s.OpenBracket ∷ []) x)

-- a lambda is no operand
abbrev pub behind_bracket : Bool → Bracketed → Sort → Bool
behind_bracket top (bracketed.Operand c) x = ends 0 c.last x
behind_bracket true (bracketed.Lambda a) x = behind_expression x
behind_bracket false (bracketed.Lambda a) x = true

abbrev pub behind_opening : Context → Opening → Sort → Bool
behind_opening y (opening.Value e) x = behind_expression x
behind_opening context.Statement (opening.Names n) x = is s.Identifier x || behind_expression x
behind_opening context.Bracket (opening.Names n) x = behind_expression x
behind_opening context.Statement (opening.Type y) x = is s.Identifier x || is_type_sign x
behind_opening context.Bracket (opening.Type y) x = is s.CloseParen x || is_type_sign x

abbrev pub behind_lead : Lead → Sort → Bool
behind_lead (lead.Names n) x = not (begins_suffix last.Plain x)
behind_lead (lead.Array n c) x = true
behind_lead (lead.Value c) x = ends 0 c.last x

-- a clause of a `try` goes on with a statement, and an `else` with one that is open
abbrev pub behind_statement : Bool → Sort → Bool
behind_statement is_open x = not (among (s.Catch ∷ s.Finally ∷ []) x) && (not (is s.Else x) || not is_open)

abbrev pub behind_beginning : Beginning → Sort → Bool
behind_beginning (beginning.Declared d y) x = is s.Semicolon x
behind_beginning (beginning.Expression e) x = behind_expression x

abbrev pub stop_of : (p : Part) → tree_of p → Sort → Bool
stop_of Name a x = not (is s.Dot x)
stop_of (NameMore _) a x = not (is s.Dot x)
stop_of AnyType a x = behind_type x
stop_of (TypeBody _) a x = behind_type x
stop_of NameInType a x = not (among (s.Dot ∷ s.OpenBracket ∷ []) x)
stop_of (NameInTypeMore _) a x = not (among (s.Dot ∷ s.OpenBracket ∷ []) x)
stop_of Whole a x = behind_expression x
stop_of Value a x = behind_expression x
stop_of Nameless a x = behind_expression x
stop_of Immediate a x = behind_expression x
stop_of (AfterWord _) a x = behind_expression x
stop_of (Onward _) a x = behind_expression x
stop_of Test a x = ends 12 last.Plain x
stop_of (Prefix _) c x = ends 0 c.last x
stop_of (Unary _) c x = ends 0 c.last x
stop_of (Direct _) c x = ends 0 c.last x
stop_of (Upto _ t _) c x = ends (tier_looseness t) c.last x
stop_of (Rest _ t _) c x = ends (tier_looseness t) c.last x
stop_of (Operand _ t) c x = ends (tier_looseness t - 1) c.last x
stop_of (CoalesceTail _ _) c x = ends 11 c.last x
stop_of (CoalesceOperand _) c x = ends 11 c.last x
stop_of (ChoiceTail _) a x = ends 12 last.Plain x
stop_of (AssignTail _) a x = behind_expression x
stop_of (TestedType _) y x = ends 3 y.last x
stop_of (TestedBody _ _) y x = ends 3 y.last x
stop_of (Bracket top _) r x = behind_bracket top r x
stop_of (OpeningName y) r x = behind_opening y r x
stop_of (LeadMore _) r x = behind_lead r x
stop_of (Marked y _ _) r x = behind_opening y r x
stop_of (CastEnd _ _) c x = ends 0 c.last x
stop_of (BehindNames top _ _ _) r x = behind_bracket top r x
stop_of (LambdaEnd _ _) a x = behind_expression x
stop_of Primary a x = not (is s.OpenBrace x)
stop_of Atom a x = not (is s.OpenBrace x)
stop_of (Suffix _) c x = ends 0 c.last x
stop_of (NewMore _ _) a x = not (is s.OpenBrace x)
stop_of (NewArray _ _ _) a x = not (is s.OpenBrace x)
stop_of (NewItems _ _ _ _ _) a x = not (is s.OpenBrace x)
stop_of Arg a x = among (s.Comma ∷ s.CloseParen ∷ []) x
stop_of Init a x = behind_expression x
stop_of AnyStmt a x = behind_statement a.is_open x
stop_of Bare a x = behind_statement a.is_open x
stop_of Simple a x = behind_statement a.is_open x
stop_of Body a x = behind_statement a.is_open x
stop_of Alternative a x = behind_statement a.is_open x
stop_of IfMore a x = behind_statement a.is_open x
stop_of (IfTail _ _) a x = behind_statement a.is_open x
stop_of (DoMore _) a x = behind_statement false x
stop_of (ForMore _) a x = behind_statement a.is_open x
stop_of (ForeachMore _) a x = behind_statement a.is_open x
stop_of (SwitchMore _) a x = behind_statement false x
stop_of (TryMore _ _ _) a x = behind_statement false x
stop_of Begin b x = behind_beginning b x
stop_of (Locals _) b x = behind_beginning b x
stop_of (MoreLocals _ _) b x = behind_beginning b x
stop_of OneLocal a x = among (s.Comma ∷ s.Semicolon ∷ []) x
stop_of _ a x = true

-- ---- ranks

abbrev pub rank_of : Part → ℕ
rank_of AnyType = 2
rank_of (TypeBody _) = 1
rank_of Whole = 5
rank_of Value = 4
rank_of Nameless = 3
rank_of Immediate = 2
rank_of (AfterWord _) = 12
rank_of (Onward _) = 11
rank_of Test = 5
rank_of (Prefix _) = 3
rank_of (Unary _) = 2
rank_of (Direct _) = 1
rank_of (Upto _ t _) = tier_looseness t
rank_of (Operand _ _) = 4
rank_of (CoalesceOperand _) = 4
rank_of (TestedType _) = 2
rank_of (TestedBody _ _) = 1
rank_of (BehindNames _ _ _ _) = 3
rank_of (Marked _ _ _) = 5
rank_of (Bracket _ _) = 4
rank_of (LambdaEnd _ _) = 6
rank_of Primary = 1
rank_of YieldCall = 2
rank_of (NewMore _ _) = 1
rank_of Args = 5
rank_of Arg = 4
rank_of Init = 6
rank_of Items = 6
rank_of (Statements _ _) = 7
rank_of AnyStmt = 6
rank_of Bare = 5
rank_of Simple = 4
rank_of Body = 6
rank_of Alternative = 6
rank_of (DoMore _) = 7
rank_of ForHeadOf = 4
rank_of (ForTest _) = 6
rank_of (ForSteps _ _) = 6
rank_of (Sections _ _ _ _ _ _) = 7
rank_of (TryMore _ _ _) = 1
rank_of Begin = 3
rank_of (Locals _) = 1
rank_of _ = 0

abbrev pub tables : Tables G
tables = record { first = first_of; opens = opens_of; none = none_of; stop = stop_of; rank = rank_of; top = 12 }
