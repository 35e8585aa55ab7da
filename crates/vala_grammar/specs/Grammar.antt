-- The grammar: the form of each part. A token of a form stands at the level of the part, inside brackets one level up.
use Rattle.std.specs.Prelude.{ℕ, suc, ◌-◌, Bool, true, false, ◌&&◌, if◌then◌else◌, List, [], ◌∷◌, ◌++◌, length, Option, Some, None}
use Rattle.vg_base.specs.declared.event.Span.{Span}
use Rattle.predictive_grammar.specs.Forms.{Signature, Form, give, take, part, pick, bar, Productions}
use Rattle.vala_lexer.specs.Tokens.{Lexeme}
use Rattle.vala_tree.specs.declared.names.Identifier.{Identifier}
use Rattle.vala_tree.specs.declared.names.NameTree.{NameTree}
use Rattle.vala_tree.specs.declared.names.TypeTree.{TypeTree}
use Rattle.vala_tree.specs.declared.code.Expr.{Expr}
use Rattle.vala_tree.specs.declared.code.Argument.{Argument}
use Rattle.vala_tree.specs.declared.code.Stmt.{Stmt}
use Rattle.vala_tree.specs.declared.code.Stmt.TheVariants as st
use Rattle.vala_tree.specs.declared.code.Label.{Label}
use Rattle.vala_tree.specs.declared.code.Label.TheVariants as label
use Rattle.vala_tree.specs.declared.code.Section.{Section}
use Rattle.vala_tree.specs.declared.code.DeclaredType.{DeclaredType}
use Rattle.vala_tree.specs.declared.code.DeclaredType.TheVariants as declared
use Rattle.vala_tree.specs.declared.code.ForStart.{ForStart}
use Rattle.vala_tree.specs.declared.code.ForStart.TheVariants as start
use Rattle.vala_grammar.specs.declared.sort.Sort.{Sort}
use Rattle.vala_grammar.specs.declared.sort.Sort.TheVariants as s
use Rattle.vala_grammar.specs.declared.parts.Last.{Last}
use Rattle.vala_grammar.specs.declared.parts.Last.TheVariants as last
use Rattle.vala_grammar.specs.declared.parts.Chain.{Chain}
use Rattle.vala_grammar.specs.declared.parts.TypeName.{TypeName}
use Rattle.vala_grammar.specs.declared.parts.TypeName.TheVariants as type_name
use Rattle.vala_grammar.specs.declared.parts.Lead.{Lead}
use Rattle.vala_grammar.specs.declared.parts.Lead.TheVariants as lead
use Rattle.vala_grammar.specs.declared.parts.Opening.{Opening}
use Rattle.vala_grammar.specs.declared.parts.Opening.TheVariants as opening
use Rattle.vala_grammar.specs.declared.parts.Bracketed.{Bracketed}
use Rattle.vala_grammar.specs.declared.parts.Bracketed.TheVariants as bracketed
use Rattle.vala_grammar.specs.declared.parts.Beginning.{Beginning}
use Rattle.vala_grammar.specs.declared.parts.Beginning.TheVariants as beginning
use Rattle.vala_grammar.specs.declared.parts.Ended.{Ended}
use Rattle.vala_grammar.specs.declared.parts.ForHead.{ForHead}
use Rattle.vala_grammar.specs.declared.parts.Arguments.{Arguments}
use Rattle.vala_grammar.specs.declared.parts.Listed.{Listed}
use Rattle.vala_grammar.specs.declared.parts.Signs.{Signs}
use Rattle.vala_grammar.specs.declared.parts.Signs.TheVariants as signs
use Rattle.vala_grammar.specs.declared.parts.Context.{Context}
use Rattle.vala_grammar.specs.declared.parts.Context.TheVariants as context
use Rattle.vala_grammar.specs.declared.parts.Tier.{Tier}
use Rattle.vala_grammar.specs.declared.parts.Tier.TheVariants as tier
use Rattle.vala_grammar.specs.Sorts.{sort}
use Rattle.vala_grammar.specs.Tests.{is, among, is_ownership, is_type_sign, is_prefix, is_literal, begins_prefix, begins_expression, tighter, is_plain, is_asked, goes_on, is_assignment, opens_choice, is_label}
use Rattle.vala_grammar.specs.Label as wrong
use Rattle.vala_grammar.specs.Trees as tree
use Rattle.vala_grammar.specs.Parts.{Part, tree_of, Name, NameMore, AnyType, TypeBody, NameInType, NameInTypeMore, Whole, Value, Nameless, Immediate, AfterWord, Onward, Test, Prefix, Unary, Direct, Upto, Rest, Operand, CoalesceTail, CoalesceOperand, ChoiceTail, AssignTail, TestedType, TestedBody, Bracket, OpeningName, LeadMore, Marked, CastEnd, BehindNames, LambdaMore, LambdaEnd, Primary, Atom, Suffix, YieldCall, CallMore, NewMore, NewArray, NewItems, Args, MoreArgs, Arg, Init, Items, MoreItems, BlockOf, Statements, AnyStmt, Bare, Simple, Body, Alternative, IfMore, IfTail, DoMore, ForMore, ForHeadOf, ForExprs, ForTest, ForSteps, MoreSteps, ForeachMore, SwitchMore, AnyLabel, Sections, TryMore, CatchOf, Begin, Locals, MoreLocals, OneLocal}

abbrev pub G : Signature
G = record { Token = Lexeme; Kind = Sort; kind = λ t. sort t.kind; Part = Part; Tree = tree_of; Label = wrong.Label }

-- ---- levels

abbrev pub same : ℕ → ℕ
same l = l

abbrev pub up : ℕ → ℕ
up l = suc l

-- ---- steps of a form

abbrev pub token : {r : Part} → (Sort → Bool) → (Lexeme → Form G r) → Form G r
token test k = take same 0 test k

abbrev pub one : {r : Part} → Sort → (Lexeme → Form G r) → Form G r
one x k = take same 0 (is x) k

-- inside a bracket
abbrev pub inner : {r : Part} → Sort → (Lexeme → Form G r) → Form G r
inner x k = take up 0 (is x) k

abbrev pub here : {r : Part} (q : Part) → (tree_of q → Form G r) → Form G r
here q k = part same q k

abbrev pub deeper : {r : Part} (q : Part) → (tree_of q → Form G r) → Form G r
deeper q k = part up q k

-- the way of a token, or the other
abbrev pub where_one : {r : Part} → Sort → (Lexeme → Form G r) → Form G r → Form G r
where_one x k other = pick (is x) (one x k) other

abbrev pub where_token : {r : Part} → (Sort → Bool) → (Lexeme → Form G r) → Form G r → Form G r
where_token test k other = pick test (token test k) other

abbrev pub where_inner : {r : Part} → Sort → (Lexeme → Form G r) → Form G r → Form G r
where_inner x k other = pick (is x) (inner x k) other

-- a token of a sort that passes the test would begin here what the profile leaves out
abbrev pub left_out : {r : Part} → (Sort → Bool) → Form G r → Form G r
left_out test k = bar test wrong.Here k

-- a `/` where an operand must stand would begin a left-out text
abbrev pub operand_here : {r : Part} → Form G r → Form G r
operand_here k = left_out (is s.Slash) k

-- what reads a part and has its tree
abbrev pub just : {r : Part} (q : Part) → (tree_of q → tree_of r) → Form G r
just q f = here q (λ a. give (f a))

abbrev pub as_it_is : {A : Type 0} → A → A
as_it_is a = a

-- `[ ]` and the mark behind it
abbrev pub array_end : {r : Part} → (Option Span → Span → tree_of r) → Form G r
array_end f = left_out (is s.Comma) (inner s.CloseBracket (λ c. where_one s.Question (λ q. give (f (Some q.span) c.span)) (give (f None c.span))))

-- ---- types

-- behind the name in a type
abbrev pub type_behind : (o : Option Lexeme) → TypeName → Form G (TypeBody o)
type_behind o (type_name.Single n) =
    where_one s.Question (λ q. where_one s.OpenBracket (λ b. array_end (λ r c. tree.array_type o n (Some q.span) c r)) (give (tree.single_type o n (Some q.span)))) (give (tree.single_type o n None))
type_behind o (type_name.Array n c) = where_one s.Question (λ q. give (tree.array_type o n None c (Some q.span))) (give (tree.array_type o n None c None))

-- ---- operators

-- behind a chain, of one tier
abbrev pub binary_rest : (d : ℕ) (t : Tier) (c : Chain) → Form G (Rest d t c)
binary_rest d t c = where_token (goes_on t c.last) (λ o. deeper (Operand (suc d) t) (λ b. deeper (Rest (suc d) t (tree.joined c o b)) (λ e. give e))) (give c)

abbrev pub rest_of : (d : ℕ) (t : Tier) (c : Chain) → Form G (Rest d t c)
rest_of d tier.Relation c = where_one s.TypeTest (λ o. deeper (TestedType (suc d)) (λ y. deeper (Rest (suc d) tier.Relation (tree.tested c o y)) (λ e. give e))) (binary_rest d tier.Relation c)
rest_of d t c = binary_rest d t c

abbrev pub upto_of : (d : ℕ) (t : Tier) (c : Chain) → Option Tier → Form G (Upto d t c)
upto_of d t c None = just (Rest d t c) as_it_is
upto_of d t c (Some u) = here (Upto d u c) (λ e. just (Rest d t e) as_it_is)

abbrev pub operand_of : (d : ℕ) (t : Tier) → Option Tier → Chain → Form G (Operand d t)
operand_of d t None c = give c
operand_of d t (Some u) c = just (Upto d u c) as_it_is

-- `: c` behind `a ? b`
abbrev pub choice_end : {r : Part} → Expr → Expr → (Expr → Form G r) → Form G r
choice_end a b k = inner s.Colon (λ t. deeper Test (λ c. k (tree.conditional a b c)))

abbrev pub choice_of : (c : Chain) → Last → Form G (ChoiceTail c)
choice_of c (last.Asked b) = choice_end c.value b (λ e. give e)
choice_of c last.Unmarked = give c.value
choice_of c last.Alone = give c.value
choice_of c _ = where_one s.Question (λ q. deeper Whole (λ b. choice_end c.value b (λ e. give e))) (give c.value)

-- ---- the type behind `is` and `as`

-- no `*` follows it
abbrev pub tested : {d : ℕ} {o : Option Lexeme} → Last → TypeTree → Form G (TestedBody d o)
tested l y = left_out (is s.Star) (give (record { tree = y; last = l }))

-- a `?` begins a choice where an expression follows, and else marks the type
abbrev pub question_behind : (d : ℕ) (o : Option Lexeme) (without : TypeTree) → (Span → Form G (TestedBody d o)) → Form G (TestedBody d o)
question_behind d o without marked =
    pick (is s.Question)
    (take (λ l. l - d) 0 (is s.Question) (λ q. pick begins_expression (part (λ l. suc (l - d)) Value (λ b. give (record { tree = without; last = last.Asked b }))) (marked q.span)))
    (tested last.Unmarked without)

abbrev pub tested_array : (d : ℕ) (o : Option Lexeme) → NameTree → Option Span → Span → Form G (TestedBody d o)
tested_array d o n q c = question_behind d o (tree.array_type o n q c None) (λ r. left_out (is s.Slash) (tested last.Plain (tree.array_type o n q c (Some r))))

abbrev pub tested_name : (d : ℕ) (o : Option Lexeme) → TypeName → Form G (TestedBody d o)
tested_name d o (type_name.Single n) =
    question_behind d o (tree.single_type o n None) (λ q.
    where_one s.OpenBracket (λ b. left_out (is s.Comma) (inner s.CloseBracket (λ c. tested_array d o n (Some q) c.span))) (left_out (is s.Slash) (tested last.Plain (tree.single_type o n (Some q)))))
tested_name d o (type_name.Array n c) = tested_array d o n None c

-- ---- what begins with a bracket

abbrev pub bracketed_end : (top : Bool) (o : Lexeme) → Expr → Form G (Bracket top o)
bracketed_end top o e = inner s.CloseParen (λ c. just (Suffix (tree.plain (tree.bracketed o.span e c.span))) (λ a. bracketed.Operand a))

abbrev pub cast_of : (top : Bool) (o : Lexeme) → TypeTree → Form G (Bracket top o)
cast_of top o y = just (CastEnd o y) (λ c. bracketed.Operand c)

-- a lambda behind its parameters
abbrev pub lambda_of : {r : Part} → Span → List Identifier → (Expr → tree_of r) → Form G r
lambda_of first xs f = one s.Arrow (λ w. deeper (LambdaEnd first xs) (λ a. give (f a)))

abbrev pub names_end : (top : Bool) (o : Lexeme) → NameTree → Form G (Bracket top o)
names_end top o n = inner s.CloseParen (λ c. just (BehindNames top o n c) as_it_is)

abbrev pub names_in_bracket : (top : Bool) (o : Lexeme) → NameTree → Form G (Bracket top o)
names_in_bracket top o n =
    if top && tree.is_one_word n
    then where_inner s.Comma (λ m. deeper (LambdaMore n.words) (λ xs. lambda_of o.span xs (λ a. bracketed.Lambda a))) (names_end top o n)
    else names_end top o n

abbrev pub opened : (top : Bool) (o : Lexeme) → Opening → Form G (Bracket top o)
opened top o (opening.Type y) = cast_of top o y
opened top o (opening.Names n) = names_in_bracket top o n
opened top o (opening.Value e) = bracketed_end top o e

abbrev pub bracket_of : (top : Bool) (o : Lexeme) → Form G (Bracket top o)
bracket_of top o =
    where_inner s.Owned (λ w. where_inner s.CloseParen (λ c. deeper (Prefix signs.All) (λ x. give (bracketed.Operand (tree.moved o x)))) (deeper (TypeBody (Some w)) (λ y. cast_of top o y)))
    (where_inner s.Unowned (λ w. deeper (TypeBody (Some w)) (λ y. cast_of top o y))
    (where_inner s.Void (λ t. cast_of top o (tree.void_type None t))
    (pick (is s.Identifier) (deeper (OpeningName context.Bracket) (λ r. opened top o r))
    (operand_here (deeper Nameless (λ e. bracketed_end top o e))))))

abbrev pub cast_signs : NameTree → Signs
cast_signs n = if tree.is_integer_type n then signs.IntegerCast else signs.Cast

abbrev pub behind_names : (top : Bool) (o : Lexeme) (n : NameTree) (c : Lexeme) → Form G (BehindNames top o n c)
behind_names top o n c =
    pick (begins_prefix (cast_signs n)) (deeper (Unary (cast_signs n)) (λ x. give (bracketed.Operand (tree.cast o (tree.single_type None n None) x))))
    (if top && tree.is_one_word n
    then pick (is s.Arrow) (lambda_of o.span n.words (λ a. bracketed.Lambda a)) (just (Suffix (tree.bracketed_names o.span n c.span)) (λ a. bracketed.Operand a))
    else just (Suffix (tree.bracketed_names o.span n c.span)) (λ a. bracketed.Operand a))

abbrev pub operand_in : {r : Part} → Bracketed → (Expr → Form G r) → (Chain → Form G r) → Form G r
operand_in (bracketed.Lambda a) f g = f a
operand_in (bracketed.Operand c) f g = g c

-- ---- what may be a type or an expression

-- behind names and the operators of tiers and `??` that follow them
abbrev pub after_names : (x : Context) → NameTree → Chain → Last → Form G (OpeningName x)
after_names x n c last.Alone = where_token is_assignment (λ t. deeper Whole (λ b. give (opening.Value (tree.assigned c.value t b)))) (give (opening.Names n))
after_names x n c _ = here (ChoiceTail c) (λ e. just (AssignTail e) (λ a. opening.Value a))

abbrev pub names_onward : (x : Context) → NameTree → Form G (OpeningName x)
names_onward x n = here (Upto 0 tier.Or (tree.alone n)) (λ c. here (CoalesceTail 0 c) (λ d. after_names x n d d.last))

abbrev pub leads : (x : Context) → Lead → Form G (OpeningName x)
leads x (lead.Array n c) = where_one s.Question (λ q. give (opening.Type (tree.array_type None n None c (Some q.span)))) (give (opening.Type (tree.array_type None n None c None)))
leads x (lead.Value c) = just (Onward c) (λ e. opening.Value e)
leads x (lead.Names n) =
    where_one s.Question (λ q. just (Marked x n q.span) as_it_is)
    (if tree.is_one_word n then pick (is s.Arrow) (lambda_of n.span n.words (λ a. opening.Value a)) (names_onward x n) else names_onward x n)

-- `b : c` behind names and `?`, and more
abbrev pub choice_of_names : {x : Context} {n : NameTree} {q : Span} → Expr → Form G (Marked x n q)
choice_of_names {n = n} b = choice_end (tree.names n) b (λ e. just (AssignTail e) (λ a. opening.Value a))

-- a choice, where it can be told from a marked type, whose name may follow a statement's
abbrev pub asked_names : (x : Context) (n : NameTree) (q : Span) → Form G (Marked x n q) → Form G (Marked x n q)
asked_names context.Statement n q other = pick (opens_choice context.Statement) (deeper Nameless (λ b. choice_of_names b)) other
asked_names context.Bracket n q other = pick (opens_choice context.Bracket) (deeper Value (λ b. choice_of_names b)) other

-- an index
abbrev pub index_of : {r : Part} → Expr → (Chain → tree_of r) → Form G r
index_of a f = deeper Whole (λ i. left_out (is s.Colon) (inner s.CloseBracket (λ c. deeper (Suffix (tree.plain (tree.index a i c))) (λ e. give (f e)))))

-- the call behind `yield`, and what follows it
abbrev pub yield_call : {r : Part} → Lexeme → (Chain → Form G r) → Form G r
yield_call t k = deeper YieldCall (λ a. here (Suffix (tree.plain (tree.yielded t a))) k)

-- ---- statements

abbrev pub braces : {r : Part} → (Ended → tree_of r) → Form G r
braces f = here BlockOf (λ b. give (f (tree.ended (st.Block b))))

-- `( e )` before more
abbrev pub test_then : {r : Part} → (Expr → Form G r) → Form G r
test_then k = one s.OpenParen (λ p. deeper Whole (λ c. inner s.CloseParen (λ q. k c)))

abbrev pub end_with : {r : Part} → (Lexeme → tree_of r) → Form G r
end_with f = one s.Semicolon (λ c. give (f c))

abbrev pub jumps : Form G Simple → Form G Simple
jumps other =
    where_one s.Break (λ t. end_with (λ c. tree.ended (tree.break_jump t c)))
    (where_one s.Continue (λ t. end_with (λ c. tree.ended (tree.continue_jump t c)))
    (where_one s.Return (λ t. where_one s.Semicolon (λ c. give (tree.ended (tree.return_jump t None c))) (here Whole (λ e. end_with (λ c. tree.ended (tree.return_jump t (Some e) c)))))
    (where_one s.Throw (λ t. here Whole (λ e. end_with (λ c. tree.ended (tree.throw_jump t e c))))
    (where_one s.Yield (λ t. where_one s.Semicolon (λ c. give (tree.ended (tree.yield_jump t c)))
    (yield_call t (λ x. here (Onward x) (λ e. end_with (λ c. tree.ended (tree.expression e c))))))
    other))))

abbrev pub loops : Form G Simple → Form G Simple
loops other =
    where_one s.While (λ t. test_then (λ c. here Body (λ a. give (tree.while_loop t c a))))
    (where_one s.Do (λ t. just (DoMore t) tree.ended)
    (where_one s.For (λ t. just (ForMore t) as_it_is)
    (where_one s.Foreach (λ t. just (ForeachMore t) as_it_is)
    other)))

abbrev pub for_start : Beginning → Form G ForHeadOf
for_start (beginning.Declared d x) = one s.Semicolon (λ z. just (ForTest (start.Declared d)) as_it_is)
for_start (beginning.Expression e) = just (ForExprs (e ∷ [])) as_it_is

abbrev pub head : ForStart → Option Expr → List Expr → ForHead
head b c xs = record { start = b; test = c; steps = xs }

abbrev pub foreach_name : (t : Lexeme) → DeclaredType → Form G (ForeachMore t)
foreach_name t y = inner s.Identifier (λ x. inner s.In (λ w. deeper Whole (λ e. inner s.CloseParen (λ q. here Body (λ a. give (tree.foreach_loop t y x e a))))))

-- a label behind statements begins a part of the `switch`, and behind a label it is one more
abbrev pub label_behind : (t : Lexeme) (e : Expr) (done : List Section) (x : Label) (xs : List Label) (ss : List Stmt) → Label → Form G (Sections t e done x xs ss)
label_behind t e done x xs [] y = just (Sections t e done x (xs ++ y ∷ []) []) as_it_is
label_behind t e done x xs ss y = just (Sections t e (done ++ tree.section x xs ss ∷ []) y [] []) as_it_is

-- what is declared of a written type
abbrev pub written : TypeTree → Form G Begin
written y = left_out is_type_sign (just (Locals (declared.Written y, y.span)) as_it_is)

abbrev pub begins : Opening → Form G Begin
begins (opening.Type y) = written y
begins (opening.Names n) =
    pick (is s.Identifier) (just (Locals (declared.Written (tree.single_type None n None), n.span)) as_it_is) (give (beginning.Expression (tree.names n)))
begins (opening.Value e) = give (beginning.Expression e)

abbrev pub arguments : List Argument → Span → Arguments
arguments xs c = record { list = xs; close = c }

abbrev pub listed : List Expr → Span → Listed
listed xs c = record { list = xs; close = c }

-- ---- the form of each part

unfoldable pub forms : Productions G
forms Name = one s.Identifier (λ t. just (NameMore (tree.one_word t)) as_it_is)
forms (NameMore n) = where_one s.Dot (λ d. one s.Identifier (λ t. deeper (NameMore (tree.one_more_word n t)) (λ m. give m))) (give n)
forms AnyType = where_token is_ownership (λ o. just (TypeBody (Some o)) as_it_is) (just (TypeBody None) as_it_is)
forms (TypeBody o) = where_one s.Void (λ t. give (tree.void_type o t)) (here NameInType (λ n. type_behind o n))
forms NameInType = one s.Identifier (λ t. just (NameInTypeMore (tree.one_word t)) as_it_is)
forms (NameInTypeMore n) =
    where_one s.Dot (λ d. one s.Identifier (λ t. deeper (NameInTypeMore (tree.one_more_word n t)) (λ m. give m)))
    (where_one s.OpenBracket (λ b. left_out (is s.Comma) (inner s.CloseBracket (λ c. give (type_name.Array n c.span)))) (give (type_name.Single n)))
forms Whole = operand_here (just Value as_it_is)
forms Value = where_one s.Identifier (λ t. just (AfterWord t) as_it_is) (just Nameless as_it_is)
forms Nameless = where_one s.Yield (λ t. yield_call t (λ c. just (Onward c) as_it_is)) (just Immediate as_it_is)
forms Immediate =
    where_one s.OpenParen (λ o. here (Bracket true o) (λ r. operand_in r (λ a. give a) (λ c. just (Onward c) as_it_is)))
    (here (Direct signs.All) (λ c. just (Onward c) as_it_is))
forms (AfterWord t) =
    pick (is s.Arrow) (lambda_of t.span (tree.identifier t ∷ []) as_it_is) (here (Suffix (tree.plain (tree.name t))) (λ c. just (Onward c) as_it_is))
forms (Onward c) = here (Upto 0 tier.Or c) (λ d. here (CoalesceTail 0 d) (λ e. here (ChoiceTail e) (λ f. just (AssignTail f) as_it_is)))
forms Test = here (Prefix signs.All) (λ c. here (Upto 0 tier.Or c) (λ d. here (CoalesceTail 0 d) (λ e. just (ChoiceTail e) as_it_is)))
forms (Prefix x) = operand_here (just (Unary x) as_it_is)
forms (Unary x) =
    where_one s.OpenParen (λ o. here (Bracket false o) (λ r. operand_in r (λ a. give (tree.plain a)) (λ c. give c)))
    (where_one s.Identifier (λ t. just (Suffix (tree.plain (tree.name t))) as_it_is)
    (where_one s.Yield (λ t. yield_call t (λ c. give c))
    (just (Direct x) as_it_is)))
forms (Direct x) = where_token (is_prefix x) (λ t. deeper (Prefix signs.All) (λ c. give (tree.prefixed t c))) (here Atom (λ a. just (Suffix (tree.plain a)) as_it_is))
forms (Upto d t c) = upto_of d t c (tighter t)
forms (Rest d t c) = if is_asked c.last then give c else rest_of d t c
forms (Operand d t) = here (Prefix signs.All) (λ c. operand_of d t (tighter t) c)
forms (CoalesceTail d c) = if is_asked c.last then give c else where_one s.Coalesce (λ t. deeper (CoalesceOperand (suc d)) (λ b. give (tree.joined c t b))) (give c)
forms (CoalesceOperand d) = here (Prefix signs.All) (λ c. here (Upto d tier.Or c) (λ e. just (CoalesceTail d e) as_it_is))
forms (ChoiceTail c) = choice_of c c.last
forms (AssignTail a) = where_token is_assignment (λ t. deeper Whole (λ b. give (tree.assigned a t b))) (give a)
forms (TestedType d) = where_token is_ownership (λ o. just (TestedBody d (Some o)) as_it_is) (just (TestedBody d None) as_it_is)
forms (TestedBody d o) = where_one s.Void (λ t. tested last.Plain (tree.void_type o t)) (here NameInType (λ n. tested_name d o n))
forms (Bracket top o) =
    if top then where_inner s.CloseParen (λ c. lambda_of o.span [] (λ a. bracketed.Lambda a)) (bracket_of top o) else bracket_of top o
forms (OpeningName x) = one s.Identifier (λ t. here (LeadMore (tree.one_word t)) (λ r. leads x r))
forms (LeadMore n) =
    where_one s.Dot (λ d. one s.Identifier (λ t. deeper (LeadMore (tree.one_more_word n t)) (λ r. give r)))
    (where_one s.OpenBracket (λ b. left_out (is s.Comma) (where_inner s.CloseBracket (λ c. give (lead.Array n c.span)) (index_of (tree.names n) (λ c. lead.Value c))))
    (where_one s.Step (λ t. deeper (Suffix (tree.plain (tree.step (tree.names n) t))) (λ c. give (lead.Value c)))
    (where_one s.OpenParen (λ p. deeper Args (λ xs. deeper (Suffix (tree.plain (tree.call (tree.names n) xs))) (λ c. give (lead.Value c))))
    (give (lead.Names n)))))
forms (Marked x n q) =
    operand_here
    (where_one s.OpenBracket (λ b. array_end (λ r c. opening.Type (tree.array_type None n (Some q) c r)))
    (asked_names x n q (give (opening.Type (tree.single_type None n (Some q))))))
forms (CastEnd o y) = left_out is_type_sign (inner s.CloseParen (λ c. deeper (Prefix signs.Cast) (λ x. give (tree.cast o y x))))
forms (BehindNames top o n c) = behind_names top o n c
forms (LambdaMore xs) =
    one s.Identifier (λ t. where_one s.Comma (λ m. just (LambdaMore (xs ++ tree.identifier t ∷ [])) as_it_is) (one s.CloseParen (λ c. give (xs ++ tree.identifier t ∷ []))))
forms (LambdaEnd first xs) = pick (is s.OpenBrace) (here BlockOf (λ b. give (tree.lambda_code first xs b))) (here Whole (λ e. give (tree.lambda_value first xs e)))
forms Primary =
    where_one s.Identifier (λ t. give (tree.name t)) (where_one s.Yield (λ t. deeper YieldCall (λ a. give (tree.yielded t a))) (just Atom as_it_is))
forms Atom =
    where_token is_literal (λ t. give (tree.constant t))
    (where_one s.This (λ t. give (tree.this t))
    (where_one s.Base (λ t. give (tree.base t))
    (one s.New (λ t. here Name (λ n. just (NewMore t n) as_it_is)))))
forms (Suffix c) =
    where_one s.Dot (λ d. one s.Identifier (λ t. deeper (Suffix (tree.plain (tree.member c.value (tree.identifier t)))) (λ e. give e)))
    (where_one s.OpenBracket (λ b. index_of c.value as_it_is)
    (where_one s.Step (λ t. deeper (Suffix (tree.plain (tree.step c.value t))) (λ e. give e))
    (if is_plain c.last then where_one s.OpenParen (λ p. deeper Args (λ xs. deeper (Suffix (tree.plain (tree.call c.value xs))) (λ e. give e))) (give c) else give c)))
forms YieldCall =
    operand_here
    (where_one s.OpenParen (λ o. deeper Whole (λ e. inner s.CloseParen (λ c. just (CallMore (tree.bracketed o.span e c.span)) as_it_is)))
    (here Primary (λ a. just (CallMore a) as_it_is)))
forms (CallMore a) =
    where_one s.Dot (λ d. one s.Identifier (λ t. deeper (CallMore (tree.member a (tree.identifier t))) (λ e. give e)))
    (one s.OpenParen (λ p. deeper Args (λ xs. give (tree.call a xs))))
forms (NewMore t n) =
    where_one s.OpenParen (λ p. deeper Args (λ xs. left_out (is s.OpenBrace) (give (tree.new_object t n xs))))
    (where_one s.Question (λ q. just (NewArray t n (Some q.span)) as_it_is) (just (NewArray t n None) as_it_is))
forms (NewArray t n q) =
    left_out is_type_sign (one s.OpenBracket (λ b. left_out (is s.Comma)
    (where_inner s.CloseBracket (λ c. just (NewItems t n q None c) as_it_is) (deeper Whole (λ e. inner s.CloseBracket (λ c. just (NewItems t n q (Some e) c) as_it_is))))))
forms (NewItems t n q e c) = where_one s.OpenBrace (λ b. deeper Items (λ xs. give (tree.new_array_of t n q e xs))) (give (tree.new_array t n q e c.span))
forms Args = where_one s.CloseParen (λ c. give (arguments [] c.span)) (here Arg (λ a. just (MoreArgs (a ∷ [])) as_it_is))
forms (MoreArgs xs) =
    pick (is s.Comma) (take same (length xs) (is s.Comma) (λ t. here Arg (λ a. just (MoreArgs (xs ++ a ∷ [])) as_it_is))) (one s.CloseParen (λ c. give (arguments xs c.span)))
forms Arg =
    where_token (among (s.Out ∷ s.Ref ∷ [])) (λ t. just Whole (λ e. tree.marked_argument t e))
    (where_one s.Identifier (λ t. where_one s.Colon (λ m. just Whole (λ e. tree.named_argument t e)) (just (AfterWord t) tree.argument))
    (operand_here (just Nameless tree.argument)))
forms Init = where_one s.OpenBrace (λ b. deeper Items (λ xs. give (tree.list_in_braces b xs))) (just Whole as_it_is)
forms Items = where_one s.CloseBrace (λ c. give (listed [] c.span)) (here Whole (λ a. just (MoreItems (a ∷ [])) as_it_is))
forms (MoreItems xs) =
    where_one s.Comma (λ t. here Whole (λ a. just (MoreItems (xs ++ a ∷ [])) as_it_is)) (one s.CloseBrace (λ c. give (listed xs c.span)))
forms BlockOf = one s.OpenBrace (λ o. deeper (Statements o []) (λ b. give b))
forms (Statements o xs) = where_one s.CloseBrace (λ c. give (tree.block o xs c)) (here AnyStmt (λ x. just (Statements o (xs ++ x.statement ∷ [])) as_it_is))
forms AnyStmt = pick (is s.OpenBrace) (braces as_it_is) (just Bare as_it_is)
forms Bare = where_one s.If (λ t. just IfMore (λ b. tree.if_of t b)) (just Simple as_it_is)
forms Simple =
    where_one s.Semicolon (λ t. give (tree.ended (st.Empty t.span)))
    (loops (jumps
    (where_one s.Switch (λ t. just (SwitchMore t) tree.ended)
    (where_one s.Try (λ t. here BlockOf (λ b. just (TryMore t b []) tree.ended))
    (here Begin (λ b. end_with (λ c. tree.ended (tree.begun b c))))))))
forms Body = pick (is s.OpenBrace) (braces as_it_is) (deeper Bare (λ x. give x))
forms Alternative = pick (is s.OpenBrace) (braces tree.last_branch) (where_one s.If (λ t. just IfMore as_it_is) (deeper Simple (λ x. give (tree.last_branch x))))
forms IfMore = test_then (λ c. here Body (λ a. just (IfTail c a) as_it_is))
forms (IfTail c a) = if a.is_open then give (tree.one_arm c a) else where_one s.Else (λ w. here Alternative (λ b. give (tree.arm_before c a b))) (give (tree.one_arm c a))
forms (DoMore t) = here Body (λ a. one s.While (λ w. test_then (λ c. end_with (λ z. tree.do_loop t a c z))))
forms (ForMore t) = one s.OpenParen (λ p. deeper ForHeadOf (λ h. here Body (λ a. give (tree.for_loop t h a))))
forms ForHeadOf =
    where_one s.Semicolon (λ z. just (ForTest (start.Exprs [])) as_it_is)
    (where_one s.Yield (λ t. yield_call t (λ x. here (Onward x) (λ e. just (ForExprs (e ∷ [])) as_it_is)))
    (here Begin (λ b. for_start b)))
forms (ForExprs xs) = where_one s.Comma (λ t. here Whole (λ e. just (ForExprs (xs ++ e ∷ [])) as_it_is)) (one s.Semicolon (λ z. just (ForTest (start.Exprs xs)) as_it_is))
forms (ForTest b) = where_one s.Semicolon (λ z. just (ForSteps b None) as_it_is) (here Whole (λ c. one s.Semicolon (λ z. just (ForSteps b (Some c)) as_it_is)))
forms (ForSteps b c) = where_one s.CloseParen (λ q. give (head b c [])) (here Whole (λ e. just (MoreSteps b c (e ∷ [])) as_it_is))
forms (MoreSteps b c xs) = where_one s.Comma (λ t. here Whole (λ e. just (MoreSteps b c (xs ++ e ∷ [])) as_it_is)) (one s.CloseParen (λ q. give (head b c xs)))
forms (ForeachMore t) =
    one s.OpenParen (λ p. where_inner s.Var (λ v. foreach_name t declared.Var) (deeper AnyType (λ y. left_out is_type_sign (foreach_name t (declared.Written y)))))
forms (SwitchMore t) =
    test_then (λ e. one s.OpenBrace (λ o. where_inner s.CloseBrace (λ c. give (tree.switch t e [] c)) (deeper AnyLabel (λ x. deeper (Sections t e [] x [] []) (λ y. give y)))))
forms AnyLabel =
    where_one s.Case (λ t. here Whole (λ e. one s.Colon (λ c. give (label.Case e (tree.join t.span c.span))))) (one s.Default (λ t. one s.Colon (λ c. give (label.Default (tree.join t.span c.span)))))
forms (Sections t e done x xs ss) =
    where_one s.CloseBrace (λ c. give (tree.switch t e (done ++ tree.section x xs ss ∷ []) c))
    (pick is_label (here AnyLabel (λ y. label_behind t e done x xs ss y))
    (here AnyStmt (λ z. just (Sections t e done x xs (ss ++ z.statement ∷ [])) as_it_is)))
forms (TryMore t b xs) =
    pick (is s.Catch) (here CatchOf (λ c. just (TryMore t b (xs ++ c ∷ [])) as_it_is))
    (where_one s.Finally (λ w. here BlockOf (λ z. give (tree.try_finally t b xs z))) (give (tree.try_block t b xs)))
forms CatchOf =
    one s.Catch (λ t. where_one s.OpenParen (λ p. deeper AnyType (λ y. left_out is_type_sign (inner s.Identifier (λ x. inner s.CloseParen (λ q. here BlockOf (λ b. give (tree.catch_one t y x b)))))))
    (here BlockOf (λ b. give (tree.catch_all t b))))
forms Begin =
    where_one s.Var (λ t. just (Locals (declared.Var, t.span)) as_it_is)
    (where_token is_ownership (λ o. here (TypeBody (Some o)) (λ y. written y))
    (where_one s.Void (λ t. written (tree.void_type None t))
    (pick (is s.Identifier) (here (OpeningName context.Statement) (λ r. begins r))
    (operand_here (just Immediate (λ e. beginning.Expression e))))))
forms (Locals y) = here OneLocal (λ d. just (MoreLocals y (d ∷ [])) as_it_is)
forms (MoreLocals y ds) = where_one s.Comma (λ t. here OneLocal (λ d. just (MoreLocals y (ds ++ d ∷ [])) as_it_is)) (give (tree.declared_locals y.0 y.1 ds))
forms OneLocal = one s.Identifier (λ t. where_one s.Assign (λ a. just Init (λ e. tree.declarator_with t e)) (give (tree.declarator t)))
