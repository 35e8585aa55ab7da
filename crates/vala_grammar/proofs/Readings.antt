-- Readings of short texts, computed.
use Rattle.std.proofs.Common.{◌≡◌, ℕ, false, refl, List, [], ◌∷◌, Some, None, Ok, Err, codes}
use Rattle.predictive_grammar.specs.Steps.{Outcome, LeftOut, Nesting, Number}
use Rattle.predictive_grammar.specs.Reading.{reader, walk, run}
use Rattle.vala_lexer.specs.Tokens.{Lexeme}
use Rattle.vala_lexer.specs.declared.token.TokenKind.TheVariants as k
use Rattle.vala_tree.specs.Spans.{stmt_span}
use Rattle.vala_tree.specs.declared.code.Expr.{Expr}
use Rattle.vala_tree.specs.declared.code.Stmt.TheVariants as st
use Rattle.vala_tree.specs.declared.code.DeclaredType.TheVariants as declared
use Rattle.vala_grammar.specs.declared.sort.Sort.TheVariants as s
use Rattle.vala_grammar.specs.declared.parts.Last.TheVariants as last
use Rattle.vala_grammar.specs.declared.parts.Ended.{Ended}
use Rattle.vala_grammar.specs.Trees as tree
use Rattle.vala_grammar.specs.Parts.{Whole, AnyStmt}
use Rattle.vala_grammar.specs.Label.{Label, Here}
use Rattle.vala_grammar.specs.Grammar.{G, forms}
use Rattle.vala_grammar.specs.Tables.{tables}
use Rattle.vala_grammar.specs.Read.{vala_reader}
use Rattle.vala_grammar.proofs.Finite.{sample}

abbrev word : List ℕ → Lexeme
word x = record { kind = k.Identifier; text = x; span = record { file = 0; start = 0; «end» = 0 } }

abbrev expression : List Lexeme → Outcome Label Lexeme Expr
expression i = vala_reader Whole 0 i

abbrev statement : List Lexeme → Outcome Label Lexeme Ended
statement i = vala_reader AnyStmt 0 i

abbrev a : Lexeme
a = word (codes "a")

abbrev b : Lexeme
b = word (codes "b")

abbrev c : Lexeme
c = word (codes "c")

abbrev x : Lexeme
x = word (codes "x")

abbrev t : Lexeme
t = word (codes "T")

abbrev int : Lexeme
int = word (codes "int")

abbrev s_Arrow : Lexeme
s_Arrow = sample s.Arrow

abbrev s_Assign : Lexeme
s_Assign = sample s.Assign

abbrev s_CloseBracket : Lexeme
s_CloseBracket = sample s.CloseBracket

abbrev s_CloseParen : Lexeme
s_CloseParen = sample s.CloseParen

abbrev s_Colon : Lexeme
s_Colon = sample s.Colon

abbrev s_Comma : Lexeme
s_Comma = sample s.Comma

abbrev s_Dot : Lexeme
s_Dot = sample s.Dot

abbrev s_Else : Lexeme
s_Else = sample s.Else

abbrev s_If : Lexeme
s_If = sample s.If

abbrev s_Less : Lexeme
s_Less = sample s.Less

abbrev s_Minus : Lexeme
s_Minus = sample s.Minus

abbrev s_New : Lexeme
s_New = sample s.New

abbrev s_OpenBrace : Lexeme
s_OpenBrace = sample s.OpenBrace

abbrev s_OpenBracket : Lexeme
s_OpenBracket = sample s.OpenBracket

abbrev s_OpenParen : Lexeme
s_OpenParen = sample s.OpenParen

abbrev s_Owned : Lexeme
s_Owned = sample s.Owned

abbrev s_Plus : Lexeme
s_Plus = sample s.Plus

abbrev s_Question : Lexeme
s_Question = sample s.Question

abbrev s_Semicolon : Lexeme
s_Semicolon = sample s.Semicolon

abbrev s_Slash : Lexeme
s_Slash = sample s.Slash

abbrev s_Star : Lexeme
s_Star = sample s.Star

abbrev s_TypeTest : Lexeme
s_TypeTest = sample s.TypeTest

abbrev s_Yield : Lexeme
s_Yield = sample s.Yield

abbrev empty : Ended
empty = tree.ended (st.Empty s_Semicolon.span)

-- `if ( a ) if ( b ) ; else ;`
nearest_else : statement (s_If ∷ s_OpenParen ∷ a ∷ s_CloseParen ∷ s_If ∷ s_OpenParen ∷ b ∷ s_CloseParen ∷ s_Semicolon ∷ s_Else ∷ s_Semicolon ∷ []) ≡ Ok (tree.if_of s_If (tree.one_arm (tree.name a) (tree.if_of s_If (tree.arm_before (tree.name b) empty (tree.last_branch empty)))), [])
unfolding reader run walk forms
nearest_else = refl

-- `if ( a ) ; else if ( b ) ; else ;`
chain_of_ifs : statement (s_If ∷ s_OpenParen ∷ a ∷ s_CloseParen ∷ s_Semicolon ∷ s_Else ∷ s_If ∷ s_OpenParen ∷ b ∷ s_CloseParen ∷ s_Semicolon ∷ s_Else ∷ s_Semicolon ∷ []) ≡ Ok (tree.if_of s_If (record { arms = tree.arm (tree.name a) empty ∷ tree.arm (tree.name b) empty ∷ []; no = Some empty.statement; is_open = false; «end» = stmt_span empty.statement }), [])
unfolding reader run walk forms
chain_of_ifs = refl

-- `( a ) - b`
names_minus : expression (s_OpenParen ∷ a ∷ s_CloseParen ∷ s_Minus ∷ b ∷ []) ≡ Ok ((tree.joined (tree.bracketed_names s_OpenParen.span (tree.one_word a) s_CloseParen.span) s_Minus (tree.plain (tree.name b))).value, [])
unfolding reader run walk forms
names_minus = refl

-- `( int ) - b`
integer_cast : expression (s_OpenParen ∷ int ∷ s_CloseParen ∷ s_Minus ∷ b ∷ []) ≡ Ok ((tree.cast s_OpenParen (tree.single_type None (tree.one_word int) None) (tree.prefixed s_Minus (tree.plain (tree.name b)))).value, [])
unfolding reader run walk forms
integer_cast = refl

-- `( a ) b`
cast : expression (s_OpenParen ∷ a ∷ s_CloseParen ∷ b ∷ []) ≡ Ok ((tree.cast s_OpenParen (tree.single_type None (tree.one_word a) None) (tree.plain (tree.name b))).value, [])
unfolding reader run walk forms
cast = refl

-- `( a . b ) ( c )`
cast_of_bracket : expression (s_OpenParen ∷ a ∷ s_Dot ∷ b ∷ s_CloseParen ∷ s_OpenParen ∷ c ∷ s_CloseParen ∷ []) ≡ Ok ((tree.cast s_OpenParen (tree.single_type None (tree.one_more_word (tree.one_word a) b) None) (tree.bracketed_names s_OpenParen.span (tree.one_word c) s_CloseParen.span)).value, [])
unfolding reader run walk forms
cast_of_bracket = refl

-- `a - b - c`
minus_binds_to_the_left : expression (a ∷ s_Minus ∷ b ∷ s_Minus ∷ c ∷ []) ≡ Ok ((tree.joined (tree.joined (tree.plain (tree.name a)) s_Minus (tree.plain (tree.name b))) s_Minus (tree.plain (tree.name c))).value, [])
unfolding reader run walk forms
minus_binds_to_the_left = refl

-- `a + b * c`
product_binds_tighter : expression (a ∷ s_Plus ∷ b ∷ s_Star ∷ c ∷ []) ≡ Ok ((tree.joined (tree.plain (tree.name a)) s_Plus (tree.joined (tree.plain (tree.name b)) s_Star (tree.plain (tree.name c)))).value, [])
unfolding reader run walk forms
product_binds_tighter = refl

-- `a b ;`
declaration : statement (a ∷ b ∷ s_Semicolon ∷ []) ≡ Ok (tree.ended (tree.begun (tree.declared_locals (declared.Written (tree.single_type None (tree.one_word a) None)) ((tree.single_type None (tree.one_word a) None)).span (tree.declarator b ∷ [])) s_Semicolon), [])
unfolding reader run walk forms
declaration = refl

-- `a . b c ;`
declaration_of_names : statement (a ∷ s_Dot ∷ b ∷ c ∷ s_Semicolon ∷ []) ≡ Ok (tree.ended (tree.begun (tree.declared_locals (declared.Written (tree.single_type None (tree.one_more_word (tree.one_word a) b) None)) ((tree.single_type None (tree.one_more_word (tree.one_word a) b) None)).span (tree.declarator c ∷ [])) s_Semicolon), [])
unfolding reader run walk forms
declaration_of_names = refl

-- `a [ ] b ;`
declaration_of_array : statement (a ∷ s_OpenBracket ∷ s_CloseBracket ∷ b ∷ s_Semicolon ∷ []) ≡ Ok (tree.ended (tree.begun (tree.declared_locals (declared.Written (tree.array_type None (tree.one_word a) None s_CloseBracket.span None)) ((tree.array_type None (tree.one_word a) None s_CloseBracket.span None)).span (tree.declarator b ∷ [])) s_Semicolon), [])
unfolding reader run walk forms
declaration_of_array = refl

-- `( a ? b : c )`
choice_in_brackets : expression (s_OpenParen ∷ a ∷ s_Question ∷ b ∷ s_Colon ∷ c ∷ s_CloseParen ∷ []) ≡ Ok (tree.bracketed s_OpenParen.span (tree.conditional (tree.name a) (tree.name b) (tree.name c)) s_CloseParen.span, [])
unfolding reader run walk forms
choice_in_brackets = refl

-- `x is t ? a : b`
test_and_choice : expression (x ∷ s_TypeTest ∷ t ∷ s_Question ∷ a ∷ s_Colon ∷ b ∷ []) ≡ Ok (tree.conditional (tree.tested (tree.plain (tree.name x)) s_TypeTest (record { tree = (tree.single_type None (tree.one_word t) None); last = last.Plain })).value (tree.name a) (tree.name b), [])
unfolding reader run walk forms
test_and_choice = refl

-- `x is t ?`
marked_test : expression (x ∷ s_TypeTest ∷ t ∷ s_Question ∷ []) ≡ Ok ((tree.tested (tree.plain (tree.name x)) s_TypeTest (record { tree = (tree.single_type None (tree.one_word t) (Some s_Question.span)); last = last.Plain })).value, [])
unfolding reader run walk forms
marked_test = refl

-- `x is t ? ? a : b`
marked_test_and_choice : expression (x ∷ s_TypeTest ∷ t ∷ s_Question ∷ s_Question ∷ a ∷ s_Colon ∷ b ∷ []) ≡ Ok (tree.conditional (tree.tested (tree.plain (tree.name x)) s_TypeTest (record { tree = (tree.single_type None (tree.one_word t) (Some s_Question.span)); last = last.Plain })).value (tree.name a) (tree.name b), [])
unfolding reader run walk forms
marked_test_and_choice = refl

-- `( a , b ) => c`
lambda : expression (s_OpenParen ∷ a ∷ s_Comma ∷ b ∷ s_CloseParen ∷ s_Arrow ∷ c ∷ []) ≡ Ok (tree.lambda_value s_OpenParen.span (tree.identifier a ∷ tree.identifier b ∷ []) (tree.name c), [])
unfolding reader run walk forms
lambda = refl

-- `yield a ( ) ;`
yield_call : statement (s_Yield ∷ a ∷ s_OpenParen ∷ s_CloseParen ∷ s_Semicolon ∷ []) ≡ Ok (tree.ended (tree.expression (tree.yielded s_Yield (tree.call (tree.name a) (record { list = []; close = s_CloseParen.span }))) s_Semicolon), [])
unfolding reader run walk forms
yield_call = refl

-- `yield ;`
yield_alone : statement (s_Yield ∷ s_Semicolon ∷ []) ≡ Ok (tree.ended (tree.yield_jump s_Yield s_Semicolon), [])
unfolding reader run walk forms
yield_alone = refl

-- `a = / b`
slash_for_an_operand : expression (a ∷ s_Assign ∷ s_Slash ∷ b ∷ []) ≡ Err (LeftOut Here, s_Slash ∷ b ∷ [])
unfolding reader run walk forms
slash_for_an_operand = refl

-- `/ a ;`
slash_for_an_expression : statement (s_Slash ∷ a ∷ s_Semicolon ∷ []) ≡ Err (LeftOut Here, s_Slash ∷ a ∷ s_Semicolon ∷ [])
unfolding reader run walk forms
slash_for_an_expression = refl

-- `a [ b : c ]`
range_in_an_index : expression (a ∷ s_OpenBracket ∷ b ∷ s_Colon ∷ c ∷ s_CloseBracket ∷ []) ≡ Err (LeftOut Here, s_Colon ∷ c ∷ s_CloseBracket ∷ [])
unfolding reader run walk forms
range_in_an_index = refl

-- `( a [ , ] )`
two_indices : expression (s_OpenParen ∷ a ∷ s_OpenBracket ∷ s_Comma ∷ s_CloseBracket ∷ s_CloseParen ∷ []) ≡ Err (LeftOut Here, s_Comma ∷ s_CloseBracket ∷ s_CloseParen ∷ [])
unfolding reader run walk forms
two_indices = refl

-- `new t ( ) {`
braces_behind_a_creation : expression (s_New ∷ t ∷ s_OpenParen ∷ s_CloseParen ∷ s_OpenBrace ∷ []) ≡ Err (LeftOut Here, s_OpenBrace ∷ [])
unfolding reader run walk forms
braces_behind_a_creation = refl

-- `owned a * b ;`
pointer_in_a_declaration : statement (s_Owned ∷ a ∷ s_Star ∷ b ∷ s_Semicolon ∷ []) ≡ Err (LeftOut Here, s_Star ∷ b ∷ s_Semicolon ∷ [])
unfolding reader run walk forms
pointer_in_a_declaration = refl

-- `( owned a < b`
generic_in_a_cast : expression (s_OpenParen ∷ s_Owned ∷ a ∷ s_Less ∷ b ∷ []) ≡ Err (LeftOut Here, s_Less ∷ b ∷ [])
unfolding reader run walk forms
generic_in_a_cast = refl

-- `x is t *`
pointer_behind_a_test : expression (x ∷ s_TypeTest ∷ t ∷ s_Star ∷ []) ≡ Err (LeftOut Here, s_Star ∷ [])
unfolding reader run walk forms
pointer_behind_a_test = refl

-- `new t < a`
generic_creation : expression (s_New ∷ t ∷ s_Less ∷ a ∷ []) ≡ Err (LeftOut Here, s_Less ∷ a ∷ [])
unfolding reader run walk forms
generic_creation = refl

-- ---- levels and numbers, with low limits

abbrev shallow : List Lexeme → Outcome Label Lexeme Expr
shallow i = reader G forms tables.top tables.rank (record { levels = 2; items = 2 }) Whole 0 i

-- `a . b . c . x`
dots_count_levels : shallow (a ∷ s_Dot ∷ b ∷ s_Dot ∷ c ∷ s_Dot ∷ x ∷ []) ≡ Err (Nesting, s_Dot ∷ x ∷ [])
unfolding reader run walk forms
dots_count_levels = refl

-- `a + b - c + x`
operators_count_levels : shallow (a ∷ s_Plus ∷ b ∷ s_Minus ∷ c ∷ s_Plus ∷ x ∷ []) ≡ Err (Nesting, c ∷ s_Plus ∷ x ∷ [])
unfolding reader run walk forms
operators_count_levels = refl

-- `- - - a`
signs_count_levels : shallow (s_Minus ∷ s_Minus ∷ s_Minus ∷ a ∷ []) ≡ Err (Nesting, s_Minus ∷ a ∷ [])
unfolding reader run walk forms
signs_count_levels = refl

-- `( ( ( a`
brackets_count_levels : shallow (s_OpenParen ∷ s_OpenParen ∷ s_OpenParen ∷ a ∷ []) ≡ Err (Nesting, s_OpenParen ∷ a ∷ [])
unfolding reader run walk forms
brackets_count_levels = refl

-- `a = b = c = x`
right_operands_count_levels : shallow (a ∷ s_Assign ∷ b ∷ s_Assign ∷ c ∷ s_Assign ∷ x ∷ []) ≡ Err (Nesting, c ∷ s_Assign ∷ x ∷ [])
unfolding reader run walk forms
right_operands_count_levels = refl

-- `a ( a , b , c )`
arguments_are_counted : shallow (a ∷ s_OpenParen ∷ a ∷ s_Comma ∷ b ∷ s_Comma ∷ c ∷ s_CloseParen ∷ []) ≡ Err (Number, s_Comma ∷ c ∷ s_CloseParen ∷ [])
unfolding reader run walk forms
arguments_are_counted = refl
