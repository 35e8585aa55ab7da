-- Chains of operands by their steps.
use Rattle.std.proofs.Common.{◌≡◌, ℕ, suc, ◌-◌, Bool, true, false, not, ◌&&◌, ◌||◌, List, [], ◌∷◌, if◌then◌else◌, Option, Some, None, Ok, Err, refl, sym, ap, ◌∙◌, true≢false}
use Rattle.predictive_grammar.specs.Steps.{Outcome, Parser, LeftOut, and_then, ◌>>=◌, pure, fail}
use Rattle.predictive_grammar.specs.Forms.{Form, give}
use Rattle.predictive_grammar.specs.Reading.{walk}
use Rattle.predictive_grammar.proofs.Sets.{by_list, apart}
use Rattle.vg_base.specs.declared.event.Span.{Span}
use Rattle.vala_lexer.specs.Tokens.{Lexeme}
use Rattle.vala_tree.specs.declared.code.Expr.{Expr}
use Rattle.vala_tree.specs.declared.names.NameTree.{NameTree}
use Rattle.vala_tree.specs.declared.names.TypeTree.{TypeTree}
use Rattle.vala_grammar.specs.declared.sort.Sort.{Sort}
use Rattle.vala_grammar.specs.declared.sort.Sort.TheVariants as s
use Rattle.vala_grammar.specs.declared.parts.Bracketed.TheVariants as bracketed
use Rattle.vala_grammar.specs.declared.parts.Chain.{Chain}
use Rattle.vala_grammar.specs.declared.parts.Last.{Last}
use Rattle.vala_grammar.specs.declared.parts.Last.TheVariants as last
use Rattle.vala_grammar.specs.declared.parts.Signs.{Signs}
use Rattle.vala_grammar.specs.declared.parts.Signs.TheVariants as signs
use Rattle.vala_grammar.specs.declared.parts.Tested.{Tested}
use Rattle.vala_grammar.specs.declared.parts.Tier.{Tier}
use Rattle.vala_grammar.specs.declared.parts.Tier.TheVariants as tier
use Rattle.vala_grammar.specs.declared.parts.TypeName.TheVariants as type_name
use Rattle.vala_grammar.specs.Parts as p
use Rattle.vala_grammar.specs.Grammar.{G, forms, lambda_of, as_it_is, operand_of, choice_of, tested, tested_name, tested_array, upto_of, rest_of}
use Rattle.vala_grammar.specs.Trees as tree
use Rattle.vala_grammar.specs.Tests.{is, is_assignment, is_ownership, is_prefix, is_asked, begins_prefix, begins_expression, tighter, goes_on}
use Rattle.vala_grammar.specs.Read.{vala_reader}
use Rattle.vala_grammar.proofs.Finite.{finite}
use Rattle.vala_cursor.specs.Ahead.{reads}
use Rattle.vala_expressions.specs.Chains.{tests_type, further, one_further, choice_by, starless, behind_bracket, operand_of_bracket}
use Rattle.vala_cursor.specs.Gets.{got, one, way, leave, next}
use Rattle.vala_grammar.proofs.Readers.{reader_unfolds}
use Rattle.vala_cursor.proofs.Steps.{after_two}
use Rattle.vala_grammar.specs.Label.{Label}

-- ---- expressions

pub whole_law : (l : ℕ) (i : List Lexeme) → vala_reader p.Whole l i ≡ way (is s.Slash) leave (vala_reader p.Value l >>= pure) i
unfolding walk forms got
whole_law l i = reader_unfolds p.Whole l i

pub value_law : (l : ℕ) (i : List Lexeme) → vala_reader p.Value l i
    ≡ way (is s.Identifier) (one s.Identifier l >>= λ t. vala_reader (p.AfterWord t) l >>= pure) (vala_reader p.Nameless l >>= pure) i
unfolding walk forms got
value_law l i = reader_unfolds p.Value l i

pub nameless_law : (l : ℕ) (i : List Lexeme) → vala_reader p.Nameless l i
    ≡ way (is s.Yield) (one s.Yield l >>= λ t. vala_reader p.YieldCall (suc l) >>= λ a. vala_reader (p.Suffix (tree.plain (tree.yielded t a))) l >>= λ c. vala_reader (p.Onward c) l >>= pure)
    (vala_reader p.Immediate l >>= pure) i
unfolding walk forms got
nameless_law l i = reader_unfolds p.Nameless l i

pub immediate_law : (l : ℕ) (i : List Lexeme) → vala_reader p.Immediate l i
    ≡ way (is s.OpenParen) (one s.OpenParen l >>= λ o. vala_reader (p.Bracket true o) l >>= λ r. reads (behind_bracket r) l)
    (vala_reader (p.Direct signs.All) l >>= λ c. vala_reader (p.Onward c) l >>= pure) i
unfolding walk forms got
immediate_law l i = reader_unfolds p.Immediate l i

pub behind_lambda : (a : Expr) (l : ℕ) (i : List Lexeme) → reads (behind_bracket (bracketed.Lambda a)) l i ≡ Ok (a, i)
unfolding walk
behind_lambda a l i = refl

pub behind_operand : (c : Chain) (l : ℕ) (i : List Lexeme) → reads (behind_bracket (bracketed.Operand c)) l i ≡ (vala_reader (p.Onward c) l >>= pure) i
unfolding walk
behind_operand c l i = refl

pub after_word_law : (t : Lexeme) (l : ℕ) (i : List Lexeme) → vala_reader (p.AfterWord t) l i
    ≡ way (is s.Arrow) (one s.Arrow l >>= λ w. vala_reader (p.LambdaEnd t.span (tree.identifier t ∷ [])) (suc l) >>= pure)
    (vala_reader (p.Suffix (tree.plain (tree.name t))) l >>= λ c. vala_reader (p.Onward c) l >>= pure) i
unfolding walk forms got
after_word_law t l i = reader_unfolds (p.AfterWord t) l i

pub onward_law : (c : Chain) (l : ℕ) (i : List Lexeme) → vala_reader (p.Onward c) l i
    ≡ (vala_reader (p.Upto 0 tier.Or c) l >>= λ d. vala_reader (p.CoalesceTail 0 d) l >>= λ e. vala_reader (p.ChoiceTail e) l >>= λ f. vala_reader (p.AssignTail f) l >>= pure) i
unfolding walk forms got
onward_law c l i = reader_unfolds (p.Onward c) l i

pub test_law : (l : ℕ) (i : List Lexeme) → vala_reader p.Test l i
    ≡ (vala_reader (p.Prefix signs.All) l >>= λ c. vala_reader (p.Upto 0 tier.Or c) l >>= λ d. vala_reader (p.CoalesceTail 0 d) l >>= λ e. vala_reader (p.ChoiceTail e) l >>= pure) i
unfolding walk forms got
test_law l i = reader_unfolds p.Test l i

-- ---- operands

pub prefix_law : (x : Signs) (l : ℕ) (i : List Lexeme) → vala_reader (p.Prefix x) l i ≡ way (is s.Slash) leave (vala_reader (p.Unary x) l >>= pure) i
unfolding walk forms got
prefix_law x l i = reader_unfolds (p.Prefix x) l i

pub unary_law : (x : Signs) (l : ℕ) (i : List Lexeme) → vala_reader (p.Unary x) l i
    ≡ way (is s.OpenParen) (one s.OpenParen l >>= λ o. vala_reader (p.Bracket false o) l >>= λ r. reads (operand_of_bracket x r) l)
    (way (is s.Identifier) (one s.Identifier l >>= λ t. vala_reader (p.Suffix (tree.plain (tree.name t))) l >>= pure)
    (way (is s.Yield) (one s.Yield l >>= λ t. vala_reader p.YieldCall (suc l) >>= λ a. vala_reader (p.Suffix (tree.plain (tree.yielded t a))) l >>= pure)
    (vala_reader (p.Direct x) l >>= pure))) i
unfolding walk forms got
unary_law x l i = reader_unfolds (p.Unary x) l i

pub bracket_lambda : (x : Signs) (a : Expr) (l : ℕ) (i : List Lexeme) → reads (operand_of_bracket x (bracketed.Lambda a)) l i ≡ Ok (tree.plain a, i)
unfolding walk
bracket_lambda x a l i = refl

pub bracket_operand : (x : Signs) (c : Chain) (l : ℕ) (i : List Lexeme) → reads (operand_of_bracket x (bracketed.Operand c)) l i ≡ Ok (c, i)
unfolding walk
bracket_operand x c l i = refl

pub direct_law : (x : Signs) (l : ℕ) (i : List Lexeme) → vala_reader (p.Direct x) l i
    ≡ way (is_prefix x) (got (is_prefix x) 0 l >>= λ t. vala_reader (p.Prefix signs.All) (suc l) >>= λ c. pure (tree.prefixed t c))
    (vala_reader p.Atom l >>= λ a. vala_reader (p.Suffix (tree.plain a)) l >>= pure) i
unfolding walk forms got
direct_law x l i = reader_unfolds (p.Direct x) l i

-- ---- tiers

pub upto_tightest : (d : ℕ) (t : Tier) (c : Chain) (l : ℕ) (i : List Lexeme) → tighter t ≡ None → vala_reader (p.Upto d t c) l i ≡ (vala_reader (p.Rest d t c) l >>= pure) i
unfolding walk forms
upto_tightest d t c l i e = reader_unfolds (p.Upto d t c) l i ∙ ap (λ (o : Option Tier). reads (upto_of d t c o) l i) e

pub upto_looser : (d : ℕ) (t u : Tier) (c : Chain) (l : ℕ) (i : List Lexeme) → tighter t ≡ Some u
    → vala_reader (p.Upto d t c) l i ≡ (vala_reader (p.Upto d u c) l >>= λ e. vala_reader (p.Rest d t e) l >>= pure) i
unfolding walk forms
upto_looser d t u c l i e = reader_unfolds (p.Upto d t c) l i ∙ ap (λ (o : Option Tier). reads (upto_of d t c o) l i) e

pub ruleset upto_laws = (upto_tightest, upto_looser)

pub operand_tightest : (d : ℕ) (t : Tier) (l : ℕ) (i : List Lexeme) → tighter t ≡ None → vala_reader (p.Operand d t) l i ≡ (vala_reader (p.Prefix signs.All) l >>= pure) i
unfolding walk forms
operand_tightest d t l i e = reader_unfolds (p.Operand d t) l i ∙ ap (λ (o : Option Tier). (vala_reader (p.Prefix signs.All) l >>= λ c. reads (operand_of d t o c) l) i) e

pub operand_looser : (d : ℕ) (t u : Tier) (l : ℕ) (i : List Lexeme) → tighter t ≡ Some u
    → vala_reader (p.Operand d t) l i ≡ (vala_reader (p.Prefix signs.All) l >>= λ c. vala_reader (p.Upto d u c) l >>= pure) i
unfolding walk forms
operand_looser d t u l i e = reader_unfolds (p.Operand d t) l i ∙ ap (λ (o : Option Tier). (vala_reader (p.Prefix signs.All) l >>= λ c. reads (operand_of d t o c) l) i) e

pub ruleset operand_laws = (operand_tightest, operand_looser)

-- two ways under one test
join_ways : {A B : Type 0} (asked a b : Bool) (x y : Outcome Label Lexeme A) (h : A → Parser Label Lexeme B) (v w z : Outcome Label Lexeme B) → v ≡ and_then x h → w ≡ and_then y h
    → (if asked then z else if a then v else if b then w else z) ≡ (if not asked && (a || b) then and_then (if a then x else y) h else z)
join_ways true a b x y h v w z e f = refl
join_ways false true b x y h v w z e f = e
join_ways false false true x y h v w z e f = f
join_ways false false false x y h v w z e f = refl

pub by_if : {r : p.Part} (b : Bool) (x y : Form G r) (l : ℕ) (i : List Lexeme) → reads (if b then x else y) l i ≡ (if b then reads x l i else reads y l i)
by_if true x y l i = refl
by_if false x y l i = refl

-- what a tier's form says
rest_ways : (d : ℕ) (t : Tier) (c : Chain) (l : ℕ) (i : List Lexeme) → reads (rest_of d t c) l i
    ≡ way (tests_type t) (one s.TypeTest l >>= λ o. vala_reader (p.TestedType (suc d)) (suc l) >>= λ y. vala_reader (p.Rest (suc d) t (tree.tested c o y)) (suc l) >>= pure)
    (way (goes_on t c.last) (got (goes_on t c.last) 0 l >>= λ o. vala_reader (p.Operand (suc d) t) (suc l) >>= λ b. vala_reader (p.Rest (suc d) t (tree.joined c o b)) (suc l) >>= pure) (pure c)) i
unfolding walk got
rest_ways d tier.Relation c l i = refl
rest_ways d tier.Product c l [] = refl
rest_ways d tier.Product c l (x ∷ xs) = refl
rest_ways d tier.Sum c l [] = refl
rest_ways d tier.Sum c l (x ∷ xs) = refl
rest_ways d tier.Shift c l [] = refl
rest_ways d tier.Shift c l (x ∷ xs) = refl
rest_ways d tier.Equality c l [] = refl
rest_ways d tier.Equality c l (x ∷ xs) = refl
rest_ways d tier.BitAnd c l [] = refl
rest_ways d tier.BitAnd c l (x ∷ xs) = refl
rest_ways d tier.BitXor c l [] = refl
rest_ways d tier.BitXor c l (x ∷ xs) = refl
rest_ways d tier.BitOr c l [] = refl
rest_ways d tier.BitOr c l (x ∷ xs) = refl
rest_ways d tier.And c l [] = refl
rest_ways d tier.And c l (x ∷ xs) = refl
rest_ways d tier.Or c l [] = refl
rest_ways d tier.Or c l (x ∷ xs) = refl

next_both : (f g : Sort → Bool) (h : Bool) (i : List Lexeme) → next (λ x. h && (f x || g x)) i ≡ (h && (next f i || next g i))
next_both f g true [] = refl
next_both f g false [] = refl
next_both f g h (x ∷ xs) = refl

pub rest_law : (d : ℕ) (t : Tier) (c : Chain) (l : ℕ) (i : List Lexeme) → vala_reader (p.Rest d t c) l i
    ≡ way (further t c.last) (one_further d t c l >>= λ e. vala_reader (p.Rest (suc d) t e) (suc l) >>= pure) (pure c) i
unfolding walk forms
rest_law d t c l i =
    let h : Chain → Parser Label Lexeme Chain = λ e. vala_reader (p.Rest (suc d) t e) (suc l) >>= pure in
    reader_unfolds (p.Rest d t c) l i
    ∙ by_if (is_asked c.last) (give c) (rest_of d t c) l i
    ∙ ap (λ (o : Outcome Label Lexeme Chain). if is_asked c.last then Ok (c, i) else o) (rest_ways d t c l i)
    ∙ join_ways (is_asked c.last) (next (tests_type t) i) (next (goes_on t c.last) i) _ _ h _ _ (Ok (c, i))
    (after_two (one s.TypeTest l) (λ o. vala_reader (p.TestedType (suc d)) (suc l)) (λ o y. tree.tested c o y) h i)
    (after_two (got (goes_on t c.last) 0 l) (λ o. vala_reader (p.Operand (suc d) t) (suc l)) (λ o b. tree.joined c o b) h i)
    ∙ ap (λ (b : Bool). if b then and_then (one_further d t c l i) h else Ok (c, i)) (sym (next_both (tests_type t) (goes_on t c.last) (not (is_asked c.last)) i))

-- ---- what follows a chain

pub coalesce_tail_law : (d : ℕ) (c : Chain) (l : ℕ) (i : List Lexeme) → vala_reader (p.CoalesceTail d c) l i
    ≡ (if is_asked c.last then Ok (c, i) else way (is s.Coalesce) (one s.Coalesce l >>= λ t. vala_reader (p.CoalesceOperand (suc d)) (suc l) >>= λ b. pure (tree.joined c t b)) (pure c) i)
unfolding walk forms got
coalesce_tail_law d c l i = reader_unfolds (p.CoalesceTail d c) l i ∙ by_if {r = p.CoalesceTail d c} (is_asked c.last) (give c) _ l i

pub coalesce_operand_law : (d : ℕ) (l : ℕ) (i : List Lexeme) → vala_reader (p.CoalesceOperand d) l i
    ≡ (vala_reader (p.Prefix signs.All) l >>= λ c. vala_reader (p.Upto d tier.Or c) l >>= λ e. vala_reader (p.CoalesceTail d e) l >>= pure) i
unfolding walk forms got
coalesce_operand_law d l i = reader_unfolds (p.CoalesceOperand d) l i

choice_ways : (c : Chain) (k : Last) (l : ℕ) (i : List Lexeme) → reads (choice_of c k) l i ≡ choice_by c.value k l i
unfolding walk got
choice_ways c (last.Asked b) l i = refl
choice_ways c last.Unmarked l i = refl
choice_ways c last.Alone l i = refl
choice_ways c last.Plain l i = refl
choice_ways c last.Names l i = refl
choice_ways c last.Integer l i = refl

pub choice_tail_law : (c : Chain) (l : ℕ) (i : List Lexeme) → vala_reader (p.ChoiceTail c) l i ≡ choice_by c.value c.last l i
unfolding forms
choice_tail_law c l i = reader_unfolds (p.ChoiceTail c) l i ∙ choice_ways c c.last l i

pub assign_tail_law : (a : Expr) (l : ℕ) (i : List Lexeme) → vala_reader (p.AssignTail a) l i
    ≡ way is_assignment (got is_assignment 0 l >>= λ t. vala_reader p.Whole (suc l) >>= λ b. pure (tree.assigned a t b)) (pure a) i
unfolding walk forms got
assign_tail_law a l i = reader_unfolds (p.AssignTail a) l i

-- ---- the type behind `is` and `as`

pub tested_type_law : (d : ℕ) (l : ℕ) (i : List Lexeme) → vala_reader (p.TestedType d) l i
    ≡ way is_ownership (got is_ownership 0 l >>= λ o. vala_reader (p.TestedBody d (Some o)) l >>= pure) (vala_reader (p.TestedBody d None) l >>= pure) i
unfolding walk forms got
tested_type_law d l i = reader_unfolds (p.TestedType d) l i

pub tested_body_law : (d : ℕ) (o : Option Lexeme) (l : ℕ) (i : List Lexeme) → vala_reader (p.TestedBody d o) l i
    ≡ way (is s.Void) (one s.Void l >>= λ t. starless last.Plain (tree.void_type o t)) (vala_reader p.NameInType l >>= λ n. reads (tested_name d o n) l) i
unfolding walk forms got
tested_body_law d o l i = reader_unfolds (p.TestedBody d o) l i

pub tested_single_law : (d : ℕ) (o : Option Lexeme) (n : NameTree) (l : ℕ) (i : List Lexeme) → reads (tested_name d o (type_name.Single n)) l i
    ≡ way (is s.Question)
    (one s.Question (l - d) >>= λ q. way begins_expression (vala_reader p.Value (suc (l - d)) >>= λ b. pure (record { tree = tree.single_type o n None; last = last.Asked b }))
    (way (is s.OpenBracket) (one s.OpenBracket l >>= λ b. way (is s.Comma) leave (one s.CloseBracket (suc l) >>= λ c. reads (tested_array d o n (Some q.span) c.span) l))
    (way (is s.Slash) leave (starless last.Plain (tree.single_type o n (Some q.span))))))
    (starless last.Unmarked (tree.single_type o n None)) i
unfolding walk got
tested_single_law d o n l i = refl

pub tested_close_law : (d : ℕ) (o : Option Lexeme) (n : NameTree) (c : Span) (l : ℕ) (i : List Lexeme) → reads (tested_name d o (type_name.Array n c)) l i ≡ reads (tested_array d o n None c) l i
tested_close_law d o n c l i = refl

pub ruleset tested_laws = (tested_body_law, tested_close_law)

pub tested_array_law : (d : ℕ) (o : Option Lexeme) (n : NameTree) (q : Option Span) (c : Span) (l : ℕ) (i : List Lexeme) → reads (tested_array d o n q c) l i
    ≡ way (is s.Question)
    (one s.Question (l - d) >>= λ r. way begins_expression (vala_reader p.Value (suc (l - d)) >>= λ b. pure (record { tree = tree.array_type o n q c None; last = last.Asked b }))
    (way (is s.Slash) leave (starless last.Plain (tree.array_type o n q c (Some r.span)))))
    (starless last.Unmarked (tree.array_type o n q c None)) i
unfolding walk got
tested_array_law d o n q c l i = refl

pub ruleset behind_laws = (behind_lambda, behind_operand)

pub ruleset bracket_laws = (bracket_lambda, bracket_operand)

-- no operand begins with `/`
pub no_slash : (x : Signs) (i : List Lexeme) → next (begins_prefix x) i ≡ true → next (is s.Slash) i ≡ false
no_slash x [] e = absurd (true≢false (sym e))
no_slash signs.All (t ∷ ts) e = apart (by_list finite) (begins_prefix signs.All) (is s.Slash) refl (G.kind t) e
no_slash signs.Cast (t ∷ ts) e = apart (by_list finite) (begins_prefix signs.Cast) (is s.Slash) refl (G.kind t) e
no_slash signs.IntegerCast (t ∷ ts) e = apart (by_list finite) (begins_prefix signs.IntegerCast) (is s.Slash) refl (G.kind t) e
