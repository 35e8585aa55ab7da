-- Operands and expressions fit.
use Rattle.std.proofs.Common.{◌≡◌, Bool, true, false, refl, List, Option}
use Rattle.vg_base.specs.declared.event.Span.{Span}
use Rattle.predictive_grammar.specs.Forms.{give}
use Rattle.predictive_grammar.proofs.Sets.{is_within}
use Rattle.predictive_grammar.proofs.Fits.{Fits, Nones, never, only, Each, nothing, done, token, text, choice, barred, widen, fit_part}
use Rattle.vala_lexer.specs.Tokens.{Lexeme}
use Rattle.vala_tree.specs.declared.code.Expr.{Expr}
use Rattle.vala_tree.specs.declared.code.Argument.{Argument}
use Rattle.vala_tree.specs.declared.names.NameTree.{NameTree}
use Rattle.vala_tree.specs.declared.names.Identifier.{Identifier}
use Rattle.vala_grammar.specs.declared.sort.Sort.{Sort}
use Rattle.vala_grammar.specs.declared.sort.Sort.TheVariants as s
use Rattle.vala_grammar.specs.declared.parts.Last.{Last}
use Rattle.vala_grammar.specs.declared.parts.Last.TheVariants as last
use Rattle.vala_grammar.specs.declared.parts.Chain.{Chain}
use Rattle.vala_grammar.specs.declared.parts.Bracketed.{Bracketed}
use Rattle.vala_grammar.specs.declared.parts.Bracketed.TheVariants as bracketed
use Rattle.vala_grammar.specs.declared.parts.Signs.{Signs}
use Rattle.vala_grammar.specs.declared.parts.Signs.TheVariants as signs
use Rattle.vala_grammar.specs.Trees as tree
use Rattle.vala_grammar.specs.Parts.{Part, tree_of, Whole, Value, Nameless, Immediate, Onward, Prefix, Unary, Direct, LambdaMore, LambdaEnd, Primary, Atom, Suffix, YieldCall, CallMore, NewMore, NewArray, NewItems, Args, MoreArgs, Arg, Init, Items, MoreItems}
use Rattle.vala_grammar.specs.Grammar.{just, as_it_is, operand_in, index_of, forms}
use Rattle.vala_grammar.specs.Tables.{tables, ends, goes_colon, behind_expression, begins_whole, behind_bracket}
use Rattle.vala_grammar.proofs.Finite.{finite}
use Rattle.vala_grammar.proofs.Tables.{tabled, FitsAs}
use Rattle.vala_grammar.proofs.FitChains.{chain_nones, just_onward, operand_follows, operand_ends}
use Rattle.vala_grammar.proofs.Where.{where_fits, same_set}

-- ---- what follows an operand

pub fit_index : {r : Part} (a : Expr) (f : Chain → tree_of r) → ((e : Chain) → is_within finite (tables.stop r (f e)) (ends 0 e.last) ≡ true) → Fits tabled r true begins_whole never (index_of a f)
fit_index a f stops = widen tabled
    (text refl (λ i. barred (token s.CloseBracket refl (λ c. text refl (λ e. done (f e)) (λ e. refl) (λ e. stops e))) refl tt) (λ i. refl) (λ i. tt)) refl (λ b i. i)

suffix_plain : (v : Expr) → FitsAs (Suffix (record { value = v; last = last.Plain }))
unfolding forms
suffix_plain v = fit_part tabled (Suffix (record { value = v; last = last.Plain }))
    (where_fits s.Dot refl (λ d. token s.Identifier refl (λ t. text refl (λ e. done _) (λ e. refl) (λ e. same_set (ends 0 e.last))))
    (where_fits s.OpenBracket refl (λ b. fit_index v as_it_is (λ e. same_set (ends 0 e.last)))
    (where_fits s.Step refl (λ t. text refl (λ e. done _) (λ e. refl) (λ e. same_set (ends 0 e.last))) (where_fits s.OpenParen refl (λ p. text refl (λ xs. text refl (λ e. done _) (λ e. refl) (λ e. same_set (ends 0 e.last))) (λ xs. refl) (λ xs. refl)) (done _) refl refl) refl refl) refl refl) refl refl) refl (λ a e. e)

suffix_names : (v : Expr) → FitsAs (Suffix (record { value = v; last = last.Names }))
unfolding forms
suffix_names v = fit_part tabled (Suffix (record { value = v; last = last.Names }))
    (where_fits s.Dot refl (λ d. token s.Identifier refl (λ t. text refl (λ e. done _) (λ e. refl) (λ e. same_set (ends 0 e.last))))
    (where_fits s.OpenBracket refl (λ b. fit_index v as_it_is (λ e. same_set (ends 0 e.last)))
    (where_fits s.Step refl (λ t. text refl (λ e. done _) (λ e. refl) (λ e. same_set (ends 0 e.last))) (done _) refl refl) refl refl) refl refl) refl (λ a e. e)

suffix_integer : (v : Expr) → FitsAs (Suffix (record { value = v; last = last.Integer }))
unfolding forms
suffix_integer v = fit_part tabled (Suffix (record { value = v; last = last.Integer }))
    (where_fits s.Dot refl (λ d. token s.Identifier refl (λ t. text refl (λ e. done _) (λ e. refl) (λ e. same_set (ends 0 e.last))))
    (where_fits s.OpenBracket refl (λ b. fit_index v as_it_is (λ e. same_set (ends 0 e.last)))
    (where_fits s.Step refl (λ t. text refl (λ e. done _) (λ e. refl) (λ e. same_set (ends 0 e.last))) (done _) refl refl) refl refl) refl refl) refl (λ a e. e)

suffix_unmarked : (v : Expr) → FitsAs (Suffix (record { value = v; last = last.Unmarked }))
unfolding forms
suffix_unmarked v = fit_part tabled (Suffix (record { value = v; last = last.Unmarked }))
    (where_fits s.Dot refl (λ d. token s.Identifier refl (λ t. text refl (λ e. done _) (λ e. refl) (λ e. same_set (ends 0 e.last))))
    (where_fits s.OpenBracket refl (λ b. fit_index v as_it_is (λ e. same_set (ends 0 e.last)))
    (where_fits s.Step refl (λ t. text refl (λ e. done _) (λ e. refl) (λ e. same_set (ends 0 e.last))) (done _) refl refl) refl refl) refl refl) refl (λ a e. e)

suffix_alone : (v : Expr) → FitsAs (Suffix (record { value = v; last = last.Alone }))
unfolding forms
suffix_alone v = fit_part tabled (Suffix (record { value = v; last = last.Alone }))
    (where_fits s.Dot refl (λ d. token s.Identifier refl (λ t. text refl (λ e. done _) (λ e. refl) (λ e. same_set (ends 0 e.last))))
    (where_fits s.OpenBracket refl (λ b. fit_index v as_it_is (λ e. same_set (ends 0 e.last)))
    (where_fits s.Step refl (λ t. text refl (λ e. done _) (λ e. refl) (λ e. same_set (ends 0 e.last))) (done _) refl refl) refl refl) refl refl) refl (λ a e. e)

suffix_asked : (v : Expr) (b : Expr) → FitsAs (Suffix (record { value = v; last = last.Asked b }))
unfolding forms
suffix_asked v b = fit_part tabled (Suffix (record { value = v; last = last.Asked b }))
    (where_fits s.Dot refl (λ d. token s.Identifier refl (λ t. text refl (λ e. done _) (λ e. refl) (λ e. same_set (ends 0 e.last))))
    (where_fits s.OpenBracket refl (λ b. fit_index v as_it_is (λ e. same_set (ends 0 e.last)))
    (where_fits s.Step refl (λ t. text refl (λ e. done _) (λ e. refl) (λ e. same_set (ends 0 e.last))) (done _) refl refl) refl refl) refl refl) refl (λ a e. e)

pub fit_suffix : (c : Chain) → FitsAs (Suffix c)
fit_suffix c = by c.value c.last
  where
    by : (v : Expr) (l : Last) → FitsAs (Suffix (record { value = v; last = l }))
    by v last.Plain = suffix_plain v
    by v last.Names = suffix_names v
    by v last.Integer = suffix_integer v
    by v last.Unmarked = suffix_unmarked v
    by v last.Alone = suffix_alone v
    by v (last.Asked b) = suffix_asked v b

-- ---- operands

pub fit_direct : (x : Signs) → FitsAs (Direct x)
unfolding forms
fit_direct signs.All = fit_part tabled (Direct signs.All)
    (where_fits s.Plus refl (λ t. text refl (λ c. done _) (λ c. refl) (λ c. same_set (ends 0 c.last)))
    (text refl (λ a. text refl (λ e. done _) (λ e. refl) (λ e. same_set (ends 0 e.last))) (λ a. refl) (λ a. refl)) refl tt) refl (λ a e. absurd e)
fit_direct signs.Cast = fit_part tabled (Direct signs.Cast)
    (where_fits s.Not refl (λ t. text refl (λ c. done _) (λ c. refl) (λ c. same_set (ends 0 c.last)))
    (text refl (λ a. text refl (λ e. done _) (λ e. refl) (λ e. same_set (ends 0 e.last))) (λ a. refl) (λ a. refl)) refl tt) refl (λ a e. absurd e)
fit_direct signs.IntegerCast = fit_part tabled (Direct signs.IntegerCast)
    (where_fits s.Minus refl (λ t. text refl (λ c. done _) (λ c. refl) (λ c. same_set (ends 0 c.last)))
    (text refl (λ a. text refl (λ e. done _) (λ e. refl) (λ e. same_set (ends 0 e.last))) (λ a. refl) (λ a. refl)) refl tt) refl (λ a e. absurd e)

abbrev unary_chain : Bracketed → Chain
unary_chain (bracketed.Lambda a) = tree.plain a
unary_chain (bracketed.Operand c) = c

unary_in : (x : Signs) (r : Bracketed) → Fits tabled (Unary x) true nothing (only (unary_chain r)) (operand_in r (λ a. give (tree.plain a)) (λ c. give c))
unary_in x (bracketed.Lambda a) = done _
unary_in x (bracketed.Operand c) = done _

unary_ends : (r : Bracketed) → is_within finite (ends 0 (unary_chain r).last) (behind_bracket false r) ≡ true
unary_ends (bracketed.Lambda a) = refl
unary_ends (bracketed.Operand c) = same_set (ends 0 c.last)

pub fit_unary : (x : Signs) → FitsAs (Unary x)
unfolding forms
fit_unary signs.All = fit_part tabled (Unary signs.All)
    (where_fits s.OpenParen refl (λ o. text refl (λ r. unary_in signs.All r) (λ r. refl) (λ r. unary_ends r))
    (where_fits s.Identifier refl (λ t. text refl (λ e. done _) (λ e. refl) (λ e. same_set (ends 0 e.last)))
    (where_fits s.Yield refl (λ t. text refl (λ a. text refl (λ e. done _) (λ e. refl) (λ e. same_set (ends 0 e.last))) (λ a. refl) (λ a. refl))
    (text refl (λ c. done _) (λ c. refl) (λ c. same_set (ends 0 c.last))) refl tt) refl tt) refl tt) refl (λ a e. absurd e)
fit_unary signs.Cast = fit_part tabled (Unary signs.Cast)
    (where_fits s.OpenParen refl (λ o. text refl (λ r. unary_in signs.Cast r) (λ r. refl) (λ r. unary_ends r))
    (where_fits s.Identifier refl (λ t. text refl (λ e. done _) (λ e. refl) (λ e. same_set (ends 0 e.last)))
    (where_fits s.Yield refl (λ t. text refl (λ a. text refl (λ e. done _) (λ e. refl) (λ e. same_set (ends 0 e.last))) (λ a. refl) (λ a. refl))
    (text refl (λ c. done _) (λ c. refl) (λ c. same_set (ends 0 c.last))) refl tt) refl tt) refl tt) refl (λ a e. absurd e)
fit_unary signs.IntegerCast = fit_part tabled (Unary signs.IntegerCast)
    (where_fits s.OpenParen refl (λ o. text refl (λ r. unary_in signs.IntegerCast r) (λ r. refl) (λ r. unary_ends r))
    (where_fits s.Identifier refl (λ t. text refl (λ e. done _) (λ e. refl) (λ e. same_set (ends 0 e.last)))
    (where_fits s.Yield refl (λ t. text refl (λ a. text refl (λ e. done _) (λ e. refl) (λ e. same_set (ends 0 e.last))) (λ a. refl) (λ a. refl))
    (text refl (λ c. done _) (λ c. refl) (λ c. same_set (ends 0 c.last))) refl tt) refl tt) refl tt) refl (λ a e. absurd e)

pub fit_prefix : (x : Signs) → FitsAs (Prefix x)
unfolding forms
fit_prefix signs.All = fit_part tabled (Prefix signs.All) (barred (text refl (λ c. done _) (λ c. refl) (λ c. same_set (ends 0 c.last))) refl tt) refl (λ a e. absurd e)
fit_prefix signs.Cast = fit_part tabled (Prefix signs.Cast) (barred (text refl (λ c. done _) (λ c. refl) (λ c. same_set (ends 0 c.last))) refl tt) refl (λ a e. absurd e)
fit_prefix signs.IntegerCast = fit_part tabled (Prefix signs.IntegerCast) (barred (text refl (λ c. done _) (λ c. refl) (λ c. same_set (ends 0 c.last))) refl tt) refl (λ a e. absurd e)

-- ---- expressions

pub fit_whole : FitsAs Whole
unfolding forms
fit_whole = fit_part tabled Whole
    (barred (text refl (λ a. done _) (λ a. refl) (λ a. refl)) refl tt) refl (λ a e. absurd e)

pub fit_value : FitsAs Value
unfolding forms
fit_value = fit_part tabled Value
    (where_fits s.Identifier refl (λ t. text refl (λ a. done _) (λ a. refl) (λ a. refl)) (text refl (λ a. done _) (λ a. refl) (λ a. refl)) refl tt) refl (λ a e. absurd e)

pub fit_nameless : FitsAs Nameless
unfolding forms
fit_nameless = fit_part tabled Nameless
    (where_fits s.Yield refl (λ t. text refl (λ a. text refl (λ c. just_onward true as_it_is c.value c.last refl (λ a. refl)) (λ c. operand_follows c.last) (λ c. operand_ends as_it_is c.last c.value)) (λ a. refl) (λ a. refl)) (text refl (λ a. done _) (λ a. refl) (λ a. refl)) refl tt) refl (λ a e. absurd e)

abbrev immediate_first : Bracketed → Sort → Bool
immediate_first (bracketed.Lambda a) x = false
immediate_first (bracketed.Operand c) x = goes_colon 0 13 c.last x

abbrev immediate_none : Bracketed → Nones Expr
immediate_none (bracketed.Lambda a) = only a
immediate_none (bracketed.Operand c) = chain_nones as_it_is c.last c.value

immediate_in : (r : Bracketed) → Fits tabled Immediate true (immediate_first r) (immediate_none r) (operand_in r (λ a. give a) (λ c. just (Onward c) as_it_is))
immediate_in (bracketed.Lambda a) = done _
immediate_in (bracketed.Operand c) = just_onward true as_it_is c.value c.last refl (λ a. refl)

immediate_follows : (r : Bracketed) → is_within finite (immediate_first r) (behind_bracket true r) ≡ true
immediate_follows (bracketed.Lambda a) = refl
immediate_follows (bracketed.Operand c) = operand_follows c.last

immediate_ends : (r : Bracketed) → Each (immediate_none r) (λ x. is_within finite behind_expression (behind_bracket true r) ≡ true)
immediate_ends (bracketed.Lambda a) = refl
immediate_ends (bracketed.Operand c) = operand_ends as_it_is c.last c.value

pub fit_immediate : FitsAs Immediate
unfolding forms
fit_immediate = fit_part tabled Immediate
    (where_fits s.OpenParen refl (λ o. text refl (λ r. immediate_in r) (λ r. immediate_follows r) (λ r. immediate_ends r)) (text refl (λ c. just_onward true as_it_is c.value c.last refl (λ a. refl)) (λ c. operand_follows c.last) (λ c. operand_ends as_it_is c.last c.value)) refl tt) refl (λ a e. absurd e)

-- ---- what has no operator in front

pub fit_primary : FitsAs Primary
unfolding forms
fit_primary = fit_part tabled Primary
    (where_fits s.Identifier refl (λ t. done _) (where_fits s.Yield refl (λ t. text refl (λ a. done _) (λ a. refl) (λ a. refl)) (text refl (λ a. done _) (λ a. refl) (λ a. refl)) refl tt) refl tt) refl (λ a e. absurd e)

pub fit_atom : FitsAs Atom
unfolding forms
fit_atom = fit_part tabled Atom
    (where_fits s.Literal refl (λ t. done _) (where_fits s.This refl (λ t. done _) (where_fits s.Base refl (λ t. done _) (token s.New refl (λ t. text refl (λ n. text refl (λ a. done _) (λ a. refl) (λ a. refl)) (λ n. refl) (λ n. tt))) refl tt) refl tt) refl tt) refl (λ a e. absurd e)

pub fit_yield_call : FitsAs YieldCall
unfolding forms
fit_yield_call = fit_part tabled YieldCall
    (barred (where_fits s.OpenParen refl (λ o. text refl (λ e. token s.CloseParen refl (λ c. text refl (λ a. done _) (λ a. refl) (λ a. refl))) (λ e. refl) (λ e. tt)) (text refl (λ a. text refl (λ b. done _) (λ b. refl) (λ b. refl)) (λ a. refl) (λ a. tt)) refl tt) refl tt) refl (λ a e. absurd e)

pub fit_call_more : (a : Expr) → FitsAs (CallMore a)
unfolding forms
fit_call_more a = fit_part tabled (CallMore a)
    (where_fits s.Dot refl (λ d. token s.Identifier refl (λ t. text refl (λ a. done _) (λ a. refl) (λ a. refl))) (token s.OpenParen refl (λ p. text refl (λ a. done _) (λ a. refl) (λ a. refl))) refl tt) refl (λ b e. absurd e)

pub fit_new_more : (t : Lexeme) (n : NameTree) → FitsAs (NewMore t n)
unfolding forms
fit_new_more t n = fit_part tabled (NewMore t n)
    (where_fits s.OpenParen refl (λ p. text refl (λ xs. barred (done _) refl refl) (λ xs. refl) (λ xs. refl)) (where_fits s.Question refl (λ q. text refl (λ a. done _) (λ a. refl) (λ a. refl)) (text refl (λ a. done _) (λ a. refl) (λ a. refl)) refl tt) refl tt) refl (λ a e. absurd e)

pub fit_new_array : (t : Lexeme) (n : NameTree) (q : Option Span) → FitsAs (NewArray t n q)
unfolding forms
fit_new_array t n q = fit_part tabled (NewArray t n q)
    (barred (token s.OpenBracket refl (λ b. barred (where_fits s.CloseBracket refl (λ c. text refl (λ a. done _) (λ a. refl) (λ a. refl)) (text refl (λ e. token s.CloseBracket refl (λ c. text refl (λ a. done _) (λ a. refl) (λ a. refl))) (λ e. refl) (λ e. tt)) refl tt) refl tt)) refl tt) refl (λ a e. absurd e)

pub fit_new_items : (t : Lexeme) (n : NameTree) (q : Option Span) (e : Option Expr) (c : Lexeme) → FitsAs (NewItems t n q e c)
unfolding forms
fit_new_items t n q e c = fit_part tabled (NewItems t n q e c)
    (where_fits s.OpenBrace refl (λ b. text refl (λ a. done _) (λ a. refl) (λ a. refl)) (done _) refl refl) refl (λ a i. i)

-- ---- lists of expressions

pub fit_args : FitsAs Args
unfolding forms
fit_args = fit_part tabled Args
    (where_fits s.CloseParen refl (λ c. done _) (text refl (λ a. text refl (λ a. done _) (λ a. refl) (λ a. refl)) (λ a. refl) (λ a. tt)) refl tt) refl (λ a e. absurd e)

pub fit_more_args : (xs : List Argument) → FitsAs (MoreArgs xs)
unfolding forms
fit_more_args xs = fit_part tabled (MoreArgs xs)
    (where_fits s.Comma refl (λ t. text refl (λ a. text refl (λ a. done _) (λ a. refl) (λ a. refl)) (λ a. refl) (λ a. tt)) (token s.CloseParen refl (λ c. done _)) refl tt) refl (λ a e. absurd e)

pub fit_arg : FitsAs Arg
unfolding forms
fit_arg = fit_part tabled Arg
    (where_fits s.Out refl (λ t. text refl (λ a. done _) (λ a. refl) (λ a. refl)) (where_fits s.Identifier refl (λ t. where_fits s.Colon refl (λ m. text refl (λ a. done _) (λ a. refl) (λ a. refl)) (text refl (λ a. done _) (λ a. refl) (λ a. refl)) refl refl) (barred (text refl (λ a. done _) (λ a. refl) (λ a. refl)) refl tt) refl tt) refl tt) refl (λ a e. absurd e)

pub fit_init : FitsAs Init
unfolding forms
fit_init = fit_part tabled Init
    (where_fits s.OpenBrace refl (λ b. text refl (λ a. done _) (λ a. refl) (λ a. refl)) (text refl (λ a. done _) (λ a. refl) (λ a. refl)) refl tt) refl (λ a e. absurd e)

pub fit_items : FitsAs Items
unfolding forms
fit_items = fit_part tabled Items
    (where_fits s.CloseBrace refl (λ c. done _) (text refl (λ a. text refl (λ a. done _) (λ a. refl) (λ a. refl)) (λ a. refl) (λ a. tt)) refl tt) refl (λ a e. absurd e)

pub fit_more_items : (xs : List Expr) → FitsAs (MoreItems xs)
unfolding forms
fit_more_items xs = fit_part tabled (MoreItems xs)
    (where_fits s.Comma refl (λ t. text refl (λ a. text refl (λ a. done _) (λ a. refl) (λ a. refl)) (λ a. refl) (λ a. tt)) (token s.CloseBrace refl (λ c. done _)) refl tt) refl (λ a e. absurd e)

pub fit_lambda_more : (xs : List Identifier) → FitsAs (LambdaMore xs)
unfolding forms
fit_lambda_more xs = fit_part tabled (LambdaMore xs)
    (token s.Identifier refl (λ t. where_fits s.Comma refl (λ m. text refl (λ a. done _) (λ a. refl) (λ a. refl)) (token s.CloseParen refl (λ c. done _)) refl tt)) refl (λ a e. absurd e)

pub fit_lambda_end : (b : Span) (xs : List Identifier) → FitsAs (LambdaEnd b xs)
unfolding forms
fit_lambda_end b xs = fit_part tabled (LambdaEnd b xs)
    (choice (text refl (λ a. done _) (λ a. refl) (λ a. refl)) (text refl (λ a. done _) (λ a. refl) (λ a. refl)) refl tt) refl (λ a e. absurd e)
