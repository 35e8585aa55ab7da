-- Brackets, and the types behind `is` and `as`, fit.
use Rattle.std.proofs.Common.{◌≡◌, ℕ, Bool, true, false, not, ◌&&◌, refl, if◌then◌else◌, ◌||◌, [], ◌∷◌, Option, Some, None}
use Rattle.vg_base.specs.declared.event.Span.{Span}
use Rattle.predictive_grammar.specs.Forms.{Form, give, pick}
use Rattle.predictive_grammar.proofs.Sets.{is_within}
use Rattle.predictive_grammar.proofs.Fits.{Fits, never, only, maybe, done, token, text, choice, barred, widen, fit_part}
use Rattle.vala_lexer.specs.Tokens.{Lexeme}
use Rattle.vala_tree.specs.declared.code.Expr.{Expr}
use Rattle.vala_tree.specs.declared.names.NameTree.{NameTree}
use Rattle.vala_tree.specs.declared.names.TypeTree.{TypeTree}
use Rattle.vala_grammar.specs.declared.sort.Sort.{Sort}
use Rattle.vala_grammar.specs.declared.sort.Sort.TheVariants as s
use Rattle.vala_grammar.specs.declared.parts.Last.{Last}
use Rattle.vala_grammar.specs.declared.parts.Last.TheVariants as last
use Rattle.vala_grammar.specs.declared.parts.TypeName.{TypeName}
use Rattle.vala_grammar.specs.declared.parts.TypeName.TheVariants as type_name
use Rattle.vala_grammar.specs.declared.parts.Opening.{Opening}
use Rattle.vala_grammar.specs.declared.parts.Opening.TheVariants as opening
use Rattle.vala_grammar.specs.declared.parts.Bracketed.TheVariants as bracketed
use Rattle.vala_grammar.specs.declared.parts.Context.TheVariants as context
use Rattle.vala_grammar.specs.declared.parts.Signs.TheVariants as signs
use Rattle.vala_grammar.specs.Tests.{is, among, begins_prefix, is_type_sign}
use Rattle.vala_grammar.specs.Trees as tree
use Rattle.vala_grammar.specs.Parts.{Unary, TestedType, TestedBody, Bracket, BehindNames, LambdaMore, Suffix}
use Rattle.vala_grammar.specs.Grammar.{tested, opened, G, inner, deeper, where_one, where_inner, left_out, operand_here, just, question_behind, tested_array, tested_name, bracketed_end, cast_of, lambda_of, names_end, names_in_bracket, bracket_of, forms}
use Rattle.vala_grammar.specs.Tables.{tables, ends, begins_whole, behind_bracket, behind_opening}
use Rattle.vala_grammar.proofs.Finite.{finite}
use Rattle.vala_grammar.proofs.Tables.{tabled, FitsAs}
use Rattle.vala_grammar.proofs.Where.{where_fits, same_set}

-- ---- a tested type

pub fit_tested_type : (d : ℕ) → FitsAs (TestedType d)
unfolding forms
fit_tested_type d = fit_part tabled (TestedType d)
    (where_fits s.Owned refl (λ o. text refl (λ y. done y) (λ y. refl) (λ y. same_set (ends 3 y.last))) (text refl (λ y. done y) (λ y. refl) (λ y. same_set (ends 3 y.last))) refl tt) refl (λ a e. absurd e)

-- what may follow a mark
abbrev mark_first : Sort → Bool
mark_first = among (s.OpenBracket ∷ s.Slash ∷ s.Star ∷ [])

fit_question : (d : ℕ) (o : Option Lexeme) (without : TypeTree) (with_mark : Span → TypeTree) (marked : Span → Form G (TestedBody d o))
    → ((q : Span) → Fits tabled (TestedBody d o) true mark_first (only (record { tree = with_mark q; last = last.Plain })) (marked q))
    → Fits tabled (TestedBody d o) true (among (s.Question ∷ s.Star ∷ [])) (only (record { tree = without; last = last.Unmarked })) (question_behind d o without marked)
fit_question d o without with_mark marked fits = widen tabled
    (where_fits s.Question refl (λ q. choice (text refl (λ b. done _) (λ b. refl) (λ b. refl)) (fits q.span) refl refl) (barred (done _) refl refl) refl refl) refl (λ a i. i)

fit_tested_array : (d : ℕ) (o : Option Lexeme) (n : NameTree) (q : Option Span) (c : Span) → Fits tabled (TestedBody d o) true (among (s.Question ∷ s.Star ∷ []))
    (only (record { tree = tree.array_type o n q c None; last = last.Unmarked })) (tested_array d o n q c)
fit_tested_array d o n q c = fit_question d o (tree.array_type o n q c None) (λ r. tree.array_type o n q c (Some r)) (λ r. operand_here (tested last.Plain (tree.array_type o n q c (Some r))))
    (λ r. widen tabled (barred (barred (done _) refl refl) refl refl) refl (λ a i. i))

fit_tested_name : (d : ℕ) (o : Option Lexeme) (n : TypeName) → Fits tabled (TestedBody d o) true (among (s.Question ∷ s.Star ∷ [])) maybe (tested_name d o n)
fit_tested_name d o (type_name.Single n) = widen tabled (fit_question d o (tree.single_type o n None) (λ q. tree.single_type o n (Some q))
    (λ q. where_one s.OpenBracket (λ b. left_out (is s.Comma) (inner s.CloseBracket (λ c. tested_array d o n (Some q) c.span))) (operand_here (tested last.Plain (tree.single_type o n (Some q)))))
    (λ q. widen tabled (where_fits s.OpenBracket refl (λ b. barred (token s.CloseBracket refl (λ c. fit_tested_array d o n (Some q) c.span)) refl tt) (barred (barred (done _) refl refl) refl refl) refl refl) refl (λ a i. i)))
    refl (λ a i. tt)
fit_tested_name d o (type_name.Array n c) = widen tabled (fit_tested_array d o n None c) refl (λ a i. tt)

tested_ends : (l : Last) → is_within finite (ends 3 l) (λ x. not (among (s.Dot ∷ s.OpenBracket ∷ []) x)) ≡ true
tested_ends last.Plain = refl
tested_ends _ = refl

pub fit_tested_body : (d : ℕ) (o : Option Lexeme) → FitsAs (TestedBody d o)
unfolding forms
fit_tested_body d o = fit_part tabled (TestedBody d o)
    (where_fits s.Void refl (λ t. barred (done _) refl refl) (text refl (λ n. fit_tested_name d o n) (λ n. refl) (λ n a. tested_ends a.last)) refl tt) refl (λ a e. absurd e)

-- ---- behind names in brackets

names_end_fits : (top : Bool) (o : Lexeme) (n : NameTree) (c : Lexeme) (v : Expr) (b : Bool) → Fits tabled (BehindNames top o n c) false (among (s.Arrow ∷ s.Dot ∷ s.OpenBracket ∷ s.Step ∷ [])) (only (bracketed.Operand (record { value = v; last = last.Names })))
    (if top && b then pick (is s.Arrow) (lambda_of o.span n.words (λ a. bracketed.Lambda a)) (just (Suffix (record { value = v; last = last.Names })) (λ a. bracketed.Operand a)) else just (Suffix (record { value = v; last = last.Names })) (λ a. bracketed.Operand a))
names_end_fits true o n c v true = widen tabled (where_fits s.Arrow refl (λ w. text refl (λ a. done _) (λ a. refl) (λ a. refl)) (text refl (λ e. done _) (λ e. refl) (λ e. same_set (ends 0 e.last))) refl refl) refl (λ a i. i)
names_end_fits true o n c v false = widen tabled (text refl (λ e. done _) (λ e. refl) (λ e. same_set (ends 0 e.last))) refl (λ a i. i)
names_end_fits false o n c v b = widen tabled (text refl (λ e. done _) (λ e. refl) (λ e. same_set (ends 0 e.last))) refl (λ a i. i)

integer_end : (top : Bool) (o : Lexeme) (n : NameTree) (c : Lexeme) (v : Expr) (b : Bool) → Fits tabled (BehindNames top o n c) false (among (s.Arrow ∷ s.Dot ∷ s.OpenBracket ∷ s.Step ∷ [])) (only (bracketed.Operand (record { value = v; last = last.Integer })))
    (if top && b then pick (is s.Arrow) (lambda_of o.span n.words (λ a. bracketed.Lambda a)) (just (Suffix (record { value = v; last = last.Integer })) (λ a. bracketed.Operand a)) else just (Suffix (record { value = v; last = last.Integer })) (λ a. bracketed.Operand a))
integer_end true o n c v true = widen tabled (where_fits s.Arrow refl (λ w. text refl (λ a. done _) (λ a. refl) (λ a. refl)) (text refl (λ e. done _) (λ e. refl) (λ e. same_set (ends 0 e.last))) refl refl) refl (λ a i. i)
integer_end true o n c v false = widen tabled (text refl (λ e. done _) (λ e. refl) (λ e. same_set (ends 0 e.last))) refl (λ a i. i)
integer_end false o n c v b = widen tabled (text refl (λ e. done _) (λ e. refl) (λ e. same_set (ends 0 e.last))) refl (λ a i. i)

behind_fits : (top : Bool) (o : Lexeme) (n : NameTree) (c : Lexeme) (v : Expr) (i b : Bool) → Fits tabled (BehindNames top o n c) false
    (λ x. begins_prefix (if i then signs.IntegerCast else signs.Cast) x || among (s.Arrow ∷ s.Dot ∷ s.OpenBracket ∷ s.Step ∷ []) x) (only (bracketed.Operand (record { value = v; last = if i then last.Integer else last.Names })))
    (pick (begins_prefix (if i then signs.IntegerCast else signs.Cast))
    (deeper (Unary (if i then signs.IntegerCast else signs.Cast)) (λ x. give (bracketed.Operand (tree.cast o (tree.single_type None n None) x))))
    (if top && b then pick (is s.Arrow) (lambda_of o.span n.words (λ a. bracketed.Lambda a)) (just (Suffix (record { value = v; last = if i then last.Integer else last.Names })) (λ a. bracketed.Operand a))
    else just (Suffix (record { value = v; last = if i then last.Integer else last.Names })) (λ a. bracketed.Operand a)))
behind_fits top o n c v true b = widen tabled (choice (text refl (λ e. done _) (λ e. refl) (λ e. same_set (ends 0 e.last))) (integer_end top o n c v b) refl refl) refl (λ a i. i)
behind_fits top o n c v false b = widen tabled (choice (text refl (λ e. done _) (λ e. refl) (λ e. same_set (ends 0 e.last))) (names_end_fits top o n c v b) refl refl) refl (λ a i. i)

pub fit_behind_names : (top : Bool) (o : Lexeme) (n : NameTree) (c : Lexeme) → FitsAs (BehindNames top o n c)
unfolding forms
fit_behind_names top o n c = fit_part tabled (BehindNames top o n c) (behind_fits top o n c (tree.bracketed o.span (tree.names n) c.span) (tree.is_integer_type n) (tree.is_one_word n))
    (same_set (tables.first (BehindNames top o n c))) (λ a e. e)

-- ---- what follows an opening bracket

abbrev opened_first : Opening → Sort → Bool
opened_first (opening.Type y) x = is s.CloseParen x || is_type_sign x
opened_first (opening.Names n) x = among (s.Comma ∷ s.CloseParen ∷ []) x
opened_first (opening.Value e) x = is s.CloseParen x

opened_follows : (r : Opening) → is_within finite (opened_first r) (behind_opening context.Bracket r) ≡ true
opened_follows (opening.Type y) = refl
opened_follows (opening.Names n) = refl
opened_follows (opening.Value e) = refl

names_closed : (top : Bool) (o : Lexeme) (n : NameTree) → Fits tabled (Bracket top o) true (is s.CloseParen) never (names_end top o n)
names_closed top o n = token s.CloseParen refl (λ c. text refl (λ r. done r) (λ r. refl) (λ r. same_set (behind_bracket top r)))

names_or_more : (o : Lexeme) (n : NameTree) (b : Bool) → Fits tabled (Bracket true o) true (among (s.Comma ∷ s.CloseParen ∷ [])) never
    (if b then where_inner s.Comma (λ m. deeper (LambdaMore n.words) (λ xs. lambda_of o.span xs (λ a. bracketed.Lambda a))) (names_end true o n) else names_end true o n)
names_or_more o n true = widen tabled (where_fits s.Comma refl (λ m. text refl (λ xs. token s.Arrow refl (λ w. text refl (λ a. done _) (λ a. refl) (λ a. refl))) (λ xs. refl) (λ xs. tt)) (names_closed true o n) refl tt) refl (λ a i. i)
names_or_more o n false = widen tabled (names_closed true o n) refl (λ a i. i)

names_in : (top : Bool) (o : Lexeme) (n : NameTree) → Fits tabled (Bracket top o) true (among (s.Comma ∷ s.CloseParen ∷ [])) never (names_in_bracket top o n)
names_in true o n = names_or_more o n (tree.is_one_word n)
names_in false o n = widen tabled (names_closed false o n) refl (λ a i. i)

cast_fits : (top : Bool) (o : Lexeme) (y : TypeTree) → Fits tabled (Bracket top o) true (λ x. is s.CloseParen x || is_type_sign x) never (cast_of top o y)
cast_fits top o y = widen tabled (text refl (λ e. done _) (λ e. refl) (λ e. same_set (ends 0 e.last))) refl (λ a i. i)

closed_fits : (top : Bool) (o : Lexeme) (e : Expr) → Fits tabled (Bracket top o) true (is s.CloseParen) never (bracketed_end top o e)
closed_fits top o e = token s.CloseParen refl (λ c. text refl (λ e. done _) (λ e. refl) (λ e. same_set (ends 0 e.last)))

opened_fits : (top : Bool) (o : Lexeme) (r : Opening) → Fits tabled (Bracket top o) true (opened_first r) never (opened top o r)
opened_fits top o (opening.Type y) = cast_fits top o y
opened_fits top o (opening.Names n) = names_in top o n
opened_fits top o (opening.Value e) = closed_fits top o e

bracket_fits : (top : Bool) (o : Lexeme) → Fits tabled (Bracket top o) false (λ x. among (s.Owned ∷ s.Unowned ∷ s.Void ∷ []) x || begins_whole x) never (bracket_of top o)
bracket_fits top o = widen tabled
    (where_fits s.Owned refl (λ w. where_fits s.CloseParen refl (λ c. text refl (λ e. done _) (λ e. refl) (λ e. same_set (ends 0 e.last))) (text refl (λ y. cast_fits top o y) (λ y. refl) (λ y. tt)) refl tt)
    (where_fits s.Unowned refl (λ w. text refl (λ y. cast_fits top o y) (λ y. refl) (λ y. tt))
    (where_fits s.Void refl (λ t. cast_fits top o (tree.void_type None t))
    (choice (text refl (λ r. opened_fits top o r) (λ r. opened_follows r) (λ r. tt)) (barred (text refl (λ e. closed_fits top o e) (λ e. refl) (λ e. tt)) refl tt) refl tt) refl tt) refl tt) refl tt) refl (λ a i. i)

pub fit_bracket : (top : Bool) (o : Lexeme) → FitsAs (Bracket top o)
unfolding forms
fit_bracket true o = fit_part tabled (Bracket true o) (where_fits s.CloseParen refl (λ c. token s.Arrow refl (λ w. text refl (λ a. done _) (λ a. refl) (λ a. refl))) (bracket_fits true o) refl tt) refl (λ a e. absurd e)
fit_bracket false o = fit_part tabled (Bracket false o) (bracket_fits false o) refl (λ a e. absurd e)
