-- What begins with a bracket, and what may be a type or an expression, by their steps.
use Rattle.std.proofs.Common.{◌≡◌, ℕ, suc, Bool, true, false, ◌&&◌, List, [], ◌∷◌, ◌++◌, if◌then◌else◌, Option, Some, None, Ok, Err, refl, sym, ap, ◌∙◌, true≢false}
use Rattle.predictive_grammar.specs.Steps.{Outcome, Parser, LeftOut, and_then, ◌>>=◌, pure, fail}
use Rattle.predictive_grammar.specs.Forms.{Form, give}
use Rattle.predictive_grammar.specs.Reading.{walk}
use Rattle.vg_base.specs.declared.event.Span.{Span}
use Rattle.vala_lexer.specs.Tokens.{Lexeme}
use Rattle.vala_tree.specs.declared.code.Expr.{Expr}
use Rattle.vala_tree.specs.declared.names.Identifier.{Identifier}
use Rattle.vala_tree.specs.declared.names.NameTree.{NameTree}
use Rattle.vala_tree.specs.declared.names.TypeTree.{TypeTree}
use Rattle.vala_grammar.specs.declared.sort.Sort.TheVariants as s
use Rattle.vala_grammar.specs.declared.parts.Bracketed.TheVariants as bracketed
use Rattle.vala_grammar.specs.declared.parts.Chain.{Chain}
use Rattle.vala_grammar.specs.declared.parts.Context.{Context}
use Rattle.vala_grammar.specs.declared.parts.Context.TheVariants as context
use Rattle.vala_grammar.specs.declared.parts.Last.{Last}
use Rattle.vala_grammar.specs.declared.parts.Last.TheVariants as last
use Rattle.vala_grammar.specs.declared.parts.Lead.{Lead}
use Rattle.vala_grammar.specs.declared.parts.Lead.TheVariants as lead
use Rattle.vala_grammar.specs.declared.parts.Opening.{Opening}
use Rattle.vala_grammar.specs.declared.parts.Opening.TheVariants as opening
use Rattle.vala_grammar.specs.declared.parts.Signs.TheVariants as signs
use Rattle.vala_grammar.specs.declared.parts.Tier.TheVariants as tier
use Rattle.vala_grammar.specs.Parts as p
use Rattle.vala_grammar.specs.Grammar.{G, forms, bracket_of, opened, leads, after_names, cast_signs, lambda_of, bracketed_end, names_onward}
use Rattle.vala_grammar.specs.Trees as tree
use Rattle.vala_grammar.specs.Tests.{is, is_assignment, is_type_sign, begins_prefix, opens_choice}
use Rattle.vala_grammar.specs.Read.{vala_reader}
use Rattle.vala_cursor.specs.Ahead.{reads}
use Rattle.vala_expressions.specs.Brackets.{bracket_ended, cast_ended, cast_to, choice_of_names, choice_start, array_lead, lambda_behind, lead_ended, lead_indexed, lead_called, lead_at, marked_array, names_ended, names_closed, names_further, names_lead, names_then, one_more_parameter, owned_behind, parameters_then}
use Rattle.vala_cursor.specs.Gets.{got, one, way, leave, next}
use Rattle.vala_grammar.proofs.Finite.{finite}
use Rattle.predictive_grammar.proofs.Sets.{by_list, apart}
use Rattle.vala_expressions.specs.Chains.{choice_ended}
use Rattle.vala_expressions.proofs.ChainLaws.{by_if}
use Rattle.vala_grammar.proofs.Readers.{reader_unfolds}
use Rattle.vala_cursor.proofs.Steps.{after_one, after_two, bind, first_way, just}
use Rattle.vala_grammar.specs.Label.{Label}

pub bracket_law : (top : Bool) (o : Lexeme) (l : ℕ) (i : List Lexeme) → vala_reader (p.Bracket top o) l i
    ≡ (if top then way (is s.CloseParen) (one s.CloseParen (suc l) >>= λ c. lambda_behind o.span [] l) (reads (bracket_of top o) l) i else reads (bracket_of top o) l i)
unfolding walk forms got
bracket_law top o l i = reader_unfolds (p.Bracket top o) l i ∙ by_if {r = p.Bracket top o} top _ (bracket_of top o) l i

pub inside_law : (top : Bool) (o : Lexeme) (l : ℕ) (i : List Lexeme) → reads (bracket_of top o) l i
    ≡ way (is s.Owned) (owned_behind o l)
    (way (is s.Unowned) (one s.Unowned (suc l) >>= λ w. cast_to o w l)
    (way (is s.Void) (one s.Void (suc l) >>= λ t. cast_ended o (tree.void_type None t) l)
    (way (is s.Identifier) (vala_reader (p.OpeningName context.Bracket) (suc l) >>= λ r. reads (opened top o r) l)
    (way (is s.Slash) leave (vala_reader p.Nameless (suc l) >>= λ e. bracket_ended o e l))))) i
unfolding walk got
inside_law top o l i = refl

pub cast_end_law : (o : Lexeme) (y : TypeTree) (l : ℕ) (i : List Lexeme) → vala_reader (p.CastEnd o y) l i
    ≡ way is_type_sign leave (one s.CloseParen (suc l) >>= λ c. vala_reader (p.Prefix signs.Cast) (suc l) >>= λ x. pure (tree.cast o y x)) i
unfolding walk forms got
cast_end_law o y l i = reader_unfolds (p.CastEnd o y) l i

pub opened_type : (top : Bool) (o : Lexeme) (y : TypeTree) (l : ℕ) (i : List Lexeme) → reads (opened top o (opening.Type y)) l i ≡ cast_ended o y l i
unfolding walk
opened_type top o y l i = refl

pub opened_value : (top : Bool) (o : Lexeme) (e : Expr) (l : ℕ) (i : List Lexeme) → reads (opened top o (opening.Value e)) l i ≡ bracket_ended o e l i
unfolding walk got
opened_value top o e l i = refl

pub opened_names : (top : Bool) (o : Lexeme) (n : NameTree) (l : ℕ) (i : List Lexeme) → reads (opened top o (opening.Names n)) l i ≡ names_ended top o n l i
unfolding walk got
opened_names top o n l i = by_if {r = p.Bracket top o} (top && tree.is_one_word n) _ _ l i

pub ruleset opened_laws = (opened_type, opened_value, opened_names)

pub behind_names_law : (top : Bool) (o : Lexeme) (n : NameTree) (c : Lexeme) (l : ℕ) (i : List Lexeme) → vala_reader (p.BehindNames top o n c) l i
    ≡ way (begins_prefix (cast_signs n)) (vala_reader (p.Unary (cast_signs n)) (suc l) >>= λ x. pure (bracketed.Operand (tree.cast o (tree.single_type None n None) x)))
    (λ j. if top && tree.is_one_word n
    then way (is s.Arrow) (lambda_behind o.span n.words l) (vala_reader (p.Suffix (tree.bracketed_names o.span n c.span)) l >>= λ a. pure (bracketed.Operand a)) j
    else (vala_reader (p.Suffix (tree.bracketed_names o.span n c.span)) l >>= λ a. pure (bracketed.Operand a)) j) i
unfolding walk forms got
behind_names_law top o n c l i = reader_unfolds (p.BehindNames top o n c) l i
    ∙ ap (λ (x : Outcome Label Lexeme _). if next (begins_prefix (cast_signs n)) i then (vala_reader (p.Unary (cast_signs n)) (suc l) >>= λ x. pure (bracketed.Operand (tree.cast o (tree.single_type None n None) x))) i else x)
    (by_if {r = p.BehindNames top o n c} (top && tree.is_one_word n) _ _ l i)

pub lambda_more_law : (xs : List Identifier) (l : ℕ) (i : List Lexeme) → vala_reader (p.LambdaMore xs) l i ≡ (one_more_parameter xs l >>= λ ys. parameters_then ys l) i
unfolding walk forms got
lambda_more_law xs l i = reader_unfolds (p.LambdaMore xs) l i ∙ after_one (one s.Identifier l) (λ t. xs ++ tree.identifier t ∷ []) (λ ys. parameters_then ys l) i

pub lambda_end_law : (first : Span) (xs : List Identifier) (l : ℕ) (i : List Lexeme) → vala_reader (p.LambdaEnd first xs) l i
    ≡ way (is s.OpenBrace) (vala_reader p.BlockOf l >>= λ b. pure (tree.lambda_code first xs b)) (vala_reader p.Whole l >>= λ e. pure (tree.lambda_value first xs e)) i
unfolding walk forms got
lambda_end_law first xs l i = reader_unfolds (p.LambdaEnd first xs) l i

pub opening_name_law : (x : Context) (l : ℕ) (i : List Lexeme) → vala_reader (p.OpeningName x) l i
    ≡ (one s.Identifier l >>= λ t. vala_reader (p.LeadMore (tree.one_word t)) l >>= λ r. reads (leads x r) l) i
unfolding walk forms got
opening_name_law x l i = reader_unfolds (p.OpeningName x) l i

pub leads_array : (x : Context) (n : NameTree) (c : Span) (l : ℕ) (i : List Lexeme) → reads (leads x (lead.Array n c)) l i ≡ array_lead n c l i
unfolding walk got
leads_array x n c l i = refl

pub leads_value : (x : Context) (c : Chain) (l : ℕ) (i : List Lexeme) → reads (leads x (lead.Value c)) l i ≡ (vala_reader (p.Onward c) l >>= λ e. pure (opening.Value e)) i
unfolding walk
leads_value x c l i = refl

-- by what the chain ends with
after_ways : (x : Context) (n : NameTree) (c : Chain) (k : Last) (l : ℕ) (i : List Lexeme) → reads (after_names x n c k) l i ≡ names_then n c k l i
unfolding walk got
after_ways x n c last.Alone l i = refl
after_ways x n c last.Plain l i = refl
after_ways x n c last.Names l i = refl
after_ways x n c last.Integer l i = refl
after_ways x n c last.Unmarked l i = refl
after_ways x n c (last.Asked b) l i = refl

onward_names : (x : Context) (n : NameTree) (l : ℕ) (i : List Lexeme) → reads (names_onward x n) l i ≡ names_further n l i
unfolding walk got
onward_names x n l i = bind (vala_reader (p.Upto 0 tier.Or (tree.alone n)) l i) _ _ (λ c j. bind (vala_reader (p.CoalesceTail 0 c) l j) _ _ (λ d k. after_ways x n d d.last l k))

one_word_ways : (b : Bool) (u v w : Outcome Label Lexeme Opening) (i : List Lexeme) → v ≡ w → (if b then (if next (is s.Arrow) i then u else v) else v) ≡ (if b then (if next (is s.Arrow) i then u else w) else w)
one_word_ways b u v w i e = ap (λ (x : Outcome Label Lexeme Opening). if b then (if next (is s.Arrow) i then u else x) else x) e

pub leads_names : (x : Context) (n : NameTree) (l : ℕ) (i : List Lexeme) → reads (leads x (lead.Names n)) l i ≡ names_lead x n l i
unfolding walk got
leads_names x n l i =
    ap (λ (o : Outcome Label Lexeme Opening). if next (is s.Question) i then (one s.Question l >>= λ q. vala_reader (p.Marked x n q.span) l >>= pure) i else o)
    (by_if {r = p.OpeningName x} (tree.is_one_word n) _ (names_onward x n) l i ∙ one_word_ways (tree.is_one_word n) _ _ _ i (onward_names x n l i))

pub ruleset leads_laws = (opening_name_law, leads_array, leads_value, leads_names)

pub lead_more_law : (n : NameTree) (l : ℕ) (i : List Lexeme) → vala_reader (p.LeadMore n) l i
    ≡ way (is s.Dot) (one s.Dot l >>= λ d. one s.Identifier l >>= λ t. vala_reader (p.LeadMore (tree.one_more_word n t)) (suc l) >>= pure) (lead_ended n l) i
unfolding walk forms got lead_ended lead_indexed lead_called lead_at
lead_more_law n l i = reader_unfolds (p.LeadMore n) l i

-- a dot and a word are taken
pub lead_goes_on : (n m : NameTree) (l above : ℕ) (i j k : List Lexeme) (d t : Lexeme) → next (is s.Dot) i ≡ true → one s.Dot l i ≡ Ok (d, j) → one s.Identifier l j ≡ Ok (t, k) → m ≡ tree.one_more_word n t → above ≡ suc l
    → vala_reader (p.LeadMore n) l i ≡ vala_reader (p.LeadMore m) above k
lead_goes_on n m l above i j k d t here dot word same up =
    lead_more_law n l i
    ∙ first_way (next (is s.Dot) i) ((one s.Dot l >>= λ d. one s.Identifier l >>= λ t. vala_reader (p.LeadMore (tree.one_more_word n t)) (suc l) >>= pure) i) (lead_ended n l i) here
    ∙ ap (λ (o : Outcome Label Lexeme Lexeme). and_then o (λ d. one s.Identifier l >>= λ t. vala_reader (p.LeadMore (tree.one_more_word n t)) (suc l) >>= pure)) dot
    ∙ ap (λ (o : Outcome Label Lexeme Lexeme). and_then o (λ t. vala_reader (p.LeadMore (tree.one_more_word n t)) (suc l) >>= pure)) word
    ∙ just (vala_reader (p.LeadMore (tree.one_more_word n t)) (suc l) k)
    ∙ ap (λ (x : NameTree). vala_reader (p.LeadMore x) (suc l) k) (sym same)
    ∙ ap (λ (x : ℕ). vala_reader (p.LeadMore m) x k) (sym up)

pub marked_law : (x : Context) (n : NameTree) (q : Span) (l : ℕ) (i : List Lexeme) → vala_reader (p.Marked x n q) l i
    ≡ way (is s.Slash) leave (way (is s.OpenBracket) (marked_array n q l)
    (way (opens_choice x) (choice_start x (suc l) >>= λ b. choice_of_names n b l) (pure (opening.Type (tree.single_type None n (Some q)))))) i
unfolding walk forms got
marked_law context.Statement n q l i = reader_unfolds (p.Marked context.Statement n q) l i
marked_law context.Bracket n q l i = reader_unfolds (p.Marked context.Bracket n q) l i

pub choice_of_names_law : (n : NameTree) (b : Expr) (l : ℕ) (i : List Lexeme) → choice_of_names n b l i
    ≡ (choice_ended (tree.names n) b l >>= λ e. vala_reader (p.AssignTail e) l >>= λ a. pure (opening.Value a)) i
choice_of_names_law n b l i =
    after_two (one s.Colon (suc l)) (λ t. vala_reader p.Test (suc l)) (λ t c. tree.conditional (tree.names n) b c) (λ e. vala_reader (p.AssignTail e) l >>= λ a. pure (opening.Value a)) i

pub opens_no_slash : (x : Context) (i : List Lexeme) → next (opens_choice x) i ≡ true → next (is s.Slash) i ≡ false
opens_no_slash x [] e = absurd (true≢false (sym e))
opens_no_slash context.Statement (t ∷ ts) e = apart (by_list finite) (opens_choice context.Statement) (is s.Slash) refl (G.kind t) e
opens_no_slash context.Bracket (t ∷ ts) e = apart (by_list finite) (opens_choice context.Bracket) (is s.Slash) refl (G.kind t) e

pub opens_no_name : (i : List Lexeme) → next (opens_choice context.Statement) i ≡ true → next (is s.Identifier) i ≡ false
opens_no_name [] e = absurd (true≢false (sym e))
opens_no_name (t ∷ ts) e = apart (by_list finite) (opens_choice context.Statement) (is s.Identifier) refl (G.kind t) e

pub ruleset opens_laws = (opens_no_slash, opens_no_name)
