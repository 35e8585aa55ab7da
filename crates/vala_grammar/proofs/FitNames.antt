-- What may be a type or an expression fits.
use Rattle.std.proofs.Common.{◌≡◌, Bool, true, false, refl, if◌then◌else◌, ◌||◌, Some, None}
use Rattle.vg_base.specs.declared.event.Span.{Span}
use Rattle.predictive_grammar.specs.Forms.{pick}
use Rattle.predictive_grammar.proofs.Sets.{is_within}
use Rattle.predictive_grammar.proofs.Fits.{Fits, either, Nones, never, only, Each, done, token, text, choice, barred, widen, fit_part}
use Rattle.vala_lexer.specs.Tokens.{Lexeme}
use Rattle.vala_tree.specs.declared.code.Expr.{Expr}
use Rattle.vala_tree.specs.declared.names.NameTree.{NameTree}
use Rattle.vala_tree.specs.declared.names.TypeTree.{TypeTree}
use Rattle.vala_grammar.specs.declared.sort.Sort.{Sort}
use Rattle.vala_grammar.specs.declared.sort.Sort.TheVariants as s
use Rattle.vala_grammar.specs.declared.parts.Last.{Last}
use Rattle.vala_grammar.specs.declared.parts.Last.TheVariants as last
use Rattle.vala_grammar.specs.declared.parts.Lead.{Lead}
use Rattle.vala_grammar.specs.declared.parts.Lead.TheVariants as lead
use Rattle.vala_grammar.specs.declared.parts.Opening.{Opening}
use Rattle.vala_grammar.specs.declared.parts.Opening.TheVariants as opening
use Rattle.vala_grammar.specs.declared.parts.Context.{Context}
use Rattle.vala_grammar.specs.declared.parts.Context.TheVariants as context
use Rattle.vala_grammar.specs.Tests.{is}
use Rattle.vala_grammar.specs.Trees as tree
use Rattle.vala_grammar.specs.Parts.{OpeningName, LeadMore, Marked, CastEnd}
use Rattle.vala_grammar.specs.Grammar.{lambda_of, after_names, names_onward, leads, forms}
use Rattle.vala_grammar.specs.Tables.{ends, goes, goes_colon, behind_opening, behind_lead}
use Rattle.vala_grammar.proofs.Finite.{finite}
use Rattle.vala_grammar.proofs.Tables.{tabled, FitsAs}
use Rattle.vala_grammar.proofs.FitTypes.{fit_array_end}
use Rattle.vala_grammar.proofs.FitChains.{chain_nones, just_onward, operand_follows, choice_follows, onward_follows}
use Rattle.vala_grammar.proofs.FitOperands.{fit_index}
use Rattle.vala_grammar.proofs.Where.{where_fits, same_set}

pub fit_cast_end : (o : Lexeme) (y : TypeTree) → FitsAs (CastEnd o y)
unfolding forms
fit_cast_end o y = fit_part tabled (CastEnd o y) (barred (token s.CloseParen refl (λ c. text refl (λ x. done _) (λ x. refl) (λ x. same_set (ends 0 x.last)))) refl tt) refl (λ a e. absurd e)

pub fit_lead_more : (n : NameTree) → FitsAs (LeadMore n)
unfolding forms
fit_lead_more n = fit_part tabled (LeadMore n)
    (where_fits s.Dot refl (λ d. token s.Identifier refl (λ t. text refl (λ r. done r) (λ r. refl) (λ r. same_set (behind_lead r))))
    (where_fits s.OpenBracket refl (λ b. barred (where_fits s.CloseBracket refl (λ c. done _) (fit_index (tree.names n) (λ c. lead.Value c) (λ e. same_set (ends 0 e.last))) refl tt) refl tt)
    (where_fits s.Step refl (λ t. text refl (λ c. done _) (λ c. refl) (λ c. same_set (ends 0 c.last)))
    (where_fits s.OpenParen refl (λ p. text refl (λ xs. text refl (λ c. done _) (λ c. refl) (λ c. same_set (ends 0 c.last))) (λ xs. refl) (λ xs. refl))
    (done (lead.Names n)) refl refl) refl refl) refl refl) refl refl) refl (λ a e. e)

pub fit_marked : (x : Context) (n : NameTree) (q : Span) → FitsAs (Marked x n q)
unfolding forms
fit_marked context.Statement n q = fit_part tabled (Marked context.Statement n q)
    (barred
    (where_fits s.OpenBracket refl (λ b. fit_array_end (λ r c. opening.Type (tree.array_type None n (Some q) c r)) (λ c. refl))
    (choice (text refl (λ b. token s.Colon refl (λ t. text refl (λ c. text refl (λ a. done _) (λ a. refl) (λ a. refl)) (λ c. refl) (λ c. refl))) (λ b. refl) (λ b. tt)) (done _) refl refl) refl refl) refl refl) refl (λ a e. e)
fit_marked context.Bracket n q = fit_part tabled (Marked context.Bracket n q)
    (barred
    (where_fits s.OpenBracket refl (λ b. fit_array_end (λ r c. opening.Type (tree.array_type None n (Some q) c r)) (λ c. refl))
    (choice (text refl (λ b. token s.Colon refl (λ t. text refl (λ c. text refl (λ a. done _) (λ a. refl) (λ a. refl)) (λ c. refl) (λ c. refl))) (λ b. refl) (λ b. tt)) (done _) refl refl) refl refl) refl refl) refl (λ a e. e)

-- ---- behind names

abbrev names_none : NameTree → Last → Expr → Nones Opening
names_none n last.Alone v = only (opening.Names n)
names_none n (last.Asked b) v = never
names_none n _ v = only (opening.Value v)

abbrev leads_first : Lead → Sort → Bool
leads_first (lead.Names n) x = is s.Question x || (is s.Arrow x || goes 0 13 last.Alone x)
leads_first (lead.Array n c) x = is s.Question x
leads_first (lead.Value c) x = goes_colon 0 13 c.last x

abbrev leads_none : Lead → Nones Opening
leads_none (lead.Names n) = only (opening.Names n)
leads_none (lead.Array n c) = only (opening.Type (tree.array_type None n None c None))
leads_none (lead.Value c) = chain_nones (λ a. opening.Value a) c.last c.value

lead_follows : (r : Lead) → is_within finite (leads_first r) (behind_lead r) ≡ true
lead_follows (lead.Names n) = refl
lead_follows (lead.Array n c) = refl
lead_follows (lead.Value c) = operand_follows c.last

-- ---- at the start of a statement

after_names_statement : (n : NameTree) (v : Expr) (l : Last) → Fits tabled (OpeningName context.Statement) true (goes_colon 11 13 l) (names_none n l v) (after_names context.Statement n (record { value = v; last = l }) l)
after_names_statement n v last.Plain = widen tabled (text refl (λ f. text refl (λ a. done _) (λ a. refl) (λ a. refl)) (λ f. refl) (λ f. refl)) refl (λ a i. i)
after_names_statement n v last.Names = widen tabled (text refl (λ f. text refl (λ a. done _) (λ a. refl) (λ a. refl)) (λ f. refl) (λ f. refl)) refl (λ a i. i)
after_names_statement n v last.Integer = widen tabled (text refl (λ f. text refl (λ a. done _) (λ a. refl) (λ a. refl)) (λ f. refl) (λ f. refl)) refl (λ a i. i)
after_names_statement n v last.Unmarked = widen tabled (text refl (λ f. text refl (λ a. done _) (λ a. refl) (λ a. refl)) (λ f. refl) (λ f. refl)) refl (λ a i. i)
after_names_statement n v last.Alone = widen tabled (where_fits s.Assign refl (λ t. text refl (λ a. done _) (λ a. refl) (λ a. refl)) (done _) refl refl) refl (λ a i. i)
after_names_statement n v (last.Asked b) = widen tabled (text refl (λ f. text refl (λ a. done _) (λ a. refl) (λ a. refl)) (λ f. refl) (λ f. refl)) refl (λ a i. i)

names_end_coalesce_statement : (n : NameTree) (l : Last) (v : Expr) → Each (names_none n l v) (λ a. is_within finite (behind_opening context.Statement a) (ends 11 l) ≡ true)
names_end_coalesce_statement n last.Plain v = refl
names_end_coalesce_statement n last.Names v = refl
names_end_coalesce_statement n last.Integer v = refl
names_end_coalesce_statement n last.Unmarked v = refl
names_end_coalesce_statement n last.Alone v = refl
names_end_coalesce_statement n (last.Asked b) v = tt

names_end_tiers_statement : (n : NameTree) (l : Last) (v : Expr) → Each (names_none n l v) (λ a. is_within finite (behind_opening context.Statement a) (ends 10 l) ≡ true)
names_end_tiers_statement n last.Plain v = refl
names_end_tiers_statement n last.Names v = refl
names_end_tiers_statement n last.Integer v = refl
names_end_tiers_statement n last.Unmarked v = refl
names_end_tiers_statement n last.Alone v = refl
names_end_tiers_statement n (last.Asked b) v = tt

names_onward_statement : (n : NameTree) → Fits tabled (OpeningName context.Statement) true (goes 0 13 last.Alone) (only (opening.Names n)) (names_onward context.Statement n)
names_onward_statement n = widen tabled
    (text refl (λ c. text refl (λ d. after_names_statement n d.value d.last) (λ d. choice_follows d.last) (λ d. names_end_coalesce_statement n d.last d.value)) (λ c. onward_follows c.last) (λ c. names_end_tiers_statement n c.last c.value))
    refl (λ a i. i)

names_or_lambda_statement : (n : NameTree) (b : Bool) → Fits tabled (OpeningName context.Statement) true (either (is s.Arrow) (goes 0 13 last.Alone)) (only (opening.Names n))
    (if b then pick (is s.Arrow) (lambda_of n.span n.words (λ a. opening.Value a)) (names_onward context.Statement n) else names_onward context.Statement n)
names_or_lambda_statement n true = where_fits s.Arrow refl (λ w. text refl (λ a. done _) (λ a. refl) (λ a. refl)) (names_onward_statement n) refl refl
names_or_lambda_statement n false = widen tabled (names_onward_statement n) refl (λ a i. i)

leads_statement : (r : Lead) → Fits tabled (OpeningName context.Statement) true (leads_first r) (leads_none r) (leads context.Statement r)
leads_statement (lead.Names n) = where_fits s.Question refl (λ q. text refl (λ r. done r) (λ r. refl) (λ r. same_set (behind_opening context.Statement r))) (names_or_lambda_statement n (tree.is_one_word n)) refl refl
leads_statement (lead.Array n c) = widen tabled (where_fits s.Question refl (λ q. done _) (done _) refl refl) refl (λ a i. i)
leads_statement (lead.Value c) = just_onward true (λ e. opening.Value e) c.value c.last refl (λ a. refl)

value_ends_statement : (l : Last) (v : Expr) → Each (chain_nones (λ a. opening.Value a) l v) (λ a. is_within finite (behind_opening context.Statement a) (ends 0 l) ≡ true)
value_ends_statement last.Plain v = refl
value_ends_statement last.Names v = refl
value_ends_statement last.Integer v = refl
value_ends_statement last.Unmarked v = refl
value_ends_statement last.Alone v = refl
value_ends_statement (last.Asked b) v = tt

lead_ends_statement : (r : Lead) → Each (leads_none r) (λ a. is_within finite (behind_opening context.Statement a) (behind_lead r) ≡ true)
lead_ends_statement (lead.Names n) = refl
lead_ends_statement (lead.Array n c) = refl
lead_ends_statement (lead.Value c) = value_ends_statement c.last c.value

opening_statement : FitsAs (OpeningName context.Statement)
unfolding forms
opening_statement = fit_part tabled (OpeningName context.Statement) (token s.Identifier refl (λ t. text refl (λ r. leads_statement r) (λ r. lead_follows r) (λ r. lead_ends_statement r))) refl (λ a e. absurd e)

-- ---- behind a bracket

after_names_bracket : (n : NameTree) (v : Expr) (l : Last) → Fits tabled (OpeningName context.Bracket) true (goes_colon 11 13 l) (names_none n l v) (after_names context.Bracket n (record { value = v; last = l }) l)
after_names_bracket n v last.Plain = widen tabled (text refl (λ f. text refl (λ a. done _) (λ a. refl) (λ a. refl)) (λ f. refl) (λ f. refl)) refl (λ a i. i)
after_names_bracket n v last.Names = widen tabled (text refl (λ f. text refl (λ a. done _) (λ a. refl) (λ a. refl)) (λ f. refl) (λ f. refl)) refl (λ a i. i)
after_names_bracket n v last.Integer = widen tabled (text refl (λ f. text refl (λ a. done _) (λ a. refl) (λ a. refl)) (λ f. refl) (λ f. refl)) refl (λ a i. i)
after_names_bracket n v last.Unmarked = widen tabled (text refl (λ f. text refl (λ a. done _) (λ a. refl) (λ a. refl)) (λ f. refl) (λ f. refl)) refl (λ a i. i)
after_names_bracket n v last.Alone = widen tabled (where_fits s.Assign refl (λ t. text refl (λ a. done _) (λ a. refl) (λ a. refl)) (done _) refl refl) refl (λ a i. i)
after_names_bracket n v (last.Asked b) = widen tabled (text refl (λ f. text refl (λ a. done _) (λ a. refl) (λ a. refl)) (λ f. refl) (λ f. refl)) refl (λ a i. i)

names_end_coalesce_bracket : (n : NameTree) (l : Last) (v : Expr) → Each (names_none n l v) (λ a. is_within finite (behind_opening context.Bracket a) (ends 11 l) ≡ true)
names_end_coalesce_bracket n last.Plain v = refl
names_end_coalesce_bracket n last.Names v = refl
names_end_coalesce_bracket n last.Integer v = refl
names_end_coalesce_bracket n last.Unmarked v = refl
names_end_coalesce_bracket n last.Alone v = refl
names_end_coalesce_bracket n (last.Asked b) v = tt

names_end_tiers_bracket : (n : NameTree) (l : Last) (v : Expr) → Each (names_none n l v) (λ a. is_within finite (behind_opening context.Bracket a) (ends 10 l) ≡ true)
names_end_tiers_bracket n last.Plain v = refl
names_end_tiers_bracket n last.Names v = refl
names_end_tiers_bracket n last.Integer v = refl
names_end_tiers_bracket n last.Unmarked v = refl
names_end_tiers_bracket n last.Alone v = refl
names_end_tiers_bracket n (last.Asked b) v = tt

names_onward_bracket : (n : NameTree) → Fits tabled (OpeningName context.Bracket) true (goes 0 13 last.Alone) (only (opening.Names n)) (names_onward context.Bracket n)
names_onward_bracket n = widen tabled
    (text refl (λ c. text refl (λ d. after_names_bracket n d.value d.last) (λ d. choice_follows d.last) (λ d. names_end_coalesce_bracket n d.last d.value)) (λ c. onward_follows c.last) (λ c. names_end_tiers_bracket n c.last c.value))
    refl (λ a i. i)

names_or_lambda_bracket : (n : NameTree) (b : Bool) → Fits tabled (OpeningName context.Bracket) true (either (is s.Arrow) (goes 0 13 last.Alone)) (only (opening.Names n))
    (if b then pick (is s.Arrow) (lambda_of n.span n.words (λ a. opening.Value a)) (names_onward context.Bracket n) else names_onward context.Bracket n)
names_or_lambda_bracket n true = where_fits s.Arrow refl (λ w. text refl (λ a. done _) (λ a. refl) (λ a. refl)) (names_onward_bracket n) refl refl
names_or_lambda_bracket n false = widen tabled (names_onward_bracket n) refl (λ a i. i)

leads_bracket : (r : Lead) → Fits tabled (OpeningName context.Bracket) true (leads_first r) (leads_none r) (leads context.Bracket r)
leads_bracket (lead.Names n) = where_fits s.Question refl (λ q. text refl (λ r. done r) (λ r. refl) (λ r. same_set (behind_opening context.Bracket r))) (names_or_lambda_bracket n (tree.is_one_word n)) refl refl
leads_bracket (lead.Array n c) = widen tabled (where_fits s.Question refl (λ q. done _) (done _) refl refl) refl (λ a i. i)
leads_bracket (lead.Value c) = just_onward true (λ e. opening.Value e) c.value c.last refl (λ a. refl)

value_ends_bracket : (l : Last) (v : Expr) → Each (chain_nones (λ a. opening.Value a) l v) (λ a. is_within finite (behind_opening context.Bracket a) (ends 0 l) ≡ true)
value_ends_bracket last.Plain v = refl
value_ends_bracket last.Names v = refl
value_ends_bracket last.Integer v = refl
value_ends_bracket last.Unmarked v = refl
value_ends_bracket last.Alone v = refl
value_ends_bracket (last.Asked b) v = tt

lead_ends_bracket : (r : Lead) → Each (leads_none r) (λ a. is_within finite (behind_opening context.Bracket a) (behind_lead r) ≡ true)
lead_ends_bracket (lead.Names n) = refl
lead_ends_bracket (lead.Array n c) = refl
lead_ends_bracket (lead.Value c) = value_ends_bracket c.last c.value

opening_bracket : FitsAs (OpeningName context.Bracket)
unfolding forms
opening_bracket = fit_part tabled (OpeningName context.Bracket) (token s.Identifier refl (λ t. text refl (λ r. leads_bracket r) (λ r. lead_follows r) (λ r. lead_ends_bracket r))) refl (λ a e. absurd e)

pub fit_opening_name : (x : Context) → FitsAs (OpeningName x)
fit_opening_name context.Statement = opening_statement
fit_opening_name context.Bracket = opening_bracket
