-- Types, parameters, bodies and accessors fit.
use Rattle.std.proofs.Common.{Bool, false, ◌&&◌, not, refl, List, Option, Some, None, codes}
use Rattle.predictive_grammar.specs.Fit.{Within, Apart}
use Rattle.predictive_grammar.proofs.Sets.{within, apart, and_first, and_second, not_true}
use Rattle.vg_base.specs.declared.event.Span.{Span}
use Rattle.predictive_grammar.proofs.Fits.{Fits, never, either, barred_by, widen, widen_by, done, token, text, barred, fit_part, where_token}
use Rattle.vala_lexer.specs.Tokens.{Lexeme}
use Rattle.vala_tree.specs.declared.names.TypeTree.{TypeTree}
use Rattle.vala_tree.specs.declared.member.Modifier.{Modifier}
use Rattle.vala_tree.specs.declared.member.Parameter.{Parameter}
use Rattle.vala_tree.specs.declared.member.Accessor.{Accessor}
use Rattle.vala_grammar.specs.declared.sort.Sort.TheVariants as s
use Rattle.vala_grammar.specs.Trees.{same_bytes}
use Rattle.vala_grammar.specs.declared.parts.TypeName.{TypeName}
use Rattle.vala_grammar.specs.declared.parts.TypeName.TheVariants as type_name
use Rattle.vala_file_grammar.specs.declared.kind.Special.TheVariants as special
use Rattle.vala_file_grammar.specs.Kinds.{Kind, Of, Word, sorted}
use Rattle.vala_file_grammar.specs.Heads.{async_in}
use Rattle.vala_file_grammar.specs.Parts.{Place, Outside, Inside, Owner, Plain, Async, Signal, Bodied, Method, InterfaceMethod, Accessing, TypeEnd, NamedBy, Bases, ThrowsOf, TypeList, Parameters, MoreParameters, ParameterOf, ParameterType, ParameterName, BodyOf, Accessors, AccessorOf, AccessorWords}
use Rattle.vala_file_grammar.specs.Grammar.{forms, is_type_sign, is_main, named_by}
use Rattle.vala_file_grammar.specs.Tables.{begins_named}
use Rattle.vala_file_grammar.proofs.Finite.{checks}
use Rattle.vala_file_grammar.proofs.Tables.{tabled, FitsAs}
use Rattle.vala_file_grammar.proofs.Where.{either_within, through, apart_through}

-- ---- types

pub fit_type_end : (n : TypeName) → FitsAs (TypeEnd n)
unfolding forms
fit_type_end (type_name.Single n) = fit_part tabled (TypeEnd (type_name.Single n))
    (where_token (Of s.Question) refl
    (λ q. where_token (Of s.OpenBracket) refl (λ b. barred (token (Of s.CloseBracket) refl (λ c. where_token (Of s.Question) refl (λ r. done _) (done _) refl refl)) refl tt) (done _) refl refl)
    (done _) refl refl) refl (λ a e. e)
fit_type_end (type_name.Array n c) = fit_part tabled (TypeEnd (type_name.Array n c)) (where_token (Of s.Question) refl (λ q. done _) (done _) refl refl) refl (λ a e. e)

pub fit_bases : FitsAs Bases
unfolding forms
fit_bases = fit_part tabled Bases
    (where_token (Of s.Colon) refl (λ t. (text refl (λ a. done _) (λ a. refl) (λ a. refl)))
    (done _) refl refl) refl (λ a e. e)

pub fit_throws : FitsAs ThrowsOf
unfolding forms
fit_throws = fit_part tabled ThrowsOf
    (where_token (Of s.Throws) refl (λ t. (text refl (λ a. done _) (λ a. refl) (λ a. refl)))
    (done _) refl refl) refl (λ a e. e)

pub fit_type_list : (ys : List TypeTree) → FitsAs (TypeList ys)
unfolding forms
fit_type_list ys = fit_part tabled (TypeList ys)
    (text refl (λ y. (barred (where_token (Of s.Comma) refl (λ t. (text refl (λ a. done _) (λ a. refl) (λ a. refl)))
    (done _) refl refl) refl refl)) (λ y. refl) (λ y. refl)) refl (λ a e. absurd e)

abbrev but_main : Kind → Bool
but_main x = sorted s.Identifier x && not (is_main x)

but_main_apart : Apart but_main is_main
but_main_apart x e = not_true (is_main x) (and_second (sorted s.Identifier x) (not (is_main x)) e)

but_main_named : Within but_main (sorted s.Identifier)
but_main_named x e = and_first (sorted s.Identifier x) (not (is_main x)) e

main_named : Within is_main (sorted s.Identifier)
main_named x e = and_first (sorted s.Identifier x) (same_bytes (codes "main") x.text) e

either_named : Within (either but_main is_main) (sorted s.Identifier)
either_named = either_within but_main is_main (sorted s.Identifier) but_main_named main_named

fit_named_by : (y : Place) (ms : List Modifier) (t : TypeTree) (o : Option Span) → Fits tabled (NamedBy y ms t) false begins_named never (named_by y ms t o)
fit_named_by Outside ms t None = widen tabled (barred (token (Of s.Identifier) refl (λ n. (text refl (λ a. done _) (λ a. refl) (λ a. refl)))) refl tt) refl (λ a i. i)
fit_named_by (Inside i c) ms t None = widen tabled (barred (token (Of s.Identifier) refl (λ n. (text refl (λ a. done _) (λ a. refl) (λ a. refl)))) refl tt) refl (λ a i. i)
fit_named_by Outside ms t (Some z) =
    widen_by tabled (barred_by (barred_by (token (Of s.Identifier) refl (λ n. (text refl (λ a. done _) (λ a. refl) (λ a. refl)))) but_main_apart (λ x i. absurd i))
    (apart_through (either but_main is_main) (sorted s.Identifier) is_type_sign either_named (apart checks (sorted s.Identifier) is_type_sign refl)) (λ x i. absurd i))
    (either_within (either but_main is_main) is_type_sign begins_named (through (either but_main is_main) (sorted s.Identifier) begins_named either_named (within checks (sorted s.Identifier) begins_named refl))
    (within checks is_type_sign begins_named refl)) (λ a i. i)
fit_named_by (Inside i c) ms t (Some z) =
    widen_by tabled (barred_by (barred_by (token (Of s.Identifier) refl (λ n. (text refl (λ a. done _) (λ a. refl) (λ a. refl)))) but_main_apart (λ x i. absurd i))
    (apart_through (either but_main is_main) (sorted s.Identifier) is_type_sign either_named (apart checks (sorted s.Identifier) is_type_sign refl)) (λ x i. absurd i))
    (either_within (either but_main is_main) is_type_sign begins_named (through (either but_main is_main) (sorted s.Identifier) begins_named either_named (within checks (sorted s.Identifier) begins_named refl))
    (within checks is_type_sign begins_named refl)) (λ a i. i)

pub fit_named : (y : Place) → (ms : List Modifier) → (t : TypeTree) → FitsAs (NamedBy y ms t)
unfolding forms
fit_named y ms t = (fit_named_by y ms t (async_in ms)).fit

-- ---- parameters

pub fit_parameters : (w : Owner) → FitsAs (Parameters w)
unfolding forms
fit_parameters w = fit_part tabled (Parameters w)
    (where_token (Of s.CloseParen) refl (λ c. (done _))
    (text refl (λ p. (text refl (λ a. done _) (λ a. refl) (λ a. refl))) (λ p. refl) (λ p. tt)) refl tt) refl (λ a e. absurd e)

pub fit_more_parameters : (w : Owner) → (ps : List Parameter) → FitsAs (MoreParameters w ps)
unfolding forms
fit_more_parameters w ps = fit_part tabled (MoreParameters w ps)
    (where_token (Of s.Comma) refl (λ t. (text refl (λ p. (text refl (λ a. done _) (λ a. refl) (λ a. refl))) (λ p. refl) (λ p. tt)))
    (token (Of s.CloseParen) refl (λ c. (done _))) refl tt) refl (λ a e. absurd e)

pub fit_parameter : (w : Owner) → FitsAs (ParameterOf w)
unfolding forms
fit_parameter Plain = fit_part tabled (ParameterOf Plain) (where_token (Of s.Out) refl (λ d. (text refl (λ a. done _) (λ a. refl) (λ a. refl)))
    (text refl (λ a. done _) (λ a. refl) (λ a. refl)) refl tt) refl (λ a e. absurd e)
fit_parameter Async = fit_part tabled (ParameterOf Async) (barred (text refl (λ a. done _) (λ a. refl) (λ a. refl)) refl tt) refl (λ a e. absurd e)
fit_parameter Signal = fit_part tabled (ParameterOf Signal) (barred (where_token (Of s.Unowned) refl (λ o. (text refl (λ y. (text refl (λ a. done _) (λ a. refl) (λ a. refl))) (λ y. refl) (λ y. tt)))
    (text refl (λ y. (text refl (λ a. done _) (λ a. refl) (λ a. refl))) (λ y. refl) (λ y. tt)) refl tt) refl tt) refl (λ a e. absurd e)

pub fit_parameter_type : (d : Option Lexeme) → FitsAs (ParameterType d)
unfolding forms
fit_parameter_type d = fit_part tabled (ParameterType d)
    (text refl (λ y. (text refl (λ a. done _) (λ a. refl) (λ a. refl))) (λ y. refl) (λ y. tt)) refl (λ a e. absurd e)

pub fit_parameter_name : (d : Option Lexeme) → (y : TypeTree) → FitsAs (ParameterName d y)
unfolding forms
fit_parameter_name d y = fit_part tabled (ParameterName d y)
    (barred (token (Of s.Identifier) refl (λ n. (where_token (Of s.Assign) refl (λ e. (text refl (λ a. done _) (λ a. refl) (λ a. refl)))
    (done _) refl refl))) refl tt) refl (λ a e. absurd e)

-- ---- bodies and accessors

pub fit_body : (b : Bodied) → FitsAs (BodyOf b)
unfolding forms
fit_body Method = fit_part tabled (BodyOf Method) (where_token (Of s.Semicolon) refl (λ c. (done _))
    (text refl (λ a. done _) (λ a. refl) (λ a. refl)) refl tt) refl (λ a e. absurd e)
fit_body InterfaceMethod = fit_part tabled (BodyOf InterfaceMethod) (barred (token (Of s.Semicolon) refl (λ c. (done _))) refl tt) refl (λ a e. absurd e)
fit_body Accessing = fit_part tabled (BodyOf Accessing) (barred (where_token (Of s.Semicolon) refl (λ c. (done _))
    (text refl (λ a. done _) (λ a. refl) (λ a. refl)) refl tt) refl tt) refl (λ a e. absurd e)

pub fit_accessors : (xs : List Accessor) → FitsAs (Accessors xs)
unfolding forms
fit_accessors xs = fit_part tabled (Accessors xs)
    (barred (where_token (Of s.CloseBrace) refl (λ c. (done _))
    (text refl (λ a. (text refl (λ a. done _) (λ a. refl) (λ a. refl))) (λ a. refl) (λ a. tt)) refl tt) refl tt) refl (λ a e. absurd e)

pub fit_accessor : FitsAs AccessorOf
unfolding forms
fit_accessor = fit_part tabled AccessorOf
    (where_token (Of s.Public) refl (λ m. (text refl (λ a. done _) (λ a. refl) (λ a. refl)))
    (where_token (Of s.Default) refl (λ t. (token (Of s.Assign) refl (λ e. (text refl (λ v. (token (Of s.Semicolon) refl (λ c. (done _)))) (λ v. refl) (λ v. tt)))))
    (text refl (λ a. done _) (λ a. refl) (λ a. refl)) refl tt) refl tt) refl (λ a e. absurd e)

pub fit_accessor_words : (m : Option Lexeme) → FitsAs (AccessorWords m)
unfolding forms
fit_accessor_words m = fit_part tabled (AccessorWords m)
    (where_token (Of s.Owned) refl (λ o. (token (Word special.Get) refl (λ t. (text refl (λ a. done _) (λ a. refl) (λ a. refl)))))
    (where_token (Word special.Get) refl (λ t. (text refl (λ a. done _) (λ a. refl) (λ a. refl)))
    (where_token (Word special.Set) refl (λ t. (where_token (Of s.Construct) refl (λ u. (text refl (λ a. done _) (λ a. refl) (λ a. refl)))
    (text refl (λ a. done _) (λ a. refl) (λ a. refl)) refl tt))
    (token (Of s.Construct) refl (λ t. (where_token (Word special.Set) refl (λ u. (text refl (λ a. done _) (λ a. refl) (λ a. refl)))
    (text refl (λ a. done _) (λ a. refl) (λ a. refl)) refl tt))) refl tt) refl tt) refl tt) refl (λ a e. absurd e)
