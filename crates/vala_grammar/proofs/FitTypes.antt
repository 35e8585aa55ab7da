-- Names and types fit.
use Rattle.std.proofs.Common.{◌≡◌, true, refl, Option, Some, None}
use Rattle.vg_base.specs.declared.event.Span.{Span}
use Rattle.predictive_grammar.proofs.Sets.{is_apart}
use Rattle.predictive_grammar.proofs.Fits.{Fits, either, never, maybe, done, token, text, barred, widen, fit_part}
use Rattle.vala_lexer.specs.Tokens.{Lexeme}
use Rattle.vala_tree.specs.declared.names.NameTree.{NameTree}
use Rattle.vala_grammar.specs.declared.sort.Sort.TheVariants as s
use Rattle.vala_grammar.specs.declared.parts.TypeName.{TypeName}
use Rattle.vala_grammar.specs.declared.parts.TypeName.TheVariants as type_name
use Rattle.vala_grammar.specs.Tests.{is}
use Rattle.vala_grammar.specs.Trees as tree
use Rattle.vala_grammar.specs.Parts.{Part, tree_of, Name, NameMore, AnyType, TypeBody, NameInType, NameInTypeMore}
use Rattle.vala_grammar.specs.Grammar.{forms, array_end, type_behind}
use Rattle.vala_grammar.specs.Tables.{tables}
use Rattle.vala_grammar.proofs.Finite.{finite}
use Rattle.vala_grammar.proofs.Tables.{tabled, FitsAs}
use Rattle.vala_grammar.proofs.Where.{where_fits}

pub fit_name : FitsAs Name
unfolding forms
fit_name = fit_part tabled Name (token s.Identifier refl (λ t. text refl (λ a. done a) (λ a. refl) (λ a. refl))) refl (λ a e. absurd e)

pub fit_name_more : (n : NameTree) → FitsAs (NameMore n)
unfolding forms
fit_name_more n = fit_part tabled (NameMore n)
    (where_fits s.Dot refl (λ d. token s.Identifier refl (λ t. text refl (λ m. done m) (λ m. refl) (λ m. refl))) (done n) refl refl) refl (λ a e. e)

pub fit_any_type : FitsAs AnyType
unfolding forms
fit_any_type = fit_part tabled AnyType
    (where_fits s.Owned refl (λ o. text refl (λ a. done a) (λ a. refl) (λ a. refl)) (text refl (λ a. done a) (λ a. refl) (λ a. refl)) refl tt) refl (λ a e. absurd e)

-- `[ ]` and the mark behind it
pub fit_array_end : {r : Part} (f : Option Span → Span → tree_of r) → ((c : Span) → is_apart finite (tables.stop r (f None c)) (is s.Question) ≡ true)
    → Fits tabled r true (either (is s.CloseBracket) (is s.Comma)) never (array_end f)
fit_array_end f avoid = barred (token s.CloseBracket refl (λ c. where_fits s.Question refl (λ q. done (f (Some q.span) c.span)) (done (f None c.span)) refl (avoid c.span))) refl tt

fit_type_behind : (o : Option Lexeme) (n : TypeName) → Fits tabled (TypeBody o) true (is s.Question) maybe (type_behind o n)
fit_type_behind o (type_name.Single n) = widen tabled
    (where_fits s.Question refl
    (λ q. where_fits s.OpenBracket refl (λ b. fit_array_end (λ r c. tree.array_type o n (Some q.span) c r) (λ c. refl)) (done (tree.single_type o n (Some q.span))) refl refl)
    (done (tree.single_type o n None)) refl refl) refl (λ a e. tt)
fit_type_behind o (type_name.Array n c) = widen tabled
    (where_fits s.Question refl (λ q. done (tree.array_type o n None c (Some q.span))) (done (tree.array_type o n None c None)) refl refl) refl (λ a e. tt)

pub fit_type_body : (o : Option Lexeme) → FitsAs (TypeBody o)
unfolding forms
fit_type_body o = fit_part tabled (TypeBody o)
    (where_fits s.Void refl (λ t. done (tree.void_type o t)) (text refl (λ n. fit_type_behind o n) (λ n. refl) (λ n a. refl)) refl tt) refl (λ a e. absurd e)

pub fit_name_in_type : FitsAs NameInType
unfolding forms
fit_name_in_type = fit_part tabled NameInType (token s.Identifier refl (λ t. text refl (λ a. done a) (λ a. refl) (λ a. refl))) refl (λ a e. absurd e)

pub fit_name_in_type_more : (n : NameTree) → FitsAs (NameInTypeMore n)
unfolding forms
fit_name_in_type_more n = fit_part tabled (NameInTypeMore n)
    (where_fits s.Dot refl (λ d. token s.Identifier refl (λ t. text refl (λ m. done m) (λ m. refl) (λ m. refl)))
    (where_fits s.OpenBracket refl (λ b. barred (token s.CloseBracket refl (λ c. done (type_name.Array n c.span))) refl tt) (done (type_name.Single n)) refl refl)
    refl refl) refl (λ a e. e)
