-- Operands suit the tables.
use Rattle.std.proofs.Common.{◌≡◌, Bool, true, false, refl, [], ◌∷◌}
use Rattle.predictive_grammar.proofs.Fits.{never, maybe, nothing, either}
use Rattle.c_lexer.specs.declared.token.Keyword.TheVariants as keyword
use Rattle.c_lexer.specs.declared.token.Sign.TheVariants as sign
use Rattle.c_tree.specs.Names.{Names}
use Rattle.c_grammar.specs.Sorts.{Name}
use Rattle.c_grammar.specs.Tests.{is, sign_is, word_is, name_with, begins_type, is_prefix, is_value_role, is_literal, begins_primary, begins_prefixed, begins_suffix, is_field}
use Rattle.c_tree.specs.declared.code.Expr.{Expr}
use Rattle.c_tree.specs.Make.{name_at, suffixed, bracketed}
use Rattle.c_tree.specs.Words as words
use Rattle.c_tree.specs.Words.{join}
use Rattle.c_tree.specs.Values.{is_place}
use Rattle.c_grammar.specs.Trees.{sign_prefix, cast_prefix, one_prefix, name_value, literal, size_of, offset, field_suffix, index_suffix}
use Rattle.c_grammar.specs.Parts.{What, tree_of, Prefixed, Place, Primary, Unnamed, Suffixes, Arguments, MoreArguments}
use Rattle.c_grammar.specs.Grammar.{just, form, index_behind, cast_or_operand}
use Rattle.c_grammar.specs.Tables.{stop_of}
use Rattle.c_grammar.proofs.Classes.{is_within}
use Rattle.c_grammar.proofs.Samples.{a_sign, a_word, a_number, a_name, an_unknown, by_unknown}
use Rattle.c_grammar.proofs.Fitting.{Suits, Suited, suited, done, token, text, choice, where_fits, widen, by_other}

-- suffixes behind a value that was read
fit_suffixes_behind : (ns : Names) {r : What} (dot must : Bool) (f : Expr → tree_of r) (a : Expr) → is_within (stop_of r) (stop_of (Suffixes dot must)) ≡ true
    → Suits ns r true (begins_suffix true) maybe nothing (just ns (Suffixes dot must) (λ xs. f (suffixed a xs)))
fit_suffixes_behind ns true true f a e = widen ns (text ns refl (λ xs. done ns (f (suffixed a xs))) (λ xs. refl) (λ xs. e)) refl (λ b i. tt) refl
fit_suffixes_behind ns true false f a e = widen ns (text ns refl (λ xs. done ns (f (suffixed a xs))) (λ xs. refl) (λ xs. e)) refl (λ b i. tt) refl
fit_suffixes_behind ns false true f a e = widen ns (text ns refl (λ xs. done ns (f (suffixed a xs))) (λ xs. refl) (λ xs. e)) refl (λ b i. tt) refl
fit_suffixes_behind ns false false f a e = widen ns (text ns refl (λ xs. done ns (f (suffixed a xs))) (λ xs. refl) (λ xs. e)) refl (λ b i. tt) refl

-- `[`, a value and `]`
fit_index : (ns : Names) (dot must : Bool) → Suits ns (Suffixes dot must) false (sign_is sign.OpenBracket) never (sign_is sign.OpenBracket) (index_behind ns)
fit_index ns dot must = token ns (sign_is sign.OpenBracket) (a_sign sign.OpenBracket) refl (λ t. text ns refl (λ i. token ns (sign_is sign.CloseBracket) (a_sign sign.CloseBracket) refl (λ s. text ns refl
    (λ xs. done ns (index_suffix t i s ∷ xs)) (λ xs. refl) (λ xs. refl))) (λ i. refl) (λ i. tt))

pub fit_suffixes : (ns : Names) (dot must : Bool) → Suited ns (Suffixes dot must)
unfolding form
fit_suffixes ns true true = suited ns (Suffixes true true)
    (where_fits ns (is_field true) (a_sign sign.Arrow) refl (λ t. token ns (is Name) a_name refl (λ n. text ns refl (λ xs. done ns (field_suffix t.terminal (name_at n) ∷ xs)) (λ xs. refl) (λ xs. refl)))
    (fit_index ns true true) refl tt) refl (λ a e. e) refl
fit_suffixes ns true false = suited ns (Suffixes true false)
    (where_fits ns (is_field true) (a_sign sign.Arrow) refl (λ t. token ns (is Name) a_name refl (λ n. text ns refl (λ xs. done ns (field_suffix t.terminal (name_at n) ∷ xs)) (λ xs. refl) (λ xs. refl)))
    (choice ns (sign_is sign.OpenBracket) (fit_index ns true false) (done ns []) refl refl refl refl) refl refl) refl (λ a e. e) refl
fit_suffixes ns false true = suited ns (Suffixes false true)
    (where_fits ns (is_field false) (a_sign sign.Arrow) refl (λ t. token ns (is Name) a_name refl (λ n. text ns refl (λ xs. done ns (field_suffix t.terminal (name_at n) ∷ xs)) (λ xs. refl) (λ xs. refl)))
    (fit_index ns false true) refl tt) refl (λ a e. e) refl
fit_suffixes ns false false = suited ns (Suffixes false false)
    (where_fits ns (is_field false) (a_sign sign.Arrow) refl (λ t. token ns (is Name) a_name refl (λ n. text ns refl (λ xs. done ns (field_suffix t.terminal (name_at n) ∷ xs)) (λ xs. refl) (λ xs. refl)))
    (choice ns (sign_is sign.OpenBracket) (fit_index ns false false) (done ns []) refl refl refl refl) refl refl) refl (λ a e. e) refl

pub fit_unnamed : (ns : Names) → Suited ns Unnamed
unfolding form
fit_unnamed ns = suited ns Unnamed
    (where_fits ns is_literal a_number refl (λ t. done ns (literal t))
    (where_fits ns (word_is keyword.Sizeof) (a_word keyword.Sizeof) refl
    (λ t. token ns (sign_is sign.OpenParen) (a_sign sign.OpenParen) refl (λ p. text ns refl (λ y. token ns (sign_is sign.CloseParen) (a_sign sign.CloseParen) refl (λ s. done ns (size_of t y s))) (λ y. refl) (λ y. tt)))
    (token ns (word_is keyword.StructOffset) (a_word keyword.StructOffset) refl
    (λ t. token ns (sign_is sign.OpenParen) (a_sign sign.OpenParen) refl (λ p. text ns refl (λ y. token ns (sign_is sign.Comma) (a_sign sign.Comma) refl (λ m. token ns (is Name) a_name refl
    (λ n. token ns (sign_is sign.CloseParen) (a_sign sign.CloseParen) refl (λ s. done ns (offset t y n s))))) (λ y. refl) (λ y. tt))))
    refl tt) refl tt) refl (λ a e. e) refl

pub fit_primary : (ns : Names) (k : Bool) → Suited ns (Primary k)
unfolding form
fit_primary ns true = suited ns (Primary true)
    (where_fits ns (name_with (is_value_role true)) (an_unknown ns) (by_unknown ns (name_with (is_value_role true)) refl) (λ t. done ns (name_value ns t)) (text ns refl (λ a. done ns a) (λ a. refl) (λ a. refl)) refl tt)
    refl (λ a e. e) refl
fit_primary ns false = suited ns (Primary false)
    (where_fits ns (name_with (is_value_role false)) (an_unknown ns) (by_unknown ns (name_with (is_value_role false)) refl) (λ t. done ns (name_value ns t)) (text ns refl (λ a. done ns a) (λ a. refl) (λ a. refl)) refl tt)
    refl (λ a e. e) refl

fit_operand_true : (ns : Names) → Suits ns (Prefixed true) false (either (sign_is sign.OpenParen) (either (begins_primary true) nothing)) never (by_other (sign_is sign.OpenParen) (begins_primary true)) (cast_or_operand ns true)
fit_operand_true ns =
    where_fits ns (sign_is sign.OpenParen) (a_sign sign.OpenParen) refl
    (λ t. choice ns (begins_type false)
    (text ns refl (λ y. token ns (sign_is sign.CloseParen) (a_sign sign.CloseParen) refl (λ s. text ns refl (λ r. done ns (one_prefix (cast_prefix t y s) r)) (λ r. refl) (λ r. refl))) (λ y. refl) (λ y. tt))
    (text ns refl (λ a. token ns (sign_is sign.CloseParen) (a_sign sign.CloseParen) refl (λ s. done ns ([], bracketed (join (words.at t) (words.at s)) a))) (λ a. refl) (λ a. tt))
    refl refl refl tt)
    (text ns refl (λ a. done ns ([], a)) (λ a. refl) (λ a. refl)) refl tt

fit_operand_false : (ns : Names) → Suits ns (Prefixed false) false (either (sign_is sign.OpenParen) (either (begins_primary false) nothing)) never (by_other (sign_is sign.OpenParen) (begins_primary false)) (cast_or_operand ns false)
fit_operand_false ns =
    where_fits ns (sign_is sign.OpenParen) (a_sign sign.OpenParen) refl
    (λ t. choice ns (begins_type false)
    (text ns refl (λ y. token ns (sign_is sign.CloseParen) (a_sign sign.CloseParen) refl (λ s. text ns refl (λ r. done ns (one_prefix (cast_prefix t y s) r)) (λ r. refl) (λ r. refl))) (λ y. refl) (λ y. tt))
    (text ns refl (λ a. token ns (sign_is sign.CloseParen) (a_sign sign.CloseParen) refl (λ s. fit_suffixes_behind ns (is_place a) false (λ b. ([], b)) (bracketed (join (words.at t) (words.at s)) a) refl)) (λ a. refl) (λ a. tt))
    refl refl refl tt)
    (text ns refl (λ a. fit_suffixes_behind ns (is_place a) false (λ b. ([], b)) a refl) (λ a. refl) (λ a b. refl)) refl tt

pub fit_prefixed : (ns : Names) (k : Bool) → Suited ns (Prefixed k)
unfolding form
fit_prefixed ns true = suited ns (Prefixed true)
    (where_fits ns (is_prefix true) (a_sign sign.Plus) refl (λ t. text ns refl (λ r. done ns (one_prefix (sign_prefix t) r)) (λ r. refl) (λ r. refl)) (fit_operand_true ns) refl tt) refl (λ a e. e) refl
fit_prefixed ns false = suited ns (Prefixed false)
    (where_fits ns (is_prefix false) (a_sign sign.Plus) refl (λ t. text ns refl (λ r. done ns (one_prefix (sign_prefix t) r)) (λ r. refl) (λ r. refl))
    (where_fits ns (sign_is sign.Ampersand) (a_sign sign.Ampersand) refl (λ t. text ns refl (λ r. done ns (one_prefix (sign_prefix t) r)) (λ r. refl) (λ r. refl)) (fit_operand_false ns) refl tt)
    refl tt) refl (λ a e. e) refl

pub fit_place : (ns : Names) → Suited ns Place
unfolding form
fit_place ns = suited ns Place
    (where_fits ns (sign_is sign.Star) (a_sign sign.Star) refl (λ t. text ns refl (λ r. done ns (one_prefix (sign_prefix t) r)) (λ r. refl) (λ r. refl))
    (where_fits ns (sign_is sign.OpenParen) (a_sign sign.OpenParen) refl
    (λ t. text ns refl (λ a. token ns (sign_is sign.CloseParen) (a_sign sign.CloseParen) refl (λ s. fit_suffixes_behind ns _ _ (λ b. ([], b)) (bracketed (join (words.at t) (words.at s)) a) refl)) (λ a. refl) (λ a. tt))
    (text ns refl (λ a. fit_suffixes_behind ns _ _ (λ b. ([], b)) a refl) (λ a. refl) (λ a b. refl)) refl tt) refl tt) refl (λ a e. e) refl

pub fit_arguments : (ns : Names) → Suited ns Arguments
unfolding form
fit_arguments ns = suited ns Arguments
    (choice ns (begins_prefixed false) (text ns refl (λ a. text ns refl (λ xs. done ns (a ∷ xs)) (λ xs. refl) (λ xs. refl)) (λ a. refl) (λ a. refl)) (done ns []) refl refl refl refl) refl (λ a e. e) refl

pub fit_more_arguments : (ns : Names) → Suited ns MoreArguments
unfolding form
fit_more_arguments ns = suited ns MoreArguments
    (where_fits ns (sign_is sign.Comma) (a_sign sign.Comma) refl (λ t. text ns refl (λ a. text ns refl (λ xs. done ns (a ∷ xs)) (λ xs. refl) (λ xs. refl)) (λ a. refl) (λ a. refl)) (done ns []) refl refl) refl (λ a e. e) refl
