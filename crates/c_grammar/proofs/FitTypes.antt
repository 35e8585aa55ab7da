-- Types suit the tables.
use Rattle.std.proofs.Common.{◌≡◌, Bool, true, false, refl, [], ◌∷◌}
use Rattle.predictive_grammar.proofs.Fits.{maybe, nothing}
use Rattle.c_lexer.specs.declared.token.Keyword.TheVariants as keyword
use Rattle.c_lexer.specs.declared.token.Sign.TheVariants as sign
use Rattle.c_tree.specs.Words.{Token, Word}
use Rattle.c_tree.specs.Names.{Names}
use Rattle.c_grammar.specs.Tests.{sign_is, word_is, is_base, goes_on_type}
use Rattle.c_grammar.specs.Trees.{type_of, no_stars, one_star}
use Rattle.c_grammar.specs.Parts.{What, tree_of, Consts, Stars, TypeRest, TypeMore, AnyType}
use Rattle.c_grammar.specs.Grammar.{just, form}
use Rattle.c_tree.specs.declared.names.CType.{CType}
use Rattle.c_grammar.specs.Tables.{stop_of}
use Rattle.c_grammar.proofs.Classes.{is_within}
use Rattle.c_grammar.proofs.Samples.{a_sign, a_word}
use Rattle.c_grammar.proofs.Fitting.{Suits, Suited, suited, done, token, text, where_fits, widen}

pub fit_consts : (ns : Names) → Suited ns Consts
unfolding form
fit_consts ns = suited ns Consts (where_fits ns (word_is keyword.Const) (a_word keyword.Const) refl (λ t. text ns refl (λ u. done ns (t ∷ u)) (λ u. refl) (λ u. refl)) (done ns []) refl refl) refl (λ a e. e) refl

pub fit_stars : (ns : Names) (must : Bool) → Suited ns (Stars must)
unfolding form
fit_stars ns true = suited ns (Stars true)
    (token ns (sign_is sign.Star) (a_sign sign.Star) refl (λ t. text ns refl (λ u. text ns refl (λ s. done ns (one_star t u s)) (λ s. refl) (λ s. refl)) (λ u. refl) (λ u. refl))) refl (λ a e. e) refl
fit_stars ns false = suited ns (Stars false)
    (where_fits ns (sign_is sign.Star) (a_sign sign.Star) refl (λ t. text ns refl (λ u. text ns refl (λ s. done ns (one_star t u s)) (λ s. refl) (λ s. refl)) (λ u. refl) (λ u. refl))
    (done ns no_stars) refl refl) refl (λ a e. e) refl

pub fit_type_rest : (ns : Names) (u : Word) (t : Token) (must : Bool) → Suited ns (TypeRest u t must)
unfolding form
fit_type_rest ns u t true = suited ns (TypeRest u t true)
    (where_fits ns (word_is keyword.Const) (a_word keyword.Const) refl (λ c. text ns refl (λ v. text ns refl (λ s. done ns (type_of u t (c ∷ v) s)) (λ s. refl) (λ s. refl)) (λ v. refl) (λ v. tt))
    (text ns refl (λ s. done ns (type_of u t [] s)) (λ s. refl) (λ s. refl)) refl tt) refl (λ a e. e) refl
fit_type_rest ns u t false = suited ns (TypeRest u t false)
    (where_fits ns (word_is keyword.Const) (a_word keyword.Const) refl (λ c. text ns refl (λ v. text ns refl (λ s. done ns (type_of u t (c ∷ v) s)) (λ s. refl) (λ s. refl)) (λ v. refl) (λ v. refl))
    (text ns refl (λ s. done ns (type_of u t [] s)) (λ s. refl) (λ s. refl)) refl refl) refl (λ a e. e) refl

pub fit_type_more : (ns : Names) (u : Word) (t : Token) → Suited ns (TypeMore u t)
unfolding form
fit_type_more ns u t = suited ns (TypeMore u t)
    (where_fits ns (word_is keyword.Const) (a_word keyword.Const) refl (λ c. text ns refl (λ v. text ns refl (λ s. done ns (type_of u t (c ∷ v) s)) (λ s. refl) (λ s. refl)) (λ v. refl) (λ v. refl))
    (text ns refl (λ s. done ns (type_of u t [] s)) (λ s. refl) (λ s. refl)) refl tt) refl (λ a e. e) refl

-- what follows the base
pub fit_rest : (ns : Names) {r : What} (f : CType → tree_of r) (u : Word) (t : Token) (must : Bool) → is_within (stop_of r) (stop_of (TypeRest u t must)) ≡ true
    → Suits ns r true goes_on_type maybe nothing (just ns (TypeRest u t must) f)
fit_rest ns f u t true e = widen ns (text ns refl (λ c. done ns (f c)) (λ c. refl) (λ c. e)) refl (λ a e. tt) refl
fit_rest ns f u t false e = widen ns (text ns refl (λ c. done ns (f c)) (λ c. refl) (λ c. e)) refl (λ a e. tt) refl

pub fit_any_type : (ns : Names) (anyhow object : Bool) → Suited ns (AnyType anyhow object)
unfolding form
fit_any_type ns true object = suited ns (AnyType true object)
    (where_fits ns (word_is keyword.Const) (a_word keyword.Const) refl
    (λ t. text ns refl (λ u. token ns (is_base true) (a_word keyword.Void) refl (λ b. fit_rest ns (λ c. c) (t ∷ u) b _ refl)) (λ u. refl) (λ u. tt))
    (token ns (is_base true) (a_word keyword.Void) refl (λ b. fit_rest ns (λ c. c) [] b _ refl)) refl tt) refl (λ a e. e) refl
fit_any_type ns false object = suited ns (AnyType false object)
    (where_fits ns (word_is keyword.Const) (a_word keyword.Const) refl
    (λ t. text ns refl (λ u. token ns (is_base false) (a_word keyword.Void) refl (λ b. fit_rest ns (λ c. c) (t ∷ u) b _ refl)) (λ u. refl) (λ u. tt))
    (token ns (is_base false) (a_word keyword.Void) refl (λ b. fit_rest ns (λ c. c) [] b _ refl)) refl tt) refl (λ a e. e) refl
