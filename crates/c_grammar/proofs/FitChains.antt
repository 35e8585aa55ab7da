-- Chains and choices suit the tables.
use Rattle.std.proofs.Common.{◌≡◌, Bool, true, false, refl, [], ◌∷◌}
use Rattle.predictive_grammar.proofs.Fits.{nothing, either}
use Rattle.c_lexer.specs.declared.token.Sign.TheVariants as sign
use Rattle.c_tree.specs.Names.{Names}
use Rattle.c_grammar.specs.Tests.{sign_is, links, begins_prefixed}
use Rattle.c_tree.specs.declared.operators.Level.{Level}
use Rattle.c_tree.specs.declared.operators.Level.TheVariants as level
use Rattle.c_tree.specs.declared.code.Expr.{Expr}
use Rattle.c_tree.specs.Make.{link, choice, chained, conditional}
use Rattle.c_grammar.specs.Trees.{operator_in, with_prefixes}
use Rattle.c_grammar.specs.Parts.{Value, Choosing, ChoosingTail, Upto, Links, Operand}
use Rattle.c_grammar.specs.Grammar.{form}
use Rattle.c_grammar.proofs.Classes.{is_within}
use Rattle.c_grammar.proofs.Samples.{a_sign}
use Rattle.c_grammar.proofs.Fitting.{Suited, suited, done, token, text, where_fits}

pub first_same : (k : Bool) → is_within (either (begins_prefixed k) nothing) (begins_prefixed k) ≡ true
first_same true = refl
first_same false = refl

pub opens_same : (k : Bool) → is_within (begins_prefixed k) (begins_prefixed k) ≡ true
opens_same true = refl
opens_same false = refl

pub fit_value : (ns : Names) (k : Bool) → Suited ns (Value k)
unfolding form
fit_value ns k = suited ns (Value k) (text ns refl (λ r. done ns (conditional r.0 r.1)) (λ r. refl) (λ r. refl)) (first_same k) (λ a e. e) (opens_same k)

pub fit_choosing : (ns : Names) (k : Bool) → Suited ns (Choosing k)
unfolding form
fit_choosing ns k = suited ns (Choosing k) (text ns refl (λ o. text ns refl (λ r. done ns r) (λ r. refl) (λ r. refl)) (λ o. refl) (λ o. refl)) (first_same k) (λ a e. e) (opens_same k)

begins_within : (k : Bool) → is_within (either (begins_prefixed k) nothing) (λ c. true) ≡ true
begins_within true = refl
begins_within false = refl

pub fit_choosing_tail : (ns : Names) (k : Bool) (a : Expr) → Suited ns (ChoosingTail k a)
unfolding form
fit_choosing_tail ns k a = suited ns (ChoosingTail k a)
    (text ns refl
    (λ t. where_fits ns (sign_is sign.Question) (a_sign sign.Question) refl
    (λ q. text ns refl (λ b. token ns (sign_is sign.Colon) (a_sign sign.Colon) refl (λ s. text ns refl (λ r. done ns (choice t b ∷ r.0, r.1)) (λ r. refl) (λ r. refl))) (λ b. refl) (λ b. tt))
    (done ns ([], t)) refl refl)
    (λ t. refl) (λ t. refl)) refl (λ b e. e) refl

pub fit_upto : (ns : Names) (l : Level) (k : Bool) (a : Expr) → Suited ns (Upto l k a)
unfolding form
fit_upto ns level.Product k a = suited ns (Upto level.Product k a) (text ns refl (λ ls. done ns (chained a ls)) (λ ls. refl) (λ ls. refl)) refl (λ b e. e) refl
fit_upto ns level.Sum k a = suited ns (Upto level.Sum k a) (text ns refl (λ b. text ns refl (λ ls. done ns (chained b ls)) (λ ls. refl) (λ ls. refl)) (λ b. refl) (λ b. refl)) refl (λ b e. e) refl
fit_upto ns level.Shift k a = suited ns (Upto level.Shift k a) (text ns refl (λ b. text ns refl (λ ls. done ns (chained b ls)) (λ ls. refl) (λ ls. refl)) (λ b. refl) (λ b. refl)) refl (λ b e. e) refl
fit_upto ns level.Relation k a = suited ns (Upto level.Relation k a) (text ns refl (λ b. text ns refl (λ ls. done ns (chained b ls)) (λ ls. refl) (λ ls. refl)) (λ b. refl) (λ b. refl)) refl (λ b e. e) refl
fit_upto ns level.Equality k a = suited ns (Upto level.Equality k a) (text ns refl (λ b. text ns refl (λ ls. done ns (chained b ls)) (λ ls. refl) (λ ls. refl)) (λ b. refl) (λ b. refl)) refl (λ b e. e) refl
fit_upto ns level.BitAnd k a = suited ns (Upto level.BitAnd k a) (text ns refl (λ b. text ns refl (λ ls. done ns (chained b ls)) (λ ls. refl) (λ ls. refl)) (λ b. refl) (λ b. refl)) refl (λ b e. e) refl
fit_upto ns level.BitXor k a = suited ns (Upto level.BitXor k a) (text ns refl (λ b. text ns refl (λ ls. done ns (chained b ls)) (λ ls. refl) (λ ls. refl)) (λ b. refl) (λ b. refl)) refl (λ b e. e) refl
fit_upto ns level.BitOr k a = suited ns (Upto level.BitOr k a) (text ns refl (λ b. text ns refl (λ ls. done ns (chained b ls)) (λ ls. refl) (λ ls. refl)) (λ b. refl) (λ b. refl)) refl (λ b e. e) refl
fit_upto ns level.And k a = suited ns (Upto level.And k a) (text ns refl (λ b. text ns refl (λ ls. done ns (chained b ls)) (λ ls. refl) (λ ls. refl)) (λ b. refl) (λ b. refl)) refl (λ b e. e) refl
fit_upto ns level.Or k a = suited ns (Upto level.Or k a) (text ns refl (λ b. text ns refl (λ ls. done ns (chained b ls)) (λ ls. refl) (λ ls. refl)) (λ b. refl) (λ b. refl)) refl (λ b e. e) refl

pub fit_links : (ns : Names) (l : Level) (k : Bool) → Suited ns (Links l k)
unfolding form
fit_links ns level.Product k = suited ns (Links level.Product k)
    (where_fits ns (links level.Product) (a_sign sign.Star) refl (λ t. text ns refl (λ b. text ns refl (λ ls. done ns (link (operator_in t.terminal) b ∷ ls)) (λ ls. refl) (λ ls. refl)) (λ b. refl) (λ b. refl)) (done ns []) refl refl)
    refl (λ a e. e) refl
fit_links ns level.Sum k = suited ns (Links level.Sum k)
    (where_fits ns (links level.Sum) (a_sign sign.Plus) refl (λ t. text ns refl (λ b. text ns refl (λ ls. done ns (link (operator_in t.terminal) b ∷ ls)) (λ ls. refl) (λ ls. refl)) (λ b. refl) (λ b. refl)) (done ns []) refl refl)
    refl (λ a e. e) refl
fit_links ns level.Shift k = suited ns (Links level.Shift k)
    (where_fits ns (links level.Shift) (a_sign sign.ShiftLeft) refl (λ t. text ns refl (λ b. text ns refl (λ ls. done ns (link (operator_in t.terminal) b ∷ ls)) (λ ls. refl) (λ ls. refl)) (λ b. refl) (λ b. refl)) (done ns []) refl refl)
    refl (λ a e. e) refl
fit_links ns level.Relation k = suited ns (Links level.Relation k)
    (where_fits ns (links level.Relation) (a_sign sign.Less) refl (λ t. text ns refl (λ b. text ns refl (λ ls. done ns (link (operator_in t.terminal) b ∷ ls)) (λ ls. refl) (λ ls. refl)) (λ b. refl) (λ b. refl)) (done ns []) refl refl)
    refl (λ a e. e) refl
fit_links ns level.Equality k = suited ns (Links level.Equality k)
    (where_fits ns (links level.Equality) (a_sign sign.Equal) refl (λ t. text ns refl (λ b. text ns refl (λ ls. done ns (link (operator_in t.terminal) b ∷ ls)) (λ ls. refl) (λ ls. refl)) (λ b. refl) (λ b. refl)) (done ns []) refl refl)
    refl (λ a e. e) refl
fit_links ns level.BitAnd k = suited ns (Links level.BitAnd k)
    (where_fits ns (links level.BitAnd) (a_sign sign.Ampersand) refl (λ t. text ns refl (λ b. text ns refl (λ ls. done ns (link (operator_in t.terminal) b ∷ ls)) (λ ls. refl) (λ ls. refl)) (λ b. refl) (λ b. refl)) (done ns []) refl refl)
    refl (λ a e. e) refl
fit_links ns level.BitXor k = suited ns (Links level.BitXor k)
    (where_fits ns (links level.BitXor) (a_sign sign.Caret) refl (λ t. text ns refl (λ b. text ns refl (λ ls. done ns (link (operator_in t.terminal) b ∷ ls)) (λ ls. refl) (λ ls. refl)) (λ b. refl) (λ b. refl)) (done ns []) refl refl)
    refl (λ a e. e) refl
fit_links ns level.BitOr k = suited ns (Links level.BitOr k)
    (where_fits ns (links level.BitOr) (a_sign sign.Bar) refl (λ t. text ns refl (λ b. text ns refl (λ ls. done ns (link (operator_in t.terminal) b ∷ ls)) (λ ls. refl) (λ ls. refl)) (λ b. refl) (λ b. refl)) (done ns []) refl refl)
    refl (λ a e. e) refl
fit_links ns level.And k = suited ns (Links level.And k)
    (where_fits ns (links level.And) (a_sign sign.AndAnd) refl (λ t. text ns refl (λ b. text ns refl (λ ls. done ns (link (operator_in t.terminal) b ∷ ls)) (λ ls. refl) (λ ls. refl)) (λ b. refl) (λ b. refl)) (done ns []) refl refl)
    refl (λ a e. e) refl
fit_links ns level.Or k = suited ns (Links level.Or k)
    (where_fits ns (links level.Or) (a_sign sign.OrOr) refl (λ t. text ns refl (λ b. text ns refl (λ ls. done ns (link (operator_in t.terminal) b ∷ ls)) (λ ls. refl) (λ ls. refl)) (λ b. refl) (λ b. refl)) (done ns []) refl refl)
    refl (λ a e. e) refl

pub fit_operand : (ns : Names) (l : Level) (k : Bool) → Suited ns (Operand l k)
unfolding form
fit_operand ns level.Product k = suited ns (Operand level.Product k) (text ns refl (λ o. done ns (with_prefixes o)) (λ o. refl) (λ o. refl)) (first_same k) (λ a e. e) (opens_same k)
fit_operand ns level.Sum k = suited ns (Operand level.Sum k) (text ns refl (λ o. text ns refl (λ a. done ns a) (λ a. refl) (λ a. refl)) (λ o. refl) (λ o. refl)) (first_same k) (λ a e. e) (opens_same k)
fit_operand ns level.Shift k = suited ns (Operand level.Shift k) (text ns refl (λ o. text ns refl (λ a. done ns a) (λ a. refl) (λ a. refl)) (λ o. refl) (λ o. refl)) (first_same k) (λ a e. e) (opens_same k)
fit_operand ns level.Relation k = suited ns (Operand level.Relation k) (text ns refl (λ o. text ns refl (λ a. done ns a) (λ a. refl) (λ a. refl)) (λ o. refl) (λ o. refl)) (first_same k) (λ a e. e) (opens_same k)
fit_operand ns level.Equality k = suited ns (Operand level.Equality k) (text ns refl (λ o. text ns refl (λ a. done ns a) (λ a. refl) (λ a. refl)) (λ o. refl) (λ o. refl)) (first_same k) (λ a e. e) (opens_same k)
fit_operand ns level.BitAnd k = suited ns (Operand level.BitAnd k) (text ns refl (λ o. text ns refl (λ a. done ns a) (λ a. refl) (λ a. refl)) (λ o. refl) (λ o. refl)) (first_same k) (λ a e. e) (opens_same k)
fit_operand ns level.BitXor k = suited ns (Operand level.BitXor k) (text ns refl (λ o. text ns refl (λ a. done ns a) (λ a. refl) (λ a. refl)) (λ o. refl) (λ o. refl)) (first_same k) (λ a e. e) (opens_same k)
fit_operand ns level.BitOr k = suited ns (Operand level.BitOr k) (text ns refl (λ o. text ns refl (λ a. done ns a) (λ a. refl) (λ a. refl)) (λ o. refl) (λ o. refl)) (first_same k) (λ a e. e) (opens_same k)
fit_operand ns level.And k = suited ns (Operand level.And k) (text ns refl (λ o. text ns refl (λ a. done ns a) (λ a. refl) (λ a. refl)) (λ o. refl) (λ o. refl)) (first_same k) (λ a e. e) (opens_same k)
fit_operand ns level.Or k = suited ns (Operand level.Or k) (text ns refl (λ o. text ns refl (λ a. done ns a) (λ a. refl) (λ a. refl)) (λ o. refl) (λ o. refl)) (first_same k) (λ a e. e) (opens_same k)
