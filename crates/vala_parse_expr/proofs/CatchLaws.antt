-- A clause with a type, by its steps.
use Rattle.std.proofs.Common.{◌≡◌, ◌∙◌, ℕ, suc, true, false, List, Ok, Err, ap, refl, sym}
use Rattle.predictive_grammar.specs.Steps.{Outcome, LeftOut, and_then, ◌>>=◌, pure}
use Rattle.predictive_grammar.specs.Reading.{walk}
use Rattle.vala_lexer.specs.Tokens.{Lexeme}
use Rattle.vala_tree.specs.declared.names.TypeTree.{TypeTree}
use Rattle.vala_grammar.specs.declared.sort.Sort.TheVariants as s
use Rattle.vala_grammar.specs.Parts as p
use Rattle.vala_grammar.specs.Tests.{is_type_sign}
use Rattle.vala_grammar.specs.Trees as tree
use Rattle.vala_grammar.specs.Read.{vala_reader}
use Rattle.vala_grammar.specs.Label.{Label, Here}
use Rattle.vala_cursor.specs.Ahead.{reads}
use Rattle.vala_cursor.specs.Gets.{got, one, way, leave, next}
use Rattle.vala_cursor.proofs.Steps.{first_way, other_way}
use Rattle.vala_parse_expr.specs.Statements.{catch_form, catch_name}

pub catch_one_law : (t : Lexeme) (l : ℕ) (i : List Lexeme) → reads (catch_form t) l i ≡ (vala_reader p.AnyType (suc l) >>= λ y. way is_type_sign leave (reads (catch_name t y) l)) i
unfolding walk got
catch_one_law t l i = refl

-- what is read up to behind the type
typed : (t : Lexeme) (y : TypeTree) (l above : ℕ) (i j : List Lexeme) → vala_reader p.AnyType above i ≡ Ok (y, j) → above ≡ suc l → reads (catch_form t) l i ≡ way is_type_sign leave (reads (catch_name t y) l) j
typed t y l above i j type up =
    catch_one_law t l i
    ∙ ap (λ (n : ℕ). and_then (vala_reader p.AnyType n i) (λ y. way is_type_sign leave (reads (catch_name t y) l))) (sym up)
    ∙ ap (λ (o : Outcome Label Lexeme TypeTree). and_then o (λ y. way is_type_sign leave (reads (catch_name t y) l))) type

-- a sign behind the type begins what the profile leaves out
pub catch_left_out : (t : Lexeme) (y : TypeTree) (l above : ℕ) (i j : List Lexeme) → vala_reader p.AnyType above i ≡ Ok (y, j) → next is_type_sign j ≡ true → above ≡ suc l
    → reads (catch_form t) l i ≡ Err (LeftOut Here, j)
catch_left_out t y l above i j type sign up = typed t y l above i j type up ∙ first_way (next is_type_sign j) (Err (LeftOut Here, j)) (reads (catch_name t y) l j) sign

-- with no such sign the name follows
pub catch_goes_on : (t : Lexeme) (y : TypeTree) (l above : ℕ) (i j : List Lexeme) → vala_reader p.AnyType above i ≡ Ok (y, j) → next is_type_sign j ≡ false → above ≡ suc l
    → reads (catch_form t) l i ≡ reads (catch_name t y) l j
catch_goes_on t y l above i j type sign up = typed t y l above i j type up ∙ other_way (next is_type_sign j) (Err (LeftOut Here, j)) (reads (catch_name t y) l j) sign

pub catch_name_law : (t : Lexeme) (y : TypeTree) (l : ℕ) (i : List Lexeme) → reads (catch_name t y) l i
    ≡ (one s.Identifier (suc l) >>= λ x. one s.CloseParen (suc l) >>= λ q. vala_reader p.BlockOf l >>= λ b. pure (tree.catch_one t y x b)) i
unfolding walk got
catch_name_law t y l i = refl
