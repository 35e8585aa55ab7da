-- Lists of types by their steps.
use Rattle.std.proofs.Common.{◌≡◌, ℕ, Bool, true, false, List, [], ◌∷◌, ◌++◌, if◌then◌else◌, Ok, Err, refl, ◌∙◌}
use Rattle.predictive_grammar.specs.Steps.{Outcome, and_then, ◌>>=◌, pure, LeftOut}
use Rattle.predictive_grammar.specs.Reading.{walk}
use Rattle.vala_lexer.specs.Tokens.{Lexeme}
use Rattle.vala_tree.specs.declared.names.TypeTree.{TypeTree}
use Rattle.vala_grammar.specs.declared.sort.Sort.TheVariants as s
use Rattle.vala_grammar.specs.Label.{Label, Here}
use Rattle.vala_grammar.specs.Parts as c
use Rattle.vala_file_grammar.specs.Kinds.{sorted}
use Rattle.vala_file_grammar.specs.Parts as p
use Rattle.vala_file_grammar.specs.Grammar.{forms, is_type_sign}
use Rattle.vala_file_grammar.specs.Read.{file_reader}
use Rattle.vala_parse.specs.Steps.{got, leave, next, one, way}
use Rattle.vala_parse.specs.Declarations as rest
use Rattle.vala_parse.proofs.Unfolds.{law}

pub bases_law : (l : ℕ) (i : List Lexeme) → file_reader p.Bases l i
    ≡ way (sorted s.Colon) (one s.Colon l >>= λ t. file_reader (p.TypeList []) l >>= pure) (pure []) i
unfolding walk forms got
bases_law l i = law p.Bases l i

pub throws_law : (l : ℕ) (i : List Lexeme) → file_reader p.ThrowsOf l i
    ≡ way (sorted s.Throws) (one s.Throws l >>= λ t. file_reader (p.TypeList []) l >>= pure) (pure []) i
unfolding walk forms got
throws_law l i = law p.ThrowsOf l i

pub types_behind_law : (ys : List TypeTree) (l : ℕ) (i : List Lexeme) → rest.types_behind ys l i
    ≡ way (sorted s.Comma) (one s.Comma l >>= λ t. file_reader (p.TypeList ys) l >>= pure) (pure ys) i
unfolding rest.types_behind
types_behind_law ys l i = refl

pub type_list_law : (ys : List TypeTree) (l : ℕ) (i : List Lexeme) → file_reader (p.TypeList ys) l i
    ≡ (rest.listed_type l >>= λ y. rest.types_behind (ys ++ y ∷ []) l) i
unfolding walk forms got rest.listed_type rest.types_behind
type_list_law ys l i = law (p.TypeList ys) l i ∙ go (file_reader (p.Code c.AnyType) l i)
  where
    behind : (y : TypeTree) (b : Bool) (j : List Lexeme)
        → (if b then Err (LeftOut Here, j) else rest.types_behind (ys ++ y ∷ []) l j) ≡ and_then (if b then Err (LeftOut Here, j) else Ok (y, j)) (λ y. rest.types_behind (ys ++ y ∷ []) l)
    behind y true j = refl
    behind y false j = refl

    go : (o : Outcome Label Lexeme TypeTree)
        → and_then o (λ y. way is_type_sign leave (rest.types_behind (ys ++ y ∷ []) l)) ≡ and_then (and_then o (λ y. way is_type_sign leave (pure y))) (λ y. rest.types_behind (ys ++ y ∷ []) l)
    go (Ok x) = behind x.0 (next is_type_sign x.1) x.1
    go (Err e) = refl
