-- Attributes by their steps.
use Rattle.std.proofs.Common.{◌≡◌, ℕ, suc, Bool, true, false, List, [], ◌∷◌, ◌++◌, if◌then◌else◌, Ok, Err, refl, ◌∙◌}
use Rattle.predictive_grammar.specs.Steps.{Outcome, Parser, and_then, ◌>>=◌, pure, LeftOut}
use Rattle.predictive_grammar.specs.Reading.{walk}
use Rattle.vala_lexer.specs.Tokens.{Lexeme}
use Rattle.vala_tree.specs.declared.member.AttributeArgument.{AttributeArgument}
use Rattle.vala_grammar.specs.declared.sort.Sort.TheVariants as s
use Rattle.vala_grammar.specs.Label.{Label, Here}
use Rattle.vala_file_grammar.specs.declared.kind.Special.TheVariants as special
use Rattle.vala_file_grammar.specs.Trees as tree
use Rattle.vala_file_grammar.specs.Kinds.{sorted, word, is_c_text}
use Rattle.vala_file_grammar.specs.Parts as p
use Rattle.vala_file_grammar.specs.Grammar.{forms, is_other_name, is_other_text}
use Rattle.vala_file_grammar.specs.Read.{file_reader}
use Rattle.vala_parse.specs.Steps.{got, leave, next, one, way}
use Rattle.vala_parse.specs.Names.{c_text_of}
use Rattle.vala_parse.specs.Declarations as rest
use Rattle.vala_parse.proofs.Unfolds.{law}
use Rattle.vala_cursor.proofs.Steps.{bind, just}

pub attribute_law : (l : ℕ) (i : List Lexeme) → file_reader p.AttributeOf l i ≡ (one s.OpenBracket l >>= λ o. file_reader (p.AttributeBody o) (suc l) >>= pure) i
unfolding walk forms got
attribute_law l i = law p.AttributeOf l i

pub attribute_body_law : (o : Lexeme) (l : ℕ) (i : List Lexeme) → file_reader (p.AttributeBody o) l i
    ≡ way (is_other_name (special.CCode ∷ [])) leave
    (got (word special.CCode) 0 l >>= λ n. one s.OpenParen l >>= λ q. file_reader (p.AttributeArguments []) (suc l) >>= λ xs. one s.CloseBracket l >>= λ z. pure (tree.attribute o xs z)) i
unfolding walk forms got
attribute_body_law o l i = law (p.AttributeBody o) l i

pub more_arguments_law : (xs : List AttributeArgument) (l : ℕ) (i : List Lexeme) → file_reader (p.MoreAttributeArguments xs) l i
    ≡ way (sorted s.Comma) (one s.Comma l >>= λ t. file_reader (p.AttributeArguments xs) l >>= pure) (one s.CloseParen l >>= λ z. pure xs) i
unfolding walk forms got
more_arguments_law xs l i = law (p.MoreAttributeArguments xs) l i

-- what goes on with an argument
module _ (xs : List AttributeArgument) (l : ℕ) where
  abbrev goes_on : AttributeArgument → Parser Label Lexeme (List AttributeArgument)
  goes_on a = file_reader (p.MoreAttributeArguments (xs ++ a ∷ [])) l

  text_then : (n : Lexeme) (o : Outcome Label Lexeme Lexeme)
      → and_then o (λ t. goes_on (tree.attribute_argument n t) >>= pure) ≡ and_then (and_then o (λ t. pure (tree.attribute_argument n t))) goes_on
  text_then n (Ok x) = just (goes_on (tree.attribute_argument n x.0) x.1)
  text_then n (Err e) = refl

  sign_then : (n : Lexeme) (r : Parser Label Lexeme Lexeme) (o : Outcome Label Lexeme Lexeme)
      → and_then o (λ e. r >>= λ t. goes_on (tree.attribute_argument n t) >>= pure) ≡ and_then (and_then o (λ e. r >>= λ t. pure (tree.attribute_argument n t))) goes_on
  sign_then n r (Ok x) = text_then n (r x.1)
  sign_then n r (Err e) = refl

  c_text_then : (n : Lexeme) (j : List Lexeme)
      → way is_other_text leave (got is_c_text 0 l >>= λ t. goes_on (tree.attribute_argument n t) >>= pure) j ≡ (c_text_of l >>= λ t. goes_on (tree.attribute_argument n t) >>= pure) j
  unfolding c_text_of
  c_text_then n j = go (next is_other_text j)
    where
      go : (b : Bool) → (if b then Err (LeftOut Here, j) else and_then (got is_c_text 0 l j) (λ t. goes_on (tree.attribute_argument n t) >>= pure))
          ≡ and_then (if b then Err (LeftOut Here, j) else got is_c_text 0 l j) (λ t. goes_on (tree.attribute_argument n t) >>= pure)
      go true = refl
      go false = refl

  file_name_then : (o : Outcome Label Lexeme Lexeme)
      → and_then o (λ n. one s.Assign l >>= λ e. one s.Text l >>= λ t. goes_on (tree.attribute_argument n t) >>= pure) ≡ and_then (and_then o (λ n. rest.file_name_of n l)) goes_on
  unfolding rest.file_name_of
  file_name_then (Ok x) = sign_then x.0 (one s.Text l) (one s.Assign l x.1)
  file_name_then (Err e) = refl

  c_name_then : (o : Outcome Label Lexeme Lexeme)
      → and_then o (λ n. one s.Assign l >>= λ e. way is_other_text leave (got is_c_text 0 l >>= λ t. goes_on (tree.attribute_argument n t) >>= pure)) ≡ and_then (and_then o (λ n. rest.c_name_of n l)) goes_on
  unfolding rest.c_name_of
  c_name_then (Ok x) = bind (one s.Assign l x.1) _ _ (λ e j. c_text_then x.0 j) ∙ sign_then x.0 (c_text_of l) (one s.Assign l x.1)
  c_name_then (Err e) = refl

  ways_then : (a b : Bool) (j : List Lexeme) (f g : Outcome Label Lexeme (List AttributeArgument)) (h k : Outcome Label Lexeme AttributeArgument) → f ≡ and_then h goes_on → g ≡ and_then k goes_on
      → (if a then Err (LeftOut Here, j) else if b then f else g) ≡ and_then (if a then Err (LeftOut Here, j) else if b then h else k) goes_on
  ways_then true b j f g h k d e = refl
  ways_then false true j f g h k d e = d
  ways_then false false j f g h k d e = e

pub arguments_law : (xs : List AttributeArgument) (l : ℕ) (i : List Lexeme) → file_reader (p.AttributeArguments xs) l i
    ≡ (rest.argument_of l >>= λ a. file_reader (p.MoreAttributeArguments (xs ++ a ∷ [])) l) i
unfolding walk forms got rest.argument_of
arguments_law xs l i = law (p.AttributeArguments xs) l i
    ∙ ways_then xs l (next (is_other_name (special.HeaderFilename ∷ special.CName ∷ [])) i) (next (word special.HeaderFilename) i) i _ _ _ _
    (file_name_then xs l (got (word special.HeaderFilename) 0 l i)) (c_name_then xs l (got (word special.CName) 0 l i))
