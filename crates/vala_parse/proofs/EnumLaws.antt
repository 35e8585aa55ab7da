-- Enums and error domains by their steps.
use Rattle.std.proofs.Common.{◌≡◌, ℕ, suc, List, [], ◌∷◌, ◌++◌, Ok, Err, refl, ◌∙◌}
use Rattle.predictive_grammar.specs.Steps.{Outcome, and_then, ◌>>=◌, pure}
use Rattle.predictive_grammar.specs.Reading.{walk}
use Rattle.vala_lexer.specs.Tokens.{Lexeme}
use Rattle.vala_tree.specs.declared.names.Identifier.{Identifier}
use Rattle.vala_tree.specs.declared.member.EnumMember.{EnumMember}
use Rattle.vala_grammar.specs.declared.sort.Sort.TheVariants as s
use Rattle.vala_grammar.specs.Label.{Label}
use Rattle.vala_grammar.specs.Trees as code
use Rattle.vala_grammar.specs.Parts as c
use Rattle.vala_file_grammar.specs.Trees as tree
use Rattle.vala_file_grammar.specs.Kinds.{sorted}
use Rattle.vala_file_grammar.specs.Parts as p
use Rattle.vala_file_grammar.specs.Grammar.{forms}
use Rattle.vala_file_grammar.specs.Read.{file_reader}
use Rattle.vala_parse.specs.Steps.{got, one, way}
use Rattle.vala_parse.specs.Declarations as rest
use Rattle.vala_parse.proofs.Unfolds.{law}
use Rattle.vala_cursor.proofs.Steps.{just}

pub enumeration_law : (t : Lexeme) (l : ℕ) (i : List Lexeme) → file_reader (p.EnumOf t) l i
    ≡ (file_reader (p.Code c.Name) l >>= λ n. one s.OpenBrace l >>= λ o. file_reader (p.EnumItems []) (suc l) >>= λ xs. pure (tree.enumeration t n xs)) i
unfolding walk forms got
enumeration_law t l i = law (p.EnumOf t) l i

pub enum_items_law : (xs : List EnumMember) (l : ℕ) (i : List Lexeme) → file_reader (p.EnumItems xs) l i
    ≡ way (sorted s.CloseBrace) (one s.CloseBrace l >>= λ z. pure (tree.closed xs z)) (file_reader p.EnumItem l >>= λ m. file_reader (p.MoreEnumItems (xs ++ m ∷ [])) l >>= pure) i
unfolding walk forms got
enum_items_law xs l i = law (p.EnumItems xs) l i

pub more_enum_items_law : (xs : List EnumMember) (l : ℕ) (i : List Lexeme) → file_reader (p.MoreEnumItems xs) l i
    ≡ way (sorted s.Comma) (one s.Comma l >>= λ t. file_reader (p.EnumItems xs) l >>= pure) (one s.CloseBrace l >>= λ z. pure (tree.closed xs z)) i
unfolding walk forms got
more_enum_items_law xs l i = law (p.MoreEnumItems xs) l i

pub enum_item_law : (l : ℕ) (i : List Lexeme) → file_reader p.EnumItem l i
    ≡ (one s.Identifier l >>= λ t. way (sorted s.Assign) (one s.Assign l >>= λ e. file_reader (p.Code c.Whole) l >>= λ v. pure (tree.enum_member_with t v)) (pure (tree.enum_member t))) i
unfolding walk forms got
enum_item_law l i = law p.EnumItem l i

pub error_domain_law : (t : Lexeme) (l : ℕ) (i : List Lexeme) → file_reader (p.ErrorsOf t) l i
    ≡ (file_reader (p.Code c.Name) l >>= λ n. one s.OpenBrace l >>= λ o. file_reader (p.ErrorCodes []) (suc l) >>= λ xs. pure (tree.error_domain t n xs)) i
unfolding walk forms got
error_domain_law t l i = law (p.ErrorsOf t) l i

pub codes_law : (xs : List Identifier) (l : ℕ) (i : List Lexeme) → file_reader (p.ErrorCodes xs) l i
    ≡ (rest.error_code_of l >>= λ a. file_reader (p.MoreErrorCodes (xs ++ a ∷ [])) l) i
unfolding walk forms got rest.error_code_of
codes_law xs l i = law (p.ErrorCodes xs) l i ∙ go (one s.Identifier l i)
  where
    go : (o : Outcome Label Lexeme Lexeme) → and_then o (λ t. file_reader (p.MoreErrorCodes (xs ++ code.identifier t ∷ [])) l >>= pure)
        ≡ and_then (and_then o (λ t. pure (code.identifier t))) (λ a. file_reader (p.MoreErrorCodes (xs ++ a ∷ [])) l)
    go (Ok x) = just (file_reader (p.MoreErrorCodes (xs ++ code.identifier x.0 ∷ [])) l x.1)
    go (Err e) = refl

pub more_codes_law : (xs : List Identifier) (l : ℕ) (i : List Lexeme) → file_reader (p.MoreErrorCodes xs) l i
    ≡ way (sorted s.Comma) (one s.Comma l >>= λ t. file_reader (p.NextErrorCode xs) l >>= pure) (one s.CloseBrace l >>= λ z. pure (tree.closed xs z)) i
unfolding walk forms got
more_codes_law xs l i = law (p.MoreErrorCodes xs) l i

pub next_code_law : (xs : List Identifier) (l : ℕ) (i : List Lexeme) → file_reader (p.NextErrorCode xs) l i
    ≡ way (sorted s.CloseBrace) (one s.CloseBrace l >>= λ z. pure (tree.closed xs z)) (file_reader (p.ErrorCodes xs) l >>= pure) i
unfolding walk forms got
next_code_law xs l i = law (p.NextErrorCode xs) l i
