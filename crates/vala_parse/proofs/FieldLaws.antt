-- Structs and their fields by their steps.
use Rattle.vala_file_grammar.specs.Heads.{any_follows, may_follow_in_struct}
use Rattle.std.proofs.Common.{◌≡◌, ℕ, suc, List, [], ◌∷◌, ◌++◌, None, refl, ◌∙◌}
use Rattle.predictive_grammar.specs.Steps.{◌>>=◌, pure}
use Rattle.predictive_grammar.specs.Reading.{walk}
use Rattle.vala_lexer.specs.Tokens.{Lexeme}
use Rattle.vala_tree.specs.declared.names.TypeTree.{TypeTree}
use Rattle.vala_tree.specs.declared.member.Modifier.{Modifier}
use Rattle.vala_tree.specs.declared.member.Member.{Member}
use Rattle.vala_grammar.specs.declared.sort.Sort.TheVariants as s
use Rattle.vala_grammar.specs.Parts as c
use Rattle.vala_file_grammar.specs.Trees as tree
use Rattle.vala_file_grammar.specs.Kinds.{sorted, one_of}
use Rattle.vala_file_grammar.specs.Parts as p
use Rattle.vala_file_grammar.specs.Grammar.{forms, is_type_sign, just, as_it_is}
use Rattle.vala_file_grammar.specs.Read.{file_reader}
use Rattle.vala_parse.specs.Steps.{got, leave, one, reads, way}
use Rattle.vala_parse.specs.Declarations as rest
use Rattle.vala_file_grammar.proofs.Where.{none_follows_in_struct}
use Rattle.vala_parse.proofs.Unfolds.{law}
use Rattle.vala_file_grammar.proofs.Readers.{walk_some}

pub structure_law : (t : Lexeme) (l : ℕ) (i : List Lexeme) → file_reader (p.StructOf t) l i
    ≡ (file_reader (p.Code c.Name) l >>= λ n. one s.OpenBrace l >>= λ o. file_reader (p.Fields []) (suc l) >>= λ ms. pure (tree.structure t n ms)) i
unfolding walk forms got
structure_law t l i = law (p.StructOf t) l i

pub fields_law : (ms : List Member) (l : ℕ) (i : List Lexeme) → file_reader (p.Fields ms) l i
    ≡ way (sorted s.New) leave (way (sorted s.CloseBrace) (one s.CloseBrace l >>= λ z. pure (tree.closed ms z))
    (file_reader (p.FieldOf []) l >>= λ m. file_reader (p.Fields (ms ++ m ∷ [])) l >>= pure)) i
unfolding walk forms got
fields_law ms l i = law (p.Fields ms) l i

pub field_law : (ms : List Modifier) (l : ℕ) (i : List Lexeme) → file_reader (p.FieldOf ms) l i
    ≡ way (may_follow_in_struct ms) (got (may_follow_in_struct ms) 0 l >>= λ t. file_reader (p.MoreField (ms ++ tree.modifier t ∷ [])) l >>= pure) (reads (rest.field_behind ms) l) i
unfolding walk forms got
field_law ms l i = law (p.FieldOf ms) l i
    ∙ walk_some file_reader (p.FieldOf ms) (any_follows may_follow_in_struct ms) (may_follow_in_struct ms) (λ t. just (p.MoreField (ms ++ tree.modifier t ∷ [])) as_it_is) (rest.field_behind ms) l i
    (λ e y. none_follows_in_struct ms y e)

pub more_field_law : (ms : List Modifier) (l : ℕ) (i : List Lexeme) → file_reader (p.MoreField ms) l i ≡ way (sorted s.New) leave (file_reader (p.FieldOf ms) l >>= pure) i
unfolding walk forms
more_field_law ms l i = law (p.MoreField ms) l i

pub field_behind_law : (ms : List Modifier) (l : ℕ) (i : List Lexeme) → reads (rest.field_behind ms) l i ≡ (file_reader (p.Code c.AnyType) l >>= λ y. reads (rest.field_named ms y) l) i
unfolding walk
field_behind_law ms l i = refl

pub field_named_law : (ms : List Modifier) (y : TypeTree) (l : ℕ) (i : List Lexeme) → reads (rest.field_named ms y) l i
    ≡ way is_type_sign leave (one s.Identifier l >>= λ n. way (one_of (s.OpenParen ∷ s.Assign ∷ [])) leave (one s.Semicolon l >>= λ z. pure (tree.member [] ms (tree.field y n None z)))) i
unfolding walk got
field_named_law ms y l i = refl
