-- Parameters by their steps.
use Rattle.std.proofs.Common.{◌≡◌, ℕ, List, [], ◌∷◌, ◌++◌, length, Option, Some, None}
use Rattle.predictive_grammar.specs.Steps.{◌>>=◌, pure}
use Rattle.predictive_grammar.specs.Reading.{walk}
use Rattle.vala_lexer.specs.Tokens.{Lexeme}
use Rattle.vala_tree.specs.declared.names.TypeTree.{TypeTree}
use Rattle.vala_tree.specs.declared.member.Parameter.{Parameter}
use Rattle.vala_grammar.specs.declared.sort.Sort.TheVariants as s
use Rattle.vala_grammar.specs.Parts as c
use Rattle.vala_file_grammar.specs.Trees as tree
use Rattle.vala_file_grammar.specs.Kinds.{sorted, one_of}
use Rattle.vala_file_grammar.specs.Parts as p
use Rattle.vala_file_grammar.specs.Grammar.{forms, is_type_sign}
use Rattle.vala_file_grammar.specs.Read.{file_reader}
use Rattle.vala_parse.specs.Steps.{got, leave, one, way}
use Rattle.vala_parse.proofs.Unfolds.{law}

pub parameters_law : (w : p.Owner) (l : ℕ) (i : List Lexeme) → file_reader (p.Parameters w) l i
    ≡ way (sorted s.CloseParen) (one s.CloseParen l >>= λ t. pure []) (file_reader (p.ParameterOf w) l >>= λ a. file_reader (p.MoreParameters w (a ∷ [])) l >>= pure) i
unfolding walk forms got
parameters_law w l i = law (p.Parameters w) l i

pub more_parameters_law : (w : p.Owner) (ps : List Parameter) (l : ℕ) (i : List Lexeme) → file_reader (p.MoreParameters w ps) l i
    ≡ way (sorted s.Comma) (got (sorted s.Comma) (length ps) l >>= λ t. file_reader (p.ParameterOf w) l >>= λ a. file_reader (p.MoreParameters w (ps ++ a ∷ [])) l >>= pure)
    (one s.CloseParen l >>= λ t. pure ps) i
unfolding walk forms got
more_parameters_law w ps l i = law (p.MoreParameters w ps) l i

pub plain_law : (l : ℕ) (i : List Lexeme) → file_reader (p.ParameterOf p.Plain) l i
    ≡ way (one_of (s.Out ∷ s.Ref ∷ [])) (got (one_of (s.Out ∷ s.Ref ∷ [])) 0 l >>= λ d. file_reader (p.ParameterType (Some d)) l >>= pure) (file_reader (p.ParameterType None) l >>= pure) i
unfolding walk forms got
plain_law l i = law (p.ParameterOf p.Plain) l i

pub async_law : (l : ℕ) (i : List Lexeme) → file_reader (p.ParameterOf p.Async) l i
    ≡ way (one_of (s.Out ∷ s.Ref ∷ [])) leave (file_reader (p.ParameterType None) l >>= pure) i
unfolding walk forms
async_law l i = law (p.ParameterOf p.Async) l i

pub signal_law : (l : ℕ) (i : List Lexeme) → file_reader (p.ParameterOf p.Signal) l i
    ≡ way (one_of (s.Out ∷ s.Ref ∷ s.Owned ∷ [])) leave
    (way (sorted s.Unowned) (one s.Unowned l >>= λ o. file_reader (p.Code (c.TypeBody (Some o))) l >>= λ y. file_reader (p.ParameterName None y) l >>= pure)
    (file_reader (p.Code (c.TypeBody None)) l >>= λ y. file_reader (p.ParameterName None y) l >>= pure)) i
unfolding walk forms got
signal_law l i = law (p.ParameterOf p.Signal) l i

pub typed_law : (d : Option Lexeme) (l : ℕ) (i : List Lexeme) → file_reader (p.ParameterType d) l i
    ≡ (file_reader (p.Code c.AnyType) l >>= λ y. file_reader (p.ParameterName d y) l >>= pure) i
unfolding walk forms
typed_law d l i = law (p.ParameterType d) l i

pub named_law : (d : Option Lexeme) (y : TypeTree) (l : ℕ) (i : List Lexeme) → file_reader (p.ParameterName d y) l i
    ≡ way is_type_sign leave (one s.Identifier l >>= λ n. way (sorted s.Assign) (one s.Assign l >>= λ e. file_reader (p.Code c.Whole) l >>= λ v. pure (tree.parameter_with d y n v))
    (pure (tree.parameter d y n))) i
unfolding walk forms got
named_law d y l i = law (p.ParameterName d y) l i
