-- Declarations that a word begins, by their steps.
use Rattle.std.proofs.Common.{◌≡◌, ℕ, suc, List, [], ◌∷◌, refl}
use Rattle.predictive_grammar.specs.Steps.{◌>>=◌, pure}
use Rattle.predictive_grammar.specs.Reading.{walk}
use Rattle.vala_lexer.specs.Tokens.{Lexeme}
use Rattle.vala_tree.specs.declared.names.TypeTree.{TypeTree}
use Rattle.vala_grammar.specs.declared.sort.Sort.TheVariants as s
use Rattle.vala_grammar.specs.Parts as c
use Rattle.vala_file_grammar.specs.Trees as tree
use Rattle.vala_file_grammar.specs.Kinds.{sorted, one_of, named}
use Rattle.vala_file_grammar.specs.Parts as p
use Rattle.vala_file_grammar.specs.Grammar.{forms, is_type_sign}
use Rattle.vala_file_grammar.specs.Read.{file_reader}
use Rattle.vala_parse.specs.Steps.{got, leave, one, reads, way}
use Rattle.vala_parse.specs.Declarations as rest
use Rattle.vala_parse.proofs.Unfolds.{law}

pub delegate_law : (t : Lexeme) (l : ℕ) (i : List Lexeme) → file_reader (p.DelegateOf t) l i ≡ (file_reader (p.Code c.AnyType) l >>= λ y. reads (rest.delegate_named t y) l) i
unfolding walk forms
delegate_law t l i = law (p.DelegateOf t) l i

pub delegate_named_law : (t : Lexeme) (y : TypeTree) (l : ℕ) (i : List Lexeme) → reads (rest.delegate_named t y) l i
    ≡ way is_type_sign leave (one s.Identifier l >>= λ n. one s.OpenParen l >>= λ q. reads (rest.delegate_behind t y n) l) i
unfolding walk got
delegate_named_law t y l i = refl

pub delegate_behind_law : (t : Lexeme) (y : TypeTree) (n : Lexeme) (l : ℕ) (i : List Lexeme) → reads (rest.delegate_behind t y n) l i
    ≡ (file_reader (p.Parameters p.Plain) (suc l) >>= λ ps. file_reader p.ThrowsOf l >>= λ ts. one s.Semicolon l >>= λ z. pure (tree.delegate t (tree.signature y n ps ts) z)) i
unfolding walk got
delegate_behind_law t y n l i = refl

pub constant_law : (t : Lexeme) (l : ℕ) (i : List Lexeme) → file_reader (p.ConstantOf t) l i ≡ (file_reader (p.Code c.AnyType) l >>= λ y. reads (rest.constant_named t y) l) i
unfolding walk forms
constant_law t l i = law (p.ConstantOf t) l i

pub constant_named_law : (t : Lexeme) (y : TypeTree) (l : ℕ) (i : List Lexeme) → reads (rest.constant_named t y) l i
    ≡ way is_type_sign leave (one s.Identifier l >>= λ n. one s.Assign l >>= λ e. reads (rest.constant_behind t y n) l) i
unfolding walk got
constant_named_law t y l i = refl

pub constant_behind_law : (t : Lexeme) (y : TypeTree) (n : Lexeme) (l : ℕ) (i : List Lexeme) → reads (rest.constant_behind t y n) l i
    ≡ way (sorted s.OpenBrace) leave (file_reader (p.Code c.Whole) l >>= λ v. one s.Semicolon l >>= λ z. pure (tree.constant t y n v z)) i
unfolding walk got
constant_behind_law t y n l i = refl

pub destructor_law : (w : List ℕ) (t : Lexeme) (l : ℕ) (i : List Lexeme) → file_reader (p.DestructorOf w t) l i
    ≡ (got (named w) 0 l >>= λ n. one s.OpenParen l >>= λ q. one s.CloseParen (suc l) >>= λ r. file_reader (p.Code c.BlockOf) l >>= λ b. pure (tree.destructor t n b)) i
unfolding walk forms got
destructor_law w t l i = law (p.DestructorOf w t) l i

pub signal_law : (t : Lexeme) (l : ℕ) (i : List Lexeme) → file_reader (p.SignalOf t) l i
    ≡ way (one_of (s.Owned ∷ s.Unowned ∷ s.Identifier ∷ [])) leave (one s.Void l >>= λ v. reads (rest.signal_named t) l) i
unfolding walk forms got
signal_law t l i = law (p.SignalOf t) l i

pub signal_named_law : (t : Lexeme) (l : ℕ) (i : List Lexeme) → reads (rest.signal_named t) l i
    ≡ way is_type_sign leave (one s.Identifier l >>= λ n. one s.OpenParen l >>= λ q.
    file_reader (p.Parameters p.Signal) (suc l) >>= λ ps. file_reader (p.BodyOf p.Method) l >>= λ b. pure (tree.signal t n ps b)) i
unfolding walk got
signal_named_law t l i = refl
