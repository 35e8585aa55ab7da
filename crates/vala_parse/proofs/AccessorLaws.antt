-- Accessors by their steps.
use Rattle.std.proofs.Common.{◌≡◌, ℕ, List, [], ◌∷◌, ◌++◌, Option, Some, None, refl}
use Rattle.predictive_grammar.specs.Steps.{◌>>=◌, pure}
use Rattle.predictive_grammar.specs.Reading.{walk}
use Rattle.vala_lexer.specs.Tokens.{Lexeme}
use Rattle.vala_lexer.specs.declared.token.Token.{Token}
use Rattle.vala_cursor.specs.Gets.{seen}
use Rattle.vala_tree.specs.declared.member.Accessor.{Accessor}
use Rattle.vala_tree.specs.declared.member.SetterWords.{SetterWords}
use Rattle.vala_tree.specs.declared.member.SetterWords.TheVariants as words
use Rattle.vala_grammar.specs.declared.sort.Sort.TheVariants as s
use Rattle.vala_grammar.specs.Parts as c
use Rattle.vala_file_grammar.specs.declared.kind.Special.TheVariants as special
use Rattle.vala_file_grammar.specs.Trees as tree
use Rattle.vala_file_grammar.specs.Kinds.{sorted, word}
use Rattle.vala_file_grammar.specs.Parts as p
use Rattle.vala_file_grammar.specs.Heads.{is_modifier}
use Rattle.vala_file_grammar.specs.Grammar.{forms, getter, setter}
use Rattle.vala_file_grammar.specs.Read.{file_reader}
use Rattle.vala_parse.specs.Steps.{got, leave, one, reads, way}
use Rattle.vala_parse.specs.Declarations as rest
use Rattle.vala_parse.proofs.Unfolds.{law}

pub accessors_law : (xs : List Accessor) (l : ℕ) (i : List Lexeme) → file_reader (p.Accessors xs) l i
    ≡ way (sorted s.New) leave (way (sorted s.CloseBrace) (one s.CloseBrace l >>= λ z. pure (tree.closed xs z))
    (file_reader p.AccessorOf l >>= λ a. file_reader (p.Accessors (xs ++ a ∷ [])) l >>= pure)) i
unfolding walk forms got
accessors_law xs l i = law (p.Accessors xs) l i

pub accessor_law : (l : ℕ) (i : List Lexeme) → file_reader p.AccessorOf l i
    ≡ way is_modifier (got is_modifier 0 l >>= λ m. file_reader (p.AccessorWords (Some m)) l >>= pure)
    (way (sorted s.Default) (one s.Default l >>= λ t. reads (rest.default_of t) l) (file_reader (p.AccessorWords None) l >>= pure)) i
unfolding walk forms got
accessor_law l i = law p.AccessorOf l i

pub default_law : (t : Lexeme) (l : ℕ) (i : List Lexeme) → reads (rest.default_of t) l i
    ≡ (one s.Assign l >>= λ e. file_reader (p.Code c.Whole) l >>= λ v. one s.Semicolon l >>= λ z. pure (tree.default_value t v z)) i
unfolding walk got
default_law t l i = refl

pub accessor_words_law : (m : Option Lexeme) (l : ℕ) (i : List Lexeme) → file_reader (p.AccessorWords m) l i
    ≡ way (sorted s.Owned) (one s.Owned l >>= λ o. got (word special.Get) 0 l >>= λ t. reads (getter {m = m} (Some o) t) l)
    (way (word special.Get) (got (word special.Get) 0 l >>= λ t. reads (getter {m = m} None t) l) (reads (rest.setter_words m) l)) i
unfolding walk forms got
accessor_words_law m l i = law (p.AccessorWords m) l i

pub setter_words_law : (m : Option Lexeme) (l : ℕ) (i : List Lexeme) → reads (rest.setter_words m) l i
    ≡ way (word special.Set) (got (word special.Set) 0 l >>= λ t. reads (rest.set_words m t) l) (one s.Construct l >>= λ t. reads (rest.construct_words m t) l) i
unfolding walk got
setter_words_law m l i = refl

-- for tokens, since the words hold no more of them than their places
pub set_words_law : (m : Option Lexeme) (t : Token) (l : ℕ) (i : List Lexeme) → reads (rest.set_words m (seen t)) l i
    ≡ way (sorted s.Construct) (one s.Construct l >>= λ u. reads (setter {m = m} (seen t) (words.SetConstruct t.span u.span)) l) (reads (setter {m = m} (seen t) (words.Set t.span)) l) i
unfolding walk got
set_words_law m t l i = refl

pub construct_words_law : (m : Option Lexeme) (t : Token) (l : ℕ) (i : List Lexeme) → reads (rest.construct_words m (seen t)) l i
    ≡ way (word special.Set) (got (word special.Set) 0 l >>= λ u. reads (setter {m = m} (seen t) (words.ConstructSet t.span u.span)) l) (reads (setter {m = m} (seen t) (words.Construct t.span)) l) i
unfolding walk got
construct_words_law m t l i = refl

pub getter_law : (m o : Option Lexeme) (t : Lexeme) (l : ℕ) (i : List Lexeme) → reads (getter {m = m} o t) l i ≡ (file_reader (p.BodyOf p.Accessing) l >>= λ b. pure (tree.getter m o t b)) i
unfolding walk
getter_law m o t l i = refl

pub setter_law : (m : Option Lexeme) (t : Lexeme) (ws : SetterWords) (l : ℕ) (i : List Lexeme) → reads (setter {m = m} t ws) l i
    ≡ (file_reader (p.BodyOf p.Accessing) l >>= λ b. pure (tree.setter m t ws b)) i
unfolding walk
setter_law m t ws l i = refl
