-- Operands and what follows them by their steps.
use Rattle.std.proofs.Common.{◌≡◌, ℕ, suc, Bool, List, [], ◌∷◌, ◌++◌, length, if◌then◌else◌, Option, Some, None, Ok, refl, ◌∙◌}
use Rattle.predictive_grammar.specs.Steps.{Outcome, Parser, LeftOut, and_then, ◌>>=◌, pure, fail}
use Rattle.predictive_grammar.specs.Reading.{walk}
use Rattle.vg_base.specs.declared.event.Span.{Span}
use Rattle.vala_lexer.specs.Tokens.{Lexeme}
use Rattle.vala_tree.specs.declared.names.NameTree.{NameTree}
use Rattle.vala_tree.specs.declared.code.Expr.{Expr}
use Rattle.vala_tree.specs.declared.code.Argument.{Argument}
use Rattle.vala_grammar.specs.declared.sort.Sort.TheVariants as s
use Rattle.vala_grammar.specs.declared.parts.Chain.{Chain}
use Rattle.vala_grammar.specs.Parts as p
use Rattle.vala_grammar.specs.Grammar.{G, forms, arguments, listed}
use Rattle.vala_grammar.specs.Trees as tree
use Rattle.vala_grammar.specs.Tests.{is, among, is_literal, is_type_sign, is_plain}
use Rattle.vala_grammar.specs.Read.{vala_reader}
use Rattle.vala_cursor.specs.Ahead.{reads}
use Rattle.vala_cursor.specs.Gets.{got, one, way, leave}
use Rattle.vala_expressions.specs.Chains.{object_ended}
use Rattle.vala_grammar.proofs.Readers.{reader_unfolds}

pub primary_law : (l : ℕ) (i : List Lexeme) → vala_reader p.Primary l i
    ≡ way (is s.Identifier) (one s.Identifier l >>= λ t. pure (tree.name t))
    (way (is s.Yield) (one s.Yield l >>= λ t. vala_reader p.YieldCall (suc l) >>= λ a. pure (tree.yielded t a)) (vala_reader p.Atom l >>= pure)) i
unfolding walk forms got
primary_law l i = reader_unfolds p.Primary l i

pub atom_law : (l : ℕ) (i : List Lexeme) → vala_reader p.Atom l i
    ≡ way is_literal (got is_literal 0 l >>= λ t. pure (tree.constant t))
    (way (is s.This) (one s.This l >>= λ t. pure (tree.this t))
    (way (is s.Base) (one s.Base l >>= λ t. pure (tree.base t))
    (one s.New l >>= λ t. vala_reader p.Name l >>= λ n. vala_reader (p.NewMore t n) l >>= pure))) i
unfolding walk forms got
atom_law l i = reader_unfolds p.Atom l i

pub yield_call_law : (l : ℕ) (i : List Lexeme) → vala_reader p.YieldCall l i
    ≡ way (is s.Slash) leave
    (way (is s.OpenParen) (one s.OpenParen l >>= λ o. vala_reader p.Whole (suc l) >>= λ e. one s.CloseParen (suc l) >>= λ c. vala_reader (p.CallMore (tree.bracketed o.span e c.span)) l >>= pure)
    (vala_reader p.Primary l >>= λ a. vala_reader (p.CallMore a) l >>= pure)) i
unfolding walk forms got
yield_call_law l i = reader_unfolds p.YieldCall l i

pub call_more_law : (a : Expr) (l : ℕ) (i : List Lexeme) → vala_reader (p.CallMore a) l i
    ≡ way (is s.Dot) (one s.Dot l >>= λ d. one s.Identifier l >>= λ t. vala_reader (p.CallMore (tree.member a (tree.identifier t))) (suc l) >>= pure)
    (one s.OpenParen l >>= λ o. vala_reader p.Args (suc l) >>= λ xs. pure (tree.call a xs)) i
unfolding walk forms got
call_more_law a l i = reader_unfolds (p.CallMore a) l i

pub new_more_law : (t : Lexeme) (n : NameTree) (l : ℕ) (i : List Lexeme) → vala_reader (p.NewMore t n) l i
    ≡ way (is s.OpenParen) (one s.OpenParen l >>= λ o. vala_reader p.Args (suc l) >>= λ xs. object_ended t n xs)
    (way (is s.Question) (one s.Question l >>= λ q. vala_reader (p.NewArray t n (Some q.span)) l >>= pure) (vala_reader (p.NewArray t n None) l >>= pure)) i
unfolding walk forms got object_ended
new_more_law t n l i = reader_unfolds (p.NewMore t n) l i

pub new_array_law : (t : Lexeme) (n : NameTree) (q : Option Span) (l : ℕ) (i : List Lexeme) → vala_reader (p.NewArray t n q) l i
    ≡ way is_type_sign leave (one s.OpenBracket l >>= λ b. way (is s.Comma) leave
    (way (is s.CloseBracket) (one s.CloseBracket (suc l) >>= λ c. vala_reader (p.NewItems t n q None c) l >>= pure)
    (vala_reader p.Whole (suc l) >>= λ e. one s.CloseBracket (suc l) >>= λ c. vala_reader (p.NewItems t n q (Some e) c) l >>= pure))) i
unfolding walk forms got
new_array_law t n q l i = reader_unfolds (p.NewArray t n q) l i

pub new_items_law : (t : Lexeme) (n : NameTree) (q : Option Span) (e : Option Expr) (c : Lexeme) (l : ℕ) (i : List Lexeme) → vala_reader (p.NewItems t n q e c) l i
    ≡ way (is s.OpenBrace) (one s.OpenBrace l >>= λ b. vala_reader p.Items (suc l) >>= λ xs. pure (tree.new_array_of t n q e xs)) (pure (tree.new_array t n q e c.span)) i
unfolding walk forms got
new_items_law t n q e c l i = reader_unfolds (p.NewItems t n q e c) l i

pub args_law : (l : ℕ) (i : List Lexeme) → vala_reader p.Args l i
    ≡ way (is s.CloseParen) (one s.CloseParen l >>= λ c. pure (arguments [] c.span)) (vala_reader p.Arg l >>= λ a. vala_reader (p.MoreArgs (a ∷ [])) l >>= pure) i
unfolding walk forms got
args_law l i = reader_unfolds p.Args l i

pub more_args_law : (xs : List Argument) (l : ℕ) (i : List Lexeme) → vala_reader (p.MoreArgs xs) l i
    ≡ way (is s.Comma) (got (is s.Comma) (length xs) l >>= λ t. vala_reader p.Arg l >>= λ a. vala_reader (p.MoreArgs (xs ++ a ∷ [])) l >>= pure)
    (one s.CloseParen l >>= λ c. pure (arguments xs c.span)) i
unfolding walk forms got
more_args_law xs l i = reader_unfolds (p.MoreArgs xs) l i

pub arg_law : (l : ℕ) (i : List Lexeme) → vala_reader p.Arg l i
    ≡ way (among (s.Out ∷ s.Ref ∷ [])) (got (among (s.Out ∷ s.Ref ∷ [])) 0 l >>= λ t. vala_reader p.Whole l >>= λ e. pure (tree.marked_argument t e))
    (way (is s.Identifier) (one s.Identifier l >>= λ t. way (is s.Colon) (one s.Colon l >>= λ m. vala_reader p.Whole l >>= λ e. pure (tree.named_argument t e))
    (vala_reader (p.AfterWord t) l >>= λ e. pure (tree.argument e)))
    (way (is s.Slash) leave (vala_reader p.Nameless l >>= λ e. pure (tree.argument e)))) i
unfolding walk forms got
arg_law l i = reader_unfolds p.Arg l i

pub items_law : (l : ℕ) (i : List Lexeme) → vala_reader p.Items l i
    ≡ way (is s.CloseBrace) (one s.CloseBrace l >>= λ c. pure (listed [] c.span)) (vala_reader p.Whole l >>= λ a. vala_reader (p.MoreItems (a ∷ [])) l >>= pure) i
unfolding walk forms got
items_law l i = reader_unfolds p.Items l i

pub more_items_law : (xs : List Expr) (l : ℕ) (i : List Lexeme) → vala_reader (p.MoreItems xs) l i
    ≡ way (is s.Comma) (one s.Comma l >>= λ t. vala_reader p.Whole l >>= λ a. vala_reader (p.MoreItems (xs ++ a ∷ [])) l >>= pure) (one s.CloseBrace l >>= λ c. pure (listed xs c.span)) i
unfolding walk forms got
more_items_law xs l i = reader_unfolds (p.MoreItems xs) l i

pub init_law : (l : ℕ) (i : List Lexeme) → vala_reader p.Init l i
    ≡ way (is s.OpenBrace) (one s.OpenBrace l >>= λ b. vala_reader p.Items (suc l) >>= λ xs. pure (tree.list_in_braces b xs)) (vala_reader p.Whole l >>= pure) i
unfolding walk forms got
init_law l i = reader_unfolds p.Init l i
