-- What the laws on the texts of units speak of.
use Rattle.std.specs.Prelude.{◌≡◌, ℕ, ◌<◌, ◌≤◌, List, [], ◌∷◌, ◌++◌, Option}
use Rattle.c_lexer.specs.declared.token.BadToken.{BadToken}
use Rattle.c_lexer.specs.Tokens.{Lexeme, Tokens, all_of}
use Rattle.c_tree.specs.declared.unit.Unit.{Unit as CUnit}
use Rattle.c_tree.specs.Words.{Word, words, start_of}
use Rattle.c_tree.specs.Items.{ReadsUnit}
use Rattle.c_tree.specs.Faults.{known}
use Rattle.c_tree.specs.Unit.{unit_faults}
use Rattle.c_tree.specs.Answers.{ending}
use Rattle.c_grammar.specs.Fronts.{end_of}
use Rattle.c_fronts.specs.Fronts.{InOrder}

-- Any tokens with which a text begins are in order in front of the next one, or of what stands behind all tokens.
abbrev pub TokensAreInOrder : Type 0
TokensAreInOrder = (bytes : List ℕ) (ts : List Lexeme) (b : Option BadToken) → Tokens (all_of bytes) ts b
    → (front rest : Word) → words ts ≡ front ++ rest → InOrder (start_of (end_of (ending bytes b)) rest) front

-- each token begins in front of a place, and ends no later
abbrev pub Within : ℕ → Word → Type 0
Within n [] = Unit {0}
Within n (t ∷ w) = ((t.start < n) × (t.end ≤ n)) × Within n w

-- Each fault of a unit is known by the end of its text.
abbrev pub FaultsAreKnown : Type 0
FaultsAreKnown = (n : ℕ) (w : Word) (u : CUnit) → Within n w → ReadsUnit w u → known n (unit_faults u) ≡ unit_faults u
