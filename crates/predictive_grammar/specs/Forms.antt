-- Grammars as data: for each part its form, which says what a text of the part is and what tree it has.
use Rattle.std.specs.Prelude.{ℕ, Bool}

-- What a grammar speaks of: the tokens and their kinds, the parts of a text (the nonterminals) and what tree each has, and what is said of a token
-- that would begin what the grammar leaves out.
pub record Signature : Type 1 where
  pub Token : Type 0
  pub Kind : Type 0
  pub kind : Token → Kind
  pub Part : Type 0
  pub Tree : Part → Type 0
  pub Label : Type 0

-- What stands in a text of a part, from left to right.
pub data Form (G : Signature) (r : G.Part) : Type 0 where
  -- nothing more; the tree is this
  give : G.Tree r → Form G r
  -- a token of a kind that passes the test, at this level by that of the part, before which so many items of a list stand; and then
  take : (up : ℕ → ℕ) (items : ℕ) → (G.Kind → Bool) → (G.Token → Form G r) → Form G r
  -- a text of this part at this level; and then
  part : (up : ℕ → ℕ) → (q : G.Part) → (G.Tree q → Form G r) → Form G r
  -- the first form or the second; the first is read exactly where the next token's kind passes the test
  pick : (G.Kind → Bool) → (first second : Form G r) → Form G r
  -- this form; a token of a kind that passes the test would begin here what the grammar leaves out, and the label says what is wrong
  bar : (G.Kind → Bool) → G.Label → Form G r → Form G r

-- the form of each part
abbrev pub Productions : Signature → Type 0
Productions G = (p : G.Part) → Form G p
