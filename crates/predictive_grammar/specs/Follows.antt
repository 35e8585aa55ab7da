-- What is a text of a part, and its tree.
use Rattle.std.specs.Prelude.{◌≡◌, ℕ, Bool, true, List, [], ◌∷◌, ◌++◌, Option, Some}
use Rattle.predictive_grammar.specs.Forms.{Signature, Form, give, take, part, pick, bar, Productions}

-- a token as it stands in a text: its level, which is how many constructs are open before it, and, where it begins a further item of a list, how
-- many stand before
pub record Letter (T : Type 0) : Type 0 where
  pub token : T
  pub level : ℕ
  pub items : ℕ

abbrev pub Word : Signature → Type 0
Word G = List (Letter G.Token)

-- the tokens of a word
abbrev pub raw : {T : Type 0} → List (Letter T) → List T
raw [] = []
raw (x ∷ w) = x.token ∷ raw w

-- The word, whose first token has the level, is a text of the form, and has the tree: in the grammar itself, or in the one that is widened by
-- what a label names, where a token may stand that begins what is left out under this label.
pub data Follows (G : Signature) (forms : Productions G) (wide : Option G.Label) : (r : G.Part) → Form G r → ℕ → Word G → G.Tree r → Type 0 where
  given : {r : G.Part} {l : ℕ} (a : G.Tree r) → Follows G forms wide r (give a) l [] a
  taken : {r : G.Part} {l : ℕ} {up : ℕ → ℕ} {items : ℕ} {test : G.Kind → Bool} {k : G.Token → Form G r} {w : Word G} {a : G.Tree r} (t : G.Token)
      → test (G.kind t) ≡ true → Follows G forms wide r (k t) l w a → Follows G forms wide r (take up items test k) l (record { token = t; level = up l; items = items } ∷ w) a
  read : {r : G.Part} {l : ℕ} {up : ℕ → ℕ} {q : G.Part} {k : G.Tree q → Form G r} {u v : Word G} {b : G.Tree q} {a : G.Tree r}
      → Follows G forms wide q (forms q) (up l) u b → Follows G forms wide r (k b) l v a → Follows G forms wide r (part up q k) l (u ++ v) a
  first : {r : G.Part} {l : ℕ} {g : G.Kind → Bool} {y n : Form G r} {w : Word G} {a : G.Tree r} → Follows G forms wide r y l w a → Follows G forms wide r (pick g y n) l w a
  second : {r : G.Part} {l : ℕ} {g : G.Kind → Bool} {y n : Form G r} {w : Word G} {a : G.Tree r} → Follows G forms wide r n l w a → Follows G forms wide r (pick g y n) l w a
  kept : {r : G.Part} {l : ℕ} {left : G.Kind → Bool} {e : G.Label} {k : Form G r} {w : Word G} {a : G.Tree r} → Follows G forms wide r k l w a → Follows G forms wide r (bar left e k) l w a
  left_out : {r : G.Part} {l : ℕ} {left : G.Kind → Bool} {e : G.Label} {k : Form G r} {w : Word G} {a : G.Tree r} (t : G.Token) → wide ≡ Some e → left (G.kind t) ≡ true
      → Follows G forms wide r k l w a → Follows G forms wide r (bar left e k) l (record { token = t; level = l; items = 0 } ∷ w) a

-- the word is a text of the part
abbrev pub Reads : (G : Signature) → Productions G → (wide : Option G.Label) (p : G.Part) → ℕ → Word G → G.Tree p → Type 0
Reads G forms wide p l w a = Follows G forms wide p (forms p) l w a
