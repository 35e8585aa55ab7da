-- What a reader answers: the tree, or the first fault.
use Rattle.std.specs.Prelude.{◌≡◌, ℕ, ◌<◌, ◌≤◌, List, [], ◌∷◌, ◌++◌, Option, Some, None, Ok, Err}
use Rattle.predictive_grammar.specs.Forms.{Signature, Productions}
use Rattle.predictive_grammar.specs.Follows.{Letter, Word, raw, Reads}
use Rattle.predictive_grammar.specs.Steps.{Fault, Syntax, LeftOut, Nesting, Number, Limits, Outcome}

-- each token's level and number of items are below the limits
abbrev pub IsWithin : {T : Type 0} → Limits → List (Letter T) → Type 0
IsWithin limits [] = Unit {0}
IsWithin limits (x ∷ w) = (x.level < limits.levels) × (x.items < limits.items) × IsWithin limits w

module _ (G : Signature) (forms : Productions G) (p : G.Part) (l : ℕ) where
  -- the tokens are a text of the part, whose first token has the level, and this is its tree
  abbrev pub IsText : List G.Token → G.Tree p → Type 0
  IsText ts a = (w : Word G) × (raw w ≡ ts) × Reads G forms None p l w a

  -- the tokens are a prefix of some text, of the grammar itself or of the one that is widened by what a label names
  abbrev pub BeginsText : (wide : Option G.Label) → List G.Token → Type 0
  BeginsText wide ts = (w z : Word G) × (a : G.Tree p) × (raw w ≡ ts) × Reads G forms wide p l (w ++ z) a

  -- no text goes on with the next token
  abbrev pub GoesNoFurther : (wide : Option G.Label) → List G.Token → List G.Token → Type 0
  GoesNoFurther wide taken [] = Unit {0}
  GoesNoFurther wide taken (t ∷ ts) = BeginsText wide (taken ++ t ∷ []) → ⊥

  module _ (limits : Limits) where
    -- The tokens up to the rest are the text, as far as one goes, even one of a widened grammar.
    pub record Found (input : List G.Token) (a : G.Tree p) (rest : List G.Token) : Type 0 where
      pub word : Word G
      pub front : input ≡ raw word ++ rest
      pub within : IsWithin limits word
      pub reads : Reads G forms None p l word a
      pub furthest : (wide : Option G.Label) → GoesNoFurther wide (raw word) rest

    -- The tokens up to the rest begin a text and are none, and no text goes on with the next token, not even one of a widened grammar.
    pub record NoText (input rest : List G.Token) : Type 0 where
      pub word : Word G
      pub front : input ≡ raw word ++ rest
      pub within : IsWithin limits word
      pub missing : Word G
      pub value : G.Tree p
      pub begins : Reads G forms None p l (word ++ missing) value
      pub whole : (a : G.Tree p) → IsText (raw word) a → ⊥
      pub furthest : (wide : Option G.Label) → GoesNoFurther wide (raw word) rest

    -- The tokens up to the rest begin a text, no text goes on with the next token, but a text does of the grammar widened by what the label names.
    pub record OnlyWide (e : G.Label) (input rest : List G.Token) : Type 0 where
      pub word : Word G
      pub token : G.Token
      pub behind : List G.Token
      pub front : input ≡ raw word ++ rest
      pub next : rest ≡ token ∷ behind
      pub within : IsWithin limits word
      pub missing : Word G
      pub value : G.Tree p
      pub begins : Reads G forms None p l (word ++ missing) value
      pub furthest : GoesNoFurther None (raw word) rest
      pub wider : BeginsText (Some e) (raw word ++ token ∷ [])

    -- The tokens up to the next and with it begin a text in which its level is the first that reaches the limit.
    pub record TooHigh (input rest : List G.Token) : Type 0 where
      pub word : Word G
      pub letter : Letter G.Token
      pub behind : List G.Token
      pub front : input ≡ raw word ++ rest
      pub next : rest ≡ letter.token ∷ behind
      pub within : IsWithin limits word
      pub high : limits.levels ≤ letter.level
      pub missing : Word G
      pub value : G.Tree p
      pub begins : Reads G forms None p l (word ++ letter ∷ missing) value

    -- The tokens up to the next and with it begin a text in which its number of items is the first that reaches the limit.
    pub record TooMany (input rest : List G.Token) : Type 0 where
      pub word : Word G
      pub letter : Letter G.Token
      pub behind : List G.Token
      pub front : input ≡ raw word ++ rest
      pub next : rest ≡ letter.token ∷ behind
      pub within : IsWithin limits word
      pub low : letter.level < limits.levels
      pub many : limits.items ≤ letter.items
      pub missing : Word G
      pub value : G.Tree p
      pub begins : Reads G forms None p l (word ++ letter ∷ missing) value

    -- the fault stands at the rest's first token
    abbrev pub Breaks : List G.Token → Fault G.Label → List G.Token → Type 0
    Breaks input Syntax rest = NoText input rest
    Breaks input (LeftOut e) rest = OnlyWide e input rest
    Breaks input Nesting rest = TooHigh input rest
    Breaks input Number rest = TooMany input rest

    abbrev pub Answers : List G.Token → Outcome G.Label G.Token (G.Tree p) → Type 0
    Answers input (Ok x) = Found input x.0 x.1
    Answers input (Err s) = Breaks input s.0 s.1
