-- A reader that always gives a tree: at the first token that cannot stand it stops, and from there on it makes up what is missing.
use Rattle.std.specs.Prelude.{◌≡◌, ℕ, zero, suc, ◌+◌, ◌<◌, ◌≤◌, ◌&&◌, Bool, true, false, if◌then◌else◌, nat_lt, List, [], ◌∷◌, ◌++◌, Option, Some, None, Ok, Err}
use Rattle.predictive_grammar.specs.Forms.{Signature, Form, give, take, part, pick, bar, Productions}
use Rattle.predictive_grammar.specs.Follows.{Letter, Word, raw, Reads}
use Rattle.predictive_grammar.specs.Steps.{Fault, Limits, Parser, next_is}
use Rattle.predictive_grammar.specs.Reading.{enough}
use Rattle.predictive_grammar.specs.Exact.{IsWithin}

-- Where a reader is: it goes on, and these tokens are left; or it stopped, at the first of these or at the end.
pub data State (T : Type 0) : Type 0 where
  Going : List T → State T
  Stopped : List T → State T

-- a tree and where the reader is behind it; none where it was let go no further
abbrev pub Mended : (T A : Type 0) → Type 0
Mended T A = Option (A × State T)

-- What is made up where a reader stopped at these tokens.
pub record Supply (G : Signature) : Type 0 where
  -- of these tokens the first that can stand there
  pub offers : (rest : List G.Token) → List G.Token
  -- where none of them can: this one, by the tokens that the form took before, the last one first
  pub otherwise : (rest before : List G.Token) → G.Token
  -- a token that can stand there but for a limit: the same at another place
  pub moved : (rest : List G.Token) → G.Token → G.Token

-- the first token whose kind passes the test, or the last resort
abbrev pub first_that : {T K : Type 0} → (T → K) → (K → Bool) → List T → T → T
first_that kind test [] x = x
first_that kind test (t ∷ ts) x = if test (kind t) then t else first_that kind test ts x

-- whether the next token's kind passes a test; where the reader stopped none does
abbrev pub next_in : {T K : Type 0} → (T → K) → (K → Bool) → State T → Bool
next_in kind test (Going i) = next_is kind test i
next_in kind test (Stopped i) = false

-- it stops in front of the next token
abbrev pub stop : {T : Type 0} → State T → State T
stop (Going i) = Stopped i
stop (Stopped i) = Stopped i

-- stops, and makes up a token
abbrev pub make : (G : Signature) → Supply G → (G.Kind → Bool) → (before rest : List G.Token) → G.Token × State G.Token
make G supply test before rest = (first_that G.kind test (supply.offers rest) (supply.otherwise rest before), Stopped rest)

-- takes the token where it is below the limits, else stops in front of it
abbrev pub take_below : (G : Signature) → Supply G → Limits → (level items : ℕ) → G.Token → List G.Token → G.Token × State G.Token
take_below G supply limits level items t ts = if nat_lt level limits.levels && nat_lt items limits.items then (t, Going ts) else (supply.moved (t ∷ ts) t, Stopped (t ∷ ts))

-- a token of a kind that passes the test, behind those that the form took before
abbrev pub mend_token : (G : Signature) → Supply G → Limits → (level items : ℕ) → (G.Kind → Bool) → (before : List G.Token) → State G.Token → G.Token × State G.Token
mend_token G supply limits level items test before (Going (t ∷ ts)) = if test (G.kind t) then take_below G supply limits level items t ts else make G supply test before (t ∷ ts)
mend_token G supply limits level items test before (Going []) = make G supply test before []
mend_token G supply limits level items test before (Stopped rest) = make G supply test before rest

-- a tree, and what goes on with it
abbrev pub mend_then : {T A B : Type 0} → Mended T A → (A → State T → Mended T B) → Mended T B
mend_then None f = None
mend_then (Some x) f = f x.0 x.1

-- A form, by menders of parts. Where the reader stopped it goes on as at the end of a text, where of two forms the second is read.
unfoldable pub mend_walk : (G : Signature) → Supply G → ((q : G.Part) → ℕ → State G.Token → Mended G.Token (G.Tree q)) → Limits
    → (r : G.Part) → Form G r → (before : List G.Token) → ℕ → State G.Token → Mended G.Token (G.Tree r)
mend_walk G supply parts limits r (give a) before l s = Some (a, s)
mend_walk G supply parts limits r (take up items test k) before l s =
    let x = mend_token G supply limits (up l) items test before s in mend_walk G supply parts limits r (k x.0) (x.0 ∷ before) l x.1
mend_walk G supply parts limits r (part up q k) before l s = mend_then (parts q (up l) s) (λ b z. mend_walk G supply parts limits r (k b) before l z)
mend_walk G supply parts limits r (pick test a b) before l s =
    if next_in G.kind test s then mend_walk G supply parts limits r a before l s else mend_walk G supply parts limits r b before l s
mend_walk G supply parts limits r (bar left e k) before l s = mend_walk G supply parts limits r k before l (if next_in G.kind left s then stop s else s)

-- a part, where parts are asked for in one another so often at most
unfoldable pub mend_run : (G : Signature) → Productions G → Supply G → ℕ → Limits → (p : G.Part) → ℕ → State G.Token → Mended G.Token (G.Tree p)
mend_run G forms supply zero limits p l s = None
mend_run G forms supply (suc f) limits p l s = mend_walk G supply (mend_run G forms supply f limits) limits p (forms p) [] l s

-- so often as the parts can be asked for in one another, where what is made up asks for so many in one another at most
abbrev pub enough_for : (top rank tallest : ℕ) {T : Type 0} → State T → ℕ
enough_for top rank tallest (Going i) = enough top rank i + suc tallest
enough_for top rank tallest (Stopped i) = suc tallest

-- a part
unfoldable pub mender : (G : Signature) → Productions G → Supply G → (top tallest : ℕ) → (rank : G.Part → ℕ) → Limits → (p : G.Part) → ℕ → State G.Token → Mended G.Token (G.Tree p)
mender G forms supply top tallest rank limits p l s = mend_run G forms supply (enough_for top (rank p) tallest s) limits p l s

-- What is made up serves a form: behind tokens that a form took, a token that is made up passes the test of what is asked for. Behind a test
-- that the next token passed, only a limit can stop the reader at this token.
pub data Serves (G : Signature) (supply : Supply G) (r : G.Part) : (before : List G.Token) → Form G r → Type 0 where
  serves_give : {before : List G.Token} {a : G.Tree r} → Serves G supply r before (give a)
  serves_take : {before : List G.Token} {up : ℕ → ℕ} {items : ℕ} {test : G.Kind → Bool} {k : G.Token → Form G r}
      → ((rest : List G.Token) → test (G.kind (first_that G.kind test (supply.offers rest) (supply.otherwise rest before))) ≡ true)
      → ((t : G.Token) → test (G.kind t) ≡ true → Serves G supply r (t ∷ before) (k t)) → Serves G supply r before (take up items test k)
  serves_part : {before : List G.Token} {up : ℕ → ℕ} {q : G.Part} {k : G.Tree q → Form G r} → ((b : G.Tree q) → Serves G supply r before (k b)) → Serves G supply r before (part up q k)
  serves_pick : {before : List G.Token} {test : G.Kind → Bool} {a b : Form G r} → Serves G supply r before a → Serves G supply r before b → Serves G supply r before (pick test a b)
  serves_where : {before : List G.Token} {up : ℕ → ℕ} {items : ℕ} {test : G.Kind → Bool} {k : G.Token → Form G r} {b : Form G r}
      → ((t : G.Token) → test (G.kind t) ≡ true → Serves G supply r (t ∷ before) (k t)) → Serves G supply r before b → Serves G supply r before (pick test (take up items test k) b)
  serves_bar : {before : List G.Token} {left : G.Kind → Bool} {e : G.Label} {k : Form G r} → Serves G supply r before k → Serves G supply r before (bar left e k)

-- What a form asks for where the reader stopped before it is of lower height than its part.
pub data Lower (G : Signature) (height : G.Part → ℕ) (r : G.Part) : Form G r → Type 0 where
  lower_give : {a : G.Tree r} → Lower G height r (give a)
  lower_take : {up : ℕ → ℕ} {items : ℕ} {test : G.Kind → Bool} {k : G.Token → Form G r} → ((t : G.Token) → Lower G height r (k t)) → Lower G height r (take up items test k)
  lower_part : {up : ℕ → ℕ} {q : G.Part} {k : G.Tree q → Form G r} → height q < height r → ((b : G.Tree q) → Lower G height r (k b)) → Lower G height r (part up q k)
  lower_pick : {test : G.Kind → Bool} {a b : Form G r} → Lower G height r b → Lower G height r (pick test a b)
  lower_bar : {left : G.Kind → Bool} {e : G.Label} {k : Form G r} → Lower G height r k → Lower G height r (bar left e k)

-- A grammar is mended with a supply: what is made up serves, and its parts fall in height.
pub record IsMended (G : Signature) (forms : Productions G) (supply : Supply G) (tallest : ℕ) : Type 0 where
  pub serves : (p : G.Part) → Serves G supply p [] (forms p)
  pub moves : (rest : List G.Token) (t : G.Token) → G.kind (supply.moved rest t) ≡ G.kind t
  pub height : G.Part → ℕ
  pub lowers : (p : G.Part) → Lower G height p (forms p)
  pub low : (p : G.Part) → height p ≤ tallest

-- each token of the word is new, where these are left
abbrev pub AllNew : {T : Type 0} → (IsNew : List T → T → Type 0) → (rest : List T) → List (Letter T) → Type 0
AllNew IsNew rest [] = Unit {0}
AllNew IsNew rest (x ∷ w) = IsNew rest x.token × AllNew IsNew rest w

module _ (G : Signature) (forms : Productions G) (p : G.Part) (l : ℕ) (limits : Limits) (reader : Parser G.Label G.Token (G.Tree p)) (IsNew : List G.Token → G.Token → Type 0) where
  -- The reader finds a fault at the rest. The tokens up to there and then new ones are a text, and this is its tree.
  pub record Completed (input : List G.Token) (a : G.Tree p) (rest : List G.Token) : Type 0 where
    pub fault : Fault G.Label
    pub stops : reader input ≡ Err (fault, rest)
    pub word : Word G
    pub missing : Word G
    pub front : input ≡ raw word ++ rest
    pub within : IsWithin limits word
    pub new : AllNew IsNew rest missing
    pub reads : Reads G forms None p l (word ++ missing) a

  -- this tree and where the reader is then: where the reader reads a text it is that text's
  abbrev pub MendsTo : (input : List G.Token) → G.Tree p → State G.Token → Type 0
  MendsTo input a (Going rest) = reader input ≡ Ok (a, rest)
  MendsTo input a (Stopped rest) = Completed input a rest

  -- the same of what a mending reader gives
  abbrev pub Mends : (input : List G.Token) → Mended G.Token (G.Tree p) → Type 0
  Mends input None = ⊥
  Mends input (Some x) = MendsTo input x.0 x.1
