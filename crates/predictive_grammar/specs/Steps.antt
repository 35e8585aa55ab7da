-- The steps that every reader is made of.
use Rattle.std.specs.Prelude.{ℕ, Bool, false, if◌then◌else◌, nat_lt, List, [], ◌∷◌, Result, Ok, Err}

-- What is wrong with the next token: no text goes on with it; no text does, but it would begin what the grammar leaves out, of which the label
-- says what is wrong; its level is too high; it begins one item too many.
pub data Fault (L : Type 0) : Type 0 where
  Syntax : Fault L
  LeftOut : L → Fault L
  Nesting : Fault L
  Number : Fault L

-- a value and the tokens behind it, or a fault and the tokens from the faulty one on
abbrev pub Outcome : (L T A : Type 0) → Type 0
Outcome L T A = Result (A × List T) (Fault L × List T)

abbrev pub Parser : (L T A : Type 0) → Type 0
Parser L T A = List T → Outcome L T A

abbrev pub and_then : {L T A B : Type 0} → Outcome L T A → (A → Parser L T B) → Outcome L T B
and_then (Ok p) f = f p.0 p.1
and_then (Err e) f = Err e

infixl 10 ◌>>=◌
abbrev pub ◌>>=◌ : {L T A B : Type 0} → Parser L T A → (A → Parser L T B) → Parser L T B
p >>= f = λ i. and_then (p i) f

abbrev pub pure : {L T A : Type 0} → A → Parser L T A
pure a = λ i. Ok (a, i)

abbrev pub fail : {L T A : Type 0} → Fault L → Parser L T A
fail f = λ i. Err (f, i)

-- whether the next token's kind passes a test; at the end none does
abbrev pub next_is : {T K : Type 0} → (T → K) → (K → Bool) → List T → Bool
next_is kind test [] = false
next_is kind test (t ∷ ts) = test (kind t)

-- The least level that is too high, and the least number of items before a token that is too great.
pub record Limits : Type 0 where
  pub levels : ℕ
  pub items : ℕ

-- takes the next token, which a text may go on with, where its level and the number of items before it are below the limits
abbrev pub shift : {L T : Type 0} → Limits → (level items : ℕ) → Parser L T T
shift limits level items [] = Err (Syntax, [])
shift limits level items (t ∷ ts) =
    if nat_lt level limits.levels then (if nat_lt items limits.items then Ok (t, ts) else Err (Number, t ∷ ts)) else Err (Nesting, t ∷ ts)
