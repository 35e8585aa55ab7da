-- Reading from left to right by the kind of the next token, up to the first fault.
use Rattle.std.specs.Prelude.{ℕ, zero, suc, ◌+◌, ◌*◌, Bool, if◌then◌else◌, List, length}
use Rattle.predictive_grammar.specs.Forms.{Signature, Form, give, take, part, pick, bar, Productions}
use Rattle.predictive_grammar.specs.Steps.{Syntax, LeftOut, Limits, Parser, ◌>>=◌, pure, fail, next_is, shift}

-- a token of a kind that passes the test
abbrev pub expect : (G : Signature) → Limits → (level items : ℕ) → (G.Kind → Bool) → Parser G.Label G.Token G.Token
expect G limits level items test = λ i. if next_is G.kind test i then shift limits level items i else fail Syntax i

-- the way that the next token decides
abbrev pub choose : (G : Signature) {A : Type 0} → (G.Kind → Bool) → (one other : Parser G.Label G.Token A) → Parser G.Label G.Token A
choose G test one other = λ i. if next_is G.kind test i then one i else other i

-- a form, by readers of parts
unfoldable pub walk : (G : Signature) → ((q : G.Part) → ℕ → Parser G.Label G.Token (G.Tree q)) → Limits → (r : G.Part) → Form G r → ℕ → Parser G.Label G.Token (G.Tree r)
walk G parts limits r (give a) l = pure a
walk G parts limits r (take up items test k) l = expect G limits (up l) items test >>= λ t. walk G parts limits r (k t) l
walk G parts limits r (part up q k) l = parts q (up l) >>= λ b. walk G parts limits r (k b) l
walk G parts limits r (pick test a b) l = choose G test (walk G parts limits r a l) (walk G parts limits r b l)
walk G parts limits r (bar left e k) l = choose G left (fail (LeftOut e)) (walk G parts limits r k l)

-- a part, where parts are asked for in one another so often at most
unfoldable pub run : (G : Signature) → Productions G → ℕ → Limits → (p : G.Part) → ℕ → Parser G.Label G.Token (G.Tree p)
run G forms zero limits p l = fail Syntax
run G forms (suc f) limits p l = walk G (run G forms f limits) limits p (forms p) l

-- so often as the parts can be asked for in one another before so many tokens, where those that are asked for without a token between fall in rank
abbrev pub enough : (top rank : ℕ) {T : Type 0} → List T → ℕ
enough top rank i = suc rank + length i * suc top

-- a part
unfoldable pub reader : (G : Signature) → Productions G → (top : ℕ) → (rank : G.Part → ℕ) → Limits → (p : G.Part) → ℕ → Parser G.Label G.Token (G.Tree p)
reader G forms top rank limits p l = λ i. run G forms (enough top (rank p) i) limits p l i
