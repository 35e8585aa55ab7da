-- What was read is a text, and a reader gives back no more than it got.
use Rattle.std.proofs.Common.{◌≡◌, ℕ, zero, suc, ◌≤◌, Bool, true, false, if◌then◌else◌, List, [], ◌∷◌, ◌++◌, length, None, Ok, Err, refl, sym, ap, ◌∙◌, arith}
use Rattle.predictive_grammar.specs.Forms.{Signature, Form, give, take, part, pick, bar, Productions}
use Rattle.predictive_grammar.specs.Follows.{Word, raw, Follows, given, taken, read, first, second, kept}
use Rattle.predictive_grammar.specs.Steps.{LeftOut, Limits, Outcome, Parser, and_then, next_is}
use Rattle.predictive_grammar.specs.Reading.{expect, walk, run, reader, enough}
use Rattle.predictive_grammar.proofs.Words.{raw-then, behind_length}
use Rattle.predictive_grammar.proofs.Taking.{Expected, other, high, many, comes, expected}

module _ (G : Signature) (forms : Productions G) where
  -- the tokens up to the rest are a text of the form
  pub record Text (r : G.Part) (form : Form G r) (l : ℕ) (i : List G.Token) (a : G.Tree r) (m : List G.Token) : Type 0 where
    pub word : Word G
    pub front : i ≡ raw word ++ m
    pub text : Follows G forms None r form l word a

  abbrev pub Told : (r : G.Part) → Form G r → ℕ → List G.Token → Outcome G.Label G.Token (G.Tree r) → Type 0
  Told r form l i (Ok x) = Text r form l i x.0 x.1
  Told r form l i (Err s) = length s.1 ≤ length i

  -- the same outcome, of another form and behind fewer tokens
  told_more : (r : G.Part) (form more : Form G r) (l : ℕ) (u : Word G) (i j : List G.Token) → i ≡ raw u ++ j
      → ((v : Word G) (a : G.Tree r) → Follows G forms None r form l v a → Follows G forms None r more l (u ++ v) a)
      → (o : Outcome G.Label G.Token (G.Tree r)) → Told r form l j o → Told r more l i o
  told_more r form more l u i j e f (Ok x) t = record { word = u ++ t.word; front = e ∙ ap (λ (ts : List G.Token). raw u ++ ts) t.front ∙ sym (raw-then u t.word x.1); text = f t.word x.0 t.text }
  told_more r form more l u i j e f (Err s) t = let n = behind_length u i j e in omega arith

  module _ (limits : Limits) (parts : (q : G.Part) → ℕ → Parser G.Label G.Token (G.Tree q)) (told : (q : G.Part) (l : ℕ) (i : List G.Token) → Told q (forms q) l i (parts q l i)) where
    pub walk_told : (r : G.Part) (form : Form G r) (l : ℕ) (i : List G.Token) → Told r form l i (walk G parts limits r form l i)
    unfolding walk
    walk_told r (give a) l i = record { word = []; front = refl; text = given a }
    walk_told r (take up items test k) l i = go (λ t ts. walk_told r (k t) l ts) i (expect G limits (up l) items test i) (expected G limits (up l) items test i)
      where
        go : ((t : G.Token) (ts : List G.Token) → Told r (k t) l ts (walk G parts limits r (k t) l ts)) → (i : List G.Token) (o : Outcome G.Label G.Token G.Token) → Expected G limits (up l) items test i o → Told r (take up items test k) l i (and_then o (λ t. walk G parts limits r (k t) l))
        go ih i o (other e) = omega arith
        go ih i o (high e f) = omega arith
        go ih i o (many e f g) = omega arith
        go ih i o (comes {t = t} {ts = ts} e f g) =
            told_more r (k t) (take up items test k) l (record { token = t; level = up l; items = items } ∷ []) i ts refl (λ v a d. taken t e d) (walk G parts limits r (k t) l ts) (ih t ts)
    walk_told r (part up q k) l i = go (λ b j. walk_told r (k b) l j) (parts q (up l) i) (told q (up l) i)
      where
        go : ((b : G.Tree q) (j : List G.Token) → Told r (k b) l j (walk G parts limits r (k b) l j)) → (o : Outcome G.Label G.Token (G.Tree q)) → Told q (forms q) (up l) i o → Told r (part up q k) l i (and_then o (λ b. walk G parts limits r (k b) l))
        go ih (Ok x) t = told_more r (k x.0) (part up q k) l t.word i x.1 t.front (λ v a d. read t.text d) (walk G parts limits r (k x.0) l x.1) (ih x.0 x.1)
        go ih (Err s) t = t
    walk_told r (pick test a b) l i = go (walk_told r a l i) (walk_told r b l i) (next_is G.kind test i)
      where
        go : Told r a l i (walk G parts limits r a l i) → Told r b l i (walk G parts limits r b l i) → (c : Bool) → Told r (pick test a b) l i (if c then walk G parts limits r a l i else walk G parts limits r b l i)
        go x y true = told_more r a (pick test a b) l [] i i refl (λ v z d. first d) (walk G parts limits r a l i) x
        go x y false = told_more r b (pick test a b) l [] i i refl (λ v z d. second d) (walk G parts limits r b l i) y
    walk_told r (bar left e k) l i = go (walk_told r k l i) (next_is G.kind left i)
      where
        go : Told r k l i (walk G parts limits r k l i) → (c : Bool) → Told r (bar left e k) l i (if c then Err (LeftOut e, i) else walk G parts limits r k l i)
        go x true = omega arith
        go x false = told_more r k (bar left e k) l [] i i refl (λ v z d. kept d) (walk G parts limits r k l i) x

  pub run_told : (f : ℕ) (limits : Limits) (p : G.Part) (l : ℕ) (i : List G.Token) → Told p (forms p) l i (run G forms f limits p l i)
  unfolding run
  run_told zero limits p l i = omega arith
  run_told (suc f) limits p l i = walk_told limits (run G forms f limits) (run_told f limits) p (forms p) l i

  pub reader_told : (top : ℕ) (rank : G.Part → ℕ) (limits : Limits) (p : G.Part) (l : ℕ) (i : List G.Token) → Told p (forms p) l i (reader G forms top rank limits p l i)
  unfolding reader
  reader_told top rank limits p l i = run_told (enough top (rank p) i) limits p l i
