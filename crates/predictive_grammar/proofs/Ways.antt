-- Each part has a text: a way through its form, on which only cheaper parts are asked for.
use Rattle.std.proofs.Common.{◌≡◌, ℕ, zero, suc, ◌<◌, Bool, true, None, [], ◌∷◌, ◌++◌, ap, ◌∙◌, arith, nat_lt, ltb-true}
use Rattle.predictive_grammar.specs.Forms.{Signature, Form, give, take, part, pick, bar, Productions}
use Rattle.predictive_grammar.specs.Follows.{Word, Follows, given, taken, read, first, second, kept, Reads}

module _ (G : Signature) (forms : Productions G) (cost : G.Part → ℕ) (sample : G.Kind → G.Token) (is_sample : (x : G.Kind) → G.kind (sample x) ≡ x) where
  pub data Way (r : G.Part) : Form G r → Type 0 where
    end : {a : G.Tree r} → Way r (give a)
    by_token : {up : ℕ → ℕ} {items : ℕ} {test : G.Kind → Bool} {k : G.Token → Form G r} (x : G.Kind) → test x ≡ true → Way r (k (sample x)) → Way r (take up items test k)
    by_text : {up : ℕ → ℕ} {q : G.Part} {k : G.Tree q → Form G r} → nat_lt (cost q) (cost r) ≡ true → ((b : G.Tree q) → Way r (k b)) → Way r (part up q k)
    by_known : {up : ℕ → ℕ} {q : G.Part} {k : G.Tree q → Form G r} (b : G.Tree q) → ((l : ℕ) → (w : Word G) × Reads G forms None q l w b) → Way r (k b) → Way r (part up q k)
    one : {test : G.Kind → Bool} {a b : Form G r} → Way r a → Way r (pick test a b)
    other : {test : G.Kind → Bool} {a b : Form G r} → Way r b → Way r (pick test a b)
    on : {left : G.Kind → Bool} {e : G.Label} {k : Form G r} → Way r k → Way r (bar left e k)

  abbrev Found : (r : G.Part) → Form G r → ℕ → Type 0
  Found r form l = (w : Word G) × (a : G.Tree r) × Follows G forms None r form l w a

  follow : {r : G.Part} {form : Form G r} → Way r form → ((q : G.Part) (l : ℕ) → cost q < cost r → Found q (forms q) l) → (l : ℕ) → Found r form l
  follow (end {a = a}) texts l = ([], a, given a)
  follow (by_token {up = up} {items = items} {test = test} x e way) texts l =
      let f = follow way texts l in (record { token = sample x; level = up l; items = items } ∷ f.0, f.1, taken (sample x) (ap test (is_sample x) ∙ e) f.2)
  follow {r = r} (by_text {up = up} {q = q} e way) texts l =
      let g = texts q (up l) (ltb-true (cost q) (cost r) e) in let f = follow (way g.1) texts l in (g.0 ++ f.0, f.1, read g.2 f.2)
  follow (by_known {up = up} b known way) texts l = let g = known (up l) in let f = follow way texts l in (g.0 ++ f.0, f.1, read g.1 f.2)
  follow (one way) texts l = let f = follow way texts l in (f.0, f.1, first f.2)
  follow (other way) texts l = let f = follow way texts l in (f.0, f.1, second f.2)
  follow (on way) texts l = let f = follow way texts l in (f.0, f.1, kept f.2)

  module _ (ways : (p : G.Part) → Way p (forms p)) where
    below : (n : ℕ) (p : G.Part) (l : ℕ) → cost p < n → Found p (forms p) l
    below zero p l lt = absurd (omega arith)
    below (suc n) p l lt = follow (ways p) (λ q l less. below n q l (omega arith)) l

    pub some_text : (p : G.Part) (l : ℕ) → (w : Word G) × (a : G.Tree p) × Reads G forms None p l w a
    some_text p l = below (suc (cost p)) p l (omega arith)
