-- When one token of lookahead reads a grammar.
use Rattle.std.specs.Prelude.{◌≡◌, ℕ, ◌<◌, ◌≤◌, Bool, true, false, ◌⊎◌, None}
use Rattle.predictive_grammar.specs.Forms.{Signature, Form, give, take, part, pick, bar, Productions}
use Rattle.predictive_grammar.specs.Follows.{Word, Reads}

-- a set of kinds is within another
abbrev pub Within : {K : Type 0} → (K → Bool) → (K → Bool) → Type 0
Within {K} f g = (x : K) → f x ≡ true → g x ≡ true

-- two sets of kinds have none in common
abbrev pub Apart : {K : Type 0} → (K → Bool) → (K → Bool) → Type 0
Apart {K} f g = (x : K) → f x ≡ true → g x ≡ false

-- What is said of the parts: which kinds begin a text of one that has tokens, which trees its texts without tokens have, in front of which kinds a
-- text with this tree ends, and its rank, which falls from a part to those asked for before a token is taken. A part opens with a kind where it
-- surely takes such a token.
pub record Tables (G : Signature) : Type 1 where
  pub first : G.Part → G.Kind → Bool
  pub opens : G.Part → G.Kind → Bool
  pub none : (p : G.Part) → G.Tree p → Type 0
  pub stop : (p : G.Part) → G.Tree p → G.Kind → Bool
  pub rank : G.Part → ℕ
  pub top : ℕ

-- where the part is the next thing of a form: either it is of lower rank, or a token was taken before it
abbrev pub Falls : {G : Signature} → Tables G → (moved : Bool) → (r q : G.Part) → Type 0
Falls tables moved r q = (moved ≡ true) ⊎ (tables.rank q < tables.rank r)

-- the form surely takes a next token of the kind
pub data Opens (G : Signature) (tables : Tables G) (r : G.Part) (x : G.Kind) : Form G r → Type 0 where
  opens_take : {up : ℕ → ℕ} {items : ℕ} {test : G.Kind → Bool} {k : G.Token → Form G r} → test x ≡ true → Opens G tables r x (take up items test k)
  opens_part : {up : ℕ → ℕ} {q : G.Part} {k : G.Tree q → Form G r} → tables.opens q x ≡ true → Opens G tables r x (part up q k)
  opens_first : {test : G.Kind → Bool} {a b : Form G r} → test x ≡ true → Opens G tables r x a → Opens G tables r x (pick test a b)
  opens_second : {test : G.Kind → Bool} {a b : Form G r} → test x ≡ false → Opens G tables r x b → Opens G tables r x (pick test a b)
  opens_bar : {left : G.Kind → Bool} {e : G.Label} {k : Form G r} → left x ≡ false → Opens G tables r x k → Opens G tables r x (bar left e k)

-- A form fits in front of what its part's tree stops at: a token was taken before it in its part or not; a text of it that has tokens begins
-- with one of `first`; and where it has none, the tree is one of `none`.
pub data Fit (G : Signature) (tables : Tables G) (r : G.Part) : (moved : Bool) → (first : G.Kind → Bool) → (none : G.Tree r → Type 0) → Form G r → Type 1 where
  gives : {moved : Bool} {first : G.Kind → Bool} {none : G.Tree r → Type 0} (a : G.Tree r) → none a → Fit G tables r moved first none (give a)
  takes : {moved : Bool} {first : G.Kind → Bool} {none : G.Tree r → Type 0} {up : ℕ → ℕ} {items : ℕ} {test : G.Kind → Bool} {k : G.Token → Form G r} (t : G.Token) → test (G.kind t) ≡ true
      → Within test first → (f : G.Token → G.Kind → Bool) (z : G.Token → G.Tree r → Type 0) → ((t : G.Token) → test (G.kind t) ≡ true → Fit G tables r true (f t) (z t) (k t))
      → Fit G tables r moved first none (take up items test k)
  -- a part that has tokens
  reads : {moved : Bool} {first : G.Kind → Bool} {none : G.Tree r → Type 0} {up : ℕ → ℕ} {q : G.Part} {k : G.Tree q → Form G r} → Falls tables moved r q → ((b : G.Tree q) → tables.none q b → ⊥)
      → Within (tables.first q) first → (f : G.Tree q → G.Kind → Bool) (z : G.Tree q → G.Tree r → Type 0) → ((b : G.Tree q) → Fit G tables r true (f b) (z b) (k b))
      → ((b : G.Tree q) → Within (f b) (tables.stop q b)) → ((b : G.Tree q) (a : G.Tree r) → z b a → Within (tables.stop r a) (tables.stop q b))
      → Fit G tables r moved first none (part up q k)
  -- a part that may have none
  reads_none : {moved : Bool} {first : G.Kind → Bool} {none : G.Tree r → Type 0} {up : ℕ → ℕ} {q : G.Part} {k : G.Tree q → Form G r} → Falls tables moved r q
      → Within (tables.first q) first → (f : G.Tree q → G.Kind → Bool) (z : G.Tree q → G.Tree r → Type 0) → ((b : G.Tree q) → Fit G tables r moved (f b) (z b) (k b))
      → ((b : G.Tree q) → tables.none q b → Within (f b) first) → ((b : G.Tree q) (a : G.Tree r) → tables.none q b → z b a → none a)
      → ((b : G.Tree q) → Within (f b) (tables.stop q b)) → ((b : G.Tree q) (a : G.Tree r) → z b a → Within (tables.stop r a) (tables.stop q b))
      → Fit G tables r moved first none (part up q k)
  -- the first begins with what passes the test, and the second with nothing that does, nor does it end in front of that
  picks : {moved : Bool} {first : G.Kind → Bool} {none : G.Tree r → Type 0} {test : G.Kind → Bool} {a b : Form G r} (f h : G.Kind → Bool) (z : G.Tree r → Type 0)
      → Fit G tables r moved f (λ x. ⊥) a → Within f test → Within f first → ((x : G.Kind) → test x ≡ true → Opens G tables r x a)
      → Fit G tables r moved h z b → Apart h test → Within h first → ((x : G.Tree r) → z x → Apart (tables.stop r x) test) → ((x : G.Tree r) → z x → none x)
      → Fit G tables r moved first none (pick test a b)
  bars : {moved : Bool} {first : G.Kind → Bool} {none : G.Tree r → Type 0} {left : G.Kind → Bool} {e : G.Label} {k : Form G r} (f : G.Kind → Bool) (z : G.Tree r → Type 0)
      → Fit G tables r moved f z k → Apart f left → Within f first → Within left first → ((x : G.Tree r) → z x → Apart (tables.stop r x) left) → ((x : G.Tree r) → z x → none x)
      → Fit G tables r moved first none (bar left e k)

-- One token of lookahead reads the grammar: each form fits its part's tables, each part opens as they say and has some text, and no rank is over
-- the top.
pub record IsPredictive (G : Signature) (forms : Productions G) (tables : Tables G) : Type 1 where
  pub fits : (p : G.Part) → Fit G tables p false (tables.first p) (tables.none p) (forms p)
  pub opens : (p : G.Part) (x : G.Kind) → tables.opens p x ≡ true → Opens G tables p x (forms p)
  pub some : (p : G.Part) (l : ℕ) → (w : Word G) × (a : G.Tree p) × Reads G forms None p l w a
  pub low : (p : G.Part) → tables.rank p ≤ tables.top
