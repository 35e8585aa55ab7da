-- Forms read over tokens alone, by what is said of the parts in them: texts are what every such reading makes of them, and the other way round.
use Rattle.std.proofs.Common.{◌≡◌, ℕ, Bool, true, [], ◌∷◌, ◌++◌, None, refl, sym, ap, subst, ◌∙◌, append-nil}
use Rattle.predictive_grammar.specs.Forms.{Form, give, take, part, pick}
use Rattle.predictive_grammar.specs.Follows.{Follows, given, taken, read, first, second, kept, left_out, raw}
use Rattle.predictive_grammar.specs.Follows as letters
use Rattle.predictive_grammar.specs.Exact.{IsText}
use Rattle.predictive_grammar.proofs.Words.{raw-append}
use Rattle.c_tree.specs.Words.{Token, Word}
use Rattle.c_tree.specs.Names.{Names}
use Rattle.c_grammar.specs.Sorts.{Kind, kind}
use Rattle.c_grammar.specs.Parts.{What, Part, tree_of, at}
use Rattle.c_grammar.specs.Grammar.{C, form, forms}

-- what is said of the texts of each part
abbrev pub Meanings : Type 1
Meanings = (p : Part) → Word → tree_of p.what → Type 0

-- the tokens are a text of the form, by what is said of the parts in it
pub data Told (M : Meanings) (r : Part) : Form C r → Word → tree_of r.what → Type 0 where
  gave : (a : tree_of r.what) → Told M r (give a) [] a
  took : {up : ℕ → ℕ} {items : ℕ} {test : Kind → Bool} {k : Token → Form C r} {w : Word} {a : tree_of r.what} (t : Token) → test (kind t) ≡ true → Told M r (k t) w a → Told M r (take up items test k) (t ∷ w) a
  got : {up : ℕ → ℕ} {q : Part} {k : tree_of q.what → Form C r} {u v : Word} {a : tree_of r.what} (b : tree_of q.what) → M q u b → Told M r (k b) v a → Told M r (part up q k) (u ++ v) a
  one : {test : Kind → Bool} {x y : Form C r} {w : Word} {a : tree_of r.what} → Told M r x w a → Told M r (pick test x y) w a
  other : {test : Kind → Bool} {x y : Form C r} {w : Word} {a : tree_of r.what} → Told M r y w a → Told M r (pick test x y) w a

-- what is said of a part follows from its form
abbrev pub Closed : Meanings → Type 0
Closed M = (p : Part) (w : Word) (a : tree_of p.what) → Told M p (forms p) w a → M p w a

-- a part behind which nothing stands
pub last : {M : Meanings} {r q : Part} {up : ℕ → ℕ} {k : tree_of q.what → Form C r} {u : Word} {a : tree_of r.what} (b : tree_of q.what) → M q u b → Told M r (k b) [] a → Told M r (part up q k) u a
last {M = M} {r = r} {q = q} {up = up} {k = k} {u = u} {a = a} b m d = subst (λ (w : Word). Told M r (part up q k) w a) (append-nil u) (got b m d)

-- 1. Texts are told

module _ (M : Meanings) (closed : Closed M) where
  pub told : {r : Part} {form : Form C r} {l : ℕ} {w : letters.Word C} {a : tree_of r.what} → Follows C forms None r form l w a → Told M r form (raw w) a
  told (given a) = gave a
  told (taken t e d) = took t e (told d)
  told {r = r} {form = form} (read {q = q} {u = u} {v = v} {b = b} {a = a} d c) = subst (λ (w : Word). Told M r form w a) (sym (raw-append u v)) (got b (closed q (raw u) b (told d)) (told c))
  told (first d) = one (told d)
  told (second d) = other (told d)
  told (kept {e = e} d) = elim e [ ]
  told (left_out {e = e} t w f d) = elim e [ ]

  pub sound : (p : Part) (l : ℕ) (ts : Word) (a : tree_of p.what) → IsText C forms p l ts a → M p ts a
  sound p l ts a x = subst (λ (w : Word). M p w a) x.1 (closed p (raw x.0) a (told x.2))

-- 2. What is told, is a text

-- a text of the part, at each level
abbrev pub Texts : Meanings
Texts p w a = (l : ℕ) → IsText C forms p l w a

-- a text of the form at a level
abbrev FormText : (r : Part) → Form C r → ℕ → Word → tree_of r.what → Type 0
FormText r form l w a = (x : letters.Word C) × (raw x ≡ w) × Follows C forms None r form l x a

pub written : {r : Part} {form : Form C r} {w : Word} {a : tree_of r.what} → Told Texts r form w a → (l : ℕ) → FormText r form l w a
written (gave a) l = ([], refl, given a)
written (took {up = up} {items = items} t e d) l = let x = written d l in (record { token = t; level = up l; items = items } ∷ x.0, ap (λ (w : Word). t ∷ w) x.1, taken t e x.2)
written (got {up = up} {u = u} {v = v} b m d) l =
    let x = m (up l) in let y = written d l in (x.0 ++ y.0, raw-append x.0 y.0 ∙ ap (λ (u : Word). u ++ raw y.0) x.1 ∙ ap (λ (w : Word). u ++ w) y.1, read x.2 y.2)
written (one d) l = let x = written d l in (x.0, x.1, first x.2)
written (other d) l = let x = written d l in (x.0, x.1, second x.2)

pub text_of : (ns : Names) (w : What) {ts : Word} {a : tree_of w} → Told Texts (at ns w) (form ns w) ts a → Texts (at ns w) ts a
text_of ns w d l = written d l
