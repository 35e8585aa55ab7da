-- Texts: with which tokens they begin, that each form has one, and that a widened grammar has those of the grammar.
use Rattle.std.proofs.Common.{◌≡◌, ℕ, Bool, true, false, [], ◌∷◌, ◌++◌, Option, Some, None}
use Rattle.predictive_grammar.specs.Forms.{Signature, Form, Productions}
use Rattle.predictive_grammar.specs.Follows.{Word, Follows, given, taken, read, first, second, kept, left_out}
use Rattle.predictive_grammar.specs.Fit.{Within, Tables, Fit, gives, takes, reads, reads_none, picks, bars, IsPredictive}

pub none_some : {A : Type 0} {a : A} → None ≡ Some a → ⊥
none_some e = cc

module _ (G : Signature) (forms : Productions G) where
  pub wider : {r : G.Part} {form : Form G r} {l : ℕ} {w : Word G} {a : G.Tree r} (wide : Option G.Label) → Follows G forms None r form l w a → Follows G forms wide r form l w a
  wider wide (given a) = given a
  wider wide (taken t e d) = taken t e (wider wide d)
  wider wide (read d c) = read (wider wide d) (wider wide c)
  wider wide (first d) = first (wider wide d)
  wider wide (second d) = second (wider wide d)
  wider wide (kept d) = kept (wider wide d)
  wider wide (left_out t e f d) = absurd (none_some e)

  module _ (tables : Tables G) (h : IsPredictive G forms tables) where
    -- the word begins with one of the kinds, or is empty, and then the tree is one of those
    abbrev pub Begins : {r : G.Part} → (G.Kind → Bool) → (G.Tree r → Type 0) → Word G → G.Tree r → Type 0
    Begins f none [] a = none a
    Begins f none (x ∷ w) a = f (G.kind x.token) ≡ true

    begins_more : {r : G.Part} (f g : G.Kind → Bool) (none more : G.Tree r → Type 0) (w : Word G) (a : G.Tree r) → Within f g → (none a → more a) → Begins f none w a → Begins g more w a
    begins_more f g none more [] a within z b = z b
    begins_more f g none more (x ∷ w) a within z b = within (G.kind x.token) b

    -- behind a part that has tokens
    begins_read : {q r : G.Part} (f : G.Kind → Bool) (none : G.Tree r → Type 0) (u v : Word G) (b : G.Tree q) (a : G.Tree r) → (tables.none q b → ⊥) → Within (tables.first q) f
        → Begins (tables.first q) (tables.none q) u b → Begins f none (u ++ v) a
    begins_read f none [] v b a null within e = absurd (null e)
    begins_read f none (x ∷ u) v b a null within e = within (G.kind x.token) e

    -- behind a part that may have none
    begins_read_none : {q r : G.Part} (f g : G.Kind → Bool) (none z : G.Tree r → Type 0) (u v : Word G) (b : G.Tree q) (a : G.Tree r) → Within (tables.first q) f → (tables.none q b → Within g f) → (tables.none q b → z a → none a)
        → Begins (tables.first q) (tables.none q) u b → Begins g z v a → Begins f none (u ++ v) a
    begins_read_none f g none z [] v b a within more some e c = begins_more g f z none v a (more e) (some e) c
    begins_read_none f g none z (x ∷ u) v b a within more some e c = within (G.kind x.token) e

    pub first_kind : {wide : Option G.Label} {r : G.Part} {form : Form G r} {l : ℕ} {w : Word G} {a : G.Tree r} → Follows G forms wide r form l w a
        → (moved : Bool) (f : G.Kind → Bool) (none : G.Tree r → Type 0) → Fit G tables r moved f none form → Begins f none w a
    first_kind (given a) moved f none (gives b n) = n
    first_kind (taken t e d) moved f none (takes t0 e0 within fs zs rest) = within (G.kind t) e
    first_kind (read {q = q} {u = u} {v = v} {b = b} {a = a} d c) moved f none (reads falls null within fs zs rest st stops) =
        begins_read f none u v b a (null b) within (first_kind d false (tables.first q) (tables.none q) (h.fits q))
    first_kind (read {q = q} {u = u} {v = v} {b = b} {a = a} d c) moved f none (reads_none falls within fs zs rest more some st stops) =
        begins_read_none f (fs b) none (zs b) u v b a within (more b) (some b a) (first_kind d false (tables.first q) (tables.none q) (h.fits q)) (first_kind c moved (fs b) (zs b) (rest b))
    first_kind (first {w = w} {a = a} d) moved f none (picks f1 h1 z1 fit1 w1 within1 opens fit2 apart within2 stops some) =
        begins_more f1 f (λ x. ⊥) none w a within1 (λ e. absurd e) (first_kind d moved f1 (λ x. ⊥) fit1)
    first_kind (second {w = w} {a = a} d) moved f none (picks f1 h1 z1 fit1 w1 within1 opens fit2 apart within2 stops some) =
        begins_more h1 f z1 none w a within2 (some a) (first_kind d moved h1 z1 fit2)
    first_kind (kept {w = w} {a = a} d) moved f none (bars f1 z1 fit apart within left stops some) =
        begins_more f1 f z1 none w a within (some a) (first_kind d moved f1 z1 fit)
    first_kind (left_out t e lefts d) moved f none (bars f1 z1 fit apart within left stops some) = left (G.kind t) lefts

    -- a text of the form
    pub record Possible (r : G.Part) (form : Form G r) (l : ℕ) : Type 0 where
      pub word : Word G
      pub value : G.Tree r
      pub text : Follows G forms None r form l word value

    pub possible : {r : G.Part} {form : Form G r} (l : ℕ) (moved : Bool) (f : G.Kind → Bool) (none : G.Tree r → Type 0) → Fit G tables r moved f none form → Possible r form l
    possible l moved f none (gives a n) = record { word = []; value = a; text = given a }
    possible l moved f none (takes {up = up} {items = items} t e within fs zs rest) =
        let s = possible l true (fs t) (zs t) (rest t e) in record { word = record { token = t; level = up l; items = items } ∷ s.word; value = s.value; text = taken t e s.text }
    possible l moved f none (reads {up = up} {q = q} falls null within fs zs rest st stops) =
        let o = h.some q (up l) in
        let s = possible l true (fs o.1) (zs o.1) (rest o.1) in record { word = o.0 ++ s.word; value = s.value; text = read o.2 s.text }
    possible l moved f none (reads_none {up = up} {q = q} falls within fs zs rest more some st stops) =
        let o = h.some q (up l) in
        let s = possible l moved (fs o.1) (zs o.1) (rest o.1) in record { word = o.0 ++ s.word; value = s.value; text = read o.2 s.text }
    possible l moved f none (picks f1 h1 z1 fit1 w1 within1 opens fit2 apart within2 stops some) =
        let s = possible l moved f1 (λ x. ⊥) fit1 in record { word = s.word; value = s.value; text = first s.text }
    possible l moved f none (bars f1 z1 fit apart within left stops some) =
        let s = possible l moved f1 z1 fit in record { word = s.word; value = s.value; text = kept s.text }
