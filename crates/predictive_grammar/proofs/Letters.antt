-- The letters of a word that begins a text are told by its tokens.
use Rattle.std.proofs.Common.{◌≡◌, ℕ, ◌+◌, Bool, true, false, List, [], ◌∷◌, ◌++◌, None, Ok, refl, sym, ap, subst, ◌∙◌, append_assoc, append-nil, true≢false, arith}
use Rattle.std.proofs.lemmas.List.{append_cancel_right}
use Rattle.predictive_grammar.specs.Forms.{Signature, Form, Productions}
use Rattle.predictive_grammar.specs.Follows.{Letter, Word, raw, Follows, given, taken, read, first, second, kept, left_out, Reads}
use Rattle.predictive_grammar.specs.Steps.{Limits, Outcome}
use Rattle.predictive_grammar.specs.Reading.{reader}
use Rattle.predictive_grammar.specs.Exact.{IsWithin}
use Rattle.predictive_grammar.specs.Fit.{Within, Apart, Tables, Fit, takes, reads, reads_none, picks, bars, IsPredictive}
use Rattle.predictive_grammar.proofs.Words.{raw-append, size, within-size}
use Rattle.predictive_grammar.proofs.Texts.{Begins, first_kind, none_some}
use Rattle.predictive_grammar.proofs.Complete.{Before, Ends, whole, barred, complete}

-- Of two ways to part a list, one part in front is a prefix of the other.
pub data Parted {A : Type 0} (u v c m : List A) : Type 0 where
  short : (d : List A) → u ≡ c ++ d → m ≡ d ++ v → Parted u v c m
  far : (d : List A) → c ≡ u ++ d → v ≡ d ++ m → Parted u v c m

cons_head : {A : Type 0} (x y : A) (u v : List A) → x ∷ u ≡ y ∷ v → x ≡ y
cons_head x y u v e = cc

cons_tail : {A : Type 0} (x y : A) (u v : List A) → x ∷ u ≡ y ∷ v → u ≡ v
cons_tail x y u v e = cc

pub parted : {A : Type 0} (u v c m : List A) → u ++ v ≡ c ++ m → Parted u v c m
parted [] v c m e = far c refl e
parted (x ∷ u) v [] m e = short (x ∷ u) refl (sym e)
parted (x ∷ u) v (y ∷ c) m e = go (parted u v c m (cons_tail x y (u ++ v) (c ++ m) e))
  where
    same : x ≡ y
    same = cons_head x y (u ++ v) (c ++ m) e

    go : Parted u v c m → Parted (x ∷ u) v (y ∷ c) m
    go (short d f g) = short d (ap (λ (l : List _). x ∷ l) f ∙ ap (λ (z : _). z ∷ (c ++ d)) same) g
    go (far d f g) = far d (ap (λ (l : List _). y ∷ l) f ∙ ap (λ (z : _). z ∷ (u ++ d)) (sym same)) g

nil_cons : {A : Type 0} (x : A) (xs : List A) → [] ≡ x ∷ xs → ⊥
nil_cons x xs e = cc

nil_front : {A : Type 0} (c m : List A) → [] ≡ c ++ m → c ≡ []
nil_front [] m e = refl
nil_front (x ∷ c) m e = absurd (nil_cons x (c ++ m) e)

raw_nil : {T : Type 0} (c : List (Letter T)) → [] ≡ raw c → c ≡ []
raw_nil [] e = refl
raw_nil (x ∷ c) e = absurd (nil_cons x.token (raw c) e)

abbrev ok : {L T A : Type 0} → A × List T → Outcome L T A
ok x = Ok x

ok_is : {L T A : Type 0} (x y : A × List T) → ok {L = L} x ≡ ok y → x ≡ y
ok_is x y e = cc

ends_ok : {L T A : Type 0} (a : A) (rest : List T) (o : Outcome L T A) → Ends None a rest o → o ≡ Ok (a, rest)
ends_ok a rest o whole = refl
ends_ok a rest o (barred w j) = absurd (none_some w)

module _ (G : Signature) (forms : Productions G) (tables : Tables G) (h : IsPredictive G forms tables) where
  abbrev Stands : (G.Kind → Bool) → List G.Token → Type 0
  Stands stop rest = Before G forms tables h stop rest

  -- in front of what begins so, a part ends
  stands_front : {r : G.Part} (f stop : G.Kind → Bool) (z : G.Tree r → Type 0) (a : G.Tree r) (v e m : Word G) → v ≡ e ++ m → Begins G forms tables h f z v a → Within f stop → Stands stop (raw e)
  stands_front f stop z a v [] m eq s within = tt
  stands_front f stop z a v (x ∷ e) m eq s within = within (G.kind x.token) (subst (λ (w : Word G). Begins G forms tables h f z w a) eq s)

  module _ (q : G.Part) (l : ℕ) (room : Limits) where
    abbrev by : List G.Token → Outcome G.Label G.Token (G.Tree q)
    by i = reader G forms tables.top tables.rank room q l i

    part_read : (u : Word G) (b : G.Tree q) (rest : List G.Token) → IsWithin room u → Reads G forms None q l u b → Stands (tables.stop q b) rest → by (raw u ++ rest) ≡ Ok (b, rest)
    part_read u b rest within d before = ends_ok b rest (by (raw u ++ rest)) (complete G forms tables h room d within rest before)

    -- a text does not end within another, in front of what its part ends in front of
    no_longer : (u v c x y : Word G) (z : Letter G.Token) (a b : G.Tree q) → IsWithin room u → IsWithin room v → Reads G forms None q l u a → Reads G forms None q l v b
        → u ≡ c ++ x → raw c ≡ raw v ++ (z.token ∷ raw y) → tables.stop q b (G.kind z.token) ≡ true → ⊥
    no_longer u v c x y z a b wu wv d e f g s =
        nil_cons z.token (raw y ++ raw x)
        (ap (λ (p : G.Tree q × List G.Token). p.1) (ok_is (a, []) (b, z.token ∷ (raw y ++ raw x)) (sym (part_read u a [] wu d tt) ∙ ap by same ∙ part_read v b (z.token ∷ (raw y ++ raw x)) wv e s)))
      where
        same : raw u ++ [] ≡ raw v ++ (z.token ∷ (raw y ++ raw x))
        same = append-nil (raw u) ∙ ap raw f ∙ raw-append c x ∙ ap (λ (i : List G.Token). i ++ raw x) g ∙ append_assoc (raw v) (z.token ∷ raw y) (raw x)

  module _ (q : G.Part) (l : ℕ) (u1 u2 v1 v2 : Word G) (b1 b2 : G.Tree q) (d1 : Reads G forms None q l u1 b1) (d2 : Reads G forms None q l u2 b2)
      (inner : (c1 m1 c2 m2 : Word G) → u1 ≡ c1 ++ m1 → u2 ≡ c2 ++ m2 → raw c1 ≡ raw c2 → c1 ≡ c2)
      (next1 : (e m : Word G) → v1 ≡ e ++ m → Stands (tables.stop q b1) (raw e)) (next2 : (e m : Word G) → v2 ≡ e ++ m → Stands (tables.stop q b2) (raw e))
      (outer : b1 ≡ b2 → (e1 m1 e2 m2 : Word G) → v1 ≡ e1 ++ m1 → v2 ≡ e2 ++ m2 → raw e1 ≡ raw e2 → e1 ≡ e2) where
    room : Limits
    room = record { levels = size u1 + size u2; items = size u1 + size u2 }

    within1 : IsWithin room u1
    unfolding room
    within1 = within-size room u1 (omega arith) (omega arith)

    within2 : IsWithin room u2
    unfolding room
    within2 = within-size room u2 (omega arith) (omega arith)

    both_beyond : (c1 m1 c2 m2 y1 y2 : Word G) → raw c1 ≡ raw c2 → c1 ≡ u1 ++ y1 → v1 ≡ y1 ++ m1 → c2 ≡ u2 ++ y2 → v2 ≡ y2 ++ m2 → c1 ≡ c2
    both_beyond c1 m1 c2 m2 y1 y2 e f1 g1 f2 g2 =
        let front : raw u1 ++ raw y1 ≡ raw u2 ++ raw y2 = sym (raw-append u1 y1) ∙ sym (ap raw f1) ∙ e ∙ ap raw f2 ∙ raw-append u2 y2 in
        let out : (b1, raw y1) ≡ (b2, raw y2) = ok_is (b1, raw y1) (b2, raw y2)
        (sym (part_read q l room u1 b1 (raw y1) within1 d1 (next1 y1 m1 g1)) ∙ ap (by q l room) front ∙ part_read q l room u2 b2 (raw y2) within2 d2 (next2 y2 m2 g2)) in
        let behind : raw y1 ≡ raw y2 = ap (λ (p : G.Tree q × List G.Token). p.1) out in
        let words : u1 ≡ u2 = inner u1 [] u2 [] (sym (append-nil u1)) (sym (append-nil u2)) (append_cancel_right (raw u1) (raw u2) (raw y2) (ap (λ (i : List G.Token). raw u1 ++ i) (sym behind) ∙ front)) in
        let rests : y1 ≡ y2 = outer (ap (λ (p : G.Tree q × List G.Token). p.0) out) y1 m1 y2 m2 g1 g2 behind in
        f1 ∙ ap (λ (w : Word G). w ++ y1) words ∙ ap (λ (w : Word G). u2 ++ w) rests ∙ sym f2

    pub parts_same : (c1 m1 c2 m2 : Word G) → raw c1 ≡ raw c2 → Parted u1 v1 c1 m1 → Parted u2 v2 c2 m2 → c1 ≡ c2
    parts_same c1 m1 c2 m2 e (short x f g) (short y f2 g2) = inner c1 x c2 y f f2 e
    parts_same c1 m1 c2 m2 e (short x f g) (far [] f2 g2) = inner c1 x c2 [] f (sym (append-nil u2) ∙ sym f2 ∙ sym (append-nil c2)) e
    parts_same c1 m1 c2 m2 e (short x f g) (far (z ∷ y) f2 g2) =
        absurd (no_longer q l room u1 u2 c1 x y z b1 b2 within1 within2 d1 d2 f (e ∙ ap raw f2 ∙ raw-append u2 (z ∷ y)) (next2 (z ∷ y) m2 g2))
    parts_same c1 m1 c2 m2 e (far [] f g) (short y f2 g2) = inner c1 [] c2 y (sym (append-nil u1) ∙ sym f ∙ sym (append-nil c1)) f2 e
    parts_same c1 m1 c2 m2 e (far (z ∷ x) f g) (short y f2 g2) =
        absurd (no_longer q l room u2 u1 c2 y x z b2 b1 within2 within1 d2 d1 f2 (sym e ∙ ap raw f ∙ raw-append u1 (z ∷ x)) (next1 (z ∷ x) m1 g))
    parts_same c1 m1 c2 m2 e (far x f g) (far y f2 g2) = both_beyond c1 m1 c2 m2 x y e f g f2 g2

  -- two ways begin with different tokens
  ways_differ : {r : G.Part} (f1 h1 test : G.Kind → Bool) (z1 : G.Tree r → Type 0) (w1 w2 : Word G) (a1 a2 : G.Tree r) → Begins G forms tables h f1 (λ x. ⊥) w1 a1 → Within f1 test → Begins G forms tables h h1 z1 w2 a2 → Apart h1 test
      → (c1 m1 c2 m2 : Word G) → w1 ≡ c1 ++ m1 → w2 ≡ c2 ++ m2 → raw c1 ≡ raw c2 → c1 ≡ c2
  ways_differ f1 h1 test z1 w1 w2 a1 a2 s within t apart [] m1 c2 m2 e1 e2 e = sym (raw_nil c2 e)
  ways_differ f1 h1 test z1 w1 w2 a1 a2 s within t apart (x ∷ c1) m1 [] m2 e1 e2 e = raw_nil (x ∷ c1) (sym e)
  ways_differ f1 h1 test z1 w1 w2 a1 a2 s within t apart (x ∷ c1) m1 (y ∷ c2) m2 e1 e2 e =
      absurd (true≢false (sym (within (G.kind x.token) (subst (λ (w : Word G). Begins G forms tables h f1 (λ x. ⊥) w a1) e1 s)) ∙ ap (λ (t : G.Token). test (G.kind t)) (cons_head x.token y.token (raw c1) (raw c2) e)
      ∙ apart (G.kind y.token) (subst (λ (w : Word G). Begins G forms tables h h1 z1 w a2) e2 t)))

  abbrev Same : (w1 w2 : Word G) → Type 0
  Same w1 w2 = (c1 m1 c2 m2 : Word G) → w1 ≡ c1 ++ m1 → w2 ≡ c2 ++ m2 → raw c1 ≡ raw c2 → c1 ≡ c2

  turned : (w1 w2 : Word G) → Same w1 w2 → Same w2 w1
  turned w1 w2 s c1 m1 c2 m2 e1 e2 e = sym (s c2 m2 c1 m1 e2 e1 (sym e))

  taken_same : (level items : ℕ) (t1 t2 : G.Token) (w1 w2 : Word G) → (t1 ≡ t2 → Same w1 w2) → Same (record { token = t1; level = level; items = items } ∷ w1) (record { token = t2; level = level; items = items } ∷ w2)
  taken_same level items t1 t2 w1 w2 s [] m1 c2 m2 e1 e2 e = sym (raw_nil c2 e)
  taken_same level items t1 t2 w1 w2 s (x ∷ c1) m1 [] m2 e1 e2 e = raw_nil (x ∷ c1) (sym e)
  taken_same level items t1 t2 w1 w2 s (x ∷ c1) m1 (y ∷ c2) m2 e1 e2 e =
      let letter1 : record { token = t1; level = level; items = items } ≡ x = cons_head (record { token = t1; level = level; items = items }) x w1 (c1 ++ m1) e1 in
      let letter2 : record { token = t2; level = level; items = items } ≡ y = cons_head (record { token = t2; level = level; items = items }) y w2 (c2 ++ m2) e2 in
      let tokens : t1 ≡ t2 = ap (λ (x : Letter G.Token). x.token) letter1 ∙ cons_head x.token y.token (raw c1) (raw c2) e ∙ sym (ap (λ (x : Letter G.Token). x.token) letter2) in
      let rests : c1 ≡ c2 = s tokens c1 m1 c2 m2 (cons_tail (record { token = t1; level = level; items = items }) x w1 (c1 ++ m1) e1) (cons_tail (record { token = t2; level = level; items = items }) y w2 (c2 ++ m2) e2)
      (cons_tail x.token y.token (raw c1) (raw c2) e) in
      let letters : x ≡ y = sym letter1 ∙ ap (λ (t : G.Token). record { token = t; level = level; items = items }) tokens ∙ letter2 in
      ap (λ (z : Letter G.Token). z ∷ c1) letters ∙ ap (λ (w : Word G). y ∷ w) rests

  pub letters : {r : G.Part} {form : Form G r} {l : ℕ} {w1 w2 : Word G} {a1 a2 : G.Tree r} → Follows G forms None r form l w1 a1 → Follows G forms None r form l w2 a2
      → (moved : Bool) (f : G.Kind → Bool) (none : G.Tree r → Type 0) → Fit G tables r moved f none form → Same w1 w2
  letters (given a) (given _) moved f none fit = λ c1 m1 c2 m2 e1 e2 e. nil_front c1 m1 e1 ∙ sym (nil_front c2 m2 e2)
  letters (taken {r = r} {l = l} {up = up} {items = items} {k = k} {w = w1} t e d) (taken {w = w2} {a = a2} t2 e2 d2) moved f none (takes t0 e0 in_first fs zs rests) =
      taken_same (up l) items t t2 w1 w2 (λ same. letters d (subst (λ (t : G.Token). Follows G forms None r (k t) l w2 a2) (sym same) d2) true (fs t) (zs t) (rests t e))
  letters (read {r = r} {l = l} {up = up} {q = q} {k = k} {u = u1} {v = v1} {b = b1} {a = a1} d c) (read {u = u2} {v = v2} {b = b2} {a = a2} d2 c2) moved f none (reads falls null in_first fs zs rests st stops) = λ c1' m1 c2' m2 e1 e2 e.
      parts_same q (up l) u1 u2 v1 v2 b1 b2 d d2 (letters d d2 false (tables.first q) (tables.none q) (h.fits q))
      (λ x m eq. stands_front (fs b1) (tables.stop q b1) (zs b1) a1 v1 x m eq (first_kind G forms tables h c true (fs b1) (zs b1) (rests b1)) (st b1))
      (λ x m eq. stands_front (fs b2) (tables.stop q b2) (zs b2) a2 v2 x m eq (first_kind G forms tables h c2 true (fs b2) (zs b2) (rests b2)) (st b2))
      (λ same. letters c (subst (λ (b : G.Tree q). Follows G forms None r (k b) l v2 a2) (sym same) c2) true (fs b1) (zs b1) (rests b1)) c1' m1 c2' m2 e (parted u1 v1 c1' m1 e1) (parted u2 v2 c2' m2 e2)
  letters (read {r = r} {l = l} {up = up} {q = q} {k = k} {u = u1} {v = v1} {b = b1} {a = a1} d c) (read {u = u2} {v = v2} {b = b2} {a = a2} d2 c2) moved f none (reads_none falls in_first fs zs rests more some st stops) = λ c1' m1 c2' m2 e1 e2 e.
      parts_same q (up l) u1 u2 v1 v2 b1 b2 d d2 (letters d d2 false (tables.first q) (tables.none q) (h.fits q))
      (λ x m eq. stands_front (fs b1) (tables.stop q b1) (zs b1) a1 v1 x m eq (first_kind G forms tables h c moved (fs b1) (zs b1) (rests b1)) (st b1))
      (λ x m eq. stands_front (fs b2) (tables.stop q b2) (zs b2) a2 v2 x m eq (first_kind G forms tables h c2 moved (fs b2) (zs b2) (rests b2)) (st b2))
      (λ same. letters c (subst (λ (b : G.Tree q). Follows G forms None r (k b) l v2 a2) (sym same) c2) moved (fs b1) (zs b1) (rests b1)) c1' m1 c2' m2 e (parted u1 v1 c1' m1 e1) (parted u2 v2 c2' m2 e2)
  letters (first d) (first d2) moved f none (picks f1 h1 z1 fit1 w1 in1 opens fit2 apart in2 stops some) = letters d d2 moved f1 (λ x. ⊥) fit1
  letters (second d) (second d2) moved f none (picks f1 h1 z1 fit1 w1 in1 opens fit2 apart in2 stops some) = letters d d2 moved h1 z1 fit2
  letters (first {g = g} {w = w1} {a = a1} d) (second {w = w2} {a = a2} d2) moved f none (picks f1 h1 z1 fit1 w in1 opens fit2 apart in2 stops some) =
      ways_differ f1 h1 g z1 w1 w2 a1 a2 (first_kind G forms tables h d moved f1 (λ x. ⊥) fit1) w (first_kind G forms tables h d2 moved h1 z1 fit2) apart
  letters (second {g = g} {w = w1} {a = a1} d) (first {w = w2} {a = a2} d2) moved f none (picks f1 h1 z1 fit1 w in1 opens fit2 apart in2 stops some) =
      turned w2 w1 (ways_differ f1 h1 g z1 w2 w1 a2 a1 (first_kind G forms tables h d2 moved f1 (λ x. ⊥) fit1) w (first_kind G forms tables h d moved h1 z1 fit2) apart)
  letters (kept d) (kept d2) moved f none (bars f1 z1 fit apart in_first left_in stops some) = letters d d2 moved f1 z1 fit
  letters (left_out t e lefts d) d2 moved f none fit = absurd (none_some e)
  letters (kept d) (left_out t e lefts d2) moved f none fit = absurd (none_some e)
