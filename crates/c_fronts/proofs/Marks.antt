-- Two texts of a part that begin alike: what is told of their trees up to there is the same, where each form is marked with what is told so far.
use Rattle.std.proofs.Common.{◌≡◌, ℕ, ◌+◌, Bool, true, false, ◌||◌, List, [], ◌∷◌, ◌++◌, None, Ok, refl, sym, ap, subst, ◌∙◌, append_assoc}
use Rattle.std.proofs.Common.{append-nil, true≢false, arith}
use Rattle.predictive_grammar.specs.Forms.{Signature, Form, give, take, part, pick, Productions}
use Rattle.predictive_grammar.specs.Follows.{Word, raw, Follows, given, taken, read, first, second, kept, left_out, Reads}
use Rattle.predictive_grammar.specs.Steps.{Limits, Outcome}
use Rattle.predictive_grammar.specs.Reading.{reader}
use Rattle.predictive_grammar.specs.Exact.{IsWithin}
use Rattle.predictive_grammar.specs.Fit.{Within, Apart, Tables, Fit, takes, reads, reads_none, picks, IsPredictive}
use Rattle.predictive_grammar.proofs.Words.{raw-append, size, within-size}
use Rattle.predictive_grammar.proofs.Texts.{Begins, first_kind, none_some}
use Rattle.predictive_grammar.proofs.Letters.{Parted, short, far, parted}
use Rattle.predictive_grammar.proofs.Complete.{Before, Ends, whole, barred, complete}

-- each of a list is so
abbrev pub Each : {A : Type 0} → (A → Type 0) → List A → Type 0
Each P [] = Unit {0}
Each P (x ∷ w) = P x × Each P w

pub each_first : {A : Type 0} (P : A → Type 0) (u v : List A) → Each P (u ++ v) → Each P u
each_first P [] v e = tt
each_first P (x ∷ u) v e = (e.0, each_first P u v e.1)

pub each_second : {A : Type 0} (P : A → Type 0) (u v : List A) → Each P (u ++ v) → Each P v
each_second P [] v e = e
each_second P (x ∷ u) v e = each_second P u v e.1

-- the last of a list, if there is one, is so
abbrev pub Final : {A : Type 0} → (A → Type 0) → List A → Type 0
Final P [] = Unit {0}
Final P (x ∷ []) = P x
Final P (x ∷ y ∷ w) = Final P (y ∷ w)

pub final_tail : {A : Type 0} (P : A → Type 0) (x : A) (w : List A) → Final P (x ∷ w) → Final P w
final_tail P x [] f = tt
final_tail P x (y ∷ w) f = f

pub final_second : {A : Type 0} (P : A → Type 0) (u v : List A) → Final P (u ++ v) → Final P v
final_second P [] v f = f
final_second P (x ∷ u) v f = final_second P u v (final_tail P x (u ++ v) f)

nil_cons : {A : Type 0} (x : A) (xs : List A) → [] ≡ x ∷ xs → ⊥
nil_cons x xs e = cc

head_same : {A : Type 0} (x y : A) (u v : List A) → x ∷ u ≡ y ∷ v → x ≡ y
head_same x y u v e = cc

tail_same : {A : Type 0} (x y : A) (u v : List A) → x ∷ u ≡ y ∷ v → u ≡ v
tail_same x y u v e = cc

abbrev ok : {L T A : Type 0} → A × List T → Outcome L T A
ok x = Ok x

ok_is : {L T A : Type 0} (x y : A × List T) → ok {L = L} x ≡ ok y → x ≡ y
ok_is x y e = cc

ends_ok : {L T A : Type 0} (a : A) (rest : List T) (o : Outcome L T A) → Ends None a rest o → o ≡ Ok (a, rest)
ends_ok a rest o whole = refl
ends_ok a rest o (barred w j) = absurd (none_some w)

-- What is told of the trees of each part in a context: what is told before the part is read, what must hold where the front ends before it, what
-- holds where the front ends in it or behind it, and what always holds.
pub record Telling (G : Signature) : Type 1 where
  pub Behind : G.Token → Type 0
  pub Last : G.Token → Type 0
  pub behind_last : (t : G.Token) → Behind t → Last t
  pub Context : G.Part → Type 0
  pub tells : (p : G.Part) → Context p → G.Tree p → Bool
  pub start : (p : G.Part) → Context p → Bool
  pub Ready : (p : G.Part) → Context p → Type 0
  pub Done : (p : G.Part) → Context p → G.Tree p → Type 0
  pub Fact : (p : G.Part) → Context p → G.Tree p → Type 0

-- A form with what is told where the front ends in front of it, and what then holds.
pub data Marked (G : Signature) (T : Telling G) (r : G.Part) (c : T.Context r) : Bool → Type 0 → Form G r → Type 1 where
  m_give : {told : Bool} {over : Type 0} (a : G.Tree r) → T.Fact r c a → (over → T.tells r c a ≡ told) → (over → T.Done r c a)
      → Marked G T r c told over (give a)
  m_take : {told : Bool} {over : Type 0} {up : ℕ → ℕ} {items : ℕ} {test : G.Kind → Bool} {k : G.Token → Form G r} (next : G.Token → Bool)
      → ((t : G.Token) → T.Behind t → over → next t ≡ told)
      → ((t : G.Token) → test (G.kind t) ≡ true → Marked G T r c (next t) (T.Last t) (k t)) → Marked G T r c told over (take up items test k)
  m_part : {told : Bool} {over : Type 0} {up : ℕ → ℕ} {q : G.Part} {k : G.Tree q → Form G r} (d : T.Context q) (past : Bool) (next : G.Tree q → Bool)
      → (over → (told ≡ (past || T.start q d)) × T.Ready q d)
      → ((b : G.Tree q) → T.Fact q d b → T.Done q d b → next b ≡ (past || T.tells q d b))
      → ((b : G.Tree q) → T.Fact q d b → Marked G T r c (next b) (T.Done q d b) (k b)) → Marked G T r c told over (part up q k)
  m_pick : {told : Bool} {over : Type 0} {test : G.Kind → Bool} {a b : Form G r} → Marked G T r c told over a → Marked G T r c told over b
      → Marked G T r c told over (pick test a b)

-- every part is marked
abbrev pub Marks : (G : Signature) → Productions G → Telling G → Type 1
Marks G forms T = (p : G.Part) (c : T.Context p) → Marked G T p c (T.start p c) (T.Ready p c) (forms p)

module _ (G : Signature) (forms : Productions G) (T : Telling G) (marks : Marks G forms T) where
  pub fact : {r : G.Part} {form : Form G r} {l : ℕ} {w : Word G} {a : G.Tree r} {c : T.Context r} {told : Bool} {over : Type 0}
      → Follows G forms None r form l w a → Marked G T r c told over form → T.Fact r c a
  fact (given a) (m_give _ f e d) = f
  fact (taken t e d) (m_take next same rest) = fact d (rest t e)
  fact (read {q = q} {b = b} d d2) (m_part c past next start done rest) = fact d2 (rest b (fact d (marks q c)))
  fact (first d) (m_pick m m2) = fact d m
  fact (second d) (m_pick m m2) = fact d m2
  fact (kept d) m = elim m [ ]
  fact (left_out t _ _ d) m = elim m [ ]

  -- what holds of a tree where the front ends in front of its text
  pub record Free (r : G.Part) (c : T.Context r) (told : Bool) (a : G.Tree r) : Type 0 where
    pub same : T.tells r c a ≡ told
    pub done : T.Done r c a

  pub free : {r : G.Part} {form : Form G r} {l : ℕ} {w : Word G} {a : G.Tree r} {c : T.Context r} {told : Bool} {over : Type 0}
      → Follows G forms None r form l w a → Marked G T r c told over form
      → over → Each T.Behind (raw w) → Free r c told a
  free (given a) (m_give _ f e d) o b = record { same = e o; done = d o }
  free (taken t e d) (m_take next same rest) o b = let x = free d (rest t e)
      (T.behind_last t b.0) b.1 in record { same = x.same ∙ same t b.0 o; done = x.done }
  free (read {q = q} {u = u} {v = v} {b = y} d d2) (m_part c past next start done rest) o b =
      let all : Each T.Behind (raw u ++ raw v) = subst (λ (z : List G.Token). Each T.Behind z) (raw-append u v) b in
      let x = free d (marks q c) (start o).1 (each_first T.Behind (raw u) (raw v) all) in
      let f = fact d (marks q c) in
      let z = free d2 (rest y f) x.done (each_second T.Behind (raw u) (raw v) all) in
      record { same = z.same ∙ done y f x.done ∙ ap (λ (t : Bool). past || t) x.same ∙ sym (start o).0; done = z.done }
  free (first d) (m_pick m m2) o b = free d m o b
  free (second d) (m_pick m m2) o b = free d m2 o b
  free (kept d) m o b = elim m [ ]
  free (left_out t _ _ d) m o b = elim m [ ]

  -- what holds of two trees whose texts begin with the same front
  pub record Alike (r : G.Part) (c : T.Context r) (a b : G.Tree r) : Type 0 where
    pub same : T.tells r c a ≡ T.tells r c b
    pub one : T.Done r c a
    pub other : T.Done r c b

  both_free : {r : G.Part} {c : T.Context r} {told : Bool} (a b : G.Tree r) → Free r c told a → Free r c told b → Alike r c a b
  both_free a b x y = record { same = x.same ∙ sym y.same; one = x.done; other = y.done }

  module _ (tables : Tables G) (h : IsPredictive G forms tables) where
    abbrev Stands : (G.Kind → Bool) → List G.Token → Type 0
    Stands stop rest = Before G forms tables h stop rest

    -- in front of what begins so, a part ends
    stands_first : {r : G.Part} (f stop : G.Kind → Bool) (z : G.Tree r → Type 0) (a : G.Tree r) (v : Word G) (y m : List G.Token) → raw v ≡ y ++ m
        → Begins G forms tables h f z v a → Within f stop → Stands stop y
    stands_first f stop z a v [] m e s within = tt
    stands_first f stop z a [] (t ∷ y) m e s within = absurd (nil_cons t (y ++ m) e)
    stands_first f stop z a (x ∷ v) (t ∷ y) m e s within = subst (λ (t : G.Token). stop (G.kind t) ≡ true) (head_same x.token t (raw v) (y ++ m) e)
        (within (G.kind x.token) s)

    module _ (q : G.Part) (l : ℕ) (room : Limits) where
      abbrev by : List G.Token → Outcome G.Label G.Token (G.Tree q)
      by i = reader G forms tables.top tables.rank room q l i

      part_read : (u : Word G) (b : G.Tree q) (rest : List G.Token) → IsWithin room u → Reads G forms None q l u b → Stands (tables.stop q b) rest
          → by (raw u ++ rest) ≡ Ok (b, rest)
      part_read u b rest within d before = ends_ok b rest (by (raw u ++ rest)) (complete G forms tables h room d within rest before)

      -- a text does not end within another, in front of what its part ends in front of
      no_longer : (u v : Word G) (x y z : List G.Token) (t : G.Token) (a b : G.Tree q) → IsWithin room u → IsWithin room v → Reads G forms None q l u a
          → Reads G forms None q l v b
          → raw u ≡ x ++ y → x ≡ raw v ++ (t ∷ z) → tables.stop q b (G.kind t) ≡ true → ⊥
      no_longer u v x y z t a b wu wv d e f g s =
          nil_cons t (z ++ y) (ap (λ (p : G.Tree q × List G.Token). p.1)
          (ok_is (a, []) (b, t ∷ (z ++ y)) (sym (part_read u a [] wu d tt) ∙ ap by same ∙ part_read v b (t ∷ (z ++ y)) wv e s)))
        where
          same : raw u ++ [] ≡ raw v ++ (t ∷ (z ++ y))
          same = append-nil (raw u) ∙ f ∙ ap (λ (i : List G.Token). i ++ y) g ∙ append_assoc (raw v) (t ∷ z) y

    -- Two parts with what follows, in front of which each ends: what is known of texts of the part, and of what follows one tree.
    module _ (q : G.Part) (l : ℕ) (u1 u2 v1 v2 : Word G) (b1 b2 : G.Tree q) (d1 : Reads G forms None q l u1 b1) (d2 : Reads G forms None q l u2 b2)
        (next1 : (y m : List G.Token) → raw v1 ≡ y ++ m → Stands (tables.stop q b1) y)
        (next2 : (y m : List G.Token) → raw v2 ≡ y ++ m → Stands (tables.stop q b2) y)
        (Goal : Type 0) (x m1 m2 : List G.Token) (behind1 : Each T.Behind m1) (behind2 : Each T.Behind m2)
        (split : (y1 y2 : List G.Token) → raw u1 ≡ x ++ y1 → raw u2 ≡ x ++ y2 → Each T.Behind y1 → Each T.Behind y2 → Each T.Behind (raw v1)
        → Each T.Behind (raw v2) → Goal)
        (on : b1 ≡ b2 → (t : G.Token) (y : List G.Token) → x ≡ raw u1 ++ (t ∷ y) → raw v1 ≡ (t ∷ y) ++ m1 → raw v2 ≡ (t ∷ y) ++ m2 → Goal) where
      room : Limits
      room = record { levels = size u1 + size u2; items = size u1 + size u2 }

      within1 : IsWithin room u1
      unfolding room
      within1 = within-size room u1 (omega arith) (omega arith)

      within2 : IsWithin room u2
      unfolding room
      within2 = within-size room u2 (omega arith) (omega arith)

      at_end : (u y : List G.Token) → x ≡ u ++ y → y ≡ [] → u ≡ x ++ []
      at_end u y e n = sym (append-nil u) ∙ ap (λ (z : List G.Token). u ++ z) (sym n) ∙ sym e ∙ sym (append-nil x)

      beyond : (y1 y2 : List G.Token) → x ≡ raw u1 ++ y1 → raw v1 ≡ y1 ++ m1 → x ≡ raw u2 ++ y2 → raw v2 ≡ y2 ++ m2 → Goal
      beyond y1 y2 f1 g1 f2 g2 = go y1 y2 f1 g1 f2 g2 (ap (λ (p : G.Tree q × List G.Token). p.0) out) (ap (λ (p : G.Tree q × List G.Token). p.1) out)
        where
          out : ◌≡◌ {A = G.Tree q × List G.Token} (b1, y1) (b2, y2)
          out = ok_is (b1, y1) (b2, y2) (sym (part_read q l room u1 b1 y1 within1 d1 (next1 y1 m1 g1)) ∙ ap (by q l room) (sym f1 ∙ f2)
              ∙ part_read q l room u2 b2 y2 within2 d2 (next2 y2 m2 g2))

          go : (y1 y2 : List G.Token) → x ≡ raw u1 ++ y1 → raw v1 ≡ y1 ++ m1 → x ≡ raw u2 ++ y2 → raw v2 ≡ y2 ++ m2 → b1 ≡ b2 → y1 ≡ y2 → Goal
          go [] y2 f1 g1 f2 g2 same e = split [] [] (at_end (raw u1) [] f1 refl) (at_end (raw u2) y2 f2 (sym e)) tt tt
              (subst (λ (z : List G.Token). Each T.Behind z) (sym g1) behind1)
              (subst (λ (z : List G.Token). Each T.Behind z) (sym (g2 ∙ ap (λ (z : List G.Token). z ++ m2) (sym e))) behind2)
          go (t ∷ y1) y2 f1 g1 f2 g2 same e = on same t y1 f1 g1 (g2 ∙ ap (λ (z : List G.Token). z ++ m2) (sym e))

      pub two_parts : Parted (raw u1) (raw v1) x m1 → Parted (raw u2) (raw v2) x m2 → Goal
      two_parts (short y f g) (short z f2 g2) =
          split y z f f2 (each_first T.Behind y (raw v1) (subst (λ (z : List G.Token). Each T.Behind z) g behind1))
          (each_first T.Behind z (raw v2) (subst (λ (z : List G.Token). Each T.Behind z) g2 behind2))
          (each_second T.Behind y (raw v1) (subst (λ (z : List G.Token). Each T.Behind z) g behind1))
          (each_second T.Behind z (raw v2) (subst (λ (z : List G.Token). Each T.Behind z) g2 behind2))
      two_parts (short y f g) (far [] f2 g2) =
          split y [] f (at_end (raw u2) [] f2 refl) (each_first T.Behind y (raw v1) (subst (λ (z : List G.Token). Each T.Behind z) g behind1)) tt
          (each_second T.Behind y (raw v1) (subst (λ (z : List G.Token). Each T.Behind z) g behind1))
          (subst (λ (z : List G.Token). Each T.Behind z) (sym g2) behind2)
      two_parts (short y f g) (far (t ∷ z) f2 g2) = absurd (no_longer q l room u1 u2 x y z t b1 b2 within1 within2 d1 d2 f f2 (next2 (t ∷ z) m2 g2))
      two_parts (far [] f g) (short z f2 g2) =
          split [] z (at_end (raw u1) [] f refl) f2 tt (each_first T.Behind z (raw v2) (subst (λ (z : List G.Token). Each T.Behind z) g2 behind2))
          (subst (λ (z : List G.Token). Each T.Behind z) (sym g) behind1)
          (each_second T.Behind z (raw v2) (subst (λ (z : List G.Token). Each T.Behind z) g2 behind2))
      two_parts (far (t ∷ y) f g) (short z f2 g2) = absurd (no_longer q l room u2 u1 x z y t b2 b1 within2 within1 d2 d1 f2 f (next1 (t ∷ y) m1 g))
      two_parts (far y f g) (far z f2 g2) = beyond y z f g f2 g2

    -- two ways begin with different tokens
    ways_differ : {r : G.Part} (f1 h1 test : G.Kind → Bool) (z1 : G.Tree r → Type 0) (w1 w2 : Word G) (a1 a2 : G.Tree r)
        → Begins G forms tables h f1 (λ x. ⊥) w1 a1 → Within f1 test → Begins G forms tables h h1 z1 w2 a2 → Apart h1 test
        → (t : G.Token) (x m1 m2 : List G.Token) → raw w1 ≡ (t ∷ x) ++ m1 → raw w2 ≡ (t ∷ x) ++ m2 → ⊥
    ways_differ f1 h1 test z1 [] w2 a1 a2 s within s2 apart t x m1 m2 e1 e2 = s
    ways_differ f1 h1 test z1 (l ∷ w1) [] a1 a2 s within s2 apart t x m1 m2 e1 e2 = nil_cons t (x ++ m2) e2
    ways_differ f1 h1 test z1 (l ∷ w1) (l2 ∷ w2) a1 a2 s within s2 apart t x m1 m2 e1 e2 =
        true≢false (sym (within (G.kind l.token) s)
        ∙ ap (λ (t : G.Token). test (G.kind t)) (head_same l.token t (raw w1) (x ++ m1) e1 ∙ sym (head_same l2.token t (raw w2) (x ++ m2) e2))
        ∙ apart (G.kind l2.token) s2)

    -- the front ends, or there is a next token
    by_front : {r : G.Part} {form : Form G r} {l : ℕ} {w1 w2 : Word G} {a1 a2 : G.Tree r} → Follows G forms None r form l w1 a1
        → Follows G forms None r form l w2 a2 → (c : T.Context r) (told : Bool) (over : Type 0)
        → Marked G T r c told over form → (x m1 m2 : List G.Token) → raw w1 ≡ x ++ m1 → raw w2 ≡ x ++ m2 → Each T.Behind m1 → Each T.Behind m2
        → (x ≡ [] → over)
        → ((t : G.Token) (y : List G.Token) → x ≡ t ∷ y → Alike r c a1 a2) → Alike r c a1 a2
    by_front {a1 = a1} {a2 = a2} d d2 c told over m [] m1 m2 e1 e2 b1 b2 o go =
        both_free a1 a2 (free d m (o refl) (subst (λ (z : List G.Token). Each T.Behind z) (sym e1) b1))
        (free d2 m (o refl) (subst (λ (z : List G.Token). Each T.Behind z) (sym e2) b2))
    by_front d d2 c told over m (t ∷ x) m1 m2 e1 e2 b1 b2 o go = go t x refl

    -- what is to be shown of two texts of a form
    abbrev Claim : (r : G.Part) (form : Form G r) (w1 w2 : Word G) (a1 a2 : G.Tree r) → Type 1
    Claim r form w1 w2 a1 a2 = (c : T.Context r) (told : Bool) (over : Type 0) → Marked G T r c told over form
        → (x m1 m2 : List G.Token) → raw w1 ≡ x ++ m1 → raw w2 ≡ x ++ m2 → Final T.Last x → Each T.Behind m1 → Each T.Behind m2 → (x ≡ [] → over)
        → Alike r c a1 a2

    front_head : (t s : G.Token) (w : List G.Token) (x y m : List G.Token) → t ∷ w ≡ x ++ m → x ≡ s ∷ y → t ≡ s
    front_head t s w x y m e f = head_same t s w (y ++ m) (e ∙ ap (λ (z : List G.Token). z ++ m) f)

    front_tail : (t s : G.Token) (w : List G.Token) (x y m : List G.Token) → t ∷ w ≡ x ++ m → x ≡ s ∷ y → w ≡ y ++ m
    front_tail t s w x y m e f = tail_same t s w (y ++ m) (e ∙ ap (λ (z : List G.Token). z ++ m) f)

    last_is : (t s : G.Token) (x y : List G.Token) → Final T.Last x → x ≡ s ∷ y → t ≡ s → y ≡ [] → T.Last t
    last_is t s x y last e same n = subst (λ (t : G.Token). T.Last t) (sym same)
        (subst (λ (z : List G.Token). Final T.Last z) (e ∙ ap (λ (z : List G.Token). s ∷ z) n) last)

    taken_alike : {r : G.Part} (l items : ℕ) (up : ℕ → ℕ) (test : G.Kind → Bool) (k : G.Token → Form G r) (t t2 : G.Token) (w1 w2 : Word G) (a1 a2 : G.Tree r)
        → test (G.kind t) ≡ true → (t2 ≡ t → Claim r (k t) w1 w2 a1 a2)
        → (c : T.Context r) (told : Bool) (over : Type 0) → Marked G T r c told over (take up items test k) → (x m1 m2 : List G.Token) → t ∷ raw w1 ≡ x ++ m1
        → t2 ∷ raw w2 ≡ x ++ m2 → Final T.Last x → Each T.Behind m1 → Each T.Behind m2
        → (s : G.Token) (y : List G.Token) → x ≡ s ∷ y → Alike r c a1 a2
    taken_alike l items up test k t t2 w1 w2 a1 a2 pass ih c told over (m_take next same rest) x m1 m2 e1 e2 last b1 b2 s y e =
        ih (front_head t2 s (raw w2) x y m2 e2 e ∙ sym (front_head t s (raw w1) x y m1 e1 e)) c (next t) (T.Last t) (rest t pass) y m1 m2
        (front_tail t s (raw w1) x y m1 e1 e) (front_tail t2 s (raw w2) x y m2 e2 e)
        (final_tail T.Last s y (subst (λ (z : List G.Token). Final T.Last z) e last)) b1 b2 (last_is t s x y last e (front_head t s (raw w1) x y m1 e1 e))

    cons_nil : (t : G.Token) (x y : List G.Token) → x ≡ t ∷ y → x ≡ [] → ⊥
    cons_nil t x y e n = nil_cons t y (sym n ∙ e)

    -- a part and what follows, in both texts
    read_alike : {r q : G.Part} (l : ℕ) (up : ℕ → ℕ) (k : G.Tree q → Form G r) (u1 u2 v1 v2 : Word G) (y1 y2 : G.Tree q) (a1 a2 : G.Tree r)
        (d1 : Reads G forms None q (up l) u1 y1) (d2 : Reads G forms None q (up l) u2 y2)
        (c1 : Follows G forms None r (k y1) l v1 a1) (c2 : Follows G forms None r (k y2) l v2 a2) → Claim q (forms q) u1 u2 y1 y2
        → (y2 ≡ y1 → Claim r (k y1) v1 v2 a1 a2)
        → (next1 : (y m : List G.Token) → raw v1 ≡ y ++ m → Stands (tables.stop q y1) y)
        (next2 : (y m : List G.Token) → raw v2 ≡ y ++ m → Stands (tables.stop q y2) y)
        → (c : T.Context r) (told : Bool) (over : Type 0) → Marked G T r c told over (part up q k) → (x m1 m2 : List G.Token) → raw (u1 ++ v1) ≡ x ++ m1
        → raw (u2 ++ v2) ≡ x ++ m2 → Final T.Last x → Each T.Behind m1 → Each T.Behind m2
        → (s : G.Token) (y : List G.Token) → x ≡ s ∷ y → Alike r c a1 a2
    read_alike {r} {q} l up k u1 u2 v1 v2 y1 y2 a1 a2 d1 d2 c1 c2 inner outer next1 next2 c told over
        (m_part p past next start done rest) x m1 m2 e1 e2 last b1 b2 s y e =
        two_parts q (up l) u1 u2 v1 v2 y1 y2 d1 d2 next1 next2 (Alike r c a1 a2) x m1 m2 b1 b2 split on
        (parted (raw u1) (raw v1) x m1 (sym (raw-append u1 v1) ∙ e1)) (parted (raw u2) (raw v2) x m2 (sym (raw-append u2 v2) ∙ e2))
      where
        f1 : T.Fact q p y1
        f1 = fact d1 (marks q p)

        f2 : T.Fact q p y2
        f2 = fact d2 (marks q p)

        joined : Alike q p y1 y2 → Free r c (next y1) a1 → Free r c (next y2) a2 → Alike r c a1 a2
        joined s z1 z2 = record {
          same = z1.same ∙ done y1 f1 s.one ∙ ap (λ (t : Bool). past || t) s.same ∙ sym (done y2 f2 s.other)
              ∙ sym z2.same;
          one = z1.done;
          other = z2.done;
        }

        split : (n1 n2 : List G.Token) → raw u1 ≡ x ++ n1 → raw u2 ≡ x ++ n2 → Each T.Behind n1 → Each T.Behind n2 → Each T.Behind (raw v1)
            → Each T.Behind (raw v2) → Alike r c a1 a2
        split n1 n2 i1 i2 j1 j2 k1 k2 =
            let both = inner p (T.start q p) (T.Ready q p) (marks q p) x n1 n2 i1 i2 last j1 j2 (λ n. absurd (cons_nil s x y e n)) in
            joined both (free c1 (rest y1 f1) both.one k1) (free c2 (rest y2 f2) both.other k2)

        on : y1 ≡ y2 → (t2 : G.Token) (z : List G.Token) → x ≡ raw u1 ++ (t2 ∷ z) → raw v1 ≡ (t2 ∷ z) ++ m1 → raw v2 ≡ (t2 ∷ z) ++ m2 → Alike r c a1 a2
        on same t2 z i j1 j2 = outer (sym same) c (next y1) (T.Done q p y1) (rest y1 f1) (t2 ∷ z) m1 m2 j1 j2
            (final_second T.Last (raw u1) (t2 ∷ z) (subst (λ (z : List G.Token). Final T.Last z) i last)) b1 b2
            (λ n. absurd (nil_cons t2 z (sym n)))

    differ_alike : {r : G.Part} (f1 h1 test : G.Kind → Bool) (z1 : G.Tree r → Type 0) (w1 w2 : Word G) (a1 a2 : G.Tree r)
        → Begins G forms tables h f1 (λ x. ⊥) w1 a1 → Within f1 test → Begins G forms tables h h1 z1 w2 a2 → Apart h1 test
        → (x m1 m2 : List G.Token) → raw w1 ≡ x ++ m1 → raw w2 ≡ x ++ m2 → (s : G.Token) (y : List G.Token) → x ≡ s ∷ y → ⊥
    differ_alike f1 h1 test z1 w1 w2 a1 a2 s within s2 apart x m1 m2 e1 e2 t y e =
        ways_differ f1 h1 test z1 w1 w2 a1 a2 s within s2 apart t y m1 m2 (e1 ∙ ap (λ (z : List G.Token). z ++ m1) e)
        (e2 ∙ ap (λ (z : List G.Token). z ++ m2) e)

    pick_first : {r : G.Part} {test : G.Kind → Bool} {a b : Form G r} {c : T.Context r} {told : Bool} {over : Type 0}
        → Marked G T r c told over (pick test a b) → Marked G T r c told over a
    pick_first (m_pick m m2) = m

    pick_second : {r : G.Part} {test : G.Kind → Bool} {a b : Form G r} {c : T.Context r} {told : Bool} {over : Type 0}
        → Marked G T r c told over (pick test a b) → Marked G T r c told over b
    pick_second (m_pick m m2) = m2

    no_bar : {r : G.Part} {left : G.Kind → Bool} {e : G.Label} {k : Form G r} {c : T.Context r} {told : Bool} {over : Type 0}
        → Marked G T r c told over (Rattle.predictive_grammar.specs.Forms.bar left e k) → ⊥
    no_bar m = elim m [ ]

    -- the same front, in a form that is marked
    pub alike : {r : G.Part} {form : Form G r} {l : ℕ} {w1 w2 : Word G} {a1 a2 : G.Tree r} → Follows G forms None r form l w1 a1
        → Follows G forms None r form l w2 a2
        → (moved : Bool) (f : G.Kind → Bool) (none : G.Tree r → Type 0) → Fit G tables r moved f none form → Claim r form w1 w2 a1 a2
    alike (given {l = l} a) (given _) moved f none fit = λ c told over m x m1 m2 e1 e2 last b1 b2 o. by_front {l = l} (given a)
        (given a) c told over m x m1 m2 e1 e2 b1 b2 o (λ t y e. absurd (nil_cons t (y ++ m1) (e1 ∙ ap (λ (z : List G.Token). z ++ m1) e)))
    alike (taken {r = r} {l = l} {up = up} {items = items} {test = test} {k = k} {w = w1} {a = a1} t e d) (taken {w = w2} {a = a2} t2 e2' d2) moved f none
        (takes t0 e0 in_first fs zs rests) = λ c told over m x m1 m2 e1 e2 last b1 b2 o.
        by_front (taken t e d) (taken t2 e2' d2) c told over m x m1 m2 e1 e2 b1 b2 o
        (taken_alike l items up test k t t2 w1 w2 a1 a2 e
        (λ same. alike d (subst (λ (t : G.Token). Follows G forms None r (k t) l w2 a2) same d2) true (fs t) (zs t) (rests t e)) c told over m x m1 m2 e1
        e2 last b1 b2)
    alike (read {r = r} {l = l} {up = up} {q = q} {k = k} {u = u1} {v = v1} {b = y1} {a = a1} d c1)
        (read {u = u2} {v = v2} {b = y2} {a = a2} d2 c2) moved f none
        (reads falls null in_first fs zs rests st stops) = λ c told over m x m1 m2 e1 e2 last b1 b2 o.
        by_front (read d c1) (read d2 c2) c told over m x m1 m2 e1 e2 b1 b2 o
        (read_alike l up k u1 u2 v1 v2 y1 y2 a1 a2 d d2 c1 c2 (alike d d2 false (tables.first q) (tables.none q) (h.fits q))
        (λ same. alike c1 (subst (λ (b : G.Tree q). Follows G forms None r (k b) l v2 a2) same c2) true (fs y1) (zs y1) (rests y1))
        (λ y m eq. stands_first (fs y1) (tables.stop q y1) (zs y1) a1 v1 y m eq (first_kind G forms tables h c1 true (fs y1) (zs y1) (rests y1)) (st y1))
        (λ y m eq. stands_first (fs y2) (tables.stop q y2) (zs y2) a2 v2 y m eq (first_kind G forms tables h c2 true (fs y2) (zs y2) (rests y2)) (st y2)) c
        told over m x m1 m2 e1 e2 last b1 b2)
    alike (read {r = r} {l = l} {up = up} {q = q} {k = k} {u = u1} {v = v1} {b = y1} {a = a1} d c1)
        (read {u = u2} {v = v2} {b = y2} {a = a2} d2 c2) moved f none
        (reads_none falls in_first fs zs rests more some st stops) = λ c told over m x m1 m2 e1 e2 last b1 b2 o.
        by_front (read d c1) (read d2 c2) c told over m x m1 m2 e1 e2 b1 b2 o
        (read_alike l up k u1 u2 v1 v2 y1 y2 a1 a2 d d2 c1 c2 (alike d d2 false (tables.first q) (tables.none q) (h.fits q))
        (λ same. alike c1 (subst (λ (b : G.Tree q). Follows G forms None r (k b) l v2 a2) same c2) moved (fs y1) (zs y1) (rests y1))
        (λ y m eq. stands_first (fs y1) (tables.stop q y1) (zs y1) a1 v1 y m eq (first_kind G forms tables h c1 moved (fs y1) (zs y1) (rests y1)) (st y1))
        (λ y m eq. stands_first (fs y2) (tables.stop q y2) (zs y2) a2 v2 y m eq (first_kind G forms tables h c2 moved (fs y2) (zs y2) (rests y2)) (st y2)) c
        told over m x m1 m2 e1 e2 last b1 b2)
    alike (first d) (first d2) moved f none (picks f1 h1 z1 fit1 w1 in1 opens fit2 apart in2 stops some) = λ c told over m. alike d d2 moved f1
        (λ x. ⊥) fit1 c told over (pick_first m)
    alike (second d) (second d2) moved f none (picks f1 h1 z1 fit1 w1 in1 opens fit2 apart in2 stops some) = λ c told over m.
        alike d d2 moved h1 z1 fit2 c told over (pick_second m)
    alike (first {g = g} {w = w1} {a = a1} d) (second {w = w2} {a = a2} d2) moved f none
        (picks f1 h1 z1 fit1 w in1 opens fit2 apart in2 stops some) = λ c told over m x m1 m2 e1 e2 last b1 b2 o.
        by_front (first d) (second d2) c told over m x m1 m2 e1 e2 b1 b2 o
        (λ t y e. absurd (differ_alike f1 h1 g z1 w1 w2 a1 a2 (first_kind G forms tables h d moved f1 (λ x. ⊥) fit1) w
        (first_kind G forms tables h d2 moved h1 z1 fit2) apart x m1 m2 e1 e2 t y e))
    alike (second {g = g} {w = w1} {a = a1} d) (first {w = w2} {a = a2} d2) moved f none
        (picks f1 h1 z1 fit1 w in1 opens fit2 apart in2 stops some) = λ c told over m x m1 m2 e1 e2 last b1 b2 o.
        by_front (second d) (first d2) c told over m x m1 m2 e1 e2 b1 b2 o
        (λ t y e. absurd (differ_alike f1 h1 g z1 w2 w1 a2 a1 (first_kind G forms tables h d2 moved f1 (λ x. ⊥) fit1) w
        (first_kind G forms tables h d moved h1 z1 fit2) apart x m2 m1 e2 e1 t y e))
    alike (kept d) d2 moved f none fit = λ c told over m. absurd (no_bar m)
    alike (left_out t e lefts d) d2 moved f none fit = absurd (none_some e)

-- what is known where the front ends may be more than is used
pub m_less : {G : Signature} {T : Telling G} {r : G.Part} {c : T.Context r} {told : Bool} {over more : Type 0} {form : Form G r} → (more → over)
    → Marked G T r c told over form → Marked G T r c told more form
m_less f (m_give a x e d) = m_give a x (λ o. e (f o)) (λ o. d (f o))
m_less f (m_take next same rest) = m_take next (λ t b o. same t b (f o)) rest
m_less f (m_part d past next start done rest) = m_part d past next (λ o. start (f o)) done rest
m_less f (m_pick a b) = m_pick (m_less f a) (m_less f b)
