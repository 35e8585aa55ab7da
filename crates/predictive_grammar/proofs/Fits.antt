-- Forms that fit, put together from below: what a form begins with and which trees it has without tokens follow from its parts, and the conditions
-- are computed.
use Rattle.std.proofs.Common.{◌≡◌, ℕ, Bool, true, false, not, ◌&&◌, ◌||◌, if◌then◌else◌, nat_lt, refl, sym, ap, subst, ◌∙◌, inl, inr, true≢false, ltb-true}
use Rattle.predictive_grammar.specs.Forms.{Signature, Form, give, take, part, pick, bar, Productions}
use Rattle.predictive_grammar.specs.Fit.{Within, Apart, Tables, Falls, Opens, opens_take, opens_part, opens_first, opens_second, opens_bar, Fit, gives, takes, reads, reads_none, picks, bars}
use Rattle.predictive_grammar.proofs.Sets.{Checks, and_first, and_second, or_left, or_right, implies, implied, not_true, Inside, Disjoint, within, apart}

-- the trees that a form has without tokens: none, this one, or any
pub data Nones (A : Type 0) : Type 0 where
  never : Nones A
  only : A → Nones A
  maybe : Nones A

abbrev pub Among : {A : Type 0} → Nones A → A → Type 0
Among never x = ⊥
Among (only a) x = x ≡ a
Among maybe x = Unit {0}

-- the property holds of each of them
abbrev pub Each : {A : Type 0} → Nones A → (A → Type 0) → Type 0
Each never p = Unit {0}
Each (only a) p = p a
Each {A = A} maybe p = (x : A) → p x

pub each_at : {A : Type 0} (z : Nones A) (p : A → Type 0) → Each z p → (x : A) → Among z x → p x
each_at never p e x i = absurd i
each_at (only a) p e x i = subst p (sym i) e
each_at maybe p e x i = e x

abbrev pub nothing : {K : Type 0} → K → Bool
nothing x = false

-- the kinds of both
abbrev pub either : {K : Type 0} → (K → Bool) → (K → Bool) → K → Bool
either f g x = f x || g x

-- behind a text with these trees where it is empty: whether a token was taken, what begins there, and the trees of both without tokens
abbrev pub behind : {A : Type 0} → Nones A → Bool → Bool
behind never moved = true
behind _ moved = moved

abbrev pub begun : {A K : Type 0} → Nones A → (A → K → Bool) → K → Bool
begun never f x = false
begun (only a) f x = f a x
begun _ f x = true

abbrev pub joined : {A B : Type 0} → Nones A → (A → Nones B) → Nones B
joined never z = never
joined (only a) z = z a
joined _ z = maybe

-- A grammar with its tables, a check of sets of kinds, some kinds and a token of each, and the trees of the texts without tokens once more.
pub record Tabled : Type 1 where
  pub signature : Signature
  pub forms : Productions signature
  pub tables : Tables signature
  pub checks : Checks signature.Kind
  pub Sample : Type 0
  pub shape : Sample → signature.Kind
  pub sample : Sample → signature.Token
  pub is_sample : (x : Sample) → signature.kind (sample x) ≡ shape x
  pub nones : (p : signature.Part) → Nones (signature.Tree p)
  pub means : (p : signature.Part) (a : signature.Tree p) → tables.none p a → Among (nones p) a

module _ (g : Tabled) where
  open g use {signature, forms, tables, checks}

  pub record Fits (r : signature.Part) (moved : Bool) (f : signature.Kind → Bool) (z : Nones (signature.Tree r)) (form : Form signature r) : Type 1 where
    pub fit : Fit signature tables r moved f (Among z) form

  -- the kinds that the form surely takes
  abbrev pub opened : {r : signature.Part} → Form signature r → signature.Kind → Bool
  opened (give a) x = false
  opened (take up items test k) x = test x
  opened (part up q k) x = tables.opens q x
  opened (pick test a b) x = if test x then opened a x else opened b x
  opened (bar left e k) x = not (left x) && opened k x

  pub opens_from : {r : signature.Part} (form : Form signature r) (x : signature.Kind) → opened form x ≡ true → Opens signature tables r x form
  opens_from (give a) x e = absurd (true≢false (sym e))
  opens_from (take up items test k) x e = opens_take e
  opens_from (part up q k) x e = opens_part e
  opens_from {r = r} (pick test a b) x e = go (test x) refl e (opens_from a x) (opens_from b x)
    where
      go : (c : Bool) → test x ≡ c → (if c then opened a x else opened b x) ≡ true → (opened a x ≡ true → Opens signature tables r x a) → (opened b x ≡ true → Opens signature tables r x b)
          → Opens signature tables r x (pick test a b)
      go true t e f g = opens_first t (f e)
      go false t e f g = opens_second t (g e)
  opens_from {r = r} (bar left label k) x e = opens_bar (go (left x) (opened k x) e) (opens_from k x (and_second (not (left x)) (opened k x) e))
    where
      go : (c d : Bool) → (not c && d) ≡ true → c ≡ false
      go true d e = absurd (true≢false (sym e))
      go false d e = refl

  -- a part opens as the tables say
  pub opens_as : (p : signature.Part) → Inside checks (tables.opens p) (opened (forms p)) → (x : signature.Kind) → tables.opens p x ≡ true → Opens signature tables p x (forms p)
  opens_as p e x i = opens_from (forms p) x (within checks (tables.opens p) (opened (forms p)) e x i)

  abbrev pub falls : Bool → signature.Part → signature.Part → Bool
  falls moved r q = if moved then true else nat_lt (tables.rank q) (tables.rank r)

  pub falls_is : (moved : Bool) (r q : signature.Part) → falls moved r q ≡ true → Falls tables moved r q
  falls_is true r q e = inl refl
  falls_is false r q e = inr (ltb-true (tables.rank q) (tables.rank r) e)

  -- in front of what the tree stops at, the part ends
  abbrev pub ends_at : (r q : signature.Part) → signature.Tree q → signature.Tree r → Type 0
  ends_at r q b a = Inside checks (tables.stop r a) (tables.stop q b)

  -- the first way opens with what passes the test, and the second begins with nothing that does
  abbrev pub opens_alone : {r : signature.Part} → (h test : signature.Kind → Bool) → Form signature r → signature.Kind → Bool
  opens_alone h test a x = implies (test x) (opened a x) && implies (h x) (not (test x))

  abbrev pub divided : {r : signature.Part} → (f h test : signature.Kind → Bool) → Form signature r → signature.Kind → Bool
  divided f h test a x = implies (f x) (test x) && opens_alone h test a x

  abbrev pub divides : {r : signature.Part} → (f h test : signature.Kind → Bool) → Form signature r → Type 0
  divides f h test a = checks.Holds (divided f h test a)

  -- what ends where it is empty, ends in front of none of these
  abbrev pub avoids : (r : signature.Part) → (signature.Kind → Bool) → signature.Tree r → Type 0
  avoids r test x = Disjoint checks (tables.stop r x) test

  -- what fits, fits with more kinds to begin with and more trees without tokens
  fit_more : {r : signature.Part} {moved : Bool} {f h : signature.Kind → Bool} {z y : signature.Tree r → Type 0} {form : Form signature r} → Fit signature tables r moved f z form → Within f h
      → ((a : signature.Tree r) → z a → y a) → Fit signature tables r moved h y form
  fit_more (gives a e) w m = gives a (m a e)
  fit_more (takes t e i f z rest) w m = takes t e (λ x j. w x (i x j)) f z rest
  fit_more (reads fall some i f z rest st stops) w m = reads fall some (λ x j. w x (i x j)) f z rest st stops
  fit_more (reads_none fall i f z rest more some st stops) w m = reads_none fall (λ x j. w x (i x j)) f z rest (λ b n x j. w x (more b n x j)) (λ b a n j. m a (some b a n j)) st stops
  fit_more (picks f h z x i j opens y a k stops some) w m = picks f h z x i (λ x e. w x (j x e)) opens y a (λ x e. w x (k x e)) stops (λ x e. m x (some x e))
  fit_more (bars f z x a i j stops some) w m = bars f z x a (λ x e. w x (i x e)) (λ x e. w x (j x e)) stops (λ x e. m x (some x e))

  -- more kinds to begin with, and more trees without tokens
  pub widen : {r : signature.Part} {moved : Bool} {f h : signature.Kind → Bool} {z y : Nones (signature.Tree r)} {form : Form signature r} → Fits r moved f z form → Inside checks f h
      → ((a : signature.Tree r) → Among z a → Among y a) → Fits r moved h y form
  widen {f = f} {h = h} x e more = record { fit = fit_more x.fit (within checks f h e) more }

  -- the same, by proof
  pub widen_by : {r : signature.Part} {moved : Bool} {f h : signature.Kind → Bool} {z y : Nones (signature.Tree r)} {form : Form signature r} → Fits r moved f z form → Within f h
      → ((a : signature.Tree r) → Among z a → Among y a) → Fits r moved h y form
  widen_by x w more = record { fit = fit_more x.fit w more }

  -- a form fits the tables of its part
  pub fit_part : (p : signature.Part) {f : signature.Kind → Bool} {z : Nones (signature.Tree p)} {form : Form signature p} → Fits p false f z form → Inside checks f (tables.first p)
      → ((a : signature.Tree p) → Among z a → tables.none p a) → Fit signature tables p false (tables.first p) (tables.none p) form
  fit_part p {f = f} {z = z} x e n = fit_more x.fit (within checks f (tables.first p) e) n

  module _ (r q : signature.Part) (moved : Bool) (up : ℕ → ℕ) (k : signature.Tree q → Form signature r) (f : signature.Tree q → signature.Kind → Bool) (z : signature.Tree q → Nones (signature.Tree r))
      (fall : falls moved r q ≡ true) (st : (b : signature.Tree q) → Inside checks (f b) (tables.stop q b)) (stops : (b : signature.Tree q) → Each (z b) (ends_at r q b)) where
    ended : (b : signature.Tree q) → Within (f b) (tables.stop q b)
    ended b = within checks (f b) (tables.stop q b) (st b)

    stopped : (b : signature.Tree q) (a : signature.Tree r) → Among (z b) a → Within (tables.stop r a) (tables.stop q b)
    stopped b a i = within checks (tables.stop r a) (tables.stop q b) (each_at (z b) (ends_at r q b) (stops b) a i)

    -- the part's empty texts have one of these trees
    pub text_by : (n : Nones (signature.Tree q)) → ((b : signature.Tree q) → tables.none q b → Among n b) → ((b : signature.Tree q) → Fits r (behind n moved) (f b) (z b) (k b))
        → Fits r moved (either (tables.first q) (begun n f)) (joined n z) (part up q k)
    text_by never is rest = record { fit = reads (falls_is moved r q fall) is (λ x i. or_left (tables.first q x) false i) f (λ b. Among (z b)) (λ b. (rest b).fit) ended stopped }
    text_by (only c) is rest = record {
      fit = reads_none (falls_is moved r q fall) (λ x i. or_left (tables.first q x) (f c x) i) f (λ b. Among (z b)) (λ b. (rest b).fit)
          (λ b n x i. or_right (tables.first q x) (f c x) (ap (λ (d : signature.Tree q). f d x) (sym (is b n)) ∙ i)) (λ b a n i. subst (λ (d : signature.Tree q). Among (z d) a) (is b n) i) ended stopped;
    }
    text_by maybe is rest = record {
      fit = reads_none (falls_is moved r q fall) (λ x i. or_left (tables.first q x) true i) f (λ b. Among (z b)) (λ b. (rest b).fit) (λ b n x i. or_right (tables.first q x) true refl) (λ b a n i. tt) ended stopped;
    }

module _ {g : Tabled} where
  open g use {signature, forms, tables, checks, Sample, shape, sample, is_sample, nones, means}

  -- nothing more
  pub done : {r : signature.Part} {moved : Bool} (a : signature.Tree r) → Fits g r moved nothing (only a) (give a)
  done a = record { fit = gives a refl }

  -- a token, of which some kind passes the test
  pub token : {r : signature.Part} {moved : Bool} {up : ℕ → ℕ} {items : ℕ} {test : signature.Kind → Bool} {k : signature.Token → Form signature r} {f : signature.Token → signature.Kind → Bool}
      {z : signature.Token → Nones (signature.Tree r)} (x : Sample) → test (shape x) ≡ true → ((t : signature.Token) → Fits g r true (f t) (z t) (k t)) → Fits g r moved test never (take up items test k)
  token {test = test} {f = f} {z = z} x e rest = record { fit = takes (sample x) (ap test (is_sample x) ∙ e) (λ x i. i) f (λ t. Among (z t)) (λ t i. (rest t).fit) }

  -- the same, where the rest fits only behind such a token
  pub token_of : {r : signature.Part} {moved : Bool} {up : ℕ → ℕ} {items : ℕ} {test : signature.Kind → Bool} {k : signature.Token → Form signature r} {f : signature.Token → signature.Kind → Bool}
      {z : signature.Token → Nones (signature.Tree r)} (x : Sample) → test (shape x) ≡ true → ((t : signature.Token) → test (signature.kind t) ≡ true → Fits g r true (f t) (z t) (k t))
      → Fits g r moved test never (take up items test k)
  token_of {test = test} {f = f} {z = z} x e rest = record { fit = takes (sample x) (ap test (is_sample x) ∙ e) (λ x i. i) f (λ t. Among (z t)) (λ t i. (rest t i).fit) }

  -- A part, and the rest: the part falls in rank, or a token was taken before; it ends in front of what the rest begins with, and in front of
  -- what the whole ends in front of where the rest is empty.
  pub text : {r : signature.Part} {moved : Bool} {up : ℕ → ℕ} {q : signature.Part} {k : signature.Tree q → Form signature r} {f : signature.Tree q → signature.Kind → Bool} {z : signature.Tree q → Nones (signature.Tree r)}
      → falls g moved r q ≡ true → ((b : signature.Tree q) → Fits g r (behind (nones q) moved) (f b) (z b) (k b))
      → ((b : signature.Tree q) → Inside checks (f b) (tables.stop q b)) → ((b : signature.Tree q) → Each (z b) (ends_at g r q b))
      → Fits g r moved (either (tables.first q) (begun (nones q) f)) (joined (nones q) z) (part up q k)
  text {r = r} {moved = moved} {up = up} {q = q} {k = k} {f = f} {z = z} fall rest st stops = text_by g r q moved up k f z fall st stops (nones q) (means q) rest

  pub choice : {r : signature.Part} {moved : Bool} {test f h : signature.Kind → Bool} {a b : Form signature r} {z : Nones (signature.Tree r)} → Fits g r moved f never a → Fits g r moved h z b
      → divides g f h test a → Each z (avoids g r test) → Fits g r moved (either f h) z (pick test a b)
  choice {r = r} {test = test} {f = f} {h = h} {a = a} {b = b} {z = z} x y e stops = record {
    fit = picks f h (Among z) x.fit (λ x i. implied (f x) (test x) (and_first (implies (f x) (test x)) (opens_alone g h test a x) (at x)) i) (λ x i. or_left (f x) (h x) i)
        (λ x i. opens_from g a x (implied (test x) (opened g a x) (and_first (implies (test x) (opened g a x)) (implies (h x) (not (test x))) (behind_first x)) i))
        y.fit (λ x i. not_true (test x) (implied (h x) (not (test x)) (and_second (implies (test x) (opened g a x)) (implies (h x) (not (test x))) (behind_first x)) i)) (λ x i. or_right (f x) (h x) i)
        (λ x i. apart checks (tables.stop r x) test (each_at z (avoids g r test) stops x i)) (λ x i. i);
  }
    where
      at : (x : signature.Kind) → divided g f h test a x ≡ true
      at x = checks.sound (divided g f h test a) e x

      behind_first : (x : signature.Kind) → opens_alone g h test a x ≡ true
      behind_first x = and_second (implies (f x) (test x)) (opens_alone g h test a x) (at x)

  -- the way of a token, or the other
  pub where_token : {r : signature.Part} {moved : Bool} {up : ℕ → ℕ} {items : ℕ} {test h : signature.Kind → Bool} {k : signature.Token → Form signature r} {b : Form signature r}
      {f : signature.Token → signature.Kind → Bool} {y : signature.Token → Nones (signature.Tree r)} {z : Nones (signature.Tree r)} (x : Sample) → test (shape x) ≡ true
      → ((t : signature.Token) → Fits g r true (f t) (y t) (k t)) → Fits g r moved h z b → Disjoint checks h test → Each z (avoids g r test)
      → Fits g r moved (either test h) z (pick test (take up items test k) b)
  where_token {r = r} {test = test} {h = h} {f = f} {y = y} {z = z} x e rest other e2 stops = record {
    fit = picks test h (Among z) (takes (sample x) (ap test (is_sample x) ∙ e) (λ x i. i) f (λ t. Among (y t)) (λ t i. (rest t).fit)) (λ x i. i) (λ x i. or_left (test x) (h x) i) (λ x i. opens_take i)
        other.fit (apart checks h test e2) (λ x i. or_right (test x) (h x) i) (λ x i. apart checks (tables.stop r x) test (each_at z (avoids g r test) stops x i)) (λ x i. i);
  }

  pub barred_by : {r : signature.Part} {moved : Bool} {left f : signature.Kind → Bool} {label : signature.Label} {k : Form signature r} {z : Nones (signature.Tree r)} → Fits g r moved f z k → Apart f left
      → ((x : signature.Tree r) → Among z x → Apart (tables.stop r x) left) → Fits g r moved (either f left) z (bar left label k)
  barred_by {left = left} {f = f} {z = z} x e stops = record { fit = bars f (Among z) x.fit e (λ x i. or_left (f x) (left x) i) (λ x i. or_right (f x) (left x) i) stops (λ x i. i) }

  pub barred : {r : signature.Part} {moved : Bool} {left f : signature.Kind → Bool} {label : signature.Label} {k : Form signature r} {z : Nones (signature.Tree r)} → Fits g r moved f z k → Disjoint checks f left
      → Each z (avoids g r left) → Fits g r moved (either f left) z (bar left label k)
  barred {r = r} {left = left} {f = f} {z = z} x e stops = barred_by x (apart checks f left e) (λ x i. apart checks (tables.stop r x) left (each_at z (avoids g r left) stops x i))
