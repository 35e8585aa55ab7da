-- Forms among some names that suit the tables, put together from below: what a form begins with, which trees it has without tokens, and what it
-- surely takes follow from its parts. The conditions are computed on classes.
use Rattle.std.proofs.Common.{◌≡◌, ℕ, Bool, true, false, ◌||◌, if◌then◌else◌, nat_lt, refl, sym, ap, subst, ◌∙◌, inl, inr, true≢false, ltb-true}
use Rattle.predictive_grammar.specs.Forms.{Form, give, take, part, pick}
use Rattle.predictive_grammar.specs.Fit.{Falls, Opens, opens_take, opens_part, opens_first, opens_second, Fit, gives, takes, reads, reads_none, picks, bars}
use Rattle.predictive_grammar.proofs.Sets.{or_left, or_right}
use Rattle.predictive_grammar.proofs.Fits.{Nones, never, only, maybe, Among, Each, each_at, nothing, either, behind, begun, joined}
use Rattle.c_tree.specs.Words.{Token}
use Rattle.c_tree.specs.Names.{Names}
use Rattle.c_grammar.specs.Sorts.{Kind, kind, on}
use Rattle.c_grammar.specs.Tests.{Set}
use Rattle.c_grammar.specs.Parts.{What, tree_of, at}
use Rattle.c_grammar.specs.Grammar.{C, form}
use Rattle.c_grammar.specs.Tables.{tables, first_of, opens_of, none_of, stop_of, rank_of}
use Rattle.c_grammar.proofs.Classes.{is_within, is_apart, within, apart}
use Rattle.c_grammar.proofs.Empty.{nones, means}

abbrev pub falls : Bool → What → What → Bool
falls moved r q = if moved then true else nat_lt (rank_of q) (rank_of r)

-- what the first way takes where the test is passed, or the second
abbrev pub taken_by : Set → Set → Set → Set
taken_by test f g c = if test c then f c else g c

-- the second way begins with nothing that passes the test
abbrev pub by_other : Set → Set → Set
by_other test g c = if test c then true else g c

module _ (ns : Names) where
  -- The form begins with the one, has these trees without tokens, and surely takes the other.
  pub record Suits (r : What) (moved : Bool) (f : Set) (z : Nones (tree_of r)) (o : Set) (form : Form C (at ns r)) : Type 1 where
    pub fit : Fit C tables (at ns r) moved (on ns f) (Among z) form
    pub opens : (x : Kind) → on ns o x ≡ true → Opens C tables (at ns r) x form

  -- what fits, fits with more kinds to begin with and more trees without tokens
  fit_more : {r : What} {moved : Bool} {f h : Kind → Bool} {z y : tree_of r → Type 0} {form : Form C (at ns r)} → Fit C tables (at ns r) moved f z form → ((x : Kind) → f x ≡ true → h x ≡ true)
      → ((a : tree_of r) → z a → y a) → Fit C tables (at ns r) moved h y form
  fit_more (gives a e) w m = gives a (m a e)
  fit_more (takes t e i f z rest) w m = takes t e (λ x j. w x (i x j)) f z rest
  fit_more (reads fall some i f z rest st stops) w m = reads fall some (λ x j. w x (i x j)) f z rest st stops
  fit_more (reads_none fall i f z rest more some st stops) w m = reads_none fall (λ x j. w x (i x j)) f z rest (λ b n x j. w x (more b n x j)) (λ b a n j. m a (some b a n j)) st stops
  fit_more (picks f h z x i j opens y a k stops some) w m = picks f h z x i (λ x e. w x (j x e)) opens y a (λ x e. w x (k x e)) stops (λ x e. m x (some x e))
  fit_more (bars {e = e} f z x a i j stops some) w m = elim e [ ]

  -- more to begin with, more trees without tokens, and less that is surely taken
  pub widen : {r : What} {moved : Bool} {f h o p : Set} {z y : Nones (tree_of r)} {form : Form C (at ns r)} → Suits r moved f z o form → is_within f h ≡ true → ((a : tree_of r) → Among z a → Among y a)
      → is_within p o ≡ true → Suits r moved h y p form
  widen {f = f} {h = h} {o = o} {p = p} x e more e2 = record { fit = fit_more x.fit (within ns f h e) more; opens = λ y i. x.opens y (within ns p o e2 y i) }

  -- nothing more
  pub done : {r : What} {moved : Bool} (a : tree_of r) → Suits r moved nothing (only a) nothing (give a)
  done a = record { fit = gives a refl; opens = λ x i. absurd (true≢false (sym i)) }

  -- a token of a set that this one is of
  pub token : {r : What} {moved : Bool} {up : ℕ → ℕ} {items : ℕ} (test : Set) {k : Token → Form C (at ns r)} {f o : Token → Set} {z : Token → Nones (tree_of r)}
      (x : Token) → on ns test (kind x) ≡ true → ((t : Token) → Suits r true (f t) (z t) (o t) (k t)) → Suits r moved test never test (take up items (on ns test) k)
  token test {f = f} {z = z} x e rest = record { fit = takes x e (λ x i. i) (λ t. on ns (f t)) (λ t. Among (z t)) (λ t i. (rest t).fit); opens = λ x i. opens_take i }

  -- the same, where the rest suits only behind such a token
  pub token_of : {r : What} {moved : Bool} {up : ℕ → ℕ} {items : ℕ} (test : Set) {k : Token → Form C (at ns r)} {f o : Token → Set} {z : Token → Nones (tree_of r)}
      (x : Token) → on ns test (kind x) ≡ true → ((t : Token) → on ns test (kind t) ≡ true → Suits r true (f t) (z t) (o t) (k t)) → Suits r moved test never test (take up items (on ns test) k)
  token_of test {f = f} {z = z} x e rest = record { fit = takes x e (λ x i. i) (λ t. on ns (f t)) (λ t. Among (z t)) (λ t i. (rest t i).fit); opens = λ x i. opens_take i }

  -- a token that passes a test of kinds, which is within a set
  pub token_raw : {r : What} {moved : Bool} {up : ℕ → ℕ} {items : ℕ} (test : Kind → Bool) (sup : Set) {k : Token → Form C (at ns r)} {f o : Token → Set} {z : Token → Nones (tree_of r)}
      (x : Token) → test (kind x) ≡ true → ((y : Kind) → test y ≡ true → on ns sup y ≡ true) → ((t : Token) → Suits r true (f t) (z t) (o t) (k t)) → Suits r moved sup never nothing (take up items test k)
  token_raw test sup {f = f} {z = z} x e inside rest =
      record { fit = takes x e inside (λ t. on ns (f t)) (λ t. Among (z t)) (λ t i. (rest t).fit); opens = λ x i. absurd (true≢false (sym i)) }

  -- the way of such a token, or the other
  pub where_raw : {r : What} {moved : Bool} {up : ℕ → ℕ} {items : ℕ} (test : Kind → Bool) (sup : Set) {h p : Set} {k : Token → Form C (at ns r)} {b : Form C (at ns r)} {f o : Token → Set} {y : Token → Nones (tree_of r)}
      (x : Token) → test (kind x) ≡ true → ((y : Kind) → test y ≡ true → on ns sup y ≡ true) → ((t : Token) → Suits r true (f t) (y t) (o t) (k t)) → Suits r moved h never p b → is_apart h sup ≡ true
      → Suits r moved (either sup h) never nothing (pick test (take up items test k) b)
  where_raw {r = r} test sup {h = h} {f = f} {y = y} x e inside rest other e2 = record {
    fit = picks test (on ns h) (λ a. ⊥) (takes x e (λ x i. i) (λ t. on ns (f t)) (λ t. Among (y t)) (λ t i. (rest t).fit)) (λ x i. i) (λ x i. or_left (on ns sup x) (on ns h x) (inside x i)) (λ x i. opens_take i)
        other.fit (λ x i. not_raw x (test x) refl (apart ns h sup e2 x i)) (λ x i. or_right (on ns sup x) (on ns h x) i) (λ x i. absurd i) (λ x i. absurd i);
    opens = λ x i. absurd (true≢false (sym i));
  }
    where
      not_raw : (x : Kind) (b : Bool) → test x ≡ b → on ns sup x ≡ false → b ≡ false
      not_raw x false e i = refl
      not_raw x true e i = absurd (true≢false (sym (inside x e) ∙ i))

  -- what is said of a part under other names is said in these
  pub record Agrees (ms : Names) (q : What) : Type 0 where
    pub first : (x : Kind) → on ms (first_of q) x ≡ on ns (first_of q) x
    pub stop : (x : Kind) → on ms (stop_of q) x ≡ on ns (stop_of q) x
    pub opens : (x : Kind) → on ms (opens_of q) x ≡ on ns (opens_of q) x

  falls_under : (ms : Names) (moved : Bool) (r q : What) → falls moved r q ≡ true → Falls tables moved (at ns r) (at ms q)
  falls_under ms true r q e = inl refl
  falls_under ms false r q e = inr (ltb-true (rank_of q) (rank_of r) e)

  module _ (ms : Names) (r q : What) (agrees : Agrees ms q) (moved : Bool) (up : ℕ → ℕ) (k : tree_of q → Form C (at ns r)) (f o : tree_of q → Set) (z : tree_of q → Nones (tree_of r))
      (fall : falls moved r q ≡ true) (st : (b : tree_of q) → is_within (f b) (stop_of q) ≡ true) (stops : (b : tree_of q) → Each (z b) (λ a. is_within (stop_of r) (stop_of q) ≡ true)) where
    ended : (b : tree_of q) (x : Kind) → on ns (f b) x ≡ true → on ms (stop_of q) x ≡ true
    ended b x i = agrees.stop x ∙ within ns (f b) (stop_of q) (st b) x i

    stopped : (b : tree_of q) (a : tree_of r) → Among (z b) a → (x : Kind) → on ns (stop_of r) x ≡ true → on ms (stop_of q) x ≡ true
    stopped b a i x j = agrees.stop x ∙ within ns (stop_of r) (stop_of q) (each_at (z b) (λ a. is_within (stop_of r) (stop_of q) ≡ true) (stops b) a i) x j

    begins : (g : Set) (x : Kind) → on ms (first_of q) x ≡ true → (on ns (first_of q) x || on ns g x) ≡ true
    begins g x i = or_left (on ns (first_of q) x) (on ns g x) (sym (agrees.first x) ∙ i)

    -- the part's empty texts have one of these trees
    text_by : (n : Nones (tree_of q)) → ((b : tree_of q) → none_of q b → Among n b) → ((b : tree_of q) → Suits r (behind n moved) (f b) (z b) (o b) (k b))
        → Suits r moved (either (first_of q) (begun n f)) (joined n z) (opens_of q) (part up (at ms q) k)
    text_by never is rest = record {
      fit = reads (falls_under ms moved r q fall) is (begins nothing) (λ b. on ns (f b)) (λ b. Among (z b)) (λ b. (rest b).fit) ended stopped;
      opens = λ x i. opens_part (agrees.opens x ∙ i);
    }
    text_by (only c) is rest = record {
      fit = reads_none (falls_under ms moved r q fall) (begins (f c)) (λ b. on ns (f b)) (λ b. Among (z b)) (λ b. (rest b).fit)
          (λ b n x i. or_right (on ns (first_of q) x) (on ns (f c) x) (ap (λ (d : tree_of q). on ns (f d) x) (sym (is b n)) ∙ i)) (λ b a n i. subst (λ (d : tree_of q). Among (z d) a) (is b n) i) ended stopped;
      opens = λ x i. opens_part (agrees.opens x ∙ i);
    }
    text_by maybe is rest = record {
      fit = reads_none (falls_under ms moved r q fall) (begins (λ c. true)) (λ b. on ns (f b)) (λ b. Among (z b)) (λ b. (rest b).fit)
          (λ b n x i. or_right (on ns (first_of q) x) true refl) (λ b a n i. tt) ended stopped;
      opens = λ x i. opens_part (agrees.opens x ∙ i);
    }

  -- A part, and the rest: the part falls in rank, or a token was taken before; it ends in front of what the rest begins with, and in front of
  -- what the whole ends in front of where the rest is empty.
  pub text : {r q : What} {moved : Bool} {up : ℕ → ℕ} {k : tree_of q → Form C (at ns r)} {f o : tree_of q → Set} {z : tree_of q → Nones (tree_of r)} → falls moved r q ≡ true
      → ((b : tree_of q) → Suits r (behind (nones q) moved) (f b) (z b) (o b) (k b)) → ((b : tree_of q) → is_within (f b) (stop_of q) ≡ true)
      → ((b : tree_of q) → Each (z b) (λ a. is_within (stop_of r) (stop_of q) ≡ true))
      → Suits r moved (either (first_of q) (begun (nones q) f)) (joined (nones q) z) (opens_of q) (part up (at ns q) k)
  text {r = r} {q = q} {moved = moved} {up = up} {k = k} {f = f} {o = o} {z = z} fall rest st stops =
      text_by ns r q (record { first = λ x. refl; stop = λ x. refl; opens = λ x. refl }) moved up k f o z fall st stops (nones q) (means q) rest

  -- the same under other names
  pub text_under : (ms : Names) {r q : What} {moved : Bool} {up : ℕ → ℕ} {k : tree_of q → Form C (at ns r)} {f o : tree_of q → Set} {z : tree_of q → Nones (tree_of r)} → Agrees ms q → falls moved r q ≡ true
      → ((b : tree_of q) → Suits r (behind (nones q) moved) (f b) (z b) (o b) (k b)) → ((b : tree_of q) → is_within (f b) (stop_of q) ≡ true)
      → ((b : tree_of q) → Each (z b) (λ a. is_within (stop_of r) (stop_of q) ≡ true))
      → Suits r moved (either (first_of q) (begun (nones q) f)) (joined (nones q) z) (opens_of q) (part up (at ms q) k)
  text_under ms {r = r} {q = q} {moved = moved} {up = up} {k = k} {f = f} {o = o} {z = z} agrees fall rest st stops = text_by ms r q agrees moved up k f o z fall st stops (nones q) (means q) rest

  -- the way of a token, or the other
  pub choice : {r : What} {moved : Bool} (test : Set) {f h o p : Set} {a b : Form C (at ns r)} {z : Nones (tree_of r)} → Suits r moved f never o a → Suits r moved h z p b
      → is_within f test ≡ true → is_within test o ≡ true → is_apart h test ≡ true → Each z (λ x. is_apart (stop_of r) test ≡ true)
      → Suits r moved (either f h) z (taken_by test o p) (pick (on ns test) a b)
  choice {r = r} test {f = f} {h = h} {o = o} {p = p} {a = a} {b = b} {z = z} x y e e2 e3 stops = record {
    fit = picks (on ns f) (on ns h) (Among z) x.fit (within ns f test e) (λ x i. or_left (on ns f x) (on ns h x) i) (λ c i. x.opens c (within ns test o e2 c i))
        y.fit (apart ns h test e3) (λ x i. or_right (on ns f x) (on ns h x) i) (λ c i. apart ns (stop_of r) test (each_at z (λ x. is_apart (stop_of r) test ≡ true) stops c i)) (λ x i. i);
    opens = λ c i. by_test c (on ns test c) refl i;
  }
    where
      by_test : (c : Kind) (t : Bool) → on ns test c ≡ t → (if t then on ns o c else on ns p c) ≡ true → Opens C tables (at ns r) c (pick (on ns test) a b)
      by_test c true e i = opens_first e (x.opens c i)
      by_test c false e i = opens_second e (y.opens c i)

  -- the way of a token of the set, or the other
  pub where_fits : {r : What} {moved : Bool} {up : ℕ → ℕ} {items : ℕ} (test : Set) {h p : Set} {k : Token → Form C (at ns r)} {b : Form C (at ns r)} {f o : Token → Set} {y : Token → Nones (tree_of r)}
      {z : Nones (tree_of r)} (x : Token) → on ns test (kind x) ≡ true → ((t : Token) → Suits r true (f t) (y t) (o t) (k t)) → Suits r moved h z p b → is_apart h test ≡ true
      → Each z (λ x. is_apart (stop_of r) test ≡ true) → Suits r moved (either test h) z (by_other test p) (pick (on ns test) (take up items (on ns test) k) b)
  where_fits {r = r} {up = up} {items = items} test {h = h} {p = p} {k = k} {b = b} {f = f} {y = y} {z = z} x e rest other e2 stops = record {
    fit = picks (on ns test) (on ns h) (Among z) (takes x e (λ x i. i) (λ t. on ns (f t)) (λ t. Among (y t)) (λ t i. (rest t).fit)) (λ x i. i) (λ x i. or_left (on ns test x) (on ns h x) i) (λ x i. opens_take i)
        other.fit (apart ns h test e2) (λ x i. or_right (on ns test x) (on ns h x) i) (λ c i. apart ns (stop_of r) test (each_at z (λ x. is_apart (stop_of r) test ≡ true) stops c i)) (λ x i. i);
    opens = λ c i. by_test c (on ns test c) refl i;
  }
    where
      by_test : (c : Kind) (t : Bool) → on ns test c ≡ t → (if t then true else on ns p c) ≡ true → Opens C tables (at ns r) c (pick (on ns test) (take up items (on ns test) k) b)
      by_test c true e i = opens_first e (opens_take e)
      by_test c false e i = opens_second e (other.opens c i)

  -- The form of a part suits its tables.
  pub record Suited (w : What) : Type 1 where
    pub fits : Fit C tables (at ns w) false (on ns (first_of w)) (none_of w) (form ns w)
    pub opening : (x : Kind) → on ns (opens_of w) x ≡ true → Opens C tables (at ns w) x (form ns w)

  pub suited : (w : What) {f o : Set} {z : Nones (tree_of w)} → Suits w false f z o (form ns w) → is_within f (first_of w) ≡ true → ((a : tree_of w) → Among z a → none_of w a)
      → is_within (opens_of w) o ≡ true → Suited w
  suited w {f = f} {o = o} x e n e2 = record { fits = fit_more x.fit (within ns f (first_of w) e) n; opening = λ c i. x.opens c (within ns (opens_of w) o e2 c i) }
