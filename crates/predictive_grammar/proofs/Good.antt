-- What each run of a reader tells, and that a reader with more room does the same on what was read.
use Rattle.std.proofs.Common.{Some, None, ◌≡◌, ℕ, zero, suc, ◌+◌, ◌*◌, ◌<◌, ◌≤◌, Bool, true, false, if◌then◌else◌, List, [], ◌∷◌, length, Ok, Err, refl, sym, ap, subst, inl, inr, true≢false, arith}
use Rattle.predictive_grammar.specs.Forms.{Signature, Form, take, part, pick, bar, Productions}
use Rattle.predictive_grammar.specs.Follows.{Word, Follows, given, taken, read, first, second, kept, left_out}
use Rattle.predictive_grammar.specs.Steps.{LeftOut, Limits, Outcome, Parser, and_then, fail, next_is}
use Rattle.predictive_grammar.specs.Reading.{expect, walk, reader, enough}
use Rattle.predictive_grammar.specs.Fit.{Tables, Opens, Fit, gives, takes, reads, reads_none, picks, bars, IsPredictive}
use Rattle.predictive_grammar.proofs.Words.{Grows}
use Rattle.predictive_grammar.proofs.Texts.{wider, Possible, possible}
use Rattle.predictive_grammar.proofs.Taking.{Expected, other, high, many, comes, expected, expect_comes, expect_other, choose_one, choose_other}
use Rattle.predictive_grammar.proofs.Sound.{Text}
use Rattle.predictive_grammar.proofs.Law.{reader_law, Left, left_less, left_same, turns, strict, loose}
use Rattle.predictive_grammar.proofs.Moves.{Moved, moves}
use Rattle.predictive_grammar.proofs.Known.{alike_other, alike_one, Completes, Good, good_behind, good_fault}

module _ (G : Signature) (forms : Productions G) (tables : Tables G) (h : IsPredictive G forms tables) (limits large : Limits) (grows : Grows limits large) where
  abbrev here : (p : G.Part) → ℕ → Parser G.Label G.Token (G.Tree p)
  here p l = reader G forms tables.top tables.rank limits p l

  abbrev there : (p : G.Part) → ℕ → Parser G.Label G.Token (G.Tree p)
  there p l = reader G forms tables.top tables.rank large p l

  abbrev narrow : (r : G.Part) → Form G r → ℕ → Word G → G.Tree r → Type 0
  narrow r form l w a = Follows G forms None r form l w a

  abbrev wide : (r : G.Part) → Form G r → ℕ → G.Label → Word G → G.Tree r → Type 0
  wide r form l e w a = Follows G forms (Some e) r form l w a

  -- what is told of a run on this form
  abbrev pub Tells : (r : G.Part) → Form G r → ℕ → List G.Token → Outcome G.Label G.Token (G.Tree r) → Type 0
  Tells r form l i o = Good G (narrow r form l) (wide r form l) limits (walk G there large r form l) i o

  abbrev pub TellsPart : (q : G.Part) → ℕ → List G.Token → Outcome G.Label G.Token (G.Tree q) → Type 0
  TellsPart q l i o = Good G (narrow q (forms q) l) (wide q (forms q) l) limits (there q l) i o

  abbrev SomeText : (r : G.Part) → Form G r → ℕ → Type 0
  SomeText r form l = Possible G forms tables h r form l

  abbrev begun : {r : G.Part} {form : Form G r} {l : ℕ} → SomeText r form l → Completes G (narrow r form l) []
  begun s = record { missing = s.word; value = s.value; begins = s.text }

  take_good : (r : G.Part) (up : ℕ → ℕ) (items : ℕ) (test : G.Kind → Bool) (k : G.Token → Form G r) (l : ℕ) → SomeText r (take up items test k) l → ((t : G.Token) → test (G.kind t) ≡ true → SomeText r (k t) l)
      → (i : List G.Token) → ((t : G.Token) → test (G.kind t) ≡ true → (ts : List G.Token) → length ts < length i → Tells r (k t) l ts (walk G here limits r (k t) l ts))
      → (o : Outcome G.Label G.Token G.Token) → Expected G limits (up l) items test i o → Tells r (take up items test k) l i (and_then o (λ t. walk G here limits r (k t) l))
  unfolding walk
  take_good r up items test k l some each i ih o (other e) = record {
    run = record {
      word = [];
      front = refl;
      within = tt;
      fact = record {
        can = begun some;
        holds = λ n a. ap (λ (o : Outcome G.Label G.Token G.Token). and_then o (λ t. walk G there large r (k t) l)) (expect_other G large (up l) items test n (alike_other G test i n e a));
      };
    };
  }
  take_good r up items test k l some each i ih o (high {t = t} {ts = ts} e f) = let s = each t e in record {
    run = record {
      word = [];
      front = refl;
      within = tt;
      fact = record {
        letter = record { token = t; level = up l; items = items };
        behind = ts;
        begin = refl;
        excess = f;
        goes = record { missing = s.word; value = s.value; begins = taken t e s.text };
      };
    };
  }
  take_good r up items test k l some each i ih o (many {t = t} {ts = ts} e f g) = let s = each t e in record {
    run = record {
      word = [];
      front = refl;
      within = tt;
      fact = record {
        letter = record { token = t; level = up l; items = items };
        behind = ts;
        begin = refl;
        excess = (f, g);
        goes = record { missing = s.word; value = s.value; begins = taken t e s.text };
      };
    };
  }
  take_good r up items test k l some each i ih o (comes {t = t} {ts = ts} e f g) =
      good_behind G (narrow r (take up items test k) l) (wide r (take up items test k) l) (narrow r (k t) l) (wide r (k t) l) limits (walk G there large r (take up items test k) l) (walk G there large r (k t) l)
      (record { token = t; level = up l; items = items } ∷ []) true i ts refl (f, g, tt) (λ v a d. taken t e d) (λ x v a d. taken t e d)
      (λ x a. ap (λ (o : Outcome G.Label G.Token G.Token). and_then o (λ t. walk G there large r (k t) l)) (expect_comes G large (up l) items test t x e (omega (arith, f, grows.levels)) (omega (arith, g, grows.items))))
      (walk G here limits r (k t) l ts) (inl refl) (ih t e ts (omega arith))

  part_good : (r : G.Part) (up : ℕ → ℕ) (q : G.Part) (k : G.Tree q → Form G r) (l : ℕ) → ((b : G.Tree q) → SomeText r (k b) l) → (i : List G.Token)
      → ((b : G.Tree q) (j : List G.Token) → Text G forms q (forms q) (up l) i b j → Tells r (k b) l j (walk G here limits r (k b) l j))
      → (o : Outcome G.Label G.Token (G.Tree q)) → TellsPart q (up l) i o → Tells r (part up q k) l i (and_then o (λ b. walk G here limits r (k b) l))
  unfolding walk
  part_good r up q k l each i ih (Ok x) g =
      good_behind G (narrow r (part up q k) l) (wide r (part up q k) l) (narrow r (k x.0) l) (wide r (k x.0) l) limits (walk G there large r (part up q k) l) (walk G there large r (k x.0) l)
      g.run.word true i x.1 g.run.front g.run.within (λ v a d. read g.run.fact.text d) (λ e v a d. read (wider G forms (Some e) g.run.fact.text) d)
      (λ n a. ap (λ (o : Outcome G.Label G.Token (G.Tree q)). and_then o (λ b. walk G there large r (k b) l)) (g.run.fact.holds n a))
      (walk G here limits r (k x.0) l x.1) (inl refl) (ih x.0 x.1 (record { word = g.run.word; front = g.run.front; text = g.run.fact.text }))
  part_good r up q k l each i ih (Err s) g =
      good_fault G (narrow q (forms q) (up l)) (wide q (forms q) (up l)) (narrow r (part up q k) l) (wide r (part up q k) l) limits (there q (up l)) (walk G there large r (part up q k) l)
      (λ w b d. let z = each b in record { missing = z.word; value = z.value; begins = read d z.text })
      (λ e w b d. let z = each b in record { missing = z.word; value = z.value; begins = read d (wider G forms (Some e) z.text) })
      (λ x s e. ap (λ (o : Outcome G.Label G.Token (G.Tree q)). and_then o (λ b. walk G there large r (k b) l)) e) i s g

  pick_good : (r : G.Part) (test : G.Kind → Bool) (a b : Form G r) (l : ℕ) (i : List G.Token) → (next_is G.kind test i ≡ true → Moved i (walk G here limits r a l i))
      → Tells r a l i (walk G here limits r a l i) → Tells r b l i (walk G here limits r b l i) → (c : Bool) → next_is G.kind test i ≡ c
      → Tells r (pick test a b) l i (if c then walk G here limits r a l i else walk G here limits r b l i)
  unfolding walk
  pick_good r test a b l i moved g g2 true e =
      good_behind G (narrow r (pick test a b) l) (wide r (pick test a b) l) (narrow r a l) (wide r a l) limits (walk G there large r (pick test a b) l) (walk G there large r a l)
      [] false i i refl tt (λ v x d. first d) (λ e v x d. first d) (λ x z. choose_one G test (walk G there large r a l) (walk G there large r b l) x (alike_one G test i x e z)) (walk G here limits r a l i) (inr (moved e)) g
  pick_good r test a b l i moved g g2 false e =
      good_behind G (narrow r (pick test a b) l) (wide r (pick test a b) l) (narrow r b l) (wide r b l) limits (walk G there large r (pick test a b) l) (walk G there large r b l)
      [] true i i refl tt (λ v x d. second d) (λ e v x d. second d) (λ x z. choose_other G test (walk G there large r a l) (walk G there large r b l) x (alike_other G test i x e z)) (walk G here limits r b l i) (inl refl) g2

  bar_good : (r : G.Part) (left : G.Kind → Bool) (label : G.Label) (k : Form G r) (l : ℕ) → SomeText r k l → (i : List G.Token) → Tells r k l i (walk G here limits r k l i) → (c : Bool) → next_is G.kind left i ≡ c
      → Tells r (bar left label k) l i (if c then Err (LeftOut label, i) else walk G here limits r k l i)
  unfolding walk
  bar_good r left label k l some [] g true e = absurd (true≢false (sym e))
  bar_good r left label k l some (t ∷ ts) g true e = record {
    run = record {
      word = [];
      front = refl;
      within = tt;
      fact = record {
        can = record { missing = some.word; value = some.value; begins = kept some.text };
        letter = record { token = t; level = l; items = 0 };
        behind = ts;
        begin = refl;
        goes = record { missing = some.word; value = some.value; begins = left_out t refl e (wider G forms (Some label) some.text) };
        holds = λ n a. choose_one G left (fail (LeftOut label)) (walk G there large r k l) n (alike_one G left (t ∷ ts) n e a);
      };
    };
  }
  bar_good r left label k l some i g false e =
      good_behind G (narrow r (bar left label k) l) (wide r (bar left label k) l) (narrow r k l) (wide r k l) limits (walk G there large r (bar left label k) l) (walk G there large r k l)
      [] true i i refl tt (λ v x d. kept d) (λ e v x d. kept d) (λ x z. choose_other G left (fail (LeftOut label)) (walk G there large r k l) x (alike_other G left i x e z)) (walk G here limits r k l i) (inl refl) g

  opened : (r : G.Part) (test : G.Kind → Bool) (a : Form G r) (l : ℕ) (moved : Bool) (f : G.Kind → Bool) (none : G.Tree r → Type 0) → Fit G tables r moved f none a
      → ((x : G.Kind) → test x ≡ true → Opens G tables r x a) → (i : List G.Token) → next_is G.kind test i ≡ true → Moved i (walk G here limits r a l i)
  opened r test a l moved f none fit opens [] e = absurd (true≢false (sym e))
  opened r test a l moved f none fit opens (t ∷ ts) e = moves G forms tables h limits t ts (opens (G.kind t) e) moved f none fit l

  module _ (f : ℕ) (parts : (q : G.Part) (l : ℕ) (i : List G.Token) → enough tables.top (tables.rank q) i ≤ f → TellsPart q l i (here q l i)) where
    walk_good : {r : G.Part} {form : Form G r} (moved : Bool) {first : G.Kind → Bool} {none : G.Tree r → Type 0} → Fit G tables r moved first none form
        → (n : ℕ) → tables.rank r + n * suc tables.top ≤ f → (l : ℕ) (i : List G.Token) → Left G forms tables h moved n i → Tells r form l i (walk G here limits r form l i)
    unfolding walk
    walk_good moved (gives a z) n le l i left = record { run = record { word = []; front = refl; within = tt; fact = record { text = given a; holds = λ n z. refl } } }
    walk_good {r = r} moved (takes {first = f0} {none = none} {up = up} {items = items} {test = test} {k = k} t0 e0 within fs zs rest) n le l i left =
        take_good r up items test k l (possible G forms tables h l moved f0 none (takes t0 e0 within fs zs rest)) (λ t e. possible G forms tables h l true (fs t) (zs t) (rest t e)) i
        (λ t e ts short. walk_good true (rest t e) n le l ts (left_less G forms tables h n i ts left short)) (expect G limits (up l) items test i) (expected G limits (up l) items test i)
    walk_good {r = r} moved (reads {up = up} {q = q} {k = k} falls null within fs zs rest st stops) n le l i left =
        part_good r up q k l (λ b. possible G forms tables h l true (fs b) (zs b) (rest b)) i
        (λ b j t. walk_good true (rest b) n le l j (left_less G forms tables h n i j left (strict G forms tables h q (up l) i b j (null b) t))) (here q (up l) i) (parts q (up l) i (turns G forms tables h f n i le left falls))
    walk_good {r = r} moved (reads_none {up = up} {q = q} {k = k} falls within fs zs rest more some st stops) n le l i left =
        part_good r up q k l (λ b. possible G forms tables h l moved (fs b) (zs b) (rest b)) i
        (λ b j t. walk_good moved (rest b) n le l j (left_same G forms tables h n i j left (loose G forms tables h q (up l) i b j t))) (here q (up l) i) (parts q (up l) i (turns G forms tables h f n i le left falls))
    walk_good {r = r} moved (picks {test = test} {a = a} {b = b} f1 h1 z1 fit1 w1 within1 opens fit2 apart within2 stops some) n le l i left =
        pick_good r test a b l i (opened r test a l moved f1 (λ x. ⊥) fit1 opens i) (walk_good moved fit1 n le l i left) (walk_good moved fit2 n le l i left) (next_is G.kind test i) refl
    walk_good {r = r} moved (bars {left = lefts} {e = label} {k = k} f1 z1 fit apart within left_in stops some) n le l i left =
        bar_good r lefts label k l (possible G forms tables h l moved f1 z1 fit) i (walk_good moved fit n le l i left) (next_is G.kind lefts i) refl

  by_turns : (f : ℕ) (p : G.Part) (l : ℕ) (i : List G.Token) → enough tables.top (tables.rank p) i ≤ f → TellsPart p l i (here p l i)
  by_turns zero p l i le = absurd (omega arith)
  by_turns (suc f) p l i le =
      let g = walk_good f (λ q l i le. by_turns f q l i le) false (h.fits p) (length i) (omega arith) l i (record { most = omega arith; fewer = λ e. absurd (true≢false (sym e)) }) in
      good_behind G (narrow p (forms p) l) (wide p (forms p) l) (narrow p (forms p) l) (wide p (forms p) l) limits (there p l) (walk G there large p (forms p) l) [] true i i refl tt (λ v a d. d) (λ e v a d. d)
      (λ x z. reader_law G forms tables h large p l x) (here p l i) (inl refl) (subst (λ (o : Outcome G.Label G.Token (G.Tree p)). Tells p (forms p) l i o) (sym (reader_law G forms tables h limits p l i)) g)

  -- what each run of a reader tells
  pub good : (p : G.Part) (l : ℕ) (i : List G.Token) → TellsPart p l i (here p l i)
  good p l i = by_turns (enough tables.top (tables.rank p) i) p l i (omega arith)
