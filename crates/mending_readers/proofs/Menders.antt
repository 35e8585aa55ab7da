-- A mending reader is the walk of its form, and it always gives a tree.
use Rattle.std.proofs.Common.{◌≡◌, ℕ, zero, suc, ◌+◌, ◌*◌, ◌<◌, ◌≤◌, Bool, true, false, if◌then◌else◌, nat_lt, ◌&&◌, List, [], ◌∷◌, length, Some, None, refl, sym, ap, subst, ◌∙◌, true≢false, arith}
use Rattle.predictive_grammar.specs.Forms.{Signature, Form, give, take, part, pick, bar, Productions}
use Rattle.predictive_grammar.specs.Follows.{Reads}
use Rattle.predictive_grammar.specs.Steps.{Limits, next_is}
use Rattle.predictive_grammar.specs.Reading.{reader, enough}
use Rattle.predictive_grammar.specs.Fit.{Tables, Fit, gives, takes, reads, reads_none, picks, bars, IsPredictive}
use Rattle.mending_readers.specs.Mending.{State, Going, Stopped, Mended, Supply, first_that, make, take_below, mend_token, mend_then, mend_walk, mend_run, mender, Lower, lower_give, lower_take, lower_part, lower_pick, lower_bar, IsMended, Mends}
use Rattle.predictive_grammar.proofs.Sound.{Text}
use Rattle.predictive_grammar.proofs.Law.{Left, left_less, left_same, turns, strict, loose, turns_of}
use Rattle.mending_readers.proofs.Mends.{Splits, Told, run_mends, mender_mends, mends_of}

-- both give the same
pub record Same {T A : Type 0} (x y : Mended T A) : Type 0 where
  pub value : A × State T
  pub one : x ≡ Some value
  pub other : y ≡ Some value

some_is : {A : Type 0} (a b : A) → Some a ≡ Some b → a ≡ b
some_is a b e = cc

-- what gives the same as a third
joined : {T A : Type 0} (x y z : Mended T A) → Same x z → Same y z → Same x y
joined x y z a b = record { value = a.value; one = a.one; other = b.one ∙ sym b.other ∙ a.other }

module _ (G : Signature) (forms : Productions G) (supply : Supply G) (limits : Limits) where
  abbrev Menders : Type 0
  Menders = (q : G.Part) → ℕ → State G.Token → Mended G.Token (G.Tree q)

  -- where it stopped it stays
  abbrev Stays : Menders → Type 0
  Stays one = (q : G.Part) (l : ℕ) (i : List G.Token) (x : G.Tree q × State G.Token) → one q l (Stopped i) ≡ Some x → (j : List G.Token) × (x.1 ≡ Stopped j)

  module _ (one other_one : Menders) where
    abbrev SameWalk : (r : G.Part) → Form G r → List G.Token → ℕ → State G.Token → Type 0
    SameWalk r form before l s = Same (mend_walk G supply one limits r form before l s) (mend_walk G supply other_one limits r form before l s)

    abbrev SamePart : (q : G.Part) → ℕ → State G.Token → Type 0
    SamePart q l s = Same (one q l s) (other_one q l s)

    part_same : (r : G.Part) (up : ℕ → ℕ) (q : G.Part) (k : G.Tree q → Form G r) (before : List G.Token) (l : ℕ) (s : State G.Token) → SamePart q (up l) s
        → ((x : G.Tree q × State G.Token) → one q (up l) s ≡ Some x → SameWalk r (k x.0) before l x.1) → SameWalk r (part up q k) before l s
    unfolding mend_walk
    part_same r up q k before l s same rest = let n = rest same.value same.one in record {
      value = n.value;
      one = ap (λ (o : Mended G.Token (G.Tree q)). mend_then o (λ b z. mend_walk G supply one limits r (k b) before l z)) same.one ∙ n.one;
      other = ap (λ (o : Mended G.Token (G.Tree q)). mend_then o (λ b z. mend_walk G supply other_one limits r (k b) before l z)) same.other ∙ n.other;
    }

    module _ (stays : Stays one) where
      -- what is asked for behind a part where it stopped
      behind_stopped : (r q : G.Part) (k : G.Tree q → Form G r) (before : List G.Token) (l m : ℕ) (i : List G.Token) (x : G.Tree q × State G.Token) → one q m (Stopped i) ≡ Some x
          → ((j : List G.Token) → SameWalk r (k x.0) before l (Stopped j)) → SameWalk r (k x.0) before l x.1
      behind_stopped r q k before l m i x e f = let s = stays q m i x e in subst (λ (z : State G.Token). SameWalk r (k x.0) before l z) (sym s.1) (f s.0)

      pub lower_same : (height : G.Part → ℕ) {r : G.Part} {form : Form G r} → Lower G height r form → ((q : G.Part) (l : ℕ) (j : List G.Token) → height q < height r → SamePart q l (Stopped j))
          → (before : List G.Token) (l : ℕ) (i : List G.Token) → SameWalk r form before l (Stopped i)
      unfolding mend_walk
      lower_same height (lower_give {a = a}) same before l i = record { value = (a, Stopped i); one = refl; other = refl }
      lower_same height (lower_take {test = test} rest) same before l i =
          let t : G.Token = first_that G.kind test (supply.offers i) (supply.otherwise i before) in lower_same height (rest t) same (t ∷ before) l i
      lower_same height {r = r} (lower_part {up = up} {q = q} {k = k} e rest) same before l i =
          part_same r up q k before l (Stopped i) (same q (up l) i e) (λ x is. behind_stopped r q k before l (up l) i x is (λ j. lower_same height (rest x.0) same before l j))
      lower_same height (lower_pick x) same before l i = lower_same height x same before l i
      lower_same height (lower_bar x) same before l i = lower_same height x same before l i

      -- any form, where it stopped
      pub stopped_same : (r : G.Part) (form : Form G r) → ((q : G.Part) (l : ℕ) (j : List G.Token) → SamePart q l (Stopped j)) → (before : List G.Token) (l : ℕ) (i : List G.Token) → SameWalk r form before l (Stopped i)
      unfolding mend_walk
      stopped_same r (give a) same before l i = record { value = (a, Stopped i); one = refl; other = refl }
      stopped_same r (take up items test k) same before l i =
          let t : G.Token = first_that G.kind test (supply.offers i) (supply.otherwise i before) in stopped_same r (k t) same (t ∷ before) l i
      stopped_same r (part up q k) same before l i =
          part_same r up q k before l (Stopped i) (same q (up l) i) (λ x is. behind_stopped r q k before l (up l) i x is (λ j. stopped_same r (k x.0) same before l j))
      stopped_same r (pick test a b) same before l i = stopped_same r b same before l i
      stopped_same r (bar left e k) same before l i = stopped_same r k same before l i

-- what comes of asking for a token: one that stands there, or a stop
pub data Next (G : Signature) (test : G.Kind → Bool) (i : List G.Token) : G.Token × State G.Token → Type 0 where
  goes : {t : G.Token} {ts : List G.Token} → i ≡ t ∷ ts → test (G.kind t) ≡ true → Next G test i (t, Going ts)
  halts : {t : G.Token} {j : List G.Token} → Next G test i (t, Stopped j)

module _ (G : Signature) (supply : Supply G) (limits : Limits) (level items : ℕ) (test : G.Kind → Bool) (before : List G.Token) where
  by_limits : (t : G.Token) (ts : List G.Token) (c : Bool) → test (G.kind t) ≡ true → Next G test (t ∷ ts) (if c then (t, Going ts) else (supply.moved (t ∷ ts) t, Stopped (t ∷ ts)))
  by_limits t ts true e = goes refl e
  by_limits t ts false e = halts

  by_test : (t : G.Token) (ts : List G.Token) (b : Bool) → test (G.kind t) ≡ b → Next G test (t ∷ ts) (if b then take_below G supply limits level items t ts else make G supply test before (t ∷ ts))
  by_test t ts true e = by_limits t ts (nat_lt level limits.levels && nat_lt items limits.items) e
  by_test t ts false e = halts

  pub next_token : (i : List G.Token) → Next G test i (mend_token G supply limits level items test before (Going i))
  next_token [] = halts
  next_token (t ∷ ts) = by_test t ts (test (G.kind t)) refl

module _ (G : Signature) (forms : Productions G) (tables : Tables G) (h : IsPredictive G forms tables) (supply : Supply G) (limits : Limits) where
  abbrev Asked : Type 0
  Asked = (q : G.Part) → ℕ → State G.Token → Mended G.Token (G.Tree q)

  -- what is told of a part, all the same what is new
  abbrev pub Plainly : (q : G.Part) → ℕ → State G.Token → Mended G.Token (G.Tree q) → Type 0
  Plainly q l s o = Told G limits (λ rest t. Unit {0}) (Reads G forms None q l) (reader G forms tables.top tables.rank limits q l) s o

  abbrev Split : (q : G.Part) → ℕ → State G.Token → G.Tree q → State G.Token → Type 0
  Split q l s a z = Splits G limits (λ rest t. Unit {0}) (Reads G forms None q l) (reader G forms tables.top tables.rank limits q l) s a z

  still : (q : G.Part) (l : ℕ) (i : List G.Token) (a : G.Tree q) (z : State G.Token) → Split q l (Stopped i) a z → (j : List G.Token) × (z ≡ Stopped j)
  still q l i a (Going j) t = absurd t
  still q l i a (Stopped j) t = (j, refl)

  module _ (one other_one : Asked) (told : (q : G.Part) (l : ℕ) (s : State G.Token) → Plainly q l s (one q l s)) where
    split : (q : G.Part) (l : ℕ) (s : State G.Token) (x : G.Tree q × State G.Token) → one q l s ≡ Some x → Split q l s x.0 x.1
    split q l s x e = subst (λ (o : Mended G.Token (G.Tree q)). Plainly q l s o) e (told q l s)

    pub stays : Stays G forms supply limits one
    stays q l i x e = still q l i x.0 x.1 (split q l (Stopped i) x e)

    abbrev SameHere : (r : G.Part) → Form G r → List G.Token → ℕ → State G.Token → Type 0
    SameHere r form before l s = Same (mend_walk G supply one limits r form before l s) (mend_walk G supply other_one limits r form before l s)

    module _ (g : ℕ) (going : (q : G.Part) (l : ℕ) (i : List G.Token) → enough tables.top (tables.rank q) i ≤ g → Same (one q l (Going i)) (other_one q l (Going i)))
        (stopped : (q : G.Part) (l : ℕ) (j : List G.Token) → Same (one q l (Stopped j)) (other_one q l (Stopped j))) where
      free : (r : G.Part) (form : Form G r) (before : List G.Token) (l : ℕ) (i : List G.Token) → SameHere r form before l (Stopped i)
      free r form before l i = stopped_same G forms supply limits one other_one stays r form stopped before l i

      -- behind a part that goes on or stops
      either : (r q : G.Part) (k : G.Tree q → Form G r) (before : List G.Token) (l m : ℕ) (i : List G.Token) (b : G.Tree q) (z : State G.Token) → Split q m (Going i) b z
          → ((j : List G.Token) → Text G forms q (forms q) m i b j → SameHere r (k b) before l (Going j)) → SameHere r (k b) before l z
      either r q k before l m i b (Going j) t f = f j (record { word = t.word; front = t.front; text = t.text })
      either r q k before l m i b (Stopped j) t f = free r (k b) before l j

      take_same : (r : G.Part) (test : G.Kind → Bool) (k : G.Token → Form G r) (before : List G.Token) (l : ℕ) (i : List G.Token) (x : G.Token × State G.Token) → Next G test i x
          → ((t : G.Token) → test (G.kind t) ≡ true → (ts : List G.Token) → length ts < length i → SameHere r (k t) (t ∷ before) l (Going ts)) → SameHere r (k x.0) (x.0 ∷ before) l x.1
      take_same r test k before l i x (goes {t = t} {ts = ts} e p) f = f t p ts (omega (arith, ap length e))
      take_same r test k before l i x (halts {t = t} {j = j}) f = free r (k t) (t ∷ before) l j

      pub walk_same : {r : G.Part} {form : Form G r} {moved : Bool} {first : G.Kind → Bool} {none : G.Tree r → Type 0} → Fit G tables r moved first none form
          → (n : ℕ) → tables.rank r + n * suc tables.top ≤ g → (before : List G.Token) (l : ℕ) (i : List G.Token) → Left G forms tables h moved n i → SameHere r form before l (Going i)
      unfolding mend_walk
      walk_same (gives a z) n le before l i left = record { value = (a, Going i); one = refl; other = refl }
      walk_same {r = r} (takes {up = up} {items = items} {test = test} {k = k} t0 e0 within fs zs rest) n le before l i left =
          take_same r test k before l i (mend_token G supply limits (up l) items test before (Going i)) (next_token G supply limits (up l) items test before i)
          (λ t e ts short. walk_same (rest t e) n le (t ∷ before) l ts (left_less G forms tables h n i ts left short))
      walk_same {r = r} (reads {up = up} {q = q} {k = k} falls null within fs zs rest st stops) n le before l i left =
          part_same G forms supply limits one other_one r up q k before l (Going i) (going q (up l) i (turns G forms tables h g n i le left falls))
          (λ x is. either r q k before l (up l) i x.0 x.1 (split q (up l) (Going i) x is)
          (λ j t. walk_same (rest x.0) n le before l j (left_less G forms tables h n i j left (strict G forms tables h q (up l) i x.0 j (null x.0) t))))
      walk_same {r = r} (reads_none {up = up} {q = q} {k = k} falls within fs zs rest more some st stops) n le before l i left =
          part_same G forms supply limits one other_one r up q k before l (Going i) (going q (up l) i (turns G forms tables h g n i le left falls))
          (λ x is. either r q k before l (up l) i x.0 x.1 (split q (up l) (Going i) x is)
          (λ j t. walk_same (rest x.0) n le before l j (left_same G forms tables h n i j left (loose G forms tables h q (up l) i x.0 j t))))
      walk_same {r = r} (picks {test = test} {a = a} {b = b} f1 h1 z1 fit1 w1 within1 opens fit2 apart within2 stops some) n le before l i left =
          both (next_is G.kind test i) (walk_same fit1 n le before l i left) (walk_same fit2 n le before l i left)
        where
          both : (c : Bool) → SameHere r a before l (Going i) → SameHere r b before l (Going i)
              → Same (if c then mend_walk G supply one limits r a before l (Going i) else mend_walk G supply one limits r b before l (Going i))
              (if c then mend_walk G supply other_one limits r a before l (Going i) else mend_walk G supply other_one limits r b before l (Going i))
          both true x y = x
          both false x y = y
      walk_same {r = r} (bars {left = lefts} {e = label} {k = k} f1 z1 fit apart within left_in stops some) n le before l i left = both (next_is G.kind lefts i) (walk_same fit n le before l i left)
        where
          both : (c : Bool) → SameHere r k before l (Going i) → SameHere r k before l (if c then Stopped i else Going i)
          both true x = free r k before l i
          both false x = x

  -- ---- a part

  module _ (tallest : ℕ) (mends : IsMended G forms supply tallest) where
    abbrev by_turns : ℕ → Asked
    by_turns f q l s = mend_run G forms supply f limits q l s

    abbrev here : Asked
    here q l s = mender G forms supply tables.top tallest tables.rank limits q l s

    told : (f : ℕ) (q : G.Part) (l : ℕ) (s : State G.Token) → Plainly q l s (by_turns f q l s)
    told f q l s = run_mends G limits (λ rest t. Unit {0}) supply (λ test before rest. tt) (λ rest t. tt) mends.moves forms tables h mends.serves f q l s

    -- where it stopped, any number of turns above the height is enough
    made_same : (n : ℕ) (q : G.Part) → mends.height q < n → (f g : ℕ) → mends.height q < f → mends.height q < g → (l : ℕ) (i : List G.Token) → Same (by_turns f q l (Stopped i)) (by_turns g q l (Stopped i))
    unfolding mend_run
    made_same zero q lt f g x y l i = absurd (omega arith)
    made_same (suc n) q lt zero g x y l i = absurd (omega arith)
    made_same (suc n) q lt (suc f) zero x y l i = absurd (omega arith)
    made_same (suc n) q lt (suc f) (suc g) x y l i =
        lower_same G forms supply limits (by_turns f) (by_turns g) (stays_of f) mends.height (mends.lowers q) (λ p m j less. made_same n p (omega arith) f g (omega arith) (omega arith) m j) [] l i
      where
        stays_of : (f : ℕ) → Stays G forms supply limits (by_turns f)
        stays_of f p m j x e = still p m j x.0 x.1 (subst (λ (o : Mended G.Token (G.Tree p)). Plainly p m (Stopped j) o) e (told f p m (Stopped j)))

    mender_at : (p : G.Part) (l : ℕ) (i : List G.Token) → here p l (Going i) ≡ by_turns (suc (turns_of G forms tables h p i + suc tallest)) p l (Going i)
    unfolding mender
    mender_at p l i =
        let e : enough tables.top (tables.rank p) i + suc tallest ≡ suc (turns_of G forms tables h p i + suc tallest) = omega arith in ap (λ (f : ℕ). by_turns f p l (Going i)) e

    stopped_at : (g : ℕ) (q : G.Part) (l : ℕ) (j : List G.Token) → Same (by_turns (g + suc tallest) q l (Stopped j)) (here q l (Stopped j))
    unfolding mender
    stopped_at g q l j = let low = mends.low q in made_same (suc tallest) q (omega (arith, low)) (g + suc tallest) (suc tallest) (omega (arith, low)) (omega (arith, low)) l j

    -- with enough turns
    steps : (most g : ℕ) → g ≤ most → (p : G.Part) (l : ℕ) (i : List G.Token) → turns_of G forms tables h p i ≤ g
        → Same (by_turns (suc (g + suc tallest)) p l (Going i)) (mend_walk G supply here limits p (forms p) [] l (Going i))
    unfolding mend_run
    steps zero g le p l i few =
        walk_same (by_turns (g + suc tallest)) here (told (g + suc tallest)) g (λ q m j more. absurd (omega arith)) (stopped_at g) (h.fits p) (length i) (omega arith) [] l i
        (record { most = omega arith; fewer = λ e. absurd (true≢false (sym e)) })
    steps (suc most) g le p l i few =
        walk_same (by_turns (g + suc tallest)) here (told (g + suc tallest)) g (λ q m j more. asked g le q m j more (λ f1 le q l j few. steps most f1 le q l j few)) (stopped_at g) (h.fits p) (length i) (omega arith) [] l i
        (record { most = omega arith; fewer = λ e. absurd (true≢false (sym e)) })
      where
        asked : (g : ℕ) → g ≤ suc most → (q : G.Part) (l : ℕ) (j : List G.Token) → enough tables.top (tables.rank q) j ≤ g
            → ((f1 : ℕ) → f1 ≤ most → (q : G.Part) (l : ℕ) (j : List G.Token) → turns_of G forms tables h q j ≤ f1
            → Same (by_turns (suc (f1 + suc tallest)) q l (Going j)) (mend_walk G supply here limits q (forms q) [] l (Going j)))
            → Same (by_turns (g + suc tallest) q l (Going j)) (here q l (Going j))
        asked zero le q l j more ih = absurd (omega arith)
        asked (suc g1) le q l j more ih =
            let walked : Mended G.Token (G.Tree q) = mend_walk G supply here limits q (forms q) [] l (Going j) in
            let turned = ih (turns_of G forms tables h q j) (omega arith) q l j (omega arith) in
            let first = ih g1 (omega arith) q l j (omega arith) in
            let same : suc g1 + suc tallest ≡ suc (g1 + suc tallest) = omega arith in
            joined (by_turns (suc g1 + suc tallest) q l (Going j)) (here q l (Going j)) walked
            (record { value = first.value; one = ap (λ (f : ℕ). by_turns f q l (Going j)) same ∙ first.one; other = first.other })
            (record { value = turned.value; one = mender_at q l j ∙ turned.one; other = turned.other })

    same_walk : (p : G.Part) (l : ℕ) (s : State G.Token) → Same (here p l s) (mend_walk G supply here limits p (forms p) [] l s)
    unfolding mender mend_run
    same_walk p l (Going i) = let s = steps (turns_of G forms tables h p i) (turns_of G forms tables h p i) (omega arith) p l i (omega arith) in
        record { value = s.value; one = mender_at p l i ∙ s.one; other = s.other }
    same_walk p l (Stopped i) = lower_same G forms supply limits (by_turns tallest) here stays_here mends.height (mends.lowers p) below [] l i
      where
        stays_here : Stays G forms supply limits (by_turns tallest)
        stays_here q m j x e = still q m j x.0 x.1 (subst (λ (o : Mended G.Token (G.Tree q)). Plainly q m (Stopped j) o) e (told tallest q m (Stopped j)))

        below : (q : G.Part) (l : ℕ) (j : List G.Token) → mends.height q < mends.height p → Same (by_turns tallest q l (Stopped j)) (here q l (Stopped j))
        below q l j less = let low = mends.low p in made_same (suc tallest) q (omega (arith, low)) tallest (suc tallest) (omega (arith, low)) (omega (arith, low)) l j

    -- a mending reader takes its form from left to right, by the mending readers of the parts in it
    pub mender_law : (p : G.Part) (l : ℕ) (s : State G.Token) → mender G forms supply tables.top tallest tables.rank limits p l s
        ≡ mend_walk G supply (mender G forms supply tables.top tallest tables.rank limits) limits p (forms p) [] l s
    mender_law p l s = let w = same_walk p l s in w.one ∙ sym w.other

    -- and it always gives a tree
    pub mender_gives : (p : G.Part) (l : ℕ) (s : State G.Token) → (x : G.Tree p × State G.Token) × (mender G forms supply tables.top tallest tables.rank limits p l s ≡ Some x)
    mender_gives p l s = let w = same_walk p l s in (w.value, w.one)

    module _ (IsNew : List G.Token → G.Token → Type 0) (new_made : (test : G.Kind → Bool) (before rest : List G.Token) → IsNew rest (first_that G.kind test (supply.offers rest) (supply.otherwise rest before)))
        (new_moved : (rest : List G.Token) (t : G.Token) → IsNew rest (supply.moved rest t)) where
      -- the tree is that of the text which is read, or where the reader finds a fault of one that goes on so
      pub texts_are_mended : (p : G.Part) (l : ℕ) (i : List G.Token)
          → Mends G forms p l limits (reader G forms tables.top tables.rank limits p l) IsNew i (mender G forms supply tables.top tallest tables.rank limits p l (Going i))
      texts_are_mended p l i = let x = mender_gives p l (Going i) in
          mends_of G limits IsNew supply new_made new_moved mends.moves forms tables h mends.serves p l i (here p l (Going i)) x.0 x.1
          (mender_mends G limits IsNew supply new_made new_moved mends.moves forms tables h mends.serves tallest p l (Going i))
