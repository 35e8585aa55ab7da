-- A reader is the walk of its form: what it asks for falls in rank, or a token was taken before.
use Rattle.std.proofs.Common.{◌≡◌, ℕ, zero, suc, ◌+◌, ◌*◌, ◌<◌, ◌≤◌, Bool, true, false, if◌then◌else◌, List, [], ◌∷◌, ◌++◌, length, Ok, Err, refl, sym, ap, subst, ◌∙◌, inl, inr, true≢false, arith, mul-le-mul_right}
use Rattle.predictive_grammar.specs.Forms.{Signature, Form, Productions}
use Rattle.predictive_grammar.specs.Follows.{Word, raw}
use Rattle.predictive_grammar.specs.Steps.{LeftOut, Limits, Outcome, Parser, and_then, next_is}
use Rattle.predictive_grammar.specs.Reading.{expect, walk, run, reader, enough}
use Rattle.predictive_grammar.specs.Fit.{Tables, Falls, Fit, gives, takes, reads, reads_none, picks, bars, IsPredictive}
use Rattle.predictive_grammar.proofs.Words.{behind_length}
use Rattle.predictive_grammar.proofs.Texts.{Begins, first_kind}
use Rattle.predictive_grammar.proofs.Taking.{Expected, other, high, many, comes, expected}
use Rattle.predictive_grammar.proofs.Sound.{Text, Told, run_told}

pub and_then_same : {L T A B : Type 0} (o o' : Outcome L T A) (f g : A → Parser L T B) → o ≡ o' → ((a : A) (j : List T) → o ≡ Ok (a, j) → f a j ≡ g a j) → and_then o f ≡ and_then o' g
and_then_same o o' f g e same = go o refl ∙ ap (λ (o : Outcome _ _ _). and_then o g) e
  where
    go : (x : Outcome _ _ _) → o ≡ x → and_then x f ≡ and_then x g
    go (Ok x) e = same x.0 x.1 e
    go (Err s) e = refl

-- so many turns are enough where fewer tokens are left, and where the rank is lower
pub room : (f top n m j k : ℕ) → k + n * suc top ≤ f → m < n → j ≤ top → suc j + m * suc top ≤ f
room f top n m j k le lt low = omega (arith, mul-le-mul_right (suc top) lt)

pub fall : (f top n m j k : ℕ) → k + n * suc top ≤ f → m ≤ n → j < k → suc j + m * suc top ≤ f
fall f top n m j k le short lower = omega (arith, mul-le-mul_right (suc top) short)

module _ (G : Signature) (forms : Productions G) (tables : Tables G) (h : IsPredictive G forms tables) where
  -- a part that has tokens takes some
  pub strict : (q : G.Part) (l : ℕ) (i : List G.Token) (b : G.Tree q) (m : List G.Token) → (tables.none q b → ⊥) → Text G forms q (forms q) l i b m → length m < length i
  strict q l i b m null t = go t.word t.front (first_kind G forms tables h t.text false (tables.first q) (tables.none q) (h.fits q))
    where
      go : (u : Word G) → i ≡ raw u ++ m → Begins G forms tables h (tables.first q) (tables.none q) u b → length m < length i
      go [] e x = absurd (null x)
      go (x ∷ u) e y = let n = behind_length (x ∷ u) i m e in omega arith

  pub loose : (q : G.Part) (l : ℕ) (i : List G.Token) (b : G.Tree q) (m : List G.Token) → Text G forms q (forms q) l i b m → length m ≤ length i
  loose q l i b m t = let n = behind_length t.word i m t.front in omega arith

  -- what is left, where so many tokens were there at first
  pub record Left (moved : Bool) (n : ℕ) (i : List G.Token) : Type 0 where
    pub most : length i ≤ n
    pub fewer : moved ≡ true → length i < n

  pub left_less : {moved : Bool} (n : ℕ) (i j : List G.Token) → Left moved n i → length j < length i → Left true n j
  left_less n i j left lt = let le = left.most in record { most = omega arith; fewer = λ e. omega arith }

  pub left_same : {moved : Bool} (n : ℕ) (i j : List G.Token) → Left moved n i → length j ≤ length i → Left moved n j
  left_same n i j left short = let le = left.most in record { most = omega arith; fewer = λ e. let lt = left.fewer e in omega arith }

  -- a part that is asked for has enough turns
  pub turns : {moved : Bool} {r q : G.Part} (f n : ℕ) (i : List G.Token) → tables.rank r + n * suc tables.top ≤ f → Left moved n i → Falls tables moved r q → enough tables.top (tables.rank q) i ≤ f
  turns {r = r} {q = q} f n i le left (inl e) = room f tables.top n (length i) (tables.rank q) (tables.rank r) le (left.fewer e) (h.low q)
  turns {r = r} {q = q} f n i le left (inr e) = fall f tables.top n (length i) (tables.rank q) (tables.rank r) le left.most e

  module _ (limits : Limits) (one other_one : (q : G.Part) → ℕ → Parser G.Label G.Token (G.Tree q)) (told : (q : G.Part) (l : ℕ) (i : List G.Token) → Told G forms q (forms q) l i (one q l i))
      (f : ℕ) (same : (q : G.Part) (l : ℕ) (i : List G.Token) → enough tables.top (tables.rank q) i ≤ f → one q l i ≡ other_one q l i) where
    read_text : (q : G.Part) (l : ℕ) (i : List G.Token) (b : G.Tree q) (j : List G.Token) → one q l i ≡ Ok (b, j) → Text G forms q (forms q) l i b j
    read_text q l i b j e = subst (λ (o : Outcome G.Label G.Token (G.Tree q)). Told G forms q (forms q) l i o) e (told q l i)

    pub walk_same : {r : G.Part} {form : Form G r} {moved : Bool} {first : G.Kind → Bool} {none : G.Tree r → Type 0} → Fit G tables r moved first none form
        → (n : ℕ) → tables.rank r + n * suc tables.top ≤ f → (l : ℕ) (i : List G.Token) → Left moved n i → walk G one limits r form l i ≡ walk G other_one limits r form l i
    unfolding walk
    walk_same (gives a z) n le l i left = refl
    walk_same {r = r} (takes {up = up} {items = items} {test = test} {k = k} t0 e0 within fs zs rest) n le l i left =
        go (λ t e ts short. walk_same (rest t e) n le l ts (left_less n i ts left short)) i (expect G limits (up l) items test i) (expected G limits (up l) items test i) (omega arith)
      where
        go : ((t : G.Token) → test (G.kind t) ≡ true → (ts : List G.Token) → length ts < length i → walk G one limits r (k t) l ts ≡ walk G other_one limits r (k t) l ts)
            → (x : List G.Token) (o : Outcome G.Label G.Token G.Token) → Expected G limits (up l) items test x o → length x ≤ length i → and_then o (λ t. walk G one limits r (k t) l) ≡ and_then o (λ t. walk G other_one limits r (k t) l)
        go ih x o (other e) s = refl
        go ih x o (high e g) s = refl
        go ih x o (many e g g2) s = refl
        go ih x o (comes {t = t} {ts = ts} e g g2) s = ih t e ts (omega arith)
    walk_same {r = r} (reads {up = up} {q = q} {k = k} falls null within fs zs rest st stops) n le l i left =
        and_then_same (one q (up l) i) (other_one q (up l) i) (λ b. walk G one limits r (k b) l) (λ b. walk G other_one limits r (k b) l) (same q (up l) i (turns f n i le left falls))
        (λ b j e. walk_same (rest b) n le l j (left_less n i j left (strict q (up l) i b j (null b) (read_text q (up l) i b j e))))
    walk_same {r = r} (reads_none {up = up} {q = q} {k = k} falls within fs zs rest more some st stops) n le l i left =
        and_then_same (one q (up l) i) (other_one q (up l) i) (λ b. walk G one limits r (k b) l) (λ b. walk G other_one limits r (k b) l) (same q (up l) i (turns f n i le left falls))
        (λ b j e. walk_same (rest b) n le l j (left_same n i j left (loose q (up l) i b j (read_text q (up l) i b j e))))
    walk_same {r = r} (picks {test = test} {a = a} {b = b} f1 h1 z1 fit1 w1 within1 opens fit2 apart within2 stops some) n le l i left =
        both (next_is G.kind test i) (walk_same fit1 n le l i left) (walk_same fit2 n le l i left)
      where
        both : (c : Bool) → walk G one limits r a l i ≡ walk G other_one limits r a l i → walk G one limits r b l i ≡ walk G other_one limits r b l i
            → (if c then walk G one limits r a l i else walk G one limits r b l i) ≡ (if c then walk G other_one limits r a l i else walk G other_one limits r b l i)
        both true x y = x
        both false x y = y
    walk_same {r = r} (bars {left = lefts} {e = label} {k = k} f1 z1 fit apart within left_in stops some) n le l i left =
        ap (λ (o : Outcome G.Label G.Token (G.Tree r)). if next_is G.kind lefts i then Err (LeftOut label, i) else o) (walk_same fit n le l i left)

  -- enough turns, and one fewer
  abbrev pub turns_of : (p : G.Part) → List G.Token → ℕ
  turns_of p i = tables.rank p + length i * suc tables.top

  module _ (limits : Limits) where
    abbrev here : (p : G.Part) → ℕ → Parser G.Label G.Token (G.Tree p)
    here p l = reader G forms tables.top tables.rank limits p l

    reader_is : (p : G.Part) (l : ℕ) (i : List G.Token) → here p l i ≡ run G forms (suc (turns_of p i)) limits p l i
    unfolding reader
    reader_is p l i = let e : enough tables.top (tables.rank p) i ≡ suc (turns_of p i) = omega arith in ap (λ (f : ℕ). run G forms f limits p l i) e

    -- with enough turns
    steps : (most f : ℕ) → f ≤ most → (p : G.Part) (l : ℕ) (i : List G.Token) → turns_of p i ≤ f → run G forms (suc f) limits p l i ≡ walk G here limits p (forms p) l i
    unfolding run
    steps zero f le p l i few = walk_same limits (run G forms f limits) here (run_told G forms f limits) f (λ q l j more. absurd (omega arith)) (h.fits p) (length i) (omega arith) l i (record { most = omega arith; fewer = λ e. absurd (true≢false (sym e)) })
    steps (suc most) f le p l i few =
        walk_same limits (run G forms f limits) here (run_told G forms f limits) f (λ q l j more. asked f le q l j more (λ f1 le q l j few. steps most f1 le q l j few))
        (h.fits p) (length i) (omega arith) l i (record { most = omega arith; fewer = λ e. absurd (true≢false (sym e)) })
      where
        asked : (f : ℕ) → f ≤ suc most → (q : G.Part) (l : ℕ) (j : List G.Token) → enough tables.top (tables.rank q) j ≤ f
            → ((f1 : ℕ) → f1 ≤ most → (q : G.Part) (l : ℕ) (j : List G.Token) → turns_of q j ≤ f1 → run G forms (suc f1) limits q l j ≡ walk G here limits q (forms q) l j) → run G forms f limits q l j ≡ here q l j
        asked zero le q l j more ih = absurd (omega arith)
        asked (suc f1) le q l j more ih = ih f1 (omega arith) q l j (omega arith) ∙ sym (ih (turns_of q j) (omega arith) q l j (omega arith)) ∙ sym (reader_is q l j)

    pub reader_law : (p : G.Part) (l : ℕ) (i : List G.Token) → reader G forms tables.top tables.rank limits p l i ≡ walk G (reader G forms tables.top tables.rank limits) limits p (forms p) l i
    reader_law p l i = reader_is p l i ∙ steps (turns_of p i) (turns_of p i) (omega arith) p l i (omega arith)
