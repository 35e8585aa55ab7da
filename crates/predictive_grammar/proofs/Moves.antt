-- A form that opens with the next token's kind takes that token, or stops at a limit.
use Rattle.std.proofs.Common.{◌≡◌, ℕ, zero, suc, ◌<◌, Bool, true, false, List, ◌∷◌, length, Ok, Err, refl, sym, ap, subst, ◌∙◌, inl, inr, true≢false, arith}
use Rattle.predictive_grammar.specs.Forms.{Signature, Form, Productions}
use Rattle.predictive_grammar.specs.Steps.{Fault, Syntax, LeftOut, Nesting, Number, Limits, Outcome, Parser, and_then, fail, next_is}
use Rattle.predictive_grammar.specs.Reading.{expect, walk, reader}
use Rattle.predictive_grammar.specs.Fit.{Tables, Falls, Opens, opens_take, opens_part, opens_first, opens_second, opens_bar, Fit, reads, reads_none, picks, bars, IsPredictive}
use Rattle.predictive_grammar.proofs.Words.{behind_length}
use Rattle.predictive_grammar.proofs.Taking.{Expected, other, high, many, comes, expected, choose_one, choose_other}
use Rattle.predictive_grammar.proofs.Sound.{Told, walk_told, reader_told}
use Rattle.predictive_grammar.proofs.Law.{reader_law}

abbrev pub MovedTo : {L T : Type 0} → List T → Fault L → List T → Type 0
MovedTo i Syntax m = length m < length i
MovedTo i (LeftOut e) m = length m < length i
MovedTo i Nesting m = Unit {0}
MovedTo i Number m = Unit {0}

-- a token was taken, or stands over a limit
abbrev pub Moved : {L T A : Type 0} → List T → Outcome L T A → Type 0
Moved i (Ok x) = length x.1 < length i
Moved i (Err s) = MovedTo i s.0 s.1

module _ (G : Signature) (forms : Productions G) where
  moved_to : {L T : Type 0} (i : List T) (s : Fault L) (m : List T) → length m < length i → MovedTo i s m
  moved_to i Syntax m lt = lt
  moved_to i (LeftOut e) m lt = lt
  moved_to i Nesting m lt = tt
  moved_to i Number m lt = tt

  -- what goes on behind fewer tokens
  pub moved_behind : (r : G.Part) (form : Form G r) (l : ℕ) (i j : List G.Token) (o : Outcome G.Label G.Token (G.Tree r)) → Told G forms r form l j o → length j < length i → Moved i o
  moved_behind r form l i j (Ok x) t lt = let n = behind_length t.word j x.1 t.front in omega arith
  moved_behind r form l i j (Err s) t lt = moved_to i s.0 s.1 (omega arith)

  module _ (tables : Tables G) (h : IsPredictive G forms tables) (limits : Limits) where
    abbrev here : (p : G.Part) → ℕ → Parser G.Label G.Token (G.Tree p)
    here p l = reader G forms tables.top tables.rank limits p l

    told : (r : G.Part) (form : Form G r) (l : ℕ) (i : List G.Token) → Told G forms r form l i (walk G here limits r form l i)
    told r form l i = walk_told G forms limits here (reader_told G forms tables.top tables.rank limits) r form l i

    module _ (t : G.Token) (ts : List G.Token) where
      moved_part : (r q : G.Part) (k : G.Tree q → Form G r) (l : ℕ) (o : Outcome G.Label G.Token (G.Tree q)) → Moved (t ∷ ts) o → Moved (t ∷ ts) (and_then o (λ b. walk G here limits r (k b) l))
      moved_part r q k l (Ok x) lt = moved_behind r (k x.0) l (t ∷ ts) x.1 (walk G here limits r (k x.0) l x.1) (told r (k x.0) l x.1) lt
      moved_part r q k l (Err s) m = m

      moved_take : (r : G.Part) (level items : ℕ) (test : G.Kind → Bool) (k : G.Token → Form G r) (l : ℕ) → test (G.kind t) ≡ true → (i : List G.Token) (o : Outcome G.Label G.Token G.Token) → i ≡ t ∷ ts
          → Expected G limits level items test i o → Moved (t ∷ ts) (and_then o (λ t. walk G here limits r (k t) l))
      moved_take r level items test k l e i o is (other f) = absurd (true≢false (sym e ∙ sym (ap (next_is G.kind test) is) ∙ f))
      moved_take r level items test k l e i o is (high f g) = tt
      moved_take r level items test k l e i o is (many f g g2) = tt
      moved_take r level items test k l e i o is (comes {t = x} {ts = xs} f g g2) = moved_behind r (k x) l (t ∷ ts) xs (walk G here limits r (k x) l xs) (told r (k x) l xs) (omega (arith, ap length is))

      pub walk_moves : {r : G.Part} {form : Form G r} → Opens G tables r (G.kind t) form → (moved : Bool) (first : G.Kind → Bool) (none : G.Tree r → Type 0) → Fit G tables r moved first none form
          → ((q : G.Part) → Falls tables moved r q → tables.opens q (G.kind t) ≡ true → (l : ℕ) → Moved (t ∷ ts) (here q l (t ∷ ts))) → (l : ℕ) → Moved (t ∷ ts) (walk G here limits r form l (t ∷ ts))
      unfolding walk
      walk_moves {r = r} (opens_take {up = up} {items = items} {test = test} {k = k} e) moved first none fit asked l =
          moved_take r (up l) items test k l e (t ∷ ts) (expect G limits (up l) items test (t ∷ ts)) refl (expected G limits (up l) items test (t ∷ ts))
      walk_moves {r = r} (opens_part {up = up} {q = q} {k = k} e) moved first none (reads falls null within fs zs rest st stops) asked l = moved_part r q k l (here q (up l) (t ∷ ts)) (asked q falls e (up l))
      walk_moves {r = r} (opens_part {up = up} {q = q} {k = k} e) moved first none (reads_none falls within fs zs rest more some st stops) asked l =
          moved_part r q k l (here q (up l) (t ∷ ts)) (asked q falls e (up l))
      walk_moves {r = r} (opens_first {test = test} {a = a} {b = b} e o) moved first none (picks f1 h1 z1 fit1 w1 within1 opens fit2 apart within2 stops some) asked l =
          subst (λ (o : Outcome G.Label G.Token (G.Tree r)). Moved (t ∷ ts) o) (sym (choose_one G test (walk G here limits r a l) (walk G here limits r b l) (t ∷ ts) e)) (walk_moves o moved f1 (λ x. ⊥) fit1 asked l)
      walk_moves {r = r} (opens_second {test = test} {a = a} {b = b} e o) moved first none (picks f1 h1 z1 fit1 w1 within1 opens fit2 apart within2 stops some) asked l =
          subst (λ (o : Outcome G.Label G.Token (G.Tree r)). Moved (t ∷ ts) o) (sym (choose_other G test (walk G here limits r a l) (walk G here limits r b l) (t ∷ ts) e)) (walk_moves o moved h1 z1 fit2 asked l)
      walk_moves {r = r} (opens_bar {left = left} {e = label} {k = k} e o) moved first none (bars f1 z1 fit apart within left_in stops some) asked l =
          subst (λ (o : Outcome G.Label G.Token (G.Tree r)). Moved (t ∷ ts) o) (sym (choose_other G left (fail (LeftOut label)) (walk G here limits r k l) (t ∷ ts) e)) (walk_moves o moved f1 z1 fit asked l)

      part_moves : (n : ℕ) (p : G.Part) → tables.rank p < n → tables.opens p (G.kind t) ≡ true → (l : ℕ) → Moved (t ∷ ts) (here p l (t ∷ ts))
      part_moves zero p lt e l = absurd (omega arith)
      part_moves (suc n) p lt e l =
          subst (λ (o : Outcome G.Label G.Token (G.Tree p)). Moved (t ∷ ts) o) (sym (reader_law G forms tables h limits p l (t ∷ ts)))
          (walk_moves (h.opens p (G.kind t) e) false (tables.first p) (tables.none p) (h.fits p) (λ q falls e l. part_moves n q (lower q falls) e l) l)
        where
          lower : (q : G.Part) → Falls tables false p q → tables.rank q < n
          lower q (inl e) = absurd (true≢false (sym e))
          lower q (inr lt2) = omega arith

      -- the reader of a part that opens with the next token's kind takes that token
      pub moves : {r : G.Part} {form : Form G r} → Opens G tables r (G.kind t) form → (moved : Bool) (first : G.Kind → Bool) (none : G.Tree r → Type 0) → Fit G tables r moved first none form
          → (l : ℕ) → Moved (t ∷ ts) (walk G here limits r form l (t ∷ ts))
      moves o moved first none fit l = walk_moves o moved first none fit (λ q falls e l. part_moves (suc (tables.rank q)) q (omega arith) e l) l
