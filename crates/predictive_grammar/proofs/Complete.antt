-- What the grammar has is read, and what the wide grammar has is read or stops where it leaves the grammar.
use Rattle.std.proofs.Common.{◌≡◌, ℕ, Bool, true, false, List, [], ◌∷◌, ◌++◌, Option, Some, Ok, Err, refl, sym, subst}
use Rattle.predictive_grammar.specs.Forms.{Signature, Form, part, Productions}
use Rattle.predictive_grammar.specs.Follows.{Word, raw, Follows, given, taken, read, first, second, kept, left_out, Reads}
use Rattle.predictive_grammar.specs.Steps.{LeftOut, Limits, Outcome, Parser, and_then, fail, next_is}
use Rattle.predictive_grammar.specs.Reading.{walk, reader}
use Rattle.predictive_grammar.specs.Exact.{IsWithin}
use Rattle.predictive_grammar.specs.Fit.{Within, Apart, Tables, Fit, gives, takes, reads, reads_none, picks, bars, IsPredictive}
use Rattle.predictive_grammar.proofs.Words.{raw-then, within-front, within-back}
use Rattle.predictive_grammar.proofs.Texts.{Begins, first_kind}
use Rattle.predictive_grammar.proofs.Taking.{expect_comes, choose_one, choose_other}
use Rattle.predictive_grammar.proofs.Law.{reader_law}

-- the whole was read, or in the wide grammar a token stopped the reader
pub data Ends {L T A : Type 0} (wide : Option L) (a : A) (rest : List T) : Outcome L T A → Type 0 where
  whole : Ends wide a rest (Ok (a, rest))
  barred : {e : L} → wide ≡ Some e → (j : List T) → Ends wide a rest (Err (LeftOut e, j))

module _ (G : Signature) (forms : Productions G) (tables : Tables G) (h : IsPredictive G forms tables) where
  -- at the end, or in front of one of the kinds
  abbrev pub Before : (G.Kind → Bool) → List G.Token → Type 0
  Before stop [] = Unit {0}
  Before stop (t ∷ ts) = stop (G.kind t) ≡ true

  abbrev Starts : {r : G.Part} → (G.Kind → Bool) → (G.Tree r → Type 0) → Word G → G.Tree r → Type 0
  Starts f none w a = Begins G forms tables h f none w a

  before_within : (f g : G.Kind → Bool) (rest : List G.Token) → Within f g → Before f rest → Before g rest
  before_within f g [] within b = tt
  before_within f g (t ∷ ts) within b = within (G.kind t) b

  -- a part ends where the next begins
  edge : {r : G.Part} (f stop after : G.Kind → Bool) (z : G.Tree r → Type 0) (v : Word G) (a : G.Tree r) (rest : List G.Token) → Starts f z v a → Within f stop → (z a → Within after stop) → Before after rest
      → Before stop (raw v ++ rest)
  edge f stop after z [] a rest s within more b = before_within after stop rest (more s) b
  edge f stop after z (x ∷ v) a rest s within more b = within (G.kind x.token) s

  none_ahead : (test after : G.Kind → Bool) (rest : List G.Token) → Apart after test → Before after rest → next_is G.kind test rest ≡ false
  none_ahead test after [] apart b = refl
  none_ahead test after (t ∷ ts) apart b = apart (G.kind t) b

  other_ahead : {r : G.Part} (f test after : G.Kind → Bool) (z : G.Tree r → Type 0) (w : Word G) (a : G.Tree r) (rest : List G.Token) → Starts f z w a → Apart f test → (z a → Apart after test) → Before after rest
      → next_is G.kind test (raw w ++ rest) ≡ false
  other_ahead f test after z [] a rest s apart more b = none_ahead test after rest (more s) b
  other_ahead f test after z (x ∷ w) a rest s apart more b = apart (G.kind x.token) s

  one_ahead : {r : G.Part} (f test : G.Kind → Bool) (w : Word G) (a : G.Tree r) (rest : List G.Token) → Starts f (λ x. ⊥) w a → Within f test → next_is G.kind test (raw w ++ rest) ≡ true
  one_ahead f test [] a rest s within = absurd s
  one_ahead f test (x ∷ w) a rest s within = within (G.kind x.token) s

  module _ (limits : Limits) where
    abbrev here : (p : G.Part) → ℕ → Parser G.Label G.Token (G.Tree p)
    here p l = reader G forms tables.top tables.rank limits p l

    ends_then : {A B : Type 0} {wide : Option G.Label} (b : A) (a : B) (f : A → Parser G.Label G.Token B) (j rest : List G.Token) (o : Outcome G.Label G.Token A) → Ends wide b j o → Ends wide a rest (f b j) → Ends wide a rest (and_then o f)
    ends_then b a f j rest o whole e = e
    ends_then b a f j rest o (barred w m) e = barred w m

    ends_read : {wide : Option G.Label} (r : G.Part) (up : ℕ → ℕ) (q : G.Part) (k : G.Tree q → Form G r) (l : ℕ) (u v : Word G) (b : G.Tree q) (a : G.Tree r) (rest : List G.Token)
        → Ends wide b (raw v ++ rest) (walk G here limits q (forms q) (up l) (raw u ++ (raw v ++ rest))) → Ends wide a rest (walk G here limits r (k b) l (raw v ++ rest))
        → Ends wide a rest (walk G here limits r (part up q k) l (raw (u ++ v) ++ rest))
    unfolding walk
    ends_read {wide = wide} r up q k l u v b a rest e f =
        subst (λ (i : List G.Token). Ends wide a rest (walk G here limits r (part up q k) l i)) (sym (raw-then u v rest))
        (ends_then b a (λ b. walk G here limits r (k b) l) (raw v ++ rest) rest (here q (up l) (raw u ++ (raw v ++ rest)))
        (subst (λ (o : Outcome G.Label G.Token (G.Tree q)). Ends wide b (raw v ++ rest) o) (sym (reader_law G forms tables h limits q (up l) (raw u ++ (raw v ++ rest)))) e) f)

    pub walk_complete : {wide : Option G.Label} {r : G.Part} {form : Form G r} {l : ℕ} {w : Word G} {a : G.Tree r} → Follows G forms wide r form l w a
        → (moved : Bool) (f : G.Kind → Bool) (none : G.Tree r → Type 0) → Fit G tables r moved f none form → IsWithin limits w → (rest : List G.Token) → Before (tables.stop r a) rest
        → Ends wide a rest (walk G here limits r form l (raw w ++ rest))
    unfolding walk
    walk_complete (given a) moved f none (gives b n) within rest before = whole
    walk_complete {wide = wide} (taken {r = r} {l = l} {up = up} {items = items} {test = test} {k = k} {w = w} {a = a} t e d) moved f none (takes t0 e0 in_first fs zs rests) within rest before =
        subst (λ (o : Outcome G.Label G.Token G.Token). Ends wide a rest (and_then o (λ t. walk G here limits r (k t) l))) (sym (expect_comes G limits (up l) items test t (raw w ++ rest) e within.0 within.1))
        (walk_complete d true (fs t) (zs t) (rests t e) within.2 rest before)
    walk_complete (read {r = r} {l = l} {up = up} {q = q} {k = k} {u = u} {v = v} {b = b} {a = a} d c) moved f none (reads falls null in_first fs zs rests st stops) within rest before =
        ends_read r up q k l u v b a rest
        (walk_complete d false (tables.first q) (tables.none q) (h.fits q) (within-front limits u v within) (raw v ++ rest)
        (edge (fs b) (tables.stop q b) (tables.stop r a) (zs b) v a rest (first_kind G forms tables h c true (fs b) (zs b) (rests b)) (st b) (stops b a) before))
        (walk_complete c true (fs b) (zs b) (rests b) (within-back limits u v within) rest before)
    walk_complete (read {r = r} {l = l} {up = up} {q = q} {k = k} {u = u} {v = v} {b = b} {a = a} d c) moved f none (reads_none falls in_first fs zs rests more some st stops) within rest before =
        ends_read r up q k l u v b a rest
        (walk_complete d false (tables.first q) (tables.none q) (h.fits q) (within-front limits u v within) (raw v ++ rest)
        (edge (fs b) (tables.stop q b) (tables.stop r a) (zs b) v a rest (first_kind G forms tables h c moved (fs b) (zs b) (rests b)) (st b) (stops b a) before))
        (walk_complete c moved (fs b) (zs b) (rests b) (within-back limits u v within) rest before)
    walk_complete {wide = wide} (first {r = r} {l = l} {g = g} {y = y} {n = n} {w = w} {a = a} d) moved f none (picks f1 h1 z1 fit1 w1 within1 opens fit2 apart within2 stops some) within rest before =
        subst (λ (o : Outcome G.Label G.Token (G.Tree r)). Ends wide a rest o)
        (sym (choose_one G g (walk G here limits r y l) (walk G here limits r n l) (raw w ++ rest) (one_ahead f1 g w a rest (first_kind G forms tables h d moved f1 (λ x. ⊥) fit1) w1)))
        (walk_complete d moved f1 (λ x. ⊥) fit1 within rest before)
    walk_complete {wide = wide} (second {r = r} {l = l} {g = g} {y = y} {n = n} {w = w} {a = a} d) moved f none (picks f1 h1 z1 fit1 w1 within1 opens fit2 apart within2 stops some) within rest before =
        subst (λ (o : Outcome G.Label G.Token (G.Tree r)). Ends wide a rest o)
        (sym (choose_other G g (walk G here limits r y l) (walk G here limits r n l) (raw w ++ rest)
        (other_ahead h1 g (tables.stop r a) z1 w a rest (first_kind G forms tables h d moved h1 z1 fit2) apart (stops a) before)))
        (walk_complete d moved h1 z1 fit2 within rest before)
    walk_complete {wide = wide} (kept {r = r} {l = l} {left = left} {e = label} {k = k} {w = w} {a = a} d) moved f none (bars f1 z1 fit apart in_first left_in stops some) within rest before =
        subst (λ (o : Outcome G.Label G.Token (G.Tree r)). Ends wide a rest o)
        (sym (choose_other G left (fail (LeftOut label)) (walk G here limits r k l) (raw w ++ rest) (other_ahead f1 left (tables.stop r a) z1 w a rest (first_kind G forms tables h d moved f1 z1 fit) apart (stops a) before)))
        (walk_complete d moved f1 z1 fit within rest before)
    walk_complete {wide = wide} (left_out {r = r} {l = l} {left = left} {e = label} {k = k} {w = w} {a = a} t e lefts d) moved f none (bars f1 z1 fit apart in_first left_in stops some) within rest before =
        subst (λ (o : Outcome G.Label G.Token (G.Tree r)). Ends wide a rest o) (sym (choose_one G left (fail (LeftOut label)) (walk G here limits r k l) (t ∷ (raw w ++ rest)) lefts)) (barred e (t ∷ (raw w ++ rest)))

    -- a text is read before what its part ends in front of
    pub complete : {wide : Option G.Label} {p : G.Part} {l : ℕ} {w : Word G} {a : G.Tree p} → Reads G forms wide p l w a → IsWithin limits w → (rest : List G.Token) → Before (tables.stop p a) rest
        → Ends wide a rest (reader G forms tables.top tables.rank limits p l (raw w ++ rest))
    complete {wide = wide} {p = p} {l = l} {w = w} {a = a} d within rest before =
        subst (λ (o : Outcome G.Label G.Token (G.Tree p)). Ends wide a rest o) (sym (reader_law G forms tables h limits p l (raw w ++ rest)))
        (walk_complete d false (tables.first p) (tables.none p) (h.fits p) within rest before)
