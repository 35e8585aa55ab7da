-- What is known of one run of a reader, and how it is put together.
use Rattle.std.proofs.Common.{◌≡◌, ◌<◌, ◌≤◌, Bool, true, false, List, [], ◌∷◌, ◌++◌, length, ◌⊎◌, Ok, Err, refl, sym, ap, subst, ◌∙◌, inl, inr, true≢false, append_assoc, arith}
use Rattle.predictive_grammar.specs.Forms.{Signature}
use Rattle.predictive_grammar.specs.Follows.{Letter, Word, raw}
use Rattle.predictive_grammar.specs.Steps.{Fault, Syntax, LeftOut, Nesting, Number, Limits, Outcome, Parser, next_is}
use Rattle.predictive_grammar.specs.Exact.{IsWithin}
use Rattle.predictive_grammar.proofs.Words.{raw-then, within-append}
use Rattle.predictive_grammar.proofs.Moves.{MovedTo, Moved}

module _ (G : Signature) where
  -- The next tokens have the same kind, or the second list is at its end, where that is let.
  pub data Alike (end : Bool) : List G.Token → List G.Token → Type 0 where
    ends : {m : List G.Token} → end ≡ true → Alike end m []
    next : {t u : G.Token} {ts us : List G.Token} → G.kind u ≡ G.kind t → Alike end (t ∷ ts) (u ∷ us)

  pub alike_front : {end : Bool} (u : Word G) (m n : List G.Token) → Alike end m n → Alike end (raw u ++ m) (raw u ++ n)
  alike_front [] m n a = a
  alike_front (x ∷ u) m n a = next refl

  pub alike_any : {end : Bool} {m n : List G.Token} → Alike false m n → Alike end m n
  alike_any (ends e) = absurd (true≢false (sym e))
  alike_any (next e) = next e

  pub alike_true : {end : Bool} {m n : List G.Token} → Alike end m n → Alike true m n
  alike_true (ends e) = ends refl
  alike_true (next e) = next e

  pub alike_other : {end : Bool} (test : G.Kind → Bool) (m n : List G.Token) → next_is G.kind test m ≡ false → Alike end m n → next_is G.kind test n ≡ false
  alike_other test m n e (ends f) = refl
  alike_other test m n e (next f) = ap test f ∙ e

  pub alike_one : (test : G.Kind → Bool) (m n : List G.Token) → next_is G.kind test m ≡ true → Alike false m n → next_is G.kind test n ≡ true
  alike_one test m n e (ends f) = absurd (true≢false (sym f))
  alike_one test m n e (next f) = ap test f ∙ e

  -- what comes behind a word
  pub record Completes {A : Type 0} (R : Word G → A → Type 0) (word : Word G) : Type 0 where
    pub missing : Word G
    pub value : A
    pub begins : R (word ++ missing) value

  module _ {A : Type 0} (narrow : Word G → A → Type 0) (wide : G.Label → Word G → A → Type 0) (limits : Limits) (again : Parser G.Label G.Token A) where
    -- the word is a text, and it is read whatever comes behind that begins alike
    pub record Took (w : Word G) (a : A) (m : List G.Token) : Type 0 where
      pub text : narrow w a
      pub holds : (n : List G.Token) → Alike true m n → again (raw w ++ n) ≡ Ok (a, n)

    -- the word begins a text, and the reader stops behind it
    pub record Refused (w : Word G) (m : List G.Token) : Type 0 where
      pub can : Completes narrow w
      pub holds : (n : List G.Token) → Alike true m n → again (raw w ++ n) ≡ Err (Syntax, n)

    -- the same, in front of a token that goes on with it in the grammar widened by what the label names
    pub record Barred (e : G.Label) (w : Word G) (m : List G.Token) : Type 0 where
      pub can : Completes narrow w
      pub letter : Letter G.Token
      pub behind : List G.Token
      pub begin : m ≡ letter.token ∷ behind
      pub goes : Completes (wide e) (w ++ letter ∷ [])
      pub holds : (n : List G.Token) → Alike false m n → again (raw w ++ n) ≡ Err (LeftOut e, n)

    -- the next token goes on with the word, and is over a limit
    pub record Over (over : Letter G.Token → Type 0) (w : Word G) (m : List G.Token) : Type 0 where
      pub letter : Letter G.Token
      pub behind : List G.Token
      pub begin : m ≡ letter.token ∷ behind
      pub excess : over letter
      pub goes : Completes narrow (w ++ letter ∷ [])

    pub record Front (i m : List G.Token) (Fact : Word G → Type 0) : Type 0 where
      pub word : Word G
      pub front : i ≡ raw word ++ m
      pub within : IsWithin limits word
      pub fact : Fact word

    abbrev pub TooHighHere : Letter G.Token → Type 0
    TooHighHere x = limits.levels ≤ x.level

    abbrev pub TooManyHere : Letter G.Token → Type 0
    TooManyHere x = (x.level < limits.levels) × (limits.items ≤ x.items)

    abbrev pub Faulty : List G.Token → Fault G.Label → List G.Token → Type 0
    Faulty i Syntax m = Front i m (λ w. Refused w m)
    Faulty i (LeftOut e) m = Front i m (λ w. Barred e w m)
    Faulty i Nesting m = Front i m (λ w. Over TooHighHere w m)
    Faulty i Number m = Front i m (λ w. Over TooManyHere w m)

    abbrev pub Known : List G.Token → Outcome G.Label G.Token A → Type 0
    Known i (Ok x) = Front i x.1 (λ w. Took w x.0 x.1)
    Known i (Err s) = Faulty i s.0 s.1

    pub record Good (i : List G.Token) (o : Outcome G.Label G.Token A) : Type 0 where
      pub run : Known i o

  -- ---- behind a word that was read

  append_letter : (u w : Word G) (x : Letter G.Token) → u ++ (w ++ x ∷ []) ≡ (u ++ w) ++ x ∷ []
  append_letter u w x = sym (append_assoc u w (x ∷ []))

  module _ {A : Type 0} (narrow : Word G → A → Type 0) (wide : G.Label → Word G → A → Type 0) (narrow' : Word G → A → Type 0) (wide' : G.Label → Word G → A → Type 0) (limits : Limits) (again again' : Parser G.Label G.Token A) (u : Word G) (end : Bool) (i j : List G.Token)
      (front : i ≡ raw u ++ j) (within : IsWithin limits u) (more : (v : Word G) (a : A) → narrow' v a → narrow (u ++ v) a) (widely : (e : G.Label) (v : Word G) (a : A) → wide' e v a → wide e (u ++ v) a)
      (same : (x : List G.Token) → Alike end j x → again (raw u ++ x) ≡ again' x) where
    completes : (R R' : Word G → A → Type 0) → ((v : Word G) (a : A) → R' v a → R (u ++ v) a) → (y : Word G) → Completes R' y → Completes R (u ++ y)
    completes R R' f y c = record { missing = c.missing; value = c.value; begins = subst (λ (w : Word G). R w c.value) (sym (append_assoc u y c.missing)) (f (y ++ c.missing) c.value c.begins) }

    completes_letter : (R R' : Word G → A → Type 0) → ((v : Word G) (a : A) → R' v a → R (u ++ v) a) → (w : Word G) (x : Letter G.Token) → Completes R' (w ++ x ∷ []) → Completes R ((u ++ w) ++ x ∷ [])
    completes_letter R R' f w x c = subst (λ (y : Word G). Completes R y) (append_letter u w x) (completes R R' f (w ++ x ∷ []) c)

    front_more : (m : List G.Token) (Fact Fact' : Word G → Type 0) (t : Front narrow' wide' limits again' j m Fact') → (Fact' t.word → Fact (u ++ t.word)) → Front narrow wide limits again i m Fact
    front_more m Fact Fact' t f = record {
      word = u ++ t.word;
      front = front ∙ ap (λ (x : List G.Token). raw u ++ x) t.front ∙ sym (raw-then u t.word m);
      within = within-append limits u t.word within t.within;
      fact = f t.fact;
    }

    -- a word that begins at the rest, or at its first token
    alike_behind : (w : Word G) (m n : List G.Token) → j ≡ raw w ++ m → (end ≡ true) ⊎ (length m < length j) → Alike true m n → Alike end j (raw w ++ n)
    alike_behind [] m n e (inl f) a = subst (λ (b : Bool). Alike b j n) (sym f) (subst (λ (x : List G.Token). Alike true x n) (sym e) a)
    alike_behind [] m n e (inr lt) a = absurd (omega (arith, ap length e))
    alike_behind (x ∷ w) m n e f a = subst (λ (y : List G.Token). Alike end y (raw (x ∷ w) ++ n)) (sym e) (next refl)

    alike_next : (w : Word G) (m n : List G.Token) → j ≡ raw w ++ m → Alike false m n → Alike end j (raw w ++ n)
    alike_next w m n e a = subst (λ (y : List G.Token). Alike end y (raw w ++ n)) (sym e) (alike_front w m n (alike_any a))

    go_on : (w : Word G) (n : List G.Token) (o : Outcome G.Label G.Token A) → Alike end j (raw w ++ n) → again' (raw w ++ n) ≡ o → again (raw (u ++ w) ++ n) ≡ o
    go_on w n o a e = ap again (raw-then u w n) ∙ same (raw w ++ n) a ∙ e

    over_more : (over : Letter G.Token → Type 0) (w : Word G) (m : List G.Token) → Over narrow' wide' limits again' over w m → Over narrow wide limits again over (u ++ w) m
    over_more over w m h = record { letter = h.letter; behind = h.behind; begin = h.begin; excess = h.excess; goes = completes_letter narrow narrow' more w h.letter h.goes }

    faulty : (s : Fault G.Label) (m : List G.Token) → (end ≡ true) ⊎ MovedTo j s m → Faulty narrow' wide' limits again' j s m → Faulty narrow wide limits again i s m
    faulty Syntax m moved t = front_more m (λ w. Refused narrow wide limits again w m) (λ w. Refused narrow' wide' limits again' w m) t (λ h. record {
      can = completes narrow narrow' more t.word h.can;
      holds = λ n a. go_on t.word n (Err (Syntax, n)) (alike_behind t.word m n t.front moved a) (h.holds n a);
    })
    faulty (LeftOut e) m moved t = front_more m (λ w. Barred narrow wide limits again e w m) (λ w. Barred narrow' wide' limits again' e w m) t (λ h. record {
      can = completes narrow narrow' more t.word h.can;
      letter = h.letter;
      behind = h.behind;
      begin = h.begin;
      goes = completes_letter (wide e) (wide' e) (widely e) t.word h.letter h.goes;
      holds = λ n a. go_on t.word n (Err (LeftOut e, n)) (alike_next t.word m n t.front a) (h.holds n a);
    })
    faulty Nesting m moved t = front_more m (λ w. Over narrow wide limits again (TooHighHere narrow wide limits again) w m) (λ w. Over narrow' wide' limits again' (TooHighHere narrow wide limits again) w m) t (over_more _ t.word m)
    faulty Number m moved t = front_more m (λ w. Over narrow wide limits again (TooManyHere narrow wide limits again) w m) (λ w. Over narrow' wide' limits again' (TooManyHere narrow wide limits again) w m) t (over_more _ t.word m)

    known : (o : Outcome G.Label G.Token A) → (end ≡ true) ⊎ Moved j o → Known narrow' wide' limits again' j o → Known narrow wide limits again i o
    known (Ok x) moved t = front_more x.1 (λ w. Took narrow wide limits again w x.0 x.1) (λ w. Took narrow' wide' limits again' w x.0 x.1) t (λ h. record {
      text = more t.word x.0 h.text;
      holds = λ n a. go_on t.word n (Ok (x.0, n)) (alike_behind t.word x.1 n t.front moved a) (h.holds n a);
    })
    known (Err s) moved t = faulty s.0 s.1 moved t

    pub good_behind : (o : Outcome G.Label G.Token A) → (end ≡ true) ⊎ Moved j o → Good narrow' wide' limits again' j o → Good narrow wide limits again i o
    good_behind o moved g = record { run = known o moved g.run }

  -- ---- a fault within the first of two

  module _ {A B : Type 0} (narrow' : Word G → A → Type 0) (wide' : G.Label → Word G → A → Type 0) (narrow : Word G → B → Type 0) (wide : G.Label → Word G → B → Type 0) (limits : Limits) (again' : Parser G.Label G.Token A) (again : Parser G.Label G.Token B)
      (more : (w : Word G) (a : A) → narrow' w a → Completes narrow w) (widely : (e : G.Label) (w : Word G) (a : A) → wide' e w a → Completes (wide e) w)
      (same : (x : List G.Token) (s : Fault G.Label × List G.Token) → again' x ≡ Err s → again x ≡ Err s) (i : List G.Token) where
    completes_on : (R : Word G → B → Type 0) (R' : Word G → A → Type 0) → ((w : Word G) (a : A) → R' w a → Completes R w) → (y : Word G) → Completes R' y → Completes R y
    completes_on R R' f y c = let d = f (y ++ c.missing) c.value c.begins in
        record { missing = c.missing ++ d.missing; value = d.value; begins = subst (λ (w : Word G). R w d.value) (append_assoc y c.missing d.missing) d.begins }

    front_on : (m : List G.Token) (Fact Fact' : Word G → Type 0) (t : Front narrow' wide' limits again' i m Fact') → (Fact' t.word → Fact t.word) → Front narrow wide limits again i m Fact
    front_on m Fact Fact' t f = record { word = t.word; front = t.front; within = t.within; fact = f t.fact }

    over_on : (over : Letter G.Token → Type 0) (w : Word G) (m : List G.Token) → Over narrow' wide' limits again' over w m → Over narrow wide limits again over w m
    over_on over w m h = record { letter = h.letter; behind = h.behind; begin = h.begin; excess = h.excess; goes = completes_on narrow narrow' more (w ++ h.letter ∷ []) h.goes }

    faulty_on : (s : Fault G.Label) (m : List G.Token) → Faulty narrow' wide' limits again' i s m → Faulty narrow wide limits again i s m
    faulty_on Syntax m t = front_on m (λ w. Refused narrow wide limits again w m) (λ w. Refused narrow' wide' limits again' w m) t (λ h. record {
      can = completes_on narrow narrow' more t.word h.can;
      holds = λ n a. same (raw t.word ++ n) (Syntax, n) (h.holds n a);
    })
    faulty_on (LeftOut e) m t = front_on m (λ w. Barred narrow wide limits again e w m) (λ w. Barred narrow' wide' limits again' e w m) t (λ h. record {
      can = completes_on narrow narrow' more t.word h.can;
      letter = h.letter;
      behind = h.behind;
      begin = h.begin;
      goes = completes_on (wide e) (wide' e) (widely e) (t.word ++ h.letter ∷ []) h.goes;
      holds = λ n a. same (raw t.word ++ n) (LeftOut e, n) (h.holds n a);
    })
    faulty_on Nesting m t = front_on m (λ w. Over narrow wide limits again (TooHighHere narrow wide limits again) w m) (λ w. Over narrow' wide' limits again' (TooHighHere narrow wide limits again) w m) t (over_on _ t.word m)
    faulty_on Number m t = front_on m (λ w. Over narrow wide limits again (TooManyHere narrow wide limits again) w m) (λ w. Over narrow' wide' limits again' (TooManyHere narrow wide limits again) w m) t (over_on _ t.word m)

    pub good_fault : (s : Fault G.Label × List G.Token) → Good narrow' wide' limits again' i (Err s) → Good narrow wide limits again i (Err s)
    good_fault s g = record { run = faulty_on s.0 s.1 g.run }
