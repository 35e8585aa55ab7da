-- A mending reader takes what a reader takes, and what it took and made up is a text with its tree.
use Rattle.std.proofs.Common.{◌≡◌, ℕ, zero, suc, Bool, true, false, if◌then◌else◌, nat_lt, ◌&&◌, List, [], ◌∷◌, ◌++◌, Some, None, Ok, Err, refl, sym, ap, subst, ◌∙◌, append_assoc, ltb-true}
use Rattle.predictive_grammar.specs.Forms.{Signature, Form, take, part, pick, bar, Productions}
use Rattle.predictive_grammar.specs.Follows.{Letter, Word, raw, Follows, given, taken, read, first, second, kept, Reads}
use Rattle.predictive_grammar.specs.Steps.{Fault, Syntax, LeftOut, Nesting, Number, Limits, Outcome, Parser, and_then, fail, next_is}
use Rattle.predictive_grammar.specs.Reading.{expect, walk, reader}
use Rattle.predictive_grammar.specs.Exact.{IsWithin}
use Rattle.predictive_grammar.specs.Fit.{Tables, IsPredictive}
use Rattle.mending_readers.specs.Mending.{State, Going, Stopped, Mended, Supply, first_that, next_in, stop, make, take_below, mend_token, mend_then, mend_walk, mend_run, enough_for, mender, AllNew, Mends, MendsTo, Serves, serves_give, serves_take, serves_part, serves_pick, serves_where, serves_bar}
use Rattle.predictive_grammar.proofs.Words.{raw-then, within-append}
use Rattle.predictive_grammar.proofs.Taking.{expect_other, choose_one, choose_other}
use Rattle.predictive_grammar.proofs.Law.{reader_law}

all_new_append : {T : Type 0} (IsNew : List T → T → Type 0) (rest : List T) (u v : List (Letter T)) → AllNew IsNew rest u → AllNew IsNew rest v → AllNew IsNew rest (u ++ v)
all_new_append IsNew rest [] v a b = b
all_new_append IsNew rest (x ∷ u) v a b = (a.0, all_new_append IsNew rest u v a.1 b)

module _ (G : Signature) (limits : Limits) (IsNew : List G.Token → G.Token → Type 0) where
  module _ {A : Type 0} (R : Word G → A → Type 0) (run : Parser G.Label G.Token A) where
    -- the reader takes the same, and it is a text
    pub record Whole (i : List G.Token) (a : A) (j : List G.Token) : Type 0 where
      pub is : run i ≡ Ok (a, j)
      pub word : Word G
      pub front : i ≡ raw word ++ j
      pub within : IsWithin limits word
      pub text : R word a

    -- the reader stops there too, and what it took and what was made up is a text
    pub record Halted (i : List G.Token) (a : A) (j : List G.Token) : Type 0 where
      pub fault : Fault G.Label
      pub is : run i ≡ Err (fault, j)
      pub taken : Word G
      pub made : Word G
      pub front : i ≡ raw taken ++ j
      pub within : IsWithin limits taken
      pub new : AllNew IsNew j made
      pub text : R (taken ++ made) a

    -- what was made up is a text
    pub record MadeUp (i : List G.Token) (a : A) (j : List G.Token) : Type 0 where
      pub same : i ≡ j
      pub made : Word G
      pub new : AllNew IsNew i made
      pub text : R made a

    abbrev pub Splits : State G.Token → A → State G.Token → Type 0
    Splits (Going i) a (Going j) = Whole i a j
    Splits (Going i) a (Stopped j) = Halted i a j
    Splits (Stopped i) a (Going j) = ⊥
    Splits (Stopped i) a (Stopped j) = MadeUp i a j

    -- what is told of what a mending reader gives, if it gives something
    abbrev pub Told : State G.Token → Mended G.Token A → Type 0
    Told s None = Unit {0}
    Told s (Some x) = Splits s x.0 x.1

  -- the same of another parser that does the same, and of what more is a text
  module _ {A : Type 0} (R S : Word G → A → Type 0) (run other : Parser G.Label G.Token A) (more : (w : Word G) (a : A) → R w a → S w a) where
    pub splits_as : (s : State G.Token) (a : A) (z : State G.Token) → ((i : List G.Token) → s ≡ Going i → run i ≡ other i) → Splits R run s a z → Splits S other s a z
    splits_as (Going i) a (Going j) same t = record { is = sym (same i refl) ∙ t.is; word = t.word; front = t.front; within = t.within; text = more t.word a t.text }
    splits_as (Going i) a (Stopped j) same t =
        record { fault = t.fault; is = sym (same i refl) ∙ t.is; taken = t.taken; made = t.made; front = t.front; within = t.within; new = t.new; text = more (t.taken ++ t.made) a t.text }
    splits_as (Stopped i) a (Going j) same t = absurd t
    splits_as (Stopped i) a (Stopped j) same t = record { same = t.same; made = t.made; new = t.new; text = more t.made a t.text }

    pub told_as : (s : State G.Token) (o : Mended G.Token A) → ((i : List G.Token) → s ≡ Going i → run i ≡ other i) → Told R run s o → Told S other s o
    told_as s None same t = tt
    told_as s (Some x) same t = splits_as s x.0 x.1 same t

  -- one behind the other
  module _ {A B : Type 0} (R : Word G → A → Type 0) (run : Parser G.Label G.Token A) (S : Word G → B → Type 0) (next : Parser G.Label G.Token B) (T : Word G → B → Type 0)
      (a : A) (both : (u v : Word G) (b : B) → R u a → S v b → T (u ++ v) b) (go : A → Parser G.Label G.Token B) (is_next : (i : List G.Token) → go a i ≡ next i) where
    abbrev whole : Parser G.Label G.Token B
    whole i = and_then (run i) go

    behind : (s m z : State G.Token) (b : B) → Splits R run s a m → Splits S next m b z → Splits T whole s b z
    behind (Going i) (Going m) (Going j) b t n = record {
      is = ap (λ (o : Outcome G.Label G.Token A). and_then o go) t.is ∙ is_next m ∙ n.is;
      word = t.word ++ n.word;
      front = t.front ∙ ap (λ (x : List G.Token). raw t.word ++ x) n.front ∙ sym (raw-then t.word n.word j);
      within = within-append limits t.word n.word t.within n.within;
      text = both t.word n.word b t.text n.text;
    }
    behind (Going i) (Going m) (Stopped j) b t n = record {
      fault = n.fault;
      is = ap (λ (o : Outcome G.Label G.Token A). and_then o go) t.is ∙ is_next m ∙ n.is;
      taken = t.word ++ n.taken;
      made = n.made;
      front = t.front ∙ ap (λ (x : List G.Token). raw t.word ++ x) n.front ∙ sym (raw-then t.word n.taken j);
      within = within-append limits t.word n.taken t.within n.within;
      new = n.new;
      text = subst (λ (w : Word G). T w b) (sym (append_assoc t.word n.taken n.made)) (both t.word (n.taken ++ n.made) b t.text n.text);
    }
    behind (Going i) (Stopped m) (Going j) b t n = absurd n
    behind (Going i) (Stopped m) (Stopped j) b t n = record {
      fault = t.fault;
      is = ap (λ (o : Outcome G.Label G.Token A). and_then o go) t.is ∙ ap (λ (x : List G.Token). Err (t.fault, x)) n.same;
      taken = t.taken;
      made = t.made ++ n.made;
      front = t.front ∙ ap (λ (x : List G.Token). raw t.taken ++ x) n.same;
      within = t.within;
      new = subst (λ (x : List G.Token). AllNew IsNew x (t.made ++ n.made)) n.same (all_new_append IsNew m t.made n.made t.new n.new);
      text = subst (λ (w : Word G). T w b) (append_assoc t.taken t.made n.made) (both (t.taken ++ t.made) n.made b t.text n.text);
    }
    behind (Stopped i) (Going m) z b t n = absurd t
    behind (Stopped i) (Stopped m) (Going j) b t n = absurd n
    behind (Stopped i) (Stopped m) (Stopped j) b t n = record {
      same = t.same ∙ n.same;
      made = t.made ++ n.made;
      new = all_new_append IsNew i t.made n.made t.new (subst (λ (x : List G.Token). AllNew IsNew x n.made) (sym t.same) n.new);
      text = both t.made n.made b t.text n.text;
    }

    pub told_behind : (s m : State G.Token) (o : Mended G.Token B) → Splits R run s a m → Told S next m o → Told T whole s o
    told_behind s m None t n = tt
    told_behind s m (Some x) t n = behind s m x.1 x.0 t n

  -- ---- a token

  module _ (supply : Supply G) (new_made : (test : G.Kind → Bool) (before rest : List G.Token) → IsNew rest (first_that G.kind test (supply.offers rest) (supply.otherwise rest before)))
      (new_moved : (rest : List G.Token) (t : G.Token) → IsNew rest (supply.moved rest t)) (moves : (rest : List G.Token) (t : G.Token) → G.kind (supply.moved rest t) ≡ G.kind t) where
    module _ (level items : ℕ) (test : G.Kind → Bool) (before : List G.Token) where
      abbrev letter : G.Token → Letter G.Token
      letter t = record { token = t; level = level; items = items }

      -- the word of one such token
      abbrev pub One : Word G → G.Token → Type 0
      One w t = (w ≡ record { token = t; level = level; items = items } ∷ []) × (test (G.kind t) ≡ true)

      abbrev pub Takes : State G.Token → G.Token × State G.Token → Type 0
      Takes s x = Splits One (expect G limits level items test) s x.0 x.1

      pub passes : (s : State G.Token) (t : G.Token) (z : State G.Token) → Splits One (expect G limits level items test) s t z → test (G.kind t) ≡ true
      passes (Going i) t (Going j) w = w.text.1
      passes (Going i) t (Stopped j) w = w.text.1
      passes (Stopped i) t (Going j) w = absurd w
      passes (Stopped i) t (Stopped j) w = w.text.1

      abbrev shifted : (b c d : Bool) → G.Token → List G.Token → Outcome G.Label G.Token G.Token
      shifted b c d t ts = if b then (if c then (if d then Ok (t, ts) else Err (Number, t ∷ ts)) else Err (Nesting, t ∷ ts)) else Err (Syntax, t ∷ ts)

      expect_is : (t : G.Token) (ts : List G.Token) (c d : Bool) → test (G.kind t) ≡ true → nat_lt level limits.levels ≡ c → nat_lt items limits.items ≡ d
          → expect G limits level items test (t ∷ ts) ≡ shifted true c d t ts
      expect_is t ts c d e f g =
          ap (λ (b : Bool). shifted b (nat_lt level limits.levels) (nat_lt items limits.items) t ts) e ∙ ap (λ (c : Bool). shifted true c (nat_lt items limits.items) t ts) f ∙ ap (λ (d : Bool). shifted true c d t ts) g

      over : (t : G.Token) (ts : List G.Token) (f : Fault G.Label) → test (G.kind t) ≡ true → expect G limits level items test (t ∷ ts) ≡ Err (f, t ∷ ts)
          → Takes (Going (t ∷ ts)) (supply.moved (t ∷ ts) t, Stopped (t ∷ ts))
      over t ts f e is = record {
        fault = f;
        is = is;
        taken = [];
        made = letter (supply.moved (t ∷ ts) t) ∷ [];
        front = refl;
        within = tt;
        new = (new_moved (t ∷ ts) t, tt);
        text = (refl, ap test (moves (t ∷ ts) t) ∙ e);
      }

      by_limits : (t : G.Token) (ts : List G.Token) (c d : Bool) → test (G.kind t) ≡ true → nat_lt level limits.levels ≡ c → nat_lt items limits.items ≡ d
          → Takes (Going (t ∷ ts)) (if c && d then (t, Going ts) else (supply.moved (t ∷ ts) t, Stopped (t ∷ ts)))
      by_limits t ts true true e f g =
          record { is = expect_is t ts true true e f g; word = letter t ∷ []; front = refl; within = (ltb-true level limits.levels f, ltb-true items limits.items g, tt); text = (refl, e) }
      by_limits t ts true false e f g = over t ts Number e (expect_is t ts true false e f g)
      by_limits t ts false d e f g = over t ts Nesting e (expect_is t ts false d e f g)

      -- behind a test that the token passed
      pub takes_passed : (t : G.Token) (ts : List G.Token) → test (G.kind t) ≡ true → Takes (Going (t ∷ ts)) (take_below G supply limits level items t ts)
      takes_passed t ts e = by_limits t ts (nat_lt level limits.levels) (nat_lt items limits.items) e refl refl

      makes : (i : List G.Token) → next_is G.kind test i ≡ false → test (G.kind (first_that G.kind test (supply.offers i) (supply.otherwise i before))) ≡ true → Takes (Going i) (make G supply test before i)
      makes i e serves = record {
        fault = Syntax;
        is = expect_other G limits level items test i e;
        taken = [];
        made = letter (first_that G.kind test (supply.offers i) (supply.otherwise i before)) ∷ [];
        front = refl;
        within = tt;
        new = (new_made test before i, tt);
        text = (refl, serves);
      }

      module _ (serves : (rest : List G.Token) → test (G.kind (first_that G.kind test (supply.offers rest) (supply.otherwise rest before))) ≡ true) where
        by_test : (t : G.Token) (ts : List G.Token) (b : Bool) → test (G.kind t) ≡ b → Takes (Going (t ∷ ts)) (if b then take_below G supply limits level items t ts else make G supply test before (t ∷ ts))
        by_test t ts true e = takes_passed t ts e
        by_test t ts false e = makes (t ∷ ts) e (serves (t ∷ ts))

        pub token_told : (s : State G.Token) → Takes s (mend_token G supply limits level items test before s)
        token_told (Going []) = makes [] refl (serves [])
        token_told (Going (t ∷ ts)) = by_test t ts (test (G.kind t)) refl
        token_told (Stopped i) = record { same = refl; made = letter (first_that G.kind test (supply.offers i) (supply.otherwise i before)) ∷ []; new = (new_made test before i, tt); text = (refl, serves i) }

    -- ---- a form

    module _ (forms : Productions G) (tables : Tables G) (h : IsPredictive G forms tables) where
      abbrev here : (p : G.Part) → ℕ → Parser G.Label G.Token (G.Tree p)
      here p l = reader G forms tables.top tables.rank limits p l

      -- what is told of a form, and of a part
      abbrev pub ToldForm : (r : G.Part) → Form G r → ℕ → State G.Token → Mended G.Token (G.Tree r) → Type 0
      ToldForm r form l s o = Told (Follows G forms None r form l) (walk G here limits r form l) s o

      abbrev pub ToldPart : (q : G.Part) → ℕ → State G.Token → Mended G.Token (G.Tree q) → Type 0
      ToldPart q l s o = Told (Reads G forms None q l) (here q l) s o

      taken_one : (r : G.Part) (up : ℕ → ℕ) (items : ℕ) (test : G.Kind → Bool) (k : G.Token → Form G r) (l : ℕ) (t : G.Token) (before : List G.Token) (u v : Word G) (b : G.Tree r)
          → One (up l) items test before u t → Follows G forms None r (k t) l v b → Follows G forms None r (take up items test k) l (u ++ v) b
      taken_one r up items test k l t before u v b o d = subst (λ (u : Word G). Follows G forms None r (take up items test k) l (u ++ v) b) (sym o.0) (taken t o.1 d)

      take_told : (r : G.Part) (up : ℕ → ℕ) (items : ℕ) (test : G.Kind → Bool) (k : G.Token → Form G r) (l : ℕ) (before : List G.Token) (s : State G.Token) (t : G.Token) (z : State G.Token) (o : Mended G.Token (G.Tree r))
          → Splits (One (up l) items test before) (expect G limits (up l) items test) s t z → ToldForm r (k t) l z o → ToldForm r (take up items test k) l s o
      unfolding walk
      take_told r up items test k l before s t z o x n =
          told_behind (One (up l) items test before) (expect G limits (up l) items test) (Follows G forms None r (k t) l) (walk G here limits r (k t) l) (Follows G forms None r (take up items test k) l)
          t (taken_one r up items test k l t before) (λ t. walk G here limits r (k t) l) (λ i. refl) s z o x n

      module _ (r : G.Part) (test : G.Kind → Bool) (a b : Form G r) (l : ℕ) where
        first_told : (s : State G.Token) (o : Mended G.Token (G.Tree r)) → next_in G.kind test s ≡ true → ToldForm r a l s o → ToldForm r (pick test a b) l s o
        unfolding walk
        first_told s o e t =
            told_as (Follows G forms None r a l) (Follows G forms None r (pick test a b) l) (walk G here limits r a l) (walk G here limits r (pick test a b) l) (λ w x d. first d) s o
            (λ i is. sym (choose_one G test (walk G here limits r a l) (walk G here limits r b l) i (ap (next_in G.kind test) (sym is) ∙ e))) t

        second_told : (s : State G.Token) (o : Mended G.Token (G.Tree r)) → next_in G.kind test s ≡ false → ToldForm r b l s o → ToldForm r (pick test a b) l s o
        unfolding walk
        second_told s o e t =
            told_as (Follows G forms None r b l) (Follows G forms None r (pick test a b) l) (walk G here limits r b l) (walk G here limits r (pick test a b) l) (λ w x d. second d) s o
            (λ i is. sym (choose_other G test (walk G here limits r a l) (walk G here limits r b l) i (ap (next_in G.kind test) (sym is) ∙ e))) t

        pick_told : (s : State G.Token) (x y : Mended G.Token (G.Tree r)) (c : Bool) → next_in G.kind test s ≡ c → ToldForm r a l s x → ToldForm r b l s y → ToldForm r (pick test a b) l s (if c then x else y)
        pick_told s x y true e t u = first_told s x e t
        pick_told s x y false e t u = second_told s y e u

      module _ (r : G.Part) (left : G.Kind → Bool) (label : G.Label) (k : Form G r) (l : ℕ) where
        kept_told : (s : State G.Token) (o : Mended G.Token (G.Tree r)) → next_in G.kind left s ≡ false → ToldForm r k l s o → ToldForm r (bar left label k) l s o
        unfolding walk
        kept_told s o e t =
            told_as (Follows G forms None r k l) (Follows G forms None r (bar left label k) l) (walk G here limits r k l) (walk G here limits r (bar left label k) l) (λ w x d. kept d) s o
            (λ i is. sym (choose_other G left (fail (LeftOut label)) (walk G here limits r k l) i (ap (next_in G.kind left) (sym is) ∙ e))) t

        barred_at : (i : List G.Token) (a : G.Tree r) (z : State G.Token) → next_is G.kind left i ≡ true → Splits (Follows G forms None r k l) (walk G here limits r k l) (Stopped i) a z
            → Splits (Follows G forms None r (bar left label k) l) (walk G here limits r (bar left label k) l) (Going i) a z
        unfolding walk
        barred_at i a (Going j) e t = absurd t
        barred_at i a (Stopped j) e t = record {
          fault = LeftOut label;
          is = choose_one G left (fail (LeftOut label)) (walk G here limits r k l) i e ∙ ap (λ (x : List G.Token). Err (LeftOut label, x)) t.same;
          taken = [];
          made = t.made;
          front = t.same;
          within = tt;
          new = subst (λ (x : List G.Token). AllNew IsNew x t.made) t.same t.new;
          text = kept t.text;
        }

        barred_told : (i : List G.Token) (o : Mended G.Token (G.Tree r)) → next_is G.kind left i ≡ true → ToldForm r k l (Stopped i) o → ToldForm r (bar left label k) l (Going i) o
        barred_told i None e t = tt
        barred_told i (Some x) e t = barred_at i x.0 x.1 e t

        module _ (f : State G.Token → Mended G.Token (G.Tree r)) (told : (s : State G.Token) → ToldForm r k l s (f s)) where
          bar_going : (i : List G.Token) (c : Bool) → next_is G.kind left i ≡ c → ToldForm r (bar left label k) l (Going i) (f (if c then Stopped i else Going i))
          bar_going i true e = barred_told i (f (Stopped i)) e (told (Stopped i))
          bar_going i false e = kept_told (Going i) (f (Going i)) e (told (Going i))

          pub bar_told : (s : State G.Token) → ToldForm r (bar left label k) l s (f (if next_in G.kind left s then stop s else s))
          bar_told (Going i) = bar_going i (next_is G.kind left i) refl
          bar_told (Stopped i) = kept_told (Stopped i) (f (Stopped i)) refl (told (Stopped i))

      module _ (parts : (q : G.Part) → ℕ → State G.Token → Mended G.Token (G.Tree q)) (told : (q : G.Part) (l : ℕ) (s : State G.Token) → ToldPart q l s (parts q l s)) where
        abbrev mended : (r : G.Part) → Form G r → List G.Token → ℕ → State G.Token → Mended G.Token (G.Tree r)
        mended r form before l s = mend_walk G supply parts limits r form before l s

        part_told : (r : G.Part) (up : ℕ → ℕ) (q : G.Part) (k : G.Tree q → Form G r) (before : List G.Token) (l : ℕ) (s : State G.Token) → ((b : G.Tree q) (z : State G.Token) → ToldForm r (k b) l z (mended r (k b) before l z))
            → (o : Mended G.Token (G.Tree q)) → ToldPart q (up l) s o → ToldForm r (part up q k) l s (mend_then o (λ b z. mended r (k b) before l z))
        unfolding walk
        part_told r up q k before l s ih None t = tt
        part_told r up q k before l s ih (Some x) t =
            told_behind (Reads G forms None q (up l)) (here q (up l)) (Follows G forms None r (k x.0) l) (walk G here limits r (k x.0) l) (Follows G forms None r (part up q k) l)
            x.0 (λ u v b d c. read d c) (λ b. walk G here limits r (k b) l) (λ i. refl) s x.1 (mended r (k x.0) before l x.1) t (ih x.0 x.1)

        where_told : (r : G.Part) (up : ℕ → ℕ) (items : ℕ) (test : G.Kind → Bool) (k : G.Token → Form G r) (b : Form G r) (before : List G.Token) (l : ℕ)
            → ((t : G.Token) → test (G.kind t) ≡ true → (z : State G.Token) → ToldForm r (k t) l z (mended r (k t) (t ∷ before) l z)) → ((s : State G.Token) → ToldForm r b l s (mended r b before l s))
            → (s : State G.Token) → ToldForm r (pick test (take up items test k) b) l s (mended r (pick test (take up items test k) b) before l s)
        unfolding mend_walk
        where_told r up items test k b before l ih_k ih_b (Going []) = second_told r test (take up items test k) b l (Going []) (mended r b before l (Going [])) refl (ih_b (Going []))
        where_told r up items test k b before l ih_k ih_b (Stopped i) = second_told r test (take up items test k) b l (Stopped i) (mended r b before l (Stopped i)) refl (ih_b (Stopped i))
        where_told r up items test k b before l ih_k ih_b (Going (t ∷ ts)) = go (test (G.kind t)) refl
          where
            go : (c : Bool) → test (G.kind t) ≡ c
                → ToldForm r (pick test (take up items test k) b) l (Going (t ∷ ts)) (if c then mended r (take up items test k) before l (Going (t ∷ ts)) else mended r b before l (Going (t ∷ ts)))
            go true e =
                let x : G.Token × State G.Token = take_below G supply limits (up l) items t ts in
                let one : Takes (up l) items test before (Going (t ∷ ts)) x = takes_passed (up l) items test before t ts e in
                first_told r test (take up items test k) b l (Going (t ∷ ts)) (mended r (take up items test k) before l (Going (t ∷ ts))) e
                (subst (λ (y : G.Token × State G.Token). ToldForm r (take up items test k) l (Going (t ∷ ts)) (mended r (k y.0) (y.0 ∷ before) l y.1))
                (ap (λ (c : Bool). if c then take_below G supply limits (up l) items t ts else make G supply test before (t ∷ ts)) (sym e))
                (take_told r up items test k l before (Going (t ∷ ts)) x.0 x.1 (mended r (k x.0) (x.0 ∷ before) l x.1) one (ih_k x.0 (passes (up l) items test before (Going (t ∷ ts)) x.0 x.1 one) x.1)))
            go false e = second_told r test (take up items test k) b l (Going (t ∷ ts)) (mended r b before l (Going (t ∷ ts))) e (ih_b (Going (t ∷ ts)))

        pub walk_mends : {r : G.Part} {before : List G.Token} {form : Form G r} → Serves G supply r before form → (l : ℕ) (s : State G.Token) → ToldForm r form l s (mend_walk G supply parts limits r form before l s)
        unfolding walk mend_walk
        walk_mends (serves_give {a = a}) l (Going i) = record { is = refl; word = []; front = refl; within = tt; text = given a }
        walk_mends (serves_give {a = a}) l (Stopped i) = record { same = refl; made = []; new = tt; text = given a }
        walk_mends {r = r} (serves_take {before = before} {up = up} {items = items} {test = test} {k = k} e rest) l s =
            let x : G.Token × State G.Token = mend_token G supply limits (up l) items test before s in
            let one : Takes (up l) items test before s x = token_told (up l) items test before e s in
            take_told r up items test k l before s x.0 x.1 (mended r (k x.0) (x.0 ∷ before) l x.1) one (walk_mends (rest x.0 (passes (up l) items test before s x.0 x.1 one)) l x.1)
        walk_mends {r = r} (serves_part {before = before} {up = up} {q = q} {k = k} rest) l s = part_told r up q k before l s (λ b z. walk_mends (rest b) l z) (parts q (up l) s) (told q (up l) s)
        walk_mends {r = r} (serves_pick {before = before} {test = test} {a = a} {b = b} x y) l s =
            pick_told r test a b l s (mended r a before l s) (mended r b before l s) (next_in G.kind test s) refl (walk_mends x l s) (walk_mends y l s)
        walk_mends {r = r} (serves_where {before = before} {up = up} {items = items} {test = test} {k = k} {b = b} x y) l s =
            where_told r up items test k b before l (λ t e z. walk_mends (x t e) l z) (λ s. walk_mends y l s) s
        walk_mends {r = r} (serves_bar {before = before} {left = left} {e = label} {k = k} x) l s = bar_told r left label k l (λ s. mended r k before l s) (λ s. walk_mends x l s) s

      -- ---- a part

      module _ (serves : (p : G.Part) → Serves G supply p [] (forms p)) where
        pub run_mends : (f : ℕ) (p : G.Part) (l : ℕ) (s : State G.Token) → ToldPart p l s (mend_run G forms supply f limits p l s)
        unfolding mend_run
        run_mends zero p l s = tt
        run_mends (suc f) p l s =
            told_as (Follows G forms None p (forms p) l) (Reads G forms None p l) (walk G here limits p (forms p) l) (here p l) (λ w a d. d) s (mend_walk G supply (mend_run G forms supply f limits) limits p (forms p) [] l s)
            (λ i e. sym (reader_law G forms tables h limits p l i)) (walk_mends (mend_run G forms supply f limits) (λ q l s. run_mends f q l s) (serves p) l s)

        -- what each mending reader gives
        pub mender_mends : (tallest : ℕ) (p : G.Part) (l : ℕ) (s : State G.Token) → ToldPart p l s (mender G forms supply tables.top tallest tables.rank limits p l s)
        unfolding mender
        mender_mends tallest p l s = run_mends (enough_for tables.top (tables.rank p) tallest s) p l s

        split_mends : (p : G.Part) (l : ℕ) (i : List G.Token) (a : G.Tree p) (z : State G.Token) → Splits (Reads G forms None p l) (here p l) (Going i) a z → MendsTo G forms p l limits (here p l) IsNew i a z
        split_mends p l i a (Going j) t = t.is
        split_mends p l i a (Stopped j) t =
            record { fault = t.fault; stops = t.is; word = t.taken; missing = t.made; front = t.front; within = t.within; new = t.new; reads = t.text }

        -- a mending reader that gives something mends
        pub mends_of : (p : G.Part) (l : ℕ) (i : List G.Token) (o : Mended G.Token (G.Tree p)) (x : G.Tree p × State G.Token) → o ≡ Some x → ToldPart p l (Going i) o → Mends G forms p l limits (here p l) IsNew i o
        mends_of p l i o x e t = subst (λ (o : Mended G.Token (G.Tree p)). Mends G forms p l limits (here p l) IsNew i o) (sym e)
            (split_mends p l i x.0 x.1 (subst (λ (o : Mended G.Token (G.Tree p)). ToldPart p l (Going i) o) e t))
