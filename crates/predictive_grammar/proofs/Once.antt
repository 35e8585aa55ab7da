-- What tokens answer is one.
use Rattle.std.proofs.Common.{◌≡◌, ℕ, ◌<◌, false, List, [], ◌∷◌, ◌++◌, Option, Some, None, Ok, Err, refl, sym, ap, subst, ◌∙◌, append_assoc, append-nil, arith}
use Rattle.std.proofs.lemmas.List.{append_cancel_right}
use Rattle.predictive_grammar.specs.Forms.{Signature, Productions}
use Rattle.predictive_grammar.specs.Follows.{Letter, Word, raw, Reads}
use Rattle.predictive_grammar.specs.Steps.{Fault, Syntax, LeftOut, Nesting, Number, Limits, Outcome}
use Rattle.predictive_grammar.specs.Reading.{reader}
use Rattle.predictive_grammar.specs.Exact.{IsWithin, BeginsText, GoesNoFurther, Found, NoText, OnlyWide, TooHigh, TooMany, Breaks, Answers}
use Rattle.predictive_grammar.specs.Fit.{Tables, IsPredictive}
use Rattle.predictive_grammar.proofs.Words.{raw-append, within-back}
use Rattle.predictive_grammar.proofs.Letters.{Parted, short, far, parted, letters}
use Rattle.predictive_grammar.proofs.Main.{one_tree, label_is, answers}

cons_head : {A : Type 0} (x y : A) (u v : List A) → x ∷ u ≡ y ∷ v → x ≡ y
cons_head x y u v e = cc

cons_tail : {A : Type 0} (x y : A) (u v : List A) → x ∷ u ≡ y ∷ v → u ≡ v
cons_tail x y u v e = cc

nil_cons : {A : Type 0} (x : A) (xs : List A) → [] ≡ x ∷ xs → ⊥
nil_cons x xs e = cc

last_same : {A : Type 0} (w : List A) (x y : A) → w ++ x ∷ [] ≡ w ++ y ∷ [] → x ≡ y
last_same [] x y e = cons_head x y [] [] e
last_same (z ∷ w) x y e = last_same w x y (cons_tail z z (w ++ x ∷ []) (w ++ y ∷ []) e)

-- a word, cut where its tokens are
record Cut {T : Type 0} (w : List (Letter T)) (a b : List T) : Type 0 where
  front : List (Letter T)
  behind : List (Letter T)
  whole : w ≡ front ++ behind
  first : raw front ≡ a
  second : raw behind ≡ b

cut : {T : Type 0} (w : List (Letter T)) (a b : List T) → raw w ≡ a ++ b → Cut w a b
cut w [] b e = record { front = []; behind = w; whole = refl; first = refl; second = e }
cut [] (x ∷ a) b e = absurd (nil_cons x (a ++ b) e)
cut (y ∷ w) (x ∷ a) b e = let c = cut w a b (cons_tail y.token x (raw w) (a ++ b) e) in record {
  front = y ∷ c.front;
  behind = c.behind;
  whole = ap (λ (l : List _). y ∷ l) c.whole;
  first = ap (λ (t : _). t ∷ raw c.front) (cons_head y.token x (raw w) (a ++ b) e) ∙ ap (λ (l : List _). x ∷ l) c.first;
  second = c.second;
}

module _ (G : Signature) (forms : Productions G) (tables : Tables G) (h : IsPredictive G forms tables) (p : G.Part) (l : ℕ) where
  same_letters : (u v m n : Word G) (a b : G.Tree p) → Reads G forms None p l (u ++ m) a → Reads G forms None p l (v ++ n) b → raw u ≡ raw v → u ≡ v
  same_letters u v m n a b x y e = letters G forms tables h x y false (tables.first p) (tables.none p) (h.fits p) u m v n refl refl e

  begins_with : (w m : Word G) (x : Letter G.Token) (a : G.Tree p) → Reads G forms None p l (w ++ x ∷ m) a → BeginsText G forms p l None (raw w ++ x.token ∷ [])
  begins_with w m x a d = (w ++ x ∷ [], m, a, raw-append w (x ∷ []), subst (λ (v : Word G). Reads G forms None p l v a) (sym (append_assoc w (x ∷ []) m)) d)

  no_further : (wide : Option G.Label) (ts rest behind : List G.Token) (t : G.Token) → GoesNoFurther G forms p l wide ts rest → rest ≡ t ∷ behind → BeginsText G forms p l wide (ts ++ t ∷ []) → ⊥
  no_further wide ts rest behind t g e b = (subst (λ (m : List G.Token). GoesNoFurther G forms p l wide ts m) e g) b

  -- the next letters of two texts that begin with this word and the same token
  next_same : (w m n : Word G) (x y : Letter G.Token) (a b : G.Tree p) → Reads G forms None p l (w ++ x ∷ m) a → Reads G forms None p l (w ++ y ∷ n) b → x.token ≡ y.token → x ≡ y
  next_same w m n x y a b d e same =
      last_same w x y
      (same_letters (w ++ x ∷ []) (w ++ y ∷ []) m n a b (subst (λ (v : Word G). Reads G forms None p l v a) (sym (append_assoc w (x ∷ []) m)) d)
      (subst (λ (v : Word G). Reads G forms None p l v b) (sym (append_assoc w (y ∷ []) n)) e) (raw-append w (x ∷ []) ∙ ap (λ (t : G.Token). raw w ++ t ∷ []) same ∙ sym (raw-append w (y ∷ []))))

  module _ (limits : Limits) (input : List G.Token) where
    -- The tokens up to the rest begin a text within the limits, and none goes on with the next token within them.
    record Stop (rest : List G.Token) : Type 0 where
      word : Word G
      front : input ≡ raw word ++ rest
      within : IsWithin limits word
      missing : Word G
      value : G.Tree p
      begins : Reads G forms None p l (word ++ missing) value
      blocks : (x : Letter G.Token) (m : Word G) (a : G.Tree p) (behind : List G.Token) → rest ≡ x.token ∷ behind → Reads G forms None p l (word ++ x ∷ m) a → x.level < limits.levels → x.items < limits.items → ⊥

    stop_found : (a : G.Tree p) (rest : List G.Token) → Found G forms p l limits input a rest → Stop rest
    stop_found a rest f = record {
      word = f.word;
      front = f.front;
      within = f.within;
      missing = [];
      value = a;
      begins = subst (λ (w : Word G). Reads G forms None p l w a) (sym (append-nil f.word)) f.reads;
      blocks = λ x m b behind e d low few. no_further None (raw f.word) rest behind x.token (f.furthest None) e (begins_with f.word m x b d);
    }

    stop_at : (f : Fault G.Label) (rest : List G.Token) → Breaks G forms p l limits input f rest → Stop rest
    stop_at Syntax rest f = record {
      word = f.word;
      front = f.front;
      within = f.within;
      missing = f.missing;
      value = f.value;
      begins = f.begins;
      blocks = λ x m b behind e d low few. no_further None (raw f.word) rest behind x.token (f.furthest None) e (begins_with f.word m x b d);
    }
    stop_at (LeftOut label) rest f = record {
      word = f.word;
      front = f.front;
      within = f.within;
      missing = f.missing;
      value = f.value;
      begins = f.begins;
      blocks = λ x m b behind e d low few. no_further None (raw f.word) rest behind x.token f.furthest e (begins_with f.word m x b d);
    }
    stop_at Nesting rest f = record {
      word = f.word;
      front = f.front;
      within = f.within;
      missing = f.letter ∷ f.missing;
      value = f.value;
      begins = f.begins;
      blocks = λ x m b behind e d low few.
          let same = next_same f.word m f.missing x f.letter b f.value d f.begins (cons_head x.token f.letter.token behind f.behind (sym e ∙ f.next)) in
          omega (arith, f.high, low, ap (λ (x : Letter G.Token). x.level) same);
    }
    stop_at Number rest f = record {
      word = f.word;
      front = f.front;
      within = f.within;
      missing = f.letter ∷ f.missing;
      value = f.value;
      begins = f.begins;
      blocks = λ x m b behind e d low few.
          let same = next_same f.word m f.missing x f.letter b f.value d f.begins (cons_head x.token f.letter.token behind f.behind (sym e ∙ f.next)) in
          omega (arith, f.many, few, ap (λ (x : Letter G.Token). x.items) same);
    }

    -- none reads further than another
    no_stop_behind : (r q : List G.Token) (s : Stop r) (t : Stop q) (x : G.Token) (d : List G.Token) → raw s.word ≡ raw t.word ++ (x ∷ d) → q ≡ (x ∷ d) ++ r → ⊥
    no_stop_behind r q s t x d e f = go (cut s.word (raw t.word) (x ∷ d) e)
      where
        at : (u v : Word G) → s.word ≡ u ++ v → raw u ≡ raw t.word → raw v ≡ x ∷ d → ⊥
        at u [] whole first second = nil_cons x d second
        at u (y ∷ v) whole first second =
            let begins : Reads G forms None p l (u ++ (y ∷ (v ++ s.missing))) s.value =
            subst (λ (w : Word G). Reads G forms None p l w s.value) (ap (λ (w : Word G). w ++ s.missing) whole ∙ append_assoc u (y ∷ v) s.missing) s.begins in
            let same : u ≡ t.word = same_letters u t.word (y ∷ (v ++ s.missing)) t.missing s.value t.value begins t.begins first in
            let within : IsWithin limits (y ∷ v) = within-back limits u (y ∷ v) (subst (λ (w : Word G). IsWithin limits w) whole s.within) in
            t.blocks y (v ++ s.missing) s.value (d ++ r) (f ∙ ap (λ (z : G.Token). z ∷ (d ++ r)) (sym (cons_head y.token x (raw v) d second))) (subst (λ (w : Word G). Reads G forms None p l (w ++ (y ∷ (v ++ s.missing))) s.value) same begins)
            within.0 within.1

        go : Cut s.word (raw t.word) (x ∷ d) → ⊥
        go c = at c.front c.behind c.whole c.first c.second

    same_stop : (r q : List G.Token) → Stop r → Stop q → r ≡ q
    same_stop r q s t = go (parted (raw s.word) r (raw t.word) q (sym s.front ∙ t.front))
      where
        go : Parted (raw s.word) r (raw t.word) q → r ≡ q
        go (short [] f g) = sym g
        go (short (x ∷ d) f g) = absurd (no_stop_behind r q s t x d f g)
        go (far [] f g) = g
        go (far (x ∷ d) f g) = absurd (no_stop_behind q r t s x d f g)

    module _ (rest : List G.Token) where
      same_raw : (u v : Word G) → input ≡ raw u ++ rest → input ≡ raw v ++ rest → raw u ≡ raw v
      same_raw u v e f = append_cancel_right (raw u) (raw v) rest (sym e ∙ f)

      -- a text that goes on with the next token
      goes : (wide : Option G.Label) (u v : Word G) (t : G.Token) (behind : List G.Token) → input ≡ raw u ++ rest → input ≡ raw v ++ rest → GoesNoFurther G forms p l wide (raw u) rest → rest ≡ t ∷ behind
          → BeginsText G forms p l wide (raw v ++ t ∷ []) → ⊥
      goes wide u v t behind e f g n b = no_further wide (raw u) rest behind t g n (subst (λ (ts : List G.Token). BeginsText G forms p l wide (ts ++ t ∷ [])) (same_raw v u f e) b)

      not_found : (a : G.Tree p) (f : Fault G.Label) → Found G forms p l limits input a rest → Breaks G forms p l limits input f rest → ⊥
      not_found a Syntax x f = f.whole a (x.word, same_raw x.word f.word x.front f.front, x.reads)
      not_found a (LeftOut e) x f = goes (Some e) x.word f.word f.token f.behind x.front f.front (x.furthest (Some e)) f.next f.wider
      not_found a Nesting x f = goes None x.word f.word f.letter.token f.behind x.front f.front (x.furthest None) f.next (begins_with f.word f.missing f.letter f.value f.begins)
      not_found a Number x f = goes None x.word f.word f.letter.token f.behind x.front f.front (x.furthest None) f.next (begins_with f.word f.missing f.letter f.value f.begins)

      not_left : (e : G.Label) → NoText G forms p l limits input rest → OnlyWide G forms p l limits e input rest → ⊥
      not_left e x f = goes (Some e) x.word f.word f.token f.behind x.front f.front (x.furthest (Some e)) f.next f.wider

      not_high : (u : Word G) → input ≡ raw u ++ rest → GoesNoFurther G forms p l None (raw u) rest → TooHigh G forms p l limits input rest → ⊥
      not_high u e g f = goes None u f.word f.letter.token f.behind e f.front g f.next (begins_with f.word f.missing f.letter f.value f.begins)

      not_many : (u : Word G) → input ≡ raw u ++ rest → GoesNoFurther G forms p l None (raw u) rest → TooMany G forms p l limits input rest → ⊥
      not_many u e g f = goes None u f.word f.letter.token f.behind e f.front g f.next (begins_with f.word f.missing f.letter f.value f.begins)

      high_or_many : TooHigh G forms p l limits input rest → TooMany G forms p l limits input rest → ⊥
      high_or_many x y =
          let words : x.word ≡ y.word = same_letters x.word y.word (x.letter ∷ x.missing) (y.letter ∷ y.missing) x.value y.value x.begins y.begins (same_raw x.word y.word x.front y.front) in
          let same : x.letter ≡ y.letter = next_same y.word x.missing y.missing x.letter y.letter x.value y.value (subst (λ (w : Word G). Reads G forms None p l (w ++ x.letter ∷ x.missing) x.value) words x.begins) y.begins
          (cons_head x.letter.token y.letter.token x.behind y.behind (sym x.next ∙ y.next)) in
          omega (arith, x.high, y.low, ap (λ (x : Letter G.Token). x.level) same)

      -- the label that the reader stops at
      label_told : (e : G.Label) → OnlyWide G forms p l limits e input rest → (o : Outcome G.Label G.Token (G.Tree p)) → reader G forms tables.top tables.rank limits p l input ≡ o → Answers G forms p l limits input o
          → reader G forms tables.top tables.rank limits p l input ≡ Err (LeftOut e, rest)
      label_told e f (Ok x) is a = absurd (not_found x.0 (LeftOut e) (subst (λ (m : List G.Token). Found G forms p l limits input x.0 m) (same_stop x.1 rest (stop_found x.0 x.1 a) (stop_at (LeftOut e) rest f)) a) f)
      label_told e f (Err s) is a = by s.0 s.1 is a
        where
          by : (g : Fault G.Label) (m : List G.Token) → reader G forms tables.top tables.rank limits p l input ≡ Err (g, m) → Breaks G forms p l limits input g m → reader G forms tables.top tables.rank limits p l input ≡ Err (LeftOut e, rest)
          by g m is b = at g (is ∙ ap (λ (m : List G.Token). Err (g, m)) same) (subst (λ (m : List G.Token). Breaks G forms p l limits input g m) same b)
            where
              same : m ≡ rest
              same = same_stop m rest (stop_at g m b) (stop_at (LeftOut e) rest f)

              at : (g : Fault G.Label) → reader G forms tables.top tables.rank limits p l input ≡ Err (g, rest) → Breaks G forms p l limits input g rest → reader G forms tables.top tables.rank limits p l input ≡ Err (LeftOut e, rest)
              at Syntax is b = absurd (not_left e b f)
              at (LeftOut label) is b = is ∙ ap (λ (x : G.Label). Err (LeftOut x, rest)) (sym (label_is G forms tables h p l limits input rest label e is f))
              at Nesting is b = absurd (not_high f.word f.front f.furthest b)
              at Number is b = absurd (not_many f.word f.front f.furthest b)

      labels_same : (e label : G.Label) → OnlyWide G forms p l limits e input rest → OnlyWide G forms p l limits label input rest → e ≡ label
      labels_same e label x y =
          label_is G forms tables h p l limits input rest label e
          (label_told label y (reader G forms tables.top tables.rank limits p l input) refl (answers G forms tables h p l limits input)) x

      faults_same : (f g : Fault G.Label) → Breaks G forms p l limits input f rest → Breaks G forms p l limits input g rest → f ≡ g
      faults_same Syntax Syntax x y = refl
      faults_same Syntax (LeftOut e) x y = absurd (not_left e x y)
      faults_same Syntax Nesting x y = absurd (not_high x.word x.front (x.furthest None) y)
      faults_same Syntax Number x y = absurd (not_many x.word x.front (x.furthest None) y)
      faults_same (LeftOut e) Syntax x y = absurd (not_left e y x)
      faults_same (LeftOut e) (LeftOut label) x y = ap (λ (z : G.Label). LeftOut z) (labels_same e label x y)
      faults_same (LeftOut e) Nesting x y = absurd (not_high x.word x.front x.furthest y)
      faults_same (LeftOut e) Number x y = absurd (not_many x.word x.front x.furthest y)
      faults_same Nesting Syntax x y = absurd (not_high y.word y.front (y.furthest None) x)
      faults_same Nesting (LeftOut e) x y = absurd (not_high y.word y.front y.furthest x)
      faults_same Nesting Nesting x y = refl
      faults_same Nesting Number x y = absurd (high_or_many x y)
      faults_same Number Syntax x y = absurd (not_many y.word y.front (y.furthest None) x)
      faults_same Number (LeftOut e) x y = absurd (not_many y.word y.front y.furthest x)
      faults_same Number Nesting x y = absurd (high_or_many y x)
      faults_same Number Number x y = refl

      trees_same : (a b : G.Tree p) → Found G forms p l limits input a rest → Found G forms p l limits input b rest → a ≡ b
      trees_same a b x y = one_tree G forms tables h p l x.word y.word a b (same_raw x.word y.word x.front y.front) x.reads y.reads

    pub found_same : (a b : G.Tree p) (r q : List G.Token) → Found G forms p l limits input a r → Found G forms p l limits input b q → (a ≡ b) × (r ≡ q)
    found_same a b r q x y =
        let same : r ≡ q = same_stop r q (stop_found a r x) (stop_found b q y) in
        (trees_same q a b (subst (λ (m : List G.Token). Found G forms p l limits input a m) same x) y, same)

    pub found_or_broken : (a : G.Tree p) (f : Fault G.Label) (r q : List G.Token) → Found G forms p l limits input a r → Breaks G forms p l limits input f q → ⊥
    found_or_broken a f r q x y = not_found q a f (subst (λ (m : List G.Token). Found G forms p l limits input a m) (same_stop r q (stop_found a r x) (stop_at f q y)) x) y

    pub broken_same : (f g : Fault G.Label) (r q : List G.Token) → Breaks G forms p l limits input f r → Breaks G forms p l limits input g q → (f ≡ g) × (r ≡ q)
    broken_same f g r q x y =
        let same : r ≡ q = same_stop r q (stop_at f r x) (stop_at g q y) in
        (faults_same q f g (subst (λ (m : List G.Token). Breaks G forms p l limits input f m) same x) y, same)

    pub one_answer : (x y : Outcome G.Label G.Token (G.Tree p)) → Answers G forms p l limits input x → Answers G forms p l limits input y → x ≡ y
    one_answer (Ok (a, r)) (Ok (b, q)) x y = let same = found_same a b r q x y in ap (λ (a : G.Tree p). Ok (a, r)) same.0 ∙ ap (λ (r : List G.Token). Ok (b, r)) same.1
    one_answer (Ok (a, r)) (Err (g, q)) x y = absurd (found_or_broken a g r q x y)
    one_answer (Err (f, r)) (Ok (b, q)) x y = absurd (found_or_broken b f q r y x)
    one_answer (Err (f, r)) (Err (g, q)) x y = let same = broken_same f g r q x y in ap (λ (f : Fault G.Label). Err (f, r)) same.0 ∙ ap (λ (r : List G.Token). Err (g, r)) same.1
