-- A reader answers what the grammar says, the first fault too; and a text has one tree.
use Rattle.std.proofs.Common.{◌≡◌, ℕ, ◌+◌, Bool, List, [], ◌∷◌, ◌++◌, Option, Some, None, Ok, Err, refl, sym, ap, subst, ◌∙◌, append_assoc, append-nil, arith}
use Rattle.std.proofs.lemmas.List.{append_cancel_right}
use Rattle.predictive_grammar.specs.Forms.{Signature, Productions}
use Rattle.predictive_grammar.specs.Follows.{Letter, Word, raw, Reads}
use Rattle.predictive_grammar.specs.Steps.{Fault, Syntax, LeftOut, Nesting, Number, Limits, Outcome, Parser}
use Rattle.predictive_grammar.specs.Reading.{reader}
use Rattle.predictive_grammar.specs.Exact.{IsWithin, IsText, GoesNoFurther, Found, NoText, OnlyWide, TooHigh, TooMany, Breaks, Answers}
use Rattle.predictive_grammar.specs.Fit.{Tables, IsPredictive}
use Rattle.predictive_grammar.proofs.Words.{raw-append, Grows, size, within-size}
use Rattle.predictive_grammar.proofs.Texts.{none_some}
use Rattle.predictive_grammar.proofs.Known.{Alike, ends, next, Completes, Known, Good}
use Rattle.predictive_grammar.proofs.Good.{good}
use Rattle.predictive_grammar.proofs.Complete.{Ends, whole, barred, complete}

abbrev ok : {L T A : Type 0} → A × List T → Outcome L T A
ok x = Ok x

abbrev err : {L T A : Type 0} → Fault L × List T → Outcome L T A
err s = Err s

ok_is : {L T A : Type 0} (x y : A × List T) → ok {L = L} x ≡ ok y → x ≡ y
ok_is x y e = cc

ok_err : {L T A : Type 0} (x : A × List T) (s : Fault L × List T) → ok x ≡ err s → ⊥
ok_err x s e = cc

err_is : {L T A : Type 0} (s u : Fault L × List T) → err {A = A} s ≡ err u → s ≡ u
err_is s u e = cc

stops_otherwise : {L : Type 0} {e : L} → Syntax ≡ LeftOut e → ⊥
stops_otherwise e = cc

some_is : {L : Type 0} {a b : L} → Some a ≡ Some b → a ≡ b
some_is e = cc

left_is : {L : Type 0} {a b : L} → LeftOut a ≡ LeftOut b → a ≡ b
left_is e = cc

nil_cons : {T : Type 0} (t : T) (ts : List T) → [] ≡ t ∷ ts → ⊥
nil_cons t ts e = cc

module _ (G : Signature) (forms : Productions G) (tables : Tables G) (h : IsPredictive G forms tables) (p : G.Part) (l : ℕ) where
  abbrev by : Limits → Parser G.Label G.Token (G.Tree p)
  by limits = reader G forms tables.top tables.rank limits p l

  -- limits under which a word stands too
  abbrev over : Limits → Word G → Limits
  over limits w = record { levels = limits.levels + size w; items = limits.items + size w }

  grown : (limits : Limits) (w : Word G) → Grows limits (over limits w)
  grown limits w = record { levels = omega arith; items = omega arith }

  stands : (limits : Limits) (w : Word G) → IsWithin (over limits w) w
  stands limits w = within-size (over limits w) w (omega arith) (omega arith)

  -- a text alone is read whole, where there is room, or it stops where it leaves the grammar
  read_whole : {b : Option G.Label} (limits : Limits) (w : Word G) (a : G.Tree p) → Reads G forms b p l w a → Ends b a [] (by (over limits w) (raw w))
  read_whole {b = b} limits w a d = subst (λ (i : List G.Token). Ends b a [] (by (over limits w) i)) (append-nil (raw w)) (complete G forms tables h (over limits w) d (stands limits w) [] tt)

  not_ok : {b : Option G.Label} {a : G.Tree p} (o : Outcome G.Label G.Token (G.Tree p)) (x : G.Tree p × List G.Token) (t : G.Token) (ts : List G.Token) → x.1 ≡ t ∷ ts → Ends b a [] o → o ≡ Ok x → ⊥
  not_ok o x t ts is whole e = nil_cons t ts (ap (λ (y : G.Tree p × List G.Token). y.1) (ok_is _ x e) ∙ is)
  not_ok o x t ts is (barred {e = label} w j) e = ok_err x (LeftOut label, j) (sym e)

  not_syntax : {b : Option G.Label} {a : G.Tree p} (o : Outcome G.Label G.Token (G.Tree p)) (m : List G.Token) → Ends b a [] o → o ≡ Err (Syntax, m) → ⊥
  not_syntax o m whole e = ok_err _ (Syntax, m) e
  not_syntax o m (barred {e = label} w j) e = stops_otherwise (ap (λ (s : Fault G.Label × List G.Token). s.0) (sym (err_is {A = G.Tree p} (LeftOut label, j) (Syntax, m) e)))

  not_left : {a : G.Tree p} (o : Outcome G.Label G.Token (G.Tree p)) (label : G.Label) (m : List G.Token) → Ends None a [] o → o ≡ Err (LeftOut label, m) → ⊥
  not_left o label m whole e = ok_err _ (LeftOut label, m) e
  not_left o label m (barred w j) e = none_some w

  labels_same : {a : G.Tree p} (e label : G.Label) (o : Outcome G.Label G.Token (G.Tree p)) (m : List G.Token) → Ends (Some e) a [] o → o ≡ Err (LeftOut label, m) → e ≡ label
  labels_same e label o m whole is = absurd (ok_err _ (LeftOut label, m) is)
  labels_same e label o m (barred {e = other} w j) is = some_is w ∙ left_is (ap (λ (s : Fault G.Label × List G.Token). s.0) (err_is {A = G.Tree p} (LeftOut other, j) (LeftOut label, m) is))

  same_front : (u v z : Word G) (t : G.Token) → raw u ≡ raw v ++ t ∷ [] → raw (u ++ z) ≡ raw v ++ (t ∷ raw z)
  same_front u v z t e = raw-append u z ∙ ap (λ (x : List G.Token). x ++ raw z) e ∙ append_assoc (raw v) (t ∷ []) (raw z)

  module _ (limits : Limits) (input : List G.Token) where
    abbrev Narrow : Word G → G.Tree p → Type 0
    Narrow w a = Reads G forms None p l w a

    abbrev Wide : G.Label → Word G → G.Tree p → Type 0
    Wide label w a = Reads G forms (Some label) p l w a

    abbrev Told : Limits → Outcome G.Label G.Token (G.Tree p) → Type 0
    Told large o = Known G Narrow Wide limits (by large) input o

    told : (large : Limits) → Grows limits large → (o : Outcome G.Label G.Token (G.Tree p)) → by limits input ≡ o → Told large o
    told large g o e = (subst (λ (o : Outcome G.Label G.Token (G.Tree p)). Good G Narrow Wide limits (by large) input o) e (good G forms tables h limits large g p l input)).run

    no_larger : Grows limits limits
    no_larger = record { levels = omega arith; items = omega arith }

    module _ (rest : List G.Token) where
      same_word : (u v : Word G) → input ≡ raw u ++ rest → input ≡ raw v ++ rest → raw u ≡ raw v
      same_word u v e f = append_cancel_right (raw u) (raw v) rest (sym e ∙ f)

      -- what the reader with more room does on a text that begins with a word and the next token
      longer : (large : Limits) (w v u z : Word G) (t : G.Token) (o : Outcome G.Label G.Token (G.Tree p)) → input ≡ raw w ++ rest → input ≡ raw v ++ rest → raw u ≡ raw w ++ t ∷ []
          → by large (raw v ++ (t ∷ raw z)) ≡ o → by large (raw (u ++ z)) ≡ o
      longer large w v u z t o e f g x = ap (by large) (same_front u v z t (g ∙ ap (λ (y : List G.Token). y ++ t ∷ []) (same_word w v e f))) ∙ x

      alike : {end : Bool} (t : G.Token) (ts us : List G.Token) → rest ≡ t ∷ ts → Alike G end rest (t ∷ us)
      alike {end = end} t ts us e = subst (λ (x : List G.Token). Alike G end x (t ∷ us)) (sym e) (next refl)

      found : (a : G.Tree p) → ((large : Limits) → Grows limits large → Told large (Ok (a, rest))) → Found G forms p l limits input a rest
      found a took = let first = took limits no_larger in record { word = first.word; front = first.front; within = first.within; reads = first.fact.text; furthest = λ wide. further wide rest refl }
        where
          further : (wide : Option G.Label) (m : List G.Token) → rest ≡ m → GoesNoFurther G forms p l wide (raw (took limits no_larger).word) m
          further wide [] e = tt
          further wide (t ∷ ts) e = λ b.
              let u = b.0 in let z = b.1 in
              let large = over limits (u ++ z) in
              let again = took large (grown limits (u ++ z)) in
              not_ok (by large (raw (u ++ z))) (a, t ∷ raw z) t (raw z) refl (read_whole limits (u ++ z) b.2 b.4)
              (longer large (took limits no_larger).word again.word u z t (Ok (a, t ∷ raw z)) (took limits no_larger).front again.front b.3 (again.fact.holds (t ∷ raw z) (alike t ts (raw z) e)))

      no_text : ((large : Limits) → Grows limits large → Told large (Err (Syntax, rest))) → NoText G forms p l limits input rest
      no_text refused = let first = refused limits no_larger in
          record { word = first.word; front = first.front; within = first.within; missing = first.fact.can.missing; value = first.fact.can.value; begins = first.fact.can.begins; whole = no_whole; furthest = λ wide. further wide rest refl }
        where
          no_whole : (a : G.Tree p) → IsText G forms p l (raw (refused limits no_larger).word) a → ⊥
          no_whole a b =
              let u = b.0 in
              let large = over limits u in
              let again = refused large (grown limits u) in
              let text : raw u ≡ raw again.word ++ [] = b.1 ∙ same_word (refused limits no_larger).word again.word (refused limits no_larger).front again.front ∙ sym (append-nil (raw again.word)) in
              not_syntax (by large (raw u)) [] (read_whole limits u a b.2) (ap (by large) text ∙ again.fact.holds [] (ends refl))

          further : (wide : Option G.Label) (m : List G.Token) → rest ≡ m → GoesNoFurther G forms p l wide (raw (refused limits no_larger).word) m
          further wide [] e = tt
          further wide (t ∷ ts) e = λ b.
              let u = b.0 in let z = b.1 in
              let large = over limits (u ++ z) in
              let again = refused large (grown limits (u ++ z)) in
              not_syntax (by large (raw (u ++ z))) (t ∷ raw z) (read_whole limits (u ++ z) b.2 b.4)
              (longer large (refused limits no_larger).word again.word u z t (Err (Syntax, t ∷ raw z)) (refused limits no_larger).front again.front b.3 (again.fact.holds (t ∷ raw z) (alike t ts (raw z) e)))

      only_wide : (label : G.Label) → ((large : Limits) → Grows limits large → Told large (Err (LeftOut label, rest))) → OnlyWide G forms p l limits label input rest
      only_wide label left = let first = left limits no_larger in let fact = first.fact in record {
        word = first.word;
        token = fact.letter.token;
        behind = fact.behind;
        front = first.front;
        next = fact.begin;
        within = first.within;
        missing = fact.can.missing;
        value = fact.can.value;
        begins = fact.can.begins;
        furthest = further rest refl;
        wider = (first.word ++ fact.letter ∷ [], fact.goes.missing, fact.goes.value, raw-append first.word (fact.letter ∷ []), fact.goes.begins);
      }
        where
          further : (m : List G.Token) → rest ≡ m → GoesNoFurther G forms p l None (raw (left limits no_larger).word) m
          further [] e = tt
          further (t ∷ ts) e = λ b.
              let u = b.0 in let z = b.1 in
              let large = over limits (u ++ z) in
              let again = left large (grown limits (u ++ z)) in
              not_left (by large (raw (u ++ z))) label (t ∷ raw z) (read_whole limits (u ++ z) b.2 b.4)
              (longer large (left limits no_larger).word again.word u z t (Err (LeftOut label, t ∷ raw z)) (left limits no_larger).front again.front b.3 (again.fact.holds (t ∷ raw z) (alike t ts (raw z) e)))

      -- where the reader stops at a label, no other label lets a text go on
      pub label_is : (label e : G.Label) → by limits input ≡ Err (LeftOut label, rest) → OnlyWide G forms p l limits e input rest → e ≡ label
      label_is label e is o =
          let u = o.wider.0 in let z = o.wider.1 in
          let large = over limits (u ++ z) in
          let again = told large (grown limits (u ++ z)) (Err (LeftOut label, rest)) is in
          labels_same e label (by large (raw (u ++ z))) (o.token ∷ raw z) (read_whole limits (u ++ z) o.wider.2 o.wider.4)
          (longer large o.word again.word u z o.token (Err (LeftOut label, o.token ∷ raw z)) o.front again.front o.wider.3 (again.fact.holds (o.token ∷ raw z) (alike o.token o.behind (raw z) o.next)))

      goes_on : (w : Word G) (x : Letter G.Token) (c : Completes G Narrow (w ++ x ∷ [])) → Reads G forms None p l (w ++ x ∷ c.missing) c.value
      goes_on w x c = subst (λ (y : Word G). Reads G forms None p l y c.value) (append_assoc w (x ∷ []) c.missing) c.begins

      too_high : Told limits (Err (Nesting, rest)) → TooHigh G forms p l limits input rest
      too_high t = let fact = t.fact in record {
        word = t.word;
        letter = fact.letter;
        behind = fact.behind;
        front = t.front;
        next = fact.begin;
        within = t.within;
        high = fact.excess;
        missing = fact.goes.missing;
        value = fact.goes.value;
        begins = goes_on t.word fact.letter fact.goes;
      }

      too_many : Told limits (Err (Number, rest)) → TooMany G forms p l limits input rest
      too_many t = let fact = t.fact in record {
        word = t.word;
        letter = fact.letter;
        behind = fact.behind;
        front = t.front;
        next = fact.begin;
        within = t.within;
        low = fact.excess.0;
        many = fact.excess.1;
        missing = fact.goes.missing;
        value = fact.goes.value;
        begins = goes_on t.word fact.letter fact.goes;
      }

      breaks : (s : Fault G.Label) → by limits input ≡ Err (s, rest) → Breaks G forms p l limits input s rest
      breaks Syntax e = no_text (λ large g. told large g (Err (Syntax, rest)) e)
      breaks (LeftOut label) e = only_wide label (λ large g. told large g (Err (LeftOut label, rest)) e)
      breaks Nesting e = too_high (told limits no_larger (Err (Nesting, rest)) e)
      breaks Number e = too_many (told limits no_larger (Err (Number, rest)) e)

    by_outcome : (o : Outcome G.Label G.Token (G.Tree p)) → by limits input ≡ o → Answers G forms p l limits input o
    by_outcome (Ok x) e = found x.1 x.0 (λ large g. told large g (Ok x) e)
    by_outcome (Err s) e = breaks s.1 s.0 e

    pub answers : Answers G forms p l limits input (reader G forms tables.top tables.rank limits p l input)
    answers = by_outcome (by limits input) refl

  one_value : (a b : G.Tree p) (o o' : Outcome G.Label G.Token (G.Tree p)) → o ≡ o' → Ends None a [] o → Ends None b [] o' → a ≡ b
  one_value a b o o' e whole whole = ap (λ (x : G.Tree p × List G.Token). x.0) (ok_is _ _ e)
  one_value a b o o' e whole (barred w j) = absurd (none_some w)
  one_value a b o o' e (barred w j) f = absurd (none_some w)

  -- two texts of a part with the same tokens have the same tree
  pub one_tree : (u v : Word G) (a b : G.Tree p) → raw u ≡ raw v → Reads G forms None p l u a → Reads G forms None p l v b → a ≡ b
  one_tree u v a b e x y =
      let limits : Limits = record { levels = size u + size v; items = size u + size v } in
      let first : Ends None a [] (by limits (raw u)) =
      subst (λ (i : List G.Token). Ends None a [] (by limits i)) (append-nil (raw u)) (complete G forms tables h limits x (within-size limits u (omega arith) (omega arith)) [] tt) in
      let other : Ends None b [] (by limits (raw v)) =
      subst (λ (i : List G.Token). Ends None b [] (by limits i)) (append-nil (raw v)) (complete G forms tables h limits y (within-size limits v (omega arith) (omega arith)) [] tt) in
      one_value a b (by limits (raw u)) (by limits (raw v)) (ap (by limits) e) first other
