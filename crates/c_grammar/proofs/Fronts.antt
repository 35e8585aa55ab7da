-- The mending reader of items completes the front that the reader took.
use Rattle.std.proofs.Common.{◌≡◌, ℕ, ◌<◌, ◌≤◌, nat_le, ◌&&◌, Bool, true, false, List, [], ◌∷◌, ◌++◌, length, Some, None, Ok, Err, refl, sym, ap, subst, ◌∙◌, append-nil, arith, leb-true}
use Rattle.std.proofs.lemmas.List.{append_cancel_right}
use Rattle.std.proofs.lemmas.List.Elements.{All-nil, All-cons}
use Rattle.predictive_grammar.specs.Follows.{Letter, raw, Reads}
use Rattle.predictive_grammar.specs.Follows as letters
use Rattle.predictive_grammar.specs.Steps.{Fault, Syntax, LeftOut, Nesting, Number, Outcome}
use Rattle.predictive_grammar.specs.Exact.{IsText, BeginsText, GoesNoFurther, Found, NoText, TooHigh, TooMany, Breaks, Answers}
use Rattle.mending_readers.specs.Mending.{State, Going, Stopped, Mended, AllNew, Completed, MendsTo, Mends}
use Rattle.predictive_grammar.proofs.Words.{raw-append}
use Rattle.c_tree.specs.declared.unit.Item.{Item}
use Rattle.c_tree.specs.Words.{Token, Word, Open, with_terminal, is_shallow, start_of}
use Rattle.c_tree.specs.Names.{library_names}
use Rattle.c_tree.specs.Answers.{Ending, Whole, Broken, AreItems, GoNoFurther, Stops, at_broken, at_token, at_deep, at_end, syntax_at, Made}
use Rattle.c_grammar.specs.Parts.{at, ItemsOf}
use Rattle.c_grammar.specs.Grammar.{C, forms}
use Rattle.c_grammar.specs.Laws.{c_limits, c_reader, IsBehind}
use Rattle.c_grammar.specs.Mending.{c_mender}
use Rattle.c_grammar.specs.Fronts.{end_of, StopsWith, ToTheEnd, GivesItems, Completes, FrontsAreCompleted}
use Rattle.c_grammar.proofs.Levels.{Counted, after, counted_items, counted_front, front_shallow}
use Rattle.c_grammar.proofs.Joined.{reads_exactly, items_are_told}
use Rattle.c_grammar.proofs.Menders.{texts_are_mended}

-- ---- letters and tokens

-- a word of letters is in two where its tokens are
split_letters : (u v : Word) (w : letters.Word C) → raw w ≡ u ++ v → (x y : letters.Word C) × (w ≡ x ++ y) × (raw x ≡ u) × (raw y ≡ v)
split_letters [] v w e = ([], w, refl, refl, e)
split_letters (t ∷ u) v [] e = absurd (nil_cons t (u ++ v) e)
  where
    nil_cons : (t : Token) (ts : Word) → [] ≡ t ∷ ts → ⊥
    nil_cons t ts e = cc
split_letters (t ∷ u) v (l ∷ w) e =
    let s = split_letters u v w (tail_is e) in (l ∷ s.0, s.1, ap (λ (z : letters.Word C). l ∷ z) s.2, ap (λ (z : Token). z ∷ raw s.0) (head_is e) ∙ ap (λ (z : Word). t ∷ z) s.3, s.4)
  where
    tail_is : l.token ∷ raw w ≡ t ∷ (u ++ v) → raw w ≡ u ++ v
    tail_is e = cc

    head_is : l.token ∷ raw w ≡ t ∷ (u ++ v) → l.token ≡ t
    head_is e = cc

-- the letter behind a front
counted_at : (o : Open) (u : letters.Word C) (x : Letter Token) (v : letters.Word C) → Counted o (u ++ x ∷ v) → (x.level ≡ length (with_terminal (after o u) x.token.terminal)) × (x.items ≡ 0)
counted_at o [] x v c = (c.0, c.1)
counted_at o (y ∷ u) x v c = counted_at (with_terminal o y.token.terminal) u x v c.2

and_false : (a : Bool) {b : Bool} → b ≡ false → (a && b) ≡ false
and_false true e = e
and_false false e = refl

not_below : (n : ℕ) → 65 ≤ n → nat_le n 64 ≡ false
not_below n le = go (nat_le n 64) refl
  where
    go : (b : Bool) → nat_le n 64 ≡ b → b ≡ false
    go true e = absurd (omega (arith, leb-true n 64 e, le))
    go false e = refl

deep : (o : Open) (u : letters.Word C) (t : Token) → 65 ≤ length (with_terminal (after o u) t.terminal) → is_shallow o (raw u ++ t ∷ []) ≡ false
deep o [] t le = ap (λ (b : Bool). b && true) (not_below (length (with_terminal o t.terminal)) le)
deep o (x ∷ u) t le = and_false (nat_le (length (with_terminal o x.token.terminal)) 64) (deep (with_terminal o x.token.terminal) u t le)

-- new tokens are made behind the place
made_of : («end» : ℕ) (rest : Word) (w : letters.Word C) → AllNew (IsBehind «end») rest w → Made (start_of «end» rest) (raw w)
made_of «end» rest [] a = All-nil (IsBehind «end» rest)
made_of «end» rest (x ∷ w) a = All-cons (IsBehind «end» rest) x.token (raw w) a.0 (made_of «end» rest w a.1)

nothing_made : (n : ℕ) → Made n []
nothing_made n = All-nil (λ (t : Token). (n < t.start) × (n < t.«end»))

-- what stands behind a place stands behind each one before it
made_less : (n m : ℕ) → n ≤ m → (v : Word) → Made m v → Made n v
made_less n m le v h = λ i t lt. let x = h i t lt in (omega (arith, x.0, le), omega (arith, x.1, le))

-- ---- items

abbrev ReadsAll : letters.Word C → List Item → Type 0
ReadsAll w is = Reads C forms None (at library_names (ItemsOf false)) 0 w is

-- the tokens of a text of the part are items, and the other way round
told : (w : letters.Word C) (is : List Item) → ReadsAll w is → AreItems (raw w) is
told w is d = (items_are_told library_names 0 (raw w) is).0 (w, refl, d)

found : (w : Word) (is : List Item) → AreItems w is → IsText C forms (at library_names (ItemsOf false)) 0 w is
found w is d = (items_are_told library_names 0 w is).1 d

-- where the grammar goes no further no items do
no_further : (w : Word) (t : Token) → (BeginsText C forms (at library_names (ItemsOf false)) 0 None (w ++ t ∷ []) → ⊥) → GoNoFurther (w ++ t ∷ [])
no_further w t never v is d =
    let f = found ((w ++ t ∷ []) ++ v) is d in
    let s = split_letters (w ++ t ∷ []) v f.0 f.1 in
    never (s.0, s.1, is, s.3, subst (λ (y : letters.Word C). ReadsAll y is) s.2 f.2)

-- what is told where the tokens end
whole_only : {n m : ℕ} → Broken n ≡ Whole m → ⊥
whole_only e = cc

-- ---- what stops

module _ (text : Word) (is : List Item) where
  -- a front that is the whole text, behind which some tokens could follow
  at_last : (e : Ending) (w v : Word) → text ≡ w ++ [] → ((n : ℕ) → e ≡ Whole n → (is : List Item) → AreItems w is → ⊥) → is_shallow [] w ≡ true → Made (end_of e) v → AreItems (w ++ v) is → StopsWith text e is []
  at_last e w v front never shallow made reads = by_ending e never made
    where
      same : text ≡ w
      same = front ∙ append-nil w

      by_ending : (e : Ending) → ((n : ℕ) → e ≡ Whole n → (is : List Item) → AreItems w is → ⊥) → Made (end_of e) v → StopsWith text e is []
      by_ending (Whole n) never made = record {
        word = text;
        front = sym (append-nil text);
        stops = at_end n (λ xs d. never n refl xs (subst (λ (x : Word). AreItems x xs) same d));
        shallow = subst (λ (x : Word). is_shallow [] x ≡ true) (sym same) shallow;
        missing = v;
        made = made;
        reads = subst (λ (x : Word). AreItems (x ++ v) is) (sym same) reads;
      }
      by_ending (Broken n) never made = record {
        word = text;
        front = sym (append-nil text);
        stops = at_broken n;
        shallow = subst (λ (x : Word). is_shallow [] x ≡ true) (sym same) shallow;
        missing = v;
        made = made;
        reads = subst (λ (x : Word). AreItems (x ++ v) is) (sym same) reads;
      }

  -- a front in front of a token
  at_next : (e : Ending) (w v : Word) (t : Token) (ts : Word) → text ≡ w ++ t ∷ ts → Stops text e w (syntax_at t.start) → is_shallow [] w ≡ true → Made t.start v → AreItems (w ++ v) is → StopsWith text e is (t ∷ ts)
  at_next e w v t ts front stops shallow made reads = record { word = w; front = front; stops = stops; shallow = shallow; missing = v; made = made; reads = reads }

  -- what stands behind the word: nothing, and the word is no text; or a token with which no text goes on
  by_rest : (e : Ending) (last : ℕ) → end_of e ≤ last → (w v : Word) (rest : Word) → text ≡ w ++ rest → ((xs : List Item) → AreItems w xs → ⊥) → GoesNoFurther C forms (at library_names (ItemsOf false)) 0 None w rest
      → is_shallow [] w ≡ true → Made (start_of last rest) v → AreItems (w ++ v) is → StopsWith text e is rest
  by_rest e last le w v [] front never further shallow made reads = at_last e w v front (λ n f. never) shallow (made_less (end_of e) last le v made) reads
  by_rest e last le w v (t ∷ ts) front never further shallow made reads = at_next e w v t ts front (at_token e w t ts front (no_further w t further)) shallow made reads

  -- ---- where the reader read items

  read_to_end : (e : Ending) (w : letters.Word C) → text ≡ raw w ++ [] → is_shallow [] (raw w) ≡ true → AreItems (raw w) is → ToTheEnd text e is
  read_to_end (Whole n) w front shallow d =
      let same : text ≡ raw w = front ∙ append-nil (raw w) in (subst (λ (x : Word). AreItems x is) (sym same) d, subst (λ (x : Word). is_shallow [] x ≡ true) (sym same) shallow)
  read_to_end (Broken n) w front shallow d =
      at_last (Broken n) (raw w) [] front (λ m f. absurd (whole_only f)) shallow (nothing_made n) (subst (λ (x : Word). AreItems x is) (sym (append-nil (raw w))) d)

  read_some : (e : Ending) (rest : Word) → Found C forms (at library_names (ItemsOf false)) 0 c_limits text is rest → GivesItems text e is (Going rest)
  read_some e [] f = read_to_end e f.word f.front (front_shallow f.word (counted_items library_names f.word is f.reads) f.within) (told f.word is f.reads)
  read_some e (t ∷ ts) f =
      at_next e (raw f.word) [] t ts f.front (at_token e (raw f.word) t ts f.front (no_further (raw f.word) t (f.furthest None))) (front_shallow f.word (counted_items library_names f.word is f.reads) f.within) (nothing_made t.start)
      (subst (λ (x : Word). AreItems x is) (sym (append-nil (raw f.word))) (told f.word is f.reads))

  -- ---- where it found a fault

  module _ (e : Ending) (last : ℕ) (le : end_of e ≤ last) (rest : Word) (c : Completed C forms (at library_names (ItemsOf false)) 0 c_limits (c_reader c_limits (at library_names (ItemsOf false)) 0) (IsBehind last) text is rest) where
    counted : Counted [] (c.word ++ c.missing)
    counted = counted_items library_names (c.word ++ c.missing) is c.reads

    shallow : is_shallow [] (raw c.word) ≡ true
    shallow = front_shallow c.word (counted_front [] c.word c.missing counted) c.within

    reads_on : AreItems (raw c.word ++ raw c.missing) is
    reads_on = subst (λ (x : Word). AreItems x is) (raw-append c.word c.missing) (told (c.word ++ c.missing) is c.reads)

    made : Made (start_of last rest) (raw c.missing)
    made = made_of last rest c.missing c.new

    same_word : (w : letters.Word C) → text ≡ raw w ++ rest → raw w ≡ raw c.word
    same_word w front = append_cancel_right (raw w) (raw c.word) rest (sym front ∙ c.front)

    by_syntax : NoText C forms (at library_names (ItemsOf false)) 0 c_limits text rest → StopsWith text e is rest
    by_syntax n =
        let same : raw n.word ≡ raw c.word = same_word n.word n.front in
        by_rest e last le (raw c.word) (raw c.missing) rest c.front (λ xs d. n.whole xs (found (raw n.word) xs (subst (λ (x : Word). AreItems x xs) (sym same) d)))
        (subst (λ (x : Word). GoesNoFurther C forms (at library_names (ItemsOf false)) 0 None x rest) same (n.furthest None)) shallow made reads_on

    by_level : TooHigh C forms (at library_names (ItemsOf false)) 0 c_limits text rest → StopsWith text e is rest
    by_level h =
        let same : raw h.word ≡ raw c.word = same_word h.word h.front in
        let at_letter = counted_at [] h.word h.letter h.missing (counted_items library_names (h.word ++ h.letter ∷ h.missing) h.value h.begins) in
        let over : is_shallow [] (raw c.word ++ h.letter.token ∷ []) ≡ false =
        subst (λ (x : Word). is_shallow [] (x ++ h.letter.token ∷ []) ≡ false) same (deep [] h.word h.letter.token (omega (arith, at_letter.0, h.high))) in
        subst (λ (x : Word). StopsWith text e is x) (sym h.next) (at_next e (raw c.word) (raw c.missing) h.letter.token h.behind (front_at h) (at_deep e (raw c.word) h.letter.token h.behind (front_at h) over) shallow
        (subst (λ (x : Word). Made (start_of last x) (raw c.missing)) h.next made) reads_on)
      where
        front_at : (h : TooHigh C forms (at library_names (ItemsOf false)) 0 c_limits text rest) → text ≡ raw c.word ++ (h.letter.token ∷ h.behind)
        front_at h = c.front ∙ ap (λ (x : Word). raw c.word ++ x) h.next

    by_number : TooMany C forms (at library_names (ItemsOf false)) 0 c_limits text rest → StopsWith text e is rest
    by_number m =
        let at_letter = counted_at [] m.word m.letter m.missing (counted_items library_names (m.word ++ m.letter ∷ m.missing) m.value m.begins) in absurd (omega (arith, at_letter.1, m.many))

    by_fault : (f : Fault ⊥) → Breaks C forms (at library_names (ItemsOf false)) 0 c_limits text f rest → StopsWith text e is rest
    by_fault Syntax b = by_syntax b
    by_fault (LeftOut l) b = absurd l
    by_fault Nesting b = by_level b
    by_fault Number b = by_number b

-- ---- the law

abbrev items_reader : Word → Outcome ⊥ Token (List Item)
items_reader text = c_reader c_limits (at library_names (ItemsOf false)) 0 text

answered : (text : Word) (o : Outcome ⊥ Token (List Item)) → items_reader text ≡ o → Answers C forms (at library_names (ItemsOf false)) 0 c_limits text o
answered text o e = subst (λ (o : Outcome ⊥ Token (List Item)). Answers C forms (at library_names (ItemsOf false)) 0 c_limits text o) e (reads_exactly (at library_names (ItemsOf false)) 0 c_limits text)

by_state : (e : Ending) (last : ℕ) → end_of e ≤ last → (text : Word) (is : List Item) (s : State Token)
    → MendsTo C forms (at library_names (ItemsOf false)) 0 c_limits items_reader (IsBehind last) text is s → GivesItems text e is s
by_state e last le text is (Going []) m = read_some text is e [] (answered text (Ok (is, [])) m)
by_state e last le text is (Going (t ∷ ts)) m = read_some text is e (t ∷ ts) (answered text (Ok (is, t ∷ ts)) m)
by_state e last le text is (Stopped rest) m = by_fault text is e last le rest m m.fault (answered text (Err (m.fault, rest)) m.stops)

by_mended : (e : Ending) (last : ℕ) → end_of e ≤ last → (text : Word) (o : Mended Token (List Item))
    → Mends C forms (at library_names (ItemsOf false)) 0 c_limits items_reader (IsBehind last) text o → Completes text e o
by_mended e last le text None m = m
by_mended e last le text (Some x) m = by_state e last le text x.0 x.1 m

pub fronts_are_completed : FrontsAreCompleted
fronts_are_completed e last le text =
    by_mended e last le text (c_mender last c_limits (at library_names (ItemsOf false)) 0 (Going text)) (texts_are_mended last (at library_names (ItemsOf false)) 0 c_limits text)
