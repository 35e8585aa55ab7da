-- The reader of the grammar stops where a text does.
use Rattle.std.proofs.Common.{◌≡◌, ◌∙◌, refl, sym, ap, subst, ◌≤◌, Bool, true, false, List, [], ◌∷◌, ◌++◌, append_assoc, append-nil, None, Ok, Err, arith}
use Rattle.predictive_grammar.specs.Follows.{Letter, raw, Reads}
use Rattle.predictive_grammar.specs.Follows as letters
use Rattle.predictive_grammar.specs.Steps.{Fault, Syntax, LeftOut, Nesting, Number, Outcome}
use Rattle.predictive_grammar.specs.Exact.{IsWithin, IsText, Found, NoText, TooHigh, Breaks, Answers}
use Rattle.predictive_grammar.proofs.Words.{raw-append, within-back}
use Rattle.c_tree.specs.declared.unit.Item.{Item}
use Rattle.c_tree.specs.Words.{Token, Word, is_shallow}
use Rattle.c_tree.specs.Names.{library_names}
use Rattle.c_tree.specs.Items.{ReadsUnit}
use Rattle.c_tree.specs.Answers.{GoNoFurther, Whole}
use Rattle.c_tree.specs.Answers as answer
use Rattle.c_grammar.specs.Parts.{Part, at, ItemsOf}
use Rattle.c_grammar.specs.Grammar.{C, forms}
use Rattle.c_grammar.specs.Laws.{c_reader, c_limits}
use Rattle.c_grammar.proofs.Joined.{items_are_told, reads_exactly}
use Rattle.c_grammar.proofs.Levels.{fronts_are_counted, none_begins_items}
use Rattle.c_fronts.specs.Stops.{StopsBefore, ReadOrStopped, ReaderStopsWhereTextsDo}

abbrev items : Part
items = at library_names (ItemsOf false)

-- letters whose first tokens are these
record Split (u : letters.Word C) (x : Word) : Type 0 where
  front : letters.Word C
  rest : letters.Word C
  whole : u ≡ front ++ rest
  same : raw front ≡ x

split : (u : letters.Word C) (x y : Word) → raw u ≡ x ++ y → Split u x
split u [] y e = record { front = []; rest = u; whole = refl; same = refl }
split [] (t ∷ x) y e = absurd (differ e)
  where
    differ : [] ≡ t ∷ (x ++ y) → ⊥
    differ e = cc
split (l ∷ u) (t ∷ x) y e = one (split u x y (tail e))
  where
    head : l.token ∷ raw u ≡ t ∷ (x ++ y) → l.token ≡ t
    head e = cc

    tail : l.token ∷ raw u ≡ t ∷ (x ++ y) → raw u ≡ x ++ y
    tail e = cc

    one : Split u x → Split (l ∷ u) (t ∷ x)
    one s = record {
      front = l ∷ s.front;
      rest = s.rest;
      whole = ap (λ (z : letters.Word C). l ∷ z) s.whole;
      same =
          ap (λ (z : Word). l.token ∷ z) s.same ∙ ap (λ (z : Token). z ∷ x) (head e);
    }

-- where no text goes on with a token, no items do
no_items : (w : Word) (t : Token) → (Rattle.predictive_grammar.specs.Exact.BeginsText C forms items 0 None (w ++ t ∷ []) → ⊥) → GoNoFurther (w ++ t ∷ [])
no_items w t nay v is r =
    let d = (items_are_told library_names 0 ((w ++ t ∷ []) ++ v) is).1 r in
    let s = split d.0 (w ++ t ∷ []) v d.1 in
    nay (s.front, s.rest, is, s.same, subst (λ (z : letters.Word C). Reads C forms None items 0 z is) s.whole d.2)

one_on : (text w : Word) (t : Token) (r : Word) → w ++ t ∷ r ≡ (w ++ t ∷ []) ++ r
one_on text w t r = sym (append_assoc w (t ∷ []) r)

-- a token that is the first too deep
deep : (u : letters.Word C) (x : Letter Token) (z : letters.Word C) (is : List Item) → Reads C forms None items 0 (u ++ x ∷ z) is → 65 ≤ x.level
    → is_shallow [] (raw u ++ x.token ∷ []) ≡ false
deep u x z is d h = go (is_shallow [] (raw u ++ x.token ∷ [])) refl
  where
    parted : Reads C forms None items 0 ((u ++ x ∷ []) ++ z) is
    parted = subst (λ (y : letters.Word C). Reads C forms None items 0 y is) (sym (append_assoc u (x ∷ []) z)) d

    go : (b : Bool) → is_shallow [] (raw u ++ x.token ∷ []) ≡ b → is_shallow [] (raw u ++ x.token ∷ []) ≡ false
    go false e = e
    go true e =
        let within = (fronts_are_counted library_names (u ++ x ∷ []) z is parted).1 (ap (is_shallow []) (raw-append u (x ∷ [])) ∙ e) in
        let last = within-back c_limits u (x ∷ []) within in absurd (omega (arith, h, last.0))

no_number : (u : letters.Word C) (x : Letter Token) (z : letters.Word C) (is : List Item) → Reads C forms None items 0 (u ++ x ∷ z) is → 1 ≤ x.items → ⊥
no_number u x z is d h =
    let none = none_begins_items library_names u x z is (subst (λ (y : letters.Word C). Reads C forms None items 0 y is)
    (sym (append_assoc u (x ∷ []) z)) d) in absurd (omega (arith, h, none))

shallow : (u z : letters.Word C) (is : List Item) → Reads C forms None items 0 (u ++ z) is → IsWithin c_limits u → is_shallow [] (raw u) ≡ true
shallow u z is d i = (fronts_are_counted library_names u z is d).0 i

nothing_left : (text : Word) (is : List Item) → Found C forms items 0 c_limits text is [] → ReadsUnit text (record { items = is })
nothing_left text is f =
    let same : raw f.word ≡ text = sym (append-nil (raw f.word)) ∙ sym f.front in
    let d : Reads C forms None items 0 (f.word ++ []) is = subst (λ (u : letters.Word C). Reads C forms None items 0 u is) (sym (append-nil f.word)) f.reads in
    record {
      items = (items_are_told library_names 0 text is).0 (f.word, same, f.reads);
      shallow =
          subst (λ (w : Word). is_shallow [] w ≡ true) same (shallow f.word [] is d f.within);
    }

at_token : (text : Word) (u z : letters.Word C) (is : List Item) (t : Token) (r : Word) → text ≡ raw u ++ t ∷ r → IsWithin c_limits u
    → Reads C forms None items 0 (u ++ z) is
    → (Rattle.predictive_grammar.specs.Exact.BeginsText C forms items 0 None (raw u ++ t ∷ []) → ⊥) → StopsBefore text (t ∷ r)
at_token text u z is t r front within d nay = (raw u, front, shallow u z is d within, λ n. answer.at_token (Whole n) (raw u) t r front (no_items (raw u) t nay))

at_end : (text : Word) (u z : letters.Word C) (is : List Item) → text ≡ raw u ++ [] → IsWithin c_limits u → Reads C forms None items 0 (u ++ z) is
    → ((a : List Item) → IsText C forms items 0 (raw u) a → ⊥) → StopsBefore text []
at_end text u z is front within d whole =
    let same : raw u ≡ text = sym (append-nil (raw u)) ∙ sym front in (
      text,
      sym (append-nil text),
      subst (λ (w : Word). is_shallow [] w ≡ true) same (shallow u z is d within),
      λ n. answer.at_end n (λ a r. whole a (subst (λ (w : Word). IsText C forms items 0 w a) (sym same) ((items_are_told library_names 0 text a).1 r))),
    )

by_left : (text rest : Word) → NoText C forms items 0 c_limits text rest → StopsBefore text rest
by_left text [] f = at_end text f.word f.missing f.value f.front f.within f.begins f.whole
by_left text (t ∷ r) f = at_token text f.word f.missing f.value t r f.front f.within f.begins (f.furthest None)

by_level : (text rest : Word) → TooHigh C forms items 0 c_limits text rest → StopsBefore text rest
by_level text rest f =
    let front : text ≡ raw f.word ++ f.letter.token ∷ f.behind = f.front ∙ ap (λ (z : Word). raw f.word ++ z) f.next in
    subst (λ (z : Word). StopsBefore text z) (sym f.next) (
      raw f.word,
      front,
      shallow f.word (f.letter ∷ f.missing) f.value f.begins f.within,
      λ n. answer.at_deep (Whole n) (raw f.word) f.letter.token f.behind front (deep f.word f.letter f.missing f.value f.begins f.high),
    )

by_fault : (text rest : Word) (f : Fault ⊥) → Breaks C forms items 0 c_limits text f rest → StopsBefore text rest
by_fault text rest Syntax b = by_left text rest b
by_fault text rest (LeftOut e) b = absurd e
by_fault text rest Nesting b = by_level text rest b
by_fault text rest Number b = absurd (no_number b.word b.letter b.missing b.value b.begins b.many)

by_outcome : (text : Word) (o : Outcome ⊥ Token (List Item)) → Answers C forms items 0 c_limits text o → ReadOrStopped text o
by_outcome text (Ok (is, [])) f = nothing_left text is f
by_outcome text (Ok (is, t ∷ rest)) f =
    at_token text f.word [] is t rest f.front f.within (subst (λ (u : letters.Word C). Reads C forms None items 0 u is)
    (sym (append-nil f.word)) f.reads) (f.furthest None)
by_outcome text (Err (f, rest)) b = by_fault text rest f b

pub reader_stops_where_texts_do : ReaderStopsWhereTextsDo
reader_stops_where_texts_do text = by_outcome text (c_reader c_limits items 0 text) (reads_exactly items 0 c_limits text)
