-- What is read of a text, by where the reader is behind its items.
use Rattle.std.proofs.Common.{◌≡◌, ℕ, ◌<◌, ◌≤◌, Bool, true, false, if◌then◌else◌, List, [], ◌∷◌, ◌++◌, length, Option, Some, None, refl}
use Rattle.std.proofs.Common.{sym, ap, subst, ◌∙◌, arith}
use Rattle.std.proofs.lemmas.Bool.{lt-ltb, le-ltb}
use Rattle.mending_readers.specs.Mending.{Going, Mended}
use Rattle.c_lexer.specs.declared.token.BadToken.{BadToken}
use Rattle.c_lexer.specs.Tokens.{all_of}
use Rattle.c_tree.specs.declared.kinds.Fault.{Fault}
use Rattle.c_tree.specs.declared.unit.Item.{Item}
use Rattle.c_tree.specs.Names.{library_names}
use Rattle.c_tree.specs.Words.{Token, Word, words, start_of}
use Rattle.c_tree.specs.Answers.{Ending, Whole, Broken, last_start, ending, syntax_at}
use Rattle.c_grammar.specs.Fronts.{StopsWith, GivesItems, Completes, fault_at, end_of}
use Rattle.c_grammar.specs.Laws.{c_limits}
use Rattle.c_grammar.specs.Mending.{c_mender}
use Rattle.c_grammar.specs.Parts.{at, ItemsOf}
use Rattle.c_grammar.proofs.Fronts.{fronts_are_completed}
use Rattle.c_parser.specs.declared.unit.Stop.{Stop}
use Rattle.c_cursor.specs.declared.parser.Parser.{Parser}
use Rattle.c_cursor.specs.Gives.{reads, state, state_at}
use Rattle.c_cursor.specs.Scopes.{names_of}
use Rattle.c_parser.specs.Ordered.{InOrder}
use Rattle.c_parser.specs.Parsing.{StopsAt, ReadsTo, Parses, StopIs, stop_fault, last_before}
use Rattle.c_cursor.specs.Reading.{read}
use Rattle.c_cursor.specs.Rest.{tokens_of, bad_of}
use Rattle.c_cursor.specs.State.{bad, rest}
use Rattle.c_cursor.proofs.Left.{all_tokens}
use Rattle.c_parser.proofs.TokenOrder.{in_order, in_bytes}

-- 1. The last token in front of a place

-- behind the word no token starts in front of the place
none_before : (d place n : ℕ) (rest : Word) → place ≡ start_of n rest → last_before d place rest ≡ d
none_before d place n [] e = refl
none_before d place n (t ∷ w) e = ap (λ b. if b then last_before t.start place w else d) (le-ltb t.start place (omega (arith, e)))

-- the last token of a word in order, behind one that starts there
abbrev last_or : ℕ → Word → ℕ
last_or d [] = d
last_or d (t ∷ w) = last_start (t ∷ w)

front_last : (d place n : ℕ) (w rest : Word) → InOrder place w → place ≡ start_of n rest → last_before d place (w ++ rest) ≡ last_or d w
front_last d place n [] rest o e = none_before d place n rest e
front_last d place n (t ∷ []) rest o e =
    ap (λ b. if b then last_before t.start place rest else d) (lt-ltb t.start place (omega (arith, o.0, o.1))) ∙ none_before t.start place n rest e
front_last d place n (t ∷ s ∷ w) rest o e =
    ap (λ b. if b then last_before t.start place (s ∷ w ++ rest) else d) (lt-ltb t.start place (before t s w o)) ∙ front_last t.start place n (s ∷ w) rest o.2 e
  where
    starts : (s : Token) (w : Word) → InOrder place (s ∷ w) → s.start < place
    starts s [] o = omega (arith, o.0, o.1)
    starts s (r ∷ w) o = let h = starts r w o.2 in omega (arith, o.0, o.1, h)

    before : (t s : Token) (w : Word) → InOrder place (t ∷ s ∷ w) → t.start < place
    before t s w o = let h = starts s w o.2 in omega (arith, o.0, o.1, h)

last_is : (w : Word) → last_or 0 w ≡ last_start w
last_is [] = refl
last_is (t ∷ w) = refl

-- 2. Where the reader stops

module _ (text : Word) (e : Ending) (order : (front rest : Word) → text ≡ front ++ rest → InOrder (start_of (end_of e) rest) front) where
  stops_at : (is : List Item) (rest : Word) (s : Stop) (f : Fault) → f ≡ fault_at rest e → f.place ≡ start_of (end_of e) rest → (s.fault ≡ f)
      × (s.last ≡ last_before 0 f.place text) → StopsWith text e is rest → StopsAt text e is s
  stops_at is rest s f same place h w = record {
    rest = rest;
    stops = w;
    fault = h.0 ∙ same;
    last = h.1 ∙ ap (λ (u : Word). last_before 0 f.place u) w.front
        ∙ front_last 0 f.place (end_of e) w.word rest (subst (λ (n : ℕ). InOrder n w.word) (sym place) (order w.word rest w.front)) place ∙ last_is w.word;
  }

place_at : (rest : Word) (e : Ending) → (fault_at rest e).place ≡ start_of (end_of e) rest
place_at (t ∷ ts) e = refl
place_at [] (Whole n) = refl
place_at [] (Broken n) = refl

-- what is read, by whether the reader has stopped, and what is left
reads_to : (bytes : List ℕ) (text : Word) (bad : Option BadToken) (order : (front rest : Word) → text ≡ front ++ rest
    → InOrder (start_of (end_of (ending bytes bad)) rest) front)
    → (is : List Item) (stopped : Bool) (w : Word) (o : Option Stop) → GivesItems text (ending bytes bad) is (state_at stopped w)
    → StopIs text o (stop_fault (length bytes) stopped w bad) → ReadsTo text (ending bytes bad) is o
reads_to bytes text None order is false [] None g h = g
reads_to bytes text None order is false [] (Some s) g h = absurd h
reads_to bytes text None order is true [] (Some s) g h = stops_at text (Whole (length bytes)) order is [] s (syntax_at (length bytes)) refl refl h g
reads_to bytes text None order is true [] None g h = absurd h
reads_to bytes text (Some b) order is false [] (Some s) g h = stops_at text (Broken b.at) order is [] s (fault_at [] (Broken b.at)) refl refl h g
reads_to bytes text (Some b) order is true [] (Some s) g h = stops_at text (Broken b.at) order is [] s (fault_at [] (Broken b.at)) refl refl h g
reads_to bytes text (Some b) order is false [] None g h = absurd h
reads_to bytes text (Some b) order is true [] None g h = absurd h
reads_to bytes text None order is false (t ∷ ts) (Some s) g h = stops_at text (Whole (length bytes)) order is (t ∷ ts) s (syntax_at t.start) refl refl h g
reads_to bytes text None order is true (t ∷ ts) (Some s) g h = stops_at text (Whole (length bytes)) order is (t ∷ ts) s (syntax_at t.start) refl refl h g
reads_to bytes text (Some b) order is false (t ∷ ts) (Some s) g h = stops_at text (Broken b.at) order is (t ∷ ts) s (syntax_at t.start) refl refl h g
reads_to bytes text (Some b) order is true (t ∷ ts) (Some s) g h = stops_at text (Broken b.at) order is (t ∷ ts) s (syntax_at t.start) refl refl h g
reads_to bytes text bad order is stopped (t ∷ ts) None g h = absurd h

-- THE ITEMS of a text and its stop are those of the contract
pub parsed : (bytes : List ℕ) (is : List Item) (stopped : Bool) (w : Word) (o : Option Stop)
    → c_mender (length bytes) c_limits (at library_names (ItemsOf false)) 0 (Going (words (tokens_of (all_of bytes)))) ≡ Some (is, state_at stopped w)
    → StopIs (words (tokens_of (all_of bytes))) o (stop_fault (length bytes) stopped w (bad_of (all_of bytes))) → Parses bytes is o
parsed bytes is stopped w o read stop =
    let lexed = all_tokens (all_of bytes) in
    let text : Word = words (tokens_of (all_of bytes)) in
    let e : Ending = ending bytes (bad_of (all_of bytes)) in
    record {
      tokens = tokens_of (all_of bytes);
      bad = bad_of (all_of bytes);
      lexed = lexed;
      reads = reads_to bytes text (bad_of (all_of bytes)) (in_order bytes (tokens_of (all_of bytes)) (bad_of (all_of bytes)) lexed) is stopped w o
          (subst (λ (m : Mended Token (List Item)). Completes text e m) read
          (fronts_are_completed e (length bytes) (in_bytes bytes (tokens_of (all_of bytes)) (bad_of (all_of bytes)) lexed) text)) stop;
    }

-- 3. What the functions of the code need

-- the items and the stop, by the reader in front of them and behind them
pub parsed_by : (bytes : List ℕ) (p q : Parser) (is : List Item) (o : Option Stop) → state p ≡ Going (words (tokens_of (all_of bytes)))
    → names_of p.names ≡ library_names → p.end ≡ length bytes → bad p.cursor ≡ bad_of (all_of bytes)
    → reads (ItemsOf false) 0 p ≡ Some (is, state q) → q.end ≡ p.end → bad q.cursor ≡ bad p.cursor
    → StopIs (words (tokens_of (all_of bytes))) o (stop_fault q.end q.is_stopped (rest q.cursor) (bad q.cursor)) → Parses bytes is o
unfolding read
parsed_by bytes p q is o begins scope ends stop h ends' stop' is_stop =
    parsed bytes is q.is_stopped (rest q.cursor) o (sym (first_read ∙ second_read ∙ third_read) ∙ h) by_all
  where
    first_read : reads (ItemsOf false) 0 p ≡ read (length bytes) (names_of p.names) (ItemsOf false) 0 (state p)
    first_read = ap (λ m. read m (names_of p.names) (ItemsOf false) 0 (state p)) ends

    second_read : read (length bytes) (names_of p.names) (ItemsOf false) 0 (state p) ≡ read (length bytes) library_names (ItemsOf false) 0 (state p)
    second_read = ap (λ ns. read (length bytes) ns (ItemsOf false) 0 (state p)) scope

    third_read : read (length bytes) library_names (ItemsOf false) 0 (state p)
        ≡ read (length bytes) library_names (ItemsOf false) 0 (Going (words (tokens_of (all_of bytes))))
    third_read = ap (λ s. read (length bytes) library_names (ItemsOf false) 0 s) begins

    by_end : StopIs (words (tokens_of (all_of bytes))) o (stop_fault (length bytes) q.is_stopped (rest q.cursor) (bad q.cursor))
    by_end = subst (λ (n : ℕ). StopIs (words (tokens_of (all_of bytes))) o (stop_fault n q.is_stopped (rest q.cursor) (bad q.cursor))) (ends' ∙ ends) is_stop

    by_all : StopIs (words (tokens_of (all_of bytes))) o (stop_fault (length bytes) q.is_stopped (rest q.cursor) (bad_of (all_of bytes)))
    by_all = subst (λ (b : Option BadToken). StopIs (words (tokens_of (all_of bytes))) o (stop_fault (length bytes) q.is_stopped (rest q.cursor) b))
        (stop' ∙ stop) by_end

-- where the last token in front of a place begins, by the next token
pub last_high : (n place : ℕ) (w : Word) (t : Token) → place ≤ t.start → last_before n place (t ∷ w) ≡ n
last_high n place w t h = ap (λ b. if b then last_before t.start place w else n) (le-ltb t.start place h)

pub last_low : (n place : ℕ) (w : Word) (t : Token) → t.start < place → last_before n place (t ∷ w) ≡ last_before t.start place w
last_low n place w t h = ap (λ b. if b then last_before t.start place w else n) (lt-ltb t.start place h)

pub ruleset last_laws = (last_high, last_low)
