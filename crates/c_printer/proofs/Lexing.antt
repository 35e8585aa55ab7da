-- The tokens of what is written.
use Rattle.std.proofs.Common.{◌≡◌, ◌∙◌, refl, sym, ap, subst, ℕ, zero, suc, ◌+◌, ◌<◌, Bool, true, false, cond, ◌||◌, ◌==◌, List, [], ◌∷◌, ◌++◌, length, drop, get_or, append_assoc, append-nil, Option, Some, None, length-append, arith}
use Rattle.std.proofs.lemmas.Bool.{ne_eqb}
use Rattle.c_lexer.specs.declared.bytes.Class.TheVariants as class
use Rattle.c_lexer.specs.declared.token.TokenKind.{TokenKind}
use Rattle.c_lexer.specs.declared.token.TokenKind.TheVariants as k
use Rattle.c_lexer.specs.Bytes.{is_space, run}
use Rattle.c_lexer.specs.Apart.{needs_space, has_line_feed}
use Rattle.c_lexer.specs.Laws.{Blanks, none, space, Covers, last, next}
use Rattle.c_lexer.specs.Spelling.{keyword_spelling, constant_spelling, sign_spelling}
use Rattle.c_lexer.specs.Tokens.{Left, Lexeme, Tokens, all_of}
use Rattle.c_lexer.specs.declared.token.BadToken.{BadToken}
use Rattle.c_lexer.specs.Words.{word_kind}
use Rattle.c_lexer.specs.Written.{IsWord, IsToken}
use Rattle.c_lexer.specs.Written as written
use Rattle.c_lexer.proofs.ApartLemmas.{apart}
use Rattle.c_lexer.proofs.ListLemmas.{first_of, run_append}
use Rattle.c_printer.specs.Marks.{Mark, Marks, Name, AKeyword, AConstant, Number, Chars, Character, ASign, Space, Line, put_mark, put_marks}
use Rattle.c_printer.specs.Put.{spelled_number, spelled_text, spelled_character}
use Rattle.c_printer.specs.Text.{Text, empty, gap, with_token, with_white, spaces, new_line}
use Rattle.c_printer.specs.Writable.{AreWritable, lexeme, lexemes}
use Rattle.c_lexer.proofs.SpellingLemmas.{keyword_token, constant_token, sign_token}
use Rattle.c_printer.proofs.PutLemmas.{number_token, text_token, character_token}
use Rattle.c_printer.proofs.SaysLemmas.{line_feed, line_feeds, quiet, quiet_zero, quiet_space, or_false}

-- 1. Bytes

-- the bytes that a mark adds
abbrev added : Text → Mark → List ℕ
added t Space = 32 ∷ []
added t (Line n) = new_line n
added t (Name w) = gap t.last w ++ w
added t (AKeyword w) = gap t.last (keyword_spelling w) ++ keyword_spelling w
added t (AConstant c) = gap t.last (constant_spelling c) ++ constant_spelling c
added t (Number n y) = gap t.last (spelled_number n y) ++ spelled_number n y
added t (Chars z) = gap t.last (spelled_text z) ++ spelled_text z
added t (Character b) = gap t.last (spelled_character b) ++ spelled_character b
added t (ASign s) = gap t.last (sign_spelling s) ++ sign_spelling s

abbrev behind : Text → Marks → List ℕ
behind t [] = []
behind t (m ∷ ms) = added t m ++ behind (put_mark t m) ms

one_added : (t : Text) (m : Mark) → (put_mark t m).bytes ≡ t.bytes ++ added t m
one_added t Space = refl
one_added t (Line n) = refl
one_added t (Name w) = append_assoc t.bytes (gap t.last w) w
one_added t (AKeyword w) = append_assoc t.bytes (gap t.last (keyword_spelling w)) (keyword_spelling w)
one_added t (AConstant c) = append_assoc t.bytes (gap t.last (constant_spelling c)) (constant_spelling c)
one_added t (Number n y) = append_assoc t.bytes (gap t.last (spelled_number n y)) (spelled_number n y)
one_added t (Chars z) = append_assoc t.bytes (gap t.last (spelled_text z)) (spelled_text z)
one_added t (Character b) = append_assoc t.bytes (gap t.last (spelled_character b)) (spelled_character b)
one_added t (ASign s) = append_assoc t.bytes (gap t.last (sign_spelling s)) (sign_spelling s)

all_added : (t : Text) (ms : Marks) → (put_marks t ms).bytes ≡ t.bytes ++ behind t ms
all_added t [] = sym (append-nil t.bytes)
all_added t (m ∷ ms) = all_added (put_mark t m) ms ∙ ap (λ z. z ++ behind (put_mark t m) ms) (one_added t m) ∙ append_assoc t.bytes (added t m) (behind (put_mark t m) ms)

-- 2. What stands behind a token

no_space_needed : (l w z : List ℕ) → 0 < length w → needs_space l (get_or ((gap (Some l) w ++ w) ++ z) 0 0) ≡ false
no_space_needed l w z some = by_need (needs_space l (get_or w 0 0)) refl
  where
    by_need : (n : Bool) → needs_space l (get_or w 0 0) ≡ n → needs_space l (get_or ((cond n (32 ∷ []) [] ++ w) ++ z) 0 0) ≡ false
    by_need true e = quiet l 32 (quiet_space 32 refl)
    by_need false e = ap (needs_space l) (first_of w z 0 some) ∙ e

some_token : (w : List ℕ) (kind : TokenKind) → IsToken w kind → 0 < length w
some_token w kind i = (apart w [] kind i (quiet w 0 quiet_zero)).some

token_follows : (l : List ℕ) (t : Text) → t.last ≡ Some l → (w z : List ℕ) (kind : TokenKind) → IsToken w kind → needs_space l (get_or ((gap t.last w ++ w) ++ z) 0 0) ≡ false
token_follows l t e w z kind i = subst (λ o. needs_space l (get_or ((gap o w ++ w) ++ z) 0 0) ≡ false) (sym e) (no_space_needed l w z (some_token w kind i))

pub name_token : (w : List ℕ) → IsWord w × (word_kind w ≡ k.Identifier) → IsToken w k.Identifier
name_token w h = subst (IsToken w) h.1 (written.word w h.0)

follows : (l : List ℕ) (t : Text) → t.last ≡ Some l → (ms : Marks) → AreWritable ms → needs_space l (get_or (behind t ms) 0 0) ≡ false
follows l t e [] h = quiet l 0 quiet_zero
follows l t e (Space ∷ ms) h = quiet l 32 (quiet_space 32 refl)
follows l t e (Line n ∷ ms) h = quiet l 10 (quiet_space 10 refl)
follows l t e (Name w ∷ ms) h = token_follows l t e w (behind (put_mark t (Name w)) ms) k.Identifier (name_token w h.0)
follows l t e (AKeyword w ∷ ms) h = token_follows l t e (keyword_spelling w) (behind (put_mark t (AKeyword w)) ms) (k.Keyword w) (keyword_token w)
follows l t e (AConstant c ∷ ms) h = token_follows l t e (constant_spelling c) (behind (put_mark t (AConstant c)) ms) (k.Constant c) (constant_token c)
follows l t e (Number n y ∷ ms) h = token_follows l t e (spelled_number n y) (behind (put_mark t (Number n y)) ms) (k.Number n y) (number_token n y h.0)
follows l t e (Chars z ∷ ms) h = token_follows l t e (spelled_text z) (behind (put_mark t (Chars z)) ms) k.Text (text_token z h.0)
follows l t e (Character b ∷ ms) h = token_follows l t e (spelled_character b) (behind (put_mark t (Character b)) ms) (k.Character b) (character_token b h.0)
follows l t e (ASign s ∷ ms) h = token_follows l t e (sign_spelling s) (behind (put_mark t (ASign s)) ms) (k.Sign s) (sign_token s)

-- 3. White space

record IsWhite (w : List ℕ) : Type 0 where
  all : run class.Space w ≡ length w

white_both : (w g : List ℕ) → IsWhite w → IsWhite g → IsWhite (w ++ g)
white_both w g h i = record {
  all =
      let counted : run class.Space (w ++ g) ≡ length w + run class.Space g = run_append class.Space w g h.all in
      let other : run class.Space g ≡ length g = i.all in
      let len : length (w ++ g) ≡ length w + length g = length-append w g in
      omega arith;
}

white_spaces : (n : ℕ) → IsWhite (spaces n)
white_spaces zero = record { all = refl }
white_spaces (suc n) = record { all = ap suc (white_spaces n).all }

white_line : (n : ℕ) → IsWhite (new_line n)
white_line n = record { all = ap suc (white_spaces n).all }

white_gap : (o : Option (List ℕ)) (w : List ℕ) → IsWhite (gap o w) × (has_line_feed (gap o w) ≡ false)
white_gap None w = (record { all = refl }, refl)
white_gap (Some l) w = by_need (needs_space l (get_or w 0 0))
  where
    by_need : (n : Bool) → IsWhite (cond n (32 ∷ []) []) × (has_line_feed (cond n (32 ∷ []) []) ≡ false)
    by_need true = (record { all = refl }, refl)
    by_need false = (record { all = refl }, refl)

blank : (w rest : List ℕ) → run class.Space w ≡ length w → Blanks (has_line_feed w) w rest
blank [] rest h = none
blank (b ∷ w) rest given = go (is_space b) refl (λ h. blank w rest h) given
  where
    go : (t : Bool) → is_space b ≡ t → (run class.Space w ≡ length w → Blanks (has_line_feed w) w rest) → cond t (suc (run class.Space w)) 0 ≡ suc (length w) → Blanks (has_line_feed (b ∷ w)) (b ∷ w) rest
    go true e more h = subst (λ t. Blanks t (b ∷ w) rest) (sym (line_feed b w)) (space b e (more (omega arith)))
    go false e more h = absurd (omega arith)

or_assoc : (a b c : Bool) → (a || b || c) ≡ (a || (b || c))
or_assoc true b c = refl
or_assoc false b c = refl

-- 4. Tokens

-- behind a place, and white space from there on
record Behind (at : ℕ) (w : List ℕ) (t : Text) (first : Bool) : Type 0 where
  length_is : length t.bytes ≡ at + length w
  white : IsWhite w
  first_is : ((at == 0) || has_line_feed w) ≡ first

with_blank : (at : ℕ) (w g : List ℕ) (t : Text) (first next_first : Bool) → Behind at w t first → IsWhite g → (first || has_line_feed g) ≡ next_first → Behind at (w ++ g) (with_white t g) next_first
with_blank at w g t first next_first b h e = record {
  length_is =
      let len : length (t.bytes ++ g) ≡ length t.bytes + length g = length-append t.bytes g in
      let both : length (w ++ g) ≡ length w + length g = length-append w g in
      let is : length t.bytes ≡ at + length w = b.length_is in
      omega arith;
  white = white_both w g b.white h;
  first_is = ap (λ x. at == 0 || x) (line_feeds w g) ∙ sym (or_assoc (at == 0) (has_line_feed w) (has_line_feed g)) ∙ ap (λ x. x || has_line_feed g) b.first_is ∙ e;
}

token_covers : (at : ℕ) (w : List ℕ) (t : Text) (first : Bool) (text : List ℕ) (kind : TokenKind) → IsToken text kind → Behind at w t first → (rest : List ℕ) → needs_space text (get_or rest 0 0) ≡ false → (ts : List Lexeme)
    → Covers (length (t.bytes ++ gap t.last text) + length text) rest ts None → Covers at (w ++ ((gap t.last text ++ text) ++ rest)) (lexeme t first text kind ∷ ts) None
token_covers at w t first text kind i b rest n ts more =
    let (h, no_feed) = white_gap t.last text in
    let white : IsWhite (w ++ gap t.last text) = white_both w (gap t.last text) b.white h in
    let both : length (w ++ gap t.last text) ≡ length w + length (gap t.last text) = length-append w (gap t.last text) in
    let len : length (t.bytes ++ gap t.last text) ≡ length t.bytes + length (gap t.last text) = length-append t.bytes (gap t.last text) in
    let is : length t.bytes ≡ at + length w = b.length_is in
    subst (λ z. Covers at z (lexeme t first text kind ∷ ts) None) (ap (λ x. x ++ rest) (append_assoc w (gap t.last text) text) ∙ append_assoc w (gap t.last text ++ text) rest)
    (next (w ++ gap t.last text) rest (lexeme t first text kind) (blank (w ++ gap t.last text) (text ++ rest) white.all) (apart text rest kind i n) (omega arith) refl
    (sym b.first_is ∙ ap (λ x. at == 0 || x) (sym (line_feeds w (gap t.last text) ∙ ap (λ x. has_line_feed w || x) no_feed ∙ or_false (has_line_feed w)))) more)

behind_token : (t : Text) (text : List ℕ) (kind : TokenKind) → IsToken text kind → Behind (length (t.bytes ++ gap t.last text) + length text) [] (with_token t text) false
behind_token t text kind i = record {
  length_is = let len : length ((t.bytes ++ gap t.last text) ++ text) ≡ length (t.bytes ++ gap t.last text) + length text = length-append (t.bytes ++ gap t.last text) text in omega arith;
  white = record { all = refl };
  first_is = or_false (length (t.bytes ++ gap t.last text) + length text == 0)
      ∙ ne_eqb (length (t.bytes ++ gap t.last text) + length text) 0 (λ (f : length (t.bytes ++ gap t.last text) + length text ≡ 0). let some : 0 < length text = some_token text kind i in absurd (omega arith));
}

or_true : (a : Bool) → (a || true) ≡ true
or_true true = refl
or_true false = refl

covers : (at : ℕ) (w : List ℕ) (t : Text) (first : Bool) (ms : Marks) → AreWritable ms → Behind at w t first → Covers at (w ++ behind t ms) (lexemes t first ms) None
covers at w t first [] h b = subst (λ z. Covers at z [] None) (sym (append-nil w)) (last w (blank w [] b.white.all))
covers at w t first (Space ∷ ms) h b = subst (λ z. Covers at z (lexemes t first (Space ∷ ms)) None) (append_assoc w (32 ∷ []) (behind (put_mark t Space) ms))
    (covers at (w ++ 32 ∷ []) (put_mark t Space) first ms h.1 (with_blank at w (32 ∷ []) t first first b (record { all = refl }) (or_false first)))
covers at w t first (Line n ∷ ms) h b = subst (λ z. Covers at z (lexemes t first (Line n ∷ ms)) None) (append_assoc w (new_line n) (behind (put_mark t (Line n)) ms))
    (covers at (w ++ new_line n) (put_mark t (Line n)) true ms h.1 (with_blank at w (new_line n) t first true b (white_line n) (ap (λ x. first || x) (line_feed 10 (spaces n)) ∙ or_true first)))
covers at w t first (Name x ∷ ms) h b = token_covers at w t first x k.Identifier (name_token x h.0) b (behind (put_mark t (Name x)) ms) (follows x (put_mark t (Name x)) refl ms h.1) (lexemes (put_mark t (Name x)) false ms)
    (covers (length (t.bytes ++ gap t.last x) + length x) [] (put_mark t (Name x)) false ms h.1 (behind_token t x k.Identifier (name_token x h.0)))
covers at w t first (AKeyword x ∷ ms) h b = token_covers at w t first (keyword_spelling x) (k.Keyword x) (keyword_token x) b (behind (put_mark t (AKeyword x)) ms) (follows (keyword_spelling x) (put_mark t (AKeyword x)) refl ms h.1) (lexemes (put_mark t (AKeyword x)) false ms)
    (covers (length (t.bytes ++ gap t.last (keyword_spelling x)) + length (keyword_spelling x)) [] (put_mark t (AKeyword x)) false ms h.1 (behind_token t (keyword_spelling x) (k.Keyword x) (keyword_token x)))
covers at w t first (AConstant x ∷ ms) h b = token_covers at w t first (constant_spelling x) (k.Constant x) (constant_token x) b (behind (put_mark t (AConstant x)) ms) (follows (constant_spelling x) (put_mark t (AConstant x)) refl ms h.1) (lexemes (put_mark t (AConstant x)) false ms)
    (covers (length (t.bytes ++ gap t.last (constant_spelling x)) + length (constant_spelling x)) [] (put_mark t (AConstant x)) false ms h.1 (behind_token t (constant_spelling x) (k.Constant x) (constant_token x)))
covers at w t first (Number n y ∷ ms) h b = token_covers at w t first (spelled_number n y) (k.Number n y) (number_token n y h.0) b (behind (put_mark t (Number n y)) ms) (follows (spelled_number n y) (put_mark t (Number n y)) refl ms h.1) (lexemes (put_mark t (Number n y)) false ms)
    (covers (length (t.bytes ++ gap t.last (spelled_number n y)) + length (spelled_number n y)) [] (put_mark t (Number n y)) false ms h.1 (behind_token t (spelled_number n y) (k.Number n y) (number_token n y h.0)))
covers at w t first (Chars x ∷ ms) h b = token_covers at w t first (spelled_text x) k.Text (text_token x h.0) b (behind (put_mark t (Chars x)) ms) (follows (spelled_text x) (put_mark t (Chars x)) refl ms h.1) (lexemes (put_mark t (Chars x)) false ms)
    (covers (length (t.bytes ++ gap t.last (spelled_text x)) + length (spelled_text x)) [] (put_mark t (Chars x)) false ms h.1 (behind_token t (spelled_text x) k.Text (text_token x h.0)))
covers at w t first (Character x ∷ ms) h b = token_covers at w t first (spelled_character x) (k.Character x) (character_token x h.0) b (behind (put_mark t (Character x)) ms) (follows (spelled_character x) (put_mark t (Character x)) refl ms h.1) (lexemes (put_mark t (Character x)) false ms)
    (covers (length (t.bytes ++ gap t.last (spelled_character x)) + length (spelled_character x)) [] (put_mark t (Character x)) false ms h.1 (behind_token t (spelled_character x) (k.Character x) (character_token x h.0)))
covers at w t first (ASign x ∷ ms) h b = token_covers at w t first (sign_spelling x) (k.Sign x) (sign_token x) b (behind (put_mark t (ASign x)) ms) (follows (sign_spelling x) (put_mark t (ASign x)) refl ms h.1) (lexemes (put_mark t (ASign x)) false ms)
    (covers (length (t.bytes ++ gap t.last (sign_spelling x)) + length (sign_spelling x)) [] (put_mark t (ASign x)) false ms h.1 (behind_token t (sign_spelling x) (k.Sign x) (sign_token x)))

-- what covers bytes are their tokens
abbrev pub OnlyCovers : Type 0
OnlyCovers = (l : Left) (ts : List Lexeme) (o : Option BadToken) → Covers l.at (drop l.at l.bytes) ts o → Tokens l ts o

pub tokens_of : OnlyCovers → (ms : Marks) → AreWritable ms → Tokens (all_of (put_marks empty ms).bytes) (lexemes empty true ms) None
tokens_of only ms h = only (all_of (put_marks empty ms).bytes) (lexemes empty true ms) None
    (subst (λ z. Covers 0 z (lexemes empty true ms) None) (sym (all_added empty ms)) (covers 0 [] empty true ms h (record { length_is = refl; white = record { all = refl }; first_is = refl })))
