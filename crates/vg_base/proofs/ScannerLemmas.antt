-- Reading a small text byte by byte gives the tokens that it has, and each text has one list of them.
use Rattle.std.proofs.Common.{◌≡◌, ℕ, ◌+◌, ◌<◌, ◌≤◌, Bool, true, false, cond, ◌||◌, ◌==◌, nat_lt, List, [], ◌∷◌, ◌++◌, length, drop, get_or, Option, Some, None, IsTrue, refl, sym, ap, subst, ◌∙◌, append_assoc, append-nil, ⊎_elim, option_and_then, slice_get, MatchOption, Result, Ok, Err, IfOk, Vec, Global}
use Rattle.vg_base.specs.declared.event.Memory.{Memory}
use Rattle.std.specs.Option.{option_map}
use Rattle.std.specs.List.{AllByRecursion}
use Rattle.std.proofs.lemmas.Bool.{eqb-true, cases_Bool, cond-false, eq-eqb, lt-ltb, le-ltb, cond_both, ltb-false}
use Rattle.std.proofs.lemmas.Option.{slice_get_within, get_or_from_slice_get, slice_get-get_or}
use Rattle.std.proofs.lemmas.List.{drop_more, drop_all}
use Rattle.vg_base.specs.World.{is_word_byte}
use Rattle.vg_base.specs.Small.{is_space, is_sign, is_plain, escape_of, include_line, Denotes, nothing, plain, escape, IsWord, EndsWord, Lexes, done, space, sign, word, quoted, include}
use Rattle.vg_base.specs.Scanner.{start_of, begin_as, begin, step, scan, finish, Next, has_byte, in_include}
use Rattle.vg_base.specs.declared.small.Token.{Token}
use Rattle.vg_base.specs.declared.small.Token.TheVariants as token
use Rattle.vg_base.specs.declared.scanner.Start.{Start}
use Rattle.vg_base.specs.declared.scanner.Start.TheVariants as start
use Rattle.vg_base.specs.declared.scanner.Mode.{Mode}
use Rattle.vg_base.specs.declared.scanner.Mode.TheVariants as mode

-- what holds where a test holds, and at one more number
or_at : (P : ℕ → Type 0) (b n : ℕ) (t : Bool) → (t ≡ true → P b) → P n → (t || b == n) ≡ true → P b
or_at P b n true earlier here h = earlier refl
or_at P b n false earlier here h = subst P (sym (eqb-true b n h)) here

first_at : (P : ℕ → Type 0) (b n : ℕ) → P n → (b == n) ≡ true → P b
first_at P b n here h = subst P (sym (eqb-true b n h)) here

start_word : (b : ℕ) → is_word_byte b ≡ true → start_of b ≡ start.Word
start_word b h = rw h

start_space : (b : ℕ) → is_space b ≡ true → start_of b ≡ start.Space
start_space b = let P : ℕ → Type 0 = λ n. start_of n ≡ start.Space in
    or_at P b 13 _ (or_at P b 12 _ (or_at P b 10 _ (or_at P b 9 _ (first_at P b 32 refl) refl) refl) refl) refl

start_sign : (b : ℕ) → is_sign b ≡ true → start_of b ≡ start.Sign
start_sign b = let P : ℕ → Type 0 = λ n. start_of n ≡ start.Sign in
    or_at P b 125 _ (or_at P b 123 _ (or_at P b 59 _ (or_at P b 44 _ (or_at P b 42 _ (or_at P b 41 _ (first_at P b 40 refl) refl) refl) refl) refl) refl) refl

-- one byte of the include line
pub include_goes_on : (n b : ℕ) (ended : List Token) → n < 18 → b ≡ get_or include_line n 0 → n + 1 < 18 → in_include n b ended ≡ Some (mode.Include (n + 1), ended)
include_goes_on n b ended h e more =
    let here : slice_get include_line n ≡ Some b = slice_get-get_or include_line n 0 h ∙ ap Some (sym e) in
    rw (here, eq-eqb b b refl, lt-ltb (n + 1) 18 more)

pub include_ends : (n b : ℕ) (ended : List Token) → n < 18 → b ≡ get_or include_line n 0 → 18 ≤ n + 1 → in_include n b ended ≡ Some (mode.Between, ended ++ token.Include ∷ [])
include_ends n b ended h e more =
    let here : slice_get include_line n ≡ Some b = slice_get-get_or include_line n 0 h ∙ ap Some (sym e) in
    rw (here, eq-eqb b b refl, le-ltb (n + 1) 18 more)

-- what stands behind a word goes on as behind its end
word_ends : (rest : List ℕ) (w : List ℕ) (ended : List Token) → EndsWord rest → scan rest (mode.Word w) ended ≡ scan rest mode.Between (ended ++ token.Word w ∷ [])
word_ends [] w ended e = refl
word_ends (b ∷ bs) w ended e = rw e

word_scan : (v w rest : List ℕ) (ended : List Token) → AllByRecursion (λ x. IsTrue (is_word_byte x)) v → EndsWord rest
    → scan (v ++ rest) (mode.Word w) ended ≡ scan rest mode.Between (ended ++ token.Word (w ++ v) ∷ [])
word_scan [] w rest ended h e = rw append-nil (word_ends rest w ended e)
word_scan (b ∷ v) w rest ended h e =
    let is_word : is_word_byte b ≡ true = h.0 in
    rw is_word (word_scan v (w ++ b ∷ []) rest ended h.1 e ∙ ap (λ x. scan rest mode.Between (ended ++ token.Word x ∷ [])) (append_assoc w (b ∷ []) v))

text_scan : (body denoted : List ℕ) → Denotes body denoted → (t rest : List ℕ) (ended : List Token)
    → scan (body ++ 34 ∷ rest) (mode.Text t) ended ≡ scan rest mode.Between (ended ++ token.Text (t ++ denoted) ∷ [])
text_scan _ _ nothing t rest ended = rw append-nil refl
text_scan _ _ (plain b {body} {bytes} p d) t rest ended =
    let is_plain_byte : is_plain b ≡ true = p in
    rw is_plain_byte (text_scan body bytes d (t ++ b ∷ []) rest ended ∙ ap (λ x. scan rest mode.Between (ended ++ token.Text x ∷ [])) (append_assoc t (b ∷ []) bytes))
text_scan _ _ (escape c b {body} {bytes} p d) t rest ended =
    rw p (text_scan body bytes d (t ++ b ∷ []) rest ended ∙ ap (λ x. scan rest mode.Between (ended ++ token.Text x ∷ [])) (append_assoc t (b ∷ []) bytes))

-- the tokens of a text are found
pub complete : (bytes : List ℕ) (ts : List Token) → Lexes bytes ts → (ended : List Token) → scan bytes mode.Between ended ≡ Some (ended ++ ts)
complete _ _ done ended = ap Some (sym (append-nil ended))
complete _ _ (space b {bytes} {ts} p l) ended = rw (start_space b p) (complete bytes ts l ended)
complete _ _ (sign b {bytes} {ts} p l) ended =
    rw (start_sign b p) (complete bytes ts l (ended ++ token.Sign b ∷ []) ∙ ap Some (append_assoc ended (token.Sign b ∷ []) ts))
complete _ _ (word [] {bytes} {ts} w e l) ended = absurd w
complete _ _ (word (b ∷ v) {bytes} {ts} w e l) ended =
    rw (start_word b w.0) (word_scan v (b ∷ []) bytes ended w.1 e ∙ complete bytes ts l (ended ++ token.Word (b ∷ v) ∷ []) ∙ ap Some (append_assoc ended (token.Word (b ∷ v) ∷ []) ts))
complete _ _ (quoted body {bytes} {denoted} {ts} d l) ended =
    text_scan body denoted d [] bytes ended ∙ complete bytes ts l (ended ++ token.Text denoted ∷ []) ∙ ap Some (append_assoc ended (token.Text denoted ∷ []) ts)
complete _ _ (include {bytes} {ts} l) ended =
    complete bytes ts l (ended ++ token.Include ∷ []) ∙ ap Some (append_assoc ended (token.Include ∷ []) ts)

pub one_list_of_tokens : (bytes : List ℕ) (ts us : List Token) → Lexes bytes ts → Lexes bytes us → ts ≡ us
one_list_of_tokens bytes ts us l m = let found = complete bytes ts l [] in let again = complete bytes us m [] in cc

-- the tokens of a text, from what one of its bytes leaves
abbrev go_on : List ℕ → Next → Option (List Token)
go_on bs next = option_and_then {T = Mode × List Token} (λ s. scan bs s.0 s.1) next

-- what a byte is that something begins with
abbrev Begins : Start → ℕ → Type 0
Begins start.Word b = is_word_byte b ≡ true
Begins start.Space b = is_space b ≡ true
Begins start.Sign b = is_sign b ≡ true
Begins start.Quote b = b ≡ 34
Begins start.Line b = b ≡ 35
Begins start.Other b = Unit {0}

begins : (b : ℕ) → Begins (start_of b) b
begins b =
    let P : Start → Type 0 = λ s. Begins s b in
    cond_both (is_word_byte b) _ _ P (λ h. h) (λ _.
    cond_both (is_space b) _ _ P (λ h. h) (λ _.
    cond_both (is_sign b) _ _ P (λ h. h) (λ _.
    cond_both (b == 34) _ _ P (λ h. eqb-true b 34 h) (λ _.
    cond_both (b == 35) _ _ P (λ h. eqb-true b 35 h) (λ _. tt)))))

-- a text goes on with the inside of a literal that is open, and then as told
record Inside (t bytes : List ℕ) (ended us : List Token) : Type 0 where
  body : List ℕ
  denoted : List ℕ
  rest : List ℕ
  ts : List Token
  whole : bytes ≡ body ++ 34 ∷ rest
  denotes : Denotes body denoted
  lexes : Lexes rest ts
  tokens : us ≡ ended ++ token.Text (t ++ denoted) ∷ ts

-- what tokens that were found in a mode say of the bytes
abbrev Meant : Mode → List ℕ → List Token → List Token → Type 0
Meant mode.Between bytes ended us = (ts : List Token) × (us ≡ ended ++ ts) × Lexes bytes ts
Meant (mode.Word w) bytes ended us = IsWord w → (ts : List Token) × (us ≡ ended ++ ts) × Lexes (w ++ bytes) ts
Meant (mode.Text t) bytes ended us = Inside t bytes ended us
Meant (mode.Escape t) bytes ended us = (c b : ℕ) × (rest : List ℕ) × (bytes ≡ c ∷ rest) × (escape_of c ≡ Some b) × Inside (t ++ b ∷ []) rest ended us
Meant (mode.Include n) bytes ended us = (rest : List ℕ) × (ts : List Token) × (bytes ≡ drop n include_line ++ rest) × (us ≡ ended ++ token.Include ∷ ts) × Lexes rest ts

abbrev SoundAt : List ℕ → Type 0
SoundAt bytes = (m : Mode) (ended us : List Token) → scan bytes m ended ≡ Some us → Meant m bytes ended us

-- a token in front
in_front : (ended : List Token) (t : Token) (ts us : List Token) → us ≡ (ended ++ t ∷ []) ++ ts → us ≡ ended ++ t ∷ ts
in_front ended t ts us e = e ∙ append_assoc ended (t ∷ []) ts

quoted_here : (b : ℕ) (bs : List ℕ) (ended us : List Token) → b ≡ 34 → Inside [] bs ended us → Meant mode.Between (b ∷ bs) ended us
quoted_here b bs ended us e i =
    let l : Lexes (34 ∷ i.body ++ 34 ∷ i.rest) (token.Text i.denoted ∷ i.ts) = quoted i.body i.denotes i.lexes in
    let bytes : 34 ∷ i.body ++ 34 ∷ i.rest ≡ b ∷ bs = cc (i.whole, e) in
    (token.Text i.denoted ∷ i.ts, i.tokens, subst (λ x. Lexes x (token.Text i.denoted ∷ i.ts)) bytes l)

include_here : (b : ℕ) (bs : List ℕ) (ended us : List Token) → b ≡ 35 → Meant (mode.Include 1) bs ended us → Meant mode.Between (b ∷ bs) ended us
include_here b bs ended us e i =
    let l : Lexes (include_line ++ i.0) (token.Include ∷ i.1) = include i.4 in
    let bytes : include_line ++ i.0 ≡ b ∷ bs = cc (i.2, e) in
    (token.Include ∷ i.1, i.3, subst (λ x. Lexes x (token.Include ∷ i.1)) bytes l)

begin_sound : (s : Start) (b : ℕ) (bs : List ℕ) (ended us : List Token) → Begins s b → SoundAt bs
    → go_on bs (begin_as s b ended) ≡ Some us → Meant mode.Between (b ∷ bs) ended us
begin_sound start.Word b bs ended us h later e = later (mode.Word (b ∷ [])) ended us e (h, tt)
begin_sound start.Space b bs ended us h later e =
    let r : Meant mode.Between bs ended us = later mode.Between ended us e in
    (r.0, r.1, space b h r.2)
begin_sound start.Sign b bs ended us h later e =
    let r : Meant mode.Between bs (ended ++ token.Sign b ∷ []) us = later mode.Between (ended ++ token.Sign b ∷ []) us e in
    (token.Sign b ∷ r.0, in_front ended (token.Sign b) r.0 us r.1, sign b h r.2)
begin_sound start.Quote b bs ended us h later e = quoted_here b bs ended us h (later (mode.Text []) ended us e)
begin_sound start.Line b bs ended us h later e = include_here b bs ended us h (later (mode.Include 1) ended us e)
begin_sound start.Other b bs ended us h later e = cc

word_more : (w : List ℕ) (b : ℕ) → IsWord w → is_word_byte b ≡ true → IsWord (w ++ b ∷ [])
word_more [] b h e = absurd h
word_more (x ∷ w) b h e = (h.0, all_more w b h.1 e)
  where
    all_more : (w : List ℕ) (b : ℕ) → AllByRecursion (λ x. IsTrue (is_word_byte x)) w → is_word_byte b ≡ true → AllByRecursion (λ x. IsTrue (is_word_byte x)) (w ++ b ∷ [])
    all_more [] b h e = (e, tt)
    all_more (x ∷ w) b h e = (h.0, all_more w b h.1 e)

by_test : {R : Type 0} (t : Bool) → (t ≡ true → R) → (t ≡ false → R) → R
by_test t when_true when_false = ⊎_elim when_true when_false (cases_Bool t)

word_sound : (w : List ℕ) (b : ℕ) (bs : List ℕ) (ended us : List Token) → SoundAt bs → scan (b ∷ bs) (mode.Word w) ended ≡ Some us → Meant (mode.Word w) (b ∷ bs) ended us
word_sound w b bs ended us later e is_word =
    by_test (is_word_byte b)
    (λ h. let goes_on : scan bs (mode.Word (w ++ b ∷ [])) ended ≡ Some us = rw h at e in
    let r : (ts : List Token) × (us ≡ ended ++ ts) × Lexes ((w ++ b ∷ []) ++ bs) ts = later (mode.Word (w ++ b ∷ [])) ended us goes_on (word_more w b is_word h) in
    (r.0, r.1, subst (λ x. Lexes x r.0) (append_assoc w (b ∷ []) bs) r.2))
    (λ h. let next : scan (b ∷ bs) mode.Between (ended ++ token.Word w ∷ []) ≡ Some us = ap (go_on bs) (sym (cond-false (is_word_byte b) (Some (mode.Word (w ++ b ∷ []), ended)) (begin b (ended ++ token.Word w ∷ [])) h)) ∙ e in
    let r : Meant mode.Between (b ∷ bs) (ended ++ token.Word w ∷ []) us = begin_sound (start_of b) b bs (ended ++ token.Word w ∷ []) us (begins b) later next in
    (token.Word w ∷ r.0, in_front ended (token.Word w) r.0 us r.1, word w is_word h r.2))

plain_inside : (t : List ℕ) (b : ℕ) (bs : List ℕ) (ended us : List Token) → is_plain b ≡ true → Inside (t ++ b ∷ []) bs ended us → Inside t (b ∷ bs) ended us
plain_inside t b bs ended us h i = record {
  body = b ∷ i.body;
  denoted = b ∷ i.denoted;
  rest = i.rest;
  ts = i.ts;
  whole = ap (λ x. b ∷ x) i.whole;
  denotes = plain b h i.denotes;
  lexes = i.lexes;
  tokens = i.tokens ∙ ap (λ x. ended ++ token.Text x ∷ i.ts) (append_assoc t (b ∷ []) i.denoted);
}

escape_inside : (t : List ℕ) (c b : ℕ) (bs : List ℕ) (ended us : List Token) → escape_of c ≡ Some b → Inside (t ++ b ∷ []) bs ended us → Inside t (92 ∷ c ∷ bs) ended us
escape_inside t c b bs ended us h i = record {
  body = 92 ∷ c ∷ i.body;
  denoted = b ∷ i.denoted;
  rest = i.rest;
  ts = i.ts;
  whole = ap (λ x. 92 ∷ c ∷ x) i.whole;
  denotes = escape c b h i.denotes;
  lexes = i.lexes;
  tokens = i.tokens ∙ ap (λ x. ended ++ token.Text x ∷ i.ts) (append_assoc t (b ∷ []) i.denoted);
}

end_inside : (t : List ℕ) (bs : List ℕ) (ended us : List Token) → Meant mode.Between bs (ended ++ token.Text t ∷ []) us → Inside t (34 ∷ bs) ended us
end_inside t bs ended us r = record {
  body = [];
  denoted = [];
  rest = bs;
  ts = r.0;
  whole = refl;
  denotes = nothing;
  lexes = r.2;
  tokens = in_front ended (token.Text t) r.0 us r.1 ∙ ap (λ x. ended ++ token.Text x ∷ r.0) (sym (append-nil t));
}

-- behind a `\` stands what it escapes
at_escape : (t : List ℕ) (b : ℕ) (bs : List ℕ) (ended us : List Token) → b ≡ 92 → Meant (mode.Escape t) bs ended us → Inside t (b ∷ bs) ended us
at_escape t b bs ended us e r =
    let bytes : 92 ∷ r.0 ∷ r.2 ≡ b ∷ bs = cc (r.3, e) in
    subst (λ x. Inside t x ended us) {x = 92 ∷ r.0 ∷ r.2} bytes (escape_inside t r.0 r.1 r.2 ended us r.4 r.5)

at_end : (t : List ℕ) (b : ℕ) (bs : List ℕ) (ended us : List Token) → b ≡ 34 → Meant mode.Between bs (ended ++ token.Text t ∷ []) us → Inside t (b ∷ bs) ended us
at_end t b bs ended us e r = subst (λ x. Inside t (x ∷ bs) ended us) (sym e) (end_inside t bs ended us r)

-- a byte in a text that does not stand for itself
special_sound : (t : List ℕ) (b : ℕ) (bs : List ℕ) (ended us : List Token) → SoundAt bs
    → go_on bs (cond (b == 92) (Some (mode.Escape t, ended)) (cond (b == 34) (Some (mode.Between, ended ++ token.Text t ∷ [])) None)) ≡ Some us → Inside t (b ∷ bs) ended us
special_sound t b bs ended us later e =
    by_test (b == 92)
    (λ h. let goes_on : scan bs (mode.Escape t) ended ≡ Some us = rw h at e in
    at_escape t b bs ended us (eqb-true b 92 h) (later (mode.Escape t) ended us goes_on))
    (λ h. let ends : go_on bs (cond (b == 34) (Some (mode.Between, ended ++ token.Text t ∷ [])) None) ≡ Some us = rw h at e in
    by_test (b == 34)
    (λ k. let goes_on : scan bs mode.Between (ended ++ token.Text t ∷ []) ≡ Some us = rw k at ends in
    at_end t b bs ended us (eqb-true b 34 k) (later mode.Between (ended ++ token.Text t ∷ []) us goes_on))
    (λ k. let none : None ≡ Some us = rw k at ends in cc))

text_sound : (t : List ℕ) (b : ℕ) (bs : List ℕ) (ended us : List Token) → SoundAt bs → scan (b ∷ bs) (mode.Text t) ended ≡ Some us → Inside t (b ∷ bs) ended us
text_sound t b bs ended us later e =
    by_test (is_plain b)
    (λ h. let goes_on : scan bs (mode.Text (t ++ b ∷ [])) ended ≡ Some us = rw h at e in
    plain_inside t b bs ended us h (later (mode.Text (t ++ b ∷ [])) ended us goes_on))
    (λ h. special_sound t b bs ended us later (rw h at e))

escape_sound : (t : List ℕ) (c : ℕ) (bs : List ℕ) (ended us : List Token) (o : Option ℕ) → escape_of c ≡ o → SoundAt bs
    → go_on bs (option_map (λ b. (mode.Text (t ++ b ∷ []), ended)) o) ≡ Some us → Meant (mode.Escape t) (c ∷ bs) ended us
escape_sound t c bs ended us None h later e = cc
escape_sound t c bs ended us (Some b) h later e = (c, b, bs, refl, h, later (mode.Text (t ++ b ∷ [])) ended us e)

-- the rest of the include line from one of its bytes on
line_from : (n b : ℕ) → slice_get include_line n ≡ Some b → drop n include_line ≡ b ∷ drop (n + 1) include_line
line_from n b h =
    let within : n < 18 = slice_get_within include_line n b h in
    drop_more include_line n 0 within ∙ ap (λ x. x ∷ drop (n + 1) include_line) (get_or_from_slice_get include_line n b 0 h)

include_more : (n b : ℕ) (bs : List ℕ) (ended us : List Token) → slice_get include_line n ≡ Some b → Meant (mode.Include (n + 1)) bs ended us → Meant (mode.Include n) (b ∷ bs) ended us
include_more n b bs ended us h r =
    let from : drop n include_line ≡ b ∷ drop (n + 1) include_line = line_from n b h in
    (r.0, r.1, ap (λ x. b ∷ x) r.2 ∙ ap (λ x. x ++ r.0) (sym from), r.3, r.4)

include_end : (n b : ℕ) (bs : List ℕ) (ended us : List Token) → slice_get include_line n ≡ Some b → 18 ≤ n + 1 → Meant mode.Between bs (ended ++ token.Include ∷ []) us → Meant (mode.Include n) (b ∷ bs) ended us
include_end n b bs ended us h long r =
    let from : drop n include_line ≡ b ∷ drop (n + 1) include_line = line_from n b h in
    let nothing_left : drop (n + 1) include_line ≡ [] = drop_all (n + 1) include_line long in
    let bytes : b ∷ bs ≡ drop n include_line ++ bs = ap (λ x. b ∷ x ++ bs) (sym nothing_left) ∙ ap (λ x. x ++ bs) (sym from) in
    (bs, r.0, bytes, in_front ended token.Include r.0 us r.1, r.2)

include_sound : (n b : ℕ) (bs : List ℕ) (ended us : List Token) (o : Option ℕ) → slice_get include_line n ≡ o → SoundAt bs
    → go_on bs (cond (has_byte o b) (cond (nat_lt (n + 1) 18) (Some (mode.Include (n + 1), ended)) (Some (mode.Between, ended ++ token.Include ∷ []))) None) ≡ Some us
    → Meant (mode.Include n) (b ∷ bs) ended us
include_sound n b bs ended us None h later e = cc
include_sound n b bs ended us (Some c) h later e =
    let F : Next → Option (List Token) = go_on bs in
    by_test (c == b)
    (λ same. let here : slice_get include_line n ≡ Some b = h ∙ ap Some (eqb-true c b same) in
    let fits : F (cond (nat_lt (n + 1) 18) (Some (mode.Include (n + 1), ended)) (Some (mode.Between, ended ++ token.Include ∷ []))) ≡ Some us = rw same at e in
    by_test (nat_lt (n + 1) 18)
    (λ more. let goes_on : scan bs (mode.Include (n + 1)) ended ≡ Some us = rw more at fits in
    include_more n b bs ended us here (later (mode.Include (n + 1)) ended us goes_on))
    (λ no_more. let goes_on : scan bs mode.Between (ended ++ token.Include ∷ []) ≡ Some us = rw no_more at fits in
    include_end n b bs ended us here (ltb-false (n + 1) 18 no_more) (later mode.Between (ended ++ token.Include ∷ []) us goes_on)))
    (λ other. let refused : F None ≡ Some us = rw other at e in cc)

step_sound : (m : Mode) (b : ℕ) (bs : List ℕ) (ended us : List Token) → SoundAt bs → scan (b ∷ bs) m ended ≡ Some us → Meant m (b ∷ bs) ended us
step_sound mode.Between b bs ended us later e = begin_sound (start_of b) b bs ended us (begins b) later e
step_sound (mode.Word w) b bs ended us later e = word_sound w b bs ended us later e
step_sound (mode.Text t) b bs ended us later e = text_sound t b bs ended us later e
step_sound (mode.Escape t) b bs ended us later e = escape_sound t b bs ended us (escape_of b) refl later e
step_sound (mode.Include n) b bs ended us later e = include_sound n b bs ended us (slice_get include_line n) refl later e

end_sound : (m : Mode) (ended us : List Token) → finish m ended ≡ Some us → Meant m [] ended us
end_sound mode.Between ended us e = ([], cc (append-nil ended), done)
end_sound (mode.Word w) ended us e = λ is_word. (token.Word w ∷ [], cc, word w is_word tt done)
end_sound (mode.Text t) ended us e = absurd cc
end_sound (mode.Escape t) ended us e = absurd cc
end_sound (mode.Include n) ended us e = absurd cc

-- what is found are the tokens of the bytes
sound : (bytes : List ℕ) → SoundAt bytes
sound [] m ended us e = end_sound m ended us e
sound (b ∷ bs) m ended us e = step_sound m b bs ended us (sound bs) e

abbrev Answers : List ℕ → Option (List Token) → Type 0
Answers bytes found = MatchOption found ((ts : List Token) → Lexes bytes ts → ⊥) (λ ts. Lexes bytes ts)

pub answers : (bytes : List ℕ) (found : Option (List Token)) → found ≡ scan bytes mode.Between [] → Answers bytes found
answers bytes None e = λ ts l. absurd (let found = complete bytes ts l [] in cc)
answers bytes (Some us) e =
    let r : Meant mode.Between bytes [] us = sound bytes mode.Between [] us (sym e) in
    subst (λ ts. Lexes bytes ts) (sym r.1) r.2

-- a byte that no token goes on with
pub refused : (bytes : List ℕ) (i : ℕ) (m : Mode) (ended : List Token) → i < length bytes → scan (drop i bytes) m ended ≡ scan bytes mode.Between [] → step m (get_or bytes i 0) ended ≡ None
    → (ts : List Token) → Lexes bytes ts → ⊥
refused bytes i m ended within kept none =
    let here : scan (drop i bytes) m ended ≡ None = ap (λ x. scan x m ended) (drop_more bytes i 0 within) ∙ ap (go_on (drop (i + 1) bytes)) none in
    answers bytes None (sym here ∙ kept)

-- all bytes have been read
pub all_read : (bytes : List ℕ) (i : ℕ) (m : Mode) (ended : List Token) (r : Result (Option (Vec Token Global)) Memory) → length bytes ≤ i → scan (drop i bytes) m ended ≡ scan bytes mode.Between []
    → IfOk r (λ found. option_map (λ v. v.items) found ≡ finish m ended) → IfOk r (λ found. MatchOption found ((ts : List Token) → Lexes bytes ts → ⊥) (λ v. Lexes bytes v.items))
all_read bytes i m ended (Err e) past kept h = h
all_read bytes i m ended (Ok None) past kept h = answers bytes None (h ∙ ap (λ x. scan x m ended) (sym (drop_all i bytes past)) ∙ kept)
all_read bytes i m ended (Ok (Some v)) past kept h = answers bytes (Some v.items) (h ∙ ap (λ x. scan x m ended) (sym (drop_all i bytes past)) ∙ kept)
