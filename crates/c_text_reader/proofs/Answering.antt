-- What a text answers, by what is read of it and the first of its faults.
use Rattle.std.proofs.Common.{◌≡◌, ◌∙◌, refl, sym, ap, subst, ℕ, ◌-◌, ◌<◌, ◌≤◌, ◌^◌, nat_lt, Bool, true, false, List, [], ◌∷◌, ◌++◌, length, Option}
use Rattle.std.proofs.Common.{Some, None, Result, Ok, Err, append-nil, ltb-true, arith}
use Rattle.std.proofs.lemmas.Bool.{cond_both}
use Rattle.std.specs.Option.{option_map}
use Rattle.c_lexer.specs.declared.token.BadToken.{BadToken}
use Rattle.c_lexer.specs.Tokens as lexer
use Rattle.c_lexer.specs.Tokens.{Lexeme, Tokens, all_of, next_of}
use Rattle.c_tree.specs.declared.kinds.Fault.{Fault}
use Rattle.c_tree.specs.declared.kinds.Refusal.{Refusal}
use Rattle.c_tree.specs.declared.unit.Unit.{Unit as CUnit}
use Rattle.c_tree.specs.declared.unit.Item.{Item}
use Rattle.c_tree.specs.Words.{Token, Word, plain, words, words_behind, then_behind, Other, start_of, is_shallow}
use Rattle.c_tree.specs.Items.{ReadsUnit}
use Rattle.c_tree.specs.Faults.{least, lesser, known, unless, fault}
use Rattle.c_tree.specs.Unit.{unit_faults, has_main}
use Rattle.c_tree.specs.Answers as answer
use Rattle.c_tree.specs.Answers.{Ending, Whole, Broken, AreItems, Begins, Says, Answers, ending, last_start, known_behind, faults_of, first_of}
use Rattle.c_tree.specs.Answers.{refusal, without_main}
use Rattle.c_grammar.specs.Fronts.{StopsWith, fault_at, end_of}
use Rattle.c_fronts.specs.Fronts.{InOrder}
use Rattle.c_fronts.proofs.Law.{stopped_texts_are_refused}
use Rattle.c_parser.specs.declared.unit.Stop.{Stop}
use Rattle.c_parser.specs.Parsing.{StopsAt, ReadsTo, Parses}
use Rattle.c_text_reader.specs.Fronts.{known_before, first_before, stopped_first, whole_first, chosen}
use Rattle.c_text_reader.specs.Laws.{TokensAreInOrder}
use Rattle.c_text_reader.proofs.Order.{within, within_more}
use Rattle.c_text_reader.proofs.Early.{early_all}
use Rattle.c_text_reader.proofs.KnownItems.{faults_are_known}

-- 1. The first of faults

pub least_append : (o : Option Fault) (a b : List Fault) → least o (a ++ b) ≡ least (least o a) b
least_append o [] b = refl
least_append o (f ∷ a) b = least_append (lesser o f) a b

lesser_some : (g f : Fault) → (x : Fault) × (lesser (Some g) f ≡ Some x)
lesser_some g f = cond_both (Rattle.c_tree.specs.Faults.is_before f g) (Some f) (Some g) (λ (o : Option Fault). (x : Fault) × (o ≡ Some x))
    (λ e. (f, refl)) (λ e. (g, refl))

pub least_some : (g : Fault) (fs : List Fault) → (x : Fault) × (least (Some g) fs ≡ Some x)
least_some g [] = (g, refl)
least_some g (f ∷ fs) = let h = lesser_some g f in let r = least_some h.0 fs in (r.0, ap (λ (o : Option Fault). least o fs) h.1 ∙ r.1)

chosen_is : (own : Fault) (fs : List Fault) → Some (chosen own (least (Some own) fs)) ≡ least (Some own) fs
chosen_is own fs = let r = least_some own fs in ap (λ (o : Option Fault). Some (chosen own o)) r.1 ∙ sym r.1

some_none : {A : Type 0} (x : A) → Some x ≡ None → ⊥
some_none x e = cc

some_same : {A : Type 0} (x y : A) → Some x ≡ Some y → x ≡ y
some_same x y e = cc

none_left : (fs : List Fault) → least None fs ≡ None → fs ≡ []
none_left [] e = refl
none_left (f ∷ fs) e = let h = least_some f fs in absurd (some_none h.0 (sym h.1 ∙ e))

nil_append : {A : Type 0} (a b : List A) → a ++ b ≡ [] → (a ≡ []) × (b ≡ [])
nil_append [] b e = (refl, e)
nil_append (x ∷ a) b e = absurd (nil x (a ++ b) e)
  where
    nil : {A : Type 0} (x : A) (xs : List A) → x ∷ xs ≡ [] → ⊥
    nil x xs e = cc

has_main_if : (b : Bool) (f : Fault) → unless b (f ∷ []) ≡ [] → b ≡ true
has_main_if true f e = refl
has_main_if false f e = absurd (nil f e)
  where
    nil : (f : Fault) → f ∷ [] ≡ [] → ⊥
    nil f e = cc

-- 2. A text that stops

place_is : (rest : Word) (e : Ending) → start_of (end_of e) rest ≡ (fault_at rest e).place
place_is (t ∷ rest) e = refl
place_is [] (Whole n) = refl
place_is [] (Broken n) = refl

to_stop : (text : Word) (e : Ending) (is : List Item) (s : Stop) → ReadsTo text e is (Some s) → StopsAt text e is s
to_stop text (Whole n) is s h = h
to_stop text (Broken n) is s h = h

head_same : {A : Type 0} (x y : A) (u v : List A) → x ∷ u ≡ y ∷ v → x ≡ y
head_same x y u v e = cc

nil_word : (w rest : Word) → [] ≡ w ++ rest → w ≡ []
nil_word [] rest e = refl
nil_word (t ∷ w) rest e = absurd (nil t (w ++ rest) e)
  where
    nil : (t : Token) (w : Word) → [] ≡ t ∷ w → ⊥
    nil t w e = cc

-- what is known in front, where there is a first token
front_known : (t : Lexeme) (more : Word) (e : Ending) (w rest : Word) (s : Stop) (fs : List Fault) → plain t ∷ more ≡ w ++ rest
    → s.fault ≡ fault_at rest e → s.last ≡ last_start w
    → InOrder (start_of (end_of e) rest) w → known_before (Ok (Some t)) s.fault.place s.last fs ≡ known_behind w fs
front_known t more e [] rest s fs text own last order =
    let at : s.fault.place ≡ t.start = ap (λ (f : Fault). f.place) own ∙ sym (place_is rest e) ∙ ap (λ (z : Word). start_of (end_of e) z) (sym text) in
    cond_both (nat_lt t.start s.fault.place) (known s.last fs) [] (λ (z : List Fault). z ≡ [])
    (λ h. absurd (never t.start s.fault.place (ltb-true t.start s.fault.place h) at)) (λ h. refl)
  where
    never : (a b : ℕ) → a < b → b ≡ a → ⊥
    never a b h e = omega (arith, h, e)
front_known t more e (x ∷ w) rest s fs text own last order =
    let inside = within (start_of (end_of e) rest) (x ∷ w) order in
    let begins : t.start ≡ x.start = ap (λ (z : Token). z.start) (head_same (plain t) x more (w ++ rest) text) in
    let at : s.fault.place ≡ start_of (end_of e) rest = ap (λ (f : Fault). f.place) own ∙ sym (place_is rest e) in
    let before : t.start < s.fault.place = omega (arith, begins, at, inside.0.0) in
    cond_both (nat_lt t.start s.fault.place) (known s.last fs) [] (λ (z : List Fault). z ≡ known (last_start (x ∷ w)) fs)
    (λ h. ap (λ (n : ℕ). known n fs) last) (λ h. absurd (true_false (sym (lt-ltb t.start s.fault.place before) ∙ h)))
  where
    true_false : true ≡ false → ⊥
    true_false e = absurd cc

    lt-ltb : (a b : ℕ) → a < b → nat_lt a b ≡ true
    lt-ltb a b h = grind arith

known_in_front : (bytes : List ℕ) (ts : List Lexeme) (b : Option BadToken) (e : Ending) (w rest : Word) (s : Stop) (fs : List Fault)
    → Tokens (all_of bytes) ts b → words ts ≡ w ++ rest
    → s.fault ≡ fault_at rest e → s.last ≡ last_start w → InOrder (start_of (end_of e) rest) w
    → known_before (next_of (all_of bytes)) s.fault.place s.last fs ≡ known_behind w fs
known_in_front bytes _ _ e w rest s fs (lexer.end l h) text own last order =
    ap (λ (a : lexer.Answer). known_before a s.fault.place s.last fs) h ∙ ap (λ (z : Word). known_behind z fs) (sym (nil_word w rest text))
known_in_front bytes _ _ e w rest s fs (lexer.broken l b h) text own last order =
    ap (λ (a : lexer.Answer). known_before a s.fault.place s.last fs) h ∙ ap (λ (z : Word). known_behind z fs) (sym (nil_word w rest text))
known_in_front bytes _ _ e w rest s fs (lexer.token l t {ts} h more) text own last order =
    ap (λ (a : lexer.Answer). known_before a s.fault.place s.last fs) h
    ∙ front_known t (words_behind (then_behind Other t) ts) e w rest s fs text own last order

-- A TEXT THAT STOPS is refused by the first of what stops it and of what is known in front.
pub stopped_answers : TokensAreInOrder → (bytes : List ℕ) (limit : ℕ) (u : CUnit) (s : Stop) → length bytes ≤ limit → Parses bytes u.items (Some s)
    → (first : Fault)
    → first ≡ stopped_first s (known_before (next_of (all_of bytes)) s.fault.place s.last (unit_faults u)) → Answers bytes limit (Err (refusal first))
stopped_answers in_order bytes limit u s h p first f =
    let e : Some first ≡ least (Some s.fault) (known_before (next_of (all_of bytes)) s.fault.place s.last (unit_faults u)) =
    ap (λ (x : Fault). Some x) f ∙ chosen_is s.fault (known_before (next_of (all_of bytes)) s.fault.place s.last (unit_faults u)) in
    let stop = ending bytes p.bad in
    let a = to_stop (words p.tokens) stop u.items s p.reads in
    let own = fault_at a.rest stop in
    let w = a.stops.word in
    let order = in_order bytes p.tokens p.bad p.lexed w a.rest a.stops.front in
    let order2 = subst (λ (n : ℕ). InOrder n w) (place_is a.rest stop) order in
    let law = stopped_texts_are_refused (words p.tokens) stop w own order2 a.stops.stops
    (record { shallow = a.stops.shallow; rest = a.stops.missing; items = u.items; made = a.stops.made; reads = a.stops.reads }) in
    let same = known_in_front bytes p.tokens p.bad stop w a.rest s (unit_faults u) p.lexed a.stops.front a.fault a.last order in
    let found : Some first ≡ least (Some own) (known_behind w (unit_faults u)) = e ∙ ap (λ (fs : List Fault). least (Some s.fault) fs) same
    ∙ ap (λ (f : Fault). least (Some f) (known_behind w (unit_faults u))) a.fault in
    let refused : refusal first ≡ law.0 = some_same (refusal first) law.0 (ap (λ (o : Option Fault). option_map refusal o) found ∙ law.1) in
    subst (λ (r : Refusal). Answers bytes limit (Err r)) (sym refused) (answer.refused law.0 p.tokens p.bad h p.lexed law.2)

-- 3. A whole text

pub record IsWhole (bytes : List ℕ) (u : CUnit) : Type 0 where
  pub tokens : List Lexeme
  pub lexed : Tokens (all_of bytes) tokens None
  pub reads : ReadsUnit (words tokens) u

is_whole : (bytes : List ℕ) (u : CUnit) (ts : List Lexeme) (b : Option BadToken) → Tokens (all_of bytes) ts b
    → ReadsTo (words ts) (ending bytes b) u.items None → IsWhole bytes u
is_whole bytes u ts None t r = record { tokens = ts; lexed = t; reads = record { items = r.0; shallow = r.1 } }
is_whole bytes u ts (Some b) t r = absurd r

all_known : TokensAreInOrder → (bytes : List ℕ) (u : CUnit) → length bytes < 2 ^ 32 → (w : IsWhole bytes u) → known (2 ^ 32 - 1) (unit_faults u) ≡ unit_faults u
all_known in_order bytes u h w =
    let order = in_order bytes w.tokens None w.lexed (words w.tokens) [] (sym (append-nil (words w.tokens))) in
    faults_are_known (2 ^ 32 - 1) (words w.tokens) u (within_more (length bytes) (2 ^ 32 - 1) (words w.tokens) (omega (arith, h))
    (within (length bytes) (words w.tokens) order)) w.reads

-- the end of a text is known
end_known : (n : ℕ) → n < 2 ^ 32 → known (2 ^ 32 - 1) (answer.syntax_at n ∷ []) ≡ answer.syntax_at n ∷ []
end_known n h = early_all (2 ^ 32 - 1) (answer.syntax_at n ∷ []) (omega (arith, h), tt)

first_is : TokensAreInOrder → (bytes : List ℕ) (u : CUnit) → length bytes < 2 ^ 32 → IsWhole bytes u
    → whole_first u (length bytes) ≡ least None (unit_faults u ++ without_main u (length bytes))
first_is in_order bytes u h w =
    ap (λ (fs : List Fault). least (least None fs) (unless (has_main u) (known (2 ^ 32 - 1) (answer.syntax_at (length bytes) ∷ []))))
    (all_known in_order bytes u h w)
    ∙ ap (λ (fs : List Fault). least (least None (unit_faults u)) (unless (has_main u) fs)) (end_known (length bytes) h)
    ∙ sym (least_append None (unit_faults u) (without_main u (length bytes)))

-- A WHOLE TEXT is refused by its first fault.
pub faulty_answers : TokensAreInOrder → (bytes : List ℕ) (limit : ℕ) (u : CUnit) → length bytes ≤ limit → length bytes < 2 ^ 32
    → Parses bytes u.items None → (first : Fault)
    → Some first ≡ whole_first u (length bytes) → Answers bytes limit (Err (refusal first))
faulty_answers in_order bytes limit u h small p first e =
    let w = is_whole bytes u p.tokens p.bad p.lexed p.reads in
    let found : Some first ≡ least None (unit_faults u ++ without_main u (length bytes)) = e ∙ first_is in_order bytes u small w in
    answer.refused (refusal first) w.tokens None h w.lexed (answer.faulty (length bytes) u (refusal first) w.reads
    (sym (ap (λ (o : Option Fault). option_map refusal o) found)))

-- ONE WITHOUT A FAULT is its unit.
pub sound_answers : TokensAreInOrder → (bytes : List ℕ) (limit : ℕ) (u : CUnit) → length bytes ≤ limit → length bytes < 2 ^ 32 → Parses bytes u.items None
    → None ≡ whole_first u (length bytes) → Answers bytes limit (Ok u)
sound_answers in_order bytes limit u h small p e =
    let w = is_whole bytes u p.tokens p.bad p.lexed p.reads in
    let none = nil_append (unit_faults u) (without_main u (length bytes))
    (none_left (unit_faults u ++ without_main u (length bytes)) (sym (e ∙ first_is in_order bytes u small w))) in
    answer.reads u w.tokens h w.lexed (answer.unit (length bytes) u w.reads (none.0, has_main_if (has_main u) (answer.syntax_at (length bytes)) none.1))
