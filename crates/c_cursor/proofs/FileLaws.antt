-- Names of included files in the tokens of the lexer.
use Rattle.std.proofs.Common.{◌≡◌, ◌≢◌, ℕ, zero, suc, ◌+◌, ◌-◌, ◌<◌, ◌≤◌, ◌==◌, ◌&&◌, Bool, true, false, if◌then◌else◌, List, [], ◌∷◌, ◌++◌, length}
use Rattle.std.proofs.Common.{take, drop, append-nil, get_or, codes, Option, Some, None, Ok, Err, refl, sym, ap, ap₂, subst, ◌∙◌, arith}
use Rattle.std.specs.Str.{bytes_eq}
use Rattle.std.proofs.lemmas.Bool.{eqb-true, eqb-false, eq-eqb, ne_eqb}
use Rattle.std.proofs.Math.Seq.{drop-cons}
use Rattle.std.proofs.lemmas.List.{length-drop, length-take-le}
use Rattle.c_lexer.specs.declared.token.BadToken.{BadToken}
use Rattle.c_lexer.specs.Tokens.{Left, Lexeme, Answer, left, next_of, behind, behind_next, begins_line}
use Rattle.c_lexer.proofs.NextLemmas.{TokenFound, token_found, found_within}
use Rattle.std.specs.Borrow.{Bor}
use Rattle.c_lexer.specs.declared.cursor.Lexer.{Lexer}
use Rattle.c_tree.specs.Words.{Token, Header, Named, named, side_by_side, own_file, is_file_name}
use Rattle.c_grammar.proofs.Bytes.{same_bytes}
use Rattle.c_tree.specs.declared.unit.Include.TheVariants as include
use Rattle.c_nodes.specs.declared.token.IncludedFile.{IncludedFile}
use Rattle.c_nodes.specs.declared.token.IncludedFile.TheVariants as file
use Rattle.c_nodes.specs.declared.token.Terminal.TheVariants as terminal
use Rattle.c_nodes.specs.Seen.{file_of, terminal_of}
use Rattle.c_cursor.specs.declared.included.Included.{Included}
use Rattle.c_cursor.specs.declared.includes.SystemFile.{SystemFile}
use Rattle.c_cursor.specs.Files.{Finds, FindsAt, after, file_among, spelled}
use Rattle.c_cursor.specs.Rest.{tokens_of, bad_of}
use Rattle.c_cursor.proofs.Left.{bad_next, tokens_next, tokens_end, tokens_broken}

-- 1. The tokens behind the next one

pub tokens_behind : (l : Left) → tokens_of (behind_next l) ≡ drop 1 (tokens_of l)
tokens_behind l = go (next_of l) refl
  where
    go : (a : Answer) → next_of l ≡ a → tokens_of (behind l a) ≡ drop 1 (tokens_of l)
    go (Ok None) e = tokens_end l e ∙ sym (ap (drop 1) (tokens_end l e))
    go (Err r) e = tokens_broken l r e ∙ sym (ap (drop 1) (tokens_broken l r e))
    go (Ok (Some t)) e = ap (λ (a : Answer). tokens_of (behind l a)) (sym e) ∙ sym (ap (drop 1) (tokens_next l t e))

pub text_behind : (l : Left) → (behind_next l).bytes ≡ l.bytes
text_behind l = go (next_of l)
  where
    go : (a : Answer) → (behind l a).bytes ≡ l.bytes
    go (Ok None) = refl
    go (Err r) = refl
    go (Ok (Some t)) = refl

drop_once_more : (n : ℕ) (ts : List Lexeme) → drop n (drop 1 ts) ≡ drop (suc n) ts
drop_once_more zero [] = refl
drop_once_more (suc n) [] = refl
drop_once_more n (t ∷ ts) = refl

-- one token more is passed
pub passed_more : (n : ℕ) (l m : Left) (ts : List Lexeme) → n ≢ 0 → m ≡ behind_next l → ts ≡ drop (n - 1) (tokens_of m) → ts ≡ drop n (tokens_of l)
passed_more zero l m ts some behind e = absurd (some refl)
passed_more (suc n) l m ts some behind e =
    let before : suc n - 1 ≡ n = omega arith in
    e ∙ ap (λ (i : ℕ). drop i (tokens_of m)) before ∙ ap (λ (x : Left). drop n (tokens_of x)) behind ∙ ap (drop n) (tokens_behind l)
    ∙ drop_once_more n (tokens_of l)

pub bad_more : (l m : Left) (o : Option BadToken) → m ≡ behind_next l → o ≡ bad_of m → o ≡ bad_of l
bad_more l m o behind e = e ∙ ap bad_of behind ∙ bad_next l

-- 2. What tokens spell

pub token_length : (l : Left) (t : Lexeme) → next_of l ≡ Ok (Some t) → t.«end» ≡ t.start + length t.text
token_length l t h =
    let f : TokenFound l t = token_found l t h in
    let p : ℕ = l.at + f.gap.len in
    let fits : p + f.found.len ≤ length l.bytes = (found_within l.bytes p (begins_line l.at f.gap) f.found f.inside f.cut_is).1 in
    let rest : length (drop p l.bytes) ≡ length l.bytes - p = length-drop p l.bytes in
    let len : length (take f.found.len (drop p l.bytes)) ≡ f.found.len = length-take-le f.found.len (drop p l.bytes) (omega arith) in
    subst (λ (x : Lexeme). x.«end» ≡ x.start + length x.text) f.is (ap (λ n. p + n) (sym len))

-- it stands in the text
pub cut_inside : (l : Left) (t : Lexeme) (n : ℕ) → next_of l ≡ Ok (Some t) → n ≡ t.start → n ≤ length l.bytes
cut_inside l t n next e =
    let f : TokenFound l t = token_found l t next in
    let inside : t.start < length l.bytes = subst (λ (x : Lexeme). x.start < length l.bytes) f.is f.inside in
    omega arith

-- bytes are equal in either order
flipped : (a b : ℕ) → (a == b) ≡ (b == a)
flipped a b = go (a == b) (b == a) refl refl
  where
    go : (x y : Bool) → (a == b) ≡ x → (b == a) ≡ y → x ≡ y
    go true true e f = refl
    go false false e f = refl
    go true false e f = absurd (eqb-false b a f (sym (eqb-true a b e)))
    go false true e f = absurd (eqb-false a b e (sym (eqb-true b a f)))

both_both : (a b c : Bool) → (a && (b && c)) ≡ ((a && b) && c)
both_both true b c = refl
both_both false b c = refl

-- bytes in front of others are compared first
compared : (x y s : List ℕ) → bytes_eq (x ++ y) s ≡ (bytes_eq (take (length x) s) x && bytes_eq y (drop (length x) s))
compared [] y s = refl
compared (b ∷ x) y [] = refl
compared (b ∷ x) y (c ∷ s) =
    ap₂ (λ (p q : Bool). p && q) (flipped b c) (compared x y s) ∙ both_both (c == b) (bytes_eq (take (length x) s) x) (bytes_eq y (drop (length x) s))

abbrev spelled_by : Bool → ℕ → List ℕ → Option ℕ
spelled_by b at s = if b then Some (at + length s) else None

-- a token that stands at the place, and has the first bytes
pub spelled_more : (l m : Left) (t : Lexeme) (at n : ℕ) (s f : List ℕ) (o : Option ℕ) → next_of l ≡ Ok (Some t) → m ≡ behind_next l → n ≢ 0 → t.start ≡ at
    → bytes_eq (take (length t.text) s) t.text ≡ true → f ≡ drop (length t.text) s → length f + length t.text ≡ length s
    → o ≡ spelled t.«end» (n - 1) (tokens_of m) f → o ≡ spelled at n (tokens_of l) s
spelled_more l m t at zero s f o next behind some here same further lengths e = absurd (some refl)
spelled_more l m t at (suc n) s f o next behind some here same further lengths e =
    let ts : List Lexeme = tokens_of (behind_next l) in
    let beside : (t.start == at) ≡ true = eq-eqb t.start at here in
    let ends : t.«end» ≡ t.start + length t.text = token_length l t next in
    let place : t.«end» + length f ≡ at + length s = omega arith in
    let test : bytes_eq (side_by_side at (t ∷ take n ts)) s ≡ bytes_eq (side_by_side t.«end» (take n ts)) f =
    ap (λ (b : Bool). bytes_eq (if b then t.text ++ side_by_side t.«end» (take n ts) else []) s) beside
    ∙ compared t.text (side_by_side t.«end» (take n ts)) s
    ∙ ap₂ (λ (b : Bool) (x : List ℕ). b && bytes_eq (side_by_side t.«end» (take n ts)) x) same (sym further) in
    let before : suc n - 1 ≡ n = omega arith in
    e ∙ ap (λ (i : ℕ). spelled t.«end» i (tokens_of m) f) before ∙ ap (λ (x : Left). spelled t.«end» n (tokens_of x) f) behind
    ∙ ap₂ (λ (b : Bool) (p : ℕ). if b then Some p else None) (sym test) place
    ∙ ap (λ (xs : List Lexeme). spelled at (suc n) xs s) (sym (tokens_next l t next))

-- one that has other bytes
pub spelled_other : (l : Left) (t : Lexeme) (at n : ℕ) (s : List ℕ) → next_of l ≡ Ok (Some t) → n ≢ 0 → t.start ≡ at
    → bytes_eq (take (length t.text) s) t.text ≡ false → None ≡ spelled at n (tokens_of l) s
spelled_other l t at zero s next some here other = absurd (some refl)
spelled_other l t at (suc n) s next some here other =
    let ts : List Lexeme = tokens_of (behind_next l) in
    let beside : (t.start == at) ≡ true = eq-eqb t.start at here in
    let test : bytes_eq (side_by_side at (t ∷ take n ts)) s ≡ false =
    ap (λ (b : Bool). bytes_eq (if b then t.text ++ side_by_side t.«end» (take n ts) else []) s) beside
    ∙ compared t.text (side_by_side t.«end» (take n ts)) s
    ∙ ap (λ (b : Bool). b && bytes_eq (side_by_side t.«end» (take n ts)) (drop (length t.text) s)) other in
    ap (λ (b : Bool). spelled_by b at s) (sym test) ∙ ap (λ (xs : List Lexeme). spelled at (suc n) xs s) (sym (tokens_next l t next))

-- one that stands elsewhere
pub spelled_apart : (l : Left) (t : Lexeme) (at n : ℕ) (s : List ℕ) (o : Option ℕ) → next_of l ≡ Ok (Some t) → t.start ≢ at
    → o ≡ spelled at 0 [] s → o ≡ spelled at n (tokens_of l) s
spelled_apart l t at n s o next apart e = e ∙ ap (λ (xs : List ℕ). spelled_by (bytes_eq xs s) at s) (go n)
  where
    go : (n : ℕ) → [] ≡ side_by_side at (take n (tokens_of l))
    go zero = refl
    go (suc n) =
        ap (λ (b : Bool). if b then t.text ++ side_by_side t.«end» (take n (tokens_of (behind_next l))) else []) (sym (ne_eqb t.start at apart))
        ∙ ap (λ (xs : List Lexeme). side_by_side at (take (suc n) xs)) (sym (tokens_next l t next))

none_left : (at n : ℕ) (ts : List Lexeme) → ts ≡ [] → [] ≡ side_by_side at (take n ts)
none_left at zero ts e = refl
none_left at (suc n) ts e = ap (λ (xs : List Lexeme). side_by_side at (take (suc n) xs)) (sym e)

-- no token
pub spelled_end : (l : Left) (at n : ℕ) (s : List ℕ) (o : Option ℕ) → next_of l ≡ Ok None → o ≡ spelled at 0 [] s → o ≡ spelled at n (tokens_of l) s
spelled_end l at n s o next e = e ∙ ap (λ (xs : List ℕ). spelled_by (bytes_eq xs s) at s) (none_left at n (tokens_of l) (tokens_end l next))

pub spelled_broken : (l : Left) (r : BadToken) (at n : ℕ) (s : List ℕ) (o : Option ℕ) → next_of l ≡ Err r → o ≡ spelled at 0 [] s
    → o ≡ spelled at n (tokens_of l) s
spelled_broken l r at n s o next e = e ∙ ap (λ (xs : List ℕ). spelled_by (bytes_eq xs s) at s) (none_left at n (tokens_of l) (tokens_broken l r next))

-- 3. Files

-- what is found of a file
abbrev included : Lexeme → IncludedFile → Bor (List ℕ) → ℕ → Lexer → Included
included t f w n b = record { token = record { terminal = terminal.File f; text = w; start = t.start; end = n; begins_line = t.begins_line }; behind = b }

abbrev file_token : SystemFile → Lexeme → List ℕ → ℕ → Token
file_token k t w n = record { terminal = terminal_of (terminal.File k.file) w; bytes = []; start = t.start; «end» = n; begins_line = t.begins_line }

-- the tokens of a file, and what is read of it
pub this_found : (k : SystemFile) (l : Lexer) (t : Lexeme) (e : ℕ) (b : Lexer) (w : Bor (List ℕ)) → w.now ≡ [] → next_of (left l) ≡ Ok (Some t) → 0 < k.tokens
    → Some e ≡ spelled t.start k.tokens (tokens_of (left l)) k.spelling.now → tokens_of (left b) ≡ drop k.tokens (tokens_of (left l))
    → bad_of (left b) ≡ bad_of (left l) → (left b).bytes ≡ (left l).bytes
    → FindsAt (λ ts. file_among (k ∷ []) t.start (t ∷ ts)) l t (Some (included t k.file w e b))
this_found k l t e b w empty next some spells tokens bad text = go (bytes_eq (side_by_side t.start (take k.tokens (t ∷ after l))) k.spelling.now) refl
    (spells ∙ ap (λ (xs : List Lexeme). spelled t.start k.tokens xs k.spelling.now) (tokens_next (left l) t next))
  where
    go : (c : Bool) → bytes_eq (side_by_side t.start (take k.tokens (t ∷ after l))) k.spelling.now ≡ c → Some e ≡ spelled_by c t.start k.spelling.now
        → Finds (if c then named (file_of k.file []) k.tokens else None) l t (after l) (Some (included t k.file w e b))
    go false is s = absurd cc
    go true is s =
        let place : e ≡ t.start + length k.spelling.now = cc in
        let same : side_by_side t.start (take k.tokens (t ∷ after l)) ≡ k.spelling.now =
        same_bytes (side_by_side t.start (take k.tokens (t ∷ after l))) k.spelling.now is in
        record {
          token = ap₂ (λ (x : List ℕ) (p : ℕ). file_token k t x p) empty (place ∙ ap (λ (x : List ℕ). t.start + length x) (sym same));
          tokens = tokens ∙ ap (drop k.tokens) (tokens_next (left l) t next)
              ∙ ap (λ (n : ℕ). drop n (t ∷ after l)) (let count : k.tokens ≡ suc (k.tokens - 1) = omega arith in count);
          bad = bad;
          text = text;
        }

pub this_missing : (k : SystemFile) (l : Lexer) (t : Lexeme) → next_of (left l) ≡ Ok (Some t)
    → None ≡ spelled t.start k.tokens (tokens_of (left l)) k.spelling.now
    → FindsAt (λ ts. file_among (k ∷ []) t.start (t ∷ ts)) l t None
this_missing k l t next spells = go (bytes_eq (side_by_side t.start (take k.tokens (t ∷ after l))) k.spelling.now)
    (spells ∙ ap (λ (xs : List Lexeme). spelled t.start k.tokens xs k.spelling.now) (tokens_next (left l) t next))
  where
    go : (c : Bool) → None ≡ spelled_by c t.start k.spelling.now → Finds (if c then named (file_of k.file []) k.tokens else None) l t (after l) None
    go false s = tt
    go true s = absurd cc

-- the text of a token alone
alone : (l : Left) (t : Lexeme) → next_of l ≡ Ok (Some t) → t.«end» ≡ t.start + length (side_by_side t.start (t ∷ []))
alone l t next =
    token_length l t next
    ∙ ap (λ (x : List ℕ). t.start + length x) (sym (append-nil t.text) ∙ ap (λ (b : Bool). if b then t.text ++ [] else []) (sym (eq-eqb t.start t.start refl)))

abbrev own_by : Bool → List ℕ → Option Named
own_by b x = if b then named (include.Own x) 1 else None

own_is : (i : List ℕ) (w : List ℕ) → bytes_eq (drop (length i - 2) i) (codes ".h") ≡ true → w ≡ take (length i - 2) i → own_file i ≡ own_by (is_file_name w) w
own_is i w ends name = go (is_file_name (take (length i - 2) i)) ∙ ap (λ (x : List ℕ). own_by (is_file_name x) x) (sym name)
  where
    go : (c : Bool) → own_by (c && bytes_eq (drop (length i - 2) i) (codes ".h")) (take (length i - 2) i) ≡ own_by c (take (length i - 2) i)
    go true = ap (λ (b : Bool). own_by b (take (length i - 2) i)) ends
    go false = refl

abbrev own_token : Lexeme → List ℕ → ℕ → Token
own_token t w n = record { terminal = Header (include.Own w); bytes = []; start = t.start; «end» = n; begins_line = t.begins_line }

-- a file of the program's own
own_found_in : (l : Lexer) (t : Lexeme) (i : List ℕ) (w : Bor (List ℕ)) (b : Lexer) → next_of (left l) ≡ Ok (Some t) → is_file_name w.now ≡ true
    → bytes_eq (drop (length i - 2) i) (codes ".h") ≡ true → w.now ≡ take (length i - 2) i
    → tokens_of (left b) ≡ drop 1 (tokens_of (left l)) → bad_of (left b) ≡ bad_of (left l) → (left b).bytes ≡ (left l).bytes
    → FindsAt (λ ts. own_file i) l t (Some (included t file.Own w t.«end» b))
own_found_in l t i w b next is ends name tokens bad text =
    subst (λ (o : Option Named). Finds o l t (after l) (Some (included t file.Own w t.«end» b)))
    (sym (own_is i w.now ends name ∙ ap (λ (c : Bool). own_by c w.now) is))
    (record {
      token = ap (own_token t w.now) (alone (left l) t next);
      tokens = tokens ∙ ap (drop 1) (tokens_next (left l) t next);
      bad = bad;
      text = text;
    })

pub own_found : (l : Lexer) (t : Lexeme) (i j : List ℕ) (w : Bor (List ℕ)) (b : Lexer) → j ≡ i → next_of (left l) ≡ Ok (Some t) → is_file_name w.now ≡ true
    → bytes_eq (drop (length j - 2) j) (codes ".h") ≡ true → w.now ≡ take (length j - 2) j
    → tokens_of (left b) ≡ drop 1 (tokens_of (left l)) → bad_of (left b) ≡ bad_of (left l) → (left b).bytes ≡ (left l).bytes
    → FindsAt (λ ts. own_file i) l t (Some (included t file.Own w t.«end» b))
own_found l t i j w b same next is ends name tokens bad text =
    subst (λ (x : List ℕ). FindsAt (λ ts. own_file x) l t (Some (included t file.Own w t.«end» b)))
    same (own_found_in l t j w b next is ends name tokens bad text)

-- a text that does not end so, or has no name in front
pub own_other : (l : Lexer) (t : Lexeme) (i : List ℕ) → bytes_eq (drop (length i - 2) i) (codes ".h") ≡ false → FindsAt (λ ts. own_file i) l t None
own_other l t i other = subst (λ (o : Option Named). Finds o l t (after l) None) (go (is_file_name (take (length i - 2) i))) tt
  where
    go : (c : Bool) → None ≡ own_by (c && bytes_eq (drop (length i - 2) i) (codes ".h")) (take (length i - 2) i)
    go true = ap (λ (b : Bool). own_by b (take (length i - 2) i)) (sym other)
    go false = refl

pub own_unnamed : (l : Lexer) (t : Lexeme) (i w : List ℕ) → bytes_eq (drop (length i - 2) i) (codes ".h") ≡ true → w ≡ take (length i - 2) i
    → is_file_name w ≡ false
    → FindsAt (λ ts. own_file i) l t None
own_unnamed l t i w ends name is = subst (λ (o : Option Named). Finds o l t (after l) None) (sym (own_is i w ends name ∙ ap (λ (c : Bool). own_by c w) is)) tt

-- 4. The files of the system, one by one

among : (ks : List SystemFile) (i : ℕ) (d : SystemFile) → i < length ks → drop i ks ≡ get_or ks i d ∷ drop (i + 1) ks
among ks i d h = drop-cons ks i d h ∙ ap (λ (n : ℕ). get_or ks i d ∷ drop n ks) (let next : suc i ≡ i + 1 = omega arith in next)

abbrev named_by : Bool → SystemFile → Option Named → Option Named
named_by b k o = if b then named (file_of k.file []) k.tokens else o

-- one that is not named
pub file_passed : (ks : List SystemFile) (i : ℕ) (d : SystemFile) (l : Lexer) (t : Lexeme) (o : Option Named) → i < length ks
    → o ≡ file_among (drop i ks) t.start (t ∷ after l)
    → FindsAt (λ ts. file_among (get_or ks i d ∷ []) t.start (t ∷ ts)) l t None → o ≡ file_among (drop (i + 1) ks) t.start (t ∷ after l)
file_passed ks i d l t o h e none =
    e ∙ ap (λ (xs : List SystemFile). file_among xs t.start (t ∷ after l)) (among ks i d h)
    ∙ go (bytes_eq (side_by_side t.start (take (get_or ks i d).tokens (t ∷ after l))) (get_or ks i d).spelling.now) none
  where
    go : (b : Bool) → Finds (named_by b (get_or ks i d) None) l t (after l) None
        → named_by b (get_or ks i d) (file_among (drop (i + 1) ks) t.start (t ∷ after l)) ≡ file_among (drop (i + 1) ks) t.start (t ∷ after l)
    go true f = absurd f
    go false f = refl

-- the first that is named
pub file_named : (ks : List SystemFile) (i : ℕ) (d : SystemFile) (l : Lexer) (t : Lexeme) (o : Option Named) (f : Included) → i < length ks
    → o ≡ file_among (drop i ks) t.start (t ∷ after l)
    → FindsAt (λ ts. file_among (get_or ks i d ∷ []) t.start (t ∷ ts)) l t (Some f) → Finds o l t (after l) (Some f)
file_named ks i d l t o f h e found =
    subst (λ (x : Option Named). Finds x l t (after l) (Some f)) (sym (e ∙ ap (λ (xs : List SystemFile). file_among xs t.start (t ∷ after l)) (among ks i d h)))
    (go (bytes_eq (side_by_side t.start (take (get_or ks i d).tokens (t ∷ after l))) (get_or ks i d).spelling.now) found)
  where
    go : (b : Bool) → Finds (named_by b (get_or ks i d) None) l t (after l) (Some f)
        → Finds (named_by b (get_or ks i d) (file_among (drop (i + 1) ks) t.start (t ∷ after l))) l t (after l) (Some f)
    go true x = x
    go false x = absurd x

pub ruleset passed_laws = (passed_more, bad_more, text_behind)

pub ruleset own_laws = (own_found, own_other, own_unnamed)

pub ruleset this_laws = (this_found, this_missing)

pub ruleset spelled_laws = (spelled_more, spelled_other, spelled_apart, spelled_end, spelled_broken)
