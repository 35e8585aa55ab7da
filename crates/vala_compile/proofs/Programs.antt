-- Reading token by token finds exactly the programs, and where tokens leave off being one.
use Rattle.std.proofs.Common.{◌≡◌, ℕ, List, [], ◌∷◌, ◌++◌, Option, Some, None, Result, Ok, Err, refl, sym, ap, subst, ◌∙◌, append_assoc, append-nil, codes}
use Rattle.vg_base.specs.declared.event.Span.{Span}
use Rattle.vg_base.specs.Small.{nothing}
use Rattle.vala_lexer.specs.declared.token.TokenKind.{TokenKind}
use Rattle.vala_lexer.specs.declared.token.TokenKind.TheVariants as k
use Rattle.vala_lexer.specs.Tokens.{Lexeme}
use Rattle.vala_compile.specs.declared.role.Role.{Role}
use Rattle.vala_compile.specs.declared.role.Role.TheVariants as role
use Rattle.vala_compile.specs.declared.reader.Expected.{Expected}
use Rattle.vala_compile.specs.declared.reader.Expected.TheVariants as expected
use Rattle.c_emit.specs.Program.{Program}
use Rattle.vala_compile.specs.Carried.{role_of, Is, IsText, Calls, last, call, IsProgram, whole, Begins, start_of, Leaves, at_token, too_early}
use Rattle.vala_compile.specs.Quoted.{quoted}
use Rattle.vala_compile.specs.Steps.{State, start, behind, Stepped, with_text, step_to, step, and_then, steps, at_end_by, at_end, outcome_of, outcome}
use Rattle.vala_compile.proofs.Quoting.{quotes_read, read_quotes}

-- ---- the rest of a program, by what comes next

data From : Expected → List Lexeme → Program → Type 0 where
  void : (t : Lexeme) {ts : List Lexeme} {p : Program} → Is role.Void t → From expected.Main ts p → From expected.Void (t ∷ ts) p
  main : (t : Lexeme) {ts : List Lexeme} {p : Program} → Is role.Main t → From expected.OpenParameters ts p → From expected.Main (t ∷ ts) p
  parameters : (t : Lexeme) {ts : List Lexeme} {p : Program} → Is role.OpenParen t → From expected.CloseParameters ts p → From expected.OpenParameters (t ∷ ts) p
  no_parameter : (t : Lexeme) {ts : List Lexeme} {p : Program} → Is role.CloseParen t → From expected.OpenBody ts p → From expected.CloseParameters (t ∷ ts) p
  body : (t : Lexeme) {ts : List Lexeme} {p : Program} → Is role.OpenBrace t → From expected.Statement ts p → From expected.OpenBody (t ∷ ts) p
  print : (t : Lexeme) {ts : List Lexeme} {p : Program} → Is role.Print t → From expected.OpenArguments ts p → From expected.Statement (t ∷ ts) p
  close : (t : Lexeme) {ts : List Lexeme} {p : Program} → Is role.CloseBrace t → From expected.Nothing ts p → From expected.Statement (t ∷ ts) p
  arguments : (t : Lexeme) {ts : List Lexeme} {p : Program} → Is role.OpenParen t → From expected.Text ts p → From expected.OpenArguments (t ∷ ts) p
  quote : (t : Lexeme) (w : List ℕ) {ts : List Lexeme} {p : Program} → IsText w t → From expected.CloseArguments ts p → From expected.Text (t ∷ ts) (w ∷ p)
  argument : (t : Lexeme) {ts : List Lexeme} {p : Program} → Is role.CloseParen t → From expected.Semicolon ts p → From expected.CloseArguments (t ∷ ts) p
  semicolon : (t : Lexeme) {ts : List Lexeme} {p : Program} → Is role.Semicolon t → From expected.Statement ts p → From expected.Semicolon (t ∷ ts) p
  done : From expected.Nothing [] []

calls_of : (ts : List Lexeme) (p : Program) → From expected.Statement ts p → Calls ts p
calls_of _ _ (close t i done) = last t i
calls_of _ _ (print n is_n (arguments o is_o (quote x w is_x (argument c is_c (semicolon e {ts} {p} is_e more))))) = call n o x c e w ts p is_n is_o is_x is_c is_e (calls_of ts p more)

program_of : (ts : List Lexeme) (p : Program) → From expected.Void ts p → IsProgram ts p
program_of _ _ (void v is_v (main m is_m (parameters o is_o (no_parameter c is_c (body b {ts} {p} is_b more))))) = whole v m o c b ts p is_v is_m is_o is_c is_b (calls_of ts p more)

from_calls : (ts : List Lexeme) (p : Program) → Calls ts p → From expected.Statement ts p
from_calls _ _ (last t i) = close t i done
from_calls _ _ (call n o x c e w ts p is_n is_o is_x is_c is_e more) = print n is_n (arguments o is_o (quote x w is_x (argument c is_c (semicolon e is_e (from_calls ts p more)))))

from_program : (ts : List Lexeme) (p : Program) → IsProgram ts p → From expected.Void ts p
from_program _ _ (whole v m o c b ts p is_v is_m is_o is_c is_b calls) = void v is_v (main m is_m (parameters o is_o (no_parameter c is_c (body b is_b (from_calls ts p calls)))))

-- ---- the rest of a program is read

abbrev at : Expected → Program → State
at e texts = record { next = e; texts = texts }

-- one token, and then the others
on : (s u : State) (t : Lexeme) (ts : List Lexeme) (x : Stepped) → step s t ≡ Ok u → steps u ts ≡ x → steps s (t ∷ ts) ≡ x
on s u t ts x e rest = ap (λ (r : Stepped). and_then r (λ after. steps after ts)) e ∙ rest

by : (r : Role) (e : Expected) (texts : Program) (t : Lexeme) → Is r t → step (at e texts) t ≡ step_to texts t (behind e r)
by r e texts t i = ap (λ (r : Role). step_to texts t (behind e r)) i

from_read : (e : Expected) (ts : List Lexeme) (p : Program) → From e ts p → (texts : Program) → steps (at e texts) ts ≡ Ok (at expected.Nothing (texts ++ p))
from_read _ _ _ (void t {ts} {p} i f) texts = on (at expected.Void texts) (at expected.Main texts) t ts _ (by role.Void expected.Void texts t i) (from_read expected.Main ts p f texts)
from_read _ _ _ (main t {ts} {p} i f) texts =
    on (at expected.Main texts) (at expected.OpenParameters texts) t ts _ (by role.Main expected.Main texts t i) (from_read expected.OpenParameters ts p f texts)
from_read _ _ _ (parameters t {ts} {p} i f) texts =
    on (at expected.OpenParameters texts) (at expected.CloseParameters texts) t ts _ (by role.OpenParen expected.OpenParameters texts t i) (from_read expected.CloseParameters ts p f texts)
from_read _ _ _ (no_parameter t {ts} {p} i f) texts =
    on (at expected.CloseParameters texts) (at expected.OpenBody texts) t ts _ (by role.CloseParen expected.CloseParameters texts t i) (from_read expected.OpenBody ts p f texts)
from_read _ _ _ (body t {ts} {p} i f) texts =
    on (at expected.OpenBody texts) (at expected.Statement texts) t ts _ (by role.OpenBrace expected.OpenBody texts t i) (from_read expected.Statement ts p f texts)
from_read _ _ _ (print t {ts} {p} i f) texts =
    on (at expected.Statement texts) (at expected.OpenArguments texts) t ts _ (by role.Print expected.Statement texts t i) (from_read expected.OpenArguments ts p f texts)
from_read _ _ _ (close t {ts} {p} i f) texts =
    on (at expected.Statement texts) (at expected.Nothing texts) t ts _ (by role.CloseBrace expected.Statement texts t i) (from_read expected.Nothing ts p f texts)
from_read _ _ _ (arguments t {ts} {p} i f) texts =
    on (at expected.OpenArguments texts) (at expected.Text texts) t ts _ (by role.OpenParen expected.OpenArguments texts t i) (from_read expected.Text ts p f texts)
from_read _ _ _ (quote t w {ts} {p} i f) texts =
    on (at expected.Text texts) (at expected.CloseArguments (texts ++ w ∷ [])) t ts _
    (by role.Text expected.Text texts t i.0 ∙ ap (λ (o : Option (List ℕ)). with_text texts t.span o) (quotes_read t.text w i.1))
    (from_read expected.CloseArguments ts p f (texts ++ w ∷ []) ∙ ap (λ (q : Program). Ok (at expected.Nothing q)) (append_assoc texts (w ∷ []) p))
from_read _ _ _ (argument t {ts} {p} i f) texts =
    on (at expected.CloseArguments texts) (at expected.Semicolon texts) t ts _ (by role.CloseParen expected.CloseArguments texts t i) (from_read expected.Semicolon ts p f texts)
from_read _ _ _ (semicolon t {ts} {p} i f) texts =
    on (at expected.Semicolon texts) (at expected.Statement texts) t ts _ (by role.Semicolon expected.Semicolon texts t i) (from_read expected.Statement ts p f texts)
from_read _ _ _ done texts = ap (λ (q : Program). Ok (at expected.Nothing q)) (sym (append-nil texts))

program_read : (ts : List Lexeme) (p : Program) → IsProgram ts p → steps start ts ≡ Ok (at expected.Nothing p)
program_read ts p i = from_read expected.Void ts p (from_program ts p i) []

-- ---- what is read is the rest of a program

record Ends (e : Expected) (ts : List Lexeme) (texts p : Program) : Type 0 where
  said : Program
  same : p ≡ texts ++ said
  from : From e ts said

abbrev Later : List Lexeme → Program → Type 0
Later ts p = (e : Expected) (texts : Program) → steps (at e texts) ts ≡ Ok (at expected.Nothing p) → Ends e ts texts p

with_said : (t : Lexeme) (ts : List Lexeme) (texts p w : Program) (o : Option (List ℕ)) → Is role.Text t → quoted t.text ≡ o
    → and_then (with_text texts t.span o) (λ after. steps after ts) ≡ Ok (at expected.Nothing p) → Later ts p → Ends expected.Text (t ∷ ts) texts p
with_said t ts texts p w None i q h later = absurd cc
with_said t ts texts p w (Some x) i q h later =
    let r : Ends expected.CloseArguments ts (texts ++ x ∷ []) p = later expected.CloseArguments (texts ++ x ∷ []) h in
    record { said = x ∷ r.said; same = r.same ∙ append_assoc texts (x ∷ []) r.said; from = quote t x (i, read_quotes t.text x q) r.from }

by_role : (e : Expected) (t : Lexeme) (ts : List Lexeme) (texts p : Program) (r : Role) → Is r t → and_then (step_to texts t (behind e r)) (λ after. steps after ts) ≡ Ok (at expected.Nothing p)
    → Later ts p → Ends e (t ∷ ts) texts p
by_role expected.Void t ts texts p role.Void i h later = let r = later expected.Main texts h in record { said = r.said; same = r.same; from = void t i r.from }
by_role expected.Main t ts texts p role.Main i h later = let r = later expected.OpenParameters texts h in record { said = r.said; same = r.same; from = main t i r.from }
by_role expected.OpenParameters t ts texts p role.OpenParen i h later = let r = later expected.CloseParameters texts h in record { said = r.said; same = r.same; from = parameters t i r.from }
by_role expected.CloseParameters t ts texts p role.CloseParen i h later = let r = later expected.OpenBody texts h in record { said = r.said; same = r.same; from = no_parameter t i r.from }
by_role expected.OpenBody t ts texts p role.OpenBrace i h later = let r = later expected.Statement texts h in record { said = r.said; same = r.same; from = body t i r.from }
by_role expected.Statement t ts texts p role.Print i h later = let r = later expected.OpenArguments texts h in record { said = r.said; same = r.same; from = print t i r.from }
by_role expected.Statement t ts texts p role.CloseBrace i h later = let r = later expected.Nothing texts h in record { said = r.said; same = r.same; from = close t i r.from }
by_role expected.OpenArguments t ts texts p role.OpenParen i h later = let r = later expected.Text texts h in record { said = r.said; same = r.same; from = arguments t i r.from }
by_role expected.Text t ts texts p role.Text i h later = with_said t ts texts p [] (quoted t.text) i refl h later
by_role expected.CloseArguments t ts texts p role.CloseParen i h later = let r = later expected.Semicolon texts h in record { said = r.said; same = r.same; from = argument t i r.from }
by_role expected.Semicolon t ts texts p role.Semicolon i h later = let r = later expected.Statement texts h in record { said = r.said; same = r.same; from = semicolon t i r.from }
by_role _ t ts texts p _ i h later = absurd cc

at_last : (e : Expected) (texts p : Program) → at_end_by e texts ≡ Ok p → Ends e [] texts p
at_last expected.Nothing texts p h = let same : texts ≡ p = cc in record { said = []; same = sym (append-nil texts ∙ same); from = done }
at_last _ texts p h = absurd cc

ends : (ts : List Lexeme) (p : Program) → Later ts p
ends [] p e texts h = at_last e texts p (ap outcome_of h)
ends (t ∷ ts) p e texts h = by_role e t ts texts p (role_of t) refl h (λ e texts h. ends ts p e texts h)

read_program : (ts : List Lexeme) (p : Program) → steps start ts ≡ Ok (at expected.Nothing p) → IsProgram ts p
read_program ts p h = let r = ends ts p expected.Void [] h in program_of ts p (subst (λ (q : Program). From expected.Void ts q) (sym r.same) r.from)

-- ---- tokens that begin a program

pub steps_more : (ts us : List Lexeme) (s : State) → steps s (ts ++ us) ≡ and_then (steps s ts) (λ after. steps after us)
steps_more [] us s = refl
steps_more (t ∷ ts) us s = go (step s t) (λ after. steps_more ts us after)
  where
    go : (r : Stepped) → ((after : State) → steps after (ts ++ us) ≡ and_then (steps after ts) (λ last. steps last us))
        → and_then r (λ after. steps after (ts ++ us)) ≡ and_then (and_then r (λ after. steps after ts)) (λ after. steps after us)
    go (Err span) more = refl
    go (Ok after) more = more after

ok_front : (r : Stepped) (us : List Lexeme) (z : State) → and_then r (λ after. steps after us) ≡ Ok z → (s : State) × (r ≡ Ok s)
ok_front (Ok s) us z e = (s, refl)
ok_front (Err span) us z e = absurd cc

begins_read : (ts : List Lexeme) → Begins ts → (s : State) × (steps start ts ≡ Ok s)
begins_read ts (more, p, i) = ok_front (steps start ts) more (at expected.Nothing p) (sym (steps_more ts more start) ∙ program_read (ts ++ more) p i)

abbrev written : TokenKind → List ℕ → Lexeme
written kind text = record { kind = kind; text = text; span = start_of 0 }

abbrev Completed : Expected → Type 0
Completed e = (ts : List Lexeme) × (p : Program) × From e ts p

completed : (e : Expected) → Completed e
completed e = by_next e
  where
    closed : Completed expected.Statement
    closed = (_, _, close (written k.CloseBrace []) refl done)

    called : Completed expected.CloseArguments
    called = (_, _, argument (written k.CloseParen []) refl (semicolon (written k.Semicolon []) refl closed.2))

    texted : Completed expected.Text
    texted = (_, _, quote (written k.Text (34 ∷ 34 ∷ [])) [] (refl, ([], refl, nothing)) called.2)

    by_next : (e : Expected) → Completed e
    by_next expected.Nothing = ([], [], done)
    by_next expected.Statement = closed
    by_next expected.OpenBody = (_, _, body (written k.OpenBrace []) refl closed.2)
    by_next expected.CloseParameters = (_, _, no_parameter (written k.CloseParen []) refl (body (written k.OpenBrace []) refl closed.2))
    by_next expected.OpenParameters =
        (_, _, parameters (written k.OpenParen []) refl (no_parameter (written k.CloseParen []) refl (body (written k.OpenBrace []) refl closed.2)))
    by_next expected.Main =
        (_, _, main (written k.Identifier (codes "main")) refl (parameters (written k.OpenParen []) refl (no_parameter (written k.CloseParen []) refl (body (written k.OpenBrace []) refl closed.2))))
    by_next expected.Void =
        (_, _, void (written k.Void []) refl (main (written k.Identifier (codes "main")) refl (parameters (written k.OpenParen []) refl (no_parameter (written k.CloseParen []) refl (body (written k.OpenBrace []) refl closed.2)))))
    by_next expected.Semicolon = (_, _, semicolon (written k.Semicolon []) refl closed.2)
    by_next expected.CloseArguments = called
    by_next expected.Text = texted
    by_next expected.OpenArguments = (_, _, arguments (written k.OpenParen []) refl texted.2)

read_begins : (ts : List Lexeme) (s : State) → steps start ts ≡ Ok s → Begins ts
read_begins ts s h =
    let rest = completed s.next in
    let read : steps start (ts ++ rest.0) ≡ Ok (at expected.Nothing (s.texts ++ rest.1)) =
    steps_more ts rest.0 start ∙ ap (λ (r : Stepped). and_then r (λ after. steps after rest.0)) h ∙ from_read s.next rest.0 rest.1 rest.2 s.texts in
    (rest.0, s.texts ++ rest.1, read_program (ts ++ rest.0) (s.texts ++ rest.1) read)

-- ---- where they leave off

with_text_err : (texts : Program) (x span : Span) (o : Option (List ℕ)) → with_text texts x o ≡ Err span → span ≡ x
with_text_err texts x span None h = cc
with_text_err texts x span (Some w) h = absurd cc

step_err : (texts : Program) (t : Lexeme) (span : Span) (o : Option Expected) → step_to texts t o ≡ Err span → span ≡ t.span
step_err texts t span None h = cc
step_err texts t span (Some expected.CloseArguments) h = with_text_err texts t.span span (quoted t.text) h
step_err texts t span (Some _) h = absurd cc

-- the tokens in front of one that may not come
record Stopped (s : State) (ts : List Lexeme) (span : Span) : Type 0 where
  front : List Lexeme
  t : Lexeme
  rest : List Lexeme
  state : State
  tokens : ts ≡ front ++ t ∷ rest
  read : steps s front ≡ Ok state
  stops : step state t ≡ Err span

stopped : (ts : List Lexeme) (s : State) (span : Span) → steps s ts ≡ Err span → Stopped s ts span
stopped [] s span h = absurd cc
stopped (t ∷ ts) s span h = go (step s t) refl h (λ after h. stopped ts after span h)
  where
    go : (r : Stepped) → step s t ≡ r → and_then r (λ after. steps after ts) ≡ Err span → ((after : State) → steps after ts ≡ Err span → Stopped after ts span) → Stopped s (t ∷ ts) span
    go (Err x) e h more = record { front = []; t = t; rest = ts; state = s; tokens = refl; read = refl; stops = e ∙ h }
    go (Ok after) e h more =
        let r = more after h in
        record { front = t ∷ r.front; t = r.t; rest = r.rest; state = r.state; tokens = ap (λ (ts : List Lexeme). t ∷ ts) r.tokens; read = on s after t r.front (Ok r.state) e r.read; stops = r.stops }

-- a token more
read_one : (front : List Lexeme) (t : Lexeme) (s : State) (r : Stepped) → steps start front ≡ Ok s → step s t ≡ r → steps start (front ++ t ∷ []) ≡ and_then r (λ after. Ok after)
read_one front t s r h e = steps_more front (t ∷ []) start ∙ ap (λ (r : Stepped). and_then r (λ after. steps after (t ∷ []))) h ∙ ap (λ (r : Stepped). and_then r (λ after. Ok after)) e

ok_err : (s : State) (span : Span) (r : Stepped) → r ≡ Ok s → r ≡ Err span → ⊥
ok_err s span r e f = cc

at_end_start : (e : Expected) (texts : Program) (span : Span) → at_end_by e texts ≡ Err span → span ≡ start_of 0
at_end_start expected.Nothing texts span h = absurd cc
at_end_start _ texts span h = cc

not_ok : (r : Result Program Span) (span : Span) (p : Program) → r ≡ Err span → r ≡ Ok p → ⊥
not_ok r span p e f = cc

not_at_end : (s : State) (span : Span) (p : Program) → at_end s ≡ Err span → s ≡ at expected.Nothing p → ⊥
not_at_end s span p h same = not_ok (at_end s) span p h (ap at_end same)

read_leaves : (ts : List Lexeme) (span : Span) → outcome ts ≡ Err span → Leaves ts span
read_leaves ts span h = go (steps start ts) refl h
  where
    go : (r : Stepped) → steps start ts ≡ r → outcome_of r ≡ Err span → Leaves ts span
    go (Err x) e h =
        let r = stopped ts start x e in
        let same : span ≡ r.t.span = cc (h, step_err r.state.texts r.t x (behind r.state.next (role_of r.t)) r.stops) in
        subst (λ (y : Span). Leaves ts y) (sym same)
        (at_token r.front r.t r.rest r.tokens (read_begins r.front r.state r.read)
        (λ b. let more = begins_read (r.front ++ r.t ∷ []) b in ok_err more.0 x (steps start (r.front ++ r.t ∷ [])) more.1 (read_one r.front r.t r.state (Err x) r.read r.stops)))
    go (Ok s) e h =
        subst (λ (y : Span). Leaves ts y) (sym (at_end_start s.next s.texts span h))
        (too_early (read_begins ts s e) (λ p i. let same : s ≡ at expected.Nothing p = cc (e, program_read ts p i) in not_at_end s span p h same))

leaves_read : (ts : List Lexeme) (span : Span) → Leaves ts span → outcome ts ≡ Err span
leaves_read ts _ (at_token front t rest e begins none) =
    let before = begins_read front begins in
    go before.0 (step before.0 t) before.1 refl
  where
    go : (s : State) (r : Stepped) → steps start front ≡ Ok s → step s t ≡ r → outcome ts ≡ Err t.span
    go s (Ok after) h q = absurd (none (read_begins (front ++ t ∷ []) after (read_one front t s (Ok after) h q)))
    go s (Err x) h q =
        let same : x ≡ t.span = step_err s.texts t x (behind s.next (role_of t)) q in
        let read : steps start (front ++ t ∷ rest) ≡ Err x =
        steps_more front (t ∷ rest) start ∙ ap (λ (r : Stepped). and_then r (λ after. steps after (t ∷ rest))) h ∙ ap (λ (r : Stepped). and_then r (λ after. steps after rest)) q in
        ap outcome e ∙ ap outcome_of read ∙ ap (λ (y : Span). Err y) same
leaves_read ts _ (too_early begins none) =
    let before = begins_read ts begins in
    ap outcome_of before.1 ∙ go before.0.next before.0.texts before.1
  where
    go : (e : Expected) (texts : Program) → steps start ts ≡ Ok (at e texts) → at_end_by e texts ≡ Err (start_of 0)
    go expected.Nothing texts h = absurd (none texts (read_program ts texts h))
    go _ texts h = refl

-- ---- what is said of an outcome

pub outcome_program : (ts : List Lexeme) (p : Program) → IsProgram ts p → outcome ts ≡ Ok p
outcome_program ts p i = ap outcome_of (program_read ts p i)

pub program_outcome : (ts : List Lexeme) (p : Program) → outcome ts ≡ Ok p → IsProgram ts p
program_outcome ts p h = go (steps start ts) refl h
  where
    at_nothing : (e : Expected) (texts : Program) → at_end_by e texts ≡ Ok p → at e texts ≡ at expected.Nothing p
    at_nothing expected.Nothing texts h = cc
    at_nothing _ texts h = absurd cc

    go : (r : Stepped) → steps start ts ≡ r → outcome_of r ≡ Ok p → IsProgram ts p
    go (Err x) e h = absurd cc
    go (Ok s) e h = read_program ts p (e ∙ ap (λ (s : State). Ok s) (at_nothing s.next s.texts h))

pub outcome_leaves : (ts : List Lexeme) (span : Span) → Leaves ts span → outcome ts ≡ Err span
outcome_leaves = leaves_read

pub leaves_outcome : (ts : List Lexeme) (span : Span) → outcome ts ≡ Err span → Leaves ts span
leaves_outcome = read_leaves
