-- The tokens that are left, by the next one.
use Rattle.std.proofs.Common.{◌≡◌, ℕ, zero, suc, ◌-◌, ◌<◌, ◌≤◌, List, [], ◌∷◌, length, Option, Some, None, Ok, Err, refl, sym, ap, subst, ◌∙◌, arith}
use Rattle.c_lexer.specs.declared.token.BadToken.{BadToken}
use Rattle.c_lexer.specs.Tokens.{Left, Lexeme, Answer, next_of, behind, behind_next, Tokens, end, broken, token}
use Rattle.c_lexer.proofs.CoverLemmas.{token_moves, some_list}
use Rattle.c_lexer.proofs.NextLemmas.{token_ends}
use Rattle.c_cursor.specs.Rest.{tokens_by, tokens_upto, tokens_of, bad_by, bad_upto, bad_of}

-- more than enough gives no more
enough : (n m : ℕ) (l : Left) → length l.bytes - l.at < n → length l.bytes - l.at < m → tokens_upto n l ≡ tokens_upto m l
unfolding tokens_upto
enough zero m l h g = absurd (omega arith)
enough (suc n) zero l h g = absurd (omega arith)
enough (suc n) (suc m) l h g = go (next_of l) refl (λ t e.
    let moves : l.at < t.«end» = token_moves l t e in
    let ends : t.«end» ≤ length l.bytes = token_ends l t e in
    enough n m (behind l (Ok (Some t))) (omega arith) (omega arith))
  where
    go : (a : Answer) → next_of l ≡ a → ((t : Lexeme) → next_of l ≡ Ok (Some t)
        → tokens_upto n (behind l (Ok (Some t))) ≡ tokens_upto m (behind l (Ok (Some t))))
        → tokens_by (tokens_upto n) l a ≡ tokens_by (tokens_upto m) l a
    go (Ok None) e more = refl
    go (Err r) e more = refl
    go (Ok (Some t)) e more = ap (λ (ts : List Lexeme). t ∷ ts) (more t e)

pub tokens_next : (l : Left) (t : Lexeme) → next_of l ≡ Ok (Some t) → tokens_of l ≡ t ∷ tokens_of (behind_next l)
unfolding tokens_of tokens_upto
tokens_next l t e =
    let moves : l.at < t.«end» = token_moves l t e in
    let ends : t.«end» ≤ length l.bytes = token_ends l t e in
    ap (tokens_by (tokens_upto (length l.bytes)) l) e
    ∙ ap (λ (ts : List Lexeme). t ∷ ts) (enough (length l.bytes) (suc (length l.bytes)) (behind l (Ok (Some t))) (omega arith) (omega arith))
    ∙ ap (λ (a : Answer). t ∷ tokens_of (behind l a)) (sym e)

pub tokens_end : (l : Left) → next_of l ≡ Ok None → tokens_of l ≡ []
unfolding tokens_of tokens_upto
tokens_end l e = ap (tokens_by (tokens_upto (length l.bytes)) l) e

pub tokens_broken : (l : Left) (r : BadToken) → next_of l ≡ Err r → tokens_of l ≡ []
unfolding tokens_of tokens_upto
tokens_broken l r e = ap (tokens_by (tokens_upto (length l.bytes)) l) e

-- the list of the tokens is the one that the lexer's law speaks of
pub tokens_is : (l : Left) (ts : List Lexeme) (o : Option BadToken) → Tokens l ts o → tokens_of l ≡ ts
tokens_is _ _ _ (end l e) = tokens_end l e
tokens_is _ _ _ (broken l r e) = tokens_broken l r e
tokens_is _ _ _ (token l t {ts} {o} e more) = tokens_next l t e
    ∙ ap (λ (xs : List Lexeme). t ∷ xs) (ap (λ (a : Answer). tokens_of (behind l a)) e ∙ tokens_is (behind l (Ok (Some t))) ts o more)

-- ---- the bad token behind them

enough_bad : (n m : ℕ) (l : Left) → length l.bytes - l.at < n → length l.bytes - l.at < m → bad_upto n l ≡ bad_upto m l
unfolding bad_upto
enough_bad zero m l h g = absurd (omega arith)
enough_bad (suc n) zero l h g = absurd (omega arith)
enough_bad (suc n) (suc m) l h g = go (next_of l) refl (λ t e.
    let moves : l.at < t.«end» = token_moves l t e in
    let ends : t.«end» ≤ length l.bytes = token_ends l t e in
    enough_bad n m (behind l (Ok (Some t))) (omega arith) (omega arith))
  where
    go : (a : Answer) → next_of l ≡ a → ((t : Lexeme) → next_of l ≡ Ok (Some t) → bad_upto n (behind l (Ok (Some t))) ≡ bad_upto m (behind l (Ok (Some t))))
        → bad_by (bad_upto n) l a ≡ bad_by (bad_upto m) l a
    go (Ok None) e more = refl
    go (Err r) e more = refl
    go (Ok (Some t)) e more = more t e

bad_after : (l : Left) (t : Lexeme) → next_of l ≡ Ok (Some t) → bad_of l ≡ bad_of (behind l (Ok (Some t)))
unfolding bad_of bad_upto
bad_after l t e =
    let moves : l.at < t.«end» = token_moves l t e in
    let ends : t.«end» ≤ length l.bytes = token_ends l t e in
    ap (bad_by (bad_upto (length l.bytes)) l) e ∙ enough_bad (length l.bytes) (suc (length l.bytes)) (behind l (Ok (Some t))) (omega arith) (omega arith)

pub bad_next : (l : Left) → bad_of (behind_next l) ≡ bad_of l
bad_next l = go (next_of l) refl
  where
    go : (a : Answer) → next_of l ≡ a → bad_of (behind l a) ≡ bad_of l
    go (Ok None) e = refl
    go (Err r) e = refl
    go (Ok (Some t)) e = sym (bad_after l t e)

pub bad_end : (l : Left) → next_of l ≡ Ok None → bad_of l ≡ None
unfolding bad_of bad_upto
bad_end l e = ap (bad_by (bad_upto (length l.bytes)) l) e

pub bad_broken : (l : Left) (r : BadToken) → next_of l ≡ Err r → bad_of l ≡ Some r
unfolding bad_of bad_upto
bad_broken l r e = ap (bad_by (bad_upto (length l.bytes)) l) e

pub bad_is : (l : Left) (ts : List Lexeme) (o : Option BadToken) → Tokens l ts o → bad_of l ≡ o
bad_is _ _ _ (end l e) = bad_end l e
bad_is _ _ _ (broken l r e) = bad_broken l r e
bad_is _ _ _ (token l t {ts} {o} e more) = bad_after l t e ∙ bad_is (behind l (Ok (Some t))) ts o more

-- these are the tokens, and this is the bad token
pub all_tokens : (l : Left) → Tokens l (tokens_of l) (bad_of l)
all_tokens l =
    let some = some_list l in
    subst (λ (o : Option BadToken). Tokens l (tokens_of l) o) (sym (bad_is l some.0 some.1 some.2))
    (subst (λ (ts : List Lexeme). Tokens l ts some.1) (sym (tokens_is l some.0 some.1 some.2)) some.2)

pub ruleset left_laws = (tokens_next, tokens_end, tokens_broken, bad_next, bad_end, bad_broken)
