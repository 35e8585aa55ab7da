-- The tokens that are left, by the next one.
use Rattle.std.proofs.Common.{◌≡◌, ℕ, zero, suc, ◌+◌, ◌-◌, ◌<◌, ◌≤◌, List, [], ◌∷◌, length, Option, Some, None, Result, Ok, Err, refl, sym, ap, subst, ◌∙◌, arith}
use Rattle.static_rules.specs.declared.rules.Refusal.{Refusal}
use Rattle.vala_lexer.specs.Tokens.{Left, Lexeme, Answer, next_of, behind, behind_next, Tokens, end, broken, token}
use Rattle.vala_lexer.proofs.CoverLemmas.{token_moves, some_list}
use Rattle.vala_lexer.proofs.NextLemmas.{token_ends}
use Rattle.vala_grammar.specs.Sorts.{sort}
use Rattle.vala_cursor.specs.Gets.{sort_at, sort_shown, token_at, token_shown}
use Rattle.vala_cursor.specs.Rest.{tokens_by, tokens_upto, tokens_of, stop_by, stop_upto, stop_of}

-- more than enough gives no more
enough : (n m : ℕ) (l : Left) → length l.bytes - l.at < n → length l.bytes - l.at < m → tokens_upto n l ≡ tokens_upto m l
unfolding tokens_upto
enough zero m l h g = absurd (omega arith)
enough (suc n) zero l h g = absurd (omega arith)
enough (suc n) (suc m) l h g = go (next_of l) refl (λ t e.
    let moves : l.at < t.span.end = token_moves l t e in
    let ends : t.span.end ≤ length l.bytes = token_ends l t e in
    enough n m (behind l (Ok (Some t))) (omega arith) (omega arith))
  where
    go : (a : Answer) → next_of l ≡ a → ((t : Lexeme) → next_of l ≡ Ok (Some t) → tokens_upto n (behind l (Ok (Some t))) ≡ tokens_upto m (behind l (Ok (Some t))))
        → tokens_by (tokens_upto n) l a ≡ tokens_by (tokens_upto m) l a
    go (Ok None) e more = refl
    go (Err r) e more = refl
    go (Ok (Some t)) e more = ap (λ (ts : List Lexeme). t ∷ ts) (more t e)

pub tokens_next : (l : Left) (t : Lexeme) → next_of l ≡ Ok (Some t) → tokens_of l ≡ t ∷ tokens_of (behind_next l)
unfolding tokens_of tokens_upto
tokens_next l t e =
    let moves : l.at < t.span.end = token_moves l t e in
    let ends : t.span.end ≤ length l.bytes = token_ends l t e in
    ap (tokens_by (tokens_upto (length l.bytes)) l) e
    ∙ ap (λ (ts : List Lexeme). t ∷ ts) (enough (length l.bytes) (suc (length l.bytes)) (behind l (Ok (Some t))) (omega arith) (omega arith))
    ∙ ap (λ (a : Answer). t ∷ tokens_of (behind l a)) (sym e)

pub tokens_end : (l : Left) → next_of l ≡ Ok None → tokens_of l ≡ []
unfolding tokens_of tokens_upto
tokens_end l e = ap (tokens_by (tokens_upto (length l.bytes)) l) e

pub tokens_broken : (l : Left) (r : Refusal) → next_of l ≡ Err r → tokens_of l ≡ []
unfolding tokens_of tokens_upto
tokens_broken l r e = ap (tokens_by (tokens_upto (length l.bytes)) l) e

-- the list of the tokens is the one that the lexer's law speaks of
pub tokens_is : (l : Left) (ts : List Lexeme) (o : Option Refusal) → Tokens l ts o → tokens_of l ≡ ts
tokens_is _ _ _ (end l e) = tokens_end l e
tokens_is _ _ _ (broken l r e) = tokens_broken l r e
tokens_is _ _ _ (token l t {ts} {o} e more) = tokens_next l t e ∙ ap (λ (xs : List Lexeme). t ∷ xs) (ap (λ (a : Answer). tokens_of (behind l a)) e ∙ tokens_is (behind l (Ok (Some t))) ts o more)

pub token_ahead : (l : Left) → token_at (tokens_of l) ≡ token_shown (next_of l)
token_ahead l = go (next_of l) refl
  where
    go : (a : Answer) → next_of l ≡ a → token_at (tokens_of l) ≡ token_shown a
    go (Ok None) e = ap token_at (tokens_end l e)
    go (Err r) e = ap token_at (tokens_broken l r e)
    go (Ok (Some t)) e = ap token_at (tokens_next l t e)

pub sort_ahead : (l : Left) → sort_at (tokens_of l) ≡ sort_shown (next_of l)
sort_ahead l = go (next_of l) refl
  where
    go : (a : Answer) → next_of l ≡ a → sort_at (tokens_of l) ≡ sort_shown a
    go (Ok None) e = ap sort_at (tokens_end l e)
    go (Err r) e = ap sort_at (tokens_broken l r e)
    go (Ok (Some t)) e = ap sort_at (tokens_next l t e)

-- ---- the rule that is broken behind them

enough_stop : (n m : ℕ) (l : Left) → length l.bytes - l.at < n → length l.bytes - l.at < m → stop_upto n l ≡ stop_upto m l
unfolding stop_upto
enough_stop zero m l h g = absurd (omega arith)
enough_stop (suc n) zero l h g = absurd (omega arith)
enough_stop (suc n) (suc m) l h g = go (next_of l) refl (λ t e.
    let moves : l.at < t.span.end = token_moves l t e in
    let ends : t.span.end ≤ length l.bytes = token_ends l t e in
    enough_stop n m (behind l (Ok (Some t))) (omega arith) (omega arith))
  where
    go : (a : Answer) → next_of l ≡ a → ((t : Lexeme) → next_of l ≡ Ok (Some t) → stop_upto n (behind l (Ok (Some t))) ≡ stop_upto m (behind l (Ok (Some t))))
        → stop_by (stop_upto n) l a ≡ stop_by (stop_upto m) l a
    go (Ok None) e more = refl
    go (Err r) e more = refl
    go (Ok (Some t)) e more = more t e

stop_after : (l : Left) (t : Lexeme) → next_of l ≡ Ok (Some t) → stop_of l ≡ stop_of (behind l (Ok (Some t)))
unfolding stop_of stop_upto
stop_after l t e =
    let moves : l.at < t.span.end = token_moves l t e in
    let ends : t.span.end ≤ length l.bytes = token_ends l t e in
    ap (stop_by (stop_upto (length l.bytes)) l) e ∙ enough_stop (length l.bytes) (suc (length l.bytes)) (behind l (Ok (Some t))) (omega arith) (omega arith)

pub stop_next : (l : Left) → stop_of (behind_next l) ≡ stop_of l
stop_next l = go (next_of l) refl
  where
    go : (a : Answer) → next_of l ≡ a → stop_of (behind l a) ≡ stop_of l
    go (Ok None) e = refl
    go (Err r) e = refl
    go (Ok (Some t)) e = sym (stop_after l t e)

pub stop_end : (l : Left) → next_of l ≡ Ok None → stop_of l ≡ None
unfolding stop_of stop_upto
stop_end l e = ap (stop_by (stop_upto (length l.bytes)) l) e

pub stop_broken : (l : Left) (r : Refusal) → next_of l ≡ Err r → stop_of l ≡ Some r
unfolding stop_of stop_upto
stop_broken l r e = ap (stop_by (stop_upto (length l.bytes)) l) e

pub stop_is : (l : Left) (ts : List Lexeme) (o : Option Refusal) → Tokens l ts o → stop_of l ≡ o
stop_is _ _ _ (end l e) = stop_end l e
stop_is _ _ _ (broken l r e) = stop_broken l r e
stop_is _ _ _ (token l t {ts} {o} e more) = stop_after l t e ∙ stop_is (behind l (Ok (Some t))) ts o more

-- these are the tokens, and this is the rule
pub all_tokens : (l : Left) → Tokens l (tokens_of l) (stop_of l)
all_tokens l =
    let some = some_list l in
    subst (λ (o : Option Refusal). Tokens l (tokens_of l) o) (sym (stop_is l some.0 some.1 some.2))
    (subst (λ (ts : List Lexeme). Tokens l ts some.1) (sym (tokens_is l some.0 some.1 some.2)) some.2)

pub ruleset ahead_laws = (tokens_next, tokens_end, tokens_broken, stop_next)
