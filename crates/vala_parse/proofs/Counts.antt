-- How many tokens are left.
use Rattle.std.proofs.Common.{◌≡◌, ℕ, zero, suc, ◌≤◌, length, Some, None, Ok, Err, ap, arith}
use Rattle.static_rules.specs.declared.rules.Refusal.{Refusal}
use Rattle.vala_lexer.specs.Tokens.{Left, Lexeme, Answer, next_of, behind_next}
use Rattle.vala_cursor.specs.Rest.{tokens_of, tokens_upto, tokens_by}
use Rattle.vala_cursor.proofs.Left.{tokens_next, tokens_end, tokens_broken}

pub one_taken : (l : Left) (t : Lexeme) → next_of l ≡ Ok (Some t) → length (tokens_of l) ≡ suc (length (tokens_of (behind_next l)))
one_taken l t e = ap length (tokens_next l t e)

pub none_at_end : (l : Left) → next_of l ≡ Ok None → length (tokens_of l) ≡ 0
none_at_end l e = ap length (tokens_end l e)

pub none_if_broken : (l : Left) (r : Refusal) → next_of l ≡ Err r → length (tokens_of l) ≡ 0
none_if_broken l r e = ap length (tokens_broken l r e)

few : (n : ℕ) (l : Left) → length (tokens_upto n l) ≤ n
unfolding tokens_upto
few zero l = omega arith
few (suc n) l = go (next_of l) (few n)
  where
    go : (a : Answer) → ((k : Left) → length (tokens_upto n k) ≤ n) → length (tokens_by (tokens_upto n) l a) ≤ suc n
    go (Ok None) more = omega arith
    go (Err r) more = omega arith
    go (Ok (Some t)) more = let some : length (tokens_upto n (record { bytes = l.bytes; file = l.file; at = t.span.end })) ≤ n = more _ in omega arith

pub few_tokens : (l : Left) → length (tokens_of l) ≤ suc (length l.bytes)
unfolding tokens_of
few_tokens l = few (suc (length l.bytes)) l

pub ruleset taken_laws = (one_taken, none_at_end, none_if_broken)
