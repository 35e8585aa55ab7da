-- The next token of what is left.
use Rattle.std.proofs.Common.{◌≡◌, ℕ, ◌+◌, ◌-◌, ◌<◌, ◌≤◌, Bool, true, false, cond, List, length, take, drop, Some, None, Result, Ok, Err, refl, ap, subst, ◌∙◌, nat_le, arith}
use Rattle.std.proofs.lemmas.Bool.{le-leb, lt-leb, leb-false}
use Rattle.std.proofs.lemmas.List.{length-drop}
use Rattle.vala_lexer.specs.declared.pieces.Found.{Found}
use Rattle.vala_lexer.specs.declared.pieces.Fault.{Fault}
use Rattle.vala_lexer.specs.Blanks.{blanks}
use Rattle.vala_lexer.specs.Cut.{cut}
use Rattle.vala_lexer.specs.Tokens.{Left, Lexeme, span, next_of, next_behind, found_at, refusal}
use Rattle.vala_lexer.proofs.FitLemmas.{FitsIn, BlankFrom, cut_fits, blanks_fit}

module _ (l : Left) where
  pub next_broken : (f : Fault) → blanks (drop l.at l.bytes) ≡ Err f → next_of l ≡ Err (refusal l.file l.at f)
  unfolding next_of
  next_broken f e = ap (next_behind l) e

  pub next_end : (n : ℕ) → blanks (drop l.at l.bytes) ≡ Ok n → length l.bytes ≤ l.at + n → next_of l ≡ Ok None
  unfolding next_of
  next_end n e h = ap (next_behind l) e ∙ ap (λ t. cond t (Ok None) (found_at l (l.at + n) (cut (take (l.at + n) l.bytes) (drop (l.at + n) l.bytes)))) (le-leb (length l.bytes) (l.at + n) h)

  pub next_found : (n : ℕ) (r : Result Found Fault) → blanks (drop l.at l.bytes) ≡ Ok n → l.at + n < length l.bytes → cut (take (l.at + n) l.bytes) (drop (l.at + n) l.bytes) ≡ r → next_of l ≡ found_at l (l.at + n) r
  unfolding next_of
  next_found n r e h k = ap (next_behind l) e ∙ ap (λ t. cond t (Ok None) (found_at l (l.at + n) (cut (take (l.at + n) l.bytes) (drop (l.at + n) l.bytes)))) (lt-leb (length l.bytes) (l.at + n) h) ∙ ap (found_at l (l.at + n)) k

  pub broken_within : (f : Fault) → l.at ≤ length l.bytes → blanks (drop l.at l.bytes) ≡ Err f → l.at + f.start + f.len ≤ length l.bytes
  broken_within f h e =
      let len : length (drop l.at l.bytes) ≡ length l.bytes - l.at = length-drop l.at l.bytes in
      let bound : f.start + f.len ≤ 0 + length (drop l.at l.bytes) = (subst (BlankFrom 0 (0 + length (drop l.at l.bytes))) e (blanks_fit _ 0 (drop l.at l.bytes))).1 in
      omega arith

  pub blanks_end : (n : ℕ) → l.at ≤ length l.bytes → blanks (drop l.at l.bytes) ≡ Ok n → l.at + n ≤ length l.bytes
  blanks_end n h e =
      let len : length (drop l.at l.bytes) ≡ length l.bytes - l.at = length-drop l.at l.bytes in
      let bound : n ≤ 0 + length (drop l.at l.bytes) = (subst (BlankFrom 0 (0 + length (drop l.at l.bytes))) e (blanks_fit _ 0 (drop l.at l.bytes))).1 in
      omega arith

pub found_within : (z : List ℕ) (p : ℕ) (t : Found) → p < length z → cut (take p z) (drop p z) ≡ Ok t → p + t.len ≤ length z
found_within z p t h e =
    let len : length (drop p z) ≡ length z - p = length-drop p z in
    let bound : t.len ≤ length (drop p z) = (subst (FitsIn (length (drop p z))) e (cut_fits (take p z) (drop p z) (omega arith))).1 in
    omega arith

pub fault_within : (z : List ℕ) (p : ℕ) (f : Fault) → p < length z → cut (take p z) (drop p z) ≡ Err f → p + f.start + f.len ≤ length z
fault_within z p f h e =
    let len : length (drop p z) ≡ length z - p = length-drop p z in
    let bound : f.start + f.len ≤ length (drop p z) = (subst (FitsIn (length (drop p z))) e (cut_fits (take p z) (drop p z) (omega arith))).1 in
    omega arith

-- what a token was found by: the white space and comments in front of it, and what stands behind them
pub record TokenFound (l : Left) (t : Lexeme) : Type 0 where
  pub n : ℕ
  pub found : Found
  pub blank : blanks (drop l.at l.bytes) ≡ Ok n
  pub inside : l.at + n < length l.bytes
  pub cut_is : cut (take (l.at + n) l.bytes) (drop (l.at + n) l.bytes) ≡ Ok found
  pub is : record { kind = found.kind; text = take found.len (drop (l.at + n) l.bytes); span = span l.file (l.at + n) found.len } ≡ t

pub token_found : (l : Left) (t : Lexeme) → next_of l ≡ Ok (Some t) → TokenFound l t
unfolding next_of
token_found l t h = by_blanks (blanks (drop l.at l.bytes)) refl h
  where
    by_cut : (n : ℕ) → blanks (drop l.at l.bytes) ≡ Ok n → l.at + n < length l.bytes → (r : Result Found Fault) → cut (take (l.at + n) l.bytes) (drop (l.at + n) l.bytes) ≡ r → found_at l (l.at + n) r ≡ Ok (Some t) → TokenFound l t
    by_cut n e i (Err f) c h = absurd cc
    by_cut n e i (Ok f) c h = record { n = n; found = f; blank = e; inside = i; cut_is = c; is = cc }

    by_end : (n : ℕ) → blanks (drop l.at l.bytes) ≡ Ok n → (b : Bool) → nat_le (length l.bytes) (l.at + n) ≡ b → cond b (Ok None) (found_at l (l.at + n) (cut (take (l.at + n) l.bytes) (drop (l.at + n) l.bytes))) ≡ Ok (Some t) → TokenFound l t
    by_end n e true b h = absurd cc
    by_end n e false b h = by_cut n e (leb-false (length l.bytes) (l.at + n) b) (cut (take (l.at + n) l.bytes) (drop (l.at + n) l.bytes)) refl h

    by_blanks : (r : Result ℕ Fault) → blanks (drop l.at l.bytes) ≡ r → next_behind l r ≡ Ok (Some t) → TokenFound l t
    by_blanks (Err f) e h = absurd cc
    by_blanks (Ok n) e h = by_end n e (nat_le (length l.bytes) (l.at + n)) refl h

pub token_ends : (l : Left) (t : Lexeme) → next_of l ≡ Ok (Some t) → t.span.end ≤ length l.bytes
token_ends l t h =
    let f : TokenFound l t = token_found l t h in
    let bound : l.at + f.n + f.found.len ≤ length l.bytes = found_within l.bytes (l.at + f.n) f.found f.inside f.cut_is in
    subst (λ (x : Lexeme). x.span.end ≤ length l.bytes) f.is bound
