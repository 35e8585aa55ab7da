-- The next token of what is left.
use Rattle.std.proofs.Common.{◌≡◌, ℕ, ◌+◌, ◌-◌, ◌<◌, ◌≤◌, Bool, true, false, cond, List, length, drop, Option, Some, None, Result, Ok, Err, refl, ap, subst, ◌∙◌, nat_le, arith}
use Rattle.std.proofs.lemmas.Bool.{le-leb, lt-leb, leb-false}
use Rattle.std.proofs.lemmas.List.{length-drop}
use Rattle.c_lexer.specs.declared.pieces.Found.{Found}
use Rattle.c_lexer.specs.declared.pieces.Gap.{Gap}
use Rattle.c_lexer.specs.Blanks.{blanks}
use Rattle.c_lexer.specs.Cut.{cut}
use Rattle.c_lexer.specs.Tokens.{Left, Lexeme, bad_token, lexeme, begins_line, token_at, next_of, next_behind, found_at}
use Rattle.c_lexer.proofs.FitLemmas.{FitsIn, BlankFrom, cut_fits, blanks_fit}

module _ (bytes : List ℕ) (p : ℕ) (first : Bool) where
  pub at_end : length bytes ≤ p → token_at bytes p first ≡ Ok None
  at_end h = ap (λ t. cond t (Ok None) (found_at bytes p first (cut (drop p bytes)))) (le-leb (length bytes) p h)

  pub at_token : p < length bytes → (o : Option Found) → cut (drop p bytes) ≡ o → token_at bytes p first ≡ found_at bytes p first o
  at_token h o e = ap (λ t. cond t (Ok None) (found_at bytes p first (cut (drop p bytes)))) (lt-leb (length bytes) p h) ∙ ap (found_at bytes p first) e

  pub found_within : (t : Found) → p < length bytes → cut (drop p bytes) ≡ Some t → (0 < t.len) × (p + t.len ≤ length bytes)
  found_within t h e =
      let len : length (drop p bytes) ≡ length bytes - p = length-drop p bytes in
      let fits : FitsIn (length (drop p bytes)) (Some t) = subst (FitsIn (length (drop p bytes))) e (cut_fits (drop p bytes) (omega arith)) in
      let bound : t.len ≤ length (drop p bytes) = fits.1 in
      (fits.0, omega arith)

module _ (l : Left) where
  pub next_gap : (g : Gap) → blanks (drop l.at l.bytes) ≡ Ok g → next_of l ≡ token_at l.bytes (l.at + g.len) (begins_line l.at g)
  unfolding next_of
  next_gap g e = ap (next_behind l) e

  pub next_broken : (n : ℕ) → blanks (drop l.at l.bytes) ≡ Err n → next_of l ≡ Err (bad_token (l.at + n))
  unfolding next_of
  next_broken n e = ap (next_behind l) e

  pub gap_within : (g : Gap) → l.at ≤ length l.bytes → blanks (drop l.at l.bytes) ≡ Ok g → l.at + g.len ≤ length l.bytes
  gap_within g h e =
      let len : length (drop l.at l.bytes) ≡ length l.bytes - l.at = length-drop l.at l.bytes in
      let bound : g.len ≤ 0 + length (drop l.at l.bytes) = (subst (BlankFrom 0 (0 + length (drop l.at l.bytes))) e (blanks_fit _ 0 false (drop l.at l.bytes))).1 in
      omega arith

  pub broken_within : (n : ℕ) → l.at ≤ length l.bytes → blanks (drop l.at l.bytes) ≡ Err n → l.at + n < length l.bytes
  broken_within n h e =
      let len : length (drop l.at l.bytes) ≡ length l.bytes - l.at = length-drop l.at l.bytes in
      let bound : n < 0 + length (drop l.at l.bytes) = (subst (BlankFrom 0 (0 + length (drop l.at l.bytes))) e (blanks_fit _ 0 false (drop l.at l.bytes))).1 in
      omega arith

-- what a token was found by: the white space and comments in front of it, and what stands behind them
pub record TokenFound (l : Left) (t : Lexeme) : Type 0 where
  pub gap : Gap
  pub found : Found
  pub blank : blanks (drop l.at l.bytes) ≡ Ok gap
  pub inside : l.at + gap.len < length l.bytes
  pub cut_is : cut (drop (l.at + gap.len) l.bytes) ≡ Some found
  pub is : lexeme l.bytes (l.at + gap.len) (begins_line l.at gap) found ≡ t

pub token_found : (l : Left) (t : Lexeme) → next_of l ≡ Ok (Some t) → TokenFound l t
unfolding next_of
token_found l t h = by_blanks (blanks (drop l.at l.bytes)) refl h
  where
    by_cut : (g : Gap) → blanks (drop l.at l.bytes) ≡ Ok g → l.at + g.len < length l.bytes → (o : Option Found) → cut (drop (l.at + g.len) l.bytes) ≡ o → found_at l.bytes (l.at + g.len) (begins_line l.at g) o ≡ Ok (Some t) → TokenFound l t
    by_cut g e i None c h = absurd cc
    by_cut g e i (Some f) c h = record { gap = g; found = f; blank = e; inside = i; cut_is = c; is = cc }

    by_end : (g : Gap) → blanks (drop l.at l.bytes) ≡ Ok g → (b : Bool) → nat_le (length l.bytes) (l.at + g.len) ≡ b → cond b (Ok None) (found_at l.bytes (l.at + g.len) (begins_line l.at g) (cut (drop (l.at + g.len) l.bytes))) ≡ Ok (Some t) → TokenFound l t
    by_end g e true b h = absurd cc
    by_end g e false b h = by_cut g e (leb-false (length l.bytes) (l.at + g.len) b) (cut (drop (l.at + g.len) l.bytes)) refl h

    by_blanks : (r : Result Gap ℕ) → blanks (drop l.at l.bytes) ≡ r → next_behind l r ≡ Ok (Some t) → TokenFound l t
    by_blanks (Err n) e h = absurd cc
    by_blanks (Ok g) e h = by_end g e (nat_le (length l.bytes) (l.at + g.len)) refl h

pub token_ends : (l : Left) (t : Lexeme) → next_of l ≡ Ok (Some t) → t.end ≤ length l.bytes
token_ends l t h =
    let f : TokenFound l t = token_found l t h in
    subst (λ (x : Lexeme). x.end ≤ length l.bytes) f.is (found_within l.bytes (l.at + f.gap.len) (begins_line l.at f.gap) f.found f.inside f.cut_is).1
