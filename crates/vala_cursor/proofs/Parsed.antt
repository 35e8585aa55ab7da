-- What the reader gives is what the grammar says of the tokens that are left.
use Rattle.std.proofs.Common.{◌≡◌, ℕ, ◌+◌, List, [], ◌∷◌, length, Option, Some, None, Result, Ok, Err, refl, sym, ap, ap₂, subst, ◌∙◌, arith}
use Rattle.vg_base.specs.declared.event.Span.{Span}
use Rattle.vg_base.specs.declared.event.Fault.{Fault}
use Rattle.vg_base.specs.declared.event.Fault.TheVariants as answer
use Rattle.static_rules.specs.declared.rules.Rule.TheVariants as rule
use Rattle.static_rules.specs.declared.rules.Refusal.{Refusal}
use Rattle.predictive_grammar.specs.Steps as steps
use Rattle.predictive_grammar.specs.Steps.{Outcome}
use Rattle.predictive_grammar.specs.Exact.{Answers}
use Rattle.vala_lexer.specs.Tokens.{Left, Lexeme, Answer, Tokens, next_of, left}
use Rattle.vala_lexer.specs.declared.cursor.Lexer.{Lexer}
use Rattle.vala_grammar.specs.Parts.{Part, tree_of}
use Rattle.vala_grammar.specs.Label.{Label}
use Rattle.vala_grammar.specs.Grammar.{G, forms}
use Rattle.vala_grammar.specs.Answer.{AnswersTo, limits, refusal_at, end_of, rule_of}
use Rattle.vala_grammar.specs.Read.{vala_reader}
use Rattle.vala_grammar.proofs.Readers.{reads_exactly}
use Rattle.vala_cursor.specs.declared.stop.Flaw.{Flaw}
use Rattle.vala_cursor.specs.declared.stop.Stop.{Stop}
use Rattle.vala_cursor.specs.declared.stop.Stop.TheVariants.{Memory, Flawed}
use Rattle.vala_cursor.specs.Gets.{fault_of, Gets}
use Rattle.vala_cursor.specs.Parsed.{Parsed, refused, last_of}
use Rattle.vala_cursor.specs.Rest.{tokens_of, stop_of}
use Rattle.vala_cursor.proofs.Refused.{refused_is}
use Rattle.vala_cursor.proofs.Left.{tokens_is, stop_is, all_tokens}

module _ (p : Part) (level : ℕ) (old new : Left) (kept : stop_of new ≡ stop_of old) (ts : List Lexeme) (o : Option Refusal) (tokens : Tokens old ts o) where
  behind : Tokens new (tokens_of new) o
  behind = subst (λ (x : Option Refusal). Tokens new (tokens_of new) x) (kept ∙ stop_is old ts o tokens) (all_tokens new)

  told : (out : Outcome Label Lexeme (tree_of p)) → vala_reader p level (tokens_of old) ≡ out → Answers G forms p level limits ts out
  told out e =
      subst (λ (i : List Lexeme). Answers G forms p level limits i out) (tokens_is old ts o tokens)
      (subst (λ (x : Outcome Label Lexeme (tree_of p)). Answers G forms p level limits (tokens_of old) x) e (reads_exactly p level (tokens_of old)))

  parsed_ok : (a : tree_of p) → vala_reader p level (tokens_of old) ≡ Ok (a, tokens_of new) → (rest : List Lexeme) × Tokens new rest o × AnswersTo p level old ts o (Ok a) rest
  parsed_ok a e = (tokens_of new, behind, told (Ok (a, tokens_of new)) e)

  is_refused : (stop : Stop) → Gets (vala_reader p level (tokens_of old)) (Err stop) (tokens_of new) → (a : Answer) → next_of new ≡ a
      → (rest : List Lexeme) × Tokens new rest o × AnswersTo p level old ts o (Err (refused stop (last_of old) a)) rest
  is_refused Memory g a e = (tokens_of new, behind, tt)
  is_refused (Flawed f) g a e = (tokens_of new, behind, (fault_of f, told _ g, refused_is old new ts o tokens kept f a e))

pub parsed_tree : (p : Part) (level : ℕ) (old new : Left) (a : tree_of p) → vala_reader p level (tokens_of old) ≡ Ok (a, tokens_of new) → stop_of new ≡ stop_of old → Parsed p level old (Ok a) new
parsed_tree p level old new a e kept ts o tokens = parsed_ok p level old new kept ts o tokens a e

pub parsed_fault : (p : Part) (level : ℕ) (old new : Left) (s : Stop) → Gets (vala_reader p level (tokens_of old)) (Err s) (tokens_of new) → stop_of new ≡ stop_of old
    → Parsed p level old (Err (refused s (last_of old) (next_of new))) new
parsed_fault p level old new s g kept ts o tokens = is_refused p level old new kept ts o tokens s g (next_of new) refl

-- where the cursor stood in front of the lexer's tokens, and the lexer is then where the cursor was left
pub from_tree : (p : Part) (level : ℕ) (start front new after : Lexer) (a : tree_of p) → front ≡ start → after ≡ new → vala_reader p level (tokens_of (left front)) ≡ Ok (a, tokens_of (left new))
    → stop_of (left new) ≡ stop_of (left front) → Parsed p level (left start) (Ok a) (left after)
from_tree p level start front new after a s t e kept =
    subst (λ (x : Lexer). Parsed p level (left x) (Ok a) (left after)) s
    (subst (λ (x : Lexer). Parsed p level (left front) (Ok a) (left x)) (sym t) (parsed_tree p level (left front) (left new) a e kept))

pub from_fault : (p : Part) (level : ℕ) (start front new after : Lexer) (stop : Stop) (last : Span) (f : Fault Refusal) → front ≡ start → after ≡ new → last ≡ last_of (left start)
    → f ≡ refused stop last (next_of (left new)) → Gets (vala_reader p level (tokens_of (left front))) (Err stop) (tokens_of (left new)) → stop_of (left new) ≡ stop_of (left front)
    → Parsed p level (left start) (Err f) (left after)
from_fault p level start front new after stop last f s t l is g kept =
    let ends : last ≡ last_of (left front) = l ∙ ap (λ (x : Lexer). last_of (left x)) (sym s) in
    let fault : f ≡ refused stop (last_of (left front)) (next_of (left new)) = is ∙ ap (λ (x : Span). refused stop x (next_of (left new))) ends in
    subst (λ (x : Lexer). Parsed p level (left x) (Err f) (left after)) s
    (subst (λ (x : Lexer). Parsed p level (left front) (Err f) (left x)) (sym t)
    (subst (λ (x : Fault Refusal). Parsed p level (left front) (Err x) (left new)) (sym fault) (parsed_fault p level (left front) (left new) stop g kept)))
