-- The refusal of a flaw is the one that the grammar says.
use Rattle.std.proofs.Common.{◌≡◌, ℕ, ◌+◌, List, [], ◌∷◌, length, Option, Some, None, Ok, Err, refl, sym, ap, ap₂, ◌∙◌, arith}
use Rattle.vg_base.specs.declared.event.Span.{Span}
use Rattle.static_rules.specs.declared.rules.Rule.TheVariants as rule
use Rattle.static_rules.specs.declared.rules.Refusal.{Refusal}
use Rattle.vala_lexer.specs.Tokens.{Left, Lexeme, Answer, Tokens, next_of}
use Rattle.vala_grammar.specs.Answer.{refusal_at, end_of, rule_of}
use Rattle.vala_cursor.specs.declared.stop.Flaw.{Flaw}
use Rattle.vala_cursor.specs.declared.stop.Flaw.TheVariants as flaw
use Rattle.vala_cursor.specs.Gets.{fault_of}
use Rattle.vala_cursor.specs.Parsed.{refused_by, refused_next, last_of}
use Rattle.vala_cursor.specs.Rest.{tokens_of, stop_of}
use Rattle.vala_cursor.proofs.Left.{tokens_next, tokens_end, tokens_broken, stop_is, stop_end, stop_broken}

-- a flaw of the next token is refused there
record AtNext (f : Flaw) : Type 0 where
  at_token : (l : Left) (o : Option Refusal) (t : Lexeme) (ts : List Lexeme) → refusal_at l o (fault_of f) (t ∷ ts) ≡ record { rule = rule_of (fault_of f) t; phase = 1; span = t.span }
  at_end : (l : Left) → refusal_at l None (fault_of f) [] ≡ record { rule = rule.S1; phase = 1; span = end_of l }
  at_stop : (l : Left) (r : Refusal) → refusal_at l (Some r) (fault_of f) [] ≡ r

syntax : AtNext flaw.Syntax
syntax = record { at_token = λ l o t ts. refl; at_end = λ l. refl; at_stop = λ l r. refl }

left_out : AtNext flaw.LeftOut
left_out = record { at_token = λ l o t ts. refl; at_end = λ l. refl; at_stop = λ l r. refl }

nesting : AtNext flaw.Nesting
nesting = record { at_token = λ l o t ts. refl; at_end = λ l. refl; at_stop = λ l r. refl }

number : AtNext flaw.Number
number = record { at_token = λ l o t ts. refl; at_end = λ l. refl; at_stop = λ l r. refl }

module _ (old new : Left) (ts : List Lexeme) (o : Option Refusal) (tokens : Tokens old ts o) (kept : stop_of new ≡ stop_of old) where
  same_end : last_of old ≡ end_of old
  same_end = let none : length old.bytes + 0 ≡ length old.bytes = omega arith in ap (λ (n : ℕ). record { file = old.file; start = length old.bytes; «end» = n }) none

  refused_there : (f : Flaw) (k : AtNext f) (a : Answer) (e : next_of new ≡ a) → refused_next f (last_of old) a ≡ refusal_at old o (fault_of f) (tokens_of new)
  refused_there f k (Ok (Some t)) e = sym (ap (refusal_at old o (fault_of f)) (tokens_next new t e) ∙ k.at_token old o t _)
  refused_there f k (Ok None) e =
      let none : o ≡ None = sym (stop_is old ts o tokens) ∙ sym kept ∙ stop_end new e in
      ap (λ (s : Span). record { rule = rule.S1; phase = 1; span = s }) same_end
      ∙ sym (ap₂ (λ (x : Option Refusal) (i : List Lexeme). refusal_at old x (fault_of f) i) none (tokens_end new e) ∙ k.at_end old)
  refused_there f k (Err r) e =
      let some : o ≡ Some r = sym (stop_is old ts o tokens) ∙ sym kept ∙ stop_broken new r e in
      sym (ap₂ (λ (x : Option Refusal) (i : List Lexeme). refusal_at old x (fault_of f) i) some (tokens_broken new r e) ∙ k.at_stop old r)

  pub refused_is : (f : Flaw) (a : Answer) (e : next_of new ≡ a) → refused_by f (last_of old) a ≡ refusal_at old o (fault_of f) (tokens_of new)
  refused_is (flaw.Earlier r x) a e = refl
  refused_is flaw.Syntax a e = refused_there flaw.Syntax syntax a e
  refused_is flaw.LeftOut a e = refused_there flaw.LeftOut left_out a e
  refused_is flaw.Nesting a e = refused_there flaw.Nesting nesting a e
  refused_is flaw.Number a e = refused_there flaw.Number number a e
