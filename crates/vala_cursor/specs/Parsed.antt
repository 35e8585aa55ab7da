-- What a parser of a part answers.
use Rattle.std.specs.Prelude.{◌≡◌, ℕ, length, List, Option, Some, None, Result, Ok, Err}
use Rattle.vg_base.specs.declared.event.Span.{Span}
use Rattle.vg_base.specs.declared.event.Fault.{Fault}
use Rattle.vg_base.specs.declared.event.Fault.TheVariants as answer
use Rattle.static_rules.specs.declared.rules.Rule.TheVariants as rule
use Rattle.static_rules.specs.declared.rules.Refusal.{Refusal}
use Rattle.vala_lexer.specs.Tokens.{Left, Lexeme, Answer, Tokens, span}
use Rattle.vala_grammar.specs.Parts.{Part, tree_of}
use Rattle.vala_grammar.specs.Answer.{AnswersTo, rule_of}
use Rattle.vala_cursor.specs.declared.stop.Flaw.{Flaw}
use Rattle.vala_cursor.specs.declared.stop.Flaw.TheVariants as flaw
use Rattle.vala_cursor.specs.declared.stop.Stop.{Stop}
use Rattle.vala_cursor.specs.declared.stop.Stop.TheVariants.{Memory, Flawed}
use Rattle.vala_cursor.specs.Gets.{fault_of}

-- the tokens that are left behind the part: the answer to all that were left in front of it is what the grammar says
abbrev pub Parsed : (p : Part) → ℕ → Left → Result (tree_of p) (Fault Refusal) → Left → Type 0
Parsed p level old r new = (ts : List Lexeme) (o : Option Refusal) → Tokens old ts o → (rest : List Lexeme) × Tokens new rest o × AnswersTo p level old ts o r rest

-- where the file ends
abbrev pub last_of : Left → Span
last_of l = span l.file (length l.bytes) 0

-- the refusal at the next token, or what stops the tokens there
abbrev pub refused_next : Flaw → Span → Answer → Refusal
refused_next f e (Ok (Some t)) = record { rule = rule_of (fault_of f) t; phase = 1; span = t.span }
refused_next f e (Ok None) = record { rule = rule.S1; phase = 1; span = e }
refused_next f e (Err r) = r

-- the refusal in front of an answer of the lexer: a flaw of an earlier word says itself what it is
abbrev pub refused_by : Flaw → Span → Answer → Refusal
refused_by (flaw.Earlier r x) e a = record { rule = r; phase = 1; span = x }
refused_by f e a = refused_next f e a

abbrev pub refused : Stop → Span → Answer → Fault Refusal
refused Memory e a = answer.Memory
refused (Flawed f) e a = answer.Refused (refused_by f e a)
