-- What a reader of a part of a file answers, by what is left of the file in front of it and behind.
use Rattle.std.specs.Prelude.{◌≡◌, ℕ, if◌then◌else◌, List, [], ◌∷◌, length, Option, Some, None, Result, Ok, Err}
use Rattle.vg_base.specs.declared.event.Span.{Span}
use Rattle.vg_base.specs.declared.event.Fault.{Fault}
use Rattle.vg_base.specs.declared.event.Fault.TheVariants as answer
use Rattle.static_rules.specs.declared.rules.Rule.{Rule}
use Rattle.static_rules.specs.declared.rules.Rule.TheVariants as rule
use Rattle.static_rules.specs.declared.rules.Refusal.{Refusal}
use Rattle.vala_lexer.specs.Tokens.{Lexeme, Left}
use Rattle.predictive_grammar.specs.Steps as steps
use Rattle.predictive_grammar.specs.Steps.{Limits, Syntax, LeftOut, Nesting, Number}
use Rattle.predictive_grammar.specs.Exact.{Found, Breaks}
use Rattle.vala_grammar.specs.declared.sort.Sort.TheVariants as s
use Rattle.vala_grammar.specs.Sorts.{sort}
use Rattle.vala_grammar.specs.Tests.{is}
use Rattle.vala_grammar.specs.Parts.{Part, tree_of}
use Rattle.vala_grammar.specs.Label.{Label, Here, Earlier}
use Rattle.vala_grammar.specs.Grammar.{G, forms}

-- a token's level is at most 200, and so many arguments or parameters stand before one at most as 199
abbrev pub limits : Limits
limits = record { levels = 201; items = 200 }

-- the rule that is broken with the next token: a word of the language that the profile never has is named as left out wherever it is not expected
abbrev pub rule_of : steps.Fault Label → Lexeme → Rule
rule_of Syntax t = if is s.LeftOut (sort t.kind) then rule.U1 else rule.S1
rule_of (LeftOut Here) t = rule.U1
rule_of (LeftOut (Earlier r x)) t = r
rule_of Nesting t = rule.S2
rule_of Number t = rule.M5

-- the end of a file
abbrev pub end_of : Left → Span
end_of l = record { file = l.file; start = length l.bytes; «end» = length l.bytes }

-- The refusal of a fault in front of these tokens. It stands at an earlier word where the fault says so, and else at the next token; where there
-- is none, what stops the tokens comes first, and S1 stands at the end of the file.
abbrev pub refusal_at : Left → Option Refusal → steps.Fault Label → List Lexeme → Refusal
refusal_at l o (LeftOut (Earlier r x)) ts = record { rule = r; phase = 1; span = x }
refusal_at l o f (t ∷ ts) = record { rule = rule_of f t; phase = 1; span = t.span }
refusal_at l (Some r) f [] = r
refusal_at l None f [] = record { rule = rule.S1; phase = 1; span = end_of l }

-- The answer to what is left, whose tokens these are, and the tokens that are left behind it: the tree of as many as are a text of the part; or
-- the refusal of the fault at the first token that none goes on with.
abbrev pub AnswersTo : (p : Part) → ℕ → Left → List Lexeme → Option Refusal → Result (tree_of p) (Fault Refusal) → List Lexeme → Type 0
AnswersTo p level l ts o (Ok a) rest = Found G forms p level limits ts a rest
AnswersTo p level l ts o (Err answer.Memory) rest = Unit {0}
AnswersTo p level l ts o (Err (answer.Refused r)) rest = (f : steps.Fault Label) × Breaks G forms p level limits ts f rest × (r ≡ refusal_at l o f rest)
