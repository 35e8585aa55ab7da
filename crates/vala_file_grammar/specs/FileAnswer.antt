-- What the bytes of a file answer: its tree, or the refusal at the first fault.
use Rattle.std.specs.Prelude.{◌≡◌, ℕ, ◌<◌, ◌≤◌, List, [], ◌∷◌, length, Option, Some, None, Result, Ok, Err}
use Rattle.vg_base.specs.declared.event.Fault.{Fault}
use Rattle.vg_base.specs.declared.event.Fault.TheVariants as answer
use Rattle.static_rules.specs.declared.rules.Rule.TheVariants as rule
use Rattle.static_rules.specs.declared.rules.Refusal.{Refusal}
use Rattle.vala_tree.specs.declared.member.FileTree.{FileTree}
use Rattle.vala_lexer.specs.Tokens.{Lexeme, Left, Tokens, all_of}
use Rattle.predictive_grammar.specs.Steps as steps
use Rattle.predictive_grammar.specs.Exact.{Found, Breaks}
use Rattle.vala_grammar.specs.Label.{Label}
use Rattle.vala_grammar.specs.Answer.{limits, refusal_at}
use Rattle.vala_file_grammar.specs.Trees.{FileText}
use Rattle.vala_file_grammar.specs.Parts.{File}
use Rattle.vala_file_grammar.specs.Embed.{F}
use Rattle.vala_file_grammar.specs.Grammar.{forms}

-- the tokens up to the rest are a file, as far as one goes
abbrev pub IsFile : List Lexeme → FileText → List Lexeme → Type 0
IsFile ts a rest = Found F forms File 0 limits ts a rest

-- no file goes on with the first token of the rest, for this fault
abbrev pub Faulty : List Lexeme → steps.Fault Label → List Lexeme → Type 0
Faulty ts f rest = Breaks F forms File 0 limits ts f rest

abbrev pub file_tree : FileText → List Lexeme → FileTree
file_tree a ts = record { usings = a.usings; members = a.members; tokens = length ts }

-- WHAT THE TOKENS ANSWER, which something broken may follow: the tree, where all are a file; else the refusal at the first token with which no
-- file goes on, or at what is broken.
pub data Says (l : Left) (ts : List Lexeme) : Option Refusal → Result FileTree Refusal → Type 0 where
  file : (a : FileText) → IsFile ts a [] → Says l ts None (Ok (file_tree a ts))
  broken : (r : Refusal) (a : FileText) → IsFile ts a [] → Says l ts (Some r) (Err r)
  too_long : (o : Option Refusal) (a : FileText) (t : Lexeme) (rest : List Lexeme) → IsFile ts a (t ∷ rest) → Says l ts o (Err (refusal_at l o steps.Syntax (t ∷ rest)))
  faulty : (o : Option Refusal) (f : steps.Fault Label) (rest : List Lexeme) → Faulty ts f rest → Says l ts o (Err (refusal_at l o f rest))

-- the most bytes that a file may have
abbrev pub most_bytes : ℕ
most_bytes = 1048576

-- the refusal of the file of this number, where it has more
abbrev pub too_large : ℕ → Refusal
too_large number = record { rule = rule.M1; phase = 1; span = record { file = number; start = 0; «end» = 0 } }

-- WHAT BYTES ANSWER, as a file of this number: M1 where they are too many, and else what their tokens answer.
pub data Answers (bytes : List ℕ) (number : ℕ) : Result FileTree Refusal → Type 0 where
  many : most_bytes < length bytes → Answers bytes number (Err (too_large number))
  few : (ts : List Lexeme) (o : Option Refusal) (x : Result FileTree Refusal) → length bytes ≤ most_bytes → Tokens (all_of bytes number) ts o → Says (all_of bytes number) ts o x
      → Answers bytes number x

-- The same of a program's answer. Want of memory says nothing.
abbrev pub AnswersFile : List ℕ → ℕ → Result FileTree (Fault Refusal) → Type 0
AnswersFile bytes number (Ok a) = Answers bytes number (Ok a)
AnswersFile bytes number (Err answer.Memory) = Unit {0}
AnswersFile bytes number (Err (answer.Refused r)) = Answers bytes number (Err r)

-- Each text has an answer, and only one.
abbrev pub HasAnswer : Type 0
HasAnswer = (bytes : List ℕ) (number : ℕ) → (x : Result FileTree Refusal) × Answers bytes number x

abbrev pub HasOneAnswer : Type 0
HasOneAnswer = (bytes : List ℕ) (number : ℕ) (x y : Result FileTree Refusal) → Answers bytes number x → Answers bytes number y → x ≡ y
