-- Tokens read as a program, one after another: the function on lists that the reader computes. What it means say `IsProgram` and `Leaves`.
use Rattle.std.specs.Prelude.{◌≡◌, ℕ, List, [], ◌∷◌, ◌++◌, Option, Some, None, Result, Ok, Err}
use Rattle.std.specs.declared.vec.Vec.{Vec}
use Rattle.std.specs.declared.alloc.Global.{Global}
use Rattle.vg_base.specs.declared.event.Span.{Span}
use Rattle.vg_base.specs.declared.event.Fault.{Fault}
use Rattle.vg_base.specs.declared.event.Fault.TheVariants as answer
use Rattle.static_rules.specs.declared.rules.Refusal.{Refusal}
use Rattle.vala_lexer.specs.Tokens.{Lexeme}
use Rattle.vala_compile.specs.declared.role.Role.{Role}
use Rattle.vala_compile.specs.declared.role.Role.TheVariants as role
use Rattle.vala_compile.specs.declared.reader.Expected.{Expected}
use Rattle.vala_compile.specs.declared.reader.Expected.TheVariants as expected
use Rattle.vala_compile.specs.declared.reader.Reader.{Reader}
use Rattle.c_emit.specs.Program.{Program}
use Rattle.vala_compile.specs.Carried.{role_of, start_of}
use Rattle.vala_compile.specs.Quoted.{quoted}
use Rattle.vala_compile.specs.Program.{left_out}

-- what may come next, and the texts so far
pub record State : Type 0 where
  pub next : Expected
  pub texts : Program

abbrev pub seen : Reader → State
seen r = record { next = r.next; texts = r.texts.items }

abbrev pub start : State
start = record { next = expected.Void; texts = [] }

-- what may come behind a token of this role; None where it may not come
abbrev pub behind : Expected → Role → Option Expected
behind expected.Void role.Void = Some expected.Main
behind expected.Main role.Main = Some expected.OpenParameters
behind expected.OpenParameters role.OpenParen = Some expected.CloseParameters
behind expected.CloseParameters role.CloseParen = Some expected.OpenBody
behind expected.OpenBody role.OpenBrace = Some expected.Statement
behind expected.Statement role.Print = Some expected.OpenArguments
behind expected.Statement role.CloseBrace = Some expected.Nothing
behind expected.OpenArguments role.OpenParen = Some expected.Text
behind expected.Text role.Text = Some expected.CloseArguments
behind expected.CloseArguments role.CloseParen = Some expected.Semicolon
behind expected.Semicolon role.Semicolon = Some expected.Statement
behind _ _ = None

-- the state behind a token, or where the token stands that may not come
abbrev pub Stepped : Type 0
Stepped = Result State Span

abbrev pub with_text : Program → Span → Option (List ℕ) → Stepped
with_text texts span None = Err span
with_text texts span (Some text) = Ok (record { next = expected.CloseArguments; texts = texts ++ text ∷ [] })

abbrev pub step_to : Program → Lexeme → Option Expected → Stepped
step_to texts t None = Err t.span
step_to texts t (Some expected.CloseArguments) = with_text texts t.span (quoted t.text)
step_to texts t (Some e) = Ok (record { next = e; texts = texts })

abbrev pub step : State → Lexeme → Stepped
step s t = step_to s.texts t (behind s.next (role_of t))

abbrev pub and_then : Stepped → (State → Stepped) → Stepped
and_then (Err span) go = Err span
and_then (Ok s) go = go s

abbrev pub steps : State → List Lexeme → Stepped
steps s [] = Ok s
steps s (t ∷ ts) = and_then (step s t) (λ after. steps after ts)

-- the texts at the end of the tokens, or where they leave off being a program
abbrev pub at_end_by : Expected → Program → Result Program Span
at_end_by expected.Nothing texts = Ok texts
at_end_by _ texts = Err (start_of 0)

abbrev pub at_end : State → Result Program Span
at_end s = at_end_by s.next s.texts

abbrev pub outcome_of : Stepped → Result Program Span
outcome_of (Err span) = Err span
outcome_of (Ok s) = at_end s

abbrev pub outcome : List Lexeme → Result Program Span
outcome ts = outcome_of (steps start ts)

-- what the reader answers, and where it then stands
abbrev pub Gives : Stepped → Result (Unit {0}) (Fault Refusal) → State → Type 0
Gives x (Ok u) after = x ≡ Ok after
Gives x (Err (answer.Refused r)) after = (span : Span) × (x ≡ Err span) × (r ≡ left_out span)
Gives x (Err answer.Memory) after = Unit {0}

-- the texts, or the refusal where the tokens leave off being a program
abbrev pub Told : Result Program Span → Result (Vec (List ℕ) Global) (Fault Refusal) → Type 0
Told x (Ok texts) = x ≡ Ok texts.items
Told x (Err (answer.Refused r)) = (span : Span) × (x ≡ Err span) × (r ≡ left_out span)
Told x (Err answer.Memory) = Unit {0}
