-- A fault that was found from the limit of levels on.
use Rattle.std.proofs.Common.{◌≡◌, ℕ, List, Err}
use Rattle.vg_base.specs.declared.event.Span.{Span}
use Rattle.vg_base.specs.declared.event.Fault.{Fault}
use Rattle.static_rules.specs.declared.rules.Refusal.{Refusal}
use Rattle.vala_lexer.specs.Tokens.{Lexeme, left, next_of}
use Rattle.vala_lexer.specs.declared.cursor.Lexer.{Lexer}
use Rattle.vala_grammar.specs.Parts.{Part}
use Rattle.vala_grammar.specs.Read.{vala_reader}
use Rattle.vala_cursor.specs.declared.stop.Stop.{Stop}
use Rattle.vala_cursor.specs.Gets.{Gets}
use Rattle.vala_cursor.specs.Parsed.{Parsed, refused, last_of}
use Rattle.vala_cursor.specs.Rest.{tokens_of, stop_of}
use Rattle.vala_cursor.proofs.Parsed.{from_fault}
use Rattle.vala_parse_expr.proofs.Levels.{gets_too}

pub from_limit : (p : Part) (level m : ℕ) → ((i : List Lexeme) → vala_reader p level i ≡ vala_reader p m i)
    → (start front new after : Lexer) (stop : Stop) (last : Span) (f : Fault Refusal) → front ≡ start → after ≡ new → last ≡ last_of (left start)
    → f ≡ refused stop last (next_of (left new)) → Gets (vala_reader p m (tokens_of (left front))) (Err stop) (tokens_of (left new)) → stop_of (left new) ≡ stop_of (left front)
    → Parsed p level (left start) (Err f) (left after)
from_limit p level m same start front new after stop last f s t l is g kept =
    from_fault p level start front new after stop last f s t l is
    (gets_too (vala_reader p level (tokens_of (left front))) (vala_reader p m (tokens_of (left front))) (Err stop) (tokens_of (left new)) (same (tokens_of (left front))) g) kept
