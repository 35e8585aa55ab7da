-- A tree that was read in a box.
use Rattle.std.proofs.Common.{◌≡◌, ℕ, Ok, sym, subst}
use Rattle.vala_lexer.specs.Tokens.{left}
use Rattle.vala_lexer.specs.declared.cursor.Lexer.{Lexer}
use Rattle.vala_grammar.specs.Parts.{Part, tree_of}
use Rattle.vala_grammar.specs.Read.{vala_reader}
use Rattle.vala_cursor.specs.Parsed.{Parsed}
use Rattle.vala_cursor.specs.Rest.{tokens_of, stop_of}
use Rattle.vala_cursor.proofs.Parsed.{from_tree}

pub from_boxed : (p : Part) (level : ℕ) (start front new after : Lexer) (a b : tree_of p) → b ≡ a → front ≡ start → after ≡ new
    → vala_reader p level (tokens_of (left front)) ≡ Ok (a, tokens_of (left new)) → stop_of (left new) ≡ stop_of (left front) → Parsed p level (left start) (Ok b) (left after)
from_boxed p level start front new after a b same s t e kept =
    subst (λ (x : tree_of p). Parsed p level (left start) (Ok x) (left after)) (sym same) (from_tree p level start front new after a s t e kept)
