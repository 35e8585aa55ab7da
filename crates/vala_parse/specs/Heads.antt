-- A token that tells of what kind a declaration is.
use Rattle.std.specs.Prelude.{ℕ, List, Option, Some, None}
use Rattle.predictive_grammar.specs.Steps.{Parser, ◌>>=◌, pure}
use Rattle.vala_tree.specs.declared.member.Modifier.{Modifier}
use Rattle.vala_lexer.specs.Tokens.{Lexeme}
use Rattle.vala_grammar.specs.declared.sort.Sort.{Sort}
use Rattle.vala_grammar.specs.Label.{Label}
use Rattle.vala_file_grammar.specs.Kinds.{sorted}
use Rattle.vala_file_grammar.specs.Heads.{HeadKind, first_wrong, wrong_word}
use Rattle.vala_parse.specs.Steps.{one, way, refuse}

abbrev pub told_by : HeadKind → Sort → ℕ → Option Modifier → Parser Label Lexeme (Option Lexeme)
told_by h x l None = way (sorted x) (one x l >>= λ t. pure (Some t)) (pure None)
told_by h x l (Some m) = way (sorted x) (refuse (wrong_word h m)) (pure None)

-- the token, where it stands next and the declaration takes the words in front
unfoldable pub told : HeadKind → List Modifier → Sort → ℕ → Parser Label Lexeme (Option Lexeme)
told h ms x l = told_by h x l (first_wrong h ms)
