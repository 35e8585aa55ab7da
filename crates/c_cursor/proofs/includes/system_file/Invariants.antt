use Rattle.std.proofs.Common.{◌≡◌, ◌∷◌, drop}
use Rattle.c_tree.specs.Words as words
use Rattle.c_cursor.specs.Files.{after, file_among}
use Rattle.c_cursor.specs.Fronts.{lexeme}
use Rattle.c_cursor.proofs.includes.system_file.Given as goal

-- none of the files so far is named
abbrev pub invariant-loop-known : goal.invariant-loop-known
invariant-loop-known l =
    words.system_file l.first.start (lexeme l.first ∷ after l.lexer) ≡ file_among (drop l.known-index l.known-items) l.first.start
    (lexeme l.first ∷ after l.lexer)
