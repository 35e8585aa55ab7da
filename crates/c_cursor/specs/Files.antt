-- Included files whose names the lexer cuts into several tokens.
use Rattle.std.specs.Prelude.{◌≡◌, ℕ, ◌+◌, ◌-◌, if◌then◌else◌, List, [], ◌∷◌, length, take, drop, Option, Some, None}
use Rattle.std.specs.Str.{bytes_eq}
use Rattle.c_lexer.specs.Tokens.{Lexeme, left, behind_next}
use Rattle.c_lexer.specs.declared.cursor.Lexer.{Lexer}
use Rattle.c_tree.specs.Words.{Named, named, header, side_by_side}
use Rattle.c_nodes.specs.Seen.{seen, file_of}
use Rattle.c_cursor.specs.declared.included.Included.{Included}
use Rattle.c_cursor.specs.declared.includes.SystemFile.{SystemFile}
use Rattle.c_cursor.specs.Rest.{tokens_of, bad_of}

-- what a token of an included file is: that of the name, which the lexer stands behind
pub record IsFile (named : Named) (front : Lexer) (t : Lexeme) (ts : List Lexeme) (found : Included) : Type 0 where
  pub token : seen found.token ≡ header t ts named
  pub tokens : tokens_of (left found.behind) ≡ drop (named.tokens - 1) ts
  pub bad : bad_of (left found.behind) ≡ bad_of (left front)
  pub text : (left found.behind).bytes ≡ (left front).bytes

-- an included file is found where tokens name one
abbrev pub Finds : Option Named → Lexer → Lexeme → List Lexeme → Option Included → Type 0
Finds None front t ts None = Unit {0}
Finds (Some n) front t ts (Some found) = IsFile n front t ts found
Finds _ front t ts _ = ⊥

-- the tokens behind the next one
abbrev pub after : Lexer → List Lexeme
after front = tokens_of (behind_next (left front))

-- the same by what is named from the next token on
abbrev pub FindsAt : (List Lexeme → Option Named) → Lexer → Lexeme → Option Included → Type 0
FindsAt f front t found = Finds (f (after front)) front t (after front) found

-- where tokens end that have a spelling, as far as they stand side by side
abbrev pub spelled : ℕ → ℕ → List Lexeme → List ℕ → Option ℕ
spelled at n ts spelling = if bytes_eq (side_by_side at (take n ts)) spelling then Some (at + length spelling) else None

-- the first of these files that tokens name
abbrev pub file_among : List SystemFile → ℕ → List Lexeme → Option Named
file_among [] at ts = None
file_among (k ∷ ks) at ts =
    if bytes_eq (side_by_side at (take k.tokens ts)) k.spelling.now then named (file_of k.file []) k.tokens else file_among ks at ts
