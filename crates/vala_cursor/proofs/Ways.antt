-- Ways that the next token decides.
use Rattle.std.proofs.Common.{◌≡◌, Bool, true, false, not, ◌&&◌, ◌||◌, List, [], ◌∷◌, Option, Some, None, Ok, Err, refl, true≢false, sym}
use Rattle.vala_lexer.specs.Tokens.{Lexeme}
use Rattle.vala_grammar.specs.declared.sort.Sort.{Sort}
use Rattle.vala_cursor.specs.Gets.{next, sort_at}

-- whether a sort that may be there passes
abbrev pub passes : (Sort → Bool) → Option Sort → Bool
passes f None = false
passes f (Some x) = f x

pub next_sort : (f : Sort → Bool) (i : List Lexeme) → next f i ≡ passes f (sort_at i)
next_sort f [] = refl
next_sort f (t ∷ ts) = refl

-- where neither stands in front
pub is_behind : (a b c : Bool) → a ≡ false → b ≡ false → (not a && (b || c)) ≡ c
is_behind false false c e f = refl
is_behind true b c e f = absurd (true≢false e)
is_behind false true c e f = absurd (true≢false f)
