-- The steps that parts are read by.
use Rattle.std.specs.Prelude.{ℕ, Bool, if◌then◌else◌, List, [], ◌∷◌, ◌++◌, Some}
use Rattle.mending_readers.specs.Mending.{State, Mended, mend_token, mend_then, next_in}
use Rattle.c_tree.specs.Names.{Names}
use Rattle.c_tree.specs.Words as words
use Rattle.c_grammar.specs.Sorts.{kind}
use Rattle.c_grammar.specs.Parts.{What, at, tree_of}
use Rattle.c_grammar.specs.Grammar.{C}
use Rattle.c_grammar.specs.Laws.{c_limits}
use Rattle.c_grammar.specs.Mending.{made_up, c_mender}
use Rattle.c_cursor.specs.declared.sets.Set.{Set}
use Rattle.c_cursor.specs.Sets.{is_in}

-- what is read, and where the reader is behind it
abbrev pub Read : Type 0 → Type 0
Read A = Mended words.Token A

-- where the reader is
abbrev pub Place : Type 0
Place = State words.Token

-- a token of a set, taken or made up
unfoldable pub one : ℕ → Names → Set → ℕ → Place → Read words.Token
one «end» ns x l s = Some (mend_token C (made_up «end») c_limits l 0 (is_in x ns) [] s)

-- whether the next token is in a set
unfoldable pub is_next : Names → Set → Place → Bool
is_next ns x s = next_in kind (is_in x ns) s

-- a part
unfoldable pub read : ℕ → Names → (w : What) → ℕ → Place → Read (tree_of w)
read «end» ns w l s = c_mender «end» c_limits (at ns w) l s

-- the way that the next token decides
abbrev pub way : {A : Type 0} → Names → Set → Place → Read A → Read A → Read A
way ns x s a b = if is_next ns x s then a else b

-- a tree made of what is read
abbrev pub give : {A B : Type 0} → (A → B) → Read A → Read B
give f o = mend_then o (λ a z. Some (f a, z))

-- an element in front of those that are read
unfoldable pub first_then : {A : Type 0} → A → Read (List A) → Read (List A)
first_then x o = give (λ xs. x ∷ xs) o

-- elements in front of those that are read
unfoldable pub behind : {A : Type 0} → List A → Read (List A) → Read (List A)
behind xs o = give (λ ys. xs ++ ys) o
