-- What the mending reader of items gives is what stops a text.
use Rattle.std.specs.Prelude.{◌≡◌, ℕ, ◌≤◌, true, false, List, [], ◌∷◌, ◌++◌, Some, None}
use Rattle.mending_readers.specs.Mending.{State, Going, Stopped, Mended}
use Rattle.c_tree.specs.declared.kinds.Cause.TheVariants as cause
use Rattle.c_tree.specs.declared.kinds.Fault.{Fault}
use Rattle.c_tree.specs.declared.unit.Item.{Item}
use Rattle.c_tree.specs.Words.{Token, Word, is_shallow}
use Rattle.c_tree.specs.Names.{library_names}
use Rattle.c_tree.specs.Answers.{Ending, Whole, Broken, AreItems, Stops, syntax_at, Made}
use Rattle.c_grammar.specs.Parts.{at, ItemsOf}
use Rattle.c_grammar.specs.Laws.{c_limits}
use Rattle.c_grammar.specs.Mending.{c_mender}

-- where the tokens end
abbrev pub end_of : Ending → ℕ
end_of (Whole n) = n
end_of (Broken n) = n

-- what refuses a text that stops with these tokens left: the first of them, or what stands behind all tokens
abbrev pub fault_at : (rest : Word) → Ending → Fault
fault_at (t ∷ ts) ending = syntax_at t.start
fault_at [] (Whole n) = syntax_at n
fault_at [] (Broken n) = record { place = n; cause = cause.Token; since = n }

-- The text stops in front of the rest, and these are the items of the word before it and of what could follow behind that place.
pub record StopsWith (text : Word) (ending : Ending) (is : List Item) (rest : Word) : Type 0 where
  pub word : Word
  pub front : text ≡ word ++ rest
  pub stops : Stops text ending word (fault_at rest ending)
  pub shallow : is_shallow [] word ≡ true
  pub missing : Word
  pub made : Made (fault_at rest ending).place missing
  pub reads : AreItems (word ++ missing) is

-- items to the end of the tokens: those of the whole text, where nothing else stands behind them
abbrev pub ToTheEnd : Word → Ending → List Item → Type 0
ToTheEnd text (Whole n) is = AreItems text is × (is_shallow [] text ≡ true)
ToTheEnd text (Broken n) is = StopsWith text (Broken n) is []

-- items, and where the mending reader is behind them
abbrev pub GivesItems : Word → Ending → List Item → State Token → Type 0
GivesItems text ending is (Going []) = ToTheEnd text ending is
GivesItems text ending is (Going (t ∷ ts)) = StopsWith text ending is (t ∷ ts)
GivesItems text ending is (Stopped rest) = StopsWith text ending is rest

-- the same of what a mending reader gives
abbrev pub Completes : Word → Ending → Mended Token (List Item) → Type 0
Completes text ending None = ⊥
Completes text ending (Some x) = GivesItems text ending x.0 x.1

-- The mending reader of items gives the items of the text, or items that the text begins in front of where it stops. The end of the text, behind
-- which it makes up what is missing there, is no earlier than that of the tokens.
abbrev pub FrontsAreCompleted : Type 0
FrontsAreCompleted = (ending : Ending) (end : ℕ) → end_of ending ≤ end → (text : Word)
    → Completes text ending (c_mender «end» c_limits (at library_names (ItemsOf false)) 0 (Going text))
