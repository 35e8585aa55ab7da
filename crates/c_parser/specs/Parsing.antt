-- What is read of a text.
use Rattle.std.specs.Prelude.{◌≡◌, ℕ, nat_lt, if◌then◌else◌, Bool, true, false, List, [], ◌∷◌, Option, Some, None}
use Rattle.c_lexer.specs.declared.token.BadToken.{BadToken}
use Rattle.c_lexer.specs.Tokens.{Lexeme, Tokens, all_of}
use Rattle.c_tree.specs.declared.kinds.Cause.TheVariants as cause
use Rattle.c_tree.specs.declared.kinds.Fault.{Fault}
use Rattle.c_tree.specs.declared.unit.Item.{Item}
use Rattle.c_tree.specs.Words.{Word, words, is_shallow}
use Rattle.c_tree.specs.Answers.{Ending, Whole, Broken, AreItems, last_start, ending, syntax_at}
use Rattle.c_grammar.specs.Fronts.{StopsWith, fault_at}
use Rattle.c_parser.specs.declared.unit.Stop.{Stop}

-- The text stops here: these are items of the tokens in front, with what could follow.
pub record StopsAt (text : Word) (e : Ending) (is : List Item) (s : Stop) : Type 0 where
  pub rest : Word
  pub stops : StopsWith text e is rest
  pub fault : s.fault ≡ fault_at rest e
  pub last : s.last ≡ last_start stops.word

-- what is read of tokens: all of them are these items, or they stop
abbrev pub ReadsTo : Word → Ending → List Item → Option Stop → Type 0
ReadsTo text (Whole n) is None = AreItems text is × (is_shallow [] text ≡ true)
ReadsTo text (Broken n) is None = ⊥
ReadsTo text e is (Some s) = StopsAt text e is s

-- What is read of bytes, by their tokens.
pub record Parses (bytes : List ℕ) (is : List Item) (stop : Option Stop) : Type 0 where
  pub tokens : List Lexeme
  pub bad : Option BadToken
  pub lexed : Tokens (all_of bytes) tokens bad
  pub reads : ReadsTo (words tokens) (ending bytes bad) is stop

-- the fault where a reader stops, by what stands behind the tokens, and whether it has stopped before their end
abbrev pub end_fault : ℕ → Bool → Option BadToken → Option Fault
end_fault «end» stopped (Some b) = Some (record { place = b.at; cause = cause.Token; since = b.at })
end_fault «end» true None = Some (syntax_at «end»)
end_fault «end» false None = None

-- the same by the tokens that are left
abbrev pub stop_fault : ℕ → Bool → Word → Option BadToken → Option Fault
stop_fault «end» stopped [] bad = end_fault «end» stopped bad
stop_fault «end» stopped (t ∷ ts) bad = Some (syntax_at t.start)

-- where the last token begins that stands in front of a place, or else the number that is given
abbrev pub last_before : ℕ → ℕ → Word → ℕ
last_before n place [] = n
last_before n place (t ∷ w) = if nat_lt t.start place then last_before t.start place w else n

-- a stop that is found is this fault, and the last token in front of it
abbrev pub StopIs : Word → Option Stop → Option Fault → Type 0
StopIs text None None = Unit {0}
StopIs text (Some s) (Some f) = (s.fault ≡ f) × (s.last ≡ last_before 0 f.place text)
StopIs text o f = ⊥
