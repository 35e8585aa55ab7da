-- Which bytes are which unit, and which refusal all other bytes have.
use Rattle.std.specs.Prelude.{◌≡◌, ℕ, ◌<◌, ◌≤◌, true, false, List, [], ◌∷◌, ◌++◌, length, Option, Some, None, Result, Ok, Err, All}
use Rattle.std.specs.Option.{option_map}
use Rattle.c_lexer.specs.Tokens.{Lexeme, Tokens, all_of}
use Rattle.c_lexer.specs.declared.token.BadToken.{BadToken}
use Rattle.vg_base.specs.declared.event.Fault.{Fault as Answer}
use Rattle.vg_base.specs.declared.event.Fault.TheVariants.{Refused, Memory}
use Rattle.c_tree.specs.declared.kinds.Cause.TheVariants as cause
use Rattle.c_tree.specs.declared.kinds.Fault.{Fault}
use Rattle.c_tree.specs.declared.kinds.Refusal.{Refusal}
use Rattle.c_tree.specs.declared.unit.Unit.{Unit as CUnit}
use Rattle.c_tree.specs.declared.unit.Item.{Item}
use Rattle.c_tree.specs.Words.{Token, Word, words, is_shallow}
use Rattle.c_tree.specs.Names.{library_names}
use Rattle.c_tree.specs.Items.{ReadsItems, ReadsUnit}
use Rattle.c_tree.specs.Faults.{least, known, fault, unless}
use Rattle.c_tree.specs.Unit.{unit_faults, has_main}

-- 1. Units

-- a unit that keeps every rule
abbrev pub IsSound : CUnit → Type 0
IsSound unit = (unit_faults unit ≡ []) × (has_main unit ≡ true)

-- THE DIALECT: these bytes are this unit.
pub record CReads (bytes : List ℕ) (unit : CUnit) : Type 0 where
  pub tokens : List Lexeme
  pub lexed : Tokens (all_of bytes) tokens None
  pub reads : ReadsUnit (words tokens) unit
  pub sound : IsSound unit

-- A unit is well formed where some text reads as it; the bytes of a text are below 256.
abbrev pub IsWellFormed : CUnit → Type 0
IsWellFormed unit = (bytes : List ℕ) × All (λ (b : ℕ). b < 256) bytes × CReads bytes unit

-- 2. Texts that stop

-- tokens that could follow: each starts and ends behind the place
abbrev pub Made : ℕ → Word → Type 0
Made n v = All (λ (t : Token). (n < t.start) × (n < t.end)) v

-- where the last token begins
abbrev pub last_start : Word → ℕ
last_start [] = 0
last_start (t ∷ []) = t.start
last_start (t ∷ s ∷ w) = last_start (s ∷ w)

-- what is known of a list once the tokens were taken; behind none nothing is
abbrev pub known_behind : Word → List Fault → List Fault
known_behind [] fs = []
known_behind (t ∷ w) fs = known (last_start (t ∷ w)) fs

-- what stands behind the tokens: nothing, at the end of the bytes, or what is no token
pub data Ending : Type 0 where
  Whole : ℕ → Ending
  Broken : ℕ → Ending

-- items that tokens are
abbrev pub AreItems : Word → List Item → Type 0
AreItems = ReadsItems library_names

-- no items go on with the tokens, whatever is open in them
abbrev pub GoNoFurther : Word → Type 0
GoNoFurther w = (v : Word) (is : List Item) → AreItems (w ++ v) is → ⊥

-- the refusal of a text that stops at a place
abbrev pub syntax_at : ℕ → Fault
syntax_at n = record { place = n; cause = cause.Syntax; since = n }

-- The tokens that are read, and what refuses the text where they stop: what is no token, a token with which no items go on, the bracket that is the 65th that is open, or the end.
pub data Stops (text : Word) : Ending → Word → Fault → Type 0 where
  at_broken : (at : ℕ) → Stops text (Broken at) text (record { place = at; cause = cause.Token; since = at })
  at_token : (e : Ending) (w : Word) (t : Token) (r : Word) → text ≡ w ++ t ∷ r → GoNoFurther (w ++ t ∷ []) → Stops text e w (syntax_at t.start)
  at_deep : (e : Ending) (w : Word) (t : Token) (r : Word) → text ≡ w ++ t ∷ r → is_shallow [] (w ++ t ∷ []) ≡ false → Stops text e w (syntax_at t.start)
  at_end : (n : ℕ) → ((is : List Item) → AreItems text is → ⊥) → Stops text (Whole n) text (syntax_at n)

-- The tokens begin items: no more than 64 brackets are open in them, and what could follow behind the place makes items of them.
pub record Begins (n : ℕ) (w : Word) : Type 0 where
  pub shallow : is_shallow [] w ≡ true
  pub rest : Word
  pub items : List Item
  pub made : Made n rest
  pub reads : AreItems (w ++ rest) items

-- the faults of items
abbrev pub faults_of : List Item → List Fault
faults_of is = unit_faults (record { items = is })

-- a unit without `main` is refused at the end of its text
abbrev pub without_main : CUnit → ℕ → List Fault
without_main unit n = unless (has_main unit) (fault cause.Syntax n n)

-- a fault as it is answered: its cause and its place
abbrev pub refusal : Fault → Refusal
refusal f = record { cause = f.cause; at = f.place }

-- the first refusal among what there is and a list
abbrev pub first_of : Option Fault → List Fault → Option Refusal
first_of o fs = option_map refusal (least o fs)

-- WHAT TOKENS ANSWER: their unit, where they are one and it has no fault; else the first fault of it. Where the text stops,
-- the first of what stops it and of what is known in front of that place of any text that begins so.
pub data Says (text : Word) : Ending → Result CUnit Refusal → Type 0 where
  unit : (n : ℕ) (u : CUnit) → ReadsUnit text u → IsSound u → Says text (Whole n) (Ok u)
  faulty : (n : ℕ) (u : CUnit) (r : Refusal) → ReadsUnit text u → first_of None (unit_faults u ++ without_main u n) ≡ Some r → Says text (Whole n) (Err r)
  stopped : (e : Ending) (w : Word) (own : Fault) (r : Refusal) → Stops text e w own → Begins own.place w
      → ((v : Word) (is : List Item) → Made own.place v → AreItems (w ++ v) is → first_of (Some own) (known_behind w (faults_of is)) ≡ Some r) → Says text e (Err r)

-- 3. Bytes

-- what stands behind the tokens of bytes
abbrev pub ending : List ℕ → Option BadToken → Ending
ending bytes None = Whole (length bytes)
ending bytes (Some b) = Broken b.at

-- WHAT BYTES ANSWER under a limit: too large before all else.
pub data Answers (bytes : List ℕ) (limit : ℕ) : Result CUnit Refusal → Type 0 where
  large : limit < length bytes → Answers bytes limit (Err (record { cause = cause.Large; at = limit }))
  reads : (u : CUnit) (ts : List Lexeme) → length bytes ≤ limit → Tokens (all_of bytes) ts None → Says (words ts) (Whole (length bytes)) (Ok u) → Answers bytes limit (Ok u)
  refused : (r : Refusal) (ts : List Lexeme) (b : Option BadToken) → length bytes ≤ limit → Tokens (all_of bytes) ts b → Says (words ts) (ending bytes b) (Err r) → Answers bytes limit (Err r)

-- what reading gives; want of memory says nothing
abbrev pub Reading : List ℕ → ℕ → Result CUnit (Answer Refusal) → Type 0
Reading bytes limit (Ok u) = Answers bytes limit (Ok u)
Reading bytes limit (Err (Refused r)) = Answers bytes limit (Err r)
Reading bytes limit (Err Memory) = Unit {0}
