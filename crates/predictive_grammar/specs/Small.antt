-- A small grammar: sums of numbers, brackets and calls, and acts with the nearest `else`. A power would be a further operator, which is left out.
use Rattle.std.specs.Prelude.{◌≡◌, ℕ, suc, Bool, true, false, not, ◌&&◌, ◌||◌, List, None}
use Rattle.predictive_grammar.specs.Forms.{Signature, Form, give, take, part, pick, bar, Productions}
use Rattle.predictive_grammar.specs.Follows.{Word, raw, Reads}
use Rattle.predictive_grammar.specs.Steps.{Limits, Outcome}
use Rattle.predictive_grammar.specs.Reading.{reader}
use Rattle.predictive_grammar.specs.Exact.{Answers}
use Rattle.predictive_grammar.specs.Fit.{Tables}

pub data Kind : Type 0 where
  Number : Kind
  Name : Kind
  Plus : Kind
  Power : Kind
  Open : Kind
  Close : Kind
  Comma : Kind
  If : Kind
  Else : Kind
  Semicolon : Kind

abbrev pub same : Kind → Kind → Bool
same Number Number = true
same Name Name = true
same Plus Plus = true
same Power Power = true
same Open Open = true
same Close Close = true
same Comma Comma = true
same If If = true
same Else Else = true
same Semicolon Semicolon = true
same _ _ = false

pub record Token : Type 0 where
  pub kind : Kind
  pub value : ℕ

pub data Tree : Type 0 where
  Constant : ℕ → Tree
  Bracket : Tree → Tree
  Add : Tree → Tree → Tree
  -- the name, and the items
  Call : ℕ → Tree → Tree
  NoItem : Tree
  Item : Tree → Tree → Tree
  Say : Tree → Tree
  When : Tree → Tree → Tree
  WhenElse : Tree → Tree → Tree → Tree

-- no `else` could go on with it
abbrev pub closed : Tree → Bool
closed (When c a) = false
closed (WhenElse c a b) = closed b
closed _ = true

pub data Part : Type 0 where
  Sum : Part
  -- what follows this sum
  SumTail : Tree → Part
  Operand : Part
  -- of this call, behind the bracket; behind so many items
  Items : ℕ → Part
  More : ℕ → ℕ → Tree → Part
  Act : Part
  -- what follows this first act behind `if` and the condition
  Tail : Tree → Tree → Part

-- what is left out: a power of this sum
pub data Label : Type 0 where
  PowerOf : Tree → Label

abbrev pub small : Signature
small = record { Token = Token; Kind = Kind; kind = λ (t : Token). t.kind; Part = Part; Tree = λ (p : Part). Tree; Label = Label }

-- at the level of the part, and one up
abbrev pub here : ℕ → ℕ
here l = l

abbrev pub inside : ℕ → ℕ
inside l = suc l

-- a token of this kind
abbrev pub one : {r : Part} → (up : ℕ → ℕ) → (items : ℕ) → Kind → (Token → Form small r) → Form small r
one up items x k = take up items (same x) k

abbrev pub tail : (c a : Tree) → Bool → Form small (Tail c a)
tail c a true = pick (same Else) (one here 0 Else (λ t. part inside Act (λ b. give (WhenElse c a b)))) (give (When c a))
tail c a false = give (When c a)

abbrev pub forms : Productions small
forms Sum = part here Operand (λ a. part here (SumTail a) (λ b. give b))
forms (SumTail a) = bar (same Power) (PowerOf a) (pick (same Plus) (one here 0 Plus (λ t. part inside Operand (λ b. part here (SumTail (Add a b)) (λ c. give c)))) (give a))
forms Operand =
    pick (same Number) (one here 0 Number (λ t. give (Constant t.value)))
    (pick (same Open) (one here 0 Open (λ t. part inside Sum (λ a. one inside 0 Close (λ s. give (Bracket a)))))
    (one here 0 Name (λ t. one here 0 Open (λ s. part inside (Items t.value) (λ a. give a)))))
forms (Items f) = pick (same Close) (one here 0 Close (λ t. give (Call f NoItem))) (part here Sum (λ a. part here (More f 1 (Item NoItem a)) (λ b. give b)))
forms (More f n xs) = pick (same Comma) (one here n Comma (λ t. part here Sum (λ a. part here (More f (suc n) (Item xs a)) (λ b. give b)))) (one here 0 Close (λ t. give (Call f xs)))
forms Act =
    pick (same If) (one here 0 If (λ t. one here 0 Open (λ s. part inside Sum (λ c. one inside 0 Close (λ u. part inside Act (λ a. part here (Tail c a) (λ b. give b)))))))
    (part here Sum (λ a. one here 0 Semicolon (λ t. give (Say a))))
forms (Tail c a) = tail c a (closed a)

abbrev pub begins_sum : Kind → Bool
begins_sum x = same Number x || (same Name x || same Open x)

-- in front of all but `else`, and of that too where the last act is closed
abbrev pub behind_act : Bool → Kind → Bool
behind_act b x = not (same Else x) || b

abbrev pub behind_sum : Kind → Bool
behind_sum x = not (same Plus x || same Power x)

abbrev pub first_of : Part → Kind → Bool
first_of Sum x = begins_sum x
first_of (SumTail a) x = same Plus x || same Power x
first_of Operand x = begins_sum x
first_of (Items f) x = same Close x || begins_sum x
first_of (More f n xs) x = same Comma x || same Close x
first_of Act x = same If x || begins_sum x
first_of (Tail c a) x = same Else x && closed a

abbrev pub opens_of : Part → Kind → Bool
opens_of (SumTail a) x = false
opens_of (Tail c a) x = false
opens_of p x = first_of p x

abbrev pub none_of : Part → Tree → Type 0
none_of (SumTail a) b = b ≡ a
none_of (Tail c a) b = b ≡ When c a
none_of _ b = ⊥

abbrev pub stop_of : Part → Tree → Kind → Bool
stop_of Sum a x = behind_sum x
stop_of (SumTail b) a x = behind_sum x
stop_of Act a x = behind_act (closed a) x
stop_of (Tail c b) a x = behind_act (closed a) x
stop_of _ a x = true

abbrev pub rank_of : Part → ℕ
rank_of Sum = 1
rank_of (Items f) = 2
rank_of Act = 2
rank_of _ = 0

abbrev pub tables : Tables small
tables = record { first = first_of; opens = opens_of; none = none_of; stop = stop_of; rank = rank_of; top = 2 }

-- The reader of each part answers what the small grammar says.
abbrev pub ReadsExactly : Type 0
ReadsExactly = (p : Part) (l : ℕ) (limits : Limits) (input : List Token) → Answers small forms p l limits input (reader small forms tables.top tables.rank limits p l input)

-- Texts of a part with the same tokens have the same tree.
abbrev pub HasOneTree : Type 0
HasOneTree = (p : Part) (l : ℕ) (u v : Word small) (a b : Tree) → raw u ≡ raw v → Reads small forms None p l u a → Reads small forms None p l v b → a ≡ b

-- Tokens have one answer.
abbrev pub HasOneAnswer : Type 0
HasOneAnswer = (p : Part) (l : ℕ) (limits : Limits) (input : List Token) (x y : Outcome small.Label Token Tree) → Answers small forms p l limits input x → Answers small forms p l limits input y → x ≡ y
