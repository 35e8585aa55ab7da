-- The small grammar fits.
use Rattle.std.proofs.Common.{◌≡◌, ℕ, ◌≤◌, Bool, true, false, ◌&&◌, ◌||◌, List, [], ◌∷◌, Ok, Err, refl, sym, ap, true≢false, arith}
use Rattle.predictive_grammar.specs.Forms.{Form}
use Rattle.predictive_grammar.specs.Steps.{Outcome, Syntax, LeftOut, Nesting, Number as TooMany}
use Rattle.predictive_grammar.specs.Reading.{reader, walk, run}
use Rattle.predictive_grammar.specs.Fit.{Opens, Fit, IsPredictive}
use Rattle.predictive_grammar.specs.Small.{PowerOf, Kind, Number, Name, Plus, Power, Open, Close, Comma, If, Else, Semicolon, same, Token, Tree, Constant, Bracket, Add, Call, NoItem, Say, When, WhenElse, closed, Part, Sum, SumTail, Operand, Items, More, Act, Tail, small, forms, tail, behind_act, tables, ReadsExactly, HasOneTree, HasOneAnswer}
use Rattle.predictive_grammar.proofs.Sets.{Finite, any, is_within, by_list}
use Rattle.predictive_grammar.proofs.Fits.{Tabled, Nones, never, only, Among, done, token, text, choice, barred, fit_part, opens_as}
use Rattle.predictive_grammar.proofs.Ways.{Way, end, by_token, by_text, one, other, on, some_text}
use Rattle.predictive_grammar.proofs.Main as main
use Rattle.predictive_grammar.proofs.Once as once

same_is : (x y : Kind) → same x y ≡ true → x ≡ y
same_is Number Number e = refl
same_is Name Name e = refl
same_is Plus Plus e = refl
same_is Power Power e = refl
same_is Open Open e = refl
same_is Close Close e = refl
same_is Comma Comma e = refl
same_is If If e = refl
same_is Else Else e = refl
same_is Semicolon Semicolon e = refl
same_is _ _ e = absurd (true≢false (sym e))

abbrev all_kinds : List Kind
all_kinds = Number ∷ Name ∷ Plus ∷ Power ∷ Open ∷ Close ∷ Comma ∷ If ∷ Else ∷ Semicolon ∷ []

every : (x : Kind) → any (same x) all_kinds ≡ true
every Number = refl
every _ = refl

abbrev kinds : Finite Kind
kinds = record { kinds = all_kinds; same = same; same_is = same_is; every = every }

abbrev sample : Kind → Token
sample x = record { kind = x; value = 0 }

is_sample : (x : Kind) → (sample x).kind ≡ x
is_sample x = refl

abbrev nones : Part → Nones Tree
nones (SumTail a) = only a
nones (Tail c a) = only (When c a)
nones _ = never

means : (p : Part) (a : Tree) → tables.none p a → Among (nones p) a
means (SumTail b) a e = e
means (Tail c b) a e = e
means _ a e = e

abbrev tabled : Tabled
tabled = record { signature = small; forms = forms; tables = tables; checks = by_list kinds; Sample = Kind; shape = λ x. x; sample = sample; is_sample = is_sample; nones = nones; means = means }

abbrev FitsAs : Part → Type 1
FitsAs p = Fit small tables p false (tables.first p) (tables.none p) (forms p)

-- what ends by its tree, for both answers

behind_less : (b : Bool) → is_within kinds (λ x. behind_act false x) (λ x. behind_act b x) ≡ true
behind_less true = refl
behind_less false = refl

behind_same : (b : Bool) → is_within kinds (λ x. behind_act b x) (λ x. behind_act b x) ≡ true
behind_same true = refl
behind_same false = refl

else_less : (b : Bool) → is_within kinds (λ x. (same Else x && b) || false) (λ x. behind_act b x) ≡ true
else_less true = refl
else_less false = refl

fit_sum : FitsAs Sum
fit_sum = fit_part tabled Sum (text refl (λ a. text refl (λ b. done b) (λ b. refl) (λ b. refl)) (λ a. refl) (λ a. refl)) refl (λ a e. absurd e)

fit_sum_tail : (a : Tree) → FitsAs (SumTail a)
fit_sum_tail a = fit_part tabled (SumTail a)
    (barred (choice (token Plus refl (λ t. text refl (λ b. text refl (λ c. done c) (λ c. refl) (λ c. refl)) (λ b. refl) (λ b. refl))) (done a) refl refl) refl refl) refl (λ b e. e)

fit_operand : FitsAs Operand
fit_operand = fit_part tabled Operand
    (choice (token Number refl (λ t. done (Constant t.value)))
    (choice (token Open refl (λ t. text refl (λ a. token Close refl (λ s. done (Bracket a))) (λ a. refl) (λ a. tt)))
    (token Name refl (λ t. token Open refl (λ s. text refl (λ a. done a) (λ a. refl) (λ a. refl)))) refl tt) refl tt) refl (λ a e. absurd e)

fit_items : (f : ℕ) → FitsAs (Items f)
fit_items f = fit_part tabled (Items f)
    (choice (token Close refl (λ t. done (Call f NoItem))) (text refl (λ a. text refl (λ b. done b) (λ b. refl) (λ b. refl)) (λ a. refl) (λ a. tt)) refl tt) refl (λ a e. absurd e)

fit_more : (f n : ℕ) (xs : Tree) → FitsAs (More f n xs)
fit_more f n xs = fit_part tabled (More f n xs)
    (choice (token Comma refl (λ t. text refl (λ a. text refl (λ b. done b) (λ b. refl) (λ b. refl)) (λ a. refl) (λ a. tt))) (token Close refl (λ t. done (Call f xs))) refl tt) refl (λ a e. absurd e)

fit_act : FitsAs Act
fit_act = fit_part tabled Act
    (choice
    (token If refl (λ t. token Open refl (λ s. text refl
    (λ c. token Close refl (λ u. text refl (λ a. text refl (λ b. done b) (λ b. refl) (λ b. behind_same (closed b))) (λ a. else_less (closed a)) (λ a. behind_less (closed a))))
    (λ c. refl) (λ c. tt))))
    (text refl (λ a. token Semicolon refl (λ t. done (Say a))) (λ a. refl) (λ a. tt)) refl tt) refl (λ a e. absurd e)

fit_tail : (c a : Tree) (b : Bool) → closed a ≡ b → Fit small tables (Tail c a) false (tables.first (Tail c a)) (tables.none (Tail c a)) (tail c a b)
fit_tail c a true e = fit_part tabled (Tail c a)
    (choice (token Else refl (λ t. text refl (λ b. done (WhenElse c a b)) (λ b. refl) (λ b. behind_same (closed b)))) (done (When c a)) refl refl)
    (ap (λ (b : Bool). is_within kinds (λ x. same Else x || false) (λ x. same Else x && b)) e) (λ b i. i)
fit_tail c a false e = fit_part tabled (Tail c a) (done (When c a)) refl (λ b i. i)

fits : (p : Part) → FitsAs p
fits Sum = fit_sum
fits (SumTail a) = fit_sum_tail a
fits Operand = fit_operand
fits (Items f) = fit_items f
fits (More f n xs) = fit_more f n xs
fits Act = fit_act
fits (Tail c a) = fit_tail c a (closed a) refl

opening : (p : Part) (x : Kind) → tables.opens p x ≡ true → Opens small tables p x (forms p)
opening Sum = opens_as tabled Sum refl
opening (SumTail a) = opens_as tabled (SumTail a) refl
opening Operand = opens_as tabled Operand refl
opening (Items f) = opens_as tabled (Items f) refl
opening (More f n xs) = opens_as tabled (More f n xs) refl
opening Act = opens_as tabled Act refl
opening (Tail c a) = opens_as tabled (Tail c a) refl

abbrev cost : Part → ℕ
cost Sum = 1
cost Act = 2
cost _ = 0

abbrev WayOf : (p : Part) → Form small p → Type 0
WayOf p form = Way small forms cost sample is_sample p form

way_tail : (c a : Tree) (b : Bool) → WayOf (Tail c a) (tail c a b)
way_tail c a true = other end
way_tail c a false = end

ways : (p : Part) → WayOf p (forms p)
ways Sum = by_text refl (λ a. by_text refl (λ b. end))
ways (SumTail a) = on (other end)
ways Operand = one (by_token Number refl end)
ways (Items f) = one (by_token Close refl end)
ways (More f n xs) = other (by_token Close refl end)
ways Act = other (by_text refl (λ a. by_token Semicolon refl end))
ways (Tail c a) = way_tail c a (closed a)

lows : (p : Part) → tables.rank p ≤ tables.top
lows Sum = omega arith
lows _ = omega arith

pub predictive : IsPredictive small forms tables
predictive = record { fits = fits; opens = opening; some = some_text small forms cost sample is_sample ways; low = lows }

pub reads_exactly : ReadsExactly
reads_exactly p l limits input = main.answers small forms tables predictive p l limits input

pub has_one_tree : HasOneTree
has_one_tree p l u v a b e x y = main.one_tree small forms tables predictive p l u v a b e x y

pub has_one_answer : HasOneAnswer
has_one_answer p l limits input x y a b = once.one_answer small forms tables predictive p l limits input x y a b

-- ---- readings

abbrev token_with : Kind → ℕ → Token
token_with x n = record { kind = x; value = n }

abbrev plain : Kind → Token
plain x = token_with x 0

abbrev number : ℕ → Token
number n = token_with Number n

abbrev read : List Token → Outcome small.Label Token Tree
read input = reader small forms tables.top tables.rank (record { levels = 3; items = 2 }) Act 0 input

-- `if (1) if (2) 3; else 4;`
nearest_else : read (plain If ∷ plain Open ∷ number 1 ∷ plain Close ∷ plain If ∷ plain Open ∷ number 2 ∷ plain Close ∷ number 3 ∷ plain Semicolon ∷ plain Else ∷ number 4 ∷ plain Semicolon ∷ [])
    ≡ Ok (When (Constant 1) (WhenElse (Constant 2) (Say (Constant 3)) (Say (Constant 4))), [])
unfolding reader run walk
nearest_else = refl

-- `1 + (2);` and more
goes_no_further : read (number 1 ∷ plain Plus ∷ plain Open ∷ number 2 ∷ plain Close ∷ plain Semicolon ∷ number 3 ∷ []) ≡ Ok (Say (Add (Constant 1) (Bracket (Constant 2))), number 3 ∷ [])
unfolding reader run walk
goes_no_further = refl

-- `1 2`
syntax : read (number 1 ∷ number 2 ∷ []) ≡ Err (Syntax, number 2 ∷ [])
unfolding reader run walk
syntax = refl

-- `1 ^ 2;`
left_out : read (number 1 ∷ plain Power ∷ number 2 ∷ plain Semicolon ∷ []) ≡ Err (LeftOut (PowerOf (Constant 1)), plain Power ∷ number 2 ∷ plain Semicolon ∷ [])
unfolding reader run walk
left_out = refl

-- `(((1`
too_high : read (plain Open ∷ plain Open ∷ plain Open ∷ number 1 ∷ []) ≡ Err (Nesting, number 1 ∷ [])
unfolding reader run walk
too_high = refl

-- `f(1, 2, 3);`
too_many : read (plain Name ∷ plain Open ∷ number 1 ∷ plain Comma ∷ number 2 ∷ plain Comma ∷ number 3 ∷ plain Close ∷ plain Semicolon ∷ [])
    ≡ Err (TooMany, plain Comma ∷ number 3 ∷ plain Close ∷ plain Semicolon ∷ [])
unfolding reader run walk
too_many = refl
