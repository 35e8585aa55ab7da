-- The small grammar is mended.
use Rattle.std.proofs.Common.{◌≡◌, ℕ, ◌≤◌, Bool, true, false, if◌then◌else◌, List, [], ◌∷◌, Some, refl, sym, true≢false, arith}
use Rattle.predictive_grammar.specs.Forms.{Form}
use Rattle.predictive_grammar.specs.Fit.{Opens, Fit, IsPredictive}
use Rattle.predictive_grammar.specs.Small.{Kind, Number, Name, Plus, Power, Open, Close, Comma, If, Else, Semicolon, same, Token, Tree, Constant, Add, Call, NoItem, Say, When, closed, Part, Sum, SumTail, Operand, Items, More, Act, Tail, small, tail, tables}
use Rattle.predictive_grammar.proofs.Sets.{any, by_list}
use Rattle.predictive_grammar.proofs.Fits.{Tabled, Nones, never, only, Among, done, token, text, choice, fit_part, opens_as}
use Rattle.predictive_grammar.proofs.Ways.{Way, end, by_token, by_text, one, other, on, some_text}
use Rattle.predictive_grammar.proofs.Small as first
use Rattle.mending_readers.specs.Mending.{Going, Stopped, first_that, mender, mend_run, mend_walk, Serves, serves_give, serves_take, serves_part, serves_pick, serves_where, serves_bar, Lower, lower_give, lower_take, lower_part, lower_pick, lower_bar, IsMended}
use Rattle.mending_readers.specs.Small.{forms, made, made_up, IsNew, IsMendedSmall}
use Rattle.mending_readers.proofs.Menders.{texts_are_mended}

-- ---- one token of lookahead reads it

same_is : (x y : Kind) → same x y ≡ true → x ≡ y
same_is Number Number e = refl
same_is Name Name e = refl
same_is Plus Plus e = refl
same_is Power Power e = refl
same_is Open Open e = refl
same_is Close Close e = refl
same_is Comma Comma e = refl
same_is If If e = refl
same_is Else Else e = refl
same_is Semicolon Semicolon e = refl
same_is _ _ e = absurd (true≢false (sym e))

abbrev all_kinds : List Kind
all_kinds = Number ∷ Name ∷ Plus ∷ Power ∷ Open ∷ Close ∷ Comma ∷ If ∷ Else ∷ Semicolon ∷ []

every : (x : Kind) → any (same x) all_kinds ≡ true
every Number = refl
every _ = refl

is_sample : (x : Kind) → (made x).kind ≡ x
is_sample x = refl

abbrev nones : Part → Nones Tree
nones (SumTail a) = only a
nones (Tail c a) = only (When c a)
nones _ = never

means : (p : Part) (a : Tree) → tables.none p a → Among (nones p) a
means (SumTail b) a e = e
means (Tail c b) a e = e
means _ a e = e

abbrev tabled : Tabled
tabled = record {
  signature = small;
  forms = forms;
  tables = tables;
  checks = by_list (record { kinds = all_kinds; same = same; same_is = same_is; every = every });
  Sample = Kind;
  shape = λ x. x;
  sample = made;
  is_sample = is_sample;
  nones = nones;
  means = means;
}

fits : (p : Part) → Fit small tables p false (tables.first p) (tables.none p) (forms p)
fits Sum = first.predictive.fits Sum
fits (SumTail a) = first.predictive.fits (SumTail a)
fits Operand = first.predictive.fits Operand
fits (Items f) = fit_part tabled (Items f)
    (choice (text refl (λ a. text refl (λ b. done b) (λ b. refl) (λ b. refl)) (λ a. refl) (λ a. tt)) (token Close refl (λ t. done (Call f NoItem))) refl tt) refl (λ a e. absurd e)
fits (More f n xs) = first.predictive.fits (More f n xs)
fits Act = first.predictive.fits Act
fits (Tail c a) = first.predictive.fits (Tail c a)

opening : (p : Part) (x : Kind) → tables.opens p x ≡ true → Opens small tables p x (forms p)
opening Sum = first.predictive.opens Sum
opening (SumTail a) = first.predictive.opens (SumTail a)
opening Operand = first.predictive.opens Operand
opening (Items f) = opens_as tabled (Items f) refl
opening (More f n xs) = first.predictive.opens (More f n xs)
opening Act = first.predictive.opens Act
opening (Tail c a) = first.predictive.opens (Tail c a)

abbrev cost : Part → ℕ
cost Sum = 1
cost Act = 2
cost _ = 0

abbrev WayOf : (p : Part) → Form small p → Type 0
WayOf p form = Way small forms cost made is_sample p form

way_tail : (c a : Tree) (b : Bool) → WayOf (Tail c a) (tail c a b)
way_tail c a true = other end
way_tail c a false = end

ways : (p : Part) → WayOf p (forms p)
ways Sum = by_text refl (λ a. by_text refl (λ b. end))
ways (SumTail a) = on (other end)
ways Operand = one (by_token Number refl end)
ways (Items f) = other (by_token Close refl end)
ways (More f n xs) = other (by_token Close refl end)
ways Act = other (by_text refl (λ a. by_token Semicolon refl end))
ways (Tail c a) = way_tail c a (closed a)

predictive : IsPredictive small forms tables
predictive = record { fits = fits; opens = opening; some = some_text small forms cost made is_sample ways; low = first.predictive.low }

-- ---- what is made up

abbrev Served : (p : Part) → List Token → Form small p → Type 0
Served p before form = Serves small made_up p before form

served_tail : (c a : Tree) (b : Bool) → Served (Tail c a) [] (tail c a b)
served_tail c a true = serves_where (λ t e. serves_part (λ b. serves_give)) serves_give
served_tail c a false = serves_give

served : (p : Part) → Served p [] (forms p)
served Sum = serves_part (λ a. serves_part (λ b. serves_give))
served (SumTail a) = serves_bar (serves_where (λ t e. serves_part (λ b. serves_part (λ c. serves_give))) serves_give)
served Operand = serves_where (λ t e. serves_give) (serves_where (λ t e. serves_part (λ a. serves_take (λ rest. refl) (λ s e. serves_give)))
    (serves_take (λ rest. refl) (λ t e. serves_take (λ rest. refl) (λ s e. serves_part (λ a. serves_give)))))
served (Items f) = serves_pick (serves_part (λ a. serves_part (λ b. serves_give))) (serves_take (λ rest. refl) (λ t e. serves_give))
served (More f n xs) = serves_where (λ t e. serves_part (λ a. serves_part (λ b. serves_give))) (serves_take (λ rest. refl) (λ t e. serves_give))
served Act = serves_where (λ t e. serves_take (λ rest. refl) (λ s e. serves_part (λ c. serves_take (λ rest. refl) (λ u e. serves_part (λ a. serves_part (λ b. serves_give))))))
    (serves_part (λ a. serves_take (λ rest. refl) (λ t e. serves_give)))
served (Tail c a) = served_tail c a (closed a)

abbrev height : Part → ℕ
height Sum = 2
height Operand = 1
height Act = 3
height _ = 0

abbrev Lowered : (p : Part) → Form small p → Type 0
Lowered p form = Lower small height p form

lowered_tail : (c a : Tree) (b : Bool) → Lowered (Tail c a) (tail c a b)
lowered_tail c a true = lower_pick lower_give
lowered_tail c a false = lower_give

lowered : (p : Part) → Lowered p (forms p)
lowered Sum = lower_part (omega arith) (λ a. lower_part (omega arith) (λ b. lower_give))
lowered (SumTail a) = lower_bar (lower_pick lower_give)
lowered Operand = lower_pick (lower_pick (lower_take (λ t. lower_take (λ s. lower_part (omega arith) (λ a. lower_give)))))
lowered (Items f) = lower_pick (lower_take (λ t. lower_give))
lowered (More f n xs) = lower_pick (lower_take (λ t. lower_give))
lowered Act = lower_pick (lower_part (omega arith) (λ a. lower_take (λ t. lower_give)))
lowered (Tail c a) = lowered_tail c a (closed a)

lows : (p : Part) → height p ≤ 3
lows Sum = omega arith
lows _ = omega arith

mended : IsMended small forms made_up 3
mended = record { serves = served; moves = λ rest t. refl; height = height; lowers = lowered; low = lows }

-- no token has a value
abbrev AllPlain : List Token → Type 0
AllPlain [] = Unit {0}
AllPlain (t ∷ ts) = (t.value ≡ 0) × AllPlain ts

first_new : (test : Kind → Bool) (ts : List Token) (x : Token) → AllPlain ts → x.value ≡ 0 → (first_that (λ (t : Token). t.kind) test ts x).value ≡ 0
first_new test [] x all e = e
first_new test (t ∷ ts) x all e = go (test t.kind) (first_new test ts x all.1 e)
  where
    go : (b : Bool) → (first_that (λ (t : Token). t.kind) test ts x).value ≡ 0 → (if b then t else first_that (λ (t : Token). t.kind) test ts x).value ≡ 0
    go true ih = all.0
    go false ih = ih

pub is_mended : IsMendedSmall
is_mended p l limits input =
    texts_are_mended small forms tables predictive made_up limits 3 mended IsNew (λ test before rest. first_new test (made_up.offers rest) (made Name) (refl, (refl, (refl, (refl, (refl, (refl, (refl, (refl, tt)))))))) refl) (λ rest t. refl) p l input

-- `1 + ) ;` stops at the bracket
mends_a_sum : mender small forms made_up 2 3 tables.rank (record { levels = 3; items = 2 }) Act 0 (Going (made Number ∷ made Plus ∷ made Close ∷ made Semicolon ∷ []))
    ≡ Some (Say (Add (Constant 0) (Call 0 NoItem)), Stopped (made Close ∷ made Semicolon ∷ []))
unfolding mender mend_run mend_walk
mends_a_sum = refl
