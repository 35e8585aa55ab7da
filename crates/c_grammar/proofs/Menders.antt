-- The mending reader of the dialect: it is the walk of its form, and what it gives.
use Rattle.std.proofs.Common.{◌≡◌, ℕ, suc, ◌<◌, Bool, true, false, if◌then◌else◌, [], ◌∷◌, Some, refl, arith}
use Rattle.predictive_grammar.specs.Steps.{Limits}
use Rattle.mending_readers.specs.Mending.{State, first_that, mend_walk, IsMended}
use Rattle.mending_readers.proofs.Menders as law
use Rattle.c_tree.specs.Words.{Token, Word, start_of}
use Rattle.c_grammar.specs.Sorts.{Kind, kind}
use Rattle.c_grammar.specs.Parts.{Part, tree_of}
use Rattle.c_grammar.specs.Grammar.{C, forms}
use Rattle.c_grammar.specs.Tables.{tables}
use Rattle.c_grammar.specs.Mending.{made_up, behind_stop, by_tag, made_name, tallest, c_mender}
use Rattle.c_grammar.specs.Laws.{IsBehind, TextsAreMended}
use Rattle.c_grammar.proofs.Predictive.{predictive}
use Rattle.c_grammar.proofs.Serving.{serves}
use Rattle.c_grammar.proofs.Heights.{height, lowers, low}

pub mended : («end» : ℕ) → IsMended C forms (made_up «end») tallest
mended «end» = record { serves = serves «end»; moves = λ rest t. refl; height = height; lowers = lowers; low = low }

-- a mending reader takes its form from left to right, by the mending readers of the parts in it
pub mender_unfolds : («end» : ℕ) (limits : Limits) (p : Part) (level : ℕ) (s : State Token)
    → c_mender «end» limits p level s ≡ mend_walk C (made_up «end») (c_mender «end» limits) limits p (forms p) [] level s
mender_unfolds «end» limits p level s = law.mender_law C forms tables predictive (made_up «end») limits tallest (mended «end») p level s

-- it always gives a tree
pub mender_gives : («end» : ℕ) (limits : Limits) (p : Part) (level : ℕ) (s : State Token) → (x : tree_of p.what × State Token) × (c_mender «end» limits p level s ≡ Some x)
mender_gives «end» limits p level s = law.mender_gives C forms tables predictive (made_up «end») limits tallest (mended «end») p level s

-- the tokens all stand behind a place
abbrev AllBehind : ℕ → Word → Type 0
AllBehind n [] = Unit {0}
AllBehind n (t ∷ ts) = ((n < t.start) × (n < t.«end»)) × AllBehind n ts

first_behind : (n : ℕ) (test : Kind → Bool) (ts : Word) (x : Token) → AllBehind n ts → (n < x.start) × (n < x.«end») → (n < (first_that kind test ts x).start) × (n < (first_that kind test ts x).«end»)
first_behind n test [] x all e = e
first_behind n test (t ∷ ts) x all e = go (test (kind t)) (first_behind n test ts x all.1 e)
  where
    go : (b : Bool) → (n < (first_that kind test ts x).start) × (n < (first_that kind test ts x).«end»)
        → (n < (if b then t else first_that kind test ts x).start) × (n < (if b then t else first_that kind test ts x).«end»)
    go true ih = all.0
    go false ih = ih

next : (n : ℕ) → (n < suc n) × (n < suc n)
next n = (omega arith, omega arith)

new_made : («end» : ℕ) (test : Kind → Bool) (before rest : Word) → IsBehind «end» rest (first_that kind test ((made_up «end»).offers rest) ((made_up «end»).otherwise rest before))
new_made «end» test before rest =
    let n = next (start_of «end» rest) in
    first_behind (start_of «end» rest) test ((made_up «end»).offers rest) (made_name (behind_stop «end» rest) (by_tag before))
    (n, (n, (n, (n, (n, (n, (n, (n, (n, (n, (n, (n, (n, (n, (n, (n, (n, (n, (n, (n, (n, (n, (n, (n, tt)))))))))))))))))))))))) n

pub texts_are_mended : TextsAreMended
texts_are_mended «end» p level limits input =
    law.texts_are_mended C forms tables predictive (made_up «end») limits tallest (mended «end») (IsBehind «end») (new_made «end») (λ rest t. next (start_of «end» rest)) p level input
