-- Parts by their forms, where what is made up does not depend on the tokens before.
use Rattle.std.proofs.Common.{◌≡◌, ℕ, Bool, true, false, if◌then◌else◌, [], ◌∷◌, ◌++◌, Some, None, refl, ap, ◌∙◌}
use Rattle.predictive_grammar.specs.Forms.{Form, give, take, part, pick, bar}
use Rattle.mending_readers.specs.Mending.{Going, Stopped, first_that, make, take_below, mend_token, mend_then, mend_walk, next_in, stop}
use Rattle.c_tree.specs.Names.{Names}
use Rattle.c_tree.specs.Words.{Token, Word}
use Rattle.c_grammar.specs.Sorts.{Kind, kind}
use Rattle.c_grammar.specs.Parts.{What, Part, at, tree_of}
use Rattle.c_grammar.specs.Grammar.{C, form}
use Rattle.c_grammar.specs.Laws.{c_limits}
use Rattle.c_grammar.specs.Mending.{made_name, made_signs, made_words, made_others, by_tag, behind_stop, made_up, c_mender}
use Rattle.c_grammar.proofs.Menders.{mender_unfolds}
use Rattle.c_cursor.specs.Reading.{Read, Place, read}

-- what is made up for a test behind these tokens
abbrev pub made_by : (Kind → Bool) → ℕ → Word → Token
made_by test n before = first_that kind test (made_signs n ++ made_words n ++ made_others n) (made_name n (by_tag before))

-- a form whose tokens are made up whatever stands before
pub data Free {r : Part} : Form C r → Type 0 where
  free_give : {a : tree_of r.what} → Free (give a)
  free_take : {up : ℕ → ℕ} {test : Kind → Bool} {k : Token → Form C r} → ((n : ℕ) (before : Word) → made_by test n before ≡ made_by test n [])
      → ((t : Token) → Free (k t)) → Free (take up 0 test k)
  free_part : {up : ℕ → ℕ} {q : Part} {k : tree_of q.what → Form C r} → ((b : tree_of q.what) → Free (k b)) → Free (part up q k)
  free_pick : {test : Kind → Bool} {a b : Form C r} → Free a → Free b → Free (pick test a b)
  free_where : {up : ℕ → ℕ} {test : Kind → Bool} {k : Token → Form C r} {b : Form C r} → ((t : Token) → Free (k t)) → Free b
      → Free (pick test (take up 0 test k) b)

-- a form, each token as if nothing stood before
unfoldable pub run : (e : ℕ) {r : Part} → Form C r → ℕ → Place → Read (tree_of r.what)
run e (give a) l s = Some (a, s)
run e (take up items test k) l s = mend_then (Some (mend_token C (made_up e) c_limits (up l) items test [] s)) (λ t z. run e (k t) l z)
run e (part up q k) l s = mend_then (c_mender e c_limits q (up l) s) (λ b z. run e (k b) l z)
run e (pick test a b) l s = if next_in kind test s then run e a l s else run e b l s
run e (bar left x k) l s = run e k l (if next_in kind left s then stop s else s)

pub then_same : {A B : Type 0} (o : Read A) (f g : A → Place → Read B) → ((a : A) (z : Place) → f a z ≡ g a z) → mend_then o f ≡ mend_then o g
then_same None f g h = refl
then_same (Some x) f g h = h x.0 x.1

pub token_same : (e l : ℕ) (test : Kind → Bool) (before : Word) (s : Place) → ((n : ℕ) (before : Word) → made_by test n before ≡ made_by test n [])
    → mend_token C (made_up e) c_limits l 0 test before s ≡ mend_token C (made_up e) c_limits l 0 test [] s
token_same e l test before (Going []) h = ap (λ t. (t, Stopped [])) (h (behind_stop e []) before)
token_same e l test before (Going (t ∷ ts)) h = go (test (kind t))
  where
    go : (b : Bool) → (if b then take_below C (made_up e) c_limits l 0 t ts else make C (made_up e) test before (t ∷ ts))
        ≡ (if b then take_below C (made_up e) c_limits l 0 t ts else make C (made_up e) test [] (t ∷ ts))
    go true = refl
    go false = ap (λ x. (x, Stopped (t ∷ ts))) (h (behind_stop e (t ∷ ts)) before)
token_same e l test before (Stopped ts) h = ap (λ x. (x, Stopped ts)) (h (behind_stop e ts) before)

where_same : (e l : ℕ) (test : Kind → Bool) (before : Word) (s : Place) → next_in kind test s ≡ true
    → mend_token C (made_up e) c_limits l 0 test before s ≡ mend_token C (made_up e) c_limits l 0 test [] s
where_same e l test before (Going []) h = absurd cc
where_same e l test before (Going (t ∷ ts)) h = go (test (kind t)) h
  where
    go : (b : Bool) → b ≡ true → (if b then take_below C (made_up e) c_limits l 0 t ts else make C (made_up e) test before (t ∷ ts))
        ≡ (if b then take_below C (made_up e) c_limits l 0 t ts else make C (made_up e) test [] (t ∷ ts))
    go true is = refl
    go false is = absurd cc
where_same e l test before (Stopped ts) h = absurd cc

pub free_walk : (e : ℕ) {r : Part} {f : Form C r} → Free f → (before : Word) (l : ℕ) (s : Place)
    → mend_walk C (made_up e) (c_mender e c_limits) c_limits r f before l s ≡ run e f l s
unfolding mend_walk run
free_walk e free_give before l s = refl
free_walk e {r = r} (free_take {up = up} {test = test} {k = k} h free) before l s =
    let same = token_same e (up l) test before s h in
    ap (λ x. mend_walk C (made_up e) (c_mender e c_limits) c_limits r (k x.0) (x.0 ∷ before) l x.1) same
    ∙ free_walk e (free (mend_token C (made_up e) c_limits (up l) 0 test [] s).0) _ l (mend_token C (made_up e) c_limits (up l) 0 test [] s).1
free_walk e (free_part {up = up} {q = q} {k = k} free) before l s =
    then_same (c_mender e c_limits q (up l) s) _ _ (λ b z. free_walk e (free b) before l z)
free_walk e {r = r} (free_pick {test = test} {a = a} {b = b} first second) before l s =
    go (next_in kind test s) (free_walk e first before l s) (free_walk e second before l s)
  where
    go : (c : Bool) → mend_walk C (made_up e) (c_mender e c_limits) c_limits r a before l s ≡ run e a l s
        → mend_walk C (made_up e) (c_mender e c_limits) c_limits r b before l s ≡ run e b l s
        → (if c then mend_walk C (made_up e) (c_mender e c_limits) c_limits r a before l s
        else mend_walk C (made_up e) (c_mender e c_limits) c_limits r b before l s)
        ≡ (if c then run e a l s else run e b l s)
    go true h g = h
    go false h g = g
free_walk e {r = r} (free_where {up = up} {test = test} {k = k} {b = b} first second) before l s =
    go (next_in kind test s) refl (free_walk e (first (mend_token C (made_up e) c_limits (up l) 0 test [] s).0)
    ((mend_token C (made_up e) c_limits (up l) 0 test [] s).0 ∷ before) l (mend_token C (made_up e) c_limits (up l) 0 test [] s).1)
    (free_walk e second before l s)
  where
    go : (c : Bool) → next_in kind test s ≡ c
        → mend_walk C (made_up e) (c_mender e c_limits) c_limits r (k (mend_token C (made_up e) c_limits (up l) 0 test [] s).0)
        ((mend_token C (made_up e) c_limits (up l) 0 test [] s).0 ∷ before) l (mend_token C (made_up e) c_limits (up l) 0 test [] s).1
        ≡ run e (k (mend_token C (made_up e) c_limits (up l) 0 test [] s).0) l (mend_token C (made_up e) c_limits (up l) 0 test [] s).1
        → mend_walk C (made_up e) (c_mender e c_limits) c_limits r b before l s ≡ run e b l s
        → (if c then mend_walk C (made_up e) (c_mender e c_limits) c_limits r (take up 0 test k) before l s
        else mend_walk C (made_up e) (c_mender e c_limits) c_limits r b before l s)
        ≡ (if c then run e (take up 0 test k) l s else run e b l s)
    go true is h g = ap (λ x. mend_walk C (made_up e) (c_mender e c_limits) c_limits r (k x.0) (x.0 ∷ before) l x.1) (where_same e (up l) test before s is) ∙ h
    go false is h g = g

-- a part by its form
pub by_form : (e : ℕ) (ns : Names) (w : What) (l : ℕ) (s : Place) → Free (form ns w) → read e ns w l s ≡ run e (form ns w) l s
unfolding read
by_form e ns w l s free = mender_unfolds e c_limits (at ns w) l s ∙ free_walk e free [] l s
