-- What is left behind what is read.
use Rattle.std.proofs.Common.{◌≡◌, ℕ, ◌<◌, ◌≤◌, Bool, true, length, Some, None, refl, ap, subst}
use Rattle.std.proofs.Common.{arith, length-append}
use Rattle.predictive_grammar.specs.Follows.{raw, Reads}
use Rattle.predictive_grammar.specs.Reading.{reader}
use Rattle.mending_readers.specs.Mending.{Going, Stopped, Mended}
use Rattle.mending_readers.proofs.Mends.{Told, Splits, mender_mends}
use Rattle.predictive_grammar.proofs.Law as steps
use Rattle.c_tree.specs.declared.names.CType.{CType}
use Rattle.c_tree.specs.declared.code.Stmt.{Stmt}
use Rattle.c_tree.specs.declared.unit.Item.{Item}
use Rattle.c_tree.specs.Names.{Names}
use Rattle.c_tree.specs.Words.{Token}
use Rattle.c_grammar.specs.Parts.{What, Part, at, tree_of, AnyType, KeyType, Statement, ItemOf}
use Rattle.c_grammar.specs.Grammar.{C, forms}
use Rattle.c_grammar.specs.Laws.{c_limits}
use Rattle.c_grammar.specs.Mending.{made_up, tallest}
use Rattle.c_grammar.specs.Tables.{tables}
use Rattle.c_grammar.proofs.Predictive.{predictive}
use Rattle.c_grammar.proofs.Serving.{serves}
use Rattle.c_cursor.specs.declared.sets.Set.{Set}
use Rattle.c_cursor.specs.Gives.{room}
use Rattle.c_cursor.specs.Reading.{Place, is_next, read}

-- what the mending reader says of a part
abbrev Split : (q : Part) → ℕ → Place → tree_of q.what → Place → Type 0
Split q l s a z = Splits C c_limits (λ rest t. Unit {0}) (Reads C forms None q l) (reader C forms tables.top tables.rank c_limits q l) s a z

split : (e : ℕ) (ns : Names) (w : What) (l : ℕ) (s : Place) (a : tree_of w) (z : Place) → read e ns w l s ≡ Some (a, z) → Split (at ns w) l s a z
unfolding read
split e ns w l s a z h =
    subst (λ (o : Mended Token (tree_of w)). Told C c_limits (λ rest t. Unit {0}) (Reads C forms None (at ns w) l)
    (reader C forms tables.top tables.rank c_limits (at ns w) l) s o) h
    (mender_mends C c_limits (λ rest t. Unit {0}) (made_up e) (λ test before rest. tt) (λ rest t. tt) (λ rest t. refl) forms tables predictive
    (serves e) tallest (at ns w) l s)

-- no more tokens are left, and fewer where it goes on and the part has tokens
pub stays : (e : ℕ) (ns : Names) (w : What) (l : ℕ) (s : Place) (a : tree_of w) (z : Place) → read e ns w l s ≡ Some (a, z) → room z ≤ room s
stays e ns w l s a z h = go s z (split e ns w l s a z h)
  where
    go : (s z : Place) → Split (at ns w) l s a z → room z ≤ room s
    go (Going i) (Going j) t = omega (arith, ap length t.front, length-append (raw t.word) j)
    go (Going i) (Stopped j) t = omega (arith, ap length t.front, length-append (raw t.taken) j)
    go (Stopped i) (Going j) t = absurd t
    go (Stopped i) (Stopped j) t = omega (arith, ap length t.same)

moves : (e : ℕ) (ns : Names) (w : What) (l : ℕ) (s : Place) (a : tree_of w) (z : Place) (some : tables.none (at ns w) a → ⊥) (ms : Names) (x : Set)
    → is_next ms x s ≡ true → read e ns w l s ≡ Some (a, z)
    → room z < room s
unfolding is_next
moves e ns w l s a z some ms x next h = go s z next (split e ns w l s a z h)
  where
    go : (s z : Place) → is_next ms x s ≡ true → Split (at ns w) l s a z → room z < room s
    go (Going i) (Going j) n t = let less = steps.strict C forms tables predictive (at ns w) l i a j some
        (record { word = t.word; front = t.front; text = t.text }) in omega (arith, less)
    go (Going i) (Stopped j) n t = omega (arith, ap length t.front, length-append (raw t.taken) j)
    go (Stopped i) z n t = absurd cc

pub any_type_moves : (e : ℕ) (ns : Names) (anyhow object : Bool) (l : ℕ) (s : Place) (a : CType) (z : Place) (ms : Names) (x : Set)
    → is_next ms x s ≡ true → read e ns (AnyType anyhow object) l s ≡ Some (a, z) → room z < room s
any_type_moves e ns anyhow object l s a z ms x n h = moves e ns (AnyType anyhow object) l s a z (λ x. x) ms x n h

pub key_type_moves : (e : ℕ) (ns : Names) (l : ℕ) (s : Place) (a : CType) (z : Place) (ms : Names) (x : Set) → is_next ms x s ≡ true
    → read e ns KeyType l s ≡ Some (a, z) → room z < room s
key_type_moves e ns l s a z ms x n h = moves e ns KeyType l s a z (λ x. x) ms x n h

pub statement_moves : (e : ℕ) (ns : Names) (l : ℕ) (s : Place) (a : Stmt) (z : Place) (ms : Names) (x : Set) → is_next ms x s ≡ true
    → read e ns Statement l s ≡ Some (a, z) → room z < room s
statement_moves e ns l s a z ms x n h = moves e ns Statement l s a z (λ x. x) ms x n h

pub item_moves : (e : ℕ) (ns : Names) (line : Bool) (l : ℕ) (s : Place) (a : Item) (z : Place) (ms : Names) (x : Set) → is_next ms x s ≡ true
    → read e ns (ItemOf line) l s ≡ Some (a, z) → room z < room s
item_moves e ns line l s a z ms x n h = moves e ns (ItemOf line) l s a z (λ x. x) ms x n h
