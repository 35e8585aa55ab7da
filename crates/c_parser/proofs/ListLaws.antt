-- Items one behind another.
use Rattle.std.proofs.Common.{◌≡◌, ℕ, Bool, true, false, if◌then◌else◌, List, [], ◌∷◌, ◌++◌, Some, sym, ap, ◌∙◌}
use Rattle.mending_readers.specs.Mending.{mend_then}
use Rattle.c_tree.specs.declared.unit.Item.{Item}
use Rattle.c_tree.specs.Items.{is_include}
use Rattle.c_tree.specs.Names.{Names, with_item}
use Rattle.c_grammar.specs.Parts as part
use Rattle.c_cursor.specs.declared.sets.Set.TheVariants as set
use Rattle.c_cursor.specs.Reading.{Read, Place, is_next, read, first_then, behind}
use Rattle.c_parser.proofs.Thens.{behind_more, behind_end}
use Rattle.c_parser.proofs.ItemLaws.{items_law}

-- items from a place on, by whether the first of them may begin a line alone
abbrev items_from : ℕ → ℕ → Place → Names → Bool → Read (List Item)
items_from e l s ns line = read e ns (part.ItemsOf line) l s

-- what goes on with more items
abbrev more_by : ℕ → Names → ℕ → Read Item → Read (List Item)
more_by e ns l o = mend_then o (λ i z. first_then i (items_from e l z (with_item ns i) (is_include i)))

by_next : (e : ℕ) (ns : Names) (line : Bool) (l : ℕ) (s : Place) (b : Bool) → is_next ns (set.Item line) s ≡ b
    → items_from e l s ns line ≡ (if b then more_by e ns l (read e ns (part.ItemOf line) l s) else Some ([], s))
by_next e ns line l s b next = items_law e ns line l s ∙ ap (λ (c : Bool). if c then more_by e ns l (read e ns (part.ItemOf line) l s) else Some ([], s)) next

-- one more item, and the scope behind it
pub items_step : (e : ℕ) (ns ms : Names) (line next_line : Bool) (ys : List Item) (l : ℕ) (s z : Place) (i : Item)
    → is_next ns (set.Item line) s ≡ true → read e ns (part.ItemOf line) l s ≡ Some (i, z)
    → ms ≡ with_item ns i → next_line ≡ is_include i → behind ys (read e ns (part.ItemsOf line) l s)
    ≡ behind (ys ++ i ∷ []) (read e ms (part.ItemsOf next_line) l z)
items_step e ns ms line next_line ys l s z i next h scope included =
    ap (behind ys) (by_next e ns line l s true next ∙ ap (more_by e ns l) h)
    ∙ behind_more ys i (items_from e l z (with_item ns i) (is_include i))
    ∙ ap (λ (x : Names). behind (ys ++ i ∷ []) (items_from e l z x (is_include i))) (sym scope)
    ∙ ap (λ (b : Bool). behind (ys ++ i ∷ []) (items_from e l z ms b)) (sym included)

-- no more
pub items_stop : (e : ℕ) (ns : Names) (line : Bool) (ys : List Item) (l : ℕ) (s : Place) → is_next ns (set.Item line) s ≡ false
    → behind ys (read e ns (part.ItemsOf line) l s) ≡ Some (ys, s)
items_stop e ns line ys l s next = ap (behind ys) (by_next e ns line l s false next) ∙ behind_end ys s
