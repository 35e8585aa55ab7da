-- Items that are put one after another.
use Rattle.std.proofs.Math.Seq.{drop-cons}
use Rattle.std.proofs.Common.{◌≡◌, ◌∙◌, sym, ap, ℕ, suc, ◌+◌, ◌<◌, length, get_or, drop, arith, List, ◌∷◌, Option, Some}
use Rattle.c_tree.specs.declared.unit.Item.{Item}
use Rattle.c_printer.specs.declared.grade.Brackets.{Brackets}
use Rattle.c_printer.specs.declared.group.Group.{Group}
use Rattle.c_printer.specs.Text.{Text}
use Rattle.c_printer.specs.Marks.{put_marks}
use Rattle.c_printer.specs.PutItems.{group_of, next_item_marks, items_marks}
use Rattle.c_printer.proofs.MarkLemmas.{put_append}

-- one more item
pub item_step : (style : Brackets) → (o : Option Group) (xs : List Item) (i : ℕ) (x : Item) (g : Group) (t u z : Text) → i < length xs → x ≡ get_or xs i x → g ≡ group_of x → u ≡ put_marks t (next_item_marks style o x)
    → put_marks t (items_marks style o (drop i xs)) ≡ z → put_marks u (items_marks style (Some g) (drop (i + 1) xs)) ≡ z
item_step style o xs i x g t u z h is n e given =
    ap (λ y. put_marks y (items_marks style (Some g) (drop (i + 1) xs))) e ∙ ap (λ y. put_marks (put_marks t (next_item_marks style o x)) (items_marks style (Some y) (drop (i + 1) xs))) n
    ∙ sym (put_append t (next_item_marks style o x) (items_marks style (Some (group_of x)) (drop (i + 1) xs))) ∙ ap (λ l. put_marks t (items_marks style o l)) (sym dropped) ∙ given
  where
    dropped : drop i xs ≡ x ∷ drop (i + 1) xs
    dropped = drop-cons xs i x h ∙ (λ k. sym is k ∷ drop ((let e : suc i ≡ i + 1 = omega arith in e) k) xs)
