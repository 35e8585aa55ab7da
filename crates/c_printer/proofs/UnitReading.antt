-- Units that are written are read.
use Rattle.std.proofs.Common.{◌≡◌, ◌∙◌, refl, sym, ap, ap₂, subst, ℕ, zero, suc, Bool, true, false, cond, not, ◌&&◌, ◌||◌, nat_le, List, [], ◌∷◌, ◌++◌, map, length, drop, ◌≤◌, codes, append_assoc, Option, Some, None, Result, Ok, Err, IfOk, All, ◌<◌, arith}
use Rattle.std.proofs.lemmas.Bool.{and_parts}
use Rattle.c_lexer.specs.declared.token.TokenKind.TheVariants as k
use Rattle.c_lexer.specs.Written.{IsWord}
use Rattle.c_lexer.specs.Words.{word_kind}
use Rattle.c_tree.specs.declared.unit.Include.{Include}
use Rattle.c_tree.specs.declared.unit.Include.TheVariants as include
use Rattle.c_tree.specs.declared.unit.Item.{Item}
use Rattle.c_tree.specs.declared.unit.Item.TheVariants as item
use Rattle.c_tree.specs.Words.{Token, Word, plain, words, words_behind, Other, BeginsLine, Open, with_sign, with_terminal, is_shallow}
use Rattle.c_tree.specs.Names.{Names, with_item, library_names}
use Rattle.c_tree.specs.Items as it
use Rattle.c_tree.specs.Items.{ReadsItem, ReadsItems, no_item, more_items, is_include}
use Rattle.c_tree.specs.Bare.{bare_item, bare, SameUnit}
use Rattle.c_tree.specs.declared.unit.Unit.{Unit as CUnit}
use Rattle.c_lexer.specs.declared.token.BadToken.{BadToken}
use Rattle.c_lexer.specs.Laws.{Covers}
use Rattle.c_lexer.specs.Tokens.{Left, Lexeme, Tokens, all_of}
use Rattle.c_printer.specs.declared.grade.Brackets.{Brackets}
use Rattle.c_printer.specs.declared.grade.Brackets.TheVariants.{Needed}
use Rattle.c_printer.specs.Depth.{IsShallowText}
use Rattle.c_printer.specs.declared.group.Group.{Group}
use Rattle.c_printer.specs.Alike.{Alike, none, one}
use Rattle.c_printer.specs.Marks.{Mark, Marks, Name, AKeyword, AConstant, Number, Chars, Character, ASign, Space, Line, word, put_mark, put_marks}
use Rattle.c_tree.specs.Answers.{IsWellFormed}
use Rattle.c_printer.specs.Printed.{IsTextOf}
use Rattle.c_printer.proofs.PlacelessUnits.{unit_moves}
use Rattle.c_printer.proofs.Inner.{IsInner, AreInner, IsFile, IsWritableItem, AreWritableItems}
use Rattle.c_printer.specs.Laws.{TokensAreRead}
use Rattle.c_printer.specs.Put.{AreBytes}
use Rattle.c_printer.specs.PutItems.{include_marks, item_marks, group_of, is_close, between_items, items_marks, unit_marks}
use Rattle.c_printer.specs.Text.{Text, empty}
use Rattle.c_printer.specs.Writable.{IsWritable, AreWritable, lexemes}
use Rattle.c_printer.proofs.CleanUnits.{sound_alike}
use Rattle.c_printer.proofs.GivenItems.{items_inner}
use Rattle.c_printer.proofs.TokensOfBytes.{bytes_given}
use Rattle.c_printer.proofs.NestingItems.{needed_nests}
use Rattle.c_printer.proofs.Nesting.{opens, shallow_append}
use Rattle.c_printer.proofs.TypeReading.{word_append}
use Rattle.c_printer.proofs.ItemReading.{is_code, item_here, item_scope_bare, include_bare}
use Rattle.c_printer.proofs.WordLemmas.{flag, inner_words, inner_alike, begins, include_words, AllFileBytes, file_bytes, byte_small}

-- 1. The lines between items

between_line : (o p : Group) (t : Text) (f : Bool) (ms : Marks) → lexemes t f (between_items (Some o) p ++ ms) ≡ lexemes (put_marks t (between_items (Some o) p)) true ms
between_line o p t f ms = go (is_close o p)
  where
    go : (b : Bool) → lexemes t f (cond b (Line 0 ∷ []) (Line 0 ∷ Line 0 ∷ []) ++ ms) ≡ lexemes (put_marks t (cond b (Line 0 ∷ []) (Line 0 ∷ Line 0 ∷ []))) true ms
    go true = refl
    go false = refl

-- what is written behind an item
abbrev rest_marks : (style : Brackets) → Group → List Item → Marks
rest_marks style g is = items_marks style (Some g) is ++ Line 0 ∷ []

parted : (style : Brackets) → (g : Group) (i : Item) (is : List Item) → rest_marks style g (i ∷ is) ≡ between_items (Some g) (group_of i) ++ (item_marks style i ++ rest_marks style (group_of i) is)
parted style g i is = append_assoc (between_items (Some g) (group_of i) ++ item_marks style i) (items_marks style (Some (group_of i)) is) (Line 0 ∷ []) ∙ append_assoc (between_items (Some g) (group_of i)) (item_marks style i) (rest_marks style (group_of i) is)

rest_lexemes : (style : Brackets) → (g : Group) (i : Item) (is : List Item) (t : Text) (f : Bool) → lexemes t f (rest_marks style g (i ∷ is)) ≡ lexemes (put_marks t (between_items (Some g) (group_of i))) true (item_marks style i ++ rest_marks style (group_of i) is)
rest_lexemes style g i is t f = ap (lexemes t f) (parted style g i is) ∙ between_line g (group_of i) t f (item_marks style i ++ rest_marks style (group_of i) is)

rest_begins : (style : Brackets) → (g : Group) (is : List Item) (t : Text) (f : Bool) → BeginsLine (words_behind Other (lexemes t f (rest_marks style g is))) ≡ true
rest_begins style g [] t f = refl
rest_begins style g (i ∷ is) t f = ap (λ ls. BeginsLine (words_behind Other ls)) (rest_lexemes style g i is t f) ∙ begins (put_marks t (between_items (Some g) (group_of i))) (item_marks style i ++ rest_marks style (group_of i) is)

-- 2. Items

-- words that are read as items, apart from places
pub record Whole (ns : Names) (w : Word) (is : List Item) : Type 0 where
  pub tree : List Item
  pub reads : ReadsItems ns w tree
  pub same : map bare_item tree ≡ map bare_item is

-- the words of an item and of what stands behind it
abbrev item_words : (style : Brackets) → Text → Item → Marks → Word
item_words style t i ms = words_behind Other (lexemes t true (item_marks style i ++ ms))

code_step : (style : Brackets) → (ns : Names) (t : Text) (i : Item) (ms : Marks) (is : List Item) {w : Word} → ReadsItem ns w i → is_code i ≡ true → AreInner (item_marks style i) → ((f : Bool) → Whole (with_item ns i) (words_behind Other (lexemes (put_marks t (item_marks style i)) f ms)) is) → Whole ns (item_words style t i ms) (i ∷ is)
code_step style ns t i ms is r h inner more =
    let m = item_here style r h (inner_alike t true (item_marks style i) inner) in
    let q = more (flag true (item_marks style i)) in
    subst (λ w. Whole ns w (i ∷ is)) (sym (inner_words t true (item_marks style i) inner ms))
    (record {
      tree = m.tree ∷ q.tree;
      reads = more_items m.reads (ap (λ b. not b || BeginsLine (words_behind Other (lexemes (put_marks t (item_marks style i)) (flag true (item_marks style i)) ms))) (sym (include_bare m.tree) ∙ ap is_include m.same ∙ include_bare i)
          ∙ ap (λ b. b || BeginsLine (words_behind Other (lexemes (put_marks t (item_marks style i)) (flag true (item_marks style i)) ms))) h)
          (subst (λ s. ReadsItems s (words_behind Other (lexemes (put_marks t (item_marks style i)) (flag true (item_marks style i)) ms)) q.tree) (sym (sym (item_scope_bare ns m.tree) ∙ ap (with_item ns) m.same ∙ item_scope_bare ns i)) q.reads);
      same = λ k. m.same k ∷ q.same k;
    })

step : (style : Brackets) → (ns : Names) (t : Text) (i : Item) (ms : Marks) (is : List Item) {w : Word} → ReadsItem ns w i → IsWritableItem style i → ((s : Text) (f : Bool) → BeginsLine (words_behind Other (lexemes s f ms)) ≡ true)
    → ((f : Bool) → Whole (with_item ns i) (words_behind Other (lexemes (put_marks t (item_marks style i)) f ms)) is) → Whole ns (item_words style t i ms) (i ∷ is)
step style ns t (item.Include f) ms is r h line more =
    let m = include_words t f h ms in let q = more false in
    subst (λ w. Whole ns w (item.Include f ∷ is)) (sym m.words)
    (record { tree = item.Include f ∷ q.tree; reads = more_items (it.includes m.is_hash m.first m.is_include m.behind m.is_file) (line (put_marks t (include_marks f)) false) q.reads; same = λ k. item.Include f ∷ q.same k })
step style ns t (item.StructType x) ms is r h line more = code_step style ns t (item.StructType x) ms is r refl h more
step style ns t (item.Struct x) ms is r h line more = code_step style ns t (item.Struct x) ms is r refl h more
step style ns t (item.Enumeration x) ms is r h line more = code_step style ns t (item.Enumeration x) ms is r refl h more
step style ns t (item.FunctionType x) ms is r h line more = code_step style ns t (item.FunctionType x) ms is r refl h more
step style ns t (item.Prototype x) ms is r h line more = code_step style ns t (item.Prototype x) ms is r refl h more
step style ns t (item.Variable x) ms is r h line more = code_step style ns t (item.Variable x) ms is r refl h more
step style ns t (item.InterfaceTable x) ms is r h line more = code_step style ns t (item.InterfaceTable x) ms is r refl h more
step style ns t (item.Function x) ms is r h line more = code_step style ns t (item.Function x) ms is r refl h more

items_read : (style : Brackets) → (g : Group) (is : List Item) (t : Text) (f : Bool) (ns : Names) {w : Word} → ReadsItems ns w is → AreWritableItems style is → Whole ns (words_behind Other (lexemes t f (rest_marks style g is))) is
items_read style g [] t f ns no_item h = record { tree = []; reads = no_item; same = refl }
items_read style g (i ∷ is) t f ns (more_items r e rest) h = subst (λ ls. Whole ns (words_behind Other ls) (i ∷ is)) (sym (rest_lexemes style g i is t f))
    (step style ns (put_marks t (between_items (Some g) (group_of i))) i (rest_marks style (group_of i) is) is r h.0 (rest_begins style (group_of i) is)
    (λ b. items_read style (group_of i) is (put_marks (put_marks t (between_items (Some g) (group_of i))) (item_marks style i)) b (with_item ns i) rest h.1))

-- the first item stands at the beginning of the text
first_lexemes : (style : Brackets) → (i : Item) (is : List Item) → items_marks style None (i ∷ is) ++ Line 0 ∷ [] ≡ item_marks style i ++ rest_marks style (group_of i) is
first_lexemes style i is = append_assoc (item_marks style i) (items_marks style (Some (group_of i)) is) (Line 0 ∷ [])

pub all_items_read : (style : Brackets) → (is : List Item) (ns : Names) {w : Word} → ReadsItems ns w is → AreWritableItems style is → Whole ns (words (lexemes empty true (items_marks style None is ++ Line 0 ∷ []))) is
all_items_read style [] ns no_item h = record { tree = []; reads = no_item; same = refl }
all_items_read style (i ∷ is) ns (more_items r e rest) h = subst (λ ms. Whole ns (words (lexemes empty true ms)) (i ∷ is)) (sym (first_lexemes style i is))
    (step style ns empty i (rest_marks style (group_of i) is) is r h.0 (rest_begins style (group_of i) is) (λ b. items_read style (group_of i) is (put_marks empty (item_marks style i)) b (with_item ns i) rest h.1))

-- 3. Brackets

alike_shallow : (o : Open) {u v : Word} → Alike u v → (is_shallow o v ≡ is_shallow o u) × (opens o v ≡ opens o u)
unfolding opens
alike_shallow o none = (refl, refl)
alike_shallow o (one {s} {t} {v} {w} l a) =
    let q = alike_shallow (with_terminal o s.terminal) a in
    ((ap (λ x. nat_le (length (with_terminal o x)) 64 && is_shallow (with_terminal o x) w) l.terminal ∙ ap (λ b. nat_le (length (with_terminal o s.terminal)) 64 && b) q.0), ap (λ x. opens (with_terminal o x) w) l.terminal ∙ q.1)

-- so many times one test, and then another
times : ℕ → Bool → Bool → Bool
times zero a b = b
times (suc n) a b = a && times n a b

times_true : (n : ℕ) (a b : Bool) → times (suc n) a b ≡ true → (a ≡ true) × (b ≡ true)
unfolding times
times_true zero a b h = and_parts a b h
times_true (suc n) a b h = let p = and_parts a (times (suc n) a b) h in times_true n a b p.1

three_quiet : (o : Open) (a b c : Token) (w : Word) → with_terminal o a.terminal ≡ o → with_terminal o b.terminal ≡ o → with_terminal o c.terminal ≡ o → nat_le (length o) 64 ≡ true → is_shallow o w ≡ true → is_shallow o (a ∷ b ∷ c ∷ w) ≡ true
three_quiet o a b c w p q r h s =
    ap (λ x. nat_le (length x) 64 && is_shallow x (b ∷ c ∷ w)) p ∙ ap (λ x. nat_le (length o) 64 && (nat_le (length x) 64 && is_shallow x (c ∷ w))) q ∙ ap (λ x. nat_le (length o) 64 && (nat_le (length o) 64 && (nat_le (length x) 64 && is_shallow x w))) r
    ∙ ap₂ (λ x y. x && (x && (x && y))) h s

include_nests : (o : Open) (f : Include) (ms : Marks) → is_shallow o (word (include_marks f ++ ms)) ≡ true → (nat_le (length o) 64 ≡ true) × (is_shallow o (word ms) ≡ true)
unfolding times
include_nests o include.Glib ms h = times_true 6 (nat_le (length o) 64) (is_shallow o (word ms)) h
include_nests o include.GlibObject ms h = times_true 8 (nat_le (length o) 64) (is_shallow o (word ms)) h
include_nests o include.Gio ms h = times_true 8 (nat_le (length o) 64) (is_shallow o (word ms)) h
include_nests o include.String ms h = times_true 6 (nat_le (length o) 64) (is_shallow o (word ms)) h
include_nests o include.Stdlib ms h = times_true 6 (nat_le (length o) 64) (is_shallow o (word ms)) h
include_nests o (include.Own x) ms h = times_true 2 (nat_le (length o) 64) (is_shallow o (word ms)) h

code_nests : (style : Brackets) → (t : Text) (i : Item) (ms : Marks) → AreInner (item_marks style i) → ((f : Bool) (o : Open) → is_shallow o (word ms) ≡ true → is_shallow o (words_behind Other (lexemes (put_marks t (item_marks style i)) f ms)) ≡ true)
    → (o : Open) → is_shallow o (word (item_marks style i ++ ms)) ≡ true → is_shallow o (item_words style t i ms) ≡ true
code_nests style t i ms inner more o h =
    let a = alike_shallow o (inner_alike t true (item_marks style i) inner) in
    let p = and_parts (is_shallow o (word (item_marks style i))) (is_shallow (opens o (word (item_marks style i))) (word ms)) (sym (shallow_append o (word (item_marks style i)) (word ms)) ∙ ap (is_shallow o) (sym (word_append (item_marks style i) ms)) ∙ h) in
    ap (is_shallow o) (inner_words t true (item_marks style i) inner ms)
    ∙ shallow_append o (map plain (lexemes t true (item_marks style i))) (words_behind Other (lexemes (put_marks t (item_marks style i)) (flag true (item_marks style i)) ms))
    ∙ ap₂ (λ x y. x && is_shallow y (words_behind Other (lexemes (put_marks t (item_marks style i)) (flag true (item_marks style i)) ms))) (a.0 ∙ p.0) a.1
    ∙ more (flag true (item_marks style i)) (opens o (word (item_marks style i))) p.1

item_nests : (style : Brackets) → (t : Text) (i : Item) (ms : Marks) → IsWritableItem style i → ((f : Bool) (o : Open) → is_shallow o (word ms) ≡ true → is_shallow o (words_behind Other (lexemes (put_marks t (item_marks style i)) f ms)) ≡ true)
    → (o : Open) → is_shallow o (word (item_marks style i ++ ms)) ≡ true → is_shallow o (item_words style t i ms) ≡ true
item_nests style t (item.Include f) ms h more o e =
    let m = include_words t f h ms in let p = include_nests o f ms e in
    ap (is_shallow o) m.words ∙ three_quiet o m.hash m.word m.file (words_behind Other (lexemes (put_marks t (include_marks f)) false ms)) (ap (with_terminal o) m.is_hash) (ap (with_terminal o) m.is_include.0) (ap (with_terminal o) m.is_file) p.0 (more false o p.1)
item_nests style t (item.StructType x) ms h more o e = code_nests style t (item.StructType x) ms h more o e
item_nests style t (item.Struct x) ms h more o e = code_nests style t (item.Struct x) ms h more o e
item_nests style t (item.Enumeration x) ms h more o e = code_nests style t (item.Enumeration x) ms h more o e
item_nests style t (item.FunctionType x) ms h more o e = code_nests style t (item.FunctionType x) ms h more o e
item_nests style t (item.Prototype x) ms h more o e = code_nests style t (item.Prototype x) ms h more o e
item_nests style t (item.Variable x) ms h more o e = code_nests style t (item.Variable x) ms h more o e
item_nests style t (item.InterfaceTable x) ms h more o e = code_nests style t (item.InterfaceTable x) ms h more o e
item_nests style t (item.Function x) ms h more o e = code_nests style t (item.Function x) ms h more o e

between_word : (g p : Group) (ms : Marks) → word (between_items (Some g) p ++ ms) ≡ word ms
between_word g p ms = go (is_close g p)
  where
    go : (b : Bool) → word (cond b (Line 0 ∷ []) (Line 0 ∷ Line 0 ∷ []) ++ ms) ≡ word ms
    go true = refl
    go false = refl

items_nest : (style : Brackets) → (g : Group) (is : List Item) (t : Text) (f : Bool) → AreWritableItems style is → (o : Open) → is_shallow o (word (rest_marks style g is)) ≡ true → is_shallow o (words_behind Other (lexemes t f (rest_marks style g is))) ≡ true
items_nest style g [] t f h o e = refl
items_nest style g (i ∷ is) t f h o e = ap (λ ls. is_shallow o (words_behind Other ls)) (rest_lexemes style g i is t f)
    ∙ item_nests style (put_marks t (between_items (Some g) (group_of i))) i (rest_marks style (group_of i) is) h.0 (λ b. items_nest style (group_of i) is (put_marks (put_marks t (between_items (Some g) (group_of i))) (item_marks style i)) b h.1) o
    (sym (ap (is_shallow o) (ap word (parted style g i is) ∙ between_word g (group_of i) (item_marks style i ++ rest_marks style (group_of i) is))) ∙ e)

pub all_items_nest : (style : Brackets) → (is : List Item) → AreWritableItems style is → (o : Open) → is_shallow o (word (items_marks style None is ++ Line 0 ∷ [])) ≡ true → is_shallow o (words (lexemes empty true (items_marks style None is ++ Line 0 ∷ []))) ≡ true
all_items_nest style [] h o e = refl
all_items_nest style (i ∷ is) h o e = ap (λ ms. is_shallow o (words (lexemes empty true ms))) (first_lexemes style i is)
    ∙ item_nests style empty i (rest_marks style (group_of i) is) h.0 (λ b. items_nest style (group_of i) is (put_marks empty (item_marks style i)) b h.1) o (sym (ap (λ ms. is_shallow o (word ms)) (first_lexemes style i is)) ∙ e)

-- 4. What can be written

writable_mark : (m : Mark) → IsInner m → IsWritable m
writable_mark (Name w) h = h
writable_mark (AKeyword w) h = tt
writable_mark (AConstant c) h = tt
writable_mark (Number n y) h = h
writable_mark (Chars z) h = h
writable_mark (Character b) h = h
writable_mark (ASign s) h = tt
writable_mark Space h = tt
writable_mark (Line n) h = tt

inner_writable : (ms : Marks) → AreInner ms → AreWritable ms
inner_writable [] h = tt
inner_writable (m ∷ ms) h = (writable_mark m h.0, inner_writable ms h.1)

writable_append : (a b : Marks) → AreWritable a → AreWritable b → AreWritable (a ++ b)
writable_append [] b h i = i
writable_append (m ∷ a) b h i = (h.0, writable_append a b h.1 i)

bytes_small : (z : List ℕ) → AllFileBytes z → AreBytes z
bytes_small [] h = tt
bytes_small (b ∷ z) h = (byte_small b h.0, bytes_small z h.1)

include_word : IsWord (codes "include") × (word_kind (codes "include") ≡ k.Identifier)
include_word = (record { some = omega arith; letter = refl; all = refl }, refl)

include_writable : (f : Include) → IsFile f → AreWritable (include_marks f)
include_writable include.Glib h = (tt, (include_word, (tt, (tt, ((record { some = omega arith; letter = refl; all = refl }, refl), (tt, ((record { some = omega arith; letter = refl; all = refl }, refl), (tt, tt))))))))
include_writable include.GlibObject h = (tt, (include_word, (tt, (tt, ((record { some = omega arith; letter = refl; all = refl }, refl), (tt, ((record { some = omega arith; letter = refl; all = refl }, refl), (tt, ((record { some = omega arith; letter = refl; all = refl }, refl), (tt, tt))))))))))
include_writable include.Gio h = (tt, (include_word, (tt, (tt, ((record { some = omega arith; letter = refl; all = refl }, refl), (tt, ((record { some = omega arith; letter = refl; all = refl }, refl), (tt, ((record { some = omega arith; letter = refl; all = refl }, refl), (tt, tt))))))))))
include_writable include.String h = (tt, (include_word, (tt, (tt, ((record { some = omega arith; letter = refl; all = refl }, refl), (tt, ((record { some = omega arith; letter = refl; all = refl }, refl), (tt, tt))))))))
include_writable include.Stdlib h = (tt, (include_word, (tt, (tt, ((record { some = omega arith; letter = refl; all = refl }, refl), (tt, ((record { some = omega arith; letter = refl; all = refl }, refl), (tt, tt))))))))
include_writable (include.Own x) h = (tt, (include_word, (tt, (bytes_small (x ++ codes ".h") (file_bytes x h), tt))))

item_writable : (style : Brackets) → (i : Item) → IsWritableItem style i → AreWritable (item_marks style i)
item_writable style (item.Include f) h = include_writable f h
item_writable style (item.StructType x) h = inner_writable (item_marks style (item.StructType x)) h
item_writable style (item.Struct x) h = inner_writable (item_marks style (item.Struct x)) h
item_writable style (item.Enumeration x) h = inner_writable (item_marks style (item.Enumeration x)) h
item_writable style (item.FunctionType x) h = inner_writable (item_marks style (item.FunctionType x)) h
item_writable style (item.Prototype x) h = inner_writable (item_marks style (item.Prototype x)) h
item_writable style (item.Variable x) h = inner_writable (item_marks style (item.Variable x)) h
item_writable style (item.InterfaceTable x) h = inner_writable (item_marks style (item.InterfaceTable x)) h
item_writable style (item.Function x) h = inner_writable (item_marks style (item.Function x)) h

between_writable : (o : Option Group) (p : Group) → AreWritable (between_items o p)
between_writable None p = tt
between_writable (Some g) p = go (is_close g p)
  where
    go : (b : Bool) → AreWritable (cond b (Line 0 ∷ []) (Line 0 ∷ Line 0 ∷ []))
    go true = (tt, tt)
    go false = (tt, (tt, tt))

pub items_writable : (style : Brackets) → (o : Option Group) (is : List Item) → AreWritableItems style is → AreWritable (items_marks style o is)
items_writable style o [] h = tt
items_writable style o (i ∷ is) h = writable_append (between_items o (group_of i) ++ item_marks style i) (items_marks style (Some (group_of i)) is) (writable_append (between_items o (group_of i)) (item_marks style i) (between_writable o (group_of i)) (item_writable style i h.0)) (items_writable style (Some (group_of i)) is h.1)

pub unit_writable : (style : Brackets) → (is : List Item) → AreWritableItems style is → AreWritable (items_marks style None is ++ Line 0 ∷ [])
unit_writable style is h = writable_append (items_marks style None is) (Line 0 ∷ []) (items_writable style None is h) (tt, tt)

-- 5. Whole texts

-- tokens of bytes cover them
abbrev pub TokensCover : Type 0
TokensCover = (l : Left) (ts : List Lexeme) (o : Option BadToken) → l.at ≤ length l.bytes → Tokens l ts o → Covers l.at (drop l.at l.bytes) ts o

-- the brackets of what is written are those of its tokens
marks_shallow : (o : Open) (t : Text) (f : Bool) (ms : Marks) → is_shallow o (map plain (lexemes t f ms)) ≡ is_shallow o (word ms)
marks_shallow o t f [] = refl
marks_shallow o t f (Space ∷ ms) = marks_shallow o (put_mark t Space) f ms
marks_shallow o t f (Line n ∷ ms) = marks_shallow o (put_mark t (Line n)) true ms
marks_shallow o t f (Name x ∷ ms) = ap (λ b. nat_le (length o) 64 && b) (marks_shallow o (put_mark t (Name x)) false ms)
marks_shallow o t f (AKeyword x ∷ ms) = ap (λ b. nat_le (length o) 64 && b) (marks_shallow o (put_mark t (AKeyword x)) false ms)
marks_shallow o t f (AConstant x ∷ ms) = ap (λ b. nat_le (length o) 64 && b) (marks_shallow o (put_mark t (AConstant x)) false ms)
marks_shallow o t f (Number n y ∷ ms) = ap (λ b. nat_le (length o) 64 && b) (marks_shallow o (put_mark t (Number n y)) false ms)
marks_shallow o t f (Chars x ∷ ms) = ap (λ b. nat_le (length o) 64 && b) (marks_shallow o (put_mark t (Chars x)) false ms)
marks_shallow o t f (Character x ∷ ms) = ap (λ b. nat_le (length o) 64 && b) (marks_shallow o (put_mark t (Character x)) false ms)
marks_shallow o t f (ASign x ∷ ms) = ap (λ b. nat_le (length (with_sign o x)) 64 && b) (marks_shallow (with_sign o x) (put_mark t (ASign x)) false ms)

all_bytes : (z : List ℕ) → All (λ (b : ℕ). b < 256) z → AreBytes z
all_bytes [] h = tt
all_bytes (b ∷ z) h = (h 0 b (omega arith), all_bytes z (λ k d l. h (suc k) d (omega arith)))

-- what is written of a unit that bytes are read as is read, where it does not nest too deep
text_read : (style : Brackets) → TokensAreRead → TokensCover → (u : CUnit) (bytes : List ℕ) → bytes ≡ (put_marks empty (unit_marks style u)).bytes
    → (Tokens (all_of bytes) (lexemes empty true (unit_marks style u)) None → is_shallow [] (word (unit_marks style u)) ≡ true) → IsWellFormed u → IsTextOf u bytes
text_read style lexed covers u bytes e nests h =
    let was = h.2.reads.items in
    let inner = items_inner style was (bytes_given h.0 h.2.tokens None (covers (all_of h.0) h.2.tokens None (omega arith) h.2.lexed) (all_bytes h.0 h.1)) in
    let m = all_items_read style u.items library_names was inner in
    let read : CUnit = record { items = m.tree } in
    let same : bare read ≡ bare u = λ i. record { items = m.same i } in
    let tokens : Tokens (all_of bytes) (lexemes empty true (unit_marks style u)) None = subst (λ z. Tokens (all_of z) (lexemes empty true (unit_marks style u)) None) (sym e) (lexed (unit_marks style u) (unit_writable style u.items inner)) in
    record {
      read = read;
      reads = record {
        tokens = lexemes empty true (unit_marks style u);
        lexed = tokens;
        reads = record { items = m.reads; shallow = all_items_nest style u.items inner [] (nests tokens) };
        sound = sound_alike u read was m.reads same h.2.sound;
      };
      same = same;
    }

-- a text in which no more than 64 brackets are open
shallow_read : (style : Brackets) → TokensAreRead → TokensCover → (u : CUnit) (bytes : List ℕ) → bytes ≡ (put_marks empty (unit_marks style u)).bytes → IsShallowText bytes → IsWellFormed u → IsTextOf u bytes
shallow_read style lexed covers u bytes e shallow h = text_read style lexed covers u bytes e (λ ts. sym (marks_shallow [] empty true (unit_marks style u)) ∙ shallow (lexemes empty true (unit_marks style u)) ts) h

-- a text with the brackets that are needed
needed_read : TokensAreRead → TokensCover → (u : CUnit) (bytes : List ℕ) → bytes ≡ (put_marks empty (unit_marks Needed u)).bytes → IsWellFormed u → IsTextOf u bytes
needed_read lexed covers u bytes e h = text_read Needed lexed covers u bytes e (λ ts. needed_nests h.2.reads.items h.2.reads.shallow) h

-- a text of one unit is a text of the same at other places
text_moves : (a b : CUnit) (bytes : List ℕ) → SameUnit a b → IsTextOf a bytes → IsTextOf b bytes
text_moves a b bytes e t = record { read = t.read; reads = t.reads; same = t.same ∙ e }

-- the same where the unit was read, and then written from other places
pub shallow_read_at : (style : Brackets) → TokensAreRead → TokensCover → (u : CUnit) (bytes : List ℕ) → bytes ≡ (put_marks empty (unit_marks style u)).bytes → IsShallowText bytes
    → (p : CUnit) → IsWellFormed p → SameUnit p u → IsTextOf u bytes
shallow_read_at style lexed covers u bytes e shallow p h same =
    text_moves p u bytes same (shallow_read style lexed covers p bytes (e ∙ ap (λ ms. (put_marks empty ms).bytes) (sym (unit_moves style p u same))) shallow h)

pub needed_read_at : TokensAreRead → TokensCover → (u : CUnit) (bytes : List ℕ) → bytes ≡ (put_marks empty (unit_marks Needed u)).bytes
    → (p : CUnit) → IsWellFormed p → SameUnit p u → IsTextOf u bytes
needed_read_at lexed covers u bytes e p h same =
    text_moves p u bytes same (needed_read lexed covers p bytes (e ∙ ap (λ ms. (put_marks empty ms).bytes) (sym (unit_moves Needed p u same))) h)

-- what follows of a text that was written
pub on_text : {V E : Type 0} {P Q : V → Type 0} (r : Result V E) → IfOk r P → ((x : V) → P x → Q x) → IfOk r Q
on_text (Ok x) h f = f x h
on_text (Err e) h f = h
