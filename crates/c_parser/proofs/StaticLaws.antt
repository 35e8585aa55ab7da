-- Static items by their steps.
use Rattle.std.proofs.Common.{◌≡◌, ℕ, suc, Bool, true, false, if◌then◌else◌, [], ◌∷◌, Some, None, refl, sym, ap, ◌∙◌, codes}
use Rattle.std.specs.Str.{bytes_eq}
use Rattle.mending_readers.specs.Mending.{mend_then, mend_token, next_in}
use Rattle.c_lexer.specs.declared.token.Keyword.TheVariants as keyword
use Rattle.c_lexer.specs.declared.token.Sign.TheVariants as sign
use Rattle.c_tree.specs.declared.names.CType.{CType}
use Rattle.c_tree.specs.declared.unit.Item.{Item}
use Rattle.c_tree.specs.Names.{Names, role_of}
use Rattle.c_tree.specs.Types.{can_be_type, is_object}
use Rattle.c_tree.specs.Words.{Token, Word, at}
use Rattle.c_grammar.specs.Sorts.{kind, on}
use Rattle.c_grammar.specs.Tests.{word_is, sign_is, is_main, goes_on_type, is_info_or_type}
use Rattle.c_grammar.specs.Laws.{c_limits}
use Rattle.c_grammar.specs.Mending.{made_up}
use Rattle.c_grammar.specs.Parts as part
use Rattle.c_grammar.specs.Trees as tree
use Rattle.c_grammar.specs.Grammar as grammar
use Rattle.c_grammar.specs.Grammar.{C, form}
use Rattle.c_nodes.specs.Rows.{row_of}
use Rattle.c_nodes.proofs.RowLaws.{type_rows}
use Rattle.c_cursor.specs.declared.sets.Set.TheVariants as set
use Rattle.c_cursor.specs.Gives.{seen_by}
use Rattle.c_parser.specs.Pieces as piece
use Rattle.c_cursor.specs.Reading.{Read, Place, one, is_next, read, way}
use Rattle.c_parser.specs.Statics.{assigned, assigned_object, static_behind, init_word, comma_null}
use Rattle.c_cursor.specs.Sets.{is_in}
use Rattle.c_parser.proofs.Thens.{then_just, way_same}
use Rattle.c_parser.proofs.TypeRows.{seen_then, consts_go, rest_law, more_law}
use Rattle.c_parser.proofs.Walks.{Free, free_give, free_take, free_part, free_pick, free_where, run, then_same, by_form}

pub table_law : (e : ℕ) (ns : Names) (l : ℕ) (s : Place) → read e ns part.TableInside l s
    ≡ mend_then (one e ns (set.Sign sign.OpenParen) (suc l) s)
    (λ p z. mend_then (one e ns set.InitFunc (suc l) z) (λ y w. mend_then (one e ns (set.Sign sign.CloseParen) l w)
    (λ q v. mend_then (one e ns set.Name l v)
    (λ f u. mend_then (one e ns (set.Sign sign.Comma) l u) (λ d i. mend_then (one e ns set.Null l i)
    (λ x j. mend_then (one e ns (set.Sign sign.Comma) l j) (λ m k. mend_then (one e ns set.Null l k) (λ o h. Some (f, h)))))))))
unfolding run form one
table_law e ns l s = by_form e ns part.TableInside l s (free_take (λ n b. refl)
    (λ p. free_take (λ n b. refl) (λ y. free_take (λ n b. refl) (λ q. free_take (λ n b. refl) (λ f.
    free_take (λ n b. refl) (λ d. free_take (λ n b. refl) (λ x. free_take (λ n b. refl) (λ m. free_take (λ n b. refl) (λ o. free_give)))))))))

-- 1. Behind the type

free_static : (ns : Names) (t : Token) (c : CType) (n : Token) (object main : Bool) → Free (grammar.static_named ns t c n object main)
free_static ns t c n true false = free_where (λ a. free_part (λ x. free_take (λ n b. refl) (λ q. free_give))) (free_part (λ i. free_give))
free_static ns t c n true true = free_take (λ n b. refl) (λ a. free_part (λ x. free_take (λ n b. refl) (λ q. free_give)))
free_static ns t c n false main = free_part (λ i. free_give)

-- what follows the name
abbrev named_end : ℕ → Names → Token → CType → Bool → Token → Bool → Bool → ℕ → Place → Read Item
named_end e ns t c may n object main l z =
    if object
    then (if main then mend_then (one e ns (set.Sign sign.Assign) l z) (λ a y. piece.value_behind e ns may c n l y)
    else way ns (set.Sign sign.Assign) z (mend_then (one e ns (set.Sign sign.Assign) l z) (λ a y. piece.value_behind e ns may c n l y))
    (read e ns (part.DeclaredOf true c n t.start) l z))
    else read e ns (part.DeclaredOf true c n t.start) l z

run_static : (e : ℕ) (ns : Names) (t : Token) (c : CType) (n : Token) (object main : Bool) (l : ℕ) (z : Place)
    → run e (grammar.static_named ns t c n object main) l z ≡ named_end e ns t c false n object main l z
unfolding run one is_next read piece.variable_behind
run_static e ns t c n true false l z = way_same (next_in kind (on ns (sign_is sign.Assign)) z) refl
    (then_just (read e ns (part.DeclaredOf true c n t.start) l z))
run_static e ns t c n true true l z = refl
run_static e ns t c n false true l z = then_just (read e ns (part.DeclaredOf true c n t.start) l z)
run_static e ns t c n false false l z = then_just (read e ns (part.DeclaredOf true c n t.start) l z)

pub static_end_law : (e : ℕ) (ns : Names) (t : Token) (c : CType) (l : ℕ) (s : Place) → read e ns (part.StaticEnd t c) l s ≡ piece.static_end e ns t c false l s
unfolding run form one piece.static_end
static_end_law e ns t c l s = by_form e ns (part.StaticEnd t c) l s (free_take (λ n b. refl) (λ n. free_static ns t c n (is_object c) (is_main n.bytes)))
    ∙ run_static e ns t c (mend_token C (made_up e) c_limits l 0 (is_in (set.FreeName (is_object c)) ns) [] s).0 (is_object c)
    (is_main (mend_token C (made_up e) c_limits l 0 (is_in (set.FreeName (is_object c)) ns) [] s).0.bytes) l
    (mend_token C (made_up e) c_limits l 0 (is_in (set.FreeName (is_object c)) ns) [] s).1

-- 2. Behind `GInterfaceInfo`

free_value : (ns : Names) (t k i : Token) (c : CType) (n : Token) → Free {r = part.at ns (part.InfoEnd t k i)} (grammar.info_value ns c n (λ i. i))
free_value ns t k i c n = free_pick (free_take (λ n b. refl)
    (λ l. free_part (λ g. free_take (λ n b. refl) (λ r. free_take (λ n b. refl) (λ q. free_give))))) (free_part (λ x. free_take (λ n b. refl) (λ q. free_give)))

free_info : (ns : Names) (t k i n : Token) (c : CType) (object main : Bool) → Free (grammar.info_named ns t k i n c object main)
free_info ns t k i n c true false = free_where (λ a. free_value ns t k i c n) (free_part (λ i. free_give))
free_info ns t k i n c true true = free_take (λ n b. refl) (λ a. free_value ns t k i c n)
free_info ns t k i n c false main = free_part (λ i. free_give)

run_info : (e : ℕ) (ns : Names) (t k i n : Token) (c : CType) (object main : Bool) (l : ℕ) (z : Place)
    → run e (grammar.info_named ns t k i n c object main) l z ≡ named_end e ns t c true n object main l z
unfolding run one is_next read piece.variable_behind piece.table_behind
run_info e ns t k i n c true false l z = way_same (next_in kind (on ns (sign_is sign.Assign)) z) refl
    (then_just (read e ns (part.DeclaredOf true c n t.start) l z))
run_info e ns t k i n c true true l z = refl
run_info e ns t k i n c false true l z = then_just (read e ns (part.DeclaredOf true c n t.start) l z)
run_info e ns t k i n c false false l z = then_just (read e ns (part.DeclaredOf true c n t.start) l z)

free_info_behind : (ns : Names) (t k i : Token) (c : CType) (b : Bool) → Free (grammar.info_behind ns t k i c b)
free_info_behind ns t k i c true = free_pick (free_part (λ d. free_part (λ x. free_give)))
    (free_take (λ n b. refl) (λ n. free_info ns t k i n c (is_object c) (is_main n.bytes)))
free_info_behind ns t k i c false =
    free_take (λ n b. refl) (λ n. free_take (λ n b. refl) (λ a. free_take (λ n b. refl)
    (λ l. free_part (λ g. free_take (λ n b. refl) (λ r. free_take (λ n b. refl) (λ q. free_give))))))

-- by whether it is the name of a type
abbrev info_by : ℕ → Names → Token → Token → Token → CType → Bool → ℕ → Place → Read Item
info_by e ns t k i c b l s =
    if b then way ns set.TypeMore s (mend_then (piece.type_more e ns (Some (at k)) i l s) (λ d z. read e ns (part.StaticEnd t d) l z))
    (piece.static_end e ns t c true l s)
    else mend_then (one e ns set.Name l s) (λ n z. mend_then (one e ns (set.Sign sign.Assign) l z) (λ a y. piece.table_behind e ns n l y))

run_info_behind : (e : ℕ) (ns : Names) (t k i : Token) (c : CType) (b : Bool) (l : ℕ) (s : Place)
    → run e (grammar.info_behind ns t k i c b) l s ≡ info_by e ns t k i c b l s
unfolding run one is_next read piece.static_end piece.table_behind
run_info_behind e ns t k i c true l s =
    way_same (next_in kind (on ns goes_on_type) s)
    (ap (λ o. mend_then o (λ d z. mend_then (read e ns (part.StaticEnd t d) l z) (λ x y. Some (x, y)))) (more_law e ns (k ∷ []) i l s)
    ∙ then_same (piece.type_more e ns (Some (at k)) i l s) (λ d z. mend_then (read e ns (part.StaticEnd t d) l z) (λ x y. Some (x, y)))
    (λ d z. read e ns (part.StaticEnd t d) l z) (λ d z. then_just (read e ns (part.StaticEnd t d) l z)))
    (run_info e ns t k i (mend_token C (made_up e) c_limits l 0 (is_in (set.FreeName (is_object c)) ns) [] s).0 c (is_object c)
    (is_main (mend_token C (made_up e) c_limits l 0 (is_in (set.FreeName (is_object c)) ns) [] s).0.bytes) l
    (mend_token C (made_up e) c_limits l 0 (is_in (set.FreeName (is_object c)) ns) [] s).1)
run_info_behind e ns t k i c false l s = refl

pub info_law : (e : ℕ) (ns : Names) (t k i : Token) (l : ℕ) (s : Place) → read e ns (part.InfoEnd t k i) l s ≡ piece.info_end e ns t (Some (at k)) i l s
unfolding form piece.info_end
info_law e ns t k i l s = by_form e ns (part.InfoEnd t k i) l s
    (free_info_behind ns t k i (tree.type_of (k ∷ []) i [] tree.no_stars) (can_be_type true (role_of ns i.bytes)))
    ∙ run_info_behind e ns t k i (tree.type_of (k ∷ []) i [] tree.no_stars) (can_be_type true (role_of ns i.bytes)) l s
    ∙ ap (λ c. info_by e ns t k i c (can_be_type true (role_of ns i.bytes)) l s) (type_rows (k ∷ []) i [] tree.no_stars)

-- 3. Behind `static`

free_type : (ns : Names) (t : Token) (u : Word) (b : Token) → Free (grammar.static_type ns t u b)
free_type ns t u b = free_part (λ c. free_part (λ i. free_give))

run_type : (e : ℕ) (ns : Names) (t : Token) (u : Word) (b : Token) (l : ℕ) (s : Place)
    → run e (grammar.static_type ns t u b) l s ≡ piece.static_type e ns t (row_of u) b l s
unfolding run read piece.static_type
run_type e ns t u b l s =
    ap (λ o. mend_then o (λ c z. mend_then (read e ns (part.StaticEnd t c) l z) (λ i y. Some (i, y)))) (rest_law e ns u b false l s)
    ∙ then_same (piece.type_rest e ns (row_of u) b false l s) (λ c z. mend_then (read e ns (part.StaticEnd t c) l z) (λ i y. Some (i, y)))
    (λ c z. read e ns (part.StaticEnd t c) l z) (λ c z. then_just (read e ns (part.StaticEnd t c) l z))

free_const : (ns : Names) (t k i : Token) (b : Bool) → Free (grammar.static_const ns t k i b)
free_const ns t k i true = free_part (λ x. free_give)
free_const ns t k i false = free_type ns t (k ∷ []) i

run_const : (e : ℕ) (ns : Names) (t k i : Token) (b : Bool) (l : ℕ) (s : Place) → run e (grammar.static_const ns t k i b) l s
    ≡ (if b then piece.info_end e ns t (Some (at k)) i l s else piece.static_type e ns t (Some (at k)) i l s)
unfolding run read
run_const e ns t k i true l s = then_just (read e ns (part.InfoEnd t k i) l s) ∙ info_law e ns t k i l s
run_const e ns t k i false l s = run_type e ns t (k ∷ []) i l s

-- behind more `const` or none
abbrev base_by : ℕ → Names → Token → Token → ℕ → Word → Place → Read Item
base_by e ns t k l [] s = mend_then (one e ns set.KeyBase l s) (λ b z. run e (grammar.static_type ns t (k ∷ []) b) l z)
base_by e ns t k l (x ∷ u) s = mend_then (one e ns (set.Base true) l s) (λ b z. run e (grammar.static_type ns t (k ∷ x ∷ u) b) l z)

by_row : (e : ℕ) (ns : Names) (t k : Token) (l : ℕ) (u : Word) (s : Place) → base_by e ns t k l u s ≡ piece.static_base e ns t k (row_of u) l s
unfolding one
by_row e ns t k l [] s = run_type e ns t (k ∷ []) (mend_token C (made_up e) c_limits l 0 (is_in set.KeyBase ns) [] s).0 l
    (mend_token C (made_up e) c_limits l 0 (is_in set.KeyBase ns) [] s).1
by_row e ns t k l (x ∷ u) s = run_type e ns t (k ∷ x ∷ u) (mend_token C (made_up e) c_limits l 0 (is_in (set.Base true) ns) [] s).0 l
    (mend_token C (made_up e) c_limits l 0 (is_in (set.Base true) ns) [] s).1

bases : (e : ℕ) (ns : Names) (t k : Token) (l : ℕ) (s : Place)
    → mend_then (read e ns part.Consts l s) (base_by e ns t k l)
    ≡ mend_then (seen_by row_of (read e ns part.Consts l s)) (λ r z. piece.static_base e ns t k r l z)
bases e ns t k l s = then_same (read e ns part.Consts l s) (base_by e ns t k l) (λ u z. piece.static_base e ns t k (row_of u) l z)
    (λ u z. by_row e ns t k l u z)
    ∙ sym (seen_then row_of (read e ns part.Consts l s) (λ r z. piece.static_base e ns t k r l z))

free_rest : (ns : Names) (t : Token) → Free (form ns (part.StaticRest t))
unfolding form
free_rest ns t =
    free_where (λ k. free_where (λ i. free_const ns t k i (bytes_eq i.bytes (codes "GInterfaceInfo")))
    (free_where (λ x. free_part (λ u. free_take (λ n b. refl) (λ b. free_type ns t (k ∷ x ∷ u) b))) (free_take (λ n b. refl) (λ b. free_type ns t (k ∷ []) b))))
    (free_take (λ n b. refl) (λ b. free_type ns t [] b))

-- behind `const`
abbrev const_by : ℕ → Names → Token → ℕ → Token × Place → Read Item
const_by e ns t l k = way ns set.InfoOrType k.1 (mend_then (one e ns set.InfoOrType l k.1) (λ i y. piece.static_named e ns t k.0 i l y))
    (mend_then (seen_by row_of (read e ns part.Consts l k.1)) (λ r y. piece.static_base e ns t k.0 r l y))

pub static_law : (e : ℕ) (ns : Names) (t : Token) (l : ℕ) (s : Place) → read e ns (part.StaticRest t) l s
    ≡ way ns (set.Word keyword.Const) s (mend_then (one e ns (set.Word keyword.Const) l s) (λ k z.
    way ns set.InfoOrType z (mend_then (one e ns set.InfoOrType l z) (λ i y. piece.static_named e ns t k i l y))
    (mend_then (seen_by row_of (read e ns part.Consts l z)) (λ r y. piece.static_base e ns t k r l y))))
    (mend_then (one e ns (set.Base true) l s) (λ b z. piece.static_type e ns t None b l z))
unfolding run form one is_next read piece.static_named
static_law e ns t l s =
    let k : Token × Place = mend_token C (made_up e) c_limits l 0 (is_in (set.Word keyword.Const) ns) [] s in
    let i : Token × Place = mend_token C (made_up e) c_limits l 0 (is_in set.InfoOrType ns) [] k.1 in
    let b : Token × Place = mend_token C (made_up e) c_limits l 0 (is_in (set.Base true) ns) [] s in
    by_form e ns (part.StaticRest t) l s (free_rest ns t)
    ∙ way_same (next_in kind (on ns (word_is keyword.Const)) s)
    (way_same (next_in kind (is_info_or_type ns) k.1) (run_const e ns t k.0 i.0 (bytes_eq i.0.bytes (codes "GInterfaceInfo")) l i.1)
    (consts_go e ns l k.1 (base_by e ns t k.0 l) ∙ bases e ns t k.0 l k.1))
    (run_type e ns t [] b.0 l b.1)

-- 4. Behind the name, by whether `=` follows

behind_name : (e : ℕ) (ns : Names) (t : Token) (c : CType) (may : Bool) (n : Token) (object main : Bool) (l : ℕ) (z : Place) → object ≡ is_object c
    → main ≡ is_main n.bytes
    → named_end e ns t c may n object main l z ≡ mend_then (assigned e ns object n l z) (λ b y. static_behind e ns t c may n b l y)
unfolding assigned one
behind_name e ns t c may n true true l z o m = ap (λ b. mend_then (assigned_object e ns b l z) (λ x y. static_behind e ns t c may n x l y)) m
behind_name e ns t c may n true false l z o m = go (is_next ns (set.Sign sign.Assign) z)
    ∙ ap (λ b. mend_then (assigned_object e ns b l z) (λ x y. static_behind e ns t c may n x l y)) m
  where
    go : (b : Bool) → (if b then mend_then (one e ns (set.Sign sign.Assign) l z) (λ a y. piece.value_behind e ns may c n l y)
        else read e ns (part.DeclaredOf true c n t.start) l z)
        ≡ mend_then (if b then mend_then (one e ns (set.Sign sign.Assign) l z) (λ a y. Some (true, y)) else Some (false, z))
        (λ b y. static_behind e ns t c may n b l y)
    go true = refl
    go false = refl
behind_name e ns t c may n false main l z o m = refl

pub static_steps : (e : ℕ) (ns : Names) (t : Token) (c : CType) (may : Bool) (l : ℕ) (s : Place) → piece.static_end e ns t c may l s
    ≡ mend_then (one e ns (set.FreeName (is_object c)) l s) (λ n z. mend_then (assigned e ns (is_object c) n l z) (λ b y. static_behind e ns t c may n b l y))
unfolding piece.static_end
static_steps e ns t c may l s = then_same (one e ns (set.FreeName (is_object c)) l s) _ _
    (λ n z. behind_name e ns t c may n (is_object c) (is_main n.bytes) l z refl refl)

-- 5. Tables, by smaller steps

pub table_steps : (e : ℕ) (ns : Names) (l : ℕ) (s : Place) → read e ns part.TableInside l s
    ≡ mend_then (init_word e ns l s) (λ q v. mend_then (one e ns set.Name l v)
    (λ f u. mend_then (comma_null e ns l u) (λ x j. mend_then (comma_null e ns l j) (λ o h. Some (f, h)))))
unfolding one init_word comma_null
table_steps e ns l s = table_law e ns l s
