-- Whole types by their steps.
use Rattle.std.proofs.Common.{◌≡◌, ℕ, ◌&&◌, Bool, true, [], ◌∷◌, Some, refl, sym, ap, ◌∙◌}
use Rattle.mending_readers.specs.Mending.{mend_then}
use Rattle.c_lexer.specs.declared.token.Sign.TheVariants as sign
use Rattle.c_tree.specs.declared.names.CType.{CType}
use Rattle.c_tree.specs.Names.{Names}
use Rattle.c_tree.specs.Words.{Token, Word}
use Rattle.c_grammar.specs.Parts as part
use Rattle.c_grammar.specs.Trees as tree
use Rattle.c_grammar.specs.Grammar.{form}
use Rattle.c_nodes.specs.declared.types.Stars.{Stars}
use Rattle.c_nodes.specs.Rows.{row_of, stars_of, type_in_rows}
use Rattle.c_nodes.proofs.RowLaws.{type_rows}
use Rattle.c_cursor.specs.declared.sets.Set.TheVariants as set
use Rattle.c_cursor.specs.Gives.{seen_by}
use Rattle.c_cursor.specs.Reading.{Read, Place, one, is_next, read}
use Rattle.c_parser.specs.Pieces.{type_rest}
use Rattle.c_parser.specs.Rows.{no_stars, with_star, star_behind, key_base, two_stars}
use Rattle.c_parser.proofs.Thens.{then_just, then_assoc}
use Rattle.c_parser.proofs.StarLaws.{with_more, with_none, with_all}
use Rattle.c_parser.proofs.TypeRows.{seen_then, consts_go, rest_law}
use Rattle.c_parser.proofs.Walks.{Free, free_give, free_take, free_part, free_where, run, then_same, by_form}

-- 1. A type

free_type : (ns : Names) (anyhow object : Bool) → Free (form ns (part.AnyType anyhow object))
unfolding form
free_type ns anyhow object = free_where (λ t. free_part (λ u. free_take (λ n b. refl) (λ b. free_part (λ c. free_give))))
    (free_take (λ n b. refl) (λ b. free_part (λ c. free_give)))

-- the base behind these `const`, and what follows it
abbrev base_by : ℕ → Names → Bool → Bool → ℕ → Word → Place → Read CType
base_by e ns anyhow object l u z = mend_then (one e ns (set.Base anyhow) l z)
    (λ b y. mend_then (read e ns (part.TypeRest u b (object && tree.is_void b)) l y) (λ c w. Some (c, w)))

base_rows : (e : ℕ) (ns : Names) (anyhow object : Bool) (l : ℕ) (u : Word) (z : Place)
    → base_by e ns anyhow object l u z ≡ mend_then (one e ns (set.Base anyhow) l z) (λ b y. type_rest e ns (row_of u) b (object && tree.is_void b) l y)
base_rows e ns anyhow object l u z =
    then_same (one e ns (set.Base anyhow) l z) _ _ (λ b y. then_just (read e ns (part.TypeRest u b (object && tree.is_void b)) l y)
    ∙ rest_law e ns u b (object && tree.is_void b) l y)

pub any_type_law : (e : ℕ) (ns : Names) (anyhow object : Bool) (l : ℕ) (s : Place) → read e ns (part.AnyType anyhow object) l s
    ≡ mend_then (seen_by row_of (read e ns part.Consts l s))
    (λ r z. mend_then (one e ns (set.Base anyhow) l z) (λ b y. type_rest e ns r b (object && tree.is_void b) l y))
unfolding run form one is_next read
any_type_law e ns anyhow object l s = by_form e ns (part.AnyType anyhow object) l s (free_type ns anyhow object)
    ∙ consts_go e ns l s (λ u z. base_by e ns anyhow object l u z)
    ∙ then_same (read e ns part.Consts l s) _ _ (λ u z. base_rows e ns anyhow object l u z) ∙ sym (seen_then row_of (read e ns part.Consts l s) _)

free_key : (ns : Names) → Free (form ns part.KeyType)
unfolding form
free_key ns = free_where (λ t. free_part (λ u. free_take (λ n b. refl) (λ b. free_part (λ c. free_give))))
    (free_take (λ n b. refl) (λ b. free_part (λ c. free_give)))

-- the base of a type that begins with a word of its own, behind these `const`
abbrev key_by : ℕ → Names → ℕ → Word → Place → Read CType
key_by e ns l [] z = mend_then (one e ns set.KeyBase l z) (λ b y. mend_then (read e ns (part.TypeRest [] b (tree.is_void b)) l y) (λ c w. Some (c, w)))
key_by e ns l (t ∷ u) z = base_by e ns true true l (t ∷ u) z

key_rows : (e : ℕ) (ns : Names) (l : ℕ) (u : Word) (z : Place)
    → key_by e ns l u z ≡ mend_then (key_base e ns (row_of u) l z) (λ b y. type_rest e ns (row_of u) b (tree.is_void b) l y)
unfolding key_base
key_rows e ns l [] z = then_same (one e ns set.KeyBase l z) _ _ (λ b y. then_just (read e ns (part.TypeRest [] b (tree.is_void b)) l y)
    ∙ rest_law e ns [] b (tree.is_void b) l y)
key_rows e ns l (t ∷ u) z = base_rows e ns true true l (t ∷ u) z

pub key_type_law : (e : ℕ) (ns : Names) (l : ℕ) (s : Place) → read e ns part.KeyType l s
    ≡ mend_then (seen_by row_of (read e ns part.Consts l s)) (λ r z. mend_then (key_base e ns r l z) (λ b y. type_rest e ns r b (tree.is_void b) l y))
unfolding run form one is_next read
key_type_law e ns l s = by_form e ns part.KeyType l s (free_key ns)
    ∙ consts_go e ns l s (λ u z. key_by e ns l u z)
    ∙ then_same (read e ns part.Consts l s) _ _ (λ u z. key_rows e ns l u z) ∙ sym (seen_then row_of (read e ns part.Consts l s) _)

-- 2. The types of `main`

free_int : (ns : Names) → Free (form ns part.IntType)
unfolding form
free_int ns = free_where (λ t. free_part (λ u. free_take (λ n b. refl) (λ b. free_part (λ v. free_give))))
    (free_take (λ n b. refl) (λ b. free_part (λ v. free_give)))

abbrev int_by : ℕ → Names → ℕ → Word → Place → Read CType
int_by e ns l u z = mend_then (one e ns set.IntBase l z) (λ b y. mend_then (read e ns part.Consts l y) (λ v w. Some (tree.type_of u b v tree.no_stars, w)))

int_rows : (e : ℕ) (ns : Names) (l : ℕ) (u : Word) (z : Place)
    → int_by e ns l u z ≡ mend_then (one e ns set.IntBase l z)
    (λ b y. mend_then (seen_by row_of (read e ns part.Consts l y)) (λ q w. Some (type_in_rows (row_of u) b q no_stars, w)))
int_rows e ns l u z = then_same (one e ns set.IntBase l z) _ _ (λ b y.
    then_same (read e ns part.Consts l y) _ _ (λ v w. ap (λ c. Some (c, w)) (type_rows u b v tree.no_stars))
    ∙ sym (seen_then row_of (read e ns part.Consts l y) _))

pub int_type_law : (e : ℕ) (ns : Names) (l : ℕ) (s : Place) → read e ns part.IntType l s
    ≡ mend_then (seen_by row_of (read e ns part.Consts l s))
    (λ r z. mend_then (one e ns set.IntBase l z) (λ b y. mend_then (seen_by row_of (read e ns part.Consts l y))
    (λ q w. Some (type_in_rows r b q no_stars, w))))
unfolding run form one is_next read
int_type_law e ns l s = by_form e ns part.IntType l s (free_int ns)
    ∙ consts_go e ns l s (λ u z. int_by e ns l u z)
    ∙ then_same (read e ns part.Consts l s) _ _ (λ u z. int_rows e ns l u z) ∙ sym (seen_then row_of (read e ns part.Consts l s) _)

free_texts : (ns : Names) → Free (form ns part.TextsType)
unfolding form
free_texts ns = free_where
    (λ t. free_part (λ u. free_take (λ n b. refl) (λ b. free_part
    (λ v. free_take (λ n b. refl) (λ p. free_part (λ x. free_take (λ n b. refl) (λ q. free_part (λ y. free_give))))))))
    (free_take (λ n b. refl) (λ b. free_part (λ v. free_take (λ n b. refl) (λ p. free_part (λ x. free_take (λ n b. refl) (λ q. free_part (λ y. free_give)))))))

abbrev texts_by : ℕ → Names → ℕ → Word → Place → Read CType
texts_by e ns l u z = mend_then (one e ns set.CharBase l z) (λ b y. mend_then (read e ns part.Consts l y)
    (λ v w. mend_then (one e ns (set.Sign sign.Star) l w) (λ p i. mend_then (read e ns part.Consts l i) (λ x j.
    mend_then (one e ns (set.Sign sign.Star) l j) (λ q k. mend_then (read e ns part.Consts l k)
    (λ y m. Some (tree.type_of u b v (tree.two_stars p x q y), m)))))))

two_rows : (p q : Token) (x y : Word) → stars_of (tree.two_stars p x q y) ≡ with_star (with_star no_stars p (row_of x)) q (row_of y)
two_rows p q x y =
    sym (with_none (tree.two_stars p x q y)) ∙ sym (with_more no_stars p x (tree.one_star q y tree.no_stars))
    ∙ sym (with_more (with_star no_stars p (row_of x)) q y tree.no_stars)
    ∙ with_all (with_star (with_star no_stars p (row_of x)) q (row_of y))

texts_type : (u v x y : Word) (b p q : Token) → tree.type_of u b v (tree.two_stars p x q y)
    ≡ type_in_rows (row_of u) b (row_of v) (with_star (with_star no_stars p (row_of x)) q (row_of y))
texts_type u v x y b p q = type_rows u b v (tree.two_stars p x q y) ∙ ap (λ k. type_in_rows (row_of u) b (row_of v) k) (two_rows p q x y)

-- the second star
second : {D : Type 0} (e : ℕ) (ns : Names) (l : ℕ) (a : Stars) (j : Place) (f : Stars → D)
    → mend_then (mend_then (one e ns (set.Sign sign.Star) l j) (λ q k. star_behind e ns a q l k)) (λ c m. Some (f c, m))
    ≡ mend_then (one e ns (set.Sign sign.Star) l j) (λ q k. mend_then (read e ns part.Consts l k) (λ y m. Some (f (with_star a q (row_of y)), m)))
unfolding star_behind
second e ns l a j f = then_assoc (one e ns (set.Sign sign.Star) l j) (λ q k. star_behind e ns a q l k) (λ c m. Some (f c, m))
    ∙ then_same (one e ns (set.Sign sign.Star) l j) _ _ (λ q k. then_assoc (seen_by row_of (read e ns part.Consts l k)) _ (λ c m. Some (f c, m))
    ∙ seen_then row_of (read e ns part.Consts l k) _)

-- both stars
both : {D : Type 0} (e : ℕ) (ns : Names) (l : ℕ) (w : Place) (f : Stars → D) → mend_then (two_stars e ns l w) (λ c m. Some (f c, m))
    ≡ mend_then (one e ns (set.Sign sign.Star) l w) (λ p i. mend_then (read e ns part.Consts l i)
    (λ x j. mend_then (one e ns (set.Sign sign.Star) l j) (λ q k. mend_then (read e ns part.Consts l k)
    (λ y m. Some (f (with_star (with_star no_stars p (row_of x)) q (row_of y)), m)))))
unfolding two_stars star_behind
both e ns l w f = then_assoc (one e ns (set.Sign sign.Star) l w) _ (λ c m. Some (f c, m))
    ∙ then_same (one e ns (set.Sign sign.Star) l w) _ _ (λ p i. then_assoc
    (mend_then (seen_by row_of (read e ns part.Consts l i)) (λ r z. Some (with_star no_stars p r, z))) _ (λ c m. Some (f c, m))
    ∙ then_assoc (seen_by row_of (read e ns part.Consts l i)) _ _
    ∙ seen_then row_of (read e ns part.Consts l i) _
    ∙ then_same (read e ns part.Consts l i) _ _ (λ x j. second e ns l (with_star no_stars p (row_of x)) j f))

texts_rows : (e : ℕ) (ns : Names) (l : ℕ) (u : Word) (z : Place) → texts_by e ns l u z
    ≡ mend_then (one e ns set.CharBase l z) (λ b y. mend_then (seen_by row_of (read e ns part.Consts l y))
    (λ q w. mend_then (two_stars e ns l w) (λ k i. Some (type_in_rows (row_of u) b q k, i))))
texts_rows e ns l u z = then_same (one e ns set.CharBase l z) _ _ (λ b y.
    then_same (read e ns part.Consts l y) _ _ (λ v w.
    then_same (one e ns (set.Sign sign.Star) l w) _ _ (λ p i. then_same (read e ns part.Consts l i) _ _
    (λ x j. then_same (one e ns (set.Sign sign.Star) l j) _ _ (λ q k. then_same (read e ns part.Consts l k) _ _ (λ y m.
    ap (λ c. Some (c, m)) (texts_type u v x y b p q)))))
    ∙ sym (both e ns l w (λ k. type_in_rows (row_of u) b (row_of v) k)))
    ∙ sym (seen_then row_of (read e ns part.Consts l y) _))

pub texts_type_law : (e : ℕ) (ns : Names) (l : ℕ) (s : Place) → read e ns part.TextsType l s
    ≡ mend_then (seen_by row_of (read e ns part.Consts l s))
    (λ r z. mend_then (one e ns set.CharBase l z) (λ b y. mend_then (seen_by row_of (read e ns part.Consts l y))
    (λ q w. mend_then (two_stars e ns l w) (λ k i. Some (type_in_rows r b q k, i)))))
unfolding run form one is_next read
texts_type_law e ns l s = by_form e ns part.TextsType l s (free_texts ns)
    ∙ consts_go e ns l s (λ u z. texts_by e ns l u z)
    ∙ then_same (read e ns part.Consts l s) _ _ (λ u z. texts_rows e ns l u z) ∙ sym (seen_then row_of (read e ns part.Consts l s) _)
