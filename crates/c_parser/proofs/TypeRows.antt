-- Types by where the tokens around their base stand.
use Rattle.std.proofs.Common.{◌≡◌, ℕ, Bool, true, false, not, is_some, if◌then◌else◌, [], ◌∷◌, Some, None, refl, sym, ap, ◌∙◌}
use Rattle.mending_readers.specs.Mending.{mend_then, mend_token}
use Rattle.c_grammar.specs.Grammar.{C}
use Rattle.c_grammar.specs.Laws.{c_limits}
use Rattle.c_grammar.specs.Mending.{made_up}
use Rattle.c_cursor.specs.Sets.{is_in}
use Rattle.c_lexer.specs.declared.token.Keyword.TheVariants as keyword
use Rattle.c_tree.specs.declared.names.CType.{CType}
use Rattle.c_tree.specs.Names.{Names}
use Rattle.c_tree.specs.Words.{Token, Word}
use Rattle.c_grammar.specs.Parts as part
use Rattle.c_grammar.specs.Parts.{Starred}
use Rattle.c_grammar.specs.Trees as tree
use Rattle.c_grammar.specs.Grammar.{form}
use Rattle.c_nodes.specs.Rows.{row_of, stars_of, type_in_rows}
use Rattle.c_nodes.proofs.RowLaws.{type_rows}
use Rattle.c_cursor.specs.declared.sets.Set.TheVariants as set
use Rattle.c_cursor.specs.Gives.{seen_by}
use Rattle.c_cursor.specs.Reading.{Read, Place, one, is_next, read, way}
use Rattle.c_parser.specs.Pieces.{type_rest, type_more}
use Rattle.c_parser.proofs.Thens.{then_assoc}
use Rattle.c_parser.proofs.Walks.{Free, free_give, free_part, free_where, run, then_same, by_form}

pub seen_then : {A B D : Type 0} (f : A → B) (o : Read A) (k : B → Place → Read D) → mend_then (seen_by f o) k ≡ mend_then o (λ a z. k (f a) z)
seen_then f None k = refl
seen_then f (Some x) k = refl

free_rest : (ns : Names) (u : Word) (t : Token) (must : Bool) → Free (form ns (part.TypeRest u t must))
unfolding form
free_rest ns u t must = free_where (λ c. free_part (λ v. free_part (λ s. free_give))) (free_part (λ s. free_give))

free_consts : (ns : Names) → Free (form ns part.Consts)
unfolding form
free_consts ns = free_where (λ c. free_part (λ v. free_give)) free_give

-- `const` and what goes on, by whether there is one
pub consts_way : (e : ℕ) (ns : Names) (l : ℕ) (s : Place) → read e ns part.Consts l s
    ≡ way ns (set.Word keyword.Const) s (mend_then (one e ns (set.Word keyword.Const) l s)
    (λ c z. mend_then (read e ns part.Consts l z) (λ v y. Some (c ∷ v, y)))) (Some ([], s))
unfolding run form one is_next read
consts_way e ns l s = by_form e ns part.Consts l s (free_consts ns)

abbrev consts_by : ℕ → Names → ℕ → Place → Bool → Read Word
consts_by e ns l s b = if b then mend_then (one e ns (set.Word keyword.Const) l s)
    (λ c z. mend_then (read e ns part.Consts l z) (λ v y. Some (c ∷ v, y))) else Some ([], s)

-- what goes on behind `const` or without it
pub consts_go : {D : Type 0} (e : ℕ) (ns : Names) (l : ℕ) (s : Place) (k : Word → Place → Read D)
    → way ns (set.Word keyword.Const) s (mend_then (one e ns (set.Word keyword.Const) l s)
    (λ c z. mend_then (read e ns part.Consts l z) (λ v y. k (c ∷ v) y))) (k [] s)
    ≡ mend_then (read e ns part.Consts l s) k
unfolding one
consts_go e ns l s k = go (is_next ns (set.Word keyword.Const) s) refl
  where
    go : (b : Bool) → is_next ns (set.Word keyword.Const) s ≡ b
        → (if b then mend_then (one e ns (set.Word keyword.Const) l s) (λ c z. mend_then (read e ns part.Consts l z) (λ v y. k (c ∷ v) y))
        else k [] s) ≡ mend_then (read e ns part.Consts l s) k
    go true is = sym (then_assoc (read e ns part.Consts l (mend_token C (made_up e) c_limits l 0 (is_in (set.Word keyword.Const) ns) [] s).1)
        (λ v y. Some ((mend_token C (made_up e) c_limits l 0 (is_in (set.Word keyword.Const) ns) [] s).0 ∷ v, y)) k)
        ∙ sym (ap (λ o. mend_then o k) (consts_way e ns l s ∙ ap (consts_by e ns l s) is))
    go false is = sym (ap (λ o. mend_then o k) (consts_way e ns l s ∙ ap (consts_by e ns l s) is))

-- what stands behind a base
rest_go : (e : ℕ) (ns : Names) (u : Word) (t : Token) (must : Bool) (l : ℕ) (s : Place)
    → mend_then (read e ns part.Consts l s) (λ v z. mend_then (read e ns (part.Stars must) l z) (λ k y. Some (tree.type_of u t v k, y)))
    ≡ type_rest e ns (row_of u) t must l s
unfolding type_rest
rest_go e ns u t must l s =
    then_same (read e ns part.Consts l s) _ _ (λ v z. then_same (read e ns (part.Stars must) l z) _ _
    (λ k y. ap (λ c. Some (c, y)) (type_rows u t v k)) ∙ sym (seen_then stars_of (read e ns (part.Stars must) l z) _))
    ∙ sym (seen_then row_of (read e ns part.Consts l s) _)

pub rest_law : (e : ℕ) (ns : Names) (u : Word) (t : Token) (must : Bool) (l : ℕ) (s : Place)
    → read e ns (part.TypeRest u t must) l s ≡ type_rest e ns (row_of u) t must l s
unfolding run form one is_next read
rest_law e ns u t must l s = by_form e ns (part.TypeRest u t must) l s (free_rest ns u t must)
    ∙ consts_go e ns l s (λ v z. mend_then (read e ns (part.Stars must) l z) (λ k y. Some (tree.type_of u t v k, y))) ∙ rest_go e ns u t must l s

free_more : (ns : Names) (u : Word) (t : Token) → Free (form ns (part.TypeMore u t))
unfolding form
free_more ns u t = free_where (λ c. free_part (λ v. free_part (λ s. free_give))) (free_part (λ s. free_give))

-- stars behind `const`; one at least where there is none
abbrev more_stars : ℕ → Names → Word → Token → ℕ → Word → Place → Read CType
more_stars e ns u t l [] z = mend_then (read e ns (part.Stars true) l z) (λ k y. Some (tree.type_of u t [] k, y))
more_stars e ns u t l (c ∷ v) z = mend_then (read e ns (part.Stars false) l z) (λ k y. Some (tree.type_of u t (c ∷ v) k, y))

in_rows : (e : ℕ) (ns : Names) (u : Word) (t : Token) (l : ℕ) (v : Word) (z : Place)
    → more_stars e ns u t l v z ≡ mend_then (seen_by stars_of (read e ns (part.Stars (not (is_some (row_of v)))) l z))
    (λ k y. Some (type_in_rows (row_of u) t (row_of v) k, y))
in_rows e ns u t l [] z = then_same (read e ns (part.Stars true) l z) _ _ (λ k y. ap (λ c. Some (c, y)) (type_rows u t [] k))
    ∙ sym (seen_then stars_of (read e ns (part.Stars true) l z) _)
in_rows e ns u t l (c ∷ v) z = then_same (read e ns (part.Stars false) l z) _ _ (λ k y. ap (λ d. Some (d, y)) (type_rows u t (c ∷ v) k))
    ∙ sym (seen_then stars_of (read e ns (part.Stars false) l z) _)

pub more_law : (e : ℕ) (ns : Names) (u : Word) (t : Token) (l : ℕ) (s : Place) → read e ns (part.TypeMore u t) l s ≡ type_more e ns (row_of u) t l s
unfolding run form one is_next read type_more
more_law e ns u t l s = by_form e ns (part.TypeMore u t) l s (free_more ns u t)
    ∙ consts_go e ns l s (more_stars e ns u t l)
    ∙ then_same (read e ns part.Consts l s) _ _ (λ v z. in_rows e ns u t l v z) ∙ sym (seen_then row_of (read e ns part.Consts l s) _)
