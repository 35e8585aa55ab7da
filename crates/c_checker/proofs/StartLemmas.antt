-- The names of the library, the last of them first.
use Rattle.std.proofs.Common.{◌≡◌, ◌∙◌, refl, sym, ap, arith, map, ℕ, zero, suc, ◌+◌, ◌-◌, false, ◌≤◌, length, get_or, take, List, [], ◌∷◌, ◌++◌}
use Rattle.std.proofs.lemmas.List.{length-map, map-append}
use Rattle.c_tree.specs.declared.kinds.Sort.TheVariants as sort
use Rattle.c_tree.specs.Library.{TypeRow}
use Rattle.c_tree.specs.Library.{Row as Function}
use Rattle.c_tree.specs.Env.{Entry, Env, row_entries, with_entry}
use Rattle.c_tree.specs.declared.kinds.KindBase.TheVariants.{Void}
use Rattle.c_body_checker.specs.declared.library.LibraryRow.{LibraryRow}
use Rattle.c_body_checker.specs.Rows.{row_seen}
use Rattle.c_checker.specs.declared.library_types.NamedKind.{NamedKind}
use Rattle.c_checker.specs.declared.library_types.SignatureRow.{SignatureRow}
use Rattle.c_checker.specs.declared.library_types.StructRow.{StructRow}
use Rattle.c_checker.specs.Tables.{named_seen, with_rows, with_types}

-- what stands behind the end of a table
abbrev pub no_named : NamedKind
no_named = (record { ref_ptr = (0, 0); now = [] }, Void, 0)

-- the same of functions
abbrev pub no_row : LibraryRow
no_row = record { name = record { ref_ptr = (0, 0); now = [] }; takes_type = false; parameters = record { ref_ptr = (0, 0); now = [] }; result = record { base = Void; stars = 0 } }

-- the same of structs
abbrev pub no_struct : StructRow
no_struct = (record { ref_ptr = (0, 0); now = [] }, 0, record { ref_ptr = (0, 0); now = [] })

-- the same of signatures
abbrev pub no_signature : SignatureRow
no_signature = ((Void, 0), record { ref_ptr = (0, 0); now = [] })

ends_at : {A : Type 0} (xs : List A) (i : ℕ) (d : A) → suc i ≡ length xs → xs ≡ take i xs ++ get_or xs i d ∷ []
ends_at [] i d e = absurd (omega (arith, e))
ends_at (y ∷ []) zero d e = refl
ends_at (y ∷ z ∷ zs) zero d e = absurd (omega (arith, e))
ends_at (y ∷ ys) (suc i) d e = ap (λ z. y ∷ z) (ends_at ys i d (omega (arith, e)))

-- a list ends in its last element
pub ends_in : {A : Type 0} (xs : List A) (d : A) → 1 ≤ length xs → xs ≡ take (length xs - 1) xs ++ get_or xs (length xs - 1) d ∷ []
ends_in xs d h = ends_at xs (length xs - 1) d (omega (arith, h))

types_last : (env : Env) (ts : List TypeRow) (t : TypeRow) → with_types env (ts ++ t ∷ []) ≡ with_types (with_types env (t ∷ [])) ts
types_last env [] t = refl
types_last env (u ∷ ts) t = ap (λ (d : Env). record d { scopes = with_entry d.scopes (record { name = u.name; sort = sort.Type u.kind }) }) (types_last env ts t)

-- one type more, from the last one on
pub type_turn : (types rest : List NamedKind) (t : NamedKind) (d e : Env) → types ≡ rest ++ t ∷ [] → e ≡ with_types d (named_seen t ∷ []) → with_types e (map named_seen rest) ≡ with_types d (map named_seen types)
type_turn types rest t d e is p =
    ap (λ x. with_types x (map named_seen rest)) p ∙ sym (types_last d (map named_seen rest) (named_seen t))
    ∙ ap (with_types d) (sym (ap (map named_seen) is ∙ map-append named_seen rest (t ∷ [])))

entries_last : (n : ℕ) (rs : List Function) (r : Function) → row_entries n (rs ++ r ∷ []) ≡ row_entries n rs ++ record { name = r.name; sort = sort.Row (n + length rs) } ∷ []
entries_last n [] r = ap (λ k. record { name = r.name; sort = sort.Row k } ∷ []) (let e : n ≡ n + 0 = omega arith in e)
entries_last n (q ∷ rs) r = ap (λ z. record { name = q.name; sort = sort.Row n } ∷ z)
    (entries_last (suc n) rs r ∙ ap (λ k. row_entries (suc n) rs ++ record { name = r.name; sort = sort.Row k } ∷ []) (let e : suc n + length rs ≡ n + suc (length rs) = omega arith in e))

rows_last : (env : Env) (es : List Entry) (e : Entry) → with_rows env (es ++ e ∷ []) ≡ with_rows (with_rows env (e ∷ [])) es
rows_last env [] e = refl
rows_last env (u ∷ es) e = ap (λ (d : Env). record d { scopes = with_entry d.scopes u }) (rows_last env es e)

-- one function more, from the last one on
pub row_turn : (rows rest : List LibraryRow) (r : LibraryRow) (n : ℕ) (d e : Env) → rows ≡ rest ++ r ∷ [] → n ≡ length rest → e ≡ record d { scopes = with_entry d.scopes (record { name = r.name.now; sort = sort.Row n }) }
    → with_rows e (row_entries 0 (map row_seen rest)) ≡ with_rows d (row_entries 0 (map row_seen rows))
row_turn rows rest r n d e is en ee =
    ap (λ x. with_rows x (row_entries 0 (map row_seen rest)))
    (ee ∙ ap (λ k. record d { scopes = with_entry d.scopes (record { name = r.name.now; sort = sort.Row k }) })
    (en ∙ sym (length-map rest row_seen) ∙ (let h : length (map row_seen rest) ≡ 0 + length (map row_seen rest) = omega arith in h)))
    ∙ sym (rows_last d (row_entries 0 (map row_seen rest)) (record { name = r.name.now; sort = sort.Row (0 + length (map row_seen rest)) }))
    ∙ ap (with_rows d) (sym (ap (row_entries 0) (ap (map row_seen) is ∙ map-append row_seen rest (r ∷ [])) ∙ entries_last 0 (map row_seen rest) (row_seen r)))
