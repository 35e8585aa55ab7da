-- A declaration that is added elsewhere changes no name that is found before.
use Rattle.std.proofs.Common.{◌≡◌, ◌∙◌, refl, sym, ap, ℕ, zero, suc, Bool, true, false, ◌&&◌, ◌||◌, ◌==◌, nat_le, if◌then◌else◌, List, [], ◌∷◌, ◌++◌, Option, Some, None, arith}
use Rattle.std.specs.Option.{option_map}
use Rattle.std.specs.List.{list_any}
use Rattle.std.specs.Str.{bytes_eq}
use Rattle.symbols.specs.declared.table.Symbol.{Symbol}
use Rattle.symbols.specs.declared.table.Names.{Names}
use Rattle.symbols.specs.Outline.{or_else, first_at}
use Rattle.symbols.specs.Search.{is_scoped, is_declared, first_in, nearest}
use Rattle.symbols.specs.Laws.{with_symbol}

first_pushed : {X : Type 0} (p : X → Bool) (xs : List X) (x : X) → p x ≡ false → first_at p (xs ++ x ∷ []) ≡ first_at p xs
first_pushed p [] x e = ap (λ b. if b then Some 0 else None) e
first_pushed p (y ∷ ys) x e = ap (λ o. if p y then Some 0 else option_map suc o) (first_pushed p ys x e)

left_fails : (u v : Bool) → (u || v) ≡ false → u ≡ false
left_fails false v h = refl
left_fails true v h = grind (arith)

right_fails : (u v : Bool) → (u || v) ≡ false → v ≡ false
right_fails false v h = h
right_fails true v h = grind (arith)

module _ (ns : Names) (t : Symbol) (name : List ℕ) (place : ℕ) where
  elsewhere : (scope : ℕ) → (t.scope == scope) ≡ false → first_in (with_symbol t ns) scope name place ≡ first_in ns scope name place
  elsewhere scope e = first_pushed (is_declared scope name place) ns.symbols t (ap (λ b. b && is_scoped t.kind && nat_le t.since place && bytes_eq t.name name) e)

  nearest_stays : (scopes : List ℕ) → list_any (λ scope. t.scope == scope) scopes ≡ false → nearest (with_symbol t ns) name place scopes ≡ nearest ns name place scopes
  nearest_stays [] h = refl
  nearest_stays (scope ∷ scopes) h =
      ap (λ o. or_else o (nearest (with_symbol t ns) name place scopes)) (elsewhere scope (left_fails (t.scope == scope) (list_any (λ x. t.scope == x) scopes) h))
      ∙ ap (λ o. or_else (first_in ns scope name place) o) (nearest_stays scopes (right_fails (t.scope == scope) (list_any (λ x. t.scope == x) scopes) h))

  found_first : (inner outer : List ℕ) (s : ℕ) → nearest (with_symbol t ns) name place inner ≡ Some s → nearest (with_symbol t ns) name place (inner ++ outer) ≡ Some s
  found_first [] outer s h = grind (arith)
  found_first (scope ∷ scopes) outer s h = step (first_in (with_symbol t ns) scope name place) h (found_first scopes outer s)
    where
      step : (o : Option ℕ) → or_else o (nearest (with_symbol t ns) name place scopes) ≡ Some s → (nearest (with_symbol t ns) name place scopes ≡ Some s → nearest (with_symbol t ns) name place (scopes ++ outer) ≡ Some s) → or_else o (nearest (with_symbol t ns) name place (scopes ++ outer)) ≡ Some s
      step None e known = known e
      step (Some u) e known = e

  pub inner_names_stay : (inner outer : List ℕ) (s : ℕ) → list_any (λ scope. t.scope == scope) inner ≡ false → nearest ns name place inner ≡ Some s → nearest (with_symbol t ns) name place (inner ++ outer) ≡ Some s
  inner_names_stay inner outer s h e = found_first inner outer s (nearest_stays inner h ∙ e)
