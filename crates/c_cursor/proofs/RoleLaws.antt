-- The role of a name, by the table.
use Rattle.std.proofs.Common.{◌≡◌, ℕ, zero, suc, Bool, true, false, if◌then◌else◌, List, [], ◌∷◌, length, drop, get_or, ◌+◌, ◌<◌, arith, Some, None}
use Rattle.std.proofs.Common.{refl, sym, ap, ◌∙◌}
use Rattle.std.specs.Str.{bytes_eq}
use Rattle.std.proofs.Math.Seq.{drop-cons}
use Rattle.c_tree.specs.Names as names
use Rattle.name_table.specs.declared.found.Found.{Found}
use Rattle.name_table.specs.Names.{latest}
use Rattle.c_nodes.specs.declared.role.Role.{Role}
use Rattle.c_nodes.specs.Roles.{role_of}
use Rattle.c_cursor.specs.declared.names.Declared.{Declared}
use Rattle.c_cursor.specs.Scopes.{declared, declared_behind, scope}

pub role_found : (es : List (List ℕ × Role)) (x : List ℕ) (f : Found Role) → latest x es ≡ Some f → role_of f.meaning ≡ names.role_of (scope es) x
role_found [] x f e = absurd cc
role_found (d ∷ es) x f e = go (bytes_eq d.0 x) (role_found es x f) e
  where
    go : (b : Bool) → (latest x es ≡ Some f → role_of f.meaning ≡ names.role_of (scope es) x)
        → (if b then Some (record { meaning = d.1; position = length es }) else latest x es) ≡ Some f
        → role_of f.meaning ≡ (if b then role_of d.1 else names.role_of (scope es) x)
    go true more h = cc
    go false more h = more h

pub role_missing : (es : List (List ℕ × Role)) (x : List ℕ) → latest x es ≡ None → names.Unknown ≡ names.role_of (scope es) x
role_missing [] x e = refl
role_missing (d ∷ es) x e = go (bytes_eq d.0 x) (role_missing es x) e
  where
    go : (b : Bool) → (latest x es ≡ None → names.Unknown ≡ names.role_of (scope es) x)
        → (if b then Some (record { meaning = d.1; position = length es }) else latest x es) ≡ None
        → names.Unknown ≡ (if b then role_of d.1 else names.role_of (scope es) x)
    go true more h = absurd cc
    go false more h = more h

pub length_scope : (es : List (List ℕ × Role)) → length (scope es) ≡ length es
length_scope [] = refl
length_scope (e ∷ es) = rw (length_scope es)

pub drop_scope : (n : ℕ) (es : List (List ℕ × Role)) → scope (drop n es) ≡ drop n (scope es)
drop_scope zero es = refl
drop_scope (suc n) [] = refl
drop_scope (suc n) (e ∷ es) = drop_scope n es

-- one more is declared
pub declared_more : (ds : List Declared) (i : ℕ) (d : Declared) (ns ms all : names.Names) → i < length ds → declared_behind ns (drop i ds) ≡ all
    → ms ≡ declared ((get_or ds i d).name.now, (get_or ds i d).role) ∷ ns → declared_behind ms (drop (i + 1) ds) ≡ all
declared_more ds i d ns ms all h e new =
    ap (λ (xs : names.Names). declared_behind xs (drop (i + 1) ds)) new
    ∙ sym (ap (declared_behind ns) (drop-cons ds i d h ∙ ap (λ (n : ℕ). get_or ds i d ∷ drop n ds) (let next : suc i ≡ i + 1 = omega arith in next))) ∙ e

pub ruleset role_laws = (role_found, role_missing, length_scope, drop_scope)
