-- The grammar of types.
use Rattle.std.specs.Prelude.{◌≡◌, ℕ, suc, ◌==◌, ◌&&◌, ◌||◌, not, Bool, true, false, [], ◌∷◌, ◌++◌}
use Rattle.c_lexer.specs.declared.token.Keyword.TheVariants as keyword
use Rattle.c_lexer.specs.declared.token.Sign.TheVariants as sign
use Rattle.c_tree.specs.declared.names.Base.{Base}
use Rattle.c_tree.specs.declared.names.Base.TheVariants as base
use Rattle.c_tree.specs.declared.names.CType.{CType}
use Rattle.c_tree.specs.Words.{Token, Word, IsSign, IsWord, IsName, extent}
use Rattle.c_tree.specs.Names.{Names, Role, TypeName, Unknown, role_of}
use Rattle.c_tree.specs.Make.{name_at}

-- Where nothing but a type can stand, an undeclared name is read as one; elsewhere it is a value.
abbrev pub can_be_type : Bool → Role → Bool
can_be_type anyhow (TypeName m) = true
can_be_type anyhow Unknown = anyhow
can_be_type anyhow r = false

-- the base of a type, by its token
pub data BaseIs (ns : Names) (anyhow : Bool) : Token → Base → Type 0 where
  void_is : {t : Token} → IsWord t keyword.Void → BaseIs ns anyhow t base.Void
  int_is : {t : Token} → IsWord t keyword.Int → BaseIs ns anyhow t base.Int
  char_is : {t : Token} → IsWord t keyword.Char → BaseIs ns anyhow t base.Char
  named_is : {t : Token} → IsName t → can_be_type anyhow (role_of ns t.bytes) ≡ true → BaseIs ns anyhow t (base.Named (name_at t))

-- any number of `const`, and whether there is one
pub data Consts : Word → Bool → Type 0 where
  no_const : Consts [] false
  more_const : {t : Token} {w : Word} {b : Bool} → IsWord t keyword.Const → Consts w b → Consts (t ∷ w) true

-- any number of `*`, each with `const` behind it or not
pub data Stars : Word → ℕ → Type 0 where
  no_star : Stars [] 0
  more_stars : {t : Token} {u w : Word} {b : Bool} {n : ℕ} → IsSign t sign.Star → Consts u b → Stars w n → Stars (t ∷ u ++ w) (suc n)

-- a type
pub data ReadsType (ns : Names) (anyhow : Bool) : Word → CType → Type 0 where
  type_is : {t : Token} {u v w : Word} {b c : Bool} {n : ℕ} {x : Base} → Consts u b → BaseIs ns anyhow t x → Consts v c → Stars w n
      → ReadsType ns anyhow (u ++ t ∷ v ++ w) (record { base = x; is_const = b || c; stars = n; span = extent (u ++ t ∷ v ++ w) })

-- whether a base is `void`
abbrev pub is_void_base : Base → Bool
is_void_base base.Void = true
is_void_base b = false

-- a type that something can have: any but `void` itself
abbrev pub is_object : CType → Bool
is_object c = not (is_void_base c.base && c.stars == 0)
