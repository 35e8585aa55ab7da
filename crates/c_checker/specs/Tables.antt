-- What the tables of the library's types say.
use Rattle.std.specs.Prelude.{map, List, [], ◌∷◌, Some}
use Rattle.c_tree.specs.declared.kinds.Kind.{Kind}
use Rattle.c_tree.specs.declared.kinds.Sort.TheVariants as sort
use Rattle.c_tree.specs.Library.{Field, Structure, Takes, TypeRow, all}
use Rattle.c_tree.specs.Env.{Env, Entry, with_entry}
use Rattle.c_checker.specs.declared.library_types.NamedKind.{NamedKind}
use Rattle.c_checker.specs.declared.library_types.KindRow.{KindRow}
use Rattle.c_checker.specs.declared.library_types.StructRow.{StructRow}
use Rattle.c_checker.specs.declared.library_types.SignatureRow.{SignatureRow}

-- a type
abbrev pub named_seen : NamedKind → TypeRow
named_seen t = record { name = t.0.now; kind = record { base = t.1; stars = t.2 } }

-- a field
abbrev pub field_row : NamedKind → Field
field_row t = record { name = t.0.now; kind = Some (record { base = t.1; stars = t.2 }) }

-- a struct
abbrev pub struct_seen : StructRow → Structure
struct_seen s = record { name = s.0.now; fields = Some (map field_row s.2.now); cells = s.1 }

-- a kind
abbrev pub kind_seen : KindRow → Kind
kind_seen k = record { base = k.0; stars = k.1 }

-- a signature
abbrev pub signature_seen : SignatureRow → Takes
signature_seen s = record { result = Some (kind_seen s.0); parameters = all (map kind_seen s.1.now) }

-- types in front of what is declared
abbrev pub with_types : Env → List TypeRow → Env
with_types env [] = env
with_types env (t ∷ ts) = record (with_types env ts) { scopes = with_entry (with_types env ts).scopes (record { name = t.name; sort = sort.Type t.kind }) }

-- functions in front of what is declared
abbrev pub with_rows : Env → List Entry → Env
with_rows env [] = env
with_rows env (e ∷ es) = record (with_rows env es) { scopes = with_entry (with_rows env es).scopes e }
