-- The built-in names, all of them in the namespace `GLib`.
use Rattle.std.specs.Prelude.{ℕ, List, [], ◌∷◌, ◌++◌, codes, Option, Some, None}
use Rattle.symbols.specs.declared.built_in.BuiltInSort.{BuiltInSort}
use Rattle.symbols.specs.declared.built_in.BuiltInSort.TheVariants.{Namespace, TypeName, Value, Method, Signal}

-- one row: a name, what it is, and the row of which it is a member
pub record Row : Type 0 where
  pub name : List ℕ
  pub sort : BuiltInSort
  pub owner : Option ℕ

-- the only row that is no member
abbrev pub outermost : List ℕ → BuiltInSort → Row
outermost name sort = record { name = name; sort = sort; owner = None }

-- a member of a row
abbrev pub member : ℕ → List ℕ → BuiltInSort → Row
member owner name sort = record { name = name; sort = sort; owner = Some owner }

-- THE TABLE. A row's number is its place, from 0.
abbrev pub built_in_names : List Row
built_in_names =
    -- 0
    outermost (codes "GLib") Namespace
    -- 1: `bool`, texts, and the integer types
    ∷ member 0 (codes "bool") TypeName
    ∷ member 0 (codes "string") TypeName
    ∷ member 0 (codes "int8") TypeName
    ∷ member 0 (codes "char") TypeName
    ∷ member 0 (codes "uint8") TypeName
    ∷ member 0 (codes "uchar") TypeName
    ∷ member 0 (codes "int16") TypeName
    ∷ member 0 (codes "short") TypeName
    ∷ member 0 (codes "uint16") TypeName
    ∷ member 0 (codes "ushort") TypeName
    ∷ member 0 (codes "int") TypeName
    ∷ member 0 (codes "int32") TypeName
    ∷ member 0 (codes "uint") TypeName
    ∷ member 0 (codes "uint32") TypeName
    ∷ member 0 (codes "long") TypeName
    ∷ member 0 (codes "ssize_t") TypeName
    ∷ member 0 (codes "ulong") TypeName
    ∷ member 0 (codes "size_t") TypeName
    ∷ member 0 (codes "int64") TypeName
    ∷ member 0 (codes "uint64") TypeName
    -- 21: arrays, whose name no program can write
    ∷ member 0 (codes "[]") TypeName
    -- 22: classes, errors and delegates
    ∷ member 0 (codes "Object") TypeName
    ∷ member 0 (codes "ParamSpec") TypeName
    ∷ member 0 (codes "Error") TypeName
    ∷ member 0 (codes "AsyncResult") TypeName
    ∷ member 0 (codes "SourceFunc") TypeName
    ∷ member 0 (codes "AsyncReadyCallback") TypeName
    ∷ member 0 (codes "MainLoop") TypeName
    -- 29: what groups functions
    ∷ member 0 (codes "Idle") Namespace
    ∷ member 0 (codes "Timeout") Namespace
    ∷ member 0 (codes "Source") Namespace
    ∷ member 0 (codes "SignalHandler") Namespace
    -- 33: the streams
    ∷ member 0 (codes "stdout") Value
    ∷ member 0 (codes "stderr") Value
    ∷ member 0 (codes "stdin") Value
    -- 36: functions
    ∷ member 0 (codes "print") Method
    ∷ member 0 (codes "printerr") Method
    ∷ member 0 (codes "assert") Method
    ∷ member 0 (codes "assert_not_reached") Method
    -- 40: of `stdout`, `stderr` and `stdin`
    ∷ member 33 (codes "printf") Method
    ∷ member 34 (codes "printf") Method
    ∷ member 35 (codes "read_line") Method
    -- 43: of `bool` and of texts
    ∷ member 1 (codes "to_string") Method
    ∷ member 2 (codes "printf") Method
    ∷ member 2 (codes "length") Value
    ∷ member 2 (codes "substring") Method
    ∷ member 2 (codes "contains") Method
    ∷ member 2 (codes "has_prefix") Method
    ∷ member 2 (codes "has_suffix") Method
    ∷ member 2 (codes "index_of") Method
    -- 51: of all integer types, under `int`; and of `int` and `int64` alone
    ∷ member 11 (codes "to_string") Method
    ∷ member 11 (codes "parse") Method
    ∷ member 19 (codes "parse") Method
    -- 54: of arrays
    ∷ member 21 (codes "length") Value
    -- 55: of `Object`, `ParamSpec`, `Error` and `MainLoop`
    ∷ member 22 (codes "notify") Signal
    ∷ member 23 (codes "name") Value
    ∷ member 24 (codes "message") Value
    ∷ member 24 (codes "code") Value
    ∷ member 28 (codes "run") Method
    ∷ member 28 (codes "quit") Method
    -- 61: of `Idle`, `Timeout`, `Source` and `SignalHandler`
    ∷ member 29 (codes "add") Method
    ∷ member 30 (codes "add") Method
    ∷ member 31 (codes "remove") Method
    ∷ member 32 (codes "disconnect") Method
    ∷ []
