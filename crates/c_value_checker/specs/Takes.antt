-- What a function takes and gives: what the checker keeps of it, and what a hash is made from.
use Rattle.std.specs.Prelude.{List, ◌++◌, Option, Some, None}
use Rattle.std.specs.Hash as fed
use Rattle.c_tree.specs.declared.kinds.Kind.{Kind}
use Rattle.c_tree.specs.declared.kinds.KindBase.{KindBase}
use Rattle.c_tree.specs.declared.kinds.KindBase.TheVariants.{Void, Integer, Struct, Function}
use Rattle.c_tree.specs.Kinds.{bits}
use Rattle.c_tree.specs.Library.{Takes}
use Rattle.c_value_checker.specs.declared.takes.Takes.{Takes as TakesRow}

-- a signature
abbrev pub takes_seen : TakesRow → Takes
takes_seen t = record { result = t.result; parameters = t.parameters }

-- what a hasher is fed of a base: which sort of base it is, and its parts
abbrev pub base_fed : KindBase → fed.HashWrites
base_fed Void = fed.u8 1
base_fed (Integer w s) = fed.u8 2 ++ fed.u32 (bits w) ++ fed.bool s
base_fed (Struct n) = fed.u8 3 ++ fed.u32 n
base_fed (Function n) = fed.u8 4 ++ fed.u32 n

-- the same of a kind that may be unknown
abbrev pub kind_fed : Option Kind → fed.HashWrites
kind_fed None = fed.u8 0
kind_fed (Some k) = base_fed k.base ++ fed.u32 k.stars
