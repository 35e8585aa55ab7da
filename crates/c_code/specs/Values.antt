-- Places and values of code, as the meaning has them.
use Rattle.c_meaning.specs.State
use Rattle.c_meaning.specs.State.{Scalar, Struct}
use Rattle.c_code.specs.declared.value.Place.{Place}
use Rattle.c_code.specs.declared.value.Value.{Value}
use Rattle.c_code.specs.declared.value.Value.TheVariants as value

-- a place
abbrev pub place_seen : Place → State.Place
place_seen p = record { block = p.block; at = p.at }

-- a value
abbrev pub value_seen : Value → State.Value
value_seen (value.Scalar c) = Scalar c
value_seen (value.Struct cs) = Struct cs.items
