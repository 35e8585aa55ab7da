-- What is reached, as it is meant.
use Rattle.c_code.specs.Coded
use Rattle.c_code.specs.Values.{place_seen, value_seen}
use Rattle.c_evaluator.specs.declared.value.Reached.{Reached}
use Rattle.c_evaluator.specs.declared.value.Reached.TheVariants as reached

-- a place, or a value
abbrev pub reached_seen : Reached → Coded.Reached
reached_seen (reached.At p) = Coded.At (place_seen p)
reached_seen (reached.Of v) = Coded.Of (value_seen v)
