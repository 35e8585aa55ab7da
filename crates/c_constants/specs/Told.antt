-- What the code keeps of what constants come to.
use Rattle.c_tree.specs.Constants as rule
use Rattle.c_constants.specs.declared.numbers.NumberWorth.{NumberWorth}
use Rattle.c_constants.specs.declared.numbers.NumberWorth.TheVariants as number
use Rattle.c_constants.specs.declared.worth.Datum.{Datum}
use Rattle.c_constants.specs.declared.worth.Datum.TheVariants as datum
use Rattle.c_constants.specs.declared.worth.Worth.{Worth}
use Rattle.c_constants.specs.declared.worth.Worth.TheVariants as worth

-- what an operator on numbers gives
abbrev pub number_told : NumberWorth → rule.Worth
number_told (number.Is z) = rule.Is (rule.Figure z)
number_told number.Ends = rule.Ends
number_told number.Untold = rule.Untold

-- a constant
abbrev pub datum_told : Datum → rule.Datum
datum_told (datum.Figure z) = rule.Figure z
datum_told datum.NoPlace = rule.NoPlace
datum_told (datum.Code x) = rule.Code x.now
datum_told (datum.InText n at) = rule.InText n at

-- what a value comes to
abbrev pub worth_told : Worth → rule.Worth
worth_told (worth.Is d) = rule.Is (datum_told d)
worth_told worth.Ends = rule.Ends
worth_told worth.Untold = rule.Untold
