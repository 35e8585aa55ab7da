-- What an operator on numbers gives, as it is defined.
use Rattle.c_tree.specs.Constants as rule
use Rattle.c_numbers.specs.declared.numbers.NumberWorth.{NumberWorth}
use Rattle.c_numbers.specs.declared.numbers.NumberWorth.TheVariants as number

-- a number, the end of the run, or nothing that is told
abbrev pub number_told : NumberWorth → rule.Worth
number_told (number.Is z) = rule.Is (rule.Figure z)
number_told number.Ends = rule.Ends
number_told number.Untold = rule.Untold
