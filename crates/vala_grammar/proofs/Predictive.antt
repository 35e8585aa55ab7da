-- One token of lookahead reads the grammar.
use Rattle.std.proofs.Common.{◌≡◌, true, refl, arith, ◌≤◌}
use Rattle.predictive_grammar.specs.Fit.{Opens, IsPredictive}
use Rattle.predictive_grammar.proofs.Fits.{opens_as}
use Rattle.vala_grammar.specs.declared.sort.Sort.{Sort}
use Rattle.vala_grammar.specs.declared.parts.Signs.TheVariants as signs
use Rattle.vala_grammar.specs.declared.parts.Tier.{Tier}
use Rattle.vala_grammar.specs.declared.parts.Tier.TheVariants as tier
use Rattle.vala_grammar.specs.Parts.{Part, Name, NameMore, AnyType, TypeBody, NameInType, NameInTypeMore, Whole, Value, Nameless, Immediate, AfterWord, Onward, Test, Prefix, Unary, Direct, Upto, Rest, Operand, CoalesceTail, CoalesceOperand, ChoiceTail, AssignTail, TestedType, TestedBody, Bracket, OpeningName, LeadMore, Marked, CastEnd, BehindNames, LambdaMore, LambdaEnd, Primary, Atom, Suffix, YieldCall, CallMore, NewMore, NewArray, NewItems, Args, MoreArgs, Arg, Init, Items, MoreItems, BlockOf, Statements, AnyStmt, Bare, Simple, Body, Alternative, IfMore, IfTail, DoMore, ForMore, ForHeadOf, ForExprs, ForTest, ForSteps, MoreSteps, ForeachMore, SwitchMore, AnyLabel, Sections, TryMore, CatchOf, Begin, Locals, MoreLocals, OneLocal}
use Rattle.vala_grammar.specs.Grammar.{G, forms}
use Rattle.vala_grammar.specs.Tables.{tables, tier_looseness}
use Rattle.vala_grammar.proofs.Texts.{some}
use Rattle.vala_grammar.proofs.Tables.{tabled, FitsAs}
use Rattle.vala_grammar.proofs.FitTypes.{fit_name, fit_name_more, fit_any_type, fit_type_body, fit_name_in_type, fit_name_in_type_more}
use Rattle.vala_grammar.proofs.FitTiers.{fit_upto, fit_rest, fit_operand}
use Rattle.vala_grammar.proofs.FitChains.{fit_coalesce_tail, fit_coalesce_operand, fit_choice_tail, fit_assign_tail, fit_onward, fit_test, fit_after_word}
use Rattle.vala_grammar.proofs.FitNames.{fit_cast_end, fit_lead_more, fit_marked, fit_opening_name}
use Rattle.vala_grammar.proofs.FitBrackets.{fit_tested_type, fit_tested_body, fit_behind_names, fit_bracket}
use Rattle.vala_grammar.proofs.FitOperands.{fit_suffix, fit_direct, fit_unary, fit_prefix, fit_whole, fit_value, fit_nameless, fit_immediate, fit_primary, fit_atom, fit_yield_call, fit_call_more, fit_new_more, fit_new_array, fit_new_items, fit_args, fit_more_args, fit_arg, fit_init, fit_items, fit_more_items, fit_lambda_more, fit_lambda_end}
use Rattle.vala_grammar.proofs.FitStatements.{fit_block, fit_statements, fit_statement, fit_bare, fit_simple, fit_body, fit_alternative, fit_if_more, fit_if_tail, fit_do_more, fit_for_more, fit_for_head, fit_for_exprs, fit_for_test, fit_for_steps, fit_more_steps, fit_foreach_more, fit_switch_more, fit_label, fit_sections, fit_try_more, fit_catch, fit_begin, fit_locals, fit_more_locals, fit_one_local}

pub fits : (p : Part) → FitsAs p
fits Name = fit_name
fits (NameMore n) = fit_name_more n
fits AnyType = fit_any_type
fits (TypeBody o) = fit_type_body o
fits NameInType = fit_name_in_type
fits (NameInTypeMore n) = fit_name_in_type_more n
fits Whole = fit_whole
fits Value = fit_value
fits Nameless = fit_nameless
fits Immediate = fit_immediate
fits (AfterWord t) = fit_after_word t
fits (Onward c) = fit_onward c
fits Test = fit_test
fits (Prefix x) = fit_prefix x
fits (Unary x) = fit_unary x
fits (Direct x) = fit_direct x
fits (Upto d t c) = fit_upto d t c
fits (Rest d t c) = fit_rest d t c.value c.last
fits (Operand d t) = fit_operand d t
fits (CoalesceTail d c) = fit_coalesce_tail d c.value c.last
fits (CoalesceOperand d) = fit_coalesce_operand d
fits (ChoiceTail c) = fit_choice_tail c.value c.last
fits (AssignTail a) = fit_assign_tail a
fits (TestedType d) = fit_tested_type d
fits (TestedBody d o) = fit_tested_body d o
fits (Bracket top o) = fit_bracket top o
fits (OpeningName x) = fit_opening_name x
fits (LeadMore n) = fit_lead_more n
fits (Marked x n q) = fit_marked x n q
fits (CastEnd o y) = fit_cast_end o y
fits (BehindNames top o n c) = fit_behind_names top o n c
fits (LambdaMore xs) = fit_lambda_more xs
fits (LambdaEnd b xs) = fit_lambda_end b xs
fits Primary = fit_primary
fits Atom = fit_atom
fits (Suffix c) = fit_suffix c
fits YieldCall = fit_yield_call
fits (CallMore a) = fit_call_more a
fits (NewMore t n) = fit_new_more t n
fits (NewArray t n q) = fit_new_array t n q
fits (NewItems t n q e c) = fit_new_items t n q e c
fits Args = fit_args
fits (MoreArgs xs) = fit_more_args xs
fits Arg = fit_arg
fits Init = fit_init
fits Items = fit_items
fits (MoreItems xs) = fit_more_items xs
fits BlockOf = fit_block
fits (Statements o xs) = fit_statements o xs
fits AnyStmt = fit_statement
fits Bare = fit_bare
fits Simple = fit_simple
fits Body = fit_body
fits Alternative = fit_alternative
fits IfMore = fit_if_more
fits (IfTail c a) = fit_if_tail c a
fits (DoMore t) = fit_do_more t
fits (ForMore t) = fit_for_more t
fits ForHeadOf = fit_for_head
fits (ForExprs xs) = fit_for_exprs xs
fits (ForTest b) = fit_for_test b
fits (ForSteps b c) = fit_for_steps b c
fits (MoreSteps b c xs) = fit_more_steps b c xs
fits (ForeachMore t) = fit_foreach_more t
fits (SwitchMore t) = fit_switch_more t
fits AnyLabel = fit_label
fits (Sections t e parts x xs ss) = fit_sections t e parts x xs ss
fits (TryMore t b xs) = fit_try_more t b xs
fits CatchOf = fit_catch
fits Begin = fit_begin
fits (Locals y) = fit_locals y
fits (MoreLocals y ds) = fit_more_locals y ds
fits OneLocal = fit_one_local

pub opening_as : (p : Part) (x : Sort) → tables.opens p x ≡ true → Opens G tables p x (forms p)
unfolding forms
opening_as Name = opens_as tabled Name refl
opening_as (NameMore n) = opens_as tabled (NameMore n) refl
opening_as AnyType = opens_as tabled AnyType refl
opening_as (TypeBody o) = opens_as tabled (TypeBody o) refl
opening_as NameInType = opens_as tabled NameInType refl
opening_as (NameInTypeMore n) = opens_as tabled (NameInTypeMore n) refl
opening_as Whole = opens_as tabled Whole refl
opening_as Value = opens_as tabled Value refl
opening_as Nameless = opens_as tabled Nameless refl
opening_as Immediate = opens_as tabled Immediate refl
opening_as (AfterWord t) = opens_as tabled (AfterWord t) refl
opening_as (Onward c) = opens_as tabled (Onward c) refl
opening_as Test = opens_as tabled Test refl
opening_as (Prefix x) = opens_as tabled (Prefix x) refl
opening_as (Unary signs.All) = opens_as tabled (Unary signs.All) refl
opening_as (Unary signs.Cast) = opens_as tabled (Unary signs.Cast) refl
opening_as (Unary signs.IntegerCast) = opens_as tabled (Unary signs.IntegerCast) refl
opening_as (Direct signs.All) = opens_as tabled (Direct signs.All) refl
opening_as (Direct signs.Cast) = opens_as tabled (Direct signs.Cast) refl
opening_as (Direct signs.IntegerCast) = opens_as tabled (Direct signs.IntegerCast) refl
opening_as (Upto d t c) = opens_as tabled (Upto d t c) refl
opening_as (Rest d t c) = opens_as tabled (Rest d t c) refl
opening_as (Operand d t) = opens_as tabled (Operand d t) refl
opening_as (CoalesceTail d c) = opens_as tabled (CoalesceTail d c) refl
opening_as (CoalesceOperand d) = opens_as tabled (CoalesceOperand d) refl
opening_as (ChoiceTail c) = opens_as tabled (ChoiceTail c) refl
opening_as (AssignTail a) = opens_as tabled (AssignTail a) refl
opening_as (TestedType d) = opens_as tabled (TestedType d) refl
opening_as (TestedBody d o) = opens_as tabled (TestedBody d o) refl
opening_as (Bracket top o) = opens_as tabled (Bracket top o) refl
opening_as (OpeningName x) = opens_as tabled (OpeningName x) refl
opening_as (LeadMore n) = opens_as tabled (LeadMore n) refl
opening_as (Marked x n q) = opens_as tabled (Marked x n q) refl
opening_as (CastEnd o y) = opens_as tabled (CastEnd o y) refl
opening_as (BehindNames top o n c) = opens_as tabled (BehindNames top o n c) refl
opening_as (LambdaMore xs) = opens_as tabled (LambdaMore xs) refl
opening_as (LambdaEnd b xs) = opens_as tabled (LambdaEnd b xs) refl
opening_as Primary = opens_as tabled Primary refl
opening_as Atom = opens_as tabled Atom refl
opening_as (Suffix c) = opens_as tabled (Suffix c) refl
opening_as YieldCall = opens_as tabled YieldCall refl
opening_as (CallMore a) = opens_as tabled (CallMore a) refl
opening_as (NewMore t n) = opens_as tabled (NewMore t n) refl
opening_as (NewArray t n q) = opens_as tabled (NewArray t n q) refl
opening_as (NewItems t n q e c) = opens_as tabled (NewItems t n q e c) refl
opening_as Args = opens_as tabled Args refl
opening_as (MoreArgs xs) = opens_as tabled (MoreArgs xs) refl
opening_as Arg = opens_as tabled Arg refl
opening_as Init = opens_as tabled Init refl
opening_as Items = opens_as tabled Items refl
opening_as (MoreItems xs) = opens_as tabled (MoreItems xs) refl
opening_as BlockOf = opens_as tabled BlockOf refl
opening_as (Statements o xs) = opens_as tabled (Statements o xs) refl
opening_as AnyStmt = opens_as tabled AnyStmt refl
opening_as Bare = opens_as tabled Bare refl
opening_as Simple = opens_as tabled Simple refl
opening_as Body = opens_as tabled Body refl
opening_as Alternative = opens_as tabled Alternative refl
opening_as IfMore = opens_as tabled IfMore refl
opening_as (IfTail c a) = opens_as tabled (IfTail c a) refl
opening_as (DoMore t) = opens_as tabled (DoMore t) refl
opening_as (ForMore t) = opens_as tabled (ForMore t) refl
opening_as ForHeadOf = opens_as tabled ForHeadOf refl
opening_as (ForExprs xs) = opens_as tabled (ForExprs xs) refl
opening_as (ForTest b) = opens_as tabled (ForTest b) refl
opening_as (ForSteps b c) = opens_as tabled (ForSteps b c) refl
opening_as (MoreSteps b c xs) = opens_as tabled (MoreSteps b c xs) refl
opening_as (ForeachMore t) = opens_as tabled (ForeachMore t) refl
opening_as (SwitchMore t) = opens_as tabled (SwitchMore t) refl
opening_as AnyLabel = opens_as tabled AnyLabel refl
opening_as (Sections t e parts x xs ss) = opens_as tabled (Sections t e parts x xs ss) refl
opening_as (TryMore t b xs) = opens_as tabled (TryMore t b xs) refl
opening_as CatchOf = opens_as tabled CatchOf refl
opening_as Begin = opens_as tabled Begin refl
opening_as (Locals y) = opens_as tabled (Locals y) refl
opening_as (MoreLocals y ds) = opens_as tabled (MoreLocals y ds) refl
opening_as OneLocal = opens_as tabled OneLocal refl

tier_low : (t : Tier) → tier_looseness t ≤ 12
tier_low tier.Product = omega arith
tier_low _ = omega arith

lows : (p : Part) → tables.rank p ≤ tables.top
lows (Upto d t c) = tier_low t
lows Name = omega arith
lows _ = omega arith

pub predictive : IsPredictive G forms tables
predictive = record { fits = fits; opens = opening_as; some = some; low = lows }
