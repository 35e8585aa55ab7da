-- Operators fit: what follows an operand, by what it ends with and by the tier.
use Rattle.std.proofs.Common.{◌≡◌, ℕ, ◌-◌, true, false, refl, sym, subst, true≢false, nat_lt, Some}
use Rattle.predictive_grammar.proofs.Sets.{is_within, is_apart}
use Rattle.predictive_grammar.proofs.Fits.{Fits, either, never, only, nothing, done, text, widen, fit_part}
use Rattle.vala_tree.specs.declared.code.Expr.{Expr}
use Rattle.vala_grammar.specs.declared.sort.Sort.{Sort}
use Rattle.vala_grammar.specs.declared.sort.Sort.TheVariants as s
use Rattle.vala_grammar.specs.declared.parts.Last.{Last}
use Rattle.vala_grammar.specs.declared.parts.Last.TheVariants as last
use Rattle.vala_grammar.specs.declared.parts.Chain.{Chain}
use Rattle.vala_grammar.specs.declared.parts.Signs.TheVariants as signs
use Rattle.vala_grammar.specs.declared.parts.Tier.{Tier}
use Rattle.vala_grammar.specs.declared.parts.Tier.TheVariants as tier
use Rattle.vala_grammar.specs.Tests.{is, is_asked, goes_on, tighter}
use Rattle.vala_grammar.specs.Parts.{Prefix, Upto, Rest, Operand}
use Rattle.vala_grammar.specs.Grammar.{forms, binary_rest, rest_of, upto_of, operand_of, here}
use Rattle.vala_grammar.specs.Tables.{tier_looseness, ends, goes, begins_whole}
use Rattle.vala_grammar.proofs.Finite.{finite}
use Rattle.vala_grammar.proofs.Tables.{tabled, FitsAs}
use Rattle.vala_grammar.proofs.Where.{where_fits, same_set}

-- ---- the sets of a tier, by what a chain ends with

-- an operator of the tier
abbrev pub sign_of : Tier → Sort
sign_of tier.Product = s.Star
sign_of tier.Sum = s.Plus
sign_of tier.Shift = s.Shift
sign_of tier.Relation = s.Less
sign_of tier.Equality = s.Equality
sign_of tier.BitAnd = s.Ampersand
sign_of tier.BitXor = s.Caret
sign_of tier.BitOr = s.Bar
sign_of tier.And = s.AndAnd
sign_of tier.Or = s.OrOr

sign_goes : (t : Tier) (l : Last) → goes_on t l (sign_of t) ≡ true
sign_goes tier.Product l = refl
sign_goes _ l = refl

-- the tier's operators may follow what ends in front of them
tier_follows : (t : Tier) (l : Last) → is_within finite (either (goes (tier_looseness t - 1) (tier_looseness t) l) nothing) (ends (tier_looseness t - 1) l) ≡ true
tier_follows tier.Product last.Plain = refl
tier_follows tier.Product _ = refl
tier_follows tier.Sum last.Plain = refl
tier_follows tier.Sum _ = refl
tier_follows tier.Shift last.Plain = refl
tier_follows tier.Shift _ = refl
tier_follows tier.Relation last.Plain = refl
tier_follows tier.Relation _ = refl
tier_follows tier.Equality last.Plain = refl
tier_follows tier.Equality _ = refl
tier_follows tier.BitAnd last.Plain = refl
tier_follows tier.BitAnd _ = refl
tier_follows tier.BitXor last.Plain = refl
tier_follows tier.BitXor _ = refl
tier_follows tier.BitOr last.Plain = refl
tier_follows tier.BitOr _ = refl
tier_follows tier.And last.Plain = refl
tier_follows tier.And _ = refl
tier_follows tier.Or last.Plain = refl
tier_follows tier.Or _ = refl

-- what ends in front of looser operators only, does behind a tighter operand
ends_tighter : (t : Tier) (l : Last) → is_within finite (ends (tier_looseness t) l) (ends (tier_looseness t - 1) l) ≡ true
ends_tighter tier.Product last.Plain = refl
ends_tighter tier.Product _ = refl
ends_tighter tier.Sum last.Plain = refl
ends_tighter tier.Sum _ = refl
ends_tighter tier.Shift last.Plain = refl
ends_tighter tier.Shift _ = refl
ends_tighter tier.Relation last.Plain = refl
ends_tighter tier.Relation _ = refl
ends_tighter tier.Equality last.Plain = refl
ends_tighter tier.Equality _ = refl
ends_tighter tier.BitAnd last.Plain = refl
ends_tighter tier.BitAnd _ = refl
ends_tighter tier.BitXor last.Plain = refl
ends_tighter tier.BitXor _ = refl
ends_tighter tier.BitOr last.Plain = refl
ends_tighter tier.BitOr _ = refl
ends_tighter tier.And last.Plain = refl
ends_tighter tier.And _ = refl
ends_tighter tier.Or last.Plain = refl
ends_tighter tier.Or _ = refl

-- a chain of the tier doesn't end in front of its operators
ends_apart : (t : Tier) (l : Last) → is_apart finite (ends (tier_looseness t) l) (goes_on t l) ≡ true
ends_apart tier.Product last.Plain = refl
ends_apart tier.Product _ = refl
ends_apart tier.Sum last.Plain = refl
ends_apart tier.Sum _ = refl
ends_apart tier.Shift last.Plain = refl
ends_apart tier.Shift _ = refl
ends_apart tier.Relation last.Plain = refl
ends_apart tier.Relation _ = refl
ends_apart tier.Equality last.Plain = refl
ends_apart tier.Equality _ = refl
ends_apart tier.BitAnd last.Plain = refl
ends_apart tier.BitAnd _ = refl
ends_apart tier.BitXor last.Plain = refl
ends_apart tier.BitXor _ = refl
ends_apart tier.BitOr last.Plain = refl
ends_apart tier.BitOr _ = refl
ends_apart tier.And last.Plain = refl
ends_apart tier.And _ = refl
ends_apart tier.Or last.Plain = refl
ends_apart tier.Or _ = refl

ends_above : (t : Tier) (l : Last) → is_within finite (ends (tier_looseness t - 1) l) (ends 0 l) ≡ true
ends_above tier.Product last.Plain = refl
ends_above tier.Product _ = refl
ends_above tier.Sum last.Plain = refl
ends_above tier.Sum _ = refl
ends_above tier.Shift last.Plain = refl
ends_above tier.Shift _ = refl
ends_above tier.Relation last.Plain = refl
ends_above tier.Relation _ = refl
ends_above tier.Equality last.Plain = refl
ends_above tier.Equality _ = refl
ends_above tier.BitAnd last.Plain = refl
ends_above tier.BitAnd _ = refl
ends_above tier.BitXor last.Plain = refl
ends_above tier.BitXor _ = refl
ends_above tier.BitOr last.Plain = refl
ends_above tier.BitOr _ = refl
ends_above tier.And last.Plain = refl
ends_above tier.And _ = refl
ends_above tier.Or last.Plain = refl
ends_above tier.Or _ = refl

tiers_follow : (t : Tier) (l : Last) → is_within finite (either (goes 0 (tier_looseness t) l) nothing) (ends 0 l) ≡ true
tiers_follow tier.Product last.Plain = refl
tiers_follow tier.Product _ = refl
tiers_follow tier.Sum last.Plain = refl
tiers_follow tier.Sum _ = refl
tiers_follow tier.Shift last.Plain = refl
tiers_follow tier.Shift _ = refl
tiers_follow tier.Relation last.Plain = refl
tiers_follow tier.Relation _ = refl
tiers_follow tier.Equality last.Plain = refl
tiers_follow tier.Equality _ = refl
tiers_follow tier.BitAnd last.Plain = refl
tiers_follow tier.BitAnd _ = refl
tiers_follow tier.BitXor last.Plain = refl
tiers_follow tier.BitXor _ = refl
tiers_follow tier.BitOr last.Plain = refl
tiers_follow tier.BitOr _ = refl
tiers_follow tier.And last.Plain = refl
tiers_follow tier.And _ = refl
tiers_follow tier.Or last.Plain = refl
tiers_follow tier.Or _ = refl

tier_begins : (t : Tier) (l : Last) → is_asked l ≡ false → is_within finite (either (goes_on t l) nothing) (goes (tier_looseness t - 1) (tier_looseness t) l) ≡ true
tier_begins t (last.Asked b) e = absurd (true≢false e)
tier_begins tier.Product last.Plain e = refl
tier_begins tier.Product _ e = refl
tier_begins tier.Sum last.Plain e = refl
tier_begins tier.Sum _ e = refl
tier_begins tier.Shift last.Plain e = refl
tier_begins tier.Shift _ e = refl
tier_begins tier.Relation last.Plain e = refl
tier_begins tier.Relation _ e = refl
tier_begins tier.Equality last.Plain e = refl
tier_begins tier.Equality _ e = refl
tier_begins tier.BitAnd last.Plain e = refl
tier_begins tier.BitAnd _ e = refl
tier_begins tier.BitXor last.Plain e = refl
tier_begins tier.BitXor _ e = refl
tier_begins tier.BitOr last.Plain e = refl
tier_begins tier.BitOr _ e = refl
tier_begins tier.And last.Plain e = refl
tier_begins tier.And _ e = refl
tier_begins tier.Or last.Plain e = refl
tier_begins tier.Or _ e = refl

-- the tiers up to one: those up to the next tighter one, and its own
tiers_begin : (t : Tier) (l : Last) → is_within finite (either (goes 0 (tier_looseness t - 1) l) (either (goes (tier_looseness t - 1) (tier_looseness t) l) nothing)) (goes 0 (tier_looseness t) l) ≡ true
tiers_begin tier.Product last.Plain = refl
tiers_begin tier.Product _ = refl
tiers_begin tier.Sum last.Plain = refl
tiers_begin tier.Sum _ = refl
tiers_begin tier.Shift last.Plain = refl
tiers_begin tier.Shift _ = refl
tiers_begin tier.Relation last.Plain = refl
tiers_begin tier.Relation _ = refl
tiers_begin tier.Equality last.Plain = refl
tiers_begin tier.Equality _ = refl
tiers_begin tier.BitAnd last.Plain = refl
tiers_begin tier.BitAnd _ = refl
tiers_begin tier.BitXor last.Plain = refl
tiers_begin tier.BitXor _ = refl
tiers_begin tier.BitOr last.Plain = refl
tiers_begin tier.BitOr _ = refl
tiers_begin tier.And last.Plain = refl
tiers_begin tier.And _ = refl
tiers_begin tier.Or last.Plain = refl
tiers_begin tier.Or _ = refl

product_begins : (l : Last) → is_within finite (either (goes 0 1 l) nothing) (goes 0 1 l) ≡ true
product_begins last.Plain = refl
product_begins _ = refl

relation_begins : (l : Last) → is_asked l ≡ false → is_within finite (either (is s.TypeTest) (either (goes_on tier.Relation l) nothing)) (goes 3 4 l) ≡ true
relation_begins (last.Asked b) e = absurd (true≢false e)
relation_begins last.Plain e = refl
relation_begins _ e = refl

tests_apart : (l : Last) → is_apart finite (ends 4 l) (is s.TypeTest) ≡ true
tests_apart last.Plain = refl
tests_apart _ = refl

rest_is_lower : (t u : Tier) → nat_lt (tier_looseness u) (tier_looseness t) ≡ true → nat_lt 0 (tier_looseness t) ≡ true
rest_is_lower tier.Product u e = refl
rest_is_lower _ u e = refl

-- ---- one tier

fit_binary : (d : ℕ) (t : Tier) (v : Expr) (l : Last) → Fits tabled (Rest d t (record { value = v; last = l })) false (either (goes_on t l) nothing) (only (record { value = v; last = l }))
    (binary_rest d t (record { value = v; last = l }))
fit_binary d t v l = where_fits (sign_of t) (sign_goes t l)
    (λ o. text refl (λ b. text refl (λ e. done e) (λ e. refl) (λ e. same_set (ends (tier_looseness t) e.last))) (λ b. tier_follows t b.last) (λ b. ends_tighter t b.last))
    (done (record { value = v; last = l })) refl (ends_apart t l)

-- in the relations, `is` and `as` too
fit_relation : (d : ℕ) (v : Expr) (l : Last) → Fits tabled (Rest d tier.Relation (record { value = v; last = l })) false (either (is s.TypeTest) (either (goes_on tier.Relation l) nothing))
    (only (record { value = v; last = l })) (rest_of d tier.Relation (record { value = v; last = l }))
fit_relation d v l = where_fits s.TypeTest refl
    (λ o. text refl (λ y. text refl (λ e. done e) (λ e. refl) (λ e. same_set (ends 4 e.last))) (λ y. tier_follows tier.Relation y.last) (λ y. ends_tighter tier.Relation y.last))
    (fit_binary d tier.Relation v l) refl (tests_apart l)

-- a chain to which `: c` is still to come
fit_asked_rest : (d : ℕ) (t : Tier) (v b : Expr) → FitsAs (Rest d t (record { value = v; last = last.Asked b }))
unfolding forms
fit_asked_rest d t v b = fit_part tabled (Rest d t (record { value = v; last = last.Asked b })) (done (record { value = v; last = last.Asked b })) refl (λ a e. e)

open_rest : (d : ℕ) (t : Tier) (v : Expr) (l : Last) → is_asked l ≡ false → Fits tabled (Rest d t (record { value = v; last = l })) false (goes (tier_looseness t - 1) (tier_looseness t) l)
    (only (record { value = v; last = l })) (rest_of d t (record { value = v; last = l }))
open_rest d tier.Relation v l e = widen tabled (fit_relation d v l) (relation_begins l e) (λ a i. i)
open_rest d tier.Product v l e = widen tabled (fit_binary d tier.Product v l) (tier_begins tier.Product l e) (λ a i. i)
open_rest d tier.Sum v l e = widen tabled (fit_binary d tier.Sum v l) (tier_begins tier.Sum l e) (λ a i. i)
open_rest d tier.Shift v l e = widen tabled (fit_binary d tier.Shift v l) (tier_begins tier.Shift l e) (λ a i. i)
open_rest d tier.Equality v l e = widen tabled (fit_binary d tier.Equality v l) (tier_begins tier.Equality l e) (λ a i. i)
open_rest d tier.BitAnd v l e = widen tabled (fit_binary d tier.BitAnd v l) (tier_begins tier.BitAnd l e) (λ a i. i)
open_rest d tier.BitXor v l e = widen tabled (fit_binary d tier.BitXor v l) (tier_begins tier.BitXor l e) (λ a i. i)
open_rest d tier.BitOr v l e = widen tabled (fit_binary d tier.BitOr v l) (tier_begins tier.BitOr l e) (λ a i. i)
open_rest d tier.And v l e = widen tabled (fit_binary d tier.And v l) (tier_begins tier.And l e) (λ a i. i)
open_rest d tier.Or v l e = widen tabled (fit_binary d tier.Or v l) (tier_begins tier.Or l e) (λ a i. i)

pub fit_rest : (d : ℕ) (t : Tier) (v : Expr) (l : Last) → FitsAs (Rest d t (record { value = v; last = l }))
unfolding forms
fit_rest d t v (last.Asked b) = fit_asked_rest d t v b
fit_rest d t v last.Plain = fit_part tabled (Rest d t (record { value = v; last = last.Plain })) (open_rest d t v last.Plain refl) (same_set (goes (tier_looseness t - 1) (tier_looseness t) last.Plain)) (λ a e. e)
fit_rest d t v last.Names = fit_part tabled (Rest d t (record { value = v; last = last.Names })) (open_rest d t v last.Names refl) (same_set (goes (tier_looseness t - 1) (tier_looseness t) last.Names)) (λ a e. e)
fit_rest d t v last.Integer = fit_part tabled (Rest d t (record { value = v; last = last.Integer })) (open_rest d t v last.Integer refl) (same_set (goes (tier_looseness t - 1) (tier_looseness t) last.Integer)) (λ a e. e)
fit_rest d t v last.Unmarked = fit_part tabled (Rest d t (record { value = v; last = last.Unmarked })) (open_rest d t v last.Unmarked refl) (same_set (goes (tier_looseness t - 1) (tier_looseness t) last.Unmarked)) (λ a e. e)
fit_rest d t v last.Alone = fit_part tabled (Rest d t (record { value = v; last = last.Alone })) (open_rest d t v last.Alone refl) (same_set (goes (tier_looseness t - 1) (tier_looseness t) last.Alone)) (λ a e. e)

-- ---- several tiers

fit_step : (d : ℕ) (t u : Tier) (c : Chain) → nat_lt (tier_looseness u) (tier_looseness t) ≡ true → tier_looseness t - 1 ≡ tier_looseness u
    → Fits tabled (Upto d t c) false (goes 0 (tier_looseness t) c.last) (only c) (upto_of d t c (Some u))
fit_step d t u c lower next = widen tabled
    (text lower (λ e. text (rest_is_lower t u lower) (λ a. done a) (λ a. refl) (λ a. same_set (ends (tier_looseness t) a.last)))
    (λ b. subst (λ (n : ℕ). is_within finite (either (goes (tier_looseness t - 1) (tier_looseness t) b.last) nothing) (ends n b.last) ≡ true) next (tier_follows t b.last))
    (λ b. subst (λ (n : ℕ). is_within finite (ends (tier_looseness t) b.last) (ends n b.last) ≡ true) next (ends_tighter t b.last)))
    (subst (λ (n : ℕ). is_within finite (either (goes 0 n c.last) (either (goes (tier_looseness t - 1) (tier_looseness t) c.last) nothing)) (goes 0 (tier_looseness t) c.last) ≡ true) next (tiers_begin t c.last))
    (λ a i. i)

open_upto : (d : ℕ) (t : Tier) (c : Chain) → Fits tabled (Upto d t c) false (goes 0 (tier_looseness t) c.last) (only c) (upto_of d t c (tighter t))
open_upto d tier.Product c = widen tabled (text refl (λ a. done a) (λ a. refl) (λ a. same_set (ends 1 a.last))) (product_begins c.last) (λ a i. i)
open_upto d tier.Sum c = fit_step d tier.Sum tier.Product c refl refl
open_upto d tier.Shift c = fit_step d tier.Shift tier.Sum c refl refl
open_upto d tier.Relation c = fit_step d tier.Relation tier.Shift c refl refl
open_upto d tier.Equality c = fit_step d tier.Equality tier.Relation c refl refl
open_upto d tier.BitAnd c = fit_step d tier.BitAnd tier.Equality c refl refl
open_upto d tier.BitXor c = fit_step d tier.BitXor tier.BitAnd c refl refl
open_upto d tier.BitOr c = fit_step d tier.BitOr tier.BitXor c refl refl
open_upto d tier.And c = fit_step d tier.And tier.BitOr c refl refl
open_upto d tier.Or c = fit_step d tier.Or tier.And c refl refl

pub fit_upto : (d : ℕ) (t : Tier) (c : Chain) → FitsAs (Upto d t c)
unfolding forms
fit_upto d t c = fit_part tabled (Upto d t c) (open_upto d t c) (same_set (goes 0 (tier_looseness t) c.last)) (λ a e. e)

-- ---- an operand of a tier's operator

operand_step : (d : ℕ) (t u : Tier) → tier_looseness t - 1 ≡ tier_looseness u → Fits tabled (Operand d t) false begins_whole never (here (Prefix signs.All) (λ c. operand_of d t (Some u) c))
operand_step d t u next = widen tabled
    (text refl
    (λ c. text refl (λ a. done a) (λ a. refl) (λ a. subst (λ (n : ℕ). is_within finite (ends n a.last) (ends (tier_looseness u) a.last) ≡ true) (sym next) (same_set (ends (tier_looseness u) a.last))))
    (λ c. tiers_follow u c.last) (λ c. ends_above t c.last))
    refl (λ a i. i)

open_operand : (d : ℕ) (t : Tier) → Fits tabled (Operand d t) false begins_whole never (here (Prefix signs.All) (λ c. operand_of d t (tighter t) c))
open_operand d tier.Product = widen tabled (text refl (λ c. done c) (λ c. refl) (λ c. same_set (ends 0 c.last))) refl (λ a i. i)
open_operand d tier.Sum = operand_step d tier.Sum tier.Product refl
open_operand d tier.Shift = operand_step d tier.Shift tier.Sum refl
open_operand d tier.Relation = operand_step d tier.Relation tier.Shift refl
open_operand d tier.Equality = operand_step d tier.Equality tier.Relation refl
open_operand d tier.BitAnd = operand_step d tier.BitAnd tier.Equality refl
open_operand d tier.BitXor = operand_step d tier.BitXor tier.BitAnd refl
open_operand d tier.BitOr = operand_step d tier.BitOr tier.BitXor refl
open_operand d tier.And = operand_step d tier.And tier.BitOr refl
open_operand d tier.Or = operand_step d tier.Or tier.And refl

pub fit_operand : (d : ℕ) (t : Tier) → FitsAs (Operand d t)
unfolding forms
fit_operand d t = fit_part tabled (Operand d t) (open_operand d t) refl (λ a e. absurd e)
