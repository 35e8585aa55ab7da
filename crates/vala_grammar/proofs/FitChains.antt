-- What follows a chain of operands fits.
use Rattle.std.proofs.Common.{◌≡◌, ℕ, suc, Bool, true, false, refl}
use Rattle.predictive_grammar.specs.Forms.{give}
use Rattle.predictive_grammar.proofs.Sets.{is_within, is_apart}
use Rattle.predictive_grammar.proofs.Fits.{Fits, either, falls, Nones, never, only, Among, Each, nothing, done, token, text, widen, fit_part}
use Rattle.vala_lexer.specs.Tokens.{Lexeme}
use Rattle.vala_tree.specs.declared.code.Expr.{Expr}
use Rattle.vala_grammar.specs.declared.sort.Sort.TheVariants as s
use Rattle.vala_grammar.specs.declared.parts.Last.{Last}
use Rattle.vala_grammar.specs.declared.parts.Last.TheVariants as last
use Rattle.vala_grammar.specs.declared.parts.Chain.{Chain}
use Rattle.vala_grammar.specs.Tests.{is}
use Rattle.vala_grammar.specs.Trees as tree
use Rattle.vala_grammar.specs.Parts.{Part, tree_of, Whole, AfterWord, Onward, Test, CoalesceTail, CoalesceOperand, ChoiceTail, AssignTail}
use Rattle.vala_grammar.specs.Grammar.{here, deeper, where_one, just, as_it_is, here, choice_end, forms}
use Rattle.vala_grammar.specs.Tables.{tables, ends, goes, goes_colon, behind_expression, none_choice}
use Rattle.vala_grammar.proofs.Finite.{finite}
use Rattle.vala_grammar.proofs.Tables.{tabled, choice_nones, FitsAs}
use Rattle.vala_grammar.proofs.Where.{where_fits, same_set}

-- ---- `??`

fit_coalesce : (d : ℕ) (v : Expr) (l : Last) → is_apart finite (ends 11 l) (is s.Coalesce) ≡ true → Fits tabled (CoalesceTail d (record { value = v; last = l })) false (either (is s.Coalesce) nothing)
    (only (record { value = v; last = l })) (where_one s.Coalesce (λ t. deeper (CoalesceOperand (suc d)) (λ b. give (tree.joined (record { value = v; last = l }) t b))) (give (record { value = v; last = l })))
fit_coalesce d v l avoid = where_fits s.Coalesce refl (λ t. text refl (λ b. done (tree.joined (record { value = v; last = l }) t b)) (λ b. refl) (λ b. same_set (ends 11 b.last))) (done (record { value = v; last = l })) refl avoid

pub fit_coalesce_tail : (d : ℕ) (v : Expr) (l : Last) → FitsAs (CoalesceTail d (record { value = v; last = l }))
unfolding forms
fit_coalesce_tail d v last.Plain = fit_part tabled (CoalesceTail d (record { value = v; last = last.Plain })) (fit_coalesce d v last.Plain refl) refl (λ a e. e)
fit_coalesce_tail d v last.Names = fit_part tabled (CoalesceTail d (record { value = v; last = last.Names })) (fit_coalesce d v last.Names refl) refl (λ a e. e)
fit_coalesce_tail d v last.Integer = fit_part tabled (CoalesceTail d (record { value = v; last = last.Integer })) (fit_coalesce d v last.Integer refl) refl (λ a e. e)
fit_coalesce_tail d v last.Unmarked = fit_part tabled (CoalesceTail d (record { value = v; last = last.Unmarked })) (fit_coalesce d v last.Unmarked refl) refl (λ a e. e)
fit_coalesce_tail d v last.Alone = fit_part tabled (CoalesceTail d (record { value = v; last = last.Alone })) (fit_coalesce d v last.Alone refl) refl (λ a e. e)
fit_coalesce_tail d v (last.Asked b) = fit_part tabled (CoalesceTail d (record { value = v; last = (last.Asked b) })) (done (record { value = v; last = (last.Asked b) })) refl (λ a e. e)

coalesce_follows : (l : Last) → is_within finite (either (goes 10 11 l) nothing) (ends 10 l) ≡ true
coalesce_follows last.Plain = refl
coalesce_follows _ = refl

ends_at_coalesce : (l : Last) → is_within finite (ends 11 l) (ends 10 l) ≡ true
ends_at_coalesce last.Plain = refl
ends_at_coalesce _ = refl

ends_behind : (l : Last) → is_within finite (ends 11 l) (ends 0 l) ≡ true
ends_behind last.Plain = refl
ends_behind _ = refl

coalesce_begins : (l : Last) → is_within finite (either (goes 0 10 l) (either (goes 10 11 l) nothing)) (ends 0 l) ≡ true
coalesce_begins last.Plain = refl
coalesce_begins _ = refl

pub fit_coalesce_operand : (d : ℕ) → FitsAs (CoalesceOperand d)
unfolding forms
fit_coalesce_operand d = fit_part tabled (CoalesceOperand d)
    (text refl
    (λ c. text refl (λ e. text refl (λ a. done a) (λ a. refl) (λ a. same_set (ends 11 a.last))) (λ e. coalesce_follows e.last) (λ e. ends_at_coalesce e.last))
    (λ c. coalesce_begins c.last) (λ c. ends_behind c.last)) refl (λ a e. absurd e)

-- ---- `?` and assignments

fit_question_mark : (v : Expr) (l : Last) → Fits tabled (ChoiceTail (record { value = v; last = l })) false (is s.Question) (only v)
    (where_one s.Question (λ q. deeper Whole (λ b. choice_end v b (λ e. give e))) (give v))
fit_question_mark v l = widen tabled
    (where_fits s.Question refl (λ q. text refl (λ b. token s.Colon refl (λ t. text refl (λ c. done (tree.conditional v b c)) (λ c. refl) (λ c. refl))) (λ b. refl) (λ b. tt)) (done v) refl refl) refl (λ a i. i)

pub fit_choice_tail : (v : Expr) (l : Last) → FitsAs (ChoiceTail (record { value = v; last = l }))
unfolding forms
fit_choice_tail v last.Plain = fit_part tabled (ChoiceTail (record { value = v; last = last.Plain })) (fit_question_mark v last.Plain) refl (λ a e. e)
fit_choice_tail v last.Names = fit_part tabled (ChoiceTail (record { value = v; last = last.Names })) (fit_question_mark v last.Names) refl (λ a e. e)
fit_choice_tail v last.Integer = fit_part tabled (ChoiceTail (record { value = v; last = last.Integer })) (fit_question_mark v last.Integer) refl (λ a e. e)
fit_choice_tail v last.Unmarked = fit_part tabled (ChoiceTail (record { value = v; last = last.Unmarked })) (done v) refl (λ a e. e)
fit_choice_tail v last.Alone = fit_part tabled (ChoiceTail (record { value = v; last = last.Alone })) (done v) refl (λ a e. e)
fit_choice_tail v (last.Asked b) = fit_part tabled (ChoiceTail (record { value = v; last = (last.Asked b) })) (token s.Colon refl (λ t. text refl (λ c. done (tree.conditional v b c)) (λ c. refl) (λ c. refl))) refl (λ a e. absurd e)

pub fit_assign_tail : (a : Expr) → FitsAs (AssignTail a)
unfolding forms
fit_assign_tail a = fit_part tabled (AssignTail a) (where_fits s.Assign refl (λ t. text refl (λ b. done (tree.assigned a t b)) (λ b. refl) (λ b. refl)) (done a) refl refl) refl (λ b e. e)

-- ---- all that follows an operand

choice_assign : (c : Chain) (v : Expr) (l : Last) → Fits tabled (Onward c) false (goes_colon 11 13 l) (choice_nones l v) (here (ChoiceTail (record { value = v; last = l })) (λ f. just (AssignTail f) as_it_is))
choice_assign c v last.Plain = widen tabled (text refl (λ f. text refl (λ a. done a) (λ a. refl) (λ a. refl)) (λ f. refl) (λ f. refl)) refl (λ a i. i)
choice_assign c v last.Names = widen tabled (text refl (λ f. text refl (λ a. done a) (λ a. refl) (λ a. refl)) (λ f. refl) (λ f. refl)) refl (λ a i. i)
choice_assign c v last.Integer = widen tabled (text refl (λ f. text refl (λ a. done a) (λ a. refl) (λ a. refl)) (λ f. refl) (λ f. refl)) refl (λ a i. i)
choice_assign c v last.Unmarked = widen tabled (text refl (λ f. text refl (λ a. done a) (λ a. refl) (λ a. refl)) (λ f. refl) (λ f. refl)) refl (λ a i. i)
choice_assign c v last.Alone = widen tabled (text refl (λ f. text refl (λ a. done a) (λ a. refl) (λ a. refl)) (λ f. refl) (λ f. refl)) refl (λ a i. i)
choice_assign c v (last.Asked b) = widen tabled (text refl (λ f. text refl (λ a. done a) (λ a. refl) (λ a. refl)) (λ f. refl) (λ f. refl)) refl (λ a i. i)

pub choice_follows : (l : Last) → is_within finite (goes_colon 11 13 l) (ends 11 l) ≡ true
choice_follows last.Plain = refl
choice_follows _ = refl

choice_ends : (l : Last) (a : Expr) → Each (choice_nones l a) (λ x. is_within finite behind_expression (ends 11 l) ≡ true)
choice_ends last.Plain a = refl
choice_ends last.Names a = refl
choice_ends last.Integer a = refl
choice_ends last.Unmarked a = refl
choice_ends last.Alone a = refl
choice_ends (last.Asked b) a = tt

pub onward_follows : (l : Last) → is_within finite (either (goes 10 11 l) (goes_colon 11 13 l)) (ends 10 l) ≡ true
onward_follows last.Plain = refl
onward_follows _ = refl

onward_ends : (l : Last) (a : Expr) → Each (choice_nones l a) (λ x. is_within finite behind_expression (ends 10 l) ≡ true)
onward_ends last.Plain a = refl
onward_ends last.Names a = refl
onward_ends last.Integer a = refl
onward_ends last.Unmarked a = refl
onward_ends last.Alone a = refl
onward_ends (last.Asked b) a = tt

onward_begins : (l : Last) → is_within finite (either (goes 0 10 l) (either (goes 10 11 l) (goes_colon 11 13 l))) (goes_colon 0 13 l) ≡ true
onward_begins last.Plain = refl
onward_begins _ = refl

pub none_back : (l : Last) (a e : Expr) → Among (choice_nones l a) e → none_choice l a e
none_back (last.Asked b) a e i = i
none_back last.Plain a e i = i
none_back _ a e i = i

pub fit_onward : (c : Chain) → FitsAs (Onward c)
unfolding forms
fit_onward c = fit_part tabled (Onward c)
    (text refl (λ d. text refl (λ e. choice_assign c e.value e.last) (λ e. choice_follows e.last) (λ e. choice_ends e.last e.value)) (λ d. onward_follows d.last) (λ d. onward_ends d.last d.value))
    (onward_begins c.last) (none_back c.last c.value)

just_choice : (v : Expr) (l : Last) → Fits tabled Test true (goes_colon 11 12 l) (choice_nones l v) (just (ChoiceTail (record { value = v; last = l })) as_it_is)
just_choice v last.Plain = widen tabled (text refl (λ a. done a) (λ a. refl) (λ a. refl)) refl (λ a i. i)
just_choice v last.Names = widen tabled (text refl (λ a. done a) (λ a. refl) (λ a. refl)) refl (λ a i. i)
just_choice v last.Integer = widen tabled (text refl (λ a. done a) (λ a. refl) (λ a. refl)) refl (λ a i. i)
just_choice v last.Unmarked = widen tabled (text refl (λ a. done a) (λ a. refl) (λ a. refl)) refl (λ a i. i)
just_choice v last.Alone = widen tabled (text refl (λ a. done a) (λ a. refl) (λ a. refl)) refl (λ a i. i)
just_choice v (last.Asked b) = widen tabled (text refl (λ a. done a) (λ a. refl) (λ a. refl)) refl (λ a i. i)

test_follows : (l : Last) → is_within finite (goes_colon 11 12 l) (ends 11 l) ≡ true
test_follows last.Plain = refl
test_follows _ = refl

test_ends : (l : Last) (a : Expr) → Each (choice_nones l a) (λ x. is_within finite (ends 12 last.Plain) (ends 11 l) ≡ true)
test_ends last.Plain a = refl
test_ends last.Names a = refl
test_ends last.Integer a = refl
test_ends last.Unmarked a = refl
test_ends last.Alone a = refl
test_ends (last.Asked b) a = tt

test_goes : (l : Last) → is_within finite (either (goes 10 11 l) (goes_colon 11 12 l)) (ends 10 l) ≡ true
test_goes last.Plain = refl
test_goes _ = refl

test_ends_tiers : (l : Last) (a : Expr) → Each (choice_nones l a) (λ x. is_within finite (ends 12 last.Plain) (ends 10 l) ≡ true)
test_ends_tiers last.Plain a = refl
test_ends_tiers last.Names a = refl
test_ends_tiers last.Integer a = refl
test_ends_tiers last.Unmarked a = refl
test_ends_tiers last.Alone a = refl
test_ends_tiers (last.Asked b) a = tt

test_begins : (l : Last) → is_within finite (either (goes 0 10 l) (either (goes 10 11 l) (goes_colon 11 12 l))) (ends 0 l) ≡ true
test_begins last.Plain = refl
test_begins _ = refl

test_ends_operand : (l : Last) (a : Expr) → Each (choice_nones l a) (λ x. is_within finite (ends 12 last.Plain) (ends 0 l) ≡ true)
test_ends_operand last.Plain a = refl
test_ends_operand last.Names a = refl
test_ends_operand last.Integer a = refl
test_ends_operand last.Unmarked a = refl
test_ends_operand last.Alone a = refl
test_ends_operand (last.Asked b) a = tt

pub fit_test : FitsAs Test
unfolding forms
fit_test = fit_part tabled Test
    (text refl
    (λ c. text refl (λ d. text refl (λ e. just_choice e.value e.last) (λ e. test_follows e.last) (λ e. test_ends e.last e.value)) (λ d. test_goes d.last) (λ d. test_ends_tiers d.last d.value))
    (λ c. test_begins c.last) (λ c. test_ends_operand c.last c.value)) refl (λ a e. absurd e)

-- what follows an operand behind others
abbrev pub chain_nones : {A : Type 0} → (Expr → A) → Last → Expr → Nones A
chain_nones f (last.Asked b) a = never
chain_nones f _ a = only (f a)

pub just_onward : {r : Part} (moved : Bool) (f : Expr → tree_of r) (v : Expr) (l : Last) → falls tabled moved r (Onward (record { value = v; last = l })) ≡ true
    → ((a : Expr) → is_within finite (tables.stop r (f a)) behind_expression ≡ true) → Fits tabled r moved (goes_colon 0 13 l) (chain_nones f l v) (just (Onward (record { value = v; last = l })) f)
just_onward moved f v last.Plain fall stops = widen tabled (text fall (λ a. done (f a)) (λ a. refl) (λ a. stops a)) refl (λ a i. i)
just_onward moved f v last.Names fall stops = widen tabled (text fall (λ a. done (f a)) (λ a. refl) (λ a. stops a)) refl (λ a i. i)
just_onward moved f v last.Integer fall stops = widen tabled (text fall (λ a. done (f a)) (λ a. refl) (λ a. stops a)) refl (λ a i. i)
just_onward moved f v last.Unmarked fall stops = widen tabled (text fall (λ a. done (f a)) (λ a. refl) (λ a. stops a)) refl (λ a i. i)
just_onward moved f v last.Alone fall stops = widen tabled (text fall (λ a. done (f a)) (λ a. refl) (λ a. stops a)) refl (λ a i. i)
just_onward moved f v (last.Asked b) fall stops = widen tabled (text fall (λ a. done (f a)) (λ a. refl) (λ a. stops a)) refl (λ a i. i)

pub operand_follows : (l : Last) → is_within finite (goes_colon 0 13 l) (ends 0 l) ≡ true
operand_follows last.Plain = refl
operand_follows _ = refl

pub operand_ends : {A : Type 0} (f : Expr → A) (l : Last) (a : Expr) → Each (chain_nones f l a) (λ x. is_within finite behind_expression (ends 0 l) ≡ true)
operand_ends f last.Plain a = refl
operand_ends f last.Names a = refl
operand_ends f last.Integer a = refl
operand_ends f last.Unmarked a = refl
operand_ends f last.Alone a = refl
operand_ends f (last.Asked b) a = tt

pub fit_after_word : (t : Lexeme) → FitsAs (AfterWord t)
unfolding forms
fit_after_word t = fit_part tabled (AfterWord t)
    (where_fits s.Arrow refl (λ w. text refl (λ a. done a) (λ a. refl) (λ a. refl))
    (text refl (λ c. just_onward false as_it_is c.value c.last refl (λ a. refl)) (λ c. operand_follows c.last) (λ c. operand_ends as_it_is c.last c.value)) refl refl) refl (λ a e. e)
