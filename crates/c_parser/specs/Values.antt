-- Pieces of values and calls, by the steps that they are read by.
use Rattle.std.specs.Prelude.{ℕ, suc, ◌<◌, Bool, true, false, ◌&&◌, not, if◌then◌else◌, List, [], ◌∷◌, ◌++◌, Option, Some, None}
use Rattle.mending_readers.specs.Mending.{mend_then}
use Rattle.c_lexer.specs.declared.token.Sign.TheVariants as sign
use Rattle.c_tree.specs.declared.code.Call.{Call}
use Rattle.c_tree.specs.declared.code.Choice.{Choice}
use Rattle.c_tree.specs.declared.code.Expr.{Expr}
use Rattle.c_tree.specs.declared.code.Stmt.{Stmt}
use Rattle.c_tree.specs.declared.code.Stmt.TheVariants as stmt
use Rattle.c_tree.specs.declared.code.Suffix.{Suffix}
use Rattle.c_tree.specs.declared.operators.Level.{Level}
use Rattle.c_tree.specs.declared.operators.Level.TheVariants as level
use Rattle.c_tree.specs.declared.operators.PrefixOperator.{PrefixOperator}
use Rattle.c_tree.specs.Make.{name_at, choice, conditional, prefixed, suffixed}
use Rattle.c_tree.specs.Names.{Names, Role, RowName}
use Rattle.c_tree.specs.Values.{is_place}
use Rattle.c_tree.specs.Words.{Token}
use Rattle.c_grammar.specs.Parts as part
use Rattle.c_grammar.specs.Trees as tree
use Rattle.c_cursor.specs.declared.sets.Set.{Set}
use Rattle.c_cursor.specs.declared.sets.Set.TheVariants as set
use Rattle.c_cursor.specs.Reading.{Read, Place, one, is_next, read, way, give}
use Rattle.c_parser.specs.declared.prefixes.Step.{Step}
use Rattle.c_parser.specs.declared.prefixes.Step.TheVariants as step
use Rattle.c_parser.specs.Pieces.{bracketed_of, is_address, operand_of, prefixed_of}

-- 1. Operands

-- what follows `sizeof`
unfoldable pub size_behind : ℕ → Names → Token → ℕ → Place → Read Expr
size_behind e ns t l s =
    mend_then (one e ns (set.Sign sign.OpenParen) (suc l) s)
    (λ o z. mend_then (read e ns (part.AnyType true true) (suc l) z)
    (λ c y. mend_then (one e ns (set.Sign sign.CloseParen) l y) (λ x w. Some (tree.size_of t c x, w))))

-- what follows `G_STRUCT_OFFSET`
unfoldable pub offset_behind : ℕ → Names → Token → ℕ → Place → Read Expr
offset_behind e ns t l s =
    mend_then (one e ns (set.Sign sign.OpenParen) (suc l) s)
    (λ o z. mend_then (read e ns (part.AnyType true true) (suc l) z) (λ c y. mend_then (one e ns (set.Sign sign.Comma) (suc l) y)
    (λ m w. mend_then (one e ns set.Name (suc l) w) (λ n v. mend_then (one e ns (set.Sign sign.CloseParen) l v) (λ x u. Some (tree.offset t c n x, u))))))

-- 2. Suffixes

-- the name behind `->` or `.`
unfoldable pub field_behind : ℕ → Names → Token → ℕ → Place → Read Suffix
field_behind e ns t l s = mend_then (one e ns set.Name l s) (λ n z. Some (tree.field_suffix t.terminal (name_at n), z))

-- `->` or `.` and a name
unfoldable pub field_of : ℕ → Names → Bool → ℕ → Place → Read Suffix
field_of e ns dot l s = mend_then (one e ns (set.Field dot) l s) (λ t z. field_behind e ns t l z)

-- a value and `]`, of which this is the `[` in front
unfoldable pub index_behind : ℕ → Names → Token → ℕ → Place → Read Suffix
index_behind e ns t l s = mend_then (read e ns (part.Value false) (suc l) s)
    (λ i z. mend_then (one e ns (set.Sign sign.CloseBracket) l z) (λ x y. Some (tree.index_suffix t i x, y)))

-- `[`, a value and `]`
unfoldable pub index_of : ℕ → Names → ℕ → Place → Read Suffix
index_of e ns l s = mend_then (one e ns (set.Sign sign.OpenBracket) (suc l) s) (λ t z. index_behind e ns t l z)

-- a suffix, which may begin with `.` or not
unfoldable pub needed_of : ℕ → Names → Bool → ℕ → Place → Read Suffix
needed_of e ns dot l s = way ns (set.Field dot) s (field_of e ns dot l s) (index_of e ns l s)

-- `[`, a value and `]`, where there is one
unfoldable pub index_option : ℕ → Names → ℕ → Place → Read (Option Suffix)
index_option e ns l s = way ns (set.Sign sign.OpenBracket) s (give Some (index_of e ns l s)) (Some (None, s))

-- a suffix, where there is one
unfoldable pub suffix_of : ℕ → Names → Bool → ℕ → Place → Read (Option Suffix)
suffix_of e ns dot l s = way ns (set.Field dot) s (give Some (field_of e ns dot l s)) (index_option e ns l s)

-- a value with the suffixes behind it, and whether a place must come of it
unfoldable pub suffixed_of : ℕ → Names → Bool → Expr → ℕ → Place → Read Expr
suffixed_of e ns place a l s = give (λ xs. suffixed a xs) (read e ns (part.Suffixes (is_place a) (place && not (is_place a))) l s)

-- 3. Operators before an operand

-- the operators that may stand before a place, or before another operand
abbrev pub prefixes : Bool → Bool → Set
prefixes c true = set.Sign sign.Star
prefixes c false = set.Prefix c

-- what follows a step: more operators and the operand, or nothing
abbrev pub behind_step : ℕ → Names → Bool → Step → ℕ → Place → Read (List PrefixOperator × Expr)
behind_step e ns c (step.Operator p) l s = give (tree.one_prefix p) (operand_of e ns (is_address p.prefix) c l s)
behind_step e ns c (step.Operand a) l s = Some (([], a), s)

-- whether a step is `&`
abbrev pub wants_place : Step → Bool
wants_place (step.Operator p) = is_address p.prefix
wants_place (step.Operand a) = false

-- where an operator was read, less is left
abbrev pub Falls : Step → ℕ → ℕ → Type 0
Falls (step.Operator p) before after = after < before
Falls (step.Operand a) before after = Unit {0}

-- an operand and its suffixes, where it is no constant
abbrev pub finished : ℕ → Names → Bool → Bool → Expr → ℕ → Place → Read Expr
finished e ns true place a l s = Some (a, s)
finished e ns false place a l s = suffixed_of e ns place a l s

-- the same as a step
abbrev pub operand_step : ℕ → Names → Bool → Bool → Expr → ℕ → Place → Read Step
operand_step e ns c place a l s = give step.Operand (finished e ns c place a l s)

-- a cast, of which this is the `(` in front
unfoldable pub cast_of : ℕ → Names → Token → ℕ → Place → Read PrefixOperator
cast_of e ns t l s = mend_then (read e ns (part.AnyType false true) (suc l) s)
    (λ c z. mend_then (one e ns (set.Sign sign.CloseParen) l z) (λ x y. Some (tree.cast_prefix t c x, y)))

-- the same as a step
abbrev pub cast_step : ℕ → Names → Token → ℕ → Place → Read Step
cast_step e ns t l s = give step.Operator (cast_of e ns t l s)

-- what follows `(`: a cast, or a value in brackets
unfoldable pub bracket_step : ℕ → Names → Bool → Bool → Token → ℕ → Place → Read Step
bracket_step e ns c place t l s =
    if not place && is_next ns (set.Type false) s then cast_step e ns t l s else mend_then (bracketed_of e ns c t l s) (λ a z. operand_step e ns c place a l z)

-- a cast, or an operand without operators before it
unfoldable pub plain_step : ℕ → Names → Bool → Bool → ℕ → Place → Read Step
plain_step e ns c place l s = way ns (set.Sign sign.OpenParen) s
    (mend_then (one e ns (set.Sign sign.OpenParen) (suc l) s) (λ t z. bracket_step e ns c place t l z))
    (mend_then (read e ns (part.Primary c) l s) (λ a z. operand_step e ns c place a l z))

-- one operator, or the operand
unfoldable pub step_of : ℕ → Names → Bool → Bool → ℕ → Place → Read Step
step_of e ns c place l s = way ns (prefixes c place) s (mend_then (one e ns (prefixes c place) l s)
    (λ t z. Some (step.Operator (tree.sign_prefix t), z))) (plain_step e ns c place l s)

-- an operand behind these operators
unfoldable pub operators_of : ℕ → Names → List PrefixOperator → Bool → Bool → ℕ → Place → Read Expr
operators_of e ns ps place c l s = give (λ r. prefixed (ps ++ r.0) r.1) (operand_of e ns place c l s)

-- an operand with the operators before it
unfoldable pub prefixed_value : ℕ → Names → Bool → ℕ → Place → Read Expr
prefixed_value e ns c l s = give tree.with_prefixes (read e ns (part.Prefixed c) l s)

-- the operand that a step begins
abbrev pub value_behind : ℕ → Names → Bool → Step → ℕ → Place → Read Expr
value_behind e ns c (step.Operator p) l s = prefixed_of e ns c p l s
value_behind e ns c (step.Operand a) l s = Some (a, s)

-- 4. Chains and choices

-- what follows an operand, up to a level where there is one
abbrev pub tail_of : ℕ → Names → Option Level → Bool → Expr → ℕ → Place → Read Expr
tail_of e ns None c a l s = Some (a, s)
tail_of e ns (Some m) c a l s = read e ns (part.Upto m c a) l s

-- a value without choices
unfoldable pub chain_of : ℕ → Names → Bool → ℕ → Place → Read Expr
chain_of e ns c l s = mend_then (prefixed_value e ns c l s) (λ a z. read e ns (part.Upto level.Or c a) l z)

-- a value and `:`, behind a condition and `?`
unfoldable pub choice_of : ℕ → Names → Bool → Expr → ℕ → Place → Read Choice
choice_of e ns c a l s = mend_then (read e ns (part.Value c) (suc l) s) (λ b z. mend_then (one e ns (set.Sign sign.Colon) l z) (λ x y. Some (choice a b, y)))

-- what follows a value that may be a condition
unfoldable pub choices_of : ℕ → Names → Bool → Expr → ℕ → Place → Read (List Choice × Expr)
choices_of e ns c a l s = way ns (set.Sign sign.Question) s
    (mend_then (one e ns (set.Sign sign.Question) (suc l) s)
    (λ q z. mend_then (choice_of e ns c a l z) (λ k y. give (λ r. (k ∷ r.0, r.1)) (read e ns (part.Choosing c) l y)))) (Some (([], a), s))

-- the value that these choices and what follows make
unfoldable pub conditional_of : ℕ → Names → Bool → List Choice → Expr → ℕ → Place → Read Expr
conditional_of e ns c ks a l s = give (λ r. conditional (ks ++ r.0) r.1) (choices_of e ns c a l s)

-- the value that begins with this operand
unfoldable pub choosing_of : ℕ → Names → Bool → Expr → ℕ → Place → Read Expr
choosing_of e ns c a l s = give (λ r. conditional r.0 r.1) (read e ns (part.ChoosingTail c a) l s)

-- 5. Calls

-- a call of a value, behind the callee
unfoldable pub call_behind : ℕ → Names → Option Expr → Expr → ℕ → Place → Read Stmt
call_behind e ns b a l s = mend_then (one e ns (set.Sign sign.OpenParen) (suc l) s) (λ o z. mend_then (read e ns part.Arguments (suc l) z) (λ xs y.
    mend_then (one e ns (set.Sign sign.CloseParen) l y) (λ x w. mend_then (one e ns (set.Sign sign.Semicolon) l w)
    (λ q v. Some (tree.call_stmt b (tree.value_call a xs x), v)))))

-- what stands in the brackets of a call of a function of the library, and `)`
unfoldable pub row_inside : ℕ → Names → Token → Bool → ℕ → Place → Read Call
row_inside e ns n false l s = mend_then (read e ns part.Arguments (suc l) s)
    (λ xs z. mend_then (one e ns (set.Sign sign.CloseParen) l z) (λ x y. Some (tree.row_call n None xs x, y)))
row_inside e ns n true l s = mend_then (read e ns (part.AnyType true true) (suc l) s) (λ c z. mend_then (read e ns part.MoreArguments (suc l) z) (λ xs y.
    mend_then (one e ns (set.Sign sign.CloseParen) l y) (λ x w. Some (tree.row_call n (Some c) xs x, w))))

-- what follows a place that a statement begins with
unfoldable pub stored_of : ℕ → Names → Expr → ℕ → Place → Read Stmt
stored_of e ns a l s = way ns (set.Sign sign.Assign) s (mend_then (one e ns (set.Sign sign.Assign) l s) (λ t z. read e ns (part.Assigned a) l z))
    (call_behind e ns None a l s)

-- what follows the first operand of a value that is stored to this place
unfoldable pub assigned_value : ℕ → Names → Expr → Expr → ℕ → Place → Read Stmt
assigned_value e ns b a l s = mend_then (choosing_of e ns false a l s)
    (λ v z. mend_then (one e ns (set.Sign sign.Semicolon) l z) (λ q y. Some (stmt.Assign b v, y)))

-- what follows a step of a value that is stored, or of a callee
unfoldable pub assigned_step : ℕ → Names → Expr → Step → ℕ → Place → Read Stmt
assigned_step e ns b (step.Operator p) l s = mend_then (prefixed_of e ns false p l s) (λ a z. assigned_value e ns b a l z)
assigned_step e ns b (step.Operand a) l s = way ns (set.Sign sign.OpenParen) s (call_behind e ns (Some b) a l s) (assigned_value e ns b a l s)

-- whether a function of the library takes a type first
abbrev pub takes_type : Role → Bool
takes_type (RowName b) = b
takes_type r = false
