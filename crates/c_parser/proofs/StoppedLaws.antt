-- What is made up where the reader has stopped.
use Rattle.std.proofs.Common.{◌≡◌, ℕ, suc, Bool, true, false, if◌then◌else◌, [], Some, None, refl, ap, subst, ◌∙◌}
use Rattle.predictive_grammar.specs.Follows.{Reads}
use Rattle.predictive_grammar.specs.Reading.{reader}
use Rattle.mending_readers.specs.Mending.{Going, Stopped, Mended, mend_then}
use Rattle.mending_readers.proofs.Mends.{Told, Splits, mender_mends}
use Rattle.c_lexer.specs.declared.token.Sign.TheVariants as sign
use Rattle.c_tree.specs.declared.code.Block.{Block}
use Rattle.c_tree.specs.declared.code.Expr.{Expr}
use Rattle.c_tree.specs.declared.operators.Level.TheVariants as level
use Rattle.c_tree.specs.Make.{block, suffixed}
use Rattle.c_tree.specs.Names.{Names}
use Rattle.c_tree.specs.Values.{is_place}
use Rattle.c_tree.specs.Words.{Token, at, join}
use Rattle.c_grammar.specs.Parts as part
use Rattle.c_grammar.specs.Parts.{What, Part, tree_of}
use Rattle.c_grammar.specs.Grammar.{C, forms}
use Rattle.c_grammar.specs.Laws.{c_limits}
use Rattle.c_grammar.specs.Mending.{made_up, tallest}
use Rattle.c_grammar.specs.Tables.{tables}
use Rattle.c_grammar.proofs.Predictive.{predictive}
use Rattle.c_grammar.proofs.Serving.{serves}
use Rattle.c_cursor.specs.declared.parser.Parser.{Parser}
use Rattle.c_cursor.specs.declared.sets.Set.{Set}
use Rattle.c_cursor.specs.declared.sets.Set.TheVariants as set
use Rattle.c_cursor.specs.Gives.{reads, state, state_at}
use Rattle.c_cursor.specs.Reading.{Read, Place, one, is_next, read, give}
use Rattle.c_cursor.specs.Scopes.{names_of}
use Rattle.c_cursor.specs.State.{rest}
use Rattle.c_parser.specs.declared.prefixes.Step.TheVariants as step
use Rattle.c_parser.specs.Pieces.{Parts}
use Rattle.c_parser.specs.Values.{index_option, suffix_of, suffixed_of, finished, operand_step, plain_step, step_of}
use Rattle.c_parser.specs.Values.{value_behind, choosing_of, conditional_of}
use Rattle.c_parser.proofs.BodyLaws.{block_law, body_law}
use Rattle.c_parser.proofs.ChainLaws.{upto_skips, value_law, choosing_starts, conditional_law}
use Rattle.c_parser.proofs.OperandLaws.{primary_law, any_law, suffixes_behind}
use Rattle.c_parser.proofs.PrefixLaws.{prefixed_law}

-- whether a reader has stopped there
abbrev has_stopped : Place → Bool
has_stopped (Going w) = false
has_stopped (Stopped w) = true

-- what the mending reader says of a part
abbrev Split : (q : Part) → ℕ → Place → tree_of q.what → Place → Type 0
Split q l s a z = Splits C c_limits (λ rest t. Unit {0}) (Reads C forms None q l) (reader C forms tables.top tables.rank c_limits q l) s a z

false_true : false ≡ true → ⊥
false_true h = absurd cc

-- it stays there
stays_stopped : (e : ℕ) (ns : Names) (w : What) (l : ℕ) (s : Place) (a : tree_of w) (z : Place) → has_stopped s ≡ true → read e ns w l s ≡ Some (a, z)
    → has_stopped z ≡ true
unfolding read
stays_stopped e ns w l s a z is h = go s z is
    (subst (λ (o : Mended Token (tree_of w)). Told C c_limits (λ rest t. Unit {0}) (Reads C forms None (part.at ns w) l)
    (reader C forms tables.top tables.rank c_limits (part.at ns w) l) s o) h
    (mender_mends C c_limits (λ rest t. Unit {0}) (made_up e) (λ test before rest. tt) (λ rest t. tt) (λ rest t. refl) forms tables predictive
    (serves e) tallest (part.at ns w) l s))
  where
    go : (s z : Place) → has_stopped s ≡ true → Split (part.at ns w) l s a z → has_stopped z ≡ true
    go (Going i) z is t = absurd (false_true is)
    go (Stopped i) (Going j) is t = absurd t
    go (Stopped i) (Stopped j) is t = refl

-- no token is the next one
not_next : (ns : Names) (x : Set) (s : Place) → has_stopped s ≡ true → is_next ns x s ≡ false
unfolding is_next
not_next ns x (Going w) h = absurd (false_true h)
not_next ns x (Stopped w) h = refl

-- the other way
other_way : {A : Type 0} (b : Bool) (x y : A) → b ≡ false → (if b then x else y) ≡ y
other_way false x y h = refl
other_way true x y h = absurd cc

-- 1. Values

no_suffix : (e : ℕ) (ns : Names) (dot : Bool) (l : ℕ) (s : Place) → has_stopped s ≡ true → suffix_of e ns dot l s ≡ Some (None, s)
unfolding suffix_of index_option
no_suffix e ns dot l s h =
    other_way (is_next ns (set.Field dot) s) _ _ (not_next ns (set.Field dot) s h)
    ∙ other_way (is_next ns (set.Sign sign.OpenBracket) s) _ _ (not_next ns (set.Sign sign.OpenBracket) s h)

as_it_is : (e : ℕ) (ns : Names) (c : Bool) (a : Expr) (l : ℕ) (s : Place) → has_stopped s ≡ true → finished e ns c false a l s ≡ Some (a, s)
unfolding suffixed_of
as_it_is e ns true a l s h = refl
as_it_is e ns false a l s h =
    ap (λ o. give (λ xs. suffixed a xs) o) (any_law e ns (is_place a) l s
    ∙ ap (λ o. mend_then o (λ x z. suffixes_behind e ns l x z)) (no_suffix e ns (is_place a) l s h))

first_step : (e : ℕ) (ns : Names) (c : Bool) (l : ℕ) (s : Place) → has_stopped s ≡ true
    → step_of e ns c false l s ≡ mend_then (read e ns part.Unnamed l s) (λ a z. operand_step e ns c false a l z)
unfolding step_of plain_step
first_step e ns c l s h =
    other_way (is_next ns (set.Prefix c) s) _ _ (not_next ns (set.Prefix c) s h)
    ∙ other_way (is_next ns (set.Sign sign.OpenParen) s) _ _ (not_next ns (set.Sign sign.OpenParen) s h)
    ∙ ap (λ (o : Read Expr). mend_then o (λ a z. operand_step e ns c false a l z)) (primary_law e ns c l s
    ∙ other_way (is_next ns (set.ValueName c) s) _ _ (not_next ns (set.ValueName c) s h))

chosen : (e : ℕ) (ns : Names) (c : Bool) (a : Expr) (l : ℕ) (s : Place) → has_stopped s ≡ true → choosing_of e ns c a l s ≡ Some (a, s)
chosen e ns c a l s h =
    choosing_starts e ns c a l s ∙ ap (λ (o : Read Expr). mend_then o (λ t z. conditional_of e ns c [] t l z))
    (upto_skips e ns c a l s level.Or (not_next ns (set.LinkUpTo level.Or) s h))
    ∙ conditional_law e ns c [] a l s ∙ other_way (is_next ns (set.Sign sign.Question) s) _ _ (not_next ns (set.Sign sign.Question) s h)

value_by : (e : ℕ) (ns : Names) (c : Bool) (l : ℕ) (s : Place) (o : Read Expr) → ((a : Expr) (z : Place) → o ≡ Some (a, z) → has_stopped z ≡ true)
    → mend_then (mend_then (mend_then o (λ a z. operand_step e ns c false a l z)) (λ x z. value_behind e ns c x l z)) (λ a z. choosing_of e ns c a l z) ≡ o
value_by e ns c l s None stops = refl
value_by e ns c l s (Some x) stops =
    let h : has_stopped x.1 ≡ true = stops x.0 x.1 refl in
    ap (λ (o : Read Expr). mend_then (mend_then (give step.Operand o) (λ x z. value_behind e ns c x l z)) (λ a z. choosing_of e ns c a l z))
    (as_it_is e ns c x.0 l x.1 h) ∙ chosen e ns c x.0 l x.1 h

stopped_value : (e : ℕ) (ns : Names) (c : Bool) (l : ℕ) (s : Place) → has_stopped s ≡ true → read e ns (part.Value c) l s ≡ read e ns part.Unnamed l s
stopped_value e ns c l s h =
    value_law e ns c l s
    ∙ ap (λ (o : Read Expr). mend_then o (λ a z. choosing_of e ns c a l z)) (prefixed_law e ns c l s
    ∙ ap (λ o. mend_then o (λ x z. value_behind e ns c x l z)) (first_step e ns c l s h))
    ∙ value_by e ns c l s (read e ns part.Unnamed l s) (λ a z is. stays_stopped e ns part.Unnamed l s a z h is)

-- the same of a parser
pub value_made_up : (c : Bool) (l : ℕ) (p : Parser) → p.is_stopped ≡ true → reads (part.Value c) l p ≡ reads part.Unnamed l p
value_made_up c l p h = stopped_value p.end (names_of p.names) c l (state p) (ap (λ b. has_stopped (state_at b (rest p.cursor))) h)

-- 2. Blocks

stopped_body : (e : ℕ) (ns : Names) (l : ℕ) (s : Place) → has_stopped s ≡ true → read e ns part.Body l s ≡ Some (([], []), s)
stopped_body e ns l s h =
    body_law e ns l s ∙ other_way (is_next ns set.KeyType s) _ _ (not_next ns set.KeyType s h)
    ∙ other_way (is_next ns set.Name s) _ _ (not_next ns set.Name s h)
    ∙ other_way (is_next ns set.Plain s) _ _ (not_next ns set.Plain s h)

-- an empty block
abbrev pub empty_block : ℕ → Names → ℕ → Place → Read Block
empty_block e ns l s =
    mend_then (one e ns (set.Sign sign.OpenBrace) (suc l) s)
    (λ t z. mend_then (one e ns (set.Sign sign.CloseBrace) l z) (λ x y. Some (block [] [] (join (at t) (at x)), y)))

abbrev block_behind : ℕ → Names → ℕ → Token → Place → Read Parts → Read Block
block_behind e ns l t z o = mend_then o (λ r y. mend_then (one e ns (set.Sign sign.CloseBrace) l y) (λ x w. Some (block r.0 r.1 (join (at t) (at x)), w)))

-- what stands behind the brace in front
behind_open : (e : ℕ) (ns : Names) (l : ℕ) (s : Place) → has_stopped s ≡ true → (k f : Token → Place → Read Block)
    → ((t : Token) (z : Place) → has_stopped z ≡ true → k t z ≡ f t z)
    → mend_then (one e ns (set.Sign sign.OpenBrace) (suc l) s) k ≡ mend_then (one e ns (set.Sign sign.OpenBrace) (suc l) s) f
unfolding one
behind_open e ns l (Going w) h k f same = absurd (false_true h)
behind_open e ns l (Stopped w) h k f same = same _ (Stopped w) refl

stopped_block : (e : ℕ) (ns : Names) (l : ℕ) (s : Place) → has_stopped s ≡ true → read e ns part.BlockOf l s ≡ empty_block e ns l s
stopped_block e ns l s h = block_law e ns l s ∙ behind_open e ns l s h _ _
    (λ t z is. ap (λ (o : Read Parts). block_behind e ns l t z o) (stopped_body e ns (suc l) z is))

pub block_made_up : (l : ℕ) (p : Parser) → p.is_stopped ≡ true → reads part.BlockOf l p ≡ empty_block p.end (names_of p.names) l (state p)
block_made_up l p h = stopped_block p.end (names_of p.names) l (state p) (ap (λ b. has_stopped (state_at b (rest p.cursor))) h)

pub ruleset stopped_laws = (value_made_up, block_made_up)
