-- Operands and suffixes by their steps.
use Rattle.std.proofs.Common.{◌≡◌, ℕ, suc, Bool, true, false, List, [], ◌∷◌, ◌++◌, Option, Some, None, IfSome, refl}
use Rattle.std.proofs.Common.{sym, ap, ◌∙◌}
use Rattle.mending_readers.specs.Mending.{mend_then, next_in}
use Rattle.c_lexer.specs.declared.token.Keyword.TheVariants as keyword
use Rattle.c_lexer.specs.declared.token.Sign.TheVariants as sign
use Rattle.c_tree.specs.declared.code.Suffix.{Suffix}
use Rattle.c_tree.specs.Names.{Names}
use Rattle.c_tree.specs.Make.{name_at}
use Rattle.c_nodes.specs.declared.token.Token.{Token as SeenToken}
use Rattle.c_nodes.specs.Seen.{seen}
use Rattle.c_grammar.specs.Sorts.{kind, on}
use Rattle.c_grammar.specs.Tests.{sign_is, is_field, name_with, is_value_role}
use Rattle.c_grammar.specs.Parts as part
use Rattle.c_grammar.specs.Trees as tree
use Rattle.c_grammar.specs.Grammar as grammar
use Rattle.c_grammar.specs.Grammar.{form}
use Rattle.c_cursor.specs.declared.parser.Parser.{Parser}
use Rattle.c_cursor.specs.declared.sets.Set.TheVariants as set
use Rattle.c_cursor.specs.Gives.{state}
use Rattle.c_cursor.specs.Scopes.{names_of}
use Rattle.c_cursor.specs.Steps.{Took}
use Rattle.c_cursor.specs.Reading.{Read, Place, one, is_next, read, way, give, first_then, behind}
use Rattle.c_parser.specs.Values.{size_behind, offset_behind, field_behind, field_of, index_behind, index_of, needed_of, index_option, suffix_of}
use Rattle.c_parser.proofs.Thens.{then_just, then_assoc, way_same, behind_start, behind_more, behind_end}
use Rattle.c_parser.proofs.TokenLaws.{behind_nothing, behind_one}
use Rattle.c_parser.proofs.TokenLaws.{way_then, give_then, role_bytes}
use Rattle.c_parser.proofs.Walks.{Free, free_give, free_take, free_part, free_pick, free_where, run, then_same, by_form}

-- 1. Operands

free_primary : (ns : Names) (c : Bool) → Free (form ns (part.Primary c))
unfolding form
free_primary ns c = free_where (λ t. free_give) (free_part (λ a. free_give))

pub primary_law : (e : ℕ) (ns : Names) (c : Bool) (l : ℕ) (s : Place) → read e ns (part.Primary c) l s
    ≡ way ns (set.ValueName c) s (mend_then (one e ns (set.ValueName c) l s) (λ t z. Some (tree.name_value ns t, z))) (read e ns part.Unnamed l s)
unfolding run form one is_next read
primary_law e ns c l s = by_form e ns (part.Primary c) l s (free_primary ns c)
    ∙ way_same (next_in kind (on ns (name_with (is_value_role c))) s) refl (then_just (read e ns part.Unnamed l s))

-- what is known of the name of a value
pub value_name_bytes : (c : Bool) (l : ℕ) (p q : Parser) (o : Option SeenToken) → Took (set.ValueName c) l p o q → IfSome o (λ t. (seen t).bytes ≡ t.text.now)
unfolding one is_next
value_name_bytes c l p q None h = tt
value_name_bytes c l p q (Some t) h = role_bytes p.end (names_of p.names) (is_value_role c) l (state p) (state q) t h.0 h.1

free_unnamed : (ns : Names) → Free (form ns part.Unnamed)
unfolding form
free_unnamed ns = free_where (λ t. free_give)
    (free_where (λ t. free_take (λ n b. refl) (λ r. free_part (λ y. free_take (λ n b. refl) (λ s. free_give))))
    (free_take (λ n b. refl) (λ t. free_take (λ n b. refl) (λ r. free_part
    (λ y. free_take (λ n b. refl) (λ m. free_take (λ n b. refl) (λ n'. free_take (λ n b. refl) (λ s. free_give))))))))

pub unnamed_law : (e : ℕ) (ns : Names) (l : ℕ) (s : Place) → read e ns part.Unnamed l s
    ≡ way ns set.Literal s (mend_then (one e ns set.Literal l s) (λ t z. Some (tree.literal t, z)))
    (way ns (set.Word keyword.Sizeof) s (mend_then (one e ns (set.Word keyword.Sizeof) l s) (λ t z. size_behind e ns t l z))
    (mend_then (one e ns (set.Word keyword.StructOffset) l s) (λ t z. offset_behind e ns t l z)))
unfolding run form one is_next read size_behind offset_behind
unnamed_law e ns l s = by_form e ns part.Unnamed l s (free_unnamed ns)

-- 2. Suffixes

-- the suffixes behind one
abbrev others : ℕ → Names → ℕ → Suffix → Place → Read (List Suffix)
others e ns l x z = first_then x (read e ns (part.Suffixes true false) l z)

free_index : (ns : Names) (dot must : Bool) → Free {r = part.at ns (part.Suffixes dot must)} (grammar.index_behind {dot = dot} {must = must} ns)
free_index ns dot must = free_take (λ n b. refl) (λ t. free_part (λ i. free_take (λ n b. refl) (λ s. free_part (λ xs. free_give))))

free_must : (ns : Names) (dot : Bool) → Free (form ns (part.Suffixes dot true))
unfolding form
free_must ns dot = free_where (λ t. free_take (λ n b. refl) (λ n'. free_part (λ xs. free_give))) (free_index ns dot true)

free_any : (ns : Names) (dot : Bool) → Free (form ns (part.Suffixes dot false))
unfolding form
free_any ns dot = free_where (λ t. free_take (λ n b. refl) (λ n'. free_part (λ xs. free_give))) (free_pick (free_index ns dot false) free_give)

-- a field and the suffixes behind it
field_go : (e : ℕ) (ns : Names) (dot : Bool) (l : ℕ) (s : Place)
    → mend_then (one e ns (set.Field dot) l s) (λ t z. mend_then (one e ns set.Name l z)
    (λ n y. mend_then (read e ns (part.Suffixes true false) l y) (λ xs w. Some (tree.field_suffix t.terminal (name_at n) ∷ xs, w))))
    ≡ mend_then (field_of e ns dot l s) (λ x z. others e ns l x z)
unfolding field_of field_behind first_then one
field_go e ns dot l s = refl

-- `[`, a value and `]`, and the suffixes behind it
index_go : (e : ℕ) (ns : Names) (l : ℕ) (s : Place)
    → mend_then (one e ns (set.Sign sign.OpenBracket) (suc l) s)
    (λ t z. mend_then (read e ns (part.Value false) (suc l) z) (λ i y. mend_then (one e ns (set.Sign sign.CloseBracket) l y)
    (λ x w. mend_then (read e ns (part.Suffixes true false) l w) (λ xs v. Some (tree.index_suffix t i x ∷ xs, v)))))
    ≡ mend_then (index_of e ns l s) (λ x z. others e ns l x z)
unfolding index_of index_behind first_then one
index_go e ns l s = sym (then_assoc (read e ns (part.Value false) (suc l) _) _ (λ x z. others e ns l x z))

pub must_law : (e : ℕ) (ns : Names) (dot : Bool) (l : ℕ) (s : Place)
    → read e ns (part.Suffixes dot true) l s ≡ mend_then (needed_of e ns dot l s) (λ x z. others e ns l x z)
unfolding run form one is_next read needed_of
must_law e ns dot l s = by_form e ns (part.Suffixes dot true) l s (free_must ns dot)
    ∙ way_same (next_in kind (on ns (is_field dot)) s) (field_go e ns dot l s) (index_go e ns l s)
    ∙ sym (way_then (next_in kind (on ns (is_field dot)) s) (field_of e ns dot l s) (index_of e ns l s) (λ x z. others e ns l x z))

-- the suffixes behind one that may be missing
abbrev pub suffixes_behind : ℕ → Names → ℕ → Option Suffix → Place → Read (List Suffix)
suffixes_behind e ns l None z = Some ([], z)
suffixes_behind e ns l (Some x) z = others e ns l x z

pub any_law : (e : ℕ) (ns : Names) (dot : Bool) (l : ℕ) (s : Place)
    → read e ns (part.Suffixes dot false) l s ≡ mend_then (suffix_of e ns dot l s) (λ o z. suffixes_behind e ns l o z)
unfolding run form one is_next read suffix_of index_option
any_law e ns dot l s = by_form e ns (part.Suffixes dot false) l s (free_any ns dot)
    ∙ way_same (next_in kind (on ns (is_field dot)) s) (field_go e ns dot l s
    ∙ sym (give_then Some (field_of e ns dot l s) (λ o z. suffixes_behind e ns l o z)))
    (way_same (next_in kind (on ns (sign_is sign.OpenBracket)) s) (index_go e ns l s
    ∙ sym (give_then Some (index_of e ns l s) (λ o z. suffixes_behind e ns l o z))) refl
    ∙ sym (way_then (next_in kind (on ns (sign_is sign.OpenBracket)) s) (give Some (index_of e ns l s)) (Some (None, s)) (λ o z. suffixes_behind e ns l o z)))
    ∙ sym (way_then (next_in kind (on ns (is_field dot)) s) (give Some (field_of e ns dot l s))
    (way ns (set.Sign sign.OpenBracket) s (give Some (index_of e ns l s)) (Some (None, s))) (λ o z. suffixes_behind e ns l o z))

-- the suffixes behind others and one that may be missing
abbrev pub suffixes_after : ℕ → Names → ℕ → List Suffix → Option Suffix → Place → Read (List Suffix)
suffixes_after e ns l xs None z = Some (xs, z)
suffixes_after e ns l xs (Some x) z = behind (xs ++ x ∷ []) (read e ns (part.Suffixes true false) l z)

go_on : (e : ℕ) (ns : Names) (l : ℕ) (xs : List Suffix) (o : Read (Option Suffix))
    → behind xs (mend_then o (λ x z. suffixes_behind e ns l x z)) ≡ mend_then o (λ x z. suffixes_after e ns l xs x z)
go_on e ns l xs None = behind_nothing xs
go_on e ns l xs (Some (None, z)) = behind_end xs z
go_on e ns l xs (Some (Some x, z)) = behind_more xs x (read e ns (part.Suffixes true false) l z)

pub suffixes_law : (e : ℕ) (ns : Names) (dot : Bool) (l : ℕ) (s : Place) (xs : List Suffix)
    → behind xs (read e ns (part.Suffixes dot false) l s) ≡ mend_then (suffix_of e ns dot l s) (λ o z. suffixes_after e ns l xs o z)
suffixes_law e ns dot l s xs = ap (λ o. behind xs o) (any_law e ns dot l s) ∙ go_on e ns l xs (suffix_of e ns dot l s)

pub must_suffixes_law : (e : ℕ) (ns : Names) (dot : Bool) (l : ℕ) (s : Place)
    → read e ns (part.Suffixes dot true) l s ≡ mend_then (needed_of e ns dot l s) (λ x z. behind (x ∷ []) (read e ns (part.Suffixes true false) l z))
must_suffixes_law e ns dot l s = must_law e ns dot l s ∙ then_same (needed_of e ns dot l s) _ _ (λ x z. behind_one x (read e ns (part.Suffixes true false) l z))

pub ruleset suffix_laws = (suffixes_law, must_suffixes_law, behind_start)
