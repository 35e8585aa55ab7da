-- `const` by its steps.
use Rattle.std.proofs.Common.{◌≡◌, ℕ, Bool, true, false, if◌then◌else◌, [], ◌∷◌, Option, Some, None, refl, sym, ap, ◌∙◌}
use Rattle.mending_readers.specs.Mending.{mend_then}
use Rattle.c_lexer.specs.declared.token.Keyword.TheVariants as keyword
use Rattle.c_tree.specs.declared.names.Span.{Span}
use Rattle.c_tree.specs.Names.{Names}
use Rattle.c_tree.specs.Words.{Token, Word, at}
use Rattle.c_grammar.specs.Parts as part
use Rattle.c_nodes.specs.Rows.{row_of}
use Rattle.c_cursor.specs.declared.sets.Set.TheVariants as set
use Rattle.c_cursor.specs.Gives.{seen_by}
use Rattle.c_cursor.specs.Reading.{Read, Place, one, is_next, read, way}
use Rattle.c_cursor.specs.Sets.{is_in}
use Rattle.c_parser.specs.Rows.{joined, rows_behind}
use Rattle.c_parser.proofs.TypeLaws.{seen_same, seen_more, row_step, row_none}
use Rattle.c_parser.proofs.TypeRows.{consts_way}
use Rattle.c_parser.proofs.TokenLaws.{taken}

-- one `const`, and those behind it
abbrev behind_const : ℕ → Names → ℕ → Token → Place → Read Word
behind_const e ns l t z = mend_then (read e ns part.Consts l z) (λ v y. Some (t ∷ v, y))

abbrev consts_by : ℕ → Names → ℕ → Place → Bool → Read Word
consts_by e ns l s b = if b then mend_then (one e ns (set.Word keyword.Const) l s) (λ c z. behind_const e ns l c z) else Some ([], s)

-- those behind a row
go_on : (e : ℕ) (ns : Names) (l : ℕ) (s : Place) (row : Option Span) (b : Bool)
    → rows_behind row (consts_by e ns l s b) ≡ (if b then mend_then (one e ns (set.Word keyword.Const) l s)
    (λ t z. rows_behind (joined row (Some (at t))) (read e ns part.Consts l z)) else Some (row, s))
unfolding one rows_behind
go_on e ns l s row true =
    let t : Token × Place = taken e l (is_in (set.Word keyword.Const) ns) s in
    seen_more (λ w. joined row (row_of w)) (λ w. t.0 ∷ w) (read e ns part.Consts l t.1)
    ∙ seen_same (λ w. joined row (row_of (t.0 ∷ w))) (λ w. joined (joined row (Some (at t.0))) (row_of w)) (read e ns part.Consts l t.1)
    (λ w. sym (row_step row t.0 w))
go_on e ns l s row false = ap (λ r. Some (r, s)) (row_none row)

pub consts_law : (e : ℕ) (ns : Names) (l : ℕ) (s : Place) (row : Option Span) → rows_behind row (read e ns part.Consts l s)
    ≡ way ns (set.Word keyword.Const) s (mend_then (one e ns (set.Word keyword.Const) l s)
    (λ t z. rows_behind (joined row (Some (at t))) (read e ns part.Consts l z))) (Some (row, s))
consts_law e ns l s row = ap (λ o. rows_behind row o) (consts_way e ns l s) ∙ go_on e ns l s row (is_next ns (set.Word keyword.Const) s)

-- nothing in front
pub consts_start : (o : Read Word) → rows_behind None o ≡ seen_by row_of o
unfolding rows_behind
consts_start None = refl
consts_start (Some x) = refl

pub ruleset consts_laws = (consts_law, consts_start)
