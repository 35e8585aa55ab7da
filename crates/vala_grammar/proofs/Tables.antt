-- The tables of the grammar, for the conditions that are computed.
use Rattle.std.proofs.Common.{false, Some, None}
use Rattle.predictive_grammar.specs.Fit.{Fit}
use Rattle.predictive_grammar.proofs.Sets.{by_list}
use Rattle.predictive_grammar.proofs.Fits.{Tabled, Nones, never, only, Among}
use Rattle.vala_grammar.specs.declared.sort.Sort.{Sort}
use Rattle.vala_grammar.specs.declared.parts.Last.{Last}
use Rattle.vala_grammar.specs.declared.parts.Last.TheVariants as last
use Rattle.vala_grammar.specs.declared.parts.TypeName.TheVariants as type_name
use Rattle.vala_grammar.specs.declared.parts.Lead.TheVariants as lead
use Rattle.vala_grammar.specs.declared.parts.Opening.TheVariants as opening
use Rattle.vala_grammar.specs.declared.parts.Bracketed.TheVariants as bracketed
use Rattle.vala_tree.specs.declared.code.Expr.{Expr}
use Rattle.vala_grammar.specs.Trees as tree
use Rattle.vala_grammar.specs.Parts.{Part, tree_of, Name, NameMore, NameInTypeMore, AfterWord, Onward, Upto, Rest, CoalesceTail, ChoiceTail, AssignTail, LeadMore, Marked, BehindNames, Suffix, NewItems, IfTail, TryMore, MoreLocals}
use Rattle.vala_grammar.specs.Grammar.{G, forms}
use Rattle.vala_grammar.specs.Tables.{tables, none_choice}
use Rattle.vala_grammar.proofs.Finite.{finite, sample, is_sample}

abbrev pub choice_nones : Last → Expr → Nones Expr
choice_nones (last.Asked b) a = never
choice_nones _ a = only a

abbrev pub nones : (p : Part) → Nones (tree_of p)
nones (NameMore n) = only n
nones (NameInTypeMore n) = only (type_name.Single n)
nones (AfterWord t) = only (tree.name t)
nones (Onward c) = choice_nones c.last c.value
nones (Upto d t c) = only c
nones (Rest d t c) = only c
nones (CoalesceTail d c) = only c
nones (ChoiceTail c) = choice_nones c.last c.value
nones (AssignTail a) = only a
nones (LeadMore n) = only (lead.Names n)
nones (Marked x n q) = only (opening.Type (tree.single_type None n (Some q)))
nones (BehindNames top o n c) = only (bracketed.Operand (tree.bracketed_names o.span n c.span))
nones (Suffix c) = only c
nones (NewItems t n q a c) = only (tree.new_array t n q a c.span)
nones (IfTail c a) = only (tree.one_arm c a)
nones (TryMore t b xs) = only (tree.try_block t b xs)
nones (MoreLocals y ds) = only (tree.declared_locals y.0 y.1 ds)
nones _ = never

pub choice_means : (l : Last) (a e : Expr) → none_choice l a e → Among (choice_nones l a) e
choice_means (last.Asked b) a e i = i
choice_means last.Plain a e i = i
choice_means _ a e i = i

pub means : (p : Part) (a : tree_of p) → tables.none p a → Among (nones p) a
means (Onward c) e i = choice_means c.last c.value e i
means (ChoiceTail c) e i = choice_means c.last c.value e i
means Name e i = i
means _ e i = i

abbrev pub tabled : Tabled
tabled = record { signature = G; forms = forms; tables = tables; checks = by_list finite; Sample = Sort; shape = λ x. x; sample = sample; is_sample = is_sample; nones = nones; means = means }

-- the part's form fits its tables
abbrev pub FitsAs : Part → Type 1
FitsAs p = Fit G tables p false (tables.first p) (tables.none p) (forms p)
