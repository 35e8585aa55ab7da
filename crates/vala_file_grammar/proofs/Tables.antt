-- The tables of the grammar, for the conditions that are computed.
use Rattle.std.proofs.Common.{false, []}
use Rattle.predictive_grammar.specs.Fit.{Fit}
use Rattle.predictive_grammar.proofs.Fits.{Tabled, Nones, never, only, Among}
use Rattle.vala_grammar.proofs.Tables as code
use Rattle.vala_file_grammar.specs.Kinds.{Base}
use Rattle.vala_file_grammar.specs.Parts.{FilePart, file_tree_of, Code, File, Usings, FileMembers, TypeEnd, Bases, ThrowsOf}
use Rattle.vala_file_grammar.specs.Embed.{F}
use Rattle.vala_file_grammar.specs.Grammar.{forms}
use Rattle.vala_file_grammar.specs.Tables.{tables, plain_type}
use Rattle.vala_file_grammar.proofs.Finite.{checks, shape, sample, is_sample}

abbrev pub nones : (p : FilePart) → Nones (file_tree_of p)
nones (Code p) = code.nones p
nones File = only (record { usings = []; members = [] })
nones (Usings us) = only (record { usings = us; members = [] })
nones (FileMembers us ms) = only (record { usings = us; members = ms })
nones (TypeEnd n) = only (plain_type n)
nones Bases = only []
nones ThrowsOf = only []
nones _ = never

pub means : (p : FilePart) (a : file_tree_of p) → tables.none p a → Among (nones p) a
means (Code p) a e = code.means p a e
means File a e = e
means _ a e = e

abbrev pub tabled : Tabled
tabled = record { signature = F; forms = forms; tables = tables; checks = checks; Sample = Base; shape = shape; sample = sample; is_sample = is_sample; nones = nones; means = means }

-- the part's form fits its tables
abbrev pub FitsAs : FilePart → Type 1
FitsAs p = Fit F tables p false (tables.first p) (tables.none p) (forms p)
