-- The trees of the texts without tokens.
use Rattle.std.proofs.Common.{true, false, [], None}
use Rattle.c_tree.specs.declared.code.Stmt.TheVariants as stmt
use Rattle.predictive_grammar.proofs.Fits.{Nones, never, only, Among}
use Rattle.c_grammar.specs.Trees.{type_of, no_stars, unnamed_parameter}
use Rattle.c_grammar.specs.Parts.{What, tree_of, Consts, Stars, TypeRest, ChoosingTail, Upto, Links, Suffixes, Arguments, MoreArguments, Body, Statements, ElseOf, MoreMembers, Fields, ParameterEnd, MoreParameters, ItemsOf}
use Rattle.c_grammar.specs.Tables.{none_of}

abbrev pub nones : (w : What) → Nones (tree_of w)
nones Consts = only []
nones (Stars false) = only no_stars
nones (TypeRest u t false) = only (type_of u t [] no_stars)
nones (ChoosingTail k a) = only ([], a)
nones (Upto l k a) = only a
nones (Links l k) = only []
nones (Suffixes dot false) = only []
nones Arguments = only []
nones MoreArguments = only []
nones Body = only ([], [])
nones Statements = only []
nones (ElseOf a b) = only (stmt.If a b None)
nones MoreMembers = only []
nones Fields = only []
nones (ParameterEnd c) = only (unnamed_parameter c)
nones MoreParameters = only []
nones (ItemsOf line) = only []
nones w = never

pub means : (w : What) (a : tree_of w) → none_of w a → Among (nones w) a
means (Stars true) a e = e
means (Stars false) a e = e
means (TypeRest u t true) a e = e
means (TypeRest u t false) a e = e
means (Suffixes dot true) a e = e
means (Suffixes dot false) a e = e
means Consts a e = e
means _ a e = e
