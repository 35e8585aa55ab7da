-- The table of the rules.
use Rattle.std.specs.Prelude.{ℕ, ◌==◌, if◌then◌else◌, List, [], ◌∷◌, codes}
use Rattle.static_rules.specs.declared.rules.Rule.{Rule}
use Rattle.static_rules.specs.declared.rules.Rule.TheVariants.{M1, M2, L1, L2, L3, L4, M4, S1, S2, M5, U1, M3, N2, N5, N6, T5, T6, T7, N1, N3, N4, T1, T2, T3, T4, T8, T9, T10, T11, T12, T13, T14, F1, F2, F3, F4, F5, X1, X2, X3, A1, A2, A3, A4, O1, O2, O3, O4, O5, O6}

-- one row: its number, the phases in which its rule is looked at, the rule's name, and what it says
pub record Row : Type 0 where
  pub number : ℕ
  pub phases : List ℕ
  pub name : List ℕ
  pub text : List ℕ

-- the table; U1 has a row of its own in phase 4, the one numbered 33
abbrev pub row_of : Rule → Row
row_of M1 = record { number = 1; phases = 1 ∷ []; name = codes "M1"; text = codes "file too large" }
row_of M2 = record { number = 2; phases = 1 ∷ []; name = codes "M2"; text = codes "too many files" }
row_of L1 = record { number = 3; phases = 1 ∷ []; name = codes "L1"; text = codes "bad byte" }
row_of L2 = record { number = 4; phases = 1 ∷ []; name = codes "L2"; text = codes "text, character or comment without end" }
row_of L3 = record { number = 5; phases = 1 ∷ []; name = codes "L3"; text = codes "bad escape" }
row_of L4 = record { number = 6; phases = 1 ∷ []; name = codes "L4"; text = codes "number out of range" }
row_of M4 = record { number = 7; phases = 1 ∷ []; name = codes "M4"; text = codes "identifier too long" }
row_of S1 = record { number = 8; phases = 1 ∷ []; name = codes "S1"; text = codes "unexpected token" }
row_of S2 = record { number = 9; phases = 1 ∷ []; name = codes "S2"; text = codes "nesting too deep" }
row_of M5 = record { number = 10; phases = 1 ∷ []; name = codes "M5"; text = codes "too many parameters or arguments" }
row_of U1 = record { number = 11; phases = 1 ∷ 4 ∷ []; name = codes "U1"; text = codes "not in this profile" }
row_of M3 = record { number = 12; phases = 2 ∷ []; name = codes "M3"; text = codes "too many symbols" }
row_of N2 = record { number = 13; phases = 2 ∷ []; name = codes "N2"; text = codes "declared twice, or two declarations with one C name" }
row_of N5 = record { number = 14; phases = 2 ∷ []; name = codes "N5"; text = codes "no main method, or more than one" }
row_of N6 = record { number = 15; phases = 2 ∷ []; name = codes "N6"; text = codes "cycle of bases or of struct fields" }
row_of T5 = record { number = 16; phases = 3 ∷ []; name = codes "T5"; text = codes "base of the wrong kind" }
row_of T6 = record { number = 17; phases = 3 ∷ []; name = codes "T6"; text = codes "override does not match a virtual member" }
row_of T7 = record { number = 18; phases = 3 ∷ []; name = codes "T7"; text = codes "abstract member is left without a body" }
row_of N1 = record { number = 19; phases = 4 ∷ []; name = codes "N1"; text = codes "unknown name" }
row_of N3 = record { number = 20; phases = 4 ∷ []; name = codes "N3"; text = codes "ambiguous name" }
row_of N4 = record { number = 21; phases = 4 ∷ []; name = codes "N4"; text = codes "not accessible" }
row_of T1 = record { number = 22; phases = 4 ∷ []; name = codes "T1"; text = codes "value does not fit the place" }
row_of T2 = record { number = 23; phases = 4 ∷ []; name = codes "T2"; text = codes "operator does not take these types" }
row_of T3 = record { number = 24; phases = 4 ∷ []; name = codes "T3"; text = codes "wrong arguments: number, out or ref, property name, or a base without a creation method free of parameters" }
row_of T4 = record { number = 25; phases = 4 ∷ []; name = codes "T4"; text = codes "not usable here: a type as value, a value as type or called without being callable" }
row_of T8 = record { number = 26; phases = 4 ∷ []; name = codes "T8"; text = codes "abstract class or interface created" }
row_of T9 = record { number = 27; phases = 4 ∷ []; name = codes "T9"; text = codes "not assignable" }
row_of T10 = record { number = 28; phases = 4 ∷ []; name = codes "T10"; text = codes "instance member without an instance" }
row_of T11 = record { number = 29; phases = 4 ∷ []; name = codes "T11"; text = codes "type cannot be inferred" }
row_of T12 = record { number = 30; phases = 4 ∷ []; name = codes "T12"; text = codes "return does not match the method" }
row_of T13 = record { number = 31; phases = 4 ∷ []; name = codes "T13"; text = codes "format does not match the arguments" }
row_of T14 = record { number = 32; phases = 4 ∷ []; name = codes "T14"; text = codes "constant expected" }
row_of F1 = record { number = 34; phases = 5 ∷ []; name = codes "F1"; text = codes "used before it is assigned" }
row_of F2 = record { number = 35; phases = 5 ∷ []; name = codes "F2"; text = codes "end is reached without return or break" }
row_of F3 = record { number = 36; phases = 5 ∷ []; name = codes "F3"; text = codes "jump outside a loop or switch" }
row_of F4 = record { number = 37; phases = 5 ∷ []; name = codes "F4"; text = codes "null may go into a place without ?" }
row_of F5 = record { number = 38; phases = 5 ∷ []; name = codes "F5"; text = codes "label twice in a switch" }
row_of X1 = record { number = 39; phases = 5 ∷ []; name = codes "X1"; text = codes "error is neither caught nor declared; in main also a declared one" }
row_of X2 = record { number = 40; phases = 5 ∷ []; name = codes "X2"; text = codes "not an error type, or already caught" }
row_of X3 = record { number = 41; phases = 5 ∷ []; name = codes "X3"; text = codes "jump leaves a finally block" }
row_of A1 = record { number = 42; phases = 5 ∷ []; name = codes "A1"; text = codes "yield outside an async method" }
row_of A2 = record { number = 43; phases = 5 ∷ []; name = codes "A2"; text = codes "async method called without begin or yield, or begin, end or callback of a plain one" }
row_of A3 = record { number = 44; phases = 5 ∷ []; name = codes "A3"; text = codes "yield inside a finally block" }
row_of A4 = record { number = 45; phases = 5 ∷ []; name = codes "A4"; text = codes "callback used outside its method" }
row_of O1 = record { number = 46; phases = 6 ∷ []; name = codes "O1"; text = codes "fresh value goes into an unowned place" }
row_of O2 = record { number = 47; phases = 6 ∷ []; name = codes "O2"; text = codes "delegate cannot be copied" }
row_of O3 = record { number = 48; phases = 6 ∷ []; name = codes "O3"; text = codes "owned of a place that owns nothing" }
row_of O4 = record { number = 49; phases = 6 ∷ []; name = codes "O4"; text = codes "owned local returned as unowned" }
row_of O5 = record { number = 50; phases = 6 ∷ []; name = codes "O5"; text = codes "this or a captured variable moved, or a ref or out parameter captured" }
row_of O6 = record { number = 51; phases = 6 ∷ []; name = codes "O6"; text = codes "owned out parameter left unset" }

-- a rule's row in a phase: in phase 4 that of U1 stands behind T14
abbrev pub row_number : ℕ → Rule → ℕ
row_number phase U1 = if phase == 4 then 33 else 11
row_number phase rule = (row_of rule).number
