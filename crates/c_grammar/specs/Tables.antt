-- What is said of the parts, for reading them by one token of lookahead.
use Rattle.std.specs.Prelude.{◌≡◌, ℕ, suc, not, true, false, ◌&&◌, ◌||◌, [], None}
use Rattle.predictive_grammar.specs.Fit.{Tables}
use Rattle.c_lexer.specs.declared.token.Keyword.TheVariants as keyword
use Rattle.c_lexer.specs.declared.token.Sign.TheVariants as sign
use Rattle.c_tree.specs.declared.operators.Level.{Level}
use Rattle.c_tree.specs.declared.operators.Level.TheVariants as level
use Rattle.c_tree.specs.declared.code.Stmt.TheVariants as stmt
use Rattle.c_grammar.specs.Sorts.{Name, Number, on}
use Rattle.c_grammar.specs.Tests.{Set, is, sign_is, word_is, begins_type, goes_on_type, goes_on_local, begins_key_type, begins_plain, begins_statement, begins_body, goes_on_statement, begins_assigned, begins_item, is_int_base, is_char_base, links, links_up_to, level_number, begins_primary, begins_unnamed, begins_prefixed, begins_place, begins_suffix}
use Rattle.c_grammar.specs.Trees.{type_of, no_stars, unnamed_parameter}
use Rattle.c_grammar.specs.Parts.{What, Part, tree_of, Consts, Stars, TypeRest, TypeMore, AnyType, Value, Choosing, ChoosingTail, Upto, Links, Operand, Prefixed, Place, Primary, Unnamed, Suffixes, Arguments, MoreArguments, KeyType, LocalOf, LocalRest, SignedNumberOf, GotoOf, Cases, BlockOf, Body, Statements, Statement, PlainStmt, NamedStmt, ValueStmt, Assigned, AssignedTail, ElseOf, MemberOf, Members, MoreMembers, Fields, ParameterOf, ParameterEnd, MoreParameters, ParametersOf, IntType, TextsType, TableInside, DeclaredOf, TypedEnd, StaticEnd, InfoEnd, StaticRest, TypedefRest, ItemOf, ItemsOf}
use Rattle.c_grammar.specs.Grammar.{C}

-- what goes on with an operand: suffixes and signs between operands, up to a level
abbrev pub goes_on_upto : Level → Set
goes_on_upto l c = begins_suffix true c || links_up_to l c

-- what goes on with a value
abbrev pub goes_on_value : Set
goes_on_value c = goes_on_upto level.Or c || sign_is sign.Question c

-- what goes on with an operand and its suffixes
abbrev pub goes_on_choice : Set
goes_on_choice c = links_up_to level.Or c || sign_is sign.Question c

-- which classes begin a text of a part that has tokens
abbrev pub first_of : What → Set
first_of Consts c = word_is keyword.Const c
first_of (Stars must) c = sign_is sign.Star c
first_of (TypeRest u t must) c = goes_on_type c
first_of (TypeMore u t) c = goes_on_type c
first_of (AnyType anyhow object) c = begins_type anyhow c
first_of (Value k) c = begins_prefixed k c
first_of (Choosing k) c = begins_prefixed k c
first_of (ChoosingTail k a) c = goes_on_choice c
first_of (Upto l k a) c = links_up_to l c
first_of (Links l k) c = links l c
first_of (Operand l k) c = begins_prefixed k c
first_of (Prefixed k) c = begins_prefixed k c
first_of Place c = begins_place c
first_of (Primary k) c = begins_primary k c
first_of Unnamed c = begins_unnamed c
first_of (Suffixes dot must) c = begins_suffix dot c
first_of Arguments c = begins_prefixed false c
first_of MoreArguments c = sign_is sign.Comma c
first_of KeyType c = begins_key_type c
first_of LocalOf c = begins_type true c
first_of (LocalRest t) c = goes_on_local c
first_of SignedNumberOf c = sign_is sign.Minus c || is Number c
first_of GotoOf c = word_is keyword.Goto c
first_of Cases c = word_is keyword.Case c || word_is keyword.Default c
first_of BlockOf c = sign_is sign.OpenBrace c
first_of Body c = begins_body c
first_of Statements c = begins_statement c
first_of Statement c = begins_statement c
first_of PlainStmt c = begins_plain c
first_of (NamedStmt t) c = sign_is sign.Colon c || goes_on_statement c
first_of (ValueStmt a) c = goes_on_statement c
first_of (Assigned b) c = begins_assigned c
first_of (AssignedTail b a) c = goes_on_value c || sign_is sign.OpenParen c || sign_is sign.Semicolon c
first_of (ElseOf a b) c = word_is keyword.Else c
first_of MemberOf c = is Name c
first_of Members c = is Name c
first_of MoreMembers c = sign_is sign.Comma c
first_of Fields c = begins_type true c
first_of ParameterOf c = begins_type true c
first_of (ParameterEnd t) c = is Name c
first_of MoreParameters c = sign_is sign.Comma c
first_of (ParametersOf main) c = begins_type true c
first_of IntType c = word_is keyword.Const c || is_int_base c
first_of TextsType c = word_is keyword.Const c || is_char_base c
first_of TableInside c = sign_is sign.OpenParen c
first_of (DeclaredOf b t n from) c = sign_is sign.OpenParen c
first_of (TypedEnd t) c = is Name c
first_of (StaticEnd s t) c = is Name c
first_of (InfoEnd t k i) c = is Name c || goes_on_type c
first_of (StaticRest t) c = begins_type true c || is Name c
first_of (TypedefRest t) c = word_is keyword.Struct c || word_is keyword.Enum c || begins_type true c
first_of (ItemOf line) c = begins_item line c
first_of (ItemsOf line) c = true

-- which it surely takes: all of these, but where that is not asked
abbrev pub opens_of : What → Set
opens_of (ChoosingTail k a) c = false
opens_of (Upto l k a) c = false
opens_of (NamedStmt t) c = false
opens_of (ValueStmt a) c = false
opens_of (AssignedTail b a) c = false
opens_of Body c = false
opens_of (ParameterEnd t) c = false
opens_of (ParametersOf main) c = false
opens_of (TypedEnd t) c = false
opens_of (StaticEnd s t) c = false
opens_of (InfoEnd t k i) c = false
opens_of (StaticRest t) c = false
opens_of (ItemsOf line) c = false
opens_of w c = first_of w c

-- which tree it has where it is empty
abbrev pub none_of : (w : What) → tree_of w → Type 0
none_of Consts x = x ≡ []
none_of (Stars false) x = x ≡ no_stars
none_of (TypeRest u t false) x = x ≡ type_of u t [] no_stars
none_of (ChoosingTail k a) x = x ≡ ([], a)
none_of (Upto l k a) x = x ≡ a
none_of (Links l k) x = x ≡ []
none_of (Suffixes dot false) x = x ≡ []
none_of Arguments x = x ≡ []
none_of MoreArguments x = x ≡ []
none_of Body x = x ≡ ([], [])
none_of Statements x = x ≡ []
none_of (ElseOf a b) x = x ≡ stmt.If a b None
none_of MoreMembers x = x ≡ []
none_of Fields x = x ≡ []
none_of (ParameterEnd c) x = x ≡ unnamed_parameter c
none_of MoreParameters x = x ≡ []
none_of (ItemsOf line) x = x ≡ []
none_of w x = ⊥

-- in front of which classes it ends
abbrev pub stop_of : What → Set
stop_of Consts c = not (word_is keyword.Const c)
stop_of (Stars must) c = not (goes_on_type c)
stop_of (TypeRest u t must) c = not (goes_on_type c)
stop_of (TypeMore u t) c = not (goes_on_type c)
stop_of (AnyType anyhow object) c = not (goes_on_type c)
stop_of (Value k) c = not (goes_on_value c)
stop_of (Choosing k) c = not (goes_on_value c)
stop_of (ChoosingTail k a) c = not (goes_on_value c)
stop_of (Upto l k a) c = not (goes_on_upto l c)
stop_of (Links l k) c = not (goes_on_upto l c)
stop_of (Operand l k) c = not (begins_suffix true c) && (not (links_up_to l c) || links l c)
stop_of (Prefixed k) c = not (begins_suffix true c)
stop_of Place c = not (begins_suffix true c)
stop_of (Primary k) c = true
stop_of Unnamed c = true
stop_of (Suffixes dot must) c = not (begins_suffix true c)
stop_of Arguments c = sign_is sign.CloseParen c
stop_of MoreArguments c = sign_is sign.CloseParen c
stop_of KeyType c = not (goes_on_type c)
stop_of Body c = sign_is sign.CloseBrace c
stop_of Statements c = sign_is sign.CloseBrace c
stop_of Statement c = not (word_is keyword.Else c)
stop_of PlainStmt c = not (word_is keyword.Else c)
stop_of (ElseOf a b) c = not (word_is keyword.Else c)
stop_of Members c = not (sign_is sign.Comma c)
stop_of MoreMembers c = not (sign_is sign.Comma c)
stop_of Fields c = sign_is sign.CloseBrace c
stop_of ParameterOf c = not (goes_on_type c || is Name c)
stop_of (ParameterEnd t) c = not (is Name c)
stop_of MoreParameters c = sign_is sign.CloseParen c
stop_of (ParametersOf main) c = sign_is sign.CloseParen c
stop_of IntType c = not (word_is keyword.Const c)
stop_of TextsType c = not (word_is keyword.Const c)
stop_of (ItemsOf line) c = false
stop_of w c = true

-- how far a part stands above those that it asks for first
abbrev pub rank_of : What → ℕ
rank_of Consts = 0
rank_of (Stars must) = 0
rank_of (TypeRest u t must) = 1
rank_of (TypeMore u t) = 1
rank_of (AnyType anyhow object) = 2
rank_of (Upto l k a) = suc (level_number l)
rank_of (ChoosingTail k a) = 11
rank_of Place = 3
rank_of (Primary k) = 1
rank_of (Prefixed k) = 3
rank_of (Operand l k) = 4
rank_of (Choosing k) = 12
rank_of (Value k) = 13
rank_of Arguments = 14
rank_of KeyType = 2
rank_of LocalOf = 3
rank_of (LocalRest t) = 2
rank_of PlainStmt = 1
rank_of Statement = 2
rank_of Statements = 3
rank_of Body = 4
rank_of (NamedStmt t) = 14
rank_of (ValueStmt a) = 12
rank_of (AssignedTail b a) = 12
rank_of (Assigned b) = 14
rank_of Members = 1
rank_of Fields = 4
rank_of ParameterOf = 3
rank_of (ParametersOf main) = 4
rank_of IntType = 2
rank_of TextsType = 2
rank_of (TypedefRest t) = 3
rank_of (InfoEnd t k i) = 2
rank_of (ItemOf line) = 4
rank_of (ItemsOf line) = 5
rank_of w = 0

abbrev pub tables : Tables C
tables = record {
  first = λ (p : Part). on p.names (first_of p.what);
  opens = λ (p : Part). on p.names (opens_of p.what);
  none = λ (p : Part) (x : tree_of p.what). none_of p.what x;
  stop = λ (p : Part) (x : tree_of p.what). on p.names (stop_of p.what);
  rank = λ (p : Part). rank_of p.what;
  top = 14;
}
