-- The rests of the forms of declarations, behind what was read of them.
use Rattle.std.specs.Prelude.{ℕ, Bool, List, [], ◌∷◌, Option, Some, None}
use Rattle.predictive_grammar.specs.Forms.{Form, give}
use Rattle.predictive_grammar.specs.Steps.{Parser, ◌>>=◌, pure}
use Rattle.vala_lexer.specs.Tokens.{Lexeme}
use Rattle.vala_tree.specs.declared.names.Identifier.{Identifier}
use Rattle.vala_tree.specs.declared.names.TypeTree.{TypeTree}
use Rattle.vala_tree.specs.declared.member.AttributeArgument.{AttributeArgument}
use Rattle.vala_tree.specs.declared.member.Modifier.{Modifier}
use Rattle.vala_tree.specs.declared.member.SetterWords.TheVariants as words
use Rattle.vala_grammar.specs.declared.sort.Sort.TheVariants as s
use Rattle.vala_grammar.specs.Label.{Label}
use Rattle.vala_grammar.specs.Trees as code
use Rattle.vala_grammar.specs.Parts.{AnyType, NameInTypeMore, Whole, Init, BlockOf}
use Rattle.vala_file_grammar.specs.declared.kind.Special.TheVariants as special
use Rattle.vala_file_grammar.specs.Embed.{F}
use Rattle.vala_file_grammar.specs.Trees as tree
use Rattle.vala_file_grammar.specs.Kinds.{sorted, one_of, word}
use Rattle.vala_file_grammar.specs.Parts.{Place, Outside, Inside, Plain, Signal, Method, Code, DeclarationOf, StructOf, EnumOf, ErrorsOf, DelegateOf, ConstantOf, SignalOf, NamedBy, Typed, ThrowsOf, TypeList, FieldOf, Parameters, BodyOf, Accessors, AccessorOf, AccessorWords}
use Rattle.vala_file_grammar.specs.Heads.{AProperty, ASignal, AConstruct, Another}
use Rattle.vala_file_grammar.specs.Grammar.{as_it_is, begins_name, bodied, deeper, end_with, field_or, here, is_type_sign, is_other_name, just, left_out, name_behind, of_type, one, setter, typed_method, where_one, where_token, where_told}
use Rattle.vala_file_grammar.specs.Read.{file_reader}
use Rattle.vala_parse.specs.Steps as step
use Rattle.vala_parse.specs.Names.{c_text_of}

-- ---- what begins a declaration at the top

abbrev pub last_outside : (ms : List Modifier) → Form F (DeclarationOf Outside ms)
last_outside ms =
    where_told Another ms s.Delegate (λ t. just (DelegateOf t) as_it_is)
    (where_told Another ms s.Const (λ t. just (ConstantOf t) as_it_is) (of_type Outside ms))

abbrev pub types_outside : (ms : List Modifier) → Form F (DeclarationOf Outside ms)
types_outside ms =
    where_told Another ms s.Struct (λ t. just (StructOf t) as_it_is)
    (where_told Another ms s.Enum (λ t. just (EnumOf t) as_it_is)
    (where_told Another ms s.Errordomain (λ t. just (ErrorsOf t) as_it_is) (last_outside ms)))

-- ---- what begins a declaration in a class

abbrev pub last_inside : (i : Bool) (c : List ℕ) (ms : List Modifier) → Form F (DeclarationOf (Inside i c) ms)
last_inside i c ms =
    where_told ASignal ms s.Signal (λ t. just (SignalOf t) as_it_is)
    (where_told AConstruct ms s.Construct (λ t. here (Code BlockOf) (λ b. give (tree.construction t b))) (of_type (Inside i c) ms))

-- ---- what begins with a type

abbrev pub void_or_name : (x : Place) (ms : List Modifier) → Form F (DeclarationOf x ms)
void_or_name x ms =
    where_one s.Void (λ t. just (NamedBy x ms (code.void_type None t)) as_it_is)
    (one s.Identifier (λ t. here (Code (NameInTypeMore (code.one_word t))) (λ n. begins_name x ms n)))

abbrev pub with_value : (x : Place) (ms : List Modifier) (y : TypeTree) (n : Lexeme) → Form F (Typed x ms y n)
with_value x ms y n = here (Code Init) (λ v. end_with (λ c. tree.field y n (Some v) c))

-- what is no field
abbrev pub no_field : (x : Place) (ms : List Modifier) (y : TypeTree) (n : Lexeme) → Form F (Typed x ms y n)
no_field Outside ms y n = typed_method Outside ms y n Method
no_field (Inside i c) ms y n =
    where_told AProperty ms s.OpenBrace (λ o. deeper (Accessors []) (λ xs. give (tree.property y n xs))) (typed_method (Inside i c) ms y n (bodied i))

abbrev pub field_or_more : (x : Place) (ms : List Modifier) (y : TypeTree) (n : Lexeme) → Form F (Typed x ms y n)
field_or_more x ms y n = field_or x ms y n (no_field x ms y n)

-- ---- behind the type, and behind the name

abbrev pub delegate_behind : (t : Lexeme) (y : TypeTree) (n : Lexeme) → Form F (DelegateOf t)
delegate_behind t y n = deeper (Parameters Plain) (λ ps. here ThrowsOf (λ ts. end_with (λ c. tree.delegate t (tree.signature y n ps ts) c)))

abbrev pub delegate_named : (t : Lexeme) (y : TypeTree) → Form F (DelegateOf t)
delegate_named t y = name_behind (λ n. one s.OpenParen (λ p. delegate_behind t y n))

abbrev pub constant_behind : (t : Lexeme) (y : TypeTree) (n : Lexeme) → Form F (ConstantOf t)
constant_behind t y n = left_out (sorted s.OpenBrace) (here (Code Whole) (λ v. end_with (λ c. tree.constant t y n v c)))

abbrev pub constant_named : (t : Lexeme) (y : TypeTree) → Form F (ConstantOf t)
constant_named t y = name_behind (λ n. one s.Assign (λ e. constant_behind t y n))

abbrev pub signal_named : (t : Lexeme) → Form F (SignalOf t)
signal_named t = name_behind (λ n. one s.OpenParen (λ p. deeper (Parameters Signal) (λ ps. just (BodyOf Method) (λ b. tree.signal t n ps b))))

abbrev pub field_named : (ms : List Modifier) (y : TypeTree) → Form F (FieldOf ms)
field_named ms y = name_behind (λ n. left_out (one_of (s.OpenParen ∷ s.Assign ∷ [])) (end_with (λ c. tree.member [] ms (tree.field y n None c))))

abbrev pub field_behind : (ms : List Modifier) → Form F (FieldOf ms)
field_behind ms = here (Code AnyType) (λ y. field_named ms y)

-- ---- accessors

abbrev pub set_words : (m : Option Lexeme) (t : Lexeme) → Form F (AccessorWords m)
set_words m t = where_one s.Construct (λ u. setter t (words.SetConstruct t.span u.span)) (setter t (words.Set t.span))

abbrev pub construct_words : (m : Option Lexeme) (t : Lexeme) → Form F (AccessorWords m)
construct_words m t = where_token (word special.Set) (λ u. setter t (words.ConstructSet t.span u.span)) (setter t (words.Construct t.span))

abbrev pub setter_words : (m : Option Lexeme) → Form F (AccessorWords m)
setter_words m = where_token (word special.Set) (set_words m) (one s.Construct (construct_words m))

abbrev pub default_of : Lexeme → Form F AccessorOf
default_of t = one s.Assign (λ e. here (Code Whole) (λ v. end_with (λ c. tree.default_value t v c)))

-- ---- bodies

-- `;` in the place of a block
unfoldable pub semicolon_of : ℕ → Parser Label Lexeme tree.Ending
semicolon_of l = step.one s.Semicolon l >>= λ c. pure (record { block = None; last = c.span })

-- `construct` and a block, behind the word
unfoldable pub construction_of : Lexeme → ℕ → Parser Label Lexeme tree.Declared
construction_of t l = file_reader (Code BlockOf) l >>= λ b. pure (tree.construction t b)

-- ---- lists

-- a code of an error domain
unfoldable pub error_code_of : ℕ → Parser Label Lexeme Identifier
error_code_of l = step.one s.Identifier l >>= λ t. pure (code.identifier t)

-- a type of a list
unfoldable pub listed_type : ℕ → Parser Label Lexeme TypeTree
listed_type l = file_reader (Code AnyType) l >>= λ y. step.way is_type_sign step.leave (pure y)

-- what follows these types
unfoldable pub types_behind : List TypeTree → ℕ → Parser Label Lexeme (List TypeTree)
types_behind ys l = step.way (sorted s.Comma) (step.one s.Comma l >>= λ t. file_reader (TypeList ys) l >>= pure) (pure ys)

-- the value of an argument behind its name
unfoldable pub file_name_of : Lexeme → ℕ → Parser Label Lexeme AttributeArgument
file_name_of n l = step.one s.Assign l >>= λ e. step.one s.Text l >>= λ t. pure (tree.attribute_argument n t)

unfoldable pub c_name_of : Lexeme → ℕ → Parser Label Lexeme AttributeArgument
c_name_of n l = step.one s.Assign l >>= λ e. c_text_of l >>= λ t. pure (tree.attribute_argument n t)

-- an argument of an attribute
unfoldable pub argument_of : ℕ → Parser Label Lexeme AttributeArgument
argument_of l =
    step.way (is_other_name (special.HeaderFilename ∷ special.CName ∷ [])) step.leave
    (step.way (word special.HeaderFilename) (step.got (word special.HeaderFilename) 0 l >>= λ n. file_name_of n l) (step.got (word special.CName) 0 l >>= λ n. c_name_of n l))
