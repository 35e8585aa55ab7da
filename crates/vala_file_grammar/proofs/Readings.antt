-- Readings of short texts, computed. A bar stands in front of the first token that is not read.
use Rattle.std.proofs.Common.{◌≡◌, refl, List, [], ◌∷◌, Some, None, Ok, Err, codes, ℕ}
use Rattle.predictive_grammar.specs.Steps.{Outcome, Syntax, LeftOut, Nesting, Number}
use Rattle.vala_grammar.specs.Label.{Label, Here}
use Rattle.predictive_grammar.specs.Reading.{reader, walk, run}
use Rattle.vala_lexer.specs.Tokens.{Lexeme}
use Rattle.vala_lexer.specs.declared.token.TokenKind.TheVariants as k
use Rattle.vala_tree.specs.declared.member.SetterWords.TheVariants as words
use Rattle.vala_grammar.specs.declared.sort.Sort.TheVariants as s
use Rattle.vala_grammar.specs.Trees as code
use Rattle.vala_grammar.specs.Grammar as code_grammar
use Rattle.vala_file_grammar.specs.Kinds.{Of, CText}
use Rattle.vala_file_grammar.specs.Trees as tree
use Rattle.vala_file_grammar.specs.Trees.{FileText}
use Rattle.vala_file_grammar.specs.Parts.{File}
use Rattle.vala_file_grammar.specs.Embed.{F}
use Rattle.vala_file_grammar.specs.Grammar.{forms}
use Rattle.vala_file_grammar.specs.Tables.{tables}
use Rattle.vala_file_grammar.specs.Read.{file_reader}
use Rattle.vala_file_grammar.proofs.Finite.{sample}

abbrev word : List ℕ → Lexeme
word x = record { kind = k.Identifier; text = x; span = record { file = 0; start = 0; «end» = 0 } }

abbrev file : List Lexeme → Outcome Label Lexeme FileText
file i = file_reader File 0 i

-- under smaller limits
abbrev small : List Lexeme → Outcome Label Lexeme FileText
small i = reader F forms tables.top tables.rank (record { levels = 3; items = 2 }) File 0 i

abbrev s_Assign : Lexeme
s_Assign = sample (Of s.Assign)

abbrev s_Async : Lexeme
s_Async = sample (Of s.Async)

abbrev c_text : Lexeme
c_text = sample CText

abbrev s_Class : Lexeme
s_Class = sample (Of s.Class)

abbrev s_CloseBrace : Lexeme
s_CloseBrace = sample (Of s.CloseBrace)

abbrev s_CloseBracket : Lexeme
s_CloseBracket = sample (Of s.CloseBracket)

abbrev s_CloseParen : Lexeme
s_CloseParen = sample (Of s.CloseParen)

abbrev s_Colon : Lexeme
s_Colon = sample (Of s.Colon)

abbrev s_Comma : Lexeme
s_Comma = sample (Of s.Comma)

abbrev s_Const : Lexeme
s_Const = sample (Of s.Const)

abbrev s_Construct : Lexeme
s_Construct = sample (Of s.Construct)

abbrev s_Delegate : Lexeme
s_Delegate = sample (Of s.Delegate)

abbrev s_Dot : Lexeme
s_Dot = sample (Of s.Dot)

abbrev s_Enum : Lexeme
s_Enum = sample (Of s.Enum)

abbrev s_Errordomain : Lexeme
s_Errordomain = sample (Of s.Errordomain)

abbrev s_Interface : Lexeme
s_Interface = sample (Of s.Interface)

abbrev s_Less : Lexeme
s_Less = sample (Of s.Less)

abbrev s_Namespace : Lexeme
s_Namespace = sample (Of s.Namespace)

abbrev s_New : Lexeme
s_New = sample (Of s.New)

abbrev s_OpenBrace : Lexeme
s_OpenBrace = sample (Of s.OpenBrace)

abbrev s_OpenBracket : Lexeme
s_OpenBracket = sample (Of s.OpenBracket)

abbrev s_OpenParen : Lexeme
s_OpenParen = sample (Of s.OpenParen)

abbrev s_Out : Lexeme
s_Out = sample (Of s.Out)

abbrev s_Owned : Lexeme
s_Owned = sample (Of s.Owned)

abbrev s_Public : Lexeme
s_Public = sample (Of s.Public)

abbrev s_Semicolon : Lexeme
s_Semicolon = sample (Of s.Semicolon)

abbrev s_Signal : Lexeme
s_Signal = sample (Of s.Signal)

abbrev s_Struct : Lexeme
s_Struct = sample (Of s.Struct)

abbrev s_Text : Lexeme
s_Text = sample (Of s.Text)

abbrev s_Throws : Lexeme
s_Throws = sample (Of s.Throws)

abbrev s_Using : Lexeme
s_Using = sample (Of s.Using)

abbrev s_Void : Lexeme
s_Void = sample (Of s.Void)

abbrev w_CCode : Lexeme
w_CCode = word (codes "CCode")

abbrev w_b : Lexeme
w_b = word (codes "b")

abbrev w_c : Lexeme
w_c = word (codes "c")

abbrev w_cname : Lexeme
w_cname = word (codes "cname")

abbrev w_f : Lexeme
w_f = word (codes "f")

abbrev w_get : Lexeme
w_get = word (codes "get")

abbrev w_int : Lexeme
w_int = word (codes "int")

abbrev w_set : Lexeme
w_set = word (codes "set")

abbrev w_x : Lexeme
w_x = word (codes "x")

-- ``
nothing : file ([]) ≡ Ok (record { usings = []; members = [] }, [])
unfolding reader run walk forms code_grammar.forms
nothing = refl

-- `int x ;`
field : file (w_int ∷ w_x ∷ s_Semicolon ∷ []) ≡ Ok (record { usings = []; members = tree.member ([]) ([]) (tree.field (code.single_type None (code.one_word w_int) None) w_x None s_Semicolon) ∷ [] }, [])
unfolding reader run walk forms code_grammar.forms
field = refl

-- `using x . b , c ;`
using_names : file (s_Using ∷ w_x ∷ s_Dot ∷ w_b ∷ s_Comma ∷ w_c ∷ s_Semicolon ∷ []) ≡ Ok (record { usings = code.one_more_word (code.one_word w_x) w_b ∷ code.one_word w_c ∷ []; members = [] }, [])
unfolding reader run walk forms code_grammar.forms
using_names = refl

-- `int x ; | }`
brace_ends_the_file : file (w_int ∷ w_x ∷ s_Semicolon ∷ s_CloseBrace ∷ []) ≡ Ok (record { usings = []; members = tree.member ([]) ([]) (tree.field (code.single_type None (code.one_word w_int) None) w_x None s_Semicolon) ∷ [] }, s_CloseBrace ∷ [])
unfolding reader run walk forms code_grammar.forms
brace_ends_the_file = refl

-- `[ CCode ( cname = "a" ) ] public int x ;`
attribute_and_modifier : file (s_OpenBracket ∷ w_CCode ∷ s_OpenParen ∷ w_cname ∷ s_Assign ∷ c_text ∷ s_CloseParen ∷ s_CloseBracket ∷ s_Public ∷ w_int ∷ w_x ∷ s_Semicolon ∷ []) ≡ Ok (record { usings = []; members = tree.member (tree.attribute s_OpenBracket (tree.attribute_argument w_cname c_text ∷ []) s_CloseBracket ∷ []) (tree.modifier s_Public ∷ []) (tree.field (code.single_type None (code.one_word w_int) None) w_x None s_Semicolon) ∷ [] }, [])
unfolding reader run walk forms code_grammar.forms
attribute_and_modifier = refl

-- `[ | x ]`
attribute_of_another_name : file (s_OpenBracket ∷ w_x ∷ s_CloseBracket ∷ []) ≡ Err (LeftOut Here, w_x ∷ s_CloseBracket ∷ [])
unfolding reader run walk forms code_grammar.forms
attribute_of_another_name = refl

-- `[ CCode ( | x = "a"`
argument_of_another_name : file (s_OpenBracket ∷ w_CCode ∷ s_OpenParen ∷ w_x ∷ s_Assign ∷ c_text ∷ []) ≡ Err (LeftOut Here, w_x ∷ s_Assign ∷ c_text ∷ [])
unfolding reader run walk forms code_grammar.forms
argument_of_another_name = refl

-- `[ CCode ( cname = | "" )`
text_is_no_c_identifier : file (s_OpenBracket ∷ w_CCode ∷ s_OpenParen ∷ w_cname ∷ s_Assign ∷ s_Text ∷ s_CloseParen ∷ []) ≡ Err (LeftOut Here, s_Text ∷ s_CloseParen ∷ [])
unfolding reader run walk forms code_grammar.forms
text_is_no_c_identifier = refl

-- `[ CCode ( cname = | x )`
argument_is_no_text : file (s_OpenBracket ∷ w_CCode ∷ s_OpenParen ∷ w_cname ∷ s_Assign ∷ w_x ∷ s_CloseParen ∷ []) ≡ Err (Syntax, w_x ∷ s_CloseParen ∷ [])
unfolding reader run walk forms code_grammar.forms
argument_is_no_text = refl

-- `void f ( out int x ) ;`
method : file (s_Void ∷ w_f ∷ s_OpenParen ∷ s_Out ∷ w_int ∷ w_x ∷ s_CloseParen ∷ s_Semicolon ∷ []) ≡ Ok (record { usings = []; members = tree.member ([]) ([]) (tree.method (code.void_type None s_Void) w_f (tree.parameter (Some s_Out) (code.single_type None (code.one_word w_int) None) w_x ∷ []) [] (record { block = None; last = s_Semicolon.span })) ∷ [] }, [])
unfolding reader run walk forms code_grammar.forms
method = refl

-- `async void f ( | out int x`
out_in_an_async_method : file (s_Async ∷ s_Void ∷ w_f ∷ s_OpenParen ∷ s_Out ∷ w_int ∷ w_x ∷ []) ≡ Err (LeftOut Here, s_Out ∷ w_int ∷ w_x ∷ [])
unfolding reader run walk forms code_grammar.forms
out_in_an_async_method = refl

-- `public | new int`
new_among_modifiers : file (s_Public ∷ s_New ∷ w_int ∷ []) ≡ Err (LeftOut Here, s_New ∷ w_int ∷ [])
unfolding reader run walk forms code_grammar.forms
new_among_modifiers = refl

-- `| new int`
new_first : file (s_New ∷ w_int ∷ []) ≡ Err (LeftOut Here, s_New ∷ w_int ∷ [])
unfolding reader run walk forms code_grammar.forms
new_first = refl

-- `class c { c ( ) ; }`
creation_method : file (s_Class ∷ w_c ∷ s_OpenBrace ∷ w_c ∷ s_OpenParen ∷ s_CloseParen ∷ s_Semicolon ∷ s_CloseBrace ∷ []) ≡ Ok (record { usings = []; members = tree.member ([]) ([]) (tree.class s_Class (code.one_word w_c) [] (record { list = tree.member ([]) ([]) (tree.creation (code.one_word w_c) [] [] (record { block = None; last = s_Semicolon.span })) ∷ []; close = s_CloseBrace.span })) ∷ [] }, [])
unfolding reader run walk forms code_grammar.forms
creation_method = refl

-- `class c { c . x ( ) ; }`
named_creation_method : file (s_Class ∷ w_c ∷ s_OpenBrace ∷ w_c ∷ s_Dot ∷ w_x ∷ s_OpenParen ∷ s_CloseParen ∷ s_Semicolon ∷ s_CloseBrace ∷ []) ≡ Ok (record { usings = []; members = tree.member ([]) ([]) (tree.class s_Class (code.one_word w_c) [] (record { list = tree.member ([]) ([]) (tree.creation (code.one_more_word (code.one_word w_c) w_x) [] [] (record { block = None; last = s_Semicolon.span })) ∷ []; close = s_CloseBrace.span })) ∷ [] }, [])
unfolding reader run walk forms code_grammar.forms
named_creation_method = refl

-- `class c { c x ; }`
field_of_the_class_itself : file (s_Class ∷ w_c ∷ s_OpenBrace ∷ w_c ∷ w_x ∷ s_Semicolon ∷ s_CloseBrace ∷ []) ≡ Ok (record { usings = []; members = tree.member ([]) ([]) (tree.class s_Class (code.one_word w_c) [] (record { list = tree.member ([]) ([]) (tree.field (code.single_type None (code.one_word w_c) None) w_x None s_Semicolon) ∷ []; close = s_CloseBrace.span })) ∷ [] }, [])
unfolding reader run walk forms code_grammar.forms
field_of_the_class_itself = refl

-- `class c { x | ( ) ; }`
name_of_no_creation_method : file (s_Class ∷ w_c ∷ s_OpenBrace ∷ w_x ∷ s_OpenParen ∷ s_CloseParen ∷ s_Semicolon ∷ s_CloseBrace ∷ []) ≡ Err (Syntax, s_OpenParen ∷ s_CloseParen ∷ s_Semicolon ∷ s_CloseBrace ∷ [])
unfolding reader run walk forms code_grammar.forms
name_of_no_creation_method = refl

-- `c | ( ) ;`
creation_method_outside : file (w_c ∷ s_OpenParen ∷ s_CloseParen ∷ s_Semicolon ∷ []) ≡ Err (Syntax, s_OpenParen ∷ s_CloseParen ∷ s_Semicolon ∷ [])
unfolding reader run walk forms code_grammar.forms
creation_method_outside = refl

-- `class c { public | class x {`
class_in_a_class : file (s_Class ∷ w_c ∷ s_OpenBrace ∷ s_Public ∷ s_Class ∷ w_x ∷ s_OpenBrace ∷ []) ≡ Err (LeftOut Here, s_Class ∷ w_x ∷ s_OpenBrace ∷ [])
unfolding reader run walk forms code_grammar.forms
class_in_a_class = refl

-- `namespace x { class c { } }`
class_in_a_namespace : file (s_Namespace ∷ w_x ∷ s_OpenBrace ∷ s_Class ∷ w_c ∷ s_OpenBrace ∷ s_CloseBrace ∷ s_CloseBrace ∷ []) ≡ Ok (record { usings = []; members = tree.member ([]) ([]) (tree.namespace s_Namespace (code.one_word w_x) (record { list = tree.member ([]) ([]) (tree.class s_Class (code.one_word w_c) [] (record { list = []; close = s_CloseBrace.span })) ∷ []; close = s_CloseBrace.span })) ∷ [] }, [])
unfolding reader run walk forms code_grammar.forms
class_in_a_namespace = refl

-- `class c : x | < int`
generic_base : file (s_Class ∷ w_c ∷ s_Colon ∷ w_x ∷ s_Less ∷ w_int ∷ []) ≡ Err (LeftOut Here, s_Less ∷ w_int ∷ [])
unfolding reader run walk forms code_grammar.forms
generic_base = refl

-- `class c | < int`
generic_class : file (s_Class ∷ w_c ∷ s_Less ∷ w_int ∷ []) ≡ Err (Syntax, s_Less ∷ w_int ∷ [])
unfolding reader run walk forms code_grammar.forms
generic_class = refl

-- `class c { int x | throws f {`
property_that_throws : file (s_Class ∷ w_c ∷ s_OpenBrace ∷ w_int ∷ w_x ∷ s_Throws ∷ w_f ∷ s_OpenBrace ∷ []) ≡ Err (LeftOut Here, s_Throws ∷ w_f ∷ s_OpenBrace ∷ [])
unfolding reader run walk forms code_grammar.forms
property_that_throws = refl

-- `class c { int x { get | throws f ;`
accessor_that_throws : file (s_Class ∷ w_c ∷ s_OpenBrace ∷ w_int ∷ w_x ∷ s_OpenBrace ∷ w_get ∷ s_Throws ∷ w_f ∷ s_Semicolon ∷ []) ≡ Err (LeftOut Here, s_Throws ∷ w_f ∷ s_Semicolon ∷ [])
unfolding reader run walk forms code_grammar.forms
accessor_that_throws = refl

-- `class c { int x { public get ; construct set ; } }`
property : file (s_Class ∷ w_c ∷ s_OpenBrace ∷ w_int ∷ w_x ∷ s_OpenBrace ∷ s_Public ∷ w_get ∷ s_Semicolon ∷ s_Construct ∷ w_set ∷ s_Semicolon ∷ s_CloseBrace ∷ s_CloseBrace ∷ []) ≡ Ok (record { usings = []; members = tree.member ([]) ([]) (tree.class s_Class (code.one_word w_c) [] (record { list = tree.member ([]) ([]) (tree.property (code.single_type None (code.one_word w_int) None) w_x (record { list = tree.getter (Some s_Public) None w_get (record { block = None; last = s_Semicolon.span }) ∷ tree.setter None s_Construct (words.ConstructSet s_Construct.span w_set.span) (record { block = None; last = s_Semicolon.span }) ∷ []; close = s_CloseBrace.span })) ∷ []; close = s_CloseBrace.span })) ∷ [] }, [])
unfolding reader run walk forms code_grammar.forms
property = refl

-- `interface c { void f ( ) | { }`
interface_method_with_a_body : file (s_Interface ∷ w_c ∷ s_OpenBrace ∷ s_Void ∷ w_f ∷ s_OpenParen ∷ s_CloseParen ∷ s_OpenBrace ∷ s_CloseBrace ∷ []) ≡ Err (LeftOut Here, s_OpenBrace ∷ s_CloseBrace ∷ [])
unfolding reader run walk forms code_grammar.forms
interface_method_with_a_body = refl

-- `struct c { int x | = x`
struct_field_with_a_value : file (s_Struct ∷ w_c ∷ s_OpenBrace ∷ w_int ∷ w_x ∷ s_Assign ∷ w_x ∷ []) ≡ Err (LeftOut Here, s_Assign ∷ w_x ∷ [])
unfolding reader run walk forms code_grammar.forms
struct_field_with_a_value = refl

-- `struct c { int x | ( )`
struct_method : file (s_Struct ∷ w_c ∷ s_OpenBrace ∷ w_int ∷ w_x ∷ s_OpenParen ∷ s_CloseParen ∷ []) ≡ Err (LeftOut Here, s_OpenParen ∷ s_CloseParen ∷ [])
unfolding reader run walk forms code_grammar.forms
struct_method = refl

-- `const int x = | { x }`
constant_array : file (s_Const ∷ w_int ∷ w_x ∷ s_Assign ∷ s_OpenBrace ∷ w_x ∷ s_CloseBrace ∷ []) ≡ Err (LeftOut Here, s_OpenBrace ∷ w_x ∷ s_CloseBrace ∷ [])
unfolding reader run walk forms code_grammar.forms
constant_array = refl

-- `class c { signal | int x ( )`
signal_with_a_result : file (s_Class ∷ w_c ∷ s_OpenBrace ∷ s_Signal ∷ w_int ∷ w_x ∷ s_OpenParen ∷ s_CloseParen ∷ []) ≡ Err (LeftOut Here, w_int ∷ w_x ∷ s_OpenParen ∷ s_CloseParen ∷ [])
unfolding reader run walk forms code_grammar.forms
signal_with_a_result = refl

-- `class c { signal void x ( | owned int`
signal_of_owned : file (s_Class ∷ w_c ∷ s_OpenBrace ∷ s_Signal ∷ s_Void ∷ w_x ∷ s_OpenParen ∷ s_Owned ∷ w_int ∷ []) ≡ Err (LeftOut Here, s_Owned ∷ w_int ∷ [])
unfolding reader run walk forms code_grammar.forms
signal_of_owned = refl

-- `errordomain c { | }`
error_domain_without_codes : file (s_Errordomain ∷ w_c ∷ s_OpenBrace ∷ s_CloseBrace ∷ []) ≡ Err (Syntax, s_CloseBrace ∷ [])
unfolding reader run walk forms code_grammar.forms
error_domain_without_codes = refl

-- `enum c { x , }`
enum_ends_with_a_comma : file (s_Enum ∷ w_c ∷ s_OpenBrace ∷ w_x ∷ s_Comma ∷ s_CloseBrace ∷ []) ≡ Ok (record { usings = []; members = tree.member ([]) ([]) (tree.enumeration s_Enum (code.one_word w_c) (record { list = tree.enum_member w_x ∷ []; close = s_CloseBrace.span })) ∷ [] }, [])
unfolding reader run walk forms code_grammar.forms
enum_ends_with_a_comma = refl

-- `delegate void f ( ) throws c ;`
delegate : file (s_Delegate ∷ s_Void ∷ w_f ∷ s_OpenParen ∷ s_CloseParen ∷ s_Throws ∷ w_c ∷ s_Semicolon ∷ []) ≡ Ok (record { usings = []; members = tree.member ([]) ([]) (tree.delegate s_Delegate (tree.signature (code.void_type None s_Void) w_f [] ((code.single_type None (code.one_word w_c) None) ∷ [])) s_Semicolon) ∷ [] }, [])
unfolding reader run walk forms code_grammar.forms
delegate = refl

-- `class c {`
end_in_a_class : file (s_Class ∷ w_c ∷ s_OpenBrace ∷ []) ≡ Err (Syntax, [])
unfolding reader run walk forms code_grammar.forms
end_in_a_class = refl

-- `with three levels: class c { int x { get {`
too_deep : small (s_Class ∷ w_c ∷ s_OpenBrace ∷ w_int ∷ w_x ∷ s_OpenBrace ∷ w_get ∷ s_OpenBrace ∷ w_get ∷ s_Semicolon ∷ s_CloseBrace ∷ []) ≡ Err (Nesting, w_get ∷ s_Semicolon ∷ s_CloseBrace ∷ [])
unfolding reader run walk forms code_grammar.forms
too_deep = refl

-- `with two parameters: void f ( int x , int b , int c`
too_many : small (s_Void ∷ w_f ∷ s_OpenParen ∷ w_int ∷ w_x ∷ s_Comma ∷ w_int ∷ w_b ∷ s_Comma ∷ w_int ∷ w_c ∷ s_CloseParen ∷ []) ≡ Err (Number, s_Comma ∷ w_int ∷ w_c ∷ s_CloseParen ∷ [])
unfolding reader run walk forms code_grammar.forms
too_many = refl
