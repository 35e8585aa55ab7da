-- Readings of declarations with words in front, computed. A bar stands in front of the first token that is not read; where an earlier word is
-- the fault, it stands at the place 7.
use Rattle.std.proofs.Common.{◌≡◌, refl, List, [], ◌∷◌, None, Ok, Err, codes, ℕ}
use Rattle.predictive_grammar.specs.Steps.{Outcome, Syntax, LeftOut}
use Rattle.static_rules.specs.declared.rules.Rule.TheVariants as rule
use Rattle.vala_grammar.specs.Label.{Label, Here, Earlier}
use Rattle.predictive_grammar.specs.Reading.{reader, walk, run}
use Rattle.vg_base.specs.declared.event.Span.{Span}
use Rattle.vala_lexer.specs.Tokens.{Lexeme}
use Rattle.vala_lexer.specs.declared.token.TokenKind.TheVariants as k
use Rattle.vala_grammar.specs.declared.sort.Sort.TheVariants as s
use Rattle.vala_grammar.specs.Trees as code
use Rattle.vala_grammar.specs.Grammar as code_grammar
use Rattle.vala_file_grammar.specs.Kinds.{Of}
use Rattle.vala_file_grammar.specs.Trees as tree
use Rattle.vala_file_grammar.specs.Trees.{FileText}
use Rattle.vala_file_grammar.specs.Parts.{File}
use Rattle.vala_file_grammar.specs.Grammar.{forms}
use Rattle.vala_file_grammar.specs.Read.{file_reader}
use Rattle.vala_file_grammar.proofs.Finite.{sample}

abbrev word : List ℕ → Lexeme
word x = record { kind = k.Identifier; text = x; span = record { file = 0; start = 0; «end» = 0 } }

abbrev file : List Lexeme → Outcome Label Lexeme FileText
file i = file_reader File 0 i

abbrev s_Abstract : Lexeme
s_Abstract = sample (Of s.Abstract)

abbrev s_Inline : Lexeme
s_Inline = sample (Of s.Inline)

abbrev s_Private : Lexeme
s_Private = sample (Of s.Private)

abbrev s_Static : Lexeme
s_Static = sample (Of s.Static)

abbrev s_Tilde : Lexeme
s_Tilde = sample (Of s.Tilde)

abbrev s_Virtual : Lexeme
s_Virtual = sample (Of s.Virtual)

abbrev s_Override : Lexeme
s_Override = sample (Of s.Override)

abbrev s_Assign : Lexeme
s_Assign = sample (Of s.Assign)

abbrev s_Async : Lexeme
s_Async = sample (Of s.Async)

abbrev s_Class : Lexeme
s_Class = sample (Of s.Class)

abbrev s_CloseBrace : Lexeme
s_CloseBrace = sample (Of s.CloseBrace)

abbrev s_CloseParen : Lexeme
s_CloseParen = sample (Of s.CloseParen)

abbrev s_Const : Lexeme
s_Const = sample (Of s.Const)

abbrev s_Construct : Lexeme
s_Construct = sample (Of s.Construct)

abbrev s_Interface : Lexeme
s_Interface = sample (Of s.Interface)

abbrev s_OpenBrace : Lexeme
s_OpenBrace = sample (Of s.OpenBrace)

abbrev s_OpenParen : Lexeme
s_OpenParen = sample (Of s.OpenParen)

abbrev s_Public : Lexeme
s_Public = sample (Of s.Public)

abbrev s_Semicolon : Lexeme
s_Semicolon = sample (Of s.Semicolon)

abbrev s_Signal : Lexeme
s_Signal = sample (Of s.Signal)

abbrev s_Struct : Lexeme
s_Struct = sample (Of s.Struct)

abbrev s_Void : Lexeme
s_Void = sample (Of s.Void)

abbrev w_main : Lexeme
w_main = word (codes "main")

abbrev w_b : Lexeme
w_b = word (codes "b")

abbrev w_c : Lexeme
w_c = word (codes "c")

abbrev w_f : Lexeme
w_f = word (codes "f")

abbrev w_get : Lexeme
w_get = word (codes "get")

abbrev w_int : Lexeme
w_int = word (codes "int")

abbrev w_x : Lexeme
w_x = word (codes "x")

-- the same where it stands at a place, for words that are told of later
abbrev at : ℕ → Lexeme → Lexeme
at n t = record { kind = t.kind; text = t.text; span = record { file = 0; start = n; «end» = n } }

abbrev place : ℕ → Span
place n = record { file = 0; start = n; «end» = n }

-- `public | public int x ;`
word_twice : file (s_Public ∷ s_Public ∷ w_int ∷ w_x ∷ s_Semicolon ∷ []) ≡ Err (Syntax, s_Public ∷ w_int ∷ w_x ∷ s_Semicolon ∷ [])
unfolding reader run walk forms code_grammar.forms
word_twice = refl

-- `public | private int x ;`
two_access_words : file (s_Public ∷ s_Private ∷ w_int ∷ w_x ∷ s_Semicolon ∷ []) ≡ Err (Syntax, s_Private ∷ w_int ∷ w_x ∷ s_Semicolon ∷ [])
unfolding reader run walk forms code_grammar.forms
two_access_words = refl

-- `static | static int x ;`
static_twice : file (s_Static ∷ s_Static ∷ w_int ∷ w_x ∷ s_Semicolon ∷ []) ≡ Err (Syntax, s_Static ∷ w_int ∷ w_x ∷ s_Semicolon ∷ [])
unfolding reader run walk forms code_grammar.forms
static_twice = refl

-- `class c { abstract int x | ;` is refused at `abstract`
abstract_field : file (s_Class ∷ w_c ∷ s_OpenBrace ∷ at 7 s_Abstract ∷ w_int ∷ w_x ∷ s_Semicolon ∷ []) ≡ Err (LeftOut (Earlier rule.S1 (place 7)), s_Semicolon ∷ [])
unfolding reader run walk forms code_grammar.forms
abstract_field = refl

-- `class c { public abstract int x | =` is refused at `abstract`
abstract_field_with_a_value : file (s_Class ∷ w_c ∷ s_OpenBrace ∷ s_Public ∷ at 7 s_Abstract ∷ w_int ∷ w_x ∷ s_Assign ∷ w_x ∷ []) ≡ Err (LeftOut (Earlier rule.S1 (place 7)), s_Assign ∷ w_x ∷ [])
unfolding reader run walk forms code_grammar.forms
abstract_field_with_a_value = refl

-- `async | abstract void` is refused at `async`
async_and_abstract : file (at 7 s_Async ∷ s_Abstract ∷ s_Void ∷ w_f ∷ []) ≡ Err (LeftOut (Earlier rule.U1 (place 7)), s_Abstract ∷ s_Void ∷ w_f ∷ [])
unfolding reader run walk forms code_grammar.forms
async_and_abstract = refl

-- `abstract | async void`
abstract_and_async : file (s_Abstract ∷ s_Async ∷ s_Void ∷ w_f ∷ []) ≡ Err (LeftOut Here, s_Async ∷ s_Void ∷ w_f ∷ [])
unfolding reader run walk forms code_grammar.forms
abstract_and_async = refl

-- `class c { static | construct { }` is refused at `static`
static_construct : file (s_Class ∷ w_c ∷ s_OpenBrace ∷ at 7 s_Static ∷ s_Construct ∷ s_OpenBrace ∷ s_CloseBrace ∷ []) ≡ Err (LeftOut (Earlier rule.U1 (place 7)), s_Construct ∷ s_OpenBrace ∷ s_CloseBrace ∷ [])
unfolding reader run walk forms code_grammar.forms
static_construct = refl

-- `class c { virtual | construct { }` is refused at `virtual`
virtual_construct : file (s_Class ∷ w_c ∷ s_OpenBrace ∷ at 7 s_Virtual ∷ s_Construct ∷ s_OpenBrace ∷ s_CloseBrace ∷ []) ≡ Err (LeftOut (Earlier rule.S1 (place 7)), s_Construct ∷ s_OpenBrace ∷ s_CloseBrace ∷ [])
unfolding reader run walk forms code_grammar.forms
virtual_construct = refl

-- `class c { async c | ( )` is refused at `async`
async_creation : file (s_Class ∷ w_c ∷ s_OpenBrace ∷ at 7 s_Async ∷ w_c ∷ s_OpenParen ∷ s_CloseParen ∷ s_Semicolon ∷ []) ≡ Err (LeftOut (Earlier rule.U1 (place 7)), s_OpenParen ∷ s_CloseParen ∷ s_Semicolon ∷ [])
unfolding reader run walk forms code_grammar.forms
async_creation = refl

-- `class c { static async c | ( )` is refused at `static`
static_creation : file (s_Class ∷ w_c ∷ s_OpenBrace ∷ at 7 s_Static ∷ s_Async ∷ w_c ∷ s_OpenParen ∷ s_CloseParen ∷ s_Semicolon ∷ []) ≡ Err (LeftOut (Earlier rule.S1 (place 7)), s_OpenParen ∷ s_CloseParen ∷ s_Semicolon ∷ [])
unfolding reader run walk forms code_grammar.forms
static_creation = refl

-- `async void | main ( )` is refused at `async`
async_main : file (at 7 s_Async ∷ s_Void ∷ w_main ∷ s_OpenParen ∷ s_CloseParen ∷ s_Semicolon ∷ []) ≡ Err (LeftOut (Earlier rule.U1 (place 7)), w_main ∷ s_OpenParen ∷ s_CloseParen ∷ s_Semicolon ∷ [])
unfolding reader run walk forms code_grammar.forms
async_main = refl

-- `virtual | class c {` is refused at `virtual`
virtual_class : file (at 7 s_Virtual ∷ s_Class ∷ w_c ∷ s_OpenBrace ∷ []) ≡ Err (LeftOut (Earlier rule.S1 (place 7)), s_Class ∷ w_c ∷ s_OpenBrace ∷ [])
unfolding reader run walk forms code_grammar.forms
virtual_class = refl

-- `abstract | interface c {` is refused at `abstract`
abstract_interface : file (at 7 s_Abstract ∷ s_Interface ∷ w_c ∷ s_OpenBrace ∷ []) ≡ Err (LeftOut (Earlier rule.S1 (place 7)), s_Interface ∷ w_c ∷ s_OpenBrace ∷ [])
unfolding reader run walk forms code_grammar.forms
abstract_interface = refl

-- `public static | const int x = b ;` is refused at `static`
static_constant : file (s_Public ∷ at 7 s_Static ∷ s_Const ∷ w_int ∷ w_x ∷ s_Assign ∷ w_b ∷ s_Semicolon ∷ []) ≡ Err (LeftOut (Earlier rule.S1 (place 7)), s_Const ∷ w_int ∷ w_x ∷ s_Assign ∷ w_b ∷ s_Semicolon ∷ [])
unfolding reader run walk forms code_grammar.forms
static_constant = refl

-- `class c { static int x | {` is refused at `static`
static_property : file (s_Class ∷ w_c ∷ s_OpenBrace ∷ at 7 s_Static ∷ w_int ∷ w_x ∷ s_OpenBrace ∷ w_get ∷ s_Semicolon ∷ []) ≡ Err (LeftOut (Earlier rule.S1 (place 7)), s_OpenBrace ∷ w_get ∷ s_Semicolon ∷ [])
unfolding reader run walk forms code_grammar.forms
static_property = refl

-- `class c { static | signal void x` is refused at `static`
static_signal : file (s_Class ∷ w_c ∷ s_OpenBrace ∷ at 7 s_Static ∷ s_Signal ∷ s_Void ∷ w_x ∷ []) ≡ Err (LeftOut (Earlier rule.S1 (place 7)), s_Signal ∷ s_Void ∷ w_x ∷ [])
unfolding reader run walk forms code_grammar.forms
static_signal = refl

-- `class c { static | ~ c` is refused at `static`
static_destructor : file (s_Class ∷ w_c ∷ s_OpenBrace ∷ at 7 s_Static ∷ s_Tilde ∷ w_c ∷ []) ≡ Err (LeftOut (Earlier rule.S1 (place 7)), s_Tilde ∷ w_c ∷ [])
unfolding reader run walk forms code_grammar.forms
static_destructor = refl

-- `class c { ~ | x ( ) { }`
destructor_of_another_name : file (s_Class ∷ w_c ∷ s_OpenBrace ∷ s_Tilde ∷ w_x ∷ s_OpenParen ∷ s_CloseParen ∷ s_OpenBrace ∷ s_CloseBrace ∷ []) ≡ Err (Syntax, w_x ∷ s_OpenParen ∷ s_CloseParen ∷ s_OpenBrace ∷ s_CloseBrace ∷ [])
unfolding reader run walk forms code_grammar.forms
destructor_of_another_name = refl

-- `struct c { | virtual int x ;`
virtual_field_of_a_struct : file (s_Struct ∷ w_c ∷ s_OpenBrace ∷ s_Virtual ∷ w_int ∷ w_x ∷ s_Semicolon ∷ []) ≡ Err (Syntax, s_Virtual ∷ w_int ∷ w_x ∷ s_Semicolon ∷ [])
unfolding reader run walk forms code_grammar.forms
virtual_field_of_a_struct = refl

-- `struct c { static | static int x ;`
field_of_a_struct_twice_static : file (s_Struct ∷ w_c ∷ s_OpenBrace ∷ s_Static ∷ s_Static ∷ w_int ∷ w_x ∷ s_Semicolon ∷ []) ≡ Err (Syntax, s_Static ∷ w_int ∷ w_x ∷ s_Semicolon ∷ [])
unfolding reader run walk forms code_grammar.forms
field_of_a_struct_twice_static = refl

-- `private static int x ;`
static_field : file (s_Private ∷ s_Static ∷ w_int ∷ w_x ∷ s_Semicolon ∷ []) ≡ Ok (record { usings = []; members = tree.member [] (tree.modifier s_Private ∷ tree.modifier s_Static ∷ []) (tree.field (code.single_type None (code.one_word w_int) None) w_x None s_Semicolon) ∷ [] }, [])
unfolding reader run walk forms code_grammar.forms
static_field = refl

-- `class c { virtual signal void x ( ) ; }`
virtual_signal : file (s_Class ∷ w_c ∷ s_OpenBrace ∷ s_Virtual ∷ s_Signal ∷ s_Void ∷ w_x ∷ s_OpenParen ∷ s_CloseParen ∷ s_Semicolon ∷ s_CloseBrace ∷ []) ≡ Ok (record { usings = []; members = tree.member [] [] (tree.class s_Class (code.one_word w_c) [] (record { list = tree.member [] (tree.modifier s_Virtual ∷ []) (tree.signal s_Signal w_x [] (record { block = None; last = s_Semicolon.span })) ∷ []; close = s_CloseBrace.span })) ∷ [] }, [])
unfolding reader run walk forms code_grammar.forms
virtual_signal = refl

-- `class c { ~ c ( ) { } }`
own_destructor : file (s_Class ∷ w_c ∷ s_OpenBrace ∷ s_Tilde ∷ w_c ∷ s_OpenParen ∷ s_CloseParen ∷ s_OpenBrace ∷ s_CloseBrace ∷ s_CloseBrace ∷ []) ≡ Ok (record { usings = []; members = tree.member [] [] (tree.class s_Class (code.one_word w_c) [] (record { list = tree.member [] [] (tree.destructor s_Tilde w_c (code.block s_OpenBrace [] s_CloseBrace)) ∷ []; close = s_CloseBrace.span })) ∷ [] }, [])
unfolding reader run walk forms code_grammar.forms
own_destructor = refl

-- `struct c { public static int x ; }`
static_field_of_a_struct : file (s_Struct ∷ w_c ∷ s_OpenBrace ∷ s_Public ∷ s_Static ∷ w_int ∷ w_x ∷ s_Semicolon ∷ s_CloseBrace ∷ []) ≡ Ok (record { usings = []; members = tree.member [] [] (tree.structure s_Struct (code.one_word w_c) (record { list = tree.member [] (tree.modifier s_Public ∷ tree.modifier s_Static ∷ []) (tree.field (code.single_type None (code.one_word w_int) None) w_x None s_Semicolon) ∷ []; close = s_CloseBrace.span })) ∷ [] }, [])
unfolding reader run walk forms code_grammar.forms
static_field_of_a_struct = refl

-- `public async void f ( ) ;`
async_method : file (s_Public ∷ s_Async ∷ s_Void ∷ w_f ∷ s_OpenParen ∷ s_CloseParen ∷ s_Semicolon ∷ []) ≡ Ok (record { usings = []; members = tree.member [] (tree.modifier s_Public ∷ tree.modifier s_Async ∷ []) (tree.method (code.void_type None s_Void) w_f [] [] (record { block = None; last = s_Semicolon.span })) ∷ [] }, [])
unfolding reader run walk forms code_grammar.forms
async_method = refl

-- `static inline void f ( ) ;`
static_inline_method : file (s_Static ∷ s_Inline ∷ s_Void ∷ w_f ∷ s_OpenParen ∷ s_CloseParen ∷ s_Semicolon ∷ []) ≡ Ok (record { usings = []; members = tree.member [] (tree.modifier s_Static ∷ tree.modifier s_Inline ∷ []) (tree.method (code.void_type None s_Void) w_f [] [] (record { block = None; last = s_Semicolon.span })) ∷ [] }, [])
unfolding reader run walk forms code_grammar.forms
static_inline_method = refl

-- `class c { override void f ( ) ; }`
override_method : file (s_Class ∷ w_c ∷ s_OpenBrace ∷ s_Override ∷ s_Void ∷ w_f ∷ s_OpenParen ∷ s_CloseParen ∷ s_Semicolon ∷ s_CloseBrace ∷ []) ≡ Ok (record { usings = []; members = tree.member [] [] (tree.class s_Class (code.one_word w_c) [] (record { list = tree.member [] (tree.modifier s_Override ∷ []) (tree.method (code.void_type None s_Void) w_f [] [] (record { block = None; last = s_Semicolon.span })) ∷ []; close = s_CloseBrace.span })) ∷ [] }, [])
unfolding reader run walk forms code_grammar.forms
override_method = refl

-- `abstract class c { }`
abstract_class : file (s_Abstract ∷ s_Class ∷ w_c ∷ s_OpenBrace ∷ s_CloseBrace ∷ []) ≡ Ok (record { usings = []; members = tree.member [] (tree.modifier s_Abstract ∷ []) (tree.class s_Class (code.one_word w_c) [] (record { list = []; close = s_CloseBrace.span })) ∷ [] }, [])
unfolding reader run walk forms code_grammar.forms
abstract_class = refl

-- `static void main ( ) ;`
main_alone : file (s_Static ∷ s_Void ∷ w_main ∷ s_OpenParen ∷ s_CloseParen ∷ s_Semicolon ∷ []) ≡ Ok (record { usings = []; members = tree.member [] (tree.modifier s_Static ∷ []) (tree.method (code.void_type None s_Void) w_main [] [] (record { block = None; last = s_Semicolon.span })) ∷ [] }, [])
unfolding reader run walk forms code_grammar.forms
main_alone = refl
