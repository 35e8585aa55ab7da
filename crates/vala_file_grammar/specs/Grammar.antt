-- The grammar: the form of each part. A token of a form stands at the level of the part, inside brackets and braces one level up.
use Rattle.std.specs.Prelude.{ℕ, suc, Bool, true, false, ◌&&◌, ◌||◌, not, if◌then◌else◌, List, [], ◌∷◌, ◌++◌, length, Option, Some, None, codes}
use Rattle.predictive_grammar.specs.Forms.{Form, give, take, part, pick, bar, Productions}
use Rattle.vala_lexer.specs.Tokens.{Lexeme}
use Rattle.vala_tree.specs.declared.names.NameTree.{NameTree}
use Rattle.vala_tree.specs.declared.names.TypeTree.{TypeTree}
use Rattle.vala_tree.specs.declared.member.SetterWords.TheVariants as words
use Rattle.vala_tree.specs.declared.member.SetterWords.{SetterWords}
use Rattle.vala_tree.specs.declared.member.Parameter.{Parameter}
use Rattle.vala_tree.specs.declared.member.Modifier.{Modifier}
use Rattle.vala_tree.specs.declared.member.Member.{Member}
use Rattle.vg_base.specs.declared.event.Span.{Span}
use Rattle.static_rules.specs.declared.rules.Rule.TheVariants as rule
use Rattle.vala_grammar.specs.declared.sort.Sort.{Sort}
use Rattle.vala_grammar.specs.declared.sort.Sort.TheVariants as s
use Rattle.vala_grammar.specs.declared.parts.TypeName.{TypeName}
use Rattle.vala_grammar.specs.declared.parts.TypeName.TheVariants as type_name
use Rattle.vala_grammar.specs.Label.{Here, Earlier}
use Rattle.vala_grammar.specs.Trees as code
use Rattle.vala_grammar.specs.Parts.{Name, AnyType, TypeBody, NameInTypeMore, Whole, Init, BlockOf}
use Rattle.vala_grammar.specs.Grammar as code_grammar
use Rattle.vala_file_grammar.specs.declared.kind.Special.{Special}
use Rattle.vala_file_grammar.specs.declared.kind.Special.TheVariants as special
use Rattle.vala_file_grammar.specs.Kinds.{Kind, sorted, one_of, word, is_c_text, named}
use Rattle.vala_file_grammar.specs.Trees as tree
use Rattle.vala_file_grammar.specs.Parts.{Place, Outside, Inside, Owner, Plain, Async, Signal, Bodied, Method, InterfaceMethod, Accessing, FilePart, file_tree_of, Code, File, Usings, MoreUsings, FileMembers, Members, MemberOf, Attributes, Modifiers, MoreModifiers, AttributeOf, AttributeBody, AttributeArguments, MoreAttributeArguments, DeclarationOf, NamespaceOf, ClassOf, StructOf, EnumOf, ErrorsOf, DelegateOf, ConstantOf, DestructorOf, SignalOf, TypeEnd, NamedBy, Typed, CreationOf, Bases, ThrowsOf, TypeList, Fields, FieldOf, MoreField, EnumItems, MoreEnumItems, EnumItem, ErrorCodes, MoreErrorCodes, NextErrorCode, Parameters, MoreParameters, ParameterOf, ParameterType, ParameterName, BodyOf, Accessors, AccessorOf, AccessorWords}
use Rattle.vala_file_grammar.specs.Heads.{HeadKind, AClass, AField, AProperty, ASignal, AConstruct, ACreation, Another, first_wrong, wrong_word, is_modifier, async_in, clashes, clash, may_follow, may_follow_in_struct, any_follows}
use Rattle.vala_file_grammar.specs.Embed.{F, embed}

-- ---- steps of a form

abbrev pub same : ℕ → ℕ
same l = l

abbrev pub up : ℕ → ℕ
up l = suc l

abbrev pub token : {r : FilePart} → (Kind → Bool) → (Lexeme → Form F r) → Form F r
token test k = take same 0 test k

abbrev pub one : {r : FilePart} → Sort → (Lexeme → Form F r) → Form F r
one x k = take same 0 (sorted x) k

-- inside a bracket
abbrev pub inner : {r : FilePart} → Sort → (Lexeme → Form F r) → Form F r
inner x k = take up 0 (sorted x) k

abbrev pub here : {r : FilePart} (q : FilePart) → (file_tree_of q → Form F r) → Form F r
here q k = part same q k

abbrev pub deeper : {r : FilePart} (q : FilePart) → (file_tree_of q → Form F r) → Form F r
deeper q k = part up q k

-- the way of a token, or the other
abbrev pub where_token : {r : FilePart} → (Kind → Bool) → (Lexeme → Form F r) → Form F r → Form F r
where_token test k other = pick test (token test k) other

abbrev pub where_one : {r : FilePart} → Sort → (Lexeme → Form F r) → Form F r → Form F r
where_one x k other = where_token (sorted x) k other

-- the same, where some token passes the test
abbrev pub where_some : {r : FilePart} → Bool → (Kind → Bool) → (Lexeme → Form F r) → Form F r → Form F r
where_some true test k other = where_token test k other
where_some false test k other = other

-- A token that tells of what kind a declaration is: where that takes the words in front, the way of the token; else the first word that it does
-- not take is the fault. Or the other.
abbrev pub where_right : {r : FilePart} → HeadKind → Option Modifier → Sort → (Lexeme → Form F r) → Form F r → Form F r
where_right h None x k other = where_one x k other
where_right h (Some m) x k other = bar (sorted x) (wrong_word h m) other

abbrev pub where_told : {r : FilePart} → HeadKind → List Modifier → Sort → (Lexeme → Form F r) → Form F r → Form F r
where_told h ms x k other = where_right h (first_wrong h ms) x k other

-- a token of a kind that passes the test would begin here what the profile leaves out
abbrev pub left_out : {r : FilePart} → (Kind → Bool) → Form F r → Form F r
left_out left k = bar left Here k

-- what reads a part and has its tree
abbrev pub just : {r : FilePart} (q : FilePart) → (file_tree_of q → file_tree_of r) → Form F r
just q f = here q (λ a. give (f a))

abbrev pub as_it_is : {A : Type 0} → A → A
as_it_is a = a

-- ---- sets of kinds

abbrev pub is_ownership : Kind → Bool
is_ownership = one_of (s.Owned ∷ s.Unowned ∷ [])

-- what begins a left-out type behind a type
abbrev pub is_type_sign : Kind → Bool
is_type_sign = one_of (s.Star ∷ s.Less ∷ [])

abbrev pub begins_type : Kind → Bool
begins_type = one_of (s.Owned ∷ s.Unowned ∷ s.Void ∷ s.Identifier ∷ [])

-- what begins a declaration of a type or a namespace
abbrev pub begins_nested : Kind → Bool
begins_nested = one_of (s.Namespace ∷ s.Class ∷ s.Interface ∷ s.Struct ∷ s.Enum ∷ s.Errordomain ∷ s.Delegate ∷ [])

-- what begins a declaration behind its attributes and modifiers
abbrev pub begins_declaration : Place → Kind → Bool
begins_declaration Outside x = begins_nested x || (sorted s.Const x || begins_type x)
begins_declaration (Inside i c) x = one_of (s.Const ∷ s.Tilde ∷ s.Signal ∷ s.Construct ∷ []) x || begins_type x

abbrev pub begins_member : Place → Kind → Bool
begins_member y x = sorted s.OpenBracket x || (is_modifier x || begins_declaration y x)

-- what begins a left-out declaration: `new` among modifiers, and a type in a class or interface
abbrev pub is_left_out : Place → Kind → Bool
is_left_out Outside x = sorted s.New x
is_left_out (Inside i c) x = sorted s.New x || begins_nested x

-- a name in an attribute that is none of these words
abbrev pub is_other_name : List Special → Kind → Bool
is_other_name ws x = sorted s.Identifier x && not (is_one ws x)
  where
    is_one : List Special → Kind → Bool
    is_one [] x = false
    is_one (w ∷ ws) x = word w x || is_one ws x

-- a text that is no C identifier
abbrev pub is_other_text : Kind → Bool
is_other_text x = sorted s.Text x && not (is_c_text x)

-- the words in front of a parameter that are left out
abbrev pub is_left_out_mark : Owner → Kind → Bool
is_left_out_mark Plain x = false
is_left_out_mark Async x = one_of (s.Out ∷ s.Ref ∷ []) x
is_left_out_mark Signal x = one_of (s.Out ∷ s.Ref ∷ s.Owned ∷ []) x

-- ---- types and names

-- behind a type, the name of what it is the type of
abbrev pub name_behind : {r : FilePart} → (Lexeme → Form F r) → Form F r
name_behind k = left_out is_type_sign (one s.Identifier k)

abbrev pub is_main : Kind → Bool
is_main = named (codes "main")

-- the same, where no `main` may stand, for then the word there is the fault
abbrev pub name_but_main : {r : FilePart} → Span → (Lexeme → Form F r) → Form F r
name_but_main x k = left_out is_type_sign (bar is_main (Earlier rule.U1 x) (token (λ y. sorted s.Identifier y && not (is_main y)) k))

-- behind a type's name: marks and `[ ]`
abbrev pub type_end : (n : TypeName) → Form F (TypeEnd n)
type_end (type_name.Single n) =
    where_one s.Question (λ q.
    where_one s.OpenBracket (λ b. left_out (sorted s.Comma) (inner s.CloseBracket (λ c.
    where_one s.Question (λ r. give (code.array_type None n (Some q.span) c.span (Some r.span))) (give (code.array_type None n (Some q.span) c.span None)))))
    (give (code.single_type None n (Some q.span)))) (give (code.single_type None n None))
type_end (type_name.Array n c) = where_one s.Question (λ q. give (code.array_type None n None c (Some q.span))) (give (code.array_type None n None c None))

-- ---- what begins with a type

abbrev pub end_with : {r : FilePart} → (Lexeme → file_tree_of r) → Form F r
end_with f = one s.Semicolon (λ c. give (f c))

-- the parameters behind `(`, `throws` and the body of a method
abbrev pub method_of : {r : FilePart} → Owner → Bodied → (List Parameter → List TypeTree → tree.Ending → file_tree_of r) → Form F r
method_of w b f = deeper (Parameters w) (λ ps. here ThrowsOf (λ ts. just (BodyOf b) (λ e. f ps ts e)))

-- by the place of `async`
abbrev pub owner : Option Span → Owner
owner None = Plain
owner (Some x) = Async

abbrev pub bodied : Bool → Bodied
bodied is_interface = if is_interface then InterfaceMethod else Method

-- a field, or the other
abbrev pub field_or : (x : Place) (ms : List Modifier) (y : TypeTree) (n : Lexeme) → Form F (Typed x ms y n) → Form F (Typed x ms y n)
field_or x ms y n other =
    where_told AField ms s.Semicolon (λ c. give (tree.field y n None c))
    (where_told AField ms s.Assign (λ e. here (Code Init) (λ v. end_with (λ c. tree.field y n (Some v) c))) other)

-- a method, which takes all words
abbrev pub typed_method : (x : Place) (ms : List Modifier) (y : TypeTree) (n : Lexeme) → Bodied → Form F (Typed x ms y n)
typed_method x ms y n b = one s.OpenParen (λ p. method_of (owner (async_in ms)) b (λ ps ts e. tree.method y n ps ts e))

abbrev pub typed : (x : Place) (ms : List Modifier) (y : TypeTree) (n : Lexeme) → Form F (Typed x ms y n)
typed Outside ms y n = field_or Outside ms y n (typed_method Outside ms y n Method)
typed (Inside i c) ms y n =
    left_out (sorted s.Throws) (field_or (Inside i c) ms y n
    (where_told AProperty ms s.OpenBrace (λ o. deeper (Accessors []) (λ xs. give (tree.property y n xs)))
    (typed_method (Inside i c) ms y n (bodied i))))

abbrev pub named_by : (x : Place) (ms : List Modifier) (y : TypeTree) → Option Span → Form F (NamedBy x ms y)
named_by x ms y None = name_behind (λ n. just (Typed x ms y n) as_it_is)
named_by x ms y (Some z) = name_but_main z (λ n. just (Typed x ms y n) as_it_is)

-- a declaration that begins with these names of a type
abbrev pub of_type_name : (x : Place) (ms : List Modifier) → TypeName → Form F (DeclarationOf x ms)
of_type_name x ms n = here (TypeEnd n) (λ y. just (NamedBy x ms y) as_it_is)

abbrev pub begins_name : (x : Place) (ms : List Modifier) → TypeName → Form F (DeclarationOf x ms)
begins_name (Inside i c) ms (type_name.Single n) =
    if tree.names_creation c n
    then where_told ACreation ms s.OpenParen (λ p. just (CreationOf n) as_it_is) (of_type_name (Inside i c) ms (type_name.Single n))
    else of_type_name (Inside i c) ms (type_name.Single n)
begins_name x ms n = of_type_name x ms n

-- a declaration that begins with a type
abbrev pub of_type : (x : Place) (ms : List Modifier) → Form F (DeclarationOf x ms)
of_type x ms =
    where_token is_ownership (λ o. here (Code (TypeBody (Some o))) (λ y. just (NamedBy x ms y) as_it_is))
    (where_one s.Void (λ t. just (NamedBy x ms (code.void_type None t)) as_it_is)
    (one s.Identifier (λ t. here (Code (NameInTypeMore (code.one_word t))) (λ n. begins_name x ms n))))

abbrev pub declaration : (x : Place) (ms : List Modifier) → Form F (DeclarationOf x ms)
declaration Outside ms =
    where_told Another ms s.Namespace (λ t. just (NamespaceOf t) as_it_is)
    (where_told AClass ms s.Class (λ t. just (ClassOf false t) as_it_is)
    (where_told Another ms s.Interface (λ t. just (ClassOf true t) as_it_is)
    (where_told Another ms s.Struct (λ t. just (StructOf t) as_it_is)
    (where_told Another ms s.Enum (λ t. just (EnumOf t) as_it_is)
    (where_told Another ms s.Errordomain (λ t. just (ErrorsOf t) as_it_is)
    (where_told Another ms s.Delegate (λ t. just (DelegateOf t) as_it_is)
    (where_told Another ms s.Const (λ t. just (ConstantOf t) as_it_is)
    (of_type Outside ms))))))))
declaration (Inside i c) ms =
    where_told Another ms s.Const (λ t. just (ConstantOf t) as_it_is)
    (where_told Another ms s.Tilde (λ t. just (DestructorOf c t) as_it_is)
    (where_told ASignal ms s.Signal (λ t. just (SignalOf t) as_it_is)
    (where_told AConstruct ms s.Construct (λ t. here (Code BlockOf) (λ b. give (tree.construction t b)))
    (of_type (Inside i c) ms))))

abbrev pub class_of : Bool → Lexeme → NameTree → List TypeTree → tree.Closed Member → tree.Declared
class_of true t n bs ms = tree.interface t n bs ms
class_of false t n bs ms = tree.class t n bs ms

-- behind the name of a destructor
abbrev pub destructor_behind : (c : List ℕ) (t n : Lexeme) → Form F (DestructorOf c t)
destructor_behind c t n = one s.OpenParen (λ p. inner s.CloseParen (λ q. here (Code BlockOf) (λ b. give (tree.destructor t n b))))

-- ---- parameters and bodies

abbrev pub marked : (w : Owner) → Form F (ParameterOf w)
marked Plain = where_token (one_of (s.Out ∷ s.Ref ∷ [])) (λ d. just (ParameterType (Some d)) as_it_is) (just (ParameterType None) as_it_is)
marked Async = left_out (is_left_out_mark Async) (just (ParameterType None) as_it_is)
marked Signal =
    left_out (is_left_out_mark Signal)
    (where_one s.Unowned (λ o. here (Code (TypeBody (Some o))) (λ y. just (ParameterName None y) as_it_is)) (here (Code (TypeBody None)) (λ y. just (ParameterName None y) as_it_is)))

abbrev pub block_or_semicolon : {b : Bodied} → Form F (BodyOf b)
block_or_semicolon = where_one s.Semicolon (λ c. give (record { block = None; last = c.span })) (here (Code BlockOf) (λ b. give (record { block = Some b; last = b.span })))

abbrev pub body : (b : Bodied) → Form F (BodyOf b)
body Method = block_or_semicolon
body InterfaceMethod = left_out (sorted s.OpenBrace) (one s.Semicolon (λ c. give (record { block = None; last = c.span })))
body Accessing = left_out (sorted s.Throws) block_or_semicolon

-- ---- accessors

abbrev pub getter : {m : Option Lexeme} → Option Lexeme → Lexeme → Form F (AccessorWords m)
getter {m = m} o t = just (BodyOf Accessing) (λ b. tree.getter m o t b)

abbrev pub setter : {m : Option Lexeme} → Lexeme → SetterWords → Form F (AccessorWords m)
setter {m = m} t ws = just (BodyOf Accessing) (λ b. tree.setter m t ws b)

abbrev pub accessor_words : (m : Option Lexeme) → Form F (AccessorWords m)
accessor_words m =
    where_one s.Owned (λ o. token (word special.Get) (λ t. getter (Some o) t))
    (where_token (word special.Get) (λ t. getter None t)
    (where_token (word special.Set) (λ t. where_one s.Construct (λ u. setter t (words.SetConstruct t.span u.span)) (setter t (words.Set t.span)))
    (one s.Construct (λ t. where_token (word special.Set) (λ u. setter t (words.ConstructSet t.span u.span)) (setter t (words.Construct t.span))))))

-- ---- the form of each part

unfoldable pub forms : Productions F
forms (Code p) = embed (code_grammar.forms p)
forms File = just (Usings []) as_it_is
forms (Usings us) = where_one s.Using (λ t. here (Code Name) (λ n. just (MoreUsings (us ++ n ∷ [])) as_it_is)) (just (FileMembers us []) as_it_is)
forms (MoreUsings us) = where_one s.Comma (λ t. here (Code Name) (λ n. just (MoreUsings (us ++ n ∷ [])) as_it_is)) (one s.Semicolon (λ c. just (Usings us) as_it_is))
forms (FileMembers us ms) =
    left_out (is_left_out Outside) (pick (begins_member Outside) (here (MemberOf Outside) (λ m. just (FileMembers us (ms ++ m ∷ [])) as_it_is)) (give (record { usings = us; members = ms })))
forms (Members x ms) = left_out (is_left_out x) (where_one s.CloseBrace (λ c. give (tree.closed ms c)) (here (MemberOf x) (λ m. just (Members x (ms ++ m ∷ [])) as_it_is)))
forms (MemberOf x) = pick (sorted s.OpenBracket) (here AttributeOf (λ a. just (Attributes x (a ∷ [])) as_it_is)) (just (Modifiers x [] []) as_it_is)
forms (Attributes x xs) =
    left_out (is_left_out x) (pick (sorted s.OpenBracket) (here AttributeOf (λ a. just (Attributes x (xs ++ a ∷ [])) as_it_is)) (just (Modifiers x xs []) as_it_is))
forms (Modifiers x xs ms) =
    bar (clashes ms) (clash ms) (where_some (any_follows may_follow ms) (may_follow ms) (λ t. just (MoreModifiers x xs (ms ++ tree.modifier t ∷ [])) as_it_is) (just (DeclarationOf x ms) (λ d. tree.member xs ms d)))
forms (MoreModifiers x xs ms) = left_out (is_left_out x) (just (Modifiers x xs ms) as_it_is)
forms AttributeOf = one s.OpenBracket (λ o. deeper (AttributeBody o) (λ a. give a))
forms (AttributeBody o) =
    left_out (is_other_name (special.CCode ∷ [])) (token (word special.CCode) (λ n. one s.OpenParen (λ p. deeper (AttributeArguments []) (λ xs. one s.CloseBracket (λ c. give (tree.attribute o xs c))))))
forms (AttributeArguments xs) =
    left_out (is_other_name (special.HeaderFilename ∷ special.CName ∷ []))
    (where_token (word special.HeaderFilename) (λ n. one s.Assign (λ e. one s.Text (λ t. just (MoreAttributeArguments (xs ++ tree.attribute_argument n t ∷ [])) as_it_is)))
    (token (word special.CName) (λ n. one s.Assign (λ e. left_out is_other_text (token is_c_text (λ t. just (MoreAttributeArguments (xs ++ tree.attribute_argument n t ∷ [])) as_it_is))))))
forms (MoreAttributeArguments xs) = where_one s.Comma (λ t. just (AttributeArguments xs) as_it_is) (one s.CloseParen (λ c. give xs))
forms (DeclarationOf x ms) = declaration x ms
forms (NamespaceOf t) = here (Code Name) (λ n. one s.OpenBrace (λ o. deeper (Members Outside []) (λ ms. give (tree.namespace t n ms))))
forms (ClassOf i t) =
    here (Code Name) (λ n. here Bases (λ bs. one s.OpenBrace (λ o. deeper (Members (Inside i (tree.last_word n)) []) (λ ms. give (class_of i t n bs ms)))))
forms (StructOf t) = here (Code Name) (λ n. one s.OpenBrace (λ o. deeper (Fields []) (λ ms. give (tree.structure t n ms))))
forms (EnumOf t) = here (Code Name) (λ n. one s.OpenBrace (λ o. deeper (EnumItems []) (λ xs. give (tree.enumeration t n xs))))
forms (ErrorsOf t) = here (Code Name) (λ n. one s.OpenBrace (λ o. deeper (ErrorCodes []) (λ xs. give (tree.error_domain t n xs))))
forms (DelegateOf t) =
    here (Code AnyType) (λ y. name_behind (λ n. one s.OpenParen (λ p. deeper (Parameters Plain) (λ ps. here ThrowsOf (λ ts. end_with (λ c. tree.delegate t (tree.signature y n ps ts) c))))))
forms (ConstantOf t) =
    here (Code AnyType) (λ y. name_behind (λ n. one s.Assign (λ e. left_out (sorted s.OpenBrace) (here (Code Whole) (λ v. end_with (λ c. tree.constant t y n v c))))))
forms (DestructorOf c t) = token (named c) (λ n. destructor_behind c t n)
forms (SignalOf t) =
    left_out (one_of (s.Owned ∷ s.Unowned ∷ s.Identifier ∷ [])) (one s.Void (λ v. name_behind (λ n. one s.OpenParen (λ p. deeper (Parameters Signal) (λ ps. just (BodyOf Method) (λ b. tree.signal t n ps b))))))
forms (TypeEnd n) = type_end n
forms (NamedBy x ms y) = named_by x ms y (async_in ms)
forms (Typed x ms y n) = typed x ms y n
forms (CreationOf n) = method_of Plain Method (λ ps ts b. tree.creation n ps ts b)
forms Bases = where_one s.Colon (λ t. just (TypeList []) as_it_is) (give [])
forms ThrowsOf = where_one s.Throws (λ t. just (TypeList []) as_it_is) (give [])
forms (TypeList ys) = here (Code AnyType) (λ y. left_out is_type_sign (where_one s.Comma (λ t. just (TypeList (ys ++ y ∷ [])) as_it_is) (give (ys ++ y ∷ []))))
forms (Fields ms) = left_out (sorted s.New) (where_one s.CloseBrace (λ c. give (tree.closed ms c)) (here (FieldOf []) (λ m. just (Fields (ms ++ m ∷ [])) as_it_is)))
forms (FieldOf ms) =
    where_some (any_follows may_follow_in_struct ms) (may_follow_in_struct ms) (λ t. just (MoreField (ms ++ tree.modifier t ∷ [])) as_it_is)
    (here (Code AnyType) (λ y. name_behind (λ n. left_out (one_of (s.OpenParen ∷ s.Assign ∷ [])) (end_with (λ c. tree.member [] ms (tree.field y n None c))))))
forms (MoreField ms) = left_out (sorted s.New) (just (FieldOf ms) as_it_is)
forms (EnumItems xs) = where_one s.CloseBrace (λ c. give (tree.closed xs c)) (here EnumItem (λ m. just (MoreEnumItems (xs ++ m ∷ [])) as_it_is))
forms (MoreEnumItems xs) = where_one s.Comma (λ t. just (EnumItems xs) as_it_is) (one s.CloseBrace (λ c. give (tree.closed xs c)))
forms EnumItem = one s.Identifier (λ t. where_one s.Assign (λ e. just (Code Whole) (λ v. tree.enum_member_with t v)) (give (tree.enum_member t)))
forms (ErrorCodes xs) = one s.Identifier (λ t. just (MoreErrorCodes (xs ++ code.identifier t ∷ [])) as_it_is)
forms (MoreErrorCodes xs) = where_one s.Comma (λ t. just (NextErrorCode xs) as_it_is) (one s.CloseBrace (λ c. give (tree.closed xs c)))
forms (NextErrorCode xs) = where_one s.CloseBrace (λ c. give (tree.closed xs c)) (just (ErrorCodes xs) as_it_is)
forms (Parameters w) = where_one s.CloseParen (λ c. give []) (here (ParameterOf w) (λ p. just (MoreParameters w (p ∷ [])) as_it_is))
forms (MoreParameters w ps) =
    pick (sorted s.Comma) (take same (length ps) (sorted s.Comma) (λ t. here (ParameterOf w) (λ p. just (MoreParameters w (ps ++ p ∷ [])) as_it_is))) (one s.CloseParen (λ c. give ps))
forms (ParameterOf w) = marked w
forms (ParameterType d) = here (Code AnyType) (λ y. just (ParameterName d y) as_it_is)
forms (ParameterName d y) =
    name_behind (λ n. where_one s.Assign (λ e. just (Code Whole) (λ v. tree.parameter_with d y n v)) (give (tree.parameter d y n)))
forms (BodyOf b) = body b
forms (Accessors xs) = left_out (sorted s.New) (where_one s.CloseBrace (λ c. give (tree.closed xs c)) (here AccessorOf (λ a. just (Accessors (xs ++ a ∷ [])) as_it_is)))
forms AccessorOf =
    where_token is_modifier (λ m. just (AccessorWords (Some m)) as_it_is)
    (where_one s.Default (λ t. one s.Assign (λ e. here (Code Whole) (λ v. end_with (λ c. tree.default_value t v c)))) (just (AccessorWords None) as_it_is))
forms (AccessorWords m) = accessor_words m
