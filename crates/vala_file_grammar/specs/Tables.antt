-- What is said of each part: which kinds of tokens begin it, in front of which it ends, and which tree it has without tokens.
use Rattle.std.specs.Prelude.{◌≡◌, ℕ, Bool, true, false, not, ◌||◌, [], ◌∷◌, None}
use Rattle.predictive_grammar.specs.Fit.{Tables}
use Rattle.vala_tree.specs.declared.names.TypeTree.{TypeTree}
use Rattle.vala_grammar.specs.declared.sort.Sort.TheVariants as s
use Rattle.vala_grammar.specs.declared.parts.TypeName.{TypeName}
use Rattle.vala_grammar.specs.declared.parts.TypeName.TheVariants as type_name
use Rattle.vala_grammar.specs.Trees as code
use Rattle.vala_grammar.specs.Tables as code_tables
use Rattle.vala_file_grammar.specs.declared.kind.Special.TheVariants as special
use Rattle.vala_file_grammar.specs.Kinds.{Kind, sort_in, sorted, one_of, word}
use Rattle.vala_file_grammar.specs.Parts.{Place, Outside, Inside, Owner, Plain, Bodied, Accessing, FilePart, file_tree_of, Code, File, Usings, MoreUsings, FileMembers, Members, MemberOf, Attributes, Modifiers, MoreModifiers, AttributeOf, AttributeBody, AttributeArguments, MoreAttributeArguments, DeclarationOf, NamespaceOf, ClassOf, StructOf, EnumOf, ErrorsOf, DelegateOf, ConstantOf, DestructorOf, SignalOf, TypeEnd, NamedBy, Typed, CreationOf, Bases, ThrowsOf, TypeList, Fields, FieldOf, MoreField, EnumItems, MoreEnumItems, EnumItem, ErrorCodes, MoreErrorCodes, NextErrorCode, Parameters, MoreParameters, ParameterOf, ParameterType, ParameterName, BodyOf, Accessors, AccessorOf, AccessorWords}
use Rattle.vala_file_grammar.specs.Embed.{F}
use Rattle.vala_file_grammar.specs.Heads.{is_modifier}
use Rattle.vala_file_grammar.specs.Grammar.{begins_type, begins_declaration, begins_member, is_left_out}

-- ---- what begins a part

abbrev pub begins_parameter : Owner → Kind → Bool
begins_parameter w x = one_of (s.Out ∷ s.Ref ∷ []) x || begins_type x

abbrev pub begins_accessor_words : Kind → Bool
begins_accessor_words x = one_of (s.Owned ∷ s.Construct ∷ []) x || (word special.Get x || word special.Set x)

abbrev pub begins_accessor : Kind → Bool
begins_accessor x = is_modifier x || (sorted s.Default x || begins_accessor_words x)

abbrev pub begins_body : Bodied → Kind → Bool
begins_body Accessing x = one_of (s.Semicolon ∷ s.OpenBrace ∷ s.Throws ∷ []) x
begins_body _ x = one_of (s.Semicolon ∷ s.OpenBrace ∷ []) x

-- behind the name of what has a type
abbrev pub begins_typed : Place → Kind → Bool
begins_typed Outside x = one_of (s.Semicolon ∷ s.Assign ∷ s.OpenParen ∷ []) x
begins_typed (Inside i c) x = one_of (s.Semicolon ∷ s.Assign ∷ s.OpenParen ∷ s.OpenBrace ∷ s.Throws ∷ []) x

abbrev pub begins_type_end : TypeName → Kind → Bool
begins_type_end n x = sorted s.Question x

abbrev pub begins_named : Kind → Bool
begins_named = one_of (s.Identifier ∷ s.Star ∷ s.Less ∷ [])

abbrev pub first_of : FilePart → Kind → Bool
first_of (Code p) x = code_tables.first_of p (sort_in x)
first_of File x = sorted s.Using x || (begins_member Outside x || is_left_out Outside x)
first_of (Usings _) x = sorted s.Using x || (begins_member Outside x || is_left_out Outside x)
first_of (MoreUsings _) x = one_of (s.Comma ∷ s.Semicolon ∷ []) x
first_of (FileMembers _ _) x = begins_member Outside x || is_left_out Outside x
first_of (Members y _) x = sorted s.CloseBrace x || (begins_member y x || is_left_out y x)
first_of (MemberOf y) x = begins_member y x
first_of (Attributes y _) x = begins_member y x || is_left_out y x
first_of (Modifiers y _ _) x = is_modifier x || begins_declaration y x
first_of (MoreModifiers y _ _) x = (is_modifier x || begins_declaration y x) || is_left_out y x
first_of AttributeOf x = sorted s.OpenBracket x
first_of (AttributeBody _) x = sorted s.Identifier x
first_of (AttributeArguments _) x = sorted s.Identifier x
first_of (MoreAttributeArguments _) x = one_of (s.Comma ∷ s.CloseParen ∷ []) x
first_of (DeclarationOf y _) x = begins_declaration y x
first_of (NamespaceOf _) x = sorted s.Identifier x
first_of (ClassOf _ _) x = sorted s.Identifier x
first_of (StructOf _) x = sorted s.Identifier x
first_of (EnumOf _) x = sorted s.Identifier x
first_of (ErrorsOf _) x = sorted s.Identifier x
first_of (DelegateOf _) x = begins_type x
first_of (ConstantOf _) x = begins_type x
first_of (DestructorOf _ _) x = sorted s.Identifier x
first_of (SignalOf _) x = begins_type x
first_of (TypeEnd n) x = begins_type_end n x
first_of (NamedBy _ _ _) x = begins_named x
first_of (Typed y _ _ _) x = begins_typed y x
first_of (CreationOf _) x = sorted s.CloseParen x || begins_parameter Plain x
first_of Bases x = sorted s.Colon x
first_of ThrowsOf x = sorted s.Throws x
first_of (TypeList _) x = begins_type x
first_of (Fields _) x = one_of (s.CloseBrace ∷ s.New ∷ []) x || (is_modifier x || begins_type x)
first_of (FieldOf _) x = is_modifier x || begins_type x
first_of (MoreField _) x = sorted s.New x || (is_modifier x || begins_type x)
first_of (EnumItems _) x = one_of (s.CloseBrace ∷ s.Identifier ∷ []) x
first_of (MoreEnumItems _) x = one_of (s.Comma ∷ s.CloseBrace ∷ []) x
first_of EnumItem x = sorted s.Identifier x
first_of (ErrorCodes _) x = sorted s.Identifier x
first_of (MoreErrorCodes _) x = one_of (s.Comma ∷ s.CloseBrace ∷ []) x
first_of (NextErrorCode _) x = one_of (s.CloseBrace ∷ s.Identifier ∷ []) x
first_of (Parameters w) x = sorted s.CloseParen x || begins_parameter w x
first_of (MoreParameters _ _) x = one_of (s.Comma ∷ s.CloseParen ∷ []) x
first_of (ParameterOf w) x = begins_parameter w x
first_of (ParameterType _) x = begins_type x
first_of (ParameterName _ _) x = begins_named x
first_of (BodyOf b) x = begins_body b x
first_of (Accessors _) x = one_of (s.CloseBrace ∷ s.New ∷ []) x || begins_accessor x
first_of AccessorOf x = begins_accessor x
first_of (AccessorWords _) x = begins_accessor_words x

-- the parts that a choice takes by their first token
abbrev pub opens_of : FilePart → Kind → Bool
opens_of (Code p) x = code_tables.opens_of p (sort_in x)
opens_of (MemberOf y) x = begins_member y x
opens_of (Modifiers y _ []) x = is_modifier x || begins_declaration y x
opens_of AttributeOf x = sorted s.OpenBracket x
opens_of (DeclarationOf y []) x = begins_declaration y x
opens_of _ x = false

-- ---- the trees without tokens

-- the type that a name alone is
abbrev pub plain_type : TypeName → TypeTree
plain_type (type_name.Single n) = code.single_type None n None
plain_type (type_name.Array n c) = code.array_type None n None c None

abbrev pub none_of : (p : FilePart) → file_tree_of p → Type 0
none_of (Code p) a = code_tables.none_of p a
none_of File a = a ≡ record { usings = []; members = [] }
none_of (Usings us) a = a ≡ record { usings = us; members = [] }
none_of (FileMembers us ms) a = a ≡ record { usings = us; members = ms }
none_of (TypeEnd n) a = a ≡ plain_type n
none_of Bases a = a ≡ []
none_of ThrowsOf a = a ≡ []
none_of _ a = ⊥

-- ---- in front of what a part ends

-- what is no declaration
abbrev pub behind_file : Kind → Bool
behind_file x = not (sorted s.Using x || (begins_member Outside x || is_left_out Outside x))

abbrev pub stop_of : (p : FilePart) → file_tree_of p → Kind → Bool
stop_of (Code p) a x = code_tables.stop_of p a (sort_in x)
stop_of File a x = behind_file x
stop_of (Usings _) a x = behind_file x
stop_of (MoreUsings _) a x = behind_file x
stop_of (FileMembers _ _) a x = behind_file x
stop_of (TypeEnd _) a x = begins_named x
stop_of Bases a x = sorted s.OpenBrace x
stop_of ThrowsOf a x = one_of (s.OpenBrace ∷ s.Semicolon ∷ []) x
stop_of (TypeList _) a x = one_of (s.OpenBrace ∷ s.Semicolon ∷ []) x
stop_of EnumItem a x = one_of (s.Comma ∷ s.CloseBrace ∷ []) x
stop_of (ParameterOf _) a x = one_of (s.Comma ∷ s.CloseParen ∷ []) x
stop_of (ParameterType _) a x = one_of (s.Comma ∷ s.CloseParen ∷ []) x
stop_of (ParameterName _ _) a x = one_of (s.Comma ∷ s.CloseParen ∷ []) x
stop_of _ a x = true

-- ---- ranks

abbrev pub rank_of : FilePart → ℕ
rank_of (Code p) = code_tables.rank_of p
rank_of File = 8
rank_of (Usings _) = 7
rank_of (FileMembers _ _) = 6
rank_of (Members _ _) = 6
rank_of (MemberOf _) = 5
rank_of (Attributes _ _) = 5
rank_of (Modifiers _ _ _) = 4
rank_of (MoreModifiers _ _ _) = 5
rank_of (DeclarationOf _ _) = 3
rank_of (NamespaceOf _) = 1
rank_of (ClassOf _ _) = 1
rank_of (StructOf _) = 1
rank_of (EnumOf _) = 1
rank_of (ErrorsOf _) = 1
rank_of (DelegateOf _) = 3
rank_of (ConstantOf _) = 3
rank_of (CreationOf _) = 6
rank_of (TypeList _) = 3
rank_of (Fields _) = 4
rank_of (FieldOf _) = 3
rank_of (MoreField _) = 4
rank_of (EnumItems _) = 1
rank_of (NextErrorCode _) = 1
rank_of (Parameters _) = 5
rank_of (ParameterOf _) = 4
rank_of (ParameterType _) = 3
rank_of (BodyOf _) = 1
rank_of (Accessors _) = 2
rank_of AccessorOf = 1
rank_of _ = 0

abbrev pub tables : Tables F
tables = record { first = first_of; opens = opens_of; none = none_of; stop = stop_of; rank = rank_of; top = 12 }
