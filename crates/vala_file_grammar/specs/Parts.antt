-- The parts of a file's declarations, and what tree each has.
use Rattle.std.specs.Prelude.{ℕ, Bool, List, Option}
use Rattle.vala_lexer.specs.Tokens.{Lexeme}
use Rattle.vala_tree.specs.declared.names.Identifier.{Identifier}
use Rattle.vala_tree.specs.declared.names.NameTree.{NameTree}
use Rattle.vala_tree.specs.declared.names.TypeTree.{TypeTree}
use Rattle.vala_tree.specs.declared.member.AttributeArgument.{AttributeArgument}
use Rattle.vala_tree.specs.declared.member.Attribute.{Attribute}
use Rattle.vala_tree.specs.declared.member.Modifier.{Modifier}
use Rattle.vala_tree.specs.declared.member.Parameter.{Parameter}
use Rattle.vala_tree.specs.declared.member.EnumMember.{EnumMember}
use Rattle.vala_tree.specs.declared.member.Accessor.{Accessor}
use Rattle.vala_tree.specs.declared.member.Member.{Member}
use Rattle.vala_grammar.specs.declared.parts.TypeName.{TypeName}
use Rattle.vala_grammar.specs.Parts.{Part, tree_of}
use Rattle.vala_file_grammar.specs.Trees.{Closed, Ending, Declared, FileText}

-- Where a declaration stands: at the top of a file or in a namespace; or in a class, or an interface, whose name ends with this word.
pub data Place : Type 0 where
  Outside : Place
  Inside : (is_interface : Bool) → List ℕ → Place

-- Whose parameters they are: those of a method, a creation method or a delegate; of an async method; of a signal.
pub data Owner : Type 0 where
  Plain : Owner
  Async : Owner
  Signal : Owner

-- Whose body it is.
pub data Bodied : Type 0 where
  Method : Bodied
  InterfaceMethod : Bodied
  Accessing : Bodied

-- Some parts go on with what was read before them: it stands in brackets.
pub data FilePart : Type 0 where
  -- a part of an expression, a type, a name or a statement
  Code : Part → FilePart
  -- a file; what follows these names of `using`, and these of one that is not ended; what follows these declarations
  File : FilePart
  Usings : List NameTree → FilePart
  MoreUsings : List NameTree → FilePart
  FileMembers : List NameTree → List Member → FilePart
  -- what follows these declarations in braces
  Members : Place → List Member → FilePart
  -- a declaration; what follows these attributes; what follows these modifiers, where one more may stand, and where one stands in front
  MemberOf : Place → FilePart
  Attributes : Place → List Attribute → FilePart
  Modifiers : Place → List Attribute → List Modifier → FilePart
  MoreModifiers : Place → List Attribute → List Modifier → FilePart
  -- an attribute; what follows its `[`; an argument behind these, and what follows these
  AttributeOf : FilePart
  AttributeBody : Lexeme → FilePart
  AttributeArguments : List AttributeArgument → FilePart
  MoreAttributeArguments : List AttributeArgument → FilePart
  -- a declaration without what stands in front, which are these modifiers; what follows the words that begin it
  DeclarationOf : Place → List Modifier → FilePart
  NamespaceOf : Lexeme → FilePart
  ClassOf : Bool → Lexeme → FilePart
  StructOf : Lexeme → FilePart
  EnumOf : Lexeme → FilePart
  ErrorsOf : Lexeme → FilePart
  DelegateOf : Lexeme → FilePart
  ConstantOf : Lexeme → FilePart
  -- of the class or interface whose name ends with this word
  DestructorOf : List ℕ → Lexeme → FilePart
  SignalOf : Lexeme → FilePart
  -- what follows a type's name; the name of a declaration of this type behind these modifiers; what follows that
  TypeEnd : TypeName → FilePart
  NamedBy : Place → List Modifier → TypeTree → FilePart
  Typed : Place → List Modifier → TypeTree → Lexeme → FilePart
  -- what follows the name of a creation method
  CreationOf : NameTree → FilePart
  -- the bases of a class; the types of `throws`; a type behind these
  Bases : FilePart
  ThrowsOf : FilePart
  TypeList : List TypeTree → FilePart
  -- what follows `{` of a struct and these fields; a field that these modifiers stand in front of, and one where a modifier was the last
  Fields : List Member → FilePart
  FieldOf : List Modifier → FilePart
  MoreField : List Modifier → FilePart
  -- what follows these members of an enum where one more may stand, and where it may not; one of them
  EnumItems : List EnumMember → FilePart
  MoreEnumItems : List EnumMember → FilePart
  EnumItem : FilePart
  -- a code behind these of an error domain; what follows these, and a comma behind these
  ErrorCodes : List Identifier → FilePart
  MoreErrorCodes : List Identifier → FilePart
  NextErrorCode : List Identifier → FilePart
  -- what follows `(`; what follows these parameters; one of them; its type; its name
  Parameters : Owner → FilePart
  MoreParameters : Owner → List Parameter → FilePart
  ParameterOf : Owner → FilePart
  ParameterType : Option Lexeme → FilePart
  ParameterName : Option Lexeme → TypeTree → FilePart
  -- a block or `;`
  BodyOf : Bodied → FilePart
  -- what follows these accessors; one of them; what follows this modifier of it
  Accessors : List Accessor → FilePart
  AccessorOf : FilePart
  AccessorWords : Option Lexeme → FilePart

abbrev pub file_tree_of : FilePart → Type 0
file_tree_of (Code p) = tree_of p
file_tree_of File = FileText
file_tree_of (Usings _) = FileText
file_tree_of (MoreUsings _) = FileText
file_tree_of (FileMembers _ _) = FileText
file_tree_of (Members _ _) = Closed Member
file_tree_of (MemberOf _) = Member
file_tree_of (Attributes _ _) = Member
file_tree_of (Modifiers _ _ _) = Member
file_tree_of (MoreModifiers _ _ _) = Member
file_tree_of AttributeOf = Attribute
file_tree_of (AttributeBody _) = Attribute
file_tree_of (AttributeArguments _) = List AttributeArgument
file_tree_of (MoreAttributeArguments _) = List AttributeArgument
file_tree_of (TypeEnd _) = TypeTree
file_tree_of Bases = List TypeTree
file_tree_of ThrowsOf = List TypeTree
file_tree_of (TypeList _) = List TypeTree
file_tree_of (Fields _) = Closed Member
file_tree_of (FieldOf _) = Member
file_tree_of (MoreField _) = Member
file_tree_of (EnumItems _) = Closed EnumMember
file_tree_of (MoreEnumItems _) = Closed EnumMember
file_tree_of EnumItem = EnumMember
file_tree_of (ErrorCodes _) = Closed Identifier
file_tree_of (MoreErrorCodes _) = Closed Identifier
file_tree_of (NextErrorCode _) = Closed Identifier
file_tree_of (Parameters _) = List Parameter
file_tree_of (MoreParameters _ _) = List Parameter
file_tree_of (ParameterOf _) = Parameter
file_tree_of (ParameterType _) = Parameter
file_tree_of (ParameterName _ _) = Parameter
file_tree_of (BodyOf _) = Ending
file_tree_of (Accessors _) = Closed Accessor
file_tree_of AccessorOf = Accessor
file_tree_of (AccessorWords _) = Accessor
file_tree_of (DeclarationOf _ _) = Declared
file_tree_of (NamespaceOf _) = Declared
file_tree_of (ClassOf _ _) = Declared
file_tree_of (StructOf _) = Declared
file_tree_of (EnumOf _) = Declared
file_tree_of (ErrorsOf _) = Declared
file_tree_of (DelegateOf _) = Declared
file_tree_of (ConstantOf _) = Declared
file_tree_of (DestructorOf _ _) = Declared
file_tree_of (SignalOf _) = Declared
file_tree_of (NamedBy _ _ _) = Declared
file_tree_of (Typed _ _ _ _) = Declared
file_tree_of (CreationOf _) = Declared
