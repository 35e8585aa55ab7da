-- One token of lookahead reads the grammar.
use Rattle.std.proofs.Common.{◌≡◌, ◌≤◌, true, [], ◌∷◌, refl, arith}
use Rattle.predictive_grammar.specs.Fit.{Opens, IsPredictive}
use Rattle.predictive_grammar.proofs.Fits.{opens_as}
use Rattle.vala_grammar.proofs.Predictive as code
use Rattle.vala_file_grammar.specs.Kinds.{Kind, sort_in}
use Rattle.vala_file_grammar.specs.Parts.{Outside, Inside, FilePart, Code, File, Usings, MoreUsings, FileMembers, Members, MemberOf, Attributes, Modifiers, MoreModifiers, AttributeOf, AttributeBody, AttributeArguments, MoreAttributeArguments, DeclarationOf, NamespaceOf, ClassOf, StructOf, EnumOf, ErrorsOf, DelegateOf, ConstantOf, DestructorOf, SignalOf, TypeEnd, NamedBy, Typed, CreationOf, Bases, ThrowsOf, TypeList, Fields, FieldOf, MoreField, EnumItems, MoreEnumItems, EnumItem, ErrorCodes, MoreErrorCodes, NextErrorCode, Parameters, MoreParameters, ParameterOf, ParameterType, ParameterName, BodyOf, Accessors, AccessorOf, AccessorWords}
use Rattle.vala_file_grammar.specs.Embed.{F}
use Rattle.vala_file_grammar.specs.Grammar.{forms}
use Rattle.vala_file_grammar.specs.Tables.{tables}
use Rattle.vala_file_grammar.proofs.Embedded.{fit_code, open_code}
use Rattle.vala_file_grammar.proofs.Tables.{tabled, FitsAs}
use Rattle.vala_file_grammar.proofs.Texts.{some}
use Rattle.vala_file_grammar.proofs.FitMembers.{fit_attribute, fit_attribute_arguments, fit_attribute_body, fit_attributes, fit_enum_item, fit_enum_items, fit_error_codes, fit_field, fit_fields, fit_file, fit_file_members, fit_member, fit_members, fit_modifiers, fit_more_attribute_arguments, fit_more_enum_items, fit_more_error_codes, fit_more_field, fit_more_modifiers, fit_more_usings, fit_next_error_code, fit_usings}
use Rattle.vala_file_grammar.proofs.FitTypes.{fit_accessor, fit_accessor_words, fit_accessors, fit_bases, fit_body, fit_more_parameters, fit_named, fit_parameter, fit_parameter_name, fit_parameter_type, fit_parameters, fit_throws, fit_type_end, fit_type_list}
use Rattle.vala_file_grammar.proofs.FitDeclarations.{fit_class, fit_constant, fit_creation, fit_declaration, fit_delegate, fit_destructor, fit_enum, fit_errors, fit_namespace, fit_signal, fit_struct, fit_typed}

fits : (p : FilePart) → FitsAs p
unfolding forms
fits (Code p) = fit_code (code.predictive.fits p)
fits File = fit_file
fits (Usings us) = fit_usings us
fits (MoreUsings us) = fit_more_usings us
fits (FileMembers us ms) = fit_file_members us ms
fits (Members y ms) = fit_members y ms
fits (MemberOf y) = fit_member y
fits (Attributes y xs) = fit_attributes y xs
fits (Modifiers y xs ms) = fit_modifiers y xs ms
fits (MoreModifiers y xs ms) = fit_more_modifiers y xs ms
fits AttributeOf = fit_attribute
fits (AttributeBody o) = fit_attribute_body o
fits (AttributeArguments xs) = fit_attribute_arguments xs
fits (MoreAttributeArguments xs) = fit_more_attribute_arguments xs
fits (DeclarationOf y ms) = fit_declaration y ms
fits (NamespaceOf t) = fit_namespace t
fits (ClassOf i t) = fit_class i t
fits (StructOf t) = fit_struct t
fits (EnumOf t) = fit_enum t
fits (ErrorsOf t) = fit_errors t
fits (DelegateOf t) = fit_delegate t
fits (ConstantOf t) = fit_constant t
fits (DestructorOf c t) = fit_destructor c t
fits (SignalOf t) = fit_signal t
fits (TypeEnd n) = fit_type_end n
fits (NamedBy y ms t) = fit_named y ms t
fits (Typed y ms t n) = fit_typed y ms t n
fits (CreationOf n) = fit_creation n
fits Bases = fit_bases
fits ThrowsOf = fit_throws
fits (TypeList ys) = fit_type_list ys
fits (Fields ms) = fit_fields ms
fits (FieldOf ms) = fit_field ms
fits (MoreField ms) = fit_more_field ms
fits (EnumItems xs) = fit_enum_items xs
fits (MoreEnumItems xs) = fit_more_enum_items xs
fits EnumItem = fit_enum_item
fits (ErrorCodes xs) = fit_error_codes xs
fits (MoreErrorCodes xs) = fit_more_error_codes xs
fits (NextErrorCode xs) = fit_next_error_code xs
fits (Parameters w) = fit_parameters w
fits (MoreParameters w ps) = fit_more_parameters w ps
fits (ParameterOf w) = fit_parameter w
fits (ParameterType d) = fit_parameter_type d
fits (ParameterName d y) = fit_parameter_name d y
fits (BodyOf b) = fit_body b
fits (Accessors xs) = fit_accessors xs
fits AccessorOf = fit_accessor
fits (AccessorWords m) = fit_accessor_words m

opening_as : (p : FilePart) (x : Kind) → tables.opens p x ≡ true → Opens F tables p x (forms p)
unfolding forms
opening_as (Code p) = λ x e. open_code (code.predictive.opens p (sort_in x) e)
opening_as File = opens_as tabled File refl
opening_as (Usings us) = opens_as tabled (Usings us) refl
opening_as (MoreUsings us) = opens_as tabled (MoreUsings us) refl
opening_as (FileMembers us ms) = opens_as tabled (FileMembers us ms) refl
opening_as (Members y ms) = opens_as tabled (Members y ms) refl
opening_as (MemberOf Outside) = opens_as tabled (MemberOf Outside) refl
opening_as (MemberOf (Inside i c)) = opens_as tabled (MemberOf (Inside i c)) refl
opening_as (Attributes y xs) = opens_as tabled (Attributes y xs) refl
opening_as (Modifiers Outside xs []) = opens_as tabled (Modifiers Outside xs []) refl
opening_as (Modifiers (Inside i c) xs []) = opens_as tabled (Modifiers (Inside i c) xs []) refl
opening_as (Modifiers y xs (m ∷ ms)) = opens_as tabled (Modifiers y xs (m ∷ ms)) refl
opening_as (MoreModifiers y xs ms) = opens_as tabled (MoreModifiers y xs ms) refl
opening_as AttributeOf = opens_as tabled AttributeOf refl
opening_as (AttributeBody o) = opens_as tabled (AttributeBody o) refl
opening_as (AttributeArguments xs) = opens_as tabled (AttributeArguments xs) refl
opening_as (MoreAttributeArguments xs) = opens_as tabled (MoreAttributeArguments xs) refl
opening_as (DeclarationOf Outside []) = opens_as tabled (DeclarationOf Outside []) refl
opening_as (DeclarationOf (Inside i c) []) = opens_as tabled (DeclarationOf (Inside i c) []) refl
opening_as (DeclarationOf y (m ∷ ms)) = opens_as tabled (DeclarationOf y (m ∷ ms)) refl
opening_as (NamespaceOf t) = opens_as tabled (NamespaceOf t) refl
opening_as (ClassOf i t) = opens_as tabled (ClassOf i t) refl
opening_as (StructOf t) = opens_as tabled (StructOf t) refl
opening_as (EnumOf t) = opens_as tabled (EnumOf t) refl
opening_as (ErrorsOf t) = opens_as tabled (ErrorsOf t) refl
opening_as (DelegateOf t) = opens_as tabled (DelegateOf t) refl
opening_as (ConstantOf t) = opens_as tabled (ConstantOf t) refl
opening_as (DestructorOf c t) = opens_as tabled (DestructorOf c t) refl
opening_as (SignalOf t) = opens_as tabled (SignalOf t) refl
opening_as (TypeEnd n) = opens_as tabled (TypeEnd n) refl
opening_as (NamedBy y ms t) = opens_as tabled (NamedBy y ms t) refl
opening_as (Typed y ms t n) = opens_as tabled (Typed y ms t n) refl
opening_as (CreationOf n) = opens_as tabled (CreationOf n) refl
opening_as Bases = opens_as tabled Bases refl
opening_as ThrowsOf = opens_as tabled ThrowsOf refl
opening_as (TypeList ys) = opens_as tabled (TypeList ys) refl
opening_as (Fields ms) = opens_as tabled (Fields ms) refl
opening_as (FieldOf ms) = opens_as tabled (FieldOf ms) refl
opening_as (MoreField ms) = opens_as tabled (MoreField ms) refl
opening_as (EnumItems xs) = opens_as tabled (EnumItems xs) refl
opening_as (MoreEnumItems xs) = opens_as tabled (MoreEnumItems xs) refl
opening_as EnumItem = opens_as tabled EnumItem refl
opening_as (ErrorCodes xs) = opens_as tabled (ErrorCodes xs) refl
opening_as (MoreErrorCodes xs) = opens_as tabled (MoreErrorCodes xs) refl
opening_as (NextErrorCode xs) = opens_as tabled (NextErrorCode xs) refl
opening_as (Parameters w) = opens_as tabled (Parameters w) refl
opening_as (MoreParameters w ps) = opens_as tabled (MoreParameters w ps) refl
opening_as (ParameterOf w) = opens_as tabled (ParameterOf w) refl
opening_as (ParameterType d) = opens_as tabled (ParameterType d) refl
opening_as (ParameterName d y) = opens_as tabled (ParameterName d y) refl
opening_as (BodyOf b) = opens_as tabled (BodyOf b) refl
opening_as (Accessors xs) = opens_as tabled (Accessors xs) refl
opening_as AccessorOf = opens_as tabled AccessorOf refl
opening_as (AccessorWords m) = opens_as tabled (AccessorWords m) refl

lows : (p : FilePart) → tables.rank p ≤ tables.top
lows (Code p) = code.predictive.low p
lows File = omega arith
lows _ = omega arith

pub predictive : IsPredictive F forms tables
predictive = record { fits = fits; opens = opening_as; some = some; low = lows }
