-- The texts of the parts are what the relations of c_tree say, and tokens are one unit at most.
use Rattle.std.proofs.Common.{◌≡◌, ℕ, true, false, List, sym, ap, ◌∙◌, true≢false}
use Rattle.predictive_grammar.specs.Exact.{IsText}
use Rattle.predictive_grammar.proofs.Main as main
use Rattle.c_tree.specs.declared.unit.Item.{Item}
use Rattle.c_tree.specs.Words.{Word}
use Rattle.c_tree.specs.Names.{Names, library_names}
use Rattle.c_tree.specs.Items.{ReadsItems}
use Rattle.c_tree.specs.Laws.{OneUnit}
use Rattle.c_grammar.specs.Parts.{What, tree_of, at, Consts, Stars, TypeRest, TypeMore, AnyType, Value, Choosing, ChoosingTail, Upto, Links, Operand, Prefixed, Place, Primary, Unnamed, Suffixes, Arguments, MoreArguments, KeyType, LocalOf, LocalRest, SignedNumberOf, GotoOf, Cases, BlockOf, Body, Statements, Statement, PlainStmt, NamedStmt, ValueStmt, Assigned, AssignedTail, ElseOf, MemberOf, Members, MoreMembers, Fields, ParameterOf, ParameterEnd, MoreParameters, ParametersOf, IntType, TextsType, TableInside, DeclaredOf, TypedEnd, StaticEnd, InfoEnd, StaticRest, TypedefRest, ItemOf, ItemsOf}
use Rattle.c_grammar.specs.Grammar.{C, forms}
use Rattle.c_grammar.specs.Tables.{tables}
use Rattle.c_grammar.specs.Laws.{ReadsExactly, HasOneTree, TypesAreTold, ValuesAreTold, StatementsAreTold, BlocksAreTold, ItemsAreTold}
use Rattle.c_grammar.proofs.Predictive.{predictive}
use Rattle.c_grammar.proofs.Told.{Closed, sound}
use Rattle.c_grammar.proofs.Meaning.{Means, Meant, Holds}
use Rattle.c_grammar.proofs.SoundTypes.{sound_consts, sound_stars, sound_type_rest, sound_type_more, sound_any_type, sound_key_type}
use Rattle.c_grammar.proofs.SoundValues.{sound_value, sound_choosing, sound_choosing_tail, sound_upto, sound_links, sound_operand, sound_prefixed, sound_place, sound_primary, sound_unnamed, sound_suffixes, sound_arguments, sound_more_arguments}
use Rattle.c_grammar.proofs.SoundStatements.{sound_local_of, sound_local_rest, sound_signed_number, sound_goto, sound_cases, sound_block, sound_body, sound_statements, sound_statement, sound_plain, sound_named, sound_value_stmt, sound_assigned, sound_assigned_tail, sound_else}
use Rattle.c_grammar.proofs.SoundItems.{sound_member, sound_members, sound_more_members, sound_fields, sound_parameter, sound_parameter_end, sound_more_parameters, sound_parameters, sound_int_type, sound_texts_type, sound_table_inside, sound_declared, sound_typed_end, sound_static_end, sound_info_end, sound_static_rest, sound_typedef, sound_item, sound_items}
use Rattle.c_grammar.proofs.FindTypes.{find_type}
use Rattle.c_grammar.proofs.FindValues.{value_text, find}
use Rattle.c_grammar.proofs.FindStatements.{find_stmt, find_block, statement_text}
use Rattle.c_grammar.proofs.FindItems.{find_items}

holds : (ns : Names) (p : What) → Holds ns p
holds ns Consts = sound_consts ns
holds ns (Stars must) = sound_stars ns must
holds ns (TypeRest u t must) = sound_type_rest ns u t must
holds ns (TypeMore u t) = sound_type_more ns u t
holds ns (AnyType anyhow object) = sound_any_type ns anyhow object
holds ns (Value k) = sound_value ns k
holds ns (Choosing k) = sound_choosing ns k
holds ns (ChoosingTail k a) = sound_choosing_tail ns k a
holds ns (Upto l k a) = sound_upto ns l k a
holds ns (Links l k) = sound_links ns l k
holds ns (Operand l k) = sound_operand ns l k
holds ns (Prefixed k) = sound_prefixed ns k
holds ns Place = sound_place ns
holds ns (Primary k) = sound_primary ns k
holds ns Unnamed = sound_unnamed ns
holds ns (Suffixes dot must) = sound_suffixes ns dot must
holds ns Arguments = sound_arguments ns
holds ns MoreArguments = sound_more_arguments ns
holds ns KeyType = sound_key_type ns
holds ns LocalOf = sound_local_of ns
holds ns (LocalRest t) = sound_local_rest ns t
holds ns SignedNumberOf = sound_signed_number ns
holds ns GotoOf = sound_goto ns
holds ns Cases = sound_cases ns
holds ns BlockOf = sound_block ns
holds ns Body = sound_body ns
holds ns Statements = sound_statements ns
holds ns Statement = sound_statement ns
holds ns PlainStmt = sound_plain ns
holds ns (NamedStmt t) = sound_named ns t
holds ns (ValueStmt a) = sound_value_stmt ns a
holds ns (Assigned b) = sound_assigned ns b
holds ns (AssignedTail b a) = sound_assigned_tail ns b a
holds ns (ElseOf a b) = sound_else ns a b
holds ns MemberOf = sound_member ns
holds ns Members = sound_members ns
holds ns MoreMembers = sound_more_members ns
holds ns Fields = sound_fields ns
holds ns ParameterOf = sound_parameter ns
holds ns (ParameterEnd c) = sound_parameter_end ns c
holds ns MoreParameters = sound_more_parameters ns
holds ns (ParametersOf main) = sound_parameters ns main
holds ns IntType = sound_int_type ns
holds ns TextsType = sound_texts_type ns
holds ns TableInside = sound_table_inside ns
holds ns (DeclaredOf b c n from) = sound_declared ns b c n from
holds ns (TypedEnd c) = sound_typed_end ns c
holds ns (StaticEnd t c) = sound_static_end ns t c
holds ns (InfoEnd t k i) = sound_info_end ns t k i
holds ns (StaticRest t) = sound_static_rest ns t
holds ns (TypedefRest t) = sound_typedef ns t
holds ns (ItemOf line) = sound_item ns line
holds ns (ItemsOf line) = sound_items ns line

closed : Closed Meant
closed p w a d = holds p.names p.what w a d

-- what a text says
means : (ns : Names) (q : What) (l : ℕ) (w : Word) (x : tree_of q) → IsText C forms (at ns q) l w x → Means ns q w x
means ns q l w x t = sound Meant closed (at ns q) l w x t

pub reads_exactly : ReadsExactly
reads_exactly p level limits input = main.answers C forms tables predictive p level limits input

pub has_one_tree : HasOneTree
has_one_tree p level u w a b e x y = main.one_tree C forms tables predictive p level u w a b e x y

pub types_are_told : TypesAreTold
types_are_told ns anyhow object l w c = ((λ t. let m = means ns (AnyType anyhow object) l w c t in (m.reads, m.fits)), (λ d. find_type ns anyhow object d.0 d.1 l))

pub values_are_told : ValuesAreTold
values_are_told ns k l w e = ((λ t. means ns (Value k) l w e t), (λ d. value_text ns k (find d) l))

pub statements_are_told : StatementsAreTold
statements_are_told ns l w s = ((λ t. means ns Statement l w s t), (λ d. statement_text ns (find_stmt d) l))

pub blocks_are_told : BlocksAreTold
blocks_are_told ns l w b = ((λ t. means ns BlockOf l w b t), (λ d. find_block d l))

pub items_are_told : ItemsAreTold
items_are_told ns l w is = ((λ t. (means ns (ItemsOf false) l w is t).0), (λ d. find_items false d (λ e. absurd (true≢false (sym e))) l))

-- two texts of items with the same tokens
one_list : (w : Word) (a b : List Item) → ReadsItems library_names w a → ReadsItems library_names w b → a ≡ b
one_list w a b d e =
    let x = (items_are_told library_names 0 w a).1 d in let y = (items_are_told library_names 0 w b).1 e in
    has_one_tree (at library_names (ItemsOf false)) 0 x.0 y.0 a b (x.1 ∙ sym y.1) x.2 y.2

pub one_unit : OneUnit
one_unit w a b d e = ap (λ (is : List Item). record { items = is }) (one_list w a.items b.items d.items e.items)
