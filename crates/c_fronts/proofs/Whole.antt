-- What is known of items hangs on their front alone.
use Rattle.std.proofs.Common.{◌≡◌, refl, false, List, [], ◌∷◌, ◌++◌}
use Rattle.std.specs.List.{All}
use Rattle.std.proofs.lemmas.List.Elements.{All-head}
use Rattle.c_tree.specs.declared.unit.Item.{Item}
use Rattle.c_tree.specs.Words.{Word}
use Rattle.c_tree.specs.Names.{Names, library_names}
use Rattle.c_tree.specs.Env.{library}
use Rattle.c_tree.specs.Answers.{Made, AreItems, faults_of}
use Rattle.c_grammar.specs.Parts as w
use Rattle.c_grammar.specs.Parts.{What, at}
use Rattle.c_grammar.specs.Grammar.{C, forms}
use Rattle.c_grammar.specs.Tables.{tables}
use Rattle.c_grammar.proofs.Predictive.{predictive}
use Rattle.c_grammar.proofs.Joined.{items_are_told}
use Rattle.c_fronts.proofs.Marks.{Marks, Each, Final, alike}
use Rattle.c_fronts.proofs.Shows.{Probe, shows}
use Rattle.c_fronts.proofs.Telling.{Edge, Outside, Context_of, telling, LateToken, BehindToken}
use Rattle.c_fronts.proofs.MarkTypes.{Mark, mark_consts, mark_stars, mark_type_rest, mark_type_more, mark_any_type}
use Rattle.c_fronts.proofs.MarkValues.{mark_value, mark_choosing, mark_choosing_tail, mark_upto, mark_links, mark_operand, mark_prefixed, mark_place}
use Rattle.c_fronts.proofs.MarkValues.{mark_primary, mark_unnamed}
use Rattle.c_fronts.proofs.MarkLists.{mark_suffixes, mark_arguments, mark_more_arguments}
use Rattle.c_fronts.proofs.MarkStatements.{mark_assigned, mark_assigned_tail, mark_value_stmt, mark_named_stmt, mark_else, mark_plain_stmt}
use Rattle.c_fronts.proofs.MarkStatements.{mark_statement, mark_statements, mark_local_rest, mark_key_type, mark_body, mark_block, mark_number}
use Rattle.c_fronts.proofs.MarkStatements.{mark_goto, mark_cases}
use Rattle.c_fronts.proofs.MarkItems.{mark_member, mark_members, mark_more_members, mark_local, mark_fields, mark_parameter_end, mark_parameter}
use Rattle.c_fronts.proofs.MarkItems.{mark_more_parameters, mark_parameters, mark_int_type, mark_texts_type, mark_declared, mark_typed_end}
use Rattle.c_fronts.proofs.MarkItems.{mark_static_end, mark_table_inside, mark_info_end, mark_static_rest, mark_typedef_rest, mark_item, mark_items}

-- 1. Every part is marked

marked : (edge : Edge) (ns : Names) (q : What) (c : Context_of q) → Mark edge ns q c
marked edge ns w.Consts c = mark_consts edge ns
marked edge ns (w.Stars must) c = mark_stars edge ns must
marked edge ns (w.TypeRest u t must) c = mark_type_rest edge ns u t must c
marked edge ns (w.TypeMore u t) c = mark_type_more edge ns u t c
marked edge ns (w.AnyType anyhow object) c = mark_any_type edge ns anyhow object c
marked edge ns (w.Value k) c = mark_value edge ns k c
marked edge ns (w.Choosing k) c = mark_choosing edge ns k c
marked edge ns (w.ChoosingTail k a) c = mark_choosing_tail edge ns k a c
marked edge ns (w.Upto l k a) c = mark_upto edge ns l k a c
marked edge ns (w.Links l k) c = mark_links edge ns l k c
marked edge ns (w.Operand l k) c = mark_operand edge ns l k c
marked edge ns (w.Prefixed k) c = mark_prefixed edge ns k c
marked edge ns w.Place c = mark_place edge ns c
marked edge ns (w.Primary k) c = mark_primary edge ns k c
marked edge ns w.Unnamed c = mark_unnamed edge ns c
marked edge ns (w.Suffixes dot must) c = mark_suffixes edge ns dot must c
marked edge ns w.Arguments c = mark_arguments edge ns c
marked edge ns w.MoreArguments c = mark_more_arguments edge ns c
marked edge ns w.KeyType c = mark_key_type edge ns c
marked edge ns w.LocalOf c = mark_local edge ns c
marked edge ns (w.LocalRest t) c = mark_local_rest edge ns t c
marked edge ns w.SignedNumberOf c = mark_number edge ns
marked edge ns w.GotoOf c = mark_goto edge ns
marked edge ns w.Cases c = mark_cases edge ns
marked edge ns w.BlockOf c = mark_block edge ns c
marked edge ns w.Body c = mark_body edge ns c
marked edge ns w.Statements c = mark_statements edge ns c
marked edge ns w.Statement c = mark_statement edge ns c
marked edge ns w.PlainStmt c = mark_plain_stmt edge ns c
marked edge ns (w.NamedStmt t) c = mark_named_stmt edge ns t c
marked edge ns (w.ValueStmt a) c = mark_value_stmt edge ns a c
marked edge ns (w.Assigned b) c = mark_assigned edge ns b c
marked edge ns (w.AssignedTail b a) c = mark_assigned_tail edge ns b a c
marked edge ns (w.ElseOf a b) c = mark_else edge ns a b c
marked edge ns w.MemberOf c = mark_member edge ns c
marked edge ns w.Members c = mark_members edge ns c
marked edge ns w.MoreMembers c = mark_more_members edge ns c
marked edge ns w.Fields c = mark_fields edge ns c
marked edge ns w.ParameterOf c = mark_parameter edge ns c
marked edge ns (w.ParameterEnd y) c = mark_parameter_end edge ns y c
marked edge ns w.MoreParameters c = mark_more_parameters edge ns c
marked edge ns (w.ParametersOf main) c = mark_parameters edge ns main c
marked edge ns w.IntType c = mark_int_type edge ns c
marked edge ns w.TextsType c = mark_texts_type edge ns c
marked edge ns w.TableInside c = mark_table_inside edge ns c
marked edge ns (w.DeclaredOf b y n from) c = mark_declared edge ns b y n from c
marked edge ns (w.TypedEnd y) c = mark_typed_end edge ns y c
marked edge ns (w.StaticEnd t y) c = mark_static_end edge ns t y c
marked edge ns (w.InfoEnd t k i) c = mark_info_end edge ns t k i c
marked edge ns (w.StaticRest t) c = mark_static_rest edge ns t c
marked edge ns (w.TypedefRest t) c = mark_typedef_rest edge ns t c
marked edge ns (w.ItemOf line) c = mark_item edge ns line c
marked edge ns (w.ItemsOf line) c = mark_items edge ns line c

all_marked : (edge : Edge) → Marks C forms (telling edge)
all_marked edge p c = marked edge p.names p.what c

-- 2. Two texts with one front

each_of : {A : Type 0} (P : A → Type 0) (xs : List A) → All P xs → Each P xs
each_of P [] h = tt
each_of P (x ∷ xs) h = (All-head P x xs h, each_of P xs (Rattle.std.proofs.lemmas.List.Elements.All-tail P x xs h))

pub same_shown : (edge : Edge) (p : Probe) (v v' x : Word) (is is' : List Item) → Final (LateToken edge) x → Made edge.place v → Made edge.place v'
    → AreItems (x ++ v) is → AreItems (x ++ v') is'
    → shows edge.last p (faults_of is) ≡ shows edge.last p (faults_of is')
same_shown edge p v v' x is is' last m m' r r' =
    let d = (items_are_told library_names 0 (x ++ v) is).1 r in
    let d' = (items_are_told library_names 0 (x ++ v') is').1 r' in
    (alike C forms (telling edge) (all_marked edge) tables predictive d.2 d'.2 false (tables.first (at library_names (w.ItemsOf false)))
    (tables.none (at library_names (w.ItemsOf false))) (predictive.fits (at library_names (w.ItemsOf false)))
    outside false (Unit {0}) (mark_items edge library_names false outside) x v v' d.1 d'.1 last (each_of (BehindToken edge) v m)
    (each_of (BehindToken edge) v' m') (λ e. tt)).same
  where
    outside : Outside
    outside = record { probe = p; env = library; info = refl }
