-- Files, members, attributes, structs and enums fit.
use Rattle.std.proofs.Common.{◌||◌, Bool, false, refl, List}
use Rattle.predictive_grammar.specs.Fit.{Within, Apart}
use Rattle.predictive_grammar.proofs.Sets.{Disjoint, within, apart, or_left, or_right}
use Rattle.predictive_grammar.proofs.Fits.{Fits, never, nothing, either, barred_by, widen, widen_by, done, token, text, choice, barred, fit_part, where_token}
use Rattle.vala_lexer.specs.Tokens.{Lexeme}
use Rattle.vala_tree.specs.declared.names.Identifier.{Identifier}
use Rattle.vala_tree.specs.declared.names.NameTree.{NameTree}
use Rattle.vala_tree.specs.declared.member.AttributeArgument.{AttributeArgument}
use Rattle.vala_tree.specs.declared.member.Attribute.{Attribute}
use Rattle.vala_tree.specs.declared.member.Modifier.{Modifier}
use Rattle.vala_tree.specs.declared.member.EnumMember.{EnumMember}
use Rattle.vala_tree.specs.declared.member.Member.{Member}
use Rattle.vala_grammar.specs.declared.sort.Sort.TheVariants as s
use Rattle.vala_file_grammar.specs.declared.kind.Special.TheVariants as special
use Rattle.vala_file_grammar.specs.Kinds.{Kind, Of, Word, CText}
use Rattle.vala_file_grammar.specs.Trees as tree
use Rattle.vala_file_grammar.specs.Heads.{is_modifier, clashes, may_follow, may_follow_in_struct, any_follows}
use Rattle.vala_file_grammar.specs.Parts.{Place, Outside, Inside, File, Usings, MoreUsings, FileMembers, Members, MemberOf, Attributes, Modifiers, MoreModifiers, DeclarationOf, AttributeOf, AttributeBody, AttributeArguments, MoreAttributeArguments, Fields, FieldOf, MoreField, EnumItems, MoreEnumItems, EnumItem, ErrorCodes, MoreErrorCodes, NextErrorCode}
use Rattle.vala_file_grammar.specs.Grammar.{forms, just, begins_type, begins_declaration}
use Rattle.vala_file_grammar.specs.Tables.{first_of}
use Rattle.vala_file_grammar.proofs.Finite.{checks}
use Rattle.vala_file_grammar.proofs.Tables.{tabled, FitsAs}
use Rattle.vala_file_grammar.proofs.Where.{some_fits, word_found, follows_apart, follows_is_word, clash_is_word, field_word_is_word, either_within, either_apart}

pub fit_file : FitsAs File
unfolding forms
fit_file = fit_part tabled File
    (text refl (λ a. done _) (λ a. refl) (λ a. refl)) refl (λ a e. e)

pub fit_usings : (us : List NameTree) → FitsAs (Usings us)
unfolding forms
fit_usings us = fit_part tabled (Usings us)
    (where_token (Of s.Using) refl (λ t. (text refl (λ n. (text refl (λ a. done _) (λ a. refl) (λ a. refl))) (λ n. refl) (λ n. tt)))
    (text refl (λ a. done _) (λ a. refl) (λ a. refl)) refl refl) refl (λ a e. e)

pub fit_more_usings : (us : List NameTree) → FitsAs (MoreUsings us)
unfolding forms
fit_more_usings us = fit_part tabled (MoreUsings us)
    (where_token (Of s.Comma) refl (λ t. (text refl (λ n. (text refl (λ a. done _) (λ a. refl) (λ a. refl))) (λ n. refl) (λ n. tt)))
    (token (Of s.Semicolon) refl (λ c. (text refl (λ a. done _) (λ a. refl) (λ a. refl)))) refl tt) refl (λ a e. absurd e)

pub fit_file_members : (us : List NameTree) → (ms : List Member) → FitsAs (FileMembers us ms)
unfolding forms
fit_file_members us ms = fit_part tabled (FileMembers us ms)
    (barred (choice (text refl (λ m. (text refl (λ a. done _) (λ a. refl) (λ a. refl))) (λ m. refl) (λ m. refl)) (done _) refl refl) refl refl) refl (λ a e. e)

pub fit_members : (y : Place) → (ms : List Member) → FitsAs (Members y ms)
unfolding forms
fit_members Outside ms = fit_part tabled (Members Outside ms)
    (barred (where_token (Of s.CloseBrace) refl (λ c. (done _))
    (text refl (λ m. (text refl (λ a. done _) (λ a. refl) (λ a. refl))) (λ m. refl) (λ m. tt)) refl tt) refl tt) refl (λ a e. absurd e)
fit_members (Inside i c) ms = fit_part tabled (Members (Inside i c) ms)
    (barred (where_token (Of s.CloseBrace) refl (λ c. (done _))
    (text refl (λ m. (text refl (λ a. done _) (λ a. refl) (λ a. refl))) (λ m. refl) (λ m. tt)) refl tt) refl tt) refl (λ a e. absurd e)

pub fit_member : (y : Place) → FitsAs (MemberOf y)
unfolding forms
fit_member Outside = fit_part tabled (MemberOf Outside)
    (choice (text refl (λ a. (text refl (λ a. done _) (λ a. refl) (λ a. refl))) (λ a. refl) (λ a. tt)) (text refl (λ a. done _) (λ a. refl) (λ a. refl)) refl tt) refl (λ a e. absurd e)
fit_member (Inside i c) = fit_part tabled (MemberOf (Inside i c))
    (choice (text refl (λ a. (text refl (λ a. done _) (λ a. refl) (λ a. refl))) (λ a. refl) (λ a. tt)) (text refl (λ a. done _) (λ a. refl) (λ a. refl)) refl tt) refl (λ a e. absurd e)

pub fit_attributes : (y : Place) → (xs : List Attribute) → FitsAs (Attributes y xs)
unfolding forms
fit_attributes Outside xs = fit_part tabled (Attributes Outside xs)
    (barred (choice (text refl (λ a. (text refl (λ a. done _) (λ a. refl) (λ a. refl))) (λ a. refl) (λ a. tt)) (text refl (λ a. done _) (λ a. refl) (λ a. refl)) refl tt) refl tt) refl (λ a e. absurd e)
fit_attributes (Inside i c) xs = fit_part tabled (Attributes (Inside i c) xs)
    (barred (choice (text refl (λ a. (text refl (λ a. done _) (λ a. refl) (λ a. refl))) (λ a. refl) (λ a. tt)) (text refl (λ a. done _) (λ a. refl) (λ a. refl)) refl tt) refl tt) refl (λ a e. absurd e)

abbrev words_first : Place → Kind → Bool
words_first y x = is_modifier x || begins_declaration y x

fit_words : (y : Place) (xs : List Attribute) (ms : List Modifier) → Fits tabled (Modifiers y xs ms) false (either (first_of (DeclarationOf y ms)) nothing) never
    (just (DeclarationOf y ms) (λ d. tree.member xs ms d)) → Disjoint checks (either (begins_declaration y) nothing) (may_follow ms) → Apart (either (begins_declaration y) nothing) (clashes ms)
    → Within (either (begins_declaration y) nothing) (words_first y) → FitsAs (Modifiers y xs ms)
unfolding forms
fit_words y xs ms declared disjoint parted inside =
    (widen_by tabled {y = never}
    (barred_by (some_fits (may_follow ms) (any_follows may_follow ms) (word_found may_follow ms) (λ t. (text refl (λ a. done _) (λ a. refl) (λ a. refl))) declared disjoint tt)
    (either_apart (may_follow ms) (either (begins_declaration y) nothing) (clashes ms) (follows_apart ms) parted) (λ x i. absurd i))
    (either_within (either (may_follow ms) (either (begins_declaration y) nothing)) (clashes ms) (words_first y)
    (either_within (may_follow ms) (either (begins_declaration y) nothing) (words_first y) (λ x e. or_left (is_modifier x) (begins_declaration y x) (follows_is_word ms x e)) inside)
    (λ x e. or_left (is_modifier x) (begins_declaration y x) (clash_is_word ms x e)))
    (λ a i. i)).fit

pub fit_modifiers : (y : Place) → (xs : List Attribute) → (ms : List Modifier) → FitsAs (Modifiers y xs ms)
fit_modifiers Outside xs ms =
    fit_words Outside xs ms (text refl (λ a. done _) (λ a. refl) (λ a. refl)) refl (apart checks (either (begins_declaration Outside) nothing) (clashes ms) refl)
    (within checks (either (begins_declaration Outside) nothing) (words_first Outside) refl)
fit_modifiers (Inside i c) xs ms =
    fit_words (Inside i c) xs ms (text refl (λ a. done _) (λ a. refl) (λ a. refl)) refl (apart checks (either (begins_declaration (Inside i c)) nothing) (clashes ms) refl)
    (within checks (either (begins_declaration (Inside i c)) nothing) (words_first (Inside i c)) refl)

pub fit_more_modifiers : (y : Place) → (xs : List Attribute) → (ms : List Modifier) → FitsAs (MoreModifiers y xs ms)
unfolding forms
fit_more_modifiers Outside xs ms = fit_part tabled (MoreModifiers Outside xs ms)
    (barred (text refl (λ a. done _) (λ a. refl) (λ a. refl)) refl tt) refl (λ a e. absurd e)
fit_more_modifiers (Inside i c) xs ms = fit_part tabled (MoreModifiers (Inside i c) xs ms)
    (barred (text refl (λ a. done _) (λ a. refl) (λ a. refl)) refl tt) refl (λ a e. absurd e)

-- ---- attributes

pub fit_attribute : FitsAs AttributeOf
unfolding forms
fit_attribute = fit_part tabled AttributeOf
    (token (Of s.OpenBracket) refl (λ o. (text refl (λ a. done _) (λ a. refl) (λ a. refl)))) refl (λ a e. absurd e)

pub fit_attribute_body : (o : Lexeme) → FitsAs (AttributeBody o)
unfolding forms
fit_attribute_body o = fit_part tabled (AttributeBody o)
    (barred (token (Word special.CCode) refl (λ n. (token (Of s.OpenParen) refl (λ p. (text refl (λ xs. (token (Of s.CloseBracket) refl (λ c. (done _)))) (λ xs. refl) (λ xs. tt)))))) refl tt) refl (λ a e. absurd e)

pub fit_attribute_arguments : (xs : List AttributeArgument) → FitsAs (AttributeArguments xs)
unfolding forms
fit_attribute_arguments xs = fit_part tabled (AttributeArguments xs)
    (barred (where_token (Word special.HeaderFilename) refl (λ n. (token (Of s.Assign) refl (λ e. (token (Of s.Text) refl (λ t. (text refl (λ a. done _) (λ a. refl) (λ a. refl)))))))
    (token (Word special.CName) refl (λ n. (token (Of s.Assign) refl (λ e. (barred (token (CText) refl (λ t. (text refl (λ a. done _) (λ a. refl) (λ a. refl)))) refl tt))))) refl tt) refl tt) refl (λ a e. absurd e)

pub fit_more_attribute_arguments : (xs : List AttributeArgument) → FitsAs (MoreAttributeArguments xs)
unfolding forms
fit_more_attribute_arguments xs = fit_part tabled (MoreAttributeArguments xs)
    (where_token (Of s.Comma) refl (λ t. (text refl (λ a. done _) (λ a. refl) (λ a. refl)))
    (token (Of s.CloseParen) refl (λ c. (done _))) refl tt) refl (λ a e. absurd e)

-- ---- structs, enums and error domains

pub fit_fields : (ms : List Member) → FitsAs (Fields ms)
unfolding forms
fit_fields ms = fit_part tabled (Fields ms)
    (barred (where_token (Of s.CloseBrace) refl (λ c. (done _))
    (text refl (λ m. (text refl (λ a. done _) (λ a. refl) (λ a. refl))) (λ m. refl) (λ m. tt)) refl tt) refl tt) refl (λ a e. absurd e)

abbrev field_first : Kind → Bool
field_first x = is_modifier x || begins_type x

pub fit_field : (ms : List Modifier) → FitsAs (FieldOf ms)
unfolding forms
fit_field ms =
    (widen_by tabled {z = never} {y = never} (some_fits (may_follow_in_struct ms) (any_follows may_follow_in_struct ms) (word_found may_follow_in_struct ms) (λ t. (text refl (λ a. done _) (λ a. refl) (λ a. refl)))
    (widen tabled {h = begins_type} {y = never} (text refl (λ y. (barred (token (Of s.Identifier) refl (λ n. (barred (token (Of s.Semicolon) refl (λ c. (done _))) refl tt))) refl tt)) (λ y. refl) (λ y. tt)) refl (λ a e. e)) refl tt)
    (either_within (may_follow_in_struct ms) begins_type field_first (λ x e. or_left (is_modifier x) (begins_type x) (field_word_is_word ms x e)) (λ x e. or_right (is_modifier x) (begins_type x) e))
    (λ a e. absurd e)).fit

pub fit_more_field : (ms : List Modifier) → FitsAs (MoreField ms)
unfolding forms
fit_more_field ms = fit_part tabled (MoreField ms)
    (barred (text refl (λ a. done _) (λ a. refl) (λ a. refl)) refl tt) refl (λ a e. absurd e)

pub fit_enum_items : (xs : List EnumMember) → FitsAs (EnumItems xs)
unfolding forms
fit_enum_items xs = fit_part tabled (EnumItems xs)
    (where_token (Of s.CloseBrace) refl (λ c. (done _))
    (text refl (λ m. (text refl (λ a. done _) (λ a. refl) (λ a. refl))) (λ m. refl) (λ m. tt)) refl tt) refl (λ a e. absurd e)

pub fit_more_enum_items : (xs : List EnumMember) → FitsAs (MoreEnumItems xs)
unfolding forms
fit_more_enum_items xs = fit_part tabled (MoreEnumItems xs)
    (where_token (Of s.Comma) refl (λ t. (text refl (λ a. done _) (λ a. refl) (λ a. refl)))
    (token (Of s.CloseBrace) refl (λ c. (done _))) refl tt) refl (λ a e. absurd e)

pub fit_enum_item : FitsAs EnumItem
unfolding forms
fit_enum_item = fit_part tabled EnumItem
    (token (Of s.Identifier) refl (λ t. (where_token (Of s.Assign) refl (λ e. (text refl (λ a. done _) (λ a. refl) (λ a. refl)))
    (done _) refl refl))) refl (λ a e. absurd e)

pub fit_error_codes : (xs : List Identifier) → FitsAs (ErrorCodes xs)
unfolding forms
fit_error_codes xs = fit_part tabled (ErrorCodes xs)
    (token (Of s.Identifier) refl (λ t. (text refl (λ a. done _) (λ a. refl) (λ a. refl)))) refl (λ a e. absurd e)

pub fit_more_error_codes : (xs : List Identifier) → FitsAs (MoreErrorCodes xs)
unfolding forms
fit_more_error_codes xs = fit_part tabled (MoreErrorCodes xs)
    (where_token (Of s.Comma) refl (λ t. (text refl (λ a. done _) (λ a. refl) (λ a. refl)))
    (token (Of s.CloseBrace) refl (λ c. (done _))) refl tt) refl (λ a e. absurd e)

pub fit_next_error_code : (xs : List Identifier) → FitsAs (NextErrorCode xs)
unfolding forms
fit_next_error_code xs = fit_part tabled (NextErrorCode xs)
    (where_token (Of s.CloseBrace) refl (λ c. (done _))
    (text refl (λ a. done _) (λ a. refl) (λ a. refl)) refl tt) refl (λ a e. absurd e)
