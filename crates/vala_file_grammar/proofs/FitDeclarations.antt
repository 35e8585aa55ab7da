-- Declarations fit.
use Rattle.std.proofs.Common.{◌≡◌, ℕ, ◌==◌, ◌&&◌, ◌∷◌, Bool, true, false, refl, if◌then◌else◌, List, []}
use Rattle.std.proofs.lemmas.Bool.{eq-eqb}
use Rattle.predictive_grammar.specs.Fit.{takes}
use Rattle.predictive_grammar.proofs.Sets.{and_first}
use Rattle.predictive_grammar.proofs.Fits.{Fits, never, done, token, text, barred, widen, fit_part, where_token}
use Rattle.vala_lexer.specs.Tokens.{Lexeme}
use Rattle.vala_tree.specs.declared.member.Modifier.{Modifier}
use Rattle.vala_tree.specs.declared.names.NameTree.{NameTree}
use Rattle.vala_tree.specs.declared.names.TypeTree.{TypeTree}
use Rattle.vala_grammar.specs.declared.sort.Sort.TheVariants as s
use Rattle.vala_grammar.specs.Trees.{same_bytes}
use Rattle.vala_grammar.specs.declared.parts.TypeName.{TypeName}
use Rattle.vala_grammar.specs.declared.parts.TypeName.TheVariants as type_name
use Rattle.vala_file_grammar.specs.Kinds.{Kind, Of, sorted, one_of}
use Rattle.vala_file_grammar.specs.Heads.{AClass, AField, AProperty, ASignal, AConstruct, ACreation, Another, first_wrong}
use Rattle.vala_file_grammar.specs.Trees as tree
use Rattle.vala_file_grammar.specs.Parts.{Place, Outside, Inside, DeclarationOf, NamespaceOf, ClassOf, StructOf, EnumOf, ErrorsOf, DelegateOf, ConstantOf, DestructorOf, SignalOf, Typed, CreationOf}
use Rattle.vala_file_grammar.specs.Grammar.{forms, just, as_it_is, where_told, of_type_name, begins_name, destructor_behind}
use Rattle.vala_file_grammar.proofs.Finite.{named_sample}
use Rattle.vala_file_grammar.proofs.Tables.{tabled, FitsAs}
use Rattle.vala_file_grammar.proofs.Where.{told_fits}

pub fit_namespace : (t : Lexeme) → FitsAs (NamespaceOf t)
unfolding forms
fit_namespace t = fit_part tabled (NamespaceOf t)
    (text refl (λ n. (token (Of s.OpenBrace) refl (λ o. (text refl (λ a. done _) (λ a. refl) (λ a. refl))))) (λ n. refl) (λ n. tt)) refl (λ a e. absurd e)

pub fit_struct : (t : Lexeme) → FitsAs (StructOf t)
unfolding forms
fit_struct t = fit_part tabled (StructOf t)
    (text refl (λ n. (token (Of s.OpenBrace) refl (λ o. (text refl (λ a. done _) (λ a. refl) (λ a. refl))))) (λ n. refl) (λ n. tt)) refl (λ a e. absurd e)

pub fit_enum : (t : Lexeme) → FitsAs (EnumOf t)
unfolding forms
fit_enum t = fit_part tabled (EnumOf t)
    (text refl (λ n. (token (Of s.OpenBrace) refl (λ o. (text refl (λ a. done _) (λ a. refl) (λ a. refl))))) (λ n. refl) (λ n. tt)) refl (λ a e. absurd e)

pub fit_errors : (t : Lexeme) → FitsAs (ErrorsOf t)
unfolding forms
fit_errors t = fit_part tabled (ErrorsOf t)
    (text refl (λ n. (token (Of s.OpenBrace) refl (λ o. (text refl (λ a. done _) (λ a. refl) (λ a. refl))))) (λ n. refl) (λ n. tt)) refl (λ a e. absurd e)

pub fit_class : (i : Bool) → (t : Lexeme) → FitsAs (ClassOf i t)
unfolding forms
fit_class i t = fit_part tabled (ClassOf i t)
    (text refl (λ n. (text refl (λ bs. (token (Of s.OpenBrace) refl (λ o. (text refl (λ a. done _) (λ a. refl) (λ a. refl))))) (λ bs. refl) (λ bs. tt))) (λ n. refl) (λ n. tt)) refl (λ a e. absurd e)

pub fit_delegate : (t : Lexeme) → FitsAs (DelegateOf t)
unfolding forms
fit_delegate t = fit_part tabled (DelegateOf t)
    (text refl (λ y. (barred (token (Of s.Identifier) refl (λ n. (token (Of s.OpenParen) refl (λ p. (text refl (λ ps. (text refl (λ ts. (token (Of s.Semicolon) refl (λ c. (done _)))) (λ ts. refl) (λ ts. tt))) (λ ps. refl) (λ ps. tt)))))) refl tt)) (λ y. refl) (λ y. tt)) refl (λ a e. absurd e)

pub fit_constant : (t : Lexeme) → FitsAs (ConstantOf t)
unfolding forms
fit_constant t = fit_part tabled (ConstantOf t)
    (text refl (λ y. (barred (token (Of s.Identifier) refl (λ n. (token (Of s.Assign) refl (λ e. (barred (text refl (λ v. (token (Of s.Semicolon) refl (λ c. (done _)))) (λ v. refl) (λ v. tt)) refl tt))))) refl tt)) (λ y. refl) (λ y. tt)) refl (λ a e. absurd e)

pub names_itself : (w : List ℕ) → same_bytes w w ≡ true
names_itself [] = refl
names_itself (b ∷ w) = both (b == b) (same_bytes w w) (eq-eqb b b refl) (names_itself w)
  where
    both : (x y : Bool) → x ≡ true → y ≡ true → (x && y) ≡ true
    both true y e f = f
    both false y e f = e

pub fit_destructor : (c : List ℕ) (t : Lexeme) → FitsAs (DestructorOf c t)
unfolding forms
fit_destructor c t =
    takes (named_sample c) (names_itself c) (λ x e. and_first (sorted s.Identifier x) (same_bytes c x.text) e) (λ n. _) (λ n. _)
    (λ n e. (behind_name c t n).fit)
  where
    behind_name : (c : List ℕ) (t n : Lexeme) → Fits tabled (DestructorOf c t) true (sorted s.OpenParen) never (destructor_behind c t n)
    behind_name c t n = token (Of s.OpenParen) refl (λ p. (token (Of s.CloseParen) refl (λ q. (text refl (λ a. done _) (λ a. refl) (λ a. refl)))))

pub fit_signal : (t : Lexeme) → FitsAs (SignalOf t)
unfolding forms
fit_signal t = fit_part tabled (SignalOf t)
    (barred (token (Of s.Void) refl (λ v. (barred (token (Of s.Identifier) refl (λ n. (token (Of s.OpenParen) refl (λ p. (text refl (λ ps. (text refl (λ a. done _) (λ a. refl) (λ a. refl))) (λ ps. refl) (λ ps. tt)))))) refl tt))) refl tt) refl (λ a e. absurd e)

pub fit_creation : (n : NameTree) → FitsAs (CreationOf n)
unfolding forms
fit_creation n = fit_part tabled (CreationOf n)
    (text refl (λ ps. (text refl (λ ts. (text refl (λ a. done _) (λ a. refl) (λ a. refl))) (λ ts. refl) (λ ts. tt))) (λ ps. refl) (λ ps. tt)) refl (λ a e. absurd e)

-- ---- what begins with a type

pub fit_typed : (y : Place) → (ms : List Modifier) → (t : TypeTree) → (n : Lexeme) → FitsAs (Typed y ms t n)
unfolding forms
fit_typed Outside ms t n = fit_part tabled (Typed Outside ms t n)
    (told_fits AField (first_wrong AField ms) s.Semicolon refl (λ c. (done _))
    (told_fits AField (first_wrong AField ms) s.Assign refl (λ e. (text refl (λ v. (token (Of s.Semicolon) refl (λ c. (done _)))) (λ v. refl) (λ v. tt)))
    (token (Of s.OpenParen) refl (λ p. (text refl (λ ps. (text refl (λ ts. (text refl (λ a. done _) (λ a. refl) (λ a. refl))) (λ ts. refl) (λ ts. tt))) (λ ps. refl) (λ ps. tt)))) refl tt) refl tt) refl (λ a e. absurd e)
fit_typed (Inside true c) ms t n = fit_part tabled (Typed (Inside true c) ms t n)
    (barred (told_fits AField (first_wrong AField ms) s.Semicolon refl (λ c. (done _))
    (told_fits AField (first_wrong AField ms) s.Assign refl (λ e. (text refl (λ v. (token (Of s.Semicolon) refl (λ c. (done _)))) (λ v. refl) (λ v. tt)))
    (told_fits AProperty (first_wrong AProperty ms) s.OpenBrace refl (λ o. (text refl (λ a. done _) (λ a. refl) (λ a. refl)))
    (token (Of s.OpenParen) refl (λ p. (text refl (λ ps. (text refl (λ ts. (text refl (λ a. done _) (λ a. refl) (λ a. refl))) (λ ts. refl) (λ ts. tt))) (λ ps. refl) (λ ps. tt)))) refl tt) refl tt) refl tt) refl tt) refl (λ a e. absurd e)
fit_typed (Inside false c) ms t n = fit_part tabled (Typed (Inside false c) ms t n)
    (barred (told_fits AField (first_wrong AField ms) s.Semicolon refl (λ c. (done _))
    (told_fits AField (first_wrong AField ms) s.Assign refl (λ e. (text refl (λ v. (token (Of s.Semicolon) refl (λ c. (done _)))) (λ v. refl) (λ v. tt)))
    (told_fits AProperty (first_wrong AProperty ms) s.OpenBrace refl (λ o. (text refl (λ a. done _) (λ a. refl) (λ a. refl)))
    (token (Of s.OpenParen) refl (λ p. (text refl (λ ps. (text refl (λ ts. (text refl (λ a. done _) (λ a. refl) (λ a. refl))) (λ ts. refl) (λ ts. tt))) (λ ps. refl) (λ ps. tt)))) refl tt) refl tt) refl tt) refl tt) refl (λ a e. absurd e)

-- what follows the name that a declaration begins with
abbrev name_follows : Kind → Bool
name_follows = one_of (s.OpenParen ∷ s.Question ∷ s.Identifier ∷ s.Star ∷ s.Less ∷ [])

fit_type_name : (y : Place) (ms : List Modifier) (n : TypeName) → Fits tabled (DeclarationOf y ms) true name_follows never (of_type_name y ms n)
fit_type_name y ms n = widen tabled (text refl (λ t. (text refl (λ a. done _) (λ a. refl) (λ a. refl))) (λ t. refl) (λ t. tt)) refl (λ a e. e)

fit_type_or_creation : (i : Bool) (c : List ℕ) (ms : List Modifier) (n : NameTree) (b : Bool) → Fits tabled (DeclarationOf (Inside i c) ms) true name_follows never
    (if b then where_told ACreation ms s.OpenParen (λ p. just (CreationOf n) as_it_is) (of_type_name (Inside i c) ms (type_name.Single n)) else of_type_name (Inside i c) ms (type_name.Single n))
fit_type_or_creation i c ms n true = widen tabled (told_fits ACreation (first_wrong ACreation ms) s.OpenParen refl (λ p. (text refl (λ a. done _) (λ a. refl) (λ a. refl)))
    (text refl (λ t. (text refl (λ a. done _) (λ a. refl) (λ a. refl))) (λ t. refl) (λ t. tt)) refl tt) refl (λ a e. e)
fit_type_or_creation i c ms n false = fit_type_name (Inside i c) ms (type_name.Single n)

fit_begins_name : (y : Place) (ms : List Modifier) (n : TypeName) → Fits tabled (DeclarationOf y ms) true name_follows never (begins_name y ms n)
fit_begins_name Outside ms n = fit_type_name Outside ms n
fit_begins_name (Inside i c) ms (type_name.Single n) = fit_type_or_creation i c ms n (tree.names_creation c n)
fit_begins_name (Inside i c) ms (type_name.Array n b) = fit_type_name (Inside i c) ms (type_name.Array n b)

pub fit_declaration : (y : Place) (ms : List Modifier) → FitsAs (DeclarationOf y ms)
unfolding forms
fit_declaration Outside ms = fit_part tabled (DeclarationOf Outside ms)
    (told_fits Another (first_wrong Another ms) s.Namespace refl (λ t. (text refl (λ a. done _) (λ a. refl) (λ a. refl)))
    (told_fits AClass (first_wrong AClass ms) s.Class refl (λ t. (text refl (λ a. done _) (λ a. refl) (λ a. refl)))
    (told_fits Another (first_wrong Another ms) s.Interface refl (λ t. (text refl (λ a. done _) (λ a. refl) (λ a. refl)))
    (told_fits Another (first_wrong Another ms) s.Struct refl (λ t. (text refl (λ a. done _) (λ a. refl) (λ a. refl)))
    (told_fits Another (first_wrong Another ms) s.Enum refl (λ t. (text refl (λ a. done _) (λ a. refl) (λ a. refl)))
    (told_fits Another (first_wrong Another ms) s.Errordomain refl (λ t. (text refl (λ a. done _) (λ a. refl) (λ a. refl)))
    (told_fits Another (first_wrong Another ms) s.Delegate refl (λ t. (text refl (λ a. done _) (λ a. refl) (λ a. refl)))
    (told_fits Another (first_wrong Another ms) s.Const refl (λ t. (text refl (λ a. done _) (λ a. refl) (λ a. refl)))
    (where_token (Of s.Owned) refl (λ o. (text refl (λ t. (text refl (λ a. done _) (λ a. refl) (λ a. refl))) (λ t. refl) (λ t. tt)))
    (where_token (Of s.Void) refl (λ t. (text refl (λ a. done _) (λ a. refl) (λ a. refl)))
    (token (Of s.Identifier) refl (λ t. (text refl (λ n. fit_begins_name Outside ms n) (λ n. refl) (λ n. tt)))) refl tt) refl tt) refl tt) refl tt) refl tt) refl tt) refl tt) refl tt) refl tt) refl tt) refl (λ a e. absurd e)
fit_declaration (Inside i c) ms = fit_part tabled (DeclarationOf (Inside i c) ms)
    (told_fits Another (first_wrong Another ms) s.Const refl (λ t. (text refl (λ a. done _) (λ a. refl) (λ a. refl)))
    (told_fits Another (first_wrong Another ms) s.Tilde refl (λ t. (text refl (λ a. done _) (λ a. refl) (λ a. refl)))
    (told_fits ASignal (first_wrong ASignal ms) s.Signal refl (λ t. (text refl (λ a. done _) (λ a. refl) (λ a. refl)))
    (told_fits AConstruct (first_wrong AConstruct ms) s.Construct refl (λ t. (text refl (λ a. done _) (λ a. refl) (λ a. refl)))
    (where_token (Of s.Owned) refl (λ o. (text refl (λ t. (text refl (λ a. done _) (λ a. refl) (λ a. refl))) (λ t. refl) (λ t. tt)))
    (where_token (Of s.Void) refl (λ t. (text refl (λ a. done _) (λ a. refl) (λ a. refl)))
    (token (Of s.Identifier) refl (λ t. (text refl (λ n. fit_begins_name (Inside i c) ms n) (λ n. refl) (λ n. tt)))) refl tt) refl tt) refl tt) refl tt) refl tt) refl tt) refl (λ a e. absurd e)
