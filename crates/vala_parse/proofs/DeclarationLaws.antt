-- Declarations behind the words in front of them, by their steps.
use Rattle.std.proofs.Common.{◌≡◌, ℕ, suc, Bool, true, false, List, if◌then◌else◌, Some, None, refl, ap, ◌∙◌}
use Rattle.predictive_grammar.specs.Forms.{Form, give}
use Rattle.predictive_grammar.specs.Steps.{Outcome, ◌>>=◌, pure}
use Rattle.predictive_grammar.specs.Reading.{walk}
use Rattle.vg_base.specs.declared.event.Span.{Span}
use Rattle.vala_lexer.specs.Tokens.{Lexeme}
use Rattle.vala_tree.specs.declared.names.NameTree.{NameTree}
use Rattle.vala_tree.specs.declared.member.Modifier.{Modifier}
use Rattle.vala_grammar.specs.declared.sort.Sort.TheVariants as s
use Rattle.vala_grammar.specs.declared.parts.TypeName.TheVariants as type_name
use Rattle.vala_grammar.specs.Label.{Label}
use Rattle.vala_grammar.specs.Trees as code
use Rattle.vala_grammar.specs.Parts as c
use Rattle.vala_file_grammar.specs.Embed.{F}
use Rattle.vala_file_grammar.specs.Trees as tree
use Rattle.vala_file_grammar.specs.Kinds.{sorted}
use Rattle.vala_file_grammar.specs.Parts as p
use Rattle.vala_file_grammar.specs.Parts.{FilePart}
use Rattle.vala_file_grammar.specs.Heads as heads
use Rattle.vala_file_grammar.specs.Grammar.{forms, begins_name, is_ownership, of_type, of_type_name, where_told, here, just, as_it_is}
use Rattle.vala_file_grammar.specs.Read.{file_reader}
use Rattle.vala_parse.specs.Steps.{either, got, leave, one, reads, way}
use Rattle.vala_parse.specs.Heads.{told}
use Rattle.vala_parse.specs.Views.{creates}
use Rattle.vala_parse.specs.Declarations as rest
use Rattle.vala_parse.proofs.Unfolds.{law}
use Rattle.vala_parse.proofs.HeadLaws.{told_law, told_two, told_three}

pub outside_law : (ms : List Modifier) (l : ℕ) (i : List Lexeme) → file_reader (p.DeclarationOf p.Outside ms) l i
    ≡ (told heads.Another ms s.Namespace l >>= either (λ t. file_reader (p.NamespaceOf t) l >>= pure)
    (told heads.AClass ms s.Class l >>= either (λ t. file_reader (p.ClassOf false t) l >>= pure)
    (told heads.Another ms s.Interface l >>= either (λ t. file_reader (p.ClassOf true t) l >>= pure) (reads (rest.types_outside ms) l)))) i
unfolding walk forms
outside_law ms l i = law (p.DeclarationOf p.Outside ms) l i
    ∙ told_three ms heads.Another heads.AClass heads.Another s.Namespace s.Class s.Interface (λ t. just (p.NamespaceOf t) as_it_is) (λ t. just (p.ClassOf false t) as_it_is) (λ t. just (p.ClassOf true t) as_it_is)
    (rest.types_outside ms) l i

pub types_outside_law : (ms : List Modifier) (l : ℕ) (i : List Lexeme) → reads (rest.types_outside ms) l i
    ≡ (told heads.Another ms s.Struct l >>= either (λ t. file_reader (p.StructOf t) l >>= pure)
    (told heads.Another ms s.Enum l >>= either (λ t. file_reader (p.EnumOf t) l >>= pure)
    (told heads.Another ms s.Errordomain l >>= either (λ t. file_reader (p.ErrorsOf t) l >>= pure) (reads (rest.last_outside ms) l)))) i
unfolding walk
types_outside_law ms l i =
    told_three ms heads.Another heads.Another heads.Another s.Struct s.Enum s.Errordomain (λ t. just (p.StructOf t) as_it_is) (λ t. just (p.EnumOf t) as_it_is) (λ t. just (p.ErrorsOf t) as_it_is)
    (rest.last_outside ms) l i

pub last_outside_law : (ms : List Modifier) (l : ℕ) (i : List Lexeme) → reads (rest.last_outside ms) l i
    ≡ (told heads.Another ms s.Delegate l >>= either (λ t. file_reader (p.DelegateOf t) l >>= pure)
    (told heads.Another ms s.Const l >>= either (λ t. file_reader (p.ConstantOf t) l >>= pure) (reads (of_type p.Outside ms) l))) i
unfolding walk
last_outside_law ms l i =
    told_two ms heads.Another heads.Another s.Delegate s.Const (λ t. just (p.DelegateOf t) as_it_is) (λ t. just (p.ConstantOf t) as_it_is) (of_type p.Outside ms) l i

pub inside_law : (b : Bool) (w : List ℕ) (ms : List Modifier) (l : ℕ) (i : List Lexeme) → file_reader (p.DeclarationOf (p.Inside b w) ms) l i
    ≡ (told heads.Another ms s.Const l >>= either (λ t. file_reader (p.ConstantOf t) l >>= pure)
    (told heads.Another ms s.Tilde l >>= either (λ t. file_reader (p.DestructorOf w t) l >>= pure) (reads (rest.last_inside b w ms) l))) i
unfolding walk forms
inside_law b w ms l i = law (p.DeclarationOf (p.Inside b w) ms) l i
    ∙ told_two ms heads.Another heads.Another s.Const s.Tilde (λ t. just (p.ConstantOf t) as_it_is) (λ t. just (p.DestructorOf w t) as_it_is) (rest.last_inside b w ms) l i

pub last_inside_law : (b : Bool) (w : List ℕ) (ms : List Modifier) (l : ℕ) (i : List Lexeme) → reads (rest.last_inside b w ms) l i
    ≡ (told heads.ASignal ms s.Signal l >>= either (λ t. file_reader (p.SignalOf t) l >>= pure)
    (told heads.AConstruct ms s.Construct l >>= either (λ t. rest.construction_of t l) (reads (of_type (p.Inside b w) ms) l))) i
unfolding walk rest.construction_of
last_inside_law b w ms l i =
    told_two ms heads.ASignal heads.AConstruct s.Signal s.Construct (λ t. just (p.SignalOf t) as_it_is) (λ t. here (p.Code c.BlockOf) (λ b. give (tree.construction t b))) (of_type (p.Inside b w) ms) l i

pub of_type_law : (x : p.Place) (ms : List Modifier) (l : ℕ) (i : List Lexeme) → reads (of_type x ms) l i
    ≡ way is_ownership (got is_ownership 0 l >>= λ o. file_reader (p.Code (c.TypeBody (Some o))) l >>= λ y. file_reader (p.NamedBy x ms y) l >>= pure) (reads (rest.void_or_name x ms) l) i
unfolding walk got
of_type_law x ms l i = refl

pub void_or_name_law : (x : p.Place) (ms : List Modifier) (l : ℕ) (i : List Lexeme) → reads (rest.void_or_name x ms) l i
    ≡ way (sorted s.Void) (one s.Void l >>= λ t. file_reader (p.NamedBy x ms (code.void_type None t)) l >>= pure)
    (one s.Identifier l >>= λ t. file_reader (p.Code (c.NameInTypeMore (code.one_word t))) l >>= λ n. reads (begins_name x ms n) l) i
unfolding walk got
void_or_name_law x ms l i = refl

reads_if : {r : FilePart} (b : Bool) (f g : Form F r) (l : ℕ) (i : List Lexeme) → reads (if b then f else g) l i ≡ (if b then reads f l i else reads g l i)
reads_if true f g l i = refl
reads_if false f g l i = refl

pub begins_single_law : (x : p.Place) (ms : List Modifier) (n : NameTree) (l : ℕ) (i : List Lexeme) → reads (begins_name x ms (type_name.Single n)) l i
    ≡ (if creates x n then (told heads.ACreation ms s.OpenParen l >>= either (λ q. file_reader (p.CreationOf n) l >>= pure) (reads (of_type_name x ms (type_name.Single n)) l)) i
    else reads (of_type_name x ms (type_name.Single n)) l i)
unfolding walk
begins_single_law p.Outside ms n l i = refl
begins_single_law (p.Inside b w) ms n l i =
    reads_if (tree.names_creation w n) (where_told heads.ACreation ms s.OpenParen (λ q. just (p.CreationOf n) as_it_is) (of_type_name (p.Inside b w) ms (type_name.Single n)))
    (of_type_name (p.Inside b w) ms (type_name.Single n)) l i
    ∙ ap (λ (o : Outcome Label Lexeme tree.Declared). if tree.names_creation w n then o else reads (of_type_name (p.Inside b w) ms (type_name.Single n)) l i)
    (told_law heads.ACreation ms s.OpenParen (λ q. just (p.CreationOf n) as_it_is) (of_type_name (p.Inside b w) ms (type_name.Single n)) l i)

pub of_single_law : (x : p.Place) (ms : List Modifier) (n : NameTree) (l : ℕ) (i : List Lexeme) → reads (of_type_name x ms (type_name.Single n)) l i
    ≡ (file_reader (p.TypeEnd (type_name.Single n)) l >>= λ y. file_reader (p.NamedBy x ms y) l >>= pure) i
unfolding walk
of_single_law x ms n l i = refl

pub begins_array_law : (x : p.Place) (ms : List Modifier) (n : NameTree) (z : Span) (l : ℕ) (i : List Lexeme) → reads (begins_name x ms (type_name.Array n z)) l i
    ≡ (file_reader (p.TypeEnd (type_name.Array n z)) l >>= λ y. file_reader (p.NamedBy x ms y) l >>= pure) i
unfolding walk
begins_array_law p.Outside ms n z l i = refl
begins_array_law (p.Inside b w) ms n z l i = refl

pub single_end_law : (n : NameTree) (l : ℕ) (i : List Lexeme) → file_reader (p.TypeEnd (type_name.Single n)) l i
    ≡ way (sorted s.Question)
    (one s.Question l >>= λ q. way (sorted s.OpenBracket)
    (one s.OpenBracket l >>= λ b. way (sorted s.Comma) leave (one s.CloseBracket (suc l) >>= λ z. way (sorted s.Question)
    (one s.Question l >>= λ r. pure (code.array_type None n (Some q.span) z.span (Some r.span))) (pure (code.array_type None n (Some q.span) z.span None))))
    (pure (code.single_type None n (Some q.span))))
    (pure (code.single_type None n None)) i
unfolding walk forms got
single_end_law n l i = law (p.TypeEnd (type_name.Single n)) l i

pub array_end_law : (n : NameTree) (z : Span) (l : ℕ) (i : List Lexeme) → file_reader (p.TypeEnd (type_name.Array n z)) l i
    ≡ way (sorted s.Question) (one s.Question l >>= λ q. pure (code.array_type None n None z (Some q.span))) (pure (code.array_type None n None z None)) i
unfolding walk forms got
array_end_law n z l i = law (p.TypeEnd (type_name.Array n z)) l i
