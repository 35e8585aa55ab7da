-- What is left behind what was read.
use Rattle.std.proofs.Common.{◌≡◌, ℕ, ◌<◌, Bool, true, List, [], ◌∷◌, length, Ok, Err, subst, arith}
use Rattle.predictive_grammar.specs.Steps.{Outcome, shift}
use Rattle.predictive_grammar.proofs.Sound as sound
use Rattle.predictive_grammar.proofs.Law as steps
use Rattle.predictive_grammar.proofs.Taking.{Expected, expected, other, high, many, comes}
use Rattle.vala_lexer.specs.Tokens.{Lexeme}
use Rattle.vala_tree.specs.declared.names.NameTree.{NameTree}
use Rattle.vala_tree.specs.declared.names.TypeTree.{TypeTree}
use Rattle.vala_tree.specs.declared.member.Attribute.{Attribute}
use Rattle.vala_tree.specs.declared.member.Parameter.{Parameter}
use Rattle.vala_tree.specs.declared.member.EnumMember.{EnumMember}
use Rattle.vala_tree.specs.declared.member.Accessor.{Accessor}
use Rattle.vala_tree.specs.declared.member.Member.{Member}
use Rattle.vala_grammar.specs.declared.sort.Sort.{Sort}
use Rattle.vala_grammar.specs.Grammar.{G}
use Rattle.vala_grammar.specs.Label.{Label}
use Rattle.vala_grammar.specs.Parts as c
use Rattle.vala_grammar.specs.Answer.{limits}
use Rattle.vala_cursor.specs.Gets as cursor
use Rattle.vala_file_grammar.specs.Kinds.{Kind}
use Rattle.vala_file_grammar.specs.Embed.{F}
use Rattle.vala_file_grammar.specs.Grammar.{forms}
use Rattle.vala_file_grammar.specs.Parts as p
use Rattle.vala_file_grammar.specs.Parts.{FilePart, file_tree_of}
use Rattle.vala_file_grammar.specs.Read.{file_reader}
use Rattle.vala_file_grammar.specs.Tables.{tables}
use Rattle.vala_parse.specs.Steps.{got}
use Rattle.vala_file_grammar.proofs.Predictive.{predictive}

-- a part that has tokens takes some
moves : (q : FilePart) (l : ℕ) (i : List Lexeme) (a : file_tree_of q) (r : List Lexeme) → (tables.none q a → ⊥) → file_reader q l i ≡ Ok (a, r) → length r < length i
moves q l i a r null e = steps.strict F forms tables predictive q l i a r null
    (subst (λ (o : Outcome Label Lexeme (file_tree_of q)). sound.Told F forms q (forms q) l i o) e (sound.reader_told F forms tables.top tables.rank limits q l i))

pub name_moves : (l : ℕ) (i : List Lexeme) (a : NameTree) (r : List Lexeme) → file_reader (p.Code c.Name) l i ≡ Ok (a, r) → length r < length i
name_moves l i a r e = moves (p.Code c.Name) l i a r (λ x. x) e

pub type_moves : (l : ℕ) (i : List Lexeme) (a : TypeTree) (r : List Lexeme) → file_reader (p.Code c.AnyType) l i ≡ Ok (a, r) → length r < length i
type_moves l i a r e = moves (p.Code c.AnyType) l i a r (λ x. x) e

pub attribute_moves : (l : ℕ) (i : List Lexeme) (a : Attribute) (r : List Lexeme) → file_reader p.AttributeOf l i ≡ Ok (a, r) → length r < length i
attribute_moves l i a r e = moves p.AttributeOf l i a r (λ x. x) e

pub member_moves : (x : p.Place) (l : ℕ) (i : List Lexeme) (a : Member) (r : List Lexeme) → file_reader (p.MemberOf x) l i ≡ Ok (a, r) → length r < length i
member_moves x l i a r e = moves (p.MemberOf x) l i a r (λ x. x) e

pub field_moves : (l : ℕ) (i : List Lexeme) (a : Member) (r : List Lexeme) → file_reader (p.FieldOf []) l i ≡ Ok (a, r) → length r < length i
field_moves l i a r e = moves (p.FieldOf []) l i a r (λ x. x) e

pub parameter_moves : (w : p.Owner) (l : ℕ) (i : List Lexeme) (a : Parameter) (r : List Lexeme) → file_reader (p.ParameterOf w) l i ≡ Ok (a, r) → length r < length i
parameter_moves w l i a r e = moves (p.ParameterOf w) l i a r (λ x. x) e

pub enum_member_moves : (l : ℕ) (i : List Lexeme) (a : EnumMember) (r : List Lexeme) → file_reader p.EnumItem l i ≡ Ok (a, r) → length r < length i
enum_member_moves l i a r e = moves p.EnumItem l i a r (λ x. x) e

pub accessor_moves : (l : ℕ) (i : List Lexeme) (a : Accessor) (r : List Lexeme) → file_reader p.AccessorOf l i ≡ Ok (a, r) → length r < length i
accessor_moves l i a r e = moves p.AccessorOf l i a r (λ x. x) e

-- ---- a token that is taken is no longer left

-- fewer tokens are left, unless a fault was found
abbrev Fewer : {A : Type 0} → List Lexeme → Outcome Label Lexeme A → Type 0
Fewer i (Ok x) = length x.1 < length i
Fewer i (Err e) = Unit {0}

pub got_moves : (test : Kind → Bool) (items l : ℕ) (i : List Lexeme) (t : Lexeme) (r : List Lexeme) → got test items l i ≡ Ok (t, r) → length r < length i
unfolding got
got_moves test items l i t r e = subst (λ (o : Outcome Label Lexeme Lexeme). Fewer i o) e (go i _ (expected F limits l items test i))
  where
    go : (i : List Lexeme) (o : Outcome Label Lexeme Lexeme) → Expected F limits l items test i o → Fewer i o
    go _ _ (other _) = tt
    go _ _ (high _ _) = tt
    go _ _ (many _ _ _) = tt
    go _ _ (comes {t = t} {ts = ts} _ _ _) = omega arith

pub sort_moves : (test : Sort → Bool) (items l : ℕ) (i : List Lexeme) (t : Lexeme) (r : List Lexeme) → cursor.got test items l i ≡ Ok (t, r) → length r < length i
unfolding cursor.got
sort_moves test items l i t r e = subst (λ (o : Outcome Label Lexeme Lexeme). Fewer i o) e (go i _ (expected G limits l items test i))
  where
    go : (i : List Lexeme) (o : Outcome Label Lexeme Lexeme) → Expected G limits l items test i o → Fewer i o
    go _ _ (other _) = tt
    go _ _ (high _ _) = tt
    go _ _ (many _ _ _) = tt
    go _ _ (comes {t = t} {ts = ts} _ _ _) = omega arith

pub shift_moves : (items l : ℕ) (i : List Lexeme) (t : Lexeme) (r : List Lexeme) → shift {L = Label} limits l items i ≡ Ok (t, r) → length r < length i
unfolding got
shift_moves items l [] t r e = got_moves (λ x. true) items l [] t r e
shift_moves items l (x ∷ xs) t r e = got_moves (λ x. true) items l (x ∷ xs) t r e
