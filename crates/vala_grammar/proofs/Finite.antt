-- All sorts, and a token of each.
use Rattle.std.proofs.Common.{◌≡◌, Bool, true, List, [], ◌∷◌, refl, sym, ap, ◌∙◌, ℕ, zero, suc, false, eqb-true, eq-eqb}
use denote.Enum.Bare.{sameb, same_true, same_false}
use Rattle.predictive_grammar.proofs.Sets.{Finite, any}
use Rattle.vala_lexer.specs.declared.token.TokenKind.{TokenKind}
use Rattle.vala_lexer.specs.declared.token.TokenKind.TheVariants as k
use Rattle.vala_lexer.specs.Tokens.{Lexeme}
use Rattle.vala_grammar.specs.contracts.sort.Sort.{the_type}
use Rattle.vala_grammar.specs.declared.sort.Sort.{Sort}
use Rattle.vala_grammar.specs.declared.sort.Sort.TheVariants as s
use Rattle.vala_grammar.specs.Sorts.{sort}
use Rattle.vala_grammar.specs.Tests.{number, is}

abbrev pub all_sorts : List Sort
all_sorts =
    s.Identifier ∷ s.Literal ∷ s.Text ∷ s.This ∷ s.Base ∷ s.New ∷ s.Yield ∷ s.Owned ∷ s.Unowned ∷ s.Void ∷ s.Var ∷ s.If ∷ s.Else ∷ s.While ∷ s.Do ∷
    s.For ∷ s.Foreach ∷ s.In ∷ s.Switch ∷ s.Case ∷ s.Default ∷ s.Break ∷ s.Continue ∷ s.Return ∷ s.Throw ∷ s.Try ∷ s.Catch ∷ s.Finally ∷ s.Out ∷
    s.Ref ∷ s.Using ∷ s.Namespace ∷ s.Class ∷ s.Interface ∷ s.Struct ∷ s.Enum ∷ s.Errordomain ∷ s.Delegate ∷ s.Const ∷ s.Construct ∷ s.Signal ∷
    s.Throws ∷ s.Public ∷ s.Protected ∷ s.Internal ∷ s.Private ∷ s.Static ∷ s.Abstract ∷ s.Virtual ∷ s.Override ∷ s.Async ∷ s.Inline ∷ s.OpenBrace ∷
    s.CloseBrace ∷ s.OpenParen ∷ s.CloseParen ∷ s.OpenBracket ∷ s.CloseBracket ∷ s.Comma ∷ s.Semicolon ∷ s.Colon ∷ s.Dot ∷ s.Question ∷ s.Coalesce ∷
    s.Assign ∷ s.Update ∷ s.Arrow ∷ s.OrOr ∷ s.AndAnd ∷ s.Bar ∷ s.Caret ∷ s.Ampersand ∷ s.Equality ∷ s.Less ∷ s.Relation ∷ s.TypeTest ∷ s.Shift ∷
    s.Plus ∷ s.Minus ∷ s.Star ∷ s.Slash ∷ s.Percent ∷ s.Not ∷ s.Tilde ∷ s.Step ∷ s.LeftOut ∷ []

-- the sort at a place
abbrev at : List Sort → ℕ → Sort
at [] n = s.LeftOut
at (x ∷ xs) zero = x
at (x ∷ xs) (suc n) = at xs n

at_number : (x : Sort) → at all_sorts (number x) ≡ x
at_number s.Identifier = refl
at_number _ = refl

pub is_same : (x y : Sort) → is x y ≡ true → x ≡ y
is_same x y e = sym (at_number x) ∙ ap (at all_sorts) (eqb-true (number x) (number y) e) ∙ at_number y

-- what `y == x` answers
pub is_flag : (x y : Sort) → is x y ≡ sameb the_type y x
is_flag x y = go (sameb the_type y x) refl (is x y) refl
  where
    go : (a : Bool) → sameb the_type y x ≡ a → (b : Bool) → is x y ≡ b → is x y ≡ sameb the_type y x
    go true e b f = eq-eqb (number x) (number y) (ap number (sym (same_true the_type tt y x e))) ∙ sym e
    go false e true f = absurd (same_false the_type y x e (sym (is_same x y f)))
    go false e false f = f ∙ sym e

pub every : (x : Sort) → any (is x) all_sorts ≡ true
every s.Identifier = refl
every _ = refl

abbrev pub finite : Finite Sort
finite = record { kinds = all_sorts; same = is; same_is = is_same; every = every }

-- a class of each sort
abbrev pub class_of : Sort → TokenKind
class_of s.Identifier = k.Identifier
class_of s.Literal = k.True
class_of s.Text = k.Text
class_of s.This = k.This
class_of s.Base = k.Base
class_of s.New = k.New
class_of s.Yield = k.Yield
class_of s.Owned = k.Owned
class_of s.Unowned = k.Unowned
class_of s.Void = k.Void
class_of s.Var = k.Var
class_of s.If = k.If
class_of s.Else = k.Else
class_of s.While = k.While
class_of s.Do = k.Do
class_of s.For = k.For
class_of s.Foreach = k.Foreach
class_of s.In = k.In
class_of s.Switch = k.Switch
class_of s.Case = k.Case
class_of s.Default = k.Default
class_of s.Break = k.Break
class_of s.Continue = k.Continue
class_of s.Return = k.Return
class_of s.Throw = k.Throw
class_of s.Try = k.Try
class_of s.Catch = k.Catch
class_of s.Finally = k.Finally
class_of s.Out = k.Out
class_of s.Ref = k.Ref
class_of s.Using = k.Using
class_of s.Namespace = k.Namespace
class_of s.Class = k.Class
class_of s.Interface = k.Interface
class_of s.Struct = k.Struct
class_of s.Enum = k.Enum
class_of s.Errordomain = k.Errordomain
class_of s.Delegate = k.Delegate
class_of s.Const = k.Const
class_of s.Construct = k.Construct
class_of s.Signal = k.Signal
class_of s.Throws = k.Throws
class_of s.Public = k.Public
class_of s.Protected = k.Protected
class_of s.Internal = k.Internal
class_of s.Private = k.Private
class_of s.Static = k.Static
class_of s.Abstract = k.Abstract
class_of s.Virtual = k.Virtual
class_of s.Override = k.Override
class_of s.Async = k.Async
class_of s.Inline = k.Inline
class_of s.OpenBrace = k.OpenBrace
class_of s.CloseBrace = k.CloseBrace
class_of s.OpenParen = k.OpenParen
class_of s.CloseParen = k.CloseParen
class_of s.OpenBracket = k.OpenBracket
class_of s.CloseBracket = k.CloseBracket
class_of s.Comma = k.Comma
class_of s.Semicolon = k.Semicolon
class_of s.Colon = k.Colon
class_of s.Dot = k.Dot
class_of s.Question = k.Question
class_of s.Coalesce = k.Coalesce
class_of s.Assign = k.Assign
class_of s.Update = k.PlusAssign
class_of s.Arrow = k.Arrow
class_of s.OrOr = k.OrOr
class_of s.AndAnd = k.AndAnd
class_of s.Bar = k.Bar
class_of s.Caret = k.Caret
class_of s.Ampersand = k.Ampersand
class_of s.Equality = k.Equal
class_of s.Less = k.Less
class_of s.Relation = k.Greater
class_of s.TypeTest = k.Is
class_of s.Shift = k.ShiftLeft
class_of s.Plus = k.Plus
class_of s.Minus = k.Minus
class_of s.Star = k.Star
class_of s.Slash = k.Slash
class_of s.Percent = k.Percent
class_of s.Not = k.Not
class_of s.Tilde = k.Tilde
class_of s.Step = k.Increment
class_of s.LeftOut = k.Ellipsis

abbrev pub sample : Sort → Lexeme
sample x = record { kind = class_of x; text = []; span = record { file = 0; start = 0; «end» = 0 } }

pub is_sample : (x : Sort) → sort (sample x).kind ≡ x
is_sample s.Identifier = refl
is_sample _ = refl
