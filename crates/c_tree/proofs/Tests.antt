-- Tokens that are tried: each test gives, with its answer, why it is so.
use Rattle.std.proofs.Common.{◌≡◌, ◌∙◌, refl, sym, ap, ℕ, Bool, true, false, [], ◌∷◌, ◌++◌, append_assoc, Option, Some, None}
use Rattle.c_lexer.specs.declared.token.TokenKind.TheVariants as k
use Rattle.c_lexer.specs.declared.token.Keyword.TheVariants as keyword
use Rattle.c_lexer.specs.declared.token.NumberType.{NumberType}
use Rattle.c_lexer.specs.declared.token.Constant.{Constant}
use Rattle.c_lexer.specs.declared.token.Sign.{Sign}
use Rattle.c_lexer.specs.declared.token.Sign.TheVariants as sign
use Rattle.c_tree.specs.declared.unit.Include.{Include}
use Rattle.c_tree.specs.Words.{Terminal, Of, Header, Token, Word}

abbrev pub Tests : Terminal → Type 0
Tests y = (x : Terminal) → Option (x ≡ y)

abbrev pub semicolon : Tests (Of (k.Sign sign.Semicolon))
semicolon (Of (k.Sign sign.Semicolon)) = Some refl
semicolon x = None

abbrev pub comma : Tests (Of (k.Sign sign.Comma))
comma (Of (k.Sign sign.Comma)) = Some refl
comma x = None

abbrev pub colon : Tests (Of (k.Sign sign.Colon))
colon (Of (k.Sign sign.Colon)) = Some refl
colon x = None

abbrev pub question : Tests (Of (k.Sign sign.Question))
question (Of (k.Sign sign.Question)) = Some refl
question x = None

abbrev pub assign : Tests (Of (k.Sign sign.Assign))
assign (Of (k.Sign sign.Assign)) = Some refl
assign x = None

abbrev pub open_paren : Tests (Of (k.Sign sign.OpenParen))
open_paren (Of (k.Sign sign.OpenParen)) = Some refl
open_paren x = None

abbrev pub close_paren : Tests (Of (k.Sign sign.CloseParen))
close_paren (Of (k.Sign sign.CloseParen)) = Some refl
close_paren x = None

abbrev pub open_brace : Tests (Of (k.Sign sign.OpenBrace))
open_brace (Of (k.Sign sign.OpenBrace)) = Some refl
open_brace x = None

abbrev pub close_brace : Tests (Of (k.Sign sign.CloseBrace))
close_brace (Of (k.Sign sign.CloseBrace)) = Some refl
close_brace x = None

abbrev pub open_bracket : Tests (Of (k.Sign sign.OpenBracket))
open_bracket (Of (k.Sign sign.OpenBracket)) = Some refl
open_bracket x = None

abbrev pub close_bracket : Tests (Of (k.Sign sign.CloseBracket))
close_bracket (Of (k.Sign sign.CloseBracket)) = Some refl
close_bracket x = None

abbrev pub dot : Tests (Of (k.Sign sign.Dot))
dot (Of (k.Sign sign.Dot)) = Some refl
dot x = None

abbrev pub arrow : Tests (Of (k.Sign sign.Arrow))
arrow (Of (k.Sign sign.Arrow)) = Some refl
arrow x = None

abbrev pub star : Tests (Of (k.Sign sign.Star))
star (Of (k.Sign sign.Star)) = Some refl
star x = None

abbrev pub minus : Tests (Of (k.Sign sign.Minus))
minus (Of (k.Sign sign.Minus)) = Some refl
minus x = None

abbrev pub hash : Tests (Of (k.Sign sign.Hash))
hash (Of (k.Sign sign.Hash)) = Some refl
hash x = None

abbrev pub void_word : Tests (Of (k.Keyword keyword.Void))
void_word (Of (k.Keyword keyword.Void)) = Some refl
void_word x = None

abbrev pub int_word : Tests (Of (k.Keyword keyword.Int))
int_word (Of (k.Keyword keyword.Int)) = Some refl
int_word x = None

abbrev pub char_word : Tests (Of (k.Keyword keyword.Char))
char_word (Of (k.Keyword keyword.Char)) = Some refl
char_word x = None

abbrev pub const_word : Tests (Of (k.Keyword keyword.Const))
const_word (Of (k.Keyword keyword.Const)) = Some refl
const_word x = None

abbrev pub static_word : Tests (Of (k.Keyword keyword.Static))
static_word (Of (k.Keyword keyword.Static)) = Some refl
static_word x = None

abbrev pub typedef_word : Tests (Of (k.Keyword keyword.Typedef))
typedef_word (Of (k.Keyword keyword.Typedef)) = Some refl
typedef_word x = None

abbrev pub struct_word : Tests (Of (k.Keyword keyword.Struct))
struct_word (Of (k.Keyword keyword.Struct)) = Some refl
struct_word x = None

abbrev pub enum_word : Tests (Of (k.Keyword keyword.Enum))
enum_word (Of (k.Keyword keyword.Enum)) = Some refl
enum_word x = None

abbrev pub if_word : Tests (Of (k.Keyword keyword.If))
if_word (Of (k.Keyword keyword.If)) = Some refl
if_word x = None

abbrev pub else_word : Tests (Of (k.Keyword keyword.Else))
else_word (Of (k.Keyword keyword.Else)) = Some refl
else_word x = None

abbrev pub goto_word : Tests (Of (k.Keyword keyword.Goto))
goto_word (Of (k.Keyword keyword.Goto)) = Some refl
goto_word x = None

abbrev pub return_word : Tests (Of (k.Keyword keyword.Return))
return_word (Of (k.Keyword keyword.Return)) = Some refl
return_word x = None

abbrev pub switch_word : Tests (Of (k.Keyword keyword.Switch))
switch_word (Of (k.Keyword keyword.Switch)) = Some refl
switch_word x = None

abbrev pub case_word : Tests (Of (k.Keyword keyword.Case))
case_word (Of (k.Keyword keyword.Case)) = Some refl
case_word x = None

abbrev pub default_word : Tests (Of (k.Keyword keyword.Default))
default_word (Of (k.Keyword keyword.Default)) = Some refl
default_word x = None

abbrev pub sizeof_word : Tests (Of (k.Keyword keyword.Sizeof))
sizeof_word (Of (k.Keyword keyword.Sizeof)) = Some refl
sizeof_word x = None

abbrev pub offset_word : Tests (Of (k.Keyword keyword.StructOffset))
offset_word (Of (k.Keyword keyword.StructOffset)) = Some refl
offset_word x = None

abbrev pub name : Tests (Of k.Identifier)
name (Of k.Identifier) = Some refl
name x = None

abbrev pub is_text : Tests (Of k.Text)
is_text (Of k.Text) = Some refl
is_text x = None

abbrev pub a_number : (x : Terminal) → Option ((n : ℕ) × (y : NumberType) × (x ≡ Of (k.Number n y)))
a_number (Of (k.Number n y)) = Some (n, y, refl)
a_number x = None

abbrev pub a_character : (x : Terminal) → Option ((b : ℕ) × (x ≡ Of (k.Character b)))
a_character (Of (k.Character b)) = Some (b, refl)
a_character x = None

abbrev pub a_constant : (x : Terminal) → Option ((c : Constant) × (x ≡ Of (k.Constant c)))
a_constant (Of (k.Constant c)) = Some (c, refl)
a_constant x = None

abbrev pub a_sign : (x : Terminal) → Option ((s : Sign) × (x ≡ Of (k.Sign s)))
a_sign (Of (k.Sign s)) = Some (s, refl)
a_sign x = None

abbrev pub a_header : (x : Terminal) → Option ((f : Include) × (x ≡ Header f))
a_header (Header f) = Some (f, refl)
a_header x = None

-- a condition that holds
abbrev pub holds : (b : Bool) → Option (b ≡ true)
holds true = Some refl
holds false = None

abbrev pub fails : (b : Bool) → Option (b ≡ false)
fails false = Some refl
fails true = None

abbrev pub then : {A B : Type 0} → Option A → (A → Option B) → Option B
then None f = None
then (Some a) f = f a

-- the first of two that succeeds
abbrev pub or_else : {A : Type 0} → Option A → Option A → Option A
or_else (Some a) o = Some a
or_else None o = o

-- a token that is taken
pub record Taken (y : Terminal) (i : Word) : Type 0 where
  pub token : Token
  pub rest : Word
  pub is : token.terminal ≡ y
  pub split : i ≡ token ∷ rest

abbrev pub taken_if : {y : Terminal} → (t : Token) (i : Word) → Option (t.terminal ≡ y) → Option (Taken y (t ∷ i))
taken_if t i None = None
taken_if t i (Some e) = Some (record { token = t; rest = i; is = e; split = refl })

abbrev pub take_one : {y : Terminal} → Tests y → (i : Word) → Option (Taken y i)
take_one test [] = None
take_one test (t ∷ i) = taken_if t i (test t.terminal)

-- a tree that is read from the front of some tokens
pub record Got {A : Type 0} (R : Word → A → Type 0) (i : Word) : Type 0 where
  pub word : Word
  pub rest : Word
  pub tree : A
  pub reads : R word tree
  pub split : i ≡ word ++ rest

-- one behind another
pub seq : (u v : Word) (i j l : Word) → i ≡ u ++ j → j ≡ v ++ l → i ≡ (u ++ v) ++ l
seq u v i j l p q = p ∙ ap (λ z. u ++ z) q ∙ sym (append_assoc u v l)

-- a token in front
pub front : (t : Token) (v : Word) (i j l : Word) → i ≡ t ∷ j → j ≡ v ++ l → i ≡ (t ∷ v) ++ l
front t v i j l p q = p ∙ ap (λ z. t ∷ z) q
