-- What is made up is the first offer of its set.
use Rattle.std.proofs.Common.{◌≡◌, ℕ, Bool, true, false, if◌then◌else◌, List, [], ◌∷◌, ◌++◌, map, codes, refl, ap}
use Rattle.mending_readers.specs.Mending.{first_that}
use Rattle.c_lexer.specs.declared.token.Sign.TheVariants as sign
use Rattle.c_lexer.specs.declared.token.Keyword.TheVariants as keyword
use Rattle.c_tree.specs.Names.{Names}
use Rattle.c_tree.specs.Words.{Word, Token}
use Rattle.std.specs.Str.{bytes_eq}
use Rattle.c_grammar.proofs.Bytes.{same_bytes}
use Rattle.c_grammar.specs.Sorts.{kind}
use Rattle.c_grammar.specs.Tests.{is_name_of}
use Rattle.c_grammar.specs.Mending.{made_name, made_signs, made_words, made_others, by_tag}
use Rattle.c_cursor.specs.declared.sets.Set.{Set}
use Rattle.c_cursor.specs.declared.sets.Set.TheVariants as set
use Rattle.c_cursor.specs.Gives.{IsAsked}
use Rattle.c_cursor.specs.Made.{made_for}
use Rattle.c_cursor.specs.Sets.{is_in}

-- the first name with these letters
first_name : (n : ℕ) (other w : List ℕ) → other ≡ w → (ws : List (List ℕ))
    → first_that kind (is_name_of w) (map (made_name n) ws) (made_name n other) ≡ made_name n w
first_name n other w e [] = ap (made_name n) e
first_name n other w e (x ∷ ws) = go (bytes_eq x w) refl (first_name n other w e ws)
  where
    go : (b : Bool) → bytes_eq x w ≡ b → first_that kind (is_name_of w) (map (made_name n) ws) (made_name n other) ≡ made_name n w
        → (if b then made_name n x else first_that kind (is_name_of w) (map (made_name n) ws) (made_name n other)) ≡ made_name n w
    go true is more = ap (made_name n) (same_bytes x w is)
    go false is more = more

-- the first of what is offered
abbrev pub offered : ℕ → Set → Names → Word → Token
offered n x ns before = first_that kind (is_in x ns) (made_signs n ++ made_words n ++ made_others n) (made_name n (by_tag before))

pub is_first : (n : ℕ) (x : Set) (ns : Names) (before : Word) → IsAsked x before → offered n x ns before ≡ made_for n x
is_first n (set.Sign sign.Semicolon) ns before a = refl
is_first n (set.Sign sign.OpenParen) ns before a = refl
is_first n (set.Sign sign.CloseParen) ns before a = refl
is_first n (set.Sign sign.OpenBrace) ns before a = refl
is_first n (set.Sign sign.CloseBrace) ns before a = refl
is_first n (set.Sign sign.OpenBracket) ns before a = refl
is_first n (set.Sign sign.CloseBracket) ns before a = refl
is_first n (set.Sign sign.Comma) ns before a = refl
is_first n (set.Sign sign.Colon) ns before a = refl
is_first n (set.Sign sign.Assign) ns before a = refl
is_first n (set.Sign sign.Star) ns before a = refl
is_first n (set.Word keyword.Int) ns before a = refl
is_first n (set.Word keyword.Char) ns before a = refl
is_first n (set.Word keyword.Return) ns before a = refl
is_first n (set.Word keyword.Goto) ns before a = refl
is_first n (set.Word keyword.Default) ns before a = refl
is_first n (set.Word keyword.StructOffset) ns before a = refl
is_first n set.Name ns before a = refl
is_first n set.Number ns before a = refl
is_first n set.Null ns before a = refl
is_first n set.File ns before a = refl
is_first n set.IncludeWord ns before a = refl
is_first n set.Tag ns before a = refl
is_first n set.InitFunc ns before a = refl
is_first n (set.FreeName main) ns before a = refl
is_first n (set.Base anyhow) ns before a = refl
is_first n (set.BaseOnLine true) ns before a = refl
is_first n (set.BaseOnLine false) ns before a = refl
is_first n set.KeyBase ns before a = refl
is_first n set.OtherBase ns before a = refl
is_first n set.IntBase ns before a = refl
is_first n set.CharBase ns before a = refl
is_first n (set.NameOf w) ns before a = first_name n (by_tag before) w.now a ([] ∷ codes "_" ∷ codes "include" ∷ codes "GInterfaceInitFunc" ∷ [])
is_first n (set.Sign s) ns before a = absurd cc
is_first n (set.Word w) ns before a = absurd cc
is_first n x ns before a = absurd a
