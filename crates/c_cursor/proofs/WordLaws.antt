-- The tokens of the grammar, by those of the lexer.
use Rattle.std.proofs.Common.{◌≡◌, ℕ, zero, suc, ◌-◌, List, [], ◌∷◌, drop, Option, Some, None, Ok, refl, sym, ap, ◌∙◌}
use Rattle.c_lexer.specs.declared.cursor.Lexer.{Lexer}
use Rattle.c_lexer.specs.Tokens.{Lexeme, left, next_of, behind_next}
use Rattle.c_tree.specs.Words.{Token, Other, Hash, IncludeWord, Inside, Named, Word, words_behind, words_by, file_behind, plain, header, then_behind}
use Rattle.c_nodes.specs.Seen.{seen}
use Rattle.c_cursor.specs.declared.front.Before.{Before}
use Rattle.c_cursor.specs.declared.front.Before.TheVariants as before
use Rattle.c_cursor.specs.declared.included.Included.{Included}
use Rattle.c_cursor.specs.Files.{Finds}
use Rattle.c_cursor.specs.Rest.{tokens_of, bad_of}
use Rattle.c_cursor.specs.Fronts.{behind_of}
use Rattle.c_cursor.proofs.Left.{tokens_next}

-- tokens of a name are passed
pub inside : (n : ℕ) (ts : List Lexeme) → words_behind (Inside n) ts ≡ words_behind Other (drop n ts)
inside zero [] = refl
inside zero (t ∷ ts) = refl
inside (suc n) [] = refl
inside (suc n) (t ∷ ts) = inside n ts

-- a token that is one to the grammar
plain_step : (b : Before) (t : Lexeme) (ts : List Lexeme) → file_behind (behind_of b) t ts ≡ None
    → plain t ∷ words_behind (then_behind (behind_of b) t) ts ≡ words_behind (behind_of b) (t ∷ ts)
plain_step before.Other t ts e = refl
plain_step before.Hash t ts e = refl
plain_step before.IncludeWord t ts e = sym (ap (λ (o : Option Named). words_by o IncludeWord t ts (λ c. words_behind c ts)) e)

-- the name of an included file
file_step : (b : Before) (t : Lexeme) (ts : List Lexeme) (n : Named) → file_behind (behind_of b) t ts ≡ Some n
    → header t ts n ∷ words_behind Other (drop (n.tokens - 1) ts) ≡ words_behind (behind_of b) (t ∷ ts)
file_step before.Other t ts n e = absurd cc
file_step before.Hash t ts n e = absurd cc
file_step before.IncludeWord t ts n e =
    sym (ap (λ (o : Option Named). words_by o IncludeWord t ts (λ c. words_behind c ts)) e ∙ ap (λ (w : Word). header t ts n ∷ w) (inside (n.tokens - 1) ts))

-- where no file is found, the token stands for itself
pub joined_plain : (b : Before) (front : Lexer) (t : Lexeme) → next_of (left front) ≡ Ok (Some t)
    → Finds (file_behind (behind_of b) t (tokens_of (behind_next (left front)))) front t (tokens_of (behind_next (left front))) None
    → plain t ∷ words_behind (then_behind (behind_of b) t) (tokens_of (behind_next (left front))) ≡ words_behind (behind_of b) (tokens_of (left front))
joined_plain b front t e f = go (file_behind (behind_of b) t (tokens_of (behind_next (left front)))) refl f
  where
    go : (o : Option Named) → file_behind (behind_of b) t (tokens_of (behind_next (left front))) ≡ o
        → Finds o front t (tokens_of (behind_next (left front))) None
        → plain t ∷ words_behind (then_behind (behind_of b) t) (tokens_of (behind_next (left front))) ≡ words_behind (behind_of b) (tokens_of (left front))
    go None is found = plain_step b t (tokens_of (behind_next (left front))) is
        ∙ ap (λ (ts : List Lexeme). words_behind (behind_of b) ts) (sym (tokens_next (left front) t e))
    go (Some n) is found = absurd found

-- nor is one looked for but behind `include`
pub joined_early : (b : Before) (front : Lexer) (t : Lexeme) → next_of (left front) ≡ Ok (Some t)
    → ((ts : List Lexeme) → file_behind (behind_of b) t ts ≡ None)
    → plain t ∷ words_behind (then_behind (behind_of b) t) (tokens_of (behind_next (left front))) ≡ words_behind (behind_of b) (tokens_of (left front))
joined_early b front t e none =
    plain_step b t (tokens_of (behind_next (left front))) (none (tokens_of (behind_next (left front))))
    ∙ ap (λ (ts : List Lexeme). words_behind (behind_of b) ts) (sym (tokens_next (left front) t e))

pub joined_other : (front : Lexer) (t : Lexeme) → next_of (left front) ≡ Ok (Some t)
    → plain t ∷ words_behind (then_behind Other t) (tokens_of (behind_next (left front))) ≡ words_behind Other (tokens_of (left front))
joined_other front t e = joined_early before.Other front t e (λ ts. refl)

pub joined_hash : (front : Lexer) (t : Lexeme) → next_of (left front) ≡ Ok (Some t)
    → plain t ∷ words_behind (then_behind Hash t) (tokens_of (behind_next (left front))) ≡ words_behind Hash (tokens_of (left front))
joined_hash front t e = joined_early before.Hash front t e (λ ts. refl)

-- where one is found, it is the token
pub joined_file : (b : Before) (front : Lexer) (t : Lexeme) (i : Included) → next_of (left front) ≡ Ok (Some t)
    → Finds (file_behind (behind_of b) t (tokens_of (behind_next (left front)))) front t (tokens_of (behind_next (left front))) (Some i)
    → seen i.token ∷ words_behind Other (tokens_of (left i.behind)) ≡ words_behind (behind_of b) (tokens_of (left front))
joined_file b front t i e f = go (file_behind (behind_of b) t (tokens_of (behind_next (left front)))) refl f
  where
    go : (o : Option Named) → file_behind (behind_of b) t (tokens_of (behind_next (left front))) ≡ o
        → Finds o front t (tokens_of (behind_next (left front))) (Some i)
        → seen i.token ∷ words_behind Other (tokens_of (left i.behind)) ≡ words_behind (behind_of b) (tokens_of (left front))
    go None is found = absurd found
    go (Some n) is found =
        ap (λ (ts : List Lexeme). seen i.token ∷ words_behind Other ts) found.tokens
        ∙ ap (λ x. x ∷ words_behind Other (drop (n.tokens - 1) (tokens_of (behind_next (left front))))) found.token
        ∙ file_step b t (tokens_of (behind_next (left front))) n is
        ∙ ap (λ (ts : List Lexeme). words_behind (behind_of b) ts) (sym (tokens_next (left front) t e))

-- and the same bad token stands behind
pub joined_bad : (o : Option Named) (front : Lexer) (t : Lexeme) (ts : List Lexeme) (i : Included) → Finds o front t ts (Some i)
    → bad_of (left i.behind) ≡ bad_of (left front)
joined_bad None front t ts i f = absurd f
joined_bad (Some n) front t ts i f = f.bad

-- in the same text
pub joined_text : (o : Option Named) (front : Lexer) (t : Lexeme) (ts : List Lexeme) (i : Included) → Finds o front t ts (Some i)
    → (left i.behind).bytes ≡ (left front).bytes
joined_text None front t ts i f = absurd f
joined_text (Some n) front t ts i f = f.text

-- where the first of its tokens begins
pub joined_start : (o : Option Named) (front : Lexer) (t : Lexeme) (ts : List Lexeme) (i : Included) → Finds o front t ts (Some i) → i.token.start ≡ t.start
joined_start None front t ts i f = absurd f
joined_start (Some n) front t ts i f = ap (λ (x : Token). x.start) f.token

pub ruleset joined_laws = (joined_plain, joined_other, joined_hash, joined_file, joined_bad, joined_text, joined_start)
