-- The tokens of a file, and then of all files, are walked over one after another.
use Rattle.std.proofs.Common.{◌≡◌, ◌-◌, ◌<◌, ◌≤◌, List, [], ◌∷◌, length, Option, Some, None, Ok, Err, refl, sym, ap, subst, ◌∙◌, arith}
use Rattle.vg_base.specs.declared.event.Fault.TheVariants as answer
use Rattle.static_rules.specs.declared.rules.Refusal.{Refusal}
use Rattle.vala_lexer.specs.declared.token.Token.{Token}
use Rattle.vala_lexer.specs.Tokens.{Lexeme, Left, Answer, Tokens, end, token, next_of, shown, behind, behind_next}
use Rattle.vala_compile.specs.Carried.{lexeme}
use Rattle.vala_lexer.proofs.CoverLemmas.{token_moves}
use Rattle.vala_lexer.proofs.NextLemmas.{token_ends}
use Rattle.vala_compile.specs.Steps.{State, Stepped, and_then, step, steps, Gives}

-- What is said of the tokens of the one place is said of those of the other.
abbrev pub Led : Left → State → Left → State → Type 0
Led l s m t = (ts : List Lexeme) → Tokens l ts None → (us : List Lexeme) × Tokens m us None × (steps s ts ≡ steps t us)

pub led_start : (l : Left) (s : State) → Led l s l s
led_start l s ts tokens = (ts, tokens, refl)

first_token : (m : Left) (x : Lexeme) (us : List Lexeme) → next_of m ≡ Ok (Some x) → Tokens m us None → (vs : List Lexeme) × (us ≡ x ∷ vs) × Tokens (behind m (Ok (Some x))) vs None
first_token m x _ e (end _ f) = absurd cc
first_token m x _ e (token _ y {ts = vs} f more) =
    let same : y ≡ x = cc in (vs, ap (λ (y : Lexeme). y ∷ vs) same, subst (λ (y : Lexeme). Tokens (behind m (Ok (Some y))) vs None) same more)

no_token : (m : Left) (us : List Lexeme) → ((x : Lexeme) → next_of m ≡ Ok (Some x) → ⊥) → Tokens m us None → us ≡ []
no_token m _ none (end _ f) = refl
no_token m _ none (token _ y f more) = absurd (none y f)

-- the state behind one more token
pub led_on : (l m n : Left) (s t u : State) (x : Lexeme) → Led l s m t → next_of m ≡ Ok (Some x) → n ≡ behind_next m → step t x ≡ Ok u → Led l s n u
led_on l m n s t u x led e f g ts tokens =
    let before = led ts tokens in
    let first = first_token m x before.0 e before.1 in (
      first.0,
      subst (λ (n : Left). Tokens n first.0 None) (sym (f ∙ ap (λ a. behind m a) e)) first.2,
      before.2 ∙ ap (λ (us : List Lexeme). steps t us) first.1 ∙ ap (λ (r : Stepped). and_then r (λ after. steps after first.0)) g,
    )

-- a token that may not come
pub led_refused : (l m : Left) (s t after : State) (x : Lexeme) (r : Refusal) → Led l s m t → next_of m ≡ Ok (Some x) → Gives (step t x) (Err (answer.Refused r)) after
    → (ts : List Lexeme) → Tokens l ts None → Gives (steps s ts) (Err (answer.Refused r)) after
led_refused l m s t after x r led e g ts tokens =
    let before = led ts tokens in
    let first = first_token m x before.0 e before.1 in
    (g.0, before.2 ∙ ap (λ (us : List Lexeme). steps t us) first.1 ∙ ap (λ (r : Stepped). and_then r (λ after. steps after first.0)) g.1, g.2)

-- the end of the tokens
pub led_end : (l m : Left) (s t : State) → Led l s m t → ((x : Lexeme) → next_of m ≡ Ok (Some x) → ⊥) → (ts : List Lexeme) → Tokens l ts None → steps s ts ≡ Ok t
led_end l m s t led none ts tokens =
    let before = led ts tokens in before.2 ∙ ap (λ (us : List Lexeme). steps t us) (no_token m before.0 none before.1)

-- less is left behind a token
pub shorter : (m n : Left) (x : Lexeme) → next_of m ≡ Ok (Some x) → n ≡ behind_next m → length n.bytes - n.at < length m.bytes - m.at
shorter m n x e f =
    let moves : m.at < x.span.end = token_moves m x e in
    let ends : x.span.end ≤ length m.bytes = token_ends m x e in
    let less : length m.bytes - x.span.end < length m.bytes - m.at = omega arith in
    subst (λ (n : Left). length n.bytes - n.at < length m.bytes - m.at) (sym (f ∙ ap (λ a. behind m a) e)) less

pub shown_token : (f : Option Token) (t : Token) (a : Answer) → shown (Ok f) ≡ a → f ≡ Some t → a ≡ Ok (Some (lexeme t))
shown_token f t a e h = sym e ∙ ap (λ (f : Option Token). shown (Ok f)) h
