-- The marks of types.
use Rattle.std.proofs.Common.{◌≡◌, refl, sym, ap, Bool, true, false, [], ◌∷◌, Option, Some, None, arith}
use Rattle.c_tree.specs.declared.names.Name.{Name}
use Rattle.c_tree.specs.declared.names.Base.{Base}
use Rattle.c_tree.specs.declared.names.Base.TheVariants as base
use Rattle.c_tree.specs.declared.kinds.Sort.{Sort}
use Rattle.c_tree.specs.Words.{Terminal, Token, Word, start_of}
use Rattle.c_tree.specs.Names.{Names}
use Rattle.c_tree.specs.Make.{name_at}
use Rattle.c_tree.specs.Env.{Env, found}
use Rattle.c_tree.specs.Checks.{base_faults, undeclared_if}
use Rattle.c_grammar.specs.Trees.{base_of, base_in, type_of, no_stars, one_star}
use Rattle.c_grammar.specs.Parts as w
use Rattle.c_grammar.specs.Parts.{What, at, Starred}
use Rattle.c_grammar.specs.Grammar.{C, form, base_behind}
use Rattle.c_fronts.proofs.Marks.{Marked, m_give, m_take, m_part, m_pick}
use Rattle.c_fronts.proofs.Shows.{Probe, shows, or_none, late_undeclared}
use Rattle.c_fronts.proofs.Telling.{Edge, Seen, Context_of, telling, start_at, Ready_for, type_tells, base_tells, BehindToken}

-- what has no fault
abbrev pub silent : {A : Type 0} → A → Bool
silent a = false

-- a word that is the base of a type, or a name
data IsBase (env : Env) (x : Name) : Base → Type 0 where
  word : {y : Base} → base_faults env y ≡ [] → IsBase env x y
  named : IsBase env x (base.Named x)

-- the base of a type is known where its name begins
pub base_late : (edge : Edge) (p : Probe) (env : Env) (t : Token) → BehindToken edge t → base_tells edge p env t ≡ false
base_late edge p env t b = go (base_of t) (one t.terminal)
  where
    one : (x : Terminal) → IsBase env (name_at t) (base_in x (name_at t))
    one (Rattle.c_tree.specs.Words.Of (Rattle.c_lexer.specs.declared.token.TokenKind.TheVariants.Keyword
        Rattle.c_lexer.specs.declared.token.Keyword.TheVariants.Void)) = word refl
    one (Rattle.c_tree.specs.Words.Of (Rattle.c_lexer.specs.declared.token.TokenKind.TheVariants.Keyword
        Rattle.c_lexer.specs.declared.token.Keyword.TheVariants.Int)) = word refl
    one (Rattle.c_tree.specs.Words.Of (Rattle.c_lexer.specs.declared.token.TokenKind.TheVariants.Keyword
        Rattle.c_lexer.specs.declared.token.Keyword.TheVariants.Char)) = word refl
    one x = named

    by_sort : (o : Option Sort) → shows edge.last p (undeclared_if o (name_at t)) ≡ false
    by_sort None = let a = edge.apart in late_undeclared edge.last p (name_at t) (omega (arith, b.0))
    by_sort (Some s) = refl

    go : (y : Base) → IsBase env (name_at t) y → shows edge.last p (base_faults env y) ≡ false
    go y (word e) = ap (shows edge.last p) e
    go y named = by_sort (found env.scopes t.bytes)

pub type_start : (u : Word) (t : Token) (v : Word) (s : Starred) → (type_of u t v s).span.start ≡ start_of t.start u
type_start [] t v s = refl
type_start (x ∷ u) t v s = refl

module _ (edge : Edge) (ns : Names) where
  abbrev pub Mark : (q : What) → Context_of q → Type 1
  Mark q c = Marked C (telling edge) (at ns q) c (start_at edge q c) (Ready_for edge q c) (form ns q)

  pub mark_consts : Mark w.Consts tt
  unfolding form
  mark_consts = m_pick (m_take silent (λ t b o. refl)
      (λ t e. m_part tt false silent (λ o. (refl, tt)) (λ u f d. refl) (λ u f. m_give (t ∷ u) tt (λ o. refl) (λ o. tt)))) (m_give [] tt (λ o. refl) (λ o. tt))

  pub mark_stars : (must : Bool) → Mark (w.Stars must) tt
  unfolding form
  mark_stars true = m_take silent (λ t b o. refl)
      (λ t e. m_part tt false silent (λ o. (refl, tt)) (λ u f d. refl)
      (λ u f. m_part tt false silent (λ o. (refl, tt)) (λ s f2 d. refl) (λ s f2. m_give (one_star t u s) tt (λ o. refl) (λ o. tt))))
  mark_stars false =
      m_pick (m_take silent (λ t b o. refl) (λ t e. m_part tt false silent (λ o. (refl, tt)) (λ u f d. refl)
      (λ u f. m_part tt false silent (λ o. (refl, tt)) (λ s f2 d. refl) (λ s f2. m_give (one_star t u s) tt (λ o. refl) (λ o. tt)))))
      (m_give no_stars tt (λ o. refl) (λ o. tt))

  pub mark_type_rest : (u : Word) (t : Token) (must : Bool) (c : Seen) → Mark (w.TypeRest u t must) c
  unfolding form
  mark_type_rest u t must c =
      let B = base_tells edge c.probe c.env t in
      m_pick (m_take (λ x. B) (λ x b o. refl) (λ x e. m_part tt B (λ v. B) (λ o. (sym (or_none B), tt)) (λ v f d. sym (or_none B))
      (λ v f. m_part tt B (λ s. B) (λ o. (sym (or_none B), tt)) (λ s f2 d. sym (or_none B))
      (λ s f2. m_give (type_of u t (x ∷ v) s) (refl, type_start u t (x ∷ v) s) (λ o. refl) (λ o. tt)))))
      (m_part tt B (λ s. B) (λ o. (sym (or_none B), tt)) (λ s f d. sym (or_none B))
      (λ s f. m_give (type_of u t [] s) (refl, type_start u t [] s) (λ o. refl) (λ o. tt)))

  pub mark_type_more : (u : Word) (t : Token) (c : Seen) → Mark (w.TypeMore u t) c
  unfolding form
  mark_type_more u t c =
      let B = base_tells edge c.probe c.env t in
      m_pick (m_take (λ x. B) (λ x b o. refl) (λ x e. m_part tt B (λ v. B) (λ o. (sym (or_none B), tt)) (λ v f d. sym (or_none B))
      (λ v f. m_part tt B (λ s. B) (λ o. (sym (or_none B), tt)) (λ s f2 d. sym (or_none B))
      (λ s f2. m_give (type_of u t (x ∷ v) s) (refl, type_start u t (x ∷ v) s) (λ o. refl) (λ o. tt)))))
      (m_part tt B (λ s. B) (λ o. (sym (or_none B), tt)) (λ s f d. sym (or_none B))
      (λ s f. m_give (type_of u t [] s) (refl, type_start u t [] s) (λ o. refl) (λ o. tt)))

  pub mark_any_type : (anyhow object : Bool) (c : Seen) → Mark (w.AnyType anyhow object) c
  unfolding form
  mark_any_type anyhow object c = m_pick (m_take silent (λ t b o. refl)
      (λ t e. m_part tt false silent (λ o. (refl, tt)) (λ u f d. refl) (λ u f. from (t ∷ u)))) (from [])
    where
      from : {over : Type 0} (u : Word) → Marked C (telling edge) (at ns (w.AnyType anyhow object)) c false over (base_behind ns anyhow object u (λ y. y))
      from u = m_take (λ t. base_tells edge c.probe c.env t) (λ t b o. base_late edge c.probe c.env t b)
          (λ t e. m_part c false (λ y. type_tells edge c.probe c.env y) (λ o. (refl, tt)) (λ y f d. refl)
          (λ y f. m_give y tt (λ o. refl) (λ o. tt)))
