-- `if` with `else if` behind it, by its steps.
use Rattle.std.proofs.Common.{◌≡◌, ℕ, suc, Bool, true, false, List, [], ◌∷◌, ◌++◌, if◌then◌else◌, Ok, Err, refl, sym, ap, ◌∙◌}
use Rattle.predictive_grammar.specs.Forms.{give}
use Rattle.predictive_grammar.specs.Steps.{Fault, Outcome, Parser, and_then, ◌>>=◌, pure}
use Rattle.predictive_grammar.specs.Reading.{walk}
use Rattle.vala_lexer.specs.Tokens.{Lexeme}
use Rattle.vala_tree.specs.declared.code.Arm.{Arm}
use Rattle.vala_tree.specs.declared.code.Block.{Block}
use Rattle.vala_tree.specs.declared.code.Expr.{Expr}
use Rattle.vala_grammar.specs.declared.sort.Sort.{Sort}
use Rattle.vala_grammar.specs.declared.sort.Sort.TheVariants as s
use Rattle.vala_grammar.specs.declared.parts.Ended.{Ended}
use Rattle.vala_grammar.specs.declared.parts.Branches.{Branches}
use Rattle.vala_grammar.specs.Parts as p
use Rattle.vala_grammar.specs.Grammar.{G, forms, here, where_one}
use Rattle.vala_grammar.specs.Sorts.{sort}
use Rattle.vala_grammar.specs.Tests.{is}
use Rattle.vala_grammar.specs.Trees as tree
use Rattle.vala_tree.specs.declared.code.Stmt.TheVariants as st
use Rattle.vala_grammar.specs.Answer.{limits}
use Rattle.vala_grammar.specs.Read.{vala_reader}
use Rattle.vala_grammar.proofs.Finite.{is_same}
use Rattle.vala_parse_expr.specs.declared.if_chain.Head.{Head}
use Rattle.vala_parse_expr.specs.declared.if_chain.Behind.{Behind}
use Rattle.vala_parse_expr.specs.declared.if_chain.Behind.TheVariants as behind
use Rattle.vala_cursor.specs.Ahead.{reads}
use Rattle.vala_cursor.specs.Gets.{got, one, next, way}
use Rattle.vala_parse_expr.specs.Statements.{test_in, in_front, head_of, tail_of, behind_else, adds, goes_on}
use Rattle.vala_grammar.proofs.Readers.{reader_unfolds}
use Rattle.vala_cursor.proofs.Steps.{just, way_same, first_way, other_way}
use Rattle.vala_parse_expr.proofs.StatementLaws.{test_then_law, body_law, bare_law}
use Rattle.vala_grammar.specs.Label.{Label}

one_more : (xs : List Arm) (x : Arm) (ys : List Arm) → xs ++ x ∷ ys ≡ (xs ++ x ∷ []) ++ ys
one_more [] x ys = refl
one_more (z ∷ xs) x ys = ap (λ (l : List Arm). z ∷ l) (one_more xs x ys)

with_arms : Branches → List Arm → Branches
with_arms b xs = record { arms = xs; no = b.no; is_open = b.is_open; «end» = b.«end» }

in_front_all : (xs : List Arm) (c : Expr) (a : Ended) (b : Branches) → in_front xs (tree.arm_before c a b) ≡ in_front (xs ++ tree.arm c a ∷ []) b
unfolding in_front with_arms
in_front_all xs c a b = ap (with_arms b) (one_more xs (tree.arm c a) b.arms)

-- no token is both
apart : (i : List Lexeme) → next (is s.OpenBrace) i ≡ true → next (is s.If) i ≡ false
apart [] e = refl
apart (t ∷ ts) e = ap (λ (x : Sort). is s.If x) (sym (is_same s.OpenBrace (sort t.kind) e))

-- behind `else` stands the next `if`, or the last statement
pub alternative_law : (l : ℕ) (i : List Lexeme) → vala_reader p.Alternative l i
    ≡ way (is s.If) (one s.If l >>= λ t. vala_reader p.IfMore l >>= pure) (vala_reader p.Body l >>= λ b. pure (tree.last_branch b)) i
unfolding walk forms got
alternative_law l i = reader_unfolds p.Alternative l i ∙ go (next (is s.OpenBrace) i) refl (next (is s.If) i) refl
  where
    blocks : (o : Outcome Label Lexeme Block)
        → and_then o (λ b. pure (tree.last_branch (tree.ended (st.Block b)))) ≡ and_then (and_then o (λ b. pure (tree.ended (st.Block b)))) (λ b. pure (tree.last_branch b))
    blocks (Ok x) = refl
    blocks (Err e) = refl

    simple : (o : Outcome Label Lexeme Ended) → and_then o (λ b. pure (tree.last_branch b)) ≡ and_then (and_then o (λ a. pure a)) (λ b. pure (tree.last_branch b))
    simple (Ok x) = refl
    simple (Err e) = refl

    last : Outcome Label Lexeme Ended → Outcome Label Lexeme Branches
    last o = and_then o (λ b. pure (tree.last_branch b))

    go : (b : Bool) → next (is s.OpenBrace) i ≡ b → (c : Bool) → next (is s.If) i ≡ c
        → (if next (is s.OpenBrace) i then and_then (vala_reader p.BlockOf l i) (λ b. pure (tree.last_branch (tree.ended (st.Block b)))) else if next (is s.If) i then and_then (one s.If l i) (λ t. vala_reader p.IfMore l >>= pure) else and_then (vala_reader p.Simple (suc l) i) (λ b. pure (tree.last_branch b)))
        ≡ (if next (is s.If) i then and_then (one s.If l i) (λ t. vala_reader p.IfMore l >>= pure) else and_then (vala_reader p.Body l i) (λ b. pure (tree.last_branch b)))
    go true e c f = first_way (next (is s.OpenBrace) i) _ _ e
        ∙ blocks (vala_reader p.BlockOf l i)
        ∙ sym (other_way (next (is s.If) i) _ _ (apart i e) ∙ ap last (body_law l i ∙ first_way (next (is s.OpenBrace) i) _ _ e))
    go false e true f = other_way (next (is s.OpenBrace) i) _ _ e ∙ first_way (next (is s.If) i) _ _ f ∙ sym (first_way (next (is s.If) i) _ _ f)
    go false e false f = other_way (next (is s.OpenBrace) i) _ _ e ∙ other_way (next (is s.If) i) _ _ f
        ∙ simple (vala_reader p.Simple (suc l) i)
        ∙ sym (other_way (next (is s.If) i) _ _ f
        ∙ ap last (body_law l i ∙ other_way (next (is s.OpenBrace) i) _ _ e ∙ just (vala_reader p.Bare (suc l) i) ∙ bare_law (suc l) i ∙ other_way (next (is s.If) i) _ _ f))

pub if_tail_law : (c : Expr) (a : Ended) (l : ℕ) (i : List Lexeme) → vala_reader (p.IfTail c a) l i ≡ tail_of (record { test = c; yes = a }) l i
unfolding walk forms got tail_of
if_tail_law c a l i = reader_unfolds (p.IfTail c a) l i ∙ go a.is_open
  where
    go : (o : Bool)
        → walk G vala_reader limits (p.IfTail c a) (if o then give (tree.one_arm c a) else where_one s.Else (λ w. here p.Alternative (λ b. give (tree.arm_before c a b))) (give (tree.one_arm c a))) l i
        ≡ (if o then Ok (tree.one_arm c a, i)
        else if next (is s.Else) i then and_then (one s.Else l i) (λ w. vala_reader p.Alternative l >>= λ b. pure (tree.arm_before c a b)) else Ok (tree.one_arm c a, i))
    go true = refl
    go false = refl

pub if_more_law : (l : ℕ) (i : List Lexeme) → vala_reader p.IfMore l i ≡ (head_of l >>= λ h. tail_of h l) i
unfolding walk forms head_of
if_more_law l i = reader_unfolds p.IfMore l i ∙ test_then_law {r = p.IfMore} (λ c. here {r = p.IfMore} p.Body (λ a. here {r = p.IfMore} (p.IfTail c a) (λ b. give b))) l i ∙ go (test_in l i)
  where
    bodies : (c : Expr) (o : Outcome Label Lexeme Ended)
        → and_then o (λ a. vala_reader (p.IfTail c a) l >>= λ b. pure b) ≡ and_then (and_then o (λ a. pure (record { test = c; yes = a }))) (λ h. tail_of h l)
    bodies c (Ok x) = just _ ∙ if_tail_law c x.0 l x.1
    bodies c (Err e) = refl

    go : (o : Outcome Label Lexeme Expr)
        → and_then o (λ c. vala_reader p.Body l >>= λ a. vala_reader (p.IfTail c a) l >>= λ b. pure b)
        ≡ and_then (and_then o (λ c. vala_reader p.Body l >>= λ a. pure (record { test = c; yes = a }))) (λ h. tail_of h l)
    go (Ok x) = bodies x.0 (vala_reader p.Body l x.1)
    go (Err e) = refl

-- ---- arms that were read before

adds_all : (xs : List Arm) (h : Head) (o : Outcome Label Lexeme Branches) → adds xs (and_then o (λ b. pure (tree.arm_before h.test h.yes b))) ≡ adds (xs ++ tree.arm h.test h.yes ∷ []) o
unfolding adds
adds_all xs h (Ok x) = ap (λ (b : Branches). Ok (b, x.1)) (in_front_all xs h.test h.yes x.0)
adds_all xs h (Err e) = refl

pub adds_err : (xs : List Arm) (e : Fault Label × List Lexeme) → adds xs (Err e) ≡ Err e
unfolding adds
adds_err xs e = refl

pub adds_ok : (xs : List Arm) (b : Branches) (j : List Lexeme) → adds xs (Ok (b, j)) ≡ Ok (in_front xs b, j)
unfolding adds
adds_ok xs b j = refl

pub adds_none : (o : Outcome Label Lexeme Branches) → adds [] o ≡ o
unfolding adds in_front
adds_none (Ok x) = refl
adds_none (Err e) = refl

-- no `else` goes on
pub tail_open : (h : Head) (l : ℕ) (i : List Lexeme) → h.yes.is_open ≡ true → tail_of h l i ≡ Ok (tree.one_arm h.test h.yes, i)
unfolding tail_of
tail_open h l i e = first_way h.yes.is_open _ _ e

pub tail_ends : (h : Head) (l : ℕ) (i : List Lexeme) → next (is s.Else) i ≡ false → tail_of h l i ≡ Ok (tree.one_arm h.test h.yes, i)
unfolding tail_of
tail_ends h l i e = go h.yes.is_open
  where
    go : (o : Bool)
        → (if o then Ok (tree.one_arm h.test h.yes, i) else if next (is s.Else) i then and_then (one s.Else l i) (λ w. vala_reader p.Alternative l >>= λ b. pure (tree.arm_before h.test h.yes b)) else Ok (tree.one_arm h.test h.yes, i)) ≡ Ok (tree.one_arm h.test h.yes, i)
    go true = refl
    go false = other_way (next (is s.Else) i) _ _ e

-- what an alternative is to the arms that were read before
chained : (xs : List Arm) (l : ℕ) (j : List Lexeme) → adds xs (vala_reader p.Alternative l j) ≡ (behind_else l >>= goes_on xs l) j
unfolding behind_else adds goes_on
chained xs l j = ap (λ (o : Outcome Label Lexeme Branches). adds xs o) (alternative_law l j) ∙ go (next (is s.If) j)
  where
    heads : (o : Outcome Label Lexeme Head) → adds xs (and_then (and_then o (λ h. tail_of h l)) pure) ≡ and_then (and_then o (λ h. pure (behind.Chained h))) (goes_on xs l)
    heads (Ok x) = ap (λ (o : Outcome Label Lexeme Branches). adds xs o) (just (tail_of x.0 l x.1))
    heads (Err e) = refl

    ifs : (o : Outcome Label Lexeme Lexeme) → adds xs (and_then o (λ t. vala_reader p.IfMore l >>= pure)) ≡ and_then (and_then o (λ t. head_of l >>= λ h. pure (behind.Chained h))) (goes_on xs l)
    ifs (Ok x) = ap (λ (o : Outcome Label Lexeme Branches). adds xs (and_then o pure)) (if_more_law l x.1) ∙ heads (head_of l x.1)
    ifs (Err e) = refl

    last : (o : Outcome Label Lexeme Ended) → adds xs (and_then o (λ b. pure (tree.last_branch b))) ≡ and_then (and_then o (λ b. pure (behind.Last b))) (goes_on xs l)
    last (Ok x) = refl
    last (Err e) = refl

    go : (c : Bool)
        → adds xs (if c then and_then (one s.If l j) (λ t. vala_reader p.IfMore l >>= pure) else and_then (vala_reader p.Body l j) (λ b. pure (tree.last_branch b)))
        ≡ and_then (if c then and_then (one s.If l j) (λ t. head_of l >>= λ h. pure (behind.Chained h)) else and_then (vala_reader p.Body l j) (λ b. pure (behind.Last b))) (goes_on xs l)
    go true = ifs (one s.If l j)
    go false = last (vala_reader p.Body l j)

-- `else` goes on, behind one arm more
pub tail_goes_on : (xs : List Arm) (h : Head) (l : ℕ) (i : List Lexeme) → h.yes.is_open ≡ false → next (is s.Else) i ≡ true
    → adds xs (tail_of h l i) ≡ (one s.Else l >>= λ w. behind_else l >>= goes_on (xs ++ tree.arm h.test h.yes ∷ []) l) i
unfolding tail_of adds
tail_goes_on xs h l i e f = ap (λ (o : Outcome Label Lexeme Branches). adds xs o) (other_way h.yes.is_open _ _ e ∙ first_way (next (is s.Else) i) _ _ f) ∙ go (one s.Else l i)
  where
    go : (o : Outcome Label Lexeme Lexeme)
        → adds xs (and_then o (λ w. vala_reader p.Alternative l >>= λ b. pure (tree.arm_before h.test h.yes b))) ≡ and_then o (λ w. behind_else l >>= goes_on (xs ++ tree.arm h.test h.yes ∷ []) l)
    go (Ok x) = adds_all xs h (vala_reader p.Alternative l x.1) ∙ chained (xs ++ tree.arm h.test h.yes ∷ []) l x.1
    go (Err e) = refl

pub goes_last : (xs : List Arm) (l : ℕ) (b : Ended) (j : List Lexeme) → goes_on xs l (behind.Last b) j ≡ Ok (in_front xs (tree.last_branch b), j)
unfolding goes_on
goes_last xs l b j = refl

pub goes_chained : (xs : List Arm) (l : ℕ) (h : Head) (j : List Lexeme) → goes_on xs l (behind.Chained h) j ≡ adds xs (tail_of h l j)
unfolding goes_on
goes_chained xs l h j = refl

pub ruleset if_laws = (if_more_law, adds_err, adds_ok, adds_none, tail_open, tail_ends, tail_goes_on, goes_last, goes_chained)
