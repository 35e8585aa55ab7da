-- What is known of statements, one level after another, and of declarations.
use Rattle.std.proofs.Common.{if◌then◌else◌, ◌≡◌, ◌∙◌, refl, sym, ap, ℕ, ◌+◌, ◌<◌, length, get_or, drop, map, reverse, List, [], ◌∷◌, ◌++◌, append_assoc, append-nil, Option, Some, None}
use Rattle.std.specs.Option.{option_map}
use Rattle.c_tree.specs.declared.code.Expr.{Expr}
use Rattle.c_tree.specs.declared.code.Local.{Local}
use Rattle.c_tree.specs.declared.code.Stmt.{Stmt, roll-Stmt}
use Rattle.c_tree.specs.declared.code.Stmt.TheVariants as stmt
use Rattle.c_tree.specs.declared.code.Stmt.TheOpen.{Stmt-F}
use Rattle.c_tree.specs.declared.code.Stmt.TheFolds.{fold-roll-Stmt, fold_out-Block, map-Stmt}
use Rattle.c_tree.specs.declared.code.Block.{Block, out-Block}
use Rattle.c_tree.specs.declared.kinds.Kind.{Kind}
use Rattle.c_tree.specs.declared.kinds.Sort.TheVariants as sort
use Rattle.c_tree.specs.Env.{Env, kind_of, opened}
use Rattle.c_tree.specs.Checks.{Known, checked}
use Rattle.c_tree.specs.Faults.{fault}
use Rattle.c_tree.specs.Kinds.{is_void}
use Rattle.c_tree.specs.declared.kinds.Cause.TheVariants.{Misfit}
use Rattle.c_tree.specs.declared.names.Span.{Span}
use Rattle.c_body_checker.specs.Rows.{argument}
use Rattle.c_body_checker.specs.declared.calls.Argument.{Argument}
use Rattle.c_tree.specs.Rules.{Body, Context, all_faults, all_labels, all_targets, check_block, check_stmt, checked_block, condition, else_faults, else_labels, else_targets, fit_by, inner, local_faults, locals_faults, return_by, return_faults, with_local, with_locals}
use Rattle.c_value_checker.specs.declared.environment.Environment.{Environment}
use Rattle.c_value_checker.specs.declared.faults.Findings.{Findings}
use Rattle.c_tree.specs.Unit.{block_end, label_faults, target_faults}
use Rattle.c_tree.specs.declared.names.Name.{Name}
use Rattle.c_body_checker.specs.Bodies.{context, else_body, jump_faults, of_statement, returned, whole_body}
use Rattle.c_value_checker.specs.Noted.{noted}
use Rattle.c_value_checker.specs.Seen.{closed, seen}
use Rattle.c_value_checker.proofs.NotedLemmas.{dropped, noted_append, noted_both}
use Rattle.c_value_checker.proofs.OperandLemmas.{null_kept}
use Rattle.c_body_checker.proofs.LabelLemmas.{target_reverse}
use Rattle.c_value_checker.proofs.ScopeLemmas.{Inside, closed_inside, inside_declared, inside_is, inside_opened}

-- 1. Statements

abbrev pub stmt_layer : Stmt-F Stmt Block → Stmt-F Body Body
stmt_layer = map-Stmt Stmt Block Body Body of_statement (checked_block checked)

abbrev pub stmt_at : Stmt-F Stmt Block → Stmt
stmt_at (Stmt-F.Assign a b) = stmt.Assign a b
stmt_at (Stmt-F.Call c) = stmt.Call c
stmt_at (Stmt-F.Store a c) = stmt.Store a c
stmt_at (Stmt-F.If a b o) = stmt.If a b o
stmt_at (Stmt-F.IfGoto a x) = stmt.IfGoto a x
stmt_at (Stmt-F.Goto x) = stmt.Goto x
stmt_at (Stmt-F.Label x) = stmt.Label x
stmt_at (Stmt-F.Switch a cs x) = stmt.Switch a cs x
stmt_at (Stmt-F.Return o e) = stmt.Return o e
stmt_at (Stmt-F.Block b) = stmt.Block b

pub stmt_rolls_at : (l : Stmt-F Stmt Block) → roll-Stmt l ≡ stmt_at l
stmt_rolls_at (Stmt-F.Assign a b) = stmt.rolls-Assign a b
stmt_rolls_at (Stmt-F.Call c) = stmt.rolls-Call c
stmt_rolls_at (Stmt-F.Store a c) = stmt.rolls-Store a c
stmt_rolls_at (Stmt-F.If a b o) = stmt.rolls-If a b o
stmt_rolls_at (Stmt-F.IfGoto a x) = stmt.rolls-IfGoto a x
stmt_rolls_at (Stmt-F.Goto x) = stmt.rolls-Goto x
stmt_rolls_at (Stmt-F.Label x) = stmt.rolls-Label x
stmt_rolls_at (Stmt-F.Switch a cs x) = stmt.rolls-Switch a cs x
stmt_rolls_at (Stmt-F.Return o e) = stmt.rolls-Return o e
stmt_rolls_at (Stmt-F.Block b) = stmt.rolls-Block b

pub stmt_known : (l : Stmt-F Stmt Block) → of_statement (stmt_at l) ≡ check_stmt checked (stmt_layer l)
stmt_known l = ap of_statement (sym (stmt_rolls_at l)) ∙ fold-roll-Stmt Body Body (check_stmt checked) check_block l

pub if_known : (a : Expr) (b : Block) (o : Option Block) (c : Context)
    → (of_statement (stmt.If a b o)).faults c ≡ (condition c.env (checked a) ++ inner (checked_block checked b) c) ++ else_faults (else_body o) c
if_known a b None c = ap (λ (z : Body). z.faults c) (stmt_known (Stmt-F.If a b None))
if_known a b (Some d) c = ap (λ (z : Body). z.faults c) (stmt_known (Stmt-F.If a b (Some d)))

pub if_labels : (a : Expr) (b : Block) (o : Option Block)
    → (of_statement (stmt.If a b o)).labels ≡ (checked_block checked b).labels ++ else_labels (else_body o)
if_labels a b None = ap (λ (z : Body). z.labels) (stmt_known (Stmt-F.If a b None))
if_labels a b (Some d) = ap (λ (z : Body). z.labels) (stmt_known (Stmt-F.If a b (Some d)))

pub if_targets : (a : Expr) (b : Block) (o : Option Block)
    → (of_statement (stmt.If a b o)).targets ≡ (checked_block checked b).targets ++ else_targets (else_body o)
if_targets a b None = ap (λ (z : Body). z.targets) (stmt_known (Stmt-F.If a b None))
if_targets a b (Some d) = ap (λ (z : Body). z.targets) (stmt_known (Stmt-F.If a b (Some d)))

-- a statement of one level, by what is noted
pub known_noted : (l : Stmt-F Stmt Block) (c : Context) (s : Stmt) (f g : Findings) → s ≡ stmt_at l → g ≡ noted f ((check_stmt checked (stmt_layer l)).faults c)
    → g ≡ noted f ((of_statement s).faults c)
known_noted l c s f g is eg = eg ∙ ap (noted f) (sym (ap (λ x. (of_statement x).faults c) is ∙ ap (λ (z : Body). z.faults c) (stmt_known l)))

pub if_noted : (env : Env) (r : Option Kind) (s : Stmt) (a : Expr) (b : Block) (o : Option Block) (f g h k : Findings) → s ≡ stmt.If a b o
    → g ≡ noted f (condition env (checked a)) → h ≡ noted g (inner (checked_block checked b) (context env r))
    → k ≡ noted h (else_faults (else_body o) (context env r))
    → k ≡ noted f ((of_statement s).faults (context env r))
if_noted env r s a b o f g h k is eg eh ek =
    noted_both f h k (condition env (checked a) ++ inner (checked_block checked b) (context env r)) (else_faults (else_body o) (context env r))
    (noted_both f g h (condition env (checked a)) (inner (checked_block checked b) (context env r)) eg eh) ek
    ∙ ap (noted f) (sym (ap (λ x. (of_statement x).faults (context env r)) is ∙ if_known a b o (context env r)))

-- a statement of one level, by its labels and by what it goes to
pub known_labels : (l : Stmt-F Stmt Block) (s : Stmt) (xs ys : List Name) → s ≡ stmt_at l → ys ≡ xs ++ (check_stmt checked (stmt_layer l)).labels
    → ys ≡ xs ++ (of_statement s).labels
known_labels l s xs ys is e = e ∙ ap (λ z. xs ++ z) (sym (ap (λ x. (of_statement x).labels) is ∙ ap (λ (z : Body). z.labels) (stmt_known l)))

pub known_targets : (l : Stmt-F Stmt Block) (s : Stmt) (xs ys : List Name) → s ≡ stmt_at l → ys ≡ xs ++ (check_stmt checked (stmt_layer l)).targets
    → ys ≡ xs ++ (of_statement s).targets
known_targets l s xs ys is e = e ∙ ap (λ z. xs ++ z) (sym (ap (λ x. (of_statement x).targets) is ∙ ap (λ (z : Body). z.targets) (stmt_known l)))

-- nothing more
pub none_more : (xs ys : List Name) → ys ≡ xs → ys ≡ xs ++ []
none_more xs ys e = e ∙ sym (append-nil xs)

more_both : (xs ys zs a b : List Name) → ys ≡ xs ++ a → zs ≡ ys ++ b → zs ≡ xs ++ (a ++ b)
more_both xs ys zs a b ey ez = ez ∙ ap (λ l. l ++ b) ey ∙ append_assoc xs a b

pub if_labelled : (s : Stmt) (a : Expr) (b : Block) (o : Option Block) (xs ys zs : List Name) → s ≡ stmt.If a b o → ys ≡ xs ++ (checked_block checked b).labels
    → zs ≡ ys ++ else_labels (else_body o)
    → zs ≡ xs ++ (of_statement s).labels
if_labelled s a b o xs ys zs is ey ez =
    more_both xs ys zs (checked_block checked b).labels (else_labels (else_body o)) ey ez
    ∙ ap (λ l. xs ++ l) (sym (ap (λ x. (of_statement x).labels) is ∙ if_labels a b o))

pub if_targeted : (s : Stmt) (a : Expr) (b : Block) (o : Option Block) (xs ys zs : List Name) → s ≡ stmt.If a b o → ys ≡ xs ++ (checked_block checked b).targets
    → zs ≡ ys ++ else_targets (else_body o)
    → zs ≡ xs ++ (of_statement s).targets
if_targeted s a b o xs ys zs is ey ez =
    more_both xs ys zs (checked_block checked b).targets (else_targets (else_body o)) ey ez
    ∙ ap (λ l. xs ++ l) (sym (ap (λ x. (of_statement x).targets) is ∙ if_targets a b o))

pub block_faults : (b : Block) (c : Context)
    → (checked_block checked b).faults c ≡ locals_faults c.env (out-Block b).locals
    ++ all_faults (record c { env = with_locals c.env (out-Block b).locals }) (map of_statement (out-Block b).body)
block_faults b c = ap (λ (z : Body). z.faults c) (fold_out-Block Body Body (check_stmt checked) check_block b)

pub block_labels : (b : Block) → (checked_block checked b).labels ≡ all_labels (map of_statement (out-Block b).body)
block_labels b = ap (λ (z : Body). z.labels) (fold_out-Block Body Body (check_stmt checked) check_block b)

pub block_targets : (b : Block) → (checked_block checked b).targets ≡ all_targets (map of_statement (out-Block b).body)
block_targets b = ap (λ (z : Body). z.targets) (fold_out-Block Body Body (check_stmt checked) check_block b)

-- 2. Declarations

pub local_names : (ls : List Local) (i : ℕ) (l : Local) (d e : Env) → i < length ls → l ≡ get_or ls i l → e ≡ with_local d l
    → with_locals e (drop (i + 1) ls) ≡ with_locals d (drop i ls)
local_names ls i l d e h is p = ap (λ x. with_locals x (drop (i + 1) ls)) p ∙ ap (with_locals d) (sym (dropped ls i l h is))

pub local_noted : (ls : List Local) (i : ℕ) (l : Local) (d e : Env) (f g : Findings) → i < length ls → l ≡ get_or ls i l → e ≡ with_local d l
    → g ≡ noted f (local_faults d l)
    → noted g (locals_faults e (drop (i + 1) ls)) ≡ noted f (locals_faults d (drop i ls))
local_noted ls i l d e f g h is p n =
    ap (λ x. noted g (locals_faults x (drop (i + 1) ls))) p
    ∙ ap (λ x. noted x (locals_faults (with_local d l) (drop (i + 1) ls))) n
    ∙ sym (noted_append f (local_faults d l) (locals_faults (with_local d l) (drop (i + 1) ls)))
    ∙ ap (λ r. noted f (locals_faults d r)) (sym (dropped ls i l h is))

-- 3. Scopes

-- what is declared in a scope stays there
pub inside_locals : (env d : Env) (ls : List Local) → Inside env d → Inside env (with_locals d ls)
inside_locals env d [] p = p
inside_locals env d (l ∷ ls) p = inside_locals env (with_local d l) ls (inside_declared env d (with_local d l) l.name (sort.Variable (kind_of d l.declared)) p refl)

-- what is closed again is what it was
pub closed_locals : (e : Environment) (o b d : Env) (ls : List Local) → o ≡ opened (seen e) → b ≡ with_locals o ls → d ≡ closed b → d ≡ seen e
closed_locals e o b d ls eo eb ed = ed ∙ closed_inside e b (inside_is (seen e) (with_locals o ls) b (inside_locals (seen e) o ls (inside_opened (seen e) o eo)) eb)

-- 4. Bodies

pub jumps_noted : (b : Block) (ls ms ts : List Name) (n : ℕ) (f g h : Findings) → ls ≡ (checked_block checked b).labels → ms ≡ reverse ls
    → ts ≡ (checked_block checked b).targets → n ≡ block_end b
    → g ≡ noted f (label_faults [] ls) → h ≡ noted g (target_faults ms n ts) → h ≡ noted f (jump_faults b)
jumps_noted b ls ms ts n f g h el em et en eg eh =
    noted_both f g h (label_faults [] (checked_block checked b).labels)
    (target_faults (checked_block checked b).labels (block_end b) (checked_block checked b).targets)
    (eg ∙ ap (λ l. noted f (label_faults [] l)) el) (eh ∙ (λ i. noted g (target_faults ((em ∙ ap reverse el) i) (en i) (et i)))
    ∙ ap (noted g) (target_reverse (checked_block checked b).labels (block_end b) (checked_block checked b).targets))

pub body_noted : (env : Env) (r : Option Kind) (b : Block) (f g h : Findings) → g ≡ noted f ((checked_block checked b).faults (context env r))
    → h ≡ noted g (jump_faults b) → h ≡ noted f (whole_body env r b)
body_noted env r b f g h eg eh =
    noted_both f g h ((checked_block checked b).faults (context env r)) (jump_faults b) eg eh
    ∙ ap (noted f) (sym (append_assoc ((checked_block checked b).faults (context env r)) (label_faults [] (checked_block checked b).labels)
    (target_faults (checked_block checked b).labels (block_end b) (checked_block checked b).targets)))

-- 5. Returns

returned_kept : (env : Env) (r : Option Kind) (word : Span) (a : Known) → returned r word (argument env a) ≡ return_by env r word a
returned_kept env None word a = refl
returned_kept env (Some k) word a = ap (λ b. if is_void k then fault Misfit word.start a.span.end else fit_by (Some k) (a.value.kind env) b a.span)
    (null_kept a.value.literal)

pub return_noted : (env : Env) (r : Option Kind) (word : Span) (o : Option Expr) (e : Expr) (a : Argument) (f g h : Findings) → o ≡ Some e
    → a ≡ argument env (checked e) → g ≡ noted f ((checked e).value.faults env)
    → h ≡ noted g (returned r word a) → h ≡ noted f (return_faults (context env r) word (option_map checked o))
return_noted env r word o e a f g h eo ea eg eh =
    noted_both f g h ((checked e).value.faults env) (return_by env r word (checked e)) eg
    (eh ∙ ap (λ x. noted g (returned r word x)) ea ∙ ap (noted g) (returned_kept env r word (checked e)))
    ∙ ap (λ x. noted f (return_faults (context env r) word (option_map checked x))) (sym eo)
