-- The code of a value comes to what the value means: an induction over values.
use Rattle.std.proofs.Common.{◌≡◌, ◌∙◌, refl, sym, ap, ap₂, subst, ℕ, List, [], ◌∷◌, map, Option}
use Rattle.c_tree.specs.declared.names.Span.{Span}
use Rattle.c_tree.specs.declared.code.Expr.{Expr, roll-Expr}
use Rattle.c_tree.specs.declared.code.Link.{Link, roll-Link}
use Rattle.c_tree.specs.declared.code.Choice.{Choice, roll-Choice}
use Rattle.c_tree.specs.declared.code.Suffix.{Suffix, roll-Suffix}
use Rattle.c_tree.specs.declared.code.Shape.{Shape, roll-Shape}
use Rattle.c_tree.specs.declared.code.Shape.TheOpen.{Shape-F, Suffix-F, Choice-F, Expr-F, Link-F}
use Rattle.c_tree.specs.declared.code.Shape.TheFolds.{fold-Shape, fold-Suffix, fold-Choice, fold-Link, fold-roll-Shape, fold-roll-Suffix, fold-roll-Choice, fold-roll-Expr, fold-roll-Link, map-Shape, map-Suffix, ind-Expr}
use Rattle.c_tree.specs.Checks.{Checked, Known, KnownLink, KnownChoice, KnownSuffix, operand_of, check_shape, suffix_kind, variable_kind}
use Rattle.c_tree.specs.Env.{found}
use Rattle.c_meaning.specs.State.{Value}
use Rattle.c_meaning.specs.Blocks.{Answer, bind}
use Rattle.c_meaning.specs.Values as meaning
use Rattle.c_meaning.specs.Values.{Context, Meant, mean_shape, mean_suffix, mean_choice, mean_expr, mean_link, meant}
use Rattle.cell_heap.specs.States.{heap_of}
use Rattle.c_tree.specs.declared.kinds.Kind.{Kind}
use Rattle.c_code.specs.declared.code.Start.TheVariants as start
use Rattle.c_code.specs.declared.code.Move.TheOpen.{Start-F}
use Rattle.c_code.specs.Coded.{of_value, at_place, operated}
use Rattle.c_code.specs.Resolved as code
use Rattle.c_code.specs.Resolved.{Resolution, Part, PartLink, PartChoice, PartSuffix, resolve_shape, resolve_suffix, resolve_choice, resolve_expr, resolve_link, resolved}
use Rattle.c_code.specs.Laws.{bearings_of, CodeMeansTheSame}
use Rattle.c_code.proofs.Parts.{operation_does, started}
use Rattle.c_code.proofs.Moved.{IsValue, IsPlace, value_is, place_is, nothing_is, cell_is, literal_is, routine_is, variable_is, member_is, read_on}
use Rattle.c_code.proofs.Levels.{Alike, AlikeSuffix, field, arrow, index, AlikeChoice, AlikeLink, AlikeLists, none, more, links_known, choices_known, suffixes_known, kind_known, prefixed_is, suffixes_is, operated_is, chosen_is}

-- 1. What is shown of each part

pub record AlikeShape (a : Resolution) (m : Meant) : Type 0 where
  pub checked : a.checked ≡ m.checked
  pub value : (c : Context) (at : ℕ) → IsValue c (a.value (bearings_of c) at) (m.value c at)
  pub place : (c : Context) → IsPlace c (a.place (bearings_of c)) (m.place c)

abbrev shape_resolved : Shape → Resolution
shape_resolved = fold-Shape Resolution PartSuffix PartChoice Part PartLink resolve_shape resolve_suffix resolve_choice resolve_expr resolve_link

abbrev suffix_resolved : Suffix → PartSuffix
suffix_resolved = fold-Suffix Resolution PartSuffix PartChoice Part PartLink resolve_shape resolve_suffix resolve_choice resolve_expr resolve_link

abbrev choice_resolved : Choice → PartChoice
choice_resolved = fold-Choice Resolution PartSuffix PartChoice Part PartLink resolve_shape resolve_suffix resolve_choice resolve_expr resolve_link

abbrev link_resolved : Link → PartLink
link_resolved = fold-Link Resolution PartSuffix PartChoice Part PartLink resolve_shape resolve_suffix resolve_choice resolve_expr resolve_link

abbrev shape_meant : Shape → Meant
shape_meant = fold-Shape Meant meaning.PartSuffix meaning.PartChoice meaning.Part meaning.PartLink mean_shape mean_suffix mean_choice mean_expr mean_link

abbrev suffix_meant : Suffix → meaning.PartSuffix
suffix_meant = fold-Suffix Meant meaning.PartSuffix meaning.PartChoice meaning.Part meaning.PartLink mean_shape mean_suffix mean_choice mean_expr mean_link

abbrev choice_meant : Choice → meaning.PartChoice
choice_meant = fold-Choice Meant meaning.PartSuffix meaning.PartChoice meaning.Part meaning.PartLink mean_shape mean_suffix mean_choice mean_expr mean_link

abbrev link_meant : Link → meaning.PartLink
link_meant = fold-Link Meant meaning.PartSuffix meaning.PartChoice meaning.Part meaning.PartLink mean_shape mean_suffix mean_choice mean_expr mean_link

abbrev ForShape : Shape → Type 0
ForShape s = AlikeShape (shape_resolved s) (shape_meant s)

abbrev ForSuffix : Suffix → Type 0
ForSuffix x = AlikeSuffix (suffix_resolved x) (suffix_meant x)

abbrev ForChoice : Choice → Type 0
ForChoice x = AlikeChoice (choice_resolved x) (choice_meant x)

abbrev ForExpr : Expr → Type 0
ForExpr e = Alike (resolved e) (meant e)

abbrev ForLink : Link → Type 0
ForLink l = AlikeLink (link_resolved l) (link_meant l)

-- 2. Levels whose parts are known to be alike

abbrev SureShape : Type 0
SureShape = (s : Shape) × ForShape s

abbrev SureSuffix : Type 0
SureSuffix = (x : Suffix) × ForSuffix x

abbrev SureChoice : Type 0
SureChoice = (x : Choice) × ForChoice x

abbrev SureExpr : Type 0
SureExpr = (e : Expr) × ForExpr e

abbrev SureLink : Type 0
SureLink = (l : Link) × ForLink l

-- a list of parts, resolved and meant
sure_suffixes : (xs : List SureSuffix) → AlikeLists AlikeSuffix (map suffix_resolved (map (λ e. e.0) xs)) (map suffix_meant (map (λ e. e.0) xs))
sure_suffixes [] = none
sure_suffixes (x ∷ xs) = more x.1 (sure_suffixes xs)

sure_choices : (xs : List SureChoice) → AlikeLists AlikeChoice (map choice_resolved (map (λ e. e.0) xs)) (map choice_meant (map (λ e. e.0) xs))
sure_choices [] = none
sure_choices (x ∷ xs) = more x.1 (sure_choices xs)

sure_links : (xs : List SureLink) → AlikeLists AlikeLink (map link_resolved (map (λ e. e.0) xs)) (map link_meant (map (λ e. e.0) xs))
sure_links [] = none
sure_links (x ∷ xs) = more x.1 (sure_links xs)

abbrev SureLevel : Type 0
SureLevel = Shape-F SureShape SureSuffix SureChoice SureExpr SureLink

abbrev bare_level : SureLevel → Shape-F Shape Suffix Choice Expr Link
bare_level = map-Shape SureShape SureSuffix SureChoice SureExpr SureLink Shape Suffix Choice Expr Link (λ e. e.0) (λ e. e.0) (λ e. e.0) (λ e. e.0) (λ e. e.0)

abbrev level_resolved : Shape-F Shape Suffix Choice Expr Link → Shape-F Resolution PartSuffix PartChoice Part PartLink
level_resolved = map-Shape Shape Suffix Choice Expr Link Resolution PartSuffix PartChoice Part PartLink shape_resolved suffix_resolved choice_resolved resolved link_resolved

abbrev level_meant : Shape-F Shape Suffix Choice Expr Link → Shape-F Meant meaning.PartSuffix meaning.PartChoice meaning.Part meaning.PartLink
level_meant = map-Shape Shape Suffix Choice Expr Link Meant meaning.PartSuffix meaning.PartChoice meaning.Part meaning.PartLink shape_meant suffix_meant choice_meant meant link_meant

chain_is : (c : Context) (a : Part) (m : meaning.Part) (ls : List PartLink) (ms : List meaning.PartLink) → Alike a m → AlikeLists AlikeLink ls ms
    → IsValue c (code.code (start.Chain (a.value (bearings_of c)) (code.operations (bearings_of c) (operand_of c.scope.env a.known) ls)) [])
    (meaning.chain_value c (operand_of c.scope.env m.known) (m.value c) ms)
chain_is c a m ls ms h t =
    let o = operand_of c.scope.env a.known in
    let os = code.operations (bearings_of c) o ls in
    started (Start-F.Chain (a.value (bearings_of c)) os) (heap_of c.state) c.frame
    ∙ ap (λ (v : Answer Value). of_value (operated (heap_of c.state) c.frame v (map operation_does os)))
    (value_is c (a.value (bearings_of c)) (m.value c) (h.value c))
    ∙ ap of_value (operated_is c t o (m.value c))
    ∙ ap (λ (k : Known). of_value (meaning.chain_value c (operand_of c.scope.env k) (m.value c) ms)) h.known

postfix_place : (c : Context) (e : Expr) (h : ForExpr e) (xs : List PartSuffix) (ys : List meaning.PartSuffix) → AlikeLists AlikeSuffix xs ys
    → IsPlace c (code.suffixes_place (bearings_of c) (code.kind_part (bearings_of c) (resolved e)) (code.both (bearings_of c) (resolved e)) xs)
    (meaning.suffixes_place c (meaning.kind_part c (meant e)) (λ u. (meant e).value c) (λ u. (meant e).place c) ys)
postfix_place c e h xs ys t =
    let b : meaning.Both = record { value = λ u. (meant e).value c; place = λ u. (meant e).place c } in
    let k = code.kind_part (bearings_of c) (resolved e) in
    suffixes_is c t k (code.both (bearings_of c) (resolved e)) b (record { value = h.value c; place = h.place c })
    ∙ ap (λ (k : Option Kind). at_place (meaning.suffixes_place c k b.value b.place ys)) (kind_known c (resolved e) (meant e) h)

postfix_value : (c : Context) (e : Expr) (h : ForExpr e) (xs : List PartSuffix) (ys : List meaning.PartSuffix) → AlikeLists AlikeSuffix xs ys
    → IsValue c (code.read c.scope.env (suffix_kind c.scope.env (code.kind_part (bearings_of c) (resolved e)) (code.known_suffixes xs))
    (code.suffixes_place (bearings_of c) (code.kind_part (bearings_of c) (resolved e)) (code.both (bearings_of c) (resolved e)) xs))
    (bind (meaning.suffixes_place c (meaning.kind_part c (meant e)) (λ u. (meant e).value c) (λ u. (meant e).place c) ys)
    (meaning.read_place c (suffix_kind c.scope.env (meaning.kind_part c (meant e)) (meaning.known_suffixes ys))))
postfix_value c e h xs ys t =
    let p = meaning.suffixes_place c (meaning.kind_part c (meant e)) (λ u. (meant e).value c) (λ u. (meant e).place c) ys in
    read_on c (suffix_kind c.scope.env (code.kind_part (bearings_of c) (resolved e)) (code.known_suffixes xs))
    (code.suffixes_place (bearings_of c) (code.kind_part (bearings_of c) (resolved e)) (code.both (bearings_of c) (resolved e)) xs) p
    (postfix_place c e h xs ys t)
    ∙ ap₂ (λ (k : Option Kind) (x : List KnownSuffix). of_value (bind p (meaning.read_place c (suffix_kind c.scope.env k x))))
    (kind_known c (resolved e) (meant e) h) (suffixes_known t)

level_is : (l : SureLevel) → AlikeShape (resolve_shape (level_resolved (bare_level l))) (mean_shape (level_meant (bare_level l)))
level_is (Shape-F.Number n) = record { checked = refl; value = λ c at. cell_is c _; place = nothing_is }
level_is (Shape-F.Character b) = record { checked = refl; value = λ c at. cell_is c _; place = nothing_is }
level_is (Shape-F.Text z) = record { checked = refl; value = λ c at. literal_is c c.state.literals at; place = nothing_is }
level_is (Shape-F.Constant x) = record { checked = refl; value = λ c at. cell_is c _; place = nothing_is }
level_is (Shape-F.Variable x) =
    record {
      checked = refl;
      value = λ c at. read_on c (variable_kind (found c.scope.env.scopes x.text)) (code.variable (bearings_of c) x.text) (meaning.variable_place c x.text)
          (variable_is c x.text);
      place = λ c. variable_is c x.text;
    }
level_is (Shape-F.Function x) = record { checked = refl; value = λ c at. routine_is c 0 c.routines x.text; place = nothing_is }
level_is (Shape-F.Member x) = record { checked = refl; value = λ c at. member_is c (found c.scope.env.scopes x.text); place = nothing_is }
level_is (Shape-F.SizeOf t s) = record { checked = refl; value = λ c at. cell_is c _; place = nothing_is }
level_is (Shape-F.Offset t x s) = record { checked = refl; value = λ c at. cell_is c _; place = nothing_is }
level_is (Shape-F.Prefix ps a) =
    record {
      checked = ap (λ (k : Known). check_shape (Shape-F.Prefix ps k)) a.1.known;
      value = λ c at. (prefixed_is c ps (resolved a.0) (meant a.0) a.1).value;
      place = λ c. (prefixed_is c ps (resolved a.0) (meant a.0) a.1).place;
    }
level_is (Shape-F.Postfix a xs) =
    let ys = map suffix_resolved (map (λ (e : SureSuffix). e.0) xs) in
    let zs = map suffix_meant (map (λ (e : SureSuffix). e.0) xs) in
    record {
      checked = ap₂ (λ (k : Known) (x : List KnownSuffix). check_shape (Shape-F.Postfix k x)) a.1.known (suffixes_known (sure_suffixes xs));
      value = λ c at. postfix_value c a.0 a.1 ys zs (sure_suffixes xs);
      place = λ c. postfix_place c a.0 a.1 ys zs (sure_suffixes xs);
    }
level_is (Shape-F.Chain a ls) =
    record {
      checked = ap₂ (λ (k : Known) (x : List KnownLink). check_shape (Shape-F.Chain k x)) a.1.known (links_known (sure_links ls));
      value = λ c at. chain_is c (resolved a.0) (meant a.0) _ _ a.1 (sure_links ls);
      place = nothing_is;
    }
level_is (Shape-F.Conditional cs e) =
    record {
      checked = ap₂ (λ (x : List KnownChoice) (k : Known). check_shape (Shape-F.Conditional x k)) (choices_known (sure_choices cs)) e.1.known;
      value = λ c at. started (Start-F.Choice (code.alternatives (bearings_of c) _ (resolved e.0)) ((resolved e.0).value (bearings_of c)))
          (heap_of c.state) c.frame
          ∙ ap of_value (chosen_is c (sure_choices cs) (resolved e.0) (meant e.0) e.1);
      place = nothing_is;
    }

-- 3. All values

shape_step : (l : SureLevel) → ForShape (roll-Shape (bare_level l))
shape_step l =
    subst (λ (r : Resolution). AlikeShape r (shape_meant (roll-Shape (bare_level l))))
    (sym (fold-roll-Shape Resolution PartSuffix PartChoice Part PartLink resolve_shape resolve_suffix resolve_choice resolve_expr resolve_link (bare_level l)))
    (subst (λ (m : Meant). AlikeShape (resolve_shape (level_resolved (bare_level l))) m)
    (sym (fold-roll-Shape Meant meaning.PartSuffix meaning.PartChoice meaning.Part meaning.PartLink mean_shape mean_suffix mean_choice mean_expr mean_link
    (bare_level l)))
    (level_is l))

abbrev bare_suffix : Suffix-F SureShape SureSuffix SureChoice SureExpr SureLink → Suffix-F Shape Suffix Choice Expr Link
bare_suffix = map-Suffix SureShape SureSuffix SureChoice SureExpr SureLink Shape Suffix Choice Expr Link (λ e. e.0) (λ e. e.0) (λ e. e.0) (λ e. e.0) (λ e. e.0)

abbrev suffix_layer : Suffix-F Shape Suffix Choice Expr Link → Suffix-F Resolution PartSuffix PartChoice Part PartLink
suffix_layer = map-Suffix Shape Suffix Choice Expr Link Resolution PartSuffix PartChoice Part PartLink shape_resolved suffix_resolved choice_resolved resolved link_resolved

abbrev suffix_meaning : Suffix-F Shape Suffix Choice Expr Link → Suffix-F Meant meaning.PartSuffix meaning.PartChoice meaning.Part meaning.PartLink
suffix_meaning = map-Suffix Shape Suffix Choice Expr Link Meant meaning.PartSuffix meaning.PartChoice meaning.Part meaning.PartLink shape_meant suffix_meant choice_meant meant link_meant

suffix_is : (l : Suffix-F SureShape SureSuffix SureChoice SureExpr SureLink)
    → AlikeSuffix (resolve_suffix (suffix_layer (bare_suffix l))) (mean_suffix (suffix_meaning (bare_suffix l)))
suffix_is (Suffix-F.Field x) = field x
suffix_is (Suffix-F.Arrow x) = arrow x
suffix_is (Suffix-F.Index i s) = index (resolved i.0) (meant i.0) s i.1

suffix_step : (l : Suffix-F SureShape SureSuffix SureChoice SureExpr SureLink) → ForSuffix (roll-Suffix (bare_suffix l))
suffix_step l =
    subst (λ (r : PartSuffix). AlikeSuffix r (suffix_meant (roll-Suffix (bare_suffix l))))
    (sym (fold-roll-Suffix Resolution PartSuffix PartChoice Part PartLink resolve_shape resolve_suffix resolve_choice resolve_expr resolve_link
    (bare_suffix l)))
    (subst (λ (m : meaning.PartSuffix). AlikeSuffix (resolve_suffix (suffix_layer (bare_suffix l))) m)
    (sym (fold-roll-Suffix Meant meaning.PartSuffix meaning.PartChoice meaning.Part meaning.PartLink mean_shape mean_suffix mean_choice mean_expr mean_link
    (bare_suffix l)))
    (suffix_is l))

choice_step : (l : Choice-F SureShape SureSuffix SureChoice SureExpr SureLink) → ForChoice (roll-Choice (record { test = l.test.0; yes = l.yes.0 }))
choice_step l =
    let bare : Choice-F Shape Suffix Choice Expr Link = record { test = l.test.0; yes = l.yes.0 } in
    subst (λ (r : PartChoice). AlikeChoice r (choice_meant (roll-Choice bare)))
    (sym (fold-roll-Choice Resolution PartSuffix PartChoice Part PartLink resolve_shape resolve_suffix resolve_choice resolve_expr resolve_link bare))
    (subst (λ (m : meaning.PartChoice). AlikeChoice (record { test = resolved l.test.0; yes = resolved l.yes.0 }) m)
    (sym (fold-roll-Choice Meant meaning.PartSuffix meaning.PartChoice meaning.Part meaning.PartLink mean_shape mean_suffix mean_choice mean_expr mean_link bare))
    (record { test = l.test.1; yes = l.yes.1 }))

link_step : (l : Link-F SureShape SureSuffix SureChoice SureExpr SureLink) → ForLink (roll-Link (record { operator = l.operator; operand = l.operand.0 }))
link_step l =
    let bare : Link-F Shape Suffix Choice Expr Link = record { operator = l.operator; operand = l.operand.0 } in
    subst (λ (r : PartLink). AlikeLink r (link_meant (roll-Link bare)))
    (sym (fold-roll-Link Resolution PartSuffix PartChoice Part PartLink resolve_shape resolve_suffix resolve_choice resolve_expr resolve_link bare))
    (subst (λ (m : meaning.PartLink). AlikeLink (record { operator = l.operator; operand = resolved l.operand.0 }) m)
    (sym (fold-roll-Link Meant meaning.PartSuffix meaning.PartChoice meaning.Part meaning.PartLink mean_shape mean_suffix mean_choice mean_expr mean_link bare))
    (record { operator = refl; operand = l.operand.1 }))

abbrev expr_resolved : Span → Resolution → Part
expr_resolved s r = record { known = record { span = s; value = r.checked }; value = λ b. r.value b s.start; place = r.place }

abbrev expr_meant : Span → Meant → meaning.Part
expr_meant s m = record { known = record { span = s; value = m.checked }; value = λ c. m.value c s.start; place = m.place }

expr_step : (l : Expr-F SureShape SureSuffix SureChoice SureExpr SureLink) → ForExpr (roll-Expr (record { shape = l.shape.0; span = l.span }))
expr_step l =
    let bare : Expr-F Shape Suffix Choice Expr Link = record { shape = l.shape.0; span = l.span } in
    subst (λ (r : Part). Alike r (meant (roll-Expr bare)))
    (sym (fold-roll-Expr Resolution PartSuffix PartChoice Part PartLink resolve_shape resolve_suffix resolve_choice resolve_expr resolve_link bare))
    (subst (λ (m : meaning.Part). Alike (expr_resolved l.span (shape_resolved l.shape.0)) m)
    (sym (fold-roll-Expr Meant meaning.PartSuffix meaning.PartChoice meaning.Part meaning.PartLink mean_shape mean_suffix mean_choice mean_expr mean_link bare))
    (record {
      known = ap (λ (z : Checked). record { span = l.span; value = z }) l.shape.1.checked;
      value = λ c. l.shape.1.value c l.span.start;
      place = l.shape.1.place;
    }))

-- each value has the same kind, value and place by its code
pub alike : (e : Expr) → Alike (resolved e) (meant e)
alike = ind-Expr ForShape ForSuffix ForChoice ForExpr ForLink
    (λ x y is. subst (λ z. ForShape (roll-Shape z)) is (shape_step y))
    (λ x y is. subst (λ z. ForSuffix (roll-Suffix z)) is (suffix_step y))
    (λ x y is. subst (λ z. ForChoice (roll-Choice z)) is (choice_step y))
    (λ x y is. subst (λ z. ForExpr (roll-Expr z)) is (expr_step y))
    (λ x y is. subst (λ z. ForLink (roll-Link z)) is (link_step y))

pub means_the_same : CodeMeansTheSame
means_the_same c e =
    record {
      value = value_is c ((resolved e).value (bearings_of c)) ((meant e).value c) ((alike e).value c);
      place = place_is c ((resolved e).place (bearings_of c)) ((meant e).place c) ((alike e).place c);
    }
