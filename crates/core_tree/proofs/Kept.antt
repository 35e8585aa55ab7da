-- What each step keeps, told of a state and what a step gives, so that steps are composed.
use Rattle.std.proofs.Common.{Option, None, ◌≡◌, ℕ, ◌+◌, ◌≤◌, Bool, true, false, cond, List, [], ◌∷◌, ◌++◌, map, length, count_by, refl, sym, ap, ◌∙◌, subst, arith, append_assoc, append-nil, length-append, flat_map}
use Rattle.vg_base.specs.declared.event.Event.TheVariants.{Made}
use Rattle.vg_base.specs.declared.event.ThingKind.{ThingKind}
use Rattle.vg_base.specs.Headline.{Said, Happens, events}
use Rattle.core_tree.specs.State
use Rattle.core_tree.specs.State.{Status, Live, ThingState, Content, Place, Handler, Source, Parked, Item}
use Rattle.core_tree.specs.Owners.{ends, kind_of}
use Rattle.core_tree.specs.Places.{Out, next}
use Rattle.core_tree.specs.Runs.{progress, makings, kinds, is_going, gone_now, ending_now, by_status, past, dispatches}
use Rattle.core_tree.specs.Tidy.{parked_endings}
use Rattle.core_tree.proofs.Owned.{Loses, loses_none, loses_then, Tidy, tidy_carried, Carries, Gains, tidy_gained}
use Rattle.core_tree.proofs.Counts.{count-cons, count-append, by-more, past-more, further_more, events-append, makings-append, dispatches-append, Ordered, ordered-append, at, Further, further_same, further_trans, kinds-append, length-kinds, IdsGo, ids_same, ids_trans}

-- the ids
abbrev pub ids_of : List Handler → List ℕ
ids_of hs = map (λ (h : Handler). h.id) hs

abbrev pub source_ids_of : List Source → List ℕ
source_ids_of ss = map (λ (x : Source). x.id) ss

-- From these parts of a state to a later one, with what is said on the way: which sources are dispatched, how many things begin to end and how many
-- owners are lost at most, and which thing was given up before and is after it.
pub record Kept (begun : ℕ) (before after : Option ℕ) (ds : List ℕ) (u : State.State) (es : List Said) (xs : List ThingState) (pl : List Place) (w : List Item) (ps : List Parked) (hs : List Handler) (h : ℕ) (ss : List Source) (l : ℕ) : Type 0 where
  pub made : kinds u.things ≡ kinds xs ++ makings (events es)
  pub further : Further xs u.things
  pub gone : (t : ℕ) → by_status gone_now (at u.things t) ≡ by_status gone_now (at xs t) + count_by (is_going t) (events es)
  pub order : Ordered (length xs) (events es)
  pub endings : (t : ℕ) → (count_by (ends t) u.work + parked_endings t u.parked) + by_status ending_now (at xs t) ≡ (count_by (ends t) w + parked_endings t ps) + by_status ending_now (at u.things t)
  pub begins : past u.things ≤ past xs + begun
  pub stages : (t : ℕ) → by_status progress (at u.things t) ≤ by_status progress (at xs t) + begun
  pub handlers : IdsGo h (ids_of hs) u.last_handler (ids_of u.handlers)
  pub sources : IdsGo l (source_ids_of ss) u.last_source (source_ids_of u.sources)
  pub dispatched : dispatches (events es) ≡ ds
  pub tidy : Tidy before xs pl → Tidy after u.things u.places
  pub lost : Tidy before xs pl → Loses begun before after pl u.places

-- the step keeps it
abbrev pub Keeps : ℕ → List ℕ → State.State → Out → Type 0
Keeps begun ds s o = Kept begun None None ds o.0 o.1 s.things s.places s.work s.parked s.handlers s.last_handler s.sources s.last_source

-- Work

-- the same endings stand in the work
pub record Calm (w v : List Item) : Type 0 where
  pub by : (t : ℕ) → count_by (ends t) v ≡ count_by (ends t) w

pub calm_same : (w : List Item) → Calm w w
calm_same w = record { by = λ t. refl }

-- the item ends nothing
abbrev pub IsPlain : Item → Type 0
IsPlain i = (t : ℕ) → ends t i ≡ false

-- none of the items ends anything
pub record Plain (items : List Item) : Type 0 where
  pub by : (t : ℕ) → count_by (ends t) items ≡ 0

pub calm_item : (i : Item) (w v : List Item) → IsPlain i → Calm w v → Calm w (i ∷ v)
calm_item i w v h c = record { by = λ t. (let a = count-cons (ends t) i v in let b = c.by t in let d : cond {A = ℕ} (ends t i) 1 0 ≡ 0 = ap (λ (x : Bool). cond {A = ℕ} x 1 0) (h t) in omega arith) }

pub calm_items : (items w v : List Item) → Plain items → Calm w v → Calm w (items ++ v)
calm_items items w v p c = record { by = λ t. (let a = p.by t in let b = c.by t in let d = count-append (ends t) items v in omega arith) }

-- two lists that belong together
pub calm_both : (a b w v : List Item) → Plain a → Plain b → Calm w v → Calm w (a ++ b ++ v)
calm_both a b w v p q c = record { by = λ t. (let x = p.by t in let y = q.by t in let z = c.by t in let d = count-append (ends t) (a ++ b) v in let e = count-append (ends t) a b in omega arith) }

pub plain_nil : Plain []
plain_nil = record { by = λ t. refl }

pub plain_item : (i : Item) (items : List Item) → IsPlain i → Plain items → Plain (i ∷ items)
plain_item i items h p = record { by = λ t. (let a = count-cons (ends t) i items in let b = p.by t in let d : cond {A = ℕ} (ends t i) 1 0 ≡ 0 = ap (λ (x : Bool). cond {A = ℕ} x 1 0) (h t) in omega arith) }

pub plain_append : (a b : List Item) → Plain a → Plain b → Plain (a ++ b)
plain_append a b p q = record { by = λ t. (let x = p.by t in let y = q.by t in let d = count-append (ends t) a b in omega arith) }

pub plain_if : (b : Bool) (x y : List Item) → Plain x → Plain y → Plain (cond b x y)
plain_if true x y p q = p
plain_if false x y p q = q

pub plain_map : {X : Type 0} → (make : X → Item) → ((x : X) → IsPlain (make x)) → (xs : List X) → Plain (map make xs)
plain_map make h [] = plain_nil
plain_map make h (x ∷ xs) = plain_item (make x) (map make xs) (h x) (plain_map make h xs)

pub plain_flat_map : {X : Type 0} → (make : X → List Item) → ((x : X) → Plain (make x)) → (xs : List X) → Plain (flat_map make xs)
plain_flat_map make h [] = plain_nil
plain_flat_map make h (x ∷ xs) = plain_append (make x) (flat_map make xs) (h x) (plain_flat_map make h xs)

-- Steps

-- parts of a state
abbrev pub Parts : Type 0
Parts = List ThingState × List Parked × List Handler × ℕ × List Source × ℕ

abbrev pub parts : List ThingState → List Parked → List Handler → ℕ → List Source → ℕ → Parts
parts xs ps hs h ss l = (xs, ps, hs, h, ss, l)

abbrev pub Kinds : Type 0
Kinds = List ThingState × List Parked

abbrev pub things_and_parked : List ThingState → List Parked → Kinds
things_and_parked xs ps = (xs, ps)

abbrev hand : List Handler → ℕ → List Handler × ℕ
hand hs h = (hs, h)

abbrev sour : List Source → ℕ → List Source × ℕ
sour ss l = (ss, l)

abbrev pub Others : Type 0
Others = List Parked × List Handler × ℕ × List Source × ℕ

abbrev pub others : List Parked → List Handler → ℕ → List Source → ℕ → Others
others ps hs h ss l = (ps, hs, h, ss, l)

module _ (xs : List ThingState) (pl : List Place) (w : List Item) (ps : List Parked) (hs : List Handler) (h : ℕ) (ss : List Source) (l : ℕ) where
  -- things stay, work may be parked, and handlers and sources come and go
  pub keeps_moved : {begun : ℕ} {over : Option ℕ} → (u : State.State) → u.things ≡ xs → Carries over xs pl u.places → ((t : ℕ) → count_by (ends t) u.work + parked_endings t u.parked ≡ count_by (ends t) w + parked_endings t ps) → IdsGo h (ids_of hs) u.last_handler (ids_of u.handlers) → IdsGo l (source_ids_of ss) u.last_source (source_ids_of u.sources) → Kept begun None over [] u [] xs pl w ps hs h ss l
  keeps_moved {begun} {over} u same p c a b =
      record {
        made = ap kinds same ∙ sym (append-nil (kinds xs));
        further = subst (λ ys. Further xs ys) (sym same) (further_same xs);
        gone = λ t. (let q = ap (λ ys. by_status gone_now (at ys t)) same in omega arith);
        order = tt;
        endings = λ t. (let q = ap (λ ys. by_status ending_now (at ys t)) same in let d = c t in omega arith);
        begins = (let q = ap past same in omega arith);
        stages = λ t. (let q = ap (λ ys. by_status progress (at ys t)) same in omega arith);
        handlers = a;
        sources = b;
        dispatched = refl;
        tidy = λ g. subst (λ ys. Tidy over ys u.places) (sym same) (tidy_carried over xs pl u.places p g);
        lost = λ q. loses_none pl u.places (p.counts q.only);
      }

  -- things and parked activations stay, and handlers and sources come and go
  pub keeps_ids : {begun : ℕ} {over : Option ℕ} → (u : State.State) → things_and_parked u.things u.parked ≡ things_and_parked xs ps → Carries over xs pl u.places → Calm w u.work → IdsGo h (ids_of hs) u.last_handler (ids_of u.handlers) → IdsGo l (source_ids_of ss) u.last_source (source_ids_of u.sources) → Kept begun None over [] u [] xs pl w ps hs h ss l
  keeps_ids u e p c a b =
      let parked : u.parked ≡ ps = ap (λ (r : Kinds). r.1) e in
      keeps_moved u (ap (λ (r : Kinds). r.0) e) p (λ t. (let r = ap (parked_endings t) parked in let d = c.by t in omega arith)) a b

  -- nothing but the work changes
  pub keeps_calm : {begun : ℕ} {over : Option ℕ} → (u : State.State) → parts u.things u.parked u.handlers u.last_handler u.sources u.last_source ≡ parts xs ps hs h ss l → Carries over xs pl u.places → Calm w u.work → Kept begun None over [] u [] xs pl w ps hs h ss l
  keeps_calm u e p c =
      keeps_ids u (ap (λ (r : Parts). things_and_parked r.0 r.1) e) p c
      (subst (λ (r : List Handler × ℕ). IdsGo h (ids_of hs) r.1 (ids_of r.0)) (sym (ap (λ (r : Parts). hand r.2 r.3) e)) (ids_same h (ids_of hs)))
      (subst (λ (r : List Source × ℕ). IdsGo l (source_ids_of ss) r.1 (source_ids_of r.0)) (sym (ap (λ (r : Parts). sour r.4 r.5) e)) (ids_same l (source_ids_of ss)))

  -- nothing but the work changes, and something is said that is no making, going or dispatch
  pub keeps_saying : {begun : ℕ} → (u : State.State) (e : Said) → parts u.things u.parked u.handlers u.last_handler u.sources u.last_source ≡ parts xs ps hs h ss l → Carries None xs pl u.places → Calm w u.work
      → ((t : ℕ) → count_by (is_going t) (events (e ∷ [])) ≡ 0) → makings (events (e ∷ [])) ≡ [] → ((n : ℕ) → Ordered n (events (e ∷ []))) → dispatches (events (e ∷ [])) ≡ [] → Kept begun None None [] u (e ∷ []) xs pl w ps hs h ss l
  keeps_saying {begun} u e q p c g m o d =
      let k = keeps_calm {begun = begun} {over = None} u q p c in
      record {
        made = k.made ∙ ap (λ r. kinds xs ++ r) (sym m);
        further = k.further;
        gone = λ t. (let a = k.gone t in let b = g t in let z : count_by (is_going t) [] ≡ 0 = refl in omega arith);
        order = o (length xs);
        endings = k.endings;
        begins = k.begins;
        stages = k.stages;
        handlers = k.handlers;
        sources = k.sources;
        dispatched = d;
        tidy = k.tidy;
        lost = k.lost;
      }

-- one more thing of a kind, which is live
pub record More (xs ys : List ThingState) (kind : ThingKind) : Type 0 where
  pub thing : ThingState
  pub last : ys ≡ xs ++ thing ∷ []
  pub live : thing.status ≡ Live
  pub is : kind_of thing.content ≡ kind

pub more : (xs : List ThingState) (content : Content) (first count : ℕ) → More xs (xs ++ record { content = content; status = Live; first = first; count = count } ∷ []) (kind_of content)
more xs content first count = record { thing = record { content = content; status = Live; first = first; count = count }; last = refl; live = refl; is = refl }

module _ (xs : List ThingState) (pl : List Place) (w : List Item) (ps : List Parked) (hs : List Handler) (h : ℕ) (ss : List Source) (l : ℕ) where
  -- a thing is made
  pub keeps_made : {begun : ℕ} {over : Option ℕ} → (u : State.State) (kind : ThingKind) → others u.parked u.handlers u.last_handler u.sources u.last_source ≡ others ps hs h ss l → More xs u.things kind → Gains over xs pl u.places → Calm w u.work → Kept begun None over [] u (Happens (Made kind) ∷ []) xs pl w ps hs h ss l
  keeps_made {begun} {over} u kind e m g c =
      let ys = xs ++ m.thing ∷ [] in
      record {
        made = ap kinds m.last ∙ kinds-append xs (m.thing ∷ []) ∙ ap (λ k. kinds xs ++ k ∷ []) m.is;
        further = subst (λ zs. Further xs zs) (sym m.last) (further_more xs (m.thing ∷ []));
        gone = λ t. (let a = ap (λ zs. by_status gone_now (at zs t)) m.last in let b = by-more gone_now refl xs m.thing t m.live in omega arith);
        order = tt;
        endings = λ t. (let a = ap (λ zs. by_status ending_now (at zs t)) m.last in let b = by-more ending_now refl xs m.thing t m.live in let d = c.by t in let r = ap (λ (q : Others). parked_endings t q.0) e in omega arith);
        begins = (let a = ap past m.last in let b = past-more xs m.thing m.live in omega arith);
        stages = λ t. (let a = ap (λ zs. by_status progress (at zs t)) m.last in let b = by-more progress refl xs m.thing t m.live in omega arith);
        handlers = subst (λ (r : List Handler × ℕ). IdsGo h (ids_of hs) r.1 (ids_of r.0)) (sym (ap (λ (r : Others). hand r.1 r.2) e)) (ids_same h (ids_of hs));
        sources = subst (λ (r : List Source × ℕ). IdsGo l (source_ids_of ss) r.1 (source_ids_of r.0)) (sym (ap (λ (r : Others). sour r.3 r.4) e)) (ids_same l (source_ids_of ss));
        dispatched = refl;
        tidy = tidy_gained over xs u.things m.thing pl u.places m.last m.live g;
        lost = λ q. loses_none pl u.places (g.counts q.only);
      }

  -- one of two
  pub keeps_if : {begun : ℕ} {over : Option ℕ} → (b : Bool) (o p : Out) → Kept begun None over [] o.0 o.1 xs pl w ps hs h ss l → Kept begun None over [] p.0 p.1 xs pl w ps hs h ss l → Kept begun None over [] (cond b o p).0 (cond b o p).1 xs pl w ps hs h ss l
  keeps_if true o p a c = a
  keeps_if false o p a c = c

  pub keeps_either : {begun : ℕ} {over : Option ℕ} → (b : Bool) (u v : State.State) (es : List Said) → Kept begun None over [] u es xs pl w ps hs h ss l → Kept begun None over [] v es xs pl w ps hs h ss l → Kept begun None over [] (cond b u v) es xs pl w ps hs h ss l
  keeps_either true u v es a c = a
  keeps_either false u v es a c = c

  -- one of two, by a test
  pub keeps_test : {begun : ℕ} {over : Option ℕ} → (b : Bool) (o p : Out) → (b ≡ true → Kept begun None over [] o.0 o.1 xs pl w ps hs h ss l) → (b ≡ false → Kept begun None over [] p.0 p.1 xs pl w ps hs h ss l) → Kept begun None over [] (cond b o p).0 (cond b o p).1 xs pl w ps hs h ss l
  keeps_test true o p a c = a refl
  keeps_test false o p a c = c refl

  -- the work that a step finds ends as much
  pub keeps_from : (begun : ℕ) (ds : List ℕ) (v : List Item) (u : State.State) (es : List Said) → Calm v w → Kept begun None None ds u es xs pl w ps hs h ss l → Kept begun None None ds u es xs pl v ps hs h ss l
  keeps_from begun ds v u es c k =
      record {
        made = k.made;
        further = k.further;
        gone = k.gone;
        order = k.order;
        endings = λ t. (let a = k.endings t in let b = c.by t in omega arith);
        begins = k.begins;
        stages = k.stages;
        handlers = k.handlers;
        sources = k.sources;
        dispatched = k.dispatched;
        tidy = k.tidy;
        lost = k.lost;
      }

-- the same of what a step gives, where a thing is given up
abbrev pub Passes : ℕ → Option ℕ → Option ℕ → List ℕ → State.State → Out → Type 0
Passes begun before after ds s o = Kept begun before after ds o.0 o.1 s.things s.places s.work s.parked s.handlers s.last_handler s.sources s.last_source

-- one after the other
pub keeps_then : (a b : ℕ) (before mid after : Option ℕ) (ds fs : List ℕ) (s u : State.State) (es : List Said) (o : Out) → Passes a before mid ds s (u, es) → Passes b mid after fs u o → Passes (a + b) before after (ds ++ fs) s (o.0, es ++ o.1)
keeps_then a b before mid after ds fs s u es o h k =
    let ev = events-append es o.1 in
    record {
      made = k.made ∙ ap (λ ks. ks ++ makings (events o.1)) h.made ∙ append_assoc (kinds s.things) (makings (events es)) (makings (events o.1)) ∙ ap (λ ks. kinds s.things ++ ks) (sym (makings-append (events es) (events o.1)) ∙ ap makings (sym ev));
      further = further_trans s.things u.things o.0.things h.further k.further;
      gone = λ t. (let p = h.gone t in let q = k.gone t in let r = ap (count_by (is_going t)) ev in let v = count-append (is_going t) (events es) (events o.1) in omega arith);
      order = subst (λ xs. Ordered (length s.things) xs) (sym ev) (ordered-append (length s.things) (length u.things) (events es) (events o.1) (let p = ap length h.made in let q = length-kinds u.things in let r = length-kinds s.things in let v = length-append (kinds s.things) (makings (events es)) in omega arith) h.order k.order);
      endings = λ t. (let p = h.endings t in let q = k.endings t in omega arith);
      begins = (let p = h.begins in let q = k.begins in omega arith);
      stages = λ t. (let p = h.stages t in let q = k.stages t in omega arith);
      handlers = ids_trans s.last_handler u.last_handler o.0.last_handler (ids_of s.handlers) (ids_of u.handlers) (ids_of o.0.handlers) h.handlers k.handlers;
      sources = ids_trans s.last_source u.last_source o.0.last_source (source_ids_of s.sources) (source_ids_of u.sources) (source_ids_of o.0.sources) h.sources k.sources;
      dispatched = ap dispatches ev ∙ dispatches-append (events es) (events o.1) ∙ ap (λ xs. xs ++ dispatches (events o.1)) h.dispatched ∙ ap (λ xs. ds ++ xs) k.dispatched;
      tidy = λ g. k.tidy (h.tidy g);
      lost = λ g. loses_then a b before mid after s.places u.places o.0.places (h.lost g) (k.lost (h.tidy g));
    }

-- items stand in front of the work that a step finds, or that it leaves
pub keeps_behind : (begun : ℕ) (ds : List ℕ) (items : List Item) (s u : State.State) (es : List Said) → Plain items → Keeps begun ds (next items s) (u, es) → Keeps begun ds s (u, es)
keeps_behind begun ds items s u es p k =
    keeps_from s.things s.places (items ++ s.work) s.parked s.handlers s.last_handler s.sources s.last_source begun ds s.work u es (calm_items items s.work s.work p (calm_same s.work)) k

pub keeps_next : (begun : ℕ) (ds : List ℕ) (items : List Item) (s u : State.State) (es : List Said) → Plain items → Keeps begun ds s (u, es) → Keeps begun ds s (next items u, es)
keeps_next begun ds items s u es p k =
    record {
      made = k.made;
      further = k.further;
      gone = k.gone;
      order = k.order;
      endings = λ t. (let a = k.endings t in let b = (calm_items items u.work u.work p (calm_same u.work)).by t in omega arith);
      begins = k.begins;
      stages = k.stages;
      handlers = k.handlers;
      sources = k.sources;
      dispatched = k.dispatched;
      tidy = k.tidy;
      lost = k.lost;
    }

-- nothing changes but the frame, the places and the work
pub keeps_still : {begun : ℕ} → (s u : State.State) → parts u.things u.parked u.handlers u.last_handler u.sources u.last_source ≡ parts s.things s.parked s.handlers s.last_handler s.sources s.last_source → Carries None s.things s.places u.places → Calm s.work u.work → Keeps begun [] s (u, [])
keeps_still s u e p c = keeps_calm s.things s.places s.work s.parked s.handlers s.last_handler s.sources s.last_source u e p c
