-- Changes of a state that leave the tables as they are, put own items into the work alone, and print no more than so often.
use Rattle.std.proofs.Common.{◌≡◌, ◌∙◌, refl, ap, ℕ, ◌+◌, ◌≤◌, Bool, true, false, List, [], ◌∷◌, ◌++◌, Option, Some, None, Ok, Err, arith}
use Rattle.std.specs.Prelude.{if◌then◌else◌, nat_le, length, ◌^◌}
use Rattle.vg_base.specs.declared.event.ThingKind.{ThingKind}
use Rattle.vg_base.specs.declared.event.CEnd.{CEnd}
use Rattle.vg_base.specs.declared.event.Event.{Event}
use Rattle.vg_base.specs.declared.event.Event.TheVariants as event
use Rattle.vg_base.specs.Headline.{Said, Happens}
use Rattle.c_meaning.specs.declared.cell.Cell.{Cell}
use Rattle.c_meaning.specs.State.{State, Place, Thing, Value}
use Rattle.c_meaning.specs.Blocks.{Answer, on, stop, happens, block_of, set_cells, with_block, make, make_thing, say_gone, free}
use Rattle.c_meaning.specs.Texts.{give_text, sized}
use Rattle.c_meaning.specs.BlockRows.{stuck}
use Rattle.c_code.specs.Steady.{all_own, prints}

-- so many prints at most are said
pub record Moves (n : ℕ) (s t : State) : Type 0 where
  pub literals : t.literals ≡ s.literals
  pub statics : t.statics ≡ s.statics
  pub own : all_own s.work ≡ true → all_own t.work ≡ true
  pub prints : prints t.said ≤ n + prints s.said

pub same : (n : ℕ) (s : State) → Moves n s s
same n s = record { literals = refl; statics = refl; own = λ h. h; prints = omega arith }

-- a state with as many prints, and the same tables and work
pub alike : (n : ℕ) (s t : State) → t.literals ≡ s.literals → t.statics ≡ s.statics → t.work ≡ s.work → t.said ≡ s.said → Moves n s t
alike n s t l f w e =
    record {
      literals = l;
      statics = f;
      own = λ h. ap all_own w ∙ h;
      prints = let h : prints t.said ≡ prints s.said = ap prints e in omega (arith, h);
    }

pub after : (n m : ℕ) (s t u : State) → Moves n s t → Moves m t u → Moves (m + n) s u
after n m s t u a b =
    record {
      literals = b.literals ∙ a.literals;
      statics = b.statics ∙ a.statics;
      own = λ h. b.own (a.own h);
      prints = let h : prints t.said ≤ n + prints s.said = a.prints in let k : prints u.said ≤ m + prints t.said = b.prints in omega (arith, h, k);
    }

pub behind : (n : ℕ) (s t u : State) → Moves 0 s t → Moves n t u → Moves n s u
behind n s t u a b =
    record {
      literals = b.literals ∙ a.literals;
      statics = b.statics ∙ a.statics;
      own = λ h. b.own (a.own h);
      prints = let h : prints t.said ≤ 0 + prints s.said = a.prints in let k : prints u.said ≤ n + prints t.said = b.prints in omega (arith, h, k);
    }

-- 1. Ends

pub stopped : (n : ℕ) (s t : State) (e : CEnd) → Moves n s t → Moves n s (stop t e)
stopped n s t e m = record { literals = m.literals; statics = m.statics; own = m.own; prints = m.prints }

pub on_moves : {A : Type 0} (n : ℕ) (s t : State) (a : Answer A) (go : A → State) → Moves n s t → ((x : A) → Moves n s (go x)) → Moves n s (on t a go)
on_moves n s t (Ok x) go m h = h x
on_moves n s t (Err u) go m h = record { literals = m.literals; statics = m.statics; own = m.own; prints = m.prints }

pub if_moves : (n : ℕ) (s : State) (b : Bool) (t u : State) → Moves n s t → Moves n s u → Moves n s (if b then t else u)
if_moves n s true t u h k = h
if_moves n s false t u h k = k

pub stuck_moves : (n : ℕ) (s : State) → Moves n s (stuck s)
stuck_moves n s = alike n s (stuck s) refl refl refl refl

-- 2. Words

prints_append : (xs ys : List Said) → prints (xs ++ ys) ≡ prints xs + prints ys
prints_append [] ys = omega arith
prints_append (Happens (event.Print p z) ∷ xs) ys = let h : prints (xs ++ ys) ≡ prints xs + prints ys = prints_append xs ys in omega (arith, h)
prints_append (x ∷ xs) ys = prints_append xs ys

-- what happens is a print, or none
abbrev pub prints_of : Event → ℕ
prints_of e = prints (Happens e ∷ [])

pub happens_moves : (s : State) (e : Event) → Moves (prints_of e) s (happens s e)
happens_moves s e =
    record {
      literals = refl;
      statics = refl;
      own = λ h. h;
      prints = let h : prints (s.said ++ Happens e ∷ []) ≡ prints s.said + prints_of e = prints_append s.said (Happens e ∷ []) in omega (arith, h);
    }

-- 3. Blocks

pub make_moves : (n : ℕ) (s : State) (cells : List Cell) → Moves n s (make s cells)
make_moves n s cells = alike n s (make s cells) refl refl refl refl

pub thing_moves : (s : State) (k : ThingKind) (count : Option ℕ) (sliced : Bool) (cells : List Cell) → Moves 0 s (make_thing s k count sliced cells)
thing_moves s k count sliced cells =
    record {
      literals = refl;
      statics = refl;
      own = λ h. h;
      prints = let h : prints (s.said ++ Happens (event.Made k) ∷ []) ≡ prints s.said + 0 = prints_append s.said (Happens (event.Made k) ∷ []) in omega (arith, h);
    }

gone_moves : (s t : State) (o : Option Thing) → Moves 0 s t → Moves 0 s (say_gone t o)
gone_moves s t None m = m
gone_moves s t (Some x) m = after 0 0 s t (happens t (event.Gone x.serial)) m (happens_moves t (event.Gone x.serial))

pub free_moves : (s : State) (n : ℕ) → Moves 0 s (free s n)
free_moves s n =
    on_moves 0 s s (block_of s n) (λ b. say_gone (record s { blocks = with_block s.blocks n (record b { is_live = false }) }) b.thing) (same 0 s)
    (λ b. gone_moves s (record s { blocks = with_block s.blocks n (record b { is_live = false }) }) b.thing
    (alike 0 s (record s { blocks = with_block s.blocks n (record b { is_live = false }) }) refl refl refl refl))

pub set_moves : (n : ℕ) (s : State) (p : Place) (cells : List Cell) → Moves n s (set_cells s p cells)
set_moves n s p cells = on_moves n s s (block_of s p.block) _ (same n s)
    (λ b. if_moves n s (nat_le (p.at + length cells) (length b.cells)) _ _ (alike n s _ refl refl refl refl) (stopped n s s _ (same n s)))

-- 4. What is given

pub given_moves : (n : ℕ) (s t : State) (v : Option Value) → Moves n s t → Moves n s (record t { given = v })
given_moves n s t v m = record { literals = m.literals; statics = m.statics; own = m.own; prints = m.prints }

pub text_moves : (s : State) (bytes : List ℕ) → Moves 0 s (give_text s bytes)
text_moves s bytes = by_length (nat_le (2 ^ 63) (length bytes))
  where
    by_length : (b : Bool) → Moves 0 s (sized s bytes b)
    by_length true = stopped 0 s s _ (same 0 s)
    by_length false = given_moves 0 s _ _ (thing_moves s _ _ _ _)
