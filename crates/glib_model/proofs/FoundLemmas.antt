-- The block that a pointer leads to.
use Rattle.std.proofs.Common.{◌≡◌, ◌∙◌, refl, sym, ap, ℕ, zero, suc, Ok, Err}
use Rattle.vg_base.specs.declared.event.UndefKind.TheVariants as undef
use Rattle.c_meaning.specs.declared.cell.Cell.{Cell}
use Rattle.c_meaning.specs.declared.cell.Cell.TheVariants.{Int, Uns, Ptr, Func, Null, Unset}
use Rattle.c_meaning.specs.State
use Rattle.c_meaning.specs.State.{Block, Thing}
use Rattle.c_meaning.specs.Blocks.{Answer, bind, block_of}
use Rattle.c_meaning.specs.BlockRows.{Found, found, at_start}
use Rattle.glib_model.specs.Kinds.{numbered}

pub record IsFound (s : State.State) (c : Cell) (n : ℕ) : Type 0 where
  pub what : Found
  pub is : found s c ≡ Ok what
  pub number : what.number ≡ n
  pub block : block_of s n ≡ Ok what.block

abbrev start_of : State.State → ℕ → ℕ → Answer Block → Answer Found
start_of s b a r = bind (bind r (λ x. Ok (let p : State.Place = record { block = b; at = a } in p))) (λ p. bind (block_of s p.block) (at_start p.block p.at))

start_there : (s : State.State) (b a n : ℕ) (r : Answer Block) → block_of s b ≡ r → numbered (start_of s b a r) ≡ Ok n → start_of s b a r ≡ found s (Ptr b a) → IsFound s (Ptr b a) n
start_there s b a n (Err u) there is same = cc
start_there s b zero n (Ok x) there is same =
    let reads : found s (Ptr b 0) ≡ Ok (record { number = b; block = x }) = sym same ∙ ap (λ r. bind r (at_start b 0)) there in
    let number : b ≡ n = (let now = sym (ap numbered same) ∙ is in let other = ap numbered reads in cc) in
    record { what = record { number = b; block = x }; is = reads; number = number; block = ap (block_of s) (sym number) ∙ there }
start_there s b (suc a) n (Ok x) there is same =
    let other : numbered (start_of s b (suc a) (Ok x)) ≡ Err undef.Kind = ap (λ r. numbered (bind r (at_start b (suc a)))) there in
    cc

pub found_there : (s : State.State) (c : Cell) (n : ℕ) → numbered (found s c) ≡ Ok n → IsFound s c n
found_there s (Int z) n is = cc
found_there s (Uns m) n is = cc
found_there s (Ptr b a) n is = start_there s b a n (block_of s b) refl is refl
found_there s (Func f) n is = cc
found_there s Null n is = cc
found_there s Unset n is = cc
