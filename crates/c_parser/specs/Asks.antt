-- The parts that are asked for one level deeper.
use Rattle.std.specs.Prelude.{◌≡◌, ℕ, ◌<◌, ◌≤◌, Result, Ok, Err, Some, false}
use denote.Ref.{MutBor}
use Rattle.c_grammar.specs.Parts as part
use Rattle.c_parser.specs.declared.asks.Ask.{Ask}
use Rattle.c_parser.specs.declared.asks.Ask.TheVariants as ask
use Rattle.c_parser.specs.declared.asks.Reply.{Reply}
use Rattle.c_parser.specs.declared.asks.Reply.TheVariants as reply
use Rattle.c_cursor.specs.declared.no_memory.NoMemory.{NoMemory}
use Rattle.c_cursor.specs.declared.parser.Parser.{Parser}
use Rattle.c_cursor.specs.Gives.{reads, state}
use Rattle.c_cursor.specs.Scopes.{names_of}
use Rattle.c_cursor.specs.State.{bad}

-- the answer to what was asked is what is read of it
abbrev pub Told : Ask → ℕ → Parser → Result Reply NoMemory → Parser → Type 0
Told (ask.Value c) l p (Ok (reply.Expr a)) q = reads (part.Value c) l p ≡ Some (a, state q)
Told ask.Block l p (Ok (reply.Block b)) q = reads part.BlockOf l p ≡ Some (b, state q)
Told a l p (Ok r) q = ⊥
Told a l p (Err e) q = Unit {0}

-- a function value that reads what stands at a level or deeper
pub record Nests (least : ℕ) (pre : MutBor Parser → ℕ → Ask → Type 0) (post : MutBor Parser → ℕ → Ask → Result Reply NoMemory → MutBor Parser
    → Type 0) : Type 0 where
  pub callable : (old : MutBor Parser) (level : ℕ) (a : Ask) → least ≤ level → level < 65 → pre old level a
  pub reads : (old new : MutBor Parser) (level : ℕ) (a : Ask) (r : Result Reply NoMemory) → post old level a r new → Told a level old.now r new.now
  pub names : (old new : MutBor Parser) (level : ℕ) (a : Ask) (x : Reply) → post old level a (Ok x) new → names_of new.now.names ≡ names_of old.now.names
  pub ends : (old new : MutBor Parser) (level : ℕ) (a : Ask) (r : Result Reply NoMemory) → post old level a r new → new.now.end ≡ old.now.end
  pub stop : (old new : MutBor Parser) (level : ℕ) (a : Ask) (r : Result Reply NoMemory) → post old level a r new → bad new.now.cursor ≡ bad old.now.cursor
  pub low : (old new : MutBor Parser) (level : ℕ) (x : Reply) → post old level ask.Block (Ok x) new → new.now.is_stopped ≡ false → level < 65
