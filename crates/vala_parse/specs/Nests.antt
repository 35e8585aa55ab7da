-- A function value that reads the declarations in braces at deeper levels.
use Rattle.std.specs.Prelude.{◌≡◌, ℕ, ◌<◌, ◌≤◌, [], Result}
use Rattle.std.specs.declared.alloc.Global.{Global}
use denote.Ref.{MutBor}
use Rattle.vala_cursor.specs.declared.cursor.Cursor.{Cursor}
use Rattle.vala_cursor.specs.declared.stop.Stop.{Stop}
use Rattle.vala_cursor.specs.Ahead.{rest, stop}
use Rattle.vala_cursor.specs.Gets.{Gives}
use Rattle.vala_tree.specs.declared.member.Member.{Member}
use Rattle.vala_declaration_nodes.specs.declared.parts.Closed.{Closed}
use Rattle.vala_declaration_nodes.specs.Views.{closed_of}
use Rattle.vala_file_grammar.specs.Parts as part
use Rattle.vala_file_grammar.specs.Read.{file_reader}
use Rattle.vala_parse.specs.declared.places.Place.{Place}
use Rattle.vala_parse.specs.Views.{place_in}

pub record Nests (least : ℕ) (pre : Global → MutBor Cursor → ℕ → Place → Type 0)
    (post : Global → MutBor Cursor → ℕ → Place → Result (Closed Member) Stop → MutBor Cursor → Type 0) : Type 0 where
  pub callable : (alloc : Global) (old : MutBor Cursor) (level : ℕ) (x : Place) → level ≤ 201 → least < level → pre alloc old level x
  pub reads : (alloc : Global) (old new : MutBor Cursor) (level : ℕ) (x : Place) (r : Result (Closed Member) Stop) → post alloc old level x r new
      → Gives closed_of (file_reader (part.Members (place_in x) []) level (rest old.now)) r (rest new.now)
  pub kept : (alloc : Global) (old new : MutBor Cursor) (level : ℕ) (x : Place) (r : Result (Closed Member) Stop) → post alloc old level x r new → stop new.now ≡ stop old.now
