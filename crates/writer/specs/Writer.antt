-- What a writer of bytes leaves: its place behind what it wrote, and the other bytes of its buffer as they were.
-- Assumes nothing.
use Rattle.std.specs.Prelude.{◌≡◌, List, ℕ, ◌+◌, ◌≤◌, length}
use Rattle.laws.specs.Bytes.{pasted}
use Rattle.writer.specs.declared.Writer.{Writer}

-- x has room from the writer's place on
abbrev pub HasRoom : Writer → List ℕ → Type 0
HasRoom w x = w.at + length x ≤ length w.buf.now

-- x was written from the place of `before` on: `after` stands behind it, in the same buffer
pub record Wrote (before after : Writer) (x : List ℕ) : Type 0 where
  pub same_buffer : after.buf.ghost_name ≡ before.buf.ghost_name
  pub place : after.at ≡ before.at + length x
  pub written : after.buf.now ≡ pasted before.buf.now before.at x
