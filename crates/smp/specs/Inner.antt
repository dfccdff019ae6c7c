-- Only proofs need this file: what the functions that write a reply promise, in words of the definitions.
-- Assumes nothing.
use Rattle.std.specs.Prelude.{ℕ, ◌≡◌, List, length}
use Rattle.laws.specs.Bytes.{pasted}
use Rattle.smp.specs.declared.Header.{Header}
use Rattle.smp.specs.Reply.{reply_bytes}

-- x written to the start of the buffer, d before and e after: n is its length
pub record Starts (d x : List ℕ) (n : ℕ) (e : List ℕ) : Type 0 where
  pub count : n ≡ length x
  pub bytes : e ≡ pasted d 0 x

-- a reply with the map m that was written: its length n, and the buffer, d before and e after
pub record Written (h : Header) (m d : List ℕ) (n : ℕ) (e : List ℕ) : Type 0 where
  pub count : n ≡ length (reply_bytes h m (length d))
  pub bytes : e ≡ pasted d 0 (reply_bytes h m (length d))
