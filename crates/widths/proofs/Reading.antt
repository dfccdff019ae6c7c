-- The numbers of a reply that was read fit the 32 bits that C reads.
-- Assumes nothing.
use mathlib.Core.Path.{◌≡◌}
use mathlib.Core.Bool.{true}
use mathlib.Core.List.{List}
use Prim.Native.Nat.{ℕ, ◌+◌, ◌≤◌, ◌<◌}
use native.Mathlib.Omega.{arith}
use lib.Dec.{leb, eqb, lit<}
use lib.ListN.{length, get_or, drop}
use borrow.Author.Tests.{leb-true, eqb-true}
use Rattle.laws.specs.declared.Run.{Run}
use Rattle.laws.specs.Bytes.{of_be16}
use Rattle.laws.specs.Parts.{Within}
use Rattle.laws.proofs.Choice.{both_true}
use Rattle.fields.specs.declared.Kind.{Kind}
use Rattle.fields.specs.declared.Key.{Key}
use Rattle.fields.specs.Fields.{index_of, number_in_def, run_in_def}
use Rattle.map.proofs.Sound.{map_run}
use Rattle.smp.specs.Packet.{sized}
use Rattle.laws.proofs.Lists.{two_bytes}
use Rattle.std.specs.Prelude.{Option, Some, None}
use Rattle.replies.specs.declared.Reply.{Reply}
use Rattle.replies.specs.Read.{reply, is_reply_def, read_reply_def}
use Rattle.replies.proofs.Case.{zero_small, read_case}
use Rattle.records.specs.Records.{run_start_def, run_length_def}
use Rattle.records.specs.Inner.{ReplySmall}

-- a text that lies within the packet ends inside it
pub run_inside : (s : List ℕ) (x : Option Run) → Within s x → run_start_def x + run_length_def x ≤ length s
unfolding run_start_def run_length_def
run_inside s None o = omega arith
run_inside s (Some r) o = o

-- a reply is as long as its header says, and has at most 65,533 bytes
reply_sized : (s : List ℕ) → is_reply_def s ≡ true → (length s ≡ 8 + of_be16 (drop 2 s)) × (length s ≤ 65533)
unfolding is_reply_def sized
reply_sized s e =
    let t = both_true (sized s) _ e in
    let a = both_true (leb 8 (length s)) _ t.0 in
    let b = both_true (eqb (length s) (8 + of_be16 (drop 2 s))) _ a.1 in
    (eqb-true _ _ b.0, leb-true (length s) 65533 b.1)

-- each reply that is read is small, whose group is of two bytes
pub reply_small : (s : List ℕ) → get_or s 4 0 < 256 → get_or s 5 0 < 256 → (r : Reply) → read_reply_def s ≡ reply r → ReplySmall r
unfolding index_of
reply_small s high low =
    read_case ReplySmall s
    (λ f e m g h.
    let z = reply_sized s e in
    let inside = run_inside s (run_in_def f Key.Text) (map_run Kind.Reply s 8 f m Key.Text (lit< tt)) in
    record {
      length = omega (arith, z.0, z.1);
      group = omega (arith, two_bytes s 4);
      rc = zero_small (number_in_def f Key.Rc) g;
      off = zero_small (number_in_def f Key.Off) h;
      start = omega (arith, z.1, inside);
      run = omega (arith, z.1, inside);
    })
