-- The text of a reply lies inside its packet.
-- Assumes nothing.
use mathlib.Core.Path.{◌≡◌, refl}
use mathlib.Core.List.{List}
use Rattle.std.specs.Prelude.{Option, Some, None}
use Prim.Native.Nat.{ℕ, ◌+◌, ◌≤◌, ◌<◌}
use native.Mathlib.Omega.{arith}
use lib.Dec.{lit<}
use lib.ListN.{length, get_or}
use Rattle.laws.proofs.Choice.{pick_case}
use Rattle.fields.specs.declared.Kind.{Kind}
use Rattle.fields.specs.declared.Key.{Key}
use Rattle.fields.specs.declared.Fields.{Fields}
use Rattle.fields.specs.Fields.{index_of, number_in_def, run_in_def}
use Rattle.map.specs.Walk.{map_from_def}
use Rattle.map.proofs.Sound.{map_run}
use Rattle.rules.specs.Plan.{above, largest}
use Rattle.replies.specs.Read.{Said, reply, refused, values_of, map_read, is_reply_def, read_reply_def}
use Rattle.records.specs.Records.{run_start_def, run_length_def, reply_numbers_def}
use Rattle.packet_calls.specs.Calls.{read_by, read_c}
use Rattle.widths.proofs.Reading.{run_inside}
use Rattle.caller.specs.Replies.{TextInside}

-- what was read of the packet p: a text that lies inside it, or a refusal with a number above 0
abbrev Sound : List ℕ → Said → Type 0
Sound p (reply r) = run_start_def r.text + run_length_def r.text ≤ length p
Sound p (refused n) = 0 < n

-- a map's values
of_values : (p : List ℕ) (f : Fields) → map_from_def Kind.Reply p 8 ≡ Some f → Sound p (values_of p f)
unfolding values_of index_of
of_values p f e =
    pick_case (Sound p) (above largest (number_in_def f Key.Rc)) _ _ (λ g. lit< tt)
    (λ g. pick_case (Sound p) (above largest (number_in_def f Key.Off)) _ _ (λ h. lit< tt)
    (λ h. run_inside p (run_in_def f Key.Text) (map_run Kind.Reply p 8 f e Key.Text (lit< tt))))

-- a map
of_map : (p : List ℕ) (w : Option Fields) → map_from_def Kind.Reply p 8 ≡ w → Sound p (map_read p w)
unfolding map_read
of_map p None e = lit< tt
of_map p (Some f) e = of_values p f e

-- a packet
of_packet : (p : List ℕ) → Sound p (read_reply_def p)
unfolding read_reply_def
of_packet p = pick_case (Sound p) (is_reply_def p) _ _ (λ e. of_map p (map_from_def Kind.Reply p 8) refl) (λ e. lit< tt)

-- the call's numbers, by what was read
of_numbers : (p was : List ℕ) (a : Said) → Sound p a → (read_by was a).result ≡ 0
    → get_or (read_by was a).reply 10 0 + get_or (read_by was a).reply 11 0 ≤ length p
unfolding read_by reply_numbers_def
of_numbers p was (reply r) h e = h
of_numbers p was (refused n) h e = absurd (omega (arith, h, e))

-- the text lies inside the packet
pub text_inside : TextInside
unfolding read_c
text_inside p was e = of_numbers p was (read_reply_def p) (of_packet p) e
