-- What holds of every packet that is read as a reply.
-- Assumes nothing.
use mathlib.Core.Path.{◌≡◌, refl, subst}
use mathlib.Core.Bool.{true, false}
use mathlib.Core.List.{List}
use Prim.Native.Nat.{ℕ, ◌≤◌}
use native.Mathlib.Omega.{arith}
use borrow.Author.Tests.{ltb-false}
use Rattle.std.specs.Prelude.{Option, Some, None}
use Rattle.laws.proofs.Choice.{pick_case}
use Rattle.fields.specs.declared.Kind.{Kind}
use Rattle.fields.specs.declared.Key.{Key}
use Rattle.fields.specs.declared.Fields.{Fields}
use Rattle.fields.specs.Fields.{number_in_def, run_in_def}
use Rattle.map.specs.Walk.{map_from_def}
use Rattle.rules.specs.Plan.{above, largest}
use Rattle.replies.specs.declared.Reply.{Reply}
use Rattle.replies.specs.Read.{Said, reply, refused, or_zero, reply_with_def, values_of, map_read, is_reply_def, read_reply_def}

-- a number that passed its test
pub zero_small : (n : Option ℕ) → above largest n ≡ false → or_zero n ≤ 4294967295
unfolding above or_zero
zero_small None e = omega arith
zero_small (Some v) e = ltb-false 4294967295 v e

module _ (P : Reply → Type 0) where
  -- of a reply that was heard
  abbrev Each : Said → Type 0
  Each x = (r : Reply) → x ≡ reply r → P r

  -- a refusal is none
  never : (n : ℕ) → Each (refused n)
  never n r e = let z : ◌≡◌ {A = ℕ} 0 1 = cc in absurd (omega arith)

  -- of this reply
  told : (r : Reply) → P r → Each (reply r)
  told r holds r' e = subst P (same e) holds
    where
      same : {a b : Reply} → reply a ≡ reply b → a ≡ b
      same e = cc

  -- what holds of a reply's values, of whatever map of the packet, holds of each reply that is read
  pub read_case : (s : List ℕ)
      → ((f : Fields) → is_reply_def s ≡ true → map_from_def Kind.Reply s 8 ≡ Some f → above largest (number_in_def f Key.Rc) ≡ false
      → above largest (number_in_def f Key.Off) ≡ false → P (reply_with_def s (number_in_def f Key.Rc) (number_in_def f Key.Off) (run_in_def f Key.Text)))
      → Each (read_reply_def s)
  unfolding read_reply_def map_read values_of
  read_case s holds = pick_case Each (is_reply_def s) _ _ (λ e. by_map (map_from_def Kind.Reply s 8) refl e) (λ e. never 10)
    where
      by_map : (w : Option Fields) → map_from_def Kind.Reply s 8 ≡ w → is_reply_def s ≡ true → Each (map_read s w)
      by_map None f e = never 10
      by_map (Some x) f e =
          pick_case Each (above largest (number_in_def x Key.Rc)) _ _ (λ g. never 10)
          (λ g. pick_case Each (above largest (number_in_def x Key.Off)) _ _ (λ h. never 10) (λ h. told _ (holds x e f g h)))

-- a reply's return code has four bytes
pub rc_small : (s : List ℕ) (r : Reply) → read_reply_def s ≡ reply r → r.rc ≤ 4294967295
rc_small s = read_case (λ r. r.rc ≤ 4294967295) s (λ f e m g h. zero_small (number_in_def f Key.Rc) g)
