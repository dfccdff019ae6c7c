-- The text of a replay is that of its answers, in order.
-- Assumes nothing.
use Prim.Native.Nat.{ℕ, ◌+◌, ◌*◌}
use mathlib.Core.Path.{◌≡◌, refl, sym, ap, ap₂, ◌∙◌}
use mathlib.Core.Bool.{Bool, true, false}
use mathlib.Core.List.{List, [], ◌∷◌, ◌++◌, append_assoc}
use native.Mathlib.Omega.{arith}
use native.Mathlib.Nat.{zero-add}
use lib.ListN.{length, drop, get_or, length-append}
use lib.Seq.{get_or-append-add}
use Rattle.laws.proofs.Choice.{pick_yes, pick_no}
use Rattle.laws.proofs.Lists.{pasted_start}
use Rattle.recording.specs.Recording.{Entry}
use Rattle.feed.specs.Feed.{Bench, Answer, feed_line_def}
use Rattle.replay.specs.Replay.{saying, fed, numbers, all_numbers, Replayed, fresh, ending}
use Rattle.replay.proofs.Laws.{replayed_all}
use Rattle.transcript.specs.Transcript.{line_text, line_of, lines_from, end_text, transcript}
use Rattle.caller.specs.Bench.{printed, lines_to, ReplayPrinted}

-- the line of an answer whose numbers stand behind those of k others
one_line : (k : ℕ) (before : List ℕ) (a : Answer) (rest : List ℕ) → length before ≡ 4 * k
    → line_of (before ++ (numbers a ++ rest)) k ≡ line_text k a.refusal a.replied a.rc
one_line k before a rest e =
    let first : get_or (before ++ (numbers a ++ rest)) (4 * k) 0 ≡ a.refusal =
    ap (λ (n : ℕ). get_or (before ++ (numbers a ++ rest)) n 0) (omega (arith, e)) ∙ get_or-append-add before (numbers a ++ rest) 0 0 in
    let second : get_or (before ++ (numbers a ++ rest)) (4 * k + 1) 0 ≡ a.replied =
    ap (λ (n : ℕ). get_or (before ++ (numbers a ++ rest)) n 0) (omega (arith, e)) ∙ get_or-append-add before (numbers a ++ rest) 1 0 in
    let third : get_or (before ++ (numbers a ++ rest)) (4 * k + 2) 0 ≡ a.rc =
    ap (λ (n : ℕ). get_or (before ++ (numbers a ++ rest)) n 0) (omega (arith, e)) ∙ get_or-append-add before (numbers a ++ rest) 2 0 in
    rw (first, second, third)

-- the lines of answers whose numbers stand behind those of k others
all_lines : (k : ℕ) (before : List ℕ) (says : List Answer) (rest : List ℕ) → length before ≡ 4 * k
    → lines_from (before ++ (all_numbers says ++ rest)) (length says) k ≡ printed k says
unfolding lines_from printed all_numbers
all_lines k before [] rest e = refl
all_lines k before (a ∷ says) rest e =
    let tail = all_numbers says ++ rest in
    let front : before ++ ((numbers a ++ all_numbers says) ++ rest) ≡ before ++ (numbers a ++ tail) =
    ap (λ (l : List ℕ). before ++ l) (append_assoc (numbers a) (all_numbers says) rest) in
    let moved : before ++ (numbers a ++ tail) ≡ (before ++ numbers a) ++ tail = sym (append_assoc before (numbers a) tail) in
    let size : length (before ++ numbers a) ≡ 4 * (k + 1) = rw length-append (omega (arith, e)) in
    ap₂ (λ (x y : List ℕ). x ++ y) (ap (λ (l : List ℕ). line_of l k) front ∙ one_line k before a tail e)
    (ap (λ (l : List ℕ). lines_from l (length says) (k + 1)) (front ∙ moved) ∙ all_lines (k + 1) (before ++ numbers a) says rest size)

-- as many answers as lines to the controller
as_many : (es : List Entry) (b : Bench) → length (fed es b).says ≡ lines_to es
unfolding fed lines_to saying
as_many [] b = refl
as_many (e ∷ es) b = by-mark e.is_to_controller refl (as_many es (feed_line_def b e.line).bench) (as_many es b)
  where
    by-mark : (t : Bool) → e.is_to_controller ≡ t → length (fed es (feed_line_def b e.line).bench).says ≡ lines_to es → length (fed es b).says ≡ lines_to es
        → length (fed (e ∷ es) b).says ≡ lines_to (e ∷ es)
    by-mark true f g h = rw (f, pick_yes, pick_yes) (omega (arith, g))
    by-mark false f g h = rw (f, pick_no, pick_no) (omega (arith, h))

-- the text of a replay
pub replay_printed : ReplayPrinted
unfolding ending transcript
replay_printed b answers count file es s e room =
    let says = (fed es (fresh b)).says in
    let all = replayed_all b answers count file es e room in
    let many : 0 + length says ≡ lines_to es = zero-add _ ∙ as_many es (fresh b) in
    let text : lines_from (ending 0 answers (fed es (fresh b))).answers (0 + length says) 0 ≡ printed 0 says =
    ap₂ (λ (l : List ℕ) (n : ℕ). lines_from l n 0) (pasted_start answers (all_numbers says)) (zero-add _)
    ∙ all_lines 0 [] says (drop (length (all_numbers says)) answers) refl in (
      ap (λ (o : Replayed). o.count) (sym all) ∙ many,
      ap (λ (o : Replayed). lines_from o.answers o.count 0 ++ end_text s) (sym all) ∙ ap (λ (l : List ℕ). l ++ end_text s) text,
    )
