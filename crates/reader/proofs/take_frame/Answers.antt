-- `reader::take_frame` meets its contract: what the decoder left at the start of the raw bytes is what the text decodes to.
-- Assumes nothing.
use mathlib.Core.Path.{◌≡◌, sym, ap, ◌∙◌}
use mathlib.Core.Option.{some}
use Prim.Native.Nat.{ℕ, ◌*◌, ◌/◌, ◌≤◌}
use native.Mathlib.Omega.{arith}
use Rattle.std.proofs.lemmas.Result.{err_from_is_err_and}
use lib.ListN.{length, take, replicate, length-take}
use Rattle.strict_base64.specs.Base64.{decode}
use Rattle.decoder.proofs.Answer.{decodes_bad, decodes_good}
use Rattle.frame.specs.Line.{raw_most, text_of}
use Rattle.reader.specs.declared.Reader.TheVariants.{Idle}
use Rattle.reader.specs.Reader.{is_bad_text, place_in}
use Rattle.reader.proofs.Laws.{decoded_bad, decoded_good, text_size}
use Rattle.reader.proofs.take_frame.Goals.{In-Some}
use Rattle.reader.proofs.take_frame.Goals as goal

-- the text of this line decodes to what stands at the start of the raw bytes, three at most for each four characters
good : (c : In-Some)
    → (decode (text_of c.args.line.now) ≡ some
    (take c.in-Some.n c.decode_text.new.raw))
    × (c.in-Some.n ≤ length (text_of c.args.line.now) / 4 * 3)
good c =
    decodes_good (text_of c.args.line.now) (replicate raw_most 0) c.decode_text.new.raw
    c.decode_text.result _ c.decode_text.ensures c.in-Some.is

pub returns-in_default : goal.returns-in_default
returns-in_default c =
    let a = c.args in
    let bad = decodes_bad (text_of a.line.now) (replicate raw_most 0) c.decode_text.new.raw c.decode_text.result c.decode_text.ensures c.in_default.is in
    ap (λ (i : ℕ). record { says = is_bad_text i; reader = Idle; buffer = a.p.now }) c.place_in.ensures
    ∙ sym (decoded_bad a.initial a.reader.now (place_in a.line.now) (decode (text_of a.line.now)) a.p.now bad)

pub slice_bounds-raw-end : goal.slice_bounds-raw-end
slice_bounds-raw-end c = omega (arith, (good (goal.at.slice_bounds-raw-end c).In-Some).1, text_size c.args.line.now)

pub slice_bounds-take_raw-end : goal.slice_bounds-take_raw-end
slice_bounds-take_raw-end c =
    simp length-take
    (omega (arith, (good (goal.at.slice_bounds-take_raw-end c).In-Some).1, text_size c.args.line.now))

pub returns-in_err-take_raw : goal.returns-in_err-take_raw
returns-in_err-take_raw c =
    let a = c.args in
    let p = err_from_is_err_and c.from_residual.result c.from_residual.ensures.1 in
    rw (p.1, p.2)
    (c.in_err-take_raw.ensures
    ∙ sym (decoded_good a.initial a.reader.now (place_in a.line.now) (decode (text_of a.line.now)) _ a.p.now
    (good (goal.at.returns-in_err-take_raw c).In-Some).0))

pub returns : goal.returns
returns c =
    let a = c.args in
    c.in_ok-take_raw.ensures
    ∙ sym (decoded_good a.initial a.reader.now (place_in a.line.now) (decode (text_of a.line.now)) _ a.p.now
    (good (goal.at.returns c).In-Some).0)
