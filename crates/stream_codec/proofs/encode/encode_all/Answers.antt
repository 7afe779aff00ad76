use Rattle.std.proofs.Common.{◌≡◌, ◌<◌, ◌++◌, length, take, length-append, length-take-le, ap, inl, inr, arith}
use Rattle.std.proofs.lemmas.Bool.{cases_Bool}
use Rattle.std.proofs.lemmas.Result.{err_from_is_err_and}
use Rattle.stored_form.specs.Bits.{bits_of_symbols}
use Rattle.stored_form.proofs.BitsLemmas.{length-bits_of_symbols}
use Rattle.stream_codec.specs.Layouts.{in_groups}
use Rattle.stream_codec.proofs.FitLemmas.{fits_sound, fits_some, fits_bits, bits_small}
use Rattle.stream_codec.proofs.Advance.{count_le, left_short}
use Rattle.stream_codec.proofs.UseLemmas.{used_few, passes_outcome, ended_outcome, unended_outcome, ended_at, end_fault_at}
use Rattle.stream_codec.proofs.encode.encode_all.Goals as goal

pub returns-then-taken-limit-clause-outcome : goal.returns-then-taken-limit-clause-outcome
returns-then-taken-limit-clause-outcome g c =
    let (x, stop) = c.in_ok-stop.ensures.stopped in
    let last = take c.in_ok-stop.stop.got c.take_pieces.new.piece in
    let long : length last ≡ c.in_ok-stop.stop.got = length-take-le c.in_ok-stop.stop.got c.take_pieces.new.piece (omega (arith, stop.part, c.take_pieces.auto.piece)) in
    (x ++ last, passes_outcome last _ stop.used stop.even stop.below (omega (arith, stop.part)) (omega arith) c.if-taken-limit.true (inr (elim (cases_Bool c.in_ok-stop.stop.ended) [ inl ended ↦ inl (stop.ended ended) | inr failed ↦ inr (stop.failed failed) ])))

pub returns-in_err-more-clause-outcome : goal.returns-in_err-more-clause-outcome
returns-in_err-more-clause-outcome g c =
    let error = err_from_is_err_and c.from_residual-in_err-more.result c.from_residual-in_err-more.ensures.1 in
    let F = g.C.BlockCode.form c.args.code.now in
    let (x, stop) = c.in_ok-stop.ensures.stopped in
    let last = take c.in_ok-stop.stop.got c.take_pieces.new.piece in
    let long : length last ≡ c.in_ok-stop.stop.got = length-take-le c.in_ok-stop.stop.got c.take_pieces.new.piece (omega (arith, stop.part, c.take_pieces.auto.piece)) in
    let fault = end_fault_at g.O.Sink.tells c.in_ok-stop.stop.ended (g.O.Sink.view c.take_pieces.new.sink) (g.O.Sink.view c.finish.new.sink) (c.take_pieces.new.writer.waiting ++ bits_of_symbols 8 last) c.in_err-more.field-0.0 F c.take_pieces.new.writer.layout c.args.writer.now.layout c.in_err-more.ensures.ended c.take_pieces.ensures.layout in
    rw (error.1, error.2) (x ++ last, unended_outcome last c.in_err-more.field-0.0 (fits_sound F c.args.writer.now.layout c.requires.fits) stop.used (omega arith) stop.failed fault)

pub overflow_add-result : goal.overflow_add-result
overflow_add-result g c =
    let F = g.C.BlockCode.form c.args.code.now in
    let l = c.args.writer.now.layout in
    let G = in_groups l F in
    let (x, stop) = c.in_ok-stop.ensures.stopped in
    let last = take c.in_ok-stop.stop.got c.take_pieces.new.piece in
    let long : length last ≡ c.in_ok-stop.stop.got = length-take-le c.in_ok-stop.stop.got c.take_pieces.new.piece (omega (arith, stop.part, c.take_pieces.auto.piece)) in
    let some = fits_some F l c.requires.fits in
    let w = c.take_pieces.new.writer.waiting in
    let end = ended_at F c.take_pieces.new.writer.layout l c.in_ok-more.ensures.ended c.take_pieces.ensures.layout in
    let short : length w < 524288 = omega (arith, ap length stop.used.waiting_are, left_short G (bits_of_symbols 8 x) some, fits_bits F l c.requires.fits, bits_small l c.requires.fits.layout) in
    omega (arith, end.groups_are, used_few some stop.used, stop.below, stop.part, count_le G (w ++ bits_of_symbols 8 last) some, length-append w (bits_of_symbols 8 last), length-bits_of_symbols 8 last)

pub returns-clause-outcome : goal.returns-clause-outcome
returns-clause-outcome g c =
    let F = g.C.BlockCode.form c.args.code.now in
    let l = c.args.writer.now.layout in
    let (x, stop) = c.in_ok-stop.ensures.stopped in
    let last = take c.in_ok-stop.stop.got c.take_pieces.new.piece in
    let long : length last ≡ c.in_ok-stop.stop.got = length-take-le c.in_ok-stop.stop.got c.take_pieces.new.piece (omega (arith, stop.part, c.take_pieces.auto.piece)) in
    let end = ended_at F c.take_pieces.new.writer.layout l c.in_ok-more.ensures.ended c.take_pieces.ensures.layout in
    (x ++ last, ended_outcome last _ (fits_sound F l c.requires.fits) stop.used (omega arith) c.if-taken-limit.false (stop.ended end.is_end) (stop.steady end.is_end) end)
