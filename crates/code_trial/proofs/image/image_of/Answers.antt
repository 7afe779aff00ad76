use Rattle.std.proofs.Common.{ap, sym, subst, refl, arith, ℕ, List, length}
use Rattle.ag_io.specs.Memory.{SinkState}
use Rattle.ag_frame.specs.declared.frame.Layout.{Layout}
use Rattle.stored_form.specs.Form.{Form}
use Rattle.stream_codec.specs.Layouts.{Fits}
use Rattle.code_trial.proofs.Bounds.{sound_at, image_enough, image_short, image_long}
use Rattle.code_trial.proofs.Encoded.{encode_sure}
use Rattle.code_trial.proofs.image.image_of.Goals as goal

pub unreachable-requires : goal.unreachable-requires
unreachable-requires g c =
    let F : Form = g.C.BlockCode.form c.args.code.now in
    let room : Layout = c.in_ok-room.room in
    encode_sure _ c.in-Err.field-0 c.in-Err.ensures.encoded (record {
      source_tells = refl;
      out_tells = refl;
      sound = sound_at room F (subst (λ (v : Layout). Fits v F) (sym c.in_ok-room.ensures.layout) c.requires.fits);
      given = ap (λ (s : SinkState). s.given) c.in_ok-sink.ensures;
      source_before = refl;
      source_after = refl;
      short = omega (arith, ap (λ (xs : List ℕ). length xs) c.new-src.ensures, c.requires.short);
      room = image_enough c.args.layout.now F room c.args.file.now c.new-src.result.rest.now c.image_len.result c.new-2.result.items c.in_ok-sink.sink c.requires.fits
          c.in_ok-room.ensures.layout c.new-src.ensures c.image_len.ensures c.new-2.ensures.items c.in_ok-sink.ensures;
    })

pub overflow_add-image_len : goal.overflow_add-image_len
overflow_add-image_len g c =
    let F : Form = g.C.BlockCode.form c.args.code.now in
    omega (arith, image_short c.args.layout.now F c.args.file.now c.requires.fits c.requires.short, image_long c.args.layout.now F c.args.file.now c.requires.fits, c.image_len.ensures)
