use Rattle.std.proofs.Common.{ap, ap₂, refl, sym, ◌∙◌, arith, ℕ, List, length}
use Rattle.ag_io.specs.Memory.{SinkState}
use Rattle.ag_frame.specs.declared.frame.Layout.{Layout}
use Rattle.stored_form.specs.Form.{Form}
use Rattle.stream_codec.specs.Layouts.{in_groups}
use Rattle.code_trial.specs.Trials.{read_back}
use Rattle.code_trial.proofs.Bounds.{file_fits, sound_at, room_enough}
use Rattle.code_trial.proofs.Decoded.{back_refused}
use Rattle.code_trial.proofs.back.read_back.Goals as goal

pub overflow_add-file_room : goal.overflow_add-file_room
overflow_add-file_room g c = omega (arith, c.file_room.ensures, file_fits c.args.layout.now (length c.args.text.now) c.requires.fits.layout c.requires.short)

pub returns : goal.returns
returns g c =
    let F : Form = g.C.BlockCode.form c.args.code.now in
    let l : Layout = c.args.layout.now in
    let room : Layout = c.in_ok-room.room.layout in
    sym (back_refused _ c.args.file.now c.in-Err.field-0 c.in-Err.ensures.decoded (record {
      source_tells = refl;
      out_tells = refl;
      sound = sound_at room F c.in_ok-room.ensures.fits.layout;
      given = ap (λ (s : SinkState). s.given) c.in_ok-out.ensures;
      source_before = refl;
      source_after = refl;
      report_before = refl;
      report_after = refl;
      short = omega (arith, ap (λ (xs : List ℕ). length xs) c.new-src.ensures, c.requires.short);
      room = room_enough l F room c.args.text.now c.new-src.result.rest.now c.file_room.result c.new-2.result.items c.in_ok-out.out c.requires.fits
          c.in_ok-room.ensures.layout c.new-src.ensures c.file_room.ensures c.new-2.ensures.items c.in_ok-out.ensures;
    }))
    ∙ ap₂ (λ (d : Layout) (z : List ℕ). read_back (in_groups d F) z c.args.file.now) c.in_ok-room.ensures.layout c.new-src.ensures
