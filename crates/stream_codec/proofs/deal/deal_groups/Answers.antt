use Rattle.std.proofs.Common.{ℕ, List, ◌≡◌, ◌+◌, ◌*◌, ◌≤◌, ◌++◌, length, take, drop, All, refl, sym, ap, ap₂, ◌∙◌, subst, arith, append_assoc, take_all, [], rules}
use Rattle.std.proofs.lemmas.List.{append-nil}
use Rattle.std.proofs.Math.Nat.{mul-le-mul_right}
use Rattle.std.proofs.lemmas.Result.{err_from_is_err_and}
use Rattle.stored_form.specs.Frame.{group_bytes}
use Rattle.stream_codec.specs.Layouts.{in_groups}
use Rattle.stream_codec.proofs.FitLemmas.{fits_sound}
use Rattle.stream_codec.specs.Slots.{IsSettled, blocks_of}
use Rattle.stream_codec.proofs.DealtLemmas.{dealt_more, dealt_as, group_fault, cut_text}
use Rattle.stream_codec.proofs.WindowGroups.{window_group, group_at, group_size}
use Rattle.stream_codec.proofs.deal.deal_groups.Goals as goal

pub loop-g-init : goal.loop-g-init
loop-g-init g c =
    let size = group_bytes (in_groups c.args.window.now.layout (g.C.BlockCode.form c.args.code.now)) in
    record {
      dealt = λ z w out_first report_first h d.
          let none : take (0 * size) w ≡ [] = ap (λ m. take m w) (let e : 0 * size ≡ 0 = omega arith in e) in
          dealt_as (z ++ take (0 * size) w) d (ap (λ l. z ++ l) none ∙ append-nil z);
      counts = c.requires.counts;
      none = c.requires.none;
      groups = omega arith;
      size = refl;
      width = refl;
    }

pub deal_group-requires-clause-settled : goal.deal_group-requires-clause-settled
deal_group-requires-clause-settled g c κs within =
    let F = g.C.BlockCode.form c.args.code.now in
    let (w, h) = c.requires.holds in
    let sound = fits_sound (g.C.BlockCode.form c.args.code.now) c.args.window.now.layout c.requires.fits in
    subst (All (IsSettled F)) (sym c.slots_of-slots.ensures) (window_group F c.args.window.now c.args.groups c.loop-g.g w c.requires.fits sound c.loop-g-test.true h).settled

pub deal_group-requires-clause-size : goal.deal_group-requires-clause-size
deal_group-requires-clause-size g c κs within =
    let F = g.C.BlockCode.form c.args.code.now in
    let (w, h) = c.requires.holds in
    let sound = fits_sound (g.C.BlockCode.form c.args.code.now) c.args.window.now.layout c.requires.fits in
    let long = ap length c.slots_of-slots.ensures ∙ (window_group F c.args.window.now c.args.groups c.loop-g.g w c.requires.fits sound c.loop-g-test.true h).slots_long in
    c.loop-g.invariant.size ∙ c.requires.size ∙ ap₂ (λ a b. a * b) (sym long) c.requires.fits.k

pub returns-in_err-deal_group-clause-dealt : goal.returns-in_err-deal_group-clause-dealt
returns-in_err-deal_group-clause-dealt g c =
    λ z w out_first report_first h d.
    let p = err_from_is_err_and c.from_residual.result c.from_residual.ensures.1 in
    let F = g.C.BlockCode.form c.args.code.now in
    let l = c.args.window.now.layout in
    let G = in_groups l F in
    let size = group_bytes G in
    let i = c.loop-g.g in
    let sound = fits_sound F l c.requires.fits in
    let at = window_group F c.args.window.now c.args.groups i w c.requires.fits sound c.loop-g-test.true h in
    let rest = drop (i * size + size) w in
    rw (p.1, p.2) (group_fault F l _ _ _ _ _ _ _ _ _ _ _ (z ++ take (i * size) w) (group_at G w i) rest (z ++ w) _ c.in_err-deal_group.field-0.0 sound (c.loop-g.invariant.dealt z w out_first report_first h d) c.loop-g.invariant.none at.long (ap blocks_of c.slots_of-slots.ensures ∙ at.blocks) c.in_err-deal_group.ensures.dealt (cut_text z w (take (i * size) w) (group_at G w i) rest at.cut))

pub loop-g-preserved : goal.loop-g-preserved
loop-g-preserved g c =
    let F = g.C.BlockCode.form c.args.code.now in
    let l = c.args.window.now.layout in
    let G = in_groups l F in
    let size = group_bytes G in
    let i = c.loop-g.g in
    let sound = fits_sound F l c.requires.fits in
    record {
      dealt = λ z w out_first report_first h d.
          let at = window_group F c.args.window.now c.args.groups i w c.requires.fits sound c.loop-g-test.true h in
          dealt_more F l _ _ _ _ _ _ _ _ _ _ _ _ (z ++ take (i * size) w) (group_at G w i) (z ++ take ((i + 1) * size) w) _ sound (c.loop-g.invariant.dealt z w out_first report_first h d) at.long (ap blocks_of c.slots_of-slots.ensures ∙ at.blocks) c.in_ok-deal_group.ensures.dealt (ap (λ (y : List ℕ). z ++ y) at.next ∙ sym (append_assoc z (take (i * size) w) (group_at G w i)));
      counts = c.in_ok-deal_group.ensures.counts;
      none = c.in_ok-deal_group.ensures.none;
      groups = search rules;
      size = c.in_ok-deal_group.ensures.size ∙ c.loop-g.invariant.size;
      width = c.in_ok-deal_group.ensures.width ∙ c.loop-g.invariant.width;
    }

pub returns-clause-dealt : goal.returns-clause-dealt
returns-clause-dealt g c =
    λ z w out_first report_first h d.
    let F = g.C.BlockCode.form c.args.code.now in
    let l = c.args.window.now.layout in
    let size = group_bytes (in_groups l F) in
    let i = c.loop-g.g in
    let whole : length w ≡ c.args.groups * size = h.whole ∙ ap (λ m. c.args.groups * m) (group_size c.args.window.now.layout F c.requires.fits) in
    let past : c.args.groups * size ≤ i * size = mul-le-mul_right size c.loop-g-test.false in
    let all : take (i * size) w ≡ w = take_all (i * size) w (omega arith) in
    dealt_as (z ++ w) (c.loop-g.invariant.dealt z w out_first report_first h d) (ap (λ l. z ++ l) (sym all))
