use Rattle.std.proofs.Common.{ap, ap₂, ◌∙◌, arith, ◌≡◌, ℕ, ◌*◌, ◌/◌, ◌%◌, ◌^◌, ◌≤◌, List, length}
use Rattle.std.proofs.Math.Nat.{mul-le-mul, div-le_self}
use Rattle.rand_pcg.specs.Lcg.{Lcg}
use Rattle.ag_frame.specs.Layouts.{bytes_in_group}
use Rattle.ag_frame.specs.declared.frame.Layout.{Layout}
use Rattle.stored_form.specs.Form.{Form}
use Rattle.stored_form.specs.Frame.{image}
use Rattle.stream_codec.specs.Layouts.{in_groups}
use Rattle.ag_trial.specs.Damage.{damaged_words, changes_in}
use Rattle.ag_trial.specs.Groups.{words_of_text}
use Rattle.code_trial.proofs.Bounds.{image_whole, image_short}
use Rattle.code_trial.proofs.Drawn.{few_changes, outcome_found}
use Rattle.code_trial.proofs.damage_and_decode.Goals as goal

pub damage_text-changed-requires-clause-t : goal.damage_text-changed-requires-clause-t
damage_text-changed-requires-clause-t g c = few_changes c.args.layout.now (g.C.BlockCode.form c.args.code.now) c.args.t c.requires.fits c.requires.radius

pub damage_text-changed-requires-clause-whole : goal.damage_text-changed-requires-clause-whole
damage_text-changed-requires-clause-whole g c =
    ap (λ (z : List ℕ). length z % bytes_in_group c.args.layout.now) c.requires.image
    ∙ image_whole c.args.layout.now (g.C.BlockCode.form c.args.code.now) c.args.file.now c.requires.fits

pub read_back-requires-clause-short : goal.read_back-requires-clause-short
read_back-requires-clause-short g c κs within =
    let F : Form = g.C.BlockCode.form c.args.code.now in
    let long : length c.damage_text-changed.new.text ≡ length (image (in_groups c.args.layout.now F) c.args.file.now) =
    c.damage_text-changed.auto.text ∙ ap (λ (z : List ℕ). length z) c.requires.image in
    omega (arith, image_short c.args.layout.now F c.args.file.now c.requires.fits c.requires.short)

pub overflow_mul-result : goal.overflow_mul-result
overflow_mul-result g c =
    let F : Form = g.C.BlockCode.form c.args.code.now in
    let long : length c.damage_text-changed.new.text ≡ length (image (in_groups c.args.layout.now F) c.args.file.now) =
    c.damage_text-changed.auto.text ∙ ap (λ (z : List ℕ). length z) c.requires.image in
    let short = image_short c.args.layout.now F c.args.file.now c.requires.fits c.requires.short in
    let less = div-le_self (length c.damage_text-changed.new.text) c.group_bytes.result in
    let groups : length c.damage_text-changed.new.text / c.group_bytes.result ≤ 1099511627776 = omega arith in
    let deep : c.from.result ≤ 64 = omega (arith, c.from.ensures, c.requires.fits.layout.depth_most) in
    let most : length c.damage_text-changed.new.text / c.group_bytes.result * c.from.result ≤ 1099511627776 * 64 = mul-le-mul groups deep in
    omega (arith, most)

pub returns : goal.returns
returns g c =
    let F : Form = g.C.BlockCode.form c.args.code.now in
    let l : Layout = c.args.layout.now in
    let t : ℕ = c.args.t in
    let trial : Lcg = c.args.trial.now in
    let z : List ℕ = c.damage_text-changed.new.text in
    let long : length c.damage_text-changed.new.text ≡ length (image (in_groups c.args.layout.now F) c.args.file.now) =
    c.damage_text-changed.auto.text ∙ ap (λ (w : List ℕ). length w) c.requires.image in
    outcome_found l F t c.args.file.now z trial c.requires.fits c.requires.file c.requires.radius long
    (c.damage_text-changed.ensures.words ∙ ap (λ (w : List ℕ). (damaged_words (2 ^ l.bits) t (words_of_text l w) trial).0) c.requires.image)
    (length z / c.group_bytes.result * c.from.result) c.damage_text-changed.result c.in_ok-back.back
    (ap₂ (λ (size depth : ℕ). length z / size * depth) c.group_bytes.ensures c.from.ensures)
    (c.damage_text-changed.ensures.drawn ∙ ap (λ (w : List ℕ). changes_in (2 ^ l.bits) t (words_of_text l w) trial) c.requires.image)
    c.in_ok-back.ensures

pub damage_text-changed-requires-clause-few : goal.damage_text-changed-requires-clause-few
damage_text-changed-requires-clause-few g c =
    let short = image_short c.args.layout.now (g.C.BlockCode.form c.args.code.now) c.args.file.now c.requires.fits c.requires.short in
    λ _. omega (arith, short, ap (λ (z : List ℕ). length z) c.requires.image)
