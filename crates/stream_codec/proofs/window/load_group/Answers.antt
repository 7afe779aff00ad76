use Rattle.std.proofs.Common.{[], ◌+◌, ◌-◌, ◌*◌, ◌≡◌, length, get_or, take, drop, ap, sym, ◌∙◌, arith}
use Rattle.std.proofs.lemmas.List.Elements.{All-set}
use Rattle.ag_frame.specs.Layouts.{words_of_group}
use Rattle.stored_form.proofs.GroupLemmas.{length-stored_blocks}
use Rattle.stream_codec.specs.Slots.{SlotState, CanDecode}
use Rattle.stream_codec.proofs.WindowLemmas.{block_of_words, length_block, load_blocks, loaded_can_decode, load_end}
use Rattle.stream_codec.proofs.window.load_group.Goals as goal

pub load-requires : goal.load-requires
load-requires g c =
    let l = c.args.layout.now in
    let at = c.loop-c.c * l.n in
    let span : at + l.n - at ≡ l.n = omega arith in
    length_block c.gather.new.words l.n l.depth c.loop-c.c _ (omega arith) (omega arith) span ∙ sym (c.loop-c.invariant.got_long c.loop-c.c c.index-slots-c.result (omega arith))

pub loop-c-preserved : goal.loop-c-preserved
loop-c-preserved g c =
    let l = c.args.layout.now in
    let i = c.loop-c.c in
    let s = get_or c.loop-c.slots i c.index-slots-c.result in
    let at = i * l.n in
    let span : at + l.n - at ≡ l.n = omega arith in
    let block = take (at + l.n - at) (drop at c.gather.new.words) in
    let ys = words_of_group l c.args.group.now in
    let block_is : block ≡ get_or ys i [] = block_of_words l c.gather.new.words c.args.group.now i _ c.requires.layout c.gather.ensures (omega arith) (omega arith) span in
    let long : length block ≡ l.n = length_block c.gather.new.words l.n l.depth i _ (omega arith) (omega arith) span in
    let got_long : length s.got ≡ l.n = c.loop-c.invariant.got_long i c.index-slots-c.result (omega arith) in
    record {
      blocks = load_blocks c.loop-c.slots ys c.load.new.self i (omega arith) (omega (arith, length-stored_blocks l.packed l.bits l.n l.depth c.args.group.now)) (ap (λ (v : SlotState). v.got) c.load.ensures ∙ block_is) c.loop-c.invariant.blocks;
      kept = λ F numbers each. All-set (CanDecode F numbers) c.loop-c.slots i c.load.new.self (loaded_can_decode F numbers s c.load.new.self block c.load.ensures (long ∙ sym got_long) (c.loop-c.invariant.kept F numbers each i c.index-slots-c.result (omega arith))) (c.loop-c.invariant.kept F numbers each);
      got_long = All-set (λ (v : SlotState). length v.got ≡ l.n) c.loop-c.slots i c.load.new.self (ap (λ (v : SlotState). length v.got) c.load.ensures ∙ long) c.loop-c.invariant.got_long;
    }

pub returns-clause-blocks : goal.returns-clause-blocks
returns-clause-blocks g c =
    load_end c.loop-c.slots _ c.loop-c.c (omega arith) (omega (arith, length-stored_blocks c.args.layout.now.packed c.args.layout.now.bits c.args.layout.now.n c.args.layout.now.depth c.args.group.now)) c.loop-c.invariant.blocks
