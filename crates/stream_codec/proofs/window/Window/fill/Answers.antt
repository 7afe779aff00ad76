use Rattle.std.proofs.Common.{All, sym, subst, arith}
use Rattle.std.proofs.lemmas.List.{with_items_is}
use Rattle.stream_codec.specs.Slots.{CanDecode}
use Rattle.stream_codec.proofs.window.Window.fill.Goals as goal

pub returns-clause-kept : goal.returns-clause-kept
returns-clause-kept g c =
    let items = with_items_is c.self.inside.slots c.fill_groups.new.slots (omega (arith, c.fill_groups.auto.slots, c.deref_mut-3.ensures.len)) in
    rw (← c.self.view_is) (λ F numbers each. subst (All (CanDecode F numbers)) (sym items) (c.fill_groups.ensures.kept F numbers (subst (All (CanDecode F numbers)) (sym c.deref_mut-3.ensures.value) each)))
