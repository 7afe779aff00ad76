use Rattle.std.proofs.Common.{ℕ, ◌≡◌, List, sym, subst, arith}
use Rattle.plain_voter.specs.Sheets.{AreEntries, IsTableOf}
use Rattle.plain_voter.proofs.Grids.{table_more, zeros_fit}
use Rattle.plain_voter.proofs.sheet.sheet_of.Goals as goal

pub loop-i-preserved : goal.loop-i-preserved
loop-i-preserved g c =
    let b = c.args.basis.now in
    let w = c.args.work.now in
    table_more b w c.deref.result.now c.loop-i.table c.set_row.new.self c.loop-i.i c.n-n.ensures.sound (omega (arith, c.n-n.ensures.value)) c.set_row.ensures
    (subst (λ (xs : List ℕ). AreEntries b w c.loop-i.i xs b.n) (sym c.deref.ensures.value) c.in_ok-row.ensures) c.loop-i.invariant

pub returns : goal.returns
returns g c =
    let b = c.args.basis.now in
    let end : c.loop-i.i ≡ c.args.basis.now.n = omega (arith, c.n-n.ensures.value) in
    let room = zeros_fit c.in_ok-room.room c.n-n.result b.n c.in_ok-room.ensures c.n-n.ensures.value in
    record {
      table = subst (λ (i : ℕ). IsTableOf b c.args.work.now c.loop-i.table i) end c.loop-i.invariant;
      room_rows = room.0;
      room_cols = room.1;
    }
