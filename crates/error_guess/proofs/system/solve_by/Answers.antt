use Rattle.std.proofs.Common.{◌<◌, ◌≤◌, ◌^◌, length, arith}
use Rattle.std.proofs.Math.Facts.{Fits-of_lt}
use Rattle.error_guess.proofs.system.solve_by.Goals as goal

pub overflow_cast-q : goal.overflow_cast-q
overflow_cast-q g c =
    let few : length c.args.unknowns.now ≤ 1024 = c.requires.short in
    let below : c.loop-q.q < length c.args.unknowns.now = c.loop-q-test.true in
    let small : c.loop-q.q < 2 ^ 32 = omega arith in
    Fits-of_lt small

pub overflow_cast-q-in-loop-q : goal.overflow_cast-q-in-loop-q
overflow_cast-q-in-loop-q g c =
    let few : length c.args.unknowns.now ≤ 1024 = c.requires.short in
    let below : c.loop-q.q < length c.args.unknowns.now = c.loop-q-test.true in
    let small : c.loop-q.q < 2 ^ 32 = omega arith in
    Fits-of_lt small

pub overflow_cast-last : goal.overflow_cast-last
overflow_cast-last g c =
    let few : length c.args.unknowns.now ≤ 1024 = c.requires.short in
    let small : length c.args.unknowns.now < 2 ^ 32 = omega arith in
    Fits-of_lt small
