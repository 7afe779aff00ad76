use Rattle.std.proofs.Common.{ℕ, ◌≡◌, ◌≤◌, true, arith}
use Rattle.std.proofs.Math.Dec.{leb}
use Rattle.std.proofs.lemmas.Bool.{leb-true, le-leb}
use Rattle.ag_frame.proofs.PackedBits.{waiting_long, waiting_fits}
use Rattle.ag_frame.proofs.incoming.BitsIn.ready.Goals as goal

tells : (whole len count long : ℕ) → whole ≡ count → long ≡ len → (leb whole len ≡ true → count ≤ long) × (count ≤ long → leb whole len ≡ true)
tells whole len count long is same = (λ e. omega (arith, leb-true whole len e), λ h. le-leb whole len (omega arith))

pub returns : goal.returns
returns c =
    let s = c.self.inside in
    rw (← c.self.view_is) (tells s.whole s.len _ _ c.self.invariant.whole_is (waiting_long s.bytes.items s.at s.len (waiting_fits c.self.invariant)))
