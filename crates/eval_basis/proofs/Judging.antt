-- The functions of a band are judged in their order
use Rattle.std.proofs.Common.{◌≡◌, ℕ, ◌+◌, ◌<◌, ◌≤◌, ◌^◌, Bool, true, false, List, [], ◌∷◌, ◌++◌, length, get_or, slice_index, sym, ◌∙◌, ap, subst, refl}
use Rattle.std.proofs.lemmas.List.{get_or_default}
use Rattle.field_theory.proofs.Sums.{sum-same}
use Rattle.gf_theory.specs.Field.{gf_mul, IsModulus}
use Rattle.linear_theory.specs.Linear.{combine}
use Rattle.gf_linear.specs.Cells.{cell}
use Rattle.order_domain.specs.declared.Point.{Point}
use Rattle.order_domain.specs.Domain.{Domain, ArePoints, IsOrderDomain}
use Rattle.order_domain.specs.Values.{value_at}
use Rattle.eval_basis.specs.Lists.{after_takes, lists_after, AreLists, AreTakes, IsSettled, IsStep}
use Rattle.eval_basis.specs.Found.{AreSoFar, AreWaiting, ArePending}
use Rattle.eval_basis.proofs.Stepping.{field_of}
use Rattle.eval_basis.proofs.AfterTakes.{products_after}
use Rattle.eval_basis.proofs.Finding.{IsLent, so_far_new, so_far_old, so_far_full}
use Rattle.eval_basis.proofs.Waiting.{so_far_next}

-- function b of the band is judged: row has its products with the lists after the takes so far
pub record IsJudged (d : Domain) (modulus : ℕ) (points : List Point) (k b : ℕ) (band values products row order ns fs t order' ns' fs' t' : List ℕ) (used used' : List Bool) (is_new : Bool) (bits : ℕ) : Type 0 where
  pub at : b < length band
  pub below : slice_index band b < d.count
  pub values_are : (p : ℕ) → p < length points → cell values (length points) b p ≡ value_at d modulus points (slice_index band b) p
  pub takes : AreTakes bits (length points) ns fs t
  pub row_is : (j : ℕ) → j < length points → slice_index row j ≡ after_takes (gf_mul bits modulus) (length points) ns fs t (length ns) (cell products (length points) b) j
  pub settled : IsSettled bits modulus (length points) k row order ns fs t used order' ns' fs' t' used' is_new

module _ (d : Domain) (modulus : ℕ) (points : List Point) (lawful : IsOrderDomain d) (is_modulus : IsModulus d.bits modulus) (are : ArePoints d modulus points)
    (k b stop : ℕ) (band values products symbols row order ns fs t order' ns' fs' t' : List ℕ) (used used' : List Bool) where
  judged_step : (is_new : Bool) (own : List ℕ) → IsJudged d modulus points k b band values products row order ns fs t order' ns' fs' t' used used' is_new d.bits → ArePending d modulus points stop band values products symbols
      → ((p : ℕ) → p < length points → slice_index own p ≡ cell values (length points) b p) → AreLists d.bits (length points) (lists_after (gf_mul d.bits modulus) (length points) ns fs t symbols) order used
      → IsStep (2 ^ d.bits) (gf_mul d.bits modulus) (length points) k own (lists_after (gf_mul d.bits modulus) (length points) ns fs t symbols) order (lists_after (gf_mul d.bits modulus) (length points) ns' fs' t' symbols) order' is_new
      × AreLists d.bits (length points) (lists_after (gf_mul d.bits modulus) (length points) ns' fs' t' symbols) order' used'
  judged_step is_new own j pending same lists =
      j.settled.step own symbols lists (λ q l.
      j.row_is q l
      ∙ products_after (2 ^ d.bits) (gf_mul d.bits modulus) (field_of d.bits modulus is_modulus) d.bits (length points) ns fs t symbols (slice_index own) (cell products (length points) b) j.takes
      (λ q l. pending.products_are b q j.at l
      ∙ sum-same (length points) (λ i. gf_mul d.bits modulus (cell values (length points) b i) (cell symbols (length points) i q)) (λ i. gf_mul d.bits modulus (slice_index own i) (cell symbols (length points) i q))
      (λ i li. ap (λ (a : ℕ). gf_mul d.bits modulus a (cell symbols (length points) i q)) (sym (same i li)))) q l)

  -- the functions before it are done
  abbrev Before : (ranks vectors : List ℕ) (old : List Bool) (bits : ℕ) → Type 0
  Before ranks vectors old bits = AreSoFar d modulus points (get_or band b stop) ranks vectors (lists_after (gf_mul bits modulus) (length points) ns fs t symbols) order used old

  abbrev After : (ranks vectors : List ℕ) (old : List Bool) (bits : ℕ) → Type 0
  After ranks vectors old bits = AreSoFar d modulus points (get_or band (b + 1) stop) ranks vectors (lists_after (gf_mul bits modulus) (length points) ns' fs' t' symbols) order' used' old

  before_at : (ranks vectors : List ℕ) (old : List Bool) → b < length band → Before ranks vectors old d.bits
      → AreSoFar d modulus points (slice_index band b) ranks vectors (lists_after (gf_mul d.bits modulus) (length points) ns fs t symbols) order used old
  before_at ranks vectors old l h = subst (λ (s : ℕ). AreSoFar d modulus points s ranks vectors (lists_after (gf_mul d.bits modulus) (length points) ns fs t symbols) order used old) (get_or_default band b stop 0 l) h

  pub judged_new : (bits : ℕ) (own ranks vectors ranks' vectors' : List ℕ) (old : List Bool) → bits ≡ d.bits → IsJudged d modulus points k b band values products row order ns fs t order' ns' fs' t' used used' true bits
      → ArePending d modulus points stop band values products symbols → k ≡ length ranks → k < length points → length own ≡ length points
      → ((p : ℕ) → p < length points → slice_index own p ≡ cell values (length points) b p) → ranks' ≡ ranks ++ slice_index band b ∷ [] → vectors' ≡ vectors ++ own
      → Before ranks vectors old bits → After ranks' vectors' old bits
  judged_new bits own ranks vectors ranks' vectors' old e judged pending ek few long same er ev h =
      let j : IsJudged d modulus points k b band values products row order ns fs t order' ns' fs' t' used used' true d.bits = subst (IsJudged d modulus points k b band values products row order ns fs t order' ns' fs' t' used used' true) e judged in
      let here : AreSoFar d modulus points (slice_index band b) ranks vectors (lists_after (gf_mul d.bits modulus) (length points) ns fs t symbols) order used old = before_at ranks vectors old j.at (subst (Before ranks vectors old) e h) in
      let step : IsStep (2 ^ d.bits) (gf_mul d.bits modulus) (length points) k own (lists_after (gf_mul d.bits modulus) (length points) ns fs t symbols) order (lists_after (gf_mul d.bits modulus) (length points) ns' fs' t' symbols) order' true
      × AreLists d.bits (length points) (lists_after (gf_mul d.bits modulus) (length points) ns' fs' t' symbols) order' used' = judged_step true own j pending same here.are_lists in
      subst (After ranks' vectors' old) (sym e)
      (so_far_next d modulus points lawful is_modulus are stop band b ranks' vectors' (lists_after (gf_mul d.bits modulus) (length points) ns' fs' t' symbols) order' used' old pending.waiting j.at
      (so_far_new d modulus points lawful is_modulus are d.bits (length points) k (slice_index band b) ranks vectors own ranks' vectors'
      (lists_after (gf_mul d.bits modulus) (length points) ns fs t symbols) order (lists_after (gf_mul d.bits modulus) (length points) ns' fs' t' symbols) order' used used' old
      refl refl ek few long (λ p l. same p l ∙ j.values_are p l) step.0 step.1 er ev here))

  pub judged_old : (bits : ℕ) (own ranks vectors : List ℕ) (old marks : List Bool) → bits ≡ d.bits → IsJudged d modulus points k b band values products row order ns fs t order' ns' fs' t' used used' false bits
      → ArePending d modulus points stop band values products symbols → k ≡ length ranks → ((p : ℕ) → p < length points → slice_index own p ≡ cell values (length points) b p)
      → IsLent d (slice_index band b) old marks → Before ranks vectors old bits → After ranks vectors marks bits
  judged_old bits own ranks vectors old marks e judged pending ek same lent h =
      let j : IsJudged d modulus points k b band values products row order ns fs t order' ns' fs' t' used used' false d.bits = subst (IsJudged d modulus points k b band values products row order ns fs t order' ns' fs' t' used used' false) e judged in
      let here : AreSoFar d modulus points (slice_index band b) ranks vectors (lists_after (gf_mul d.bits modulus) (length points) ns fs t symbols) order used old = before_at ranks vectors old j.at (subst (Before ranks vectors old) e h) in
      let step : IsStep (2 ^ d.bits) (gf_mul d.bits modulus) (length points) k own (lists_after (gf_mul d.bits modulus) (length points) ns fs t symbols) order (lists_after (gf_mul d.bits modulus) (length points) ns' fs' t' symbols) order' false
      × AreLists d.bits (length points) (lists_after (gf_mul d.bits modulus) (length points) ns' fs' t' symbols) order' used' = judged_step false own j pending same here.are_lists in
      subst (After ranks vectors marks) (sym e)
      (so_far_next d modulus points lawful is_modulus are stop band b ranks vectors (lists_after (gf_mul d.bits modulus) (length points) ns' fs' t' symbols) order' used' marks pending.waiting j.at
      (so_far_old d modulus points lawful is_modulus are d.bits (length points) k (slice_index band b) ranks vectors own
      (lists_after (gf_mul d.bits modulus) (length points) ns fs t symbols) order (lists_after (gf_mul d.bits modulus) (length points) ns' fs' t' symbols) order' used used' old marks
      refl refl ek j.below (λ p l. same p l ∙ j.values_are p l) step.0 step.1 lent here))

module _ (d : Domain) (modulus : ℕ) (points : List Point) (lawful : IsOrderDomain d) (is_modulus : IsModulus d.bits modulus) (are : ArePoints d modulus points) where
  -- with as many members as points the others are old
  pub judged_full : (b stop : ℕ) (band values products base symbols order ranks vectors : List ℕ) (used old : List Bool) → ArePending d modulus points stop band values products base → b < length band → length points ≤ length ranks
      → AreSoFar d modulus points (get_or band b stop) ranks vectors symbols order used old → AreSoFar d modulus points (get_or band (b + 1) stop) ranks vectors symbols order used old
  judged_full b stop band values products base symbols order ranks vectors used old pending l full h =
      so_far_next d modulus points lawful is_modulus are stop band b ranks vectors symbols order used old pending.waiting l
      (so_far_full d modulus points lawful is_modulus are (slice_index band b) ranks vectors symbols order used old full
      (subst (λ (s : ℕ). AreSoFar d modulus points s ranks vectors symbols order used old) (get_or_default band b stop 0 l) h))

-- the products of a band with the lists before it
pub pending_of : (d : Domain) (modulus : ℕ) (points : List Point) (bits n stop : ℕ) (band copied values products symbols : List ℕ) → bits ≡ d.bits → n ≡ length points → copied ≡ values
    → ((b q : ℕ) → b < length band → q < n → cell products n b q ≡ combine (gf_mul bits modulus) n (cell copied n b) (cell symbols n) q)
    → AreWaiting d modulus points stop band → ArePending d modulus points stop band values products symbols
pending_of d modulus points bits n stop band copied values products symbols e f ec h w =
    let h1 : (b q : ℕ) → b < length band → q < length points → cell products (length points) b q ≡ combine (gf_mul bits modulus) (length points) (cell copied (length points) b) (cell symbols (length points)) q =
    subst (λ (x : ℕ). (b q : ℕ) → b < length band → q < x → cell products x b q ≡ combine (gf_mul bits modulus) x (cell copied x b) (cell symbols x) q) f h in
    let h2 : (b q : ℕ) → b < length band → q < length points → cell products (length points) b q ≡ combine (gf_mul d.bits modulus) (length points) (cell copied (length points) b) (cell symbols (length points)) q =
    subst (λ (x : ℕ). (b q : ℕ) → b < length band → q < length points → cell products (length points) b q ≡ combine (gf_mul x modulus) (length points) (cell copied (length points) b) (cell symbols (length points)) q) e h1 in
    record {
      waiting = w;
      products_are = λ b q lb lq. h2 b q lb lq ∙ ap (λ (v : List ℕ). combine (gf_mul d.bits modulus) (length points) (cell v (length points) b) (cell symbols (length points)) q) ec;
    }

-- the lists are changed by the takes
pub lists_changed : (mul : ℕ → ℕ → ℕ) (n m : ℕ) (ns2 fs2 t2 ns fs t symbols now : List ℕ) → n ≡ m → ns2 ≡ ns → fs2 ≡ fs → t2 ≡ t → now ≡ lists_after mul n ns2 fs2 t2 symbols → lists_after mul m ns fs t symbols ≡ now
lists_changed mul n m ns2 fs2 t2 ns fs t symbols now e en ef et is =
    sym (is ∙ ap (λ (s : ℕ). lists_after mul s ns2 fs2 t2 symbols) e ∙ ap (λ (w : List ℕ). lists_after mul m w fs2 t2 symbols) en
    ∙ ap (λ (w : List ℕ). lists_after mul m ns w t2 symbols) ef ∙ ap (λ (w : List ℕ). lists_after mul m ns fs w symbols) et)
