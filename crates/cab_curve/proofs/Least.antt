-- What is known of the least number with a test.
use Rattle.std.proofs.Common.{◌≡◌, ℕ, zero, suc, ◌+◌, ◌<◌, Bool, true, false, Option, Some, None, is_some, refl, subst, inl, inr, arith, add-one}
use Rattle.std.specs.Option.{option_or}
use Rattle.std.proofs.lemmas.Bool.{cases_lt}
use Rattle.cab_curve.specs.First.{when, least}

-- none below n, and not n
pub least-next : (n m : ℕ) (test : ℕ → Bool) → least n test ≡ None → test n ≡ false → m ≡ n + 1 → least m test ≡ None
least-next n m test none here e = rw (e, add-one, none, here)

-- none below k, and k
pub least-at : (n k : ℕ) (test : ℕ → Bool) → least k test ≡ None → test k ≡ true → k < n → least n test ≡ Some k
least-at zero k test none here h = absurd (omega arith)
least-at (suc n) k test none here h =
    elim (cases_lt k n) [
      | inl below ↦ rw (least-at n k test none here below)
      | inr above ↦ (let e : n ≡ k = omega arith in rw (e, none, here))
    ]

option_or-none : (a b : Option ℕ) → option_or a b ≡ None → (a ≡ None) × (b ≡ None)
option_or-none None b h = (refl, h)
option_or-none (Some x) b h = cc

when-none : (b : Bool) (n : ℕ) → when b n ≡ None → b ≡ false
when-none false n h = refl
when-none true n h = cc

-- none below n
pub least-none : (n : ℕ) (test : ℕ → Bool) → least n test ≡ None → (k : ℕ) → k < n → test k ≡ false
least-none zero test none k h = absurd (omega arith)
least-none (suc n) test none k h =
    let both = option_or-none (least n test) (when (test n) n) none in
    elim (cases_lt k n) [
      | inl below ↦ least-none n test both.0 k below
      | inr above ↦ (let e : k ≡ n = omega arith in rw e (when-none (test n) n both.1))
    ]

pub least-all_false : (n : ℕ) (test : ℕ → Bool) → ((k : ℕ) → k < n → test k ≡ false) → least n test ≡ None
least-all_false zero test all = refl
least-all_false (suc n) test all = rw (least-all_false n test (λ k h. all k (omega arith)), all n (omega arith))

-- the tests that agree below n
pub least-same : (n : ℕ) (f g : ℕ → Bool) → ((k : ℕ) → k < n → f k ≡ g k) → least n f ≡ least n g
least-same zero f g same = refl
least-same (suc n) f g same = rw (least-same n f g (λ k h. same k (omega arith)), same n (omega arith))

-- k is below n, has the test, and none below it has
abbrev pub IsLeast : ℕ → ℕ → (ℕ → Bool) → Type 0
IsLeast n k test = (k < n) × (test k ≡ true) × (least k test ≡ None)

some_step : (n k : ℕ) (test : ℕ → Bool) → ((x : ℕ) → least n test ≡ Some x → IsLeast n x test) → (o : Option ℕ) → least n test ≡ o
    → (b : Bool) → test n ≡ b → option_or o (when b n) ≡ Some k → IsLeast (suc n) k test
some_step n k test ih (Some x) e b here s =
    let same : x ≡ k = cc in
    let found : least n test ≡ Some k = subst (λ (y : ℕ). least n test ≡ Some y) same e in
    let parts = ih k found in
    (omega (arith, parts.0), parts.1, parts.2)
some_step n k test ih None e true here s =
    let same : n ≡ k = cc in
    subst (λ (x : ℕ). IsLeast (suc n) x test) same (omega arith, here, e)
some_step n k test ih None e false here s = cc

pub least-some : (n k : ℕ) (test : ℕ → Bool) → least n test ≡ Some k → IsLeast n k test
least-some zero k test h = cc
least-some (suc n) k test h = some_step n k test (λ x e. least-some n x test e) (least n test) refl (test n) refl h

pub is_some-none : (o : Option ℕ) → is_some o ≡ false → o ≡ None
is_some-none None h = refl
is_some-none (Some x) h = cc

pub ruleset steps = (least-next, least-at)

pub none_at : (n k : ℕ) (test : ℕ → Bool) → least k test ≡ None → k ≡ n → false ≡ is_some (least n test)
none_at n k test none e = rw (← e, none) refl

pub some_at : (n k : ℕ) (test : ℕ → Bool) → least k test ≡ None → test k ≡ true → k < n → true ≡ is_some (least n test)
some_at n k test none here h = rw (least-at n k test none here h) refl
