-- trial_of         the generator of a number
-- drawn            the next word of a generator, modulo a bound
-- after_draw       the generator after one word
-- file_bytes       the next n bytes of a generator
-- after_bytes      the generator after them
use Rattle.std.specs.Prelude.{ℕ, zero, suc, ◌%◌, List, [], ◌∷◌}
use Rattle.rand_core.specs.Pcg32Seed.{pcg32_seed}
use Rattle.rand_pcg.specs.Lcg.{Lcg}
use Rattle.rand_pcg.specs.Pcg.{pcg32, pcg32_of_seed}

unfoldable pub trial_of : ℕ → Lcg
trial_of seed = pcg32_of_seed (pcg32_seed 16 seed)

unfoldable pub drawn : (bound : ℕ) → Lcg → ℕ
drawn bound g = (pcg32 g).0 % bound

unfoldable pub after_draw : Lcg → Lcg
after_draw g = (pcg32 g).1

abbrev pub file_bytes : ℕ → Lcg → List ℕ
file_bytes zero g = []
file_bytes (suc n) g = drawn 256 g ∷ file_bytes n (after_draw g)

abbrev pub after_bytes : ℕ → Lcg → Lcg
after_bytes zero g = g
after_bytes (suc n) g = after_bytes n (after_draw g)
