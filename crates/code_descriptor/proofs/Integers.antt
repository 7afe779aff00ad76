-- Integers and natural numbers
use Rattle.std.proofs.Common.{◌≡◌, ℕ, ◌≤◌, ℤ, pos, negsuc, true, leb, refl, ap}
use Rattle.std.proofs.lemmas.Bool.{and_parts, and_from, leb-true, le-leb}
use Rattle.code_descriptor.specs.Tests.{nat, is_from_to}

pub from_to : (low high : ℕ) (z : ℤ) → is_from_to low high z ≡ true → (z ≡ pos (nat z)) × (low ≤ nat z) × (nat z ≤ high)
from_to low high (pos n) h = let two = and_parts (leb low n) (leb n high) h in (refl, leb-true low n two.0, leb-true n high two.1)
from_to low high (negsuc n) h = cc

pub to_from : (low high n : ℕ) (z : ℤ) → z ≡ pos n → low ≤ n → n ≤ high → is_from_to low high z ≡ true
to_from low high n z e l m = rw e (and_from (leb low n) (leb n high) (le-leb low n l) (le-leb n high m))

pub nat_of : (n : ℕ) (z : ℤ) → z ≡ pos n → nat z ≡ n
nat_of n z e = ap nat e
