-- IsShiftRoom, AreShiftRooms    room for the products of n members
-- HasShift                      the products of all members with one of them
-- HasShifts                     the products with two members
-- IsSource                      the matrix of every list has the same entry at (i', j') as at (i, j)
use Rattle.std.specs.Prelude.{◌≡◌, ℕ, ◌<◌, List, length, slice_index}
use Rattle.order_theory.specs.Basis.{Basis, times, vector}
use Rattle.order_theory.specs.Errors.{entry}
use Rattle.product_classes.specs.declared.shifts.Shift.{Shift}
use Rattle.product_classes.specs.declared.shifts.Shifts.{Shifts}

pub record IsShiftRoom (n : ℕ) (shift : Shift) : Type 0 where
  pub n_next : length shift.next.items ≡ n
  pub n_back : length shift.back.items ≡ n

pub record AreShiftRooms (n : ℕ) (shifts : Shifts) : Type 0 where
  pub first_room : IsShiftRoom n shifts.first
  pub second_room : IsShiftRoom n shifts.second

-- where next i is a member, its vector is vector i times the vector of member by; where back q is a member, next leads back
pub record HasShift (b : Basis) (shift : Shift) : Type 0 where
  pub room : IsShiftRoom b.n shift
  pub by : ℕ
  pub products : (i : ℕ) → i < b.n → slice_index shift.next.items i < b.n
      → (p : ℕ) → p < b.n → times b (vector b by p) (vector b i p) ≡ vector b (slice_index shift.next.items i) p
  pub forth : (q : ℕ) → q < b.n → slice_index shift.back.items q < b.n → slice_index shift.next.items (slice_index shift.back.items q) ≡ q

pub record HasShifts (b : Basis) (shifts : Shifts) : Type 0 where
  pub first_shift : HasShift b shifts.first
  pub second_shift : HasShift b shifts.second

pub record IsSource (b : Basis) (i j i' j' : ℕ) : Type 0 where
  pub row : i' < b.n
  pub column : j' < b.n
  pub same : (w : List ℕ) → entry (times b) b w i j ≡ entry (times b) b w i' j'
