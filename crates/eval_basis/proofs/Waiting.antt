-- The functions of a band wait while the search goes on, and are judged in their order
use Rattle.std.proofs.Common.{◌≡◌, ◌≢◌, ℕ, zero, suc, ◌+◌, ◌-◌, ◌<◌, ◌≤◌, Bool, true, Vec, Global, List, [], ◌∷◌, ◌++◌, length, get_or, slice_index, sym, ◌∙◌, ap, subst, refl, inl, inr, arith}
use Rattle.std.proofs.lemmas.Bool.{cases_eq, cases_lt}
use Rattle.std.proofs.lemmas.List.{with_items_is, get_or_default, get_or_past, get_or_append_left, get_or_push, length_push}
use Rattle.std.specs.Vec.{with_items}
use Rattle.field_theory.proofs.Sums.{eq_or_below}
use Rattle.gf_theory.specs.Field.{IsModulus}
use Rattle.order_theory.specs.Codes.{marked}
use Rattle.order_domain.specs.declared.Point.{Point}
use Rattle.order_domain.specs.Domain.{Domain, ArePoints, IsOrderDomain}
use Rattle.eval_basis.specs.Found.{IsOld, AreSoFar, AreWaiting, AreSearched}
use Rattle.eval_basis.proofs.Finding.{IsLent, so_far_full, so_far_passed, so_far_marked}

-- the functions from the first of the band on
first_is : (band : List ℕ) (x y : ℕ) → 0 < length band → get_or band 0 x ≡ get_or band 0 y
first_is [] x y l = absurd (omega arith)
first_is (a ∷ rest) x y l = refl

first_pushed : (band : List ℕ) (i x : ℕ) → get_or (band ++ i ∷ []) 0 x ≡ get_or band 0 i
first_pushed [] i x = refl
first_pushed (a ∷ rest) i x = refl

pub after_last : (band : List ℕ) (b stop : ℕ) → b ≡ length band → get_or band b stop ≡ stop
after_last band b stop e = get_or_past band b stop (omega arith)

module _ (d : Domain) (modulus : ℕ) (points : List Point) where
  pub next_above : (stop : ℕ) (band : List ℕ) (b : ℕ) → AreWaiting d modulus points stop band → b < length band → slice_index band b < get_or band (b + 1) stop
  next_above stop band b w l = elim (cases_lt (b + 1) (length band)) [
    | inl u ↦ subst (λ (x : ℕ). slice_index band b < x) (sym (get_or_default band (b + 1) stop 0 u)) (w.rising b (b + 1) (omega arith) u)
    | inr v ↦ subst (λ (x : ℕ). slice_index band b < x) (sym (get_or_past band (b + 1) stop (omega arith))) (w.below b l)
  ]

  next_below : (stop : ℕ) (band : List ℕ) (b : ℕ) → AreWaiting d modulus points stop band → get_or band b stop ≤ stop
  next_below stop band b w = elim (cases_lt b (length band)) [
    | inl u ↦ let x : slice_index band b < stop = w.below b u in subst (λ (x : ℕ). x ≤ stop) (sym (get_or_default band b stop 0 u)) (omega arith)
    | inr v ↦ subst (λ (x : ℕ). x ≤ stop) (sym (get_or_past band b stop (omega arith))) (omega arith)
  ]

  first_below : (stop : ℕ) (band : List ℕ) (b : ℕ) → AreWaiting d modulus points stop band → b < length band → get_or band 0 stop ≤ slice_index band b
  first_below stop band b w l = elim (cases_eq b 0) [
    | inl e ↦ subst (λ (s : ℕ). get_or band 0 stop ≤ slice_index band s) (sym e) (subst (λ (x : ℕ). x ≤ slice_index band 0) (sym (get_or_default band 0 stop 0 (omega arith))) (omega arith))
    | inr n ↦ let x : slice_index band 0 < slice_index band b = w.rising 0 b (omega arith) l in subst (λ (x : ℕ). x ≤ slice_index band b) (sym (get_or_default band 0 stop 0 (omega arith))) (omega arith)
  ]

  pub between : (stop : ℕ) (band : List ℕ) (b j : ℕ) → AreWaiting d modulus points stop band → b < length band → slice_index band b < j → j < get_or band (b + 1) stop → IsOld d modulus points j
  between stop band b j w l up low =
      let first : get_or band 0 stop ≤ slice_index band b = first_below stop band b w l in
      let last : get_or band (b + 1) stop ≤ stop = next_below stop band (b + 1) w in
      w.others j (omega arith) (omega arith) (λ c lc e. elim (cases_lt c b) [
        | inl u ↦ let x : slice_index band c < slice_index band b = w.rising c b u l in omega arith
        | inr v ↦ elim (cases_eq c b) [
          | inl s ↦ let x : slice_index band c ≡ slice_index band b = ap (slice_index band) s in omega arith
          | inr n ↦
              let next : get_or band (b + 1) stop ≡ slice_index band (b + 1) = get_or_default band (b + 1) stop 0 (omega arith) in
              elim (cases_eq c (b + 1)) [
                | inl s ↦ let x : slice_index band c ≡ slice_index band (b + 1) = ap (slice_index band) s in omega arith
                | inr t ↦ let x : slice_index band (b + 1) < slice_index band c = w.rising (b + 1) c (omega arith) lc in omega arith
              ]
        ]
      ])

  module _ (lawful : IsOrderDomain d) (is_modulus : IsModulus d.bits modulus) (are : ArePoints d modulus points) where
    so_far_to : (g i : ℕ) (ranks vectors symbols order : List ℕ) (used old : List Bool) → ((j : ℕ) → i ≤ j → j < i + g → IsOld d modulus points j)
        → AreSoFar d modulus points i ranks vectors symbols order used old → AreSoFar d modulus points (i + g) ranks vectors symbols order used old
    so_far_to zero i ranks vectors symbols order used old are_old h = subst (λ (s : ℕ). AreSoFar d modulus points s ranks vectors symbols order used old) (let e : i ≡ i + 0 = omega arith in e) h
    so_far_to (suc g) i ranks vectors symbols order used old are_old h =
        subst (λ (s : ℕ). AreSoFar d modulus points s ranks vectors symbols order used old) (let e : i + g + 1 ≡ i + suc g = omega arith in e)
        (so_far_passed d modulus points lawful is_modulus are (i + g) ranks vectors symbols order used old (are_old (i + g) (omega arith) (omega arith))
        (so_far_to g i ranks vectors symbols order used old (λ j u l. are_old j u (omega arith)) h))

    -- function b of the band is judged, and the functions up to the next are old
    pub so_far_next : (stop : ℕ) (band : List ℕ) (b : ℕ) (ranks vectors symbols order : List ℕ) (used old : List Bool) → AreWaiting d modulus points stop band → b < length band
        → AreSoFar d modulus points (slice_index band b + 1) ranks vectors symbols order used old → AreSoFar d modulus points (get_or band (b + 1) stop) ranks vectors symbols order used old
    so_far_next stop band b ranks vectors symbols order used old w l h =
        let up : slice_index band b < get_or band (b + 1) stop = next_above stop band b w l in
        let g : ℕ = get_or band (b + 1) stop - (slice_index band b + 1) in
        let e : slice_index band b + 1 + (get_or band (b + 1) stop - (slice_index band b + 1)) ≡ get_or band (b + 1) stop = omega arith in
        subst (λ (s : ℕ). AreSoFar d modulus points s ranks vectors symbols order used old) e
        (so_far_to (get_or band (b + 1) stop - (slice_index band b + 1)) (slice_index band b + 1) ranks vectors symbols order used old (λ j u v. between stop band b j w l (omega arith) (omega arith)) h)

    -- ---- the search
    pub searched_none : (i : ℕ) (ranks vectors symbols order : List ℕ) (used old : List Bool) (band : List ℕ) → band ≡ [] → AreSoFar d modulus points i ranks vectors symbols order used old
        → AreSearched d modulus points i ranks vectors symbols order used old band
    searched_none i ranks vectors symbols order used old band e h = subst (λ (w : List ℕ). AreSearched d modulus points i ranks vectors symbols order used old w) (sym e) (record {
      so_far = h;
      waiting = record { below = λ b l. absurd (omega arith); rising = λ a b u l. absurd (omega arith); others = λ j u l n. absurd (omega arith) };
      small = omega arith;
      full = λ f. refl;
    })

    pub searched_full : (i : ℕ) (ranks vectors symbols order : List ℕ) (used old : List Bool) (band : List ℕ) → length points ≤ length ranks → AreSearched d modulus points i ranks vectors symbols order used old band
        → AreSearched d modulus points (i + 1) ranks vectors symbols order used old band
    searched_full i ranks vectors symbols order used old band f h =
        let here : AreSoFar d modulus points i ranks vectors symbols order used old =
        subst (λ (s : ℕ). AreSoFar d modulus points s ranks vectors symbols order used old) (get_or_past band 0 i (let e : length band ≡ 0 = ap length (h.full f) in omega arith)) h.so_far in
        searched_none (i + 1) ranks vectors symbols order used old band (h.full f) (so_far_full d modulus points lawful is_modulus are i ranks vectors symbols order used old f here)

    pub searched_marked : (i : ℕ) (ranks vectors symbols order : List ℕ) (used old now : List Bool) (band : List ℕ) → i < d.count → marked old i ≡ true → IsLent d i old now
        → AreSearched d modulus points i ranks vectors symbols order used old band → AreSearched d modulus points (i + 1) ranks vectors symbols order used now band
    searched_marked i ranks vectors symbols order used old now band li mark m h =
        let is : IsOld d modulus points i = h.so_far.old_are i li mark in
        let here : AreSoFar d modulus points (get_or band 0 i) ranks vectors symbols order used now =
        so_far_marked d modulus points lawful is_modulus are i (get_or band 0 i) ranks vectors symbols order used old now li is m h.so_far in
        let w : AreWaiting d modulus points i band = h.waiting in
        record {
          so_far = elim (cases_eq (length band) 0) [
            | inl e ↦
                subst (λ (s : ℕ). AreSoFar d modulus points s ranks vectors symbols order used now) (sym (get_or_past band 0 (i + 1) (omega arith)))
                (so_far_passed d modulus points lawful is_modulus are i ranks vectors symbols order used now is
                (subst (λ (s : ℕ). AreSoFar d modulus points s ranks vectors symbols order used now) (get_or_past band 0 i (omega arith)) here))
            | inr n ↦ subst (λ (s : ℕ). AreSoFar d modulus points s ranks vectors symbols order used now) (first_is band i (i + 1) (omega arith)) here
          ];
          waiting = record {
            below = λ b l. let x : slice_index band b < i = w.below b l in omega arith;
            rising = w.rising;
            others = λ j u l none. elim (cases_eq j i) [
              | inl e ↦ subst (λ (s : ℕ). IsOld d modulus points s) (sym e) is
              | inr n ↦ elim (cases_eq (length band) 0) [
                | inl z ↦ absurd (let x : get_or band 0 (i + 1) ≡ i + 1 = get_or_past band 0 (i + 1) (omega arith) in omega arith)
                | inr s ↦ w.others j (let x : get_or band 0 (i + 1) ≡ get_or band 0 i = first_is band (i + 1) i (omega arith) in omega arith) (omega arith) none
              ]
            ];
          };
          small = h.small;
          full = h.full;
        }

    -- function i waits too
    pub waiting_more : (i : ℕ) (band band' : List ℕ) → band' ≡ band ++ i ∷ [] → AreWaiting d modulus points i band → AreWaiting d modulus points (i + 1) band'
    waiting_more i band band' e w = subst (λ (v : List ℕ). AreWaiting d modulus points (i + 1) v) (sym e) (record {
      below = λ b l. elim (eq_or_below b (length band) (low b l)) [
        | inl u ↦ let x : slice_index (band ++ i ∷ []) b ≡ i = get_or_push band i 0 b (sym u) in omega arith
        | inr u ↦ let x : slice_index (band ++ i ∷ []) b ≡ slice_index band b = get_or_append_left band (i ∷ []) 0 b u in let y : slice_index band b < i = w.below b u in omega arith
      ];
      rising = λ a b u l. let x : slice_index (band ++ i ∷ []) a ≡ slice_index band a = get_or_append_left band (i ∷ []) 0 a (let v : b < suc (length band) = low b l in omega arith) in
          elim (eq_or_below b (length band) (low b l)) [
            | inl v ↦ let y : slice_index (band ++ i ∷ []) b ≡ i = get_or_push band i 0 b (sym v) in let z : slice_index band a < i = w.below a (omega arith) in omega arith
            | inr v ↦ let y : slice_index (band ++ i ∷ []) b ≡ slice_index band b = get_or_append_left band (i ∷ []) 0 b v in let z : slice_index band a < slice_index band b = w.rising a b u v in omega arith
          ];
      others = λ j u l none.
          let apart : j ≢ i = λ s. none (length band) (omega (arith, length_push band i)) (s ∙ sym (get_or_push band i 0 (length band) refl)) in
          let first : get_or (band ++ i ∷ []) 0 (i + 1) ≡ get_or band 0 i = first_pushed band i (i + 1) in
          w.others j (omega arith) (omega arith) (λ b lb s. none b (omega (arith, length_push band i)) (s ∙ sym (get_or_append_left band (i ∷ []) 0 b lb)));
    })
      where
        low : (b : ℕ) → b < length (band ++ i ∷ []) → b < suc (length band)
        low b l = omega (arith, length_push band i)

    so_far_pushed : (i : ℕ) (ranks vectors symbols order : List ℕ) (used old : List Bool) (band band' : List ℕ) → band' ≡ band ++ i ∷ [] → AreSearched d modulus points i ranks vectors symbols order used old band
        → AreSoFar d modulus points (get_or band' 0 (i + 1)) ranks vectors symbols order used old
    so_far_pushed i ranks vectors symbols order used old band band' e h =
        subst (λ (s : ℕ). AreSoFar d modulus points s ranks vectors symbols order used old) (sym (ap (λ (w : List ℕ). get_or w 0 (i + 1)) e ∙ first_pushed band i (i + 1))) h.so_far

    pub searched_pushed : (i : ℕ) (ranks vectors symbols order : List ℕ) (used old : List Bool) (band band' : List ℕ) → band' ≡ band ++ i ∷ [] → length ranks < length points → length band' ≢ 64
        → AreSearched d modulus points i ranks vectors symbols order used old band → AreSearched d modulus points (i + 1) ranks vectors symbols order used old band'
    searched_pushed i ranks vectors symbols order used old band band' e room more h = record {
      so_far = so_far_pushed i ranks vectors symbols order used old band band' e h;
      waiting = waiting_more i band band' e h.waiting;
      small = let l : length band' ≡ length band + 1 = ap length e ∙ length_push band i in let s : length band < 64 = h.small in omega arith;
      full = λ f. absurd (omega arith);
    }

    -- a full band was judged, and is empty
    pub searched_settled : (i : ℕ) (ranks vectors symbols order : List ℕ) (used old : List Bool) (band band' empty ranks' vectors' symbols' order' : List ℕ) (used' old' : List Bool) → band' ≡ band ++ i ∷ [] → empty ≡ []
        → ((stop : ℕ) → AreWaiting d modulus points stop band' → AreSoFar d modulus points (get_or band' 0 stop) ranks vectors symbols order used old → AreSoFar d modulus points stop ranks' vectors' symbols' order' used' old')
        → AreSearched d modulus points i ranks vectors symbols order used old band → AreSearched d modulus points (i + 1) ranks' vectors' symbols' order' used' old' empty
    searched_settled i ranks vectors symbols order used old band band' empty ranks' vectors' symbols' order' used' old' e none settled h =
        searched_none (i + 1) ranks' vectors' symbols' order' used' old' empty none
        (settled (i + 1) (waiting_more i band band' e h.waiting) (so_far_pushed i ranks vectors symbols order used old band band' e h))

    -- no function of the band waits once there are as many members as points
    pub searched_all : (i : ℕ) (ranks vectors symbols order : List ℕ) (used old : List Bool) (band : List ℕ) → length points ≤ length ranks → AreSearched d modulus points i ranks vectors symbols order used old band
        → AreSoFar d modulus points i ranks vectors symbols order used old
    searched_all i ranks vectors symbols order used old band f h =
        subst (λ (s : ℕ). AreSoFar d modulus points s ranks vectors symbols order used old) (get_or_past band 0 i (let e : length band ≡ 0 = ap length (h.full f) in omega arith)) h.so_far

    -- the functions of a band are below the number of all
    pub band_below : (i : ℕ) (band : List ℕ) → i ≤ d.count → AreWaiting d modulus points i band → (b : ℕ) → b < length band → slice_index band b < d.count
    band_below i band li w b l = let x : slice_index band b < i = w.below b l in omega arith

-- a Vec after its items were lent as a slice
pub lent_is : (v : Vec Bool Global) (old now : List Bool) → length v.items ≡ v.len → old ≡ v.items → length now ≡ length old → (with_items v now).items ≡ now
lent_is v old now ok e long = with_items_is v now (long ∙ ap (λ (w : List Bool). length w) e ∙ ok)

-- the order has numbers of lists
pub numbers_in : (d : Domain) (modulus : ℕ) (points : List Point) (i : ℕ) (ranks vectors symbols order : List ℕ) (used old : List Bool) → AreSoFar d modulus points i ranks vectors symbols order used old
    → (k : ℕ) → k < length order → slice_index order k < length order
numbers_in d modulus points i ranks vectors symbols order used old h k l =
    subst (λ (s : ℕ). slice_index order k < s) (sym h.are_lists.n_order) (h.are_lists.numbers k (subst (λ (s : ℕ). k < s) h.are_lists.n_order l))
