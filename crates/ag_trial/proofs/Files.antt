-- The loop over the bytes of a file
use Rattle.std.proofs.Common.{◌≡◌, ℕ, suc, ◌+◌, ◌-◌, ◌<◌, List, [], ◌∷◌, ◌++◌, length, take, ap, ◌∙◌, sym, arith, append_assoc, refl}
use Rattle.std.proofs.Math.ListN.{set}
use Rattle.std.proofs.lemmas.List.{take_more_set}
use Rattle.rand_pcg.specs.Lcg.{Lcg}
use Rattle.ag_trial.specs.Words.{drawn, after_draw, file_bytes, after_bytes}

one_less : (n i : ℕ) → i < n → n - i ≡ suc (n - (i + 1))
one_less n i l = omega arith

pub bytes-more : (bs : List ℕ) (n i v : ℕ) (g h : Lcg) → i < length bs → i < n → v ≡ drawn 256 g → h ≡ after_draw g →
    take (i + 1) (set bs i v) ++ file_bytes (n - (i + 1)) h ≡ take i bs ++ file_bytes (n - i) g
bytes-more bs n i v g h l m e rest =
    let next : file_bytes (n - i) g ≡ v ∷ file_bytes (n - (i + 1)) h = ap (λ (k : ℕ). file_bytes k g) (one_less n i m) ∙ rw (e, rest) refl in
    ap (λ (xs : List ℕ). xs ++ file_bytes (n - (i + 1)) h) (take_more_set bs i v l)
    ∙ append_assoc (take i bs) (v ∷ []) (file_bytes (n - (i + 1)) h) ∙ ap (λ (xs : List ℕ). take i bs ++ xs) (sym next)

pub after-more : (n i : ℕ) (g h : Lcg) → i < n → h ≡ after_draw g → after_bytes (n - (i + 1)) h ≡ after_bytes (n - i) g
after-more n i g h m rest = ap (after_bytes (n - (i + 1))) rest ∙ sym (ap (λ (k : ℕ). after_bytes k g) (one_less n i m))
