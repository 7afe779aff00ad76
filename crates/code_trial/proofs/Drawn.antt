-- What damage and decoding make of the file that was drawn
use Rattle.std.proofs.Common.{ℕ, zero, suc, ◌*◌, ◌/◌, ◌<◌, ◌≤◌, ◌≡◌, ◌^◌, true, List, length, get_or, ◌∷◌, refl, sym, ap, ap₂, ◌∙◌, arith}
use Rattle.std.specs.Str.{bytes_eq}
use Rattle.std.proofs.lemmas.Slice.Eq.{bytes_eq-Decides}
use Rattle.rand_pcg.specs.Lcg.{Lcg}
use Rattle.ag_frame.specs.declared.frame.Layout.{Layout}
use Rattle.ag_frame.specs.Layouts.{bytes_in_group}
use Rattle.stored_form.specs.Form.{Form}
use Rattle.stored_form.specs.Frame.{IsFile, image}
use Rattle.stored_form.specs.Reading.{blocks, changes}
use Rattle.stream_codec.specs.Layouts.{Fits, in_groups}
use Rattle.ag_trial.specs.Words.{drawn, after_draw, file_bytes}
use Rattle.ag_trial.specs.Damage.{damaged_words, IsTrialRead}
use Rattle.ag_trial.specs.Groups.{words_of_text}
use Rattle.stream_codec.proofs.WindowGroups.{blocks_is}
use Rattle.ag_trial.proofs.Images.{trial_law}
use Rattle.code_trial.specs.declared.back.ReadBack.{ReadBack}
use Rattle.ag_trial.specs.Damage.{changes_in}
use Rattle.code_trial.specs.Trials.{codewords_of, changes_drawn, read_back, read_back_by, outcome_for}
use Rattle.code_trial.proofs.Bounds.{sound_at, group_bytes_is}
use Rattle.code_trial.proofs.Radius.{radius_within}

drawn_byte : (g : Lcg) → drawn 256 g < 256
unfolding drawn
drawn_byte g = omega arith

All-cons : (x : ℕ) (xs : List ℕ) → x < 256 → IsFile xs → IsFile (x ∷ xs)
All-cons x xs here rest = λ k d l. go k d l
  where
    go : (k : ℕ) (d : ℕ) → k < length (x ∷ xs) → get_or (x ∷ xs) k d < 256
    go zero d l = here
    go (suc k) d l = rest k d (omega arith)

pub bytes_drawn : (n : ℕ) (g : Lcg) → IsFile (file_bytes n g)
bytes_drawn zero g = λ k d l. absurd (omega arith)
bytes_drawn (suc n) g = All-cons (drawn 256 g) (file_bytes n (after_draw g)) (drawn_byte g) (bytes_drawn n (after_draw g))

pub length-file_bytes : (n : ℕ) (g : Lcg) → length (file_bytes n g) ≡ n
length-file_bytes zero g = refl
length-file_bytes (suc n) g = ap suc (length-file_bytes n (after_draw g))

-- the most changes of a codeword are no more than its symbols
pub few_changes : (l : Layout) (F : Form) (t : ℕ) → Fits l F → t ≤ F.radius → t ≤ l.n
few_changes l F t fits radius = let r = radius_within (in_groups l F) (sound_at l F fits) in let e = fits.n in omega arith

pub bytes_same : (x : List ℕ) → bytes_eq x x ≡ true
bytes_same x = (bytes_eq-Decides x x).1 refl

module _ (l : Layout) (F : Form) (t : ℕ) (x z : List ℕ) (g : Lcg) (fits : Fits l F) (file : IsFile x) (radius : t ≤ F.radius)
    (long : length z ≡ length (image (in_groups l F) x))
    (words : words_of_text l z ≡ (damaged_words (2 ^ l.bits) t (words_of_text l (image (in_groups l F) x)) g).0) where
  in_blocks : (y : List ℕ) → words_of_text l y ≡ blocks (in_groups l F) y
  in_blocks y = blocks_is l F y fits

  damaged_read : IsTrialRead (in_groups l F) t x z g
  damaged_read =
      let few = few_changes l F t fits radius in
      let same : blocks (in_groups l F) z ≡ (damaged_words (2 ^ F.bits) t (blocks (in_groups l F) (image (in_groups l F) x)) g).0 =
      sym (in_blocks z) ∙ words ∙ ap₂ (λ (b : ℕ) (ws : List (List ℕ)). (damaged_words (2 ^ b) t ws g).0) fits.bits (in_blocks (image (in_groups l F) x)) in
      trial_law (in_groups l F) t x z g (sound_at l F fits) file radius (let e = fits.n in omega arith) long same

  pub outcome_found : (codewords changed : ℕ) (back : ReadBack) → codewords ≡ length z / bytes_in_group l * l.depth →
      changed ≡ changes_in (2 ^ l.bits) t (words_of_text l (image (in_groups l F) x)) g → back ≡ read_back (in_groups l F) z x →
      record { codewords = codewords; changed = changed; corrected = back.corrected; equal = back.equal } ≡ outcome_for (in_groups l F) t x g
  outcome_found codewords changed back count drawn found =
      let read : back ≡ record { corrected = length (changes (in_groups l F) z); equal = bytes_eq x x } =
      found ∙ ap (read_back_by (in_groups l F) z x) damaged_read.read_as in
      let codewords_is : codewords ≡ codewords_of (in_groups l F) x =
      count ∙ ap₂ (λ (n size : ℕ). n / size * l.depth) long (sym (group_bytes_is l F fits)) in
      let changed_is : changed ≡ changes_drawn (in_groups l F) t x g =
      drawn ∙ ap₂ (λ (b : ℕ) (ws : List (List ℕ)). changes_in (2 ^ b) t ws g) fits.bits (in_blocks (image (in_groups l F) x)) in
      let corrected_is : back.corrected ≡ changes_drawn (in_groups l F) t x g = ap (λ (r : ReadBack). r.corrected) read ∙ damaged_read.counted in
      let equal_is : back.equal ≡ true = ap (λ (r : ReadBack). r.equal) read ∙ bytes_same x in
      λ i. record { codewords = codewords_is i; changed = changed_is i; corrected = corrected_is i; equal = equal_is i }
