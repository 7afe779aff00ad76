-- What a group writer wrote, group by group and byte by byte.
use Rattle.std.proofs.Common.{ℕ, ◌+◌, ◌*◌, ◌/◌, ◌<◌, ◌≤◌, ◌≡◌, Bool, List, [], ◌++◌, length, take, drop, refl, sym, ap, ap₂, ◌∙◌, arith, append_assoc, subst, length-drop, div-add-mod'}
use Rattle.std.proofs.lemmas.List.{append-nil}
use Rattle.ag_io.specs.Views.{SinkView}
use Rattle.ag_io.specs.Puts.{Wrote, WroteSome}
use Rattle.ag_io.proofs.Writes.{wrote_nothing, wrote_more, wrote_some}
use Rattle.stored_form.specs.Bits.{bits_of_symbols}
use Rattle.stored_form.specs.Form.{Form, IsSound}
use Rattle.stored_form.specs.Frame.{group_bits, group_bytes, group_of, image}
use Rattle.stored_form.proofs.BitsLemmas.{length-bits_of_symbols}
use Rattle.stored_form.proofs.FrameLemmas.{file_groups, group_bits_above_0}
use Rattle.stored_form.proofs.ImageLemmas.{length-image}
use Rattle.stored_form.proofs.CoderLemmas.{IsEncoding-all}
use Rattle.ag_frame.specs.declared.frame.Layout.{Layout}
use Rattle.stream_codec.specs.Layouts.{Fits, in_groups}
use Rattle.ag_frame.specs.Layouts.{bits_in_group}
use Rattle.stream_codec.proofs.FitLemmas.{fits_bits}
use Rattle.stream_codec.specs.Groups.{full_groups, full_count, bits_left, last_group, closed_groups, Pushed}
use Rattle.stream_codec.proofs.Groups.{groups_more, groups_none, count_more, count_none, left_more, left_none}
use Rattle.stream_codec.proofs.Advance.{advance, groups_front, count_le, left_short}

-- ---- group by group
-- of the bits w0 the first groups were written, and w are left
pub record Emitting (G : Form) (tells : Bool) (first now : SinkView) (w0 w : List Bool) (groups : ℕ) : Type 0 where
  pub done : List ℕ
  pub wrote : Wrote tells first now done
  pub all : full_groups G w0 ≡ done ++ full_groups G w
  pub left : bits_left G w0 ≡ bits_left G w
  pub count : full_count G w0 ≡ groups + full_count G w
  pub few : length w ≤ length w0

pub emitting_starts : (G : Form) (tells : Bool) (s : SinkView) (w : List Bool) → Emitting G tells s s w w 0
emitting_starts G tells s w = record { done = []; wrote = wrote_nothing tells s; all = refl; left = refl; count = omega arith; few = omega arith }

pub emitting_more : {G : Form} {tells : Bool} {a b c : SinkView} {w0 w : List Bool} {groups : ℕ} (w2 : List Bool) → 0 < group_bits G → Emitting G tells a b w0 w groups → group_bits G ≤ length w → Wrote tells b c (group_of G (take (group_bits G) w)) → w2 ≡ drop (group_bits G) w → Emitting G tells a c w0 w2 (groups + 1)
emitting_more {G} {tells} {a} {b} {c} {w0} {w} {groups} w2 some so_far ready wrote is =
    let group = group_of G (take (group_bits G) w) in
    record {
      done = so_far.done ++ group;
      wrote = wrote_more (so_far.done ++ group) so_far.wrote wrote refl;
      all = so_far.all ∙ ap (λ l. so_far.done ++ l) (groups_more G w some ready ∙ ap (λ v. group ++ full_groups G v) (sym is)) ∙ sym (append_assoc so_far.done group (full_groups G w2));
      left = so_far.left ∙ left_more G w some ready ∙ ap (bits_left G) (sym is);
      count = omega (arith, so_far.count, count_more G w some ready, ap (full_count G) is);
      few = omega (arith, ap length is, length-drop (group_bits G) w, so_far.few);
    }

pub emitting_fails : {G : Form} {tells : Bool} {a b c : SinkView} {w0 w : List Bool} {groups : ℕ} → 0 < group_bits G → Emitting G tells a b w0 w groups → group_bits G ≤ length w → WroteSome tells b c (group_of G (take (group_bits G) w)) → WroteSome tells a c (full_groups G w0)
emitting_fails {G} {tells} {a} {b} {c} {w0} {w} {groups} some so_far ready part =
    let group = group_of G (take (group_bits G) w) in
    let rest = full_groups G (drop (group_bits G) w) in
    wrote_some rest (full_groups G w0) so_far.wrote part (so_far.all ∙ ap (λ l. so_far.done ++ l) (groups_more G w some ready) ∙ sym (append_assoc so_far.done group rest))

pub emitting_ends : {G : Form} {tells : Bool} {a b : SinkView} {w0 w : List Bool} {groups : ℕ} → Emitting G tells a b w0 w groups → length w < group_bits G → Pushed G tells a b w0 w groups
emitting_ends {G} {tells} {a} {b} {w0} {w} {groups} so_far short = record {
  wrote = wrote_more (full_groups G w0) so_far.wrote (wrote_nothing tells b) (so_far.all ∙ ap (λ l. so_far.done ++ l) (groups_none G w short));
  waiting_are = sym (so_far.left ∙ left_none G w short);
  groups_are = omega (arith, so_far.count, count_none G w short);
}

-- ---- byte by byte
pub pushing_starts : (G : Form) (tells : Bool) (s : SinkView) (bits w : List Bool) → bits ≡ w → length w < group_bits G → Pushed G tells s s bits w 0
pushing_starts G tells s bits w is short =
    let few : length bits < group_bits G = omega (arith, ap length is) in
    record {
      wrote = wrote_more (full_groups G bits) (wrote_nothing tells s) (wrote_nothing tells s) (groups_none G bits few);
      waiting_are = sym is ∙ sym (left_none G bits few);
      groups_are = sym (count_none G bits few);
    }

pub pushing_more : {G : Form} {tells : Bool} {a b c : SinkView} {bits w w2 : List Bool} {m n : ℕ} (more whole : List Bool) → 0 < group_bits G → Pushed G tells a b bits w m → Pushed G tells b c (w ++ more) w2 n → whole ≡ bits ++ more → Pushed G tells a c whole w2 (m + n)
pushing_more {G} {tells} {a} {b} {c} {bits} {w} {w2} {m} {n} more whole some so_far then is =
    let step = advance G bits more w (w ++ more) whole some so_far.waiting_are refl is in
    record {
      wrote = wrote_more (full_groups G whole) so_far.wrote then.wrote step.groups;
      waiting_are = then.waiting_are ∙ sym step.left;
      groups_are = ap₂ (λ x y. x + y) so_far.groups_are then.groups_are ∙ sym step.count;
    }

pub pushing_fails : {G : Form} {tells : Bool} {a b c : SinkView} {bits w : List Bool} {m : ℕ} (more rest whole : List Bool) → 0 < group_bits G → Pushed G tells a b bits w m → WroteSome tells b c (full_groups G (w ++ more)) → whole ≡ (bits ++ more) ++ rest → WroteSome tells a c (full_groups G whole)
pushing_fails {G} {tells} {a} {b} {c} {bits} {w} {m} more rest whole some so_far part is =
    let step = advance G bits more w (w ++ more) (bits ++ more) some so_far.waiting_are refl refl in
    let (tail, e) = groups_front G (bits ++ more) rest whole some is in
    wrote_some tail (full_groups G whole) so_far.wrote part (e ∙ ap (λ l. l ++ tail) step.groups)

pub pushed_short : {G : Form} {tells : Bool} {a b : SinkView} {bits w : List Bool} {m : ℕ} → 0 < group_bits G → Pushed G tells a b bits w m → length w < group_bits G
pushed_short {G} {tells} {a} {b} {bits} {w} {m} some pushed =
    let step = advance G bits [] w (w ++ []) bits some pushed.waiting_are refl (sym (append-nil bits)) in
    omega (arith, step.short, ap length pushed.waiting_are)

pub pushed_few : {G : Form} {tells : Bool} {a b : SinkView} {bits w : List Bool} {m : ℕ} → 0 < group_bits G → Pushed G tells a b bits w m → m ≤ length bits
pushed_few {G} {tells} {a} {b} {bits} {w} {m} some pushed = omega (arith, pushed.groups_are, count_le G bits some)

-- ---- the image, by its groups
pub image_is : (G : Form) (x : List ℕ) → IsSound G → image G x ≡ closed_groups G (bits_of_symbols 8 x)
image_is G x sound =
    let bits = bits_of_symbols 8 x in
    IsEncoding-all G x (full_groups G bits) (bits_left G bits) (full_count G bits) sound (left_short G bits (group_bits_above_0 G sound)) (record {
      fits = omega (arith, div-add-mod' (length bits) (group_bits G));
      given_is = refl;
      waiting_is = refl;
    })

pub image_count : (G : Form) (x : List ℕ) → IsSound G → (full_count G (bits_of_symbols 8 x) + 1) * group_bytes G ≡ length (image G x)
unfolding file_groups
image_count G x sound = ap (λ n. (n / group_bits G + 1) * group_bytes G) (length-bits_of_symbols 8 x) ∙ sym (length-image G x sound)

-- ---- the same by another name of the layout
pub pushed_at : {tells : Bool} {a b : SinkView} {bits w : List Bool} {m : ℕ} (F : Form) (l l2 : Layout) (bits2 : List Bool) → Pushed (in_groups l F) tells a b bits w m → l ≡ l2 → bits ≡ bits2 → Pushed (in_groups l2 F) tells a b bits2 w m
pushed_at {tells} {a} {b} {bits} {w} {m} F l l2 bits2 pushed same is =
    let there = subst (λ (v : Layout). Pushed (in_groups v F) tells a b bits w m) same pushed in
    subst (λ (v : List Bool). Pushed (in_groups l2 F) tells a b v w m) is there

pub some_at : {tells : Bool} {a b : SinkView} {bits : List Bool} (F : Form) (l l2 : Layout) (bits2 : List Bool) → WroteSome tells a b (full_groups (in_groups l F) bits) → l ≡ l2 → bits ≡ bits2 → WroteSome tells a b (full_groups (in_groups l2 F) bits2)
some_at {tells} {a} {b} {bits} F l l2 bits2 part same is =
    let there = subst (λ (v : Layout). WroteSome tells a b (full_groups (in_groups v F) bits)) same part in
    subst (λ (v : List Bool). WroteSome tells a b (full_groups (in_groups l2 F) v)) is there

-- the first group that waits, by the layout and by the code
pub next_at : (F : Form) (l l2 : Layout) (w : List Bool) → Fits l2 F → l ≡ l2 → group_of (in_groups l F) (take (bits_in_group l) w) ≡ group_of (in_groups l2 F) (take (group_bits (in_groups l2 F)) w)
next_at F l l2 w fits same =
    ap (λ (v : Layout). group_of (in_groups v F) (take (bits_in_group v) w)) same
    ∙ ap (λ n. group_of (in_groups l2 F) (take n w)) (fits_bits F l2 fits)

pub closed_at : (F : Form) (l l2 : Layout) (w w2 : List Bool) → l ≡ l2 → w ≡ w2 → group_of (in_groups l F) (last_group (in_groups l F) w) ≡ group_of (in_groups l2 F) (last_group (in_groups l2 F) w2)
closed_at F l l2 w w2 same is =
    ap (λ (v : Layout). group_of (in_groups v F) (last_group (in_groups v F) w)) same
    ∙ ap (λ (v : List Bool). group_of (in_groups l2 F) (last_group (in_groups l2 F) v)) is
