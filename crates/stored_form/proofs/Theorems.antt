-- the laws of specs/Laws, each from its lemmas
use Rattle.std.proofs.Common.{◌+◌, ◌*◌, ◌/◌, ℕ, ◌%◌, ◌<◌, ◌≡◌, ◌⊎◌, length, inl, inr, sym, ap, ◌∙◌, arith}
use Rattle.stored_form.specs.Frame.{group_bytes, unframed}
use Rattle.stored_form.specs.Reading.{Ragged, blocks}
use Rattle.stored_form.specs.Laws.{FrameLaw, FillLaw, FillBitsLaw, ValuesLaw, GroupLaw, ImageLaw, FileLaw, ChangeLaw, ListLaw, BeyondLaw, RaggedLaw, FramingLaw, OutLaw, SalvageLaw, LostLaw}
use Rattle.stored_form.proofs.FrameLemmas.{fill_whole, file_bits_iff, framed_from_unframed, unframed-framed, fill_fewest}
use Rattle.stored_form.proofs.GroupLemmas.{stored_blocks-stored_group, stored_blocks-texts, stored_group-stored_blocks}
use Rattle.stored_form.proofs.Lists.{times_mod}
use Rattle.stored_form.proofs.SymbolLemmas.{byte_fill_whole, byte_fill_fewest, bits-packed_bytes, packed_symbols-front, stored_symbols_below}
use Rattle.stored_form.proofs.ReadingLemmas.{reading-image, changes-image, changes_near}
use Rattle.stored_form.proofs.ConverseLemmas.{reading_iff, reading_beyond_iff, ragged_from_reading, reading_ragged_from, framing_from_reading, reading_framing_from}
use Rattle.stored_form.proofs.DifferenceLemmas.{differences_iff}
use Rattle.stored_form.proofs.OrderLemmas.{differences_increase}
use Rattle.stored_form.proofs.DecoderLemmas.{length-whole_bytes, whole_bytes_front}
use Rattle.stored_form.proofs.SalvageLemmas.{reading_none_lost, out_none_lost, lines_none_lost, lost_in-blocks}

pub frame_law : FrameLaw
frame_law F bits sound whole = record {
  unframes = λ x. (framed_from_unframed F bits x sound whole, λ (file, e). ap (unframed F) e ∙ unframed-framed F x sound file);
  last_one = file_bits_iff F bits sound whole;
}

pub fill_law : FillLaw
fill_law F count sound = (fill_whole F count sound, λ zeros whole. fill_fewest F count zeros sound whole)

pub fill_bits_law : FillBitsLaw
fill_bits_law width symbols = record {
  whole = ap (λ l. l % 8) (byte_fill_whole (length symbols * width)) ∙ times_mod ((length symbols * width + 7) / 8) 8 (omega arith);
  fewest = byte_fill_fewest (length symbols * width);
  after = bits-packed_bytes width symbols;
  any = λ bytes rest fit e. packed_symbols-front width symbols bytes rest fit e;
}

pub values_law : ValuesLaw
values_law packed width count bytes fit = stored_symbols_below packed width count bytes fit

pub group_law : GroupLaw
group_law packed width n depth = record {
  back = stored_blocks-stored_group packed width n depth;
  texts = stored_blocks-texts packed width n depth;
  bytes = stored_group-stored_blocks packed width n depth;
}

pub image_law : ImageLaw
image_law F x sound file = (reading-image F x sound file, changes-image F x sound file)

pub file_law : FileLaw
file_law F x z sound = reading_iff F x z sound

pub change_law : ChangeLaw
change_law F x z sound file close = changes_near F x z sound file close

pub list_law : ListLaw
list_law F ys cs some = record { just = λ change. differences_iff F ys cs change some; rise = differences_increase F ys cs }

pub beyond_law : BeyondLaw
beyond_law F z g c sound = reading_beyond_iff F z g c sound

at_extra : (long extra rest : ℕ) → extra ≡ rest → (long ≡ 0) ⊎ (0 < extra) → (long ≡ 0) ⊎ (0 < rest)
at_extra long extra rest e (inl none) = inl none
at_extra long extra rest e (inr some) = inr (omega arith)

pub ragged_law : RaggedLaw
ragged_law F z extra = (ragged_from_reading F z extra, λ (all, e, some). reading_ragged_from F z all (at_extra (length z) extra (length z % group_bytes F) e some) ∙ ap Ragged (sym e))

pub framing_law : FramingLaw
framing_law F z sound = (framing_from_reading F z sound, λ (all, some, whole, none). reading_framing_from F z sound all some whole none)

pub out_law : OutLaw
out_law F z h sound below = record { long = length-whole_bytes F z h sound below; front = λ g less. whole_bytes_front F z g h less }

pub lost_law : LostLaw
lost_law F z = lost_in-blocks F (blocks F z)

pub salvage_law : SalvageLaw
salvage_law F z none = record { reads = reading_none_lost F z none; writes = out_none_lost F z none; tells = lines_none_lost F z none }
