-- needs              what a command needs of a descriptor: its space, the basis at its points, or its code
-- has_points         whether a list of points is not empty
-- RefusesParts       a command refuses parts that a text describes, for this cause
-- Refuses            a command refuses the text of a descriptor, for this cause
-- Accepts            a command accepts the text of a descriptor, which describes these parts
-- IsInputTold        the bytes of the input are told, where a command reads them
-- IsNoWord           an input is longer or shorter than a word; what was taken of it
-- HasParameters      a text is the parameters of the code of a descriptor, on a curve with the normal form of y^a
-- AcceptsTable       an input is the table of the order bound, and a text tells the bound
-- RefusesTable       an input is not that table, and this is the first line at which a check fails
-- IsNearWord         a codeword that differs from an input at no more positions than the radius
-- IsFar              there is none
-- HasVotes           a text is the ledger of the error that leads an input to the codeword near it; on each line more
--                    candidates are right than wrong
-- point_text         the line of a point of so many coordinates
-- points_text        all points of a space, a line each
-- SaysMember         what member says of an input: its status and its text on out
-- SaysCheck          the same of check
-- SaysVotes          the same of votes
-- SaysOnOut          what a command says of the words, the parts of the descriptor and the bytes of the input: its status
--                    and its text on out
-- Says               .. and what it tells on report before the line of the status
-- most_taken         how many bytes of its input a command may take
-- TakesAll           all of the input was taken, or nothing, where the command does not read it
-- TakesFor           what was taken of the input by a command that says this status
-- PassesAt           where a limit was passed and no read failed, all of the input was taken, but at most so much
-- Saying             a command says this, where the bytes of the input are told; and what was taken of the input
-- IsNearCode         an input of n bytes that a codeword is near
use Rattle.std.specs.Prelude.{◌≡◌, ◌≢◌, ℕ, ◌+◌, ◌*◌, ◌<◌, ◌≤◌, min, Bool, true, false, List, [], length, codes, IsTrue}
use Rattle.std.specs.Prelude.{◌⊎◌, ◌==◌, if◌then◌else◌, Option, All}
use Rattle.std.specs.List.{flat_map}
use Rattle.ag_texts.specs.Lines.{plain_line_of, number_line_of}
use Rattle.ag_texts.specs.Lines.{point1_line_of, point_line_of, point3_line_of}
use Rattle.stored_form.specs.Form.{distance}
use Rattle.block_theory.specs.Checks.{IsInCode}
use Rattle.order_theory.specs.Codes.{low_bits, list_sum}
use Rattle.order_domain.specs.declared.Point.{Point}
use Rattle.cab_curve.specs.declared.normal.NormTerm.{NormTerm}
use Rattle.order_bound.specs.TableChecks.{IsRefused as IsRefusedText}
use Rattle.command_words.specs.declared.words.Command.{Command}
use Rattle.command_words.specs.declared.words.Command.TheVariants.{Member, Points, Params, Bound, Check}
use Rattle.command_words.specs.declared.words.Command.TheVariants.{Encode, Decode, Votes, Trial, Erase, Design}
use Rattle.command_words.specs.declared.words.Words.{Words}
use Rattle.code_descriptor.specs.declared.DescCause.{DescCause}
use Rattle.code_descriptor.specs.declared.DescCause.TheVariants.{NoPoints, NothingFree}
use Rattle.code_descriptor.specs.Parts.{Parts, coordinates, points_of}
use Rattle.code_descriptor.specs.Meaning.{IsRefusedFor, Describes}
use Rattle.descriptor_code.specs.Plain.{checks, bound, radius, plain_form, IsFull}
use Rattle.descriptor_code.specs.Plain.{labels, checked_labels, IsRelation}
use Rattle.descriptor_code.specs.Tables.{ledger, IsTable}
use Rattle.descriptor_code.specs.Codes.{domain_of}
use Rattle.code_texts.specs.Texts.{params_text_of, votes_text_of}
use Rattle.code_trial.specs.Trials.{trial_text_of}
use Rattle.vote_core.specs.declared.ledger.VoteLine.{VoteLine}
use Rattle.stored_form.specs.Frame.{group_bytes}
use Rattle.stream_codec.specs.Taking.{most_taken as most_of_pieces}
use Rattle.stream_codec.specs.declared.limits.TheConstants.{MOST_BYTES, PIECE}
use Rattle.agcode_top.specs.Calls.{SourceCall, IsUntaken, IsEnded, TakesJust, TakesAtMost, ReadFailed, ReadsWell}
use Rattle.agcode_top.specs.Statuses.{reads_input, TellsMore, has_text, is_passing, CanSay}
use Rattle.agcode_top.specs.Erase.{SaysErase}
use Rattle.agcode_top.specs.Design.{SaysDesign}
use Rattle.agcode_top.specs.declared.needs.Needs.{Needs}
use Rattle.agcode_top.specs.declared.needs.Needs.TheVariants as need
use Rattle.agcode_top.specs.declared.limit.TheConstants.{MOST_TABLE}
use Rattle.agcode_top.specs.declared.status.Status.{Status}
use Rattle.agcode_top.specs.declared.status.Status.TheVariants.{Done, NotCodeword, WordLength, Beyond}
use Rattle.agcode_top.specs.declared.status.Status.TheVariants.{TableRefused, TooLong}

abbrev pub needs : Command → Needs
needs Points = need.Space
needs Design = need.Basis
needs _ = need.Code

abbrev pub has_points : List Point → Bool
has_points [] = false
has_points _ = true

abbrev pub RefusesParts : Command → Parts → DescCause → Type 0
RefusesParts command p NoPoints = (needs command ≢ need.Space) × (has_points p.points ≡ false)
RefusesParts command p NothingFree = (needs command ≡ need.Code) × (has_points p.points ≡ true) × IsFull p
RefusesParts command p _ = ⊥

abbrev pub Refuses : Command → List ℕ → DescCause → Type 0
Refuses command text cause =
    IsRefusedFor text cause ⊎ ((p : Parts) × Describes text p × RefusesParts command p cause)

pub record Accepts (command : Command) (text : List ℕ) (p : Parts) : Type 0 where
  pub described : Describes text p
  pub accepted : (cause : DescCause) → RefusesParts command p cause → ⊥

abbrev pub IsInputTold : Command → Bool → Type 0
IsInputTold command tells = reads_input command ≡ true → IsTrue tells

pub record IsNoWord (p : Parts) (input : List ℕ) (taken : ℕ) : Type 0 where
  pub other_length : length input ≢ length p.points
  pub taken_is : taken ≡ min (length input) (length p.points + 1)

abbrev pub point_text : ℕ → Point → List ℕ
point_text coordinates q =
    if coordinates == 1 then point1_line_of q.x
    else if coordinates == 2 then point_line_of q.x q.y
    else point3_line_of q.x q.y q.z

abbrev pub points_text : Parts → List ℕ
points_text p = flat_map (point_text (coordinates p.space)) (points_of p.bits p.modulus p.space)

pub record HasParameters (p : Parts) (text : List ℕ) : Type 0 where
  pub relation : Option (List NormTerm)
  pub is_relation : IsRelation p relation
  pub text_is : text ≡ params_text_of
      (length p.points) (labels p) (checked_labels p) (bound p) (radius p) relation

pub record AcceptsTable (p : Parts) (input text : List ℕ) : Type 0 where
  pub is_table : IsTable p input
  pub text_is : text ≡ number_line_of (codes "accepted bound") (bound p)

pub record RefusesTable (p : Parts) (input : List ℕ) (line : ℕ) : Type 0 where
  pub not_table : IsTable p input → ⊥
  pub refused : IsRefusedText (domain_of p) p.modulus p.points p.rule input line

pub record IsNearWord (p : Parts) (input word : List ℕ) : Type 0 where
  pub in_code : IsInCode (checks p) word
  pub close : distance input word ≤ radius p

pub record HasVotes (p : Parts) (input text : List ℕ) : Type 0 where
  pub word : List ℕ
  pub near : IsNearWord p input word
  pub lines : List VoteLine
  pub lines_are : lines ≡ ledger p (list_sum (low_bits p.bits input) word)
  pub right_wins : All (λ line. line.wrong < line.right) lines
  pub text_is : text ≡ votes_text_of lines

abbrev pub IsFar : Parts → List ℕ → Type 0
IsFar p input = (word : List ℕ) → IsNearWord p input word → ⊥

pub data SaysMember (p : Parts) (input : List ℕ) (status : Status) (text : List ℕ) : Type 0 where
  is_in_code : status ≡ Done → IsInCode (checks p) input →
      text ≡ plain_line_of (codes "codeword") → SaysMember p input status text
  not_in_code : status ≡ NotCodeword → length input ≡ length p.points → (IsInCode (checks p) input → ⊥) →
      text ≡ plain_line_of (codes "not a codeword") → SaysMember p input status text
  not_long : (taken : ℕ) → status ≡ WordLength taken → IsNoWord p input taken → text ≡ [] →
      SaysMember p input status text

pub data SaysCheck (p : Parts) (input : List ℕ) (status : Status) (text : List ℕ) : Type 0 where
  is_table : status ≡ Done → length input ≤ MOST_TABLE → AcceptsTable p input text → SaysCheck p input status text
  no_table : (line : ℕ) → status ≡ TableRefused line → length input ≤ MOST_TABLE → RefusesTable p input line →
      text ≡ [] → SaysCheck p input status text
  too_long : (taken : ℕ) → status ≡ TooLong taken → MOST_TABLE < taken → taken ≤ length input → text ≡ [] →
      SaysCheck p input status text

pub data SaysVotes (p : Parts) (input : List ℕ) (status : Status) (text : List ℕ) : Type 0 where
  is_near : status ≡ Done → length input ≡ length p.points → HasVotes p input text → SaysVotes p input status text
  is_far : status ≡ Beyond 0 0 → length input ≡ length p.points → IsFar p input → text ≡ [] →
      SaysVotes p input status text
  not_n_long : (taken : ℕ) → status ≡ WordLength taken → IsNoWord p input taken → text ≡ [] →
      SaysVotes p input status text

abbrev pub SaysOnOut : Words → Command → Parts → List ℕ → Status → List ℕ → Type 0
SaysOnOut asked Member p input status text = SaysMember p input status text
SaysOnOut asked Points p input status text = (status ≡ Done) × (text ≡ points_text p)
SaysOnOut asked Params p input status text = (status ≡ Done) × HasParameters p text
SaysOnOut asked Bound p input status text = (status ≡ Done) × IsTable p text
SaysOnOut asked Check p input status text = SaysCheck p input status text
SaysOnOut asked Votes p input status text = SaysVotes p input status text
SaysOnOut asked Trial p input status text =
    (status ≡ Done) × (text ≡ trial_text_of (plain_form p) (radius p) asked.seed asked.bytes)
SaysOnOut asked Design p input status text = SaysDesign p asked.want status text
SaysOnOut asked _ p input status text = ⊥

abbrev pub Says : Words → Command → Parts → List ℕ → Status → List ℕ → List ℕ → Type 0
Says asked Erase p input status text told = SaysErase p input status text told
Says asked command p input status text told = SaysOnOut asked command p input status text × (told ≡ [])

abbrev pub most_taken : Command → Parts → ℕ
most_taken Member p = length p.points + 1
most_taken Check p = MOST_TABLE + PIECE
most_taken Encode p = MOST_BYTES + PIECE
most_taken Decode p = most_of_pieces (group_bytes (plain_form p)) MOST_BYTES
most_taken Votes p = length p.points + 1
most_taken Erase p = 2 * length p.points + 1
most_taken _ p = 0

abbrev pub TakesAll : (reads : Bool) → SourceCall → Type 0
TakesAll true input = IsEnded input
TakesAll false input = IsUntaken input

abbrev pub TakesFor : Command → Status → SourceCall → Type 0
TakesFor command (WordLength taken) input = TakesJust taken input
TakesFor command (TooLong taken) input = TakesJust taken input
TakesFor command _ input = TakesAll (reads_input command) input

abbrev pub PassesAt : ℕ → SourceCall → Status → Type 0
PassesAt most input (TooLong taken) =
    IsTrue input.tells → (ReadFailed input → ⊥) → taken ≡ min (length input.before.left) most
PassesAt most input _ = Unit {0}

pub record Saying (asked : Words) (command : Command) (p : Parts) (input : SourceCall) (status : Status)
    (text told : List ℕ) : Type 0 where
  pub can : CanSay status command
  pub says : IsInputTold command input.tells → Says asked command p input.before.left status text told
  pub bare : has_text status ≡ false → text ≡ []
  pub plain : (TellsMore command status → ⊥) → told ≡ []
  pub most : TakesAtMost (most_taken command p) input
  pub taken : TakesFor command status input
  pub passes : PassesAt (most_taken command p) input status
  pub read_well : is_passing status ≡ false → ReadsWell input

pub record IsNearCode (p : Parts) (input : List ℕ) : Type 0 where
  pub n_long : length input ≡ length p.points
  pub word : List ℕ
  pub near : IsNearWord p input word
