-- number_of        the number of a status
-- cause_line_of    the line on report of a cause that refuses a descriptor
-- line_of          the line on report of a status; nothing, where it has none
use Rattle.std.specs.Prelude.{ℕ, List, [], codes}
use Rattle.ag_texts.specs.Lines.{plain_line_of, number_line_of, beyond_line_of}
use Rattle.code_descriptor.specs.declared.KeyName.TheVariants as key
use Rattle.code_descriptor.specs.declared.DescCause.{DescCause}
use Rattle.code_descriptor.specs.declared.DescCause.TheVariants as cause
use Rattle.agcode_top.specs.declared.status.Status.{Status}
use Rattle.agcode_top.specs.declared.status.Status.TheVariants.{Done, NotCodeword, Beyond, Ragged, Framing}
use Rattle.agcode_top.specs.declared.status.Status.TheVariants.{TableRefused, WordLength, Usage, Descriptor}
use Rattle.agcode_top.specs.declared.status.Status.TheVariants.{Salvaged, BadMark, NoCodeword, Ambiguous, NoDesign}
use Rattle.agcode_top.specs.declared.status.Status.TheVariants.{TooLong, DescFault, InputFault, OutFault}
use Rattle.agcode_top.specs.declared.status.Status.TheVariants.{ReportFault, NoMemory}

abbrev pub number_of : Status → ℕ
number_of Done = 0
number_of NotCodeword = 1
number_of (Beyond group word) = 2
number_of (Ragged extra) = 3
number_of Framing = 4
number_of (TableRefused line) = 5
number_of (WordLength taken) = 6
number_of Salvaged = 7
number_of (BadMark place) = 8
number_of NoCodeword = 9
number_of (Ambiguous place) = 10
number_of (NoDesign most) = 11
number_of Usage = 64
number_of (Descriptor cause) = 65
number_of (TooLong taken) = 66
number_of DescFault = 70
number_of InputFault = 71
number_of OutFault = 72
number_of ReportFault = 73
number_of NoMemory = 74

abbrev pub cause_line_of : DescCause → List ℕ
cause_line_of cause.TooLarge = plain_line_of (codes "descriptor: too large")
cause_line_of cause.NotToml = plain_line_of (codes "descriptor: not toml")
cause_line_of (cause.BadKey key.Bits) = plain_line_of (codes "descriptor: key bits")
cause_line_of (cause.BadKey key.Modulus) = plain_line_of (codes "descriptor: key modulus")
cause_line_of (cause.BadKey key.Space) = plain_line_of (codes "descriptor: key space")
cause_line_of (cause.BadKey key.A) = plain_line_of (codes "descriptor: key a")
cause_line_of (cause.BadKey key.B) = plain_line_of (codes "descriptor: key b")
cause_line_of (cause.BadKey key.Terms) = plain_line_of (codes "descriptor: key terms")
cause_line_of (cause.BadKey key.Points) = plain_line_of (codes "descriptor: key points")
cause_line_of (cause.BadKey key.Weight) = plain_line_of (codes "descriptor: key weight")
cause_line_of (cause.BadKey key.Improved) = plain_line_of (codes "descriptor: key improved")
cause_line_of (cause.BadKey key.Layout) = plain_line_of (codes "descriptor: key layout")
cause_line_of (cause.BadKey key.Depth) = plain_line_of (codes "descriptor: key depth")
cause_line_of (cause.BadKey key.Unknown) = plain_line_of (codes "descriptor: key unknown")
cause_line_of cause.BadField = plain_line_of (codes "descriptor: field")
cause_line_of cause.BadSpace = plain_line_of (codes "descriptor: space")
cause_line_of cause.BadDegrees = plain_line_of (codes "descriptor: degrees")
cause_line_of (cause.BadTerm index) = number_line_of (codes "descriptor: term") index
cause_line_of cause.MissingLead = plain_line_of (codes "descriptor: lead")
cause_line_of (cause.BadPoint index) = number_line_of (codes "descriptor: point") index
cause_line_of cause.BadWeight = plain_line_of (codes "descriptor: weight")
cause_line_of cause.BadImproved = plain_line_of (codes "descriptor: improved")
cause_line_of cause.BadLayout = plain_line_of (codes "descriptor: layout")
cause_line_of cause.BadDepth = plain_line_of (codes "descriptor: depth")
cause_line_of cause.NoPoints = plain_line_of (codes "descriptor: no points")
cause_line_of cause.NothingFree = plain_line_of (codes "descriptor: nothing free")

abbrev pub line_of : Status → List ℕ
line_of Done = []
line_of NotCodeword = []
line_of (Beyond group word) = beyond_line_of group word
line_of (Ragged extra) = number_line_of (codes "ragged") extra
line_of Framing = plain_line_of (codes "framing")
line_of (TableRefused line) = number_line_of (codes "table refused at line") line
line_of (WordLength taken) = plain_line_of (codes "word length")
line_of Salvaged = []
line_of (BadMark place) = number_line_of (codes "mark") place
line_of NoCodeword = plain_line_of (codes "no codeword")
line_of (Ambiguous place) = number_line_of (codes "ambiguous") place
line_of (NoDesign most) = number_line_of (codes "no design most") most
line_of Usage = plain_line_of (codes "usage: agcode COMMAND [OPTIONS] DESC")
line_of (Descriptor cause) = cause_line_of cause
line_of (TooLong taken) = plain_line_of (codes "too long")
line_of DescFault = plain_line_of (codes "descriptor not read")
line_of InputFault = plain_line_of (codes "input not read")
line_of OutFault = plain_line_of (codes "output not written")
line_of ReportFault = []
line_of NoMemory = plain_line_of (codes "no memory")
