-- What a line of `ask` asks: its name, which ends at the first space, and what follows that space.
use Rattle.std.specs.Prelude.{◌≡◌, ◌≢◌, ◌==◌, ℕ, [], codes, IfOk, OnErr, Result}
use Rattle.std.specs.List.{after_first, before_first}
use Rattle.clap.specs.Words.{Text}
use Rattle.command_line.specs.declared.asked.Asked.{Asked}
use Rattle.command_line.specs.declared.asked.Asked.TheVariants as lines
use Rattle.command_line.specs.declared.asked.BadLine.{BadLine}
use Rattle.command_line.specs.declared.asked.BadLine.TheVariants as reasons
use Rattle.command_line.specs.declared.asked.Inquiry.{Inquiry}
use Rattle.command_line.specs.declared.asked.Inquiry.TheVariants as inquiries
use Rattle.command_line.specs.Values.{IsAddress, IsMemoryRange, IsNumberIn, IsPlace}
use Rattle.command_line.specs.declared.unread.Wanted.{Wanted}

-- What is read is as a text has it, and if it is refused, the text has nothing so.
pub record ReadsLine {T E : Type 0} (IsHad : T → Type 0) (result : Result T E) : Type 0 where
  pub found : IfOk result IsHad
  pub none : OnErr result ((value : T) → IsHad value → ⊥)

-- why a text is refused as the value of a name: the name has none, or this one, which isn't what is wanted
abbrev pub IsUnlike : (name value : Text) → Wanted → BadLine → Type 0
IsUnlike name value wanted (reasons.Missing told) = (told.now ≡ name) × (value ≡ [])
IsUnlike name value wanted (reasons.Bad told text what) = (told.now ≡ name) × (text.now ≡ value) × (what ≡ wanted) × (value ≢ [])
IsUnlike name value wanted _ = ⊥

-- a number that 64 bits hold
abbrev pub IsNumber : Text → ℕ → Type 0
IsNumber = IsNumberIn 0 18446744073709551615

-- what asks of a recording is called so
abbrev pub inquiry_name : Inquiry → Text
inquiry_name (inquiries.At place) = codes "at"
inquiry_name (inquiries.Back count) = codes "back"
inquiry_name (inquiries.Forward count) = codes "forward"
inquiry_name (inquiries.Last address) = codes "last"
inquiry_name (inquiries.Next address) = codes "next"
inquiry_name (inquiries.Memory range) = codes "memory"
inquiry_name inquiries.Threads = codes "threads"
inquiry_name inquiries.Where = codes "where"

-- and has this value
abbrev pub HasInquiryValue : Inquiry → Text → Type 0
HasInquiryValue (inquiries.At place) value = IsPlace value place
HasInquiryValue (inquiries.Back count) value = IsNumber value count
HasInquiryValue (inquiries.Forward count) value = IsNumber value count
HasInquiryValue (inquiries.Last address) value = IsAddress value address
HasInquiryValue (inquiries.Next address) value = IsAddress value address
HasInquiryValue (inquiries.Memory range) value = IsMemoryRange value range
HasInquiryValue inquiries.Threads value = value ≡ []
HasInquiryValue inquiries.Where value = value ≡ []

abbrev pub IsInquiry : (name value : Text) → Inquiry → Type 0
IsInquiry name value inquiry = (name ≡ inquiry_name inquiry) × HasInquiryValue inquiry value

-- a name and a value ask this
abbrev pub IsAskedBy : (name value : Text) → Asked → Type 0
IsAskedBy name value (lines.Of inquiry) = IsInquiry name value inquiry
IsAskedBy name value (lines.Core file) = (name ≡ codes "core") × (file.now ≡ value) × (value ≢ [])
IsAskedBy name value lines.Choices = (name ≡ codes "choices") × (value ≡ [])
IsAskedBy name value lines.Quiet = (name ≡ codes "quiet") × (value ≡ [])
IsAskedBy name value lines.Full = (name ≡ codes "full") × (value ≡ [])
IsAskedBy name value lines.Help = (name ≡ codes "help") × (value ≡ [])
IsAskedBy name value lines.Quit = (name ≡ codes "quit") × (value ≡ [])

abbrev pub IsAsked : Text → Asked → Type 0
IsAsked line = IsAskedBy (before_first (λ c. c == 32) line) (after_first (λ c. c == 32) line)
