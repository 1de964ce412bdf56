-- What the values of arguments stand for.
use Rattle.std.specs.Prelude.{◌≡◌, ◌↔◌, ◌⊎◌, ◌+◌, ◌≤◌, ◌==◌, ◌&&◌, not, if◌then◌else◌, ℕ, Bool, false, List, [], Option, None, Some, cond, codes, drop, length, map, option_map, take, true}
use Rattle.std.specs.Prelude.{IsSomeAnd, unwrap_or}
use Rattle.std.specs.Borrow.{Bor}
use Rattle.std.specs.List.{AllByRecursion, AllZip, after_first, before_first}
use Rattle.std.specs.Str.{bytes_eq}
use Rattle.std.specs.Str.Parse.{IsNumeral, digits_value, without_leading_plus}
use Rattle.clap.specs.Words.{Row, Text, all_of, first_of, found_of, rows_of}
use Rattle.clap.specs.declared.parser.matches.ArgMatches.{ArgMatches}
use Rattle.rrv_model.specs.Opening.{IsName}
use Rattle.command_line.specs.declared.request.DumpForm.{DumpForm}
use Rattle.command_line.specs.declared.request.DumpForm.TheVariants as forms
use Rattle.command_line.specs.declared.request.Every.{Every}
use Rattle.command_line.specs.declared.request.Every.TheVariants as everys
use Rattle.command_line.specs.declared.request.GuestOf.{GuestOf}
use Rattle.command_line.specs.declared.request.MemoryRange.{MemoryRange}
use Rattle.command_line.specs.declared.request.Place.{Place}
use Rattle.command_line.specs.declared.request.Place.TheVariants as places
use Rattle.command_line.specs.declared.request.Recording.{Recording}
use Rattle.command_line.specs.declared.request.Then.{Then}
use Rattle.command_line.specs.declared.request.Then.TheVariants as thens
use Rattle.command_line.specs.declared.request.Watched.{Watched}

-- ---- numbers

-- decimal digits, with a plus before them or none, that write the number n within the bounds
pub record IsNumberIn (least most : ℕ) (text : Text) (n : ℕ) : Type 0 where
  pub numeral : IsNumeral 10 (without_leading_plus text)
  pub value_is : n ≡ digits_value 10 (without_leading_plus text)
  pub least_is : least ≤ n
  pub most_is : n ≤ most

-- decimal digits that write a number of instructions, which 64 bits hold, or `end`
abbrev pub IsPlace : Text → Place → Type 0
IsPlace text (places.At n) = IsNumberIn 0 18446744073709551615 text n
IsPlace text places.End = text ≡ codes "end"

-- text without a `0x` at its front
abbrev pub without_0x : Text → Text
without_0x text = drop (cond (bytes_eq (take 2 text) (codes "0x")) 2 0) text

-- 1 to 8 hexadecimal digits, with `0x` before them or not, that write the number n
pub record IsAddress (text : Text) (n : ℕ) : Type 0 where
  pub numeral : IsNumeral 16 (without_0x text)
  pub few : length (without_0x text) ≤ 8
  pub value_is : n ≡ digits_value 16 (without_0x text)

-- ADDR:LEN, an address before the first colon, and after it a length from 1 to 65,536
pub record IsMemoryRange (text : Text) (range : MemoryRange) : Type 0 where
  pub address : IsAddress (before_first (λ c. c == 58) text) range.address
  pub length_is : IsNumberIn 1 65536 (after_first (λ c. c == 58) text) range.length

-- decimal digits that write a number of instructions, which 32 bits hold, or `auto`
abbrev pub IsEvery : Text → Every → Type 0
IsEvery text (everys.Instructions n) = IsNumberIn 0 4294967295 text n
IsEvery text everys.Auto = text ≡ codes "auto"

-- what follows the last of the choices
abbrev pub IsThen : Text → Then → Type 0
IsThen text thens.Turns = text ≡ codes "turns"
IsThen text thens.Nothing = text ≡ codes "none"

-- ---- values

-- what the parser found in words
abbrev pub rows_in : ArgMatches → List Row
rows_in values = rows_of (found_of values)

-- the argument has this text
abbrev pub HasText : List Row → Text → Text → Type 0
HasText rows name text = first_of name rows ≡ Some text

-- the option has this text, or isn't there
abbrev pub HasOption : List Row → Text → Option (Bor Text) → Type 0
HasOption rows name value = first_of name rows ≡ option_map (λ s. s.now) value

-- the argument has a text that writes this value
abbrev pub HasWritten : {V : Type 0} → (Text → V → Type 0) → List Row → Text → V → Type 0
HasWritten IsWritten rows name value = IsSomeAnd (first_of name rows) (λ text. IsWritten text value)

abbrev pub HasNumberIn : (least most : ℕ) → List Row → Text → ℕ → Type 0
HasNumberIn least most = HasWritten (IsNumberIn least most)

-- a number that 64 bits hold
abbrev pub HasNumber : List Row → Text → ℕ → Type 0
HasNumber = HasNumberIn 0 18446744073709551615

-- the option has such a number, or isn't there
abbrev pub HasNumberIf : List Row → Text → Option ℕ → Type 0
HasNumberIf rows name None = first_of name rows ≡ None
HasNumberIf rows name (Some n) = HasNumber rows name n

abbrev pub HasPlace : List Row → Text → Place → Type 0
HasPlace = HasWritten IsPlace

abbrev pub HasAddress : List Row → Text → ℕ → Type 0
HasAddress = HasWritten IsAddress

-- the texts of an option that may be given several times, in the order of the line; none where it isn't there
abbrev pub texts_of : Text → List Row → List Text
texts_of name rows = unwrap_or (all_of name rows) []

abbrev pub HasMemory : List Row → List MemoryRange → Type 0
HasMemory rows ranges = AllZip IsMemoryRange (texts_of (codes "memory") rows) ranges

abbrev pub HasEvery : List Row → Every → Type 0
HasEvery rows = HasWritten IsEvery rows (codes "every")

abbrev pub HasThen : List Row → Then → Type 0
HasThen rows = HasWritten IsThen rows (codes "then")

abbrev pub HasFlag : List Row → Text → Bool → Type 0
HasFlag rows name is_set = (is_set ≡ true) ↔ HasText rows name (codes "true")

-- ---- values of several arguments

pub record NamesGuest (rows : List Row) (guest : GuestOf) : Type 0 where
  pub store : HasText rows (codes "STORE") guest.store.now
  pub number : HasNumber rows (codes "GUEST") guest.number

-- none, one for all programs, or one for each
abbrev pub IsOnceOrEach : (count programs : ℕ) → Type 0
IsOnceOrEach count programs = (count ≡ 0) ⊎ ((count ≡ 1) ⊎ (count ≡ programs))

pub record HasChoices (rows : List Row) (files : List Text) : Type 0 where
  pub given : texts_of (codes "choices") rows ≡ files
  pub enough : IsOnceOrEach (length files) (length (texts_of (codes "ELF") rows))

-- a guest's name, of so many characters at most
abbrev pub IsNameWithin : (most : ℕ) → Text → Type 0
IsNameWithin most text = IsName text × (length text ≤ most)

-- how long a name may be: behind the only one of several guests there is room for their places, which have two digits at most
abbrev pub longest_name : (names programs : ℕ) → ℕ
longest_name names programs = if (names == 1) && not (programs == 1) then 30 else 32

pub record HasNames (rows : List Row) (names : List Text) : Type 0 where
  pub given : texts_of (codes "name") rows ≡ names
  pub enough : IsOnceOrEach (length names) (length (texts_of (codes "ELF") rows))
  pub each : AllByRecursion (IsNameWithin (longest_name (length names) (length (texts_of (codes "ELF") rows)))) names

pub record NamesRecording (rows : List Row) (r : Recording) : Type 0 where
  pub store : HasText rows (codes "STORE") r.store.now
  pub files : all_of (codes "ELF") rows ≡ Some (map (λ s. s.now) r.files.items)
  pub quantum : HasNumberIn 64 1048576 rows (codes "quantum") r.quantum
  pub every : HasEvery rows r.every
  pub input : HasOption rows (codes "input") r.input
  pub seed : HasOption rows (codes "seed") r.seed
  pub names : HasNames rows (map (λ s. s.now) r.names.items)
  pub choices : HasChoices rows (map (λ s. s.now) r.choices.items)
  pub then_is : HasThen rows r.then
  pub limit : HasNumberIf rows (codes "limit") r.limit
  pub fail : HasFlag rows (codes "fail") r.fail
  pub upgrade : HasFlag rows (codes "upgrade") r.upgrade
  pub progress : HasFlag rows (codes "progress") r.progress

-- the bytes whose changes are looked for: the four of a word if the flag is there, else one
pub record HasWatched (rows : List Row) (watched : Watched) : Type 0 where
  pub address : HasAddress rows (codes "ADDR") watched.address
  pub is_word : Bool
  pub word : HasFlag rows (codes "word") is_word
  pub count : watched.count ≡ (if is_word then 4 else 1)
  pub within : watched.address + watched.count ≤ 4294967296

-- one flag of two is there, or none
abbrev pub HasForm : List Row → DumpForm → Type 0
HasForm rows forms.Lines = HasFlag rows (codes "places") false × HasFlag rows (codes "trace-events") false
HasForm rows forms.Places = HasFlag rows (codes "places") true × HasFlag rows (codes "trace-events") false
HasForm rows forms.TraceEvents = HasFlag rows (codes "places") false × HasFlag rows (codes "trace-events") true
