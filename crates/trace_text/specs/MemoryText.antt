-- The printed bytes of a memory, 16 a line, as `hexdump -C` prints those of a file. Each line ends with a newline.
use Rattle.std.specs.Prelude.{ℕ, ◌+◌, ◌-◌, ◌*◌, ◌/◌, ◌%◌, ◌==◌, ◌&&◌, nat_le, nat_lt, if◌then◌else◌, List, ◌++◌, flat_map, min, codes, Option, Some, None}
use Rattle.std.specs.Char.{encode_utf8}
use Rattle.std.specs.List.{range_with_len}
use Rattle.rrv_model.specs.Memory.{Memory, Cell}
use Rattle.trace_text.specs.Lines.{word_text}
use Rattle.trace_text.specs.States.{byte_text, newline}

-- what a function gives for 0, 1, 2 and so on, n of them, one after the other
unfoldable pub each_below : (ℕ → List ℕ) → ℕ → List ℕ
each_below text n = flat_map text (range_with_len 0 n)

-- a byte in two digits, or two dashes if none is mapped
abbrev pub cell_text : Option Cell → List ℕ
cell_text None = codes "--"
cell_text (Some c) = byte_text c.byte

-- a space, and one more before the first and the ninth byte of a line
abbrev pub gap : ℕ → List ℕ
gap k = if k % 8 == 0 then codes "  " else codes " "

-- byte k of a line of so many bytes from a on, and blanks past its end
unfoldable pub column : Memory → (a count k : ℕ) → List ℕ
column m a count k = gap k ++ (if nat_lt k count then cell_text (m (a + k)) else codes "  ")

-- the character that a byte is in ASCII if it prints one, else a dot
abbrev pub character : Option Cell → ℕ
character None = 46
character (Some c) = if nat_le 32 c.byte && nat_lt c.byte 127 then c.byte else 46

-- the address, the bytes in 16 columns, and their characters between bars
unfoldable pub memory_line : Memory → (a count : ℕ) → List ℕ
memory_line m a count =
    word_text a ++ (each_below (column m a count) 16 ++ (codes "  |"
    ++ (each_below (λ k. encode_utf8 (character (m (a + k)))) count ++ (codes "|" ++ newline))))

-- line k of so many bytes from a on
abbrev pub line_from : Memory → (a length k : ℕ) → List ℕ
line_from m a length k = memory_line m (a + 16 * k) (min 16 (length - 16 * k))

-- so many bytes from a on; the last line has what is left
unfoldable pub memory_lines : Memory → (a length : ℕ) → List ℕ
memory_lines m a length = each_below (line_from m a length) ((length + 15) / 16)
