-- Worked examples of calls, computed.
use Rattle.std.proofs.Common.{◌≡◌, ℕ, [], ◌∷◌, ◌++◌, refl, None, replicate}
use Rattle.rrv_model.specs.declared.machine.Thread.{Thread}
use Rattle.rrv_model.specs.declared.machine.Version.TheVariants.{One}
use Rattle.rrv_model.specs.State.{State}
use Rattle.rrv_model.specs.CallRows.{fails, only_returns, futex_row, clone_row, write_row, read_row, munmap_row, syscall_of, row_of}
use Rattle.rrv_model.specs.Opening.{opening_state}
use Rattle.rrv_model.specs.Elf.{headers_from}
use Rattle.rrv_model.proofs.Examples.{elf_e}

-- a thread with these arguments
abbrev called_with : ℕ → ℕ → ℕ → ℕ → ℕ → Thread
called_with a b c d number = record {
  regs = record { pc = 0x10060; registers = replicate 10 0 ++ (a ∷ b ∷ c ∷ d ∷ 0 ∷ 0 ∷ 0 ∷ number ∷ []) ++ replicate 14 0 };
  wait = None;
  clear = 0;
}

_futex-misaligned : (s : State) → futex_row 1 s (called_with 0x11002 0 0 0 98) ≡ fails 22
_futex-misaligned s = refl

_futex-operation : (s : State) → futex_row 1 s (called_with 0x11000 9 0 0 98) ≡ fails 38
_futex-operation s = refl

_futex-timeout : (s : State) → futex_row 1 (record s { version = One }) (called_with 0x11000 128 0 1 98) ≡ fails 38
_futex-timeout s = refl

_clone-flags : (s : State) → clone_row s (called_with 0x7D0E00 0 0 0 220) ≡ fails 22
_clone-flags s = refl

_write-descriptor : (s : State) → write_row s (called_with 3 0x10000 5 0 64) ≡ fails 9
_write-descriptor s = refl

_read-nothing : (s : State) → read_row s (called_with 0 0x10000 0 0 63) ≡ only_returns 0
_read-nothing s = refl

_other : (s : State) (t : Thread) → row_of (syscall_of 1000) 1 s t ≡ fails 38
unfolding row_of
_other s t = refl

_munmap-nothing : (s : State) → munmap_row s (called_with 0x6FFFF000 0 0 0 215) ≡ fails 22
_munmap-nothing s = refl

-- the break of the opening state
_break : (opening_state One elf_e (97 ∷ []) (replicate 16 0)).program_break ≡ 0x11000
unfolding headers_from
_break = refl
