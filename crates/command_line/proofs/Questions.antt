-- What is asked by one name is asked by no other.
use Rattle.std.proofs.Common.{◌≡◌, ◌∙◌, [], false, refl, sym, true≢false}
use Rattle.std.specs.Prelude.{codes}
use Rattle.std.specs.Borrow.{Bor}
use Rattle.std.specs.Str.{bytes_eq}
use Rattle.std.proofs.lemmas.Slice.Eq.{bytes_eq-Decides}
use Rattle.clap.specs.Words.{Text}
use Rattle.command_line.specs.Asked.{IsAskedBy, IsInquiry, inquiry_name}
use Rattle.command_line.specs.Values.{IsMemoryRange}
use Rattle.command_line.specs.declared.asked.Asked.{Asked}
use Rattle.command_line.specs.declared.asked.Asked.TheVariants as asks
use Rattle.command_line.specs.declared.asked.Inquiry.{Inquiry}
use Rattle.command_line.specs.declared.asked.Inquiry.TheVariants as inquiries
use Rattle.command_line.specs.declared.request.MemoryRange.{MemoryRange}

pub differ : (one other : Text) → bytes_eq one other ≡ false → one ≡ other → ⊥
differ one other not e = true≢false (sym ((bytes_eq-Decides one other).1 e) ∙ not)

pub no_memory : (name value : Text) → name ≡ codes "memory" → ((r : MemoryRange) → IsMemoryRange value r → ⊥) → (i : Inquiry) →
    IsInquiry name value i → ⊥
no_memory name value is none (inquiries.At p) h = differ (codes "memory") (codes "at") refl (sym is ∙ h.0)
no_memory name value is none (inquiries.Back n) h = differ (codes "memory") (codes "back") refl (sym is ∙ h.0)
no_memory name value is none (inquiries.Forward n) h = differ (codes "memory") (codes "forward") refl (sym is ∙ h.0)
no_memory name value is none (inquiries.Last a) h = differ (codes "memory") (codes "last") refl (sym is ∙ h.0)
no_memory name value is none (inquiries.Next a) h = differ (codes "memory") (codes "next") refl (sym is ∙ h.0)
no_memory name value is none (inquiries.Memory r) h = none r h.1
no_memory name value is none inquiries.Threads h = differ (codes "memory") (codes "threads") refl (sym is ∙ h.0)
no_memory name value is none inquiries.Where h = differ (codes "memory") (codes "where") refl (sym is ∙ h.0)

pub no_threads : (name value : Text) → name ≡ codes "threads" → (value ≡ [] → ⊥) → (i : Inquiry) → IsInquiry name value i → ⊥
no_threads name value is none (inquiries.At p) h = differ (codes "threads") (codes "at") refl (sym is ∙ h.0)
no_threads name value is none (inquiries.Back n) h = differ (codes "threads") (codes "back") refl (sym is ∙ h.0)
no_threads name value is none (inquiries.Forward n) h = differ (codes "threads") (codes "forward") refl (sym is ∙ h.0)
no_threads name value is none (inquiries.Last a) h = differ (codes "threads") (codes "last") refl (sym is ∙ h.0)
no_threads name value is none (inquiries.Next a) h = differ (codes "threads") (codes "next") refl (sym is ∙ h.0)
no_threads name value is none (inquiries.Memory r) h = differ (codes "threads") (codes "memory") refl (sym is ∙ h.0)
no_threads name value is none inquiries.Threads h = none h.1
no_threads name value is none inquiries.Where h = differ (codes "threads") (codes "where") refl (sym is ∙ h.0)

pub no_where : (name value : Text) → name ≡ codes "where" → (value ≡ [] → ⊥) → (i : Inquiry) → IsInquiry name value i → ⊥
no_where name value is none (inquiries.At p) h = differ (codes "where") (codes "at") refl (sym is ∙ h.0)
no_where name value is none (inquiries.Back n) h = differ (codes "where") (codes "back") refl (sym is ∙ h.0)
no_where name value is none (inquiries.Forward n) h = differ (codes "where") (codes "forward") refl (sym is ∙ h.0)
no_where name value is none (inquiries.Last a) h = differ (codes "where") (codes "last") refl (sym is ∙ h.0)
no_where name value is none (inquiries.Next a) h = differ (codes "where") (codes "next") refl (sym is ∙ h.0)
no_where name value is none (inquiries.Memory r) h = differ (codes "where") (codes "memory") refl (sym is ∙ h.0)
no_where name value is none inquiries.Threads h = differ (codes "where") (codes "threads") refl (sym is ∙ h.0)
no_where name value is none inquiries.Where h = none h.1

core_alone : (i : Inquiry) → codes "core" ≡ inquiry_name i → ⊥
core_alone (inquiries.At p) e = differ (codes "core") (codes "at") refl e
core_alone (inquiries.Back n) e = differ (codes "core") (codes "back") refl e
core_alone (inquiries.Forward n) e = differ (codes "core") (codes "forward") refl e
core_alone (inquiries.Last a) e = differ (codes "core") (codes "last") refl e
core_alone (inquiries.Next a) e = differ (codes "core") (codes "next") refl e
core_alone (inquiries.Memory r) e = differ (codes "core") (codes "memory") refl e
core_alone inquiries.Threads e = differ (codes "core") (codes "threads") refl e
core_alone inquiries.Where e = differ (codes "core") (codes "where") refl e

choices_alone : (i : Inquiry) → codes "choices" ≡ inquiry_name i → ⊥
choices_alone (inquiries.At p) e = differ (codes "choices") (codes "at") refl e
choices_alone (inquiries.Back n) e = differ (codes "choices") (codes "back") refl e
choices_alone (inquiries.Forward n) e = differ (codes "choices") (codes "forward") refl e
choices_alone (inquiries.Last a) e = differ (codes "choices") (codes "last") refl e
choices_alone (inquiries.Next a) e = differ (codes "choices") (codes "next") refl e
choices_alone (inquiries.Memory r) e = differ (codes "choices") (codes "memory") refl e
choices_alone inquiries.Threads e = differ (codes "choices") (codes "threads") refl e
choices_alone inquiries.Where e = differ (codes "choices") (codes "where") refl e

help_alone : (i : Inquiry) → codes "help" ≡ inquiry_name i → ⊥
help_alone (inquiries.At p) e = differ (codes "help") (codes "at") refl e
help_alone (inquiries.Back n) e = differ (codes "help") (codes "back") refl e
help_alone (inquiries.Forward n) e = differ (codes "help") (codes "forward") refl e
help_alone (inquiries.Last a) e = differ (codes "help") (codes "last") refl e
help_alone (inquiries.Next a) e = differ (codes "help") (codes "next") refl e
help_alone (inquiries.Memory r) e = differ (codes "help") (codes "memory") refl e
help_alone inquiries.Threads e = differ (codes "help") (codes "threads") refl e
help_alone inquiries.Where e = differ (codes "help") (codes "where") refl e

quiet_alone : (i : Inquiry) → codes "quiet" ≡ inquiry_name i → ⊥
quiet_alone (inquiries.At p) e = differ (codes "quiet") (codes "at") refl e
quiet_alone (inquiries.Back n) e = differ (codes "quiet") (codes "back") refl e
quiet_alone (inquiries.Forward n) e = differ (codes "quiet") (codes "forward") refl e
quiet_alone (inquiries.Last a) e = differ (codes "quiet") (codes "last") refl e
quiet_alone (inquiries.Next a) e = differ (codes "quiet") (codes "next") refl e
quiet_alone (inquiries.Memory r) e = differ (codes "quiet") (codes "memory") refl e
quiet_alone inquiries.Threads e = differ (codes "quiet") (codes "threads") refl e
quiet_alone inquiries.Where e = differ (codes "quiet") (codes "where") refl e

full_alone : (i : Inquiry) → codes "full" ≡ inquiry_name i → ⊥
full_alone (inquiries.At p) e = differ (codes "full") (codes "at") refl e
full_alone (inquiries.Back n) e = differ (codes "full") (codes "back") refl e
full_alone (inquiries.Forward n) e = differ (codes "full") (codes "forward") refl e
full_alone (inquiries.Last a) e = differ (codes "full") (codes "last") refl e
full_alone (inquiries.Next a) e = differ (codes "full") (codes "next") refl e
full_alone (inquiries.Memory r) e = differ (codes "full") (codes "memory") refl e
full_alone inquiries.Threads e = differ (codes "full") (codes "threads") refl e
full_alone inquiries.Where e = differ (codes "full") (codes "where") refl e

quit_alone : (i : Inquiry) → codes "quit" ≡ inquiry_name i → ⊥
quit_alone (inquiries.At p) e = differ (codes "quit") (codes "at") refl e
quit_alone (inquiries.Back n) e = differ (codes "quit") (codes "back") refl e
quit_alone (inquiries.Forward n) e = differ (codes "quit") (codes "forward") refl e
quit_alone (inquiries.Last a) e = differ (codes "quit") (codes "last") refl e
quit_alone (inquiries.Next a) e = differ (codes "quit") (codes "next") refl e
quit_alone (inquiries.Memory r) e = differ (codes "quit") (codes "memory") refl e
quit_alone inquiries.Threads e = differ (codes "quit") (codes "threads") refl e
quit_alone inquiries.Where e = differ (codes "quit") (codes "where") refl e

pub no_core : (name value : Text) → name ≡ codes "core" → ((file : Bor Text) → (file.now ≡ value) × (value ≡ [] → ⊥) → ⊥) → (a : Asked) →
    IsAskedBy name value a → ⊥
no_core name value is none (asks.Of i) h = core_alone i (sym is ∙ h.0)
no_core name value is none (asks.Core file) h = none file (h.1, h.2)
no_core name value is none asks.Choices h = differ (codes "core") (codes "choices") refl (sym is ∙ h.0)
no_core name value is none asks.Quiet h = differ (codes "core") (codes "quiet") refl (sym is ∙ h.0)
no_core name value is none asks.Full h = differ (codes "core") (codes "full") refl (sym is ∙ h.0)
no_core name value is none asks.Help h = differ (codes "core") (codes "help") refl (sym is ∙ h.0)
no_core name value is none asks.Quit h = differ (codes "core") (codes "quit") refl (sym is ∙ h.0)

pub no_choices : (name value : Text) → name ≡ codes "choices" → (value ≡ [] → ⊥) → (a : Asked) → IsAskedBy name value a → ⊥
no_choices name value is none (asks.Of i) h = choices_alone i (sym is ∙ h.0)
no_choices name value is none (asks.Core file) h = differ (codes "choices") (codes "core") refl (sym is ∙ h.0)
no_choices name value is none asks.Choices h = none h.1
no_choices name value is none asks.Quiet h = differ (codes "choices") (codes "quiet") refl (sym is ∙ h.0)
no_choices name value is none asks.Full h = differ (codes "choices") (codes "full") refl (sym is ∙ h.0)
no_choices name value is none asks.Help h = differ (codes "choices") (codes "help") refl (sym is ∙ h.0)
no_choices name value is none asks.Quit h = differ (codes "choices") (codes "quit") refl (sym is ∙ h.0)

pub no_quiet : (name value : Text) → name ≡ codes "quiet" → (value ≡ [] → ⊥) → (a : Asked) → IsAskedBy name value a → ⊥
no_quiet name value is none (asks.Of i) h = quiet_alone i (sym is ∙ h.0)
no_quiet name value is none (asks.Core file) h = differ (codes "quiet") (codes "core") refl (sym is ∙ h.0)
no_quiet name value is none asks.Choices h = differ (codes "quiet") (codes "choices") refl (sym is ∙ h.0)
no_quiet name value is none asks.Quiet h = none h.1
no_quiet name value is none asks.Full h = differ (codes "quiet") (codes "full") refl (sym is ∙ h.0)
no_quiet name value is none asks.Help h = differ (codes "quiet") (codes "help") refl (sym is ∙ h.0)
no_quiet name value is none asks.Quit h = differ (codes "quiet") (codes "quit") refl (sym is ∙ h.0)

pub no_full : (name value : Text) → name ≡ codes "full" → (value ≡ [] → ⊥) → (a : Asked) → IsAskedBy name value a → ⊥
no_full name value is none (asks.Of i) h = full_alone i (sym is ∙ h.0)
no_full name value is none (asks.Core file) h = differ (codes "full") (codes "core") refl (sym is ∙ h.0)
no_full name value is none asks.Choices h = differ (codes "full") (codes "choices") refl (sym is ∙ h.0)
no_full name value is none asks.Quiet h = differ (codes "full") (codes "quiet") refl (sym is ∙ h.0)
no_full name value is none asks.Full h = none h.1
no_full name value is none asks.Help h = differ (codes "full") (codes "help") refl (sym is ∙ h.0)
no_full name value is none asks.Quit h = differ (codes "full") (codes "quit") refl (sym is ∙ h.0)

pub no_help : (name value : Text) → name ≡ codes "help" → (value ≡ [] → ⊥) → (a : Asked) → IsAskedBy name value a → ⊥
no_help name value is none (asks.Of i) h = help_alone i (sym is ∙ h.0)
no_help name value is none (asks.Core file) h = differ (codes "help") (codes "core") refl (sym is ∙ h.0)
no_help name value is none asks.Choices h = differ (codes "help") (codes "choices") refl (sym is ∙ h.0)
no_help name value is none asks.Quiet h = differ (codes "help") (codes "quiet") refl (sym is ∙ h.0)
no_help name value is none asks.Full h = differ (codes "help") (codes "full") refl (sym is ∙ h.0)
no_help name value is none asks.Help h = none h.1
no_help name value is none asks.Quit h = differ (codes "help") (codes "quit") refl (sym is ∙ h.0)

pub no_quit : (name value : Text) → name ≡ codes "quit" → (value ≡ [] → ⊥) → (a : Asked) → IsAskedBy name value a → ⊥
no_quit name value is none (asks.Of i) h = quit_alone i (sym is ∙ h.0)
no_quit name value is none (asks.Core file) h = differ (codes "quit") (codes "core") refl (sym is ∙ h.0)
no_quit name value is none asks.Choices h = differ (codes "quit") (codes "choices") refl (sym is ∙ h.0)
no_quit name value is none asks.Quiet h = differ (codes "quit") (codes "quiet") refl (sym is ∙ h.0)
no_quit name value is none asks.Full h = differ (codes "quit") (codes "full") refl (sym is ∙ h.0)
no_quit name value is none asks.Help h = differ (codes "quit") (codes "help") refl (sym is ∙ h.0)
no_quit name value is none asks.Quit h = none h.1
