-- What the digest of a memory takes in.
use Rattle.std.specs.Prelude.{ℕ, zero, suc, ◌*◌, ◌^◌, List, [], ◌∷◌, ◌++◌, Option, Some, None}
use Rattle.page_permissions.specs.declared.page.Permissions.{Permissions}
use Rattle.rrv_model.specs.Memory.{Memory, Cell, bytes_at, page_bytes}
use Rattle.rrv_model.specs.RecordText.{number, permissions_byte}

-- of a page: its number in four bytes, its permissions in one, and its bytes
abbrev pub piece : ℕ → Permissions → List ℕ → List ℕ
piece n permissions bytes = number n ++ (permissions_byte (Some permissions) ∷ bytes)

-- of page n, whose first cell this is; nothing where it isn't mapped
abbrev pub page_piece : Memory → ℕ → Option Cell → List ℕ
page_piece m n None = []
page_piece m n (Some c) = piece n c.permissions (bytes_at m (n * page_bytes) page_bytes)

-- of the pages below n, by rising number
unfoldable pub pieces_below : ℕ → Memory → List ℕ
pieces_below zero m = []
pieces_below (suc n) m = pieces_below n m ++ page_piece m n (m (n * page_bytes))

-- of all mapped pages, by rising number
abbrev pub pages_bytes : Memory → List ℕ
pages_bytes m = pieces_below (2 ^ 20) m
