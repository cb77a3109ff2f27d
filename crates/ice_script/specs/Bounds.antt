-- What a line that is read keeps to.
use Rattle.std.specs.Prelude.{◌≤◌, ◌<◌, ◌^◌, length, ⊤}
use Rattle.tree_spec.specs.Held.{most_bytes}
use Rattle.tree_spec.specs.Names.{text_of}
use Rattle.tree_spec.specs.Lines.{Request, Create, Delete, Grow, Offline, Online, Cubes, Mount, Unmount, Check, Mkdir, Make, Write, Read, Trunc, Remove, Rename, ListDir, Stat, Sync}

-- one group at least, a cube's path of at most 199 bytes of text, at most 16,384 bytes, and numbers of 32 bits
abbrev pub InBounds : Request → Type 0
InBounds (Create p n) = (1 ≤ n) × (n < 2 ^ 32) × (length (text_of p) ≤ 199)
InBounds (Grow p n) = (1 ≤ n) × (n < 2 ^ 32)
InBounds (Write p at bytes) = (at < 2 ^ 32) × (length bytes ≤ most_bytes)
InBounds (Read p at len) = (at < 2 ^ 32) × (len ≤ most_bytes)
InBounds (Delete p) = ⊤
InBounds (Offline p) = ⊤
InBounds (Online p) = ⊤
InBounds Cubes = ⊤
InBounds (Mount p) = ⊤
InBounds (Unmount p) = ⊤
InBounds (Check p) = ⊤
InBounds (Mkdir p) = ⊤
InBounds (Make p) = ⊤
InBounds (Trunc p len) = ⊤
InBounds (Remove p) = ⊤
InBounds (Rename p q) = ⊤
InBounds (ListDir p) = ⊤
InBounds (Stat p) = ⊤
InBounds (Sync p) = ⊤
