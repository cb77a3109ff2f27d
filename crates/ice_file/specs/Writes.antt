-- How a map of a file's blocks moves under a write.
use Rattle.std.specs.Prelude.{◌≡◌, ◌≢◌, ◌≤◌, ◌<◌, ◌⊎◌, ℕ, ◌+◌, ◌-◌, ◌*◌, ◌^◌, false, min, max, List, length, slice_index}
use Rattle.ice_base.specs.Lots.{LotView}
use Rattle.ice_map.specs.declared.codec.Inode.{Inode}
use Rattle.ice_base.specs.Used.{counted, free_count}
use Rattle.ice_map.specs.Moves.{Moved, content_of, uses_of}
use Rattle.ice_map.specs.Own.{blocks_for}
use Rattle.ice_file.specs.Files.{byte_of}

-- these bytes were put into block k from its byte `start` on, as a new block where the map of c blocks ended there
pub record PutPiece (lot : LotView) (m0 m1 : ℕ → List ℕ) (x y : Inode) (c k start : ℕ) (bytes : List ℕ) : Type 0 where
  pub moved : Moved lot m0 m1 x y c (max c (k + 1))
  pub here : (j : ℕ) → start ≤ j → j < start + length bytes → slice_index (content_of m1 y k) j ≡ slice_index bytes (j - start)
  pub rest : k < c → (j : ℕ) → (j < start) ⊎ (start + length bytes ≤ j) → j < 1024 → slice_index (content_of m1 y k) j ≡ slice_index (content_of m0 x k) j
  pub others : (n : ℕ) → n < c → n ≢ k → content_of m1 y n ≡ content_of m0 x n

-- the bytes of a file from `at` up to `done` are the first of these, and the others of its c blocks are as they were
pub record Written (lot : LotView) (m0 m1 : ℕ → List ℕ) (x y : Inode) (c d at done : ℕ) (bytes : List ℕ) : Type 0 where
  pub moved : Moved lot m0 m1 x y c d
  pub new : (i : ℕ) → at ≤ i → i < done → byte_of m1 y i ≡ slice_index bytes (i - at)
  pub old : (i : ℕ) → i < 1024 * c → (i < at) ⊎ (done ≤ i) → byte_of m1 y i ≡ byte_of m0 x i

-- up to where the bytes from `at` to `end` lie before block k
abbrev pub up_to : ℕ → ℕ → ℕ → ℕ
up_to at end k = min end (max at (1024 * k))

-- how many blocks a file of this size has when bytes up to `done` were put into it
abbrev pub blocks_with : ℕ → ℕ → ℕ
blocks_with size done = blocks_for (max size done)

-- these bytes were put into the blocks of a file from `at` on, and past its end where there are more
abbrev pub BytesPut : LotView → (ℕ → List ℕ) → (ℕ → List ℕ) → Inode → Inode → ℕ → List ℕ → Type 0
BytesPut lot m0 m1 x y at bytes =
    Written lot m0 m1 x y (blocks_for x.size) (blocks_with x.size (at + length bytes)) at (at + length bytes) bytes

-- fewer blocks are free than a file of this size needs more when bytes up to `done` are put into it
abbrev pub FewFree : LotView → (ℕ → List ℕ) → ℕ → ℕ → Type 0
FewFree lot m size done = free_count false lot m + uses_of (blocks_for size) < uses_of (blocks_with size done)

-- so many blocks are counted that these can't be
abbrev pub CountFull : (ℕ → List ℕ) → ℕ → ℕ → Type 0
CountFull m size done = 2 ^ 32 + uses_of (blocks_for size) ≤ counted false m + uses_of (blocks_with size done)
