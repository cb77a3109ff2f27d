-- Bytes that are put into one block of a map.
use Rattle.std.proofs.Common.{◌≡◌, ◌≢◌, ◌≤◌, ◌<◌, ◌⊎◌, ◌+◌, ◌-◌, max, ℕ, List, length, slice_index, ◌∙◌, sym, ap, arith}
use Rattle.ice_base.specs.Lots.{LotView}
use Rattle.ice_map.specs.declared.codec.Inode.{Inode}
use Rattle.ice_map.specs.Moves.{HadBlock}
use Rattle.ice_file.specs.Writes.{PutPiece}
use Rattle.ice_map.proofs.MoveLaws.{moved-then, put-moved, put-others, put-here}

pub piece-put : (lot : LotView) (m0 m1 m2 : ℕ → List ℕ) (x y : Inode) (c k at start : ℕ) (bytes : List ℕ) → length lot.groups ≤ 64
    → HadBlock lot m0 m1 x y c k at → ((b : ℕ) → b ≢ at → m2 b ≡ m1 b)
    → ((j : ℕ) → start ≤ j → j < start + length bytes → slice_index (m2 at) j ≡ slice_index bytes (j - start))
    → (k < c → (j : ℕ) → (j < start) ⊎ (start + length bytes ≤ j) → j < 1024 → slice_index (m2 at) j ≡ slice_index (m1 at) j)
    → PutPiece lot m0 m2 x y c k start bytes
piece-put lot m0 m1 m2 x y c k at start bytes few r only here rest =
    let d : ℕ = max c (k + 1) in
    let small : k < max c (k + 1) = omega arith in
    let same = put-here lot m1 m2 y (max c (k + 1)) k at r.moved.made few small r.here only in
    record {
      moved =
          moved-then lot m0 m1 m2 x y y c (max c (k + 1)) (max c (k + 1)) r.moved
          (put-moved lot m1 m2 y (max c (k + 1)) k at r.moved.made few small r.here only);
      here = λ j l h. ap (λ (b : List ℕ). slice_index b j) same ∙ here j l h;
      rest =
          λ h j side l. ap (λ (b : List ℕ). slice_index b j) same ∙ rest h j side l
          ∙ ap (λ (b : List ℕ). slice_index b j) (sym (ap m1 r.here)) ∙ ap (λ (b : List ℕ). slice_index b j) (r.contents k h);
      others = λ n h ne. put-others lot m1 m2 y (max c (k + 1)) k at r.moved.made few small r.here only n (omega arith) ne ∙ r.contents n h;
    }
