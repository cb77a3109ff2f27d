-- Whole writes and whole cuts of files.
use Rattle.std.proofs.Common.{◌≡◌, ◌≢◌, ◌≤◌, ◌<◌, ◌+◌, ◌*◌, max, ℕ, false, List, [], length, take, ◌∙◌, sym, refl, ap, subst, arith}
use Rattle.std.proofs.lemmas.Nat.{div-add-mod', mod_below}
use Rattle.ice_base.specs.Lots.{LotView}
use Rattle.ice_base.specs.Inodes.{inode_address}
use Rattle.ice_map.specs.declared.codec.Inode.{Inode}
use Rattle.ice_map.specs.Inodes.{inode_of, InodeSet}
use Rattle.ice_map.specs.Maps.{leads, cut_off, shortened, Stays, Cut}
use Rattle.tree_spec.specs.Costs.{Form, form_one}
use Rattle.ice_map.proofs.OwnLaws.{made-short}
use Rattle.ice_map.specs.Own.{own, file_bytes, map_length, blocks_for, MadeOf, WellMade}
use Rattle.ice_file.specs.Files.{overwritten, ReachesTo, FileSet}
use Rattle.ice_file.specs.Writes.{Written, blocks_with}
use Rattle.ice_map.specs.Moves.{uses_of}
use Rattle.ice_file.proofs.ByteLaws.{file_length}
use Rattle.ice_map.proofs.ShrinkLaws.{cut-moved, cut-contents, length-cut_off}
use Rattle.ice_map.proofs.MoveLaws.{made-leads}
use Rattle.ice_map.proofs.SetLaws.{resized}
use Rattle.ice_file.proofs.SetLaws.{file-written, file-cut}
use Rattle.ice_file.proofs.WriteLaws.{count-less}

-- the map of a file is well made
pub made-file : (lot : LotView) (m m0 : ℕ → List ℕ) (x : Inode) (f : Form) → f ≡ form_one → (number : ℕ) → m0 ≡ m → x ≡ inode_of m number
    → x.kind ≡ 1 → WellMade lot f m number → MadeOf lot m0 x (blocks_for x.size)
made-file lot m m0 x f one number e is kind made =
    subst (λ (n : ℕ → List ℕ). MadeOf lot n x (blocks_for x.size)) (sym e)
    (subst (λ c. MadeOf lot m x c) (file_length f x kind)
    (subst (λ (i : Inode). MadeOf lot m i (map_length f i)) (sym is) (made-short lot f one m number made)))

-- a file in hand was written
pub write-all : (lot : LotView) (m m1 m2 : ℕ → List ℕ) (x y : Inode) (f : Form) → f ≡ form_one → (number at s : ℕ) (bytes : List ℕ)
    → x ≡ inode_of m number → ReachesTo f at x
    → Written lot m m1 x y (blocks_for x.size) (blocks_with x.size (at + length bytes)) at (at + length bytes) bytes
    → s ≡ max y.size (at + length bytes) → InodeSet m1 m2 number (resized y s) → ((b : ℕ) → b ≢ inode_address number → m2 b ≡ m1 b)
    → FileSet lot f m m2 number (overwritten (file_bytes (own f m number)) at bytes)
write-all lot m m1 m2 x y f one number at s bytes is r w long set only =
    file-written lot m m1 m2 x y f one number at bytes (sym is) r.kind r.reaches w
    (subst (λ n. InodeSet m1 m2 number (resized y n)) (long ∙ ap (λ n. max n (at + length bytes)) w.moved.size) set) only

-- a file in hand was cut
pub cut-all : (lot : LotView) (m m1 m2 : ℕ → List ℕ) (x y : Inode) (f : Form) → f ≡ form_one → (number len count rest : ℕ)
    → x ≡ inode_of m number → ReachesTo f len x → count ≡ blocks_for x.size → rest ≡ blocks_for len
    → Cut lot m m1 x y count rest → Stays lot m m1 [] → y ≡ shortened x rest
    → InodeSet m1 m2 number (resized y len) → ((b : ℕ) → b ≢ inode_address number → m2 b ≡ m1 b) → WellMade lot f m number
    → FileSet lot f m m2 number (take len (file_bytes (own f m number)))
cut-all lot m m1 m2 x y f one number len count rest is r n o was stay fields set only made =
    let order = count-less len x.size r.reaches in
    let was' = subst (λ k. Cut lot m m1 x y (blocks_for x.size) k) o (subst (λ k. Cut lot m m1 x y k rest) n was) in
    let fields' = fields ∙ ap (shortened x) o in
    let made' = made-file lot m m x f one number refl is r.kind made in
    file-cut lot m m1 m2 x y f one number len (sym is) r.kind r.reaches
    (cut-moved lot m m1 x y (blocks_for x.size) (blocks_for len) made' order was' stay fields')
    (cut-contents lot m m1 x y (blocks_for x.size) (blocks_for len) made' order was' stay fields') set only

-- how many blocks a cut gives back
pub cut-most : (m : ℕ → List ℕ) (x : Inode) (f : Form) (len count rest : ℕ) → ReachesTo f len x → count ≡ blocks_for x.size → rest ≡ blocks_for len
    → uses_of (blocks_for x.size) ≡ uses_of (blocks_for len) + length (cut_off m x count rest)
cut-most m x f len count rest r n o =
    let order = count-less len x.size r.reaches in
    let l = length-cut_off m x count rest (omega arith) in
    let t = ap uses_of n in
    let u = ap uses_of o in
    omega arith

-- a block of a well-made map that leads nowhere
pub unmade : (lot : LotView) (m m0 : ℕ → List ℕ) (x : Inode) (f : Form) → f ≡ form_one → (number at k end : ℕ) → m0 ≡ m
    → x ≡ inode_of m number → ReachesTo f at x → 1024 * k < end → end ≤ x.size → leads lot m0 x k ≡ false → ¬ WellMade lot f m number
unmade lot m m0 x f one number at k end e is r small short lost made =
    let q = div-add-mod' (x.size + 1023) 1024 in
    let d = mod_below (x.size + 1023) 1024 (omega arith) in
    let l = made-leads lot m0 x (blocks_for x.size) k (made-file lot m m0 x f one number e is r.kind made) (omega arith) in
    absurd cc
