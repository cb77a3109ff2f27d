use Rattle.std.proofs.Common.{List, ℕ, length, take, drop, ◌++◌, ◌+◌, sym, ap, ◌∙◌, subst}
use Rattle.std.specs.Prelude.{slice_set, Some}
use Rattle.tree_spec.specs.Names.{text_of}
use Rattle.ice_names.specs.Bytes.{IsRowBytes}
use Rattle.ice_names.proofs.ByteLaws.{cube_bytes}
use Rattle.ice_names.proofs.row.bytes_of_cube.Goals as goal

pub returns : goal.returns
returns c =
    let text = c.text-text.result.now in
    let is = c.put_text.ensures ∙ ap (λ (x : List ℕ). take 8 x ++ text ++ drop (8 + length text) x) c.no_bytes-bytes.ensures in
    subst (λ (m : ℕ). IsRowBytes (Some c.args.row.now) (slice_set (slice_set c.put_text.new.bytes 0 m) 1 (length text))) (sym c.mark_byte.ensures)
    (cube_bytes c.args.row.now c.requires text c.put_text.new.bytes (c.text-text.ensures.value ∙ ap text_of c.path.ensures) is)
