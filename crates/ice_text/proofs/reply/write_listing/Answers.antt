use Rattle.std.proofs.Common.{List, ◌+◌, ◌++◌, ◌∷◌, [], ◌≡◌, ◌∙◌, length, map, sym, ap}
use Rattle.std.specs.Prelude.{decimal, codes, Ok}
use Rattle.tree_spec.specs.Replies.{Listed}
use Rattle.tree_spec.specs.declared.reply.Entry.{Entry}
use Rattle.tree_spec.specs.declared.reply.CubeRow.{CubeRow}
use Rattle.ice_text.specs.Text.{text, ended, entry_line, row_line}
use Rattle.ice_text.proofs.Endings.{ended-two}
use Rattle.ice_text.proofs.reply.write_listing.Goals as goal

text-Listed : (es es2 : List Entry) (rows rows2 : List CubeRow) → es2 ≡ es → rows2 ≡ rows
    → ended (map entry_line es2) ++ ended (map row_line rows2) ++ (codes "ok " ++ decimal (length es2 + length rows2) ++ 10 ∷ []) ≡ text (Ok (Listed es rows))
unfolding text
text-Listed es es2 rows rows2 e r = rw (e, r) (sym (ended-two (map entry_line es) (map row_line rows) (codes "ok " ++ decimal (length es + length rows))))

pub returns-clause-text : goal.returns-clause-text
returns-clause-text c =
    c.write_count.ensures ∙ ap (λ t. t ++ (codes "ok " ++ decimal (length c.entries-entries.result.now + length c.rows-rows.result.now) ++ 10 ∷ []))
    (c.write_rows.ensures.text ∙ ap (λ t. t ++ ended (map row_line c.rows-rows.result.now)) c.write_entries.ensures.text)
    ∙ text-Listed _ c.entries-entries.result.now _ c.rows-rows.result.now c.entries-entries.ensures.value c.rows-rows.ensures.value
