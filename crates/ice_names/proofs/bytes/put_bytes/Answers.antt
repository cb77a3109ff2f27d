use Rattle.std.proofs.Common.{◌≡◌, ◌<◌, ◌/◌, List, ℕ, length, arith}
use Rattle.std.proofs.lemmas.Nat.{div_below}
use Rattle.ice_names.proofs.ByteLaws.{is_put, put_here, put_other, put_whole, put_stays}
use Rattle.ice_names.proofs.bytes.put_bytes.Goals as goal

-- four rows stand in each of the four blocks
few : (slot : ℕ) (blocks : List (List ℕ)) → slot < 16 → length blocks ≡ 4 → slot / 4 < length blocks
few slot blocks low four = let q = div_below slot 4 4 (omega arith) (omega (arith, low)) in omega (arith, q, four)

pub returns-clause-here : goal.returns-clause-here
returns-clause-here c =
    put_here c.args.into.now c.args.slot c.args.bytes.now _ (few c.args.slot c.args.into.now c.requires c.told-into)
    (is_put c.args.slot _ c.args.bytes.now _ c.put_in_block.ensures.whole c.told-bytes c.put_in_block.ensures.put)

pub returns-clause-others : goal.returns-clause-others
returns-clause-others c =
    put_other c.args.into.now c.args.slot c.args.bytes.now _ (few c.args.slot c.args.into.now c.requires c.told-into)
    (is_put c.args.slot _ c.args.bytes.now _ c.put_in_block.ensures.whole c.told-bytes c.put_in_block.ensures.put)

pub returns-clause-whole : goal.returns-clause-whole
returns-clause-whole c = put_whole c.args.into.now c.args.slot _ (few c.args.slot c.args.into.now c.requires c.told-into) c.put_in_block.ensures.len

pub returns-clause-stays : goal.returns-clause-stays
returns-clause-stays c = put_stays c.args.into.now c.args.slot _ (few c.args.slot c.args.into.now c.requires c.told-into) c.put_in_block.ensures.len
