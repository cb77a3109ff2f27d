use Rattle.std.proofs.Common.{inl, inr, ◌∙◌, ⊎_elim, arith}
use Rattle.ice_map.proofs.CodecLaws.{inode_made, byte_kept}
use Rattle.ice_map.proofs.codec.write_inode.Goals as goal

pub returns-clause-value : goal.returns-clause-value
returns-clause-value c = inode_made _ _ _ _ _ _ c.args.inode.now c.write_direct.ensures.long c.start_inode.ensures.kind c.write_u32.ensures c.write_direct.ensures.direct c.write_direct.ensures.others c.write_u32-2.ensures c.write_u32-3.ensures

pub returns-clause-blank : goal.returns-clause-blank
returns-clause-blank c =
    let kept = byte_kept _ _ _ _ _ _ _ _ _ c.write_u32.ensures c.write_direct.ensures.others c.write_u32-2.ensures c.write_u32-3.ensures in
    record {
      low = λ k l h. kept _ (inl (omega arith)) ∙ c.start_inode.ensures.blank k l (omega arith);
      high = λ k l h. kept _ (inr (omega arith)) ∙ c.start_inode.ensures.blank k (omega arith) h;
    }

pub returns-clause-others : goal.returns-clause-others
returns-clause-others c =
    let kept = byte_kept _ _ _ _ _ _ _ _ _ c.write_u32.ensures c.write_direct.ensures.others c.write_u32-2.ensures c.write_u32-3.ensures in
    λ k h. kept k (⊎_elim (λ l. inl (omega arith)) (λ l. inr (omega arith)) h) ∙ c.start_inode.ensures.others k h
