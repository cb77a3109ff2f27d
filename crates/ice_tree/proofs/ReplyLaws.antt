-- What a call answers that changes a tree: the refusal that was found, or the value of the accepted operation with the next tree.
use Rattle.std.proofs.Common.{◌≡◌, ◌+◌, ℕ, true, None, Ok, Err, sym, ap, subst, ◌∙◌}
use Rattle.ice_base.specs.Lots.{LotView}
use Rattle.tree_spec.specs.Trees.{Tree}
use Rattle.tree_spec.specs.Costs.{Form}
use Rattle.tree_spec.specs.Operations.{Operation, is_change}
use Rattle.tree_spec.specs.Answers.{refusal, answer, next_tree}
use Rattle.tree_spec.specs.Replies.{Refused, Plain}
use Rattle.tree_spec.proofs.Refusals.{answer-accepted, accepted_value-change}
use Rattle.ice_reads.specs.Tables.{Map}
use Rattle.ice_reads.specs.Recovers.{MapRecovers}
use Rattle.ice_look.specs.Outcomes.{AsModel, RefusedAs}
use Rattle.ice_look.proofs.LookLaws.{as_model}

module _ (t : Tree) (k n : ℕ) (f : Form) (op : Operation) where
  -- a refusal that is the tree's
  pub refused-model : (r : Refused) → RefusedAs r (refusal t k n f op) → AsModel (Err r) (answer t k n f op).0
  refused-model r h = as_model t k n f op r (refusal t k n f op) h (λ w e. e)

  module _ (change : is_change op ≡ true) (none : refusal t k n f op ≡ None) where
    -- an accepted change has no value
    pub accepted-model : Ok Plain ≡ (answer t k n f op).0
    accepted-model = sym (ap (λ a. a.0) (answer-accepted t k n f op none) ∙ ap (λ v. Ok v) (accepted_value-change op t change))

    -- and makes the next tree
    pub accepted-recovers : (mode : ℕ) (lot : LotView) (m : Map) → MapRecovers f mode lot m (next_tree op t) (k + 1)
        → MapRecovers f mode lot m (answer t k n f op).1 (k + 1)
    accepted-recovers mode lot m r = subst (λ u. MapRecovers f mode lot m u (k + 1)) (sym (ap (λ a. a.1) (answer-accepted t k n f op none))) r
