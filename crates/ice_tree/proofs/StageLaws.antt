-- One stage of refusals after another.
use Rattle.std.proofs.Common.{◌≡◌, Option, None, Result, ap, ◌∙◌, sym, subst, ℕ}
use Rattle.tree_spec.specs.Why.{Why}
use Rattle.tree_spec.specs.Trees.{Tree}
use Rattle.tree_spec.specs.Costs.{Form}
use Rattle.tree_spec.specs.Replies.{Refused, Because, Fault, Memory}
use Rattle.tree_spec.specs.declared.reply.Refusal.{Refusal}
use Rattle.ice_base.specs.Lots.{LotView}
use Rattle.ice_reads.specs.Tables.{Map}
use Rattle.ice_reads.specs.Recovers.{MapRecovers}
use Rattle.ice_look.specs.Calls.{RefusedBy}
use Rattle.ice_look.specs.Outcomes.{RefusedAs}
use Rattle.ice_look.specs.Stages.{or_else}
use Rattle.ice_look.proofs.LookLaws.{later_stage}

-- a stage that refuses decides
pub refused-now : (x : Refused) (a b : Option Why) → RefusedAs x a → RefusedAs x (or_else a b)
refused-now Fault a b h = h
refused-now Memory a b h = elim h [ ]
refused-now (Because r) a b h = ap (λ (y : Option Why). or_else y b) h

-- and one that doesn't leaves it to the later ones
pub refused-later : (x : Refused) (a b : Option Why) → a ≡ None → RefusedAs x b → RefusedAs x (or_else a b)
refused-later x a b e h = subst (RefusedAs x) (sym (later_stage a b e)) h

pub none-both : (a b : Option Why) → a ≡ None → b ≡ None → or_else a b ≡ None
none-both a b e f = later_stage a b e ∙ f

-- where the first stage refuses nothing, a call is refused by the later one
pub finds-later : {A : Type 0} (result : Result A Refusal) (a b : Option Why) → a ≡ None → RefusedBy b result → RefusedBy (or_else a b) result
finds-later {A} result a b e h = subst (λ (o : Option Why). RefusedBy o result) (sym (later_stage a b e)) h

-- an equal map recovers the same
pub recovers-same : (f : Form) (mode : ℕ) (lot : LotView) (m m' : Map) (t : Tree) (k : ℕ) → m' ≡ m → MapRecovers f mode lot m t k
    → MapRecovers f mode lot m' t k
recovers-same f mode lot m m' t k e r = subst (λ (x : Map). MapRecovers f mode lot x t k) (sym e) r
