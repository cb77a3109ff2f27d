-- What the calls over a tree promise, in words over what they were given and what they leave.
use Rattle.std.specs.Prelude.{◌≡◌, ℕ, List, length, Option, Some, None, Result, IfErr, IsErrOf, MatchResult}
use Rattle.ice_base.specs.Lots.{LotView}
use Rattle.ice_base.specs.Views.{IfShown}
use Rattle.ice_base.specs.declared.fault.OpFault.{OpFault}
use Rattle.ice_base.specs.declared.fault.OpFault.TheVariants.{Disk}
use Rattle.ice_base.specs.declared.fault.Rule.{Rule}
use Rattle.ice_base.specs.declared.view.View as view
use Rattle.tree_spec.specs.Answers.{answer}
use Rattle.tree_spec.specs.Costs.{form_of, Form}
use Rattle.tree_spec.specs.Operations.{Operation}
use Rattle.tree_spec.specs.Replies.{Response, refused_of}
use Rattle.tree_spec.specs.Trees.{Tree}
use Rattle.tree_spec.specs.Why.{Why}
use Rattle.tree_spec.specs.declared.reply.Refusal.{Refusal}
use Rattle.tree_spec.specs.declared.reply.Refusal.TheVariants.{Damaged}
use Rattle.ice_reads.specs.Reads.{Reads, inode_on}
use Rattle.ice_reads.specs.Recovers.{MapRecovers}
use Rattle.ice_map.specs.Own.{own}
use Rattle.ice_rules.specs.Rules.{rule_number}
use Rattle.ice_look.specs.Broken.{IsBroken}
use Rattle.ice_look.specs.Outcomes.{AsModel, RefusedAs, ShownBy}
use Rattle.ice_look.specs.Places.{place_at}
use Rattle.ice_look.specs.Stages.{paths_refusal}
use Rattle.ice_look.specs.declared.place.Place.{Place}

-- ---- over a lot that recovers a tree

-- where the lot that is shown recovers a tree, this holds of its blocks, the tree and the count of accepted operations
abbrev pub IfRecovers : {V D : Type 0} → view.Ghosts V D → ℕ → LotView → V → D → ((ℕ → List ℕ) → Tree → ℕ → Type 0) → Type 0
IfRecovers view version lot v e P = (mode k : ℕ) (t : Tree) → IfShown view lot v e (λ old. MapRecovers (form_of version) mode lot old t k → P old t k)

-- the reply to an operation is the model's, but where the disk failed
abbrev pub AnswersAs : {V D : Type 0} → view.Ghosts V D → ℕ → LotView → V → D → Operation → Response → Type 0
AnswersAs view version lot v e op reply = IfRecovers view version lot v e (λ old t k. AsModel reply (answer t k (length lot.groups) (form_of version) op).0)

-- a fault is the disk's
abbrev pub FailsByDisk : {A : Type 0} → Result A OpFault → Type 0
FailsByDisk result = IfErr result (λ e. e ≡ Disk)

-- where the lot recovers a tree, a fault is the disk's
abbrev pub FailsByDiskAlone : {A V D : Type 0} → view.Ghosts V D → ℕ → LotView → V → D → Result A OpFault → Type 0
FailsByDiskAlone view version lot v e result = IfRecovers view version lot v e (λ old t k. FailsByDisk result)

-- inode `number`, reached by h names, stands for this tree
abbrev pub ReadsIn : ℕ → LotView → (ℕ → List ℕ) → ℕ → ℕ → Tree → Type 0
ReadsIn version lot m number h t = Reads (form_of version) lot (own (form_of version) m) number h t

-- the inode to which the names lead from the root
abbrev pub inode_at : ℕ → (ℕ → List ℕ) → List (List ℕ) → ℕ
inode_at version m names = inode_on (form_of version) (own (form_of version) m) 0 names

-- the place where a walk of these names ends, in a tree that the root stands for
abbrev pub place_on : ℕ → (ℕ → List ℕ) → List (List ℕ) → Tree → Place
place_on version m names t = place_at (form_of version) (own (form_of version) m) names t

-- ---- refusals

-- the refusal that was found, or none where none was, but where the disk failed
abbrev pub RefusedBy : {A : Type 0} → Option Why → Result A Refusal → Type 0
RefusedBy found result = MatchResult result (λ u. found ≡ None) (λ r. RefusedAs (refused_of r) found)

-- a value of which this holds, or the refusal that was found, but where the disk failed
abbrev pub Finds : {A : Type 0} → (A → Type 0) → Option Why → Result A Refusal → Type 0
Finds P found result = MatchResult result P (λ r. RefusedAs (refused_of r) found)

-- the same, and there is a value only where no refusal was found
abbrev pub Accepts : {A : Type 0} → (A → Type 0) → Option Why → Result A Refusal → Type 0
Accepts P found result = MatchResult result (λ x. (found ≡ None) × P x) (λ r. RefusedAs (refused_of r) found)

-- where the names of the paths refuse the call by themselves, that is the refusal
abbrev pub RefusesPaths : {A : Type 0} → ℕ → List (List (List ℕ)) → Result A Refusal → Type 0
RefusesPaths version paths result = ShownBy (paths_refusal (form_of version) paths) result

-- and neither the view nor the disk is touched
abbrev pub Untouched : {V D : Type 0} → ℕ → List (List (List ℕ)) → V → D → V → D → Type 0
Untouched version paths v e w f = (r : Why) → paths_refusal (form_of version) paths ≡ Some r → (f ≡ e) × (w ≡ v)

-- a rule that the refusal names as damaged is one that the lot breaks
abbrev pub NamesBroken : {A V D : Type 0} → view.Ghosts V D → Form → LotView → V → D → Result A Refusal → Type 0
NamesBroken view form lot v e result =
    (n : ℕ) → IsErrOf result (Damaged n) → IfShown view lot v e (λ old. (r : Rule) × (n ≡ rule_number r) × IsBroken form lot old r)
