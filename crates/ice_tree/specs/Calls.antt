-- What the changes of a tree promise, in words over what they were given and what they leave.
use Rattle.std.specs.Prelude.{◌≡◌, ◌≤◌, ◌+◌, ℕ, List, length, Some, Result, OnOk, IfErr}
use Rattle.ice_base.specs.Fields.{long_at}
use Rattle.ice_base.specs.Lots.{LotView, sub_address}
use Rattle.ice_base.specs.Views.{Looked, AsShown}
use Rattle.ice_base.specs.declared.disk.Disk as disk
use Rattle.ice_base.specs.declared.view.View as view
use Rattle.tree_spec.specs.Answers.{answer}
use Rattle.tree_spec.specs.Costs.{form_of}
use Rattle.tree_spec.specs.Operations.{Operation}
use Rattle.tree_spec.specs.Replies.{refusal_number}
use Rattle.tree_spec.specs.Trees.{Tree}
use Rattle.tree_spec.specs.Why.{Why}
use Rattle.tree_spec.specs.declared.reply.Refusal.{Refusal}
use Rattle.ice_reads.specs.Recovers.{MapRecovers}
use Rattle.ice_look.specs.Stages.{paths_refusal}

-- where the lot recovered a tree, it recovers after an accepted operation what the model makes of that tree, and one operation more is counted
abbrev pub ChangesAs : {A V D : Type 0} → view.Ghosts V D → ℕ → LotView → V → D → V → D → Operation → Result A Refusal → Type 0
ChangesAs view version lot v e w f op result = (mode k : ℕ) (t : Tree)
    → AsShown view lot v e w f (λ old new. MapRecovers (form_of version) mode lot old t k
    → OnOk result (MapRecovers (form_of version) mode lot new (answer t k (length lot.groups) (form_of version) op).1 (k + 1)))

-- where the names of the paths refuse the call by themselves, neither the keep nor the pool nor the disk is touched
abbrev pub UntouchedAll : {K P D : Type 0} → ℕ → List (List (List ℕ)) → K → P → D → K → P → D → Type 0
UntouchedAll version paths v p e w q f = (r : Why) → paths_refusal (form_of version) paths ≡ Some r → (f ≡ e) × (w ≡ v) × (q ≡ p)

-- a refusal that is neither damage nor a fault comes before anything is changed
abbrev pub LooksIfRefused : {A V D : Type 0} → disk.Ghosts D → view.Ghosts V D → LotView → V → D → V → D → Result A Refusal → Type 0
LooksIfRefused d view lot v e w f result = IfErr result (λ r. refusal_number r ≤ 14 → Looked d view lot v e w f)

-- the count of accepted operations stays
abbrev pub KeepsDone : {A E V D : Type 0} → view.Ghosts V D → LotView → V → D → V → D → Result A E → Type 0
KeepsDone view lot v e w f result = AsShown view lot v e w f (λ old new. OnOk result (long_at (new sub_address) 16 ≡ long_at (old sub_address) 16))
