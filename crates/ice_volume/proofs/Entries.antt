-- A command and a check leave what the tables show of a cube.
use Rattle.std.proofs.Common.{◌≡◌, ◌∙◌, inl, inr, ◌&&◌, Bool, true, false, cond, Option, Some, None, option_map, refl, sym, ap, subst}
use Rattle.std.specs.Prelude.{⊤}
use Rattle.tree_spec.specs.Operations.{Operation, is_change}
use Rattle.tree_spec.specs.Why.{Why}
use Rattle.tree_spec.specs.Own as order
use Rattle.tree_spec.specs.Own.{Order, Own, Verdict, No, Yes, Plainly, Says, IfMounted, OfSound, CheckFinds, on_tree, tree_verdict, needs_disk, may_fault, after_fault}
use Rattle.tree_spec.specs.Answers.{refusal}
use Rattle.tree_spec.specs.Records.{Cube, Content, Sound, Broken, Unread, History, accepts, tree_now, done, is_mounted, is_offline, with_history, with_state}
use Rattle.tree_spec.specs.Replies.{Response}
use Rattle.tree_spec.specs.declared.reply.StateWord.{StateWord}
use Rattle.tree_spec.specs.declared.reply.StateWord.TheVariants as word
use Rattle.ice_images.specs.Fitting.{Entry, cube_entry}

-- the record after a verdict has the cube's entry
abbrev Shows : Cube → Verdict → Type 0
Shows c (No y) = ⊤
Shows c (Yes value e) = option_map cube_entry e ≡ Some (cube_entry c)

tree_shows : (c : Cube) (h : History) (op : Operation) (o : Option Why) → Shows c (tree_verdict c h op o)
tree_shows c h op (Some y) = tt
tree_shows c h op None = by (is_change op)
  where
    by : (b : Bool) → option_map cube_entry (Some (cond b (with_history (accepts h op) c) c)) ≡ Some (cube_entry c)
    by true = refl
    by false = refl

sound_shows : (c : Cube) (op : Operation) (x : Content) (v : Verdict) → OfSound x (on_tree c op) v → Shows c v
sound_shows c op (Sound h) v is = subst (Shows c) (sym is) (tree_shows c h op (refusal (tree_now h) (done h) c.groups c.form op))
sound_shows c op (Broken rules) v is = absurd is
sound_shows c op Unread v is = absurd is

mounted_shows : (c : Cube) (op : Operation) (s : StateWord) (v : Verdict) → IfMounted s (OfSound c.content (on_tree c op)) v → Shows c v
mounted_shows c op word.Mounted v is = sound_shows c op c.content v is
mounted_shows c op word.Unmounted v is = subst (Shows c) (sym is) tt
mounted_shows c op word.Stopped v is = subst (Shows c) (sym is) tt
mounted_shows c op word.Offline v is = subst (Shows c) (sym is) tt

check_shows : (c : Cube) (x : Content) (s : StateWord) (v : Verdict) → CheckFinds c x s v → Shows c v
check_shows c (Sound h) word.Mounted v is = subst (Shows c) (sym is) refl
check_shows c (Sound h) word.Unmounted v is = subst (Shows c) (sym is.2) refl
check_shows c (Sound h) word.Stopped v is = subst (Shows c) (sym is.2) refl
check_shows c (Sound h) word.Offline v is = subst (Shows c) (sym is.2) refl
check_shows c (Broken rules) s v is = subst (Shows c) (sym is.2) tt
check_shows c Unread s v (inl is) = subst (Shows c) (sym is.1) tt
check_shows c Unread s v (inr is) = subst (Shows c) (sym is.2) refl

entry_said : (c d : Cube) (r : Response) (v : Verdict) → Shows c v → Says v (Some c) r (Some d) → option_map cube_entry (Some d) ≡ Some (cube_entry c)
entry_said c d r (No y) shows says = ap (option_map cube_entry) says.1
entry_said c d r (Yes value e) shows says = ap (option_map cube_entry) says.1 ∙ shows

one_entry : (x y : Entry) → Some x ≡ Some y → x ≡ y
one_entry x y is = cc is

and_first : (a b : Bool) → (a && b) ≡ true → a ≡ true
and_first true b is = refl
and_first false b is = absurd (cc is)

not_offline : (s : StateWord) → is_mounted s ≡ true → is_offline s ≡ false
not_offline word.Mounted is = refl
not_offline word.Unmounted is = absurd (cc is)
not_offline word.Stopped is = absurd (cc is)
not_offline word.Offline is = absurd (cc is)

fault_entry : (c : Cube) (b : Bool) → is_offline c.state ≡ false → cube_entry (cond b (with_state word.Stopped c) c) ≡ cube_entry c
fault_entry c true on = ap (λ (x : Bool). record { path = c.path; groups = c.groups; offline = x }) (sym on)
fault_entry c false on = refl

one_cube : (x y : Cube) → Some x ≡ Some y → x ≡ y
one_cube x y is = cc is

-- after a command the tables show the cube as before
pub tree_entry : (c d : Cube) (op : Operation) (r : Response) → Own (Some c) (order.OnTree op) r (Some d) → cube_entry d ≡ cube_entry c
tree_entry c d op r (inl said) = one_entry (cube_entry d) (cube_entry c) (entry_said c d r said.0 (mounted_shows c op c.state said.0 said.1) said.2)
tree_entry c d op r (inr (inl fault)) =
    ap cube_entry (one_cube d (cond (is_change op) (with_state word.Stopped c) c) fault.2)
    ∙ fault_entry c (is_change op) (not_offline c.state (and_first (is_mounted c.state) _ fault.0))
tree_entry c d op r (inr (inr lack)) = ap cube_entry (one_cube d c lack.2)

-- so they do after a check
pub check_entry : (c d : Cube) (r : Response) → Own (Some c) order.Check r (Some d) → cube_entry d ≡ cube_entry c
check_entry c d r (inl said) = one_entry (cube_entry d) (cube_entry c) (entry_said c d r said.0 (check_shows c c.content c.state said.0 said.1) said.2)
check_entry c d r (inr (inl fault)) = ap cube_entry (one_cube d c fault.2)
check_entry c d r (inr (inr lack)) = ap cube_entry (one_cube d c lack.2)
