-- Which rules a lot breaks where a rename ends in damage.
use Rattle.std.proofs.Common.{◌≡◌, ◌≢◌, ◌≤◌, ◌<◌, ◌+◌, ◌-◌, ◌*◌, ℕ, true, false, List, length, Some, sym, refl, ◌∙◌, subst, arith, inl, inr, ◌⊎◌}
use Rattle.ice_base.specs.Lots.{LotView}
use Rattle.ice_base.specs.declared.fault.OpFault.{OpFault}
use Rattle.ice_base.specs.declared.fault.OpFault.TheVariants.{Damaged}
use Rattle.ice_base.specs.declared.fault.Rule.TheVariants.{InodeTwice}
use Rattle.ice_dir.specs.Rows.{look_up, dir_rows_of}
use Rattle.tree_spec.specs.Costs.{Form, form_one, map_cost}
use Rattle.tree_spec.specs.Costs as tree
use Rattle.ice_look.specs.Broken.{IsBrokenBy, Overfull, count_within_place}
use Rattle.ice_look.specs.Ends.{EndsFit, EndsAre, DirIs}
use Rattle.ice_tree.specs.Renames.{MoveIs, RowFits, is_place, is_dir_place}
use Rattle.ice_tree.specs.Quotas.{HasFree}
use Rattle.ice_map.specs.declared.codec.Inode.{Inode}
use Rattle.ice_look.specs.Places.{PlaceFits, PlaceIs, PlaceReached, PlaceNamed, NodeIs}
use Rattle.ice_look.specs.declared.ends.Ends.{Ends}
use Rattle.ice_look.specs.declared.looks.DirAt.{DirAt}
use Rattle.ice_look.specs.declared.place.Place.{Place}
use Rattle.ice_look.specs.declared.place.Place.TheVariants.{File, Dir, Missing, Blocked}
use Rattle.ice_tree.specs.declared.quota.Need.{Need}
use Rattle.ice_tree.specs.declared.renames.Move.{Move}
use Rattle.ice_tree.proofs.CostLaws.{dir-cost}

-- ---- places

-- what is neither missing nor blocked is there
pub place-there : (p : Place) → p ≢ Missing → p ≢ Blocked → is_place p ≡ true
place-there (File number size) m b = refl
place-there (Dir number size) m b = refl
place-there Missing m b = absurd (m refl)
place-there Blocked m b = absurd (b refl)

-- what is no file either is a directory
pub dir-there : (p : Place) → p ≢ Missing → p ≢ Blocked → ((number size : ℕ) → p ≢ File number size) → is_dir_place p ≡ true
dir-there (File number size) m b f = absurd (f number size refl)
dir-there (Dir number size) m b f = refl
dir-there Missing m b f = absurd (m refl)
dir-there Blocked m b f = absurd (b refl)

none : false ≡ true → ⊥
none h = cc

module _ (form : Form) (lot : LotView) (m : ℕ → List ℕ) where
  -- a directory at a place
  place-spot : (p : Place) (node : Inode) (spot : DirAt) → p ≡ Dir spot.number spot.entries → spot.node ≡ node → PlaceFits lot p → PlaceIs m p
      → PlaceReached form lot m p → NodeIs m p node → DirIs form lot m spot
  place-spot p node spot at same fits is reached hand =
      let f = subst (PlaceFits lot) at fits in
      let i = subst (PlaceIs m) at is in
      record {
        reached = subst (PlaceReached form lot m) at reached;
        dir = record { kind = i.0; few = omega (arith, i.1, f.1) };
        entries = i.1;
        node_is = same ∙ subst (λ (x : Place). NodeIs m x node) at hand;
      }

  -- the inode of what a directory names so
  named-inode : (dir entries : ℕ) (name : List ℕ) (p : Place) → PlaceNamed form m (Dir dir entries) name p → is_place p ≡ true → PlaceFits lot p
      → (number : ℕ) × (number < 64 * length lot.groups) × (look_up name (dir_rows_of form m dir) ≡ Some number)
  named-inode dir entries name (File number size) named is fits = (number, fits.0, named)
  named-inode dir entries name (Dir number size) named is fits = (number, fits.0, named)
  named-inode dir entries name Missing named is fits = absurd (none is)
  named-inode dir entries name Blocked named is fits = absurd (none is)

  -- what is renamed
  pub move-is : (name : List ℕ) (from into : Ends) (step : Move) → EndsAre form lot m from → EndsAre form lot m into → EndsFit lot from
      → EndsFit lot into → PlaceNamed form m from.parent name from.end → is_place from.end ≡ true
      → from.parent ≡ Dir step.from.number step.from.entries → into.parent ≡ Dir step.to.number step.to.entries
      → step.from.node ≡ from.above → step.to.node ≡ into.above → MoveIs form lot m name step
  move-is name from into step a b f g named is source target source_node target_node =
      let x = named-inode step.from.number step.from.entries name from.end
      (subst (λ (p : Place). PlaceNamed form m p name from.end) source named) is f.at_end in
      record {
        from_is = place-spot from.parent from.above step.from source source_node f.at_parent a.parent.is a.parent.reached a.parent.node_is;
        to_is = place-spot into.parent into.above step.to target target_node g.at_parent b.parent.is b.parent.reached b.parent.node_is;
        number = x.0;
        below = x.1;
        named = x.2;
      }

  -- a look for the height of a tree that spent its budget, which has all inodes of the lot
  pub height-broken : (place : Place) (number size levels budget : ℕ) → place ≡ Dir number size → 64 * length lot.groups ≤ budget
      → PlaceReached form lot m place
      → (e : OpFault) → IsBrokenBy form lot m e ⊎ ((e ≡ Damaged InodeTwice) × (budget < count_within_place form m levels place)) → IsBrokenBy form lot m e
  height-broken place number size levels budget at all reached e (inl b) = b
  height-broken place number size levels budget at all reached e (inr x) =
      let many = subst (λ (p : Place). budget < count_within_place form m levels p) at x.1 in
      subst (IsBrokenBy form lot m) (sym x.0)
      (inr (inr (record { number = number; levels = levels; reached = subst (PlaceReached form lot m) at reached; many = omega (arith, all, many) })))

  -- two directories that have too many entries
  pub overfull-of : (name : List ℕ) (step : Move) → MoveIs form lot m name step
      → (step.from.number ≢ step.to.number) × (64 * length lot.groups ≤ step.from.entries + step.to.entries) → Overfull form lot m
  overfull-of name step is many = record {
    one = step.from.number;
    other = step.to.number;
    apart = many.0;
    reached = is.from_is.reached;
    reached_too = is.to_is.reached;
    dir = is.from_is.dir;
    dir_too = is.to_is.dir;
    many = omega (arith, many.1, is.from_is.entries, is.to_is.entries);
  }

  -- the blocks that a rename needs are free
  pub row-fits : (f : Form) → f ≡ form_one → form ≡ form_one → (step : Move) (need : Need) → step.from.entries < 4096
      → step.to.entries < 4096 → (step.from.number ≢ step.to.number → step.from.entries + step.to.entries < 64 * length lot.groups)
      → (step.same ≡ false → step.from.number ≢ step.to.number
      → (need.blocks ≡ map_cost (tree.dir_blocks f (step.to.entries + 1)) + map_cost (tree.dir_blocks f (step.from.entries - 1)))
      × (need.freed ≡ map_cost (tree.dir_blocks f step.to.entries) + map_cost (tree.dir_blocks f step.from.entries)))
      → HasFree lot m need → RowFits form lot m step
  row-fits f one e64 step need from to few costs free = record {
    room = few;
    blocks = λ differ apart.
        let c = costs differ apart in
        let more = dir-cost f one form e64 (step.to.entries + 1) (omega arith) in
        let less = dir-cost f one form e64 (step.from.entries - 1) (omega arith) in
        let had = dir-cost f one form e64 step.to.entries (omega arith) in
        let held = dir-cost f one form e64 step.from.entries (omega arith) in
        omega (arith, free.blocks, c.0, c.1, more, less, had, held);
    done = free.done;
  }
