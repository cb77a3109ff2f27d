-- What the images of each phase stand for, and what each phase rests on.
use Rattle.std.proofs.Common.{◌≡◌, inl, inr, ◌≤◌, ◌<◌, ◌+◌, ◌==◌, ℕ, zero, suc, true, false, cond, List, [], ◌∷◌, length, Option, refl, sym, ◌∙◌, ap, subst, arith}
use Rattle.std.specs.Prelude.{if◌then◌else◌}
use Rattle.std.proofs.lemmas.Bool.{cases_Bool}
use Rattle.ice_base.specs.Disk.{Image, block}
use Rattle.ice_base.specs.Frames.{RestsOn}
use Rattle.ice_layout.specs.Headers.{is_open}
use Rattle.ice_tables.specs.Journals.{Places, replayed}
use Rattle.ice_txn.specs.declared.set.Entry.{Entry}
use Rattle.ice_txn.specs.Sets.{address, addresses, contents, holds, over, Differ}
use Rattle.ice_txn.proofs.SetLaws.{over_free, held_entry, over_here}
use Rattle.ice_journal.specs.Blocks.{IsBody, IsPut, JournalExtent, AreHomes, AreApart}
use Rattle.ice_journal.specs.Phases.{HoldBlocks, HoldsSet, HomesAre, Idle, Full, Open, RestsIdle, RestsFull, RestsOpen, StandsFor, BeforeOrAfter}

-- Bodies in place of their targets show the map with the entries in place, where the other homes show the map.
pub replayed_is : (place : ℕ → ℕ) (entries : List Entry) (body : ℕ) (image : Image) (map : ℕ → List ℕ) (a : ℕ) → HoldBlocks body entries image
    → (holds entries a ≡ false → block image (place a) ≡ map a) → replayed place (addresses entries) body image a ≡ over entries map a
unfolding contents holds over
replayed_is place [] body image map a bodies homes = homes refl
replayed_is place (e ∷ entries) body image map a bodies homes =
    let first : block image body ≡ e.block = ap (block image) (omega arith) ∙ bodies zero (omega arith) in
    elim (e.at == a) as (λ b. (e.at == a) ≡ b
    → (if b then block image body else replayed place (addresses entries) (body + 1) image a) ≡ cond b e.block (over entries map a)) [
      | true ↦ λ is. first
      | false ↦ λ is. replayed_is place entries (body + 1) image map a
          (λ j less. ap (block image) (omega arith) ∙ bodies (suc j) (omega (arith, less)))
          (λ free. homes (let f : holds entries a ≡ false = free in let t : (e.at == a) ≡ false = is in grind arith))
    ] refl

module _ (reads : List ℕ → Option (List ℕ)) (at : Places) (entries : List Entry) where
  open_part : (map : ℕ → List ℕ) (image : Image) → is_open (block image at.gate) ≡ true → HoldsSet reads at entries image
      → ((a : ℕ) → at.home a ≡ true → holds entries a ≡ false → block image (at.place a) ≡ map a) → StandsFor reads at (over entries map) image
  open_part map image gate set homes =
      let each : (a : ℕ) → at.home a ≡ true → replayed at.place
      (addresses entries) at.body image a ≡ over entries map a = λ a is. replayed_is at.place entries at.body image map a set.bodies
      (λ free. homes a is free) in
      rw (gate, set.header) each

  closed_part : (map : ℕ → List ℕ) (image : Image) → is_open (block image at.gate) ≡ false → HomesAre at map image → StandsFor reads at map image
  closed_part map image gate homes = rw gate homes

  -- A journal at rest stands for its map,
  pub idle_stands : (map : ℕ → List ℕ) (image : Image) → Idle at map image → StandsFor reads at map image
  idle_stands map image idle = closed_part map image idle.gate idle.homes

  -- an open one for the map with the entries in place,
  pub open_stands : (map : ℕ → List ℕ) (image : Image) → Open reads at entries map image → StandsFor reads at (over entries map) image
  open_stands map image is = open_part map image is.gate is.set is.homes

  -- one whose gate is being opened for either,
  pub full_stands : (map : ℕ → List ℕ) (image : Image) → Full reads at entries map image → BeforeOrAfter reads at entries map image
  full_stands map image full = elim (cases_Bool (is_open (block image at.gate))) [
    | inl on ↦ inr (open_part map image on full.set (λ a is free. full.homes a is))
    | inr off ↦ inl (closed_part map image off full.homes)
  ]

  -- and one whose gate is being closed for the map with the entries in place.
  pub close_stands : (map : ℕ → List ℕ) (image : Image) → Full reads at entries (over entries map) image → StandsFor reads at (over entries map) image
  close_stands map image full = elim (cases_Bool (is_open (block image at.gate))) [
    | inl on ↦ open_part map image on full.set (λ a is free. full.homes a is ∙ over_free entries map a free)
    | inr off ↦ closed_part (over entries map) image off full.homes
  ]

  -- What each phase rests on.
  pub idle_rests : (map : ℕ → List ℕ) → RestsOn (RestsIdle at) (Idle at map)
  idle_rests map i j same idle = record {
    gate = ap is_open (same at.gate (inl refl)) ∙ idle.gate;
    homes = λ a is. same (at.place a) (inr (a, is, refl)) ∙ idle.homes a is;
  }

  set_rests : (i j : Image) → ((k : ℕ) → IsBody at (length entries) k → block j k ≡ block i k) → HoldsSet reads at entries i → HoldsSet reads at entries j
  set_rests i j same set = record {
    header = ap reads (same at.header (inl refl)) ∙ set.header;
    bodies = λ k less. same (at.body + k) (inr (omega arith, omega (arith, less))) ∙ set.bodies k less;
  }

  -- that the set is written and the homes are the map's rests on the blocks of the set and the homes
  pub full_rests : (map : ℕ → List ℕ) → RestsOn (RestsFull at entries) (Full reads at entries map)
  full_rests map i j same full = record {
    set = set_rests i j (λ k is. same k (inl is)) full.set;
    homes = λ a is. same (at.place a) (inr (a, is, refl)) ∙ full.homes a is;
  }

  -- that the gate is open, the set written and the other homes the map's rests on gate, set and those homes
  pub open_rests : (map : ℕ → List ℕ) → RestsOn (RestsOpen at entries) (Open reads at entries map)
  open_rests map i j same is = record {
    gate = ap is_open (same at.gate (inl refl)) ∙ is.gate;
    set = set_rests i j (λ k body. same k (inr (inl body))) is.set;
    homes = λ a h free. same (at.place a) (inr (inr (a, h, free, refl))) ∙ is.homes a h free;
  }

  module _ (most : ℕ) (few : length entries ≤ most) (apart : AreApart at most) where
    -- The blocks that a phase rests on are none of those that its step changes.
    pub idle_outside : (k : ℕ) → RestsIdle at k → ¬ IsBody at (length entries) k
    idle_outside k (inl gate) (inl header) = apart.gate_header (sym gate ∙ header)
    idle_outside k (inl gate) (inr body) = apart.gate_body (omega (arith, gate, body.0), omega (arith, gate, body.1, few))
    idle_outside k (inr is) (inl header) = apart.home_header is.0 is.1 (sym is.2 ∙ header)
    idle_outside k (inr is) (inr body) = apart.home_body is.0 is.1 (omega (arith, is.2, body.0), omega (arith, is.2, body.1, few))

    pub full_outside : (k : ℕ) → RestsFull at entries k → ¬ (k ≡ at.gate)
    full_outside k (inl (inl header)) gate = apart.gate_header (sym gate ∙ header)
    full_outside k (inl (inr body)) gate = apart.gate_body (omega (arith, gate, body.0), omega (arith, gate, body.1, few))
    full_outside k (inr is) gate = apart.home_gate is.0 is.1 (sym is.2 ∙ gate)

    pub open_outside : AreHomes at entries → (k : ℕ) → RestsOpen at entries k → ¬ IsPut at entries k
    open_outside homes k (inl gate) put = apart.home_gate put.0 (homes put.0 put.1) (sym put.2 ∙ gate)
    open_outside homes k (inr (inl (inl header))) put = apart.home_header put.0 (homes put.0 put.1) (sym put.2 ∙ header)
    open_outside homes k (inr (inl (inr body))) put =
        apart.home_body put.0 (homes put.0 put.1) (omega (arith, put.2, body.0), omega (arith, put.2, body.1, few))
    open_outside homes k (inr (inr other)) put =
        let same : other.0 ≡ put.0 = apart.home_home other.0 put.0 other.1 (homes put.0 put.1) (sym other.3 ∙ put.2) in
        absurd (let f : holds entries put.0 ≡ false = subst (λ (x : ℕ). holds entries x ≡ false) same other.2 in
        let t : holds entries put.0 ≡ true = put.1 in cc)

    -- They are blocks of the journal, as are those that a commit changes.
    pub idle_inside : (k : ℕ) → RestsIdle at k → JournalExtent at most k
    idle_inside k (inl gate) = inl gate
    idle_inside k (inr is) = inr (inr is)

    pub body_inside : (k : ℕ) → IsBody at (length entries) k → JournalExtent at most k
    body_inside k (inl header) = inr (inl (inl header))
    body_inside k (inr body) = inr (inl (inr (body.0, omega (arith, body.1, few))))

    pub full_inside : (k : ℕ) → RestsFull at entries k → JournalExtent at most k
    full_inside k (inl body) = body_inside k body
    full_inside k (inr is) = inr (inr is)

    pub open_inside : (k : ℕ) → RestsOpen at entries k → JournalExtent at most k
    open_inside k (inl gate) = inl gate
    open_inside k (inr (inl body)) = body_inside k body
    open_inside k (inr (inr other)) = inr (inr (other.0, other.1, other.3))

-- After the homes of the entries are written, all homes show the map with the entries in place.
pub homes_moved : (at : Places) (most : ℕ) (entries : List Entry) (map : ℕ → List ℕ) (old new : Image) → AreApart at most → AreHomes at entries → Differ entries
    → ((a : ℕ) → at.home a ≡ true → holds entries a ≡ false → block old (at.place a) ≡ map a) → ((k : ℕ) → ¬ IsPut at entries k → block new k ≡ block old k)
    → ((j : ℕ) → j < length entries → block new (at.place (address entries j)) ≡ contents entries j) → HomesAre at (over entries map) new
homes_moved at most entries map old new apart inside differ homes same bytes a is = elim (cases_Bool (holds entries a)) [
  | inl held ↦
      let found = held_entry entries a held in
      subst (λ (x : ℕ). block new (at.place x) ≡ over entries map x) found.2 (bytes found.0 found.1 ∙ sym (over_here entries map found.0 differ found.1))
  | inr free ↦
      same (at.place a)
      (λ put. absurd
      (let f : holds entries a ≡ false = free in let t : holds entries a ≡ true = subst (λ (x : ℕ). holds entries x ≡ true)
      (sym (apart.home_home a put.0 is (inside put.0 put.1) put.2)) put.1 in cc))
      ∙ homes a is free ∙ sym (over_free entries map a free)
]
