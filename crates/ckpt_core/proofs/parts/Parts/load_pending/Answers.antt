-- Answers the goals of `Parts::load_pending`.
use Rattle.ckpt_core.proofs.{ℕ, ◌++◌, List, map, refl, ap, OnOk, on_ok_weaker, Record, IsIn-append_left, IsIn-map, Parts, with_pins, HasLoaded, above_groups, few_registered, has_loaded}
use Rattle.ckpt_core.proofs.{older_registered, pending_loaded, tied-loaded}
use Rattle.ckpt_core.proofs.parts.Parts.load_pending.Goals as goal

pub register-requires-clause-newest : goal.register-requires-clause-newest
register-requires-clause-newest c = older_registered c.args.self.now _ _ _ c.in_ok-make_room.ensures.parts c.requires.tied c.requires.newest c.id.ensures.value

pub register-requires-clause-below : goal.register-requires-clause-below
register-requires-clause-below c =
    let pins : List ℕ = c.args.pins.now in
    few_registered c.args.self.now _ (record c.args.pending { pins = pins }) _ _ _ c.in_ok-make_room.ensures.parts c.requires.tied c.id.ensures.value c.requires.acks refl c.requires.below

pub add-requires : goal.add-requires
add-requires c = record {
  newest = λ r h.
      let p : Parts = c.args.self.now in
      let it : Record = with_pins p.registry r in
      above_groups p c.args.pending.id c.requires.newest it
      (IsIn-append_left it (map (with_pins p.registry) p.pending) (p.store.checkpoints ++ p.store.savepoints) (IsIn-map (with_pins p.registry) r p.pending (rw c.in_ok-make_room.ensures.parts at h)));
}

more : (c : goal.After-make_room_for_files) → OnOk c.make_room_for_files.result (HasLoaded c.args.self.now c.make_room_for_files.new.self (record c.args.pending { pins = c.args.pins.now }))
more c =
    let made : Parts = c.make_room.new.self in
    let parts = c.in_ok-make_room.ensures.parts in
    on_ok_weaker c.make_room_for_files.result (has_loaded c.args.self.now _ c.make_room_for_files.new.self (record c.args.pending { pins = c.args.pins.now }) c.add.new.self made.store _ _ _ _ parts
    c.in_ok-make_room.ensures.room c.id.ensures.value c.requires.acks refl c.in_ok-register.ensures.ok (ap (λ (q : Parts). q.store.retained) parts)
    (pending_loaded c.args.self.now _ c.args.pending _ c.args.pins.now parts c.requires.tied c.requires.newest c.in_ok-add.ensures.ok)) c.make_room_for_files.ensures.ok

pub returns-clause-records : goal.returns-clause-records
returns-clause-records c =
    on_ok_weaker c.make_room_for_files.result (λ (m : HasLoaded c.args.self.now c.make_room_for_files.new.self (record c.args.pending { pins = c.args.pins.now })). m.records) (more c)

pub returns-clause-tied : goal.returns-clause-tied
returns-clause-tied c = on_ok_weaker c.make_room_for_files.result (tied-loaded c.requires.tied) (more c)
