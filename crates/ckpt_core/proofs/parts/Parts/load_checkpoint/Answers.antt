-- Answers the goals of `Parts::load_checkpoint`.
use Rattle.ckpt_core.proofs.{older_registered, tied-loaded}
use Rattle.ckpt_core.proofs.{◌++◌, map, refl, OnOk, on_ok_weaker, with_pins, IsIn-append_left, IsIn-append_right, HasLoaded, above_groups, checkpoint_loaded, few_registered, has_loaded, none_pinned}
use Rattle.ckpt_core.proofs.parts.Parts.load_checkpoint.Goals as goal

pub register-requires-clause-newest : goal.register-requires-clause-newest
register-requires-clause-newest c = older_registered c.args.self.now _ _ _ c.in_ok-make_room.ensures.parts c.requires.tied c.requires.newest c.id.ensures.value

pub register-requires-clause-below : goal.register-requires-clause-below
register-requires-clause-below c =
    few_registered c.args.self.now _ c.args.done _ _ _ c.in_ok-make_room.ensures.parts c.requires.tied c.id.ensures.value c.requires.acks
    (none_pinned c.args.done _ _ c.of-none.ensures c.new.ensures.items c.id.ensures.done.no_pins) c.requires.below

pub complete-requires-clause-above : goal.complete-requires-clause-above
complete-requires-clause-above c = λ r h.
    above_groups c.args.self.now c.args.done.id c.requires.newest r
    (IsIn-append_right r (map (with_pins c.args.self.now.registry) c.args.self.now.pending) (c.args.self.now.store.checkpoints ++ c.args.self.now.store.savepoints)
    (IsIn-append_left r c.args.self.now.store.checkpoints c.args.self.now.store.savepoints (rw (c.in_ok-reserve_metered.ensures.kept, c.in_ok-make_room.ensures.parts) at h)))

more : (c : goal.After-drop-none-2) → OnOk c.make_room_for_files.result (HasLoaded c.args.self.now c.make_room_for_files.new.self c.args.done)
more c =
    on_ok_weaker c.make_room_for_files.result (has_loaded c.args.self.now _ c.make_room_for_files.new.self c.args.done c.make_room.new.self.pending c.complete.new.self _ _ _ _
    c.in_ok-make_room.ensures.parts c.in_ok-make_room.ensures.room c.id.ensures.value c.requires.acks (none_pinned c.args.done _ _ c.of-none.ensures c.new.ensures.items c.id.ensures.done.no_pins)
    c.in_ok-register.ensures.ok (rw (c.complete.ensures.value, c.in_ok-reserve_metered.ensures.kept, c.in_ok-make_room.ensures.parts) refl) (checkpoint_loaded c.args.self.now _ _ _ c.args.done
    c.in_ok-make_room.ensures.parts c.in_ok-reserve_metered.ensures.kept c.complete.ensures.value c.requires.fewer c.requires.newest)) c.make_room_for_files.ensures.ok

pub returns-clause-records : goal.returns-clause-records
returns-clause-records c = on_ok_weaker c.make_room_for_files.result (λ (m : HasLoaded c.args.self.now c.make_room_for_files.new.self c.args.done). m.records) (more c)

pub returns-clause-tied : goal.returns-clause-tied
returns-clause-tied c = on_ok_weaker c.make_room_for_files.result (tied-loaded c.requires.tied) (more c)
