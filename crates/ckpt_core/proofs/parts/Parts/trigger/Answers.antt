-- Answers the goals of `Parts::trigger`.
use Rattle.ckpt_core.proofs.{◌∙◌, sym, ap, subst, arith, on_ok_weaker, on_err_weaker, on_each_error, IsSound, triggered, live_records}
use Rattle.ckpt_core.proofs.parts.Parts.trigger.Goals as goal

pub make_room-requires : goal.make_room-requires
make_room-requires c = let few = live_records c.args.self.now c.requires.sound in omega arith

pub returns-in_err-make_room-clause-err : goal.returns-in_err-make_room-clause-err
returns-in_err-make_room-clause-err c = on_each_error c.from_residual-in_err-make_room.result _ c.make_room.ensures.state

pub add-requires-clause-sound : goal.add-requires-clause-sound
add-requires-clause-sound c = subst IsSound (sym c.make_room.ensures.state) c.requires.sound

pub returns-clause-ok : goal.returns-clause-ok
returns-clause-ok c = on_ok_weaker c.add.result (λ h. h ∙ ap (λ m. triggered m c.args.kind) c.make_room.ensures.state) c.add.ensures.ok

pub returns-clause-err : goal.returns-clause-err
returns-clause-err c = on_err_weaker c.add.result (λ h. h ∙ c.make_room.ensures.state) c.add.ensures.err
