-- The base is set first: it is a savepoint that is there, so the state stays sound, and the drop leaves it.
use Rattle.ckpt_core.proofs.{◌||◌, is_pending, is_done_checkpoint, groups_of, based_sound, based_state, based_count, done_savepoint-groups, Names.state_of}
use Rattle.ckpt_core.proofs.parts.Parts.drop_down_to.Goals as goal

pub set_base-requires : goal.set_base-requires
unfolding state_of
set_base-requires c =
    let p = c.args.self.now in
    rw (← done_savepoint-groups c.args.id p.registry p.pending p.store.checkpoints p.store.savepoints (groups_of p c.recall_groups.ensures.pending c.recall_groups.ensures.stored), c.requires.there)

pub drop_all_but_savepoints-requires : goal.drop_all_but_savepoints-requires
drop_all_but_savepoints-requires c = based_sound c.args.self.now c.args.id c.set_base.new.self c.requires.sound c.requires.there c.set_base.ensures

pub returns-clause-state : goal.returns-clause-state
returns-clause-state c =
    based_state c.args.self.now c.drop_all_but_savepoints.new.self c.args.id c.set_base.new.self (λ r. is_pending r || is_done_checkpoint r) c.set_base.ensures
    c.drop_all_but_savepoints.ensures.state_is

pub returns-clause-count : goal.returns-clause-count
returns-clause-count c =
    based_count c.args.self.now c.args.id c.drop_all_but_savepoints.result c.set_base.new.self (λ r. is_pending r || is_done_checkpoint r) c.set_base.ensures c.drop_all_but_savepoints.ensures.count_is
