-- Empty parts stand for the state of an opening.
use Rattle.ckpt_core.proofs.{refl, sym, ap, subst, ◌∙◌, arith, Stored, IsSound, opened_is_sound, Names.state_of}
use Rattle.ckpt_core.proofs.parts.Parts.new.Goals as goal

pub returns-clause-state : goal.returns-clause-state
unfolding state_of
returns-clause-state c =
    let base : Stored → _ = λ s. s.base in
    let checkpoints : Stored → _ = λ s. s.checkpoints in
    let savepoints : Stored → _ = λ s. s.savepoints in
    rw (c.new.ensures, c.new-2.ensures, ap base c.new-3.ensures, ap checkpoints c.new-3.ensures, ap savepoints c.new-3.ensures, c.new-4.ensures, c.keyed-2.ensures) refl

pub returns-clause-sound : goal.returns-clause-sound
returns-clause-sound c =
    let base : Stored → _ = λ s. s.base in
    let checkpoints : Stored → _ = λ s. s.checkpoints in
    let savepoints : Stored → _ = λ s. s.savepoints in
    let retained : Stored → _ = λ s. s.retained in
    record {
      tied = record {
        uses_are = rw (ap checkpoints c.new-3.ensures, ap savepoints c.new-3.ensures, c.new-4.ensures, c.keyed.ensures) refl;
        retained = ap retained c.new-3.ensures ∙ c.retained.ensures.value;
        tolerable = rw (c.new-2.ensures) c.tolerable.ensures.value;
        spare = rw (c.keyed.ensures) (omega arith);
        room = rw (ap checkpoints c.new-3.ensures, ap savepoints c.new-3.ensures, c.new-4.ensures) (omega arith);
      };
      sound = subst IsSound (sym (returns-clause-state c)) (opened_is_sound _ c.tolerable.ensures.limits c.recall.ensures c.requires.start c.requires.from c.requires.to);
      none_ended = c.new-5.ensures.items;
    }
