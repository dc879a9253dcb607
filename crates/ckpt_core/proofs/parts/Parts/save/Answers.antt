-- Answers the goals of `Parts::save`.
use Rattle.ckpt_core.proofs.{◌∙◌, sym, state_of, record_of, looked_up, saved_record, live_in_order}
use Rattle.ckpt_core.proofs.parts.Parts.save.Goals as goal

pub metadata-requires : goal.metadata-requires
metadata-requires c = live_in_order c.args.self.now c.requires.sound

pub returns-clause-saved : goal.returns-clause-saved
returns-clause-saved c =
    λ r e done. let k = looked_up c.args.self.now r c.args.id e in saved_record r c.unwrap-metadata.result (record_of (state_of c.args.self.now) c.args.id) c.in_ok-pins.pins e
    (sym c.in_ok-metadata.ensures.value ∙ c.unwrap-metadata.ensures) (c.in_ok-pins.ensures.pins r k.0 k.1 (sym done))
