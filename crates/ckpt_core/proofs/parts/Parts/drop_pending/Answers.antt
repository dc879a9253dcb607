-- The record of the number is taken out, and no done record has its number.
use Rattle.ckpt_core.proofs.{◌++◌, ◌∷◌, [], ap, ◌∙◌, arith, none_known, room_to_note, one_pending, one_dropped, some_there}
use Rattle.ckpt_core.proofs.parts.Parts.drop_pending.Goals as goal

pub push_reserved-requires : goal.push_reserved-requires
push_reserved-requires c =
    omega (arith, room_to_note c.args.self.now 1 c.requires.sound (omega (arith, one_pending c.args.self.now c.args.id (some_there _ _ (c.take_out.ensures.found c.args.id c.requires.place)))))

pub hand_out-requires-clause-unknown : goal.hand_out-requires-clause-unknown
hand_out-requires-clause-unknown c = none_known c.args.self.now c.requires.sound.tied c.requires.sound.sound

pub returns : goal.returns
returns c =
    let ended = c.push_reserved.new.self in
    one_dropped c.args.self.now (record c.args.self.now { pending = c.take_out.new.self; ended = ended }) c.hand_out.new.self c.args.id c.hand_out.result c.requires.sound.tied c.requires.sound.sound
    (some_there _ _ (c.take_out.ensures.found c.args.id c.requires.place)) (ap (λ rs. record c.args.self.now { pending = rs; ended = ended }) (c.take_out.ensures.rest c.args.id c.requires.place))
    (c.push_reserved.ensures.items ∙ ap (λ ids. ids ++ c.args.id ∷ []) c.requires.sound.none_ended) c.hand_out.ensures.parts c.hand_out.ensures.cleared
    (c.hand_out.ensures.capacity ∙ c.push_reserved.ensures.capacity) c.hand_out.ensures.count
