-- Answers the goals of `target`.
use Rattle.ckpt_lines.proofs.{target_place, target_of, Gives-place}
use Rattle.ckpt_lines.proofs.places.target.Goals as goal

pub returns : goal.returns
unfolding target_place
returns c =
    Gives-place target_of c.args.words.now c.in_ok-word.word.now c.next.new.self c.target_of.result (rw c.in_ok-word.ensures.ok_part at c.next.ensures.steps) c.target_of.ensures
