-- Answers the goals of `Outbox::put`.
use Rattle.ckpt_outbox.proofs.{◌≡◌, ◌+◌, ℕ, List, [], ◌∷◌, ◌++◌, false, take, take_more, is_in, AreDistinct-take, last_is_new, arith, common_steps}
use Rattle.ckpt_outbox.proofs.outbox.Outbox.put.Goals as goal

pub put_one-requires-clause-unknown : goal.put_one-requires-clause-unknown
put_one-requires-clause-unknown c =
    let files : List ℕ = c.args.files.now in
    let i : ℕ = c.loop-file.file-index in
    let file : ℕ = c.file-item.result in
    let more : take (i + 1) files ≡ take i files ++ file ∷ [] = grind (arith, common_steps, take_more files i file) in
    let new : is_in file (take i files) ≡ false = last_is_new file (take i files) (rw more at (AreDistinct-take (i + 1) files c.requires.distinct)) in
    grind (arith, common_steps, new, c.requires.unknown file)
