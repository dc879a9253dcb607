-- Answers the goals of `NumberHasher::mix_each`.
use Rattle.std.proofs.Common.{rules, take_all}
use Rattle.std.proofs.hash.Loops.{byte_more}
use Rattle.ckpt_hash.proofs.hasher.NumberHasher.mix_each.Goals as goal

pub loop-byte-preserved : goal.loop-byte-preserved
loop-byte-preserved c = search (rules, byte_more)

pub returns : goal.returns
returns c = search (rules, take_all)
