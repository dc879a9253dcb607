-- The loop invariants of `NumberHasher::mix_each`.
use Rattle.std.proofs.Common.{◌≡◌, take}
use Rattle.std.specs.List.{fold}
use Rattle.ckpt_hash.specs.Hashing.{mixed}
use Rattle.ckpt_hash.proofs.hasher.NumberHasher.mix_each.Given as goal

abbrev pub invariant-loop-byte : goal.invariant-loop-byte
invariant-loop-byte l = l.self ≡ fold mixed l.initial.self (take l.byte-index l.bytes)
