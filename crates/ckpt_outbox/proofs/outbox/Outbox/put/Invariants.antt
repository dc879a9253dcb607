-- The loop invariants of `Outbox::put`.
use Rattle.ckpt_outbox.proofs.{◌≡◌, ◌-◌, ◌++◌, take}
use Rattle.ckpt_outbox.proofs.outbox.Outbox.put.Given as goal

abbrev pub invariant-loop-file : goal.invariant-loop-file
invariant-loop-file l = l.self ≡ record l.initial.self { waiting = l.initial.self.waiting ++ take l.file-index l.files; spare = l.initial.self.spare - l.file-index }
