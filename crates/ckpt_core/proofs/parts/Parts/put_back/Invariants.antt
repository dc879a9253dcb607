-- The loop invariants of `Parts::put_back`.
use Rattle.ckpt_core.proofs.{◌≡◌, ℕ, false, take, IsIn, is_present, with_more_waiting}
use Rattle.ckpt_core.proofs.parts.Parts.put_back.Given as goal

abbrev pub invariant-loop-file : goal.invariant-loop-file
invariant-loop-file l = record {
  parts : l.self ≡ with_more_waiting l.fn.self (take l.file-index l.files);
  unused : (f : ℕ) → IsIn f (take l.file-index l.files) → is_present l.fn.self.registry f ≡ false;
}
